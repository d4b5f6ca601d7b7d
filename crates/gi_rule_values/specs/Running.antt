-- A rule on values as equations on numbers: its operations are run, its definitions and its root are what they give.
-- An operation that gives exact results computes on; of one that leaves bits free, whatever it may give is looked at.
use Rattle.std.specs.Prelude.{◌≡◌, ℕ, ◌+◌, ◌-◌, ◌*◌, ◌%◌, ◌^◌, ◌<◌, cond, nat_lt, List, [], ◌∷◌, Option, Some, None, map, slice_get}
use Rattle.std.specs.Option.{option_and_then}
use Rattle.gi_meaning.specs.Act.{all_fitted, copy}
use Rattle.gi_meaning.specs.Argument.{Argument, Value}
use Rattle.gi_meaning.specs.Given.{Given, Exactly, LowBits, Undefined}
use Rattle.gi_meaning.specs.Meaning.{Meaning, Copying, Generic, Machine, meaning_of}
use Rattle.gi_llt.specs.Llt.{width_of}
use Rattle.gi_llt.specs.declared.Llt.{Llt}
use Rattle.gi_meaning.specs.State.{IsWorld, World}
use Rattle.gi_refine.specs.Values.{Environment, Fact, Defines, ForAllOf, Operation, appended, arguments_at}
use Rattle.gi_rule_values.specs.Data.{RewriteData}
use Rattle.gi_rule_values.specs.OnValues.{fact_of, operation_on_values}

-- ══ Running ══

-- a world in which nothing is
abbrev no_world : World
no_world = record { words = λ n. 0; memory = λ address. None; global = λ name. 0; stack = λ object. 0; trace = [] }

-- what is given, with this number in the free bits
abbrev pub filled : (fill : ℕ) → Given → Option (List ℕ)
filled fill Undefined = None
filled fill (Exactly results) = Some results
filled fill (LowBits known width value) = Some ((value % 2 ^ known + 2 ^ known * fill) % 2 ^ width ∷ [])

-- a register of fewer bits than a word, read as a word
abbrev pub word_of : (x fill : ℕ) → Argument → Argument
word_of x fill (Value width value) = cond (nat_lt width x) (Value x ((value % 2 ^ width + 2 ^ width * fill) % 2 ^ x)) (Value width value)
word_of x fill other = other

abbrev pub results_given : (x fill : ℕ) → Meaning → (widths : List ℕ) → List Argument → Option (List ℕ)
results_given x fill Copying widths arguments = filled fill (copy widths arguments)
results_given x fill (Generic gives) widths arguments = filled fill (gives widths arguments)
results_given x fill (Machine gives) widths arguments =
    option_and_then (λ words. Some (all_fitted x widths words)) (filled fill (gives x (map (word_of x fill) arguments)))
results_given x fill _ widths arguments = None

abbrev pub step : (x fill : ℕ) → Operation → Environment → Option Environment
step x fill o env =
    option_and_then (appended env o.widths) (option_and_then (results_given x fill (meaning_of o.flags o.op) o.widths) (arguments_at env o.slots))

-- the environment behind a list of operations, with this number in all free bits; none where one of them is undefined
abbrev pub run : (x fill : ℕ) → List Operation → Environment → Option Environment
run x fill [] env = Some env
run x fill (o ∷ os) env = option_and_then (run x fill os) (step x fill o env)

-- what stands at these places
abbrev pub found_at : Option (ℕ × ℕ) → Option (List ℕ) → Option (List ℕ)
found_at (Some entry) (Some values) = Some (entry.1 ∷ values)
found_at _ _ = None

abbrev pub values_at : Environment → List ℕ → Option (List ℕ)
values_at env [] = Some []
values_at env (place ∷ places) = found_at (slice_get env place) (values_at env places)

abbrev pub with_values : List Llt → (x : ℕ) → (values : List ℕ) → Environment
with_values (type ∷ types) x (value ∷ values) = (width_of x type, value) ∷ with_values types x values
with_values _ x _ = []

-- what a rewrite makes of these values of its inputs, with all free bits set; a world and names play no part
abbrev pub ran : (x : ℕ) → RewriteData → (inputs : List ℕ) → Option (List ℕ)
ran x rewrite inputs =
    option_and_then (λ env. values_at env rewrite.results)
    (run x (2 ^ 128 - 1) (map (operation_on_values x [] no_world) rewrite.made) (with_values rewrite.inputs x inputs))

-- ══ Whatever is made ══

-- the claim of all results that are given, or the other where nothing is promised
abbrev pub ForGiven : Given → (List ℕ → Type 0) → Type 0 → Type 0
ForGiven Undefined claim none = none
ForGiven (Exactly results) claim none = claim results
ForGiven (LowBits known width value) claim none = (v : ℕ) → v < 2 ^ width → v % 2 ^ known ≡ value % 2 ^ known → claim (v ∷ [])

-- the claim of each word that a register stands for
abbrev pub ForWord : (x : ℕ) → Argument → (Argument → Type 0) → Type 0
ForWord x (Value width value) claim =
    cond (nat_lt width x) ((word : ℕ) → word < 2 ^ x → word % 2 ^ width ≡ value % 2 ^ width → claim (Value x word)) (claim (Value width value))
ForWord x other claim = claim other

abbrev pub ForWords : (x : ℕ) → List Argument → (List Argument → Type 0) → Type 0
ForWords x [] claim = claim []
ForWords x (argument ∷ arguments) claim = ForWord x argument (λ word. ForWords x arguments (λ words. claim (word ∷ words)))

abbrev pub ForResults : (x : ℕ) → Meaning → (widths : List ℕ) → List Argument → (List ℕ → Type 0) → Type 0 → Type 0
ForResults x Copying widths arguments claim none = ForGiven (copy widths arguments) claim none
ForResults x (Generic gives) widths arguments claim none = ForGiven (gives widths arguments) claim none
ForResults x (Machine gives) widths arguments claim none =
    ForWords x arguments (λ words. ForGiven (gives x words) (λ results. claim (all_fitted x widths results)) none)
ForResults x _ widths arguments claim none = ⊥

abbrev pub ForArguments : (x : ℕ) → Operation → Option (List Argument) → (List ℕ → Type 0) → Type 0 → Type 0
ForArguments x o None claim none = none
ForArguments x o (Some arguments) claim none = ForResults x (meaning_of o.flags o.op) o.widths arguments claim none

-- the rest of a run, or the claim of none
abbrev pub ForRest : Option Environment → (rest : Environment → Type 0) → Type 0 → Type 0
ForRest None rest none = none
ForRest (Some env) rest none = rest env

-- the claim of whatever a list of operations may make, which is none where one of them is undefined
abbrev pub ForAllRuns : (x : ℕ) → List Operation → Environment → (Option Environment → Type 0) → Type 0
ForAllRuns x [] env claim = claim (Some env)
ForAllRuns x (o ∷ os) env claim =
    ForArguments x o (arguments_at env o.slots) (λ results. ForRest (appended env o.widths results) (λ later. ForAllRuns x os later claim) (claim None)) (claim None)

-- ══ What is known ══

abbrev pub IfEqual : (results values : List ℕ) → Type 0 → Type 0
IfEqual [] [] goal = goal
IfEqual (r ∷ rs) (v ∷ vs) goal = v ≡ r → IfEqual rs vs goal
IfEqual _ _ goal = Unit {0}

-- the goal, where these values are given
abbrev pub IfGiven : Given → (values : List ℕ) → Type 0 → Type 0
IfGiven Undefined values goal = Unit {0}
IfGiven (Exactly results) values goal = IfEqual results values goal
IfGiven (LowBits known width value) (v ∷ []) goal = v < 2 ^ width → v % 2 ^ known ≡ value % 2 ^ known → goal
IfGiven (LowBits known width value) _ goal = Unit {0}

-- the goal, where the operation may give these values
abbrev pub IfMeant : Meaning → (widths : List ℕ) → List Argument → (values : List ℕ) → Type 0 → Type 0
IfMeant Copying widths arguments values goal = IfGiven (copy widths arguments) values goal
IfMeant (Generic gives) widths arguments values goal = IfGiven (gives widths arguments) values goal
IfMeant _ widths arguments values goal = goal

abbrev pub IfDefined : Operation → Option (List Argument) → Option (List ℕ) → Type 0 → Type 0
IfDefined o (Some arguments) (Some values) goal = IfMeant (meaning_of o.flags o.op) o.widths arguments values goal
IfDefined o _ _ goal = Unit {0}

-- the goal, where the facts hold
abbrev pub IfKnown : Environment → List Fact → Type 0 → Type 0
IfKnown env [] goal = goal
IfKnown env (Defines o places ∷ facts) goal = IfDefined o (arguments_at env o.slots) (values_at env places) (IfKnown env facts goal)
IfKnown env (_ ∷ facts) goal = IfKnown env facts goal

-- ══ What the root may give ══

abbrev pub AreEqual : (results values : List ℕ) → Type 0
AreEqual [] [] = Unit {0}
AreEqual (r ∷ []) (v ∷ []) = r ≡ v
AreEqual (r ∷ rs) (v ∷ vs) = (r ≡ v) × AreEqual rs vs
AreEqual _ _ = ⊥

-- these values are among what is given, or nothing is promised
abbrev pub MayGive : Given → (values : List ℕ) → Type 0
MayGive Undefined values = Unit {0}
MayGive (Exactly results) values = AreEqual results values
MayGive (LowBits known width value) (v ∷ []) = (v < 2 ^ width) × (v % 2 ^ known ≡ value % 2 ^ known)
MayGive (LowBits known width value) _ = ⊥

abbrev pub IsUndefined : Given → Type 0
IsUndefined Undefined = Unit {0}
IsUndefined _ = ⊥

abbrev pub OfMeaning : Meaning → (widths : List ℕ) → List Argument → (Given → Type 0) → Type 0
OfMeaning Copying widths arguments claim = claim (copy widths arguments)
OfMeaning (Generic gives) widths arguments claim = claim (gives widths arguments)
OfMeaning _ widths arguments claim = ⊥

-- the claim of what an operation that computes gives
abbrev pub OfGiven : Operation → Option (List Argument) → (Given → Type 0) → Type 0
OfGiven o None claim = ⊥
OfGiven o (Some arguments) claim = OfMeaning (meaning_of o.flags o.op) o.widths arguments claim

-- the values at these places, which have these widths
abbrev pub IfThere : Option (ℕ × ℕ) → (width : ℕ) → (ℕ → Type 0) → Type 0
IfThere None width claim = ⊥
IfThere (Some entry) width claim = (entry.0 ≡ width) × claim entry.1

abbrev pub AreThere : Environment → (places widths : List ℕ) → (List ℕ → Type 0) → Type 0
AreThere env [] [] claim = claim []
AreThere env (place ∷ places) (width ∷ widths) claim = IfThere (slice_get env place) width (λ v. AreThere env places widths (λ vs. claim (v ∷ vs)))
AreThere env _ _ claim = ⊥

-- the root may give what stands at these places, or it is undefined
abbrev pub RootMay : Operation → (results : List ℕ) → Environment → Option Environment → Type 0
RootMay o results env None = OfGiven o (arguments_at env o.slots) IsUndefined
RootMay o results env (Some new) = AreThere new results o.widths (λ values. OfGiven o (arguments_at env o.slots) (λ given. MayGive given values))

-- ══ A rewrite ══

-- For all values of which the definitions hold, whatever is made, the root may give it.
abbrev pub IsSoundByNumbers : (x : ℕ) (names : List (List ℕ)) → World → RewriteData → Type 0
IsSoundByNumbers x names w rewrite =
    ForAllOf (map (width_of x) rewrite.inputs)
    (λ env. IfKnown env (map (fact_of x names w) rewrite.definitions)
    (ForAllRuns x (map (operation_on_values x names w) rewrite.made) env (RootMay (operation_on_values x names w rewrite.root) rewrite.results env)))

-- at machine registers of so many bits, in each world
pub record IsSoundRewrite (x : ℕ) (rewrite : RewriteData) : Type 0 where
  pub by : (names : List (List ℕ)) (w : World) → IsWorld x w → IsSoundByNumbers x names w rewrite
