-- Registers that have one value after the old instructions of a rule.
use Rattle.std.proofs.Common.{◌≡◌, ℕ, Bool, true, List, [], ◌∷◌, ◌++◌, map, Option, Some, None, slice_get, ⊎_elim, refl, sym, subst}
use Rattle.gi_mir.specs.Data.{InstrData, BlockData}
use Rattle.gi_meaning.specs.State.{World, State, outside_of, Undefined}
use Rattle.gi_meaning.specs.Runs.{Setting, Progress, On, Left, Over, After, Executes}
use Rattle.gi_refine.specs.Kept.{HasSameValue}
use Rattle.gi_refine.specs.Reached.{IsEntered, IsReached}
use Rattle.gi_refine.specs.Values.{Environment, are_pure, Makes, AllHold, Rule, Correspond, ForAllOf, IsCertain}
use Rattle.gi_refine.specs.Lifting.{all_grown, AllShow, are_all_fresh, is_result, Placing, Reads, IsKnown, first_slots, SameAt, AllSame}
use Rattle.gi_refine.proofs.Simulating.{Split, split}
use Rattle.gi_refine.proofs.ValuesFollowed.{for_all_at}
use Rattle.gi_refine.proofs.ValuesPlaced.{Settled, Forward, forward}
use Rattle.gi_refine.proofs.ValuesStepped.{BothRead, both_read}
use Rattle.gi_refine.proofs.ValuesThere.{read_or_missing, missing_over}

entries_same : (width : ℕ → ℕ) (values : ℕ → Option ℕ) (r q : Option ℕ) (entry other : Option (ℕ × ℕ)) → BothRead width values r entry → BothRead width values q other → other ≡ entry → SameAt values r q
entries_same width values None q entry other both both' same = tt
entries_same width values (Some r) None entry other both both' same = tt
entries_same width values (Some r) (Some q) None other both both' same = absurd both
entries_same width values (Some r) (Some q) (Some entry) other both both' same =
    subst (λ v. HasSameValue v (values q)) (sym both.1) (subst (λ e. BothRead width values (Some q) e) same both').1

all_same : (width : ℕ → ℕ) (values : ℕ → Option ℕ) (rs : List ℕ) (env : Environment) → Reads width values rs env → (pairs : List (ℕ × ℕ)) → Correspond pairs env env → AllSame values rs pairs
all_same width values rs env reads [] same = tt
all_same width values rs env reads (pair ∷ pairs) same = (
  entries_same width values (slice_get rs pair.0) (slice_get rs pair.1) (slice_get env pair.0) (slice_get env pair.1) (both_read width values rs env pair.0 reads) (both_read width values rs env pair.1 reads) same.0,
  all_same width values rs env reads pairs same.1,
)

on_not_over : (state : State) → On state ≡ Over Undefined → ⊥
on_not_over state h = cc

on_same : (a b : State) → On a ≡ On b → a ≡ b
on_same a b h = cc

made_same : (width : ℕ → ℕ) (state final : State) (written : ℕ → Bool) (rs : List ℕ) (pairs : List (ℕ × ℕ)) (made : Option Environment) → Settled width state written rs (On final) made
    → ((env : Environment) → made ≡ Some env → Correspond pairs env env) → AllSame final.values rs pairs
made_same width state final written rs pairs None settled same = absurd (on_not_over final settled)
made_same width state final written rs pairs (Some env) settled same =
    all_same width final.values rs env (subst (λ st. Reads width st.values rs env) (sym (on_same final settled.0 settled.1)) settled.2.reads) pairs (same env refl)

-- after the old instructions of a rule that is certain, from a state of which enough is known
pub certain_same : (s : Setting) (w : World) (rule : Rule) (placing : Placing) (is : List (ℕ × InstrData)) (state final : State) → IsCertain s.x w rule
    → are_pure rule.old ≡ true → AllShow s w placing.inputs placing.old rule.old is → are_all_fresh placing.inputs placing.old ≡ true → map s.width placing.inputs ≡ rule.inputs
    → IsKnown s w rule placing.inputs state → Executes s w is state (On final) → AllSame final.values (all_grown placing.inputs placing.old) rule.kept
certain_same s w rule placing is state final certain pure shown fresh widths known run =
    ⊎_elim
    (λ read.
    let env : Environment = read.0 in
    let made : Forward s.width (Makes s.x w (outside_of state) rule.old env) state (λ r. is_result r placing.old) (all_grown placing.inputs placing.old) (On final) =
    forward s w (outside_of state) placing.old rule.old is placing.inputs env state (On final) shown pure fresh refl read.1 run in
    made_same s.width state final (λ r. is_result r placing.old) (all_grown placing.inputs placing.old) rule.kept made.made made.settled
    (λ old is_made. for_all_at s.width state.values placing.inputs env
    (λ e. AllHold s.x w (outside_of state) e rule.facts → (m : Environment) → Makes s.x w (outside_of state) rule.old e (Some m) → Correspond rule.kept m m)
    read.1 (known.sized env read.1)
    (subst (λ ns. ForAllOf ns (λ e. AllHold s.x w (outside_of state) e rule.facts → (m : Environment) → Makes s.x w (outside_of state) rule.old e (Some m) → Correspond rule.kept m m)) (sym widths) (certain.by (outside_of state)))
    (known.facts env read.1) old (subst (λ m. Makes s.x w (outside_of state) rule.old env m) is_made made.does)))
    (λ m. absurd (on_not_over final (missing_over s w state placing.old rule.old is placing.inputs shown m (On final) run)))
    (read_or_missing (first_slots rule.old) s.width state.values 0 placing.inputs known.there)

-- ══ Where runs reach ══

same_behind : (s : Setting) (w : World) (blocks : List BlockData) (b : ℕ) (before is : List (ℕ × InstrData)) (final : State) (claim : Type 0) (block : BlockData) (middle : State) → IsEntered s w blocks b block middle
    → ((state : State) → IsReached s w blocks b before state → Executes s w is state (On final) → claim) → (between : Progress) → Executes s w before middle between → After between (Executes s w is) (On final) → claim
same_behind s w blocks b before is final claim block middle enters here (On state) first second = here state (record { block = block; middle = middle; enters = enters; ran = first }) second
same_behind s w blocks b before is final claim block middle enters here (Left c state) first second = cc
same_behind s w blocks b before is final claim block middle enters here (Over outcome) first second = cc

-- behind the old instructions of a rule that is certain, wherever runs reach
pub certain_where_reached : (s : Setting) (w : World) (blocks : List BlockData) (b : ℕ) (before : List (ℕ × InstrData)) (rule : Rule) (placing : Placing) (is : List (ℕ × InstrData)) → IsCertain s.x w rule
    → are_pure rule.old ≡ true → AllShow s w placing.inputs placing.old rule.old is → are_all_fresh placing.inputs placing.old ≡ true → map s.width placing.inputs ≡ rule.inputs
    → ((state : State) → IsReached s w blocks b before state → IsKnown s w rule placing.inputs state)
    → (final : State) → IsReached s w blocks b (before ++ is) final → AllSame final.values (all_grown placing.inputs placing.old) rule.kept
certain_where_reached s w blocks b before rule placing is certain pure shown fresh widths known final reached =
    let parts : Split s w before is reached.middle (On final) = split s w before is reached.middle (On final) reached.ran in
    same_behind s w blocks b before is final (AllSame final.values (all_grown placing.inputs placing.old) rule.kept) reached.block reached.middle reached.enters
    (λ state here run. certain_same s w rule placing is state final certain pure shown fresh widths (known state here) run)
    parts.between parts.first parts.second
