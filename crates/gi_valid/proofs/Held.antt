-- What is written is held, what isn't stays, and what an operation gives it gives whatever is outside.
use Rattle.std.proofs.Common.{◌≡◌, ℕ, ◌+◌, ◌≤◌, ◌*◌, ◌/◌, ◌^◌, ◌<◌, IfSome, lit<, lt_of_lt_of_le, Bool, true, false, cond, ◌==◌, List, [], ◌∷◌, map, Option, Some, None, ⊎_elim, refl, sym, ap, ◌∙◌, subst, arith, true≢false}
use Rattle.std.proofs.Math.Nat.{pow-le-pow_right}
use Rattle.std.proofs.lemmas.Bool.{or_parts, or_from, or_cases, or_left, or_right, false_from_ne_true, eq-eqb, eqb-true}
use Rattle.std.proofs.lemmas.Option.{same_Some, none-some}
use Rattle.std.specs.List.{list_any}
use Rattle.gi_llt.specs.Llt.{width_of}
use Rattle.gi_mir.specs.Data.{InstrData}
use Rattle.gi_mir.specs.Edit.{is_def_of, defines}
use Rattle.gi_mir.specs.Formed.{is_physical_def}
use Rattle.gi_mir.specs.declared.operand.MemOp.{MemOp}
use Rattle.gi_mir.specs.declared.operand.Operand.{Operand}
use Rattle.gi_mir.specs.declared.operand.Operand.TheVariants as operand
use Rattle.gi_meaning.specs.Argument.{Argument, Value}
use Rattle.gi_meaning.specs.Given.{Given, Exactly, LowBits, Undefined}
use Rattle.gi_meaning.specs.State.{World, State, Outside, Place, Virtual, Physical, put}
use Rattle.gi_meaning.specs.Meaning.{Meaning, Copying, Generic, Machine, Zeros}
use Rattle.gi_meaning.specs.Memory.{Memory, loaded, is_aligned}
use Rattle.gi_meaning.specs.State.{AreBytes}
use Rattle.gi_meaning.specs.Act.{Results, Act, Answers, AnswersWords, all_fitted, copy, from_loaded, load, generic_load, alignment}
use Rattle.gi_meaning.specs.Runs.{Setting, places_of, written_places, width_of_place, put_all, joined, put_value, value_at, from_block}
use Rattle.gi_refine.specs.Constants.{writes}
use Rattle.gi_refine.proofs.SizedAnswers.{loaded_small}
use Rattle.gi_valid.specs.Facts.{is_computing, AreHeld}
use Rattle.gi_meaning.specs.InRow.{results_in}
use Rattle.gi_valid.proofs.Single.{often}
use Rattle.gi_valid.proofs.Stepping.{places_not, put_all_keeps}

-- ══ Written places ══

no_physical : (os : List Operand) → list_any is_physical_def os ≡ false → places_of os ≡ map Virtual (results_in os)
no_physical [] h = refl
no_physical (operand.Def r kind ∷ os) h = ap (λ l. Virtual r.0 ∷ l) (no_physical os h)
no_physical (operand.PhysDef n ∷ os) h = cc
no_physical (_ ∷ os) h = no_physical os h

pub computed_places : (m : Meaning) → is_computing m ≡ true → (os : List Operand) → list_any is_physical_def os ≡ false → written_places m os ≡ map Virtual (results_in os)
computed_places Copying c os h = no_physical os h
computed_places (Generic gives) c os h = no_physical os h
computed_places (Machine gives) c os h = no_physical os h
computed_places _ c os h = cc

pub virtual_widths : (s : Setting) (rs : List ℕ) → map (width_of_place s) (map Virtual rs) ≡ map s.width rs
virtual_widths s [] = refl
virtual_widths s (r ∷ rs) = ap (λ l. s.width r ∷ l) (virtual_widths s rs)

-- ══ Distinct registers hold what is put ══

not_often : (r : ℕ) (rs : List ℕ) → often r rs ≡ 0 → writes r (map Virtual rs) ≡ false
not_often r [] h = refl
not_often r (q ∷ rs) h = by (q == r) refl h (λ l. not_often r rs l)
  where
    by : (t : Bool) → (q == r) ≡ t → cond t 1 0 + often r rs ≡ 0 → (often r rs ≡ 0 → writes r (map Virtual rs) ≡ false) → writes r (map Virtual (q ∷ rs)) ≡ false
    by true so h rest = absurd (never (often r rs) h)
      where
        never : (n : ℕ) → 1 + n ≡ 0 → ⊥
        never n h = omega (arith, h)
    by false so h rest =
        or_from (r == q) (writes r (map Virtual rs))
        (false_from_ne_true (r == q) (λ same. true≢false (sym (eq-eqb q r (sym (eqb-true r q same))) ∙ so))) (rest (none (often r rs) h))
      where
        none : (n : ℕ) → 0 + n ≡ 0 → n ≡ 0
        none n h = omega (arith, h)

pub put_held : (state : State) (rs vs : List ℕ) (state' : State) → ((q : ℕ) → often q rs ≤ 1) → put_all state (map Virtual rs) vs ≡ Some state' → AreHeld state' rs vs
put_held state [] [] state' once puts = tt
put_held state [] (v ∷ vs) state' once puts = none-some state' puts
put_held state (r ∷ rs) [] state' once puts = none-some state' puts
put_held state (r ∷ rs) (v ∷ vs) state' once puts =
    let own : (r == r) ≡ true = eq-eqb r r refl in
    let first : ◌≡◌ {A = ℕ} (cond (r == r) 1 0) 1 = ap (λ t. cond t 1 0) own in
    let bound : cond (r == r) 1 0 + often r rs ≤ 1 = once r in
    let others : often r rs ≡ 0 = omega (arith, first, bound) in
    let kept : state'.values r ≡ (put state (Virtual r) v).values r = put_all_keeps r (put state (Virtual r) v) (map Virtual rs) vs state' (not_often r rs others) puts in
    (kept ∙ ap (λ t. cond t (Some v) (state.values r)) own, put_held (put state (Virtual r) v) rs vs state' (λ q. fewer (cond (r == q) 1 0) (often q rs) (once q)) puts)
  where
    fewer : (m n : ℕ) → m + n ≤ 1 → n ≤ 1
    fewer m n h = omega (arith, h)

pub held_on : (state state' : State) (rs vs : List ℕ) → ((q : ℕ) → list_any (λ r. r == q) rs ≡ true → state'.values q ≡ state.values q) → AreHeld state rs vs → AreHeld state' rs vs
held_on state state' [] [] same held = tt
held_on state state' (r ∷ rs) (v ∷ vs) same held = (
  same r (or_left (r == r) (list_any (λ k. k == r) rs) (eq-eqb r r refl)) ∙ held.0,
  held_on state state' rs vs (λ q inside. same q (or_right (r == q) (list_any (λ k. k == q) rs) inside)) held.1,
)
held_on state state' [] (v ∷ vs) same held = held
held_on state state' (r ∷ rs) [] same held = held

-- ══ Whatever is outside ══

results_are : (rs qs : List ℕ) (o p : Outside) → Results rs o ≡ Results qs p → rs ≡ qs
results_are rs qs o p h = cc

answers_anywhere : (g : Given) (o p : Outside) (rs : List ℕ) → Answers g o (Results rs p) → (any : Outside) → Answers g any (Results rs any)
answers_anywhere (Exactly results) o p rs h any = (h.0, h.1, ap (λ k. Results k any) (results_are rs h.0 p o h.2))
answers_anywhere (LowBits known width value) o p rs h any = (h.0, h.1, ap (λ k. Results k any) (results_are rs h.0 p o h.2))
answers_anywhere Undefined o p rs h any = cc

words_anywhere : (x : ℕ) (widths : List ℕ) (g : Given) (o p : Outside) (rs : List ℕ) → AnswersWords x widths g o (Results rs p) → (any : Outside) → AnswersWords x widths g any (Results rs any)
words_anywhere x widths (Exactly results) o p rs h any = (h.0, h.1, ap (λ k. Results k any) (results_are rs (all_fitted x widths h.0) p o h.2))
words_anywhere x widths (LowBits known width value) o p rs h any = (h.0, h.1, ap (λ k. Results k any) (results_are rs (all_fitted x widths h.0) p o h.2))
words_anywhere x widths Undefined o p rs h any = cc

pub acts_anywhere : (x : ℕ) (w : World) (m : Meaning) → is_computing m ≡ true → (mem : Option MemOp) (widths : List ℕ) (arguments : List Argument) (o p : Outside) (rs : List ℕ)
    → Act x w m mem widths arguments o (Results rs p) → (any : Outside) → Act x w m mem widths arguments any (Results rs any)
acts_anywhere x w Copying c mem widths arguments o p rs h any = answers_anywhere (copy widths arguments) o p rs h any
acts_anywhere x w (Generic gives) c mem widths arguments o p rs h any = answers_anywhere (gives widths arguments) o p rs h any
acts_anywhere x w (Machine gives) c mem widths arguments o p rs h any = (h.0, h.1, words_anywhere x widths (gives x h.0) o p rs h.2 any)
acts_anywhere x w _ c mem widths arguments o p rs h any = cc

-- ══ Phis ══

put_value_keeps : (q : ℕ) (made : Option State) (ps : List Place) (v : Option ℕ) (middle : State) → writes q ps ≡ false → put_value made ps v ≡ Some middle → (state : State) × (made ≡ Some state) × (middle.values q ≡ state.values q)
put_value_keeps q (Some state) (p ∷ []) (Some v) middle h puts = (state, refl, put_all_keeps q state (p ∷ []) (v ∷ []) middle h puts)
put_value_keeps q _ _ _ middle h puts = cc

pub joined_keeps : (q : ℕ) (entered : State) (from : Option ℕ) (is : List (ℕ × InstrData)) (middle : State) → list_any (defines q) is ≡ false → joined entered from is ≡ Some middle → middle.values q ≡ entered.values q
joined_keeps q entered from [] middle h joins = ap (λ (k : State). k.values q) (sym (same_Some entered middle joins))
joined_keeps q entered from (i ∷ is) middle h joins =
    let each : (defines q i ≡ false) × (list_any (defines q) is ≡ false) = or_parts (defines q i) (list_any (defines q) is) h in
    let kept : (state : State) × (joined entered from is ≡ Some state) × (middle.values q ≡ state.values q) =
    put_value_keeps q (joined entered from is) (places_of i.1.operands) (value_at entered (from_block from i.1.operands)) middle (places_not q i.1.operands each.0) joins in
    kept.2 ∙ joined_keeps q entered from is kept.0 each.1 kept.1

-- ══ A zero-extending load ══

pub put_one : (r v : ℕ) (state : State) (ps : List Place) (state' : State) → writes r ps ≡ true → put_all state ps (v ∷ []) ≡ Some state' → state'.values r ≡ Some v
put_one r v state [] state' h puts = cc
put_one r v state (Virtual q ∷ []) state' h puts =
    let same : (r == q) ≡ true = ⊎_elim (λ k. k) (λ k. cc) (or_cases (r == q) false h) in
    ap (λ (k : State). k.values r) (sym (same_Some (put state (Virtual q) v) state' puts)) ∙ ap (λ t. cond t (Some v) (state.values r)) same
put_one r v state (Physical n ∷ []) state' h puts = cc
put_one r v state (p ∷ q ∷ ps) state' h puts = absurd (none-some state' puts)

pub defined_written : (r : ℕ) (os : List Operand) → list_any (is_def_of r) os ≡ true → writes r (places_of os) ≡ true
defined_written r [] h = cc
defined_written r (operand.Def q kind ∷ os) h =
    ⊎_elim
    (λ here. or_left (r == q.0) (writes r (places_of os)) (eq-eqb r q.0 (sym (eqb-true q.0 r here))))
    (λ later. or_right (r == q.0) (writes r (places_of os)) (defined_written r os later))
    (or_cases (q.0 == r) (list_any (is_def_of r) os) h)
defined_written r (operand.PhysDef n ∷ os) h = defined_written r os h
defined_written r (_ ∷ os) h = defined_written r os h

-- one value of so many bits
pub record IsBelow (bits : ℕ) (rs : List ℕ) : Type 0 where
  pub value : ℕ
  pub is : rs ≡ value ∷ []
  pub below : value < 2 ^ bits

loaded_below : (bits m n : ℕ) (o p : Outside) (rs : List ℕ) (read : Option ℕ) → ((v : ℕ) → read ≡ Some v → v < 2 ^ bits) → Answers (from_loaded read Zeros m n) o (Results rs p) → IsBelow bits rs
loaded_below bits m n o p rs None small h = cc
loaded_below bits m n o p rs (Some v) small h = record { value = v; is = results_are rs h.0 p o h.2 ∙ h.1; below = small v refl }

if_given : (bits : ℕ) (t : Bool) (g : Given) (o p : Outside) (rs : List ℕ) → (Answers g o (Results rs p) → IsBelow bits rs) → Answers (cond t g Undefined) o (Results rs p) → IsBelow bits rs
if_given bits true g o p rs f h = f h
if_given bits false g o p rs f h = cc

some_below : (bits : ℕ) (read : Option ℕ) → IfSome read (λ v. v < 2 ^ bits) → (v : ℕ) → read ≡ Some v → v < 2 ^ bits
some_below bits None below v h = cc
some_below bits (Some u) below v h = subst (λ k. k < 2 ^ bits) (same_Some u v h) below

memory_below : (x bits : ℕ) (memory : Memory) (address : ℕ) → AreBytes memory → (v : ℕ) → loaded x (bits / 8) memory address ≡ Some v → v < 2 ^ bits
memory_below x bits memory address bytes v h =
    let small : v < 2 ^ (8 * (bits / 8)) = some_below (8 * (bits / 8)) (loaded x (bits / 8) memory address) (loaded_small x (bits / 8) memory address bytes) v h in
    let within : 8 * (bits / 8) ≤ bits = omega arith in
    lt_of_lt_of_le small (pow-le-pow_right (lit< tt) within)

-- a zero-extending load gives one value of the bits in memory
pub zeros_below : (x : ℕ) (m : MemOp) (mem : Option MemOp) → mem ≡ Some m → (widths : List ℕ) (arguments : List Argument) (memory : Memory) → AreBytes memory → (o p : Outside) (rs : List ℕ)
    → Answers (generic_load x Zeros mem widths arguments memory) o (Results rs p) → IsBelow (width_of x m.ty) rs
zeros_below x m (Some mem) same (n ∷ []) (Value l address ∷ []) memory bytes o p rs h =
    let bits : ℕ = width_of x mem.ty in
    subst (λ (k : MemOp). IsBelow (width_of x k.ty) rs) (same_Some mem m same)
    (if_given bits mem.load (load x (alignment x mem) bits n Zeros memory address) o p rs
    (λ given. if_given bits (is_aligned (alignment x mem) address) (from_loaded (loaded x (bits / 8) memory address) Zeros bits n) o p rs
    (λ there. loaded_below bits bits n o p rs (loaded x (bits / 8) memory address) (memory_below x bits memory address bytes) there) given) h)
zeros_below x m _ same _ _ memory bytes o p rs h = cc

-- ══ Memory ══

put_memory : (state : State) (p : Place) (v : ℕ) → (put state p v).memory ≡ state.memory
put_memory state (Virtual r) v = refl
put_memory state (Physical n) v = refl

pub put_all_memory : (state : State) (ps : List Place) (vs : List ℕ) (state' : State) → put_all state ps vs ≡ Some state' → state'.memory ≡ state.memory
put_all_memory state [] [] state' puts = ap (λ (k : State). k.memory) (sym (same_Some state state' puts))
put_all_memory state [] (v ∷ vs) state' puts = absurd (none-some state' puts)
put_all_memory state (p ∷ ps) [] state' puts = absurd (none-some state' puts)
put_all_memory state (p ∷ ps) (v ∷ vs) state' puts = put_all_memory (put state p v) ps vs state' puts ∙ put_memory state p v

put_value_memory : (made : Option State) (ps : List Place) (v : Option ℕ) (middle : State) → put_value made ps v ≡ Some middle → (state : State) × (made ≡ Some state) × (middle.memory ≡ state.memory)
put_value_memory (Some state) (p ∷ []) (Some v) middle puts = (state, refl, put_all_memory state (p ∷ []) (v ∷ []) middle puts)
put_value_memory _ _ _ middle puts = cc

pub joined_memory : (entered : State) (from : Option ℕ) (is : List (ℕ × InstrData)) (middle : State) → joined entered from is ≡ Some middle → middle.memory ≡ entered.memory
joined_memory entered from [] middle joins = ap (λ (k : State). k.memory) (sym (same_Some entered middle joins))
joined_memory entered from (i ∷ is) middle joins =
    let kept : (state : State) × (joined entered from is ≡ Some state) × (middle.memory ≡ state.memory) =
    put_value_memory (joined entered from is) (places_of i.1.operands) (value_at entered (from_block from i.1.operands)) middle joins in
    kept.2 ∙ joined_memory entered from is kept.0 kept.1
