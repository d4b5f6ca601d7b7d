-- What was told, one edit after another.
use Rattle.std.proofs.Common.{◌≡◌, ℕ, Bool, true, false, ◌&&◌, List, [], ◌∷◌, ◌++◌, Option, Some, None, Result, OnOk, IfSome, sym, subst, ap, ap₂, ◌∙◌, append_assoc, Contains}
use Rattle.std.specs.Prelude.{option_map}
use Rattle.std.specs.Option.{option_map_or}
use Rattle.std.proofs.lemmas.Result.{on_ok_weaker}
use Rattle.gi_mir.specs.declared.block.InstrId.{InstrId}
use Rattle.gi_mir.specs.Data.{InstrData, FunctionData}
use Rattle.gi_mir.specs.Edit.{IsLive, block_at, home_of, id_after, ids_of, instr_of, with_instr, without_instr}
use Rattle.gi_observe.specs.Replay.{IsReplay, change_of}
use Rattle.gi_observe.proofs.Replaying.{IsReplay-joined}
use Rattle.gi_observe.specs.declared.change.Change.{Change}
use Rattle.gi_observe.specs.declared.change.ChangeKind.TheVariants.{Created, Erased}
use Rattle.gi_observe.specs.declared.pass.Pass.{Pass}
use Rattle.gi_replace.specs.Applying.{creations_told, erasure_told, id_of, next_to}
use Rattle.gi_replace.proofs.Standing.{stands-erased}

-- what was seen of two edits
pub seen-twice : {X : Type 0} (start middle end first more : List X) → middle ≡ start ++ first → end ≡ middle ++ more → end ≡ start ++ (first ++ more)
seen-twice start middle end first more one two = two ∙ ap (λ xs. xs ++ more) one ∙ append_assoc start first more

-- what was told of one edit and of a next that may fail
pub replay-then : {E : Type 0} (r : Result (Unit {0}) E) (first more : List Change) (f g h : FunctionData) → IsReplay first f g → OnOk r (IsReplay more g h) → OnOk r (IsReplay (first ++ more) f h)
replay-then r first more f g h one two = on_ok_weaker r (IsReplay-joined first more f g h one) two

-- ---- one instruction and then the others

pub creations-then : {E : Type 0} (block : ℕ) (before : Option InstrId) (made left : List InstrData) (i : InstrData) (pass later : Pass) (id : InstrId) (r : Result (Unit {0}) E) (f g h : FunctionData) → made ≡ i ∷ left
    → id.0 ≡ f.next_id → later ≡ pass → g ≡ with_instr f block before i
    → IsReplay (change_of f.name pass (Created id block before i) ∷ []) f g → OnOk r (IsReplay (creations_told block before left later g) g h)
    → OnOk r (IsReplay (creations_told block before made pass f) f h)
creations-then block before made left i pass later id r f g h em ei ep eg one two =
    let first : change_of f.name pass (Created id block before i) ∷ [] ≡ change_of f.name pass (Created (id_of f.next_id) block before i) ∷ [] = ap (λ (n : ℕ). change_of f.name pass (Created (id_of n) block before i) ∷ []) ei in
    let more : creations_told block before left later g ≡ creations_told block before left pass (with_instr f block before i) = ap₂ (λ (q : Pass) (k : FunctionData). creations_told block before left q k) ep eg in
    subst (λ (is : List InstrData). OnOk r (IsReplay (creations_told block before is pass f) f h)) (sym em)
    (replay-then r (change_of f.name pass (Created (id_of f.next_id) block before i) ∷ []) (creations_told block before left pass (with_instr f block before i)) f g h
    (subst (λ (cs : List Change). IsReplay cs f g) first one) (subst (λ (cs : List Change). OnOk r (IsReplay cs g h)) more two))

pub rest-formed : (p : InstrData → Bool) (a : Bool) (b : Bool) → (a && b) ≡ true → b ≡ true
rest-formed p true b h = h
rest-formed p false b h = cc

-- ---- the root, and what stands in its place

pub next-named : (f : FunctionData) (id : ℕ) (o : Option InstrId) → option_map (λ (n : InstrId). n.0) o ≡ id_after f id → o ≡ next_to f id
next-named f id None h = ap (option_map id_of) h
next-named f id (Some n) h = ap (option_map id_of) h

pub creations-same : (block block' : ℕ) (before before' : Option InstrId) (made : List InstrData) (pass pass' : Pass) (f f' : FunctionData) → block ≡ block' → before ≡ before' → pass ≡ pass' → f ≡ f'
    → creations_told block before made pass f ≡ creations_told block' before' made pass' f'
creations-same block block' before before' made pass pass' f f' a b c d = cc

pub stands-behind : (f g : FunctionData) (id block : ℕ) (before : Option InstrId) → IsLive f id → block ≡ home_of f id → before ≡ next_to f id → g ≡ without_instr f id
    → IfSome before (λ n. Contains (ids_of (block_at g block)) n.0)
stands-behind f g id block before live eb en eg =
    subst (λ (o : Option InstrId). IfSome o (λ n. Contains (ids_of (block_at g block)) n.0)) (sym en)
    (subst (λ (k : ℕ). IfSome (next_to f id) (λ n. Contains (ids_of (block_at g k)) n.0)) (sym eb)
    (subst (λ (k : FunctionData). IfSome (next_to f id) (λ n. Contains (ids_of (block_at k (home_of f id))) n.0)) (sym eg) (stands-erased f id live)))

-- what is told of the root
pub erasure-is : (f : FunctionData) (id : InstrId) (i : InstrData) (pass : Pass) → instr_of f id.0 ≡ Some i → erasure_told id.0 pass f ≡ change_of f.name pass (Erased id i) ∷ []
erasure-is f id i pass there = ap (λ (o : Option InstrData). option_map_or (λ (j : InstrData). change_of f.name pass (Erased id j) ∷ []) o []) there
