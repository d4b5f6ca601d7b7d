-- Functions that are the same come to the same outcomes.
use mathlib.Core.Path.{fun_ext}
use Rattle.std.proofs.Common.{◌≡◌, ℕ, zero, suc, Bool, true, false, List, [], ◌∷◌, ◌++◌, Option, Some, None, map, refl, ap, ap₂, ◌∙◌}
use Rattle.std.specs.Prelude.{cond, ◌&&◌, if◌then◌else◌, unwrap_or, slice_get}
use Rattle.std.specs.List.{AllZip, list_all}
use Rattle.gi_llt.specs.declared.Llt.{Llt}
use Rattle.gi_mir.specs.Row.{access_of, typing_of}
use Rattle.gi_mir.specs.declared.opcode.Opcode.{Opcode}
use Rattle.gi_mir.specs.declared.operand.Operand.{Operand}
use Rattle.gi_mir.specs.declared.operand.Operand.TheVariants as operand
use Rattle.gi_mir.specs.declared.operand.Kind.TheVariants.{Class}
use Rattle.gi_mir.specs.declared.operand.Reg.{Reg}
use Rattle.gi_mir.specs.Data.{InstrData, BlockData, FunctionData}
use Rattle.gi_mir.specs.Registers.{kind_of}
use Rattle.gi_meaning.specs.Argument.{Argument}
use Rattle.gi_meaning.specs.InRow.{type_held, type_in, results_in, sources_in, have_types, has_memory, is_operand_of, has_row, is_in_row, nowhere, checked_pair, checked_block, checked_blocks}
use Rattle.gi_meaning.specs.State.{World, State, Outcome, Virtual, Physical, start}
use Rattle.gi_meaning.specs.Meaning.{Meaning, Calling, Nothing, meaning_of, is_joining}
use Rattle.gi_meaning.specs.Act.{clobbered, is_result_register}
use Rattle.gi_meaning.specs.Runs.{Setting, width_of_kind, argument_of, arguments_of, joined_lists, places_of, result_places, written_places, Progress, StepsFrom, Steps, After, Executes, is_phi, phis_of, after_phis, entry_of, chosen, entry_for, from_block, joined, Entering, Follows, RunsAfterPhis, RunsBlock, Enters, Runs}
use Rattle.gi_spelling.specs.Same.{IsSameOperand, IsSameInstr, IsSameBlock, IsSameFunction}
use Rattle.gi_spelling.proofs.SamePrints.{blocks_kind}

module _ (names others : List (List ℕ)) (x : ℕ) (width : ℕ → ℕ) (world : World) where
  abbrev old : Setting
  old = record { x = x; names = names; width = width }

  abbrev new : Setting
  new = record { x = x; names = others; width = width }

  -- ══ Operands ══

  argument_same : (state : State) (a b : Operand) → IsSameOperand names others a b → argument_of new world state b ≡ argument_of old world state a
  argument_same state (operand.Global flag number) b is = rw (is.same, is.named) refl
  argument_same state (operand.Def r kind) b is = rw is refl
  argument_same state _ b is = rw is refl

  arguments_same : (state : State) (xs ys : List Operand) → AllZip (IsSameOperand names others) xs ys → arguments_of new world state ys ≡ arguments_of old world state xs
  arguments_same state [] [] all = refl
  arguments_same state [] (b ∷ ys) all = absurd all
  arguments_same state (a ∷ xs) [] all = absurd all
  arguments_same state (a ∷ xs) (b ∷ ys) all = ap₂ joined_lists (argument_same state a b all.0) (arguments_same state xs ys all.1)

  places_same : (xs ys : List Operand) → AllZip (IsSameOperand names others) xs ys → places_of ys ≡ places_of xs
  places_same [] [] all = refl
  places_same [] (b ∷ ys) all = absurd all
  places_same (a ∷ xs) [] all = absurd all
  places_same (a ∷ xs) (b ∷ ys) all = by a b all.0 (places_same xs ys all.1)
    where
      by : (a b : Operand) → IsSameOperand names others a b → places_of ys ≡ places_of xs → places_of (b ∷ ys) ≡ places_of (a ∷ xs)
      by (operand.Global flag number) b is later = rw is.same later
      by (operand.Def r kind) b is later = rw is (ap (λ places. Virtual r.0 ∷ places) later)
      by (operand.PhysDef n) b is later = rw is (ap (λ places. Physical n ∷ places) later)
      by _ b is later = rw is later

  results_same : (xs ys : List Operand) → AllZip (IsSameOperand names others) xs ys → result_places ys ≡ result_places xs
  results_same [] [] all = refl
  results_same [] (b ∷ ys) all = absurd all
  results_same (a ∷ xs) [] all = absurd all
  results_same (a ∷ xs) (b ∷ ys) all = by a b all.0 (results_same xs ys all.1)
    where
      by : (a b : Operand) → IsSameOperand names others a b → result_places ys ≡ result_places xs → result_places (b ∷ ys) ≡ result_places (a ∷ xs)
      by (operand.Global flag number) b is later = rw is.same later
      by (operand.ImplicitDef n) b is later = rw is (ap (λ places. if is_result_register n then Physical n ∷ places else places) later)
      by _ b is later = rw is later

  written_same : (m : Meaning) (xs ys : List Operand) → AllZip (IsSameOperand names others) xs ys → written_places m ys ≡ written_places m xs
  written_same Calling xs ys all = ap (λ places. map Physical clobbered ++ places) (results_same xs ys all)
  written_same Nothing xs ys all = refl
  written_same m xs ys all = places_same xs ys all

  -- ══ Instructions ══

  from_same : (i j : ℕ × InstrData) → IsSameInstr names others i j → (state : State) (arguments : Option (List Argument)) (progress : Progress)
      → StepsFrom new world j.1 state arguments progress ≡ StepsFrom old world i.1 state arguments progress
  from_same i j is state None progress = refl
  from_same i j is state (Some arguments) progress =
      let written = written_same (meaning_of (i.1).flags (i.1).op) (i.1).operands (j.1).operands is.operands in
      rw (is.op, is.flags, is.memory, written) refl

  steps_same : (i j : ℕ × InstrData) → IsSameInstr names others i j → (state : State) (progress : Progress) → Steps new world j.1 state progress ≡ Steps old world i.1 state progress
  steps_same i j is state progress =
      ap (λ arguments. StepsFrom new world j.1 state arguments progress) (arguments_same state (i.1).operands (j.1).operands is.operands)
      ∙ from_same i j is state (arguments_of old world state (i.1).operands) progress

  abbrev then_after : (first rest : State → Progress → Type 0) → State → Progress → Type 0
  then_after first rest state progress = (next : Progress) × first state next × After next rest progress

  executes_same : (is js : List (ℕ × InstrData)) → AllZip (IsSameInstr names others) is js → Executes new world js ≡ Executes old world is
  executes_same [] [] all = refl
  executes_same [] (j ∷ js) all = absurd all
  executes_same (i ∷ is) [] all = absurd all
  executes_same (i ∷ is) (j ∷ js) all =
      let steps : Steps new world j.1 ≡ Steps old world i.1 = fun_ext (λ state. fun_ext (λ progress. steps_same i j all.0 state progress)) in
      ap₂ then_after steps (executes_same is js all.1)

  -- ══ Phis ══

  phi_same : (i j : ℕ × InstrData) → IsSameInstr names others i j → is_phi j.1 ≡ is_phi i.1
  phi_same i j is = ap₂ (λ flags op. is_joining (meaning_of flags op)) is.flags is.op

  phis_same : (is js : List (ℕ × InstrData)) → AllZip (IsSameInstr names others) is js → AllZip (IsSameInstr names others) (phis_of is) (phis_of js)
  phis_same [] [] all = tt
  phis_same [] (j ∷ js) all = absurd all
  phis_same (i ∷ is) [] all = absurd all
  phis_same (i ∷ is) (j ∷ js) all = by (is_phi i.1) (is_phi j.1) (phi_same i j all.0) all.0 (phis_same is js all.1)
    where
      by : (a b : Bool) → b ≡ a → IsSameInstr names others i j → AllZip (IsSameInstr names others) (phis_of is) (phis_of js)
          → AllZip (IsSameInstr names others) (cond a (i ∷ phis_of is) []) (cond b (j ∷ phis_of js) [])
      by true true e first later = (first, later)
      by true false e first later = absurd (cc)
      by false true e first later = absurd (cc)
      by false false e first later = tt

  after_same : (is js : List (ℕ × InstrData)) → AllZip (IsSameInstr names others) is js → AllZip (IsSameInstr names others) (after_phis is) (after_phis js)
  after_same [] [] all = tt
  after_same [] (j ∷ js) all = absurd all
  after_same (i ∷ is) [] all = absurd all
  after_same (i ∷ is) (j ∷ js) all = by (is_phi i.1) (is_phi j.1) (phi_same i j all.0) all.0 all.1 (after_same is js all.1)
    where
      by : (a b : Bool) → b ≡ a → IsSameInstr names others i j → AllZip (IsSameInstr names others) is js → AllZip (IsSameInstr names others) (after_phis is) (after_phis js)
          → AllZip (IsSameInstr names others) (cond a (after_phis is) (i ∷ is)) (cond b (after_phis js) (j ∷ js))
      by true true e first rest later = later
      by true false e first rest later = absurd (cc)
      by false true e first rest later = absurd (cc)
      by false false e first rest later = (first, rest)

  second_same : (r : Reg) (a b : Operand) (xs ys : List Operand) → IsSameOperand names others a b → entry_of (operand.Use r ∷ b ∷ ys) ≡ entry_of (operand.Use r ∷ a ∷ xs)
  second_same r (operand.Global flag number) b xs ys is = rw is.same refl
  second_same r (operand.Block place) b xs ys is = rw is refl
  second_same r _ b xs ys is = rw is refl

  entry_same : (xs ys : List Operand) → AllZip (IsSameOperand names others) xs ys → entry_of ys ≡ entry_of xs
  entry_same [] [] all = refl
  entry_same [] (b ∷ ys) all = absurd all
  entry_same (a ∷ xs) [] all = absurd all
  entry_same (a ∷ []) (b ∷ next ∷ ys) all = absurd all.1
  entry_same (a ∷ next ∷ xs) (b ∷ []) all = absurd all.1
  entry_same (operand.Global flag number ∷ []) (b ∷ []) all = rw (all.0).same refl
  entry_same (operand.Use r ∷ []) (b ∷ []) all = rw all.0 refl
  entry_same (a ∷ []) (b ∷ []) all = rw all.0 refl
  entry_same (operand.Global flag number ∷ next ∷ xs) (b ∷ other ∷ ys) all = rw (all.0).same refl
  entry_same (operand.Use r ∷ next ∷ xs) (b ∷ other ∷ ys) all = rw all.0 (second_same r next other xs ys (all.1).0)
  entry_same (a ∷ next ∷ xs) (b ∷ other ∷ ys) all = rw all.0 refl

  entry_for_same : (from : ℕ) (xs ys : List Operand) → AllZip (IsSameOperand names others) xs ys → entry_for from ys ≡ entry_for from xs
  entry_for_same from [] [] all = refl
  entry_for_same from [] (b ∷ ys) all = absurd all
  entry_for_same from (a ∷ xs) [] all = absurd all
  entry_for_same from (a ∷ xs) (b ∷ ys) all = ap₂ (chosen from) (entry_same (a ∷ xs) (b ∷ ys) all) (entry_for_same from xs ys all.1)

  from_block_same : (from : Option ℕ) (xs ys : List Operand) → AllZip (IsSameOperand names others) xs ys → from_block from ys ≡ from_block from xs
  from_block_same None xs ys all = refl
  from_block_same (Some from) xs ys all = entry_for_same from xs ys all

  joined_same : (state : State) (from : Option ℕ) (is js : List (ℕ × InstrData)) → AllZip (IsSameInstr names others) is js → joined state from js ≡ joined state from is
  joined_same state from [] [] all = refl
  joined_same state from [] (j ∷ js) all = absurd all
  joined_same state from (i ∷ is) [] all = absurd all
  joined_same state from (i ∷ is) (j ∷ js) all =
      let places = places_same (i.1).operands (j.1).operands (all.0).operands in
      let entry = from_block_same from (i.1).operands (j.1).operands (all.0).operands in
      rw (joined_same state from is js all.1, places, entry) refl

  -- ══ Blocks ══

  after_phis_same : (b : ℕ) (block other : BlockData) → IsSameBlock names others block other → (enters : Entering) (state : Option State) (outcome : Outcome)
      → RunsAfterPhis new world b other enters state outcome ≡ RunsAfterPhis old world b block enters state outcome
  after_phis_same b block other is enters None outcome = refl
  after_phis_same b block other is enters (Some state) outcome =
      ap₂ (λ (executes : State → Progress → Type 0) (successors : List ℕ). (progress : Progress) × executes state progress × Follows b successors enters progress outcome)
      (executes_same (after_phis block.instrs) (after_phis other.instrs) (after_same block.instrs other.instrs is.instrs)) is.successors

  block_same : (block other : BlockData) → IsSameBlock names others block other → (enters : Entering) (from : Option ℕ) (b : ℕ) (state : State) (outcome : Outcome)
      → RunsBlock new world (Some other) enters from b state outcome ≡ RunsBlock old world (Some block) enters from b state outcome
  block_same block other is enters from b state outcome =
      ap (λ state. RunsAfterPhis new world b other enters state outcome) (joined_same state from (phis_of block.instrs) (phis_of other.instrs) (phis_same block.instrs other.instrs is.instrs))
      ∙ after_phis_same b block other is enters (joined state from (phis_of block.instrs)) outcome

  abbrev AreSame : Option BlockData → Option BlockData → Type 0
  AreSame None None = Unit {0}
  AreSame (Some block) (Some other) = IsSameBlock names others block other
  AreSame _ _ = ⊥

  got_same : (blocks theirs : List BlockData) (b : ℕ) → AllZip (IsSameBlock names others) blocks theirs → AreSame (slice_get blocks b) (slice_get theirs b)
  got_same [] [] b all = tt
  got_same [] (other ∷ theirs) b all = absurd all
  got_same (block ∷ blocks) [] b all = absurd all
  got_same (block ∷ blocks) (other ∷ theirs) zero all = all.0
  got_same (block ∷ blocks) (other ∷ theirs) (suc b) all = got_same blocks theirs b all.1

  any_block_same : (block other : Option BlockData) → AreSame block other → (enters : Entering) (from : Option ℕ) (b : ℕ) (state : State) (outcome : Outcome)
      → RunsBlock new world other enters from b state outcome ≡ RunsBlock old world block enters from b state outcome
  any_block_same None None same enters from b state outcome = refl
  any_block_same None (Some other) same enters from b state outcome = absurd same
  any_block_same (Some block) None same enters from b state outcome = absurd same
  any_block_same (Some block) (Some other) same enters from b state outcome = block_same block other same enters from b state outcome

  enters_same : (blocks theirs : List BlockData) → AllZip (IsSameBlock names others) blocks theirs → (n : ℕ) → Enters new world theirs n ≡ Enters old world blocks n
  enters_same blocks theirs all zero = refl
  enters_same blocks theirs all (suc n) =
      fun_ext (λ from. fun_ext (λ b. fun_ext (λ state. fun_ext (λ outcome.
      any_block_same (slice_get blocks b) (slice_get theirs b) (got_same blocks theirs b all) (Enters new world theirs n) from b state outcome
      ∙ ap (λ (enters : Entering). RunsBlock old world (slice_get blocks b) enters from b state outcome) (enters_same blocks theirs all n)))))

-- ══ Rows ══

module _ (names others : List (List ℕ)) (x : ℕ) where
  operand_row_same : (o : Opcode) (types : List Llt) (a b : Operand) → IsSameOperand names others a b → is_operand_of x o types b ≡ is_operand_of x o types a
  operand_row_same o types (operand.Global flag number) b is = rw is.same refl
  operand_row_same o types _ b is = rw is refl

  operands_row_same : (o : Opcode) (types : List Llt) (xs ys : List Operand) → AllZip (IsSameOperand names others) xs ys → list_all (is_operand_of x o types) ys ≡ list_all (is_operand_of x o types) xs
  operands_row_same o types [] [] all = refl
  operands_row_same o types [] (b ∷ ys) all = absurd all
  operands_row_same o types (a ∷ xs) [] all = absurd all
  operands_row_same o types (a ∷ xs) (b ∷ ys) all = ap₂ (λ s t. s && t) (operand_row_same o types a b all.0) (operands_row_same o types xs ys all.1)

  results_in_same : (xs ys : List Operand) → AllZip (IsSameOperand names others) xs ys → results_in ys ≡ results_in xs
  results_in_same [] [] all = refl
  results_in_same [] (b ∷ ys) all = absurd all
  results_in_same (a ∷ xs) [] all = absurd all
  results_in_same (a ∷ xs) (b ∷ ys) all = by a b all.0 (results_in_same xs ys all.1)
    where
      by : (a b : Operand) → IsSameOperand names others a b → results_in ys ≡ results_in xs → results_in (b ∷ ys) ≡ results_in (a ∷ xs)
      by (operand.Global flag number) b is later = rw is.same later
      by (operand.Def r kind) b is later = rw is (ap (λ rs. r.0 ∷ rs) later)
      by _ b is later = rw is later

  sources_in_same : (xs ys : List Operand) → AllZip (IsSameOperand names others) xs ys → sources_in ys ≡ sources_in xs
  sources_in_same [] [] all = refl
  sources_in_same [] (b ∷ ys) all = absurd all
  sources_in_same (a ∷ xs) [] all = absurd all
  sources_in_same (a ∷ xs) (b ∷ ys) all = by a b all.0 (sources_in_same xs ys all.1)
    where
      by : (a b : Operand) → IsSameOperand names others a b → sources_in ys ≡ sources_in xs → sources_in (b ∷ ys) ≡ sources_in (a ∷ xs)
      by (operand.Global flag number) b is later = rw is.same later
      by (operand.Use r) b is later = rw is (ap (λ rs. r.0 ∷ rs) later)
      by _ b is later = rw is later

  in_row_same : (type : ℕ → Llt) (i j : ℕ × InstrData) → IsSameInstr names others i j → is_in_row x type j.1 ≡ is_in_row x type i.1
  in_row_same type i j is =
      let results : results_in (j.1).operands ≡ results_in (i.1).operands = results_in_same (i.1).operands (j.1).operands is.operands in
      let sources : sources_in (j.1).operands ≡ sources_in (i.1).operands = sources_in_same (i.1).operands (j.1).operands is.operands in
      let rs : List Llt = map type (results_in (i.1).operands) in
      let ss : List Llt = map type (sources_in (i.1).operands) in
      ap₂ (λ us vs. has_row x j.1 (map type us) (map type vs)) results sources
      ∙ ap₂ (λ o mem. have_types x o (typing_of o) rs ss && has_memory x (access_of o) o (rs ++ ss) mem && list_all (is_operand_of x o (rs ++ ss)) (j.1).operands) is.op is.memory
      ∙ ap (λ b. have_types x (i.1).op (typing_of (i.1).op) rs ss && has_memory x (access_of (i.1).op) (i.1).op (rs ++ ss) (i.1).mem && b)
      (operands_row_same (i.1).op (rs ++ ss) (i.1).operands (j.1).operands is.operands)

  checked_pair_same : (type : ℕ → Llt) (i j : ℕ × InstrData) → IsSameInstr names others i j → IsSameInstr names others (checked_pair x type i) (checked_pair x type j)
  checked_pair_same type i j is = by (is_in_row x type i.1) (is_in_row x type j.1) (in_row_same type i j is)
    where
      by : (a b : Bool) → b ≡ a → IsSameInstr names others (i.0, cond a i.1 (nowhere i.1)) (j.0, cond b j.1 (nowhere j.1))
      by true true e = record { op = is.op; flags = is.flags; operands = is.operands; memory = is.memory }
      by true false e = absurd (cc)
      by false true e = absurd (cc)
      by false false e = record { op = refl; flags = is.flags; operands = tt; memory = is.memory }

  checked_instrs_same : (type : ℕ → Llt) (is js : List (ℕ × InstrData)) → AllZip (IsSameInstr names others) is js → AllZip (IsSameInstr names others) (map (checked_pair x type) is) (map (checked_pair x type) js)
  checked_instrs_same type [] [] all = tt
  checked_instrs_same type [] (j ∷ js) all = absurd all
  checked_instrs_same type (i ∷ is) [] all = absurd all
  checked_instrs_same type (i ∷ is) (j ∷ js) all = (checked_pair_same type i j all.0, checked_instrs_same type is js all.1)

  checked_blocks_same : (type : ℕ → Llt) (blocks theirs : List BlockData) → AllZip (IsSameBlock names others) blocks theirs → AllZip (IsSameBlock names others) (map (checked_block x type) blocks) (map (checked_block x type) theirs)
  checked_blocks_same type [] [] all = tt
  checked_blocks_same type [] (c ∷ theirs) all = absurd all
  checked_blocks_same type (b ∷ blocks) [] all = absurd all
  checked_blocks_same type (b ∷ blocks) (c ∷ theirs) all = (
    record { successors = (all.0).successors; liveins = (all.0).liveins; instrs = checked_instrs_same type b.instrs c.instrs (all.0).instrs },
    checked_blocks_same type blocks theirs all.1,
  )

-- what one runs to the other runs to
pub same_runs : (x : ℕ) (names others : List (List ℕ)) (f g : FunctionData) → IsSameFunction names others f g → (world : World) (n : ℕ) (outcome : Outcome)
    → Runs x others g world n outcome ≡ Runs x names f world n outcome
same_runs x names others f g is world n outcome =
    let width : (λ (r : ℕ). width_of_kind x (kind_of g r)) ≡ (λ (r : ℕ). width_of_kind x (kind_of f r)) =
    fun_ext (λ r. ap (λ kind. width_of_kind x (unwrap_or kind Class)) (blocks_kind names others r f.blocks g.blocks is.blocks)) in
    let type : type_in x g ≡ type_in x f = fun_ext (λ r. ap (λ kind. type_held x (unwrap_or kind Class)) (blocks_kind names others r f.blocks g.blocks is.blocks)) in
    let theirs : List BlockData = map (checked_block x (type_in x f)) g.blocks in
    ap₂ (λ (width : ℕ → ℕ) (type : ℕ → Llt). Enters (record { x = x; names = others; width = width }) world (map (checked_block x type) g.blocks) n None 0 (start world) outcome) width type
    ∙ ap (λ (enters : Entering). enters None 0 (start world) outcome)
    (enters_same names others x (λ r. width_of_kind x (kind_of f r)) world (checked_blocks x f) theirs (checked_blocks_same names others x (type_in x f) f.blocks g.blocks is.blocks) n)
