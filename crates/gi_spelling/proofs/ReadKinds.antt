-- The kinds of registers and the implied successors look at neither ids nor names.
use Rattle.std.proofs.Common.{◌≡◌, ℕ, Bool, true, false, List, [], ◌∷◌, ◌++◌, Option, Some, None, map, refl, sym, ap, ◌∙◌}
use Rattle.std.specs.Prelude.{◌==◌, ◌&&◌, not, ⊤, filter_map, flat_map, find, option_map, unwrap_or, if◌then◌else◌}
use Rattle.std.specs.List.{list_all, cons_option, AllZip}
use Rattle.std.specs.Option.{option_map_or}
use Rattle.std.proofs.lemmas.Bool.{and_parts}
use Rattle.std.proofs.lemmas.List.Folds.{list_all-append}
use Rattle.gi_mir.specs.declared.operand.Kind.{Kind}
use Rattle.gi_mir.specs.declared.operand.Kind.TheVariants.{Class}
use Rattle.gi_mir.specs.declared.operand.Operand.{Operand}
use Rattle.gi_mir.specs.declared.operand.Operand.TheVariants as operand
use Rattle.gi_mir.specs.declared.operand.Reg.{Reg}
use Rattle.gi_mir.specs.Data.{InstrData, BlockData, FunctionData}
use Rattle.gi_mir.specs.Registers.{type_of_kind, first_there, kind_in_operand, kind_in_operands, kind_in_instrs, kind_in_blocks}
use Rattle.gi_mir.specs.Row.{is_branch_op, is_unconditional_op}
use Rattle.gi_spelling.specs.declared.written.Fault.TheVariants as fault
use Rattle.gi_spelling.specs.declared.written.Shown.{Shown}
use Rattle.gi_spelling.specs.Blocks.{wrong, Body, defined_kind, kinds_in, has_type, type_of_register, shown_wrong, shown_wrongs}
use Rattle.gi_spelling.specs.Documents.{without_ids}
use Rattle.gi_spelling.specs.Named.{IsNamedOperand, IsNamedEntry}
use Rattle.gi_spelling.specs.Printed.{with_targets, with_branches, falls_through, with_place, implied_successors}
use Rattle.gi_spelling.specs.Spelling.{types_in}

-- ══ Kinds ══

abbrev kind_among : List (ℕ × Kind) → ℕ → Option Kind
kind_among kinds reg = option_map (λ entry. entry.1) (find (λ entry. entry.0 == reg) kinds)

among-append : (xs ys : List (ℕ × Kind)) (reg : ℕ) → kind_among (xs ++ ys) reg ≡ first_there (kind_among xs reg) (kind_among ys reg)
among-append [] ys reg = refl
among-append (x ∷ xs) ys reg = chosen (x.0 == reg) (among-append xs ys reg)
  where
    chosen : (found : Bool) → kind_among (xs ++ ys) reg ≡ first_there (kind_among xs reg) (kind_among ys reg)
        → option_map (λ (entry : ℕ × Kind). entry.1) (if found then Some x else find (λ entry. entry.0 == reg) (xs ++ ys))
        ≡ first_there (option_map (λ (entry : ℕ × Kind). entry.1) (if found then Some x else find (λ entry. entry.0 == reg) xs)) (kind_among ys reg)
    chosen true later = refl
    chosen false later = later

among_operands : (operands : List Operand) (reg : ℕ) → kind_among (filter_map defined_kind operands) reg ≡ kind_in_operands reg operands
among_operands [] reg = refl
among_operands (operand.Def own kind ∷ operands) reg = chosen (own.0 == reg) (among_operands operands reg)
  where
    chosen : (found : Bool) → kind_among (filter_map defined_kind operands) reg ≡ kind_in_operands reg operands
        → option_map (λ (entry : ℕ × Kind). entry.1) (if found then Some (own.0, kind) else find (λ entry. entry.0 == reg) (filter_map defined_kind operands))
        ≡ first_there (if found then Some kind else None) (kind_in_operands reg operands)
    chosen true later = refl
    chosen false later = later
among_operands (o ∷ operands) reg = among_operands operands reg

named_kind : (text : List ℕ) (names : List (List ℕ)) (old new : Operand) (reg : ℕ) → IsNamedOperand text names old new → kind_in_operand reg new ≡ kind_in_operand reg old
named_kind text names (operand.Global flag place) new reg named = ap (kind_in_operand reg) named.same
named_kind text names old new reg named = ap (kind_in_operand reg) named

named_kinds : (text : List ℕ) (names : List (List ℕ)) (old new : List Operand) (reg : ℕ) → AllZip (IsNamedOperand text names) old new → kind_in_operands reg new ≡ kind_in_operands reg old
named_kinds text names [] [] reg all = refl
named_kinds text names [] (n ∷ new) reg all = absurd all
named_kinds text names (o ∷ old) [] reg all = absurd all
named_kinds text names (o ∷ old) (n ∷ new) reg all = cc (named_kind text names o n reg all.0, named_kinds text names old new reg all.1)

abbrev pub kinds_of_instrs : List InstrData → List (ℕ × Kind)
kinds_of_instrs instrs = flat_map (λ (instr : InstrData). filter_map defined_kind instr.operands) instrs

-- instructions whose operands are the same but for the numbers of names
pub record SharesOperands (text : List ℕ) (names : List (List ℕ)) (old new : ℕ × InstrData) : Type 0 where
  pub operands : AllZip (IsNamedOperand text names) (old.1).operands (new.1).operands

among_instrs : (text : List ℕ) (names : List (List ℕ)) (old new : List (ℕ × InstrData)) (reg : ℕ) → AllZip (SharesOperands text names) old new
    → kind_among (kinds_of_instrs (map (λ i. i.1) old)) reg ≡ kind_in_instrs reg new
among_instrs text names [] [] reg all = refl
among_instrs text names [] (n ∷ new) reg all = absurd all
among_instrs text names (o ∷ old) [] reg all = absurd all
among_instrs text names (o ∷ old) (n ∷ new) reg all =
    among-append (filter_map defined_kind (o.1).operands) (kinds_of_instrs (map (λ i. i.1) old)) reg
    ∙ cc (among_operands (o.1).operands reg, named_kinds text names (o.1).operands (n.1).operands reg all.0.operands, among_instrs text names old new reg all.1)

-- blocks whose instructions are those of bodies
pub record SameInstrs (text : List ℕ) (names : List (List ℕ)) (body : Body) (block : BlockData) : Type 0 where
  pub old : List (ℕ × InstrData)
  pub own : map (λ i. i.1) old ≡ body.instrs
  pub named : AllZip (IsNamedEntry text names) old block.instrs

-- and blocks whose instructions share the operands of bodies
pub record SameOperands (text : List ℕ) (names : List (List ℕ)) (body : Body) (block : BlockData) : Type 0 where
  pub old : List (ℕ × InstrData)
  pub own : map (λ i. i.1) old ≡ body.instrs
  pub shared : AllZip (SharesOperands text names) old block.instrs

kinds_same : (text : List ℕ) (names : List (List ℕ)) (bodies : List Body) (blocks : List BlockData) (reg : ℕ) → AllZip (SameOperands text names) bodies blocks
    → kind_among (kinds_in bodies) reg ≡ kind_in_blocks reg blocks
kinds_same text names [] [] reg all = refl
kinds_same text names [] (block ∷ blocks) reg all = absurd all
kinds_same text names (body ∷ bodies) [] reg all = absurd all
kinds_same text names (body ∷ bodies) (block ∷ blocks) reg all =
    let here : kind_among (kinds_of_instrs body.instrs) reg ≡ kind_in_instrs reg block.instrs =
    ap (λ instrs. kind_among (kinds_of_instrs instrs) reg) (sym all.0.own) ∙ among_instrs text names all.0.old block.instrs reg all.0.shared in
    among-append (kinds_of_instrs body.instrs) (kinds_in bodies) reg ∙ cc (here, kinds_same text names bodies blocks reg all.1)

type_by_kind : (kind : Option Kind) → option_map_or type_of_kind kind None ≡ type_of_kind (unwrap_or kind Class)
type_by_kind None = refl
type_by_kind (Some kind) = refl

pub types_shared : (text : List ℕ) (names : List (List ℕ)) (bodies : List Body) (f : FunctionData) (reg : Reg) → AllZip (SameOperands text names) bodies f.blocks
    → type_of_register (kinds_in bodies) reg ≡ types_in f reg.0
types_shared text names bodies f reg all = ap (λ kind. option_map_or type_of_kind kind None) (kinds_same text names bodies f.blocks reg.0 all) ∙ type_by_kind (kind_in_blocks reg.0 f.blocks)

shares : (text : List ℕ) (names : List (List ℕ)) (old new : List (ℕ × InstrData)) → AllZip (IsNamedEntry text names) old new → AllZip (SharesOperands text names) old new
shares text names [] [] all = tt
shares text names [] (n ∷ new) all = absurd all
shares text names (o ∷ old) [] all = absurd all
shares text names (o ∷ old) (n ∷ new) all = (record { operands = all.0.instr.operands }, shares text names old new all.1)

all_share : (text : List ℕ) (names : List (List ℕ)) (bodies : List Body) (blocks : List BlockData) → AllZip (SameInstrs text names) bodies blocks → AllZip (SameOperands text names) bodies blocks
all_share text names [] [] all = tt
all_share text names [] (block ∷ blocks) all = absurd all
all_share text names (body ∷ bodies) [] all = absurd all
all_share text names (body ∷ bodies) (block ∷ blocks) all =
    (record { old = all.0.old; own = all.0.own; shared = shares text names all.0.old block.instrs all.0.named }, all_share text names bodies blocks all.1)

pub types_same : (text : List ℕ) (names : List (List ℕ)) (bodies : List Body) (f : FunctionData) (reg : Reg) → AllZip (SameInstrs text names) bodies f.blocks
    → type_of_register (kinds_in bodies) reg ≡ types_in f reg.0
types_same text names bodies f reg all = types_shared text names bodies f reg (all_share text names bodies f.blocks all)

-- the types that are shown
abbrev pub is_fine : List (ℕ × Kind) → Shown → Bool
is_fine kinds shown = has_type (type_of_register kinds shown.reg) shown.ty

all_fine : (kinds : List (ℕ × Kind)) (shown : List Shown) → filter_map (shown_wrong kinds) shown ≡ [] → list_all (is_fine kinds) shown ≡ true
all_fine kinds [] e = refl
all_fine kinds (s ∷ shown) e = chosen (is_fine kinds s) refl e (all_fine kinds shown)
  where
    chosen : (fine : Bool) → is_fine kinds s ≡ fine → cons_option (if fine then None else Some (wrong s.line fault.Syntax)) (filter_map (shown_wrong kinds) shown) ≡ []
        → (filter_map (shown_wrong kinds) shown ≡ [] → list_all (is_fine kinds) shown ≡ true) → (fine && list_all (is_fine kinds) shown) ≡ true
    chosen true is e later = later e
    chosen false is e later = absurd (cc)

abbrev pub EachFine : List (ℕ × Kind) → List Body → Type 0
EachFine kinds [] = ⊤
EachFine kinds (body ∷ bodies) = (list_all (is_fine kinds) body.shown ≡ true) × EachFine kinds bodies

each_fine : (kinds : List (ℕ × Kind)) (bodies : List Body) → list_all (is_fine kinds) (flat_map (λ body. body.shown) bodies) ≡ true → EachFine kinds bodies
each_fine kinds [] all = tt
each_fine kinds (body ∷ bodies) all =
    let parts = and_parts (list_all (is_fine kinds) body.shown) (list_all (is_fine kinds) (flat_map (λ body. body.shown) bodies))
    (sym (list_all-append (is_fine kinds) body.shown (flat_map (λ (body : Body). body.shown) bodies)) ∙ all) in
    (parts.0, each_fine kinds bodies parts.1)

pub shown_fine : (bodies : List Body) → shown_wrongs bodies ≡ [] → EachFine (kinds_in bodies) bodies
shown_fine bodies e = each_fine (kinds_in bodies) bodies (all_fine (kinds_in bodies) (flat_map (λ (body : Body). body.shown) bodies) e)

-- ══ Implied successors ══

targets_same : (text : List ℕ) (names : List (List ℕ)) (old new : List Operand) (places : List ℕ) → AllZip (IsNamedOperand text names) old new → with_targets places new ≡ with_targets places old
targets_same text names [] [] places all = refl
targets_same text names [] (n ∷ new) places all = absurd all
targets_same text names (o ∷ old) [] places all = absurd all
targets_same text names (operand.Global flag place ∷ old) (n ∷ new) places all = rw (all.0.same) (targets_same text names old new places all.1)
targets_same text names (operand.Block place ∷ old) (n ∷ new) places all = rw (all.0) (targets_same text names old new (with_place places place) all.1)
targets_same text names (o ∷ old) (n ∷ new) places all = rw (all.0) (targets_same text names old new places all.1)

branches_same : (text : List ℕ) (names : List (List ℕ)) (old new : List (ℕ × InstrData)) (places : List ℕ) → AllZip (IsNamedEntry text names) old new
    → with_branches places new ≡ with_branches places (without_ids (map (λ i. i.1) old))
branches_same text names [] [] places all = refl
branches_same text names [] (n ∷ new) places all = absurd all
branches_same text names (o ∷ old) [] places all = absurd all
branches_same text names (o ∷ old) (n ∷ new) places all =
    let op : (n.1).op ≡ (o.1).op = all.0.instr.op in
    let here : (if is_branch_op (n.1).op then with_targets places (n.1).operands else places) ≡ (if is_branch_op (o.1).op then with_targets places (o.1).operands else places) =
    rw (op, targets_same text names (o.1).operands (n.1).operands places all.0.instr.operands) refl in
    ap (λ places. with_branches places new) here ∙ branches_same text names old new (if is_branch_op (o.1).op then with_targets places (o.1).operands else places) all.1

falls_same : (text : List ℕ) (names : List (List ℕ)) (old new : List (ℕ × InstrData)) → AllZip (IsNamedEntry text names) old new
    → falls_through new ≡ falls_through (without_ids (map (λ i. i.1) old))
falls_same text names [] [] all = refl
falls_same text names [] (n ∷ new) all = absurd all
falls_same text names (o ∷ old) [] all = absurd all
falls_same text names (o ∷ []) (n ∷ []) all = ap (λ op. not (is_unconditional_op op)) all.0.instr.op
falls_same text names (o ∷ []) (n ∷ next ∷ new) all = absurd all.1
falls_same text names (o ∷ next ∷ old) (n ∷ []) all = absurd all.1
falls_same text names (o ∷ p ∷ old) (n ∷ q ∷ new) all = falls_same text names (p ∷ old) (q ∷ new) all.1

pub implied_same : (text : List ℕ) (names : List (List ℕ)) (place count : ℕ) (body : Body) (block : BlockData) → SameInstrs text names body block
    → implied_successors place count block.instrs ≡ implied_successors place count (without_ids body.instrs)
implied_same text names place count body block same =
    let own : without_ids (map (λ (i : ℕ × InstrData). i.1) same.old) ≡ without_ids body.instrs = ap without_ids same.own in
    let falls = falls_same text names same.old block.instrs same.named ∙ ap falls_through own in
    let branches = branches_same text names same.old block.instrs [] same.named ∙ ap (with_branches []) own in
    rw (falls, branches) refl
