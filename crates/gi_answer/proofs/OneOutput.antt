-- For words and an input there is one text: names may be numbered in several ways when it is read, and this shows nowhere.
use Rattle.std.proofs.Common.{◌≡◌, ℕ, zero, suc, Bool, true, false, ◌&&◌, List, [], ◌∷◌, map, Option, Some, None, option_map, inl, inr, refl, sym, ap, ap₂, ◌∙◌, subst}
use Rattle.gi_mir.specs.Names.{name_at}
use Rattle.std.specs.Prelude.{Result, Ok}
use Rattle.std.specs.List.{AllZip, list_all}
use Rattle.std.proofs.lemmas.Bool.{and_parts, false≢true}
use Rattle.gi_mir.specs.Data.{InstrData, BlockData, FunctionData, ModuleData}
use Rattle.gi_mir.specs.Numbering.{numbered_module}
use Rattle.gi_mir.specs.declared.operand.Flags.{Flags}
use Rattle.gi_mir.specs.declared.operand.MemOp.{MemOp}
use Rattle.gi_mir.specs.declared.operand.Operand.{Operand}
use Rattle.gi_mir.specs.declared.operand.Operand.TheVariants as operand
use Rattle.gi_mir.specs.declared.operand.StackObject.{StackObject}
use Rattle.gi_mir.specs.declared.opcode.Opcode.{Opcode}
use Rattle.gi_refine.specs.Kept.{without_kind}
use Rattle.gi_spelling.specs.Documents.{function_of, read_document, entries_of}
use Rattle.gi_spelling.specs.Lines.{Section, parts_of_text}
use Rattle.gi_spelling.specs.Named.{IsNamedOperand, IsNamedEntry, IsNamedBlock, IsNamedFunction}
use Rattle.gi_spelling.specs.Printed.{printed}
use Rattle.gi_spelling.specs.Read.{IsReadFunction, IsReadModule}
use Rattle.gi_spelling.specs.Same as alike
use Rattle.gi_spelling.proofs.NumberedSame.{numbered_same}
use Rattle.gi_spelling.proofs.OneModule.{spelled_one}
use Rattle.gi_spelling.proofs.ReadSpells.{read_spelled}
use Rattle.gi_spelling.proofs.SamePrints.{printed_alike}
use Rattle.gi_answer.specs.Answers.{IsAnswer, IsOutput, IsTextOf}
use Rattle.gi_answer.specs.Checks.{target_of}
use Rattle.gi_answer.specs.NormalForm.{first_fit, rewritten, rewritten_at, next_at, last_generic, instr_at, next, Comes}
use Rattle.gi_answer.specs.Rows.{Site, selection_rows}
use Rattle.gi_answer.specs.Selectable.{IsSelectable, AllSelectable}
use Rattle.gi_answer.specs.Selection.{IsSameInstr, IsSelected, IsSelectedModule}
use Rattle.gi_answer.specs.Shapes.{ShapedInstr, CopyIn, MakeConstant, AddUp, CopyOut, Return, shaped_instr, IsShapedInstr}
use Rattle.gi_answer.specs.Unrun.{selects}
use Rattle.gi_options.specs.Options.{OptionsData, options_of}
use Rattle.gi_options.specs.declared.machine.Machine.{Machine}
use Rattle.gi_answer.proofs.AnswerLemmas.{its_told, its_selectable}
use Rattle.gi_answer.proofs.ClassedRuns.{classed_pairs}
use Rattle.gi_answer.proofs.CompileLaws.{SelectedBlock, selected_block, selected_empty, selected_name}
use Rattle.gi_answer.proofs.OneText.{one_selected_text}
use Rattle.gi_answer.proofs.SelectShapes.{is_nameless, is_nameless_operand}

-- ══ The number of a function's name doesn't matter to selection ══

abbrev named : ℕ → FunctionData → FunctionData
named k f = record f { name = k }

next_named_at : (k : ℕ) (f : FunctionData) (site : Site) (i : Option InstrData) → rewritten_at selection_rows (named k f) site i ≡ option_map (named k) (rewritten_at selection_rows f site i)
next_named_at k f site None = refl
next_named_at k f site (Some i) = by (first_fit selection_rows f site i)
  where
    by : (o : Option (List InstrData)) → option_map (rewritten (named k f) site) o ≡ option_map (named k) (option_map (rewritten f site) o)
    by None = refl
    by (Some is) = refl

next_named : (k : ℕ) (f : FunctionData) → next selection_rows (named k f) ≡ option_map (named k) (next selection_rows f)
next_named k f = by (last_generic f)
  where
    by : (site : Option Site) → next_at selection_rows (named k f) site ≡ option_map (named k) (next_at selection_rows f site)
    by None = refl
    by (Some site) = next_named_at k f site (instr_at f site)

comes_named : (k n : ℕ) (f g : FunctionData) → Comes selection_rows n f g → Comes selection_rows n (named k f) (named k g)
comes_named k zero f g h = (next_named k f ∙ ap (option_map (named k)) h.0, ap (named k) h.1)
comes_named k (suc n) f g h = (named k h.0, next_named k f ∙ ap (option_map (named k)) h.1, comes_named k n h.0 g h.2)

selected_named : (k : ℕ) (f g : FunctionData) → IsSelected f g → IsSelected (named k f) (named k g)
selected_named k f g made = record {
  normal = named k made.normal;
  is_normal = record { count = made.is_normal.count; comes = comes_named k made.is_normal.count f made.normal made.is_normal.comes };
  same = record {
    name = refl;
    legalized = made.same.legalized;
    banked = made.same.banked;
    chosen = made.same.chosen;
    stack = made.same.stack;
    blocks = made.same.blocks;
  };
}

-- ══ Functions without symbols are read in one way, but for their names ══

operand_read : (text : List ℕ) (names : List (List ℕ)) (old new : Operand) → IsNamedOperand text names old new → is_nameless_operand new ≡ true → new ≡ old
operand_read text names (operand.Global flag place) new is h = absurd (false≢true (sym (ap is_nameless_operand is.same) ∙ h))
operand_read text names _ new is h = is

operands_read : (text : List ℕ) (names : List (List ℕ)) (olds news : List Operand) → AllZip (IsNamedOperand text names) olds news → list_all is_nameless_operand news ≡ true → news ≡ olds
operands_read text names [] [] all h = refl
operands_read text names [] (n ∷ news) all h = absurd all
operands_read text names (o ∷ olds) [] all h = absurd all
operands_read text names (o ∷ olds) (n ∷ news) all h =
    let parts : (is_nameless_operand n ≡ true) × (list_all is_nameless_operand news ≡ true) = and_parts (is_nameless_operand n) (list_all is_nameless_operand news) h in
    ap₂ (λ k ks. k ∷ ks) (operand_read text names o n all.0 parts.0) (operands_read text names olds news all.1 parts.1)

abbrev instr_of : Opcode → Flags → List Operand → Option MemOp → ℕ → InstrData
instr_of o flags os mem line = record { op = o; flags = flags; operands = os; mem = mem; line = line }

instr_read : (text : List ℕ) (names : List (List ℕ)) (old new : ℕ × InstrData) → IsNamedEntry text names old new → is_nameless new ≡ true → new ≡ old
instr_read text names old new is h =
    let operands : new.1.operands ≡ old.1.operands = operands_read text names old.1.operands new.1.operands is.instr.operands h in
    let same : new.1 ≡ old.1 =
    ap₂ (λ o flags. instr_of o flags new.1.operands new.1.mem new.1.line) is.instr.op is.instr.flags
    ∙ ap₂ (λ os mem. instr_of old.1.op old.1.flags os mem new.1.line) operands is.instr.memory
    ∙ ap (λ line. instr_of old.1.op old.1.flags old.1.operands old.1.mem line) is.instr.line in
    ap₂ (λ (id : ℕ) (d : InstrData). (id, d)) is.id same

instrs_read : (text : List ℕ) (names : List (List ℕ)) (olds news : List (ℕ × InstrData)) → AllZip (IsNamedEntry text names) olds news → list_all is_nameless news ≡ true → news ≡ olds
instrs_read text names [] [] all h = refl
instrs_read text names [] (n ∷ news) all h = absurd all
instrs_read text names (o ∷ olds) [] all h = absurd all
instrs_read text names (o ∷ olds) (n ∷ news) all h =
    let parts : (is_nameless n ≡ true) × (list_all is_nameless news ≡ true) = and_parts (is_nameless n) (list_all is_nameless news) h in
    ap₂ (λ k ks. k ∷ ks) (instr_read text names o n all.0 parts.0) (instrs_read text names olds news all.1 parts.1)

abbrev block_of : List ℕ → List ℕ → List (ℕ × InstrData) → BlockData
block_of successors liveins instrs = record { successors = successors; liveins = liveins; instrs = instrs }

abbrev AreNameless : List BlockData → Type 0
AreNameless [] = Unit {0}
AreNameless (b ∷ bs) = (list_all is_nameless b.instrs ≡ true) × AreNameless bs

blocks_read : (text : List ℕ) (names : List (List ℕ)) (olds news : List BlockData) → AllZip (IsNamedBlock text names) olds news → AreNameless news → news ≡ olds
blocks_read text names [] [] all h = refl
blocks_read text names [] (n ∷ news) all h = absurd all
blocks_read text names (o ∷ olds) [] all h = absurd all
blocks_read text names (o ∷ olds) (n ∷ news) all h =
    let same : n ≡ o =
    ap₂ (λ successors liveins. block_of successors liveins n.instrs) (all.0).successors (all.0).liveins
    ∙ ap (λ instrs. block_of o.successors o.liveins instrs) (instrs_read text names o.instrs n.instrs (all.0).instrs h.0) in
    ap₂ (λ k ks. k ∷ ks) same (blocks_read text names olds news all.1 h.1)

abbrev function_with : ℕ → Bool → Bool → Bool → List StackObject → List BlockData → ℕ → ℕ → FunctionData
function_with name legalized banked selected stack blocks reg id =
    record { name = name; legalized = legalized; banked = banked; selected = selected; stack = stack; blocks = blocks; next_reg = reg; next_id = id }

function_read : (text : List ℕ) (names : List (List ℕ)) (old new : FunctionData) → IsNamedFunction text names old new → AreNameless new.blocks → new ≡ named new.name old
function_read text names old new is h =
    ap₂ (λ a b. function_with new.name a b new.selected new.stack new.blocks new.next_reg new.next_id) is.legalized is.banked
    ∙ ap₂ (λ a b. function_with new.name old.legalized old.banked a b new.blocks new.next_reg new.next_id) is.selected is.stack
    ∙ ap₂ (λ a b. function_with new.name old.legalized old.banked old.selected old.stack a b new.next_id) (blocks_read text names old.blocks new.blocks is.blocks h) is.next_reg
    ∙ ap (λ a. function_with new.name old.legalized old.banked old.selected old.stack old.blocks old.next_reg a) is.next_id

-- ══ What is selected, and what it is selected from, have no symbols ══

shape_nameless : (s : ShapedInstr) (line : ℕ) → list_all is_nameless_operand (shaped_instr s line).operands ≡ true
shape_nameless (CopyIn d p) line = refl
shape_nameless (MakeConstant d v) line = refl
shape_nameless (AddUp d a b) line = refl
shape_nameless (CopyOut p q) line = refl
shape_nameless Return line = refl

shapes_nameless : (ss : List ShapedInstr) (is : List (ℕ × InstrData)) → AllZip IsShapedInstr ss is → list_all is_nameless is ≡ true
shapes_nameless [] [] same = refl
shapes_nameless [] (i ∷ is) same = absurd same
shapes_nameless (s ∷ ss) [] same = absurd same
shapes_nameless (s ∷ ss) (i ∷ is) same =
    ap₂ (λ a b. a && b) (ap (λ (d : InstrData). list_all is_nameless_operand d.operands) same.0 ∙ shape_nameless s i.1.line) (shapes_nameless ss is same.1)

taken_nameless : (f : FunctionData) → IsSelectable f → AreNameless f.blocks
taken_nameless f (inl none) = subst AreNameless (sym none) tt
taken_nameless f (inr h) = subst AreNameless (sym h.blocks) (shapes_nameless h.shapes h.block.instrs h.shaped, tt)

classed_nameless : (os : List Operand) → list_all is_nameless_operand (map without_kind os) ≡ list_all is_nameless_operand os
classed_nameless [] = refl
classed_nameless (operand.Def r k ∷ os) = classed_nameless os
classed_nameless (operand.Global flag name ∷ os) = refl
classed_nameless (_ ∷ os) = classed_nameless os

instrs_nameless : (is js : List (ℕ × InstrData)) → AllZip IsSameInstr (classed_pairs is) js → list_all is_nameless is ≡ true → list_all is_nameless js ≡ true
instrs_nameless [] [] same h = refl
instrs_nameless [] (j ∷ js) same h = absurd same
instrs_nameless (i ∷ is) [] same h = absurd same
instrs_nameless (i ∷ is) (j ∷ js) same h =
    let parts : (is_nameless i ≡ true) × (list_all is_nameless is ≡ true) = and_parts (is_nameless i) (list_all is_nameless is) h in
    ap₂ (λ a b. a && b) (ap (λ (d : InstrData). list_all is_nameless_operand d.operands) same.0 ∙ classed_nameless i.1.operands ∙ parts.0) (instrs_nameless is js same.1 parts.1)

selected_nameless : (g : FunctionData) → IsSelectable g → (s : FunctionData) → IsSelected g s → AreNameless s.blocks
selected_nameless g (inl none) s made = subst AreNameless (sym (selected_empty g s none made).blocks) tt
selected_nameless g (inr h) s made =
    let one : SelectedBlock g h s = selected_block g h s made in
    subst AreNameless (sym one.blocks) (instrs_nameless one.came.back one.block.instrs one.instrs one.came.nameless, tt)

-- ══ Without symbols a block is the same by any names ══

module _ (names others : List (List ℕ)) where
  operand_alike : (o : Operand) → is_nameless_operand o ≡ true → alike.IsSameOperand names others o o
  operand_alike (operand.Global flag number) h = cc
  operand_alike _ h = refl

  operands_alike : (os : List Operand) → list_all is_nameless_operand os ≡ true → AllZip (alike.IsSameOperand names others) os os
  operands_alike [] h = tt
  operands_alike (o ∷ os) h =
      let parts : (is_nameless_operand o ≡ true) × (list_all is_nameless_operand os ≡ true) = and_parts (is_nameless_operand o) (list_all is_nameless_operand os) h in
      (operand_alike o parts.0, operands_alike os parts.1)

  instrs_alike : (is : List (ℕ × InstrData)) → list_all is_nameless is ≡ true → AllZip (alike.IsSameInstr names others) is is
  instrs_alike [] h = tt
  instrs_alike (i ∷ is) h =
      let parts : (is_nameless i ≡ true) × (list_all is_nameless is ≡ true) = and_parts (is_nameless i) (list_all is_nameless is) h in
      (record { op = refl; flags = refl; operands = operands_alike i.1.operands parts.0; memory = refl }, instrs_alike is parts.1)

  blocks_alike : (bs : List BlockData) → AreNameless bs → AllZip (alike.IsSameBlock names others) bs bs
  blocks_alike [] h = tt
  blocks_alike (b ∷ bs) h = (record { successors = refl; liveins = refl; instrs = instrs_alike b.instrs h.0 }, blocks_alike bs h.1)

-- ══ Two readings ══

-- the functions of one with the names of the other
abbrev renamed_as : (names_of : List FunctionData) → List FunctionData → List FunctionData
renamed_as (f ∷ fs) (g ∷ gs) = named f.name g ∷ renamed_as fs gs
renamed_as _ gs = gs

-- what is selected in the second reading is, with the names of the first, what is selected in the first
record IsRenamed (names others : List (List ℕ)) (fs ss : List FunctionData) : Type 0 where
  selected : AllZip IsSelected fs (renamed_as fs ss)
  same : AllZip (alike.IsSameFunction names others) (renamed_as fs ss) ss

one_renamed : (text : List ℕ) (names others : List (List ℕ)) (section : Section) (f g s : FunctionData) → IsReadFunction text names section f → IsReadFunction text others section g → IsSelectable f → IsSelectable g → IsSelected g s
    → IsSelected f (named f.name s) × alike.IsSameFunction names others (named f.name s) s
one_renamed text names others section f g s read_f read_g takes_f takes_g made =
    let old : FunctionData = function_of text (read_document text (entries_of section)) in
    let first : f ≡ named f.name old = function_read text names old f read_f.same (taken_nameless f takes_f) in
    let second : g ≡ named g.name old = function_read text others old g read_g.same (taken_nameless g takes_g) in
    let back : named f.name g ≡ f = ap (named f.name) second ∙ sym first in (
      subst (λ k. IsSelected k (named f.name s)) back (selected_named f.name g s made),
      record {
        name = ap (name_at others) (selected_name g takes_g s made) ∙ read_g.name ∙ sym read_f.name;
        legalized = refl;
        banked = refl;
        selected = refl;
        stack = refl;
        blocks = blocks_alike names others s.blocks (selected_nameless g takes_g s made);
      },
    )

all_renamed : (text : List ℕ) (names others : List (List ℕ)) (sections : List Section) (fs gs ss : List FunctionData) → AllZip (IsReadFunction text names) sections fs → AllZip (IsReadFunction text others) sections gs
    → AllSelectable fs → AllSelectable gs → AllZip IsSelected gs ss → IsRenamed names others fs ss
all_renamed text names others [] [] [] [] read_f read_g takes_f takes_g made = record { selected = tt; same = tt }
all_renamed text names others [] [] [] (s ∷ ss) read_f read_g takes_f takes_g made = absurd made
all_renamed text names others [] [] (g ∷ gs) ss read_f read_g takes_f takes_g made = absurd read_g
all_renamed text names others [] (f ∷ fs) gs ss read_f read_g takes_f takes_g made = absurd read_f
all_renamed text names others (c ∷ sections) [] gs ss read_f read_g takes_f takes_g made = absurd read_f
all_renamed text names others (c ∷ sections) (f ∷ fs) [] ss read_f read_g takes_f takes_g made = absurd read_g
all_renamed text names others (c ∷ sections) (f ∷ fs) (g ∷ gs) [] read_f read_g takes_f takes_g made = absurd made
all_renamed text names others (c ∷ sections) (f ∷ fs) (g ∷ gs) (s ∷ ss) read_f read_g takes_f takes_g made =
    let here = one_renamed text names others c f g s read_f.0 read_g.0 takes_f.0 takes_g.0 made.0 in
    let rest : IsRenamed names others fs ss = all_renamed text names others sections fs gs ss read_f.1 read_g.1 takes_f.1 takes_g.1 made.1 in
    record { selected = (here.0, rest.selected); same = (here.1, rest.same) }

-- what is selected from both readings is printed alike
selected_alike : (text : List ℕ) (m n a b : ModuleData) → IsReadModule text m → IsReadModule text n → AllSelectable m.functions → AllSelectable n.functions → IsSelectedModule m a → IsSelectedModule n b
    → printed (numbered_module a) ≡ printed (numbered_module b)
selected_alike text m n a b read_m read_n takes_m takes_n one other =
    let all : IsRenamed m.names n.names m.functions b.functions =
    all_renamed text m.names n.names (parts_of_text text).documents m.functions n.functions b.functions read_m.functions read_n.functions takes_m takes_n other.functions in
    let c : ModuleData = record { ir = m.ir; names = m.names; functions = renamed_as m.functions b.functions } in
    let is_c : IsSelectedModule m c = record { ir = refl; names = refl; functions = all.selected } in
    let alike_c : alike.IsSameModule c b = record {
      ir = other.ir ∙ read_n.ir ∙ sym read_m.ir;
      functions = subst (λ names. AllZip (alike.IsSameFunction m.names names) (renamed_as m.functions b.functions) b.functions) (sym other.names) all.same;
    } in
    one_selected_text m a c one is_c ∙ printed_alike (numbered_module c) (numbered_module b) (numbered_same c b alike_c)

-- ══ Texts ══

text_one : (text : List ℕ) (t : Bool) (m n : ModuleData) (a b : List ℕ) → IsReadModule text m → IsReadModule text n → (t ≡ true → AllSelectable m.functions) → (t ≡ true → AllSelectable n.functions) → IsTextOf t m a → IsTextOf t n b
    → a ≡ b
text_one text true m n a b read_m read_n takes_m takes_n one other =
    one.text ∙ selected_alike text m n one.selected other.selected read_m read_n (takes_m refl) (takes_n refl) one.selects other.selects ∙ sym other.text
text_one text false m n a b read_m read_n takes_m takes_n one other =
    one ∙ printed_alike (numbered_module m) (numbered_module n) (numbered_same m n (spelled_one text m n (read_spelled text m read_m) (read_spelled text n read_n))) ∙ sym other

ok_one : {A B : Type 0} (r : Result A B) (a b : A) → r ≡ Ok a → r ≡ Ok b → a ≡ b
ok_one r a b one other = cc

some_one : {A : Type 0} (o : Option A) (a b : A) → o ≡ Some a → o ≡ Some b → a ≡ b
some_one o a b one other = cc

-- the IR block is read in one way, and so is the target that it tells
target_one : (word : Option Machine) (read : List ℕ) (m n : ModuleData) → IsReadModule read m → IsReadModule read n → target_of word read n ≡ target_of word read m
target_one (Some machine) read m n read_m read_n = refl
target_one None read m n read_m read_n =
    let same : n.ir ≡ m.ir = read_n.ir ∙ sym read_m.ir in
    ap (λ ir. target_of None read (record { ir = ir; names = []; functions = [] })) same

answer_one : (options : OptionsData) (read a b : List ℕ) → IsAnswer options read a → IsAnswer options read b → a ≡ b
answer_one options read a b one other =
    let start : other.start ≡ one.start = some_one options.start other.start one.start other.passes.started one.passes.started in
    let told : target_of options.target read one.source ≡ Ok other.machine =
    sym (target_one options.target read one.source other.source one.passes.reads other.passes.reads) ∙ its_told options read other.start other.machine other.source other.passes in
    let machine : other.machine ≡ one.machine = ok_one (target_of options.target read one.source) other.machine one.machine told (its_told options read one.start one.machine one.source one.passes) in
    let t : selects other.start options.stop other.machine ≡ selects one.start options.stop one.machine = ap₂ (λ s m. selects s options.stop m) start machine in
    text_one read (selects one.start options.stop one.machine) one.source other.source a b one.passes.reads other.passes.reads
    (λ so. its_selectable options read one.start one.machine one.source one.passes one.built so)
    (λ so. its_selectable options read other.start other.machine other.source other.passes other.built (t ∙ so))
    one.text (subst (λ s. IsTextOf s other.source b) t other.text)

output_from : (words : List (List ℕ)) (read a b : List ℕ) (one : IsOutput words read a) (other : IsOutput words read b) → other.options ≡ one.options → a ≡ b
output_from words read a b one other same = answer_one one.options read a b one.answer (subst (λ o. IsAnswer o read b) same other.answer)

pub one_output : (words : List (List ℕ)) (read a b : List ℕ) → IsOutput words read a → IsOutput words read b → a ≡ b
one_output words read a b one other = output_from words read a b one other (ok_one (options_of words) other.options one.options other.taken one.taken)
