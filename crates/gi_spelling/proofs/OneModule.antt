-- Two modules that one text spells are the same.
use Rattle.std.proofs.Common.{◌≡◌, ℕ, zero, suc, Bool, true, false, List, [], ◌∷◌, length, Option, Some, Ok, map, refl, sym, ap, ◌∙◌, subst, inl, inr}
use Rattle.gi_mir.specs.Names.{name_at}
use Rattle.std.specs.Prelude.{codes}
use Rattle.std.specs.List.{AllZip}
use Rattle.gi_llt.specs.Tokens.{past_run}
use Rattle.gi_llt.specs.declared.Llt.{Llt}
use Rattle.gi_mir.specs.declared.operand.Operand.{Operand}
use Rattle.gi_mir.specs.declared.operand.Operand.TheVariants as operand
use Rattle.gi_mir.specs.Data.{InstrData, BlockData, FunctionData, ModuleData}
use Rattle.gi_spelling.specs.declared.token.Word.TheVariants as word
use Rattle.gi_spelling.specs.declared.token.What.TheVariants as what
use Rattle.gi_spelling.specs.declared.written.ListKind.TheVariants.{Successors, Liveins}
use Rattle.gi_spelling.specs.Items.{kept_items}
use Rattle.gi_spelling.specs.Lines.{Line, Section, parts_of_text}
use Rattle.gi_spelling.specs.Named.{IsNamedOperand}
use Rattle.gi_spelling.specs.Printed.{implied_successors}
use Rattle.gi_spelling.specs.Reading.{read_instr}
use Rattle.gi_spelling.specs.Resolved.{Tables, resolved, block_place}
use Rattle.gi_spelling.specs.Same.{IsSameOperand, IsSameInstr, IsSameBlock, IsSameFunction, IsSameModule}
use Rattle.gi_spelling.specs.Written.{WrittenData}
use Rattle.gi_spelling.specs.Blocks.{listed_in, blocks_in, block_numbers}
use Rattle.gi_spelling.specs.Documents.{entries_of, registers_in, objects_from, stack_entries}
use Rattle.gi_spelling.specs.Spelling.{SpellsInstr, is_list_line, lists_of, SpellsSuccessors, SpellsLiveins, SpellsBlock, SpellsBlocks, entries_with, SpellsTruth, Lists, SpellsName, SpellsBody, types_in, SpellsEntries, SpellsDocument, Spells}
use Rattle.gi_spelling.proofs.SamePrints.{implied_same}
use Rattle.gi_spelling.proofs.SpelledReads.{at_line, resolved_at, successors_read, liveins_read}
use Rattle.gi_spelling.proofs.WrittenLines.{line_read}

-- what fits the same items one by one fits one another
joined : {A B C : Type 0} (R : A → B → Type 0) (S : A → C → Type 0) (T : B → C → Type 0) → ((a : A) (b : B) (c : C) → R a b → S a c → T b c) → (xs : List A) (ys : List B) (zs : List C)
    → AllZip R xs ys → AllZip S xs zs → AllZip T ys zs
joined R S T join [] [] [] first second = tt
joined R S T join [] [] (c ∷ zs) first second = absurd second
joined R S T join [] (b ∷ ys) zs first second = absurd first
joined R S T join (a ∷ xs) [] zs first second = absurd first
joined R S T join (a ∷ xs) (b ∷ ys) [] first second = absurd second
joined R S T join (a ∷ xs) (b ∷ ys) (c ∷ zs) first second = (join a b c first.0 second.0, joined R S T join xs ys zs first.1 second.1)

-- ══ Instructions ══

operand_one : (text : List ℕ) (names others : List (List ℕ)) (o a b : Operand) → IsNamedOperand text names o a → IsNamedOperand text others o b → IsSameOperand names others a b
operand_one text names others (operand.Global flag place) a b s t =
    subst (λ a. IsSameOperand names others a b) (sym s.same) (record { other_number = t.number; same = t.same; named = t.named ∙ sym s.named })
operand_one text names others (operand.Def r k) a b s t = subst (λ a. IsSameOperand names others a b) (sym s) t
operand_one text names others (operand.Use r) a b s t = subst (λ a. IsSameOperand names others a b) (sym s) t
operand_one text names others _ a b s t = subst (λ a. IsSameOperand names others a b) (sym s) t

instr_one : (text : List ℕ) (names others : List (List ℕ)) (tables : Tables) (types kinds : ℕ → Option Llt) (line : Line) (a b : ℕ × InstrData)
    → SpellsInstr text names tables types line a → SpellsInstr text others tables kinds line b → IsSameInstr names others a b
instr_one text names others tables types kinds line a b s t =
    let tokens : Some s.items ≡ Some t.items = sym s.tokens ∙ t.tokens in
    let items : s.items ≡ t.items = cc in
    let read : Ok s.written ≡ read_instr t.items = sym (line_read s.items s.written s.spelled) ∙ ap read_instr items in
    let reads : read_instr t.items ≡ Ok t.written = line_read t.items t.written t.spelled in
    let written : s.written ≡ t.written = cc in
    let means : Some (at_line 0 s.meant) ≡ Some (at_line 0 t.meant) =
    sym (resolved_at tables s.written (a.1).line 0 s.meant s.means) ∙ (ap (λ (w : WrittenData). resolved tables w 0) written ∙ resolved_at tables t.written (b.1).line 0 t.meant t.means) in
    let meant : at_line 0 s.meant ≡ at_line 0 t.meant = cc in
    record {
      op = t.named.op ∙ sym (ap (λ (i : InstrData). i.op) meant) ∙ sym s.named.op;
      flags = t.named.flags ∙ sym (ap (λ (i : InstrData). i.flags) meant) ∙ sym s.named.flags;
      operands = joined (IsNamedOperand text names) (IsNamedOperand text others) (IsSameOperand names others) (operand_one text names others) (t.meant).operands (a.1).operands (b.1).operands
          (subst (λ operands. AllZip (IsNamedOperand text names) operands (a.1).operands) (ap (λ (i : InstrData). i.operands) meant) s.named.operands) t.named.operands;
      memory = t.named.memory ∙ sym (ap (λ (i : InstrData). i.mem) meant) ∙ sym s.named.memory;
    }

-- ══ Blocks ══

successors_one : (text : List ℕ) (tables : Tables) (lines : List Line) (implied implied_too xs ys : List ℕ) → implied_too ≡ implied
    → SpellsSuccessors text tables lines implied xs → SpellsSuccessors text tables lines implied_too ys → ys ≡ xs
successors_one text tables [] implied implied_too xs ys same s t = t ∙ same ∙ sym s
successors_one text tables (line ∷ []) implied implied_too xs ys same s t =
    let first = successors_read (listed_in (kept_items text line)) s.numbers s.stated.same in
    let second = successors_read (listed_in (kept_items text line)) t.numbers t.stated.same in
    let numbers : t.numbers ≡ s.numbers = cc in
    t.same ∙ ap (map (block_place tables.blocks)) numbers ∙ sym s.same
successors_one text tables (line ∷ other ∷ more) implied implied_too xs ys same s t = absurd s

liveins_one : (text : List ℕ) (place : ℕ) (lines : List Line) (xs ys : List ℕ) → SpellsLiveins text place lines xs → SpellsLiveins text place lines ys → ys ≡ xs
liveins_one text zero [] xs ys s t = t ∙ sym s
liveins_one text (suc place) [] xs ys s t = t ∙ sym s
liveins_one text zero (line ∷ []) xs ys s t =
    let first = liveins_read (listed_in (kept_items text line)) xs s.0 s.1.same in
    let second = liveins_read (listed_in (kept_items text line)) ys t.0 t.1.same in
    cc
liveins_one text zero (line ∷ other ∷ more) xs ys s t = absurd s
liveins_one text (suc place) (line ∷ more) xs ys s t = absurd s

block_one : (text : List ℕ) (names others : List (List ℕ)) (tables : Tables) (types kinds : ℕ → Option Llt) (place : ℕ) (section : Section) (a b : BlockData)
    → SpellsBlock text names tables types place section a → SpellsBlock text others tables kinds place section b → IsSameBlock names others a b
block_one text names others tables types kinds place section a b s t =
    let instrs = joined (SpellsInstr text names tables types) (SpellsInstr text others tables kinds) (IsSameInstr names others) (instr_one text names others tables types kinds)
    (past_run (is_list_line text) section.under) a.instrs b.instrs s.instructed t.instructed in
    record {
      successors = successors_one text tables (lists_of text Successors section.under) (implied_successors place (length tables.blocks) a.instrs) (implied_successors place (length tables.blocks) b.instrs) a.successors b.successors
          (implied_same names others place (length tables.blocks) a.instrs b.instrs instrs) s.succeeded t.succeeded;
      liveins = liveins_one text place (lists_of text Liveins section.under) a.liveins b.liveins s.live t.live;
      instrs = instrs;
    }

blocks_one : (text : List ℕ) (names others : List (List ℕ)) (tables : Tables) (types kinds : ℕ → Option Llt) (place : ℕ) (sections : List Section) (xs ys : List BlockData)
    → SpellsBlocks text names tables types place sections xs → SpellsBlocks text others tables kinds place sections ys → AllZip (IsSameBlock names others) xs ys
blocks_one text names others tables types kinds place [] [] [] s t = tt
blocks_one text names others tables types kinds place [] [] (b ∷ ys) s t = absurd t
blocks_one text names others tables types kinds place [] (a ∷ xs) ys s t = absurd s
blocks_one text names others tables types kinds place (section ∷ sections) [] ys s t = absurd s
blocks_one text names others tables types kinds place (section ∷ sections) (a ∷ xs) [] s t = absurd t
blocks_one text names others tables types kinds place (section ∷ sections) (a ∷ xs) (b ∷ ys) s t =
    (block_one text names others tables types kinds place section a b s.0 t.0, blocks_one text names others tables types kinds (suc place) sections xs ys s.1 t.1)

-- ══ Entries ══

truth_one : (text : List ℕ) (sections : List Section) (a b : Bool) → SpellsTruth text sections a → SpellsTruth text sections b → b ≡ a
truth_one text [] a b s t = t ∙ sym s
truth_one text (section ∷ []) true true s t = refl
truth_one text (section ∷ []) true false s t = absurd (differ (sym s.0 ∙ t.0))
  where
    differ : Some (what.Word word.True ∷ []) ≡ Some (what.Word word.False ∷ []) → ⊥
    differ e = cc
truth_one text (section ∷ []) false true s t = absurd (differ (sym t.0 ∙ s.0))
  where
    differ : Some (what.Word word.True ∷ []) ≡ Some (what.Word word.False ∷ []) → ⊥
    differ e = cc
truth_one text (section ∷ []) false false s t = refl
truth_one text (section ∷ other ∷ more) a b s t = absurd s

lists_one : (text : List ℕ) (sections : List Section) (xs ys : List Line) → Lists text sections xs → Lists text sections ys → ys ≡ xs
lists_one text [] xs ys s t = t ∙ sym s
lists_one text (section ∷ []) xs ys (inl s) (inl t) = t.1 ∙ sym s.1
lists_one text (section ∷ []) xs ys (inl s) (inr t) = t.2 ∙ sym t.1 ∙ sym s.1
lists_one text (section ∷ []) xs ys (inr s) (inl t) = t.1 ∙ s.1 ∙ sym s.2
lists_one text (section ∷ []) xs ys (inr s) (inr t) = t.2 ∙ sym s.2
lists_one text (section ∷ other ∷ more) xs ys s t = absurd s

name_one : (sections : List Section) (a b : List ℕ) → SpellsName a sections → SpellsName b sections → b ≡ a
name_one [] a b s t = absurd s
name_one (section ∷ []) a b s t = sym t.0 ∙ s.0
name_one (section ∷ other ∷ more) a b s t = absurd s

body_one : (text : List ℕ) (sections : List Section) (xs ys : List Line) → SpellsBody text sections xs → SpellsBody text sections ys → ys ≡ xs
body_one text [] xs ys s t = absurd s
body_one text (section ∷ []) xs ys s t = t.1 ∙ sym s.1
body_one text (section ∷ other ∷ more) xs ys s t = absurd s

-- what the lines of a function rest on
abbrev tables_by : (text : List ℕ) (registers lines : List Line) (objects : ℕ) → Tables
tables_by text registers lines objects = record { classes = registers_in text registers; blocks = block_numbers text (blocks_in text lines).sections; objects = objects }

entries_one : (text : List ℕ) (names others : List (List ℕ)) (sections : List Section) (f g : FunctionData)
    → SpellsEntries text names sections f → SpellsEntries text others sections g → IsSameFunction names others f g
entries_one text names others sections f g s t =
    let registers = lists_one text (entries_with (codes "registers") sections) s.registers t.registers s.registered t.registered in
    let objects = lists_one text (entries_with (codes "stack") sections) s.objects t.objects s.stacked t.stacked in
    let lines = body_one text (entries_with (codes "body") sections) s.lines t.lines s.bodied t.bodied in
    let stack : g.stack ≡ f.stack = t.stack ∙ ap (λ lines. objects_from 0 (stack_entries text lines)) objects ∙ sym s.stack in
    let at_registers = subst (λ registers. SpellsBlocks text others (tables_by text registers t.lines (length g.stack)) (types_in g) 0 (blocks_in text t.lines).sections g.blocks) registers t.blocks in
    let at_lines = subst (λ lines. SpellsBlocks text others (tables_by text s.registers lines (length g.stack)) (types_in g) 0 (blocks_in text lines).sections g.blocks) lines at_registers in
    let at_objects = subst (λ stack. SpellsBlocks text others (tables_by text s.registers s.lines (length stack)) (types_in g) 0 (blocks_in text s.lines).sections g.blocks) stack at_lines in
    record {
      name = name_one (entries_with (codes "name") sections) (name_at names f.name) (name_at others g.name) s.named t.named;
      legalized = truth_one text (entries_with (codes "legalized") sections) f.legalized g.legalized s.legal t.legal;
      banked = truth_one text (entries_with (codes "regBankSelected") sections) f.banked g.banked s.banked t.banked;
      selected = truth_one text (entries_with (codes "selected") sections) f.selected g.selected s.chosen t.chosen;
      stack = stack;
      blocks = blocks_one text names others (tables_by text s.registers s.lines (length f.stack)) (types_in f) (types_in g) 0 (blocks_in text s.lines).sections f.blocks g.blocks s.blocks at_objects;
    }

document_one : (text : List ℕ) (names others : List (List ℕ)) (document : Section) (f g : FunctionData)
    → SpellsDocument text names document f → SpellsDocument text others document g → IsSameFunction names others f g
document_one text names others document f g s t = entries_one text names others (entries_of document) f g s.entries t.entries

pub spelled_one : (text : List ℕ) (m n : ModuleData) → Spells text m → Spells text n → IsSameModule m n
spelled_one text m n s t = record {
  ir = t.ir.same ∙ sym s.ir.same;
  functions = joined (SpellsDocument text m.names) (SpellsDocument text n.names) (IsSameFunction m.names n.names) (document_one text m.names n.names) (parts_of_text text).documents m.functions n.functions s.documents t.documents;
}
