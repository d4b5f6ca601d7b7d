-- A text spells the module that it is read as.
use Rattle.std.proofs.Common.{◌≡◌, ℕ, suc, Bool, true, false, List, [], ◌∷◌, ◌++◌, length, Option, Some, None, map, refl, sym, ap, ◌∙◌, subst, append_assoc, append-nil, length-append, arith}
use Rattle.std.specs.Prelude.{◌&&◌, ◌||◌, not, ⊤, fold, nat_eq, codes, unwrap_or, slice_set, slice_index_or, if◌then◌else◌}
use Rattle.std.specs.List.{list_all, list_any, AllZip}
use Rattle.std.specs.Option.{option_map_or}
use Rattle.std.specs.Cmp.Derive.{both_true}
use Rattle.std.proofs.lemmas.Bool.{and_parts, eqb-true, or_right}
use Rattle.std.proofs.lemmas.Bool.Decides.{nat_tests}
use Rattle.std.proofs.lemmas.List.{map-append}
use Rattle.gi_llt.specs.declared.Llt.{Llt}
use Rattle.gi_llt.specs.Tokens.{past_run}
use Rattle.gi_mir.specs.declared.operand.Kind.{Kind}
use Rattle.gi_mir.specs.declared.operand.Reg.{Reg}
use Rattle.gi_mir.specs.declared.operand.Operand.{Operand}
use Rattle.gi_mir.specs.declared.operand.MemOp.{MemOp}
use Rattle.gi_mir.specs.declared.operand.StackObject.{StackObject}
use Rattle.gi_mir.specs.Data.{InstrData, BlockData, FunctionData, ModuleData}
use Rattle.gi_mir.specs.Edit.{block_with, empty_block, empty_function, with_block, with_stack, with_keys}
use Rattle.gi_mir.specs.Formed.{is_formed}
use Rattle.gi_spelling.specs.declared.written.Fault.TheVariants as fault
use Rattle.gi_spelling.specs.declared.written.Key.TheVariants.{Name, Legalized, Banked, Selected, Registers, Stack, Body as OfBody}
use Rattle.gi_spelling.specs.declared.written.ListKind.TheVariants.{Successors, Liveins}
use Rattle.gi_spelling.specs.Written.{WrittenData}
use Rattle.gi_spelling.specs.Items.{kept_items}
use Rattle.gi_spelling.specs.Lines.{Line, Section, parts_of_text, document_entries, document_strays, document_end}
use Rattle.gi_spelling.specs.Resolved.{Tables, each, formed, resolved_definition, resolved_source, resolved_memory, resolved}
use Rattle.gi_spelling.specs.Blocks.{wrong, is_head, head_number, head_faults, number_at, block_numbers, Body, no_body, body_of, bodies_from, wrongs_from, outer_wrong, kinds_in, has_type, type_of_register, shown_types, shown_at, shown_wrongs}
use Rattle.gi_spelling.specs.Documents.{Document, read_document, tables_of, bodies_of, without_ids, successors_of, head_of_body, with_last, with_body, function_of, entries_of, list_under, body_lines, register_wrongs, stack_entries, object_wrongs, is_missing, missing_wrongs, block_wrongs, line_wrongs, document_wrongs, entries_wrongs, ir_wrongs, first_wrong}
use Rattle.gi_spelling.specs.Named.{IsNamedEntry, IsNamedBlock}
use Rattle.gi_spelling.specs.Printed.{implied_successors}
use Rattle.gi_spelling.specs.Read.{IsReadFunction, IsReadModule}
use Rattle.gi_spelling.specs.Spelling.{type_at, types_in, SpellsInstr, is_list_line, lists_of, entries_with, SpellsTruth, SpellsSuccessors, SpellsLiveins, SpellsBlock, SpellsBlocks, SpellsName, are_distinct, SpellsDocument, Spells}
use Rattle.gi_spelling.proofs.ReadLines.{line_written}
use Rattle.gi_spelling.proofs.ReadWrongs.{first_none, append_none, map_none, all_keyed, at_most_one, truth_spells, list_spells, each_register, each_object, name_spells, body_spells}
use Rattle.gi_spelling.proofs.ReadBlocks.{ReadsAs}
use Rattle.gi_spelling.proofs.ReadHeads.{reads_block, successors_spelled, liveins_spelled}
use Rattle.gi_spelling.proofs.ReadKinds.{SameInstrs, types_same, is_fine, EachFine, shown_fine, implied_same}

abbrev seconds : List (ℕ × InstrData) → List InstrData
seconds instrs = map (λ i. i.1) instrs

-- ══ What is built ══

index_seam : (front : List BlockData) (b : BlockData) → slice_index_or (front ++ (b ∷ [])) (length front) empty_block ≡ b
index_seam [] b = refl
index_seam (x ∷ front) b = index_seam front b

set_seam : (front : List BlockData) (b c : BlockData) → slice_set (front ++ (b ∷ [])) (length front) c ≡ front ++ (c ∷ [])
set_seam [] b c = refl
set_seam (x ∷ front) b c = ap (λ more. x ∷ more) (set_seam front b c)

record KeepsKeys (f r : FunctionData) : Type 0 where
  legalized : r.legalized ≡ f.legalized
  banked : r.banked ≡ f.banked
  selected : r.selected ≡ f.selected
  stack : r.stack ≡ f.stack

record FillsLast (front : List BlockData) (b : BlockData) (instrs : List InstrData) (f r : FunctionData) : Type 0 where
  block : BlockData
  blocks : r.blocks ≡ front ++ (block ∷ [])
  successors : block.successors ≡ b.successors
  liveins : block.liveins ≡ b.liveins
  own : seconds block.instrs ≡ seconds b.instrs ++ instrs
  keys : KeepsKeys f r

fills_last : (instrs : List InstrData) (n : ℕ) (front : List BlockData) (b : BlockData) (f : FunctionData) → n ≡ length front → f.blocks ≡ front ++ (b ∷ [])
    → FillsLast front b instrs f (fold (with_last n) f instrs)
fills_last [] n front b f count blocks = record { block = b; blocks = blocks; successors = refl; liveins = refl; own = sym (append-nil (seconds b.instrs)); keys = record { legalized = refl; banked = refl; selected = refl; stack = refl } }
fills_last (instr ∷ instrs) n front b f count blocks =
    let new : ℕ × InstrData = (f.next_id, instr) in
    let at : slice_index_or f.blocks n empty_block ≡ b = rw (blocks, count) (index_seam front b) in
    let grown : BlockData = record b { instrs = b.instrs ++ (new ∷ []) } in
    let set_to : (with_last n f instr).blocks ≡ front ++ (grown ∷ []) =
    ap (λ (own : BlockData). slice_set f.blocks n (record own { instrs = own.instrs ++ (new ∷ []) })) at ∙ (ap (λ blocks. slice_set blocks n grown) blocks ∙ (ap (λ k. slice_set (front ++ (b ∷ [])) k grown) count ∙ set_seam front b grown)) in
    let rest = fills_last instrs n front grown (with_last n f instr) count set_to in
    record {
      block = rest.block;
      blocks = rest.blocks;
      successors = rest.successors;
      liveins = rest.liveins;
      own = rest.own ∙ (ap (λ (own : List InstrData). own ++ instrs) (map-append (λ (i : ℕ × InstrData). i.1) b.instrs (new ∷ [])) ∙ append_assoc (seconds b.instrs) (instr ∷ []) instrs);
      keys = record { legalized = rest.keys.legalized; banked = rest.keys.banked; selected = rest.keys.selected; stack = rest.keys.stack };
    }

-- a block of what is read
record IsBuilt (numbers : List ℕ) (place : ℕ) (body : Body) (block : BlockData) : Type 0 where
  successors : block.successors ≡ successors_of numbers place body
  liveins : block.liveins ≡ unwrap_or body.lists.liveins []
  own : seconds block.instrs ≡ body.instrs

abbrev AllBuilt : (numbers : List ℕ) (place : ℕ) → List Body → List BlockData → Type 0
AllBuilt numbers place [] [] = ⊤
AllBuilt numbers place [] (block ∷ blocks) = ⊥
AllBuilt numbers place (body ∷ bodies) [] = ⊥
AllBuilt numbers place (body ∷ bodies) (block ∷ blocks) = IsBuilt numbers place body block × AllBuilt numbers (suc place) bodies blocks

record Builds (numbers : List ℕ) (bodies : List Body) (f r : FunctionData) : Type 0 where
  new : List BlockData
  blocks : r.blocks ≡ f.blocks ++ new
  built : AllBuilt numbers (length f.blocks) bodies new
  keys : KeepsKeys f r

builds : (numbers : List ℕ) (bodies : List Body) (f : FunctionData) → Builds numbers bodies f (fold (with_body numbers) f bodies)
builds numbers [] f = record { new = []; blocks = sym (append-nil f.blocks); built = tt; keys = record { legalized = refl; banked = refl; selected = refl; stack = refl } }
builds numbers (body ∷ bodies) f =
    let head = head_of_body numbers (length f.blocks) body in
    let one = fills_last body.instrs (length f.blocks) f.blocks (block_with head) (with_block f head) refl refl in
    let next = with_body numbers f body in
    let rest = builds numbers bodies next in
    let count : length next.blocks ≡ suc (length f.blocks) = ap length one.blocks ∙ (length-append f.blocks (one.block ∷ []) ∙ omega arith) in
    record {
      new = one.block ∷ rest.new;
      blocks = rest.blocks ∙ (ap (λ (own : List BlockData). own ++ rest.new) one.blocks ∙ append_assoc f.blocks (one.block ∷ []) rest.new);
      built = (record { successors = one.successors; liveins = one.liveins; own = one.own }, subst (λ n. AllBuilt numbers n bodies rest.new) count rest.built);
      keys = record {
        legalized = rest.keys.legalized ∙ one.keys.legalized;
        banked = rest.keys.banked ∙ one.keys.banked;
        selected = rest.keys.selected ∙ one.keys.selected;
        stack = rest.keys.stack ∙ one.keys.stack;
      };
    }

record Stacks (objects : List StackObject) (f r : FunctionData) : Type 0 where
  legalized : r.legalized ≡ f.legalized
  banked : r.banked ≡ f.banked
  selected : r.selected ≡ f.selected
  blocks : r.blocks ≡ f.blocks
  stack : r.stack ≡ f.stack ++ objects

stacks : (objects : List StackObject) (f : FunctionData) → Stacks objects f (fold with_stack f objects)
stacks [] f = record { legalized = refl; banked = refl; selected = refl; blocks = refl; stack = sym (append-nil f.stack) }
stacks (object ∷ objects) f =
    let rest = stacks objects (with_stack f object) in
    record { legalized = rest.legalized; banked = rest.banked; selected = rest.selected; blocks = rest.blocks; stack = rest.stack ∙ append_assoc f.stack (object ∷ []) objects }

-- the function of a document
record IsFunctionOf (text : List ℕ) (document : Document) (f : FunctionData) : Type 0 where
  legalized : f.legalized ≡ document.legalized
  banked : f.banked ≡ document.banked
  selected : f.selected ≡ document.selected
  stack : f.stack ≡ document.objects
  built : AllBuilt (block_numbers text document.blocks.sections) 0 (bodies_of text document) f.blocks

function_built : (text : List ℕ) (document : Document) → IsFunctionOf text document (function_of text document)
function_built text document =
    let numbers = block_numbers text document.blocks.sections in
    let empty = with_keys (empty_function 0) document.legalized document.banked document.selected in
    let stacked = stacks document.objects empty in
    let whole = builds numbers (bodies_of text document) (fold with_stack empty document.objects) in
    let none : (fold with_stack empty document.objects).blocks ≡ [] = stacked.blocks in
    let blocks : (function_of text document).blocks ≡ whole.new = whole.blocks ∙ ap (λ (own : List BlockData). own ++ whole.new) none in
    record {
      legalized = whole.keys.legalized ∙ stacked.legalized;
      banked = whole.keys.banked ∙ stacked.banked;
      selected = whole.keys.selected ∙ stacked.selected;
      stack = whole.keys.stack ∙ stacked.stack;
      built = subst (AllBuilt numbers 0 (bodies_of text document)) (sym blocks) (subst (λ n. AllBuilt numbers n (bodies_of text document) whole.new) (ap length none) whole.built);
    }

-- ══ Instructions ══

formed_line : (instr meant : InstrData) → formed instr ≡ Some meant → meant.line ≡ instr.line
formed_line instr meant e = chosen (is_formed instr) e
  where
    chosen : (fine : Bool) → (if fine then Some instr else None) ≡ Some meant → meant.line ≡ instr.line
    chosen true e =
        let same : instr ≡ meant = cc in
        ap (λ (i : InstrData). i.line) (sym same)
    chosen false e = absurd (cc)

resolved_line : (tables : Tables) (written : WrittenData) (n : ℕ) (meant : InstrData) → resolved tables written n ≡ Some meant → meant.line ≡ n
resolved_line tables written n meant e =
    chosen (each (resolved_definition tables.classes) written.definitions) (each (resolved_source tables) written.sources) (resolved_memory written.memory) e
  where
    chosen : (definitions sources : Option (List Operand)) (memory : Option (Option MemOp))
        → option_map_or (λ definitions. option_map_or (λ sources. option_map_or (λ memory.
        formed (record { op = written.op; flags = written.flags; operands = definitions ++ sources; mem = memory; line = n })) memory None) sources None) definitions None ≡ Some meant → meant.line ≡ n
    chosen None sources memory e = absurd (cc)
    chosen (Some definitions) None memory e = absurd (cc)
    chosen (Some definitions) (Some sources) None e = absurd (cc)
    chosen (Some definitions) (Some sources) (Some memory) e = formed_line (record { op = written.op; flags = written.flags; operands = definitions ++ sources; mem = memory; line = n }) meant e

shown_same : (types : ℕ → Option Llt) (kinds : List (ℕ × Kind)) → ((reg : Reg) → type_of_register kinds reg ≡ types reg.0) → (n : ℕ) (shown : List (Reg × Llt))
    → list_all (λ s. is_fine kinds (shown_at n s)) shown ≡ true → list_all (type_at types) shown ≡ true
shown_same types kinds same n [] all = refl
shown_same types kinds same n (s ∷ shown) all =
    let parts = and_parts (is_fine kinds (shown_at n s)) (list_all (λ s. is_fine kinds (shown_at n s)) shown) all in
    both_true (ap (λ own. has_type own s.1) (sym (same s.0)) ∙ parts.0) (shown_same types kinds same n shown parts.1)

instrs_spelled : (text : List ℕ) (names : List (List ℕ)) (tables : Tables) (types : ℕ → Option Llt) (kinds : List (ℕ × Kind)) → ((reg : Reg) → type_of_register kinds reg ≡ types reg.0)
    → (lines : List Line) (old new : List (ℕ × InstrData)) → AllZip (ReadsAs text tables (is_fine kinds)) lines (seconds old) → AllZip (IsNamedEntry text names) old new
    → AllZip (SpellsInstr text names tables types) lines new
instrs_spelled text names tables types kinds same [] [] [] reads named = tt
instrs_spelled text names tables types kinds same lines [] (n ∷ new) reads named = absurd named
instrs_spelled text names tables types kinds same lines (o ∷ old) [] reads named = absurd named
instrs_spelled text names tables types kinds same [] (o ∷ old) (n ∷ new) reads named = absurd reads
instrs_spelled text names tables types kinds same (line ∷ lines) [] [] reads named = absurd reads
instrs_spelled text names tables types kinds same (line ∷ lines) (o ∷ old) (n ∷ new) reads named =
    let one = reads.0 in
    let numbered : (n.1).line ≡ line.number = named.0.instr.line ∙ resolved_line tables one.written line.number o.1 one.means in (
      record {
        items = one.items;
        tokens = one.tokens;
        written = one.written;
        spelled = line_written one.items one.written one.read;
        meant = o.1;
        means = ap (resolved tables one.written) numbered ∙ one.means;
        named = named.0.instr;
        shown = shown_same types kinds same line.number (shown_types one.written) one.shown;
      },
      instrs_spelled text names tables types kinds same lines old new reads.1 named.1,
    )

-- ══ Blocks ══

record IsHeaded (text : List ℕ) (earlier : List ℕ) (line : Line) : Type 0 where
  head : is_head (kept_items text line) ≡ true
  new : list_any (nat_eq (unwrap_or (head_number text line) 0)) earlier ≡ false

headed : (text : List ℕ) (earlier : List ℕ) (line : Line) → head_faults text earlier line ≡ [] → IsHeaded text earlier line
headed text earlier line e = chosen (is_head (kept_items text line)) refl (list_any (nat_eq (unwrap_or (head_number text line) 0)) earlier) refl e
  where
    chosen : (head : Bool) → is_head (kept_items text line) ≡ head → (again : Bool) → list_any (nat_eq (unwrap_or (head_number text line) 0)) earlier ≡ again
        → (if head && not again then [] else wrong line.number fault.Syntax ∷ []) ≡ [] → IsHeaded text earlier line
    chosen true is false also e = record { head = is; new = also }
    chosen true is true also e = absurd (cc)
    chosen false is again also e = absurd (cc)

block_spelled : (text : List ℕ) (names : List (List ℕ)) (tables : Tables) (types : ℕ → Option Llt) (kinds : List (ℕ × Kind)) → ((reg : Reg) → type_of_register kinds reg ≡ types reg.0)
    → (place : ℕ) (section : Section) (old new : BlockData) → is_head (kept_items text section.head) ≡ true → (body_of text tables place section).wrongs ≡ []
    → list_all (is_fine kinds) (body_of text tables place section).shown ≡ true → IsBuilt tables.blocks place (body_of text tables place section) old → IsNamedBlock text names old new
    → SpellsBlock text names tables types place section new
block_spelled text names tables types kinds same place section old new head right fine built named =
    let body = body_of text tables place section in
    let reads = reads_block text tables place (is_fine kinds) section.under no_body right fine in
    let same_instrs : SameInstrs text names body new = record { old = old.instrs; own = built.own; named = named.instrs } in
    let implied = implied_same text names place (length tables.blocks) body new same_instrs in
    let successors : successors_of tables.blocks place body ≡ new.successors = sym (named.successors ∙ built.successors) in
    let liveins : unwrap_or body.lists.liveins [] ≡ new.liveins = sym (named.liveins ∙ built.liveins) in
    let instrs : reads.instrs ≡ seconds old.instrs = sym (built.own ∙ reads.all) in
    record {
      headed = head;
      succeeded =
          subst (λ own. SpellsSuccessors text tables (lists_of text Successors section.under) (implied_successors place (length tables.blocks) new.instrs) own) successors
          (subst (λ own. SpellsSuccessors text tables (lists_of text Successors section.under) own (successors_of tables.blocks place body)) (sym implied)
          (successors_spelled text tables (lists_of text Successors section.under) (implied_successors place (length tables.blocks) (without_ids body.instrs)) body.lists.successors reads.successors));
      live = subst (λ own. SpellsLiveins text place (lists_of text Liveins section.under) own) liveins
          (liveins_spelled text place (lists_of text Liveins section.under) body.lists.liveins reads.liveins reads.first);
      instructed = instrs_spelled text names tables types kinds same (past_run (is_list_line text) section.under) old.instrs new.instrs
          (subst (λ own. AllZip (ReadsAs text tables (is_fine kinds)) (past_run (is_list_line text) section.under) own) instrs reads.each) named.instrs;
    }

blocks_spelled : (text : List ℕ) (names : List (List ℕ)) (tables : Tables) (types : ℕ → Option Llt) (kinds : List (ℕ × Kind)) → ((reg : Reg) → type_of_register kinds reg ≡ types reg.0)
    → (earlier : List ℕ) (place : ℕ) (sections : List Section) (olds news : List BlockData) → wrongs_from text tables earlier place sections ≡ [] → EachFine kinds (bodies_from text tables place sections)
    → AllBuilt tables.blocks place (bodies_from text tables place sections) olds → AllZip (IsNamedBlock text names) olds news → SpellsBlocks text names tables types place sections news
blocks_spelled text names tables types kinds same earlier place [] [] [] right fine built named = tt
blocks_spelled text names tables types kinds same earlier place [] [] (n ∷ news) right fine built named = absurd named
blocks_spelled text names tables types kinds same earlier place [] (o ∷ olds) news right fine built named = absurd built
blocks_spelled text names tables types kinds same earlier place (section ∷ sections) [] news right fine built named = absurd built
blocks_spelled text names tables types kinds same earlier place (section ∷ sections) (o ∷ olds) [] right fine built named = absurd named
blocks_spelled text names tables types kinds same earlier place (section ∷ sections) (o ∷ olds) (n ∷ news) right fine built named =
    let later = wrongs_from text tables (earlier ++ (number_at text section ∷ [])) (suc place) sections in
    let first = append_none (head_faults text earlier section.head) ((body_of text tables place section).wrongs ++ later) right in
    let second = append_none (body_of text tables place section).wrongs later first.1 in (
      block_spelled text names tables types kinds same place section o n (headed text earlier section.head first.0).head second.0 fine.0 built.0 named.0,
      blocks_spelled text names tables types kinds same (earlier ++ (number_at text section ∷ [])) (suc place) sections olds news second.1 fine.1 built.1 named.1,
    )

same_zip : (text : List ℕ) (names : List (List ℕ)) (numbers : List ℕ) (place : ℕ) (bodies : List Body) (olds news : List BlockData) → AllBuilt numbers place bodies olds → AllZip (IsNamedBlock text names) olds news
    → AllZip (SameInstrs text names) bodies news
same_zip text names numbers place [] [] [] built named = tt
same_zip text names numbers place [] [] (n ∷ news) built named = absurd named
same_zip text names numbers place [] (o ∷ olds) news built named = absurd built
same_zip text names numbers place (body ∷ bodies) [] news built named = absurd built
same_zip text names numbers place (body ∷ bodies) (o ∷ olds) [] built named = absurd named
same_zip text names numbers place (body ∷ bodies) (o ∷ olds) (n ∷ news) built named =
    (record { old = o.instrs; own = built.0.own; named = named.0.instrs }, same_zip text names numbers (suc place) bodies olds news built.1 named.1)

-- numbers of blocks are distinct
equal_numbers : (e n : ℕ) (earlier : List ℕ) → list_any (nat_eq e) earlier ≡ true → list_any (nat_eq n) earlier ≡ false → nat_eq e n ≡ false
equal_numbers e n earlier there new = chosen (nat_eq e n) refl
  where
    chosen : (equal : Bool) → nat_eq e n ≡ equal → equal ≡ false
    chosen true is =
        let same : e ≡ n = eqb-true e n is in
        let clash : list_any (nat_eq n) earlier ≡ true = subst (λ k. list_any (nat_eq k) earlier ≡ true) same there in
        absurd (cc)
    chosen false is = refl

any_more : (e : ℕ) (xs ys : List ℕ) → list_any (nat_eq e) xs ≡ true → list_any (nat_eq e) (xs ++ ys) ≡ true
any_more e [] ys there = absurd (cc)
any_more e (x ∷ xs) ys there = chosen (nat_eq e x) there (any_more e xs ys)
  where
    chosen : (b : Bool) → (b || list_any (nat_eq e) xs) ≡ true → (list_any (nat_eq e) xs ≡ true → list_any (nat_eq e) (xs ++ ys) ≡ true) → (b || list_any (nat_eq e) (xs ++ ys)) ≡ true
    chosen true there later = refl
    chosen false there later = later there

same_number : (n : ℕ) → nat_eq n n ≡ true
same_number n = grind (arith, nat_tests)

any_last : (n : ℕ) (xs : List ℕ) → list_any (nat_eq n) (xs ++ (n ∷ [])) ≡ true
any_last n [] = rw (same_number n) refl
any_last n (x ∷ xs) = or_right (nat_eq n x) (list_any (nat_eq n) (xs ++ (n ∷ []))) (any_last n xs)

not_later : (text : List ℕ) (tables : Tables) (e : ℕ) (earlier : List ℕ) (place : ℕ) (sections : List Section) → list_any (nat_eq e) earlier ≡ true → wrongs_from text tables earlier place sections ≡ []
    → list_any (nat_eq e) (block_numbers text sections) ≡ false
not_later text tables e earlier place [] there right = refl
not_later text tables e earlier place (section ∷ sections) there right =
    let later = wrongs_from text tables (earlier ++ (number_at text section ∷ [])) (suc place) sections in
    let first = append_none (head_faults text earlier section.head) ((body_of text tables place section).wrongs ++ later) right in
    let second = append_none (body_of text tables place section).wrongs later first.1 in
    let other = equal_numbers e (number_at text section) earlier there (headed text earlier section.head first.0).new in
    rw other (not_later text tables e (earlier ++ (number_at text section ∷ [])) (suc place) sections (any_more e earlier (number_at text section ∷ []) there) second.1)

distinct_numbers : (text : List ℕ) (tables : Tables) (earlier : List ℕ) (place : ℕ) (sections : List Section) → wrongs_from text tables earlier place sections ≡ []
    → are_distinct (block_numbers text sections) ≡ true
distinct_numbers text tables earlier place [] right = refl
distinct_numbers text tables earlier place (section ∷ sections) right =
    let later = wrongs_from text tables (earlier ++ (number_at text section ∷ [])) (suc place) sections in
    let first = append_none (head_faults text earlier section.head) ((body_of text tables place section).wrongs ++ later) right in
    let second = append_none (body_of text tables place section).wrongs later first.1 in
    let none = not_later text tables (number_at text section) (earlier ++ (number_at text section ∷ [])) (suc place) sections (any_last (number_at text section) earlier) second.1 in
    rw none (distinct_numbers text tables (earlier ++ (number_at text section ∷ [])) (suc place) sections second.1)

-- ══ A document ══

missing_by : (a b : Bool) (end : ℕ) → (if a || b then wrong end fault.Syntax ∷ [] else []) ≡ [] → (a ≡ false) × (b ≡ false)
missing_by true b end e = absurd (cc)
missing_by false true end e = absurd (cc)
missing_by false false end e = (refl, refl)

document_spelled : (text : List ℕ) (names : List (List ℕ)) (document : Section) (f : FunctionData) → document_wrongs text document ≡ [] → IsReadFunction text names document f → SpellsDocument text names document f
document_spelled text names document f right read =
    let sections = entries_of document in
    let parsed = read_document text sections in
    let tables = tables_of text parsed in
    let bodies = bodies_of text parsed in
    let strays = line_wrongs (document_strays document) in
    let missing = missing_wrongs (document_end document) sections in
    let wrongs_a = append_none (line_wrongs (document_entries document).before) (entries_wrongs text [] sections ++ (block_wrongs text parsed ++ (missing ++ strays))) right in
    let wrongs_b = append_none (entries_wrongs text [] sections) (block_wrongs text parsed ++ (missing ++ strays)) wrongs_a.1 in
    let wrongs_c = append_none (block_wrongs text parsed) (missing ++ strays) wrongs_b.1 in
    let wrongs_d = append_none missing strays wrongs_c.1 in
    let there = missing_by (is_missing (codes "name") sections) (is_missing (codes "body") sections) (document_end document) wrongs_d.0 in
    let entries = wrongs_b.0 in
    let outer = append_none (map (outer_wrong text) parsed.blocks.before) (wrongs_from text tables [] 0 parsed.blocks.sections ++ shown_wrongs bodies) wrongs_c.0 in
    let inner = append_none (wrongs_from text tables [] 0 parsed.blocks.sections) (shown_wrongs bodies) outer.1 in
    let built = function_built text parsed in
    let named = read.same in
    let olds = (function_of text parsed).blocks in
    let same : AllZip (SameInstrs text names) bodies f.blocks = same_zip text names tables.blocks 0 bodies olds f.blocks built.built named.blocks in
    let types : (reg : Reg) → type_of_register (kinds_in bodies) reg ≡ types_in f reg.0 = λ reg. types_same text names bodies f reg same in
    let blocks = blocks_spelled text names tables (types_in f) (kinds_in bodies) types [] 0 parsed.blocks.sections olds f.blocks inner.0 (shown_fine bodies inner.1) built.built named.blocks in
    let stack : f.stack ≡ parsed.objects = named.stack ∙ built.stack in
    let registers = list_spells text Registers sections (register_wrongs text) refl (at_most_one text Registers [] sections entries) (λ section. refl) in
    let objects = list_spells text Stack sections (λ lines. object_wrongs 0 (stack_entries text lines)) refl (at_most_one text Stack [] sections entries) (λ section. refl) in
    record {
      from_a_key = map_none (λ (line : Line). wrong line.number fault.Syntax) (document_entries document).before wrongs_a.0;
      to_the_end = map_none (λ (line : Line). wrong line.number fault.Syntax) (document_strays document) wrongs_d.1;
      entries = record {
        keyed = all_keyed text [] sections entries;
        named = subst (λ own. SpellsName own (entries_with (codes "name") sections)) (sym read.name) (name_spells text sections (at_most_one text Name [] sections entries) there.0);
        legal = subst (λ own. SpellsTruth text (entries_with (codes "legalized") sections) own) (sym (named.legalized ∙ built.legalized))
            (truth_spells text Legalized sections (at_most_one text Legalized [] sections entries) (λ section. refl));
        banked = subst (λ own. SpellsTruth text (entries_with (codes "regBankSelected") sections) own) (sym (named.banked ∙ built.banked))
            (truth_spells text Banked sections (at_most_one text Banked [] sections entries) (λ section. refl));
        chosen = subst (λ own. SpellsTruth text (entries_with (codes "selected") sections) own) (sym (named.selected ∙ built.selected))
            (truth_spells text Selected sections (at_most_one text Selected [] sections entries) (λ section. refl));
        registers = list_under text (codes "registers") sections;
        registered = registers.lists;
        each_register = each_register text (list_under text (codes "registers") sections) registers.right;
        objects = list_under text (codes "stack") sections;
        stacked = objects.lists;
        stack = stack;
        each_object = ap length stack ∙ each_object 0 (stack_entries text (list_under text (codes "stack") sections)) objects.right;
        lines = body_lines text sections;
        bodied = body_spells text sections (at_most_one text OfBody [] sections entries) there.1;
        from_a_head = map_none (outer_wrong text) parsed.blocks.before outer.0;
        distinct = distinct_numbers text tables [] 0 parsed.blocks.sections inner.0;
        blocks = subst (λ n. SpellsBlocks text names (record { classes = parsed.classes; blocks = tables.blocks; objects = n }) (types_in f) 0 parsed.blocks.sections f.blocks) (ap length (sym stack)) blocks;
      };
    }

documents_spelled : (text : List ℕ) (names : List (List ℕ)) (documents : List Section) (functions : List FunctionData) → first_wrong (map (document_wrongs text) documents) ≡ None
    → AllZip (IsReadFunction text names) documents functions → AllZip (SpellsDocument text names) documents functions
documents_spelled text names [] [] right read = tt
documents_spelled text names [] (f ∷ functions) right read = absurd read
documents_spelled text names (document ∷ documents) [] right read = absurd read
documents_spelled text names (document ∷ documents) (f ∷ functions) right read =
    let parts = first_none (document_wrongs text document) (map (document_wrongs text) documents) right in
    (document_spelled text names document f parts.0 read.0, documents_spelled text names documents functions parts.1 read.1)

pub read_spelled : (text : List ℕ) (m : ModuleData) → IsReadModule text m → Spells text m
read_spelled text m read =
    let parts = parts_of_text text in
    let ir = first_none (ir_wrongs parts.ir) (line_wrongs parts.strays ∷ map (document_wrongs text) parts.documents) read.right in
    let strays = first_none (line_wrongs parts.strays) (map (document_wrongs text) parts.documents) ir.1 in
    record {
      ir = record { same = read.ir; is_text = ir.0 };
      no_strays = map_none (λ (line : Line). wrong line.number fault.Syntax) parts.strays strays.0;
      documents = documents_spelled text m.names parts.documents m.functions strays.1 read.functions;
    }
