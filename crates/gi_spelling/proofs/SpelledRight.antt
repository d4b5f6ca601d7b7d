-- A text that spells a module isn't refused.
use Rattle.std.proofs.Common.{◌≡◌, ℕ, suc, Bool, true, false, List, [], ◌∷◌, ◌++◌, length, Option, Some, None, map, refl, sym, ap, ◌∙◌, arith}
use Rattle.std.specs.Prelude.{◌||◌, not, ⊤, nat_eq, filter, filter_map, option_map, flat_map, unwrap_or, codes, if◌then◌else◌}
use Rattle.std.specs.List.{list_all, list_any, AllZip}
use Rattle.std.specs.Cmp.Derive.{both_true}
use Rattle.std.proofs.lemmas.Bool.{and_parts, not-true}
use Rattle.std.proofs.lemmas.Bool.Decides.{nat_tests}
use Rattle.std.proofs.lemmas.List.Folds.{list_all-append, list_any-append}
use Rattle.gi_llt.specs.declared.Llt.{Llt}
use Rattle.gi_mir.specs.declared.operand.Kind.{Kind}
use Rattle.gi_mir.specs.declared.operand.Reg.{Reg}
use Rattle.gi_mir.specs.Data.{InstrData, BlockData, FunctionData, ModuleData}
use Rattle.gi_spelling.specs.declared.written.Key.{Key}
use Rattle.gi_spelling.specs.declared.written.Key.TheVariants.{Name, Legalized, Banked, Selected, Registers, Stack, Body as OfBody}
use Rattle.gi_spelling.specs.declared.written.Shown.{Shown}
use Rattle.gi_spelling.specs.declared.token.Item.{Item}
use Rattle.gi_spelling.specs.declared.token.What.TheVariants as what
use Rattle.gi_spelling.specs.Items.{what_in, kept_items, value_items}
use Rattle.gi_spelling.specs.Lines.{Line, Section, Sections, is_entry_of, parts_of_text, document_entries, document_strays, document_end}
use Rattle.gi_spelling.specs.Resolved.{Tables}
use Rattle.gi_spelling.specs.Blocks.{is_head, head_number, head_faults, number_at, block_numbers, blocks_in, Body, no_body, body_of, bodies_from, wrongs_from, outer_wrong, kinds_in, type_of_register, has_type, shown_wrong, shown_wrongs}
use Rattle.gi_spelling.specs.Documents.{is_bar, read_document, tables_of, entries_of, body_lines, register_wrongs, registers_in, stack_entries, objects_from, object_wrongs, is_missing, missing_wrongs, block_wrongs, line_wrongs, document_wrongs, first_wrong, wrong_in}
use Rattle.gi_spelling.specs.Spelling.{types_in, SpellsName, SpellsBody, SpellsBlock, SpellsBlocks, are_distinct, entries_with, SpellsEntries, SpellsDocument, Spells}
use Rattle.gi_spelling.proofs.ReadKinds.{SharesOperands, SameOperands, types_shared}
use Rattle.gi_spelling.proofs.SpelledEntries.{Single, entries_right, find_by, truth_single, name_single, body_single, list_read, registers_right, objects_right}
use Rattle.gi_spelling.proofs.SpelledReads.{successors_fit, liveins_fit, ReadFrom, fits_type, block_runs}

-- ══ Blocks ══

abbrev seconds : List (ℕ × InstrData) → List InstrData
seconds instrs = map (λ i. i.1) instrs

without_number : List InstrData → List (ℕ × InstrData)
without_number instrs = map (λ i. (0, i)) instrs

seconds_of : (instrs : List InstrData) → seconds (without_number instrs) ≡ instrs
unfolding without_number
seconds_of [] = refl
seconds_of (instr ∷ instrs) = ap (λ more. instr ∷ more) (seconds_of instrs)

share_from : (text : List ℕ) (names : List (List ℕ)) (meants : List InstrData) (instrs : List (ℕ × InstrData)) → AllZip (ReadFrom text names) meants instrs
    → AllZip (SharesOperands text names) (without_number meants) instrs
unfolding without_number
share_from text names [] [] all = tt
share_from text names [] (instr ∷ instrs) all = absurd all
share_from text names (meant ∷ meants) [] all = absurd all
share_from text names (meant ∷ meants) (instr ∷ instrs) all = (record { operands = all.0.operands }, share_from text names meants instrs all.1)

-- blocks in which nothing is wrong
record BlockRight (text : List ℕ) (names : List (List ℕ)) (tables : Tables) (types : ℕ → Option Llt) (place : ℕ) (section : Section) (block : BlockData) : Type 0 where
  head : is_head (kept_items text section.head) ≡ true
  right : (body_of text tables place section).wrongs ≡ []
  shown : list_all (fits_type types) (body_of text tables place section).shown ≡ true
  same : SameOperands text names (body_of text tables place section) block

block_right : (text : List ℕ) (names : List (List ℕ)) (tables : Tables) (types : ℕ → Option Llt) (place : ℕ) (section : Section) (block : BlockData) → SpellsBlock text names tables types place section block
    → BlockRight text names tables types place section block
block_right text names tables types place section block spelled =
    let runs = block_runs text names tables types place section.under block.instrs no_body refl refl (successors_fit text tables _ _ _ spelled.succeeded) (liveins_fit text place _ _ spelled.live) spelled.instructed in
    record {
      head = spelled.headed;
      right = runs.right;
      shown = runs.shown refl;
      same = record { old = without_number runs.meants; own = seconds_of runs.meants ∙ sym runs.own; shared = share_from text names runs.meants block.instrs runs.from };
    }

abbrev AllRight : (text : List ℕ) (names : List (List ℕ)) (tables : Tables) (types : ℕ → Option Llt) (place : ℕ) → List Section → List BlockData → Type 0
AllRight text names tables types place [] [] = ⊤
AllRight text names tables types place [] (block ∷ blocks) = ⊥
AllRight text names tables types place (section ∷ sections) [] = ⊥
AllRight text names tables types place (section ∷ sections) (block ∷ blocks) = BlockRight text names tables types place section block × AllRight text names tables types (suc place) sections blocks

all_right : (text : List ℕ) (names : List (List ℕ)) (tables : Tables) (types : ℕ → Option Llt) (place : ℕ) (sections : List Section) (blocks : List BlockData) → SpellsBlocks text names tables types place sections blocks
    → AllRight text names tables types place sections blocks
all_right text names tables types place [] [] spelled = tt
all_right text names tables types place [] (block ∷ blocks) spelled = absurd spelled
all_right text names tables types place (section ∷ sections) [] spelled = absurd spelled
all_right text names tables types place (section ∷ sections) (block ∷ blocks) spelled =
    (block_right text names tables types place section block spelled.0, all_right text names tables types (suc place) sections blocks spelled.1)

same_operands : (text : List ℕ) (names : List (List ℕ)) (tables : Tables) (types : ℕ → Option Llt) (place : ℕ) (sections : List Section) (blocks : List BlockData)
    → AllRight text names tables types place sections blocks → AllZip (SameOperands text names) (bodies_from text tables place sections) blocks
same_operands text names tables types place [] [] all = tt
same_operands text names tables types place [] (block ∷ blocks) all = absurd all
same_operands text names tables types place (section ∷ sections) [] all = absurd all
same_operands text names tables types place (section ∷ sections) (block ∷ blocks) all = (all.0.same, same_operands text names tables types (suc place) sections blocks all.1)

all_shown : (text : List ℕ) (names : List (List ℕ)) (tables : Tables) (types : ℕ → Option Llt) (place : ℕ) (sections : List Section) (blocks : List BlockData)
    → AllRight text names tables types place sections blocks → list_all (fits_type types) (flat_map (λ (body : Body). body.shown) (bodies_from text tables place sections)) ≡ true
all_shown text names tables types place [] [] all = refl
all_shown text names tables types place [] (block ∷ blocks) all = absurd all
all_shown text names tables types place (section ∷ sections) [] all = absurd all
all_shown text names tables types place (section ∷ sections) (block ∷ blocks) all =
    list_all-append (fits_type types) (body_of text tables place section).shown (flat_map (λ (body : Body). body.shown) (bodies_from text tables (suc place) sections))
    ∙ both_true all.0.shown (all_shown text names tables types (suc place) sections blocks all.1)

none_shown : (types : ℕ → Option Llt) (kinds : List (ℕ × Kind)) → ((reg : Reg) → type_of_register kinds reg ≡ types reg.0) → (shown : List Shown) → list_all (fits_type types) shown ≡ true
    → filter_map (shown_wrong kinds) shown ≡ []
none_shown types kinds same [] all = refl
none_shown types kinds same (s ∷ shown) all =
    let parts = and_parts (fits_type types s) (list_all (fits_type types) shown) all in
    let here : has_type (type_of_register kinds s.reg) s.ty ≡ true = ap (λ own. has_type own s.ty) (same s.reg) ∙ parts.0 in
    rw here (none_shown types kinds same shown parts.1)

-- the numbers of heads are new
flipped : (n e : ℕ) → nat_eq e n ≡ false → nat_eq n e ≡ false
flipped n e other = grind (arith, nat_tests)

abbrev NoneAmong : (earlier : List ℕ) → List ℕ → Type 0
NoneAmong earlier [] = ⊤
NoneAmong earlier (n ∷ numbers) = (list_any (nat_eq n) earlier ≡ false) × NoneAmong earlier numbers

none_more : (earlier : List ℕ) (e : ℕ) (numbers : List ℕ) → NoneAmong earlier numbers → list_any (nat_eq e) numbers ≡ false → NoneAmong (earlier ++ (e ∷ [])) numbers
none_more earlier e [] none other = tt
none_more earlier e (n ∷ numbers) none other = chosen (nat_eq e n) refl other (none_more earlier e numbers none.1)
  where
    chosen : (equal : Bool) → nat_eq e n ≡ equal → (equal || list_any (nat_eq e) numbers) ≡ false → (list_any (nat_eq e) numbers ≡ false → NoneAmong (earlier ++ (e ∷ [])) numbers)
        → NoneAmong (earlier ++ (e ∷ [])) (n ∷ numbers)
    chosen true is other later = absurd (cc)
    chosen false is other later = (
      list_any-append (nat_eq n) earlier (e ∷ []) ∙ rw (none.0, flipped n e is) refl,
      later other,
    )

head_right : (text : List ℕ) (earlier : List ℕ) (line : Line) → is_head (kept_items text line) ≡ true → list_any (nat_eq (unwrap_or (head_number text line) 0)) earlier ≡ false → head_faults text earlier line ≡ []
head_right text earlier line head new = rw (head, new) refl

blocks_right : (text : List ℕ) (names : List (List ℕ)) (tables : Tables) (types : ℕ → Option Llt) (earlier : List ℕ) (place : ℕ) (sections : List Section) (blocks : List BlockData)
    → AllRight text names tables types place sections blocks → are_distinct (block_numbers text sections) ≡ true → NoneAmong earlier (block_numbers text sections)
    → wrongs_from text tables earlier place sections ≡ []
blocks_right text names tables types earlier place [] [] all distinct none = refl
blocks_right text names tables types earlier place [] (block ∷ blocks) all distinct none = absurd all
blocks_right text names tables types earlier place (section ∷ sections) [] all distinct none = absurd all
blocks_right text names tables types earlier place (section ∷ sections) (block ∷ blocks) all distinct none =
    let number = number_at text section in
    let parts = and_parts (not (list_any (nat_eq number) (block_numbers text sections))) (are_distinct (block_numbers text sections)) distinct in
    let other : list_any (nat_eq number) (block_numbers text sections) ≡ false = not-true (list_any (nat_eq number) (block_numbers text sections)) parts.0 in
    let later = blocks_right text names tables types (earlier ++ (number ∷ [])) (suc place) sections blocks all.1 parts.1 (none_more earlier number (block_numbers text sections) none.1 other) in
    rw (head_right text earlier section.head all.0.head none.0, all.0.right, later) refl

none_among_none : (numbers : List ℕ) → NoneAmong [] numbers
none_among_none [] = tt
none_among_none (n ∷ numbers) = (refl, none_among_none numbers)

-- ══ A document ══

some_any : (key : List ℕ) (sections : List Section) (s : Section) (more : List Section) → filter (is_entry_of key) sections ≡ s ∷ more → list_any (is_entry_of key) sections ≡ true
some_any key [] s more e = absurd (cc)
some_any key (section ∷ sections) s more e = chosen (is_entry_of key section) e (some_any key sections s more)
  where
    chosen : (b : Bool) → (if b then section ∷ filter (is_entry_of key) sections else filter (is_entry_of key) sections) ≡ s ∷ more
        → (filter (is_entry_of key) sections ≡ s ∷ more → list_any (is_entry_of key) sections ≡ true) → (b || list_any (is_entry_of key) sections) ≡ true
    chosen true e later = refl
    chosen false e later = later e

bar_is : (items : Option (List Item)) → option_map (map what_in) items ≡ Some (what.Bar ∷ []) → is_bar items ≡ true
bar_is None e = absurd (cc)
bar_is (Some []) e = absurd (cc)
bar_is (Some (item ∷ [])) e =
    let is : item.what ≡ what.Bar = cc in
    rw is refl
bar_is (Some (item ∷ next ∷ rest)) e = absurd (cc)

singles_of : (text : List ℕ) (names : List (List ℕ)) (f : FunctionData) (sections : List Section) → SpellsEntries text names sections f → Single text Registers sections → Single text Stack sections
    → (key : Key) → Single text key sections
singles_of text names f sections own registers stack Name = name_single text _ sections (entries_with (codes "name") sections) refl own.named
singles_of text names f sections own registers stack Legalized = truth_single text Legalized sections (entries_with (codes "legalized") sections) f.legalized refl own.legal (λ section. refl)
singles_of text names f sections own registers stack Banked = truth_single text Banked sections (entries_with (codes "regBankSelected") sections) f.banked refl own.banked (λ section. refl)
singles_of text names f sections own registers stack Selected = truth_single text Selected sections (entries_with (codes "selected") sections) f.selected refl own.chosen (λ section. refl)
singles_of text names f sections own registers stack Registers = registers
singles_of text names f sections own registers stack Stack = stack
singles_of text names f sections own registers stack OfBody = body_single text sections (entries_with (codes "body") sections) own.lines refl own.bodied

there_name : (name : List ℕ) (sections found : List Section) → entries_with (codes "name") sections ≡ found → SpellsName name found → is_missing (codes "name") sections ≡ false
there_name name sections [] e spelled = absurd spelled
there_name name sections (section ∷ more) e spelled = ap not (some_any (codes "name") sections section more e)

there_body : (text : List ℕ) (sections found : List Section) (lines : List Line) → entries_with (codes "body") sections ≡ found → SpellsBody text found lines → is_missing (codes "body") sections ≡ false
there_body text sections [] lines e spelled = absurd spelled
there_body text sections (section ∷ more) lines e spelled = ap not (some_any (codes "body") sections section more e)

body_under : (text : List ℕ) (sections found : List Section) (lines : List Line) → entries_with (codes "body") sections ≡ found → SpellsBody text found lines → body_lines text sections ≡ lines
body_under text sections [] lines e spelled = absurd spelled
body_under text sections (section ∷ []) lines e spelled = rw (find_by (is_entry_of (codes "body")) sections section e, bar_is (value_items text section.head) spelled.0) (sym spelled.1)
body_under text sections (section ∷ other ∷ more) lines e spelled = absurd spelled

document_right : (text : List ℕ) (names : List (List ℕ)) (document : Section) (f : FunctionData) → SpellsDocument text names document f → document_wrongs text document ≡ []
document_right text names document f spelled =
    let sections = entries_of document in
    let own = spelled.entries in
    let registers = list_read text Registers sections (entries_with (codes "registers") sections) own.registers (register_wrongs text) refl own.registered (registers_right text own.registers own.each_register) (λ section. refl) in
    let objects = list_read text Stack sections (entries_with (codes "stack") sections) own.objects (λ lines. object_wrongs 0 (stack_entries text lines)) refl own.stacked
    (objects_right 0 (stack_entries text own.objects) (sym (ap length own.stack) ∙ own.each_object)) (λ section. refl) in
    let singles : (key : Key) → Single text key sections = singles_of text names f sections own registers.single objects.single in
    let entries = entries_right text [] sections singles own.keyed in
    let parsed = read_document text sections in
    let lines : body_lines text sections ≡ own.lines = body_under text sections (entries_with (codes "body") sections) own.lines refl own.bodied in
    let blocks : parsed.blocks ≡ blocks_in text own.lines = ap (blocks_in text) lines in
    let classes : parsed.classes ≡ registers_in text own.registers = ap (registers_in text) registers.under in
    let stack : parsed.objects ≡ f.stack = ap (λ lines. objects_from 0 (stack_entries text lines)) objects.under ∙ sym own.stack in
    let tables_are : Tables = record { classes = registers_in text own.registers; blocks = block_numbers text (blocks_in text own.lines).sections; objects = length f.stack } in
    let tables : tables_of text parsed ≡ tables_are = rw (blocks, classes, stack) refl in
    let types = types_in f in
    let found = (blocks_in text own.lines).sections in
    let all = all_right text names tables_are types 0 found f.blocks own.blocks in
    let right = blocks_right text names tables_are types [] 0 found f.blocks all own.distinct (none_among_none (block_numbers text found)) in
    let bodies = bodies_from text tables_are 0 found in
    let same : (reg : Reg) → type_of_register (kinds_in bodies) reg ≡ types reg.0 = λ reg. types_shared text names bodies f reg (same_operands text names tables_are types 0 found f.blocks all) in
    let shown : shown_wrongs bodies ≡ [] = none_shown types (kinds_in bodies) same (flat_map (λ (body : Body). body.shown) bodies) (all_shown text names tables_are types 0 found f.blocks all) in
    let whole : block_wrongs text parsed ≡ map (outer_wrong text) (blocks_in text own.lines).before ++ (wrongs_from text tables_are [] 0 found ++ shown_wrongs bodies) =
    ap (λ (b : Sections). map (outer_wrong text) b.before ++ (wrongs_from text (tables_of text parsed) [] 0 b.sections ++ shown_wrongs (bodies_from text (tables_of text parsed) 0 b.sections))) blocks
    ∙ ap (λ t. map (outer_wrong text) (blocks_in text own.lines).before ++ (wrongs_from text t [] 0 found ++ shown_wrongs (bodies_from text t 0 found))) tables in
    let none_outer : map (outer_wrong text) (blocks_in text own.lines).before ≡ [] = ap (map (outer_wrong text)) own.from_a_head in
    let none_blocks : block_wrongs text parsed ≡ [] = whole ∙ rw (none_outer, right, shown) refl in
    let none_missing : missing_wrongs (document_end document) sections ≡ [] =
    rw (there_name _ sections (entries_with (codes "name") sections) refl own.named, there_body text sections (entries_with (codes "body") sections) own.lines refl own.bodied) refl in
    let none_before : line_wrongs (document_entries document).before ≡ [] = ap line_wrongs spelled.from_a_key in
    let none_strays : line_wrongs (document_strays document) ≡ [] = ap line_wrongs spelled.to_the_end in
    rw (none_before, entries, none_blocks, none_missing, none_strays) refl

documents_right : (text : List ℕ) (names : List (List ℕ)) (documents : List Section) (functions : List FunctionData) → AllZip (SpellsDocument text names) documents functions
    → first_wrong (map (document_wrongs text) documents) ≡ None
documents_right text names [] [] all = refl
documents_right text names [] (f ∷ functions) all = absurd all
documents_right text names (document ∷ documents) [] all = absurd all
documents_right text names (document ∷ documents) (f ∷ functions) all = rw (document_right text names document f all.0) (documents_right text names documents functions all.1)

pub spelled_right : (text : List ℕ) (m : ModuleData) → Spells text m → wrong_in text ≡ None
spelled_right text m spelled =
    rw (spelled.ir.is_text, spelled.no_strays) (documents_right text m.names (parts_of_text text).documents m.functions spelled.documents)
