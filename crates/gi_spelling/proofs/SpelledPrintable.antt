-- What a text spells is printable where it names no block that isn't there.
use Rattle.std.proofs.Common.{◌≡◌, ℕ, zero, suc, ◌≤◌, Bool, true, false, List, [], ◌∷◌, length, Option, Some, None, map, refl, sym, ap, ◌∙◌, arith}
use Rattle.gi_mir.specs.Names.{name_at}
use Rattle.std.specs.Prelude.{◌&&◌, ◌||◌, ◌==◌, ◌^◌, not, nat_eq, nat_lt, nat_le, filter, option_map, unwrap_or, if◌then◌else◌, codes}
use Rattle.std.specs.List.{list_all, list_any, AllByRecursion, AllZip, IsDistinct}
use Rattle.std.specs.Cmp.Derive.{both_true}
use Rattle.std.specs.Str.{is_utf8}
use Rattle.std.proofs.lemmas.Bool.{and_parts, not-true}
use Rattle.std.proofs.lemmas.Bool.Decides.{nat_tests}
use Rattle.std.proofs.lemmas.List.{length-map}
use Rattle.std.proofs.lemmas.Map.Keys.{IsDistinct-cons}
use Rattle.std.proofs.lemmas.Map.Steps.{length-le_from_distinct_below}
use Rattle.gi_llt.specs.Tokens.{run_of, past_run}
use Rattle.gi_llt.specs.declared.Llt.{Llt}
use Rattle.gi_mir.specs.Data.{InstrData, BlockData, FunctionData, ModuleData}
use Rattle.gi_spelling.specs.Blocks.{listed_in, head_by, head_in, number_at, block_numbers, blocks_in}
use Rattle.gi_spelling.specs.Documents.{is_name, ir_wrongs, line_wrongs, is_no_text, stack_entries, objects_from, entries_of}
use Rattle.gi_spelling.specs.Items.{what_in, kept_items}
use Rattle.gi_spelling.specs.Lines.{Line, Section, onto_first, lines_of, numbered_from, lines_in, is_dropped, is_start, is_end, is_block_start, ends_document, block_lines_in, parts_from, parts_of_text}
use Rattle.gi_spelling.specs.Printable.{is_none_live, is_live_first, IsPrintableInstr, IsPrintableBlock, IsPrintableFunction, is_ir_line, are_ir_lines, IsPrintableModule}
use Rattle.gi_spelling.specs.Resolved.{Tables}
use Rattle.gi_spelling.specs.Spelling.{is_list_line, lists_of, physical_whats, States, SpellsInstr, SpellsLiveins, SpellsBlocks, SpellsName, entries_with, are_distinct, types_in, SpellsDocument, Spells}
use Rattle.gi_spelling.specs.There.{names_there, is_block_within, names_blocks_there, NamesBlocksThatAreThere}
use Rattle.gi_spelling.specs.Words.{greatest_block}
use Rattle.gi_spelling.specs.declared.token.Item.{Item}
use Rattle.gi_spelling.specs.declared.token.Word.TheVariants as word
use Rattle.gi_spelling.specs.declared.token.What.{What}
use Rattle.gi_spelling.specs.declared.token.What.TheVariants as what
use Rattle.gi_spelling.specs.declared.written.ListKind.TheVariants.{Liveins}
use Rattle.gi_spelling.proofs.ItemBounds.{is_token, run_all, kept_fine, tokens_fine}
use Rattle.gi_spelling.proofs.NumberedPrintable.{among_below}
use Rattle.gi_spelling.proofs.SpelledInstrs.{listed_fine, instr_printable}
use Rattle.gi_spelling.proofs.SpelledObjects.{objects_fine}

-- ══ Registers that are live ══

listed_tokens : (text : List ℕ) (line : Line) → list_all is_token (map what_in (listed_in (kept_items text line))) ≡ true
listed_tokens text line = chosen (kept_items text line) refl
  where
    chosen : (items : Option (List Item)) → kept_items text line ≡ items → list_all is_token (map what_in (listed_in items)) ≡ true
    chosen None is = refl
    chosen (Some []) is = refl
    chosen (Some (item ∷ [])) is = refl
    chosen (Some (first ∷ second ∷ rest)) is =
        let all = tokens_fine text (first ∷ second ∷ rest) (kept_fine text line (first ∷ second ∷ rest) is) in
        let later = and_parts (is_token first.what) (is_token second.what && list_all is_token (map what_in rest)) all in
        (and_parts (is_token second.what) (list_all is_token (map what_in rest)) later.1).1

numbers_within : (numbers : List ℕ) → AllByRecursion (λ n. list_all is_token (physical_whats n) ≡ true) numbers → list_all (λ n. nat_lt n 32) numbers ≡ true
numbers_within [] all = refl
numbers_within (n ∷ numbers) all = both_true (and_parts (nat_lt n 32) true all.0).0 (numbers_within numbers all.1)

stated_within : (text : List ℕ) (line : Line) (numbers : List ℕ) → States text physical_whats line numbers → list_all (λ n. nat_lt n 32) numbers ≡ true
stated_within text line numbers stated = numbers_within numbers (listed_fine physical_whats numbers (sym (ap (list_all is_token) stated.same) ∙ listed_tokens text line))

first_within : (text : List ℕ) (lines : List Line) (liveins : List ℕ) → SpellsLiveins text zero lines liveins → list_all (λ n. nat_lt n 32) liveins ≡ true
first_within text [] liveins spelled = rw spelled refl
first_within text (line ∷ []) liveins spelled = stated_within text line liveins spelled.1
first_within text (line ∷ other ∷ more) liveins spelled = absurd spelled

later_none : (text : List ℕ) (place : ℕ) (lines : List Line) (liveins : List ℕ) → SpellsLiveins text (suc place) lines liveins → is_none_live liveins ≡ true
later_none text place [] liveins spelled = rw spelled refl
later_none text place (line ∷ more) liveins spelled = absurd spelled

-- ══ Blocks ══

module _ (text : List ℕ) (names : List (List ℕ)) (tables : Tables) (types : ℕ → Option Llt) where
  later_live : (place : ℕ) (sections : List Section) (blocks : List BlockData) → SpellsBlocks text names tables types (suc place) sections blocks
      → list_all (λ (block : BlockData). is_none_live block.liveins) blocks ≡ true
  later_live place [] [] spelled = refl
  later_live place [] (block ∷ blocks) spelled = absurd spelled
  later_live place (section ∷ sections) [] spelled = absurd spelled
  later_live place (section ∷ sections) (block ∷ blocks) spelled =
      both_true (later_none text place (lists_of text Liveins section.under) block.liveins (spelled.0).live) (later_live (suc place) sections blocks spelled.1)

  live_first : (sections : List Section) (blocks : List BlockData) → SpellsBlocks text names tables types 0 sections blocks → is_live_first blocks ≡ true
  live_first [] [] spelled = refl
  live_first [] (block ∷ blocks) spelled = absurd spelled
  live_first (section ∷ sections) [] spelled = absurd spelled
  live_first (section ∷ sections) (block ∷ blocks) spelled =
      both_true (first_within text (lists_of text Liveins section.under) block.liveins (spelled.0).live) (later_live 0 sections blocks spelled.1)

  instrs_printable : (count : ℕ) (lines : List Line) (instrs : List (ℕ × InstrData)) → AllZip (SpellsInstr text names tables types) lines instrs → list_all (names_there count) instrs ≡ true
      → AllByRecursion (IsPrintableInstr names (record { blocks = count; objects = tables.objects })) instrs
  instrs_printable count [] [] all there = tt
  instrs_printable count [] (instr ∷ instrs) all there = absurd all
  instrs_printable count (line ∷ lines) [] all there = absurd all
  instrs_printable count (line ∷ lines) (instr ∷ instrs) all there =
      let parts = and_parts (names_there count instr) (list_all (names_there count) instrs) there in
      (instr_printable text names tables types count line instr all.0 parts.0, instrs_printable count lines instrs all.1 parts.1)

  blocks_printable : (count place : ℕ) (sections : List Section) (blocks : List BlockData) → SpellsBlocks text names tables types place sections blocks → list_all (is_block_within count) blocks ≡ true
      → AllByRecursion (IsPrintableBlock names (record { blocks = count; objects = tables.objects })) blocks
  blocks_printable count place [] [] spelled there = tt
  blocks_printable count place [] (block ∷ blocks) spelled there = absurd spelled
  blocks_printable count place (section ∷ sections) [] spelled there = absurd spelled
  blocks_printable count place (section ∷ sections) (block ∷ blocks) spelled there =
      let parts = and_parts (is_block_within count block) (list_all (is_block_within count) blocks) there in
      let own = and_parts (list_all (λ place. nat_lt place count) block.successors) (list_all (names_there count) block.instrs) parts.0 in
      let instrs = instrs_printable count (past_run (is_list_line text) section.under) block.instrs (spelled.0).instructed own.1 in
      (record { successors = own.0; instrs = instrs }, blocks_printable count (suc place) sections blocks spelled.1 parts.1)

  blocks_length : (place : ℕ) (sections : List Section) (blocks : List BlockData) → SpellsBlocks text names tables types place sections blocks → length blocks ≡ length sections
  blocks_length place [] [] spelled = refl
  blocks_length place [] (block ∷ blocks) spelled = absurd spelled
  blocks_length place (section ∷ sections) [] spelled = absurd spelled
  blocks_length place (section ∷ sections) (block ∷ blocks) spelled = ap suc (blocks_length (suc place) sections blocks spelled.1)

-- ══ How many blocks there are ══

head_fine : (w : What) → is_token w ≡ true → nat_le (unwrap_or (head_by w) 0) greatest_block ≡ true
head_fine (what.Word (word.BlockHead number)) fine = fine
head_fine w fine = refl

number_fine : (text : List ℕ) (section : Section) → nat_le (number_at text section) greatest_block ≡ true
number_fine text section = chosen (kept_items text section.head) refl
  where
    chosen : (items : Option (List Item)) → kept_items text section.head ≡ items → nat_le (unwrap_or (head_in items) 0) greatest_block ≡ true
    chosen None is = refl
    chosen (Some []) is = refl
    chosen (Some (item ∷ rest)) is =
        let all = tokens_fine text (item ∷ rest) (kept_fine text section.head (item ∷ rest) is) in
        head_fine item.what (and_parts (is_token item.what) (list_all is_token (map what_in rest)) all).0

numbers_fine : (text : List ℕ) (sections : List Section) → list_all (λ n. nat_le n greatest_block) (block_numbers text sections) ≡ true
numbers_fine text [] = refl
numbers_fine text (section ∷ sections) = both_true (number_fine text section) (numbers_fine text sections)

none_equal : (n : ℕ) (numbers : List ℕ) → list_any (nat_eq n) numbers ≡ false → AllByRecursion (λ k. nat_eq n k ≡ false) numbers
none_equal n [] none = tt
none_equal n (k ∷ numbers) none = chosen (nat_eq n k) refl none (none_equal n numbers)
  where
    chosen : (b : Bool) → nat_eq n k ≡ b → (b || list_any (nat_eq n) numbers) ≡ false → (list_any (nat_eq n) numbers ≡ false → AllByRecursion (λ k. nat_eq n k ≡ false) numbers)
        → (nat_eq n k ≡ false) × AllByRecursion (λ k. nat_eq n k ≡ false) numbers
    chosen true is none later = absurd (cc)
    chosen false is none later = (is, later none)

distinct_fine : (numbers : List ℕ) → are_distinct numbers ≡ true → IsDistinct nat_eq numbers
unfolding IsDistinct
distinct_fine [] all = tt
distinct_fine (n ∷ numbers) all =
    let parts = and_parts (not (list_any (nat_eq n) numbers)) (are_distinct numbers) all in
    IsDistinct-cons nat_eq n numbers (none_equal n numbers (not-true (list_any (nat_eq n) numbers) parts.0)) (distinct_fine numbers parts.1)

few_sections : (text : List ℕ) (sections : List Section) → are_distinct (block_numbers text sections) ≡ true → length sections ≤ suc greatest_block
few_sections text sections distinct =
    let numbers = block_numbers text sections in
    let few = length-le_from_distinct_below numbers (suc greatest_block) (distinct_fine numbers distinct) (λ q there. among_below greatest_block q numbers (numbers_fine text sections) there) in
    let same : length numbers ≡ length sections = length-map sections (number_at text) in
    rw same at few

-- ══ Functions ══

named_fine : (name : List ℕ) (sections : List Section) → SpellsName name sections → is_name name ≡ true
named_fine name [] spelled = absurd spelled
named_fine name (section ∷ []) spelled = spelled.1
named_fine name (section ∷ other ∷ more) spelled = absurd spelled

at_most_fine : (n k : ℕ) → n ≤ k → nat_le n k ≡ true
at_most_fine n k less = grind (arith, nat_tests, less)

function_printable : (text : List ℕ) (names : List (List ℕ)) (document : Section) (f : FunctionData) → SpellsDocument text names document f → names_blocks_there f ≡ true → IsPrintableFunction names f
function_printable text names document f spelled there =
    let own = spelled.entries in
    let sections = (blocks_in text own.lines).sections in
    let tables : Tables = record { classes = _; blocks = block_numbers text sections; objects = length f.stack } in
    let objects = objects_fine text own.objects (sym (ap length own.stack) ∙ own.each_object) in
    let stack : length f.stack ≡ length (objects_from 0 (stack_entries text own.objects)) = ap length own.stack in
    let count = blocks_length text names tables (types_in f) 0 sections f.blocks own.blocks in
    let few = few_sections text sections own.distinct in
    record {
      named = named_fine (name_at names f.name) (entries_with (codes "name") (entries_of document)) own.named;
      few_objects = rw stack (at_most_fine (length (objects_from 0 (stack_entries text own.objects))) (2 ^ 128) (omega (arith, objects.few)));
      objects = rw own.stack objects.writable;
      few_blocks = rw count (at_most_fine (length sections) (suc greatest_block) few);
      live_first = live_first text names tables (types_in f) sections f.blocks own.blocks;
      blocks = blocks_printable text names tables (types_in f) (length f.blocks) 0 sections f.blocks own.blocks there;
    }

functions_printable : (text : List ℕ) (names : List (List ℕ)) (documents : List Section) (fs : List FunctionData) → AllZip (SpellsDocument text names) documents fs → list_all names_blocks_there fs ≡ true
    → AllByRecursion (IsPrintableFunction names) fs
functions_printable text names [] [] all there = tt
functions_printable text names [] (f ∷ fs) all there = absurd all
functions_printable text names (document ∷ documents) [] all there = absurd all
functions_printable text names (document ∷ documents) (f ∷ fs) all there =
    let parts = and_parts (names_blocks_there f) (list_all names_blocks_there fs) there in
    (function_printable text names document f all.0 parts.0, functions_printable text names documents fs all.1 parts.1)

-- ══ The IR block ══

abbrev is_no_feed : ℕ → Bool
is_no_feed byte = not (byte == 10)

abbrev has_no_feed : List ℕ → Bool
has_no_feed line = list_all is_no_feed line

onto_first_fine : (byte : ℕ) (lines : List (List ℕ)) → is_no_feed byte ≡ true → list_all has_no_feed lines ≡ true → list_all has_no_feed (onto_first byte lines) ≡ true
onto_first_fine byte [] fine all = both_true (both_true fine refl) refl
onto_first_fine byte (line ∷ lines) fine all =
    let parts = and_parts (has_no_feed line) (list_all has_no_feed lines) all in
    both_true (both_true fine parts.0) parts.1

lines_fine : (text : List ℕ) → list_all has_no_feed (lines_of text) ≡ true
lines_fine [] = refl
lines_fine (byte ∷ text) = chosen (byte == 10) refl (lines_fine text)
  where
    chosen : (b : Bool) → (byte == 10) ≡ b → list_all has_no_feed (lines_of text) ≡ true → list_all has_no_feed (if b then [] ∷ lines_of text else onto_first byte (lines_of text)) ≡ true
    chosen true is later = later
    chosen false is later = onto_first_fine byte (lines_of text) (ap not is) later

abbrev has_no_feed_in : Line → Bool
has_no_feed_in line = has_no_feed line.bytes

numbered_fine : (number start : ℕ) (lines : List (List ℕ)) → list_all has_no_feed lines ≡ true → list_all has_no_feed_in (numbered_from number start lines) ≡ true
numbered_fine number start [] all = refl
numbered_fine number start (line ∷ lines) all =
    let parts = and_parts (has_no_feed line) (list_all has_no_feed lines) all in
    both_true parts.0 (numbered_fine (suc number) _ lines parts.1)

module _ (p test : Line → Bool) where
  past_all : (lines : List Line) → list_all p lines ≡ true → list_all p (past_run test lines) ≡ true
  past_all [] all = refl
  past_all (line ∷ lines) all =
      let parts = and_parts (p line) (list_all p lines) all in
      chosen (test line) all (past_all lines parts.1)
    where
      chosen : (b : Bool) → list_all p (line ∷ lines) ≡ true → list_all p (past_run test lines) ≡ true → list_all p (if b then past_run test lines else line ∷ lines) ≡ true
      chosen true all later = later
      chosen false all later = all

  run_kept : (lines : List Line) → list_all p lines ≡ true → list_all p (run_of test lines) ≡ true
  run_kept [] all = refl
  run_kept (line ∷ lines) all =
      let parts = and_parts (p line) (list_all p lines) all in
      chosen (test line) parts.0 (run_kept lines parts.1)
    where
      chosen : (b : Bool) → p line ≡ true → list_all p (run_of test lines) ≡ true → list_all p (if b then line ∷ run_of test lines else []) ≡ true
      chosen true own later = both_true own later
      chosen false own later = refl

no_wrongs : (lines : List Line) → line_wrongs lines ≡ [] → lines ≡ []
no_wrongs [] none = refl
no_wrongs (line ∷ lines) none = absurd (cc)

texts_fine : (lines : List Line) → filter is_no_text lines ≡ [] → list_all (λ (line : Line). is_utf8 line.bytes) lines ≡ true
texts_fine [] none = refl
texts_fine (line ∷ lines) none = chosen (is_utf8 line.bytes) refl none (texts_fine lines)
  where
    chosen : (b : Bool) → is_utf8 line.bytes ≡ b → (if not b then line ∷ filter is_no_text lines else filter is_no_text lines) ≡ []
        → (filter is_no_text lines ≡ [] → list_all (λ (line : Line). is_utf8 line.bytes) lines ≡ true) → list_all (λ (line : Line). is_utf8 line.bytes) (line ∷ lines) ≡ true
    chosen true is none later = both_true is (later none)
    chosen false is none later = absurd (cc)

ir_line_fine : (line : List ℕ) → is_utf8 line ≡ true → has_no_feed line ≡ true → not (is_end line || is_start line) ≡ true → is_ir_line line ≡ true
ir_line_fine line text feed other = chosen (is_end line) (is_start line) refl refl other
  where
    chosen : (a b : Bool) → is_end line ≡ a → is_start line ≡ b → not (a || b) ≡ true → is_ir_line line ≡ true
    chosen true b first second other = absurd (cc)
    chosen false true first second other = absurd (cc)
    chosen false false first second other = rw (text, feed, first, second) refl

ir_lines_fine : (lines : List Line) → list_all (λ (line : Line). is_utf8 line.bytes) lines ≡ true → list_all has_no_feed_in lines ≡ true → list_all (λ line. not (ends_document line)) lines ≡ true
    → list_all is_ir_line (map (λ (line : Line). line.bytes) lines) ≡ true
ir_lines_fine [] texts feeds others = refl
ir_lines_fine (line ∷ lines) texts feeds others =
    let first = and_parts (is_utf8 line.bytes) (list_all (λ (line : Line). is_utf8 line.bytes) lines) texts in
    let second = and_parts (has_no_feed_in line) (list_all has_no_feed_in lines) feeds in
    let third = and_parts (not (ends_document line)) (list_all (λ line. not (ends_document line)) lines) others in
    both_true (ir_line_fine line.bytes first.0 second.0 third.0) (ir_lines_fine lines first.1 second.1 third.1)

ir_fine : (counted lines : List Line) → list_all has_no_feed_in counted ≡ true → ir_wrongs (parts_from counted lines).ir ≡ []
    → are_ir_lines (option_map (map (λ (line : Line). line.bytes)) (parts_from counted lines).ir) ≡ true
ir_fine [] lines feeds none = refl
ir_fine (first ∷ more) lines feeds none = chosen (is_block_start first.bytes) refl
  where
    block : List Line → ir_wrongs (Some (block_lines_in more)) ≡ [] → list_all is_ir_line (map (λ (line : Line). line.bytes) (block_lines_in more)) ≡ true
    block own none =
        let parts = and_parts (has_no_feed_in first) (list_all has_no_feed_in more) feeds in
        ir_lines_fine (block_lines_in more) (texts_fine (block_lines_in more) (no_wrongs (filter is_no_text (block_lines_in more)) none))
        (run_kept has_no_feed_in (λ line. not (ends_document line)) more parts.1) (run_all (λ line. not (ends_document line)) more)

    chosen : (b : Bool) → is_block_start first.bytes ≡ b → are_ir_lines (option_map (map (λ (line : Line). line.bytes)) (parts_from (first ∷ more) lines).ir) ≡ true
    chosen true is =
        let none_of : ir_wrongs (Some (block_lines_in more)) ≡ [] = rw is at none in
        rw is (block more none_of)
    chosen false is = rw is refl

pub spelled_printable : (text : List ℕ) (m : ModuleData) → Spells text m → NamesBlocksThatAreThere m → IsPrintableModule m
spelled_printable text m spelled there =
    let lines = lines_in text in
    let feeds = past_all has_no_feed_in (λ line. is_dropped line.bytes) lines (numbered_fine 1 0 (lines_of text) (lines_fine text)) in
    record {
      ir = ap are_ir_lines spelled.ir.same ∙ ir_fine (past_run (λ line. is_dropped line.bytes) lines) lines feeds spelled.ir.is_text;
      functions = functions_printable text m.names (parts_of_text text).documents m.functions spelled.documents there.each;
    }
