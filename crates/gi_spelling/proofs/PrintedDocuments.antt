-- The lines of a printed function, with its stack objects, spell that function.
use Rattle.std.proofs.Common.{◌≡◌, ℕ, suc, ◌^◌, ◌≤◌, Bool, true, false, List, [], ◌∷◌, ◌++◌, length, Some, sym, refl, ap, ◌∙◌, subst, arith, inl}
use Rattle.gi_mir.specs.Names.{name_at}
use Rattle.std.specs.Prelude.{not, filter, replicate, codes, if◌then◌else◌}
use Rattle.std.specs.List.{list_all, AllZip}
use Rattle.std.proofs.lemmas.Bool.Decides.{nat_tests}
use Rattle.std.proofs.lemmas.List.{append-nil}
use Rattle.gi_llt.proofs.Pieces.{run_of-append, past_run-append}
use Rattle.gi_mir.specs.declared.operand.StackObject.{StackObject}
use Rattle.gi_mir.specs.Data.{FunctionData}
use Rattle.gi_mir.specs.Registers.{kind_of}
use Rattle.gi_spelling.specs.declared.token.What.TheVariants as what
use Rattle.gi_spelling.specs.Blocks.{is_block_head as is_head_line, blocks_in, block_numbers}
use Rattle.gi_spelling.specs.Documents.{entries_of}
use Rattle.gi_spelling.specs.Lines as line_specs
use Rattle.gi_spelling.specs.Lines.{Line, Section as LineSection, is_entry, document_lines, document_rest, document_entries, counted_lines}
use Rattle.gi_spelling.specs.Lines.{is_dropped, is_end, begins_at_column_one}
use Rattle.gi_spelling.proofs.PlainLines.{Section, Sections, with_head, sections_of, kept_lines, is_block_head}
use Rattle.gi_spelling.specs.Documents.{is_name}
use Rattle.gi_spelling.proofs.Nameable.{is_named_block}
use Rattle.gi_spelling.specs.Printable.{is_writable_object, IsPrintableFunction, counts_of}
use Rattle.gi_spelling.specs.Printed.{key_lines, object_lines, stack_lines, blocks_lines}
use Rattle.gi_spelling.specs.Spelling.{types_in, SpellsBlocks, entries_with, value_whats, Lists, SpellsBody, are_distinct, SpellsEntries, SpellsDocument}
use Rattle.gi_spelling.proofs.BlockLines.{EachLine, each-append, each-weaker, IsInner}
use Rattle.gi_spelling.proofs.Blocks.{kept-append, kept_each, kept_blocks, kept_blocks_lines, kept_blocks_inner, each_blocks, sections_of-append, IsRaw, raw_inner, block_sections, sections_of-blocks}
use Rattle.gi_spelling.proofs.BlockSpells.{TellsLine, zip_each, all_told, blocks_tell, blocks_spelled, places_from, numbers_are, places_distinct, places_count, tells_head}
use Rattle.gi_spelling.proofs.Documents.{entry_line, name_solid, Layout, header_lines, end_lines, body_line, IsOuter, body_outer, bar_solid, header_outer, bare, kept_outer, bare_sections, blank_at_no_column, body_sections, outer_no_end, inner_no_end, each_unended}
use Rattle.gi_spelling.proofs.PlacedLines.{IsLine, Reads}
use Rattle.gi_spelling.proofs.PrintedBlocks.{printed_tables, blocks_named, printed_blocks}
use Rattle.gi_spelling.proofs.PrintedStacks.{object_inner, AreObjects, objects_are}
use Rattle.gi_spelling.proofs.EntrySpells.{by_flags, keyed_as, alone, reads_spaced, reads_bar, value_is, none_zip, one_zip, with_key, all_keyed, truth_spelled, name_spelled, ends_same, drops_same, column_same, end_stops, no_strays_behind}
use Rattle.gi_spelling.proofs.Zips.{filter_zip, run_zip, past_zip, SectionsAgree, AllAgree, sections_zip}

-- ══ The stack objects ══

abbrev pub stack_sections : List StackObject → List Section
stack_sections [] = []
stack_sections (object ∷ objects) = record { head = codes "stack:"; under = object_lines 0 (object ∷ objects) } ∷ []

objects_inner : (place : ℕ) (objects : List StackObject) → EachLine IsInner (object_lines place objects)
objects_inner place [] = tt
objects_inner place (object ∷ objects) = (object_inner place object, objects_inner (suc place) objects)

stack_outer : IsOuter (codes "stack:")
stack_outer = record { at_column_one = refl; kept = refl; no_end = refl; raw = record { no_start = refl; no_feed = refl } }

-- what holds of lines of entries and of what stands under them holds of the lines of a stack
module _ (P : List ℕ → Type 0) (of_outer : (line : List ℕ) → IsOuter line → P line) (of_inner : (line : List ℕ) → IsInner line → P line) where
  each_stack : (stack : List StackObject) → EachLine P (stack_lines stack)
  each_stack [] = tt
  each_stack (object ∷ objects) = (of_outer (codes "stack:") stack_outer, each-weaker IsInner P of_inner (object_lines 0 (object ∷ objects)) (objects_inner 0 (object ∷ objects)))

kept_stack : (stack : List StackObject) → kept_lines (stack_lines stack) ≡ stack_lines stack
kept_stack [] = refl
kept_stack (object ∷ objects) = ap (λ lines. codes "stack:" ∷ lines) (kept_each (object_lines 0 (object ∷ objects)) (objects_inner 0 (object ∷ objects)))

stack_before : (stack : List StackObject) (rest : List (List ℕ)) (sections : List Section) → sections_of begins_at_column_one rest ≡ record { before = []; sections = sections }
    → sections_of begins_at_column_one (stack_lines stack ++ rest) ≡ record { before = []; sections = stack_sections stack ++ sections }
stack_before [] rest sections e = e
stack_before (object ∷ objects) rest sections e =
    let lines = object_lines 0 (object ∷ objects) in
    let under : sections_of begins_at_column_one (lines ++ rest) ≡ record { before = lines ++ []; sections = sections } =
    sections_of-append begins_at_column_one lines rest (each-weaker IsInner (λ line. begins_at_column_one line ≡ false) blank_at_no_column lines (objects_inner 0 (object ∷ objects)))
    ∙ ap (λ (s : Sections). record { before = lines ++ s.before; sections = s.sections }) e in
    let Goal : List (List ℕ) → Type 0 = λ before. sections_of begins_at_column_one (lines ++ rest) ≡ record { before = before; sections = sections } in
    ap (with_head (codes "stack:")) (subst Goal (append-nil lines) under)

-- the objects that stand under the key
record IsStackOf (text : List ℕ) (found : List LineSection) (stack : List StackObject) : Type 0 where
  lines : List Line
  listed : Lists text found lines
  objects : AreObjects text 0 stack lines

reads_none : Reads [] []
reads_none = record { lexemes = []; read = refl; sized = refl; same = refl }

stack_of : (text : List ℕ) (found : List LineSection) (stack : List StackObject) → length stack ≤ 2 ^ 128 → list_all is_writable_object stack ≡ true
    → AllZip (SectionsAgree (IsLine text)) found (stack_sections stack) → IsStackOf text found stack
stack_of text found [] few fits agree =
    let none = none_zip (SectionsAgree (IsLine text)) found agree in
    record { lines = []; listed = subst (λ sections. Lists text sections []) (sym none) refl; objects = record { means = refl; each = refl } }
stack_of text found (object ∷ objects) few fits agree =
    let one = one_zip (SectionsAgree (IsLine text)) found (record { head = codes "stack:"; under = object_lines 0 (object ∷ objects) }) agree in
    let section : LineSection = one.0 in
    let valued : value_whats text section ≡ Some [] = value_is text section (codes "stack") [] [] one.2.head refl reads_none in
    record {
      lines = section.under;
      listed = subst (λ sections. Lists text sections section.under) (sym one.1) (inl (valued, refl));
      objects = objects_are text 0 (object ∷ objects) section.under (omega (arith, few)) fits one.2.under;
    }

-- ══ The entries ══

abbrev entries_by : Layout → (name : List ℕ) (stack : List StackObject) (under : List (List ℕ)) (legal banked chosen tracks : Bool) → List Section
entries_by layout name stack under legal banked chosen tracks =
    bare (entry_line (codes "name") layout.name name
    ∷ (key_lines legal (entry_line (codes "legalized") layout.legal (codes "true"))
    ++ (key_lines banked (entry_line (codes "regBankSelected") layout.banked (codes "true"))
    ++ (key_lines chosen (entry_line (codes "selected") layout.chosen (codes "true"))
    ++ key_lines tracks (codes "tracksRegLiveness: true")))))
    ++ (stack_sections stack ++ (record { head = body_line layout; under = under } ∷ []))

keyed_entry : (layout : Layout) (name : List ℕ) (stack : List StackObject) (under : List (List ℕ)) (legal banked chosen tracks : Bool)
    → list_all (λ (section : Section). is_entry section.head) (entries_by layout name stack under legal banked chosen tracks) ≡ true
keyed_entry layout name [] under legal banked chosen tracks =
    by_flags (λ a b c d. list_all (λ (section : Section). is_entry section.head) (entries_by layout name [] under a b c d) ≡ true) refl refl refl refl refl refl refl refl refl refl refl refl refl refl refl refl legal banked chosen tracks
keyed_entry layout name (object ∷ objects) under legal banked chosen tracks =
    by_flags (λ a b c d. list_all (λ (section : Section). is_entry section.head) (entries_by layout name (object ∷ objects) under a b c d) ≡ true) refl refl refl refl refl refl refl refl refl refl refl refl refl refl refl refl legal banked chosen tracks

named_entry : (layout : Layout) (name : List ℕ) (stack : List StackObject) (under : List (List ℕ)) (legal banked chosen tracks : Bool)
    → filter (keyed_as (codes "name")) (entries_by layout name stack under legal banked chosen tracks) ≡ alone (entry_line (codes "name") layout.name name)
named_entry layout name [] under legal banked chosen tracks =
    by_flags (λ a b c d. filter (keyed_as (codes "name")) (entries_by layout name [] under a b c d) ≡ alone (entry_line (codes "name") layout.name name))
    refl refl refl refl refl refl refl refl refl refl refl refl refl refl refl refl legal banked chosen tracks
named_entry layout name (object ∷ objects) under legal banked chosen tracks =
    by_flags (λ a b c d. filter (keyed_as (codes "name")) (entries_by layout name (object ∷ objects) under a b c d) ≡ alone (entry_line (codes "name") layout.name name))
    refl refl refl refl refl refl refl refl refl refl refl refl refl refl refl refl legal banked chosen tracks

legal_entry : (layout : Layout) (name : List ℕ) (stack : List StackObject) (under : List (List ℕ)) (legal banked chosen tracks : Bool)
    → filter (keyed_as (codes "legalized")) (entries_by layout name stack under legal banked chosen tracks) ≡ (if legal then alone (entry_line (codes "legalized") layout.legal (codes "true")) else [])
legal_entry layout name [] under legal banked chosen tracks =
    by_flags (λ a b c d. filter (keyed_as (codes "legalized")) (entries_by layout name [] under a b c d) ≡ (if a then alone (entry_line (codes "legalized") layout.legal (codes "true")) else []))
    refl refl refl refl refl refl refl refl refl refl refl refl refl refl refl refl legal banked chosen tracks
legal_entry layout name (object ∷ objects) under legal banked chosen tracks =
    by_flags (λ a b c d. filter (keyed_as (codes "legalized")) (entries_by layout name (object ∷ objects) under a b c d) ≡ (if a then alone (entry_line (codes "legalized") layout.legal (codes "true")) else []))
    refl refl refl refl refl refl refl refl refl refl refl refl refl refl refl refl legal banked chosen tracks

banked_entry : (layout : Layout) (name : List ℕ) (stack : List StackObject) (under : List (List ℕ)) (legal banked chosen tracks : Bool)
    → filter (keyed_as (codes "regBankSelected")) (entries_by layout name stack under legal banked chosen tracks) ≡ (if banked then alone (entry_line (codes "regBankSelected") layout.banked (codes "true")) else [])
banked_entry layout name [] under legal banked chosen tracks =
    by_flags (λ a b c d. filter (keyed_as (codes "regBankSelected")) (entries_by layout name [] under a b c d) ≡ (if b then alone (entry_line (codes "regBankSelected") layout.banked (codes "true")) else []))
    refl refl refl refl refl refl refl refl refl refl refl refl refl refl refl refl legal banked chosen tracks
banked_entry layout name (object ∷ objects) under legal banked chosen tracks =
    by_flags (λ a b c d. filter (keyed_as (codes "regBankSelected")) (entries_by layout name (object ∷ objects) under a b c d) ≡ (if b then alone (entry_line (codes "regBankSelected") layout.banked (codes "true")) else []))
    refl refl refl refl refl refl refl refl refl refl refl refl refl refl refl refl legal banked chosen tracks

chosen_entry : (layout : Layout) (name : List ℕ) (stack : List StackObject) (under : List (List ℕ)) (legal banked chosen tracks : Bool)
    → filter (keyed_as (codes "selected")) (entries_by layout name stack under legal banked chosen tracks) ≡ (if chosen then alone (entry_line (codes "selected") layout.chosen (codes "true")) else [])
chosen_entry layout name [] under legal banked chosen tracks =
    by_flags (λ a b c d. filter (keyed_as (codes "selected")) (entries_by layout name [] under a b c d) ≡ (if c then alone (entry_line (codes "selected") layout.chosen (codes "true")) else []))
    refl refl refl refl refl refl refl refl refl refl refl refl refl refl refl refl legal banked chosen tracks
chosen_entry layout name (object ∷ objects) under legal banked chosen tracks =
    by_flags (λ a b c d. filter (keyed_as (codes "selected")) (entries_by layout name (object ∷ objects) under a b c d) ≡ (if c then alone (entry_line (codes "selected") layout.chosen (codes "true")) else []))
    refl refl refl refl refl refl refl refl refl refl refl refl refl refl refl refl legal banked chosen tracks

registers_entry : (layout : Layout) (name : List ℕ) (stack : List StackObject) (under : List (List ℕ)) (legal banked chosen tracks : Bool)
    → filter (keyed_as (codes "registers")) (entries_by layout name stack under legal banked chosen tracks) ≡ []
registers_entry layout name [] under legal banked chosen tracks =
    by_flags (λ a b c d. filter (keyed_as (codes "registers")) (entries_by layout name [] under a b c d) ≡ [])
    refl refl refl refl refl refl refl refl refl refl refl refl refl refl refl refl legal banked chosen tracks
registers_entry layout name (object ∷ objects) under legal banked chosen tracks =
    by_flags (λ a b c d. filter (keyed_as (codes "registers")) (entries_by layout name (object ∷ objects) under a b c d) ≡ [])
    refl refl refl refl refl refl refl refl refl refl refl refl refl refl refl refl legal banked chosen tracks

stack_entry : (layout : Layout) (name : List ℕ) (stack : List StackObject) (under : List (List ℕ)) (legal banked chosen tracks : Bool)
    → filter (keyed_as (codes "stack")) (entries_by layout name stack under legal banked chosen tracks) ≡ stack_sections stack
stack_entry layout name [] under legal banked chosen tracks =
    by_flags (λ a b c d. filter (keyed_as (codes "stack")) (entries_by layout name [] under a b c d) ≡ stack_sections [])
    refl refl refl refl refl refl refl refl refl refl refl refl refl refl refl refl legal banked chosen tracks
stack_entry layout name (object ∷ objects) under legal banked chosen tracks =
    by_flags (λ a b c d. filter (keyed_as (codes "stack")) (entries_by layout name (object ∷ objects) under a b c d) ≡ stack_sections (object ∷ objects))
    refl refl refl refl refl refl refl refl refl refl refl refl refl refl refl refl legal banked chosen tracks

body_entry : (layout : Layout) (name : List ℕ) (stack : List StackObject) (under : List (List ℕ)) (legal banked chosen tracks : Bool)
    → filter (keyed_as (codes "body")) (entries_by layout name stack under legal banked chosen tracks) ≡ record { head = body_line layout; under = under } ∷ []
body_entry layout name [] under legal banked chosen tracks =
    by_flags (λ a b c d. filter (keyed_as (codes "body")) (entries_by layout name [] under a b c d) ≡ record { head = body_line layout; under = under } ∷ [])
    refl refl refl refl refl refl refl refl refl refl refl refl refl refl refl refl legal banked chosen tracks
body_entry layout name (object ∷ objects) under legal banked chosen tracks =
    by_flags (λ a b c d. filter (keyed_as (codes "body")) (entries_by layout name (object ∷ objects) under a b c d) ≡ record { head = body_line layout; under = under } ∷ [])
    refl refl refl refl refl refl refl refl refl refl refl refl refl refl refl refl legal banked chosen tracks

-- ══ The lines of a function ══

-- what its lines need
pub record IsLined (names : List (List ℕ)) (f : FunctionData) : Type 0 where
  pub named : is_name (name_at names f.name) ≡ true
  pub blocks : list_all (is_named_block names) f.blocks ≡ true

-- the lines under `---`, without the line that may end them
abbrev pub front_lines : Layout → (names : List (List ℕ)) → FunctionData → List (List ℕ)
front_lines layout names f =
    header_lines layout (name_at names f.name) f.legalized f.banked f.selected
    ++ (stack_lines f.stack ++ (body_line layout ∷ blocks_lines (kind_of f) names 0 (length f.blocks) f.blocks))

abbrev pub function_lines : Layout → (names : List (List ℕ)) → FunctionData → List (List ℕ)
function_lines layout names f = front_lines layout names f ++ end_lines layout.closed

abbrev pub function_sections : Layout → (names : List (List ℕ)) → FunctionData → List Section
function_sections layout names f = entries_by layout (name_at names f.name) f.stack (kept_blocks (kind_of f) names 0 (length f.blocks) f.blocks) f.legalized f.banked f.selected layout.tracks

-- what holds of lines of entries, of what stands under them and of an empty line holds of them all
module _ (P : List ℕ → Type 0) (of_outer : (line : List ℕ) → IsOuter line → P line) (of_inner : (line : List ℕ) → IsInner line → P line) (of_empty : P []) where
  each_front : (layout : Layout) (names : List (List ℕ)) (f : FunctionData) → IsLined names f → EachLine P (front_lines layout names f)
  each_front layout names f lined =
      let header = header_lines layout (name_at names f.name) f.legalized f.banked f.selected in
      let blocks = blocks_lines (kind_of f) names 0 (length f.blocks) f.blocks in
      each-append P header (stack_lines f.stack ++ (body_line layout ∷ blocks))
      (each-weaker IsOuter P of_outer header (header_outer layout (name_at names f.name) f.legalized f.banked f.selected (name_solid (name_at names f.name) lined.named)))
      (each-append P (stack_lines f.stack) (body_line layout ∷ blocks) (each_stack P of_outer of_inner f.stack)
      (of_outer (body_line layout) (body_outer layout.body (codes "|") bar_solid), each_blocks P of_inner of_empty (kind_of f) names 0 (length f.blocks) f.blocks lined.blocks))

outer_raw : (line : List ℕ) → IsOuter line → IsRaw line
outer_raw line outer = outer.raw

pub front_raw : (layout : Layout) (names : List (List ℕ)) (f : FunctionData) → IsLined names f → EachLine IsRaw (front_lines layout names f)
front_raw layout names f lined = each_front IsRaw outer_raw raw_inner (record { no_start = refl; no_feed = refl }) layout names f lined

front_unended : (layout : Layout) (names : List (List ℕ)) (f : FunctionData) → IsLined names f → list_all (λ line. not (is_end line)) (front_lines layout names f) ≡ true
front_unended layout names f lined = each_unended (front_lines layout names f) (each_front (λ line. is_end line ≡ false) outer_no_end inner_no_end refl layout names f lined)

sections_of-front : (layout : Layout) (names : List (List ℕ)) (f : FunctionData) → IsLined names f
    → sections_of begins_at_column_one (kept_lines (front_lines layout names f)) ≡ record { before = []; sections = function_sections layout names f }
sections_of-front layout names f lined =
    let header = header_lines layout (name_at names f.name) f.legalized f.banked f.selected in
    let lines = blocks_lines (kind_of f) names 0 (length f.blocks) f.blocks in
    let blocks = kept_blocks (kind_of f) names 0 (length f.blocks) f.blocks in
    let stack = stack_lines f.stack in
    let header_each : EachLine IsOuter header = header_outer layout (name_at names f.name) f.legalized f.banked f.selected (name_solid (name_at names f.name) lined.named) in
    let body_each : IsOuter (body_line layout) = body_outer layout.body (codes "|") bar_solid in
    let own : Section = record { head = body_line layout; under = blocks } in
    let body : kept_lines (body_line layout ∷ lines) ≡ body_line layout ∷ blocks =
    rw (body_each.kept) (ap (λ more. body_line layout ∷ more) (kept_blocks_lines (kind_of f) names 0 (length f.blocks) f.blocks lined.blocks)) in
    let behind : kept_lines (stack ++ (body_line layout ∷ lines)) ≡ stack ++ (body_line layout ∷ blocks) =
    kept-append stack (body_line layout ∷ lines) ∙ (ap (λ xs. xs ++ kept_lines (body_line layout ∷ lines)) (kept_stack f.stack) ∙ ap (λ ys. stack ++ ys) body) in
    let kept : kept_lines (front_lines layout names f) ≡ header ++ (stack ++ (body_line layout ∷ blocks)) =
    kept-append header (stack ++ (body_line layout ∷ lines))
    ∙ (ap (λ xs. xs ++ kept_lines (stack ++ (body_line layout ∷ lines))) (kept_outer header header_each) ∙ ap (λ ys. header ++ ys) behind) in
    ap (sections_of begins_at_column_one) kept
    ∙ bare_sections header (stack ++ (body_line layout ∷ blocks)) (stack_sections f.stack ++ (own ∷ [])) header_each
    (stack_before f.stack (body_line layout ∷ blocks) (own ∷ [])
    (body_sections (body_line layout) blocks body_each.at_column_one (kept_blocks_inner (kind_of f) names 0 (length f.blocks) f.blocks lined.blocks)))

-- ══ A function ══

pub lined_of : (names : List (List ℕ)) (f : FunctionData) → IsPrintableFunction names f → IsLined names f
lined_of names f printable = record { named = printable.named; blocks = blocks_named names (counts_of f) f.blocks printable.blocks }

-- the blocks under `body`
record SpellsBodyLines (text : List ℕ) (names : List (List ℕ)) (f : FunctionData) (lines : List Line) : Type 0 where
  from_a_head : (blocks_in text lines).before ≡ []
  distinct : are_distinct (block_numbers text (blocks_in text lines).sections) ≡ true
  blocks : SpellsBlocks text names (record { classes = []; blocks = block_numbers text (blocks_in text lines).sections; objects = length f.stack }) (types_in f) 0 (blocks_in text lines).sections f.blocks

body_lines_spelled : (text : List ℕ) (names : List (List ℕ)) (f : FunctionData) (lines : List Line) → IsPrintableFunction names f
    → AllZip (IsLine text) lines (kept_blocks (kind_of f) names 0 (length f.blocks) f.blocks) → SpellsBodyLines text names f lines
body_lines_spelled text names f lines printable agree =
    let kinds = kind_of f in
    let tables = printed_tables f in
    let types = types_in f in
    let count = length f.blocks in
    let own = printed_blocks text names f printable in
    let named = (lined_of names f printable).blocks in
    let bytes = kept_blocks kinds names 0 count f.blocks in
    let tell = zip_each text lines bytes agree (blocks_tell text kinds names tables types 0 count f.blocks own) in
    let known : Sections = record { before = []; sections = block_sections kinds names 0 count f.blocks } in
    let found : AllAgree (TellsLine text) (line_specs.sections_of (is_head_line text) lines) known =
    subst (AllAgree (TellsLine text) (line_specs.sections_of (is_head_line text) lines)) (sections_of-blocks kinds names 0 count f.blocks named)
    (sections_zip (TellsLine text) (is_head_line text) is_block_head (tells_head text) lines bytes tell) in
    let same : line_specs.sections_of (is_head_line text) lines ≡ blocks_in text lines = ap (line_specs.sections_of (is_head_line text)) (sym (all_told text lines bytes tell)) in
    let blocks : AllAgree (TellsLine text) (blocks_in text lines) known = subst (λ sections. AllAgree (TellsLine text) sections known) same found in
    let numbers : block_numbers text (blocks_in text lines).sections ≡ places_from 0 f.blocks =
    numbers_are text kinds names tables types 0 count f.blocks (blocks_in text lines).sections own blocks.sections in
    let counted : AllZip (SectionsAgree (TellsLine text)) (blocks_in text lines).sections (block_sections kinds names 0 (length tables.blocks) f.blocks) =
    subst (λ n. AllZip (SectionsAgree (TellsLine text)) (blocks_in text lines).sections (block_sections kinds names 0 n f.blocks)) (sym (places_count 0 f.blocks)) blocks.sections in
    let spelled : SpellsBlocks text names tables types 0 (blocks_in text lines).sections f.blocks = blocks_spelled text kinds names tables types 0 f.blocks (blocks_in text lines).sections own counted in
    record {
      from_a_head = none_zip (TellsLine text) (blocks_in text lines).before blocks.before;
      distinct = ap are_distinct numbers ∙ places_distinct 0 f.blocks;
      blocks =
          subst (λ (own : List ℕ). SpellsBlocks text names (record { classes = []; blocks = own; objects = length f.stack }) types 0 (blocks_in text lines).sections f.blocks) (sym numbers) spelled;
    }

entries_spelled : (text : List ℕ) (layout : Layout) (names : List (List ℕ)) (f : FunctionData) (sections : List LineSection) → IsPrintableFunction names f
    → AllZip (SectionsAgree (IsLine text)) sections (function_sections layout names f) → SpellsEntries text names sections f
entries_spelled text layout names f sections printable agree =
    let name = name_at names f.name in
    let under = kept_blocks (kind_of f) names 0 (length f.blocks) f.blocks in
    let known = function_sections layout names f in
    let tracks = layout.tracks in
    let bodies = with_key text (codes "body") sections known _ agree (body_entry layout name f.stack under f.legalized f.banked f.selected tracks) in
    let body = one_zip (SectionsAgree (IsLine text)) (entries_with (codes "body") sections) (record { head = body_line layout; under = under }) bodies in
    let section : LineSection = body.0 in
    let registers = none_zip (SectionsAgree (IsLine text)) (entries_with (codes "registers") sections)
    (with_key text (codes "registers") sections known [] agree (registers_entry layout name f.stack under f.legalized f.banked f.selected tracks)) in
    let few : length f.stack ≤ 2 ^ 128 = (let test = printable.few_objects in grind (arith, nat_tests)) in
    let stack = stack_of text (entries_with (codes "stack") sections) f.stack few printable.objects
    (with_key text (codes "stack") sections known (stack_sections f.stack) agree (stack_entry layout name f.stack under f.legalized f.banked f.selected tracks)) in
    let spelled = body_lines_spelled text names f section.under printable body.2.under in
    let bar : value_whats text section ≡ Some (what.Bar ∷ []) =
    value_is text section (codes "body") (replicate layout.body 32 ++ codes "|") (what.Bar ∷ []) body.2.head refl (reads_spaced layout.body (codes "|") (what.Bar ∷ []) reads_bar) in
    record {
      keyed = all_keyed text sections known agree (keyed_entry layout name f.stack under f.legalized f.banked f.selected tracks);
      named = name_spelled text name layout.name (entries_with (codes "name") sections) printable.named
          (with_key text (codes "name") sections known _ agree (named_entry layout name f.stack under f.legalized f.banked f.selected tracks));
      legal = truth_spelled text (codes "legalized") layout.legal f.legalized (entries_with (codes "legalized") sections) refl
          (with_key text (codes "legalized") sections known _ agree (legal_entry layout name f.stack under f.legalized f.banked f.selected tracks));
      banked = truth_spelled text (codes "regBankSelected") layout.banked f.banked (entries_with (codes "regBankSelected") sections) refl
          (with_key text (codes "regBankSelected") sections known _ agree (banked_entry layout name f.stack under f.legalized f.banked f.selected tracks));
      chosen = truth_spelled text (codes "selected") layout.chosen f.selected (entries_with (codes "selected") sections) refl
          (with_key text (codes "selected") sections known _ agree (chosen_entry layout name f.stack under f.legalized f.banked f.selected tracks));
      registers = [];
      registered = subst (λ found. Lists text found []) (sym registers) refl;
      each_register = refl;
      objects = stack.lines;
      stacked = stack.listed;
      stack = stack.objects.means;
      each_object = stack.objects.each;
      lines = section.under;
      bodied = subst (λ found. SpellsBody text found section.under) (sym body.1) (bar, refl);
      from_a_head = spelled.from_a_head;
      distinct = spelled.distinct;
      blocks = spelled.blocks;
    }

-- ══ A document ══

pub document_spelled : (text : List ℕ) (layout : Layout) (names : List (List ℕ)) (f : FunctionData) (document : LineSection) → IsPrintableFunction names f
    → SectionsAgree (IsLine text) document (record { head = codes "---"; under = function_lines layout names f }) → SpellsDocument text names document f
document_spelled text layout names f document printable agree =
    let lined = lined_of names f printable in
    let front = front_lines layout names f in
    let ends = end_lines layout.closed in
    let unended = front_unended layout names f lined in
    let run : AllZip (IsLine text) (document_lines document) front =
    subst (AllZip (IsLine text) (document_lines document)) (run_of-append (λ line. not (is_end line)) front ends unended (end_stops layout.closed))
    (run_zip (IsLine text) (λ line. not (line_specs.is_end line.bytes)) (λ line. not (is_end line)) (ends_same text) document.under (front ++ ends) agree.under) in
    let past : AllZip (IsLine text) (document_rest document) ends =
    subst (AllZip (IsLine text) (document_rest document)) (past_run-append (λ line. not (is_end line)) front ends unended (end_stops layout.closed))
    (past_zip (IsLine text) (λ line. not (line_specs.is_end line.bytes)) (λ line. not (is_end line)) (ends_same text) document.under (front ++ ends) agree.under) in
    let kept : AllZip (IsLine text) (counted_lines (document_lines document)) (kept_lines front) =
    filter_zip (IsLine text) (λ line. not (line_specs.is_dropped line.bytes)) (λ line. not (is_dropped line)) (drops_same text) (document_lines document) front run in
    let sections : AllAgree (IsLine text) (document_entries document) (record { before = []; sections = function_sections layout names f }) =
    subst (AllAgree (IsLine text) (document_entries document)) (sections_of-front layout names f lined)
    (sections_zip (IsLine text) line_specs.is_at_column_one begins_at_column_one (column_same text) (counted_lines (document_lines document)) (kept_lines front) kept) in
    record {
      from_a_key = none_zip (IsLine text) (document_entries document).before sections.before;
      to_the_end = no_strays_behind text layout.closed (document_rest document) past;
      entries = entries_spelled text layout names f (entries_of document) printable sections.sections;
    }
