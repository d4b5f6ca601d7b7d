-- The blocks that lines spell, where each line of an instruction spells its instruction.
use Rattle.std.proofs.Common.{◌≡◌, ℕ, zero, suc, ◌<◌, Bool, true, false, List, [], ◌∷◌, ◌++◌, length, Option, Some, map, refl, sym, ap, ◌∙◌, subst, inl, inr, arith}
use Rattle.std.specs.Prelude.{◌||◌, codes, not, filter, nat_lt, nat_eq, is_some, ⊤}
use Rattle.std.specs.List.{list_all, list_any, AllZip}
use Rattle.std.proofs.lemmas.Bool.{and_parts}
use Rattle.std.proofs.lemmas.Bool.Decides.{nat_tests}
use Rattle.gi_llt.specs.Tokens.{run_of, past_run}
use Rattle.gi_llt.proofs.Pieces.{run_of-append, past_run-append}
use Rattle.gi_llt.specs.declared.Llt.{Llt}
use Rattle.gi_mir.specs.declared.operand.Kind.{Kind}
use Rattle.gi_mir.specs.Data.{InstrData, BlockData}
use Rattle.gi_spelling.specs.declared.token.Word.TheVariants as word
use Rattle.gi_spelling.specs.declared.token.What.{What}
use Rattle.gi_spelling.specs.declared.token.What.TheVariants as what
use Rattle.gi_spelling.specs.declared.token.Item.{Item}
use Rattle.gi_spelling.specs.declared.written.ListKind.TheVariants.{Successors, Liveins}
use Rattle.gi_spelling.specs.Items.{what_in, kept_items}
use Rattle.gi_spelling.specs.Lines.{Line, Section as LineSection}
use Rattle.gi_spelling.specs.Resolved.{Tables, block_place}
use Rattle.gi_spelling.specs.Blocks.{is_debug_kept, is_told, head_by, head_in, head_number, is_block_head as is_head_line, is_head, list_by, list_kind_in, list_kind, listed_in, block_numbers}
use Rattle.gi_spelling.specs.Spelling.{word_what, listed_whats, block_whats, physical_whats, SpellsInstr, is_list_line as states_list, is_kind, StatesSuccessors, SpellsSuccessors, SpellsLiveins, SpellsBlock, SpellsBlocks, are_distinct}
use Rattle.gi_spelling.specs.Printed.{instr_line, instr_lines, implied_successors, states_successors}
use Rattle.gi_spelling.proofs.Nameable.{is_named_instr, is_named_block}
use Rattle.gi_spelling.proofs.PlainLines.{is_block_head, begins_list, is_list_line}
use Rattle.gi_spelling.proofs.WrittenParts.{no_equals}
use Rattle.gi_spelling.proofs.WrittenLines.{all_listed}
use Rattle.gi_spelling.proofs.SpelledLines.{line_begins, headless, listless, line_told, begins_other, other_told}
use Rattle.gi_spelling.proofs.PlacedLines.{IsLine, Reads}
use Rattle.gi_spelling.proofs.KeptLines.{are_loud, KeepsAll, keeps_all}
use Rattle.gi_spelling.proofs.PrintedTokens.{reads_head, reads_successors, reads_liveins}
use Rattle.gi_spelling.proofs.BlockLines.{EachLine, each-append, instr_no_block, instr_no_list, instrs_stop, head_line, head_begins, head_items, successors_line, liveins_line, successors_listed, liveins_listed}
use Rattle.gi_spelling.proofs.Blocks.{stated_lists, lists_listed, a_list, IsLiveAt, under_lines, block_section, block_sections, kept_blocks}
use Rattle.gi_spelling.proofs.Zips.{run_zip, past_zip, zip_weaker, SectionsAgree}

-- ══ Lines that tell what they are ══

-- a line of an instruction
pub record IsInstrLine (text : List ℕ) (names : List (List ℕ)) (tables : Tables) (types : ℕ → Option Llt) (bytes : List ℕ) (instr : ℕ × InstrData) : Type 0 where
  pub spelled : (line : Line) → IsLine text line bytes → SpellsInstr text names tables types line instr

-- the tests of a line are those of its bytes
pub record Tells (text bytes : List ℕ) : Type 0 where
  pub told : (line : Line) → IsLine text line bytes → is_told text line ≡ true
  pub head : (line : Line) → IsLine text line bytes → is_head_line text line ≡ is_block_head bytes
  pub list : (line : Line) → IsLine text line bytes → states_list text line ≡ is_list_line bytes

-- by the first two tokens
pub head_of-items : (items : List Item) (w : What) (ws : List What) → map what_in items ≡ w ∷ ws → head_in (Some items) ≡ head_by w
head_of-items [] w ws e = absurd (cc)
head_of-items (item ∷ rest) w ws e =
    let is : item.what ≡ w = cc in
    ap head_by is

pub kind_of-items : (items : List Item) (w v : What) (ws : List What) → map what_in items ≡ w ∷ v ∷ ws → list_kind_in (Some items) ≡ list_by w v
kind_of-items [] w v ws e = absurd (cc)
kind_of-items (item ∷ []) w v ws e = absurd (cc)
kind_of-items (item ∷ next ∷ rest) w v ws e =
    let is : item.what ≡ w = cc in
    let also : next.what ≡ v = cc in
    rw (is, also) refl

pub listed_of-items : (items : List Item) (w v : What) (ws : List What) → map what_in items ≡ w ∷ v ∷ ws → map what_in (listed_in (Some items)) ≡ ws
listed_of-items [] w v ws e = absurd (cc)
listed_of-items (item ∷ []) w v ws e = absurd (cc)
listed_of-items (item ∷ next ∷ rest) w v ws e = cc

-- a line with these tokens, of which the second is a colon
pub record IsListOf (text bytes : List ℕ) (w : What) (ws : List What) : Type 0 where
  pub reads : Reads bytes (w ∷ what.Colon ∷ ws)
  pub loud : are_loud (w ∷ what.Colon ∷ ws) ≡ true
  pub other : begins_other w ≡ true
  pub none : list_all no_equals (w ∷ what.Colon ∷ ws) ≡ true

kept_list : (text : List ℕ) (line : Line) (bytes : List ℕ) (w : What) (ws : List What) → IsLine text line bytes → IsListOf text bytes w ws → KeepsAll text line (w ∷ what.Colon ∷ ws)
kept_list text line bytes w ws is lists = keeps_all text line bytes (w ∷ what.Colon ∷ ws) is lists.reads lists.loud

list_told : (text : List ℕ) (line : Line) (bytes : List ℕ) (w : What) (ws : List What) → IsLine text line bytes → IsListOf text bytes w ws → is_told text line ≡ true
list_told text line bytes w ws is lists =
    let keeps = kept_list text line bytes w ws is lists in
    ap (λ items. not (is_debug_kept items)) keeps.kept ∙ ap not (other_told keeps.items w (what.Colon ∷ ws) keeps.same lists.other lists.none)

list_head : (text : List ℕ) (line : Line) (bytes : List ℕ) (w : What) (ws : List What) → IsLine text line bytes → IsListOf text bytes w ws → head_number text line ≡ head_by w
list_head text line bytes w ws is lists =
    let keeps = kept_list text line bytes w ws is lists in
    ap head_in keeps.kept ∙ head_of-items keeps.items w (what.Colon ∷ ws) keeps.same

list_kind_is : (text : List ℕ) (line : Line) (bytes : List ℕ) (w : What) (ws : List What) → IsLine text line bytes → IsListOf text bytes w ws → list_kind text line ≡ list_by w what.Colon
list_kind_is text line bytes w ws is lists =
    let keeps = kept_list text line bytes w ws is lists in
    ap list_kind_in keeps.kept ∙ kind_of-items keeps.items w what.Colon ws keeps.same

listed_is : (text : List ℕ) (line : Line) (bytes : List ℕ) (w : What) (ws : List What) → IsLine text line bytes → IsListOf text bytes w ws → map what_in (listed_in (kept_items text line)) ≡ ws
listed_is text line bytes w ws is lists =
    let keeps = kept_list text line bytes w ws is lists in
    ap (λ items. map what_in (listed_in items)) keeps.kept ∙ listed_of-items keeps.items w what.Colon ws keeps.same

-- lists of blocks and of registers are loud
loud_blocks : (numbers : List ℕ) → are_loud (listed_whats (map block_whats numbers)) ≡ true
loud_blocks [] = refl
loud_blocks (n ∷ []) = refl
loud_blocks (n ∷ next ∷ numbers) = loud_blocks (next ∷ numbers)

loud_physicals : (numbers : List ℕ) → are_loud (listed_whats (map physical_whats numbers)) ≡ true
loud_physicals [] = refl
loud_physicals (n ∷ []) = refl
loud_physicals (n ∷ next ∷ numbers) = loud_physicals (next ∷ numbers)

head_lists : (text : List ℕ) (place : ℕ) → place < 4294901760 → IsListOf text (head_line place) (word_what (word.BlockHead place)) []
head_lists text place within = record { reads = reads_head place within; loud = refl; other = refl; none = refl }

successors_lists : (text : List ℕ) (numbers : List ℕ) → list_all (λ n. nat_lt n 4294901760) numbers ≡ true
    → IsListOf text (successors_line numbers) (word_what word.Successors) (listed_whats (map block_whats numbers))
successors_lists text numbers below = record {
  reads = reads_successors numbers below;
  loud = loud_blocks numbers;
  other = refl;
  none = all_listed no_equals block_whats refl (λ n. refl) numbers;
}

liveins_lists : (text : List ℕ) (number : ℕ) (numbers : List ℕ) → list_all (λ n. nat_lt n 32) (number ∷ numbers) ≡ true
    → IsListOf text (liveins_line (number ∷ numbers)) (word_what word.Liveins) (listed_whats (map physical_whats (number ∷ numbers)))
liveins_lists text number numbers below = record {
  reads = reads_liveins number numbers below;
  loud = loud_physicals (number ∷ numbers);
  other = refl;
  none = all_listed no_equals physical_whats refl (λ n. refl) (number ∷ numbers);
}

-- ══ Each line of blocks tells what it is ══

head_no_list : (place : ℕ) → is_list_line (head_line place) ≡ false
head_no_list place = ap (λ items. begins_list (codes "successors") items || begins_list (codes "liveins") items) (head_items place)

head_tells : (text : List ℕ) (place : ℕ) → place < 4294901760 → Tells text (head_line place)
head_tells text place within =
    let lists = head_lists text place within in
    let w = word_what (word.BlockHead place) in
    record {
      told = λ line is. list_told text line (head_line place) w [] is lists;
      head = λ line is. ap is_some (list_head text line (head_line place) w [] is lists) ∙ sym (head_begins place);
      list = λ line is. ap is_some (list_kind_is text line (head_line place) w [] is lists) ∙ sym (head_no_list place);
    }

successors_tells : (text : List ℕ) (numbers : List ℕ) → list_all (λ n. nat_lt n 4294901760) numbers ≡ true → Tells text (successors_line numbers)
successors_tells text numbers below =
    let lists = successors_lists text numbers below in
    let w = word_what word.Successors in
    let ws = listed_whats (map block_whats numbers) in
    record {
      told = λ line is. list_told text line (successors_line numbers) w ws is lists;
      head = λ line is. ap is_some (list_head text line (successors_line numbers) w ws is lists) ∙ sym ((successors_listed numbers).no_head);
      list = λ line is. ap is_some (list_kind_is text line (successors_line numbers) w ws is lists) ∙ sym (a_list (successors_line numbers) true (successors_listed numbers));
    }

liveins_tells : (text : List ℕ) (number : ℕ) (numbers : List ℕ) → list_all (λ n. nat_lt n 32) (number ∷ numbers) ≡ true → Tells text (liveins_line (number ∷ numbers))
liveins_tells text number numbers below =
    let lists = liveins_lists text number numbers below in
    let line_is = liveins_line (number ∷ numbers) in
    let w = word_what word.Liveins in
    let ws = listed_whats (map physical_whats (number ∷ numbers)) in
    record {
      told = λ line is. list_told text line line_is w ws is lists;
      head = λ line is. ap is_some (list_head text line line_is w ws is lists) ∙ sym ((liveins_listed (number ∷ numbers)).no_head);
      list = λ line is. ap is_some (list_kind_is text line line_is w ws is lists) ∙ sym (a_list line_is false (liveins_listed (number ∷ numbers)));
    }

instr_tells : (text : List ℕ) (kinds : ℕ → Kind) (names : List (List ℕ)) (tables : Tables) (types : ℕ → Option Llt) (instr : ℕ × InstrData) → is_named_instr names instr ≡ true
    → IsInstrLine text names tables types (instr_line kinds names instr.1) instr → Tells text (instr_line kinds names instr.1)
instr_tells text kinds names tables types instr named one = record {
  told = λ line is. told (one.spelled line is);
  head = λ line is. head (one.spelled line is) ∙ sym (instr_no_block kinds names instr named);
  list = λ line is. list (one.spelled line is) ∙ sym (instr_no_list kinds names instr named);
}
  where
    told : {line : Line} → SpellsInstr text names tables types line instr → is_told text line ≡ true
    told {line} s = ap (λ items. not (is_debug_kept items)) s.tokens ∙ ap not (line_told s.items s.written s.spelled)

    head : {line : Line} → SpellsInstr text names tables types line instr → is_head_line text line ≡ false
    head {line} s = ap (λ items. is_some (head_in items)) s.tokens ∙ ap is_some (headless s.items _ s.spelled.same (line_begins s.written))

    list : {line : Line} → SpellsInstr text names tables types line instr → states_list text line ≡ false
    list {line} s = ap (λ items. is_some (list_kind_in items)) s.tokens ∙ ap is_some (listless s.items _ s.spelled.same (line_begins s.written))

instrs_tell : (text : List ℕ) (kinds : ℕ → Kind) (names : List (List ℕ)) (tables : Tables) (types : ℕ → Option Llt) (instrs : List (ℕ × InstrData))
    → list_all (is_named_instr names) instrs ≡ true → AllZip (IsInstrLine text names tables types) (instr_lines kinds names instrs) instrs → EachLine (Tells text) (instr_lines kinds names instrs)
instrs_tell text kinds names tables types [] named all = tt
instrs_tell text kinds names tables types (instr ∷ instrs) named all =
    let parts = and_parts (is_named_instr names instr) (list_all (is_named_instr names) instrs) named in
    (instr_tells text kinds names tables types instr parts.0 all.0, instrs_tell text kinds names tables types instrs parts.1 all.1)

-- what a block's lists have to be
pub record ListsFit (tables : Tables) (block : BlockData) : Type 0 where
  pub below : list_all (λ n. nat_lt n 4294901760) block.successors ≡ true
  pub placed : block.successors ≡ map (block_place tables.blocks) block.successors
  pub physical : list_all (λ n. nat_lt n 32) block.liveins ≡ true

lists_tell : (text : List ℕ) (stated : Bool) (successors liveins : List ℕ) → list_all (λ n. nat_lt n 4294901760) successors ≡ true → list_all (λ n. nat_lt n 32) liveins ≡ true
    → EachLine (Tells text) (stated_lists stated successors liveins)
lists_tell text true successors [] below physical = (successors_tells text successors below, tt)
lists_tell text true successors (n ∷ liveins) below physical = (successors_tells text successors below, (liveins_tells text n liveins physical, tt))
lists_tell text false successors [] below physical = tt
lists_tell text false successors (n ∷ liveins) below physical = (liveins_tells text n liveins physical, tt)

-- the blocks from a place on, whose lines spell what they hold
pub record IsBlockOf (text : List ℕ) (kinds : ℕ → Kind) (names : List (List ℕ)) (tables : Tables) (types : ℕ → Option Llt) (place : ℕ) (block : BlockData) : Type 0 where
  pub within : place < 4294901760
  pub named : is_named_block names block ≡ true
  pub fit : ListsFit tables block
  pub live : IsLiveAt place block.liveins
  pub instrs : AllZip (IsInstrLine text names tables types) (instr_lines kinds names block.instrs) block.instrs

abbrev pub AreBlocksOf : (text : List ℕ) (kinds : ℕ → Kind) (names : List (List ℕ)) (tables : Tables) (types : ℕ → Option Llt) (place : ℕ) → List BlockData → Type 0
AreBlocksOf text kinds names tables types place [] = ⊤
AreBlocksOf text kinds names tables types place (block ∷ blocks) = IsBlockOf text kinds names tables types place block × AreBlocksOf text kinds names tables types (suc place) blocks

pub blocks_tell : (text : List ℕ) (kinds : ℕ → Kind) (names : List (List ℕ)) (tables : Tables) (types : ℕ → Option Llt) (place count : ℕ) (blocks : List BlockData)
    → AreBlocksOf text kinds names tables types place blocks → EachLine (Tells text) (kept_blocks kinds names place count blocks)
blocks_tell text kinds names tables types place count [] all = tt
blocks_tell text kinds names tables types place count (block ∷ blocks) all =
    let stated = states_successors block.successors (implied_successors place count block.instrs) in (
      head_tells text place all.0.within,
      each-append (Tells text) (under_lines kinds names place count block) (kept_blocks kinds names (suc place) count blocks)
          (each-append (Tells text) (stated_lists stated block.successors block.liveins) (instr_lines kinds names block.instrs)
          (lists_tell text stated block.successors block.liveins all.0.fit.below all.0.fit.physical)
          (instrs_tell text kinds names tables types block.instrs all.0.named all.0.instrs))
          (blocks_tell text kinds names tables types (suc place) count blocks all.1),
    )

-- ══ A block ══

pub record TellsLine (text : List ℕ) (line : Line) (bytes : List ℕ) : Type 0 where
  pub placed : IsLine text line bytes
  pub tells : Tells text bytes

pub zip_each : (text : List ℕ) (lines : List Line) (bytes : List (List ℕ)) → AllZip (IsLine text) lines bytes → EachLine (Tells text) bytes → AllZip (TellsLine text) lines bytes
zip_each text [] [] all each = tt
zip_each text [] (b ∷ bytes) all each = absurd all
zip_each text (line ∷ lines) [] all each = absurd all
zip_each text (line ∷ lines) (b ∷ bytes) all each = (record { placed = all.0; tells = each.0 }, zip_each text lines bytes all.1 each.1)

pub all_told : (text : List ℕ) (lines : List Line) (bytes : List (List ℕ)) → AllZip (TellsLine text) lines bytes → filter (is_told text) lines ≡ lines
all_told text [] bytes all = refl
all_told text (line ∷ lines) [] all = absurd all
all_told text (line ∷ lines) (b ∷ bytes) all = rw (all.0.tells.told line all.0.placed) (ap (λ more. line ∷ more) (all_told text lines bytes all.1))

-- which list a line states
successors_kind : (text : List ℕ) (line : Line) (numbers : List ℕ) → list_all (λ n. nat_lt n 4294901760) numbers ≡ true → IsLine text line (successors_line numbers) → list_kind text line ≡ Some Successors
successors_kind text line numbers below is =
    list_kind_is text line (successors_line numbers) (word_what word.Successors) (listed_whats (map block_whats numbers)) is (successors_lists text numbers below)

liveins_kind : (text : List ℕ) (line : Line) (n : ℕ) (numbers : List ℕ) → list_all (λ n. nat_lt n 32) (n ∷ numbers) ≡ true → IsLine text line (liveins_line (n ∷ numbers)) → list_kind text line ≡ Some Liveins
liveins_kind text line n numbers physical is =
    list_kind_is text line (liveins_line (n ∷ numbers)) (word_what word.Liveins) (listed_whats (map physical_whats (n ∷ numbers))) is (liveins_lists text n numbers physical)

states_successors_line : (text : List ℕ) (tables : Tables) (line : Line) (block : BlockData) → ListsFit tables block → IsLine text line (successors_line block.successors)
    → StatesSuccessors text tables line block.successors
states_successors_line text tables line block fit is = record {
  numbers = block.successors;
  stated = record { same = listed_is text line (successors_line block.successors) (word_what word.Successors) (listed_whats (map block_whats block.successors)) is (successors_lists text block.successors fit.below) };
  same = fit.placed;
}

unstated : (successors implied : List ℕ) → states_successors successors implied ≡ false → successors ≡ implied
unstated [] [] e = refl
unstated [] (place ∷ places) e = absurd (cc)
unstated (place ∷ places) implied e = absurd (cc)

succeeded_by : (text : List ℕ) (tables : Tables) (implied : List ℕ) (block : BlockData) (stated : Bool) (liveins : List ℕ) → states_successors block.successors implied ≡ stated → ListsFit tables block
    → list_all (λ n. nat_lt n 32) liveins ≡ true → (lines : List Line) → AllZip (IsLine text) lines (stated_lists stated block.successors liveins)
    → SpellsSuccessors text tables (filter (λ line. is_kind Successors (list_kind text line)) lines) implied block.successors
succeeded_by text tables implied block true [] states fit physical (line ∷ []) all =
    rw (successors_kind text line block.successors fit.below all.0) (states_successors_line text tables line block fit all.0)
succeeded_by text tables implied block true (n ∷ liveins) states fit physical (line ∷ next ∷ []) all =
    rw (successors_kind text line block.successors fit.below all.0, liveins_kind text next n liveins physical all.1.0) (states_successors_line text tables line block fit all.0)
succeeded_by text tables implied block false [] states fit physical [] all = unstated block.successors implied states
succeeded_by text tables implied block false (n ∷ liveins) states fit physical (line ∷ []) all =
    rw (liveins_kind text line n liveins physical all.0) (unstated block.successors implied states)
succeeded_by text tables implied block true [] states fit physical [] all = absurd all
succeeded_by text tables implied block true [] states fit physical (line ∷ next ∷ lines) all = absurd all.1
succeeded_by text tables implied block true (n ∷ liveins) states fit physical [] all = absurd all
succeeded_by text tables implied block true (n ∷ liveins) states fit physical (line ∷ []) all = absurd all.1
succeeded_by text tables implied block true (n ∷ liveins) states fit physical (line ∷ next ∷ last ∷ lines) all = absurd all.1.1
succeeded_by text tables implied block false [] states fit physical (line ∷ lines) all = absurd all
succeeded_by text tables implied block false (n ∷ liveins) states fit physical [] all = absurd all
succeeded_by text tables implied block false (n ∷ liveins) states fit physical (line ∷ next ∷ lines) all = absurd all.1

liveins_line_spelled : (text : List ℕ) (place : ℕ) (line : Line) (n : ℕ) (numbers : List ℕ) → IsLiveAt place (n ∷ numbers) → list_all (λ n. nat_lt n 32) (n ∷ numbers) ≡ true → IsLine text line (liveins_line (n ∷ numbers))
    → SpellsLiveins text place (line ∷ []) (n ∷ numbers)
liveins_line_spelled text zero line n numbers live physical is = (
  λ empty. cc,
  record { same = listed_is text line (liveins_line (n ∷ numbers)) (word_what word.Liveins) (listed_whats (map physical_whats (n ∷ numbers))) is (liveins_lists text n numbers physical) },
)
liveins_line_spelled text (suc place) line n numbers (inl first) physical is = absurd (cc)
liveins_line_spelled text (suc place) line n numbers (inr empty) physical is = absurd (cc)

none_live_spelled : (text : List ℕ) (place : ℕ) → SpellsLiveins text place [] []
none_live_spelled text zero = refl
none_live_spelled text (suc place) = refl

live_by : (text : List ℕ) (place : ℕ) (successors : List ℕ) (stated : Bool) (liveins : List ℕ) → list_all (λ n. nat_lt n 4294901760) successors ≡ true → IsLiveAt place liveins
    → list_all (λ n. nat_lt n 32) liveins ≡ true → (lines : List Line) → AllZip (IsLine text) lines (stated_lists stated successors liveins)
    → SpellsLiveins text place (filter (λ line. is_kind Liveins (list_kind text line)) lines) liveins
live_by text place successors true [] below live physical (line ∷ []) all = rw (successors_kind text line successors below all.0) (none_live_spelled text place)
live_by text place successors true (n ∷ liveins) below live physical (line ∷ next ∷ []) all =
    rw (successors_kind text line successors below all.0, liveins_kind text next n liveins physical all.1.0) (liveins_line_spelled text place next n liveins live physical all.1.0)
live_by text place successors false [] below live physical [] all = none_live_spelled text place
live_by text place successors false (n ∷ liveins) below live physical (line ∷ []) all =
    rw (liveins_kind text line n liveins physical all.0) (liveins_line_spelled text place line n liveins live physical all.0)
live_by text place successors true [] below live physical [] all = absurd all
live_by text place successors true [] below live physical (line ∷ next ∷ lines) all = absurd all.1
live_by text place successors true (n ∷ liveins) below live physical [] all = absurd all
live_by text place successors true (n ∷ liveins) below live physical (line ∷ []) all = absurd all.1
live_by text place successors true (n ∷ liveins) below live physical (line ∷ next ∷ last ∷ lines) all = absurd all.1.1
live_by text place successors false [] below live physical (line ∷ lines) all = absurd all
live_by text place successors false (n ∷ liveins) below live physical [] all = absurd all
live_by text place successors false (n ∷ liveins) below live physical (line ∷ next ∷ lines) all = absurd all.1

instrs_of-lines : (text : List ℕ) (names : List (List ℕ)) (tables : Tables) (types : ℕ → Option Llt) (lines : List Line) (bytes : List (List ℕ)) (instrs : List (ℕ × InstrData))
    → AllZip (IsLine text) lines bytes → AllZip (IsInstrLine text names tables types) bytes instrs → AllZip (SpellsInstr text names tables types) lines instrs
instrs_of-lines text names tables types [] [] [] lines_are all = tt
instrs_of-lines text names tables types [] [] (instr ∷ instrs) lines_are all = absurd all
instrs_of-lines text names tables types [] (b ∷ bytes) instrs lines_are all = absurd lines_are
instrs_of-lines text names tables types (line ∷ lines) [] instrs lines_are all = absurd lines_are
instrs_of-lines text names tables types (line ∷ lines) (b ∷ bytes) [] lines_are all = absurd all
instrs_of-lines text names tables types (line ∷ lines) (b ∷ bytes) (instr ∷ instrs) lines_are all =
    (all.0.spelled line lines_are.0, instrs_of-lines text names tables types lines bytes instrs lines_are.1 all.1)

tells_line : (text : List ℕ) (line : Line) (bytes : List ℕ) → TellsLine text line bytes → IsLine text line bytes
tells_line text line bytes both = both.placed

tells_list : (text : List ℕ) (line : Line) (bytes : List ℕ) → TellsLine text line bytes → states_list text line ≡ is_list_line bytes
tells_list text line bytes both = both.tells.list line both.placed

pub tells_head : (text : List ℕ) (line : Line) (bytes : List ℕ) → TellsLine text line bytes → is_head_line text line ≡ is_block_head bytes
tells_head text line bytes both = both.tells.head line both.placed

headed_by : (items : List Item) (w : What) → map what_in items ≡ w ∷ what.Colon ∷ [] → is_head (Some items) ≡ true
headed_by [] w e = absurd (cc)
headed_by (item ∷ []) w e = absurd (cc)
headed_by (item ∷ next ∷ []) w e =
    let is : next.what ≡ what.Colon = cc in
    rw is refl
headed_by (item ∷ next ∷ other ∷ rest) w e = absurd (cc)

block_spelled : (text : List ℕ) (kinds : ℕ → Kind) (names : List (List ℕ)) (tables : Tables) (types : ℕ → Option Llt) (place : ℕ) (block : BlockData) (section : LineSection)
    → IsBlockOf text kinds names tables types place block → SectionsAgree (TellsLine text) section (block_section kinds names place (length tables.blocks) block)
    → SpellsBlock text names tables types place section block
block_spelled text kinds names tables types place block section one agree =
    let count = length tables.blocks in
    let implied = implied_successors place count block.instrs in
    let stated = states_successors block.successors implied in
    let heads = stated_lists stated block.successors block.liveins in
    let lines = instr_lines kinds names block.instrs in
    let listed = lists_listed stated block.successors block.liveins in
    let stops = instrs_stop kinds names block.instrs one.named in
    let run : AllZip (TellsLine text) (run_of (states_list text) section.under) heads =
    subst (AllZip (TellsLine text) (run_of (states_list text) section.under)) (run_of-append is_list_line heads lines listed stops)
    (run_zip (TellsLine text) (states_list text) is_list_line (tells_list text) section.under (heads ++ lines) agree.under) in
    let past : AllZip (TellsLine text) (past_run (states_list text) section.under) lines =
    subst (AllZip (TellsLine text) (past_run (states_list text) section.under)) (past_run-append is_list_line heads lines listed stops)
    (past_zip (TellsLine text) (states_list text) is_list_line (tells_list text) section.under (heads ++ lines) agree.under) in
    let heads_are = zip_weaker (TellsLine text) (IsLine text) (tells_line text) (run_of (states_list text) section.under) heads run in
    let keeps = kept_list text section.head (head_line place) (word_what (word.BlockHead place)) [] agree.head.placed (head_lists text place one.within) in
    record {
      headed = ap is_head keeps.kept ∙ headed_by keeps.items (word_what (word.BlockHead place)) keeps.same;
      succeeded = succeeded_by text tables implied block stated block.liveins refl one.fit one.fit.physical (run_of (states_list text) section.under) heads_are;
      live = live_by text place block.successors stated block.liveins one.fit.below one.live one.fit.physical (run_of (states_list text) section.under) heads_are;
      instructed = instrs_of-lines text names tables types (past_run (states_list text) section.under) lines block.instrs
          (zip_weaker (TellsLine text) (IsLine text) (tells_line text) (past_run (states_list text) section.under) lines past) one.instrs;
    }

pub blocks_spelled : (text : List ℕ) (kinds : ℕ → Kind) (names : List (List ℕ)) (tables : Tables) (types : ℕ → Option Llt) (place : ℕ) (blocks : List BlockData) (sections : List LineSection)
    → AreBlocksOf text kinds names tables types place blocks → AllZip (SectionsAgree (TellsLine text)) sections (block_sections kinds names place (length tables.blocks) blocks)
    → SpellsBlocks text names tables types place sections blocks
blocks_spelled text kinds names tables types place [] [] all agree = tt
blocks_spelled text kinds names tables types place [] (section ∷ sections) all agree = absurd agree
blocks_spelled text kinds names tables types place (block ∷ blocks) [] all agree = absurd agree
blocks_spelled text kinds names tables types place (block ∷ blocks) (section ∷ sections) all agree =
    (block_spelled text kinds names tables types place block section all.0 agree.0, blocks_spelled text kinds names tables types (suc place) blocks sections all.1 agree.1)

-- ══ The numbers of blocks ══

abbrev pub places_from : ℕ → List BlockData → List ℕ
places_from place [] = []
places_from place (block ∷ blocks) = place ∷ places_from (suc place) blocks

pub numbers_are : (text : List ℕ) (kinds : ℕ → Kind) (names : List (List ℕ)) (tables : Tables) (types : ℕ → Option Llt) (place count : ℕ) (blocks : List BlockData) (sections : List LineSection)
    → AreBlocksOf text kinds names tables types place blocks → AllZip (SectionsAgree (TellsLine text)) sections (block_sections kinds names place count blocks)
    → block_numbers text sections ≡ places_from place blocks
numbers_are text kinds names tables types place count [] [] all agree = refl
numbers_are text kinds names tables types place count [] (section ∷ sections) all agree = absurd agree
numbers_are text kinds names tables types place count (block ∷ blocks) [] all agree = absurd agree
numbers_are text kinds names tables types place count (block ∷ blocks) (section ∷ sections) all agree =
    let number = list_head text section.head (head_line place) (word_what (word.BlockHead place)) [] agree.0.head.placed (head_lists text place all.0.within) in
    rw number (ap (λ more. place ∷ more) (numbers_are text kinds names tables types (suc place) count blocks sections all.1 agree.1))

not_equal : (low place : ℕ) → low < place → nat_eq low place ≡ false
not_equal low place below = grind (arith, nat_tests)

not_among : (low place : ℕ) (blocks : List BlockData) → low < place → list_any (nat_eq low) (places_from place blocks) ≡ false
not_among low place [] below = refl
not_among low place (block ∷ blocks) below = rw (not_equal low place below) (not_among low (suc place) blocks (omega arith))

pub places_distinct : (place : ℕ) (blocks : List BlockData) → are_distinct (places_from place blocks) ≡ true
places_distinct place [] = refl
places_distinct place (block ∷ blocks) = rw (not_among place (suc place) blocks (omega arith)) (places_distinct (suc place) blocks)

pub places_count : (place : ℕ) (blocks : List BlockData) → length (places_from place blocks) ≡ length blocks
places_count place [] = refl
places_count place (block ∷ blocks) = ap suc (places_count (suc place) blocks)
