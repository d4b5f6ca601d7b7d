-- The documents of a text: the function that each one is, and at which lines something is wrong. A name stands for its
-- number by its bytes, and a global by the place of its token in the text.
-- (Machine IR (MIR) Format Reference Manual, "High Level Structure", "Machine Functions".)
use Rattle.std.specs.Prelude.{ℕ, suc, Bool, true, false, not, ◌&&◌, ◌||◌, List, [], ◌∷◌, ◌++◌, Option, Some, None, is_some, Ok, Err, length, map, filter, filter_map, flat_map, fold, find, min, nat_lt, ◌==◌, bytes_eq, if◌then◌else◌, codes, unwrap_or}
use Rattle.std.specs.List.{list_all, list_any, cons_option}
use Rattle.std.specs.Option.{option_map_or}
use Rattle.std.specs.Str.{is_utf8}
use Rattle.gi_llt.specs.Tokens.{is_word_byte}
use Rattle.gi_mir.specs.declared.operand.StackObject.{StackObject}
use Rattle.gi_mir.specs.Data.{InstrData, FunctionData}
use Rattle.gi_mir.specs.Edit.{HeadData, empty_function, with_block, with_stack, with_keys, with_instr}
use Rattle.gi_spelling.specs.Printed.{implied_successors}
use Rattle.gi_spelling.specs.declared.token.RegisterClass.{RegisterClass}
use Rattle.gi_spelling.specs.declared.token.Word.{Word}
use Rattle.gi_spelling.specs.declared.token.Word.TheVariants as word
use Rattle.gi_spelling.specs.declared.token.What.{What}
use Rattle.gi_spelling.specs.declared.token.What.TheVariants as what
use Rattle.gi_spelling.specs.declared.token.Item.{Item}
use Rattle.gi_spelling.specs.declared.written.Fields.{Fields}
use Rattle.gi_spelling.specs.declared.written.Entry.{Entry}
use Rattle.gi_spelling.specs.declared.written.EntryKind.TheVariants as entry_kind
use Rattle.gi_spelling.specs.declared.written.EntryState.TheVariants as entry_state
use Rattle.gi_spelling.specs.declared.written.StackEntry.{StackEntry}
use Rattle.gi_spelling.specs.declared.written.Fault.{Fault}
use Rattle.gi_spelling.specs.declared.written.Fault.TheVariants as fault
use Rattle.gi_spelling.specs.declared.written.ListValue.{ListValue}
use Rattle.gi_spelling.specs.declared.written.ListValue.TheVariants.{Entries, NoEntries, NoList}
use Rattle.gi_spelling.specs.declared.written.Key.{Key}
use Rattle.gi_spelling.specs.declared.written.Key.TheVariants.{Name, Legalized, Banked, Selected, Registers, Stack, Body as OfBody}
use Rattle.gi_spelling.specs.declared.written.Wrong.{Wrong}
use Rattle.gi_spelling.specs.Lines.{Line, Section, Sections, value_bytes, behind_colon, key_of, is_entry, is_entry_of, Parts, parts_of_text, document_entries, document_strays, document_end}
use Rattle.gi_spelling.specs.Items.{items_of_line, value_items}
use Rattle.gi_spelling.specs.Words.{greatest_register, greatest_size}
use Rattle.gi_spelling.specs.Reading.{Read, syntax}
use Rattle.gi_spelling.specs.Entries.{entry, no_fields, steps, has_all, is_at_end, read_entry}
use Rattle.gi_spelling.specs.Resolved.{Tables, block_place}
use Rattle.gi_spelling.specs.Blocks.{wrong, Body, blocks_in, block_numbers, bodies_from, wrongs_from, outer_wrong, shown_wrongs}

-- ══ Values ══

-- one or more letters, digits, `_`, `.`, `-` and `$`
abbrev pub is_name : List ℕ → Bool
is_name [] = false
is_name (byte ∷ more) = is_word_byte byte && list_all is_word_byte more

abbrev pub name_value : Section → List ℕ
name_value section = value_bytes (behind_colon section.head.bytes)

-- `true` or `false`; another word is unknown
abbrev pub true_by : What → Bool
true_by (what.Word word.True) = true
true_by w = false

abbrev pub is_true : Option (List Item) → Bool
is_true None = false
is_true (Some []) = false
is_true (Some (item ∷ rest)) = true_by item.what

abbrev pub truth_word : Word → Item → List Item → Option Fault
truth_word word.True item [] = None
truth_word word.False item [] = None
truth_word word.True item (next ∷ rest) = Some fault.Syntax
truth_word word.False item (next ∷ rest) = Some fault.Syntax
truth_word w item rest = Some (fault.Unknown item.start item.end)

abbrev pub truth_by : What → Item → List Item → Option Fault
truth_by (what.Word w) item rest = truth_word w item rest
truth_by w item rest = Some fault.Syntax

abbrev pub truth_fault : Option (List Item) → Option Fault
truth_fault None = Some fault.Syntax
truth_fault (Some []) = Some fault.Syntax
truth_fault (Some (item ∷ rest)) = truth_by item.what item rest

-- nothing, `[]` or something else
abbrev pub square_by : (first second : What) → ListValue
square_by what.OpenSquare what.CloseSquare = NoEntries
square_by first second = NoList

abbrev pub list_value : Option (List Item) → ListValue
list_value (Some []) = Entries
list_value (Some (first ∷ second ∷ [])) = square_by first.what second.what
list_value items = NoList

abbrev pub bar_by : What → Bool
bar_by what.Bar = true
bar_by w = false

abbrev pub is_bar : Option (List Item) → Bool
is_bar (Some (item ∷ [])) = bar_by item.what
is_bar items = false

-- ══ Entries of `registers` and `stack` ══

abbrev pub read_line_entry : Option (List Item) → Read Fields
read_line_entry None = syntax
read_line_entry (Some items) = read_entry entry_kind.Register items

abbrev pub line_entry : (text : List ℕ) → Line → Read Fields
line_entry text line = read_line_entry (items_of_line text line)

abbrev pub fields_wrong : ℕ → Read Fields → List Wrong
fields_wrong line (Ok fields) = []
fields_wrong line (Err error) = wrong line error ∷ []

abbrev pub register_wrongs : (text : List ℕ) → List Line → List Wrong
register_wrongs text lines = flat_map (λ line. fields_wrong line.number (line_entry text line)) lines

abbrev pub register_by : Read Fields → Option (ℕ × RegisterClass)
register_by (Ok fields) = option_map_or (λ id. option_map_or (λ class. Some (min id greatest_register, class)) fields.class None) fields.id None
register_by (Err error) = None

abbrev pub registers_in : (text : List ℕ) → List Line → List (ℕ × RegisterClass)
registers_in text lines = filter_map (λ line. register_by (line_entry text line)) lines

-- An entry of `stack` may go on over lines. It is read token by token, and ends with the line that makes it whole, with a
-- line that has a token which can't continue it, or with the last line.
abbrev pub entry_front : Entry
entry_front = entry entry_state.AtDash no_fields

-- where an entry stands behind a line, and none where the line can't continue it
abbrev pub continued_by : Read Entry → Option Entry
continued_by (Ok at) = Some at
continued_by (Err error) = None

abbrev pub continued : Entry → Option (List Item) → Option Entry
continued at None = None
continued at (Some items) = continued_by (steps entry_kind.Object at items)

abbrev pub behind_line : (text : List ℕ) → Entry → Line → Option Entry
behind_line text at line = continued at (items_of_line text line)

-- the entry that ends there, if one does
abbrev pub whole_fields : Entry → Option Fields
whole_fields at = if is_at_end at.state && has_all entry_kind.Object at.fields then Some at.fields else None

abbrev pub stack_entry : (line : ℕ) → Option Fields → StackEntry
stack_entry line fields = record { line = line; fields = fields }

abbrev pub ended_by : (line : ℕ) (last : Bool) → Option Entry → Option StackEntry
ended_by line last None = Some (stack_entry line None)
ended_by line last (Some at) = if is_at_end at.state || last then Some (stack_entry line (whole_fields at)) else None

-- where the next line goes on
abbrev pub next_by : Option Entry → Entry
next_by None = entry_front
next_by (Some at) = if is_at_end at.state then entry_front else at

abbrev pub is_last : List Line → Bool
is_last [] = true
is_last (line ∷ lines) = false

abbrev pub stack_entries_from : (text : List ℕ) → Entry → List Line → List StackEntry
stack_entries_from text at [] = []
stack_entries_from text at (line ∷ lines) =
    cons_option (ended_by line.number (is_last lines) (behind_line text at line)) (stack_entries_from text (next_by (behind_line text at line)) lines)

abbrev pub stack_entries : (text : List ℕ) → List Line → List StackEntry
stack_entries text lines = stack_entries_from text entry_front lines

-- the objects are numbered from 0 in order
abbrev pub object_by : (place : ℕ) → Fields → Option StackObject
object_by place fields =
    option_map_or (λ id. option_map_or (λ size. option_map_or (λ align. if id == place then Some (record { size = min size greatest_size; align = min align greatest_size }) else None) fields.alignment None) fields.size None) fields.id None

abbrev pub object_at : (place : ℕ) → StackEntry → Option StackObject
object_at place one = option_map_or (object_by place) one.fields None

abbrev pub objects_from : (place : ℕ) → List StackEntry → List StackObject
objects_from place [] = []
objects_from place (first ∷ more) = cons_option (object_at place first) (objects_from (suc place) more)

abbrev pub object_wrong : ℕ → Option StackObject → List Wrong
object_wrong line None = wrong line fault.Syntax ∷ []
object_wrong line (Some object) = []

abbrev pub object_wrongs : (place : ℕ) → List StackEntry → List Wrong
object_wrongs place [] = []
object_wrongs place (first ∷ more) = object_wrong first.line (object_at place first) ++ object_wrongs (suc place) more

-- ══ The entries of a document ══

abbrev pub known_keys : List Key
known_keys = Name ∷ Legalized ∷ Banked ∷ Selected ∷ Registers ∷ Stack ∷ OfBody ∷ []

abbrev pub key_word : Key → List ℕ
key_word Name = codes "name"
key_word Legalized = codes "legalized"
key_word Banked = codes "regBankSelected"
key_word Selected = codes "selected"
key_word Registers = codes "registers"
key_word Stack = codes "stack"
key_word OfBody = codes "body"

abbrev pub key_spelled : List ℕ → Option Key
key_spelled bytes = find (λ key. bytes_eq bytes (key_word key)) known_keys

-- nothing may stand under the line
abbrev pub under_wrongs : List Line → List Wrong
under_wrongs [] = []
under_wrongs (line ∷ lines) = wrong line.number fault.Syntax ∷ []

abbrev pub fault_then : ℕ → Option Fault → List Wrong → List Wrong
fault_then line None rest = rest
fault_then line (Some error) rest = wrong line error ∷ []

abbrev pub list_wrongs : ListValue → Section → (entries : List Wrong) → List Wrong
list_wrongs Entries section entries = entries
list_wrongs NoEntries section entries = under_wrongs section.under
list_wrongs NoList section entries = wrong section.head.number fault.Syntax ∷ []

abbrev pub truth_wrongs : (text : List ℕ) → Section → List Wrong
truth_wrongs text section = fault_then section.head.number (truth_fault (value_items text section.head)) (under_wrongs section.under)

-- what is wrong in the entry of a key, but for the blocks
abbrev pub key_wrongs : (text : List ℕ) → Key → Section → List Wrong
key_wrongs text Name section = if is_name (name_value section) then under_wrongs section.under else wrong section.head.number fault.Syntax ∷ []
key_wrongs text Legalized section = truth_wrongs text section
key_wrongs text Banked section = truth_wrongs text section
key_wrongs text Selected section = truth_wrongs text section
key_wrongs text Registers section = list_wrongs (list_value (value_items text section.head)) section (register_wrongs text section.under)
key_wrongs text Stack section = list_wrongs (list_value (value_items text section.head)) section (object_wrongs 0 (stack_entries text section.under))
key_wrongs text OfBody section = if is_bar (value_items text section.head) then [] else wrong section.head.number fault.Syntax ∷ []

-- an entry of another key may say anything
abbrev pub keyed_wrongs : (text : List ℕ) → Option Key → Section → List Wrong
keyed_wrongs text None section = []
keyed_wrongs text (Some key) section = key_wrongs text key section

-- an entry of a key that counts stands once
abbrev pub is_again : (earlier : List Section) → Section → Bool
is_again earlier section =
    is_some (key_spelled (key_of section.head.bytes)) && list_any (is_entry_of (key_of section.head.bytes)) earlier

abbrev pub entry_wrongs : (text : List ℕ) → (earlier : List Section) → Section → List Wrong
entry_wrongs text earlier section =
    if not (is_entry section.head.bytes) || is_again earlier section then wrong section.head.number fault.Syntax ∷ []
    else keyed_wrongs text (key_spelled (key_of section.head.bytes)) section

abbrev pub entries_wrongs : (text : List ℕ) → (earlier : List Section) → List Section → List Wrong
entries_wrongs text earlier [] = []
entries_wrongs text earlier (section ∷ sections) = entry_wrongs text earlier section ++ entries_wrongs text (earlier ++ (section ∷ [])) sections

-- ══ The function ══

-- the first entry of a key
abbrev pub entry_of : (key : List ℕ) → List Section → Option Section
entry_of key sections = find (is_entry_of key) sections

abbrev pub is_key_true : (text : List ℕ) → (key : List ℕ) → List Section → Bool
is_key_true text key sections = option_map_or (λ section. is_true (value_items text section.head)) (entry_of key sections) false

abbrev pub under_list : ListValue → List Line → List Line
under_list Entries lines = lines
under_list value lines = []

abbrev pub list_under : (text : List ℕ) → (key : List ℕ) → List Section → List Line
list_under text key sections = option_map_or (λ section. under_list (list_value (value_items text section.head)) section.under) (entry_of key sections) []

-- the lines of the blocks
abbrev pub body_lines : (text : List ℕ) → List Section → List Line
body_lines text sections = option_map_or (λ section. if is_bar (value_items text section.head) then section.under else []) (entry_of (codes "body") sections) []

-- a document by its parts
pub record Document : Type 0 where
  pub name : List ℕ
  pub legalized : Bool
  pub banked : Bool
  pub selected : Bool
  pub classes : List (ℕ × RegisterClass)
  pub objects : List StackObject
  pub blocks : Sections

abbrev pub read_document : (text : List ℕ) → List Section → Document
read_document text sections = record {
  name = option_map_or name_value (entry_of (codes "name") sections) [];
  legalized = is_key_true text (codes "legalized") sections;
  banked = is_key_true text (codes "regBankSelected") sections;
  selected = is_key_true text (codes "selected") sections;
  classes = registers_in text (list_under text (codes "registers") sections);
  objects = objects_from 0 (stack_entries text (list_under text (codes "stack") sections));
  blocks = blocks_in text (body_lines text sections);
}

abbrev pub tables_of : (text : List ℕ) → Document → Tables
tables_of text document = record { classes = document.classes; blocks = block_numbers text document.blocks.sections; objects = length document.objects }

abbrev pub bodies_of : (text : List ℕ) → Document → List Body
bodies_of text document = bodies_from text (tables_of text document) 0 document.blocks.sections

-- the successors that a block states, or else the implied ones; ids don't matter to these
abbrev pub without_ids : List InstrData → List (ℕ × InstrData)
without_ids instrs = map (λ instr. (0, instr)) instrs

abbrev pub successors_of : (numbers : List ℕ) → (place : ℕ) → Body → List ℕ
successors_of numbers place body =
    option_map_or (λ stated. map (block_place numbers) stated) body.lists.successors (implied_successors place (length numbers) (without_ids body.instrs))

abbrev pub head_of_body : (numbers : List ℕ) → (place : ℕ) → Body → HeadData
head_of_body numbers place body = record { successors = successors_of numbers place body; liveins = unwrap_or body.lists.liveins [] }

-- the function with one more instruction at a block's end, and with one more block
abbrev pub with_last : (place : ℕ) → FunctionData → InstrData → FunctionData
with_last place f instr = with_instr f place None instr

abbrev pub with_body : (numbers : List ℕ) → FunctionData → Body → FunctionData
with_body numbers f body = fold (with_last (length f.blocks)) (with_block f (head_of_body numbers (length f.blocks) body)) body.instrs

-- the function of a document, whose name has the number 0
abbrev pub function_of : (text : List ℕ) → Document → FunctionData
function_of text document =
    fold (with_body (block_numbers text document.blocks.sections))
    (fold with_stack (with_keys (empty_function 0) document.legalized document.banked document.selected) document.objects)
    (bodies_of text document)

-- ══ What is wrong in a document ══

abbrev pub is_missing : (key : List ℕ) → List Section → Bool
is_missing key sections = not (list_any (is_entry_of key) sections)

abbrev pub missing_wrongs : (end : ℕ) → List Section → List Wrong
missing_wrongs end sections = if is_missing (codes "name") sections || is_missing (codes "body") sections then wrong end fault.Syntax ∷ [] else []

abbrev pub block_wrongs : (text : List ℕ) → Document → List Wrong
block_wrongs text document =
    map (outer_wrong text) document.blocks.before
    ++ (wrongs_from text (tables_of text document) [] 0 document.blocks.sections
    ++ shown_wrongs (bodies_of text document))

abbrev pub line_wrongs : List Line → List Wrong
line_wrongs lines = map (λ line. wrong line.number fault.Syntax) lines

abbrev pub entries_of : Section → List Section
entries_of document = (document_entries document).sections

abbrev pub document_wrongs : (text : List ℕ) → Section → List Wrong
document_wrongs text document =
    line_wrongs (document_entries document).before
    ++ (entries_wrongs text [] (entries_of document)
    ++ (block_wrongs text (read_document text (entries_of document))
    ++ (missing_wrongs (document_end document) (entries_of document)
    ++ line_wrongs (document_strays document))))

-- ══ What is wrong in a text ══

-- of two, the one of the lower line, and the first of one line
abbrev pub lower : Option Wrong → Wrong → Option Wrong
lower None next = Some next
lower (Some first) next = if nat_lt next.line first.line then Some next else Some first

abbrev pub lowest : List Wrong → Option Wrong
lowest wrongs = fold lower None wrongs

-- lines of IR are UTF-8
abbrev pub is_no_text : Line → Bool
is_no_text line = not (is_utf8 line.bytes)

abbrev pub ir_wrongs : Option (List Line) → List Wrong
ir_wrongs None = []
ir_wrongs (Some lines) = line_wrongs (filter is_no_text lines)

-- what is wrong before the documents, and in each document
abbrev pub first_wrong : List (List Wrong) → Option Wrong
first_wrong [] = None
first_wrong (wrongs ∷ later) = option_map_or (λ found. Some found) (lowest wrongs) (first_wrong later)

abbrev pub parts_wrongs : (text : List ℕ) → Parts → List (List Wrong)
parts_wrongs text parts = ir_wrongs parts.ir ∷ (line_wrongs parts.strays ∷ map (document_wrongs text) parts.documents)

-- the first line of a text that spells nothing, and why; none where the text spells a module
abbrev pub wrong_in : (text : List ℕ) → Option Wrong
wrong_in text = first_wrong (parts_wrongs text (parts_of_text text))
