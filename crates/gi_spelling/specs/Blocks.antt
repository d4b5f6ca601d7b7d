-- The blocks of a function: what their lines are, and at which lines something is wrong.
-- (MIR Format Reference Manual, "Machine Basic Blocks".)
--     bb.N.name (attributes):
--       successors: %bb.A, %bb.B
--       liveins: $x10, $x11
--       instructions
use Rattle.std.specs.Prelude.{ℕ, zero, suc, Bool, true, false, not, ◌&&◌, List, [], ◌∷◌, ◌++◌, Option, Some, None, Ok, Err, map, filter, filter_map, flat_map, fold, find, option_map, nat_eq, ◌==◌, if◌then◌else◌, unwrap_or, is_some}
use Rattle.std.specs.List.{list_any}
use Rattle.std.specs.Option.{option_map_or}
use Rattle.gi_llt.specs.declared.Llt.{Llt}
use Rattle.gi_mir.specs.declared.operand.Kind.{Kind}
use Rattle.gi_mir.specs.declared.operand.Operand.{Operand}
use Rattle.gi_mir.specs.declared.operand.Operand.TheVariants as operand
use Rattle.gi_mir.specs.declared.operand.Reg.{Reg}
use Rattle.gi_mir.specs.Types.{same_type}
use Rattle.gi_mir.specs.Registers.{type_of_kind}
use Rattle.gi_mir.specs.Data.{InstrData}
use Rattle.gi_spelling.specs.declared.token.Word.TheVariants as word
use Rattle.gi_spelling.specs.declared.token.What.{What}
use Rattle.gi_spelling.specs.declared.token.What.TheVariants as what
use Rattle.gi_spelling.specs.declared.token.Item.{Item}
use Rattle.gi_spelling.specs.declared.written.Source.{Source}
use Rattle.gi_spelling.specs.declared.written.Source.TheVariants as source
use Rattle.gi_spelling.specs.declared.written.Fault.{Fault}
use Rattle.gi_spelling.specs.declared.written.ListKind.{ListKind}
use Rattle.gi_spelling.specs.declared.written.ListKind.TheVariants.{Successors, Liveins}
use Rattle.gi_spelling.specs.declared.written.Fault.TheVariants as fault
use Rattle.gi_spelling.specs.declared.written.Shown.{Shown}
use Rattle.gi_spelling.specs.declared.written.Wrong.{Wrong}
use Rattle.gi_spelling.specs.Lines.{Line, Section, Sections, sections_of}
use Rattle.gi_spelling.specs.Items.{kept_items}
use Rattle.gi_spelling.specs.Reading.{Read, syntax, at_end, parts_of, read_all, read_instr, is_debug_line}
use Rattle.gi_spelling.specs.Resolved.{Tables, resolved}
use Rattle.gi_spelling.specs.Written.{WrittenData}

-- a line at which something is wrong
abbrev pub wrong : ℕ → Fault → Wrong
wrong line fault = record { line = line; fault = fault }

-- ══ Which line is what ══

-- the line says nothing
abbrev pub is_debug_kept : Option (List Item) → Bool
is_debug_kept (Some items) = is_debug_line items
is_debug_kept None = false

abbrev pub is_told : (text : List ℕ) → Line → Bool
is_told text line = not (is_debug_kept (kept_items text line))

-- the number of a block that the line begins
abbrev pub head_by : What → Option ℕ
head_by (what.Word (word.BlockHead number)) = Some number
head_by w = None

abbrev pub head_in : Option (List Item) → Option ℕ
head_in None = None
head_in (Some []) = None
head_in (Some (item ∷ rest)) = head_by item.what

abbrev pub head_number : (text : List ℕ) → Line → Option ℕ
head_number text line = head_in (kept_items text line)

abbrev pub is_block_head : (text : List ℕ) → Line → Bool
is_block_head text line = is_some (head_number text line)

-- the blocks of the lines under `body`
abbrev pub blocks_in : (text : List ℕ) → List Line → Sections
blocks_in text lines = sections_of (is_block_head text) (filter (is_told text) lines)

-- the numbers of blocks, in layout
abbrev pub number_at : (text : List ℕ) → Section → ℕ
number_at text section = unwrap_or (head_number text section.head) 0

abbrev pub block_numbers : (text : List ℕ) → List Section → List ℕ
block_numbers text sections = map (number_at text) sections

-- ══ The head ══

abbrev pub is_close : What → Bool
is_close what.Close = true
is_close w = false

-- behind the closing bracket of the attributes
abbrev pub past_attributes : List Item → List Item
past_attributes [] = []
past_attributes (item ∷ rest) = if is_close item.what then rest else past_attributes rest

abbrev pub colon_by : What → List Item → Bool
colon_by what.Colon [] = true
colon_by w rest = false

abbrev pub is_colon_alone : List Item → Bool
is_colon_alone [] = false
is_colon_alone (item ∷ rest) = colon_by item.what rest

abbrev pub head_end_by : What → List Item → List Item → Bool
head_end_by what.Open rest items = is_colon_alone (past_attributes rest)
head_end_by w rest items = is_colon_alone items

-- a colon, before which attributes in brackets may stand
abbrev pub ends_head : List Item → Bool
ends_head [] = false
ends_head (item ∷ rest) = head_end_by item.what rest (item ∷ rest)

abbrev pub is_head : Option (List Item) → Bool
is_head None = false
is_head (Some []) = false
is_head (Some (item ∷ rest)) = ends_head rest

-- a head is wrong where it isn't spelled so, or an earlier block has its number
abbrev pub head_faults : (text : List ℕ) (earlier : List ℕ) → Line → List Wrong
head_faults text earlier line =
    if is_head (kept_items text line) && not (list_any (nat_eq (unwrap_or (head_number text line) 0)) earlier) then []
    else wrong line.number fault.Syntax ∷ []

-- ══ Successors and liveins ══

abbrev pub list_by : (first second : What) → Option ListKind
list_by (what.Word word.Successors) what.Colon = Some Successors
list_by (what.Word word.Liveins) what.Colon = Some Liveins
list_by first second = None

-- the list that a line states
abbrev pub list_kind_in : Option (List Item) → Option ListKind
list_kind_in (Some (first ∷ second ∷ rest)) = list_by first.what second.what
list_kind_in items = None

abbrev pub list_kind : (text : List ℕ) → Line → Option ListKind
list_kind text line = list_kind_in (kept_items text line)

-- what stands behind the colon
abbrev pub listed_in : Option (List Item) → List Item
listed_in (Some (first ∷ second ∷ rest)) = rest
listed_in items = []

abbrev pub block_by : What → List Item → Read ℕ
block_by (what.Block number) rest = at_end number rest
block_by w rest = syntax

abbrev pub read_block : List Item → Read ℕ
read_block [] = syntax
read_block (item ∷ rest) = block_by item.what rest

abbrev pub livein_by : What → List Item → Read ℕ
livein_by (what.Physical number) rest = at_end number rest
livein_by w rest = syntax

abbrev pub read_livein : List Item → Read ℕ
read_livein [] = syntax
read_livein (item ∷ rest) = livein_by item.what rest

-- no block or several; one or more registers
abbrev pub read_successors : List Item → Read (List ℕ)
read_successors [] = Ok []
read_successors (item ∷ rest) = read_all read_block (parts_of (item ∷ rest))

abbrev pub read_liveins : List Item → Read (List ℕ)
read_liveins items = read_all read_livein (parts_of items)

-- what a block states: its successors if it does, and the registers that are live at its start
pub record Lists : Type 0 where
  pub successors : Option (List ℕ)
  pub liveins : Option (List ℕ)

abbrev pub no_lists : Lists
no_lists = record { successors = None; liveins = None }

-- each list stands once at most, and liveins in the first block alone
abbrev pub with_successors : Lists → Read (List ℕ) → Option Lists
with_successors lists (Ok numbers) = if is_some lists.successors then None else Some (record lists { successors = Some numbers })
with_successors lists (Err error) = None

abbrev pub with_liveins : (place : ℕ) → Lists → Read (List ℕ) → Option Lists
with_liveins zero lists (Ok numbers) = if is_some lists.liveins then None else Some (record lists { liveins = Some numbers })
with_liveins (suc place) lists (Ok numbers) = None
with_liveins place lists (Err error) = None

abbrev pub with_list : (place : ℕ) → Lists → ListKind → List Item → Option Lists
with_list place lists Successors items = with_successors lists (read_successors items)
with_list place lists Liveins items = with_liveins place lists (read_liveins items)

-- ══ The lines under a head ══

-- what is read of a block so far: its lists, its instructions and the types that their uses show, whether one has been
-- read, and what is wrong
pub record Body : Type 0 where
  pub lists : Lists
  pub instrs : List InstrData
  pub shown : List Shown
  pub begun : Bool
  pub wrongs : List Wrong

abbrev pub no_body : Body
no_body = record { lists = no_lists; instrs = []; shown = []; begun = false; wrongs = [] }

abbrev pub with_wrong : Body → Line → Fault → Body
with_wrong body line error = record body { wrongs = body.wrongs ++ (wrong line.number error ∷ []) }

abbrev pub stated : Body → Line → Option Lists → Body
stated body line None = with_wrong body line fault.Syntax
stated body line (Some lists) = record body { lists = lists }

-- a list stands before the instructions
abbrev pub with_list_line : (place : ℕ) → Body → Line → ListKind → List Item → Body
with_list_line place body line kind items = if body.begun then with_wrong body line fault.Syntax else stated body line (with_list place body.lists kind items)

abbrev pub begun : Body → Body
begun body = record body { begun = true }

-- the uses of a line that show a type
abbrev pub typed_use : Source → Option (Reg × Llt)
typed_use (source.TypedUse reg ty) = Some (reg, ty)
typed_use other = None

abbrev pub shown_types : WrittenData → List (Reg × Llt)
shown_types written = filter_map typed_use written.sources

-- a type that a use on a line shows
abbrev pub shown_at : ℕ → Reg × Llt → Shown
shown_at line shown = record { line = line; reg = shown.0; ty = shown.1 }

abbrev pub with_resolved : Body → Line → WrittenData → Option InstrData → Body
with_resolved body line written None = with_wrong body line fault.Syntax
with_resolved body line written (Some instr) = record body { instrs = body.instrs ++ (instr ∷ []); shown = body.shown ++ map (shown_at line.number) (shown_types written) }

abbrev pub with_written : (text : List ℕ) → Tables → Body → Line → Read WrittenData → Body
with_written text tables body line (Ok written) = with_resolved body line written (resolved tables written line.number)
with_written text tables body line (Err error) = with_wrong body line error

abbrev pub with_instr_line : (text : List ℕ) → Tables → Body → Line → Option (List Item) → Body
with_instr_line text tables body line None = with_wrong (begun body) line fault.Syntax
with_instr_line text tables body line (Some items) = with_written text tables (begun body) line (read_instr items)

abbrev pub with_line_of : (text : List ℕ) → Tables → (place : ℕ) → Body → Line → Option ListKind → Body
with_line_of text tables place body line (Some kind) = with_list_line place body line kind (listed_in (kept_items text line))
with_line_of text tables place body line None = with_instr_line text tables body line (kept_items text line)

abbrev pub with_line : (text : List ℕ) → Tables → (place : ℕ) → Body → Line → Body
with_line text tables place body line = with_line_of text tables place body line (list_kind text line)

-- a block: the lines under its head, one after the other
abbrev pub body_of : (text : List ℕ) → Tables → (place : ℕ) → Section → Body
body_of text tables place section = fold (with_line text tables place) no_body section.under

-- the blocks from a place on, and what is wrong at their heads and lines
abbrev pub bodies_from : (text : List ℕ) → Tables → (place : ℕ) → List Section → List Body
bodies_from text tables place [] = []
bodies_from text tables place (section ∷ sections) = body_of text tables place section ∷ bodies_from text tables (suc place) sections

abbrev pub wrongs_from : (text : List ℕ) → Tables → (earlier : List ℕ) → (place : ℕ) → List Section → List Wrong
wrongs_from text tables earlier place [] = []
wrongs_from text tables earlier place (section ∷ sections) =
    head_faults text earlier section.head ++ ((body_of text tables place section).wrongs
    ++ wrongs_from text tables (earlier ++ (number_at text section ∷ [])) (suc place) sections)

-- a line that stands in no block
abbrev pub read_fault : {X : Type 0} → Read X → Fault
read_fault (Ok x) = fault.Syntax
read_fault (Err error) = error

abbrev pub outer_fault : Option (List Item) → Option ListKind → Fault
outer_fault None kind = fault.Syntax
outer_fault (Some items) (Some kind) = fault.Syntax
outer_fault (Some items) None = read_fault (read_instr items)

abbrev pub outer_wrong : (text : List ℕ) → Line → Wrong
outer_wrong text line = wrong line.number (outer_fault (kept_items text line) (list_kind text line))

-- ══ The types that uses show ══

-- the kinds of the registers, each at its first definition
abbrev pub defined_kind : Operand → Option (ℕ × Kind)
defined_kind (operand.Def reg kind) = Some (reg.0, kind)
defined_kind other = None

abbrev pub kinds_in : List Body → List (ℕ × Kind)
kinds_in bodies = flat_map (λ body. flat_map (λ instr. filter_map defined_kind instr.operands) body.instrs) bodies

abbrev pub first_kind : List (ℕ × Kind) → Reg → Option Kind
first_kind kinds reg = option_map (λ entry. entry.1) (find (λ entry. entry.0 == reg.0) kinds)

-- a type that is shown is the register's, unless it has none
abbrev pub has_type : Option Llt → Llt → Bool
has_type None ty = true
has_type (Some own) ty = same_type own ty

abbrev pub type_of_register : List (ℕ × Kind) → Reg → Option Llt
type_of_register kinds reg = option_map_or type_of_kind (first_kind kinds reg) None

abbrev pub shown_wrong : List (ℕ × Kind) → Shown → Option Wrong
shown_wrong kinds shown = if has_type (type_of_register kinds shown.reg) shown.ty then None else Some (wrong shown.line fault.Syntax)

abbrev pub shown_wrongs : List Body → List Wrong
shown_wrongs bodies = filter_map (shown_wrong (kinds_in bodies)) (flat_map (λ body. body.shown) bodies)
