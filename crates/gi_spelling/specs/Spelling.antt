-- Which module a text of Machine IR spells. It is said of the module but for what a text doesn't show: the lines and
-- ids of instructions, the two next numbers of a function, and the numbers of names.
-- (Machine IR (MIR) Format Reference Manual, "High Level Structure", "Machine Functions", "Machine Basic Blocks",
-- "Machine Instructions", "Machine Operands"; which keys count and what is passed over are this project's own.)
--
-- A line of a block spells an instruction where its tokens, less what is passed over (Kept.antt), are those of a written
-- instruction that means it. What may be written in more than one way is what written instructions differ in: a use
-- shows its type or doesn't, a definition its class or (where `registers` gives it) doesn't, an alignment that is the
-- size may be written, and a constant is any number of its width.
use Rattle.std.specs.Prelude.{◌≡◌, ◌≢◌, ◌⊎◌, ⊤, ℕ, zero, suc, Bool, true, false, not, ◌&&◌, nat_eq, is_some, List, [], ◌∷◌, ◌++◌, Option, Some, None, map, filter, filter_map, length, option_map, if◌then◌else◌, codes}
use Rattle.gi_mir.specs.Names.{name_at}
use Rattle.std.specs.List.{list_all, list_any, AllZip}
use Rattle.gi_llt.specs.Tokens.{run_of, past_run}
use Rattle.gi_llt.specs.declared.Llt.{Llt}
use Rattle.gi_text.specs.declared.token.Number.{Number as NumberData}
use Rattle.gi_mir.specs.declared.operand.Flags.{Flags}
use Rattle.gi_mir.specs.declared.operand.Kind.{Kind}
use Rattle.gi_mir.specs.declared.operand.Kind.TheVariants as kind
use Rattle.gi_mir.specs.declared.operand.Reg.{Reg}
use Rattle.gi_mir.specs.declared.operand.SymbolFlag.{SymbolFlag}
use Rattle.gi_mir.specs.declared.operand.SymbolFlag.TheVariants as symbol_flag
use Rattle.gi_mir.specs.Data.{InstrData, BlockData, FunctionData, ModuleData}
use Rattle.gi_mir.specs.Registers.{kind_of, type_of_kind}
use Rattle.gi_spelling.specs.Printed.{implied_successors}
use Rattle.gi_spelling.specs.declared.token.Flag.{Flag}
use Rattle.gi_spelling.specs.declared.token.Flag.TheVariants as flag
use Rattle.gi_spelling.specs.declared.token.RegisterClass.TheVariants as class
use Rattle.gi_spelling.specs.declared.token.Word.{Word}
use Rattle.gi_spelling.specs.declared.token.Word.TheVariants as word
use Rattle.gi_spelling.specs.declared.token.What.{What}
use Rattle.gi_spelling.specs.declared.token.What.TheVariants as what
use Rattle.gi_spelling.specs.declared.token.Item.{Item}
use Rattle.gi_spelling.specs.declared.written.Definition.{Definition}
use Rattle.gi_spelling.specs.declared.written.Definition.TheVariants as definition
use Rattle.gi_spelling.specs.declared.written.Source.{Source}
use Rattle.gi_spelling.specs.declared.written.Source.TheVariants as source
use Rattle.gi_spelling.specs.declared.written.Memory.{Memory}
use Rattle.gi_spelling.specs.Written.{WrittenData}
use Rattle.gi_spelling.specs.Lines.{Line, Section, parts_of_text, document_entries, document_strays, is_entry, is_entry_of}
use Rattle.gi_spelling.specs.Items.{what_in, kept_items, value_items}
use Rattle.gi_spelling.specs.Resolved.{Tables, block_place, resolved}
use Rattle.gi_spelling.specs.declared.written.ListKind.{ListKind}
use Rattle.gi_spelling.specs.declared.written.ListKind.TheVariants.{Successors, Liveins}
use Rattle.gi_spelling.specs.Blocks.{list_kind, listed_in, is_head, blocks_in, block_numbers, shown_types, has_type}
use Rattle.gi_spelling.specs.Documents.{is_name, name_value, registers_in, stack_entries, objects_from, entries_of, ir_wrongs}
use Rattle.gi_spelling.specs.Named.{IsNamedInstr}

-- ══ How a written instruction is spelled ══

abbrev pub word_what : Word → What
word_what w = what.Word w

-- `(s32)`
abbrev pub type_whats : Llt → List What
type_whats ty = what.Open ∷ word_what (word.Type ty) ∷ what.Close ∷ []

-- `:_(s32)`, `:gprb(s32)` and `:gpr`
abbrev pub kind_whats : Kind → List What
kind_whats (kind.Generic ty) = what.Colon ∷ word_what (word.Class class.Generic) ∷ type_whats ty
kind_whats (kind.Banked ty) = what.Colon ∷ word_what (word.Class class.Banked) ∷ type_whats ty
kind_whats kind.Class = what.Colon ∷ word_what (word.Class class.General) ∷ []

abbrev pub definition_whats : Definition → List What
definition_whats (definition.Bare reg) = what.Register reg.0 ∷ []
definition_whats (definition.Typed reg ty) = what.Register reg.0 ∷ type_whats ty
definition_whats (definition.Full reg kind) = what.Register reg.0 ∷ kind_whats kind
definition_whats (definition.Physical number) = what.Physical number ∷ []

-- `target-flags(riscv-hi)`, and nothing for a plain symbol
abbrev pub symbol_flag_whats : SymbolFlag → List What
symbol_flag_whats symbol_flag.Plain = []
symbol_flag_whats flag = word_what word.TargetFlags ∷ what.Open ∷ word_what (word.SymbolFlag flag) ∷ what.Close ∷ []

abbrev pub source_whats : Source → List What
source_whats (source.Use reg) = what.Register reg.0 ∷ []
source_whats (source.TypedUse reg ty) = what.Register reg.0 ∷ type_whats ty
source_whats (source.Physical number) = what.Physical number ∷ []
source_whats (source.ImplicitUse number) = word_what word.Implicit ∷ what.Physical number ∷ []
source_whats (source.ImplicitDef number) = word_what word.ImplicitDef ∷ what.Physical number ∷ []
source_whats (source.Int number) = what.Number number true ∷ []
source_whats (source.Constant bits number plain) = word_what (word.Integer bits) ∷ what.Number number plain ∷ []
source_whats (source.Truth bits truth) = word_what (word.Integer bits) ∷ word_what (if truth then word.True else word.False) ∷ []
source_whats (source.Block number) = what.Block number ∷ []
source_whats (source.Predicate pred) = word_what word.Comparison ∷ what.Open ∷ word_what (word.Predicate pred) ∷ what.Close ∷ []
source_whats (source.Frame number) = what.Frame number ∷ []
source_whats (source.Global flag place) = symbol_flag_whats flag ++ (what.Global ∷ [])
source_whats (source.Routine flag place) = symbol_flag_whats flag ++ (what.Routine place ∷ [])
source_whats source.SavedMask = word_what word.SavedMask ∷ []

-- with a comma between each two
abbrev pub listed_whats : List (List What) → List What
listed_whats [] = []
listed_whats (first ∷ []) = first
listed_whats (first ∷ second ∷ more) = first ++ (what.Comma ∷ listed_whats (second ∷ more))

-- the definitions stand before `=`
abbrev pub defined_whats : List (List What) → List What
defined_whats [] = []
defined_whats (first ∷ more) = listed_whats (first ∷ more) ++ (what.Equals ∷ [])

abbrev pub flag_whats : Bool → Flag → List What
flag_whats true flag = word_what (word.Flag flag) ∷ []
flag_whats false flag = []

abbrev pub flags_whats : Flags → List What
flags_whats flags =
    flag_whats flags.nuw flag.NoUnsignedWrap ++ (flag_whats flags.nsw flag.NoSignedWrap ++ (flag_whats flags.exact flag.Exact
    ++ (flag_whats flags.disjoint flag.Disjoint ++ flag_whats flags.nneg flag.NonNegative)))

abbrev pub plain_size : ℕ → NumberData
plain_size size = record { negative = false; size = size }

abbrev pub align_whats : Option ℕ → List What
align_whats None = []
align_whats (Some align) = what.Comma ∷ word_what word.Align ∷ what.Number (plain_size align) true ∷ []

-- `:: (load (s32), align 2)`
abbrev pub memory_whats : Option Memory → List What
memory_whats None = []
memory_whats (Some memory) =
    what.Colon ∷ what.Colon ∷ what.Open ∷ word_what (if memory.load then word.Load else word.Store)
    ∷ (type_whats memory.ty ++ (align_whats memory.align ++ (what.Close ∷ [])))

-- `definitions = flags OPCODE operands :: (memory)`
abbrev pub whats_of : WrittenData → List What
whats_of written =
    defined_whats (map definition_whats written.definitions)
    ++ (flags_whats written.flags
    ++ (word_what (word.Opcode written.op)
    ∷ (listed_whats (map source_whats written.sources)
    ++ memory_whats written.memory)))

-- the places of the names, of tokens and of a written instruction
abbrev pub name_place : Item → What → Option ℕ
name_place item what.Global = Some item.start
name_place item w = None

abbrev pub name_places : List Item → List ℕ
name_places items = filter_map (λ item. name_place item item.what) items

abbrev pub place_of_source : Source → Option ℕ
place_of_source (source.Global flag place) = Some place
place_of_source other = None

abbrev pub places_of : WrittenData → List ℕ
places_of written = filter_map place_of_source written.sources

-- tokens are those of a written instruction
pub record AreWritten (items : List Item) (written : WrittenData) : Type 0 where
  pub same : map what_in items ≡ whats_of written
  pub places : name_places items ≡ places_of written

-- ══ Lines and blocks ══

abbrev pub type_at : (kinds : ℕ → Option Llt) → Reg × Llt → Bool
type_at kinds shown = has_type (kinds (shown.0).0) shown.1

-- a line spells an instruction
pub record SpellsInstr (text : List ℕ) (names : List (List ℕ)) (tables : Tables) (types : ℕ → Option Llt) (line : Line) (instr : ℕ × InstrData) : Type 0 where
  pub items : List Item
  pub tokens : kept_items text line ≡ Some items
  pub written : WrittenData
  pub spelled : AreWritten items written
  pub meant : InstrData
  pub means : resolved tables written (instr.1).line ≡ Some meant
  pub named : IsNamedInstr text names meant instr.1
  pub shown : list_all (type_at types) (shown_types written) ≡ true

abbrev pub is_list_line : (text : List ℕ) → Line → Bool
is_list_line text line = is_some (list_kind text line)

abbrev pub is_kind : ListKind → Option ListKind → Bool
is_kind Successors (Some Successors) = true
is_kind Liveins (Some Liveins) = true
is_kind kind other = false

abbrev pub lists_of : (text : List ℕ) → ListKind → List Line → List Line
lists_of text kind lines = filter (λ line. is_kind kind (list_kind text line)) (run_of (is_list_line text) lines)

abbrev pub block_whats : ℕ → List What
block_whats number = what.Block number ∷ []

abbrev pub physical_whats : ℕ → List What
physical_whats number = what.Physical number ∷ []

-- a line states a list of numbers
pub record States (text : List ℕ) (number_whats : ℕ → List What) (line : Line) (numbers : List ℕ) : Type 0 where
  pub same : map what_in (listed_in (kept_items text line)) ≡ listed_whats (map number_whats numbers)

-- the successors are those of the line that states them, and where none does the implied ones
pub record StatesSuccessors (text : List ℕ) (tables : Tables) (line : Line) (successors : List ℕ) : Type 0 where
  pub numbers : List ℕ
  pub stated : States text block_whats line numbers
  pub same : successors ≡ map (block_place tables.blocks) numbers

abbrev pub SpellsSuccessors : (text : List ℕ) → Tables → List Line → (implied successors : List ℕ) → Type 0
SpellsSuccessors text tables [] implied successors = successors ≡ implied
SpellsSuccessors text tables (line ∷ []) implied successors = StatesSuccessors text tables line successors
SpellsSuccessors text tables (line ∷ other ∷ more) implied successors = ⊥

-- one or more registers are stated as live, in the first block alone; where none are, none is live
abbrev pub SpellsLiveins : (text : List ℕ) → (place : ℕ) → List Line → List ℕ → Type 0
SpellsLiveins text place [] liveins = liveins ≡ []
SpellsLiveins text zero (line ∷ []) liveins = (liveins ≢ []) × States text physical_whats line liveins
SpellsLiveins text place (line ∷ more) liveins = ⊥

-- a block: its head, then its lists, then its instructions
pub record SpellsBlock (text : List ℕ) (names : List (List ℕ)) (tables : Tables) (types : ℕ → Option Llt) (place : ℕ) (section : Section) (block : BlockData) : Type 0 where
  pub headed : is_head (kept_items text section.head) ≡ true
  pub succeeded : SpellsSuccessors text tables (lists_of text Successors section.under) (implied_successors place (length tables.blocks) block.instrs) block.successors
  pub live : SpellsLiveins text place (lists_of text Liveins section.under) block.liveins
  pub instructed : AllZip (SpellsInstr text names tables types) (past_run (is_list_line text) section.under) block.instrs

-- the blocks from a place on
abbrev pub SpellsBlocks : (text : List ℕ) (names : List (List ℕ)) → Tables → (types : ℕ → Option Llt) → (place : ℕ) → List Section → List BlockData → Type 0
SpellsBlocks text names tables types place [] [] = ⊤
SpellsBlocks text names tables types place [] (block ∷ blocks) = ⊥
SpellsBlocks text names tables types place (section ∷ sections) [] = ⊥
SpellsBlocks text names tables types place (section ∷ sections) (block ∷ blocks) =
    SpellsBlock text names tables types place section block × SpellsBlocks text names tables types (suc place) sections blocks

-- ══ Entries of a document ══

abbrev pub entries_with : (key : List ℕ) → List Section → List Section
entries_with key sections = filter (is_entry_of key) sections

abbrev pub value_whats : (text : List ℕ) → Section → Option (List What)
value_whats text section = option_map (map what_in) (value_items text section.head)

-- a key that is `true` or `false`, stands once at most with nothing under it, and is false where it is absent
abbrev pub SpellsTruth : (text : List ℕ) → List Section → Bool → Type 0
SpellsTruth text [] truth = truth ≡ false
SpellsTruth text (section ∷ []) truth = (value_whats text section ≡ Some (word_what (if truth then word.True else word.False) ∷ [])) × (section.under ≡ [])
SpellsTruth text (section ∷ other ∷ more) truth = ⊥

-- the lines of a list that stands once at most: none where it is absent or `[]`
abbrev pub Lists : (text : List ℕ) → List Section → List Line → Type 0
Lists text [] lines = lines ≡ []
Lists text (section ∷ []) lines =
    ((value_whats text section ≡ Some []) × (lines ≡ section.under))
    ⊎ ((value_whats text section ≡ Some (what.OpenSquare ∷ what.CloseSquare ∷ [])) × (section.under ≡ []) × (lines ≡ []))
Lists text (section ∷ other ∷ more) lines = ⊥

-- the function's name, once
abbrev pub SpellsName : (name : List ℕ) → List Section → Type 0
SpellsName name (section ∷ []) = (name_value section ≡ name) × (is_name name ≡ true) × (section.under ≡ [])
SpellsName name other = ⊥

-- the lines of the blocks, once
abbrev pub SpellsBody : (text : List ℕ) → List Section → List Line → Type 0
SpellsBody text (section ∷ []) lines = (value_whats text section ≡ Some (what.Bar ∷ [])) × (lines ≡ section.under)
SpellsBody text other lines = ⊥

abbrev pub are_distinct : List ℕ → Bool
are_distinct [] = true
are_distinct (number ∷ numbers) = not (list_any (nat_eq number) numbers) && are_distinct numbers

abbrev pub types_in : FunctionData → ℕ → Option Llt
types_in f reg = type_of_kind (kind_of f reg)

-- the entries of a function: keys in any order, of which these count
pub record SpellsEntries (text : List ℕ) (names : List (List ℕ)) (sections : List Section) (f : FunctionData) : Type 0 where
  pub keyed : list_all (λ section. is_entry section.head.bytes) sections ≡ true
  pub named : SpellsName (name_at names f.name) (entries_with (codes "name") sections)
  pub legal : SpellsTruth text (entries_with (codes "legalized") sections) f.legalized
  pub banked : SpellsTruth text (entries_with (codes "regBankSelected") sections) f.banked
  pub chosen : SpellsTruth text (entries_with (codes "selected") sections) f.selected
  pub registers : List Line
  pub registered : Lists text (entries_with (codes "registers") sections) registers
  pub each_register : length (registers_in text registers) ≡ length registers
  pub objects : List Line
  pub stacked : Lists text (entries_with (codes "stack") sections) objects
  pub stack : f.stack ≡ objects_from 0 (stack_entries text objects)
  pub each_object : length f.stack ≡ length (stack_entries text objects)
  pub lines : List Line
  pub bodied : SpellsBody text (entries_with (codes "body") sections) lines
  pub from_a_head : (blocks_in text lines).before ≡ []
  pub distinct : are_distinct (block_numbers text (blocks_in text lines).sections) ≡ true
  pub blocks : SpellsBlocks text names
      (record { classes = registers_in text registers; blocks = block_numbers text (blocks_in text lines).sections; objects = length f.stack })
      (types_in f) 0 (blocks_in text lines).sections f.blocks

pub record SpellsDocument (text : List ℕ) (names : List (List ℕ)) (document : Section) (f : FunctionData) : Type 0 where
  pub from_a_key : (document_entries document).before ≡ []
  pub to_the_end : document_strays document ≡ []
  pub entries : SpellsEntries text names (entries_of document) f

-- ══ A text ══

-- the IR block is kept as it stands
pub record SpellsIr (text : List ℕ) (ir : Option (List (List ℕ))) : Type 0 where
  pub same : ir ≡ option_map (map (λ line. line.bytes)) (parts_of_text text).ir
  pub is_text : ir_wrongs (parts_of_text text).ir ≡ []

-- a text: its IR block, and its documents in order, one for each function
pub record Spells (text : List ℕ) (m : ModuleData) : Type 0 where
  pub ir : SpellsIr text m.ir
  pub no_strays : (parts_of_text text).strays ≡ []
  pub documents : AllZip (SpellsDocument text m.names) (parts_of_text text).documents m.functions
