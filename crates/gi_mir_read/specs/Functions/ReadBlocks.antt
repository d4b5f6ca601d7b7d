-- The blocks of a function, as they are read one after the other.
use Rattle.std.specs.Prelude.{◌≡◌, ℕ, suc, ◌&&◌, List, [], ◌∷◌, ◌++◌, Option, flat_map, fold, length, map, unwrap_or, ◌==◌, if◌then◌else◌}
use Rattle.gi_mir.specs.Data.{FunctionData, InstrData}
use Rattle.gi_spelling.specs.declared.written.Fault.TheVariants as fault
use Rattle.gi_spelling.specs.declared.written.Shown.{Shown}
use Rattle.gi_spelling.specs.declared.written.Wrong.{Wrong}
use Rattle.gi_spelling.specs.declared.token.RegisterClass.{RegisterClass}
use Rattle.gi_spelling.specs.Blocks.{Body, block_numbers, bodies_from, body_of, head_number, is_head, outer_wrong, shown_wrongs, wrong, wrongs_from}
use Rattle.gi_spelling.specs.Documents.{lower, with_body}
use Rattle.gi_spelling.specs.Items.{kept_items}
use Rattle.gi_spelling.specs.Lines.{Line, Section, Sections}
use Rattle.gi_spelling.specs.Named.{Extends, IsNamedFunction}
use Rattle.gi_spelling.specs.Resolved.{Tables, block_place}
use Rattle.gi_mir_read.specs.Functions.Bodies.{with_defined}
use Rattle.gi_mir_read.specs.Functions.Noted.{NotesData}

-- a head is wrong where it isn't spelled so, or its number isn't one that came first at its place
abbrev pub head_wrongs : (text : List ℕ) → Tables → (place : ℕ) → Line → List Wrong
head_wrongs text tables place line =
    if is_head (kept_items text line) && (block_place tables.blocks (unwrap_or (head_number text line) 0) == place) then []
    else wrong line.number fault.Syntax ∷ []

-- a block is read: the function has it at its end, and what is to be known of it at the end is kept
pub record ReadsBlock (text : List ℕ) (tables : Tables) (old_names new_names : List (List ℕ)) (place : ℕ) (section : Section) (old new : FunctionData) (old_notes new_notes : NotesData) : Type 0 where
  pub grown : Extends old_names new_names
  pub name : new.name ≡ old.name
  pub placed : length new.blocks ≡ suc place
  pub named : (f : FunctionData) → IsNamedFunction text old_names f old → IsNamedFunction text new_names (with_body tables.blocks f (body_of text tables place section)) new
  pub kinds : new_notes.kinds ≡ fold with_defined old_notes.kinds (body_of text tables place section).instrs
  pub shown : new_notes.shown ≡ old_notes.shown ++ (body_of text tables place section).shown
  pub lowest : new_notes.lowest ≡ fold lower old_notes.lowest (head_wrongs text tables place section.head ++ (body_of text tables place section).wrongs)

abbrev pub instrs_in : List Body → List InstrData
instrs_in bodies = flat_map (λ body. body.instrs) bodies

abbrev pub shown_in : List Body → List Shown
shown_in bodies = flat_map (λ body. body.shown) bodies

-- what is kept and noted once these blocks are read
pub record AreLeft (text : List ℕ) (tables : Tables) (place : ℕ) (sections : List Section) (notes whole : NotesData) : Type 0 where
  pub earlier : List ℕ
  pub numbered : tables.blocks ≡ earlier ++ block_numbers text sections
  pub counted : length earlier ≡ place
  pub kinds : fold with_defined notes.kinds (instrs_in (bodies_from text tables place sections)) ≡ whole.kinds
  pub shown : notes.shown ++ shown_in (bodies_from text tables place sections) ≡ whole.shown
  pub lowest : fold lower notes.lowest (wrongs_from text tables earlier place sections) ≡ whole.lowest

-- what the function is once these blocks are read
pub record IsLeft (text : List ℕ) (tables : Tables) (names : List (List ℕ)) (place : ℕ) (sections : List Section) (function whole : FunctionData) : Type 0 where
  pub spelled : FunctionData
  pub named : IsNamedFunction text names spelled function
  pub rest : fold (with_body tables.blocks) spelled (bodies_from text tables place sections) ≡ whole

abbrev pub notes_after : (text : List ℕ) → Tables → List Section → NotesData → NotesData
notes_after text tables sections notes = record {
  kinds = fold with_defined notes.kinds (instrs_in (bodies_from text tables 0 sections));
  shown = notes.shown ++ shown_in (bodies_from text tables 0 sections);
  lowest = fold lower notes.lowest (wrongs_from text tables [] 0 sections);
}

-- the blocks are read
pub record ReadsBlocks (text : List ℕ) (tables : Tables) (old_names new_names : List (List ℕ)) (sections : List Section) (old new : FunctionData) (old_notes new_notes : NotesData) : Type 0 where
  pub grown : Extends old_names new_names
  pub name : new.name ≡ old.name
  pub named : (f : FunctionData) → IsNamedFunction text old_names f old → IsNamedFunction text new_names (fold (with_body tables.blocks) f (bodies_from text tables 0 sections)) new
  pub notes : new_notes ≡ notes_after text tables sections old_notes

-- what is wrong with the blocks of a function
abbrev pub wrongs_of : (text : List ℕ) → Tables → Sections → List Wrong
wrongs_of text tables blocks =
    map (outer_wrong text) blocks.before ++ (wrongs_from text tables [] 0 blocks.sections ++ shown_wrongs (bodies_from text tables 0 blocks.sections))

abbrev pub tables_in : (text : List ℕ) → List (ℕ × RegisterClass) → (objects : ℕ) → Sections → Tables
tables_in text classes objects blocks = record { classes = classes; blocks = block_numbers text blocks.sections; objects = objects }

-- the blocks of a function are read, and what is wrong with them is noted
pub record BlocksAreRead (text : List ℕ) (tables : Tables) (blocks : Sections) (old_names new_names : List (List ℕ)) (old new : FunctionData) (old_lowest new_lowest : Option Wrong) : Type 0 where
  pub grown : Extends old_names new_names
  pub name : new.name ≡ old.name
  pub named : (f : FunctionData) → IsNamedFunction text old_names f old → IsNamedFunction text new_names (fold (with_body tables.blocks) f (bodies_from text tables 0 blocks.sections)) new
  pub lowest : new_lowest ≡ fold lower old_lowest (wrongs_of text tables blocks)
