-- The first entry of each key that counts, as the reader keeps it.
use Rattle.std.specs.Prelude.{◌≡◌, ℕ, List, [], Option, None, IfSome, length, option_map, slice_index_or, if◌then◌else◌}
use Rattle.std.specs.Option.{option_map_or}
use Rattle.gi_spelling.specs.Items.{value_items}
use Rattle.gi_spelling.specs.Lines as lines
use Rattle.gi_spelling.specs.Documents.{entry_of, is_bar, key_word, name_value}
use Rattle.gi_mir_read.specs.declared.document.keys.Firsts.{Firsts}
use Rattle.gi_spelling.specs.declared.written.Key.{Key}
use Rattle.gi_spelling.specs.declared.written.Key.TheVariants.{Name, Legalized, Banked, Selected, Registers, Stack, Body}
use Rattle.gi_mir_read.specs.declared.text.sections.Section.{Section}
use Rattle.gi_mir_read.specs.Texts.Sectioned.{IsSectionIn, section_at}

-- the place of a key among those that count
abbrev pub place_of : Key → ℕ
place_of Name = 0
place_of Legalized = 1
place_of Banked = 2
place_of Selected = 3
place_of Registers = 4
place_of Stack = 5
place_of Body = 6

abbrev pub first_of : Firsts → Key → Option Section
first_of firsts key = slice_index_or firsts.entries (place_of key) None

-- the lines of each are slices of the text
pub record AreFirstsIn (text : List ℕ) (firsts : Firsts) : Type 0 where
  pub within : (key : Key) → IfSome (first_of firsts key) (IsSectionIn text)

-- the value behind a key, and the lines under one with a bar behind it
abbrev pub value_stated : (key : List ℕ) → List lines.Section → List ℕ
value_stated key entries = option_map_or name_value (entry_of key entries) []

abbrev pub under_bar : (text : List ℕ) → (key : List ℕ) → List lines.Section → List lines.Line
under_bar text key entries = option_map_or (λ section. if is_bar (value_items text section.head) then section.under else []) (entry_of key entries) []

-- the first entry of each key among these entries
pub record AreFirsts (text : List ℕ) (entries : List lines.Section) (firsts : Firsts) : Type 0 where
  pub count : length firsts.entries ≡ 7
  pub first : (key : Key) → option_map (section_at text) (first_of firsts key) ≡ entry_of (key_word key) entries
  pub within : (key : Key) → IfSome (first_of firsts key) (IsSectionIn text)
