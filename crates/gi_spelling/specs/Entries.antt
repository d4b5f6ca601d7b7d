-- An entry of `registers` or `stack`: `- { id: 0, class: _ }` and `- { id: 0, size: 4, alignment: 4 }`. The fields may
-- stand in any order, each of those that count once; other fields are passed over, with what stands in brackets.
-- (MIR Format Reference Manual, "High Level Structure"; which fields count is this project's own.)
use Rattle.std.specs.Prelude.{ℕ, zero, suc, Bool, true, false, ◌&&◌, List, [], ◌∷◌, Some, None, Ok, is_some, if◌then◌else◌}
use Rattle.gi_spelling.specs.Kept.{is_comma}
use Rattle.gi_spelling.specs.declared.token.Word.{Word}
use Rattle.gi_spelling.specs.declared.token.Word.TheVariants as word
use Rattle.gi_spelling.specs.declared.token.What.{What}
use Rattle.gi_spelling.specs.declared.token.What.TheVariants as what
use Rattle.gi_spelling.specs.declared.token.Item.{Item}
use Rattle.gi_spelling.specs.declared.written.Fields.{Fields}
use Rattle.gi_spelling.specs.declared.written.Entry.{Entry}
use Rattle.gi_spelling.specs.declared.written.EntryState.{EntryState}
use Rattle.gi_spelling.specs.declared.written.EntryState.TheVariants as state
use Rattle.gi_spelling.specs.declared.written.EntryKind.{EntryKind}
use Rattle.gi_spelling.specs.declared.written.EntryKind.TheVariants as kind
use Rattle.gi_spelling.specs.Reading.{Read, syntax, then_read, class_by, size_by}

-- the fields that count
abbrev pub counts : EntryKind → Word → Bool
counts k word.Id = true
counts kind.Register word.ClassField = true
counts kind.Object word.Size = true
counts kind.Object word.Alignment = true
counts k w = false

abbrev pub has_field : Fields → Word → Bool
has_field fields word.Id = is_some fields.id
has_field fields word.ClassField = is_some fields.class
has_field fields word.Size = is_some fields.size
has_field fields word.Alignment = is_some fields.alignment
has_field fields w = false

abbrev pub entry : EntryState → Fields → Entry
entry state fields = record { state = state; fields = fields }

abbrev pub no_fields : Fields
no_fields = record { id = None; class = None; size = None; alignment = None }

-- a word that names a field
abbrev pub key_by : EntryKind → Fields → What → Read Entry
key_by k fields (what.Word w) = if counts k w && has_field fields w then syntax else Ok (entry (state.AtColon w) fields)
key_by k fields w = syntax

abbrev pub colon_by : EntryKind → Fields → Word → What → Read Entry
colon_by k fields w what.Colon = Ok (entry (if counts k w then state.AtValue w else state.Passing 0) fields)
colon_by k fields w mark = syntax

-- the value of a field
abbrev pub value_by : Fields → Word → Item → Read Entry
value_by fields word.Id item = then_read (size_by item.what) (λ id. Ok (entry state.AtSeparator (record fields { id = Some id })))
value_by fields word.ClassField item = then_read (class_by item.what item) (λ class. Ok (entry state.AtSeparator (record fields { class = Some class })))
value_by fields word.Size item = then_read (size_by item.what) (λ size. Ok (entry state.AtSeparator (record fields { size = Some size })))
value_by fields word.Alignment item = then_read (size_by item.what) (λ alignment. Ok (entry state.AtSeparator (record fields { alignment = Some alignment })))
value_by fields w item = syntax

abbrev pub separator_by : Fields → What → Read Entry
separator_by fields what.Comma = Ok (entry state.AtKey fields)
separator_by fields what.CloseBrace = Ok (entry state.AtEnd fields)
separator_by fields w = syntax

-- a token of a value that is passed over: brackets nest
abbrev pub passed_at : (depth : ℕ) (opens closes is_comma is_brace : Bool) → Fields → Read Entry
passed_at depth true closes is_comma is_brace fields = Ok (entry (state.Passing (suc depth)) fields)
passed_at zero false true is_comma true fields = Ok (entry state.AtEnd fields)
passed_at zero false true is_comma false fields = syntax
passed_at (suc depth) false true is_comma is_brace fields = Ok (entry (state.Passing depth) fields)
passed_at zero false false true is_brace fields = Ok (entry state.AtKey fields)
passed_at depth false false is_comma is_brace fields = Ok (entry (state.Passing depth) fields)

abbrev pub opens : What → Bool
opens what.Open = true
opens what.OpenBrace = true
opens what.OpenSquare = true
opens w = false

abbrev pub closes : What → Bool
closes what.Close = true
closes what.CloseBrace = true
closes what.CloseSquare = true
closes w = false

abbrev pub is_close_brace : What → Bool
is_close_brace what.CloseBrace = true
is_close_brace w = false

abbrev pub passing_by : Fields → (depth : ℕ) → What → Read Entry
passing_by fields depth w = passed_at depth (opens w) (closes w) (is_comma w) (is_close_brace w) fields

abbrev pub dash_by : Fields → What → Read Entry
dash_by fields what.Minus = Ok (entry state.AtBrace fields)
dash_by fields w = syntax

abbrev pub brace_by : Fields → What → Read Entry
brace_by fields what.OpenBrace = Ok (entry state.AtKey fields)
brace_by fields w = syntax

-- the next token
abbrev pub step : EntryKind → EntryState → Fields → Item → Read Entry
step k state.AtDash fields item = dash_by fields item.what
step k state.AtBrace fields item = brace_by fields item.what
step k state.AtKey fields item = key_by k fields item.what
step k (state.AtColon w) fields item = colon_by k fields w item.what
step k (state.AtValue w) fields item = value_by fields w item
step k state.AtSeparator fields item = separator_by fields item.what
step k (state.Passing depth) fields item = passing_by fields depth item.what
step k state.AtEnd fields item = syntax

abbrev pub steps : EntryKind → Entry → List Item → Read Entry
steps k at [] = Ok at
steps k at (item ∷ items) = then_read (step k at.state at.fields item) (λ next. steps k next items)

abbrev pub has_all : EntryKind → Fields → Bool
has_all kind.Register fields = is_some fields.id && is_some fields.class
has_all kind.Object fields = is_some fields.id && is_some fields.size && is_some fields.alignment

abbrev pub is_at_end : EntryState → Bool
is_at_end state.AtEnd = true
is_at_end s = false

abbrev pub whole_entry : EntryKind → Entry → Read Fields
whole_entry k at = if is_at_end at.state && has_all k at.fields then Ok at.fields else syntax

abbrev pub read_entry : EntryKind → List Item → Read Fields
read_entry k items = then_read (steps k (entry state.AtDash no_fields) items) (whole_entry k)
