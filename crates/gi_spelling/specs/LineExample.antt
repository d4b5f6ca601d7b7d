-- An example of a line: `%0(s32) = COPY killed $x10`, less what is passed over.
use Rattle.std.specs.Prelude.{ℕ, List, [], ◌∷◌, None}
use Rattle.gi_llt.specs.declared.Llt.TheVariants.{Scalar}
use Rattle.gi_mir.specs.declared.opcode.Opcode.TheVariants.{Copy}
use Rattle.gi_mir.specs.Data.{no_flags, reg_of}
use Rattle.gi_spelling.specs.declared.token.Item.{Item}
use Rattle.gi_spelling.specs.declared.token.Word.TheVariants as word
use Rattle.gi_spelling.specs.declared.token.What.{What}
use Rattle.gi_spelling.specs.declared.token.What.TheVariants as what
use Rattle.gi_spelling.specs.declared.written.Definition.TheVariants as definition
use Rattle.gi_spelling.specs.declared.written.Source.TheVariants as source
use Rattle.gi_spelling.specs.Written.{WrittenData}

abbrev pub placed : What → (start end : ℕ) → Item
placed w start end = record { what = w; start = start; end = end }

-- a token whose place doesn't matter
abbrev pub item : What → Item
item w = placed w 0 0

abbrev pub copy_items : List Item
copy_items =
    item (what.Register 0) ∷ item what.Open ∷ item (what.Word (word.Type (Scalar 32))) ∷ item what.Close ∷ item what.Equals
    ∷ item (what.Word (word.Opcode Copy)) ∷ item (what.Physical 10) ∷ []

abbrev pub copy_written : WrittenData
copy_written = record {
  definitions = definition.Typed (reg_of 0) (Scalar 32) ∷ [];
  flags = no_flags;
  op = Copy;
  sources = source.Physical 10 ∷ [];
  memory = None;
}
