-- What may tell that a line says nothing, or that it begins a block.
use Rattle.std.specs.Prelude.{ℕ, Bool, true, false, ◌||◌, List, [], ◌∷◌, codes, nat_eq}
use Rattle.std.specs.List.{starts_with}
use Rattle.gi_spelling.specs.declared.token.Word.{Word}
use Rattle.gi_spelling.specs.declared.token.Word.TheVariants as word
use Rattle.gi_spelling.specs.declared.token.What.{What}
use Rattle.gi_spelling.specs.declared.token.What.TheVariants as what

-- the word of a debug instruction, or of a block's head
abbrev pub is_telling_word : Word → Bool
is_telling_word word.Debug = true
is_telling_word (word.BlockHead number) = true
is_telling_word w = false

abbrev pub is_telling : What → Bool
is_telling (what.Word w) = is_telling_word w
is_telling w = false

-- as such a word begins
abbrev pub begins_telling : List ℕ → Bool
begins_telling bytes = starts_with nat_eq bytes (codes "DBG_") || starts_with nat_eq bytes (codes "bb.")

-- somewhere in a line
abbrev pub tells : List ℕ → Bool
tells [] = false
tells (byte ∷ rest) = begins_telling (byte ∷ rest) || tells rest
