-- The names of a module, in the order in which they first appear.
use Rattle.std.specs.Prelude.{◌≡◌, ◌<◌, ℕ, length, Some, List, [], ◌∷◌, ◌++◌, String, string_bytes, Option, bytes_eq, map, position, is_some, if◌then◌else◌, slice_index_or}
use Rattle.std.specs.BTreeMap.{BTreeMap, get_by_text}

-- the texts of strings
abbrev pub texts_of : {A : Type 0} → List (String A) → List (List ℕ)
texts_of strings = map string_bytes strings

-- the number of a name, if it has one: its place
abbrev pub number_of : List (List ℕ) → List ℕ → Option ℕ
number_of names name = position (bytes_eq name) names

-- the names, with this one last if it isn't there
abbrev pub with_name : List (List ℕ) → List ℕ → List (List ℕ)
with_name names name = if is_some (number_of names name) then names else names ++ name ∷ []

-- the name with this number, and the empty text where none has it
abbrev pub name_at : List (List ℕ) → ℕ → List ℕ
name_at names number = slice_index_or names number []

-- each name is found at its own number, so that no two numbers have one name
pub record AreDistinct (names : List (List ℕ)) : Type 0 where
  pub apart : (k : ℕ) → k < length names → number_of names (name_at names k) ≡ Some k

-- a map finds the number of each of the names, and no others
pub record AreFound {A : Type 0} (numbers : BTreeMap (String A) ℕ) (names : List (List ℕ)) : Type 0 where
  pub found : (name : List ℕ) → get_by_text numbers name ≡ number_of names name
