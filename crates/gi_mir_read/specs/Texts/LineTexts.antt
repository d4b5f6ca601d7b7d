-- Lines as texts, where they are UTF-8.
use Rattle.std.specs.Prelude.{ℕ, List, Option, Some, None, if◌then◌else◌}
use Rattle.std.specs.List.{filter_map}
use Rattle.std.specs.Str.{is_utf8}
use Rattle.gi_spelling.specs.Lines.{Line}

abbrev pub text_of : List ℕ → Option (List ℕ)
text_of bytes = if is_utf8 bytes then Some bytes else None

abbrev pub texts_of : List Line → List (List ℕ)
texts_of lines = filter_map (λ line. text_of line.bytes) lines
