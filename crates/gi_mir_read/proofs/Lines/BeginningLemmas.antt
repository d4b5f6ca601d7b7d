-- A word that begins otherwise isn't fixed.
use Rattle.std.proofs.Common.{◌≡◌, ℕ, Bool, true, false, List, [], ◌∷◌, Some, None, find, option_map, refl, sym, ap, ◌∙◌}
use Rattle.std.specs.Prelude.{bytes_eq, not, if◌then◌else◌}
use Rattle.std.specs.List.{list_all}
use Rattle.std.proofs.lemmas.Bool.{and_parts}
use Rattle.std.proofs.lemmas.Slice.Eq.{bytes_eq-Decides}
use Rattle.gi_spelling.specs.Words.{fixed_word, words}
use Rattle.gi_spelling.specs.declared.token.Word.{Word}
use Rattle.gi_mir_read.specs.Lines.Beginnings.{begins_otherwise}

-- what passes a test that no entry passes is no entry
none_found : (test : List ℕ → Bool) (table : List (List ℕ × Word)) (bytes : List ℕ) → list_all (λ entry. not (test entry.0)) table ≡ true → test bytes ≡ true → find (λ entry. bytes_eq entry.0 bytes) table ≡ None
none_found test [] bytes none passes = refl
none_found test (e ∷ table) bytes none passes =
    let parts = and_parts (not (test e.0)) (list_all (λ entry. not (test entry.0)) table) none in
    by (bytes_eq e.0 bytes) refl parts.0 (none_found test table bytes parts.1 passes)
  where
    by : (same : Bool) → bytes_eq e.0 bytes ≡ same → not (test e.0) ≡ true → find (λ entry. bytes_eq entry.0 bytes) table ≡ None → (if same then Some e else find (λ entry. bytes_eq entry.0 bytes) table) ≡ None
    by true is apart later = let none : false ≡ true = sym (ap not (ap test ((bytes_eq-Decides e.0 bytes).0 is) ∙ passes)) ∙ apart in cc
    by false is apart later = later

pub not_fixed : (bytes : List ℕ) → begins_otherwise bytes ≡ true → fixed_word bytes ≡ None
not_fixed bytes otherwise = ap (option_map (λ entry. entry.1)) (none_found begins_otherwise words bytes refl otherwise)
