use Rattle.std.proofs.Common.{◌≡◌, ℕ, List, Option, Some, None, Bor, ◌∙◌, ap, sym}
use Rattle.std.specs.Prelude.{bytes_eq, map, position}
use Rattle.std.specs.Option.{option_map_or}
use Rattle.gi_mir.proofs.NamesLemmas.{position-map}
use Rattle.gi_mir.specs.Routines.{routine_names}
use Rattle.gi_spelling.specs.declared.token.What.{What}
use Rattle.gi_spelling.specs.declared.token.What.TheVariants as what
use Rattle.gi_mir_read.proofs.line.what.routine_token.Goals as goal

-- a place among the names as they stand in a table
among : (name : List ℕ) (table : List (Bor (List ℕ))) (names : List (List ℕ)) (found : Option ℕ) → found ≡ position (λ other. bytes_eq name other.now) table
    → map (λ other. other.now) table ≡ names → found ≡ position (bytes_eq name) names
among name table names found is shown = is ∙ sym (position-map (bytes_eq name) (λ (other : Bor (List ℕ)). other.now) table) ∙ ap (position (bytes_eq name)) shown

abbrev answer : Option ℕ → What
answer found = option_map_or (λ place. what.Routine place) found what.UnknownRoutine

pub returns-in-Some : goal.returns-in-Some
returns-in-Some c = ap answer (among c.args.name.now c.routines.result.now routine_names (Some c.in-Some.place) c.in-Some.ensures c.routines.ensures)

pub returns-in-None : goal.returns-in-None
returns-in-None c = ap answer (among c.args.name.now c.routines.result.now routine_names None c.in-None.ensures c.routines.ensures)
