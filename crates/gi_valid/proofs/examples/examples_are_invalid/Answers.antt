use Rattle.std.proofs.Common.{◌≡◌, ℕ, true, [], ◌∷◌, ⊎_elim, refl, sym, subst₂}
use Rattle.gi_mir.specs.Data.{FunctionData}
use Rattle.gi_mir.specs.declared.opcode.Opcode.TheVariants.{GenericZeroExtendLoad}
use Rattle.gi_meaning.specs.Runs.{is_among}
use Rattle.gi_valid.specs.Definitions.{IsComputedFrom}
use Rattle.gi_valid.specs.Examples.{extents_of, adds_a_byte, defines_twice, divides_between, goes_nowhere, goes_on_behind, joins_at_start, loads_a_pointer, loads_all, returns_nothing_there, returns_twice, widens_a_constant}
use Rattle.gi_valid.proofs.Trials.{alone_greatest, nothing_computed, among_one, among_two}
use Rattle.gi_valid.proofs.examples.examples_are_invalid.Goals as goal

-- %2 is computed from %0 and from %1
sum_computed : (f : FunctionData) → IsComputedFrom f 2 0 → IsComputedFrom f 2 1 → (r x : ℕ) → is_among r (2 ∷ []) ≡ true → is_among x (0 ∷ 1 ∷ []) ≡ true → IsComputedFrom f r x
sum_computed f first second r x own source =
    ⊎_elim (λ h. subst₂ (IsComputedFrom f) (sym (among_one r 2 own)) (sym h) first) (λ h. subst₂ (IsComputedFrom f) (sym (among_one r 2 own)) (sym h) second) (among_two x 0 1 source)

pub returns-clause-twice : goal.returns-clause-twice
returns-clause-twice c = record { extents = extents_of [] [] []; greatest = alone_greatest [] [] defines_twice refl refl (nothing_computed defines_twice); told = refl }

pub returns-clause-not_there : goal.returns-clause-not_there
returns-clause-not_there c = record { extents = extents_of [] [] []; greatest = alone_greatest [] [] returns_nothing_there refl refl (nothing_computed returns_nothing_there); told = refl }

pub returns-clause-mismatch : goal.returns-clause-mismatch
returns-clause-mismatch c = record {
  extents = extents_of (2 ∷ []) (0 ∷ 1 ∷ []) [];
  greatest = alone_greatest (2 ∷ []) (0 ∷ 1 ∷ []) adds_a_byte refl refl (sum_computed adds_a_byte (record { others = 0; over = refl }) (record { others = 0; over = refl }));
  told = refl;
}

pub returns-clause-width : goal.returns-clause-width
returns-clause-width c = record { extents = extents_of [] [] []; greatest = alone_greatest [] [] widens_a_constant refl refl (nothing_computed widens_a_constant); told = refl }

pub returns-clause-room : goal.returns-clause-room
returns-clause-room c = record { extents = extents_of [] [] []; greatest = alone_greatest [] [] (loads_all GenericZeroExtendLoad) refl refl (nothing_computed (loads_all GenericZeroExtendLoad)); told = refl }

pub returns-clause-number : goal.returns-clause-number
returns-clause-number c = record { extents = extents_of [] [] []; greatest = alone_greatest [] [] loads_a_pointer refl refl (nothing_computed loads_a_pointer); told = refl }

pub returns-clause-nowhere : goal.returns-clause-nowhere
returns-clause-nowhere c = record { extents = extents_of [] [] []; greatest = alone_greatest [] [] goes_nowhere refl refl (nothing_computed goes_nowhere); told = refl }

pub returns-clause-first_block : goal.returns-clause-first_block
returns-clause-first_block c = record { extents = extents_of [] [] []; greatest = alone_greatest [] [] joins_at_start refl refl (nothing_computed joins_at_start); told = refl }

pub returns-clause-across : goal.returns-clause-across
returns-clause-across c = record {
  extents = extents_of (2 ∷ []) (0 ∷ 1 ∷ []) [];
  greatest = alone_greatest (2 ∷ []) (0 ∷ 1 ∷ []) divides_between refl refl (sum_computed divides_between (record { others = 0; over = refl }) (record { others = 0; over = refl }));
  told = refl;
}

pub returns-clause-behind_return : goal.returns-clause-behind_return
returns-clause-behind_return c = record { extents = extents_of [] [] []; greatest = alone_greatest [] [] goes_on_behind refl refl (nothing_computed goes_on_behind); told = refl }

pub returns-clause-return_behind_return : goal.returns-clause-return_behind_return
returns-clause-return_behind_return c = record { extents = extents_of [] [] []; greatest = alone_greatest [] [] returns_twice refl refl (nothing_computed returns_twice); told = refl }
