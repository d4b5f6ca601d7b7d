-- The lines that are told of functions, one function after the other.
use Rattle.std.proofs.Common.{◌≡◌, ℕ, ◌+◌, ◌<◌, List, [], ◌∷◌, ◌++◌, length, take, get_or, Option, Some, None, IfSome, refl, sym, ap, ◌∙◌, subst}
use Rattle.std.specs.Option.{IfNone}
use Rattle.std.proofs.lemmas.List.{append_assoc, append-nil, take_more}
use Rattle.gi_mir.specs.Data.{FunctionData}
use Rattle.gi_mir.specs.declared.opcode.Opcode.{Opcode}
use Rattle.gi_mir.specs.declared.stage.Stage.{Stage}
use Rattle.gi_rules.specs.Fitting.{IsFirstOfLowestLine, IsTold, illegal_in, of_lower_line}
use Rattle.gi_rules.proofs.ToldLines.{told_of_both}
use Rattle.gi_answer.specs.Legality.{illegal_among}

told_by : (lines : List (ℕ × Opcode)) (told : Option (ℕ × Opcode)) → IfSome told (λ one. IsFirstOfLowestLine lines one) → IfNone told (lines ≡ []) → IsTold lines told
told_by lines None some none = none
told_by lines (Some told) some none = some

module _ (x : ℕ) (stage : Stage) where
  among-append : (fs gs : List FunctionData) → illegal_among x stage (fs ++ gs) ≡ illegal_among x stage fs ++ illegal_among x stage gs
  among-append [] gs = refl
  among-append (f ∷ fs) gs =
      ap (λ lines. illegal_in x stage f ++ lines) (among-append fs gs) ∙ sym (append_assoc (illegal_in x stage f) (illegal_among x stage fs) (illegal_among x stage gs))

  pub one_function_more : (fs : List FunctionData) (k : ℕ) (f : FunctionData) (told later : Option (ℕ × Opcode)) → k < length fs → f ≡ get_or fs k f
      → IfSome later (λ one. IsFirstOfLowestLine (illegal_in x stage f) one) → IfNone later (illegal_in x stage f ≡ [])
      → IsTold (illegal_among x stage (take k fs)) told → IsTold (illegal_among x stage (take (k + 1) fs)) (of_lower_line told later)
  one_function_more fs k f told later within there some none known =
      subst (λ lines. IsTold lines (of_lower_line told later))
      (ap (λ lines. illegal_among x stage (take k fs) ++ lines) (sym (append-nil (illegal_in x stage f)))
      ∙ sym (among-append (take k fs) (f ∷ [])) ∙ ap (λ g. illegal_among x stage (take k fs ++ g ∷ [])) there
      ∙ ap (illegal_among x stage) (sym (take_more fs k f within)))
      (told_of_both (illegal_among x stage (take k fs)) (illegal_in x stage f) told later known (told_by (illegal_in x stage f) later some none))
