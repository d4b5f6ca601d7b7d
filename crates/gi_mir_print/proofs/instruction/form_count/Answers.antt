use Rattle.std.proofs.Common.{◌≤◌, not, rules, length, drop, sym, subst, ap, ◌∙◌}
use Rattle.gi_mir.proofs.Places.{place_of_answer, position_or_len-bound}
use Rattle.gi_mir_print.specs.Shown.{is_definition_form}
use Rattle.gi_mir_print.proofs.OperandLemmas.{forms_dropped}
use Rattle.gi_mir_print.proofs.instruction.form_count.Goals as goal

pub returns-clause-within : goal.returns-clause-within
returns-clause-within c = subst (λ n. n ≤ length c.args.forms.now)
    (sym (place_of_answer (λ f. not (is_definition_form f)) c.args.forms.now c.form_end.result c.unwrap_or.result c.form_end.ensures (search rules)))
    (position_or_len-bound (λ f. not (is_definition_form f)) c.args.forms.now)

pub returns-clause-sources : goal.returns-clause-sources
returns-clause-sources c = ap (λ n. drop n c.args.forms.now)
    (place_of_answer (λ f. not (is_definition_form f)) c.args.forms.now c.form_end.result c.unwrap_or.result c.form_end.ensures (search rules))
    ∙ forms_dropped c.args.forms.now
