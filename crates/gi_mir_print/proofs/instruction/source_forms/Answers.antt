use Rattle.std.proofs.Common.{◌∙◌}
use Rattle.std.proofs.lemmas.List.{take_rest}
use Rattle.gi_mir_print.proofs.instruction.source_forms.Goals as goal

pub returns : goal.returns
returns c = take_rest c.args.forms.now c.form_count-count.result ∙ c.form_count-count.ensures.sources
