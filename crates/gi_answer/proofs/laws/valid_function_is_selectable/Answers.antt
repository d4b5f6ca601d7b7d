use Rattle.gi_answer.proofs.ValidShapes.{valid_selectable}
use Rattle.gi_answer.proofs.laws.valid_function_is_selectable.Goals as goal

pub returns : goal.returns
returns c = valid_selectable
