use Rattle.gi_answer.proofs.AnyTexts.{any_refine}
use Rattle.gi_answer.proofs.same.any_spelled_modules_refine.Goals as goal

pub returns : goal.returns
returns c = any_refine
