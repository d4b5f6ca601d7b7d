use Rattle.gi_answer.proofs.CompileLaws.{selected_refines}
use Rattle.gi_answer.proofs.laws.selected_function_refines.Goals as goal

pub returns : goal.returns
returns c = λ names f g h made. selected_refines names f h g made
