use Rattle.gi_answer.proofs.OneText.{one_selected_text}
use Rattle.gi_answer.proofs.laws.selected_text_is_one.Goals as goal

pub returns : goal.returns
returns c = one_selected_text
