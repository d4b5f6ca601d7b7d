use Rattle.gi_spelling.proofs.SpelledRight.{spelled_right}
use Rattle.gi_spelling.proofs.laws.spelled_text_is_read.Goals as goal

pub returns : goal.returns
returns c = spelled_right
