use Rattle.gi_refine.proofs.WordedSteps.{words_followed}
use Rattle.gi_refine.proofs.words.words_follow.Goals as goal

pub returns : goal.returns
returns c = λ x names old new world hidden i j wide is_world kept is_word worded.
    words_followed x wide names old new world is_world hidden i j kept is_word worded
