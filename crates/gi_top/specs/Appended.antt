-- What the output holds after a text was written to it.
use Rattle.std.specs.Prelude.{◌≡◌, ℕ, List, ◌++◌}
use Rattle.gi_io.specs.Writing.{AppendsPrefix}
use Rattle.gi_answer.specs.Answers.{IsOutput}

-- what is held is what was held and then the whole text, or a prefix of it
pub record AppendsOutput (words : List (List ℕ)) (read before after : List ℕ) : Type 0 where
  pub written : List ℕ
  pub output : IsOutput words read written
  pub appended : after ≡ before ++ written

pub record AppendsPartOfOutput (words : List (List ℕ)) (read before after : List ℕ) : Type 0 where
  pub written : List ℕ
  pub output : IsOutput words read written
  pub part : AppendsPrefix before after written
