use Rattle.gi_mir.specs.Numbering.{numbered_module}
use Rattle.gi_spelling.specs.Printed.{printed}
use Rattle.gi_spelling.proofs.PrintedTexts.{printed_spells}
use Rattle.gi_spelling.proofs.ReadsBack.{some_spells, some_read, some_again}
use Rattle.gi_spelling.proofs.ReadSpells.{read_spelled}
use Rattle.gi_spelling.proofs.SpelledRight.{spelled_right}
use Rattle.gi_answer.proofs.laws.printed_text_is_read_back.Goals as goal

pub returns : goal.returns
returns c = record {
  taken = λ m some there. spelled_right (printed (numbered_module m)) (numbered_module m) (some_spells printed_spells m some there);
  same = λ m n some there reads. some_read printed_spells m n some there (read_spelled (printed (numbered_module m)) n reads);
  again = λ m n some there reads. some_again printed_spells m n some there (read_spelled (printed (numbered_module m)) n reads);
}
