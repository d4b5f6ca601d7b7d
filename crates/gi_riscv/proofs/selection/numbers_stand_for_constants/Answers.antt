use Rattle.gi_riscv.proofs.Words.{unsigned_signed}
use Rattle.gi_riscv.proofs.selection.numbers_stand_for_constants.Goals as goal

pub returns : goal.returns
returns c = unsigned_signed
