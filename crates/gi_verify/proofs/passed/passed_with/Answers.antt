use Rattle.gi_mir.specs.Instrs.{left}
use Rattle.gi_verify.proofs.Passing.{passed_one}
use Rattle.gi_verify.proofs.passed.passed_with.Goals as goal

pub returns : goal.returns
returns c =
    passed_one (left c.args.front) c.args.numbered.now c.args.passed _ c.requires.passed c.any_terminator-terminator.ensures c.any_unconditional-unconditional.ensures
    c.any_late-late.ensures c.all_phis-phis.ensures
