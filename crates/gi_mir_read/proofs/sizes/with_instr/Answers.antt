use Rattle.std.proofs.Common.{sym}
use Rattle.gi_registers.specs.Noted.{kind_or_class}
use Rattle.gi_mir_read.specs.Sizes.{access_faults, numbers_faults, shown_faults}
use Rattle.gi_mir_read.proofs.SizeLemmas.{lowest_of_three}
use Rattle.gi_mir_read.proofs.sizes.with_instr.Goals as goal

pub returns : goal.returns
returns c =
    let x = c.args.target.xlen in
    let i = c.args.instr.now in
    rw (c.with_numbers.ensures, c.with_access-in_memory.ensures, c.with_shown-shown.ensures)
    (sym (lowest_of_three c.args.lowest (shown_faults x (kind_or_class c.args.kinds.now) i) (access_faults x i) (numbers_faults c.args.before i)))
