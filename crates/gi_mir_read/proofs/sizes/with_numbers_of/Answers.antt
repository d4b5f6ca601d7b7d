use Rattle.std.proofs.Common.{length, sym}
use Rattle.std.specs.Prelude.{flat_map}
use Rattle.gi_mir_read.specs.Sizes.{above, count_faults, parts_of, register_faults}
use Rattle.gi_mir_read.proofs.SizeLemmas.{lowest_of_three}
use Rattle.gi_mir_read.proofs.sizes.with_numbers_of.Goals as goal

pub returns : goal.returns
returns c =
    let operands = c.args.operands.now in
    let three = lowest_of_three c.args.lowest (count_faults c.args.line c.args.before (length operands)) (flat_map (register_faults c.args.line) operands)
    (above c.args.line 5 16 (parts_of c.args.op operands)) in
    rw (c.with_limit.ensures, c.with_registers-in_registers.ensures, c.with_count-in_count.ensures, c.parts_of.ensures) (sym three)
