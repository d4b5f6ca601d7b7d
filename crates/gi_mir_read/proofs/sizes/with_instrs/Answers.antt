use Rattle.std.proofs.Common.{length, ap, ◌∙◌}
use Rattle.gi_mir.specs.Instrs.{left}
use Rattle.gi_registers.specs.Noted.{kind_or_class}
use Rattle.gi_mir_read.specs.Sizes.{count_after, counted, instr_faults, instrs_faults, lowest_after}
use Rattle.gi_mir_read.proofs.SizeLemmas.{lowest_of_two}
use Rattle.gi_mir_read.proofs.sizes.with_instrs.Goals as goal

pub loop-instr-preserved : goal.loop-instr-preserved
loop-instr-preserved c = record {
  within = c.with_numbered.ensures.within;
  counted = rw c.with_numbered.ensures.counted (c.loop-instr.invariant.counted ∙ ap (counted c.loop-instr.count) c.in-Some.ensures.steps);
  lowest = rw (c.with_numbered.ensures.counted, c.with_numbered.ensures.lowest)
      (c.loop-instr.invariant.lowest
      ∙ ap (λ is. lowest_after c.loop-instr.lowest (instrs_faults c.args.target.xlen (kind_or_class c.args.kinds.now) c.loop-instr.count is)) c.in-Some.ensures.steps
      ∙ lowest_of_two c.loop-instr.lowest (instr_faults c.args.target.xlen (kind_or_class c.args.kinds.now) c.loop-instr.count c.in-Some.instr.now.1)
      (instrs_faults c.args.target.xlen (kind_or_class c.args.kinds.now) (count_after c.loop-instr.count (length c.in-Some.instr.now.1.operands)) (left c.next.new.self)));
}
