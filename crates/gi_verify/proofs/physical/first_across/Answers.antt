use Rattle.gi_mir.specs.Instrs.{left}
use Rattle.std.proofs.Common.{sym, ◌∙◌, arith}
use Rattle.gi_valid.specs.Faults.{goes_across}
use Rattle.gi_verify.proofs.Finding.{find_on, find_here, find_past}
use Rattle.gi_verify.proofs.physical.first_across.Goals as goal

pub returns-then-has : goal.returns-then-has
returns-then-has c =
    sym (c.loop-n.invariant
    ∙ find_here (goes_across c.args.function.now (record { block = c.args.b; before = (left c.args.front); instr = c.args.numbered.now.1; after = (left c.args.after) })) c.loop-n.n c.args.end c.loop-n-test.true (sym (c.across-mask.ensures.by c.loop-n.n (omega arith)) ∙ sym c.has.ensures ∙ c.if-has.true))

pub loop-n-preserved : goal.loop-n-preserved
loop-n-preserved c =
    c.loop-n.invariant
    ∙ find_on (goes_across c.args.function.now (record { block = c.args.b; before = (left c.args.front); instr = c.args.numbered.now.1; after = (left c.args.after) })) c.loop-n.n c.args.end c.loop-n-test.true (sym (c.across-mask.ensures.by c.loop-n.n (omega arith)) ∙ sym c.has.ensures ∙ c.if-has.false)

pub returns : goal.returns
returns c =
    sym (c.loop-n.invariant
    ∙ find_past (goes_across c.args.function.now (record { block = c.args.b; before = (left c.args.front); instr = c.args.numbered.now.1; after = (left c.args.after) })) c.loop-n.n c.args.end c.loop-n-test.false)
