use Rattle.gi_mir_print.proofs.NoteLemmas.{noted_instr, noted_instrs_end}
use Rattle.gi_mir_print.proofs.registers.Registers.note_instrs.Goals as goal

pub loop-numbered-preserved : goal.loop-numbered-preserved
loop-numbered-preserved c = λ e rest. c.loop-numbered.invariant e (noted_instr _ _ _ _ _ _ c.in-Some.ensures.steps c.in_ok-note_instr.ensures rest)

pub returns : goal.returns
returns c = c.loop-numbered.invariant _ (noted_instrs_end _ _ c.in-None.ensures.steps.0)
