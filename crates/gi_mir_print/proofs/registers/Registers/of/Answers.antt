use Rattle.std.proofs.Common.{ℕ, ◌<◌, List, length, flat_map, subst, arith}
use Rattle.gi_mir.specs.Data.{InstrData}
use Rattle.gi_mir.specs.Edit.{empty_block}
use Rattle.gi_mir.specs.Numbering.{registers_in_instr}
use Rattle.gi_mir.specs.Registers.{kind_in_instrs}
use Rattle.gi_mir_print.specs.Shown.{IsNoted}
use Rattle.gi_mir_print.proofs.ListSteps.{drop_step, drop_end}
use Rattle.gi_mir_print.proofs.NoteLemmas.{noted_block, noted_blocks_end}
use Rattle.gi_mir_print.proofs.registers.Registers.of.Goals as goal

pub loop-place-preserved : goal.loop-place-preserved
loop-place-preserved c = λ e rest.
    let h : c.loop-place.place < length c.args.function.now.blocks = omega arith in
    let P : List (ℕ × InstrData) → Type 0 = λ is. IsNoted c.loop-place.registers c.note_instrs.new.self (flat_map registers_in_instr is) (λ r. kind_in_instrs r is) in
    c.loop-place.invariant e
    (noted_block _ _ _ _ _ _ (drop_step c.args.function.now.blocks c.loop-place.place empty_block h) (subst P c.instrs.ensures c.in_ok-note_instrs.ensures) rest)

pub returns-clause-order : goal.returns-clause-order
returns-clause-order c =
    (c.loop-place.invariant _ (noted_blocks_end _ _ (drop_end c.args.function.now.blocks c.loop-place.place (omega arith)))).order

pub returns-clause-kinds : goal.returns-clause-kinds
returns-clause-kinds c =
    (c.loop-place.invariant _ (noted_blocks_end _ _ (drop_end c.args.function.now.blocks c.loop-place.place (omega arith)))).kinds
