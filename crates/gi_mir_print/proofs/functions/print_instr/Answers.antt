use Rattle.gi_mir_print.proofs.FunctionLemmas.{plain_text}
use Rattle.gi_mir_print.proofs.ListSteps.{on_ok_same}
use Rattle.gi_mir_print.proofs.functions.print_instr.Goals as goal

pub returns : goal.returns
returns c = record {
  text = on_ok_same _ c.args.out.now.items _ _ _
      (plain_text c.new-registers.result c.args.names.now c.args.instr.now c.new-registers.ensures.order c.new-registers.ensures.kinds)
      c.push_instr.ensures;
}
