use Rattle.std.proofs.Common.{map}
use Rattle.std.specs.Prelude.{string_bytes}
use Rattle.gi_mir_print.proofs.FunctionLemmas.{ir_bytes}
use Rattle.gi_mir_print.proofs.ListSteps.{on_ok_joined, on_ok_same}
use Rattle.gi_mir_print.proofs.functions.push_ir.Goals as goal

pub returns : goal.returns
returns c =
    on_ok_same _ c.args.out.now.items _ _ _ (ir_bytes (map string_bytes c.args.lines.now))
    (on_ok_joined _ c.args.out.now.items _ _ c.push.new.out.items _ c.in_ok-push.ensures
    (on_ok_joined _ c.push.new.out.items _ _ c.push_texts.new.out.items _ c.in_ok-push_texts.ensures c.push-2.ensures))
