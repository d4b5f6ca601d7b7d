use Rattle.std.proofs.Common.{refl}
use Rattle.std.specs.Prelude.{◌==◌, not}
use Rattle.gi_mir_read.proofs.RunCuts.{run_before, run_whole}
use Rattle.gi_mir_read.proofs.text.line_bytes.without_comment.Goals as goal

pub returns-in-Some : goal.returns-in-Some
returns-in-Some c = run_before (λ byte. byte == 59) (λ byte. not (byte == 59)) (λ byte. refl) c.args.line.now c.in-Some.place c.in-Some.ensures.place

pub returns-in-None : goal.returns-in-None
returns-in-None c = run_whole (λ byte. byte == 59) (λ byte. not (byte == 59)) (λ byte. refl) c.args.line.now c.in-None.ensures.place
