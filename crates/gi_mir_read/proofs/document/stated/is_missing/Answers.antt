use Rattle.std.proofs.Common.{ap, ◌∙◌}
use Rattle.std.specs.Prelude.{is_none}
use Rattle.gi_mir_read.proofs.Documents.KeyLemmas.{missing_is}
use Rattle.gi_mir_read.proofs.document.stated.is_missing.Goals as goal

pub returns-in-Some : goal.returns-in-Some
returns-in-Some c = λ text sections are. ap is_none c.in-Some.ensures ∙ missing_is text sections c.args.firsts.now c.args.key are

pub returns-in-None : goal.returns-in-None
returns-in-None c = λ text sections are. ap is_none c.in-None.ensures ∙ missing_is text sections c.args.firsts.now c.args.key are
