use Rattle.gi_mir.proofs.TypingLaws.{result_alone, source_alone}
use Rattle.gi_mir.proofs.accepted.accepted_alone.Goals as goal

pub returns-clause-results : goal.returns-clause-results
returns-clause-results c = λ x results sources place ty. result_alone x c.args.op results sources place ty

pub returns-clause-sources : goal.returns-clause-sources
returns-clause-sources c = λ x results sources place ty. source_alone x c.args.op results sources place ty
