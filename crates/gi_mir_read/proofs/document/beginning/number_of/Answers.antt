use Rattle.std.proofs.lemmas.Str.{IsUtf8-from_is_utf8}
use Rattle.gi_resolve.proofs.NamingLemmas.{number-named}
use Rattle.gi_mir_read.proofs.document.beginning.number_of.Goals as goal

pub returns-in-Ok-clause-named : goal.returns-in-Ok-clause-named
returns-in-Ok-clause-named c =
    number-named c.args.names.now c.number.new.self c.in-Ok.name.now c.args.name.now c.number.result c.in-Ok.ensures.cases.0 c.number.ensures.ok c.number.ensures.number

pub returns-in-Err-clause-named : goal.returns-in-Err-clause-named
returns-in-Err-clause-named c = λ text. absurd (c.in-Err.ensures.cases.0 (IsUtf8-from_is_utf8 c.args.name.now text))
