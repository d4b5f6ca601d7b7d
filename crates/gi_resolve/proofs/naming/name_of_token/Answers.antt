use Rattle.std.proofs.Common.{sym, subst}
use Rattle.std.specs.Str.{IsUtf8}
use Rattle.gi_resolve.proofs.NamingLemmas.{word-utf8}
use Rattle.gi_resolve.proofs.naming.name_of_token.Goals as goal

pub returns-in-Err : goal.returns-in-Err
returns-in-Err c = absurd (c.in-Err.ensures.cases.0 (subst IsUtf8 (sym c.front_word.ensures) (word-utf8 c.behind_place.result.now)))
