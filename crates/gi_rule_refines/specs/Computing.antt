-- A test of a rewrite's own list: it computes, whatever its flags are.
use Rattle.std.specs.Prelude.{Bool, ◌&&◌}
use Rattle.std.specs.List.{list_all}
use Rattle.gi_meaning.specs.Meaning.{meaning_of}
use Rattle.gi_valid.specs.Facts.{is_computing}
use Rattle.gi_rule_values.specs.Data.{OperationData, RewriteData}

-- results from arguments alone
abbrev pub gives : OperationData → Bool
gives o = is_computing (meaning_of o.flags o.op)

-- the root, each definition, and all that is made
abbrev pub gives_all : RewriteData → Bool
gives_all r = gives r.root && list_all (λ d. gives d.operation) r.definitions && list_all gives r.made
