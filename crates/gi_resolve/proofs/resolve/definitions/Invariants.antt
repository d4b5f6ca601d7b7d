use Rattle.std.proofs.Common.{◌≡◌, Some, take}
use Rattle.gi_spelling.specs.Resolved.{each, resolved_definition}
use Rattle.gi_resolve.proofs.resolve.definitions.Given as goal

-- those so far
abbrev pub invariant-loop-definition : goal.invariant-loop-definition
invariant-loop-definition l = each (resolved_definition l.tables.classes) (take l.definition-index l.written) ≡ Some l.operands.items
