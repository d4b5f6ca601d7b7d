use Rattle.std.proofs.Common.{◌≡◌, ◌++◌, drop}
use Rattle.gi_meaning.specs.Generic.{parts_of}
use Rattle.gi_meaning.proofs.parts.parts_of.Given as goal

abbrev pub invariant-loop-width : goal.invariant-loop-width
invariant-loop-width l = l.parts.items ++ parts_of (drop l.width-index l.widths) l.rest ≡ parts_of l.widths l.value
