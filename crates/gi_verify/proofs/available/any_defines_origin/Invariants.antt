use Rattle.std.proofs.Common.{◌≡◌}
use Rattle.std.specs.List.{list_any}
use Rattle.gi_mir.specs.Instrs.{left}
use Rattle.gi_valid.specs.Available.{defines_origin}
use Rattle.gi_verify.specs.Sets.{listed}
use Rattle.gi_verify.proofs.available.any_defines_origin.Given as goal

abbrev pub invariant-loop-numbered : goal.invariant-loop-numbered
invariant-loop-numbered l = list_any (defines_origin (listed l.own)) (left l.instrs) ≡ list_any (defines_origin (listed l.own)) (left l.numbered-iterator)
