use Rattle.std.proofs.Common.{◌≡◌, drop, length, take}
use Rattle.gi_mir.specs.Edit.{block_at}
use Rattle.gi_mir.specs.Instrs.{left}
use Rattle.gi_valid.specs.Available.{is_physical_there}
use Rattle.gi_valid.specs.Typing.{phase_of}
use Rattle.gi_verify.specs.Masks.{IsMaskOf}
use Rattle.gi_verify.specs.Passed.{IsPassed}
use Rattle.gi_verify.proofs.Told.{AreToldTo}
use Rattle.gi_verify.proofs.site.tell_block.Given as goal

abbrev pub invariant-loop-numbered : goal.invariant-loop-numbered
invariant-loop-numbered l =
    (left l.rest ≡ drop l.k (block_at l.function l.b).instrs)
    × AreToldTo l.target.xlen (phase_of l.stage) l.function l.b (block_at l.function l.b).instrs (take l.k (block_at l.function l.b).instrs) (left l.rest) l.fn.told l.lowest
    × IsPassed (take l.k (block_at l.function l.b).instrs) l.passed
    × IsMaskOf (is_physical_there l.function l.b (take l.k (block_at l.function l.b).instrs)) l.there

abbrev pub decreases-loop-numbered : goal.decreases-loop-numbered
decreases-loop-numbered l = length (left l.rest)
