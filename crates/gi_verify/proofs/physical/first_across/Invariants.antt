use Rattle.gi_mir.specs.Instrs.{left}
use Rattle.std.proofs.Common.{◌≡◌, ◌-◌, find}
use Rattle.std.specs.List.{range_with_len}
use Rattle.gi_valid.specs.Faults.{goes_across}
use Rattle.gi_verify.proofs.physical.first_across.Given as goal

-- none of the registers passed is one
abbrev pub invariant-loop-n : goal.invariant-loop-n
invariant-loop-n l =
    find (goes_across l.function (record { block = l.b; before = left l.front; instr = l.numbered.1; after = left l.after })) (range_with_len 0 l.end)
    ≡ find (goes_across l.function (record { block = l.b; before = left l.front; instr = l.numbered.1; after = left l.after })) (range_with_len l.n (l.end - l.n))
