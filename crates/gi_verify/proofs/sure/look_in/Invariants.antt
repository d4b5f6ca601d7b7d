use Rattle.std.proofs.Common.{◌≡◌, ℕ, drop, take}
use Rattle.gi_mir.specs.Edit.{block_at}
use Rattle.gi_mir.specs.Instrs.{left}
use Rattle.gi_verify.specs.Rounds.{AreSureTo, IsChange, IsShrunk}
use Rattle.gi_verify.proofs.sure.look_in.Given as goal

-- those passed
abbrev pub invariant-loop-numbered : goal.invariant-loop-numbered
invariant-loop-numbered l =
    (k : ℕ)
    × (left l.numbered-iterator ≡ drop k (block_at l.function l.b).instrs)
    × IsChange l.round (take k (block_at l.function l.b).instrs) l.change
    × AreSureTo l.function l.round l.fine.items l.b k
    × IsShrunk l.fn.fine.items l.fine.items
