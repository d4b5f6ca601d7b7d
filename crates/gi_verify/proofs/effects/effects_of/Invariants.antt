use Rattle.std.proofs.Common.{◌≡◌, ℕ, drop, take}
use Rattle.gi_mir.specs.Edit.{block_at}
use Rattle.gi_mir.specs.Instrs.{left}
use Rattle.gi_verify.specs.Masks.{AreEffects}
use Rattle.gi_verify.proofs.effects.effects_of.Given as goal

-- those of the instructions passed
abbrev pub invariant-loop-numbered : goal.invariant-loop-numbered
invariant-loop-numbered l =
    (k : ℕ) × (left l.numbered-iterator ≡ drop k (block_at l.function l.b).instrs) × AreEffects (take k (block_at l.function l.b).instrs) l.effects.items
