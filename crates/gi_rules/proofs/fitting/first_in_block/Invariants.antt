use Rattle.std.proofs.Common.{◌≡◌, ◌++◌, ℕ, List}
use Rattle.gi_mir.specs.Data.{InstrData}
use Rattle.gi_mir.specs.Edit.{block_at}
use Rattle.gi_mir.specs.Instrs.{left}
use Rattle.gi_rules.specs.Fitting.{IsTold, illegal_in_instrs}
use Rattle.gi_rules.proofs.fitting.first_in_block.Given as goal

-- what is told of those in front
abbrev pub invariant-loop-numbered : goal.invariant-loop-numbered
invariant-loop-numbered l =
    (front : List (ℕ × InstrData)) × (front ++ left l.numbered-iterator ≡ (block_at l.function l.block).instrs) × IsTold (illegal_in_instrs l.target.xlen l.stage l.function front) l.told
