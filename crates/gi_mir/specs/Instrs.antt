-- The instructions that an iterator over a block still gives.
use Rattle.std.specs.Prelude.{ℕ, List}
use Rattle.gi_mir.specs.Arena.{chain}
use Rattle.gi_mir.specs.Data.{InstrData}
use Rattle.gi_mir.specs.declared.instrs.Instrs.{Instrs}

unfoldable pub left : Instrs → List (ℕ × InstrData)
left it = chain it.slots.now it.count it.next
