-- A register whose uses become those of another.
use Rattle.std.specs.Prelude.{ℕ, ◌+◌, max, ◌==◌, map, if◌then◌else◌}
use Rattle.std.specs.List.{list_any}
use Rattle.gi_mir.specs.Data.{InstrData, BlockData, FunctionData}
use Rattle.gi_mir.specs.Edit.{all_instrs, uses}
use Rattle.gi_mir.specs.declared.operand.Operand.{Operand}
use Rattle.gi_mir.specs.declared.operand.Operand.TheVariants.{Use}

-- each use of the old register is one of the new, and all else is as it was
abbrev pub operand_replaced : ℕ → ℕ → Operand → Operand
operand_replaced old new (Use r) = Use (record { 0 = if r.0 == old then new else r.0 })
operand_replaced old new x = x

abbrev pub instr_replaced : ℕ → ℕ → InstrData → InstrData
instr_replaced old new i = record i { operands = map (operand_replaced old new) i.operands }

abbrev pub entry_replaced : ℕ → ℕ → ℕ × InstrData → ℕ × InstrData
entry_replaced old new p = (p.0, instr_replaced old new p.1)

abbrev pub block_replaced : ℕ → ℕ → BlockData → BlockData
block_replaced old new b = record b { instrs = map (entry_replaced old new) b.instrs }

-- the new register counts as one that the function has had, if it comes in
abbrev pub with_reg_replaced : ℕ → ℕ → FunctionData → FunctionData
with_reg_replaced old new f =
    record f {
      blocks = map (block_replaced old new) f.blocks;
      next_reg = if list_any (uses old) (all_instrs f.blocks) then max f.next_reg (new + 1) else f.next_reg;
    }
