-- A function with other numbers for its virtual registers.
use Rattle.std.specs.Prelude.{◌≡◌, ℕ, map}
use Rattle.gi_mir.specs.Data.{InstrData, BlockData, FunctionData}
use Rattle.gi_mir.specs.declared.operand.Operand.{Operand}
use Rattle.gi_mir.specs.declared.operand.Operand.TheVariants.{Def, Use}

-- different numbers stay different
pub record IsInjective (number : ℕ → ℕ) : Type 0 where
  pub apart : (a b : ℕ) → number a ≡ number b → a ≡ b

abbrev pub renamed_operand : (ℕ → ℕ) → Operand → Operand
renamed_operand number (Def r k) = Def (record { 0 = number r.0 }) k
renamed_operand number (Use r) = Use (record { 0 = number r.0 })
renamed_operand number other = other

abbrev pub renamed_instr : (ℕ → ℕ) → InstrData → InstrData
renamed_instr number i = record i { operands = map (renamed_operand number) i.operands }

abbrev pub renamed_pair : (ℕ → ℕ) → ℕ × InstrData → ℕ × InstrData
renamed_pair number i = (i.0, renamed_instr number i.1)

abbrev pub renamed_block : (ℕ → ℕ) → BlockData → BlockData
renamed_block number b = record b { instrs = map (renamed_pair number) b.instrs }

abbrev pub renamed : (ℕ → ℕ) → FunctionData → FunctionData
renamed number f = record f { blocks = map (renamed_block number) f.blocks }
