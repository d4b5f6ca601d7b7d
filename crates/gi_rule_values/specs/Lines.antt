-- Lists of operations of one result each, all of one width.
use Rattle.std.specs.Prelude.{ℕ}
use Rattle.gi_rule_values.specs.Data.{OperationData}
use Rattle.gi_rule_values.specs.Forms.{number, on_one, on_two, s}
use Rattle.gi_rule_values.specs.declared.building.Line.{Line}
use Rattle.gi_rule_values.specs.declared.building.Line.TheVariants.{Number, One, Two}

-- an operation of so many bits
abbrev pub on_line : (bits : ℕ) → Line → OperationData
on_line bits (Number value) = number bits value
on_line bits (One opcode a) = on_one opcode a (s bits)
on_line bits (Two opcode a b) = on_two opcode a b (s bits)
