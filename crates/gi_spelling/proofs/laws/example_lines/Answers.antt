use Rattle.std.proofs.Common.{refl}
use Rattle.gi_mir.specs.Row.{opcode_of}
use Rattle.gi_spelling.proofs.laws.example_lines.Goals as goal

pub returns : goal.returns
unfolding opcode_of
returns c = record { opcode = refl; no_opcode = refl; passed = refl; copied = refl; unknown_type = refl; no_equals = refl }
