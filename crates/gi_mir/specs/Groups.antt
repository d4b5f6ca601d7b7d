-- The groups of opcodes by whose words they are looked for.
use Rattle.std.specs.Prelude.{ℕ, List, [], map, slice_index_or}
use Rattle.gi_mir.specs.declared.opcode.Opcode.{Opcode}
use Rattle.gi_mir.specs.declared.row.TheConstants.{GROUPS}

unfoldable pub group_at : ℕ → List Opcode
group_at number = slice_index_or (map (λ ops. ops.now) GROUPS) number []
