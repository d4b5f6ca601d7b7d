-- What an operation accepts, by its own lists.
use Rattle.std.specs.Prelude.{ℕ, Bool, ◌&&◌, List, Some, length, map, slice_get}
use Rattle.gi_llt.specs.declared.Llt.{Llt}
use Rattle.gi_meaning.specs.InRow.{results_in, sources_in}
use Rattle.gi_mir.specs.Accepted.{is_result_type, is_source_type}
use Rattle.gi_rule_values.specs.Data.{OperationData}
use Rattle.gi_rule_valid.specs.Keeping.{place_operand}
use Rattle.gi_rule_refines.specs.Stages.{each_passes}

-- the types of its results, of what its slots define, and of what they read
abbrev pub accepts_each : (x : ℕ) → (types : List Llt) → OperationData → Bool
accepts_each x types o =
    each_passes (is_result_type x o.op) 0 (map (λ ty. Some ty) o.types)
    && each_passes (is_result_type x o.op) (length o.types) (map (slice_get types) (results_in (map place_operand o.slots)))
    && each_passes (is_source_type x o.op) 0 (map (slice_get types) (sources_in (map place_operand o.slots)))
