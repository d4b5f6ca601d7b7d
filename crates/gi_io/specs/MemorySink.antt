-- A sink in memory.
use Rattle.std.specs.Prelude.{ℕ, ◌-◌, List, Bool, true, not, Option, length, min, max, nat_le, nat_lt, ◌||◌, ◌&&◌}
use Rattle.std.specs.Option.{option_eq}
use Rattle.std.specs.Str.{bytes_eq}
use Rattle.gi_io.specs.Calls.{call_after, fault_after, is_made_to_fail}

pub record MemorySink : Type 0 where
  pub place : Option (List ℕ)
  pub piece : ℕ
  pub room : ℕ
  pub fail : List ℕ
  pub calls : ℕ
  pub faults : ℕ
  pub held : List ℕ
  pub created : Bool

abbrev pub is_at_place : MemorySink → Option (List ℕ) → Bool
is_at_place sink name = option_eq bytes_eq sink.place name

abbrev pub create_fails : MemorySink → Option (List ℕ) → Bool
create_fails sink name = is_made_to_fail sink.fail sink.calls || not (is_at_place sink name)

-- some bytes are to be written, and there is no room
abbrev pub is_full_for : MemorySink → List ℕ → Bool
is_full_for sink bytes = nat_lt 0 (length bytes) && nat_le sink.room (length sink.held)

abbrev pub write_fails : MemorySink → List ℕ → Bool
write_fails sink bytes = is_made_to_fail sink.fail sink.calls || is_full_for sink bytes

-- how many bytes a write takes: a piece of at least 1, as far as there is room
abbrev pub taken_of : MemorySink → List ℕ → ℕ
taken_of sink bytes = min (length bytes) (min (max sink.piece 1) (sink.room - length sink.held))

-- once `create` was called on it
abbrev pub created_sink : MemorySink → MemorySink
created_sink sink = record sink { created = true }

-- after a call that leaves these bytes
abbrev pub sink_with : MemorySink → List ℕ → MemorySink
sink_with sink held = record sink { calls = call_after sink.calls; held = held }

-- after a call that failed
abbrev pub failed_sink : MemorySink → MemorySink
failed_sink sink = record sink { calls = call_after sink.calls; faults = fault_after sink.faults }
