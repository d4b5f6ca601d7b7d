use Rattle.std.proofs.Common.{◌≡◌, ◌+◌, ◌-◌, ◌*◌, ◌^◌, ◌<◌}
use Rattle.gi_meaning.specs.Generic.{reversed_bytes}
use Rattle.gi_meaning.proofs.counts.reversed_bytes.Given as goal

abbrev pub invariant-loop-i : goal.invariant-loop-i
invariant-loop-i l = record { value : l.reversed * 256 ^ (l.bytes - l._i) + reversed_bytes (l.bytes - l._i) l.rest ≡ reversed_bytes l.bytes l.a; bound : l.reversed < 256 ^ l._i }
