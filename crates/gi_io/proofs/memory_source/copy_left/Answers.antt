use Rattle.std.proofs.Common.{arith}
use Rattle.gi_io.proofs.Prefixes.{front_copied}
use Rattle.gi_io.proofs.memory_source.copy_left.Goals as goal

pub returns-clause-front : goal.returns-clause-front
returns-clause-front c = front_copied c.args.bytes.now c.copy_from_slice.new.self _ c.args.taken c.min-count.result (omega arith) c.copy_from_slice.ensures.after
