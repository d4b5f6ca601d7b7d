use Rattle.std.proofs.Common.{arith, rules}
use Rattle.gi_io.proofs.FoundFiles.{bytes_under_found}
use Rattle.gi_io.proofs.memory_source.find_file.Goals as goal

pub returns-then-eq-clause-found : goal.returns-then-eq-clause-found
returns-then-eq-clause-found c = bytes_under_found c.args.files.now c.loop-k.k c.index-files-k.result c.args.name.now (omega arith) c.index-files-k.is (search rules) c.loop-k.invariant
