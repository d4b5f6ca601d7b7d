use Rattle.gi_riscv.proofs.Addresses.{address_made, global_made}
use Rattle.gi_riscv.proofs.laws.address_is_made.Goals as goal

pub returns-clause-address : goal.returns-clause-address
returns-clause-address c = address_made

pub returns-clause-global : goal.returns-clause-global
returns-clause-global c = global_made
