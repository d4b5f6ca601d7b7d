use Rattle.gi_riscv.proofs.constants.+append.Given as goal

abbrev pub decreases-append : goal.decreases-append
decreases-append l = l.rounds
