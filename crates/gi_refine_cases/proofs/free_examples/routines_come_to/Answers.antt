use Rattle.gi_refine_cases.proofs.RoutineRuns.{quotient_comes_to, by_zero_returns, free_register_returns, kept_register_comes_to}
use Rattle.gi_refine_cases.proofs.free_examples.routines_come_to.Goals as goal

pub returns : goal.returns
returns c = record { quotient = quotient_comes_to; by_zero = by_zero_returns; left_free = free_register_returns; stays = kept_register_comes_to }
