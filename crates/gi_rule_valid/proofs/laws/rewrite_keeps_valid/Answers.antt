use Rattle.gi_rule_valid.proofs.Valid.{keeping, stays_valid_at}
use Rattle.gi_rule_valid.proofs.laws.rewrite_keeps_valid.Goals as goal

pub returns : goal.returns
returns c = λ x phase f id u types keeps valid own had live fits.
    stays_valid_at x phase f id u types (record { valid = valid; own = own; had = had; live = live; fits = fits; keeps = keeping x phase u.rewrite keeps })
