use Rattle.gi_rule_values.proofs.ByNumbers.{sound_by_numbers}
use Rattle.gi_rule_valid.proofs.Valid.{IsUse, keeping, stays_valid_at}
use Rattle.gi_rule_refines.proofs.Refined.{giving, use_refines}
use Rattle.gi_rule_refines.proofs.laws.sound_rewrite_refines.Goals as goal

pub returns : goal.returns
returns c = λ x phase names f id u types keeps gives sound valid own had fit live fits.
    let use_is : IsUse x phase f id u = record { valid = valid; own = own; had = had; live = live; fits = fits; keeps = keeping x phase u.rewrite keeps } in (
      stays_valid_at x phase f id u types use_is,
      use_refines x phase names f id u (record { use_is = use_is; gives = giving u.rewrite gives; sound = λ w is_world. sound_by_numbers x names w u.rewrite (sound.by names w is_world); fit = fit }),
    )
