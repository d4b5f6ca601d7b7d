use Rattle.std.proofs.Common.{◌≡◌, true, rules, subst}
use Rattle.std.specs.List.{list_all}
use Rattle.gi_mir.specs.Formed.{is_in_range}
use Rattle.gi_verify.proofs.Masking.{formed_in_range}
use Rattle.gi_verify.proofs.uses.missing_use.Goals as goal

pub missing_among-requires-clause-range : goal.missing_among-requires-clause-range
missing_among-requires-clause-range c =
    let same : c.numbered.inside.instr.operands ≡ c.as_slice.result.now = search rules in
    subst (λ l. list_all is_in_range l ≡ true) same (formed_in_range c.numbered.inside.instr c.numbered.invariant)
