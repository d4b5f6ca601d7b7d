use Rattle.std.proofs.Common.{◌≡◌, sym, subst, ap₂, ◌∙◌, ◌++◌, take, w64, FitsSigned, to_z, of_z, rules}
use Rattle.std.proofs.lemmas.Int.{to_z-of_z}
use Rattle.gi_riscv.specs.Materialised.{steps_in}
use Rattle.gi_riscv.specs.Steps.{Make}
use Rattle.gi_riscv.proofs.Making.{word_made}
use Rattle.gi_riscv.proofs.constants.materialise.Goals as goal

pub returns-clause-steps : goal.returns-clause-steps
returns-clause-steps c =
    let number = c.number_of.result in
    let number_fits : FitsSigned w64 number = search rules in
    let same : to_z w64 (of_z w64 number) ≡ number = to_z-of_z w64 number number_fits in
    c.append.ensures.steps
    ∙ ap₂ (λ n v. take n c.empty-sequence.result.steps ++ steps_in 3 c.args.target.xlen v) c.empty-sequence.ensures (same ∙ c.number_of.ensures.number)

pub returns-clause-made : goal.returns-clause-made
returns-clause-made c =
    subst (λ steps. Make c.args.target.xlen 0 steps c.args.word) (sym (returns-clause-steps c)) (word_made c.args.target.xlen c.args.word c.requires.xlen c.requires.fits)
