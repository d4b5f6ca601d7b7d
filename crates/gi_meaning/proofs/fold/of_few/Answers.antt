use Rattle.std.proofs.Common.{arith, ap, sym, ◌∙◌, ◌≡◌, ◌∷◌, [], length}
use Rattle.gi_llt.specs.Llt.{width_of}
use Rattle.gi_meaning.specs.Fold.{gives_of}
use Rattle.gi_meaning.specs.Meaning.{meaning_of}
use Rattle.gi_meaning.proofs.Few.{few_lengths, one_register, two_alike_values}
use Rattle.gi_meaning.proofs.fold.of_few.Goals as goal

pub of_one-requires-clause-value : goal.of_one-requires-clause-value
of_one-requires-clause-value c =
    let one : length c.args.values.now ≡ 1 = omega arith in (one_register c.args.target.xlen c.args.types.now c.args.values.now _ c.requires.fit one).value

pub returns-in-len1 : goal.returns-in-len1
returns-in-len1 c =
    let one : length c.args.values.now ≡ 1 = omega arith in
    c.of_one.ensures ∙ ap (gives_of (meaning_of c.args.flags c.args.op) (width_of c.args.target.xlen c.args.outcome ∷ []))
    (sym (one_register c.args.target.xlen c.args.types.now c.args.values.now _ c.requires.fit one).same)

pub of_two-requires-clause-a_value : goal.of_two-requires-clause-a_value
of_two-requires-clause-a_value c =
    let two : length c.args.types.now ≡ 2 =
    omega (arith, few_lengths c.args.target.xlen c.args.op c.args.outcome c.args.types.now c.args.values.now c.requires.computed c.requires.few c.requires.accepted c.requires.fit) in
    (two_alike_values c.args.target.xlen c.args.op c.args.outcome c.args.types.now c.args.values.now c.requires.xlen c.requires.computed c.requires.few c.requires.any c.requires.accepted c.requires.fit two).a_value

pub of_two-requires-clause-b_fits : goal.of_two-requires-clause-b_fits
of_two-requires-clause-b_fits c =
    let two : length c.args.types.now ≡ 2 =
    omega (arith, few_lengths c.args.target.xlen c.args.op c.args.outcome c.args.types.now c.args.values.now c.requires.computed c.requires.few c.requires.accepted c.requires.fit) in
    (two_alike_values c.args.target.xlen c.args.op c.args.outcome c.args.types.now c.args.values.now c.requires.xlen c.requires.computed c.requires.few c.requires.any c.requires.accepted c.requires.fit two).b_fits

pub returns-in-len2 : goal.returns-in-len2
returns-in-len2 c =
    let two : length c.args.types.now ≡ 2 =
    omega (arith, few_lengths c.args.target.xlen c.args.op c.args.outcome c.args.types.now c.args.values.now c.requires.computed c.requires.few c.requires.accepted c.requires.fit) in
    c.of_two.ensures ∙ ap (gives_of (meaning_of c.args.flags c.args.op) (width_of c.args.target.xlen c.args.outcome ∷ []))
    (sym (two_alike_values c.args.target.xlen c.args.op c.args.outcome c.args.types.now c.args.values.now c.requires.xlen c.requires.computed c.requires.few c.requires.any c.requires.accepted c.requires.fit two).same)
