use Rattle.std.proofs.Common.{◌<◌, false, set, ap, ◌∙◌, arith}
use Rattle.std.proofs.lemmas.List.Sums.{sum_by_more}
use Rattle.gi_llt.specs.declared.Arg.{Arg}
use Rattle.gi_llt.specs.declared.Ext.TheVariants.{Any}
use Rattle.gi_cc.specs.Assigned.{words_of}
use Rattle.gi_cc.proofs.Plans.{a_word_each, first_more, words_more}
use Rattle.gi_cc.proofs.plan_for.Goals as goal

pub bounds-plan-place : goal.bounds-plan-place
bounds-plan-place c = omega (arith, a_word_each c.args.target.xlen c.args.args.now)

pub bounds-plan-place-in-loop-place : goal.bounds-plan-place-in-loop-place
bounds-plan-place-in-loop-place c = omega (arith, a_word_each c.args.target.xlen c.args.args.now)

abbrev no_argument : Arg
no_argument = record { bits = 0; pointer = false; ext = Any }

pub loop-place-preserved : goal.loop-place-preserved
loop-place-preserved c =
    let few : c.loop-place.place < 8 = omega (arith, a_word_each c.args.target.xlen c.args.args.now) in
    record {
      first = ap (λ first. set first c.loop-place.place c.loop-place.next) c.loop-place.invariant.first
          ∙ first_more c.args.target.xlen c.loop-place.place c.loop-place.next c.args.args.now no_argument c.loop-place-test.true few c.loop-place.invariant.next;
      words = ap (λ words. set words c.loop-place.place c.words_of-words.result) c.loop-place.invariant.words
          ∙ words_more c.args.target.xlen c.loop-place.place c.words_of-words.result c.args.args.now no_argument c.loop-place-test.true few c.words_of-words.ensures.words;
      next = omega (arith, c.words_of-words.ensures.words, c.loop-place.invariant.next, sum_by_more (words_of c.args.target.xlen) c.args.args.now c.loop-place.place no_argument c.loop-place-test.true);
    }

pub overflow_cast-plan : goal.overflow_cast-plan
overflow_cast-plan c = omega (arith, a_word_each c.args.target.xlen c.args.args.now)
