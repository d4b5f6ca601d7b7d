use Rattle.std.proofs.Common.{◌≡◌, None, rules, sym, ◌∙◌}
use Rattle.std.proofs.lemmas.Result.{IfOk-weaker}
use Rattle.gi_answer.specs.Answers.{IsAnswer, IsTextOf}
use Rattle.gi_answer.specs.Promise.{IsCompiled}
use Rattle.gi_answer.specs.Unrun.{selects, unbuilt}
use Rattle.gi_answer.proofs.AnswerLemmas.{its_answer, its_selectable, its_text_compiles}
use Rattle.gi_answer.proofs.answering.passed.Goals as goal

pub text_of-requires : goal.text_of-requires
text_of-requires c = λ so.
    let built : unbuilt c.args.start c.args.options.now.stop c.args.machine c.args.m.functions ≡ None = search rules in
    let same : c.selects.result ≡ selects c.args.start c.args.options.now.stop c.args.machine = search rules in
    its_selectable c.args.options.now c.args.text.now c.args.start c.args.machine c.args.m c.requires.passes built (sym same ∙ so)

pub returns-clause-compiled : goal.returns-clause-compiled
returns-clause-compiled c =
    let built : unbuilt c.args.start c.args.options.now.stop c.args.machine c.args.m.functions ≡ None = search rules in
    let same : c.selects.result ≡ selects c.args.start c.args.options.now.stop c.args.machine = search rules in
    IfOk-weaker c.text_of.result (λ text. IsTextOf c.selects.result c.args.m text.items) (λ written. IsCompiled c.args.options.now c.args.text.now written.items)
    (λ text is. its_text_compiles c.args.options.now c.args.text.now text.items c.args.start c.args.machine c.args.m c.requires.passes built c.selects.result same is) c.text_of.ensures.text

pub returns-clause-answer : goal.returns-clause-answer
returns-clause-answer c =
    let built : unbuilt c.args.start c.args.options.now.stop c.args.machine c.args.m.functions ≡ None = search rules in
    let same : c.selects.result ≡ selects c.args.start c.args.options.now.stop c.args.machine = search rules in
    IfOk-weaker c.text_of.result (λ text. IsTextOf c.selects.result c.args.m text.items) (λ written. IsAnswer c.args.options.now c.args.text.now written.items)
    (λ text is. its_answer c.args.options.now c.args.text.now text.items c.args.start c.args.machine c.args.m c.requires.within c.requires.passes built c.selects.result same is) c.text_of.ensures.text
