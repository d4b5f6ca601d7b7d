use Rattle.std.proofs.Common.{◌≡◌, List, ℕ, Option, map, refl, ap, sym, subst, ◌∙◌, arith}
use Rattle.std.specs.Prelude.{Ok, string_bytes}
use Rattle.gi_top.specs.Stop.{Says, IsCause}
use Rattle.gi_answer.specs.Answers.{input_in}
use Rattle.gi_top.proofs.TopLemmas.{refuses, says_no_usage, says_read_fault}
use Rattle.gi_top.proofs.top.gisel.Goals as goal

pub returns-in-Err-text_for-clause-refused : goal.returns-in-Err-text_for-clause-refused
returns-in-Err-text_for-clause-refused g c = λ one tells.
    refuses (map string_bytes c.args.words.now) c.in-Ok.options _ c.in-Err-text_for.why c.end_with-in-Err-text_for.result _ c.in-Ok.ensures.ok
    (subst (λ (name : Option (List ℕ)). IsCause c.in-Ok.options (g.I.Input.stored c.args.input.now name) c.in-Err-text_for.why) (sym (ap input_in c.in-Ok.ensures.ok)) (c.in-Err-text_for.ensures.cause tells))
    c.end_with-in-Err-text_for.ensures.status one
    (c.end_with-in-Err-text_for.ensures.said (λ three. (let bad : 1 ≡ 3 = sym one ∙ three in omega (arith, bad))))

pub returns-in-Err-text_for-clause-usage : goal.returns-in-Err-text_for-clause-usage
returns-in-Err-text_for-clause-usage g c = λ two.
    says_no_usage c.in-Ok.options _ c.in-Err-text_for.why c.end_with-in-Err-text_for.result _ c.in-Ok.ensures.ok (c.in-Err-text_for.ensures.usage (Ok c.in-Ok.options) refl) c.end_with-in-Err-text_for.ensures.status two

pub returns-in-Err-text_for-clause-read_fault_said : goal.returns-in-Err-text_for-clause-read_fault_said
returns-in-Err-text_for-clause-read_fault_said g c = λ four tells.
    says_read_fault c.in-Ok.options c.in-Err-text_for.why c.end_with-in-Err-text_for.result
    (λ message. Says message (g.E.Output.faults c.args.err.now) (g.E.Output.faults c.end_with-in-Err-text_for.new.err) (g.E.Output.held c.args.err.now) (g.E.Output.held c.end_with-in-Err-text_for.new.err))
    (c.in-Err-text_for.ensures.usage (Ok c.in-Ok.options) refl) c.end_with-in-Err-text_for.ensures.status four
    (c.end_with-in-Err-text_for.ensures.said (λ three. (let bad : 4 ≡ 3 = sym four ∙ three in omega (arith, bad))) tells)
