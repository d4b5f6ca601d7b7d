use Rattle.std.proofs.Common.{◌≡◌, ◌∙◌, ◌++◌, IsTrue, ap, length, subst, sym}
use Rattle.std.proofs.Math.Seq.{take-length}
use Rattle.std.proofs.lemmas.Result.{on_err_weaker, on_ok_weaker}
use Rattle.gi_mir.specs.Data.{FunctionData}
use Rattle.gi_mir.specs.Uses.{with_reg_replaced}
use Rattle.gi_observe.specs.Replay.{IsReplay, replacements}
use Rattle.gi_observe.proofs.Replaying.{IsReplay-replaced}
use Rattle.gi_observe.proofs.editor.Editor.replace.Goals as goal

pub returns-clause-replay : goal.returns-clause-replay
returns-clause-replay g c =
    let f = c.args.self.now.function.now in
    let told = replacements f c.args.self.now.pass c.args.old.0 c.args.new.0 in
    on_ok_weaker c.replace_reg.result
    (λ (is : c.replace_reg.new.self ≡ with_reg_replaced c.args.old.0 c.args.new.0 f). subst (λ (h : FunctionData). IsReplay told f h) (sym is) (IsReplay-replaced f c.args.self.now.pass c.args.old.0 c.args.new.0 c.own_ids.ensures))
    c.replace_reg.ensures.ok

-- all was told before the first use was replaced
pub returns-clause-told_in_part : goal.returns-clause-told_in_part
returns-clause-told_in_part g c =
    let f = c.args.self.now.function.now in
    let told = replacements f c.args.self.now.pass c.args.old.0 c.args.new.0 in
    let before = g.O.ChangeObserver.seen c.args.self.now.observer.now in
    on_err_weaker c.replace_reg.result
    (λ (same : c.replace_reg.new.self ≡ f) (tells : IsTrue (g.O.ChangeObserver.tells c.args.self.now.observer.now)). record {
      told = length told;
      part = c.in_ok-tell_replacements.ensures.told tells ∙ ap (λ xs. before ++ xs) (sym (take-length told));
    })
    c.replace_reg.ensures.err
