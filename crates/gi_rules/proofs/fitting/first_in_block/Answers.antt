use Rattle.std.proofs.Common.{◌≡◌, ◌++◌, ◌∷◌, [], ℕ, List, refl, ap, sym, subst, ◌∙◌, append_assoc, append-nil}
use Rattle.gi_mir.specs.Data.{InstrData}
use Rattle.gi_mir.specs.Edit.{block_at}
use Rattle.gi_mir.specs.Instrs.{left}
use Rattle.gi_rules.specs.Fitting.{IsTold, illegal_line, illegal_in_instrs, of_lower_line}
use Rattle.gi_rules.proofs.IllegalLines.{one_instr_more}
use Rattle.gi_rules.proofs.fitting.first_in_block.Goals as goal

pub loop-numbered-init : goal.loop-numbered-init
loop-numbered-init c = ([], ap left c.into_iter-numbered-iterator.ensures.into_iter_gives ∙ c.instrs-numbered-items.ensures, refl)

pub loop-numbered-preserved : goal.loop-numbered-preserved
loop-numbered-preserved c =
    let x = c.args.target.xlen in
    let f = c.args.function.now in
    let front : List (ℕ × InstrData) = c.loop-numbered.invariant.0 in (
      front ++ c.in-Some.numbered.now ∷ [],
      append_assoc front (c.in-Some.numbered.now ∷ []) (left c.next.new.self) ∙ ap (λ is. front ++ is) (sym c.in-Some.ensures.steps) ∙ c.loop-numbered.invariant.1,
      subst (IsTold (illegal_in_instrs x c.args.stage f (front ++ c.in-Some.numbered.now ∷ [])))
          (sym (c.of_lower_line-told.ensures ∙ ap (of_lower_line c.loop-numbered.told) (c.illegal_line.ensures ∙ ap (λ i. illegal_line x c.args.stage f i.1) c.numbered.view_is)))
          (one_instr_more x c.args.stage f front c.in-Some.numbered.now c.loop-numbered.told c.loop-numbered.invariant.2),
    )

pub returns : goal.returns
returns c =
    subst (λ is. IsTold (illegal_in_instrs c.args.target.xlen c.args.stage c.args.function.now is) c.loop-numbered.told)
    (sym (append-nil c.loop-numbered.invariant.0) ∙ ap (λ is. c.loop-numbered.invariant.0 ++ is) (sym c.in-None.ensures.steps.0) ∙ c.loop-numbered.invariant.1)
    c.loop-numbered.invariant.2
