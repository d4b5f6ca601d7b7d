use Rattle.std.proofs.Common.{◌≡◌, ◌++◌, ◌∷◌, [], ℕ, true, cond, List, take, ap, sym, ◌∙◌, append_assoc, append-nil}
use Rattle.gi_meaning.specs.Runs.{is_phi, phis_of}
use Rattle.gi_mir.specs.Data.{InstrData}
use Rattle.gi_mir.specs.Instrs.{left}
use Rattle.gi_verify.proofs.Splitting.{IsSplit, split_at}
use Rattle.gi_verify.proofs.available.phi_count.Goals as goal

one_phi : (n : ℕ × InstrData) (after : List (ℕ × InstrData)) → is_phi n.1 ≡ true → phis_of (n ∷ after) ≡ n ∷ phis_of after
one_phi n after h = ap (λ t. cond t (n ∷ phis_of after) []) h

pub loop-numbered-preserved : goal.loop-numbered-preserved
loop-numbered-preserved c =
    let all : List (ℕ × InstrData) = left c.args.instrs in
    let k : ℕ = c.loop-numbered.count in
    let n : ℕ × InstrData = c.in-Some.numbered.now in
    let after : List (ℕ × InstrData) = left c.next.new.self in
    let split : IsSplit all k n after = split_at all k n after (sym c.in-Some.ensures.steps ∙ c.loop-numbered.invariant.1) in (
      c.loop-numbered.invariant.0 ∙ ap (λ l. take k all ++ phis_of l) c.in-Some.ensures.steps ∙ ap (λ l. take k all ++ l) (one_phi n after (ap (λ (j : ℕ × InstrData). is_phi j.1) (sym c.numbered.view_is) ∙ sym c.is_phi.ensures ∙ c.if-not-is_phi.false))
          ∙ sym (append_assoc (take k all) (n ∷ []) (phis_of after)) ∙ ap (λ l. l ++ phis_of after) (sym split.front),
      sym split.behind,
    )

pub returns : goal.returns
returns c =
    let all : List (ℕ × InstrData) = left c.args.instrs in
    sym (append-nil (take c.loop-numbered.count all)) ∙ ap (λ l. take c.loop-numbered.count all ++ phis_of l) (sym c.in-None.ensures.steps.0) ∙ sym c.loop-numbered.invariant.0
