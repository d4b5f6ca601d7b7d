use Rattle.std.proofs.Common.{◌≡◌, ℕ, List, [], ◌∷◌, ◌++◌, length, take, refl, sym, ap, subst, ◌∙◌}
use Rattle.gi_mir.specs.Data.{InstrData}
use Rattle.gi_mir.specs.Edit.{block_at}
use Rattle.gi_mir.specs.Instrs.{left}
use Rattle.gi_valid.specs.Available.{is_physical_there}
use Rattle.gi_valid.specs.Faults.{is_used_first}
use Rattle.gi_valid.specs.Typing.{phase_of}
use Rattle.gi_verify.specs.Masks.{AreUsedBehind, IsMaskOf}
use Rattle.gi_verify.specs.Passed.{IsPassed}
use Rattle.gi_verify.specs.Sets.{IsTold}
use Rattle.gi_verify.proofs.Masking.{effects_length, there_first}
use Rattle.gi_verify.proofs.Ordering.{placed_at}
use Rattle.gi_verify.proofs.Splitting.{IsSplit, split_at}
use Rattle.gi_verify.proofs.Told.{AreToldTo, none_told, one_told, all_told}
use Rattle.gi_verify.proofs.site.tell_block.Goals as goal

pub loop-numbered-init : goal.loop-numbered-init
loop-numbered-init c =
    let all : List (ℕ × InstrData) = (block_at c.args.function.now c.args.b).instrs in (
      c.instrs-instrs.ensures,
      subst (λ l. AreToldTo c.args.target.xlen (phase_of c.args.stage) c.args.function.now c.args.b all [] l c.args.told c.args.told) (sym c.instrs-instrs.ensures)
          (none_told c.args.target.xlen (phase_of c.args.stage) c.args.function.now c.args.b all c.args.told),
      c.nothing-passed.ensures,
      there_first c.args.function.now c.args.b all c.there_at_start-there.result c.there_at_start-there.ensures,
    )

pub used_at-used-requires-clause-here : goal.used_at-used-requires-clause-here
used_at-used-requires-clause-here c =
    (split_at (block_at c.args.function.now c.args.b).instrs c.loop-numbered.k c.in-Some.numbered.now (left c.next.new.self) (sym c.in-Some.ensures.steps ∙ c.loop-numbered.invariant.0)).within

pub used_at-used-requires-clause-used : goal.used_at-used-requires-clause-used
used_at-used-requires-clause-used c =
    subst (AreUsedBehind (block_at c.args.function.now c.args.b).instrs (length (block_at c.args.function.now c.args.b).instrs)) (sym c.as_slice-in-Some.ensures.value)
    (subst (λ n. AreUsedBehind (block_at c.args.function.now c.args.b).instrs n c.in_ok-behind.behind.items)
    (ap length c.as_slice.ensures.value ∙ effects_length (block_at c.args.function.now c.args.b).instrs c.in_ok-effects.effects.items c.in_ok-effects.ensures) c.in_ok-behind.ensures)

pub tell_site-requires-clause-placed : goal.tell_site-requires-clause-placed
tell_site-requires-clause-placed c =
    let all : List (ℕ × InstrData) = (block_at c.args.function.now c.args.b).instrs in
    let split : IsSplit all c.loop-numbered.k c.in-Some.numbered.now (left c.next.new.self) =
    split_at all c.loop-numbered.k c.in-Some.numbered.now (left c.next.new.self) (sym c.in-Some.ensures.steps ∙ c.loop-numbered.invariant.0) in
    placed_at c.args.function.now c.args.b all c.loop-numbered.k c.in-Some.numbered.now refl split.within split.here (left c.first-front.result) (c.first-front.ensures ∙ ap (take c.loop-numbered.k) c.instrs-instrs.ensures)

pub tell_site-requires-clause-there : goal.tell_site-requires-clause-there
tell_site-requires-clause-there c =
    subst (λ l. IsMaskOf (is_physical_there c.args.function.now c.args.b l) c.loop-numbered.there) (sym (c.first-front.ensures ∙ ap (take c.loop-numbered.k) c.instrs-instrs.ensures)) c.loop-numbered.invariant.3

pub tell_site-requires-clause-used : goal.tell_site-requires-clause-used
tell_site-requires-clause-used c =
    let all : List (ℕ × InstrData) = (block_at c.args.function.now c.args.b).instrs in
    let split : IsSplit all c.loop-numbered.k c.in-Some.numbered.now (left c.next.new.self) =
    split_at all c.loop-numbered.k c.in-Some.numbered.now (left c.next.new.self) (sym c.in-Some.ensures.steps ∙ c.loop-numbered.invariant.0) in
    subst (λ l. IsMaskOf (λ n. is_used_first n l) c.used_at-used.result) split.behind c.used_at-used.ensures

pub tell_site-requires-clause-passed : goal.tell_site-requires-clause-passed
tell_site-requires-clause-passed c =
    subst (λ l. IsPassed l c.loop-numbered.passed) (sym (c.first-front.ensures ∙ ap (take c.loop-numbered.k) c.instrs-instrs.ensures)) c.loop-numbered.invariant.2

pub there_with-there-requires-clause-here : goal.there_with-there-requires-clause-here
there_with-there-requires-clause-here c =
    (split_at (block_at c.args.function.now c.args.b).instrs c.loop-numbered.k c.in-Some.numbered.now (left c.next.new.self) (sym c.in-Some.ensures.steps ∙ c.loop-numbered.invariant.0)).within

pub there_with-there-requires-clause-there : goal.there_with-there-requires-clause-there
there_with-there-requires-clause-there c = c.loop-numbered.invariant.3

pub passed_with-passed-requires : goal.passed_with-passed-requires
passed_with-passed-requires c = record {
  passed = subst (λ l. IsPassed l c.loop-numbered.passed) (sym (c.first-front.ensures ∙ ap (take c.loop-numbered.k) c.instrs-instrs.ensures)) c.loop-numbered.invariant.2;
}

pub loop-numbered-preserved : goal.loop-numbered-preserved
loop-numbered-preserved c =
    let all : List (ℕ × InstrData) = (block_at c.args.function.now c.args.b).instrs in
    let k : ℕ = c.loop-numbered.k in
    let n : ℕ × InstrData = c.in-Some.numbered.now in
    let after : List (ℕ × InstrData) = left c.next.new.self in
    let split : IsSplit all k n after = split_at all k n after (sym c.in-Some.ensures.steps ∙ c.loop-numbered.invariant.0) in
    let front : left c.first-front.result ≡ take k all = c.first-front.ensures ∙ ap (take k) c.instrs-instrs.ensures in (
      sym split.behind,
      subst (λ l. AreToldTo c.args.target.xlen (phase_of c.args.stage) c.args.function.now c.args.b all l after c.args.told c.in_ok-lowest.lowest) (sym split.front)
          (one_told c.args.target.xlen (phase_of c.args.stage) c.args.function.now c.args.b all (take k all) n after c.args.told c.loop-numbered.lowest c.in_ok-lowest.lowest
          (subst (λ l. AreToldTo c.args.target.xlen (phase_of c.args.stage) c.args.function.now c.args.b all (take k all) l c.args.told c.loop-numbered.lowest) c.in-Some.ensures.steps c.loop-numbered.invariant.1)
          (subst (λ l. IsTold c.args.target.xlen (phase_of c.args.stage) c.args.function.now c.args.b l n after c.loop-numbered.lowest c.in_ok-lowest.lowest) front c.in_ok-lowest.ensures)),
      subst (λ l. IsPassed l c.passed_with-passed.result) (ap (λ l. l ++ n ∷ []) front ∙ sym split.front) c.passed_with-passed.ensures,
      c.there_with-there.ensures,
    )

pub returns : goal.returns
returns c =
    let all : List (ℕ × InstrData) = (block_at c.args.function.now c.args.b).instrs in
    all_told c.args.target.xlen (phase_of c.args.stage) c.args.function.now c.args.b all (take c.loop-numbered.k all) c.args.told c.loop-numbered.lowest
    (subst (λ l. AreToldTo c.args.target.xlen (phase_of c.args.stage) c.args.function.now c.args.b all (take c.loop-numbered.k all) l c.args.told c.loop-numbered.lowest) c.in_default.ensures.steps.0 c.loop-numbered.invariant.1)
