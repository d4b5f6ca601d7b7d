use Rattle.std.proofs.Common.{◌≡◌, ◌+◌, ◌≤◌, List, Bool, arith, rules, subst, sym}
use Rattle.gi_mir.specs.Data.{FunctionData}
use Rattle.gi_verify.specs.Rounds.{IsCoverOf, RoundData}
use Rattle.gi_verify.proofs.Covering.{fewer_covered, round_covered}
use Rattle.gi_verify.proofs.cover.look_in_rounds.Goals.{else-loop-test, then-loop-test+then-count-round, then-loop-test+else-count-round+in_ok-round-inside+in_ok-look+then-not-branch}
use Rattle.gi_verify.proofs.cover.look_in_rounds.Goals as goal

abbrev covered_by : FunctionData → List Bool → RoundData → Type 0
covered_by f fine round = IsCoverOf f (record { keys = round.keys; limit = round.first; fine = fine })

pub loop-preserved : goal.loop-preserved
loop-preserved c =
    let round : RoundData = record { keys = c.round.inside.keys; first = c.round.inside.first; origins = c.in_ok-round-inside.field-0.items } in
    let few : c.saturating_add.result ≤ round.first + 64 = omega arith in
    let before : IsCoverOf c.args.function.now (record { keys = round.keys; limit = round.first; fine = c.loop.fine.items }) = subst (covered_by c.args.function.now c.loop.fine.items) (sym c.round.view_is) c.loop.invariant in
    round_covered c.args.function.now round c.loop.fine.items c.look.new.fine.items c.saturating_add.result few before c.in_ok-look.ensures.shrunk (c.in_ok-look.ensures.sure c.if-not-branch.false)

pub returns : goal.returns
returns c =
    let all : covered_by c.args.function.now c.loop-test.fine.items c.loop-test.round =
    elim c.loop-test.branch [
      | else-loop-test w ↦ subst (covered_by c.args.function.now c.loop-test.fine.items) (sym w.round-is) (subst (λ l. covered_by c.args.function.now l c.loop.round) (search rules) c.loop.invariant)
      | then-loop-test+then-count-round w ↦ subst (covered_by c.args.function.now c.loop-test.fine.items) (sym w.round-is) (subst (λ l. covered_by c.args.function.now l c.loop.round) (search rules) c.loop.invariant)
      | then-loop-test+else-count-round+in_ok-round-inside+in_ok-look+then-not-branch w ↦
          let same : w.look.new.fine.items ≡ c.loop-test.fine.items = search rules in
          subst (λ l. covered_by c.args.function.now l c.loop-test.round) same
          (fewer_covered c.args.function.now c.loop-test.round.keys c.loop-test.round.first c.loop.fine.items w.look.new.fine.items w.in_ok-look.ensures.shrunk (search rules))
    ] in
    subst (covered_by c.args.function.now c.loop-test.fine.items) (sym c.round-2.view_is) all
