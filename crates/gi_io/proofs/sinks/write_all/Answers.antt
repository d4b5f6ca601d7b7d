use Rattle.std.proofs.Common.{arith, IsTrue, rules}
use Rattle.std.proofs.lemmas.List.{take_all}
use Rattle.gi_io.proofs.Prefixes.{take_more_appended}
use Rattle.gi_io.proofs.sinks.write_all.Goals as goal

pub loop-done-preserved : goal.loop-done-preserved
loop-done-preserved g c = record {
  faults_never_fall = omega (arith, c.loop-done.invariant.faults_never_fall, c.in_ok-done.ensures.faults_never_fall);
  tells_stays = cc (c.loop-done.invariant.tells_stays, c.in_ok-done.ensures.tells_stays);
  tells_place_stays = cc (c.loop-done.invariant.tells_place_stays, c.in_ok-done.ensures.tells_place_stays);
  place_stays = cc (c.loop-done.invariant.place_stays, c.in_ok-done.ensures.place_stays);
  created_stays = cc (c.loop-done.invariant.created_stays, c.in_ok-done.ensures.created_stays);
  within = search rules;
  appended = λ told. let told_then : IsTrue (g.O.Output.tells c.loop-done.out) = rw c.loop-done.invariant.tells_stays told in take_more_appended _ _ _ _ _ _ (c.loop-done.invariant.appended told) (c.in_ok-done.ensures.appended told_then);
}

pub returns-clause-whole : goal.returns-clause-whole
returns-clause-whole g c = λ told. rw (← take_all c.loop-done.done c.args.bytes.now (omega arith)) (c.loop-done.invariant.appended told)
