use Rattle.std.proofs.Common.{◌≡◌, ◌+◌, map, sum_by, take}
use Rattle.gi_cc.specs.Assigned.{in_eight_places, registers_from, words_of}
use Rattle.gi_cc.proofs.plan_for.Given as goal

-- the plan for the arguments so far, but for their count
abbrev pub invariant-loop-place : goal.invariant-loop-place
invariant-loop-place l = record {
  first : l.plan.first ≡ in_eight_places (registers_from l.target.xlen 10 (take l.place l.args));
  words : l.plan.words ≡ in_eight_places (map (words_of l.target.xlen) (take l.place l.args));
  next : l.next ≡ 10 + sum_by (words_of l.target.xlen) (take l.place l.args);
}
