use Rattle.std.proofs.Common.{◌≡◌, ◌*◌, ◌≤◌, sum_by, take}
use Rattle.gi_cc.specs.Assigned.{words_of}
use Rattle.gi_cc.proofs.word_count.Given as goal

abbrev pub invariant-loop-arg : goal.invariant-loop-arg
invariant-loop-arg l = record {
  words : l.count ≡ sum_by (words_of l.target.xlen) (take l.arg-index l.args);
  few : l.count ≤ 2 * l.arg-index;
}
