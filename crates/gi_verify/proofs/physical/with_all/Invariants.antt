use Rattle.std.proofs.Common.{◌||◌, take}
use Rattle.gi_meaning.specs.Runs.{is_among}
use Rattle.gi_verify.specs.Masks.{has, IsMaskOf}
use Rattle.gi_verify.proofs.physical.with_all.Given as goal

-- those passed are in it
abbrev pub invariant-loop-n : goal.invariant-loop-n
invariant-loop-n l = IsMaskOf (λ n. has l.fn.mask n || is_among n (take l.n-index l.registers)) l.all
