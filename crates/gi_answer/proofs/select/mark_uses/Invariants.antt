use Rattle.std.proofs.Common.{◌≡◌, ℕ, ◌||◌, take}
use Rattle.std.specs.Ordering.{nat_cmp}
use Rattle.std.specs.BTreeSet.{contains}
use Rattle.std.specs.List.{list_any}
use Rattle.gi_mir.specs.Edit.{is_use_of}
use Rattle.gi_answer.proofs.select.mark_uses.Given as goal

abbrev pub invariant-loop-operand : goal.invariant-loop-operand
invariant-loop-operand l = (r : ℕ) → contains nat_cmp l.used r ≡ (list_any (is_use_of r) (take l.operand-index l.operands) || contains nat_cmp l.fn.used r)
