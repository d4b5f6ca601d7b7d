use Rattle.std.proofs.Common.{◌≡◌, List, [], ◌∷◌, refl}
use Rattle.gi_mir.specs.Data.{reg_of}
use Rattle.gi_mir.specs.declared.operand.Flags.{Flags}
use Rattle.gi_mir.specs.declared.operand.Reg.{Reg}
use Rattle.gi_rule_values.specs.Data.{RewriteData}
use Rattle.gi_rule_values.specs.Widening.{widen_add}
use Rattle.gi_rule_use.specs.Making.{new_count, numbers_of}
use Rattle.gi_rule_tests.proofs.uses.widened.Goals as goal

count_is : (r : RewriteData) (xs ys : List Reg) (flags : Flags) → r ≡ widen_add flags 8 32 → xs ≡ reg_of 0 ∷ reg_of 1 ∷ [] → ys ≡ reg_of 2 ∷ []
    → new_count (record { rewrite = r; inputs = numbers_of xs; results = numbers_of ys }) ≡ 3
count_is r xs ys flags a b c = rw (a, b, c) refl

pub returns-clause-count : goal.returns-clause-count
returns-clause-count c = count_is c.in_ok-widen_add.field-0 c.in_ok-registers.field-0.items c.in_ok-registers-2.field-0.items c.default.result c.in_ok-widen_add.ensures c.in_ok-registers.ensures c.in_ok-registers-2.ensures

pub returns-clause-formed : goal.returns-clause-formed
returns-clause-formed c = rw c.in_ok-widen_add.ensures (c.rows_are_formed.ensures.widen_add c.default.result 8 32)
