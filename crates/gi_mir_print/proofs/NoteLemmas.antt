-- Notes on registers, one after the other.
use Rattle.std.proofs.Common.{◌≡◌, ℕ, ◌+◌, ◌-◌, ◌≤◌, if◌then◌else◌, List, length, get_or, unwrap_or, position, nat_eq, arith, subst, [], ◌∷◌, ◌++◌, Option, Some, None, refl, sym, ap, ◌∙◌}
use Rattle.std.specs.Prelude.{fold, flat_map}
use Rattle.std.proofs.lemmas.List.Sums.{fold-append}
use Rattle.gi_mir.specs.declared.operand.Kind.{Kind}
use Rattle.gi_mir.specs.declared.operand.Operand.TheVariants.{Def}
use Rattle.gi_mir.specs.declared.operand.Reg.{Reg}
use Rattle.std.proofs.lemmas.Bool.{lt-ltb, le-ltb, eqb-true}
use Rattle.std.proofs.lemmas.List.Quantifiers.{position-Some}
use Rattle.gi_mir.specs.declared.operand.Kind.TheVariants.{Class}
use Rattle.gi_mir.specs.Data.{InstrData, BlockData}
use Rattle.gi_mir.specs.Numbering.{with_register, number_in, registers_in_operand, registers_in_instr, registers_in_block}
use Rattle.gi_mir.specs.Registers.{first_there, kind_in_operand, kind_in_operands, kind_in_instrs, kind_in_blocks}
use Rattle.gi_mir.specs.declared.operand.Operand.{Operand}
use Rattle.gi_registers.proofs.Defining.{first_there_assoc, first_there_none, with_kind_noted}
use Rattle.gi_registers.specs.Noted.{kind_noted, kind_or_class, with_kind}
use Rattle.gi_mir_print.specs.Shown.{RegistersData, IsNoted, kind_at, register_at}

pub noted_none : (d : RegistersData) → IsNoted d d [] (λ r. None)
noted_none d = record { order = refl; kinds = λ r. sym (first_there_none (kind_noted d.kinds r)) }

pub noted_both : (a b c : RegistersData) (rs ss : List ℕ) (k l : ℕ → Option Kind)
    → IsNoted a b rs k → IsNoted b c ss l → IsNoted a c (rs ++ ss) (λ r. first_there (k r) (l r))
noted_both a b c rs ss k l first second = record {
  order = second.order ∙ ap (λ o. fold with_register o ss) first.order ∙ sym (fold-append with_register a.order rs ss);
  kinds = λ r. second.kinds r ∙ ap (λ o. first_there o (l r)) (first.kinds r) ∙ first_there_assoc (kind_noted a.kinds r) (k r) (l r);
}

-- the number of a register stands for it
register_at-placed : (order : List ℕ) (r : ℕ) (place : Option ℕ) → position (nat_eq r) order ≡ place → register_at order (unwrap_or place (length order + r)) ≡ r
register_at-placed order r (Some i) h =
    let at = position-Some (nat_eq r) order i 0 h in
    ap (λ b. if b then get_or order i 0 else i - length order) (lt-ltb i (length order) at.0) ∙ sym (eqb-true r (get_or order i 0) at.1)
register_at-placed order r None h =
    let above : length order ≤ length order + r = omega arith in
    ap (λ b. if b then get_or order (length order + r) 0 else length order + r - length order) (le-ltb (length order + r) (length order) above) ∙ omega arith

pub register_at-number_in : (order : List ℕ) (r : ℕ) → register_at order (number_in order r) ≡ r
register_at-number_in order r = register_at-placed order r (position (nat_eq r) order) refl

pub kind_at-number_in : (d : RegistersData) (r : ℕ) → kind_or_class d.kinds r ≡ kind_at d (number_in d.order r)
unfolding kind_at
kind_at-number_in d r = ap (λ reg. unwrap_or (kind_noted d.kinds reg) Class) (sym (register_at-number_in d.order r))

pub noted_definition : (a : RegistersData) (reg : Reg) (kind : Kind) (order : List ℕ) (kinds : List (ℕ × Kind)) → order ≡ with_register a.order reg.0 → kinds ≡ with_kind a.kinds reg.0 kind
    → IsNoted a (record { order = order; kinds = kinds }) (registers_in_operand (Def reg kind)) (λ r. kind_in_operand r (Def reg kind))
noted_definition a reg kind order kinds ordered noted = record {
  order = ordered;
  kinds = λ r. ap (λ ks. kind_noted ks r) noted ∙ with_kind_noted a.kinds reg.0 r kind;
}

-- one more operand, instruction or block
pub noted_operand : (a b c : RegistersData) (x : Operand) (xs ys : List Operand) → ys ≡ x ∷ xs
    → IsNoted a b (registers_in_operand x) (λ r. kind_in_operand r x)
    → IsNoted b c (flat_map registers_in_operand xs) (λ r. kind_in_operands r xs)
    → IsNoted a c (flat_map registers_in_operand ys) (λ r. kind_in_operands r ys)
noted_operand a b c x xs ys same first second =
    subst (λ zs. IsNoted a c (flat_map registers_in_operand zs) (λ r. kind_in_operands r zs)) (sym same)
    (noted_both a b c (registers_in_operand x) (flat_map registers_in_operand xs) (λ r. kind_in_operand r x) (λ r. kind_in_operands r xs) first second)

pub noted_instr : (a b c : RegistersData) (x : ℕ × InstrData) (xs ys : List (ℕ × InstrData)) → ys ≡ x ∷ xs
    → IsNoted a b (registers_in_instr x) (λ r. kind_in_operands r x.1.operands)
    → IsNoted b c (flat_map registers_in_instr xs) (λ r. kind_in_instrs r xs)
    → IsNoted a c (flat_map registers_in_instr ys) (λ r. kind_in_instrs r ys)
noted_instr a b c x xs ys same first second =
    subst (λ zs. IsNoted a c (flat_map registers_in_instr zs) (λ r. kind_in_instrs r zs)) (sym same)
    (noted_both a b c (registers_in_instr x) (flat_map registers_in_instr xs) (λ r. kind_in_operands r x.1.operands) (λ r. kind_in_instrs r xs) first second)

pub noted_block : (a b c : RegistersData) (x : BlockData) (xs ys : List BlockData) → ys ≡ x ∷ xs
    → IsNoted a b (registers_in_block x) (λ r. kind_in_instrs r x.instrs)
    → IsNoted b c (flat_map registers_in_block xs) (λ r. kind_in_blocks r xs)
    → IsNoted a c (flat_map registers_in_block ys) (λ r. kind_in_blocks r ys)
noted_block a b c x xs ys same first second =
    subst (λ zs. IsNoted a c (flat_map registers_in_block zs) (λ r. kind_in_blocks r zs)) (sym same)
    (noted_both a b c (registers_in_block x) (flat_map registers_in_block xs) (λ r. kind_in_instrs r x.instrs) (λ r. kind_in_blocks r xs) first second)

-- nothing is left
pub noted_operands_end : (d : RegistersData) (xs : List Operand) → xs ≡ [] → IsNoted d d (flat_map registers_in_operand xs) (λ r. kind_in_operands r xs)
noted_operands_end d xs h = subst (λ zs. IsNoted d d (flat_map registers_in_operand zs) (λ r. kind_in_operands r zs)) (sym h) (noted_none d)

pub noted_instrs_end : (d : RegistersData) (xs : List (ℕ × InstrData)) → xs ≡ [] → IsNoted d d (flat_map registers_in_instr xs) (λ r. kind_in_instrs r xs)
noted_instrs_end d xs h = subst (λ zs. IsNoted d d (flat_map registers_in_instr zs) (λ r. kind_in_instrs r zs)) (sym h) (noted_none d)

pub noted_blocks_end : (d : RegistersData) (xs : List BlockData) → xs ≡ [] → IsNoted d d (flat_map registers_in_block xs) (λ r. kind_in_blocks r xs)
noted_blocks_end d xs h = subst (λ zs. IsNoted d d (flat_map registers_in_block zs) (λ r. kind_in_blocks r zs)) (sym h) (noted_none d)
