-- The kinds of registers at their first definitions.
use Rattle.std.proofs.Common.{◌≡◌, ℕ, Bool, true, false, cond, if◌then◌else◌, List, [], ◌∷◌, ◌++◌, Option, Some, None, is_some, nat_eq, arith, refl, sym, ap, ◌∙◌}
use Rattle.std.specs.Prelude.{fold}
use Rattle.std.specs.Map.{lookup}
use Rattle.std.proofs.lemmas.Bool.{eqb-true}
use Rattle.std.proofs.lemmas.Bool.Decides.{nat_tests}
use Rattle.gi_mir.specs.Data.{InstrData, BlockData}
use Rattle.gi_mir.specs.Registers.{first_there, kind_in_operand, kind_in_operands, kind_in_instrs, kind_in_blocks}
use Rattle.gi_mir.specs.declared.operand.Kind.{Kind}
use Rattle.gi_mir.specs.declared.operand.Operand.{Operand}
use Rattle.gi_mir.specs.declared.operand.Operand.TheVariants.{Def}
use Rattle.gi_registers.specs.Noted.{kind_noted, with_block, with_instr, with_kind, with_operand}

pub first_there_none : (kind : Option Kind) → first_there kind None ≡ kind
first_there_none None = refl
first_there_none (Some kind) = refl

pub first_there_assoc : (a b c : Option Kind) → first_there (first_there a b) c ≡ first_there a (first_there b c)
first_there_assoc None b c = refl
first_there_assoc (Some kind) b c = refl

-- the kind of one more register
lookup_more : (kinds : List (ℕ × Kind)) (reg r : ℕ) (kind : Kind) → lookup (nat_eq r) (kinds ++ (reg, kind) ∷ []) ≡ first_there (lookup (nat_eq r) kinds) (cond (nat_eq r reg) (Some kind) None)
lookup_more [] reg r kind = refl
lookup_more (e ∷ es) reg r kind = by (nat_eq r e.0) (lookup_more es reg r kind)
  where
    by : (b : Bool) → lookup (nat_eq r) (es ++ (reg, kind) ∷ []) ≡ first_there (lookup (nat_eq r) es) (cond (nat_eq r reg) (Some kind) None)
        → cond b (Some e.1) (lookup (nat_eq r) (es ++ (reg, kind) ∷ [])) ≡ first_there (cond b (Some e.1) (lookup (nat_eq r) es)) (cond (nat_eq r reg) (Some kind) None)
    by true h = refl
    by false h = h

pub with_kind_noted : (kinds : List (ℕ × Kind)) (reg r : ℕ) (kind : Kind) → kind_noted (with_kind kinds reg kind) r ≡ first_there (kind_noted kinds r) (if nat_eq reg r then Some kind else None)
with_kind_noted kinds reg r kind = by (nat_eq reg r) (kind_noted kinds reg) refl refl (turned reg r)
  where
    turned : (a b : ℕ) → nat_eq b a ≡ nat_eq a b
    turned a b = grind (arith, nat_tests)

    by : (b : Bool) (own : Option Kind) → nat_eq reg r ≡ b → kind_noted kinds reg ≡ own → nat_eq r reg ≡ nat_eq reg r → kind_noted (if is_some own then kinds else kinds ++ (reg, kind) ∷ []) r ≡ first_there (kind_noted kinds r) (if b then Some kind else None)
    by b (Some k) same is turn = there b same
      where
        there : (b : Bool) → nat_eq reg r ≡ b → kind_noted kinds r ≡ first_there (kind_noted kinds r) (if b then Some kind else None)
        there true same = at same ∙ sym (ap (λ o. first_there o (Some kind)) (at same))
          where
            at : nat_eq reg r ≡ true → kind_noted kinds r ≡ Some k
            at same = ap (kind_noted kinds) (sym (eqb-true reg r same)) ∙ is
        there false same = sym (first_there_none (kind_noted kinds r))
    by b None same is turn = lookup_more kinds reg r kind ∙ ap (λ t. first_there (kind_noted kinds r) (cond t (Some kind) None)) (turn ∙ same)

-- the kinds of what one more operand, instruction or block defines
operand_noted : (kinds : List (ℕ × Kind)) (x : Operand) (r : ℕ) → kind_noted (with_operand kinds x) r ≡ first_there (kind_noted kinds r) (kind_in_operand r x)
operand_noted kinds (Def reg kind) r = with_kind_noted kinds reg.0 r kind
operand_noted kinds _ r = sym (first_there_none (kind_noted kinds r))

operands_noted : (kinds : List (ℕ × Kind)) (xs : List Operand) (r : ℕ) → kind_noted (fold with_operand kinds xs) r ≡ first_there (kind_noted kinds r) (kind_in_operands r xs)
operands_noted kinds [] r = sym (first_there_none (kind_noted kinds r))
operands_noted kinds (x ∷ xs) r =
    operands_noted (with_operand kinds x) xs r ∙ ap (λ k. first_there k (kind_in_operands r xs)) (operand_noted kinds x r)
    ∙ first_there_assoc (kind_noted kinds r) (kind_in_operand r x) (kind_in_operands r xs)

instrs_noted : (kinds : List (ℕ × Kind)) (xs : List (ℕ × InstrData)) (r : ℕ) → kind_noted (fold with_instr kinds xs) r ≡ first_there (kind_noted kinds r) (kind_in_instrs r xs)
instrs_noted kinds [] r = sym (first_there_none (kind_noted kinds r))
instrs_noted kinds (x ∷ xs) r =
    instrs_noted (with_instr kinds x) xs r ∙ ap (λ k. first_there k (kind_in_instrs r xs)) (operands_noted kinds x.1.operands r)
    ∙ first_there_assoc (kind_noted kinds r) (kind_in_operands r x.1.operands) (kind_in_instrs r xs)

pub blocks_noted : (kinds : List (ℕ × Kind)) (xs : List BlockData) (r : ℕ) → kind_noted (fold with_block kinds xs) r ≡ first_there (kind_noted kinds r) (kind_in_blocks r xs)
blocks_noted kinds [] r = sym (first_there_none (kind_noted kinds r))
blocks_noted kinds (x ∷ xs) r =
    blocks_noted (with_block kinds x) xs r ∙ ap (λ k. first_there k (kind_in_blocks r xs)) (instrs_noted kinds x.instrs r)
    ∙ first_there_assoc (kind_noted kinds r) (kind_in_instrs r x.instrs) (kind_in_blocks r xs)
