-- A function whose registers are numbered stays as it is when they are numbered again.
use mathlib.Core.Path.{fun_ext}
use Rattle.std.proofs.Common.{◌≡◌, ℕ, suc, ◌+◌, ◌<◌, Bool, true, false, List, [], ◌∷◌, ◌++◌, length, Some, map, refl, sym, ap, ap₂, ◌∙◌, arith}
use Rattle.std.specs.Prelude.{◌||◌, not, nat_eq, nat_lt, if◌then◌else◌, unwrap_or, position, flat_map, fold}
use Rattle.std.specs.List.{list_all, list_any, position_or_len}
use Rattle.std.specs.Cmp.Derive.{both_true}
use Rattle.std.proofs.lemmas.Bool.{and_parts}
use Rattle.std.proofs.lemmas.Bool.Decides.{nat_tests}
use Rattle.std.proofs.lemmas.List.{map-append}
use Rattle.std.proofs.lemmas.List.Folds.{list_all-append, list_any-append}
use Rattle.gi_mir.specs.declared.operand.Operand.{Operand}
use Rattle.gi_mir.specs.declared.operand.Operand.TheVariants as operand
use Rattle.gi_mir.specs.Data.{InstrData, BlockData, FunctionData}
use Rattle.gi_mir.specs.Numbering.{registers_in_operand, registers_in_instr, registers_in_block, with_register, order_of, number_in, numbered}
use Rattle.gi_mir.specs.Renaming.{IsInjective, renamed_operand, renamed_pair, renamed_block, renamed}
use Rattle.gi_mir.proofs.KindLemmas.{same_test}
use Rattle.gi_mir.proofs.NamesLemmas.{position-map}
use Rattle.gi_mir.proofs.NumberingLaws.{number_in_apart}

-- ══ New numbers keep the order ══

module _ (number : ℕ → ℕ) (apart : IsInjective number) where
  any_same : (r : ℕ) (xs : List ℕ) → list_any (nat_eq (number r)) (map number xs) ≡ list_any (nat_eq r) xs
  any_same r [] = refl
  any_same r (x ∷ xs) = ap₂ (λ a b. a || b) (same_test number apart r x) (any_same r xs)

  with_same : (seen : List ℕ) (r : ℕ) → with_register (map number seen) (number r) ≡ map number (with_register seen r)
  with_same seen r = rw (any_same r seen) (chosen (list_any (nat_eq r) seen))
    where
      chosen : (b : Bool) → (if b then map number seen else map number seen ++ (number r ∷ [])) ≡ map number (if b then seen else seen ++ (r ∷ []))
      chosen true = refl
      chosen false = sym (map-append number seen (r ∷ []))

  fold_same : (seen rs : List ℕ) → fold with_register (map number seen) (map number rs) ≡ map number (fold with_register seen rs)
  fold_same seen [] = refl
  fold_same seen (r ∷ rs) = ap (λ seen. fold with_register seen (map number rs)) (with_same seen r) ∙ fold_same (with_register seen r) rs

  pub position_same : (r : ℕ) (xs : List ℕ) → position (nat_eq (number r)) (map number xs) ≡ position (nat_eq r) xs
  position_same r xs = position-map (nat_eq (number r)) number xs ∙ ap (λ test. position test xs) (fun_ext (λ x. same_test number apart r x))

  flat_same : {X : Type 0} (registers : X → List ℕ) (rename : X → X) → ((x : X) → registers (rename x) ≡ map number (registers x)) → (xs : List X)
      → flat_map registers (map rename xs) ≡ map number (flat_map registers xs)
  flat_same registers rename one [] = refl
  flat_same registers rename one (x ∷ xs) = ap₂ (λ a b. a ++ b) (one x) (flat_same registers rename one xs) ∙ sym (map-append number (registers x) (flat_map registers xs))

  operand_registers : (o : Operand) → registers_in_operand (renamed_operand number o) ≡ map number (registers_in_operand o)
  operand_registers (operand.Def r kind) = refl
  operand_registers _ = refl

  instr_registers : (i : ℕ × InstrData) → registers_in_instr (renamed_pair number i) ≡ map number (registers_in_instr i)
  instr_registers i = flat_same registers_in_operand (renamed_operand number) operand_registers (i.1).operands

  block_registers : (block : BlockData) → registers_in_block (renamed_block number block) ≡ map number (registers_in_block block)
  block_registers block = flat_same registers_in_instr (renamed_pair number) instr_registers block.instrs

  pub order_renamed : (f : FunctionData) → order_of (renamed number f) ≡ map number (order_of f)
  order_renamed f = ap (fold with_register []) (flat_same registers_in_block (renamed_block number) block_registers f.blocks) ∙ fold_same [] (flat_map registers_in_block f.blocks)

-- ══ Each register is in the order ══

same_number : (n : ℕ) → nat_eq n n ≡ true
same_number n = grind (arith, nat_tests)

kept : (r s : ℕ) (seen : List ℕ) → list_any (nat_eq r) seen ≡ true → list_any (nat_eq r) (with_register seen s) ≡ true
kept r s seen there = chosen (list_any (nat_eq s) seen)
  where
    chosen : (b : Bool) → list_any (nat_eq r) (if b then seen else seen ++ (s ∷ [])) ≡ true
    chosen true = there
    chosen false = list_any-append (nat_eq r) seen (s ∷ []) ∙ rw there refl

kept_on : (r : ℕ) (seen rs : List ℕ) → list_any (nat_eq r) seen ≡ true → list_any (nat_eq r) (fold with_register seen rs) ≡ true
kept_on r seen [] there = there
kept_on r seen (s ∷ rs) there = kept_on r (with_register seen s) rs (kept r s seen there)

any_last : (r : ℕ) (xs : List ℕ) → list_any (nat_eq r) (xs ++ (r ∷ [])) ≡ true
any_last r [] = rw (same_number r) refl
any_last r (x ∷ xs) = chosen (nat_eq r x) (any_last r xs)
  where
    chosen : (b : Bool) → list_any (nat_eq r) (xs ++ (r ∷ [])) ≡ true → (b || list_any (nat_eq r) (xs ++ (r ∷ []))) ≡ true
    chosen true last = refl
    chosen false last = last

added : (r : ℕ) (seen : List ℕ) → list_any (nat_eq r) (with_register seen r) ≡ true
added r seen = chosen (list_any (nat_eq r) seen) refl
  where
    chosen : (b : Bool) → list_any (nat_eq r) seen ≡ b → list_any (nat_eq r) (if b then seen else seen ++ (r ∷ [])) ≡ true
    chosen true is = is
    chosen false is = any_last r seen

abbrev pub is_among : List ℕ → ℕ → Bool
is_among order r = list_any (nat_eq r) order

all_among : (seen rs : List ℕ) → list_all (is_among (fold with_register seen rs)) rs ≡ true
all_among seen [] = refl
all_among seen (r ∷ rs) = both_true (kept_on r (with_register seen r) rs (added r seen)) (all_among (with_register seen r) rs)

pub registers_among : (f : FunctionData) → list_all (is_among (order_of f)) (flat_map registers_in_block f.blocks) ≡ true
registers_among f = all_among [] (flat_map registers_in_block f.blocks)

pub before_end : (r : ℕ) (order : List ℕ) → is_among order r ≡ true → position_or_len (nat_eq r) order < length order
before_end r [] there = absurd (cc)
before_end r (x ∷ order) there = chosen (nat_eq r x) there (before_end r order)
  where
    chosen : (b : Bool) → (b || list_any (nat_eq r) order) ≡ true → (list_any (nat_eq r) order ≡ true → position_or_len (nat_eq r) order < length order)
        → (if not b then 1 + position_or_len (nat_eq r) order else 0) < suc (length order)
    chosen true there later = omega arith
    chosen false there later = let less = later there in omega (arith, less)

pub place_of : (r : ℕ) (order : List ℕ) → is_among order r ≡ true → position (nat_eq r) order ≡ Some (position_or_len (nat_eq r) order)
place_of r order there =
    let less = before_end r order there in
    let test : nat_lt (position_or_len (nat_eq r) order) (length order) ≡ true = grind (arith, nat_tests, less) in
    rw test refl

-- ══ Numbers that stay ══

again_in : (order : List ℕ) (r : ℕ) → is_among order r ≡ true → number_in (map (number_in order) order) (number_in order r) ≡ number_in order r
again_in order r there =
    let place = place_of r order there in
    let own : number_in order r ≡ position_or_len (nat_eq r) order = ap (λ found. unwrap_or found (length order + r)) place in
    let new : position (nat_eq (number_in order r)) (map (number_in order) order) ≡ Some (position_or_len (nat_eq r) order) = position_same (number_in order) (number_in_apart order) r order ∙ place in
    ap (λ found. unwrap_or found (length (map (number_in order) order) + number_in order r)) new ∙ sym own

module _ (order : List ℕ) (first second : ℕ → ℕ) (stays : (r : ℕ) → is_among order r ≡ true → second (first r) ≡ first r) where
  operand_stays : (o : Operand) → list_all (is_among order) (registers_in_operand o) ≡ true → renamed_operand second (renamed_operand first o) ≡ renamed_operand first o
  operand_stays (operand.Def r kind) there = ap (λ n. operand.Def (record { 0 = n }) kind) (stays r.0 (and_parts (is_among order r.0) true there).0)
  operand_stays (operand.Use r) there = ap (λ n. operand.Use (record { 0 = n })) (stays r.0 (and_parts (is_among order r.0) true there).0)
  operand_stays _ there = refl

  each_stays : {X : Type 0} (registers : X → List ℕ) (rename again : X → X) → ((x : X) → list_all (is_among order) (registers x) ≡ true → again (rename x) ≡ rename x)
      → (xs : List X) → list_all (is_among order) (flat_map registers xs) ≡ true → map again (map rename xs) ≡ map rename xs
  each_stays registers rename again one [] there = refl
  each_stays registers rename again one (x ∷ xs) there =
      let parts = and_parts (list_all (is_among order) (registers x)) (list_all (is_among order) (flat_map registers xs)) (sym (list_all-append (is_among order) (registers x) (flat_map registers xs)) ∙ there) in
      ap₂ (λ y ys. y ∷ ys) (one x parts.0) (each_stays registers rename again one xs parts.1)

  pair_stays : (i : ℕ × InstrData) → list_all (is_among order) (registers_in_instr i) ≡ true → renamed_pair second (renamed_pair first i) ≡ renamed_pair first i
  pair_stays i there =
      let operands = each_stays registers_in_operand (renamed_operand first) (renamed_operand second) operand_stays (i.1).operands there in
      ap (λ operands. (i.0, record { op = (i.1).op; flags = (i.1).flags; operands = operands; mem = (i.1).mem; line = (i.1).line })) operands

  block_stays : (block : BlockData) → list_all (is_among order) (registers_in_block block) ≡ true → renamed_block second (renamed_block first block) ≡ renamed_block first block
  block_stays block there =
      let instrs = each_stays registers_in_instr (renamed_pair first) (renamed_pair second) pair_stays block.instrs there in
      ap (λ instrs. record { successors = block.successors; liveins = block.liveins; instrs = instrs }) instrs

  function_stays : (f : FunctionData) → list_all (is_among order) (flat_map registers_in_block f.blocks) ≡ true → renamed second (renamed first f) ≡ renamed first f
  function_stays f there = ap (λ blocks. record f { blocks = blocks }) (each_stays registers_in_block (renamed_block first) (renamed_block second) block_stays f.blocks there)

pub numbered_again : (f : FunctionData) → numbered (numbered f) ≡ numbered f
numbered_again f =
    let order = order_of f in
    let new : order_of (numbered f) ≡ map (number_in order) order = order_renamed (number_in order) (number_in_apart order) f in
    ap (λ order. renamed (number_in order) (numbered f)) new
    ∙ function_stays order (number_in order) (number_in (map (number_in order) order)) (again_in order) f (registers_among f)
