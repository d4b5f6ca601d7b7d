-- What is printable stays so when registers are numbered: they are at most as many as there are numbers of registers.
use Rattle.std.proofs.Common.{◌≡◌, ℕ, suc, ◌+◌, ◌<◌, ◌≤◌, Bool, true, false, List, [], ◌∷◌, ◌++◌, length, map, refl, sym, ap, ◌∙◌, subst, arith}
use Rattle.std.specs.Prelude.{◌&&◌, ◌||◌, nat_eq, nat_lt, nat_le, if◌then◌else◌, unwrap_or, flat_map, fold}
use Rattle.std.specs.List.{list_all, list_any, AllByRecursion, AllZip, IsDistinct, position_or_len}
use Rattle.std.specs.Cmp.Derive.{both_true}
use Rattle.std.proofs.Common.{eqb-true}
use Rattle.std.proofs.lemmas.Cmp.{nat_eq_equiv}
use Rattle.std.proofs.lemmas.Bool.{and_parts}
use Rattle.std.proofs.lemmas.Bool.Decides.{nat_tests}
use Rattle.std.proofs.lemmas.List.{length-map}
use Rattle.std.proofs.lemmas.List.Folds.{list_all-append}
use Rattle.std.proofs.lemmas.Map.Keys.{IsDistinct-push}
use Rattle.std.proofs.lemmas.Map.Steps.{length-le_from_distinct_below}
use Rattle.gi_mir.specs.declared.operand.Operand.{Operand}
use Rattle.gi_mir.specs.declared.operand.Operand.TheVariants as operand
use Rattle.gi_mir.specs.Data.{InstrData, BlockData, FunctionData, ModuleData}
use Rattle.gi_mir.specs.Numbering.{registers_in_operand, registers_in_instr, registers_in_block, with_register, order_of, number_in, numbered, numbered_module}
use Rattle.gi_mir.specs.Renaming.{renamed_operand, renamed_pair, renamed_block}
use Rattle.gi_spelling.specs.Words.{greatest_register}
use Rattle.gi_spelling.specs.Printable.{is_writable_register, is_writable_kind, Counts, counts_of, is_writable_operand, IsPrintableInstr, IsPrintableBlock, is_none_live, is_live_first, IsPrintableFunction, IsPrintableModule}
use Rattle.gi_spelling.proofs.AlikeFormed.{IsAlike, formed_alike, renamed_alike}
use Rattle.gi_spelling.proofs.NumberedAgain.{is_among, registers_among, before_end, place_of}

all_true : {X : Type 0} (p : X → Bool) (xs : List X) → list_all p xs ≡ true → AllByRecursion (λ x. p x ≡ true) xs
all_true p [] all = tt
all_true p (x ∷ xs) all = let parts = and_parts (p x) (list_all p xs) all in (parts.0, all_true p xs parts.1)

true_all : {X : Type 0} (p : X → Bool) (xs : List X) → AllByRecursion (λ x. p x ≡ true) xs → list_all p xs ≡ true
true_all p [] all = refl
true_all p (x ∷ xs) all = both_true all.0 (true_all p xs all.1)

-- ══ How many registers there are ══

module _ (names : List (List ℕ)) (counts : Counts) where
  operand_registers : (o : Operand) → is_writable_operand names counts o ≡ true → list_all is_writable_register (registers_in_operand o) ≡ true
  operand_registers (operand.Def r kind) fine = both_true (and_parts (is_writable_register r.0) (is_writable_kind kind) fine).0 refl
  operand_registers (operand.Use r) fine = both_true fine refl
  operand_registers _ fine = refl

  each_register : {X : Type 0} (registers : X → List ℕ) (P : X → Type 0) → ((x : X) → P x → list_all is_writable_register (registers x) ≡ true) → (xs : List X) → AllByRecursion P xs
      → list_all is_writable_register (flat_map registers xs) ≡ true
  each_register registers P one [] all = refl
  each_register registers P one (x ∷ xs) all =
      list_all-append is_writable_register (registers x) (flat_map registers xs) ∙ both_true (one x all.0) (each_register registers P one xs all.1)

  instr_registers : (i : ℕ × InstrData) → IsPrintableInstr names counts i → list_all is_writable_register (registers_in_instr i) ≡ true
  instr_registers i printable =
      each_register registers_in_operand (λ o. is_writable_operand names counts o ≡ true) operand_registers (i.1).operands (all_true (is_writable_operand names counts) (i.1).operands printable.operands)

  block_registers : (block : BlockData) → IsPrintableBlock names counts block → list_all is_writable_register (registers_in_block block) ≡ true
  block_registers block printable = each_register registers_in_instr (IsPrintableInstr names counts) instr_registers block.instrs printable.instrs

  function_registers : (f : FunctionData) → AllByRecursion (IsPrintableBlock names counts) f.blocks → list_all is_writable_register (flat_map registers_in_block f.blocks) ≡ true
  function_registers f printable = each_register registers_in_block (IsPrintableBlock names counts) block_registers f.blocks printable

distinct_with : (seen : List ℕ) (r : ℕ) → IsDistinct nat_eq seen → IsDistinct nat_eq (with_register seen r)
distinct_with seen r distinct = chosen (list_any (nat_eq r) seen) refl
  where
    chosen : (b : Bool) → list_any (nat_eq r) seen ≡ b → IsDistinct nat_eq (if b then seen else seen ++ (r ∷ []))
    chosen true is = distinct
    chosen false is = IsDistinct-push nat_eq_equiv seen r distinct is

distinct_order : (seen rs : List ℕ) → IsDistinct nat_eq seen → IsDistinct nat_eq (fold with_register seen rs)
distinct_order seen [] distinct = distinct
distinct_order seen (r ∷ rs) distinct = distinct_order (with_register seen r) rs (distinct_with seen r distinct)

writable_with : (seen : List ℕ) (r : ℕ) → list_all is_writable_register seen ≡ true → is_writable_register r ≡ true → list_all is_writable_register (with_register seen r) ≡ true
writable_with seen r all fine = chosen (list_any (nat_eq r) seen)
  where
    chosen : (b : Bool) → list_all is_writable_register (if b then seen else seen ++ (r ∷ [])) ≡ true
    chosen true = all
    chosen false = list_all-append is_writable_register seen (r ∷ []) ∙ both_true all (both_true fine refl)

writable_order : (seen rs : List ℕ) → list_all is_writable_register seen ≡ true → list_all is_writable_register rs ≡ true → list_all is_writable_register (fold with_register seen rs) ≡ true
writable_order seen [] all fine = all
writable_order seen (r ∷ rs) all fine =
    let parts = and_parts (is_writable_register r) (list_all is_writable_register rs) fine in
    writable_order (with_register seen r) rs (writable_with seen r all parts.0) parts.1

pub among_below : (bound q : ℕ) (xs : List ℕ) → list_all (λ n. nat_le n bound) xs ≡ true → list_any (nat_eq q) xs ≡ true → q < suc bound
among_below bound q [] all there = absurd (cc)
among_below bound q (x ∷ xs) all there =
    let parts = and_parts (nat_le x bound) (list_all (λ n. nat_le n bound) xs) all in
    chosen (nat_eq q x) refl there parts.0 (among_below bound q xs parts.1)
  where
    chosen : (b : Bool) → nat_eq q x ≡ b → (b || list_any (nat_eq q) xs) ≡ true → nat_le x bound ≡ true → (list_any (nat_eq q) xs ≡ true → q < suc bound) → q < suc bound
    chosen true is there fine later =
        let same : q ≡ x = eqb-true q x is in
        grind (arith, nat_tests)
    chosen false is there fine later = later there

few_registers : (f : FunctionData) → list_all is_writable_register (flat_map registers_in_block f.blocks) ≡ true → length (order_of f) ≤ suc greatest_register
unfolding IsDistinct
few_registers f fine =
    let registers = flat_map registers_in_block f.blocks in
    length-le_from_distinct_below (order_of f) (suc greatest_register) (distinct_order [] registers tt) (λ q there. among_below greatest_register q (order_of f) (writable_order [] registers refl fine) there)

-- ══ With the new numbers ══

module _ (names : List (List ℕ)) (counts : Counts) (order : List ℕ) (few : length order ≤ suc greatest_register) where
  number_writable : (r : ℕ) → is_among order r ≡ true → is_writable_register (number_in order r) ≡ true
  number_writable r there =
      let less = before_end r order there in
      let own : number_in order r ≡ position_or_len (nat_eq r) order = ap (λ found. unwrap_or found (length order + r)) (place_of r order there) in
      let fits : number_in order r ≤ greatest_register = rw own (omega (arith, less, few)) in
      grind (arith, nat_tests, fits)

  operand_renamed : (o : Operand) → list_all (is_among order) (registers_in_operand o) ≡ true → is_writable_operand names counts o ≡ true → is_writable_operand names counts (renamed_operand (number_in order) o) ≡ true
  operand_renamed (operand.Def r kind) there fine =
      both_true (number_writable r.0 (and_parts (is_among order r.0) true there).0) (and_parts (is_writable_register r.0) (is_writable_kind kind) fine).1
  operand_renamed (operand.Use r) there fine = number_writable r.0 (and_parts (is_among order r.0) true there).0
  operand_renamed _ there fine = fine

  each_renamed : {X : Type 0} (registers : X → List ℕ) (rename : X → X) (P Q : X → Type 0) → ((x : X) → list_all (is_among order) (registers x) ≡ true → P x → Q (rename x))
      → (xs : List X) → list_all (is_among order) (flat_map registers xs) ≡ true → AllByRecursion P xs → AllByRecursion Q (map rename xs)
  each_renamed registers rename P Q one [] there all = tt
  each_renamed registers rename P Q one (x ∷ xs) there all =
      let parts = and_parts (list_all (is_among order) (registers x)) (list_all (is_among order) (flat_map registers xs)) (sym (list_all-append (is_among order) (registers x) (flat_map registers xs)) ∙ there) in
      (one x parts.0 all.0, each_renamed registers rename P Q one xs parts.1 all.1)

  alike_renamed : (os : List Operand) → AllZip IsAlike os (map (renamed_operand (number_in order)) os)
  alike_renamed [] = tt
  alike_renamed (o ∷ os) = (renamed_alike (number_in order) o, alike_renamed os)

  instr_renamed : (i : ℕ × InstrData) → list_all (is_among order) (registers_in_instr i) ≡ true → IsPrintableInstr names counts i → IsPrintableInstr names counts (renamed_pair (number_in order) i)
  instr_renamed i there printable =
      let fine = λ (o : Operand). is_writable_operand names counts o ≡ true in
      record {
        formed = formed_alike i.1 (renamed_pair (number_in order) i).1 refl refl (alike_renamed (i.1).operands) ∙ printable.formed;
        operands = true_all (is_writable_operand names counts) (map (renamed_operand (number_in order)) (i.1).operands)
            (each_renamed registers_in_operand (renamed_operand (number_in order)) fine fine operand_renamed (i.1).operands there (all_true (is_writable_operand names counts) (i.1).operands printable.operands));
        memory = printable.memory;
      }

  block_renamed : (block : BlockData) → list_all (is_among order) (registers_in_block block) ≡ true → IsPrintableBlock names counts block → IsPrintableBlock names counts (renamed_block (number_in order) block)
  block_renamed block there printable = record {
    successors = printable.successors;
    instrs = each_renamed registers_in_instr (renamed_pair (number_in order)) (IsPrintableInstr names counts) (IsPrintableInstr names counts) instr_renamed block.instrs there printable.instrs;
  }

none_live_renamed : (number : ℕ → ℕ) (blocks : List BlockData) → list_all (λ (block : BlockData). is_none_live block.liveins) (map (renamed_block number) blocks) ≡ list_all (λ (block : BlockData). is_none_live block.liveins) blocks
none_live_renamed number [] = refl
none_live_renamed number (block ∷ blocks) = ap (λ later. is_none_live block.liveins && later) (none_live_renamed number blocks)

live_renamed : (number : ℕ → ℕ) (blocks : List BlockData) → is_live_first (map (renamed_block number) blocks) ≡ is_live_first blocks
live_renamed number [] = refl
live_renamed number (block ∷ blocks) = ap (λ later. list_all (λ number. nat_lt number 32) block.liveins && later) (none_live_renamed number blocks)

function_numbered : (names : List (List ℕ)) (f : FunctionData) → IsPrintableFunction names f → IsPrintableFunction names (numbered f)
function_numbered names f printable =
    let order = order_of f in
    let few = few_registers f (function_registers names (counts_of f) f printable.blocks) in
    let count : length (numbered f).blocks ≡ length f.blocks = length-map f.blocks (renamed_block (number_in order)) in
    let counts : counts_of (numbered f) ≡ counts_of f = ap (λ blocks. record { blocks = blocks; objects = length f.stack }) count in
    let blocks = each_renamed names (counts_of f) order few registers_in_block (renamed_block (number_in order)) (IsPrintableBlock names (counts_of f)) (IsPrintableBlock names (counts_of f)) (block_renamed names (counts_of f) order few)
    f.blocks (registers_among f) printable.blocks in
    record {
      named = printable.named;
      few_objects = printable.few_objects;
      objects = printable.objects;
      few_blocks = rw count printable.few_blocks;
      live_first = live_renamed (number_in order) f.blocks ∙ printable.live_first;
      blocks = subst (λ counts. AllByRecursion (IsPrintableBlock names counts) (numbered f).blocks) (sym counts) blocks;
    }

functions_numbered : (names : List (List ℕ)) (fs : List FunctionData) → AllByRecursion (IsPrintableFunction names) fs → AllByRecursion (IsPrintableFunction names) (map numbered fs)
functions_numbered names [] all = tt
functions_numbered names (f ∷ fs) all = (function_numbered names f all.0, functions_numbered names fs all.1)

pub numbered_printable : (m : ModuleData) → IsPrintableModule m → IsPrintableModule (numbered_module m)
numbered_printable m printable = record { ir = printable.ir; functions = functions_numbered m.names m.functions printable.functions }
