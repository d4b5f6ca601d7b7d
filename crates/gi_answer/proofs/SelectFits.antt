-- Which row fits an instruction of the five shapes, and what the program puts in its place.
use Rattle.std.proofs.Common.{◌≡◌, ℕ, suc, ℤ, ◌+◌, pos, neg_ℤ, ◌-◌, ◌<◌, ◌≤◌, Bool, true, false, not, ◌||◌, ◌&&◌, List, [], ◌∷◌, map, Option, Some, None, option_map, ⊎_elim, refl, sym, ap, ap₂, ◌∙◌, subst, arith, if◌then◌else◌}
use Rattle.std.proofs.lemmas.Bool.{and_parts, or_cases, ltb-true, lt-ltb, le-ltb, leb-true, le-leb}
use Rattle.std.proofs.Math.Nat.{mod-eq_of_lt}
use Rattle.std.specs.List.{list_any}
use Rattle.std.specs.Option.{option_or}
use Rattle.gi_llt.specs.Bits.{signed, unsigned}
use Rattle.gi_mir.specs.Data.{InstrData, reg_of}
use Rattle.gi_answer.specs.Shapes.{MakeConstant, AddUp, shaped_instr, word_kind, is_negative_immediate, is_short}
use Rattle.gi_mir.specs.declared.opcode.Opcode.TheVariants.{Add, AddImmediate}
use Rattle.gi_mir.specs.declared.operand.Operand.TheVariants.{Def, Use, Phys, Int}
use Rattle.gi_meaning.specs.Machine.{is_immediate}
use Rattle.gi_refine.specs.Worded.{classed_instr}
use Rattle.gi_mir.specs.Row.{is_generic_op}
use Rattle.gi_answer.specs.Rows.{short_number, short_sum, made, add_immediate, dead_made, constant_made, short_sum_made, sum_made}
use Rattle.gi_answer.specs.Selecting.{short_of, selected_where, selected_if_used, selected_root, selected_sum}
use Rattle.gi_answer.specs.declared.select.Root.TheVariants as root

-- the first row that fits, by what is used and by the short constants
abbrev pub fit_where : (used : ℕ → Bool) (constant : ℕ → Option ℤ) → InstrData → Option (List InstrData)
fit_where used constant i = option_or (dead_made used i) (option_or (constant_made i) (option_or (short_sum_made constant i) (option_or (sum_made i) None)))

-- ══ Short constants ══

-- the program's number is the table's
pub record IsShort (value : ℕ) : Type 0 where
  pub number : ℤ
  pub by_program : short_of value ≡ Some number
  pub by_table : short_number 32 value ≡ Some number
  pub immediate : is_immediate number ≡ true
  pub bits : unsigned 32 number ≡ value
  pub small : value < 4294967296

immediate_signed : (value : ℕ) (number : ℤ) → signed 32 value ≡ number → is_immediate number ≡ true → short_number 32 value ≡ Some number
immediate_signed value number same short =
    subst (λ n. (if is_immediate n then Some n else None) ≡ Some number) (sym same) (ap (λ b. if b then Some number else None) short)

low_short : (value : ℕ) → value < 2048 → IsShort value
low_short value h = record {
  number = pos value;
  by_program = ap (λ b. if b then Some (pos value) else (if is_negative_immediate value then Some (neg_ℤ (pos (4294967296 - value))) else None)) (lt-ltb value 2048 h);
  by_table = immediate_signed value (pos value) (ap (λ b. if b then pos value else neg_ℤ (pos (4294967296 - value))) (lt-ltb value 2147483648 (omega (arith, h)))) (le-leb value 2047 (omega (arith, h)));
  immediate = le-leb value 2047 (omega (arith, h));
  bits = mod-eq_of_lt (omega (arith, h));
  small = omega (arith, h);
}

negative_immediate : (n m : ℕ) → n ≡ suc m → m ≤ 2047 → is_immediate (neg_ℤ (pos n)) ≡ true
negative_immediate n m same h = subst (λ k. is_immediate (neg_ℤ (pos k)) ≡ true) (sym same) (ap (λ b. b && true) (le-leb m 2047 h))

negative_bits : (n m value : ℕ) → n ≡ suc m → m + value ≡ 4294967295 → m < 4294967296 → unsigned 32 (neg_ℤ (pos n)) ≡ value
negative_bits n m value same sum small =
    subst (λ k. unsigned 32 (neg_ℤ (pos k)) ≡ value) (sym same) (ap (λ k. 4294967295 - k) (mod-eq_of_lt small) ∙ omega (arith, sum))

high_short : (value : ℕ) → 4294965248 ≤ value → value < 4294967296 → IsShort value
high_short value h l = record {
  number = neg_ℤ (pos (4294967296 - value));
  by_program =
      ap (λ b. if b then Some (pos value) else (if is_negative_immediate value then Some (neg_ℤ (pos (4294967296 - value))) else None)) (le-ltb value 2048 (omega (arith, h)))
      ∙ ap₂ (λ b c. if b && c then Some (neg_ℤ (pos (4294967296 - value))) else None) (le-leb 4294965248 value h) (lt-ltb value 4294967296 l);
  by_table = immediate_signed value (neg_ℤ (pos (4294967296 - value))) (ap (λ b. if b then pos value else neg_ℤ (pos (4294967296 - value))) (le-ltb value 2147483648 (omega (arith, h))))
      (negative_immediate (4294967296 - value) (4294967295 - value) (omega (arith, l)) (omega (arith, h)));
  immediate = negative_immediate (4294967296 - value) (4294967295 - value) (omega (arith, l)) (omega (arith, h));
  bits = negative_bits (4294967296 - value) (4294967295 - value) value (omega (arith, l)) (omega (arith, l)) (omega (arith, h));
  small = l;
}

pub short_value : (value : ℕ) → is_short value ≡ true → IsShort value
short_value value h = ⊎_elim
    (λ low. low_short value (ltb-true value 2048 low))
    (λ high. let parts = and_parts _ _ high in high_short value (leb-true 4294965248 value parts.0) (ltb-true value 4294967296 parts.1))
    (or_cases _ _ h)

-- ══ A constant ══

abbrev pub constant_instr : (d value line : ℕ) → InstrData
constant_instr d value line = shaped_instr (MakeConstant d value) line

abbrev pub constant_list : (d : ℕ) (number : ℤ) (line : ℕ) → List InstrData
constant_list d number line = made AddImmediate (Def (reg_of d) word_kind ∷ Phys 0 ∷ Int number ∷ []) line

-- where the result isn't used, nothing; else ADDI
abbrev pub unless_dead : (used : Bool) → List InstrData → List InstrData
unless_dead used made = if used then made else []

abbrev rows_after_dead : Bool → Option (List InstrData) → Option (List InstrData)
rows_after_dead used rest = option_or (if not (used || false) then Some [] else None) rest

dead_or : (used : Bool) (made : List InstrData) (rest : Option (List InstrData)) → rest ≡ Some made → rows_after_dead used rest ≡ Some (unless_dead used made)
dead_or true made rest h = h
dead_or false made rest h = refl

pub constant_fits : (used : ℕ → Bool) (constant : ℕ → Option ℤ) (d value line : ℕ) (h : IsShort value) (u : Bool) → used d ≡ u
    → fit_where used constant (constant_instr d value line) ≡ Some (unless_dead u (constant_list d h.number line))
constant_fits used constant d value line h u same =
    ap (λ b. rows_after_dead b (option_or (constant_made (constant_instr d value line)) None)) same
    ∙ dead_or u (constant_list d h.number line) (option_or (constant_made (constant_instr d value line)) None)
    (ap (λ o. option_or (option_map (λ v. constant_list d v line) o) None) h.by_table)

-- what the program puts before what stands behind
abbrev pub selected_unless_dead : (used : Bool) → InstrData → Option InstrData
selected_unless_dead used made = if used then Some made else None

pub constant_selected : (used : ℕ → Bool) (constant : ℕ → Option ℤ) (d value line : ℕ) (h : IsShort value) (u : Bool) → used d ≡ u
    → selected_where used constant (constant_instr d value line) ≡ selected_unless_dead u (selected_root constant (root.Constant (reg_of d) h.number) line)
constant_selected used constant d value line h u same =
    ap (λ o. selected_if_used used constant (constant_instr d value line) (option_map (λ (number : ℤ). root.Constant (reg_of d) number) o)) h.by_program
    ∙ ap (λ b. selected_unless_dead b (selected_root constant (root.Constant (reg_of d) h.number) line)) same

-- ══ A sum ══

abbrev pub sum_instr : (d a b line : ℕ) → InstrData
sum_instr d a b line = shaped_instr (AddUp d a b) line

abbrev pub sum_list : (d a b : ℕ) → (first second : Option ℤ) → (line : ℕ) → List InstrData
sum_list d a b first (Some i) line = add_immediate (reg_of d) word_kind (reg_of a) i line
sum_list d a b (Some i) None line = add_immediate (reg_of d) word_kind (reg_of b) i line
sum_list d a b None None line = made Add (Def (reg_of d) word_kind ∷ Use (reg_of a) ∷ Use (reg_of b) ∷ []) line

sum_or : (d a b line : ℕ) (first second : Option ℤ)
    → option_or (short_sum (reg_of d) word_kind (reg_of a) (reg_of b) first second line) (option_or (sum_made (sum_instr d a b line)) None) ≡ Some (sum_list d a b first second line)
sum_or d a b line first (Some i) = refl
sum_or d a b line (Some i) None = refl
sum_or d a b line None None = refl

pub sum_fits : (used : ℕ → Bool) (constant : ℕ → Option ℤ) (d a b line : ℕ) (u : Bool) (first second : Option ℤ) → used d ≡ u → constant a ≡ first → constant b ≡ second
    → fit_where used constant (sum_instr d a b line) ≡ Some (unless_dead u (sum_list d a b first second line))
sum_fits used constant d a b line u first second same one other =
    ap (λ t. rows_after_dead t (option_or (short_sum_made constant (sum_instr d a b line)) (option_or (sum_made (sum_instr d a b line)) None))) same
    ∙ dead_or u (sum_list d a b first second line) (option_or (short_sum_made constant (sum_instr d a b line)) (option_or (sum_made (sum_instr d a b line)) None))
    (ap₂ (λ x y. option_or (short_sum (reg_of d) word_kind (reg_of a) (reg_of b) x y line) (option_or (sum_made (sum_instr d a b line)) None)) one other
    ∙ sum_or d a b line first second)

pub sum_selected : (used : ℕ → Bool) (constant : ℕ → Option ℤ) (d a b line : ℕ) (u : Bool) (first second : Option ℤ) → used d ≡ u → constant a ≡ first → constant b ≡ second
    → selected_where used constant (sum_instr d a b line) ≡ selected_unless_dead u (selected_sum (reg_of d) (reg_of a) (reg_of b) first second line)
sum_selected used constant d a b line u first second same one other =
    ap (λ t. selected_unless_dead t (selected_root constant (root.Sum (reg_of d) (reg_of a) (reg_of b)) line)) same
    ∙ ap₂ (λ x y. selected_unless_dead u (selected_sum (reg_of d) (reg_of a) (reg_of b) x y line)) one other

pub sum_classed : (d a b line : ℕ) (first second : Option ℤ)
    → map classed_instr (sum_list d a b first second line) ≡ selected_sum (reg_of d) (reg_of a) (reg_of b) first second line ∷ []
sum_classed d a b line first (Some i) = refl
sum_classed d a b line (Some i) None = refl
sum_classed d a b line None None = refl

-- none of what is made is generic
pub sum_not_generic : (d a b line : ℕ) (first second : Option ℤ) → list_any (λ i. is_generic_op i.op) (sum_list d a b first second line) ≡ false
sum_not_generic d a b line first (Some i) = refl
sum_not_generic d a b line (Some i) None = refl
sum_not_generic d a b line None None = refl
