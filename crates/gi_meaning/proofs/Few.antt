-- What the opcodes of one or two registers accept.
use Rattle.std.proofs.Common.{◌≡◌, ℕ, ◌^◌, ◌<◌, ◌≤◌, ◌⊎◌, refl, sym, ◌∙◌, ap, ap₂, subst, arith, Bool, true, false, ◌&&◌, ◌==◌, List, [], ◌∷◌, length, get_or}
use Rattle.std.proofs.lemmas.Bool.{and_parts, eqb-true, false≢true}
use Rattle.gi_llt.specs.declared.Llt.{Llt}
use Rattle.gi_llt.specs.declared.Llt.TheVariants.{Scalar, Pointer}
use Rattle.gi_llt.specs.Llt.{width_of}
use Rattle.gi_mir.specs.Accepted.{accepts, are_typed}
use Rattle.gi_mir.specs.Types.{is_any, is_scalar, is_pointer, is_register, is_rotatable, same_type}
use Rattle.gi_mir.specs.Typings.{three_alike}
use Rattle.gi_mir.specs.declared.typing.Class.TheVariants as class
use Rattle.gi_mir.specs.declared.opcode.Opcode.{Opcode}
use Rattle.gi_mir.specs.declared.opcode.Opcode.TheVariants as op
use Rattle.gi_mir.specs.declared.operand.Flags.{Flags}
use Rattle.gi_meaning.specs.Given.{free}
use Rattle.gi_meaning.specs.Meaning.{meaning_of}
use Rattle.gi_meaning.specs.Fold.{gives_of, is_computed, has_predicate, reads_few, are_values, is_value, registers}
use Rattle.gi_meaning.specs.Argument.{Value}
use Rattle.gi_meaning.specs.Plain.{is_plain}
use Rattle.gi_meaning.proofs.Folding.{same_width, values_count, value_like, value_bits}

pub few_plain : (op : Opcode) → reads_few op ≡ true → is_plain op ≡ true
few_plain op.GenericMergeValues h = absurd (false≢true h)
few_plain op.GenericUnmergeValues h = absurd (false≢true h)
few_plain op.GenericUnsignedMultiplyHigh h = absurd (false≢true h)
few_plain op.GenericSignedMultiplyHigh h = absurd (false≢true h)
few_plain _ h = refl

-- a comparison alone has a predicate
pub predicate_of_comparison : (o : Opcode) → has_predicate o ≡ true → o ≡ op.GenericCompare
predicate_of_comparison op.GenericCompare h = refl
predicate_of_comparison _ h = absurd (false≢true h)

pub few_none : (x n : ℕ) (flags : Flags) (op : Opcode) (whole : Llt) → is_computed op ≡ true → reads_few op ≡ true → accepts x op (whole ∷ []) [] ≡ true → gives_of (meaning_of flags op) (n ∷ []) [] ≡ free n
few_none x n flags op.GenericImplicitDef whole c f h = refl
few_none x n flags _ whole c f h = cc

pub few_more : (x : ℕ) (op : Opcode) (whole a b d : Llt) (types : List Llt) → is_computed op ≡ true → reads_few op ≡ true → accepts x op (whole ∷ []) (a ∷ b ∷ d ∷ types) ≡ true → ⊥
few_more x op.Copy whole a b d types c f h = false≢true h
few_more x _ whole a b d types c f h = let z : false ≡ true = cc in false≢true z

-- a test without what holds anyhow
bare : (t : Bool) → ((t && true) && true) ≡ true → t ≡ true
bare t h = (and_parts t true (and_parts (t && true) true h).0).0

alike_two : (x : ℕ) (t : Bool) (whole a b : Llt) → (((t && (same_type whole a && (same_type whole b && true))) && true) && true) ≡ true → (width_of x a ≡ width_of x whole) × (width_of x b ≡ width_of x whole)
alike_two x t whole a b h =
    let p : (t ≡ true) × ((same_type whole a && (same_type whole b && true)) ≡ true) =
    and_parts t (same_type whole a && (same_type whole b && true)) (bare (t && (same_type whole a && (same_type whole b && true))) h) in
    let q : (same_type whole a ≡ true) × ((same_type whole b && true) ≡ true) = and_parts (same_type whole a) (same_type whole b && true) p.1 in
    let r : (same_type whole b ≡ true) × (true ≡ true) = and_parts (same_type whole b) true q.1 in
    (sym (same_width x whole a q.0), sym (same_width x whole b r.0))

pointer_width : (x : ℕ) (a : Llt) → is_pointer a ≡ true → width_of x a ≡ x
pointer_width x (Scalar n) h = absurd (false≢true h)
pointer_width x Pointer h = refl

register_width : (x : ℕ) (a : Llt) → is_register x a ≡ true → width_of x a ≡ x
register_width x (Scalar n) h = eqb-true n x ((and_parts (is_scalar x (Scalar n)) (n == x) h).1)
register_width x Pointer h = absurd (false≢true h)

pub few_two : (x : ℕ) (op : Opcode) (whole a b : Llt) → is_computed op ≡ true → reads_few op ≡ true → accepts x op (whole ∷ []) (a ∷ b ∷ []) ≡ true → (width_of x a ≡ width_of x whole) × (width_of x b ≡ width_of x whole)
few_two x op.GenericAdd whole a b c f h = alike_two x (is_scalar x whole) whole a b h
few_two x op.GenericSubtract whole a b c f h = alike_two x (is_scalar x whole) whole a b h
few_two x op.GenericMultiply whole a b c f h = alike_two x (is_scalar x whole) whole a b h
few_two x op.GenericAnd whole a b c f h = alike_two x (is_scalar x whole) whole a b h
few_two x op.GenericOr whole a b c f h = alike_two x (is_scalar x whole) whole a b h
few_two x op.GenericXor whole a b c f h = alike_two x (is_scalar x whole) whole a b h
few_two x op.GenericUnsignedDivide whole a b c f h = alike_two x (is_scalar x whole) whole a b h
few_two x op.GenericSignedDivide whole a b c f h = alike_two x (is_scalar x whole) whole a b h
few_two x op.GenericUnsignedRemainder whole a b c f h = alike_two x (is_scalar x whole) whole a b h
few_two x op.GenericSignedRemainder whole a b c f h = alike_two x (is_scalar x whole) whole a b h
few_two x op.GenericShiftLeft whole a b c f h = alike_two x (is_scalar x whole) whole a b h
few_two x op.GenericLogicalShiftRight whole a b c f h = alike_two x (is_scalar x whole) whole a b h
few_two x op.GenericArithmeticShiftRight whole a b c f h = alike_two x (is_scalar x whole) whole a b h
few_two x op.GenericSignedMinimum whole a b c f h = alike_two x (is_scalar x whole) whole a b h
few_two x op.GenericSignedMaximum whole a b c f h = alike_two x (is_scalar x whole) whole a b h
few_two x op.GenericUnsignedMinimum whole a b c f h = alike_two x (is_scalar x whole) whole a b h
few_two x op.GenericUnsignedMaximum whole a b c f h = alike_two x (is_scalar x whole) whole a b h
few_two x op.GenericRotateLeft whole a b c f h = alike_two x (is_rotatable x whole) whole a b h
few_two x op.GenericRotateRight whole a b c f h = alike_two x (is_rotatable x whole) whole a b h
few_two x op.GenericPointerAdd whole a b c f h =
    let pointers = is_pointer whole && (same_type whole a && true) in
    let offset = is_register x b && true in
    let p : (pointers ≡ true) × ((offset && true) ≡ true) = and_parts pointers (offset && true) (and_parts (pointers && (offset && true)) true h).0 in
    let q : (is_pointer whole ≡ true) × ((same_type whole a && true) ≡ true) = and_parts (is_pointer whole) (same_type whole a && true) p.0 in
    let w : width_of x whole ≡ x = pointer_width x whole q.0 in
    let s : width_of x whole ≡ width_of x a = same_width x whole a (and_parts (same_type whole a) true q.1).0 in
    (sym s, register_width x b (bare (is_register x b) p.1) ∙ sym w)
few_two x _ whole a b c f h = cc

-- as many values as types, and at most two
pub few_lengths : (x : ℕ) (op : Opcode) (whole : Llt) (types : List Llt) (values : List ℕ) → is_computed op ≡ true → reads_few op ≡ true → accepts x op (whole ∷ []) types ≡ true → are_values x types values ≡ true → (length values ≡ length types) × (length types ≤ 2)
few_lengths x op whole [] values c f h e = (values_count x [] values e, omega arith)
few_lengths x op whole (a ∷ []) values c f h e = (values_count x (a ∷ []) values e, omega arith)
few_lengths x op whole (a ∷ b ∷ []) values c f h e = (values_count x (a ∷ b ∷ []) values e, omega arith)
few_lengths x op whole (a ∷ b ∷ d ∷ types) values c f h e = absurd (few_more x op whole a b d types c f h)

-- two registers of the width of the result
pub record TwoAlike (x : ℕ) (whole : Llt) (types : List Llt) (values : List ℕ) : Type 0 where
  pub a_value : is_value x whole (get_or values 0 0) ≡ true
  pub b_fits : get_or values 1 0 < 2 ^ width_of x whole
  pub same : registers x types values ≡ Value (width_of x whole) (get_or values 0 0) ∷ Value (width_of x whole) (get_or values 1 0) ∷ []

pub two_alike_values : (x : ℕ) (op : Opcode) (whole : Llt) (types : List Llt) (values : List ℕ) → (x ≡ 32) ⊎ (x ≡ 64) → is_computed op ≡ true → reads_few op ≡ true → is_any x whole ≡ true → accepts x op (whole ∷ []) types ≡ true → are_values x types values ≡ true → length types ≡ 2 → TwoAlike x whole types values
two_alike_values x op whole [] values w c f y h e l = absurd (omega arith)
two_alike_values x op whole (a ∷ []) values w c f y h e l = absurd (omega arith)
two_alike_values x op whole (a ∷ b ∷ d ∷ types) values w c f y h e l = absurd (omega arith)
two_alike_values x op whole (a ∷ b ∷ []) [] w c f y h e l = absurd (false≢true e)
two_alike_values x op whole (a ∷ b ∷ []) (v ∷ []) w c f y h e l = absurd (false≢true ((and_parts (is_value x a v) false e).1))
two_alike_values x op whole (a ∷ b ∷ []) (v ∷ u ∷ z ∷ values) w c f y h e l =
    absurd (false≢true ((and_parts (is_value x b u) false ((and_parts (is_value x a v) (is_value x b u && false) e).1)).1))
two_alike_values x op whole (a ∷ b ∷ []) (v ∷ u ∷ []) w c f y h e l =
    let p : (is_value x a v ≡ true) × ((is_value x b u && true) ≡ true) = and_parts (is_value x a v) (is_value x b u && true) e in
    let q : (is_value x b u ≡ true) × (true ≡ true) = and_parts (is_value x b u) true p.1 in
    let s : (width_of x a ≡ width_of x whole) × (width_of x b ≡ width_of x whole) = few_two x op whole a b c f h in
    record {
      a_value = value_like x a whole v w y s.0 p.0;
      b_fits = subst (λ k. u < 2 ^ k) s.1 (value_bits x b u w q.0).0;
      same = ap₂ (λ j k. Value j v ∷ Value k u ∷ []) s.0 s.1;
    }

-- three registers of the width of the result
pub record ThreeAlike (x : ℕ) (whole : Llt) (types : List Llt) (values : List ℕ) : Type 0 where
  pub a_fits : get_or values 0 0 < 2 ^ width_of x whole
  pub b_fits : get_or values 1 0 < 2 ^ width_of x whole
  pub positive : 0 < width_of x whole
  pub limit : width_of x whole ≤ 128
  pub same : registers x types values ≡ Value (width_of x whole) (get_or values 0 0) ∷ Value (width_of x whole) (get_or values 1 0) ∷ Value (width_of x whole) (get_or values 2 0) ∷ []
  pub three : length values ≡ 3

pub three_alike_values : (x : ℕ) (whole : Llt) (types : List Llt) (values : List ℕ) → (x ≡ 32) ⊎ (x ≡ 64) → are_typed x (three_alike class.Rotatable) (whole ∷ []) types ≡ true → are_values x types values ≡ true → ThreeAlike x whole types values
three_alike_values x whole [] values w h e = absurd (false≢true h)
three_alike_values x whole (a ∷ []) values w h e = absurd (false≢true h)
three_alike_values x whole (a ∷ b ∷ []) values w h e = absurd (false≢true h)
three_alike_values x whole (a ∷ b ∷ d ∷ f ∷ types) values w h e = absurd (false≢true h)
three_alike_values x whole (a ∷ b ∷ d ∷ []) [] w h e = absurd (false≢true e)
three_alike_values x whole (a ∷ b ∷ d ∷ []) (v ∷ []) w h e = absurd (omega (arith, values_count x (a ∷ b ∷ d ∷ []) (v ∷ []) e))
three_alike_values x whole (a ∷ b ∷ d ∷ []) (v ∷ u ∷ []) w h e = absurd (omega (arith, values_count x (a ∷ b ∷ d ∷ []) (v ∷ u ∷ []) e))
three_alike_values x whole (a ∷ b ∷ d ∷ []) (v ∷ u ∷ z ∷ y ∷ values) w h e = absurd (omega (arith, values_count x (a ∷ b ∷ d ∷ []) (v ∷ u ∷ z ∷ y ∷ values) e))
three_alike_values x whole (a ∷ b ∷ d ∷ []) (v ∷ u ∷ z ∷ []) w h e =
    let p : (is_value x a v ≡ true) × ((is_value x b u && (is_value x d z && true)) ≡ true) = and_parts (is_value x a v) (is_value x b u && (is_value x d z && true)) e in
    let q : (is_value x b u ≡ true) × ((is_value x d z && true) ≡ true) = and_parts (is_value x b u) (is_value x d z && true) p.1 in
    let alike = same_type whole a && (same_type whole b && (same_type whole d && true)) in
    let g : (is_rotatable x whole ≡ true) × (alike ≡ true) = and_parts (is_rotatable x whole) alike (bare (is_rotatable x whole && alike) h) in
    let g1 : (same_type whole a ≡ true) × ((same_type whole b && (same_type whole d && true)) ≡ true) = and_parts (same_type whole a) (same_type whole b && (same_type whole d && true)) g.1 in
    let g2 : (same_type whole b ≡ true) × ((same_type whole d && true) ≡ true) = and_parts (same_type whole b) (same_type whole d && true) g1.1 in
    let g3 : (same_type whole d ≡ true) × (true ≡ true) = and_parts (same_type whole d) true g2.1 in
    let s : (width_of x a ≡ width_of x whole) × (width_of x b ≡ width_of x whole) = (sym (same_width x whole a g1.0), sym (same_width x whole b g2.0)) in
    let t : width_of x d ≡ width_of x whole = sym (same_width x whole d g3.0) in
    let n : (v < 2 ^ width_of x a) × (0 < width_of x a) × (width_of x a ≤ 128) = value_bits x a v w p.0 in
    record {
      a_fits = subst (λ k. v < 2 ^ k) s.0 n.0;
      b_fits = subst (λ k. u < 2 ^ k) s.1 (value_bits x b u w q.0).0;
      positive = subst (λ k. 0 < k) s.0 n.1;
      limit = subst (λ k. k ≤ 128) s.0 n.2;
      same = ap₂ (λ j k. Value j v ∷ Value k u ∷ Value (width_of x d) z ∷ []) s.0 s.1 ∙ ap (λ k. Value (width_of x whole) v ∷ Value (width_of x whole) u ∷ Value k z ∷ []) t;
      three = refl;
    }

-- one register
pub record OneRegister (x : ℕ) (types : List Llt) (values : List ℕ) (d : Llt) : Type 0 where
  pub value : is_value x (get_or types 0 d) (get_or values 0 0) ≡ true
  pub same : registers x types values ≡ Value (width_of x (get_or types 0 d)) (get_or values 0 0) ∷ []

pub one_register : (x : ℕ) (types : List Llt) (values : List ℕ) (d : Llt) → are_values x types values ≡ true → length values ≡ 1 → OneRegister x types values d
one_register x types [] d e l = absurd (omega arith)
one_register x types (v ∷ u ∷ values) d e l = absurd (omega arith)
one_register x [] (v ∷ []) d e l = absurd (false≢true e)
one_register x (a ∷ b ∷ types) (v ∷ []) d e l = absurd (false≢true ((and_parts (is_value x a v) false e).1))
one_register x (a ∷ []) (v ∷ []) d e l = record { value = (and_parts (is_value x a v) true e).0; same = refl }
