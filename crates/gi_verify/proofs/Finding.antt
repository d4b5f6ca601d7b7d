-- What is found in the blocks that are left.
use Rattle.std.specs.List.{range_with_len}
use Rattle.std.proofs.Common.{◌≡◌, ℕ, suc, ◌-◌, arith, ◌+◌, ◌<◌, ◌≤◌, Bool, true, false, cond, List, [], ◌∷◌, ◌++◌, length, get_or, drop, find, Some, None, refl, sym, ap, ◌∙◌, add-one}
use Rattle.std.proofs.Math.Seq.{drop-cons}
use Rattle.std.specs.Option.{option_or}
use Rattle.gi_mir.specs.Data.{InstrData}
use Rattle.gi_mir.specs.Row.{is_phi_op}
use Rattle.gi_mir.specs.declared.opcode.Opcode.{Opcode}
use Rattle.gi_mir.specs.declared.opcode.Opcode.TheVariants as op
use Rattle.gi_mir.specs.declared.operand.Flags.{Flags}
use Rattle.gi_meaning.specs.Meaning.{meaning_of, is_joining}
use Rattle.gi_meaning.specs.Runs.{is_phi}

pub drop_step : {X : Type 0} (xs : List X) (i : ℕ) (d : X) → i < length xs → drop i xs ≡ get_or xs i d ∷ drop (i + 1) xs
drop_step xs i d h = drop-cons xs i d h ∙ ap (λ n. get_or xs i d ∷ drop n xs) (sym (add-one i))

pub found_in_either : {X : Type 0} (p : X → Bool) (xs ys : List X) → find p (xs ++ ys) ≡ option_or (find p xs) (find p ys)
found_in_either p [] ys = refl
found_in_either p (x ∷ xs) ys = by (p x) (found_in_either p xs ys)
  where
    by : (t : Bool) → find p (xs ++ ys) ≡ option_or (find p xs) (find p ys) → cond t (Some x) (find p (xs ++ ys)) ≡ option_or (cond t (Some x) (find p xs)) (find p ys)
    by true h = refl
    by false h = h

-- the phis are those whose meaning joins
phi_op : (flags : Flags) (o : Opcode) → is_phi_op o ≡ is_joining (meaning_of flags o)
phi_op flags op.Copy = refl
phi_op flags _ = refl

pub phi_by_opcode : (i : InstrData) → is_phi_op i.op ≡ is_phi i
phi_by_opcode i = phi_op i.flags i.op

pub range_step : (n end : ℕ) → n < end → range_with_len n (end - n) ≡ n ∷ range_with_len (n + 1) (end - (n + 1))
range_step n end h = ap (range_with_len n) (one_more n end h)
  where
    one_more : (n end : ℕ) → n < end → end - n ≡ suc (end - (n + 1))
    one_more n end h = omega (arith, h)

pub range_end : (n end : ℕ) → end ≤ n → range_with_len n (end - n) ≡ []
range_end n end h = ap (range_with_len n) (none n end h)
  where
    none : (n end : ℕ) → end ≤ n → end - n ≡ 0
    none n end h = omega (arith, h)

pub find_on : (p : ℕ → Bool) (n end : ℕ) → n < end → p n ≡ false → find p (range_with_len n (end - n)) ≡ find p (range_with_len (n + 1) (end - (n + 1)))
find_on p n end h out = ap (find p) (range_step n end h) ∙ ap (λ t. cond t (Some n) (find p (range_with_len (n + 1) (end - (n + 1))))) out

pub find_here : (p : ℕ → Bool) (n end : ℕ) → n < end → p n ≡ true → find p (range_with_len n (end - n)) ≡ Some n
find_here p n end h in_it = ap (find p) (range_step n end h) ∙ ap (λ t. cond t (Some n) (find p (range_with_len (n + 1) (end - (n + 1))))) in_it

pub find_past : (p : ℕ → Bool) (n end : ℕ) → end ≤ n → find p (range_with_len n (end - n)) ≡ None
find_past p n end h = ap (find p) (range_end n end h)

pub drop_element : {X : Type 0} (xs : List X) (i : ℕ) (x : X) → i < length xs → x ≡ get_or xs i x → drop i xs ≡ x ∷ drop (i + 1) xs
drop_element xs i x h is = drop_step xs i x h ∙ ap (λ y. y ∷ drop (i + 1) xs) (sym is)
