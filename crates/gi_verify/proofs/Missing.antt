-- Operands and entries that aren't there, one after the other.
use Rattle.std.proofs.Common.{◌≡◌, ℕ, ◌+◌, ◌<◌, ◌≤◌, Bool, true, false, cond, not, List, [], ◌∷◌, Option, Some, None, is_some, option_map, find, length, get_or, drop, take, ◌-◌, length-drop, refl, sym, ap, ◌∙◌}
use Rattle.std.proofs.lemmas.Bool.{not_from_true, not_from_false}
use Rattle.std.proofs.Math.ListN.{drop_of_length-le}
use Rattle.std.specs.Option.{option_or}
use Rattle.gi_mir.specs.Data.{InstrData, FunctionData}
use Rattle.gi_mir.specs.declared.operand.Operand.{Operand}
use Rattle.gi_meaning.specs.Runs.{is_phi, entry_of}
use Rattle.gi_valid.specs.Available.{Extent}
use Rattle.gi_valid.specs.Faults.{is_there, missing_entry, missing_entries, missing_use as all_missing_use, not_available}
use Rattle.gi_valid.specs.Valid.{IsGreatest}
use Rattle.gi_valid.specs.declared.invalid.Invalid.{Invalid}
use Rattle.gi_valid.specs.declared.invalid.Invalid.TheVariants.{NotAvailable}
use Rattle.gi_verify.specs.Sets.{IsThere, IsMissing}
use Rattle.gi_verify.proofs.Finding.{drop_step}

abbrev absent : (f : FunctionData) → (extents : ℕ → Extent) → (b : ℕ) → (front : List (ℕ × InstrData)) → InstrData → (after : List (ℕ × InstrData)) → Operand → Bool
absent f extents b front i after o = not (is_there f extents (record { block = b; before = front; instr = i; after = after }) o)

-- the first so many operands are there
pub record AreThere (f : FunctionData) (b : ℕ) (front : List (ℕ × InstrData)) (operands : List Operand) (k : ℕ) : Type 0 where
  pub by : (extents : ℕ → Extent) → ((r : ℕ) → IsGreatest f r (extents r)) → (i : InstrData) (after : List (ℕ × InstrData))
      → find (absent f extents b front i after) operands ≡ find (absent f extents b front i after) (drop k operands)

pub none_yet : (f : FunctionData) (b : ℕ) (front : List (ℕ × InstrData)) (operands : List Operand) → AreThere f b front operands 0
none_yet f b front operands = record { by = λ extents greatest i after. refl }

found_at : (p : Operand → Bool) (os : List Operand) (k : ℕ) (d : Operand) → k < length os → find p (drop k os) ≡ cond (p (get_or os k d)) (Some (get_or os k d)) (find p (drop (k + 1) os))
found_at p os k d h = ap (find p) (drop_step os k d h)

pub one_more_there : (f : FunctionData) (b : ℕ) (front : List (ℕ × InstrData)) (operands : List Operand) (k : ℕ) (d : Operand) → k < length operands → AreThere f b front operands k → (t : Bool) → IsThere f b front (get_or operands k d) t → t ≡ true
    → AreThere f b front operands (k + 1)
one_more_there f b front operands k d h are t there is = record {
  by = λ extents greatest i after.
      are.by extents greatest i after ∙ found_at (absent f extents b front i after) operands k d h
      ∙ ap (λ u. cond u (Some (get_or operands k d)) (find (absent f extents b front i after) (drop (k + 1) operands)))
      (not_from_true (is_there f extents (record { block = b; before = front; instr = i; after = after }) (get_or operands k d)) (sym (there.by extents greatest i after) ∙ is));
}

pub one_missing : (f : FunctionData) (b : ℕ) (front : List (ℕ × InstrData)) (operands : List Operand) (k : ℕ) (d : Operand) → k < length operands → AreThere f b front operands k → (t : Bool) → IsThere f b front (get_or operands k d) t → t ≡ false
    → IsMissing f b front operands (Some (NotAvailable (get_or operands k d)))
one_missing f b front operands k d h are t there is = record {
  by = λ extents greatest i after.
      sym (ap (option_map NotAvailable) (are.by extents greatest i after ∙ found_at (absent f extents b front i after) operands k d h
      ∙ ap (λ u. cond u (Some (get_or operands k d)) (find (absent f extents b front i after) (drop (k + 1) operands)))
      (not_from_false (is_there f extents (record { block = b; before = front; instr = i; after = after }) (get_or operands k d)) (sym (there.by extents greatest i after) ∙ is))));
}

pub all_there : (f : FunctionData) (b : ℕ) (front : List (ℕ × InstrData)) (operands : List Operand) (k : ℕ) → length operands ≤ k → AreThere f b front operands k → IsMissing f b front operands None
all_there f b front operands k past are = record {
  by = λ extents greatest i after.
      sym (ap (option_map NotAvailable) (are.by extents greatest i after ∙ ap (find (absent f extents b front i after)) (drop_of_length-le operands past)));
}

-- ══ Entries ══

pub entries_on : (f : FunctionData) (extents : ℕ → Extent) (os : List Operand) (k : ℕ) (d : Operand) → k < length os → (found : Option Invalid) (e : Option (ℕ × ℕ)) → found ≡ missing_entry f extents e → e ≡ entry_of (drop k os) → is_some found ≡ false
    → missing_entries f extents (drop k os) ≡ missing_entries f extents (drop (k + 1) os)
entries_on f extents os k d h found e is entry none =
    ap (missing_entries f extents) (drop_step os k d h)
    ∙ ap (λ o. option_or o (missing_entries f extents (drop (k + 1) os)))
    (ap (λ l. missing_entry f extents (entry_of l)) (sym (drop_step os k d h)) ∙ ap (missing_entry f extents) (sym entry) ∙ sym is ∙ none_is found none)
  where
    none_is : (o : Option Invalid) → is_some o ≡ false → o ≡ None
    none_is None h = refl
    none_is (Some a) h = cc

whole_taken : {X : Type 0} (l : List X) → take (length l) l ≡ l
whole_taken [] = refl
whole_taken (x ∷ l) = ap (λ k. x ∷ k) (whole_taken l)

pub slice_from : {X : Type 0} (xs : List X) (k : ℕ) → take (length xs - k) (drop k xs) ≡ drop k xs
slice_from xs k = ap (λ n. take n (drop k xs)) (sym (length-drop k xs)) ∙ whole_taken (drop k xs)

pub use_missing : (f : FunctionData) (extents : ℕ → Extent) (b : ℕ) (front : List (ℕ × InstrData)) (i : InstrData) (after : List (ℕ × InstrData)) (found : Option Invalid) → IsMissing f b front i.operands found
    → ((r : ℕ) → IsGreatest f r (extents r)) → is_phi i ≡ false → found ≡ not_available f extents (record { block = b; before = front; instr = i; after = after })
use_missing f extents b front i after found missing greatest other =
    missing.by extents greatest i after
    ∙ sym (ap (λ t. cond t (missing_entries f extents i.operands) (all_missing_use f extents (record { block = b; before = front; instr = i; after = after }))) other)
