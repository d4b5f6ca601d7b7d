-- The kind of a register, by the first instruction that defines it.
use Rattle.std.proofs.Common.{◌≡◌, ℕ, zero, suc, Bool, true, false, ◌||◌, cond, List, [], ◌∷◌, ◌++◌, Option, Some, None, ◌⊎◌, inl, inr, ⊎_elim, get_or, refl, sym, subst, ap, ◌∙◌}
use Rattle.std.specs.Prelude.{find, option_map, slice_get, ◌==◌}
use Rattle.std.specs.List.{list_any}
use Rattle.gi_mir.specs.declared.block.InstrId.{InstrId}
use Rattle.gi_mir.specs.declared.operand.Kind.{Kind}
use Rattle.gi_mir.specs.declared.operand.Operand.{Operand}
use Rattle.gi_mir.specs.declared.operand.Operand.TheVariants as operand
use Rattle.gi_mir.specs.Data.{InstrData, BlockData, FunctionData}
use Rattle.gi_mir.specs.Edit.{all_instrs, defines, definition_of, empty_block, entry_at, home_block, home_of, instr_of, is_def_of, IsLive, place_in_block}
use Rattle.gi_mir.specs.Ids.{AreOwnIds}
use Rattle.gi_mir.specs.Mentions.{definition_key, mentioning}
use Rattle.gi_mir.specs.Places.{id_in}
use Rattle.gi_mir.specs.Registers.{first_there, kind_in_operands, kind_in_instrs, kind_in_blocks}
use Rattle.gi_mir.proofs.Keys.{first_definition}
use Rattle.gi_mir.proofs.Located.{is_live-id_in, id_in-live, id_in-once, HasDistinctIds-in, id_in-within}

-- ---- among operands

no_kind : (r : ℕ) (os : List Operand) → list_any (is_def_of r) os ≡ false → kind_in_operands r os ≡ None
no_kind r [] h = refl
no_kind r (operand.Def d k ∷ os) h = by (d.0 == r) (no_kind r os) h
  where
    by : (b : Bool) → (list_any (is_def_of r) os ≡ false → kind_in_operands r os ≡ None) → (b || list_any (is_def_of r) os) ≡ false → first_there (cond b (Some k) None) (kind_in_operands r os) ≡ None
    by true more h = cc
    by false more h = more h
no_kind r (_ ∷ os) h = no_kind r os h

its_kind : (r : ℕ) (os : List Operand) (other : Option Kind) → list_any (is_def_of r) os ≡ true → first_there (kind_in_operands r os) other ≡ kind_in_operands r os
its_kind r [] other h = cc
its_kind r (operand.Def d k ∷ os) other h = by (d.0 == r) (its_kind r os other) h
  where
    by : (b : Bool) → (list_any (is_def_of r) os ≡ true → first_there (kind_in_operands r os) other ≡ kind_in_operands r os) → (b || list_any (is_def_of r) os) ≡ true
        → first_there (first_there (cond b (Some k) None) (kind_in_operands r os)) other ≡ first_there (cond b (Some k) None) (kind_in_operands r os)
    by true more h = refl
    by false more h = more h
its_kind r (_ ∷ os) other h = its_kind r os other h

-- ---- among instructions

first_assoc : (a b c : Option Kind) → first_there (first_there a b) c ≡ first_there a (first_there b c)
first_assoc None b c = refl
first_assoc (Some k) b c = refl

kind_in_append : (r : ℕ) (xs ys : List (ℕ × InstrData)) → kind_in_instrs r (xs ++ ys) ≡ first_there (kind_in_instrs r xs) (kind_in_instrs r ys)
kind_in_append r [] ys = refl
kind_in_append r (x ∷ xs) ys =
    ap (first_there (kind_in_operands r x.1.operands)) (kind_in_append r xs ys) ∙ sym (first_assoc (kind_in_operands r x.1.operands) (kind_in_instrs r xs) (kind_in_instrs r ys))

kind_in_all : (r : ℕ) (bs : List BlockData) → kind_in_blocks r bs ≡ kind_in_instrs r (all_instrs bs)
kind_in_all r [] = refl
kind_in_all r (b ∷ bs) = ap (first_there (kind_in_instrs r b.instrs)) (kind_in_all r bs) ∙ sym (kind_in_append r b.instrs (all_instrs bs))

abbrev kind_at : ℕ → Option (ℕ × InstrData) → Option Kind
kind_at r None = None
kind_at r (Some p) = kind_in_operands r p.1.operands

kind_found : (r : ℕ) (instrs : List (ℕ × InstrData)) → kind_in_instrs r instrs ≡ kind_at r (find (defines r) instrs)
kind_found r [] = refl
kind_found r (p ∷ ps) = by (list_any (is_def_of r) p.1.operands) refl (kind_found r ps)
  where
    by : (b : Bool) → list_any (is_def_of r) p.1.operands ≡ b → kind_in_instrs r ps ≡ kind_at r (find (defines r) ps)
        → first_there (kind_in_operands r p.1.operands) (kind_in_instrs r ps) ≡ kind_at r (cond b (Some p) (find (defines r) ps))
    by true e more = its_kind r p.1.operands (kind_in_instrs r ps) e
    by false e more = rw (no_kind r p.1.operands e) more

-- ---- where the one that is found stands

record Nth (xs : List (ℕ × InstrData)) (p : ℕ × InstrData) : Type 0 where
  pub at : ℕ
  pub nth : slice_get xs at ≡ Some p

record Stands (blocks : List BlockData) (p : ℕ × InstrData) : Type 0 where
  pub block : ℕ
  pub at : ℕ
  pub nth : slice_get (get_or blocks block empty_block).instrs at ≡ Some p

found_nth : (q : ℕ × InstrData → Bool) (xs : List (ℕ × InstrData)) (p : ℕ × InstrData) → find q xs ≡ Some p → Nth xs p
found_nth q [] p h = cc
found_nth q (x ∷ xs) p h = by (q x) h (found_nth q xs p)
  where
    by : (b : Bool) → cond b (Some x) (find q xs) ≡ Some p → (find q xs ≡ Some p → Nth xs p) → Nth (x ∷ xs) p
    by true h more = record { at = 0; nth = h }
    by false h more = let n = more h in record { at = suc n.at; nth = n.nth }

nth_append : (xs ys : List (ℕ × InstrData)) (k : ℕ) (p : ℕ × InstrData) → slice_get (xs ++ ys) k ≡ Some p → Nth xs p ⊎ Nth ys p
nth_append [] ys k p h = inr (record { at = k; nth = h })
nth_append (x ∷ xs) ys zero p h = inl (record { at = 0; nth = h })
nth_append (x ∷ xs) ys (suc k) p h = ⊎_elim (λ (n : Nth xs p). inl (record { at = suc n.at; nth = n.nth })) (λ (n : Nth ys p). inr n) (nth_append xs ys k p h)

stands : (blocks : List BlockData) (p : ℕ × InstrData) → Nth (all_instrs blocks) p → Stands blocks p
stands [] p n = let no = n.nth in cc
stands (b ∷ bs) p n =
    ⊎_elim (λ (n : Nth b.instrs p). record { block = 0; at = n.at; nth = n.nth })
    (λ (n : Nth (all_instrs bs) p). let s = stands bs p n in record { block = suc s.block; at = s.at; nth = s.nth })
    (nth_append b.instrs (all_instrs bs) n.at p n.nth)

-- ---- the first definition

its_entry : (f : FunctionData) (n : ℕ) (p : ℕ × InstrData) → AreOwnIds f.blocks n → Stands f.blocks p → (IsLive f p.0) × (instr_of f p.0 ≡ Some p.1)
its_entry f n p own s =
    let here : id_in f.blocks s.block s.at ≡ Some p.0 = ap (option_map (λ (q : ℕ × InstrData). q.0)) s.nth in
    let live : IsLive f p.0 = is_live-id_in p.0 f.blocks s.block s.at here in
    let home : id_in f.blocks (home_of f p.0) (place_in_block f p.0) ≡ Some p.0 = id_in-live f p.0 live in
    let block : s.block ≡ home_of f p.0 = id_in-once p.0 f.blocks n s.block (home_of f p.0) s.at (place_in_block f p.0) own here home in
    let at_home : id_in f.blocks (home_of f p.0) s.at ≡ Some p.0 = subst (λ (b : ℕ). id_in f.blocks b s.at ≡ Some p.0) block here in
    let distinct = HasDistinctIds-in f.blocks n (home_of f p.0) (id_in-within p.0 f.blocks (home_of f p.0) s.at at_home) own in
    let at : s.at ≡ place_in_block f p.0 = distinct.once s.at (place_in_block f p.0) p.0 at_home home in
    let entry : entry_at (home_block f p.0) (place_in_block f p.0) ≡ Some p =
    subst (λ (k : ℕ). entry_at (home_block f p.0) k ≡ Some p) at (subst (λ (b : ℕ). slice_get (get_or f.blocks b empty_block).instrs s.at ≡ Some p) block s.nth) in
    (live, ap (option_map (λ (q : ℕ × InstrData). q.1)) entry)

pub its_live : (f : FunctionData) (n r id : ℕ) → AreOwnIds f.blocks n → definition_of f r ≡ Some id → IsLive f id
its_live f n r id own h = by (find (defines r) (all_instrs f.blocks)) refl h
  where
    by : (o : Option (ℕ × InstrData)) → find (defines r) (all_instrs f.blocks) ≡ o → option_map (λ p. p.0) o ≡ Some id → IsLive f id
    by None e h = cc
    by (Some p) e h =
        let same : p.0 ≡ id = cc in
        subst (IsLive f) same (its_entry f n p own (stands f.blocks p (found_nth (defines r) (all_instrs f.blocks) p e))).0

the_same : {X : Type 0} {x y : X} → Some x ≡ Some y → x ≡ y
the_same h = cc

pub its_definition : (f : FunctionData) (n r id : ℕ) (i : InstrData) → AreOwnIds f.blocks n → definition_of f r ≡ Some id → instr_of f id ≡ Some i → kind_in_blocks r f.blocks ≡ kind_in_operands r i.operands
its_definition f n r id i own h g = by (find (defines r) (all_instrs f.blocks)) refl h
  where
    by : (o : Option (ℕ × InstrData)) → find (defines r) (all_instrs f.blocks) ≡ o → option_map (λ p. p.0) o ≡ Some id → kind_in_blocks r f.blocks ≡ kind_in_operands r i.operands
    by None e h = cc
    by (Some p) e h =
        let same : p.0 ≡ id = cc in
        let entry : instr_of f id ≡ Some p.1 = subst (λ (k : ℕ). instr_of f k ≡ Some p.1) same (its_entry f n p own (stands f.blocks p (found_nth (defines r) (all_instrs f.blocks) p e))).1 in
        let instr : p.1 ≡ i = the_same (sym entry ∙ g) in
        kind_in_all r f.blocks ∙ kind_found r (all_instrs f.blocks) ∙ ap (kind_at r) e ∙ ap (λ (j : InstrData). kind_in_operands r j.operands) instr

pub no_definition : (f : FunctionData) (r : ℕ) → definition_of f r ≡ None → kind_in_blocks r f.blocks ≡ None
no_definition f r h = by (find (defines r) (all_instrs f.blocks)) refl h
  where
    by : (o : Option (ℕ × InstrData)) → find (defines r) (all_instrs f.blocks) ≡ o → option_map (λ p. p.0) o ≡ None → kind_in_blocks r f.blocks ≡ None
    by None e h = kind_in_all r f.blocks ∙ kind_found r (all_instrs f.blocks) ∙ ap (kind_at r) e
    by (Some p) e h = cc

-- the first of those that are listed as defining it
pub first_listed : (f : FunctionData) (r : ℕ) (ids : List InstrId) (first : Option InstrId) → ids ≡ mentioning (definition_key r) (all_instrs f.blocks) → first ≡ slice_get ids 0 → definition_of f r ≡ option_map (λ (id : InstrId). id.0) first
first_listed f r ids first list is =
    sym (ap (option_map (λ (id : InstrId). id.0)) (is ∙ ap (λ (xs : List InstrId). slice_get xs 0) list) ∙ first_definition r (all_instrs f.blocks))
