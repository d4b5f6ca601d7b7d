-- The last that passes a test, in a list and over the blocks of a function.
use Rattle.std.proofs.Common.{◌≡◌, ℕ, zero, suc, ◌<◌, Bool, true, false, cond, ◌||◌, List, [], ◌∷◌, ◌++◌, Option, Some, None, length, drop, get_or, refl, sym, ap, ◌∙◌, arith}
use Rattle.std.specs.Prelude.{slice_get}
use Rattle.std.specs.List.{list_any}
use Rattle.std.specs.Option.{option_or}
use Rattle.std.proofs.lemmas.List.Folds.{list_any-append}
use Rattle.gi_mir.specs.Data.{InstrData, BlockData}
use Rattle.gi_mir.specs.Edit.{all_instrs, empty_block}
use Rattle.gi_normalise.specs.Layout.{last_of}

-- ---- in a list

option_or-assoc : {X : Type 0} (a b c : Option X) → option_or a (option_or b c) ≡ option_or (option_or a b) c
option_or-assoc None b c = refl
option_or-assoc (Some x) b c = refl

option_or-none : {X : Type 0} (a : Option X) → option_or a None ≡ a
option_or-none None = refl
option_or-none (Some x) = refl

pub last_of-append : {X : Type 0} (t : X → Bool) (xs ys : List X) → last_of t (xs ++ ys) ≡ option_or (last_of t ys) (last_of t xs)
last_of-append t [] ys = sym (option_or-none (last_of t ys))
last_of-append {X} t (x ∷ xs) ys =
    ap (λ (o : Option X). option_or o (cond (t x) (Some x) None)) (last_of-append t xs ys)
    ∙ sym (option_or-assoc (last_of t ys) (last_of t xs) (cond (t x) (Some x) None))

pub last_of-none : {X : Type 0} (t : X → Bool) (xs : List X) → list_any t xs ≡ false → last_of t xs ≡ None
last_of-none t [] h = refl
last_of-none {X} t (x ∷ xs) h = by (t x) h (λ rest. last_of-none t xs rest)
  where
    by : (b : Bool) → (b || list_any t xs) ≡ false → (list_any t xs ≡ false → last_of t xs ≡ None) → option_or (last_of t xs) (cond b (Some x) None) ≡ None
    by true h more = cc
    by false h more = ap (λ (o : Option X). option_or o None) (more h)

pub none-last_of : {X : Type 0} (t : X → Bool) (xs : List X) → last_of t xs ≡ None → list_any t xs ≡ false
none-last_of t [] h = refl
none-last_of {X} t (x ∷ xs) h = by (last_of t xs) (λ e. none-last_of t xs e) (t x) h
  where
    by : (o : Option X) → (o ≡ None → list_any t xs ≡ false) → (b : Bool) → option_or o (cond b (Some x) None) ≡ None → (b || list_any t xs) ≡ false
    by (Some y) more b h = cc
    by None more true h = cc
    by None more false h = more refl

-- one that passes, with none behind it
pub last_of-at : {X : Type 0} (t : X → Bool) (xs : List X) (k : ℕ) (x : X) → slice_get xs k ≡ Some x → t x ≡ true → list_any t (drop (suc k) xs) ≡ false → last_of t xs ≡ Some x
last_of-at t [] k x at is clear = cc
last_of-at {X} t (y ∷ xs) zero x at is clear =
    let same : y ≡ x = cc in
    let passes : t y ≡ true = ap t same ∙ is in
    ap (λ (o : Option X). option_or o (cond (t y) (Some y) None)) (last_of-none t xs clear) ∙ ap (λ (b : Bool). cond b (Some y) None) passes ∙ ap (λ (z : X). Some z) same
last_of-at {X} t (y ∷ xs) (suc k) x at is clear = ap (λ (o : Option X). option_or o (cond (t y) (Some y) None)) (last_of-at t xs k x at is clear)

-- and there it stands
pub record IsLastAt {X : Type 0} (t : X → Bool) (xs : List X) (x : X) : Type 0 where
  pub place : ℕ
  pub at : slice_get xs place ≡ Some x
  pub clear : list_any t (drop (suc place) xs) ≡ false

pub last_of-stands : {X : Type 0} (t : X → Bool) (xs : List X) (x : X) → last_of t xs ≡ Some x → IsLastAt t xs x
last_of-stands t [] x h = cc
last_of-stands {X} t (y ∷ xs) x h = by (last_of t xs) refl (t y) h (λ e. last_of-stands t xs x e)
  where
    by : (o : Option X) → last_of t xs ≡ o → (b : Bool) → option_or o (cond b (Some y) None) ≡ Some x → (last_of t xs ≡ Some x → IsLastAt t xs x) → IsLastAt t (y ∷ xs) x
    by (Some z) e b h more = let there = more (e ∙ h) in record { place = suc there.place; at = there.at; clear = there.clear }
    by None e true h more = record { place = 0; at = h; clear = none-last_of t xs e }
    by None e false h more = cc

-- one more in front that doesn't pass
pub clear-more : {X : Type 0} (t : X → Bool) (xs : List X) (k : ℕ) (x : X) → slice_get xs k ≡ Some x → t x ≡ false → list_any t (drop (suc k) xs) ≡ false → list_any t (drop k xs) ≡ false
clear-more t [] k x at not clear = cc
clear-more t (y ∷ xs) zero x at not clear =
    let same : y ≡ x = cc in
    ap (λ (b : Bool). b || list_any t xs) (ap t same ∙ not) ∙ clear
clear-more t (y ∷ xs) (suc k) x at not clear = clear-more t xs k x at not clear

-- ---- over blocks

both-clear : {X : Type 0} (t : X → Bool) (xs ys : List X) → list_any t xs ≡ false → list_any t ys ≡ false → list_any t (xs ++ ys) ≡ false
both-clear t xs ys a b = list_any-append t xs ys ∙ ap (λ (c : Bool). c || list_any t ys) a ∙ b

pub last-later : (t : ℕ × InstrData → Bool) (blocks : List BlockData) (b : ℕ) (p : ℕ × InstrData) → b < length blocks → list_any t (all_instrs (drop (suc b) blocks)) ≡ false
    → last_of t (get_or blocks b empty_block).instrs ≡ Some p → last_of t (all_instrs blocks) ≡ Some p
last-later t [] b p within clear h = absurd (omega arith)
last-later t (c ∷ cs) zero p within clear h =
    last_of-append t c.instrs (all_instrs cs) ∙ ap (λ (o : Option (ℕ × InstrData)). option_or o (last_of t c.instrs)) (last_of-none t (all_instrs cs) clear) ∙ h
last-later t (c ∷ cs) (suc b) p within clear h =
    last_of-append t c.instrs (all_instrs cs) ∙ ap (λ (o : Option (ℕ × InstrData)). option_or o (last_of t c.instrs)) (last-later t cs b p (omega (arith, within)) clear h)

pub clear-later : (t : ℕ × InstrData → Bool) (blocks : List BlockData) (b : ℕ) → b < length blocks → list_any t (all_instrs (drop (suc b) blocks)) ≡ false
    → last_of t (get_or blocks b empty_block).instrs ≡ None → list_any t (all_instrs (drop b blocks)) ≡ false
clear-later t [] b within clear h = absurd (omega arith)
clear-later t (c ∷ cs) zero within clear h = both-clear t c.instrs (all_instrs cs) (none-last_of t c.instrs h) clear
clear-later t (c ∷ cs) (suc b) within clear h = clear-later t cs b (omega (arith, within)) clear h

-- where the last of all instructions stands
pub record IsLastIn (t : ℕ × InstrData → Bool) (blocks : List BlockData) (p : ℕ × InstrData) : Type 0 where
  pub block : ℕ
  pub within : block < length blocks
  pub here : IsLastAt t (get_or blocks block empty_block).instrs p
  pub later : list_any t (all_instrs (drop (suc block) blocks)) ≡ false

pub last-stands : (t : ℕ × InstrData → Bool) (blocks : List BlockData) (p : ℕ × InstrData) → last_of t (all_instrs blocks) ≡ Some p → IsLastIn t blocks p
last-stands t [] p h = cc
last-stands t (c ∷ cs) p h = by (last_of t (all_instrs cs)) refl (sym (last_of-append t c.instrs (all_instrs cs)) ∙ h) (λ e. last-stands t cs p e)
  where
    by : (o : Option (ℕ × InstrData)) → last_of t (all_instrs cs) ≡ o → option_or o (last_of t c.instrs) ≡ Some p → (last_of t (all_instrs cs) ≡ Some p → IsLastIn t cs p) → IsLastIn t (c ∷ cs) p
    by (Some q) e h more = let there = more (e ∙ h) in record { block = suc there.block; within = omega (arith, there.within); here = there.here; later = there.later }
    by None e h more = record { block = 0; within = omega arith; here = last_of-stands t c.instrs p h; later = none-last_of t (all_instrs cs) e }
