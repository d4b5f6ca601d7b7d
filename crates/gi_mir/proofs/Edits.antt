-- What stands where in a list after an edit.
use Rattle.std.proofs.Common.{◌≡◌, ◌≢◌, ℕ, zero, suc, ◌<◌, ◌≤◌, Bool, true, false, ◌||◌, List, [], ◌∷◌, ◌++◌, Some, ◌⊎◌, length, get_or, set, map, refl, ap, arith}
use Rattle.std.specs.Prelude.{insert, remove, slice_get, option_map}
use Rattle.std.specs.List.{list_any}
use Rattle.gi_mir.specs.Edit.{changed_at}
use Rattle.gi_mir.proofs.FormedLemmas.{changed_at-suc}

pub less_or_not : (j k : ℕ) → (j < k) ⊎ (k ≤ j)
less_or_not j k = grind arith

-- ---- an element that comes in or goes

pub slice_get-insert_before : {X : Type 0} (xs : List X) (k j : ℕ) (x : X) → j < k → k ≤ length xs → slice_get (insert xs k x) j ≡ slice_get xs j
slice_get-insert_before xs zero j x lt le = absurd (omega arith)
slice_get-insert_before [] (suc k) j x lt le = absurd (omega arith)
slice_get-insert_before (y ∷ ys) (suc k) zero x lt le = refl
slice_get-insert_before (y ∷ ys) (suc k) (suc j) x lt le =
    slice_get-insert_before ys k j x (omega arith) (omega arith)

pub slice_get-insert_at : {X : Type 0} (xs : List X) (k : ℕ) (x : X) → k ≤ length xs → slice_get (insert xs k x) k ≡ Some x
slice_get-insert_at xs zero x le = refl
slice_get-insert_at [] (suc k) x le = absurd (omega arith)
slice_get-insert_at (y ∷ ys) (suc k) x le = slice_get-insert_at ys k x (omega arith)

pub slice_get-insert_behind : {X : Type 0} (xs : List X) (k j : ℕ) (x : X) → k ≤ j → k ≤ length xs → slice_get (insert xs k x) (suc j) ≡ slice_get xs j
slice_get-insert_behind xs zero j x ge le = refl
slice_get-insert_behind [] (suc k) j x ge le = absurd (omega arith)
slice_get-insert_behind (y ∷ ys) (suc k) zero x ge le = absurd (omega arith)
slice_get-insert_behind (y ∷ ys) (suc k) (suc j) x ge le =
    slice_get-insert_behind ys k j x (omega arith) (omega arith)

pub slice_get-remove_before : {X : Type 0} (xs : List X) (k j : ℕ) → j < k → slice_get (remove xs k) j ≡ slice_get xs j
slice_get-remove_before xs zero j lt = absurd (omega arith)
slice_get-remove_before [] (suc k) j lt = refl
slice_get-remove_before (y ∷ ys) (suc k) zero lt = refl
slice_get-remove_before (y ∷ ys) (suc k) (suc j) lt = slice_get-remove_before ys k j (omega arith)

pub slice_get-remove_behind : {X : Type 0} (xs : List X) (k j : ℕ) → k ≤ j → slice_get (remove xs k) j ≡ slice_get xs (suc j)
slice_get-remove_behind [] zero j ge = refl
slice_get-remove_behind [] (suc k) j ge = refl
slice_get-remove_behind (y ∷ ys) zero j ge = refl
slice_get-remove_behind (y ∷ ys) (suc k) zero ge = absurd (omega arith)
slice_get-remove_behind (y ∷ ys) (suc k) (suc j) ge = slice_get-remove_behind ys k j (omega arith)

-- ---- an element that changes, or that is added last

pub slice_get-set_same : {X : Type 0} (xs : List X) (i : ℕ) (x : X) → i < length xs → slice_get (set xs i x) i ≡ Some x
slice_get-set_same [] i x h = absurd (omega arith)
slice_get-set_same (y ∷ ys) zero x h = refl
slice_get-set_same (y ∷ ys) (suc i) x h = slice_get-set_same ys i x (omega arith)

pub slice_get-set_other : {X : Type 0} (xs : List X) (i j : ℕ) (x : X) → j ≢ i → slice_get (set xs i x) j ≡ slice_get xs j
slice_get-set_other [] i j x ne = refl
slice_get-set_other (y ∷ ys) zero zero x ne = absurd (ne refl)
slice_get-set_other (y ∷ ys) zero (suc j) x ne = refl
slice_get-set_other (y ∷ ys) (suc i) zero x ne = refl
slice_get-set_other (y ∷ ys) (suc i) (suc j) x ne = slice_get-set_other ys i j x (λ e. ne (ap suc e))

pub slice_get-changed_same : {X : Type 0} (edit : X → X) (xs : List X) (k : ℕ) → slice_get (changed_at edit k xs) k ≡ option_map edit (slice_get xs k)
slice_get-changed_same edit [] k = refl
slice_get-changed_same edit (x ∷ xs) zero = refl
slice_get-changed_same edit (x ∷ xs) (suc k) = rw (changed_at-suc edit k x xs) (slice_get-changed_same edit xs k)

pub slice_get-changed_other : {X : Type 0} (edit : X → X) (xs : List X) (k j : ℕ) → j ≢ k → slice_get (changed_at edit k xs) j ≡ slice_get xs j
slice_get-changed_other edit [] k j ne = refl
slice_get-changed_other edit (x ∷ xs) zero zero ne = absurd (ne refl)
slice_get-changed_other edit (x ∷ xs) zero (suc j) ne = refl
slice_get-changed_other edit (x ∷ xs) (suc k) zero ne = rw (changed_at-suc edit k x xs) refl
slice_get-changed_other edit (x ∷ xs) (suc k) (suc j) ne =
    rw (changed_at-suc edit k x xs) (slice_get-changed_other edit xs k j (λ e. ne (ap suc e)))

pub length-changed_at : {X : Type 0} (edit : X → X) (xs : List X) (k : ℕ) → length (changed_at edit k xs) ≡ length xs
length-changed_at edit [] k = refl
length-changed_at edit (x ∷ xs) zero = refl
length-changed_at edit (x ∷ xs) (suc k) = rw (changed_at-suc edit k x xs) (ap suc (length-changed_at edit xs k))

pub slice_get-push : {X : Type 0} (xs : List X) (x : X) → slice_get (xs ++ x ∷ []) (length xs) ≡ Some x
slice_get-push [] x = refl
slice_get-push (y ∷ ys) x = slice_get-push ys x

pub slice_get-push_other : {X : Type 0} (xs : List X) (x y : X) (i : ℕ) → slice_get xs i ≡ Some y → slice_get (xs ++ x ∷ []) i ≡ Some y
slice_get-push_other [] x y i h = cc
slice_get-push_other (z ∷ zs) x y zero h = h
slice_get-push_other (z ∷ zs) x y (suc i) h = slice_get-push_other zs x y i h

pub slice_get-pushed_before : {X : Type 0} (xs : List X) (x : X) (i : ℕ) → i ≢ length xs → slice_get (xs ++ x ∷ []) i ≡ slice_get xs i
slice_get-pushed_before [] x zero ne = absurd (ne refl)
slice_get-pushed_before [] x (suc i) ne = refl
slice_get-pushed_before (z ∷ zs) x zero ne = refl
slice_get-pushed_before (z ∷ zs) x (suc i) ne = slice_get-pushed_before zs x i (λ e. ne (ap suc e))

pub set-as_changed : {X : Type 0} (edit : X → X) (xs : List X) (k : ℕ) (x : X) → slice_get xs k ≡ Some x → set xs k (edit x) ≡ changed_at edit k xs
set-as_changed edit [] k x h = cc
set-as_changed edit (y ∷ ys) zero x h = let same : y ≡ x = cc in rw same refl
set-as_changed edit (y ∷ ys) (suc k) x h =
    rw (changed_at-suc edit k y ys) (ap (λ zs. y ∷ zs) (set-as_changed edit ys k x h))

pub map-set : {X Y : Type 0} (f : X → Y) (xs : List X) (k : ℕ) (x : X) → map f (set xs k x) ≡ set (map f xs) k (f x)
map-set f [] k x = refl
map-set f (y ∷ ys) zero x = refl
map-set f (y ∷ ys) (suc k) x = ap (λ zs. f y ∷ zs) (map-set f ys k x)

-- ---- what passes a test nowhere in an edited list

pub none-set_here : {X : Type 0} (p : X → Bool) (xs : List X) (k : ℕ) (x : X) → k < length xs → list_any p (set xs k x) ≡ false → p x ≡ false
none-set_here p [] k x lt h = absurd (omega arith)
none-set_here p (y ∷ ys) zero x lt h = (neither (p x) (list_any p ys) h).0
  where
    neither : (a b : Bool) → (a || b) ≡ false → (a ≡ false) × (b ≡ false)
    neither true b h = cc
    neither false b h = (refl, h)
none-set_here p (y ∷ ys) (suc k) x lt h = none-set_here p ys k x (omega arith) (neither (p y) (list_any p (set ys k x)) h).1
  where
    neither : (a b : Bool) → (a || b) ≡ false → (a ≡ false) × (b ≡ false)
    neither true b h = cc
    neither false b h = (refl, h)

pub none-set : {X : Type 0} (p : X → Bool) (xs : List X) (k : ℕ) (x d : X) → p (get_or xs k d) ≡ false → list_any p (set xs k x) ≡ false → list_any p xs ≡ false
none-set p [] k x d was h = refl
none-set p (y ∷ ys) zero x d was h = by (p x) (list_any p ys) h
  where
    by : (a b : Bool) → (a || b) ≡ false → (p y || b) ≡ false
    by true b h = cc
    by false b h = rw was h
none-set p (y ∷ ys) (suc k) x d was h = by (p y) h (none-set p ys k x d was)
  where
    by : (a : Bool) → (a || list_any p (set ys k x)) ≡ false → (list_any p (set ys k x) ≡ false → list_any p ys ≡ false) → (a || list_any p ys) ≡ false
    by true h more = cc
    by false h more = more h
