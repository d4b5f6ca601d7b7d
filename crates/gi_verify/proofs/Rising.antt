-- The predecessors of a block rise.
use Rattle.std.proofs.Common.{◌≡◌, ℕ, zero, suc, ◌+◌, ◌<◌, ◌≤◌, Bool, true, false, cond, ◌||◌, ◌==◌, List, [], ◌∷◌, Ok, Err, is_ok, length, get_or, ◌⊎◌, ⊎_elim, sym, ap, ◌∙◌, subst, arith}
use Rattle.std.specs.Prelude.{Result}
use Rattle.std.specs.List.Sorted.{IsBinarySearchResult}
use Rattle.std.specs.Ordering.{nat_cmp}
use Rattle.std.proofs.lemmas.Bool.{or_cases, eq-eqb, eqb-true, false_from_ne_true}
use Rattle.std.proofs.lemmas.List.Sorted.{searched}
use Rattle.gi_mir.specs.Data.{BlockData, FunctionData}
use Rattle.gi_mir.specs.Edit.{empty_block}
use Rattle.gi_meaning.specs.Runs.{is_among}
use Rattle.gi_valid.specs.Available.{naming, predecessors, successors_of}
use Rattle.gi_verify.proofs.Growing.{among_at}

never : (i : ℕ) → i < 0 → ⊥
never i h = omega (arith, h)

less : (i n : ℕ) → suc i < suc n → i < n
less i n h = omega (arith, h)

further : (place n : ℕ) → place + 1 ≤ n → place ≤ n
further place n h = omega (arith, h)

-- each is at least the first place
from_place : (b place : ℕ) (blocks : List BlockData) (i : ℕ) → i < length (naming b place blocks) → place ≤ get_or (naming b place blocks) i 0
from_place b place [] i h = absurd (never i h)
from_place b place (block ∷ blocks) i h = by (is_among b block.successors) (λ k g. further place (get_or (naming b (place + 1) blocks) k 0) (from_place b (place + 1) blocks k g)) i h
  where
    by : (t : Bool) → ((i : ℕ) → i < length (naming b (place + 1) blocks) → place ≤ get_or (naming b (place + 1) blocks) i 0) → (i : ℕ) → i < length (cond t (place ∷ naming b (place + 1) blocks) (naming b (place + 1) blocks))
        → place ≤ get_or (cond t (place ∷ naming b (place + 1) blocks) (naming b (place + 1) blocks)) i 0
    by true rest zero h = omega arith
    by true rest (suc i) h = rest i (less i (length (naming b (place + 1) blocks)) h)
    by false rest i h = rest i h

-- none is above a later one
abbrev Rises : List ℕ → Type 0
Rises xs = (i j : ℕ) → i ≤ j → j < length xs → get_or xs i 0 ≤ get_or xs j 0

rises_with : (x : ℕ) (xs : List ℕ) → ((j : ℕ) → j < length xs → x ≤ get_or xs j 0) → Rises xs → Rises (x ∷ xs)
rises_with x xs above rest zero zero h within = omega arith
rises_with x xs above rest zero (suc j) h within = above j (less j (length xs) within)
rises_with x xs above rest (suc i) zero h within = absurd (none i h)
  where
    none : (i : ℕ) → suc i ≤ 0 → ⊥
    none i h = omega (arith, h)
rises_with x xs above rest (suc i) (suc j) h within = rest i j (low i j h) (less j (length xs) within)
  where
    low : (i j : ℕ) → suc i ≤ suc j → i ≤ j
    low i j h = omega (arith, h)

rising : (b place : ℕ) (blocks : List BlockData) → Rises (naming b place blocks)
rising b place [] = λ i j h within. absurd (never j within)
rising b place (block ∷ blocks) =
    by (is_among b block.successors) (λ k g. further place (get_or (naming b (place + 1) blocks) k 0) (from_place b (place + 1) blocks k g)) (rising b (place + 1) blocks)
  where
    by : (t : Bool) → ((j : ℕ) → j < length (naming b (place + 1) blocks) → place ≤ get_or (naming b (place + 1) blocks) j 0) → Rises (naming b (place + 1) blocks)
        → Rises (cond t (place ∷ naming b (place + 1) blocks) (naming b (place + 1) blocks))
    by true above rest = rises_with place (naming b (place + 1) blocks) above rest
    by false above rest = rest

at_place : (xs : List ℕ) (x : ℕ) → is_among x xs ≡ true → (i : ℕ) × (i < length xs) × (get_or xs i 0 ≡ x)
at_place [] x h = cc
at_place (y ∷ xs) x h = ⊎_elim
    (λ here. (0, more (length xs), sym (eqb-true x y here)))
    (λ later. let g : (i : ℕ) × (i < length xs) × (get_or xs i 0 ≡ x) = at_place xs x later in (suc g.0, next g.0 (length xs) g.1, g.2)) (or_cases (x == y) (is_among x xs) h)
  where
    more : (n : ℕ) → 0 < suc n
    more n = omega arith

    next : (i n : ℕ) → i < n → suc i < suc n
    next i n h = omega (arith, h)

-- a block is among the predecessors of another one where the other one is among its successors
before_place : (b place n : ℕ) (blocks : List BlockData) → n < place → is_among n (naming b place blocks) ≡ false
before_place b place n blocks h = false_from_ne_true (is_among n (naming b place blocks)) (λ there.
    let g : (i : ℕ) × (i < length (naming b place blocks)) × (get_or (naming b place blocks) i 0 ≡ n) = at_place (naming b place blocks) n there in
    apart (get_or (naming b place blocks) g.0 0) (from_place b place blocks g.0 g.1) g.2)
  where
    apart : (m : ℕ) → place ≤ m → m ≡ n → ⊥
    apart m low same = omega (arith, h, low, same)

named_where : (b place : ℕ) (blocks : List BlockData) (k : ℕ) → k < length blocks → is_among (place + k) (naming b place blocks) ≡ is_among b (get_or blocks k empty_block).successors
named_where b place [] k h = absurd (never k h)
named_where b place (block ∷ blocks) zero h = by (is_among b block.successors)
  where
    first : place + 0 ≡ place
    first = omega arith

    low : place + 0 < place + 1
    low = omega arith

    by : (t : Bool) → is_among (place + 0) (cond t (place ∷ naming b (place + 1) blocks) (naming b (place + 1) blocks)) ≡ t
    by true = ap (λ s. s || is_among (place + 0) (naming b (place + 1) blocks)) (eq-eqb (place + 0) place first)
    by false = before_place b (place + 1) (place + 0) blocks low
named_where b place (block ∷ blocks) (suc k) h =
    by (is_among b block.successors) (ap (λ n. is_among n (naming b (place + 1) blocks)) (moved place k) ∙ named_where b (place + 1) blocks k (less k (length blocks) h))
  where
    moved : (place k : ℕ) → place + suc k ≡ place + 1 + k
    moved place k = omega arith

    apart : (place + suc k == place) ≡ false
    apart = false_from_ne_true (place + suc k == place) (λ e. other place k (eqb-true (place + suc k) place e))
      where
        other : (place k : ℕ) → place + suc k ≡ place → ⊥
        other place k e = omega (arith, e)

    by : (t : Bool) → is_among (place + suc k) (naming b (place + 1) blocks) ≡ is_among b (get_or blocks k empty_block).successors
        → is_among (place + suc k) (cond t (place ∷ naming b (place + 1) blocks) (naming b (place + 1) blocks)) ≡ is_among b (get_or blocks k empty_block).successors
    by true rest = ap (λ s. s || is_among (place + suc k) (naming b (place + 1) blocks)) apart ∙ rest
    by false rest = rest

pub predecessor_is : (f : FunctionData) (b c : ℕ) → b < length f.blocks → is_among b (predecessors f c) ≡ is_among c (successors_of f b)
predecessor_is f b c within = ap (λ n. is_among n (naming c 0 f.blocks)) (first b) ∙ named_where c 0 f.blocks b within
  where
    first : (n : ℕ) → n ≡ 0 + n
    first n = omega arith

found_among : (xs : List ℕ) (x : ℕ) (r : Result ℕ ℕ) → IsBinarySearchResult (λ y. nat_cmp y x) xs r → Rises xs → is_ok r ≡ is_among x xs
found_among xs x (Ok i) h up = let g : (i < length xs) × (get_or xs i 0 ≡ x) = searched xs x (Ok i) h up in sym (subst (λ n. is_among n xs ≡ true) g.1 (among_at xs i g.0))
found_among xs x (Err i) h up = sym (false_from_ne_true (is_among x xs) (λ there.
    let g : (i ≤ length xs) × ((k : ℕ) → k < i → get_or xs k 0 < x) × ((k : ℕ) → i ≤ k → k < length xs → x < get_or xs k 0) = searched xs x (Err i) h up in
    let at : (k : ℕ) × (k < length xs) × (get_or xs k 0 ≡ x) = at_place xs x there in
    ⊎_elim (λ low. under (get_or xs at.0 0) (g.1 at.0 low) at.2) (λ high. over (get_or xs at.0 0) (g.2 at.0 high at.1) at.2) (sides at.0)))
  where
    under : (n : ℕ) → n < x → n ≡ x → ⊥
    under n h e = omega (arith, h, e)

    over : (n : ℕ) → x < n → n ≡ x → ⊥
    over n h e = omega (arith, h, e)

    sides : (k : ℕ) → (k < i) ⊎ (i ≤ k)
    sides k = grind arith

pub predecessor_found : (f : FunctionData) (b c : ℕ) → b < length f.blocks → (xs : List ℕ) → xs ≡ predecessors f c → (r : Result ℕ ℕ) → IsBinarySearchResult (λ y. nat_cmp y b) xs r → is_ok r ≡ is_among c (successors_of f b)
predecessor_found f b c within xs are r h =
    found_among xs b r h (subst Rises (sym are) (rising c 0 f.blocks))
    ∙ ap (is_among b) are
    ∙ predecessor_is f b c within
