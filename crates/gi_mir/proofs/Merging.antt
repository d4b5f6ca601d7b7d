-- Users that are moved from one register to another.
use Rattle.std.proofs.Common.{◌≡◌, ◌≢◌, ℕ, zero, suc, ◌+◌, ◌-◌, ◌<◌, ◌≤◌, Bool, true, false, ◌||◌, cond, List, [], ◌∷◌, ◌++◌, Option, Some, None, ◌⊎◌, inl, inr, ⊎_elim, length, take, drop, length-drop, get_or, append_assoc, refl, sym, subst, ap, ap₂, ◌∙◌, arith, eqb-true, eq-eqb}
use Rattle.std.specs.Prelude.{slice_get, option_map, is_some, ◌==◌, map, filter}
use Rattle.std.specs.List.{list_any}
use Rattle.std.proofs.lemmas.List.{length-map}
use Rattle.std.proofs.lemmas.List.Sums.{sum_by-cons}
use Rattle.gi_mir.specs.declared.block.Body.{Body}
use Rattle.gi_mir.specs.declared.block.InstrId.{InstrId}
use Rattle.gi_mir.specs.declared.block.Slot.{Slot}
use Rattle.gi_mir.specs.declared.mentions.Mentions.{Mentions}
use Rattle.gi_mir.specs.declared.operand.Operand.{Operand}
use Rattle.gi_mir.specs.declared.operand.Operand.TheVariants as operand
use Rattle.gi_mir.specs.declared.place.Place.{Place}
use Rattle.gi_mir.specs.Data.{InstrData, BlockData}
use Rattle.gi_mir.specs.Edit.{empty_block, all_instrs, has_instr, is_use_of, uses}
use Rattle.gi_mir.specs.Mentions.{use_key, mentions, operands_of, instr_id, mentioning, stands_before, merged, listed, IsListed, AreUsersMoved}
use Rattle.gi_mir.specs.Ids.{uses_among, uses_in, uses_of}
use Rattle.gi_mir.specs.Places.{body_at, comes_before, nth_id, id_in}
use Rattle.gi_mir.specs.Arena.{AreUsers, HasOrder, IsLinked, body_of, id_ahead, id_named, is_in, slot_at, slot_changed, spot_of}
use Rattle.gi_mir.specs.Uses.{operand_replaced, instr_replaced, entry_replaced, block_replaced}
use Rattle.gi_mir.proofs.Keys.{mentions-use}
use Rattle.gi_mir.proofs.Linked.{id_in-spot, linked-slot, linked-tells, order-place, order-within}
use Rattle.gi_mir.proofs.Located.{id_in-within}
use Rattle.gi_mir.proofs.Mentioned.{Each, Each-append, Each-from_slice_get, Each-get_or, Each-all_instrs, Each-mentioning, Each-weaker, ahead, all-split-at, apart_test, behind, comes_first, comes_later, mentioning-parts, one_if}
use Rattle.gi_mir.proofs.OrLemmas.{or_right}
use Rattle.gi_mir.proofs.Stored.{IsSpelled, entry_of}
use Rattle.gi_mir.proofs.Replaced.{uses-replaced, same_others}
use Rattle.gi_mir.proofs.Replacing.{all_instrs-replaced, drop-end}

-- ---- one step of a merge

pub merged-none : (before : InstrId → InstrId → Bool) (xs : List InstrId) → merged before xs [] ≡ xs
merged-none before [] = refl
merged-none before (x ∷ xs) = ap (λ (ys : List InstrId). x ∷ ys) (merged-none before xs)

step-right : (before : InstrId → InstrId → Bool) (x y : InstrId) (xs ys : List InstrId) → before y x ≡ true → merged before (x ∷ xs) (y ∷ ys) ≡ y ∷ merged before (x ∷ xs) ys
step-right before x y xs ys later = rw later refl

step-both : (before : InstrId → InstrId → Bool) (x y : InstrId) (xs ys : List InstrId) → before y x ≡ false → (y.0 == x.0) ≡ true → merged before (x ∷ xs) (y ∷ ys) ≡ x ∷ merged before xs ys
step-both before x y xs ys early same = rw (early, same) refl

step-left : (before : InstrId → InstrId → Bool) (x y : InstrId) (xs ys : List InstrId) → before y x ≡ false → (y.0 == x.0) ≡ false → merged before (x ∷ xs) (y ∷ ys) ≡ x ∷ merged before xs (y ∷ ys)
step-left before x y xs ys early apart = rw (early, apart) refl

append-none : {X : Type 0} (xs : List X) → xs ++ [] ≡ xs
append-none [] = refl
append-none (x ∷ xs) = ap (λ ys. x ∷ ys) (append-none xs)

-- where one list is at its end
merged-rest : (before : InstrId → InstrId → Bool) (xs ys : List InstrId) (i j : ℕ) → (length xs ≤ i) ⊎ (length ys ≤ j) → merged before (drop i xs) (drop j ys) ≡ drop i xs ++ drop j ys
merged-rest before xs ys i j c = ⊎_elim
    (λ (h : length xs ≤ i). rw (drop-end xs i h) refl)
    (λ (h : length ys ≤ j). rw (drop-end ys j h) (merged-none before (drop i xs) ∙ sym (append-none (drop i xs)))) c

take-full : {X : Type 0} (xs : List X) (n : ℕ) → length xs ≤ n → take n xs ≡ xs
take-full [] zero h = refl
take-full [] (suc n) h = refl
take-full (x ∷ xs) zero h = absurd (omega arith)
take-full (x ∷ xs) (suc n) h = ap (λ ys. x ∷ ys) (take-full xs n (omega arith))

-- what is left of a list, as a slice of it
rest-drop : (xs : List InstrId) (i : ℕ) → take (length xs - i) (drop i xs) ≡ drop i xs
rest-drop xs i = take-full (drop i xs) (length xs - i) (omega (arith, length-drop i xs))

-- so that what is left of both follows
pub merged-end : (before : InstrId → InstrId → Bool) (xs ys ids left all : List InstrId) (i j : ℕ) → (length xs ≤ i) ⊎ (length ys ≤ j) → left ≡ ids ++ take (length xs - i) (drop i xs) → all ≡ left ++ take (length ys - j) (drop j ys) → ids ++ merged before (drop i xs) (drop j ys) ≡ merged before xs ys → all ≡ merged before xs ys
merged-end before xs ys ids left all i j c first last so_far =
    last ∙ ap₂ (λ (zs ws : List InstrId). zs ++ ws) (first ∙ ap (λ (zs : List InstrId). ids ++ zs) (rest-drop xs i)) (rest-drop ys j) ∙ append_assoc ids (drop i xs) (drop j ys)
    ∙ ap (λ (zs : List InstrId). ids ++ zs) (sym (merged-rest before xs ys i j c)) ∙ so_far

-- ---- lists of those that mention a key

abbrev pub IsAhead : (InstrId → InstrId → Bool) → ℕ × InstrData → ℕ × InstrData → Type 0
IsAhead before e d = (before (instr_id e) (instr_id d) ≡ true) × (before (instr_id d) (instr_id e) ≡ false) × ((d.0 == e.0) ≡ false)

-- each instruction comes before all that follow
abbrev pub AreAscending : (InstrId → InstrId → Bool) → List (ℕ × InstrData) → Type 0
AreAscending before [] = Unit {0}
AreAscending before (e ∷ es) = (before (instr_id e) (instr_id e) ≡ false) × Each (IsAhead before e) es × AreAscending before es

left-first : (before : InstrId → InstrId → Bool) (x : InstrId) (xs ys : List InstrId) → Each (λ y. (before y x ≡ false) × ((y.0 == x.0) ≡ false)) ys → merged before (x ∷ xs) ys ≡ x ∷ merged before xs ys
left-first before x xs [] late = refl
left-first before x xs (y ∷ ys) late = step-left before x y xs ys late.0.0 late.0.1

right-first : (before : InstrId → InstrId → Bool) (y : InstrId) (xs ys : List InstrId) → Each (λ x. before y x ≡ true) xs → merged before xs (y ∷ ys) ≡ y ∷ merged before xs ys
right-first before y [] ys late = refl
right-first before y (x ∷ xs) ys late = step-right before x y xs ys late.0

-- those that mention one of two keys are the two lists merged
pub merged-mentioning : (before : InstrId → InstrId → Bool) (a b : ℕ) (es : List (ℕ × InstrData)) → AreAscending before es → merged before (mentioning a es) (mentioning b es) ≡ map instr_id (filter (λ e. mentions a e || mentions b e) es)
merged-mentioning before a b [] ascending = refl
merged-mentioning before a b (e ∷ es) ascending =
    by (mentions a e) (mentions b e) (merged-mentioning before a b es ascending.2)
    (Each-mentioning (λ y. (before y (instr_id e) ≡ false) × ((y.0 == e.0) ≡ false)) b es (Each-weaker _ _ (λ d h. (h.1, h.2)) es ascending.1))
    (Each-mentioning (λ x. before (instr_id e) x ≡ true) a es (Each-weaker _ _ (λ d h. h.0) es ascending.1))
  where
    by : (p q : Bool) → merged before (mentioning a es) (mentioning b es) ≡ map instr_id (filter (λ d. mentions a d || mentions b d) es)
        → Each (λ y. (before y (instr_id e) ≡ false) × ((y.0 == e.0) ≡ false)) (mentioning b es) → Each (λ x. before (instr_id e) x ≡ true) (mentioning a es)
        → merged before (map instr_id (cond p (e ∷ filter (mentions a) es) (filter (mentions a) es))) (map instr_id (cond q (e ∷ filter (mentions b) es) (filter (mentions b) es))) ≡ map instr_id (cond (p || q) (e ∷ filter (λ d. mentions a d || mentions b d) es) (filter (λ d. mentions a d || mentions b d) es))
    by true true more late_b late_a =
        step-both before (instr_id e) (instr_id e) (mentioning a es) (mentioning b es) ascending.0 (eq-eqb e.0 e.0 refl) ∙ ap (λ (xs : List InstrId). instr_id e ∷ xs) more
    by true false more late_b late_a =
        left-first before (instr_id e) (mentioning a es) (mentioning b es) late_b ∙ ap (λ (xs : List InstrId). instr_id e ∷ xs) more
    by false true more late_b late_a =
        right-first before (instr_id e) (mentioning a es) (mentioning b es) late_a ∙ ap (λ (xs : List InstrId). instr_id e ∷ xs) more
    by false false more late_b late_a = more

-- ---- the instructions of a function ascend by their places

-- the instruction at a place of a block
abbrev StandsAt : List BlockData → ℕ → ℕ → ℕ × InstrData → Type 0
StandsAt blocks b k e = slice_get (get_or blocks b empty_block).instrs k ≡ Some e

block-ascending : (before : InstrId → InstrId → Bool) (es : List (ℕ × InstrData)) → ((k : ℕ) (e : ℕ × InstrData) → slice_get es k ≡ Some e → before (instr_id e) (instr_id e) ≡ false)
    → ((j k : ℕ) (e d : ℕ × InstrData) → slice_get es j ≡ Some e → slice_get es k ≡ Some d → j < k → IsAhead before e d) → AreAscending before es
block-ascending before [] own pairs = tt
block-ascending before (e ∷ es) own pairs = (
  own 0 e refl,
  Each-from_slice_get (IsAhead before e) es (λ k d h. pairs 0 (suc k) e d refl h (omega arith)),
  block-ascending before es (λ k. own (suc k)) (λ j k x y hx hy lt. pairs (suc j) (suc k) x y hx hy (omega arith)),
)

ascending-append : (before : InstrId → InstrId → Bool) (xs ys : List (ℕ × InstrData)) → AreAscending before xs → AreAscending before ys → Each (λ e. Each (IsAhead before e) ys) xs → AreAscending before (xs ++ ys)
ascending-append before [] ys hx hy across = hy
ascending-append before (x ∷ xs) ys hx hy across =
    (hx.0, Each-append (IsAhead before x) xs ys hx.1 across.0, ascending-append before xs ys hx.2 hy across.1)

blocks-ascending : (before : InstrId → InstrId → Bool) (blocks : List BlockData) → ((b k : ℕ) (e : ℕ × InstrData) → StandsAt blocks b k e → before (instr_id e) (instr_id e) ≡ false)
    → ((b j c k : ℕ) (e d : ℕ × InstrData) → StandsAt blocks b j e → StandsAt blocks c k d → (b < c) ⊎ ((b ≡ c) × (j < k)) → IsAhead before e d) → AreAscending before (all_instrs blocks)
blocks-ascending before [] own pairs = tt
blocks-ascending before (b ∷ bs) own pairs =
    ascending-append before b.instrs (all_instrs bs)
    (block-ascending before b.instrs (own 0) (λ j k e d he hd lt. pairs 0 j 0 k e d he hd (inr (refl, lt))))
    (blocks-ascending before bs (λ c. own (suc c)) (λ c j n k e d he hd w. pairs (suc c) j (suc n) k e d he hd (later c n j k w)))
    (Each-from_slice_get (λ e. Each (IsAhead before e) (all_instrs bs)) b.instrs (λ j e he.
    Each-all_instrs (IsAhead before e) bs (λ c k d hd. pairs 0 j (suc c) k e d he hd (inl (omega arith)))))
  where
    later : (c n j k : ℕ) → (c < n) ⊎ ((c ≡ n) × (j < k)) → (suc c < suc n) ⊎ ((suc c ≡ suc n) × (j < k))
    later c n j k w = grind arith

stands_before-at : (places : List Place) (e d : ℕ × InstrData) (p q : Place) → slice_get places e.0 ≡ Some p → slice_get places d.0 ≡ Some q → stands_before places (instr_id e) (instr_id d) ≡ comes_before p q
stands_before-at places e d p q he hd = rw (hd, he) refl

IsAhead-at : (places : List Place) (e d : ℕ × InstrData) (p q : Place) → slice_get places e.0 ≡ Some p → slice_get places d.0 ≡ Some q → (p.block < q.block) ⊎ ((p.block ≡ q.block) × (p.at < q.at)) → IsAhead (stands_before places) e d
IsAhead-at places e d p q he hd w = (
  stands_before-at places e d p q he hd ∙ comes_first p q w,
  stands_before-at places d e q p hd he ∙ comes_later q p (turned w),
  apart_test d.0 e.0 (λ same. apart (cc (ap (slice_get places) same))),
)
  where
    turned : (p.block < q.block) ⊎ ((p.block ≡ q.block) × (p.at < q.at)) → (p.block < q.block) ⊎ ((q.block ≡ p.block) × (p.at ≤ q.at))
    turned h = grind arith

    apart : q ≡ p → ⊥
    apart h = let x = ap (λ (r : Place). r.block) h in let y = ap (λ (r : Place). r.at) h in grind arith

pub all-ascending : (places : List Place) (blocks : List BlockData) → HasOrder places blocks → AreAscending (stands_before places) (all_instrs blocks)
all-ascending places blocks order = blocks-ascending (stands_before places) blocks own pairs
  where
    id_of : (b k : ℕ) (e : ℕ × InstrData) → StandsAt blocks b k e → id_in blocks b k ≡ Some e.0
    id_of b k e h = ap (option_map (λ (p : ℕ × InstrData). p.0)) h

    own : (b k : ℕ) (e : ℕ × InstrData) → StandsAt blocks b k e → stands_before places (instr_id e) (instr_id e) ≡ false
    own b k e h = order-place (stands_before places (instr_id e) (instr_id e) ≡ false) places blocks b k e.0 order (id_of b k e h)
        (λ p found home. stands_before-at places e e p p found found ∙ comes_later p p (inr (refl, omega arith)))

    pairs : (b j c k : ℕ) (e d : ℕ × InstrData) → StandsAt blocks b j e → StandsAt blocks c k d → (b < c) ⊎ ((b ≡ c) × (j < k)) → IsAhead (stands_before places) e d
    pairs b j c k e d he hd w = order-place (IsAhead (stands_before places) e d) places blocks b j e.0 order (id_of b j e he)
        (λ p hp home_p. order-place (IsAhead (stands_before places) e d) places blocks c k d.0 order (id_of c k d hd)
        (λ q hq home_q. IsAhead-at places e d p q hp hq (⊎_elim
        (λ (lt : b < c). inl (omega arith))
        (λ (g : (b ≡ c) × (j < k)). inr (home_p ∙ g.0 ∙ sym home_q, order.rising c j k e.0 d.0 p q (sym (ap (λ (x : ℕ). id_in blocks x j) g.0) ∙ id_of b j e he) (id_of c k d hd) hp hq g.1)) w)))

-- ---- who mentions a key when the uses are replaced

mentioning-replaced : (old new key : ℕ) (test : ℕ × InstrData → Bool) → ((e : ℕ × InstrData) → mentions key (entry_replaced old new e) ≡ test e) → (es : List (ℕ × InstrData)) → mentioning key (map (entry_replaced old new) es) ≡ map instr_id (filter test es)
mentioning-replaced old new key test same [] = refl
mentioning-replaced old new key test same (e ∷ es) =
    by (mentions key (entry_replaced old new e)) (test e) (same e) (mentioning-replaced old new key test same es)
  where
    by : (p q : Bool) → p ≡ q → mentioning key (map (entry_replaced old new) es) ≡ map instr_id (filter test es)
        → map instr_id (cond p (entry_replaced old new e ∷ filter (mentions key) (map (entry_replaced old new) es)) (filter (mentions key) (map (entry_replaced old new) es))) ≡ map instr_id (cond q (e ∷ filter test es) (filter test es))
    by true true h more = ap (λ (xs : List InstrId). instr_id e ∷ xs) more
    by false false h more = more
    by true false h more = cc
    by false true h more = cc

-- a use of the new register was one of it or of the old
use_of_new : (old new : ℕ) (x : Operand) → is_use_of new (operand_replaced old new x) ≡ (is_use_of old x || is_use_of new x)
use_of_new old new (operand.Use r) = by (r.0 == old)
  where
    by : (b : Bool) → (cond b new r.0 == new) ≡ (b || (r.0 == new))
    by true = eq-eqb new new refl
    by false = refl
use_of_new old new (operand.Def r kind) = refl
use_of_new old new _ = refl

or_shuffle : (a b c d : Bool) → ((a || b) || (c || d)) ≡ ((a || c) || (b || d))
or_shuffle true b c d = refl
or_shuffle false true true d = refl
or_shuffle false true false d = refl
or_shuffle false false c d = refl

uses_of_new : (old new : ℕ) (xs : List Operand) → list_any (is_use_of new) (map (operand_replaced old new) xs) ≡ (list_any (is_use_of old) xs || list_any (is_use_of new) xs)
uses_of_new old new [] = refl
uses_of_new old new (x ∷ xs) =
    ap₂ (λ (a b : Bool). a || b) (use_of_new old new x) (uses_of_new old new xs)
    ∙ or_shuffle (is_use_of old x) (is_use_of new x) (list_any (is_use_of old) xs) (list_any (is_use_of new) xs)

mentions-new : (old new : ℕ) (e : ℕ × InstrData) → mentions (use_key new) (entry_replaced old new e) ≡ (mentions (use_key old) e || mentions (use_key new) e)
mentions-new old new e =
    mentions-use new (entry_replaced old new e) ∙ uses_of_new old new e.1.operands ∙ sym (ap₂ (λ (a b : Bool). a || b) (mentions-use old e) (mentions-use new e))

mentions-old : (old new : ℕ) (e : ℕ × InstrData) → old ≢ new → mentions (use_key old) (entry_replaced old new e) ≡ false
mentions-old old new e apart = mentions-use old (entry_replaced old new e) ∙ uses-replaced old new e apart

mentions-other : (old new key : ℕ) (e : ℕ × InstrData) → key ≢ use_key old → key ≢ use_key new → mentions key (entry_replaced old new e) ≡ mentions key e
mentions-other old new key e not_old not_new =
    same_others old new key e.1.operands (apart_test (use_key old) key (λ same. not_old (sym same))) (apart_test (use_key new) key (λ same. not_new (sym same)))

filter-none : (es : List (ℕ × InstrData)) → map instr_id (filter (λ e. false) es) ≡ []
filter-none [] = refl
filter-none (e ∷ es) = filter-none es

-- ---- the lists after the users are moved

keys_apart : (old new : ℕ) → old ≢ new → use_key old ≢ use_key new
keys_apart old new apart same = apart (omega arith)

-- one list is put under a key, and the other one is taken
pub users-moved : (places : List Place) (m mid final : Mentions) (old new : ℕ) (ids : List InstrId) → old ≢ new → ids ≡ merged (stands_before places) (listed m (use_key old)) (listed m (use_key new)) → IsListed m mid (use_key new) ids → IsListed mid final (use_key old) [] → AreUsersMoved m final places old new
users-moved places m mid final old new ids apart both put took = record {
  gone = took.here;
  joined = took.others (use_key new) (λ same. keys_apart old new apart (sym same)) ∙ put.here ∙ both;
  others = λ key not_old not_new. took.others key not_old ∙ put.others key not_new;
}

pub users-taken : (m mid : Mentions) (old new : ℕ) (ids users : List InstrId) → old ≢ new → IsListed m mid (use_key new) ids → users ≡ listed mid (use_key old) → users ≡ listed m (use_key old)
users-taken m mid old new ids users apart put took = took ∙ put.others (use_key old) (keys_apart old new apart)

abbrev IsMoved : Mentions → List (ℕ × InstrData) → ℕ → ℕ → ℕ → Type 0
IsMoved moved es old new key = listed moved key ≡ mentioning key (map (entry_replaced old new) es)

pub moved-lists : (places : List Place) (blocks : List BlockData) (old new : ℕ) (m moved : Mentions) → old ≢ new → HasOrder places blocks → AreUsersMoved m moved places old new → ((key : ℕ) → listed m key ≡ mentioning key (all_instrs blocks)) → (key : ℕ) → listed moved key ≡ mentioning key (all_instrs (map (block_replaced old new) blocks))
moved-lists places blocks old new m moved apart has is_moved lists key =
    by (key == use_key old) refl (key == use_key new) refl ∙ sym (ap (mentioning key) (all_instrs-replaced old new blocks))
  where
    of_new : IsMoved moved (all_instrs blocks) old new (use_key new)
    of_new =
        is_moved.joined ∙ ap₂ (merged (stands_before places)) (lists (use_key old)) (lists (use_key new))
        ∙ merged-mentioning (stands_before places) (use_key old) (use_key new) (all_instrs blocks) (all-ascending places blocks has)
        ∙ sym (mentioning-replaced old new (use_key new) (λ e. mentions (use_key old) e || mentions (use_key new) e) (mentions-new old new) (all_instrs blocks))

    of_old : IsMoved moved (all_instrs blocks) old new (use_key old)
    of_old =
        is_moved.gone ∙ sym (mentioning-replaced old new (use_key old) (λ e. false) (λ e. mentions-old old new e apart) (all_instrs blocks) ∙ filter-none (all_instrs blocks))

    by : (a : Bool) → (key == use_key old) ≡ a → (b : Bool) → (key == use_key new) ≡ b → IsMoved moved (all_instrs blocks) old new key
    by true e b f = subst (IsMoved moved (all_instrs blocks) old new) (sym (eqb-true key (use_key old) e)) of_old
    by false e true f = subst (IsMoved moved (all_instrs blocks) old new) (sym (eqb-true key (use_key new) f)) of_new
    by false e false f =
        let not_old : key ≢ use_key old = λ same. absurd (cc (eq-eqb key (use_key old) same)) in
        let not_new : key ≢ use_key new = λ same. absurd (cc (eq-eqb key (use_key new) same)) in
        is_moved.others key not_old not_new ∙ lists key ∙ sym (mentioning-replaced old new key (mentions key) (λ e. mentions-other old new key e not_old not_new) (all_instrs blocks))

-- ---- what is written down beside the blocks after the users are moved

uses_among-replaced : (old new id : ℕ) (es : List (ℕ × InstrData)) → uses_among id (map (entry_replaced old new) es) ≡ uses_among id es
uses_among-replaced old new id [] = refl
uses_among-replaced old new id (e ∷ es) =
    sum_by-cons (λ p. cond (p.0 == id) 1 0) (entry_replaced old new e) (map (entry_replaced old new) es)
    ∙ ap (λ (n : ℕ). cond (e.0 == id) 1 0 + n) (uses_among-replaced old new id es)
    ∙ sym (sum_by-cons (λ p. cond (p.0 == id) 1 0) e es)

uses_of-replaced : (old new id : ℕ) (blocks : List BlockData) → uses_of id (map (block_replaced old new) blocks) ≡ uses_of id blocks
uses_of-replaced old new id [] = refl
uses_of-replaced old new id (b ∷ bs) =
    sum_by-cons (uses_in id) (block_replaced old new b) (map (block_replaced old new) bs)
    ∙ ap₂ ◌+◌ (uses_among-replaced old new id b.instrs) (uses_of-replaced old new id bs)
    ∙ sym (sum_by-cons (uses_in id) b bs)

nth_id-replaced : (old new : ℕ) (es : List (ℕ × InstrData)) (k : ℕ) → nth_id (map (entry_replaced old new) es) k ≡ nth_id es k
nth_id-replaced old new [] k = refl
nth_id-replaced old new (e ∷ es) zero = refl
nth_id-replaced old new (e ∷ es) (suc k) = nth_id-replaced old new es k

id_in-replaced : (old new : ℕ) (blocks : List BlockData) (b k : ℕ) → id_in (map (block_replaced old new) blocks) b k ≡ id_in blocks b k
id_in-replaced old new [] b k = refl
id_in-replaced old new (c ∷ cs) zero k = nth_id-replaced old new c.instrs k
id_in-replaced old new (c ∷ cs) (suc b) k = id_in-replaced old new cs b k

body-replaced : (old new : ℕ) (blocks : List BlockData) (b : ℕ) → (body_at (map (block_replaced old new) blocks) b).instrs ≡ map (entry_replaced old new) (body_at blocks b).instrs
body-replaced old new [] b = refl
body-replaced old new (c ∷ cs) zero = refl
body-replaced old new (c ∷ cs) (suc b) = body-replaced old new cs b

id_ahead-replaced : (old new : ℕ) (es : List (ℕ × InstrData)) (k : ℕ) → id_ahead (map (entry_replaced old new) es) k ≡ id_ahead es k
id_ahead-replaced old new es zero = refl
id_ahead-replaced old new es (suc k) = ap (option_map id_named) (nth_id-replaced old new es k)

ends-replaced : (old new : ℕ) (blocks : List BlockData) → map body_of (map (block_replaced old new) blocks) ≡ map body_of blocks
ends-replaced old new [] = refl
ends-replaced old new (b ∷ bs) = ap₂ (λ (x : Body) (xs : List Body). x ∷ xs) one (ends-replaced old new bs)
  where
    one : body_of (block_replaced old new b) ≡ body_of b
    one = rw (length-map b.instrs (entry_replaced old new))
        (ap₂ (λ (first last : Option InstrId). record (body_of b) { first = first; last = last }) (ap (option_map id_named) (nth_id-replaced old new b.instrs 0)) (id_ahead-replaced old new b.instrs (length b.instrs)))

slice_get-map : {X Y : Type 0} (f : X → Y) (xs : List X) (k : ℕ) → slice_get (map f xs) k ≡ option_map f (slice_get xs k)
slice_get-map f [] k = refl
slice_get-map f (x ∷ xs) zero = refl
slice_get-map f (x ∷ xs) (suc k) = slice_get-map f xs k

slot_at-replaced : (old new : ℕ) (es : List (ℕ × InstrData)) (k : ℕ) → slot_changed (instr_replaced old new) (slot_at es k) ≡ slot_at (map (entry_replaced old new) es) k
slot_at-replaced old new es k = rw (slice_get-map (entry_replaced old new) es k, id_ahead-replaced old new es k, nth_id-replaced old new es (k + 1)) refl

has_instr-replaced : (old new id : ℕ) (blocks : List BlockData) → list_any (has_instr id) (map (block_replaced old new) blocks) ≡ list_any (has_instr id) blocks
has_instr-replaced old new id [] = refl
has_instr-replaced old new id (b ∷ bs) = ap₂ (λ (x y : Bool). x || y) (one b.instrs) (has_instr-replaced old new id bs)
  where
    one : (es : List (ℕ × InstrData)) → list_any (λ p. p.0 == id) (map (entry_replaced old new) es) ≡ list_any (λ p. p.0 == id) es
    one [] = refl
    one (e ∷ es) = ap (λ (x : Bool). (e.0 == id) || x) (one es)

linked-replaced : (bodies : List Body) (slots : List Slot) (blocks : List BlockData) (old new : ℕ) → IsLinked bodies slots blocks → IsLinked bodies (map (slot_changed (instr_replaced old new)) slots) (map (block_replaced old new) blocks)
linked-replaced bodies slots blocks old new linked = record {
  ends = linked.ends ∙ sym (ends-replaced old new blocks);
  linked = λ id b k h.
      slice_get-map (slot_changed (instr_replaced old new)) slots id
      ∙ ap (option_map (slot_changed (instr_replaced old new))) (linked.linked id b k (sym (id_in-replaced old new blocks b k) ∙ h))
      ∙ ap Some (slot_at-replaced old new (body_at blocks b).instrs k ∙ ap (λ (es : List (ℕ × InstrData)). slot_at es k) (sym (body-replaced old new blocks b)));
  empty = λ id s found none. empty id s (slice_get slots id) refl (sym (slice_get-map (slot_changed (instr_replaced old new)) slots id) ∙ found) (sym (has_instr-replaced old new id blocks) ∙ none);
}
  where
    empty : (id : ℕ) (s : Slot) (o : Option Slot) → slice_get slots id ≡ o → option_map (slot_changed (instr_replaced old new)) o ≡ Some s → list_any (has_instr id) blocks ≡ false → s.entry ≡ None
    empty id s None at found none = cc
    empty id s (Some t) at found none =
        let same : slot_changed (instr_replaced old new) t ≡ s = cc in
        sym (ap (λ (x : Slot). x.entry) same) ∙ ap (option_map (λ (p : ℕ × InstrData). (p.0, instr_replaced old new p.1))) (linked.empty id t at none)

pub spelled-moved : (bodies : List Body) (slots : List Slot) (places : List Place) (m moved : Mentions) (blocks : List BlockData) (old new : ℕ) → old ≢ new → AreUsersMoved m moved places old new → IsSpelled bodies slots places m blocks → IsSpelled bodies (map (slot_changed (instr_replaced old new)) slots) places moved (map (block_replaced old new) blocks)
spelled-moved bodies slots places m moved blocks old new apart is_moved spelled = record {
  given = spelled.given ∙ sym (length-map slots (slot_changed (instr_replaced old new)));
  own = rw (length-map slots (slot_changed (instr_replaced old new))) (record {
    once = λ id. rw (uses_of-replaced old new id blocks) (spelled.own.once id);
    given = λ id h. uses_of-replaced old new id blocks ∙ spelled.own.given id h;
  });
  linked = linked-replaced bodies slots blocks old new spelled.linked;
  order = record {
    home = λ id b k h. spelled.order.home id b k (sym (id_in-replaced old new blocks b k) ∙ h);
    inside = λ id b k p h. spelled.order.inside id b k p (sym (id_in-replaced old new blocks b k) ∙ h);
    rising = λ b j k x y p q hx hy. spelled.order.rising b j k x y p q (sym (id_in-replaced old new blocks b j) ∙ hx) (sym (id_in-replaced old new blocks b k) ∙ hy);
  };
  has_mentions = moved-lists places blocks old new m moved apart spelled.order is_moved spelled.has_mentions;
}

-- ---- those that are listed are all users

named-parts : (id : ℕ) (b : Bool) (xs ys : List InstrId) → b ≡ true → list_any (λ user. user.0 == id) (xs ++ (one_if b (id_named id) ++ ys)) ≡ true
named-parts id b [] ys h = rw (h, eq-eqb id id refl) refl
named-parts id b (x ∷ xs) ys h =
    or_right (x.0 == id) (list_any (λ user. user.0 == id) (xs ++ (one_if b (id_named id) ++ ys))) (named-parts id b xs ys h)

pub users-listed : (bodies : List Body) (slots : List Slot) (places : List Place) (m : Mentions) (blocks : List BlockData) (reg : ℕ) → IsSpelled bodies slots places m blocks → AreUsers slots reg (mentioning (use_key reg) (all_instrs blocks))
users-listed bodies slots places m blocks reg spelled = record {
  given = λ k d within. Each-get_or (λ (user : InstrId). user.0 < length slots) (mentioning (use_key reg) (all_instrs blocks)) k d within
      (Each-mentioning (λ (user : InstrId). user.0 < length slots) (use_key reg) (all_instrs blocks)
      (Each-all_instrs (λ e. e.0 < length slots) blocks (λ b k e h. rw (← spelled.given) (order-within places blocks b k e.0 spelled.order (ap (option_map (λ (p : ℕ × InstrData). p.0)) h)))));
  named = named;
}
  where
    some : (o : Option (ℕ × InstrData)) → list_any (is_use_of reg) (operands_of o) ≡ true → is_some o ≡ true
    some None h = cc
    some (Some p) h = refl

    named : (id : ℕ) (s : Slot) → slice_get slots id ≡ Some s → list_any (is_use_of reg) (operands_of s.entry) ≡ true → list_any (λ user. user.0 == id) (mentioning (use_key reg) (all_instrs blocks)) ≡ true
    named id s found used =
        let live : is_in blocks id ≡ true = sym (linked-tells bodies slots blocks id s spelled.linked found) ∙ some s.entry used in
        let spot = spot_of blocks id in
        let slot : s ≡ slot_at (body_at blocks spot.block).instrs spot.at = cc (linked-slot bodies slots blocks id spelled.linked live) in
        let stands = id_in-spot blocks id live in
        entry_of (list_any (λ (user : InstrId). user.0 == id) (mentioning (use_key reg) (all_instrs blocks)) ≡ true) blocks spot.block spot.at id stands
        (λ i here.
        let front = ahead blocks spot.block spot.at in
        let back = behind blocks spot.block (suc spot.at) in
        let there : uses reg (id, i) ≡ true = sym (ap (λ (o : Option (ℕ × InstrData)). list_any (is_use_of reg) (operands_of o)) (ap (λ (t : Slot). t.entry) slot ∙ here)) ∙ used in
        ap (list_any (λ (user : InstrId). user.0 == id)) (ap (mentioning (use_key reg)) (all-split-at blocks spot.block spot.at (id, i) (id_in-within id blocks spot.block spot.at stands) here) ∙ mentioning-parts (use_key reg) front (id, i) back)
        ∙ named-parts id (mentions (use_key reg) (id, i)) (mentioning (use_key reg) front) (mentioning (use_key reg) back) (mentions-use reg (id, i) ∙ there))
