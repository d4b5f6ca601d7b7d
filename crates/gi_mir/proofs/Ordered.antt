-- What an edit of one block makes of the order that labels tell.
use Rattle.std.proofs.Common.{◌≡◌, ◌≢◌, ℕ, zero, suc, ◌-◌, ◌^◌, ◌<◌, ◌≤◌, List, [], ◌∷◌, ◌++◌, Some, ◌⊎◌, inl, inr, ⊎_elim, length, set, refl, sym, ap, ◌∙◌, arith}
use Rattle.std.specs.Prelude.{insert, remove, slice_get, option_map}
use Rattle.std.proofs.lemmas.Bool.{cases_eq}
use Rattle.std.proofs.lemmas.List.{get_or-set_same, get_or-set_other}
use Rattle.gi_mir.specs.declared.place.Place.{Place}
use Rattle.gi_mir.specs.Data.{InstrData, BlockData}
use Rattle.gi_mir.specs.Edit.{empty_block, block_changed_at}
use Rattle.gi_mir.specs.Places.{body_at, id_in, nth_id, place}
use Rattle.gi_mir.specs.Arena.{FitsGap, HasOrder, gap_at, id_named}
use Rattle.gi_mir.proofs.Edits.{less_or_not, slice_get-insert_at, slice_get-insert_before, slice_get-insert_behind, slice_get-push, slice_get-pushed_before, slice_get-remove_behind}
use Rattle.gi_mir.proofs.Linked.{order-place, order-within}
use Rattle.gi_mir.proofs.Located.{nth_id-changed_at, nth_id-within}

-- ---- a block with some of the instructions that it had, in their order

-- how a block's new places show the old ones
pub record IsPicked (old new : List (ℕ × InstrData)) (from : ℕ → ℕ) : Type 0 where
  pub rises : (j k : ℕ) → j < k → from j < from k
  pub stood : (j id : ℕ) → nth_id new j ≡ Some id → nth_id old (from j) ≡ Some id

pub HasOrder-picked : (places : List Place) (blocks : List BlockData) (b : ℕ) (new : BlockData) (from : ℕ → ℕ) → b < length blocks → IsPicked (body_at blocks b).instrs new.instrs from → HasOrder places blocks → HasOrder places (set blocks b new)
HasOrder-picked places blocks b new from within picked order = record {
  home = λ id c k h. ⊎_elim
      (λ (e : c ≡ b). order.home id c (from k) (mine c k id e h))
      (λ (ne : c ≢ b). order.home id c k (other c k id ne h)) (cases_eq c b);
  inside = λ id c k p h. ⊎_elim
      (λ (e : c ≡ b). order.inside id c (from k) p (mine c k id e h))
      (λ (ne : c ≢ b). order.inside id c k p (other c k id ne h)) (cases_eq c b);
  rising = λ c j k x y p q hx hy px qy lt. ⊎_elim
      (λ (e : c ≡ b). order.rising c (from j) (from k) x y p q (mine c j x e hx) (mine c k y e hy) px qy (picked.rises j k lt))
      (λ (ne : c ≢ b). order.rising c j k x y p q (other c j x ne hx) (other c k y ne hy) px qy lt) (cases_eq c b);
}
  where
    mine : (c k id : ℕ) → c ≡ b → id_in (set blocks b new) c k ≡ Some id → id_in blocks c (from k) ≡ Some id
    mine c k id e h =
        let there : body_at (set blocks b new) c ≡ new = ap (λ (x : ℕ). body_at (set blocks b new) x) e ∙ get_or-set_same blocks b new empty_block within in
        ap (λ (x : ℕ). id_in blocks x (from k)) e ∙ picked.stood k id (sym (ap (λ (x : BlockData). nth_id x.instrs k) there) ∙ h)

    other : (c k id : ℕ) → c ≢ b → id_in (set blocks b new) c k ≡ Some id → id_in blocks c k ≡ Some id
    other c k id ne h = sym (ap (λ (x : BlockData). nth_id x.instrs k) (get_or-set_other blocks b c new empty_block ne)) ∙ h

pub HasOrder-changed : (places : List Place) (blocks : List BlockData) (b k : ℕ) (edit : InstrData → InstrData) → b < length blocks → HasOrder places blocks → HasOrder places (set blocks b (block_changed_at edit k (body_at blocks b)))
HasOrder-changed places blocks b k edit within order =
    HasOrder-picked places blocks b (block_changed_at edit k (body_at blocks b)) (λ j. j) within (record {
      rises = λ i j lt. lt;
      stood = λ j id h. sym (nth_id-changed_at edit (body_at blocks b).instrs k j) ∙ h;
    }) order

-- the place that an instruction had before one was taken out
abbrev past : ℕ → ℕ → ℕ
past zero j = suc j
past (suc k) zero = zero
past (suc k) (suc j) = suc (past k j)

past-rises : (k i j : ℕ) → i < j → past k i < past k j
past-rises zero i j lt = omega arith
past-rises (suc k) i zero lt = absurd (omega arith)
past-rises (suc k) zero (suc j) lt = omega arith
past-rises (suc k) (suc i) (suc j) lt = omega (arith, past-rises k i j (omega arith))

past-stood : (es : List (ℕ × InstrData)) (k j : ℕ) → slice_get (remove es k) j ≡ slice_get es (past k j)
past-stood es zero j = slice_get-remove_behind es 0 j (omega arith)
past-stood [] (suc k) zero = refl
past-stood [] (suc k) (suc j) = refl
past-stood (e ∷ es) (suc k) zero = refl
past-stood (e ∷ es) (suc k) (suc j) = past-stood es k j

pub HasOrder-removed : (places : List Place) (blocks : List BlockData) (b k : ℕ) → b < length blocks → HasOrder places blocks → HasOrder places (set blocks b (record (body_at blocks b) { instrs = remove (body_at blocks b).instrs k }))
HasOrder-removed places blocks b k within order =
    HasOrder-picked places blocks b (record (body_at blocks b) { instrs = remove (body_at blocks b).instrs k }) (past k) within (record {
      rises = past-rises k;
      stood = λ j id h. sym (ap (option_map (λ (p : ℕ × InstrData). p.0)) (past-stood (body_at blocks b).instrs k j)) ∙ h;
    }) order

-- ---- an instruction that comes in

-- a label between those of the instructions around a place
pub record IsBetween (places : List Place) (blocks : List BlockData) (spot : Place) (at : ℕ) : Type 0 where
  pub low : (k id : ℕ) (p : Place) → k < at → id_in blocks spot.block k ≡ Some id → slice_get places id ≡ Some p → p.at < spot.at
  pub high : (k id : ℕ) (p : Place) → at ≤ k → id_in blocks spot.block k ≡ Some id → slice_get places id ≡ Some p → spot.at < p.at

nth_there : (es : List (ℕ × InstrData)) (k : ℕ) → k < length es → (P : Type 0) → ((id : ℕ) → nth_id es k ≡ Some id → P) → P
nth_there [] k lt P f = absurd (omega arith)
nth_there (e ∷ es) zero lt P f = f e.0 refl
nth_there (e ∷ es) (suc k) lt P f = nth_there es k (omega arith) P f

pub IsBetween-fits : (places : List Place) (blocks : List BlockData) (b at label : ℕ) → at ≤ length (body_at blocks b).instrs → HasOrder places blocks → FitsGap places (gap_at blocks (place b at)) label → IsBetween places blocks (place b label) at
IsBetween-fits places blocks b at label bound order fits = record {
  low = λ k id p lt h found. low at k id p bound refl lt h found;
  high = λ k id p ge h found. high k id p ge h found (cases_eq at k);
}
  where
    low : (m k id : ℕ) (p : Place) → m ≤ length (body_at blocks b).instrs → at ≡ m → k < m → id_in blocks b k ≡ Some id → slice_get places id ≡ Some p → p.at < label
    low zero k id p le e lt h found = absurd (omega arith)
    low (suc m) k id p le e lt h found = nth_there (body_at blocks b).instrs m (omega arith) (p.at < label)
        (λ i hi. order-place (p.at < label) places blocks b m i order hi
        (λ q qi qb.
        let near : q.at < label = fits.above (id_named i) q (ap (λ (x : ℕ). (gap_at blocks (place b x)).previous) e ∙ ap (option_map id_named) hi) qi in
        ⊎_elim
        (λ (e2 : k ≡ m).
        let same : id ≡ i = cc in
        let one : p ≡ q = cc (ap (slice_get places) same) in
        let at_one = ap (λ (x : Place). x.at) one in
        omega arith)
        (λ (ne : k ≢ m). let less = order.rising b k m id i p q h hi found qi (omega arith) in omega arith)
        (cases_eq k m)))

    high : (k id : ℕ) (p : Place) → at ≤ k → id_in blocks b k ≡ Some id → slice_get places id ≡ Some p → (at ≡ k) ⊎ (at ≢ k) → label < p.at
    high k id p ge h found c = ⊎_elim
        (λ (e : at ≡ k). fits.below (id_named id) p (ap (option_map id_named) (ap (λ (x : ℕ). id_in blocks b x) e ∙ h)) found)
        (λ (ne : at ≢ k).
        let there = nth_id-within id (body_at blocks b).instrs k h in
        nth_there (body_at blocks b).instrs at (omega arith) (label < p.at)
        (λ i hi. order-place (label < p.at) places blocks b at i order hi
        (λ q qi qb.
        let near : label < q.at = fits.below (id_named i) q (ap (option_map id_named) hi) qi in
        let less = order.rising b at k i id q p hi h qi found (omega arith) in
        omega arith)))
        c

-- one more place that is written down
pub HasOrder-push : (places : List Place) (more : Place) (blocks : List BlockData) → HasOrder places blocks → HasOrder (places ++ more ∷ []) blocks
HasOrder-push places more blocks order = record {
  home = λ id b k h. ap (option_map (λ (p : Place). p.block)) (same id b k h) ∙ order.home id b k h;
  inside = λ id b k p h found. order.inside id b k p h (sym (same id b k h) ∙ found);
  rising = λ b j k x y p q hx hy px qy lt. order.rising b j k x y p q hx hy (sym (same x b j hx) ∙ px) (sym (same y b k hy) ∙ qy) lt;
}
  where
    same : (id b k : ℕ) → id_in blocks b k ≡ Some id → slice_get (places ++ more ∷ []) id ≡ slice_get places id
    same id b k h =
        let within = order-within places blocks b k id order h in
        slice_get-pushed_before places more id (λ e. absurd (omega arith))

-- an instruction stands at j that stood at i: in another block, before the new one, or behind it
abbrev IsShown : (b at c i j : ℕ) → Type 0
IsShown b at c i j = ((c ≢ b) × (i ≡ j)) ⊎ (((j < at) × (i ≡ j)) ⊎ ((c ≡ b) × ((at ≤ i) × (j ≡ suc i))))

pub HasOrder-inserted : (places : List Place) (blocks : List BlockData) (b at label : ℕ) (x : ℕ × InstrData) → b < length blocks → at ≤ length (body_at blocks b).instrs → x.0 ≡ length places → 0 < label → label < 2 ^ 62
    → IsBetween places blocks (place b label) at → HasOrder places blocks
    → HasOrder (places ++ place b label ∷ []) (set blocks b (record (body_at blocks b) { instrs = insert (body_at blocks b).instrs at x }))
HasOrder-inserted places blocks b at label x within bound count positive small between order = record {
  home = λ id c k h. stood (option_map (λ p. p.block) (slice_get (places ++ place b label ∷ []) id) ≡ Some c) id c k h
      (λ j was le. pushed.home id c j was)
      (λ here is e. ap (λ (i : ℕ). option_map (λ (p : Place). p.block) (slice_get (places ++ place b label ∷ []) i)) is ∙ ap (option_map (λ (p : Place). p.block)) new ∙ ap Some (sym here));
  inside = λ id c k p h found. stood ((0 < p.at) × (p.at < 2 ^ 62)) id c k h
      (λ j was le. pushed.inside id c j p was found)
      (λ here is e. let same : p ≡ place b label = cc (ap (slice_get (places ++ place b label ∷ [])) is, new) in let is_at = ap (λ (q : Place). q.at) same in (omega arith, rw is_at small));
  rising = λ c j k y z p q hy hz py qz lt. stood (p.at < q.at) y c j hy
      (λ i was how. stood (p.at < q.at) z c k hz
      (λ m was_z how_z. pushed.rising c i m y z p q was was_z py qz (order_of c i j m k how how_z lt))
      (λ here is e.
      let q_new : q ≡ place b label = cc (ap (slice_get (places ++ place b label ∷ [])) is, new) in
      let q_at = ap (λ (r : Place). r.at) q_new in
      let less = between.low i y p (early c i j k how e lt) (sym (ap (λ (d : ℕ). id_in blocks d i) here) ∙ was) (old y c i was p py) in
      omega arith))
      (λ here is e. stood (p.at < q.at) z c k hz
      (λ m was how.
      let p_new : p ≡ place b label = cc (ap (slice_get (places ++ place b label ∷ [])) is, new) in
      let p_at = ap (λ (r : Place). r.at) p_new in
      let more = between.high m z q (late c m k j how here e lt) (sym (ap (λ (d : ℕ). id_in blocks d m) here) ∙ was) (old z c m was q qz) in
      omega arith)
      (λ here2 is2 e2. absurd (omega arith)));
}
  where
    pushed : HasOrder (places ++ place b label ∷ []) blocks
    pushed = HasOrder-push places (place b label) blocks order

    new : slice_get (places ++ place b label ∷ []) (length places) ≡ Some (place b label)
    new = slice_get-push places (place b label)

    old : (id c k : ℕ) → id_in blocks c k ≡ Some id → (p : Place) → slice_get (places ++ place b label ∷ []) id ≡ Some p → slice_get places id ≡ Some p
    old id c k h p found =
        let lt = order-within places blocks c k id order h in
        sym (slice_get-pushed_before places (place b label) id (λ e. absurd (omega arith))) ∙ found

    order_of : (c i j m k : ℕ) → IsShown b at c i j → IsShown b at c m k → j < k → i < m
    order_of c i j m k how how_z lt = grind arith

    early : (c i j k : ℕ) → IsShown b at c i j → k ≡ at → j < k → i < at
    early c i j k how e lt = grind arith

    late : (c m k j : ℕ) → IsShown b at c m k → c ≡ b → j ≡ at → j < k → at ≤ m
    late c m k j how here e lt = grind arith

    stood : (P : Type 0) (id c k : ℕ) → id_in (set blocks b (record (body_at blocks b) { instrs = insert (body_at blocks b).instrs at x })) c k ≡ Some id
        → ((j : ℕ) → id_in blocks c j ≡ Some id → IsShown b at c j k → P) → (c ≡ b → id ≡ length places → k ≡ at → P) → P
    stood P id c k h f g = ⊎_elim
        (λ (e : c ≡ b).
        let there = ap (λ (y : ℕ). body_at (set blocks b (record (body_at blocks b) { instrs = insert (body_at blocks b).instrs at x })) y) e ∙ get_or-set_same blocks b (record (body_at blocks b) { instrs = insert (body_at blocks b).instrs at x }) empty_block within in
        let h2 : nth_id (insert (body_at blocks b).instrs at x) k ≡ Some id = sym (ap (λ (y : BlockData). nth_id y.instrs k) there) ∙ h in
        ⊎_elim
        (λ (lt : k < at). f k (ap (λ (y : ℕ). id_in blocks y k) e ∙ sym (ap (option_map (λ (p : ℕ × InstrData). p.0)) (slice_get-insert_before (body_at blocks b).instrs at k x lt bound)) ∙ h2) (inr (inl (lt, refl))))
        (λ (ge : at ≤ k). ⊎_elim
        (λ (is : k ≡ at).
        let mine : nth_id (insert (body_at blocks b).instrs at x) k ≡ Some x.0 = ap (nth_id (insert (body_at blocks b).instrs at x)) is ∙ ap (option_map (λ (p : ℕ × InstrData). p.0)) (slice_get-insert_at (body_at blocks b).instrs at x bound) in
        let same : id ≡ x.0 = cc in
        g e (same ∙ count) is)
        (λ (ne : k ≢ at).
        let back : k ≡ suc (k - 1) = omega arith in
        f (k - 1) (ap (λ (y : ℕ). id_in blocks y (k - 1)) e ∙ sym (ap (option_map (λ (p : ℕ × InstrData). p.0)) (slice_get-insert_behind (body_at blocks b).instrs at (k - 1) x (omega arith) bound)) ∙ ap (nth_id (insert (body_at blocks b).instrs at x)) (sym back) ∙ h2) (inr (inr (e, (omega arith, back)))))
        (cases_eq k at)) (less_or_not k at))
        (λ (ne : c ≢ b). f k (sym (ap (λ (y : BlockData). nth_id y.instrs k) (get_or-set_other blocks b c (record (body_at blocks b) { instrs = insert (body_at blocks b).instrs at x }) empty_block ne)) ∙ h) (inl (ne, refl)))
        (cases_eq c b)
