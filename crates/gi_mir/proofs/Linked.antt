-- An arena that is linked as blocks: what is read of it.
use Rattle.std.proofs.Common.{◌≡◌, ◌≢◌, ℕ, zero, suc, ◌-◌, ◌<◌, Bool, true, false, cond, List, [], ◌∷◌, Option, Some, None, ◌⊎◌, inl, inr, length, get_or, refl, sym, ap, ◌∙◌, arith}
use Rattle.std.specs.Prelude.{slice_get, option_map, is_some, ◌==◌, Contains}
use Rattle.std.specs.List.{position_or_len}
use Rattle.std.proofs.lemmas.Bool.Decides.{nat_tests}
use Rattle.std.proofs.lemmas.List.{get_or-map, length-map}
use Rattle.std.proofs.lemmas.Option.{slice_get_past, slice_get_within, get_or_from_slice_get}
use Rattle.gi_mir.specs.declared.block.Body.{Body}
use Rattle.gi_mir.specs.declared.block.InstrId.{InstrId}
use Rattle.gi_mir.specs.declared.block.Slot.{Slot}
use Rattle.gi_mir.specs.declared.place.Place.{Place}
use Rattle.gi_mir.specs.declared.room.Gap.{Gap}
use Rattle.gi_mir.specs.Data.{InstrData, BlockData}
use Rattle.gi_mir.specs.Edit.{empty_block, has_instr, ids_of, place_of}
use Rattle.gi_mir.specs.Places.{body_at, comes_before, id_in, nth_id, place}
use Rattle.gi_mir.specs.Arena.{HasOrder, IsLinked, body_of, gap_at, id_ahead, id_named, is_in, slot_at, spot_of}
use Rattle.gi_mir.proofs.Located.{has_instr-Contains, nth_id-place_of}
use Rattle.gi_mir.proofs.Places.{position_or_len-passes}

-- ---- where an id stands

pub id_in-spot : (blocks : List BlockData) (id : ℕ) → is_in blocks id ≡ true → id_in blocks (spot_of blocks id).block (spot_of blocks id).at ≡ Some id
id_in-spot blocks id live =
    nth_id-place_of id (get_or blocks (position_or_len (has_instr id) blocks) empty_block).instrs (position_or_len-passes (has_instr id) blocks empty_block live)

-- the place of an id that is named in a block
pub id_in-named : (blocks : List BlockData) (b id : ℕ) → Contains (ids_of (body_at blocks b)) id → id_in blocks b (place_of id (body_at blocks b).instrs) ≡ Some id
id_in-named blocks b id named = nth_id-place_of id (body_at blocks b).instrs (has_instr-Contains id (body_at blocks b) named)

-- ---- what is read of an arena

pub linked-slot : (bodies : List Body) (slots : List Slot) (blocks : List BlockData) (id : ℕ) → IsLinked bodies slots blocks → is_in blocks id ≡ true → slice_get slots id ≡ Some (slot_at (body_at blocks (spot_of blocks id).block).instrs (spot_of blocks id).at)
linked-slot bodies slots blocks id linked live =
    linked.linked id (spot_of blocks id).block (spot_of blocks id).at (id_in-spot blocks id live)

pub linked-missing : (bodies : List Body) (slots : List Slot) (blocks : List BlockData) (id : ℕ) → IsLinked bodies slots blocks → slice_get slots id ≡ None → is_in blocks id ≡ false
linked-missing bodies slots blocks id linked none = by (is_in blocks id) refl
  where
    by : (b : Bool) → is_in blocks id ≡ b → is_in blocks id ≡ false
    by true h = cc (linked-slot bodies slots blocks id linked h)
    by false h = h

-- a place of the arena has an instruction where a block has its id
pub linked-tells : (bodies : List Body) (slots : List Slot) (blocks : List BlockData) (id : ℕ) (s : Slot) → IsLinked bodies slots blocks → slice_get slots id ≡ Some s → is_some s.entry ≡ is_in blocks id
linked-tells bodies slots blocks id s linked found = by (is_in blocks id) refl
  where
    entry : (o : Option (ℕ × InstrData)) → option_map (λ p. p.0) o ≡ Some id → is_some o ≡ true
    entry None h = cc
    entry (Some p) h = refl

    by : (b : Bool) → is_in blocks id ≡ b → is_some s.entry ≡ is_in blocks id
    by true h =
        let spot = spot_of blocks id in
        let same : s ≡ slot_at (body_at blocks spot.block).instrs spot.at = cc (linked-slot bodies slots blocks id linked h) in
        ap (λ (t : Slot). is_some t.entry) same ∙ entry (slice_get (body_at blocks spot.block).instrs spot.at) (id_in-spot blocks id h) ∙ sym h
    by false h = ap is_some (linked.empty id s found h) ∙ sym h

pub linked-body : (bodies : List Body) (slots : List Slot) (blocks : List BlockData) (b : ℕ) (x : Body) → IsLinked bodies slots blocks → b < length blocks → x ≡ get_or bodies b x → x ≡ body_of (body_at blocks b)
linked-body bodies slots blocks b x linked within is =
    is ∙ ap (λ (xs : List Body). get_or xs b x) linked.ends ∙ get_or-map body_of blocks b empty_block x within

pub linked-bodies : (bodies : List Body) (slots : List Slot) (blocks : List BlockData) → IsLinked bodies slots blocks → length bodies ≡ length blocks
linked-bodies bodies slots blocks linked = ap length linked.ends ∙ length-map blocks body_of

-- ---- the order of an arena

pub order-place : (P : Type 0) (places : List Place) (blocks : List BlockData) (b k id : ℕ) → HasOrder places blocks → id_in blocks b k ≡ Some id → ((p : Place) → slice_get places id ≡ Some p → p.block ≡ b → P) → P
order-place P places blocks b k id order h f = by (slice_get places id) refl (order.home id b k h)
  where
    by : (o : Option Place) → slice_get places id ≡ o → option_map (λ p. p.block) o ≡ Some b → P
    by None e g = absurd (cc)
    by (Some p) e g = let same : p.block ≡ b = cc in f p e same

pub order-within : (places : List Place) (blocks : List BlockData) (b k id : ℕ) → HasOrder places blocks → id_in blocks b k ≡ Some id → id < length places
order-within places blocks b k id order h =
    order-place (id < length places) places blocks b k id order h (λ p e g. slice_get_within places id p e)

pub order-home : (places : List Place) (blocks : List BlockData) (b k id : ℕ) (p : Place) → HasOrder places blocks → id_in blocks b k ≡ Some id → p ≡ get_or places id p → p.block ≡ b
order-home places blocks b k id p order h is =
    order-place (p.block ≡ b) places blocks b k id order h (λ q e g. ap (λ (x : Place). x.block) (is ∙ get_or_from_slice_get places id q p e) ∙ g)

pub order-read : (places : List Place) (blocks : List BlockData) (b k id : ℕ) (p : Place) → HasOrder places blocks → id_in blocks b k ≡ Some id → p ≡ get_or places id p → slice_get places id ≡ Some p
order-read places blocks b k id p order h is =
    order-place (slice_get places id ≡ Some p) places blocks b k id order h (λ q e g. e ∙ ap Some (sym (is ∙ get_or_from_slice_get places id q p e)))

-- places are in the order of the blocks
pub order-tells : (places : List Place) (blocks : List BlockData) (b j x c k y : ℕ) (p q : Place) → HasOrder places blocks → id_in blocks b j ≡ Some x → id_in blocks c k ≡ Some y → slice_get places x ≡ Some p → slice_get places y ≡ Some q → p.block ≡ b → q.block ≡ c → comes_before p q ≡ comes_before (place b j) (place c k)
order-tells places blocks b j x c k y p q order hx hy px qy pb qc =
    by (equal_or_not b c)
  where
    equal_or_not : (m n : ℕ) → (m ≡ n) ⊎ (m ≢ n)
    equal_or_not m n = grind arith

    three : (m n : ℕ) → (m < n) ⊎ ((n < m) ⊎ (m ≡ n))
    three m n = grind arith

    less : b ≡ c → p.at < q.at → j < k → comes_before p q ≡ comes_before (place b j) (place c k)
    less e lt g = grind (arith, nat_tests)

    more : b ≡ c → q.at < p.at → k < j → comes_before p q ≡ comes_before (place b j) (place c k)
    more e lt g = grind (arith, nat_tests)

    same : b ≡ c → p.at ≡ q.at → j ≡ k → comes_before p q ≡ comes_before (place b j) (place c k)
    same e lt g = grind (arith, nat_tests)

    apart : b ≢ c → comes_before p q ≡ comes_before (place b j) (place c k)
    apart ne = grind (arith, nat_tests)

    here : b ≡ c → (j < k) ⊎ ((k < j) ⊎ (j ≡ k)) → comes_before p q ≡ comes_before (place b j) (place c k)
    here e (inl lt) = less e (order.rising b j k x y p q hx (ap (λ (m : ℕ). id_in blocks m k) e ∙ hy) px qy lt) lt
    here e (inr (inl gt)) = more e (order.rising b k j y x q p (ap (λ (m : ℕ). id_in blocks m k) e ∙ hy) hx qy px gt) gt
    here e (inr (inr eq)) =
        let ids : x ≡ y = cc (hx, ap (λ (m : ℕ). id_in blocks m j) e, ap (λ (m : ℕ). id_in blocks c m) eq, hy) in
        let places_same : p ≡ q = cc (px, ap (slice_get places) ids, qy) in
        same e (ap (λ (r : Place). r.at) places_same) eq

    by : (b ≡ c) ⊎ (b ≢ c) → comes_before p q ≡ comes_before (place b j) (place c k)
    by (inl e) = here e (three j k)
    by (inr ne) = apart ne

-- ---- neighbours by their ids

pub same_named : (o : Option ℕ) → option_map (λ id. id.0) (option_map id_named o) ≡ o
same_named None = refl
same_named (Some n) = refl

pub last-named : (instrs : List (ℕ × InstrData)) → option_map (λ id. id.0) (id_ahead instrs (length instrs)) ≡ nth_id instrs (length instrs - 1)
last-named [] = refl
last-named (e ∷ es) =
    let one : suc (length es) - 1 ≡ length es = omega arith in
    rw one (same_named (nth_id (e ∷ es) (length es)))

pub ahead-named : (instrs : List (ℕ × InstrData)) (k : ℕ) → option_map (λ id. id.0) (id_ahead instrs k) ≡ cond (k == 0) None (nth_id instrs (k - 1))
ahead-named instrs zero = refl
ahead-named instrs (suc k) =
    let one : suc k - 1 ≡ k = omega arith in
    let some : (suc k == 0) ≡ false = grind (arith, nat_tests) in
    rw (some, one) (same_named (nth_id instrs k))

-- ---- the gap before an instruction, and at a block's end

pub gap-named : (bodies : List Body) (slots : List Slot) (blocks : List BlockData) (b : ℕ) (id : InstrId) (s : Slot) → IsLinked bodies slots blocks → Contains (ids_of (body_at blocks b)) id.0 → s ≡ get_or slots id.0 s
    → ◌≡◌ {A = Gap} (record { block = b; previous = s.previous; next = Some id }) (gap_at blocks (place b (place_of id.0 (body_at blocks b).instrs)))
gap-named bodies slots blocks b id s linked named is =
    let stands = id_in-named blocks b id.0 named in
    let slot : s ≡ slot_at (body_at blocks b).instrs (place_of id.0 (body_at blocks b).instrs) = is ∙ get_or_from_slice_get slots id.0 _ s (linked.linked id.0 b (place_of id.0 (body_at blocks b).instrs) stands) in
    gap_same b _ _ _ _ (ap (λ (t : Slot). t.previous) slot) (sym (ap (option_map id_named) stands))
  where
    gap_same : (b : ℕ) (p q n m : Option InstrId) → p ≡ q → n ≡ m → ◌≡◌ {A = Gap} (record { block = b; previous = p; next = n }) (record { block = b; previous = q; next = m })
    gap_same b p q n m x y = rw (x, y) refl

pub gap-last : (bodies : List Body) (slots : List Slot) (blocks : List BlockData) (b : ℕ) (x : Body) → IsLinked bodies slots blocks → b < length blocks → x ≡ get_or bodies b x
    → ◌≡◌ {A = Gap} (record { block = b; previous = x.last; next = None }) (gap_at blocks (place b (length (body_at blocks b).instrs)))
gap-last bodies slots blocks b x linked within is =
    gap_same b _ _ _ _ (ap (λ (y : Body). y.last) (linked-body bodies slots blocks b x linked within is))
    (sym (ap (λ (o : Option (ℕ × InstrData)). option_map id_named (option_map (λ p. p.0) o)) (slice_get_past (body_at blocks b).instrs (length (body_at blocks b).instrs) (omega arith))))
  where
    gap_same : (b : ℕ) (p q n m : Option InstrId) → p ≡ q → n ≡ m → ◌≡◌ {A = Gap} (record { block = b; previous = p; next = n }) (record { block = b; previous = q; next = m })
    gap_same b p q n m x y = rw (x, y) refl
