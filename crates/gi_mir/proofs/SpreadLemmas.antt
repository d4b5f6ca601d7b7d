-- Labels rise along a block still, where those of a run are spread over the span that it fills.
use Rattle.std.proofs.Common.{◌≡◌, ℕ, zero, suc, ◌+◌, ◌-◌, ◌*◌, ◌/◌, ◌^◌, ◌<◌, ◌≤◌, ◌≢◌, List, [], ◌∷◌, Option, Some, None, ◌⊎◌, inl, inr, length, get_or, refl, sym, ap, ◌∙◌, arith}
use Rattle.std.specs.Prelude.{slice_get, option_map, unwrap_or}
use Rattle.std.proofs.Math.Nat.{mul-lt-mul_of_pos_right}
use Rattle.std.proofs.lemmas.Bool.{cases_eq}
use Rattle.std.proofs.lemmas.Option.{slice_get_within}
use Rattle.std.proofs.lemmas.Nat.{le-div, div-add-mod'}
use Rattle.gi_mir.specs.Arena.{blocks_of, nth_instr_id, slot_at, HasOrder, IsLinked, IsStored}
use Rattle.gi_mir.specs.Data.{BlockData}
use Rattle.gi_mir.specs.Edit.{empty_block}
use Rattle.gi_mir.specs.Ids.{AreOwnIds}
use Rattle.gi_mir.specs.Labels.{with_label, FillsSpan, HasRoom}
use Rattle.gi_mir.specs.Places.{id_in}
use Rattle.gi_mir.specs.declared.block.Body.{Body}
use Rattle.gi_mir.specs.declared.block.InstrId.{InstrId}
use Rattle.gi_mir.specs.declared.block.Slot.{Slot}
use Rattle.gi_mir.specs.declared.labels.Run.{Run}
use Rattle.gi_mir.specs.declared.labels.Span.{Span}
use Rattle.gi_mir.specs.declared.layout.Layout.{Layout}
use Rattle.gi_mir.specs.declared.place.Place.{Place}
use Rattle.gi_mir.proofs.FormedLemmas.{changed_at-suc}
use Rattle.gi_mir.proofs.LabelLemmas.{next_named, placed}
use Rattle.gi_mir.proofs.Located.{nth_id-within, id_in-within, id_in-once, HasDistinctIds-in}

-- ---- one label more

with_label-same : (places : List Place) (id label : ℕ) → slice_get (with_label places id label) id ≡ option_map (λ (p : Place). record p { at = label }) (slice_get places id)
with_label-same [] id label = refl
with_label-same (p ∷ ps) zero label = refl
with_label-same (p ∷ ps) (suc id) label = rw (changed_at-suc (λ (q : Place). record q { at = label }) id p ps) (with_label-same ps id label)

with_label-other : (places : List Place) (id label x : ℕ) → x ≢ id → slice_get (with_label places id label) x ≡ slice_get places x
with_label-other [] id label x ne = refl
with_label-other (p ∷ ps) zero label zero ne = absurd (ne refl)
with_label-other (p ∷ ps) zero label (suc x) ne = refl
with_label-other (p ∷ ps) (suc id) label zero ne = rw (changed_at-suc (λ (q : Place). record q { at = label }) id p ps) refl
with_label-other (p ∷ ps) (suc id) label (suc x) ne =
    rw (changed_at-suc (λ (q : Place). record q { at = label }) id p ps) (with_label-other ps id label x (λ e. ne (ap suc e)))

length-with_label : (places : List Place) (id label : ℕ) → length (with_label places id label) ≡ length places
length-with_label [] id label = refl
length-with_label (p ∷ ps) zero label = refl
length-with_label (p ∷ ps) (suc id) label = rw (changed_at-suc (λ (q : Place). record q { at = label }) id p ps) (ap suc (length-with_label ps id label))

with_label-home : (places : List Place) (id label x : ℕ) → option_map (λ (p : Place). p.block) (slice_get (with_label places id label) x) ≡ option_map (λ (p : Place). p.block) (slice_get places x)
with_label-home places id label x = by (cases_eq x id)
  where
    kept : (o : Option Place) → option_map (λ (p : Place). p.block) (option_map (λ (p : Place). record p { at = label }) o) ≡ option_map (λ (p : Place). p.block) o
    kept None = refl
    kept (Some p) = refl

    by : (x ≡ id) ⊎ (x ≢ id) → option_map (λ (p : Place). p.block) (slice_get (with_label places id label) x) ≡ option_map (λ (p : Place). p.block) (slice_get places x)
    by (inl e) = rw (e, with_label-same places id label) (kept (slice_get places id))
    by (inr ne) = ap (option_map (λ (p : Place). p.block)) (with_label-other places id label x ne)

-- ---- the numbers

-- a step of at least one, with which a run stays in its span
pub record IsStep (span : Span) (run : Run) (step : ℕ) : Type 0 where
  pub positive : 0 < step
  pub fits : span.low + (run.count + 1) * step ≤ span.end
  pub within : span.end ≤ 2 ^ 62

pub step_of : (span : Span) (run : Run) → HasRoom span run → IsStep span run ((span.end - span.low) / (run.count + 1))
step_of span run has = record {
  positive = le-div 1 (span.end - span.low) (run.count + 1) (omega arith) (omega (arith, has.room));
  fits = by (span.end - span.low) (run.count + 1) (omega (arith, has.room));
  within = has.within;
}
  where
    by : (n m : ℕ) → span.low + n ≡ span.end → span.low + m * (n / m) ≤ span.end
    by n m e = let whole = div-add-mod' n m in grind arith

times_rise : (i j step : ℕ) → i < j → 0 < step → (i + 1) * step < (j + 1) * step
times_rise i j step lt some = let more : i + 1 < j + 1 = omega arith in mul-lt-mul_of_pos_right more some

row_positive : (k step : ℕ) → 0 < step → 0 < (k + 1) * step
row_positive k step some = let k_some : 0 < k + 1 = omega arith in omega (arith, mul-lt-mul_of_pos_right k_some some)

pub label_fits : (span : Span) (run : Run) (step k : ℕ) → IsStep span run step → k < run.count → span.low + (k + 1) * step < span.end
label_fits span run step k is lt = omega (arith, times_rise k run.count step lt is.positive, is.fits)

-- ---- the labels of a run, one after the other

-- the first k instructions of a run have their labels, the others have theirs still, and this one is next
pub record IsSpreading (old new : List Place) (blocks : List BlockData) (span : Span) (run : Run) (step k : ℕ) (id : InstrId) : Type 0 where
  pub fills : FillsSpan old blocks span run
  pub same_length : length new ≡ length old
  pub same_home : (x : ℕ) → option_map (λ (p : Place). p.block) (slice_get new x) ≡ option_map (λ (p : Place). p.block) (slice_get old x)
  pub spread : (j x : ℕ) (p : Place) → j < k → id_in blocks fills.is_run.block (fills.is_run.from + j) ≡ Some x → slice_get new x ≡ Some p → p.at ≡ span.low + (j + 1) * step
  pub others : (x : ℕ) → ((j : ℕ) → j < k → id_in blocks fills.is_run.block (fills.is_run.from + j) ≡ Some x → ⊥) → slice_get new x ≡ slice_get old x
  pub here : k < run.count → id_in blocks fills.is_run.block (fills.is_run.from + k) ≡ Some id.0

pub IsSpreading-none : (places : List Place) (blocks : List BlockData) (span : Span) (run : Run) (step : ℕ) → FillsSpan places blocks span run → IsSpreading places places blocks span run step 0 run.first
IsSpreading-none places blocks span run step fills = record {
  fills = fills;
  same_length = refl;
  same_home = λ x. refl;
  spread = λ j x p lt h g. absurd (omega arith);
  others = λ x none. refl;
  here = λ some. ap (id_in blocks fills.is_run.block) (begin fills.is_run.from) ∙ fills.is_run.first;
}
  where
    begin : (n : ℕ) → n + 0 ≡ n
    begin n = omega arith

pub IsSpreading-within : (old new : List Place) (blocks : List BlockData) (span : Span) (run : Run) (step k : ℕ) (id : InstrId) → HasOrder old blocks → k < run.count → IsSpreading old new blocks span run step k id → id.0 < length new
IsSpreading-within old new blocks span run step k id order lt is =
    omega (arith, is.same_length, placed old blocks is.fills.is_run.block (is.fills.is_run.from + k) id.0 order (is.here lt))

-- the instruction that is next then
pub spread_next : (bodies : List Body) (slots : List Slot) (old new : List Place) (blocks : List BlockData) (span : Span) (run : Run) (step k : ℕ) (id : InstrId) (found : Option InstrId) → IsLinked bodies slots blocks → k + 1 < run.count
    → ((s : Slot) → slice_get slots id.0 ≡ Some s → found ≡ s.next) → (is : IsSpreading old new blocks span run step k id) → id_in blocks is.fills.is_run.block (is.fills.is_run.from + (k + 1)) ≡ Some (unwrap_or found id).0
spread_next bodies slots old new blocks span run step k id found links lt next is =
    let r = is.fills.is_run in
    let instrs = (get_or blocks r.block empty_block).instrs in
    let linked = next (slot_at instrs (r.from + k)) (links.linked id.0 r.block (r.from + k) (is.here (omega arith))) in
    let one : r.from + k + 1 ≡ r.from + (k + 1) = omega arith in
    let last = nth_id-within run.last.0 instrs r.to r.last in
    next_named instrs (r.from + (k + 1)) id found (linked ∙ ap (nth_instr_id instrs) one) (omega (arith, r.size, last))

pub IsSpreading-linked : (bodies : List Body) (slots : List Slot) (old new : List Place) (blocks : List BlockData) (span : Span) (run : Run) (step k : ℕ) (id : InstrId) → IsLinked bodies slots blocks → k < run.count → IsSpreading old new blocks span run step k id → id.0 < length slots
IsSpreading-linked bodies slots old new blocks span run step k id links lt is =
    slice_get_within slots id.0 _ (links.linked id.0 is.fills.is_run.block (is.fills.is_run.from + k) (is.here lt))

pub IsSpreading-step : (old new : List Place) (blocks : List BlockData) (span : Span) (run : Run) (step k n : ℕ) (id next : InstrId) → AreOwnIds blocks n → HasOrder old blocks → k < run.count → (is : IsSpreading old new blocks span run step k id)
    → (k + 1 < run.count → id_in blocks is.fills.is_run.block (is.fills.is_run.from + (k + 1)) ≡ Some next.0) → IsSpreading old (with_label new id.0 (span.low + (k + 1) * step)) blocks span run step (k + 1) next
IsSpreading-step old new blocks span run step k n id next own order lt is then = record {
  fills = is.fills;
  same_length = length-with_label new id.0 (span.low + (k + 1) * step) ∙ is.same_length;
  same_home = λ x. with_label-home new id.0 (span.low + (k + 1) * step) x ∙ is.same_home x;
  spread = λ j x p le h g. by j x p le h g (cases_eq j k);
  others = λ x none. with_label-other new id.0 (span.low + (k + 1) * step) x (not_here x none) ∙ is.others x (λ j less h. none j (omega arith) h);
  here = then;
}
  where
    not_here : (x : ℕ) → ((j : ℕ) → j < k + 1 → id_in blocks is.fills.is_run.block (is.fills.is_run.from + j) ≡ Some x → ⊥) → x ≢ id.0
    not_here x none e = none k (omega arith) (is.here lt ∙ ap Some (sym e))

    relabelled : (o : Option Place) (p : Place) → option_map (λ (q : Place). record q { at = span.low + (k + 1) * step }) o ≡ Some p → p.at ≡ span.low + (k + 1) * step
    relabelled None p e = cc
    relabelled (Some q) p e = cc

    by : (j x : ℕ) (p : Place) → j < k + 1 → id_in blocks is.fills.is_run.block (is.fills.is_run.from + j) ≡ Some x → slice_get (with_label new id.0 (span.low + (k + 1) * step)) x ≡ Some p → (j ≡ k) ⊎ (j ≢ k) → p.at ≡ span.low + (j + 1) * step
    by j x p le h g (inl e) =
        let here = is.here lt in
        let same : x ≡ id.0 = cc (ap (λ (i : ℕ). id_in blocks is.fills.is_run.block (is.fills.is_run.from + i)) e) in
        let label = relabelled (slice_get new id.0) p (sym (with_label-same new id.0 (span.low + (k + 1) * step)) ∙ ap (slice_get (with_label new id.0 (span.low + (k + 1) * step))) (sym same) ∙ g) in
        label ∙ ap (λ (i : ℕ). span.low + (i + 1) * step) (sym e)
    by j x p le h g (inr ne) =
        let distinct = HasDistinctIds-in blocks n is.fills.is_run.block (id_in-within x blocks is.fills.is_run.block (is.fills.is_run.from + j) h) own in
        let apart : x ≢ id.0 = λ e. ne (same_index (distinct.once (is.fills.is_run.from + j) (is.fills.is_run.from + k) id.0 (h ∙ ap Some e) (is.here lt))) in
        is.spread j x p (omega arith) h (sym (with_label-other new id.0 (span.low + (k + 1) * step) x apart) ∙ g)
      where
        same_index : is.fills.is_run.from + j ≡ is.fills.is_run.from + k → j ≡ k
        same_index e = omega arith

-- ---- when all are done

-- where an instruction stands, and which label it has: one of the run, or another with the label that it had
record IsSpread (block from low count step b m : ℕ) (p : Place) : Type 0 where
  nth : ℕ
  home : b ≡ block
  few : nth < count
  spot : m ≡ from + nth
  label : p.at ≡ low + (nth + 1) * step

record IsAround (old : List Place) (block from to b m x : ℕ) (p : Place) : Type 0 where
  apart : b ≡ block → (m < from) ⊎ (to < m)
  same : slice_get old x ≡ Some p

spread_or_around : (old : List Place) (blocks : List BlockData) (block from to count low step b m x : ℕ) (p : Place) → to + 1 ≡ from + count
    → ((j : ℕ) → id_in blocks block (from + j) ≡ Some x → (b ≡ block) × (m ≡ from + j))
    → (b ≡ block → (j : ℕ) → j < count → m ≡ from + j → p.at ≡ low + (j + 1) * step)
    → (((j : ℕ) → j < count → id_in blocks block (from + j) ≡ Some x → ⊥) → slice_get old x ≡ Some p)
    → IsSpread block from low count step b m p ⊎ IsAround old block from to b m x p
spread_or_around old blocks block from to count low step b m x p size once spread others =
    by (cases_eq b block) (cases m from) (cases to m)
  where
    cases : (i j : ℕ) → (i < j) ⊎ (j ≤ i)
    cases i j = grind arith

    by : (b ≡ block) ⊎ (b ≢ block) → (m < from) ⊎ (from ≤ m) → (to < m) ⊎ (m ≤ to) → IsSpread block from low count step b m p ⊎ IsAround old block from to b m x p
    by (inr ne) before behind = inr (record { apart = λ e. absurd (ne e); same = others (λ j lt h. ne (once j h).0) })
    by (inl e) (inl less) behind =
        inr (record { apart = λ h. inl less; same = others (λ j lt h. absurd (omega (arith, (once j h).1))) })
    by (inl e) (inr ge) (inl more) =
        inr (record { apart = λ h. inr more; same = others (λ j lt h. absurd (omega (arith, (once j h).1))) })
    by (inl e) (inr ge) (inr le) =
        inl (record { nth = m - from; home = e; few = omega arith; spot = omega arith; label = spread e (m - from) (omega arith) (omega arith) })

-- each instruction is of one of the two kinds
kind_of : (old new : List Place) (blocks : List BlockData) (span : Span) (run : Run) (step n : ℕ) (id : InstrId) → AreOwnIds blocks n → (is : IsSpreading old new blocks span run step run.count id) → (b m x : ℕ) (p : Place) → id_in blocks b m ≡ Some x → slice_get new x ≡ Some p
    → IsSpread is.fills.is_run.block is.fills.is_run.from span.low run.count step b m p ⊎ IsAround old is.fills.is_run.block is.fills.is_run.from is.fills.is_run.to b m x p
kind_of old new blocks span run step n id own is b m x p h g =
    spread_or_around old blocks is.fills.is_run.block is.fills.is_run.from is.fills.is_run.to run.count span.low step b m x p is.fills.is_run.size
    (λ j stands. let home = id_in-once x blocks n b is.fills.is_run.block m (is.fills.is_run.from + j) own h stands in
    (home, index (is.fills.is_run.from + j) home stands))
    (λ e j lt spot. is.spread j x p lt (ap (id_in blocks is.fills.is_run.block) (sym spot) ∙ ap (λ (c : ℕ). id_in blocks c m) (sym e) ∙ h) g)
    (λ none. sym (is.others x none) ∙ g)
  where
    index : (k : ℕ) → b ≡ is.fills.is_run.block → id_in blocks is.fills.is_run.block k ≡ Some x → m ≡ k
    index k home stands =
        let distinct = HasDistinctIds-in blocks n is.fills.is_run.block (id_in-within x blocks is.fills.is_run.block k stands) own in
        distinct.once m k x (ap (λ (c : ℕ). id_in blocks c m) (sym home) ∙ h) stands

pub HasOrder-spread : (old new : List Place) (blocks : List BlockData) (span : Span) (run : Run) (step n : ℕ) (id : InstrId) → AreOwnIds blocks n → HasOrder old blocks → IsStep span run step → IsSpreading old new blocks span run step run.count id → HasOrder new blocks
HasOrder-spread old new blocks span run step n id own order fits is = record {
  home = λ x b k h. is.same_home x ∙ order.home x b k h;
  inside = λ x b k p h g. inside x b k p h (kind_of old new blocks span run step n id own is b k x p h g);
  rising = λ b j k x y p q hx hy px qy lt. rising b j k x y p q hx hy lt (kind_of old new blocks span run step n id own is b j x p hx px) (kind_of old new blocks span run step n id own is b k y q hy qy);
}
  where
    inside : (x b k : ℕ) (p : Place) → id_in blocks b k ≡ Some x → IsSpread is.fills.is_run.block is.fills.is_run.from span.low run.count step b k p ⊎ IsAround old is.fills.is_run.block is.fills.is_run.from is.fills.is_run.to b k x p → (0 < p.at) × (p.at < 2 ^ 62)
    inside x b k p h (inl s) =
        (omega (arith, s.label, row_positive (s.nth) step fits.positive), omega (arith, s.label, label_fits span run step s.nth fits s.few, fits.within))
    inside x b k p h (inr s) = order.inside x b k p h s.same

    rising : (b j k x y : ℕ) (p q : Place) → id_in blocks b j ≡ Some x → id_in blocks b k ≡ Some y → j < k
        → IsSpread is.fills.is_run.block is.fills.is_run.from span.low run.count step b j p ⊎ IsAround old is.fills.is_run.block is.fills.is_run.from is.fills.is_run.to b j x p
        → IsSpread is.fills.is_run.block is.fills.is_run.from span.low run.count step b k q ⊎ IsAround old is.fills.is_run.block is.fills.is_run.from is.fills.is_run.to b k y q
        → p.at < q.at
    rising b j k x y p q hx hy lt (inl s) (inl t) =
        omega (arith, s.label, t.label, times_rise s.nth t.nth step (omega (arith, s.spot, t.spot)) fits.positive)
    rising b j k x y p q hx hy lt (inl s) (inr t) =
        omega (arith, s.label, label_fits span run step s.nth fits s.few, is.fills.behind k y q (later (t.apart s.home)) (ap (λ (c : ℕ). id_in blocks c k) (sym s.home) ∙ hy) t.same)
      where
        later : (k < is.fills.is_run.from) ⊎ (is.fills.is_run.to < k) → is.fills.is_run.to < k
        later (inl less) = absurd (omega (arith, s.spot))
        later (inr more) = more
    rising b j k x y p q hx hy lt (inr s) (inl t) =
        omega (arith, t.label, is.fills.before j x p (earlier (s.apart t.home)) (ap (λ (c : ℕ). id_in blocks c j) (sym t.home) ∙ hx) s.same)
      where
        earlier : (j < is.fills.is_run.from) ⊎ (is.fills.is_run.to < j) → j < is.fills.is_run.from
        earlier (inl less) = less
        earlier (inr more) = absurd (omega (arith, t.spot, t.few, is.fills.is_run.size))
    rising b j k x y p q hx hy lt (inr s) (inr t) = order.rising b j k x y p q hx hy s.same t.same lt

-- the arena with other labels that rise
pub IsStored-spread : (old new : Layout) (span : Span) (run : Run) (step k : ℕ) (id : InstrId) → IsStored old → IsStep span run step → k ≡ run.count → new.bodies ≡ old.bodies → new.slots ≡ old.slots → new.mentions ≡ old.mentions
    → IsSpreading old.places.items new.places.items (blocks_of old) span run step k id → IsStored new
IsStored-spread old new span run step k id stored fits all bodies slots mentions is = record {
  given = is.same_length ∙ rw slots stored.given;
  own = rw (bodies, slots) stored.own;
  linked = rw (bodies, slots) stored.linked;
  order = rw (bodies, slots) (HasOrder-spread old.places.items new.places.items (blocks_of old) span run step (length old.slots.items) id stored.own stored.order fits (rw all at is));
  has_mentions = rw (bodies, slots, mentions) stored.has_mentions;
}
