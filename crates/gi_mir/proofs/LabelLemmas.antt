-- Labels rise along a block: what they say of gaps and of runs.
use Rattle.std.proofs.Common.{◌≡◌, ℕ, zero, suc, ◌+◌, ◌^◌, ◌<◌, ◌≤◌, ◌≢◌, List, [], ◌∷◌, Option, Some, None, ◌⊎◌, inl, inr, length, get_or, refl, sym, ap, ◌∙◌, arith}
use Rattle.std.specs.Prelude.{slice_get, option_map, unwrap_or, true, IfSome}
use Rattle.std.specs.Option.{option_map_or, option_or}
use Rattle.std.proofs.lemmas.Bool.{cases_eq}
use Rattle.std.proofs.lemmas.Option.{slice_get_within}
use Rattle.gi_mir.specs.Arena.{id_named, is_in, spot_of, nth_instr_id, id_ahead, slot_at, FitsGap, HasGap, HasOrder, IsLinked}
use Rattle.gi_mir.specs.Data.{InstrData, BlockData}
use Rattle.gi_mir.specs.Edit.{empty_block, has_instr}
use Rattle.gi_mir.specs.Labels.{label_or, IsRun, BeginsAt, FillsSpan}
use Rattle.gi_mir.specs.Places.{nth_id, id_in}
use Rattle.gi_mir.specs.declared.block.Body.{Body}
use Rattle.gi_mir.specs.declared.block.InstrId.{InstrId}
use Rattle.gi_mir.specs.declared.block.Slot.{Slot}
use Rattle.gi_mir.specs.declared.labels.Run.{Run}
use Rattle.gi_mir.specs.declared.labels.Span.{Span}
use Rattle.gi_mir.specs.declared.place.Place.{Place}
use Rattle.gi_mir.specs.declared.room.Gap.{Gap}
use Rattle.gi_mir.proofs.Located.{is_live-id_in, nth_id-place_of, nth_id-within}
use Rattle.gi_mir.proofs.Places.{position_or_len-passes}

-- ---- neighbours in a list

pub nth_id-named : (instrs : List (ℕ × InstrData)) (k : ℕ) (id : InstrId) → nth_instr_id instrs k ≡ Some id → nth_id instrs k ≡ Some id.0
nth_id-named instrs k id h = by (nth_id instrs k) h
  where
    by : (o : Option ℕ) → option_map id_named o ≡ Some id → o ≡ Some id.0
    by None h = cc
    by (Some n) h = ap (option_map (λ (i : InstrId). i.0)) h

-- the instruction before a place of a list
pub record IsAhead (instrs : List (ℕ × InstrData)) (k : ℕ) (id : InstrId) : Type 0 where
  pub at : ℕ
  pub follows : k ≡ at + 1
  pub stands : nth_id instrs at ≡ Some id.0

pub ahead : (instrs : List (ℕ × InstrData)) (k : ℕ) (id : InstrId) → id_ahead instrs k ≡ Some id → IsAhead instrs k id
ahead instrs zero id h = cc
ahead instrs (suc k) id h = record { at = k; follows = omega arith; stands = nth_id-named instrs k id h }

nth_id-there : (instrs : List (ℕ × InstrData)) (k : ℕ) → k < length instrs → (id : ℕ) × (nth_id instrs k ≡ Some id)
nth_id-there [] k h = absurd (omega arith)
nth_id-there (p ∷ ps) zero h = (p.0, refl)
nth_id-there (p ∷ ps) (suc k) h = nth_id-there ps k (omega arith)

-- nothing is before the first
none_ahead : (instrs : List (ℕ × InstrData)) (k id : ℕ) → nth_id instrs k ≡ Some id → id_ahead instrs k ≡ None → k ≡ 0
none_ahead instrs zero id h none = refl
none_ahead instrs (suc k) id h none =
    let there = nth_id-there instrs k (omega (arith, nth_id-within id instrs (suc k) h)) in
    absurd (cc (ap (option_map id_named) there.1, none))

-- nothing is behind the last
none_behind : (instrs : List (ℕ × InstrData)) (k m id : ℕ) → nth_instr_id instrs (k + 1) ≡ None → k < m → nth_id instrs m ≡ Some id → ⊥
none_behind instrs k m id none lt h =
    let there = nth_id-there instrs (k + 1) (omega (arith, nth_id-within id instrs m h)) in
    cc (ap (option_map id_named) there.1, none)

-- the next one, where there is one
pub next_named : (instrs : List (ℕ × InstrData)) (k : ℕ) (id : InstrId) (found : Option InstrId) → found ≡ nth_instr_id instrs k → k < length instrs → nth_id instrs k ≡ Some (unwrap_or found id).0
next_named instrs k id found e lt =
    let there = nth_id-there instrs k lt in
    let named : found ≡ Some (id_named there.0) = e ∙ ap (option_map id_named) there.1 in
    there.1 ∙ ap (λ (o : Option InstrId). Some (unwrap_or o id).0) (sym named)

-- ---- places and labels

pub place_there : (places : List Place) (blocks : List BlockData) (b k id : ℕ) → HasOrder places blocks → id_in blocks b k ≡ Some id → (p : Place) × (slice_get places id ≡ Some p)
place_there places blocks b k id order h = by (slice_get places id) (order.home id b k h)
  where
    by : (o : Option Place) → option_map (λ (p : Place). p.block) o ≡ Some b → (p : Place) × (o ≡ Some p)
    by None e = cc
    by (Some p) e = (p, refl)

pub placed : (places : List Place) (blocks : List BlockData) (b k id : ℕ) → HasOrder places blocks → id_in blocks b k ≡ Some id → id < length places
placed places blocks b k id order h =
    let there = place_there places blocks b k id order h in
    slice_get_within places id there.0 there.1

-- labels rise from 1 on at least
index_below_label : (places : List Place) (blocks : List BlockData) (b k id : ℕ) (p : Place) → HasOrder places blocks → id_in blocks b k ≡ Some id → slice_get places id ≡ Some p → k < p.at
index_below_label places blocks b zero id p order h g = (order.inside id b zero p h g).0
index_below_label places blocks b (suc k) id p order h g =
    let instrs = (get_or blocks b empty_block).instrs in
    let there = nth_id-there instrs k (omega (arith, nth_id-within id instrs (suc k) h)) in
    let spot = place_there places blocks b k there.0 order there.1 in
    let lower = index_below_label places blocks b k there.0 spot.0 order there.1 spot.1 in
    let rises = order.rising b k (suc k) there.0 id spot.0 p there.1 h spot.1 g (omega arith) in
    omega arith

pub run_count : (places : List Place) (blocks : List BlockData) (run : Run) → HasOrder places blocks → IsRun blocks run → run.count < 2 ^ 62
run_count places blocks run order is =
    let last = place_there places blocks is.block is.to run.last.0 order is.last in
    let index = index_below_label places blocks is.block is.to run.last.0 last.0 order is.last last.1 in
    let inside = order.inside run.last.0 is.block is.to last.0 is.last last.1 in
    omega (arith, is.size, inside.1)

-- ---- a run that is widened

pub first_within : (bodies : List Body) (slots : List Slot) (blocks : List BlockData) (run : Run) → IsLinked bodies slots blocks → IsRun blocks run → run.first.0 < length slots
first_within bodies slots blocks run links is =
    slice_get_within slots run.first.0 _ (links.linked run.first.0 is.block is.from is.first)

pub last_within : (bodies : List Body) (slots : List Slot) (blocks : List BlockData) (run : Run) → IsLinked bodies slots blocks → IsRun blocks run → run.last.0 < length slots
last_within bodies slots blocks run links is =
    slice_get_within slots run.last.0 _ (links.linked run.last.0 is.block is.to is.last)

pub before_run : (bodies : List Body) (slots : List Slot) (blocks : List BlockData) (run : Run) (is : IsRun blocks run) (id : InstrId) → IsLinked bodies slots blocks → ((s : Slot) → slice_get slots run.first.0 ≡ Some s → Some id ≡ s.previous) → IsAhead (get_or blocks is.block empty_block).instrs is.from id
before_run bodies slots blocks run is id links previous =
    let instrs = (get_or blocks is.block empty_block).instrs in
    ahead instrs is.from id (sym (previous (slot_at instrs is.from) (links.linked run.first.0 is.block is.from is.first)))

pub IsRun-back : (blocks : List BlockData) (run : Run) (is : IsRun blocks run) (id : InstrId) → IsAhead (get_or blocks is.block empty_block).instrs is.from id → IsRun blocks (record run { first = id; count = run.count + 1 })
IsRun-back blocks run is id before = record {
  block = is.block;
  from = before.at;
  to = is.to;
  first = before.stands;
  last = is.last;
  size = omega (arith, is.size, before.follows);
}

-- where the run before has no instruction, or one with a label below this one
pub BeginsAt-first : (bodies : List Body) (slots : List Slot) (places : List Place) (blocks : List BlockData) (low : ℕ) (run : Run) → IsLinked bodies slots blocks → IsRun blocks run → ((s : Slot) → slice_get slots run.first.0 ≡ Some s → None ≡ s.previous) → BeginsAt places blocks low run
BeginsAt-first bodies slots places blocks low run links is previous =
    let instrs = (get_or blocks is.block empty_block).instrs in
    let begin = none_ahead instrs is.from run.first.0 is.first (sym (previous (slot_at instrs is.from) (links.linked run.first.0 is.block is.from is.first))) in
    record { is_run = is; before = λ k id p lt h g. absurd (omega arith) }

pub BeginsAt-stop : (places : List Place) (blocks : List BlockData) (low : ℕ) (run : Run) (is : IsRun blocks run) (id : InstrId) → HasOrder places blocks → IsAhead (get_or blocks is.block empty_block).instrs is.from id → ((p : Place) → slice_get places id.0 ≡ Some p → p.at < low) → BeginsAt places blocks low run
BeginsAt-stop places blocks low run is id order before lower = record {
  is_run = is;
  before = λ k x p lt h g. by k x p lt h g (cases_eq k before.at);
}
  where
    spot : (p : Place) × (slice_get places id.0 ≡ Some p)
    spot = place_there places blocks is.block before.at id.0 order before.stands

    by : (k x : ℕ) (p : Place) → k < is.from → id_in blocks is.block k ≡ Some x → slice_get places x ≡ Some p → (k ≡ before.at) ⊎ (k ≢ before.at) → p.at < low
    by k x p lt h g (inl e) =
        let same : x ≡ id.0 = cc in
        lower p (ap (slice_get places) (sym same) ∙ g)
    by k x p lt h g (inr ne) =
        let rises = order.rising is.block k before.at x id.0 p spot.0 h before.stands g spot.1 (omega (arith, before.follows)) in
        omega (arith, lower spot.0 spot.1)

-- ---- a label in a gap

pub previous_placed : (places : List Place) (blocks : List BlockData) (gap : Gap) → HasOrder places blocks → HasGap blocks gap → IfSome gap.previous (λ id. id.0 < length places)
previous_placed places blocks gap order has = by gap.previous has.before
  where
    by : (o : Option InstrId) → o ≡ id_ahead (get_or blocks gap.block empty_block).instrs has.at → IfSome o (λ id. id.0 < length places)
    by None e = tt
    by (Some id) e =
        let before = ahead (get_or blocks gap.block empty_block).instrs has.at id (sym e) in
        placed places blocks gap.block before.at id.0 order before.stands

pub next_placed : (places : List Place) (blocks : List BlockData) (gap : Gap) → HasOrder places blocks → HasGap blocks gap → IfSome gap.next (λ id. id.0 < length places)
next_placed places blocks gap order has = by gap.next has.behind
  where
    by : (o : Option InstrId) → o ≡ nth_instr_id (get_or blocks gap.block empty_block).instrs has.at → IfSome o (λ id. id.0 < length places)
    by None e = tt
    by (Some id) e = placed places blocks gap.block has.at id.0 order (nth_id-named (get_or blocks gap.block empty_block).instrs has.at id (sym e))

label_named : (places : List Place) (o : Option InstrId) (id : InstrId) (p : Place) (label : ℕ) → o ≡ Some id → slice_get places id.0 ≡ Some p → label_or places o label ≡ p.at
label_named places o id p label e g = ap (λ (x : Option InstrId). label_or places x label) e ∙ ap (λ (x : Option Place). option_map_or (λ (q : Place). q.at) x label) g

pub gap_open : (places : List Place) (blocks : List BlockData) (gap : Gap) → HasOrder places blocks → HasGap blocks gap → (label_or places gap.previous 0 < label_or places gap.next (2 ^ 62)) × (label_or places gap.next (2 ^ 62) ≤ 2 ^ 62)
gap_open places blocks gap order has = by gap.previous gap.next has.before has.behind
  where
    by : (previous next : Option InstrId) → previous ≡ id_ahead (get_or blocks gap.block empty_block).instrs has.at → next ≡ nth_instr_id (get_or blocks gap.block empty_block).instrs has.at → (label_or places previous 0 < label_or places next (2 ^ 62)) × (label_or places next (2 ^ 62) ≤ 2 ^ 62)
    by None None e f = (omega arith, omega arith)
    by None (Some y) e f =
        let stands = nth_id-named (get_or blocks gap.block empty_block).instrs has.at y (sym f) in
        let spot = place_there places blocks gap.block has.at y.0 order stands in
        let inside = order.inside y.0 gap.block has.at spot.0 stands spot.1 in
        rw spot.1 (inside.0, omega arith)
    by (Some x) None e f =
        let before = ahead (get_or blocks gap.block empty_block).instrs has.at x (sym e) in
        let spot = place_there places blocks gap.block before.at x.0 order before.stands in
        let inside = order.inside x.0 gap.block before.at spot.0 before.stands spot.1 in
        rw spot.1 (inside.1, omega arith)
    by (Some x) (Some y) e f =
        let before = ahead (get_or blocks gap.block empty_block).instrs has.at x (sym e) in
        let low = place_there places blocks gap.block before.at x.0 order before.stands in
        let stands = nth_id-named (get_or blocks gap.block empty_block).instrs has.at y (sym f) in
        let high = place_there places blocks gap.block has.at y.0 order stands in
        let inside = order.inside y.0 gap.block has.at high.0 stands high.1 in
        let rises = order.rising gap.block before.at has.at x.0 y.0 low.0 high.0 before.stands stands low.1 high.1 (omega (arith, before.follows)) in
        rw (low.1, high.1) (rises, omega arith)

pub fits_gap : (places : List Place) (blocks : List BlockData) (gap : Gap) (label : ℕ) → HasOrder places blocks → HasGap blocks gap → label_or places gap.previous 0 < label → label < label_or places gap.next (2 ^ 62) → FitsGap places gap label
fits_gap places blocks gap label order has above below = record {
  above = λ id p e g. omega (arith, label_named places gap.previous id p 0 e g);
  below = λ id p e g. omega (arith, label_named places gap.next id p (2 ^ 62) e g);
  positive = omega arith;
  small = omega (arith, (gap_open places blocks gap order has).1);
}

-- ---- a run that is widened on

pub behind_run : (bodies : List Body) (slots : List Slot) (blocks : List BlockData) (run : Run) (is : IsRun blocks run) (id : InstrId) → IsLinked bodies slots blocks → ((s : Slot) → slice_get slots run.last.0 ≡ Some s → Some id ≡ s.next) → id_in blocks is.block (is.to + 1) ≡ Some id.0
behind_run bodies slots blocks run is id links next =
    let instrs = (get_or blocks is.block empty_block).instrs in
    nth_id-named instrs (is.to + 1) id (sym (next (slot_at instrs is.to) (links.linked run.last.0 is.block is.to is.last)))

pub BeginsAt-on : (places : List Place) (blocks : List BlockData) (low : ℕ) (run : Run) (begins : BeginsAt places blocks low run) (id : InstrId) → id_in blocks begins.is_run.block (begins.is_run.to + 1) ≡ Some id.0 → BeginsAt places blocks low (record run { last = id; count = run.count + 1 })
BeginsAt-on places blocks low run begins id stands = record {
  is_run = record {
    block = begins.is_run.block;
    from = begins.is_run.from;
    to = begins.is_run.to + 1;
    first = begins.is_run.first;
    last = stands;
    size = omega (arith, begins.is_run.size);
  };
  before = begins.before;
}

-- where the run behind has no instruction, or one with this label or a higher one
pub FillsSpan-last : (bodies : List Body) (slots : List Slot) (places : List Place) (blocks : List BlockData) (span : Span) (run : Run) → IsLinked bodies slots blocks → BeginsAt places blocks span.low run → ((s : Slot) → slice_get slots run.last.0 ≡ Some s → None ≡ s.next) → FillsSpan places blocks span run
FillsSpan-last bodies slots places blocks span run links begins next =
    let is = begins.is_run in
    let instrs = (get_or blocks is.block empty_block).instrs in
    let end = sym (next (slot_at instrs is.to) (links.linked run.last.0 is.block is.to is.last)) in
    record {
      is_run = is;
      before = begins.before;
      behind = λ k id p lt h g. absurd (none_behind instrs is.to k id end lt h);
    }

pub FillsSpan-stop : (places : List Place) (blocks : List BlockData) (span : Span) (run : Run) (begins : BeginsAt places blocks span.low run) (id : InstrId) → HasOrder places blocks → id_in blocks begins.is_run.block (begins.is_run.to + 1) ≡ Some id.0 → ((p : Place) → slice_get places id.0 ≡ Some p → span.end ≤ p.at) → FillsSpan places blocks span run
FillsSpan-stop places blocks span run begins id order stands higher = record {
  is_run = begins.is_run;
  before = begins.before;
  behind = λ k x p lt h g. by k x p lt h g (cases_eq k (begins.is_run.to + 1));
}
  where
    spot : (p : Place) × (slice_get places id.0 ≡ Some p)
    spot = place_there places blocks begins.is_run.block (begins.is_run.to + 1) id.0 order stands

    by : (k x : ℕ) (p : Place) → begins.is_run.to < k → id_in blocks begins.is_run.block k ≡ Some x → slice_get places x ≡ Some p → (k ≡ begins.is_run.to + 1) ⊎ (k ≢ begins.is_run.to + 1) → span.end ≤ p.at
    by k x p lt h g (inl e) =
        let same : x ≡ id.0 = cc in
        higher p (ap (slice_get places) (sym same) ∙ g)
    by k x p lt h g (inr ne) =
        let rises = order.rising begins.is_run.block (begins.is_run.to + 1) k id.0 x spot.0 p stands h spot.1 g (omega arith) in
        omega (arith, higher spot.0 spot.1)

-- ---- an instruction of a function

pub id_in-spot : (blocks : List BlockData) (id : ℕ) → is_in blocks id ≡ true → id_in blocks (spot_of blocks id).block (spot_of blocks id).at ≡ Some id
id_in-spot blocks id stands =
    nth_id-place_of id (get_or blocks (spot_of blocks id).block empty_block).instrs
    (position_or_len-passes (has_instr id) blocks empty_block stands)

pub IsRun-of : (blocks : List BlockData) (run : Run) (id : InstrId) → is_in blocks id.0 ≡ true → run.first ≡ id → run.last ≡ id → run.count ≡ 1 → IsRun blocks run
IsRun-of blocks run id stands first last count = record {
  block = (spot_of blocks id.0).block;
  from = (spot_of blocks id.0).at;
  to = (spot_of blocks id.0).at;
  first = rw first (id_in-spot blocks id.0 stands);
  last = rw last (id_in-spot blocks id.0 stands);
  size = rw count refl;
}

pub stands_placed : (places : List Place) (blocks : List BlockData) (id : ℕ) → HasOrder places blocks → is_in blocks id ≡ true → id < length places
stands_placed places blocks id order stands =
    placed places blocks (spot_of blocks id).block (spot_of blocks id).at id order (id_in-spot blocks id stands)

pub label_below : (places : List Place) (blocks : List BlockData) (id label : ℕ) → HasOrder places blocks → is_in blocks id ≡ true → ((p : Place) → slice_get places id ≡ Some p → label ≡ p.at) → label < 2 ^ 62
label_below places blocks id label order stands is =
    let here = id_in-spot blocks id stands in
    let spot = place_there places blocks (spot_of blocks id).block (spot_of blocks id).at id order here in
    omega (arith, is spot.0 spot.1, (order.inside id (spot_of blocks id).block (spot_of blocks id).at spot.0 here spot.1).1)

-- an instruction beside a gap
pub gap_neighbour : (blocks : List BlockData) (gap : Gap) (id : InstrId) → HasGap blocks gap → option_or gap.next gap.previous ≡ Some id → is_in blocks id.0 ≡ true
gap_neighbour blocks gap id has named = by gap.next refl named
  where
    by : (next : Option InstrId) → gap.next ≡ next → option_or next gap.previous ≡ Some id → is_in blocks id.0 ≡ true
    by None e f =
        let before = ahead (get_or blocks gap.block empty_block).instrs has.at id (sym has.before ∙ f) in
        is_live-id_in id.0 blocks gap.block before.at before.stands
    by (Some y) e f =
        let stands = nth_id-named (get_or blocks gap.block empty_block).instrs has.at id (sym has.behind ∙ e ∙ f) in
        is_live-id_in id.0 blocks gap.block has.at stands
