-- What an edit of one block makes of an arena that is linked.
use Rattle.std.proofs.Common.{◌≡◌, ◌≢◌, ℕ, zero, suc, ◌+◌, ◌-◌, ◌<◌, ◌≤◌, Bool, true, false, cond, List, [], ◌∷◌, ◌++◌, Option, Some, None, ◌⊎◌, ⊎_elim, length, get_or, set, refl, sym, ap, ◌∙◌, arith, eqb-true, eq-eqb}
use Rattle.std.specs.Prelude.{insert, remove, slice_get, option_map, ◌==◌}
use Rattle.std.specs.List.{list_any}
use Rattle.std.specs.Option.{option_map_or}
use Rattle.std.proofs.lemmas.Bool.{cases_eq}
use Rattle.std.proofs.lemmas.Bool.Decides.{nat_tests}
use Rattle.std.proofs.lemmas.List.{get_or-map, get_or-set_same, get_or-set_other, set-get_or}
use Rattle.std.proofs.lemmas.List.Edits.{length-remove, length-insert}
use Rattle.std.proofs.lemmas.Option.{slice_get_past}
use Rattle.gi_mir.specs.declared.block.Body.{Body}
use Rattle.gi_mir.specs.declared.block.InstrId.{InstrId}
use Rattle.gi_mir.specs.declared.block.Slot.{Slot}
use Rattle.gi_mir.specs.Data.{InstrData, BlockData}
use Rattle.gi_mir.specs.Edit.{empty_block, has_instr, changed_at, block_changed_at, place_of}
use Rattle.gi_mir.specs.Ids.{AreOwnIds}
use Rattle.gi_mir.specs.Places.{HasDistinctIds, body_at, id_in, nth_id}
use Rattle.gi_mir.specs.Arena.{IsLinked, body_gained, body_lost, body_of, end_with, id_ahead, id_named, next_set, nth_instr_id, previous_set, slot_at, slot_changed}
use Rattle.gi_mir.proofs.Edits.{length-changed_at, less_or_not, map-set, none-set, none-set_here, slice_get-changed_other, slice_get-changed_same, slice_get-insert_at, slice_get-insert_before, slice_get-insert_behind, slice_get-push, slice_get-push_other, slice_get-pushed_before, slice_get-remove_before, slice_get-remove_behind}
use Rattle.gi_mir.proofs.Located.{has_instr-nth_id, id_in-once, nth_id-changed_at, nth_id-place_of}

-- ---- one block of several

-- the instructions of the new block have their neighbours, and those that it lost are gone
pub record IsRelinked (slots after : List Slot) (old new : BlockData) : Type 0 where
  pub here : (j id : ℕ) → nth_id new.instrs j ≡ Some id → slice_get after id ≡ Some (slot_at new.instrs j)
  pub others : (id : ℕ) → has_instr id old ≡ false → has_instr id new ≡ false → slice_get after id ≡ slice_get slots id
  pub gone : (id : ℕ) (s : Slot) → has_instr id old ≡ true → has_instr id new ≡ false → slice_get after id ≡ Some s → s.entry ≡ None

-- an id of one block is in no other
absent : (blocks : List BlockData) (n b c k id : ℕ) → AreOwnIds blocks n → c ≢ b → id_in blocks c k ≡ Some id → has_instr id (body_at blocks b) ≡ false
absent blocks n b c k id own ne h = by (has_instr id (body_at blocks b)) refl
  where
    by : (t : Bool) → has_instr id (body_at blocks b) ≡ t → has_instr id (body_at blocks b) ≡ false
    by true e = absurd (ne (id_in-once id blocks n c b k _ own h (nth_id-place_of id (body_at blocks b).instrs e)))
    by false e = e

pub IsLinked-set : (bodies ends : List Body) (slots after : List Slot) (blocks : List BlockData) (n m b : ℕ) (new : BlockData) → b < length blocks → AreOwnIds blocks n → AreOwnIds (set blocks b new) m
    → ends ≡ set bodies b (body_of new) → IsRelinked slots after (body_at blocks b) new → IsLinked bodies slots blocks → IsLinked ends after (set blocks b new)
IsLinked-set bodies ends slots after blocks n m b new within own own_after is now linked = record {
  ends = is ∙ ap (λ (xs : List Body). set xs b (body_of new)) linked.ends ∙ sym (map-set body_of blocks b new);
  linked = λ id c k h. by id c k (cases_eq c b) h;
  empty = λ id s found none. empty id s found none (has_instr id (body_at blocks b)) refl;
}
  where
    here : body_at (set blocks b new) b ≡ new
    here = get_or-set_same blocks b new empty_block within

    by : (id c k : ℕ) → (c ≡ b) ⊎ (c ≢ b) → id_in (set blocks b new) c k ≡ Some id → slice_get after id ≡ Some (slot_at (body_at (set blocks b new) c).instrs k)
    by id c k e h = ⊎_elim
        (λ (same : c ≡ b).
        let there : body_at (set blocks b new) c ≡ new = ap (λ (x : ℕ). body_at (set blocks b new) x) same ∙ here in
        now.here k id (sym (ap (λ (x : BlockData). nth_id x.instrs k) there) ∙ h) ∙ ap (λ (x : BlockData). Some (slot_at x.instrs k)) (sym there))
        (λ (ne : c ≢ b).
        let there : body_at (set blocks b new) c ≡ body_at blocks c = get_or-set_other blocks b c new empty_block ne in
        let was : id_in blocks c k ≡ Some id = sym (ap (λ (x : BlockData). nth_id x.instrs k) there) ∙ h in
        now.others id (absent blocks n b c k id own ne was) (sym (ap (has_instr id) here) ∙ absent (set blocks b new) m b c k id own_after ne h)
        ∙ linked.linked id c k was ∙ ap (λ (x : BlockData). Some (slot_at x.instrs k)) (sym there))
        e

    empty : (id : ℕ) (s : Slot) → slice_get after id ≡ Some s → list_any (has_instr id) (set blocks b new) ≡ false → (t : Bool) → has_instr id (body_at blocks b) ≡ t → s.entry ≡ None
    empty id s found none true was = now.gone id s was (none-set_here (has_instr id) blocks b new within none) found
    empty id s found none false was =
        linked.empty id s (sym (now.others id was (none-set_here (has_instr id) blocks b new within none)) ∙ found) (none-set (has_instr id) blocks b new empty_block was none)

-- the links of one block
pub links-in : (bodies : List Body) (slots : List Slot) (blocks : List BlockData) (b : ℕ) → IsLinked bodies slots blocks → (j id : ℕ) → nth_id (body_at blocks b).instrs j ≡ Some id → slice_get slots id ≡ Some (slot_at (body_at blocks b).instrs j)
links-in bodies slots blocks b linked j id h = linked.linked id b j h

-- the ends of a block that stays between them
pub bodies-kept : (bodies : List Body) (slots : List Slot) (blocks : List BlockData) (b : ℕ) (new : BlockData) → b < length blocks → body_of new ≡ body_of (body_at blocks b) → IsLinked bodies slots blocks → bodies ≡ set bodies b (body_of new)
bodies-kept bodies slots blocks b new within same linked =
    let there : get_or bodies b (body_of new) ≡ body_of new = ap (λ (xs : List Body). get_or xs b (body_of new)) linked.ends ∙ get_or-map body_of blocks b empty_block (body_of new) within ∙ sym same in
    sym (set-get_or bodies b (body_of new)) ∙ ap (λ (x : Body). set bodies b x) there

-- ---- neighbours

slot_same : (e f : Option (ℕ × InstrData)) (p q n m : Option InstrId) → e ≡ f → p ≡ q → n ≡ m → ◌≡◌ {A = Slot} (record { entry = e; previous = p; next = n }) (record { entry = f; previous = q; next = m })
slot_same e f p q n m h g k = rw (h, g, k) refl

body_same : (b : Body) (f g l m : Option InstrId) (n k : ℕ) → f ≡ g → l ≡ m → n ≡ k → ◌≡◌ {A = Body} (record { head = b.head; first = f; last = l; count = n }) (record { head = b.head; first = g; last = m; count = k })
body_same b f g l m n k x y z = rw (x, y, z) refl

-- whether an instruction is the one that is named
abbrev is_named : Option InstrId → ℕ → Bool
is_named o id = option_map_or (λ x. x.0 == id) o false

test_apart : (a b : ℕ) → a ≢ b → (a == b) ≡ false
test_apart a b ne = grind (arith, nat_tests)

named_at : (es : List (ℕ × InstrData)) (m i id : ℕ) → HasDistinctIds es → nth_id es i ≡ Some id → is_named (nth_instr_id es m) id ≡ (m == i)
named_at es m i id distinct h = ⊎_elim
    (λ (same : m ≡ i). ap (λ (o : Option ℕ). is_named (option_map id_named o) id) (ap (nth_id es) same ∙ h) ∙ eq-eqb id id refl ∙ sym (eq-eqb m i same))
    (λ (ne : m ≢ i). by ne (nth_id es m) refl ∙ sym (test_apart m i ne))
    (cases_eq m i)
  where
    by : m ≢ i → (o : Option ℕ) → nth_id es m ≡ o → is_named (option_map id_named o) id ≡ false
    by ne None e = refl
    by ne (Some y) e = test_apart y id (λ same. ne (distinct.once m i id (e ∙ ap Some same) h))

named_ahead : (es : List (ℕ × InstrData)) (k i id : ℕ) → HasDistinctIds es → nth_id es i ≡ Some id → is_named (id_ahead es k) id ≡ (k == suc i)
named_ahead es zero i id distinct h = sym (test_apart 0 (suc i) (λ e. absurd (omega arith)))
named_ahead es (suc m) i id distinct h = named_at es m i id distinct h ∙ same
  where
    same : (m == i) ≡ (suc m == suc i)
    same = grind (arith, nat_tests)

named_absent : (es : List (ℕ × InstrData)) (m id : ℕ) → list_any (λ p. p.0 == id) es ≡ false → is_named (nth_instr_id es m) id ≡ false
named_absent es m id none = by (nth_id es m) refl
  where
    by : (o : Option ℕ) → nth_id es m ≡ o → is_named (option_map id_named o) id ≡ false
    by None e = refl
    by (Some y) e = test_apart y id (λ same. cc (has_instr-nth_id id es m (e ∙ ap Some same)))

ahead_absent : (es : List (ℕ × InstrData)) (k id : ℕ) → list_any (λ p. p.0 == id) es ≡ false → is_named (id_ahead es k) id ≡ false
ahead_absent es zero id none = refl
ahead_absent es (suc m) id none = named_absent es m id none

-- ---- what stands in an arena after a neighbour is set

as_it_was : (o : Option Slot) (f : Slot → Slot) → ((s : Slot) → f s ≡ s) → option_map f o ≡ o
as_it_was None f same = refl
as_it_was (Some s) f same = ap Some (same s)

abbrev next_if : Bool → Option InstrId → Slot → Slot
next_if t next s = record s { next = cond t next s.next }

abbrev previous_if : Bool → Option InstrId → Slot → Slot
previous_if t previous s = record s { previous = cond t previous s.previous }

slot-next_set : (o next : Option InstrId) (slots : List Slot) (id : ℕ) → slice_get (next_set o next slots) id ≡ option_map (next_if (is_named o id) next) (slice_get slots id)
slot-next_set None next slots id = sym (as_it_was (slice_get slots id) _ (λ s. refl))
slot-next_set (Some x) next slots id = by (x.0 == id) refl
  where
    by : (t : Bool) → (x.0 == id) ≡ t → slice_get (next_set (Some x) next slots) id ≡ option_map (next_if (x.0 == id) next) (slice_get slots id)
    by true e =
        let same : x.0 ≡ id = eqb-true x.0 id e in
        rw (e, ← same) (slice_get-changed_same (λ (s : Slot). record s { next = next }) slots x.0)
    by false e = rw e (slice_get-changed_other (λ (s : Slot). record s { next = next }) slots x.0 id (λ same. cc (eq-eqb x.0 id (sym same))) ∙ sym (as_it_was (slice_get slots id) _ (λ s. refl)))

slot-previous_set : (o previous : Option InstrId) (slots : List Slot) (id : ℕ) → slice_get (previous_set o previous slots) id ≡ option_map (previous_if (is_named o id) previous) (slice_get slots id)
slot-previous_set None previous slots id = sym (as_it_was (slice_get slots id) _ (λ s. refl))
slot-previous_set (Some x) previous slots id = by (x.0 == id) refl
  where
    by : (t : Bool) → (x.0 == id) ≡ t → slice_get (previous_set (Some x) previous slots) id ≡ option_map (previous_if (x.0 == id) previous) (slice_get slots id)
    by true e =
        let same : x.0 ≡ id = eqb-true x.0 id e in
        rw (e, ← same) (slice_get-changed_same (λ (s : Slot). record s { previous = previous }) slots x.0)
    by false e = rw e (slice_get-changed_other (λ (s : Slot). record s { previous = previous }) slots x.0 id (λ same. cc (eq-eqb x.0 id (sym same))) ∙ sym (as_it_was (slice_get slots id) _ (λ s. refl)))

-- both neighbours of a place, seen at an id
both-set : (slots : List Slot) (p n new_next new_previous : Option InstrId) (id : ℕ) (s : Slot) (a b : Bool) → is_named p id ≡ a → is_named n id ≡ b → slice_get slots id ≡ Some s
    → slice_get (previous_set n new_previous (next_set p new_next slots)) id ≡ Some (record { entry = s.entry; previous = cond b new_previous s.previous; next = cond a new_next s.next })
both-set slots p n new_next new_previous id s a b pa nb found =
    slot-previous_set n new_previous (next_set p new_next slots) id
    ∙ ap (option_map (previous_if (is_named n id) new_previous)) (slot-next_set p new_next slots id)
    ∙ rw (found, pa, nb) refl

both-untouched : (slots : List Slot) (p n new_next new_previous : Option InstrId) (id : ℕ) → is_named p id ≡ false → is_named n id ≡ false
    → slice_get (previous_set n new_previous (next_set p new_next slots)) id ≡ slice_get slots id
both-untouched slots p n new_next new_previous id pa nb =
    slot-previous_set n new_previous (next_set p new_next slots) id
    ∙ ap (option_map (previous_if (is_named n id) new_previous)) (slot-next_set p new_next slots id)
    ∙ rw (pa, nb) (by (slice_get slots id))
  where
    by : (o : Option Slot) → option_map (previous_if false new_previous) (option_map (next_if false new_next) o) ≡ o
    by None = refl
    by (Some s) = refl

-- ---- an instruction that changes

ahead-changed : (edit : InstrData → InstrData) (es : List (ℕ × InstrData)) (k j : ℕ) → id_ahead (changed_at (λ p. (p.0, edit p.1)) k es) j ≡ id_ahead es j
ahead-changed edit es k zero = refl
ahead-changed edit es k (suc m) = ap (option_map id_named) (nth_id-changed_at edit es k m)

pub body_of-changed : (edit : InstrData → InstrData) (k : ℕ) (b : BlockData) → body_of (block_changed_at edit k b) ≡ body_of b
body_of-changed edit k b =
    let count = length-changed_at (λ (p : ℕ × InstrData). (p.0, edit p.1)) b.instrs k in
    body_same (body_of b) _ _ _ _ _ _ (ap (option_map id_named) (nth_id-changed_at edit b.instrs k 0))
    (ap (id_ahead (changed_at (λ (p : ℕ × InstrData). (p.0, edit p.1)) k b.instrs)) count ∙ ahead-changed edit b.instrs k (length b.instrs)) count

pub IsRelinked-changed : (slots after : List Slot) (old : BlockData) (edit : InstrData → InstrData) (k id : ℕ) → ((j i : ℕ) → nth_id old.instrs j ≡ Some i → slice_get slots i ≡ Some (slot_at old.instrs j)) → HasDistinctIds old.instrs
    → nth_id old.instrs k ≡ Some id → after ≡ changed_at (slot_changed edit) id slots → IsRelinked slots after old (block_changed_at edit k old)
IsRelinked-changed slots after old edit k id links distinct stands is = record {
  here = λ j i h. here j i (sym (nth_id-changed_at edit old.instrs k j) ∙ h) (cases_eq j k);
  others = λ i no_old no_new. ap (λ (xs : List Slot). slice_get xs i) is ∙ slice_get-changed_other (slot_changed edit) slots id i (λ same. cc (has_instr-nth_id i old.instrs k (stands ∙ ap Some (sym same))));
  gone = λ i s in_old no_new found. cc (has_instr-nth_id i (block_changed_at edit k old).instrs _ (nth_id-changed_at edit old.instrs k _ ∙ nth_id-place_of i old.instrs in_old));
}
  where
    change : ℕ × InstrData → ℕ × InstrData
    change p = (p.0, edit p.1)

    around : (j : ℕ) (e : Option (ℕ × InstrData)) → e ≡ slice_get (changed_at (λ (p : ℕ × InstrData). (p.0, edit p.1)) k old.instrs) j → ◌≡◌ {A = Slot} (record { entry = e; previous = id_ahead old.instrs j; next = nth_instr_id old.instrs (j + 1) }) (slot_at (block_changed_at edit k old).instrs j)
    around j e same = slot_same _ _ _ _ _ _ same (sym (ahead-changed edit old.instrs k j)) (ap (option_map id_named) (sym (nth_id-changed_at edit old.instrs k (j + 1))))

    here : (j i : ℕ) → nth_id old.instrs j ≡ Some i → (j ≡ k) ⊎ (j ≢ k) → slice_get after i ≡ Some (slot_at (block_changed_at edit k old).instrs j)
    here j i h e = ap (λ (xs : List Slot). slice_get xs i) is ∙ ⊎_elim
        (λ (same : j ≡ k).
        let first : i ≡ id = cc (ap (nth_id old.instrs) same) in
        ap (λ (x : ℕ). slice_get (changed_at (slot_changed edit) id slots) x) first ∙ slice_get-changed_same (slot_changed edit) slots id
        ∙ ap (option_map (slot_changed edit)) (ap (slice_get slots) (sym first) ∙ links j i h)
        ∙ ap Some (around j _ (sym (ap (λ (x : ℕ). slice_get (changed_at (λ (p : ℕ × InstrData). (p.0, edit p.1)) k old.instrs) x) same ∙ slice_get-changed_same (λ (p : ℕ × InstrData). (p.0, edit p.1)) old.instrs k ∙ ap (λ (x : ℕ). option_map (λ (p : ℕ × InstrData). (p.0, edit p.1)) (slice_get old.instrs x)) (sym same)))))
        (λ (ne : j ≢ k). slice_get-changed_other (slot_changed edit) slots id i (λ same. ne (distinct.once j k id (h ∙ ap Some same) stands)) ∙ links j i h
        ∙ ap Some (around j _ (sym (slice_get-changed_other (λ (p : ℕ × InstrData). (p.0, edit p.1)) old.instrs k j ne))))
        e

-- ---- an instruction that goes

nth-removed_before : (es : List (ℕ × InstrData)) (k j : ℕ) → j < k → nth_instr_id (remove es k) j ≡ nth_instr_id es j
nth-removed_before es k j lt = ap (λ (o : Option (ℕ × InstrData)). option_map id_named (option_map (λ p. p.0) o)) (slice_get-remove_before es k j lt)

nth-removed_behind : (es : List (ℕ × InstrData)) (k j : ℕ) → k ≤ j → nth_instr_id (remove es k) j ≡ nth_instr_id es (suc j)
nth-removed_behind es k j ge = ap (λ (o : Option (ℕ × InstrData)). option_map id_named (option_map (λ p. p.0) o)) (slice_get-remove_behind es k j ge)

ahead-removed_before : (es : List (ℕ × InstrData)) (k j : ℕ) → j ≤ k → id_ahead (remove es k) j ≡ id_ahead es j
ahead-removed_before es k zero le = refl
ahead-removed_before es k (suc m) le = nth-removed_before es k m (omega arith)

ahead-removed_behind : (es : List (ℕ × InstrData)) (k j : ℕ) → k < j → id_ahead (remove es k) j ≡ nth_instr_id es j
ahead-removed_behind es k zero lt = absurd (omega arith)
ahead-removed_behind es k (suc m) lt = nth-removed_behind es k m (omega arith)

some_named : (es : List (ℕ × InstrData)) (k : ℕ) → k < length es → (P : Type 0) → ((id : InstrId) → nth_instr_id es k ≡ Some id → P) → P
some_named [] k lt P f = absurd (omega arith)
some_named (e ∷ es) zero lt P f = f (id_named e.0) refl
some_named (e ∷ es) (suc k) lt P f = some_named es k (omega arith) P f

nth-past : (es : List (ℕ × InstrData)) (k : ℕ) → length es ≤ k → nth_instr_id es k ≡ None
nth-past es k le = ap (λ (o : Option (ℕ × InstrData)). option_map id_named (option_map (λ p. p.0) o)) (slice_get_past es k le)

pub body_of-removed : (old : BlockData) (k : ℕ) → k < length old.instrs → body_lost (id_ahead old.instrs k) (nth_instr_id old.instrs (suc k)) (body_of old) ≡ body_of (record old { instrs = remove old.instrs k })
body_of-removed old k within = body_same (body_of old) _ _ _ _ _ _ (first k within) (last (less_or_not (suc k) (length old.instrs))) (omega (arith, length-remove old.instrs k within))
  where
    first : (k : ℕ) → k < length old.instrs → end_with (id_ahead old.instrs k) (nth_instr_id old.instrs (suc k)) (nth_instr_id old.instrs 0) ≡ nth_instr_id (remove old.instrs k) 0
    first zero lt = sym (nth-removed_behind old.instrs 0 0 (omega arith))
    first (suc m) lt = some_named old.instrs m (omega arith) _ (λ id e. ap (λ (o : Option InstrId). end_with o (nth_instr_id old.instrs (suc (suc m))) (nth_instr_id old.instrs 0)) e ∙ sym (nth-removed_before old.instrs (suc m) 0 (omega arith)))

    last : (suc k < length old.instrs) ⊎ (length old.instrs ≤ suc k) → end_with (nth_instr_id old.instrs (suc k)) (id_ahead old.instrs k) (id_ahead old.instrs (length old.instrs)) ≡ id_ahead (remove old.instrs k) (length (remove old.instrs k))
    last c =
        let one = length-remove old.instrs k within in
        let more : length old.instrs ≡ suc (length (remove old.instrs k)) = omega arith in
        ⊎_elim
        (λ (lt : suc k < length old.instrs). some_named old.instrs (suc k) lt _ (λ id e. ap (λ (o : Option InstrId). end_with o (id_ahead old.instrs k) (id_ahead old.instrs (length old.instrs))) e
        ∙ ap (id_ahead old.instrs) more ∙ sym (ahead-removed_behind old.instrs k (length (remove old.instrs k)) (omega arith))))
        (λ (le : length old.instrs ≤ suc k).
        let end : length (remove old.instrs k) ≡ k = omega arith in
        ap (λ (o : Option InstrId). end_with o (id_ahead old.instrs k) (id_ahead old.instrs (length old.instrs))) (nth-past old.instrs (suc k) le)
        ∙ sym (ap (id_ahead (remove old.instrs k)) end ∙ ahead-removed_before old.instrs k k (omega arith)))
        c

pub IsRelinked-removed : (slots taken after : List Slot) (old : BlockData) (k id : ℕ) → ((j i : ℕ) → nth_id old.instrs j ≡ Some i → slice_get slots i ≡ Some (slot_at old.instrs j)) → HasDistinctIds old.instrs → nth_id old.instrs k ≡ Some id
    → ((i : ℕ) → i ≢ id → slice_get taken i ≡ slice_get slots i) → ((s : Slot) → slice_get taken id ≡ Some s → s.entry ≡ None)
    → after ≡ previous_set (nth_instr_id old.instrs (suc k)) (id_ahead old.instrs k) (next_set (id_ahead old.instrs k) (nth_instr_id old.instrs (suc k)) taken)
    → IsRelinked slots after old (record old { instrs = remove old.instrs k })
IsRelinked-removed slots taken after old k id links distinct stands same empty is = record {
  here = λ j i h. here j i h (less_or_not j k);
  others = λ i no_old no_new. others i no_old;
  gone = λ i s in_old no_new found. gone i s in_old no_new found (cases_eq i id);
}
  where
    nth_id-removed_before : (j : ℕ) → j < k → nth_id (remove old.instrs k) j ≡ nth_id old.instrs j
    nth_id-removed_before j lt = ap (option_map (λ (p : ℕ × InstrData). p.0)) (slice_get-remove_before old.instrs k j lt)

    nth_id-removed_behind : (j : ℕ) → k ≤ j → nth_id (remove old.instrs k) j ≡ nth_id old.instrs (suc j)
    nth_id-removed_behind j ge = ap (option_map (λ (p : ℕ × InstrData). p.0)) (slice_get-remove_behind old.instrs k j ge)

    -- the neighbours of an instruction that stood before the place, or behind it
    previous-early : (j : ℕ) → j < k → cond (suc k == j) (id_ahead old.instrs k) (id_ahead old.instrs j) ≡ id_ahead (remove old.instrs k) j
    previous-early j lt =
        ap (λ (t : Bool). cond t (id_ahead old.instrs k) (id_ahead old.instrs j)) (test_apart (suc k) j (λ e. absurd (omega arith))) ∙ sym (ahead-removed_before old.instrs k j (omega arith))

    next-early : (j : ℕ) → j < k → (k ≡ suc j) ⊎ (k ≢ suc j) → cond (k == suc j) (nth_instr_id old.instrs (suc k)) (nth_instr_id old.instrs (j + 1)) ≡ nth_instr_id (remove old.instrs k) (j + 1)
    next-early j lt c = ⊎_elim
        (λ (e : k ≡ suc j).
        let here : suc k ≡ suc (j + 1) = omega arith in
        ap (λ (t : Bool). cond t (nth_instr_id old.instrs (suc k)) (nth_instr_id old.instrs (j + 1))) (eq-eqb k (suc j) e) ∙ ap (nth_instr_id old.instrs) here ∙ sym (nth-removed_behind old.instrs k (j + 1) (omega arith)))
        (λ (ne : k ≢ suc j).
        ap (λ (t : Bool). cond t (nth_instr_id old.instrs (suc k)) (nth_instr_id old.instrs (j + 1))) (test_apart k (suc j) ne) ∙ sym (nth-removed_before old.instrs k (j + 1) (omega arith)))
        c

    previous-late : (j : ℕ) → k ≤ j → (k ≡ j) ⊎ (k ≢ j) → cond (suc k == suc j) (id_ahead old.instrs k) (id_ahead old.instrs (suc j)) ≡ id_ahead (remove old.instrs k) j
    previous-late j ge c = ⊎_elim
        (λ (e : k ≡ j).
        ap (λ (t : Bool). cond t (id_ahead old.instrs k) (id_ahead old.instrs (suc j))) (eq-eqb (suc k) (suc j) (ap suc e)) ∙ ap (id_ahead old.instrs) e ∙ sym (ahead-removed_before old.instrs k j (omega arith)))
        (λ (ne : k ≢ j).
        ap (λ (t : Bool). cond t (id_ahead old.instrs k) (id_ahead old.instrs (suc j))) (test_apart (suc k) (suc j) (λ e. absurd (omega arith))) ∙ sym (ahead-removed_behind old.instrs k j (omega arith)))
        c

    next-late : (j : ℕ) → k ≤ j → cond (k == suc (suc j)) (nth_instr_id old.instrs (suc k)) (nth_instr_id old.instrs (suc j + 1)) ≡ nth_instr_id (remove old.instrs k) (j + 1)
    next-late j ge =
        let there : suc j + 1 ≡ suc (j + 1) = omega arith in
        ap (λ (t : Bool). cond t (nth_instr_id old.instrs (suc k)) (nth_instr_id old.instrs (suc j + 1))) (test_apart k (suc (suc j)) (λ e. absurd (omega arith))) ∙ ap (nth_instr_id old.instrs) there ∙ sym (nth-removed_behind old.instrs k (j + 1) (omega arith))

    placed : (j x i : ℕ) → x ≢ k → nth_id old.instrs x ≡ Some i → slice_get old.instrs x ≡ slice_get (remove old.instrs k) j
        → cond (suc k == x) (id_ahead old.instrs k) (id_ahead old.instrs x) ≡ id_ahead (remove old.instrs k) j
        → cond (k == suc x) (nth_instr_id old.instrs (suc k)) (nth_instr_id old.instrs (x + 1)) ≡ nth_instr_id (remove old.instrs k) (j + 1)
        → slice_get after i ≡ Some (slot_at (remove old.instrs k) j)
    placed j x i ne was entry before behind =
        ap (λ (xs : List Slot). slice_get xs i) is
        ∙ both-set taken (id_ahead old.instrs k) (nth_instr_id old.instrs (suc k)) (nth_instr_id old.instrs (suc k)) (id_ahead old.instrs k) i (slot_at old.instrs x) (k == suc x) (suc k == x)
        (named_ahead old.instrs k x i distinct was) (named_at old.instrs (suc k) x i distinct was)
        (same i (λ e. ne (distinct.once x k id (was ∙ ap Some e) stands)) ∙ links x i was)
        ∙ ap Some (slot_same _ _ _ _ _ _ entry before behind)

    here : (j i : ℕ) → nth_id (remove old.instrs k) j ≡ Some i → (j < k) ⊎ (k ≤ j) → slice_get after i ≡ Some (slot_at (remove old.instrs k) j)
    here j i h c = ⊎_elim
        (λ (lt : j < k). placed j j i (omega arith) (sym (nth_id-removed_before j lt) ∙ h) (sym (slice_get-remove_before old.instrs k j lt)) (previous-early j lt) (next-early j lt (cases_eq k (suc j))))
        (λ (ge : k ≤ j). placed j (suc j) i (omega arith) (sym (nth_id-removed_behind j ge) ∙ h) (sym (slice_get-remove_behind old.instrs k j ge)) (previous-late j ge (cases_eq k j)) (next-late j ge))
        c

    others : (i : ℕ) → has_instr i old ≡ false → slice_get after i ≡ slice_get slots i
    others i no_old =
        ap (λ (xs : List Slot). slice_get xs i) is ∙ both-untouched taken _ _ _ _ i (ahead_absent old.instrs k i no_old) (named_absent old.instrs (suc k) i no_old)
        ∙ same i (λ e. cc (has_instr-nth_id i old.instrs k (stands ∙ ap Some (sym e))))

    gone : (i : ℕ) (s : Slot) → has_instr i old ≡ true → list_any (λ p. p.0 == i) (remove old.instrs k) ≡ false → slice_get after i ≡ Some s → (i ≡ id) ⊎ (i ≢ id) → s.entry ≡ None
    gone i s in_old no_new found c = ⊎_elim
        (λ (e : i ≡ id). empty s (sym (both-untouched taken _ _ _ _ id
        (named_ahead old.instrs k k id distinct stands ∙ test_apart k (suc k) (λ g. absurd (omega arith)))
        (named_at old.instrs (suc k) k id distinct stands ∙ test_apart (suc k) k (λ g. absurd (omega arith))))
        ∙ ap (λ (xs : List Slot). slice_get xs id) (sym is) ∙ ap (slice_get after) (sym e) ∙ found))
        (λ (ne : i ≢ id). absurd (left i (place_of i old.instrs) (nth_id-place_of i old.instrs in_old) no_new ne))
        c
      where
        left : (i x : ℕ) → nth_id old.instrs x ≡ Some i → list_any (λ p. p.0 == i) (remove old.instrs k) ≡ false → i ≢ id → ⊥
        left i x was none ne = ⊎_elim
            (λ (lt : x < k). cc (has_instr-nth_id i (remove old.instrs k) x (nth_id-removed_before x lt ∙ was)))
            (λ (ge : k ≤ x). ⊎_elim
            (λ (e : x ≡ k). ne (cc (ap (nth_id old.instrs) e)))
            (λ (other : x ≢ k).
            let back : suc (x - 1) ≡ x = omega arith in
            cc (has_instr-nth_id i (remove old.instrs k) (x - 1) (nth_id-removed_behind (x - 1) (omega arith) ∙ ap (nth_id old.instrs) back ∙ was)))
            (cases_eq x k)) (less_or_not x k)

-- ---- an instruction that comes in

nth-inserted_before : (es : List (ℕ × InstrData)) (k j : ℕ) (x : ℕ × InstrData) → j < k → k ≤ length es → nth_instr_id (insert es k x) j ≡ nth_instr_id es j
nth-inserted_before es k j x lt le = ap (λ (o : Option (ℕ × InstrData)). option_map id_named (option_map (λ p. p.0) o)) (slice_get-insert_before es k j x lt le)

nth-inserted_at : (es : List (ℕ × InstrData)) (k : ℕ) (x : ℕ × InstrData) → k ≤ length es → nth_instr_id (insert es k x) k ≡ Some (id_named x.0)
nth-inserted_at es k x le = ap (λ (o : Option (ℕ × InstrData)). option_map id_named (option_map (λ p. p.0) o)) (slice_get-insert_at es k x le)

nth-inserted_behind : (es : List (ℕ × InstrData)) (k j : ℕ) (x : ℕ × InstrData) → k ≤ j → k ≤ length es → nth_instr_id (insert es k x) (suc j) ≡ nth_instr_id es j
nth-inserted_behind es k j x ge le = ap (λ (o : Option (ℕ × InstrData)). option_map id_named (option_map (λ p. p.0) o)) (slice_get-insert_behind es k j x ge le)

ahead-inserted_before : (es : List (ℕ × InstrData)) (k j : ℕ) (x : ℕ × InstrData) → j ≤ k → k ≤ length es → id_ahead (insert es k x) j ≡ id_ahead es j
ahead-inserted_before es k zero x lt le = refl
ahead-inserted_before es k (suc m) x lt le = nth-inserted_before es k m x (omega arith) le

pub body_of-inserted : (old : BlockData) (k : ℕ) (x : ℕ × InstrData) → k ≤ length old.instrs → body_gained (id_ahead old.instrs k) (nth_instr_id old.instrs k) (id_named x.0) (body_of old) ≡ body_of (record old { instrs = insert old.instrs k x })
body_of-inserted old k x within =
    body_same (body_of old) _ _ _ _ _ _ (first k within) (last (less_or_not k (length old.instrs))) (omega (arith, length-insert old.instrs k x within))
  where
    first : (k : ℕ) → k ≤ length old.instrs → end_with (id_ahead old.instrs k) (Some (id_named x.0)) (nth_instr_id old.instrs 0) ≡ nth_instr_id (insert old.instrs k x) 0
    first zero le = sym (nth-inserted_at old.instrs 0 x le)
    first (suc m) le = some_named old.instrs m (omega arith) _ (λ id e. ap (λ (o : Option InstrId). end_with o (Some (id_named x.0)) (nth_instr_id old.instrs 0)) e ∙ sym (nth-inserted_before old.instrs (suc m) 0 x (omega arith) le))

    more : length (insert old.instrs k x) ≡ suc (length old.instrs)
    more = omega (arith, length-insert old.instrs k x within)

    before : (n : ℕ) → n ≡ length old.instrs → k < n → id_ahead old.instrs n ≡ nth_instr_id (insert old.instrs k x) n
    before zero e lt = absurd (omega arith)
    before (suc m) e lt = sym (nth-inserted_behind old.instrs k m x (omega arith) within)

    last : (k < length old.instrs) ⊎ (length old.instrs ≤ k) → end_with (nth_instr_id old.instrs k) (Some (id_named x.0)) (id_ahead old.instrs (length old.instrs)) ≡ id_ahead (insert old.instrs k x) (length (insert old.instrs k x))
    last c = ⊎_elim
        (λ (lt : k < length old.instrs). some_named old.instrs k lt _ (λ id e. ap (λ (o : Option InstrId). end_with o (Some (id_named x.0)) (id_ahead old.instrs (length old.instrs))) e
        ∙ before (length old.instrs) refl lt ∙ sym (ap (id_ahead (insert old.instrs k x)) more)))
        (λ (le : length old.instrs ≤ k).
        let end : length old.instrs ≡ k = omega arith in
        ap (λ (o : Option InstrId). end_with o (Some (id_named x.0)) (id_ahead old.instrs (length old.instrs))) (nth-past old.instrs k le)
        ∙ sym (ap (id_ahead (insert old.instrs k x)) more ∙ ap (nth_instr_id (insert old.instrs k x)) end ∙ nth-inserted_at old.instrs k x within))
        c

pub IsRelinked-inserted : (slots after : List Slot) (old : BlockData) (k : ℕ) (x : ℕ × InstrData) → ((j i : ℕ) → nth_id old.instrs j ≡ Some i → slice_get slots i ≡ Some (slot_at old.instrs j)) → HasDistinctIds old.instrs
    → k ≤ length old.instrs → x.0 ≡ length slots → has_instr x.0 old ≡ false
    → after ≡ previous_set (nth_instr_id old.instrs k) (Some (id_named x.0)) (next_set (id_ahead old.instrs k) (Some (id_named x.0)) (slots ++ record { entry = Some x; previous = id_ahead old.instrs k; next = nth_instr_id old.instrs k } ∷ []))
    → IsRelinked slots after old (record old { instrs = insert old.instrs k x })
IsRelinked-inserted slots after old k x links distinct within count fresh is = record {
  here = λ j i h. here j i h (less_or_not j k);
  others = λ i no_old no_new. others i no_old no_new;
  gone = λ i s in_old no_new found. absurd (kept i (place_of i old.instrs) (nth_id-place_of i old.instrs in_old) no_new);
}
  where
    new : Slot
    new = record { entry = Some x; previous = id_ahead old.instrs k; next = nth_instr_id old.instrs k }

    nth_id-inserted_before : (j : ℕ) → j < k → nth_id (insert old.instrs k x) j ≡ nth_id old.instrs j
    nth_id-inserted_before j lt = ap (option_map (λ (p : ℕ × InstrData). p.0)) (slice_get-insert_before old.instrs k j x lt within)

    nth_id-inserted_behind : (j : ℕ) → k ≤ j → nth_id (insert old.instrs k x) (suc j) ≡ nth_id old.instrs j
    nth_id-inserted_behind j ge = ap (option_map (λ (p : ℕ × InstrData). p.0)) (slice_get-insert_behind old.instrs k j x ge within)

    nth_id-inserted_at : nth_id (insert old.instrs k x) k ≡ Some x.0
    nth_id-inserted_at = ap (option_map (λ (p : ℕ × InstrData). p.0)) (slice_get-insert_at old.instrs k x within)

    previous-early : (j : ℕ) → j < k → cond (k == j) (Some (id_named x.0)) (id_ahead old.instrs j) ≡ id_ahead (insert old.instrs k x) j
    previous-early j lt =
        ap (λ (t : Bool). cond t (Some (id_named x.0)) (id_ahead old.instrs j)) (test_apart k j (λ e. absurd (omega arith))) ∙ sym (ahead-inserted_before old.instrs k j x (omega arith) within)

    next-early : (j : ℕ) → j < k → (k ≡ suc j) ⊎ (k ≢ suc j) → cond (k == suc j) (Some (id_named x.0)) (nth_instr_id old.instrs (j + 1)) ≡ nth_instr_id (insert old.instrs k x) (j + 1)
    next-early j lt c = ⊎_elim
        (λ (e : k ≡ suc j).
        let there : j + 1 ≡ k = omega arith in
        ap (λ (t : Bool). cond t (Some (id_named x.0)) (nth_instr_id old.instrs (j + 1))) (eq-eqb k (suc j) e) ∙ sym (ap (nth_instr_id (insert old.instrs k x)) there ∙ nth-inserted_at old.instrs k x within))
        (λ (ne : k ≢ suc j).
        ap (λ (t : Bool). cond t (Some (id_named x.0)) (nth_instr_id old.instrs (j + 1))) (test_apart k (suc j) ne) ∙ sym (nth-inserted_before old.instrs k (j + 1) x (omega arith) within))
        c

    previous-late : (j : ℕ) → k ≤ j → (k ≡ j) ⊎ (k ≢ j) → cond (k == j) (Some (id_named x.0)) (id_ahead old.instrs j) ≡ id_ahead (insert old.instrs k x) (suc j)
    previous-late j ge c = ⊎_elim
        (λ (e : k ≡ j).
        ap (λ (t : Bool). cond t (Some (id_named x.0)) (id_ahead old.instrs j)) (eq-eqb k j e) ∙ sym (ap (nth_instr_id (insert old.instrs k x)) (sym e) ∙ nth-inserted_at old.instrs k x within))
        (λ (ne : k ≢ j). ap (λ (t : Bool). cond t (Some (id_named x.0)) (id_ahead old.instrs j)) (test_apart k j ne) ∙ late j ge ne)
        c
      where
        late : (j : ℕ) → k ≤ j → k ≢ j → id_ahead old.instrs j ≡ nth_instr_id (insert old.instrs k x) j
        late zero ge ne = absurd (omega arith)
        late (suc m) ge ne = sym (nth-inserted_behind old.instrs k m x (omega arith) within)

    next-late : (j : ℕ) → k ≤ j → cond (k == suc j) (Some (id_named x.0)) (nth_instr_id old.instrs (j + 1)) ≡ nth_instr_id (insert old.instrs k x) (suc j + 1)
    next-late j ge =
        let there : suc j + 1 ≡ suc (j + 1) = omega arith in
        ap (λ (t : Bool). cond t (Some (id_named x.0)) (nth_instr_id old.instrs (j + 1))) (test_apart k (suc j) (λ e. absurd (omega arith))) ∙ sym (ap (nth_instr_id (insert old.instrs k x)) there ∙ nth-inserted_behind old.instrs k (j + 1) x (omega arith) within)

    placed : (j y i : ℕ) → nth_id old.instrs y ≡ Some i → slice_get old.instrs y ≡ slice_get (insert old.instrs k x) j
        → cond (k == y) (Some (id_named x.0)) (id_ahead old.instrs y) ≡ id_ahead (insert old.instrs k x) j
        → cond (k == suc y) (Some (id_named x.0)) (nth_instr_id old.instrs (y + 1)) ≡ nth_instr_id (insert old.instrs k x) (j + 1)
        → slice_get after i ≡ Some (slot_at (insert old.instrs k x) j)
    placed j y i was entry before behind =
        ap (λ (xs : List Slot). slice_get xs i) is
        ∙ both-set (slots ++ new ∷ []) (id_ahead old.instrs k) (nth_instr_id old.instrs k) (Some (id_named x.0)) (Some (id_named x.0)) i (slot_at old.instrs y) (k == suc y) (k == y)
        (named_ahead old.instrs k y i distinct was) (named_at old.instrs k y i distinct was)
        (slice_get-push_other slots new (slot_at old.instrs y) i (links y i was))
        ∙ ap Some (slot_same _ _ _ _ _ _ entry before behind)

    -- the new one
    came : slice_get after x.0 ≡ Some (slot_at (insert old.instrs k x) k)
    came =
        let behind : k + 1 ≡ suc k = omega arith in
        ap (λ (xs : List Slot). slice_get xs x.0) is
        ∙ both-untouched (slots ++ new ∷ []) _ _ _ _ x.0 (ahead_absent old.instrs k x.0 fresh) (named_absent old.instrs k x.0 fresh)
        ∙ ap (slice_get (slots ++ new ∷ [])) count ∙ slice_get-push slots new
        ∙ ap Some (slot_same _ _ _ _ _ _ (sym (slice_get-insert_at old.instrs k x within)) (sym (ahead-inserted_before old.instrs k k x (omega arith) within)) (sym (ap (nth_instr_id (insert old.instrs k x)) behind ∙ nth-inserted_behind old.instrs k k x (omega arith) within)))

    here : (j i : ℕ) → nth_id (insert old.instrs k x) j ≡ Some i → (j < k) ⊎ (k ≤ j) → slice_get after i ≡ Some (slot_at (insert old.instrs k x) j)
    here j i h c = ⊎_elim
        (λ (lt : j < k). placed j j i (sym (nth_id-inserted_before j lt) ∙ h) (sym (slice_get-insert_before old.instrs k j x lt within)) (previous-early j lt) (next-early j lt (cases_eq k (suc j))))
        (λ (ge : k ≤ j). late j i ge h (cases_eq j k))
        c
      where
        behind : (j i : ℕ) → k < j → nth_id (insert old.instrs k x) j ≡ Some i → slice_get after i ≡ Some (slot_at (insert old.instrs k x) j)
        behind zero i gt h = absurd (omega arith)
        behind (suc m) i gt h =
            placed (suc m) m i (sym (nth_id-inserted_behind m (omega arith)) ∙ h) (sym (slice_get-insert_behind old.instrs k m x (omega arith) within)) (previous-late m (omega arith) (cases_eq k m)) (next-late m (omega arith))

        late : (j i : ℕ) → k ≤ j → nth_id (insert old.instrs k x) j ≡ Some i → (j ≡ k) ⊎ (j ≢ k) → slice_get after i ≡ Some (slot_at (insert old.instrs k x) j)
        late j i ge h c = ⊎_elim
            (λ (e : j ≡ k).
            let first : i ≡ x.0 = cc (ap (nth_id (insert old.instrs k x)) e, nth_id-inserted_at) in
            ap (slice_get after) first ∙ came ∙ ap (λ (y : ℕ). Some (slot_at (insert old.instrs k x) y)) (sym e))
            (λ (ne : j ≢ k). behind j i (omega arith) h)
            c

    others : (i : ℕ) → has_instr i old ≡ false → list_any (λ p. p.0 == i) (insert old.instrs k x) ≡ false → slice_get after i ≡ slice_get slots i
    others i no_old no_new =
        ap (λ (xs : List Slot). slice_get xs i) is ∙ both-untouched (slots ++ new ∷ []) _ _ _ _ i (ahead_absent old.instrs k i no_old) (named_absent old.instrs k i no_old)
        ∙ slice_get-pushed_before slots new i (λ e. cc (has_instr-nth_id i (insert old.instrs k x) k (nth_id-inserted_at ∙ ap Some (count ∙ sym e))))

    kept : (i y : ℕ) → nth_id old.instrs y ≡ Some i → list_any (λ p. p.0 == i) (insert old.instrs k x) ≡ false → ⊥
    kept i y was none = ⊎_elim
        (λ (lt : y < k). cc (has_instr-nth_id i (insert old.instrs k x) y (nth_id-inserted_before y lt ∙ was)))
        (λ (ge : k ≤ y). cc (has_instr-nth_id i (insert old.instrs k x) (suc y) (nth_id-inserted_behind y ge ∙ was)))
        (less_or_not y k)
