-- An arena that spells blocks, with all that is written down beside it, stays so under each edit.
use Rattle.std.proofs.Common.{◌≡◌, ◌≢◌, ℕ, zero, suc, ◌+◌, ◌<◌, ◌≤◌, Bool, true, false, not, ◌&&◌, ◌||◌, List, [], ◌∷◌, ◌++◌, Option, Some, None, ◌⊎◌, inl, inr, ⊎_elim, length, get_or, set, refl, sym, subst, ap, ◌∙◌, arith, eqb-true}
use Rattle.std.specs.Prelude.{Contains, IfSome, insert, remove, slice_get, option_map, is_some}
use Rattle.std.specs.List.{list_any}
use Rattle.std.specs.Option.{option_map_or}
use Rattle.std.proofs.lemmas.Bool.Decides.{nat_tests}
use Rattle.std.proofs.lemmas.List.{length-append, map-append}
use Rattle.std.proofs.lemmas.List.Folds.{list_any-append}
use Rattle.std.proofs.lemmas.List.Sums.{sum_by-append}
use Rattle.std.proofs.lemmas.Option.{get_or_from_slice_get, slice_get_read, slice_get_within}
use Rattle.gi_mir.specs.declared.block.Body.{Body}
use Rattle.gi_mir.specs.declared.block.InstrId.{InstrId}
use Rattle.gi_mir.specs.declared.block.Slot.{Slot}
use Rattle.gi_mir.specs.declared.layout.Layout.{Layout}
use Rattle.gi_mir.specs.declared.mentions.Mentions.{Mentions}
use Rattle.gi_mir.specs.declared.operand.Kind.{Kind}
use Rattle.gi_mir.specs.declared.operand.Operand.{Operand}
use Rattle.gi_mir.specs.declared.operand.Operand.TheVariants as operand
use Rattle.gi_mir.specs.declared.place.Place.{Place}
use Rattle.gi_mir.specs.Arena.{FitsGap, HasOrder, IsLinked, IsStored, blocks_in, blocks_of, body_gained, body_lost, body_of, body_with, gap_at, id_ahead, id_named, next_set, is_in, nth_instr_id, previous_set, slot_at, slot_between, slot_changed, spot_of}
use Rattle.gi_mir.specs.Data.{InstrData, BlockData}
use Rattle.gi_mir.specs.Edit.{HeadData, empty_block, ids_of, spot_in, all_instrs, block_changed_at, block_with, changed_at, has_instr, of_kind, with_kind, with_operand}
use Rattle.gi_mir.specs.Ids.{AreOwnIds, uses_in, uses_of}
use Rattle.gi_mir.specs.Mentions.{is_mention, is_mentioned, mention_of, operands_of, mentions, mentioning, precedes, listed, IsNoted, IsForgotten, IsSorted, AreInRank, Lacks}
use Rattle.gi_mir.specs.Places.{place, comes_before, body_at, id_in, nth_id, with_changed_at, with_inserted, with_removed}
use Rattle.gi_mir.proofs.ArenaLemmas.{blocks_in-linked}
use Rattle.gi_mir.proofs.Edits.{length-changed_at, set-as_changed, slice_get-push, slice_get-pushed_before}
use Rattle.gi_mir.proofs.FormedLemmas.{changed_at-suc}
use Rattle.gi_mir.proofs.IdsLemmas.{AreOwnIds-set, AreOwnIds-inserted, AreOwnIds-removed, uses_among-changed_at}
use Rattle.gi_mir.proofs.Linked.{id_in-named, id_in-spot, linked-body, linked-slot, linked-tells, order-read, order-within}
use Rattle.gi_mir.proofs.Linking.{IsLinked-set, IsRelinked-changed, IsRelinked-inserted, IsRelinked-removed, bodies-kept, body_of-changed, body_of-inserted, body_of-removed, links-in}
use Rattle.gi_mir.proofs.Located.{HasDistinctIds-in, get_or-within, id_in-within, nth_id-place_of, nth_id-within, uses_of-id_in}
use Rattle.gi_mir.proofs.Mentioned.{IsSplit, IsListedAs, IsSplit-new, IsSplit-at, IsListedAs-with, IsListedAs-without, IsListedAs-noted, IsListedAs-forgotten, IsSorted-as, Lacks-as, mentions-with, mentions-without, ahead, behind, all-split, all-split-at, all-inserted, all-removed, all-changed}
use Rattle.gi_mir.proofs.OrLemmas.{or_right}
use Rattle.gi_mir.proofs.Ranks.{AreInRank-as}
use Rattle.gi_mir.proofs.Ordered.{HasOrder-changed, HasOrder-inserted, HasOrder-push, HasOrder-removed, IsBetween, IsBetween-fits}

-- ---- what an arena spells

pub record IsSpelled (bodies : List Body) (slots : List Slot) (places : List Place) (m : Mentions) (blocks : List BlockData) : Type 0 where
  pub given : length places ≡ length slots
  pub own : AreOwnIds blocks (length slots)
  pub linked : IsLinked bodies slots blocks
  pub order : HasOrder places blocks
  pub has_mentions : (key : ℕ) → listed m key ≡ mentioning key (all_instrs blocks)

pub stored-spelled : (l : Layout) → IsStored l → IsSpelled l.bodies.items l.slots.items l.places.items l.mentions (blocks_of l)
stored-spelled l stored = record {
  given = stored.given;
  own = stored.own;
  linked = stored.linked;
  order = stored.order;
  has_mentions = stored.has_mentions;
}

pub spelled-blocks : {bodies : List Body} {slots : List Slot} {places : List Place} {m : Mentions} {blocks : List BlockData} → IsSpelled bodies slots places m blocks → blocks_in bodies slots ≡ blocks
spelled-blocks spelled = blocks_in-linked _ _ _ spelled.linked

pub spelled-blocks_of : (l : Layout) (blocks : List BlockData) → IsSpelled l.bodies.items l.slots.items l.places.items l.mentions blocks → blocks_of l ≡ blocks
spelled-blocks_of l blocks spelled = blocks_in-linked l.bodies.items l.slots.items blocks spelled.linked

pub spelled-stored : (l : Layout) (blocks : List BlockData) → IsSpelled l.bodies.items l.slots.items l.places.items l.mentions blocks → IsStored l
spelled-stored l blocks spelled =
    let here = subst (λ (bs : List BlockData). IsSpelled l.bodies.items l.slots.items l.places.items l.mentions bs) (sym (spelled-blocks_of l blocks spelled)) spelled in
    record {
      given = here.given;
      own = here.own;
      linked = here.linked;
      order = here.order;
      has_mentions = here.has_mentions;
    }

-- ---- what a call reads of an instruction

pub live-within : (l : Layout) (id : ℕ) → IsStored l → is_in (blocks_of l) id ≡ true → id < length l.slots.items
live-within l id stored live = slice_get_within l.slots.items id _ (linked-slot l.bodies.items l.slots.items (blocks_of l) id stored.linked live)

pub live-slot : (l : Layout) (id : ℕ) (s : Slot) → IsStored l → is_in (blocks_of l) id ≡ true → s ≡ get_or l.slots.items id s → s ≡ slot_at (body_at (blocks_of l) (spot_of (blocks_of l) id).block).instrs (spot_of (blocks_of l) id).at
live-slot l id s stored live is = is ∙ get_or_from_slice_get l.slots.items id _ s (linked-slot l.bodies.items l.slots.items (blocks_of l) id stored.linked live)

pub live-some : (l : Layout) (id : ℕ) (s : Slot) → IsStored l → is_in (blocks_of l) id ≡ true → s ≡ get_or l.slots.items id s → is_some s.entry ≡ true
live-some l id s stored live is = linked-tells l.bodies.items l.slots.items (blocks_of l) id s stored.linked (live-read l id s stored live is) ∙ live
  where
    live-read : (l : Layout) (id : ℕ) (s : Slot) → IsStored l → is_in (blocks_of l) id ≡ true → s ≡ get_or l.slots.items id s → slice_get l.slots.items id ≡ Some s
    live-read l id s stored live is = slice_get_read l.slots.items _ id s refl (live-within l id stored live) is

-- its place, and what an edit of it makes of the arena
pub live-place-within : (l : Layout) (id : ℕ) → IsStored l → is_in (blocks_of l) id ≡ true → id < length l.places.items
live-place-within l id stored live = order-within l.places.items (blocks_of l) (spot_of (blocks_of l) id).block (spot_of (blocks_of l) id).at id stored.order (id_in-spot (blocks_of l) id live)

pub live-place : (l : Layout) (id : ℕ) (p : Place) → IsStored l → is_in (blocks_of l) id ≡ true → p ≡ get_or l.places.items id p → slice_get l.places.items id ≡ Some p
live-place l id p stored live is = order-read l.places.items (blocks_of l) (spot_of (blocks_of l) id).block (spot_of (blocks_of l) id).at id p stored.order (id_in-spot (blocks_of l) id live) is

pub live-edited : (l : Layout) (id : ℕ) (s t : Slot) (edit : InstrData → InstrData) → IsStored l → is_in (blocks_of l) id ≡ true → s ≡ get_or l.slots.items id s → t ≡ slot_changed edit s → set l.slots.items id t ≡ changed_at (slot_changed edit) id l.slots.items
live-edited l id s t edit stored live is done =
    ap (set l.slots.items id) done ∙ set-as_changed (slot_changed edit) l.slots.items id s (slice_get_read l.slots.items _ id s refl (live-within l id stored live) is)

-- ---- the entry of an instruction

-- the entry that stands at a place
pub entry_of : (P : Type 0) (blocks : List BlockData) (b at id : ℕ) → id_in blocks b at ≡ Some id → ((i : InstrData) → slice_get (get_or blocks b empty_block).instrs at ≡ Some (id, i) → P) → P
entry_of P blocks b at id stands f = by (slice_get (get_or blocks b empty_block).instrs at) refl
  where
    by : (o : Option (ℕ × InstrData)) → slice_get (get_or blocks b empty_block).instrs at ≡ o → P
    by None h = absurd (cc (rw h at stands))
    by (Some (n, i)) h = let same : n ≡ id = cc (rw h at stands) in f i (h ∙ ap (λ (k : ℕ). Some (k, i)) same)

-- ---- an arena keeps its length where neighbours are set

pub length-next_set : (o next : Option InstrId) (slots : List Slot) → length (next_set o next slots) ≡ length slots
length-next_set None next slots = refl
length-next_set (Some id) next slots = length-changed_at (λ (s : Slot). record s { next = next }) slots id.0

pub length-previous_set : (o previous : Option InstrId) (slots : List Slot) → length (previous_set o previous slots) ≡ length slots
length-previous_set None previous slots = refl
length-previous_set (Some id) previous slots = length-changed_at (λ (s : Slot). record s { previous = previous }) slots id.0

-- ---- an instruction that changes

pub spelled-changed : (bodies : List Body) (slots after : List Slot) (places : List Place) (old new : Mentions) (blocks : List BlockData) (b at : ℕ) (edit : InstrData → InstrData) (id : InstrId) (i : InstrData) (between : ℕ → Bool)
    → id_in blocks b at ≡ Some id.0 → slice_get (body_at blocks b).instrs at ≡ Some (id.0, i) → after ≡ changed_at (slot_changed edit) id.0 slots
    → IsListedAs new (ahead blocks b at) (behind blocks b (suc at)) id between → ((key : ℕ) → between key ≡ mentions key (id.0, edit i))
    → IsSpelled bodies slots places old blocks → IsSpelled bodies after places new (with_changed_at edit blocks (place b at))
spelled-changed bodies slots after places old new blocks b at edit id i between stands here is as_so mentioned spelled =
    let within = id_in-within id.0 blocks b at stands in
    let body = body_at blocks b in
    let same : body ≡ get_or blocks b body = get_or-within blocks b empty_block body within in
    let own = AreOwnIds-set blocks (length slots) b body (block_changed_at edit at body) within same (λ k. omega (arith, uses_among-changed_at k edit body.instrs at)) spelled.own in
    let count : length after ≡ length slots = ap length is ∙ length-changed_at (slot_changed edit) slots id.0 in
    record {
      given = spelled.given ∙ sym count;
      own = rw count own;
      linked = IsLinked-set bodies bodies slots after blocks (length slots) (length slots) b (block_changed_at edit at body) within spelled.own own
          (bodies-kept bodies slots blocks b (block_changed_at edit at body) within (body_of-changed edit at body) spelled.linked)
          (IsRelinked-changed slots after body edit at id.0 (links-in bodies slots blocks b spelled.linked) (HasDistinctIds-in blocks (length slots) b within spelled.own) stands is)
          spelled.linked;
      order = HasOrder-changed places blocks b at edit within spelled.order;
      has_mentions = mentions-with new (ahead blocks b at) (behind blocks b (suc at)) (id.0, edit i) between (all_instrs (set blocks b (block_changed_at edit at body))) (all-changed blocks b at body edit (id.0, i) within refl here) mentioned as_so;
    }

-- with what it mentions left as it is
pub spelled-edited : (bodies : List Body) (slots after : List Slot) (places : List Place) (m : Mentions) (blocks : List BlockData) (b at : ℕ) (edit : InstrData → InstrData) (id : InstrId)
    → id_in blocks b at ≡ Some id.0 → after ≡ changed_at (slot_changed edit) id.0 slots → ((key : ℕ) (p : ℕ × InstrData) → mentions key (p.0, edit p.1) ≡ mentions key p)
    → IsSpelled bodies slots places m blocks → IsSpelled bodies after places m (with_changed_at edit blocks (place b at))
spelled-edited bodies slots after places m blocks b at edit id stands is keeps spelled =
    entry_of (IsSpelled bodies after places m (with_changed_at edit blocks (place b at))) blocks b at id.0 stands
    (λ i here. spelled-changed bodies slots after places m m blocks b at edit id i (λ key. mentions key (id.0, i)) stands here is
    (IsListedAs-with m (ahead blocks b at) (behind blocks b (suc at)) (id.0, i) (all_instrs blocks) (all-split-at blocks b at (id.0, i) (id_in-within id.0 blocks b at stands) here) spelled.has_mentions)
    (λ key. sym (keeps key (id.0, i))) spelled)

-- ---- one operand that changes

or_swap : (a b : Bool) → (a || (b || false)) ≡ (b || a)
or_swap true true = refl
or_swap true false = refl
or_swap false true = refl
or_swap false false = refl

list_any-set : (p : Operand → Bool) (xs : List Operand) (k : ℕ) (x new : Operand) → slice_get xs k ≡ Some x → p x ≡ false → (list_any p xs || list_any p (new ∷ [])) ≡ list_any p (set xs k new)
list_any-set p [] k x new h none = cc
list_any-set p (y ∷ ys) zero x new h none =
    let same : y ≡ x = cc in rw (same, none) (or_swap (list_any p ys) (p new))
list_any-set p (y ∷ ys) (suc k) x new h none = by (p y) (list_any-set p ys k x new h none)
  where
    by : (b : Bool) → (list_any p ys || list_any p (new ∷ [])) ≡ list_any p (set ys k new) → ((b || list_any p ys) || list_any p (new ∷ [])) ≡ (b || list_any p (set ys k new))
    by true e = refl
    by false e = e

list_any-there : (p : Operand → Bool) (xs : List Operand) (k : ℕ) (x : Operand) → slice_get xs k ≡ Some x → p x ≡ true → list_any p xs ≡ true
list_any-there p [] k x h passes = cc
list_any-there p (y ∷ ys) zero x h passes = let same : y ≡ x = cc in rw (same, passes) refl
list_any-there p (y ∷ ys) (suc k) x h passes = or_right (p y) (list_any p ys) (list_any-there p ys k x h passes)

is_mentioned-key : (key : ℕ) (x : Operand) (xs : List Operand) → is_mention key x ≡ true → is_mentioned x xs ≡ list_any (is_mention key) xs
is_mentioned-key key x xs h = by (mention_of x) refl
  where
    by : (o : Option ℕ) → mention_of x ≡ o → is_mentioned x xs ≡ list_any (is_mention key) xs
    by None e = cc (rw e at h)
    by (Some k) e = let same = eqb-true k key (rw e at h) in rw e (ap (λ (n : ℕ). list_any (is_mention n) xs) same)

test_cases : (b : Bool) → (b ≡ true) ⊎ (b ≡ false)
test_cases true = inl refl
test_cases false = inr refl

-- where nothing mentions any more what the old operand did
operand-forgotten : (key : ℕ) (xs : List Operand) (k : ℕ) (x new : Operand) → slice_get xs k ≡ Some x → is_mentioned x (set xs k new) ≡ false → ((list_any (is_mention key) xs || list_any (is_mention key) (new ∷ [])) && not (list_any (is_mention key) (x ∷ []))) ≡ list_any (is_mention key) (set xs k new)
operand-forgotten key xs k x new h none = ⊎_elim
    (λ (there : is_mention key x ≡ true). rw there (and_false (list_any (is_mention key) xs || list_any (is_mention key) (new ∷ [])) ∙ sym (sym (is_mentioned-key key x (set xs k new) there) ∙ none)))
    (λ (not_there : is_mention key x ≡ false). rw not_there (and_true (list_any (is_mention key) xs || list_any (is_mention key) (new ∷ [])) ∙ list_any-set (is_mention key) xs k x new h not_there))
    (test_cases (is_mention key x))
  where
    and_true : (b : Bool) → (b && true) ≡ b
    and_true true = refl
    and_true false = refl

    and_false : (b : Bool) → (b && false) ≡ false
    and_false true = refl
    and_false false = refl

-- and where something does
operand-kept : (key : ℕ) (xs : List Operand) (k : ℕ) (x new : Operand) → slice_get xs k ≡ Some x → is_mentioned x (set xs k new) ≡ true → (list_any (is_mention key) xs || list_any (is_mention key) (new ∷ [])) ≡ list_any (is_mention key) (set xs k new)
operand-kept key xs k x new h some = ⊎_elim
    (λ (there : is_mention key x ≡ true). ap (λ (b : Bool). b || list_any (is_mention key) (new ∷ [])) (list_any-there (is_mention key) xs k x h there) ∙ sym (sym (is_mentioned-key key x (set xs k new) there) ∙ some))
    (λ (not_there : is_mention key x ≡ false). list_any-set (is_mention key) xs k x new h not_there)
    (test_cases (is_mention key x))

-- the kind of a definition is no matter
pub mentions-with_kind : (kind : Kind) (k key : ℕ) (p : ℕ × InstrData) → mentions key (p.0, with_kind p.1 k kind) ≡ mentions key p
mentions-with_kind kind k key p = by p.1.operands k
  where
    one : (x : Operand) → is_mention key (of_kind kind x) ≡ is_mention key x
    one (operand.Def r old) = refl
    one _ = refl

    by : (xs : List Operand) (k : ℕ) → list_any (is_mention key) (changed_at (of_kind kind) k xs) ≡ list_any (is_mention key) xs
    by [] k = refl
    by (x ∷ xs) zero = ap (λ (b : Bool). b || list_any (is_mention key) xs) (one x)
    by (x ∷ xs) (suc k) = rw (changed_at-suc (of_kind kind) k x xs) (ap (λ (b : Bool). is_mention key x || b) (by xs k))

-- ---- an instruction that is taken out

pub spelled-removed : (bodies ends : List Body) (slots taken after : List Slot) (places : List Place) (old new : Mentions) (blocks : List BlockData) (b at : ℕ) (id : InstrId) (i : InstrData) (spot : Place)
    → id_in blocks b at ≡ Some id.0 → slice_get (body_at blocks b).instrs at ≡ Some (id.0, i) → slice_get places id.0 ≡ Some spot
    → length taken ≡ length slots → ((k : ℕ) → k ≢ id.0 → slice_get taken k ≡ slice_get slots k) → ((s : Slot) → slice_get taken id.0 ≡ Some s → s.entry ≡ None)
    → after ≡ previous_set (nth_instr_id (body_at blocks b).instrs (suc at)) (id_ahead (body_at blocks b).instrs at) (next_set (id_ahead (body_at blocks b).instrs at) (nth_instr_id (body_at blocks b).instrs (suc at)) taken)
    → ends ≡ set bodies b (body_of (record (body_at blocks b) { instrs = remove (body_at blocks b).instrs at }))
    → IsForgotten old new i.operands id → IsSpelled bodies slots places old blocks → IsSpelled ends after places new (with_removed blocks (place b at))
spelled-removed bodies ends slots taken after places old new blocks b at id i spot stands here there count others empty is closed gone spelled =
    let within = id_in-within id.0 blocks b at stands in
    let body = body_at blocks b in
    let less = record body { instrs = remove body.instrs at } in
    let same : body ≡ get_or blocks b body = get_or-within blocks b empty_block body within in
    let own = AreOwnIds-removed blocks (length slots) b at body within same spelled.own in
    let size : length after ≡ length slots =
    ap length is
    ∙ length-previous_set (nth_instr_id body.instrs (suc at)) (id_ahead body.instrs at) (next_set (id_ahead body.instrs at) (nth_instr_id body.instrs (suc at)) taken)
    ∙ length-next_set (id_ahead body.instrs at) (nth_instr_id body.instrs (suc at)) taken
    ∙ count in
    let front = ahead blocks b at in
    let back = behind blocks b (suc at) in
    let before = IsListedAs-with old front back (id.0, i) (all_instrs blocks) (all-split-at blocks b at (id.0, i) within here) spelled.has_mentions in
    let lists = IsListedAs-forgotten (precedes places spot) id front back old new (λ key. mentions key (id.0, i)) i.operands (IsSplit-at places blocks b at id spot spelled.order stands there) before gone in
    record {
      given = spelled.given ∙ sym size;
      own = rw size own;
      linked = IsLinked-set bodies ends slots after blocks (length slots) (length slots) b less within spelled.own own closed
          (IsRelinked-removed slots taken after body at id.0 (links-in bodies slots blocks b spelled.linked) (HasDistinctIds-in blocks (length slots) b within spelled.own) stands others empty is)
          spelled.linked;
      order = HasOrder-removed places blocks b at within spelled.order;
      has_mentions = mentions-without new front back id _ (all_instrs (set blocks b less)) (all-removed blocks b at body within refl) (λ key. never (mentions key (id.0, i))) lists;
    }
  where
    never : (t : Bool) → (t && not t) ≡ false
    never true = refl
    never false = refl

-- ---- an instruction that is put in

comes_before-same : (spot : Place) → comes_before spot spot ≡ false
comes_before-same spot = grind (arith, nat_tests)

-- a new id is in no block
pub fresh-id : (blocks : List BlockData) (n c k i : ℕ) → AreOwnIds blocks n → id_in blocks c k ≡ Some i → i ≢ n
fresh-id blocks n c k i own h = λ e. absurd (omega (arith, uses_of-id_in i blocks c k h, own.given i (omega arith)))

IsBetween-push : (places : List Place) (blocks : List BlockData) (spot more : Place) (at n : ℕ) → length places ≡ n → AreOwnIds blocks n → IsBetween places blocks spot at → IsBetween (places ++ more ∷ []) blocks spot at
IsBetween-push places blocks spot more at n count own between = record {
  low = λ k id p lt h found. between.low k id p lt h (sym (slice_get-pushed_before places more id (λ e. fresh-id blocks n spot.block k id own h (e ∙ count))) ∙ found);
  high = λ k id p ge h found. between.high k id p ge h (sym (slice_get-pushed_before places more id (λ e. fresh-id blocks n spot.block k id own h (e ∙ count))) ∙ found);
}

-- the lists around the new instruction, before it is noted
pub split-pushed : (bodies : List Body) (slots : List Slot) (places : List Place) (m : Mentions) (blocks : List BlockData) (spot : Place) (at : ℕ) → IsBetween places blocks spot at → IsSpelled bodies slots places m blocks
    → IsSplit (precedes (places ++ spot ∷ []) spot) (id_named (length slots)) (ahead blocks spot.block at) (behind blocks spot.block at)
split-pushed bodies slots places m blocks spot at between spelled =
    IsSplit-new (places ++ spot ∷ []) blocks spot at (id_named (length slots)) (HasOrder-push places spot blocks spelled.order)
    (IsBetween-push places blocks spot spot at (length slots) spelled.given spelled.own between)
    (ap (λ (o : Option Place). option_map_or (λ p. comes_before p spot) o false) (ap (slice_get (places ++ spot ∷ [])) (sym spelled.given) ∙ slice_get-push places spot) ∙ comes_before-same spot)
    (λ c k i h. fresh-id blocks (length slots) c k i spelled.own h)

pub pushed-sorted : (bodies : List Body) (slots : List Slot) (places : List Place) (m : Mentions) (blocks : List BlockData) (spot : Place) (at : ℕ) → spot.block < length blocks → IsBetween places blocks spot at → IsSpelled bodies slots places m blocks → IsSorted (places ++ spot ∷ []) spot m
pushed-sorted bodies slots places m blocks spot at within between spelled =
    IsSorted-as (places ++ spot ∷ []) spot (id_named (length slots)) (ahead blocks spot.block at) (behind blocks spot.block at) m (λ key. false) (split-pushed bodies slots places m blocks spot at between spelled)
    (IsListedAs-without m (ahead blocks spot.block at) (behind blocks spot.block at) (id_named (length slots)) (all_instrs blocks) (all-split blocks spot.block at within) spelled.has_mentions)

pub pushed-fresh : (bodies : List Body) (slots : List Slot) (places : List Place) (m : Mentions) (blocks : List BlockData) (spot : Place) (at : ℕ) → spot.block < length blocks → IsBetween places blocks spot at → IsSpelled bodies slots places m blocks → Lacks m (id_named (length slots))
pushed-fresh bodies slots places m blocks spot at within between spelled =
    Lacks-as (precedes (places ++ spot ∷ []) spot) (id_named (length slots)) (ahead blocks spot.block at) (behind blocks spot.block at) m (split-pushed bodies slots places m blocks spot at between spelled)
    (IsListedAs-without m (ahead blocks spot.block at) (behind blocks spot.block at) (id_named (length slots)) (all_instrs blocks) (all-split blocks spot.block at within) spelled.has_mentions)

pub spelled-inserted : (bodies ends : List Body) (slots after : List Slot) (places : List Place) (old new : Mentions) (blocks : List BlockData) (b at label : ℕ) (i : InstrData)
    → b < length blocks → at ≤ length (body_at blocks b).instrs → FitsGap places (gap_at blocks (place b at)) label
    → after ≡ previous_set (nth_instr_id (body_at blocks b).instrs at) (Some (id_named (length slots))) (next_set (id_ahead (body_at blocks b).instrs at) (Some (id_named (length slots))) (slots ++ slot_between (gap_at blocks (place b at)) (length slots, i) ∷ []))
    → ends ≡ set bodies b (body_of (record (body_at blocks b) { instrs = insert (body_at blocks b).instrs at (length slots, i) }))
    → IsNoted old new (precedes (places ++ place b label ∷ []) (place b label)) i.operands (id_named (length slots)) → IsSpelled bodies slots places old blocks
    → IsSpelled ends after (places ++ place b label ∷ []) new (with_inserted blocks (place b at) (length slots, i))
spelled-inserted bodies ends slots after places old new blocks b at label i within bound fits is opened noted_so spelled =
    let body = body_at blocks b in
    let more = record body { instrs = insert body.instrs at (length slots, i) } in
    let same : body ≡ get_or blocks b body = get_or-within blocks b empty_block body within in
    let own = AreOwnIds-inserted blocks (length slots) b at body i within same spelled.own in
    let size : length after ≡ length slots + 1 =
    ap length is
    ∙ length-previous_set (nth_instr_id body.instrs at) (Some (id_named (length slots))) (next_set (id_ahead body.instrs at) (Some (id_named (length slots))) (slots ++ slot_between (gap_at blocks (place b at)) (length slots, i) ∷ []))
    ∙ length-next_set (id_ahead body.instrs at) (Some (id_named (length slots))) (slots ++ slot_between (gap_at blocks (place b at)) (length slots, i) ∷ [])
    ∙ length-append slots (slot_between (gap_at blocks (place b at)) (length slots, i) ∷ []) in
    let between = IsBetween-fits places blocks b at label bound spelled.order fits in
    let spot = place b label in
    let id = id_named (length slots) in
    let front = ahead blocks b at in
    let back = behind blocks b at in
    let before = IsListedAs-without old front back id (all_instrs blocks) (all-split blocks b at within) spelled.has_mentions in
    let lists = IsListedAs-noted (precedes (places ++ spot ∷ []) spot) id front back old new (λ key. false) i.operands (split-pushed bodies slots places old blocks spot at between spelled) before noted_so in
    record {
      given = length-append places (spot ∷ []) ∙ ap (λ (k : ℕ). k + 1) spelled.given ∙ sym size;
      own = rw size own;
      linked = IsLinked-set bodies ends slots after blocks (length slots) (length slots + 1) b more within spelled.own own opened
          (IsRelinked-inserted slots after body at (length slots, i) (links-in bodies slots blocks b spelled.linked) (HasDistinctIds-in blocks (length slots) b within spelled.own) bound refl
          (not_there (has_instr (length slots) body) refl) is)
          spelled.linked;
      order = HasOrder-inserted places blocks b at label (length slots, i) within bound (sym spelled.given) fits.positive fits.small between spelled.order;
      has_mentions = mentions-with new front back (length slots, i) _ (all_instrs (set blocks b more)) (all-inserted blocks b at body (length slots, i) within refl) (λ key. refl) lists;
    }
  where
    not_there : (t : Bool) → has_instr (length slots) (body_at blocks b) ≡ t → has_instr (length slots) (body_at blocks b) ≡ false
    not_there true e = absurd (fresh-id blocks (length slots) b _ (length slots) spelled.own (nth_id-place_of (length slots) (body_at blocks b).instrs e) refl)
    not_there false e = e

-- ---- an instruction that mentions one more

pub IsSorted-at : (bodies : List Body) (slots : List Slot) (places : List Place) (m : Mentions) (blocks : List BlockData) (b at : ℕ) (id : InstrId) (spot : Place) → id_in blocks b at ≡ Some id.0 → slice_get places id.0 ≡ Some spot → IsSpelled bodies slots places m blocks → IsSorted places spot m
IsSorted-at bodies slots places m blocks b at id spot stands there spelled =
    entry_of (IsSorted places spot m) blocks b at id.0 stands
    (λ i h. IsSorted-as places spot id (ahead blocks b at) (behind blocks b (suc at)) m (λ key. mentions key (id.0, i)) (IsSplit-at places blocks b at id spot spelled.order stands there)
    (IsListedAs-with m (ahead blocks b at) (behind blocks b (suc at)) (id.0, i) (all_instrs blocks) (all-split-at blocks b at (id.0, i) (id_in-within id.0 blocks b at stands) h) spelled.has_mentions))

-- and right behind those that precede it where it is listed
pub AreInRank-at : (bodies : List Body) (slots : List Slot) (places : List Place) (m : Mentions) (blocks : List BlockData) (b at : ℕ) (id : InstrId) (spot : Place) → id_in blocks b at ≡ Some id.0 → slice_get places id.0 ≡ Some spot → IsSpelled bodies slots places m blocks → AreInRank places spot id m
AreInRank-at bodies slots places m blocks b at id spot stands there spelled =
    entry_of (AreInRank places spot id m) blocks b at id.0 stands
    (λ i h. AreInRank-as places spot id (ahead blocks b at) (behind blocks b (suc at)) m (λ key. mentions key (id.0, i)) (IsSplit-at places blocks b at id spot spelled.order stands there)
    (IsListedAs-with m (ahead blocks b at) (behind blocks b (suc at)) (id.0, i) (all_instrs blocks) (all-split-at blocks b at (id.0, i) (id_in-within id.0 blocks b at stands) h) spelled.has_mentions))

-- the lists with the new operand noted
pub after_note : (bodies : List Body) (slots : List Slot) (places : List Place) (old noted : Mentions) (blocks : List BlockData) (b at : ℕ) (id : InstrId) (spot : Place) (i : InstrData) (new : Operand) → id_in blocks b at ≡ Some id.0 → slice_get places id.0 ≡ Some spot → slice_get (body_at blocks b).instrs at ≡ Some (id.0, i)
    → IsNoted old noted (precedes places spot) (new ∷ []) id → IsSpelled bodies slots places old blocks
    → IsListedAs noted (ahead blocks b at) (behind blocks b (suc at)) id (λ key. mentions key (id.0, i) || list_any (is_mention key) (new ∷ []))
after_note bodies slots places old noted blocks b at id spot i new stands there h noted_so spelled =
    let front = ahead blocks b at in
    let back = behind blocks b (suc at) in
    IsListedAs-noted (precedes places spot) id front back old noted (λ key. mentions key (id.0, i)) (new ∷ []) (IsSplit-at places blocks b at id spot spelled.order stands there)
    (IsListedAs-with old front back (id.0, i) (all_instrs blocks) (all-split-at blocks b at (id.0, i) (id_in-within id.0 blocks b at stands) h) spelled.has_mentions) noted_so

pub AreInRank-after_note : (bodies : List Body) (slots : List Slot) (places : List Place) (old noted : Mentions) (blocks : List BlockData) (b at : ℕ) (id : InstrId) (spot : Place) (new : Operand) → id_in blocks b at ≡ Some id.0 → slice_get places id.0 ≡ Some spot
    → IsNoted old noted (precedes places spot) (new ∷ []) id → IsSpelled bodies slots places old blocks → AreInRank places spot id noted
AreInRank-after_note bodies slots places old noted blocks b at id spot new stands there noted_so spelled =
    entry_of (AreInRank places spot id noted) blocks b at id.0 stands
    (λ i h. AreInRank-as places spot id (ahead blocks b at) (behind blocks b (suc at)) noted (λ key. mentions key (id.0, i) || list_any (is_mention key) (new ∷ [])) (IsSplit-at places blocks b at id spot spelled.order stands there)
    (after_note bodies slots places old noted blocks b at id spot i new stands there h noted_so spelled))

-- where the old operand was the last that mentions its register, and where it wasn't
pub spelled-operand-last : (bodies : List Body) (slots after : List Slot) (places : List Place) (old noted final : Mentions) (blocks : List BlockData) (b at : ℕ) (id : InstrId) (spot : Place) (i : InstrData) (k : ℕ) (x new : Operand)
    → id_in blocks b at ≡ Some id.0 → slice_get places id.0 ≡ Some spot → slice_get (body_at blocks b).instrs at ≡ Some (id.0, i) → after ≡ changed_at (slot_changed (λ j. with_operand j k new)) id.0 slots
    → slice_get i.operands k ≡ Some x → is_mentioned x (set i.operands k new) ≡ false → IsNoted old noted (precedes places spot) (new ∷ []) id → IsForgotten noted final (x ∷ []) id
    → IsSpelled bodies slots places old blocks → IsSpelled bodies after places final (with_changed_at (λ j. with_operand j k new) blocks (place b at))
spelled-operand-last bodies slots after places old noted final blocks b at id spot i k x new stands there here is was none noted_so gone spelled =
    spelled-changed bodies slots after places old final blocks b at (λ j. with_operand j k new) id i (λ key. (mentions key (id.0, i) || list_any (is_mention key) (new ∷ [])) && not (list_any (is_mention key) (x ∷ []))) stands here is
    (IsListedAs-forgotten (precedes places spot) id (ahead blocks b at) (behind blocks b (suc at)) noted final (λ key. mentions key (id.0, i) || list_any (is_mention key) (new ∷ [])) (x ∷ []) (IsSplit-at places blocks b at id spot spelled.order stands there)
    (after_note bodies slots places old noted blocks b at id spot i new stands there here noted_so spelled) gone)
    (λ key. operand-forgotten key i.operands k x new was none) spelled

pub spelled-operand-more : (bodies : List Body) (slots after : List Slot) (places : List Place) (old noted : Mentions) (blocks : List BlockData) (b at : ℕ) (id : InstrId) (spot : Place) (i : InstrData) (k : ℕ) (x new : Operand)
    → id_in blocks b at ≡ Some id.0 → slice_get places id.0 ≡ Some spot → slice_get (body_at blocks b).instrs at ≡ Some (id.0, i) → after ≡ changed_at (slot_changed (λ j. with_operand j k new)) id.0 slots
    → slice_get i.operands k ≡ Some x → is_mentioned x (set i.operands k new) ≡ true → IsNoted old noted (precedes places spot) (new ∷ []) id
    → IsSpelled bodies slots places old blocks → IsSpelled bodies after places noted (with_changed_at (λ j. with_operand j k new) blocks (place b at))
spelled-operand-more bodies slots after places old noted blocks b at id spot i k x new stands there here is was some noted_so spelled =
    spelled-changed bodies slots after places old noted blocks b at (λ j. with_operand j k new) id i (λ key. mentions key (id.0, i) || list_any (is_mention key) (new ∷ [])) stands here is
    (after_note bodies slots places old noted blocks b at id spot i new stands there here noted_so spelled)
    (λ key. operand-kept key i.operands k x new was some) spelled

-- ---- a block that is added

abbrev more_blocks : List BlockData → HeadData → List BlockData
more_blocks blocks h = blocks ++ block_with h ∷ []

instrs-added : (blocks : List BlockData) (h : HeadData) (b : ℕ) → (body_at (more_blocks blocks h) b).instrs ≡ (body_at blocks b).instrs
instrs-added [] h zero = refl
instrs-added [] h (suc b) = refl
instrs-added (c ∷ cs) h zero = refl
instrs-added (c ∷ cs) h (suc b) = instrs-added cs h b

all_instrs-added : (blocks : List BlockData) (h : HeadData) → all_instrs (more_blocks blocks h) ≡ all_instrs blocks
all_instrs-added [] h = refl
all_instrs-added (c ∷ cs) h = ap (λ (xs : List (ℕ × InstrData)). c.instrs ++ xs) (all_instrs-added cs h)

pub spelled-added : (bodies : List Body) (slots : List Slot) (places : List Place) (m : Mentions) (blocks : List BlockData) (h : HeadData) → IsSpelled bodies slots places m blocks → IsSpelled (bodies ++ body_with h ∷ []) slots places m (more_blocks blocks h)
spelled-added bodies slots places m blocks h spelled = record {
  given = spelled.given;
  own = record {
    once = λ id. rw (uses id) (spelled.own.once id);
    given = λ id more. uses id ∙ spelled.own.given id more;
  };
  linked = record {
    ends = ap (λ (xs : List Body). xs ++ body_with h ∷ []) spelled.linked.ends ∙ sym (map-append body_of blocks (block_with h ∷ []));
    linked = λ id b k at. spelled.linked.linked id b k (there id b k at) ∙ ap (λ (xs : List (ℕ × InstrData)). Some (slot_at xs k)) (sym (instrs-added blocks h b));
    empty = λ id s found none. spelled.linked.empty id s found (before (list_any (has_instr id) blocks) (list_any (has_instr id) (block_with h ∷ [])) (sym (list_any-append (has_instr id) blocks (block_with h ∷ [])) ∙ none));
  };
  order = record {
    home = λ id b k at. spelled.order.home id b k (there id b k at);
    inside = λ id b k p at. spelled.order.inside id b k p (there id b k at);
    rising = λ b j k x y p q hx hy. spelled.order.rising b j k x y p q (there x b j hx) (there y b k hy);
  };
  has_mentions = λ key. spelled.has_mentions key ∙ ap (mentioning key) (sym (all_instrs-added blocks h));
}
  where
    uses : (id : ℕ) → uses_of id (more_blocks blocks h) ≡ uses_of id blocks
    uses id = omega (arith, sum_by-append (uses_in id) blocks (block_with h ∷ []))

    there : (id b k : ℕ) → id_in (more_blocks blocks h) b k ≡ Some id → id_in blocks b k ≡ Some id
    there id b k at = sym (ap (λ (xs : List (ℕ × InstrData)). nth_id xs k) (instrs-added blocks h b)) ∙ at

    before : (a b : Bool) → (a || b) ≡ false → a ≡ false
    before true b e = cc
    before false b e = refl

-- ---- in the words of the calls

pub entry-is : (o : Option (ℕ × InstrData)) (id : ℕ) (i : InstrData) → option_map (λ p. p.0) o ≡ Some id → option_map (λ p. p.1) o ≡ Some i → o ≡ Some (id, i)
entry-is None id i h g = cc
entry-is (Some (n, j)) id i h g = let x : n ≡ id = cc in let y : j ≡ i = cc in rw (x, y) refl

pub some-instr : (P : InstrData → Type 0) (o : Option (ℕ × InstrData)) → IfSome o (λ p. P p.1) → IfSome (option_map (λ p. p.1) o) P
some-instr P None h = h
some-instr P (Some p) h = h

-- the operands of an instruction before one is set and after
pub operands-around : (s t : Slot) (id k : ℕ) (i : InstrData) (x new : Operand) (answer : Bool) → s.entry ≡ Some (id, i) → t ≡ slot_changed (λ j. with_operand j k new) s → slice_get (operands_of s.entry) k ≡ Some x → is_mentioned x (operands_of t.entry) ≡ answer
    → (slice_get i.operands k ≡ Some x) × (is_mentioned x (set i.operands k new) ≡ answer)
operands-around s t id k i x new answer here is old test =
    let now : operands_of t.entry ≡ set i.operands k new = ap (λ (y : Slot). operands_of y.entry) is ∙ ap (λ (o : Option (ℕ × InstrData)). operands_of (option_map (λ (p : ℕ × InstrData). (p.0, with_operand p.1 k new)) o)) here in
    (sym (ap (λ (o : Option (ℕ × InstrData)). slice_get (operands_of o) k) here) ∙ old, sym (ap (is_mentioned x) now) ∙ test)

-- neighbours are in the arena
nth-given : (bodies : List Body) (slots : List Slot) (blocks : List BlockData) (b k : ℕ) → IsLinked bodies slots blocks → IfSome (nth_instr_id (body_at blocks b).instrs k) (λ there. there.0 < length slots)
nth-given bodies slots blocks b k linked = by (nth_id (body_at blocks b).instrs k) refl
  where
    by : (o : Option ℕ) → nth_id (body_at blocks b).instrs k ≡ o → IfSome (option_map id_named o) (λ there. there.0 < length slots)
    by None e = tt
    by (Some i) e = slice_get_within slots i _ (linked.linked i b k e)

ahead-given : (bodies : List Body) (slots : List Slot) (blocks : List BlockData) (b k : ℕ) → IsLinked bodies slots blocks → IfSome (id_ahead (body_at blocks b).instrs k) (λ there. there.0 < length slots)
ahead-given bodies slots blocks b zero linked = tt
ahead-given bodies slots blocks b (suc m) linked = nth-given bodies slots blocks b m linked

pub previous-given : (l : Layout) (b k n : ℕ) (o : Option InstrId) → IsStored l → o ≡ id_ahead (body_at (blocks_of l) b).instrs k → n ≡ length l.slots.items → IfSome o (λ there. there.0 < n)
previous-given l b k n o stored is count = rw (is, count) (ahead-given l.bodies.items l.slots.items (blocks_of l) b k stored.linked)

pub next-given : (l : Layout) (b k n : ℕ) (o : Option InstrId) → IsStored l → o ≡ nth_instr_id (body_at (blocks_of l) b).instrs k → n ≡ length l.slots.items → IfSome o (λ there. there.0 < n)
next-given l b k n o stored is count = rw (is, count) (nth-given l.bodies.items l.slots.items (blocks_of l) b k stored.linked)

-- the block's ends after an instruction was taken out, and after one was put in
pub ends-removed : (bodies : List Body) (slots : List Slot) (blocks : List BlockData) (b k block : ℕ) (x y : Body) (p n : Option InstrId) → IsLinked bodies slots blocks → b < length blocks → k < length (body_at blocks b).instrs → block ≡ b → x ≡ get_or bodies block x
    → p ≡ id_ahead (body_at blocks b).instrs k → n ≡ nth_instr_id (body_at blocks b).instrs (suc k) → y ≡ body_lost p n x → set bodies block y ≡ set bodies b (body_of (record (body_at blocks b) { instrs = remove (body_at blocks b).instrs k }))
ends-removed bodies slots blocks b k block x y p n linked within bound same is before behind done =
    let body = linked-body bodies slots blocks b x linked within (is ∙ ap (λ (m : ℕ). get_or bodies m x) same) in
    ap (λ (m : ℕ). set bodies m y) same ∙ ap (set bodies b) (done ∙ rw (before, behind, body) (body_of-removed (body_at blocks b) k bound))

pub ends-inserted : (bodies : List Body) (slots : List Slot) (blocks : List BlockData) (b k : ℕ) (id : InstrId) (new : ℕ × InstrData) (x y : Body) (p n : Option InstrId) → IsLinked bodies slots blocks → b < length blocks → k ≤ length (body_at blocks b).instrs → x ≡ get_or bodies b x → id ≡ id_named new.0
    → p ≡ id_ahead (body_at blocks b).instrs k → n ≡ nth_instr_id (body_at blocks b).instrs k → y ≡ body_gained p n id x → set bodies b y ≡ set bodies b (body_of (record (body_at blocks b) { instrs = insert (body_at blocks b).instrs k new }))
ends-inserted bodies slots blocks b k id new x y p n linked within bound is same before behind done =
    let body = linked-body bodies slots blocks b x linked within is in
    ap (set bodies b) (done ∙ rw (same, before, behind, body) (body_of-inserted (body_at blocks b) k new bound))

-- ---- an instruction that is put in, in the words of the calls

pub spot-bound : (blocks : List BlockData) (b : ℕ) (before : Option InstrId) → IfSome before (λ id. Contains (ids_of (body_at blocks b)) id.0) → spot_in (body_at blocks b).instrs before ≤ length (body_at blocks b).instrs
spot-bound blocks b None named = omega arith
spot-bound blocks b (Some id) named = omega (arith, nth_id-within id.0 (body_at blocks b).instrs _ (id_in-named blocks b id.0 named))

pub given-more : (o : Option InstrId) (n m : ℕ) → n ≤ m → IfSome o (λ there. there.0 < n) → IfSome o (λ there. there.0 < m)
given-more None n m le h = tt
given-more (Some x) n m le h = omega arith

-- the same blocks with other labels
pub relabelled : (l now : Layout) → now.bodies ≡ l.bodies → now.slots ≡ l.slots → IsStored now → IsSpelled now.bodies.items now.slots.items now.places.items now.mentions (blocks_of l)
relabelled l now bodies slots stored =
    let same : blocks_of now ≡ blocks_of l = rw (bodies, slots) refl in
    subst (λ (bs : List BlockData). IsSpelled now.bodies.items now.slots.items now.places.items now.mentions bs) same (stored-spelled now stored)
