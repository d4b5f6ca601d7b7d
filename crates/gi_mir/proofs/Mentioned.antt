-- The lists of those that mention a register, as one instruction in layout changes.
use Rattle.std.proofs.Common.{◌≡◌, ◌≢◌, ℕ, zero, suc, ◌+◌, ◌<◌, ◌≤◌, Bool, true, false, not, ◌&&◌, ◌||◌, cond, List, [], ◌∷◌, ◌++◌, Option, Some, ◌⊎◌, inl, inr, ⊎_elim, length, take, drop, get_or, set, refl, sym, ap, ◌∙◌, arith, eq-eqb, append_assoc}
use Rattle.std.specs.Prelude.{slice_get, option_map, insert, remove, ◌==◌, map, filter}
use Rattle.std.specs.List.{list_any}
use Rattle.std.specs.Option.{option_map_or}
use Rattle.std.specs.List.Sorted.{IsPartitionedBy}
use Rattle.std.proofs.lemmas.Bool.Decides.{nat_tests, eqb_tells}
use Rattle.std.proofs.lemmas.List.{map-append, get_or-drop, take-append-drop}
use Rattle.std.proofs.lemmas.Option.{slice_get_within}
use Rattle.std.proofs.lemmas.List.Elements.{filter-append}
use Rattle.gi_mir.specs.declared.block.InstrId.{InstrId}
use Rattle.gi_mir.specs.declared.mentions.Mentions.{Mentions}
use Rattle.gi_mir.specs.declared.operand.Operand.{Operand}
use Rattle.gi_mir.specs.declared.place.Place.{Place}
use Rattle.gi_mir.specs.Data.{InstrData, BlockData}
use Rattle.gi_mir.specs.Edit.{empty_block, all_instrs, changed_at, block_changed_at}
use Rattle.gi_mir.specs.Arena.{HasOrder}
use Rattle.gi_mir.specs.Places.{comes_before, id_in}
use Rattle.gi_mir.specs.Mentions.{is_mention, mentions, instr_id, mentioning, precedes, noted, without, listed, IsSorted, Lacks, IsNoted, IsForgotten}
use Rattle.gi_mir.proofs.Linked.{order-place}
use Rattle.gi_mir.proofs.Lists.{without-fresh}
use Rattle.gi_mir.proofs.Ordered.{IsBetween}

-- ---- what holds of each element

abbrev pub Each : {X : Type 0} → (X → Type 0) → List X → Type 0
Each P [] = Unit {0}
Each P (x ∷ xs) = P x × Each P xs

pub Each-append : {X : Type 0} (P : X → Type 0) (xs ys : List X) → Each P xs → Each P ys → Each P (xs ++ ys)
Each-append P [] ys h g = g
Each-append P (x ∷ xs) ys h g = (h.0, Each-append P xs ys h.1 g)

pub Each-weaker : {X : Type 0} (P Q : X → Type 0) → ((x : X) → P x → Q x) → (xs : List X) → Each P xs → Each Q xs
Each-weaker P Q f [] h = tt
Each-weaker P Q f (x ∷ xs) h = (f x h.0, Each-weaker P Q f xs h.1)

pub Each-from_slice_get : {X : Type 0} (P : X → Type 0) (xs : List X) → ((k : ℕ) (x : X) → slice_get xs k ≡ Some x → P x) → Each P xs
Each-from_slice_get P [] f = tt
Each-from_slice_get P (x ∷ xs) f = (f 0 x refl, Each-from_slice_get P xs (λ k. f (suc k)))

pub Each-all_instrs : (P : ℕ × InstrData → Type 0) (blocks : List BlockData) → ((c k : ℕ) (e : ℕ × InstrData) → slice_get (get_or blocks c empty_block).instrs k ≡ Some e → P e) → Each P (all_instrs blocks)
Each-all_instrs P [] f = tt
Each-all_instrs P (b ∷ bs) f =
    Each-append P b.instrs (all_instrs bs) (Each-from_slice_get P b.instrs (f 0)) (Each-all_instrs P bs (λ c. f (suc c)))

-- of those that mention a key
pub Each-mentioning : (P : InstrId → Type 0) (key : ℕ) (instrs : List (ℕ × InstrData)) → Each (λ e. P (instr_id e)) instrs → Each P (mentioning key instrs)
Each-mentioning P key [] h = tt
Each-mentioning P key (e ∷ es) h = by (mentions key e) (Each-mentioning P key es h.1)
  where
    by : (b : Bool) → Each P (mentioning key es) → Each P (map instr_id (cond b (e ∷ filter (mentions key) es) (filter (mentions key) es)))
    by true more = (h.0, more)
    by false more = more

-- ---- the instructions ahead of a place and behind it

abbrev pub ahead : List BlockData → ℕ → ℕ → List (ℕ × InstrData)
ahead blocks b at = all_instrs (take b blocks) ++ take at (get_or blocks b empty_block).instrs

abbrev pub behind : List BlockData → ℕ → ℕ → List (ℕ × InstrData)
behind blocks b at = drop at (get_or blocks b empty_block).instrs ++ all_instrs (drop (suc b) blocks)

pub all_instrs-set : (blocks : List BlockData) (b : ℕ) (body : BlockData) → b < length blocks → all_instrs (set blocks b body) ≡ all_instrs (take b blocks) ++ (body.instrs ++ all_instrs (drop (suc b) blocks))
all_instrs-set [] b body h = absurd (omega arith)
all_instrs-set (c ∷ cs) zero body h = refl
all_instrs-set (c ∷ cs) (suc b) body h =
    ap (λ (xs : List (ℕ × InstrData)). c.instrs ++ xs) (all_instrs-set cs b body (omega arith)) ∙ sym (append_assoc c.instrs (all_instrs (take b cs)) (body.instrs ++ all_instrs (drop (suc b) cs)))

pub all_instrs-at : (blocks : List BlockData) (b : ℕ) → b < length blocks → all_instrs blocks ≡ all_instrs (take b blocks) ++ ((get_or blocks b empty_block).instrs ++ all_instrs (drop (suc b) blocks))
all_instrs-at [] b h = absurd (omega arith)
all_instrs-at (c ∷ cs) zero h = refl
all_instrs-at (c ∷ cs) (suc b) h =
    ap (λ (xs : List (ℕ × InstrData)). c.instrs ++ xs) (all_instrs-at cs b (omega arith)) ∙ sym (append_assoc c.instrs (all_instrs (take b cs)) ((get_or cs b empty_block).instrs ++ all_instrs (drop (suc b) cs)))

in_take : (blocks : List BlockData) (b c k : ℕ) (e : ℕ × InstrData) → slice_get (get_or (take b blocks) c empty_block).instrs k ≡ Some e → (c < b) × (slice_get (get_or blocks c empty_block).instrs k ≡ Some e)
in_take blocks zero c k e h = cc
in_take [] (suc b) c k e h = cc
in_take (d ∷ ds) (suc b) zero k e h = (omega arith, h)
in_take (d ∷ ds) (suc b) (suc c) k e h = let more = in_take ds b c k e h in (omega (arith, more.0), more.1)

slice_get-take : {X : Type 0} (xs : List X) (n k : ℕ) (x : X) → slice_get (take n xs) k ≡ Some x → (k < n) × (slice_get xs k ≡ Some x)
slice_get-take xs zero k x h = cc
slice_get-take [] (suc n) k x h = cc
slice_get-take (y ∷ ys) (suc n) zero x h = (omega arith, h)
slice_get-take (y ∷ ys) (suc n) (suc k) x h = let more = slice_get-take ys n k x h in (omega (arith, more.0), more.1)

slice_get-drop : {X : Type 0} (xs : List X) (n k : ℕ) → slice_get (drop n xs) k ≡ slice_get xs (n + k)
slice_get-drop xs zero k = let z : 0 + k ≡ k = omega arith in rw z refl
slice_get-drop [] (suc n) k = refl
slice_get-drop (y ∷ ys) (suc n) k =
    let z : suc n + k ≡ suc (n + k) = omega arith in rw z (slice_get-drop ys n k)

-- of the instructions ahead, and of those behind, by their places
pub Each-ahead : (P : ℕ × InstrData → Type 0) (blocks : List BlockData) (b at : ℕ)
    → ((c k : ℕ) (e : ℕ × InstrData) → (c < b) ⊎ ((c ≡ b) × (k < at)) → slice_get (get_or blocks c empty_block).instrs k ≡ Some e → P e) → Each P (ahead blocks b at)
Each-ahead P blocks b at f =
    Each-append P (all_instrs (take b blocks)) (take at (get_or blocks b empty_block).instrs)
    (Each-all_instrs P (take b blocks) (λ c k e h. let more = in_take blocks b c k e h in f c k e (inl more.0) more.1))
    (Each-from_slice_get P (take at (get_or blocks b empty_block).instrs) (λ k e h. let more = slice_get-take (get_or blocks b empty_block).instrs at k e h in f b k e (inr (refl, more.0)) more.1))

pub Each-behind : (P : ℕ × InstrData → Type 0) (blocks : List BlockData) (b at : ℕ)
    → ((c k : ℕ) (e : ℕ × InstrData) → (b < c) ⊎ ((c ≡ b) × (at ≤ k)) → slice_get (get_or blocks c empty_block).instrs k ≡ Some e → P e) → Each P (behind blocks b at)
Each-behind P blocks b at f =
    Each-append P (drop at (get_or blocks b empty_block).instrs) (all_instrs (drop (suc b) blocks))
    (Each-from_slice_get P (drop at (get_or blocks b empty_block).instrs) (λ k e h. f b (at + k) e (inr (refl, omega arith)) (sym (slice_get-drop (get_or blocks b empty_block).instrs at k) ∙ h)))
    (Each-all_instrs P (drop (suc b) blocks) (λ c k e h. f (suc b + c) k e (inl (omega arith)) (sym (ap (λ (x : BlockData). slice_get x.instrs k) (get_or-drop (suc b) blocks c empty_block)) ∙ h)))

-- ---- a list in two parts

-- those that precede first, and the id in neither part
pub record IsSplit (p : InstrId → Bool) (id : InstrId) (front back : List (ℕ × InstrData)) : Type 0 where
  pub first : Each (λ e. (p (instr_id e) ≡ true) × ((e.0 == id.0) ≡ false)) front
  pub last : Each (λ e. (p (instr_id e) ≡ false) × ((e.0 == id.0) ≡ false)) back
  pub own : p id ≡ false

abbrev pub one_if : Bool → InstrId → List InstrId
one_if b id = cond b (id ∷ []) []

noted-back : (p : InstrId → Bool) (id : InstrId) (ys : List InstrId) → Each (λ x. (p x ≡ false) × ((x.0 == id.0) ≡ false)) ys → noted p id ys ≡ id ∷ ys
noted-back p id [] h = refl
noted-back p id (y ∷ ys) h = rw (h.0.0, h.0.1) refl

noted-parts : (p : InstrId → Bool) (id : InstrId) (b : Bool) (xs ys : List InstrId) → p id ≡ false → Each (λ x. (p x ≡ true) × ((x.0 == id.0) ≡ false)) xs → Each (λ x. (p x ≡ false) × ((x.0 == id.0) ≡ false)) ys → noted p id (xs ++ (one_if b id ++ ys)) ≡ xs ++ (id ∷ ys)
noted-parts p id true [] ys own h g = rw (own, eq-eqb id.0 id.0 refl) refl
noted-parts p id false [] ys own h g = noted-back p id ys g
noted-parts p id b (x ∷ xs) ys own h g = rw h.0.0 (ap (λ zs. x ∷ zs) (noted-parts p id b xs ys own h.1 g))

Each-none : (P : InstrId → Type 0) (id : InstrId) (xs : List InstrId) → Each (λ x. P x × ((x.0 == id.0) ≡ false)) xs → list_any (λ x. x.0 == id.0) xs ≡ false
Each-none P id [] h = refl
Each-none P id (x ∷ xs) h = rw h.0.1 (Each-none P id xs h.1)

without-parts : (p : InstrId → Bool) (id : InstrId) (b : Bool) (xs ys : List InstrId) → Each (λ x. (p x ≡ true) × ((x.0 == id.0) ≡ false)) xs → Each (λ x. (p x ≡ false) × ((x.0 == id.0) ≡ false)) ys → without id (xs ++ (one_if b id ++ ys)) ≡ xs ++ ys
without-parts p id true [] ys h g = rw (eq-eqb id.0 id.0 refl) (without-fresh id ys (Each-none (λ x. p x ≡ false) id ys g))
without-parts p id false [] ys h g = without-fresh id ys (Each-none (λ x. p x ≡ false) id ys g)
without-parts p id b (x ∷ xs) ys h g = rw h.0.1 (ap (λ zs. x ∷ zs) (without-parts p id b xs ys h.1 g))

-- ---- the lists of a function, in two parts and what stands between them

pub record IsListedAs (m : Mentions) (front back : List (ℕ × InstrData)) (id : InstrId) (between : ℕ → Bool) : Type 0 where
  pub lists : (key : ℕ) → listed m key ≡ mentioning key front ++ (one_if (between key) id ++ mentioning key back)

pub mentioning-append : (key : ℕ) (xs ys : List (ℕ × InstrData)) → mentioning key (xs ++ ys) ≡ mentioning key xs ++ mentioning key ys
mentioning-append key xs ys =
    ap (map instr_id) (filter-append (mentions key) xs ys) ∙ map-append instr_id (filter (mentions key) xs) (filter (mentions key) ys)

mentioning-cons : (key : ℕ) (e : ℕ × InstrData) (es : List (ℕ × InstrData)) → mentioning key (e ∷ es) ≡ one_if (mentions key e) (instr_id e) ++ mentioning key es
mentioning-cons key e es = by (mentions key e)
  where
    by : (b : Bool) → map instr_id (cond b (e ∷ filter (mentions key) es) (filter (mentions key) es)) ≡ one_if b (instr_id e) ++ mentioning key es
    by true = refl
    by false = refl

pub mentioning-parts : (key : ℕ) (front : List (ℕ × InstrData)) (e : ℕ × InstrData) (back : List (ℕ × InstrData)) → mentioning key (front ++ (e ∷ back)) ≡ mentioning key front ++ (one_if (mentions key e) (instr_id e) ++ mentioning key back)
mentioning-parts key front e back =
    mentioning-append key front (e ∷ back) ∙ ap (λ (xs : List InstrId). mentioning key front ++ xs) (mentioning-cons key e back)

-- a list that is parted
pub IsListedAs-with : (m : Mentions) (front back : List (ℕ × InstrData)) (e : ℕ × InstrData) (all : List (ℕ × InstrData)) → all ≡ front ++ (e ∷ back) → ((key : ℕ) → listed m key ≡ mentioning key all) → IsListedAs m front back (instr_id e) (λ key. mentions key e)
IsListedAs-with m front back e all is has = record {
  lists = λ key. has key ∙ ap (mentioning key) is ∙ mentioning-parts key front e back;
}

pub IsListedAs-without : (m : Mentions) (front back : List (ℕ × InstrData)) (id : InstrId) (all : List (ℕ × InstrData)) → all ≡ front ++ back → ((key : ℕ) → listed m key ≡ mentioning key all) → IsListedAs m front back id (λ key. false)
IsListedAs-without m front back id all is has = record {
  lists = λ key. has key ∙ ap (mentioning key) is ∙ mentioning-append key front back;
}

-- and put together
pub mentions-with : (m : Mentions) (front back : List (ℕ × InstrData)) (e : ℕ × InstrData) (between : ℕ → Bool) (all : List (ℕ × InstrData)) → all ≡ front ++ (e ∷ back) → ((key : ℕ) → between key ≡ mentions key e) → IsListedAs m front back (instr_id e) between → (key : ℕ) → listed m key ≡ mentioning key all
mentions-with m front back e between all is same as_so key =
    as_so.lists key ∙ ap (λ (b : Bool). mentioning key front ++ (one_if b (instr_id e) ++ mentioning key back)) (same key) ∙ sym (mentioning-parts key front e back) ∙ ap (mentioning key) (sym is)

pub mentions-without : (m : Mentions) (front back : List (ℕ × InstrData)) (id : InstrId) (between : ℕ → Bool) (all : List (ℕ × InstrData)) → all ≡ front ++ back → ((key : ℕ) → between key ≡ false) → IsListedAs m front back id between → (key : ℕ) → listed m key ≡ mentioning key all
mentions-without m front back id between all is none as_so key =
    as_so.lists key ∙ ap (λ (b : Bool). mentioning key front ++ (one_if b id ++ mentioning key back)) (none key) ∙ sym (mentioning-append key front back) ∙ ap (mentioning key) (sym is)

test_cases : (b : Bool) → (b ≡ true) ⊎ (b ≡ false)
test_cases true = inl refl
test_cases false = inr refl

or_true : (b : Bool) → (b || true) ≡ true
or_true true = refl
or_true false = refl

or_false : (b : Bool) → (b || false) ≡ b
or_false true = refl
or_false false = refl

and_true : (b : Bool) → (b && true) ≡ b
and_true true = refl
and_true false = refl

and_false : (b : Bool) → (b && false) ≡ false
and_false true = refl
and_false false = refl

-- an id that is noted
pub IsListedAs-noted : (p : InstrId → Bool) (id : InstrId) (front back : List (ℕ × InstrData)) (old new : Mentions) (between : ℕ → Bool) (operands : List Operand) → IsSplit p id front back → IsListedAs old front back id between → IsNoted old new p operands id
    → IsListedAs new front back id (λ key. between key || list_any (is_mention key) operands)
IsListedAs-noted p id front back old new between operands split as_so noted_so = record {
  lists = λ key. by key (test_cases (list_any (is_mention key) operands));
}
  where
    by : (key : ℕ) → (list_any (is_mention key) operands ≡ true) ⊎ (list_any (is_mention key) operands ≡ false) → listed new key ≡ mentioning key front ++ (one_if (between key || list_any (is_mention key) operands) id ++ mentioning key back)
    by key c = ⊎_elim
        (λ (there : list_any (is_mention key) operands ≡ true). noted_so.here key there ∙ ap (noted p id) (as_so.lists key) ∙ noted-parts p id (between key) (mentioning key front) (mentioning key back) split.own
        (Each-mentioning (λ x. (p x ≡ true) × ((x.0 == id.0) ≡ false)) key front split.first)
        (Each-mentioning (λ x. (p x ≡ false) × ((x.0 == id.0) ≡ false)) key back split.last)
        ∙ ap (λ (b : Bool). mentioning key front ++ (one_if b id ++ mentioning key back)) (sym (ap (λ (b : Bool). between key || b) there ∙ or_true (between key))))
        (λ (not_there : list_any (is_mention key) operands ≡ false). noted_so.others key not_there ∙ as_so.lists key ∙ ap (λ (b : Bool). mentioning key front ++ (one_if b id ++ mentioning key back)) (sym (ap (λ (b : Bool). between key || b) not_there ∙ or_false (between key)))) c

-- an id that is taken out
pub IsListedAs-forgotten : (p : InstrId → Bool) (id : InstrId) (front back : List (ℕ × InstrData)) (old new : Mentions) (between : ℕ → Bool) (operands : List Operand) → IsSplit p id front back → IsListedAs old front back id between → IsForgotten old new operands id
    → IsListedAs new front back id (λ key. between key && not (list_any (is_mention key) operands))
IsListedAs-forgotten p id front back old new between operands split as_so gone = record {
  lists = λ key. by key (test_cases (list_any (is_mention key) operands));
}
  where
    by : (key : ℕ) → (list_any (is_mention key) operands ≡ true) ⊎ (list_any (is_mention key) operands ≡ false) → listed new key ≡ mentioning key front ++ (one_if (between key && not (list_any (is_mention key) operands)) id ++ mentioning key back)
    by key c = ⊎_elim
        (λ (there : list_any (is_mention key) operands ≡ true). gone.here key there ∙ ap (without id) (as_so.lists key) ∙ without-parts p id (between key) (mentioning key front) (mentioning key back)
        (Each-mentioning (λ x. (p x ≡ true) × ((x.0 == id.0) ≡ false)) key front split.first)
        (Each-mentioning (λ x. (p x ≡ false) × ((x.0 == id.0) ≡ false)) key back split.last)
        ∙ ap (λ (b : Bool). mentioning key front ++ (one_if b id ++ mentioning key back)) (sym (ap (λ (b : Bool). between key && not b) there ∙ and_false (between key))))
        (λ (not_there : list_any (is_mention key) operands ≡ false). gone.others key not_there ∙ as_so.lists key ∙ ap (λ (b : Bool). mentioning key front ++ (one_if b id ++ mentioning key back)) (sym (ap (λ (b : Bool). between key && not b) not_there ∙ and_true (between key)))) c

-- ---- the lists are in order

pub Each-get_or : {X : Type 0} (P : X → Type 0) (xs : List X) (k : ℕ) (d : X) → k < length xs → Each P xs → P (get_or xs k d)
Each-get_or P [] k d h e = absurd (omega arith)
Each-get_or P (x ∷ xs) zero d h e = e.0
Each-get_or P (x ∷ xs) (suc k) d h e = Each-get_or P xs k d (omega arith) e.1

sorted-parts : (p : InstrId → Bool) (xs ys : List InstrId) → Each (λ x. p x ≡ true) xs → Each (λ x. p x ≡ false) ys → IsPartitionedBy p (xs ++ ys)
sorted-parts p [] ys h g = λ i j d le lt passes. cc (Each-get_or (λ x. p x ≡ false) ys j d lt g)
sorted-parts p (x ∷ xs) ys h g = by (sorted-parts p xs ys h.1 g)
  where
    by : IsPartitionedBy p (xs ++ ys) → (i j : ℕ) (d : InstrId) → i ≤ j → j < length (x ∷ (xs ++ ys)) → p (get_or (x ∷ (xs ++ ys)) j d) ≡ true → p (get_or (x ∷ (xs ++ ys)) i d) ≡ true
    by more zero j d le lt passes = h.0
    by more (suc i) zero d le lt passes = absurd (omega arith)
    by more (suc i) (suc j) d le lt passes = more i j d (omega arith) (omega arith) passes

pub IsSorted-as : (places : List Place) (spot : Place) (id : InstrId) (front back : List (ℕ × InstrData)) (m : Mentions) (between : ℕ → Bool) → IsSplit (precedes places spot) id front back → IsListedAs m front back id between → IsSorted places spot m
IsSorted-as places spot id front back m between split as_so = record {
  sorted = λ key. rw (as_so.lists key) (sorted-parts (precedes places spot) (mentioning key front) (one_if (between key) id ++ mentioning key back)
      (Each-mentioning (λ x. precedes places spot x ≡ true) key front (Each-weaker _ _ (λ e h. h.0) front split.first))
      (late key (between key)));
}
  where
    late : (key : ℕ) (b : Bool) → Each (λ x. precedes places spot x ≡ false) (one_if b id ++ mentioning key back)
    late key true = (split.own, Each-mentioning (λ x. precedes places spot x ≡ false) key back (Each-weaker _ _ (λ e h. h.0) back split.last))
    late key false = Each-mentioning (λ x. precedes places spot x ≡ false) key back (Each-weaker _ _ (λ e h. h.0) back split.last)

pub Lacks-as : (p : InstrId → Bool) (id : InstrId) (front back : List (ℕ × InstrData)) (m : Mentions) → IsSplit p id front back → IsListedAs m front back id (λ key. false) → Lacks m id
Lacks-as p id front back m split as_so = record {
  absent = λ key. rw (as_so.lists key) (Each-none (λ x. Unit {0}) id (mentioning key front ++ mentioning key back)
      (Each-append (λ x. Unit {0} × ((x.0 == id.0) ≡ false)) (mentioning key front) (mentioning key back)
      (Each-mentioning (λ x. Unit {0} × ((x.0 == id.0) ≡ false)) key front (Each-weaker _ _ (λ e h. (tt, h.1)) front split.first))
      (Each-mentioning (λ x. Unit {0} × ((x.0 == id.0) ≡ false)) key back (Each-weaker _ _ (λ e h. (tt, h.1)) back split.last))));
}

-- ---- a function is split at a place

pub comes_first : (p spot : Place) → (p.block < spot.block) ⊎ ((p.block ≡ spot.block) × (p.at < spot.at)) → comes_before p spot ≡ true
comes_first p spot h = grind (arith, nat_tests)

pub comes_later : (p spot : Place) → (spot.block < p.block) ⊎ ((p.block ≡ spot.block) × (spot.at ≤ p.at)) → comes_before p spot ≡ false
comes_later p spot h = grind (arith, nat_tests)

pub apart_test : (a b : ℕ) → a ≢ b → (a == b) ≡ false
apart_test a b ne = ⊎_elim (λ (h : ((a == b) ≡ true) × (a ≡ b)). absurd (ne h.1)) (λ (h : ((a == b) ≡ false) × (a ≢ b)). h.0) (eqb_tells a b)

-- whether a place that is written down comes before another
pub precedes_by : (places : List Place) (spot : Place) (i : ℕ) (p : Place) (t : Bool) → slice_get places i ≡ Some p → comes_before p spot ≡ t → precedes places spot (record { 0 = i }) ≡ t
precedes_by places spot i p t found tells = ap (λ (o : Option Place). option_map_or (λ q. comes_before q spot) o false) found ∙ tells

-- around a place where an instruction may be put in
pub IsSplit-new : (places : List Place) (blocks : List BlockData) (spot : Place) (at : ℕ) (id : InstrId) → HasOrder places blocks → IsBetween places blocks spot at → precedes places spot id ≡ false → ((c k i : ℕ) → id_in blocks c k ≡ Some i → i ≢ id.0)
    → IsSplit (precedes places spot) id (ahead blocks spot.block at) (behind blocks spot.block at)
IsSplit-new places blocks spot at id order between own fresh = record {
  first = Each-ahead _ blocks spot.block at (λ c k e w h. (early c k e.0 (ap (option_map (λ p. p.0)) h) w, apart_test e.0 id.0 (fresh c k e.0 (ap (option_map (λ p. p.0)) h))));
  last = Each-behind _ blocks spot.block at (λ c k e w h. (late c k e.0 (ap (option_map (λ p. p.0)) h) w, apart_test e.0 id.0 (fresh c k e.0 (ap (option_map (λ p. p.0)) h))));
  own = own;
}
  where
    early : (c k i : ℕ) → id_in blocks c k ≡ Some i → (c < spot.block) ⊎ ((c ≡ spot.block) × (k < at)) → precedes places spot (record { 0 = i }) ≡ true
    early c k i h w = order-place _ places blocks c k i order h (λ p found home. precedes_by places spot i p true found (comes_first p spot (⊎_elim
        (λ (lt : c < spot.block). inl (omega arith))
        (λ (g : (c ≡ spot.block) × (k < at)). inr (home ∙ g.0, between.low k i p g.1 (sym (ap (λ (x : ℕ). id_in blocks x k) g.0) ∙ h) found)) w)))

    late : (c k i : ℕ) → id_in blocks c k ≡ Some i → (spot.block < c) ⊎ ((c ≡ spot.block) × (at ≤ k)) → precedes places spot (record { 0 = i }) ≡ false
    late c k i h w = order-place _ places blocks c k i order h (λ p found home. precedes_by places spot i p false found (comes_later p spot (⊎_elim
        (λ (lt : spot.block < c). inl (omega arith))
        (λ (g : (c ≡ spot.block) × (at ≤ k)). let above = between.high k i p g.1 (sym (ap (λ (x : ℕ). id_in blocks x k) g.0) ∙ h) found in inr (home ∙ g.0, omega arith)) w)))

-- around an instruction
pub IsSplit-at : (places : List Place) (blocks : List BlockData) (b at : ℕ) (id : InstrId) (spot : Place) → HasOrder places blocks → id_in blocks b at ≡ Some id.0 → slice_get places id.0 ≡ Some spot
    → IsSplit (precedes places spot) id (ahead blocks b at) (behind blocks b (suc at))
IsSplit-at places blocks b at id spot order stands there = record {
  first = Each-ahead _ blocks b at (λ c k e w h. early c k e.0 (ap (option_map (λ p. p.0)) h) w);
  last = Each-behind _ blocks b (suc at) (λ c k e w h. late c k e.0 (ap (option_map (λ p. p.0)) h) w);
  own = precedes_by places spot id.0 spot false there (comes_later spot spot (inr (refl, omega arith)));
}
  where
    home_here : spot.block ≡ b
    home_here = cc (ap (option_map (λ (p : Place). p.block)) there, order.home id.0 b at stands)

    same_place : (i : ℕ) (p : Place) → slice_get places i ≡ Some p → i ≡ id.0 → p ≡ spot
    same_place i p found e = cc (ap (slice_get places) e)

    early : (c k i : ℕ) → id_in blocks c k ≡ Some i → (c < b) ⊎ ((c ≡ b) × (k < at)) → (precedes places spot (record { 0 = i }) ≡ true) × ((i == id.0) ≡ false)
    early c k i h w = order-place _ places blocks c k i order h (λ p found home.
        let comes : (p.block < spot.block) ⊎ ((p.block ≡ spot.block) × (p.at < spot.at)) = ⊎_elim
        (λ (lt : c < b). inl (omega (arith, home_here)))
        (λ (g : (c ≡ b) × (k < at)). inr (home ∙ g.0 ∙ sym home_here, order.rising b k at i id.0 p spot (sym (ap (λ (x : ℕ). id_in blocks x k) g.0) ∙ h) stands found there g.1)) w in
        (precedes_by places spot i p true found (comes_first p spot comes), apart_test i id.0 (λ e. apart p comes (same_place i p found e))))
      where
        apart : (p : Place) → (p.block < spot.block) ⊎ ((p.block ≡ spot.block) × (p.at < spot.at)) → p ≡ spot → ⊥
        apart p comes e = let x = ap (λ (q : Place). q.block) e in let y = ap (λ (q : Place). q.at) e in grind arith

    late : (c k i : ℕ) → id_in blocks c k ≡ Some i → (b < c) ⊎ ((c ≡ b) × (suc at ≤ k)) → (precedes places spot (record { 0 = i }) ≡ false) × ((i == id.0) ≡ false)
    late c k i h w = order-place _ places blocks c k i order h (λ p found home.
        let comes : (spot.block < p.block) ⊎ ((p.block ≡ spot.block) × (spot.at < p.at)) = ⊎_elim
        (λ (lt : b < c). inl (omega (arith, home_here)))
        (λ (g : (c ≡ b) × (suc at ≤ k)). inr (home ∙ g.0 ∙ sym home_here, order.rising b at k id.0 i spot p stands (sym (ap (λ (x : ℕ). id_in blocks x k) g.0) ∙ h) there found (omega arith))) w in
        (precedes_by places spot i p false found (comes_later p spot (weaker p comes)), apart_test i id.0 (λ e. apart p comes (same_place i p found e))))
      where
        weaker : (p : Place) → (spot.block < p.block) ⊎ ((p.block ≡ spot.block) × (spot.at < p.at)) → (spot.block < p.block) ⊎ ((p.block ≡ spot.block) × (spot.at ≤ p.at))
        weaker p comes = grind arith

        apart : (p : Place) → (spot.block < p.block) ⊎ ((p.block ≡ spot.block) × (spot.at < p.at)) → p ≡ spot → ⊥
        apart p comes e = let x = ap (λ (q : Place). q.block) e in let y = ap (λ (q : Place). q.at) e in grind arith

-- ---- the instructions of a function after an edit

regroup : {X : Type 0} (t x : List X) (e : X) (y d : List X) → t ++ ((x ++ (e ∷ y)) ++ d) ≡ (t ++ x) ++ (e ∷ (y ++ d))
regroup t x e y d = simp append_assoc

regroup_two : {X : Type 0} (t x y d : List X) → t ++ ((x ++ y) ++ d) ≡ (t ++ x) ++ (y ++ d)
regroup_two t x y d = simp append_assoc

drop-slice_get : {X : Type 0} (xs : List X) (at : ℕ) (e : X) → slice_get xs at ≡ Some e → xs ≡ take at xs ++ (e ∷ drop (suc at) xs)
drop-slice_get [] at e h = cc
drop-slice_get (x ∷ xs) zero e h = let same : x ≡ e = cc in rw same refl
drop-slice_get (x ∷ xs) (suc at) e h = ap (λ ys. x ∷ ys) (drop-slice_get xs at e h)

set-parts : {X : Type 0} (xs : List X) (at : ℕ) (e : X) → at < length xs → set xs at e ≡ take at xs ++ (e ∷ drop (suc at) xs)
set-parts [] at e h = absurd (omega arith)
set-parts (x ∷ xs) zero e h = refl
set-parts (x ∷ xs) (suc at) e h = ap (λ ys. x ∷ ys) (set-parts xs at e (omega arith))

pub all-split : (blocks : List BlockData) (b at : ℕ) → b < length blocks → all_instrs blocks ≡ ahead blocks b at ++ behind blocks b at
all-split blocks b at within =
    let is = (get_or blocks b empty_block).instrs in
    all_instrs-at blocks b within
    ∙ ap (λ (xs : List (ℕ × InstrData)). all_instrs (take b blocks) ++ (xs ++ all_instrs (drop (suc b) blocks))) (sym (take-append-drop at is))
    ∙ regroup_two (all_instrs (take b blocks)) (take at is) (drop at is) (all_instrs (drop (suc b) blocks))

pub all-split-at : (blocks : List BlockData) (b at : ℕ) (e : ℕ × InstrData) → b < length blocks → slice_get (get_or blocks b empty_block).instrs at ≡ Some e → all_instrs blocks ≡ ahead blocks b at ++ (e ∷ behind blocks b (suc at))
all-split-at blocks b at e within stands =
    let is = (get_or blocks b empty_block).instrs in
    all_instrs-at blocks b within
    ∙ ap (λ (xs : List (ℕ × InstrData)). all_instrs (take b blocks) ++ (xs ++ all_instrs (drop (suc b) blocks))) (drop-slice_get is at e stands)
    ∙ regroup (all_instrs (take b blocks)) (take at is) e (drop (suc at) is) (all_instrs (drop (suc b) blocks))

pub all-inserted : (blocks : List BlockData) (b at : ℕ) (body : BlockData) (e : ℕ × InstrData) → b < length blocks → body ≡ get_or blocks b empty_block → all_instrs (set blocks b (record body { instrs = insert body.instrs at e })) ≡ ahead blocks b at ++ (e ∷ behind blocks b at)
all-inserted blocks b at body e within same =
    let is = (get_or blocks b empty_block).instrs in
    all_instrs-set blocks b (record body { instrs = insert body.instrs at e }) within
    ∙ ap (λ (x : BlockData). all_instrs (take b blocks) ++ (insert x.instrs at e ++ all_instrs (drop (suc b) blocks))) same
    ∙ regroup (all_instrs (take b blocks)) (take at is) e (drop at is) (all_instrs (drop (suc b) blocks))

pub all-removed : (blocks : List BlockData) (b at : ℕ) (body : BlockData) → b < length blocks → body ≡ get_or blocks b empty_block → all_instrs (set blocks b (record body { instrs = remove body.instrs at })) ≡ ahead blocks b at ++ behind blocks b (suc at)
all-removed blocks b at body within same =
    let is = (get_or blocks b empty_block).instrs in
    all_instrs-set blocks b (record body { instrs = remove body.instrs at }) within
    ∙ ap (λ (x : BlockData). all_instrs (take b blocks) ++ (remove x.instrs at ++ all_instrs (drop (suc b) blocks))) same
    ∙ regroup_two (all_instrs (take b blocks)) (take at is) (drop (suc at) is) (all_instrs (drop (suc b) blocks))

pub all-changed : (blocks : List BlockData) (b at : ℕ) (body : BlockData) (edit : InstrData → InstrData) (e : ℕ × InstrData) → b < length blocks → body ≡ get_or blocks b empty_block → slice_get (get_or blocks b empty_block).instrs at ≡ Some e
    → all_instrs (set blocks b (block_changed_at edit at body)) ≡ ahead blocks b at ++ ((e.0, edit e.1) ∷ behind blocks b (suc at))
all-changed blocks b at body edit e within same stands =
    let is = (get_or blocks b empty_block).instrs in
    let changed : changed_at (λ (p : ℕ × InstrData). (p.0, edit p.1)) at is ≡ set is at (e.0, edit e.1) = ap (λ (o : Option (ℕ × InstrData)). option_map_or (λ (x : ℕ × InstrData). set is at (x.0, edit x.1)) o is) stands in
    all_instrs-set blocks b (block_changed_at edit at body) within
    ∙ ap (λ (x : BlockData). all_instrs (take b blocks) ++ (changed_at (λ (p : ℕ × InstrData). (p.0, edit p.1)) at x.instrs ++ all_instrs (drop (suc b) blocks))) same
    ∙ ap (λ (xs : List (ℕ × InstrData)). all_instrs (take b blocks) ++ (xs ++ all_instrs (drop (suc b) blocks))) (changed ∙ set-parts is at (e.0, edit e.1) (slice_get_within is at e stands))
    ∙ regroup (all_instrs (take b blocks)) (take at is) (e.0, edit e.1) (drop (suc at) is) (all_instrs (drop (suc b) blocks))
