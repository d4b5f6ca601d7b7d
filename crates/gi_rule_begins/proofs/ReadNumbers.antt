-- A function that was read has its ids and registers in order.
use Rattle.std.proofs.Common.{◌≡◌, ℕ, zero, suc, ◌+◌, ◌≤◌, ◌<◌, true, false, not, ◌&&◌, ◌||◌, ◌==◌, nat_lt, List, [], ◌∷◌, ◌++◌, Some, length, slice_get, fold, refl, sym, ap, ap₂, ◌∙◌, subst, arith, append-nil, append_assoc, lt-ltb, ltb-true, eqb-true}
use Rattle.std.proofs.lemmas.Bool.{and_from, and_parts, false_from_ne_true, not-true, or_from}
use Rattle.std.proofs.lemmas.Bool.Decides.{nat_tests}
use Rattle.std.proofs.lemmas.List.Folds.{list_all-append, list_any-append}
use Rattle.std.specs.Prelude.{max, slice_index_or, slice_set}
use Rattle.std.specs.List.{AllZip, list_all, list_any}
use Rattle.gi_mir.specs.Data.{InstrData, BlockData, FunctionData, ModuleData}
use Rattle.gi_mir.specs.Edit.{HeadData, above_registers, all_instrs, block_with, empty_block, empty_function, register_above, with_block, with_keys, with_stack}
use Rattle.gi_mir.specs.declared.operand.Operand.{Operand}
use Rattle.gi_mir.specs.declared.operand.Operand.TheVariants as operand
use Rattle.gi_mir.specs.declared.operand.StackObject.{StackObject}
use Rattle.gi_spelling.specs.Blocks.{Body, block_numbers}
use Rattle.gi_spelling.specs.Documents.{Document, bodies_of, entries_of, function_of, head_of_body, read_document, with_body, with_last}
use Rattle.gi_spelling.specs.Lines.{Section, parts_of_text}
use Rattle.gi_spelling.specs.Named.{IsNamedBlock, IsNamedEntry, IsNamedFunction, IsNamedOperand}
use Rattle.gi_spelling.specs.Read.{IsReadFunction, IsReadModule}
use Rattle.gi_change_refines.specs.Numbered.{are_had, is_had, is_numbered, stand_once}

-- ══ One more instruction ══

once_more : (n : ℕ) (i : InstrData) (is : List (ℕ × InstrData)) → stand_once n is ≡ true → stand_once (n + 1) (is ++ (n, i) ∷ []) ≡ true
once_more n i [] once = and_from _ _ (and_from _ _ (lt-ltb n (n + 1) (omega arith)) refl) refl
once_more n i (p ∷ is) once =
    let outer = and_parts (nat_lt p.0 n && not (list_any (λ q. q.0 == p.0) is)) (stand_once n is) once in
    let inner = and_parts (nat_lt p.0 n) (not (list_any (λ q. q.0 == p.0) is)) outer.0 in
    let below : p.0 < n = ltb-true p.0 n inner.0 in
    let other : (n == p.0) ≡ false = false_from_ne_true (n == p.0) (λ h. let same : n ≡ p.0 = eqb-true n p.0 h in omega (arith, below, same)) in
    and_from (nat_lt p.0 (n + 1) && not (list_any (λ q. q.0 == p.0) (is ++ (n, i) ∷ []))) (stand_once (n + 1) (is ++ (n, i) ∷ []))
    (and_from (nat_lt p.0 (n + 1)) (not (list_any (λ q. q.0 == p.0) (is ++ (n, i) ∷ []))) (lt-ltb p.0 (n + 1) (omega (arith, below)))
    (ap not (list_any-append (λ (q : ℕ × InstrData). q.0 == p.0) is ((n, i) ∷ []) ∙ or_from (list_any (λ (q : ℕ × InstrData). q.0 == p.0) is) ((n == p.0) || false) (not-true (list_any (λ (q : ℕ × InstrData). q.0 == p.0) is) inner.1) (ap (λ t. t || false) other))))
    (once_more n i is outer.1)

had_more : (n m : ℕ) → n ≤ m → (os : List Operand) → list_all (is_had n) os ≡ true → list_all (is_had m) os ≡ true
had_more n m more [] had = refl
had_more n m more (o ∷ os) had =
    let each = and_parts (is_had n o) (list_all (is_had n) os) had in and_from (is_had m o) (list_all (is_had m) os) (one o each.0) (had_more n m more os each.1)
  where
    below : (r : ℕ) → nat_lt r n ≡ true → nat_lt r m ≡ true
    below r h = let less : r < n = ltb-true r n h in lt-ltb r m (omega (arith, less, more))

    one : (o : Operand) → is_had n o ≡ true → is_had m o ≡ true
    one (operand.Def r kind) h = below r.0 h
    one (operand.Use r) h = below r.0 h
    one _ h = refl

all_had_more : (n m : ℕ) → n ≤ m → (is : List (ℕ × InstrData)) → are_had n is ≡ true → are_had m is ≡ true
all_had_more n m more [] had = refl
all_had_more n m more (p ∷ is) had =
    let each = and_parts (list_all (is_had n) p.1.operands) (are_had n is) had in and_from (list_all (is_had m) p.1.operands) (are_had m is) (had_more n m more p.1.operands each.0) (all_had_more n m more is each.1)

above_more : (n : ℕ) (os : List Operand) → n ≤ above_registers n os
above_more n [] = omega arith
above_more n (o ∷ os) = let rest = above_more (max n (register_above o)) os in let more : n ≤ max n (register_above o) = grind (arith, nat_tests) in omega (arith, rest, more)

had_above : (n : ℕ) (os : List Operand) → list_all (is_had (above_registers n os)) os ≡ true
had_above n [] = refl
had_above n (o ∷ os) = and_from (is_had (above_registers n (o ∷ os)) o) (list_all (is_had (above_registers n (o ∷ os))) os) (one o) (had_above (max n (register_above o)) os)
  where
    below : (r : ℕ) → r + 1 ≤ above_registers (max n (r + 1)) os → nat_lt r (above_registers (max n (r + 1)) os) ≡ true
    below r h = lt-ltb r (above_registers (max n (r + 1)) os) (omega (arith, h))

    reach : (r : ℕ) → r + 1 ≤ above_registers (max n (r + 1)) os
    reach r = let rest = above_more (max n (r + 1)) os in let more : r + 1 ≤ max n (r + 1) = grind (arith, nat_tests) in omega (arith, rest, more)

    one : (o : Operand) → is_had (above_registers (max n (register_above o)) os) o ≡ true
    one (operand.Def r kind) = below r.0 (reach r.0)
    one (operand.Use r) = below r.0 (reach r.0)
    one _ = refl

-- ══ At the end ══

all_append : (xs ys : List BlockData) → all_instrs (xs ++ ys) ≡ all_instrs xs ++ all_instrs ys
all_append [] ys = refl
all_append (b ∷ xs) ys = ap (λ l. b.instrs ++ l) (all_append xs ys) ∙ sym (append_assoc b.instrs (all_instrs xs) (all_instrs ys))

set_last : (front : List BlockData) (b c : BlockData) → slice_set (front ++ b ∷ []) (length front) c ≡ front ++ c ∷ []
set_last [] b c = refl
set_last (k ∷ front) b c = ap (λ l. k ∷ l) (set_last front b c)

get_last : (front : List BlockData) (b d : BlockData) → slice_index_or (front ++ b ∷ []) (length front) d ≡ b
get_last [] b d = refl
get_last (k ∷ front) b d = get_last front b d

-- it is in order, and its last block is the n-th
record IsEnding (f : FunctionData) (n : ℕ) : Type 0 where
  numbered : is_numbered f ≡ true
  front : List BlockData
  last : BlockData
  blocks : f.blocks ≡ front ++ last ∷ []
  count : n ≡ length front

grown_last : (f : FunctionData) (n : ℕ) (i : InstrData) → (e : IsEnding f n) → (with_last n f i).blocks ≡ e.front ++ record (e.last) { instrs = (e.last).instrs ++ (f.next_id, i) ∷ [] } ∷ []
grown_last f n i e =
    ap₂ (λ bs k. slice_set bs k (record (slice_index_or bs k empty_block) { instrs = (slice_index_or bs k empty_block).instrs ++ (f.next_id, i) ∷ [] })) e.blocks e.count
    ∙ ap (λ (b : BlockData). slice_set (e.front ++ e.last ∷ []) (length e.front) (record b { instrs = b.instrs ++ (f.next_id, i) ∷ [] })) (get_last e.front e.last empty_block)
    ∙ set_last e.front e.last (record (e.last) { instrs = (e.last).instrs ++ (f.next_id, i) ∷ [] })

all_last : (f : FunctionData) (n : ℕ) (i : InstrData) → IsEnding f n → all_instrs (with_last n f i).blocks ≡ all_instrs f.blocks ++ (f.next_id, i) ∷ []
all_last f n i e =
    ap all_instrs (grown_last f n i e) ∙ all_append e.front (record (e.last) { instrs = (e.last).instrs ++ (f.next_id, i) ∷ [] } ∷ [])
    ∙ ap (λ l. all_instrs e.front ++ l) (append-nil ((e.last).instrs ++ (f.next_id, i) ∷ []) ∙ ap (λ l. l ++ (f.next_id, i) ∷ []) (sym (append-nil (e.last).instrs)))
    ∙ sym (append_assoc (all_instrs e.front) ((e.last).instrs ++ []) ((f.next_id, i) ∷ []))
    ∙ ap (λ l. l ++ (f.next_id, i) ∷ []) (sym (all_append e.front (e.last ∷ [])) ∙ ap all_instrs (sym e.blocks))

one_last : (f : FunctionData) (n : ℕ) (i : InstrData) → IsEnding f n → IsEnding (with_last n f i) n
one_last f n i e = record {
  numbered = and_from (stand_once (f.next_id + 1) (all_instrs (with_last n f i).blocks)) (are_had (above_registers f.next_reg i.operands) (all_instrs (with_last n f i).blocks))
      (ap (stand_once (f.next_id + 1)) (all_last f n i e) ∙ once_more f.next_id i (all_instrs f.blocks) each.0)
      (ap (are_had (above_registers f.next_reg i.operands)) (all_last f n i e) ∙ list_all-append (λ p. list_all (is_had (above_registers f.next_reg i.operands)) p.1.operands) (all_instrs f.blocks) ((f.next_id, i) ∷ [])
      ∙ and_from _ _ (all_had_more f.next_reg (above_registers f.next_reg i.operands) (above_more f.next_reg i.operands) (all_instrs f.blocks) each.1) (and_from _ _ (had_above f.next_reg i.operands) refl));
  front = e.front;
  last = record (e.last) { instrs = (e.last).instrs ++ (f.next_id, i) ∷ [] };
  blocks = grown_last f n i e;
  count = e.count;
}
  where
    each : (stand_once f.next_id (all_instrs f.blocks) ≡ true) × (are_had f.next_reg (all_instrs f.blocks) ≡ true)
    each = and_parts (stand_once f.next_id (all_instrs f.blocks)) (are_had f.next_reg (all_instrs f.blocks)) e.numbered

all_lasts : (is : List InstrData) (f : FunctionData) (n : ℕ) → IsEnding f n → is_numbered (fold (with_last n) f is) ≡ true
all_lasts [] f n e = e.numbered
all_lasts (i ∷ is) f n e = all_lasts is (with_last n f i) n (one_last f n i e)

-- ══ A function that is built ══

new_block : (f : FunctionData) (h : HeadData) → is_numbered f ≡ true → IsEnding (with_block f h) (length f.blocks)
new_block f h numbered = record {
  numbered = ap (λ is. stand_once f.next_id is && are_had f.next_reg is) (all_append f.blocks (block_with h ∷ []) ∙ append-nil (all_instrs f.blocks)) ∙ numbered;
  front = f.blocks;
  last = block_with h;
  blocks = refl;
  count = refl;
}

all_bodies : (numbers : List ℕ) (bodies : List Body) (f : FunctionData) → is_numbered f ≡ true → is_numbered (fold (with_body numbers) f bodies) ≡ true
all_bodies numbers [] f numbered = numbered
all_bodies numbers (body ∷ bodies) f numbered =
    all_bodies numbers bodies (with_body numbers f body) (all_lasts body.instrs (with_block f (head_of_body numbers (length f.blocks) body)) (length f.blocks) (new_block f (head_of_body numbers (length f.blocks) body) numbered))

all_stacked : (objects : List StackObject) (f : FunctionData) → is_numbered f ≡ true → is_numbered (fold with_stack f objects) ≡ true
all_stacked [] f numbered = numbered
all_stacked (o ∷ objects) f numbered = all_stacked objects (with_stack f o) numbered

built_numbered : (text : List ℕ) (document : Document) → is_numbered (function_of text document) ≡ true
built_numbered text document =
    all_bodies (block_numbers text document.blocks.sections) (bodies_of text document) (fold with_stack (with_keys (empty_function 0) document.legalized document.banked document.selected) document.objects)
    (all_stacked document.objects (with_keys (empty_function 0) document.legalized document.banked document.selected) refl)

-- ══ Names ══

zip_append : (text : List ℕ) (names : List (List ℕ)) (xs ys us vs : List (ℕ × InstrData)) → AllZip (IsNamedEntry text names) xs ys → AllZip (IsNamedEntry text names) us vs → AllZip (IsNamedEntry text names) (xs ++ us) (ys ++ vs)
zip_append text names [] [] us vs first second = second
zip_append text names [] (y ∷ ys) us vs first second = absurd first
zip_append text names (x ∷ xs) [] us vs first second = absurd first
zip_append text names (x ∷ xs) (y ∷ ys) us vs first second = (first.0, zip_append text names xs ys us vs first.1 second)

all_named : (text : List ℕ) (names : List (List ℕ)) (old new : List BlockData) → AllZip (IsNamedBlock text names) old new → AllZip (IsNamedEntry text names) (all_instrs old) (all_instrs new)
all_named text names [] [] zip = tt
all_named text names [] (b ∷ new) zip = absurd zip
all_named text names (a ∷ old) [] zip = absurd zip
all_named text names (a ∷ old) (b ∷ new) zip = zip_append text names a.instrs b.instrs (all_instrs old) (all_instrs new) zip.0.instrs (all_named text names old new zip.1)

any_named : (text : List ℕ) (names : List (List ℕ)) (id : ℕ) (old new : List (ℕ × InstrData)) → AllZip (IsNamedEntry text names) old new → list_any (λ (q : ℕ × InstrData). q.0 == id) new ≡ list_any (λ (q : ℕ × InstrData). q.0 == id) old
any_named text names id [] [] zip = refl
any_named text names id [] (b ∷ new) zip = absurd zip
any_named text names id (a ∷ old) [] zip = absurd zip
any_named text names id (a ∷ old) (b ∷ new) zip = ap₂ (λ n t. (n == id) || t) zip.0.id (any_named text names id old new zip.1)

once_named : (text : List ℕ) (names : List (List ℕ)) (n : ℕ) (old new : List (ℕ × InstrData)) → AllZip (IsNamedEntry text names) old new → stand_once n new ≡ stand_once n old
once_named text names n [] [] zip = refl
once_named text names n [] (b ∷ new) zip = absurd zip
once_named text names n (a ∷ old) [] zip = absurd zip
once_named text names n (a ∷ old) (b ∷ new) zip =
    ap (λ k. nat_lt k n && not (list_any (λ (q : ℕ × InstrData). q.0 == k) new) && stand_once n new) zip.0.id
    ∙ ap₂ (λ t u. nat_lt a.0 n && not t && u) (any_named text names a.0 old new zip.1) (once_named text names n old new zip.1)

had_named : (text : List ℕ) (names : List (List ℕ)) (n : ℕ) (old new : List Operand) → AllZip (IsNamedOperand text names) old new → list_all (is_had n) new ≡ list_all (is_had n) old
had_named text names n [] [] zip = refl
had_named text names n [] (b ∷ new) zip = absurd zip
had_named text names n (a ∷ old) [] zip = absurd zip
had_named text names n (a ∷ old) (b ∷ new) zip = ap₂ (λ s t. s && t) (one a zip.0) (had_named text names n old new zip.1)
  where
    one : (a : Operand) → IsNamedOperand text names a b → is_had n b ≡ is_had n a
    one (operand.Global flag place) named = ap (is_had n) named.same
    one _ named = ap (is_had n) named

all_had_named : (text : List ℕ) (names : List (List ℕ)) (n : ℕ) (old new : List (ℕ × InstrData)) → AllZip (IsNamedEntry text names) old new → are_had n new ≡ are_had n old
all_had_named text names n [] [] zip = refl
all_had_named text names n [] (b ∷ new) zip = absurd zip
all_had_named text names n (a ∷ old) [] zip = absurd zip
all_had_named text names n (a ∷ old) (b ∷ new) zip = ap₂ (λ s t. s && t) (had_named text names n a.1.operands b.1.operands zip.0.instr.operands) (all_had_named text names n old new zip.1)

named_numbered : (text : List ℕ) (names : List (List ℕ)) (old new : FunctionData) → IsNamedFunction text names old new → is_numbered old ≡ true → is_numbered new ≡ true
named_numbered text names old new named numbered =
    let entries : AllZip (IsNamedEntry text names) (all_instrs old.blocks) (all_instrs new.blocks) = all_named text names old.blocks new.blocks named.blocks in
    ap₂ (λ n m. stand_once n (all_instrs new.blocks) && are_had m (all_instrs new.blocks)) named.next_id named.next_reg
    ∙ ap₂ (λ a b. a && b) (once_named text names old.next_id (all_instrs old.blocks) (all_instrs new.blocks) entries) (all_had_named text names old.next_reg (all_instrs old.blocks) (all_instrs new.blocks) entries) ∙ numbered

-- ══ A function of a module ══

pub read_at : (text : List ℕ) (names : List (List ℕ)) (sections : List Section) (fs : List FunctionData) (place : ℕ) (f : FunctionData) → AllZip (IsReadFunction text names) sections fs → slice_get fs place ≡ Some f → (section : Section) × IsReadFunction text names section f
read_at text names [] [] place f zip there = cc
read_at text names [] (g ∷ fs) place f zip there = absurd zip
read_at text names (s ∷ sections) [] place f zip there = absurd zip
read_at text names (s ∷ sections) (g ∷ fs) zero f zip there = let same : g ≡ f = cc in (s, subst (IsReadFunction text names s) same zip.0)
read_at text names (s ∷ sections) (g ∷ fs) (suc place) f zip there = read_at text names sections fs place f zip.1 there

pub read_numbered : (text : List ℕ) (m : ModuleData) (place : ℕ) (f : FunctionData) → IsReadModule text m → slice_get m.functions place ≡ Some f → is_numbered f ≡ true
read_numbered text m place f read there =
    let own = read_at text m.names (parts_of_text text).documents m.functions place f read.functions there in
    let document : Document = read_document text (entries_of own.0) in
    named_numbered text m.names (function_of text document) f own.1.same (built_numbered text document)
