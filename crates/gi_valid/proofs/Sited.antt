-- What a function without faults says of each of its sites.
use Rattle.std.proofs.Common.{◌≡◌, ℕ, zero, suc, ◌+◌, Bool, true, false, cond, not, ◌&&◌, ◌||◌, ◌==◌, List, [], ◌∷◌, ◌++◌, Option, Some, None, slice_get, ⊎_elim, refl, sym, ap, ◌∙◌, subst, arith, true≢false, append_assoc, append-nil}
use Rattle.std.proofs.lemmas.Bool.{or_parts, or_from, or_cases, or_left, or_right, and_parts, and_from, and_cases, not-false, eqb-true}
use Rattle.std.specs.Option.{option_or}
use Rattle.std.proofs.lemmas.List.Folds.{list_any-append}
use Rattle.std.proofs.lemmas.Option.{same_Some}
use Rattle.std.specs.List.{list_any, list_all}
use Rattle.gi_mir.specs.Data.{InstrData, BlockData, FunctionData}
use Rattle.gi_mir.specs.Row.{is_terminator_op, is_unconditional_op, is_branch_op}
use Rattle.gi_mir.specs.declared.operand.Operand.{Operand}
use Rattle.gi_mir.specs.declared.operand.Operand.TheVariants as operand
use Rattle.gi_meaning.specs.Runs.{is_phi, phis_of, after_phis, is_among}
use Rattle.gi_refine.specs.Rewriting.{is_target}
use Rattle.gi_valid.specs.Available.{successors_of}
use Rattle.gi_valid.specs.Faults.{with_fault, Site, sites_in, sites_from, sites, told, blocks_in, is_late, has_late, is_first_late, is_astray, terminator}
use Rattle.gi_valid.specs.declared.invalid.Fault.{Fault}
use Rattle.gi_valid.specs.declared.invalid.Invalid.{Invalid}
use Rattle.gi_valid.specs.declared.invalid.Invalid.TheVariants.{Terminator}
use Rattle.gi_valid.proofs.Walking.{body_is}

-- ══ Nothing in a list ══

pub nothing_in_either : {A : Type 0} (xs ys : List A) → xs ++ ys ≡ [] → (xs ≡ []) × (ys ≡ [])
nothing_in_either [] ys h = (refl, h)
nothing_in_either (x ∷ xs) ys h = cc

pub nothing_in_front : (line : ℕ) (what : Option Invalid) (faults : List Fault) → with_fault line what faults ≡ [] → (what ≡ None) × (faults ≡ [])
nothing_in_front line None faults h = (refl, h)
nothing_in_front line (Some what) faults h = cc

pub neither : {A : Type 0} (a b : Option A) → option_or a b ≡ None → (a ≡ None) × (b ≡ None)
neither None b h = (refl, h)
neither (Some a) b h = cc

-- ══ Sites ══

abbrev pub site_of : (b : ℕ) → (before : List (ℕ × InstrData)) → (i : ℕ × InstrData) → (after : List (ℕ × InstrData)) → Site
site_of b before i after = record { block = b; before = before; instr = i.1; after = after }

pub told_append : (g : Site → Option Invalid) (xs ys : List Site) → told g (xs ++ ys) ≡ told g xs ++ told g ys
told_append g [] ys = refl
told_append g (site ∷ xs) ys = ap (with_fault site.instr.line (g site)) (told_append g xs ys) ∙ front (g site) (told g xs)
  where
    front : (what : Option Invalid) (l : List Fault) → with_fault site.instr.line what (l ++ told g ys) ≡ with_fault site.instr.line what l ++ told g ys
    front None l = refl
    front (Some what) l = refl

in_block : (g : Site → Option Invalid) (b : ℕ) (done before : List (ℕ × InstrData)) (i : ℕ × InstrData) (after : List (ℕ × InstrData)) → told g (sites_in b done (before ++ i ∷ after)) ≡ []
    → g (site_of b (done ++ before) i after) ≡ None
in_block g b done [] i after h =
    subst (λ l. g (site_of b l i after) ≡ None) (sym (append-nil done))
    (nothing_in_front i.1.line (g (site_of b done i after)) (told g (sites_in b (done ++ i ∷ []) after)) h).0
in_block g b done (k ∷ before) i after h =
    subst (λ l. g (site_of b l i after) ≡ None) (append_assoc done (k ∷ []) before)
    (in_block g b (done ++ k ∷ []) before i after
    (nothing_in_front k.1.line (g (site_of b done k (before ++ i ∷ after))) (told g (sites_in b (done ++ k ∷ []) (before ++ i ∷ after))) h).1)

parts_of_blocks : (g : Site → Option Invalid) (place : ℕ) (k : BlockData) (blocks : List BlockData) → told g (sites_from place (k ∷ blocks)) ≡ [] → (told g (sites_in place [] k.instrs) ≡ []) × (told g (sites_from (place + 1) blocks) ≡ [])
parts_of_blocks g place k blocks h =
    nothing_in_either (told g (sites_in place [] k.instrs)) (told g (sites_from (place + 1) blocks))
    (sym (told_append g (sites_in place [] k.instrs) (sites_from (place + 1) blocks)) ∙ h)

in_blocks : (g : Site → Option Invalid) (place : ℕ) (blocks : List BlockData) → told g (sites_from place blocks) ≡ [] → (b : ℕ) (block : BlockData) → slice_get blocks b ≡ Some block
    → told g (sites_in (place + b) [] block.instrs) ≡ []
in_blocks g place [] h b block found = cc
in_blocks g place (k ∷ blocks) h zero block found =
    let none : place + 0 ≡ place = omega arith in
    subst (λ n. told g (sites_in n [] block.instrs) ≡ []) (sym none)
    (subst (λ (c : BlockData). told g (sites_in place [] c.instrs) ≡ []) (same_Some k block found) (parts_of_blocks g place k blocks h).0)
in_blocks g place (k ∷ blocks) h (suc c) block found =
    let next : place + 1 + c ≡ place + suc c = omega arith in
    subst (λ n. told g (sites_in n [] block.instrs) ≡ []) next (in_blocks g (place + 1) blocks (parts_of_blocks g place k blocks h).1 c block found)

-- each site of a function
pub at_site : (f : FunctionData) (g : Site → Option Invalid) → told g (sites f) ≡ [] → (b : ℕ) (block : BlockData) → slice_get f.blocks b ≡ Some block
    → (before : List (ℕ × InstrData)) (i : ℕ × InstrData) (after : List (ℕ × InstrData)) → block.instrs ≡ before ++ i ∷ after → g (site_of b before i after) ≡ None
at_site f g h b block found before i after splits =
    let none : 0 + b ≡ b = omega arith in
    in_block g b [] before i after
    (subst (λ l. told g (sites_in b [] l) ≡ []) splits (subst (λ n. told g (sites_in n [] block.instrs) ≡ []) none (in_blocks g 0 f.blocks h b block found)))

-- ══ Terminators ══

has_late_split : (done xs ys : List (ℕ × InstrData)) → has_late done (xs ++ ys) ≡ (has_late done xs || has_late (done ++ xs) ys)
has_late_split done [] ys = ap (λ l. has_late l ys) (sym (append-nil done))
has_late_split done (x ∷ xs) ys =
    ap (λ t. is_late done x.1 || t) (has_late_split (done ++ x ∷ []) xs ys)
    ∙ ap (λ l. is_late done x.1 || (has_late (done ++ x ∷ []) xs || has_late l ys)) (append_assoc done (x ∷ []) xs)
    ∙ sym (or_assoc (is_late done x.1) (has_late (done ++ x ∷ []) xs) (has_late (done ++ (x ∷ xs)) ys))
  where
    or_assoc : (a b c : Bool) → ((a || b) || c) ≡ (a || (b || c))
    or_assoc true b c = refl
    or_assoc false b c = refl

late_walk : (instrs : List (ℕ × InstrData)) → ((before : List (ℕ × InstrData)) (i : ℕ × InstrData) (after : List (ℕ × InstrData)) → instrs ≡ before ++ i ∷ after → (is_late before i.1 && not (has_late [] before)) ≡ false)
    → (done xs : List (ℕ × InstrData)) → instrs ≡ done ++ xs → has_late [] done ≡ false → has_late done xs ≡ false
late_walk instrs ok done [] splits none = refl
late_walk instrs ok done (x ∷ xs) splits none =
    let here : is_late done x.1 ≡ false =
    ⊎_elim (λ h. h) (λ h. absurd (true≢false (sym (ap not none) ∙ h))) (and_cases (is_late done x.1) (not (has_late [] done)) (ok done x xs splits)) in
    let more : has_late [] (done ++ x ∷ []) ≡ false =
    has_late_split [] done (x ∷ []) ∙ or_from (has_late [] done) (has_late done (x ∷ [])) none (or_from (is_late done x.1) false here refl) in
    or_from (is_late done x.1) (has_late (done ++ x ∷ []) xs) here
    (late_walk instrs ok (done ++ x ∷ []) xs (splits ∙ sym (append_assoc done (x ∷ []) xs)) more)

terminator_parts : (f : FunctionData) (site : Site) → terminator f site ≡ None → (is_first_late site ≡ false) × (is_astray f site ≡ false)
terminator_parts f site h = by (is_first_late site || is_astray f site) refl h
  where
    by : (t : Bool) → (is_first_late site || is_astray f site) ≡ t → cond t (Some Terminator) None ≡ None → (is_first_late site ≡ false) × (is_astray f site ≡ false)
    by true so h = cc
    by false so h = or_parts (is_first_late site) (is_astray f site) so

-- nothing in a block is late
pub none_late : (f : FunctionData) → told (terminator f) (sites f) ≡ [] → (b : ℕ) (block : BlockData) → slice_get f.blocks b ≡ Some block → has_late [] block.instrs ≡ false
none_late f h b block found =
    late_walk block.instrs (λ before i after splits. (terminator_parts f (site_of b before i after) (at_site f (terminator f) h b block found before i after splits)).0) [] block.instrs refl refl

ends_walk : (front after : List (ℕ × InstrData)) → list_any (λ p. is_terminator_op p.1.op) front ≡ true → has_late front after ≡ false → list_all (λ p. is_terminator_op p.1.op) after ≡ true
ends_walk front [] some none = refl
ends_walk front (j ∷ after) some none =
    let each : (is_late front j.1 ≡ false) × (has_late (front ++ j ∷ []) after ≡ false) = or_parts (is_late front j.1) (has_late (front ++ j ∷ []) after) none in
    let second : (list_any (λ p. is_terminator_op p.1.op) front && not (is_terminator_op j.1.op)) ≡ false =
    (or_parts (list_any (λ p. is_unconditional_op p.1.op) front) (list_any (λ p. is_terminator_op p.1.op) front && not (is_terminator_op j.1.op)) each.0).1 in
    let ends : is_terminator_op j.1.op ≡ true =
    ⊎_elim (λ not_some. absurd (true≢false (sym some ∙ not_some))) (λ h. not-false (is_terminator_op j.1.op) h)
    (and_cases (list_any (λ p. is_terminator_op p.1.op) front) (not (is_terminator_op j.1.op)) second) in
    and_from (is_terminator_op j.1.op) (list_all (λ p. is_terminator_op p.1.op) after) ends
    (ends_walk (front ++ j ∷ []) after
    (list_any-append (λ p. is_terminator_op p.1.op) front (j ∷ []) ∙ or_left (list_any (λ p. is_terminator_op p.1.op) front) (list_any (λ p. is_terminator_op p.1.op) (j ∷ [])) some) each.1)

-- behind a terminator stand terminator alone
pub ends_behind : (f : FunctionData) → told (terminator f) (sites f) ≡ [] → (b : ℕ) (block : BlockData) → slice_get f.blocks b ≡ Some block
    → (front : List (ℕ × InstrData)) (i : ℕ × InstrData) (after : List (ℕ × InstrData)) → block.instrs ≡ front ++ i ∷ after → is_terminator_op i.1.op ≡ true
    → list_all (λ p. is_terminator_op p.1.op) (i ∷ after) ≡ true
ends_behind f h b block found front i after splits ends =
    let none : has_late [] (front ++ i ∷ after) ≡ false = subst (λ l. has_late [] l ≡ false) splits (none_late f h b block found) in
    let here : has_late front (i ∷ after) ≡ false = (or_parts (has_late [] front) (has_late front (i ∷ after)) (sym (has_late_split [] front (i ∷ after)) ∙ none)).1 in
    and_from (is_terminator_op i.1.op) (list_all (λ p. is_terminator_op p.1.op) after) ends
    (ends_walk (front ++ i ∷ []) after
    (list_any-append (λ p. is_terminator_op p.1.op) front (i ∷ [])
    ∙ or_right (list_any (λ p. is_terminator_op p.1.op) front) (list_any (λ p. is_terminator_op p.1.op) (i ∷ [])) (or_left (is_terminator_op i.1.op) false ends))
    (or_parts (is_late front i.1) (has_late (front ++ i ∷ []) after) here).1)

aimed_among : (c : ℕ) (successors : List ℕ) (os : List Operand) → list_all (λ b. is_among b successors) (blocks_in os) ≡ true → is_target c os ≡ true → is_among c successors ≡ true
aimed_among c successors [] all h = cc
aimed_among c successors (operand.Block b ∷ os) all h =
    let each : (is_among b successors ≡ true) × (list_all (λ b. is_among b successors) (blocks_in os) ≡ true) =
    and_parts (is_among b successors) (list_all (λ b. is_among b successors) (blocks_in os)) all in
    ⊎_elim (λ same. subst (λ k. is_among k successors ≡ true) (eqb-true b c same) each.0) (λ later. aimed_among c successors os each.1 later) (or_cases (b == c) (is_target c os) h)
aimed_among c successors (_ ∷ os) all h = aimed_among c successors os all h

-- the targets of a branch are among the successors of its block
pub target_among : (f : FunctionData) → told (terminator f) (sites f) ≡ [] → (b : ℕ) (block : BlockData) → slice_get f.blocks b ≡ Some block
    → (front : List (ℕ × InstrData)) (i : ℕ × InstrData) (after : List (ℕ × InstrData)) → block.instrs ≡ front ++ i ∷ after → is_branch_op i.1.op ≡ true → (c : ℕ) → is_target c i.1.operands ≡ true
    → is_among c block.successors ≡ true
target_among f h b block found front i after splits branches c aimed =
    let stray : is_astray f (site_of b front i after) ≡ false =
    (terminator_parts f (site_of b front i after) (at_site f (terminator f) h b block found front i after splits)).1 in
    let all : list_all (λ k. is_among k (successors_of f b)) (blocks_in i.1.operands) ≡ true =
    ⊎_elim (λ none. absurd (true≢false (sym branches ∙ none))) (λ k. not-false (list_all (λ k. is_among k (successors_of f b)) (blocks_in i.1.operands)) k)
    (and_cases (is_branch_op i.1.op) (not (list_all (λ k. is_among k (successors_of f b)) (blocks_in i.1.operands))) stray) in
    sym (ap (λ (k : BlockData). is_among c k.successors) (body_is f b block found)) ∙ aimed_among c (successors_of f b) i.1.operands all aimed

-- ══ A block and its phis ══

-- the phis of a block and what is behind them are the block
pub phis_and_others : (is : List (ℕ × InstrData)) → is ≡ phis_of is ++ after_phis is
phis_and_others [] = refl
phis_and_others (i ∷ is) = by (is_phi i.1) (phis_and_others is)
  where
    by : (t : Bool) → is ≡ phis_of is ++ after_phis is → i ∷ is ≡ cond t (i ∷ phis_of is) [] ++ cond t (after_phis is) (i ∷ is)
    by true h = ap (λ l. i ∷ l) h
    by false h = refl

pub splits_whole : (is before : List (ℕ × InstrData)) (i : ℕ × InstrData) (after : List (ℕ × InstrData)) → after_phis is ≡ before ++ i ∷ after → is ≡ (phis_of is ++ before) ++ i ∷ after
splits_whole is before i after h = phis_and_others is ∙ ap (λ l. phis_of is ++ l) h ∙ sym (append_assoc (phis_of is) before (i ∷ after))
