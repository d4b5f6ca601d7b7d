-- In a valid function whose instructions are formed each register that is used is defined.
use Rattle.std.proofs.Common.{◌≡◌, ℕ, zero, suc, Bool, true, false, cond, not, ◌&&◌, ◌||◌, ◌==◌, nat_lt, List, [], ◌∷◌, Some, None, find, length, option_map, refl, sym, ap, ap₂, ◌∙◌, subst, true≢false, eqb-true}
use Rattle.std.proofs.lemmas.Bool.{and_parts, false_from_ne_true, or_parts}
use Rattle.std.proofs.lemmas.List.Folds.{list_any-append}
use Rattle.std.specs.List.{list_all, list_any}
use Rattle.gi_mir.specs.Data.{InstrData, BlockData, FunctionData, reg_of}
use Rattle.gi_mir.specs.Edit.{all_instrs, defines, is_use_of, uses}
use Rattle.gi_mir.specs.Formed.{fits, fits_one_of}
use Rattle.gi_mir.specs.Places.{body_at}
use Rattle.gi_mir.specs.Row.{rows_of}
use Rattle.gi_mir.specs.declared.opcode.Opcode.{Opcode}
use Rattle.gi_mir.specs.declared.opcode.Opcode.TheVariants as op
use Rattle.gi_mir.specs.declared.operand.Flags.{Flags}
use Rattle.gi_mir.specs.declared.operand.Operand.{Operand}
use Rattle.gi_mir.specs.declared.operand.Operand.TheVariants as operand
use Rattle.gi_mir.specs.declared.row.Form.TheVariants as form
use Rattle.gi_meaning.specs.Meaning.{is_joining, meaning_of}
use Rattle.gi_meaning.specs.Runs.{after_phis, is_phi, phis_of}
use Rattle.gi_valid.specs.Available.{IsDefinedInReach, IsReachedIn, at_end, behind, defines_origin, one_by_one}
use Rattle.gi_valid.specs.Faults.{Site, blocks_in, missing_entries, missing_entry, missing_use, not_available, unknown_among, unknown_block}
use Rattle.gi_valid.specs.Typing.{Phase}
use Rattle.gi_valid.specs.Valid.{IsValid}
use Rattle.gi_valid.specs.declared.invalid.Invalid.TheVariants.{NotAvailable, UnknownBlock}
use Rattle.gi_valid.proofs.Existing.{greatest_sets}
use Rattle.gi_valid.proofs.Greatest.{faultless_in_greatest}
use Rattle.gi_valid.proofs.Sited.{at_site, neither, phis_and_others, site_of}
use Rattle.gi_valid.proofs.Walking.{body_is}
use Rattle.gi_change_valid.specs.Rewriting.{IsOneOf}
use Rattle.gi_change_valid.proofs.Circles.{HasPlace, HasSite, IsKnown, is_here, site_in_body, site_of_one, use_at}
use Rattle.gi_change_valid.proofs.Computed.{any_one}
use Rattle.gi_change_valid.proofs.Sites.{IsSite, site_inside}
use Rattle.gi_change_valid.proofs.Valid.{AreQuietAll, great_of, known_of, quiet_of}

-- ══ Nothing makes it available ══

one_none : (r : ℕ) (origins : ℕ → Bool) (is : List (ℕ × InstrData)) → list_any (defines r) is ≡ false → one_by_one r origins false is ≡ false
one_none r origins [] none = refl
one_none r origins (i ∷ is) none =
    let each = or_parts (defines r i) (list_any (defines r) is) none in ap (λ t. one_by_one r origins ((t || false) || (false && not (list_any (defines_origin origins) (i ∷ [])))) is) each.0 ∙ one_none r origins is each.1

behind_none : (r : ℕ) (origins : ℕ → Bool) (is : List (ℕ × InstrData)) → list_any (defines r) is ≡ false → behind r origins false is ≡ false
behind_none r origins is none =
    let each = or_parts (list_any (defines r) (phis_of is)) (list_any (defines r) (after_phis is)) (sym (ap (list_any (defines r)) (phis_and_others is) ∙ list_any-append (defines r) (phis_of is) (after_phis is)) ∙ none) in
    ap (λ t. one_by_one r origins (t || (false && not (list_any (defines_origin origins) (phis_of is)))) (after_phis is)) each.0 ∙ one_none r origins (after_phis is) each.1

-- a register that no instruction defines
record IsUndefined (f : FunctionData) (r : ℕ) : Type 0 where
  known : IsKnown f (great_of f)
  none : list_any (defines r) (all_instrs f.blocks) ≡ false

none_in_body : (f : FunctionData) (r : ℕ) → IsUndefined f r → (b : ℕ) → list_any (defines r) (body_at f.blocks b).instrs ≡ false
none_in_body f r u b =
    false_from_ne_true (list_any (defines r) (body_at f.blocks b).instrs) (λ h.
    let own : HasSite f b (defines r) = site_in_body f b (defines r) h in
    true≢false (sym (any_one (defines r) own.instr (all_instrs f.blocks) (site_inside f b own.front own.instr own.back own.site) own.passes) ∙ u.none))

ends_none : (f : FunctionData) (r : ℕ) → IsUndefined f r → (b : ℕ) → (great_of f r).starts b ≡ false → at_end f r (great_of f r) b ≡ false
ends_none f r u b none = ap (λ t. behind r (great_of f r).origins t (body_at f.blocks b).instrs) none ∙ behind_none r (great_of f r).origins (body_at f.blocks b).instrs (none_in_body f r u b)

none_reached : (f : FunctionData) (r : ℕ) → IsUndefined f r → (n b : ℕ) → IsReachedIn n f b → (great_of f r).starts b ≡ false
none_reached f r u zero b path = subst (λ a. (great_of f r).starts a ≡ false) (sym path) (u.known.greatest r).contained.first
none_reached f r u (suc n) b path =
    false_from_ne_true ((great_of f r).starts b) (λ h.
    true≢false (sym ((u.known.greatest r).contained.joined path.0 b (record { steps = n; path = path.1 }) path.2 h) ∙ ends_none f r u path.0 (none_reached f r u n path.0 path.1)))

none_starts : (f : FunctionData) (r : ℕ) → IsUndefined f r → (b : ℕ) → (great_of f r).starts b ≡ false
none_starts f r u b =
    false_from_ne_true ((great_of f r).starts b) (λ h.
    let reach : IsDefinedInReach f r = (u.known.greatest r).contained.apart b (λ reached. true≢false (sym h ∙ none_reached f r u reached.steps b reached.path)) h in
    true≢false (sym reach.defined ∙ none_in_body f r u reach.block))

none_here : (f : FunctionData) (r : ℕ) → IsUndefined f r → (b : ℕ) (front : List (ℕ × InstrData)) (i : ℕ × InstrData) (back : List (ℕ × InstrData)) → IsSite f b front i back → is_here (great_of f) b front r ≡ false
none_here f r u b front i back site =
    ap (λ t. behind r (great_of f r).origins t front) (none_starts f r u b)
    ∙ behind_none r (great_of f r).origins front
    (or_parts (list_any (defines r) front) (list_any (defines r) (i ∷ back))
    (sym (ap (λ (k : BlockData). list_any (defines r) k.instrs) (body_is f b site.block site.found) ∙ ap (list_any (defines r)) site.splits ∙ list_any-append (defines r) front (i ∷ back)) ∙ none_in_body f r u b)).0

-- ══ What a phi takes ══

pub blocks_there : (f : FunctionData) (bs : List ℕ) → unknown_among f bs ≡ None → list_all (λ b. nat_lt b (length f.blocks)) bs ≡ true
blocks_there f [] h = refl
blocks_there f (b ∷ bs) h = by (nat_lt b (length f.blocks)) h (blocks_there f bs)
  where
    by : (t : Bool) → option_map UnknownBlock (cond (not t) (Some b) (find (λ c. not (nat_lt c (length f.blocks))) bs)) ≡ None → (unknown_among f bs ≡ None → list_all (λ c. nat_lt c (length f.blocks)) bs ≡ true)
        → (t && list_all (λ c. nat_lt c (length f.blocks)) bs) ≡ true
    by true h more = more h
    by false h more = cc

-- no entry has such a register
none_entered : (f : FunctionData) (r : ℕ) → IsUndefined f r → (os : List Operand) → fits (form.Entry ∷ []) os ≡ true → missing_entries f (great_of f) os ≡ None → list_all (λ b. nat_lt b (length f.blocks)) (blocks_in os) ≡ true
    → list_any (is_use_of r) os ≡ false
none_entered f r u [] fit none there = refl
none_entered f r u (operand.Use q ∷ operand.Block b ∷ os) fit none there =
    let each = and_parts (nat_lt b (length f.blocks)) (list_all (λ b. nat_lt b (length f.blocks)) (blocks_in os)) there in
    let parts : (missing_entry f (great_of f) (Some (q.0, b)) ≡ None) × (missing_entries f (great_of f) (operand.Block b ∷ os) ≡ None) = neither (missing_entry f (great_of f) (Some (q.0, b))) (missing_entries f (great_of f) (operand.Block b ∷ os)) none in
    ap₂ (λ s t. s || t) (other each.0 parts.0) (none_entered f r u os fit parts.1 each.1)
  where
    other : nat_lt b (length f.blocks) ≡ true → missing_entry f (great_of f) (Some (q.0, b)) ≡ None → (q.0 == r) ≡ false
    other within none =
        false_from_ne_true (q.0 == r) (λ same.
        let here : at_end f q.0 (great_of f q.0) b ≡ false = subst (λ k. at_end f k (great_of f k) b ≡ false) (sym (eqb-true q.0 r same)) (ends_none f r u b (none_starts f r u b)) in
        told (sym (ap₂ (λ s t. cond (not s || t) None (Some (NotAvailable (operand.Use (reg_of q.0))))) within here) ∙ none))
      where
        told : Some (NotAvailable (operand.Use (reg_of q.0))) ≡ None → ⊥
        told h = cc
none_entered f r u _ fit none there = cc

none_joined : (f : FunctionData) (r : ℕ) → IsUndefined f r → (os : List Operand) → fits (form.Def ∷ form.Entry ∷ []) os ≡ true → missing_entries f (great_of f) os ≡ None → list_all (λ b. nat_lt b (length f.blocks)) (blocks_in os) ≡ true
    → list_any (is_use_of r) os ≡ false
none_joined f r u (operand.Def q kind ∷ os) fit none there = none_entered f r u os fit none there
none_joined f r u _ fit none there = cc

phi_row : (flags : Flags) (o : Opcode) (os : List Operand) → is_joining (meaning_of flags o) ≡ true → fits_one_of (rows_of o) os ≡ true → fits (form.Def ∷ form.Entry ∷ []) os ≡ true
phi_row flags op.Phi os phi fit = only (fits (form.Def ∷ form.Entry ∷ []) os) fit
  where
    only : (t : Bool) → (t || false) ≡ true → t ≡ true
    only true h = refl
    only false h = cc
phi_row flags op.GenericPhi os phi fit = only (fits (form.Def ∷ form.Entry ∷ []) os) fit
  where
    only : (t : Bool) → (t || false) ≡ true → t ≡ true
    only true h = refl
    only false h = cc
phi_row flags _ os phi fit = cc

-- ══ Each use ══

pub used_defined : (x : ℕ) (phase : Phase) (f : FunctionData) → IsValid x phase f → (p : ℕ × InstrData) → IsOneOf p (all_instrs f.blocks) → fits_one_of (rows_of p.1.op) p.1.operands ≡ true → (r : ℕ) → uses r p ≡ true
    → list_any (defines r) (all_instrs f.blocks) ≡ true
used_defined x phase f valid p there fit r used = by (list_any (defines r) (all_instrs f.blocks)) refl
  where
    known : IsKnown f (great_of f)
    known = known_of x phase f valid

    place : HasPlace f p
    place = site_of_one f p there

    quiet : AreQuietAll x phase f (great_of f)
    quiet = quiet_of x phase f (great_of f) (faultless_in_greatest x phase f valid (great_of f) (λ r. (greatest_sets f r).is))

    site : Site
    site = site_of (site_of_one f p there).block (site_of_one f p there).front p (site_of_one f p there).back

    undefined : IsUndefined f r → (t : Bool) → is_phi p.1 ≡ t → ⊥
    undefined u false so =
        true≢false (sym (use_at f (great_of f) known place.block place.front p place.back place.site so r used) ∙ none_here f r u place.block place.front p place.back place.site)
    undefined u true so =
        let missing : not_available f (great_of f) site ≡ None = at_site f (not_available f (great_of f)) known.available place.block place.site.block place.site.found place.front p place.back place.site.splits in
        let entries : missing_entries f (great_of f) p.1.operands ≡ None = sym (ap (λ t. cond t (missing_entries f (great_of f) p.1.operands) (missing_use f (great_of f) site)) so) ∙ missing in
        let blocks : unknown_block f site ≡ None = at_site f (unknown_block f) quiet.unknown place.block place.site.block place.site.found place.front p place.back place.site.splits in
        true≢false (sym used ∙ none_joined f r u p.1.operands (phi_row p.1.flags p.1.op p.1.operands so fit) entries (blocks_there f (blocks_in p.1.operands) blocks))

    by : (t : Bool) → list_any (defines r) (all_instrs f.blocks) ≡ t → list_any (defines r) (all_instrs f.blocks) ≡ true
    by true so = so
    by false so = absurd (undefined (record { known = known; none = so }) (is_phi p.1) refl)
