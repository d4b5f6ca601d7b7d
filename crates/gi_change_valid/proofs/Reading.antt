-- All that is read after a rewriting is available.
use Rattle.std.proofs.Common.{◌≡◌, ℕ, Bool, true, false, cond, not, ◌||◌, ◌==◌, nat_lt, List, [], ◌∷◌, ◌++◌, Option, Some, None, option_map, map, find, length, ⊎_elim, refl, sym, ap, ap₂, ◌∙◌, subst}
use Rattle.std.proofs.lemmas.Bool.{or_cases, or_left, or_right, and_parts, and_from, eqb-true, eq-eqb, not-false}
use Rattle.std.specs.List.{list_any, list_all}
use Rattle.std.specs.Option.{option_or}
use Rattle.gi_mir.specs.Data.{InstrData, FunctionData, reg_of}
use Rattle.gi_mir.specs.Edit.{all_instrs, is_use_of, defines, uses}
use Rattle.gi_mir.specs.declared.operand.Operand.{Operand}
use Rattle.gi_mir.specs.declared.operand.Operand.TheVariants as operand
use Rattle.gi_meaning.specs.Runs.{is_phi, entry_of}
use Rattle.gi_replace.specs.InPlace.{operand_renamed, entry_renamed}
use Rattle.gi_valid.specs.Available.{Extent, one_by_one, at_end, is_physical_at_start, is_physical_there}
use Rattle.gi_valid.specs.Definitions.{IsComputedFrom}
use Rattle.gi_valid.specs.Faults.{Site, sites, told, is_there, missing_entry, missing_entries, missing_use, not_available}
use Rattle.gi_valid.specs.declared.invalid.Invalid.TheVariants.{NotAvailable}
use Rattle.gi_valid.proofs.Sited.{site_of, neither}
use Rattle.gi_change_valid.specs.Conditions.{is_replaced, is_plain_operand, is_plain, IsOrigin}
use Rattle.gi_change_valid.specs.Rewriting.{Rewriting, rewritten, IsOneOf}
use Rattle.gi_change_valid.proofs.Across.{same_there}
use Rattle.gi_change_valid.proofs.Available.{is_then, stays_through, made_there, behind_made, still_here, still_at_end}
use Rattle.gi_change_valid.proofs.Circles.{is_here, all_there, use_at, pure_is_no_phi, computed_on}
use Rattle.gi_change_valid.proofs.Frames.{as_many_blocks, IsOwn, Plain, made_plain, all_before}
use Rattle.gi_change_valid.proofs.Origins.{IsReady, result_of, result_defined, HasRead, read_towards, no_root_circle, IsOutside, origin_outside, reaches_root, origins_after, is_kept, extent_after}
use Rattle.gi_change_valid.proofs.Sites.{IsSite, nothing_new, site_inside, site_own}
use Rattle.gi_change_valid.proofs.Staying.{origin_here, takes_none, origin_at_end}
use Rattle.gi_change_valid.proofs.Typed.{not_made, not_new_used}

-- ══ Which registers are kept ══

outside_kept : (w : Rewriting) (r : ℕ) → IsOutside w r → is_kept w r ≡ true
outside_kept w r o = ap₂ (λ m d. cond m d (not d)) o.not_among o.no_result

-- a register that an instruction uses is kept, unless it is replaced
used_kept : (w : Rewriting) (f g : FunctionData) (great : ℕ → Extent) → IsReady w f g great → (p : ℕ × InstrData) → IsOneOf p (all_instrs f.blocks) → (z : ℕ) → uses z p ≡ true → is_replaced w z ≡ false → is_kept w z ≡ true
used_kept w f g great c p there z used stays = by (defines z w.root) refl
  where
    by : (t : Bool) → defines z w.root ≡ t → is_kept w z ≡ true
    by true so = ap₂ (λ m d. cond m d (not d)) (c.account.results.covered z so stays) so
    by false so = ap₂ (λ m d. cond m d (not d)) (not_made w f g c.account z so (not_new_used f p there z used)) so

-- a place where registers are available: in front of an instruction, or at the end of a block
record CarriesOver (w : Rewriting) (f g : FunctionData) (great : ℕ → Extent) (here then : ℕ → Bool) : Type 0 where
  kept : (r : ℕ) → is_kept w r ≡ true → here r ≡ true → then r ≡ true
  origin : (d y : ℕ) → IsComputedFrom f d y → here d ≡ true → here y ≡ true

-- what stands for a used register is available there
renamed_there : (w : Rewriting) (f g : FunctionData) (great : ℕ → Extent) → IsReady w f g great → (here then : ℕ → Bool) → CarriesOver w f g great here then → (p : ℕ × InstrData) → IsOneOf p (all_instrs f.blocks) → (z : ℕ) → uses z p ≡ true
    → here z ≡ true → then (w.rename z) ≡ true
renamed_there w f g great c here then over p there z used h = by (is_replaced w z) refl
  where
    by : (t : Bool) → is_replaced w z ≡ t → then (w.rename z) ≡ true
    by true so =
        let from : IsComputedFrom f z (w.rename z) = c.account.results.origins z so in
        over.kept (w.rename z) (outside_kept w (w.rename z) (origin_outside w f g great c z (c.account.results.results z so) (w.rename z) from)) (over.origin z (w.rename z) from h)
    by false so =
        let same : w.rename z ≡ z = eqb-true (w.rename z) z (not-false (w.rename z == z) so) in
        subst (λ q. then q ≡ true) (sym same) (over.kept z (used_kept w f g great c p there z used so) h)

-- ══ Uses ══

front_over : (w : Rewriting) (f g : FunctionData) (great : ℕ → Extent) → IsReady w f g great → (b : ℕ) (front : List (ℕ × InstrData)) (p : ℕ × InstrData) (back : List (ℕ × InstrData)) → IsSite f b front p back
    → CarriesOver w f g great (is_here great b front) (is_then w great b (rewritten w front))
front_over w f g great c b front p back site = record {
  kept = λ r kept h. still_here w f g great c r kept b site.block site.found front (p ∷ back) site.splits h;
  origin = λ d y from h. origin_here f great c.known d y from b site.block site.found front (p ∷ back) site.splits h;
}

none_missing : (g : FunctionData) (extents : ℕ → Extent) (site : Site) (os : List Operand) → list_all (is_there g extents site) os ≡ true → find (λ o. not (is_there g extents site o)) os ≡ None
none_missing g extents site [] all = refl
none_missing g extents site (o ∷ os) all =
    let each : (is_there g extents site o ≡ true) × (list_all (is_there g extents site) os ≡ true) = and_parts (is_there g extents site o) (list_all (is_there g extents site) os) all in
    ap₂ (λ t rest. cond (not t) (Some o) rest) each.0 (none_missing g extents site os each.1)

pub none_told : (g : FunctionData) (extents : ℕ → Extent) (site : Site) → is_phi site.instr ≡ false → list_all (is_there g extents site) site.instr.operands ≡ true → not_available g extents site ≡ None
none_told g extents site other all =
    ap (λ t. cond t (missing_entries g extents site.instr.operands) (missing_use g extents site)) other ∙ ap (option_map NotAvailable) (none_missing g extents site site.instr.operands all)

kept_operands : (w : Rewriting) (f g : FunctionData) (great : ℕ → Extent) → IsReady w f g great → (b : ℕ) (front : List (ℕ × InstrData)) (p : ℕ × InstrData) (back : List (ℕ × InstrData)) → IsSite f b front p back
    → (os : List Operand) → ((z : ℕ) → list_any (is_use_of z) os ≡ true → uses z p ≡ true) → list_all (is_there f great (site_of b front p back)) os ≡ true
    → list_all (is_there g (extent_after w great) (site_of b (rewritten w front) (entry_renamed w.rename p) (rewritten w back))) (map (operand_renamed w.rename) os) ≡ true
kept_operands w f g great c b front p back site [] used all = refl
kept_operands w f g great c b front p back site (o ∷ os) used all =
    let old : Site = site_of b front p back in
    let now : Site = site_of b (rewritten w front) (entry_renamed w.rename p) (rewritten w back) in
    let each : (is_there f great old o ≡ true) × (list_all (is_there f great old) os ≡ true) = and_parts (is_there f great old o) (list_all (is_there f great old) os) all in
    and_from (is_there g (extent_after w great) now (operand_renamed w.rename o)) (list_all (is_there g (extent_after w great) now) (map (operand_renamed w.rename) os))
    (by o (λ z h. used z (or_left (is_use_of z o) (list_any (is_use_of z) os) h)) each.0)
    (kept_operands w f g great c b front p back site os (λ z h. used z (or_right (is_use_of z o) (list_any (is_use_of z) os) h)) each.1)
  where
    own : IsOwn w front
    own = (site_own w f g c.account.is b front p back site).0

    by : (o : Operand) → ((z : ℕ) → is_use_of z o ≡ true → uses z p ≡ true) → is_there f great (site_of b front p back) o ≡ true
        → is_there g (extent_after w great) (site_of b (rewritten w front) (entry_renamed w.rename p) (rewritten w back)) (operand_renamed w.rename o) ≡ true
    by (operand.Use z) used h =
        renamed_there w f g great c (is_here great b front) (is_then w great b (rewritten w front)) (front_over w f g great c b front p back site) p (site_inside f b front p back site) z.0 (used z.0 (eq-eqb z.0 z.0 refl)) h
    by (operand.Phys n) used h = same_there w f g c.account.is c.plain b front own n ∙ h
    by (operand.ImplicitUse n) used h = same_there w f g c.account.is c.plain b front own n ∙ h
    by (_) used h = refl

-- ══ Entries of phis ══

entry_left : (rename : ℕ → ℕ) (os : List Operand) → entry_of (map (operand_renamed rename) os) ≡ option_map (λ e. (rename e.0, e.1)) (entry_of os)
entry_left rename [] = refl
entry_left rename (operand.Use r ∷ []) = refl
entry_left rename (operand.Use r ∷ operand.Block b ∷ os) = refl
entry_left rename (operand.Use r ∷ operand.Use q ∷ os) = refl
entry_left rename (operand.Use r ∷ _ ∷ os) = refl
entry_left rename (_ ∷ os) = refl

pub entry_used : (os : List Operand) (e : ℕ × ℕ) → entry_of os ≡ Some e → list_any (is_use_of e.0) os ≡ true
entry_used [] e h = cc
entry_used (operand.Use r ∷ []) e h = cc
entry_used (operand.Use r ∷ operand.Block b ∷ os) e h = let same : r.0 ≡ e.0 = cc in or_left (r.0 == e.0) (list_any (is_use_of e.0) (operand.Block b ∷ os)) (eq-eqb r.0 e.0 same)
entry_used (operand.Use r ∷ _ ∷ os) e h = cc
entry_used (_ ∷ os) e h = cc

kept_entry : (w : Rewriting) (f g : FunctionData) (great : ℕ → Extent) → IsReady w f g great → (p : ℕ × InstrData) → IsOneOf p (all_instrs f.blocks) → (found : Option (ℕ × ℕ)) → ((e : ℕ × ℕ) → found ≡ Some e → uses e.0 p ≡ true)
    → missing_entry f great found ≡ None → missing_entry g (extent_after w great) (option_map (λ e. (w.rename e.0, e.1)) found) ≡ None
kept_entry w f g great c p there None used h = refl
kept_entry w f g great c p there (Some e) used h =
    ap (λ n. cond (not (nat_lt e.1 n) || at_end g (w.rename e.0) (extent_after w great (w.rename e.0)) e.1) None (Some (NotAvailable (operand.Use (reg_of (w.rename e.0)))))) (as_many_blocks w f g c.account.is)
    ∙ by (nat_lt e.1 (length f.blocks)) (at_end f e.0 (great e.0) e.1) refl refl h
  where
    now : Bool
    now = at_end g (w.rename e.0) (extent_after w great (w.rename e.0)) e.1

    over : nat_lt e.1 (length f.blocks) ≡ true → CarriesOver w f g great (λ r. at_end f r (great r) e.1) (λ r. at_end g r (extent_after w great r) e.1)
    over within = record {
      kept = λ r kept h. still_at_end w f g great c r kept e.1 h;
      origin = λ d y from h. origin_at_end f great c.known d y from e.1 within h;
    }

    by : (s t : Bool) → nat_lt e.1 (length f.blocks) ≡ s → at_end f e.0 (great e.0) e.1 ≡ t → cond (not s || t) None (Some (NotAvailable (operand.Use (reg_of e.0)))) ≡ None
        → cond (not s || now) None (Some (NotAvailable (operand.Use (reg_of (w.rename e.0))))) ≡ None
    by false t within ends h = refl
    by true false within ends h = cc
    by true true within ends h =
        ap (λ t. cond t None (Some (NotAvailable (operand.Use (reg_of (w.rename e.0))))))
        (renamed_there w f g great c (λ r. at_end f r (great r) e.1) (λ r. at_end g r (extent_after w great r) e.1) (over within) p there e.0 (used e refl) ends)

kept_entries : (w : Rewriting) (f g : FunctionData) (great : ℕ → Extent) → IsReady w f g great → (p : ℕ × InstrData) → IsOneOf p (all_instrs f.blocks) → (os : List Operand) → ((z : ℕ) → list_any (is_use_of z) os ≡ true → uses z p ≡ true)
    → missing_entries f great os ≡ None → missing_entries g (extent_after w great) (map (operand_renamed w.rename) os) ≡ None
kept_entries w f g great c p there [] used none = refl
kept_entries w f g great c p there (o ∷ os) used none =
    let each : (missing_entry f great (entry_of (o ∷ os)) ≡ None) × (missing_entries f great os ≡ None) = neither (missing_entry f great (entry_of (o ∷ os))) (missing_entries f great os) none in
    ap₂ option_or
    (ap (missing_entry g (extent_after w great)) (entry_left w.rename (o ∷ os)) ∙ kept_entry w f g great c p there (entry_of (o ∷ os)) (λ e found. used e.0 (entry_used (o ∷ os) e found)) each.0)
    (kept_entries w f g great c p there os (λ z h. used z (or_right (is_use_of z o) (list_any (is_use_of z) os) h)) each.1)

-- ══ What is made ══

-- where the root stands, each register that its results are computed from is available
origin_there : (w : Rewriting) (f g : FunctionData) (great : ℕ → Extent) → IsReady w f g great → (b : ℕ) (front back : List (ℕ × InstrData)) → IsSite f b front w.root back → (x : ℕ) → IsComputedFrom f (result_of w) x → is_here great b front x ≡ true
origin_there w f g great c b front back site x from =
    let read : HasRead w f x = read_towards w f g great c (result_of w) (result_defined w f g great c) x from in
    let here : is_here great b front read.register ≡ true = use_at f great c.known b front w.root back site (pure_is_no_phi w.root.1 c.reads.pure) read.register read.used in
    ⊎_elim (λ same. subst (λ z. is_here great b front z ≡ true) same here) (λ on. origin_here f great c.known read.register x on b site.block site.found front (w.root ∷ back) site.splits here) read.rest

made_use : (w : Rewriting) (f g : FunctionData) (great : ℕ → Extent) → IsReady w f g great → (b : ℕ) (front back : List (ℕ × InstrData)) → IsSite f b front w.root back → (earlier : List (ℕ × InstrData)) (i : ℕ × InstrData) (later : List (ℕ × InstrData)) → w.made ≡ earlier ++ i ∷ later
    → (x : ℕ) → uses x i ≡ true → is_then w great b (rewritten w front ++ earlier) x ≡ true
made_use w f g great c b front back site earlier i later splits x used =
    behind_made x (origins_after w great x) ((extent_after w great x).starts b) (rewritten w front) earlier (all_before (λ p. is_plain p.1) w.made earlier (i ∷ later) splits c.plain.made)
    ∙ ⊎_elim (λ before. by_earlier before) (λ origin. by_origin origin) (c.reads.read earlier i later splits x used)
  where
    list_front : (test : ℕ × InstrData → Bool) (front back : List (ℕ × InstrData)) → list_any test front ≡ true → list_any test (front ++ back) ≡ true
    list_front test [] back h = cc
    list_front test (i ∷ front) back h =
        ⊎_elim (λ now. or_left (test i) (list_any test (front ++ back)) now) (λ later. or_right (test i) (list_any test (front ++ back)) (list_front test front back later)) (or_cases (test i) (list_any test front) h)

    here : Bool
    here = is_then w great b (rewritten w front) x

    by_earlier : list_any (defines x) earlier ≡ true → one_by_one x (origins_after w great x) here earlier ≡ true
    by_earlier before =
        made_there w f g great c x here (subst (λ l. list_any (defines x) l ≡ true) (sym splits) (list_front (defines x) earlier (i ∷ later) before)) earlier (i ∷ later) splits before

    by_origin : IsOrigin w f x → one_by_one x (origins_after w great x) here earlier ≡ true
    by_origin origin =
        let d : ℕ = result_of w in
        let result : defines d w.root ≡ true = result_defined w f g great c in
        let from : IsComputedFrom f d x = origin d result in
        let outside : IsOutside w x = origin_outside w f g great c d result x from in
        let far : reaches_root w (great x).origins ≡ false =
        takes_none (great x).origins w.root (λ e own reached. no_root_circle w f g great c d e result own (computed_on f d x e from ((c.known.greatest x).alone e reached))) in
        let there : here ≡ true =
        still_here w f g great c x (outside_kept w x outside) b site.block site.found front (w.root ∷ back) site.splits (origin_there w f g great c b front back site x from) in
        stays_through w great x here outside.not_among far there earlier (i ∷ later) splits

made_operands : (w : Rewriting) (f g : FunctionData) (great : ℕ → Extent) → IsReady w f g great → (b : ℕ) (before after : List (ℕ × InstrData)) (i : ℕ × InstrData) → (os : List Operand) → list_all is_plain_operand os ≡ true
    → ((x : ℕ) → list_any (is_use_of x) os ≡ true → is_then w great b before x ≡ true) → list_all (is_there g (extent_after w great) (site_of b before i after)) os ≡ true
made_operands w f g great c b before after i [] all there = refl
made_operands w f g great c b before after i (o ∷ os) all there =
    let each : (is_plain_operand o ≡ true) × (list_all is_plain_operand os ≡ true) = and_parts (is_plain_operand o) (list_all is_plain_operand os) all in
    and_from (is_there g (extent_after w great) (site_of b before i after) o) (list_all (is_there g (extent_after w great) (site_of b before i after)) os)
    (by o each.0 (λ x h. there x (or_left (is_use_of x o) (list_any (is_use_of x) os) h)))
    (made_operands w f g great c b before after i os each.1 (λ x h. there x (or_right (is_use_of x o) (list_any (is_use_of x) os) h)))
  where
    always : (n : ℕ) → ((n == 0) || (n == 2)) ≡ true → is_physical_there g b before n ≡ true
    always n h = or_left (is_physical_at_start g b n) _ (or_left ((n == 0) || (n == 2)) _ h)

    by : (o : Operand) → is_plain_operand o ≡ true → ((x : ℕ) → is_use_of x o ≡ true → is_then w great b before x ≡ true) → is_there g (extent_after w great) (site_of b before i after) o ≡ true
    by (operand.Use x) one there = there x.0 (eq-eqb x.0 x.0 refl)
    by (operand.Phys n) one there = always n one
    by (operand.ImplicitUse n) one there = cc
    by (_) one there = refl

-- ══ All ══

pub registers_available : (w : Rewriting) (f g : FunctionData) (great : ℕ → Extent) → IsReady w f g great → told (not_available g (extent_after w great)) (sites g) ≡ []
registers_available w f g great c = nothing_new w f g c.account.is (not_available f great) (not_available g (extent_after w great)) (record { kept = kept; made = made }) c.known.available
  where
    kept : (b : ℕ) (front : List (ℕ × InstrData)) (p : ℕ × InstrData) (back : List (ℕ × InstrData)) → IsSite f b front p back → (p.0 == w.root.0) ≡ false → not_available f great (site_of b front p back) ≡ None
        → not_available g (extent_after w great) (site_of b (rewritten w front) (entry_renamed w.rename p) (rewritten w back)) ≡ None
    kept b front p back site other old = by (is_phi p.1) refl
      where
        now : Site
        now = site_of b (rewritten w front) (entry_renamed w.rename p) (rewritten w back)

        by : (t : Bool) → is_phi p.1 ≡ t → not_available g (extent_after w great) now ≡ None
        by false so = none_told g (extent_after w great) now so (kept_operands w f g great c b front p back site p.1.operands (λ z h. h) (all_there f great c.known b front p back site so))
        by true so =
            ap (λ t. cond t (missing_entries g (extent_after w great) (map (operand_renamed w.rename) p.1.operands)) (missing_use g (extent_after w great) now)) so
            ∙ kept_entries w f g great c p (site_inside f b front p back site) p.1.operands (λ z h. h)
            (sym (ap (λ t. cond t (missing_entries f great p.1.operands) (missing_use f great (site_of b front p back))) so) ∙ old)

    made : (b : ℕ) (front back : List (ℕ × InstrData)) → IsSite f b front w.root back → not_available f great (site_of b front w.root back) ≡ None
        → (earlier : List (ℕ × InstrData)) (i : ℕ × InstrData) (later : List (ℕ × InstrData)) → w.made ≡ earlier ++ i ∷ later
        → not_available g (extent_after w great) (site_of b (rewritten w front ++ earlier) i (later ++ rewritten w back)) ≡ None
    made b front back site old earlier i later splits =
        let one : Plain i.1 = made_plain w c.plain earlier i later splits in
        none_told g (extent_after w great) (site_of b (rewritten w front ++ earlier) i (later ++ rewritten w back)) one.no_phi
        (made_operands w f g great c b (rewritten w front ++ earlier) (later ++ rewritten w back) i i.1.operands one.operands (λ x used. made_use w f g great c b front back site earlier i later splits x used))
