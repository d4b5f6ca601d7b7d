-- What was available stays so, and what is made finds there what it reads.
use Rattle.std.proofs.Common.{◌≡◌, ℕ, zero, suc, Bool, true, false, cond, not, ◌&&◌, ◌||◌, ◌==◌, List, [], ◌∷◌, ◌++◌, Some, slice_get, ◌⊎◌, inl, inr, ⊎_elim, refl, sym, ap, ◌∙◌, subst, true≢false, append-nil, append_assoc}
use Rattle.std.proofs.lemmas.Bool.{or_cases, or_left, or_right, and_parts}
use Rattle.std.proofs.lemmas.List.Folds.{list_any-append}
use Rattle.std.specs.List.{list_any, list_all}
use Rattle.gi_mir.specs.Data.{InstrData, BlockData, FunctionData}
use Rattle.gi_mir.specs.Edit.{all_instrs, defines}
use Rattle.gi_mir.specs.Places.{body_at}
use Rattle.gi_meaning.specs.Runs.{is_phi, is_among}
use Rattle.gi_replace.specs.InPlace.{entry_renamed}
use Rattle.gi_valid.specs.Available.{IsReachedIn, Extent, defines_origin, one_by_one, behind, at_end, IsDefinedInReach, IsExtent}
use Rattle.gi_valid.specs.Definitions.{IsComputedFrom}
use Rattle.gi_change_valid.specs.Conditions.{is_plain}
use Rattle.gi_change_valid.specs.Rewriting.{Rewriting, standing_for, rewritten, IsOneOf, IsRewritten}
use Rattle.gi_change_valid.proofs.Circles.{is_here, walk, walk_body, phis_before}
use Rattle.gi_change_valid.proofs.Computed.{made_or_else, kept_made, computed_after}
use Rattle.gi_change_valid.proofs.Faultless.{all_phis}
use Rattle.gi_change_valid.proofs.Frames.{body_after, same_successors, IsOwn, own_later, plain}
use Rattle.gi_change_valid.proofs.Listed.{rewritten_append, defines_left}
use Rattle.gi_change_valid.proofs.Origins.{IsReady, result_of, result_defined, same_origins, is_made, comes_earlier, is_not_earlier, not_before, reaches_root, origins_after, is_kept, extent_after, of_other, of_other_made, of_made, of_made_other}
use Rattle.gi_change_valid.proofs.Sites.{IsSite, site_inside, site_own}
use Rattle.gi_change_valid.proofs.Staying.{takes_origin, takes_none}
use Rattle.gi_change_valid.proofs.Stepwise.{are_phis, behind_other, CameBy, ByDefinition, ByStaying, ByPhi, came_by, stays_behind, defined_behind, phis_behind, one_more_defines, one_more_stays}

-- available in front of a place after the rewriting
abbrev pub is_then : Rewriting → (great : ℕ → Extent) → (b : ℕ) → (front : List (ℕ × InstrData)) → (r : ℕ) → Bool
is_then w great b front r = behind r (origins_after w great r) ((extent_after w great r).starts b) front

-- ══ Through what is made ══

made_walk : (made : List (ℕ × InstrData)) (Q : List (ℕ × InstrData) → Type 0) → ((ys : List (ℕ × InstrData)) (j : ℕ × InstrData) (rest : List (ℕ × InstrData)) → made ≡ ys ++ j ∷ rest → Q ys → Q (ys ++ j ∷ []))
    → (done xs rest : List (ℕ × InstrData)) → made ≡ done ++ (xs ++ rest) → Q done → Q (done ++ xs)
made_walk made Q step done [] rest splits q = subst Q (sym (append-nil done)) q
made_walk made Q step done (j ∷ xs) rest splits q =
    subst Q (append_assoc done (j ∷ []) xs) (made_walk made Q step (done ++ j ∷ []) xs rest (splits ∙ sym (append_assoc done (j ∷ []) (xs ++ rest))) (step done j (xs ++ rest) splits q))

-- of what one of these defines, all is made
defined_made : (w : Rewriting) (ys : List (ℕ × InstrData)) (j : ℕ × InstrData) (rest : List (ℕ × InstrData)) → w.made ≡ ys ++ j ∷ rest → (x : ℕ) → defines x j ≡ true → is_made w x ≡ true
defined_made w ys j rest splits x own =
    subst (λ l. list_any (defines x) l ≡ true) (sym splits)
    (list_any-append (defines x) ys (j ∷ rest) ∙ or_right (list_any (defines x) ys) (defines x j || list_any (defines x) rest) (or_left (defines x j) (list_any (defines x) rest) own))

-- a register that isn't made stays, if no result of the root is among those that it is taken away with
pub stays_through : (w : Rewriting) (great : ℕ → Extent) (r : ℕ) (here : Bool) → is_made w r ≡ false → reaches_root w (great r).origins ≡ false → here ≡ true → (xs rest : List (ℕ × InstrData)) → w.made ≡ xs ++ rest
    → one_by_one r (origins_after w great r) here xs ≡ true
stays_through w great r here not_made far there xs rest splits =
    made_walk w.made (λ ys. one_by_one r (origins_after w great r) here ys ≡ true)
    (λ ys j more split so. one_more_stays r (origins_after w great r) here ys j so
    (takes_none (origins_after w great r) j (λ x own origin. true≢false (sym origin ∙ of_other_made w great r x not_made (defined_made w ys j more split x own) ∙ far))))
    [] xs rest splits there

-- one that is made is there from its definition on
pub made_there : (w : Rewriting) (f g : FunctionData) (great : ℕ → Extent) → IsReady w f g great → (r : ℕ) (here : Bool) → is_made w r ≡ true → (xs rest : List (ℕ × InstrData)) → w.made ≡ xs ++ rest → list_any (defines r) xs ≡ true
    → one_by_one r (origins_after w great r) here xs ≡ true
made_there w f g great c r here made xs rest splits defined = made_walk w.made Q step [] xs rest splits (λ none. absurd (true≢false (sym none))) defined
  where
    Q : List (ℕ × InstrData) → Type 0
    Q ys = list_any (defines r) ys ≡ true → one_by_one r (origins_after w great r) here ys ≡ true

    step : (ys : List (ℕ × InstrData)) (j : ℕ × InstrData) (more : List (ℕ × InstrData)) → w.made ≡ ys ++ j ∷ more → Q ys → Q (ys ++ j ∷ [])
    step ys j more split so some =
        ⊎_elim
        (λ early. one_more_stays r (origins_after w great r) here ys j (so early)
        (takes_none (origins_after w great r) j (λ x own origin.
        let not_earlier : comes_earlier w.made x r ≡ false = subst (λ l. comes_earlier l x r ≡ false) (sym split) (is_not_earlier ys j more x r early (not_before w f c.account.anew ys j more split x own)) in
        true≢false (sym origin ∙ of_made w great r x made (defined_made w ys j more split x own) ∙ not_earlier))))
        (λ now. one_more_defines r (origins_after w great r) here ys j (first (defines r j) now))
        (or_cases (list_any (defines r) ys) (defines r j || false) (sym (list_any-append (defines r) ys (j ∷ [])) ∙ some))
      where
        first : (t : Bool) → (t || false) ≡ true → t ≡ true
        first true h = refl
        first false h = cc

-- what stands behind plain instructions comes one by one
pub behind_made : (r : ℕ) (origins : ℕ → Bool) (here : Bool) (front xs : List (ℕ × InstrData)) → list_all (λ p. is_plain p.1) xs ≡ true → behind r origins here (front ++ xs) ≡ one_by_one r origins (behind r origins here front) xs
behind_made r origins here front [] all = ap (behind r origins here) (append-nil front)
behind_made r origins here front (i ∷ xs) all = behind_other r origins here front i xs (plain i.1 (and_parts (is_plain i.1) (list_all (λ p. is_plain p.1) xs) all).0).no_phi

-- ══ Through a block ══

any_defined : (w : Rewriting) (r : ℕ) → (defines r w.root ≡ true → is_made w r ≡ true) → (is : List (ℕ × InstrData)) → IsOwn w is → list_any (defines r) is ≡ true → list_any (defines r) (rewritten w is) ≡ true
any_defined w r covered [] own h = cc
any_defined w r covered (p ∷ is) own h =
    list_any-append (defines r) (standing_for w p) (rewritten w is)
    ∙ ⊎_elim (λ now. or_left (list_any (defines r) (standing_for w p)) (list_any (defines r) (rewritten w is)) (by (p.0 == w.root.0) refl now))
    (λ later. or_right (list_any (defines r) (standing_for w p)) (list_any (defines r) (rewritten w is)) (any_defined w r covered is (own_later w p is own) later)) (or_cases (defines r p) (list_any (defines r) is) h)
  where
    by : (t : Bool) → (p.0 == w.root.0) ≡ t → defines r p ≡ true → list_any (defines r) (cond (p.0 == w.root.0) w.made (entry_renamed w.rename p ∷ [])) ≡ true
    by true so now = ap (λ t. list_any (defines r) (cond t w.made (entry_renamed w.rename p ∷ []))) so ∙ covered (subst (λ q. defines r q ≡ true) (own p (inl refl) so) now)
    by false so now = ap (λ t. list_any (defines r) (cond t w.made (entry_renamed w.rename p ∷ []))) so ∙ or_left (defines r (entry_renamed w.rename p)) false (defines_left r w.rename p ∙ now)

-- of one that is kept: it is made, or no result
pub kept_covered : (w : Rewriting) (r : ℕ) → is_kept w r ≡ true → defines r w.root ≡ true → is_made w r ≡ true
kept_covered w r kept own = by (is_made w r) refl kept
  where
    by : (t : Bool) → is_made w r ≡ t → cond t (defines r w.root) (not (defines r w.root)) ≡ true → is_made w r ≡ true
    by true so h = so
    by false so h = absurd (true≢false (sym (sym (ap not own) ∙ h)))

kept_result : (w : Rewriting) (r : ℕ) → is_kept w r ≡ true → is_made w r ≡ true → defines r w.root ≡ true
kept_result w r kept made = sym (ap (λ t. cond t (defines r w.root) (not (defines r w.root))) made) ∙ kept

abbrev pub Stays : Rewriting → (great : ℕ → Extent) → (r b : ℕ) → List (ℕ × InstrData) → Type 0
Stays w great r b front = is_here great b front r ≡ true → is_then w great b (rewritten w front) r ≡ true

-- what a kept instruction takes away, it did before
same_taken : (w : Rewriting) (f g : FunctionData) (great : ℕ → Extent) → IsReady w f g great → (r : ℕ) → is_kept w r ≡ true → (i : ℕ × InstrData) → IsOneOf i (all_instrs f.blocks) → (i.0 == w.root.0) ≡ false → defines_origin (great r).origins i ≡ false
    → defines_origin (origins_after w great r) (entry_renamed w.rename i) ≡ false
same_taken w f g great c r kept i there other before =
    takes_none (origins_after w great r) (entry_renamed w.rename i) (λ x own origin.
    let defined : defines x i ≡ true = sym (defines_left x w.rename i) ∙ own in
    let not_made : is_made w x ≡ false = kept_made w f g great c i there other x defined in
    true≢false (sym (takes_origin (great r).origins x i defined (old x not_made origin)) ∙ before))
  where
    old : (x : ℕ) → is_made w x ≡ false → origins_after w great r x ≡ true → (great r).origins x ≡ true
    old x not_made origin =
        ⊎_elim
        (λ made.
        let from : IsComputedFrom f (result_of w) x = (c.known.greatest (result_of w)).alone x (sym (of_made_other w great r x made not_made) ∙ origin) in
        (c.known.greatest r).contained.computed x (same_origins w f g great c (result_of w) r (result_defined w f g great c) (kept_result w r kept made) x from))
        (λ other. sym (of_other w great r x other not_made) ∙ origin) (made_or_else w r)

stay_step : (w : Rewriting) (f g : FunctionData) (great : ℕ → Extent) → IsReady w f g great → (r : ℕ) → is_kept w r ≡ true → (b : ℕ) (front : List (ℕ × InstrData)) (i : ℕ × InstrData) (back : List (ℕ × InstrData)) → IsSite f b front i back
    → Stays w great r b front → Stays w great r b (front ++ i ∷ [])
stay_step w f g great c r kept b front i back site stays h =
    subst (λ l. is_then w great b l r ≡ true) (sym (rewritten_append w front (i ∷ []) ∙ ap (λ l. rewritten w front ++ l) (append-nil (standing_for w i))))
    (by (i.0 == w.root.0) refl (came_by r (great r).origins ((great r).starts b) front i (phis_before f c.known.entries b front i back site) h))
  where
    own : IsOwn w front
    own = (site_own w f g c.account.is b front i back site).0

    inside : IsOneOf i (all_instrs f.blocks)
    inside = site_inside f b front i back site

    starts : Bool
    starts = (extent_after w great r).starts b

    first : is_phi i.1 ≡ true → are_phis (rewritten w front) ≡ true
    first phi = all_phis w c.plain front own (phis_before f c.known.entries b front i back site phi)

    kept_one : (i.0 == w.root.0) ≡ false → CameBy r (great r).origins ((great r).starts b) front i → is_then w great b (rewritten w front ++ entry_renamed w.rename i ∷ []) r ≡ true
    kept_one other (ByDefinition defined) = defined_behind r (origins_after w great r) starts (rewritten w front) (entry_renamed w.rename i) first (defines_left r w.rename i ∙ defined)
    kept_one other (ByStaying there none) =
        stays_behind r (origins_after w great r) starts (rewritten w front) (entry_renamed w.rename i) first (stays there) (same_taken w f g great c r kept i inside other none)
    kept_one other (ByPhi phi defined phis there) =
        phis_behind r (origins_after w great r) starts (rewritten w front) (entry_renamed w.rename i) phi (all_phis w c.plain front own phis) (any_defined w r (kept_covered w r kept) front own defined)

    through : is_made w r ≡ true → one_by_one r (origins_after w great r) (is_then w great b (rewritten w front) r) w.made ≡ true
    through made = made_there w f g great c r (is_then w great b (rewritten w front) r) made w.made [] (sym (append-nil w.made)) made

    at_root : i ≡ w.root → CameBy r (great r).origins ((great r).starts b) front i → one_by_one r (origins_after w great r) (is_then w great b (rewritten w front) r) w.made ≡ true
    at_root same (ByDefinition defined) = through (kept_covered w r kept (subst (λ k. defines r k ≡ true) same defined))
    at_root same (ByStaying there none) =
        ⊎_elim through
        (λ not_made. stays_through w great r (is_then w great b (rewritten w front) r) not_made (subst (λ k. defines_origin (great r).origins k ≡ false) same none) (stays there) w.made [] (sym (append-nil w.made)))
        (made_or_else w r)
    at_root same (ByPhi phi defined phis there) = absurd (true≢false (sym phi ∙ ap (λ (k : ℕ × InstrData). is_phi k.1) same ∙ (plain w.root.1 c.plain.root).no_phi))

    by : (t : Bool) → (i.0 == w.root.0) ≡ t → CameBy r (great r).origins ((great r).starts b) front i → is_then w great b (rewritten w front ++ cond (i.0 == w.root.0) w.made (entry_renamed w.rename i ∷ [])) r ≡ true
    by false so came = ap (λ t. is_then w great b (rewritten w front ++ cond t w.made (entry_renamed w.rename i ∷ [])) r) so ∙ kept_one so came
    by true so came =
        ap (λ t. is_then w great b (rewritten w front ++ cond t w.made (entry_renamed w.rename i ∷ [])) r) so
        ∙ behind_made r (origins_after w great r) starts (rewritten w front) w.made c.plain.made ∙ at_root (c.account.is.root i inside so) came

stay_start : (w : Rewriting) (great : ℕ → Extent) (r : ℕ) → is_kept w r ≡ true → (b : ℕ) → Stays w great r b []
stay_start w great r kept b h = by (is_kept w r) ((great r).starts b) kept h
  where
    by : (k s : Bool) → k ≡ true → (false || (s && true)) ≡ true → (false || ((k && s) && true)) ≡ true
    by k true so h = ap (λ t. false || ((t && true) && true)) so
    by k false so h = cc

-- a register that is kept is available after the rewriting where it was before
pub still_here : (w : Rewriting) (f g : FunctionData) (great : ℕ → Extent) → IsReady w f g great → (r : ℕ) → is_kept w r ≡ true → (b : ℕ) (block : BlockData) → slice_get f.blocks b ≡ Some block
    → (front back : List (ℕ × InstrData)) → block.instrs ≡ front ++ back → Stays w great r b front
still_here w f g great c r kept b block found front back splits = walk f b block found (Stays w great r b) (stay_start w great r kept b) (stay_step w f g great c r kept b) front back splits

pub still_at_end : (w : Rewriting) (f g : FunctionData) (great : ℕ → Extent) → IsReady w f g great → (r : ℕ) → is_kept w r ≡ true → (b : ℕ) → at_end f r (great r) b ≡ true → at_end g r (extent_after w great r) b ≡ true
still_at_end w f g great c r kept b h =
    subst (λ (k : BlockData). is_then w great b k.instrs r ≡ true) (sym (body_after w f g c.account.is b))
    (walk_body f b (Stays w great r b) (stay_start w great r kept b) (stay_step w f g great c r kept b) h)

-- ══ The sets hold as asked ══

pub reached_before : (w : Rewriting) (f g : FunctionData) → IsRewritten w f g → (n b : ℕ) → IsReachedIn n g b → IsReachedIn n f b
reached_before w f g is zero b path = path
reached_before w f g is (suc n) b path = (path.0, reached_before w f g is n path.0 path.1, sym (ap (is_among b) (same_successors w f g is path.0)) ∙ path.2)

pub reached_after : (w : Rewriting) (f g : FunctionData) → IsRewritten w f g → (n b : ℕ) → IsReachedIn n f b → IsReachedIn n g b
reached_after w f g is zero b path = path
reached_after w f g is (suc n) b path = (path.0, reached_after w f g is n path.0 path.1, ap (is_among b) (same_successors w f g is path.0) ∙ path.2)

body_own : (w : Rewriting) (f g : FunctionData) → IsRewritten w f g → (b : ℕ) → IsOwn w (body_at f.blocks b).instrs
body_own w f g is b p there same = is.root p (in_body f.blocks b there) same
  where
    in_either : (xs ys : List (ℕ × InstrData)) → IsOneOf p xs ⊎ IsOneOf p ys → IsOneOf p (xs ++ ys)
    in_either [] ys there = ⊎_elim (λ h. absurd h) (λ h. h) there
    in_either (x ∷ xs) ys there = ⊎_elim (λ h. ⊎_elim (λ same. inl same) (λ later. inr (in_either xs ys (inl later))) h) (λ h. inr (in_either xs ys (inr h))) there

    in_body : (blocks : List BlockData) (b : ℕ) → IsOneOf p (body_at blocks b).instrs → IsOneOf p (all_instrs blocks)
    in_body [] b there = there
    in_body (k ∷ blocks) zero there = in_either k.instrs (all_instrs blocks) (inl there)
    in_body (k ∷ blocks) (suc b) there = in_either k.instrs (all_instrs blocks) (inr (in_body blocks b there))

pub extent_holds : (w : Rewriting) (f g : FunctionData) (great : ℕ → Extent) → IsReady w f g great → (r : ℕ) → IsExtent g r (extent_after w great r)
extent_holds w f g great c r = record {
  computed = λ x from. computed_after w f g great c r x from;
  first = ap (λ s. is_kept w r && s) old.first ∙ none (is_kept w r);
  joined = λ a b reached among h.
      let both : (is_kept w r ≡ true) × ((great r).starts b ≡ true) = and_parts (is_kept w r) ((great r).starts b) h in
      still_at_end w f g great c r both.0 a
      (old.joined a b (record { steps = reached.steps; path = reached_before w f g is reached.steps a reached.path }) (sym (ap (is_among b) (same_successors w f g is a)) ∙ among) both.1);
  apart = λ b unreached h.
      let both : (is_kept w r ≡ true) × ((great r).starts b ≡ true) = and_parts (is_kept w r) ((great r).starts b) h in
      let reach : IsDefinedInReach f r = old.apart b (λ reached. unreached (record { steps = reached.steps; path = reached_after w f g is reached.steps b reached.path })) both.1 in
      record {
        block = reach.block;
        reached = record { steps = reach.reached.steps; path = reached_after w f g is reach.reached.steps reach.block reach.reached.path };
        defined = subst (λ (k : BlockData). list_any (defines r) k.instrs ≡ true) (sym (body_after w f g is reach.block))
            (any_defined w r (kept_covered w r both.0) (body_at f.blocks reach.block).instrs (body_own w f g is reach.block) reach.defined);
      };
}
  where
    is : IsRewritten w f g
    is = c.account.is

    old : IsExtent f r (great r)
    old = (c.known.greatest r).contained

    none : (t : Bool) → (t && false) ≡ false
    none true = refl
    none false = refl
