-- The sets after a rewriting hold all that a register is computed from.
use Rattle.std.proofs.Common.{◌≡◌, ℕ, zero, suc, Bool, true, false, cond, not, ◌&&◌, ◌||◌, ◌==◌, List, [], ◌∷◌, ◌++◌, Option, Some, None, map, ◌⊎◌, inl, inr, ⊎_elim, refl, sym, ap, ap₂, ◌∙◌, subst}
use Rattle.std.proofs.lemmas.Bool.{or_cases, or_left, or_right, and_parts, and_from, eqb-true, eq-eqb, not-false}
use Rattle.std.specs.List.{list_any}
use Rattle.gi_mir.specs.Data.{InstrData, FunctionData}
use Rattle.gi_mir.specs.Edit.{all_instrs, is_use_of, defines, uses}
use Rattle.gi_mir.specs.Formed.{is_def, is_physical, is_physical_def, is_implicit_def}
use Rattle.gi_mir.specs.Row.{access_of, is_call_op, is_phi_op}
use Rattle.gi_mir.specs.declared.operand.Operand.{Operand}
use Rattle.gi_mir.specs.declared.operand.Operand.TheVariants as operand
use Rattle.gi_replace.specs.InPlace.{operand_renamed, entry_renamed}
use Rattle.gi_valid.specs.Available.{Extent}
use Rattle.gi_valid.specs.Definitions.{is_load, is_copy, is_pure, definition, uses_purely, IsComputedOver, IsComputedFrom}
use Rattle.gi_change_valid.specs.Conditions.{is_replaced, IsOrigin}
use Rattle.gi_change_valid.specs.Rewriting.{Rewriting, standing_for, rewritten, IsOneOf}
use Rattle.gi_change_valid.proofs.Circles.{is_definition, computed_on, split_one, one_of_either}
use Rattle.gi_change_valid.proofs.Listed.{instrs_after, any_left, defines_left}
use Rattle.gi_change_valid.proofs.Origins.{IsReady, result_of, result_defined, same_origins, no_root_circle, is_made, comes_earlier, earlier_on, is_earlier, not_before, IsOutside, origin_outside, reaches_root, origins_after, of_other, of_other_made, of_made, of_made_other}
use Rattle.gi_change_valid.proofs.Staying.{TakesWith, takes_with, takes_origin}
use Rattle.gi_change_valid.proofs.Typed.{found_there, not_root, not_made, not_new_defined, not_new_used}

-- ══ Where an instruction comes from ══

pub record IsRenamed (w : Rewriting) (is : List (ℕ × InstrData)) (e : ℕ × InstrData) : Type 0 where
  pub old : ℕ × InstrData
  pub inside : IsOneOf old is
  pub other : (old.0 == w.root.0) ≡ false
  pub now : e ≡ entry_renamed w.rename old

one_for : (w : Rewriting) (p : ℕ × InstrData) (is : List (ℕ × InstrData)) (e : ℕ × InstrData) → IsOneOf e (standing_for w p) → IsRenamed w (p ∷ is) e ⊎ IsOneOf e w.made
one_for w p is e there = by (p.0 == w.root.0) refl there
  where
    by : (t : Bool) → (p.0 == w.root.0) ≡ t → IsOneOf e (cond t w.made (entry_renamed w.rename p ∷ [])) → IsRenamed w (p ∷ is) e ⊎ IsOneOf e w.made
    by true so there = inr there
    by false so there = ⊎_elim (λ same. inl (record { old = p; inside = inl refl; other = so; now = same })) (λ none. absurd none) there

pub one_from : (w : Rewriting) (is : List (ℕ × InstrData)) (e : ℕ × InstrData) → IsOneOf e (rewritten w is) → IsRenamed w is e ⊎ IsOneOf e w.made
one_from w [] e there = absurd there
one_from w (p ∷ is) e there =
    ⊎_elim (λ here. one_for w p is e here)
    (λ later. ⊎_elim (λ one. inl (record { old = one.old; inside = inr one.inside; other = one.other; now = one.now })) (λ made. inr made) (one_from w is e later))
    (one_of_either e (standing_for w p) (rewritten w is) there)

-- ══ What renaming leaves of pure instructions ══

def_left : (rename : ℕ → ℕ) (o : Operand) → is_def (operand_renamed rename o) ≡ is_def o
def_left rename (operand.Use q) = refl
def_left rename (_) = refl

physical_left : (rename : ℕ → ℕ) (o : Operand) → is_physical (operand_renamed rename o) ≡ is_physical o
physical_left rename (operand.Use q) = refl
physical_left rename (_) = refl

physical_def_left : (rename : ℕ → ℕ) (o : Operand) → is_physical_def (operand_renamed rename o) ≡ is_physical_def o
physical_def_left rename (operand.Use q) = refl
physical_def_left rename (_) = refl

implicit_def_left : (rename : ℕ → ℕ) (o : Operand) → is_implicit_def (operand_renamed rename o) ≡ is_implicit_def o
implicit_def_left rename (operand.Use q) = refl
implicit_def_left rename (_) = refl

pure_left : (rename : ℕ → ℕ) (p : ℕ × InstrData) → is_pure (entry_renamed rename p).1 ≡ is_pure p.1
pure_left rename p =
    let os : List Operand = p.1.operands in
    let d : list_any is_def (map (operand_renamed rename) os) ≡ list_any is_def os = any_left is_def rename (def_left rename) os in
    let e : list_any is_physical_def (map (operand_renamed rename) os) ≡ list_any is_physical_def os = any_left is_physical_def rename (physical_def_left rename) os in
    let i : list_any is_implicit_def (map (operand_renamed rename) os) ≡ list_any is_implicit_def os = any_left is_implicit_def rename (implicit_def_left rename) os in
    let c : list_any is_physical (map (operand_renamed rename) os) ≡ list_any is_physical os = any_left is_physical rename (physical_left rename) os in
    ap₂ (λ t s. (t && not (is_load (access_of p.1.op)) && not (is_phi_op p.1.op)) && not (is_copy p.1.op && s))
    (ap₂ (λ t s. (t && not s) && not (is_call_op p.1.op)) d (ap₂ (λ t s. t || s) e i)) c

-- a renamed use is of a register that is used
pub record IsUsedAs (w : Rewriting) (os : List Operand) (x : ℕ) : Type 0 where
  pub register : ℕ
  pub used : list_any (is_use_of register) os ≡ true
  pub now : w.rename register ≡ x

pub used_as : (w : Rewriting) (os : List Operand) (x : ℕ) → list_any (is_use_of x) (map (operand_renamed w.rename) os) ≡ true → IsUsedAs w os x
used_as w [] x h = cc
used_as w (operand.Use q ∷ os) x h =
    ⊎_elim (λ here. record { register = q.0; used = or_left (q.0 == q.0) (list_any (is_use_of q.0) os) (eq-eqb q.0 q.0 refl); now = eqb-true (w.rename q.0) x here })
    (λ later. let rest : IsUsedAs w os x = used_as w os x later in record { register = rest.register; used = or_right (q.0 == rest.register) (list_any (is_use_of rest.register) os) rest.used; now = rest.now })
    (or_cases (w.rename q.0 == x) (list_any (is_use_of x) (map (operand_renamed w.rename) os)) h)
used_as w (_ ∷ os) x h = let rest : IsUsedAs w os x = used_as w os x h in record { register = rest.register; used = rest.used; now = rest.now }

-- ══ One step ══

pub made_or_else : (w : Rewriting) (r : ℕ) → (is_made w r ≡ true) ⊎ (is_made w r ≡ false)
made_or_else w r = by (is_made w r) refl
  where
    by : (t : Bool) → is_made w r ≡ t → (is_made w r ≡ true) ⊎ (is_made w r ≡ false)
    by true so = inl so
    by false so = inr so

pub any_one : (test : ℕ × InstrData → Bool) (e : ℕ × InstrData) (is : List (ℕ × InstrData)) → IsOneOf e is → test e ≡ true → list_any test is ≡ true
any_one test e [] there h = absurd there
any_one test e (q ∷ is) there h =
    ⊎_elim (λ same. or_left (test q) (list_any test is) (subst (λ k. test k ≡ true) same h)) (λ later. or_right (test q) (list_any test is) (any_one test e is later h)) there

-- a register that a kept instruction uses and that is made is a result of the root
pub made_result : (w : Rewriting) (f g : FunctionData) (great : ℕ → Extent) → IsReady w f g great → (p : ℕ × InstrData) → IsOneOf p (all_instrs f.blocks) → (z : ℕ) → uses z p ≡ true → is_made w z ≡ true → defines z w.root ≡ true
made_result w f g great c p there z used made = ⊎_elim (λ own. own) (λ new. absurd (not_new_used f p there z used new)) (c.account.anew.own z made)

pub kept_made : (w : Rewriting) (f g : FunctionData) (great : ℕ → Extent) → IsReady w f g great → (p : ℕ × InstrData) → IsOneOf p (all_instrs f.blocks) → (p.0 == w.root.0) ≡ false → (r : ℕ) → defines r p ≡ true → is_made w r ≡ false
kept_made w f g great c p there other r own =
    not_made w f g c.account r (not_root w f g c.account p there other r own) (not_new_defined f p there r own)

step_kept : (w : Rewriting) (f g : FunctionData) (great : ℕ → Extent) → IsReady w f g great → (r x : ℕ) (e : ℕ × InstrData) → IsRenamed w (all_instrs f.blocks) e → defines r e ≡ true → is_pure e.1 ≡ true → uses x e ≡ true → origins_after w great r x ≡ true
step_kept w f g great c r x e one own pure used =
    let p : ℕ × InstrData = one.old in
    let defined : defines r p ≡ true = sym (defines_left r w.rename p) ∙ subst (λ k. defines r k ≡ true) one.now own in
    let is_pure_too : is_pure p.1 ≡ true = sym (pure_left w.rename p) ∙ subst (λ (k : ℕ × InstrData). is_pure k.1 ≡ true) one.now pure in
    let used_here : IsUsedAs w p.1.operands x = used_as w p.1.operands x (subst (λ k. uses x k ≡ true) one.now used) in
    let z : ℕ = used_here.register in
    let purely : uses_purely (definition f r) z ≡ true = ap (λ o. uses_purely o z) (is_definition f c.account.once r p one.inside defined) ∙ and_from (is_pure p.1) (uses z p) is_pure_too used_here.used in
    let direct : IsComputedFrom f r z = record { others = 0; over = purely } in
    let no_r : is_made w r ≡ false = kept_made w f g great c p one.inside one.other r defined in
    by z direct used_here.used used_here.now no_r (is_replaced w z) refl
  where
    by : (z : ℕ) → IsComputedFrom f r z → uses z one.old ≡ true → w.rename z ≡ x → is_made w r ≡ false → (t : Bool) → is_replaced w z ≡ t → origins_after w great r x ≡ true
    by z direct used now no_r true so =
        let origin : IsComputedFrom f z (w.rename z) = c.account.results.origins z so in
        let outside : IsOutside w (w.rename z) = origin_outside w f g great c z (c.account.results.results z so) (w.rename z) origin in
        subst (λ y. origins_after w great r y ≡ true) now
        (of_other w great r (w.rename z) no_r outside.not_among ∙ (c.known.greatest r).contained.computed (w.rename z) (computed_on f r z (w.rename z) direct origin))
    by z direct used now no_r false so =
        let same : z ≡ x = sym (eqb-true (w.rename z) z (not-false (w.rename z == z) so)) ∙ now in
        let origin : (great r).origins z ≡ true = (c.known.greatest r).contained.computed z direct in
        subst (λ y. origins_after w great r y ≡ true) same
        (⊎_elim
        (λ made. of_other_made w great r z no_r made ∙ takes_origin (great r).origins z w.root (made_result w f g great c one.old one.inside z used made) origin)
        (λ not_made. of_other w great r z no_r not_made ∙ origin) (made_or_else w z))

step_made : (w : Rewriting) (f g : FunctionData) (great : ℕ → Extent) → IsReady w f g great → (r x : ℕ) (e : ℕ × InstrData) → IsOneOf e w.made → defines r e ≡ true → uses x e ≡ true → origins_after w great r x ≡ true
step_made w f g great c r x e there own used =
    let (earlier, later, splits) = split_one e w.made there in
    ⊎_elim (λ before. by_earlier earlier later splits before) (λ origin. by_origin origin) (c.reads.read earlier e later splits x used)
  where
    made_r : is_made w r ≡ true
    made_r = any_one (defines r) e w.made there own

    list_front : (test : ℕ × InstrData → Bool) (front back : List (ℕ × InstrData)) → list_any test front ≡ true → list_any test (front ++ back) ≡ true
    list_front test [] back h = cc
    list_front test (i ∷ front) back h =
        ⊎_elim (λ now. or_left (test i) (list_any test (front ++ back)) now) (λ later. or_right (test i) (list_any test (front ++ back)) (list_front test front back later)) (or_cases (test i) (list_any test front) h)

    by_earlier : (earlier later : List (ℕ × InstrData)) → w.made ≡ earlier ++ e ∷ later → list_any (defines x) earlier ≡ true → origins_after w great r x ≡ true
    by_earlier earlier later splits before =
        let made_x : is_made w x ≡ true = subst (λ l. list_any (defines x) l ≡ true) (sym splits) (list_front (defines x) earlier (e ∷ later) before) in
        of_made w great r x made_r made_x
        ∙ subst (λ l. comes_earlier l x r ≡ true) (sym splits) (is_earlier earlier e later x r before (not_before w f c.account.anew earlier e later splits r own))

    by_origin : IsOrigin w f x → origins_after w great r x ≡ true
    by_origin origin =
        let d : ℕ = result_of w in
        let result : defines d w.root ≡ true = result_defined w f g great c in
        let from : IsComputedFrom f d x = origin d result in
        of_made_other w great r x made_r (origin_outside w f g great c d result x from).not_among ∙ (c.known.greatest d).contained.computed x from

pub step_origin : (w : Rewriting) (f g : FunctionData) (great : ℕ → Extent) → IsReady w f g great → (r x : ℕ) → uses_purely (definition g r) x ≡ true → origins_after w great r x ≡ true
step_origin w f g great c r x purely = by (definition g r) refl purely
  where
    by : (found : Option (ℕ × InstrData)) → definition g r ≡ found → uses_purely found x ≡ true → origins_after w great r x ≡ true
    by None so h = cc
    by (Some e) so h =
        let own : IsOneOf e (all_instrs g.blocks) × (defines r e ≡ true) = found_there (defines r) (all_instrs g.blocks) e so in
        let both : (is_pure e.1 ≡ true) × (uses x e ≡ true) = and_parts (is_pure e.1) (uses x e) h in
        ⊎_elim (λ kept. step_kept w f g great c r x e kept own.1 both.0 both.1) (λ made. step_made w f g great c r x e made own.1 both.1)
        (one_from w (all_instrs f.blocks) e (subst (λ l. IsOneOf e l) (instrs_after w f g c.account.is) own.0))

-- ══ Over others ══

pub origins_on : (w : Rewriting) (f g : FunctionData) (great : ℕ → Extent) → IsReady w f g great → (r z x : ℕ) → origins_after w great r z ≡ true → origins_after w great z x ≡ true → origins_after w great r x ≡ true
origins_on w f g great c r z x h l =
    ⊎_elim (λ mr. ⊎_elim (λ mz. both_made mr mz) (λ nz. r_made mr nz) (made_or_else w z)) (λ nr. ⊎_elim (λ mz. z_made nr mz) (λ nz. none_made nr nz) (made_or_else w z)) (made_or_else w r)
  where
    d : ℕ
    d = result_of w

    result : defines (result_of w) w.root ≡ true
    result = result_defined w f g great c

    alone : (q y : ℕ) → (great q).origins y ≡ true → IsComputedFrom f q y
    alone q y origin = (c.known.greatest q).alone y origin

    computed : (q y : ℕ) → IsComputedFrom f q y → (great q).origins y ≡ true
    computed q y from = (c.known.greatest q).contained.computed y from

    none_made : is_made w r ≡ false → is_made w z ≡ false → origins_after w great r x ≡ true
    none_made nr nz =
        let rz : IsComputedFrom f r z = alone r z (sym (of_other w great r z nr nz) ∙ h) in
        ⊎_elim
        (λ mx.
        let one : TakesWith (great z).origins w.root = takes_with (great z).origins w.root (sym (of_other_made w great z x nz mx) ∙ l) in
        of_other_made w great r x nr mx ∙ takes_origin (great r).origins one.register w.root one.defined (computed r one.register (computed_on f r z one.register rz (alone z one.register one.origin))))
        (λ nx. of_other w great r x nr nx ∙ computed r x (computed_on f r z x rz (alone z x (sym (of_other w great z x nz nx) ∙ l)))) (made_or_else w x)

    z_made : is_made w r ≡ false → is_made w z ≡ true → origins_after w great r x ≡ true
    z_made nr mz =
        let reaches : reaches_root w (great r).origins ≡ true = sym (of_other_made w great r z nr mz) ∙ h in
        let one : TakesWith (great r).origins w.root = takes_with (great r).origins w.root reaches in
        ⊎_elim (λ mx. of_other_made w great r x nr mx ∙ reaches)
        (λ nx.
        let from : IsComputedFrom f one.register x = same_origins w f g great c (result_of w) one.register result one.defined x (alone (result_of w) x (sym (of_made_other w great z x mz nx) ∙ l)) in
        of_other w great r x nr nx ∙ computed r x (computed_on f r one.register x (alone r one.register one.origin) from)) (made_or_else w x)

    r_made : is_made w r ≡ true → is_made w z ≡ false → origins_after w great r x ≡ true
    r_made mr nz =
        let dz : IsComputedFrom f (result_of w) z = alone (result_of w) z (sym (of_made_other w great r z mr nz) ∙ h) in
        ⊎_elim
        (λ mx.
        let one : TakesWith (great z).origins w.root = takes_with (great z).origins w.root (sym (of_other_made w great z x nz mx) ∙ l) in
        absurd (no_root_circle w f g great c (result_of w) one.register result one.defined (computed_on f (result_of w) z one.register dz (alone z one.register one.origin))))
        (λ nx. of_made_other w great r x mr nx ∙ computed (result_of w) x (computed_on f (result_of w) z x dz (alone z x (sym (of_other w great z x nz nx) ∙ l)))) (made_or_else w x)

    both_made : is_made w r ≡ true → is_made w z ≡ true → origins_after w great r x ≡ true
    both_made mr mz =
        ⊎_elim (λ mx. of_made w great r x mr mx ∙ earlier_on w.made x z r (sym (of_made w great z x mz mx) ∙ l) (sym (of_made w great r z mr mz) ∙ h))
        (λ nx. of_made_other w great r x mr nx ∙ sym (of_made_other w great z x mz nx) ∙ l) (made_or_else w x)

over_origin : (w : Rewriting) (f g : FunctionData) (great : ℕ → Extent) → IsReady w f g great → (n r x : ℕ) → IsComputedOver n g r x → origins_after w great r x ≡ true
over_origin w f g great c zero r x h = step_origin w f g great c r x h
over_origin w f g great c (suc n) r x h = origins_on w f g great c r h.0 x (step_origin w f g great c r h.0 h.1) (over_origin w f g great c n h.0 x h.2)

-- all that a register is computed from is among its origins
pub computed_after : (w : Rewriting) (f g : FunctionData) (great : ℕ → Extent) → IsReady w f g great → (r x : ℕ) → IsComputedFrom g r x → origins_after w great r x ≡ true
computed_after w f g great c r x h = over_origin w f g great c h.others r x h.over
