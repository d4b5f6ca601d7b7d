-- A register behind one more instruction of a block.
use Rattle.std.proofs.Common.{◌≡◌, ℕ, Bool, true, false, cond, not, ◌&&◌, ◌||◌, List, [], ◌∷◌, ◌++◌, ◌⊎◌, inl, inr, ⊎_elim, refl, sym, ap, ap₂, ◌∙◌, append-nil}
use Rattle.std.proofs.lemmas.Bool.{or_left, or_right, and_parts, and_from}
use Rattle.std.proofs.lemmas.List.Folds.{list_any-append, list_all-append}
use Rattle.std.specs.List.{list_any, list_all}
use Rattle.gi_mir.specs.Data.{InstrData}
use Rattle.gi_mir.specs.Edit.{defines}
use Rattle.gi_meaning.specs.Runs.{is_phi, phis_of, after_phis}
use Rattle.gi_valid.specs.Available.{defines_origin, at_once, one_by_one, behind}

-- ══ Phis first ══

abbrev pub are_phis : List (ℕ × InstrData) → Bool
are_phis is = list_all (λ p. is_phi p.1) is

phis_then : (xs ys : List (ℕ × InstrData)) → are_phis xs ≡ true → (phis_of (xs ++ ys) ≡ xs ++ phis_of ys) × (after_phis (xs ++ ys) ≡ after_phis ys)
phis_then [] ys all = (refl, refl)
phis_then (x ∷ xs) ys all =
    let each : (is_phi x.1 ≡ true) × (are_phis xs ≡ true) = and_parts (is_phi x.1) (are_phis xs) all in
    let rest : (phis_of (xs ++ ys) ≡ xs ++ phis_of ys) × (after_phis (xs ++ ys) ≡ after_phis ys) = phis_then xs ys each.1 in
    (ap (λ t. cond t (x ∷ phis_of (xs ++ ys)) []) each.0 ∙ ap (λ l. x ∷ l) rest.0, ap (λ t. cond t (after_phis (xs ++ ys)) (x ∷ (xs ++ ys))) each.0 ∙ rest.1)

others_then : (xs ys : List (ℕ × InstrData)) → are_phis xs ≡ false → (phis_of (xs ++ ys) ≡ phis_of xs) × (after_phis (xs ++ ys) ≡ after_phis xs ++ ys)
others_then [] ys some = cc
others_then (x ∷ xs) ys some = by (is_phi x.1) refl some (λ l. others_then xs ys l)
  where
    by : (t : Bool) → is_phi x.1 ≡ t → (t && are_phis xs) ≡ false → (are_phis xs ≡ false → (phis_of (xs ++ ys) ≡ phis_of xs) × (after_phis (xs ++ ys) ≡ after_phis xs ++ ys))
        → (cond t (x ∷ phis_of (xs ++ ys)) [] ≡ cond t (x ∷ phis_of xs) []) × (cond t (after_phis (xs ++ ys)) (x ∷ (xs ++ ys)) ≡ cond t (after_phis xs) (x ∷ xs) ++ ys)
    by true so some rest = let later : (phis_of (xs ++ ys) ≡ phis_of xs) × (after_phis (xs ++ ys) ≡ after_phis xs ++ ys) = rest some in (ap (λ l. x ∷ l) later.0, later.1)
    by false so some rest = (refl, refl)

-- behind phis alone
pub behind_phis : (r : ℕ) (origins : ℕ → Bool) (here : Bool) (is : List (ℕ × InstrData)) → are_phis is ≡ true → behind r origins here is ≡ at_once r origins here is
behind_phis r origins here is all =
    let both : (phis_of (is ++ []) ≡ is ++ []) × (after_phis (is ++ []) ≡ []) = phis_then is [] all in
    let none : is ++ [] ≡ is = append-nil is in
    ap₂ (λ ps os. one_by_one r origins (at_once r origins here ps) os) (ap phis_of (sym none) ∙ both.0 ∙ none) (ap after_phis (sym none) ∙ both.1)

pub one_by_one_append : (r : ℕ) (origins : ℕ → Bool) (here : Bool) (xs ys : List (ℕ × InstrData)) → one_by_one r origins here (xs ++ ys) ≡ one_by_one r origins (one_by_one r origins here xs) ys
one_by_one_append r origins here [] ys = refl
one_by_one_append r origins here (x ∷ xs) ys = one_by_one_append r origins (at_once r origins here (x ∷ [])) xs ys

-- behind one that is no phi, and what follows it
pub behind_other : (r : ℕ) (origins : ℕ → Bool) (here : Bool) (front : List (ℕ × InstrData)) (i : ℕ × InstrData) (rest : List (ℕ × InstrData)) → is_phi i.1 ≡ false
    → behind r origins here (front ++ i ∷ rest) ≡ one_by_one r origins (behind r origins here front) (i ∷ rest)
behind_other r origins here front i rest other = by (are_phis front) refl
  where
    none : phis_of (i ∷ rest) ≡ []
    none = ap (λ t. cond t (i ∷ phis_of rest) []) other

    all : after_phis (i ∷ rest) ≡ i ∷ rest
    all = ap (λ t. cond t (after_phis rest) (i ∷ rest)) other

    by : (t : Bool) → are_phis front ≡ t → behind r origins here (front ++ i ∷ rest) ≡ one_by_one r origins (behind r origins here front) (i ∷ rest)
    by true so =
        let both : (phis_of (front ++ i ∷ rest) ≡ front ++ phis_of (i ∷ rest)) × (after_phis (front ++ i ∷ rest) ≡ after_phis (i ∷ rest)) = phis_then front (i ∷ rest) so in
        ap₂ (λ ps os. one_by_one r origins (at_once r origins here ps) os) (both.0 ∙ ap (λ l. front ++ l) none ∙ append-nil front) (both.1 ∙ all)
        ∙ ap (λ t. one_by_one r origins t (i ∷ rest)) (sym (behind_phis r origins here front so))
    by false so =
        let both : (phis_of (front ++ i ∷ rest) ≡ phis_of front) × (after_phis (front ++ i ∷ rest) ≡ after_phis front ++ i ∷ rest) = others_then front (i ∷ rest) so in
        ap₂ (λ ps os. one_by_one r origins (at_once r origins here ps) os) both.0 both.1
        ∙ one_by_one_append r origins (at_once r origins here (phis_of front)) (after_phis front) (i ∷ rest)

-- ══ One more ══

-- how a register came to be available behind an instruction
pub data CameBy (r : ℕ) (origins : ℕ → Bool) (here : Bool) (front : List (ℕ × InstrData)) (i : ℕ × InstrData) : Type 0 where
  ByDefinition : defines r i ≡ true → CameBy r origins here front i
  ByStaying : behind r origins here front ≡ true → defines_origin origins i ≡ false → CameBy r origins here front i
  ByPhi : is_phi i.1 ≡ true → list_any (defines r) front ≡ true → are_phis front ≡ true → behind r origins here front ≡ true → CameBy r origins here front i

abbrev at_one : (r : ℕ) (origins : ℕ → Bool) (here : Bool) (i : ℕ × InstrData) → Bool
at_one r origins here i = at_once r origins here (i ∷ [])

came_one : (r : ℕ) (origins : ℕ → Bool) (here : Bool) (i : ℕ × InstrData) → at_one r origins here i ≡ true → (defines r i ≡ true) ⊎ ((here ≡ true) × (defines_origin origins i ≡ false))
came_one r origins here i h = by (defines r i) here (defines_origin origins i) h
  where
    by : (d k o : Bool) → ((d || false) || (k && not (o || false))) ≡ true → (d ≡ true) ⊎ ((k ≡ true) × (o ≡ false))
    by true k o h = inl refl
    by false true false h = inr (refl, refl)
    by false true true h = cc
    by false false o h = cc

pub came_by : (r : ℕ) (origins : ℕ → Bool) (here : Bool) (front : List (ℕ × InstrData)) (i : ℕ × InstrData) → (is_phi i.1 ≡ true → are_phis front ≡ true) → behind r origins here (front ++ i ∷ []) ≡ true → CameBy r origins here front i
came_by r origins here front i first h = by (is_phi i.1) refl
  where
    spread : (d e k o p : Bool) → ((d || (e || false)) || (k && not (o || (p || false)))) ≡ true → ((d ≡ true) ⊎ (e ≡ true)) ⊎ (((k && not o) ≡ true) × (p ≡ false))
    spread true e k o p h = inl (inl refl)
    spread false true k o p h = inl (inr refl)
    spread false false true false false h = inr (refl, refl)
    spread false false true false true h = cc
    spread false false true true p h = cc
    spread false false false o p h = cc

    D : Bool
    D = list_any (defines r) front

    O : Bool
    O = list_any (defines_origin origins) front

    by : (t : Bool) → is_phi i.1 ≡ t → CameBy r origins here front i
    by false so = ⊎_elim (λ d. ByDefinition d) (λ k. ByStaying k.0 k.1) (came_one r origins (behind r origins here front) i (sym (behind_other r origins here front i [] so) ∙ h))
    by true so =
        let all : are_phis front ≡ true = first so in
        let more : are_phis (front ++ i ∷ []) ≡ true = list_all-append (λ p. is_phi p.1) front (i ∷ []) ∙ and_from (are_phis front) (is_phi i.1 && true) all (and_from (is_phi i.1) true so refl) in
        let now : at_once r origins here (front ++ i ∷ []) ≡ true = sym (behind_phis r origins here (front ++ i ∷ []) more) ∙ h in
        let parts : ((D || (defines r i || false)) || (here && not (O || (defines_origin origins i || false)))) ≡ true =
        sym (ap₂ (λ a b. a || (here && not b)) (list_any-append (defines r) front (i ∷ [])) (list_any-append (defines_origin origins) front (i ∷ []))) ∙ now in
        ⊎_elim
        (λ defined. ⊎_elim (λ d. ByPhi so d all (behind_phis r origins here front all ∙ or_left D (here && not O) d)) (λ d. ByDefinition d) defined)
        (λ kept. ByStaying (behind_phis r origins here front all ∙ or_right D (here && not O) kept.0) kept.1)
        (spread D (defines r i) here O (defines_origin origins i) parts)

pub stays_behind : (r : ℕ) (origins : ℕ → Bool) (here : Bool) (front : List (ℕ × InstrData)) (i : ℕ × InstrData) → (is_phi i.1 ≡ true → are_phis front ≡ true) → behind r origins here front ≡ true → defines_origin origins i ≡ false
    → behind r origins here (front ++ i ∷ []) ≡ true
stays_behind r origins here front i first there none = by (is_phi i.1) refl
  where
    one : (d k o : Bool) → k ≡ true → o ≡ false → ((d || false) || (k && not (o || false))) ≡ true
    one true k o there none = refl
    one false true false there none = refl
    one false true true there none = cc
    one false false o there none = cc

    more : (d e k o p : Bool) → (d || (k && not o)) ≡ true → p ≡ false → ((d || (e || false)) || (k && not (o || (p || false)))) ≡ true
    more true e k o p there none = refl
    more false true k o p there none = refl
    more false false true false false there none = refl
    more false false true false true there none = cc
    more false false true true p there none = cc
    more false false false o p there none = cc

    by : (t : Bool) → is_phi i.1 ≡ t → behind r origins here (front ++ i ∷ []) ≡ true
    by false so = behind_other r origins here front i [] so ∙ one (defines r i) (behind r origins here front) (defines_origin origins i) there none
    by true so =
        let all : are_phis front ≡ true = first so in
        let both : are_phis (front ++ i ∷ []) ≡ true = list_all-append (λ p. is_phi p.1) front (i ∷ []) ∙ and_from (are_phis front) (is_phi i.1 && true) all (and_from (is_phi i.1) true so refl) in
        behind_phis r origins here (front ++ i ∷ []) both
        ∙ ap₂ (λ a b. a || (here && not b)) (list_any-append (defines r) front (i ∷ [])) (list_any-append (defines_origin origins) front (i ∷ []))
        ∙ more (list_any (defines r) front) (defines r i) here (list_any (defines_origin origins) front) (defines_origin origins i) (sym (behind_phis r origins here front all) ∙ there) none

-- behind instructions it was there before, or one of them defines it
pub defined_or_there : (r : ℕ) (origins : ℕ → Bool) (here : Bool) (is : List (ℕ × InstrData)) → one_by_one r origins here is ≡ true → (list_any (defines r) is ≡ true) ⊎ (here ≡ true)
defined_or_there r origins here [] h = inr h
defined_or_there r origins here (i ∷ is) h =
    ⊎_elim (λ later. inl (or_right (defines r i) (list_any (defines r) is) later))
    (λ now. ⊎_elim (λ d. inl (or_left (defines r i) (list_any (defines r) is) d)) (λ k. inr k.0) (came_one r origins here i now))
    (defined_or_there r origins (at_one r origins here i) is h)

-- ══ Forward ══

pub defined_behind : (r : ℕ) (origins : ℕ → Bool) (here : Bool) (front : List (ℕ × InstrData)) (i : ℕ × InstrData) → (is_phi i.1 ≡ true → are_phis front ≡ true) → defines r i ≡ true → behind r origins here (front ++ i ∷ []) ≡ true
defined_behind r origins here front i first own = by (is_phi i.1) refl
  where
    by : (t : Bool) → is_phi i.1 ≡ t → behind r origins here (front ++ i ∷ []) ≡ true
    by false so = behind_other r origins here front i [] so ∙ ap (λ d. (d || false) || (behind r origins here front && not (defines_origin origins i || false))) own
    by true so =
        let all : are_phis front ≡ true = first so in
        let both : are_phis (front ++ i ∷ []) ≡ true = list_all-append (λ p. is_phi p.1) front (i ∷ []) ∙ and_from (are_phis front) (is_phi i.1 && true) all (and_from (is_phi i.1) true so refl) in
        behind_phis r origins here (front ++ i ∷ []) both
        ∙ or_left (list_any (defines r) (front ++ i ∷ [])) (here && not (list_any (defines_origin origins) (front ++ i ∷ [])))
        (list_any-append (defines r) front (i ∷ []) ∙ or_right (list_any (defines r) front) (defines r i || false) (or_left (defines r i) false own))

pub phis_behind : (r : ℕ) (origins : ℕ → Bool) (here : Bool) (front : List (ℕ × InstrData)) (i : ℕ × InstrData) → is_phi i.1 ≡ true → are_phis front ≡ true → list_any (defines r) front ≡ true → behind r origins here (front ++ i ∷ []) ≡ true
phis_behind r origins here front i phi all own =
    let both : are_phis (front ++ i ∷ []) ≡ true = list_all-append (λ p. is_phi p.1) front (i ∷ []) ∙ and_from (are_phis front) (is_phi i.1 && true) all (and_from (is_phi i.1) true phi refl) in
    behind_phis r origins here (front ++ i ∷ []) both
    ∙ or_left (list_any (defines r) (front ++ i ∷ [])) (here && not (list_any (defines_origin origins) (front ++ i ∷ [])))
    (list_any-append (defines r) front (i ∷ []) ∙ or_left (list_any (defines r) front) (defines r i || false) own)

-- one more, one after the other
pub one_more_defines : (r : ℕ) (origins : ℕ → Bool) (here : Bool) (xs : List (ℕ × InstrData)) (i : ℕ × InstrData) → defines r i ≡ true → one_by_one r origins here (xs ++ i ∷ []) ≡ true
one_more_defines r origins here xs i own =
    one_by_one_append r origins here xs (i ∷ []) ∙ ap (λ d. (d || false) || (one_by_one r origins here xs && not (defines_origin origins i || false))) own

pub one_more_stays : (r : ℕ) (origins : ℕ → Bool) (here : Bool) (xs : List (ℕ × InstrData)) (i : ℕ × InstrData) → one_by_one r origins here xs ≡ true → defines_origin origins i ≡ false → one_by_one r origins here (xs ++ i ∷ []) ≡ true
one_more_stays r origins here xs i there none =
    one_by_one_append r origins here xs (i ∷ []) ∙ ap₂ (λ k o. (defines r i || false) || (k && not (o || false))) there none ∙ either (defines r i || false)
  where
    either : (d : Bool) → (d || true) ≡ true
    either true = refl
    either false = refl
