-- Each site of a function after a rewriting comes from one before it.
use Rattle.std.proofs.Common.{◌≡◌, ℕ, zero, suc, ◌+◌, Bool, true, false, cond, ◌==◌, List, [], ◌∷◌, ◌++◌, Option, Some, None, map, slice_get, ◌⊎◌, inl, inr, ⊎_elim, refl, sym, ap, ap₂, ◌∙◌, subst, arith, append_assoc}
use Rattle.std.proofs.lemmas.Option.{same_Some}
use Rattle.gi_mir.specs.Data.{InstrData, BlockData, FunctionData}
use Rattle.gi_mir.specs.Edit.{all_instrs}
use Rattle.gi_replace.specs.InPlace.{entry_renamed}
use Rattle.gi_valid.specs.Faults.{with_fault, Site, sites_in, sites_from, sites, told}
use Rattle.gi_valid.specs.declared.invalid.Invalid.{Invalid}
use Rattle.gi_valid.proofs.Sited.{site_of, at_site, told_append}
use Rattle.gi_change_valid.specs.Rewriting.{Rewriting, standing_for, rewritten, block_rewritten, IsOneOf, IsRewritten}

-- ══ Where an instruction comes from ══

-- it stands for one that isn't the root
pub record IsKept (w : Rewriting) (is before : List (ℕ × InstrData)) (i : ℕ × InstrData) (after : List (ℕ × InstrData)) : Type 0 where
  pub front : List (ℕ × InstrData)
  pub old : ℕ × InstrData
  pub back : List (ℕ × InstrData)
  pub splits : is ≡ front ++ old ∷ back
  pub other : (old.0 == w.root.0) ≡ false
  pub now : i ≡ entry_renamed w.rename old
  pub front_now : before ≡ rewritten w front
  pub back_now : after ≡ rewritten w back

-- it is one of those that are made for the root
pub record IsMade (w : Rewriting) (is before : List (ℕ × InstrData)) (i : ℕ × InstrData) (after : List (ℕ × InstrData)) : Type 0 where
  pub front : List (ℕ × InstrData)
  pub old : ℕ × InstrData
  pub back : List (ℕ × InstrData)
  pub earlier : List (ℕ × InstrData)
  pub later : List (ℕ × InstrData)
  pub splits : is ≡ front ++ old ∷ back
  pub same : (old.0 == w.root.0) ≡ true
  pub made : w.made ≡ earlier ++ i ∷ later
  pub front_now : before ≡ rewritten w front ++ earlier
  pub back_now : after ≡ later ++ rewritten w back

-- one list behind another, split in two at an element
record IsInFirst (xs ys before : List (ℕ × InstrData)) (i : ℕ × InstrData) (after : List (ℕ × InstrData)) : Type 0 where
  rest : List (ℕ × InstrData)
  splits : xs ≡ before ++ i ∷ rest
  behind : after ≡ rest ++ ys

record IsInSecond (xs ys before : List (ℕ × InstrData)) (i : ℕ × InstrData) (after : List (ℕ × InstrData)) : Type 0 where
  rest : List (ℕ × InstrData)
  splits : ys ≡ rest ++ i ∷ after
  ahead : before ≡ xs ++ rest

more_first : (x b : ℕ × InstrData) (xs ys before : List (ℕ × InstrData)) (i : ℕ × InstrData) (after : List (ℕ × InstrData)) → x ≡ b → IsInFirst xs ys before i after → IsInFirst (x ∷ xs) ys (b ∷ before) i after
more_first x b xs ys before i after same first = record { rest = first.rest; splits = ap₂ (λ k l. k ∷ l) same first.splits; behind = first.behind }

more_second : (x b : ℕ × InstrData) (xs ys before : List (ℕ × InstrData)) (i : ℕ × InstrData) (after : List (ℕ × InstrData)) → x ≡ b → IsInSecond xs ys before i after → IsInSecond (x ∷ xs) ys (b ∷ before) i after
more_second x b xs ys before i after same second = record { rest = second.rest; splits = second.splits; ahead = ap₂ (λ k l. k ∷ l) (sym same) second.ahead }

in_first_or_second : (xs ys before : List (ℕ × InstrData)) (i : ℕ × InstrData) (after : List (ℕ × InstrData)) → xs ++ ys ≡ before ++ i ∷ after
    → IsInFirst xs ys before i after ⊎ IsInSecond xs ys before i after
in_first_or_second [] ys before i after h = inr (record { rest = before; splits = h; ahead = refl })
in_first_or_second (x ∷ xs) ys [] i after h =
    let same : x ≡ i = cc in let rest : xs ++ ys ≡ after = cc in
    inl (record { rest = xs; splits = ap (λ k. k ∷ xs) same; behind = sym rest })
in_first_or_second (x ∷ xs) ys (b ∷ before) i after h =
    let same : x ≡ b = cc in let rest : xs ++ ys ≡ before ++ i ∷ after = cc in
    ⊎_elim (λ first. inl (more_first x b xs ys before i after same first)) (λ second. inr (more_second x b xs ys before i after same second)) (in_first_or_second xs ys before i after rest)

-- what was found among later ones, with one more in front
kept_later : (w : Rewriting) (p : ℕ × InstrData) (is before : List (ℕ × InstrData)) (i : ℕ × InstrData) (after : List (ℕ × InstrData)) → IsKept w is before i after
    → IsKept w (p ∷ is) (standing_for w p ++ before) i after
kept_later w p is before i after k = record {
  front = p ∷ k.front;
  old = k.old;
  back = k.back;
  splits = ap (λ l. p ∷ l) k.splits;
  other = k.other;
  now = k.now;
  front_now = ap (λ l. standing_for w p ++ l) k.front_now;
  back_now = k.back_now;
}

made_later : (w : Rewriting) (p : ℕ × InstrData) (is before : List (ℕ × InstrData)) (i : ℕ × InstrData) (after : List (ℕ × InstrData)) → IsMade w is before i after
    → IsMade w (p ∷ is) (standing_for w p ++ before) i after
made_later w p is before i after m = record {
  front = p ∷ m.front;
  old = m.old;
  back = m.back;
  earlier = m.earlier;
  later = m.later;
  splits = ap (λ l. p ∷ l) m.splits;
  same = m.same;
  made = m.made;
  front_now = ap (λ l. standing_for w p ++ l) m.front_now ∙ sym (append_assoc (standing_for w p) (rewritten w m.front) m.earlier);
  back_now = m.back_now;
}

first_comes_from : (w : Rewriting) (p : ℕ × InstrData) (is before : List (ℕ × InstrData)) (i : ℕ × InstrData) (after : List (ℕ × InstrData)) → IsInFirst (standing_for w p) (rewritten w is) before i after
    → IsKept w (p ∷ is) before i after ⊎ IsMade w (p ∷ is) before i after
first_comes_from w p is before i after first = by (p.0 == w.root.0) refl first.splits
  where
    alone : (x : ℕ × InstrData) (before rest : List (ℕ × InstrData)) → x ∷ [] ≡ before ++ i ∷ rest → (before ≡ []) × (x ≡ i) × (rest ≡ [])
    alone x [] rest h = (refl, cc, cc)
    alone x (b ∷ []) rest h = cc
    alone x (b ∷ c ∷ before) rest h = cc

    by : (t : Bool) → (p.0 == w.root.0) ≡ t → cond t w.made (entry_renamed w.rename p ∷ []) ≡ before ++ i ∷ first.rest → IsKept w (p ∷ is) before i after ⊎ IsMade w (p ∷ is) before i after
    by true so h = inr (record {
      front = [];
      old = p;
      back = is;
      earlier = before;
      later = first.rest;
      splits = refl;
      same = so;
      made = h;
      front_now = refl;
      back_now = first.behind;
    })
    by false so h = let (none, same, over) = alone (entry_renamed w.rename p) before first.rest h in inl (record {
      front = [];
      old = p;
      back = is;
      splits = refl;
      other = so;
      now = sym same;
      front_now = none;
      back_now = first.behind ∙ ap (λ l. l ++ rewritten w is) over;
    })

again : (w : Rewriting) (p : ℕ × InstrData) (is before : List (ℕ × InstrData)) (i : ℕ × InstrData) (after : List (ℕ × InstrData)) → IsKept w is before i after ⊎ IsMade w is before i after
    → IsKept w (p ∷ is) (standing_for w p ++ before) i after ⊎ IsMade w (p ∷ is) (standing_for w p ++ before) i after
again w p is before i after found = ⊎_elim (λ k. inl (kept_later w p is before i after k)) (λ m. inr (made_later w p is before i after m)) found

pub comes_from : (w : Rewriting) (is before : List (ℕ × InstrData)) (i : ℕ × InstrData) (after : List (ℕ × InstrData)) → rewritten w is ≡ before ++ i ∷ after
    → IsKept w is before i after ⊎ IsMade w is before i after
comes_from w [] [] i after h = cc
comes_from w [] (b ∷ before) i after h = cc
comes_from w (p ∷ is) before i after h =
    ⊎_elim (λ first. first_comes_from w p is before i after first)
    (λ second.
    subst (λ l. IsKept w (p ∷ is) l i after ⊎ IsMade w (p ∷ is) l i after) (sym second.ahead)
    (again w p is second.rest i after (comes_from w is second.rest i after second.splits)))
    (in_first_or_second (standing_for w p) (rewritten w is) before i after h)

-- ══ Nothing told ══

-- nothing is told of the sites of a block where nothing is of each
block_quiet : (g : Site → Option Invalid) (b : ℕ) (instrs : List (ℕ × InstrData))
    → ((before : List (ℕ × InstrData)) (i : ℕ × InstrData) (after : List (ℕ × InstrData)) → instrs ≡ before ++ i ∷ after → g (site_of b before i after) ≡ None)
    → (done is : List (ℕ × InstrData)) → instrs ≡ done ++ is → told g (sites_in b done is) ≡ []
block_quiet g b instrs each done [] splits = refl
block_quiet g b instrs each done (i ∷ is) splits =
    ap₂ (with_fault i.1.line) (each done i is splits) (block_quiet g b instrs each (done ++ i ∷ []) is (splits ∙ sym (append_assoc done (i ∷ []) is)))

blocks_quiet : (g : Site → Option Invalid) (place : ℕ) (blocks : List BlockData)
    → ((b : ℕ) (block : BlockData) → slice_get blocks b ≡ Some block → (before : List (ℕ × InstrData)) (i : ℕ × InstrData) (after : List (ℕ × InstrData)) → block.instrs ≡ before ++ i ∷ after
    → g (site_of (place + b) before i after) ≡ None)
    → told g (sites_from place blocks) ≡ []
blocks_quiet g place [] each = refl
blocks_quiet g place (k ∷ blocks) each =
    told_append g (sites_in place [] k.instrs) (sites_from (place + 1) blocks)
    ∙ ap₂ (λ a b. a ++ b) (block_quiet g place k.instrs first [] k.instrs refl) (blocks_quiet g (place + 1) blocks later)
  where
    first : (before : List (ℕ × InstrData)) (i : ℕ × InstrData) (after : List (ℕ × InstrData)) → k.instrs ≡ before ++ i ∷ after → g (site_of place before i after) ≡ None
    first before i after splits = let none : place + 0 ≡ place = omega arith in subst (λ n. g (site_of n before i after) ≡ None) none (each 0 k refl before i after splits)

    later : (b : ℕ) (block : BlockData) → slice_get blocks b ≡ Some block → (before : List (ℕ × InstrData)) (i : ℕ × InstrData) (after : List (ℕ × InstrData)) → block.instrs ≡ before ++ i ∷ after
        → g (site_of (place + 1 + b) before i after) ≡ None
    later b block found before i after splits =
        let next : place + suc b ≡ place + 1 + b = omega arith in subst (λ n. g (site_of n before i after) ≡ None) next (each (suc b) block found before i after splits)

-- nothing is told of the sites of a function where nothing is of each
pub all_quiet : (f : FunctionData) (g : Site → Option Invalid)
    → ((b : ℕ) (block : BlockData) → slice_get f.blocks b ≡ Some block → (before : List (ℕ × InstrData)) (i : ℕ × InstrData) (after : List (ℕ × InstrData)) → block.instrs ≡ before ++ i ∷ after
    → g (site_of b before i after) ≡ None)
    → told g (sites f) ≡ []
all_quiet f g each = blocks_quiet g 0 f.blocks (λ b block found before i after splits. let none : 0 + b ≡ b = omega arith in subst (λ n. g (site_of n before i after) ≡ None) (sym none) (each b block found before i after splits))

-- ══ Sites after a rewriting ══

-- a site of f, in a block that is there
pub record IsSite (f : FunctionData) (b : ℕ) (before : List (ℕ × InstrData)) (i : ℕ × InstrData) (after : List (ℕ × InstrData)) : Type 0 where
  pub block : BlockData
  pub found : slice_get f.blocks b ≡ Some block
  pub splits : block.instrs ≡ before ++ i ∷ after

-- nothing that a fault tells of kept instructions is told of them afterwards, and nothing of those that are made
pub record AreQuiet (w : Rewriting) (f : FunctionData) (old new : Site → Option Invalid) : Type 0 where
  pub kept : (b : ℕ) (front : List (ℕ × InstrData)) (p : ℕ × InstrData) (back : List (ℕ × InstrData)) → IsSite f b front p back → (p.0 == w.root.0) ≡ false → old (site_of b front p back) ≡ None
      → new (site_of b (rewritten w front) (entry_renamed w.rename p) (rewritten w back)) ≡ None
  pub made : (b : ℕ) (front back : List (ℕ × InstrData)) → IsSite f b front w.root back → old (site_of b front w.root back) ≡ None
      → (earlier : List (ℕ × InstrData)) (i : ℕ × InstrData) (later : List (ℕ × InstrData)) → w.made ≡ earlier ++ i ∷ later
      → new (site_of b (rewritten w front ++ earlier) i (later ++ rewritten w back)) ≡ None

-- each block after a rewriting is one before it, rewritten
pub record IsBlockOf (w : Rewriting) (f : FunctionData) (b : ℕ) (block : BlockData) : Type 0 where
  pub old : BlockData
  pub found : slice_get f.blocks b ≡ Some old
  pub now : block ≡ block_rewritten w old

mapped_block : (w : Rewriting) (blocks : List BlockData) (b : ℕ) (block : BlockData) → slice_get (map (block_rewritten w) blocks) b ≡ Some block
    → (old : BlockData) × (slice_get blocks b ≡ Some old) × (block ≡ block_rewritten w old)
mapped_block w [] b block found = cc
mapped_block w (k ∷ blocks) zero block found = (k, refl, sym (same_Some (block_rewritten w k) block found))
mapped_block w (k ∷ blocks) (suc b) block found = mapped_block w blocks b block found

pub block_from : (w : Rewriting) (f g : FunctionData) → IsRewritten w f g → (b : ℕ) (block : BlockData) → slice_get g.blocks b ≡ Some block → IsBlockOf w f b block
block_from w f g is b block found =
    let (old, there, now) = mapped_block w f.blocks b block (sym (ap (λ l. slice_get l b) is.blocks) ∙ found) in record { old = old; found = there; now = now }

inside : (p : ℕ × InstrData) (xs ys : List (ℕ × InstrData)) → IsOneOf p xs ⊎ IsOneOf p ys → IsOneOf p (xs ++ ys)
inside p [] ys there = ⊎_elim (λ h. absurd h) (λ h. h) there
inside p (x ∷ xs) ys there = ⊎_elim (λ h. ⊎_elim (λ same. inl same) (λ later. inr (inside p xs ys (inl later))) h) (λ h. inr (inside p xs ys (inr h))) there

inside_blocks : (blocks : List BlockData) (b : ℕ) (block : BlockData) → slice_get blocks b ≡ Some block → (p : ℕ × InstrData) → IsOneOf p block.instrs → IsOneOf p (all_instrs blocks)
inside_blocks [] b block found p there = cc
inside_blocks (k ∷ blocks) zero block found p there = inside p k.instrs (all_instrs blocks) (inl (subst (λ (c : BlockData). IsOneOf p c.instrs) (sym (same_Some k block found)) there))
inside_blocks (k ∷ blocks) (suc b) block found p there = inside p k.instrs (all_instrs blocks) (inr (inside_blocks blocks b block found p there))

-- an instruction of a site is one of the function
pub site_inside : (f : FunctionData) (b : ℕ) (front : List (ℕ × InstrData)) (p : ℕ × InstrData) (back : List (ℕ × InstrData)) → IsSite f b front p back → IsOneOf p (all_instrs f.blocks)
site_inside f b front p back site =
    inside_blocks f.blocks b site.block site.found p (subst (λ l. IsOneOf p l) (sym site.splits) (inside p front (p ∷ back) (inr (inl refl))))

among_front : (p : ℕ × InstrData) (front rest : List (ℕ × InstrData)) → IsOneOf p front → IsOneOf p (front ++ rest)
among_front p front rest there = inside p front rest (inl there)

-- so is one in front of it
pub front_inside : (f : FunctionData) (b : ℕ) (front : List (ℕ × InstrData)) (p : ℕ × InstrData) (back : List (ℕ × InstrData)) → IsSite f b front p back → (q : ℕ × InstrData) → IsOneOf q front → IsOneOf q (all_instrs f.blocks)
front_inside f b front p back site q there =
    inside_blocks f.blocks b site.block site.found q (subst (λ l. IsOneOf q l) (sym site.splits) (inside q front (p ∷ back) (inl there)))

-- the root is the one with its id in front of a site, and behind it
pub site_own : (w : Rewriting) (f g : FunctionData) → IsRewritten w f g → (b : ℕ) (front : List (ℕ × InstrData)) (p : ℕ × InstrData) (back : List (ℕ × InstrData)) → IsSite f b front p back
    → ((q : ℕ × InstrData) → IsOneOf q front → (q.0 == w.root.0) ≡ true → q ≡ w.root) × ((q : ℕ × InstrData) → IsOneOf q back → (q.0 == w.root.0) ≡ true → q ≡ w.root)
site_own w f g is b front p back site =
    let all : (q : ℕ × InstrData) → IsOneOf q (front ++ p ∷ back) → IsOneOf q (all_instrs f.blocks) =
    λ q there. inside_blocks f.blocks b site.block site.found q (subst (λ l. IsOneOf q l) (sym site.splits) there) in (
      λ q there same. is.root q (all q (among_front q front (p ∷ back) there)) same,
      λ q there same. is.root q (all q (inside q front (p ∷ back) (inr (inr there)))) same,
    )

pub nothing_new : (w : Rewriting) (f g : FunctionData) → IsRewritten w f g → (old new : Site → Option Invalid) → AreQuiet w f old new → told old (sites f) ≡ [] → told new (sites g) ≡ []
nothing_new w f g is old new quiet none = all_quiet g new each
  where
    each : (b : ℕ) (block : BlockData) → slice_get g.blocks b ≡ Some block → (before : List (ℕ × InstrData)) (i : ℕ × InstrData) (after : List (ℕ × InstrData)) → block.instrs ≡ before ++ i ∷ after
        → new (site_of b before i after) ≡ None
    each b block found before i after splits =
        let from : IsBlockOf w f b block = block_from w f g is b block found in
        ⊎_elim (λ k. by_kept from k) (λ m. by_made from m) (comes_from w from.old.instrs before i after (sym (ap (λ (c : BlockData). c.instrs) from.now) ∙ splits))
      where
        by_kept : (from : IsBlockOf w f b block) → IsKept w from.old.instrs before i after → new (site_of b before i after) ≡ None
        by_kept from k =
            let site : IsSite f b k.front k.old k.back = record { block = from.old; found = from.found; splits = k.splits } in
            rw (k.now, k.front_now, k.back_now) (quiet.kept b k.front k.old k.back site k.other (at_site f old none b from.old from.found k.front k.old k.back k.splits))

        by_made : (from : IsBlockOf w f b block) → IsMade w from.old.instrs before i after → new (site_of b before i after) ≡ None
        by_made from m =
            let any : IsSite f b m.front m.old m.back = record { block = from.old; found = from.found; splits = m.splits } in
            let root : m.old ≡ w.root = is.root m.old (site_inside f b m.front m.old m.back any) m.same in
            let site : IsSite f b m.front w.root m.back = subst (λ p. IsSite f b m.front p m.back) root any in
            rw (m.front_now, m.back_now)
            (quiet.made b m.front m.back site (at_site f old none b site.block site.found m.front w.root m.back site.splits) m.earlier i m.later m.made)
