-- Blocks that name others, one after the other.
use Rattle.std.proofs.Common.{◌≡◌, ℕ, suc, ◌+◌, ◌<◌, ◌≤◌, Bool, true, false, cond, not, ◌&&◌, ◌||◌, ◌==◌, List, [], ◌∷◌, ◌++◌, length, take, get_or, refl, sym, ap, ◌∙◌, append_assoc, append-nil, add-one, take-suc, take_all, length-take-le, subst, arith, true≢false}
use Rattle.std.proofs.lemmas.Bool.{eq-eqb, eqb-true}
use Rattle.gi_mir.specs.Data.{BlockData, FunctionData}
use Rattle.gi_mir.specs.Edit.{block_at, empty_block}
use Rattle.gi_meaning.specs.Runs.{is_among}
use Rattle.gi_valid.specs.Available.{naming}
use Rattle.gi_verify.specs.declared.predecessors.Predecessors.{Predecessors}
use Rattle.gi_verify.specs.Named.{names, only_if, IsGrown, IsNamedOnce, IsNamedNext, AreNamed, AreNamedBelow, ArePredecessors}
use Rattle.gi_verify.proofs.Growing.{among_more}

-- ══ The successors of one block ══

named_again : (old : Predecessors) (a : ℕ) (front : List ℕ) (b : ℕ) → is_among b front ≡ true → IsNamedOnce old old a front b
named_again old a front b listed = record { each = λ q. sym (ap (λ t. names old q ++ only_if ((q == b) && not t) a) listed ∙ none (q == b) (names old q)) }
  where
    none : (t : Bool) (l : List ℕ) → l ++ only_if (t && false) a ≡ l
    none true l = append-nil l
    none false l = append-nil l

named_first : (old new : Predecessors) (a : ℕ) (front : List ℕ) (b : ℕ) → is_among b front ≡ false → IsGrown old new b a → IsNamedOnce old new a front b
named_first old new a front b absent grown = record { each = λ q. by q (q == b) refl ∙ sym (ap (λ t. names old q ++ only_if ((q == b) && not t) a) absent) }
  where
    by : (q : ℕ) (t : Bool) → (q == b) ≡ t → names new q ≡ names old q ++ only_if (t && true) a
    by q true so = let same : q ≡ b = eqb-true q b so in ap (names new) same ∙ grown.here ∙ ap (λ k. names old k ++ a ∷ []) (sym same)
    by q false so = grown.others q (λ e. true≢false (sym (eq-eqb q b e) ∙ so)) ∙ sym (append-nil (names old q))

pub next_again : (old : Predecessors) (a : ℕ) (front : List ℕ) (b : ℕ) → is_among b front ≡ true → IsNamedNext old old a front front b
next_again old a front b there = record {
  named = named_again old a front b there;
  listed = λ q. by q (q == b) refl;
}
  where
    or_false : (t : Bool) → t ≡ (t || false)
    or_false true = refl
    or_false false = refl

    by : (q : ℕ) (t : Bool) → (q == b) ≡ t → is_among q front ≡ (is_among q front || t)
    by q true so = let yes : is_among q front ≡ true = ap (λ n. is_among n front) (eqb-true q b so) ∙ there in yes ∙ sym (ap (λ t. t || true) yes)
    by q false so = or_false (is_among q front)

pub next_first : (old new : Predecessors) (a : ℕ) (front more : List ℕ) (b : ℕ) → is_among b front ≡ false → more ≡ front ++ b ∷ [] → IsGrown old new b a → IsNamedNext old new a front more b
next_first old new a front more b absent added grown = record {
  named = named_first old new a front b absent grown;
  listed = λ q. ap (is_among q) added ∙ among_more q b front;
}

pub named_none : (start : Predecessors) (a : ℕ) → AreNamed start start a []
named_none start a = record { each = λ q. sym (append-nil (names start q)) }

pub named_then : (start mid new : Predecessors) (a : ℕ) (front : List ℕ) (b : ℕ) → AreNamed start mid a front → IsNamedOnce mid new a front b → AreNamed start new a (front ++ b ∷ [])
named_then start mid new a front b are once = record {
  each = λ q.
      once.each q
      ∙ ap (λ l. l ++ only_if ((q == b) && not (is_among b front)) a) (are.each q)
      ∙ append_assoc (names start q) (only_if (is_among q front) a) (only_if ((q == b) && not (is_among b front)) a)
      ∙ ap (λ l. names start q ++ l) (by q (q == b) refl ∙ ap (λ t. only_if t a) (sym (among_more q b front)));
}
  where
    both : (t : Bool) → only_if t a ++ only_if (not t) a ≡ only_if (t || true) a
    both true = refl
    both false = refl

    one : (t : Bool) → only_if t a ++ [] ≡ only_if (t || false) a
    one true = refl
    one false = refl

    by : (q : ℕ) (t : Bool) → (q == b) ≡ t → only_if (is_among q front) a ++ only_if (t && not (is_among b front)) a ≡ only_if (is_among q front || t) a
    by q true so = ap (λ k. only_if (is_among q front) a ++ only_if (not (is_among k front)) a) (sym (eqb-true q b so)) ∙ both (is_among q front)
    by q false so = one (is_among q front)

-- of successors up to a place, with a list of those that are named
pub record AreNamedUpTo (start new : Predecessors) (a : ℕ) (successors : List ℕ) (k : ℕ) (front : List ℕ) : Type 0 where
  pub named : AreNamed start new a front
  pub listed : (q : ℕ) → is_among q front ≡ is_among q (take k successors)

pub named_up_to_none : (start : Predecessors) (a : ℕ) (successors front : List ℕ) → front ≡ [] → AreNamedUpTo start start a successors 0 front
named_up_to_none start a successors front none = record {
  named = subst (AreNamed start start a) (sym none) (named_none start a);
  listed = λ q. ap (is_among q) none;
}

pub named_on : (start mid new : Predecessors) (a : ℕ) (successors : List ℕ) (k : ℕ) (front more : List ℕ) → k < length successors → AreNamedUpTo start mid a successors k front
    → IsNamedNext mid new a front more (get_or successors k 0) → AreNamedUpTo start new a successors (k + 1) more
named_on start mid new a successors k front more within up next = record {
  named = record {
    each = λ q.
        (named_then start mid new a front (get_or successors k 0) up.named next.named).each q
        ∙ ap (λ t. names start q ++ only_if t a) (among_more q (get_or successors k 0) front ∙ sym (next.listed q));
  };
  listed = λ q.
      next.listed q ∙ ap (λ t. t || (q == get_or successors k 0)) (up.listed q) ∙ sym (among_more q (get_or successors k 0) (take k successors))
      ∙ ap (is_among q) (sym (ap (λ j. take j successors) (add-one k) ∙ take-suc successors k 0 within));
}

pub named_all : (start new : Predecessors) (a : ℕ) (successors : List ℕ) (k : ℕ) (front : List ℕ) → length successors ≤ k → AreNamedUpTo start new a successors k front → AreNamed start new a successors
named_all start new a successors k front past up = record {
  each = λ q. up.named.each q ∙ ap (λ t. names start q ++ only_if t a) (up.listed q ∙ ap (is_among q) (take_all k successors past));
}

-- ══ The blocks of a function ══

no_more : (n : ℕ) → n ≡ n + 0
no_more n = omega arith

one_more : (n m : ℕ) → n + 1 + m ≡ n + suc m
one_more n m = omega arith

naming_with : (q place : ℕ) (xs : List BlockData) (y : BlockData) → naming q place (xs ++ y ∷ []) ≡ naming q place xs ++ only_if (is_among q y.successors) (place + length xs)
naming_with q place [] y = ap (only_if (is_among q y.successors)) (no_more place)
naming_with q place (x ∷ xs) y =
    by (is_among q x.successors) (naming_with q (place + 1) xs y ∙ ap (λ n. naming q (place + 1) xs ++ only_if (is_among q y.successors) n) (one_more place (length xs)))
  where
    by : (t : Bool) → naming q (place + 1) (xs ++ y ∷ []) ≡ naming q (place + 1) xs ++ only_if (is_among q y.successors) (place + suc (length xs))
        → cond t (place ∷ naming q (place + 1) (xs ++ y ∷ [])) (naming q (place + 1) (xs ++ y ∷ []))
        ≡ cond t (place ∷ naming q (place + 1) xs) (naming q (place + 1) xs) ++ only_if (is_among q y.successors) (place + suc (length xs))
    by true h = ap (λ l. place ∷ l) h
    by false h = h

pub named_below : (f : FunctionData) (a : ℕ) → a < length f.blocks → (mid new : Predecessors) → AreNamedBelow f a mid → AreNamed mid new a (block_at f a).successors → AreNamedBelow f (a + 1) new
named_below f a within mid new below are = record {
  each = λ q.
      are.each q
      ∙ ap (λ l. l ++ only_if (is_among q (block_at f a).successors) a) (below.each q)
      ∙ ap (λ n. naming q 0 (take a f.blocks) ++ only_if (is_among q (block_at f a).successors) n) here
      ∙ sym (naming_with q 0 (take a f.blocks) (block_at f a))
      ∙ ap (naming q 0) (sym more);
}
  where
    here : a ≡ 0 + length (take a f.blocks)
    here = let taken : length (take a f.blocks) ≡ a = length-take-le a f.blocks (omega (arith, within)) in omega (arith, taken)

    more : take (a + 1) f.blocks ≡ take a f.blocks ++ block_at f a ∷ []
    more = ap (λ j. take j f.blocks) (add-one a) ∙ take-suc f.blocks a empty_block within

pub named_from : (f : FunctionData) (all : Predecessors) → ((b : ℕ) → names all b ≡ []) → AreNamedBelow f 0 all
named_from f all none = record { each = none }

pub all_named : (f : FunctionData) (a : ℕ) (all : Predecessors) → length f.blocks ≤ a → AreNamedBelow f a all → ArePredecessors f all
all_named f a all past below = record { each = λ q. below.each q ∙ ap (naming q 0) (take_all a f.blocks past) }
