-- The sets of a function after a rewriting: with which registers each is taken away.
use Rattle.std.proofs.Common.{◌≡◌, ℕ, zero, suc, ◌+◌, ◌≤◌, Bool, true, false, cond, not, ◌&&◌, ◌||◌, ◌==◌, List, [], ◌∷◌, ◌++◌, Some, ◌⊎◌, inl, inr, ⊎_elim, refl, sym, ap, ap₂, ◌∙◌, subst, arith, true≢false}
use Rattle.std.proofs.lemmas.Bool.{or_cases, or_left, or_parts, and_parts, eq-eqb, false_from_ne_true}
use Rattle.std.specs.List.{list_any}
use Rattle.gi_mir.specs.Data.{InstrData, FunctionData}
use Rattle.gi_mir.specs.Edit.{is_def_of, defines, uses}
use Rattle.gi_mir.specs.Formed.{is_def}
use Rattle.gi_mir.specs.Row.{access_of, is_call_op, is_phi_op}
use Rattle.gi_mir.specs.declared.operand.Operand.{Operand}
use Rattle.gi_mir.specs.declared.operand.Operand.TheVariants as operand
use Rattle.gi_valid.specs.Available.{Extent, defines_origin}
use Rattle.gi_valid.specs.Definitions.{is_load, copies_physical, defines_any_physical, is_erasable, is_pure, definition, uses_purely, IsComputedOver, IsComputedFrom}
use Rattle.gi_valid.specs.Faults.{definitions, times}
use Rattle.gi_change_valid.specs.Conditions.{DefinesAnew, ArePlain, ReadsOrigins}
use Rattle.gi_change_valid.specs.Rewriting.{Rewriting}
use Rattle.gi_change_valid.proofs.Circles.{IsKnown, is_here, pure_is_no_phi, is_definition, use_at, none_in_circle, HasPlace, site_of_one}
use Rattle.gi_change_valid.proofs.Single.{definitions_append, defined_times}
use Rattle.gi_change_valid.proofs.Typed.{IsAccounted, not_made, origin_used}

-- what is known before a rewriting
pub record IsReady (w : Rewriting) (f g : FunctionData) (great : ℕ → Extent) : Type 0 where
  pub account : IsAccounted w f g
  pub plain : ArePlain w
  pub known : IsKnown f great
  pub reads : ReadsOrigins w f

-- ══ Results of the root ══

abbrev pub first_result : List Operand → ℕ
first_result [] = 0
first_result (operand.Def r kind ∷ os) = r.0
first_result (_ ∷ os) = first_result os

first_defined : (os : List Operand) → list_any is_def os ≡ true → list_any (is_def_of (first_result os)) os ≡ true
first_defined [] h = cc
first_defined (operand.Def r kind ∷ os) h = or_left (r.0 == r.0) (list_any (is_def_of r.0) os) (eq-eqb r.0 r.0 refl)
first_defined (_ ∷ os) h = first_defined os h

abbrev pub result_of : Rewriting → ℕ
result_of w = first_result w.root.1.operands

pub result_defined : (w : Rewriting) (f g : FunctionData) (great : ℕ → Extent) → IsReady w f g great → defines (result_of w) w.root ≡ true
result_defined w f g great c =
    let i : InstrData = w.root.1 in
    let first : ((is_erasable i && not (is_load (access_of i.op)) && not (is_phi_op i.op)) ≡ true) × (not (copies_physical i) ≡ true) = and_parts (is_erasable i && not (is_load (access_of i.op)) && not (is_phi_op i.op)) (not (copies_physical i)) c.reads.pure in
    let second : ((is_erasable i && not (is_load (access_of i.op))) ≡ true) × (not (is_phi_op i.op) ≡ true) = and_parts (is_erasable i && not (is_load (access_of i.op))) (not (is_phi_op i.op)) first.0 in
    let third : (is_erasable i ≡ true) × (not (is_load (access_of i.op)) ≡ true) = and_parts (is_erasable i) (not (is_load (access_of i.op))) second.0 in
    let fourth : ((list_any is_def i.operands && not (defines_any_physical i)) ≡ true) × (not (is_call_op i.op) ≡ true) = and_parts (list_any is_def i.operands && not (defines_any_physical i)) (not (is_call_op i.op)) third.0 in
    first_defined i.operands (and_parts (list_any is_def i.operands) (not (defines_any_physical i)) fourth.0).0

pub root_definition : (w : Rewriting) (f g : FunctionData) (great : ℕ → Extent) → IsReady w f g great → (d : ℕ) → defines d w.root ≡ true → definition f d ≡ Some w.root
root_definition w f g great c d own = is_definition f c.account.once d w.root c.account.is.there own

-- what one result is computed from, each other is
pub same_origins : (w : Rewriting) (f g : FunctionData) (great : ℕ → Extent) → IsReady w f g great → (d e : ℕ) → defines d w.root ≡ true → defines e w.root ≡ true → (x : ℕ) → IsComputedFrom f d x → IsComputedFrom f e x
same_origins w f g great c d e own other x h = by h.others h.over
  where
    same : definition f d ≡ definition f e
    same = root_definition w f g great c d own ∙ sym (root_definition w f g great c e other)

    by : (n : ℕ) → IsComputedOver n f d x → IsComputedFrom f e x
    by zero l = record { others = 0; over = sym (ap (λ o. uses_purely o x) same) ∙ l }
    by (suc n) l = record { others = suc n; over = (l.0, sym (ap (λ o. uses_purely o l.0) same) ∙ l.1, l.2) }

-- the register that the root reads on the way to another
pub record HasRead (w : Rewriting) (f : FunctionData) (x : ℕ) : Type 0 where
  pub register : ℕ
  pub used : uses register w.root ≡ true
  pub rest : (register ≡ x) ⊎ IsComputedFrom f register x

pub read_towards : (w : Rewriting) (f g : FunctionData) (great : ℕ → Extent) → IsReady w f g great → (d : ℕ) → defines d w.root ≡ true → (x : ℕ) → IsComputedFrom f d x → HasRead w f x
read_towards w f g great c d own x h = by h.others h.over
  where
    used_of : (z : ℕ) → uses_purely (definition f d) z ≡ true → uses z w.root ≡ true
    used_of z l = (and_parts (is_pure w.root.1) (uses z w.root) (sym (ap (λ o. uses_purely o z) (root_definition w f g great c d own)) ∙ l)).1

    by : (n : ℕ) → IsComputedOver n f d x → HasRead w f x
    by zero l = record { register = x; used = used_of x l; rest = inl refl }
    by (suc n) l = record { register = l.0; used = used_of l.0 l.1; rest = inr (record { others = n; over = l.2 }) }

-- no result of the root is computed from one
pub no_root_circle : (w : Rewriting) (f g : FunctionData) (great : ℕ → Extent) → IsReady w f g great → (d e : ℕ) → defines d w.root ≡ true → defines e w.root ≡ true → IsComputedFrom f d e → ⊥
no_root_circle w f g great c d e own other h =
    let loop : IsComputedFrom f e e = same_origins w f g great c d e own other e h in
    let read : HasRead w f e = read_towards w f g great c e other e loop in
    let place : HasPlace f w.root = site_of_one f w.root c.account.is.there in
    let here : is_here great place.block place.front read.register ≡ true = use_at f great c.known place.block place.front w.root place.back place.site (pure_is_no_phi w.root.1 c.reads.pure) read.register read.used in
    let round : IsComputedFrom f read.register e = ⊎_elim (λ same. subst (λ z. IsComputedFrom f z e) (sym same) loop) (λ on. on) read.rest in
    true≢false (sym here ∙ none_in_circle f great c.known e loop place.block place.site.block place.site.found place.front (w.root ∷ place.back) place.site.splits read.register round)

-- ══ Registers that are made ══

abbrev pub is_made : Rewriting → ℕ → Bool
is_made w r = list_any (defines r) w.made

-- one comes earlier than another among these
abbrev pub comes_earlier : List (ℕ × InstrData) → (x r : ℕ) → Bool
comes_earlier [] x r = false
comes_earlier (i ∷ is) x r = cond (defines r i) false (cond (defines x i) true (comes_earlier is x r))

pub earlier_on : (is : List (ℕ × InstrData)) (x z r : ℕ) → comes_earlier is x z ≡ true → comes_earlier is z r ≡ true → comes_earlier is x r ≡ true
earlier_on [] x z r h l = cc
earlier_on (i ∷ is) x z r h l = by (defines r i) (defines z i) (defines x i) h l (λ a b. earlier_on is x z r a b)
  where
    by : (p q s : Bool) → cond q false (cond s true (comes_earlier is x z)) ≡ true → cond p false (cond q true (comes_earlier is z r)) ≡ true → (comes_earlier is x z ≡ true → comes_earlier is z r ≡ true → comes_earlier is x r ≡ true)
        → cond p false (cond s true (comes_earlier is x r)) ≡ true
    by true q s h l rest = cc
    by false true s h l rest = cc
    by false false true h l rest = refl
    by false false false h l rest = rest h l

pub is_earlier : (earlier : List (ℕ × InstrData)) (i : ℕ × InstrData) (later : List (ℕ × InstrData)) (x r : ℕ) → list_any (defines x) earlier ≡ true → list_any (defines r) earlier ≡ false → comes_earlier (earlier ++ i ∷ later) x r ≡ true
is_earlier [] i later x r h none = cc
is_earlier (e ∷ earlier) i later x r h none =
    let each : (defines r e ≡ false) × (list_any (defines r) earlier ≡ false) = or_parts (defines r e) (list_any (defines r) earlier) none in
    ap (λ t. cond t false (cond (defines x e) true (comes_earlier (earlier ++ i ∷ later) x r))) each.0
    ∙ by (defines x e) h (λ l. is_earlier earlier i later x r l each.1)
  where
    by : (t : Bool) → (t || list_any (defines x) earlier) ≡ true → (list_any (defines x) earlier ≡ true → comes_earlier (earlier ++ i ∷ later) x r ≡ true) → cond t true (comes_earlier (earlier ++ i ∷ later) x r) ≡ true
    by true h rest = refl
    by false h rest = rest h

pub is_not_earlier : (earlier : List (ℕ × InstrData)) (i : ℕ × InstrData) (later : List (ℕ × InstrData)) (x r : ℕ) → list_any (defines r) earlier ≡ true → list_any (defines x) earlier ≡ false → comes_earlier (earlier ++ i ∷ later) x r ≡ false
is_not_earlier [] i later x r h none = cc
is_not_earlier (e ∷ earlier) i later x r h none =
    let each : (defines x e ≡ false) × (list_any (defines x) earlier ≡ false) = or_parts (defines x e) (list_any (defines x) earlier) none in
    by (defines r e) (defines x e) h each.0 (λ l. is_not_earlier earlier i later x r l each.1)
  where
    by : (t s : Bool) → (t || list_any (defines r) earlier) ≡ true → s ≡ false → (list_any (defines r) earlier ≡ true → comes_earlier (earlier ++ i ∷ later) x r ≡ false)
        → cond t false (cond s true (comes_earlier (earlier ++ i ∷ later) x r)) ≡ false
    by true s h none rest = refl
    by false true h none rest = cc
    by false false h none rest = rest h

-- what one instruction defines, none before it does
pub not_before : (w : Rewriting) (f : FunctionData) → DefinesAnew w f → (earlier : List (ℕ × InstrData)) (i : ℕ × InstrData) (later : List (ℕ × InstrData)) → w.made ≡ earlier ++ i ∷ later → (r : ℕ) → defines r i ≡ true → list_any (defines r) earlier ≡ false
not_before w f anew earlier i later splits r own =
    false_from_ne_true (list_any (defines r) earlier) (λ h.
    let most : times r (definitions (earlier ++ i ∷ later)) ≤ 1 = subst (λ l. times r (definitions l) ≤ 1) splits (anew.once r) in
    let all : times r (definitions (earlier ++ i ∷ later)) ≡ times r (definitions earlier) + times r (definitions (i ∷ later)) = definitions_append r earlier (i ∷ later) in
    let rest : times r (definitions (i ∷ later)) ≡ times r (definitions (i ∷ [])) + times r (definitions later) = definitions_append r (i ∷ []) later in
    too_many (times r (definitions earlier)) (times r (definitions (i ∷ []))) (times r (definitions later)) (times r (definitions (i ∷ later))) (times r (definitions (earlier ++ i ∷ later))) (some_times r earlier h) (defined_times r i own) all rest most)
  where
    too_many : (a b c n m : ℕ) → 1 ≤ a → 1 ≤ b → m ≡ a + n → n ≡ b + c → m ≤ 1 → ⊥
    too_many a b c n m h i j k l = omega (arith, h, i, j, k, l)

    some_times : (r : ℕ) (is : List (ℕ × InstrData)) → list_any (defines r) is ≡ true → 1 ≤ times r (definitions is)
    some_times r [] h = cc
    some_times r (p ∷ is) h = by (or_cases (defines r p) (list_any (defines r) is) h) (definitions_append r (p ∷ []) is) (λ l. some_times r is l)
      where
        by : (defines r p ≡ true) ⊎ (list_any (defines r) is ≡ true) → times r (definitions (p ∷ is)) ≡ times r (definitions (p ∷ [])) + times r (definitions is) → (list_any (defines r) is ≡ true → 1 ≤ times r (definitions is)) → 1 ≤ times r (definitions (p ∷ is))
        by (inl now) all rest = let one : 1 ≤ times r (definitions (p ∷ [])) = defined_times r p now in omega (arith, all, one)
        by (inr later) all rest = let one : 1 ≤ times r (definitions is) = rest later in omega (arith, all, one)

-- an origin of the root's results isn't made, nor is it one
pub record IsOutside (w : Rewriting) (r : ℕ) : Type 0 where
  pub no_result : defines r w.root ≡ false
  pub not_among : is_made w r ≡ false

pub origin_outside : (w : Rewriting) (f g : FunctionData) (great : ℕ → Extent) → IsReady w f g great → (d : ℕ) → defines d w.root ≡ true → (x : ℕ) → IsComputedFrom f d x → IsOutside w x
origin_outside w f g great c d own x h =
    let no_result : defines x w.root ≡ false = false_from_ne_true (defines x w.root) (λ result. no_root_circle w f g great c d x own result h) in
    record { no_result = no_result; not_among = not_made w f g c.account x no_result (λ new. true≢false (sym (origin_used f d x h) ∙ new.unused)) }

-- ══ The sets ══

-- the root's results are among these
abbrev pub reaches_root : Rewriting → (ℕ → Bool) → Bool
reaches_root w origins = defines_origin origins w.root

-- with what a register is taken away
abbrev pub origins_after : Rewriting → (great : ℕ → Extent) → (r x : ℕ) → Bool
origins_after w great r x =
    cond (is_made w r) (cond (is_made w x) (comes_earlier w.made x r) ((great (result_of w)).origins x)) (cond (is_made w x) (reaches_root w (great r).origins) ((great r).origins x))

-- the register is there before and after
abbrev pub is_kept : Rewriting → ℕ → Bool
is_kept w r = cond (is_made w r) (defines r w.root) (not (defines r w.root))

abbrev pub extent_after : Rewriting → (great : ℕ → Extent) → ℕ → Extent
extent_after w great r = record { origins = origins_after w great r; starts = λ b. is_kept w r && (great r).starts b }

pub of_other : (w : Rewriting) (great : ℕ → Extent) (r x : ℕ) → is_made w r ≡ false → is_made w x ≡ false → origins_after w great r x ≡ (great r).origins x
of_other w great r x so so' =
    ap₂ (λ s t. cond s (cond t (comes_earlier w.made x r) ((great (result_of w)).origins x)) (cond t (reaches_root w (great r).origins) ((great r).origins x))) so so'

pub of_other_made : (w : Rewriting) (great : ℕ → Extent) (r x : ℕ) → is_made w r ≡ false → is_made w x ≡ true → origins_after w great r x ≡ reaches_root w (great r).origins
of_other_made w great r x so so' =
    ap₂ (λ s t. cond s (cond t (comes_earlier w.made x r) ((great (result_of w)).origins x)) (cond t (reaches_root w (great r).origins) ((great r).origins x))) so so'

pub of_made : (w : Rewriting) (great : ℕ → Extent) (r x : ℕ) → is_made w r ≡ true → is_made w x ≡ true → origins_after w great r x ≡ comes_earlier w.made x r
of_made w great r x so so' =
    ap₂ (λ s t. cond s (cond t (comes_earlier w.made x r) ((great (result_of w)).origins x)) (cond t (reaches_root w (great r).origins) ((great r).origins x))) so so'

pub of_made_other : (w : Rewriting) (great : ℕ → Extent) (r x : ℕ) → is_made w r ≡ true → is_made w x ≡ false → origins_after w great r x ≡ (great (result_of w)).origins x
of_made_other w great r x so so' =
    ap₂ (λ s t. cond s (cond t (comes_earlier w.made x r) ((great (result_of w)).origins x)) (cond t (reaches_root w (great r).origins) ((great r).origins x))) so so'
