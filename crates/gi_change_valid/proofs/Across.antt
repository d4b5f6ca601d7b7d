-- No physical register comes to be used behind what may overwrite it.
use Rattle.std.proofs.Common.{◌≡◌, ℕ, Bool, true, false, cond, not, ◌&&◌, ◌||◌, ◌==◌, nat_lt, List, [], ◌∷◌, ◌++◌, Option, Some, None, option_map, find, map, length, inl, ⊎_elim, refl, sym, ap, ap₂, ◌∙◌, subst, true≢false}
use Rattle.std.proofs.lemmas.Bool.{or_cases, and_parts, eqb-true, eq-eqb, false_from_ne_true}
use Rattle.std.specs.List.{list_any, list_all, range_with_len}
use Rattle.std.proofs.lemmas.List.Folds.{list_any-append}
use Rattle.std.specs.Option.{option_map_or}
use Rattle.gi_llt.specs.Llt.{width_of}
use Rattle.gi_llt.specs.declared.Llt.{Llt}
use Rattle.gi_mir.specs.Data.{InstrData, BlockData, FunctionData}
use Rattle.gi_mir.specs.Edit.{all_instrs}
use Rattle.gi_mir.specs.Row.{is_call_op}
use Rattle.gi_mir.specs.declared.operand.Operand.{Operand}
use Rattle.gi_mir.specs.declared.operand.Operand.TheVariants as operand
use Rattle.gi_meaning.specs.Runs.{is_among}
use Rattle.gi_replace.specs.InPlace.{operand_renamed, entry_renamed}
use Rattle.gi_valid.specs.Available.{is_physical_at_start, is_physical_there}
use Rattle.gi_valid.specs.Definitions.{is_physical_def_of, is_physical_use_of, defines_physical, reads_physical}
use Rattle.gi_valid.specs.Faults.{sites, told, is_division, is_product, is_wider, is_used_first, goes_across, may_call, physical_across}
use Rattle.gi_meaning.specs.InRow.{results_in}
use Rattle.gi_valid.specs.Typing.{Phase, type_in}
use Rattle.gi_valid.specs.declared.invalid.Invalid.TheVariants.{PhysicalAcross}
use Rattle.gi_valid.proofs.Sited.{site_of}
use Rattle.gi_change_valid.specs.Conditions.{is_plain_operand, is_plain, ArePlain, KeepsTypes, MakesNoNewCall}
use Rattle.gi_change_valid.specs.Rewriting.{Rewriting, rewritten, IsOneOf, IsRewritten}
use Rattle.gi_change_valid.proofs.Frames.{body_after, same_predecessors, IsOwn, own_later, IsIdle, any_earlier, any_rewritten, Plain, made_plain, plain, idle}
use Rattle.gi_change_valid.proofs.Listed.{results_left, defines_physical_left, reads_physical_left}
use Rattle.gi_change_valid.proofs.Sites.{IsSite, nothing_new, site_inside, site_own}
use Rattle.gi_change_valid.proofs.Typed.{IsAccounted, result_type, results_alike, one_of_made}

-- ══ Plain instructions and physical registers ══

none_defined : (n : ℕ) (os : List Operand) → list_all is_plain_operand os ≡ true → list_any (is_physical_def_of n) os ≡ false
none_defined n [] all = refl
none_defined n (operand.PhysDef m ∷ os) all = cc
none_defined n (operand.ImplicitDef m ∷ os) all = cc
none_defined n (o ∷ os) all = none_defined n os (and_parts (is_plain_operand o) (list_all is_plain_operand os) all).1

pub plain_defines_none : (n : ℕ) (p : ℕ × InstrData) → Plain p.1 → defines_physical n p ≡ false
plain_defines_none n p one = none_defined n p.1.operands one.operands

-- a register that isn't always there
pub record IsPassing (n : ℕ) : Type 0 where
  pub no_zero : (n == 0) ≡ false
  pub no_stack : (n == 2) ≡ false

not_always : (n m : ℕ) → IsPassing n → ((m == 0) || (m == 2)) ≡ true → (m == n) ≡ false
not_always n m passing always =
    false_from_ne_true (m == n) (λ same.
    let alike : m ≡ n = eqb-true m n same in
    ⊎_elim
    (λ h. true≢false (sym (eq-eqb n 0 (sym alike ∙ eqb-true m 0 h)) ∙ passing.no_zero))
    (λ h. true≢false (sym (eq-eqb n 2 (sym alike ∙ eqb-true m 2 h)) ∙ passing.no_stack))
    (or_cases (m == 0) (m == 2) always))

none_read : (n : ℕ) → IsPassing n → (os : List Operand) → list_all is_plain_operand os ≡ true → list_any (is_physical_use_of n) os ≡ false
none_read n passing [] all = refl
none_read n passing (operand.ImplicitUse m ∷ os) all = cc
none_read n passing (operand.Phys m ∷ os) all =
    let each : (((m == 0) || (m == 2)) ≡ true) × (list_all is_plain_operand os ≡ true) = and_parts ((m == 0) || (m == 2)) (list_all is_plain_operand os) all in
    ap₂ (λ a b. a || b) (not_always n m passing each.0) (none_read n passing os each.1)
none_read n passing (o ∷ os) all = none_read n passing os (and_parts (is_plain_operand o) (list_all is_plain_operand os) all).1

pub plain_reads_none : (n : ℕ) → IsPassing n → (p : ℕ × InstrData) → Plain p.1 → reads_physical n p ≡ false
plain_reads_none n passing p one = none_read n passing p.1.operands one.operands

-- ══ Where a physical register is available ══

pub same_start : (w : Rewriting) (f g : FunctionData) → IsRewritten w f g → (b n : ℕ) → is_physical_at_start g b n ≡ is_physical_at_start f b n
same_start w f g is b n =
    ap₂ (λ ps ls. ((n == 0) || (n == 2)) || (((b == 0) && not (nat_lt 0 (length ps))) && is_among n ls)) (same_predecessors w f g is 0) (ap (λ (k : BlockData). k.liveins) (body_after w f g is 0))

pub physical_idle : (w : Rewriting) → ArePlain w → (n : ℕ) → IsIdle w (defines_physical n)
physical_idle w are n = idle w are (defines_physical n) (plain_defines_none n) (defines_physical_left n w.rename)

pub same_there : (w : Rewriting) (f g : FunctionData) → IsRewritten w f g → ArePlain w → (b : ℕ) (front : List (ℕ × InstrData)) → IsOwn w front → (n : ℕ) → is_physical_there g b (rewritten w front) n ≡ is_physical_there f b front n
same_there w f g is are b front own n = ap₂ (λ s t. s || t) (same_start w f g is b n) (any_rewritten w (defines_physical n) (physical_idle w are n) front own)

-- ══ Where it is used first ══

first_left : (n : ℕ) → (p : ℕ × InstrData) → reads_physical n p ≡ false → defines_physical n p ≡ false → (rest : List (ℕ × InstrData)) → is_used_first n (p ∷ rest) ≡ is_used_first n rest
first_left n p reads defined rest = ap₂ (λ s t. s || (not t && is_used_first n rest)) reads defined

made_left : (n : ℕ) → IsPassing n → (made rest : List (ℕ × InstrData)) → list_all (λ p. is_plain p.1) made ≡ true → is_used_first n (made ++ rest) ≡ is_used_first n rest
made_left n passing [] rest all = refl
made_left n passing (p ∷ made) rest all =
    let each : (is_plain p.1 ≡ true) × (list_all (λ q. is_plain q.1) made ≡ true) = and_parts (is_plain p.1) (list_all (λ q. is_plain q.1) made) all in
    first_left n p (plain_reads_none n passing p (plain p.1 each.0)) (plain_defines_none n p (plain p.1 each.0)) (made ++ rest) ∙ made_left n passing made rest each.1

same_first : (w : Rewriting) → ArePlain w → (n : ℕ) → IsPassing n → (is : List (ℕ × InstrData)) → IsOwn w is → is_used_first n (rewritten w is) ≡ is_used_first n is
same_first w are n passing [] own = refl
same_first w are n passing (p ∷ is) own = by (p.0 == w.root.0) refl (same_first w are n passing is (own_later w p is own))
  where
    by : (t : Bool) → (p.0 == w.root.0) ≡ t → is_used_first n (rewritten w is) ≡ is_used_first n is → is_used_first n (cond (p.0 == w.root.0) w.made (entry_renamed w.rename p ∷ []) ++ rewritten w is) ≡ is_used_first n (p ∷ is)
    by true so rest =
        let root : p ≡ w.root = own p (inl refl) so in
        let one : Plain p.1 = subst (λ (q : ℕ × InstrData). Plain q.1) (sym root) (plain w.root.1 are.root) in
        ap (λ t. is_used_first n (cond t w.made (entry_renamed w.rename p ∷ []) ++ rewritten w is)) so
        ∙ made_left n passing w.made (rewritten w is) are.made ∙ rest ∙ sym (first_left n p (plain_reads_none n passing p one) (plain_defines_none n p one) is)
    by false so rest =
        ap (λ t. is_used_first n (cond t w.made (entry_renamed w.rename p ∷ []) ++ rewritten w is)) so
        ∙ ap₂ (λ s t. s || (not t && is_used_first n (rewritten w is))) (reads_physical_left n w.rename p) (defines_physical_left n w.rename p)
        ∙ ap (λ u. reads_physical n p || (not (defines_physical n p) && u)) rest

-- ══ Across ══

alike_unless : (s t a b c a' b' c' : Bool) → (s ≡ false → t ≡ false → (a ≡ a') × (b ≡ b') × (c ≡ c')) → ((((not s && not t) && a) && b) && c) ≡ ((((not s && not t) && a') && b') && c')
alike_unless true t a b c a' b' c' h = refl
alike_unless false true a b c a' b' c' h = refl
alike_unless false false a b c a' b' c' h = let (one, two, three) = h refl refl in ap₂ (λ u v. u && v) (ap₂ (λ u v. u && v) one two) three

same_found : (p q : ℕ → Bool) → ((n : ℕ) → q n ≡ p n) → (ns : List ℕ) → find q ns ≡ find p ns
same_found p q same [] = refl
same_found p q same (n ∷ ns) = ap₂ (λ t o. cond t (Some n) o) (same n) (same_found p q same ns)

same_across : (w : Rewriting) (f g : FunctionData) → IsRewritten w f g → ArePlain w → (b : ℕ) (front : List (ℕ × InstrData)) (p : ℕ × InstrData) (back : List (ℕ × InstrData)) → IsOwn w front → IsOwn w back → (n : ℕ)
    → goes_across g (site_of b (rewritten w front) (entry_renamed w.rename p) (rewritten w back)) n ≡ goes_across f (site_of b front p back) n
same_across w f g is are b front p back own own' n =
    alike_unless (n == 0) (n == 2) _ _ _ _ _ _ (λ zero stack. (
      same_there w f g is are b front own n,
      ap not (defines_physical_left n w.rename (0, p.1)),
      same_first w are n (record { no_zero = zero; no_stack = stack }) back own',
    ))

-- the same registers go across what is made as across the root
root_across : (w : Rewriting) (f g : FunctionData) → IsRewritten w f g → ArePlain w → (b : ℕ) (front back earlier : List (ℕ × InstrData)) (i : ℕ × InstrData) (later : List (ℕ × InstrData)) → IsOwn w front → IsOwn w back → w.made ≡ earlier ++ i ∷ later → (n : ℕ)
    → goes_across g (site_of b (rewritten w front ++ earlier) i (later ++ rewritten w back)) n ≡ goes_across f (site_of b front w.root back) n
root_across w f g is are b front back earlier i later own own' splits n =
    alike_unless (n == 0) (n == 2) _ _ _ _ _ _ (λ zero stack. (
      ap₂ (λ s t. s || t) (same_start w f g is b n)
          (list_any-append (defines_physical n) (rewritten w front) earlier
          ∙ ap₂ (λ s t. s || t) (any_rewritten w (defines_physical n) (physical_idle w are n) front own) (any_earlier (defines_physical n) w.made earlier i later splits (physical_idle w are n).made).0 ∙ or_false (list_any (defines_physical n) front)),
      ap not (plain_defines_none n (0, i.1) (made_plain w are earlier i later splits) ∙ sym (plain_defines_none n (0, w.root.1) (plain w.root.1 are.root))),
      made_left n (record { no_zero = zero; no_stack = stack }) later (rewritten w back) (rest_plain (λ p. is_plain p.1) earlier i later (subst (λ l. list_all (λ p. is_plain p.1) l ≡ true) splits are.made))
          ∙ same_first w are n (record { no_zero = zero; no_stack = stack }) back own',
    ))
  where
    or_false : (t : Bool) → (t || false) ≡ t
    or_false true = refl
    or_false false = refl

    rest_plain : (test : ℕ × InstrData → Bool) (earlier : List (ℕ × InstrData)) (i : ℕ × InstrData) (later : List (ℕ × InstrData)) → list_all test (earlier ++ i ∷ later) ≡ true → list_all test later ≡ true
    rest_plain test [] i later all = (and_parts (test i) (list_all test later) all).1
    rest_plain test (p ∷ earlier) i later all = rest_plain test earlier i later (and_parts (test p) (list_all test (earlier ++ i ∷ later)) all).1

pub wider_alike : (x : ℕ) (phase : Phase) (f g : FunctionData) (rs : List ℕ) → map (type_in phase g) rs ≡ map (type_in phase f) rs → is_wider x phase g rs ≡ is_wider x phase f rs
wider_alike x phase f g [] same = refl
wider_alike x phase f g (r ∷ rs) same =
    let here : ◌≡◌ {A = Option Llt} (type_in phase g r) (type_in phase f r) = cc in ap (λ ty. option_map_or (λ t. nat_lt x (width_of x t)) ty false) here

pub none_across : (x : ℕ) (phase : Phase) (w : Rewriting) (f g : FunctionData) → IsAccounted w f g → ArePlain w → KeepsTypes x phase w f g → MakesNoNewCall x phase w f g
    → told (physical_across x phase f) (sites f) ≡ [] → told (physical_across x phase g) (sites g) ≡ []
none_across x phase w f g a are keeps calls none = nothing_new w f g a.is (physical_across x phase f) (physical_across x phase g) (record { kept = kept; made = made }) none
  where
    kept : (b : ℕ) (front : List (ℕ × InstrData)) (p : ℕ × InstrData) (back : List (ℕ × InstrData)) → IsSite f b front p back → (p.0 == w.root.0) ≡ false → physical_across x phase f (site_of b front p back) ≡ None
        → physical_across x phase g (site_of b (rewritten w front) (entry_renamed w.rename p) (rewritten w back)) ≡ None
    kept b front p back site other old =
        let there : IsOneOf p (all_instrs f.blocks) = site_inside f b front p back site in
        let own : IsOwn w front × IsOwn w back = site_own w f g a.is b front p back site in
        let wider : is_wider x phase g (results_in (map (operand_renamed w.rename) p.1.operands)) ≡ is_wider x phase f (results_in p.1.operands) =
        ap (is_wider x phase g) (results_left w.rename p.1.operands)
        ∙ wider_alike x phase f g (results_in p.1.operands) (results_alike (type_in phase f) (type_in phase g) p.1.operands (λ r h. result_type x phase w f g a keeps p there other r h)) in
        ap₂ (λ t o. cond (is_call_op p.1.op || is_division p.1.op || (is_product p.1.op && t)) (option_map PhysicalAcross o) None) wider
        (same_found (goes_across f (site_of b front p back)) (goes_across g (site_of b (rewritten w front) (entry_renamed w.rename p) (rewritten w back))) (same_across w f g a.is are b front p back own.0 own.1) (range_with_len 0 32))
        ∙ old

    made : (b : ℕ) (front back : List (ℕ × InstrData)) → IsSite f b front w.root back → physical_across x phase f (site_of b front w.root back) ≡ None
        → (earlier : List (ℕ × InstrData)) (i : ℕ × InstrData) (later : List (ℕ × InstrData)) → w.made ≡ earlier ++ i ∷ later
        → physical_across x phase g (site_of b (rewritten w front ++ earlier) i (later ++ rewritten w back)) ≡ None
    made b front back site old earlier i later splits =
        by (may_call x phase g i.1) refl
      where
        now : ℕ → Bool
        now = goes_across g (site_of b (rewritten w front ++ earlier) i (later ++ rewritten w back))

        by : (t : Bool) → may_call x phase g i.1 ≡ t → cond (may_call x phase g i.1) (option_map PhysicalAcross (find now (range_with_len 0 32))) None ≡ None
        by false so = ap (λ t. cond t (option_map PhysicalAcross (find now (range_with_len 0 32))) None) so
        by true so =
            let own : IsOwn w front × IsOwn w back = site_own w f g a.is b front w.root back site in
            ap₂ (λ t o. cond t (option_map PhysicalAcross o) None) so (same_found (goes_across f (site_of b front w.root back)) now (root_across w f g a.is are b front back earlier i later own.0 own.1 splits) (range_with_len 0 32))
            ∙ sym (ap (λ t. cond t (option_map PhysicalAcross (find (goes_across f (site_of b front w.root back)) (range_with_len 0 32))) None) (calls.made i (one_of_made w.made earlier i later splits) so)) ∙ old
