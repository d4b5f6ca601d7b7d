-- Types still meet their rows.
use Rattle.std.proofs.Common.{◌≡◌, ℕ, zero, suc, ◌≤◌, Bool, true, false, cond, ◌&&◌, ◌==◌, List, [], ◌∷◌, ◌++◌, Option, Some, None, option_map, find, map, length, replicate, take, drop, inl, inr, ⊎_elim, refl, sym, ap, ap₂, ◌∙◌, subst, true≢false, unwrap_or}
use Rattle.std.proofs.lemmas.Bool.{or_parts, or_left, or_right, and_parts, eq-eqb, eqb-true, not-false, false_from_ne_true}
use Rattle.std.proofs.lemmas.List.{map-append}
use Rattle.std.specs.List.{list_any}
use Rattle.gi_llt.specs.declared.Llt.{Llt}
use Rattle.gi_mir.specs.Data.{InstrData, BlockData, FunctionData, reg_of}
use Rattle.gi_mir.specs.Edit.{all_instrs, is_def_of, is_use_of, defines, uses}
use Rattle.gi_mir.specs.Formed.{is_use}
use Rattle.gi_mir.specs.Registers.{first_there, kind_in_operand, kind_in_operands, kind_in_instrs, kind_in_blocks, kind_of, type_of_kind}
use Rattle.gi_mir.specs.Row.{memory_of, typing_of}
use Rattle.gi_mir.specs.Typings.{TypingData}
use Rattle.gi_mir.specs.declared.entry.InMemory.{InMemory}
use Rattle.gi_mir.specs.declared.operand.Kind.{Kind}
use Rattle.gi_mir.specs.declared.operand.Kind.TheVariants.{Class}
use Rattle.gi_mir.specs.declared.operand.MemOp.{MemOp}
use Rattle.gi_mir.specs.declared.operand.Operand.{Operand}
use Rattle.gi_mir.specs.declared.operand.Operand.TheVariants as operand
use Rattle.gi_replace.specs.InPlace.{operand_renamed, entry_renamed}
use Rattle.gi_valid.specs.Definitions.{is_copy, is_pure, definition, uses_purely, IsComputedOver, IsComputedFrom}
use Rattle.gi_valid.specs.Faults.{sites, told, definitions, times, type_mismatch}
use Rattle.gi_meaning.specs.InRow.{results_in, sources_in}
use Rattle.gi_valid.specs.Typing.{Phase, Typed, Selecting, Untyped, type_in, meets, is_met, first_unmet, joins_any, unmet, is_as_wide, unsized, value_in, is_roomy, unless_roomy, roomless, unsuited, mismatch}
use Rattle.gi_valid.specs.declared.invalid.Invalid.TheVariants.{TypeMismatch}
use Rattle.gi_valid.proofs.Single.{IsIn, one_definition}
use Rattle.gi_valid.proofs.Sited.{site_of}
use Rattle.gi_valid.proofs.Suited.{IsSuited, none_unsuited, suited_of}
use Rattle.gi_valid.proofs.Valid.{nothing_mapped}
use Rattle.gi_change_valid.specs.Conditions.{IsNew, DefinesAnew, is_replaced, AccountsForResults, KeepsTypes}
use Rattle.gi_change_valid.specs.Rewriting.{Rewriting, standing_for, rewritten, IsOneOf, IsRewritten}
use Rattle.gi_change_valid.proofs.Frames.{IsOwn, own_later}
use Rattle.gi_change_valid.proofs.Listed.{instrs_after, results_left, any_left}
use Rattle.gi_change_valid.proofs.Sites.{IsSite, nothing_new, site_inside}

-- ══ Kinds ══

first_assoc : (a b c : Option Kind) → first_there (first_there a b) c ≡ first_there a (first_there b c)
first_assoc None b c = refl
first_assoc (Some k) b c = refl

pub kind_append : (r : ℕ) (xs ys : List (ℕ × InstrData)) → kind_in_instrs r (xs ++ ys) ≡ first_there (kind_in_instrs r xs) (kind_in_instrs r ys)
kind_append r [] ys = refl
kind_append r (x ∷ xs) ys = ap (first_there (kind_in_operands r x.1.operands)) (kind_append r xs ys) ∙ sym (first_assoc (kind_in_operands r x.1.operands) (kind_in_instrs r xs) (kind_in_instrs r ys))

pub kind_in_all : (r : ℕ) (blocks : List BlockData) → kind_in_blocks r blocks ≡ kind_in_instrs r (all_instrs blocks)
kind_in_all r [] = refl
kind_in_all r (k ∷ blocks) = ap (first_there (kind_in_instrs r k.instrs)) (kind_in_all r blocks) ∙ sym (kind_append r k.instrs (all_instrs blocks))

pub kind_left : (r : ℕ) (rename : ℕ → ℕ) (os : List Operand) → kind_in_operands r (map (operand_renamed rename) os) ≡ kind_in_operands r os
kind_left r rename [] = refl
kind_left r rename (operand.Use q ∷ os) = kind_left r rename os
kind_left r rename (o ∷ os) = ap (first_there (kind_in_operand r o)) (kind_left r rename os)

first_alone : (a : Option Kind) → first_there a None ≡ a
first_alone None = refl
first_alone (Some k) = refl

kind_rewritten : (r : ℕ) (w : Rewriting) → kind_in_instrs r w.made ≡ kind_in_operands r w.root.1.operands → (is : List (ℕ × InstrData)) → IsOwn w is → kind_in_instrs r (rewritten w is) ≡ kind_in_instrs r is
kind_rewritten r w same [] own = refl
kind_rewritten r w same (p ∷ is) own =
    kind_append r (standing_for w p) (rewritten w is) ∙ ap₂ first_there (by (p.0 == w.root.0) refl) (kind_rewritten r w same is (own_later w p is own))
  where
    by : (t : Bool) → (p.0 == w.root.0) ≡ t → kind_in_instrs r (cond (p.0 == w.root.0) w.made (entry_renamed w.rename p ∷ [])) ≡ kind_in_operands r p.1.operands
    by true so =
        ap (λ t. kind_in_instrs r (cond t w.made (entry_renamed w.rename p ∷ []))) so ∙ same ∙ ap (λ (q : ℕ × InstrData). kind_in_operands r q.1.operands) (sym (own p (inl refl) so))
    by false so =
        ap (λ t. kind_in_instrs r (cond t w.made (entry_renamed w.rename p ∷ []))) so ∙ first_alone (kind_in_operands r (map (operand_renamed w.rename) p.1.operands)) ∙ kind_left r w.rename p.1.operands

-- a register that is made as the root defines it is what it was
pub kind_kept : (w : Rewriting) (f g : FunctionData) → IsRewritten w f g → (r : ℕ) → kind_in_instrs r w.made ≡ kind_in_operands r w.root.1.operands → kind_of g r ≡ kind_of f r
kind_kept w f g is r same =
    ap (λ k. unwrap_or k Class)
    (kind_in_all r g.blocks ∙ ap (kind_in_instrs r) (instrs_after w f g is) ∙ kind_rewritten r w same (all_instrs f.blocks) is.root ∙ sym (kind_in_all r f.blocks))

-- ══ Registers that aren't made ══

pub no_kind : (r : ℕ) (os : List Operand) → list_any (is_def_of r) os ≡ false → kind_in_operands r os ≡ None
no_kind r [] h = refl
no_kind r (operand.Def q kind ∷ os) h =
    let each : ((q.0 == r) ≡ false) × (list_any (is_def_of r) os ≡ false) = or_parts (q.0 == r) (list_any (is_def_of r) os) h in
    ap₂ (λ t k. first_there (cond t (Some kind) None) k) each.0 (no_kind r os each.1)
no_kind r (o ∷ os) h = no_kind r os h

pub no_kind_in : (r : ℕ) (is : List (ℕ × InstrData)) → list_any (defines r) is ≡ false → kind_in_instrs r is ≡ None
no_kind_in r [] h = refl
no_kind_in r (p ∷ is) h =
    let each : (defines r p ≡ false) × (list_any (defines r) is ≡ false) = or_parts (defines r p) (list_any (defines r) is) h in
    ap₂ first_there (no_kind r p.1.operands each.0) (no_kind_in r is each.1)

-- what holds of a register is one of three
abbrev pub IsMadeAlike : (w : Rewriting) (r : ℕ) → Type 0
IsMadeAlike w r = kind_in_instrs r w.made ≡ kind_in_operands r w.root.1.operands

pub other_alike : (w : Rewriting) (r : ℕ) → defines r w.root ≡ false → list_any (defines r) w.made ≡ false → IsMadeAlike w r
other_alike w r not_root not_made = no_kind_in r w.made not_made ∙ sym (no_kind r w.root.1.operands not_root)

-- ══ An instruction that is kept ══

pub in_list : (p : ℕ × InstrData) (is : List (ℕ × InstrData)) → IsOneOf p is → IsIn p is
in_list p [] there = there
in_list p (q ∷ is) there = ⊎_elim (λ same. inl same) (λ later. inr (in_list p is later)) there

any_of : (test : ℕ × InstrData → Bool) (p : ℕ × InstrData) (is : List (ℕ × InstrData)) → IsOneOf p is → test p ≡ true → list_any test is ≡ true
any_of test p [] there h = absurd there
any_of test p (q ∷ is) there h =
    ⊎_elim (λ same. or_left (test q) (list_any test is) (subst (λ k. test k ≡ true) same h)) (λ later. or_right (test q) (list_any test is) (any_of test p is later h)) there

-- what is known of a function before a rewriting
pub record IsAccounted (w : Rewriting) (f g : FunctionData) : Type 0 where
  pub is : IsRewritten w f g
  pub anew : DefinesAnew w f
  pub results : AccountsForResults w f
  pub once : (r : ℕ) → times r (definitions (all_instrs f.blocks)) ≤ 1

-- a kept instruction defines no result of the root
pub not_root : (w : Rewriting) (f g : FunctionData) → IsAccounted w f g → (p : ℕ × InstrData) → IsOneOf p (all_instrs f.blocks) → (p.0 == w.root.0) ≡ false → (r : ℕ) → defines r p ≡ true → defines r w.root ≡ false
not_root w f g a p there other r h =
    false_from_ne_true (defines r w.root) (λ l.
    let same : p ≡ w.root = one_definition r (all_instrs f.blocks) (a.once r) p w.root (in_list p (all_instrs f.blocks) there) (in_list w.root (all_instrs f.blocks) a.is.there) h l in
    true≢false (sym (eq-eqb p.0 w.root.0 (ap (λ (q : ℕ × InstrData). q.0) same)) ∙ other))

-- nor what is made
pub not_made : (w : Rewriting) (f g : FunctionData) → IsAccounted w f g → (r : ℕ) → defines r w.root ≡ false → (IsNew f r → ⊥) → list_any (defines r) w.made ≡ false
not_made w f g a r not_result old = false_from_ne_true (list_any (defines r) w.made) (λ made. ⊎_elim (λ root. true≢false (sym root ∙ not_result)) old (a.anew.own r made))

pub not_new_defined : (f : FunctionData) (p : ℕ × InstrData) → IsOneOf p (all_instrs f.blocks) → (r : ℕ) → defines r p ≡ true → IsNew f r → ⊥
not_new_defined f p there r h new = true≢false (sym (any_of (defines r) p (all_instrs f.blocks) there h) ∙ new.undefined)

pub not_new_used : (f : FunctionData) (p : ℕ × InstrData) → IsOneOf p (all_instrs f.blocks) → (r : ℕ) → uses r p ≡ true → IsNew f r → ⊥
not_new_used f p there r h new = true≢false (sym (any_of (uses r) p (all_instrs f.blocks) there h) ∙ new.unused)

-- a register that another is computed from is used
found_used : (y : ℕ) (is : List (ℕ × InstrData)) (found : Option (ℕ × InstrData)) → ((d : ℕ × InstrData) → found ≡ Some d → IsOneOf d is) → uses_purely found y ≡ true → list_any (uses y) is ≡ true
found_used y is None there h = cc
found_used y is (Some d) there h = any_of (uses y) d is (there d refl) (and_parts (is_pure d.1) (uses y d) h).1

pub found_there : (test : ℕ × InstrData → Bool) (is : List (ℕ × InstrData)) (d : ℕ × InstrData) → find test is ≡ Some d → IsOneOf d is × (test d ≡ true)
found_there test [] d h = cc
found_there test (i ∷ is) d h = by (test i) refl h (λ l. found_there test is d l)
  where
    by : (t : Bool) → test i ≡ t → cond t (Some i) (find test is) ≡ Some d → (find test is ≡ Some d → IsOneOf d is × (test d ≡ true)) → IsOneOf d (i ∷ is) × (test d ≡ true)
    by true so h rest = let same : i ≡ d = cc in (inl (sym same), subst (λ k. test k ≡ true) same so)
    by false so h rest = let later : IsOneOf d is × (test d ≡ true) = rest h in (inr later.0, later.1)

origin_over : (f : FunctionData) (n r y : ℕ) → IsComputedOver n f r y → list_any (uses y) (all_instrs f.blocks) ≡ true
origin_over f zero r y h = found_used y (all_instrs f.blocks) (definition f r) (λ d found. (found_there (defines r) (all_instrs f.blocks) d found).0) h
origin_over f (suc n) r y h = origin_over f n h.0 y h.2

pub origin_used : (f : FunctionData) (r y : ℕ) → IsComputedFrom f r y → list_any (uses y) (all_instrs f.blocks) ≡ true
origin_used f r y h = origin_over f h.others r y h.over

-- the register that stands for a result is what it was
pub stand_in_alike : (w : Rewriting) (f g : FunctionData) → IsAccounted w f g → (r : ℕ) → is_replaced w r ≡ true → IsMadeAlike w (w.rename r)
stand_in_alike w f g a r replaced =
    let not_result : defines (w.rename r) w.root ≡ false = a.results.apart r replaced in
    other_alike w (w.rename r) not_result (not_made w f g a (w.rename r) not_result (λ new. true≢false (sym (origin_used f r (w.rename r) (a.results.origins r replaced)) ∙ new.unused)))

result_alike : (x : ℕ) (phase : Phase) (w : Rewriting) (f g : FunctionData) → IsAccounted w f g → KeepsTypes x phase w f g → (p : ℕ × InstrData) → IsOneOf p (all_instrs f.blocks) → (p.0 == w.root.0) ≡ false → (r : ℕ) → defines r p ≡ true
    → kind_of g r ≡ kind_of f r
result_alike x phase w f g a keeps p there other r h =
    let not_result : defines r w.root ≡ false = not_root w f g a p there other r h in
    kind_kept w f g a.is r (other_alike w r not_result (not_made w f g a r not_result (not_new_defined f p there r h)))

pub type_alike : (phase : Phase) (f g : FunctionData) (q r : ℕ) → type_of_kind (kind_of g q) ≡ type_of_kind (kind_of f r) → type_in phase g q ≡ type_in phase f r
type_alike Typed f g q r same = same
type_alike Selecting f g q r same = same
type_alike Untyped f g q r same = refl

use_alike : (x : ℕ) (phase : Phase) (w : Rewriting) (f g : FunctionData) → IsAccounted w f g → KeepsTypes x phase w f g → (p : ℕ × InstrData) → IsOneOf p (all_instrs f.blocks) → (r : ℕ) → uses r p ≡ true
    → type_in phase g (w.rename r) ≡ type_in phase f r
use_alike x phase w f g a keeps p there r h = by (is_replaced w r) refl
  where
    by_result : (t : Bool) → defines r w.root ≡ t → is_replaced w r ≡ false → IsMadeAlike w r
    by_result true so kept = keeps.own r (a.results.covered r so kept) so
    by_result false so kept = other_alike w r so (not_made w f g a r so (not_new_used f p there r h))

    by : (t : Bool) → is_replaced w r ≡ t → type_in phase g (w.rename r) ≡ type_in phase f r
    by true so = type_alike phase f g (w.rename r) (w.rename r) (ap type_of_kind (kind_kept w f g a.is (w.rename r) (stand_in_alike w f g a r so))) ∙ keeps.replaced r so
    by false so =
        let same : w.rename r ≡ r = eqb-true (w.rename r) r (not-false (w.rename r == r) so) in
        ap (type_in phase g) same ∙ type_alike phase f g r r (ap type_of_kind (kind_kept w f g a.is r (by_result (defines r w.root) refl so)))

pub result_type : (x : ℕ) (phase : Phase) (w : Rewriting) (f g : FunctionData) → IsAccounted w f g → KeepsTypes x phase w f g → (p : ℕ × InstrData) → IsOneOf p (all_instrs f.blocks) → (p.0 == w.root.0) ≡ false → (r : ℕ) → defines r p ≡ true
    → type_in phase g r ≡ type_in phase f r
result_type x phase w f g a keeps p there other r h = type_alike phase f g r r (ap type_of_kind (result_alike x phase w f g a keeps p there other r h))

-- ══ Rows ══

pub results_alike : (tf tg : ℕ → Option Llt) (os : List Operand) → ((r : ℕ) → list_any (is_def_of r) os ≡ true → tg r ≡ tf r) → map tg (results_in os) ≡ map tf (results_in os)
results_alike tf tg [] same = refl
results_alike tf tg (operand.Def r kind ∷ os) same =
    ap₂ (λ t ts. t ∷ ts) (same r.0 (or_left (r.0 == r.0) (list_any (is_def_of r.0) os) (eq-eqb r.0 r.0 refl))) (results_alike tf tg os (λ q h. same q (or_right (r.0 == q) (list_any (is_def_of q) os) h)))
results_alike tf tg (_ ∷ os) same = results_alike tf tg os same

sources_alike : (tf tg : ℕ → Option Llt) (rename : ℕ → ℕ) (os : List Operand) → ((r : ℕ) → list_any (is_use_of r) os ≡ true → tg (rename r) ≡ tf r) → map tg (sources_in (map (operand_renamed rename) os)) ≡ map tf (sources_in os)
sources_alike tf tg rename [] same = refl
sources_alike tf tg rename (operand.Use r ∷ os) same =
    ap₂ (λ t ts. t ∷ ts) (same r.0 (or_left (r.0 == r.0) (list_any (is_use_of r.0) os) (eq-eqb r.0 r.0 refl))) (sources_alike tf tg rename os (λ q h. same q (or_right (r.0 == q) (list_any (is_use_of q) os) h)))
sources_alike tf tg rename (_ ∷ os) same = sources_alike tf tg rename os same

same_length : (tf tg : ℕ → Option Llt) (rs qs : List ℕ) → map tg qs ≡ map tf rs → length qs ≡ length rs
same_length tf tg [] [] h = refl
same_length tf tg [] (q ∷ qs) h = cc
same_length tf tg (r ∷ rs) [] h = cc
same_length tf tg (r ∷ rs) (q ∷ qs) h = ap suc (same_length tf tg rs qs cc)

pub still_unmet : (x : ℕ) (tf tg : ℕ → Option Llt) (typing : TypingData) (n : ℕ) (before before' behind behind' : List ℕ) → map tg before' ≡ map tf before → map tg behind' ≡ map tf behind
    → first_unmet x tf typing n before behind ≡ None → first_unmet x tg typing n before' behind' ≡ None
still_unmet x tf tg typing n before before' [] [] front back none = refl
still_unmet x tf tg typing n before before' [] (q ∷ qs) front back none = cc
still_unmet x tf tg typing n before before' (r ∷ rs) [] front back none = cc
still_unmet x tf tg typing n before before' (r ∷ rs) (q ∷ qs) front back none =
    let here : ◌≡◌ {A = Option Llt} (tg q) (tf r) = cc in
    let rest : map tg qs ≡ map tf rs = cc in
    let more : map tg (before' ++ q ∷ []) ≡ map tf (before ++ r ∷ []) = map-append tg before' (q ∷ []) ∙ ap₂ (λ a b. a ++ b ∷ []) front here ∙ sym (map-append tf before (r ∷ [])) in
    let met : is_met x tg typing n (before' ++ q ∷ []) (length qs) ≡ is_met x tf typing n (before ++ r ∷ []) (length rs) =
    ap₂ (λ types later. meets x typing (take n (types ++ replicate later None)) (drop n (types ++ replicate later None))) more (same_length tf tg rs qs rest) in
    by (is_met x tf typing n (before ++ r ∷ []) (length rs)) refl met none (λ l. still_unmet x tf tg typing n (before ++ r ∷ []) (before' ++ q ∷ []) rs qs more rest l)
  where
    by : (t : Bool) → is_met x tf typing n (before ++ r ∷ []) (length rs) ≡ t → is_met x tg typing n (before' ++ q ∷ []) (length qs) ≡ is_met x tf typing n (before ++ r ∷ []) (length rs)
        → cond (is_met x tf typing n (before ++ r ∷ []) (length rs)) (first_unmet x tf typing n (before ++ r ∷ []) rs) (Some r) ≡ None
        → (first_unmet x tf typing n (before ++ r ∷ []) rs ≡ None → first_unmet x tg typing n (before' ++ q ∷ []) qs ≡ None)
        → cond (is_met x tg typing n (before' ++ q ∷ []) (length qs)) (first_unmet x tg typing n (before' ++ q ∷ []) qs) (Some q) ≡ None
    by true so met none rest =
        ap (λ t. cond t (first_unmet x tg typing n (before' ++ q ∷ []) qs) (Some q)) (met ∙ so) ∙ rest (sym (ap (λ t. cond t (first_unmet x tf typing n (before ++ r ∷ []) rs) (Some r)) so) ∙ none)
    by false so met none rest = absurd (some_none (sym (ap (λ t. cond t (first_unmet x tf typing n (before ++ r ∷ []) rs) (Some r)) so) ∙ none))
      where
        some_none : Some r ≡ None → ⊥
        some_none h = cc

use_left : (rename : ℕ → ℕ) (o : Operand) → is_use (operand_renamed rename o) ≡ is_use o
use_left rename (operand.Use r) = refl
use_left rename (_) = refl

joins_left : (phase : Phase) (rename : ℕ → ℕ) (p : ℕ × InstrData) → joins_any phase (entry_renamed rename p).1 ≡ joins_any phase p.1
joins_left Typed rename p = refl
joins_left Untyped rename p = refl
joins_left Selecting rename p = ap (λ t. is_copy p.1.op && t) (any_left is_use rename (use_left rename) p.1.operands)

unmet_left : (x : ℕ) (tf tg : ℕ → Option Llt) (rename : ℕ → ℕ) (os : List Operand) → ((r : ℕ) → list_any (is_def_of r) os ≡ true → tg r ≡ tf r) → ((r : ℕ) → list_any (is_use_of r) os ≡ true → tg (rename r) ≡ tf r)
    → (typing : Option TypingData) → unmet x tf typing os ≡ None → unmet x tg typing (map (operand_renamed rename) os) ≡ None
unmet_left x tf tg rename os results sources None none = refl
unmet_left x tf tg rename os results sources (Some typing) none =
    let left : results_in (map (operand_renamed rename) os) ≡ results_in os = results_left rename os in
    let now : List ℕ = sources_in (map (operand_renamed rename) os) in
    let types : map tg (results_in os ++ now) ≡ map tf (results_in os ++ sources_in os) =
    map-append tg (results_in os) now ∙ ap₂ (λ a b. a ++ b) (results_alike tf tg os results) (sources_alike tf tg rename os sources) ∙ sym (map-append tf (results_in os) (sources_in os)) in
    ap (λ rs. first_unmet x tg typing (length rs) [] (rs ++ now)) left
    ∙ still_unmet x tf tg typing (length (results_in os)) [] [] (results_in os ++ sources_in os) (results_in os ++ now) refl types none

unsized_left : (x : ℕ) (tf tg : ℕ → Option Llt) (rename : ℕ → ℕ) (os : List Operand) → ((r : ℕ) → list_any (is_def_of r) os ≡ true → tg r ≡ tf r) → unsized x tf os ≡ None → unsized x tg (map (operand_renamed rename) os) ≡ None
unsized_left x tf tg rename (operand.Def r kind ∷ operand.Constant bits value ∷ []) results none =
    ap (λ t. cond (is_as_wide x bits t) None (Some r.0)) (results r.0 (or_left (r.0 == r.0) (list_any (is_def_of r.0) (operand.Constant bits value ∷ [])) (eq-eqb r.0 r.0 refl))) ∙ none
unsized_left x tf tg rename _ results none = refl

-- a register of the same type has room as well
roomy_left : (tf tg : ℕ → Option Llt) (kept : InMemory) (in_memory : Llt) (r q : ℕ) → tg q ≡ tf r → unless_roomy tf kept in_memory (Some r) ≡ None → unless_roomy tg kept in_memory (Some q) ≡ None
roomy_left tf tg kept in_memory r q same none = ap (λ ty. cond (is_roomy kept ty in_memory) None (Some q)) same ∙ by (is_roomy kept (tf r) in_memory) none
  where
    by : (t : Bool) → cond t None (Some r) ≡ None → cond t None (Some q) ≡ None
    by true none = refl
    by false none = cc

value_left : (tf tg : ℕ → Option Llt) (rename : ℕ → ℕ) (kept : InMemory) (in_memory : Llt) (os : List Operand) → ((r : ℕ) → list_any (is_def_of r) os ≡ true → tg r ≡ tf r) → ((r : ℕ) → list_any (is_use_of r) os ≡ true → tg (rename r) ≡ tf r)
    → unless_roomy tf kept in_memory (value_in os) ≡ None → unless_roomy tg kept in_memory (value_in (map (operand_renamed rename) os)) ≡ None
value_left tf tg rename kept in_memory (operand.Def r kind ∷ os) results sources none =
    roomy_left tf tg kept in_memory r.0 r.0 (results r.0 (or_left (r.0 == r.0) (list_any (is_def_of r.0) os) (eq-eqb r.0 r.0 refl))) none
value_left tf tg rename kept in_memory (operand.Use r ∷ os) results sources none =
    roomy_left tf tg kept in_memory r.0 (rename r.0) (sources r.0 (or_left (r.0 == r.0) (list_any (is_use_of r.0) os) (eq-eqb r.0 r.0 refl))) none
value_left tf tg rename kept in_memory _ results sources none = refl

roomless_left : (tf tg : ℕ → Option Llt) (rename : ℕ → ℕ) (kept : InMemory) (mem : Option MemOp) (os : List Operand) → ((r : ℕ) → list_any (is_def_of r) os ≡ true → tg r ≡ tf r) → ((r : ℕ) → list_any (is_use_of r) os ≡ true → tg (rename r) ≡ tf r)
    → roomless tf kept mem os ≡ None → roomless tg kept mem (map (operand_renamed rename) os) ≡ None
roomless_left tf tg rename kept None os results sources none = refl
roomless_left tf tg rename kept (Some mem) os results sources none = value_left tf tg rename kept mem.ty os results sources none

unsuited_left : (x : ℕ) (tf tg : ℕ → Option Llt) (rename : ℕ → ℕ) (p : ℕ × InstrData) → ((r : ℕ) → defines r p ≡ true → tg r ≡ tf r) → ((r : ℕ) → uses r p ≡ true → tg (rename r) ≡ tf r)
    → unsuited x tf p.1 ≡ None → unsuited x tg (entry_renamed rename p).1 ≡ None
unsuited_left x tf tg rename p results sources none =
    let old : IsSuited x tf p.1 = suited_of x tf p.1 none in
    none_unsuited x tg (entry_renamed rename p).1 (record {
      room = roomless_left tf tg rename (memory_of p.1.op) p.1.mem p.1.operands results sources old.room;
      row = unmet_left x tf tg rename p.1.operands results sources (typing_of p.1.op) old.row;
      sized = λ constant. unsized_left x tf tg rename p.1.operands results (old.sized constant);
    })

pub mismatch_left : (x : ℕ) (phase : Phase) (f g : FunctionData) (rename : ℕ → ℕ) (p : ℕ × InstrData) → ((r : ℕ) → defines r p ≡ true → type_in phase g r ≡ type_in phase f r) → ((r : ℕ) → uses r p ≡ true → type_in phase g (rename r) ≡ type_in phase f r)
    → mismatch x phase f p.1 ≡ None → mismatch x phase g (entry_renamed rename p).1 ≡ None
mismatch_left x phase f g rename p results sources none = by (joins_any phase p.1) refl
  where
    by : (t : Bool) → joins_any phase p.1 ≡ t → mismatch x phase g (entry_renamed rename p).1 ≡ None
    by true so = ap (λ t. cond t None (unsuited x (type_in phase g) (entry_renamed rename p).1)) (joins_left phase rename p ∙ so)
    by false so =
        ap (λ t. cond t None (unsuited x (type_in phase g) (entry_renamed rename p).1)) (joins_left phase rename p ∙ so)
        ∙ unsuited_left x (type_in phase f) (type_in phase g) rename p results sources (sym (ap (λ t. cond t None (unsuited x (type_in phase f) p.1)) so) ∙ none)

-- ══ All instructions ══

pub one_of_made : (made earlier : List (ℕ × InstrData)) (i : ℕ × InstrData) (later : List (ℕ × InstrData)) → made ≡ earlier ++ i ∷ later → IsOneOf i made
one_of_made made earlier i later splits = subst (λ l. IsOneOf i l) (sym splits) (there earlier)
  where
    there : (earlier : List (ℕ × InstrData)) → IsOneOf i (earlier ++ i ∷ later)
    there [] = inl refl
    there (e ∷ earlier) = inr (there earlier)

pub types_still_meet : (x : ℕ) (phase : Phase) (w : Rewriting) (f g : FunctionData) → IsAccounted w f g → KeepsTypes x phase w f g → told (type_mismatch x phase f) (sites f) ≡ [] → told (type_mismatch x phase g) (sites g) ≡ []
types_still_meet x phase w f g a keeps none = nothing_new w f g a.is (type_mismatch x phase f) (type_mismatch x phase g) (record { kept = kept; made = made }) none
  where
    kept : (b : ℕ) (front : List (ℕ × InstrData)) (p : ℕ × InstrData) (back : List (ℕ × InstrData)) → IsSite f b front p back → (p.0 == w.root.0) ≡ false → type_mismatch x phase f (site_of b front p back) ≡ None
        → type_mismatch x phase g (site_of b (rewritten w front) (entry_renamed w.rename p) (rewritten w back)) ≡ None
    kept b front p back site other old =
        let there : IsOneOf p (all_instrs f.blocks) = site_inside f b front p back site in
        ap (λ o. option_map (λ r. TypeMismatch (reg_of r)) o)
        (mismatch_left x phase f g w.rename p (λ r h. result_type x phase w f g a keeps p there other r h) (λ r h. use_alike x phase w f g a keeps p there r h)
        (nothing_mapped (λ r. TypeMismatch (reg_of r)) (mismatch x phase f p.1) old))

    made : (b : ℕ) (front back : List (ℕ × InstrData)) → IsSite f b front w.root back → type_mismatch x phase f (site_of b front w.root back) ≡ None
        → (earlier : List (ℕ × InstrData)) (i : ℕ × InstrData) (later : List (ℕ × InstrData)) → w.made ≡ earlier ++ i ∷ later
        → type_mismatch x phase g (site_of b (rewritten w front ++ earlier) i (later ++ rewritten w back)) ≡ None
    made b front back site old earlier i later splits = ap (λ o. option_map (λ r. TypeMismatch (reg_of r)) o) (keeps.made i (one_of_made w.made earlier i later splits))
