-- A copy of a valid function, and the function in which each use of its result is one of its source.
use mathlib.Core.Path.{fun_ext}
use Rattle.std.proofs.Common.{◌≡◌, ℕ, ◌+◌, ◌≤◌, Bool, true, false, cond, not, ◌||◌, ◌==◌, List, [], ◌∷◌, ◌++◌, Option, Some, None, map, inl, inr, ⊎_elim, refl, sym, ap, ap₂, ◌∙◌, subst, arith, true≢false, eqb-true, eq-eqb}
use Rattle.std.proofs.lemmas.Bool.{false_from_ne_true, or_cases, or_left}
use Rattle.gi_llt.specs.declared.Llt.{Llt}
use Rattle.gi_mir.specs.Data.{InstrData, BlockData, FunctionData}
use Rattle.gi_mir.specs.Edit.{all_instrs, defines, uses}
use Rattle.gi_mir.specs.Ids.{AreOwnIds}
use Rattle.gi_mir.specs.Registers.{first_there, kind_in_operands, kind_of, type_of_kind}
use Rattle.gi_mir.specs.Uses.{block_replaced, entry_replaced, with_reg_replaced}
use Rattle.gi_mir.specs.declared.operand.Kind.{Kind}
use Rattle.gi_replace.specs.InPlace.{entry_renamed}
use Rattle.gi_valid.specs.Definitions.{IsComputedFrom, definition, uses_purely}
use Rattle.gi_valid.specs.Faults.{may_call}
use Rattle.gi_valid.specs.Typing.{Phase, joins_any, mismatch, type_in, unsuited}
use Rattle.gi_valid.specs.Valid.{IsValid}
use Rattle.gi_change_valid.specs.Conditions.{AccountsForResults, ArePlain, DefinesAnew, KeepsTypes, MakesNoNewCall, ReadsOrigins, is_replaced}
use Rattle.gi_change_valid.specs.Rewriting.{IsOneOf, IsRewritten, Rewriting, block_rewritten, rewritten}
use Rattle.gi_change_valid.proofs.Circles.{HasPlace, IsKnown, is_definition, is_here, none_in_circle, site_of_one, use_at}
use Rattle.gi_change_valid.proofs.Placed.{found_by_id}
use Rattle.gi_change_valid.proofs.Typed.{kind_kept, one_of_made, type_alike}
use Rattle.gi_change_valid.proofs.Valid.{great_of, instr_met, known_of, stays_valid}
use Rattle.gi_change_refines.proofs.Elsewhere.{in_left, in_right}
use Rattle.gi_rule_valid.proofs.InPlace.{is_replaced_by}
use Rattle.gi_rule_refines.specs.Copies.{IsCopy, copy_between}
use Rattle.gi_rule_refines.proofs.CopyLists.{entry_is_renamed, stand_in}

-- ══ The copy ══

pub record IsCopied (x : ℕ) (phase : Phase) (f : FunctionData) (id d s : ℕ) : Type 0 where
  pub valid : IsValid x phase f
  pub own : AreOwnIds f.blocks f.next_id
  pub copy : IsCopy f id d s

abbrev pub root_of : (f : FunctionData) (id d s : ℕ) → IsCopy f id d s → InstrData
root_of f id d s c = copy_between d s c.kind c.flags c.mem c.line

pub copy_there : (f : FunctionData) (id d s : ℕ) → (c : IsCopy f id d s) → IsOneOf (id, root_of f id d s c) (all_instrs f.blocks)
copy_there f id d s c = found_by_id f id (root_of f id d s c) c.live c.is

-- it defines d alone, and reads s alone
defined_is : (f : FunctionData) (id d s : ℕ) → (c : IsCopy f id d s) → (r : ℕ) → defines r (id, root_of f id d s c) ≡ true → d ≡ r
defined_is f id d s c r h = ⊎_elim (λ same. eqb-true d r same) (λ none. cc) (or_cases (d == r) false h)

defines_it : (f : FunctionData) (id d s : ℕ) → (c : IsCopy f id d s) → defines d (id, root_of f id d s c) ≡ true
defines_it f id d s c = or_left (d == d) false (eq-eqb d d refl)

used_is : (f : FunctionData) (id d s : ℕ) → (c : IsCopy f id d s) → (r : ℕ) → uses r (id, root_of f id d s c) ≡ true → s ≡ r
used_is f id d s c r h = ⊎_elim (λ same. eqb-true s r same) (λ none. cc) (or_cases (s == r) false h)

pub uses_it : (f : FunctionData) (id d s : ℕ) → (c : IsCopy f id d s) → uses s (id, root_of f id d s c) ≡ true
uses_it f id d s c = or_left (s == s) false (eq-eqb s s refl)

pub copy_defines : (x : ℕ) (phase : Phase) (f : FunctionData) (id d s : ℕ) → (c : IsCopied x phase f id d s) → definition f d ≡ Some (id, root_of f id d s c.copy)
copy_defines x phase f id d s c = is_definition f (known_of x phase f c.valid).once d (id, root_of f id d s c.copy) (copy_there f id d s c.copy) (defines_it f id d s c.copy)

computed_from : (x : ℕ) (phase : Phase) (f : FunctionData) (id d s : ℕ) → IsCopied x phase f id d s → IsComputedFrom f d s
computed_from x phase f id d s c = record { others = 0; over = ap (λ o. uses_purely o s) (copy_defines x phase f id d s c) ∙ uses_it f id d s c.copy }

-- nothing is a copy of itself
pub copy_apart : (x : ℕ) (phase : Phase) (f : FunctionData) (id d s : ℕ) → IsCopied x phase f id d s → (d == s) ≡ false
copy_apart x phase f id d s c =
    false_from_ne_true (d == s) (λ same.
    let known : IsKnown f (great_of f) = known_of x phase f c.valid in
    let loop : IsComputedFrom f s s = subst (λ k. IsComputedFrom f k s) (eqb-true d s same) (computed_from x phase f id d s c) in
    let place : HasPlace f (id, root_of f id d s c.copy) = site_of_one f (id, root_of f id d s c.copy) (copy_there f id d s c.copy) in
    let here : is_here (great_of f) place.block place.front s ≡ true = use_at f (great_of f) known place.block place.front (id, root_of f id d s c.copy) place.back place.site refl s (uses_it f id d s c.copy) in
    true≢false (sym here ∙ none_in_circle f (great_of f) known s loop place.block place.site.block place.site.found place.front ((id, root_of f id d s c.copy) ∷ place.back) place.site.splits s loop))

-- ══ The rewriting ══

-- the copy stays, and others read s where they read d
abbrev pub copying : (id d s : ℕ) (root : InstrData) → Rewriting
copying id d s root = record { root = (id, root); rename = stand_in d s; made = (id, root) ∷ [] }

pub stays_itself : (f : FunctionData) (id d s : ℕ) → (c : IsCopy f id d s) → entry_replaced d s (id, root_of f id d s c) ≡ (id, root_of f id d s c)
stays_itself f id d s c = ap (λ n. (id, copy_between d n c.kind c.flags c.mem c.line)) (by (s == d))
  where
    by : (t : Bool) → ◌≡◌ {A = ℕ} (cond t s s) s
    by true = refl
    by false = refl

each_rewritten : (f : FunctionData) (id d s : ℕ) → (c : IsCopy f id d s) → (is : List (ℕ × InstrData)) → ((p : ℕ × InstrData) → IsOneOf p is → (p.0 == id) ≡ true → p ≡ (id, root_of f id d s c))
    → map (entry_replaced d s) is ≡ rewritten (copying id d s (root_of f id d s c)) is
each_rewritten f id d s c [] own = refl
each_rewritten f id d s c (p ∷ is) own = by (p.0 == id) refl (each_rewritten f id d s c is (λ q there. own q (inr there)))
  where
    by : (t : Bool) → (p.0 == id) ≡ t → map (entry_replaced d s) is ≡ rewritten (copying id d s (root_of f id d s c)) is
        → map (entry_replaced d s) (p ∷ is) ≡ cond t ((id, root_of f id d s c) ∷ []) (entry_renamed (stand_in d s) p ∷ []) ++ rewritten (copying id d s (root_of f id d s c)) is
    by true so rest = ap₂ (λ q l. q ∷ l) (ap (entry_replaced d s) (own p (inl refl) so) ∙ stays_itself f id d s c) rest
    by false so rest = ap₂ (λ q l. q ∷ l) (entry_is_renamed d s p) rest

blocks_rewritten : (f : FunctionData) (id d s : ℕ) → (c : IsCopy f id d s) → (blocks : List BlockData) → ((p : ℕ × InstrData) → IsOneOf p (all_instrs blocks) → (p.0 == id) ≡ true → p ≡ (id, root_of f id d s c))
    → map (block_replaced d s) blocks ≡ map (block_rewritten (copying id d s (root_of f id d s c))) blocks
blocks_rewritten f id d s c [] own = refl
blocks_rewritten f id d s c (b ∷ blocks) own =
    ap₂ (λ is rest. record b { instrs = is } ∷ rest) (each_rewritten f id d s c b.instrs (λ p there. own p (in_left p b.instrs (all_instrs blocks) there)))
    (blocks_rewritten f id d s c blocks (λ p there. own p (in_right p b.instrs (all_instrs blocks) there)))

pub copied : (x : ℕ) (phase : Phase) (f : FunctionData) (id d s : ℕ) → (c : IsCopied x phase f id d s) → IsRewritten (copying id d s (root_of f id d s c.copy)) f (with_reg_replaced d s f)
copied x phase f id d s c =
    let is = is_replaced_by f id (root_of f id d s c.copy) [] c.own c.copy.live c.copy.is in
    record { once = is.once; root = is.root; there = is.there; blocks = blocks_rewritten f id d s c.copy f.blocks is.root }

-- ══ Kinds ══

first_alone : (o : Option Kind) → first_there o None ≡ o
first_alone None = refl
first_alone (Some k) = refl

pub kind_same : (x : ℕ) (phase : Phase) (f : FunctionData) (id d s : ℕ) → (c : IsCopied x phase f id d s) → (r : ℕ) → kind_of (with_reg_replaced d s f) r ≡ kind_of f r
kind_same x phase f id d s c r =
    kind_kept (copying id d s (root_of f id d s c.copy)) f (with_reg_replaced d s f) (copied x phase f id d s c) r (first_alone (kind_in_operands r (root_of f id d s c.copy).operands))

-- what stands for a register is of its kind
pub kind_stands : (x : ℕ) (phase : Phase) (f : FunctionData) (id d s : ℕ) → (c : IsCopied x phase f id d s) → (r : ℕ) → kind_of f (stand_in d s r) ≡ kind_of f r
kind_stands x phase f id d s c r = by (r == d) refl
  where
    by : (t : Bool) → (r == d) ≡ t → kind_of f (cond t s r) ≡ kind_of f r
    by true so = sym c.copy.alike ∙ ap (kind_of f) (sym (eqb-true r d so))
    by false so = refl

pub types_same : (x : ℕ) (phase : Phase) (f : FunctionData) (id d s : ℕ) → IsCopied x phase f id d s → type_in phase (with_reg_replaced d s f) ≡ type_in phase f
types_same x phase f id d s c = fun_ext (λ r. type_alike phase f (with_reg_replaced d s f) r r (ap type_of_kind (kind_same x phase f id d s c r)))

pub type_stands : (x : ℕ) (phase : Phase) (f : FunctionData) (id d s : ℕ) → IsCopied x phase f id d s → (r : ℕ) → type_in phase f (stand_in d s r) ≡ type_in phase f r
type_stands x phase f id d s c r = type_alike phase f f (stand_in d s r) r (ap type_of_kind (kind_stands x phase f id d s c r))

-- ══ Valid ══

pub copied_valid : (x : ℕ) (phase : Phase) (f : FunctionData) (id d s : ℕ) → IsCopied x phase f id d s → IsValid x phase (with_reg_replaced d s f)
copied_valid x phase f id d s c = stays_valid x phase w f g (copied x phase f id d s c) plain anew results reads kinds calls c.valid
  where
    root : InstrData
    root = root_of f id d s c.copy

    g : FunctionData
    g = with_reg_replaced d s f

    w : Rewriting
    w = copying id d s (root_of f id d s c.copy)

    plain : ArePlain (copying id d s (root_of f id d s c.copy))
    plain = record { root = refl; made = refl }

    anew : DefinesAnew (copying id d s (root_of f id d s c.copy)) f
    anew = record { once = λ r. few (d == r); own = λ r made. inl (only (defines r (id, root_of f id d s c.copy)) made) }
      where
        few : (t : Bool) → cond t 1 0 + 0 ≤ 1
        few true = omega arith
        few false = omega arith

        only : (t : Bool) → (t || false) ≡ true → t ≡ true
        only true h = refl
        only false h = cc

    moved : (r : ℕ) → is_replaced (copying id d s (root_of f id d s c.copy)) r ≡ true → r ≡ d
    moved r h = by (r == d) refl
      where
        by : (t : Bool) → (r == d) ≡ t → r ≡ d
        by true so = eqb-true r d so
        by false so = absurd (true≢false (sym h ∙ ap (λ t. not (cond t s r == r)) so ∙ ap not (eq-eqb r r refl)))

    stands : stand_in d s d ≡ s
    stands = ap (λ t. cond t s d) (eq-eqb d d refl)

    results : AccountsForResults (copying id d s (root_of f id d s c.copy)) f
    results = record {
      results = λ r so. subst (λ k. defines k (id, root_of f id d s c.copy) ≡ true) (sym (moved r so)) (defines_it f id d s c.copy);
      covered = λ r result so. or_left (defines r (id, root_of f id d s c.copy)) false result;
      origins = λ r so. subst (λ k. IsComputedFrom f k (stand_in d s k)) (sym (moved r so)) (subst (IsComputedFrom f d) (sym stands) (computed_from x phase f id d s c));
      apart = λ r so. subst (λ k. defines (stand_in d s k) (id, root_of f id d s c.copy) ≡ false) (sym (moved r so))
          (subst (λ k. defines k (id, root_of f id d s c.copy) ≡ false) (sym stands) (ap (λ t. t || false) (copy_apart x phase f id d s c)));
    }

    reads : ReadsOrigins (copying id d s (root_of f id d s c.copy)) f
    reads = record {
      pure = refl;
      read = λ earlier i later splits r used. inr (from i r (one_of_made ((id, root_of f id d s c.copy) ∷ []) earlier i later splits) used);
    }
      where
        from : (i : ℕ × InstrData) (r : ℕ) → IsOneOf i ((id, root_of f id d s c.copy) ∷ []) → uses r i ≡ true → (q : ℕ) → defines q (id, root_of f id d s c.copy) ≡ true → IsComputedFrom f q r
        from i r there used q own =
            let same : i ≡ (id, root_of f id d s c.copy) = ⊎_elim (λ is. is) (λ none. absurd none) there in
            let read : s ≡ r = used_is f id d s c.copy r (subst (λ (p : ℕ × InstrData). uses r p ≡ true) same used) in
            subst (λ k. IsComputedFrom f k r) (defined_is f id d s c.copy q own) (subst (IsComputedFrom f d) read (computed_from x phase f id d s c))

    kinds : KeepsTypes x phase (copying id d s (root_of f id d s c.copy)) f (with_reg_replaced d s f)
    kinds = record {
      own = λ r made result. first_alone (kind_in_operands r (root_of f id d s c.copy).operands);
      replaced = λ r so. type_stands x phase f id d s c r;
      made = λ p there. subst (λ (q : ℕ × InstrData). mismatch x phase (with_reg_replaced d s f) q.1 ≡ None) (sym (⊎_elim (λ is. is) (λ none. absurd none) there)) met;
    }
      where
        met : mismatch x phase (with_reg_replaced d s f) (root_of f id d s c.copy) ≡ None
        met =
            ap (λ (types : ℕ → Option Llt). cond (joins_any phase (root_of f id d s c.copy)) None (unsuited x types (root_of f id d s c.copy))) (types_same x phase f id d s c)
            ∙ instr_met x phase f c.valid (id, root_of f id d s c.copy) (copy_there f id d s c.copy)

    calls : MakesNoNewCall x phase (copying id d s (root_of f id d s c.copy)) f (with_reg_replaced d s f)
    calls = record { made = λ p there may. absurd (true≢false (sym may ∙ subst (λ (q : ℕ × InstrData). may_call x phase (with_reg_replaced d s f) q.1 ≡ false) (sym (⊎_elim (λ is. is) (λ none. absurd none) there)) refl)) }
