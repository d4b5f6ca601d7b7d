-- A valid function stays valid.
use Rattle.std.proofs.Common.{◌≡◌, ℕ, zero, suc, ◌+◌, ◌-◌, ◌≤◌, ◌<◌, Bool, true, false, cond, not, ◌&&◌, ◌||◌, ◌==◌, nat_lt, List, [], ◌∷◌, ◌++◌, Option, Some, None, length, map, slice_get, inl, inr, ⊎_elim, ◌⊎◌, refl, sym, ap, ap₂, ◌∙◌, subst, arith, true≢false}
use Rattle.std.proofs.lemmas.Bool.{and_parts, and_from, or_cases, or_left, eqb-true, eq-eqb, not-true, false_from_ne_true}
use Rattle.std.proofs.lemmas.Option.{same_Some}
use Rattle.std.specs.List.{list_all, list_any}
use Rattle.std.specs.Option.{is_none}
use Rattle.gi_llt.specs.declared.Llt.{Llt}
use Rattle.gi_llt.specs.declared.Llt.TheVariants.{Scalar, Pointer}
use Rattle.gi_mir.specs.Data.{InstrData, FunctionData}
use Rattle.gi_mir.specs.Edit.{IsLive, all_instrs, defines, uses}
use Rattle.gi_mir.specs.Ids.{AreOwnIds}
use Rattle.gi_mir.specs.Registers.{kind_in_instrs, kind_in_operands, kind_of, type_of_kind}
use Rattle.gi_mir.specs.Types.{same_type}
use Rattle.gi_mir.specs.declared.operand.Kind.{Kind}
use Rattle.gi_meaning.specs.InRow.{results_in}
use Rattle.gi_refine.specs.Lifting.{grown}
use Rattle.gi_replace.specs.Applying.{line_of}
use Rattle.gi_valid.specs.Definitions.{is_pure}
use Rattle.gi_valid.specs.Faults.{may_call}
use Rattle.gi_valid.specs.Typing.{Phase, Typed, Selecting, Untyped, joins_any, mismatch, type_in, unsuited}
use Rattle.gi_valid.specs.Valid.{IsValid}
use Rattle.gi_valid.proofs.Single.{often, results_once}
use Rattle.gi_change_valid.specs.Conditions.{AccountsForResults, ArePlain, DefinesAnew, IsNew, KeepsTypes, MakesNoNewCall, ReadsOrigins, is_plain, is_replaced}
use Rattle.gi_change_valid.specs.Rewriting.{IsOneOf, IsRewritten, Rewriting}
use Rattle.gi_change_valid.specs.Numbers.{HasHadAll, computes}
use Rattle.gi_change_valid.proofs.Circles.{IsKnown}
use Rattle.gi_change_valid.proofs.Computed.{any_one}
use Rattle.gi_change_valid.proofs.Sources.{FromRoot, one_passes, source_apart}
use Rattle.gi_change_valid.proofs.KeptKinds.{kind_of_ids, root_kind}
use Rattle.gi_change_valid.proofs.Made.{all_of_ids, any_of_ids, never_calls, read_at, times_counted}
use Rattle.gi_change_valid.proofs.Placed.{found_by_id}
use Rattle.gi_change_valid.proofs.NewKinds.{kind_new}
use Rattle.gi_change_valid.proofs.Typed.{in_list, kind_kept, no_kind_in, origin_used, other_alike}
use Rattle.gi_change_valid.proofs.Valid.{great_of, known_of, stays_valid}
use Rattle.gi_rule_values.specs.Data.{OperationData, RewriteData}
use Rattle.gi_rule_valid.specs.Keeping.{all_types, are_met, gives_types, are_origins, are_placed, are_results, has_type, is_asked, is_taken, keeps, makes_no_new_call, may_become_call, places_from, places_taken}
use Rattle.gi_rule_valid.specs.Using.{AreOfTypes, FitsAt, UseData, all_instrs_for, all_registers, instr_for, kind_in, kind_with, made_of, next_for, operand_for, place_for, register_at, registers_for, rewritten_at, target_at, targets_of}
use Rattle.gi_rule_valid.proofs.Calls.{call_is, none_called}
use Rattle.gi_rule_valid.proofs.InPlace.{is_replaced_by, replacing}
use Rattle.gi_rule_valid.proofs.Lists.{IsListed, all_listed, among, as_many, defines_are, flat, flat_registers, flat_types, kind_at, kinds_are, placed_one, results_are, slots_none}
use Rattle.gi_rule_valid.proofs.Origins.{AreSources, all_ready, asked_taken, input_source, origins_sources, plain_for, pure_for, root_sources}
use Rattle.gi_rule_valid.proofs.Targets.{IsTargetOf, among_at, kind_there, made_once, new_or_target, seconds, seconds_among, seconds_often, target_made, target_of}
use Rattle.gi_rule_valid.proofs.Typed.{all_suited, all_types_are, somes}

-- ══ The tests ══

pub record IsKeeping (x : ℕ) (phase : Phase) (r : RewriteData) : Type 0 where
  pub computes : computes r.root.op ≡ true
  pub some : nat_lt 0 (length r.root.types) ≡ true
  pub slots : list_all (is_asked (length r.inputs)) r.root.slots ≡ true
  pub origins : are_origins (places_taken r.root.slots) r.definitions (length r.inputs) (places_from 0 r.inputs) ≡ true
  pub placed : are_placed (length r.inputs) r.made ≡ true
  pub calls : makes_no_new_call x r ≡ true
  pub met : are_met x phase r.inputs r.made ≡ true
  pub results : are_results (all_types r.inputs r.made) (length r.inputs) r.results r.root.types ≡ true

pub keeping : (x : ℕ) (phase : Phase) (r : RewriteData) → keeps x phase r ≡ true → IsKeeping x phase r
keeping x phase r h =
    let A : Bool = computes r.root.op in
    let B : Bool = nat_lt 0 (length r.root.types) in
    let C : Bool = list_all (is_asked (length r.inputs)) r.root.slots in
    let D : Bool = are_origins (places_taken r.root.slots) r.definitions (length r.inputs) (places_from 0 r.inputs) in
    let E : Bool = are_placed (length r.inputs) r.made in
    let F : Bool = makes_no_new_call x r in
    let G : Bool = are_met x phase r.inputs r.made in
    let first = and_parts (A && B && C && D && E && F && G) (are_results (all_types r.inputs r.made) (length r.inputs) r.results r.root.types) h in
    let second = and_parts (A && B && C && D && E && F) G first.0 in
    let third = and_parts (A && B && C && D && E) F second.0 in
    let fourth = and_parts (A && B && C && D) E third.0 in
    let fifth = and_parts (A && B && C) D fourth.0 in
    let sixth = and_parts (A && B) C fifth.0 in
    let seventh = and_parts A B sixth.0 in
    record { computes = seventh.0; some = seventh.1; slots = sixth.1; origins = fifth.1; placed = fourth.1; calls = third.1; met = second.1; results = first.1 }

-- ══ Types ══

pub same_types : (a b : Llt) → same_type a b ≡ true → a ≡ b
same_types (Scalar m) (Scalar n) h = ap Scalar (eqb-true m n h)
same_types Pointer Pointer h = refl
same_types (Scalar m) Pointer h = cc
same_types Pointer (Scalar n) h = cc

type_found : (ty : Llt) (o : Option Llt) → has_type ty o ≡ true → o ≡ Some ty
type_found ty None h = cc
type_found ty (Some t) h = ap (λ k. Some k) (sym (same_types ty t h))

get_behind : (xs ys : List Llt) (k : ℕ) → slice_get (xs ++ ys) (length xs + k) ≡ slice_get ys k
get_behind [] ys k = let none : 0 + k ≡ k = omega arith in ap (slice_get ys) none
get_behind (x ∷ xs) ys k = let one : length (x ∷ xs) + k ≡ suc (length xs + k) = omega arith in ap (slice_get (x ∷ xs ++ ys)) one ∙ get_behind xs ys k

within : (xs : List Llt) (k : ℕ) (ty : Llt) → slice_get xs k ≡ Some ty → k < length xs
within [] k ty h = cc
within (x ∷ xs) zero ty h = omega arith
within (x ∷ xs) (suc k) ty h = omega (arith, within xs k ty h)

-- a kind of a type has it
pub typed_kind : (banked : Bool) (ty : Llt) → type_of_kind (kind_with banked ty) ≡ Some ty
typed_kind true ty = refl
typed_kind false ty = refl

pub type_of_register : (phase : Phase) (g : FunctionData) (r : ℕ) (banked : Bool) (ty : Llt) → gives_types phase ≡ true → kind_of g r ≡ kind_with banked ty → type_in phase g r ≡ Some ty
type_of_register Typed g r banked ty h is = ap type_of_kind is ∙ typed_kind banked ty
type_of_register Selecting g r banked ty h is = ap type_of_kind is ∙ typed_kind banked ty
type_of_register Untyped g r banked ty h is = cc

pub same_many : (f : FunctionData) (rs : List ℕ) (types : List Llt) → AreOfTypes f rs types → length rs ≡ length types
same_many f [] [] are = refl
same_many f [] (t ∷ ts) are = absurd are
same_many f (r ∷ rs) [] are = absurd are
same_many f (r ∷ rs) (t ∷ ts) are = ap suc (same_many f rs ts are.1)

-- ══ All that is made ══

pub all_pass : (test : InstrData → Bool) (kind : Llt → Kind) (line : ℕ) (targets : List (ℕ × ℕ)) (registers : List ℕ) (place next : ℕ) (os : List OperationData) → are_placed place os ≡ true
    → ((regs rs : List ℕ) (o : OperationData) (count : ℕ) → computes o.op ≡ true → list_all (is_taken count) o.slots ≡ true → test (instr_for kind regs rs o line) ≡ true)
    → list_all test (all_instrs_for kind line targets registers place next os) ≡ true
all_pass test kind line targets registers place next [] h each = refl
all_pass test kind line targets registers place next (o ∷ os) h each =
    let one = placed_one place o os h in
    let rs : List ℕ = registers_for targets place next o.types in
    let later : List ℕ = grown registers rs in
    and_from (test (instr_for kind registers rs o line)) (list_all test (all_instrs_for kind line targets (grown registers rs) (place_for place o.types) (next_for targets place next o.types) os))
    (each registers rs o place one.computes one.taken) (all_pass test kind line targets (grown registers rs) (place_for place o.types) (next_for targets place next o.types) os one.rest each)

-- ══ A use ══

-- a use of a rewrite in a valid function
pub record IsUse (x : ℕ) (phase : Phase) (f : FunctionData) (id : ℕ) (u : UseData) : Type 0 where
  pub valid : IsValid x phase f
  pub own : AreOwnIds f.blocks f.next_id
  pub had : HasHadAll f
  pub live : IsLive f id
  pub fits : FitsAt f id u
  pub keeps : IsKeeping x phase u.rewrite

-- its root
abbrev pub root_of : FunctionData → UseData → (line : ℕ) → InstrData
root_of f u line = instr_for (kind_in f) u.inputs u.results u.rewrite.root line

-- the registers and types of what is made
abbrev pub new_registers : FunctionData → UseData → List ℕ
new_registers f u = registers_for (targets_of u) (length u.inputs) f.next_reg (flat_types u.rewrite.made)

-- what is known of it
pub record IsSeen (f : FunctionData) (id : ℕ) (u : UseData) (line : ℕ) : Type 0 where
  pub known : IsKnown f (great_of f)
  pub there : IsOneOf (id, root_of f u line) (all_instrs f.blocks)
  pub pure : is_pure (root_of f u line) ≡ true
  pub sources : AreSources f (id, root_of f u line) u.inputs (places_from 0 u.rewrite.inputs)
  pub many : length u.inputs ≡ length u.rewrite.inputs
  pub defined : (r : ℕ) → defines r (id, root_of f u line) ≡ among r u.results
  pub once : (r : ℕ) → often r u.results ≤ 1
  pub below : (r : ℕ) → among r u.results ≡ true → r < f.next_reg
  pub placed : are_placed (length u.inputs) u.rewrite.made ≡ true
  pub listed : IsListed (kind_in f) (made_of f id u) (new_registers f u) (flat_types u.rewrite.made)

pub seen : (x : ℕ) (phase : Phase) (f : FunctionData) (id : ℕ) (u : UseData) → (c : IsUse x phase f id u) → IsSeen f id u c.fits.line
seen x phase f id u c =
    let instr : InstrData = root_of f u c.fits.line in
    let known = known_of x phase f c.valid in
    let there = found_by_id f id instr c.live c.fits.root in
    let taken = asked_taken (length u.rewrite.inputs) u.rewrite.root.slots c.keeps.slots in
    let none = slots_none (length u.rewrite.inputs) u.inputs u.rewrite.root.slots taken in
    let pure = pure_for (kind_in f) u.inputs u.results u.rewrite.root c.fits.line (length u.rewrite.inputs) c.keeps.computes c.keeps.slots c.fits.many c.keeps.some in
    let many = same_many f u.inputs u.rewrite.inputs c.fits.types in
    let placed : are_placed (length u.inputs) u.rewrite.made ≡ true = subst (λ n. are_placed n u.rewrite.made ≡ true) (sym many) c.keeps.placed in
    let results : results_in (root_of f u c.fits.line).operands ≡ u.results = results_are (kind_in f) u.results u.rewrite.root.types (map (operand_for u.inputs) u.rewrite.root.slots) c.fits.many none in
    let defined : (r : ℕ) → defines r (id, root_of f u c.fits.line) ≡ among r u.results = λ r. defines_are (kind_in f) r u.results u.rewrite.root.types (map (operand_for u.inputs) u.rewrite.root.slots) c.fits.many none in
    record {
      known = known;
      there = there;
      pure = pure;
      sources = origins_sources f (id, instr) u.inputs (places_taken u.rewrite.root.slots) u.rewrite.definitions (length u.rewrite.inputs) (places_from 0 u.rewrite.inputs)
          (root_sources f known.once id (kind_in f) u.inputs u.results u.rewrite.root c.fits.line there pure) c.fits.definitions c.keeps.origins;
      many = many;
      defined = defined;
      once = λ r. subst (λ rs. often r rs ≤ 1) results (results_once r (all_instrs f.blocks) (known.once r) (id, instr) (in_list (id, instr) (all_instrs f.blocks) there));
      below = λ r inside. c.had.defined r (any_one (defines r) (id, instr) (all_instrs f.blocks) there (defined r ∙ inside));
      placed = placed;
      listed = subst (λ rs. IsListed (kind_in f) (made_of f id u) rs (flat_types u.rewrite.made)) (flat_registers (targets_of u) (length u.inputs) f.next_reg u.rewrite.made)
          (all_listed (kind_in f) (line_of f id) (targets_of u) u.inputs (length u.inputs) f.next_reg u.rewrite.made placed);
    }

-- ══ Registers that are made ══

-- the rewriting, and the function after it
abbrev pub rewriting_at : FunctionData → (id : ℕ) → UseData → (line : ℕ) → Rewriting
rewriting_at f id u line = replacing id (root_of f u line) (made_of f id u) f

pub made_defines : (f : FunctionData) (id : ℕ) (u : UseData) (line r : ℕ) → IsSeen f id u line → list_any (defines r) (rewriting_at f id u line).made ≡ among r (new_registers f u)
made_defines f id u line r s = any_of_ids r f.next_id (made_of f id u) ∙ s.listed.defined r

-- a register that is made is new, or a result of the root
pub new_or_result : (f : FunctionData) (id : ℕ) (u : UseData) (line r : ℕ) → IsSeen f id u line → among r (new_registers f u) ≡ true → (f.next_reg ≤ r) ⊎ (among r u.results ≡ true)
new_or_result f id u line r s h =
    ⊎_elim (λ new. inl new) (λ target. inr (seconds_among r u.rewrite.results u.results target)) (new_or_target (targets_of u) r (flat_types u.rewrite.made) (length u.inputs) f.next_reg h)

pub each_once : (f : FunctionData) (id : ℕ) (u : UseData) (line r : ℕ) → IsSeen f id u line → often r (new_registers f u) ≤ 1
each_once f id u line r s =
    made_once (targets_of u) (flat_types u.rewrite.made) (length u.inputs) f.next_reg r
    (let few = seconds_often r u.rewrite.results u.results in omega (arith, few, s.once r))
    (λ more. false_from_ne_true (among r (seconds (targets_of u))) (λ there. let below = s.below r (seconds_among r u.rewrite.results u.results there) in omega (arith, below, more)))

-- a result of the root stands at a place of its type
pub record IsMadeResult (f : FunctionData) (u : UseData) (r : ℕ) : Type 0 where
  pub k : ℕ
  pub at : slice_get (new_registers f u) k ≡ Some r
  pub ty : Llt
  pub has : slice_get (flat_types u.rewrite.made) k ≡ Some ty
  pub root : kind_at (kind_in f) r u.results u.rewrite.root.types ≡ Some (kind_in f ty)
  pub place : ℕ
  pub is : place ≡ length u.inputs + k
  pub target : target_at (targets_of u) place ≡ Some r

pub made_result : (x : ℕ) (phase : Phase) (f : FunctionData) (id : ℕ) (u : UseData) (line r : ℕ) → IsSeen f id u line → IsKeeping x phase u.rewrite → length u.results ≡ length u.rewrite.root.types → among r u.results ≡ true → IsMadeResult f u r
made_result x phase f id u line r s keeps many inside =
    let t : IsTargetOf (kind_in f) (all_types u.rewrite.inputs u.rewrite.made) (length u.rewrite.inputs) u.rewrite.results u.results u.rewrite.root.types r =
    target_of (kind_in f) (all_types u.rewrite.inputs u.rewrite.made) (length u.rewrite.inputs) u.rewrite.results u.results u.rewrite.root.types r keeps.results many inside in
    let k : ℕ = t.place - length u.rewrite.inputs in
    let is : t.place ≡ length u.rewrite.inputs + k = omega (arith, t.behind) in
    let has : slice_get (flat_types u.rewrite.made) k ≡ Some t.ty =
    sym (get_behind u.rewrite.inputs (flat_types u.rewrite.made) k) ∙ sym (ap₂ slice_get (all_types_are u.rewrite.inputs u.rewrite.made) is) ∙ type_found t.ty (slice_get (all_types u.rewrite.inputs u.rewrite.made) t.place) t.has in
    let behind : t.place ≡ length u.inputs + k = is ∙ ap (λ n. n + k) (sym s.many) in
    record {
      k = k;
      at = target_made (targets_of u) r (flat_types u.rewrite.made) k (length u.inputs) f.next_reg (within (flat_types u.rewrite.made) k t.ty has) (sym (ap (target_at (targets_of u)) behind) ∙ t.at);
      ty = t.ty;
      has = has;
      root = t.is;
      place = t.place;
      is = behind;
      target = t.at;
    }

-- ══ Kinds ══

-- the kind of a register that is made
pub kind_made : (f : FunctionData) (id : ℕ) (u : UseData) (line r k : ℕ) (ty : Llt) → IsSeen f id u line → slice_get (new_registers f u) k ≡ Some r → slice_get (flat_types u.rewrite.made) k ≡ Some ty
    → kind_in_instrs r (rewriting_at f id u line).made ≡ Some (kind_in f ty)
kind_made f id u line r k ty s at has =
    kind_of_ids r f.next_id (made_of f id u) ∙ s.listed.kinds r ∙ kind_there (kind_in f) r (new_registers f u) (flat_types u.rewrite.made) k ty (each_once f id u line r s) at has

root_kinds : (x : ℕ) (phase : Phase) (f : FunctionData) (id : ℕ) (u : UseData) (line r : ℕ) → IsSeen f id u line → IsKeeping x phase u.rewrite → length u.results ≡ length u.rewrite.root.types → kind_in_operands r (root_of f u line).operands ≡ kind_at (kind_in f) r u.results u.rewrite.root.types
root_kinds x phase f id u line r s keeps many =
    kinds_are (kind_in f) r u.results u.rewrite.root.types (map (operand_for u.inputs) u.rewrite.root.slots) many
    (slots_none (length u.rewrite.inputs) u.inputs u.rewrite.root.slots (asked_taken (length u.rewrite.inputs) u.rewrite.root.slots keeps.slots))

pub result_kinds : (x : ℕ) (phase : Phase) (f : FunctionData) (id : ℕ) (u : UseData) (line r : ℕ) → IsSeen f id u line → IsKeeping x phase u.rewrite → length u.results ≡ length u.rewrite.root.types → among r u.results ≡ true
    → kind_in_instrs r (rewriting_at f id u line).made ≡ kind_in_operands r (root_of f u line).operands
result_kinds x phase f id u line r s keeps many inside =
    let m = made_result x phase f id u line r s keeps many inside in
    kind_made f id u line r m.k m.ty s m.at m.has ∙ sym (root_kinds x phase f id u line r s keeps many ∙ m.root)

-- each register that is made has its type in the function after it
pub new_kind : (x : ℕ) (phase : Phase) (f : FunctionData) (id : ℕ) (u : UseData) (line r k : ℕ) (ty : Llt) → IsSeen f id u line → IsKeeping x phase u.rewrite → length u.results ≡ length u.rewrite.root.types → HasHadAll f
    → IsRewritten (rewriting_at f id u line) f (rewritten_at f id u) → slice_get (new_registers f u) k ≡ Some r → slice_get (flat_types u.rewrite.made) k ≡ Some ty → kind_of (rewritten_at f id u) r ≡ kind_in f ty
new_kind x phase f id u line r k ty s keeps many had is at has =
    ⊎_elim
    (λ new. kind_new w f (rewritten_at f id u) is r (kind_in f ty) made (no_kind_in r (all_instrs f.blocks) (false_from_ne_true (list_any (defines r) (all_instrs f.blocks)) (λ d. over new (had.defined r d)))))
    (λ result.
    let alike = result_kinds x phase f id u line r s keeps many result in
    kind_kept w f (rewritten_at f id u) is r alike
    ∙ some_is (kind_of f r) (kind_in f ty) (sym (root_kind f s.known.once (id, root_of f u line) s.there r (s.defined r ∙ result)) ∙ sym alike ∙ made))
    (new_or_result f id u line r s (among_at r (new_registers f u) k at))
  where
    w : Rewriting
    w = rewriting_at f id u line

    made : kind_in_instrs r (rewriting_at f id u line).made ≡ Some (kind_in f ty)
    made = kind_made f id u line r k ty s at has

    over : f.next_reg ≤ r → r < f.next_reg → ⊥
    over more less = omega (arith, more, less)

    some_is : (a b : Kind) → Some a ≡ Some b → a ≡ b
    some_is a b h = cc

-- an input is none that is made
pub input_apart : (f : FunctionData) (id : ℕ) (u : UseData) (line p : ℕ) → IsSeen f id u line → HasHadAll f → nat_lt 0 (length u.results) ≡ true → p < length u.rewrite.inputs → (among (register_at u.inputs p) u.results ≡ false) × (register_at u.inputs p < f.next_reg)
input_apart f id u line p s had some below =
    let source : FromRoot f (id, root_of f u line) (register_at u.inputs p) = input_source f (id, root_of f u line) u.inputs u.rewrite.inputs p s.sources below in
    (sym (s.defined (register_at u.inputs p)) ∙ source_apart f (great_of f) s.known (id, root_of f u line) s.there (register_at u.inputs p) source, had.used (register_at u.inputs p) (by u.results some (λ r inside. s.defined r ∙ inside) source))
  where
    by : (rs : List ℕ) → nat_lt 0 (length rs) ≡ true → ((r : ℕ) → among r rs ≡ true → defines r (id, root_of f u line) ≡ true) → FromRoot f (id, root_of f u line) (register_at u.inputs p) → list_any (uses (register_at u.inputs p)) (all_instrs f.blocks) ≡ true
    by [] h all source = cc
    by (d ∷ rs) h all source = origin_used f d (register_at u.inputs p) (source d (all d (or_left (d == d) (among d rs) (eq-eqb d d refl))))

pub input_kind : (x : ℕ) (f : FunctionData) (id : ℕ) (u : UseData) (line p : ℕ) → IsSeen f id u line → HasHadAll f → IsRewritten (rewriting_at f id u line) f (rewritten_at f id u) → nat_lt 0 (length u.results) ≡ true → p < length u.rewrite.inputs
    → kind_of (rewritten_at f id u) (register_at u.inputs p) ≡ kind_of f (register_at u.inputs p)
input_kind x f id u line p s had is some below =
    let r : ℕ = register_at u.inputs p in
    let apart = input_apart f id u line p s had some below in
    let none : list_any (defines r) (rewriting_at f id u line).made ≡ false =
    made_defines f id u line r s ∙ false_from_ne_true (among r (new_registers f u)) (λ there. ⊎_elim (λ more. over r more apart.1) (λ result. true≢false (sym result ∙ apart.0)) (new_or_result f id u line r s there)) in
    kind_kept (rewriting_at f id u line) f (rewritten_at f id u) is r (other_alike (rewriting_at f id u line) r (s.defined r ∙ apart.0) none)
  where
    over : (r : ℕ) → f.next_reg ≤ r → r < f.next_reg → ⊥
    over r more less = omega (arith, more, less)

-- ══ The conditions ══

all_typed : (phase : Phase) (g : FunctionData) (banked : Bool) → gives_types phase ≡ true → (rs : List ℕ) (types : List Llt) → length rs ≡ length types
    → ((k : ℕ) (r : ℕ) (ty : Llt) → slice_get rs k ≡ Some r → slice_get types k ≡ Some ty → kind_of g r ≡ kind_with banked ty) → map (type_in phase g) rs ≡ somes types
all_typed phase g banked h [] [] many each = refl
all_typed phase g banked h [] (t ∷ types) many each = cc
all_typed phase g banked h (r ∷ rs) [] many each = cc
all_typed phase g banked h (r ∷ rs) (t ∷ types) many each =
    ap₂ (λ a l. a ∷ l) (type_of_register phase g r banked t h (each 0 r t refl refl)) (all_typed phase g banked h rs types (omega (arith, many)) (λ k q ty at has. each (suc k) q ty at has))

inputs_are : (f : FunctionData) (rs : List ℕ) (types : List Llt) → AreOfTypes f rs types → (k : ℕ) (r : ℕ) (ty : Llt) → slice_get rs k ≡ Some r → slice_get types k ≡ Some ty → kind_of f r ≡ kind_in f ty
inputs_are f [] types are k r ty at has = cc
inputs_are f (q ∷ rs) [] are k r ty at has = cc
inputs_are f (q ∷ rs) (t ∷ types) are zero r ty at has = let one : q ≡ r = cc in let two : t ≡ ty = cc in ap (kind_of f) (sym one) ∙ are.0 ∙ ap (kind_in f) two
inputs_are f (q ∷ rs) (t ∷ types) are (suc k) r ty at has = inputs_are f rs types are.1 k r ty at has

register_is : (rs : List ℕ) (k r : ℕ) → slice_get rs k ≡ Some r → register_at rs k ≡ r
register_is [] k r h = cc
register_is (q ∷ rs) zero r h = cc
register_is (q ∷ rs) (suc k) r h = register_is rs k r h

-- the inputs have their types after the rewrite, and what is made has
pub inputs_typed : (x : ℕ) (phase : Phase) (f : FunctionData) (id : ℕ) (u : UseData) → gives_types phase ≡ true → IsUse x phase f id u → map (type_in phase (rewritten_at f id u)) u.inputs ≡ somes u.rewrite.inputs
inputs_typed x phase f id u types c =
    let s = seen x phase f id u c in
    all_typed phase (rewritten_at f id u) f.banked types u.inputs u.rewrite.inputs s.many
    (λ k r ty at has.
    let here : k < length u.rewrite.inputs = within u.rewrite.inputs k ty has in
    let same : register_at u.inputs k ≡ r = register_is u.inputs k r at in
    subst (λ q. kind_of (rewritten_at f id u) q ≡ kind_of f q) same
    (input_kind x f id u c.fits.line k s c.had (is_replaced_by f id (root_of f u c.fits.line) (made_of f id u) c.own c.live c.fits.root) (ap (nat_lt 0) c.fits.many ∙ c.keeps.some) here)
    ∙ inputs_are f u.inputs u.rewrite.inputs c.fits.types k r ty at has)

pub made_typed : (x : ℕ) (phase : Phase) (f : FunctionData) (id : ℕ) (u : UseData) → gives_types phase ≡ true → IsUse x phase f id u
    → map (type_in phase (rewritten_at f id u)) (flat (all_registers (targets_of u) (length u.inputs) f.next_reg u.rewrite.made)) ≡ somes (flat_types u.rewrite.made)
made_typed x phase f id u types c =
    ap (map (type_in phase (rewritten_at f id u))) (flat_registers (targets_of u) (length u.inputs) f.next_reg u.rewrite.made)
    ∙ all_typed phase (rewritten_at f id u) f.banked types (new_registers f u) (flat_types u.rewrite.made) (as_many (targets_of u) (length u.inputs) f.next_reg (flat_types u.rewrite.made))
    (λ k r ty at has.
    new_kind x phase f id u c.fits.line r k ty (seen x phase f id u c) c.keeps c.fits.many c.had (is_replaced_by f id (root_of f u c.fits.line) (made_of f id u) c.own c.live c.fits.root) at has)

-- the root's results have its types before
results_typed : (x : ℕ) (phase : Phase) (f : FunctionData) (id : ℕ) (u : UseData) → gives_types phase ≡ true → IsUse x phase f id u → map (type_in phase f) u.results ≡ somes u.rewrite.root.types
results_typed x phase f id u types c =
    let s = seen x phase f id u c in
    all_typed phase f f.banked types u.results u.rewrite.root.types c.fits.many
    (λ k r ty at has. same_Some (kind_of f r) (kind_in f ty)
    (sym (root_kind f s.known.once (id, root_of f u c.fits.line) s.there r (s.defined r ∙ among_at r u.results k at))
    ∙ root_kinds x phase f id u c.fits.line r s c.keeps c.fits.many ∙ kind_there (kind_in f) r u.results u.rewrite.root.types k ty (s.once r) at has))

pub stays_valid_at : (x : ℕ) (phase : Phase) (f : FunctionData) (id : ℕ) (u : UseData) → gives_types phase ≡ true → IsUse x phase f id u → IsValid x phase (rewritten_at f id u)
stays_valid_at x phase f id u types c =
    stays_valid x phase w f g is plain anew results reads kinds calls c.valid
  where
    line : ℕ
    line = c.fits.line

    g : FunctionData
    g = rewritten_at f id u

    w : Rewriting
    w = rewriting_at f id u c.fits.line

    s : IsSeen f id u c.fits.line
    s = seen x phase f id u c

    is : IsRewritten (rewriting_at f id u c.fits.line) f (rewritten_at f id u)
    is = is_replaced_by f id (root_of f u c.fits.line) (made_of f id u) c.own c.live c.fits.root

    moved : (r : ℕ) → is_replaced (rewriting_at f id u c.fits.line) r ≡ true → ⊥
    moved r so = true≢false (sym (sym (ap not (eq-eqb r r refl)) ∙ so))

    plain : ArePlain (rewriting_at f id u c.fits.line)
    plain = record {
      root = plain_for (kind_in f) u.inputs u.results u.rewrite.root c.fits.line (length u.rewrite.inputs) c.keeps.computes (asked_taken (length u.rewrite.inputs) u.rewrite.root.slots c.keeps.slots);
      made = all_of_ids is_plain f.next_id (made_of f id u)
          ∙ all_pass is_plain (kind_in f) (line_of f id) (targets_of u) u.inputs (length u.inputs) f.next_reg u.rewrite.made s.placed
          (λ regs rs o count gives taken. plain_for (kind_in f) regs rs o (line_of f id) count gives taken);
    }

    is_new : (r : ℕ) → f.next_reg ≤ r → IsNew f r
    is_new r more = record {
      undefined = false_from_ne_true (list_any (defines r) (all_instrs f.blocks)) (λ d. over (c.had.defined r d));
      unused = false_from_ne_true (list_any (uses r) (all_instrs f.blocks)) (λ d. over (c.had.used r d));
    }
      where
        over : r < f.next_reg → ⊥
        over less = omega (arith, more, less)

    anew : DefinesAnew (rewriting_at f id u c.fits.line) f
    anew = record {
      once = λ r. subst (λ n. n ≤ 1) (sym (times_counted r f.next_id (made_of f id u) ∙ s.listed.counts r)) (each_once f id u c.fits.line r s);
      own = λ r made. ⊎_elim (λ new. inr (is_new r new)) (λ result. inl (s.defined r ∙ result)) (new_or_result f id u c.fits.line r s (sym (made_defines f id u c.fits.line r s) ∙ made));
    }

    results : AccountsForResults (rewriting_at f id u c.fits.line) f
    results = record {
      results = λ r so. absurd (moved r so);
      covered = λ r result so. let m = made_result x phase f id u c.fits.line r s c.keeps c.fits.many (sym (s.defined r) ∙ result) in made_defines f id u c.fits.line r s ∙ among_at r (new_registers f u) m.k m.at;
      origins = λ r so. absurd (moved r so);
      apart = λ r so. absurd (moved r so);
    }

    reads : ReadsOrigins (rewriting_at f id u c.fits.line) f
    reads = record {
      pure = s.pure;
      read = λ earlier i later splits r used.
          read_at (FromRoot f (id, root_of f u c.fits.line)) [] (made_of f id u) f.next_id earlier i later
          (all_ready (FromRoot f (id, root_of f u c.fits.line)) (kind_in f) (line_of f id) (targets_of u) u.inputs (length u.inputs) f.next_reg u.rewrite.made [] s.placed
          (record { many = refl; by = λ p below. inr (input_source f (id, root_of f u c.fits.line) u.inputs u.rewrite.inputs p s.sources (subst (λ n. p < n) s.many below)) })) splits r used;
    }

    met : list_all (λ i. is_none (unsuited x (type_in phase (rewritten_at f id u)) i) || joins_any phase i) (made_of f id u) ≡ true
    met =
        all_suited x phase (type_in phase (rewritten_at f id u)) (kind_in f) (line_of f id) (targets_of u) u.inputs u.rewrite.inputs (length u.inputs) f.next_reg u.rewrite.made (sym s.many)
        (inputs_typed x phase f id u types c) s.placed c.keeps.met (made_typed x phase f id u types c)

    mismatched : (i : InstrData) → (is_none (unsuited x (type_in phase (rewritten_at f id u)) i) || joins_any phase i) ≡ true → mismatch x phase (rewritten_at f id u) i ≡ None
    mismatched i h = by (joins_any phase i) (unsuited x (type_in phase (rewritten_at f id u)) i) h
      where
        by : (b : Bool) (o : Option ℕ) → (is_none o || b) ≡ true → cond b None o ≡ None
        by true o h = refl
        by false None h = refl
        by false (Some r) h = cc

    kinds : KeepsTypes x phase (rewriting_at f id u c.fits.line) f (rewritten_at f id u)
    kinds = record {
      own = λ r made result. result_kinds x phase f id u c.fits.line r s c.keeps c.fits.many (sym (s.defined r) ∙ result);
      replaced = λ r so. refl;
      made = λ p there. mismatched p.1 (one_passes (λ (q : ℕ × InstrData). is_none (unsuited x (type_in phase (rewritten_at f id u)) q.1) || joins_any phase q.1) p (rewriting_at f id u c.fits.line).made
          (all_of_ids (λ i. is_none (unsuited x (type_in phase (rewritten_at f id u)) i) || joins_any phase i) f.next_id (made_of f id u) ∙ met) there);
    }

    calls : MakesNoNewCall x phase (rewriting_at f id u c.fits.line) f (rewritten_at f id u)
    calls = record { made = λ p there may. ⊎_elim (none p there may) root (or_cases _ _ c.keeps.calls) }
      where
        none : (p : ℕ × InstrData) → IsOneOf p (rewriting_at f id u c.fits.line).made → may_call x phase (rewritten_at f id u) p.1 ≡ true → list_all (λ o. not (may_become_call x o)) u.rewrite.made ≡ true → may_call x phase f (root_of f u c.fits.line) ≡ true
        none p there may without =
            absurd (true≢false (sym may ∙ not-true (may_call x phase (rewritten_at f id u) p.1) (one_passes (λ (q : ℕ × InstrData). never_calls x phase (rewritten_at f id u) q.1) p (rewriting_at f id u c.fits.line).made
            (all_of_ids (never_calls x phase (rewritten_at f id u)) f.next_id (made_of f id u)
            ∙ none_called x phase (rewritten_at f id u) (kind_in f) (line_of f id) (targets_of u) u.inputs (length u.inputs) f.next_reg u.rewrite.made s.placed without (made_typed x phase f id u types c)) there)))

        root : may_become_call x u.rewrite.root ≡ true → may_call x phase f (root_of f u c.fits.line) ≡ true
        root may =
            call_is x phase f (kind_in f) u.inputs u.results u.rewrite.root c.fits.line (length u.rewrite.inputs) c.keeps.computes (asked_taken (length u.rewrite.inputs) u.rewrite.root.slots c.keeps.slots) c.fits.many (results_typed x phase f id u types c) ∙ may
