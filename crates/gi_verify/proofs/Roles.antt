-- Operands of an instruction, one after the other.
use Rattle.std.proofs.Common.{◌≡◌, ℕ, ◌+◌, ◌-◌, ◌<◌, ◌≤◌, Bool, true, false, not, ◌||◌, ◌==◌, List, Option, None, length, take, get_or, refl, sym, ap, ◌∙◌, subst, add-one, take-suc, take_all, arith}
use Rattle.std.specs.List.{list_any}
use Rattle.std.proofs.lemmas.Bool.{eq-eqb, eqb-true}
use Rattle.std.specs.Option.{option_map_or}
use Rattle.gi_mir.specs.declared.operand.Kind.{Kind}
use Rattle.gi_mir.specs.declared.operand.Operand.{Operand}
use Rattle.gi_mir.specs.declared.operand.Operand.TheVariants as operand
use Rattle.gi_mir.specs.declared.operand.Reg.{Reg}
use Rattle.gi_valid.specs.Available.{is_origin}
use Rattle.gi_verify.specs.declared.seen.Seen.{Seen}
use Rattle.gi_verify.specs.Rounds.{has, is_named, is_taken, is_user, IsSeen, IsSeenOn, IsWordOf, RoundData}
use Rattle.gi_verify.proofs.Bits.{none_in}
use Rattle.gi_verify.proofs.Passing.{any_with, or_nothing}

-- ══ Words ══

pub nothing_in : (word : ℕ) (test : ℕ → Bool) → word ≡ 0 → ((n : ℕ) → test n ≡ false) → IsWordOf test word
nothing_in word test empty none = record { by = λ n h. ap (λ w. has w n) empty ∙ none_in n ∙ sym (none n) }

-- a word with nothing more
pub as_before : (old new : ℕ) → new ≡ old → IsWordOf (λ n. has old n || false) new
as_before old new same = record { by = λ n h. ap (λ w. has w n) same ∙ sym (or_nothing (has old n)) }

on : {X : Type 0} (p : ℕ → X → Bool) (xs : List X) (k : ℕ) (d : X) → k < length xs → (old new : ℕ) → IsWordOf (λ n. list_any (p n) (take k xs)) old → IsWordOf (λ n. has old n || p n (get_or xs k d)) new
    → IsWordOf (λ n. list_any (p n) (take (k + 1) xs)) new
on p xs k d within old new are one = record {
  by = λ n h.
      one.by n h ∙ ap (λ t. t || p n (get_or xs k d)) (are.by n h) ∙ sym (any_with (p n) (take k xs) (get_or xs k d))
      ∙ ap (list_any (p n)) (sym (ap (λ j. take j xs) (add-one k) ∙ take-suc xs k d within));
}

-- ══ Operands ══

pub seen_none : (round : RoundData) (operands : List Operand) (seen : Seen) → seen.made ≡ 0 → seen.taken ≡ 0 → seen.used ≡ 0 → seen.strange ≡ 0 → IsSeen round (take 0 operands) seen
seen_none round operands seen made taken used strange = record {
  made = nothing_in seen.made _ made (λ n. refl);
  taken = nothing_in seen.taken _ taken (λ n. refl);
  used = nothing_in seen.used _ used (λ n. refl);
  strange = nothing_in seen.strange _ strange (λ n. refl);
}

pub seen_on : (round : RoundData) (operands : List Operand) (k : ℕ) (d : Operand) → k < length operands → (old new : Seen) → IsSeen round (take k operands) old → IsSeenOn round old (get_or operands k d) new → IsSeen round (take (k + 1) operands) new
seen_on round operands k d within old new are one = record {
  made = on (λ n. is_origin (is_named round n)) operands k d within old.made new.made are.made one.made;
  taken = on (λ n. is_origin (is_taken round n)) operands k d within old.taken new.taken are.taken one.taken;
  used = on (λ n. is_user (is_named round n)) operands k d within old.used new.used are.used one.used;
  strange = on (λ n. is_user (λ x. not (is_taken round n x))) operands k d within old.strange new.strange are.strange one.strange;
}

pub seen_all : (round : RoundData) (operands : List Operand) (k : ℕ) → length operands ≤ k → (seen : Seen) → IsSeen round (take k operands) seen → IsSeen round operands seen
seen_all round operands k past seen are = subst (λ l. IsSeen round l seen) (take_all k operands past) are

pub seen_definition : (round : RoundData) (old new : Seen) (r : Reg) (kind : Kind) → IsWordOf (λ n. has old.made n || is_named round n r.0) new.made → IsWordOf (λ n. has old.taken n || is_taken round n r.0) new.taken
    → new.used ≡ old.used → new.strange ≡ old.strange → IsSeenOn round old (operand.Def r kind) new
seen_definition round old new r kind made taken used strange = record { made = made; taken = taken; used = as_before old.used new.used used; strange = as_before old.strange new.strange strange }

pub seen_use : (round : RoundData) (old new : Seen) (r : Reg) → new.made ≡ old.made → new.taken ≡ old.taken → IsWordOf (λ n. has old.used n || is_named round n r.0) new.used
    → IsWordOf (λ n. has old.strange n || not (is_taken round n r.0)) new.strange → IsSeenOn round old (operand.Use r) new
seen_use round old new r made taken used strange = record { made = as_before old.made new.made made; taken = as_before old.taken new.taken taken; used = used; strange = strange }

pub seen_nothing : (round : RoundData) (seen : Seen) (o : Operand) → ((t : ℕ → Bool) → is_origin t o ≡ false) → ((t : ℕ → Bool) → is_user t o ≡ false) → IsSeenOn round seen o seen
seen_nothing round seen o defines uses = record {
  made = same seen.made (λ n. is_origin (is_named round n) o) (λ n. defines (is_named round n));
  taken = same seen.taken (λ n. is_origin (is_taken round n) o) (λ n. defines (is_taken round n));
  used = same seen.used (λ n. is_user (is_named round n) o) (λ n. uses (is_named round n));
  strange = same seen.strange (λ n. is_user (λ x. not (is_taken round n x)) o) (λ n. uses (λ x. not (is_taken round n x)));
}
  where
    same : (word : ℕ) (test : ℕ → Bool) → ((n : ℕ) → test n ≡ false) → IsWordOf (λ n. has word n || test n) word
    same word test none = record { by = λ n h. sym (or_nothing (has word n)) ∙ ap (λ t. has word n || t) (sym (none n)) }

-- ══ A register's place ══

pub place_named : (round : RoundData) (r : ℕ) (o : Option ℕ) → o ≡ None → (place : ℕ → ℕ → Bool) → (word : ℕ) → word ≡ 0 → IsWordOf (λ n. option_map_or (place n) o false) word
place_named round r o none place word empty = nothing_in word (λ n. option_map_or (place n) o false) empty (λ n. ap (λ l. option_map_or (place n) l false) none)

pub no_place : (first place : ℕ) → ((n : ℕ) → n < 64 → place ≡ first + n → ⊥) → IsWordOf (λ n. place == first + n) 0
no_place first place none = record { by = λ n h. none_in n ∙ by n h (place == first + n) refl }
  where
    by : (n : ℕ) → n < 64 → (t : Bool) → (place == first + n) ≡ t → false ≡ t
    by n h true so = absurd (none n h (eqb-true place (first + n) so))
    by n h false so = refl

pub own_place : (first place word : ℕ) → first ≤ place → IsWordOf (λ q. place - first == q) word → IsWordOf (λ n. place == first + n) word
own_place first place word within are = record { by = λ n h. are.by n h ∙ same n }
  where
    there : (n : ℕ) → place - first ≡ n → place ≡ first + n
    there n h = omega (arith, within, h)

    back : (n : ℕ) → place ≡ first + n → place - first ≡ n
    back n h = omega (arith, within, h)

    by : (n : ℕ) (s t : Bool) → (place - first == n) ≡ s → (place == first + n) ≡ t → s ≡ t
    by n true true a b = refl
    by n false false a b = refl
    by n true false a b = sym (eq-eqb place (first + n) (there n (eqb-true (place - first) n a))) ∙ b
    by n false true a b = sym a ∙ eq-eqb (place - first) n (back n (eqb-true place (first + n) b))

    same : (n : ℕ) → (place - first == n) ≡ (place == first + n)
    same n = by n (place - first == n) (place == first + n) refl refl
