-- `$x0` stands for a register that holds zero.
use Rattle.std.proofs.Common.{◌≡◌, ℕ, ◌%◌, ◌^◌, ◌<◌, ◌≤◌, ◌==◌, Bool, true, false, cond, nat_lt, List, [], ◌∷◌, ◌++◌, map, Option, Some, None, option_map, slice_get, inl, refl, sym, ap, ◌∙◌, subst, arith}
use Rattle.std.proofs.lemmas.Nat.{pow_pos}
use Rattle.std.proofs.lemmas.Bool.{ltb-false, eqb-true}
use Rattle.std.proofs.Math.Nat.{mod-eq_of_lt}
use Rattle.gi_mir.specs.Data.{no_flags}
use Rattle.gi_mir.specs.declared.opcode.Opcode.{Opcode}
use Rattle.gi_meaning.specs.Argument.{Argument, Value}
use Rattle.gi_meaning.specs.Given.{Given}
use Rattle.gi_meaning.specs.Meaning.{Machine, meaning_of}
use Rattle.gi_meaning.specs.State.{World, Outside}
use Rattle.gi_meaning.specs.Act.{Answer, Act, AllReadAs, IsWordOf}
use Rattle.gi_meaning.specs.Runs.{joined_lists}
use Rattle.gi_refine.specs.Values.{Environment, Slot, At, Fixed, Rule, ActsFrom, argument_at, arguments_at, Makes, MayMake, Correspond, ForAllOf, IsSound}
use Rattle.gi_refine.proofs.RuleSteps.{constant_known, whole_word}
use Rattle.gi_riscv.specs.SelectionRules.{zero_slot, use_zero}
use Rattle.gi_riscv.proofs.MachineSteps.{generic}

-- ══ Words of joined lists ══

split : (x : ℕ) (ls bs words : List Argument) → AllReadAs x (ls ++ bs) words → (ws : List Argument) × (vs : List Argument) × AllReadAs x ls ws × AllReadAs x bs vs × (words ≡ ws ++ vs)
split x [] bs words h = ([], words, refl, h, refl)
split x (a ∷ ls) bs words h =
    let r = split x ls bs h.1 h.3 in (h.0 ∷ r.0, r.1, (h.0, r.0, h.2, r.2, refl), r.3, h.4 ∙ ap (λ t. h.0 ∷ t) r.4)

join : (x : ℕ) (ls bs ws vs : List Argument) → AllReadAs x ls ws → AllReadAs x bs vs → AllReadAs x (ls ++ bs) (ws ++ vs)
join x [] bs ws vs h k = subst (λ u. AllReadAs x bs (u ++ vs)) (sym h) k
join x (a ∷ ls) bs ws vs h k =
    subst (λ u. AllReadAs x (a ∷ ls ++ bs) (u ++ vs)) (sym h.4) (h.0, h.1 ++ vs, h.2, join x ls bs h.1 vs h.3 k, refl)

-- ══ Arguments whose words may be those of others ══

-- the words that the first are read as, the second may be read as
abbrev Covers : (x : ℕ) → (new old : Option (List Argument)) → Type 0
Covers x None None = Unit {0}
Covers x (Some new) (Some old) = (words : List Argument) → AllReadAs x new words → AllReadAs x old words
Covers x _ _ = ⊥

same_covers : (x : ℕ) (found : Option (List Argument)) → Covers x found found
same_covers x None = tt
same_covers x (Some found) = λ words h. h

joined_covers : (x : ℕ) (p q r s : Option (List Argument)) → Covers x p q → Covers x r s → Covers x (joined_lists p r) (joined_lists q s)
joined_covers x None None r s c d = tt
joined_covers x None (Some q) r s c d = absurd c
joined_covers x (Some p) None r s c d = absurd c
joined_covers x (Some p) (Some q) None None c d = tt
joined_covers x (Some p) (Some q) None (Some s) c d = absurd d
joined_covers x (Some p) (Some q) (Some r) None c d = absurd d
joined_covers x (Some p) (Some q) (Some r) (Some s) c d =
    λ words h. let parts = split x p r words h in subst (AllReadAs x (q ++ s)) (sym parts.4) (join x q s parts.0 parts.1 (c parts.0 parts.2) (d parts.1 parts.3))

zero_word_at : (t : Bool) (x n : ℕ) → nat_lt n x ≡ t → n ≤ x → cond t ((word : ℕ) × (word < 2 ^ x) × (word % 2 ^ n ≡ 0 % 2 ^ n) × (Value x 0 ≡ Value x word)) (Value x 0 ≡ Value n 0)
zero_word_at true x n is within = (0, pow_pos x, refl, refl)
zero_word_at false x n is within = let e : x ≡ n = omega (arith, ltb-false n x is, within) in ap (λ k. Value k 0) e

-- a register that holds zero may be read as the word zero
zero_word : (x n : ℕ) → n ≤ x → IsWordOf x n 0 (Value x 0)
zero_word x n within = zero_word_at (nat_lt n x) x n refl within

zero_covers : (x n : ℕ) → n ≤ x → Covers x (Some (Value x 0 ∷ [])) (Some (Value n 0 ∷ []))
zero_covers x n within words h = (h.0, h.1, subst (IsWordOf x n 0) (sym (whole_word x 0 h.0 h.2)) (zero_word x n within), h.3, h.4)

place_covers : (t : Bool) (x n : ℕ) (env : Environment) (p : ℕ) → n ≤ x → (t ≡ true → slice_get env p ≡ Some (n, 0)) → Covers x (argument_at env (cond t (Fixed (Value x 0)) (At p))) (argument_at env (At p))
place_covers true x n env p within zero =
    subst (λ (o : Option (ℕ × ℕ)). Covers x (Some (Value x 0 ∷ [])) (option_map (λ entry. Value entry.0 entry.1 ∷ []) o)) (sym (zero refl)) (zero_covers x n within)
place_covers false x n env p within zero = same_covers x (argument_at env (At p))

slot_covers : (x n : ℕ) (env : Environment) (place : ℕ) (slot : Slot) → n ≤ x → slice_get env place ≡ Some (n, 0) → Covers x (argument_at env (zero_slot x place slot)) (argument_at env slot)
slot_covers x n env place (At p) within zero =
    place_covers (p == place) x n env p within (λ same. subst (λ q. slice_get env q ≡ Some (n, 0)) (sym (eqb-true p place same)) zero)
slot_covers x n env place (Fixed argument) within zero = same_covers x (Some (argument ∷ []))

slots_cover : (x n : ℕ) (env : Environment) (place : ℕ) (slots : List Slot) → n ≤ x → slice_get env place ≡ Some (n, 0) → Covers x (arguments_at env (map (zero_slot x place) slots)) (arguments_at env slots)
slots_cover x n env place [] within zero = same_covers x (Some [])
slots_cover x n env place (slot ∷ slots) within zero =
    joined_covers x (argument_at env (zero_slot x place slot)) (argument_at env slot) (arguments_at env (map (zero_slot x place) slots)) (arguments_at env slots)
    (slot_covers x n env place slot within zero) (slots_cover x n env place slots within zero)

-- ══ The rule ══

acts_covered : (x : ℕ) (w : World) (op : Opcode) (gives : ℕ → List Argument → Given) (m : ℕ) (slots slots' : List Slot) (outside : Outside) (answer : Answer) (new old : Option (List Argument)) → meaning_of no_flags op ≡ Machine gives → Covers x new old
    → ActsFrom x w (generic op no_flags slots' m) outside new answer → ActsFrom x w (generic op no_flags slots m) outside old answer
acts_covered x w op gives m slots slots' outside answer None None means c act = act
acts_covered x w op gives m slots slots' outside answer None (Some old) means c act = absurd c
acts_covered x w op gives m slots slots' outside answer (Some new) None means c act = absurd c
acts_covered x w op gives m slots slots' outside answer (Some new) (Some old) means c act =
    let done : Act x w (Machine gives) None (m ∷ []) new outside answer = subst (λ meaning. Act x w meaning None (m ∷ []) new outside answer) means act in
    subst (λ meaning. Act x w meaning None (m ∷ []) old outside answer) (sym means) (done.0, c done.0 done.1, done.2)

for_all : (ns : List ℕ) (claim : Environment → Type 0) → ((env : Environment) → claim env) → ForAllOf ns claim
for_all [] claim h = h []
for_all (n ∷ ns) claim h = λ value fits. for_all ns (λ env. claim ((n, value) ∷ env)) (λ env. h ((n, value) ∷ env))

may_make_same : (x : ℕ) (w : World) (outside : Outside) (rule : Rule) (env : Environment) (made : Option Environment) → ((made : Environment) → Correspond rule.kept made made) → Makes x w outside rule.old env made → MayMake x w outside rule env made
may_make_same x w outside rule env None same makes = makes
may_make_same x w outside rule env (Some made) same makes = inl (made, makes, same made)

pub use_zero_sound : (x : ℕ) (w : World) (n : ℕ) (inputs : List ℕ) (place : ℕ) (op : Opcode) (slots : List Slot) (m : ℕ) (gives : ℕ → List Argument → Given) → n ≤ x → meaning_of no_flags op ≡ Machine gives
    → IsSound x w (use_zero x n inputs place op slots m)
use_zero_sound x w n inputs place op slots m gives within means = record {
  by = λ outside. for_all inputs _ (λ env facts made makes.
      let zero : slice_get env place ≡ Some (n, 0) = constant_known x w outside env n 0 place facts.0 in
      may_make_same x w outside (use_zero x n inputs place op slots m) env made (λ made. (refl, tt)) (
        makes.0,
        acts_covered x w op gives m slots (map (zero_slot x place) slots) outside makes.0 (arguments_at env (map (zero_slot x place) slots)) (arguments_at env slots) means (slots_cover x n env place slots within zero) makes.1,
        makes.2,
      ));
}
