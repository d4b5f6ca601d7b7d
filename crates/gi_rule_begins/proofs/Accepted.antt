-- Types that meet an opcode's row are each among its opcode's, where there is a letter for each register.
use Rattle.std.proofs.Common.{◌≡◌, ℕ, zero, suc, ◌+◌, ◌≤◌, Bool, true, false, cond, ◌&&◌, ◌||◌, nat_le, List, [], ◌∷◌, ◌++◌, Option, Some, None, length, map, slice_get, take, drop, ⊎_elim, refl, sym, ap, ◌∙◌, subst, arith, append-nil, append_assoc, leb-true, length-append, eqb-true, le-leb, is_some}
use Rattle.std.proofs.lemmas.Bool.{and_from, and_parts, or_cases, or_left, or_right}
use Rattle.std.proofs.lemmas.List.Folds.{list_all-append}
use Rattle.std.specs.List.{list_all}
use Rattle.std.specs.Option.{option_map_or, option_or}
use Rattle.gi_llt.specs.declared.Llt.{Llt}
use Rattle.gi_llt.specs.declared.Llt.TheVariants.{Pointer, Scalar}
use Rattle.gi_mir.specs.Accepted.{are_one, class_of, is_letter, is_typed_at, letters}
use Rattle.gi_mir.specs.Data.{InstrData}
use Rattle.gi_mir.specs.Formed.{fits_one_of}
use Rattle.gi_mir.specs.Row.{memory_of, rows_of, typing_of}
use Rattle.gi_mir.specs.Types.{is_of, same_type}
use Rattle.gi_mir.specs.Typings.{TypingData}
use Rattle.gi_mir.specs.declared.operand.Operand.{Operand}
use Rattle.gi_mir.specs.declared.typing.Class.{Class}
use Rattle.gi_mir.specs.declared.typing.Letter.{Letter}
use Rattle.gi_mir.specs.declared.typing.Letter.TheVariants as letter
use Rattle.gi_meaning.specs.InRow.{results_in, sources_in}
use Rattle.gi_valid.specs.Typing.{first_unmet, is_constant_op, is_met, known, meets, places_of_letter, places_with, roomless, unmet, unsized, unsuited}
use Rattle.gi_valid.proofs.Sited.{neither}
use Rattle.gi_rule_begins.proofs.Counted.{HasLetters, has_letters}
use Rattle.gi_rule_refines.specs.Stages.{each_passes, is_accepted}

-- ══ One type of a class ══

same_types : (a b : Llt) → same_type a b ≡ true → a ≡ b
same_types (Scalar m) (Scalar n) h = ap Scalar (eqb-true m n h)
same_types Pointer Pointer h = refl
same_types (Scalar m) Pointer h = cc
same_types Pointer (Scalar n) h = cc

others_of : (x : ℕ) (c : Class) (ty : Llt) → is_of x c ty ≡ true → (types : List Llt) → list_all (λ other. same_type ty other) types ≡ true → list_all (is_of x c) types ≡ true
others_of x c ty first [] same = refl
others_of x c ty first (other ∷ types) same =
    let each = and_parts (same_type ty other) (list_all (λ other. same_type ty other) types) same in
    and_from (is_of x c other) (list_all (is_of x c) types) (subst (λ t. is_of x c t ≡ true) (same_types ty other each.0) first) (others_of x c ty first types each.1)

one_class : (x : ℕ) (c : Class) (types : List Llt) → are_one x c types ≡ true → list_all (is_of x c) types ≡ true
one_class x c [] one = refl
one_class x c (ty ∷ types) one =
    let each = and_parts (is_of x c ty) (list_all (λ other. same_type ty other) types) one in and_from (is_of x c ty) (list_all (is_of x c) types) each.0 (others_of x c ty each.0 types each.1)

each_letter : (test : Letter → Bool) (l : Letter) → list_all test letters ≡ true → test l ≡ true
each_letter test letter.A h = (and_parts (test letter.A) _ h).0
each_letter test letter.B h = (and_parts (test letter.B) _ (and_parts (test letter.A) _ h).1).0
each_letter test letter.Pointer h = (and_parts (test letter.Pointer) _ (and_parts (test letter.B) _ (and_parts (test letter.A) _ h).1).1).0
each_letter test letter.Bit h = (and_parts (test letter.Bit) _ (and_parts (test letter.Pointer) _ (and_parts (test letter.B) _ (and_parts (test letter.A) _ h).1).1).1).0
each_letter test letter.Register h =
    (and_parts (test letter.Register) _ (and_parts (test letter.Bit) _ (and_parts (test letter.Pointer) _ (and_parts (test letter.B) _ (and_parts (test letter.A) _ h).1).1).1).1).0

itself : (l : Letter) → is_letter l l ≡ true
itself letter.A = refl
itself letter.B = refl
itself letter.Pointer = refl
itself letter.Bit = refl
itself letter.Register = refl

-- ══ Types at their places ══

get_here : (before ls : List Letter) (l : Letter) → slice_get (before ++ l ∷ ls) (length before) ≡ Some l
get_here [] ls l = refl
get_here (b ∷ before) ls l = get_here before ls l

none_there : (ls : List Letter) (k : ℕ) → length ls ≤ k → slice_get ls k ≡ None
none_there [] k past = refl
none_there (l ∷ ls) zero past = absurd (omega (arith, past))
none_there (l ∷ ls) (suc k) past = none_there ls k (omega (arith, past))

-- each type at a letter is of its class
abbrev AreOfClass : (x : ℕ) → TypingData → (ls : List Letter) → (more : Option Letter) → List (Option Llt) → Type 0
AreOfClass x typing ls more types = (l : Letter) → list_all (is_of x (class_of typing l)) (known (places_with l ls more types)) ≡ true

-- behind the letters, where further types have one
behind_pass : (x : ℕ) (typing : TypingData) (ls : List Letter) (m : Letter) (types : List (Option Llt)) (place : ℕ) → length ls ≤ place → list_all is_some types ≡ true → list_all (is_of x (class_of typing m)) (known types) ≡ true
    → each_passes (is_typed_at x typing ls (Some m)) place types ≡ true
behind_pass x typing ls m [] place past typed own = refl
behind_pass x typing ls m (None ∷ types) place past typed own = cc
behind_pass x typing ls m (Some ty ∷ types) place past typed own =
    let each = and_parts (is_of x (class_of typing m) ty) (list_all (is_of x (class_of typing m)) (known types)) own in
    and_from (is_typed_at x typing ls (Some m) place ty) (each_passes (is_typed_at x typing ls (Some m)) (place + 1) types)
    (ap (λ o. option_map_or (λ l. is_of x (class_of typing l) ty) (option_or o (Some m)) false) (none_there ls place past) ∙ each.0)
    (behind_pass x typing ls m types (place + 1) (omega (arith, past)) typed each.1)

places_pass : (x : ℕ) (typing : TypingData) (before ls : List Letter) (more : Option Letter) (types : List (Option Llt)) → list_all is_some types ≡ true → (is_some more || nat_le (length types) (length ls)) ≡ true → AreOfClass x typing ls more types
    → each_passes (is_typed_at x typing (before ++ ls) more) (length before) types ≡ true
places_pass x typing before ls more [] typed room own = refl
places_pass x typing before ls more (None ∷ types) typed room own = cc
places_pass x typing before [] None (Some ty ∷ types) typed room own = let none : suc (length types) ≤ 0 = leb-true (suc (length types)) 0 room in absurd (omega (arith, none))
places_pass x typing before [] (Some m) (Some ty ∷ types) typed room own =
    behind_pass x typing (before ++ []) m (Some ty ∷ types) (length before) (let same : length (before ++ []) ≡ length before = ap length (append-nil before) in omega (arith, same)) typed
    (sym (ap (λ t. list_all (is_of x (class_of typing m)) (known (cond t (Some ty ∷ types) []))) (itself m)) ∙ own m)
places_pass x typing before (l ∷ ls) more (Some ty ∷ types) typed room own =
    and_from (is_typed_at x typing (before ++ l ∷ ls) more (length before) ty) (each_passes (is_typed_at x typing (before ++ l ∷ ls) more) (length before + 1) types)
    (ap (λ o. option_map_or (λ k. is_of x (class_of typing k) ty) (option_or o more) false) (get_here before ls l) ∙ here) (rest (places_pass x typing (before ++ l ∷ []) ls more types typed less later))
  where
    here : is_of x (class_of typing l) ty ≡ true
    here =
        (and_parts (is_of x (class_of typing l) ty) (list_all (is_of x (class_of typing l)) (known (places_with l ls more types)))
        (sym (ap (λ t. list_all (is_of x (class_of typing l)) (known (cond t (Some ty ∷ places_with l ls more types) (places_with l ls more types)))) (itself l)) ∙ own l)).0

    later : AreOfClass x typing ls more types
    later m = by (is_letter m l) (own m)
      where
        by : (t : Bool) → list_all (is_of x (class_of typing m)) (known (cond t (Some ty ∷ places_with m ls more types) (places_with m ls more types))) ≡ true → list_all (is_of x (class_of typing m)) (known (places_with m ls more types)) ≡ true
        by true h = (and_parts (is_of x (class_of typing m) ty) (list_all (is_of x (class_of typing m)) (known (places_with m ls more types))) h).1
        by false h = h

    less : (is_some more || nat_le (length types) (length ls)) ≡ true
    less =
        ⊎_elim (λ any. or_left (is_some more) (nat_le (length types) (length ls)) any)
        (λ few. let all : suc (length types) ≤ suc (length ls) = leb-true (suc (length types)) (suc (length ls)) few in let fewer : length types ≤ length ls = omega (arith, all) in
        or_right (is_some more) (nat_le (length types) (length ls)) (le-leb (length types) (length ls) fewer))
        (or_cases (is_some more) (nat_le (suc (length types)) (suc (length ls))) room)

    rest : each_passes (is_typed_at x typing ((before ++ l ∷ []) ++ ls) more) (length (before ++ l ∷ [])) types ≡ true → each_passes (is_typed_at x typing (before ++ l ∷ ls) more) (length before + 1) types ≡ true
    rest pass =
        subst (λ k. each_passes (is_typed_at x typing (before ++ l ∷ ls) more) k types ≡ true) (length-append before (l ∷ []))
        (subst (λ all. each_passes (is_typed_at x typing all more) (length (before ++ l ∷ [])) types ≡ true) (append_assoc before (l ∷ []) ls) pass)

-- ══ What meets a row ══

known_append : (xs ys : List (Option Llt)) → known (xs ++ ys) ≡ known xs ++ known ys
known_append [] ys = refl
known_append (None ∷ xs) ys = known_append xs ys
known_append (Some ty ∷ xs) ys = ap (λ l. ty ∷ l) (known_append xs ys)

-- each type alone, among results and among sources
record PassAlone (x : ℕ) (typing : TypingData) (rs ss : List (Option Llt)) : Type 0 where
  results : each_passes (is_typed_at x typing typing.results typing.more_results) 0 rs ≡ true
  sources : each_passes (is_typed_at x typing typing.sources typing.more_sources) 0 ss ≡ true

pass_alone : (x : ℕ) (typing : TypingData) (rs ss : List (Option Llt)) → meets x typing rs ss ≡ true → list_all is_some rs ≡ true → list_all is_some ss ≡ true
    → (is_some typing.more_results || nat_le (length rs) (length typing.results)) ≡ true → (is_some typing.more_sources || nat_le (length ss) (length typing.sources)) ≡ true → PassAlone x typing rs ss
pass_alone x typing rs ss met typed_results typed_sources results sources = record {
  results = places_pass x typing [] typing.results typing.more_results rs typed_results results (λ l. (both l).0);
  sources = places_pass x typing [] typing.sources typing.more_sources ss typed_sources sources (λ l. (both l).1);
}
  where
    both : (l : Letter) → (list_all (is_of x (class_of typing l)) (known (places_with l typing.results typing.more_results rs)) ≡ true) × (list_all (is_of x (class_of typing l)) (known (places_with l typing.sources typing.more_sources ss)) ≡ true)
    both l =
        let firsts : List (Option Llt) = places_with l typing.results typing.more_results rs in
        let seconds : List (Option Llt) = places_with l typing.sources typing.more_sources ss in
        let one : are_one x (class_of typing l) (known (places_of_letter l typing rs ss)) ≡ true =
        each_letter (λ k. are_one x (class_of typing k) (known (places_of_letter k typing rs ss))) l (and_parts (list_all (λ k. are_one x (class_of typing k) (known (places_of_letter k typing rs ss))) letters) _ met).0 in
        and_parts (list_all (is_of x (class_of typing l)) (known firsts)) (list_all (is_of x (class_of typing l)) (known seconds))
        (sym (ap (list_all (is_of x (class_of typing l))) (known_append firsts seconds) ∙ list_all-append (is_of x (class_of typing l)) (known firsts) (known seconds)) ∙ one_class x (class_of typing l) (known (places_of_letter l typing rs ss)) one)

-- ══ All registers of an instruction ══

map_append : {A B : Type 0} (g : A → B) (xs ys : List A) → map g (xs ++ ys) ≡ map g xs ++ map g ys
map_append g [] ys = refl
map_append g (x ∷ xs) ys = ap (λ l. g x ∷ l) (map_append g xs ys)

last_met : (x : ℕ) (tf : ℕ → Option Llt) (typing : TypingData) (n : ℕ) (before behind : List ℕ) (r : ℕ) → first_unmet x tf typing n before (r ∷ behind) ≡ None → is_met x tf typing n (before ++ r ∷ behind) 0 ≡ true
last_met x tf typing n before [] r h = by (is_met x tf typing n (before ++ r ∷ []) 0) h
  where
    by : (t : Bool) → cond t None (Some r) ≡ None → t ≡ true
    by true h = refl
    by false h = cc
last_met x tf typing n before (s ∷ behind) r h =
    subst (λ l. is_met x tf typing n l 0 ≡ true) (append_assoc before (r ∷ []) (s ∷ behind))
    (last_met x tf typing n (before ++ r ∷ []) behind s (by (is_met x tf typing n (before ++ r ∷ []) (length (s ∷ behind))) h))
  where
    by : (t : Bool) → cond t (first_unmet x tf typing n (before ++ r ∷ []) (s ∷ behind)) (Some r) ≡ None → first_unmet x tf typing n (before ++ r ∷ []) (s ∷ behind) ≡ None
    by true h = h
    by false h = cc

take_first : (tf : ℕ → Option Llt) (firsts : List ℕ) (ys : List (Option Llt)) → take (length firsts) (map tf firsts ++ ys) ≡ map tf firsts
take_first tf [] ys = refl
take_first tf (a ∷ firsts) ys = ap (λ l. tf a ∷ l) (take_first tf firsts ys)

drop_first : (tf : ℕ → Option Llt) (firsts : List ℕ) (ys : List (Option Llt)) → drop (length firsts) (map tf firsts ++ ys) ≡ ys
drop_first tf [] ys = refl
drop_first tf (a ∷ firsts) ys = drop_first tf firsts ys

met_parts : (x : ℕ) (tf : ℕ → Option Llt) (typing : TypingData) (firsts bs : List ℕ) → is_met x tf typing (length firsts) (firsts ++ bs) 0 ≡ true → meets x typing (map tf firsts) (map tf bs) ≡ true
met_parts x tf typing firsts bs h =
    let whole : map tf (firsts ++ bs) ++ [] ≡ map tf firsts ++ map tf bs = append-nil (map tf (firsts ++ bs)) ∙ map_append tf firsts bs in
    subst (λ ss. meets x typing (map tf firsts) ss ≡ true) (drop_first tf firsts (map tf bs))
    (subst (λ rs. meets x typing rs (drop (length firsts) (map tf firsts ++ map tf bs)) ≡ true) (take_first tf firsts (map tf bs))
    (subst (λ types. meets x typing (take (length firsts) types) (drop (length firsts) types) ≡ true) whole h))

length_mapped : (tf : ℕ → Option Llt) (rs : List ℕ) → length (map tf rs) ≡ length rs
length_mapped tf [] = refl
length_mapped tf (r ∷ rs) = ap suc (length_mapped tf rs)

row_passes : (x : ℕ) (tf : ℕ → Option Llt) (typing : TypingData) (os : List Operand) → HasLetters typing os → list_all is_some (map tf (results_in os)) ≡ true → list_all is_some (map tf (sources_in os)) ≡ true
    → (rs ss : List ℕ) → results_in os ≡ rs → sources_in os ≡ ss → first_unmet x tf typing (length rs) [] (rs ++ ss) ≡ None → PassAlone x typing (map tf rs) (map tf ss)
row_passes x tf typing os has results sources [] [] firsts seconds met = record { results = refl; sources = refl }
row_passes x tf typing os has results sources [] (s ∷ ss) firsts seconds met =
    pass_alone x typing [] (map tf (s ∷ ss)) (met_parts x tf typing [] (s ∷ ss) (last_met x tf typing 0 [] ss s met)) refl (subst (λ l. list_all is_some (map tf l) ≡ true) seconds sources)
    (subst (λ l. (is_some typing.more_results || nat_le (length l) (length typing.results)) ≡ true) firsts has.results)
    (ap (λ n. is_some typing.more_sources || nat_le n (length typing.sources)) (length_mapped tf (s ∷ ss)) ∙ subst (λ l. (is_some typing.more_sources || nat_le (length l) (length typing.sources)) ≡ true) seconds has.sources)
row_passes x tf typing os has results sources (r ∷ rs) ss firsts seconds met =
    pass_alone x typing (map tf (r ∷ rs)) (map tf ss) (met_parts x tf typing (r ∷ rs) ss (last_met x tf typing (length (r ∷ rs)) [] (rs ++ ss) r met)) (subst (λ l. list_all is_some (map tf l) ≡ true) firsts results)
    (subst (λ l. list_all is_some (map tf l) ≡ true) seconds sources)
    (ap (λ n. is_some typing.more_results || nat_le n (length typing.results)) (length_mapped tf (r ∷ rs)) ∙ subst (λ l. (is_some typing.more_results || nat_le (length l) (length typing.results)) ≡ true) firsts has.results)
    (ap (λ n. is_some typing.more_sources || nat_le n (length typing.sources)) (length_mapped tf ss) ∙ subst (λ l. (is_some typing.more_sources || nat_le (length l) (length typing.sources)) ≡ true) seconds has.sources)

-- an opcode that says nothing of types accepts all
any_pass : (place : ℕ) (types : List (Option Llt)) → list_all is_some types ≡ true → each_passes (λ k ty. true) place types ≡ true
any_pass place [] typed = refl
any_pass place (None ∷ types) typed = cc
any_pass place (Some ty ∷ types) typed = any_pass (place + 1) types typed

pub suited_accepted : (x : ℕ) (tf : ℕ → Option Llt) (i : InstrData) → unsuited x tf i ≡ None → fits_one_of (rows_of i.op) i.operands ≡ true → list_all is_some (map tf (results_in i.operands)) ≡ true → list_all is_some (map tf (sources_in i.operands)) ≡ true
    → is_accepted x tf i ≡ true
suited_accepted x tf i suited fit results sources =
    by (typing_of i.op) refl
    (neither (unmet x tf (typing_of i.op) i.operands) (cond (is_constant_op i.op) (unsized x tf i.operands) None)
    (neither (roomless tf (memory_of i.op) i.mem i.operands) (option_or (unmet x tf (typing_of i.op) i.operands) (cond (is_constant_op i.op) (unsized x tf i.operands) None)) suited).1).0
  where
    by : (o : Option TypingData) → typing_of i.op ≡ o → unmet x tf o i.operands ≡ None
        → (each_passes (λ place ty. option_map_or (λ typing. is_typed_at x typing typing.results typing.more_results place ty) o true) 0 (map tf (results_in i.operands))
        && each_passes (λ place ty. option_map_or (λ typing. is_typed_at x typing typing.sources typing.more_sources place ty) o true) 0 (map tf (sources_in i.operands))) ≡ true
    by None so met = and_from _ _ (any_pass 0 (map tf (results_in i.operands)) results) (any_pass 0 (map tf (sources_in i.operands)) sources)
    by (Some typing) so met =
        let alone = row_passes x tf typing i.operands (has_letters i.op typing i.operands so fit) results sources (results_in i.operands) (sources_in i.operands) refl refl met in and_from _ _ alone.results alone.sources
