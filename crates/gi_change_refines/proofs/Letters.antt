-- In an instruction that meets its row, the registers of a letter have known types.
use Rattle.std.proofs.Common.{◌≡◌, ℕ, suc, Bool, true, false, cond, List, [], ◌∷◌, ◌++◌, Option, Some, None, map, take, drop, length, refl, sym, ap, ap₂, ◌∙◌, subst, append-nil, append_assoc}
use Rattle.std.specs.Prelude.{is_some}
use Rattle.std.specs.Option.{option_map_or}
use Rattle.gi_llt.specs.declared.Llt.{Llt}
use Rattle.gi_mir.specs.Accepted.{is_letter, types_at, types_of}
use Rattle.gi_mir.specs.Typings.{TypingData}
use Rattle.gi_mir.specs.declared.operand.Kind.{Kind}
use Rattle.gi_mir.specs.declared.operand.Operand.{Operand}
use Rattle.gi_mir.specs.declared.operand.Operand.TheVariants as operand
use Rattle.gi_mir.specs.declared.operand.Reg.{Reg}
use Rattle.gi_mir.specs.declared.typing.Letter.{Letter}
use Rattle.gi_meaning.specs.InRow.{results_in, sources_in}
use Rattle.gi_valid.specs.Typing.{first_unmet, is_met, known, meets, places_of_letter, places_with, unmet}

-- ══ Types that are known ══

map_append : {A B : Type 0} (g : A → B) (xs ys : List A) → map g (xs ++ ys) ≡ map g xs ++ map g ys
map_append g [] ys = refl
map_append g (x ∷ xs) ys = ap (λ l. g x ∷ l) (map_append g xs ys)

pub length_mapped : {A B : Type 0} (g : A → B) (xs : List A) → length (map g xs) ≡ length xs
length_mapped g [] = refl
length_mapped g (x ∷ xs) = ap suc (length_mapped g xs)

abbrev pub all_known : List Llt → List (Option Llt)
all_known types = map (λ ty. Some ty) types

known_all : (types : List Llt) → known (all_known types) ≡ types
known_all [] = refl
known_all (ty ∷ types) = ap (λ l. ty ∷ l) (known_all types)

with_known : (l : Letter) (ls : List Letter) (more : Option Letter) (types : List Llt) → places_with l ls more (all_known types) ≡ all_known (types_at l ls more types)
with_known l [] None types = refl
with_known l [] (Some m) types = by (is_letter l m)
  where
    by : (t : Bool) → cond t (all_known types) [] ≡ all_known (cond t types [])
    by true = refl
    by false = refl
with_known l (m ∷ ls) more [] = refl
with_known l (m ∷ ls) more (ty ∷ types) = by (is_letter l m) (with_known l ls more types)
  where
    by : (t : Bool) → places_with l ls more (all_known types) ≡ all_known (types_at l ls more types)
        → cond t (Some ty ∷ places_with l ls more (all_known types)) (places_with l ls more (all_known types)) ≡ all_known (cond t (ty ∷ types_at l ls more types) (types_at l ls more types))
    by true rest = ap (λ k. Some ty ∷ k) rest
    by false rest = rest

pub of_letter : (l : Letter) (typing : TypingData) (rs ss : List Llt) → places_of_letter l typing (all_known rs) (all_known ss) ≡ all_known (types_of l typing rs ss)
of_letter l typing rs ss =
    ap₂ (λ a b. a ++ b) (with_known l typing.results typing.more_results rs) (with_known l typing.sources typing.more_sources ss)
    ∙ sym (map_append (λ ty. Some ty) (types_at l typing.results typing.more_results rs) (types_at l typing.sources typing.more_sources ss))

pub known_of_letter : (l : Letter) (typing : TypingData) (rs ss : List Llt) → known (places_of_letter l typing (all_known rs) (all_known ss)) ≡ types_of l typing rs ss
known_of_letter l typing rs ss = ap known (of_letter l typing rs ss) ∙ known_all (types_of l typing rs ss)

-- ══ What an instruction's row says of all its registers ══

last_met : (x : ℕ) (tf : ℕ → Option Llt) (typing : TypingData) (n : ℕ) (before behind : List ℕ) (r : ℕ) → first_unmet x tf typing n before (r ∷ behind) ≡ None → is_met x tf typing n (before ++ r ∷ behind) 0 ≡ true
last_met x tf typing n before [] r h = by (is_met x tf typing n (before ++ r ∷ []) 0) h
  where
    by : (t : Bool) → cond t None (Some r) ≡ None → t ≡ true
    by true h = refl
    by false h = cc
last_met x tf typing n before (s ∷ behind) r h =
    subst (λ l. is_met x tf typing n l 0 ≡ true) (append_assoc before (r ∷ []) (s ∷ behind))
    (last_met x tf typing n (before ++ r ∷ []) behind s (by (is_met x tf typing n (before ++ r ∷ []) (length (s ∷ behind))) h))
  where
    by : (t : Bool) → cond t (first_unmet x tf typing n (before ++ r ∷ []) (s ∷ behind)) (Some r) ≡ None → first_unmet x tf typing n (before ++ r ∷ []) (s ∷ behind) ≡ None
    by true h = h
    by false h = cc

take_first : (tf : ℕ → Option Llt) (firsts : List ℕ) (ys : List (Option Llt)) → take (length firsts) (map tf firsts ++ ys) ≡ map tf firsts
take_first tf [] ys = refl
take_first tf (a ∷ firsts) ys = ap (λ l. tf a ∷ l) (take_first tf firsts ys)

drop_first : (tf : ℕ → Option Llt) (firsts : List ℕ) (ys : List (Option Llt)) → drop (length firsts) (map tf firsts ++ ys) ≡ ys
drop_first tf [] ys = refl
drop_first tf (a ∷ firsts) ys = drop_first tf firsts ys

met_parts : (x : ℕ) (tf : ℕ → Option Llt) (typing : TypingData) (firsts bs : List ℕ) → is_met x tf typing (length firsts) (firsts ++ bs) 0 ≡ true → meets x typing (map tf firsts) (map tf bs) ≡ true
met_parts x tf typing firsts bs h =
    let whole : map tf (firsts ++ bs) ++ [] ≡ map tf firsts ++ map tf bs = append-nil (map tf (firsts ++ bs)) ∙ map_append tf firsts bs in
    subst (λ ss. meets x typing (map tf firsts) ss ≡ true) (drop_first tf firsts (map tf bs))
    (subst (λ rs. meets x typing rs (drop (length firsts) (map tf firsts ++ map tf bs)) ≡ true) (take_first tf firsts (map tf bs))
    (subst (λ types. meets x typing (take (length firsts) types) (drop (length firsts) types) ≡ true) whole h))

-- of an instruction that defines a register first
pub met_registers : (x : ℕ) (tf : ℕ → Option Llt) (typing : TypingData) (r : Reg) (kind : Kind) (os : List Operand) → unmet x tf (Some typing) (operand.Def r kind ∷ os) ≡ None
    → meets x typing (map tf (results_in (operand.Def r kind ∷ os))) (map tf (sources_in (operand.Def r kind ∷ os))) ≡ true
met_registers x tf typing r kind os met =
    let written : List Operand = operand.Def r kind ∷ os in
    met_parts x tf typing (results_in written) (sources_in written) (last_met x tf typing (length (results_in written)) [] (results_in os ++ sources_in written) r.0 met)

-- ══ The types of bound registers ══

pub some_is : (o : Option Llt) (d : Llt) → is_some o ≡ true → o ≡ Some (option_map_or (λ ty. ty) o d)
some_is None d h = cc
some_is (Some ty) d h = refl
