-- A list is cut at the first place where a test passes.
use Rattle.std.proofs.Common.{◌≡◌, ℕ, suc, ◌+◌, Bool, true, false, cond, List, [], ◌∷◌, Some, None, length, take, drop, refl, sym, ap, ◌∙◌, arith}
use Rattle.std.proofs.lemmas.Iterator.Adapters.{position_from-zero}
use Rattle.std.specs.Prelude.{not, map}
use Rattle.std.specs.List.{position_from, position}
use Rattle.gi_llt.specs.Tokens.{run_of, past_run}

record IsRunTo {X : Type 0} (pass : X → Bool) (xs : List X) (from place : ℕ) : Type 0 where
  count : ℕ
  at : place ≡ from + count
  run : run_of pass xs ≡ take count xs
  past : past_run pass xs ≡ drop count xs

run_to : {X : Type 0} (stops pass : X → Bool) → ((x : X) → pass x ≡ not (stops x)) → (xs : List X) (from place : ℕ) → position_from stops from xs ≡ Some place → IsRunTo pass xs from place
run_to stops pass same [] from place found = cc
run_to stops pass same (x ∷ xs) from place found = chosen (stops x) (same x) found (run_to stops pass same xs (from + 1) place)
  where
    chosen : (test : Bool) → pass x ≡ not test → cond test (Some from) (position_from stops (from + 1) xs) ≡ Some place
        → (position_from stops (from + 1) xs ≡ Some place → IsRunTo pass xs (from + 1) place) → IsRunTo pass (x ∷ xs) from place
    chosen true is found more = record { count = 0; at = (let e : from ≡ place = cc in omega arith); run = rw is refl; past = rw is refl }
    chosen false is found more = let cut = more found in record { count = suc cut.count; at = omega (arith, cut.at); run = rw is (ap (λ ys. x ∷ ys) cut.run); past = rw is cut.past }

pub run_before : {X : Type 0} (stops pass : X → Bool) → ((x : X) → pass x ≡ not (stops x)) → (xs : List X) (place : ℕ) → Some place ≡ position stops xs → take place xs ≡ run_of pass xs
run_before stops pass same xs place found =
    let cut = run_to stops pass same xs 0 place (sym (found ∙ position_from-zero stops xs)) in
    let e : cut.count ≡ place = omega (arith, cut.at) in
    ap (λ n. take n xs) (sym e) ∙ sym cut.run

pub past_before : {X : Type 0} (stops pass : X → Bool) → ((x : X) → pass x ≡ not (stops x)) → (xs : List X) (place : ℕ) → Some place ≡ position stops xs → drop place xs ≡ past_run pass xs
past_before stops pass same xs place found =
    let cut = run_to stops pass same xs 0 place (sym (found ∙ position_from-zero stops xs)) in
    let e : cut.count ≡ place = omega (arith, cut.at) in
    ap (λ n. drop n xs) (sym e) ∙ sym cut.past

record IsRunWhole {X : Type 0} (pass : X → Bool) (xs : List X) : Type 0 where
  run : run_of pass xs ≡ xs
  past : past_run pass xs ≡ []

run_all : {X : Type 0} (stops pass : X → Bool) → ((x : X) → pass x ≡ not (stops x)) → (xs : List X) (from : ℕ) → position_from stops from xs ≡ None → IsRunWhole pass xs
run_all stops pass same [] from none = record { run = refl; past = refl }
run_all stops pass same (x ∷ xs) from none = chosen (stops x) (same x) none (run_all stops pass same xs (from + 1))
  where
    chosen : (test : Bool) → pass x ≡ not test → cond test (Some from) (position_from stops (from + 1) xs) ≡ None
        → (position_from stops (from + 1) xs ≡ None → IsRunWhole pass xs) → IsRunWhole pass (x ∷ xs)
    chosen true is none more = cc
    chosen false is none more = let whole = more none in record { run = rw is (ap (λ ys. x ∷ ys) whole.run); past = rw is whole.past }

pub run_whole : {X : Type 0} (stops pass : X → Bool) → ((x : X) → pass x ≡ not (stops x)) → (xs : List X) → None ≡ position stops xs → xs ≡ run_of pass xs
run_whole stops pass same xs none = let whole = run_all stops pass same xs 0 (sym (none ∙ position_from-zero stops xs)) in sym whole.run

pub past_whole : {X : Type 0} (stops pass : X → Bool) → ((x : X) → pass x ≡ not (stops x)) → (xs : List X) → None ≡ position stops xs → [] ≡ past_run pass xs
past_whole stops pass same xs none = let whole = run_all stops pass same xs 0 (sym (none ∙ position_from-zero stops xs)) in sym whole.past

pub not_not : (b : Bool) → b ≡ not (not b)
not_not true = refl
not_not false = refl

pub take_run : {X : Type 0} (pass : X → Bool) (xs : List X) → take (length (run_of pass xs)) xs ≡ run_of pass xs
take_run pass [] = refl
take_run pass (x ∷ xs) = chosen (pass x) (take_run pass xs)
  where
    chosen : (test : Bool) → take (length (run_of pass xs)) xs ≡ run_of pass xs → take (length (cond test (x ∷ run_of pass xs) [])) (x ∷ xs) ≡ cond test (x ∷ run_of pass xs) []
    chosen true more = ap (λ ys. x ∷ ys) more
    chosen false more = refl

pub run_of-map : {X Y : Type 0} (pass : Y → Bool) (f : X → Y) (xs : List X) → run_of pass (map f xs) ≡ map f (run_of (λ x. pass (f x)) xs)
run_of-map pass f [] = refl
run_of-map pass f (x ∷ xs) = chosen (pass (f x)) (run_of-map pass f xs)
  where
    chosen : (test : Bool) → run_of pass (map f xs) ≡ map f (run_of (λ y. pass (f y)) xs) → cond test (f x ∷ run_of pass (map f xs)) [] ≡ map f (cond test (x ∷ run_of (λ y. pass (f y)) xs) [])
    chosen true more = ap (λ ys. f x ∷ ys) more
    chosen false more = refl

pub past_run-map : {X Y : Type 0} (pass : Y → Bool) (f : X → Y) (xs : List X) → past_run pass (map f xs) ≡ map f (past_run (λ x. pass (f x)) xs)
past_run-map pass f [] = refl
past_run-map pass f (x ∷ xs) = chosen (pass (f x)) (past_run-map pass f xs)
  where
    chosen : (test : Bool) → past_run pass (map f xs) ≡ map f (past_run (λ y. pass (f y)) xs) → cond test (past_run pass (map f xs)) (f x ∷ map f xs) ≡ map f (cond test (past_run (λ y. pass (f y)) xs) (x ∷ xs))
    chosen true more = more
    chosen false more = refl

pub past_run-same : {X : Type 0} (p q : X → Bool) → ((x : X) → p x ≡ q x) → (xs : List X) → past_run p xs ≡ past_run q xs
past_run-same p q same [] = refl
past_run-same p q same (x ∷ xs) = chosen (p x) (q x) (same x) (past_run-same p q same xs)
  where
    chosen : (a b : Bool) → a ≡ b → past_run p xs ≡ past_run q xs → cond a (past_run p xs) (x ∷ xs) ≡ cond b (past_run q xs) (x ∷ xs)
    chosen true true e more = more
    chosen true false e more = cc
    chosen false true e more = cc
    chosen false false e more = refl
