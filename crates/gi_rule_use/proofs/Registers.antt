-- Registers of results, and their numbers.
use Rattle.std.proofs.Common.{◌≡◌, ℕ, ◌+◌, List, [], ◌∷◌, ◌++◌, Option, Some, None, length, refl, ap, ap₂, sym, ◌∙◌, arith, append_assoc, length-append, rules}
use Rattle.gi_llt.specs.declared.Llt.{Llt}
use Rattle.gi_mir.specs.declared.operand.Reg.{Reg}
use Rattle.gi_refine.specs.Lifting.{grown}
use Rattle.gi_rule_valid.specs.Using.{next_behind, place_for, registers_for, target_at}
use Rattle.gi_rule_use.specs.Making.{numbers_of}

numbers_append : (xs ys : List Reg) → numbers_of (xs ++ ys) ≡ numbers_of xs ++ numbers_of ys
numbers_append [] ys = refl
numbers_append (x ∷ xs) ys = ap (λ (ns : List ℕ). x.0 ∷ ns) (numbers_append xs ys)

length_numbers : (xs : List Reg) → length (numbers_of xs) ≡ length xs
length_numbers [] = refl
length_numbers (x ∷ xs) = omega (arith, length_numbers xs)

grown_is : (registers rs : List ℕ) → grown registers rs ≡ registers ++ rs
grown_is registers [] = search rules
grown_is registers (r ∷ rs) = grown_is (registers ++ r ∷ []) rs ∙ append_assoc registers (r ∷ []) rs

length_registers_for : (targets : List (ℕ × ℕ)) (place next : ℕ) (types : List Llt) → length (registers_for targets place next types) ≡ length types
length_registers_for targets place next [] = refl
length_registers_for targets place next (ty ∷ types) = omega (arith, length_registers_for targets (place + 1) (next_behind (target_at targets place) next) types)

place_for_is : (place : ℕ) (types : List Llt) → place_for place types ≡ place + length types
place_for_is place [] = omega arith
place_for_is place (ty ∷ types) = omega (arith, place_for_is (place + 1) types)

pub results_are : (rs os start : List Reg) (targets : List (ℕ × ℕ)) (place place' next : ℕ) (types types' : List Llt) → rs ≡ os → start ≡ [] → place' ≡ place → types' ≡ types
    → numbers_of os ≡ numbers_of start ++ registers_for targets place' next types' → numbers_of rs ≡ registers_for targets place next types
results_are rs os start targets place place' next types types' a b c d e =
    ap numbers_of a
    ∙ e
    ∙ ap (λ (s : List Reg). numbers_of s ++ registers_for targets place' next types') b
    ∙ ap₂ (λ (p : ℕ) (ts : List Llt). registers_for targets p next ts) c d

-- the registers of results join those before
pub numbers_grown : (zs xs rs : List Reg) (ns : List ℕ) → zs ≡ xs ++ rs → numbers_of rs ≡ ns → numbers_of zs ≡ grown (numbers_of xs) ns
numbers_grown zs xs rs ns z e = ap numbers_of z ∙ numbers_append xs rs ∙ ap (λ (ms : List ℕ). numbers_of xs ++ ms) e ∙ sym (grown_is (numbers_of xs) ns)

pub place_behind : (zs xs rs : List Reg) (targets : List (ℕ × ℕ)) (next : ℕ) (types : List Llt) → zs ≡ xs ++ rs → numbers_of rs ≡ registers_for targets (length xs) next types
    → length zs ≡ place_for (length xs) types
place_behind zs xs rs targets next types z e =
    let many : length rs ≡ length types = sym (length_numbers rs) ∙ ap (λ (ns : List ℕ). length ns) e ∙ length_registers_for targets (length xs) next types in
    let all : length zs ≡ length (xs ++ rs) = ap (λ (r : List Reg). length r) z in
    omega (arith, all, many, length-append xs rs, place_for_is (length xs) types)

pub next_behind_add : (o : Option ℕ) (m n : ℕ) → next_behind o m + n ≡ m + next_behind o n
next_behind_add None m n = omega arith
next_behind_add (Some r) m n = refl
