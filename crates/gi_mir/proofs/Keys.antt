-- The keys of a table tell the definitions and the uses of registers apart.
use Rattle.std.proofs.Common.{◌≡◌, ℕ, ◌+◌, ◌*◌, Bool, true, false, ◌||◌, cond, List, [], ◌∷◌, Some, refl, ap, ap₂, arith}
use Rattle.std.specs.Prelude.{slice_get, option_map, ◌==◌, map, filter, find}
use Rattle.std.specs.List.{list_any}
use Rattle.std.proofs.lemmas.Bool.Decides.{nat_tests}
use Rattle.gi_mir.specs.declared.operand.Operand.{Operand}
use Rattle.gi_mir.specs.declared.operand.Operand.TheVariants as operand
use Rattle.gi_mir.specs.Data.{InstrData}
use Rattle.gi_mir.specs.Edit.{is_def_of, is_use_of, defines, uses}
use Rattle.gi_mir.specs.Mentions.{definition_key, use_key, is_mention, mentions, mentioning, instr_id}

is_mention-definition : (reg : ℕ) (x : Operand) → is_mention (definition_key reg) x ≡ is_def_of reg x
is_mention-definition reg (operand.Def r kind) = same r.0
  where
    same : (n : ℕ) → (2 * n == 2 * reg) ≡ (n == reg)
    same n = grind (arith, nat_tests)
is_mention-definition reg (operand.Use r) = apart r.0
  where
    apart : (n : ℕ) → (2 * n + 1 == 2 * reg) ≡ false
    apart n = grind (arith, nat_tests)
is_mention-definition reg _ = refl

is_mention-use : (reg : ℕ) (x : Operand) → is_mention (use_key reg) x ≡ is_use_of reg x
is_mention-use reg (operand.Def r kind) = apart r.0
  where
    apart : (n : ℕ) → (2 * n == 2 * reg + 1) ≡ false
    apart n = grind (arith, nat_tests)
is_mention-use reg (operand.Use r) = same r.0
  where
    same : (n : ℕ) → (2 * n + 1 == 2 * reg + 1) ≡ (n == reg)
    same n = grind (arith, nat_tests)
is_mention-use reg _ = refl

list_any-same : {X : Type 0} (p q : X → Bool) → ((x : X) → p x ≡ q x) → (xs : List X) → list_any p xs ≡ list_any q xs
list_any-same p q same [] = refl
list_any-same p q same (x ∷ xs) = ap₂ (λ a b. a || b) (same x) (list_any-same p q same xs)

pub mentions-definition : (reg : ℕ) (p : ℕ × InstrData) → mentions (definition_key reg) p ≡ defines reg p
mentions-definition reg p = list_any-same (is_mention (definition_key reg)) (is_def_of reg) (is_mention-definition reg) p.1.operands

pub mentions-use : (reg : ℕ) (p : ℕ × InstrData) → mentions (use_key reg) p ≡ uses reg p
mentions-use reg p =
    list_any-same (is_mention (use_key reg)) (is_use_of reg) (is_mention-use reg) p.1.operands

-- the first of a list
pub first_definition : (reg : ℕ) (instrs : List (ℕ × InstrData)) → option_map (λ id. id.0) (slice_get (mentioning (definition_key reg) instrs) 0) ≡ option_map (λ p. p.0) (find (defines reg) instrs)
first_definition reg [] = refl
first_definition reg (p ∷ ps) = by (mentions (definition_key reg) p) (defines reg p) (mentions-definition reg p) (first_definition reg ps)
  where
    by : (a b : Bool) → a ≡ b → option_map (λ id. id.0) (slice_get (mentioning (definition_key reg) ps) 0) ≡ option_map (λ q. q.0) (find (defines reg) ps)
        → option_map (λ id. id.0) (slice_get (map (λ (q : ℕ × InstrData). instr_id q) (cond a (p ∷ filter (mentions (definition_key reg)) ps) (filter (mentions (definition_key reg)) ps))) 0) ≡ option_map (λ q. q.0) (cond b (Some p) (find (defines reg) ps))
    by true true same more = refl
    by false false same more = more
    by true false same more = cc
    by false true same more = cc

-- and all of it
pub listed_users : (reg : ℕ) (instrs : List (ℕ × InstrData)) → map (λ id. id.0) (mentioning (use_key reg) instrs) ≡ map (λ p. p.0) (filter (uses reg) instrs)
listed_users reg [] = refl
listed_users reg (p ∷ ps) = by (mentions (use_key reg) p) (uses reg p) (mentions-use reg p) (listed_users reg ps)
  where
    by : (a b : Bool) → a ≡ b → map (λ id. id.0) (mentioning (use_key reg) ps) ≡ map (λ q. q.0) (filter (uses reg) ps)
        → map (λ id. id.0) (map (λ (q : ℕ × InstrData). instr_id q) (cond a (p ∷ filter (mentions (use_key reg)) ps) (filter (mentions (use_key reg)) ps))) ≡ map (λ q. q.0) (cond b (p ∷ filter (uses reg) ps) (filter (uses reg) ps))
    by true true same more = ap (λ (xs : List ℕ). p.0 ∷ xs) more
    by false false same more = more
    by true false same more = cc
    by false true same more = cc
