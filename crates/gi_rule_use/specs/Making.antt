-- Making a rewrite at an instruction: how many registers it needs, that what is made is formed, and what is told.
use Rattle.std.specs.Prelude.{ℕ, ◌+◌, Bool, List, [], ◌∷◌, length, map}
use Rattle.std.specs.List.{list_all}
use Rattle.gi_llt.specs.declared.Llt.{Llt}
use Rattle.gi_mir.specs.Data.{FunctionData}
use Rattle.gi_mir.specs.Formed.{is_formed}
use Rattle.gi_mir.specs.declared.operand.Kind.TheVariants.{Generic}
use Rattle.gi_mir.specs.declared.operand.Reg.{Reg}
use Rattle.gi_observe.specs.declared.change.Change.{Change}
use Rattle.gi_observe.specs.declared.pass.Pass.{Pass}
use Rattle.gi_replace.specs.Applying.{root_told}
use Rattle.gi_rule_values.specs.Data.{OperationData, RewriteData}
use Rattle.gi_rule_valid.specs.Using.{UseData, instr_for, made_of, next_behind, place_for, target_at, targets_of}

-- the numbers of registers
abbrev pub numbers_of : List Reg → List ℕ
numbers_of registers = map (λ r. r.0) registers

-- ══ Room ══

-- how many of the results from a place on are new registers
abbrev pub new_among : List (ℕ × ℕ) → (place : ℕ) → List Llt → ℕ
new_among targets place [] = 0
new_among targets place (ty ∷ types) = next_behind (target_at targets place) (new_among targets (place + 1) types)

abbrev pub new_in : List (ℕ × ℕ) → (place : ℕ) → List OperationData → ℕ
new_in targets place [] = 0
new_in targets place (o ∷ os) = new_among targets place o.types + new_in targets (place_for place o.types) os

-- how many new registers a use makes
abbrev pub new_count : UseData → ℕ
new_count u = new_in (targets_of u) (length u.inputs) u.rewrite.made

-- ══ Formed instructions ══

-- an operation is formed whatever registers it is on
abbrev pub is_formed_operation : OperationData → Bool
is_formed_operation o = is_formed (instr_for Generic [] (map (λ ty. 0) o.types) o 0)

abbrev pub makes_formed : RewriteData → Bool
makes_formed rewrite = list_all is_formed_operation rewrite.made

-- ══ What is told ══

-- the root is erased, and what is made is created in its place
abbrev pub rewriting_told : (id : ℕ) → UseData → Pass → FunctionData → List Change
rewriting_told id u pass f = root_told id (made_of f id u) pass f
