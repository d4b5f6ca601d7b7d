-- Instructions in the place of another, which is called the root: the root is erased, and they are created where it stood.
use Rattle.std.specs.Prelude.{ℕ, List, [], ◌∷◌, ◌++◌, Option, option_map}
use Rattle.std.specs.Option.{option_map_or}
use Rattle.gi_mir.specs.Data.{InstrData, FunctionData}
use Rattle.gi_mir.specs.Edit.{home_of, id_after, instr_of, with_instr, without_instr}
use Rattle.gi_mir.specs.declared.block.InstrId.{InstrId}
use Rattle.gi_observe.specs.Replay.{change_of}
use Rattle.gi_observe.specs.declared.change.Change.{Change}
use Rattle.gi_observe.specs.declared.change.ChangeKind.TheVariants.{Created, Erased}
use Rattle.gi_observe.specs.declared.pass.Pass.{Pass}

abbrev pub id_of : ℕ → InstrId
id_of id = record { 0 = id }

abbrev pub erasure_told : (id : ℕ) → Pass → FunctionData → List Change
erasure_told id pass f = option_map_or (λ i. change_of f.name pass (Erased (id_of id) i) ∷ []) (instr_of f id) []

-- instructions in a block, in order, each before the named one or last
abbrev pub all_created : (block : ℕ) → Option InstrId → List InstrData → FunctionData → FunctionData
all_created block before [] f = f
all_created block before (i ∷ is) f = all_created block before is (with_instr f block before i)

abbrev pub creations_told : (block : ℕ) → Option InstrId → List InstrData → Pass → FunctionData → List Change
creations_told block before [] pass f = []
creations_told block before (i ∷ is) pass f =
    change_of f.name pass (Created (id_of f.next_id) block before i) ∷ creations_told block before is pass (with_instr f block before i)

-- the instruction behind another in its block
abbrev pub next_to : FunctionData → ℕ → Option InstrId
next_to f id = option_map id_of (id_after f id)

abbrev pub line_of : FunctionData → ℕ → ℕ
line_of f id = option_map_or (λ i. i.line) (instr_of f id) 0

-- the function in which instructions stand in the place of another, and what is told of that
abbrev pub root_replaced : (id : ℕ) → List InstrData → FunctionData → FunctionData
root_replaced id made f = all_created (home_of f id) (next_to f id) made (without_instr f id)

abbrev pub root_told : (id : ℕ) → List InstrData → Pass → FunctionData → List Change
root_told id made pass f =
    erasure_told id pass f ++ creations_told (home_of f id) (next_to f id) made pass (without_instr f id)
