-- Instructions that can go: they do nothing but define virtual registers, and no instruction uses these.
use Rattle.std.specs.Prelude.{◌≡◌, ℕ, Bool, true, false, not, ◌&&◌, List, [], ◌∷◌, ◌++◌, Some}
use Rattle.std.specs.List.{list_all, list_any}
use Rattle.std.specs.Option.{option_map_or}
use Rattle.gi_llt.specs.declared.Llt.TheVariants.{Pointer, Scalar}
use Rattle.gi_mir.specs.Data.{InstrData, FunctionData, no_flags, reg_of}
use Rattle.gi_mir.specs.Edit.{IsLive, all_instrs, instr_of, uses, without_instr}
use Rattle.gi_mir.specs.declared.opcode.Opcode.TheVariants as op
use Rattle.gi_mir.specs.declared.operand.Kind.TheVariants.{Generic}
use Rattle.gi_mir.specs.declared.operand.Operand.TheVariants.{Block, Def, Phys}
use Rattle.gi_meaning.specs.InRow.{results_in}
use Rattle.gi_meaning.specs.Meaning.{Meaning, Copying, Machine, Loading, MachineLoading, Joining, meaning_of}
use Rattle.gi_meaning.specs.Meaning as meaning
use Rattle.gi_valid.specs.Definitions.{is_erasable}
use Rattle.gi_valid.specs.Examples.{block_of, copy_in, def_of, function_of, jump_to, of_two, on, use_of}

-- results from arguments and from memory, and nothing else: no store, no branch, no call and no return
abbrev pub only_gives : Meaning → Bool
only_gives Copying = true
only_gives (meaning.Generic gives) = true
only_gives (Machine gives) = true
only_gives (Loading extension) = true
only_gives (MachineLoading exists bytes extension) = true
only_gives Joining = true
only_gives _ = false

-- it defines virtual registers alone, and does nothing else
abbrev pub can_go : InstrData → Bool
can_go i = is_erasable i && only_gives (meaning_of i.flags i.op)

-- no instruction uses a register that it defines, not even itself
abbrev pub is_unused : FunctionData → InstrData → Bool
is_unused f i = list_all (λ r. not (list_any (uses r) (all_instrs f.blocks))) (results_in i.operands)

-- the instruction with this id can go
abbrev pub is_dead : FunctionData → (id : ℕ) → Bool
is_dead f id = option_map_or (λ i. can_go i && is_unused f i) (instr_of f id) false

-- ══ One after another ══

-- each is dead in what those before it left
abbrev pub AreDead : FunctionData → (ids : List ℕ) → Type 0
AreDead f [] = Unit {0}
AreDead f (id ∷ ids) = IsLive f id × (is_dead f id ≡ true) × AreDead (without_instr f id) ids

abbrev pub without_all : FunctionData → (ids : List ℕ) → FunctionData
without_all f [] = f
without_all f (id ∷ ids) = without_all (without_instr f id) ids

-- ══ An example ══

-- a pointer of x10, and the word that it points to
abbrev pub loaded_word : List (ℕ × InstrData)
loaded_word =
    on 9 op.Copy (Def (reg_of 5) (Generic Pointer) ∷ Phys 10 ∷ [])
    ∷ (10, record { op = op.GenericLoad; flags = no_flags; operands = def_of 6 32 ∷ use_of 5 ∷ []; mem = Some (record { load = true; ty = Scalar 32; align = 4 }); line = 10 })
    ∷ []

-- what comes of it isn't used: copies of registers, a load, a phi, and the sum that the phi takes in the next round; but a phi that
-- takes its own value is
abbrev pub wastes : FunctionData
wastes = function_of
    (block_of (1 ∷ []) (10 ∷ 11 ∷ []) (copy_in 7 0 10 ∷ copy_in 8 1 11 ∷ loaded_word ++ jump_to 11 1 ∷ [])
    ∷ block_of (1 ∷ []) []
    (on 12 op.GenericPhi (def_of 2 32 ∷ use_of 0 ∷ Block 0 ∷ use_of 3 ∷ Block 1 ∷ [])
    ∷ on 13 op.GenericPhi (def_of 4 32 ∷ use_of 0 ∷ Block 0 ∷ use_of 4 ∷ Block 1 ∷ [])
    ∷ of_two 14 op.GenericAdd 3 0 0
    ∷ jump_to 15 1
    ∷ [])
    ∷ [])

-- without the first copy, the load and its pointer, the phi, and then the sum
abbrev pub wastes_less : FunctionData
wastes_less = function_of
    (block_of (1 ∷ []) (10 ∷ 11 ∷ []) (copy_in 7 0 10 ∷ jump_to 11 1 ∷ [])
    ∷ block_of (1 ∷ []) [] (on 13 op.GenericPhi (def_of 4 32 ∷ use_of 0 ∷ Block 0 ∷ use_of 4 ∷ Block 1 ∷ []) ∷ jump_to 15 1 ∷ [])
    ∷ [])
