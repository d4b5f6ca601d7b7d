-- What the edits of a function make of it.
use Rattle.std.specs.Prelude.{◌≡◌, ◌⊎◌, ℕ, ◌+◌, ◌-◌, ◌<◌, max, Bool, true, false, List, [], ◌∷◌, ◌++◌, Option, Some, None, ◌==◌, map, flat_map, fold, length, insert, remove, option_map, if◌then◌else◌, slice_get, find, filter, IfSome, slice_index_or, slice_set}
use Rattle.std.specs.List.{list_any, position_or_len}
use Rattle.std.specs.Option.{option_map_or}
use Rattle.gi_mir.specs.Data.{InstrData, BlockData, FunctionData}
use Rattle.gi_mir.specs.declared.block.InstrId.{InstrId}
use Rattle.gi_mir.specs.Formed.{is_def, is_formed}
use Rattle.gi_mir.specs.declared.operand.Kind.{Kind}
use Rattle.gi_mir.specs.declared.operand.Operand.{Operand}
use Rattle.gi_mir.specs.declared.operand.Operand.TheVariants.{Def, Use}
use Rattle.gi_mir.specs.declared.operand.StackObject.{StackObject}

-- a block without its instructions
pub record HeadData : Type 0 where
  pub successors : List ℕ
  pub liveins : List ℕ

abbrev pub head_of : BlockData → HeadData
head_of b = record { successors = b.successors; liveins = b.liveins }

-- the block with this head and no instruction
abbrev pub block_with : HeadData → BlockData
block_with h = record { successors = h.successors; liveins = h.liveins; instrs = [] }

abbrev pub empty_block : BlockData
empty_block = record { successors = []; liveins = []; instrs = [] }

-- the block at this place in layout
abbrev pub block_at : FunctionData → ℕ → BlockData
block_at f block = slice_index_or f.blocks block empty_block

-- the function with this name and nothing in it
abbrev pub empty_function : ℕ → FunctionData
empty_function name =
    record { name = name; legalized = false; banked = false; selected = false; stack = []; blocks = []; next_reg = 0; next_id = 0 }

abbrev pub with_block : FunctionData → HeadData → FunctionData
with_block f head = record f { blocks = f.blocks ++ block_with head ∷ [] }

abbrev pub with_stack : FunctionData → StackObject → FunctionData
with_stack f object = record f { stack = f.stack ++ object ∷ [] }

abbrev pub with_keys : FunctionData → Bool → Bool → Bool → FunctionData
with_keys f legalized banked selected = record f { legalized = legalized; banked = banked; selected = selected }

-- one more than the number of the virtual register in an operand, and 0 where there is none
abbrev pub register_above : Operand → ℕ
register_above (Def r k) = r.0 + 1
register_above (Use r) = r.0 + 1
register_above _ = 0

-- the greatest of a number and of one more than each virtual register's number
abbrev pub above_registers : ℕ → List Operand → ℕ
above_registers n operands = fold (λ m x. max m (register_above x)) n operands

-- the place of the first instruction with this id, and the end where there is none
abbrev pub place_of : ℕ → List (ℕ × InstrData) → ℕ
place_of id instrs = position_or_len (λ p. p.0 == id) instrs

-- where an instruction goes: before the one with this id, or last
abbrev pub spot_in : List (ℕ × InstrData) → Option InstrId → ℕ
spot_in instrs None = length instrs
spot_in instrs (Some id) = place_of id.0 instrs

-- one more instruction, before the one with this id or last
abbrev pub instrs_with : List (ℕ × InstrData) → Option InstrId → ℕ × InstrData → List (ℕ × InstrData)
instrs_with instrs None new = instrs ++ new ∷ []
instrs_with instrs (Some id) new = insert instrs (place_of id.0 instrs) new

abbrev pub block_with_instr : BlockData → Option InstrId → ℕ × InstrData → BlockData
block_with_instr b before new = record b { instrs = instrs_with b.instrs before new }

-- the function with one more instruction, which has the next id
abbrev pub with_instr : FunctionData → ℕ → Option InstrId → InstrData → FunctionData
with_instr f block before instr =
    record f {
      blocks = slice_set f.blocks block (block_with_instr (block_at f block) before (f.next_id, instr));
      next_reg = above_registers f.next_reg instr.operands;
      next_id = f.next_id + 1;
    }

-- whether a block has the instruction with this id
abbrev pub has_instr : ℕ → BlockData → Bool
has_instr id b = list_any (λ p. p.0 == id) b.instrs

-- whether the instruction at this place of a block has this id
abbrev pub has_at : BlockData → ℕ → ℕ → Bool
has_at b id at = option_map_or (λ p. p.0 == id) (slice_get b.instrs at) false

-- the place of the first block that has this instruction
abbrev pub home_of : FunctionData → ℕ → ℕ
home_of f id = position_or_len (has_instr id) f.blocks

-- an id is live while its instruction is in the function
abbrev pub IsLive : FunctionData → ℕ → Type 0
IsLive f id = list_any (has_instr id) f.blocks ≡ true

-- the block that has this instruction
abbrev pub home_block : FunctionData → ℕ → BlockData
home_block f id = block_at f (home_of f id)

-- the place of this instruction in its block
abbrev pub place_in_block : FunctionData → ℕ → ℕ
place_in_block f id = place_of id (home_block f id).instrs

-- an instruction comes before another if its block does, or in the same block itself
abbrev pub StandsBefore : FunctionData → ℕ → ℕ → Type 0
StandsBefore f a b =
    (home_of f a < home_of f b) ⊎ ((home_of f a ≡ home_of f b) × (place_in_block f a < place_in_block f b))

-- the instruction at this place of a block, with its id
abbrev pub entry_at : BlockData → ℕ → Option (ℕ × InstrData)
entry_at b place = slice_get b.instrs place

abbrev pub id_at : BlockData → ℕ → Option ℕ
id_at b place = option_map (λ p. p.0) (entry_at b place)

-- the instruction with this id
abbrev pub instr_of : FunctionData → ℕ → Option InstrData
instr_of f id = option_map (λ p. p.1) (entry_at (home_block f id) (place_in_block f id))

-- the neighbours in the same block
abbrev pub id_after : FunctionData → ℕ → Option ℕ
id_after f id = id_at (home_block f id) (place_in_block f id + 1)

abbrev pub id_before : FunctionData → ℕ → Option ℕ
id_before f id = if place_in_block f id == 0 then None else id_at (home_block f id) (place_in_block f id - 1)

-- the function without this instruction
abbrev pub without_instr : FunctionData → ℕ → FunctionData
without_instr f id =
    let b = home_block f id in
    record f { blocks = slice_set f.blocks (home_of f id) (record b { instrs = remove b.instrs (place_in_block f id) }) }

-- the list with the element at this place changed
abbrev pub changed_at : {X : Type 0} → (X → X) → ℕ → List X → List X
changed_at edit place xs = option_map_or (λ x. slice_set xs place (edit x)) (slice_get xs place) xs

-- the instruction with another operand at this place
abbrev pub with_operand : InstrData → ℕ → Operand → InstrData
with_operand i place new = record i { operands = slice_set i.operands place new }

-- the operand, if it is a definition, with another kind
abbrev pub of_kind : Kind → Operand → Operand
of_kind kind (Def r old) = Def r kind
of_kind kind x = x

-- the instruction with another kind for the definition at this place
abbrev pub with_kind : InstrData → ℕ → Kind → InstrData
with_kind i place kind = record i { operands = changed_at (of_kind kind) place i.operands }

-- the block, and the function, with the instruction of this id changed
abbrev pub block_changed_at : (InstrData → InstrData) → ℕ → BlockData → BlockData
block_changed_at edit at b = record b { instrs = changed_at (λ p. (p.0, edit p.1)) at b.instrs }

abbrev pub block_changed : (InstrData → InstrData) → ℕ → BlockData → BlockData
block_changed edit id b = block_changed_at edit (place_of id b.instrs) b

abbrev pub with_changed : (InstrData → InstrData) → FunctionData → ℕ → FunctionData
with_changed edit f id = record f { blocks = slice_set f.blocks (home_of f id) (block_changed edit id (home_block f id)) }

-- the function with another operand, whose register counts as one that it has had
abbrev pub with_operand_of : FunctionData → ℕ → ℕ → Operand → FunctionData
with_operand_of f id place new =
    record (with_changed (λ i. with_operand i place new) f id) { next_reg = max f.next_reg (register_above new) }

-- whether this instruction has an operand there that may be replaced by the new one
abbrev pub CanSetOperand : FunctionData → ℕ → ℕ → Operand → Type 0
CanSetOperand f id place new =
    IfSome (instr_of f id) (λ i. (place < length i.operands) × (is_formed (with_operand i place new) ≡ true))

-- whether an instruction has a definition there
abbrev pub HasDefAt : Option InstrData → ℕ → Type 0
HasDefAt found place =
    IfSome found (λ i. (place < length i.operands) × IfSome (slice_get i.operands place) (λ x. is_def x ≡ true))

abbrev pub IsDefAt : FunctionData → ℕ → ℕ → Type 0
IsDefAt f id place = HasDefAt (instr_of f id) place

-- whether an instruction defines a register
abbrev pub is_def_of : ℕ → Operand → Bool
is_def_of reg (Def r kind) = r.0 == reg
is_def_of reg x = false

abbrev pub defines : ℕ → ℕ × InstrData → Bool
defines reg p = list_any (is_def_of reg) p.1.operands

-- all instructions, in layout order
abbrev pub all_instrs : List BlockData → List (ℕ × InstrData)
all_instrs blocks = flat_map (λ b. b.instrs) blocks

-- the first instruction in layout order that defines this register
abbrev pub definition_in : ℕ → List BlockData → Option ℕ
definition_in reg blocks = option_map (λ p. p.0) (find (defines reg) (all_instrs blocks))

abbrev pub definition_of : FunctionData → ℕ → Option ℕ
definition_of f reg = definition_in reg f.blocks

-- whether an instruction uses a register
abbrev pub is_use_of : ℕ → Operand → Bool
is_use_of reg (Use r) = r.0 == reg
is_use_of reg x = false

abbrev pub uses : ℕ → ℕ × InstrData → Bool
uses reg p = list_any (is_use_of reg) p.1.operands

-- the instructions that use a register, each once, in layout order
abbrev pub users_of : FunctionData → ℕ → List ℕ
users_of f reg = map (λ p. p.0) (filter (uses reg) (all_instrs f.blocks))

abbrev pub with_new_reg : FunctionData → FunctionData
with_new_reg f = record f { next_reg = f.next_reg + 1 }

-- the ids of a block's instructions
abbrev pub ids_of : BlockData → List ℕ
ids_of b = map (λ p. p.0) b.instrs
