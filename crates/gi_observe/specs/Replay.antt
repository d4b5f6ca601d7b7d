-- What the changes of a function say of it: told in order, on the function as it was, they give the function as it is.
use Rattle.std.specs.Prelude.{◌≡◌, ◌++◌, ℕ, List, ◌==◌, map, filter, fold, take, if◌then◌else◌, slice_set}
use Rattle.gi_mir.specs.Data.{InstrData, BlockData, FunctionData}
use Rattle.gi_mir.specs.Edit.{all_instrs, block_at, block_with_instr, uses, without_instr}
use Rattle.gi_mir.specs.Uses.{instr_replaced}
use Rattle.gi_observe.specs.declared.change.Change.{Change}
use Rattle.gi_observe.specs.declared.change.ChangeKind.{ChangeKind}
use Rattle.gi_observe.specs.declared.change.ChangeKind.TheVariants.{Created, Erased, Changed}
use Rattle.gi_observe.specs.declared.pass.Pass.{Pass}

-- an entry of a block, which is the new instruction if it has the id
abbrev pub entry_renewed : ℕ → InstrData → ℕ × InstrData → ℕ × InstrData
entry_renewed id new p = if p.0 == id then (p.0, new) else p

abbrev pub block_renewed : ℕ → InstrData → BlockData → BlockData
block_renewed id new b = record b { instrs = map (entry_renewed id new) b.instrs }

-- the function after one change: a created instruction stands before the named one or last, an erased one is out,
-- and a new one stands in the old one's place
abbrev pub replayed_one : FunctionData → ChangeKind → FunctionData
replayed_one f (Created id block before instr) =
    record f { blocks = slice_set f.blocks block (block_with_instr (block_at f block) before (id.0, instr)) }
replayed_one f (Erased id instr) = without_instr f id.0
replayed_one f (Changed id old new) = record f { blocks = map (block_renewed id.0 new) f.blocks }

-- the function after some changes, in their order
abbrev pub replayed : FunctionData → List Change → FunctionData
replayed f changes = fold (λ g change. replayed_one g change.kind) f changes

-- the changes tell all that was done to a function, but for its two next numbers
pub record IsReplay (changes : List Change) (old new : FunctionData) : Type 0 where
  pub same : new ≡ record (replayed old changes) { next_reg = new.next_reg; next_id = new.next_id }

-- a change of the function of a name, in a pass
abbrev pub change_of : ℕ → Pass → ChangeKind → Change
change_of name pass kind = record { function = name; pass = pass; kind = kind }

-- the change of an instruction in which one register is used in another's place
abbrev pub replacement : ℕ → Pass → ℕ → ℕ → ℕ × InstrData → Change
replacement name pass old new p =
    change_of name pass (Changed (record { 0 = p.0 }) p.1 (instr_replaced old new p.1))

-- those of all instructions that use the old register, in layout order
abbrev pub replacements : FunctionData → Pass → ℕ → ℕ → List Change
replacements f pass old new = map (replacement f.name pass old new) (filter (uses old) (all_instrs f.blocks))

-- a list has more at its end: a front part of these changes
pub record TellsPart (changes before after : List Change) : Type 0 where
  pub told : ℕ
  pub part : after ≡ before ++ take told changes
