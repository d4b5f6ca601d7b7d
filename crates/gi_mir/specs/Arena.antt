-- How the instructions of a function are held: in an arena by id, each with its neighbours.
use Rattle.std.specs.Prelude.{◌≡◌, ℕ, zero, suc, ◌+◌, ◌-◌, ◌^◌, ◌<◌, ◌≤◌, Bool, true, false, All, ◌==◌, List, [], ◌∷◌, Option, Some, None, map, length, option_map, slice_get}
use Rattle.std.specs.List.{list_any, position_or_len}
use Rattle.std.specs.Option.{option_map_or}
use Rattle.gi_mir.specs.Data.{InstrData, BlockData}
use Rattle.gi_mir.specs.Edit.{HeadData, all_instrs, changed_at, has_instr, head_of, is_use_of, place_of}
use Rattle.gi_mir.specs.Ids.{AreOwnIds}
use Rattle.gi_mir.specs.Mentions.{listed, mentioning, operands_of}
use Rattle.gi_mir.specs.Places.{body_at, id_in, nth_id, place}
use Rattle.gi_mir.specs.declared.block.Body.{Body}
use Rattle.gi_mir.specs.declared.block.InstrId.{InstrId}
use Rattle.gi_mir.specs.declared.block.Slot.{Slot}
use Rattle.gi_mir.specs.declared.layout.Layout.{Layout}
use Rattle.gi_mir.specs.declared.operand.Operand.{Operand}
use Rattle.gi_mir.specs.declared.place.Place.{Place}
use Rattle.gi_mir.specs.declared.room.Gap.{Gap}

-- the block with this head and no instruction
abbrev pub body_with : HeadData → Body
body_with h = record { head = h; first = None; last = None; count = 0 }

-- a block's end, where a neighbour that is missing makes room for a new one
abbrev pub end_with : Option InstrId → Option InstrId → Option InstrId → Option InstrId
end_with None new old = new
end_with (Some id) new old = old

-- the block with one more instruction between two, and with one less
abbrev pub body_gained : Option InstrId → Option InstrId → InstrId → Body → Body
body_gained previous next id b = record b { first = end_with previous (Some id) b.first; last = end_with next (Some id) b.last; count = b.count + 1 }

abbrev pub body_lost : Option InstrId → Option InstrId → Body → Body
body_lost previous next b = record b { first = end_with previous next b.first; last = end_with next previous b.last; count = b.count - 1 }

-- the arena with another neighbour of the instruction that is named
abbrev pub next_set : Option InstrId → Option InstrId → List Slot → List Slot
next_set None next slots = slots
next_set (Some id) next slots = changed_at (λ s. record s { next = next }) id.0 slots

abbrev pub previous_set : Option InstrId → Option InstrId → List Slot → List Slot
previous_set None previous slots = slots
previous_set (Some id) previous slots = changed_at (λ s. record s { previous = previous }) id.0 slots

-- the operands of the instruction with an id
abbrev pub operands_in : List Slot → ℕ → List Operand
operands_in slots id = option_map_or (λ s. operands_of s.entry) (slice_get slots id) []

-- the same place of the arena with its instruction changed
abbrev pub slot_changed : (InstrData → InstrData) → Slot → Slot
slot_changed edit s = record s { entry = option_map (λ p. (p.0, edit p.1)) s.entry }

-- what is met from one id on, at most so many instructions
abbrev pub chain : List Slot → ℕ → Option InstrId → List (ℕ × InstrData)
chain slots zero at = []
chain slots (suc n) None = []
chain slots (suc n) (Some id) =
    option_map_or (λ s. option_map_or (λ e. e ∷ chain slots n s.next) s.entry []) (slice_get slots id.0) []

-- the blocks that the arena spells
abbrev pub spelled : List Slot → Body → BlockData
spelled slots b = record { successors = b.head.successors; liveins = b.head.liveins; instrs = chain slots b.count b.first }

abbrev pub blocks_in : List Body → List Slot → List BlockData
blocks_in bodies slots = map (spelled slots) bodies

-- the instruction at a place of a list, and before it, by id
abbrev pub id_named : ℕ → InstrId
id_named n = record { 0 = n }

abbrev pub nth_instr_id : List (ℕ × InstrData) → ℕ → Option InstrId
nth_instr_id instrs k = option_map id_named (nth_id instrs k)

abbrev pub id_ahead : List (ℕ × InstrData) → ℕ → Option InstrId
id_ahead instrs zero = None
id_ahead instrs (suc k) = nth_instr_id instrs k

-- the place of the arena that belongs to an instruction of a list
abbrev pub slot_at : List (ℕ × InstrData) → ℕ → Slot
slot_at instrs k = record { entry = slice_get instrs k; previous = id_ahead instrs k; next = nth_instr_id instrs (k + 1) }

-- a block's ends
abbrev pub body_of : BlockData → Body
body_of b = record {
  head = head_of b;
  first = nth_instr_id b.instrs 0;
  last = id_ahead b.instrs (length b.instrs);
  count = length b.instrs;
}

-- each instruction has its neighbours, each block its ends, and an id whose instruction was taken out has none
pub record IsLinked (bodies : List Body) (slots : List Slot) (blocks : List BlockData) : Type 0 where
  pub ends : bodies ≡ map body_of blocks
  pub linked : (id b k : ℕ) → id_in blocks b k ≡ Some id → slice_get slots id ≡ Some (slot_at (body_at blocks b).instrs k)
  pub empty : (id : ℕ) (s : Slot) → slice_get slots id ≡ Some s → list_any (has_instr id) blocks ≡ false → s.entry ≡ None

-- an instruction's place names its block, and the second numbers of places, the labels, are in range and rise along a block
pub record HasOrder (places : List Place) (blocks : List BlockData) : Type 0 where
  pub home : (id b k : ℕ) → id_in blocks b k ≡ Some id → option_map (λ p. p.block) (slice_get places id) ≡ Some b
  pub inside : (id b k : ℕ) (p : Place) → id_in blocks b k ≡ Some id → slice_get places id ≡ Some p → (0 < p.at) × (p.at < 2 ^ 62)
  pub rising : (b j k x y : ℕ) (p q : Place) → id_in blocks b j ≡ Some x → id_in blocks b k ≡ Some y → slice_get places x ≡ Some p → slice_get places y ≡ Some q → j < k → p.at < q.at

-- the blocks that a layout spells
abbrev pub blocks_of : Layout → List BlockData
blocks_of l = blocks_in l.bodies.items l.slots.items

-- whether a block has the instruction with this id, and its place in layout
abbrev pub is_in : List BlockData → ℕ → Bool
is_in blocks id = list_any (has_instr id) blocks

abbrev pub spot_of : List BlockData → ℕ → Place
spot_of blocks id =
    let home = position_or_len (has_instr id) blocks in
    place home (place_of id (body_at blocks home).instrs)

-- the arena spells blocks in which each id stands once, with labels that rise, and whose mentions are listed
pub record IsStored (l : Layout) : Type 0 where
  pub given : length l.places.items ≡ length l.slots.items
  pub own : AreOwnIds (blocks_of l) (length l.slots.items)
  pub linked : IsLinked l.bodies.items l.slots.items (blocks_of l)
  pub order : HasOrder l.places.items (blocks_of l)
  pub has_mentions : (key : ℕ) → listed l.mentions key ≡ mentioning key (all_instrs (blocks_of l))

-- the gap before a place
abbrev pub gap_at : List BlockData → Place → Gap
gap_at blocks spot = record {
  block = spot.block;
  previous = id_ahead (body_at blocks spot.block).instrs spot.at;
  next = nth_instr_id (body_at blocks spot.block).instrs spot.at;
}

-- the place of the arena for an instruction in a gap
abbrev pub slot_between : Gap → ℕ × InstrData → Slot
slot_between gap new = record { entry = Some new; previous = gap.previous; next = gap.next }

-- a gap of a block, between the instructions before and at a place
pub record HasGap (blocks : List BlockData) (gap : Gap) : Type 0 where
  pub within : gap.block < length blocks
  pub at : ℕ
  pub bound : at ≤ length (body_at blocks gap.block).instrs
  pub before : gap.previous ≡ id_ahead (body_at blocks gap.block).instrs at
  pub behind : gap.next ≡ nth_instr_id (body_at blocks gap.block).instrs at

-- a label between those of the instructions around a gap
pub record FitsGap (places : List Place) (gap : Gap) (label : ℕ) : Type 0 where
  pub above : (id : InstrId) (p : Place) → gap.previous ≡ Some id → slice_get places id.0 ≡ Some p → p.at < label
  pub below : (id : InstrId) (p : Place) → gap.next ≡ Some id → slice_get places id.0 ≡ Some p → label < p.at
  pub positive : 0 < label
  pub small : label < 2 ^ 62

-- the ids of all instructions that use a register
pub record AreUsers (slots : List Slot) (reg : ℕ) (users : List InstrId) : Type 0 where
  pub given : All (λ id. id.0 < length slots) users
  pub named : (id : ℕ) (s : Slot) → slice_get slots id ≡ Some s → list_any (is_use_of reg) (operands_of s.entry) ≡ true → list_any (λ user. user.0 == id) users ≡ true
