-- Ids in one piece of memory or in chunks, and the list that they are.
use Rattle.std.specs.Prelude.{ℕ, zero, suc, ◌<◌, Bool, false, List, [], ◌∷◌, ◌++◌, Vec, length}
use Rattle.std.specs.declared.alloc.Global.{Global}
use Rattle.gi_mir.specs.declared.block.InstrId.{InstrId}
use Rattle.gi_mir.specs.declared.instr_list.Ids.{Ids}
use Rattle.gi_mir.specs.declared.instr_list.Ids.TheVariants.{Few, Many}
use Rattle.gi_mir.specs.declared.instr_list.InstrIds.{InstrIds}

-- the ids of chunks, one chunk after the other
abbrev pub chunk_ids : List (Vec InstrId Global) → List InstrId
chunk_ids [] = []
chunk_ids (chunk ∷ chunks) = chunk.items ++ chunk_ids chunks

abbrev pub all_ids : Ids → List InstrId
all_ids (Few ids) = ids.items
all_ids (Many chunks) = chunk_ids chunks.items

-- each chunk has an id
abbrev pub AreFilled : List (Vec InstrId Global) → Type 0
AreFilled [] = Unit {0}
AreFilled (chunk ∷ chunks) = (0 < length chunk.items) × AreFilled chunks

-- each chunk but one has an id
abbrev pub AreFilledBut : ℕ → List (Vec InstrId Global) → Type 0
AreFilledBut at [] = Unit {0}
AreFilledBut zero (chunk ∷ chunks) = AreFilled chunks
AreFilledBut (suc at) (chunk ∷ chunks) = (0 < length chunk.items) × AreFilledBut at chunks

abbrev pub IsCut : Ids → Type 0
IsCut (Few ids) = Unit {0}
IsCut (Many chunks) = AreFilled chunks.items

-- whether the last of some ids passes
abbrev pub last_precedes : (InstrId → Bool) → List InstrId → Bool
last_precedes before [] = false
last_precedes before (x ∷ []) = before x
last_precedes before (x ∷ y ∷ ys) = last_precedes before (y ∷ ys)

-- the ids of a chunk and of those behind it, unless it has none
abbrev pub unless_empty : List InstrId → List InstrId → List InstrId
unless_empty [] rest = []
unless_empty (x ∷ xs) rest = x ∷ xs ++ rest

-- the ids of chunks up to one that has none
abbrev pub filled_ids : List (Vec InstrId Global) → List InstrId
filled_ids [] = []
filled_ids (chunk ∷ chunks) = unless_empty chunk.items (filled_ids chunks)

-- the ids that an iterator over a list still gives
unfoldable pub ids_left : InstrIds → List InstrId
ids_left it = it.ids.now ++ filled_ids it.chunks.now
