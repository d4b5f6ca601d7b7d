-- Which instructions mention a register, and how the lists of them change.
use Rattle.std.specs.Prelude.{◌≡◌, ◌≢◌, ℕ, ◌+◌, ◌*◌, ◌/◌, ◌%◌, Bool, true, false, not, List, [], ◌∷◌, Option, Some, None, ◌==◌, map, filter, slice_get, if◌then◌else◌}
use Rattle.std.specs.List.{list_any}
use Rattle.std.specs.List.Sorted.{IsPartitionedBy, IsPartitionPoint}
use Rattle.std.specs.Option.{option_map_or}
use Rattle.std.specs.BTreeMap.{get}
use Rattle.std.specs.Ordering.{nat_cmp}
use Rattle.gi_mir.specs.Data.{InstrData}
use Rattle.gi_mir.specs.declared.block.InstrId.{InstrId}
use Rattle.gi_mir.specs.declared.mentions.Mentions.{Mentions}
use Rattle.gi_mir.specs.declared.operand.Operand.{Operand}
use Rattle.gi_mir.specs.declared.operand.Operand.TheVariants.{Def, Use}
use Rattle.gi_mir.specs.declared.place.Place.{Place}
use Rattle.gi_mir.specs.Pages.{listed_at}
use Rattle.gi_mir.specs.Places.{comes_before}

-- the keys of a register's definitions and of its uses
abbrev pub definition_key : ℕ → ℕ
definition_key reg = 2 * reg

abbrev pub use_key : ℕ → ℕ
use_key reg = 2 * reg + 1

-- the key under which an operand's instruction is listed
abbrev pub mention_of : Operand → Option ℕ
mention_of (Def r k) = Some (definition_key r.0)
mention_of (Use r) = Some (use_key r.0)
mention_of _ = None

abbrev pub is_mention : ℕ → Operand → Bool
is_mention key x = option_map_or (λ k. k == key) (mention_of x) false

abbrev pub mentions : ℕ → ℕ × InstrData → Bool
mentions key p = list_any (is_mention key) p.1.operands

-- whether one of these operands mentions what another one does
abbrev pub is_mentioned : Operand → List Operand → Bool
is_mentioned x operands = option_map_or (λ key. list_any (is_mention key) operands) (mention_of x) false

-- the operands of an instruction, if there is one
abbrev pub operands_of : Option (ℕ × InstrData) → List Operand
operands_of found = option_map_or (λ p. p.1.operands) found []

-- the id of an instruction
abbrev pub instr_id : ℕ × InstrData → InstrId
instr_id p = record { 0 = p.0 }

-- those of these instructions that mention a key
abbrev pub mentioning : ℕ → List (ℕ × InstrData) → List InstrId
mentioning key instrs = map instr_id (filter (mentions key) instrs)

-- whether the place that is written down for an id comes before another
abbrev pub precedes : List Place → Place → InstrId → Bool
precedes places spot id = option_map_or (λ p. comes_before p spot) (slice_get places id.0) false

-- whether a list has an id at an index
abbrev pub has_at : List InstrId → ℕ → InstrId → Bool
has_at ids at id = option_map_or (λ x. x.0 == id.0) (slice_get ids at) false

-- the list with an id behind those that precede it, unless it is there
abbrev pub noted : (InstrId → Bool) → InstrId → List InstrId → List InstrId
noted before id [] = id ∷ []
noted before id (x ∷ xs) =
    if before x then x ∷ noted before id xs else (if x.0 == id.0 then x ∷ xs else id ∷ x ∷ xs)

-- the list without an id
abbrev pub without : InstrId → List InstrId → List InstrId
without id ids = filter (λ x. not (x.0 == id.0)) ids

-- whether the place that is written down for an id comes before that of another
abbrev pub stands_before : List Place → InstrId → InstrId → Bool
stands_before places id other = option_map_or (λ spot. precedes places spot id) (slice_get places other.0) false

-- an id behind those of a list that come before it, and what becomes of the others
abbrev pub one_merged : (InstrId → InstrId → Bool) → InstrId → (List InstrId → List InstrId) → List InstrId → List InstrId
one_merged before x rest [] = x ∷ rest []
one_merged before x rest (y ∷ ys) =
    if before y x then y ∷ one_merged before x rest ys else (if y.0 == x.0 then x ∷ rest ys else x ∷ rest (y ∷ ys))

-- the ids of two lists in one order, each once
abbrev pub merged : (InstrId → InstrId → Bool) → List InstrId → List InstrId → List InstrId
merged before [] ys = ys
merged before (x ∷ xs) ys = one_merged before x (merged before xs) ys

-- a list has the ids before some place first, and wherever it has a given one, that stands right behind these
pub record IsInRank (before : InstrId → Bool) (id : InstrId) (ids : List InstrId) : Type 0 where
  pub sorted : IsPartitionedBy before ids
  pub ranked : (at : ℕ) → has_at ids at id ≡ true → IsPartitionPoint (λ x. before x ≡ true) (λ x. before x ≡ false) ids at

-- the ids that are listed under a key
abbrev pub listed : Mentions → ℕ → List InstrId
listed m key = option_map_or (λ page. listed_at page (key % 128)) (get nat_cmp m.pages (key / 128)) []

-- the lists before and after a change
pub record HasSameLists (old new : Mentions) : Type 0 where
  pub same : (key : ℕ) → listed new key ≡ listed old key

pub record IsListed (old new : Mentions) (key : ℕ) (ids : List InstrId) : Type 0 where
  pub here : listed new key ≡ ids
  pub others : (other : ℕ) → other ≢ key → listed new other ≡ listed old other

-- each list has the ids that precede a place first
pub record IsSorted (places : List Place) (spot : Place) (m : Mentions) : Type 0 where
  pub sorted : (key : ℕ) → IsPartitionedBy (precedes places spot) (listed m key)

-- and an id right behind these, where it has it
pub record AreInRank (places : List Place) (spot : Place) (id : InstrId) (m : Mentions) : Type 0 where
  pub ranks : (key : ℕ) → IsInRank (precedes places spot) id (listed m key)

-- no list has an id
pub record Lacks (m : Mentions) (id : InstrId) : Type 0 where
  pub absent : (key : ℕ) → list_any (λ x. x.0 == id.0) (listed m key) ≡ false

-- an id is listed under each key that operands mention, or under none of them
pub record IsNoted (old new : Mentions) (before : InstrId → Bool) (operands : List Operand) (id : InstrId) : Type 0 where
  pub here : (key : ℕ) → list_any (is_mention key) operands ≡ true → listed new key ≡ noted before id (listed old key)
  pub others : (key : ℕ) → list_any (is_mention key) operands ≡ false → listed new key ≡ listed old key

pub record IsForgotten (old new : Mentions) (operands : List Operand) (id : InstrId) : Type 0 where
  pub here : (key : ℕ) → list_any (is_mention key) operands ≡ true → listed new key ≡ without id (listed old key)
  pub others : (key : ℕ) → list_any (is_mention key) operands ≡ false → listed new key ≡ listed old key

-- the users of one register become users of another
pub record AreUsersMoved (old new : Mentions) (places : List Place) (from to : ℕ) : Type 0 where
  pub gone : listed new (use_key from) ≡ []
  pub joined : listed new (use_key to) ≡ merged (stands_before places) (listed old (use_key from)) (listed old (use_key to))
  pub others : (key : ℕ) → key ≢ use_key from → key ≢ use_key to → listed new key ≡ listed old key
