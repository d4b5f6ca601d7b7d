-- Rounds of 64 registers: words say of each of them what an instruction, a block or another register has to do with it.
use Rattle.std.specs.Prelude.{◌≡◌, ℕ, ◌<◌, ◌+◌, Bool, true, false, not, ◌&&◌, ◌||◌, ◌==◌, List, Option, Some, get_or, slice_get, take, drop, length, nat_lt}
use Rattle.std.specs.List.{list_all, list_any}
use Rattle.std.specs.Option.{option_map_or}
use Rattle.std.specs.Int.{bit_at}
use Rattle.gi_mir.specs.Data.{InstrData, FunctionData}
use Rattle.gi_mir.specs.Edit.{defines, uses}
use Rattle.gi_mir.specs.Places.{body_at}
use Rattle.gi_mir.specs.declared.operand.Operand.{Operand}
use Rattle.gi_mir.specs.declared.operand.Operand.TheVariants as operand
use Rattle.gi_meaning.specs.Runs.{entry_of, is_among, is_phi}
use Rattle.gi_valid.specs.Available.{Extent, IsExtent, behind, is_origin, defines_origin, successors_of}
use Rattle.gi_valid.specs.Definitions.{is_pure}
use Rattle.gi_verify.specs.declared.seen.Seen.{Seen}
use Rattle.gi_verify.specs.declared.change.Change.{Change}
use Rattle.gi_verify.specs.declared.rounds.Block.{Block}
use Rattle.gi_verify.specs.Sets.{marked, place_of, IsAnswer, IsMarkedIn}

-- ══ Words ══

-- whether a place is in a word
abbrev pub has : (word n : ℕ) → Bool
has word n = bit_at word n == 1

-- of the places below 64 those are in a word that pass a test
pub record IsWordOf (test : ℕ → Bool) (word : ℕ) : Type 0 where
  pub by : (n : ℕ) → n < 64 → has word n ≡ test n

-- ══ Registers of a round ══

-- registers in an order, the first of the 64 that a round is about, and of each register those that are computed from it
pub record RoundData : Type 0 where
  pub keys : List ℕ
  pub first : ℕ
  pub origins : List ℕ

-- a register stands at a place of the round
abbrev pub is_named : RoundData → (n x : ℕ) → Bool
is_named round n x = option_map_or (λ i. i == round.first + n) (place_of round.keys x) false

-- the register at a place of the round is taken away with this one
abbrev pub is_taken : RoundData → (n x : ℕ) → Bool
is_taken round n x = option_map_or (λ i. has (get_or round.origins i 0) n) (place_of round.keys x) false

abbrev pub is_user : (test : ℕ → Bool) → Operand → Bool
is_user test (operand.Use r) = test r.0
is_user test _ = false

-- ══ Instructions ══

-- what operands define, what these definitions take away, what they use, and what isn't computed from all that they use
pub record IsSeen (round : RoundData) (operands : List Operand) (seen : Seen) : Type 0 where
  pub made : IsWordOf (λ n. list_any (is_origin (is_named round n)) operands) seen.made
  pub taken : IsWordOf (λ n. list_any (is_origin (is_taken round n)) operands) seen.taken
  pub used : IsWordOf (λ n. list_any (is_user (is_named round n)) operands) seen.used
  pub strange : IsWordOf (λ n. list_any (is_user (λ x. not (is_taken round n x))) operands) seen.strange

-- one operand more
pub record IsSeenOn (round : RoundData) (old : Seen) (o : Operand) (new : Seen) : Type 0 where
  pub made : IsWordOf (λ n. has old.made n || is_origin (is_named round n) o) new.made
  pub taken : IsWordOf (λ n. has old.taken n || is_origin (is_taken round n) o) new.taken
  pub used : IsWordOf (λ n. has old.used n || is_user (is_named round n) o) new.used
  pub strange : IsWordOf (λ n. has old.strange n || is_user (λ x. not (is_taken round n x)) o) new.strange

-- ══ The front of a block ══

-- What the front of a block makes of the registers of a round. While it is phis alone, all of it is meant at once.
pub record IsChange (round : RoundData) (front : List (ℕ × InstrData)) (change : Change) : Type 0 where
  pub phis : change.phis ≡ list_all (λ p. is_phi p.1) front
  pub made : change.phis ≡ true → IsWordOf (λ n. list_any (defines_origin (is_named round n)) front) change.made
  pub kept : change.phis ≡ true → IsWordOf (λ n. not (list_any (defines_origin (is_taken round n)) front)) change.kept
  pub by : (n r : ℕ) → n < 64 → is_named round n r ≡ true → (here : Bool) → (has change.made n || (here && has change.kept n)) ≡ true → behind r (is_taken round n) here front ≡ true

-- ══ A function ══

-- what a pure instruction uses is among what its registers are computed from
pub record IsComputedAt (round : RoundData) (p : ℕ × InstrData) : Type 0 where
  pub by : is_pure p.1 ≡ true → (n z x : ℕ) → n < 64 → defines z p ≡ true → uses x p ≡ true → (is_named round n z || is_taken round n z) ≡ true → is_taken round n x ≡ true

-- the front of a block, and whether it is so of its instructions
pub record IsPassedOver (round : RoundData) (front : List (ℕ × InstrData)) (block : Block) : Type 0 where
  pub change : IsChange round front block.change
  pub computed : block.is_computed ≡ true → (k : ℕ) (p : ℕ × InstrData) → slice_get front k ≡ Some p → IsComputedAt round p

-- all blocks
pub record AreChanges (f : FunctionData) (round : RoundData) (changes : List Change) : Type 0 where
  pub count : length changes ≡ length f.blocks
  pub by : (b : ℕ) (change : Change) → slice_get changes b ≡ Some change → IsChange round (body_at f.blocks b).instrs change
  pub computed : (b k : ℕ) (p : ℕ × InstrData) → slice_get (body_at f.blocks b).instrs k ≡ Some p → IsComputedAt round p

-- what is available at the start of these blocks is in a word
pub record AreWithin (starts : List ℕ) (blocks : List ℕ) (end : ℕ) : Type 0 where
  pub by : (b n : ℕ) → is_among b blocks ≡ true → n < 64 → has (get_or starts b 0) n ≡ true → has end n ≡ true

-- what is available at the start of the successors of a reached block is available at its end
pub record IsJoinedAt (f : FunctionData) (reached : List Bool) (changes : List Change) (starts : List ℕ) (a : ℕ) : Type 0 where
  pub by : marked reached a ≡ true → (change : Change) → slice_get changes a ≡ Some change → (b n : ℕ) → is_among b (successors_of f a) ≡ true → n < 64 → has (get_or starts b 0) n ≡ true
      → (has change.made n || (has (get_or starts a 0) n && has change.kept n)) ≡ true

-- these are defined in reached blocks
pub record AreMadeInReach (f : FunctionData) (round : RoundData) (reached : List Bool) (made : ℕ) : Type 0 where
  pub by : (n r : ℕ) → n < 64 → is_named round n r ≡ true → has made n ≡ true → IsMarkedIn f r reached

-- at the start of a block that isn't reached these alone are available
pub record IsApartAt (reached : List Bool) (starts : List ℕ) (made : ℕ) (b : ℕ) : Type 0 where
  pub by : marked reached b ≡ false → (n : ℕ) → n < 64 → has (get_or starts b 0) n ≡ true → has made n ≡ true

-- the sets of the register at a place of the round
abbrev pub extent_of : RoundData → (starts : List ℕ) → ℕ → Extent
extent_of round starts n = record { origins = is_taken round n; starts = λ b. has (get_or starts b 0) n }

pub record IsClosed (f : FunctionData) (round : RoundData) (starts : List ℕ) : Type 0 where
  pub by : (n r : ℕ) → n < 64 → is_named round n r ≡ true → IsExtent f r (extent_of round starts n)

-- ══ Uses ══

-- where an entry's register is one of the round's, it is available at the end of the entry's block
pub record IsSureEntry (f : FunctionData) (round : RoundData) (entry : Option (ℕ × ℕ)) : Type 0 where
  pub by : (n x a : ℕ) → n < 64 → is_named round n x ≡ true → entry ≡ Some (x, a) → a < length f.blocks → IsAnswer f x a (body_at f.blocks a).instrs true

pub record AreSureEntries (f : FunctionData) (round : RoundData) (operands : List Operand) : Type 0 where
  pub by : (k : ℕ) → k < length operands → IsSureEntry f round (entry_of (drop k operands))

-- what an instruction uses of the round's registers is available
pub record IsSure (f : FunctionData) (round : RoundData) (b : ℕ) (front : List (ℕ × InstrData)) (p : ℕ × InstrData) : Type 0 where
  pub body : is_phi p.1 ≡ false → (n x : ℕ) → n < 64 → is_named round n x ≡ true → uses x p ≡ true → IsAnswer f x b front true
  pub entries : is_phi p.1 ≡ true → AreSureEntries f round p.1.operands

-- the marked ones of a block up to a place do
pub record AreSureTo (f : FunctionData) (round : RoundData) (fine : List Bool) (b end : ℕ) : Type 0 where
  pub by : (k : ℕ) (p : ℕ × InstrData) → k < end → slice_get (body_at f.blocks b).instrs k ≡ Some p → marked fine p.0 ≡ true → IsSure f round b (take k (body_at f.blocks b).instrs) p

pub record AreSureIn (f : FunctionData) (round : RoundData) (fine : List Bool) (b : ℕ) : Type 0 where
  pub by : (k : ℕ) (p : ℕ × InstrData) → slice_get (body_at f.blocks b).instrs k ≡ Some p → marked fine p.0 ≡ true → IsSure f round b (take k (body_at f.blocks b).instrs) p

pub record AreSureOf (f : FunctionData) (round : RoundData) (fine : List Bool) : Type 0 where
  pub by : (b : ℕ) → AreSureIn f round fine b

-- fewer are marked
pub record IsShrunk (old new : List Bool) : Type 0 where
  pub by : (k : ℕ) → marked new k ≡ true → marked old k ≡ true

-- ══ All rounds ══

-- registers in an order, how many were looked at, and marks of the instructions whose uses of these are available
pub record CoverData : Type 0 where
  pub keys : List ℕ
  pub limit : ℕ
  pub fine : List Bool

abbrev pub is_before : List ℕ → (limit x : ℕ) → Bool
is_before keys limit x = option_map_or (λ i. nat_lt i limit) (place_of keys x) false

pub record IsCovered (f : FunctionData) (keys : List ℕ) (limit b : ℕ) (front : List (ℕ × InstrData)) (p : ℕ × InstrData) : Type 0 where
  pub body : is_phi p.1 ≡ false → (x : ℕ) → is_before keys limit x ≡ true → uses x p ≡ true → IsAnswer f x b front true
  pub entries : is_phi p.1 ≡ true → (k x a : ℕ) → k < length p.1.operands → entry_of (drop k p.1.operands) ≡ Some (x, a) → is_before keys limit x ≡ true → a < length f.blocks → IsAnswer f x a (body_at f.blocks a).instrs true

pub record IsCoverOf (f : FunctionData) (cover : CoverData) : Type 0 where
  pub by : (b k : ℕ) (p : ℕ × InstrData) → slice_get (body_at f.blocks b).instrs k ≡ Some p → marked cover.fine p.0 ≡ true → IsCovered f cover.keys cover.limit b (take k (body_at f.blocks b).instrs) p

-- where the phi of an entry is marked and its register was looked at, the register is available at the end of the entry's block
pub record IsCoveredEntry (f : FunctionData) (cover : CoverData) (phi : ℕ) (entry : Option (ℕ × ℕ)) : Type 0 where
  pub by : marked cover.fine phi ≡ true → (x a : ℕ) → entry ≡ Some (x, a) → is_before cover.keys cover.limit x ≡ true → a < length f.blocks → IsAnswer f x a (body_at f.blocks a).instrs true
