-- How the tokens of an instruction are read from left to right: the places that are still to come are a list, and each token
-- goes to the first of them, past those that nothing need stand in. The first token that can't stand in its place decides what
-- is wrong. Types and constants nest by places that they put before the others, so no reading follows their depth.
use Rattle.std.specs.Prelude.{ℕ, suc, ◌-◌, Bool, true, false, ◌&&◌, List, [], ◌∷◌, ◌++◌, Option, Some, None, Result, Ok, Err, ◌==◌, if◌then◌else◌}
use Rattle.std.specs.List.{list_all}
use Rattle.gi_ir_spelling.specs.declared.token.Item.{Item}
use Rattle.gi_ir_spelling.specs.declared.token.Mark.{Mark}
use Rattle.gi_ir_spelling.specs.declared.token.Mark.TheVariants as mark
use Rattle.gi_ir_spelling.specs.declared.token.What.{What}
use Rattle.gi_ir_spelling.specs.declared.token.What.TheVariants as what
use Rattle.gi_ir_spelling.specs.declared.place.Choice.{Choice}
use Rattle.gi_ir_spelling.specs.declared.place.Choice.TheVariants as choice
use Rattle.gi_ir_spelling.specs.declared.place.Scalar.{Scalar}
use Rattle.gi_ir_spelling.specs.declared.place.Scalar.TheVariants.{Integer}
use Rattle.gi_ir_spelling.specs.declared.place.Slot.{Slot}
use Rattle.gi_ir_spelling.specs.declared.place.Slot.TheVariants.{Begin}
use Rattle.gi_ir_spelling.specs.declared.place.Fault.{Fault}
use Rattle.gi_ir_spelling.specs.declared.place.Fault.TheVariants as fault
use Rattle.gi_ir_spelling.specs.declared.place.Found.{Found}
use Rattle.gi_ir_spelling.specs.declared.place.Found.TheVariants.{Place, End}
use Rattle.gi_ir_spelling.specs.declared.place.Placed.{Placed}
use Rattle.gi_ir_spelling.specs.Grammar.{choose, is_free, is_mark, slots_of}

-- what the first place that isn't passed says of a token, and the places behind it
pub record FoundPlace : Type 0 where
  pub found : Found
  pub rest : List Slot

abbrev pub place_or : Choice → Slot → List Slot → FoundPlace → FoundPlace
place_or choice.Pass slot slots later = later
place_or said slot slots later = record { found = Place slot said; rest = slots }

abbrev pub found_in : (last : Scalar) → List Slot → What → FoundPlace
found_in last [] what = record { found = End; rest = [] }
found_in last (slot ∷ slots) what = place_or (choose last slot what) slot slots (found_in last slots what)

-- what is still to come: the places, and the type of the values there
pub record Open : Type 0 where
  pub last : Scalar
  pub slots : List Slot

abbrev pub open_with : Scalar → List Slot → Open
open_with last slots = record { last = last; slots = slots }

-- what is still to come behind a token of which this is said
abbrev pub followed : Choice → (last : Scalar) → List Slot → Item → Result Open Fault
followed (choice.Take first second) last slots item = Ok (open_with last (slots_of first ++ slots_of second ++ slots))
followed (choice.TakeType scalar first second) last slots item = Ok (open_with scalar (slots_of first ++ slots_of second ++ slots))
followed choice.Pass last slots item = Err fault.Syntax
followed choice.Unknown last slots item = Err (fault.Unknown item.start item.end)
followed choice.Wrong last slots item = Err fault.Syntax

-- a token that is taken, and what is still to come behind it
pub record Step : Type 0 where
  pub placed : Placed
  pub behind : Open

abbrev pub placed_at : Slot → Item → Placed
placed_at slot item = record { slot = slot; item = item }

abbrev pub step_to : Placed → Result Open Fault → Result Step Fault
step_to placed (Ok open_) = Ok (record { placed = placed; behind = open_ })
step_to placed (Err fault) = Err fault

abbrev pub step_by : Found → Open → Item → Result Step Fault
step_by End open_ item = Err fault.Syntax
step_by (Place slot said) open_ item = step_to (placed_at slot item) (followed said open_.last open_.slots item)

-- one token
abbrev pub step : Open → Item → Result Step Fault
step open_ item =
    let place = found_in open_.last open_.slots item.what in
    step_by place.found (open_with open_.last place.rest) item

-- a line may end where nothing is needed
abbrev pub ended : Open → Result (List Placed) Fault
ended open_ = if list_all is_free open_.slots then Ok [] else Err fault.Syntax

abbrev pub onto_placed : Placed → Result (List Placed) Fault → Result (List Placed) Fault
onto_placed placed (Ok rest) = Ok (placed ∷ rest)
onto_placed placed (Err fault) = Err fault

abbrev pub then_read : Result Step Fault → (Open → Result (List Placed) Fault) → Result (List Placed) Fault
then_read (Ok next) read = onto_placed next.placed (read next.behind)
then_read (Err fault) read = Err fault

-- all tokens
abbrev pub read_from : Open → List Item → Result (List Placed) Fault
read_from open_ [] = ended open_
read_from open_ (item ∷ items) = then_read (step open_ item) (λ next. read_from next items)

-- ══ Metadata at the end ══

abbrev pub is_metadata : What → Bool
is_metadata what.Metadata = true
is_metadata _ = false

abbrev pub begins_metadata : List Item → Bool
begins_metadata [] = false
begins_metadata (item ∷ items) = is_metadata item.what

-- the bracket that closes what a token opens, and whether a token is one that closes
abbrev pub closer_of : What → Option Mark
closer_of (what.Mark mark.Open) = Some mark.Close
closer_of (what.Mark mark.OpenSquare) = Some mark.CloseSquare
closer_of (what.Mark mark.OpenBrace) = Some mark.CloseBrace
closer_of _ = None

abbrev pub closes : What → Bool
closes (what.Mark mark.Close) = true
closes (what.Mark mark.CloseSquare) = true
closes (what.Mark mark.CloseBrace) = true
closes _ = false

-- In the metadata at the end stand metadata, balanced groups in `( )` or `{ }`, and commas with metadata behind them. Behind a
-- token, the brackets that close the groups that are open, the innermost first; none where the token can't stand there.
abbrev pub tail_outside : What → (metadata_follows : Bool) → Option (List Mark)
tail_outside what.Metadata follows = Some []
tail_outside (what.Mark mark.Comma) true = Some []
tail_outside (what.Mark mark.Open) follows = Some (mark.Close ∷ [])
tail_outside (what.Mark mark.OpenBrace) follows = Some (mark.CloseBrace ∷ [])
tail_outside _ follows = None

abbrev pub tail_inside : Option Mark → (end : Mark) → (awaited : List Mark) → What → Option (List Mark)
tail_inside (Some inner) end awaited w = Some (inner ∷ end ∷ awaited)
tail_inside None end awaited w = if is_mark end w then Some awaited else if closes w then None else Some (end ∷ awaited)

abbrev pub tail_behind : (awaited : List Mark) → What → (metadata_follows : Bool) → Option (List Mark)
tail_behind [] w follows = tail_outside w follows
tail_behind (end ∷ awaited) w follows = tail_inside (closer_of w) end awaited w

abbrev pub then_tail : Option (List Mark) → (List Mark → Bool) → Bool
then_tail (Some awaited) rest = rest awaited
then_tail None rest = false

abbrev pub is_none : List Mark → Bool
is_none [] = true
is_none (end ∷ awaited) = false

abbrev pub is_tail : (awaited : List Mark) → List Item → Bool
is_tail awaited [] = is_none awaited
is_tail awaited (item ∷ items) = then_tail (tail_behind awaited item.what (begins_metadata items)) (λ later. is_tail later items)

abbrev pub depth_by : Option Mark → (depth : ℕ) → What → ℕ
depth_by (Some end) depth w = suc depth
depth_by None depth w = if closes w then depth - 1 else depth

abbrev pub depth_behind : ℕ → What → ℕ
depth_behind depth w = depth_by (closer_of w) depth w

-- the metadata at the end begins at the first comma outside brackets with metadata behind it
abbrev pub may_begin_tail : (depth : ℕ) → What → List Item → Bool
may_begin_tail depth w items = depth == 0 && is_mark mark.Comma w && begins_metadata items

-- the tokens without it
abbrev pub without_metadata : (depth : ℕ) → List Item → List Item
without_metadata depth [] = []
without_metadata depth (item ∷ items) =
    if may_begin_tail depth item.what items
    then (if is_tail [] (item ∷ items) then [] else item ∷ items)
    else item ∷ without_metadata (depth_behind depth item.what) items

-- ══ A line ══

abbrev pub beginning : Open
beginning = open_with Integer (Begin ∷ [])

-- a line with an instruction
abbrev pub read_line : List Item → Result (List Placed) Fault
read_line items = read_from beginning (without_metadata 0 items)
