-- The normal form of a function by a table of rows: at the last generic instruction the first row that fits is
-- applied, again and again, until there is no such instruction or no row fits there.
use Rattle.std.specs.Prelude.{◌≡◌, ℕ, zero, suc, ◌+◌, Bool, List, [], ◌∷◌, ◌++◌, Option, Some, None, option_map, length, take, drop, fold, slice_get, slice_set, if◌then◌else◌}
use Rattle.std.specs.List.{list_any}
use Rattle.std.specs.Option.{option_or}
use Rattle.gi_mir.specs.Data.{InstrData, BlockData, FunctionData}
use Rattle.gi_mir.specs.Edit.{block_at, above_registers}
use Rattle.gi_answer.specs.Rows.{Site, Row, is_generic}

-- ══ The last generic instruction in layout ══

abbrev pub last_place : List (ℕ × InstrData) → Option ℕ
last_place [] = None
last_place (i ∷ is) = option_or (option_map suc (last_place is)) (if is_generic i then Some 0 else None)

abbrev pub last_site : (block : ℕ) → List BlockData → Option Site
last_site block [] = None
last_site block (b ∷ bs) =
    option_or (last_site (suc block) bs) (option_map (λ place. record { block = block; place = place }) (last_place b.instrs))

abbrev pub last_generic : FunctionData → Option Site
last_generic f = last_site 0 f.blocks

-- a generic instruction stands in one of these blocks
abbrev pub has_generic : List BlockData → Bool
has_generic blocks = list_any (λ block. list_any is_generic block.instrs) blocks

abbrev pub instr_at : FunctionData → Site → Option InstrData
instr_at f site = option_map (λ i. i.1) (slice_get (block_at f site.block).instrs site.place)

-- ══ One rewriting ══

-- instructions with ids from this one on
abbrev pub with_ids : ℕ → List InstrData → List (ℕ × InstrData)
with_ids id [] = []
with_ids id (i ∷ is) = (id, i) ∷ with_ids (suc id) is

-- a block with these instructions in the place of one
abbrev pub block_rewritten : BlockData → (place : ℕ) → List (ℕ × InstrData) → BlockData
block_rewritten b place made = record b { instrs = take place b.instrs ++ (made ++ drop (suc place) b.instrs) }

-- the function with these instructions, whose ids are new, in the place of one
abbrev pub rewritten : FunctionData → Site → List InstrData → FunctionData
rewritten f site made =
    record f {
      blocks = slice_set f.blocks site.block (block_rewritten (block_at f site.block) site.place (with_ids f.next_id made));
      next_reg = fold (λ above i. above_registers above i.operands) f.next_reg made;
      next_id = f.next_id + length made;
    }

-- what the first row that fits makes
abbrev pub first_fit : List Row → FunctionData → Site → InstrData → Option (List InstrData)
first_fit [] f site i = None
first_fit (row ∷ rows) f site i = option_or (row f site i) (first_fit rows f site i)

abbrev pub rewritten_at : List Row → FunctionData → Site → Option InstrData → Option FunctionData
rewritten_at rows f site None = None
rewritten_at rows f site (Some i) = option_map (rewritten f site) (first_fit rows f site i)

abbrev pub next_at : List Row → FunctionData → Option Site → Option FunctionData
next_at rows f None = None
next_at rows f (Some site) = rewritten_at rows f site (instr_at f site)

-- the function after one rewriting, if there is one
abbrev pub next : List Row → FunctionData → Option FunctionData
next rows f = next_at rows f (last_generic f)

-- ══ The normal form ══

-- after so many rewritings, and no more, f comes to g
abbrev pub Comes : List Row → ℕ → FunctionData → FunctionData → Type 0
Comes rows zero f g = (next rows f ≡ None) × (g ≡ f)
Comes rows (suc n) f g = (h : FunctionData) × (next rows f ≡ Some h) × Comes rows n h g

pub record IsNormalForm (rows : List Row) (f g : FunctionData) : Type 0 where
  pub count : ℕ
  pub comes : Comes rows count f g
