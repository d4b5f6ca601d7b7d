-- The blocks of a function as they are printed spell these blocks.
use Rattle.std.proofs.Common.{◌≡◌, ℕ, zero, suc, ◌+◌, ◌<◌, Bool, true, false, List, [], ◌∷◌, length, Option, Some, None, map, refl, sym, ap, ◌∙◌, arith, inl, inr}
use Rattle.std.specs.Prelude.{◌==◌, not, nat_lt, nat_eq, unwrap_or, ⊤, if◌then◌else◌}
use Rattle.std.specs.List.{list_all, prefix_len, AllByRecursion, AllZip}
use Rattle.std.specs.Cmp.Derive.{both_true}
use Rattle.std.proofs.lemmas.Bool.{and_parts, false≢true}
use Rattle.std.proofs.lemmas.Bool.Decides.{nat_tests}
use Rattle.gi_llt.specs.declared.Llt.{Llt}
use Rattle.gi_mir.specs.declared.operand.Kind.{Kind}
use Rattle.gi_mir.specs.declared.operand.Kind.TheVariants.{Generic, Banked, Class}
use Rattle.gi_mir.specs.declared.operand.Operand.{Operand}
use Rattle.gi_mir.specs.declared.operand.Operand.TheVariants.{Def}
use Rattle.gi_mir.specs.Data.{InstrData, BlockData, FunctionData}
use Rattle.gi_mir.specs.Registers.{type_of_kind, first_there, kind_in_operand, kind_in_operands, kind_in_instrs, kind_in_blocks, kind_of}
use Rattle.gi_spelling.proofs.Nameable.{is_named_instr, is_named_block}
use Rattle.gi_spelling.specs.Printable.{is_writable_type, is_writable_kind, is_writable_register, Counts, counts_of, is_writable_operand, IsPrintableInstr, IsPrintableBlock, is_none_live, is_live_first, IsPrintableFunction}
use Rattle.gi_spelling.specs.Printed.{instr_lines}
use Rattle.gi_spelling.specs.Resolved.{Tables, block_place}
use Rattle.gi_spelling.specs.Spelling.{types_in}
use Rattle.gi_spelling.proofs.Blocks.{IsLiveAt}
use Rattle.gi_spelling.proofs.BlockSpells.{IsInstrLine, AreBlocksOf, places_from}
use Rattle.gi_spelling.proofs.PrintedInstrs.{instr_named, instr_line_spelled}
use Rattle.gi_spelling.proofs.PrintedOperands.{AreTables}

-- ══ What lines rest on ══

-- what the lines of a printed function rest on: no classes, and blocks numbered from 0
abbrev pub printed_tables : FunctionData → Tables
printed_tables f = record { classes = []; blocks = places_from 0 f.blocks; objects = length f.stack }

not_there : (low k : ℕ) → 0 < k → nat_eq (low + k) low ≡ false
not_there low k some = grind (arith, nat_tests)

there : (low : ℕ) → nat_eq (low + 0) low ≡ true
there low = grind (arith, nat_tests)

place_found : (low k : ℕ) (blocks : List BlockData) → k < length blocks → prefix_len (λ n. not (nat_eq (low + k) n)) (places_from low blocks) ≡ k
place_found low k [] within = absurd (omega arith)
place_found low zero (block ∷ blocks) within = rw (there low) refl
place_found low (suc k) (block ∷ blocks) within =
    let moved : low + suc k ≡ suc low + k = omega arith in
    let later : prefix_len (λ n. not (nat_eq (low + suc k) n)) (places_from (suc low) blocks) ≡ k =
    ap (λ place. prefix_len (λ n. not (nat_eq place n)) (places_from (suc low) blocks)) moved ∙ place_found (suc low) k blocks (omega arith) in
    rw (not_there low (suc k) (omega arith)) (omega (arith, later))

places_long : (low : ℕ) (blocks : List BlockData) → length (places_from low blocks) ≡ length blocks
places_long low [] = refl
places_long low (block ∷ blocks) = ap suc (places_long (suc low) blocks)

place_kept : (blocks : List BlockData) (place : ℕ) → place < length blocks → block_place (places_from 0 blocks) place ≡ place
place_kept blocks place within =
    let start : 0 + place ≡ place = omega arith in
    let found : prefix_len (λ n. not (nat_eq place n)) (places_from 0 blocks) ≡ place =
    ap (λ p. prefix_len (λ n. not (nat_eq p n)) (places_from 0 blocks)) (sym start) ∙ place_found 0 place blocks within in
    let inside : nat_lt place (length blocks) ≡ true = grind (arith, nat_tests) in
    rw (found, places_long 0 blocks, inside) refl

-- the types of registers can be written
fits_kind : Option Kind → Bool
fits_kind None = true
fits_kind (Some kind) = is_writable_kind kind

first_fits : (one other : Option Kind) → fits_kind one ≡ true → fits_kind other ≡ true → fits_kind (first_there one other) ≡ true
first_fits None other first later = later
first_fits (Some kind) other first later = first

operand_fits : (names : List (List ℕ)) (counts : Counts) (reg : ℕ) (operand : Operand) → is_writable_operand names counts operand ≡ true → fits_kind (kind_in_operand reg operand) ≡ true
unfolding fits_kind
operand_fits names counts reg (Def defined kind) fits = chosen (defined.0 == reg) (and_parts (is_writable_register defined.0) (is_writable_kind kind) fits).1
  where
    chosen : (same : Bool) → is_writable_kind kind ≡ true → fits_kind (if same then Some kind else None) ≡ true
    chosen true own = own
    chosen false own = refl
operand_fits names counts reg _ fits = refl

operands_fit : (names : List (List ℕ)) (counts : Counts) (reg : ℕ) (operands : List Operand) → list_all (is_writable_operand names counts) operands ≡ true → fits_kind (kind_in_operands reg operands) ≡ true
unfolding fits_kind
operands_fit names counts reg [] fits = refl
operands_fit names counts reg (operand ∷ operands) fits =
    let parts = and_parts (is_writable_operand names counts operand) (list_all (is_writable_operand names counts) operands) fits in
    first_fits (kind_in_operand reg operand) (kind_in_operands reg operands) (operand_fits names counts reg operand parts.0) (operands_fit names counts reg operands parts.1)

instrs_fit : (names : List (List ℕ)) (counts : Counts) (reg : ℕ) (instrs : List (ℕ × InstrData)) → AllByRecursion (IsPrintableInstr names counts) instrs → fits_kind (kind_in_instrs reg instrs) ≡ true
unfolding fits_kind
instrs_fit names counts reg [] all = refl
instrs_fit names counts reg (instr ∷ instrs) all =
    first_fits (kind_in_operands reg (instr.1).operands) (kind_in_instrs reg instrs) (operands_fit names counts reg (instr.1).operands all.0.operands) (instrs_fit names counts reg instrs all.1)

blocks_fit : (names : List (List ℕ)) (counts : Counts) (reg : ℕ) (blocks : List BlockData) → AllByRecursion (IsPrintableBlock names counts) blocks → fits_kind (kind_in_blocks reg blocks) ≡ true
unfolding fits_kind
blocks_fit names counts reg [] all = refl
blocks_fit names counts reg (block ∷ blocks) all =
    first_fits (kind_in_instrs reg block.instrs) (kind_in_blocks reg blocks) (instrs_fit names counts reg block.instrs all.0.instrs) (blocks_fit names counts reg blocks all.1)

type_fits : (kind : Kind) (ty : Llt) → is_writable_kind kind ≡ true → type_of_kind kind ≡ Some ty → is_writable_type ty ≡ true
type_fits (Generic own) ty fits is = let same : own ≡ ty = cc in ap is_writable_type (sym same) ∙ fits
type_fits (Banked own) ty fits is = let same : own ≡ ty = cc in ap is_writable_type (sym same) ∙ fits
type_fits Class ty fits is = absurd (cc)

kind_fits : (o : Option Kind) → fits_kind o ≡ true → is_writable_kind (unwrap_or o Class) ≡ true
unfolding fits_kind
kind_fits None fits = refl
kind_fits (Some kind) fits = fits

pub printed_tables_are : (names : List (List ℕ)) (f : FunctionData) → IsPrintableFunction names f → AreTables (counts_of f) (printed_tables f) (kind_of f)
printed_tables_are names f printable = record {
  unclassed = refl;
  few = (let test = printable.few_blocks in grind (arith, nat_tests));
  placed = λ place within. place_kept f.blocks place within;
  objects = refl;
  typed = λ reg ty is. type_fits (kind_of f reg) ty (kind_fits (kind_in_blocks reg f.blocks) (blocks_fit names (counts_of f) reg f.blocks printable.blocks)) is;
}

-- ══ Blocks ══

pub instrs_named : (names : List (List ℕ)) (counts : Counts) (instrs : List (ℕ × InstrData)) → AllByRecursion (IsPrintableInstr names counts) instrs → list_all (is_named_instr names) instrs ≡ true
instrs_named names counts [] all = refl
instrs_named names counts (instr ∷ instrs) all = both_true (instr_named names counts (instr.1).operands all.0.operands) (instrs_named names counts instrs all.1)

pub blocks_named : (names : List (List ℕ)) (counts : Counts) (blocks : List BlockData) → AllByRecursion (IsPrintableBlock names counts) blocks → list_all (is_named_block names) blocks ≡ true
blocks_named names counts [] all = refl
blocks_named names counts (block ∷ blocks) all = both_true (instrs_named names counts block.instrs all.0.instrs) (blocks_named names counts blocks all.1)

instr_lines_spelled : (text : List ℕ) (names : List (List ℕ)) (counts : Counts) (tables : Tables) (kinds : ℕ → Kind) (instrs : List (ℕ × InstrData)) → AreTables counts tables kinds
    → AllByRecursion (IsPrintableInstr names counts) instrs → AllZip (IsInstrLine text names tables (λ reg. type_of_kind (kinds reg))) (instr_lines kinds names instrs) instrs
instr_lines_spelled text names counts tables kinds [] are all = tt
instr_lines_spelled text names counts tables kinds (instr ∷ instrs) are all =
    (instr_line_spelled text names counts tables kinds instr are all.0, instr_lines_spelled text names counts tables kinds instrs are all.1)

-- the successors are numbers of blocks
few_successors : (count : ℕ) (places : List ℕ) → count < 4294901761 → list_all (λ place. nat_lt place count) places ≡ true → list_all (λ n. nat_lt n 4294901760) places ≡ true
few_successors count [] few all = refl
few_successors count (place ∷ places) few all =
    let parts = and_parts (nat_lt place count) (list_all (λ place. nat_lt place count) places) all in
    let below : nat_lt place count ≡ true = parts.0 in
    let within : nat_lt place 4294901760 ≡ true = grind (arith, nat_tests) in
    both_true within (few_successors count places few parts.1)

placed_successors : (numbers : List ℕ) (count : ℕ) (places : List ℕ) → ((place : ℕ) → place < count → block_place numbers place ≡ place) → list_all (λ place. nat_lt place count) places ≡ true
    → places ≡ map (block_place numbers) places
placed_successors numbers count [] kept all = refl
placed_successors numbers count (place ∷ places) kept all =
    let parts = and_parts (nat_lt place count) (list_all (λ place. nat_lt place count) places) all in
    let within : place < count = (let test : nat_lt place count ≡ true = parts.0 in grind (arith, nat_tests)) in
    let here : block_place numbers place ≡ place = kept place within in
    let later : places ≡ map (block_place numbers) places = placed_successors numbers count places kept parts.1 in
    cc

-- what is live at the start of the blocks from a place on
abbrev LiveFrom : (place : ℕ) → List BlockData → Type 0
LiveFrom place [] = ⊤
LiveFrom place (block ∷ blocks) = IsLiveAt place block.liveins × (list_all (λ n. nat_lt n 32) block.liveins ≡ true) × LiveFrom (suc place) blocks

none_live : (liveins : List ℕ) → is_none_live liveins ≡ true → liveins ≡ []
none_live [] none = refl
none_live (n ∷ liveins) none = absurd (false≢true none)

later_live : (place : ℕ) (blocks : List BlockData) → list_all (λ (block : BlockData). is_none_live block.liveins) blocks ≡ true → LiveFrom place blocks
later_live place [] all = tt
later_live place (block ∷ blocks) all =
    let parts = and_parts (is_none_live block.liveins) (list_all (λ (block : BlockData). is_none_live block.liveins) blocks) all in
    let none = none_live block.liveins parts.0 in
    (inr none, ap (list_all (λ n. nat_lt n 32)) none, later_live (suc place) blocks parts.1)

live_from : (blocks : List BlockData) → is_live_first blocks ≡ true → LiveFrom 0 blocks
live_from [] first = tt
live_from (block ∷ blocks) first =
    let parts = and_parts (list_all (λ n. nat_lt n 32) block.liveins) (list_all (λ (block : BlockData). is_none_live block.liveins) blocks) first in
    (inl refl, parts.0, later_live 1 blocks parts.1)

blocks_from : (text : List ℕ) (names : List (List ℕ)) (counts : Counts) (tables : Tables) (kinds : ℕ → Kind) (place : ℕ) (blocks : List BlockData) → AreTables counts tables kinds
    → place + length blocks ≡ counts.blocks → LiveFrom place blocks → AllByRecursion (IsPrintableBlock names counts) blocks
    → AreBlocksOf text kinds names tables (λ reg. type_of_kind (kinds reg)) place blocks
blocks_from text names counts tables kinds place [] are whole live all = tt
blocks_from text names counts tables kinds place (block ∷ blocks) are whole live all =
    let few = are.few in (
      record {
        within = omega arith;
        named = instrs_named names counts block.instrs all.0.instrs;
        fit = record {
          below = few_successors counts.blocks block.successors are.few all.0.successors;
          placed = placed_successors tables.blocks counts.blocks block.successors are.placed all.0.successors;
          physical = live.1;
        };
        live = live.0;
        instrs = instr_lines_spelled text names counts tables kinds block.instrs are all.0.instrs;
      },
      blocks_from text names counts tables kinds (suc place) blocks are (omega arith) live.2 all.1,
    )

pub printed_blocks : (text : List ℕ) (names : List (List ℕ)) (f : FunctionData) → IsPrintableFunction names f → AreBlocksOf text (kind_of f) names (printed_tables f) (types_in f) 0 f.blocks
printed_blocks text names f printable =
    blocks_from text names (counts_of f) (printed_tables f) (kind_of f) 0 f.blocks (printed_tables_are names f printable) (omega arith) (live_from f.blocks printable.live_first) printable.blocks
