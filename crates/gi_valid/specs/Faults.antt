-- The faults of a function, each with its line.
-- (MIR Format Reference Manual; Generic Opcodes, "G_PHI"; LLVM's machine verifier demands the like.)
use Rattle.std.specs.Prelude.{ℕ, ◌+◌, Bool, true, false, not, ◌&&◌, ◌||◌, ◌==◌, nat_lt, List, [], ◌∷◌, ◌++◌, Option, Some, None, option_map, length, map, find, flat_map, if◌then◌else◌}
use Rattle.std.specs.List.{list_all, list_any, range_with_len}
use Rattle.std.specs.Option.{option_or, option_map_or}
use Rattle.gi_llt.specs.Llt.{width_of}
use Rattle.gi_mir.specs.Data.{InstrData, BlockData, FunctionData, reg_of}
use Rattle.gi_mir.specs.Edit.{all_instrs}
use Rattle.gi_mir.specs.Row.{is_terminator_op, is_unconditional_op, is_branch_op, is_call_op, routine_call_of}
use Rattle.gi_mir.specs.declared.entry.RoutineCall.{RoutineCall}
use Rattle.gi_mir.specs.declared.entry.RoutineCall.TheVariants as routine_call
use Rattle.gi_mir.specs.declared.opcode.Opcode.{Opcode}
use Rattle.gi_mir.specs.declared.operand.Operand.{Operand}
use Rattle.gi_mir.specs.declared.operand.Operand.TheVariants as operand
use Rattle.gi_meaning.specs.Runs.{is_phi, entry_of, is_among}
use Rattle.gi_valid.specs.declared.invalid.Fault.{Fault}
use Rattle.gi_valid.specs.declared.invalid.Invalid.{Invalid}
use Rattle.gi_valid.specs.declared.invalid.Invalid.TheVariants.{DoubleDefinition, NotAvailable, TypeMismatch, UnknownBlock, PhiEntries, PhysicalAcross, Terminator}
use Rattle.gi_valid.specs.Available.{successors_of, predecessors, Extent, behind, at_end, is_physical_there}
use Rattle.gi_valid.specs.Definitions.{defines_physical, reads_physical}
use Rattle.gi_meaning.specs.InRow.{results_in}
use Rattle.gi_valid.specs.Typing.{Phase, type_in, mismatch}

-- a fault on a line
abbrev pub fault_at : (line : ℕ) → Invalid → Fault
fault_at line what = record { line = line; what = what }

-- ══ Sites ══

-- an instruction with what stands around it: its block, and what is before it and behind it there
pub record Site : Type 0 where
  pub block : ℕ
  pub before : List (ℕ × InstrData)
  pub instr : InstrData
  pub after : List (ℕ × InstrData)

abbrev pub sites_in : (block : ℕ) → (before instrs : List (ℕ × InstrData)) → List Site
sites_in block before [] = []
sites_in block before (i ∷ is) = record { block = block; before = before; instr = i.1; after = is } ∷ sites_in block (before ++ i ∷ []) is

abbrev pub sites_from : (place : ℕ) → List BlockData → List Site
sites_from place [] = []
sites_from place (block ∷ blocks) = sites_in place [] block.instrs ++ sites_from (place + 1) blocks

-- the sites of a function, in layout order
abbrev pub sites : FunctionData → List Site
sites f = sites_from 0 f.blocks

-- a fault, if there is one, in front of others
abbrev pub with_fault : (line : ℕ) → Option Invalid → List Fault → List Fault
with_fault line None faults = faults
with_fault line (Some what) faults = fault_at line what ∷ faults

-- what is told of sites, each on its line
abbrev pub told : (Site → Option Invalid) → List Site → List Fault
told fault [] = []
told fault (site ∷ sites) = with_fault site.instr.line (fault site) (told fault sites)

-- ══ A second definition of a register ══

-- the definitions among instructions in order, each with its line
abbrev pub definitions : List (ℕ × InstrData) → List (ℕ × ℕ)
definitions instrs = flat_map (λ p. map (λ r. (p.1.line, r)) (results_in p.1.operands)) instrs

abbrev pub times : (r : ℕ) → List (ℕ × ℕ) → ℕ
times r [] = 0
times r (d ∷ ds) = (if d.1 == r then 1 else 0) + times r ds

-- of definitions behind some, those that are the second of their register
abbrev pub seconds : (before ds : List (ℕ × ℕ)) → List Fault
seconds before [] = []
seconds before (d ∷ ds) =
    if times d.1 before == 1 then fault_at d.0 (DoubleDefinition (reg_of d.1)) ∷ seconds (before ++ d ∷ []) ds
    else seconds (before ++ d ∷ []) ds

abbrev pub double_definitions : FunctionData → List Fault
double_definitions f = seconds [] (definitions (all_instrs f.blocks))

-- ══ A use of a register that isn't available ══

abbrev pub is_there : FunctionData → (extents : ℕ → Extent) → Site → Operand → Bool
is_there f extents site (operand.Use r) = behind r.0 (extents r.0).origins ((extents r.0).starts site.block) site.before
is_there f extents site (operand.Phys n) = is_physical_there f site.block site.before n
is_there f extents site (operand.ImplicitUse n) = is_physical_there f site.block site.before n
is_there f extents site _ = true

-- an entry of a phi is used at the end of its block, where there is that block
abbrev pub missing_entry : FunctionData → (extents : ℕ → Extent) → Option (ℕ × ℕ) → Option Invalid
missing_entry f extents None = None
missing_entry f extents (Some entry) =
    if not (nat_lt entry.1 (length f.blocks)) || at_end f entry.0 (extents entry.0) entry.1 then None else Some (NotAvailable (operand.Use (reg_of entry.0)))

abbrev pub missing_entries : FunctionData → (extents : ℕ → Extent) → List Operand → Option Invalid
missing_entries f extents [] = None
missing_entries f extents (o ∷ os) = option_or (missing_entry f extents (entry_of (o ∷ os))) (missing_entries f extents os)

abbrev pub missing_use : FunctionData → (extents : ℕ → Extent) → Site → Option Invalid
missing_use f extents site = option_map NotAvailable (find (λ o. not (is_there f extents site o)) site.instr.operands)

abbrev pub not_available : FunctionData → (extents : ℕ → Extent) → Site → Option Invalid
not_available f extents site = if is_phi site.instr then missing_entries f extents site.instr.operands else missing_use f extents site

-- ══ Types that don't meet the row ══

abbrev pub type_mismatch : (x : ℕ) → Phase → FunctionData → Site → Option Invalid
type_mismatch x phase f site = option_map (λ r. TypeMismatch (reg_of r)) (mismatch x phase f site.instr)

-- ══ A block that isn't there ══

abbrev pub blocks_in : List Operand → List ℕ
blocks_in [] = []
blocks_in (operand.Block b ∷ os) = b ∷ blocks_in os
blocks_in (_ ∷ os) = blocks_in os

abbrev pub unknown_among : FunctionData → List ℕ → Option Invalid
unknown_among f bs = option_map UnknownBlock (find (λ b. not (nat_lt b (length f.blocks))) bs)

abbrev pub unknown_block : FunctionData → Site → Option Invalid
unknown_block f site = unknown_among f (blocks_in site.instr.operands)

-- the line of the last instruction, and this one where there is none
abbrev pub last_line : (line : ℕ) → List (ℕ × InstrData) → ℕ
last_line line [] = line
last_line line (i ∷ is) = last_line i.1.line is

-- a list of successors has the line of the last instruction up to its end
abbrev pub unknown_successors : FunctionData → (line : ℕ) → List BlockData → List Fault
unknown_successors f line [] = []
unknown_successors f line (block ∷ blocks) =
    with_fault (last_line line block.instrs) (unknown_among f block.successors) (unknown_successors f (last_line line block.instrs) blocks)

-- ══ A phi that stands wrong, or whose entries aren't one for each predecessor ══

abbrev pub count_of : ℕ → List ℕ → ℕ
count_of b [] = 0
count_of b (c ∷ cs) = (if c == b then 1 else 0) + count_of b cs

abbrev pub are_entries : (predecessors entries : List ℕ) → Bool
are_entries predecessors entries = list_all (λ b. count_of b entries == 1) predecessors && list_all (λ b. is_among b predecessors) entries

-- phis stand first in their block, and none in the first block
abbrev pub stands_first : Site → Bool
stands_first site = not (site.block == 0) && list_all (λ p. is_phi p.1) site.before

abbrev pub phi_entries : FunctionData → Site → Option Invalid
phi_entries f site =
    if is_phi site.instr && not (stands_first site && are_entries (predecessors f site.block) (blocks_in site.instr.operands))
    then Some PhiEntries else None

-- ══ A physical register that is used behind what may overwrite it ══

-- an opcode that may come to be a call whatever the widths are, and one that may where its result is wider than a register
abbrev pub always_calls : RoutineCall → Bool
always_calls routine_call.Always = true
always_calls _ = false

abbrev pub calls_where_wider : RoutineCall → Bool
calls_where_wider routine_call.WhereWider = true
calls_where_wider _ = false

abbrev pub is_division : Opcode → Bool
is_division o = always_calls (routine_call_of o)

abbrev pub is_product : Opcode → Bool
is_product o = calls_where_wider (routine_call_of o)

-- its result is wider than a register
abbrev pub is_wider : (x : ℕ) → Phase → FunctionData → List ℕ → Bool
is_wider x phase f [] = false
is_wider x phase f (r ∷ rs) = option_map_or (λ ty. nat_lt x (width_of x ty)) (type_in phase f r) false

-- a call, a generic division or remainder, or a product wider than a register: it may come to be a call
abbrev pub may_call : (x : ℕ) → Phase → FunctionData → InstrData → Bool
may_call x phase f i = is_call_op i.op || is_division i.op || (is_product i.op && is_wider x phase f (results_in i.operands))

-- it is used before it is defined
abbrev pub is_used_first : (n : ℕ) → List (ℕ × InstrData) → Bool
is_used_first n [] = false
is_used_first n (i ∷ is) = reads_physical n i || (not (defines_physical n i) && is_used_first n is)

abbrev pub goes_across : FunctionData → Site → (n : ℕ) → Bool
goes_across f site n =
    not (n == 0) && not (n == 2) && is_physical_there f site.block site.before n
    && not (defines_physical n (0, site.instr)) && is_used_first n site.after

-- the lowest such register
abbrev pub physical_across : (x : ℕ) → Phase → FunctionData → Site → Option Invalid
physical_across x phase f site =
    if may_call x phase f site.instr then option_map PhysicalAcross (find (goes_across f site) (range_with_len 0 32)) else None

-- ══ Terminators ══

-- it stands behind an unconditional terminator, or behind any without being one
abbrev pub is_late : (before : List (ℕ × InstrData)) → InstrData → Bool
is_late before i = list_any (λ p. is_unconditional_op p.1.op) before || (list_any (λ p. is_terminator_op p.1.op) before && not (is_terminator_op i.op))

-- one of these does, behind some
abbrev pub has_late : (before is : List (ℕ × InstrData)) → Bool
has_late before [] = false
has_late before (i ∷ is) = is_late before i.1 || has_late (before ++ i ∷ []) is

-- the first one in a block that does
abbrev pub is_first_late : Site → Bool
is_first_late site = is_late site.before site.instr && not (has_late [] site.before)

-- a branch with a target that is no successor
abbrev pub is_astray : FunctionData → Site → Bool
is_astray f site = is_branch_op site.instr.op && not (list_all (λ b. is_among b (successors_of f site.block)) (blocks_in site.instr.operands))

abbrev pub terminator : FunctionData → Site → Option Invalid
terminator f site = if is_first_late site || is_astray f site then Some Terminator else None

-- ══ All ══

-- what is told first of a site, where its registers are available
abbrev pub others_in : (x : ℕ) → Phase → FunctionData → Site → Option Invalid
others_in x phase f site =
    option_or (type_mismatch x phase f site)
    (option_or (unknown_block f site) (option_or (phi_entries f site) (option_or (physical_across x phase f site) (terminator f site))))

-- what is told first of a site
abbrev pub fault_in : (x : ℕ) → Phase → FunctionData → (extents : ℕ → Extent) → Site → Option Invalid
fault_in x phase f extents site = option_or (not_available f extents site) (others_in x phase f site)

-- The faults of a function, by the sets in which its registers are available: of definitions, of sites and of lists of
-- successors, each in layout order.
abbrev pub faults : (x : ℕ) → Phase → FunctionData → (extents : ℕ → Extent) → List Fault
faults x phase f extents = double_definitions f ++ told (fault_in x phase f extents) (sites f) ++ unknown_successors f 1 f.blocks
