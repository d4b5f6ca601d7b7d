use Rattle.std.proofs.Common.{rules, ◌<◌, ◌∙◌, ap, length}
use Rattle.std.specs.Prelude.{option_map}
use Rattle.std.specs.List.{list_any}
use Rattle.gi_mir.specs.declared.block.InstrId.{InstrId}
use Rattle.gi_mir.specs.declared.block.Slot.{Slot}
use Rattle.gi_mir.specs.Data.{FunctionData}
use Rattle.gi_mir.specs.Arena.{blocks_of, spot_of}
use Rattle.gi_mir.specs.Edit.{has_instr, id_before}
use Rattle.gi_mir.specs.Places.{body_at}
use Rattle.gi_mir.proofs.Linked.{ahead-named}
use Rattle.gi_mir.proofs.Stored.{live-slot, live-within}
use Rattle.gi_mir.proofs.function.Function.preceding.Goals as goal

pub index-requires : goal.index-requires
index-requires c =
    let l = c.self.inside.layout in
    let live = ap (λ (f : FunctionData). list_any (has_instr c.args.id.0) f.blocks) c.self.view_is ∙ c.requires in
    let within : c.args.id.0 < length l.slots.items = live-within l c.args.id.0 c.self.invariant.1 live in
    search rules

pub returns : goal.returns
returns c =
    let l = c.self.inside.layout in
    let live = ap (λ (f : FunctionData). list_any (has_instr c.args.id.0) f.blocks) c.self.view_is ∙ c.requires in
    let slot = live-slot l c.args.id.0 c.index.result.now c.self.invariant.1 live c.index.ensures in
    let spot = spot_of (blocks_of l) c.args.id.0 in
    ap (λ (s : Slot). option_map (λ (id : InstrId). id.0) s.previous) slot ∙ ahead-named (body_at (blocks_of l) spot.block).instrs spot.at
    ∙ ap (λ (f : FunctionData). id_before f c.args.id.0) c.self.view_is
