-- A live instruction stands in the arena at its id.
use Rattle.std.proofs.Common.{rules, ◌<◌, ◌∙◌, ℕ, ap, sym, length}
use Rattle.std.specs.Prelude.{option_map}
use Rattle.std.specs.List.{list_any}
use Rattle.gi_mir.specs.declared.block.Slot.{Slot}
use Rattle.gi_mir.specs.Data.{FunctionData, InstrData}
use Rattle.gi_mir.specs.Edit.{has_instr, instr_of}
use Rattle.gi_mir.proofs.Stored.{live-slot, live-some, live-within}
use Rattle.gi_mir.proofs.function.Function.instr.Goals as goal

pub index-requires : goal.index-requires
index-requires c =
    let l = c.self.inside.layout in
    let live = ap (λ (f : FunctionData). list_any (has_instr c.args.id.0) f.blocks) c.self.view_is ∙ c.requires in
    let within : c.args.id.0 < length l.slots.items = live-within l c.args.id.0 c.self.invariant.1 live in
    search rules

pub instr-requires : goal.instr-requires
instr-requires c =
    let live = ap (λ (f : FunctionData). list_any (has_instr c.args.id.0) f.blocks) c.self.view_is ∙ c.requires in
    live-some c.self.inside.layout c.args.id.0 c.index.result.now c.self.invariant.1 live c.index.ensures

pub returns-clause-value : goal.returns-clause-value
returns-clause-value c =
    let live = ap (λ (f : FunctionData). list_any (has_instr c.args.id.0) f.blocks) c.self.view_is ∙ c.requires in
    let slot = live-slot c.self.inside.layout c.args.id.0 c.index.result.now c.self.invariant.1 live c.index.ensures in
    sym (ap (λ (f : FunctionData). instr_of f c.args.id.0) c.self.view_is) ∙ ap (λ (s : Slot). option_map (λ (p : ℕ × InstrData). p.1) s.entry) (sym slot) ∙ c.instr.ensures.value
