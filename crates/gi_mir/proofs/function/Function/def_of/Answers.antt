-- The first of those that are listed.
use Rattle.std.proofs.Common.{◌≡◌, ◌∙◌, ap, List}
use Rattle.std.specs.Prelude.{option_map, slice_get}
use Rattle.gi_mir.specs.declared.block.InstrId.{InstrId}
use Rattle.gi_mir.specs.Arena.{blocks_of}
use Rattle.gi_mir.specs.Edit.{all_instrs, definition_in}
use Rattle.gi_mir.specs.InstrLists.{ids_left}
use Rattle.gi_mir.specs.Mentions.{definition_key, listed, mentioning}
use Rattle.gi_mir.proofs.Keys.{first_definition}
use Rattle.gi_mir.proofs.function.Function.def_of.Goals as goal

pub returns : goal.returns
returns c =
    let blocks = blocks_of c.self.inside.layout in
    let list : ids_left c.of.result ≡ mentioning (definition_key c.args.reg.0) (all_instrs blocks) = c.of.ensures ∙ ap (listed c.self.inside.layout.mentions) c.definition_key.ensures ∙ c.self.invariant.1.has_mentions (definition_key c.args.reg.0) in
    ap (option_map (λ (id : InstrId). id.0)) (c.first.ensures ∙ ap (λ (ids : List InstrId). slice_get ids 0) list)
    ∙ first_definition c.args.reg.0 (all_instrs blocks)
    ∙ ap (λ f. definition_in c.args.reg.0 f.blocks) c.self.view_is
