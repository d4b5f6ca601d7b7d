-- Those that are listed.
use Rattle.std.proofs.Common.{◌≡◌, ◌∙◌, ap}
use Rattle.std.specs.Prelude.{map}
use Rattle.gi_mir.specs.declared.block.InstrId.{InstrId}
use Rattle.gi_mir.specs.Arena.{blocks_of}
use Rattle.gi_mir.specs.Edit.{all_instrs, users_of}
use Rattle.gi_mir.specs.InstrLists.{ids_left}
use Rattle.gi_mir.specs.Mentions.{use_key, listed, mentioning}
use Rattle.gi_mir.proofs.Keys.{listed_users}
use Rattle.gi_mir.proofs.function.Function.uses_of.Goals as goal

pub returns : goal.returns
returns c =
    let blocks = blocks_of c.self.inside.layout in
    let list : ids_left c.of.result ≡ mentioning (use_key c.args.reg.0) (all_instrs blocks) = c.of.ensures ∙ ap (listed c.self.inside.layout.mentions) c.use_key.ensures ∙ c.self.invariant.1.has_mentions (use_key c.args.reg.0) in
    ap (map (λ (id : InstrId). id.0)) list
    ∙ listed_users c.args.reg.0 (all_instrs blocks)
    ∙ ap (λ f. users_of f c.args.reg.0) c.self.view_is
