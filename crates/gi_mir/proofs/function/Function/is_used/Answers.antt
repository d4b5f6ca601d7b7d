use Rattle.std.proofs.Common.{◌∙◌, sym, ap, Bool, not}
use Rattle.gi_mir.specs.Edit.{all_instrs}
use Rattle.gi_mir.specs.InstrLists.{ids_left}
use Rattle.gi_mir.proofs.Replacing.{any_user}
use Rattle.gi_mir.proofs.function.Function.is_used.Goals as goal

pub returns : goal.returns
returns c =
    ap (λ (b : Bool). not b) c.is_empty.ensures ∙ sym (any_user c.args.reg.0 (all_instrs c.args.self.now.blocks) (ids_left c.uses_of.result) c.uses_of.ensures)
