-- Where there is a use, each becomes one of the new register.
use Rattle.std.proofs.Common.{◌≡◌, ◌∙◌, ap, sym, true, length}
use Rattle.std.specs.List.{list_any}
use Rattle.gi_mir.specs.Data.{FunctionData}
use Rattle.gi_mir.specs.Arena.{blocks_of}
use Rattle.gi_mir.specs.Edit.{all_instrs, uses}
use Rattle.gi_mir.specs.Uses.{with_reg_replaced}
use Rattle.gi_mir.specs.contracts.function.Function.{the_view}
use Rattle.gi_mir.proofs.Replacing.{with_reg_replaced-none, with_reg_replaced-some}
use Rattle.gi_mir.proofs.function.Function.replace_reg.Goals as goal

pub returns-then-not-is_used-clause-ok : goal.returns-then-not-is_used-clause-ok
returns-then-not-is_used-clause-ok c =
    with_reg_replaced-none c.args.old.0 c.args.new.0 c.args.self.now (sym c.is_used.ensures ∙ c.if-not-is_used.true)

pub returns-clause-ok : goal.returns-clause-ok
returns-clause-ok c =
    let f = the_view c.self.inside in
    let used : list_any (uses c.args.old.0) (all_instrs f.blocks) ≡ true = ap (λ (g : FunctionData). list_any (uses c.args.old.0) (all_instrs g.blocks)) c.self.view_is ∙ sym c.is_used.ensures ∙ c.if-not-is_used.false in
    with_reg_replaced-some c.args.old.0 c.args.new.0 c.max-self-inside.result (length c.replace_reg.new.self.slots.items) f (blocks_of c.replace_reg.new.self) used c.max-self-inside.ensures c.in_ok-replace_reg.ensures.ok c.replace_reg.ensures.given
    ∙ ap (λ (g : FunctionData). with_reg_replaced c.args.old.0 c.args.new.0 g) c.self.view_is
