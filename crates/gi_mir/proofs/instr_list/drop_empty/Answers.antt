-- The chunk goes where it has no id, and else has one.
use Rattle.std.proofs.Common.{◌≡◌, ◌∙◌, ◌<◌, Vec, length, get_or, ap, sym, subst, arith, eqb-true}
use Rattle.std.specs.declared.alloc.Global.{Global}
use Rattle.std.proofs.lemmas.Bool.Decides.{nat_tests}
use Rattle.gi_mir.specs.declared.block.InstrId.{InstrId}
use Rattle.gi_mir.specs.InstrLists.{chunk_ids, AreFilled}
use Rattle.gi_mir.proofs.Chunks.{filled-all, filled-removed, ids-removed}
use Rattle.gi_mir.proofs.instr_list.drop_empty.Goals as goal

pub returns-then-is_empty-clause-same : goal.returns-then-is_empty-clause-same
returns-then-is_empty-clause-same c =
    let none : length c.index.result.now.items ≡ 0 = grind (arith, nat_tests, c.is_empty.ensures, c.if-is_empty.true) in
    ap chunk_ids c.remove.ensures.items
    ∙ ids-removed c.args.chunks.now.items c.args.at c.index.result.now c.requires.within (subst (λ (v : Vec InstrId Global). length v.items ≡ 0) c.index.ensures none)

pub returns-then-is_empty-clause-filled : goal.returns-then-is_empty-clause-filled
returns-then-is_empty-clause-filled c = λ but.
    subst AreFilled (sym c.remove.ensures.items) (filled-removed c.args.chunks.now.items c.args.at c.requires.within but)

pub returns-else-is_empty-clause-filled : goal.returns-else-is_empty-clause-filled
returns-else-is_empty-clause-filled c = λ but.
    let some : 0 < length c.index.result.now.items = grind (arith, nat_tests, c.is_empty.ensures, c.if-is_empty.false) in
    filled-all c.args.chunks.now.items c.args.at c.index.result.now c.requires.within but (subst (λ (v : Vec InstrId Global). 0 < length v.items) c.index.ensures some)
