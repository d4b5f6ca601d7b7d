use Rattle.std.proofs.Common.{◌≡◌, ℕ, true, ◌||◌, map, sym, ap, ◌∙◌, subst}
use Rattle.std.specs.Ordering.{nat_cmp}
use Rattle.std.specs.BTreeMap.{get}
use Rattle.std.specs.BTreeSet.{contains}
use Rattle.std.specs.List.{list_any}
use Rattle.std.proofs.lemmas.List.{map-append}
use Rattle.gi_mir.specs.Data.{InstrData}
use Rattle.gi_mir.specs.Edit.{is_use_of}
use Rattle.gi_mir.specs.Formed.{is_formed}
use Rattle.gi_mir.specs.Instrs.{left}
use Rattle.gi_answer.specs.Selecting.{selected_where}
use Rattle.gi_answer.proofs.SelectLoops.{SelectedBehind, behind_none, behind_some}
use Rattle.gi_answer.proofs.select.selected_backwards.Goals as goal

pub loop-numbered-preserved-in-Continue-branch-5 : goal.loop-numbered-preserved-in-Continue-branch-5
loop-numbered-preserved-in-Continue-branch-5 c =
    let same : c.numbered.inside.instr ≡ c.in-Some.numbered.now.1 = ap (λ (i : ℕ × InstrData). i.1) c.numbered.view_is in
    subst (λ xs. SelectedBehind (get nat_cmp c.args.constants.now) (left c.args.instrs) (map (λ numbered. numbered.now) c.pop.new.self.items) (contains nat_cmp c.mark_uses.new.used) xs)
    (sym c.in_ok-append.ensures)
    (behind_some _ _ _ _ _ _ _ c.in-Some.numbered.now c.in-Some-2.instr c.requires c.loop-numbered.invariant
    (ap (map (λ numbered. numbered.now)) c.in-Some.ensures.items ∙ map-append _ c.pop.new.self.items _)
    (sym c.in-Some-2.is ∙ c.in_ok-instr.ensures ∙ ap (selected_where (contains nat_cmp c.loop-numbered.used) (get nat_cmp c.args.constants.now)) same)
    (subst (λ i. is_formed i ≡ true) same c.numbered.invariant)
    (λ r. c.in_ok-mark_uses.ensures r ∙ ap (λ os. list_any (is_use_of r) os || contains nat_cmp c.loop-numbered.used r) (c.as_slice.ensures ∙ ap (λ (i : InstrData). i.operands) c.instr.view_is)))

pub loop-numbered-preserved : goal.loop-numbered-preserved
loop-numbered-preserved c =
    behind_none _ _ _ _ _ _ c.in-Some.numbered.now c.loop-numbered.invariant
    (ap (map (λ numbered. numbered.now)) c.in-Some.ensures.items ∙ map-append _ c.pop.new.self.items _)
    (sym c.in_default-2.is ∙ c.in_ok-instr.ensures ∙ ap (λ (i : ℕ × InstrData). selected_where (contains nat_cmp c.loop-numbered.used) (get nat_cmp c.args.constants.now) i.1) c.numbered.view_is)
