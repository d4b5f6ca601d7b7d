-- The first instruction that defines a register tells its kind.
use Rattle.std.proofs.Common.{◌≡◌, ◌∙◌, ap, sym, subst, List, ℕ, Option, length}
use Rattle.std.specs.Prelude.{option_map, slice_get, unwrap_or}
use Rattle.gi_mir.specs.declared.block.InstrId.{InstrId}
use Rattle.gi_mir.specs.declared.operand.Kind.{Kind}
use Rattle.gi_mir.specs.declared.operand.Kind.TheVariants.{Class}
use Rattle.gi_mir.specs.Data.{BlockData, FunctionData, InstrData}
use Rattle.gi_mir.specs.Edit.{all_instrs, definition_of}
use Rattle.gi_mir.specs.Ids.{AreOwnIds}
use Rattle.gi_mir.specs.Mentions.{definition_key, listed, mentioning}
use Rattle.gi_mir.specs.Registers.{kind_in_operands}
use Rattle.gi_mir.specs.declared.layout.Layout.{Layout}
use Rattle.gi_mir.specs.Arena.{IsStored, blocks_of}
use Rattle.gi_mir.proofs.DefinedKinds.{first_listed, its_live, its_definition, no_definition}
use Rattle.gi_mir.proofs.function.Function.kind_of.Goals as goal

found : (f : FunctionData) (l : Layout) (r key : ℕ) (ids : List InstrId) (first : Option InstrId) → blocks_of l ≡ f.blocks → IsStored l
    → key ≡ definition_key r → ids ≡ listed l.mentions key → first ≡ slice_get ids 0 → definition_of f r ≡ option_map (λ (id : InstrId). id.0) first
found f l r key ids first here stored is_key is_listed is_first =
    first_listed f r ids first (is_listed ∙ ap (listed l.mentions) is_key ∙ stored.has_mentions (definition_key r) ∙ ap (λ (bs : List BlockData). mentioning (definition_key r) (all_instrs bs)) here) is_first

own_in : (f : FunctionData) (l : Layout) → blocks_of l ≡ f.blocks → IsStored l → AreOwnIds f.blocks (length l.slots.items)
own_in f l here stored = subst (λ (bs : List BlockData). AreOwnIds bs (length l.slots.items)) here stored.own

pub instr-requires : goal.instr-requires
instr-requires c =
    let here = ap (λ (f : FunctionData). f.blocks) c.self.view_is in
    its_live c.args.self.now _ c.args.reg.0 c.in-Some.id.0 (own_in c.args.self.now c.self.inside.layout here c.self.invariant.1)
    (found c.args.self.now c.self.inside.layout c.args.reg.0 _ _ _ here c.self.invariant.1 c.definition_key.ensures c.of.ensures c.first.ensures ∙ ap (option_map (λ (id : InstrId). id.0)) c.in-Some.is)

pub returns-in-Some : goal.returns-in-Some
returns-in-Some c =
    let here = ap (λ (f : FunctionData). f.blocks) c.self.view_is in
    let same = its_definition c.args.self.now _ c.args.reg.0 c.in-Some.id.0 c.instr.result.now (own_in c.args.self.now c.self.inside.layout here c.self.invariant.1)
    (found c.args.self.now c.self.inside.layout c.args.reg.0 _ _ _ here c.self.invariant.1 c.definition_key.ensures c.of.ensures c.first.ensures ∙ ap (option_map (λ (id : InstrId). id.0)) c.in-Some.is) c.instr.ensures.value in
    c.unwrap_or.ensures ∙ ap (λ (k : Option Kind). unwrap_or k Class)
    (c.kind_among.ensures ∙ ap (kind_in_operands c.args.reg.0) (c.as_slice.ensures ∙ ap (λ (i : InstrData). i.operands) c.behind-self.view_is) ∙ sym same)

pub returns-in-None : goal.returns-in-None
returns-in-None c =
    let here = ap (λ (f : FunctionData). f.blocks) c.self.view_is in
    ap (λ (k : Option Kind). unwrap_or k Class) (sym (no_definition c.args.self.now c.args.reg.0
    (found c.args.self.now c.self.inside.layout c.args.reg.0 _ _ _ here c.self.invariant.1 c.definition_key.ensures c.of.ensures c.first.ensures ∙ ap (option_map (λ (id : InstrId). id.0)) c.in-None.is)))
