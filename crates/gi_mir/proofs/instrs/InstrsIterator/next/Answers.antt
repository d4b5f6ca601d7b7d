-- What is met next is the first of what is left.
use Rattle.std.proofs.Common.{rules, ◌≡◌, ◌∙◌, Some, None, refl, ap, ℕ, arith}
use Rattle.std.specs.Prelude.{slice_get}
use Rattle.std.proofs.lemmas.Bool.Decides.{nat_tests}
use Rattle.std.proofs.lemmas.Option.{slice_get_past, slice_get_read}
use Rattle.gi_mir.specs.Arena.{chain}
use Rattle.gi_mir.specs.Instrs.{left}
use Rattle.gi_mir.proofs.InstrsLemmas.{chain-none, chain-missing, chain-empty, chain-step, progress}
use Rattle.gi_mir.proofs.instrs.InstrsIterator.next.Goals as goal

pub returns-then-self-eq0-clause-steps : goal.returns-then-self-eq0-clause-steps
unfolding left
returns-then-self-eq0-clause-steps c =
    let it = c.args.self.now in
    let none = ap (λ (n : ℕ). chain it.slots.now n it.next) c.if-self-eq0.true in
    (none, none)

pub returns-in_err-id-clause-steps : goal.returns-in_err-id-clause-steps
unfolding left
returns-in_err-id-clause-steps c =
    let it = c.args.self.now in
    let end : it.next ≡ None = search rules in
    let none = ap (chain it.slots.now it.count) end ∙ chain-none it.slots.now it.count in
    rw c.from_residual.ensures (none, none)

pub returns-in_err-slot-clause-steps : goal.returns-in_err-slot-clause-steps
unfolding left
returns-in_err-slot-clause-steps c =
    let it = c.args.self.now in
    let here : it.next ≡ Some c.in_ok-id.id = search rules in
    let missing : slice_get it.slots.now c.in_ok-id.id.0 ≡ None = slice_get_past it.slots.now c.in_ok-id.id.0 (grind (arith, nat_tests, c.in_err-slot.ensures.lookup)) in
    let none = ap (chain it.slots.now it.count) here ∙ chain-missing it.slots.now it.count c.in_ok-id.id missing in
    rw c.from_residual-in_err-slot.ensures (none, none)

pub returns-in_err-entry-clause-steps : goal.returns-in_err-entry-clause-steps
unfolding left
returns-in_err-entry-clause-steps c =
    let it = c.args.self.now in
    let here : it.next ≡ Some c.in_ok-id.id = search rules in
    let found : slice_get it.slots.now c.in_ok-id.id.0 ≡ Some c.in_ok-slot.slot.now = slice_get_read it.slots.now _ c.in_ok-id.id.0 c.in_ok-slot.slot.now refl (grind (arith, nat_tests, c.in_ok-slot.ensures.lookup.0)) c.in_ok-slot.ensures.lookup.1 in
    let empty : c.in_ok-slot.slot.now.entry ≡ None = search rules in
    let none = ap (chain it.slots.now it.count) here ∙ chain-empty it.slots.now it.count c.in_ok-id.id c.in_ok-slot.slot.now found empty in
    rw c.from_residual-in_err-entry.ensures (none, none)

pub returns-clause-steps : goal.returns-clause-steps
unfolding left
returns-clause-steps c =
    let it = c.args.self.now in
    let here : it.next ≡ Some c.in_ok-id.id = search rules in
    let found : slice_get it.slots.now c.in_ok-id.id.0 ≡ Some c.in_ok-slot.slot.now = slice_get_read it.slots.now _ c.in_ok-id.id.0 c.in_ok-slot.slot.now refl (grind (arith, nat_tests, c.in_ok-slot.ensures.lookup.0)) c.in_ok-slot.ensures.lookup.1 in
    let is : c.in_ok-slot.slot.now.entry ≡ Some c.in_ok-entry.entry.now = search rules in
    ap (chain it.slots.now it.count) here ∙ chain-step it.slots.now it.count c.in_ok-id.id c.in_ok-slot.slot.now c.in_ok-entry.entry.now c.if-self-eq0.false found is

pub returns-clause-goes : goal.returns-clause-goes
returns-clause-goes c = progress _ left (λ _. tt) c.args.self.now _ c.in_ok-entry.entry.now c.in_ok-entry.entry (returns-clause-steps c)
