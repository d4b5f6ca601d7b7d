-- What is met next is the first of the ids, or else the first of the next chunk.
use Rattle.std.proofs.Common.{◌≡◌, ◌∙◌, ◌++◌, List, length, ap, sym, ℕ}
use Rattle.gi_mir.specs.declared.block.InstrId.{InstrId}
use Rattle.gi_mir.specs.InstrLists.{ids_left, filled_ids}
use Rattle.gi_mir.proofs.Chunks.{chunk-next, empty-next, nothing-left}
use Rattle.gi_mir.proofs.InstrsLemmas.{progress}
use Rattle.gi_mir.proofs.instr_list.InstrIdsIterator.next.Goals as goal

pub returns-in-Some-clause-steps : goal.returns-in-Some-clause-steps
unfolding ids_left
returns-in-Some-clause-steps c = ap (λ (ids : List InstrId). ids ++ filled_ids c.args.self.now.chunks.now) c.in-Some.ensures.cases.0

pub returns-in-Some-clause-goes : goal.returns-in-Some-clause-goes
returns-in-Some-clause-goes c = progress _ ids_left (λ _. tt) c.args.self.now _ c.in-Some.id.now c.in-Some.id.now (returns-in-Some-clause-steps c)

pub returns-in_err-chunk-clause-steps : goal.returns-in_err-chunk-clause-steps
unfolding ids_left
returns-in_err-chunk-clause-steps c =
    let none = nothing-left c.args.self.now.ids.now c.args.self.now.chunks.now c.in_default.ensures.cases c.in_err-chunk.ensures.cases in
    rw c.from_residual.ensures (none, none)

pub returns-in_err-id-clause-steps : goal.returns-in_err-id-clause-steps
unfolding ids_left
returns-in_err-id-clause-steps c =
    let empty = ap (λ (ids : List InstrId). length ids) (sym c.as_slice.ensures.value) ∙ c.in_err-id.ensures.cases in
    let none = empty-next c.args.self.now.ids.now c.args.self.now.chunks.now c.in_ok-chunk.chunks.now c.in_ok-chunk.chunk.now c.in_default.ensures.cases c.in_ok-chunk.ensures.cases.0 empty in
    rw c.from_residual-in_err-id.ensures (none, none)

pub returns-clause-steps : goal.returns-clause-steps
unfolding ids_left
returns-clause-steps c =
    chunk-next c.args.self.now.ids.now c.args.self.now.chunks.now c.in_ok-chunk.chunks.now c.in_ok-chunk.chunk.now c.in_ok-id.id.now c.in_ok-id.rest.now
    c.in_default.ensures.cases c.in_ok-chunk.ensures.cases.0 (sym c.as_slice.ensures.value ∙ c.in_ok-id.ensures.cases.0)

pub returns-clause-goes : goal.returns-clause-goes
returns-clause-goes c = progress _ ids_left (λ _. tt) c.args.self.now _ c.in_ok-id.id.now c.in_ok-id.id.now (returns-clause-steps c)
