use Rattle.std.proofs.Common.{sym, ap, ◌∙◌, subst}
use Rattle.gi_mir.specs.Data.{InstrData}
use Rattle.gi_spelling.specs.Resolved.{each, resolved, resolved_definition, resolved_source}
use Rattle.gi_spelling.specs.Written.{WrittenData}
use Rattle.gi_resolve.specs.Meant.{AreMeant, IsMeantInstr}
use Rattle.gi_resolve.proofs.MeantLemmas.{instr-meant, instr-none}
use Rattle.gi_resolve.proofs.resolve.resolve.Goals as goal

pub returns-then-formed-clause-some : goal.returns-then-formed-clause-some
returns-then-formed-clause-some c =
    let written : WrittenData = record {
      definitions = c.written.inside.definitions.items;
      flags = c.written.inside.flags;
      op = c.written.inside.op;
      sources = c.written.inside.sources.items;
      memory = c.written.inside.memory;
    } in
    let new : InstrData = record { op = written.op; flags = written.flags; operands = c.with_sources.new.operands.items; mem = c.in-Some-resolved_memory.mem; line = c.args.line } in
    let definitions = rw c.in-Some.is at c.in_ok-operands.ensures in
    let sources = c.in_ok-with_sources.ensures.some c.if-not-branch.false in
    subst (λ w. IsMeantInstr c.args.bytes.now c.with_sources.new.names (resolved c.args.tables.now w c.args.line) new) c.written.view_is
    (instr-meant c.args.bytes.now c.with_sources.new.names c.args.tables.now written c.args.line c.in-Some.operands.items c.with_sources.new.operands.items c.in-Some-resolved_memory.mem
    (definitions ∙ ap (each (resolved_definition c.args.tables.now.classes)) c.as_slice.ensures.value)
    (subst (λ xs. AreMeant c.args.bytes.now c.with_sources.new.names (each (resolved_source c.args.tables.now) xs) c.in-Some.operands.items c.with_sources.new.operands.items)
    c.as_slice-sources.ensures.value sources)
    c.in-Some-resolved_memory.ensures (sym c.formed.ensures ∙ c.if-formed.true))

pub returns-else-formed-clause-none : goal.returns-else-formed-clause-none
returns-else-formed-clause-none c =
    let written : WrittenData = record {
      definitions = c.written.inside.definitions.items;
      flags = c.written.inside.flags;
      op = c.written.inside.op;
      sources = c.written.inside.sources.items;
      memory = c.written.inside.memory;
    } in
    let definitions = rw c.in-Some.is at c.in_ok-operands.ensures in
    let sources = c.in_ok-with_sources.ensures.some c.if-not-branch.false in
    ap (λ w. resolved c.args.tables.now w c.args.line) (sym c.written.view_is)
    ∙ instr-none c.args.bytes.now c.with_sources.new.names c.args.tables.now written c.args.line c.in-Some.operands.items c.with_sources.new.operands.items c.in-Some-resolved_memory.mem
    (definitions ∙ ap (each (resolved_definition c.args.tables.now.classes)) c.as_slice.ensures.value)
    (subst (λ xs. AreMeant c.args.bytes.now c.with_sources.new.names (each (resolved_source c.args.tables.now) xs) c.in-Some.operands.items c.with_sources.new.operands.items)
    c.as_slice-sources.ensures.value sources)
    c.in-Some-resolved_memory.ensures (sym c.formed.ensures ∙ c.if-formed.false)
