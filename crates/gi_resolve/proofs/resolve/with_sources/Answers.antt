use Rattle.std.proofs.Common.{arith}
use Rattle.gi_spelling.specs.Resolved.{resolved_source}
use Rattle.gi_spelling.proofs.NamedLemmas.{extends_more}
use Rattle.gi_resolve.proofs.EachLemmas.{each-none, meant-more}
use Rattle.gi_resolve.proofs.resolve.with_sources.Goals as goal

pub returns-in-None-clause-none : goal.returns-in-None-clause-none
returns-in-None-clause-none c =
    let none = rw c.in-None.is at c.in_ok-operand.ensures.none in
    λ same. each-none (resolved_source c.args.tables.now) c.args.sources.now c.loop-written.written-index _ (omega arith) none

pub loop-written-preserved : goal.loop-written-preserved
loop-written-preserved c =
    let some = rw c.in-Some.is at c.in_ok-operand.ensures.some in
    record {
      meant = meant-more c.args.bytes.now c.loop-written.names c.source.new.names (resolved_source c.args.tables.now) c.args.sources.now c.loop-written.written-index _
          c.args.operands.now.items c.loop-written.operands.items c.append.new.operands.items c.in-Some.operand (omega arith) c.loop-written.invariant.meant
          c.in_ok-operand.ensures.grown some c.in_ok-append-in-Some.ensures;
      grown = extends_more c.args.names.now c.loop-written.names c.source.new.names c.loop-written.invariant.grown c.in_ok-operand.ensures.grown;
    }
