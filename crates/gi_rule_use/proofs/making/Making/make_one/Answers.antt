use Rattle.std.proofs.Common.{◌≡◌, ◌∙◌, ap, length, rules, zip}
use Rattle.gi_rule_values.specs.Data.{OperationData}
use Rattle.gi_rule_valid.specs.Using.{registers_for}
use Rattle.gi_rule_use.specs.Making.{numbers_of}
use Rattle.gi_rule_use.proofs.Registers.{numbers_grown, place_behind, results_are}
use Rattle.gi_rule_use.proofs.making.Making.make_one.Goals as goal

pub returns-clause-registers : goal.returns-clause-registers
returns-clause-registers c =
    let place = length c.args.registers.now.items in
    let targets = zip c.args.self.now.places.now (numbers_of c.args.self.now.results.now) in
    let first : c.len.result ≡ length c.args.registers.now.items = search rules in
    let types : c.as_slice-types.result.now ≡ c.args.operation.now.types = c.as_slice-types.ensures ∙ ap (λ (o : OperationData). o.types) c.operation.view_is in
    let results : numbers_of c.as_slice-3.result.now ≡ registers_for targets place c.args.next c.args.operation.now.types =
    results_are _ _ _ targets place _ c.args.next c.args.operation.now.types _ c.as_slice-3.ensures c.new-results.ensures.items first types c.in_ok-behind.ensures.registers in
    numbers_grown c.grow.new.registers.items c.args.registers.now.items c.as_slice-3.result.now (registers_for targets place c.args.next c.args.operation.now.types) c.in_ok-grow.ensures results

pub returns-clause-place : goal.returns-clause-place
returns-clause-place c =
    let place = length c.args.registers.now.items in
    let targets = zip c.args.self.now.places.now (numbers_of c.args.self.now.results.now) in
    let first : c.len.result ≡ length c.args.registers.now.items = search rules in
    let types : c.as_slice-types.result.now ≡ c.args.operation.now.types = c.as_slice-types.ensures ∙ ap (λ (o : OperationData). o.types) c.operation.view_is in
    let results : numbers_of c.as_slice-3.result.now ≡ registers_for targets place c.args.next c.args.operation.now.types =
    results_are _ _ _ targets place _ c.args.next c.args.operation.now.types _ c.as_slice-3.ensures c.new-results.ensures.items first types c.in_ok-behind.ensures.registers in
    place_behind c.grow.new.registers.items c.args.registers.now.items c.as_slice-3.result.now targets c.args.next c.args.operation.now.types c.in_ok-grow.ensures results
