use Rattle.std.proofs.Common.{◌++◌, codes, ap, ◌∙◌}
use Rattle.gi_mir.specs.Names.{name_at}
use Rattle.gi_spelling.specs.Printed.{key_lines, text_of}
use Rattle.gi_mir_print.proofs.ListSteps.{on_ok_joined}
use Rattle.gi_mir_print.proofs.functions.push_begin.Goals as goal

pub returns : goal.returns
returns c =
    let one = c.push.new.out.items in
    let two = c.push_name.new.out.items in
    let three = c.push-2.new.out.items in
    let four = c.push_key.new.out.items in
    let five = c.push_key-2.new.out.items in
    on_ok_joined _ c.args.out.now.items _ _ one _ c.in_ok-push.ensures
    (on_ok_joined _ one _ _ two _ (c.in_ok-push_name.ensures ∙ ap (λ n. one ++ name_at c.args.names.now n) c.name_number.ensures)
    (on_ok_joined _ two _ _ three _ c.in_ok-push-2.ensures
    (on_ok_joined _ three _ _ four _ (c.in_ok-push_key.ensures ∙ ap (λ b. three ++ text_of (key_lines b (codes "legalized:       true"))) c.keys-legalized.ensures.legalized)
    (on_ok_joined _ four _ _ five _ (c.in_ok-push_key-2.ensures ∙ ap (λ b. four ++ text_of (key_lines b (codes "regBankSelected: true"))) c.keys-legalized.ensures.banked)
    (on_ok_joined _ five _ _ c.push_key-3.new.out.items _ (c.in_ok-push_key-3.ensures ∙ ap (λ b. five ++ text_of (key_lines b (codes "selected:        true"))) c.keys-legalized.ensures.selected)
    c.push-3.ensures)))))
