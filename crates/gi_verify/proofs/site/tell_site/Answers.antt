use Rattle.std.proofs.Common.{[], ap, sym, ◌∙◌}
use Rattle.gi_mir.specs.Instrs.{left}
use Rattle.gi_valid.specs.Typing.{phase_of}
use Rattle.gi_valid.specs.Faults.{with_fault}
use Rattle.gi_valid.specs.Valid.{of_lowest_line}
use Rattle.gi_verify.specs.Sets.{is_told_above, lowest_of}
use Rattle.gi_verify.proofs.Told.{site_passed, site_told}
use Rattle.gi_verify.proofs.site.tell_site.Goals as goal

pub returns-then-is_told_above : goal.returns-then-is_told_above
returns-then-is_told_above c =
    site_passed c.args.target.xlen (phase_of c.args.stage) c.args.function.now c.args.b (left c.args.front) c.args.numbered.now (left c.args.after) c.args.told
    (ap (is_told_above c.args.told) (sym c.line_of-line.ensures) ∙ sym c.is_told_above.ensures ∙ c.if-is_told_above.true)

pub returns : goal.returns
returns c =
    site_told c.args.target.xlen (phase_of c.args.stage) c.args.function.now c.args.b (left c.args.front) c.args.numbered.now (left c.args.after) c.in_ok-what.what c.in_ok-what.ensures
    c.args.told c.told_with.result (c.told_with.ensures ∙ ap (λ l. lowest_of c.args.told (of_lowest_line (with_fault l c.in_ok-what.what []))) c.line_of-line.ensures)
