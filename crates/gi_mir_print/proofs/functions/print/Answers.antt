use Rattle.std.proofs.Common.{◌≡◌, ◌++◌, map, sym, ap, ap₂, ◌∙◌}
use Rattle.gi_mir.specs.Data.{ModuleData}
use Rattle.gi_mir.specs.Numbering.{numbered, numbered_module}
use Rattle.gi_spelling.specs.Printed.{ir_lines, functions_lines, printed, text_of}
use Rattle.gi_spelling.proofs.PrintedTexts.{printed_spells}
use Rattle.gi_spelling.proofs.ReadsBack.{some_spells}
use Rattle.gi_mir_print.specs.Appended.{AppendsSpelling}
use Rattle.gi_mir_print.proofs.LineLemmas.{text_of_append}
use Rattle.gi_mir_print.proofs.ListSteps.{on_ok_joined, on_ok_same, on_ok_then}
use Rattle.gi_mir_print.proofs.functions.print.Goals as goal

pub returns : goal.returns
returns c =
    let m : ModuleData = c.args.module.now in
    let one = c.push_any_ir.new.out.items in
    let text = on_ok_same _ c.args.out.now.items _ _ _ (sym (text_of_append (ir_lines m.ir) (functions_lines m.names (map numbered m.functions))))
    (on_ok_joined _ c.args.out.now.items _ _ one _
    (c.in_ok-push_any_ir.ensures ∙ ap (λ (n : ModuleData). c.args.out.now.items ++ text_of (ir_lines n.ir)) c.module.view_is)
    (on_ok_same _ one _ _ _
    (ap₂ (λ names functions. text_of (functions_lines names (map numbered functions)))
    (ap (λ (n : ModuleData). n.names) c.module.view_is)
    (c.as_slice.ensures.value ∙ ap (λ (n : ModuleData). n.functions) c.module.view_is))
    c.push_functions.ensures)) in
    record {
      text = text;
      spells = λ some there. on_ok_then (c.push_functions.new.out.items ≡ c.args.out.now.items ++ printed (numbered_module m)) (AppendsSpelling (numbered_module m) c.args.out.now.items c.push_functions.new.out.items) c.push_functions.result
          (λ same. record { written = printed (numbered_module m); appended = same; spells = some_spells printed_spells m some there })
          text;
    }
