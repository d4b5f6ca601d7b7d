use Rattle.std.proofs.Common.{◌≡◌, ◌++◌}
use Rattle.gi_mir.specs.Instrs.{left}
use Rattle.gi_spelling.specs.Printed.{instr_lines, text_of}
use Rattle.gi_mir_print.specs.Shown.{kind_at, shown_instrs}
use Rattle.gi_mir_print.proofs.blocks.push_lines.Given as goal

-- the text with what is left is the text with all
abbrev pub invariant-loop-numbered : goal.invariant-loop-numbered
invariant-loop-numbered l =
    l.out.items ++ text_of (instr_lines (kind_at l.registers) l.names (shown_instrs l.registers (left l.numbered-iterator)))
    ≡ l.fn.out.items ++ text_of (instr_lines (kind_at l.registers) l.names (shown_instrs l.registers (left l.instrs)))
