use Rattle.std.proofs.Common.{◌≡◌, ◌++◌, drop, map}
use Rattle.gi_mir.specs.Numbering.{numbered}
use Rattle.gi_spelling.specs.Printed.{functions_lines, text_of}
use Rattle.gi_mir_print.proofs.functions.push_functions.Given as goal

-- the text with what is left is the text with all
abbrev pub invariant-loop-function : goal.invariant-loop-function
invariant-loop-function l =
    l.out.items ++ text_of (functions_lines l.names (map numbered (drop l.function-index l.functions)))
    ≡ l.fn.out.items ++ text_of (functions_lines l.names (map numbered l.functions))
