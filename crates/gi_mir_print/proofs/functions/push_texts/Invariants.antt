use Rattle.std.proofs.Common.{◌≡◌, ◌++◌, drop, map}
use Rattle.std.specs.Prelude.{string_bytes}
use Rattle.gi_spelling.specs.Printed.{text_of}
use Rattle.gi_mir_print.proofs.functions.push_texts.Given as goal

-- the text with what is left is the text with all
abbrev pub invariant-loop-line : goal.invariant-loop-line
invariant-loop-line l = l.out.items ++ text_of (map string_bytes (drop l.line-index l.lines)) ≡ l.fn.out.items ++ text_of (map string_bytes l.lines)
