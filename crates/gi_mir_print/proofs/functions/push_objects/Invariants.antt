use Rattle.std.proofs.Common.{◌≡◌, ◌++◌, drop}
use Rattle.gi_spelling.specs.Printed.{object_lines, text_of}
use Rattle.gi_mir_print.proofs.functions.push_objects.Given as goal

-- the text with what is left is the text with all
abbrev pub invariant-loop-place : goal.invariant-loop-place
invariant-loop-place l = l.out.items ++ text_of (object_lines l.place (drop l.place l.objects)) ≡ l.fn.out.items ++ text_of (object_lines 0 l.objects)
