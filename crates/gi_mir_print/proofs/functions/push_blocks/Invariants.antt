use Rattle.std.proofs.Common.{◌≡◌, ◌++◌, [], length, drop}
use Rattle.gi_mir_print.specs.Shown.{kind_at, shown_blocks}
use Rattle.gi_mir_print.proofs.FunctionLemmas.{blocks_led}
use Rattle.gi_mir_print.proofs.functions.push_blocks.Given as goal

-- the text with what is left is the text with all
abbrev pub invariant-loop-place : goal.invariant-loop-place
invariant-loop-place l =
    l.out.items ++ blocks_led l.lead (kind_at l.registers) l.names l.place (length l.function.blocks) (shown_blocks l.registers (drop l.place l.function.blocks))
    ≡ l.fn.out.items ++ blocks_led [] (kind_at l.registers) l.names 0 (length l.function.blocks) (shown_blocks l.registers l.function.blocks)
