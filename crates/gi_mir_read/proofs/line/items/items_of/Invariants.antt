use Rattle.std.proofs.Common.{◌≡◌, map, take}
use Rattle.gi_spelling.specs.Items.{item_of}
use Rattle.gi_mir_read.proofs.line.items.items_of.Given as goal

-- the tokens so far
abbrev pub invariant-loop-token : goal.invariant-loop-token
invariant-loop-token l = l.items.items ≡ map (item_of l.bytes) (take l.token-index l.tokens)
