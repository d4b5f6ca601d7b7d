use Rattle.std.proofs.Common.{◌≡◌, [], length}
use Rattle.std.specs.Prelude.{All, fold}
use Rattle.gi_mir.specs.Data.{FunctionData}
use Rattle.gi_spelling.specs.Blocks.{bodies_from}
use Rattle.gi_spelling.specs.Documents.{with_body}
use Rattle.gi_spelling.specs.Named.{Extends, IsNamedFunction}
use Rattle.gi_mir_read.specs.Functions.Blocked.{IsToldIn, blocks_of}
use Rattle.gi_mir_read.specs.Functions.ReadBlocks.{AreLeft, IsLeft, notes_after}
use Rattle.gi_mir_read.proofs.function.blocks.read_blocks.Given as goal

-- the blocks that are left come behind those so far
abbrev pub invariant-loop-block : goal.invariant-loop-block
invariant-loop-block l = record {
  within : All (IsToldIn l.text) l.rest;
  headed : (blocks_of l.text l.rest).before ≡ [];
  grown : Extends l.fn.names l.names;
  name : l.function.name ≡ l.fn.function.name;
  left : AreLeft l.text l.tables (length l.function.blocks) (blocks_of l.text l.rest).sections l.notes (notes_after l.text l.tables (blocks_of l.text l.told).sections l.fn.notes);
  named : (f : FunctionData) → IsNamedFunction l.text l.fn.names f l.fn.function
      → IsLeft l.text l.tables l.names (length l.function.blocks) (blocks_of l.text l.rest).sections l.function (fold (with_body l.tables.blocks) f (bodies_from l.text l.tables 0 (blocks_of l.text l.told).sections));
}

abbrev pub decreases-loop-block : goal.decreases-loop-block
decreases-loop-block l = length l.rest
