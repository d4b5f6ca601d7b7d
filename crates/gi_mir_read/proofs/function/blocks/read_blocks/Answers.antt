use Rattle.std.proofs.Common.{◌∙◌}
use Rattle.gi_spelling.proofs.NamedLemmas.{extends_more}
use Rattle.gi_mir_read.specs.Functions.Blocked.{IsNextBlock, blocks_of, section_of}
use Rattle.gi_mir_read.proofs.Functions.BlockLemmas.{more-function, more-left}
use Rattle.gi_mir_read.proofs.function.blocks.read_blocks.Goals as goal

pub loop-block-preserved : goal.loop-block-preserved
loop-block-preserved c =
    let text = c.args.text.now in
    let tables = c.args.tables.now in
    let now = c.loop-block.invariant in
    let next : IsNextBlock text c.loop-block.rest.now c.in-Some.block.head c.in-Some.block.under.now c.in-Some.later.now = c.in-Some.ensures.next text now.within now.headed in
    let reads = c.in_ok-read_block.ensures in
    let section = section_of text c.in-Some.block.head c.in-Some.block.under.now in
    let later = (blocks_of text c.in-Some.later.now).sections in
    let here = (blocks_of text c.loop-block.rest.now).sections in
    record {
      within = next.later_within;
      headed = next.headed;
      grown = extends_more c.args.names.now c.loop-block.names c.read_block.new.names now.grown reads.grown;
      name = reads.name ∙ now.name;
      left = more-left text tables c.loop-block.names c.read_block.new.names c.block_count-place.result section later here c.loop-block.function c.read_block.new.function c.loop-block.notes c.read_block.new.notes
          _ c.block_count-place.ensures.count next.sections now.left reads;
      named = λ f named. more-function text tables c.loop-block.names c.read_block.new.names c.block_count-place.result section later here c.loop-block.function c.read_block.new.function c.loop-block.notes c.read_block.new.notes
          _ c.block_count-place.ensures.count next.sections (now.named f named) reads;
    }
