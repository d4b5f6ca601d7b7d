use Rattle.std.proofs.Common.{◌≡◌, ℕ, List, sym, ap, ◌∙◌, subst}
use Rattle.std.specs.Prelude.{All}
use Rattle.std.proofs.lemmas.List.Elements.{All-same}
use Rattle.gi_spelling.specs.Blocks.{block_numbers, blocks_in, is_block_head}
use Rattle.gi_spelling.specs.Lines.{sections_of}
use Rattle.gi_mir_read.specs.Functions.Blocked.{IsToldIn, blocks_of}
use Rattle.gi_spelling.specs.Resolved.{Tables}
use Rattle.gi_mir_read.specs.Functions.ReadBlocks.{BlocksAreRead}
use Rattle.gi_mir_read.specs.Texts.Placed.{lines_at}
use Rattle.gi_mir_read.proofs.Functions.BlockLemmas.{all-read, numbers-are}
use Rattle.gi_mir_read.proofs.function.blocks.blocks.Goals as goal

pub read_blocks-requires-clause-numbered : goal.read_blocks-requires-clause-numbered
read_blocks-requires-clause-numbered c =
    let text = c.args.text.now in
    let told = c.as_slice-told.result.now in
    let within : All (IsToldIn text) told = All-same (IsToldIn text) told c.in_ok-told.told.items c.as_slice-told.ensures.value c.in_ok-told.ensures.within in
    let cut = c.cut_at_block.ensures.cut text within in
    c.in_ok-blocks.ensures ∙ numbers-are text told within ∙ ap (block_numbers text) (sym cut.back)

pub returns : goal.returns
returns c =
    let text = c.args.text.now in
    let told = c.as_slice-told.result.now in
    let within : All (IsToldIn text) told = All-same (IsToldIn text) told c.in_ok-told.told.items c.as_slice-told.ensures.value c.in_ok-told.ensures.within in
    let blocks = blocks_in text (lines_at text c.args.lines.now) in
    let is : blocks_of text told ≡ blocks =
    ap (blocks_of text) c.as_slice-told.ensures.value ∙ ap (sections_of (is_block_head text)) c.in_ok-told.ensures.told in
    let numbers : c.in_ok-blocks.blocks ≡ block_numbers text blocks.sections =
    c.in_ok-blocks.ensures ∙ numbers-are text told within ∙ ap (λ b. block_numbers text b.sections) is in
    let tables : List ℕ → Tables = λ those. record { classes = c.args.classes; blocks = those; objects = c.args.objects } in
    let read = all-read text (tables c.in_ok-blocks.blocks) c.args.names.now c.read_blocks.new.names told c.cut_at_block.result.0.now c.cut_at_block.result.1.now c.args.function.now c.read_blocks.new.function
    c.new-notes.result c.note_outers.new.notes c.read_blocks.new.notes c.args.lowest.now c.lowest.result (c.cut_at_block.ensures.cut text within)
    c.new-notes.ensures c.in_ok-note_outers.ensures c.in_ok-read_blocks.ensures c.lowest.ensures in
    subst (λ those. BlocksAreRead text (tables those) blocks c.args.names.now c.read_blocks.new.names c.args.function.now c.read_blocks.new.function c.args.lowest.now c.lowest.result) numbers
    (subst (λ b. BlocksAreRead text (tables c.in_ok-blocks.blocks) b c.args.names.now c.read_blocks.new.names c.args.function.now c.read_blocks.new.function c.args.lowest.now c.lowest.result) is read)
