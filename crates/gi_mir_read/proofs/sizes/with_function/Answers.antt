use Rattle.std.proofs.Common.{sym, ap, ◌∙◌}
use Rattle.gi_mir.specs.Registers.{kind_of}
use Rattle.gi_mir_read.specs.Sizes.{blocks_faults, first_line, head_faults, lowest_after}
use Rattle.gi_mir_read.proofs.SizeLemmas.{kinds_same, lowest_of_two}
use Rattle.gi_mir_read.proofs.sizes.with_function.Goals as goal

pub returns : goal.returns
returns c =
    let x = c.args.target.xlen in
    let f = c.args.f.now in
    c.with_blocks.ensures
    ∙ ap (λ kinds. lowest_after c.with_head-in_head.result (blocks_faults x kinds 0 f.blocks)) (kinds_same _ f c.in_ok-kinds.ensures)
    ∙ rw (c.with_head-in_head.ensures, c.first_line.ensures)
    (sym (lowest_of_two c.args.lowest (head_faults (first_line f.blocks) c.args.place f) (blocks_faults x (kind_of f) 0 f.blocks)))
