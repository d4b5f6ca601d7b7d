use Rattle.std.proofs.Common.{◌∙◌, sym, ap}
use Rattle.gi_mir.specs.Formed.{fits, fits_one_of}
use Rattle.gi_mir.proofs.FormedLemmas.{any_mapped}
use Rattle.gi_mir.proofs.formed.fits_opcode.Goals as goal

pub returns : goal.returns
returns c =
    c.fits_row.ensures
    ∙ sym (any_mapped (λ row. fits row c.args.operands.now) (λ row. row.now) c.rows.result.now)
    ∙ ap (λ rows. fits_one_of rows c.args.operands.now) c.rows.ensures
