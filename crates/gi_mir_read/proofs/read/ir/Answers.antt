use Rattle.std.proofs.Common.{Some, sym, ap, ◌∙◌, map}
use Rattle.std.specs.Prelude.{filter, fold, option_map}
use Rattle.gi_spelling.specs.Documents.{is_no_text, line_wrongs, lower}
use Rattle.gi_spelling.specs.Read.{bytes_of_line}
use Rattle.gi_mir_read.specs.Texts.Parted.{block_at}
use Rattle.gi_mir_read.specs.Texts.Placed.{lines_at}
use Rattle.gi_mir_read.proofs.Texts.TextLemmas.{all_lines_texts}
use Rattle.gi_mir_read.proofs.read.ir.Goals as goal

pub returns-in-Ok-settle-clause-ir : goal.returns-in-Ok-settle-clause-ir
returns-in-Ok-settle-clause-ir c =
    ap Some (c.in-Ok.ensures.texts ∙ all_lines_texts (lines_at c.args.text.now c.in-Some.lines.now)
    (ap (λ old. fold lower old (line_wrongs (filter is_no_text (lines_at c.args.text.now c.in-Some.lines.now)))) (sym c.new-lowest.ensures) ∙ sym c.in-Ok.ensures.wrongs ∙ c.in-Ok-settle.ensures.right))
    ∙ ap (λ block. option_map (map bytes_of_line) (option_map (block_at c.args.text.now) block)) (sym c.in-Some.is)
