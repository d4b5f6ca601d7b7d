use Rattle.std.proofs.Common.{ap, ◌∙◌}
use Rattle.std.specs.Prelude.{bytes_eq, codes, ◌&&◌}
use Rattle.gi_llt.specs.Tokens.{run_of, past_run}
use Rattle.gi_spelling.specs.Lines.{is_bar_behind_blanks}
use Rattle.gi_mir_read.proofs.Texts.LineTests.{no_dashes, is_dash}
use Rattle.gi_mir_read.proofs.text.line_bytes.is_block_start.Goals as goal

pub returns-in-None : goal.returns-in-None
returns-in-None c =
    no_dashes c.line_bytes.result.now c.in-None.ensures
    ∙ ap (λ line. bytes_eq (run_of is_dash line) (codes "---") && is_bar_behind_blanks (past_run is_dash line)) c.line_bytes.ensures
