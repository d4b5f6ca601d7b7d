use Rattle.std.proofs.Common.{rules, subst, ap, sym, ◌∙◌}
use Rattle.gi_spelling.specs.Lines as lines
use Rattle.gi_spelling.specs.Lines.{is_block_start}
use Rattle.gi_mir_read.specs.Texts.Parted.{IsPartsOf}
use Rattle.gi_mir_read.proofs.Texts.PartCuts.{with_block, with_no_block, with_none}
use Rattle.gi_mir_read.proofs.text.parts.parts_of.Goals as goal
use Rattle.gi_mir_read.proofs.text.parts.parts_of.Goals.{in_default-via-then-counted-lt1, in_default-via-in-len1-up+else-is_block_start}

pub returns-in-len1-up : goal.returns-in-len1-up
returns-in-len1-up c =
    subst (λ (p : lines.Parts). IsPartsOf c.args.text.now p c.behind_block_start.result)
    (with_block c.args.text.now c.args.lines.now c.cut.result.1.now _ c.in-len1-up.len_at_least c.cut.ensures.back (sym (c.if-is_block_start.ensures ∙ ap is_block_start c.bytes.ensures)))
    c.behind_block_start.ensures

pub returns-in_default : goal.returns-in_default
returns-in_default c =
    elim c.in_default.branch [
      | in_default-via-then-counted-lt1 w ↦
          subst (λ (p : lines.Parts). IsPartsOf c.args.text.now p c.in_documents.result) (with_none c.args.text.now c.args.lines.now c.cut.result.1.now (search rules) c.cut.ensures.back) c.in_documents.ensures
      | in_default-via-in-len1-up+else-is_block_start w ↦
          subst (λ (p : lines.Parts). IsPartsOf c.args.text.now p c.in_documents.result)
          (with_no_block c.args.text.now c.args.lines.now c.cut.result.1.now _ w.in-len1-up.len_at_least c.cut.ensures.back (sym (w.if-is_block_start.ensures ∙ ap is_block_start w.bytes.ensures)))
          c.in_documents.ensures
    ]
