use Rattle.std.proofs.Common.{List, sym, subst}
use Rattle.gi_mir.specs.Data.{FunctionData}
use Rattle.gi_mir_read.specs.declared.text.sections.Mark.TheVariants.{Document}
use Rattle.gi_mir_read.specs.Texts.Sectioned.{section_at, sections_in}
use Rattle.gi_mir_read.proofs.ReadLemmas.{IsReadUpTo, one_more_read}
use Rattle.gi_mir_read.proofs.read.functions.Goals as goal

pub loop-section-preserved : goal.loop-section-preserved
loop-section-preserved c =
    let all = (sections_in Document c.args.text.now c.args.documents.now).sections in
    let later = (sections_in Document c.args.text.now c.in-Some.later.now).sections in
    record {
      within = c.in-Some.ensures.within;
      headed = c.in-Some.ensures.headed;
      read = subst (λ (fs : List FunctionData). IsReadUpTo c.args.text.now all later c.document.new.names fs) (sym c.in_ok-append.ensures.ok)
          (one_more_read c.args.text.now all (sections_in Document c.args.text.now c.loop-section.rest.now).sections later (section_at c.args.text.now c.in-Some.section) c.loop-section.names c.document.new.names
          c.loop-section.functions.items c.in_ok-function.function c.in-Some.ensures.sections c.loop-section.invariant.read c.in_ok-function.ensures.right c.in_ok-function.ensures.grown c.in_ok-function.ensures.read);
    }
