use Rattle.std.proofs.Common.{◌≡◌, [], length}
use Rattle.std.specs.Prelude.{All}
use Rattle.gi_mir_read.specs.declared.text.sections.Mark.TheVariants.{Entry}
use Rattle.gi_mir_read.specs.Texts.Placed.{IsLineIn}
use Rattle.gi_mir_read.specs.Texts.Sectioned.{sections_in}
use Rattle.gi_mir_read.proofs.Documents.EntryLemmas.{IsNotedUpTo}
use Rattle.gi_mir_read.proofs.document.entries.entries.Given as goal

abbrev pub invariant-loop-section : goal.invariant-loop-section
invariant-loop-section l = record {
  within : All (IsLineIn l.text) l.rest;
  headed : (sections_in Entry l.text l.rest).before ≡ [];
  count : length l.firsts.entries ≡ 7;
  noted : IsNotedUpTo l.text (sections_in Entry l.text l.fn.lines).sections (sections_in Entry l.text l.rest).sections l.initial.lowest l.lowest l.firsts;
}

abbrev pub decreases-loop-section : goal.decreases-loop-section
decreases-loop-section l = length l.rest
