use Rattle.std.proofs.Common.{◌≡◌, [], length}
use Rattle.std.specs.Prelude.{All}
use Rattle.gi_mir_read.specs.declared.text.sections.Mark.TheVariants.{Document}
use Rattle.gi_mir_read.specs.Texts.Placed.{IsLineIn}
use Rattle.gi_mir_read.specs.Texts.Sectioned.{sections_in}
use Rattle.gi_mir_read.proofs.ReadLemmas.{IsReadUpTo}
use Rattle.gi_mir_read.proofs.read.functions.Given as goal

abbrev pub invariant-loop-section : goal.invariant-loop-section
invariant-loop-section l = record {
  within : All (IsLineIn l.text) l.rest;
  headed : (sections_in Document l.text l.rest).before ≡ [];
  read : IsReadUpTo l.text (sections_in Document l.text l.fn.documents).sections (sections_in Document l.text l.rest).sections l.names l.functions.items;
}

abbrev pub decreases-loop-section : goal.decreases-loop-section
decreases-loop-section l = length l.rest
