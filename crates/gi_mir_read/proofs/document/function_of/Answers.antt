use Rattle.std.proofs.Common.{List}
use Rattle.gi_spelling.specs.Documents.{read_document, tables_of}
use Rattle.gi_spelling.specs.Lines as lines
use Rattle.gi_spelling.proofs.NamedLemmas.{extends_more}
use Rattle.gi_mir_read.specs.Documents.Begun.{begun}
use Rattle.gi_mir_read.specs.Documents.Keyed.{AreFirsts}
use Rattle.gi_mir_read.specs.Texts.Placed.{lines_at}
use Rattle.gi_mir_read.specs.Functions.ReadBlocks.{BlocksAreRead}
use Rattle.gi_mir_read.proofs.Documents.BeginningLemmas.{document-read, function-read}
use Rattle.gi_mir_read.proofs.document.function_of.Goals as goal
use Rattle.gi_mir_read.proofs.document.function_of.Goals.{In_ok-blocks}

document_is_read : (c : In_ok-blocks) (sections : List lines.Section) → AreFirsts c.args.text.now sections c.args.firsts.now
    → BlocksAreRead c.args.text.now (tables_of c.args.text.now (read_document c.args.text.now sections)) (read_document c.args.text.now sections).blocks c.number_of.new.names c.blocks-2.new.names
    (begun c.in_ok-number.number (read_document c.args.text.now sections)) c.blocks-2.new.function c.args.lowest.now c.blocks-2.new.lowest
document_is_read c sections are =
    document-read c.args.text.now c.number_of.new.names c.blocks-2.new.names sections c.in_ok-number.number c.args.lowest.now c.blocks-2.new.lowest c.blocks-2.new.function
    c.in_ok-function.function c.add_stack.new.function c.in_ok-classes.classes c.in_ok-objects.objects (lines_at c.args.text.now c.in_ok-lines.lines.now)
    (c.in_ok-function.ensures.keyed sections are) (c.in_ok-objects.ensures.added sections are) (c.in_ok-classes.ensures sections are) (c.in_ok-objects.ensures.count sections are)
    (c.in_ok-lines.ensures.lines sections are) c.in_ok-blocks.ensures

pub returns-clause-noted : goal.returns-clause-noted
returns-clause-noted c = λ sections are. (document_is_read c sections are).lowest

pub returns-clause-read : goal.returns-clause-read
returns-clause-read c = λ sections are is_text none.
    function-read c.args.text.now c.number_of.new.names c.blocks-2.new.names sections c.in_ok-number.number c.args.lowest.now c.blocks-2.new.lowest c.blocks-2.new.function
    c.value_of.result.now (c.value_of.ensures sections are) c.in_ok-number.ensures.named (document_is_read c sections are) is_text

pub returns-clause-grown : goal.returns-clause-grown
returns-clause-grown c = extends_more c.args.names.now c.number_of.new.names c.blocks-2.new.names c.number_of.ensures.grown c.in_ok-blocks.ensures.grown
