-- A word that is not found is no opcode's.
use Rattle.std.proofs.Common.{◌∙◌, ap}
use Rattle.gi_mir.specs.Row.{opcode_of}
use Rattle.gi_mir.proofs.Words.{IfNone-opcode_of}
use Rattle.gi_mir.proofs.opcode.Opcode.from_word.Goals as goal

pub returns-clause-missing : goal.returns-clause-missing
returns-clause-missing c = IfNone-opcode_of c.first_with_word.result c.args.text.now (c.first_with_word.ensures.exact ∙ ap opcode_of c.as_bytes.ensures.value)
