use Rattle.std.proofs.Common.{rules, sym, subst}
use Rattle.gi_mir.specs.Numbering.{registers_in_operand}
use Rattle.gi_mir.specs.Registers.{kind_in_operand}
use Rattle.gi_mir_print.specs.Shown.{RegistersData, IsNoted}
use Rattle.gi_mir_print.proofs.NoteLemmas.{noted_definition}
use Rattle.gi_mir_print.proofs.registers.Registers.note_operand.Goals as goal

pub returns-in_ok-note-in-Def : goal.returns-in_ok-note-in-Def
returns-in_ok-note-in-Def c =
    let new : RegistersData = record { order = c.insert.new.self; kinds = c.note.new.self } in
    subst (λ d. IsNoted d new (registers_in_operand c.args.operand) (λ r. kind_in_operand r c.args.operand)) c.self.view_is
    (subst (λ x. IsNoted (record { order = c.self.inside.order; kinds = c.self.inside.kinds }) new (registers_in_operand x) (λ r. kind_in_operand r x)) (sym c.in-Def.is)
    (noted_definition (record { order = c.self.inside.order; kinds = c.self.inside.kinds }) c.in-Def.reg c.in-Def.kind new.order new.kinds (search rules) (search rules)))
