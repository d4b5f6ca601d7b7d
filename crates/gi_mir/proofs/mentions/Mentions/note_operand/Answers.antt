use Rattle.gi_mir.proofs.mentions.Mentions.note_operand.Goals as goal

pub note-requires : goal.note-requires
note-requires c = c.requires.sorted c.in-Some.key
