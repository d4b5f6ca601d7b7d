use Rattle.std.specs.Prelude.{string_bytes}
use Rattle.std.proofs.lemmas.Map.Text.{btree_map_updates_text}
use Rattle.gi_mir.proofs.names.note.Goals as goal
use Rattle.gi_mir.proofs.names.note.Goals.{in-Ok, in-Err}

pub returns-clause-ok : goal.returns-clause-ok
returns-clause-ok c =
    elim c.match-insert.branch [
      | in-Ok w ↦ rw w.result-is (btree_map_updates_text (string_bytes c.args.name) c.args.numbers.now c.insert.new.self _ w.in-Ok.ensures.updates)
      | in-Err w ↦ rw w.result-is tt
    ]
