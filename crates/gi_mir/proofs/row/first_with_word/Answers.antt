-- A word's opcode stands in the word's group.
use Rattle.std.proofs.Common.{rules, ◌≡◌, ◌-◌, length, slice_get, List, Some, ap, ◌∙◌}
use Rattle.gi_mir.specs.Row.{opcode_of}
use Rattle.gi_mir.specs.declared.opcode.Opcode.{Opcode}
use Rattle.gi_mir.proofs.Grouped.{among, among_at, IfSome-opcode_of}
use Rattle.gi_mir.proofs.row.first_with_word.Goals as goal

pub returns-in_err-last-clause-exact : goal.returns-in_err-last-clause-exact
unfolding opcode_of
returns-in_err-last-clause-exact c = search rules

last_is : (c : goal.After-first_among) → Some c.from-last.result ≡ slice_get c.args.word.now (length c.args.word.now - 1)
last_is c = search rules

pub returns-clause-exact : goal.returns-clause-exact
returns-clause-exact c =
    c.first_among.ensures
    ∙ ap (λ (ops : List Opcode). among ops c.args.word.now) c.group.ensures
    ∙ among_at c.args.word.now c.from-last.result (last_is c)

pub returns-clause-found : goal.returns-clause-found
returns-clause-found c = IfSome-opcode_of c.first_among.result c.args.word.now (returns-clause-exact c)
