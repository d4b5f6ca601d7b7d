use Rattle.std.proofs.Common.{rules, ◌≡◌, ◌∙◌, ap, min, ℕ}
use Rattle.gi_mir.specs.Arena.{chain}
use Rattle.gi_mir.specs.Instrs.{left}
use Rattle.gi_mir.proofs.InstrsLemmas.{chain-take}
use Rattle.gi_mir.proofs.instrs.Instrs.first.Goals as goal

pub returns : goal.returns
unfolding left
returns c =
    let it = c.args.self in
    let least : c.min.result ≡ min c.args.count it.count = search rules in
    ap (λ (n : ℕ). chain it.slots.now n it.next) least ∙ chain-take it.slots.now c.args.count it.count it.next
