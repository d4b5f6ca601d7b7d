use Rattle.gi_mir.specs.Instrs.{left}
use Rattle.std.proofs.Common.{◌≡◌, ◌<◌, ◌∙◌, ℕ, drop, length, rules, subst, sym}
use Rattle.gi_meaning.specs.Runs.{entry_of}
use Rattle.gi_verify.specs.Rounds.{IsCoveredEntry}
use Rattle.gi_verify.proofs.Covering.{covered_entries}
use Rattle.gi_verify.proofs.Missing.{use_missing}
use Rattle.gi_verify.proofs.uses.not_available.Goals as goal

pub returns-in_ok-found-2 : goal.returns-in_ok-found-2
returns-in_ok-found-2 c = λ extents greatest.
    use_missing c.args.function.now extents c.args.b (left c.args.front) c.args.numbered.now.1 (left c.args.after) c.in_ok-found-2.found c.in_ok-found-2.ensures greatest (sym c.is_phi_at.ensures ∙ c.if-is_phi_at.false)

pub missing_entries-requires-clause-covered : goal.missing_entries-requires-clause-covered
missing_entries-requires-clause-covered c =
    let same : c.args.numbered.now.1.operands ≡ c.as_slice-operands.result.now = search rules in
    subst (λ l. (k : ℕ) → k < length l → IsCoveredEntry c.args.function.now c.args.order.now.cover c.id_of-phi.result.0 (entry_of (drop k l))) same
    (subst (λ n. (k : ℕ) → k < length c.args.numbered.now.1.operands → IsCoveredEntry c.args.function.now c.args.order.now.cover n (entry_of (drop k c.args.numbered.now.1.operands))) (sym c.id_of-phi.ensures)
    (covered_entries c.args.function.now c.args.order.now.cover c.requires.order.covered c.args.b (left c.args.front) c.args.numbered.now c.requires.placed (sym c.is_phi_at.ensures ∙ c.if-is_phi_at.true)))
