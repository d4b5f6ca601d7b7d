-- A span begins at a multiple of its size, and so does the end of all labels.
use Rattle.std.proofs.Common.{◌≡◌, ◌+◌, ◌-◌, ◌*◌, ◌/◌, ◌%◌, ◌^◌, ◌<◌, ◌≤◌, ℕ, arith, sym, ap, subst, ◌∙◌}
use Rattle.std.proofs.lemmas.Nat.{one_shl, pow-add, row_fits, shr_below}
use Rattle.gi_mir.proofs.labels.Span.around.Goals as goal

span_within : (label bits rest : ℕ) → rest + bits ≡ 62 → label < 2 ^ 62 → label / 2 ^ bits * 2 ^ bits + 2 ^ bits ≤ 2 ^ 62
span_within label bits rest e lt =
    let below = shr_below label rest bits (let P : ℕ → Type 0 = λ n. label < 2 ^ n in subst P (sym e) lt) in
    let fits = row_fits (label / 2 ^ bits) (2 ^ bits) (2 ^ rest) (2 ^ bits) below (omega arith) in
    let whole : 2 ^ rest * 2 ^ bits ≡ 2 ^ 62 = sym (pow-add 2 rest bits) ∙ ap (λ n. 2 ^ n) e in
    omega arith

pub returns-clause-within : goal.returns-clause-within
returns-clause-within c =
    let size : 1 * 2 ^ c.args.bits % 2 ^ 64 ≡ 2 ^ c.args.bits = one_shl c.args.bits 64 (omega arith) in
    rw size (span_within c.args.label c.args.bits (62 - c.args.bits) (omega arith) c.requires.label)
