use Rattle.std.proofs.Common.{◌≡◌, ◌+◌, true, false, drop, length, sym, ◌∙◌, ap, add-one, arith}
use Rattle.gi_llt.specs.declared.Llt.TheVariants.{Pointer}
use Rattle.gi_mir.specs.Accepted.{types_at, is_there, letter_at}
use Rattle.gi_mir.proofs.LettersLemmas.{types_here, types_elsewhere}
use Rattle.gi_mir.proofs.accepted.count_at.Goals as goal
use Rattle.gi_mir.proofs.accepted.count_at.Goals.{then-is_there, else-is_there}

pub loop-place-preserved : goal.loop-place-preserved
loop-place-preserved c =
    let l = c.args.l in
    let ls = c.args.letters.now in
    let more = c.args.more in
    let types = c.args.types.now in
    let k = c.loop-place.place in
    elim c.if-is_there.branch [
      | then-is_there w ↦
          let there : is_there l (letter_at ls more k) ≡ true = cc in
          let here : length (types_at l (drop k ls) more (drop k types)) ≡ length (types_at l (drop (k + 1) ls) more (drop (k + 1) types)) + 1 =
          ap length (types_here l ls more types k Pointer c.loop-place-test.true there) ∙ sym (add-one (length (types_at l (drop (k + 1) ls) more (drop (k + 1) types)))) in
          (omega arith, omega (arith, here))
      | else-is_there w ↦
          let there : is_there l (letter_at ls more k) ≡ false = cc in
          let elsewhere : length (types_at l (drop k ls) more (drop k types)) ≡ length (types_at l (drop (k + 1) ls) more (drop (k + 1) types)) =
          ap length (types_elsewhere l ls more types k Pointer c.loop-place-test.true there) in
          (omega arith, omega (arith, elsewhere))
    ]
