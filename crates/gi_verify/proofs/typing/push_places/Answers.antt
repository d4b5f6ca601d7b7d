use Rattle.std.proofs.Common.{◌++◌, sym, ap, ◌∙◌, append-nil, arith}
use Rattle.gi_mir.specs.Accepted.{is_there}
use Rattle.gi_verify.proofs.Letters.{get_or_any, places_grow, places_past}
use Rattle.gi_verify.proofs.typing.push_places.Goals as goal

pub loop-place-preserved : goal.loop-place-preserved
loop-place-preserved c =
    places_grow c.args.l c.args.letters.now c.args.more c.args.types.now c.loop-place.place _ c.loop-place-test.true (get_or_any _ _ _ _ c.loop-place-test.true) c.is_there-there.result
    (c.is_there-there.ensures ∙ ap (is_there c.args.l) c.letter_at.ensures)
    c.loop-place.out.items c.push_if.new.types.items _ c.in_ok-push_if.ensures c.loop-place.invariant

pub returns : goal.returns
returns c =
    sym (append-nil c.loop-place.out.items) ∙ ap (λ l. c.loop-place.out.items ++ l) (sym (places_past c.args.l c.args.letters.now c.args.more c.args.types.now c.loop-place.place (omega arith))) ∙ c.loop-place.invariant
