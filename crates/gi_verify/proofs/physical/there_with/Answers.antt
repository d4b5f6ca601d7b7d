use Rattle.std.proofs.Common.{◌<◌, length, sym, subst, rules}
use Rattle.gi_mir.specs.Edit.{block_at}
use Rattle.gi_verify.proofs.Masking.{effects_length, there_next}
use Rattle.gi_verify.proofs.physical.there_with.Goals as goal

pub bounds-effects-k : goal.bounds-effects-k
bounds-effects-k c = subst (λ n. c.args.k < n) (sym (effects_length (block_at c.args.function.now c.args.b).instrs c.args.effects.now c.requires.effects)) c.requires.here

pub offset_bounds-effects-k : goal.offset_bounds-effects-k
offset_bounds-effects-k c =
    let below : c.args.k < length c.args.effects.now = subst (λ n. c.args.k < n) (sym (effects_length (block_at c.args.function.now c.args.b).instrs c.args.effects.now c.requires.effects)) c.requires.here in
    search rules

pub returns : goal.returns
returns c =
    there_next c.args.function.now c.args.b (block_at c.args.function.now c.args.b).instrs c.args.effects.now c.requires.effects c.args.k c.requires.here _ c.args.there c.either.result c.requires.there c.either.ensures
