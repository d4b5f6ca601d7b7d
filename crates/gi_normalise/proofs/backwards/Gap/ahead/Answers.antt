use Rattle.std.proofs.Common.{◌≡◌, ◌∙◌, None, Some, ap, option_map, sym}
use Rattle.gi_mir.specs.Edit.{block_at}
use Rattle.gi_mir.specs.Places.{nth_id}
use Rattle.gi_mir.specs.declared.block.InstrId.{InstrId}
use Rattle.gi_normalise.proofs.Standing.{before-at, last-ahead, stands-at}
use Rattle.gi_normalise.proofs.backwards.Gap.ahead.Goals as goal

pub preceding-requires : goal.preceding-requires
preceding-requires c =
    let f = c.args.function.now in
    let named : nth_id (block_at f c.args.self.block).instrs c.requires.clear.place ≡ Some c.in-Some.id.0 = sym c.requires.clear.named ∙ ap (option_map (λ (id : InstrId). id.0)) c.in-Some.is in
    (stands-at f c.args.self.block c.requires.clear.place c.in-Some.id.0 c.own_ids.ensures named).live

pub returns-in-Some : goal.returns-in-Some
returns-in-Some c =
    let f = c.args.function.now in
    let named : nth_id (block_at f c.args.self.block).instrs c.requires.clear.place ≡ Some c.in-Some.id.0 = sym c.requires.clear.named ∙ ap (option_map (λ (id : InstrId). id.0)) c.in-Some.is in
    let stands = stands-at f c.args.self.block c.requires.clear.place c.in-Some.id.0 c.own_ids.ensures named in
    record {
      place = c.requires.clear.place;
      within = c.requires.clear.within;
      named = c.preceding.ensures ∙ before-at f c.args.self.block c.requires.clear.place c.in-Some.id.0 stands;
      clear = c.requires.clear.clear;
    }

pub returns-in-None : goal.returns-in-None
returns-in-None c =
    let f = c.args.function.now in
    let named : nth_id (block_at f c.args.self.block).instrs c.requires.clear.place ≡ None = sym c.requires.clear.named ∙ ap (option_map (λ (id : InstrId). id.0)) c.in-None.is in
    record {
      place = c.requires.clear.place;
      within = c.requires.clear.within;
      named = c.last_in.ensures ∙ last-ahead (block_at f c.args.self.block).instrs c.requires.clear.place c.requires.clear.within named;
      clear = c.requires.clear.clear;
    }
