use Rattle.std.proofs.Common.{◌≡◌}
use Rattle.gi_mir.specs.Arena.{blocks_of}
use Rattle.gi_mir.proofs.SpreadLemmas.{IsSpreading}
use Rattle.gi_mir.proofs.layout.Layout.spread.Given as goal

abbrev pub invariant-loop-k : goal.invariant-loop-k
invariant-loop-k l = record {
  bodies : l.self.bodies ≡ l.initial.self.bodies;
  slots : l.self.slots ≡ l.initial.self.slots;
  mentions : l.self.mentions ≡ l.initial.self.mentions;
  spreading : IsSpreading l.initial.self.places.items l.self.places.items (blocks_of l.initial.self) l.span l.fn.run l.step l.k l.id;
}
