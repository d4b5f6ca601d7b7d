-- Those that are left are named behind this one.
use Rattle.std.proofs.Common.{◌<◌, slice_index_or, length}
use Rattle.gi_mir.proofs.Replacing.{turn-done, turns-end}
use Rattle.gi_mir.proofs.layout.replace_among.Goals as goal

pub bounds-slots-id : goal.bounds-slots-id
bounds-slots-id c = rw c.loop-id.auto.slots (c.requires.users.given c.loop-id.id-index (record { 0 = 0 }) c.loop-id-test.true)

pub loop-id-preserved : goal.loop-id-preserved
loop-id-preserved c =
    let there : (slice_index_or c.args.users.now c.loop-id.id-index (record { 0 = 0 })).0 < length c.loop-id.slots = rw c.loop-id.auto.slots (c.requires.users.given c.loop-id.id-index (record { 0 = 0 }) c.loop-id-test.true) in
    turn-done c.args.old.0 c.args.new.0 c.args.users.now c.loop-id.id-index (record { 0 = 0 }) c.args.slots.now c.loop-id.slots _ c.replace_reg.new.self c.loop-id-test.true c.requires.apart there c.loop-id.invariant c.replace_reg.ensures

pub returns : goal.returns
returns c =
    turns-end c.args.old.0 c.args.new.0 c.args.users.now c.loop-id.id-index c.args.slots.now c.loop-id.slots c.loop-id-test.false c.loop-id.invariant
