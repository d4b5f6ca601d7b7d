use Rattle.std.proofs.Common.{rules}
use Rattle.gi_verify.proofs.Listing.{noted_last, noted_not}
use Rattle.gi_verify.proofs.listed.Listed.add.Goals as goal

pub invariant_of-self-in-Ok : goal.invariant_of-self-in-Ok
invariant_of-self-in-Ok c =
    noted_last c.self.inside.places c.note.new.places c.self.inside.order.items c.push.new.self.items c.args.k c.self.invariant (search rules) (search rules) c.in-Ok.ensures.items

pub invariant_of-self-in-Err : goal.invariant_of-self-in-Err
invariant_of-self-in-Err c =
    noted_not c.self.inside.places c.note.new.places c.forget.new.places c.self.inside.order.items c.push.new.self.items c.args.k c.len-place.result c.self.invariant (search rules) c.in_ok-note.ensures.ok c.forget.ensures (search rules)
