use Rattle.gi_observe.proofs.Replaying.{IsReplay-joined}
use Rattle.gi_observe.proofs.laws.replays_compose.Goals as goal

pub returns : goal.returns
returns c = IsReplay-joined
