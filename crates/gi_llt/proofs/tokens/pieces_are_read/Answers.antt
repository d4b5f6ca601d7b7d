use Rattle.gi_llt.proofs.Pieces.{tokens_of-pieces}
use Rattle.gi_llt.proofs.tokens.pieces_are_read.Goals as goal

pub returns : goal.returns
returns c = tokens_of-pieces
