-- For each premise of rewriting piece by piece a case in which all others hold and the new function returns something else.
use Rattle.std.proofs.Common.{◌≡◌, ℕ, zero, suc, Bool, false, List, [], ◌∷◌, ◌++◌, Option, Some, None, slice_get, refl, ap, lit<}
use Rattle.std.proofs.lemmas.Bool.{false≢true, eqb-false}
use Rattle.gi_mir.specs.Data.{InstrData, BlockData, FunctionData}
use Rattle.gi_mir.specs.declared.opcode.Opcode.TheVariants as op
use Rattle.gi_mir.specs.declared.operand.Operand.TheVariants as operand
use Rattle.gi_meaning.specs.Meaning.{meaning_of}
use Rattle.gi_meaning.specs.State.{World, State, Returned, Undefined, Place, Virtual, Physical, put, word_in}
use Rattle.gi_meaning.specs.Runs.{Setting, setting_of, written_places, On}
use Rattle.gi_refine.specs.Agreement.{Agree, AgreeAt}
use Rattle.gi_refine.specs.Evaluation.{steps_of}
use Rattle.gi_refine.specs.Examples.{made, block_of, function_of, s32, copy_in, copy_out, names, counting}
use Rattle.gi_refine_cases.specs.Idle.{PiecePremise, StayKept, StaySeen, StayHeld, StayHides, StayLeaves, PieceChanged, PhisFollowing, BlockFalls, BlockSuccessors, PieceBut, PiecesBut, BlockButAt, IsRewrittenBut, IsPieceNotIdle}
use Rattle.gi_refine.specs.OnePlace.{only_virtual, nothing, only}
use Rattle.gi_refine.specs.Reached.{WhereReached}
use Rattle.gi_refine.specs.Rewriting.{Piece, Kept, Changed, old_of, PieceFollows, PiecesFollow, PhisFollow, RewrittenAt, IsRewritten}
use Rattle.gi_refine.proofs.RewritingFollows.{covers_so, hides_so}
use Rattle.gi_refine_cases.proofs.IdleCases.{world, is_world_of, returned_is, is_return, hidden_written, zero_by_one, return_10, other_word, gives_first, gives_second, gives_through_1, overwrites_1, gives_0_of_two, gives_1_of_two, returns_alone, returns_other, phi_takes_0, phi_takes_1, goes_on, stays_there}
use Rattle.gi_refine_cases.proofs.StayingTested.{seen_by, alone_holds}
use Rattle.gi_refine.proofs.Keeping.{agree_but}
use Rattle.gi_refine.proofs.Staying.{kept_reused}
use Rattle.gi_refine.proofs.Evaluating.{refutes}

-- ══ All premises are the record ══

piece_all : (x : ℕ) (f g : FunctionData) (entries : ℕ → Place → Bool) (rename : ℕ → ℕ) (w : World) (b : ℕ) (before : List (ℕ × InstrData)) (now next : Place → Bool) (p : Piece)
    → PieceBut None x f g entries rename w b before now next p → PieceFollows x names f g entries rename w b before now next p
piece_all x f g entries rename w b before now next (Kept i j) owes = record { kept = owes.kept; seen = owes.seen; holds = owes.holds; hides = owes.hides; leaves = owes.leaves }
piece_all x f g entries rename w b before now next (Changed is js) owes = owes

pieces_all : (x : ℕ) (f g : FunctionData) (entries : ℕ → Place → Bool) (rename : ℕ → ℕ) (w : World) (b : ℕ) (before : List (ℕ × InstrData)) (now : Place → Bool) (ps : List (Piece × (Place → Bool)))
    → PiecesBut None x f g entries rename w b before now ps → PiecesFollow x names f g entries rename w b before now ps
pieces_all x f g entries rename w b before now [] owes = tt
pieces_all x f g entries rename w b before now (p ∷ ps) owes =
    (piece_all x f g entries rename w b before now p.1 p.0 owes.0, pieces_all x f g entries rename w b (before ++ old_of p.0) p.1 ps owes.1)

block_all : (x : ℕ) (f g : FunctionData) (entries : ℕ → Place → Bool) (rename : ℕ → ℕ) (b : ℕ) (old new : Option BlockData) → BlockButAt None x f g entries rename b old new → RewrittenAt x names f g entries rename b old new
block_all x f g entries rename b None new owes = tt
block_all x f g entries rename b (Some old) None owes = absurd owes
block_all x f g entries rename b (Some old) (Some new) owes = record {
  middle = owes.middle;
  pieces = owes.pieces;
  successors = owes.successors;
  splits = owes.splits;
  new_splits = owes.new_splits;
  phis = owes.phis;
  body = λ w is_world. pieces_all x f g entries rename w b [] owes.middle owes.pieces (owes.body w is_world);
  falls = owes.falls;
}

pub rewritten_all : (x : ℕ) (f g : FunctionData) → IsRewrittenBut None x f g → IsRewritten x names f g
rewritten_all x f g owes = record {
  entries = owes.entries;
  rename = owes.rename;
  places = λ b. block_all x f g owes.entries owes.rename b (slice_get f.blocks b) (slice_get g.blocks b) (owes.places b);
}

-- ══ What many cases share ══

abbrev all_seen : Place → Bool
all_seen = only_virtual nothing

abbrev one_hidden : Place → Bool
one_hidden = only_virtual (only 1)

all_seen_so : (p : Place) → all_seen p ≡ false
all_seen_so (Virtual r) = refl
all_seen_so (Physical n) = refl

no_phis_follow : (f g : FunctionData) (b : ℕ) (hidden : Place → Bool) (w : World) → PhisFollow 32 names f g w b hidden hidden [] []
no_phis_follow f g b hidden w = record { by = λ n from state state' arrives agree. agree }

-- `%1 = COPY $x11` comes, and register 1 is hidden from there on
hides_1 : (f g : FunctionData) (entries : ℕ → Place → Bool) (w : World) (b : ℕ) (before : List (ℕ × InstrData)) (now : Place → Bool) → ((p : Place) → now p ≡ false)
    → ((state : State) → steps_of (setting_of 32 names g) w (copy_in 1 11 s32 ∷ []) state ≡ Some (On (put state (Virtual 1) (word_in state 11))))
    → PieceFollows 32 names f g entries (λ r. r) w b before now one_hidden (Changed [] (copy_in 1 11 s32 ∷ []))
hides_1 f g entries w b before now seen steps =
    let s : Setting = setting_of 32 names f in
    let t : Setting = setting_of 32 names g in
    hidden_written s g w (WhereReached s w f.blocks b before (Agree s t now)) (only 1) (AgreeAt s t entries) (copy_in 1 11 s32) 1 (λ state. word_in state 11) refl steps
    (λ old new h. agree_but s t now one_hidden old new (λ p e. seen p) h.relates)

-- `PseudoBR bb.2`
abbrev branch_2 : ℕ × InstrData
branch_2 = made op.PseudoBranch (operand.Block 2 ∷ []) None

-- ══ An instruction that stays has become another ══

kept_places : (b : ℕ) → BlockButAt (Some StayKept) 32 gives_first gives_second (λ b. all_seen) (λ r. r) b (slice_get gives_first.blocks b) (slice_get gives_second.blocks b)
kept_places zero = record {
  middle = all_seen;
  pieces = (Kept (copy_in 0 10 s32) (copy_in 0 11 s32), all_seen) ∷ (Kept (copy_out 10 0) (copy_out 10 0), all_seen) ∷ (Kept (return_10) (return_10), all_seen) ∷ [];
  successors = refl;
  splits = refl;
  new_splits = refl;
  phis = λ w is_world. no_phis_follow gives_first gives_second 0 all_seen w;
  body = λ w is_world. (record { kept = tt; seen = seen_by (setting_of 32 names gives_first) (setting_of 32 names gives_second) nothing (λ r. r) ((copy_in 0 10 s32).1.operands) refl; holds = λ state reached. alone_holds (λ r. r) state ((copy_in 0 10 s32).1.operands) refl; hides = hides_so all_seen (written_places (meaning_of (copy_in 0 10 s32).1.flags (copy_in 0 10 s32).1.op) ((copy_in 0 10 s32).1.operands)); leaves = λ c h. absurd (false≢true h) }, (record { kept = tt; seen = seen_by (setting_of 32 names gives_first) (setting_of 32 names gives_second) nothing (λ r. r) ((copy_out 10 0).1.operands) refl; holds = λ state reached. alone_holds (λ r. r) state ((copy_out 10 0).1.operands) refl; hides = hides_so all_seen (written_places (meaning_of (copy_out 10 0).1.flags (copy_out 10 0).1.op) ((copy_out 10 0).1.operands)); leaves = λ c h. absurd (false≢true h) }, (record { kept = tt; seen = seen_by (setting_of 32 names gives_first) (setting_of 32 names gives_second) nothing (λ r. r) ((return_10).1.operands) refl; holds = λ state reached. alone_holds (λ r. r) state ((return_10).1.operands) refl; hides = hides_so all_seen (written_places (meaning_of (return_10).1.flags (return_10).1.op) ((return_10).1.operands)); leaves = λ c h. absurd (false≢true h) }, tt)));
  falls = λ among. absurd (false≢true among);
}
kept_places (suc b) = tt

kept_not_idle : IsPieceNotIdle StayKept
kept_not_idle = record {
  old = gives_first;
  new = gives_second;
  owes = record { entries = (λ b. all_seen); rename = (λ r. r); places = kept_places };
  refuted = refutes 32 names gives_first gives_second (world 1 2) (is_world_of 1 2 (lit< tt) (lit< tt)) 4 (Returned (1 ∷ []) counting 0) (Returned (2 ∷ []) counting 0) refl refl (λ e. eqb-false 2 1 refl (returned_is 2 1 e)) (λ e. false≢true (ap is_return e));
}

-- ══ An instruction that stays reads what is hidden ══

seen_places : (b : ℕ) → BlockButAt (Some StaySeen) 32 gives_through_1 overwrites_1 (λ b. all_seen) (λ r. r) b (slice_get gives_through_1.blocks b) (slice_get overwrites_1.blocks b)
seen_places zero = record {
  middle = all_seen;
  pieces = (Kept (copy_in 1 10 s32) (copy_in 1 10 s32), all_seen) ∷ (Changed [] (copy_in 1 11 s32 ∷ []), one_hidden) ∷ (Kept (copy_out 10 1) (copy_out 10 1), one_hidden) ∷ (Kept (return_10) (return_10), one_hidden) ∷ [];
  successors = refl;
  splits = refl;
  new_splits = refl;
  phis = λ w is_world. no_phis_follow gives_through_1 overwrites_1 0 all_seen w;
  body = λ w is_world. (record { kept = kept_reused (λ r. r) ((copy_in 1 10 s32).1) ((copy_in 1 10 s32).1) refl; seen = tt; holds = λ state reached. alone_holds (λ r. r) state ((copy_in 1 10 s32).1.operands) refl; hides = hides_so all_seen (written_places (meaning_of (copy_in 1 10 s32).1.flags (copy_in 1 10 s32).1.op) ((copy_in 1 10 s32).1.operands)); leaves = λ c h. absurd (false≢true h) }, (hides_1 gives_through_1 overwrites_1 (λ b. all_seen) w 0 (copy_in 1 10 s32 ∷ []) all_seen all_seen_so (λ state. refl), (record { kept = kept_reused (λ r. r) ((copy_out 10 1).1) ((copy_out 10 1).1) refl; seen = tt; holds = λ state reached. alone_holds (λ r. r) state ((copy_out 10 1).1.operands) refl; hides = hides_so one_hidden (written_places (meaning_of (copy_out 10 1).1.flags (copy_out 10 1).1.op) ((copy_out 10 1).1.operands)); leaves = λ c h. absurd (false≢true h) }, (record { kept = kept_reused (λ r. r) ((return_10).1) ((return_10).1) refl; seen = tt; holds = λ state reached. alone_holds (λ r. r) state ((return_10).1.operands) refl; hides = hides_so one_hidden (written_places (meaning_of (return_10).1.flags (return_10).1.op) ((return_10).1.operands)); leaves = λ c h. absurd (false≢true h) }, tt))));
  falls = λ among. absurd (false≢true among);
}
seen_places (suc b) = tt

seen_not_idle : IsPieceNotIdle StaySeen
seen_not_idle = record {
  old = gives_through_1;
  new = overwrites_1;
  owes = record { entries = (λ b. all_seen); rename = (λ r. r); places = seen_places };
  refuted = refutes 32 names gives_through_1 overwrites_1 (world 1 2) (is_world_of 1 2 (lit< tt) (lit< tt)) 4 (Returned (1 ∷ []) counting 0) (Returned (2 ∷ []) counting 0) refl refl (λ e. eqb-false 2 1 refl (returned_is 2 1 e)) (λ e. false≢true (ap is_return e));
}

-- ══ What replaces a register holds another value ══

held_places : (b : ℕ) → BlockButAt (Some StayHeld) 32 gives_0_of_two gives_1_of_two (λ b. all_seen) zero_by_one b (slice_get gives_0_of_two.blocks b) (slice_get gives_1_of_two.blocks b)
held_places zero = record {
  middle = all_seen;
  pieces = (Kept (copy_in 0 10 s32) (copy_in 0 10 s32), all_seen) ∷ (Kept (copy_in 1 11 s32) (copy_in 1 11 s32), all_seen) ∷ (Kept (copy_out 10 0) (copy_out 10 1), all_seen) ∷ (Kept (return_10) (return_10), all_seen) ∷ [];
  successors = refl;
  splits = refl;
  new_splits = refl;
  phis = λ w is_world. no_phis_follow gives_0_of_two gives_1_of_two 0 all_seen w;
  body = λ w is_world. (record { kept = kept_reused zero_by_one ((copy_in 0 10 s32).1) ((copy_in 0 10 s32).1) refl; seen = seen_by (setting_of 32 names gives_0_of_two) (setting_of 32 names gives_1_of_two) nothing zero_by_one ((copy_in 0 10 s32).1.operands) refl; holds = tt; hides = hides_so all_seen (written_places (meaning_of (copy_in 0 10 s32).1.flags (copy_in 0 10 s32).1.op) ((copy_in 0 10 s32).1.operands)); leaves = λ c h. absurd (false≢true h) }, (record { kept = kept_reused zero_by_one ((copy_in 1 11 s32).1) ((copy_in 1 11 s32).1) refl; seen = seen_by (setting_of 32 names gives_0_of_two) (setting_of 32 names gives_1_of_two) nothing zero_by_one ((copy_in 1 11 s32).1.operands) refl; holds = tt; hides = hides_so all_seen (written_places (meaning_of (copy_in 1 11 s32).1.flags (copy_in 1 11 s32).1.op) ((copy_in 1 11 s32).1.operands)); leaves = λ c h. absurd (false≢true h) }, (record { kept = kept_reused zero_by_one ((copy_out 10 0).1) ((copy_out 10 1).1) refl; seen = seen_by (setting_of 32 names gives_0_of_two) (setting_of 32 names gives_1_of_two) nothing zero_by_one ((copy_out 10 0).1.operands) refl; holds = tt; hides = hides_so all_seen (written_places (meaning_of (copy_out 10 0).1.flags (copy_out 10 0).1.op) ((copy_out 10 0).1.operands)); leaves = λ c h. absurd (false≢true h) }, (record { kept = kept_reused zero_by_one ((return_10).1) ((return_10).1) refl; seen = seen_by (setting_of 32 names gives_0_of_two) (setting_of 32 names gives_1_of_two) nothing zero_by_one ((return_10).1.operands) refl; holds = tt; hides = hides_so all_seen (written_places (meaning_of (return_10).1.flags (return_10).1.op) ((return_10).1.operands)); leaves = λ c h. absurd (false≢true h) }, tt))));
  falls = λ among. absurd (false≢true among);
}
held_places (suc b) = tt

held_not_idle : IsPieceNotIdle StayHeld
held_not_idle = record {
  old = gives_0_of_two;
  new = gives_1_of_two;
  owes = record { entries = (λ b. all_seen); rename = zero_by_one; places = held_places };
  refuted = refutes 32 names gives_0_of_two gives_1_of_two (world 1 2) (is_world_of 1 2 (lit< tt) (lit< tt)) 4 (Returned (1 ∷ []) counting 0) (Returned (2 ∷ []) counting 0) refl refl (λ e. eqb-false 2 1 refl (returned_is 2 1 e)) (λ e. false≢true (ap is_return e));
}

-- ══ Less is hidden after an instruction than before, though it writes another place ══

abbrev hides_old : FunctionData
hides_old = function_of (block_of ([]) (copy_in 1 10 s32 ∷ copy_in 0 10 s32 ∷ copy_out 10 1 ∷ return_10 ∷ []) ∷ [])

abbrev hides_new : FunctionData
hides_new = function_of (block_of ([]) (copy_in 1 10 s32 ∷ copy_in 1 11 s32 ∷ copy_in 0 10 s32 ∷ copy_out 10 1 ∷ return_10 ∷ []) ∷ [])

hides_places : (b : ℕ) → BlockButAt (Some StayHides) 32 hides_old hides_new (λ b. all_seen) (λ r. r) b (slice_get hides_old.blocks b) (slice_get hides_new.blocks b)
hides_places zero = record {
  middle = all_seen;
  pieces = (Kept (copy_in 1 10 s32) (copy_in 1 10 s32), all_seen) ∷ (Changed [] (copy_in 1 11 s32 ∷ []), one_hidden) ∷ (Kept (copy_in 0 10 s32) (copy_in 0 10 s32), all_seen) ∷ (Kept (copy_out 10 1) (copy_out 10 1), all_seen) ∷ (Kept (return_10) (return_10), all_seen) ∷ [];
  successors = refl;
  splits = refl;
  new_splits = refl;
  phis = λ w is_world. no_phis_follow hides_old hides_new 0 all_seen w;
  body = λ w is_world. (record { kept = kept_reused (λ r. r) ((copy_in 1 10 s32).1) ((copy_in 1 10 s32).1) refl; seen = seen_by (setting_of 32 names hides_old) (setting_of 32 names hides_new) nothing (λ r. r) ((copy_in 1 10 s32).1.operands) refl; holds = λ state reached. alone_holds (λ r. r) state ((copy_in 1 10 s32).1.operands) refl; hides = tt; leaves = λ c h. absurd (false≢true h) }, (hides_1 hides_old hides_new (λ b. all_seen) w 0 (copy_in 1 10 s32 ∷ []) all_seen all_seen_so (λ state. refl), (record { kept = kept_reused (λ r. r) ((copy_in 0 10 s32).1) ((copy_in 0 10 s32).1) refl; seen = seen_by (setting_of 32 names hides_old) (setting_of 32 names hides_new) (only 1) (λ r. r) ((copy_in 0 10 s32).1.operands) refl; holds = λ state reached. alone_holds (λ r. r) state ((copy_in 0 10 s32).1.operands) refl; hides = tt; leaves = λ c h. absurd (false≢true h) }, (record { kept = kept_reused (λ r. r) ((copy_out 10 1).1) ((copy_out 10 1).1) refl; seen = seen_by (setting_of 32 names hides_old) (setting_of 32 names hides_new) nothing (λ r. r) ((copy_out 10 1).1.operands) refl; holds = λ state reached. alone_holds (λ r. r) state ((copy_out 10 1).1.operands) refl; hides = tt; leaves = λ c h. absurd (false≢true h) }, (record { kept = kept_reused (λ r. r) ((return_10).1) ((return_10).1) refl; seen = seen_by (setting_of 32 names hides_old) (setting_of 32 names hides_new) nothing (λ r. r) ((return_10).1.operands) refl; holds = λ state reached. alone_holds (λ r. r) state ((return_10).1.operands) refl; hides = tt; leaves = λ c h. absurd (false≢true h) }, tt)))));
  falls = λ among. absurd (false≢true among);
}
hides_places (suc b) = tt

hides_not_idle : IsPieceNotIdle StayHides
hides_not_idle = record {
  old = hides_old;
  new = hides_new;
  owes = record { entries = (λ b. all_seen); rename = (λ r. r); places = hides_places };
  refuted = refutes 32 names hides_old hides_new (world 1 2) (is_world_of 1 2 (lit< tt) (lit< tt)) 4 (Returned (1 ∷ []) counting 0) (Returned (2 ∷ []) counting 0) refl refl (λ e. eqb-false 2 1 refl (returned_is 2 1 e)) (λ e. false≢true (ap is_return e));
}

-- ══ A branch goes to a block at whose entry less is hidden ══

abbrev leaves_old : FunctionData
leaves_old = function_of (block_of (2 ∷ []) (copy_in 1 10 s32 ∷ branch_2 ∷ []) ∷ block_of ([]) (return_10 ∷ []) ∷ block_of ([]) (copy_out 10 1 ∷ return_10 ∷ []) ∷ [])

abbrev leaves_new : FunctionData
leaves_new = function_of (block_of (2 ∷ []) (copy_in 1 10 s32 ∷ copy_in 1 11 s32 ∷ branch_2 ∷ []) ∷ block_of ([]) (return_10 ∷ []) ∷ block_of ([]) (copy_out 10 1 ∷ return_10 ∷ []) ∷ [])

leaves_places : (b : ℕ) → BlockButAt (Some StayLeaves) 32 leaves_old leaves_new (λ b. all_seen) (λ r. r) b (slice_get leaves_old.blocks b) (slice_get leaves_new.blocks b)
leaves_places zero = record {
  middle = all_seen;
  pieces = (Kept (copy_in 1 10 s32) (copy_in 1 10 s32), all_seen) ∷ (Changed [] (copy_in 1 11 s32 ∷ []), one_hidden) ∷ (Kept (branch_2) (branch_2), one_hidden) ∷ [];
  successors = refl;
  splits = refl;
  new_splits = refl;
  phis = λ w is_world. no_phis_follow leaves_old leaves_new 0 all_seen w;
  body = λ w is_world. (record { kept = kept_reused (λ r. r) ((copy_in 1 10 s32).1) ((copy_in 1 10 s32).1) refl; seen = seen_by (setting_of 32 names leaves_old) (setting_of 32 names leaves_new) nothing (λ r. r) ((copy_in 1 10 s32).1.operands) refl; holds = λ state reached. alone_holds (λ r. r) state ((copy_in 1 10 s32).1.operands) refl; hides = hides_so all_seen (written_places (meaning_of (copy_in 1 10 s32).1.flags (copy_in 1 10 s32).1.op) ((copy_in 1 10 s32).1.operands)); leaves = tt }, (hides_1 leaves_old leaves_new (λ b. all_seen) w 0 (copy_in 1 10 s32 ∷ []) all_seen all_seen_so (λ state. refl), (record { kept = kept_reused (λ r. r) ((branch_2).1) ((branch_2).1) refl; seen = seen_by (setting_of 32 names leaves_old) (setting_of 32 names leaves_new) (only 1) (λ r. r) ((branch_2).1.operands) refl; holds = λ state reached. alone_holds (λ r. r) state ((branch_2).1.operands) refl; hides = hides_so one_hidden (written_places (meaning_of (branch_2).1.flags (branch_2).1.op) ((branch_2).1.operands)); leaves = tt }, tt)));
  falls = λ among. absurd (false≢true among);
}
leaves_places (suc zero) = record {
  middle = all_seen;
  pieces = (Kept (return_10) (return_10), all_seen) ∷ [];
  successors = refl;
  splits = refl;
  new_splits = refl;
  phis = λ w is_world. no_phis_follow leaves_old leaves_new 1 all_seen w;
  body = λ w is_world. (record { kept = kept_reused (λ r. r) ((return_10).1) ((return_10).1) refl; seen = seen_by (setting_of 32 names leaves_old) (setting_of 32 names leaves_new) nothing (λ r. r) ((return_10).1.operands) refl; holds = λ state reached. alone_holds (λ r. r) state ((return_10).1.operands) refl; hides = hides_so all_seen (written_places (meaning_of (return_10).1.flags (return_10).1.op) ((return_10).1.operands)); leaves = tt }, tt);
  falls = λ among. absurd (false≢true among);
}
leaves_places (suc (suc zero)) = record {
  middle = all_seen;
  pieces = (Kept (copy_out 10 1) (copy_out 10 1), all_seen) ∷ (Kept (return_10) (return_10), all_seen) ∷ [];
  successors = refl;
  splits = refl;
  new_splits = refl;
  phis = λ w is_world. no_phis_follow leaves_old leaves_new 2 all_seen w;
  body = λ w is_world. (record { kept = kept_reused (λ r. r) ((copy_out 10 1).1) ((copy_out 10 1).1) refl; seen = seen_by (setting_of 32 names leaves_old) (setting_of 32 names leaves_new) nothing (λ r. r) ((copy_out 10 1).1.operands) refl; holds = λ state reached. alone_holds (λ r. r) state ((copy_out 10 1).1.operands) refl; hides = hides_so all_seen (written_places (meaning_of (copy_out 10 1).1.flags (copy_out 10 1).1.op) ((copy_out 10 1).1.operands)); leaves = tt }, (record { kept = kept_reused (λ r. r) ((return_10).1) ((return_10).1) refl; seen = seen_by (setting_of 32 names leaves_old) (setting_of 32 names leaves_new) nothing (λ r. r) ((return_10).1.operands) refl; holds = λ state reached. alone_holds (λ r. r) state ((return_10).1.operands) refl; hides = hides_so all_seen (written_places (meaning_of (return_10).1.flags (return_10).1.op) ((return_10).1.operands)); leaves = tt }, tt));
  falls = λ among. absurd (false≢true among);
}
leaves_places (suc (suc (suc b))) = tt

leaves_not_idle : IsPieceNotIdle StayLeaves
leaves_not_idle = record {
  old = leaves_old;
  new = leaves_new;
  owes = record { entries = (λ b. all_seen); rename = (λ r. r); places = leaves_places };
  refuted = refutes 32 names leaves_old leaves_new (world 1 2) (is_world_of 1 2 (lit< tt) (lit< tt)) 4 (Returned (1 ∷ []) counting 0) (Returned (2 ∷ []) counting 0) refl refl (λ e. eqb-false 2 1 refl (returned_is 2 1 e)) (λ e. false≢true (ap is_return e));
}

-- ══ A changed piece does something else ══

changed_places : (b : ℕ) → BlockButAt (Some PieceChanged) 32 returns_alone returns_other (λ b. all_seen) (λ r. r) b (slice_get returns_alone.blocks b) (slice_get returns_other.blocks b)
changed_places zero = record {
  middle = all_seen;
  pieces = (Changed [] (other_word ∷ []), all_seen) ∷ (Kept (return_10) (return_10), all_seen) ∷ [];
  successors = refl;
  splits = refl;
  new_splits = refl;
  phis = λ w is_world. no_phis_follow returns_alone returns_other 0 all_seen w;
  body = λ w is_world. (tt, (record { kept = kept_reused (λ r. r) ((return_10).1) ((return_10).1) refl; seen = seen_by (setting_of 32 names returns_alone) (setting_of 32 names returns_other) nothing (λ r. r) ((return_10).1.operands) refl; holds = λ state reached. alone_holds (λ r. r) state ((return_10).1.operands) refl; hides = hides_so all_seen (written_places (meaning_of (return_10).1.flags (return_10).1.op) ((return_10).1.operands)); leaves = λ c h. absurd (false≢true h) }, tt));
  falls = λ among. absurd (false≢true among);
}
changed_places (suc b) = tt

changed_not_idle : IsPieceNotIdle PieceChanged
changed_not_idle = record {
  old = returns_alone;
  new = returns_other;
  owes = record { entries = (λ b. all_seen); rename = (λ r. r); places = changed_places };
  refuted = refutes 32 names returns_alone returns_other (world 1 2) (is_world_of 1 2 (lit< tt) (lit< tt)) 4 (Returned (1 ∷ []) counting 0) (Returned (2 ∷ []) counting 0) refl refl (λ e. eqb-false 2 1 refl (returned_is 2 1 e)) (λ e. false≢true (ap is_return e));
}

-- ══ A phi takes another register ══

phis_places : (b : ℕ) → BlockButAt (Some PhisFollowing) 32 phi_takes_0 phi_takes_1 (λ b. all_seen) (λ r. r) b (slice_get phi_takes_0.blocks b) (slice_get phi_takes_1.blocks b)
phis_places zero = record {
  middle = all_seen;
  pieces = (Kept (copy_in 0 10 s32) (copy_in 0 10 s32), all_seen) ∷ (Kept (copy_in 1 11 s32) (copy_in 1 11 s32), all_seen) ∷ [];
  successors = refl;
  splits = refl;
  new_splits = refl;
  phis = tt;
  body = λ w is_world. (record { kept = kept_reused (λ r. r) ((copy_in 0 10 s32).1) ((copy_in 0 10 s32).1) refl; seen = seen_by (setting_of 32 names phi_takes_0) (setting_of 32 names phi_takes_1) nothing (λ r. r) ((copy_in 0 10 s32).1.operands) refl; holds = λ state reached. alone_holds (λ r. r) state ((copy_in 0 10 s32).1.operands) refl; hides = hides_so all_seen (written_places (meaning_of (copy_in 0 10 s32).1.flags (copy_in 0 10 s32).1.op) ((copy_in 0 10 s32).1.operands)); leaves = λ c h. absurd (false≢true h) }, (record { kept = kept_reused (λ r. r) ((copy_in 1 11 s32).1) ((copy_in 1 11 s32).1) refl; seen = seen_by (setting_of 32 names phi_takes_0) (setting_of 32 names phi_takes_1) nothing (λ r. r) ((copy_in 1 11 s32).1.operands) refl; holds = λ state reached. alone_holds (λ r. r) state ((copy_in 1 11 s32).1.operands) refl; hides = hides_so all_seen (written_places (meaning_of (copy_in 1 11 s32).1.flags (copy_in 1 11 s32).1.op) ((copy_in 1 11 s32).1.operands)); leaves = λ c h. absurd (false≢true h) }, tt));
  falls = λ among. covers_so all_seen;
}
phis_places (suc zero) = record {
  middle = all_seen;
  pieces = (Kept (copy_out 10 2) (copy_out 10 2), all_seen) ∷ (Kept (return_10) (return_10), all_seen) ∷ [];
  successors = refl;
  splits = refl;
  new_splits = refl;
  phis = tt;
  body = λ w is_world. (record { kept = kept_reused (λ r. r) ((copy_out 10 2).1) ((copy_out 10 2).1) refl; seen = seen_by (setting_of 32 names phi_takes_0) (setting_of 32 names phi_takes_1) nothing (λ r. r) ((copy_out 10 2).1.operands) refl; holds = λ state reached. alone_holds (λ r. r) state ((copy_out 10 2).1.operands) refl; hides = hides_so all_seen (written_places (meaning_of (copy_out 10 2).1.flags (copy_out 10 2).1.op) ((copy_out 10 2).1.operands)); leaves = λ c h. absurd (false≢true h) }, (record { kept = kept_reused (λ r. r) ((return_10).1) ((return_10).1) refl; seen = seen_by (setting_of 32 names phi_takes_0) (setting_of 32 names phi_takes_1) nothing (λ r. r) ((return_10).1.operands) refl; holds = λ state reached. alone_holds (λ r. r) state ((return_10).1.operands) refl; hides = hides_so all_seen (written_places (meaning_of (return_10).1.flags (return_10).1.op) ((return_10).1.operands)); leaves = λ c h. absurd (false≢true h) }, tt));
  falls = λ among. absurd (false≢true among);
}
phis_places (suc (suc b)) = tt

phis_not_idle : IsPieceNotIdle PhisFollowing
phis_not_idle = record {
  old = phi_takes_0;
  new = phi_takes_1;
  owes = record { entries = (λ b. all_seen); rename = (λ r. r); places = phis_places };
  refuted = refutes 32 names phi_takes_0 phi_takes_1 (world 1 2) (is_world_of 1 2 (lit< tt) (lit< tt)) 4 (Returned (1 ∷ []) counting 0) (Returned (2 ∷ []) counting 0) refl refl (λ e. eqb-false 2 1 refl (returned_is 2 1 e)) (λ e. false≢true (ap is_return e));
}

-- ══ The next block is entered where less is hidden ══

abbrev falls_old : FunctionData
falls_old = function_of (block_of (1 ∷ []) (copy_in 1 10 s32 ∷ []) ∷ block_of ([]) (copy_out 10 1 ∷ return_10 ∷ []) ∷ [])

abbrev falls_new : FunctionData
falls_new = function_of (block_of (1 ∷ []) (copy_in 1 10 s32 ∷ copy_in 1 11 s32 ∷ []) ∷ block_of ([]) (copy_out 10 1 ∷ return_10 ∷ []) ∷ [])

falls_places : (b : ℕ) → BlockButAt (Some BlockFalls) 32 falls_old falls_new (λ b. all_seen) (λ r. r) b (slice_get falls_old.blocks b) (slice_get falls_new.blocks b)
falls_places zero = record {
  middle = all_seen;
  pieces = (Kept (copy_in 1 10 s32) (copy_in 1 10 s32), all_seen) ∷ (Changed [] (copy_in 1 11 s32 ∷ []), one_hidden) ∷ [];
  successors = refl;
  splits = refl;
  new_splits = refl;
  phis = λ w is_world. no_phis_follow falls_old falls_new 0 all_seen w;
  body = λ w is_world. (record { kept = kept_reused (λ r. r) ((copy_in 1 10 s32).1) ((copy_in 1 10 s32).1) refl; seen = seen_by (setting_of 32 names falls_old) (setting_of 32 names falls_new) nothing (λ r. r) ((copy_in 1 10 s32).1.operands) refl; holds = λ state reached. alone_holds (λ r. r) state ((copy_in 1 10 s32).1.operands) refl; hides = hides_so all_seen (written_places (meaning_of (copy_in 1 10 s32).1.flags (copy_in 1 10 s32).1.op) ((copy_in 1 10 s32).1.operands)); leaves = λ c h. absurd (false≢true h) }, (hides_1 falls_old falls_new (λ b. all_seen) w 0 (copy_in 1 10 s32 ∷ []) all_seen all_seen_so (λ state. refl), tt));
  falls = tt;
}
falls_places (suc zero) = record {
  middle = all_seen;
  pieces = (Kept (copy_out 10 1) (copy_out 10 1), all_seen) ∷ (Kept (return_10) (return_10), all_seen) ∷ [];
  successors = refl;
  splits = refl;
  new_splits = refl;
  phis = λ w is_world. no_phis_follow falls_old falls_new 1 all_seen w;
  body = λ w is_world. (record { kept = kept_reused (λ r. r) ((copy_out 10 1).1) ((copy_out 10 1).1) refl; seen = seen_by (setting_of 32 names falls_old) (setting_of 32 names falls_new) nothing (λ r. r) ((copy_out 10 1).1.operands) refl; holds = λ state reached. alone_holds (λ r. r) state ((copy_out 10 1).1.operands) refl; hides = hides_so all_seen (written_places (meaning_of (copy_out 10 1).1.flags (copy_out 10 1).1.op) ((copy_out 10 1).1.operands)); leaves = λ c h. absurd (false≢true h) }, (record { kept = kept_reused (λ r. r) ((return_10).1) ((return_10).1) refl; seen = seen_by (setting_of 32 names falls_old) (setting_of 32 names falls_new) nothing (λ r. r) ((return_10).1.operands) refl; holds = λ state reached. alone_holds (λ r. r) state ((return_10).1.operands) refl; hides = hides_so all_seen (written_places (meaning_of (return_10).1.flags (return_10).1.op) ((return_10).1.operands)); leaves = λ c h. absurd (false≢true h) }, tt));
  falls = tt;
}
falls_places (suc (suc b)) = tt

falls_not_idle : IsPieceNotIdle BlockFalls
falls_not_idle = record {
  old = falls_old;
  new = falls_new;
  owes = record { entries = (λ b. all_seen); rename = (λ r. r); places = falls_places };
  refuted = refutes 32 names falls_old falls_new (world 1 2) (is_world_of 1 2 (lit< tt) (lit< tt)) 4 (Returned (1 ∷ []) counting 0) (Returned (2 ∷ []) counting 0) refl refl (λ e. eqb-false 2 1 refl (returned_is 2 1 e)) (λ e. false≢true (ap is_return e));
}

-- ══ A block has lost its successor ══

successors_places : (b : ℕ) → BlockButAt (Some BlockSuccessors) 32 goes_on stays_there (λ b. all_seen) (λ r. r) b (slice_get goes_on.blocks b) (slice_get stays_there.blocks b)
successors_places zero = record {
  middle = all_seen;
  pieces = (Kept (copy_in 0 10 s32) (copy_in 0 10 s32), all_seen) ∷ [];
  successors = tt;
  splits = refl;
  new_splits = refl;
  phis = λ w is_world. no_phis_follow goes_on stays_there 0 all_seen w;
  body = λ w is_world. (record { kept = kept_reused (λ r. r) ((copy_in 0 10 s32).1) ((copy_in 0 10 s32).1) refl; seen = seen_by (setting_of 32 names goes_on) (setting_of 32 names stays_there) nothing (λ r. r) ((copy_in 0 10 s32).1.operands) refl; holds = λ state reached. alone_holds (λ r. r) state ((copy_in 0 10 s32).1.operands) refl; hides = hides_so all_seen (written_places (meaning_of (copy_in 0 10 s32).1.flags (copy_in 0 10 s32).1.op) ((copy_in 0 10 s32).1.operands)); leaves = λ c h. absurd (false≢true h) }, tt);
  falls = λ among. covers_so all_seen;
}
successors_places (suc zero) = record {
  middle = all_seen;
  pieces = (Kept (copy_out 10 0) (copy_out 10 0), all_seen) ∷ (Kept (return_10) (return_10), all_seen) ∷ [];
  successors = tt;
  splits = refl;
  new_splits = refl;
  phis = λ w is_world. no_phis_follow goes_on stays_there 1 all_seen w;
  body = λ w is_world. (record { kept = kept_reused (λ r. r) ((copy_out 10 0).1) ((copy_out 10 0).1) refl; seen = seen_by (setting_of 32 names goes_on) (setting_of 32 names stays_there) nothing (λ r. r) ((copy_out 10 0).1.operands) refl; holds = λ state reached. alone_holds (λ r. r) state ((copy_out 10 0).1.operands) refl; hides = hides_so all_seen (written_places (meaning_of (copy_out 10 0).1.flags (copy_out 10 0).1.op) ((copy_out 10 0).1.operands)); leaves = λ c h. absurd (false≢true h) }, (record { kept = kept_reused (λ r. r) ((return_10).1) ((return_10).1) refl; seen = seen_by (setting_of 32 names goes_on) (setting_of 32 names stays_there) nothing (λ r. r) ((return_10).1.operands) refl; holds = λ state reached. alone_holds (λ r. r) state ((return_10).1.operands) refl; hides = hides_so all_seen (written_places (meaning_of (return_10).1.flags (return_10).1.op) ((return_10).1.operands)); leaves = λ c h. absurd (false≢true h) }, tt));
  falls = λ among. absurd (false≢true among);
}
successors_places (suc (suc b)) = tt

successors_not_idle : IsPieceNotIdle BlockSuccessors
successors_not_idle = record {
  old = goes_on;
  new = stays_there;
  owes = record { entries = (λ b. all_seen); rename = (λ r. r); places = successors_places };
  refuted = refutes 32 names goes_on stays_there (world 1 2) (is_world_of 1 2 (lit< tt) (lit< tt)) 4 (Returned (1 ∷ []) counting 0) Undefined refl refl (λ e. false≢true (ap is_return e)) (λ e. false≢true (ap is_return e));
}

pub no_piece_idle : (dropped : PiecePremise) → IsPieceNotIdle dropped
no_piece_idle StayKept = kept_not_idle
no_piece_idle StaySeen = seen_not_idle
no_piece_idle StayHeld = held_not_idle
no_piece_idle StayHides = hides_not_idle
no_piece_idle StayLeaves = leaves_not_idle
no_piece_idle PieceChanged = changed_not_idle
no_piece_idle PhisFollowing = phis_not_idle
no_piece_idle BlockFalls = falls_not_idle
no_piece_idle BlockSuccessors = successors_not_idle
