-- What the cases share in each of which one premise of rewriting is dropped.
use Rattle.std.proofs.Common.{◌≡◌, ℕ, ◌^◌, ◌<◌, Bool, true, false, ◌==◌, if◌then◌else◌, List, [], ◌∷◌, Some, None, refl, ap, lit<}
use Rattle.std.proofs.lemmas.Bool.{eqb-false}
use Rattle.std.proofs.Math.Nat.{mod-lt}
use Rattle.gi_mir.specs.Data.{InstrData, FunctionData, reg_of}
use Rattle.gi_mir.specs.declared.opcode.Opcode.TheVariants as op
use Rattle.gi_mir.specs.declared.operand.Kind.{Kind}
use Rattle.gi_mir.specs.declared.operand.Operand.TheVariants as operand
use Rattle.gi_meaning.specs.State.{World, IsWorld, State, Outcome, Returned, Virtual, put}
use Rattle.gi_meaning.specs.Runs.{Setting, setting_of, On}
use Rattle.gi_refine.specs.Agreement.{Agree, AgreeAt}
use Rattle.gi_refine.specs.Evaluation.{steps_of}
use Rattle.gi_refine.specs.Examples.{made, s32, use_of, return_of, names, counting, words_of_three, world_of, block_of, function_of, s16, copy_in, copy_out}
use Rattle.gi_refine.specs.OnePlace.{only_virtual}
use Rattle.gi_refine.specs.Reached.{WhereReached}
use Rattle.gi_refine.specs.Simulation.{IsFollowed}
use Rattle.gi_refine_cases.proofs.Inserting.{inserted_follows}
use Rattle.gi_refine.proofs.Reaching.{followed_within, nothing_followed}

-- ══ What many cases share ══

-- x10 and x11 hold these words
abbrev pub world : (a b : ℕ) → World
world a b = world_of a b 0 []

pub word_small : (a b n : ℕ) → a < 2 ^ 32 → b < 2 ^ 32 → words_of_three a b 0 n < 2 ^ 32
word_small a b n h l = either (n == 10) (n == 11) (n == 12)
  where
    either : (p q r : Bool) → (if p then a else if q then b else if r then 0 else 0) < 2 ^ 32
    either true q r = h
    either false true r = l
    either false false true = lit< tt
    either false false false = lit< tt

pub is_world_of : (a b : ℕ) → a < 2 ^ 32 → b < 2 ^ 32 → IsWorld 32 (world a b)
is_world_of a b h l = record {
  words = λ n. word_small a b n h l;
  memory = λ address. mod-lt address (lit< tt);
  global = λ name. lit< tt;
  reached = λ name wide. absurd (eqb-false 32 64 refl wide);
  stack = λ object. lit< tt;
  trace = tt;
}

pub returned_is : (a b : ℕ) → Returned (a ∷ []) counting 0 ≡ Returned (b ∷ []) counting 0 → a ≡ b
returned_is a b h = ap word_of h
  where
    word_of : Outcome → ℕ
    word_of (Returned (v ∷ vs) memory taken) = v
    word_of _ = 0

abbrev pub is_return : Outcome → Bool
is_return (Returned words memory taken) = true
is_return _ = false

-- the place where nothing is and nothing comes
pub unchanged : (f g : FunctionData) (b : ℕ) (before : List (ℕ × InstrData)) (hidden : ℕ → Bool) (w : World) → IsWorld 32 w
    → IsFollowed (setting_of 32 names f) (setting_of 32 names g) w (WhereReached (setting_of 32 names f) w f.blocks b before (Agree (setting_of 32 names f) (setting_of 32 names g) (only_virtual hidden)))
    (Agree (setting_of 32 names f) (setting_of 32 names g) (only_virtual hidden)) (AgreeAt (setting_of 32 names f) (setting_of 32 names g) (λ c. only_virtual hidden)) [] []
unchanged f g b before hidden w is_world =
    let s : Setting = setting_of 32 names f in
    let t : Setting = setting_of 32 names g in
    let at : State → State → Type 0 = WhereReached s w f.blocks b before (Agree s t (only_virtual hidden)) in
    followed_within s t w at at at (Agree s t (only_virtual hidden)) (AgreeAt s t (λ c. only_virtual hidden)) (AgreeAt s t (λ c. only_virtual hidden)) [] []
    (λ old new h. h) (λ old new h. h.relates) (λ c old new h. h) (nothing_followed s t w at (AgreeAt s t (λ c. only_virtual hidden)))

-- where nothing is, one instruction comes that writes what is hidden
pub hidden_written : (s : Setting) (g : FunctionData) (w : World) (before : State → State → Type 0) (hidden : ℕ → Bool) (exit : ℕ → State → State → Type 0) (i : ℕ × InstrData) (q : ℕ) (value : State → ℕ) → hidden q ≡ true
    → ((state : State) → steps_of (setting_of 32 names g) w (i ∷ []) state ≡ Some (On (put state (Virtual q) (value state))))
    → ((old new : State) → before old new → Agree s (setting_of 32 names g) (only_virtual hidden) old new)
    → IsFollowed s (setting_of 32 names g) w before (Agree s (setting_of 32 names g) (only_virtual hidden)) exit [] (i ∷ [])
hidden_written s g w before hidden exit i q value h steps agrees = inserted_follows s (setting_of 32 names g) w before hidden exit i q h (λ old new related. (value new, steps new)) agrees

-- ══ Instructions of the cases ══

-- 1 replaces 0
abbrev pub zero_by_one : ℕ → ℕ
zero_by_one r = if r == 0 then 1 else r

abbrev pub return_10 : ℕ × InstrData
return_10 = return_of 10

-- `$x10 = COPY $x11`
abbrev pub other_word : ℕ × InstrData
other_word = made op.Copy (operand.PhysDef 10 ∷ operand.Phys 11 ∷ []) None

-- `%1:s32 = G_ZEXT %0`
abbrev pub extended : ℕ × InstrData
extended = made op.GenericZeroExtend (operand.Def (reg_of 1) s32 ∷ use_of 0 ∷ []) None

-- `%d = PHI %r, bb.0`
abbrev pub phi_of : (d r : ℕ) → Kind → ℕ × InstrData
phi_of d r kind = made op.Phi (operand.Def (reg_of d) kind ∷ use_of r ∷ operand.Block 0 ∷ []) None

-- ══ Functions of several cases ══

abbrev pub gives_first : FunctionData
gives_first = function_of (block_of ([]) (copy_in 0 10 s32 ∷ copy_out 10 0 ∷ return_10 ∷ []) ∷ [])

abbrev pub gives_second : FunctionData
gives_second = function_of (block_of ([]) (copy_in 0 11 s32 ∷ copy_out 10 0 ∷ return_10 ∷ []) ∷ [])

abbrev pub gives_through_1 : FunctionData
gives_through_1 = function_of (block_of ([]) (copy_in 1 10 s32 ∷ copy_out 10 1 ∷ return_10 ∷ []) ∷ [])

abbrev pub overwrites_1 : FunctionData
overwrites_1 = function_of (block_of ([]) (copy_in 1 10 s32 ∷ copy_in 1 11 s32 ∷ copy_out 10 1 ∷ return_10 ∷ []) ∷ [])

abbrev pub gives_0_of_two : FunctionData
gives_0_of_two = function_of (block_of ([]) (copy_in 0 10 s32 ∷ copy_in 1 11 s32 ∷ copy_out 10 0 ∷ return_10 ∷ []) ∷ [])

abbrev pub gives_1_of_two : FunctionData
gives_1_of_two = function_of (block_of ([]) (copy_in 0 10 s32 ∷ copy_in 1 11 s32 ∷ copy_out 10 1 ∷ return_10 ∷ []) ∷ [])

abbrev pub returns_alone : FunctionData
returns_alone = function_of (block_of ([]) (return_10 ∷ []) ∷ [])

abbrev pub returns_other : FunctionData
returns_other = function_of (block_of ([]) (other_word ∷ return_10 ∷ []) ∷ [])

abbrev pub phi_takes_0 : FunctionData
phi_takes_0 = function_of (block_of (1 ∷ []) (copy_in 0 10 s32 ∷ copy_in 1 11 s32 ∷ []) ∷ block_of ([]) (phi_of 2 0 s32 ∷ copy_out 10 2 ∷ return_10 ∷ []) ∷ [])

abbrev pub phi_takes_1 : FunctionData
phi_takes_1 = function_of (block_of (1 ∷ []) (copy_in 0 10 s32 ∷ copy_in 1 11 s32 ∷ []) ∷ block_of ([]) (phi_of 2 1 s32 ∷ copy_out 10 2 ∷ return_10 ∷ []) ∷ [])

abbrev pub goes_on : FunctionData
goes_on = function_of (block_of (1 ∷ []) (copy_in 0 10 s32 ∷ []) ∷ block_of ([]) (copy_out 10 0 ∷ return_10 ∷ []) ∷ [])

abbrev pub stays_there : FunctionData
stays_there = function_of (block_of ([]) (copy_in 0 10 s32 ∷ []) ∷ block_of ([]) (copy_out 10 0 ∷ return_10 ∷ []) ∷ [])

abbrev pub extends_word : FunctionData
extends_word = function_of (block_of ([]) (copy_in 0 10 s32 ∷ extended ∷ copy_out 10 1 ∷ return_10 ∷ []) ∷ [])

abbrev pub extends_half : FunctionData
extends_half = function_of (block_of ([]) (copy_in 0 10 s16 ∷ extended ∷ copy_out 10 1 ∷ return_10 ∷ []) ∷ [])
