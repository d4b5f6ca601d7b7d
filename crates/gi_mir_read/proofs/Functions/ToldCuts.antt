-- The lines that say something are cut into blocks.
use Rattle.std.proofs.Common.{◌≡◌, ℕ, Bool, cond, List, [], ◌∷◌, refl, ap, ◌∙◌}
use Rattle.std.specs.Prelude.{All, not, is_some}
use Rattle.std.proofs.lemmas.List.Elements.{All-head, All-tail, All-weaker}
use Rattle.gi_llt.specs.Tokens.{run_of, past_run}
use Rattle.gi_spelling.specs.Blocks.{is_block_head}
use Rattle.gi_mir_read.specs.declared.function.told.Told.{Told}
use Rattle.gi_mir_read.specs.Functions.Blocked.{IsCutAtBlock, IsToldIn, begins_block, blocks_of, told_at, told_lines_at}
use Rattle.gi_mir_read.proofs.Texts.SectionCuts.{passes, front_is, past_is, past_headed}

run_of-agree : {X : Type 0} (p q : X → Bool) (xs : List X) → All (λ x. p x ≡ q x) xs → run_of p xs ≡ run_of q xs
run_of-agree p q [] all = refl
run_of-agree p q (x ∷ xs) all = chosen (p x) (q x) (All-head (λ y. p y ≡ q y) x xs all) (run_of-agree p q xs (All-tail (λ y. p y ≡ q y) x xs all))
  where
    chosen : (a b : Bool) → a ≡ b → run_of p xs ≡ run_of q xs → cond a (x ∷ run_of p xs) [] ≡ cond b (x ∷ run_of q xs) []
    chosen a b e more = cc

past_run-agree : {X : Type 0} (p q : X → Bool) (xs : List X) → All (λ x. p x ≡ q x) xs → past_run p xs ≡ past_run q xs
past_run-agree p q [] all = refl
past_run-agree p q (x ∷ xs) all = chosen (p x) (q x) (All-head (λ y. p y ≡ q y) x xs all) (past_run-agree p q xs (All-tail (λ y. p y ≡ q y) x xs all))
  where
    chosen : (a b : Bool) → a ≡ b → past_run p xs ≡ past_run q xs → cond a (past_run p xs) (x ∷ xs) ≡ cond b (past_run q xs) (x ∷ xs)
    chosen a b e more = cc

abbrev pub unheaded : Told → Bool
unheaded told = not (begins_block told)

module _ (text : List ℕ) where
  abbrev begins_none : Told → Bool
  begins_none = passes (is_block_head text) (told_at text)

  agrees : (told : List Told) → All (IsToldIn text) told → All (λ t. unheaded t ≡ begins_none t) told
  agrees told all = All-weaker (IsToldIn text) (λ t. unheaded t ≡ begins_none t) (λ t is. ap (λ head. not (is_some head)) is.head) told all

  pub cut_at : (told before after : List Told) → All (IsToldIn text) told → before ≡ run_of unheaded told → after ≡ past_run unheaded told
      → All (IsToldIn text) before → All (IsToldIn text) after → IsCutAtBlock text told before after
  cut_at told before after all front back front_all back_all =
      let front' : before ≡ run_of begins_none told = front ∙ run_of-agree unheaded begins_none told (agrees told all) in
      let back' : after ≡ past_run begins_none told = back ∙ past_run-agree unheaded begins_none told (agrees told all) in
      record {
        front = ap (told_lines_at text) front' ∙ front_is (is_block_head text) (told_at text) told;
        back = ap (λ lines. (blocks_of text lines).sections) back' ∙ past_is (is_block_head text) (told_at text) told;
        headed = ap (λ lines. (blocks_of text lines).before) back' ∙ past_headed (is_block_head text) (told_at text) told;
        front_within = front_all;
        back_within = back_all;
      }
