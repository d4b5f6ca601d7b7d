-- What a rewriting leaves of the blocks, and of tests of instructions.
use Rattle.std.proofs.Common.{◌≡◌, ℕ, zero, suc, ◌+◌, Bool, true, false, cond, not, ◌&&◌, ◌||◌, ◌==◌, List, [], ◌∷◌, ◌++◌, map, length, inl, inr, refl, sym, ap, ap₂, ◌∙◌}
use Rattle.std.proofs.lemmas.Bool.{or_parts, and_parts, not-true}
use Rattle.std.proofs.lemmas.List.Folds.{list_any-append, list_all-append}
use Rattle.std.specs.List.{list_any, list_all}
use Rattle.gi_mir.specs.Data.{InstrData, BlockData, FunctionData}
use Rattle.gi_mir.specs.Places.{body_at}
use Rattle.gi_mir.specs.Row.{is_terminator_op}
use Rattle.gi_mir.specs.declared.operand.Operand.{Operand}
use Rattle.gi_mir.specs.declared.operand.Operand.TheVariants as operand
use Rattle.gi_meaning.specs.Runs.{is_phi, is_among}
use Rattle.gi_replace.specs.InPlace.{entry_renamed}
use Rattle.gi_valid.specs.Available.{successors_of, naming, predecessors}
use Rattle.gi_valid.specs.Faults.{blocks_in}
use Rattle.gi_change_valid.specs.Conditions.{is_plain_operand, is_plain, ArePlain}
use Rattle.gi_change_valid.specs.Rewriting.{Rewriting, standing_for, rewritten, block_rewritten, IsOneOf, IsRewritten}

-- ══ Blocks ══

length_mapped : (w : Rewriting) (blocks : List BlockData) → length (map (block_rewritten w) blocks) ≡ length blocks
length_mapped w [] = refl
length_mapped w (k ∷ blocks) = ap suc (length_mapped w blocks)

pub as_many_blocks : (w : Rewriting) (f g : FunctionData) → IsRewritten w f g → length g.blocks ≡ length f.blocks
as_many_blocks w f g is = ap length is.blocks ∙ length_mapped w f.blocks

same_body : (w : Rewriting) (blocks : List BlockData) (b : ℕ) → body_at (map (block_rewritten w) blocks) b ≡ block_rewritten w (body_at blocks b)
same_body w [] b = refl
same_body w (k ∷ blocks) zero = refl
same_body w (k ∷ blocks) (suc b) = same_body w blocks b

pub body_after : (w : Rewriting) (f g : FunctionData) → IsRewritten w f g → (b : ℕ) → body_at g.blocks b ≡ block_rewritten w (body_at f.blocks b)
body_after w f g is b = ap (λ l. body_at l b) is.blocks ∙ same_body w f.blocks b

pub same_successors : (w : Rewriting) (f g : FunctionData) → IsRewritten w f g → (b : ℕ) → successors_of g b ≡ successors_of f b
same_successors w f g is b = ap (λ (k : BlockData). k.successors) (body_after w f g is b)

same_naming : (w : Rewriting) (b place : ℕ) (blocks : List BlockData) → naming b place (map (block_rewritten w) blocks) ≡ naming b place blocks
same_naming w b place [] = refl
same_naming w b place (k ∷ blocks) = ap (λ l. cond (is_among b k.successors) (place ∷ l) l) (same_naming w b (place + 1) blocks)

pub same_predecessors : (w : Rewriting) (f g : FunctionData) → IsRewritten w f g → (b : ℕ) → predecessors g b ≡ predecessors f b
same_predecessors w f g is b = ap (naming b 0) is.blocks ∙ same_naming w b 0 f.blocks

-- ══ Tests ══

-- the root is the one with its id among these
abbrev pub IsOwn : Rewriting → List (ℕ × InstrData) → Type 0
IsOwn w is = (p : ℕ × InstrData) → IsOneOf p is → (p.0 == w.root.0) ≡ true → p ≡ w.root

pub own_later : (w : Rewriting) (p : ℕ × InstrData) (is : List (ℕ × InstrData)) → IsOwn w (p ∷ is) → IsOwn w is
own_later w p is own q there same = own q (inr there) same

-- a test that fails on the root and on what is made, and looks at no use
pub record IsIdle (w : Rewriting) (test : ℕ × InstrData → Bool) : Type 0 where
  pub renamed : (p : ℕ × InstrData) → test (entry_renamed w.rename p) ≡ test p
  pub root : test w.root ≡ false
  pub made : list_any test w.made ≡ false

pub any_rewritten : (w : Rewriting) (test : ℕ × InstrData → Bool) → IsIdle w test → (is : List (ℕ × InstrData)) → IsOwn w is → list_any test (rewritten w is) ≡ list_any test is
any_rewritten w test idle [] own = refl
any_rewritten w test idle (p ∷ is) own =
    list_any-append test (standing_for w p) (rewritten w is) ∙ ap₂ (λ a b. a || b) (by (p.0 == w.root.0) refl) (any_rewritten w test idle is (own_later w p is own))
  where
    alone : (t : Bool) → (t || false) ≡ t
    alone true = refl
    alone false = refl

    by : (t : Bool) → (p.0 == w.root.0) ≡ t → list_any test (cond (p.0 == w.root.0) w.made (entry_renamed w.rename p ∷ [])) ≡ test p
    by true so = ap (λ t. list_any test (cond t w.made (entry_renamed w.rename p ∷ []))) so ∙ idle.made ∙ sym idle.root ∙ ap test (sym (own p (inl refl) so))
    by false so = ap (λ t. list_any test (cond t w.made (entry_renamed w.rename p ∷ []))) so ∙ alone (test (entry_renamed w.rename p)) ∙ idle.renamed p

pub any_earlier : (test : ℕ × InstrData → Bool) (made earlier : List (ℕ × InstrData)) (i : ℕ × InstrData) (later : List (ℕ × InstrData)) → made ≡ earlier ++ i ∷ later → list_any test made ≡ false
    → (list_any test earlier ≡ false) × (test i ≡ false) × (list_any test later ≡ false)
any_earlier test made earlier i later splits none =
    let all : (list_any test earlier || list_any test (i ∷ later)) ≡ false = sym (ap (list_any test) splits ∙ list_any-append test earlier (i ∷ later)) ∙ none in
    let both : (list_any test earlier ≡ false) × (list_any test (i ∷ later) ≡ false) = or_parts (list_any test earlier) (list_any test (i ∷ later)) all in
    let rest : (test i ≡ false) × (list_any test later ≡ false) = or_parts (test i) (list_any test later) both.1 in (both.0, rest.0, rest.1)

pub all_earlier : (test : ℕ × InstrData → Bool) (made earlier : List (ℕ × InstrData)) (i : ℕ × InstrData) (later : List (ℕ × InstrData)) → made ≡ earlier ++ i ∷ later → list_all test made ≡ true → test i ≡ true
all_earlier test made earlier i later splits all =
    let both : (list_all test earlier && list_all test (i ∷ later)) ≡ true = sym (ap (list_all test) splits ∙ list_all-append test earlier (i ∷ later)) ∙ all in
    (and_parts (test i) (list_all test later) (and_parts (list_all test earlier) (list_all test (i ∷ later)) both).1).0

pub all_before : (test : ℕ × InstrData → Bool) (made earlier rest : List (ℕ × InstrData)) → made ≡ earlier ++ rest → list_all test made ≡ true → list_all test earlier ≡ true
all_before test made earlier rest splits all = (and_parts (list_all test earlier) (list_all test rest) (sym (ap (list_all test) splits ∙ list_all-append test earlier rest) ∙ all)).0

-- ══ Plain instructions ══

pub record Plain (i : InstrData) : Type 0 where
  pub no_phi : is_phi i ≡ false
  pub no_end : is_terminator_op i.op ≡ false
  pub operands : list_all is_plain_operand i.operands ≡ true

pub plain : (i : InstrData) → is_plain i ≡ true → Plain i
plain i h =
    let first : ((not (is_phi i) && not (is_terminator_op i.op)) ≡ true) × (list_all is_plain_operand i.operands ≡ true) = and_parts (not (is_phi i) && not (is_terminator_op i.op)) (list_all is_plain_operand i.operands) h in
    let second : (not (is_phi i) ≡ true) × (not (is_terminator_op i.op) ≡ true) = and_parts (not (is_phi i)) (not (is_terminator_op i.op)) first.0 in
    record { no_phi = not-true (is_phi i) second.0; no_end = not-true (is_terminator_op i.op) second.1; operands = first.1 }

pub made_plain : (w : Rewriting) → ArePlain w → (earlier : List (ℕ × InstrData)) (i : ℕ × InstrData) (later : List (ℕ × InstrData)) → w.made ≡ earlier ++ i ∷ later → Plain i.1
made_plain w are earlier i later splits = plain i.1 (all_earlier (λ p. is_plain p.1) w.made earlier i later splits are.made)

-- what fails on each plain instruction fails on all that is made
pub none_made : (test : ℕ × InstrData → Bool) → ((p : ℕ × InstrData) → Plain p.1 → test p ≡ false) → (made : List (ℕ × InstrData)) → list_all (λ p. is_plain p.1) made ≡ true → list_any test made ≡ false
none_made test fails [] all = refl
none_made test fails (p ∷ made) all =
    let each : (is_plain p.1 ≡ true) × (list_all (λ q. is_plain q.1) made ≡ true) = and_parts (is_plain p.1) (list_all (λ q. is_plain q.1) made) all in
    ap₂ (λ a b. a || b) (fails p (plain p.1 each.0)) (none_made test fails made each.1)

pub idle : (w : Rewriting) → ArePlain w → (test : ℕ × InstrData → Bool) → ((p : ℕ × InstrData) → Plain p.1 → test p ≡ false) → ((p : ℕ × InstrData) → test (entry_renamed w.rename p) ≡ test p) → IsIdle w test
idle w are test fails same = record { renamed = same; root = fails w.root (plain w.root.1 are.root); made = none_made test fails w.made are.made }

pub no_blocks : (os : List Operand) → list_all is_plain_operand os ≡ true → blocks_in os ≡ []
no_blocks [] all = refl
no_blocks (operand.Block b ∷ os) all = cc
no_blocks (o ∷ os) all = no_blocks os (and_parts (is_plain_operand o) (list_all is_plain_operand os) all).1
