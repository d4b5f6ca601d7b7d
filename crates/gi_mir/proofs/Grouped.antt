-- Each word is found in its group.
use Rattle.std.proofs.Common.{◌≡◌, ℕ, ◌+◌, ◌-◌, ◌%◌, IfSome, Bool, true, false, cond, List, [], ◌∷◌, length, get_or, Option, Some, None, find, bytes_eq, slice_get, Decides, refl, sym, ap, subst, ◌∙◌}
use Rattle.std.proofs.lemmas.Slice.Eq.{bytes_eq-Decides}
use Rattle.std.proofs.lemmas.Option.{get_or_from_slice_get, same_Some}
use Rattle.gi_mir.specs.declared.opcode.Opcode.{Opcode}
use Rattle.gi_mir.specs.declared.opcode.Opcode.TheVariants.{Copy}
use Rattle.gi_mir.specs.Groups.{group_at}
use Rattle.gi_mir.specs.Row.{word_of, opcode_of, opcodes}
use Rattle.gi_mir.proofs.Words.{opcode_of-word_of}

-- the opcode among these that has this word
abbrev pub among : List Opcode → List ℕ → Option Opcode
among ops w = find (λ op. bytes_eq (word_of op) w) ops

-- the opcodes of a word's group
abbrev pub group : List ℕ → List Opcode
group w = group_at ((length w % 32 + get_or w (length w - 1) 0) % 32)

in_its_group : (op : Opcode) → among (group (word_of op)) (word_of op) ≡ Some op
unfolding group_at
in_its_group Copy = refl
in_its_group _ = refl

has_the_word : (ops : List Opcode) (w : List ℕ) (op : Opcode) → among ops w ≡ Some op → word_of op ≡ w
has_the_word [] w op h = cc
has_the_word (x ∷ ops) w op h = by (bytes_eq (word_of x) w) (bytes_eq-Decides (word_of x) w) h (has_the_word ops w op)
  where
    by : (b : Bool) → Decides b (word_of x ≡ w) → cond b (Some x) (among ops w) ≡ Some op → (among ops w ≡ Some op → word_of op ≡ w) → word_of op ≡ w
    by true d e more = subst (λ y. word_of y ≡ w) (same_Some _ _ e) (d.0 refl)
    by false d e more = more e

opcode_has_the_word : (w : List ℕ) (op : Opcode) → opcode_of w ≡ Some op → word_of op ≡ w
unfolding opcode_of
opcode_has_the_word w op h = has_the_word opcodes w op h

among_group : (w : List ℕ) → among (group w) w ≡ opcode_of w
among_group w = by (among (group w) w) (opcode_of w) refl refl
  where
    by : (a b : Option Opcode) → among (group w) w ≡ a → opcode_of w ≡ b → a ≡ b
    by (Some op) b e h = sym (opcode_of-word_of op) ∙ ap opcode_of (has_the_word (group w) w op e) ∙ h
    by None None e h = refl
    by None (Some op) e h = sym e ∙ subst (λ v. among (group v) v ≡ Some op) (opcode_has_the_word w op h) (in_its_group op)

-- the opcode of a word, by its last byte
pub among_at : (w : List ℕ) (last : ℕ) → Some last ≡ slice_get w (length w - 1) → among (group_at ((length w % 32 + last) % 32)) w ≡ opcode_of w
among_at w last read =
    let is : get_or w (length w - 1) 0 ≡ last = get_or_from_slice_get w (length w - 1) last 0 (sym read) in
    ap (λ l. among (group_at ((length w % 32 + l) % 32)) w) (sym is) ∙ among_group w

pub IfSome-opcode_of : (r : Option Opcode) (w : List ℕ) → r ≡ opcode_of w → IfSome r (λ op. word_of op ≡ w)
IfSome-opcode_of None w h = tt
IfSome-opcode_of (Some op) w h = opcode_has_the_word w op (sym h)
