-- The kind of a new register.
use Rattle.std.proofs.Common.{◌≡◌, ℕ, Bool, true, false, cond, ◌==◌, List, [], ◌∷◌, Option, Some, None, ⊎_elim, refl, sym, ap, ◌∙◌, true≢false, unwrap_or}
use Rattle.std.proofs.lemmas.Bool.{eq-eqb}
use Rattle.gi_mir.specs.Data.{InstrData, FunctionData}
use Rattle.gi_mir.specs.Edit.{all_instrs}
use Rattle.gi_mir.specs.Registers.{first_there, kind_in_operands, kind_in_instrs, kind_of}
use Rattle.gi_mir.specs.declared.operand.Kind.{Kind}
use Rattle.gi_mir.specs.declared.operand.Kind.TheVariants.{Class}
use Rattle.gi_replace.specs.InPlace.{entry_renamed}
use Rattle.gi_change_valid.specs.Rewriting.{Rewriting, IsOneOf, IsRewritten, rewritten, standing_for}
use Rattle.gi_change_valid.proofs.Listed.{instrs_after}
use Rattle.gi_change_valid.proofs.Typed.{kind_append, kind_in_all, kind_left}

-- the kind of a register that is made and that the function doesn't define
new_kind : (w : Rewriting) (n : ℕ) (kind : Kind) → kind_in_instrs n w.made ≡ Some kind → (is : List (ℕ × InstrData)) → kind_in_instrs n is ≡ None → IsOneOf w.root is → kind_in_instrs n (rewritten w is) ≡ Some kind
new_kind w n kind made [] none there = absurd there
new_kind w n kind made (p ∷ is) none there =
    kind_append n (standing_for w p) (rewritten w is) ∙ by (p.0 == w.root.0) refl (λ later. new_kind w n kind made is rest later)
  where
    none_both : (a b : Option Kind) → first_there a b ≡ None → (a ≡ None) × (b ≡ None)
    none_both None b h = (refl, h)
    none_both (Some k) b h = cc

    here : kind_in_operands n p.1.operands ≡ None
    here = (none_both (kind_in_operands n p.1.operands) (kind_in_instrs n is) none).0

    rest : kind_in_instrs n is ≡ None
    rest = (none_both (kind_in_operands n p.1.operands) (kind_in_instrs n is) none).1

    alone : (a : Option Kind) → first_there a None ≡ a
    alone None = refl
    alone (Some k) = refl

    by : (t : Bool) → (p.0 == w.root.0) ≡ t → (IsOneOf w.root is → kind_in_instrs n (rewritten w is) ≡ Some kind) → first_there (kind_in_instrs n (cond (p.0 == w.root.0) w.made (entry_renamed w.rename p ∷ []))) (kind_in_instrs n (rewritten w is)) ≡ Some kind
    by true so later = ap (λ t. first_there (kind_in_instrs n (cond t w.made (entry_renamed w.rename p ∷ []))) (kind_in_instrs n (rewritten w is))) so ∙ ap (λ k. first_there k (kind_in_instrs n (rewritten w is))) made
    by false so later =
        ap (λ t. first_there (kind_in_instrs n (cond t w.made (entry_renamed w.rename p ∷ []))) (kind_in_instrs n (rewritten w is))) so
        ∙ ap (λ k. first_there k (kind_in_instrs n (rewritten w is))) (alone _ ∙ kind_left n w.rename p.1.operands ∙ here)
        ∙ later (⊎_elim (λ same. absurd (true≢false (sym (eq-eqb p.0 w.root.0 (ap (λ (q : ℕ × InstrData). q.0) (sym same))) ∙ so))) (λ l. l) there)

pub kind_new : (w : Rewriting) (f g : FunctionData) → IsRewritten w f g → (n : ℕ) (kind : Kind) → kind_in_instrs n w.made ≡ Some kind → kind_in_instrs n (all_instrs f.blocks) ≡ None → kind_of g n ≡ kind
kind_new w f g is n kind made none =
    ap (λ k. unwrap_or k Class) (kind_in_all n g.blocks ∙ ap (kind_in_instrs n) (instrs_after w f g is) ∙ new_kind w n kind made (all_instrs f.blocks) none is.there)
