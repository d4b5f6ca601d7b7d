-- What is wrong with the entries of a document, entry by entry.
use Rattle.std.proofs.Common.{◌≡◌, ℕ, true, false, List, [], ◌∷◌, ◌++◌, refl, sym, ap, ◌∙◌, subst, append_assoc}
use Rattle.std.specs.Prelude.{Option, Some, None, Result, Ok, Err, OnOk, is_some, fold}
use Rattle.std.proofs.lemmas.Grind.{fold-append}
use Rattle.std.proofs.lemmas.List.{append-nil}
use Rattle.gi_spelling.specs.declared.written.Wrong.{Wrong}
use Rattle.gi_spelling.specs.Documents.{entries_wrongs, entry_wrongs, lower}
use Rattle.gi_spelling.specs.Lines as lines
use Rattle.gi_mir_read.specs.declared.document.keys.Firsts.{Firsts}
use Rattle.gi_mir_read.specs.Documents.Keyed.{AreFirsts}

-- the entries that are left, behind those that are noted
pub record IsNotedUpTo (text : List ℕ) (all left : List lines.Section) (old now : Option Wrong) (firsts : Firsts) : Type 0 where
  pub earlier : List lines.Section
  pub split : earlier ++ left ≡ all
  pub are : AreFirsts text earlier firsts
  pub noted : fold lower now (entries_wrongs text earlier left) ≡ fold lower old (entries_wrongs text [] all)

pub none_noted : (text : List ℕ) (all : List lines.Section) (old : Option Wrong) (firsts : Firsts) → AreFirsts text [] firsts → IsNotedUpTo text all all old old firsts
none_noted text all old firsts are = record { earlier = []; split = refl; are = are; noted = refl }

pub one_more : (text : List ℕ) (all left later : List lines.Section) (section : lines.Section) (old now next : Option Wrong) (firsts more : Firsts)
    → left ≡ section ∷ later → IsNotedUpTo text all left old now firsts
    → ((earlier : List lines.Section) → AreFirsts text earlier firsts → next ≡ fold lower now (entry_wrongs text earlier section))
    → ((earlier : List lines.Section) → AreFirsts text earlier firsts → AreFirsts text (earlier ++ section ∷ []) more)
    → IsNotedUpTo text all later old next more
one_more text all left later section old now next firsts more is so_far noted kept = record {
  earlier = so_far.earlier ++ section ∷ [];
  split = append_assoc so_far.earlier (section ∷ []) later ∙ ap (λ xs. so_far.earlier ++ xs) (sym is) ∙ so_far.split;
  are = kept so_far.earlier so_far.are;
  noted = ap (λ w. fold lower w (entries_wrongs text (so_far.earlier ++ section ∷ []) later)) (noted so_far.earlier so_far.are)
      ∙ sym (fold-append lower now (entry_wrongs text so_far.earlier section) (entries_wrongs text (so_far.earlier ++ section ∷ []) later))
      ∙ ap (λ xs. fold lower now (entries_wrongs text so_far.earlier xs)) (sym is) ∙ so_far.noted;
}

pub all_noted : (text : List ℕ) (all left : List lines.Section) (old now : Option Wrong) (firsts : Firsts) → left ≡ [] → IsNotedUpTo text all left old now firsts
    → (AreFirsts text all firsts) × (now ≡ fold lower old (entries_wrongs text [] all))
all_noted text all left old now firsts none so_far =
    let same : so_far.earlier ≡ all = sym (append-nil so_far.earlier) ∙ ap (λ xs. so_far.earlier ++ xs) (sym none) ∙ so_far.split in
    (subst (λ (xs : List lines.Section). AreFirsts text xs firsts) same so_far.are, ap (λ xs. fold lower now (entries_wrongs text so_far.earlier xs)) (sym none) ∙ so_far.noted)

pub some_is : {X : Type 0} (o : Option X) → true ≡ is_some o → (x : X) × (o ≡ Some x)
some_is None is = cc
some_is (Some x) is = (x, refl)

pub none_is : {X : Type 0} (o : Option X) → false ≡ is_some o → o ≡ None
none_is None is = refl
none_is (Some x) is = cc

pub on_ok : {X E : Type 0} (r : Result X E) (P Q : Type 0) → (P → Q) → OnOk r P → OnOk r Q
on_ok (Ok x) P Q then p = then p
on_ok (Err e) P Q then p = tt
