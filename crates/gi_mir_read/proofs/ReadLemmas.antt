-- A text is read document by document.
use Rattle.std.proofs.Common.{◌≡◌, ℕ, List, [], ◌∷◌, ◌++◌, map, refl, sym, ap, ◌∙◌, subst, arith, append_assoc, length-append}
use Rattle.std.specs.Prelude.{Option, Some, None}
use Rattle.std.specs.List.{AllZip}
use Rattle.std.specs.Option.{option_map_or}
use Rattle.std.proofs.lemmas.List.{append-nil}
use Rattle.gi_mir.specs.Data.{FunctionData}
use Rattle.gi_text.specs.declared.token.TextError.{TextError}
use Rattle.gi_text.specs.declared.token.TextError.TheVariants as error
use Rattle.gi_spelling.specs.declared.written.Wrong.{Wrong}
use Rattle.gi_spelling.specs.Documents.{document_wrongs, entries_of, first_wrong, function_of, lowest, read_document}
use Rattle.gi_spelling.specs.Lines as lines
use Rattle.gi_spelling.specs.Named.{Extends}
use Rattle.gi_spelling.specs.Read.{IsReadFunction, IsRefusal}
use Rattle.gi_spelling.proofs.NamedLemmas.{AllZip-implies, name_kept, named_function}

-- a document stays read where names grow
pub read_kept : (text : List ℕ) (old new : List (List ℕ)) → Extends old new → (section : lines.Section) (f : FunctionData) → IsReadFunction text old section f → IsReadFunction text new section f
read_kept text old new grows section f is = record {
  within = rw grows.grown (omega (arith, length-append old grows.more, is.within));
  name = rw grows.grown (name_kept old grows.more f.name is.within ∙ is.name);
  same = named_function text old new grows (function_of text (read_document text (entries_of section))) f is.same;
}

-- the documents that are left, behind those that are read
pub record IsReadUpTo (text : List ℕ) (all left : List lines.Section) (names : List (List ℕ)) (functions : List FunctionData) : Type 0 where
  pub earlier : List lines.Section
  pub split : earlier ++ left ≡ all
  pub right : first_wrong (map (document_wrongs text) left) ≡ first_wrong (map (document_wrongs text) all)
  pub read : AllZip (IsReadFunction text names) earlier functions

pub none_read : (text : List ℕ) (all : List lines.Section) (names : List (List ℕ)) → IsReadUpTo text all all names []
none_read text all names = record { earlier = []; split = refl; right = refl; read = tt }

push_zip : {A B : Type 0} (R : A → B → Type 0) (xs : List A) (ys : List B) (x : A) (y : B) → AllZip R xs ys → R x y → AllZip R (xs ++ x ∷ []) (ys ++ y ∷ [])
push_zip R [] [] x y all last = (last, tt)
push_zip R [] (z ∷ ys) x y all last = absurd all
push_zip R (w ∷ xs) [] x y all last = absurd all
push_zip R (w ∷ xs) (z ∷ ys) x y all last = (all.0, push_zip R xs ys x y all.1 last)

pub one_more_read : (text : List ℕ) (all left later : List lines.Section) (section : lines.Section) (names grown : List (List ℕ)) (functions : List FunctionData) (f : FunctionData)
    → left ≡ section ∷ later → IsReadUpTo text all left names functions → lowest (document_wrongs text section) ≡ None → Extends names grown → IsReadFunction text grown section f
    → IsReadUpTo text all later grown (functions ++ f ∷ [])
one_more_read text all left later section names grown functions f is so_far right grows read = record {
  earlier = so_far.earlier ++ section ∷ [];
  split = append_assoc so_far.earlier (section ∷ []) later ∙ ap (λ xs. so_far.earlier ++ xs) (sym is) ∙ so_far.split;
  right = sym (ap (λ found. option_map_or (λ w. Some w) found (first_wrong (map (document_wrongs text) later))) right)
      ∙ ap (λ xs. first_wrong (map (document_wrongs text) xs)) (sym is) ∙ so_far.right;
  read = push_zip (IsReadFunction text grown) so_far.earlier functions section f
      (AllZip-implies (IsReadFunction text names) (IsReadFunction text grown) (read_kept text names grown grows) so_far.earlier functions so_far.read) read;
}

pub all_read : (text : List ℕ) (all left : List lines.Section) (names : List (List ℕ)) (functions : List FunctionData) → left ≡ [] → IsReadUpTo text all left names functions
    → AllZip (IsReadFunction text names) all functions
all_read text all left names functions none so_far =
    subst (λ (xs : List lines.Section). AllZip (IsReadFunction text names) xs functions) (sym (append-nil so_far.earlier) ∙ ap (λ xs. so_far.earlier ++ xs) (sym none) ∙ so_far.split) so_far.read

pub none_wrong : (text : List ℕ) (all left : List lines.Section) (names : List (List ℕ)) (functions : List FunctionData) → left ≡ [] → IsReadUpTo text all left names functions
    → first_wrong (map (document_wrongs text) all) ≡ None
none_wrong text all left names functions none so_far = sym so_far.right ∙ ap (λ xs. first_wrong (map (document_wrongs text) xs)) none

-- the first refusal
pub refused_here : (found later : Option Wrong) (e : TextError) → IsRefusal found e → IsRefusal (option_map_or (λ w. Some w) found later) e
refused_here found later (error.Syntax line) is = ap (λ o. option_map_or (λ w. Some w) o later) is
refused_here found later (error.Unknown line start end) is = ap (λ o. option_map_or (λ w. Some w) o later) is
refused_here found later error.Memory is = tt

pub refused_later : (found later : Option Wrong) (e : TextError) → found ≡ None → IsRefusal later e → IsRefusal (option_map_or (λ w. Some w) found later) e
refused_later found later e none is = subst (λ o. IsRefusal o e) (sym (ap (λ o. option_map_or (λ w. Some w) o later) none)) is

pub refused_document : (text : List ℕ) (all left later : List lines.Section) (section : lines.Section) (names : List (List ℕ)) (functions : List FunctionData) (e : TextError)
    → left ≡ section ∷ later → IsReadUpTo text all left names functions → IsRefusal (lowest (document_wrongs text section)) e → IsRefusal (first_wrong (map (document_wrongs text) all)) e
refused_document text all left later section names functions e is so_far refused =
    subst (λ o. IsRefusal o e) (ap (λ xs. first_wrong (map (document_wrongs text) xs)) (sym is) ∙ so_far.right)
    (refused_here (lowest (document_wrongs text section)) (first_wrong (map (document_wrongs text) later)) e refused)
