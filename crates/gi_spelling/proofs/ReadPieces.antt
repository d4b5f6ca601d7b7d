-- What is read of the pieces of a line is spelled so: definitions and operands.
use Rattle.std.proofs.Common.{◌≡◌, ℕ, Bool, true, false, List, [], ◌∷◌, ◌++◌, None, Ok, refl, sym, ap, ◌∙◌, subst}
use Rattle.std.specs.Prelude.{filter_map}
use Rattle.gi_llt.specs.declared.Llt.{Llt}
use Rattle.gi_mir.specs.declared.operand.Kind.{Kind}
use Rattle.gi_mir.specs.declared.operand.Kind.TheVariants as kind
use Rattle.gi_mir.specs.declared.operand.Pred.{Pred}
use Rattle.gi_mir.specs.declared.operand.SymbolFlag.{SymbolFlag}
use Rattle.gi_mir.specs.declared.operand.SymbolFlag.TheVariants as symbol_flag
use Rattle.gi_mir.specs.Data.{reg_of}
use Rattle.gi_spelling.specs.declared.token.RegisterClass.{RegisterClass}
use Rattle.gi_spelling.specs.declared.token.RegisterClass.TheVariants as class
use Rattle.gi_spelling.specs.declared.token.Word.{Word}
use Rattle.gi_spelling.specs.declared.token.Word.TheVariants as word
use Rattle.gi_spelling.specs.declared.token.What.{What}
use Rattle.gi_spelling.specs.declared.token.What.TheVariants as what
use Rattle.gi_spelling.specs.declared.token.Item.{Item}
use Rattle.gi_spelling.specs.declared.written.Definition.{Definition}
use Rattle.gi_spelling.specs.declared.written.Definition.TheVariants as definition
use Rattle.gi_spelling.specs.declared.written.Source.{Source}
use Rattle.gi_spelling.specs.declared.written.Source.TheVariants as source
use Rattle.gi_spelling.specs.Reading.{at_end, closed, type_by, read_type, read_opened, opened_by, read_bracketed, class_by, kind_by, read_kind, defined_by, read_defined, definition_by, read_definition, physical_by, read_physical, constant_by, read_constant, predicate_by, read_predicate_opened, predicate_opened_by, read_predicate, symbol_by, read_symbol, flag_closed_by, read_flag_closed, symbol_flag_by, read_flag_opened, flag_opened_by, read_flagged, read_use, word_operand, operand_by, read_operand}
use Rattle.gi_spelling.specs.Spelling.{word_what, type_whats, kind_whats, definition_whats, symbol_flag_whats, source_whats, place_of_source}
use Rattle.gi_spelling.proofs.TokenLists.{Tokens, no_tokens, one_more, one_name, both_tokens, names_nothing, then_ok, closed_ok, ended_ok, settled}

-- ══ Types and definitions ══

pub type_ok : (w : What) (item : Item) (ty : Llt) → type_by w item ≡ Ok ty → w ≡ word_what (word.Type ty)
type_ok (what.Word (word.Type own)) item ty e = cc
type_ok w item ty e = absurd (cc)

opened_ok : (items : List Item) (ty : Llt) → read_opened items ≡ Ok ty → Tokens items (word_what (word.Type ty) ∷ what.Close ∷ []) []
opened_ok [] ty e = absurd (cc)
opened_ok (item ∷ rest) ty e =
    let p = then_ok (read_type item) (λ (own : Llt). closed own rest) ty e in
    let q = closed_ok p.0 ty rest p.2 in
    one_more item rest (word_what (word.Type ty)) (what.Close ∷ []) [] (type_ok item.what item ty (p.1 ∙ ap Ok q.0)) refl q.1

opened_by_ok : (item : Item) (w : What) (rest : List Item) (ty : Llt) → item.what ≡ w → opened_by w rest ≡ Ok ty → Tokens (item ∷ rest) (type_whats ty) []
opened_by_ok item what.Open rest ty is e = one_more item rest what.Open (word_what (word.Type ty) ∷ what.Close ∷ []) [] is refl (opened_ok rest ty e)
opened_by_ok item w rest ty is e = absurd (cc)

pub bracketed_ok : (items : List Item) (ty : Llt) → read_bracketed items ≡ Ok ty → Tokens items (type_whats ty) []
bracketed_ok [] ty e = absurd (cc)
bracketed_ok (item ∷ rest) ty e = opened_by_ok item item.what rest ty refl e

class_ok : (w : What) (item : Item) (own : RegisterClass) → class_by w item ≡ Ok own → w ≡ word_what (word.Class own)
class_ok (what.Word (word.Class class)) item own e = cc
class_ok w item own e = absurd (cc)

-- `:` and a class, with a type if it wants one
kind_by_ok : (colon item : Item) (own : RegisterClass) (rest : List Item) (k : Kind) → colon.what ≡ what.Colon → item.what ≡ word_what (word.Class own)
    → kind_by own rest ≡ Ok k → Tokens (colon ∷ item ∷ rest) (kind_whats k) []
kind_by_ok colon item class.Generic rest k colons is e =
    let p = then_ok (read_bracketed rest) (λ (ty : Llt). Ok (kind.Generic ty)) k e in
    let first = word_what (word.Class class.Generic) in
    settled (λ k. Tokens (colon ∷ item ∷ rest) (kind_whats k) []) (kind.Generic p.0) k p.2
    (one_more colon (item ∷ rest) what.Colon (first ∷ type_whats p.0) [] colons refl
    (one_more item rest first (type_whats p.0) [] is refl (bracketed_ok rest p.0 p.1)))
kind_by_ok colon item class.Banked rest k colons is e =
    let p = then_ok (read_bracketed rest) (λ (ty : Llt). Ok (kind.Banked ty)) k e in
    let first = word_what (word.Class class.Banked) in
    settled (λ k. Tokens (colon ∷ item ∷ rest) (kind_whats k) []) (kind.Banked p.0) k p.2
    (one_more colon (item ∷ rest) what.Colon (first ∷ type_whats p.0) [] colons refl
    (one_more item rest first (type_whats p.0) [] is refl (bracketed_ok rest p.0 p.1)))
kind_by_ok colon item class.General rest k colons is e =
    let p = ended_ok kind.Class k rest e in
    let first = word_what (word.Class class.General) in
    subst (λ k. Tokens (colon ∷ item ∷ rest) (kind_whats k) []) p.0
    (one_more colon (item ∷ rest) what.Colon (first ∷ []) [] colons refl (one_more item rest first [] [] is refl p.1))

kind_ok : (colon : Item) (items : List Item) (k : Kind) → colon.what ≡ what.Colon → read_kind items ≡ Ok k → Tokens (colon ∷ items) (kind_whats k) []
kind_ok colon [] k colons e = absurd (cc)
kind_ok colon (item ∷ rest) k colons e =
    let p = then_ok (class_by item.what item) (λ (own : RegisterClass). kind_by own rest) k e in
    kind_by_ok colon item p.0 rest k colons (class_ok item.what item p.0 p.1) p.2

-- what stands behind a register that is defined
defined_by_ok : (first item : Item) (number : ℕ) (w : What) (rest : List Item) (d : Definition) → first.what ≡ what.Register number → item.what ≡ w
    → defined_by number w rest ≡ Ok d → Tokens (first ∷ item ∷ rest) (definition_whats d) []
defined_by_ok first item number what.Open rest d register is e =
    let p = then_ok (read_opened rest) (λ (ty : Llt). Ok (definition.Typed (reg_of number) ty)) d e in
    settled (λ d. Tokens (first ∷ item ∷ rest) (definition_whats d) []) (definition.Typed (reg_of number) p.0) d p.2
    (one_more first (item ∷ rest) (what.Register number) (type_whats p.0) [] register refl
    (one_more item rest what.Open (word_what (word.Type p.0) ∷ what.Close ∷ []) [] is refl (opened_ok rest p.0 p.1)))
defined_by_ok first item number what.Colon rest d register is e =
    let p = then_ok (read_kind rest) (λ (k : Kind). Ok (definition.Full (reg_of number) k)) d e in
    settled (λ d. Tokens (first ∷ item ∷ rest) (definition_whats d) []) (definition.Full (reg_of number) p.0) d p.2
    (one_more first (item ∷ rest) (what.Register number) (kind_whats p.0) [] register refl (kind_ok item rest p.0 is p.1))
defined_by_ok first item number w rest d register is e = absurd (cc)

defined_ok : (first : Item) (number : ℕ) (items : List Item) (d : Definition) → first.what ≡ what.Register number → read_defined number items ≡ Ok d
    → Tokens (first ∷ items) (definition_whats d) []
defined_ok first number [] d register e =
    settled (λ d. Tokens (first ∷ []) (definition_whats d) []) (definition.Bare (reg_of number)) d e (one_more first [] (what.Register number) [] [] register refl no_tokens)
defined_ok first number (item ∷ rest) d register e = defined_by_ok first item number item.what rest d register refl e

definition_by_ok : (item : Item) (w : What) (rest : List Item) (d : Definition) → item.what ≡ w → definition_by w rest ≡ Ok d → Tokens (item ∷ rest) (definition_whats d) []
definition_by_ok item (what.Register number) rest d is e = defined_ok item number rest d is e
definition_by_ok item (what.Physical number) rest d is e =
    let p = ended_ok (definition.Physical number) d rest e in
    subst (λ d. Tokens (item ∷ rest) (definition_whats d) []) p.0 (one_more item rest (what.Physical number) [] [] is refl p.1)
definition_by_ok item w rest d is e = absurd (cc)

pub definition_ok : (items : List Item) (d : Definition) → read_definition items ≡ Ok d → Tokens items (definition_whats d) []
definition_ok [] d e = absurd (cc)
definition_ok (item ∷ rest) d e = definition_by_ok item item.what rest d refl e

-- ══ Operands ══

-- tokens are those of an operand
pub record IsSource (items : List Item) (s : Source) : Type 0 where
  pub tokens : Tokens items (source_whats s) (filter_map place_of_source (s ∷ []))

-- one that ends
whole : (items : List Item) (s t : Source) (rest : List Item) → at_end s rest ≡ Ok t → (Tokens rest [] [] → IsSource items s) → IsSource items t
whole items s t rest e known =
    let p = ended_ok s t rest e in
    subst (IsSource items) p.0 (known p.1)

-- `$x10` behind a word
physical_by_ok : (first item : Item) (w v : What) (make : ℕ → Source) (rest : List Item) (s : Source)
    → first.what ≡ w → names_nothing w ≡ true → item.what ≡ v → ((number : ℕ) → source_whats (make number) ≡ w ∷ what.Physical number ∷ [])
    → ((number : ℕ) → place_of_source (make number) ≡ None)
    → physical_by make v rest ≡ Ok s → IsSource (first ∷ item ∷ rest) s
physical_by_ok first item w (what.Physical number) make rest s begins quiet is spelled nowhere e =
    whole (first ∷ item ∷ rest) (make number) s rest e (λ ends. record {
      tokens = rw (spelled number, nowhere number) (one_more first (item ∷ rest) w (what.Physical number ∷ []) [] begins quiet (one_more item rest (what.Physical number) [] [] is refl ends));
    })
physical_by_ok first item w v make rest s begins quiet is spelled nowhere e = absurd (cc)

physical_ok : (first : Item) (w : What) (make : ℕ → Source) (items : List Item) (s : Source)
    → first.what ≡ w → names_nothing w ≡ true → ((number : ℕ) → source_whats (make number) ≡ w ∷ what.Physical number ∷ [])
    → ((number : ℕ) → place_of_source (make number) ≡ None)
    → read_physical make items ≡ Ok s → IsSource (first ∷ items) s
physical_ok first w make [] s begins quiet spelled nowhere e = absurd (cc)
physical_ok first w make (item ∷ rest) s begins quiet spelled nowhere e = physical_by_ok first item w item.what make rest s begins quiet refl spelled nowhere e

-- two tokens
two : (first item : Item) (w v : What) (rest : List Item) → first.what ≡ w → names_nothing w ≡ true → item.what ≡ v → names_nothing v ≡ true → Tokens rest [] []
    → Tokens (first ∷ item ∷ rest) (w ∷ v ∷ []) []
two first item w v rest begins quiet is silent ends = one_more first (item ∷ rest) w (v ∷ []) [] begins quiet (one_more item rest v [] [] is silent ends)

constant_by_ok : (first item : Item) (bits : ℕ) (v : What) (rest : List Item) (s : Source) → first.what ≡ word_what (word.Integer bits) → item.what ≡ v
    → constant_by bits v rest ≡ Ok s → IsSource (first ∷ item ∷ rest) s
constant_by_ok first item bits (what.Number number plain) rest s begins is e =
    whole (first ∷ item ∷ rest) (source.Constant bits number plain) s rest e (λ ends. record {
      tokens = two first item (word_what (word.Integer bits)) (what.Number number plain) rest begins refl is refl ends;
    })
constant_by_ok first item bits (what.Word word.True) rest s begins is e =
    whole (first ∷ item ∷ rest) (source.Truth bits true) s rest e (λ ends. record {
      tokens = two first item (word_what (word.Integer bits)) (word_what word.True) rest begins refl is refl ends;
    })
constant_by_ok first item bits (what.Word word.False) rest s begins is e =
    whole (first ∷ item ∷ rest) (source.Truth bits false) s rest e (λ ends. record {
      tokens = two first item (word_what (word.Integer bits)) (word_what word.False) rest begins refl is refl ends;
    })
constant_by_ok first item bits v rest s begins is e = absurd (cc)

constant_ok : (first : Item) (bits : ℕ) (items : List Item) (s : Source) → first.what ≡ word_what (word.Integer bits) → read_constant bits items ≡ Ok s → IsSource (first ∷ items) s
constant_ok first bits [] s begins e = absurd (cc)
constant_ok first bits (item ∷ rest) s begins e = constant_by_ok first item bits item.what rest s begins refl e

-- `intpred(eq)`
predicate_word_ok : (w : What) (item : Item) (pred : Pred) → predicate_by w item ≡ Ok pred → w ≡ word_what (word.Predicate pred)
predicate_word_ok (what.Word (word.Predicate own)) item pred e = cc
predicate_word_ok w item pred e = absurd (cc)

predicate_opened_ok : (first bracket : Item) (items : List Item) (s : Source) → first.what ≡ word_what word.Comparison → bracket.what ≡ what.Open → read_predicate_opened items ≡ Ok s
    → IsSource (first ∷ bracket ∷ items) s
predicate_opened_ok first bracket [] s begins opens e = absurd (cc)
predicate_opened_ok first bracket (item ∷ rest) s begins opens e =
    let p = then_ok (predicate_by item.what item) (λ (pred : Pred). closed (source.Predicate pred) rest) s e in
    let q = closed_ok (source.Predicate p.0) s rest p.2 in
    let named = word_what (word.Predicate p.0) in
    subst (IsSource (first ∷ bracket ∷ item ∷ rest)) q.0 (record {
      tokens = one_more first (bracket ∷ item ∷ rest) (word_what word.Comparison) (what.Open ∷ named ∷ what.Close ∷ []) [] begins refl
          (one_more bracket (item ∷ rest) what.Open (named ∷ what.Close ∷ []) [] opens refl
          (one_more item rest named (what.Close ∷ []) [] (predicate_word_ok item.what item p.0 p.1) refl q.1));
    })

predicate_by_ok : (first item : Item) (w : What) (rest : List Item) (s : Source) → first.what ≡ word_what word.Comparison → item.what ≡ w → predicate_opened_by w rest ≡ Ok s
    → IsSource (first ∷ item ∷ rest) s
predicate_by_ok first item what.Open rest s begins is e = predicate_opened_ok first item rest s begins is e
predicate_by_ok first item w rest s begins is e = absurd (cc)

predicate_ok : (first : Item) (items : List Item) (s : Source) → first.what ≡ word_what word.Comparison → read_predicate items ≡ Ok s → IsSource (first ∷ items) s
predicate_ok first [] s begins e = absurd (cc)
predicate_ok first (item ∷ rest) s begins e = predicate_by_ok first item item.what rest s begins refl e

-- `@name` or `&name` behind the tokens of its flag
symbol_by_ok : (before : List Item) (item : Item) (flag : SymbolFlag) (w : What) (rest : List Item) (s : Source) → Tokens before (symbol_flag_whats flag) [] → item.what ≡ w
    → symbol_by flag w item rest ≡ Ok s → IsSource (before ++ (item ∷ rest)) s
symbol_by_ok before item flag what.Global rest s flagged is e =
    whole (before ++ (item ∷ rest)) (source.Global flag item.start) s rest e (λ ends. record {
      tokens = both_tokens before (item ∷ rest) (symbol_flag_whats flag) (what.Global ∷ []) [] (item.start ∷ []) flagged (one_name item rest [] [] is ends);
    })
symbol_by_ok before item flag (what.Routine place) rest s flagged is e =
    whole (before ++ (item ∷ rest)) (source.Routine flag place) s rest e (λ ends. record {
      tokens = both_tokens before (item ∷ rest) (symbol_flag_whats flag) (what.Routine place ∷ []) [] [] flagged (one_more item rest (what.Routine place) [] [] is refl ends);
    })
symbol_by_ok before item flag w rest s flagged is e = absurd (cc)

symbol_ok : (before : List Item) (flag : SymbolFlag) (items : List Item) (s : Source) → Tokens before (symbol_flag_whats flag) [] → read_symbol flag items ≡ Ok s
    → IsSource (before ++ items) s
symbol_ok before flag [] s flagged e = absurd (cc)
symbol_ok before flag (item ∷ rest) s flagged e = symbol_by_ok before item flag item.what rest s flagged refl e

-- a flag, of which `Plain` is none
flag_closed_ok : (first bracket item close : Item) (flag : SymbolFlag) (w : What) (rest : List Item) (s : Source)
    → symbol_flag_whats flag ≡ word_what word.TargetFlags ∷ what.Open ∷ word_what (word.SymbolFlag flag) ∷ what.Close ∷ []
    → first.what ≡ word_what word.TargetFlags → bracket.what ≡ what.Open → item.what ≡ word_what (word.SymbolFlag flag) → close.what ≡ w
    → flag_closed_by flag w rest ≡ Ok s → IsSource (first ∷ bracket ∷ item ∷ close ∷ rest) s
flag_closed_ok first bracket item close flag what.Close rest s spelled begins opens is closes e =
    let named = word_what (word.SymbolFlag flag) in
    let flagged : Tokens (first ∷ bracket ∷ item ∷ close ∷ []) (symbol_flag_whats flag) [] = subst (λ whats. Tokens (first ∷ bracket ∷ item ∷ close ∷ []) whats []) (sym spelled)
    (one_more first (bracket ∷ item ∷ close ∷ []) (word_what word.TargetFlags) (what.Open ∷ named ∷ what.Close ∷ []) [] begins refl
    (one_more bracket (item ∷ close ∷ []) what.Open (named ∷ what.Close ∷ []) [] opens refl (two item close named what.Close [] is refl closes refl no_tokens))) in
    symbol_ok (first ∷ bracket ∷ item ∷ close ∷ []) flag rest s flagged e
flag_closed_ok first bracket item close flag w rest s spelled begins opens is closes e = absurd (cc)

flag_ok : (first bracket item : Item) (flag : SymbolFlag) (items : List Item) (s : Source)
    → symbol_flag_whats flag ≡ word_what word.TargetFlags ∷ what.Open ∷ word_what (word.SymbolFlag flag) ∷ what.Close ∷ []
    → first.what ≡ word_what word.TargetFlags → bracket.what ≡ what.Open → item.what ≡ word_what (word.SymbolFlag flag)
    → read_flag_closed flag items ≡ Ok s → IsSource (first ∷ bracket ∷ item ∷ items) s
flag_ok first bracket item flag [] s spelled begins opens is e = absurd (cc)
flag_ok first bracket item flag (close ∷ rest) s spelled begins opens is e = flag_closed_ok first bracket item close flag close.what rest s spelled begins opens is refl e

symbol_flag_ok : (first bracket item : Item) (w : What) (rest : List Item) (s : Source) → first.what ≡ word_what word.TargetFlags → bracket.what ≡ what.Open → item.what ≡ w
    → symbol_flag_by w rest ≡ Ok s → IsSource (first ∷ bracket ∷ item ∷ rest) s
symbol_flag_ok first bracket item (what.Word (word.SymbolFlag symbol_flag.Plain)) rest s begins opens is e = absurd (cc)
symbol_flag_ok first bracket item (what.Word (word.SymbolFlag flag)) rest s begins opens is e = flag_ok first bracket item flag rest s refl begins opens is e
symbol_flag_ok first bracket item w rest s begins opens is e = absurd (cc)

flag_opened_ok : (first bracket : Item) (items : List Item) (s : Source) → first.what ≡ word_what word.TargetFlags → bracket.what ≡ what.Open → read_flag_opened items ≡ Ok s
    → IsSource (first ∷ bracket ∷ items) s
flag_opened_ok first bracket [] s begins opens e = absurd (cc)
flag_opened_ok first bracket (item ∷ rest) s begins opens e = symbol_flag_ok first bracket item item.what rest s begins opens refl e

flag_by_ok : (first item : Item) (w : What) (rest : List Item) (s : Source) → first.what ≡ word_what word.TargetFlags → item.what ≡ w → flag_opened_by w rest ≡ Ok s
    → IsSource (first ∷ item ∷ rest) s
flag_by_ok first item what.Open rest s begins is e = flag_opened_ok first item rest s begins is e
flag_by_ok first item w rest s begins is e = absurd (cc)

flagged_ok : (first : Item) (items : List Item) (s : Source) → first.what ≡ word_what word.TargetFlags → read_flagged items ≡ Ok s → IsSource (first ∷ items) s
flagged_ok first [] s begins e = absurd (cc)
flagged_ok first (item ∷ rest) s begins e = flag_by_ok first item item.what rest s begins refl e

-- a register that is read
use_ok : (first : Item) (number : ℕ) (items : List Item) (s : Source) → first.what ≡ what.Register number → read_use number items ≡ Ok s → IsSource (first ∷ items) s
use_ok first number [] s register e =
    settled (IsSource (first ∷ [])) (source.Use (reg_of number)) s e (record { tokens = one_more first [] (what.Register number) [] [] register refl no_tokens })
use_ok first number (item ∷ rest) s register e =
    let p = then_ok (read_bracketed (item ∷ rest)) (λ (ty : Llt). Ok (source.TypedUse (reg_of number) ty)) s e in
    settled (IsSource (first ∷ item ∷ rest)) (source.TypedUse (reg_of number) p.0) s p.2
    (record { tokens = one_more first (item ∷ rest) (what.Register number) (type_whats p.0) [] register refl (bracketed_ok (item ∷ rest) p.0 p.1) })

word_operand_ok : (typed : Bool) (w : Word) (item : Item) (rest : List Item) (s : Source) → item.what ≡ word_what w → word_operand typed w item rest ≡ Ok s → IsSource (item ∷ rest) s
word_operand_ok typed word.Implicit item rest s is e = physical_ok item (word_what word.Implicit) source.ImplicitUse rest s is refl (λ number. refl) (λ number. refl) e
word_operand_ok typed word.ImplicitDef item rest s is e = physical_ok item (word_what word.ImplicitDef) source.ImplicitDef rest s is refl (λ number. refl) (λ number. refl) e
word_operand_ok typed (word.Integer bits) item rest s is e = constant_ok item bits rest s is e
word_operand_ok typed word.Comparison item rest s is e = predicate_ok item rest s is e
word_operand_ok typed word.TargetFlags item rest s is e = flagged_ok item rest s is e
word_operand_ok typed word.SavedMask item rest s is e =
    whole (item ∷ rest) source.SavedMask s rest e (λ ends. record { tokens = one_more item rest (word_what word.SavedMask) [] [] is refl ends })
word_operand_ok true w item rest s is e = absurd (cc)
word_operand_ok false w item rest s is e = absurd (cc)

operand_by_ok : (typed : Bool) (w : What) (item : Item) (rest : List Item) (s : Source) → item.what ≡ w → operand_by typed w item rest ≡ Ok s → IsSource (item ∷ rest) s
operand_by_ok typed (what.Word w) item rest s is e = word_operand_ok typed w item rest s is e
operand_by_ok typed (what.Number number true) item rest s is e =
    whole (item ∷ rest) (source.Int number) s rest e (λ ends. record { tokens = one_more item rest (what.Number number true) [] [] is refl ends })
operand_by_ok typed (what.Register number) item rest s is e = use_ok item number rest s is e
operand_by_ok typed (what.Block number) item rest s is e =
    whole (item ∷ rest) (source.Block number) s rest e (λ ends. record { tokens = one_more item rest (what.Block number) [] [] is refl ends })
operand_by_ok typed (what.Frame number) item rest s is e =
    whole (item ∷ rest) (source.Frame number) s rest e (λ ends. record { tokens = one_more item rest (what.Frame number) [] [] is refl ends })
operand_by_ok typed (what.Physical number) item rest s is e =
    whole (item ∷ rest) (source.Physical number) s rest e (λ ends. record { tokens = one_more item rest (what.Physical number) [] [] is refl ends })
operand_by_ok typed what.Global item rest s is e = symbol_by_ok [] item symbol_flag.Plain what.Global rest s no_tokens is e
operand_by_ok typed (what.Routine place) item rest s is e = symbol_by_ok [] item symbol_flag.Plain (what.Routine place) rest s no_tokens is e
operand_by_ok typed w item rest s is e = absurd (cc)

pub operand_ok : (typed : Bool) (items : List Item) (s : Source) → read_operand typed items ≡ Ok s → IsSource items s
operand_ok typed [] s e = absurd (cc)
operand_ok typed (item ∷ rest) s e = operand_by_ok typed item.what item rest s refl e
