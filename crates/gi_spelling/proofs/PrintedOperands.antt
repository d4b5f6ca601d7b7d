-- An operand as it is printed is a written operand that means it.
use Rattle.std.proofs.Common.{◌≡◌, ℕ, ◌^◌, ◌<◌, ◌≤◌, Bool, true, false, List, [], ◌∷◌, ◌++◌, Option, Some, None, refl, sym, ap, ◌∙◌, subst, arith}
use Rattle.gi_mir.specs.Names.{name_at}
use Rattle.std.specs.Prelude.{◌==◌, not, nat_lt, nat_le, codes, decimal, if◌then◌else◌}
use Rattle.std.specs.Fmt.{signed_decimal}
use Rattle.std.specs.Option.{option_map_or}
use Rattle.std.proofs.lemmas.Bool.{and_parts, false≢true, eqb-true}
use Rattle.std.proofs.lemmas.Bool.Decides.{nat_tests}
use Rattle.gi_llt.specs.Bits.{signed}
use Rattle.gi_llt.specs.Tokens.{Word as OfWord, Number as OfNumber, Register as OfRegister, Physical as OfPhysical, Global as OfGlobal, Routine as OfRoutine, Mark as OfMark, lexeme, Piece, Spaces, token}
use Rattle.gi_llt.specs.declared.Llt.{Llt}
use Rattle.gi_llt.specs.declared.Llt.TheVariants.{Scalar, Pointer}
use Rattle.gi_mir.specs.declared.operand.Kind.{Kind}
use Rattle.gi_mir.specs.declared.operand.Kind.TheVariants.{Generic, Banked, Class}
use Rattle.gi_mir.specs.declared.operand.Operand.{Operand}
use Rattle.gi_mir.specs.declared.operand.Operand.TheVariants.{Def, Use, Phys, PhysDef, ImplicitUse, ImplicitDef, Int, Constant, Block, Predicate, Frame, Global, Routine, SavedMask}
use Rattle.gi_mir.specs.declared.operand.Reg.{Reg}
use Rattle.gi_mir.specs.declared.operand.SymbolFlag.{SymbolFlag}
use Rattle.gi_mir.specs.declared.operand.SymbolFlag.TheVariants.{Plain, Call, Hi, Lo}
use Rattle.gi_mir.specs.Formed.{is_in_range}
use Rattle.gi_mir.specs.Registers.{type_of_kind}
use Rattle.gi_mir.specs.Routines.{routine_names}
use Rattle.gi_mir.proofs.LettersLemmas.{same_self}
use Rattle.gi_spelling.specs.declared.token.RegisterClass.TheVariants as class
use Rattle.gi_spelling.specs.declared.token.Word.TheVariants as word
use Rattle.gi_spelling.specs.declared.token.What.{What}
use Rattle.gi_spelling.specs.declared.token.What.TheVariants as what
use Rattle.gi_spelling.specs.declared.written.Definition.{Definition}
use Rattle.gi_spelling.specs.declared.written.Definition.TheVariants as definition
use Rattle.gi_spelling.specs.declared.written.Source.{Source}
use Rattle.gi_spelling.specs.declared.written.Source.TheVariants as source
use Rattle.gi_spelling.specs.Words.{number_written, is_plain_signed}
use Rattle.gi_spelling.specs.Blocks.{typed_use}
use Rattle.gi_spelling.specs.Printable.{Counts, is_writable_type, is_writable_kind, is_writable_operand}
use Rattle.gi_spelling.specs.Printed.{mark, word, bracketed, type_piece, register_piece, kind_pieces, symbol_flag_pieces, predicate_word, constant_pieces, use_pieces, operand_pieces, is_definition}
use Rattle.gi_spelling.specs.Resolved.{Tables, block_place, resolved_source, resolved_definition}
use Rattle.gi_spelling.specs.Spelling.{type_whats, kind_whats, definition_whats, symbol_flag_whats, source_whats, place_of_source, type_at}
use Rattle.gi_spelling.proofs.KeptLines.{are_loud, opens_next}
use Rattle.gi_spelling.proofs.PlacedLines.{is_sized}
use Rattle.gi_spelling.proofs.PrintedPieces.{Says, says_nothing, says_both, says_spaces, says_token, says_one, scalar_is, integer_is, predicate_is, frame_is, routine_is, WritesWhole, whole_written, any_constant}
use Rattle.gi_spelling.proofs.PrintedTokens.{register_is, physical_is, block_is}
use Rattle.gi_spelling.proofs.SignedNumbers.{WritesConstant}

-- ══ Parts ══

-- tokens that none is passed over of, before others of which none is and that don't begin with a bracket
pub record IsLoud (ws : List What) : Type 0 where
  pub loud : (after : List What) → are_loud after ≡ true → opens_next after ≡ false → are_loud (ws ++ after) ≡ true

says_type : (ty : Llt) → is_writable_type ty ≡ true → Says (type_piece ty ∷ []) (what.Word (word.Type ty) ∷ []) []
says_type (Scalar bits) fits =
    let within : bits ≤ 65535 = grind (arith, nat_tests) in
    says_one (lexeme OfWord (115 ∷ decimal bits)) (what.Word (word.Type (Scalar bits))) (ap what.Word (scalar_is bits within)) refl refl
says_type Pointer fits = says_one (lexeme OfWord (codes "p0")) (what.Word (word.Type Pointer)) refl refl refl

pub says_bracketed : (ty : Llt) (pieces : List Piece) (ws : List What) → is_writable_type ty ≡ true → Says pieces ws []
    → Says (bracketed (type_piece ty ∷ []) ++ pieces) (type_whats ty ++ ws) []
says_bracketed ty pieces ws fits later =
    says_token (lexeme OfMark (40 ∷ [])) what.Open (type_piece ty ∷ mark 41 ∷ pieces) (what.Word (word.Type ty) ∷ what.Close ∷ ws) [] refl refl refl
    (says_both (type_piece ty ∷ []) (mark 41 ∷ pieces) (what.Word (word.Type ty) ∷ []) (what.Close ∷ ws) [] [] (says_type ty fits)
    (says_token (lexeme OfMark (41 ∷ [])) what.Close pieces ws [] refl refl refl later))

says_kind : (kind : Kind) → is_writable_kind kind ≡ true → Says (kind_pieces kind) (kind_whats kind) []
says_kind (Generic ty) fits =
    says_token (lexeme OfMark (58 ∷ [])) what.Colon (word (95 ∷ []) ∷ bracketed (type_piece ty ∷ [])) (what.Word (word.Class class.Generic) ∷ type_whats ty) [] refl refl refl
    (says_token (lexeme OfWord (95 ∷ [])) (what.Word (word.Class class.Generic)) (bracketed (type_piece ty ∷ [])) (type_whats ty) [] refl refl refl
    (says_bracketed ty [] [] fits says_nothing))
says_kind (Banked ty) fits =
    says_token (lexeme OfMark (58 ∷ [])) what.Colon (word (codes "gprb") ∷ bracketed (type_piece ty ∷ [])) (what.Word (word.Class class.Banked) ∷ type_whats ty) [] refl refl refl
    (says_token (lexeme OfWord (codes "gprb")) (what.Word (word.Class class.Banked)) (bracketed (type_piece ty ∷ [])) (type_whats ty) [] refl refl refl
    (says_bracketed ty [] [] fits says_nothing))
says_kind Class fits =
    says_token (lexeme OfMark (58 ∷ [])) what.Colon (word (codes "gpr") ∷ []) (what.Word (word.Class class.General) ∷ []) [] refl refl refl
    (says_one (lexeme OfWord (codes "gpr")) (what.Word (word.Class class.General)) refl refl refl)

says_register : (n : ℕ) (pieces : List Piece) (ws : List What) → nat_le n 4294967294 ≡ true → Says pieces ws [] → Says (register_piece n ∷ pieces) (what.Register n ∷ ws) []
says_register n pieces ws fits later =
    let within : n < 4294967295 = grind (arith, nat_tests) in
    says_token (lexeme OfRegister (37 ∷ decimal n)) (what.Register n) pieces ws [] (register_is n within) refl refl later

-- ══ Definitions ══

abbrev pub definition_of : Operand → Definition
definition_of (Def reg kind) = definition.Full reg kind
definition_of (PhysDef number) = definition.Physical number
definition_of other = definition.Physical 0

-- a definition as it is printed, written and meant
pub record IsDefinition (operand : Operand) : Type 0 where
  pub says : Says (operand_pieces (λ reg. Class) [] false operand) (definition_whats (definition_of operand)) []
  pub loud : IsLoud (definition_whats (definition_of operand))
  pub means : resolved_definition [] (definition_of operand) ≡ Some operand

kind_loud : (reg : ℕ) (kind : Kind) → IsLoud (what.Register reg ∷ kind_whats kind)
kind_loud reg (Generic ty) = record { loud = λ after loud closed. loud }
kind_loud reg (Banked ty) = record { loud = λ after loud closed. loud }
kind_loud reg Class = record { loud = λ after loud closed. loud }

pub definition_is : (names : List (List ℕ)) (counts : Counts) (operand : Operand) → is_definition operand ≡ true → is_writable_operand names counts operand ≡ true → is_in_range operand ≡ true
    → IsDefinition operand
definition_is names counts (Def reg kind) defines fits range =
    let parts = and_parts (nat_le reg.0 4294967294) (is_writable_kind kind) fits in
    record {
      says = says_register reg.0 (kind_pieces kind) (kind_whats kind) parts.0 (says_kind kind parts.1);
      loud = kind_loud reg.0 kind;
      means = refl;
    }
definition_is names counts (PhysDef number) defines fits range = record {
  says = says_one (lexeme OfPhysical (36 ∷ 120 ∷ decimal number)) (what.Physical number) (physical_is number range) refl refl;
  loud = record { loud = λ after loud closed. loud };
  means = refl;
}
definition_is names counts _ defines fits range = absurd (false≢true defines)

-- ══ Operands ══

abbrev pub use_source : Reg → Option Llt → Source
use_source reg None = source.Use reg
use_source reg (Some ty) = source.TypedUse reg ty

abbrev pub constant_source : (bits value : ℕ) → Source
constant_source bits value =
    if bits == 1 then source.Truth bits (value == 1)
    else source.Constant bits (number_written (signed_decimal (signed bits value))) (is_plain_signed (signed_decimal (signed bits value)))

-- what an operand is written as, where the token of its name stands at a place
abbrev pub source_of : (kinds : ℕ → Kind) (is_typed : Bool) (place : ℕ) → Operand → Source
source_of kinds is_typed place (Use reg) = use_source reg (if is_typed then type_of_kind (kinds reg.0) else None)
source_of kinds is_typed place (Phys number) = source.Physical number
source_of kinds is_typed place (ImplicitUse number) = source.ImplicitUse number
source_of kinds is_typed place (ImplicitDef number) = source.ImplicitDef number
source_of kinds is_typed place (Int value) = source.Int (number_written (signed_decimal value))
source_of kinds is_typed place (Constant bits value) = constant_source bits value
source_of kinds is_typed place (Block number) = source.Block number
source_of kinds is_typed place (Predicate pred) = source.Predicate pred
source_of kinds is_typed place (Frame number) = source.Frame number
source_of kinds is_typed place (Global flag name) = source.Global flag place
source_of kinds is_typed place (Routine flag number) = source.Routine flag number
source_of kinds is_typed place other = source.SavedMask

abbrev pub name_in : (names : List (List ℕ)) → Operand → Option (List ℕ)
name_in names (Global flag name) = Some (name_at names name)
name_in names operand = None

-- an operand with the place of its name for the number
abbrev pub placed_at : (place : ℕ) → Operand → Operand
placed_at place (Global flag name) = Global flag place
placed_at place operand = operand

abbrev pub listed_name : Option (List ℕ) → List (List ℕ)
listed_name None = []
listed_name (Some name) = name ∷ []

abbrev pub place_of_name : Option (List ℕ) → (place : ℕ) → Option ℕ
place_of_name None place = None
place_of_name (Some name) place = Some place

-- what a line of a function rests on, as far as printing does
pub record AreTables (counts : Counts) (tables : Tables) (kinds : ℕ → Kind) : Type 0 where
  pub unclassed : tables.classes ≡ []
  pub few : counts.blocks < 4294901761
  pub placed : (place : ℕ) → place < counts.blocks → block_place tables.blocks place ≡ place
  pub objects : tables.objects ≡ counts.objects
  pub typed : (reg : ℕ) (ty : Llt) → type_of_kind (kinds reg) ≡ Some ty → is_writable_type ty ≡ true

abbrev pub types_by : (ℕ → Kind) → ℕ → Option Llt
types_by kinds reg = type_of_kind (kinds reg)

-- an operand as it is printed, written and meant
pub record IsSource (kinds : ℕ → Kind) (names : List (List ℕ)) (tables : Tables) (is_typed : Bool) (place : ℕ) (operand : Operand) : Type 0 where
  pub says : Says (operand_pieces kinds names is_typed operand) (source_whats (source_of kinds is_typed place operand)) (listed_name (name_in names operand))
  pub loud : IsLoud (source_whats (source_of kinds is_typed place operand))
  pub means : resolved_source tables (source_of kinds is_typed place operand) ≡ Some (placed_at place operand)
  pub at : place_of_source (source_of kinds is_typed place operand) ≡ place_of_name (name_in names operand) place
  pub shows : option_map_or (type_at (types_by kinds)) (typed_use (source_of kinds is_typed place operand)) true ≡ true

-- a use, by the type that it shows
record IsUse (kinds : ℕ → Kind) (tables : Tables) (reg : Reg) (shown : Option Llt) : Type 0 where
  says : Says (use_pieces reg.0 shown) (source_whats (use_source reg shown)) []
  loud : IsLoud (source_whats (use_source reg shown))
  means : resolved_source tables (use_source reg shown) ≡ Some (Use reg)
  at : place_of_source (use_source reg shown) ≡ None
  shows : option_map_or (type_at (types_by kinds)) (typed_use (use_source reg shown)) true ≡ true

use_is : (kinds : ℕ → Kind) (tables : Tables) (reg : Reg) (shown : Option Llt) → nat_le reg.0 4294967294 ≡ true
    → ((ty : Llt) → shown ≡ Some ty → (is_writable_type ty ≡ true) × (type_of_kind (kinds reg.0) ≡ Some ty)) → IsUse kinds tables reg shown
use_is kinds tables reg None fits own = record {
  says = says_register reg.0 [] [] fits says_nothing;
  loud = record { loud = λ after loud closed. loud };
  means = refl;
  at = refl;
  shows = refl;
}
use_is kinds tables reg (Some ty) fits own =
    let known = own ty refl in
    record {
      says = says_register reg.0 (bracketed (type_piece ty ∷ [])) (type_whats ty) fits (says_bracketed ty [] [] known.0 says_nothing);
      loud = record { loud = λ after loud closed. loud };
      means = refl;
      at = refl;
      shows = rw (known.1) (same_self ty);
    }

shown_known : (counts : Counts) (kinds : ℕ → Kind) (tables : Tables) (is_typed : Bool) (reg : Reg) → AreTables counts tables kinds
    → (ty : Llt) → (if is_typed then type_of_kind (kinds reg.0) else None) ≡ Some ty → (is_writable_type ty ≡ true) × (type_of_kind (kinds reg.0) ≡ Some ty)
shown_known counts kinds tables true reg are ty shown = (are.typed reg.0 ty shown, shown)
shown_known counts kinds tables false reg are ty shown = absurd (cc)

-- a constant, by whether it is one bit
record IsConstant (tables : Tables) (bits value : ℕ) : Type 0 where
  says : Says (constant_pieces bits value) (source_whats (constant_source bits value)) []
  loud : IsLoud (source_whats (constant_source bits value))
  means : resolved_source tables (constant_source bits value) ≡ Some (Constant bits value)
  at : place_of_source (constant_source bits value) ≡ None
  shows : typed_use (constant_source bits value) ≡ None

truth_is : (tables : Tables) (value : ℕ) → nat_lt value 2 ≡ true → IsConstant tables 1 value
truth_is tables value fits = chosen (value == 1) refl
  where
    chosen : (truth : Bool) → (value == 1) ≡ truth → IsConstant tables 1 value
    chosen true is =
        let one : value ≡ 1 = eqb-true value 1 is in
        subst (IsConstant tables 1) (sym one) (record {
          says = says_token (lexeme OfWord (105 ∷ decimal 1)) (what.Word (word.Integer 1)) (Spaces 1 ∷ word (codes "true") ∷ []) (what.Word word.True ∷ []) [] (ap what.Word (integer_is 1 (omega arith))) refl refl
              (says_spaces 1 (word (codes "true") ∷ []) (what.Word word.True ∷ []) [] (says_one (lexeme OfWord (codes "true")) (what.Word word.True) refl refl refl));
          loud = record { loud = λ after loud closed. loud };
          means = refl;
          at = refl;
          shows = refl;
        })
    chosen false is =
        let zero_is : value ≡ 0 = grind (arith, nat_tests) in
        subst (IsConstant tables 1) (sym zero_is) (record {
          says = says_token (lexeme OfWord (105 ∷ decimal 1)) (what.Word (word.Integer 1)) (Spaces 1 ∷ word (codes "false") ∷ []) (what.Word word.False ∷ []) [] (ap what.Word (integer_is 1 (omega arith))) refl refl
              (says_spaces 1 (word (codes "false") ∷ []) (what.Word word.False ∷ []) [] (says_one (lexeme OfWord (codes "false")) (what.Word word.False) refl refl refl));
          loud = record { loud = λ after loud closed. loud };
          means = refl;
          at = refl;
          shows = refl;
        })

number_is : (tables : Tables) (bits value : ℕ) → (bits == 1) ≡ false → bits ≤ 65535 → WritesConstant bits value (signed_decimal (signed bits value)) → IsConstant tables bits value
number_is tables bits value wide within writes =
    let bytes = signed_decimal (signed bits value) in
    let number = number_written bytes in
    let plain = is_plain_signed bytes in
    let integer = lexeme OfWord (105 ∷ decimal bits) in
    let sized : is_sized (lexeme OfNumber bytes) ≡ true = ap not writes.sized in
    let pieces : Says (token OfWord (105 ∷ decimal bits) ∷ token OfNumber bytes ∷ []) (what.Word (word.Integer bits) ∷ what.Number number plain ∷ []) [] =
    says_token integer (what.Word (word.Integer bits)) (token OfNumber bytes ∷ []) (what.Number number plain ∷ []) [] (ap what.Word (integer_is bits within)) refl refl
    (says_one (lexeme OfNumber bytes) (what.Number number plain) refl sized refl) in
    record {
      says = rw wide (record { same = pieces.same; sized = pieces.sized; named = pieces.named });
      loud = rw wide (record { loud = λ after loud closed. loud });
      means = rw wide (writes.means);
      at = rw wide refl;
      shows = rw wide refl;
    }

constant_is : (tables : Tables) (bits value : ℕ) → bits ≤ 65535 → value < 2 ^ 128 → is_in_range (Constant bits value) ≡ true → IsConstant tables bits value
constant_is tables bits value within fits range = chosen (bits == 1) refl
  where
    chosen : (bit : Bool) → (bits == 1) ≡ bit → IsConstant tables bits value
    chosen true is =
        let one : bits ≡ 1 = eqb-true bits 1 is in
        let small : nat_lt value 2 ≡ true = subst (λ b. is_in_range (Constant b value) ≡ true) one range in
        subst (λ b. IsConstant tables b value) (sym one) (truth_is tables value small)
    chosen false is = number_is tables bits value is within (any_constant bits value fits range)

-- a symbol's flag
says_flag : (flag : SymbolFlag) (pieces : List Piece) (ws : List What) (names : List (List ℕ)) → Says pieces ws names → Says (symbol_flag_pieces flag ++ pieces) (symbol_flag_whats flag ++ ws) names
says_flag Plain pieces ws names later = later
says_flag Call pieces ws names later = record { same = ap (λ vs. symbol_flag_whats Call ++ vs) later.same; sized = later.sized; named = later.named }
says_flag Hi pieces ws names later = record { same = ap (λ vs. symbol_flag_whats Hi ++ vs) later.same; sized = later.sized; named = later.named }
says_flag Lo pieces ws names later = record { same = ap (λ vs. symbol_flag_whats Lo ++ vs) later.same; sized = later.sized; named = later.named }

flag_loud : (flag : SymbolFlag) (w : What) → IsLoud (w ∷ []) → IsLoud (symbol_flag_whats flag ++ (w ∷ []))
flag_loud Plain w last = last
flag_loud Call w last = record { loud = λ after loud closed. last.loud after loud closed }
flag_loud Hi w last = record { loud = λ after loud closed. last.loud after loud closed }
flag_loud Lo w last = record { loud = λ after loud closed. last.loud after loud closed }

says_global : (name : List ℕ) → Says (token OfGlobal (64 ∷ name) ∷ []) (what.Global ∷ []) (name ∷ [])
says_global name = record { same = refl; sized = refl; named = refl }

block_loud : (place : ℕ) → IsLoud (what.Block place ∷ [])
block_loud place = record { loud = λ after loud closed. rw closed loud }

pub source_is : (kinds : ℕ → Kind) (names : List (List ℕ)) (counts : Counts) (tables : Tables) (is_typed : Bool) (place : ℕ) (operand : Operand) → AreTables counts tables kinds
    → is_definition operand ≡ false → is_writable_operand names counts operand ≡ true → is_in_range operand ≡ true → IsSource kinds names tables is_typed place operand
source_is kinds names counts tables is_typed place (Def reg kind) are none fits range = absurd (cc)
source_is kinds names counts tables is_typed place (PhysDef number) are none fits range = absurd (cc)
source_is kinds names counts tables is_typed place (Use reg) are none fits range =
    let one = use_is kinds tables reg (if is_typed then type_of_kind (kinds reg.0) else None) fits (shown_known counts kinds tables is_typed reg are) in
    record { says = one.says; loud = one.loud; means = one.means; at = one.at; shows = one.shows }
source_is kinds names counts tables is_typed place (Phys number) are none fits range = record {
  says = says_one (lexeme OfPhysical (36 ∷ 120 ∷ decimal number)) (what.Physical number) (physical_is number range) refl refl;
  loud = record { loud = λ after loud closed. loud };
  means = refl;
  at = refl;
  shows = refl;
}
source_is kinds names counts tables is_typed place (ImplicitUse number) are none fits range = record {
  says = says_token (lexeme OfWord (codes "implicit")) (what.Word word.Implicit) _ (what.Physical number ∷ []) [] refl refl refl
      (says_spaces 1 _ _ _ (says_one (lexeme OfPhysical (36 ∷ 120 ∷ decimal number)) (what.Physical number) (physical_is number range) refl refl));
  loud = record { loud = λ after loud closed. loud };
  means = refl;
  at = refl;
  shows = refl;
}
source_is kinds names counts tables is_typed place (ImplicitDef number) are none fits range = record {
  says = says_token (lexeme OfWord (codes "implicit-def")) (what.Word word.ImplicitDef) _ (what.Physical number ∷ []) [] refl refl refl
      (says_spaces 1 _ _ _ (says_one (lexeme OfPhysical (36 ∷ 120 ∷ decimal number)) (what.Physical number) (physical_is number range) refl refl));
  loud = record { loud = λ after loud closed. loud };
  means = refl;
  at = refl;
  shows = refl;
}
source_is kinds names counts tables is_typed place (Int value) are none fits range =
    let writes : WritesWhole value = whole_written value fits in
    let bytes = signed_decimal value in
    record {
      says = says_one (lexeme OfNumber bytes) (what.Number (number_written bytes) true) (ap (what.Number (number_written bytes)) writes.plain) (ap not writes.sized) refl;
      loud = record { loud = λ after loud closed. loud };
      means = ap (λ v. Some (Int v)) writes.means;
      at = refl;
      shows = refl;
    }
source_is kinds names counts tables is_typed place (Constant bits value) are none fits range =
    let parts = and_parts (nat_le bits 65535) (nat_lt value (2 ^ 128)) fits in
    let within : bits ≤ 65535 = (let test = parts.0 in grind (arith, nat_tests)) in
    let below : value < 2 ^ 128 = (let test = parts.1 in grind (arith, nat_tests)) in
    let one = constant_is tables bits value within below range in
    record { says = one.says; loud = one.loud; means = one.means; at = one.at; shows = ap (λ shown. option_map_or (type_at (types_by kinds)) shown true) one.shows }
source_is kinds names counts tables is_typed place (Block number) are none fits range =
    let few = are.few in
    let there : number < counts.blocks = grind (arith, nat_tests) in
    let within : number < 4294901760 = omega arith in
    record {
      says = says_one (lexeme OfRegister (codes "%bb." ++ decimal number)) (what.Block number) (block_is number within) refl refl;
      loud = block_loud number;
      means = ap (λ n. Some (Block n)) (are.placed number there);
      at = refl;
      shows = refl;
    }
source_is kinds names counts tables is_typed place (Predicate pred) are none fits range = record {
  says = says_token (lexeme OfWord (codes "intpred")) (what.Word word.Comparison) _ _ [] refl refl refl
      (says_token (lexeme OfMark (40 ∷ [])) what.Open _ _ [] refl refl refl
      (says_token (lexeme OfWord (predicate_word pred)) (what.Word (word.Predicate pred)) _ _ [] (ap what.Word (predicate_is pred)) refl refl
      (says_one (lexeme OfMark (41 ∷ [])) what.Close refl refl refl)));
  loud = record { loud = λ after loud closed. loud };
  means = refl;
  at = refl;
  shows = refl;
}
source_is kinds names counts tables is_typed place (Frame number) are none fits range =
    let parts = and_parts (nat_lt number counts.objects) (nat_le number 4294967294) fits in
    let within : number < 4294967295 = (let test = parts.1 in grind (arith, nat_tests)) in
    let there : nat_lt number tables.objects ≡ true = ap (nat_lt number) are.objects ∙ parts.0 in
    record {
      says = says_one (lexeme OfRegister (codes "%stack." ++ decimal number)) (what.Frame number) (frame_is number within) refl refl;
      loud = record { loud = λ after loud closed. loud };
      means = rw there refl;
      at = refl;
      shows = refl;
    }
source_is kinds names counts tables is_typed place (Global flag name) are none fits range = record {
  says = says_flag flag (token OfGlobal (64 ∷ name_at names name) ∷ []) (what.Global ∷ []) (name_at names name ∷ []) (says_global (name_at names name));
  loud = flag_loud flag what.Global (record { loud = λ after loud closed. loud });
  means = refl;
  at = refl;
  shows = refl;
}
source_is kinds names counts tables is_typed place (Routine flag number) are none fits range = record {
  says = says_flag flag (token OfRoutine (38 ∷ name_at routine_names number) ∷ []) (what.Routine number ∷ []) []
      (says_one (lexeme OfRoutine (38 ∷ name_at routine_names number)) (what.Routine number) (routine_is number fits) refl refl);
  loud = flag_loud flag (what.Routine number) (record { loud = λ after loud closed. loud });
  means = refl;
  at = refl;
  shows = refl;
}
source_is kinds names counts tables is_typed place SavedMask are none fits range = record {
  says = says_one (lexeme OfWord (codes "csr_ilp32_lp64")) (what.Word word.SavedMask) refl refl refl;
  loud = record { loud = λ after loud closed. loud };
  means = refl;
  at = refl;
  shows = refl;
}
