-- The operands of a line as it is printed are written operands that mean them.
use Rattle.std.proofs.Common.{◌≡◌, ℕ, ◌<◌, ◌≤◌, Bool, true, false, List, [], ◌∷◌, ◌++◌, Option, Some, None, map, refl, sym, ap, ◌∙◌, subst, append_assoc, arith}
use Rattle.gi_mir.specs.Names.{name_at}
use Rattle.std.specs.Prelude.{◌==◌, filter_map, length, nat_lt, unwrap_or, if◌then◌else◌}
use Rattle.std.specs.Fmt.{signed_decimal}
use Rattle.std.specs.List.{list_all, AllZip}
use Rattle.std.specs.Option.{option_map_or}
use Rattle.std.specs.Cmp.Derive.{both_true}
use Rattle.std.proofs.lemmas.Bool.{and_parts, not-true, false≢true}
use Rattle.std.proofs.lemmas.Bool.Decides.{nat_tests}
use Rattle.std.proofs.lemmas.Option.{slice_get_past, unwrap_or-slice_get}
use Rattle.gi_llt.specs.Bits.{signed}
use Rattle.gi_llt.specs.declared.Llt.{Llt}
use Rattle.gi_llt.specs.Tokens.{Mark as OfMark, lexeme, Spaces}
use Rattle.gi_mir.specs.declared.operand.Kind.{Kind}
use Rattle.gi_mir.specs.declared.operand.Kind.TheVariants.{Class}
use Rattle.gi_mir.specs.declared.operand.Operand.{Operand}
use Rattle.gi_mir.specs.declared.operand.Operand.TheVariants.{Use, Constant, Global}
use Rattle.gi_mir.specs.declared.operand.Reg.{Reg}
use Rattle.gi_mir.specs.declared.row.Form.{Form}
use Rattle.gi_mir.specs.Formed.{is_in_range}
use Rattle.gi_mir.specs.Registers.{type_of_kind}
use Rattle.gi_spelling.specs.declared.token.What.{What}
use Rattle.gi_spelling.specs.declared.token.What.TheVariants as what
use Rattle.gi_spelling.specs.declared.written.Source.{Source}
use Rattle.gi_spelling.specs.declared.written.Source.TheVariants as source
use Rattle.gi_spelling.specs.Words.{number_written, is_plain_signed}
use Rattle.gi_spelling.specs.Blocks.{typed_use}
use Rattle.gi_spelling.specs.Documents.{is_name}
use Rattle.gi_spelling.specs.Named.{name_of_token, IsNamedOperand}
use Rattle.gi_spelling.specs.Printable.{Counts, is_writable_operand}
use Rattle.gi_spelling.specs.Printed.{mark, listed, operand_pieces, is_definition, is_typed_by, forms_after, source_pieces, definition_pieces}
use Rattle.gi_spelling.specs.Resolved.{Tables, resolved_source, resolved_definition, each}
use Rattle.gi_spelling.specs.Spelling.{definition_whats, source_whats, listed_whats, place_of_source, type_at}
use Rattle.gi_spelling.proofs.KeptLines.{are_loud}
use Rattle.gi_spelling.proofs.PrintedPieces.{Says, says_nothing, says_both, says_spaces, says_token}
use Rattle.gi_spelling.proofs.PrintedOperands.{IsLoud, definition_of, definition_is, use_source, source_of, name_in, placed_at, listed_name, place_of_name, AreTables, types_by, source_is}
use Rattle.gi_spelling.proofs.PrintedForms.{is_source, first_place, places_after, placed_operands}

-- ══ Lists ══

loud_listed : (ws vs : List What) → IsLoud ws → IsLoud vs → IsLoud (ws ++ (what.Comma ∷ vs))
loud_listed ws vs first later = record {
  loud = λ after loud closed.
      ap are_loud (append_assoc ws (what.Comma ∷ vs) after) ∙ first.loud (what.Comma ∷ (vs ++ after)) (later.loud after loud closed) refl;
}

no_loud : IsLoud []
no_loud = record { loud = λ after loud closed. loud }

filter_step : {X Y : Type 0} (h : X → Option Y) (x : X) (xs : List X) (o : Option Y) → h x ≡ o → filter_map h (x ∷ xs) ≡ filter_map (λ (p : Option Y). p) (o ∷ []) ++ filter_map h xs
filter_step h x xs None is = rw is refl
filter_step h x xs (Some y) is = rw is refl

name_listed : (o : Option (List ℕ)) → listed_name o ≡ filter_map (λ (p : Option (List ℕ)). p) (o ∷ [])
name_listed None = refl
name_listed (Some name) = refl

names_step : (names : List (List ℕ)) (operand : Operand) (operands : List Operand)
    → listed_name (name_in names operand) ++ filter_map (name_in names) operands ≡ filter_map (name_in names) (operand ∷ operands)
names_step names operand operands =
    ap (λ front. front ++ filter_map (name_in names) operands) (name_listed (name_in names operand)) ∙ sym (filter_step (name_in names) operand operands (name_in names operand) refl)

each_step : {X Y : Type 0} (meaning : X → Option Y) (x : X) (xs : List X) (y : Y) (ys : List Y) → meaning x ≡ Some y → each meaning xs ≡ Some ys → each meaning (x ∷ xs) ≡ Some (y ∷ ys)
each_step meaning x xs y ys one later = rw (one, later) refl

-- ══ Definitions ══

pub record AreDefinitions (operands : List Operand) : Type 0 where
  pub says : Says (listed (definition_pieces operands)) (listed_whats (map definition_whats (map definition_of operands))) []
  pub loud : IsLoud (listed_whats (map definition_whats (map definition_of operands)))
  pub means : each (resolved_definition []) (map definition_of operands) ≡ Some operands

pub definitions_are : (names : List (List ℕ)) (counts : Counts) (operands : List Operand) → list_all is_definition operands ≡ true → list_all (is_writable_operand names counts) operands ≡ true
    → list_all is_in_range operands ≡ true → AreDefinitions operands
definitions_are names counts [] define fit range = record { says = says_nothing; loud = no_loud; means = refl }
definitions_are names counts (operand ∷ []) define fit range =
    let one = definition_is names counts operand (and_parts (is_definition operand) true define).0 (and_parts (is_writable_operand names counts operand) true fit).0 (and_parts (is_in_range operand) true range).0 in
    record { says = one.says; loud = one.loud; means = each_step (resolved_definition []) (definition_of operand) [] operand [] one.means refl }
definitions_are names counts (operand ∷ next ∷ operands) define fit range =
    let defines = and_parts (is_definition operand) (list_all is_definition (next ∷ operands)) define in
    let fits = and_parts (is_writable_operand names counts operand) (list_all (is_writable_operand names counts) (next ∷ operands)) fit in
    let ranges = and_parts (is_in_range operand) (list_all is_in_range (next ∷ operands)) range in
    let one = definition_is names counts operand defines.0 fits.0 ranges.0 in
    let later = definitions_are names counts (next ∷ operands) defines.1 fits.1 ranges.1 in
    let cells = definition_pieces (next ∷ operands) in
    let written = map definition_whats (map definition_of (next ∷ operands)) in
    record {
      says = says_both (operand_pieces (λ reg. Class) [] false operand) (mark 44 ∷ Spaces 1 ∷ listed cells) (definition_whats (definition_of operand)) (what.Comma ∷ listed_whats written) [] [] one.says
          (says_token (lexeme OfMark (44 ∷ [])) what.Comma (Spaces 1 ∷ listed cells) (listed_whats written) [] refl refl refl (says_spaces 1 (listed cells) (listed_whats written) [] later.says));
      loud = loud_listed (definition_whats (definition_of operand)) (listed_whats written) one.loud later.loud;
      means = each_step (resolved_definition []) (definition_of operand) (map definition_of (next ∷ operands)) operand (next ∷ operands) one.means later.means;
    }

-- ══ Other operands ══

-- what operands are written as, where the tokens of their names stand at places
abbrev pub sources_at : (kinds : ℕ → Kind) (names : List (List ℕ)) (forms : List Form) (places : List ℕ) → List Operand → List Source
sources_at kinds names forms places [] = []
sources_at kinds names forms places (operand ∷ operands) =
    source_of kinds (is_typed_by forms) (first_place places) operand ∷ sources_at kinds names (forms_after forms) (places_after (name_in names operand) places) operands

pub record AreSources (kinds : ℕ → Kind) (names : List (List ℕ)) (tables : Tables) (forms : List Form) (places : List ℕ) (operands : List Operand) : Type 0 where
  pub says : Says (listed (source_pieces kinds names forms operands)) (listed_whats (map source_whats (sources_at kinds names forms places operands))) (filter_map (name_in names) operands)
  pub loud : IsLoud (listed_whats (map source_whats (sources_at kinds names forms places operands)))
  pub means : each (resolved_source tables) (sources_at kinds names forms places operands) ≡ Some (placed_operands names places operands)
  pub shows : list_all (type_at (types_by kinds)) (filter_map typed_use (sources_at kinds names forms places operands)) ≡ true

shows_step : (kinds : ℕ → Kind) (s : Source) (sources : List Source) → option_map_or (type_at (types_by kinds)) (typed_use s) true ≡ true
    → list_all (type_at (types_by kinds)) (filter_map typed_use sources) ≡ true → list_all (type_at (types_by kinds)) (filter_map typed_use (s ∷ sources)) ≡ true
shows_step kinds s sources one later = chosen (typed_use s) refl one
  where
    chosen : (shown : _) → typed_use s ≡ shown → option_map_or (type_at (types_by kinds)) shown true ≡ true → list_all (type_at (types_by kinds)) (filter_map typed_use (s ∷ sources)) ≡ true
    chosen None is fine = rw is later
    chosen (Some shown) is fine = rw is (both_true fine later)

pub sources_are : (kinds : ℕ → Kind) (names : List (List ℕ)) (counts : Counts) (tables : Tables) (forms : List Form) (places : List ℕ) (operands : List Operand) → AreTables counts tables kinds
    → list_all is_source operands ≡ true → list_all (is_writable_operand names counts) operands ≡ true → list_all is_in_range operands ≡ true → AreSources kinds names tables forms places operands
sources_are kinds names counts tables forms places [] are none fit range = record { says = says_nothing; loud = no_loud; means = refl; shows = refl }
sources_are kinds names counts tables forms places (operand ∷ []) are none fit range =
    let source = not-true (is_definition operand) (and_parts (is_source operand) true none).0 in
    let one = source_is kinds names counts tables (is_typed_by forms) (first_place places) operand are source (and_parts (is_writable_operand names counts operand) true fit).0 (and_parts (is_in_range operand) true range).0 in
    let s = source_of kinds (is_typed_by forms) (first_place places) operand in
    let Named : List (List ℕ) → Type 0 = λ found. Says (operand_pieces kinds names (is_typed_by forms) operand) (source_whats s) found in
    record {
      says = subst Named (name_listed (name_in names operand)) one.says;
      loud = one.loud;
      means = each_step (resolved_source tables) s [] (placed_at (first_place places) operand) [] one.means refl;
      shows = shows_step kinds s [] one.shows refl;
    }
sources_are kinds names counts tables forms places (operand ∷ next ∷ operands) are none fit range =
    let nones = and_parts (is_source operand) (list_all is_source (next ∷ operands)) none in
    let fits = and_parts (is_writable_operand names counts operand) (list_all (is_writable_operand names counts) (next ∷ operands)) fit in
    let ranges = and_parts (is_in_range operand) (list_all is_in_range (next ∷ operands)) range in
    let one = source_is kinds names counts tables (is_typed_by forms) (first_place places) operand are (not-true (is_definition operand) nones.0) fits.0 ranges.0 in
    let more = places_after (name_in names operand) places in
    let later = sources_are kinds names counts tables (forms_after forms) more (next ∷ operands) are nones.1 fits.1 ranges.1 in
    let s = source_of kinds (is_typed_by forms) (first_place places) operand in
    let sources = sources_at kinds names (forms_after forms) more (next ∷ operands) in
    let cells = source_pieces kinds names (forms_after forms) (next ∷ operands) in
    let written = map source_whats sources in
    let found = filter_map (name_in names) (next ∷ operands) in
    let Named : List (List ℕ) → Type 0 = λ all. Says (listed (source_pieces kinds names forms (operand ∷ next ∷ operands))) (listed_whats (map source_whats (s ∷ sources))) all in
    record {
      says = subst Named (names_step names operand (next ∷ operands))
          (says_both (operand_pieces kinds names (is_typed_by forms) operand) (mark 44 ∷ Spaces 1 ∷ listed cells) (source_whats s) (what.Comma ∷ listed_whats written) (listed_name (name_in names operand)) found one.says
          (says_token (lexeme OfMark (44 ∷ [])) what.Comma (Spaces 1 ∷ listed cells) (listed_whats written) found refl refl refl (says_spaces 1 (listed cells) (listed_whats written) found later.says)));
      loud = loud_listed (source_whats s) (listed_whats written) one.loud later.loud;
      means = each_step (resolved_source tables) s sources (placed_at (first_place places) operand) (placed_operands names more (next ∷ operands)) one.means later.means;
      shows = shows_step kinds s sources one.shows later.shows;
    }

-- ══ The places of names ══

-- each name stands at its place
pub record AreNamed (text : List ℕ) (names : List (List ℕ)) (places : List ℕ) (operands : List Operand) : Type 0 where
  pub same : map (name_of_token text) places ≡ filter_map (name_in names) operands

source_place : (kinds : ℕ → Kind) (names : List (List ℕ)) (is_typed : Bool) (place : ℕ) (operand : Operand) → place_of_source (source_of kinds is_typed place operand) ≡ place_of_name (name_in names operand) place
source_place kinds names is_typed place (Use reg) = use_place reg (if is_typed then type_of_kind (kinds reg.0) else None)
  where
    use_place : (reg : Reg) (shown : Option Llt) → place_of_source (use_source reg shown) ≡ None
    use_place reg None = refl
    use_place reg (Some ty) = refl
source_place kinds names is_typed place (Constant bits value) = constant_place (bits == 1)
  where
    constant_place : (bit : Bool)
        → place_of_source (if bit then source.Truth bits (value == 1) else source.Constant bits (number_written (signed_decimal (signed bits value))) (is_plain_signed (signed_decimal (signed bits value)))) ≡ None
    constant_place true = refl
    constant_place false = refl
source_place kinds names is_typed place _ = refl

pub places_found : (text : List ℕ) (kinds : ℕ → Kind) (names : List (List ℕ)) (forms : List Form) (places : List ℕ) (operands : List Operand) → AreNamed text names places operands
    → filter_map place_of_source (sources_at kinds names forms places operands) ≡ places
places_found text kinds names forms [] [] are = refl
places_found text kinds names forms (place ∷ places) [] are = absurd (let e = are.same in cc)
places_found text kinds names forms places (operand ∷ operands) are =
    chosen (name_in names operand) refl places are.same
    (λ more e. places_found text kinds names (forms_after forms) more operands (record { same = e }))
  where
    chosen : (o : Option (List ℕ)) → name_in names operand ≡ o → (places : List ℕ) → map (name_of_token text) places ≡ filter_map (name_in names) (operand ∷ operands)
        → ((more : List ℕ) → map (name_of_token text) more ≡ filter_map (name_in names) operands → filter_map place_of_source (sources_at kinds names (forms_after forms) more operands) ≡ more)
        → filter_map place_of_source (sources_at kinds names forms places (operand ∷ operands)) ≡ places
    chosen None is places e later =
        let nowhere : place_of_source (source_of kinds (is_typed_by forms) (first_place places) operand) ≡ None =
        source_place kinds names (is_typed_by forms) (first_place places) operand ∙ ap (λ o. place_of_name o (first_place places)) is in
        let rest : map (name_of_token text) places ≡ filter_map (name_in names) operands = e ∙ filter_step (name_in names) operand operands None is in
        rw (nowhere, is) (later places rest)
    chosen (Some name) is [] e later =
        let rest : [] ≡ name ∷ filter_map (name_in names) operands = e ∙ filter_step (name_in names) operand operands (Some name) is in
        absurd (cc)
    chosen (Some name) is (place ∷ places) e later =
        let here : place_of_source (source_of kinds (is_typed_by forms) place operand) ≡ Some place =
        source_place kinds names (is_typed_by forms) place operand ∙ ap (λ o. place_of_name o place) is in
        let both : name_of_token text place ∷ map (name_of_token text) places ≡ name ∷ filter_map (name_in names) operands = e ∙ filter_step (name_in names) operand operands (Some name) is in
        let rest : map (name_of_token text) places ≡ filter_map (name_in names) operands = cc in
        rw (here, is) (ap (λ more. place ∷ more) (later places rest))

-- the number of a name that is a name
name_within : (names : List (List ℕ)) (number : ℕ) → is_name (name_at names number) ≡ true → number < length names
name_within names number named = chosen (nat_lt number (length names)) refl
  where
    chosen : (within : Bool) → nat_lt number (length names) ≡ within → number < length names
    chosen true is = grind (arith, nat_tests)
    chosen false is =
        let past : length names ≤ number = grind (arith, nat_tests) in
        let none : is_name (name_at names number) ≡ false = ap is_name (sym (unwrap_or-slice_get names number []) ∙ ap (λ o. unwrap_or o []) (slice_get_past names number past)) in
        absurd (false≢true (sym none ∙ named))

pub operands_named : (text : List ℕ) (names : List (List ℕ)) (counts : Counts) (places : List ℕ) (operands : List Operand) → AreNamed text names places operands
    → list_all (is_writable_operand names counts) operands ≡ true → AllZip (IsNamedOperand text names) (placed_operands names places operands) operands
operands_named text names counts places [] are fit = tt
operands_named text names counts [] (Global flag name ∷ operands) are fit = absurd (let e = are.same in cc)
operands_named text names counts (place ∷ places) (Global flag name ∷ operands) are fit =
    let parts = and_parts (is_name (name_at names name)) (list_all (is_writable_operand names counts) operands) fit in
    let e = are.same in
    let here : name_of_token text place ≡ name_at names name = cc in
    let rest : map (name_of_token text) places ≡ filter_map (name_in names) operands = cc in (
      record { number = name; same = refl; within = name_within names name parts.0; named = sym here },
      operands_named text names counts places operands (record { same = rest }) parts.1,
    )
operands_named text names counts places (operand ∷ operands) are fit =
    (refl, operands_named text names counts places operands (record { same = are.same }) (and_parts (is_writable_operand names counts operand) (list_all (is_writable_operand names counts) operands) fit).1)
