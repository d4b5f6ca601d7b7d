-- An instruction that a line spells can be written again.
use Rattle.std.proofs.Common.{◌≡◌, ℕ, zero, suc, ◌+◌, ◌-◌, ◌/◌, ◌%◌, ◌<◌, ◌≤◌, Bool, true, false, List, [], ◌∷◌, ◌++◌, length, Option, Some, None, map, refl, sym, ap, ◌∙◌, subst, arith}
use Rattle.std.specs.Prelude.{◌^◌, ◌&&◌, ◌==◌, nat_lt, nat_le, min, if◌then◌else◌, option_map, filter_map, pos, neg_ℤ}
use Rattle.std.specs.List.{list_all, cons_option, AllByRecursion, AllZip}
use Rattle.std.specs.Option.{option_map_or}
use Rattle.std.specs.Cmp.Derive.{both_true}
use Rattle.std.proofs.Math.Nat.{pow-le-pow_right, one-le-pow, mod-lt, div-le_self}
use Rattle.std.proofs.lemmas.Bool.{and_parts}
use Rattle.std.proofs.lemmas.Bool.Decides.{nat_tests}
use Rattle.std.proofs.lemmas.List.Folds.{list_all-append}
use Rattle.gi_llt.specs.declared.Llt.{Llt}
use Rattle.gi_llt.specs.declared.Llt.TheVariants.{Scalar, Pointer}
use Rattle.gi_text.specs.declared.token.Number.{Number as NumberData}
use Rattle.gi_mir.specs.declared.operand.Kind.TheVariants as kind
use Rattle.gi_mir.specs.declared.operand.MemOp.{MemOp}
use Rattle.gi_mir.specs.declared.operand.Operand.{Operand}
use Rattle.gi_mir.specs.declared.operand.Operand.TheVariants as operand
use Rattle.gi_mir.specs.declared.operand.Reg.{Reg}
use Rattle.gi_mir.specs.declared.operand.SymbolFlag.{SymbolFlag}
use Rattle.gi_mir.specs.declared.operand.SymbolFlag.TheVariants as symbol_flag
use Rattle.gi_mir.specs.Data.{InstrData}
use Rattle.gi_mir.specs.Formed.{is_formed}
use Rattle.gi_mir.specs.Routines.{routine_names}
use Rattle.gi_spelling.specs.Lines.{Line}
use Rattle.gi_spelling.specs.Named.{IsNamedOperand}
use Rattle.gi_spelling.specs.Printable.{is_writable_register, is_writable_type, is_writable_kind, is_whole, Counts, is_writable_operand, is_writable_access, is_writable_memory, IsPrintableInstr}
use Rattle.gi_spelling.specs.Printed.{usual_align}
use Rattle.gi_spelling.specs.Documents.{is_name}
use Rattle.gi_spelling.specs.Resolved.{Tables, class_in, typed_by, bare_by, resolved_definition, is_below_zero, is_in_width, constant_value, resolved_constant, resolved_truth, whole_number, resolved_source, is_written_alignment, aligned, resolved_memory, each, formed, resolved}
use Rattle.gi_spelling.specs.Spelling.{definition_whats, source_whats, listed_whats, defined_whats, flags_whats, word_what, align_whats, type_whats, memory_whats, whats_of, place_of_source, places_of, SpellsInstr}
use Rattle.gi_spelling.specs.There.{is_there_in, names_there}
use Rattle.gi_spelling.specs.Words.{greatest_width, greatest_size}
use Rattle.gi_spelling.specs.Written.{WrittenData}
use Rattle.gi_spelling.specs.declared.token.RegisterClass.{RegisterClass}
use Rattle.gi_spelling.specs.declared.token.RegisterClass.TheVariants as class
use Rattle.gi_spelling.specs.declared.token.Word.TheVariants as word
use Rattle.gi_spelling.specs.declared.token.What.{What}
use Rattle.gi_spelling.specs.declared.token.What.TheVariants as what
use Rattle.gi_spelling.specs.declared.written.Definition.{Definition}
use Rattle.gi_spelling.specs.declared.written.Definition.TheVariants as definition
use Rattle.gi_spelling.specs.declared.written.Source.{Source}
use Rattle.gi_spelling.specs.declared.written.Source.TheVariants as source
use Rattle.gi_spelling.specs.declared.written.Memory.{Memory}
use Rattle.gi_spelling.proofs.AlikeFormed.{IsAlike, formed_alike, named_alike}
use Rattle.gi_spelling.proofs.ItemBounds.{is_token, names_at, kept_fine, tokens_fine, places_fine}
use Rattle.gi_spelling.proofs.Zips.{zip_weaker}

-- ══ Written parts, from their tokens ══

pub listed_fine : {X : Type 0} (spell : X → List What) (xs : List X) → list_all is_token (listed_whats (map spell xs)) ≡ true → AllByRecursion (λ x. list_all is_token (spell x) ≡ true) xs
listed_fine spell [] all = tt
listed_fine spell (x ∷ []) all = (all, tt)
listed_fine spell (x ∷ next ∷ more) all =
    let later = listed_whats (map spell (next ∷ more)) in
    let parts = and_parts (list_all is_token (spell x)) (list_all is_token later) (sym (list_all-append is_token (spell x) (what.Comma ∷ later)) ∙ all) in
    (parts.0, listed_fine spell (next ∷ more) parts.1)

defined_fine : (ds : List Definition) → list_all is_token (defined_whats (map definition_whats ds)) ≡ true → AllByRecursion (λ d. list_all is_token (definition_whats d) ≡ true) ds
defined_fine [] all = tt
defined_fine (d ∷ ds) all =
    let whats = listed_whats (map definition_whats (d ∷ ds)) in
    listed_fine definition_whats (d ∷ ds) (and_parts (list_all is_token whats) (list_all is_token (what.Equals ∷ [])) (sym (list_all-append is_token whats (what.Equals ∷ [])) ∙ all)).0

abbrev IsPlaced : (text : List ℕ) → Source → Type 0
IsPlaced text s = option_map_or (names_at text) (place_of_source s) true ≡ true

placed_fine : (text : List ℕ) (ss : List Source) → list_all (names_at text) (filter_map place_of_source ss) ≡ true → AllByRecursion (IsPlaced text) ss
placed_fine text [] all = tt
placed_fine text (s ∷ ss) all = chosen (place_of_source s) refl all (placed_fine text ss)
  where
    chosen : (o : Option ℕ) → place_of_source s ≡ o → list_all (names_at text) (cons_option o (filter_map place_of_source ss)) ≡ true
        → (list_all (names_at text) (filter_map place_of_source ss) ≡ true → AllByRecursion (IsPlaced text) ss) → IsPlaced text s × AllByRecursion (IsPlaced text) ss
    chosen None is all later = (ap (λ o. option_map_or (names_at text) o true) is, later all)
    chosen (Some place) is all later =
        let parts = and_parts (names_at text place) (list_all (names_at text) (filter_map place_of_source ss)) all in
        (ap (λ o. option_map_or (names_at text) o true) is ∙ parts.0, later parts.1)

-- ══ Operands ══

-- what can be said of an operand in which a global has the place of its token
abbrev is_read_operand : (text : List ℕ) (objects : ℕ) → Operand → Bool
is_read_operand text objects (operand.Def reg kind) = is_writable_register reg.0 && is_writable_kind kind
is_read_operand text objects (operand.Use reg) = is_writable_register reg.0
is_read_operand text objects (operand.Int value) = is_whole value
is_read_operand text objects (operand.Constant bits value) = nat_le bits greatest_width && nat_lt value (2 ^ 128)
is_read_operand text objects (operand.Frame place) = nat_lt place objects && is_writable_register place
is_read_operand text objects (operand.Global flag place) = names_at text place
is_read_operand text objects (operand.Routine flag place) = nat_lt place (length routine_names)
is_read_operand text objects o = true

some_fine : (p : Operand → Bool) (a o : Operand) → Some a ≡ Some o → p a ≡ true → p o ≡ true
some_fine p a o is fine = let same : a ≡ o = cc in subst (λ o. p o ≡ true) same fine

module _ (text : List ℕ) (objects : ℕ) where
  abbrev is_read : Operand → Bool
  is_read o = is_read_operand text objects o

  bare_fine : (reg : Reg) (c : Option RegisterClass) (o : Operand) → is_writable_register reg.0 ≡ true → bare_by reg c ≡ Some o → is_read o ≡ true
  bare_fine reg None o fine is = absurd (cc)
  bare_fine reg (Some class.Generic) o fine is = absurd (cc)
  bare_fine reg (Some class.Banked) o fine is = absurd (cc)
  bare_fine reg (Some class.General) o fine is = some_fine is_read (operand.Def reg kind.Class) o is (both_true fine refl)

  typed_fine : (reg : Reg) (ty : Llt) (c : Option RegisterClass) (o : Operand) → is_writable_register reg.0 ≡ true → is_writable_type ty ≡ true → typed_by reg ty c ≡ Some o → is_read o ≡ true
  typed_fine reg ty None o fine type is = absurd (cc)
  typed_fine reg ty (Some class.Generic) o fine type is = some_fine is_read (operand.Def reg (kind.Generic ty)) o is (both_true fine type)
  typed_fine reg ty (Some class.Banked) o fine type is = some_fine is_read (operand.Def reg (kind.Banked ty)) o is (both_true fine type)
  typed_fine reg ty (Some class.General) o fine type is = absurd (cc)

  definition_fine : (classes : List (ℕ × RegisterClass)) (d : Definition) (o : Operand) → list_all is_token (definition_whats d) ≡ true → resolved_definition classes d ≡ Some o → is_read o ≡ true
  definition_fine classes (definition.Bare reg) o all is = bare_fine reg (class_in classes reg) o (and_parts (is_writable_register reg.0) true all).0 is
  definition_fine classes (definition.Typed reg ty) o all is =
      let parts = and_parts (is_writable_register reg.0) (is_writable_type ty && true) all in
      typed_fine reg ty (class_in classes reg) o parts.0 (and_parts (is_writable_type ty) true parts.1).0 is
  definition_fine classes (definition.Full reg (kind.Generic ty)) o all is =
      let parts = and_parts (is_writable_register reg.0) (is_writable_type ty && true) all in
      some_fine is_read (operand.Def reg (kind.Generic ty)) o is (both_true parts.0 (and_parts (is_writable_type ty) true parts.1).0)
  definition_fine classes (definition.Full reg (kind.Banked ty)) o all is =
      let parts = and_parts (is_writable_register reg.0) (is_writable_type ty && true) all in
      some_fine is_read (operand.Def reg (kind.Banked ty)) o is (both_true parts.0 (and_parts (is_writable_type ty) true parts.1).0)
  definition_fine classes (definition.Full reg kind.Class) o all is =
      some_fine is_read (operand.Def reg kind.Class) o is (both_true (and_parts (is_writable_register reg.0) true all).0 refl)
  definition_fine classes (definition.Physical number) o all is = some_fine is_read (operand.PhysDef number) o is refl

-- ══ Numbers ══

least_below : (n k : ℕ) → k < 2 ^ 127 → nat_lt (min n k) (2 ^ 127) ≡ true
least_below n k less = grind (arith, nat_tests, less)

negative_whole : (n : ℕ) → n ≤ 2 ^ 127 → is_whole (neg_ℤ (pos n)) ≡ true
negative_whole zero less = refl
negative_whole (suc n) less = grind (arith, nat_tests, less)

whole_fine : (number : NumberData) → is_whole (whole_number number) ≡ true
whole_fine number = chosen number.negative
  where
    chosen : (b : Bool) → is_whole (if b then neg_ℤ (pos (min number.size (2 ^ 127))) else pos (min number.size (2 ^ 127 - 1))) ≡ true
    chosen true = negative_whole (min number.size (2 ^ 127)) (omega arith)
    chosen false = least_below number.size (2 ^ 127 - 1) (omega arith)

power_below : (bits : ℕ) → 2 ^ min bits 128 ≤ 2 ^ 128
power_below bits = pow-le-pow_right {n = 2} (omega arith) {i = min bits 128} {j = 128} (omega arith)

remainder_below : (n m bound : ℕ) → 1 ≤ m → m ≤ bound → nat_lt (n % m) bound ≡ true
remainder_below n m bound some fits =
    let less : n % m < m = mod-lt n some in
    grind (arith, nat_tests, less, fits)

constant_fine : (bits : ℕ) (number : NumberData) → number.size < 2 ^ 128 → nat_lt (constant_value bits number) (2 ^ 128) ≡ true
constant_fine bits number less = chosen (is_below_zero number)
  where
    chosen : (b : Bool) → nat_lt (if b then (2 ^ min bits 128 - number.size % 2 ^ min bits 128) % 2 ^ min bits 128 else number.size) (2 ^ 128) ≡ true
    chosen true = remainder_below (2 ^ min bits 128 - number.size % 2 ^ min bits 128) (2 ^ min bits 128) (2 ^ 128) (one-le-pow (min bits 128) 2 (omega arith)) (power_below bits)
    chosen false = grind (arith, nat_tests, less)

module _ (text : List ℕ) (tables : Tables) where
  abbrev is_found : Operand → Bool
  is_found o = is_read_operand text tables.objects o

  source_constant : (bits : ℕ) (number : NumberData) (o : Operand) → nat_le bits greatest_width ≡ true → number.size < 2 ^ 128 → resolved_constant bits number ≡ Some o → is_found o ≡ true
  source_constant bits number o width less is = chosen (is_in_width bits number) is
    where
      chosen : (b : Bool) → (if b then Some (operand.Constant bits (constant_value bits number)) else None) ≡ Some o → is_found o ≡ true
      chosen true is = some_fine is_found (operand.Constant bits (constant_value bits number)) o is (both_true width (constant_fine bits number less))
      chosen false is = absurd (cc)

  source_truth : (bits : ℕ) (truth : Bool) (o : Operand) → resolved_truth bits truth ≡ Some o → is_found o ≡ true
  source_truth bits true o is = chosen (bits == 1) is
    where
      chosen : (b : Bool) → (if b then Some (operand.Constant 1 1) else None) ≡ Some o → is_found o ≡ true
      chosen true is = some_fine is_found (operand.Constant 1 1) o is refl
      chosen false is = absurd (cc)
  source_truth bits false o is = chosen (bits == 1) is
    where
      chosen : (b : Bool) → (if b then Some (operand.Constant 1 0) else None) ≡ Some o → is_found o ≡ true
      chosen true is = some_fine is_found (operand.Constant 1 0) o is refl
      chosen false is = absurd (cc)

  source_frame : (number : ℕ) (o : Operand) → is_writable_register number ≡ true → resolved_source tables (source.Frame number) ≡ Some o → is_found o ≡ true
  source_frame number o fine is = chosen (nat_lt number tables.objects) refl is
    where
      chosen : (b : Bool) → nat_lt number tables.objects ≡ b → (if b then Some (operand.Frame number) else None) ≡ Some o → is_found o ≡ true
      chosen true there is = some_fine is_found (operand.Frame number) o is (both_true there fine)
      chosen false there is = absurd (cc)

  routine_fine : (flag : SymbolFlag) (place : ℕ) → list_all is_token (source_whats (source.Routine flag place)) ≡ true → nat_lt place (length routine_names) ≡ true
  routine_fine symbol_flag.Plain place all = (and_parts (nat_lt place (length routine_names)) true all).0
  routine_fine symbol_flag.Call place all = (and_parts (nat_lt place (length routine_names)) true all).0
  routine_fine symbol_flag.Hi place all = (and_parts (nat_lt place (length routine_names)) true all).0
  routine_fine symbol_flag.Lo place all = (and_parts (nat_lt place (length routine_names)) true all).0

  abbrev IsFit : Source → Type 0
  IsFit s = (list_all is_token (source_whats s) ≡ true) × IsPlaced text s

  source_fine : (s : Source) (o : Operand) → IsFit s → resolved_source tables s ≡ Some o → is_found o ≡ true
  source_fine (source.Use reg) o fit is = some_fine is_found (operand.Use reg) o is (and_parts (is_writable_register reg.0) true fit.0).0
  source_fine (source.TypedUse reg ty) o fit is = some_fine is_found (operand.Use reg) o is (and_parts (is_writable_register reg.0) (is_writable_type ty && true) fit.0).0
  source_fine (source.Physical number) o fit is = some_fine is_found (operand.Phys number) o is refl
  source_fine (source.ImplicitUse number) o fit is = some_fine is_found (operand.ImplicitUse number) o is refl
  source_fine (source.ImplicitDef number) o fit is = some_fine is_found (operand.ImplicitDef number) o is refl
  source_fine (source.Int number) o fit is = some_fine is_found (operand.Int (whole_number number)) o is (whole_fine number)
  source_fine (source.Constant bits number plain) o fit is =
      let parts = and_parts (nat_le bits greatest_width) (nat_lt number.size (2 ^ 128) && true) fit.0 in
      let size : number.size < 2 ^ 128 = let test = (and_parts (nat_lt number.size (2 ^ 128)) true parts.1).0 in grind (arith, nat_tests, test) in
      source_constant bits number o parts.0 size is
  source_fine (source.Truth bits truth) o fit is = source_truth bits truth o is
  source_fine (source.Block number) o fit is = some_fine is_found (operand.Block _) o is refl
  source_fine (source.Predicate pred) o fit is = some_fine is_found (operand.Predicate pred) o is refl
  source_fine (source.Frame number) o fit is = source_frame number o (and_parts (is_writable_register number) true fit.0).0 is
  source_fine (source.Global flag place) o fit is = some_fine is_found (operand.Global flag place) o is fit.1
  source_fine (source.Routine flag place) o fit is = some_fine is_found (operand.Routine flag place) o is (routine_fine flag place fit.0)
  source_fine source.SavedMask o fit is = some_fine is_found operand.SavedMask o is refl

each_fine : {X : Type 0} (meaning : X → Option Operand) (p : Operand → Bool) (Fit : X → Type 0) → ((x : X) (o : Operand) → Fit x → meaning x ≡ Some o → p o ≡ true) → (xs : List X) (os : List Operand)
    → AllByRecursion Fit xs → each meaning xs ≡ Some os → list_all p os ≡ true
each_fine meaning p Fit one [] os all is = let none : [] ≡ os = cc in subst (λ os. list_all p os ≡ true) none refl
each_fine meaning p Fit one (x ∷ xs) os all is = chosen (meaning x) (each meaning xs) refl refl is (λ os. each_fine meaning p Fit one xs os all.1)
  where
    chosen : (first : Option Operand) (later : Option (List Operand)) → meaning x ≡ first → each meaning xs ≡ later → option_map_or (λ y. option_map (λ ys. y ∷ ys) later) first None ≡ Some os
        → ((os : List Operand) → each meaning xs ≡ Some os → list_all p os ≡ true) → list_all p os ≡ true
    chosen None later here there is more = absurd (cc)
    chosen (Some o) None here there is more = absurd (cc)
    chosen (Some o) (Some rest) here there is more =
        let all_are : o ∷ rest ≡ os = cc in
        subst (λ os. list_all p os ≡ true) all_are (both_true (one x o all.0 here) (more rest there))

-- ══ Memory ══

usual_fine : (bits : ℕ) → nat_le bits greatest_width ≡ true → nat_le ((bits + 7) / 8) greatest_size ≡ true
usual_fine bits fine =
    let small : bits ≤ 65535 = grind (arith, nat_tests, fine) in
    let less : (bits + 7) / 8 ≤ bits + 7 = div-le_self (bits + 7) 8 in
    let within : (bits + 7) / 8 ≤ 9223372036854775808 = omega (arith, small, less) in
    grind (arith, nat_tests, within)

usual_align_fine : (ty : Llt) → is_writable_type ty ≡ true → nat_le (usual_align ty) greatest_size ≡ true
usual_align_fine (Scalar bits) fine = usual_fine bits fine
usual_align_fine Pointer fine = refl

least_size : (n : ℕ) → nat_le (min n greatest_size) greatest_size ≡ true
least_size n = grind (arith, nat_tests)

aligned_fine : (memory : Memory) (align : Option ℕ) (m : MemOp) → is_writable_type memory.ty ≡ true → aligned memory align ≡ Some m → is_writable_access m ≡ true
aligned_fine memory None m type is =
    let same : record { load = memory.load; ty = memory.ty; align = usual_align memory.ty } ≡ m = cc in
    subst (λ m. is_writable_access m ≡ true) same (both_true type (usual_align_fine memory.ty type))
aligned_fine memory (Some align) m type is = chosen (is_written_alignment memory.ty (min align greatest_size)) is
  where
    chosen : (b : Bool) → (if b then Some (record { load = memory.load; ty = memory.ty; align = min align greatest_size }) else None) ≡ Some m → is_writable_access m ≡ true
    chosen true is =
        let same : record { load = memory.load; ty = memory.ty; align = min align greatest_size } ≡ m = cc in
        subst (λ m. is_writable_access m ≡ true) same (both_true type (least_size align))
    chosen false is = absurd (cc)

memory_type : (memory : Memory) → list_all is_token (memory_whats (Some memory)) ≡ true → is_writable_type memory.ty ≡ true
memory_type memory all =
    let behind = align_whats memory.align ++ (what.Close ∷ []) in
    let word = and_parts (is_token (word_what (if memory.load then word.Load else word.Store))) (list_all is_token (type_whats memory.ty ++ behind)) all in
    (and_parts (is_writable_type memory.ty) (list_all is_token behind) word.1).0

memory_fine : (memory : Option Memory) (found : Option MemOp) → list_all is_token (memory_whats memory) ≡ true → resolved_memory memory ≡ Some found → is_writable_memory found ≡ true
memory_fine None found all is = let none : None ≡ found = cc in subst (λ found. is_writable_memory found ≡ true) none refl
memory_fine (Some memory) found all is = chosen (aligned memory memory.align) refl is
  where
    chosen : (m : Option MemOp) → aligned memory memory.align ≡ m → option_map (λ m. Some m) m ≡ Some found → is_writable_memory found ≡ true
    chosen None here is = absurd (cc)
    chosen (Some m) here is =
        let same : Some m ≡ found = cc in
        subst (λ found. is_writable_memory found ≡ true) same (aligned_fine memory memory.align m (memory_type memory all) here)

-- ══ A written instruction ══

record IsResolved (tables : Tables) (written : WrittenData) (meant : InstrData) : Type 0 where
  definitions : List Operand
  sources : List Operand
  defined : each (resolved_definition tables.classes) written.definitions ≡ Some definitions
  read : each (resolved_source tables) written.sources ≡ Some sources
  remembered : resolved_memory written.memory ≡ Some meant.mem
  operands : meant.operands ≡ definitions ++ sources
  formed : is_formed meant ≡ true

resolved_parts : (tables : Tables) (written : WrittenData) (line : ℕ) (meant : InstrData) → resolved tables written line ≡ Some meant → IsResolved tables written meant
resolved_parts tables written line meant is =
    chosen (each (resolved_definition tables.classes) written.definitions) (each (resolved_source tables) written.sources) (resolved_memory written.memory) refl refl refl is
  where
    made : (definitions sources : List Operand) (memory : Option MemOp) → each (resolved_definition tables.classes) written.definitions ≡ Some definitions
        → each (resolved_source tables) written.sources ≡ Some sources → resolved_memory written.memory ≡ Some memory → (b : Bool)
        → is_formed (record { op = written.op; flags = written.flags; operands = definitions ++ sources; mem = memory; line = line }) ≡ b
        → (if b then Some (record { op = written.op; flags = written.flags; operands = definitions ++ sources; mem = memory; line = line }) else None) ≡ Some meant → IsResolved tables written meant
    made definitions sources memory first second third false whole is = absurd (cc)
    made definitions sources memory first second third true whole is =
        let same : record { op = written.op; flags = written.flags; operands = definitions ++ sources; mem = memory; line = line } ≡ meant = cc in
        record {
          definitions = definitions;
          sources = sources;
          defined = first;
          read = second;
          remembered = third ∙ ap (λ (i : InstrData). Some i.mem) same;
          operands = sym (ap (λ (i : InstrData). i.operands) same);
          formed = sym (ap is_formed same) ∙ whole;
        }

    chosen : (definitions sources : Option (List Operand)) (memory : Option (Option MemOp)) → each (resolved_definition tables.classes) written.definitions ≡ definitions
        → each (resolved_source tables) written.sources ≡ sources → resolved_memory written.memory ≡ memory
        → option_map_or (λ definitions. option_map_or (λ sources. option_map_or (λ memory.
        formed (record { op = written.op; flags = written.flags; operands = definitions ++ sources; mem = memory; line = line })) memory None) sources None) definitions None ≡ Some meant
        → IsResolved tables written meant
    chosen None sources memory first second third is = absurd (cc)
    chosen (Some definitions) None memory first second third is = absurd (cc)
    chosen (Some definitions) (Some sources) None first second third is = absurd (cc)
    chosen (Some definitions) (Some sources) (Some memory) first second third is = made definitions sources memory first second third (is_formed _) refl is

both_fit : {X : Type 0} (P Q : X → Type 0) (xs : List X) → AllByRecursion P xs → AllByRecursion Q xs → AllByRecursion (λ x. P x × Q x) xs
both_fit P Q [] first second = tt
both_fit P Q (x ∷ xs) first second = ((first.0, second.0), both_fit P Q xs first.1 second.1)

record IsWrittenFine (text : List ℕ) (objects : ℕ) (meant : InstrData) : Type 0 where
  operands : list_all (is_read_operand text objects) meant.operands ≡ true
  memory : is_writable_memory meant.mem ≡ true
  formed : is_formed meant ≡ true

written_fine : (text : List ℕ) (tables : Tables) (written : WrittenData) (line : ℕ) (meant : InstrData) → list_all is_token (whats_of written) ≡ true → list_all (names_at text) (places_of written) ≡ true
    → resolved tables written line ≡ Some meant → IsWrittenFine text tables.objects meant
written_fine text tables written line meant tokens places means =
    let defined = defined_whats (map definition_whats written.definitions) in
    let flags = flags_whats written.flags in
    let op = word_what (word.Opcode written.op) in
    let listed = listed_whats (map source_whats written.sources) in
    let memory = memory_whats written.memory in
    let first = and_parts (list_all is_token defined) (list_all is_token (flags ++ (op ∷ (listed ++ memory)))) (sym (list_all-append is_token defined (flags ++ (op ∷ (listed ++ memory)))) ∙ tokens) in
    let second = and_parts (list_all is_token flags) (list_all is_token (listed ++ memory)) (sym (list_all-append is_token flags (op ∷ (listed ++ memory))) ∙ first.1) in
    let third = and_parts (list_all is_token listed) (list_all is_token memory) (sym (list_all-append is_token listed memory) ∙ second.1) in
    let parts = resolved_parts tables written line meant means in
    let fit = both_fit (λ (s : Source). list_all is_token (source_whats s) ≡ true) (IsPlaced text) written.sources (listed_fine source_whats written.sources third.0) (placed_fine text written.sources places) in
    let definitions : list_all (is_read_operand text tables.objects) parts.definitions ≡ true =
    each_fine (resolved_definition tables.classes) (is_read_operand text tables.objects) (λ (d : Definition). list_all is_token (definition_whats d) ≡ true) (definition_fine text tables.objects tables.classes)
    written.definitions parts.definitions (defined_fine written.definitions first.0) parts.defined in
    let sources : list_all (is_read_operand text tables.objects) parts.sources ≡ true =
    each_fine (resolved_source tables) (is_read_operand text tables.objects) (λ (s : Source). (list_all is_token (source_whats s) ≡ true) × IsPlaced text s) (source_fine text tables)
    written.sources parts.sources fit parts.read in
    record {
      operands = rw parts.operands (list_all-append (is_read_operand text tables.objects) parts.definitions parts.sources ∙ both_true definitions sources);
      memory = memory_fine written.memory meant.mem third.1 parts.remembered;
      formed = parts.formed;
    }

-- ══ Names in place ══

operand_printable : (text : List ℕ) (names : List (List ℕ)) (counts : Counts) (o b : Operand) → IsNamedOperand text names o b → is_read_operand text counts.objects o ≡ true → is_there_in counts.blocks b ≡ true
    → is_writable_operand names counts b ≡ true
operand_printable text names counts (operand.Global flag place) b is fine there = rw is.same (ap is_name is.named ∙ fine)
operand_printable text names counts (operand.Block place) b is fine there = rw is (sym (ap (is_there_in counts.blocks) is) ∙ there)
operand_printable text names counts (operand.Def reg kind) b is fine there = rw is fine
operand_printable text names counts _ b is fine there = rw is fine

operands_printable : (text : List ℕ) (names : List (List ℕ)) (counts : Counts) (xs ys : List Operand) → AllZip (IsNamedOperand text names) xs ys → list_all (is_read_operand text counts.objects) xs ≡ true
    → list_all (is_there_in counts.blocks) ys ≡ true → list_all (is_writable_operand names counts) ys ≡ true
operands_printable text names counts [] [] all fine there = refl
operands_printable text names counts [] (y ∷ ys) all fine there = absurd all
operands_printable text names counts (x ∷ xs) [] all fine there = absurd all
operands_printable text names counts (x ∷ xs) (y ∷ ys) all fine there =
    let first = and_parts (is_read_operand text counts.objects x) (list_all (is_read_operand text counts.objects) xs) fine in
    let second = and_parts (is_there_in counts.blocks y) (list_all (is_there_in counts.blocks) ys) there in
    both_true (operand_printable text names counts x y all.0 first.0 second.0) (operands_printable text names counts xs ys all.1 first.1 second.1)

pub instr_printable : (text : List ℕ) (names : List (List ℕ)) (tables : Tables) (types : ℕ → Option Llt) (count : ℕ) (line : Line) (instr : ℕ × InstrData) → SpellsInstr text names tables types line instr
    → names_there count instr ≡ true → IsPrintableInstr names (record { blocks = count; objects = tables.objects }) instr
instr_printable text names tables types count line instr s there =
    let items = kept_fine text line s.items s.tokens in
    let tokens : list_all is_token (whats_of s.written) ≡ true = sym (ap (list_all is_token) s.spelled.same) ∙ tokens_fine text s.items items in
    let places : list_all (names_at text) (places_of s.written) ≡ true = sym (ap (list_all (names_at text)) s.spelled.places) ∙ places_fine text s.items items in
    let fine = written_fine text tables s.written (instr.1).line s.meant tokens places s.means in
    record {
      formed = formed_alike s.meant instr.1 s.named.op s.named.memory (zip_weaker (IsNamedOperand text names) IsAlike (named_alike text names) (s.meant).operands (instr.1).operands s.named.operands) ∙ fine.formed;
      operands = operands_printable text names (record { blocks = count; objects = tables.objects }) (s.meant).operands (instr.1).operands s.named.operands fine.operands there;
      memory = ap is_writable_memory s.named.memory ∙ fine.memory;
    }
