-- The pieces of a line that are spelled are read: definitions, operands and memory.
use Rattle.std.proofs.Common.{◌≡◌, ℕ, Bool, true, false, List, [], ◌∷◌, ◌++◌, Option, Some, None, Ok, map, refl, sym, ap, ◌∙◌}
use Rattle.std.specs.Prelude.{if◌then◌else◌}
use Rattle.gi_llt.specs.declared.Llt.{Llt}
use Rattle.gi_mir.specs.declared.operand.Kind.TheVariants as kind
use Rattle.gi_mir.specs.declared.operand.SymbolFlag.{SymbolFlag}
use Rattle.gi_mir.specs.declared.operand.SymbolFlag.TheVariants as symbol_flag
use Rattle.gi_spelling.specs.declared.token.RegisterClass.TheVariants as class
use Rattle.gi_spelling.specs.declared.token.Word.TheVariants as word
use Rattle.gi_spelling.specs.declared.token.What.{What}
use Rattle.gi_spelling.specs.declared.token.What.TheVariants as what
use Rattle.gi_spelling.specs.declared.token.Item.{Item}
use Rattle.gi_spelling.specs.declared.written.Definition.{Definition}
use Rattle.gi_spelling.specs.declared.written.Definition.TheVariants as definition
use Rattle.gi_spelling.specs.declared.written.Source.{Source}
use Rattle.gi_spelling.specs.declared.written.Source.TheVariants as source
use Rattle.gi_spelling.specs.declared.written.Memory.{Memory}
use Rattle.gi_spelling.specs.Items.{what_in}
use Rattle.gi_spelling.specs.Reading.{read_definition, read_operand, read_memory}
use Rattle.gi_spelling.specs.Spelling.{word_what, type_whats, definition_whats, source_whats, plain_size, align_whats, name_places}
use Rattle.gi_spelling.proofs.TokenLists.{no_tokens, one_name}

-- ══ Definitions ══

pub definition_read : (d : Definition) (items : List Item) → map what_in items ≡ definition_whats d → read_definition items ≡ Ok d
definition_read (definition.Bare reg) (first ∷ []) e =
    let register : first.what ≡ what.Register reg.0 = cc in
    rw register refl
definition_read (definition.Typed reg ty) (first ∷ second ∷ third ∷ fourth ∷ []) e =
    let register : first.what ≡ what.Register reg.0 = cc in
    let opens : second.what ≡ what.Open = cc in
    let typed : third.what ≡ word_what (word.Type ty) = cc in
    let closes : fourth.what ≡ what.Close = cc in
    rw (register, opens, typed, closes) refl
definition_read (definition.Full reg (kind.Generic ty)) (first ∷ colon ∷ own ∷ second ∷ third ∷ fourth ∷ []) e =
    let register : first.what ≡ what.Register reg.0 = cc in
    let colons : colon.what ≡ what.Colon = cc in
    let classed : own.what ≡ word_what (word.Class class.Generic) = cc in
    let opens : second.what ≡ what.Open = cc in
    let typed : third.what ≡ word_what (word.Type ty) = cc in
    let closes : fourth.what ≡ what.Close = cc in
    rw (register, colons, classed, opens, typed, closes) refl
definition_read (definition.Full reg (kind.Banked ty)) (first ∷ colon ∷ own ∷ second ∷ third ∷ fourth ∷ []) e =
    let register : first.what ≡ what.Register reg.0 = cc in
    let colons : colon.what ≡ what.Colon = cc in
    let classed : own.what ≡ word_what (word.Class class.Banked) = cc in
    let opens : second.what ≡ what.Open = cc in
    let typed : third.what ≡ word_what (word.Type ty) = cc in
    let closes : fourth.what ≡ what.Close = cc in
    rw (register, colons, classed, opens, typed, closes) refl
definition_read (definition.Full reg kind.Class) (first ∷ colon ∷ own ∷ []) e =
    let register : first.what ≡ what.Register reg.0 = cc in
    let colons : colon.what ≡ what.Colon = cc in
    let classed : own.what ≡ word_what (word.Class class.General) = cc in
    rw (register, colons, classed) refl
definition_read (definition.Physical number) (first ∷ []) e =
    let physical : first.what ≡ what.Physical number = cc in
    rw physical refl
definition_read d items e = absurd (cc)

-- ══ Operands ══

-- the place of the one name
name_of_one : (item : Item) → item.what ≡ what.Global → name_places (item ∷ []) ≡ item.start ∷ []
name_of_one item is = (one_name item [] [] [] is no_tokens).at

name_of_flagged : (first second third fourth item : Item) (flag : SymbolFlag)
    → first.what ≡ word_what word.TargetFlags → second.what ≡ what.Open → third.what ≡ word_what (word.SymbolFlag flag) → fourth.what ≡ what.Close → item.what ≡ what.Global
    → name_places (first ∷ second ∷ third ∷ fourth ∷ item ∷ []) ≡ item.start ∷ []
name_of_flagged first second third fourth item flag begins opens flagged closes is = rw (begins, opens, flagged, closes, is) refl

-- a symbol behind its flag
global_call : (typed : Bool) (place : ℕ) (items : List Item) → map what_in items ≡ source_whats (source.Global symbol_flag.Call place) → name_places items ≡ place ∷ []
    → read_operand typed items ≡ Ok (source.Global symbol_flag.Call place)
global_call typed place (first ∷ second ∷ third ∷ fourth ∷ item ∷ []) e at =
    let begins : first.what ≡ word_what word.TargetFlags = cc in
    let opens : second.what ≡ what.Open = cc in
    let flagged : third.what ≡ word_what (word.SymbolFlag symbol_flag.Call) = cc in
    let closes : fourth.what ≡ what.Close = cc in
    let named : item.what ≡ what.Global = cc in
    let here = name_of_flagged first second third fourth item symbol_flag.Call begins opens flagged closes named in
    let same : item.start ≡ place = cc in
    rw (begins, opens, flagged, closes, named, same) refl
global_call typed place items e at = absurd (cc)

routine_call : (typed : Bool) (place : ℕ) (items : List Item) → map what_in items ≡ source_whats (source.Routine symbol_flag.Call place)
    → read_operand typed items ≡ Ok (source.Routine symbol_flag.Call place)
routine_call typed place (first ∷ second ∷ third ∷ fourth ∷ item ∷ []) e =
    let begins : first.what ≡ word_what word.TargetFlags = cc in
    let opens : second.what ≡ what.Open = cc in
    let flagged : third.what ≡ word_what (word.SymbolFlag symbol_flag.Call) = cc in
    let closes : fourth.what ≡ what.Close = cc in
    let named : item.what ≡ what.Routine place = cc in
    rw (begins, opens, flagged, closes, named) refl
routine_call typed place items e = absurd (cc)

global_hi : (typed : Bool) (place : ℕ) (items : List Item) → map what_in items ≡ source_whats (source.Global symbol_flag.Hi place) → name_places items ≡ place ∷ []
    → read_operand typed items ≡ Ok (source.Global symbol_flag.Hi place)
global_hi typed place (first ∷ second ∷ third ∷ fourth ∷ item ∷ []) e at =
    let begins : first.what ≡ word_what word.TargetFlags = cc in
    let opens : second.what ≡ what.Open = cc in
    let flagged : third.what ≡ word_what (word.SymbolFlag symbol_flag.Hi) = cc in
    let closes : fourth.what ≡ what.Close = cc in
    let named : item.what ≡ what.Global = cc in
    let here = name_of_flagged first second third fourth item symbol_flag.Hi begins opens flagged closes named in
    let same : item.start ≡ place = cc in
    rw (begins, opens, flagged, closes, named, same) refl
global_hi typed place items e at = absurd (cc)

routine_hi : (typed : Bool) (place : ℕ) (items : List Item) → map what_in items ≡ source_whats (source.Routine symbol_flag.Hi place)
    → read_operand typed items ≡ Ok (source.Routine symbol_flag.Hi place)
routine_hi typed place (first ∷ second ∷ third ∷ fourth ∷ item ∷ []) e =
    let begins : first.what ≡ word_what word.TargetFlags = cc in
    let opens : second.what ≡ what.Open = cc in
    let flagged : third.what ≡ word_what (word.SymbolFlag symbol_flag.Hi) = cc in
    let closes : fourth.what ≡ what.Close = cc in
    let named : item.what ≡ what.Routine place = cc in
    rw (begins, opens, flagged, closes, named) refl
routine_hi typed place items e = absurd (cc)

global_lo : (typed : Bool) (place : ℕ) (items : List Item) → map what_in items ≡ source_whats (source.Global symbol_flag.Lo place) → name_places items ≡ place ∷ []
    → read_operand typed items ≡ Ok (source.Global symbol_flag.Lo place)
global_lo typed place (first ∷ second ∷ third ∷ fourth ∷ item ∷ []) e at =
    let begins : first.what ≡ word_what word.TargetFlags = cc in
    let opens : second.what ≡ what.Open = cc in
    let flagged : third.what ≡ word_what (word.SymbolFlag symbol_flag.Lo) = cc in
    let closes : fourth.what ≡ what.Close = cc in
    let named : item.what ≡ what.Global = cc in
    let here = name_of_flagged first second third fourth item symbol_flag.Lo begins opens flagged closes named in
    let same : item.start ≡ place = cc in
    rw (begins, opens, flagged, closes, named, same) refl
global_lo typed place items e at = absurd (cc)

routine_lo : (typed : Bool) (place : ℕ) (items : List Item) → map what_in items ≡ source_whats (source.Routine symbol_flag.Lo place)
    → read_operand typed items ≡ Ok (source.Routine symbol_flag.Lo place)
routine_lo typed place (first ∷ second ∷ third ∷ fourth ∷ item ∷ []) e =
    let begins : first.what ≡ word_what word.TargetFlags = cc in
    let opens : second.what ≡ what.Open = cc in
    let flagged : third.what ≡ word_what (word.SymbolFlag symbol_flag.Lo) = cc in
    let closes : fourth.what ≡ what.Close = cc in
    let named : item.what ≡ what.Routine place = cc in
    rw (begins, opens, flagged, closes, named) refl
routine_lo typed place items e = absurd (cc)

global_plain : (typed : Bool) (place : ℕ) (items : List Item) → map what_in items ≡ what.Global ∷ [] → name_places items ≡ place ∷ []
    → read_operand typed items ≡ Ok (source.Global symbol_flag.Plain place)
global_plain typed place (first ∷ []) e at =
    let named : first.what ≡ what.Global = cc in
    let here = name_of_one first named in
    let same : first.start ≡ place = cc in
    rw (named, same) refl
global_plain typed place items e at = absurd (cc)

pub global_read : (typed : Bool) (flag : SymbolFlag) (place : ℕ) (items : List Item) → map what_in items ≡ source_whats (source.Global flag place) → name_places items ≡ place ∷ []
    → read_operand typed items ≡ Ok (source.Global flag place)
global_read typed symbol_flag.Plain place items e at = global_plain typed place items e at
global_read typed symbol_flag.Call place items e at = global_call typed place items e at
global_read typed symbol_flag.Hi place items e at = global_hi typed place items e at
global_read typed symbol_flag.Lo place items e at = global_lo typed place items e at

routine_plain : (typed : Bool) (place : ℕ) (items : List Item) → map what_in items ≡ what.Routine place ∷ [] → read_operand typed items ≡ Ok (source.Routine symbol_flag.Plain place)
routine_plain typed place (first ∷ []) e =
    let named : first.what ≡ what.Routine place = cc in
    rw named refl
routine_plain typed place items e = absurd (cc)

routine_read : (typed : Bool) (flag : SymbolFlag) (place : ℕ) (items : List Item) → map what_in items ≡ source_whats (source.Routine flag place) → read_operand typed items ≡ Ok (source.Routine flag place)
routine_read typed symbol_flag.Plain place items e = routine_plain typed place items e
routine_read typed symbol_flag.Call place items e = routine_call typed place items e
routine_read typed symbol_flag.Hi place items e = routine_hi typed place items e
routine_read typed symbol_flag.Lo place items e = routine_lo typed place items e

-- an operand that names no global
abbrev pub is_global : Source → Bool
is_global (source.Global flag place) = true
is_global s = false

pub other_read : (typed : Bool) (s : Source) (items : List Item) → map what_in items ≡ source_whats s → is_global s ≡ false → read_operand typed items ≡ Ok s
other_read typed (source.Use reg) (first ∷ []) e none =
    let is_first : first.what ≡ what.Register reg.0 = cc in
    rw is_first refl
other_read typed (source.TypedUse reg ty) (first ∷ second ∷ third ∷ fourth ∷ []) e none =
    let is_first : first.what ≡ what.Register reg.0 = cc in
    let is_second : second.what ≡ what.Open = cc in
    let is_third : third.what ≡ word_what (word.Type ty) = cc in
    let is_fourth : fourth.what ≡ what.Close = cc in
    rw (is_first, is_second, is_third, is_fourth) refl
other_read typed (source.Physical number) (first ∷ []) e none =
    let is_first : first.what ≡ what.Physical number = cc in
    rw is_first refl
other_read typed (source.ImplicitUse number) (first ∷ second ∷ []) e none =
    let is_first : first.what ≡ word_what word.Implicit = cc in
    let is_second : second.what ≡ what.Physical number = cc in
    rw (is_first, is_second) refl
other_read typed (source.ImplicitDef number) (first ∷ second ∷ []) e none =
    let is_first : first.what ≡ word_what word.ImplicitDef = cc in
    let is_second : second.what ≡ what.Physical number = cc in
    rw (is_first, is_second) refl
other_read typed (source.Int number) (first ∷ []) e none =
    let is_first : first.what ≡ what.Number number true = cc in
    rw is_first refl
other_read typed (source.Constant bits number plain) (first ∷ second ∷ []) e none =
    let is_first : first.what ≡ word_what (word.Integer bits) = cc in
    let is_second : second.what ≡ what.Number number plain = cc in
    rw (is_first, is_second) refl
other_read typed (source.Truth bits true) (first ∷ second ∷ []) e none =
    let is_first : first.what ≡ word_what (word.Integer bits) = cc in
    let is_second : second.what ≡ word_what word.True = cc in
    rw (is_first, is_second) refl
other_read typed (source.Truth bits false) (first ∷ second ∷ []) e none =
    let is_first : first.what ≡ word_what (word.Integer bits) = cc in
    let is_second : second.what ≡ word_what word.False = cc in
    rw (is_first, is_second) refl
other_read typed (source.Block number) (first ∷ []) e none =
    let is_first : first.what ≡ what.Block number = cc in
    rw is_first refl
other_read typed (source.Predicate pred) (first ∷ second ∷ third ∷ fourth ∷ []) e none =
    let is_first : first.what ≡ word_what word.Comparison = cc in
    let is_second : second.what ≡ what.Open = cc in
    let is_third : third.what ≡ word_what (word.Predicate pred) = cc in
    let is_fourth : fourth.what ≡ what.Close = cc in
    rw (is_first, is_second, is_third, is_fourth) refl
other_read typed (source.Frame number) (first ∷ []) e none =
    let is_first : first.what ≡ what.Frame number = cc in
    rw is_first refl
other_read typed (source.Global flag place) items e none = absurd (cc)
other_read typed (source.Routine flag place) items e none = routine_read typed flag place items e
other_read typed (source.SavedMask) (first ∷ []) e none =
    let is_first : first.what ≡ word_what word.SavedMask = cc in
    rw is_first refl
other_read typed s items e none = absurd (cc)

-- ══ Memory ══

load_read : (ty : Llt) (align : Option ℕ) (items : List Item) → map what_in items ≡ what.Open ∷ word_what word.Load ∷ (type_whats ty ++ (align_whats align ++ (what.Close ∷ [])))
    → read_memory items ≡ Ok (record { load = true; ty = ty; align = align })
load_read ty None (first ∷ second ∷ third ∷ fourth ∷ fifth ∷ sixth ∷ []) e =
    let is_first : first.what ≡ what.Open = cc in
    let is_second : second.what ≡ word_what word.Load = cc in
    let is_third : third.what ≡ what.Open = cc in
    let is_fourth : fourth.what ≡ word_what (word.Type ty) = cc in
    let is_fifth : fifth.what ≡ what.Close = cc in
    let is_sixth : sixth.what ≡ what.Close = cc in
    rw (is_first, is_second, is_third, is_fourth, is_fifth, is_sixth) refl
load_read ty (Some align) (first ∷ second ∷ third ∷ fourth ∷ fifth ∷ sixth ∷ seventh ∷ eighth ∷ ninth ∷ []) e =
    let is_first : first.what ≡ what.Open = cc in
    let is_second : second.what ≡ word_what word.Load = cc in
    let is_third : third.what ≡ what.Open = cc in
    let is_fourth : fourth.what ≡ word_what (word.Type ty) = cc in
    let is_fifth : fifth.what ≡ what.Close = cc in
    let is_sixth : sixth.what ≡ what.Comma = cc in
    let is_seventh : seventh.what ≡ word_what word.Align = cc in
    let is_eighth : eighth.what ≡ what.Number (plain_size align) true = cc in
    let is_ninth : ninth.what ≡ what.Close = cc in
    rw (is_first, is_second, is_third, is_fourth, is_fifth, is_sixth, is_seventh, is_eighth, is_ninth) refl
load_read ty align items e = absurd (cc)

store_read : (ty : Llt) (align : Option ℕ) (items : List Item) → map what_in items ≡ what.Open ∷ word_what word.Store ∷ (type_whats ty ++ (align_whats align ++ (what.Close ∷ [])))
    → read_memory items ≡ Ok (record { load = false; ty = ty; align = align })
store_read ty None (first ∷ second ∷ third ∷ fourth ∷ fifth ∷ sixth ∷ []) e =
    let is_first : first.what ≡ what.Open = cc in
    let is_second : second.what ≡ word_what word.Store = cc in
    let is_third : third.what ≡ what.Open = cc in
    let is_fourth : fourth.what ≡ word_what (word.Type ty) = cc in
    let is_fifth : fifth.what ≡ what.Close = cc in
    let is_sixth : sixth.what ≡ what.Close = cc in
    rw (is_first, is_second, is_third, is_fourth, is_fifth, is_sixth) refl
store_read ty (Some align) (first ∷ second ∷ third ∷ fourth ∷ fifth ∷ sixth ∷ seventh ∷ eighth ∷ ninth ∷ []) e =
    let is_first : first.what ≡ what.Open = cc in
    let is_second : second.what ≡ word_what word.Store = cc in
    let is_third : third.what ≡ what.Open = cc in
    let is_fourth : fourth.what ≡ word_what (word.Type ty) = cc in
    let is_fifth : fifth.what ≡ what.Close = cc in
    let is_sixth : sixth.what ≡ what.Comma = cc in
    let is_seventh : seventh.what ≡ word_what word.Align = cc in
    let is_eighth : eighth.what ≡ what.Number (plain_size align) true = cc in
    let is_ninth : ninth.what ≡ what.Close = cc in
    rw (is_first, is_second, is_third, is_fourth, is_fifth, is_sixth, is_seventh, is_eighth, is_ninth) refl
store_read ty align items e = absurd (cc)

abbrev pub inner_whats : Memory → List What
inner_whats memory = what.Open ∷ word_what (if memory.load then word.Load else word.Store) ∷ (type_whats memory.ty ++ (align_whats memory.align ++ (what.Close ∷ [])))

pub memory_read : (memory : Memory) (items : List Item) → map what_in items ≡ inner_whats memory → read_memory items ≡ Ok memory
memory_read memory items e = chosen memory.load refl e
  where
    chosen : (load : Bool) → memory.load ≡ load → map what_in items ≡ what.Open ∷ word_what (if load then word.Load else word.Store) ∷ (type_whats memory.ty ++ (align_whats memory.align ++ (what.Close ∷ [])))
        → read_memory items ≡ Ok memory
    chosen true is e = load_read memory.ty memory.align items e ∙ ap (λ load. Ok (record { load = load; ty = memory.ty; align = memory.align })) (sym is)
    chosen false is e = store_read memory.ty memory.align items e ∙ ap (λ load. Ok (record { load = load; ty = memory.ty; align = memory.align })) (sym is)
