-- A line that is spelled is read.
use Rattle.std.proofs.Common.{◌≡◌, ℕ, Bool, true, false, List, [], ◌∷◌, ◌++◌, Option, Some, None, Ok, map, refl, sym, ap, ◌∙◌, subst, append_assoc, append-nil}
use Rattle.std.specs.Prelude.{filter_map, flat_map}
use Rattle.std.specs.List.{list_all}
use Rattle.std.proofs.lemmas.Bool.{and_parts}
use Rattle.std.specs.Cmp.Derive.{both_true}
use Rattle.gi_mir.specs.declared.opcode.Opcode.{Opcode}
use Rattle.gi_mir.specs.declared.operand.Flags.{Flags}
use Rattle.gi_mir.specs.declared.operand.Kind.TheVariants as kind
use Rattle.gi_mir.specs.declared.operand.SymbolFlag.{SymbolFlag}
use Rattle.gi_mir.specs.declared.operand.SymbolFlag.TheVariants as symbol_flag
use Rattle.gi_spelling.specs.declared.token.Flag.{Flag}
use Rattle.gi_spelling.specs.declared.token.Flag.TheVariants as flag
use Rattle.gi_spelling.specs.declared.token.Word.TheVariants as word
use Rattle.gi_spelling.specs.declared.token.What.{What}
use Rattle.gi_spelling.specs.declared.token.What.TheVariants as what
use Rattle.gi_spelling.specs.declared.token.Item.{Item}
use Rattle.gi_spelling.specs.declared.written.Definition.{Definition}
use Rattle.gi_spelling.specs.declared.written.Definition.TheVariants as definition
use Rattle.gi_spelling.specs.declared.written.Source.{Source}
use Rattle.gi_spelling.specs.declared.written.Source.TheVariants as source
use Rattle.gi_spelling.specs.declared.written.Memory.{Memory}
use Rattle.gi_spelling.specs.Items.{what_in}
use Rattle.gi_spelling.specs.Written.{WrittenData}
use Rattle.gi_spelling.specs.Reading.{read_definition, read_operand, parts_of, read_all, read_operands, flag_at, past_flag, is_no_unsigned_wrap, is_no_signed_wrap, is_exact, is_disjoint, is_non_negative, read_flags, is_constant_op, read_sources, read_tail, read_opcode, read_body, defines, begins_definition, read_instr}
use Rattle.gi_spelling.specs.Spelling.{word_what, definition_whats, source_whats, symbol_flag_whats, listed_whats, defined_whats, flag_whats, flags_whats, align_whats, memory_whats, name_place, name_places, place_of_source, places_of, AreWritten}
use Rattle.gi_spelling.proofs.TokenLists.{names_nothing, no_place}
use Rattle.gi_spelling.proofs.ItemParts.{parts_whats, parts-places}
use Rattle.gi_spelling.proofs.WrittenPieces.{definition_read, global_read, is_global, other_read, inner_whats, memory_read}
use Rattle.gi_spelling.proofs.WrittenParts.{no_comma, parts_written, quiet_places, no_equals, equals_written, no_colon, no_colons_written, colons_written}

-- ══ Definitions ══

definition_no_comma : (d : Definition) → list_all no_comma (definition_whats d) ≡ true
definition_no_comma (definition.Bare reg) = refl
definition_no_comma (definition.Typed reg ty) = refl
definition_no_comma (definition.Full reg (kind.Generic ty)) = refl
definition_no_comma (definition.Full reg (kind.Banked ty)) = refl
definition_no_comma (definition.Full reg kind.Class) = refl
definition_no_comma (definition.Physical number) = refl

pub definition_no_equals : (d : Definition) → list_all no_equals (definition_whats d) ≡ true
definition_no_equals (definition.Bare reg) = refl
definition_no_equals (definition.Typed reg ty) = refl
definition_no_equals (definition.Full reg (kind.Generic ty)) = refl
definition_no_equals (definition.Full reg (kind.Banked ty)) = refl
definition_no_equals (definition.Full reg kind.Class) = refl
definition_no_equals (definition.Physical number) = refl

definition_quiet : (d : Definition) → list_all names_nothing (definition_whats d) ≡ true
definition_quiet (definition.Bare reg) = refl
definition_quiet (definition.Typed reg ty) = refl
definition_quiet (definition.Full reg (kind.Generic ty)) = refl
definition_quiet (definition.Full reg (kind.Banked ty)) = refl
definition_quiet (definition.Full reg kind.Class) = refl
definition_quiet (definition.Physical number) = refl

-- a test of all tokens of a list
pub all_both : (test : What → Bool) (first second : List What) → list_all test first ≡ true → list_all test second ≡ true → list_all test (first ++ second) ≡ true
all_both test [] second a b = b
all_both test (w ∷ ws) second a b =
    let parts = and_parts (test w) (list_all test ws) a in
    both_true parts.0 (all_both test ws second parts.1 b)

pub all_listed : {X : Type 0} (test : What → Bool) (spell : X → List What) → test what.Comma ≡ true → ((x : X) → list_all test (spell x) ≡ true) → (xs : List X)
    → list_all test (listed_whats (map spell xs)) ≡ true
all_listed test spell comma each [] = refl
all_listed test spell comma each (x ∷ []) = each x
all_listed test spell comma each (x ∷ next ∷ xs) = all_both test (spell x) (what.Comma ∷ listed_whats (map spell (next ∷ xs))) (each x) (both_true comma (all_listed test spell comma each (next ∷ xs)))

definitions_read : (parts : List (List Item)) (definitions : List Definition) → parts_whats parts ≡ map definition_whats definitions → read_all read_definition parts ≡ Ok definitions
definitions_read [] [] e = refl
definitions_read [] (d ∷ definitions) e = absurd (cc)
definitions_read (part ∷ parts) [] e = absurd (cc)
definitions_read (part ∷ parts) (d ∷ definitions) e =
    let here : map what_in part ≡ definition_whats d = cc in
    let later : parts_whats parts ≡ map definition_whats definitions = cc in
    rw (definition_read d part here, definitions_read parts definitions later) refl

-- ══ Operands ══

symbol_flag_no_comma : (flag : SymbolFlag) (w : What) → no_comma w ≡ true → list_all no_comma (symbol_flag_whats flag ++ (w ∷ [])) ≡ true
symbol_flag_no_comma symbol_flag.Plain w none = rw none refl
symbol_flag_no_comma symbol_flag.Call w none = rw none refl
symbol_flag_no_comma symbol_flag.Hi w none = rw none refl
symbol_flag_no_comma symbol_flag.Lo w none = rw none refl

source_no_comma : (s : Source) → list_all no_comma (source_whats s) ≡ true
source_no_comma (source.Global flag place) = symbol_flag_no_comma flag what.Global refl
source_no_comma (source.Routine flag place) = symbol_flag_no_comma flag (what.Routine place) refl
source_no_comma s = refl

symbol_flag_no_colon : (flag : SymbolFlag) (w : What) → no_colon w ≡ true → list_all no_colon (symbol_flag_whats flag ++ (w ∷ [])) ≡ true
symbol_flag_no_colon symbol_flag.Plain w none = rw none refl
symbol_flag_no_colon symbol_flag.Call w none = rw none refl
symbol_flag_no_colon symbol_flag.Hi w none = rw none refl
symbol_flag_no_colon symbol_flag.Lo w none = rw none refl

source_no_colon : (s : Source) → list_all no_colon (source_whats s) ≡ true
source_no_colon (source.Global flag place) = symbol_flag_no_colon flag what.Global refl
source_no_colon (source.Routine flag place) = symbol_flag_no_colon flag (what.Routine place) refl
source_no_colon s = refl

routine_quiet : (flag : SymbolFlag) (place : ℕ) → list_all names_nothing (symbol_flag_whats flag ++ (what.Routine place ∷ [])) ≡ true
routine_quiet symbol_flag.Plain place = refl
routine_quiet symbol_flag.Call place = refl
routine_quiet symbol_flag.Hi place = refl
routine_quiet symbol_flag.Lo place = refl

source_quiet : (s : Source) → is_global s ≡ false → list_all names_nothing (source_whats s) ≡ true
source_quiet (source.Global flag place) none = absurd (cc)
source_quiet (source.Routine flag place) none = routine_quiet flag place
source_quiet s none = refl

-- the one name of an operand that is a global
one_name_at : (before : List What) (part : List Item) → list_all names_nothing before ≡ true → map what_in part ≡ before ++ (what.Global ∷ []) → (place : ℕ) × (name_places part ≡ place ∷ [])
one_name_at [] [] quiet e = absurd (cc)
one_name_at [] (item ∷ []) quiet e =
    let named : item.what ≡ what.Global = cc in
    (item.start, rw named refl)
one_name_at [] (item ∷ next ∷ rest) quiet e = absurd (cc)
one_name_at (w ∷ ws) [] quiet e = absurd (cc)
one_name_at (w ∷ ws) (item ∷ rest) quiet e =
    let parts = and_parts (names_nothing w) (list_all names_nothing ws) quiet in
    let is : item.what ≡ w = cc in
    let later : map what_in rest ≡ ws ++ (what.Global ∷ []) = cc in
    let nowhere : name_place item item.what ≡ None = ap (name_place item) is ∙ no_place item w parts.0 in
    let found = one_name_at ws rest parts.1 later in
    (found.0, rw nowhere found.1)

flag_quiet : (flag : SymbolFlag) → list_all names_nothing (symbol_flag_whats flag) ≡ true
flag_quiet symbol_flag.Plain = refl
flag_quiet symbol_flag.Call = refl
flag_quiet symbol_flag.Hi = refl
flag_quiet symbol_flag.Lo = refl

-- an operand and the places of the names behind it
pub record IsOperand (typed : Bool) (part : List Item) (s : Source) (more later : List ℕ) : Type 0 where
  pub read : read_operand typed part ≡ Ok s
  pub behind : more ≡ later

other_operand : (typed : Bool) (s : Source) (part : List Item) (more later : List ℕ) → is_global s ≡ false → map what_in part ≡ source_whats s
    → name_places part ++ more ≡ later → IsOperand typed part s more later
other_operand typed s part more later none e at = record {
  read = other_read typed s part e none;
  behind = sym (ap (λ places. places ++ more) (quiet_places part (source_whats s) e (source_quiet s none))) ∙ at;
}

operand_read : (typed : Bool) (s : Source) (part : List Item) (sources : List Source) (more : List ℕ) → map what_in part ≡ source_whats s
    → name_places part ++ more ≡ filter_map place_of_source (s ∷ sources) → IsOperand typed part s more (filter_map place_of_source sources)
operand_read typed (source.Global flag place) part sources more e at =
    let found = one_name_at (symbol_flag_whats flag) part (flag_quiet flag) e in
    let all : found.0 ∷ more ≡ place ∷ filter_map place_of_source sources = sym (ap (λ places. places ++ more) found.1) ∙ at in
    let here : name_places part ≡ place ∷ [] = cc in
    record { read = global_read typed flag place part e here; behind = cc }
operand_read typed s part sources more e at = other_operand typed s part more (filter_map place_of_source sources) refl e at

sources_read : (typed : Bool) (parts : List (List Item)) (sources : List Source) → parts_whats parts ≡ map source_whats sources
    → flat_map name_places parts ≡ filter_map place_of_source sources → read_operands typed parts ≡ Ok sources
sources_read typed [] [] e at = refl
sources_read typed [] (s ∷ sources) e at = absurd (cc)
sources_read typed (part ∷ parts) [] e at = absurd (cc)
sources_read typed (part ∷ parts) (s ∷ sources) e at =
    let here : map what_in part ≡ source_whats s = cc in
    let later : parts_whats parts ≡ map source_whats sources = cc in
    let one = operand_read typed s part sources (flat_map name_places parts) here at in
    rw (one.read, sources_read false parts sources later one.behind) refl

-- ══ Flags ══

abbrev head_what : List What → Option What
head_what [] = None
head_what (w ∷ ws) = Some w

flag_at-head : (items : List Item) → flag_at items ≡ head_what (map what_in items)
flag_at-head [] = refl
flag_at-head (item ∷ rest) = refl

-- what a test finds at the front
pub record Stage (test : Option What → Bool) (b : Bool) (items : List Item) (later : List What) : Type 0 where
  pub found : test (flag_at items) ≡ b
  pub behind : map what_in (past_flag (test (flag_at items)) items) ≡ later
  pub at : name_places (past_flag (test (flag_at items)) items) ≡ name_places items

stage : (test : Option What → Bool) (f : Flag) (b : Bool) (items : List Item) (later : List What) → test (Some (word_what (word.Flag f))) ≡ true → test (head_what later) ≡ false
    → map what_in items ≡ flag_whats b f ++ later → Stage test b items later
stage test f true [] later tests none e = absurd (cc)
stage test f true (item ∷ rest) later tests none e =
    let is : item.what ≡ word_what (word.Flag f) = cc in
    let found : test (Some item.what) ≡ true = ap (λ w. test (Some w)) is ∙ tests in
    record { found = found; behind = rw found (cc); at = rw (found, is) refl }
stage test f false items later tests none e =
    let found : test (flag_at items) ≡ false = ap test (flag_at-head items ∙ ap head_what e) ∙ none in
    record { found = found; behind = rw found e; at = rw found refl }

not_ahead : (test : Option What → Bool) (f : Flag) (b : Bool) (later : List What) → test (Some (word_what (word.Flag f))) ≡ false → test (head_what later) ≡ false
    → test (head_what (flag_whats b f ++ later)) ≡ false
not_ahead test f true later other none = other
not_ahead test f false later other none = none

same_flags : (flags : Flags) (nuw nsw exact disjoint nneg : Bool) → nuw ≡ flags.nuw → nsw ≡ flags.nsw → exact ≡ flags.exact → disjoint ≡ flags.disjoint → nneg ≡ flags.nneg
    → record { nuw = nuw; nsw = nsw; exact = exact; disjoint = disjoint; nneg = nneg } ≡ flags
same_flags flags nuw nsw exact disjoint nneg a b c d e = rw (a, b, c, d, e) refl

-- the flags before an opcode
pub record ReadsFlags (flags : Flags) (items : List Item) (later : List What) : Type 0 where
  pub flagged : (read_flags items).flags ≡ flags
  pub behind : map what_in (read_flags items).rest ≡ later
  pub at : name_places (read_flags items).rest ≡ name_places items

pub flags_read : (flags : Flags) (op : Opcode) (items : List Item) (more : List What) → map what_in items ≡ flags_whats flags ++ (word_what (word.Opcode op) ∷ more)
    → ReadsFlags flags items (word_what (word.Opcode op) ∷ more)
flags_read flags op items more e =
    let last = word_what (word.Opcode op) ∷ more in
    let nneg = flag_whats flags.nneg flag.NonNegative ++ last in
    let disjoint = flag_whats flags.disjoint flag.Disjoint ++ nneg in
    let exact = flag_whats flags.exact flag.Exact ++ disjoint in
    let nsw = flag_whats flags.nsw flag.NoSignedWrap ++ exact in
    let all : map what_in items ≡ flag_whats flags.nuw flag.NoUnsignedWrap ++ nsw = e ∙ simp append_assoc in
    let none_nneg : (test : Option What → Bool) → test (Some (word_what (word.Flag flag.NonNegative))) ≡ false → test (Some (word_what (word.Opcode op))) ≡ false → test (head_what nneg) ≡ false =
    λ test other none. not_ahead test flag.NonNegative flags.nneg last other none in
    let a = stage is_no_unsigned_wrap flag.NoUnsignedWrap flags.nuw items nsw refl
    (not_ahead is_no_unsigned_wrap flag.NoSignedWrap flags.nsw exact refl (not_ahead is_no_unsigned_wrap flag.Exact flags.exact disjoint refl
    (not_ahead is_no_unsigned_wrap flag.Disjoint flags.disjoint nneg refl (none_nneg is_no_unsigned_wrap refl refl)))) all in
    let after_nuw = past_flag (is_no_unsigned_wrap (flag_at items)) items in
    let b = stage is_no_signed_wrap flag.NoSignedWrap flags.nsw after_nuw exact refl
    (not_ahead is_no_signed_wrap flag.Exact flags.exact disjoint refl (not_ahead is_no_signed_wrap flag.Disjoint flags.disjoint nneg refl (none_nneg is_no_signed_wrap refl refl))) a.behind in
    let after_nsw = past_flag (is_no_signed_wrap (flag_at after_nuw)) after_nuw in
    let c = stage is_exact flag.Exact flags.exact after_nsw disjoint refl (not_ahead is_exact flag.Disjoint flags.disjoint nneg refl (none_nneg is_exact refl refl)) b.behind in
    let after_exact = past_flag (is_exact (flag_at after_nsw)) after_nsw in
    let d = stage is_disjoint flag.Disjoint flags.disjoint after_exact nneg refl (none_nneg is_disjoint refl refl) c.behind in
    let after_disjoint = past_flag (is_disjoint (flag_at after_exact)) after_exact in
    let f = stage is_non_negative flag.NonNegative flags.nneg after_disjoint last refl refl d.behind in
    record {
      flagged = same_flags flags (is_no_unsigned_wrap (flag_at items)) (is_no_signed_wrap (flag_at after_nuw)) (is_exact (flag_at after_nsw)) (is_disjoint (flag_at after_exact))
          (is_non_negative (flag_at after_disjoint)) a.found b.found c.found d.found f.found;
      behind = f.behind;
      at = f.at ∙ (d.at ∙ (c.at ∙ (b.at ∙ a.at)));
    }

-- ══ The line ══

source_some : (s : Source) (more : List What) → [] ≡ source_whats s ++ more → ⊥
source_some (source.Global symbol_flag.Plain place) more e = cc
source_some (source.Global flag place) more e = cc
source_some (source.Routine symbol_flag.Plain place) more e = cc
source_some (source.Routine flag place) more e = cc
source_some s more e = cc

listed_some : (s : Source) (sources : List Source) → [] ≡ listed_whats (map source_whats (s ∷ sources)) → ⊥
listed_some s [] e = source_some s [] (e ∙ sym (append-nil (source_whats s)))
listed_some s (next ∷ sources) e = source_some s (what.Comma ∷ listed_whats (map source_whats (next ∷ sources))) e

align_quiet : (align : Option ℕ) → list_all names_nothing (align_whats align ++ (what.Close ∷ [])) ≡ true
align_quiet None = refl
align_quiet (Some align) = refl

inner_quiet : (memory : Memory) → list_all names_nothing (inner_whats memory) ≡ true
inner_quiet memory = align_quiet memory.align

sources_line_read : (op : Opcode) (items : List Item) (sources : List Source) → map what_in items ≡ listed_whats (map source_whats sources)
    → name_places items ≡ filter_map place_of_source sources → read_sources op items ≡ Ok sources
sources_line_read op [] [] e at = refl
sources_line_read op (item ∷ rest) [] e at = absurd (cc)
sources_line_read op [] (s ∷ sources) e at = absurd (listed_some s sources e)
sources_line_read op (item ∷ rest) (s ∷ sources) e at =
    sources_read (is_constant_op op) (parts_of (item ∷ rest)) (s ∷ sources) (parts_written source_whats source_no_comma s sources (item ∷ rest) e) (parts-places (item ∷ rest) ∙ at)

abbrev onto_option : Option ℕ → List ℕ → List ℕ
onto_option None places = places
onto_option (Some place) places = place ∷ places

tail_read : (definitions : List Definition) (flags : Flags) (op : Opcode) (items : List Item) (sources : List Source) (memory : Option Memory)
    → map what_in items ≡ listed_whats (map source_whats sources) ++ memory_whats memory → name_places items ≡ filter_map place_of_source sources
    → read_tail definitions flags op items ≡ Ok (record { definitions = definitions; flags = flags; op = op; sources = sources; memory = memory })
tail_read definitions flags op items sources None e at =
    let whats = listed_whats (map source_whats sources) in
    let whole : map what_in items ≡ whats = e ∙ append-nil whats in
    let split = no_colons_written whats items (all_listed no_colon source_whats refl source_no_colon sources) whole in
    rw (split, sources_line_read op items sources whole at) refl
tail_read definitions flags op items sources (Some memory) e at =
    let whats = listed_whats (map source_whats sources) in
    let split = colons_written whats (inner_whats memory) items (all_listed no_colon source_whats refl source_no_colon sources) e in
    let quiet : name_places split.rest ≡ [] = quiet_places split.rest (inner_whats memory) split.parts.second_same (inner_quiet memory) in
    let places : name_places split.before ≡ filter_map place_of_source sources =
    sym (append-nil (name_places split.before)) ∙ (ap (λ places. name_places split.before ++ places) (sym quiet) ∙ (sym split.parts.at ∙ at)) in
    rw (split.found, sources_line_read op split.before sources split.parts.first_same places, memory_read memory split.rest split.parts.second_same) refl

opcode_read : (definitions : List Definition) (flags : Flags) (op : Opcode) (items : List Item) (sources : List Source) (memory : Option Memory)
    → map what_in items ≡ word_what (word.Opcode op) ∷ (listed_whats (map source_whats sources) ++ memory_whats memory) → name_places items ≡ filter_map place_of_source sources
    → read_opcode definitions flags items ≡ Ok (record { definitions = definitions; flags = flags; op = op; sources = sources; memory = memory })
opcode_read definitions flags op [] sources memory e at = absurd (cc)
opcode_read definitions flags op (item ∷ rest) sources memory e at =
    let is : item.what ≡ word_what (word.Opcode op) = cc in
    let later : map what_in rest ≡ listed_whats (map source_whats sources) ++ memory_whats memory = cc in
    let places : name_places rest ≡ filter_map place_of_source sources = subst (λ w. onto_option (name_place item w) (name_places rest) ≡ filter_map place_of_source sources) is at in
    rw is (tail_read definitions flags op rest sources memory later places)

body_read : (written : WrittenData) (items : List Item)
    → map what_in items ≡ flags_whats written.flags ++ (word_what (word.Opcode written.op) ∷ (listed_whats (map source_whats written.sources) ++ memory_whats written.memory))
    → name_places items ≡ places_of written → read_body written.definitions items ≡ Ok written
body_read written items e at =
    let read = flags_read written.flags written.op items (listed_whats (map source_whats written.sources) ++ memory_whats written.memory) e in
    let opcode = opcode_read written.definitions written.flags written.op (read_flags items).rest written.sources written.memory read.behind (read.at ∙ at) in
    ap (λ flags. read_opcode written.definitions flags (read_flags items).rest) read.flagged ∙ opcode

-- what may begin a definition
abbrev head_defines : Option What → Bool
head_defines None = false
head_defines (Some w) = defines w

begins-head : (items : List Item) → begins_definition items ≡ head_defines (head_what (map what_in items))
begins-head [] = refl
begins-head (item ∷ rest) = refl

flags_define_nothing : (flags : Flags) (op : Opcode) (more : List What) → head_defines (head_what (flags_whats flags ++ (word_what (word.Opcode op) ∷ more))) ≡ false
flags_define_nothing flags op more =
    let last = word_what (word.Opcode op) ∷ more in
    let nneg = flag_whats flags.nneg flag.NonNegative ++ last in
    let disjoint = flag_whats flags.disjoint flag.Disjoint ++ nneg in
    let exact = flag_whats flags.exact flag.Exact ++ disjoint in
    let nsw = flag_whats flags.nsw flag.NoSignedWrap ++ exact in
    let grouped : flags_whats flags ++ last ≡ flag_whats flags.nuw flag.NoUnsignedWrap ++ nsw = simp append_assoc in
    ap (λ whats. head_defines (head_what whats)) grouped
    ∙ not_ahead head_defines flag.NoUnsignedWrap flags.nuw nsw refl (not_ahead head_defines flag.NoSignedWrap flags.nsw exact refl (not_ahead head_defines flag.Exact flags.exact disjoint refl
    (not_ahead head_defines flag.Disjoint flags.disjoint nneg refl (not_ahead head_defines flag.NonNegative flags.nneg last refl refl))))

definition_defines : (d : Definition) (more : List What) → head_defines (head_what (definition_whats d ++ more)) ≡ true
definition_defines (definition.Bare reg) more = refl
definition_defines (definition.Typed reg ty) more = refl
definition_defines (definition.Full reg kind) more = refl
definition_defines (definition.Physical number) more = refl

definitions_define : (d : Definition) (definitions : List Definition) (more : List What) → head_defines (head_what (defined_whats (map definition_whats (d ∷ definitions)) ++ more)) ≡ true
definitions_define d [] more = ap (λ whats. head_defines (head_what whats)) (append_assoc (definition_whats d) (what.Equals ∷ []) more) ∙ definition_defines d (what.Equals ∷ more)
definitions_define d (next ∷ definitions) more =
    let later = what.Comma ∷ listed_whats (map definition_whats (next ∷ definitions)) in
    ap (λ whats. head_defines (head_what whats)) (append_assoc (definition_whats d ++ later) (what.Equals ∷ []) more ∙ append_assoc (definition_whats d) later (what.Equals ∷ more))
    ∙ definition_defines d (later ++ (what.Equals ∷ more))

line_read_by : (definitions : List Definition) (flags : Flags) (op : Opcode) (sources : List Source) (memory : Option Memory) (items : List Item)
    → AreWritten items (record { definitions = definitions; flags = flags; op = op; sources = sources; memory = memory })
    → read_instr items ≡ Ok (record { definitions = definitions; flags = flags; op = op; sources = sources; memory = memory })
line_read_by [] flags op sources memory items are =
    let written : WrittenData = record { definitions = []; flags = flags; op = op; sources = sources; memory = memory } in
    let none : begins_definition items ≡ false =
    begins-head items ∙ (ap (λ whats. head_defines (head_what whats)) are.same ∙ flags_define_nothing flags op (listed_whats (map source_whats sources) ++ memory_whats memory)) in
    rw none (body_read written items are.same are.places)
line_read_by (d ∷ definitions) flags op sources memory items are =
    let written : WrittenData = record { definitions = d ∷ definitions; flags = flags; op = op; sources = sources; memory = memory } in
    let behind = flags_whats flags ++ (word_what (word.Opcode op) ∷ (listed_whats (map source_whats sources) ++ memory_whats memory)) in
    let begins : begins_definition items ≡ true = begins-head items ∙ (ap (λ whats. head_defines (head_what whats)) are.same ∙ definitions_define d definitions behind) in
    let defined = listed_whats (map definition_whats (d ∷ definitions)) in
    let whole : map what_in items ≡ defined ++ (what.Equals ∷ behind) = are.same ∙ append_assoc defined (what.Equals ∷ []) behind in
    let split = equals_written defined behind items (all_listed no_equals definition_whats refl definition_no_equals (d ∷ definitions)) whole in
    let quiet : name_places split.before ≡ [] = quiet_places split.before defined split.parts.first_same (all_listed names_nothing definition_whats refl definition_quiet (d ∷ definitions)) in
    let places : name_places split.rest ≡ places_of written = sym (ap (λ places. places ++ name_places split.rest) quiet) ∙ (sym split.parts.at ∙ are.places) in
    let read = definitions_read (parts_of split.before) (d ∷ definitions) (parts_written definition_whats definition_no_comma d definitions split.before split.parts.first_same) in
    rw (begins, split.found, read) (body_read written split.rest split.parts.second_same places)

-- a line that is spelled is read as what it spells
pub line_read : (items : List Item) (written : WrittenData) → AreWritten items written → read_instr items ≡ Ok written
line_read items written are = line_read_by written.definitions written.flags written.op written.sources written.memory items are
