-- A line that spells an instruction is no head of a block, states no list and says something.
use Rattle.std.proofs.Common.{◌≡◌, ℕ, Bool, true, false, List, [], ◌∷◌, ◌++◌, Option, Some, None, map, refl, ap, ◌∙◌, append_assoc}
use Rattle.std.specs.Prelude.{unwrap_or}
use Rattle.std.specs.List.{list_all}
use Rattle.std.proofs.lemmas.Bool.{and_parts, not-true}
use Rattle.gi_mir.specs.declared.opcode.Opcode.{Opcode}
use Rattle.gi_mir.specs.declared.operand.Flags.{Flags}
use Rattle.gi_mir.specs.declared.operand.SymbolFlag.{SymbolFlag}
use Rattle.gi_mir.specs.declared.operand.SymbolFlag.TheVariants as symbol_flag
use Rattle.gi_spelling.specs.declared.token.Flag.{Flag}
use Rattle.gi_spelling.specs.declared.token.Flag.TheVariants as flag
use Rattle.gi_spelling.specs.declared.token.Word.TheVariants as word
use Rattle.gi_spelling.specs.declared.token.What.{What}
use Rattle.gi_spelling.specs.declared.token.What.TheVariants as what
use Rattle.gi_spelling.specs.declared.token.Item.{Item}
use Rattle.gi_spelling.specs.declared.written.Definition.{Definition}
use Rattle.gi_spelling.specs.declared.written.Definition.TheVariants as definition
use Rattle.gi_spelling.specs.declared.written.Source.{Source}
use Rattle.gi_spelling.specs.declared.written.Source.TheVariants as source
use Rattle.gi_spelling.specs.declared.written.Memory.{Memory}
use Rattle.gi_spelling.specs.Items.{what_in}
use Rattle.gi_spelling.specs.Written.{WrittenData}
use Rattle.gi_spelling.specs.declared.written.Separator.TheVariants.{Equals}
use Rattle.gi_spelling.specs.Reading.{split_at, is_equals, is_debug, read_flags, opcode_place, is_debug_line}
use Rattle.gi_spelling.specs.Blocks.{head_by, head_in, list_by, list_kind_in}
use Rattle.gi_spelling.specs.Spelling.{word_what, definition_whats, source_whats, symbol_flag_whats, listed_whats, defined_whats, flag_whats, flags_whats, align_whats, memory_whats, whats_of, AreWritten}
use Rattle.gi_spelling.proofs.WrittenParts.{no_equals, equals_written}
use Rattle.gi_spelling.proofs.WrittenLines.{all_both, all_listed, definition_no_equals, flags_read}

-- ══ What begins a line ══

abbrev pub begins_line : What → Bool
begins_line (what.Register number) = true
begins_line (what.Physical number) = true
begins_line (what.Word (word.Flag flag)) = true
begins_line (what.Word (word.Opcode op)) = true
begins_line w = false

pub record Begins (ws : List What) : Type 0 where
  pub first : What
  pub rest : List What
  pub whole : ws ≡ first ∷ rest
  pub fine : begins_line first ≡ true

flags_begin : (nuw nsw exact disjoint nneg : Bool) (op : Opcode) (more : List What)
    → Begins ((flag_whats nuw flag.NoUnsignedWrap ++ (flag_whats nsw flag.NoSignedWrap ++ (flag_whats exact flag.Exact ++ (flag_whats disjoint flag.Disjoint ++ flag_whats nneg flag.NonNegative))))
    ++ (word_what (word.Opcode op) ∷ more))
flags_begin true nsw exact disjoint nneg op more = record { first = _; rest = _; whole = refl; fine = refl }
flags_begin false true exact disjoint nneg op more = record { first = _; rest = _; whole = refl; fine = refl }
flags_begin false false true disjoint nneg op more = record { first = _; rest = _; whole = refl; fine = refl }
flags_begin false false false true nneg op more = record { first = _; rest = _; whole = refl; fine = refl }
flags_begin false false false false true op more = record { first = _; rest = _; whole = refl; fine = refl }
flags_begin false false false false false op more = record { first = _; rest = _; whole = refl; fine = refl }

cell_begins : (first : What) (cell : List What) (cells : List (List What)) (more : List What) → begins_line first ≡ true → Begins (defined_whats ((first ∷ cell) ∷ cells) ++ more)
cell_begins first cell [] more fine = record { first = first; rest = _; whole = refl; fine = fine }
cell_begins first cell (next ∷ cells) more fine = record { first = first; rest = _; whole = refl; fine = fine }

definitions_begin : (definitions : List Definition) (flags : Flags) (op : Opcode) (more : List What)
    → Begins (defined_whats (map definition_whats definitions) ++ (flags_whats flags ++ (word_what (word.Opcode op) ∷ more)))
definitions_begin [] flags op more = flags_begin flags.nuw flags.nsw flags.exact flags.disjoint flags.nneg op more
definitions_begin (definition.Bare reg ∷ definitions) flags op more = cell_begins (what.Register reg.0) _ (map definition_whats definitions) _ refl
definitions_begin (definition.Typed reg ty ∷ definitions) flags op more = cell_begins (what.Register reg.0) _ (map definition_whats definitions) _ refl
definitions_begin (definition.Full reg own ∷ definitions) flags op more = cell_begins (what.Register reg.0) _ (map definition_whats definitions) _ refl
definitions_begin (definition.Physical number ∷ definitions) flags op more = cell_begins (what.Physical number) _ (map definition_whats definitions) _ refl

pub line_begins : (written : WrittenData) → Begins (whats_of written)
line_begins written = definitions_begin written.definitions written.flags written.op (listed_whats (map source_whats written.sources) ++ memory_whats written.memory)

no_head : (w : What) → begins_line w ≡ true → head_by w ≡ None
no_head (what.Word (word.BlockHead number)) fine = absurd (cc)
no_head w fine = refl

no_list : (w second : What) → begins_line w ≡ true → list_by w second ≡ None
no_list (what.Word word.Successors) second fine = absurd (cc)
no_list (what.Word word.Liveins) second fine = absurd (cc)
no_list w second fine = refl

pub headless : (items : List Item) (ws : List What) → map what_in items ≡ ws → Begins ws → head_in (Some items) ≡ None
headless [] ws same begins = refl
headless (item ∷ rest) ws same begins =
    let whole : item.what ∷ map what_in rest ≡ begins.first ∷ begins.rest = same ∙ begins.whole in
    let is : item.what ≡ begins.first = cc in
    ap head_by is ∙ no_head begins.first begins.fine

pub listless : (items : List Item) (ws : List What) → map what_in items ≡ ws → Begins ws → list_kind_in (Some items) ≡ None
listless [] ws same begins = refl
listless (item ∷ []) ws same begins = refl
listless (item ∷ next ∷ rest) ws same begins =
    let whole : item.what ∷ map what_in (next ∷ rest) ≡ begins.first ∷ begins.rest = same ∙ begins.whole in
    let is : item.what ≡ begins.first = cc in
    ap (λ w. list_by w next.what) is ∙ no_list begins.first next.what begins.fine

-- ══ A line that says something ══

flag_no_equals : (b : Bool) (f : Flag) → list_all no_equals (flag_whats b f) ≡ true
flag_no_equals true f = refl
flag_no_equals false f = refl

flags_no_equals : (flags : Flags) → list_all no_equals (flags_whats flags) ≡ true
flags_no_equals flags =
    let nneg = flag_whats flags.nneg flag.NonNegative in
    let disjoint = flag_whats flags.disjoint flag.Disjoint in
    let exact = flag_whats flags.exact flag.Exact in
    let nsw = flag_whats flags.nsw flag.NoSignedWrap in
    all_both no_equals (flag_whats flags.nuw flag.NoUnsignedWrap) (nsw ++ (exact ++ (disjoint ++ nneg))) (flag_no_equals flags.nuw flag.NoUnsignedWrap)
    (all_both no_equals nsw (exact ++ (disjoint ++ nneg)) (flag_no_equals flags.nsw flag.NoSignedWrap)
    (all_both no_equals exact (disjoint ++ nneg) (flag_no_equals flags.exact flag.Exact)
    (all_both no_equals disjoint nneg (flag_no_equals flags.disjoint flag.Disjoint) (flag_no_equals flags.nneg flag.NonNegative))))

symbol_no_equals : (flag : SymbolFlag) (w : What) → no_equals w ≡ true → list_all no_equals (symbol_flag_whats flag ++ (w ∷ [])) ≡ true
symbol_no_equals symbol_flag.Plain w none = rw none refl
symbol_no_equals symbol_flag.Call w none = rw none refl
symbol_no_equals symbol_flag.Hi w none = rw none refl
symbol_no_equals symbol_flag.Lo w none = rw none refl

source_no_equals : (s : Source) → list_all no_equals (source_whats s) ≡ true
source_no_equals (source.Global flag place) = symbol_no_equals flag what.Global refl
source_no_equals (source.Routine flag place) = symbol_no_equals flag (what.Routine place) refl
source_no_equals s = refl

align_no_equals : (align : Option ℕ) → list_all no_equals (align_whats align ++ (what.Close ∷ [])) ≡ true
align_no_equals None = refl
align_no_equals (Some align) = refl

memory_no_equals : (memory : Option Memory) → list_all no_equals (memory_whats memory) ≡ true
memory_no_equals None = refl
memory_no_equals (Some memory) = align_no_equals memory.align

no_split : (whats : List What) (items : List Item) → list_all no_equals whats ≡ true → map what_in items ≡ whats → (split_at Equals items).after ≡ None
no_split whats [] none e = refl
no_split [] (item ∷ rest) none e = absurd (cc)
no_split (w ∷ ws) (item ∷ rest) none e =
    let parts = and_parts (no_equals w) (list_all no_equals ws) none in
    let is : item.what ≡ w = cc in
    let other : is_equals item.what ≡ false = ap is_equals is ∙ not-true (is_equals w) parts.0 in
    let later : map what_in rest ≡ ws = cc in
    rw other (no_split ws rest parts.1 later)

opcode_told : (op : Opcode) (items : List Item) (more : List What) → map what_in items ≡ word_what (word.Opcode op) ∷ more → is_debug items ≡ false
opcode_told op [] more e = refl
opcode_told op (item ∷ rest) more e =
    let is : item.what ≡ word_what (word.Opcode op) = cc in
    rw is refl

told_by : (definitions : List Definition) (flags : Flags) (op : Opcode) (sources : List Source) (memory : Option Memory) (items : List Item)
    → map what_in items ≡ whats_of (record { definitions = definitions; flags = flags; op = op; sources = sources; memory = memory }) → is_debug_line items ≡ false
told_by [] flags op sources memory items e =
    let more = listed_whats (map source_whats sources) ++ memory_whats memory in
    let none : list_all no_equals (flags_whats flags ++ (word_what (word.Opcode op) ∷ more)) ≡ true =
    all_both no_equals (flags_whats flags) (word_what (word.Opcode op) ∷ more) (flags_no_equals flags)
    (all_both no_equals (listed_whats (map source_whats sources)) (memory_whats memory) (all_listed no_equals source_whats refl source_no_equals sources) (memory_no_equals memory)) in
    let place : opcode_place items ≡ (read_flags items).rest = ap (λ after. (read_flags (unwrap_or after items)).rest) (no_split (flags_whats flags ++ (word_what (word.Opcode op) ∷ more)) items none e) in
    ap is_debug place ∙ opcode_told op (read_flags items).rest more (flags_read flags op items more e).behind
told_by (d ∷ definitions) flags op sources memory items e =
    let more = listed_whats (map source_whats sources) ++ memory_whats memory in
    let behind = flags_whats flags ++ (word_what (word.Opcode op) ∷ more) in
    let defined = listed_whats (map definition_whats (d ∷ definitions)) in
    let whole : map what_in items ≡ defined ++ (what.Equals ∷ behind) = e ∙ append_assoc defined (what.Equals ∷ []) behind in
    let split = equals_written defined behind items (all_listed no_equals definition_whats refl definition_no_equals (d ∷ definitions)) whole in
    let place : opcode_place items ≡ (read_flags split.rest).rest = rw (split.found) refl in
    ap is_debug place ∙ opcode_told op (read_flags split.rest).rest more (flags_read flags op split.rest more split.parts.second_same).behind

pub line_told : (items : List Item) (written : WrittenData) → AreWritten items written → is_debug_line items ≡ false
line_told items written are = told_by written.definitions written.flags written.op written.sources written.memory items are.same

-- the lines of heads and lists say something too
abbrev pub begins_other : What → Bool
begins_other (what.Word (word.BlockHead number)) = true
begins_other (what.Word word.Successors) = true
begins_other (what.Word word.Liveins) = true
begins_other w = false

first_told : (item : Item) (rest : List Item) (w : What) → item.what ≡ w → begins_other w ≡ true → is_debug (read_flags (item ∷ rest)).rest ≡ false
first_told item rest (what.Word (word.BlockHead number)) is other = rw is refl
first_told item rest (what.Word word.Successors) is other = rw is refl
first_told item rest (what.Word word.Liveins) is other = rw is refl
first_told item rest w is other = absurd (cc)

pub other_told : (items : List Item) (w : What) (ws : List What) → map what_in items ≡ w ∷ ws → begins_other w ≡ true → list_all no_equals (w ∷ ws) ≡ true → is_debug_line items ≡ false
other_told [] w ws e other none = refl
other_told (item ∷ rest) w ws e other none =
    let is : item.what ≡ w = cc in
    let place : opcode_place (item ∷ rest) ≡ (read_flags (item ∷ rest)).rest = ap (λ after. (read_flags (unwrap_or after (item ∷ rest))).rest) (no_split (w ∷ ws) (item ∷ rest) none e) in
    ap is_debug place ∙ first_told item rest w is other
