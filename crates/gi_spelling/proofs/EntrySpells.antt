-- What entries and lines of a printed document spell, one by one.
use Rattle.std.proofs.Common.{◌≡◌, ℕ, ◌-◌, Bool, true, false, List, [], ◌∷◌, ◌++◌, length, Some, map, sym, refl, ap, ◌∙◌, subst, append_assoc}
use Rattle.std.specs.Prelude.{◌&&◌, not, filter, bytes_eq, option_map, replicate, codes, if◌then◌else◌}
use Rattle.std.specs.List.{list_all, AllZip}
use Rattle.std.specs.Cmp.Derive.{both_true}
use Rattle.std.proofs.lemmas.Bool.{and_parts}
use Rattle.gi_llt.specs.Tokens.{lexeme, Word as OfWord, Mark as OfMark}
use Rattle.gi_llt.proofs.Pieces.{is_stopped, tokens_past-spaces}
use Rattle.gi_spelling.specs.declared.token.Word.TheVariants as word
use Rattle.gi_spelling.specs.declared.token.What.{What}
use Rattle.gi_spelling.specs.declared.token.What.TheVariants as what
use Rattle.gi_spelling.specs.Items.{items_in, end_of, what_in}
use Rattle.gi_spelling.specs.Lines as line_specs
use Rattle.gi_spelling.specs.Lines.{Line, Section as LineSection, behind_colon, is_entry, key_of, is_entry_of, without_line, is_stray}
use Rattle.gi_spelling.specs.Documents.{is_name}
use Rattle.gi_spelling.specs.Spelling.{word_what, entries_with, value_whats, SpellsTruth, SpellsName}
use Rattle.gi_spelling.specs.Lines.{is_dropped, is_start, is_end, begins_at_column_one, value_bytes}
use Rattle.gi_spelling.proofs.PlainLines.{Section}
use Rattle.gi_spelling.proofs.PlacedLines.{IsLine, Reads, read_range, back_slice}
use Rattle.gi_spelling.proofs.Zips.{filter_zip, SectionsAgree}
use Rattle.gi_spelling.proofs.Documents.{entry_line, value_bytes-gap, name_solid, end_lines}

-- what holds whichever of four flags are set
pub by_flags : (P : Bool → Bool → Bool → Bool → Type 0)
    → P true true true true
    → P true true true false
    → P true true false true
    → P true true false false
    → P true false true true
    → P true false true false
    → P true false false true
    → P true false false false
    → P false true true true
    → P false true true false
    → P false true false true
    → P false true false false
    → P false false true true
    → P false false true false
    → P false false false true
    → P false false false false
    → (a b c d : Bool) → P a b c d
by_flags P p0 p1 p2 p3 p4 p5 p6 p7 p8 p9 p10 p11 p12 p13 p14 p15 true true true true = p0
by_flags P p0 p1 p2 p3 p4 p5 p6 p7 p8 p9 p10 p11 p12 p13 p14 p15 true true true false = p1
by_flags P p0 p1 p2 p3 p4 p5 p6 p7 p8 p9 p10 p11 p12 p13 p14 p15 true true false true = p2
by_flags P p0 p1 p2 p3 p4 p5 p6 p7 p8 p9 p10 p11 p12 p13 p14 p15 true true false false = p3
by_flags P p0 p1 p2 p3 p4 p5 p6 p7 p8 p9 p10 p11 p12 p13 p14 p15 true false true true = p4
by_flags P p0 p1 p2 p3 p4 p5 p6 p7 p8 p9 p10 p11 p12 p13 p14 p15 true false true false = p5
by_flags P p0 p1 p2 p3 p4 p5 p6 p7 p8 p9 p10 p11 p12 p13 p14 p15 true false false true = p6
by_flags P p0 p1 p2 p3 p4 p5 p6 p7 p8 p9 p10 p11 p12 p13 p14 p15 true false false false = p7
by_flags P p0 p1 p2 p3 p4 p5 p6 p7 p8 p9 p10 p11 p12 p13 p14 p15 false true true true = p8
by_flags P p0 p1 p2 p3 p4 p5 p6 p7 p8 p9 p10 p11 p12 p13 p14 p15 false true true false = p9
by_flags P p0 p1 p2 p3 p4 p5 p6 p7 p8 p9 p10 p11 p12 p13 p14 p15 false true false true = p10
by_flags P p0 p1 p2 p3 p4 p5 p6 p7 p8 p9 p10 p11 p12 p13 p14 p15 false true false false = p11
by_flags P p0 p1 p2 p3 p4 p5 p6 p7 p8 p9 p10 p11 p12 p13 p14 p15 false false true true = p12
by_flags P p0 p1 p2 p3 p4 p5 p6 p7 p8 p9 p10 p11 p12 p13 p14 p15 false false true false = p13
by_flags P p0 p1 p2 p3 p4 p5 p6 p7 p8 p9 p10 p11 p12 p13 p14 p15 false false false true = p14
by_flags P p0 p1 p2 p3 p4 p5 p6 p7 p8 p9 p10 p11 p12 p13 p14 p15 false false false false = p15

-- an entry of a key, by its bytes
abbrev pub keyed_as : (key : List ℕ) → Section → Bool
keyed_as key section = is_entry section.head && bytes_eq (key_of section.head) key

abbrev pub alone : List ℕ → List Section
alone line = record { head = line; under = [] } ∷ []

-- ══ Values ══

pub reads_spaced : (gap : ℕ) (value : List ℕ) (ws : List What) → Reads value ws → Reads (replicate gap 32 ++ value) ws
reads_spaced gap value ws reads = record { lexemes = reads.lexemes; read = tokens_past-spaces gap value ∙ reads.read; sized = reads.sized; same = reads.same }

pub reads_true : Reads (codes "true") (word_what word.True ∷ [])
reads_true = record { lexemes = lexeme OfWord (codes "true") ∷ []; read = refl; sized = refl; same = refl }

pub reads_bar : Reads (codes "|") (what.Bar ∷ [])
reads_bar = record { lexemes = lexeme OfMark (codes "|") ∷ []; read = refl; sized = refl; same = refl }

pub value_is : (text : List ℕ) (section : LineSection) (key back : List ℕ) (ws : List What) → IsLine text section.head (key ++ (58 ∷ back)) → behind_colon (key ++ (58 ∷ back)) ≡ back → Reads back ws
    → value_whats text section ≡ Some ws
value_is text section key back ws is behind reads =
    let line = section.head in
    let split : key ++ (58 ∷ back) ≡ (key ++ (58 ∷ [])) ++ back = sym (append_assoc key (58 ∷ []) back) in
    let front : IsLine text line ((key ++ (58 ∷ [])) ++ back) = subst (IsLine text line) split is in
    let value : behind_colon line.bytes ≡ back = ap behind_colon is.same ∙ behind in
    let at = back_slice text line (key ++ (58 ∷ [])) back front in
    let read = read_range text (end_of line - length back) (end_of line) back ws at reads in
    ap (λ (bytes : List ℕ). option_map (map what_in) (items_in text (end_of line - length bytes) (end_of line))) value ∙ (ap (option_map (map what_in)) read.items ∙ ap Some read.same)

-- ══ Sections one by one ══

pub none_zip : {A B : Type 0} (R : A → B → Type 0) (xs : List A) → AllZip R xs [] → xs ≡ []
none_zip R [] all = refl
none_zip R (x ∷ xs) all = absurd all

pub one_zip : {A B : Type 0} (R : A → B → Type 0) (xs : List A) (y : B) → AllZip R xs (y ∷ []) → (x : A) × (xs ≡ x ∷ []) × R x y
one_zip R [] y all = absurd all
one_zip R (x ∷ []) y all = (x, refl, all.0)
one_zip R (x ∷ next ∷ xs) y all = absurd all.1

keyed_same : (text key : List ℕ) (section : LineSection) (known : Section) → SectionsAgree (IsLine text) section known → is_entry_of key section ≡ keyed_as key known
keyed_same text key section known agree = ap (λ bytes. is_entry bytes && bytes_eq (key_of bytes) key) agree.head.same

pub with_key : (text key : List ℕ) (sections : List LineSection) (known found : List Section) → AllZip (SectionsAgree (IsLine text)) sections known → filter (keyed_as key) known ≡ found
    → AllZip (SectionsAgree (IsLine text)) (entries_with key sections) found
with_key text key sections known found agree e =
    subst (AllZip (SectionsAgree (IsLine text)) (entries_with key sections)) e (filter_zip (SectionsAgree (IsLine text)) (is_entry_of key) (keyed_as key) (keyed_same text key) sections known agree)

pub all_keyed : (text : List ℕ) (sections : List LineSection) (known : List Section) → AllZip (SectionsAgree (IsLine text)) sections known → list_all (λ (section : Section). is_entry section.head) known ≡ true
    → list_all (λ (section : LineSection). is_entry section.head.bytes) sections ≡ true
all_keyed text [] known agree e = refl
all_keyed text (section ∷ sections) [] agree e = absurd agree
all_keyed text (section ∷ sections) (known ∷ more) agree e =
    let parts = and_parts (is_entry known.head) (list_all (λ (section : Section). is_entry section.head) more) e in
    both_true (ap is_entry agree.0.head.same ∙ parts.0) (all_keyed text sections more agree.1 parts.1)

pub truth_spelled : (text key : List ℕ) (gap : ℕ) (truth : Bool) (sections : List LineSection) → behind_colon (entry_line key gap (codes "true")) ≡ replicate gap 32 ++ codes "true"
    → AllZip (SectionsAgree (IsLine text)) sections (if truth then alone (entry_line key gap (codes "true")) else []) → SpellsTruth text sections truth
truth_spelled text key gap false [] behind agree = refl
truth_spelled text key gap false (section ∷ sections) behind agree = absurd agree
truth_spelled text key gap true [] behind agree = absurd agree
truth_spelled text key gap true (section ∷ []) behind agree = (
  value_is text section key (replicate gap 32 ++ codes "true") (word_what word.True ∷ []) agree.0.head behind (reads_spaced gap (codes "true") (word_what word.True ∷ []) reads_true),
  none_zip (IsLine text) section.under agree.0.under,
)
truth_spelled text key gap true (section ∷ next ∷ sections) behind agree = absurd agree.1

pub name_spelled : (text name : List ℕ) (gap : ℕ) (sections : List LineSection) → is_name name ≡ true → AllZip (SectionsAgree (IsLine text)) sections (alone (entry_line (codes "name") gap name))
    → SpellsName name sections
name_spelled text name gap [] named agree = absurd agree
name_spelled text name gap (section ∷ []) named agree = (
  ap (λ bytes. value_bytes (behind_colon bytes)) agree.0.head.same ∙ value_bytes-gap gap name (name_solid name named),
  named,
  none_zip (IsLine text) section.under agree.0.under,
)
name_spelled text name gap (section ∷ next ∷ sections) named agree = absurd agree.1

-- ══ Tests of lines ══

pub ends_same : (text : List ℕ) (line : Line) (bytes : List ℕ) → IsLine text line bytes → not (line_specs.is_end line.bytes) ≡ not (is_end bytes)
ends_same text line bytes is = ap (λ bytes. not (is_end bytes)) is.same

pub drops_same : (text : List ℕ) (line : Line) (bytes : List ℕ) → IsLine text line bytes → not (line_specs.is_dropped line.bytes) ≡ not (is_dropped bytes)
drops_same text line bytes is = ap (λ bytes. not (is_dropped bytes)) is.same

pub column_same : (text : List ℕ) (line : Line) (bytes : List ℕ) → IsLine text line bytes → line_specs.is_at_column_one line ≡ begins_at_column_one bytes
column_same text line bytes is = ap begins_at_column_one is.same

pub starts_same : (text : List ℕ) (line : Line) (bytes : List ℕ) → IsLine text line bytes → line_specs.starts line ≡ is_start bytes
starts_same text line bytes is = ap is_start is.same

pub end_stops : (closed : Bool) → is_stopped (λ line. not (is_end line)) (end_lines closed) ≡ true
end_stops true = refl
end_stops false = refl

pub no_strays_behind : (text : List ℕ) (closed : Bool) (lines : List Line) → AllZip (IsLine text) lines (end_lines closed) → filter is_stray (without_line lines) ≡ []
no_strays_behind text true [] all = absurd all
no_strays_behind text true (line ∷ []) all = refl
no_strays_behind text true (line ∷ next ∷ lines) all = absurd all.1
no_strays_behind text false [] all = refl
no_strays_behind text false (line ∷ lines) all = absurd all
