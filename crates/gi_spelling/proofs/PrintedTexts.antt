-- The printed text of a module spells that module.
use Rattle.std.proofs.Common.{◌≡◌, ℕ, Bool, true, false, List, [], ◌∷◌, ◌++◌, length, Option, Some, None, map, sym, refl, ap, ◌∙◌, subst, append_assoc}
use Rattle.gi_mir.specs.Names.{name_at}
use Rattle.std.specs.Prelude.{◌&&◌, ◌||◌, ◌==◌, not, filter, option_map, codes}
use Rattle.std.specs.List.{list_all, AllByRecursion, AllZip}
use Rattle.std.specs.Str.{is_utf8}
use Rattle.std.specs.Cmp.Derive.{both_true}
use Rattle.std.proofs.lemmas.Bool.{and_parts, not-true}
use Rattle.std.proofs.lemmas.List.{append-nil}
use Rattle.gi_llt.specs.Tokens.{past_run}
use Rattle.gi_llt.proofs.Apart.{is_no_feed}
use Rattle.gi_llt.proofs.Pieces.{run_of-append, past_run-append}
use Rattle.gi_mir.specs.Data.{FunctionData, ModuleData}
use Rattle.gi_mir.specs.Registers.{kind_of}
use Rattle.gi_spelling.specs.Documents.{line_wrongs, is_no_text, ir_wrongs}
use Rattle.gi_spelling.specs.Lines as line_specs
use Rattle.gi_spelling.specs.Lines.{Line, Section as LineSection, is_stray, in_documents, Parts, parts_of_text, parts_from, past_end, ends_document, behind_block, block_lines_in, lines_in, lines_of, is_start, is_end}
use Rattle.gi_spelling.proofs.PlainLines.{Section, Sections, with_head, sections_of}
use Rattle.gi_spelling.specs.Printable.{is_ir_line, are_ir_lines, IsPrintableFunction, IsPrintableModule}
use Rattle.gi_spelling.specs.Printed.{blocks_lines, key_lines, stack_lines, printed_lines, functions_lines, ir_lines, text_of, printed}
use Rattle.gi_spelling.specs.Spelling.{SpellsDocument, Spells}
use Rattle.gi_spelling.proofs.BlockLines.{EachLine, each-append, each-weaker}
use Rattle.gi_spelling.proofs.Blocks.{sections_of-append, IsRaw}
use Rattle.gi_spelling.proofs.Documents.{Layout, header_lines, end_lines, body_line}
use Rattle.gi_spelling.proofs.PlacedLines.{IsLine, lines_placed}
use Rattle.gi_spelling.proofs.PrintedDocuments.{front_lines, function_lines, front_raw, lined_of, document_spelled}
use Rattle.gi_spelling.proofs.EntrySpells.{by_flags, none_zip, starts_same}
use Rattle.gi_spelling.proofs.Texts.{lines_of-text_of, printed_layout}
use Rattle.gi_spelling.proofs.Zips.{run_zip, past_zip, SectionsAgree, AllAgree, sections_zip}

-- ══ Documents one after the other ══

abbrev pub documents_lines : Layout → (names : List (List ℕ)) → List FunctionData → List (List ℕ)
documents_lines layout names [] = []
documents_lines layout names (f ∷ functions) = codes "---" ∷ (function_lines layout names f ++ documents_lines layout names functions)

abbrev documents_of : Layout → (names : List (List ℕ)) → List FunctionData → List Section
documents_of layout names [] = []
documents_of layout names (f ∷ functions) = record { head = codes "---"; under = function_lines layout names f } ∷ documents_of layout names functions

end_raw : (closed : Bool) → EachLine IsRaw (end_lines closed)
end_raw true = (record { no_start = refl; no_feed = refl }, tt)
end_raw false = tt

function_raw : (layout : Layout) (names : List (List ℕ)) (f : FunctionData) → IsPrintableFunction names f → EachLine IsRaw (function_lines layout names f)
function_raw layout names f printable =
    each-append IsRaw (front_lines layout names f) (end_lines layout.closed) (front_raw layout names f (lined_of names f printable)) (end_raw layout.closed)

raw_no_start : (line : List ℕ) → IsRaw line → is_start line ≡ false
raw_no_start line raw = raw.no_start

raw_no_feed : (line : List ℕ) → IsRaw line → list_all is_no_feed line ≡ true
raw_no_feed line raw = raw.no_feed

sections_of-documents : (layout : Layout) (names : List (List ℕ)) (functions : List FunctionData) → AllByRecursion (IsPrintableFunction names) functions
    → sections_of is_start (documents_lines layout names functions) ≡ record { before = []; sections = documents_of layout names functions }
sections_of-documents layout names [] all = refl
sections_of-documents layout names (f ∷ functions) all =
    let lines = function_lines layout names f in
    let later = documents_lines layout names functions in
    let rest : sections_of is_start (lines ++ later) ≡ record { before = lines ++ []; sections = documents_of layout names functions } =
    sections_of-append is_start lines later (each-weaker IsRaw (λ line. is_start line ≡ false) raw_no_start lines (function_raw layout names f all.0))
    ∙ ap (λ (s : Sections). record { before = lines ++ s.before; sections = s.sections }) (sections_of-documents layout names functions all.1) in
    let Goal : List (List ℕ) → Type 0 = λ before. sections_of is_start (lines ++ later) ≡ record { before = before; sections = documents_of layout names functions } in
    ap (with_head (codes "---")) (subst Goal (append-nil lines) rest)

documents_feeds : (layout : Layout) (names : List (List ℕ)) (functions : List FunctionData) → AllByRecursion (IsPrintableFunction names) functions
    → EachLine (λ line. list_all is_no_feed line ≡ true) (documents_lines layout names functions)
documents_feeds layout names [] all = tt
documents_feeds layout names (f ∷ functions) all = (
  refl,
  each-append (λ line. list_all is_no_feed line ≡ true) (function_lines layout names f) (documents_lines layout names functions)
      (each-weaker IsRaw (λ line. list_all is_no_feed line ≡ true) raw_no_feed (function_lines layout names f) (function_raw layout names f all.0))
      (documents_feeds layout names functions all.1),
)

documents_spelled : (text : List ℕ) (layout : Layout) (names : List (List ℕ)) (functions : List FunctionData) (documents : List LineSection) → AllByRecursion (IsPrintableFunction names) functions
    → AllZip (SectionsAgree (IsLine text)) documents (documents_of layout names functions) → AllZip (SpellsDocument text names) documents functions
documents_spelled text layout names [] [] all agree = tt
documents_spelled text layout names [] (document ∷ documents) all agree = absurd agree
documents_spelled text layout names (f ∷ functions) [] all agree = absurd agree
documents_spelled text layout names (f ∷ functions) (document ∷ documents) all agree =
    (document_spelled text layout names f document all.0 agree.0, documents_spelled text layout names functions documents all.1 agree.1)

-- ══ The parts of a text ══

record HasParts (text : List ℕ) (layout : Layout) (names : List (List ℕ)) (functions : List FunctionData) (ir : Option (List (List ℕ))) : Type 0 where
  block : Option (List Line)
  behind : List Line
  parts : parts_of_text text ≡ in_documents block (line_specs.sections_of line_specs.starts behind)
  same : ir ≡ option_map (map (λ (line : Line). line.bytes)) block
  is_text : ir_wrongs block ≡ []
  agree : AllZip (IsLine text) behind (documents_lines layout names functions)

-- a text that begins with a document has no IR block
plain_parts : (text : List ℕ) (layout : Layout) (names : List (List ℕ)) (functions : List FunctionData) (found : List Line) → AllZip (IsLine text) found (documents_lines layout names functions)
    → parts_from (past_run (λ line. line_specs.is_dropped line.bytes) found) found ≡ in_documents None (line_specs.sections_of line_specs.starts found)
plain_parts text layout names [] [] all = refl
plain_parts text layout names [] (line ∷ found) all = absurd all
plain_parts text layout names (f ∷ functions) [] all = absurd all
plain_parts text layout names (f ∷ functions) (line ∷ found) all =
    let counts : line_specs.is_dropped line.bytes ≡ false = ap line_specs.is_dropped all.0.same in
    let no_block : line_specs.is_block_start line.bytes ≡ false = ap line_specs.is_block_start all.0.same in
    rw (counts, no_block) refl

-- the first line begins the IR block
block_parts : (text : List ℕ) (line : Line) (found : List Line) → IsLine text line (codes "--- |")
    → parts_from (past_run (λ line. line_specs.is_dropped line.bytes) (line ∷ found)) (line ∷ found) ≡ in_documents (Some (block_lines_in found)) (line_specs.sections_of line_specs.starts (behind_block found))
block_parts text line found is =
    let counts : line_specs.is_dropped line.bytes ≡ false = ap line_specs.is_dropped is.same in
    let begins : line_specs.is_block_start line.bytes ≡ true = ap line_specs.is_block_start is.same in
    rw (counts, begins) refl

abbrev is_inside : List ℕ → Bool
is_inside line = not (is_end line || is_start line)

inside_same : (text : List ℕ) (line : Line) (bytes : List ℕ) → IsLine text line bytes → not (ends_document line) ≡ is_inside bytes
inside_same text line bytes is = ap is_inside is.same

record IsIrLine (line : List ℕ) : Type 0 where
  encoded : is_utf8 line ≡ true
  no_feed : list_all is_no_feed line ≡ true
  inside : is_inside line ≡ true

ir_line : (line : List ℕ) → is_ir_line line ≡ true → IsIrLine line
ir_line line fine =
    let feedless = list_all (λ byte. not (byte == 10)) line in
    let outer = and_parts (is_utf8 line && feedless && not (is_end line)) (not (is_start line)) fine in
    let middle = and_parts (is_utf8 line && feedless) (not (is_end line)) outer.0 in
    let inner = and_parts (is_utf8 line) feedless middle.0 in
    record { encoded = inner.0; no_feed = inner.1; inside = rw (not-true (is_end line) middle.1, not-true (is_start line) outer.1) refl }

lines_inside : (lines : List (List ℕ)) → list_all is_ir_line lines ≡ true → list_all is_inside lines ≡ true
lines_inside [] fine = refl
lines_inside (line ∷ lines) fine =
    let parts = and_parts (is_ir_line line) (list_all is_ir_line lines) fine in
    both_true (ir_line line parts.0).inside (lines_inside lines parts.1)

lines_feeds : (lines : List (List ℕ)) → list_all is_ir_line lines ≡ true → EachLine (λ line. list_all is_no_feed line ≡ true) lines
lines_feeds [] fine = tt
lines_feeds (line ∷ lines) fine =
    let parts = and_parts (is_ir_line line) (list_all is_ir_line lines) fine in
    ((ir_line line parts.0).no_feed, lines_feeds lines parts.1)

bytes_of-lines : (text : List ℕ) (found : List Line) (lines : List (List ℕ)) → AllZip (IsLine text) found lines → map (λ (line : Line). line.bytes) found ≡ lines
bytes_of-lines text [] [] all = refl
bytes_of-lines text [] (line ∷ lines) all = absurd all
bytes_of-lines text (line ∷ found) [] all = absurd all
bytes_of-lines text (line ∷ found) (bytes ∷ lines) all = cc (all.0.same, bytes_of-lines text found lines all.1)

all_text : (text : List ℕ) (found : List Line) (lines : List (List ℕ)) → AllZip (IsLine text) found lines → list_all is_ir_line lines ≡ true → filter is_no_text found ≡ []
all_text text [] lines all fine = refl
all_text text (line ∷ found) [] all fine = absurd all
all_text text (line ∷ found) (bytes ∷ lines) all fine =
    let parts = and_parts (is_ir_line bytes) (list_all is_ir_line lines) fine in
    let encoded : is_no_text line ≡ false = ap (λ own. not (is_utf8 own)) all.0.same ∙ ap not (ir_line bytes parts.0).encoded in
    rw encoded (all_text text found lines all.1 parts.1)

behind_end : (text : List ℕ) (found : List Line) (later : List (List ℕ)) → AllZip (IsLine text) found (codes "..." ∷ later) → AllZip (IsLine text) (past_end found) later
behind_end text [] later all = absurd all
behind_end text (line ∷ found) later all =
    let ends : line_specs.is_end line.bytes ≡ true = ap line_specs.is_end all.0.same in
    rw ends all.1

has_parts : (text : List ℕ) (layout : Layout) (names : List (List ℕ)) (functions : List FunctionData) (ir : Option (List (List ℕ))) → are_ir_lines ir ≡ true
    → AllZip (IsLine text) (lines_in text) (ir_lines ir ++ documents_lines layout names functions) → HasParts text layout names functions ir
has_parts text layout names functions None fine all = record {
  block = None;
  behind = lines_in text;
  parts = plain_parts text layout names functions (lines_in text) all;
  same = refl;
  is_text = refl;
  agree = all;
}
has_parts text layout names functions (Some lines) fine all = chosen (lines_in text) refl all
  where
    docs : List (List ℕ)
    docs = documents_lines layout names functions

    chosen : (found : List Line) → lines_in text ≡ found → AllZip (IsLine text) found (codes "--- |" ∷ ((lines ++ (codes "..." ∷ [])) ++ docs)) → HasParts text layout names functions (Some lines)
    chosen [] is all = absurd all
    chosen (first ∷ more) is all =
        let behind : AllZip (IsLine text) more (lines ++ (codes "..." ∷ docs)) = subst (AllZip (IsLine text) more) (append_assoc lines (codes "..." ∷ []) docs) all.1 in
        let inside = lines_inside lines fine in
        let run : AllZip (IsLine text) (block_lines_in more) lines =
        subst (AllZip (IsLine text) (block_lines_in more)) (run_of-append is_inside lines (codes "..." ∷ docs) inside refl)
        (run_zip (IsLine text) (λ line. not (ends_document line)) is_inside (inside_same text) more (lines ++ (codes "..." ∷ docs)) behind) in
        let past : AllZip (IsLine text) (past_run (λ line. not (ends_document line)) more) (codes "..." ∷ docs) =
        subst (AllZip (IsLine text) (past_run (λ line. not (ends_document line)) more)) (past_run-append is_inside lines (codes "..." ∷ docs) inside refl)
        (past_zip (IsLine text) (λ line. not (ends_document line)) is_inside (inside_same text) more (lines ++ (codes "..." ∷ docs)) behind) in
        record {
          block = Some (block_lines_in more);
          behind = behind_block more;
          parts = ap (λ found. parts_from (past_run (λ line. line_specs.is_dropped line.bytes) found) found) is ∙ block_parts text first more all.0;
          same = ap Some (sym (bytes_of-lines text (block_lines_in more) lines run));
          is_text = ap line_wrongs (all_text text (block_lines_in more) lines run fine);
          agree = behind_end text (past_run (λ line. not (ends_document line)) more) docs past;
        }

-- ══ A text ══

-- a text of these lines spells the module
pub text_spelled : (text : List ℕ) (layout : Layout) (m : ModuleData) → IsPrintableModule m → lines_of text ≡ ir_lines m.ir ++ documents_lines layout m.names m.functions → Spells text m
text_spelled text layout m printable known =
    let docs = documents_lines layout m.names m.functions in
    let all : AllZip (IsLine text) (lines_in text) (ir_lines m.ir ++ docs) = subst (AllZip (IsLine text) (lines_in text)) known (lines_placed text) in
    let has = has_parts text layout m.names m.functions m.ir printable.ir all in
    let sections = line_specs.sections_of line_specs.starts has.behind in
    let agree : AllAgree (IsLine text) sections (record { before = []; sections = documents_of layout m.names m.functions }) =
    subst (AllAgree (IsLine text) sections) (sections_of-documents layout m.names m.functions printable.functions)
    (sections_zip (IsLine text) line_specs.starts is_start (starts_same text) has.behind docs has.agree) in
    let before : sections.before ≡ [] = none_zip (IsLine text) sections.before agree.before in
    let documents = documents_spelled text layout m.names m.functions sections.sections printable.functions agree.sections in
    record {
      ir = record { same = has.same ∙ ap (λ (p : Parts). option_map (map (λ (line : Line). line.bytes)) p.ir) (sym has.parts); is_text = ap (λ (p : Parts). ir_wrongs p.ir) has.parts ∙ has.is_text };
      no_strays = ap (λ (p : Parts). p.strays) has.parts ∙ ap (filter is_stray) before;
      documents = subst (λ (p : Parts). AllZip (SpellsDocument text m.names) p.documents m.functions) (sym has.parts) documents;
    }

-- ══ The printed text ══

printed_header : (name : List ℕ) (legal banked chosen : Bool) (rest : List (List ℕ))
    → (codes "name:            " ++ name)
    ∷ (key_lines legal (codes "legalized:       true") ++ (key_lines banked (codes "regBankSelected: true") ++ (key_lines chosen (codes "selected:        true")
    ++ (codes "tracksRegLiveness: true" ∷ rest))))
    ≡ header_lines printed_layout name legal banked chosen ++ rest
printed_header name legal banked chosen rest =
    by_flags (λ a b c d.
    (codes "name:            " ++ name)
    ∷ (key_lines a (codes "legalized:       true") ++ (key_lines b (codes "regBankSelected: true") ++ (key_lines c (codes "selected:        true")
    ++ (codes "tracksRegLiveness: true" ∷ rest))))
    ≡ header_lines printed_layout name a b c ++ rest)
    refl refl refl refl refl refl refl refl refl refl refl refl refl refl refl refl legal banked chosen true

printed_lines-is : (names : List (List ℕ)) (f : FunctionData) → printed_lines names f ≡ codes "---" ∷ function_lines printed_layout names f
printed_lines-is names f =
    let blocks = blocks_lines (kind_of f) names 0 (length f.blocks) f.blocks in
    let ends = codes "..." ∷ [] in
    let body = body_line printed_layout in
    let header = header_lines printed_layout (name_at names f.name) f.legalized f.banked f.selected in
    let stack = stack_lines f.stack in
    let regrouped : (header ++ (stack ++ (body ∷ blocks))) ++ ends ≡ header ++ (stack ++ (body ∷ (blocks ++ ends))) =
    append_assoc header (stack ++ (body ∷ blocks)) ends ∙ ap (λ more. header ++ more) (append_assoc stack (body ∷ blocks) ends) in
    ap (λ lines. codes "---" ∷ lines) (printed_header (name_at names f.name) f.legalized f.banked f.selected (stack ++ (body ∷ (blocks ++ ends))) ∙ sym regrouped)

functions_lines-is : (names : List (List ℕ)) (functions : List FunctionData) → functions_lines names functions ≡ documents_lines printed_layout names functions
functions_lines-is names [] = refl
functions_lines-is names (f ∷ functions) =
    ap (λ lines. lines ++ functions_lines names functions) (printed_lines-is names f)
    ∙ ap (λ lines. codes "---" ∷ (function_lines printed_layout names f ++ lines)) (functions_lines-is names functions)

ir_feeds : (ir : Option (List (List ℕ))) → are_ir_lines ir ≡ true → EachLine (λ line. list_all is_no_feed line ≡ true) (ir_lines ir)
ir_feeds None fine = tt
ir_feeds (Some lines) fine = (refl, each-append (λ line. list_all is_no_feed line ≡ true) lines (codes "..." ∷ []) (lines_feeds lines fine) (refl, tt))

pub printed_spells : (m : ModuleData) → IsPrintableModule m → Spells (printed m) m
printed_spells m printable =
    let docs = documents_lines printed_layout m.names m.functions in
    let whole : ir_lines m.ir ++ functions_lines m.names m.functions ≡ ir_lines m.ir ++ docs = ap (λ lines. ir_lines m.ir ++ lines) (functions_lines-is m.names m.functions) in
    text_spelled (printed m) printed_layout m printable
    (ap (λ lines. lines_of (text_of lines)) whole
    ∙ lines_of-text_of (ir_lines m.ir ++ docs)
    (each-append (λ line. list_all is_no_feed line ≡ true) (ir_lines m.ir) docs (ir_feeds m.ir printable.ir) (documents_feeds printed_layout m.names m.functions printable.functions)))
