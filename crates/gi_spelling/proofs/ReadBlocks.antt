-- What holds of the lines of a block in which nothing is wrong.
use Rattle.std.proofs.Common.{◌≡◌, ℕ, Bool, true, false, List, [], ◌∷◌, ◌++◌, Option, Some, None, Ok, Err, map, refl, sym, ap, ◌∙◌, subst, append_assoc, append-nil}
use Rattle.std.specs.Prelude.{◌≢◌, not, fold, is_some, if◌then◌else◌}
use Rattle.std.specs.List.{list_all, AllZip}
use Rattle.std.specs.Cmp.Derive.{both_true}
use Rattle.std.proofs.lemmas.Bool.{and_parts}
use Rattle.std.proofs.lemmas.List.Folds.{list_all-append}
use Rattle.gi_llt.specs.declared.Llt.{Llt}
use Rattle.gi_mir.specs.declared.operand.Reg.{Reg}
use Rattle.gi_mir.specs.Data.{InstrData}
use Rattle.gi_spelling.specs.declared.token.What.{What}
use Rattle.gi_spelling.specs.declared.token.What.TheVariants as what
use Rattle.gi_spelling.specs.declared.token.Item.{Item}
use Rattle.gi_spelling.specs.declared.written.Fault.{Fault}
use Rattle.gi_spelling.specs.declared.written.Fault.TheVariants as fault
use Rattle.gi_spelling.specs.declared.written.ListKind.{ListKind}
use Rattle.gi_spelling.specs.declared.written.Shown.{Shown}
use Rattle.gi_spelling.specs.Items.{what_in, kept_items}
use Rattle.gi_spelling.specs.Lines.{Line}
use Rattle.gi_spelling.specs.Reading.{Read, read_instr, parts_of}
use Rattle.gi_spelling.specs.Resolved.{Tables, resolved}
use Rattle.gi_spelling.specs.Written.{WrittenData}
use Rattle.gi_spelling.specs.Blocks.{wrong, list_kind, listed_in, block_by, read_block, livein_by, read_livein, read_successors, read_liveins, Lists, with_list, Body, with_wrong, stated, with_list_line, begun, shown_types, shown_at, with_resolved, with_written, with_instr_line, with_line_of, with_line}
use Rattle.gi_spelling.specs.Spelling.{listed_whats, block_whats, physical_whats, is_list_line}
use Rattle.gi_spelling.proofs.TokenLists.{one_more, ended_ok, settled}
use Rattle.gi_spelling.proofs.ItemParts.{some_parts, IsPart, parts_spelled, all_ok}
use Rattle.gi_spelling.proofs.ReadWrongs.{append_none}

-- ══ Lists ══

block_part : (item : Item) (w : What) (rest : List Item) (number : ℕ) → item.what ≡ w → block_by w rest ≡ Ok number → IsPart block_whats (λ n. []) (item ∷ rest) number
block_part item (what.Block own) rest number is e =
    let p = ended_ok own number rest e in
    subst (IsPart block_whats (λ n. []) (item ∷ rest)) p.0 (record { tokens = one_more item rest (what.Block own) [] [] is refl p.1 })
block_part item w rest number is e = absurd (cc)

read_block_part : (part : List Item) (number : ℕ) → read_block part ≡ Ok number → IsPart block_whats (λ n. []) part number
read_block_part [] number e = absurd (cc)
read_block_part (item ∷ rest) number e = block_part item item.what rest number refl e

livein_part : (item : Item) (w : What) (rest : List Item) (number : ℕ) → item.what ≡ w → livein_by w rest ≡ Ok number → IsPart physical_whats (λ n. []) (item ∷ rest) number
livein_part item (what.Physical own) rest number is e =
    let p = ended_ok own number rest e in
    subst (IsPart physical_whats (λ n. []) (item ∷ rest)) p.0 (record { tokens = one_more item rest (what.Physical own) [] [] is refl p.1 })
livein_part item w rest number is e = absurd (cc)

read_livein_part : (part : List Item) (number : ℕ) → read_livein part ≡ Ok number → IsPart physical_whats (λ n. []) part number
read_livein_part [] number e = absurd (cc)
read_livein_part (item ∷ rest) number e = livein_part item item.what rest number refl e

pub successors_whats : (items : List Item) (numbers : List ℕ) → read_successors items ≡ Ok numbers → map what_in items ≡ listed_whats (map block_whats numbers)
successors_whats [] numbers e = settled (λ (numbers : List ℕ). [] ≡ listed_whats (map block_whats numbers)) [] numbers e refl
successors_whats (item ∷ rest) numbers e =
    (parts_spelled block_whats (λ n. []) (item ∷ rest) numbers (all_ok block_whats (λ n. []) read_block read_block_part (parts_of (item ∷ rest)) numbers e)).same

pub liveins_whats : (items : List Item) (numbers : List ℕ) → read_liveins items ≡ Ok numbers → map what_in items ≡ listed_whats (map physical_whats numbers)
liveins_whats items numbers e =
    (parts_spelled physical_whats (λ n. []) items numbers (all_ok physical_whats (λ n. []) read_livein read_livein_part (parts_of items) numbers e)).same

some_read : (parts : List (List Item)) (part : List Item) (more : List (List Item)) → parts ≡ part ∷ more → (numbers : List ℕ) → AllZip (IsPart physical_whats (λ n. [])) parts numbers → numbers ≢ []
some_read parts part more is [] all empty =
    let wrong_zip : AllZip (IsPart physical_whats (λ n. [])) (part ∷ more) [] = subst (λ parts. AllZip (IsPart physical_whats (λ n. [])) parts []) is all in
    wrong_zip
some_read parts part more is (n ∷ numbers) all empty = cc

pub liveins_some : (items : List Item) (numbers : List ℕ) → read_liveins items ≡ Ok numbers → numbers ≢ []
liveins_some items numbers e =
    let p = some_parts items in
    some_read (parts_of items) p.0 p.1 p.2 numbers (all_ok physical_whats (λ n. []) read_livein read_livein_part (parts_of items) numbers e)

-- ══ One line ══

-- a line that is read as an instruction, whose shown types are those of the registers
pub record ReadsAs (text : List ℕ) (tables : Tables) (fine : Shown → Bool) (line : Line) (instr : InstrData) : Type 0 where
  pub items : List Item
  pub tokens : kept_items text line ≡ Some items
  pub written : WrittenData
  pub read : read_instr items ≡ Ok written
  pub means : resolved tables written line.number ≡ Some instr
  pub shown : list_all (λ s. fine (shown_at line.number s)) (shown_types written) ≡ true

-- what one line does where it isn't wrong
pub data Step (text : List ℕ) (tables : Tables) (place : ℕ) (body : Body) (line : Line) : Type 0 where
  ListStep : (kind : ListKind) (lists : Lists) → list_kind text line ≡ Some kind → body.begun ≡ false → with_list place body.lists kind (listed_in (kept_items text line)) ≡ Some lists
      → with_line text tables place body line ≡ record body { lists = lists } → body.wrongs ≡ [] → Step text tables place body line
  InstrStep : (items : List Item) (written : WrittenData) (instr : InstrData) → list_kind text line ≡ None → kept_items text line ≡ Some items → read_instr items ≡ Ok written
      → resolved tables written line.number ≡ Some instr
      → with_line text tables place body line ≡ record { lists = body.lists; instrs = body.instrs ++ (instr ∷ []); shown = body.shown ++ map (shown_at line.number) (shown_types written); begun = true; wrongs = body.wrongs }
      → body.wrongs ≡ [] → Step text tables place body line

not_wrong : (body : Body) (line : Line) (error : Fault) → (with_wrong body line error).wrongs ≡ [] → ⊥
not_wrong body line error e =
    let none : wrong line.number error ∷ [] ≡ [] = (append_none body.wrongs (wrong line.number error ∷ []) e).1 in
    cc

list_step : (text : List ℕ) (tables : Tables) (place : ℕ) (body : Body) (line : Line) (kind : ListKind) → list_kind text line ≡ Some kind
    → (with_list_line place body line kind (listed_in (kept_items text line))).wrongs ≡ [] → Step text tables place body line
list_step text tables place body line kind is e = chosen body.begun refl (with_list place body.lists kind (listed_in (kept_items text line))) refl e
  where
    whole : with_line text tables place body line ≡ with_list_line place body line kind (listed_in (kept_items text line))
    whole = ap (with_line_of text tables place body line) is

    chosen : (begins : Bool) → body.begun ≡ begins → (lists : Option Lists) → with_list place body.lists kind (listed_in (kept_items text line)) ≡ lists
        → (if begins then with_wrong body line fault.Syntax else stated body line lists).wrongs ≡ [] → Step text tables place body line
    chosen true begins lists own e = absurd (not_wrong body line fault.Syntax e)
    chosen false begins None own e = absurd (not_wrong body line fault.Syntax e)
    chosen false begins (Some lists) own e = ListStep kind lists is begins own (whole ∙ rw (begins, own) refl) e

instr_step : (text : List ℕ) (tables : Tables) (place : ℕ) (body : Body) (line : Line) → list_kind text line ≡ None
    → (with_instr_line text tables body line (kept_items text line)).wrongs ≡ [] → Step text tables place body line
instr_step text tables place body line is e = chosen (kept_items text line) refl e
  where
    whole : with_line text tables place body line ≡ with_instr_line text tables body line (kept_items text line)
    whole = ap (with_line_of text tables place body line) is

    meaning : (items : List Item) (written : WrittenData) → kept_items text line ≡ Some items → read_instr items ≡ Ok written → (meant : Option InstrData) → resolved tables written line.number ≡ meant
        → (with_resolved (begun body) line written meant).wrongs ≡ [] → Step text tables place body line
    meaning items written kept read None means e = absurd (not_wrong (begun body) line fault.Syntax e)
    meaning items written kept read (Some instr) means e = InstrStep items written instr is kept read means (whole ∙ rw (kept, read, means) refl) e

    reading : (items : List Item) → kept_items text line ≡ Some items → (read : Read WrittenData) → read_instr items ≡ read → (with_written text tables (begun body) line read).wrongs ≡ []
        → Step text tables place body line
    reading items kept (Err error) read e = absurd (not_wrong (begun body) line error e)
    reading items kept (Ok written) read e = meaning items written kept read (resolved tables written line.number) refl e

    chosen : (items : Option (List Item)) → kept_items text line ≡ items → (with_instr_line text tables body line items).wrongs ≡ [] → Step text tables place body line
    chosen None kept e = absurd (not_wrong (begun body) line fault.Syntax e)
    chosen (Some items) kept e = reading items kept (read_instr items) refl e

step : (text : List ℕ) (tables : Tables) (place : ℕ) (body : Body) (line : Line) → (with_line text tables place body line).wrongs ≡ [] → Step text tables place body line
step text tables place body line e = chosen (list_kind text line) refl e
  where
    chosen : (kind : Option ListKind) → list_kind text line ≡ kind → (with_line_of text tables place body line kind).wrongs ≡ [] → Step text tables place body line
    chosen (Some kind) is e = list_step text tables place body line kind is e
    chosen None is e = instr_step text tables place body line is e

step_right : (text : List ℕ) (tables : Tables) (place : ℕ) (body : Body) (line : Line) → Step text tables place body line → body.wrongs ≡ []
step_right text tables place body line (ListStep kind lists is begins own whole right) = right
step_right text tables place body line (InstrStep items written instr is kept read means whole right) = right

-- ══ The lines of a block ══

right_before : (text : List ℕ) (tables : Tables) (place : ℕ) (lines : List Line) (body : Body) → (fold (with_line text tables place) body lines).wrongs ≡ [] → body.wrongs ≡ []
right_before text tables place [] body e = e
right_before text tables place (line ∷ lines) body e =
    step_right text tables place body line (step text tables place body line (right_before text tables place lines (with_line text tables place body line) e))

pub first_step : (text : List ℕ) (tables : Tables) (place : ℕ) (line : Line) (lines : List Line) (body : Body) → (fold (with_line text tables place) body (line ∷ lines)).wrongs ≡ [] → Step text tables place body line
first_step text tables place line lines body e = step text tables place body line (right_before text tables place lines (with_line text tables place body line) e)

shown_step : (text : List ℕ) (tables : Tables) (place : ℕ) (fine : Shown → Bool) (body : Body) (line : Line) → Step text tables place body line
    → list_all fine (with_line text tables place body line).shown ≡ true → list_all fine body.shown ≡ true
shown_step text tables place fine body line (ListStep kind lists is begins own whole right) all = subst (λ (b : Body). list_all fine b.shown ≡ true) whole all
shown_step text tables place fine body line (InstrStep items written instr is kept read means whole right) all =
    let both : list_all fine (body.shown ++ map (shown_at line.number) (shown_types written)) ≡ true = subst (λ (b : Body). list_all fine b.shown ≡ true) whole all in
    (and_parts (list_all fine body.shown) (list_all fine (map (shown_at line.number) (shown_types written))) (sym (list_all-append fine body.shown (map (shown_at line.number) (shown_types written))) ∙ both)).0

pub shown_before : (text : List ℕ) (tables : Tables) (place : ℕ) (fine : Shown → Bool) (lines : List Line) (body : Body) → (fold (with_line text tables place) body lines).wrongs ≡ []
    → list_all fine (fold (with_line text tables place) body lines).shown ≡ true → list_all fine body.shown ≡ true
shown_before text tables place fine [] body e all = all
shown_before text tables place fine (line ∷ lines) body e all =
    shown_step text tables place fine body line (first_step text tables place line lines body e) (shown_before text tables place fine lines (with_line text tables place body line) e all)

pub map_fine : (fine : Shown → Bool) (n : ℕ) (types : List (Reg × Llt)) → list_all fine (map (shown_at n) types) ≡ true → list_all (λ s. fine (shown_at n s)) types ≡ true
map_fine fine n [] all = refl
map_fine fine n (s ∷ types) all =
    let parts = and_parts (fine (shown_at n s)) (list_all fine (map (shown_at n) types)) all in
    both_true parts.0 (map_fine fine n types parts.1)

-- instructions behind the lists
pub record ReadsInstrs (text : List ℕ) (tables : Tables) (fine : Shown → Bool) (lines : List Line) (body whole : Body) : Type 0 where
  pub instrs : List InstrData
  pub each : AllZip (ReadsAs text tables fine) lines instrs
  pub all : whole.instrs ≡ body.instrs ++ instrs
  pub lists : whole.lists ≡ body.lists
  pub no_list : list_all (λ line. not (is_list_line text line)) lines ≡ true

pub reads_instrs : (text : List ℕ) (tables : Tables) (place : ℕ) (fine : Shown → Bool) (lines : List Line) (body : Body) → body.begun ≡ true → (fold (with_line text tables place) body lines).wrongs ≡ []
    → list_all fine (fold (with_line text tables place) body lines).shown ≡ true → ReadsInstrs text tables fine lines body (fold (with_line text tables place) body lines)
reads_instrs text tables place fine [] body begins e all = record { instrs = []; each = tt; all = sym (append-nil body.instrs); lists = refl; no_list = refl }
reads_instrs text tables place fine (line ∷ lines) body begins e all =
    chosen (first_step text tables place line lines body e) (shown_before text tables place fine lines (with_line text tables place body line) e all)
    (λ begins. reads_instrs text tables place fine lines (with_line text tables place body line) begins e all)
  where
    chosen : Step text tables place body line → list_all fine (with_line text tables place body line).shown ≡ true
        → ((with_line text tables place body line).begun ≡ true → ReadsInstrs text tables fine lines (with_line text tables place body line) (fold (with_line text tables place) (with_line text tables place body line) lines))
        → ReadsInstrs text tables fine (line ∷ lines) body (fold (with_line text tables place) (with_line text tables place body line) lines)
    chosen (ListStep kind lists is own_begins own whole right) fine_here more = absurd (cc (begins, own_begins))
    chosen (InstrStep items written instr is kept read means whole right) fine_here more =
        let rest = more (ap (λ (b : Body). b.begun) whole) in
        let both : list_all fine (body.shown ++ map (shown_at line.number) (shown_types written)) ≡ true = subst (λ (b : Body). list_all fine b.shown ≡ true) whole fine_here in
        let here = (and_parts (list_all fine body.shown) (list_all fine (map (shown_at line.number) (shown_types written))) (sym (list_all-append fine body.shown (map (shown_at line.number) (shown_types written))) ∙ both)).1 in
        record {
          instrs = instr ∷ rest.instrs;
          each = (record { items = items; tokens = kept; written = written; read = read; means = means; shown = map_fine fine line.number (shown_types written) here }, rest.each);
          all = rest.all ∙ (ap (λ (b : Body). b.instrs ++ rest.instrs) whole ∙ append_assoc body.instrs (instr ∷ []) rest.instrs);
          lists = rest.lists ∙ ap (λ (b : Body). b.lists) whole;
          no_list = both_true (ap (λ kind. not (is_some kind)) is) rest.no_list;
        }
