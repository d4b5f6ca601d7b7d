-- Nothing is wrong in the blocks of a document that spells a function.
use Rattle.std.proofs.Common.{◌≡◌, ℕ, zero, suc, Bool, true, false, List, [], ◌∷◌, ◌++◌, Option, Some, None, Ok, map, refl, sym, ap, ◌∙◌, subst, inl, inr, append_assoc, append-nil}
use Rattle.std.specs.Prelude.{◌⊎◌, ◌≢◌, fold, if◌then◌else◌}
use Rattle.std.specs.List.{list_all, AllZip}
use Rattle.std.specs.Option.{option_map_or}
use Rattle.std.specs.Cmp.Derive.{both_true}
use Rattle.std.proofs.lemmas.Bool.{and_parts}
use Rattle.std.proofs.lemmas.List.Folds.{list_all-append}
use Rattle.gi_llt.specs.Tokens.{past_run}
use Rattle.gi_llt.specs.declared.Llt.{Llt}
use Rattle.gi_mir.specs.declared.operand.MemOp.{MemOp}
use Rattle.gi_mir.specs.declared.operand.Operand.{Operand}
use Rattle.gi_mir.specs.declared.operand.Reg.{Reg}
use Rattle.gi_mir.specs.Data.{InstrData}
use Rattle.gi_mir.specs.Formed.{is_formed}
use Rattle.gi_spelling.specs.declared.token.What.{What}
use Rattle.gi_spelling.specs.declared.token.What.TheVariants as what
use Rattle.gi_spelling.specs.declared.token.Item.{Item}
use Rattle.gi_spelling.specs.declared.written.ListKind.{ListKind}
use Rattle.gi_spelling.specs.declared.written.ListKind.TheVariants.{Successors, Liveins}
use Rattle.gi_spelling.specs.declared.written.Shown.{Shown}
use Rattle.gi_spelling.specs.Items.{what_in, kept_items}
use Rattle.gi_spelling.specs.Lines.{Line}
use Rattle.gi_spelling.specs.Named.{IsNamedOperand}
use Rattle.gi_spelling.specs.Reading.{Read, parts_of, read_all}
use Rattle.gi_spelling.specs.Resolved.{Tables, each, formed, resolved_definition, resolved_source, resolved_memory, resolved}
use Rattle.gi_spelling.specs.Written.{WrittenData}
use Rattle.gi_spelling.specs.Blocks.{list_kind, list_kind_in, listed_in, read_block, read_livein, read_successors, read_liveins, Body, with_line, has_type, shown_types, shown_at}
use Rattle.gi_spelling.specs.Spelling.{listed_whats, block_whats, physical_whats, SpellsInstr, type_at, is_list_line, SpellsSuccessors, SpellsLiveins}
use Rattle.gi_spelling.proofs.ItemParts.{parts_whats}
use Rattle.gi_spelling.proofs.WrittenParts.{parts_written}
use Rattle.gi_spelling.proofs.WrittenLines.{line_read}
use Rattle.gi_spelling.proofs.SpelledLines.{line_begins, listless}
use Rattle.gi_spelling.proofs.ReadHeads.{kind_lines, kind_front, past_front}

-- ══ Lists ══

block_read : (part : List Item) (n : ℕ) → map what_in part ≡ block_whats n → read_block part ≡ Ok n
block_read [] n e = absurd (cc)
block_read (item ∷ []) n e =
    let is : item.what ≡ what.Block n = cc in
    rw is refl
block_read (item ∷ next ∷ rest) n e = absurd (cc)

livein_read : (part : List Item) (n : ℕ) → map what_in part ≡ physical_whats n → read_livein part ≡ Ok n
livein_read [] n e = absurd (cc)
livein_read (item ∷ []) n e =
    let is : item.what ≡ what.Physical n = cc in
    rw is refl
livein_read (item ∷ next ∷ rest) n e = absurd (cc)

all_read : (spell : ℕ → List What) (read : List Item → Read ℕ) → ((part : List Item) (n : ℕ) → map what_in part ≡ spell n → read part ≡ Ok n) → (parts : List (List Item)) (numbers : List ℕ)
    → parts_whats parts ≡ map spell numbers → read_all read parts ≡ Ok numbers
all_read spell read one [] [] e = refl
all_read spell read one [] (n ∷ numbers) e = absurd (cc)
all_read spell read one (part ∷ parts) [] e = absurd (cc)
all_read spell read one (part ∷ parts) (n ∷ numbers) e =
    let here : map what_in part ≡ spell n = cc in
    let later : parts_whats parts ≡ map spell numbers = cc in
    rw (one part n here, all_read spell read one parts numbers later) refl

blocks_some : (n : ℕ) (numbers : List ℕ) → [] ≡ listed_whats (map block_whats (n ∷ numbers)) → ⊥
blocks_some n [] e = cc
blocks_some n (next ∷ numbers) e = cc

pub successors_read : (items : List Item) (numbers : List ℕ) → map what_in items ≡ listed_whats (map block_whats numbers) → read_successors items ≡ Ok numbers
successors_read [] [] e = refl
successors_read [] (n ∷ numbers) e = absurd (blocks_some n numbers e)
successors_read (item ∷ rest) [] e = absurd (cc)
successors_read (item ∷ rest) (n ∷ numbers) e =
    all_read block_whats read_block block_read (parts_of (item ∷ rest)) (n ∷ numbers) (parts_written block_whats (λ n. refl) n numbers (item ∷ rest) e)

pub liveins_read : (items : List Item) (numbers : List ℕ) → numbers ≢ [] → map what_in items ≡ listed_whats (map physical_whats numbers) → read_liveins items ≡ Ok numbers
liveins_read items [] some e = absurd (some refl)
liveins_read items (n ∷ numbers) some e = all_read physical_whats read_livein livein_read (parts_of items) (n ∷ numbers) (parts_written physical_whats (λ n. refl) n numbers items e)

-- a list that stands once at most, and is read
pub data FitsList (text : List ℕ) (read : List Item → Read (List ℕ)) (lines : List Line) (before : Option (List ℕ)) : Type 0 where
  NoList : lines ≡ [] → FitsList text read lines before
  OneList : (line : Line) (numbers : List ℕ) → lines ≡ line ∷ [] → before ≡ None → read (listed_in (kept_items text line)) ≡ Ok numbers → FitsList text read lines before

pub successors_fit : (text : List ℕ) (tables : Tables) (lines : List Line) (implied successors : List ℕ) → SpellsSuccessors text tables lines implied successors → FitsList text read_successors lines None
successors_fit text tables [] implied successors spelled = NoList refl
successors_fit text tables (line ∷ []) implied successors spelled =
    OneList line spelled.numbers refl refl (successors_read (listed_in (kept_items text line)) spelled.numbers spelled.stated.same)
successors_fit text tables (line ∷ other ∷ more) implied successors spelled = absurd spelled

-- and liveins in the first block alone
pub record FitsLiveins (text : List ℕ) (place : ℕ) (lines : List Line) (before : Option (List ℕ)) : Type 0 where
  pub fits : FitsList text read_liveins lines before
  pub first : (lines ≡ []) ⊎ (place ≡ 0)

pub liveins_fit : (text : List ℕ) (place : ℕ) (lines : List Line) (liveins : List ℕ) → SpellsLiveins text place lines liveins → FitsLiveins text place lines None
liveins_fit text zero [] liveins spelled = record { fits = NoList refl; first = inl refl }
liveins_fit text (suc place) [] liveins spelled = record { fits = NoList refl; first = inl refl }
liveins_fit text zero (line ∷ []) liveins spelled = record { fits = OneList line liveins refl refl (liveins_read (listed_in (kept_items text line)) liveins spelled.0 spelled.1.same); first = inr refl }
liveins_fit text zero (line ∷ other ∷ more) liveins spelled = absurd spelled
liveins_fit text (suc place) (line ∷ more) liveins spelled = absurd spelled

-- ══ Instructions ══

abbrev pub at_line : ℕ → InstrData → InstrData
at_line n instr = record instr { line = n }

formed_at : (instr meant : InstrData) (n : ℕ) → formed instr ≡ Some meant → formed (at_line n instr) ≡ Some (at_line n meant)
unfolding is_formed
formed_at instr meant n e = chosen (is_formed instr) refl e
  where
    chosen : (fine : Bool) → is_formed instr ≡ fine → (if fine then Some instr else None) ≡ Some meant → formed (at_line n instr) ≡ Some (at_line n meant)
    chosen true is e =
        let same : instr ≡ meant = cc in
        let own : is_formed (at_line n instr) ≡ true = is in
        rw own (ap (λ i. Some (at_line n i)) same)
    chosen false is e = absurd (cc)

pub resolved_at : (tables : Tables) (written : WrittenData) (n k : ℕ) (meant : InstrData) → resolved tables written n ≡ Some meant → resolved tables written k ≡ Some (at_line k meant)
resolved_at tables written n k meant e =
    chosen (each (resolved_definition tables.classes) written.definitions) (each (resolved_source tables) written.sources) (resolved_memory written.memory) e
  where
    chosen : (definitions sources : Option (List Operand)) (memory : Option (Option MemOp))
        → option_map_or (λ definitions. option_map_or (λ sources. option_map_or (λ memory.
        formed (record { op = written.op; flags = written.flags; operands = definitions ++ sources; mem = memory; line = n })) memory None) sources None) definitions None ≡ Some meant
        → option_map_or (λ definitions. option_map_or (λ sources. option_map_or (λ memory.
        formed (record { op = written.op; flags = written.flags; operands = definitions ++ sources; mem = memory; line = k })) memory None) sources None) definitions None ≡ Some (at_line k meant)
    chosen None sources memory e = absurd (cc)
    chosen (Some definitions) None memory e = absurd (cc)
    chosen (Some definitions) (Some sources) None e = absurd (cc)
    chosen (Some definitions) (Some sources) (Some memory) e =
        formed_at (record { op = written.op; flags = written.flags; operands = definitions ++ sources; mem = memory; line = n }) meant k e

-- the instructions of a body share their operands with those that are spelled
pub record ReadFrom (text : List ℕ) (names : List (List ℕ)) (meant : InstrData) (instr : ℕ × InstrData) : Type 0 where
  pub operands : AllZip (IsNamedOperand text names) meant.operands (instr.1).operands

abbrev pub fits_type : (types : ℕ → Option Llt) → Shown → Bool
fits_type types shown = has_type (types (shown.reg).0) shown.ty

pub record Runs (text : List ℕ) (names : List (List ℕ)) (types : ℕ → Option Llt) (instrs : List (ℕ × InstrData)) (body whole : Body) : Type 0 where
  pub right : whole.wrongs ≡ []
  pub meants : List InstrData
  pub own : whole.instrs ≡ body.instrs ++ meants
  pub from : AllZip (ReadFrom text names) meants instrs
  pub shown : list_all (fits_type types) body.shown ≡ true → list_all (fits_type types) whole.shown ≡ true

shown_fits : (types : ℕ → Option Llt) (n : ℕ) (shown : List (Reg × Llt)) → list_all (type_at types) shown ≡ true → list_all (fits_type types) (map (shown_at n) shown) ≡ true
shown_fits types n [] all = refl
shown_fits types n (s ∷ shown) all =
    let parts = and_parts (type_at types s) (list_all (type_at types) shown) all in
    both_true parts.0 (shown_fits types n shown parts.1)

-- the body behind a line
abbrev behind_instr : Body → ℕ → WrittenData → InstrData → Body
behind_instr body n written meant =
    record { lists = body.lists; instrs = body.instrs ++ (at_line n meant ∷ []); shown = body.shown ++ map (shown_at n) (shown_types written); begun = true; wrongs = body.wrongs }

instr_line_read : (text : List ℕ) (names : List (List ℕ)) (tables : Tables) (types : ℕ → Option Llt) (place : ℕ) (body : Body) (line : Line) (instr : ℕ × InstrData)
    → (s : SpellsInstr text names tables types line instr) → with_line text tables place body line ≡ behind_instr body line.number s.written s.meant
instr_line_read text names tables types place body line instr s =
    let none : list_kind text line ≡ None = ap list_kind_in s.tokens ∙ listless s.items _ s.spelled.same (line_begins s.written) in
    rw (none, s.tokens, line_read s.items s.written s.spelled, resolved_at tables s.written (instr.1).line line.number s.meant s.means) refl

runs_on : (text : List ℕ) (names : List (List ℕ)) (types : ℕ → Option Llt) (instr : ℕ × InstrData) (instrs : List (ℕ × InstrData)) (body whole : Body) (n : ℕ) (written : WrittenData) (meant : InstrData)
    → AllZip (IsNamedOperand text names) meant.operands (instr.1).operands → list_all (type_at types) (shown_types written) ≡ true
    → Runs text names types instrs (behind_instr body n written meant) whole → Runs text names types (instr ∷ instrs) body whole
runs_on text names types instr instrs body whole n written meant operands shown rest = record {
  right = rest.right;
  meants = at_line n meant ∷ rest.meants;
  own = rest.own ∙ append_assoc body.instrs (at_line n meant ∷ []) rest.meants;
  from = (record { operands = operands }, rest.from);
  shown = λ fine. rest.shown (list_all-append (fits_type types) body.shown (map (shown_at n) (shown_types written)) ∙ both_true fine (shown_fits types n (shown_types written) shown));
}

instrs_run : (text : List ℕ) (names : List (List ℕ)) (tables : Tables) (types : ℕ → Option Llt) (place : ℕ) (lines : List Line) (instrs : List (ℕ × InstrData)) (body : Body) → body.wrongs ≡ []
    → AllZip (SpellsInstr text names tables types) lines instrs → Runs text names types instrs body (fold (with_line text tables place) body lines)
instrs_run text names tables types place [] [] body right all = record { right = right; meants = []; own = sym (append-nil body.instrs); from = tt; shown = λ fine. fine }
instrs_run text names tables types place [] (instr ∷ instrs) body right all = absurd all
instrs_run text names tables types place (line ∷ lines) [] body right all = absurd all
instrs_run text names tables types place (line ∷ lines) (instr ∷ instrs) body right all =
    let s = all.0 in
    let next = instr_line_read text names tables types place body line instr s in
    let wrongs : (with_line text tables place body line).wrongs ≡ [] = ap (λ (b : Body). b.wrongs) next ∙ right in
    let rest = instrs_run text names tables types place lines instrs (with_line text tables place body line) wrongs all.1 in
    runs_on text names types instr instrs body (fold (with_line text tables place) (with_line text tables place body line) lines) line.number s.written s.meant s.named.operands s.shown
    (subst (λ (b : Body). Runs text names types instrs b (fold (with_line text tables place) (with_line text tables place body line) lines)) next rest)

-- ══ A block ══

list_gone : (text : List ℕ) (read : List Item → Read (List ℕ)) (line : Line) (lines : List Line) (before new : Option (List ℕ)) → FitsList text read (line ∷ lines) before
    → (numbers : List ℕ) × (before ≡ None) × (read (listed_in (kept_items text line)) ≡ Ok numbers) × (lines ≡ [])
list_gone text read line lines before new (NoList none) = absurd (cc)
list_gone text read line lines before new (OneList own numbers one none read_as) =
    let same : line ≡ own = cc in
    let empty : lines ≡ [] = cc in
    (numbers, none, ap (λ line. read (listed_in (kept_items text line))) same ∙ read_as, empty)

successors_next : (text : List ℕ) (tables : Tables) (place : ℕ) (body : Body) (line : Line) (numbers : List ℕ) → list_kind text line ≡ Some Successors → body.begun ≡ false
    → read_successors (listed_in (kept_items text line)) ≡ Ok numbers → body.lists.successors ≡ None
    → with_line text tables place body line ≡ record body { lists = record { successors = Some numbers; liveins = body.lists.liveins } }
successors_next text tables place body line numbers is begins own none = rw (is, begins, own, none) refl

liveins_next : (text : List ℕ) (tables : Tables) (place : ℕ) (body : Body) (line : Line) (numbers : List ℕ) → list_kind text line ≡ Some Liveins → body.begun ≡ false
    → read_liveins (listed_in (kept_items text line)) ≡ Ok numbers → place ≡ 0 → body.lists.liveins ≡ None
    → with_line text tables place body line ≡ record body { lists = record { successors = body.lists.successors; liveins = Some numbers } }
liveins_next text tables place body line numbers is begins own first none = rw (is, begins, own, first, none) refl

pub block_runs : (text : List ℕ) (names : List (List ℕ)) (tables : Tables) (types : ℕ → Option Llt) (place : ℕ) (lines : List Line) (instrs : List (ℕ × InstrData)) (body : Body) → body.begun ≡ false → body.wrongs ≡ []
    → FitsList text read_successors (kind_lines text Successors lines) body.lists.successors → FitsLiveins text place (kind_lines text Liveins lines) body.lists.liveins
    → AllZip (SpellsInstr text names tables types) (past_run (is_list_line text) lines) instrs → Runs text names types instrs body (fold (with_line text tables place) body lines)
block_runs text names tables types place [] instrs body begins right successors liveins all = instrs_run text names tables types place [] instrs body right all
block_runs text names tables types place (line ∷ lines) instrs body begins right successors liveins all =
    chosen (list_kind text line) refl (λ b. block_runs text names tables types place lines instrs b)
  where
    first_block : (lines : List Line) → (line ∷ lines ≡ []) ⊎ (place ≡ 0) → place ≡ 0
    first_block lines (inl none) = absurd (cc)
    first_block lines (inr first) = first

    chosen : (kind : Option ListKind) → list_kind text line ≡ kind
        → ((b : Body) → b.begun ≡ false → b.wrongs ≡ [] → FitsList text read_successors (kind_lines text Successors lines) b.lists.successors → FitsLiveins text place (kind_lines text Liveins lines) b.lists.liveins
        → AllZip (SpellsInstr text names tables types) (past_run (is_list_line text) lines) instrs → Runs text names types instrs b (fold (with_line text tables place) b lines))
        → Runs text names types instrs body (fold (with_line text tables place) (with_line text tables place body line) lines)
    chosen None is later =
        let past : past_run (is_list_line text) (line ∷ lines) ≡ line ∷ lines = rw is refl in
        instrs_run text names tables types place (line ∷ lines) instrs body right (subst (λ lines. AllZip (SpellsInstr text names tables types) lines instrs) past all)
    chosen (Some Successors) is later =
        let gone = list_gone text read_successors line (kind_lines text Successors lines) body.lists.successors None
        (subst (λ lines. FitsList text read_successors lines body.lists.successors) (kind_front text Successors Successors line lines is) successors) in
        let after : Body = record body { lists = record { successors = Some gone.0; liveins = body.lists.liveins } } in
        let next : with_line text tables place body line ≡ after = successors_next text tables place body line gone.0 is begins gone.2 gone.1 in
        let rest = later after begins right (NoList gone.3) (subst (λ lines. FitsLiveins text place lines body.lists.liveins) (kind_front text Liveins Successors line lines is) liveins)
        (subst (λ lines. AllZip (SpellsInstr text names tables types) lines instrs) (past_front text Successors line lines is) all) in
        subst (λ (b : Body). Runs text names types instrs body (fold (with_line text tables place) b lines)) (sym next)
        (record { right = rest.right; meants = rest.meants; own = rest.own; from = rest.from; shown = rest.shown })
    chosen (Some Liveins) is later =
        let fits : FitsLiveins text place (line ∷ kind_lines text Liveins lines) body.lists.liveins =
        subst (λ lines. FitsLiveins text place lines body.lists.liveins) (kind_front text Liveins Liveins line lines is) liveins in
        let gone = list_gone text read_liveins line (kind_lines text Liveins lines) body.lists.liveins None fits.fits in
        let first : place ≡ 0 = first_block (kind_lines text Liveins lines) fits.first in
        let after : Body = record body { lists = record { successors = body.lists.successors; liveins = Some gone.0 } } in
        let next : with_line text tables place body line ≡ after = liveins_next text tables place body line gone.0 is begins gone.2 first gone.1 in
        let rest = later after begins right (subst (λ lines. FitsList text read_successors lines body.lists.successors) (kind_front text Successors Liveins line lines is) successors)
        (record { fits = NoList gone.3; first = inl gone.3 }) (subst (λ lines. AllZip (SpellsInstr text names tables types) lines instrs) (past_front text Liveins line lines is) all) in
        subst (λ (b : Body). Runs text names types instrs body (fold (with_line text tables place) b lines)) (sym next)
        (record { right = rest.right; meants = rest.meants; own = rest.own; from = rest.from; shown = rest.shown })
