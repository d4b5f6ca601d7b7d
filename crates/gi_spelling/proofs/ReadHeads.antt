-- What holds of the lists and instructions of a block in which nothing is wrong.
use Rattle.std.proofs.Common.{◌≡◌, ℕ, zero, suc, Bool, true, false, List, [], ◌∷◌, ◌++◌, Option, Some, None, Ok, Err, map, refl, sym, ap, ◌∙◌, subst, inl, inr, append_assoc, append-nil}
use Rattle.std.specs.Prelude.{◌⊎◌, filter, fold, unwrap_or, if◌then◌else◌, is_some}
use Rattle.std.specs.List.{list_all, AllZip}
use Rattle.std.specs.Option.{option_map_or}
use Rattle.std.proofs.lemmas.Bool.{and_parts}
use Rattle.std.proofs.lemmas.List.Folds.{list_all-append}
use Rattle.gi_llt.specs.Tokens.{run_of, past_run}
use Rattle.gi_mir.specs.Data.{InstrData}
use Rattle.gi_spelling.specs.declared.token.Item.{Item}
use Rattle.gi_spelling.specs.declared.written.ListKind.{ListKind}
use Rattle.gi_spelling.specs.declared.written.ListKind.TheVariants.{Successors, Liveins}
use Rattle.gi_spelling.specs.declared.written.Shown.{Shown}
use Rattle.gi_spelling.specs.Items.{kept_items}
use Rattle.gi_spelling.specs.Lines.{Line}
use Rattle.gi_spelling.specs.Reading.{Read}
use Rattle.gi_spelling.specs.Resolved.{Tables, block_place}
use Rattle.gi_spelling.specs.Blocks.{list_kind, listed_in, read_successors, read_liveins, Lists, with_successors, with_liveins, with_list, Body, shown_types, shown_at, with_line}
use Rattle.gi_spelling.specs.Spelling.{is_list_line, is_kind, SpellsSuccessors, SpellsLiveins}
use Rattle.gi_spelling.proofs.ReadBlocks.{successors_whats, liveins_whats, liveins_some, ReadsAs, Step, ListStep, InstrStep, first_step, shown_before, map_fine, ReadsInstrs, reads_instrs}

-- a list that stands once at most
pub data OneOf (text : List ℕ) (read : List Item → Read (List ℕ)) (lines : List Line) (before after : Option (List ℕ)) : Type 0 where
  Same : lines ≡ [] → after ≡ before → OneOf text read lines before after
  New : (line : Line) (numbers : List ℕ) → lines ≡ line ∷ [] → before ≡ None → read (listed_in (kept_items text line)) ≡ Ok numbers → after ≡ Some numbers → OneOf text read lines before after

abbrev pub kind_lines : (text : List ℕ) → ListKind → List Line → List Line
kind_lines text kind lines = filter (λ line. is_kind kind (list_kind text line)) (run_of (is_list_line text) lines)

pub record ReadsBlock (text : List ℕ) (tables : Tables) (place : ℕ) (fine : Shown → Bool) (lines : List Line) (body whole : Body) : Type 0 where
  pub instrs : List InstrData
  pub each : AllZip (ReadsAs text tables fine) (past_run (is_list_line text) lines) instrs
  pub all : whole.instrs ≡ body.instrs ++ instrs
  pub successors : OneOf text read_successors (kind_lines text Successors lines) body.lists.successors whole.lists.successors
  pub liveins : OneOf text read_liveins (kind_lines text Liveins lines) body.lists.liveins whole.lists.liveins
  pub first : (kind_lines text Liveins lines ≡ []) ⊎ (place ≡ 0)

-- one list more at the front
listed_front : (text : List ℕ) (read : List Item → Read (List ℕ)) (line : Line) (lines : List Line) (numbers : List ℕ) (before after : Option (List ℕ)) → before ≡ None
    → read (listed_in (kept_items text line)) ≡ Ok numbers → OneOf text read lines (Some numbers) after → OneOf text read (line ∷ lines) before after
listed_front text read line lines numbers before after none own (Same empty same) = New line numbers (ap (λ more. line ∷ more) empty) none own same
listed_front text read line lines numbers before after none own (New other more one absent found new) = absurd (cc)

not_there : (old : Option (List ℕ)) → is_some old ≡ false → old ≡ None
not_there None e = refl
not_there (Some numbers) e = absurd (cc)

-- what a list adds
record AddsSuccessors (lists new : Lists) (read : Read (List ℕ)) : Type 0 where
  numbers : List ℕ
  own : read ≡ Ok numbers
  none : lists.successors ≡ None
  there : new.successors ≡ Some numbers
  other : new.liveins ≡ lists.liveins

adds_successors : (lists new : Lists) (read : Read (List ℕ)) → with_successors lists read ≡ Some new → AddsSuccessors lists new read
adds_successors lists new (Err error) e = absurd (cc)
adds_successors lists new (Ok numbers) e = chosen (is_some lists.successors) refl e
  where
    chosen : (there : Bool) → is_some lists.successors ≡ there → (if there then None else Some (record lists { successors = Some numbers })) ≡ Some new → AddsSuccessors lists new (Ok numbers)
    chosen true is e = absurd (cc)
    chosen false is e =
        let same : record lists { successors = Some numbers } ≡ new = cc in
        record { numbers = numbers; own = refl; none = not_there lists.successors is; there = ap (λ (l : Lists). l.successors) (sym same); other = ap (λ (l : Lists). l.liveins) (sym same) }

record AddsLiveins (place : ℕ) (lists new : Lists) (read : Read (List ℕ)) : Type 0 where
  numbers : List ℕ
  first : place ≡ 0
  own : read ≡ Ok numbers
  none : lists.liveins ≡ None
  there : new.liveins ≡ Some numbers
  other : new.successors ≡ lists.successors

adds_liveins : (place : ℕ) (lists new : Lists) (read : Read (List ℕ)) → with_liveins place lists read ≡ Some new → AddsLiveins place lists new read
adds_liveins zero lists new (Err error) e = absurd (cc)
adds_liveins (suc place) lists new (Err error) e = absurd (cc)
adds_liveins (suc place) lists new (Ok numbers) e = absurd (cc)
adds_liveins zero lists new (Ok numbers) e = chosen (is_some lists.liveins) refl e
  where
    chosen : (there : Bool) → is_some lists.liveins ≡ there → (if there then None else Some (record lists { liveins = Some numbers })) ≡ Some new → AddsLiveins zero lists new (Ok numbers)
    chosen true is e = absurd (cc)
    chosen false is e =
        let same : record lists { liveins = Some numbers } ≡ new = cc in
        record { numbers = numbers; first = refl; own = refl; none = not_there lists.liveins is; there = ap (λ (l : Lists). l.liveins) (sym same); other = ap (λ (l : Lists). l.successors) (sym same) }

-- the lines of a kind, by their first line
pub kind_front : (text : List ℕ) (kind own : ListKind) (line : Line) (lines : List Line) → list_kind text line ≡ Some own
    → kind_lines text kind (line ∷ lines) ≡ (if is_kind kind (Some own) then line ∷ kind_lines text kind lines else kind_lines text kind lines)
kind_front text kind own line lines is = rw is (rw is refl)

pub past_front : (text : List ℕ) (own : ListKind) (line : Line) (lines : List Line) → list_kind text line ≡ Some own → past_run (is_list_line text) (line ∷ lines) ≡ past_run (is_list_line text) lines
past_front text own line lines is = rw is refl

list_front : (text : List ℕ) (tables : Tables) (place : ℕ) (fine : Shown → Bool) (line : Line) (lines : List Line) (body whole : Body) (kind : ListKind) (lists : Lists)
    → list_kind text line ≡ Some kind → with_list place body.lists kind (listed_in (kept_items text line)) ≡ Some lists
    → ReadsBlock text tables place fine lines (record body { lists = lists }) whole → ReadsBlock text tables place fine (line ∷ lines) body whole
list_front text tables place fine line lines body whole Successors lists is own rest =
    let adds = adds_successors body.lists lists (read_successors (listed_in (kept_items text line))) own in
    let later = subst (λ before. OneOf text read_successors (kind_lines text Successors lines) before whole.lists.successors) adds.there rest.successors in
    record {
      instrs = rest.instrs;
      each = subst (λ lines. AllZip (ReadsAs text tables fine) lines rest.instrs) (sym (past_front text Successors line lines is)) rest.each;
      all = rest.all;
      successors = subst (λ lines. OneOf text read_successors lines body.lists.successors whole.lists.successors) (sym (kind_front text Successors Successors line lines is))
          (listed_front text read_successors line (kind_lines text Successors lines) adds.numbers body.lists.successors whole.lists.successors adds.none adds.own later);
      liveins = subst (λ lines. OneOf text read_liveins lines body.lists.liveins whole.lists.liveins) (sym (kind_front text Liveins Successors line lines is))
          (subst (λ before. OneOf text read_liveins (kind_lines text Liveins lines) before whole.lists.liveins) adds.other rest.liveins);
      first = subst (λ lines. (lines ≡ []) ⊎ (place ≡ 0)) (sym (kind_front text Liveins Successors line lines is)) rest.first;
    }
list_front text tables place fine line lines body whole Liveins lists is own rest =
    let adds = adds_liveins place body.lists lists (read_liveins (listed_in (kept_items text line))) own in
    let later = subst (λ before. OneOf text read_liveins (kind_lines text Liveins lines) before whole.lists.liveins) adds.there rest.liveins in
    record {
      instrs = rest.instrs;
      each = subst (λ lines. AllZip (ReadsAs text tables fine) lines rest.instrs) (sym (past_front text Liveins line lines is)) rest.each;
      all = rest.all;
      successors = subst (λ lines. OneOf text read_successors lines body.lists.successors whole.lists.successors) (sym (kind_front text Successors Liveins line lines is))
          (subst (λ before. OneOf text read_successors (kind_lines text Successors lines) before whole.lists.successors) adds.other rest.successors);
      liveins = subst (λ lines. OneOf text read_liveins lines body.lists.liveins whole.lists.liveins) (sym (kind_front text Liveins Liveins line lines is))
          (listed_front text read_liveins line (kind_lines text Liveins lines) adds.numbers body.lists.liveins whole.lists.liveins adds.none adds.own later);
      first = inr adds.first;
    }

pub reads_block : (text : List ℕ) (tables : Tables) (place : ℕ) (fine : Shown → Bool) (lines : List Line) (body : Body) → (fold (with_line text tables place) body lines).wrongs ≡ []
    → list_all fine (fold (with_line text tables place) body lines).shown ≡ true → ReadsBlock text tables place fine lines body (fold (with_line text tables place) body lines)
reads_block text tables place fine [] body e all = record { instrs = []; each = tt; all = sym (append-nil body.instrs); successors = Same refl refl; liveins = Same refl refl; first = inl refl }
reads_block text tables place fine (line ∷ lines) body e all =
    chosen (first_step text tables place line lines body e) (shown_before text tables place fine lines (with_line text tables place body line) e all)
    (reads_block text tables place fine lines (with_line text tables place body line) e all)
    (λ begins. reads_instrs text tables place fine lines (with_line text tables place body line) begins e all)
  where
    chosen : Step text tables place body line → list_all fine (with_line text tables place body line).shown ≡ true
        → ReadsBlock text tables place fine lines (with_line text tables place body line) (fold (with_line text tables place) (with_line text tables place body line) lines)
        → ((with_line text tables place body line).begun ≡ true → ReadsInstrs text tables fine lines (with_line text tables place body line) (fold (with_line text tables place) (with_line text tables place body line) lines))
        → ReadsBlock text tables place fine (line ∷ lines) body (fold (with_line text tables place) (with_line text tables place body line) lines)
    chosen (ListStep kind lists is begins own whole right) fine_here rest instrs =
        list_front text tables place fine line lines body (fold (with_line text tables place) (with_line text tables place body line) lines) kind lists is own
        (subst (λ (b : Body). ReadsBlock text tables place fine lines b (fold (with_line text tables place) (with_line text tables place body line) lines)) whole rest)
    chosen (InstrStep items written instr is kept read means whole right) fine_here rest instrs =
        let behind = instrs (ap (λ (b : Body). b.begun) whole) in
        let both : list_all fine (body.shown ++ map (shown_at line.number) (shown_types written)) ≡ true = subst (λ (b : Body). list_all fine b.shown ≡ true) whole fine_here in
        let here = (and_parts (list_all fine body.shown) (list_all fine (map (shown_at line.number) (shown_types written))) (sym (list_all-append fine body.shown (map (shown_at line.number) (shown_types written))) ∙ both)).1 in
        let stops : run_of (is_list_line text) (line ∷ lines) ≡ [] = rw is refl in
        let past : past_run (is_list_line text) (line ∷ lines) ≡ line ∷ lines = rw is refl in
        let one : ReadsAs text tables fine line instr = record { items = items; tokens = kept; written = written; read = read; means = means; shown = map_fine fine line.number (shown_types written) here } in
        let lists = behind.lists ∙ ap (λ (b : Body). b.lists) whole in
        record {
          instrs = instr ∷ behind.instrs;
          each = subst (λ lines. AllZip (ReadsAs text tables fine) lines (instr ∷ behind.instrs)) (sym past) (one, behind.each);
          all = behind.all ∙ (ap (λ (b : Body). b.instrs ++ behind.instrs) whole ∙ append_assoc body.instrs (instr ∷ []) behind.instrs);
          successors = Same (ap (filter (λ line. is_kind Successors (list_kind text line))) stops) (ap (λ (l : Lists). l.successors) lists);
          liveins = Same (ap (filter (λ line. is_kind Liveins (list_kind text line))) stops) (ap (λ (l : Lists). l.liveins) lists);
          first = inl (ap (filter (λ line. is_kind Liveins (list_kind text line))) stops);
        }

-- ══ What they spell ══

pub successors_spelled : (text : List ℕ) (tables : Tables) (lines : List Line) (implied : List ℕ) (after : Option (List ℕ)) → OneOf text read_successors lines None after
    → SpellsSuccessors text tables lines implied (option_map_or (λ numbers. map (block_place tables.blocks) numbers) after implied)
successors_spelled text tables lines implied after (Same empty same) = rw (empty, same) refl
successors_spelled text tables lines implied after (New line numbers one absent own new) =
    rw (one, new) (record { numbers = numbers; stated = record { same = successors_whats (listed_in (kept_items text line)) numbers own }; same = refl })

no_live : (text : List ℕ) (place : ℕ) → SpellsLiveins text place [] []
no_live text zero = refl
no_live text (suc place) = refl

pub liveins_spelled : (text : List ℕ) (place : ℕ) (lines : List Line) (after : Option (List ℕ)) → OneOf text read_liveins lines None after → (lines ≡ []) ⊎ (place ≡ 0)
    → SpellsLiveins text place lines (unwrap_or after [])
liveins_spelled text place lines after (Same empty same) first = rw (empty, same) (no_live text place)
liveins_spelled text place lines after (New line numbers one absent own new) (inl empty) =
    let clash : line ∷ [] ≡ [] = sym one ∙ empty in
    absurd (cc)
liveins_spelled text place lines after (New line numbers one absent own new) (inr first) =
    rw (one, new, first) (liveins_some (listed_in (kept_items text line)) numbers own, record { same = liveins_whats (listed_in (kept_items text line)) numbers own })
