-- The lines of printed blocks spell these blocks.
use Rattle.std.proofs.Common.{◌≡◌, ℕ, suc, Bool, true, false, List, [], ◌∷◌, ◌++◌, sym, refl, ap, ◌∙◌, subst, arith}
use Rattle.std.specs.Prelude.{◌⊎◌, ◌==◌, ◌&&◌, not, bytes_eq, if◌then◌else◌, codes}
use Rattle.std.specs.List.{list_all}
use Rattle.std.specs.Cmp.Derive.{both_true}
use Rattle.std.proofs.lemmas.Bool.{and_parts, or_left, or_right}
use Rattle.std.proofs.lemmas.Bool.Decides.{nat_tests}
use Rattle.std.proofs.lemmas.List.Elements.{filter-append}
use Rattle.std.proofs.lemmas.List.{append-nil}
use Rattle.gi_llt.specs.Tokens.{is_blank, run_of, past_run}
use Rattle.gi_llt.proofs.Apart.{is_no_feed}
use Rattle.gi_mir.specs.declared.operand.Kind.{Kind}
use Rattle.gi_mir.specs.Data.{BlockData}
use Rattle.gi_spelling.specs.Printed.{instr_lines, implied_successors, states_successors, liveins_lines, set_off, block_lines, blocks_lines}
use Rattle.gi_spelling.specs.Lines.{is_dropped, without_comment, with_byte, without_last_blanks, line_bytes, is_start, is_end, is_bar_behind_blanks, is_block_start}
use Rattle.gi_spelling.proofs.PlainLines.{kept_lines, Section, Sections, with_head, with_line, sections_of, is_block_head, lists, is_list_line}
use Rattle.gi_spelling.proofs.Nameable.{is_named_block}
use Rattle.gi_spelling.proofs.BlockLines.{EachLine, each-append, each-weaker, begins_blank, IsInner, instrs_inner, instrs_no_block, head_line, head_inner, head_begins, successors_line, IsListLine, successors_listed, liveins_listed}

-- the lists of a block, by whether its successors are stated
abbrev pub stated_lists : (stated : Bool) (successors liveins : List ℕ) → List (List ℕ)
stated_lists stated successors liveins = (if stated then successors_line successors ∷ [] else []) ++ liveins_lines liveins

lists_inner : (stated : Bool) (successors liveins : List ℕ) → EachLine IsInner (stated_lists stated successors liveins)
lists_inner true successors [] = ((successors_listed successors).inner, tt)
lists_inner true successors (number ∷ numbers) = ((successors_listed successors).inner, ((liveins_listed (number ∷ numbers)).inner, tt))
lists_inner false successors [] = tt
lists_inner false successors (number ∷ numbers) = ((liveins_listed (number ∷ numbers)).inner, tt)

lists_no_head : (stated : Bool) (successors liveins : List ℕ) → EachLine (λ line. is_block_head line ≡ false) (stated_lists stated successors liveins)
lists_no_head true successors [] = ((successors_listed successors).no_head, tt)
lists_no_head true successors (number ∷ numbers) = ((successors_listed successors).no_head, ((liveins_listed (number ∷ numbers)).no_head, tt))
lists_no_head false successors [] = tt
lists_no_head false successors (number ∷ numbers) = ((liveins_listed (number ∷ numbers)).no_head, tt)

pub a_list : (line : List ℕ) (is_successors : Bool) → IsListLine line is_successors → is_list_line line ≡ true
a_list line true listed = or_left (lists (codes "successors") line) (lists (codes "liveins") line) listed.one
a_list line false listed = or_right (lists (codes "successors") line) (lists (codes "liveins") line) listed.other

pub lists_listed : (stated : Bool) (successors liveins : List ℕ) → list_all is_list_line (stated_lists stated successors liveins) ≡ true
lists_listed true successors [] = both_true (a_list _ true (successors_listed successors)) refl
lists_listed true successors (number ∷ numbers) =
    both_true (a_list _ true (successors_listed successors)) (both_true (a_list _ false (liveins_listed (number ∷ numbers))) refl)
lists_listed false successors [] = refl
lists_listed false successors (number ∷ numbers) = both_true (a_list _ false (liveins_listed (number ∷ numbers))) refl

-- only the first block has registers that are live at its start
abbrev pub IsLiveAt : (place : ℕ) → List ℕ → Type 0
IsLiveAt place liveins = (place ≡ 0) ⊎ (liveins ≡ [])

-- a block by the lines under its head
abbrev pub under_lines : (kinds : ℕ → Kind) (names : List (List ℕ)) (place count : ℕ) → BlockData → List (List ℕ)
under_lines kinds names place count block =
    stated_lists (states_successors block.successors (implied_successors place count block.instrs)) block.successors block.liveins ++ instr_lines kinds names block.instrs

abbrev pub block_section : (kinds : ℕ → Kind) (names : List (List ℕ)) (place count : ℕ) → BlockData → Section
block_section kinds names place count block = record { head = head_line place; under = under_lines kinds names place count block }

-- blocks from a place on, by their sections
abbrev pub block_sections : (kinds : ℕ → Kind) (names : List (List ℕ)) (place count : ℕ) → List BlockData → List Section
block_sections kinds names place count [] = []
block_sections kinds names place count (block ∷ blocks) = block_section kinds names place count block ∷ block_sections kinds names (suc place) count blocks

-- lines that are passed over leave the others
pub kept_each : (lines : List (List ℕ)) → EachLine IsInner lines → kept_lines lines ≡ lines
kept_each [] each = refl
kept_each (line ∷ lines) each = rw (each.0.kept) (ap (λ more. line ∷ more) (kept_each lines each.1))

pub kept-append : (xs ys : List (List ℕ)) → kept_lines (xs ++ ys) ≡ kept_lines xs ++ kept_lines ys
kept-append xs ys = filter-append (λ line. not (is_dropped line)) xs ys

kept_set_off : (lines : List (List ℕ)) → EachLine IsInner lines → kept_lines (set_off lines) ≡ lines
kept_set_off [] each = refl
kept_set_off (line ∷ lines) each =
    kept-append (line ∷ lines) ([] ∷ []) ∙ (ap (λ kept. kept ++ []) (kept_each (line ∷ lines) each) ∙ append-nil (line ∷ lines))

-- the lines of blocks that count
abbrev pub kept_blocks : (kinds : ℕ → Kind) (names : List (List ℕ)) (place count : ℕ) → List BlockData → List (List ℕ)
kept_blocks kinds names place count [] = []
kept_blocks kinds names place count (block ∷ blocks) = head_line place ∷ (under_lines kinds names place count block ++ kept_blocks kinds names (suc place) count blocks)

under_inner : (kinds : ℕ → Kind) (names : List (List ℕ)) (place count : ℕ) (block : BlockData) → is_named_block names block ≡ true
    → EachLine IsInner (under_lines kinds names place count block)
under_inner kinds names place count block named =
    let stated = states_successors block.successors (implied_successors place count block.instrs) in
    each-append IsInner (stated_lists stated block.successors block.liveins) (instr_lines kinds names block.instrs)
    (lists_inner stated block.successors block.liveins) (instrs_inner kinds names block.instrs named)

kept_block : (kinds : ℕ → Kind) (names : List (List ℕ)) (place count : ℕ) (block : BlockData) → is_named_block names block ≡ true
    → kept_lines (block_lines kinds names place count block) ≡ head_line place ∷ under_lines kinds names place count block
kept_block kinds names place count block named =
    let stated = states_successors block.successors (implied_successors place count block.instrs) in
    let heads = stated_lists stated block.successors block.liveins in
    let rest : kept_lines (set_off heads ++ instr_lines kinds names block.instrs) ≡ heads ++ instr_lines kinds names block.instrs =
    kept-append (set_off heads) (instr_lines kinds names block.instrs)
    ∙ (ap (λ xs. xs ++ kept_lines (instr_lines kinds names block.instrs)) (kept_set_off heads (lists_inner stated block.successors block.liveins))
    ∙ ap (λ ys. heads ++ ys) (kept_each (instr_lines kinds names block.instrs) (instrs_inner kinds names block.instrs named))) in
    rw ((head_inner place).kept) (ap (λ lines. head_line place ∷ lines) rest)

pub kept_blocks_lines : (kinds : ℕ → Kind) (names : List (List ℕ)) (place count : ℕ) (blocks : List BlockData) → list_all (is_named_block names) blocks ≡ true
    → kept_lines (blocks_lines kinds names place count blocks) ≡ kept_blocks kinds names place count blocks
kept_blocks_lines kinds names place count [] named = refl
kept_blocks_lines kinds names place count (block ∷ []) named =
    let parts = and_parts (is_named_block names block) true named in
    kept_block kinds names place count block parts.0 ∙ ap (λ lines. head_line place ∷ lines) (sym (append-nil (under_lines kinds names place count block)))
kept_blocks_lines kinds names place count (block ∷ next ∷ blocks) named =
    let parts = and_parts (is_named_block names block) (list_all (is_named_block names) (next ∷ blocks)) named in
    let later = kept_blocks_lines kinds names (suc place) count (next ∷ blocks) parts.1 in
    kept-append (block_lines kinds names place count block) ([] ∷ blocks_lines kinds names (suc place) count (next ∷ blocks))
    ∙ (ap (λ xs. xs ++ kept_lines (blocks_lines kinds names (suc place) count (next ∷ blocks))) (kept_block kinds names place count block parts.0)
    ∙ ap (λ ys. (head_line place ∷ under_lines kinds names place count block) ++ ys) later)

pub kept_blocks_inner : (kinds : ℕ → Kind) (names : List (List ℕ)) (place count : ℕ) (blocks : List BlockData) → list_all (is_named_block names) blocks ≡ true
    → EachLine IsInner (kept_blocks kinds names place count blocks)
kept_blocks_inner kinds names place count [] named = tt
kept_blocks_inner kinds names place count (block ∷ blocks) named =
    let parts = and_parts (is_named_block names block) (list_all (is_named_block names) blocks) named in (
      head_inner place,
      each-append IsInner (under_lines kinds names place count block) (kept_blocks kinds names (suc place) count blocks)
          (under_inner kinds names place count block parts.0) (kept_blocks_inner kinds names (suc place) count blocks parts.1),
    )

-- sections after lines that are no heads
pub sections_of-append : (is_head : List ℕ → Bool) (xs ys : List (List ℕ)) → EachLine (λ line. is_head line ≡ false) xs
    → sections_of is_head (xs ++ ys) ≡ record { before = xs ++ (sections_of is_head ys).before; sections = (sections_of is_head ys).sections }
sections_of-append is_head [] ys each = refl
sections_of-append is_head (line ∷ xs) ys each = rw (each.0) (ap (with_line line) (sections_of-append is_head xs ys each.1))

under_no_head : (kinds : ℕ → Kind) (names : List (List ℕ)) (place count : ℕ) (block : BlockData) → is_named_block names block ≡ true
    → EachLine (λ line. is_block_head line ≡ false) (under_lines kinds names place count block)
under_no_head kinds names place count block named =
    let stated = states_successors block.successors (implied_successors place count block.instrs) in
    each-append (λ line. is_block_head line ≡ false) (stated_lists stated block.successors block.liveins) (instr_lines kinds names block.instrs)
    (lists_no_head stated block.successors block.liveins) (instrs_no_block kinds names block.instrs named)

pub sections_of-blocks : (kinds : ℕ → Kind) (names : List (List ℕ)) (place count : ℕ) (blocks : List BlockData) → list_all (is_named_block names) blocks ≡ true
    → sections_of is_block_head (kept_blocks kinds names place count blocks) ≡ record { before = []; sections = block_sections kinds names place count blocks }
sections_of-blocks kinds names place count [] named = refl
sections_of-blocks kinds names place count (block ∷ blocks) named =
    let parts = and_parts (is_named_block names block) (list_all (is_named_block names) blocks) named in
    let under = under_lines kinds names place count block in
    let later = kept_blocks kinds names (suc place) count blocks in
    let ih : sections_of is_block_head later ≡ record { before = []; sections = block_sections kinds names (suc place) count blocks } =
    sections_of-blocks kinds names (suc place) count blocks parts.1 in
    let rest : sections_of is_block_head (under ++ later) ≡ record { before = under ++ []; sections = block_sections kinds names (suc place) count blocks } =
    sections_of-append is_block_head under later (under_no_head kinds names place count block parts.0)
    ∙ ap (λ (s : Sections). record { before = under ++ s.before; sections = s.sections }) ih in
    let Goal : List (List ℕ) → Type 0 = λ lines. sections_of is_block_head (under ++ later) ≡ record { before = lines; sections = block_sections kinds names (suc place) count blocks } in
    let exact : Goal under = subst Goal (append-nil under) rest in
    rw (head_begins place) (ap (with_head (head_line place)) exact)

-- lines as they stand begin no document and have no line feed
pub record IsRaw (line : List ℕ) : Type 0 where
  pub no_start : is_start line ≡ false
  pub no_feed : list_all is_no_feed line ≡ true

-- a line that begins with another byte than a text of three equal ones is not that text
marks_differ : (mark byte : ℕ) (rest : List ℕ) → (byte == mark) ≡ false → bytes_eq (with_byte byte rest) (mark ∷ mark ∷ mark ∷ []) ≡ false
marks_differ mark byte [] other = go (is_blank byte)
  where
    go : (blank : Bool) → bytes_eq (if blank then [] else byte ∷ []) (mark ∷ mark ∷ mark ∷ []) ≡ false
    go true = refl
    go false = rw other refl
marks_differ mark byte (next ∷ rest) other = rw other refl

abbrev pub begins : List ℕ → ℕ → Bool
begins [] mark = false
begins (byte ∷ rest) mark = byte == mark

line_differs : (mark : ℕ) (line : List ℕ) → begins line mark ≡ false → bytes_eq (line_bytes line) (mark ∷ mark ∷ mark ∷ []) ≡ false
line_differs mark [] other = refl
line_differs mark (byte ∷ rest) other = go (byte == 59)
  where
    go : (comment : Bool) → bytes_eq (without_last_blanks (if not comment then byte ∷ without_comment rest else [])) (mark ∷ mark ∷ mark ∷ []) ≡ false
    go true = refl
    go false = marks_differ mark byte (without_last_blanks (without_comment rest)) other

pub no_end : (line : List ℕ) → begins line 46 ≡ false → is_end line ≡ false
no_end line other = line_differs 46 line other

pub no_start : (line : List ℕ) → begins line 45 ≡ false → is_start line ≡ false
no_start line other = line_differs 45 line other

-- a line that begins with another byte than `-` begins no IR block
undashed : (byte : ℕ) (rest : List ℕ) → (byte == 45) ≡ false → run_of (λ byte. byte == 45) (with_byte byte rest) ≡ []
undashed byte [] other = go (is_blank byte)
  where
    go : (blank : Bool) → run_of (λ byte. byte == 45) (if blank then [] else byte ∷ []) ≡ []
    go true = refl
    go false = rw other refl
undashed byte (next ∷ rest) other = rw other refl

line_undashed : (line : List ℕ) → begins line 45 ≡ false → run_of (λ byte. byte == 45) (line_bytes line) ≡ []
line_undashed [] other = refl
line_undashed (byte ∷ rest) other = go (byte == 59)
  where
    go : (comment : Bool) → run_of (λ byte. byte == 45) (without_last_blanks (if not comment then byte ∷ without_comment rest else [])) ≡ []
    go true = refl
    go false = undashed byte (without_last_blanks (without_comment rest)) other

pub no_block_start : (line : List ℕ) → begins line 45 ≡ false → is_block_start line ≡ false
no_block_start line other =
    ap (λ dashes. bytes_eq dashes (codes "---") && is_bar_behind_blanks (past_run (λ byte. byte == 45) (line_bytes line))) (line_undashed line other)

blank_no_minus : (byte : ℕ) → is_blank byte ≡ true → (byte == 45) ≡ false
blank_no_minus byte blank = grind (arith, nat_tests)

pub begins_no_minus : (line : List ℕ) → begins_blank line ≡ true → begins line 45 ≡ false
begins_no_minus [] blank = refl
begins_no_minus (byte ∷ rest) blank = blank_no_minus byte blank

pub inner_no_start : (line : List ℕ) → begins_blank line ≡ true → is_start line ≡ false
inner_no_start line blank = no_start line (begins_no_minus line blank)

pub raw_inner : (line : List ℕ) → IsInner line → IsRaw line
raw_inner line inner = record { no_start = inner_no_start line inner.indented; no_feed = inner.no_feed }

-- what holds of a line that is indented and of an empty one holds of the lines of blocks
module _ (P : List ℕ → Type 0) (of_inner : (line : List ℕ) → IsInner line → P line) (of_empty : P []) where
  each_set_off : (lines : List (List ℕ)) → EachLine IsInner lines → EachLine P (set_off lines)
  each_set_off [] each = tt
  each_set_off (line ∷ lines) each = each-append P (line ∷ lines) ([] ∷ []) (each-weaker IsInner P of_inner (line ∷ lines) each) (of_empty, tt)

  each_block : (kinds : ℕ → Kind) (names : List (List ℕ)) (place count : ℕ) (block : BlockData) → is_named_block names block ≡ true
      → EachLine P (block_lines kinds names place count block)
  each_block kinds names place count block named =
      let stated = states_successors block.successors (implied_successors place count block.instrs) in
      let heads = stated_lists stated block.successors block.liveins in (
        of_inner (head_line place) (head_inner place),
        each-append P (set_off heads) (instr_lines kinds names block.instrs) (each_set_off heads (lists_inner stated block.successors block.liveins))
            (each-weaker IsInner P of_inner (instr_lines kinds names block.instrs) (instrs_inner kinds names block.instrs named)),
      )

  pub each_blocks : (kinds : ℕ → Kind) (names : List (List ℕ)) (place count : ℕ) (blocks : List BlockData) → list_all (is_named_block names) blocks ≡ true
      → EachLine P (blocks_lines kinds names place count blocks)
  each_blocks kinds names place count [] named = tt
  each_blocks kinds names place count (block ∷ []) named =
      let parts = and_parts (is_named_block names block) true named in
      each_block kinds names place count block parts.0
  each_blocks kinds names place count (block ∷ next ∷ blocks) named =
      let parts = and_parts (is_named_block names block) (list_all (is_named_block names) (next ∷ blocks)) named in
      each-append P (block_lines kinds names place count block) ([] ∷ blocks_lines kinds names (suc place) count (next ∷ blocks))
      (each_block kinds names place count block parts.0) (of_empty, each_blocks kinds names (suc place) count (next ∷ blocks) parts.1)
