-- One block after the other.
use Rattle.std.proofs.Common.{◌≡◌, ℕ, suc, ◌+◌, ◌≤◌, Bool, true, false, List, [], ◌∷◌, ◌++◌, Option, Some, None, map, length, refl, sym, ap, ◌∙◌, subst, append_assoc, arith}
use Rattle.std.specs.Prelude.{All, filter_map, flat_map, fold, not, nat_eq, ◌&&◌, ◌==◌, unwrap_or, if◌then◌else◌, is_some}
use Rattle.std.specs.List.{AllZip, cons_option, list_any, position_from}
use Rattle.std.specs.Option.{option_map_or}
use Rattle.std.proofs.lemmas.List.Elements.{All-head, All-tail}
use Rattle.std.proofs.lemmas.Iterator.Adapters.{position_from-zero}
use Rattle.std.proofs.lemmas.Bool.Decides.{nat_tests}
use Rattle.std.proofs.lemmas.List.{append-nil, length-append, length-set}
use Rattle.std.proofs.lemmas.List.Sums.{fold-append}
use Rattle.gi_mir.specs.Data.{InstrData, FunctionData}
use Rattle.gi_mir.specs.Edit.{with_block}
use Rattle.gi_spelling.specs.declared.written.Fault.TheVariants as fault
use Rattle.gi_spelling.specs.declared.written.Wrong.{Wrong}
use Rattle.gi_spelling.specs.Items.{kept_items}
use Rattle.gi_spelling.specs.Blocks.{Body, block_numbers, bodies_from, body_of, defined_kind, first_kind, has_type, head_faults, head_number, is_head, kinds_in, no_body, number_at, outer_wrong, shown_wrong, shown_wrongs, with_line, wrong, wrongs_from}
use Rattle.gi_spelling.specs.Documents.{head_of_body, lower, with_body, with_last}
use Rattle.gi_spelling.specs.Lines as lines
use Rattle.gi_spelling.specs.Lines.{Line, Section, with_head}
use Rattle.gi_spelling.specs.declared.written.Shown.{Shown}
use Rattle.gi_mir.specs.declared.operand.Kind.{Kind}
use Rattle.gi_mir.specs.declared.operand.Reg.{Reg}
use Rattle.gi_mir.specs.Registers.{type_of_kind}
use Rattle.gi_spelling.specs.Named.{IsNamedFunction, IsNamedInstr}
use Rattle.gi_spelling.specs.Resolved.{Tables, block_place, place_of_no_block}
use Rattle.gi_spelling.proofs.NamedLemmas.{named_function}
use Rattle.gi_mir_read.specs.declared.function.told.Told.{Told}
use Rattle.gi_mir_read.specs.Functions.Blocked.{IsCutAtBlock, IsToldIn, blocks_of, head_of, section_of, told_at, told_lines_at}
use Rattle.gi_mir_read.specs.Functions.Bodies.{BodyData, IsReadSoFar, Reads, spelled_by, with_defined}
use Rattle.gi_mir_read.specs.Functions.Noted.{NotesData, with_lowest, with_shown}
use Rattle.gi_mir_read.specs.Functions.ReadBlocks.{AreLeft, BlocksAreRead, IsLeft, ReadsBlock, ReadsBlocks, head_wrongs, instrs_in, notes_after, shown_in}
use Rattle.gi_mir_read.proofs.Functions.NoteLemmas.{operands-kept, shown-wrongs}
use Rattle.gi_mir_read.proofs.Functions.NamedBlocks.{named-body}

-- a block more
last-long : (place : ℕ) (f : FunctionData) (instrs : List InstrData) → length (fold (with_last place) f instrs).blocks ≡ length f.blocks
last-long place f [] = refl
last-long place f (i ∷ instrs) = last-long place (with_last place f i) instrs ∙ length-set f.blocks place _

pub body-long : (numbers : List ℕ) (f : FunctionData) (body : Body) → length (with_body numbers f body).blocks ≡ suc (length f.blocks)
body-long numbers f body =
    let head = head_of_body numbers (length f.blocks) body in
    let one : length (with_block f head).blocks ≡ suc (length f.blocks) = omega (arith, length-append f.blocks (record { successors = head.successors; liveins = head.liveins; instrs = [] } ∷ [])) in
    last-long (length f.blocks) (with_block f head) body.instrs ∙ one

last-name : (place : ℕ) (f : FunctionData) (instrs : List InstrData) → (fold (with_last place) f instrs).name ≡ f.name
last-name place f [] = refl
last-name place f (i ∷ instrs) = last-name place (with_last place f i) instrs

body-name : (numbers : List ℕ) (f : FunctionData) (body : Body) → (with_body numbers f body).name ≡ f.name
body-name numbers f body = last-name (length f.blocks) (with_block f (head_of_body numbers (length f.blocks) body)) body.instrs

module _ (text : List ℕ) (tables : Tables) (old new : List (List ℕ)) (place : ℕ) (head : Told) (under : List Told) where
  -- a block is read
  pub reads-block : (f g : FunctionData) (notes middle later : NotesData) (empty body : BodyData) → place ≡ length f.blocks
      → middle ≡ with_lowest notes (fold lower notes.lowest (head_wrongs text tables place (told_at text head)))
      → empty ≡ record { lists = no_body.lists; instrs = []; begun = false }
      → Reads text old new (λ spelled. fold (with_line text tables place) spelled (told_lines_at text under)) empty middle body later
      → g ≡ with_body tables.blocks f (spelled_by body)
      → ReadsBlock text tables old new place (section_of text head under) f g notes later
  reads-block f g notes middle later empty body placed noted is_empty reads added =
      let start : IsReadSoFar text old middle no_body empty middle = record {
        lists = ap (λ b. b.lists) is_empty;
        begun = ap (λ b. b.begun) is_empty;
        instrs = subst (λ b. AllZip (IsNamedInstr text old) [] b.instrs) (sym is_empty) tt;
        kinds = refl;
        shown = sym (append-nil middle.shown);
        lowest = refl;
      } in
      let read = reads.kept middle no_body start in
      let wrongs = head_wrongs text tables place (told_at text head) in
      let spelled : Body = body_of text tables place (section_of text head under) in
      record {
        grown = reads.grown;
        name = ap (λ h. h.name) added ∙ body-name tables.blocks f (spelled_by body);
        placed = ap (λ h. length h.blocks) added ∙ body-long tables.blocks f (spelled_by body) ∙ ap suc (sym placed);
        named = λ h named.
            subst (IsNamedFunction text new (with_body tables.blocks h spelled)) (sym added)
            (named-body text new tables.blocks h f spelled (spelled_by body) (sym read.lists) read.instrs (named_function text old new reads.grown h f named));
        kinds = read.kinds ∙ ap (λ n. fold with_defined n.kinds spelled.instrs) noted;
        shown = read.shown ∙ ap (λ n. n.shown ++ spelled.shown) noted;
        lowest = read.lowest ∙ ap (λ n. fold lower n.lowest spelled.wrongs) noted ∙ sym (fold-append lower notes.lowest wrongs spelled.wrongs);
      }

-- a head is noted
pub head-noted : (text : List ℕ) (tables : Tables) (place : ℕ) (line : Line) (notes later : NotesData) (is_spelled is_first : Bool)
    → is_spelled ≡ is_head (kept_items text line) → is_first ≡ (block_place tables.blocks (unwrap_or (head_number text line) 0) == place)
    → later ≡ with_lowest notes (fold lower notes.lowest (if is_spelled && is_first then [] else wrong line.number fault.Syntax ∷ []))
    → later ≡ with_lowest notes (fold lower notes.lowest (head_wrongs text tables place line))
head-noted text tables place line notes later is_spelled is_first spelled first noted =
    let made : Bool → Bool → NotesData = λ a b. with_lowest notes (fold lower notes.lowest (if a && b then [] else wrong line.number fault.Syntax ∷ [])) in
    noted ∙ ap (λ a. made a is_first) spelled ∙ ap (made (is_head (kept_items text line))) first

-- a number came first where no earlier block has it
record IsPlaced (n start : ℕ) (earlier rest : List ℕ) : Type 0 where
  at : ℕ
  is : position_from (nat_eq n) start (earlier ++ n ∷ rest) ≡ Some at
  least : start ≤ at
  same : (at == start + length earlier) ≡ not (list_any (nat_eq n) earlier)

placed : (n start : ℕ) (earlier rest : List ℕ) → IsPlaced n start earlier rest
placed n start [] rest = record {
  at = start;
  is = (let same : nat_eq n n ≡ true = grind (arith, nat_tests) in rw same refl);
  least = omega arith;
  same = (let same : (start == start + 0) ≡ true = grind (arith, nat_tests) in same);
}
placed n start (x ∷ earlier) rest = chosen (nat_eq n x) refl (placed n (start + 1) earlier rest)
  where
    chosen : (test : Bool) → nat_eq n x ≡ test → IsPlaced n (start + 1) earlier rest → IsPlaced n start (x ∷ earlier) rest
    chosen true is later = record {
      at = start;
      is = rw is refl;
      least = omega arith;
      same = rw is (let other : (start == start + suc (length earlier)) ≡ false = grind (arith, nat_tests) in other);
    }
    chosen false is later = record {
      at = later.at;
      is = rw is later.is;
      least = omega (arith, later.least);
      same = rw is (let moved : start + suc (length earlier) ≡ start + 1 + length earlier = omega arith in ap (λ n. later.at == n) moved ∙ later.same);
    }

pub came-first : (numbers earlier rest : List ℕ) (n place : ℕ) → numbers ≡ earlier ++ n ∷ rest → length earlier ≡ place
    → (block_place numbers n == place) ≡ not (list_any (nat_eq n) earlier)
came-first numbers earlier rest n place are long =
    let found = placed n 0 earlier rest in
    let at : block_place numbers n ≡ found.at =
    ap (λ list. block_place list n) are ∙ ap (λ where_it_is. unwrap_or where_it_is (place_of_no_block n)) (position_from-zero (nat_eq n) (earlier ++ n ∷ rest) ∙ found.is) in
    let length_is : 0 + length earlier ≡ place = omega (arith, long) in
    ap (λ p. p == place) at ∙ ap (λ p. found.at == p) (sym length_is) ∙ found.same

pub heads-same : (text : List ℕ) (tables : Tables) (earlier rest : List ℕ) (place : ℕ) (line : Line) → tables.blocks ≡ earlier ++ unwrap_or (head_number text line) 0 ∷ rest
    → length earlier ≡ place → head_wrongs text tables place line ≡ head_faults text earlier line
heads-same text tables earlier rest place line are long =
    ap (λ first. if is_head (kept_items text line) && first then [] else wrong line.number fault.Syntax ∷ [])
    (came-first tables.blocks earlier rest (unwrap_or (head_number text line) 0) place are long)

-- the blocks that are left
pub left-next : (text : List ℕ) (tables : Tables) (old new : List (List ℕ)) (place : ℕ) (section : Section) (sections : List Section) (f g : FunctionData) (notes later whole : NotesData)
    → AreLeft text tables place (section ∷ sections) notes whole → ReadsBlock text tables old new place section f g notes later → AreLeft text tables (suc place) sections later whole
left-next text tables old new place section sections f g notes later whole left reads =
    let body : Body = body_of text tables place section in
    let bodies : List Body = bodies_from text tables (suc place) sections in
    let number : ℕ = number_at text section in
    let earlier : List ℕ = left.earlier ++ number ∷ [] in
    let wrongs : List Wrong = wrongs_from text tables earlier (suc place) sections in
    let heads = heads-same text tables left.earlier (block_numbers text sections) place section.head left.numbered left.counted in
    record {
      earlier = earlier;
      numbered = left.numbered ∙ sym (append_assoc left.earlier (number ∷ []) (block_numbers text sections));
      counted = omega (arith, length-append left.earlier (number ∷ []), left.counted);
      kinds = ap (λ kinds. fold with_defined kinds (instrs_in bodies)) reads.kinds ∙ sym (fold-append with_defined notes.kinds body.instrs (instrs_in bodies)) ∙ left.kinds;
      shown = ap (λ shown. shown ++ shown_in bodies) reads.shown ∙ append_assoc notes.shown body.shown (shown_in bodies) ∙ left.shown;
      lowest =
          ap (λ lowest. fold lower lowest wrongs) (reads.lowest ∙ ap (λ those. fold lower notes.lowest (those ++ body.wrongs)) heads)
          ∙ sym (fold-append lower notes.lowest (head_faults text left.earlier section.head ++ body.wrongs) wrongs)
          ∙ ap (fold lower notes.lowest) (append_assoc (head_faults text left.earlier section.head) body.wrongs wrongs)
          ∙ left.lowest;
    }

pub function-next : (text : List ℕ) (tables : Tables) (old new : List (List ℕ)) (place : ℕ) (section : Section) (sections : List Section) (f g whole : FunctionData) (notes later : NotesData)
    → IsLeft text tables old place (section ∷ sections) f whole → ReadsBlock text tables old new place section f g notes later → IsLeft text tables new (suc place) sections g whole
function-next text tables old new place section sections f g whole notes later left reads = record {
  spelled = with_body tables.blocks left.spelled (body_of text tables place section);
  named = reads.named left.spelled left.named;
  rest = left.rest;
}

module _ (text : List ℕ) (tables : Tables) (old new : List (List ℕ)) (place : ℕ) (section : Section) (sections left_sections : List Section) (f g : FunctionData) (notes later : NotesData) where
  pub more-left : (whole : NotesData) → place ≡ length f.blocks → left_sections ≡ section ∷ sections → AreLeft text tables (length f.blocks) left_sections notes whole
      → ReadsBlock text tables old new place section f g notes later → AreLeft text tables (length g.blocks) sections later whole
  more-left whole at is left reads =
      subst (λ n. AreLeft text tables n sections later whole) (sym reads.placed)
      (left-next text tables old new place section sections f g notes later whole
      (subst (λ n. AreLeft text tables n (section ∷ sections) notes whole) (sym at) (subst (λ those. AreLeft text tables (length f.blocks) those notes whole) is left)) reads)

  pub more-function : (whole : FunctionData) → place ≡ length f.blocks → left_sections ≡ section ∷ sections → IsLeft text tables old (length f.blocks) left_sections f whole
      → ReadsBlock text tables old new place section f g notes later → IsLeft text tables new (length g.blocks) sections g whole
  more-function whole at is left reads =
      subst (λ n. IsLeft text tables new n sections g whole) (sym reads.placed)
      (function-next text tables old new place section sections f g whole notes later
      (subst (λ n. IsLeft text tables old n (section ∷ sections) f whole) (sym at) (subst (λ those. IsLeft text tables old (length f.blocks) those f whole) is left)) reads)

-- the numbers of the blocks
pub numbers-are : (text : List ℕ) (told : List Told) → All (IsToldIn text) told → filter_map head_of told ≡ block_numbers text (blocks_of text told).sections
numbers-are text [] all = refl
numbers-are text (t ∷ told) all =
    chosen t.head (All-head (IsToldIn text) t told all).head (numbers-are text told (All-tail (IsToldIn text) t told all))
  where
    chosen : (head : Option ℕ) → head ≡ head_number text (told_at text t) → filter_map head_of told ≡ block_numbers text (blocks_of text told).sections
        → cons_option head (filter_map head_of told) ≡ block_numbers text (if is_some (head_number text (told_at text t)) then with_head (told_at text t) (blocks_of text told) else lines.with_line (told_at text t) (blocks_of text told)).sections
    chosen None is more = rw (← is) more
    chosen (Some number) is more = rw (← is) (ap (λ n. n ∷ filter_map head_of told) (ap (λ found. unwrap_or found 0) is) ∙ ap (λ those. number_at text (record { head = told_at text t; under = (blocks_of text told).before }) ∷ those) more)

-- the kinds that are kept are those at the first definitions
abbrev kinds_of_instr : InstrData → List (ℕ × Kind)
kinds_of_instr instr = filter_map defined_kind instr.operands

instrs-kept : (reg : Reg) (kinds more : List (ℕ × Kind)) (instrs : List InstrData)
    → first_kind (fold with_defined kinds instrs ++ more) reg ≡ first_kind (kinds ++ (flat_map kinds_of_instr instrs ++ more)) reg
instrs-kept reg kinds more [] = refl
instrs-kept reg kinds more (i ∷ instrs) =
    instrs-kept reg (with_defined kinds i) more instrs ∙ operands-kept reg kinds (flat_map kinds_of_instr instrs ++ more) i.operands
    ∙ ap (λ entries. first_kind (kinds ++ entries) reg) (sym (append_assoc (kinds_of_instr i) (flat_map kinds_of_instr instrs) more))

flat-append : {X Y : Type 0} (f : X → List Y) (xs ys : List X) → flat_map f (xs ++ ys) ≡ flat_map f xs ++ flat_map f ys
flat-append f [] ys = refl
flat-append f (x ∷ xs) ys = ap (λ those. f x ++ those) (flat-append f xs ys) ∙ sym (append_assoc (f x) (flat_map f xs) (flat_map f ys))

kinds-in : (bodies : List Body) → flat_map kinds_of_instr (instrs_in bodies) ≡ kinds_in bodies
kinds-in [] = refl
kinds-in (body ∷ bodies) = flat-append kinds_of_instr body.instrs (instrs_in bodies) ∙ ap (λ those. flat_map kinds_of_instr body.instrs ++ those) (kinds-in bodies)

kinds-kept : (bodies : List Body) (reg : Reg) → first_kind (fold with_defined [] (instrs_in bodies)) reg ≡ first_kind (kinds_in bodies) reg
kinds-kept bodies reg =
    ap (λ kinds. first_kind kinds reg) (sym (append-nil (fold with_defined [] (instrs_in bodies)))) ∙ instrs-kept reg [] [] (instrs_in bodies)
    ∙ ap (λ kinds. first_kind kinds reg) (append-nil (flat_map kinds_of_instr (instrs_in bodies)) ∙ kinds-in bodies)

wrongs-agree : (a b : List (ℕ × Kind)) → ((reg : Reg) → first_kind a reg ≡ first_kind b reg) → (shown : List Shown) → filter_map (shown_wrong a) shown ≡ filter_map (shown_wrong b) shown
wrongs-agree a b same [] = refl
wrongs-agree a b same (s ∷ shown) =
    let one : shown_wrong a s ≡ shown_wrong b s =
    ap (λ kind. if has_type (option_map_or type_of_kind kind None) s.ty then None else Some (wrong s.line fault.Syntax)) (same s.reg) in
    ap (λ found. cons_option found (filter_map (shown_wrong a) shown)) one ∙ ap (cons_option (shown_wrong b s)) (wrongs-agree a b same shown)

-- the blocks are read
pub all-read : (text : List ℕ) (tables : Tables) (old new : List (List ℕ)) (told outer rest : List Told) (f g : FunctionData) (fresh notes later : NotesData) (before after : Option Wrong)
    → IsCutAtBlock text told outer rest → fresh ≡ record { kinds = []; shown = []; lowest = before }
    → notes ≡ with_lowest fresh (fold lower fresh.lowest (map (outer_wrong text) (told_lines_at text outer)))
    → ReadsBlocks text tables old new (blocks_of text rest).sections f g notes later
    → after ≡ fold (with_shown later.kinds) later.lowest later.shown
    → BlocksAreRead text tables (blocks_of text told) old new f g before after
all-read text tables old new told outer rest f g fresh notes later before after cut is_fresh noted reads ends =
    let sections : List Section = (blocks_of text told).sections in
    let bodies : List Body = bodies_from text tables 0 sections in
    let outers : List Wrong = map (outer_wrong text) (blocks_of text told).before in
    let inner : List Wrong = wrongs_from text tables [] 0 sections in
    let start : NotesData = record { kinds = []; shown = []; lowest = fold lower before outers } in
    let notes_is : notes ≡ start =
    noted ∙ ap (λ n. with_lowest n (fold lower n.lowest (map (outer_wrong text) (told_lines_at text outer)))) is_fresh
    ∙ ap (λ those. with_lowest (record { kinds = []; shown = []; lowest = before }) (fold lower before (map (outer_wrong text) those))) cut.front in
    let later_is : later ≡ notes_after text tables sections start = reads.notes ∙ ap (λ those. notes_after text tables those notes) cut.back ∙ ap (notes_after text tables sections) notes_is in
    record {
      grown = reads.grown;
      name = reads.name;
      named = λ h named. subst (λ those. IsNamedFunction text new (fold (with_body tables.blocks) h (bodies_from text tables 0 those)) g) cut.back (reads.named h named);
      lowest =
          ends ∙ ap (λ n. fold (with_shown n.kinds) n.lowest n.shown) later_is
          ∙ shown-wrongs (fold with_defined [] (instrs_in bodies)) (fold lower (fold lower before outers) inner) (shown_in bodies)
          ∙ ap (fold lower (fold lower (fold lower before outers) inner)) (wrongs-agree (fold with_defined [] (instrs_in bodies)) (kinds_in bodies) (kinds-kept bodies) (shown_in bodies))
          ∙ sym (fold-append lower (fold lower before outers) inner (shown_wrongs bodies))
          ∙ sym (fold-append lower before outers (inner ++ shown_wrongs bodies));
    }
