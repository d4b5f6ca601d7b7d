-- Selection goes from the last instruction to the first: what it makes of a block is what the rewritings of the table,
-- one after the other, make of it, and each of them refines.
use Rattle.std.proofs.Common.{◌≡◌, ℕ, suc, ℤ, ◌+◌, Bool, true, false, ◌||◌, ◌&&◌, ◌==◌, List, [], ◌∷◌, ◌++◌, length, map, Option, Some, None, append_assoc, refl, sym, ap, ap₂, ◌∙◌, subst}
use Rattle.std.specs.List.{AllZip, list_any, list_all}
use Rattle.std.proofs.lemmas.Bool.{eqb-true, eq-eqb}
use Rattle.std.proofs.lemmas.List.Folds.{list_any-append, list_all-append}
use Rattle.gi_mir.specs.Data.{InstrData, BlockData, FunctionData}
use Rattle.gi_mir.specs.Edit.{defines, is_def_of, is_use_of, uses}
use Rattle.gi_mir.specs.declared.operand.Operand.{Operand}
use Rattle.gi_mir.specs.declared.operand.Operand.TheVariants as operand
use Rattle.gi_answer.specs.Shapes.{ShapedInstr, CopyIn, MakeConstant, AddUp, CopyOut, Return, shaped_instr, IsShapedInstr, stands_behind, defined_after}
use Rattle.gi_meaning.specs.Runs.{phis_of, is_among}
use Rattle.gi_refine.specs.Refinement.{RefinesUnchecked}
use Rattle.gi_refine.specs.Replacing.{touches, any_touches}
use Rattle.gi_refine.specs.Worded.{classed_instr}
use Rattle.gi_refine.proofs.Refining.{refines_itself, refines_through}
use Rattle.gi_answer.specs.NormalForm.{first_fit, next, with_ids, IsNormalForm}
use Rattle.gi_mir.specs.Row.{is_generic_op}
use Rattle.gi_answer.specs.Rows.{is_generic, is_used, short_in, selection_rows}
use Rattle.gi_answer.specs.Selecting.{selected_where, selected_list, used_in, before, short_among}
use Rattle.gi_answer.proofs.SelectFits.{IsShort, short_value, constant_instr, constant_list, constant_fits, constant_selected, sum_instr, sum_list, sum_fits, sum_selected, sum_classed, sum_not_generic}
use Rattle.gi_answer.proofs.SelectShapes.{or_false, shaped, site_at, next_reg_after, next_shaped, used_shaped, short_shaped, classed_all, used_classed, classed_made, none_made, is_nameless, InOrder}
use Rattle.gi_answer.proofs.SelectFronts.{All32, all_32, IsFront, short_before, copy_absent, sum_parts, constant_parts, reads_defined, stated_32, front_next}
use Rattle.gi_answer.proofs.SelectRuns.{Fits, fits_refine, nothing_hidden, dead_constant_follows, dead_sum_follows, constant_follows, sum_follows}

-- ══ Rewritings one after the other ══

-- the normal form of the one is that of the other
pub record Leads (f g : FunctionData) : Type 0 where
  pub by : (normal : FunctionData) → IsNormalForm selection_rows g normal → IsNormalForm selection_rows f normal

leads_on : (f g : FunctionData) → next selection_rows f ≡ Some g → Leads f g
leads_on f g step = record { by = λ normal h. record { count = suc h.count; comes = (g, step, h.comes) } }

-- and it refines
pub record Goes (f g : FunctionData) : Type 0 where
  pub leads : Leads f g
  pub refines : (names : List (List ℕ)) → RefinesUnchecked 32 names f g

goes_nowhere : (f : FunctionData) → Goes f f
goes_nowhere f = record { leads = record { by = λ normal h. h }; refines = λ names. refines_itself 32 names f }

goes_through : (f g h : FunctionData) → Goes f g → Goes g h → Goes f h
goes_through f g h first second = record {
  leads = record { by = λ normal n. first.leads.by normal (second.leads.by normal n) };
  refines = λ names. refines_through 32 names f g h (first.refines names) (second.refines names);
}

-- ══ Selected from a place on ══

-- what the instructions from a place on become, where these registers are defined before
pub record Came (constant : ℕ → Option ℤ) (f : FunctionData) (b : BlockData) (defined : List ℕ) (front is : List (ℕ × InstrData)) (reg id : ℕ) : Type 0 where
  pub back : List (ℕ × InstrData)
  pub next_reg : ℕ
  pub next_id : ℕ
  pub goes : Goes (shaped f b (front ++ is) reg id) (shaped f b (front ++ back) next_reg next_id)
  pub same : classed_all back ≡ selected_list constant is
  pub none : list_any is_generic back ≡ false
  pub no_phis : phis_of back ≡ []
  pub of_32 : All32 back
  pub fresh : (r : ℕ) → is_among r defined ≡ true → list_any (defines r) back ≡ false
  pub nameless : list_all is_nameless back ≡ true

-- the last instruction of the front counted to what follows
goes_between : (f : FunctionData) (b : BlockData) (front : List (ℕ × InstrData)) (i : ℕ × InstrData) (is js : List (ℕ × InstrData)) (reg id reg' id' : ℕ)
    → Goes (shaped f b ((front ++ (i ∷ [])) ++ is) reg id) (shaped f b ((front ++ (i ∷ [])) ++ js) reg' id')
    → Goes (shaped f b (front ++ (i ∷ is)) reg id) (shaped f b (front ++ (i ∷ js)) reg' id')
goes_between f b front i is js reg id reg' id' goes =
    subst (λ xs. Goes (shaped f b xs reg id) (shaped f b (front ++ (i ∷ js)) reg' id')) (append_assoc front (i ∷ []) is)
    (subst (λ ys. Goes (shaped f b ((front ++ (i ∷ [])) ++ is) reg id) (shaped f b ys reg' id')) (append_assoc front (i ∷ []) js) goes)

-- ══ An instruction that stays ══

stated_nameless : (s : ShapedInstr) (id line : ℕ) → is_nameless (id, shaped_instr s line) ≡ true
stated_nameless (CopyIn d p) id line = refl
stated_nameless (MakeConstant d v) id line = refl
stated_nameless (AddUp d a b) id line = refl
stated_nameless (CopyOut p q) id line = refl
stated_nameless Return id line = refl

or_true : (a b : Bool) → b ≡ true → (a || b) ≡ true
or_true true b h = refl
or_true false b h = h

among_next : (defined : List ℕ) (s : ShapedInstr) (r : ℕ) → is_among r defined ≡ true → is_among r (defined_after defined s) ≡ true
among_next defined (CopyIn d p) r h = or_true (r == d) (is_among r defined) h
among_next defined (MakeConstant d v) r h = or_true (r == d) (is_among r defined) h
among_next defined (AddUp d a b) r h = or_true (r == d) (is_among r defined) h
among_next defined (CopyOut p q) r h = h
among_next defined Return r h = h

-- what an instruction that is selected needs of itself
record Stays (constant : ℕ → Option ℤ) (defined : List ℕ) (s : ShapedInstr) (id line : ℕ) (behind : List InstrData) : Type 0 where
  selects : selected_where (used_in behind) constant (shaped_instr s line) ≡ Some (classed_instr (shaped_instr s line))
  plain : is_generic (id, shaped_instr s line) ≡ false
  new : (r : ℕ) → is_among r defined ≡ true → defines r (id, shaped_instr s line) ≡ false

kept_step : (constant : ℕ → Option ℤ) (f : FunctionData) (b : BlockData) (defined : List ℕ) (front : List (ℕ × InstrData)) (s : ShapedInstr) (id line : ℕ) (is : List (ℕ × InstrData)) (reg next : ℕ)
    → Stays constant defined s id line (selected_list constant is)
    → Came constant f b (defined_after defined s) (front ++ ((id, shaped_instr s line) ∷ [])) is reg next
    → Came constant f b defined front ((id, shaped_instr s line) ∷ is) reg next
kept_step constant f b defined front s id line is reg next stays came =
    let i : ℕ × InstrData = (id, shaped_instr s line) in record {
      back = i ∷ came.back;
      next_reg = came.next_reg;
      next_id = came.next_id;
      goes = goes_between f b front i is came.back reg next came.next_reg came.next_id came.goes;
      same = ap (λ xs. classed_instr i.1 ∷ xs) came.same ∙ sym (ap (λ o. before o (selected_list constant is)) stays.selects);
      none = ap₂ (λ x y. x || y) stays.plain came.none;
      no_phis = no_phi_first s id line came.back;
      of_32 = all_32 (i ∷ []) came.back (stated_32 s id line) came.of_32;
      fresh = λ r h. ap₂ (λ x y. x || y) (stays.new r h) (came.fresh r (among_next defined s r h));
      nameless = ap₂ (λ x y. x && y) (stated_nameless s id line) came.nameless;
    }
  where
    no_phi_first : (t : ShapedInstr) (n l : ℕ) (rest : List (ℕ × InstrData)) → phis_of ((n, shaped_instr t l) ∷ rest) ≡ []
    no_phi_first (CopyIn d p) n l rest = refl
    no_phi_first (MakeConstant d v) n l rest = refl
    no_phi_first (AddUp d a c) n l rest = refl
    no_phi_first (CopyOut p q) n l rest = refl
    no_phi_first Return n l rest = refl

-- ══ A generic instruction ══

-- nothing touches a register that isn't defined and isn't read
touches_clear : (d : ℕ) (os : List Operand) → list_any (is_def_of d) os ≡ false → list_any (is_use_of d) os ≡ false → touches (λ q. q == d) (λ q. q) os ≡ false
touches_clear d [] h g = refl
touches_clear d (operand.Def r k ∷ os) h g =
    let parts = or_false (r.0 == d) (list_any (is_def_of d) os) h in ap₂ (λ x y. x || y) parts.0 (touches_clear d os parts.1 g)
touches_clear d (operand.Use r ∷ os) h g =
    let parts = or_false (r.0 == d) (list_any (is_use_of d) os) g in ap₂ (λ x y. x || y) parts.0 (touches_clear d os h parts.1)
touches_clear d (o ∷ os) h g = touches_clear d os h g

any_clear : (d : ℕ) (is : List (ℕ × InstrData)) → list_any (defines d) is ≡ false → list_any (uses d) is ≡ false → any_touches (λ q. q == d) (λ q. q) is ≡ false
any_clear d [] h g = refl
any_clear d (i ∷ is) h g =
    let defs = or_false (defines d i) (list_any (defines d) is) h in
    let unused = or_false (uses d i) (list_any (uses d) is) g in
    ap₂ (λ x y. x || y) (touches_clear d i.1.operands defs.0 unused.0) (any_clear d is defs.1 unused.1)

touches_nothing : (os : List Operand) → touches nothing_hidden (λ q. q) os ≡ false
touches_nothing [] = refl
touches_nothing (operand.Def r k ∷ os) = touches_nothing os
touches_nothing (operand.Use r ∷ os) = touches_nothing os
touches_nothing (o ∷ os) = touches_nothing os

pub any_nothing : (is : List (ℕ × InstrData)) → any_touches nothing_hidden (λ q. q) is ≡ false
any_nothing [] = refl
any_nothing (i ∷ is) = ap₂ (λ x y. x || y) (touches_nothing i.1.operands) (any_nothing is)

-- what is made of a generic instruction, and what it owes
record Makes (constant : ℕ → Option ℤ) (f : FunctionData) (b : BlockData) (defined : List ℕ) (front : List (ℕ × InstrData)) (i : ℕ × InstrData) (behind : List InstrData) (back : List (ℕ × InstrData)) (reg id : ℕ) : Type 0 where
  made : List InstrData
  hidden : ℕ → Bool
  generic : is_generic i ≡ true
  fits : first_fit selection_rows (shaped f b (front ++ (i ∷ back)) reg id) (site_at front) i.1 ≡ Some made
  selects : before (selected_where (used_in behind) constant i.1) behind ≡ map classed_instr made ++ behind
  plain : list_any (λ x. is_generic_op x.op) made ≡ false
  no_phis : phis_of (with_ids id made ++ back) ≡ []
  of_32 : All32 (with_ids id made)
  new : (r : ℕ) → is_among r defined ≡ true → list_any (defines r) (with_ids id made) ≡ false
  nameless : list_all is_nameless (with_ids id made) ≡ true
  owes : (names : List (List ℕ)) → Fits names front (i ∷ []) (with_ids id made) back hidden

made_step : (constant : ℕ → Option ℤ) (f : FunctionData) (b : BlockData) (defined : List ℕ) (front : List (ℕ × InstrData)) (s : ShapedInstr) (id line : ℕ) (is : List (ℕ × InstrData)) (reg next : ℕ)
    → IsFront defined front
    → (came : Came constant f b (defined_after defined s) (front ++ ((id, shaped_instr s line) ∷ [])) is reg next)
    → Makes constant f b defined front (id, shaped_instr s line) (selected_list constant is) came.back came.next_reg came.next_id
    → Came constant f b defined front ((id, shaped_instr s line) ∷ is) reg next
made_step constant f b defined front s id line is reg next front_is came makes =
    let i : ℕ × InstrData = (id, shaped_instr s line) in
    let made : List InstrData = makes.made in
    let new : List (ℕ × InstrData) = with_ids came.next_id made in
    let start : FunctionData = shaped f b (front ++ (i ∷ is)) reg next in
    let between : FunctionData = shaped f b (front ++ (i ∷ came.back)) came.next_reg came.next_id in
    let end : FunctionData = shaped f b (front ++ (new ++ came.back)) (next_reg_after came.next_reg made) (came.next_id + length made) in
    let step : Goes between end = record {
      leads = leads_on between end (next_shaped f b front i came.back came.next_reg came.next_id made makes.generic came.none makes.fits);
      refines = λ names. fits_refine names f b defined front (i ∷ []) new came.back makes.hidden came.next_reg came.next_id (next_reg_after came.next_reg made) (came.next_id + length made) front_is (makes.owes names);
    } in record {
      back = new ++ came.back;
      next_reg = next_reg_after came.next_reg made;
      next_id = came.next_id + length made;
      goes = goes_through start between end (goes_between f b front i is came.back reg next came.next_reg came.next_id came.goes) step;
      same = classed_made came.next_id made came.back ∙ ap (λ xs. map classed_instr made ++ xs) came.same ∙ sym makes.selects;
      none = none_made came.next_id made came.back makes.plain came.none;
      no_phis = makes.no_phis;
      of_32 = all_32 new came.back makes.of_32 came.of_32;
      fresh = λ r h. list_any-append (defines r) new came.back ∙ ap₂ (λ x y. x || y) (makes.new r h) (came.fresh r (among_next defined s r h));
      nameless = list_all-append is_nameless new came.back ∙ ap₂ (λ x y. x && y) makes.nameless came.nameless;
    }

-- ══ What is used behind ══

new_apart_by : (defined : List ℕ) (d r : ℕ) (t : Bool) → (d == r) ≡ t → is_among d defined ≡ false → is_among r defined ≡ true → t ≡ false
new_apart_by defined d r true same absent here = cc (subst (λ q. is_among q defined ≡ false) (eqb-true d r same) absent, here)
new_apart_by defined d r false same absent here = refl

-- a new register isn't one that is defined
pub new_apart : (defined : List ℕ) (d r : ℕ) → is_among d defined ≡ false → is_among r defined ≡ true → (d == r) ≡ false
new_apart defined d r absent here = new_apart_by defined d r (d == r) refl absent here

-- an instruction's new result is used in the function where it is used behind the instruction
used_here : (f : FunctionData) (b : BlockData) (defined : List ℕ) (front : List (ℕ × InstrData)) (s : ShapedInstr) (id line : ℕ) (back : List (ℕ × InstrData)) (reg next d : ℕ)
    → IsFront defined front → stands_behind defined s ≡ true → is_among d defined ≡ false
    → is_used (shaped f b (front ++ ((id, shaped_instr s line) ∷ back)) reg next) d ≡ list_any (uses d) back
used_here f b defined front s id line back reg next d front_is stands absent =
    let i : ℕ × InstrData = (id, shaped_instr s line) in
    used_shaped f b (front ++ (i ∷ back)) reg next d ∙ list_any-append (uses d) front (i ∷ back)
    ∙ ap₂ (λ x y. x || (y || list_any (uses d) back)) (front_is.reads_only d absent) (reads_defined defined s id line d stands absent)

used_behind : (back : List (ℕ × InstrData)) (behind : List InstrData) (d : ℕ) → classed_all back ≡ behind → used_in behind d ≡ list_any (uses d) back
used_behind back behind d same = ap (λ xs. used_in xs d) (sym same) ∙ used_classed d back

-- ══ A constant ══

constant_makes : (constant : ℕ → Option ℤ) (f : FunctionData) (b : BlockData) (defined : List ℕ) (front : List (ℕ × InstrData)) (d v id line : ℕ) (is : List (ℕ × InstrData)) (reg next : ℕ)
    → IsFront defined front → stands_behind defined (MakeConstant d v) ≡ true
    → (came : Came constant f b (d ∷ defined) (front ++ ((id, constant_instr d v line) ∷ [])) is reg next) → (u : Bool) → list_any (uses d) came.back ≡ u
    → Makes constant f b defined front (id, constant_instr d v line) (selected_list constant is) came.back came.next_reg came.next_id
constant_makes constant f b defined front d v id line is reg next front_is stands came true used =
    let parts = constant_parts defined d v stands in
    let short : IsShort v = short_value v parts.1 in
    let i : ℕ × InstrData = (id, constant_instr d v line) in
    let g : FunctionData = shaped f b (front ++ (i ∷ came.back)) came.next_reg came.next_id in record {
      made = constant_list d short.number line;
      hidden = nothing_hidden;
      generic = refl;
      fits = constant_fits (is_used g) (short_in g) d v line short true (used_here f b defined front (MakeConstant d v) id line came.back came.next_reg came.next_id d front_is stands parts.0 ∙ used);
      selects = ap (λ o. before o (selected_list constant is)) (constant_selected (used_in (selected_list constant is)) constant d v line short true (used_behind came.back (selected_list constant is) d came.same ∙ used));
      plain = refl;
      no_phis = refl;
      of_32 = ((refl, tt), tt);
      new = λ r h. ap (λ x. (x || false) || false) (new_apart defined d r parts.0 h);
      nameless = refl;
      owes = λ names. record {
        old_32 = all_32 front (i ∷ came.back) front_is.of_32 (all_32 (i ∷ []) came.back ((refl, tt), tt) came.of_32);
        new_32 = all_32 front (with_ids came.next_id (constant_list d short.number line) ++ came.back) front_is.of_32
            (all_32 (with_ids came.next_id (constant_list d short.number line)) came.back ((refl, tt), tt) came.of_32);
        no_phi = refl;
        no_new_phi = refl;
        front_clear = any_nothing front;
        back_clear = any_nothing came.back;
        follows = constant_follows names front d v id came.next_id line short;
      };
    }
constant_makes constant f b defined front d v id line is reg next front_is stands came false used =
    let parts = constant_parts defined d v stands in
    let short : IsShort v = short_value v parts.1 in
    let i : ℕ × InstrData = (id, constant_instr d v line) in
    let g : FunctionData = shaped f b (front ++ (i ∷ came.back)) came.next_reg came.next_id in record {
      made = [];
      hidden = λ q. q == d;
      generic = refl;
      fits = constant_fits (is_used g) (short_in g) d v line short false (used_here f b defined front (MakeConstant d v) id line came.back came.next_reg came.next_id d front_is stands parts.0 ∙ used);
      selects = ap (λ o. before o (selected_list constant is)) (constant_selected (used_in (selected_list constant is)) constant d v line short false (used_behind came.back (selected_list constant is) d came.same ∙ used));
      plain = refl;
      no_phis = came.no_phis;
      of_32 = tt;
      new = λ r h. refl;
      nameless = refl;
      owes = λ names. record {
        old_32 = all_32 front (i ∷ came.back) front_is.of_32 (all_32 (i ∷ []) came.back ((refl, tt), tt) came.of_32);
        new_32 = all_32 front came.back front_is.of_32 came.of_32;
        no_phi = refl;
        no_new_phi = came.no_phis;
        front_clear = any_clear d front (front_is.defines_all d ∙ parts.0) (front_is.reads_only d parts.0);
        back_clear = any_clear d came.back (came.fresh d (ap (λ x. x || is_among d defined) (eq-eqb d d refl))) used;
        follows = dead_constant_follows names front d v id line;
      };
    }

-- ══ A sum ══

sum_32 : (id d a b line : ℕ) (first second : Option ℤ) → All32 (with_ids id (sum_list d a b first second line))
sum_32 id d a b line first (Some number) = ((refl, tt), tt)
sum_32 id d a b line (Some number) None = ((refl, tt), tt)
sum_32 id d a b line None None = ((refl, tt), tt)

sum_no_phis : (id d a b line : ℕ) (first second : Option ℤ) (back : List (ℕ × InstrData)) → phis_of (with_ids id (sum_list d a b first second line) ++ back) ≡ []
sum_no_phis id d a b line first (Some number) back = refl
sum_no_phis id d a b line (Some number) None back = refl
sum_no_phis id d a b line None None back = refl

sum_nameless : (id d a b line : ℕ) (first second : Option ℤ) → list_all is_nameless (with_ids id (sum_list d a b first second line)) ≡ true
sum_nameless id d a b line first (Some number) = refl
sum_nameless id d a b line (Some number) None = refl
sum_nameless id d a b line None None = refl

sum_defines : (id d a b line r : ℕ) (first second : Option ℤ) → (d == r) ≡ false → list_any (defines r) (with_ids id (sum_list d a b first second line)) ≡ false
sum_defines id d a b line r first (Some number) h = ap (λ x. (x || false) || false) h
sum_defines id d a b line r (Some number) None h = ap (λ x. (x || false) || false) h
sum_defines id d a b line r None None h = ap (λ x. (x || false) || false) h

sum_makes : (constant : ℕ → Option ℤ) (f : FunctionData) (b : BlockData) (defined : List ℕ) (front : List (ℕ × InstrData)) (d a c id line : ℕ) (is : List (ℕ × InstrData)) (reg next : ℕ)
    → IsFront defined front → stands_behind defined (AddUp d a c) ≡ true → ((r : ℕ) → is_among r defined ≡ true → constant r ≡ short_among front r)
    → (came : Came constant f b (d ∷ defined) (front ++ ((id, sum_instr d a c line) ∷ [])) is reg next) → (u : Bool) → list_any (uses d) came.back ≡ u
    → Makes constant f b defined front (id, sum_instr d a c line) (selected_list constant is) came.back came.next_reg came.next_id
sum_makes constant f b defined front d a c id line is reg next front_is stands constant_is came true used =
    let parts = sum_parts defined d a c stands in
    let i : ℕ × InstrData = (id, sum_instr d a c line) in
    let g : FunctionData = shaped f b (front ++ (i ∷ came.back)) came.next_reg came.next_id in
    let first : Option ℤ = short_among front a in
    let second : Option ℤ = short_among front c in
    let made : List InstrData = sum_list d a c first second line in record {
      made = made;
      hidden = nothing_hidden;
      generic = refl;
      fits = sum_fits (is_used g) (short_in g) d a c line true first second
          (used_here f b defined front (AddUp d a c) id line came.back came.next_reg came.next_id d front_is stands parts.0 ∙ used)
          (short_shaped f b (front ++ (i ∷ came.back)) came.next_reg came.next_id a ∙ short_before front (i ∷ came.back) a (front_is.defines_all a ∙ parts.1))
          (short_shaped f b (front ++ (i ∷ came.back)) came.next_reg came.next_id c ∙ short_before front (i ∷ came.back) c (front_is.defines_all c ∙ parts.2));
      selects = ap (λ o. before o (selected_list constant is)) (sum_selected (used_in (selected_list constant is)) constant d a c line true first second
          (used_behind came.back (selected_list constant is) d came.same ∙ used) (constant_is a parts.1) (constant_is c parts.2))
          ∙ ap (λ xs. xs ++ selected_list constant is) (sym (sum_classed d a c line first second));
      plain = sum_not_generic d a c line first second;
      no_phis = sum_no_phis came.next_id d a c line first second came.back;
      of_32 = sum_32 came.next_id d a c line first second;
      new = λ r h. sum_defines came.next_id d a c line r first second (new_apart defined d r parts.0 h);
      nameless = sum_nameless came.next_id d a c line first second;
      owes = λ names. record {
        old_32 = all_32 front (i ∷ came.back) front_is.of_32 (all_32 (i ∷ []) came.back ((refl, tt), tt) came.of_32);
        new_32 = all_32 front (with_ids came.next_id made ++ came.back) front_is.of_32 (all_32 (with_ids came.next_id made) came.back (sum_32 came.next_id d a c line first second) came.of_32);
        no_phi = refl;
        no_new_phi = sum_no_phis came.next_id d a c line first second came.back;
        front_clear = any_nothing front;
        back_clear = any_nothing came.back;
        follows = sum_follows names defined front d a c id came.next_id line first second front_is refl refl;
      };
    }
sum_makes constant f b defined front d a c id line is reg next front_is stands constant_is came false used =
    let parts = sum_parts defined d a c stands in
    let i : ℕ × InstrData = (id, sum_instr d a c line) in
    let g : FunctionData = shaped f b (front ++ (i ∷ came.back)) came.next_reg came.next_id in record {
      made = [];
      hidden = λ q. q == d;
      generic = refl;
      fits = sum_fits (is_used g) (short_in g) d a c line false (short_in g a) (short_in g c)
          (used_here f b defined front (AddUp d a c) id line came.back came.next_reg came.next_id d front_is stands parts.0 ∙ used) refl refl;
      selects = ap (λ o. before o (selected_list constant is)) (sum_selected (used_in (selected_list constant is)) constant d a c line false (constant a) (constant c)
          (used_behind came.back (selected_list constant is) d came.same ∙ used) refl refl);
      plain = refl;
      no_phis = came.no_phis;
      of_32 = tt;
      new = λ r h. refl;
      nameless = refl;
      owes = λ names. record {
        old_32 = all_32 front (i ∷ came.back) front_is.of_32 (all_32 (i ∷ []) came.back ((refl, tt), tt) came.of_32);
        new_32 = all_32 front came.back front_is.of_32 came.of_32;
        no_phi = refl;
        no_new_phi = came.no_phis;
        front_clear = any_clear d front (front_is.defines_all d ∙ parts.0) (front_is.reads_only d parts.0);
        back_clear = any_clear d came.back (came.fresh d (ap (λ x. x || is_among d defined) (eq-eqb d d refl))) used;
        follows = dead_sum_follows names front d a c id line;
      };
    }

-- ══ The whole block ══

step_back : (constant : ℕ → Option ℤ) (f : FunctionData) (b : BlockData) (defined : List ℕ) (front : List (ℕ × InstrData)) (s : ShapedInstr) (id line : ℕ) (is : List (ℕ × InstrData)) (reg next : ℕ)
    → IsFront defined front → stands_behind defined s ≡ true → ((r : ℕ) → is_among r defined ≡ true → constant r ≡ short_among front r)
    → Came constant f b (defined_after defined s) (front ++ ((id, shaped_instr s line) ∷ [])) is reg next
    → Came constant f b defined front ((id, shaped_instr s line) ∷ is) reg next
step_back constant f b defined front (CopyIn d p) id line is reg next front_is stands constant_is came =
    kept_step constant f b defined front (CopyIn d p) id line is reg next
    (record { selects = refl; plain = refl; new = λ r h. ap (λ x. x || false) (new_apart defined d r (copy_absent defined d p stands) h) }) came
step_back constant f b defined front (MakeConstant d v) id line is reg next front_is stands constant_is came =
    made_step constant f b defined front (MakeConstant d v) id line is reg next front_is came
    (constant_makes constant f b defined front d v id line is reg next front_is stands came (list_any (uses d) came.back) refl)
step_back constant f b defined front (AddUp d a c) id line is reg next front_is stands constant_is came =
    made_step constant f b defined front (AddUp d a c) id line is reg next front_is came
    (sum_makes constant f b defined front d a c id line is reg next front_is stands constant_is came (list_any (uses d) came.back) refl)
step_back constant f b defined front (CopyOut p q) id line is reg next front_is stands constant_is came =
    kept_step constant f b defined front (CopyOut p q) id line is reg next (record { selects = refl; plain = refl; new = λ r h. refl }) came
step_back constant f b defined front Return id line is reg next front_is stands constant_is came =
    kept_step constant f b defined front Return id line is reg next (record { selects = refl; plain = refl; new = λ r h. refl }) came

pub came_from : (whole : List (ℕ × InstrData)) (f : FunctionData) (b : BlockData) (ss : List ShapedInstr) (is front : List (ℕ × InstrData)) (defined : List ℕ) (reg next : ℕ)
    → AllZip IsShapedInstr ss is → InOrder defined ss → IsFront defined front → front ++ is ≡ whole → Came (short_among whole) f b defined front is reg next
came_from whole f b [] [] front defined reg next same order front_is all = record {
  back = [];
  next_reg = reg;
  next_id = next;
  goes = goes_nowhere (shaped f b (front ++ []) reg next);
  same = refl;
  none = refl;
  no_phis = refl;
  of_32 = tt;
  fresh = λ r h. refl;
  nameless = refl;
}
came_from whole f b [] (i ∷ is) front defined reg next same order front_is all = absurd same
came_from whole f b (s ∷ ss) [] front defined reg next same order front_is all = absurd same
came_from whole f b (s ∷ ss) (i ∷ is) front defined reg next same order front_is all =
    let line : ℕ = i.1.line in
    let j : ℕ × InstrData = (i.0, shaped_instr s line) in
    let here : i ≡ j = ap (λ (e : InstrData). (i.0, e)) same.0 in
    let whole_is : front ++ (j ∷ is) ≡ whole = ap (λ (k : ℕ × InstrData). front ++ (k ∷ is)) (sym here) ∙ all in
    let behind : Came (short_among whole) f b (defined_after defined s) (front ++ (j ∷ [])) is reg next =
    came_from whole f b ss is (front ++ (j ∷ [])) (defined_after defined s) reg next same.1 order.1 (front_next defined front s i.0 line front_is order.0)
    (append_assoc front (j ∷ []) is ∙ whole_is) in
    subst (λ (k : ℕ × InstrData). Came (short_among whole) f b defined front (k ∷ is) reg next) (sym here)
    (step_back (short_among whole) f b defined front s i.0 line is reg next front_is order.0
    (λ r h. ap (λ xs. short_among xs r) (sym whole_is) ∙ short_before front (j ∷ is) r (front_is.defines_all r ∙ h)) behind)
