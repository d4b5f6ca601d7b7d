-- In every run of a valid function an available register holds what its definition gives.
use Rattle.std.proofs.Common.{◌≡◌, ℕ, Bool, true, false, not, ◌&&◌, ◌==◌, List, [], ◌∷◌, ◌++◌, map, Some, None, slice_get, ◌⊎◌, inl, inr, ⊎_elim, refl, sym, ap, ◌∙◌, subst, true≢false}
use Rattle.std.proofs.lemmas.Bool.{or_parts, or_from, or_cases, or_left, or_right, and_parts, and_from, false_from_ne_true, not-true, eq-eqb, eqb-true}
use Rattle.std.proofs.lemmas.List.Folds.{list_any-append}
use Rattle.std.specs.List.{list_any, list_all}
use Rattle.gi_llt.specs.Llt.{width_of}
use Rattle.gi_mir.specs.Data.{InstrData, BlockData, FunctionData}
use Rattle.gi_mir.specs.Edit.{all_instrs, is_def_of, defines, uses}
use Rattle.gi_mir.specs.Formed.{is_physical_def, is_implicit_def}
use Rattle.gi_mir.specs.Row.{is_branch_op, is_terminator_op}
use Rattle.gi_mir.specs.declared.opcode.Opcode.TheVariants as op
use Rattle.gi_mir.specs.declared.operand.MemOp.{MemOp}
use Rattle.gi_mir.specs.declared.operand.Operand.{Operand}
use Rattle.gi_mir.specs.declared.operand.Operand.TheVariants as operand
use Rattle.gi_meaning.specs.Act.{Act, Results, Leaves}
use Rattle.gi_meaning.specs.State.{World, IsWorld, State, outside_of, AreBytes, Virtual}
use Rattle.gi_meaning.specs.Meaning.{Meaning, Loading, Zeros, meaning_of, is_joining}
use Rattle.gi_meaning.specs.Runs.{Setting, setting_of, written_places, width_of_place, places_of, put_all, Left, Steps, is_phi, phis_of, after_phis, is_among}
use Rattle.gi_refine.specs.Reached.{IsReached}
use Rattle.gi_refine.proofs.Targets.{step_target}
use Rattle.gi_valid.specs.Available.{Extent, is_origin, defines_origin, at_once, IsExtent, IsAvailable}
use Rattle.gi_valid.specs.Definitions.{is_pure, definition, uses_purely}
use Rattle.gi_valid.specs.Facts.{is_computing, is_fixed, is_steady, HoldsDefinition, HoldsBelow}
use Rattle.gi_meaning.specs.InRow.{results_in}
use Rattle.gi_valid.proofs.Answering.{is_leaving, act_fine, leaving_is, joining_is, branch_ends, computing_valued}
use Rattle.gi_valid.proofs.Defining.{in_either, in_function, IsDefinition, definition_is, IsOrderly, no_phi_defines, no_terminator_defines, valued_is_no_terminator}
use Rattle.gi_valid.proofs.Held.{computed_places, virtual_widths, put_held, held_on, acts_anywhere, joined_keeps, put_all_memory, joined_memory, put_one, defined_written, IsBelow, zeros_below}
use Rattle.gi_valid.proofs.Pure.{pure_parts}
use Rattle.gi_valid.proofs.Single.{IsIn, one_definition, results_once}
use Rattle.gi_valid.proofs.Sited.{ends_behind, target_among, splits_whole}
use Rattle.gi_valid.proofs.Stepping.{Ran, ran, Went, went, step_keeps, reads_same, read_there}
use Rattle.gi_valid.proofs.Tested.{tested_pair, tested_block, untested, untested_reached}
use Rattle.gi_valid.proofs.Walking.{Keeps, kept_where_reached}

-- ══ A function, a register and its definition ══

-- what the two facts rest on
record Given (f : FunctionData) (r : ℕ) (extent : Extent) (d : ℕ × InstrData) : Type 0 where
  orderly : IsOrderly f
  contained : IsExtent f r extent
  definition : definition f r ≡ Some d
  no_phi : is_phi d.1 ≡ false
  no_terminator : is_terminator_op d.1.op ≡ false

inside_of : (f : FunctionData) (r : ℕ) (extent : Extent) (d : ℕ × InstrData) → Given f r extent d → IsDefinition f r d
inside_of f r extent d g = definition_is f r d g.definition

-- an instruction in a block is one of the function
here_in : (f : FunctionData) (b : ℕ) (block : BlockData) → slice_get f.blocks b ≡ Some block → (before : List (ℕ × InstrData)) (i : ℕ × InstrData) (after : List (ℕ × InstrData)) → after_phis block.instrs ≡ before ++ i ∷ after
    → (j : ℕ × InstrData) → IsIn j (i ∷ after) → IsIn j (all_instrs f.blocks)
here_in f b block found before i after splits j there =
    in_function f.blocks b block found j
    (subst (λ l. IsIn j l) (sym (splits_whole block.instrs before i after splits)) (in_either j (phis_of block.instrs ++ before) (i ∷ after) (inr there)))

-- a step that leaves its block
leaves : (x : ℕ) (names : List (List ℕ)) (f : FunctionData) (w : World) → IsWorld x w → (r : ℕ) (extent : Extent) (d : ℕ × InstrData) → Given f r extent d → (b : ℕ) (block : BlockData) → slice_get f.blocks b ≡ Some block
    → (before : List (ℕ × InstrData)) (i : ℕ × InstrData) (after : List (ℕ × InstrData)) → after_phis block.instrs ≡ before ++ i ∷ after → (c : ℕ) (state state' : State) → Steps (setting_of x names f) w i.1 state (Left c state')
    → (state' ≡ state) × (is_among c block.successors ≡ true) × (list_any (defines r) (i ∷ after) ≡ false)
leaves x names f w is_world r extent d g b block found before i after splits c state state' step =
    let s : Setting = setting_of x names f in
    let gone : Went s w i.1 state c state' = went s w i.1 state c state' step in
    let leaving : is_leaving (meaning_of i.1.flags i.1.op) ≡ true =
    act_fine x w is_world (meaning_of i.1.flags i.1.op) i.1.mem (map (width_of_place s) (written_places (meaning_of i.1.flags i.1.op) i.1.operands)) gone.arguments (outside_of state) (Leaves c) gone.act in
    let branches : is_branch_op i.1.op ≡ true = sym (leaving_is i.1.flags i.1.op) ∙ leaving in
    let whole : block.instrs ≡ (phis_of block.instrs ++ before) ++ i ∷ after = splits_whole block.instrs before i after splits in
    let own : IsDefinition f r d = inside_of f r extent d g in (
      gone.same,
      target_among f g.orderly.ends b block found (phis_of block.instrs ++ before) i after whole branches c (step_target s w i.1 state (Left c state') step),
      no_terminator_defines f g.orderly d own.inside g.no_terminator r own.defined (i ∷ after) (here_in f b block found before i after splits)
          (ends_behind f g.orderly.ends b block found (phis_of block.instrs ++ before) i after whole (branch_ends i.1.op branches)),
    )

-- ══ Which instruction defines it ══

-- either it is the definition, or it defines none of what that defines
abbrev IsOther : (d i : ℕ × InstrData) → Type 0
IsOther d i = (q : ℕ) → defines q d ≡ true → defines q i ≡ false

shared : (p : ℕ → Bool) (os : List Operand) → list_any p (results_in os) ≡ true → (q : ℕ) × (p q ≡ true) × (list_any (is_def_of q) os ≡ true)
shared p [] h = cc
shared p (operand.Def r kind ∷ os) h =
    ⊎_elim
    (λ here. (r.0, here, or_left (r.0 == r.0) (list_any (is_def_of r.0) os) (eq-eqb r.0 r.0 refl)))
    (λ later. let rest : (q : ℕ) × (p q ≡ true) × (list_any (is_def_of q) os ≡ true) = shared p os later in
    (rest.0, rest.1, or_right (r.0 == rest.0) (list_any (is_def_of rest.0) os) rest.2))
    (or_cases (p r.0) (list_any p (results_in os)) h)
shared p (_ ∷ os) h = shared p os h

unshared : (p : ℕ → Bool) (os : List Operand) → list_any p (results_in os) ≡ false → (q : ℕ) → list_any (is_def_of q) os ≡ true → p q ≡ false
unshared p [] h q inside = cc
unshared p (operand.Def r kind ∷ os) h q inside =
    let each : (p r.0 ≡ false) × (list_any p (results_in os) ≡ false) = or_parts (p r.0) (list_any p (results_in os)) h in
    ⊎_elim (λ here. subst (λ k. p k ≡ false) (eqb-true r.0 q here) each.0) (λ later. unshared p os each.1 q later) (or_cases (r.0 == q) (list_any (is_def_of q) os) inside)
unshared p (_ ∷ os) h q inside = unshared p os h q inside

which : (f : FunctionData) (r : ℕ) (extent : Extent) (d : ℕ × InstrData) → Given f r extent d → (i : ℕ × InstrData) → IsIn i (all_instrs f.blocks) → (d ≡ i) ⊎ IsOther d i
which f r extent d g i there = by (list_any (λ q. defines q i) (results_in d.1.operands)) refl
  where
    by : (t : Bool) → list_any (λ q. defines q i) (results_in d.1.operands) ≡ t → (d ≡ i) ⊎ IsOther d i
    by true so =
        let both : (q : ℕ) × (defines q i ≡ true) × (defines q d ≡ true) = shared (λ q. defines q i) d.1.operands so in
        inl (one_definition both.0 (all_instrs f.blocks) (g.orderly.once both.0) d i (inside_of f r extent d g).inside there both.2 both.1)
    by false so = inr (unshared (λ q. defines q i) d.1.operands so)

-- ══ Where it is available ══

-- what another instruction at once leaves available was so before, and what the register is computed from isn't defined
record Stayed (r : ℕ) (origins : ℕ → Bool) (here : Bool) (is : List (ℕ × InstrData)) : Type 0 where
  before : here ≡ true
  kept : (u : ℕ) → origins u ≡ true → list_any (defines u) is ≡ false

origin_defined : (origins : ℕ → Bool) (u : ℕ) → origins u ≡ true → (os : List Operand) → list_any (is_def_of u) os ≡ true → list_any (is_origin origins) os ≡ true
origin_defined origins u own [] h = cc
origin_defined origins u own (operand.Def r kind ∷ os) h =
    ⊎_elim
    (λ here. or_left (origins r.0) (list_any (is_origin origins) os) (subst (λ k. origins k ≡ true) (sym (eqb-true r.0 u here)) own))
    (λ later. or_right (origins r.0) (list_any (is_origin origins) os) (origin_defined origins u own os later))
    (or_cases (r.0 == u) (list_any (is_def_of u) os) h)
origin_defined origins u own (_ ∷ os) h = origin_defined origins u own os h

none_taken : (origins : ℕ → Bool) (u : ℕ) → origins u ≡ true → (is : List (ℕ × InstrData)) → list_any (defines_origin origins) is ≡ false → list_any (defines u) is ≡ false
none_taken origins u own [] h = refl
none_taken origins u own (i ∷ is) h =
    let each : (defines_origin origins i ≡ false) × (list_any (defines_origin origins) is ≡ false) = or_parts (defines_origin origins i) (list_any (defines_origin origins) is) h in
    or_from (defines u i) (list_any (defines u) is)
    (false_from_ne_true (defines u i) (λ k. true≢false (sym (origin_defined origins u own i.1.operands k) ∙ each.0)))
    (none_taken origins u own is each.1)

stayed : (r : ℕ) (origins : ℕ → Bool) (here : Bool) (is : List (ℕ × InstrData)) → list_any (defines r) is ≡ false → at_once r origins here is ≡ true → Stayed r origins here is
stayed r origins here is other h =
    ⊎_elim
    (λ own. absurd (true≢false (sym own ∙ other)))
    (λ kept.
    let both : (here ≡ true) × (not (list_any (defines_origin origins) is) ≡ true) = and_parts here (not (list_any (defines_origin origins) is)) kept in
    record { before = both.0; kept = λ u own. none_taken origins u own is (not-true (list_any (defines_origin origins) is) both.1) })
    (or_cases (list_any (defines r) is) (here && not (list_any (defines_origin origins) is)) h)

-- what none of some instructions defines, none of the first of them does
none_of_front : (q : ℕ) (front back is : List (ℕ × InstrData)) → is ≡ front ++ back → list_any (defines q) is ≡ false → list_any (defines q) front ≡ false
none_of_front q front back is splits none =
    (or_parts (list_any (defines q) front) (list_any (defines q) back) (sym (list_any-append (defines q) front back) ∙ ap (list_any (defines q)) (sym splits) ∙ none)).0

-- ══ What a pure definition gives ══

-- a pure definition that reads no physical register but x0
record Steady (d : ℕ × InstrData) : Type 0 where
  pure : is_pure d.1 ≡ true
  computing : is_computing (meaning_of d.1.flags d.1.op) ≡ true
  fixed : list_all is_fixed d.1.operands ≡ true
  virtual : list_any is_physical_def d.1.operands ≡ false

steady_of : (d : ℕ × InstrData) → is_steady d.1 ≡ true → Steady d
steady_of d h =
    let i : InstrData = d.1 in
    let first : ((is_pure i && is_computing (meaning_of i.flags i.op)) ≡ true) × (list_all is_fixed i.operands ≡ true) =
    and_parts (is_pure i && is_computing (meaning_of i.flags i.op)) (list_all is_fixed i.operands) h in
    let second : (is_pure i ≡ true) × (is_computing (meaning_of i.flags i.op) ≡ true) = and_parts (is_pure i) (is_computing (meaning_of i.flags i.op)) first.0 in
    record {
      pure = second.0;
      computing = second.1;
      fixed = first.1;
      virtual = (or_parts (list_any is_physical_def i.operands) (list_any is_implicit_def i.operands) (pure_parts i second.0).no_physical).0;
    }

-- a register that its own definition uses has no value
abbrev HasNone : (d : ℕ × InstrData) → State → Type 0
HasNone d state = (q : ℕ) → defines q d ≡ true → uses q d ≡ true → state.values q ≡ None

established : (x : ℕ) (names : List (List ℕ)) (f : FunctionData) (w : World) (r : ℕ) (extent : Extent) (d : ℕ × InstrData) → Given f r extent d → Steady d → (state state' : State) → HasNone d state
    → Ran (setting_of x names f) w d.1 state state' → HoldsDefinition (setting_of x names f) w d.1 state'
established x names f w r extent d g steady state state' none made =
    let s : Setting = setting_of x names f in
    let m : Meaning = meaning_of d.1.flags d.1.op in
    let places : written_places m d.1.operands ≡ map Virtual (results_in d.1.operands) = computed_places m steady.computing d.1.operands steady.virtual in
    let widths : map (width_of_place s) (written_places m d.1.operands) ≡ map s.width (results_in d.1.operands) = ap (map (width_of_place s)) places ∙ virtual_widths s (results_in d.1.operands) in
    record {
      arguments = made.arguments;
      results = made.results;
      read =
          reads_same s w state state' d.1.operands
          (λ u used. step_keeps s w d state state' made u
          (false_from_ne_true (defines u d) (λ own. read_there s w state d.1.operands made.arguments made.read u used (none u own used)))) steady.fixed
          ∙ made.read;
      given = λ any.
          acts_anywhere x w m steady.computing d.1.mem (map s.width (results_in d.1.operands)) made.arguments (outside_of state) made.outside made.results
          (subst (λ l. Act x w m d.1.mem l made.arguments (outside_of state) (Results made.results made.outside)) widths made.act) any;
      held =
          put_held (record state { memory = (made.outside).memory; taken = (made.outside).taken }) (results_in d.1.operands) made.results state'
          (λ q. results_once q (all_instrs f.blocks) (g.orderly.once q) d (inside_of f r extent d g).inside)
          (subst (λ l. put_all (record state { memory = (made.outside).memory; taken = (made.outside).taken }) l made.results ≡ Some state') places made.puts);
    }

-- each result is defined
result_defined : (os : List Operand) (q : ℕ) → list_any (λ r. r == q) (results_in os) ≡ true → list_any (is_def_of q) os ≡ true
result_defined [] q h = cc
result_defined (operand.Def r kind ∷ os) q h =
    ⊎_elim (λ here. or_left (r.0 == q) (list_any (is_def_of q) os) here) (λ later. or_right (r.0 == q) (list_any (is_def_of q) os) (result_defined os q later))
    (or_cases (r.0 == q) (list_any (λ k. k == q) (results_in os)) h)
result_defined (_ ∷ os) q h = result_defined os q h

-- what the registers that it uses and defines hold stays
carried : (s : Setting) (w : World) (d : ℕ × InstrData) → Steady d → (state state' : State) → ((u : ℕ) → uses u d ≡ true → state'.values u ≡ state.values u) → ((q : ℕ) → defines q d ≡ true → state'.values q ≡ state.values q)
    → HoldsDefinition s w d.1 state → HoldsDefinition s w d.1 state'
carried s w d steady state state' used defined holds = record {
  arguments = holds.arguments;
  results = holds.results;
  read = reads_same s w state state' d.1.operands used steady.fixed ∙ holds.read;
  given = holds.given;
  held = held_on state state' (results_in d.1.operands) holds.results (λ q inside. defined q (result_defined d.1.operands q inside)) holds.held;
}

-- what a register is computed from
origin : (f : FunctionData) (r : ℕ) (extent : Extent) (d : ℕ × InstrData) → Given f r extent d → is_pure d.1 ≡ true → (u : ℕ) → uses u d ≡ true → extent.origins u ≡ true
origin f r extent d g pure u used =
    g.contained.computed u (record { others = 0; over = ap (λ found. uses_purely found u) g.definition ∙ and_from (is_pure d.1) (uses u d) pure used })

-- a definition that a run has passed: it is steady, and its registers hold what it gives
record IsPassed (s : Setting) (w : World) (d : ℕ × InstrData) (state : State) : Type 0 where
  steady : Steady d
  holds : HoldsDefinition s w d.1 state

still_passed : (s : Setting) (w : World) (d : ℕ × InstrData) (state state' : State) → ((u : ℕ) → uses u d ≡ true → state'.values u ≡ state.values u) → ((q : ℕ) → defines q d ≡ true → state'.values q ≡ state.values q)
    → IsPassed s w d state → IsPassed s w d state'
still_passed s w d state state' used defined passed = record { steady = passed.steady; holds = carried s w d passed.steady state state' used defined passed.holds }

definition_kept : (x : ℕ) (names : List (List ℕ)) (f : FunctionData) (w : World) → IsWorld x w → (test : InstrData → Bool) (r : ℕ) (extent : Extent) (d : ℕ × InstrData) → Given f r extent d → is_pure d.1 ≡ true
    → (test d.1 ≡ true → is_steady d.1 ≡ true) → Keeps (setting_of x names f) w test f r extent (HasNone d) (IsPassed (setting_of x names f) w d)
definition_kept x names f w is_world test r extent d g pure steady = record {
  starts = λ q own used. refl;
  phis = λ b block found front back splits from entered middle none joins.
      let s : Setting = setting_of x names f in
      let own : IsDefinition f r d = inside_of f r extent d g in
      let other : (q : ℕ) → defines q d ≡ true → list_any (defines q) (phis_of block.instrs) ≡ false = λ q defined.
      no_phi_defines f g.orderly d own.inside g.no_phi q defined block.instrs (λ j there. in_function f.blocks b block found j there) in
      let stays : (q : ℕ) → list_any (defines q) (phis_of block.instrs) ≡ false → middle.values q ≡ entered.values q = λ q others.
      joined_keeps q entered from front middle (none_of_front q front back (phis_of block.instrs) splits others) joins in (
        λ q defined used. stays q (other q defined) ∙ none q defined used,
        λ here holds available.
            let before : Stayed r extent.origins here (phis_of block.instrs) = stayed r extent.origins here (phis_of block.instrs) (other r own.defined) available in
            still_passed s w d entered middle (λ u used. stays u (before.kept u (origin f r extent d g pure u used))) (λ q defined. stays q (other q defined)) (holds before.before),
      );
  step = λ b block found before i after splits passes state state' none step.
      let s : Setting = setting_of x names f in
      let own : IsDefinition f r d = inside_of f r extent d g in
      let made : Ran s w i.1 state state' = ran s w i.1 state state' step in
      ⊎_elim
      (λ same.
      let itself : Ran s w d.1 state state' = subst (λ (k : ℕ × InstrData). Ran s w k.1 state state') (sym same) made in
      let now : Steady d = steady_of d (steady (ap (λ (k : ℕ × InstrData). test k.1) same ∙ passes)) in (
        λ q defined used. absurd (read_there s w state d.1.operands itself.arguments itself.read q used (none q defined used)),
        λ here holds available. record { steady = now; holds = established x names f w r extent d g now state state' none itself },
      ))
      (λ other. (
        λ q defined used. step_keeps s w i state state' made q (other q defined) ∙ none q defined used,
        λ here holds available.
            let stays : Stayed r extent.origins here (i ∷ []) = stayed r extent.origins here (i ∷ []) (or_from (defines r i) false (other r own.defined) refl) available in
            still_passed s w d state state'
            (λ u used. step_keeps s w i state state' made u (or_parts (defines u i) false (stays.kept u (origin f r extent d g pure u used))).0)
            (λ q defined. step_keeps s w i state state' made q (other q defined)) (holds stays.before),
      ))
      (which f r extent d g i (here_in f b block found before i after splits i (inl refl)));
  leaves = λ b block found before i after splits c state state' step. leaves x names f w is_world r extent d g b block found before i after splits c state state' step;
}

-- in runs in which an instruction that fails a test is undefined: what the test says of the definition is known where it was passed
pub passed_definition_holds : (x : ℕ) (names : List (List ℕ)) (f : FunctionData) (w : World) → IsWorld x w → (test : InstrData → Bool) → IsOrderly f → (b : ℕ) (block : BlockData) (before back : List (ℕ × InstrData))
    → slice_get f.blocks b ≡ Some block → after_phis block.instrs ≡ before ++ back → (r : ℕ) (d : ℕ × InstrData) → IsAvailable f b (phis_of block.instrs ++ before) r → definition f r ≡ Some d → is_pure d.1 ≡ true
    → is_terminator_op d.1.op ≡ false → (test d.1 ≡ true → is_steady d.1 ≡ true)
    → (state : State) → IsReached (setting_of x names f) w (map (tested_block test) f.blocks) b (map (tested_pair test) before) state → HoldsDefinition (setting_of x names f) w d.1 state
passed_definition_holds x names f w is_world test orderly b block before back found splits r d available is_definition pure no_terminator steady state reached =
    let g : Given f r available.extent d = record {
      orderly = orderly;
      contained = available.contained;
      definition = is_definition;
      no_phi = joining_is d.1.flags d.1.op ∙ (pure_parts d.1 pure).no_phi;
      no_terminator = no_terminator;
    } in
    (kept_where_reached (setting_of x names f) w test f r available.extent available.contained (HasNone d) (IsPassed (setting_of x names f) w d)
    (definition_kept x names f w is_world test r available.extent d g pure steady) b block found before back splits state reached available.holds).holds

pub definition_holds : (x : ℕ) (names : List (List ℕ)) (f : FunctionData) (w : World) → IsWorld x w → IsOrderly f → (b : ℕ) (block : BlockData) (before back : List (ℕ × InstrData))
    → slice_get f.blocks b ≡ Some block → after_phis block.instrs ≡ before ++ back → (r : ℕ) (d : ℕ × InstrData) → IsAvailable f b (phis_of block.instrs ++ before) r → definition f r ≡ Some d → is_steady d.1 ≡ true
    → (state : State) → IsReached (setting_of x names f) w f.blocks b before state → HoldsDefinition (setting_of x names f) w d.1 state
definition_holds x names f w is_world orderly b block before back found splits r d available is_definition steady state reached =
    let own : Steady d = steady_of d steady in
    passed_definition_holds x names f w is_world untested orderly b block before back found splits r d available is_definition own.pure
    (valued_is_no_terminator d.1 (computing_valued (meaning_of d.1.flags d.1.op) own.computing)) (λ passes. steady)
    state (untested_reached (setting_of x names f) w f.blocks b before state reached)

-- ══ What a zero-extending load gives ══

abbrev BytesIn : State → Type 0
BytesIn state = AreBytes state.memory

loads : (x : ℕ) (names : List (List ℕ)) (f : FunctionData) (w : World) (r : ℕ) (d : ℕ × InstrData) (m : MemOp) → d.1.op ≡ op.GenericZeroExtendLoad → d.1.mem ≡ Some m → defines r d ≡ true
    → (state state' : State) → BytesIn state → Ran (setting_of x names f) w d.1 state state' → HoldsBelow r (width_of x m.ty) state'
loads x names f w r d m opcode memory defined state state' bytes made =
    let s : Setting = setting_of x names f in
    let meaning : meaning_of d.1.flags d.1.op ≡ Loading Zeros = ap (meaning_of d.1.flags) opcode in
    let act : Act x w (Loading Zeros) d.1.mem (map (width_of_place s) (written_places (Loading Zeros) d.1.operands)) made.arguments (outside_of state) (Results made.results made.outside) =
    subst (λ (k : Meaning). Act x w k d.1.mem (map (width_of_place s) (written_places k d.1.operands)) made.arguments (outside_of state) (Results made.results made.outside)) meaning made.act in
    let one : IsBelow (width_of x m.ty) made.results =
    zeros_below x m d.1.mem memory (map (width_of_place s) (places_of d.1.operands)) made.arguments state.memory bytes (outside_of state) made.outside made.results act in
    let puts : put_all (record state { memory = (made.outside).memory; taken = (made.outside).taken }) (places_of d.1.operands) (one.value ∷ []) ≡ Some state' =
    subst (λ l. put_all (record state { memory = (made.outside).memory; taken = (made.outside).taken }) (places_of d.1.operands) l ≡ Some state') one.is
    (subst (λ (k : Meaning). put_all (record state { memory = (made.outside).memory; taken = (made.outside).taken }) (written_places k d.1.operands) made.results ≡ Some state') meaning made.puts) in
    record {
      value = one.value;
      held = put_one r one.value (record state { memory = (made.outside).memory; taken = (made.outside).taken }) (places_of d.1.operands) state' (defined_written r d.1.operands defined) puts;
      below = one.below;
    }

-- a step keeps bytes
bytes_kept : (s : Setting) (w : World) → IsWorld s.x w → (i : InstrData) (state state' : State) → BytesIn state → Ran s w i state state' → BytesIn state'
bytes_kept s w is_world i state state' bytes made =
    subst AreBytes
    (sym (put_all_memory (record state { memory = (made.outside).memory; taken = (made.outside).taken }) (written_places (meaning_of i.flags i.op) i.operands) made.results state' made.puts))
    (act_fine s.x w is_world (meaning_of i.flags i.op) i.mem (map (width_of_place s) (written_places (meaning_of i.flags i.op) i.operands)) made.arguments (outside_of state) (Results made.results made.outside) made.act bytes)

still_below : (r bits : ℕ) (state state' : State) → state'.values r ≡ state.values r → HoldsBelow r bits state → HoldsBelow r bits state'
still_below r bits state state' same holds = record { value = holds.value; held = same ∙ holds.held; below = holds.below }

load_kept : (x : ℕ) (names : List (List ℕ)) (f : FunctionData) (w : World) → IsWorld x w → (test : InstrData → Bool) (r : ℕ) (extent : Extent) (d : ℕ × InstrData) (m : MemOp) → Given f r extent d → d.1.op ≡ op.GenericZeroExtendLoad → d.1.mem ≡ Some m
    → Keeps (setting_of x names f) w test f r extent BytesIn (HoldsBelow r (width_of x m.ty))
load_kept x names f w is_world test r extent d m g opcode memory = record {
  starts = is_world.memory;
  phis = λ b block found front back splits from entered middle bytes joins.
      let own : IsDefinition f r d = inside_of f r extent d g in
      let other : list_any (defines r) (phis_of block.instrs) ≡ false =
      no_phi_defines f g.orderly d own.inside g.no_phi r own.defined block.instrs (λ j there. in_function f.blocks b block found j there) in (
        subst AreBytes (sym (joined_memory entered from front middle joins)) bytes,
        λ here holds available.
            let stays : Stayed r extent.origins here (phis_of block.instrs) = stayed r extent.origins here (phis_of block.instrs) other available in
            still_below r (width_of x m.ty) entered middle (joined_keeps r entered from front middle (none_of_front r front back (phis_of block.instrs) splits other) joins) (holds stays.before),
      );
  step = λ b block found before i after splits passes state state' bytes step.
      let s : Setting = setting_of x names f in
      let own : IsDefinition f r d = inside_of f r extent d g in
      let made : Ran s w i.1 state state' = ran s w i.1 state state' step in (
        bytes_kept s w is_world i.1 state state' bytes made,
        λ here holds available. ⊎_elim
            (λ same. loads x names f w r d m opcode memory own.defined state state' bytes (subst (λ (k : ℕ × InstrData). Ran s w k.1 state state') (sym same) made))
            (λ other.
            let stays : Stayed r extent.origins here (i ∷ []) = stayed r extent.origins here (i ∷ []) (or_from (defines r i) false (other r own.defined) refl) available in
            still_below r (width_of x m.ty) state state' (step_keeps s w i state state' made r (other r own.defined)) (holds stays.before))
            (which f r extent d g i (here_in f b block found before i after splits i (inl refl))),
      );
  leaves = λ b block found before i after splits c state state' step. leaves x names f w is_world r extent d g b block found before i after splits c state state' step;
}

pub passed_load_holds : (x : ℕ) (names : List (List ℕ)) (f : FunctionData) (w : World) → IsWorld x w → (test : InstrData → Bool) → IsOrderly f → (b : ℕ) (block : BlockData) (before back : List (ℕ × InstrData))
    → slice_get f.blocks b ≡ Some block → after_phis block.instrs ≡ before ++ back → (r : ℕ) (d : ℕ × InstrData) → IsAvailable f b (phis_of block.instrs ++ before) r → definition f r ≡ Some d
    → (m : MemOp) → d.1.op ≡ op.GenericZeroExtendLoad → d.1.mem ≡ Some m
    → (state : State) → IsReached (setting_of x names f) w (map (tested_block test) f.blocks) b (map (tested_pair test) before) state → HoldsBelow r (width_of x m.ty) state
passed_load_holds x names f w is_world test orderly b block before back found splits r d available is_definition m opcode memory state reached =
    let g : Given f r available.extent d = record {
      orderly = orderly;
      contained = available.contained;
      definition = is_definition;
      no_phi = ap (λ o. is_joining (meaning_of d.1.flags o)) opcode;
      no_terminator = ap is_terminator_op opcode;
    } in
    kept_where_reached (setting_of x names f) w test f r available.extent available.contained BytesIn (HoldsBelow r (width_of x m.ty))
    (load_kept x names f w is_world test r available.extent d m g opcode memory) b block found before back splits state reached available.holds

pub load_holds : (x : ℕ) (names : List (List ℕ)) (f : FunctionData) (w : World) → IsWorld x w → IsOrderly f → (b : ℕ) (block : BlockData) (before back : List (ℕ × InstrData))
    → slice_get f.blocks b ≡ Some block → after_phis block.instrs ≡ before ++ back → (r : ℕ) (d : ℕ × InstrData) → IsAvailable f b (phis_of block.instrs ++ before) r → definition f r ≡ Some d
    → (m : MemOp) → d.1.op ≡ op.GenericZeroExtendLoad → d.1.mem ≡ Some m
    → (state : State) → IsReached (setting_of x names f) w f.blocks b before state → HoldsBelow r (width_of x m.ty) state
load_holds x names f w is_world orderly b block before back found splits r d available is_definition m opcode memory state reached =
    passed_load_holds x names f w is_world untested orderly b block before back found splits r d available is_definition m opcode memory
    state (untested_reached (setting_of x names f) w f.blocks b before state reached)
