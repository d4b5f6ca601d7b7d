-- Where the legaliser has run, what is written is legal: what is printed as it was read fits its stage, and what is selected has
-- no generic instruction.
use Rattle.std.proofs.Common.{◌≡◌, ℕ, Bool, true, false, not, ◌&&◌, ◌||◌, ◌==◌, List, [], ◌∷◌, ◌++◌, Option, Some, None, map, inl, inr, refl, sym, ap, ap₂, ◌∙◌, if◌then◌else◌, codes}
use Rattle.std.specs.List.{AllByRecursion, AllZip, cons_option, list_all, list_any}
use Rattle.std.proofs.lemmas.Bool.{and_parts, false≢true}
use Rattle.gi_mir.specs.Data.{InstrData, BlockData, FunctionData, ModuleData}
use Rattle.gi_mir.specs.Names.{name_at}
use Rattle.gi_mir.specs.Numbering.{numbered, numbered_module}
use Rattle.gi_mir.specs.Row.{is_generic_op, is_wide_op, standing_of}
use Rattle.gi_mir.specs.Stages.{is_before_selection, is_opcode_of, stands_in}
use Rattle.gi_mir.specs.declared.entry.Standing.{Standing}
use Rattle.gi_mir.specs.declared.entry.Standing.TheVariants as standing
use Rattle.gi_mir.specs.declared.opcode.Opcode.{Opcode}
use Rattle.gi_mir.specs.declared.stage.Stage.{Stage}
use Rattle.gi_mir.specs.declared.stage.Stage.TheVariants as stage
use Rattle.gi_mir.proofs.Words.{generic_by_word}
use Rattle.gi_observe.specs.declared.pass.Pass.{Pass}
use Rattle.gi_observe.specs.declared.pass.Pass.TheVariants.{IrTranslator, PreCombiner, Legalizer, PostCombiner, RegBankSelect, Select}
use Rattle.gi_rules.specs.Fitting.{fits_stage, illegal_in, illegal_in_blocks, illegal_in_instrs, illegal_line, is_defined_in, stands_on}
use Rattle.gi_rules.specs.Legal.{is_legal, is_legal_generic}
use Rattle.gi_spelling.specs.Same as alike
use Rattle.gi_spelling.specs.Spelling.{Spells}
use Rattle.gi_spelling.proofs.OneModule.{spelled_one}
use Rattle.gi_options.specs.Machine.{width_of}
use Rattle.gi_options.specs.Options.{OptionsData}
use Rattle.gi_options.specs.declared.machine.Machine.{Machine}
use Rattle.gi_valid.specs.Typing.{phase_of}
use Rattle.gi_answer.specs.Answers.{IsChecked, IsOutput, IsTextOf}
use Rattle.gi_answer.specs.Keys.{WrongKey, differs, keys_after, wrong_among, wrong_at, wrong_key}
use Rattle.gi_answer.specs.Legality.{illegal_among}
use Rattle.gi_answer.specs.NormalForm.{has_generic}
use Rattle.gi_answer.specs.Promise.{IsLegalized, IsLegalText}
use Rattle.gi_answer.specs.Rows.{is_generic}
use Rattle.gi_answer.specs.Selectable.{IsSelectable, AllSelectable}
use Rattle.gi_answer.specs.Selection.{IsSameInstr, IsSelected}
use Rattle.gi_answer.specs.Unrun.{selects, unbuilt}
use Rattle.gi_answer.specs.Validity.{stage_after}
use Rattle.gi_answer.specs.declared.keys.Keys.{Keys}
use Rattle.gi_answer.proofs.AnswerLemmas.{its_keys, its_selectable, its_target, its_there}
use Rattle.gi_answer.proofs.ClassedRuns.{classed_pairs}
use Rattle.gi_answer.proofs.CompileLaws.{SelectedBlock, selected_block, selected_empty, selected_spelled}
use Rattle.gi_answer.proofs.LegalSames.{numbered_legal, same_legal}
use Rattle.gi_answer.proofs.PrintedLaws.{kept_spelled}
use Rattle.gi_answer.proofs.SelectShapes.{or_false}

-- where a function has the key, no generic instruction is left in it
abbrev IsBare : FunctionData → Type 0
IsBare f = f.legalized ≡ true → has_generic f.blocks ≡ false

-- ══ Such a function is legal ══

module _ (x : ℕ) (f : FunctionData) where
  legal_instr : (i : InstrData) → is_generic_op i.op ≡ false → is_legal_generic x f i ≡ true
  legal_instr i plain = ap (λ (t : Bool). if t then is_legal x f i else true) (sym (generic_by_word i.op) ∙ plain)

  legal_instrs : (is : List (ℕ × InstrData)) → list_any is_generic is ≡ false → list_all (λ i. is_legal_generic x f i.1) is ≡ true
  legal_instrs [] none = refl
  legal_instrs (i ∷ is) none =
      let parts = or_false (is_generic i) (list_any is_generic is) none in
      ap₂ (λ a b. a && b) (legal_instr i.1 parts.0) (legal_instrs is parts.1)

  legal_blocks : (bs : List BlockData) → has_generic bs ≡ false → list_all (λ (b : BlockData). list_all (λ i. is_legal_generic x f i.1) b.instrs) bs ≡ true
  legal_blocks [] none = refl
  legal_blocks (b ∷ bs) none =
      let parts = or_false (list_any is_generic b.instrs) (has_generic bs) none in
      ap₂ (λ a b. a && b) (legal_instrs b.instrs parts.0) (legal_blocks bs parts.1)

  bare_legal : IsBare f → IsLegalized x f
  bare_legal bare = λ key. legal_blocks f.blocks (bare key)

-- ══ Neither the numbers of registers nor what a text doesn't show matter ══

all_legal : (names others : List (List ℕ)) (x : ℕ) (fs gs : List FunctionData) → AllByRecursion (IsLegalized x) fs → AllZip (alike.IsSameFunction names others) (map numbered fs) gs → AllByRecursion (IsLegalized x) gs
all_legal names others x [] [] legal same = tt
all_legal names others x [] (g ∷ gs) legal same = absurd same
all_legal names others x (f ∷ fs) [] legal same = absurd same
all_legal names others x (f ∷ fs) (g ∷ gs) legal same = (
  λ key. same_legal x names others (numbered f) g same.0 ∙ numbered_legal x f ∙ legal.0 (sym (same.0).legalized ∙ key),
  all_legal names others x fs gs legal.1 same.1,
)

-- whatever module the printed text spells
spelled_legal : (x : ℕ) (written : List ℕ) (source : ModuleData) → AllByRecursion (IsLegalized x) source.functions → Spells written (numbered_module source)
    → (m : ModuleData) → Spells written m → AllByRecursion (IsLegalized x) m.functions
spelled_legal x written source legal spells m spells_m =
    all_legal source.names m.names x source.functions m.functions legal (spelled_one written (numbered_module source) m spells spells_m).functions

-- ══ What is selected ══

classed_generic : (is js : List (ℕ × InstrData)) → AllZip IsSameInstr (classed_pairs is) js → list_any is_generic js ≡ list_any is_generic is
classed_generic [] [] same = refl
classed_generic [] (j ∷ js) same = absurd same
classed_generic (i ∷ is) [] same = absurd same
classed_generic (i ∷ is) (j ∷ js) same = ap₂ (λ a b. a || b) (ap (λ (d : InstrData). is_generic_op d.op) same.0) (classed_generic is js same.1)

selected_bare : (f : FunctionData) → IsSelectable f → (g : FunctionData) → IsSelected f g → IsBare g
selected_bare f (inl none) g made = λ key. ap has_generic (selected_empty f g none made).blocks
selected_bare f (inr h) g made = λ key.
    let one : SelectedBlock f h g = selected_block f h g made in
    ap has_generic one.blocks ∙ ap (λ a. a || false) (classed_generic one.came.back one.block.instrs one.instrs ∙ one.came.none)

all_selected_legal : (x : ℕ) (fs gs : List FunctionData) → AllSelectable fs → AllZip IsSelected fs gs → AllByRecursion (IsLegalized x) gs
all_selected_legal x [] [] h made = tt
all_selected_legal x [] (g ∷ gs) h made = absurd made
all_selected_legal x (f ∷ fs) [] h made = absurd made
all_selected_legal x (f ∷ fs) (g ∷ gs) h made = (bare_legal x g (selected_bare f h.0 g made.0), all_selected_legal x fs gs h.1 made.1)

-- ══ What is printed as it was read ══

-- in a stage before the legaliser it hasn't the key
no_first : (t : Bool) (key : List ℕ) (later : Option (List ℕ)) → (if t then Some key else later) ≡ None → t ≡ false
no_first true key later h = cc
no_first false key later h = refl

no_wrong : (name : List ℕ) (key : Option (List ℕ)) (later : Option WrongKey) → wrong_at name key later ≡ None → (key ≡ None) × (later ≡ None)
no_wrong name None later h = (refl, h)
no_wrong name (Some key) later h = cc

unlegalized : (keys : Keys) (f : FunctionData) → keys.legalized ≡ false → wrong_key keys f ≡ None → f.legalized ≡ false
unlegalized keys f unset right = ap (λ t. differs t f.legalized) (sym unset) ∙ no_first (differs keys.legalized f.legalized) (codes "legalized") _ right

unlegalized_all : (x : ℕ) (names : List (List ℕ)) (keys : Keys) (fs : List FunctionData) → keys.legalized ≡ false → wrong_among names keys fs ≡ None → AllByRecursion (IsLegalized x) fs
unlegalized_all x names keys [] unset right = tt
unlegalized_all x names keys (f ∷ fs) unset right =
    let parts = no_wrong (name_at names f.name) (wrong_key keys f) (wrong_among names keys fs) right in
    (λ key. absurd (false≢true (sym (unlegalized keys f unset parts.0) ∙ key)), unlegalized_all x names keys fs unset parts.1)

-- where each instruction of a stage that fits is legal, or none that stands before selection alone
record IsLegalStage (x : ℕ) (stage : Stage) : Type 0 where
  pub legal : (f : FunctionData) (i : InstrData) → fits_stage x stage f i ≡ true → is_legal_generic x f i ≡ true

if_legal : (x : ℕ) (f : FunctionData) (i : InstrData) (t : Bool) → is_legal x f i ≡ true → (if t then is_legal x f i else true) ≡ true
if_legal x f i true legal = legal
if_legal x f i false legal = refl

legalized_legal : (x : ℕ) → IsLegalStage x stage.Legalized
legalized_legal x = record {
  legal = λ f i fit.
      let parts = and_parts (stands_on x stage.Legalized i.op && list_all (is_defined_in stage.Legalized) i.operands) (is_legal x f i) fit in
      if_legal x f i (is_before_selection (standing_of i.op)) parts.1;
}

banked_legal : (x : ℕ) → IsLegalStage x stage.Banked
banked_legal x = record {
  legal = λ f i fit.
      let parts = and_parts (stands_on x stage.Banked i.op && list_all (is_defined_in stage.Banked) i.operands) (is_legal x f i) fit in
      if_legal x f i (is_before_selection (standing_of i.op)) parts.1;
}

none_before : (s : Standing) → stands_in stage.Selected s ≡ true → is_before_selection s ≡ false
none_before standing.Generic h = cc
none_before standing.Target h = refl
none_before standing.Both h = refl

selected_legal : (x : ℕ) → IsLegalStage x stage.Selected
selected_legal x = record {
  legal = λ f i fit.
      let parts = and_parts (stands_on x stage.Selected i.op && list_all (is_defined_in stage.Selected) i.operands) true fit in
      let there = and_parts (stands_on x stage.Selected i.op) (list_all (is_defined_in stage.Selected) i.operands) parts.0 in
      let stands = and_parts (is_opcode_of stage.Selected i.op) (x == 64 || not (is_wide_op i.op)) there.0 in
      ap (λ (t : Bool). if t then is_legal x f i else true) (none_before (standing_of i.op) stands.0);
}

none_joined : (first later : List (ℕ × Opcode)) → first ++ later ≡ [] → (first ≡ []) × (later ≡ [])
none_joined [] later none = (refl, none)
none_joined (line ∷ first) later none = cc

none_added : (line : Option (ℕ × Opcode)) (later : List (ℕ × Opcode)) → cons_option line later ≡ [] → (line ≡ None) × (later ≡ [])
none_added None later none = (refl, none)
none_added (Some line) later none = cc

fit_by : (t : Bool) (line : ℕ × Opcode) → (if t then None else Some line) ≡ None → t ≡ true
fit_by true line none = refl
fit_by false line none = cc

module _ (x : ℕ) (stage : Stage) (known : IsLegalStage x stage) (f : FunctionData) where
  fitting_instrs : (is : List (ℕ × InstrData)) → illegal_in_instrs x stage f is ≡ [] → list_all (λ i. is_legal_generic x f i.1) is ≡ true
  fitting_instrs [] none = refl
  fitting_instrs (i ∷ is) none =
      let parts = none_added (illegal_line x stage f i.1) (illegal_in_instrs x stage f is) none in
      ap₂ (λ a b. a && b) (known.legal f i.1 (fit_by (fits_stage x stage f i.1) (i.1.line, i.1.op) parts.0)) (fitting_instrs is parts.1)

  fitting_blocks : (bs : List BlockData) → illegal_in_blocks x stage f bs ≡ [] → list_all (λ (b : BlockData). list_all (λ i. is_legal_generic x f i.1) b.instrs) bs ≡ true
  fitting_blocks [] none = refl
  fitting_blocks (b ∷ bs) none =
      let parts = none_joined (illegal_in_instrs x stage f b.instrs) (illegal_in_blocks x stage f bs) none in
      ap₂ (λ a b. a && b) (fitting_instrs b.instrs parts.0) (fitting_blocks bs parts.1)

fitting_all : (x : ℕ) (stage : Stage) → IsLegalStage x stage → (fs : List FunctionData) → illegal_among x stage fs ≡ [] → AllByRecursion (IsLegalized x) fs
fitting_all x stage known [] none = tt
fitting_all x stage known (f ∷ fs) none =
    let parts = none_joined (illegal_in x stage f) (illegal_among x stage fs) none in
    (λ key. fitting_blocks x stage known f f.blocks parts.0, fitting_all x stage known fs parts.1)

kept_legal : (x : ℕ) (start : Pass) (names : List (List ℕ)) (fs : List FunctionData) → wrong_among names (keys_after start) fs ≡ None → illegal_among x (stage_after start) fs ≡ [] → AllByRecursion (IsLegalized x) fs
kept_legal x IrTranslator names fs right none = unlegalized_all x names (keys_after IrTranslator) fs refl right
kept_legal x PreCombiner names fs right none = unlegalized_all x names (keys_after PreCombiner) fs refl right
kept_legal x Legalizer names fs right none = fitting_all x stage.Legalized (legalized_legal x) fs none
kept_legal x PostCombiner names fs right none = fitting_all x stage.Legalized (legalized_legal x) fs none
kept_legal x RegBankSelect names fs right none = fitting_all x stage.Banked (banked_legal x) fs none
kept_legal x Select names fs right none = fitting_all x stage.Selected (selected_legal x) fs none

-- ══ Texts ══

text_legal : (options : OptionsData) (read written : List ℕ) (start : Pass) (machine : Machine) (source : ModuleData) → IsChecked options read start machine source
    → unbuilt start options.stop machine source.functions ≡ None → (t : Bool) → selects start options.stop machine ≡ t → IsTextOf t source written
    → (m : ModuleData) → Spells written m → AllByRecursion (IsLegalized (width_of machine)) m.functions
text_legal options read written start machine source passes built true so text =
    let takes : AllSelectable source.functions = its_selectable options read start machine source passes built so in
    spelled_legal (width_of machine) written text.selected (all_selected_legal (width_of machine) source.functions (text.selected).functions takes (text.selects).functions)
    (selected_spelled read written source text.selected passes.reads (its_there options read start machine source passes) takes text.selects text.text)
text_legal options read written start machine source passes built false so text =
    spelled_legal (width_of machine) written source
    (kept_legal (width_of machine) start source.names source.functions (its_keys options read start machine source passes) passes.fits)
    (kept_spelled (width_of machine) read written (phase_of (stage_after start)) source passes.reads passes.valid text)

pub output_legal : (words : List (List ℕ)) (read written : List ℕ) → IsOutput words read written → IsLegalText words read written
output_legal words read written output =
    let a = output.answer in record {
      options = output.options;
      taken = output.taken;
      machine = a.machine;
      target = its_target output.options read a.start a.machine a.source a.passes;
      legal = text_legal output.options read written a.start a.machine a.source a.passes a.built (selects a.start (output.options).stop a.machine) refl a.text;
    }
