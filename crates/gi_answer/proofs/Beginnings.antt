-- Each function of a module that passes the checks is good at the stage behind the start.
use Rattle.std.proofs.Common.{◌≡◌, ◌⊎◌, ℕ, Bool, true, false, cond, List, [], ◌∷◌, Option, Some, None, Result, Ok, Err, slice_get, inl, inr, refl, sym, ap, ◌∙◌, subst}
use Rattle.std.specs.Prelude.{codes}
use Rattle.std.specs.List.{AllByRecursion}
use Rattle.gi_mir.specs.Data.{FunctionData, ModuleData}
use Rattle.gi_mir.specs.Names.{name_at}
use Rattle.gi_observe.specs.declared.pass.Pass.{Pass}
use Rattle.gi_observe.specs.declared.pass.Pass.TheVariants.{IrTranslator, PreCombiner, Legalizer, PostCombiner, RegBankSelect, Select}
use Rattle.gi_options.specs.Machine.{width_of}
use Rattle.gi_options.specs.Options.{OptionsData}
use Rattle.gi_options.specs.declared.machine.Machine.{Machine}
use Rattle.gi_options.specs.declared.machine.Machine.TheVariants.{Riscv32, Riscv64}
use Rattle.gi_rules.specs.Fitting.{illegal_in}
use Rattle.gi_valid.specs.Typing.{Typed, phase_of}
use Rattle.gi_valid.specs.Valid.{IsValid}
use Rattle.gi_valid.proofs.Sited.{nothing_in_either}
use Rattle.gi_rule_refines.specs.Stages.{IsGoodAt, has_banks, phase_at, registers_of}
use Rattle.gi_rule_begins.specs.Checked.{IsCheckedAt}
use Rattle.gi_rule_begins.proofs.Begins.{checked_good}
use Rattle.gi_answer.specs.Answers.{IsChecked}
use Rattle.gi_answer.specs.Checks.{check_of, checked, keyed, sized, target_of}
use Rattle.gi_answer.specs.Keys.{WrongKey, differs, keys_after, wrong_among, wrong_at, wrong_in, wrong_key}
use Rattle.gi_answer.specs.Legality.{illegal_among}
use Rattle.gi_answer.specs.RuleStages.{rule_stage_after}
use Rattle.gi_answer.specs.Validity.{AreValid, stage_after}
use Rattle.gi_answer.specs.declared.keys.Keys.{Keys}

-- ══ The stage ══

registers_same : (start : Pass) → registers_of (rule_stage_after start) ≡ stage_after start
registers_same IrTranslator = refl
registers_same PreCombiner = refl
registers_same Legalizer = refl
registers_same PostCombiner = refl
registers_same RegBankSelect = refl
registers_same Select = refl

phase_same : (start : Pass) → phase_at (rule_stage_after start) ≡ phase_of (stage_after start)
phase_same IrTranslator = refl
phase_same PreCombiner = refl
phase_same Legalizer = refl
phase_same PostCombiner = refl
phase_same RegBankSelect = refl
phase_same Select = refl

banks_same : (start : Pass) → phase_at (rule_stage_after start) ≡ Typed → (keys_after start).banked ≡ has_banks (rule_stage_after start)
banks_same IrTranslator phase = refl
banks_same PreCombiner phase = refl
banks_same Legalizer phase = refl
banks_same PostCombiner phase = refl
banks_same RegBankSelect phase = refl
banks_same Select phase = cc

word : (machine : Machine) → (width_of machine ≡ 32) ⊎ (width_of machine ≡ 64)
word Riscv32 = inl refl
word Riscv64 = inr refl

-- ══ Keys ══

not_wrong : (wrong : Option WrongKey) (machine found : Machine) → keyed wrong machine ≡ Ok found → wrong ≡ None
not_wrong None machine found h = refl
not_wrong (Some wrong) machine found h = cc

keys_right : (start : Pass) (m : ModuleData) (target : Result Machine (List ℕ)) (found : Machine) → checked start m target ≡ Ok found → wrong_in start m ≡ None
keys_right start m (Ok machine) found h = not_wrong (wrong_in start m) machine found h
keys_right start m (Err message) found h = cc

sizes_right : (start : Pass) (m : ModuleData) (head : Result Machine (List ℕ)) (found : Machine) → sized m head ≡ Ok found → (machine : Machine) × (head ≡ Ok machine)
sizes_right start m (Ok machine) found h = (machine, refl)
sizes_right start m (Err message) found h = cc

none_wrong : (target : Option Machine) (start : Pass) (read : List ℕ) (m : ModuleData) (found : Machine) → check_of target start read m ≡ Ok found → wrong_in start m ≡ None
none_wrong target start read m found h = let head = sizes_right start m (checked start m (target_of target read m)) found h in keys_right start m (target_of target read m) head.0 head.1

same_key : (has is : Bool) → differs has is ≡ false → is ≡ has
same_key true true h = refl
same_key true false h = cc
same_key false false h = refl
same_key false true h = cc

second_false : (a b : List ℕ) (rest : Option (List ℕ)) (first second : Bool) → cond first (Some a) (cond second (Some b) rest) ≡ None → second ≡ false
second_false a b rest true second h = cc
second_false a b rest false true h = cc
second_false a b rest false false h = refl

banked_right : (keys : Keys) (f : FunctionData) → wrong_key keys f ≡ None → f.banked ≡ keys.banked
banked_right keys f h =
    same_key keys.banked f.banked
    (second_false (codes "legalized") (codes "regBankSelected") (cond (differs keys.selected f.selected) (Some (codes "selected")) None) (differs keys.legalized f.legalized) (differs keys.banked f.banked) h)

-- ══ Each function ══

none_at : (name : List ℕ) (here : Option (List ℕ)) (later : Option WrongKey) → wrong_at name here later ≡ None → (here ≡ None) × (later ≡ None)
none_at name None later h = (refl, h)
none_at name (Some key) later h = cc

each_checked : (x : ℕ) (start : Pass) (names : List (List ℕ)) (fs : List FunctionData) → phase_at (rule_stage_after start) ≡ Typed → AreValid x (phase_of (stage_after start)) fs → illegal_among x (stage_after start) fs ≡ []
    → wrong_among names (keys_after start) fs ≡ None → AllByRecursion (IsCheckedAt x (rule_stage_after start)) fs
each_checked x start names [] phase valid legal keys = tt
each_checked x start names (f ∷ fs) phase valid legal keys =
    let parts = nothing_in_either (illegal_in x (stage_after start) f) (illegal_among x (stage_after start) fs) legal in
    let wrong = none_at (name_at names f.name) (wrong_key (keys_after start) f) (wrong_among names (keys_after start) fs) keys in (
      record {
        valid = subst (λ q. IsValid x q f) (sym (phase_same start) ∙ phase) valid.0;
        fits = ap (λ s. illegal_in x s f) (registers_same start) ∙ parts.0;
        banked = banked_right (keys_after start) f wrong.0 ∙ banks_same start phase;
      },
      each_checked x start names fs phase valid.1 parts.1 wrong.1,
    )

pub passing_good : (options : OptionsData) (read : List ℕ) (start : Pass) (machine : Machine) (m : ModuleData) (names : List (List ℕ)) (place : ℕ) (f : FunctionData) → IsChecked options read start machine m → phase_at (rule_stage_after start) ≡ Typed
    → slice_get m.functions place ≡ Some f → IsGoodAt (width_of machine) (rule_stage_after start) names f
passing_good options read start machine m names place f passes phase there =
    checked_good (width_of machine) (rule_stage_after start) names read m place f (word machine) phase passes.reads
    (record { each = each_checked (width_of machine) start m.names m.functions phase passes.valid passes.fits (none_wrong options.target start read m machine passes.right) }) there
