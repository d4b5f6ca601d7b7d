-- The keys that a function has after each pass, and the first that differs.
--     after                                        legalized  regBankSelected  selected
--     irtranslator, riscv-prelegalizer-combiner    false      false            false
--     legalizer, riscv-postlegalizer-combiner      true       false            false
--     regbankselect                                true       true             false
--     instruction-select                           true       true             true
-- (LLVM's MachineFunctionProperties: Legalized, RegBankSelected, Selected.)
use Rattle.std.specs.Prelude.{ℕ, Bool, true, false, not, List, [], ◌∷◌, Option, Some, None, if◌then◌else◌, codes}
use Rattle.gi_mir.specs.Data.{FunctionData, ModuleData}
use Rattle.gi_mir.specs.Names.{name_at}
use Rattle.gi_observe.specs.declared.pass.Pass.{Pass}
use Rattle.gi_observe.specs.declared.pass.Pass.TheVariants.{IrTranslator, PreCombiner, Legalizer, PostCombiner, RegBankSelect, Select}
use Rattle.gi_answer.specs.declared.keys.Keys.{Keys}

abbrev pub keys_after : Pass → Keys
keys_after IrTranslator = record { legalized = false; banked = false; selected = false }
keys_after PreCombiner = record { legalized = false; banked = false; selected = false }
keys_after Legalizer = record { legalized = true; banked = false; selected = false }
keys_after PostCombiner = record { legalized = true; banked = false; selected = false }
keys_after RegBankSelect = record { legalized = true; banked = true; selected = false }
keys_after Select = record { legalized = true; banked = true; selected = true }

abbrev pub differs : Bool → Bool → Bool
differs true has = not has
differs false has = has

-- the first key of a function that differs
abbrev pub wrong_key : Keys → FunctionData → Option (List ℕ)
wrong_key keys f =
    if differs keys.legalized f.legalized then Some (codes "legalized")
    else if differs keys.banked f.banked then Some (codes "regBankSelected")
    else if differs keys.selected f.selected then Some (codes "selected")
    else None

-- the name of a function, and its key that differs
pub record WrongKey : Type 0 where
  pub name : List ℕ
  pub key : List ℕ

abbrev pub wrong_at : (name : List ℕ) → Option (List ℕ) → (later : Option WrongKey) → Option WrongKey
wrong_at name None later = later
wrong_at name (Some key) later = Some (record { name = name; key = key })

-- the first function of several with a key that differs
abbrev pub wrong_among : (names : List (List ℕ)) → Keys → List FunctionData → Option WrongKey
wrong_among names keys [] = None
wrong_among names keys (f ∷ functions) = wrong_at (name_at names f.name) (wrong_key keys f) (wrong_among names keys functions)

abbrev pub wrong_in : Pass → ModuleData → Option WrongKey
wrong_in start m = wrong_among m.names (keys_after start) m.functions
