-- Addresses of globals are selected.
use Rattle.std.proofs.Common.{◌≡◌, ℕ, ◌⊎◌, List, [], ◌∷◌, ◌++◌, Option, Some, None, refl, ap₂, ◌∙◌, subst}
use Rattle.gi_mir.specs.Data.{no_flags}
use Rattle.gi_mir.specs.declared.opcode.Opcode.TheVariants as op
use Rattle.gi_mir.specs.declared.operand.Flags.{Flags}
use Rattle.gi_mir.specs.declared.operand.SymbolFlag.{SymbolFlag}
use Rattle.gi_mir.specs.declared.operand.SymbolFlag.TheVariants.{Hi, Lo}
use Rattle.gi_meaning.specs.Argument.{Argument, Value, Symbol}
use Rattle.gi_meaning.specs.Given.{Given, one}
use Rattle.gi_meaning.specs.Generic.{symbol_address}
use Rattle.gi_meaning.specs.Machine.{load_upper, add_immediate}
use Rattle.gi_meaning.specs.Meaning.{Machine}
use Rattle.gi_meaning.specs.State.{World, Outside, IsWorld}
use Rattle.gi_meaning.specs.Act.{Answer, Act, AnswersWords}
use Rattle.gi_refine.specs.Values.{Environment, At, Fixed, Operation, Makes, Then, answered, IsSound}
use Rattle.gi_refine.proofs.Basics.{whole_fitted}
use Rattle.gi_refine.proofs.RuleSteps.{whole_word, words_exactly}
use Rattle.gi_riscv.specs.Addresses.{AddressIsMade}
use Rattle.gi_riscv.specs.SelectionRules.{global_address}
use Rattle.gi_riscv.proofs.Addresses.{global_made}
use Rattle.gi_riscv.proofs.MachineSteps.{may_make}

-- on a part of a symbol's address
symbol_step : (x : ℕ) (w : World) (outside : Outside) (gives : ℕ → List Argument → Given) (flag : SymbolFlag) (name : List ℕ) (address word : ℕ) (env : Environment) (rest : Environment → Option Environment → Type 0) (made : Option Environment) (answer : Answer)
    → gives x (Symbol flag name address ∷ []) ≡ one word
    → Act x w (Machine gives) None (x ∷ []) (Symbol flag name address ∷ []) outside answer → Then (answered env (x ∷ []) answer) rest made → rest (env ++ (x, word) ∷ []) made
symbol_step x w outside gives flag name address word env rest made answer is act more =
    let are : act.0 ≡ Symbol flag name address ∷ [] = act.1.4 ∙ ap₂ (λ p q. p ∷ q) act.1.2 act.1.3 in
    let given : AnswersWords x (x ∷ []) (one word) outside answer =
    subst (λ g. AnswersWords x (x ∷ []) g outside answer) is (subst (λ ws. AnswersWords x (x ∷ []) (gives x ws) outside answer) are act.2) in
    subst (λ r. rest (env ++ (x, r) ∷ []) made) (whole_fitted x word) (words_exactly x (x ∷ []) (word ∷ []) outside answer env rest made given more)

-- on a word and a part of a symbol's address
word_symbol_step : (x : ℕ) (w : World) (outside : Outside) (gives : ℕ → List Argument → Given) (a : ℕ) (flag : SymbolFlag) (name : List ℕ) (address word : ℕ) (env : Environment) (rest : Environment → Option Environment → Type 0) (made : Option Environment) (answer : Answer)
    → gives x (Value x a ∷ Symbol flag name address ∷ []) ≡ one word
    → Act x w (Machine gives) None (x ∷ []) (Value x a ∷ Symbol flag name address ∷ []) outside answer → Then (answered env (x ∷ []) answer) rest made → rest (env ++ (x, word) ∷ []) made
word_symbol_step x w outside gives a flag name address word env rest made answer is act more =
    let left : act.1.0 ≡ Value x a = whole_word x a act.1.0 act.1.2 in
    let are : act.0 ≡ Value x a ∷ Symbol flag name address ∷ [] = act.1.4 ∙ ap₂ (λ p q. p ∷ q) left (act.1.3.4 ∙ ap₂ (λ p q. p ∷ q) act.1.3.2 act.1.3.3) in
    let given : AnswersWords x (x ∷ []) (one word) outside answer =
    subst (λ g. AnswersWords x (x ∷ []) g outside answer) is (subst (λ ws. AnswersWords x (x ∷ []) (gives x ws) outside answer) are act.2) in
    subst (λ r. rest (env ++ (x, r) ∷ []) made) (whole_fitted x word) (words_exactly x (x ∷ []) (word ∷ []) outside answer env rest made given more)

made_sound : (x : ℕ) (w : World) (flags : Flags) (flag : SymbolFlag) (name : List ℕ) (address : ℕ) → AddressIsMade no_flags x name address → IsSound x w (global_address x flags flag name address)
made_sound x w flags flag name address is_made = record {
  by = λ outside facts made makes.
      let second : Operation = record { op = op.AddImmediate; flags = no_flags; slots = At 0 ∷ Fixed (Symbol Lo name address) ∷ []; mem = None; widths = x ∷ [] } in
      let first : Operation = record { op = op.LoadUpperImmediate; flags = no_flags; slots = Fixed (Symbol Hi name address) ∷ []; mem = None; widths = x ∷ [] } in
      let upper : ℕ = is_made.0 in
      let more : Makes x w outside (second ∷ []) ((x, upper) ∷ []) made =
      symbol_step x w outside load_upper Hi name address upper [] (Makes x w outside (second ∷ [])) made makes.0 is_made.1 makes.1 makes.2 in
      let is : made ≡ Some ((x, upper) ∷ (x, address) ∷ []) =
      word_symbol_step x w outside add_immediate upper Lo name address address ((x, upper) ∷ []) (Makes x w outside []) made more.0 is_made.2 more.1 more.2 in
      may_make x w outside [] [] op.GenericGlobalValue flags (Fixed (Symbol flag name address) ∷ []) (first ∷ second ∷ []) 0 1 x address [] ((x, upper) ∷ (x, address) ∷ [])
      symbol_address (Symbol flag name address ∷ []) made refl refl refl refl is;
}

pub global_address_sound : (x : ℕ) (w : World) (flags : Flags) (flag : SymbolFlag) (name : List ℕ) → (x ≡ 32) ⊎ (x ≡ 64) → IsWorld x w → IsSound x w (global_address x flags flag name (w.global name))
global_address_sound x w flags flag name width is_world = made_sound x w flags flag name (w.global name) (global_made no_flags x name w width is_world)
