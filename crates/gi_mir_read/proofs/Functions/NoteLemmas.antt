-- The kinds that are kept, and the types that are shown.
use Rattle.std.proofs.Common.{◌≡◌, ℕ, Bool, true, false, cond, List, [], ◌∷◌, ◌++◌, Option, Some, None, refl, sym, ap, ◌∙◌, append_assoc, map, arith}
use Rattle.std.specs.Prelude.{filter_map, find, fold, is_some, nat_eq, ◌==◌, option_map}
use Rattle.std.specs.List.{cons_option}
use Rattle.std.specs.Map.{lookup}
use Rattle.std.proofs.lemmas.Bool.{eqb-true}
use Rattle.std.proofs.lemmas.Bool.Decides.{nat_tests}
use Rattle.std.proofs.lemmas.List.{append-nil}
use Rattle.gi_mir.specs.declared.operand.Kind.{Kind}
use Rattle.gi_mir.specs.declared.operand.Operand.{Operand}
use Rattle.gi_mir.specs.declared.operand.Operand.TheVariants as operand
use Rattle.gi_mir.specs.declared.operand.Reg.{Reg}
use Rattle.gi_registers.specs.Noted.{with_kind, with_operand}
use Rattle.gi_spelling.specs.declared.written.Shown.{Shown}
use Rattle.gi_spelling.specs.declared.written.Source.{Source}
use Rattle.gi_spelling.specs.declared.written.Source.TheVariants as source
use Rattle.gi_spelling.specs.declared.written.Wrong.{Wrong}
use Rattle.gi_spelling.specs.Blocks.{defined_kind, first_kind, shown_at, shown_wrong, typed_use}
use Rattle.gi_spelling.specs.Documents.{lower}
use Rattle.gi_mir_read.specs.Functions.Noted.{with_shown, with_source}

-- a kind by a look-up
pub kind-lookup : (kinds : List (ℕ × Kind)) (reg : Reg) → lookup (nat_eq reg.0) kinds ≡ first_kind kinds reg
kind-lookup [] reg = refl
kind-lookup (entry ∷ kinds) reg = chosen (kind-lookup kinds reg) (nat_eq reg.0 entry.0) refl (nat_eq entry.0 reg.0) refl
  where
    chosen : lookup (nat_eq reg.0) kinds ≡ first_kind kinds reg → (a : Bool) → nat_eq reg.0 entry.0 ≡ a → (b : Bool) → nat_eq entry.0 reg.0 ≡ b
        → cond a (Some entry.1) (lookup (nat_eq reg.0) kinds) ≡ option_map (λ e. e.1) (cond b (Some entry) (find (λ e. e.0 == reg.0) kinds))
    chosen later true is_a true is_b = refl
    chosen later true is_a false is_b = absurd (let no : ⊥ = grind (arith, nat_tests) in no)
    chosen later false is_a true is_b = absurd (let no : ⊥ = grind (arith, nat_tests) in no)
    chosen later false is_a false is_b = later

-- what is kept is what is defined first
module _ (reg : Reg) where
  before-kinds : (kinds more : List (ℕ × Kind)) → is_some (first_kind kinds reg) ≡ true → first_kind (kinds ++ more) reg ≡ first_kind kinds reg
  before-kinds [] more found = cc
  before-kinds (entry ∷ kinds) more found = chosen (entry.0 == reg.0) found (before-kinds kinds more)
    where
      chosen : (test : Bool) → is_some (option_map (λ e. e.1) (cond test (Some entry) (find (λ e. e.0 == reg.0) kinds))) ≡ true
          → (is_some (first_kind kinds reg) ≡ true → first_kind (kinds ++ more) reg ≡ first_kind kinds reg)
          → option_map (λ e. e.1) (cond test (Some entry) (find (λ e. e.0 == reg.0) (kinds ++ more))) ≡ option_map (λ e. e.1) (cond test (Some entry) (find (λ e. e.0 == reg.0) kinds))
      chosen true found later = refl
      chosen false found later = later found

  behind-kinds : (kinds more other : List (ℕ × Kind)) → first_kind more reg ≡ first_kind other reg → first_kind (kinds ++ more) reg ≡ first_kind (kinds ++ other) reg
  behind-kinds [] more other same = same
  behind-kinds (entry ∷ kinds) more other same = chosen (entry.0 == reg.0) (behind-kinds kinds more other same)
    where
      chosen : (test : Bool) → first_kind (kinds ++ more) reg ≡ first_kind (kinds ++ other) reg
          → option_map (λ e. e.1) (cond test (Some entry) (find (λ e. e.0 == reg.0) (kinds ++ more))) ≡ option_map (λ e. e.1) (cond test (Some entry) (find (λ e. e.0 == reg.0) (kinds ++ other)))
      chosen true later = refl
      chosen false later = later

  -- one of a register that has one already
  again-kinds : (kinds more : List (ℕ × Kind)) (number : ℕ) (kind : Kind) → is_some (lookup (nat_eq number) kinds) ≡ true → first_kind (kinds ++ more) reg ≡ first_kind (kinds ++ (number, kind) ∷ more) reg
  again-kinds kinds more number kind has = chosen (number == reg.0) refl
    where
      there : number ≡ reg.0 → is_some (first_kind kinds reg) ≡ true
      there same = ap is_some (sym (ap (λ n. lookup (nat_eq n) kinds) same ∙ kind-lookup kinds reg)) ∙ has

      chosen : (test : Bool) → (number == reg.0) ≡ test → first_kind (kinds ++ more) reg ≡ first_kind (kinds ++ (number, kind) ∷ more) reg
      chosen true is =
          let found : is_some (first_kind kinds reg) ≡ true = there (eqb-true number reg.0 is) in
          before-kinds kinds more found ∙ sym (before-kinds kinds ((number, kind) ∷ more) found)
      chosen false is = behind-kinds kinds more ((number, kind) ∷ more) (rw is refl)

  one-kept : (kinds more : List (ℕ × Kind)) (number : ℕ) (kind : Kind) → first_kind (with_kind kinds number kind ++ more) reg ≡ first_kind (kinds ++ (number, kind) ∷ more) reg
  one-kept kinds more number kind = chosen (is_some (lookup (nat_eq number) kinds)) refl
    where
      chosen : (test : Bool) → is_some (lookup (nat_eq number) kinds) ≡ test
          → first_kind (cond test kinds (kinds ++ (number, kind) ∷ []) ++ more) reg ≡ first_kind (kinds ++ (number, kind) ∷ more) reg
      chosen true has = again-kinds kinds more number kind has
      chosen false none = ap (λ entries. first_kind entries reg) (append_assoc kinds ((number, kind) ∷ []) more)

  operand-kept : (kinds more : List (ℕ × Kind)) (x : Operand) → first_kind (with_operand kinds x ++ more) reg ≡ first_kind (kinds ++ cons_option (defined_kind x) more) reg
  operand-kept kinds more (operand.Def r kind) = one-kept kinds more r.0 kind
  operand-kept kinds more _ = refl

  pub operands-kept : (kinds more : List (ℕ × Kind)) (operands : List Operand)
      → first_kind (fold with_operand kinds operands ++ more) reg ≡ first_kind (kinds ++ (filter_map defined_kind operands ++ more)) reg
  operands-kept kinds more [] = refl
  operands-kept kinds more (x ∷ operands) =
      operands-kept (with_operand kinds x) more operands ∙ operand-kept kinds (filter_map defined_kind operands ++ more) x
      ∙ ap (λ entries. first_kind (kinds ++ entries) reg) (onto-append (defined_kind x) (filter_map defined_kind operands) more)
    where
      onto-append : (first : Option (ℕ × Kind)) (xs ys : List (ℕ × Kind)) → cons_option first (xs ++ ys) ≡ cons_option first xs ++ ys
      onto-append None xs ys = refl
      onto-append (Some y) xs ys = refl

-- the types that are shown, in order
pub sources-kept : (line : ℕ) (shown : List Shown) (sources : List Source) → fold (with_source line) shown sources ≡ shown ++ map (shown_at line) (filter_map typed_use sources)
sources-kept line shown [] = sym (append-nil shown)
sources-kept line shown (x ∷ sources) = sources-kept line (with_source line shown x) sources ∙ one x
  where
    one : (y : Source) → with_source line shown y ++ map (shown_at line) (filter_map typed_use sources) ≡ shown ++ map (shown_at line) (cons_option (typed_use y) (filter_map typed_use sources))
    one (source.TypedUse reg ty) = append_assoc shown (record { line = line; reg = reg; ty = ty } ∷ []) (map (shown_at line) (filter_map typed_use sources))
    one _ = refl

-- what is wrong with what is shown
pub shown-wrongs : (kinds : List (ℕ × Kind)) (lowest : Option Wrong) (shown : List Shown) → fold (with_shown kinds) lowest shown ≡ fold lower lowest (filter_map (shown_wrong kinds) shown)
shown-wrongs kinds lowest [] = refl
shown-wrongs kinds lowest (first ∷ shown) = shown-wrongs kinds (with_shown kinds lowest first) shown ∙ one (shown_wrong kinds first)
  where
    one : (found : Option Wrong) → fold lower (fold lower lowest (cons_option found [])) (filter_map (shown_wrong kinds) shown) ≡ fold lower lowest (cons_option found (filter_map (shown_wrong kinds) shown))
    one None = refl
    one (Some w) = refl
