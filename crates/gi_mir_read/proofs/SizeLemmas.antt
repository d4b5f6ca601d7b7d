-- The lowest fault over lists, and the kinds of a function's registers.
use mathlib.Core.Path.{fun_ext}
use Rattle.std.proofs.Common.{◌≡◌, ℕ, List, ◌++◌, Option, unwrap_or, ap, ◌∙◌}
use Rattle.std.proofs.lemmas.List.Sums.{fold-append}
use Rattle.gi_mir.specs.Data.{FunctionData}
use Rattle.gi_mir.specs.Registers.{kind_in_blocks, kind_of}
use Rattle.gi_mir.specs.declared.operand.Kind.{Kind}
use Rattle.gi_mir.specs.declared.operand.Kind.TheVariants.{Class}
use Rattle.gi_registers.specs.Noted.{kind_noted, kind_or_class}
use Rattle.gi_mir_read.specs.declared.sizes.Fault.{Fault}
use Rattle.gi_mir_read.specs.Sizes.{sooner_fault, lowest_after}

pub lowest_of_two : (lowest : Option Fault) (a b : List Fault) → lowest_after lowest (a ++ b) ≡ lowest_after (lowest_after lowest a) b
lowest_of_two lowest a b = fold-append sooner_fault lowest a b

pub lowest_of_three : (lowest : Option Fault) (a b c : List Fault) → lowest_after lowest (a ++ (b ++ c)) ≡ lowest_after (lowest_after (lowest_after lowest a) b) c
lowest_of_three lowest a b c = lowest_of_two lowest a (b ++ c) ∙ lowest_of_two (lowest_after lowest a) b c

-- a table of all first definitions tells the kinds of the function
pub kinds_same : (kinds : List (ℕ × Kind)) (f : FunctionData) → ((reg : ℕ) → kind_noted kinds reg ≡ kind_in_blocks reg f.blocks) → kind_or_class kinds ≡ kind_of f
kinds_same kinds f is = fun_ext (λ reg. ap (λ kind. unwrap_or kind Class) (is reg))
