-- What is printed reads back, and is printed with the same bytes again.
use Rattle.std.proofs.Common.{◌≡◌, List, [], ◌∷◌, map, refl, sym, ap, ap₂, ◌∙◌, subst}
use Rattle.gi_mir.specs.Data.{FunctionData, ModuleData}
use Rattle.gi_mir.specs.Numbering.{numbered, numbered_module}
use Rattle.gi_spelling.specs.Printable.{IsPrintableModule}
use Rattle.gi_spelling.specs.Printed.{printed}
use Rattle.gi_spelling.specs.Same.{IsSameModule}
use Rattle.gi_spelling.specs.Spelled.{IsSpelled}
use Rattle.gi_spelling.specs.Spelling.{Spells}
use Rattle.gi_spelling.specs.There.{NamesBlocksThatAreThere}
use Rattle.gi_spelling.proofs.NumberedAgain.{numbered_again}
use Rattle.gi_spelling.proofs.NumberedPrintable.{numbered_printable}
use Rattle.gi_spelling.proofs.NumberedSame.{numbered_same}
use Rattle.gi_spelling.proofs.OneModule.{spelled_one}
use Rattle.gi_spelling.proofs.SamePrintable.{same_printable}
use Rattle.gi_spelling.proofs.SamePrints.{printed_alike}
use Rattle.gi_spelling.proofs.SpelledPrintable.{spelled_printable}
use Rattle.gi_spelling.proofs.ThereSame.{there_too}

all_again : (fs : List FunctionData) → map numbered (map numbered fs) ≡ map numbered fs
all_again [] = refl
all_again (f ∷ fs) = ap₂ (λ first more. first ∷ more) (numbered_again f) (all_again fs)

pub module_again : (m : ModuleData) → numbered_module (numbered_module m) ≡ numbered_module m
module_again m = ap (λ fs. record m { functions = fs }) (all_again m.functions)

-- what some text spells is printable once its registers are numbered
pub some_printable : (m : ModuleData) → IsSpelled m → NamesBlocksThatAreThere m → IsPrintableModule (numbered_module m)
some_printable m spelled there =
    let own = spelled_printable spelled.text spelled.spelled_module spelled.spells (there_too m spelled.spelled_module spelled.same there) in
    same_printable (numbered_module spelled.spelled_module) (numbered_module m) spelled.same (numbered_printable spelled.spelled_module own)

-- what is the same as a numbered module is printed with the same bytes
pub printed_again : (m n : ModuleData) → IsSameModule (numbered_module m) n → printed (numbered_module n) ≡ printed (numbered_module m)
printed_again m n same =
    sym (printed_alike (numbered_module (numbered_module m)) (numbered_module n) (numbered_same (numbered_module m) n same)) ∙ ap printed (module_again m)

-- from here on by what a printed text spells
module _ (printed_spells : (m : ModuleData) → IsPrintableModule m → Spells (printed m) m) where
  pub numbered_spells : (m : ModuleData) → IsPrintableModule m → Spells (printed (numbered_module m)) (numbered_module m)
  numbered_spells m printable = printed_spells (numbered_module m) (numbered_printable m printable)

  pub reads_back : (m n : ModuleData) → IsPrintableModule m → Spells (printed (numbered_module m)) n → IsSameModule (numbered_module m) n
  reads_back m n printable spells = spelled_one (printed (numbered_module m)) (numbered_module m) n (numbered_spells m printable) spells

  pub prints_again : (m n : ModuleData) → IsPrintableModule m → Spells (printed (numbered_module m)) n → printed (numbered_module n) ≡ printed (numbered_module m)
  prints_again m n printable spells = printed_again m n (reads_back m n printable spells)

  pub told_apart : (m n : ModuleData) → IsPrintableModule m → IsPrintableModule n → printed m ≡ printed n → IsSameModule m n
  told_apart m n first second same =
      spelled_one (printed m) m n (printed_spells m first) (subst (λ text. Spells text n) (sym same) (printed_spells n second))

  pub some_spells : (m : ModuleData) → IsSpelled m → NamesBlocksThatAreThere m → Spells (printed (numbered_module m)) (numbered_module m)
  some_spells m spelled there = printed_spells (numbered_module m) (some_printable m spelled there)

  pub some_read : (m n : ModuleData) → IsSpelled m → NamesBlocksThatAreThere m → Spells (printed (numbered_module m)) n → IsSameModule (numbered_module m) n
  some_read m n spelled there spells = spelled_one (printed (numbered_module m)) (numbered_module m) n (some_spells m spelled there) spells

  pub some_again : (m n : ModuleData) → IsSpelled m → NamesBlocksThatAreThere m → Spells (printed (numbered_module m)) n → printed (numbered_module n) ≡ printed (numbered_module m)
  some_again m n spelled there spells = printed_again m n (some_read m n spelled there spells)
