-- A text of a module that is printed as it was read keeps the promise.
use Rattle.std.proofs.Common.{◌≡◌, ℕ, List, [], ◌∷◌, map, inl, refl, sym, subst}
use Rattle.std.specs.List.{AllZip}
use Rattle.gi_mir.specs.Data.{FunctionData, ModuleData}
use Rattle.gi_mir.specs.Numbering.{order_of, number_in, numbered, numbered_module}
use Rattle.gi_mir.proofs.NumberingLaws.{number_in_apart}
use Rattle.gi_meaning.proofs.Renaming.{runs_renamed}
use Rattle.gi_valid.specs.Typing.{Phase}
use Rattle.gi_spelling.specs.Printable.{IsPrintableModule}
use Rattle.gi_spelling.specs.Printed.{printed}
use Rattle.gi_spelling.specs.Read.{IsReadModule}
use Rattle.gi_spelling.specs.Spelling.{Spells}
use Rattle.gi_spelling.proofs.NumberedPrintable.{numbered_printable}
use Rattle.gi_spelling.proofs.PrintedTexts.{printed_spells}
use Rattle.gi_spelling.proofs.ReadSpells.{read_spelled}
use Rattle.gi_spelling.proofs.SpelledPrintable.{spelled_printable}
use Rattle.gi_answer.specs.Promise.{Refines, Compiles}
use Rattle.gi_answer.specs.Validity.{AreValid}
use Rattle.gi_answer.proofs.ValidBlocks.{all_there}

-- the numbers of registers don't matter to a run
numbered_refine : (x : ℕ) (names : List (List ℕ)) (functions : List FunctionData) → AllZip (Refines x names names) functions (map numbered functions)
numbered_refine x names [] = tt
numbered_refine x names (f ∷ functions) = (
  record {
    name = refl;
    runs = λ world is_world n outcome run. inl (runs_renamed (number_in (order_of f)) (number_in_apart (order_of f)) x names f world n outcome run);
  },
  numbered_refine x names functions,
)

pub kept_spelled : (x : ℕ) (read written : List ℕ) (phase : Phase) (source : ModuleData) → IsReadModule read source → AreValid x phase source.functions → written ≡ printed (numbered_module source)
    → Spells written (numbered_module source)
kept_spelled x read written phase source reads valid wrote =
    let printable : IsPrintableModule source = spelled_printable read source (read_spelled read source reads) (record { each = all_there x phase source.functions valid }) in
    subst (λ bytes. Spells bytes (numbered_module source)) (sym wrote) (printed_spells (numbered_module source) (numbered_printable source printable))

pub kept : (x : ℕ) (read written : List ℕ) (phase : Phase) (source : ModuleData) → IsReadModule read source → AreValid x phase source.functions → written ≡ printed (numbered_module source) → Compiles x read written
kept x read written phase source reads valid wrote = record {
  old = source;
  new = numbered_module source;
  spells_old = read_spelled read source reads;
  spells_new = kept_spelled x read written phase source reads valid wrote;
  refines = numbered_refine x source.names source.functions;
}
