-- The passes in their order, by the words that LLVM has for them.
-- (LLVM's RISC-V target: the passes of GlobalISel; Global Instruction Selection, "Pipeline".)
use Rattle.std.specs.Prelude.{ℕ, List, [], ◌∷◌, Option, bytes_eq, codes, find}
use Rattle.gi_observe.specs.declared.pass.Pass.{Pass}
use Rattle.gi_observe.specs.declared.pass.Pass.TheVariants.{IrTranslator, PreCombiner, Legalizer, PostCombiner, RegBankSelect, Select}

abbrev pub word_of : Pass → List ℕ
word_of IrTranslator = codes "irtranslator"
word_of PreCombiner = codes "riscv-prelegalizer-combiner"
word_of Legalizer = codes "legalizer"
word_of PostCombiner = codes "riscv-postlegalizer-combiner"
word_of RegBankSelect = codes "regbankselect"
word_of Select = codes "instruction-select"

abbrev pub place_of : Pass → ℕ
place_of IrTranslator = 0
place_of PreCombiner = 1
place_of Legalizer = 2
place_of PostCombiner = 3
place_of RegBankSelect = 4
place_of Select = 5

-- the pass after another, and the last after the last
abbrev pub next_of : Pass → Pass
next_of IrTranslator = PreCombiner
next_of PreCombiner = Legalizer
next_of Legalizer = PostCombiner
next_of PostCombiner = RegBankSelect
next_of RegBankSelect = Select
next_of Select = Select

abbrev pub passes : List Pass
passes = IrTranslator ∷ PreCombiner ∷ Legalizer ∷ PostCombiner ∷ RegBankSelect ∷ Select ∷ []

-- the pass with a word
abbrev pub pass_of : List ℕ → Option Pass
pass_of word = find (λ pass. bytes_eq (word_of pass) word) passes
