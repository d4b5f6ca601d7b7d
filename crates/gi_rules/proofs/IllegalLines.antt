-- The lines of the instructions that don't fit, one instruction or block after the other.
use Rattle.std.proofs.Common.{◌≡◌, ℕ, ◌+◌, ◌<◌, List, [], ◌∷◌, ◌++◌, length, take, get_or, Option, Some, None, refl, sym, ap, ◌∙◌, subst}
use Rattle.std.specs.List.{filter_map, cons_option}
use Rattle.std.proofs.lemmas.List.{append_assoc, append-nil, take_more}
use Rattle.std.proofs.lemmas.List.Elements.{filter_map-append}
use Rattle.gi_mir.specs.Data.{InstrData, BlockData, FunctionData}
use Rattle.gi_mir.specs.declared.opcode.Opcode.{Opcode}
use Rattle.gi_mir.specs.declared.stage.Stage.{Stage}
use Rattle.gi_rules.specs.Fitting.{IsTold, illegal_line, illegal_in_instrs, illegal_in_blocks, of_lower_line}
use Rattle.gi_rules.proofs.ToldLines.{told_of_both}

-- the line of one instruction is told of it
told_of_one : (line : Option (ℕ × Opcode)) → IsTold (cons_option line []) line
told_of_one None = refl
told_of_one (Some line) = record { before = []; behind = []; place = refl; sooner = refl; later = refl }

module _ (x : ℕ) (stage : Stage) (f : FunctionData) where
  abbrev line_of : ℕ × InstrData → Option (ℕ × Opcode)
  line_of i = illegal_line x stage f i.1

  pub one_instr_more : (is : List (ℕ × InstrData)) (i : ℕ × InstrData) (told : Option (ℕ × Opcode))
      → IsTold (illegal_in_instrs x stage f is) told → IsTold (illegal_in_instrs x stage f (is ++ i ∷ [])) (of_lower_line told (illegal_line x stage f i.1))
  one_instr_more is i told known =
      subst (λ lines. IsTold lines (of_lower_line told (illegal_line x stage f i.1))) (sym (filter_map-append line_of is (i ∷ [])))
      (told_of_both (illegal_in_instrs x stage f is) (cons_option (illegal_line x stage f i.1) []) told (illegal_line x stage f i.1) known (told_of_one (illegal_line x stage f i.1)))

  blocks-append : (bs cs : List BlockData) → illegal_in_blocks x stage f (bs ++ cs) ≡ illegal_in_blocks x stage f bs ++ illegal_in_blocks x stage f cs
  blocks-append [] cs = refl
  blocks-append (b ∷ bs) cs =
      ap (λ lines. illegal_in_instrs x stage f b.instrs ++ lines) (blocks-append bs cs)
      ∙ sym (append_assoc (illegal_in_instrs x stage f b.instrs) (illegal_in_blocks x stage f bs) (illegal_in_blocks x stage f cs))

  pub one_block_more : (bs : List BlockData) (k : ℕ) (d : BlockData) (told later : Option (ℕ × Opcode)) → k < length bs
      → IsTold (illegal_in_instrs x stage f (get_or bs k d).instrs) later → IsTold (illegal_in_blocks x stage f (take k bs)) told
      → IsTold (illegal_in_blocks x stage f (take (k + 1) bs)) (of_lower_line told later)
  one_block_more bs k d told later within of_block known =
      let b : BlockData = get_or bs k d in
      subst (λ lines. IsTold lines (of_lower_line told later))
      (ap (λ lines. illegal_in_blocks x stage f (take k bs) ++ lines) (sym (append-nil (illegal_in_instrs x stage f b.instrs)))
      ∙ sym (blocks-append (take k bs) (b ∷ []))
      ∙ ap (illegal_in_blocks x stage f) (sym (take_more bs k d within)))
      (told_of_both (illegal_in_blocks x stage f (take k bs)) (illegal_in_instrs x stage f b.instrs) told later known of_block)
