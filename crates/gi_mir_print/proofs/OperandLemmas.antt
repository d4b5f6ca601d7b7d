-- The operands of an instruction before `=` and after its opcode.
use Rattle.std.proofs.Common.{◌≡◌, ℕ, suc, ◌+◌, Bool, true, false, not, cond, ◌==◌, if◌then◌else◌, List, [], ◌∷◌, ◌++◌, length, take, drop, map, refl, sym, ap, ◌∙◌, arith}
use Rattle.std.specs.Prelude.{codes}
use Rattle.std.specs.List.{list_all, position_or_len}
use Rattle.gi_llt.specs.Tokens.{piece_bytes}
use Rattle.gi_mir.specs.Data.{InstrData}
use Rattle.gi_mir.specs.Renaming.{renamed_operand}
use Rattle.gi_spelling.specs.Printed.{word, is_definition, definitions_of, sources_of, source_forms, first_row, definition_pieces, defined_pieces, source_pieces, sources_pieces, flags_pieces, memory_pieces, instr_pieces}
use Rattle.gi_mir.specs.Row.{word_of, rows_of}
use Rattle.gi_mir.specs.declared.operand.Kind.{Kind}
use Rattle.gi_mir.specs.declared.operand.Operand.{Operand}
use Rattle.gi_mir.specs.declared.operand.Operand.TheVariants as operand
use Rattle.gi_mir.specs.declared.row.Form.{Form}
use Rattle.gi_mir.specs.declared.row.Form.TheVariants as form
use Rattle.gi_mir_print.specs.Shown.{is_definition_form}
use Rattle.gi_mir_print.proofs.PieceLemmas.{piece_bytes_append, equals_sign}

take_more : {X : Type 0} (n : ℕ) (x : X) (xs : List X) → take (1 + n) (x ∷ xs) ≡ x ∷ take n xs
take_more n x xs = let e : 1 + n ≡ suc n = omega arith in rw e refl

drop_more : {X : Type 0} (n : ℕ) (x : X) (xs : List X) → drop (1 + n) (x ∷ xs) ≡ drop n xs
drop_more n x xs = let e : 1 + n ≡ suc n = omega arith in rw e refl

pub definitions_taken : (xs : List Operand) → take (position_or_len (λ x. not (is_definition x)) xs) xs ≡ definitions_of xs
definitions_taken [] = refl
definitions_taken (x ∷ xs) = step (is_definition x) (definitions_taken xs)
  where
    step : (b : Bool) → take (position_or_len (λ y. not (is_definition y)) xs) xs ≡ definitions_of xs
        → take (cond (not (not b)) (1 + position_or_len (λ y. not (is_definition y)) xs) 0) (x ∷ xs) ≡ (if b then x ∷ definitions_of xs else [])
    step true h = take_more (position_or_len (λ y. not (is_definition y)) xs) x xs ∙ ap (λ ys. x ∷ ys) h
    step false h = refl

pub sources_dropped : (xs : List Operand) → drop (position_or_len (λ x. not (is_definition x)) xs) xs ≡ sources_of xs
sources_dropped [] = refl
sources_dropped (x ∷ xs) = step (is_definition x) (sources_dropped xs)
  where
    step : (b : Bool) → drop (position_or_len (λ y. not (is_definition y)) xs) xs ≡ sources_of xs
        → drop (cond (not (not b)) (1 + position_or_len (λ y. not (is_definition y)) xs) 0) (x ∷ xs) ≡ (if b then sources_of xs else x ∷ xs)
    step true h = drop_more (position_or_len (λ y. not (is_definition y)) xs) x xs ∙ h
    step false h = refl

pub forms_dropped : (fs : List Form) → drop (position_or_len (λ f. not (is_definition_form f)) fs) fs ≡ source_forms fs
forms_dropped [] = refl
forms_dropped (form.Def ∷ fs) = drop_more (position_or_len (λ f. not (is_definition_form f)) fs) form.Def fs ∙ forms_dropped fs
forms_dropped (form.PhysicalDef ∷ fs) = drop_more (position_or_len (λ f. not (is_definition_form f)) fs) form.PhysicalDef fs ∙ forms_dropped fs
forms_dropped (form.Results ∷ fs) = drop_more (position_or_len (λ f. not (is_definition_form f)) fs) form.Results fs ∙ forms_dropped fs
forms_dropped (f ∷ fs) = refl

pub definitions_all : (xs : List Operand) → list_all is_definition (definitions_of xs) ≡ true
definitions_all [] = refl
definitions_all (operand.Def r k ∷ xs) = definitions_all xs
definitions_all (operand.PhysDef n ∷ xs) = definitions_all xs
definitions_all (x ∷ xs) = refl

-- other numbers leave definitions definitions
pub definitions_renamed : (number : ℕ → ℕ) (xs : List Operand) → definitions_of (map (renamed_operand number) xs) ≡ map (renamed_operand number) (definitions_of xs)
definitions_renamed number [] = refl
definitions_renamed number (operand.Def r k ∷ xs) = ap (λ ys. renamed_operand number (operand.Def r k) ∷ ys) (definitions_renamed number xs)
definitions_renamed number (operand.PhysDef n ∷ xs) = ap (λ ys. operand.PhysDef n ∷ ys) (definitions_renamed number xs)
definitions_renamed number (x ∷ xs) = refl

pub sources_renamed : (number : ℕ → ℕ) (xs : List Operand) → sources_of (map (renamed_operand number) xs) ≡ map (renamed_operand number) (sources_of xs)
sources_renamed number [] = refl
sources_renamed number (operand.Def r k ∷ xs) = sources_renamed number xs
sources_renamed number (operand.PhysDef n ∷ xs) = sources_renamed number xs
sources_renamed number (x ∷ xs) = refl

-- `=` stands where something is defined
pub equals_some : (number : ℕ → ℕ) (xs : List Operand) → (length xs == 0) ≡ false → equals_sign (definition_pieces (map (renamed_operand number) xs)) ≡ codes " = "
equals_some number [] h = cc
equals_some number (x ∷ xs) h = refl

-- the bytes of an instruction, part by part
pub instr_bytes : (kinds : ℕ → Kind) (names : List (List ℕ)) (instr : InstrData)
    → piece_bytes (defined_pieces (definition_pieces (definitions_of instr.operands)))
    ++ (piece_bytes (flags_pieces instr.flags)
    ++ (word_of instr.op
    ++ (piece_bytes (sources_pieces (source_pieces kinds names (source_forms (first_row (rows_of instr.op))) (sources_of instr.operands)))
    ++ piece_bytes (memory_pieces instr.mem))))
    ≡ piece_bytes (instr_pieces kinds names instr)
instr_bytes kinds names instr = sym (
    let defined = defined_pieces (definition_pieces (definitions_of instr.operands)) in
    let shown = sources_pieces (source_pieces kinds names (source_forms (first_row (rows_of instr.op))) (sources_of instr.operands)) in
    piece_bytes_append defined (flags_pieces instr.flags ++ (word (word_of instr.op) ∷ (shown ++ memory_pieces instr.mem)))
    ∙ ap (λ bs. piece_bytes defined ++ bs)
    (piece_bytes_append (flags_pieces instr.flags) (word (word_of instr.op) ∷ (shown ++ memory_pieces instr.mem))
    ∙ ap (λ bs. piece_bytes (flags_pieces instr.flags) ++ (word_of instr.op ++ bs)) (piece_bytes_append shown (memory_pieces instr.mem))))
