-- The text of a function, with its registers numbered by their first appearance.
use Rattle.std.proofs.Common.{◌≡◌, ℕ, suc, ◌+◌, Bool, true, false, List, [], ◌∷◌, ◌++◌, length, map, refl, sym, ap, ap₂, ◌∙◌, append_assoc, append-nil, unwrap_or, add-one, zero-add, Some}
use Rattle.gi_mir.specs.Names.{name_at}
use Rattle.std.specs.Prelude.{codes}
use Rattle.gi_llt.specs.Tokens.{Spaces, piece_bytes}
use Rattle.gi_mir.specs.Data.{InstrData, BlockData, FunctionData}
use Rattle.gi_mir.specs.Numbering.{number_in, order_of, numbered}
use Rattle.gi_mir.specs.Registers.{kind_of, kind_in_blocks, type_of_kind}
use Rattle.gi_mir.specs.Renaming.{renamed_operand, renamed_instr, renamed_pair, renamed_block, renamed}
use Rattle.gi_spelling.specs.Printed.{definitions_of, sources_of, source_forms, first_row, is_typed_by, forms_after, use_pieces, operand_pieces, definition_pieces, defined_pieces, source_pieces, sources_pieces, flags_pieces, word, memory_pieces, instr_pieces, instr_lines, block_head_pieces, set_off, successors_lines, liveins_lines, implied_successors, block_lines, blocks_lines, key_lines, stack_lines, printed_lines, ir_lines, text_of}
use Rattle.gi_mir.specs.Row.{word_of, rows_of}
use Rattle.gi_mir.specs.declared.operand.Kind.{Kind}
use Rattle.gi_mir.specs.declared.operand.Kind.TheVariants.{Class}
use Rattle.gi_mir.specs.declared.operand.Operand.{Operand}
use Rattle.gi_mir.specs.declared.operand.Operand.TheVariants as operand
use Rattle.gi_mir.specs.declared.row.Form.{Form}
use Rattle.gi_mir.proofs.KindLemmas.{kind_in_blocks_old}
use Rattle.gi_mir.proofs.NumberingLaws.{number_in_apart}
use Rattle.gi_registers.specs.Noted.{kind_noted}
use Rattle.gi_mir_print.specs.Shown.{RegistersData, kind_at, register_at, shown_blocks, shown_function}
use Rattle.gi_mir_print.proofs.LineLemmas.{text_of_append}
use Rattle.gi_mir_print.proofs.NoteLemmas.{kind_at-number_in}
use Rattle.gi_mir_print.proofs.OperandLemmas.{sources_renamed}

-- ══ Blocks, with a line feed before each but the first ══

abbrev pub blocks_led : (lead : List ℕ) (kinds : ℕ → Kind) (names : List (List ℕ)) (place count : ℕ) → List BlockData → List ℕ
blocks_led lead kinds names place count [] = []
blocks_led lead kinds names place count (b ∷ bs) = lead ++ (text_of (block_lines kinds names place count b) ++ blocks_led (10 ∷ []) kinds names (place + 1) count bs)

pub blocks_led_text : (kinds : ℕ → Kind) (names : List (List ℕ)) (place count : ℕ) (bs : List BlockData)
    → blocks_led [] kinds names place count bs ≡ text_of (blocks_lines kinds names place count bs)
blocks_led_text kinds names place count [] = refl
blocks_led_text kinds names place count (b ∷ []) = append-nil (text_of (block_lines kinds names place count b))
blocks_led_text kinds names place count (b ∷ next ∷ bs) =
    ap (λ ts. text_of (block_lines kinds names place count b) ++ (10 ∷ ts))
    (blocks_led_text kinds names (place + 1) count (next ∷ bs) ∙ ap (λ n. text_of (blocks_lines kinds names n count (next ∷ bs))) (add-one place))
    ∙ sym (text_of_append (block_lines kinds names place count b) ([] ∷ blocks_lines kinds names (suc place) count (next ∷ bs)))

-- ══ Kinds that agree on the numbers that are shown ══

pub record IsAlike (number : ℕ → ℕ) (k l : ℕ → Kind) : Type 0 where
  pub at : (r : ℕ) → k (number r) ≡ l (number r)

operand_alike : (number : ℕ → ℕ) (k l : ℕ → Kind) → IsAlike number k l → (names : List (List ℕ)) (is_typed : Bool) (x : Operand)
    → operand_pieces k names is_typed (renamed_operand number x) ≡ operand_pieces l names is_typed (renamed_operand number x)
operand_alike number k l h names true (operand.Use r) = ap (λ kind. use_pieces (number r.0) (type_of_kind kind)) (h.at r.0)
operand_alike number k l h names false (operand.Use r) = refl
operand_alike number k l h names is_typed x = refl

sources_alike : (number : ℕ → ℕ) (k l : ℕ → Kind) → IsAlike number k l → (names : List (List ℕ)) (forms : List Form) (xs : List Operand)
    → source_pieces k names forms (map (renamed_operand number) xs) ≡ source_pieces l names forms (map (renamed_operand number) xs)
sources_alike number k l h names forms [] = refl
sources_alike number k l h names forms (x ∷ xs) =
    ap₂ (λ cell cells. cell ∷ cells) (operand_alike number k l h names (is_typed_by forms) x) (sources_alike number k l h names (forms_after forms) xs)

instr_alike : (number : ℕ → ℕ) (k l : ℕ → Kind) → IsAlike number k l → (names : List (List ℕ)) (i : InstrData)
    → instr_pieces k names (renamed_instr number i) ≡ instr_pieces l names (renamed_instr number i)
instr_alike number k l h names i =
    let forms = source_forms (first_row (rows_of i.op)) in
    ap (λ cells. defined_pieces (definition_pieces (definitions_of (map (renamed_operand number) i.operands)))
    ++ (flags_pieces i.flags ++ (word (word_of i.op) ∷ (sources_pieces cells ++ memory_pieces i.mem))))
    (ap (source_pieces k names forms) (sources_renamed number i.operands)
    ∙ sources_alike number k l h names forms (sources_of i.operands)
    ∙ sym (ap (source_pieces l names forms) (sources_renamed number i.operands)))

instrs_alike : (number : ℕ → ℕ) (k l : ℕ → Kind) → IsAlike number k l → (names : List (List ℕ)) (is : List (ℕ × InstrData))
    → instr_lines k names (map (renamed_pair number) is) ≡ instr_lines l names (map (renamed_pair number) is)
instrs_alike number k l h names [] = refl
instrs_alike number k l h names (i ∷ is) =
    ap₂ (λ pieces lines. piece_bytes (Spaces 4 ∷ pieces) ∷ lines) (instr_alike number k l h names i.1) (instrs_alike number k l h names is)

block_alike : (number : ℕ → ℕ) (k l : ℕ → Kind) → IsAlike number k l → (names : List (List ℕ)) (place count : ℕ) (b : BlockData)
    → block_lines k names place count (renamed_block number b) ≡ block_lines l names place count (renamed_block number b)
block_alike number k l h names place count b =
    ap (λ lines. piece_bytes (Spaces 2 ∷ block_head_pieces place)
    ∷ (set_off (successors_lines b.successors (implied_successors place count (map (renamed_pair number) b.instrs)) ++ liveins_lines b.liveins) ++ lines))
    (instrs_alike number k l h names b.instrs)

blocks_alike : (number : ℕ → ℕ) (k l : ℕ → Kind) → IsAlike number k l → (names : List (List ℕ)) (place count : ℕ) (bs : List BlockData)
    → blocks_lines k names place count (map (renamed_block number) bs) ≡ blocks_lines l names place count (map (renamed_block number) bs)
blocks_alike number k l h names place count [] = refl
blocks_alike number k l h names place count (b ∷ []) = block_alike number k l h names place count b
blocks_alike number k l h names place count (b ∷ next ∷ bs) =
    ap₂ (λ lines more. lines ++ ([] ∷ more)) (block_alike number k l h names place count b) (blocks_alike number k l h names (suc place) count (next ∷ bs))

-- ══ A function ══

kinds_alike : (d : RegistersData) (f : FunctionData) → d.order ≡ order_of f → ((r : ℕ) → kind_noted d.kinds r ≡ kind_in_blocks r f.blocks)
    → IsAlike (number_in d.order) (kind_at d) (kind_of (renamed (number_in d.order) f))
kinds_alike d f o h = record {
  at = λ r.
      sym (kind_at-number_in d r)
      ∙ ap (λ kind. unwrap_or kind Class) (h r ∙ sym (kind_in_blocks_old (number_in d.order) (number_in_apart d.order) r f.blocks));
}

length_renamed : (number : ℕ → ℕ) (bs : List BlockData) → length (map (renamed_block number) bs) ≡ length bs
length_renamed number [] = refl
length_renamed number (b ∷ bs) = ap suc (length_renamed number bs)

six : (n o x y z t w : List ℕ) → (n ++ (o ++ (x ++ (y ++ (z ++ t))))) ++ w ≡ n ++ (o ++ (x ++ (y ++ (z ++ (t ++ w)))))
six n o x y z t w = simp append_assoc

text_parts : (name : List ℕ) (x y z stack blocks : List (List ℕ))
    → ((codes "---" ++ (10 ∷ codes "name:            ")) ++ (name ++ (10 ∷ (text_of x ++ (text_of y ++ (text_of z ++ (codes "tracksRegLiveness: true" ++ (10 ∷ []))))))))
    ++ (text_of stack ++ ((codes "body:             |" ++ (10 ∷ [])) ++ (text_of blocks ++ (codes "..." ++ (10 ∷ [])))))
    ≡ text_of (codes "---" ∷ (codes "name:            " ++ name) ∷ (x ++ (y ++ (z ++ (codes "tracksRegLiveness: true"
    ∷ (stack ++ (codes "body:             |" ∷ (blocks ++ (codes "..." ∷ [])))))))))
text_parts name x y z stack blocks =
    ap (λ bs. (codes "---" ++ (10 ∷ codes "name:            ")) ++ bs)
    (six name (10 ∷ []) (text_of x) (text_of y) (text_of z) (codes "tracksRegLiveness: true" ++ (10 ∷ []))
    (text_of stack ++ ((codes "body:             |" ++ (10 ∷ [])) ++ (text_of blocks ++ (codes "..." ++ (10 ∷ []))))))
    ∙ sym (ap (λ bs. (codes "---" ++ (10 ∷ codes "name:            ")) ++ (name ++ (10 ∷ bs)))
    (text_of_append x (y ++ (z ++ (codes "tracksRegLiveness: true" ∷ (stack ++ (codes "body:             |" ∷ (blocks ++ (codes "..." ∷ [])))))))
    ∙ ap (λ bs. text_of x ++ bs) (text_of_append y (z ++ (codes "tracksRegLiveness: true" ∷ (stack ++ (codes "body:             |" ∷ (blocks ++ (codes "..." ∷ []))))))
    ∙ ap (λ bs. text_of y ++ bs) (text_of_append z (codes "tracksRegLiveness: true" ∷ (stack ++ (codes "body:             |" ∷ (blocks ++ (codes "..." ∷ [])))))
    ∙ ap (λ bs. text_of z ++ (codes "tracksRegLiveness: true" ++ (10 ∷ bs))) (text_of_append stack (codes "body:             |" ∷ (blocks ++ (codes "..." ∷ [])))
    ∙ ap (λ bs. text_of stack ++ (codes "body:             |" ++ (10 ∷ bs))) (text_of_append blocks (codes "..." ∷ [])))))))

function_text_by : (d : RegistersData) (names : List (List ℕ)) (f : FunctionData) → IsAlike (number_in d.order) (kind_at d) (kind_of (renamed (number_in d.order) f))
    → shown_function d names f ≡ text_of (printed_lines names (renamed (number_in d.order) f))
function_text_by d names f alike =
    let number = number_in d.order in
    text_parts (name_at names f.name) (key_lines f.legalized (codes "legalized:       true")) (key_lines f.banked (codes "regBankSelected: true"))
    (key_lines f.selected (codes "selected:        true")) (stack_lines f.stack) (blocks_lines (kind_at d) names 0 (length f.blocks) (shown_blocks d f.blocks))
    ∙ ap (λ (blocks : List (List ℕ)). text_of (codes "---" ∷ (codes "name:            " ++ name_at names f.name) ∷ (key_lines f.legalized (codes "legalized:       true")
    ++ (key_lines f.banked (codes "regBankSelected: true") ++ (key_lines f.selected (codes "selected:        true") ++ (codes "tracksRegLiveness: true"
    ∷ (stack_lines f.stack ++ (codes "body:             |" ∷ (blocks ++ (codes "..." ∷ []))))))))))
    (blocks_alike number (kind_at d) (kind_of (renamed number f)) alike names 0 (length f.blocks) f.blocks
    ∙ ap (λ n. blocks_lines (kind_of (renamed number f)) names 0 n (map (renamed_block number) f.blocks)) (sym (length_renamed number f.blocks)))

pub function_text : (d : RegistersData) (names : List (List ℕ)) (f : FunctionData) → d.order ≡ order_of f → ((r : ℕ) → kind_noted d.kinds r ≡ kind_in_blocks r f.blocks)
    → shown_function d names f ≡ text_of (printed_lines names (numbered f))
function_text d names f o h =
    function_text_by d names f (kinds_alike d f o h) ∙ ap (λ order. text_of (printed_lines names (renamed (number_in order) f))) o

-- ══ An instruction alone ══

operands_same : (number : ℕ → ℕ) → ((r : ℕ) → number r ≡ r) → (xs : List Operand) → map (renamed_operand number) xs ≡ xs
operands_same number same [] = refl
operands_same number same (operand.Def r k ∷ xs) = ap₂ (λ (n : ℕ) ys. operand.Def (record { 0 = n }) k ∷ ys) (same r.0) (operands_same number same xs)
operands_same number same (operand.Use r ∷ xs) = ap₂ (λ (n : ℕ) ys. operand.Use (record { 0 = n }) ∷ ys) (same r.0) (operands_same number same xs)
operands_same number same (x ∷ xs) = ap (λ ys. x ∷ ys) (operands_same number same xs)

kind_of_none : (d : RegistersData) → d.kinds ≡ [] → (n : ℕ) → kind_at d n ≡ Class
unfolding kind_at
kind_of_none d h n = ap (λ ks. unwrap_or (kind_noted ks (register_at d.order n)) Class) h

-- with no registers noted, each keeps its number and none shows a type
pub plain_text : (d : RegistersData) (names : List (List ℕ)) (i : InstrData) → d.order ≡ [] → d.kinds ≡ []
    → piece_bytes (instr_pieces (kind_at d) names (renamed_instr (number_in d.order) i)) ≡ piece_bytes (instr_pieces (λ r. Class) names i)
plain_text d names i o h =
    let none : (r : ℕ) → number_in d.order r ≡ r = λ r. ap (λ order. number_in order r) o ∙ zero-add r in
    ap piece_bytes
    (instr_alike (number_in d.order) (kind_at d) (λ r. Class) (record { at = λ r. kind_of_none d h (number_in d.order r) }) names i
    ∙ ap (λ operands. let j : InstrData = record i { operands = operands } in instr_pieces (λ r. Class) names j) (operands_same (number_in d.order) none i.operands))

-- ══ A module ══

pub ir_bytes : (lines : List (List ℕ)) → codes "--- |" ++ (10 ∷ (text_of lines ++ (codes "..." ++ (10 ∷ [])))) ≡ text_of (ir_lines (Some lines))
ir_bytes lines = ap (λ bs. codes "--- |" ++ (10 ∷ bs)) (sym (text_of_append lines (codes "..." ∷ [])))

pub eight : (a b c d e f g h : List ℕ) → a ++ (b ++ (c ++ (d ++ (e ++ (f ++ (g ++ h)))))) ≡ (a ++ (b ++ (c ++ (d ++ (e ++ (f ++ g)))))) ++ h
eight a b c d e f g h = sym (simp append_assoc)
