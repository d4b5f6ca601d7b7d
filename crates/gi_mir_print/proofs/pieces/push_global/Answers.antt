use Rattle.std.proofs.Common.{◌≡◌, ◌++◌, ◌∷◌, [], List, ℕ, append-nil, ap, sym, ◌∙◌}
use Rattle.gi_llt.specs.Tokens.{Global, token, piece_bytes}
use Rattle.gi_mir.specs.Names.{name_at}
use Rattle.gi_mir.specs.declared.operand.SymbolFlag.{SymbolFlag}
use Rattle.gi_spelling.specs.Printed.{symbol_flag_pieces}
use Rattle.gi_mir_print.proofs.ListSteps.{on_ok_joined, on_ok_same}
use Rattle.gi_mir_print.proofs.PieceLemmas.{piece_bytes_append}
use Rattle.gi_mir_print.proofs.pieces.push_global.Goals as goal

global_bytes : (flag : SymbolFlag) (name : List ℕ) → piece_bytes (symbol_flag_pieces flag) ++ (64 ∷ name) ≡ piece_bytes (symbol_flag_pieces flag ++ (token Global (64 ∷ name) ∷ []))
global_bytes flag name =
    ap (λ (l : List ℕ). piece_bytes (symbol_flag_pieces flag) ++ l) (sym (append-nil (64 ∷ name)))
    ∙ sym (piece_bytes_append (symbol_flag_pieces flag) (token Global (64 ∷ name) ∷ []))

pub returns : goal.returns
returns c =
    let one = c.push_symbol_flag.new.out.items in
    let two = c.push.new.out.items in
    on_ok_same _ _ _ _ _ (global_bytes c.args.flag (name_at c.args.names.now c.args.number))
    (on_ok_joined _ c.args.out.now.items _ _ one _ c.in_ok-push_symbol_flag.ensures
    (on_ok_joined _ one _ _ two _ c.in_ok-push.ensures c.push_name.ensures))
