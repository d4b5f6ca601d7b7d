use Rattle.std.proofs.Common.{◌≡◌, ◌+◌, ◌-◌, length, ap, sym, ◌∙◌, subst, arith, length-drop}
use Rattle.gi_text.specs.declared.token.LineError.TheVariants.{BadNumber}
use Rattle.gi_text.specs.Kinds.{lexeme_kind}
use Rattle.gi_text.specs.Numbers.{is_too_great}
use Rattle.gi_text.specs.Cutting.{IsFaultOf, behind, cut_line, cut_of}
use Rattle.gi_text.proofs.CutLemmas.{after_token, at_end, at_great}
use Rattle.gi_text.proofs.LawLemmas.{sized_of, slices_of}
use Rattle.gi_text.proofs.cut.tokens.Goals as goal

pub returns-then-is_too_great-clause-err : goal.returns-then-is_too_great-clause-err
returns-then-is_too_great-clause-err c =
    subst (λ place. IsFaultOf (cut_of c.args.bytes.now c.args.start c.args.end) c.args.line c.args.start (BadNumber place)) (sym c.told_place.ensures)
    (at_great c.loop-rest.tokens.items c.in-Token.kind c.in-Token.more c.loop-rest.place c.args.line c.args.start c.loop-rest.rest.now _ c.in-Token.ensures.step
    (sym (c.if-is_too_great.ensures ∙ ap (is_too_great (lexeme_kind c.in-Token.kind)) c.front.ensures)) c.loop-rest.invariant.cut)

pub loop-rest-preserved : goal.loop-rest-preserved
loop-rest-preserved c =
    let lengths : length c.after-rest-in-Token.result.now ≡ length c.loop-rest.rest.now - (c.in-Token.more + 1) =
    ap length c.after-rest-in-Token.ensures ∙ length-drop (c.in-Token.more + 1) c.loop-rest.rest.now in
    record {
      ordered = omega (arith, c.loop-rest.invariant.ordered);
      within = omega (arith, lengths, c.loop-rest.invariant.within, c.in-Token.ensures.within);
      cut = subst (λ rest. behind c.append.new.tokens.items (cut_line (c.loop-rest.place + (c.in-Token.more + 1)) rest) ≡ cut_of c.args.bytes.now c.args.start c.args.end)
          (sym c.after-rest-in-Token.ensures)
          (after_token c.loop-rest.tokens.items c.append.new.tokens.items c.in-Token.kind c.in-Token.more c.loop-rest.place c.loop-rest.rest.now _ c.in-Token.ensures.step
          (sym (c.if-is_too_great.ensures ∙ ap (is_too_great (lexeme_kind c.in-Token.kind)) c.front.ensures)) c.in_ok-append-in-Token.ensures.ok c.loop-rest.invariant.cut);
    }

pub returns-in-End-clause-slices : goal.returns-in-End-clause-slices
returns-in-End-clause-slices c =
    slices_of c.args.bytes.now c.args.start c.args.end c.loop-rest.tokens.items c.requires.ordered c.requires.within
    (at_end c.loop-rest.tokens.items c.loop-rest.place c.loop-rest.rest.now _ c.in-End.ensures.step c.loop-rest.invariant.cut)

pub returns-in-End-clause-sized : goal.returns-in-End-clause-sized
returns-in-End-clause-sized c =
    sized_of c.args.bytes.now c.args.start c.args.end c.loop-rest.tokens.items (at_end c.loop-rest.tokens.items c.loop-rest.place c.loop-rest.rest.now _ c.in-End.ensures.step c.loop-rest.invariant.cut)
