use Rattle.std.proofs.Common.{sym, ap, ◌∙◌, refl}
use Rattle.gi_mir_read.specs.Texts.Placed.{line_at, lines_at}
use Rattle.gi_mir_read.specs.Texts.Sectioned.{is_marked_at, is_marked_line, is_unmarked, sections_in}
use Rattle.gi_mir_read.proofs.RunCuts.{run_before, run_whole, past_before, past_whole, run_of-map, past_run-map}
use Rattle.gi_mir_read.proofs.Texts.SectionCuts.{passes, front_is, past_is, past_headed}
use Rattle.gi_mir_read.proofs.text.sections.Mark.cut.Goals as goal

pub returns-in-Some-clause-before : goal.returns-in-Some-clause-before
returns-in-Some-clause-before c =
    let mark = c.args.self in
    let text = c.args.text.now in
    ap (lines_at text) (c.split_at.ensures.front ∙ run_before (is_marked_at mark text) (passes (is_marked_line mark) (line_at text)) (λ line. refl) c.args.lines.now c.in-Some.place c.in-Some.ensures.place)
    ∙ front_is (is_marked_line mark) (line_at text) c.args.lines.now

pub returns-in-Some-clause-after : goal.returns-in-Some-clause-after
returns-in-Some-clause-after c =
    let mark = c.args.self in
    let text = c.args.text.now in
    ap (λ lines. (sections_in mark text lines).sections)
    (c.split_at.ensures.back ∙ past_before (is_marked_at mark text) (passes (is_marked_line mark) (line_at text)) (λ line. refl) c.args.lines.now c.in-Some.place c.in-Some.ensures.place)
    ∙ past_is (is_marked_line mark) (line_at text) c.args.lines.now

pub returns-in-Some-clause-headed : goal.returns-in-Some-clause-headed
returns-in-Some-clause-headed c =
    let mark = c.args.self in
    let text = c.args.text.now in
    ap (λ lines. (sections_in mark text lines).before)
    (c.split_at.ensures.back ∙ past_before (is_marked_at mark text) (passes (is_marked_line mark) (line_at text)) (λ line. refl) c.args.lines.now c.in-Some.place c.in-Some.ensures.place)
    ∙ past_headed (is_marked_line mark) (line_at text) c.args.lines.now

pub returns-in-None-clause-before : goal.returns-in-None-clause-before
returns-in-None-clause-before c =
    let mark = c.args.self in
    let text = c.args.text.now in
    ap (lines_at text) (run_whole (is_marked_at mark text) (passes (is_marked_line mark) (line_at text)) (λ line. refl) c.args.lines.now c.in-None.ensures.place)
    ∙ front_is (is_marked_line mark) (line_at text) c.args.lines.now

pub returns-in-None-clause-after : goal.returns-in-None-clause-after
returns-in-None-clause-after c =
    let mark = c.args.self in
    let text = c.args.text.now in
    ap (λ lines. (sections_in mark text lines).sections) (past_whole (is_marked_at mark text) (passes (is_marked_line mark) (line_at text)) (λ line. refl) c.args.lines.now c.in-None.ensures.place)
    ∙ past_is (is_marked_line mark) (line_at text) c.args.lines.now

pub returns-in-Some-clause-front : goal.returns-in-Some-clause-front
returns-in-Some-clause-front c =
    let mark = c.args.self in
    let text = c.args.text.now in
    ap (lines_at text) (c.split_at.ensures.front ∙ run_before (is_marked_at mark text) (passes (is_marked_line mark) (line_at text)) (λ line. refl) c.args.lines.now c.in-Some.place c.in-Some.ensures.place)
    ∙ sym (run_of-map (is_unmarked mark) (line_at text) c.args.lines.now)

pub returns-in-Some-clause-back : goal.returns-in-Some-clause-back
returns-in-Some-clause-back c =
    let mark = c.args.self in
    let text = c.args.text.now in
    ap (lines_at text) (c.split_at.ensures.back ∙ past_before (is_marked_at mark text) (passes (is_marked_line mark) (line_at text)) (λ line. refl) c.args.lines.now c.in-Some.place c.in-Some.ensures.place)
    ∙ sym (past_run-map (is_unmarked mark) (line_at text) c.args.lines.now)

pub returns-in-None-clause-front : goal.returns-in-None-clause-front
returns-in-None-clause-front c =
    let mark = c.args.self in
    let text = c.args.text.now in
    ap (lines_at text) (run_whole (is_marked_at mark text) (passes (is_marked_line mark) (line_at text)) (λ line. refl) c.args.lines.now c.in-None.ensures.place)
    ∙ sym (run_of-map (is_unmarked mark) (line_at text) c.args.lines.now)

pub returns-in-None-clause-back : goal.returns-in-None-clause-back
returns-in-None-clause-back c =
    let mark = c.args.self in
    let text = c.args.text.now in
    ap (lines_at text) (past_whole (is_marked_at mark text) (passes (is_marked_line mark) (line_at text)) (λ line. refl) c.args.lines.now c.in-None.ensures.place)
    ∙ sym (past_run-map (is_unmarked mark) (line_at text) c.args.lines.now)
