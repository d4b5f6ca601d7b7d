-- No premise of rewriting one place is idle.
use Rattle.std.proofs.Common.{ℕ, Bool, false, List, [], ◌∷◌, None, refl}
use Rattle.gi_mir.specs.Data.{InstrData, FunctionData}
use Rattle.gi_mir.specs.declared.operand.Operand.{Operand}
use Rattle.gi_mir.specs.declared.operand.Operand.TheVariants as operand
use Rattle.gi_meaning.specs.Runs.{Setting, setting_of, phis_of}
use Rattle.gi_refine.specs.Examples.{names}
use Rattle.gi_refine_cases.specs.Idle.{Premise, Successors, SameInstructions, NothingHidden, SameWidths, SameValues, Others, Follows, AreShown, AllShown, OwesAllBut, IsNotIdle}
use Rattle.gi_refine.specs.Kept.{AreSeenAs, AllSeenAs}
use Rattle.gi_refine.specs.OnePlace.{OnePlace, only_virtual, RewritesOnePlace}
use Rattle.gi_refine_cases.proofs.IdleBlocks.{successors_not_idle, instructions_not_idle, hidden_not_idle, widths_not_idle, values_not_idle, others_not_idle, follows_not_idle}

-- ══ All premises are the record ══

seen_both : (s t : Setting) (hidden : ℕ → Bool) (rename : ℕ → ℕ) (os : List Operand) → AreShown hidden rename os → AreSeenAs s t (only_virtual (λ r. false)) rename os → AreSeenAs s t (only_virtual hidden) rename os
seen_both s t hidden rename [] shown widths = tt
seen_both s t hidden rename (operand.Use r ∷ os) shown widths = (shown.0, widths.1, widths.2, seen_both s t hidden rename os shown.1 widths.3)
seen_both s t hidden rename (operand.Def r k ∷ os) shown widths = (widths.0, seen_both s t hidden rename os shown widths.1)
seen_both s t hidden rename (operand.Phys n ∷ os) shown widths = (refl, seen_both s t hidden rename os shown widths.1)
seen_both s t hidden rename (operand.ImplicitUse n ∷ os) shown widths = (refl, seen_both s t hidden rename os shown widths.1)
seen_both s t hidden rename (_ ∷ os) shown widths = seen_both s t hidden rename os shown widths

all_seen_both : (s t : Setting) (hidden : ℕ → Bool) (rename : ℕ → ℕ) (is : List (ℕ × InstrData)) → AllShown hidden rename is → AllSeenAs s t (only_virtual (λ r. false)) rename is → AllSeenAs s t (only_virtual hidden) rename is
all_seen_both s t hidden rename [] shown widths = tt
all_seen_both s t hidden rename (i ∷ is) shown widths = (seen_both s t hidden rename i.1.operands shown.0 widths.0, all_seen_both s t hidden rename is shown.1 widths.1)

pub owes_all : (x : ℕ) (f g : FunctionData) (p : OnePlace) → OwesAllBut None x f g p → RewritesOnePlace x names f g p
owes_all x f g p owes =
    let s : Setting = setting_of x names f in
    let t : Setting = setting_of x names g in
    record {
      block = owes.block;
      new_block = owes.new_block;
      here = owes.here;
      there = owes.there;
      successors = owes.successors;
      splits = owes.splits;
      new_splits = owes.new_splits;
      phis_kept = owes.phis_kept;
      before_kept = owes.before_kept;
      after_kept = owes.after_kept;
      phis_seen = all_seen_both s t p.hidden p.rename (phis_of (owes.block).instrs) owes.phis_shown owes.phis_widths;
      before_seen = all_seen_both s t p.hidden p.rename p.before owes.before_shown owes.before_widths;
      after_seen = all_seen_both s t p.hidden p.rename p.after owes.after_shown owes.after_widths;
      phis_hold = owes.phis_hold;
      before_holds = owes.before_holds;
      after_holds = owes.after_holds;
      others = owes.others;
      follows = owes.follows;
    }

-- ══ Each premise has its case ══

pub none_idle : (dropped : Premise) → IsNotIdle dropped
none_idle Successors = successors_not_idle
none_idle SameInstructions = instructions_not_idle
none_idle NothingHidden = hidden_not_idle
none_idle SameWidths = widths_not_idle
none_idle SameValues = values_not_idle
none_idle Others = others_not_idle
none_idle Follows = follows_not_idle
