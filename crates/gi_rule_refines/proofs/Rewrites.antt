-- Good rewrites, one after another.
use Rattle.std.proofs.Common.{◌≡◌, ◌⊎◌, ℕ, Bool, true, List, [], ◌∷◌, inl, inr, refl}
use Rattle.std.proofs.lemmas.Bool.{and_from}
use Rattle.std.specs.List.{list_all}
use Rattle.gi_mir.specs.Data.{FunctionData, InstrData}
use Rattle.gi_mir.specs.Edit.{all_instrs}
use Rattle.gi_meaning.specs.Meaning.{meaning_of}
use Rattle.gi_meaning.specs.Runs.{setting_of}
use Rattle.gi_change_valid.specs.Rewriting.{IsOneOf}
use Rattle.gi_valid.specs.Valid.{IsValid}
use Rattle.gi_change_refines.specs.Sized.{are_formed}
use Rattle.gi_change_refines.specs.Typed.{have_types}
use Rattle.gi_change_refines.specs.Numbered.{is_numbered}
use Rattle.gi_change_refines.specs.Widths.{has_machine_words, keeps_values}
use Rattle.gi_change_refines.proofs.Numbered.{had_numbered, own_numbered}
use Rattle.gi_change_refines.proofs.WidthsValid.{keeps_valid}
use Rattle.gi_refine.specs.Refinement.{RefinesUnchecked}
use Rattle.gi_refine.proofs.Refining.{refines_itself, refines_through}
use Rattle.gi_valid.specs.Typing.{Phase, Typed}
use Rattle.gi_change_refines.proofs.WidthsKept.{widths_kept}
use Rattle.gi_rule_values.proofs.ByNumbers.{sound_by_numbers}
use Rattle.gi_rule_valid.specs.Keeping.{gives_types}
use Rattle.gi_rule_valid.specs.Using.{UseData, rewritten_at}
use Rattle.gi_rule_valid.proofs.Valid.{IsUse, keeping}
use Rattle.gi_rule_refines.specs.Good.{AreMade, IsGood, IsMade, after_all}
use Rattle.gi_rule_refines.proofs.Good.{good_after}
use Rattle.gi_rule_refines.proofs.Refined.{giving, use_refines}

pub use_of : (x : ℕ) (phase : Phase) (names : List (List ℕ)) (f : FunctionData) (id : ℕ) (u : UseData) → IsGood x phase names f → IsMade x phase f id u → IsUse x phase f id u
use_of x phase names f id u good made = record { valid = good.valid; own = good.own; had = good.had; live = made.live; fits = made.fits; keeps = keeping x phase u.rewrite made.rewrite.keeps }

pub good_kept : (x : ℕ) (phase : Phase) (names : List (List ℕ)) (f : FunctionData) (id : ℕ) (u : UseData) → gives_types phase ≡ true → IsGood x phase names f → IsMade x phase f id u → IsGood x phase names (rewritten_at f id u)
good_kept x phase names f id u types good made = good_after x phase names f id u types (use_of x phase names f id u good made) made.rewrite.fits good.fit

pub good_refines : (x : ℕ) (phase : Phase) (names : List (List ℕ)) (f : FunctionData) (id : ℕ) (u : UseData) → (x ≡ 32) ⊎ (x ≡ 64) → IsGood x phase names f → IsMade x phase f id u → RefinesUnchecked x names f (rewritten_at f id u)
good_refines x phase names f id u word good made =
    use_refines x phase names f id u (record {
      use_is = use_of x phase names f id u good made;
      gives = giving u.rewrite made.rewrite.gives;
      sound = λ w is_world. sound_by_numbers x names w u.rewrite (made.rewrite.sound.by names w is_world);
      fit = widths_kept x names f word good.fit;
    })

pub all_follow : (x : ℕ) (phase : Phase) (names : List (List ℕ)) (f : FunctionData) (us : List (ℕ × UseData)) → (x ≡ 32) ⊎ (x ≡ 64) → gives_types phase ≡ true → IsGood x phase names f → AreMade x phase f us → IsGood x phase names (after_all f us) × RefinesUnchecked x names f (after_all f us)
all_follow x phase names f [] word types good made = (good, refines_itself x names f)
all_follow x phase names f (p ∷ us) word types good made =
    let rest = all_follow x phase names (rewritten_at f p.0 p.1) us word types (good_kept x phase names f p.0 p.1 types good made.0) made.1 in
    (rest.0, refines_through x names f (rewritten_at f p.0 p.1) (after_all f (p ∷ us)) (good_refines x phase names f p.0 p.1 word good made.0) rest.1)

-- ══ The beginning ══

each_passes : (test : ℕ × InstrData → Bool) (is : List (ℕ × InstrData)) → ((p : ℕ × InstrData) → IsOneOf p is → test p ≡ true) → list_all test is ≡ true
each_passes test [] each = refl
each_passes test (p ∷ is) each = and_from (test p) (list_all test is) (each p (inl refl)) (each_passes test is (λ q there. each q (inr there)))

pub good_valid : (x : ℕ) (names : List (List ℕ)) (f : FunctionData) → (x ≡ 32) ⊎ (x ≡ 64) → IsValid x Typed f → is_numbered f ≡ true → are_formed f ≡ true → have_types f ≡ true → has_machine_words (setting_of x names f) f ≡ true
    → IsGood x Typed names f
good_valid x names f word valid numbered formed typed words = record {
  valid = valid;
  own = own_numbered f numbered;
  had = had_numbered f numbered;
  fit = each_passes (λ p. keeps_values (setting_of x names f) (meaning_of p.1.flags p.1.op) p.1) (all_instrs f.blocks) (keeps_valid x names f word valid formed typed words);
}
