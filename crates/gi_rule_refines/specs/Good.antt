-- What a function keeps through rewrites, and a test of a rewrite's own list by which values go on to fit.
use Rattle.std.specs.Prelude.{◌≡◌, ℕ, Bool, true, ◌&&◌, List, [], ◌∷◌, ◌++◌, length, slice_get}
use Rattle.std.specs.Option.{option_map_or}
use Rattle.gi_llt.specs.Llt.{width_of}
use Rattle.gi_llt.specs.declared.Llt.{Llt}
use Rattle.gi_mir.specs.Data.{FunctionData}
use Rattle.gi_mir.specs.Edit.{IsLive}
use Rattle.gi_mir.specs.Ids.{AreOwnIds}
use Rattle.gi_meaning.specs.Meaning.{meaning_of}
use Rattle.gi_meaning.specs.Runs.{Setting, setting_of}
use Rattle.gi_change_valid.specs.Numbers.{HasHadAll}
use Rattle.gi_valid.specs.Typing.{Phase}
use Rattle.gi_valid.specs.Valid.{IsValid}
use Rattle.gi_change_refines.specs.Widths.{keeps_values, values_keep}
use Rattle.gi_rule_values.specs.Data.{OperationData, RewriteData}
use Rattle.gi_rule_values.specs.Running.{IsSoundRewrite}
use Rattle.gi_rule_valid.specs.Keeping.{keeps, on_places}
use Rattle.gi_rule_valid.specs.Using.{FitsAt, UseData, rewritten_at}
use Rattle.gi_rule_refines.specs.Computing.{gives_all}

-- ══ A function ══

-- It is valid in this phase; each id is its own instruction's; it has had the registers that it mentions; and values fit, by the
-- widths of what its instructions write and read.
pub record IsGood (x : ℕ) (phase : Phase) (names : List (List ℕ)) (f : FunctionData) : Type 0 where
  pub valid : IsValid x phase f
  pub own : AreOwnIds f.blocks f.next_id
  pub had : HasHadAll f
  pub fit : values_keep (setting_of x names f) f ≡ true

-- ══ A rewrite ══

-- how wide the value at a place is
abbrev pub width_at : (x : ℕ) → List Llt → (place : ℕ) → ℕ
width_at x types place = option_map_or (width_of x) (slice_get types place) 0

-- places instead of registers
abbrev pub on_types : (x : ℕ) → List Llt → Setting
on_types x types = record { x = x; names = []; width = width_at x types }

-- what each operation that is made gives fits its place
abbrev pub all_fit : (x : ℕ) → (types : List Llt) → List OperationData → Bool
all_fit x types [] = true
all_fit x types (o ∷ os) = keeps_values (on_types x (types ++ o.types)) (meaning_of o.flags o.op) (on_places (length types) o) && all_fit x (types ++ o.types) os

abbrev pub makes_fit : (x : ℕ) → RewriteData → Bool
makes_fit x rewrite = all_fit x rewrite.inputs rewrite.made

-- A sound rewrite that passes the tests of its own list in a phase.
pub record IsGoodRewrite (x : ℕ) (phase : Phase) (rewrite : RewriteData) : Type 0 where
  pub keeps : keeps x phase rewrite ≡ true
  pub gives : gives_all rewrite ≡ true
  pub fits : makes_fit x rewrite ≡ true
  pub sound : IsSoundRewrite x rewrite

-- ══ One after another ══

-- a good rewrite that fits at a live instruction
pub record IsMade (x : ℕ) (phase : Phase) (f : FunctionData) (id : ℕ) (u : UseData) : Type 0 where
  pub rewrite : IsGoodRewrite x phase u.rewrite
  pub live : IsLive f id
  pub fits : FitsAt f id u

-- each fits in what those before it made
abbrev pub AreMade : (x : ℕ) → Phase → FunctionData → List (ℕ × UseData) → Type 0
AreMade x phase f [] = Unit {0}
AreMade x phase f (p ∷ us) = IsMade x phase f p.0 p.1 × AreMade x phase (rewritten_at f p.0 p.1) us

abbrev pub after_all : FunctionData → List (ℕ × UseData) → FunctionData
after_all f [] = f
after_all f (p ∷ us) = after_all (rewritten_at f p.0 p.1) us
