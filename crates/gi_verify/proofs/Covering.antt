-- Round after round.
use Rattle.std.proofs.Common.{◌≡◌, ℕ, ◌+◌, ◌-◌, ◌<◌, ◌≤◌, Bool, true, false, ◌==◌, nat_lt, List, Option, Some, None, length, take, drop, ◌⊎◌, inl, inr, ⊎_elim, refl, sym, ap, ◌∙◌, subst, arith, ltb-true, lt-ltb}
use Rattle.std.specs.Prelude.{slice_get}
use Rattle.std.specs.Option.{option_map_or}
use Rattle.std.proofs.lemmas.Bool.{eq-eqb}
use Rattle.gi_mir.specs.Data.{InstrData, FunctionData}
use Rattle.gi_mir.specs.Edit.{empty_block, uses}
use Rattle.gi_mir.specs.Places.{body_at}
use Rattle.gi_meaning.specs.Runs.{entry_of, is_phi}
use Rattle.gi_valid.proofs.Existing.{within_or_past}
use Rattle.std.proofs.lemmas.List.{get_or_past}
use Rattle.gi_verify.specs.Rounds.{is_before, is_named, AreSureOf, CoverData, IsCovered, IsCoveredEntry, IsCoverOf, IsShrunk, IsSure, RoundData}
use Rattle.gi_verify.specs.Settled.{IsPlaced}
use Rattle.gi_verify.specs.Sets.{marked, place_of, IsAnswer}

pub in_block : (f : FunctionData) (b k : ℕ) (p : ℕ × InstrData) → slice_get (body_at f.blocks b).instrs k ≡ Some p → b < length f.blocks
in_block f b k p at = ⊎_elim (λ l. l) (λ past. absurd (nothing (ap (λ block. slice_get block.instrs k) (sym (get_or_past f.blocks b empty_block past)) ∙ at))) (within_or_past b (length f.blocks))
  where
    nothing : None ≡ Some p → ⊥
    nothing h = cc

pub none_covered : (f : FunctionData) (keys : List ℕ) (fine : List Bool) → IsCoverOf f (record { keys = keys; limit = 0; fine = fine })
none_covered f keys fine = record {
  by = λ b k p at mark. record {
    body = λ other x before. absurd (never (place_of keys x) before);
    entries = λ phi j x a h entry before. absurd (never (place_of keys x) before);
  };
}
  where
    never : (o : Option ℕ) → option_map_or (λ i. nat_lt i 0) o false ≡ true → ⊥
    never None h = cc
    never (Some i) h = none (ltb-true i 0 h)
      where
        none : i < 0 → ⊥
        none h = omega (arith, h)

-- a register that was looked at before, or is one of this round's
record IsOfRound (round : RoundData) (x : ℕ) : Type 0 where
  place : ℕ
  within : place < 64
  named : is_named round place x ≡ true

before_or_now : (round : RoundData) (limit x : ℕ) → limit ≤ round.first + 64 → is_before round.keys limit x ≡ true → (is_before round.keys round.first x ≡ true) ⊎ IsOfRound round x
before_or_now round limit x few h = by (place_of round.keys x) refl h
  where
    by : (o : Option ℕ) → place_of round.keys x ≡ o → option_map_or (λ i. nat_lt i limit) o false ≡ true → (is_before round.keys round.first x ≡ true) ⊎ IsOfRound round x
    by None is l = cc
    by (Some i) is l =
        ⊎_elim (λ old. inl (ap (λ o. option_map_or (λ j. nat_lt j round.first) o false) is ∙ lt-ltb i round.first old))
        (λ new. inr (record {
          place = i - round.first;
          within = small i new (ltb-true i limit l);
          named = ap (λ o. option_map_or (λ j. j == round.first + (i - round.first)) o false) is ∙ eq-eqb i (round.first + (i - round.first)) (back i new);
        }))
        (within_or_past i round.first)
      where
        small : (i : ℕ) → round.first ≤ i → i < limit → i - round.first < 64
        small i h g = omega (arith, h, g, few)

        back : (i : ℕ) → round.first ≤ i → i ≡ round.first + (i - round.first)
        back i h = omega (arith, h)

pub round_covered : (f : FunctionData) (round : RoundData) (old new : List Bool) (limit : ℕ) → limit ≤ round.first + 64 → IsCoverOf f (record { keys = round.keys; limit = round.first; fine = old }) → IsShrunk old new → AreSureOf f round new
    → IsCoverOf f (record { keys = round.keys; limit = limit; fine = new })
round_covered f round old new limit few before shrunk sure = record {
  by = λ b k p at mark.
      let was : IsCovered f round.keys round.first b (take k (body_at f.blocks b).instrs) p = before.by b k p at (shrunk.by p.0 mark) in
      let now : IsSure f round b (take k (body_at f.blocks b).instrs) p = (sure.by b).by k p at mark in
      record {
        body = λ other x known used. ⊎_elim (λ l. was.body other x l used) (λ l. now.body other l.place x l.within l.named used) (before_or_now round limit x few known);
        entries = λ phi j x a h entry known within.
            ⊎_elim (λ l. was.entries phi j x a h entry l within) (λ l. ((now.entries phi).by j h).by l.place x a l.within l.named entry within) (before_or_now round limit x few known);
      };
}

pub fewer_covered : (f : FunctionData) (keys : List ℕ) (limit : ℕ) (old new : List Bool) → IsShrunk old new → IsCoverOf f (record { keys = keys; limit = limit; fine = old }) → IsCoverOf f (record { keys = keys; limit = limit; fine = new })
fewer_covered f keys limit old new shrunk before = record { by = λ b k p at mark. before.by b k p at (shrunk.by p.0 mark) }

-- ══ Answers ══

pub covered_use : (f : FunctionData) (cover : CoverData) → IsCoverOf f cover → (b : ℕ) (front : List (ℕ × InstrData)) (p : ℕ × InstrData) → IsPlaced f b front p → is_phi p.1 ≡ false → (r : ℕ) → uses r p ≡ true
    → is_before cover.keys cover.limit r ≡ true → marked cover.fine p.0 ≡ true → IsAnswer f r b front true
covered_use f cover are b front p placed other r used known mark =
    subst (λ l. IsAnswer f r b l true) (sym placed.leads) ((are.by b (length front) p placed.here mark).body other r known used)

pub covered_entries : (f : FunctionData) (cover : CoverData) → IsCoverOf f cover → (b : ℕ) (front : List (ℕ × InstrData)) (p : ℕ × InstrData) → IsPlaced f b front p → is_phi p.1 ≡ true
    → (k : ℕ) → k < length p.1.operands → IsCoveredEntry f cover p.0 (entry_of (drop k p.1.operands))
covered_entries f cover are b front p placed phi k h = record { by = λ mark x a entry known within. (are.by b (length front) p placed.here mark).entries phi k x a h entry known within }
