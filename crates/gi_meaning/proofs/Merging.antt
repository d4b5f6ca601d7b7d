-- Equal parts put together, a step at a time.
use Rattle.std.proofs.Common.{◌≡◌, ℕ, ◌+◌, ◌-◌, ◌*◌, ◌/◌, ◌%◌, ◌^◌, ◌<◌, ◌≤◌, sym, ◌∙◌, ap, arith, add-one, List, ◌∷◌, length, get_or, drop, lit<, All}
use Rattle.std.proofs.Math.Seq.{drop-cons}
use Rattle.std.proofs.lemmas.List.Elements.{All-get_or}
use Rattle.std.proofs.Math.Nat.{mod-eq_of_lt, mod-lt, div-eq_of_lt, pow-le-pow_right, mul-le-mul_left}
use Rattle.std.proofs.lemmas.Nat.{pow-add, mul-add-lt}
use Rattle.gi_meaning.specs.Plain.{merged_of}
use Rattle.gi_meaning.specs.Generic.{parts_of}

pub merged_step : (w i : ℕ) (values : List ℕ) → i < length values → merged_of w (drop i values) ≡ get_or values i 0 + 2 ^ w * merged_of w (drop (i + 1) values)
merged_step w i values h =
    ap (merged_of w) (drop-cons values i 0 h) ∙ ap (λ k. get_or values i 0 + 2 ^ w * merged_of w (drop k values)) (sym (add-one i))

-- one part more has its bits
pub merged_bound : (w k v t : ℕ) → v < 2 ^ w → t < 2 ^ (w * k) → v + t * 2 ^ w < 2 ^ (w * (k + 1))
merged_bound w k v t h l =
    let e : w * (k + 1) ≡ w * k + w = omega arith in
    omega (arith, ap (λ m. 2 ^ m) e, pow-add 2 (w * k) w, mul-add-lt t (2 ^ w) v (2 ^ (w * k)) l h)

pub merged_room : (w k n : ℕ) → k < n → w * n ≤ 128 → 2 ^ (w * (k + 1)) ≤ 2 ^ 128
merged_room w k n h l =
    let s : k + 1 ≤ n = omega arith in
    let e : w * (k + 1) ≤ 128 = omega (arith, mul-le-mul_left w s) in pow-le-pow_right (lit< tt) e

turned : (v t p : ℕ) → v + t * p ≡ v + p * t
turned v t p = omega arith

-- what a turn of the loop makes: the total of one part more, which has its bits and fits
pub record Turned (w done : ℕ) (values : List ℕ) (next : ℕ) : Type 0 where
  pub value : next ≡ merged_of w (drop (length values - (done + 1)) values)
  pub bound : next < 2 ^ (w * (done + 1))
  pub fits : next < 2 ^ 128

pub merged_turn : (w done : ℕ) (values : List ℕ) (total : ℕ) → done < length values → w * length values ≤ 128 → All (λ v. v < 2 ^ w) values → total ≡ merged_of w (drop (length values - done) values) → total < 2 ^ (w * done) → Turned w done values (get_or values (length values - 1 - done) 0 + total * 2 ^ w % 2 ^ 128)
merged_turn w done values total h room all e b =
    let i = length values - 1 - done in
    let v = get_or values i 0 in
    let below : i < length values = omega arith in
    let small : v < 2 ^ w = All-get_or (λ m. m < 2 ^ w) values i 0 below all in
    let bound : v + total * 2 ^ w < 2 ^ (w * (done + 1)) = merged_bound w done v total small b in
    let fits : v + total * 2 ^ w < 2 ^ 128 = omega (arith, merged_room w done (length values) h room) in
    let whole : total * 2 ^ w % 2 ^ 128 ≡ total * 2 ^ w = mod-eq_of_lt (omega arith) in
    let next : v + total * 2 ^ w % 2 ^ 128 ≡ v + total * 2 ^ w = ap (λ m. v + m) whole in
    let here : length values - (done + 1) ≡ i = omega arith in
    let after : i + 1 ≡ length values - done = omega arith in
    let step : merged_of w (drop i values) ≡ v + 2 ^ w * total =
    merged_step w i values below ∙ ap (λ m. v + 2 ^ w * m) (ap (λ k. merged_of w (drop k values)) after ∙ sym e) in
    record {
      value = next ∙ (turned v total (2 ^ w) ∙ (sym step ∙ ap (λ k. merged_of w (drop k values)) (sym here)));
      bound = omega arith;
      fits = omega arith;
    }

pub wide_quotient : (w v : ℕ) → 128 ≤ w → v < 2 ^ 128 → v / 2 ^ w ≡ 0
wide_quotient w v h l = let p : 2 ^ 128 ≤ 2 ^ w = pow-le-pow_right (lit< tt) h in div-eq_of_lt (omega arith)

pub wide_remainder : (w v : ℕ) → 128 ≤ w → v < 2 ^ 128 → v % 2 ^ w ≡ v
wide_remainder w v h l = let p : 2 ^ 128 ≤ 2 ^ w = pow-le-pow_right (lit< tt) h in mod-eq_of_lt (omega arith)

pub no_remainder : (v : ℕ) → v % 2 ^ 0 ≡ 0
no_remainder v = let h : v % 1 < 1 = mod-lt v (lit< tt) in omega arith

pub part_step : (widths : List ℕ) (i d rest : ℕ) → i < length widths → parts_of (drop i widths) rest ≡ rest % 2 ^ get_or widths i d ∷ parts_of (drop (i + 1) widths) (rest / 2 ^ get_or widths i d)
part_step widths i d rest h =
    ap (λ ws. parts_of ws rest) (drop-cons widths i d h)
    ∙ ap (λ k. rest % 2 ^ get_or widths i d ∷ parts_of (drop k widths) (rest / 2 ^ get_or widths i d)) (sym (add-one i))
