-- Gaps with nothing generic behind them.
use Rattle.std.proofs.Common.{◌≡◌, ℕ, zero, suc, ◌+◌, ◌-◌, ◌<◌, ◌≤◌, Bool, true, false, List, [], ◌∷◌, ◌++◌, Option, Some, None, length, take, drop, set, refl, sym, ap, ◌∙◌, append_assoc, arith, subst}
use Rattle.std.specs.Prelude.{slice_get, option_map}
use Rattle.std.specs.List.{list_any}
use Rattle.std.specs.Option.{option_map_or}
use Rattle.std.proofs.lemmas.List.{get_or-set_same, length-set}
use Rattle.gi_mir.specs.Data.{InstrData, BlockData, FunctionData}
use Rattle.gi_mir.specs.Edit.{IsLive, all_instrs, block_at, empty_block, home_of, id_after, id_before, instr_of, place_in_block}
use Rattle.gi_mir.specs.Ids.{AreOwnIds}
use Rattle.gi_mir.specs.Places.{nth_id}
use Rattle.gi_mir.specs.Row.{is_generic_op}
use Rattle.gi_mir.specs.declared.block.InstrId.{InstrId}
use Rattle.gi_mir.proofs.Located.{is_live-id_in}
use Rattle.gi_normalise.specs.Gaps.{IsClear, IsClearBehind, IsClearFrom}
use Rattle.gi_normalise.specs.Layout.{is_generic, last_generic, last_generic_in, last_of}
use Rattle.gi_normalise.specs.Tables.{IsInPlace}
use Rattle.gi_normalise.specs.declared.backwards.Gap.{Gap}
use Rattle.gi_normalise.proofs.Lasts.{clear-later, clear-more, last-later, last-stands, last_of-at, last_of-none}
use Rattle.gi_normalise.proofs.Standing.{StandsAt, before-at, entry-at, instr-at, none-ahead, some-ahead, stands-at}

-- ---- the instruction before a gap

pub record IsAhead (f : FunctionData) (b : ℕ) (id : InstrId) : Type 0 where
  pub place : ℕ
  pub stands : StandsAt f b place id.0
  pub entry : ℕ × InstrData
  pub at : slice_get (block_at f b).instrs place ≡ Some entry
  pub named : entry.0 ≡ id.0
  pub instr : instr_of f id.0 ≡ Some entry.1
  pub within : suc place ≤ length (block_at f b).instrs
  pub clear : list_any is_generic (drop (suc place) (block_at f b).instrs) ≡ false

pub is-ahead : (f : FunctionData) (b : ℕ) (ahead : Option InstrId) (id : InstrId) → AreOwnIds f.blocks f.next_id → IsClearBehind (block_at f b).instrs ahead → ahead ≡ Some id → IsAhead f b id
is-ahead f b ahead id own behind is =
    let (k, place, named) = some-ahead (block_at f b).instrs behind.place id.0 (sym behind.named ∙ ap (option_map (λ (i : InstrId). i.0)) is) in
    let stands = stands-at f b k id.0 own named in
    let (p, at, same) = entry-at (block_at f b).instrs k id.0 named in
    record {
      place = k;
      stands = stands;
      entry = p;
      at = at;
      named = same;
      instr = instr-at f b k id.0 stands ∙ ap (option_map (λ (q : ℕ × InstrData). q.1)) at;
      within = omega (arith, place, behind.within);
      clear = subst (λ (n : ℕ). list_any is_generic (drop n (block_at f b).instrs) ≡ false) place behind.clear;
    }

pub same-test : (f : FunctionData) (b : ℕ) (id : InstrId) (i : InstrData) (t : Bool) (m : IsAhead f b id) → instr_of f id.0 ≡ Some i → is_generic_op i.op ≡ t → is_generic m.entry ≡ t
same-test f b id i t m value is =
    let both : Some m.entry.1 ≡ Some i = sym m.instr ∙ value in
    let same : m.entry.1 ≡ i = cc in
    ap (λ (j : InstrData). is_generic_op j.op) same ∙ is

pub last-ahead : (f : FunctionData) (b : ℕ) (id : InstrId) (i : InstrData) → IsAhead f b id → instr_of f id.0 ≡ Some i → is_generic_op i.op ≡ true → Some id.0 ≡ last_generic_in (block_at f b).instrs
last-ahead f b id i m value is =
    ap (λ (n : ℕ). Some n) (sym m.named)
    ∙ sym (ap (option_map (λ (p : ℕ × InstrData). p.0)) (last_of-at is_generic (block_at f b).instrs m.place m.entry m.at (same-test f b id i true m value is) m.clear))

pub ahead-more : (f : FunctionData) (b : ℕ) (id : InstrId) (i : InstrData) (previous : Option InstrId) → IsAhead f b id → instr_of f id.0 ≡ Some i → is_generic_op i.op ≡ false
    → option_map (λ (n : InstrId). n.0) previous ≡ id_before f id.0 → IsClearBehind (block_at f b).instrs previous
ahead-more f b id i previous m value is before = record {
  place = m.place;
  within = omega (arith, m.within);
  named = before ∙ before-at f b m.place id.0 m.stands;
  clear = clear-more is_generic (block_at f b).instrs m.place m.entry m.at (same-test f b id i false m value is) m.clear;
}

abbrev count_to : FunctionData → Option InstrId → ℕ
count_to f ahead = option_map_or (λ (n : InstrId). suc (place_in_block f n.0)) ahead 0

pub ahead-fewer : (f : FunctionData) (b : ℕ) (id : InstrId) (previous : Option InstrId) → AreOwnIds f.blocks f.next_id → IsAhead f b id
    → option_map (λ (n : InstrId). n.0) previous ≡ id_before f id.0 → count_to f previous < suc (place_in_block f id.0)
ahead-fewer f b id None own m before = omega arith
ahead-fewer f b id (Some q) own m before =
    let (j, place, named) = some-ahead (block_at f b).instrs m.place q.0 (sym (before-at f b m.place id.0 m.stands) ∙ sym before) in
    let stands = stands-at f b j q.0 own named in
    omega (arith, stands.place, m.stands.place, place)

pub none-left : (instrs : List (ℕ × InstrData)) → IsClearBehind instrs None → None ≡ last_generic_in instrs
none-left instrs behind =
    let start : behind.place ≡ 0 = none-ahead instrs behind.place behind.within (sym behind.named) in
    let clear : list_any is_generic (drop 0 instrs) ≡ false = subst (λ (n : ℕ). list_any is_generic (drop n instrs) ≡ false) start behind.clear in
    sym (ap (option_map (λ (p : ℕ × InstrData). p.0)) (last_of-none is_generic instrs clear))

-- ---- over blocks

some-mapped : (o : Option (ℕ × InstrData)) (id : ℕ) → option_map (λ (p : ℕ × InstrData). p.0) o ≡ Some id → (p : ℕ × InstrData) × (o ≡ Some p) × (p.0 ≡ id)
some-mapped None id h = cc
some-mapped (Some p) id h = (p, refl, cc)

none-mapped : (o : Option (ℕ × InstrData)) → option_map (λ (p : ℕ × InstrData). p.0) o ≡ None → o ≡ None
none-mapped None h = refl
none-mapped (Some p) h = cc

behind-block : (f : FunctionData) (gap : Gap) → IsClear f gap → list_any is_generic (all_instrs (drop (suc gap.block) f.blocks)) ≡ false
behind-block f gap clear = let one : gap.block + 1 ≡ suc gap.block = omega arith in subst (λ (n : ℕ). list_any is_generic (all_instrs (drop n f.blocks)) ≡ false) one clear.later

pub last-in-gap : (f : FunctionData) (gap : Gap) (id : ℕ) (fits : ℕ → Bool) → IsClear f gap → last_generic_in (block_at f gap.block).instrs ≡ Some id → last_generic fits f ≡ Some id
last-in-gap f gap id fits clear h =
    let (p, last, same) = some-mapped (last_of is_generic (block_at f gap.block).instrs) id h in
    ap (option_map (λ (q : ℕ × InstrData). q.0)) (last-later is_generic f.blocks gap.block p clear.block (behind-block f gap clear) last) ∙ ap (λ (n : ℕ). Some n) same

block-clear : (f : FunctionData) (gap : Gap) → IsClear f gap → last_generic_in (block_at f gap.block).instrs ≡ None → list_any is_generic (all_instrs (drop gap.block f.blocks)) ≡ false
block-clear f gap clear h = clear-later is_generic f.blocks gap.block clear.block (behind-block f gap clear) (none-mapped (last_of is_generic (block_at f gap.block).instrs) h)

pub none-in-gap : (f : FunctionData) (gap : Gap) (fits : ℕ → Bool) → IsClear f gap → gap.block ≡ 0 → last_generic_in (block_at f gap.block).instrs ≡ None → last_generic fits f ≡ None
none-in-gap f gap fits clear first h =
    let all : list_any is_generic (all_instrs (drop 0 f.blocks)) ≡ false = subst (λ (n : ℕ). list_any is_generic (all_instrs (drop n f.blocks)) ≡ false) first (block-clear f gap clear h) in
    ap (option_map (λ (q : ℕ × InstrData). q.0)) (last_of-none is_generic (all_instrs f.blocks) all)

nth-end : (instrs : List (ℕ × InstrData)) → None ≡ nth_id instrs (length instrs)
nth-end [] = refl
nth-end (p ∷ ps) = nth-end ps

drop-end : (instrs : List (ℕ × InstrData)) → list_any is_generic (drop (length instrs) instrs) ≡ false
drop-end [] = refl
drop-end (p ∷ ps) = drop-end ps

clear-end : (instrs : List (ℕ × InstrData)) → IsClearFrom instrs None
clear-end instrs = record { place = length instrs; within = omega arith; named = nth-end instrs; clear = drop-end instrs }

pub clear-before : (f : FunctionData) (gap end : Gap) → IsClear f gap → 0 < gap.block → end.block ≡ gap.block - 1 → end.behind ≡ None → last_generic_in (block_at f gap.block).instrs ≡ None → IsClear f end
clear-before f gap end clear some block behind h =
    let one : gap.block ≡ end.block + 1 = omega (arith, some, block) in
    record {
      block = omega (arith, clear.block, one);
      here = subst (λ (o : Option InstrId). IsClearFrom (block_at f end.block).instrs o) (sym behind) (clear-end (block_at f end.block).instrs);
      later = subst (λ (n : ℕ). list_any is_generic (all_instrs (drop n f.blocks)) ≡ false) one (block-clear f gap clear h);
    }

-- the end of the last block
pub clear-last : (f : FunctionData) (end : Gap) → end.block + 1 ≡ length f.blocks → end.behind ≡ None → IsClear f end
clear-last f end block behind = record {
  block = omega (arith, block);
  here = subst (λ (o : Option InstrId). IsClearFrom (block_at f end.block).instrs o) (sym behind) (clear-end (block_at f end.block).instrs);
  later = rw block (none-behind f.blocks);
}
  where
    none-behind : (blocks : List BlockData) → list_any is_generic (all_instrs (drop (length blocks) blocks)) ≡ false
    none-behind [] = refl
    none-behind (b ∷ bs) = none-behind bs

-- ---- what is chosen is live

pub last-live : (fits : ℕ → Bool) (f : FunctionData) (id : ℕ) → last_generic fits f ≡ Some id → IsLive f id
last-live fits f id h =
    let (p, last, same) = some-mapped (last_of is_generic (all_instrs f.blocks)) id h in
    let there = last-stands is_generic f.blocks p last in
    is_live-id_in id f.blocks there.block there.here.place (ap (option_map (λ (q : ℕ × InstrData). q.0)) there.here.at ∙ ap (λ (n : ℕ). Some n) same)

-- ---- behind what stands in an instruction's place

drop-past : {X : Type 0} (xs ys : List X) → drop (length xs) (xs ++ ys) ≡ ys
drop-past [] ys = refl
drop-past (x ∷ xs) ys = drop-past xs ys

nth-past : (xs ys : List (ℕ × InstrData)) → nth_id (xs ++ ys) (length xs) ≡ nth_id ys 0
nth-past [] ys = refl
nth-past (x ∷ xs) ys = nth-past xs ys

nth-drop : (xs : List (ℕ × InstrData)) (k : ℕ) → nth_id (drop k xs) 0 ≡ nth_id xs k
nth-drop [] zero = refl
nth-drop [] (suc k) = refl
nth-drop (x ∷ xs) zero = refl
nth-drop (x ∷ xs) (suc k) = nth-drop xs k

length-front : {X : Type 0} (xs ys : List X) → length xs ≤ length (xs ++ ys)
length-front [] ys = omega arith
length-front (x ∷ xs) ys = omega (arith, length-front xs ys)

drop-set : {X : Type 0} (xs : List X) (k : ℕ) (x : X) → drop (suc k) (set xs k x) ≡ drop (suc k) xs
drop-set [] k x = refl
drop-set (y ∷ xs) zero x = refl
drop-set (y ∷ xs) (suc k) x = drop-set xs k x

clear-spliced : (front made back : List (ℕ × InstrData)) (behind : Option InstrId) → option_map (λ (id : InstrId). id.0) behind ≡ nth_id back 0 → list_any is_generic back ≡ false → IsClearFrom (front ++ (made ++ back)) behind
clear-spliced front made back behind named clear = subst (λ (instrs : List (ℕ × InstrData)). IsClearFrom instrs behind) (append_assoc front made back) (record {
  place = length (front ++ made);
  within = length-front (front ++ made) back;
  named = named ∙ sym (nth-past (front ++ made) back);
  clear = ap (λ (ps : List (ℕ × InstrData)). list_any is_generic ps) (drop-past (front ++ made) back) ∙ clear;
})

pub clear-after : (f g : FunctionData) (gap : Gap) (id : ℕ) (fits : ℕ → Bool) → AreOwnIds f.blocks f.next_id → last_generic fits f ≡ Some id → IsInPlace f id g
    → gap.block ≡ home_of f id → option_map (λ (n : InstrId). n.0) gap.behind ≡ id_after f id → IsClear g gap
clear-after f g gap id fits own h local block behind =
    let (p, last, same) = some-mapped (last_of is_generic (all_instrs f.blocks)) id h in
    let there = last-stands is_generic f.blocks p last in
    let named : nth_id (block_at f there.block).instrs there.here.place ≡ Some id = ap (option_map (λ (q : ℕ × InstrData). q.0)) there.here.at ∙ ap (λ (n : ℕ). Some n) same in
    let stands = stands-at f there.block there.here.place id own named in
    let home = home_of f id in
    let instrs = (block_at f home).instrs in
    let k = place_in_block f id in
    let new : BlockData = record (block_at f home) { instrs = take k instrs ++ (local.instrs ++ drop (k + 1) instrs) } in
    let within : home < length f.blocks = rw stands.home there.within in
    let one : k + 1 ≡ suc there.here.place = omega (arith, stands.place) in
    let clear : list_any is_generic (drop (k + 1) instrs) ≡ false =
    rw (one, stands.home) there.here.clear in
    let here : block_at g gap.block ≡ new = rw (local.blocks, block) (get_or-set_same f.blocks home new empty_block within) in
    let next : gap.block + 1 ≡ suc home = omega (arith, block) in
    let behind_home : list_any is_generic (all_instrs (drop (suc home) f.blocks)) ≡ false = rw stands.home there.later in
    record {
      block = rw (local.blocks, block) (rw (length-set f.blocks home new) within);
      here = subst (λ (b : BlockData). IsClearFrom b.instrs gap.behind) (sym here)
          (clear-spliced (take k instrs) local.instrs (drop (k + 1) instrs) gap.behind (behind ∙ sym (nth-drop instrs (k + 1))) clear);
      later = rw (local.blocks, next) (rw (drop-set f.blocks home new) behind_home);
    }
