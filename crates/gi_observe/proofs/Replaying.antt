-- What was told, replayed.
use Rattle.std.proofs.Common.{◌≡◌, ℕ, zero, suc, ◌≤◌, Bool, true, false, cond, List, [], ◌∷◌, ◌++◌, Some, refl, sym, ap, ap₂, ◌∙◌, arith, eqb-true, eq-eqb, true≢false}
use Rattle.std.specs.Prelude.{slice_get, option_map, ◌==◌, map, filter}
use Rattle.std.proofs.lemmas.List.Sums.{sum_by-append, sum_by-cons}
use Rattle.gi_mir.specs.Data.{InstrData, BlockData, FunctionData}
use Rattle.gi_mir.specs.Edit.{all_instrs, uses}
use Rattle.gi_mir.specs.Ids.{uses_among, uses_in, uses_of, AreOwnIds}
use Rattle.gi_mir.specs.Places.{nth_id}
use Rattle.gi_mir.specs.Uses.{entry_replaced, instr_replaced, with_reg_replaced}
use Rattle.gi_mir.proofs.Located.{nth_id-once}
use Rattle.gi_mir.proofs.Replaced.{entry_replaced-without}
use Rattle.gi_observe.specs.declared.change.Change.{Change}
use Rattle.gi_observe.specs.declared.change.ChangeKind.{ChangeKind}
use Rattle.gi_observe.specs.declared.change.ChangeKind.TheVariants.{Created, Erased, Changed}
use Rattle.gi_observe.specs.declared.pass.Pass.{Pass}
use Rattle.gi_observe.specs.Replay.{IsReplay, entry_renewed, replacement, replacements, replayed, replayed_one}
use Rattle.gi_observe.proofs.Told.{filter-from}

-- ---- the next numbers don't matter

abbrev numbered : FunctionData → ℕ → ℕ → FunctionData
numbered f reg id = record f { next_reg = reg; next_id = id }

numbered-replayed_one : (f : FunctionData) (reg id : ℕ) (kind : ChangeKind) → replayed_one (numbered f reg id) kind ≡ numbered (replayed_one f kind) reg id
numbered-replayed_one f reg id (Created new block before instr) = refl
numbered-replayed_one f reg id (Erased old instr) = refl
numbered-replayed_one f reg id (Changed there old new) = refl

numbered-replayed : (f : FunctionData) (reg id : ℕ) (changes : List Change) → replayed (numbered f reg id) changes ≡ numbered (replayed f changes) reg id
numbered-replayed f reg id [] = refl
numbered-replayed f reg id (change ∷ changes) =
    ap (λ (g : FunctionData). replayed g changes) (numbered-replayed_one f reg id change.kind)
    ∙ numbered-replayed (replayed_one f change.kind) reg id changes

replayed-append : (f : FunctionData) (first more : List Change) → replayed f (first ++ more) ≡ replayed (replayed f first) more
replayed-append f [] more = refl
replayed-append f (change ∷ first) more = replayed-append (replayed_one f change.kind) first more

pub IsReplay-joined : (first more : List Change) (f g h : FunctionData) → IsReplay first f g → IsReplay more g h → IsReplay (first ++ more) f h
IsReplay-joined first more f g h one two = record {
  same = two.same
      ∙ ap (λ (k : FunctionData). numbered (replayed k more) h.next_reg h.next_id) one.same
      ∙ ap (λ (k : FunctionData). numbered k h.next_reg h.next_id) (numbered-replayed (replayed f first) g.next_reg g.next_id more)
      ∙ ap (λ (k : FunctionData). numbered k h.next_reg h.next_id) (sym (replayed-append f first more));
}

-- ---- one instruction after another becomes new

abbrev block_mapped : (ℕ × InstrData → ℕ × InstrData) → BlockData → BlockData
block_mapped edit b = record b { instrs = map edit b.instrs }

-- an entry after those of a list became new
abbrev renewed_by : (InstrData → InstrData) → List (ℕ × InstrData) → ℕ × InstrData → ℕ × InstrData
renewed_by edit [] q = q
renewed_by edit (p ∷ ps) q = renewed_by edit ps (entry_renewed p.0 (edit p.1) q)

map-same : (instrs : List (ℕ × InstrData)) → map (λ q. q) instrs ≡ instrs
map-same [] = refl
map-same (p ∷ ps) = ap (λ qs. p ∷ qs) (map-same ps)

blocks-same : (bs : List BlockData) → map (block_mapped (λ q. q)) bs ≡ bs
blocks-same [] = refl
blocks-same (b ∷ bs) =
    ap₂ (λ (c : BlockData) (cs : List BlockData). c ∷ cs)
    (ap (λ (instrs : List (ℕ × InstrData)). record b { instrs = instrs }) (map-same b.instrs)) (blocks-same bs)

map-twice : (f g : ℕ × InstrData → ℕ × InstrData) (instrs : List (ℕ × InstrData)) → map f (map g instrs) ≡ map (λ q. f (g q)) instrs
map-twice f g [] = refl
map-twice f g (p ∷ ps) = ap (λ qs. f (g p) ∷ qs) (map-twice f g ps)

blocks-twice : (f g : ℕ × InstrData → ℕ × InstrData) (bs : List BlockData) → map (block_mapped f) (map (block_mapped g) bs) ≡ map (block_mapped (λ q. f (g q))) bs
blocks-twice f g [] = refl
blocks-twice f g (b ∷ bs) =
    ap₂ (λ (c : BlockData) (cs : List BlockData). c ∷ cs)
    (ap (λ (instrs : List (ℕ × InstrData)). record b { instrs = instrs }) (map-twice f g b.instrs)) (blocks-twice f g bs)

replayed-renewed : (f : FunctionData) (name : ℕ) (pass : Pass) (old new : ℕ) (ps : List (ℕ × InstrData)) → replayed f (map (replacement name pass old new) ps) ≡ record f { blocks = map (block_mapped (renewed_by (instr_replaced old new) ps)) f.blocks }
replayed-renewed f name pass old new [] = ap (λ (bs : List BlockData). record f { blocks = bs }) (sym (blocks-same f.blocks))
replayed-renewed f name pass old new (p ∷ ps) =
    let one = entry_renewed p.0 (instr_replaced old new p.1) in
    replayed-renewed (record f { blocks = map (block_mapped one) f.blocks }) name pass old new ps
    ∙ ap (λ (bs : List BlockData). record f { blocks = bs }) (blocks-twice (renewed_by (instr_replaced old new) ps) one f.blocks)

-- ---- each id stands once

uses-flat : (id : ℕ) (bs : List BlockData) → uses_of id bs ≡ uses_among id (all_instrs bs)
uses-flat id [] = refl
uses-flat id (b ∷ bs) =
    omega (arith, sum_by-cons (uses_in id) b bs, sum_by-append (λ (p : ℕ × InstrData). cond (p.0 == id) 1 0) b.instrs (all_instrs bs), uses-flat id bs)

-- of the entries of a list, one alone has the id of this one
record IsAlone (q : ℕ × InstrData) (ps : List (ℕ × InstrData)) : Type 0 where
  pub alone : (k : ℕ) (p : ℕ × InstrData) → slice_get ps k ≡ Some p → p.0 ≡ q.0 → p ≡ q

IsAlone-rest : (q p : ℕ × InstrData) (ps : List (ℕ × InstrData)) → IsAlone q (p ∷ ps) → IsAlone q ps
IsAlone-rest q p ps h = record { alone = λ k r at same. h.alone (suc k) r at same }

IsAlone-in : (blocks : List BlockData) (n m : ℕ) (q : ℕ × InstrData) → AreOwnIds blocks n → slice_get (all_instrs blocks) m ≡ Some q → IsAlone q (all_instrs blocks)
IsAlone-in blocks n m q own there = record {
  alone = λ k p at same.
      let first : nth_id (all_instrs blocks) k ≡ Some q.0 = ap (option_map (λ (r : ℕ × InstrData). r.0)) at ∙ ap Some same in
      let second : nth_id (all_instrs blocks) m ≡ Some q.0 = ap (option_map (λ (r : ℕ × InstrData). r.0)) there in
      let once : uses_among q.0 (all_instrs blocks) ≤ 1 = omega (arith, uses-flat q.0 blocks, own.once q.0) in
      let place : k ≡ m = nth_id-once q.0 (all_instrs blocks) k m once first second in
      let both : Some p ≡ Some q = sym at ∙ ap (slice_get (all_instrs blocks)) place ∙ there in cc;
}

IsAlone-filtered : (t : ℕ × InstrData → Bool) (q : ℕ × InstrData) (ps : List (ℕ × InstrData)) → IsAlone q ps → IsAlone q (filter t ps)
IsAlone-filtered t q ps h = record {
  alone = λ k p at same. let (m, stands, passes) = filter-from t ps k p at in h.alone m p stands same;
}

-- ---- what becomes of an entry

-- what became new stays
renewed-stays : (edit : InstrData → InstrData) (q : ℕ × InstrData) (ps : List (ℕ × InstrData)) → IsAlone q ps → renewed_by edit ps (q.0, edit q.1) ≡ (q.0, edit q.1)
renewed-stays edit q [] h = refl
renewed-stays edit q (p ∷ ps) h = by (q.0 == p.0) refl ∙ renewed-stays edit q ps (IsAlone-rest q p ps h)
  where
    by : (b : Bool) → (q.0 == p.0) ≡ b → renewed_by edit ps (cond b (q.0, edit p.1) (q.0, edit q.1)) ≡ renewed_by edit ps (q.0, edit q.1)
    by true e =
        let same : p ≡ q = h.alone 0 p refl (sym (eqb-true q.0 p.0 e)) in
        ap (λ (r : ℕ × InstrData). renewed_by edit ps (q.0, edit r.1)) same
    by false e = refl

-- one of these becomes new
renewed-there : (edit : InstrData → InstrData) (q : ℕ × InstrData) (ps : List (ℕ × InstrData)) (j : ℕ) → IsAlone q ps → slice_get ps j ≡ Some q → renewed_by edit ps q ≡ (q.0, edit q.1)
renewed-there edit q [] j h there = cc
renewed-there edit q (p ∷ ps) j h there = by (q.0 == p.0) refl j there (λ k at. renewed-there edit q ps k (IsAlone-rest q p ps h) at)
  where
    by : (b : Bool) → (q.0 == p.0) ≡ b → (j : ℕ) → slice_get (p ∷ ps) j ≡ Some q → ((k : ℕ) → slice_get ps k ≡ Some q → renewed_by edit ps q ≡ (q.0, edit q.1)) → renewed_by edit ps (cond b (q.0, edit p.1) q) ≡ (q.0, edit q.1)
    by true e j at more =
        let same : p ≡ q = h.alone 0 p refl (sym (eqb-true q.0 p.0 e)) in
        ap (λ (r : ℕ × InstrData). renewed_by edit ps (q.0, edit r.1)) same ∙ renewed-stays edit q ps (IsAlone-rest q p ps h)
    by false e zero at more =
        let same : p ≡ q = cc in
        absurd (true≢false (sym (eq-eqb q.0 p.0 (ap (λ (r : ℕ × InstrData). r.0) (sym same))) ∙ e))
    by false e (suc k) at more = more k at

-- another stays
renewed-apart : (edit : InstrData → InstrData) (q : ℕ × InstrData) (ps : List (ℕ × InstrData)) → ((k : ℕ) (p : ℕ × InstrData) → slice_get ps k ≡ Some p → p.0 ≡ q.0 → ⊥) → renewed_by edit ps q ≡ q
renewed-apart edit q [] h = refl
renewed-apart edit q (p ∷ ps) h = by (q.0 == p.0) refl ∙ renewed-apart edit q ps (λ k r at same. h (suc k) r at same)
  where
    by : (b : Bool) → (q.0 == p.0) ≡ b → renewed_by edit ps (cond b (q.0, edit p.1) q) ≡ renewed_by edit ps q
    by true e = absurd (h 0 p refl (sym (eqb-true q.0 p.0 e)))
    by false e = refl

filter-into : {X : Type 0} (t : X → Bool) (xs : List X) (m : ℕ) (x : X) → slice_get xs m ≡ Some x → t x ≡ true → (j : ℕ) × (slice_get (filter t xs) j ≡ Some x)
filter-into t [] m x h p = cc
filter-into t (y ∷ ys) m x h p = by (t y) refl m h (λ n g. filter-into t ys n x g p)
  where
    by : (b : Bool) → t y ≡ b → (m : ℕ) → slice_get (y ∷ ys) m ≡ Some x → ((n : ℕ) → slice_get ys n ≡ Some x → (j : ℕ) × (slice_get (filter t ys) j ≡ Some x)) → (j : ℕ) × (slice_get (cond b (y ∷ filter t ys) (filter t ys)) j ≡ Some x)
    by true e zero h more = (0, h)
    by true e (suc n) h more = let (j, at) = more n h in (suc j, at)
    by false e zero h more = let same : y ≡ x = cc in absurd (true≢false (sym p ∙ ap t (sym same) ∙ e))
    by false e (suc n) h more = more n h

-- the uses of a register in an entry are replaced where the entries that use it become new
renewed-replaced : (blocks : List BlockData) (n old new m : ℕ) (q : ℕ × InstrData) → AreOwnIds blocks n → slice_get (all_instrs blocks) m ≡ Some q
    → renewed_by (instr_replaced old new) (filter (uses old) (all_instrs blocks)) q ≡ entry_replaced old new q
renewed-replaced blocks n old new m q own there = by (uses old q) refl
  where
    alone : IsAlone q (all_instrs blocks)
    alone = IsAlone-in blocks n m q own there

    by : (b : Bool) → uses old q ≡ b → renewed_by (instr_replaced old new) (filter (uses old) (all_instrs blocks)) q ≡ entry_replaced old new q
    by true e =
        let (j, at) = filter-into (uses old) (all_instrs blocks) m q there e in
        renewed-there (instr_replaced old new) q (filter (uses old) (all_instrs blocks)) j (IsAlone-filtered (uses old) q (all_instrs blocks) alone) at
    by false e =
        renewed-apart (instr_replaced old new) q (filter (uses old) (all_instrs blocks))
        (λ k p at same.
        let (i, stands, passes) = filter-from (uses old) (all_instrs blocks) k p at in
        true≢false (sym passes ∙ ap (uses old) (alone.alone i p stands same) ∙ e))
        ∙ sym (entry_replaced-without old new q e)

-- ---- all blocks

get-left : {X : Type 0} (xs ys : List X) (m : ℕ) (x : X) → slice_get xs m ≡ Some x → slice_get (xs ++ ys) m ≡ Some x
get-left [] ys m x h = cc
get-left (y ∷ xs) ys zero x h = h
get-left (y ∷ xs) ys (suc m) x h = get-left xs ys m x h

get-right : {X : Type 0} (xs ys : List X) (m : ℕ) (x : X) → slice_get ys m ≡ Some x → (n : ℕ) × (slice_get (xs ++ ys) n ≡ Some x)
get-right [] ys m x h = (m, h)
get-right (y ∷ xs) ys m x h = let (n, at) = get-right xs ys m x h in (suc n, at)

instrs-alike : (f g : ℕ × InstrData → ℕ × InstrData) (instrs : List (ℕ × InstrData)) → ((m : ℕ) (q : ℕ × InstrData) → slice_get instrs m ≡ Some q → f q ≡ g q) → map f instrs ≡ map g instrs
instrs-alike f g [] h = refl
instrs-alike f g (p ∷ ps) h = ap₂ (λ (q : ℕ × InstrData) (qs : List (ℕ × InstrData)). q ∷ qs) (h 0 p refl) (instrs-alike f g ps (λ m q at. h (suc m) q at))

blocks-alike : (f g : ℕ × InstrData → ℕ × InstrData) (bs : List BlockData) → ((m : ℕ) (q : ℕ × InstrData) → slice_get (all_instrs bs) m ≡ Some q → f q ≡ g q) → map (block_mapped f) bs ≡ map (block_mapped g) bs
blocks-alike f g [] h = refl
blocks-alike f g (b ∷ bs) h =
    ap₂ (λ (c : BlockData) (cs : List BlockData). c ∷ cs)
    (ap (λ (instrs : List (ℕ × InstrData)). record b { instrs = instrs }) (instrs-alike f g b.instrs (λ m q at. h m q (get-left b.instrs (all_instrs bs) m q at))))
    (blocks-alike f g bs (λ m q at. let (n, there) = get-right b.instrs (all_instrs bs) m q at in h n q there))

-- what was told of a replacement gives the function after it
pub IsReplay-replaced : (f : FunctionData) (pass : Pass) (old new : ℕ) → AreOwnIds f.blocks f.next_id → IsReplay (replacements f pass old new) f (with_reg_replaced old new f)
IsReplay-replaced f pass old new own = record {
  same =
      let after = with_reg_replaced old new f in
      let ps = filter (uses old) (all_instrs f.blocks) in
      let alike = blocks-alike (renewed_by (instr_replaced old new) ps) (entry_replaced old new) f.blocks (λ m q at. renewed-replaced f.blocks f.next_id old new m q own at) in
      sym (
      ap (λ (g : FunctionData). numbered g after.next_reg after.next_id) (replayed-renewed f f.name pass old new ps)
      ∙ ap (λ (bs : List BlockData). record after { blocks = bs }) alike);
}
