-- What is lowest of what is told of sites, one after the other.
use Rattle.std.proofs.Common.{◌≡◌, ℕ, ◌+◌, ◌<◌, ◌≤◌, true, List, [], ◌∷◌, ◌++◌, Option, Some, None, length, get_or, drop, refl, sym, ap, ap₂, ◌∙◌}
use Rattle.std.proofs.Math.ListN.{drop_of_length-le}
use Rattle.gi_mir.specs.Data.{InstrData, BlockData, FunctionData}
use Rattle.gi_mir.specs.Edit.{empty_block}
use Rattle.gi_valid.specs.Available.{Extent, IsExtent}
use Rattle.gi_valid.specs.Faults.{Site, sites_in, sites_from, sites, told, fault_in, with_fault, faults, double_definitions, last_line, unknown_among, unknown_successors}
use Rattle.gi_valid.specs.Typing.{Phase}
use Rattle.gi_valid.specs.Valid.{IsValid, IsInvalid, IsGreatest, of_lowest_line}
use Rattle.gi_valid.proofs.Existing.{greatest_sets}
use Rattle.gi_valid.specs.declared.invalid.Fault.{Fault}
use Rattle.gi_valid.specs.declared.invalid.Invalid.{Invalid}
use Rattle.gi_valid.proofs.Sited.{told_append}
use Rattle.gi_verify.specs.Sets.{lowest_of, is_told_above, IsTold, AreTold, AllTold, IsLowestFault}
use Rattle.gi_verify.proofs.Finding.{drop_step}
use Rattle.gi_verify.proofs.Lower.{lowest_again, lowest_append, lowest_next, told_above}

pub site_told : (x : ℕ) (phase : Phase) (f : FunctionData) (b : ℕ) (front : List (ℕ × InstrData)) (n : ℕ × InstrData) (after : List (ℕ × InstrData)) (what : Option Invalid)
    → ((extents : ℕ → Extent) → ((r : ℕ) → IsGreatest f r (extents r)) → what ≡ fault_in x phase f extents (record { block = b; before = front; instr = n.1; after = after }))
    → (old new : Option Fault) → new ≡ lowest_of old (of_lowest_line (with_fault n.1.line what [])) → IsTold x phase f b front n after old new
site_told x phase f b front n after what says old new is = record { by = λ extents greatest. is ∙ ap (λ w. lowest_of old (of_lowest_line (with_fault n.1.line w []))) (says extents greatest) }

pub site_passed : (x : ℕ) (phase : Phase) (f : FunctionData) (b : ℕ) (front : List (ℕ × InstrData)) (n : ℕ × InstrData) (after : List (ℕ × InstrData)) (old : Option Fault) → is_told_above old n.1.line ≡ true
    → IsTold x phase f b front n after old old
site_passed x phase f b front n after old above = record {
  by = λ extents greatest. told_above old n.1.line (fault_in x phase f extents (record { block = b; before = front; instr = n.1; after = after })) above;
}

-- the lowest of what is told of those in front, and then of the rest, is the lowest of what is told of all
pub record AreToldTo (x : ℕ) (phase : Phase) (f : FunctionData) (b : ℕ) (all front rest : List (ℕ × InstrData)) (old new : Option Fault) : Type 0 where
  pub by : (extents : ℕ → Extent) → ((r : ℕ) → IsGreatest f r (extents r))
      → lowest_of new (of_lowest_line (told (fault_in x phase f extents) (sites_in b front rest))) ≡ lowest_of old (of_lowest_line (told (fault_in x phase f extents) (sites_in b [] all)))

pub none_told : (x : ℕ) (phase : Phase) (f : FunctionData) (b : ℕ) (all : List (ℕ × InstrData)) (old : Option Fault) → AreToldTo x phase f b all [] all old old
none_told x phase f b all old = record { by = λ extents greatest. refl }

pub one_told : (x : ℕ) (phase : Phase) (f : FunctionData) (b : ℕ) (all front : List (ℕ × InstrData)) (n : ℕ × InstrData) (after : List (ℕ × InstrData)) (old mid new : Option Fault)
    → AreToldTo x phase f b all front (n ∷ after) old mid → IsTold x phase f b front n after mid new → AreToldTo x phase f b all (front ++ n ∷ []) after old new
one_told x phase f b all front n after old mid new are one = record {
  by = λ extents greatest.
      let g : Site → Option Invalid = fault_in x phase f extents in
      let site : Site = record { block = b; before = front; instr = n.1; after = after } in
      let rest : List Fault = told g (sites_in b (front ++ n ∷ []) after) in
      ap (λ o. lowest_of o (of_lowest_line rest)) (one.by extents greatest)
      ∙ lowest_again mid (of_lowest_line (with_fault n.1.line (g site) [])) (of_lowest_line rest)
      ∙ ap (lowest_of mid) (lowest_next n.1.line (g site) rest)
      ∙ are.by extents greatest;
}

nothing_more : (a : Option Fault) → lowest_of a None ≡ a
nothing_more None = refl
nothing_more (Some x) = refl

pub all_told : (x : ℕ) (phase : Phase) (f : FunctionData) (b : ℕ) (all front : List (ℕ × InstrData)) (old new : Option Fault) → AreToldTo x phase f b all front [] old new → AreTold x phase f b all old new
all_told x phase f b all front old new are = record { by = λ extents greatest. sym (nothing_more new) ∙ are.by extents greatest }

-- ══ Blocks ══

pub record AllToldTo (x : ℕ) (phase : Phase) (f : FunctionData) (b : ℕ) (old new : Option Fault) : Type 0 where
  pub by : (extents : ℕ → Extent) → ((r : ℕ) → IsGreatest f r (extents r))
      → lowest_of new (of_lowest_line (told (fault_in x phase f extents) (sites_from b (drop b f.blocks)))) ≡ lowest_of old (of_lowest_line (told (fault_in x phase f extents) (sites f)))

pub no_block_told : (x : ℕ) (phase : Phase) (f : FunctionData) (old : Option Fault) → AllToldTo x phase f 0 old old
no_block_told x phase f old = record { by = λ extents greatest. refl }

pub one_block_told : (x : ℕ) (phase : Phase) (f : FunctionData) (b : ℕ) → b < length f.blocks → (old mid new : Option Fault) → AllToldTo x phase f b old mid
    → AreTold x phase f b (get_or f.blocks b empty_block).instrs mid new → AllToldTo x phase f (b + 1) old new
one_block_told x phase f b within old mid new are one = record {
  by = λ extents greatest.
      let g : Site → Option Invalid = fault_in x phase f extents in
      let here : List Site = sites_in b [] (get_or f.blocks b empty_block).instrs in
      let rest : List Site = sites_from (b + 1) (drop (b + 1) f.blocks) in
      ap (λ o. lowest_of o (of_lowest_line (told g rest))) (one.by extents greatest)
      ∙ lowest_again mid (of_lowest_line (told g here)) (of_lowest_line (told g rest))
      ∙ ap (lowest_of mid)
      (sym (lowest_append (told g here) (told g rest)) ∙ ap of_lowest_line (sym (told_append g here rest) ∙ ap (λ l. told g (sites_from b l)) (sym (drop_step f.blocks b empty_block within))))
      ∙ are.by extents greatest;
}

pub all_blocks_told : (x : ℕ) (phase : Phase) (f : FunctionData) (b : ℕ) → length f.blocks ≤ b → (old new : Option Fault) → AllToldTo x phase f b old new → AllTold x phase f old new
all_blocks_told x phase f b past old new are = record {
  by = λ extents greatest.
      sym (nothing_more new)
      ∙ ap (λ l. lowest_of new (of_lowest_line (told (fault_in x phase f extents) (sites_from b l)))) (sym (drop_of_length-le f.blocks past))
      ∙ are.by extents greatest;
}

-- ══ Lists of successors ══

pub one_list_told : (f : FunctionData) (b : ℕ) → b < length f.blocks → (line next : ℕ) → next ≡ last_line line (get_or f.blocks b empty_block).instrs
    → (what : Option Invalid) → what ≡ unknown_among f (get_or f.blocks b empty_block).successors → (mid new : Option Fault) → new ≡ lowest_of mid (of_lowest_line (with_fault next what []))
    → lowest_of new (of_lowest_line (unknown_successors f next (drop (b + 1) f.blocks))) ≡ lowest_of mid (of_lowest_line (unknown_successors f line (drop b f.blocks)))
one_list_told f b within line next last what is mid new one =
    let rest : List BlockData = drop (b + 1) f.blocks in
    ap (λ o. lowest_of o (of_lowest_line (unknown_successors f next rest))) one
    ∙ lowest_again mid (of_lowest_line (with_fault next what [])) (of_lowest_line (unknown_successors f next rest))
    ∙ ap (lowest_of mid) (lowest_next next what (unknown_successors f next rest))
    ∙ ap₂ (λ l w. lowest_of mid (of_lowest_line (with_fault l w (unknown_successors f l rest)))) last is
    ∙ ap (λ l. lowest_of mid (of_lowest_line (unknown_successors f line l))) (sym (drop_step f.blocks b empty_block within))

-- ══ All faults ══

pub lowest_of_all : (x : ℕ) (phase : Phase) (f : FunctionData) (double mid lowest : Option Fault) → double ≡ of_lowest_line (double_definitions f) → AllTold x phase f double mid
    → lowest ≡ lowest_of mid (of_lowest_line (unknown_successors f 1 f.blocks)) → IsLowestFault x phase f lowest
lowest_of_all x phase f double mid lowest first second third = record {
  by = λ extents greatest.
      let here : List Fault = told (fault_in x phase f extents) (sites f) in
      third
      ∙ ap (λ o. lowest_of o (of_lowest_line (unknown_successors f 1 f.blocks)))
      (second.by extents greatest ∙ ap (λ o. lowest_of o (of_lowest_line here)) first ∙ sym (lowest_append (double_definitions f) here))
      ∙ sym (lowest_append (double_definitions f ++ here) (unknown_successors f 1 f.blocks));
}

abbrev great : FunctionData → ℕ → Extent
great f r = (greatest_sets f r).extent

pub no_fault : (x : ℕ) (phase : Phase) (f : FunctionData) → IsLowestFault x phase f None → IsValid x phase f
no_fault x phase f are = record {
  extents = great f;
  contained = λ r. is_contained r;
  faultless = nothing (faults x phase f (great f)) (sym (are.by (great f) (λ r. is_greatest r)));
}
  where
    is_greatest : (r : ℕ) → IsGreatest f r (great f r)
    is_greatest r = (greatest_sets f r).is

    is_contained : (r : ℕ) → IsExtent f r (great f r)
    is_contained r = (greatest_sets f r).is.contained

    nothing : (l : List Fault) → of_lowest_line l ≡ None → l ≡ []
    nothing [] h = refl
    nothing (a ∷ l) h = cc

pub one_fault : (x : ℕ) (phase : Phase) (f : FunctionData) (fault : Fault) → IsLowestFault x phase f (Some fault) → IsInvalid x phase f fault
one_fault x phase f fault are = record {
  extents = great f;
  greatest = λ r. is_greatest r;
  told = sym (are.by (great f) (λ r. is_greatest r));
}
  where
    is_greatest : (r : ℕ) → IsGreatest f r (great f r)
    is_greatest r = (greatest_sets f r).is
