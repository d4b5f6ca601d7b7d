-- Rules of the legaliser for casts and parts as rewrites. The flags are those of the root, and of the definition that was
-- looked at.
use Rattle.std.specs.Prelude.{ℕ, zero, suc, ◌+◌, ◌-◌, ◌*◌, ◌^◌, List, [], ◌∷◌}
use Rattle.gi_llt.specs.declared.Llt.{Llt}
use Rattle.gi_mir.specs.declared.opcode.Opcode.{Opcode}
use Rattle.gi_mir.specs.declared.opcode.Opcode.TheVariants as op
use Rattle.gi_mir.specs.declared.operand.Flags.{Flags}
use Rattle.gi_rule_values.specs.Data.{OperationData, RewriteData}
use Rattle.gi_rule_values.specs.Forms.{flagged, holds, in_register, number, on_one, on_two, parts, places_from, rewrite, s, slots_from}
use Rattle.gi_rule_values.specs.declared.rewrite.Slot.TheVariants.{At}

-- G_FREEZE x: x
abbrev pub freeze_to_copy : Flags → Llt → RewriteData
freeze_to_copy flags type = rewrite (type ∷ []) [] (flagged flags op.GenericFreeze (At 0 ∷ []) (type ∷ [])) (on_one op.Copy 0 type ∷ []) 1

-- a cast to k bits of the low m bits of a value of w bits
abbrev pub cast_of_trunc : Opcode → Flags → Flags → (m w k : ℕ) → List OperationData → (result : ℕ) → RewriteData
cast_of_trunc root flags more m w k made result =
    rewrite (s m ∷ s w ∷ []) (holds 0 (flagged more op.GenericTruncate (At 1 ∷ []) (s m ∷ [])) ∷ []) (flagged flags root (At 0 ∷ []) (s k ∷ [])) made result

-- G_TRUNC of G_TRUNC x: G_TRUNC x
abbrev pub trunc_of_trunc : Flags → Flags → (m w k : ℕ) → RewriteData
trunc_of_trunc flags more m w k = cast_of_trunc op.GenericTruncate flags more m w k (on_one op.GenericTruncate 1 (s k) ∷ []) 2

-- G_ANYEXT of G_TRUNC x: x where it has k bits, and else x brought to k bits
abbrev pub anyext_of_trunc : Opcode → Flags → Flags → (m w k : ℕ) → RewriteData
anyext_of_trunc cast flags more m w k = cast_of_trunc op.GenericAnyExtend flags more m w k (on_one cast 1 (s k) ∷ []) 2

abbrev pub anyext_of_trunc_same : Flags → Flags → (m k : ℕ) → RewriteData
anyext_of_trunc_same flags more m k = anyext_of_trunc op.Copy flags more m k k

abbrev pub anyext_of_trunc_narrower : Flags → Flags → (m w k : ℕ) → RewriteData
anyext_of_trunc_narrower flags more m w k = anyext_of_trunc op.GenericTruncate flags more m w k

abbrev pub anyext_of_trunc_wider : Flags → Flags → (m w k : ℕ) → RewriteData
anyext_of_trunc_wider flags more m w k = anyext_of_trunc op.GenericAnyExtend flags more m w k

-- G_ZEXT of G_TRUNC x: the low m bits of x
abbrev pub zext_of_trunc_same : Flags → Flags → (m k : ℕ) → RewriteData
zext_of_trunc_same flags more m k =
    cast_of_trunc op.GenericZeroExtend flags more m k k (number k (2 ^ m - 1) ∷ on_two op.GenericAnd 1 2 (s k) ∷ []) 3

abbrev pub zext_of_trunc : Opcode → Flags → Flags → (m w k : ℕ) → RewriteData
zext_of_trunc cast flags more m w k =
    cast_of_trunc op.GenericZeroExtend flags more m w k (on_one cast 1 (s k) ∷ number k (2 ^ m - 1) ∷ on_two op.GenericAnd 2 3 (s k) ∷ []) 4

abbrev pub zext_of_trunc_narrower : Flags → Flags → (m w k : ℕ) → RewriteData
zext_of_trunc_narrower flags more m w k = zext_of_trunc op.GenericTruncate flags more m w k

abbrev pub zext_of_trunc_wider : Flags → Flags → (m w k : ℕ) → RewriteData
zext_of_trunc_wider flags more m w k = zext_of_trunc op.GenericAnyExtend flags more m w k

-- G_SEXT of G_TRUNC x: the low m bits of x with their sign
abbrev pub sext_of_trunc_same : Flags → Flags → (m k : ℕ) → RewriteData
sext_of_trunc_same flags more m k = cast_of_trunc op.GenericSignExtend flags more m k k (in_register 1 m (s k) ∷ []) 2

abbrev pub sext_of_trunc : Opcode → Flags → Flags → (m w k : ℕ) → RewriteData
sext_of_trunc cast flags more m w k = cast_of_trunc op.GenericSignExtend flags more m w k (on_one cast 1 (s k) ∷ in_register 2 m (s k) ∷ []) 3

abbrev pub sext_of_trunc_narrower : Flags → Flags → (m w k : ℕ) → RewriteData
sext_of_trunc_narrower flags more m w k = sext_of_trunc op.GenericTruncate flags more m w k

abbrev pub sext_of_trunc_wider : Flags → Flags → (m w k : ℕ) → RewriteData
sext_of_trunc_wider flags more m w k = sext_of_trunc op.GenericAnyExtend flags more m w k

-- ══ Parts ══

-- parts from a place on, put together
abbrev pub merge_from : Flags → (place count width : ℕ) → OperationData
merge_from flags place count width = flagged flags op.GenericMergeValues (slots_from place count) (s (count * width) ∷ [])

abbrev pub copies_from : (place count width : ℕ) → List OperationData
copies_from place zero width = []
copies_from place (suc count) width = on_one op.Copy place (s width) ∷ copies_from (place + 1) count width

-- G_UNMERGE_VALUES of G_MERGE_VALUES with the same parts: the parts
abbrev pub unmerge_of_merge : Flags → Flags → (width count : ℕ) → RewriteData
unmerge_of_merge flags more width count = record {
  inputs = s (count * width) ∷ parts count width;
  definitions = holds 0 (merge_from more 1 count width) ∷ [];
  root = flagged flags op.GenericUnmergeValues (At 0 ∷ []) (parts count width);
  made = copies_from 1 count width;
  results = places_from (count + 1) count;
}

-- G_TRUNC of a merge of two parts: the lower one, or its low bits
abbrev pub trunc_of_merge : Opcode → Flags → Flags → (width n : ℕ) → RewriteData
trunc_of_merge cast flags more width n =
    rewrite (s (2 * width) ∷ parts 2 width) (holds 0 (merge_from more 1 2 width) ∷ []) (flagged flags op.GenericTruncate (At 0 ∷ []) (s n ∷ []))
    (on_one cast 1 (s n) ∷ []) 3
