-- What is kept of a block changes as the block does.
use Rattle.std.proofs.Common.{◌≡◌, ℕ, true, List, [], ◌∷◌, ◌++◌, Ok, Option, Some, None, map, refl, sym, ap, ◌∙◌, append_assoc}
use Rattle.std.specs.Prelude.{fold}
use Rattle.std.specs.List.{AllZip}
use Rattle.std.proofs.lemmas.List.Elements.{AllZip-push}
use Rattle.std.proofs.lemmas.List.Sums.{fold-append}
use Rattle.gi_mir.specs.Data.{InstrData}
use Rattle.gi_mir.specs.declared.operand.Kind.{Kind}
use Rattle.gi_mir.specs.declared.operand.Operand.{Operand}
use Rattle.gi_mir.specs.declared.operand.Operand.TheVariants as operand
use Rattle.gi_spelling.specs.declared.token.Item.{Item}
use Rattle.gi_spelling.specs.declared.written.Fault.{Fault}
use Rattle.gi_spelling.specs.declared.written.Fault.TheVariants as fault
use Rattle.gi_spelling.specs.Blocks.{Body, begun, shown_at, shown_types, with_instr_line, with_line, with_resolved, with_wrong, wrong}
use Rattle.gi_spelling.specs.Documents.{lower}
use Rattle.gi_spelling.specs.Items.{kept_items}
use Rattle.gi_spelling.specs.Lines.{Line}
use Rattle.gi_spelling.specs.Named.{Extends, IsNamedInstr, IsNamedOperand}
use Rattle.gi_spelling.specs.Reading.{read_instr}
use Rattle.gi_spelling.specs.Resolved.{Tables, resolved}
use Rattle.gi_spelling.specs.Written.{WrittenData}
use Rattle.gi_spelling.proofs.NamedLemmas.{named_instrs}
use Rattle.gi_mir_read.specs.Functions.Bodies.{BodyData, IsReadSoFar, Reads, with_defined, with_instr}
use Rattle.gi_resolve.specs.Meant.{IsMeantInstr}
use Rattle.gi_mir_read.specs.Functions.Noted.{NotesData, with_lowest, with_notes}
use Rattle.gi_registers.specs.Noted.{with_operand}
use Rattle.gi_mir_read.proofs.Functions.NoteLemmas.{sources-kept}

module _ (text : List ℕ) (before : NotesData) where
  -- names have grown
  pub read-grown : (old new : List (List ℕ)) (spelled : Body) (body : BodyData) (notes : NotesData) → Extends old new
      → IsReadSoFar text old before spelled body notes → IsReadSoFar text new before spelled body notes
  read-grown old new spelled body notes grows read = record {
    lists = read.lists;
    begun = read.begun;
    instrs = named_instrs text old new grows spelled.instrs body.instrs read.instrs;
    kinds = read.kinds;
    shown = read.shown;
    lowest = read.lowest;
  }

  -- something is wrong at a line
  pub read-wrong : (names : List (List ℕ)) (spelled : Body) (body : BodyData) (notes : NotesData) (line : Line) (why : Fault)
      → IsReadSoFar text names before spelled body notes
      → IsReadSoFar text names before (with_wrong spelled line why) body (with_lowest notes (lower notes.lowest (wrong line.number why)))
  read-wrong names spelled body notes line why read = record {
    lists = read.lists;
    begun = read.begun;
    instrs = read.instrs;
    kinds = read.kinds;
    shown = read.shown;
    lowest = ap (λ lowest. lower lowest (wrong line.number why)) read.lowest ∙ sym (fold-append lower before.lowest spelled.wrongs (wrong line.number why ∷ []));
  }

  -- the instructions have begun
  pub read-begun : (names : List (List ℕ)) (spelled : Body) (body : BodyData) (notes : NotesData)
      → IsReadSoFar text names before spelled body notes → IsReadSoFar text names before (begun spelled) (record body { begun = true }) notes
  read-begun names spelled body notes read = record {
    lists = read.lists;
    begun = refl;
    instrs = read.instrs;
    kinds = read.kinds;
    shown = read.shown;
    lowest = read.lowest;
  }

  module _ (names : List (List ℕ)) where
    named-defined : (kinds : List (ℕ × Kind)) (x y : Operand) → IsNamedOperand text names x y → with_operand kinds y ≡ with_operand kinds x
    named-defined kinds (operand.Global flag place) y is = ap (with_operand kinds) is.same
    named-defined kinds _ y is = ap (with_operand kinds) is

    named-kinds : (kinds : List (ℕ × Kind)) (xs ys : List Operand) → AllZip (IsNamedOperand text names) xs ys → fold with_operand kinds ys ≡ fold with_operand kinds xs
    named-kinds kinds [] [] all = refl
    named-kinds kinds [] (y ∷ ys) all = absurd all
    named-kinds kinds (x ∷ xs) [] all = absurd all
    named-kinds kinds (x ∷ xs) (y ∷ ys) all = ap (λ more. fold with_operand more ys) (named-defined kinds x y all.0) ∙ named-kinds (with_operand kinds x) xs ys all.1

    -- an instruction
    pub read-kept : (spelled : Body) (body : BodyData) (notes : NotesData) (line : Line) (written : WrittenData) (meant instr : InstrData)
        → IsNamedInstr text names meant instr → IsReadSoFar text names before spelled body notes
        → IsReadSoFar text names before (with_resolved spelled line written (Some meant)) (with_instr body instr) (with_notes notes line.number written.sources instr.operands)
    read-kept spelled body notes line written meant instr named read = record {
      lists = read.lists;
      begun = read.begun;
      instrs = AllZip-push (IsNamedInstr text names) spelled.instrs body.instrs meant instr read.instrs named;
      kinds =
          named-kinds notes.kinds meant.operands instr.operands named.operands ∙ ap (λ kinds. fold with_operand kinds meant.operands) read.kinds
          ∙ sym (fold-append with_defined before.kinds spelled.instrs (meant ∷ []));
      shown =
          sources-kept line.number notes.shown written.sources ∙ ap (λ shown. shown ++ map (shown_at line.number) (shown_types written)) read.shown
          ∙ append_assoc before.shown spelled.shown (map (shown_at line.number) (shown_types written));
      lowest = read.lowest;
    }

module _ (text : List ℕ) (old new : List (List ℕ)) (body : BodyData) (notes : NotesData) (line : Line) (written : WrittenData) (grows : Extends old new) where
  -- what a written instruction means is kept
  pub reads-meant : (meaning : Option InstrData) (instr : InstrData) (after : BodyData) (later : NotesData) → IsMeantInstr text new meaning instr
      → after ≡ with_instr body instr → later ≡ with_notes notes line.number written.sources instr.operands
      → Reads text old new (λ spelled. with_resolved spelled line written meaning) body notes after later
  reads-meant meaning instr after later meant is_after is_later = record {
    grown = grows;
    kept = λ before spelled read.
        rw (meant.is, is_after, is_later) (read-kept text before new spelled body notes line written meant.meant instr meant.named (read-grown text before old new spelled body notes grows read));
  }

  -- it means nothing
  pub reads-none : (meaning : Option InstrData) (later : NotesData) → meaning ≡ None → later ≡ with_lowest notes (lower notes.lowest (wrong line.number fault.Syntax))
      → Reads text old new (λ spelled. with_resolved spelled line written meaning) body notes body later
  reads-none meaning later none is_later = record {
    grown = grows;
    kept = λ before spelled read. rw (none, is_later) (read-wrong text before new spelled body notes line fault.Syntax (read-grown text before old new spelled body notes grows read));
  }

-- an instruction by how it is written
pub reads-written : (text : List ℕ) (tables : Tables) (old new : List (List ℕ)) (body started after : BodyData) (notes later : NotesData) (line : Line) (items : List Item) (written : WrittenData)
    → started ≡ record body { begun = true } → read_instr items ≡ Ok written
    → Reads text old new (λ spelled. with_resolved spelled line written (resolved tables written line.number)) started notes after later
    → Reads text old new (λ spelled. with_instr_line text tables spelled line (Some items)) body notes after later
reads-written text tables old new body started after notes later line items written begins is reads = record {
  grown = reads.grown;
  kept = λ before spelled read. rw is (reads.kept before (begun spelled) (rw begins (read-begun text before old spelled body notes read)));
}

-- a line without tokens
pub reads-blank : (text : List ℕ) (tables : Tables) (place : ℕ) (names : List (List ℕ)) (body after : BodyData) (notes later : NotesData) (line : Line)
    → kept_items text line ≡ None
    → Reads text names names (λ spelled. with_instr_line text tables spelled line None) body notes after later
    → Reads text names names (λ spelled. with_line text tables place spelled line) body notes after later
reads-blank text tables place names body after notes later line none reads = record {
  grown = reads.grown;
  kept = λ before spelled read. rw (none, none) (reads.kept before spelled read);
}
