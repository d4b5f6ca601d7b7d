-- What an instruction means, from what its parts mean.
use Rattle.std.proofs.Common.{◌≡◌, ℕ, true, false, List, [], ◌∷◌, ◌++◌, Option, Some, None, refl, sym, ap, ◌∙◌, subst}
use Rattle.std.specs.Prelude.{option_map, if◌then◌else◌}
use Rattle.std.specs.Option.{option_map_or}
use Rattle.std.specs.List.{AllZip}
use Rattle.gi_mir.specs.Data.{InstrData}
use Rattle.gi_mir.specs.Formed.{is_formed}
use Rattle.gi_mir.specs.declared.operand.MemOp.{MemOp}
use Rattle.gi_mir.specs.declared.operand.Operand.{Operand}
use Rattle.gi_mir.specs.declared.operand.Reg.{Reg}
use Rattle.gi_llt.specs.declared.Llt.{Llt}
use Rattle.gi_spelling.specs.declared.token.RegisterClass.{RegisterClass}
use Rattle.gi_spelling.specs.declared.token.RegisterClass.TheVariants as class
use Rattle.gi_spelling.specs.declared.written.Definition.{Definition}
use Rattle.gi_spelling.specs.declared.written.Definition.TheVariants as definition
use Rattle.gi_spelling.specs.Named.{IsNamedOperand, IsNamedInstr}
use Rattle.gi_spelling.specs.Resolved.{Tables, bare_by, typed_by, class_in, each, formed, resolved, resolved_definition, resolved_memory, resolved_source}
use Rattle.gi_spelling.specs.Written.{WrittenData}
use Rattle.gi_resolve.specs.Meant.{AreMeant, IsMeantInstr}
use Rattle.gi_resolve.proofs.EachLemmas.{zip-append}
use Rattle.gi_resolve.proofs.FormedLemmas.{formed-same}

option_same : {X : Type 0} {a b : X} → Some a ≡ Some b → a ≡ b
option_same is = cc

module _ (text : List ℕ) (names : List (List ℕ)) where
  bare-named : (reg : Reg) (found : Option RegisterClass) (op : Operand) → bare_by reg found ≡ Some op → IsNamedOperand text names op op
  bare-named reg (Some class.General) op is = subst (λ o. IsNamedOperand text names o o) (option_same is) refl
  bare-named reg (Some class.Generic) op is = cc
  bare-named reg (Some class.Banked) op is = cc
  bare-named reg None op is = cc

  typed-named : (reg : Reg) (ty : Llt) (found : Option RegisterClass) (op : Operand) → typed_by reg ty found ≡ Some op → IsNamedOperand text names op op
  typed-named reg ty (Some class.Generic) op is = subst (λ o. IsNamedOperand text names o o) (option_same is) refl
  typed-named reg ty (Some class.Banked) op is = subst (λ o. IsNamedOperand text names o o) (option_same is) refl
  typed-named reg ty (Some class.General) op is = cc
  typed-named reg ty None op is = cc

  definition-named : (classes : List (ℕ × RegisterClass)) (d : Definition) (op : Operand) → resolved_definition classes d ≡ Some op → IsNamedOperand text names op op
  definition-named classes (definition.Bare reg) op is = bare-named reg (class_in classes reg) op is
  definition-named classes (definition.Typed reg ty) op is = typed-named reg ty (class_in classes reg) op is
  definition-named classes (definition.Full reg kind) op is = subst (λ o. IsNamedOperand text names o o) (option_same is) refl
  definition-named classes (definition.Physical number) op is = subst (λ o. IsNamedOperand text names o o) (option_same is) refl

  definitions-named : (classes : List (ℕ × RegisterClass)) (ds : List Definition) (ops : List Operand) → each (resolved_definition classes) ds ≡ Some ops → AllZip (IsNamedOperand text names) ops ops
  definitions-named classes [] ops is = subst (λ os. AllZip (IsNamedOperand text names) os os) (option_same is) tt
  definitions-named classes (d ∷ ds) ops is = chosen (resolved_definition classes d) (each (resolved_definition classes) ds) is (definition-named classes d) (definitions-named classes ds)
    where
      chosen : (first : Option Operand) (later : Option (List Operand)) → option_map_or (λ op. option_map (λ ops. op ∷ ops) later) first None ≡ Some ops
          → ((op : Operand) → first ≡ Some op → IsNamedOperand text names op op) → ((os : List Operand) → later ≡ Some os → AllZip (IsNamedOperand text names) os os)
          → AllZip (IsNamedOperand text names) ops ops
      chosen None later is named all = cc
      chosen (Some op) None is named all = cc
      chosen (Some op) (Some os) is named all = subst (λ xs. AllZip (IsNamedOperand text names) xs xs) (option_same is) (named op refl, all os refl)

  module _ (tables : Tables) (written : WrittenData) (line : ℕ) (definitions operands : List Operand) (mem : Option MemOp)
      (are_definitions : Some definitions ≡ each (resolved_definition tables.classes) written.definitions)
      (are_meant : AreMeant text names (each (resolved_source tables) written.sources) definitions operands)
      (is_memory : Some mem ≡ resolved_memory written.memory) where
    abbrev old : InstrData
    old = record { op = written.op; flags = written.flags; operands = definitions ++ are_meant.meant; mem = mem; line = line }

    abbrev new : InstrData
    new = record { op = written.op; flags = written.flags; operands = operands; mem = mem; line = line }

    resolved-formed : resolved tables written line ≡ formed old
    resolved-formed = rw (← are_definitions, are_meant.is, ← is_memory) refl

    is_named : IsNamedInstr text names old new
    is_named = record {
      op = refl;
      flags = refl;
      operands = rw are_meant.grown
          (zip-append (IsNamedOperand text names) definitions definitions are_meant.meant are_meant.more
          (definitions-named tables.classes written.definitions definitions (sym are_definitions)) are_meant.named);
      memory = refl;
      line = refl;
    }

    pub instr-meant : is_formed new ≡ true → IsMeantInstr text names (resolved tables written line) new
    instr-meant is = record {
      meant = old;
      is = resolved-formed ∙ ap (λ test. if test then Some old else None) (formed-same text names old new is_named ∙ is);
      named = is_named;
    }

    pub instr-none : is_formed new ≡ false → resolved tables written line ≡ None
    instr-none is = resolved-formed ∙ ap (λ test. if test then Some old else None) (formed-same text names old new is_named ∙ is)
