-- What any answer keeps: memory holds bytes, and only a branch leaves its block.
use Rattle.std.proofs.Common.{◌≡◌, ℕ, zero, suc, Bool, true, false, cond, ◌&&◌, ◌==◌, List, [], ◌∷◌, Option, Some, None, length, slice_get, unwrap_or, ⊎_elim, refl, sym, ap, subst}
use Rattle.gi_mir.specs.declared.opcode.Opcode.{Opcode}
use Rattle.gi_mir.specs.declared.opcode.Opcode.TheVariants as op
use Rattle.gi_mir.specs.declared.operand.Flags.{Flags}
use Rattle.gi_mir.specs.declared.operand.MemOp.{MemOp}
use Rattle.gi_mir.specs.declared.operand.SymbolFlag.TheVariants.{Plain, Call, Hi, Lo}
use Rattle.gi_mir.specs.Row.{is_branch_op, is_terminator_op, is_phi_op}
use Rattle.gi_meaning.specs.Argument.{Argument, Value, Number, Symbol, Called, To}
use Rattle.gi_meaning.specs.Given.{Given, Exactly, LowBits, Undefined}
use Rattle.gi_meaning.specs.Machine.{is_immediate}
use Rattle.gi_meaning.specs.Memory.{loaded, is_aligned}
use Rattle.gi_meaning.specs.Routine.{has_routine}
use Rattle.gi_meaning.specs.State.{Event, World, IsWorld, Outside, AreBytes, AreEvents}
use Rattle.gi_meaning.specs.Meaning.{Meaning, Copying, Generic, Machine, Loading, Storing, MachineLoading, MachineStoring, Jumping, Branching, MachineBranching, Calling, Returning, Nothing, Joining, meaning_of, is_joining}
use Rattle.gi_meaning.specs.Act.{Answer, Results, Leaves, Answers, AnswersWords, copy, generic_load, machine_load, StoresThere, Stores, GenericStores, MachineStores, jump, branch, machine_branch, CallsGlobal, Calls, Act, has_operands, result_registers, passed, words_of, alignment}
use Rattle.gi_refine.proofs.SizedAnswers.{stored_bytes}
use Rattle.gi_refine.proofs.Targets.{or_undefined, undefined_or}
use Rattle.gi_valid.specs.Facts.{is_computing}

abbrev pub is_leaving : Meaning → Bool
is_leaving Jumping = true
is_leaving Branching = true
is_leaving (MachineBranching test) = true
is_leaving _ = false

-- bytes stay bytes, and what leaves is a branch
abbrev pub IsFine : Meaning → Outside → Answer → Type 0
IsFine m outside (Results results after) = AreBytes outside.memory → AreBytes after.memory
IsFine m outside (Leaves c) = is_leaving m ≡ true
IsFine m outside _ = Unit {0}

answers_fine : (m : Meaning) (g : Given) (outside : Outside) (a : Answer) → Answers g outside a → IsFine m outside a
answers_fine m Undefined outside a h = subst (IsFine m outside) (sym h) tt
answers_fine m (Exactly results) outside a h = subst (IsFine m outside) (sym h.2) (λ bytes. bytes)
answers_fine m (LowBits known width value) outside a h = subst (IsFine m outside) (sym h.2) (λ bytes. bytes)

words_fine : (m : Meaning) (x : ℕ) (widths : List ℕ) (g : Given) (outside : Outside) (a : Answer) → AnswersWords x widths g outside a → IsFine m outside a
words_fine m x widths Undefined outside a h = subst (IsFine m outside) (sym h) tt
words_fine m x widths (Exactly results) outside a h = subst (IsFine m outside) (sym h.2) (λ bytes. bytes)
words_fine m x widths (LowBits known width value) outside a h = subst (IsFine m outside) (sym h.2) (λ bytes. bytes)

-- ══ Stores ══

stores_there_fine : (m : Meaning) (o : Option ℕ) (x bytes address value : ℕ) (outside : Outside) (a : Answer) → StoresThere o x bytes address value outside a → IsFine m outside a
stores_there_fine m None x bytes address value outside a h = subst (IsFine m outside) (sym h) tt
stores_there_fine m (Some v) x bytes address value outside a h = subst (IsFine m outside) (sym h) (λ are_bytes. stored_bytes x bytes outside.memory address value are_bytes)

stores_fine : (m : Meaning) (x align bytes address value : ℕ) (outside : Outside) (a : Answer) → Stores x align bytes address value outside a → IsFine m outside a
stores_fine m x align bytes address value outside a h =
    or_undefined (IsFine m outside) tt (is_aligned align address) (StoresThere (loaded x bytes outside.memory address) x bytes address value outside a) a
    (stores_there_fine m (loaded x bytes outside.memory address) x bytes address value outside a) h

generic_stores_fine : (m : Meaning) (x : ℕ) (mem : Option MemOp) (arguments : List Argument) (outside : Outside) (a : Answer) → GenericStores x mem arguments outside a → IsFine m outside a
generic_stores_fine m x (Some mem) (Value n value ∷ Value l address ∷ []) outside a h =
    undefined_or (IsFine m outside) tt mem.load (Stores x (alignment x mem) _ address value outside a) a (stores_fine m x (alignment x mem) _ address value outside a) h
generic_stores_fine m x _ _ outside a h = subst (IsFine m outside) (sym h) tt

machine_stores_fine : (m : Meaning) (x : ℕ) (exists : ℕ → Bool) (bytes : ℕ) (arguments : List Argument) (outside : Outside) (a : Answer) → MachineStores x exists bytes arguments outside a → IsFine m outside a
machine_stores_fine m x exists bytes (Value n value ∷ Value l base ∷ Number offset ∷ []) outside a h =
    or_undefined (IsFine m outside) tt (exists x && is_immediate offset) (Stores x bytes bytes _ value outside a) a (stores_fine m x bytes bytes _ value outside a) h
machine_stores_fine m x exists bytes _ outside a h = subst (IsFine m outside) (sym h) tt

-- ══ Branches ══

jump_fine : (arguments : List Argument) (outside : Outside) → IsFine Jumping outside (jump arguments)
jump_fine (To b ∷ []) outside = refl
jump_fine _ outside = tt

branch_taken : (t : Bool) (c : ℕ) (outside : Outside) → IsFine Branching outside (cond t (Results [] outside) (Leaves c))
branch_taken true c outside = λ bytes. bytes
branch_taken false c outside = refl

branch_fine : (arguments : List Argument) (outside : Outside) → IsFine Branching outside (branch arguments outside)
branch_fine (Value n v ∷ To b ∷ []) outside = branch_taken (v == 0) b outside
branch_fine _ outside = tt

machine_branch_taken : (test : ℕ → ℕ → ℕ → Bool) (t : Bool) (c : ℕ) (outside : Outside) → IsFine (MachineBranching test) outside (cond t (Leaves c) (Results [] outside))
machine_branch_taken test true c outside = refl
machine_branch_taken test false c outside = λ bytes. bytes

machine_branch_fine : (x : ℕ) (test : ℕ → ℕ → ℕ → Bool) (arguments : List Argument) (outside : Outside) → IsFine (MachineBranching test) outside (machine_branch x test arguments outside)
machine_branch_fine x test (Value l v ∷ Value m u ∷ To b ∷ []) outside = machine_branch_taken test (test x v u) b outside
machine_branch_fine x test _ outside = tt

-- ══ Calls ══

event_bytes : (x : ℕ) (events : List Event) (k : ℕ) (event : Event) → AreEvents x events → slice_get events k ≡ Some event → AreBytes event.after
event_bytes x [] k event are h = absurd (none_is (slice_get [] k) refl h)
  where
    none_is : (o : Option Event) → o ≡ None → o ≡ Some event → ⊥
    none_is o e l = cc
event_bytes x (e ∷ events) zero event are h = subst (λ (k : Event). AreBytes k.after) (ap (λ o. unwrap_or o e) h) are.1
event_bytes x (e ∷ events) (suc k) event are h = event_bytes x events k event are.2 h

global_fine : (x : ℕ) (w : World) → IsWorld x w → (callee words : List ℕ) (results : ℕ) (outside : Outside) (a : Answer) → CallsGlobal x w callee words results outside a → IsFine Calling outside a
global_fine x w is_world callee words results outside a = ⊎_elim
    (λ met. subst (IsFine Calling outside) (sym met.3.3) (λ bytes. event_bytes x w.trace outside.taken met.0 is_world.trace met.1))
    (λ none. subst (IsFine Calling outside) (sym none.1) tt)

calls_fine : (x : ℕ) (w : World) → IsWorld x w → (arguments : List Argument) (outside : Outside) (a : Answer) → Calls x w arguments outside a → IsFine Calling outside a
calls_fine x w is_world (Symbol Call callee address ∷ rest) outside a h =
    global_fine x w is_world callee (words_of (passed rest)) (length (result_registers rest)) outside a h
calls_fine x w is_world (Called Call routine ∷ rest) outside a h =
    or_undefined (IsFine Calling outside) tt (has_operands (passed rest) && has_routine x routine) _ a
    (λ answered. subst (IsFine Calling outside) (sym answered.2.3) (λ bytes. bytes)) h
calls_fine x w is_world (Symbol Plain callee address ∷ rest) outside a h = subst (IsFine Calling outside) (sym h) tt
calls_fine x w is_world (Symbol Hi callee address ∷ rest) outside a h = subst (IsFine Calling outside) (sym h) tt
calls_fine x w is_world (Symbol Lo callee address ∷ rest) outside a h = subst (IsFine Calling outside) (sym h) tt
calls_fine x w is_world (Called Plain routine ∷ rest) outside a h = subst (IsFine Calling outside) (sym h) tt
calls_fine x w is_world (Called Hi routine ∷ rest) outside a h = subst (IsFine Calling outside) (sym h) tt
calls_fine x w is_world (Called Lo routine ∷ rest) outside a h = subst (IsFine Calling outside) (sym h) tt
calls_fine x w is_world _ outside a h = subst (IsFine Calling outside) (sym h) tt

-- ══ All ══

pub act_fine : (x : ℕ) (w : World) → IsWorld x w → (m : Meaning) (mem : Option MemOp) (widths : List ℕ) (arguments : List Argument) (outside : Outside) (a : Answer) → Act x w m mem widths arguments outside a → IsFine m outside a
act_fine x w is_world Copying mem widths arguments outside a h = answers_fine Copying (copy widths arguments) outside a h
act_fine x w is_world (Generic gives) mem widths arguments outside a h = answers_fine (Generic gives) (gives widths arguments) outside a h
act_fine x w is_world (Machine gives) mem widths arguments outside a h = words_fine (Machine gives) x widths (gives x h.0) outside a h.2
act_fine x w is_world (Loading extension) mem widths arguments outside a h = answers_fine (Loading extension) (generic_load x extension mem widths arguments outside.memory) outside a h
act_fine x w is_world Storing mem widths arguments outside a h = generic_stores_fine Storing x mem arguments outside a h
act_fine x w is_world (MachineLoading exists bytes extension) mem widths arguments outside a h =
    words_fine (MachineLoading exists bytes extension) x widths (machine_load x exists bytes extension h.0 outside.memory) outside a h.2
act_fine x w is_world (MachineStoring exists bytes) mem widths arguments outside a h = machine_stores_fine (MachineStoring exists bytes) x exists bytes h.0 outside a h.2
act_fine x w is_world Jumping mem widths arguments outside a h = subst (IsFine Jumping outside) (sym h) (jump_fine arguments outside)
act_fine x w is_world Branching mem widths arguments outside a h = subst (IsFine Branching outside) (sym h) (branch_fine arguments outside)
act_fine x w is_world (MachineBranching test) mem widths arguments outside a h = subst (IsFine (MachineBranching test) outside) (sym h.2) (machine_branch_fine x test h.0 outside)
act_fine x w is_world Calling mem widths arguments outside a h = calls_fine x w is_world arguments outside a h
act_fine x w is_world Returning mem widths arguments outside a h = subst (IsFine Returning outside) (sym h) tt
act_fine x w is_world Nothing mem widths arguments outside a h = subst (IsFine Nothing outside) (sym h) (λ bytes. bytes)
act_fine x w is_world Joining mem widths arguments outside a h = subst (IsFine Joining outside) (sym h) tt

-- ══ Opcodes ══

-- the branches are those whose meaning leaves
pub leaving_is : (flags : Flags) (o : Opcode) → is_leaving (meaning_of flags o) ≡ is_branch_op o
leaving_is flags op.Copy = refl
leaving_is flags _ = refl

pub branch_ends : (o : Opcode) → is_branch_op o ≡ true → is_terminator_op o ≡ true
branch_ends op.GenericBranch h = refl
branch_ends op.GenericBranchConditional h = refl
branch_ends op.BranchEqual h = refl
branch_ends op.BranchNotEqual h = refl
branch_ends op.BranchLess h = refl
branch_ends op.BranchGreaterEqual h = refl
branch_ends op.BranchLessUnsigned h = refl
branch_ends op.BranchGreaterEqualUnsigned h = refl
branch_ends op.PseudoBranch h = refl
branch_ends _ h = cc

-- the phis are those whose meaning joins
pub joining_is : (flags : Flags) (o : Opcode) → is_joining (meaning_of flags o) ≡ is_phi_op o
joining_is flags op.Copy = refl
joining_is flags _ = refl

-- results are written
abbrev pub is_valued : Meaning → Bool
is_valued (Loading extension) = true
is_valued m = is_computing m

-- a terminator computes and loads nothing, and neither does a phi
pub ends_nothing : (flags : Flags) (o : Opcode) → (is_valued (meaning_of flags o) && is_terminator_op o) ≡ false
ends_nothing flags op.Copy = refl
ends_nothing flags _ = refl

pub joins_nothing : (m : Meaning) → (is_valued m && is_joining m) ≡ false
joins_nothing Joining = refl
joins_nothing Copying = refl
joins_nothing (Generic gives) = refl
joins_nothing (Machine gives) = refl
joins_nothing (Loading extension) = refl
joins_nothing _ = refl

pub computing_valued : (m : Meaning) → is_computing m ≡ true → is_valued m ≡ true
computing_valued Copying h = refl
computing_valued (Generic gives) h = refl
computing_valued (Machine gives) h = refl
computing_valued _ h = cc
