-- One rewriting after another.
use Rattle.std.proofs.Common.{◌≡◌, ℕ, zero, suc, ◌+◌, ◌-◌, ◌<◌, ◌≤◌, All, Bool, true, false, cond, List, [], ◌∷◌, ◌++◌, Option, Some, None, IsTrue, refl, sym, ap, ◌∙◌, append-nil, append_assoc, arith, subst}
use Rattle.std.specs.Option.{option_and_then}
use Rattle.gi_mir.specs.Data.{FunctionData}
use Rattle.gi_mir.specs.Edit.{IsLive}
use Rattle.std.proofs.lemmas.List.Elements.{All-append, All-cons, All-nil}
use Rattle.gi_observe.specs.Replay.{IsReplay, change_of, replayed, replayed_one}
use Rattle.gi_observe.specs.declared.change.Change.{Change}
use Rattle.gi_observe.specs.declared.change.ChangeKind.{ChangeKind}
use Rattle.gi_observe.specs.declared.change.ChangeKind.TheVariants.{Changed, Created, Erased}
use Rattle.gi_observe.specs.declared.pass.Pass.{Pass}
use Rattle.gi_observe.proofs.Replaying.{IsReplay-joined}
use Rattle.gi_normalise.specs.Layout.{IsStanding}
use Rattle.gi_normalise.specs.NormalForms.{Choice, Comes, IsNormalForm, Row, first_fit, fits, next_by}
use Rattle.gi_normalise.specs.Tables.{IsChangeOf, IsNormalised, IsSound, TellsAll}

-- ---- one normal form

some-one : {X : Type 0} (o : Option X) (x y : X) → o ≡ Some x → o ≡ Some y → x ≡ y
some-one o x y e h = let both : Some x ≡ Some y = sym e ∙ h in cc

none-some : {X : Type 0} (o : Option X) (x : X) → o ≡ None → o ≡ Some x → ⊥
none-some o x e h = let both : None ≡ Some x = sym e ∙ h in cc

comes-one : (choose : Choice) (rows : List Row) (m n : ℕ) (f g h : FunctionData) → Comes choose rows m f g → Comes choose rows n f h → g ≡ h
comes-one choose rows zero zero f g h one two = one.1 ∙ sym two.1
comes-one choose rows zero (suc n) f g h one two = absurd (none-some (next_by choose rows f) two.0 one.0 two.1)
comes-one choose rows (suc m) zero f g h one two = absurd (none-some (next_by choose rows f) one.0 two.0 one.1)
comes-one choose rows (suc m) (suc n) f g h one two =
    let same : two.0 ≡ one.0 = some-one (next_by choose rows f) two.0 one.0 two.1 one.1 in
    comes-one choose rows m n one.0 g h one.2 (subst (λ (k : FunctionData). Comes choose rows n k h) same two.2)

pub normal_form-one : (choose : Choice) (rows : List Row) (m n : ℕ) (f g h : FunctionData) → IsNormalForm choose rows m f g → IsNormalForm choose rows n f h → g ≡ h
normal_form-one choose rows m n f g h one two = comes-one choose rows one.count two.count f g h one.comes two.comes

-- ---- on the way to it

-- f was rewritten so many times, and is this function now
pub record IsUnderway (choose : Choice) (rows : List Row) (IsFit : FunctionData → Type 0) (Refines : FunctionData → FunctionData → Type 0) (weight : FunctionData → ℕ) (f now : FunctionData) (count : ℕ) : Type 0 where
  pub leads : (k : ℕ) (g : FunctionData) → Comes choose rows k now g → Comes choose rows (count + k) f g
  pub fit : IsFit now
  pub refines : Refines f now
  pub falls : count + (weight now + now.next_reg) ≤ weight f + f.next_reg
  pub registers : f.next_reg ≤ now.next_reg

pub begins : (choose : Choice) (rows : List Row) (IsFit : FunctionData → Type 0) (Refines : FunctionData → FunctionData → Type 0) (weight : FunctionData → ℕ) (f : FunctionData)
    → IsSound rows IsFit Refines weight → IsFit f → IsUnderway choose rows IsFit Refines weight f f 0
begins choose rows IsFit Refines weight f sound fit = record {
  leads = λ k g comes.
      let none : k ≡ 0 + k = omega arith in subst (λ (n : ℕ). Comes choose rows n f g) none comes;
  fit = fit;
  refines = sound.itself f;
  falls = omega arith;
  registers = omega arith;
}

pub goes-on : (choose : Choice) (rows : List Row) (IsFit : FunctionData → Type 0) (Refines : FunctionData → FunctionData → Type 0) (weight : FunctionData → ℕ) (f now next : FunctionData) (count id : ℕ)
    → IsSound rows IsFit Refines weight → IsUnderway choose rows IsFit Refines weight f now count
    → IsLive now id → choose (fits rows now) now ≡ Some id → first_fit rows now id ≡ Some next
    → IsUnderway choose rows IsFit Refines weight f next (suc count)
goes-on choose rows IsFit Refines weight f now next count id sound way live chosen step =
    let is : next_by choose rows now ≡ Some next = rw chosen step in
    record {
      leads = λ k g comes.
          let more : Comes choose rows (suc k) now g = (next, is, comes) in
          let count_then : count + suc k ≡ suc count + k = omega arith in
          subst (λ (n : ℕ). Comes choose rows n f g) count_then (way.leads (suc k) g more);
      fit = sound.fit now next id way.fit live step;
      refines = sound.onwards f now next way.refines (sound.refines now next id way.fit live step);
      falls = omega (arith, way.falls, sound.falls now next id way.fit live step);
      registers = omega (arith, way.registers, sound.registers now next id way.fit live step);
    }

pub ends : (choose : Choice) (rows : List Row) (IsFit : FunctionData → Type 0) (Refines : FunctionData → FunctionData → Type 0) (weight : FunctionData → ℕ) (f now : FunctionData) (count trials : ℕ)
    → IsUnderway choose rows IsFit Refines weight f now count → count ≤ trials → next_by choose rows now ≡ None → IsNormalised choose rows IsFit Refines weight trials f now
ends choose rows IsFit Refines weight f now count trials way counted none = record {
  count = count;
  comes =
      let same : count + 0 ≡ count = omega arith in
      subst (λ (n : ℕ). Comes choose rows n f now) same (way.leads 0 now (none, refl));
  within = omega (arith, way.falls, way.registers);
  counted = counted;
  fit = way.fit;
  refines = way.refines;
  registers = omega (arith, way.falls);
}

-- ---- no place is chosen, or none fits there

pub none-chosen : (choose : Choice) (rows : List Row) (f : FunctionData) → choose (fits rows f) f ≡ None → next_by choose rows f ≡ None
none-chosen choose rows f none = rw none refl

pub none-fits : (choose : Choice) (rows : List Row) (f : FunctionData) (id : ℕ) → choose (fits rows f) f ≡ Some id → first_fit rows f id ≡ None → next_by choose rows f ≡ None
none-fits choose rows f id chosen none = rw chosen none

-- ---- it is there

pub there : (choose : Choice) (rows : List Row) (IsFit : FunctionData → Type 0) (Refines : FunctionData → FunctionData → Type 0) (weight : FunctionData → ℕ) (f : FunctionData)
    → IsStanding choose → IsSound rows IsFit Refines weight → IsFit f → (g : FunctionData) × IsNormalised choose rows IsFit Refines weight (weight f) f g
there choose rows IsFit Refines weight f standing sound fit = by (weight f + f.next_reg) f 0 (begins choose rows IsFit Refines weight f sound fit) (omega arith)
  where
    ending : (now : FunctionData) (count : ℕ) → IsUnderway choose rows IsFit Refines weight f now count → next_by choose rows now ≡ None → (g : FunctionData) × IsNormalised choose rows IsFit Refines weight (weight f) f g
    ending now count way none = (now, ends choose rows IsFit Refines weight f now count (weight f) way (omega (arith, way.falls, way.registers)) none)

    steps : (now next : FunctionData) (count : ℕ) → IsUnderway choose rows IsFit Refines weight f now count → next_by choose rows now ≡ Some next → IsUnderway choose rows IsFit Refines weight f next (suc count)
    steps now next count way e = from (choose (fits rows now) now) refl e
      where
        from : (o : Option ℕ) → choose (fits rows now) now ≡ o → option_and_then (first_fit rows now) o ≡ Some next → IsUnderway choose rows IsFit Refines weight f next (suc count)
        from None chosen is = cc
        from (Some id) chosen is = goes-on choose rows IsFit Refines weight f now next count id sound way (standing.live (fits rows now) now id chosen) chosen is

    by : (fuel : ℕ) (now : FunctionData) (count : ℕ) → IsUnderway choose rows IsFit Refines weight f now count → weight f + f.next_reg ≤ count + fuel → (g : FunctionData) × IsNormalised choose rows IsFit Refines weight (weight f) f g
    by zero now count way small = at (next_by choose rows now) refl
      where
        at : (o : Option FunctionData) → next_by choose rows now ≡ o → (g : FunctionData) × IsNormalised choose rows IsFit Refines weight (weight f) f g
        at None e = ending now count way e
        at (Some next) e = let then = steps now next count way e in absurd (omega (arith, then.falls))
    by (suc fuel) now count way small = at (next_by choose rows now) refl (λ next way_then. by fuel next (suc count) way_then (omega (arith, small)))
      where
        at : (o : Option FunctionData) → next_by choose rows now ≡ o
            → ((next : FunctionData) → IsUnderway choose rows IsFit Refines weight f next (suc count) → (g : FunctionData) × IsNormalised choose rows IsFit Refines weight (weight f) f g)
            → (g : FunctionData) × IsNormalised choose rows IsFit Refines weight (weight f) f g
        at None e more = ending now count way e
        at (Some next) e more = more next (steps now next count way e)

-- ---- on the way, with what was told and counted

pub record IsGoing (choose : Choice) (rows : List Row) (IsFit : FunctionData → Type 0) (Refines : FunctionData → FunctionData → Type 0) (weight : FunctionData → ℕ) (f now : FunctionData) (pass : Pass) (tells : Bool) (before after : List Change) (start steps : ℕ) : Type 0 where
  pub count : ℕ
  pub way : IsUnderway choose rows IsFit Refines weight f now count
  pub counted : start + count ≤ steps
  pub told : TellsAll pass tells before after f now

name-one : (f : FunctionData) (kind : ChangeKind) → (replayed_one f kind).name ≡ f.name
name-one f (Created id block before instr) = refl
name-one f (Erased id instr) = refl
name-one f (Changed id old new) = refl

name-replayed : (f : FunctionData) (changes : List Change) → (replayed f changes).name ≡ f.name
name-replayed f [] = refl
name-replayed f (change ∷ changes) = name-replayed (replayed_one f change.kind) changes ∙ name-one f change.kind

-- no change renames a function
pub same-name : (changes : List Change) (f g : FunctionData) → IsReplay changes f g → g.name ≡ f.name
same-name changes f g replay = ap (λ (k : FunctionData). k.name) replay.same ∙ name-replayed f changes

pub tells-none : (pass : Pass) (tells : Bool) (before : List Change) (f : FunctionData) → TellsAll pass tells before before f f
tells-none pass tells before f = record { changes = []; own = All-nil (IsChangeOf f.name pass); replay = record { same = refl }; seen = λ is. sym (append-nil before) }

pub tells-both : (pass : Pass) (tells : Bool) (before middle after : List Change) (f g h : FunctionData) → TellsAll pass tells before middle f g → TellsAll pass tells middle after g h → TellsAll pass tells before after f h
tells-both pass tells before middle after f g h one two = record {
  changes = one.changes ++ two.changes;
  own = All-append (IsChangeOf f.name pass) one.changes two.changes one.own (subst (λ (n : ℕ). All (IsChangeOf n pass) two.changes) (same-name one.changes f g one.replay) two.own);
  replay = IsReplay-joined one.changes two.changes f g h one.replay two.replay;
  seen = λ is. two.seen is ∙ ap (λ (xs : List Change). xs ++ two.changes) (one.seen is) ∙ append_assoc before one.changes two.changes;
}

-- one change was told
pub tells-one : (pass : Pass) (tells : Bool) (before after : List Change) (f g : FunctionData) (kind : ChangeKind) → IsReplay (change_of f.name pass kind ∷ []) f g → (IsTrue tells → after ≡ before ++ change_of f.name pass kind ∷ []) → TellsAll pass tells before after f g
tells-one pass tells before after f g kind replay seen = record {
  changes = change_of f.name pass kind ∷ [];
  own = All-cons (IsChangeOf f.name pass) (change_of f.name pass kind) [] (record { function = refl; in_pass = refl }) (All-nil (IsChangeOf f.name pass));
  replay = replay;
  seen = seen;
}

-- in the same pass, to who tells the same
pub tells-same : (pass pass' : Pass) (tells tells' : Bool) (before after : List Change) (f g : FunctionData) → pass ≡ pass' → tells ≡ tells' → TellsAll pass tells before after f g → TellsAll pass' tells' before after f g
tells-same pass pass' tells tells' before after f g one two told =
    subst (λ (p : Pass). TellsAll p tells' before after f g) one (subst (λ (t : Bool). TellsAll pass t before after f g) two told)

pub going-begins : (choose : Choice) (rows : List Row) (IsFit : FunctionData → Type 0) (Refines : FunctionData → FunctionData → Type 0) (weight : FunctionData → ℕ) (f : FunctionData) (pass : Pass) (tells : Bool) (before : List Change) (start : ℕ)
    → IsSound rows IsFit Refines weight → IsFit f → IsGoing choose rows IsFit Refines weight f f pass tells before before start start
going-begins choose rows IsFit Refines weight f pass tells before start sound fit = record {
  count = 0;
  way = begins choose rows IsFit Refines weight f sound fit;
  counted = omega arith;
  told = tells-none pass tells before f;
}

pub going-on : (choose : Choice) (rows : List Row) (IsFit : FunctionData → Type 0) (Refines : FunctionData → FunctionData → Type 0) (weight : FunctionData → ℕ) (f now next : FunctionData) (pass : Pass) (tells : Bool) (before middle after : List Change) (start steps later id : ℕ)
    → IsSound rows IsFit Refines weight → IsGoing choose rows IsFit Refines weight f now pass tells before middle start steps
    → IsLive now id → choose (fits rows now) now ≡ Some id → first_fit rows now id ≡ Some next → TellsAll pass tells middle after now next → steps + 1 ≤ later
    → IsGoing choose rows IsFit Refines weight f next pass tells before after start later
going-on choose rows IsFit Refines weight f now next pass tells before middle after start steps later id sound going live chosen step told one = record {
  count = suc going.count;
  way = goes-on choose rows IsFit Refines weight f now next going.count id sound going.way live chosen step;
  counted = omega (arith, going.counted, one);
  told = tells-both pass tells before middle after f now next going.told told;
}

pub going-ends : (choose : Choice) (rows : List Row) (IsFit : FunctionData → Type 0) (Refines : FunctionData → FunctionData → Type 0) (weight : FunctionData → ℕ) (f now : FunctionData) (pass : Pass) (tells : Bool) (before after : List Change) (start steps later : ℕ)
    → IsGoing choose rows IsFit Refines weight f now pass tells before after start steps → steps ≤ later → next_by choose rows now ≡ None → IsNormalised choose rows IsFit Refines weight (later - start) f now
going-ends choose rows IsFit Refines weight f now pass tells before after start steps later going more none =
    ends choose rows IsFit Refines weight f now going.count (later - start) going.way (omega (arith, going.counted, more)) none

-- ---- what a trial answered

pub fitted : (is : Bool) (o : Option FunctionData) (next : FunctionData) → o ≡ cond is (Some next) None → is ≡ true → o ≡ Some next
fitted true o next h e = h
fitted false o next h e = cc

pub unfitted : (is : Bool) (o : Option FunctionData) (next : FunctionData) → o ≡ cond is (Some next) None → is ≡ false → o ≡ None
unfitted true o next h e = cc
unfitted false o next h e = h

-- ---- the next rewriting

-- where it was made
pub record IsMadeAt (choose : Choice) (rows : List Row) (f next : FunctionData) : Type 0 where
  pub id : ℕ
  pub chosen : choose (fits rows f) f ≡ Some id
  pub step : first_fit rows f id ≡ Some next

pub made-at : (choose : Choice) (rows : List Row) (f next : FunctionData) → next_by choose rows f ≡ Some next → IsMadeAt choose rows f next
made-at choose rows f next e = from (choose (fits rows f) f) refl e
  where
    from : (o : Option ℕ) → choose (fits rows f) f ≡ o → option_and_then (first_fit rows f) o ≡ Some next → IsMadeAt choose rows f next
    from None chosen is = cc
    from (Some id) chosen is = record { id = id; chosen = chosen; step = is }

pub going-next : (choose : Choice) (rows : List Row) (IsFit : FunctionData → Type 0) (Refines : FunctionData → FunctionData → Type 0) (weight : FunctionData → ℕ) (f now next : FunctionData) (pass : Pass) (tells : Bool) (before middle after : List Change) (start steps later : ℕ)
    → IsStanding choose → IsSound rows IsFit Refines weight → IsGoing choose rows IsFit Refines weight f now pass tells before middle start steps
    → next_by choose rows now ≡ Some next → TellsAll pass tells middle after now next → steps + 1 ≤ later
    → IsGoing choose rows IsFit Refines weight f next pass tells before after start later
going-next choose rows IsFit Refines weight f now next pass tells before middle after start steps later standing sound going is told one =
    let made = made-at choose rows now next is in
    going-on choose rows IsFit Refines weight f now next pass tells before middle after start steps later made.id sound going (standing.live (fits rows now) now made.id made.chosen) made.chosen made.step told one

-- the weight falls
pub next-falls : (choose : Choice) (rows : List Row) (IsFit : FunctionData → Type 0) (Refines : FunctionData → FunctionData → Type 0) (weight : FunctionData → ℕ) (now next : FunctionData)
    → IsStanding choose → IsSound rows IsFit Refines weight → IsFit now → next_by choose rows now ≡ Some next → weight next < weight now
next-falls choose rows IsFit Refines weight now next standing sound fit is =
    let made = made-at choose rows now next is in
    let live = standing.live (fits rows now) now made.id made.chosen in
    omega (arith, sound.falls now next made.id fit live made.step, sound.registers now next made.id fit live made.step)
