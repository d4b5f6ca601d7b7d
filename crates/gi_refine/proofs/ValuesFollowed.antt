-- A sound rule on values, placed on registers: what the new instructions do, the old do too, or they are undefined.
use Rattle.std.proofs.Common.{◌≡◌, ℕ, ◌^◌, ◌<◌, Bool, true, false, cond, ◌==◌, not, ◌&&◌, ◌||◌, List, [], ◌∷◌, map, Option, Some, None, slice_get, ◌⊎◌, inl, inr, ⊎_elim, refl, sym, ap, ◌∙◌, subst, eqb-true}
use Rattle.std.proofs.lemmas.Bool.{and_parts, or_parts, or_cases, not-true}
use Rattle.std.proofs.lemmas.Option.{same_Some}
use Rattle.gi_mir.specs.Data.{InstrData}
use Rattle.gi_meaning.specs.State.{World, State, Outside, outside_of, Undefined, Place, Virtual, Physical}
use Rattle.gi_meaning.specs.Runs.{Setting, Progress, On, Over, Executes}
use Rattle.gi_refine.specs.Agreement.{Agree, ValueStands, setting}
use Rattle.gi_refine.specs.Kept.{HasSameValue}
use Rattle.gi_refine.specs.Simulation.{Stands, IsFollowed}
use Rattle.gi_refine.specs.Values.{Environment, Makes, AllHold, Rule, Correspond, MayMake, ForAllOf, IsSound}
use Rattle.gi_refine.specs.Lifting.{all_grown, is_result, none_hidden, is_register, Placing, is_kept, left_hidden, IsPlaced, Reads, AreSized, AgreeReady}
use Rattle.gi_refine.proofs.Agreeing.{same_value, same_value_stands, outside_same}
use Rattle.gi_refine.proofs.ValuesPlaced.{Became, Settled, Forward, forward, Backward, backward}
use Rattle.gi_refine.proofs.ValuesStepped.{BothRead, both_read}

-- ══ The inputs ══

-- a claim for all values of these widths, at the values of registers
pub for_all_at : (width : ℕ → ℕ) (values : ℕ → Option ℕ) (rs : List ℕ) (env : Environment) (claim : Environment → Type 0) → Reads width values rs env → AreSized env → ForAllOf (map width rs) claim → claim env
for_all_at width values [] [] claim reads sized all = all
for_all_at width values [] (entry ∷ env) claim reads sized all = absurd reads
for_all_at width values (r ∷ rs) [] claim reads sized all = absurd reads
for_all_at width values (r ∷ rs) (entry ∷ env) claim reads sized all =
    for_all_at width values rs env (λ e. claim (entry ∷ e)) reads.2 sized.1
    (subst (λ n. (value : ℕ) → value < 2 ^ n → ForAllOf (map width rs) (λ e. claim ((n, value) ∷ e))) (sym reads.0) all entry.1 sized.0)

first_of : (n m : ℕ) (ns ms : List ℕ) → n ∷ ns ≡ m ∷ ms → n ≡ m
first_of n m ns ms h = cc

rest_of : (n m : ℕ) (ns ms : List ℕ) → n ∷ ns ≡ m ∷ ms → ns ≡ ms
rest_of n m ns ms h = cc

-- registers that aren't hidden have the same values in the new state
reads_new : (x : ℕ) (names : List (List ℕ)) (width width' : ℕ → ℕ) (hidden : Place → Bool) (old new : State) → Agree (setting x names width) (setting x names width') hidden old new → (rs : List ℕ) (env : Environment) → none_hidden hidden rs ≡ true → map width rs ≡ map width' rs
    → Reads width old.values rs env → Reads width' new.values rs env
reads_new x names width width' hidden old new agree [] [] seen same reads = tt
reads_new x names width width' hidden old new agree [] (entry ∷ env) seen same reads = absurd reads
reads_new x names width width' hidden old new agree (r ∷ rs) [] seen same reads = absurd reads
reads_new x names width width' hidden old new agree (r ∷ rs) (entry ∷ env) seen same reads = (
  reads.0 ∙ first_of (width r) (width' r) (map width rs) (map width' rs) same,
  subst (λ v. HasSameValue v (new.values r)) reads.1
      (same_value x (width r) (old.values r) (new.values r)
      (subst (λ n. ValueStands x (width r) n (old.values r) (new.values r)) (sym (first_of (width r) (width' r) (map width rs) (map width' rs) same))
      (agree.values r (not-true (hidden (Virtual r)) (and_parts (not (hidden (Virtual r))) (none_hidden hidden rs) seen).0)))),
  reads_new x names width width' hidden old new agree rs env (and_parts (not (hidden (Virtual r))) (none_hidden hidden rs) seen).1 (rest_of (width r) (width' r) (map width rs) (map width' rs) same) reads.2,
)

-- ══ The results ══

entries_stand : (x : ℕ) (width width' : ℕ → ℕ) (values values' : ℕ → Option ℕ) (q q' : ℕ) (entry entry' : Option (ℕ × ℕ)) → BothRead width values (Some q) entry → BothRead width' values' (Some q') entry' → entry' ≡ entry → ValueStands x (width q) (width' q') (values q) (values' q')
entries_stand x width width' values values' q q' None entry' both both' same = absurd both
entries_stand x width width' values values' q q' (Some entry) None both both' same = absurd both'
entries_stand x width width' values values' q q' (Some entry) (Some entry') both both' same =
    subst (λ n. ValueStands x (width q) n (values q) (values' q')) (sym both.0 ∙ ap (λ e. e.0) (sym (same_Some entry' entry same)) ∙ both'.0)
    (same_value_stands x (width q) (values q) (values' q') (subst (λ v. HasSameValue v (values' q')) (sym both.1) (both'.1 ∙ ap (λ e. Some e.1) (same_Some entry' entry same))))

pair_stands : (x : ℕ) (width width' : ℕ → ℕ) (values values' : ℕ → Option ℕ) (r : ℕ) (a a' : Option ℕ) (entry entry' : Option (ℕ × ℕ)) → (is_register r a && is_register r a') ≡ true
    → BothRead width values a entry → BothRead width' values' a' entry' → entry' ≡ entry → ValueStands x (width r) (width' r) (values r) (values' r)
pair_stands x width width' values values' r None a' entry entry' is both both' same = cc
pair_stands x width width' values values' r (Some q) None entry entry' is both both' same = let no : false ≡ true = (and_parts (r == q) false is).1 in cc
pair_stands x width width' values values' r (Some q) (Some q') entry entry' is both both' same =
    let here : r ≡ q = eqb-true r q (and_parts (r == q) (r == q') is).0 in
    let there : r ≡ q' = eqb-true r q' (and_parts (r == q) (r == q') is).1 in
    subst (λ k. ValueStands x (width k) (width' r) (values k) (values' r)) (sym here) (subst (λ k. ValueStands x (width q) (width' k) (values q) (values' k)) (sym there)
    (entries_stand x width width' values values' q q' entry entry' both both' same))

-- a register that is kept on both sides has one value
kept_stands : (x : ℕ) (width width' : ℕ → ℕ) (old new : State) (rs rs' : List ℕ) (env env' : Environment) → Reads width old.values rs env → Reads width' new.values rs' env' → (pairs : List (ℕ × ℕ))
    → Correspond pairs env env' → (r : ℕ) → is_kept rs rs' pairs r ≡ true → ValueStands x (width r) (width' r) (old.values r) (new.values r)
kept_stands x width width' old new rs rs' env env' reads reads' [] same r kept = cc
kept_stands x width width' old new rs rs' env env' reads reads' (pair ∷ pairs) same r kept =
    ⊎_elim
    (λ is. pair_stands x width width' old.values new.values r (slice_get rs pair.0) (slice_get rs' pair.1) (slice_get env pair.0) (slice_get env' pair.1) is
    (both_read width old.values rs env pair.0 reads) (both_read width' new.values rs' env' pair.1 reads') same.0)
    (λ later. kept_stands x width width' old new rs rs' env env' reads reads' pairs same.1 r later)
    (or_cases (is_register r (slice_get rs pair.0) && is_register r (slice_get rs' pair.1)) (is_kept rs rs' pairs r) kept)

shown_value : (is kept hidden : Bool) (stands : Type 0) → (is ≡ false → hidden ≡ false → stands) → (kept ≡ true → stands) → cond is (not kept) hidden ≡ false → stands
shown_value true true hidden stands other here h = here refl
shown_value true false hidden stands other here h = cc
shown_value false kept hidden stands other here h = other refl h

agree_after : (x : ℕ) (names : List (List ℕ)) (width width' : ℕ → ℕ) (rule : Rule) (placing : Placing) (before after : Place → Bool) (old new final final' : State) (env env' : Environment) → Agree (setting x names width) (setting x names width') before old new
    → ((p : Place) → after p ≡ false → left_hidden before rule placing p ≡ false)
    → Became width old (λ r. is_result r placing.old) (all_grown placing.inputs placing.old) env final → Became width' new (λ r. is_result r placing.new) (all_grown placing.inputs placing.new) env' final'
    → Correspond rule.kept env env' → Agree (setting x names width) (setting x names width') after final final'
agree_after x names width width' rule placing before after old new final final' env env' agree covered became became' same = record {
  values = λ r seen. shown_value (is_result r placing.old || is_result r placing.new)
      (is_kept (all_grown placing.inputs placing.old) (all_grown placing.inputs placing.new) rule.kept r) (before (Virtual r)) (ValueStands x (width r) (width' r) (final.values r) (final'.values r))
      (λ other shown.
      subst (λ v. ValueStands x (width r) (width' r) v (final'.values r)) (sym (became.kept r (or_parts (is_result r placing.old) (is_result r placing.new) other).0))
      (subst (λ v. ValueStands x (width r) (width' r) (old.values r) v) (sym (became'.kept r (or_parts (is_result r placing.old) (is_result r placing.new) other).1)) (agree.values r shown)))
      (λ kept. kept_stands x width width' final final' (all_grown placing.inputs placing.old) (all_grown placing.inputs placing.new) env env' became.reads became'.reads rule.kept same r kept)
      (covered (Virtual r) seen);
  words = λ n seen. ap (λ (f : ℕ → ℕ). f n) became'.words ∙ agree.words n (covered (Physical n) seen) ∙ sym (ap (λ (f : ℕ → ℕ). f n) became.words);
  memory = ap (λ (o : Outside). o.memory) became'.outside ∙ agree.memory ∙ sym (ap (λ (o : Outside). o.memory) became.outside);
  taken = ap (λ (o : Outside). o.taken) became'.outside ∙ agree.taken ∙ sym (ap (λ (o : Outside). o.taken) became.outside);
}

-- ══ The law ══

old_undefined : (s : Setting) (w : World) (is : List (ℕ × InstrData)) (state : State) (is_written : ℕ → Bool) (rs : List ℕ) → Backward s w (Executes s w is state) state is_written rs None → Executes s w is state (Over Undefined)
old_undefined s w is state is_written rs back = subst (λ p. Executes s w is state p) back.settled back.run

old_goes_on : (x : ℕ) (names : List (List ℕ)) (width width' : ℕ → ℕ) (w : World) (rule : Rule) (placing : Placing) (before after : Place → Bool) (exit : ℕ → State → State → Type 0) (is : List (ℕ × InstrData)) (old new : State)
    (env env' : Environment) (p' : Progress) → Agree (setting x names width) (setting x names width') before old new → ((p : Place) → after p ≡ false → left_hidden before rule placing p ≡ false) → Correspond rule.kept env env'
    → Backward (setting x names width) w (Executes (setting x names width) w is old) old (λ r. is_result r placing.old) (all_grown placing.inputs placing.old) (Some env)
    → Settled width' new (λ r. is_result r placing.new) (all_grown placing.inputs placing.new) p' (Some env')
    → (p : Progress) × Executes (setting x names width) w is old p × Stands (Agree (setting x names width) (setting x names width') after) exit p p'
old_goes_on x names width width' w rule placing before after exit is old new env env' p' agree covered same back settled' =
    let final : State = back.settled.0 in
    let final' : State = settled'.0 in
    let stands : Stands (Agree (setting x names width) (setting x names width') after) exit (On final) (On final') =
    agree_after x names width width' rule placing before after old new final final' env env' agree covered back.settled.2 settled'.2 same in (
      back.progress,
      back.run,
      subst (λ p. Stands (Agree (setting x names width) (setting x names width') after) exit p p') (sym back.settled.1) (subst (λ p. Stands (Agree (setting x names width) (setting x names width') after) exit (On final) p) (sym settled'.1) stands),
    )

follow_made : (x : ℕ) (names : List (List ℕ)) (width width' : ℕ → ℕ) (w : World) (rule : Rule) (placing : Placing) (before after : Place → Bool) (exit : ℕ → State → State → Type 0) (is : List (ℕ × InstrData)) (old new : State)
    (env : Environment) (p' : Progress) → Agree (setting x names width) (setting x names width') before old new → ((p : Place) → after p ≡ false → left_hidden before rule placing p ≡ false)
    → ((m : Option Environment) → Makes x w (outside_of old) rule.old env m
    → Backward (setting x names width) w (Executes (setting x names width) w is old) old (λ r. is_result r placing.old) (all_grown placing.inputs placing.old) m)
    → (made : Option Environment) → Settled width' new (λ r. is_result r placing.new) (all_grown placing.inputs placing.new) p' made
    → MayMake x w (outside_of old) rule env made
    → ((p : Progress) × Executes (setting x names width) w is old p × Stands (Agree (setting x names width) (setting x names width') after) exit p p') ⊎ Executes (setting x names width) w is old (Over Undefined)
follow_made x names width width' w rule placing before after exit is old new env p' agree covered back None settled may =
    inr (old_undefined (setting x names width) w is old (λ r. is_result r placing.old) (all_grown placing.inputs placing.old) (back None may))
follow_made x names width width' w rule placing before after exit is old new env p' agree covered back (Some env') settled may =
    ⊎_elim
    (λ made. inl (old_goes_on x names width width' w rule placing before after exit is old new made.0 env' p' agree covered made.2 (back (Some made.0) made.1) settled))
    (λ undefined. inr (old_undefined (setting x names width) w is old (λ r. is_result r placing.old) (all_grown placing.inputs placing.old) (back None undefined)))
    may

-- a sound rule lifts to the instructions that show it
pub values_followed : (x : ℕ) (names : List (List ℕ)) (width width' : ℕ → ℕ) (w : World) (rule : Rule) (placing : Placing) (before after : Place → Bool) (exit : ℕ → State → State → Type 0) (is is' : List (ℕ × InstrData))
    → IsSound x w rule → IsPlaced x names width width' w rule placing before after is is'
    → IsFollowed (setting x names width) (setting x names width') w (AgreeReady (setting x names width) (setting x names width') w rule placing.inputs before) (Agree (setting x names width) (setting x names width') after) exit is is'
values_followed x names width width' w rule placing before after exit is is' sound placed = record {
  by = λ old new related p' run.
      let env : Environment = related.ready.env in
      let made : Forward width' (Makes x w (outside_of old) rule.new env) new (λ r. is_result r placing.new) (all_grown placing.inputs placing.new) p' =
      forward (setting x names width') w (outside_of old) placing.new rule.new is' placing.inputs env new p' placed.new_shown placed.new_pure placed.new_fresh (outside_same (setting x names width) (setting x names width') before old new related.agree)
      (reads_new x names width width' before old new related.agree placing.inputs env placed.seen (placed.old_widths ∙ sym placed.new_widths) related.ready.read) run in
      follow_made x names width width' w rule placing before after exit is old new env p' related.agree placed.covered
      (λ m makes. backward (setting x names width) w (outside_of old) placing.old rule.old is placing.inputs env old m placed.old_shown placed.old_pure placed.old_fresh refl related.ready.read makes)
      made.made made.settled
      (for_all_at width old.values placing.inputs env
      (λ e. AllHold x w (outside_of old) e rule.facts → (m : Option Environment) → Makes x w (outside_of old) rule.new e m → MayMake x w (outside_of old) rule e m)
      related.ready.read related.ready.sized
      (subst (λ ns. ForAllOf ns (λ e. AllHold x w (outside_of old) e rule.facts → (m : Option Environment) → Makes x w (outside_of old) rule.new e m → MayMake x w (outside_of old) rule e m)) (sym placed.old_widths) (sound.by (outside_of old)))
      related.ready.facts made.made made.does);
}
