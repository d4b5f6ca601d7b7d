-- Rules that put parts together and take them apart are sound, for any number of parts.
use Rattle.std.proofs.Common.{◌≡◌, ℕ, suc, ◌+◌, ◌*◌, ◌^◌, ◌<◌, ◌≤◌, nat_le, false, List, [], ◌∷◌, ◌++◌, length, map, Option, Some, slice_get, lit<, refl, sym, ap, ap₂, ◌∙◌, subst, arith, append_assoc, zero, ◌/◌}
use Rattle.std.specs.Prelude.{bit_or}
use Rattle.std.specs.Int.Bits.{or_shifted_r}
use Rattle.std.proofs.Math.Nat.{mod-eq_of_lt, mul_comm, pow-le-pow_right, div-div-eq-div-mul}
use Rattle.std.proofs.lemmas.List.{append-nil}
use Rattle.std.proofs.lemmas.Nat.{mul-add-lt, pow-add}
use Rattle.gi_llt.specs.Bits.{wrapped}
use Rattle.gi_llt.specs.Llt.{width_of}
use Rattle.gi_meaning.specs.Argument.{Value}
use Rattle.gi_meaning.specs.Generic.{merged, parts_of}
use Rattle.gi_meaning.specs.Given.{Exactly}
use Rattle.gi_meaning.specs.State.{World}
use Rattle.gi_mir.specs.declared.opcode.Opcode.TheVariants as op
use Rattle.gi_mir.specs.declared.operand.Flags.{Flags}
use Rattle.gi_refine.specs.Values.{Environment, Operation, arguments_at}
use Rattle.gi_refine.proofs.Basics.{copied_whole}
use Rattle.gi_rule_values.specs.Artifacts.{copies_from, merge_from, unmerge_of_merge}
use Rattle.gi_rule_values.specs.Data.{RewriteData}
use Rattle.gi_rule_values.specs.Forms.{number, on_one, on_two, parts, s}
use Rattle.gi_rule_values.specs.Lowering.{lower_merge, merge_place, merge_steps, lower_unmerge, unmerge_places, unmerge_steps}
use Rattle.gi_rule_values.specs.OnValues.{fact_of, operation_on_values}
use Rattle.gi_rule_values.specs.Running.{AreEqual, ForAllRuns, IfDefined, IfKnown, IfThere, IsSoundRewrite, MayGive, OfGiven, RootMay, AreThere}
use Rattle.gi_rule_values.proofs.ByNumbers.{get_left, longer}
use Rattle.gi_rule_values.proofs.Lists.{AllFit, StandFrom, are_equal, are_there, for_all_parts, get_at, one_step, parts_back, placed, placed_long, read_one, read_two, slots_are, stand_at, stand_longer}

-- ══ Taken apart again ══

-- a copy of each part stands behind what stood
copies_run : (x : ℕ) (names : List (List ℕ)) (w : World) (env : Environment) (place width : ℕ) (values : List ℕ) (claim : Option Environment → Type 0)
    → StandFrom env place width values → claim (Some (env ++ placed width values)) → ForAllRuns x (map (operation_on_values x names w) (copies_from place (length values) width)) env claim
copies_run x names w env place width [] claim stand h = subst (λ (e : Environment). claim (Some e)) (append-nil env) h
copies_run x names w env place width (v ∷ vs) claim stand h =
    one_step x (operation_on_values x names w (on_one op.Copy place (s width))) (map (operation_on_values x names w) (copies_from (place + 1) (length vs) width)) env claim (Value width v ∷ []) (read_one env place width v stand.0)
    (rw (copied_whole width v)
    (copies_run x names w (env ++ (width, v) ∷ []) (place + 1) width vs claim (stand_longer env ((width, v) ∷ []) (place + 1) width vs stand.1)
    (subst (λ (e : Environment). claim (Some e)) (sym (append_assoc env ((width, v) ∷ []) (placed width vs))) h)))

-- what the rewrite owes at a whole and its parts
abbrev Owed : (x : ℕ) (names : List (List ℕ)) (w : World) → RewriteData → Environment → Type 0
Owed x names w rewrite env =
    IfKnown env (map (fact_of x names w) rewrite.definitions)
    (ForAllRuns x (map (operation_on_values x names w) rewrite.made) env (RootMay (operation_on_values x names w rewrite.root) rewrite.results env))

parts_apart : (x : ℕ) (names : List (List ℕ)) (w : World) (flags more : Flags) (width whole : ℕ) (values : List ℕ) → AllFit width values
    → Owed x names w (unmerge_of_merge flags more width (length values)) ((length values * width, whole) ∷ placed width values)
parts_apart x names w flags more width whole values all =
    let n : ℕ = length values in
    let row : RewriteData = unmerge_of_merge flags more width n in
    let env : Environment = (n * width, whole) ∷ placed width values in
    let stand : StandFrom env 1 width values = stand_at ((n * width, whole) ∷ []) width values 1 refl in
    subst (λ found. IfDefined (operation_on_values x names w (merge_from more 1 n width)) found (Some (whole ∷ []))
    (ForAllRuns x (map (operation_on_values x names w) row.made) env (RootMay (operation_on_values x names w row.root) row.results env)))
    (sym (slots_are x names w env 1 width values stand))
    (λ is. copies_run x names w env 1 width values (RootMay (operation_on_values x names w row.root) row.results env) stand
    (are_there x (env ++ placed width values) (n + 1) width values (λ vs. MayGive (Exactly (parts_of (map (width_of x) (parts n width)) whole)) vs)
    (stand_at env width values (n + 1) (ap (λ k. suc k) (placed_long width values) ∙ omega arith))
    (subst (λ (us : List ℕ). AreEqual us values) (sym (ap (parts_of (map (width_of x) (parts n width))) is ∙ parts_back x width values all)) (are_equal values))))

pub unmerge_of_merge_sound : (x : ℕ) (flags more : Flags) (width count : ℕ) → IsSoundRewrite x (unmerge_of_merge flags more width count)
unmerge_of_merge_sound x flags more width count = record {
  by = λ names w is_world whole whole_fits.
      for_all_parts x width count (λ env. Owed x names w (unmerge_of_merge flags more width count) ((count * width, whole) ∷ env))
      (λ values long all. subst (λ (n : ℕ). Owed x names w (unmerge_of_merge flags more width n) ((n * width, whole) ∷ placed width values)) long (parts_apart x names w flags more width whole values all));
}

-- ══ Put together ══

-- a part above what is there
joined : (bits width i v sum : ℕ) → v < 2 ^ width → sum < 2 ^ (i * width) → (i + 1) * width ≤ bits
    → (bit_or sum (wrapped bits (v * 2 ^ (i * width))) ≡ v * 2 ^ (i * width) + sum) × (v * 2 ^ (i * width) + sum < 2 ^ ((i + 1) * width))
joined bits width i v sum fits below within =
    let next : (i + 1) * width ≡ width + i * width = omega arith in
    let whole : 2 ^ ((i + 1) * width) ≡ 2 ^ width * 2 ^ (i * width) = ap (λ k. 2 ^ k) next ∙ pow-add 2 width (i * width) in
    let room : 2 ^ ((i + 1) * width) ≤ 2 ^ bits = pow-le-pow_right (lit< tt) within in
    let inside : v * 2 ^ (i * width) + sum < 2 ^ (i * width) * 2 ^ width = mul-add-lt v (2 ^ (i * width)) sum (2 ^ width) fits below in
    let turned : 2 ^ (i * width) * 2 ^ width ≡ 2 ^ width * 2 ^ (i * width) = mul_comm (2 ^ (i * width)) (2 ^ width) in
    (ap (bit_or sum) (mod-eq_of_lt (omega (arith, inside, turned, whole, room))) ∙ or_shifted_r v (i * width) sum below, omega (arith, inside, turned, whole))

merge_runs : (x : ℕ) (names : List (List ℕ)) (w : World) (bits width : ℕ) (values : List ℕ) (env : Environment) (sum_at next i sum : ℕ) (claim : Option Environment → Type 0)
    → length env ≡ next → slice_get env sum_at ≡ Some (bits, sum) → StandFrom env i width values → AllFit width values → 1 ≤ width → sum < 2 ^ (i * width) → (i + length values) * width ≤ bits
    → ((final : Environment) → slice_get final (merge_place sum_at next (length values)) ≡ Some (bits, sum + 2 ^ (i * width) * merged (map (Value width) values)) → claim (Some final))
    → ForAllRuns x (map (operation_on_values x names w) (merge_steps bits width sum_at next i (length values))) env claim
merge_runs x names w bits width [] env sum_at next i sum claim long here stand all some below within h = h env (here ∙ ap (λ k. Some (bits, k)) (omega arith))
merge_runs x names w bits width (v ∷ vs) env sum_at next i sum claim long here stand all some below within h =
    let one : Environment = env ++ (bits, v) ∷ [] in
    let two : Environment = one ++ (bits, i * width) ∷ [] in
    let shifted : ℕ = wrapped bits (v * 2 ^ (i * width)) in
    let three : Environment = two ++ (bits, shifted) ∷ [] in
    let four : Environment = three ++ (bits, bit_or sum shifted) ∷ [] in
    let (is, fits) = joined bits width i v sum all.0 below (room (length vs) within) in
    let least : nat_le bits (i * width) ≡ false = beyond (length vs) within in
    let long_one : length one ≡ next + 1 = longer env (bits, v) ∙ ap (λ k. k + 1) long in
    let long_two : length two ≡ next + 2 = longer one (bits, i * width) ∙ ap (λ k. k + 1) long_one ∙ omega arith in
    let long_three : length three ≡ next + 3 = longer two (bits, shifted) ∙ ap (λ k. k + 1) long_two ∙ omega arith in
    let long_four : length four ≡ next + 4 = longer three (bits, bit_or sum shifted) ∙ ap (λ k. k + 1) long_three ∙ omega arith in
    let first_at : slice_get two next ≡ Some (bits, v) = get_left one ((bits, i * width) ∷ []) next (bits, v) (get_at env [] (bits, v) next long) in
    let amount_at : slice_get two (next + 1) ≡ Some (bits, i * width) = get_at one [] (bits, i * width) (next + 1) long_one in
    let sum_there : slice_get three sum_at ≡ Some (bits, sum) =
    get_left two ((bits, shifted) ∷ []) sum_at (bits, sum) (get_left one ((bits, i * width) ∷ []) sum_at (bits, sum) (get_left env ((bits, v) ∷ []) sum_at (bits, sum) here)) in
    let stand_four : StandFrom four (i + 1) width vs =
    stand_longer three ((bits, bit_or sum shifted) ∷ []) (i + 1) width vs (stand_longer two ((bits, shifted) ∷ []) (i + 1) width vs
    (stand_longer one ((bits, i * width) ∷ []) (i + 1) width vs (stand_longer env ((bits, v) ∷ []) (i + 1) width vs stand.1))) in
    let later : List Operation = map (operation_on_values x names w) (merge_steps bits width (next + 3) (next + 4) (i + 1) (length vs)) in
    let join : Operation = operation_on_values x names w (on_two op.GenericOr sum_at (next + 2) (s bits)) in
    let shift : Operation = operation_on_values x names w (on_two op.GenericShiftLeft next (next + 1) (s bits)) in
    let amount : Operation = operation_on_values x names w (number bits (i * width)) in
    let extend : Operation = operation_on_values x names w (on_one op.GenericZeroExtend i (s bits)) in
    one_step x extend (amount ∷ shift ∷ join ∷ later) env claim (Value width v ∷ []) (read_one env i width v stand.0)
    (one_step x shift (join ∷ later) two claim (Value bits v ∷ Value bits (i * width) ∷ []) (read_two two next bits v (next + 1) bits (i * width) first_at amount_at)
    (rw least
    (one_step x join later three claim (Value bits sum ∷ Value bits shifted ∷ []) (read_two three sum_at bits sum (next + 2) bits shifted sum_there (get_at two [] (bits, shifted) (next + 2) long_two))
    (merge_runs x names w bits width vs four (next + 3) (next + 4) (i + 1) (bit_or sum shifted) claim long_four (get_at three [] (bits, bit_or sum shifted) (next + 3) long_three) stand_four all.1 some
    (subst (λ (k : ℕ). k < 2 ^ ((i + 1) * width)) (sym is) fits) (omega (arith, within))
    (λ final there. h final (there ∙ ap (λ k. Some (bits, k)) (total (merged (map (Value width) vs)) is)))))))
  where
    room : (more : ℕ) → (i + suc more) * width ≤ bits → (i + 1) * width ≤ bits
    room more within = omega (arith, within)

    beyond : (more : ℕ) → (i + suc more) * width ≤ bits → nat_le bits (i * width) ≡ false
    beyond more within = let less : i * width < bits = omega (arith, within, some) in grind arith

    spread : (p q rest : ℕ) → v * p + sum + p * q * rest ≡ sum + p * (v + q * rest)
    spread p q rest = omega arith

    total : (rest : ℕ) → bit_or sum (wrapped bits (v * 2 ^ (i * width))) ≡ v * 2 ^ (i * width) + sum
        → bit_or sum (wrapped bits (v * 2 ^ (i * width))) + 2 ^ ((i + 1) * width) * rest ≡ sum + 2 ^ (i * width) * (v + 2 ^ width * rest)
    total rest is =
        let next : (i + 1) * width ≡ i * width + width = omega arith in
        let whole : 2 ^ ((i + 1) * width) ≡ 2 ^ (i * width) * 2 ^ width = ap (λ k. 2 ^ k) next ∙ pow-add 2 (i * width) width in
        ap₂ (λ a b. a + b * rest) is whole ∙ spread (2 ^ (i * width)) (2 ^ width) rest

first_joined : (x : ℕ) (names : List (List ℕ)) (w : World) (flags : Flags) (width v : ℕ) (vs : List ℕ) → AllFit width (v ∷ vs) → 1 ≤ width
    → Owed x names w (lower_merge flags width (length vs)) (placed width (v ∷ vs))
first_joined x names w flags width v vs all some =
    let n : ℕ = length vs in
    let bits : ℕ = suc n * width in
    let row : RewriteData = lower_merge flags width n in
    let env : Environment = placed width (v ∷ vs) in
    let one : Environment = env ++ (bits, v) ∷ [] in
    let long : length env ≡ suc n = ap suc (placed_long width vs) in
    let stand : StandFrom env 0 width (v ∷ vs) = stand_at [] width (v ∷ vs) 0 refl in
    let single : 1 * width ≡ width = omega arith in
    let below : v < 2 ^ (1 * width) = subst (λ (k : ℕ). v < 2 ^ k) (sym single) all.0 in
    merge_runs x names w bits width vs one (suc n) (suc n + 1) 1 v (RootMay (operation_on_values x names w row.root) row.results env)
    (longer env (bits, v) ∙ ap (λ k. k + 1) long) (get_at env [] (bits, v) (suc n) long) (stand_longer env ((bits, v) ∷ []) 1 width vs stand.1) all.1 some below (omega arith)
    (λ final there.
    subst (λ found. IfThere found bits (λ u. OfGiven (operation_on_values x names w row.root) (arguments_at env (operation_on_values x names w row.root).slots) (λ given. MayGive given (u ∷ [])))) (sym there) (
      refl,
      subst (λ found. OfGiven (operation_on_values x names w row.root) found (λ given. MayGive given ((v + 2 ^ (1 * width) * merged (map (Value width) vs)) ∷ [])))
          (sym (slots_are x names w env 0 width (v ∷ vs) stand)) (ap (λ k. v + 2 ^ k * merged (map (Value width) vs)) (sym single)),
    ))

-- the claim of the root at what was merged
parts_joined : (x : ℕ) (names : List (List ℕ)) (w : World) (flags : Flags) (width : ℕ) (values : List ℕ) (further : ℕ) → length values ≡ suc further → AllFit width values → 1 ≤ width
    → Owed x names w (lower_merge flags width further) (placed width values)
parts_joined x names w flags width [] further long all some = cc
parts_joined x names w flags width (v ∷ vs) further long all some =
    let rest : length vs ≡ further = omega (arith, long) in
    subst (λ (n : ℕ). Owed x names w (lower_merge flags width n) (placed width (v ∷ vs))) rest (first_joined x names w flags width v vs all some)

pub lower_merge_sound : (x : ℕ) (flags : Flags) (width further : ℕ) → 1 ≤ width → IsSoundRewrite x (lower_merge flags width further)
lower_merge_sound x flags width further some = record {
  by = λ names w is_world.
      for_all_parts x width (suc further) (Owed x names w (lower_merge flags width further))
      (λ values long all. parts_joined x names w flags width values further long all some);
}

-- ══ Parts shifted down ══

unmerge_runs : (x : ℕ) (names : List (List ℕ)) (w : World) (bits width whole left : ℕ) (env : Environment) (next i : ℕ) (claim : Option Environment → Type 0)
    → length env ≡ next → slice_get env 0 ≡ Some (bits, whole) → 1 ≤ width → (i + left) * width ≤ bits
    → ((more : Environment) → ((holds : List ℕ → Type 0) → holds (parts_of (map (width_of x) (parts left width)) (whole / 2 ^ (i * width))) → AreThere (env ++ more) (unmerge_places next left) (map (width_of x) (parts left width)) holds) → claim (Some (env ++ more)))
    → ForAllRuns x (map (operation_on_values x names w) (unmerge_steps bits width next i left)) env claim
unmerge_runs x names w bits width whole zero env next i claim long here some within h = subst (λ (e : Environment). claim (Some e)) (append-nil env) (h [] (λ holds there. there))
unmerge_runs x names w bits width whole (suc left) env next i claim long here some within h =
    let part : ℕ = whole / 2 ^ (i * width) in
    let one : Environment = env ++ (bits, i * width) ∷ [] in
    let two : Environment = one ++ (bits, part) ∷ [] in
    let three : Environment = two ++ (width, wrapped width part) ∷ [] in
    let long_one : length one ≡ next + 1 = longer env (bits, i * width) ∙ ap (λ k. k + 1) long in
    let long_two : length two ≡ next + 2 = longer one (bits, part) ∙ ap (λ k. k + 1) long_one ∙ omega arith in
    let long_three : length three ≡ next + 3 = longer two (width, wrapped width part) ∙ ap (λ k. k + 1) long_two ∙ omega arith in
    let here_one : slice_get one 0 ≡ Some (bits, whole) = get_left env ((bits, i * width) ∷ []) 0 (bits, whole) here in
    let here_three : slice_get three 0 ≡ Some (bits, whole) = get_left two ((width, wrapped width part) ∷ []) 0 (bits, whole) (get_left one ((bits, part) ∷ []) 0 (bits, whole) here_one) in
    let least : nat_le bits (i * width) ≡ false = beyond within in
    let later : List Operation = map (operation_on_values x names w) (unmerge_steps bits width (next + 3) (i + 1) left) in
    let cut : Operation = operation_on_values x names w (on_one op.GenericTruncate (next + 1) (s width)) in
    let shift : Operation = operation_on_values x names w (on_two op.GenericLogicalShiftRight 0 next (s bits)) in
    one_step x shift (cut ∷ later) one claim (Value bits whole ∷ Value bits (i * width) ∷ []) (read_two one 0 bits whole next bits (i * width) here_one (get_at env [] (bits, i * width) next long))
    (rw least
    (one_step x cut later two claim (Value bits part ∷ []) (read_one two (next + 1) bits part (get_at one [] (bits, part) (next + 1) long_one))
    (unmerge_runs x names w bits width whole left three (next + 3) (i + 1) claim long_three here_three some (omega (arith, within))
    (λ more there.
    let behind : Environment = (bits, i * width) ∷ (bits, part) ∷ (width, wrapped width part) ∷ more in
    let all : three ++ more ≡ env ++ behind = append_assoc two ((width, wrapped width part) ∷ []) more ∙ append_assoc one ((bits, part) ∷ []) ((width, wrapped width part) ∷ more) ∙ append_assoc env ((bits, i * width) ∷ []) ((bits, part) ∷ (width, wrapped width part) ∷ more) in
    subst (λ (e : Environment). claim (Some e)) (sym all)
    (h behind (λ holds given. subst (λ (e : Environment). AreThere e (unmerge_places next (suc left)) (map (width_of x) (parts (suc left) width)) holds) all
    (subst (λ found. IfThere found width (λ u. AreThere (three ++ more) (unmerge_places (next + 3) left) (map (width_of x) (parts left width)) (λ us. holds (u ∷ us))))
    (sym (get_left three more (next + 2) (width, wrapped width part) (get_at two [] (width, wrapped width part) (next + 2) long_two)))
    (refl, there (λ us. holds (wrapped width part ∷ us)) (subst (λ (k : ℕ). holds (wrapped width part ∷ parts_of (map (width_of x) (parts left width)) k)) further given)))))))))
  where
    beyond : (i + suc left) * width ≤ bits → nat_le bits (i * width) ≡ false
    beyond within = let less : i * width < bits = omega (arith, within, some) in grind arith

    further : whole / 2 ^ (i * width) / 2 ^ width ≡ whole / 2 ^ ((i + 1) * width)
    further = let next : i * width + width ≡ (i + 1) * width = omega arith in
        div-div-eq-div-mul whole (2 ^ (i * width)) (2 ^ width) ∙ ap (λ k. whole / k) (sym (pow-add 2 (i * width) width) ∙ ap (λ k. 2 ^ k) next)

pub lower_unmerge_sound : (x : ℕ) (flags : Flags) (width further : ℕ) → 1 ≤ width → IsSoundRewrite x (lower_unmerge flags width further)
lower_unmerge_sound x flags width further some = record {
  by = λ names w is_world whole whole_fits.
      let bits : ℕ = suc further * width in
      let widths : List ℕ = map (width_of x) (parts further width) in
      let env : Environment = (bits, whole) ∷ (width, wrapped width whole) ∷ [] in
      let single : 1 * width ≡ width = omega arith in
      unmerge_runs x names w bits width whole further env 2 1 (RootMay (operation_on_values x names w (lower_unmerge flags width further).root) (lower_unmerge flags width further).results ((bits, whole) ∷ []))
      refl refl some (omega arith)
      (λ more there. (
        refl,
        there (λ us. MayGive (Exactly (parts_of (width ∷ widths) whole)) (wrapped width whole ∷ us))
            (subst (λ (k : ℕ). MayGive (Exactly (parts_of (width ∷ widths) whole)) (wrapped width whole ∷ parts_of widths (whole / 2 ^ k))) (sym single) (are_equal (parts_of (width ∷ widths) whole))),
      ));
}
