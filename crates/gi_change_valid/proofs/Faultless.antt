-- No block that isn't there comes to be named, phis stay first with their entries, and terminators last.
use Rattle.std.proofs.Common.{◌≡◌, ℕ, Bool, true, false, cond, not, ◌&&◌, ◌||◌, ◌==◌, nat_lt, List, [], ◌∷◌, ◌++◌, Some, None, find, map, option_map, inl, refl, sym, ap, ap₂, ◌∙◌, subst, true≢false, append_assoc, append-nil}
use Rattle.std.proofs.lemmas.Bool.{or_parts, or_from, and_parts, and_from, false_from_ne_true}
use Rattle.std.proofs.lemmas.List.Folds.{list_any-append, list_all-append}
use Rattle.std.specs.List.{list_any, list_all}
use Rattle.gi_mir.specs.Data.{InstrData, BlockData, FunctionData}
use Rattle.gi_mir.specs.Row.{is_terminator_op, is_unconditional_op, is_branch_op, role_of, is_terminator, is_unconditional}
use Rattle.gi_mir.specs.declared.entry.Role.{Role}
use Rattle.gi_mir.specs.declared.entry.Role.TheVariants as role
use Rattle.gi_meaning.specs.Runs.{is_phi, is_among}
use Rattle.gi_replace.specs.InPlace.{entry_renamed}
use Rattle.gi_valid.specs.Available.{successors_of, predecessors}
use Rattle.gi_valid.specs.Faults.{with_fault, Site, sites, told, blocks_in, unknown_among, unknown_block, last_line, unknown_successors, are_entries, stands_first, phi_entries, is_late, has_late, is_first_late, is_astray, terminator}
use Rattle.gi_valid.specs.declared.invalid.Invalid.TheVariants.{UnknownBlock, PhiEntries, Terminator}
use Rattle.gi_valid.proofs.Answering.{branch_ends}
use Rattle.gi_valid.proofs.Sited.{nothing_in_front, site_of, at_site, none_late}
use Rattle.gi_change_valid.specs.Conditions.{ArePlain}
use Rattle.gi_change_valid.specs.Rewriting.{Rewriting, rewritten, block_rewritten, standing_for, IsRewritten}
use Rattle.gi_change_valid.proofs.Frames.{as_many_blocks, same_successors, same_predecessors, IsOwn, own_later, IsIdle, any_rewritten, any_earlier, plain, made_plain, idle, no_blocks}
use Rattle.gi_change_valid.proofs.Listed.{blocks_left}
use Rattle.gi_change_valid.proofs.Sites.{IsSite, AreQuiet, nothing_new, site_own}

-- ══ Blocks that are there ══

pub same_unknown : (w : Rewriting) (f g : FunctionData) → IsRewritten w f g → (bs : List ℕ) → unknown_among g bs ≡ unknown_among f bs
same_unknown w f g is bs = ap (λ n. option_map UnknownBlock (find (λ b. not (nat_lt b n)) bs)) (as_many_blocks w f g is)

pub blocks_still_there : (w : Rewriting) (f g : FunctionData) → IsRewritten w f g → ArePlain w → told (unknown_block f) (sites f) ≡ [] → told (unknown_block g) (sites g) ≡ []
blocks_still_there w f g is are none = nothing_new w f g is (unknown_block f) (unknown_block g) quiet none
  where
    quiet : AreQuiet w f (unknown_block f) (unknown_block g)
    quiet = record {
      kept = λ b front p back site other old. ap (unknown_among g) (blocks_left w.rename p.1.operands) ∙ same_unknown w f g is (blocks_in p.1.operands) ∙ old;
      made = λ b front back site old earlier i later splits. ap (unknown_among g) (no_blocks i.1.operands (made_plain w are earlier i later splits).operands);
    }

successors_walk : (w : Rewriting) (f g : FunctionData) → IsRewritten w f g → (line other : ℕ) (blocks : List BlockData) → unknown_successors f line blocks ≡ []
    → unknown_successors g other (map (block_rewritten w) blocks) ≡ []
successors_walk w f g is line other [] none = refl
successors_walk w f g is line other (k ∷ blocks) none =
    let here : ℕ = last_line line k.instrs in
    let now : ℕ = last_line other (rewritten w k.instrs) in
    let each : (unknown_among f k.successors ≡ None) × (unknown_successors f here blocks ≡ []) = nothing_in_front here (unknown_among f k.successors) (unknown_successors f here blocks) none in
    ap₂ (with_fault now) (same_unknown w f g is k.successors ∙ each.0) (successors_walk w f g is here now blocks each.1)

pub successors_still_there : (w : Rewriting) (f g : FunctionData) → IsRewritten w f g → unknown_successors f 1 f.blocks ≡ [] → unknown_successors g 1 g.blocks ≡ []
successors_still_there w f g is none = ap (unknown_successors g 1) is.blocks ∙ successors_walk w f g is 1 1 f.blocks none

-- ══ Phis ══

pub all_phis : (w : Rewriting) → ArePlain w → (is : List (ℕ × InstrData)) → IsOwn w is → list_all (λ p. is_phi p.1) is ≡ true → list_all (λ p. is_phi p.1) (rewritten w is) ≡ true
all_phis w are [] own all = refl
all_phis w are (p ∷ is) own all =
    let each : (is_phi p.1 ≡ true) × (list_all (λ q. is_phi q.1) is ≡ true) = and_parts (is_phi p.1) (list_all (λ q. is_phi q.1) is) all in
    list_all-append (λ q. is_phi q.1) (standing_for w p) (rewritten w is)
    ∙ and_from (list_all (λ q. is_phi q.1) (standing_for w p)) (list_all (λ q. is_phi q.1) (rewritten w is)) (by (p.0 == w.root.0) refl each.0) (all_phis w are is (own_later w p is own) each.1)
  where
    by : (t : Bool) → (p.0 == w.root.0) ≡ t → is_phi p.1 ≡ true → list_all (λ q. is_phi q.1) (cond (p.0 == w.root.0) w.made (entry_renamed w.rename p ∷ [])) ≡ true
    by true so phi =
        let root : is_phi p.1 ≡ false = ap (λ (q : ℕ × InstrData). is_phi q.1) (own p (inl refl) so) ∙ (plain w.root.1 are.root).no_phi in absurd (true≢false (sym phi ∙ root))
    by false so phi = ap (λ t. list_all (λ q. is_phi q.1) (cond t w.made (entry_renamed w.rename p ∷ []))) so ∙ and_from (is_phi p.1) true phi refl

no_phi_told : (f : FunctionData) (site : Site) → is_phi site.instr ≡ false → phi_entries f site ≡ None
no_phi_told f site other = ap (λ t. cond (t && not (stands_first site && are_entries (predecessors f site.block) (blocks_in site.instr.operands))) (Some PhiEntries) None) other

pub phis_still_first : (w : Rewriting) (f g : FunctionData) → IsRewritten w f g → ArePlain w → told (phi_entries f) (sites f) ≡ [] → told (phi_entries g) (sites g) ≡ []
phis_still_first w f g is are none = nothing_new w f g is (phi_entries f) (phi_entries g) (record { kept = kept; made = made }) none
  where
    made : (b : ℕ) (front back : List (ℕ × InstrData)) → IsSite f b front w.root back → phi_entries f (site_of b front w.root back) ≡ None
        → (earlier : List (ℕ × InstrData)) (i : ℕ × InstrData) (later : List (ℕ × InstrData)) → w.made ≡ earlier ++ i ∷ later
        → phi_entries g (site_of b (rewritten w front ++ earlier) i (later ++ rewritten w back)) ≡ None
    made b front back site old earlier i later splits = no_phi_told g (site_of b (rewritten w front ++ earlier) i (later ++ rewritten w back)) (made_plain w are earlier i later splits).no_phi

    kept : (b : ℕ) (front : List (ℕ × InstrData)) (p : ℕ × InstrData) (back : List (ℕ × InstrData)) → IsSite f b front p back → (p.0 == w.root.0) ≡ false → phi_entries f (site_of b front p back) ≡ None
        → phi_entries g (site_of b (rewritten w front) (entry_renamed w.rename p) (rewritten w back)) ≡ None
    kept b front p back site other old = by (is_phi p.1) refl
      where
        now : Site
        now = site_of b (rewritten w front) (entry_renamed w.rename p) (rewritten w back)

        good : Bool
        good = stands_first (site_of b front p back) && are_entries (predecessors f b) (blocks_in p.1.operands)

        good_of : (t : Bool) → (stands_first (site_of b front p back) && are_entries (predecessors f b) (blocks_in p.1.operands)) ≡ t → cond (true && not t) (Some PhiEntries) None ≡ None → t ≡ true
        good_of true so h = refl
        good_of false so h = cc

        by : (t : Bool) → is_phi p.1 ≡ t → phi_entries g now ≡ None
        by false so = no_phi_told g now so
        by true so =
            let is_good : good ≡ true = good_of good refl (sym (ap (λ t. cond (t && not good) (Some PhiEntries) None) so) ∙ old) in
            let both : (stands_first (site_of b front p back) ≡ true) × (are_entries (predecessors f b) (blocks_in p.1.operands) ≡ true) =
            and_parts (stands_first (site_of b front p back)) (are_entries (predecessors f b) (blocks_in p.1.operands)) is_good in
            let first : (not (b == 0) ≡ true) × (list_all (λ q. is_phi q.1) front ≡ true) = and_parts (not (b == 0)) (list_all (λ q. is_phi q.1) front) both.0 in
            let stands : stands_first now ≡ true = and_from (not (b == 0)) (list_all (λ q. is_phi q.1) (rewritten w front)) first.0 (all_phis w are front (site_own w f g is b front p back site).0 first.1) in
            let entries : are_entries (predecessors g b) (blocks_in (entry_renamed w.rename p).1.operands) ≡ true =
            ap₂ are_entries (same_predecessors w f g is b) (blocks_left w.rename p.1.operands) ∙ both.1 in
            ap (λ t. cond (is_phi p.1 && not t) (Some PhiEntries) None) (and_from (stands_first now) (are_entries (predecessors g b) (blocks_in (entry_renamed w.rename p).1.operands)) stands entries) ∙ nothing (is_phi p.1)
          where
            nothing : (t : Bool) → cond (t && not true) (Some PhiEntries) None ≡ None
            nothing true = refl
            nothing false = refl

-- ══ Terminators ══

unconditional_ends : (r : Role) → is_terminator r ≡ false → is_unconditional r ≡ false
unconditional_ends role.Return h = cc
unconditional_ends role.Jump h = cc
unconditional_ends _ h = refl

late_at : (done xs : List (ℕ × InstrData)) (p : ℕ × InstrData) (ys : List (ℕ × InstrData)) → has_late done (xs ++ p ∷ ys) ≡ false → is_late (done ++ xs) p.1 ≡ false
late_at done [] p ys h = subst (λ l. is_late l p.1 ≡ false) (sym (append-nil done)) (or_parts (is_late done p.1) (has_late (done ++ p ∷ []) ys) h).0
late_at done (x ∷ xs) p ys h =
    subst (λ l. is_late l p.1 ≡ false) (append_assoc done (x ∷ []) xs)
    (late_at (done ++ x ∷ []) xs p ys (or_parts (is_late done x.1) (has_late (done ++ x ∷ []) (xs ++ p ∷ ys)) h).1)

-- nothing at a site is late or goes astray
pub record IsOrdered (f : FunctionData) (b : ℕ) (front : List (ℕ × InstrData)) (p : ℕ × InstrData) : Type 0 where
  pub early : is_late front p.1 ≡ false
  pub aimed : (is_branch_op p.1.op && not (list_all (λ c. is_among c (successors_of f b)) (blocks_in p.1.operands))) ≡ false

pub ordered : (f : FunctionData) → told (terminator f) (sites f) ≡ [] → (b : ℕ) (front : List (ℕ × InstrData)) (p : ℕ × InstrData) (back : List (ℕ × InstrData)) → IsSite f b front p back → IsOrdered f b front p
ordered f none b front p back site = record {
  early = late_at [] front p back (subst (λ l. has_late [] l ≡ false) site.splits (none_late f none b site.block site.found));
  aimed = by (is_first_late here) (is_astray f here) (at_site f (terminator f) none b site.block site.found front p back site.splits);
}
  where
    here : Site
    here = site_of b front p back

    by : (s t : Bool) → cond (s || t) (Some Terminator) None ≡ None → t ≡ false
    by s false h = refl
    by true true h = cc
    by false true h = cc

pub none_told : (f : FunctionData) (site : Site) → is_late site.before site.instr ≡ false → is_astray f site ≡ false → terminator f site ≡ None
none_told f site early aimed = ap₂ (λ s t. cond ((s && not (has_late [] site.before)) || t) (Some Terminator) None) early aimed

abbrev ends : ℕ × InstrData → Bool
ends p = is_terminator_op p.1.op

abbrev ends_always : ℕ × InstrData → Bool
ends_always p = is_unconditional_op p.1.op

pub terminators_still_last : (w : Rewriting) (f g : FunctionData) → IsRewritten w f g → ArePlain w → told (terminator f) (sites f) ≡ [] → told (terminator g) (sites g) ≡ []
terminators_still_last w f g is are none = nothing_new w f g is (terminator f) (terminator g) (record { kept = kept; made = made }) none
  where
    ends_idle : IsIdle w ends
    ends_idle = idle w are ends (λ p one. one.no_end) (λ p. refl)

    always_idle : IsIdle w ends_always
    always_idle = idle w are ends_always (λ p one. unconditional_ends (role_of p.1.op) one.no_end) (λ p. refl)

    kept : (b : ℕ) (front : List (ℕ × InstrData)) (p : ℕ × InstrData) (back : List (ℕ × InstrData)) → IsSite f b front p back → (p.0 == w.root.0) ≡ false → terminator f (site_of b front p back) ≡ None
        → terminator g (site_of b (rewritten w front) (entry_renamed w.rename p) (rewritten w back)) ≡ None
    kept b front p back site other old =
        let before : IsOrdered f b front p = ordered f none b front p back site in
        let own : IsOwn w front = (site_own w f g is b front p back site).0 in
        none_told g (site_of b (rewritten w front) (entry_renamed w.rename p) (rewritten w back))
        (ap₂ (λ s t. s || (t && not (is_terminator_op p.1.op))) (any_rewritten w ends_always always_idle front own) (any_rewritten w ends ends_idle front own) ∙ before.early)
        (ap₂ (λ bs cs. is_branch_op p.1.op && not (list_all (λ c. is_among c bs) cs)) (same_successors w f g is b) (blocks_left w.rename p.1.operands) ∙ before.aimed)

    made : (b : ℕ) (front back : List (ℕ × InstrData)) → IsSite f b front w.root back → terminator f (site_of b front w.root back) ≡ None
        → (earlier : List (ℕ × InstrData)) (i : ℕ × InstrData) (later : List (ℕ × InstrData)) → w.made ≡ earlier ++ i ∷ later
        → terminator g (site_of b (rewritten w front ++ earlier) i (later ++ rewritten w back)) ≡ None
    made b front back site old earlier i later splits =
        let before : IsOrdered f b front w.root = ordered f none b front w.root back site in
        let own : IsOwn w front = (site_own w f g is b front w.root back site).0 in
        let no_end : is_terminator_op w.root.1.op ≡ false = (plain w.root.1 are.root).no_end in
        let early : (list_any ends_always front ≡ false) × ((list_any ends front && not (is_terminator_op w.root.1.op)) ≡ false) =
        or_parts (list_any ends_always front) (list_any ends front && not (is_terminator_op w.root.1.op)) before.early in
        let none_ends : list_any ends front ≡ false = only (list_any ends front) (sym (ap (λ t. list_any ends front && not t) no_end) ∙ early.1) in
        let always_now : list_any ends_always (rewritten w front ++ earlier) ≡ false =
        list_any-append ends_always (rewritten w front) earlier
        ∙ or_from (list_any ends_always (rewritten w front)) (list_any ends_always earlier) (any_rewritten w ends_always always_idle front own ∙ early.0) (any_earlier ends_always w.made earlier i later splits always_idle.made).0 in
        let ends_now : list_any ends (rewritten w front ++ earlier) ≡ false =
        list_any-append ends (rewritten w front) earlier
        ∙ or_from (list_any ends (rewritten w front)) (list_any ends earlier) (any_rewritten w ends ends_idle front own ∙ none_ends) (any_earlier ends w.made earlier i later splits ends_idle.made).0 in
        let here : is_terminator_op i.1.op ≡ false = (made_plain w are earlier i later splits).no_end in
        none_told g (site_of b (rewritten w front ++ earlier) i (later ++ rewritten w back))
        (ap₂ (λ s t. s || (t && not (is_terminator_op i.1.op))) always_now ends_now)
        (ap (λ t. t && not (list_all (λ c. is_among c (successors_of g b)) (blocks_in i.1.operands))) (false_from_ne_true (is_branch_op i.1.op) (λ branches. true≢false (sym (branch_ends i.1.op branches) ∙ here))))
      where
        only : (t : Bool) → (t && true) ≡ false → t ≡ false
        only true h = h
        only false h = h
