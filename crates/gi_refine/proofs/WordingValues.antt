-- Values that stand for others as words: what is read, written and copied.
use Rattle.std.proofs.Common.{◌≡◌, ℕ, ◌+◌, ◌-◌, ◌%◌, ◌^◌, ◌<◌, ◌≤◌, Bool, true, false, cond, ◌==◌, if◌then◌else◌, nat_lt, List, [], ◌∷◌, ◌++◌, map, Option, Some, None, option_map, IfSome, ◌⊎◌, inl, inr, ⊎_elim, refl, sym, ap, ap₂, ◌∙◌, subst, arith}
use Rattle.std.proofs.lemmas.Bool.{eq-eqb, lt-ltb, le-ltb, cases_lt}
use Rattle.std.proofs.lemmas.Bool.Decides.{eqb_tells}
use Rattle.std.proofs.Math.Pow.{mod-mod-pow}
use Rattle.gi_meaning.proofs.Merging.{no_remainder}
use Rattle.std.proofs.lemmas.Nat.{pow_pos}
use Rattle.std.proofs.Math.Nat.{mod-lt, mod-mod}
use Rattle.gi_llt.specs.Bits.{wrapped}
use Rattle.gi_mir.specs.declared.operand.MemOp.{MemOp}
use Rattle.gi_mir.specs.declared.operand.Operand.{Operand}
use Rattle.gi_mir.specs.declared.operand.Operand.TheVariants as operand
use Rattle.gi_meaning.specs.Argument.{Argument, Value, Implicit, Number}
use Rattle.gi_meaning.specs.Given.{Given, Exactly, LowBits, IsGiven, one, free}
use Rattle.gi_meaning.specs.Given as a_given
use Rattle.gi_meaning.specs.Generic.{nullary}
use Rattle.gi_meaning.specs.State.{World, IsWorld, State, Outside, AreWords, Place, Virtual, Physical, word_in}
use Rattle.gi_meaning.specs.Meaning.{Meaning}
use Rattle.gi_meaning.specs.Act.{Answer, Results, Answers, AnswersWords, fitted, all_fitted, ReadsAs, AllReadAs, copied, copy, Act}
use Rattle.gi_meaning.specs.Act as an_answer
use Rattle.gi_meaning.specs.Runs.{Setting, argument_of, arguments_of, joined_lists, width_of_place}
use Rattle.gi_refine.specs.Agreement.{setting, StandsFor, ValueStands, Agree}
use Rattle.gi_refine.specs.Worded.{AreWorded, IsSized}
use Rattle.gi_refine.proofs.Basics.{copied_whole, not_below_itself, whole_fitted}
use Rattle.gi_refine.proofs.Agreeing.{alike_stands, stands_alike, word_stands, PlaceStands, ResultsStand, AnswerStands}
use Rattle.gi_refine.proofs.Sized.{word_in_small}
use Rattle.gi_refine.proofs.SizedOperations.{GivesWords}

-- ══ Values that stand for others as words ══

-- the same value of a word, or a word with the low bits of a smaller value
pub data AsWord (x m v u : ℕ) : Type 0 where
  Whole : m ≡ x → u ≡ v → AsWord x m v u
  Low : m < x → u < 2 ^ x → u % 2 ^ m ≡ v → AsWord x m v u

as_word_by : (x m v u : ℕ) → ((m == x) ≡ true) × (m ≡ x) ⊎ ((m == x) ≡ false) × (m ≡ x → ⊥) → StandsFor x m x v u → AsWord x m v u
as_word_by x m v u (inl same) stands = Whole same.1 (subst (λ b. cond b (u ≡ v) ((x ≡ x) × (m < x) × (u < 2 ^ x) × (u % 2 ^ m ≡ v))) same.0 stands)
as_word_by x m v u (inr other) stands =
    let parts : (x ≡ x) × (m < x) × (u < 2 ^ x) × (u % 2 ^ m ≡ v) = subst (λ b. cond b (u ≡ v) ((x ≡ x) × (m < x) × (u < 2 ^ x) × (u % 2 ^ m ≡ v))) other.0 stands in
    Low parts.1 parts.2 parts.3

pub as_word : (x m v u : ℕ) → StandsFor x m x v u → AsWord x m v u
as_word x m v u stands = as_word_by x m v u (eqb_tells m x) stands

-- a word stands for its low bits
pub low_stands : (x m v u : ℕ) → m < x → u < 2 ^ x → u % 2 ^ m ≡ v → StandsFor x m x v u
low_stands x m v u less small low = by (eqb_tells m x)
  where
    by : ((m == x) ≡ true) × (m ≡ x) ⊎ ((m == x) ≡ false) × (m ≡ x → ⊥) → StandsFor x m x v u
    by (inl same) = absurd (omega (arith, same.1, less))
    by (inr other) = subst (λ b. cond b (u ≡ v) ((x ≡ x) × (m < x) × (u < 2 ^ x) × (u % 2 ^ m ≡ v))) (sym other.0) (refl, less, small, low)

-- to cut twice is to cut once
pub cut_twice : (u n m : ℕ) → m ≤ n → u % 2 ^ n % 2 ^ m ≡ u % 2 ^ m
cut_twice u n m h =
    let e : (n - m) + m ≡ n = omega arith in
    subst (λ (k : ℕ). u % 2 ^ k % 2 ^ m ≡ u % 2 ^ m) e (mod-mod-pow u (n - m) m)

-- ══ Reads ══

abbrev pub ArgumentWorded : (x : ℕ) → (old new : Argument) → Type 0
ArgumentWorded x (Value m v) new = (u : ℕ) × StandsFor x m x v u × (u < 2 ^ x) × (new ≡ Value x u)
ArgumentWorded x old new = new ≡ old

abbrev pub AllArgumentsWorded : (x : ℕ) → (old new : List Argument) → Type 0
AllArgumentsWorded x [] [] = Unit {0}
AllArgumentsWorded x (a ∷ olds) (b ∷ news) = ArgumentWorded x a b × AllArgumentsWorded x olds news
AllArgumentsWorded x _ _ = ⊥

abbrev pub OptionWorded : (x : ℕ) → (old new : Option (List Argument)) → Type 0
OptionWorded x None new = Unit {0}
OptionWorded x (Some olds) None = ⊥
OptionWorded x (Some olds) (Some news) = AllArgumentsWorded x olds news

appended_worded : (x : ℕ) (olds olds' news news' : List Argument) → AllArgumentsWorded x olds news → AllArgumentsWorded x olds' news' → AllArgumentsWorded x (olds ++ olds') (news ++ news')
appended_worded x [] olds' [] news' h l = l
appended_worded x [] olds' (b ∷ news) news' h l = absurd h
appended_worded x (a ∷ olds) olds' [] news' h l = absurd h
appended_worded x (a ∷ olds) olds' (b ∷ news) news' h l = (h.0, appended_worded x olds olds' news news' h.1 l)

joined_worded : (x : ℕ) (a b a' b' : Option (List Argument)) → OptionWorded x a a' → OptionWorded x b b' → OptionWorded x (joined_lists a b) (joined_lists a' b')
joined_worded x None b a' b' h l = tt
joined_worded x (Some olds) None None b' h l = absurd h
joined_worded x (Some olds) None (Some news) b' h l = tt
joined_worded x (Some olds) (Some olds') None b' h l = absurd h
joined_worded x (Some olds) (Some olds') (Some news) None h l = absurd l
joined_worded x (Some olds) (Some olds') (Some news) (Some news') h l = appended_worded x olds olds' news news' h l

use_worded : (x m n : ℕ) (old new : Option ℕ) → n ≡ x → ValueStands x m n old new → IfSome new (λ u. u < 2 ^ x)
    → OptionWorded x (option_map (λ v. Value m v ∷ []) old) (option_map (λ v. Value n v ∷ []) new)
use_worded x m n None new e stands small = tt
use_worded x m n (Some v) None e stands small = absurd stands
use_worded x m n (Some v) (Some u) e stands small = ((u, subst (λ k. StandsFor x m k v u) e stands, small, ap (λ k. Value k u) e), tt)

-- the value of a whole word
whole_worded : (x v u : ℕ) → u ≡ v → u < 2 ^ x → ArgumentWorded x (Value x v) (Value x u)
whole_worded x v u same small = (u, alike_stands x x v u same, small, refl)

pub arguments_worded : (x : ℕ) (names : List (List ℕ)) (width width' : ℕ → ℕ) (w : World) → IsWorld x w → (hidden : Place → Bool) (old new : State)
    → Agree (setting x names width) (setting x names width') hidden old new → IsSized x new → (os : List Operand) → AreWorded (setting x names width) (setting x names width') hidden os
    → OptionWorded x (arguments_of (setting x names width) w old os) (arguments_of (setting x names width') w new os)
arguments_worded x names width width' w is_world hidden old new agree sized [] worded = tt
arguments_worded x names width width' w is_world hidden old new agree sized (operand.Use r ∷ os) worded =
    joined_worded x (option_map (λ v. Value (width r.0) v ∷ []) (old.values r.0)) (arguments_of (setting x names width) w old os)
    (option_map (λ v. Value (width' r.0) v ∷ []) (new.values r.0)) (arguments_of (setting x names width') w new os)
    (use_worded x (width r.0) (width' r.0) (old.values r.0) (new.values r.0) worded.2 (agree.values r.0 worded.0) (sized.values r.0))
    (arguments_worded x names width width' w is_world hidden old new agree sized os worded.3)
arguments_worded x names width width' w is_world hidden old new agree sized (operand.Phys n ∷ os) worded =
    joined_worded x (Some (Value x (word_in old n) ∷ [])) (arguments_of (setting x names width) w old os) (Some (Value x (word_in new n) ∷ [])) (arguments_of (setting x names width') w new os)
    (whole_worded x (word_in old n) (word_in new n) (word_stands n old new (agree.words n worded.0)) (word_in_small x n new sized), tt)
    (arguments_worded x names width width' w is_world hidden old new agree sized os worded.1)
arguments_worded x names width width' w is_world hidden old new agree sized (operand.ImplicitUse n ∷ os) worded =
    joined_worded x (Some (Implicit n (word_in old n) ∷ [])) (arguments_of (setting x names width) w old os) (Some (Implicit n (word_in new n) ∷ [])) (arguments_of (setting x names width') w new os)
    (ap (Implicit n) (word_stands n old new (agree.words n worded.0)), tt)
    (arguments_worded x names width width' w is_world hidden old new agree sized os worded.1)
arguments_worded x names width width' w is_world hidden old new agree sized (operand.Frame object ∷ os) worded =
    joined_worded x (Some (Value x (w.stack object) ∷ [])) (arguments_of (setting x names width) w old os) (Some (Value x (w.stack object) ∷ [])) (arguments_of (setting x names width') w new os)
    (whole_worded x (w.stack object) (w.stack object) refl (is_world.stack object), tt)
    (arguments_worded x names width width' w is_world hidden old new agree sized os worded)
arguments_worded x names width width' w is_world hidden old new agree sized (operand.Def r k ∷ os) worded =
    joined_worded x (Some []) (arguments_of (setting x names width) w old os) (Some []) (arguments_of (setting x names width') w new os) tt
    (arguments_worded x names width width' w is_world hidden old new agree sized os worded.2)
arguments_worded x names width width' w is_world hidden old new agree sized (operand.PhysDef n ∷ os) worded =
    joined_worded x (Some []) (arguments_of (setting x names width) w old os) (Some []) (arguments_of (setting x names width') w new os) tt
    (arguments_worded x names width width' w is_world hidden old new agree sized os worded)
arguments_worded x names width width' w is_world hidden old new agree sized (o ∷ os) worded =
    joined_worded x (argument_of (setting x names width) w old o) (arguments_of (setting x names width) w old os) (argument_of (setting x names width') w new o) (arguments_of (setting x names width') w new os)
    (refl, tt) (arguments_worded x names width width' w is_world hidden old new agree sized os worded)

-- the old instruction may read the words that the new one holds
read_worded : (x : ℕ) (a b : Argument) → ArgumentWorded x a b → ReadsAs x a b
read_worded x (Value m v) b h = by (as_word x m v h.0 h.1)
  where
    by : AsWord x m v h.0 → ReadsAs x (Value m v) b
    by (Whole e same) =
        subst (λ c. cond c ((word : ℕ) × (word < 2 ^ x) × (word % 2 ^ m ≡ v % 2 ^ m) × (b ≡ Value x word)) (b ≡ Value m v)) (sym (subst (λ k. nat_lt k x ≡ false) (sym e) (not_below_itself x)))
        (h.3 ∙ ap₂ Value (sym e) same)
    by (Low less small low) =
        subst (λ c. cond c ((word : ℕ) × (word < 2 ^ x) × (word % 2 ^ m ≡ v % 2 ^ m) × (b ≡ Value x word)) (b ≡ Value m v)) (sym (lt-ltb m x less)) (h.0, h.2, sym (mod-mod h.0 (2 ^ m)) ∙ ap (λ k. k % 2 ^ m) low, h.3)
read_worded x (Number z) b h = h
read_worded x _ b h = h

pub all_read_worded : (x : ℕ) (olds news : List Argument) → AllArgumentsWorded x olds news → AllReadAs x olds news
all_read_worded x [] [] h = refl
all_read_worded x [] (b ∷ news) h = absurd h
all_read_worded x (a ∷ olds) [] h = absurd h
all_read_worded x (a ∷ olds) (b ∷ news) h = (b, news, read_worded x a b h.0, all_read_worded x olds news h.1, refl)

-- the new one reads them as they are
word_itself : (x u : ℕ) (word : Argument) → ReadsAs x (Value x u) word → word ≡ Value x u
word_itself x u word reads = subst (λ c. cond c ((v : ℕ) × (v < 2 ^ x) × (v % 2 ^ x ≡ u % 2 ^ x) × (word ≡ Value x v)) (word ≡ Value x u)) (not_below_itself x) reads

reads_itself : (x : ℕ) (a b word : Argument) → ArgumentWorded x a b → ReadsAs x b word → word ≡ b
reads_itself x (Value m v) b word h reads = word_itself x h.0 word (subst (λ k. ReadsAs x k word) h.3 reads) ∙ sym h.3
reads_itself x (Number z) b word h reads = subst (λ k. ReadsAs x k word) h reads ∙ sym h
reads_itself x _ b word h reads = subst (λ k. ReadsAs x k word) h reads ∙ sym h

pub all_reads_itself : (x : ℕ) (olds news words : List Argument) → AllArgumentsWorded x olds news → AllReadAs x news words → words ≡ news
all_reads_itself x [] [] words h reads = reads
all_reads_itself x [] (b ∷ news) words h reads = absurd h
all_reads_itself x (a ∷ olds) [] words h reads = absurd h
all_reads_itself x (a ∷ olds) (b ∷ news) words h reads =
    reads.4 ∙ ap₂ (λ k ks. k ∷ ks) (reads_itself x a b reads.0 h.0 reads.2) (all_reads_itself x olds news reads.1 h.1 reads.3)

-- ══ Writes ══

-- what is written is at most a word in the old function, and a word in the new one
abbrev pub PlacesWorded : (s t : Setting) → List Place → Type 0
PlacesWorded s t [] = Unit {0}
PlacesWorded s t (Virtual r ∷ ps) = (s.width r ≤ s.x) × (t.width r ≡ s.x) × PlacesWorded s t ps
PlacesWorded s t (Physical n ∷ ps) = PlacesWorded s t ps

-- a word stands for what fits into m bits of it
fitted_stands : (x m v : ℕ) → m ≤ x → v < 2 ^ x → StandsFor x m x (fitted x m v) (fitted x x v)
fitted_stands x m v within small = by (eqb_tells m x)
  where
    by : ((m == x) ≡ true) × (m ≡ x) ⊎ ((m == x) ≡ false) × (m ≡ x → ⊥) → StandsFor x m x (fitted x m v) (fitted x x v)
    by (inl same) = subst (λ k. StandsFor x k x (fitted x k v) (fitted x x v)) (sym same.1) (alike_stands x x (fitted x x v) (fitted x x v) refl)
    by (inr other) =
        let less : m < x = omega (arith, within, other.1) in
        subst (λ u. StandsFor x m x (fitted x m v) u) (sym (whole_fitted x v))
        (subst (λ b. StandsFor x m x (if b then wrapped m v else v) v) (sym (lt-ltb m x less)) (low_stands x m (wrapped m v) v less small refl))

results_worded : (x : ℕ) (names : List (List ℕ)) (width width' : ℕ → ℕ) (ps : List Place) (vs : List ℕ) → PlacesWorded (setting x names width) (setting x names width') ps → AreWords x vs
    → ResultsStand (setting x names width) (setting x names width') ps (all_fitted x (map (width_of_place (setting x names width)) ps) vs) (all_fitted x (map (width_of_place (setting x names width')) ps) vs)
results_worded x names width width' [] [] worded words = tt
results_worded x names width width' [] (v ∷ vs) worded words = tt
results_worded x names width width' (Virtual r ∷ ps) [] worded words = tt
results_worded x names width width' (Physical n ∷ ps) [] worded words = tt
results_worded x names width width' (Virtual r ∷ ps) (v ∷ vs) worded words = (
  subst (λ n. StandsFor x (width r) n (fitted x (width r) v) (fitted x n v)) (sym worded.1) (fitted_stands x (width r) v worded.0 words.0),
  results_worded x names width width' ps vs worded.2 words.1,
)
results_worded x names width width' (Physical n ∷ ps) (v ∷ vs) worded words = (refl, results_worded x names width width' ps vs worded words.1)

-- what the new instruction answers, the old may answer so that it stands for that
abbrev pub ActsWorded : (x : ℕ) → (names : List (List ℕ)) → (width width' : ℕ → ℕ) → World → Meaning → Option MemOp → List Place → (old : List Argument) → Outside → Answer → Type 0
ActsWorded x names width width' w m mem ps olds outside answer' =
    (answer : Answer) × Act x w m mem (map (width_of_place (setting x names width)) ps) olds outside answer
    × AnswerStands (setting x names width) (setting x names width') ps answer answer'

pub words_answered : (x : ℕ) (names : List (List ℕ)) (width width' : ℕ → ℕ) (ps : List Place) → PlacesWorded (setting x names width) (setting x names width') ps → (g : Given) → GivesWords x g → (outside : Outside) (answer' : Answer)
    → AnswersWords x (map (width_of_place (setting x names width')) ps) g outside answer'
    → (answer : Answer) × AnswersWords x (map (width_of_place (setting x names width)) ps) g outside answer × AnswerStands (setting x names width) (setting x names width') ps answer answer'
words_answered x names width width' ps worded a_given.Undefined gives outside answer' h = (an_answer.Undefined, refl, h)
words_answered x names width width' ps worded (Exactly vs) gives outside answer' h = (
  Results (all_fitted x (map (width_of_place (setting x names width)) ps) h.0) outside,
  (h.0, h.1, refl),
  (all_fitted x (map (width_of_place (setting x names width')) ps) h.0, results_worded x names width width' ps h.0 worded (gives h.0 h.1), h.2),
)
words_answered x names width width' ps worded (LowBits known n v) gives outside answer' h = (
  Results (all_fitted x (map (width_of_place (setting x names width)) ps) h.0) outside,
  (h.0, h.1, refl),
  (all_fitted x (map (width_of_place (setting x names width')) ps) h.0, results_worded x names width width' ps h.0 worded (gives h.0 h.1), h.2),
)

-- ══ Copies and free words ══

given_answers : (g : Given) (results : List ℕ) (outside : Outside) → IsGiven g results → Answers g outside (Results results outside)
given_answers a_given.Undefined results outside is = absurd is
given_answers (Exactly vs) results outside is = (results, is, refl)
given_answers (LowBits known n v) results outside is = (results, is, refl)

less_tells : (a b : ℕ) → ((nat_lt a b) ≡ true) × (a < b) ⊎ ((nat_lt a b) ≡ false) × (b ≤ a)
less_tells a b = ⊎_elim (λ less. inl (lt-ltb a b less, less)) (λ other. inr (le-ltb a b other, other)) (cases_lt a b)

-- what fits of a word has so many bits, and the low bits of the word
fitted_below : (x n u : ℕ) → n ≤ x → u < 2 ^ x → fitted x n u < 2 ^ n
fitted_below x n u within small = by (less_tells n x)
  where
    by : ((nat_lt n x) ≡ true) × (n < x) ⊎ ((nat_lt n x) ≡ false) × (x ≤ n) → fitted x n u < 2 ^ n
    by (inl less) = subst (λ b. (if b then wrapped n u else u) < 2 ^ n) (sym less.0) (mod-lt u (pow_pos n))
    by (inr other) =
        let e : n ≡ x = omega (arith, within, other.1) in
        subst (λ b. (if b then wrapped n u else u) < 2 ^ n) (sym other.0) (subst (λ k. u < 2 ^ k) (sym e) small)

fitted_low : (x n m u : ℕ) → m ≤ n → fitted x n u % 2 ^ m ≡ u % 2 ^ m
fitted_low x n m u h = by (nat_lt n x)
  where
    by : (b : Bool) → (if b then wrapped n u else u) % 2 ^ m ≡ u % 2 ^ m
    by true = cut_twice u n m h
    by false = refl

-- the value that the old copy may give
abbrev CopyChosen : (x m n v u : ℕ) → Type 0
CopyChosen x m n v u = (chosen : ℕ) × IsGiven (copied m n v) (chosen ∷ []) × StandsFor x n x chosen u

low_of : (x m n v u : ℕ) → m < n → n ≤ x → AsWord x m v u → u % 2 ^ m ≡ v % 2 ^ m
low_of x m n v u less within (Whole e same) = absurd (omega (arith, less, within, e))
low_of x m n v u less within (Low l small low) = sym (mod-mod u (2 ^ m)) ∙ ap (λ k. k % 2 ^ m) low

wider : (x m n v u : ℕ) → m < n → n ≤ x → u < 2 ^ x → AsWord x m v u → CopyChosen x m n v u
wider x m n v u less within small word = (
  fitted x n u,
  subst (λ b. IsGiven (if b then LowBits m n v else if m == n then one v else one (wrapped n v)) (fitted x n u ∷ [])) (sym (lt-ltb m n less))
      (fitted x n u, fitted_below x n u within small, fitted_low x n m u (omega (arith, less)) ∙ low_of x m n v u less within word, refl),
  subst (λ k. StandsFor x n x (fitted x n u) k) (whole_fitted x u) (fitted_stands x n u within small),
)

same_width : (x m n v u : ℕ) → m ≡ n → StandsFor x m x v u → CopyChosen x m n v u
same_width x m n v u e stands = (
  v,
  subst (λ k. IsGiven (copied m k v) (v ∷ [])) e
      (subst (λ b. IsGiven (if b then LowBits m m v else if m == m then one v else one (wrapped m v)) (v ∷ [])) (sym (not_below_itself m))
      (subst (λ b. IsGiven (if b then one v else one (wrapped m v)) (v ∷ [])) (sym (eq-eqb m m refl)) refl)),
  subst (λ k. StandsFor x k x v u) e stands,
)

narrower_low : (x m n v u : ℕ) → n < m → AsWord x m v u → u % 2 ^ n ≡ v % 2 ^ n
narrower_low x m n v u less (Whole e same) = ap (λ k. k % 2 ^ n) same
narrower_low x m n v u less (Low l small low) = sym (cut_twice u m n (omega (arith, less))) ∙ ap (λ k. k % 2 ^ n) low

narrower : (x m n v u : ℕ) → n < m → m ≤ x → u < 2 ^ x → nat_lt m n ≡ false → (m == n) ≡ false → AsWord x m v u → CopyChosen x m n v u
narrower x m n v u less within small not_wider not_same word = (
  wrapped n v,
  subst (λ b. IsGiven (if b then LowBits m n v else if m == n then one v else one (wrapped n v)) (wrapped n v ∷ [])) (sym not_wider)
      (subst (λ b. IsGiven (if b then one v else one (wrapped n v)) (wrapped n v ∷ [])) (sym not_same) refl),
  low_stands x n (wrapped n v) u (omega (arith, less, within)) small (narrower_low x m n v u less word),
)

at_most : (x m v u : ℕ) → AsWord x m v u → m ≤ x
at_most x m v u (Whole e same) = omega (arith, e)
at_most x m v u (Low less small low) = omega (arith, less)

choose_copy : (x m n v u : ℕ) → n ≤ x → u < 2 ^ x → StandsFor x m x v u → CopyChosen x m n v u
choose_copy x m n v u within small stands = by (less_tells m n) (eqb_tells m n)
  where
    by : ((nat_lt m n) ≡ true) × (m < n) ⊎ ((nat_lt m n) ≡ false) × (n ≤ m) → ((m == n) ≡ true) × (m ≡ n) ⊎ ((m == n) ≡ false) × (m ≡ n → ⊥) → CopyChosen x m n v u
    by (inl less) same = wider x m n v u less.1 within small (as_word x m v u stands)
    by (inr other) (inl same) = same_width x m n v u same.1 stands
    by (inr other) (inr apart) =
        narrower x m n v u (omega (arith, other.1, apart.1)) (at_most x m v u (as_word x m v u stands)) small other.0 apart.0 (as_word x m v u stands)

-- a place has a word in the new function, and at most a word in the old one
place_within : (x : ℕ) (names : List (List ℕ)) (width width' : ℕ → ℕ) (p : Place) → PlacesWorded (setting x names width) (setting x names width') (p ∷ []) → width_of_place (setting x names width) p ≤ x
place_within x names width width' (Virtual r) worded = worded.0
place_within x names width width' (Physical n) worded = omega arith

place_whole : (x : ℕ) (names : List (List ℕ)) (width width' : ℕ → ℕ) (p : Place) → PlacesWorded (setting x names width) (setting x names width') (p ∷ []) → width_of_place (setting x names width') p ≡ x
place_whole x names width width' (Virtual r) worded = worded.1
place_whole x names width width' (Physical n) worded = refl

pub place_stands : (x : ℕ) (names : List (List ℕ)) (width width' : ℕ → ℕ) (p : Place) → PlacesWorded (setting x names width) (setting x names width') (p ∷ []) → (v u : ℕ)
    → StandsFor x (width_of_place (setting x names width) p) x v u → PlaceStands (setting x names width) (setting x names width') p v u
place_stands x names width width' (Virtual r) worded v u stands = subst (λ n. StandsFor x (width r) n v u) (sym worded.1) stands
place_stands x names width width' (Physical n) worded v u stands = stands_alike x x v u stands

-- one value into one place
one_answered : (x : ℕ) (names : List (List ℕ)) (width width' : ℕ → ℕ) (p : Place) → PlacesWorded (setting x names width) (setting x names width') (p ∷ []) → (g : Given) (outside : Outside) (answer' : Answer) (u : ℕ)
    → answer' ≡ Results (u ∷ []) outside → (v : ℕ) → IsGiven g (v ∷ []) → StandsFor x (width_of_place (setting x names width) p) x v u
    → (answer : Answer) × Answers g outside answer × AnswerStands (setting x names width) (setting x names width') (p ∷ []) answer answer'
one_answered x names width width' p worded g outside answer' u is v given stands =
    (Results (v ∷ []) outside, given_answers g (v ∷ []) outside given, (u ∷ [], (place_stands x names width width' p worded v u stands, tt), is))

one_copied : (x : ℕ) (names : List (List ℕ)) (width width' : ℕ → ℕ) (p : Place) → PlacesWorded (setting x names width) (setting x names width') (p ∷ []) → (m v u : ℕ) → StandsFor x m x v u → u < 2 ^ x
    → (outside : Outside) (answer' : Answer) → Answers (copied x (width_of_place (setting x names width') p) u) outside answer'
    → (answer : Answer) × Answers (copied m (width_of_place (setting x names width) p) v) outside answer × AnswerStands (setting x names width) (setting x names width') (p ∷ []) answer answer'
one_copied x names width width' p worded m v u stands small outside answer' act =
    let n : ℕ = width_of_place (setting x names width) p in
    let whole : Answers (one u) outside answer' =
    subst (λ g. Answers g outside answer') (copied_whole x u) (subst (λ k. Answers (copied x k u) outside answer') (place_whole x names width width' p worded) act) in
    let chosen : CopyChosen x m n v u = choose_copy x m n v u (place_within x names width width' p worded) small stands in
    one_answered x names width width' p worded (copied m n v) outside answer' u (whole.2 ∙ ap (λ us. Results us outside) whole.1) chosen.0 chosen.1 chosen.2

pub copy_worded : (x : ℕ) (names : List (List ℕ)) (width width' : ℕ → ℕ) (ps : List Place) → PlacesWorded (setting x names width) (setting x names width') ps → (olds news : List Argument) → AllArgumentsWorded x olds news
    → (outside : Outside) (answer' : Answer) → Answers (copy (map (width_of_place (setting x names width')) ps) news) outside answer'
    → (answer : Answer) × Answers (copy (map (width_of_place (setting x names width)) ps) olds) outside answer × AnswerStands (setting x names width) (setting x names width') ps answer answer'
copy_worded x names width width' [] worded olds news args outside answer' act = (an_answer.Undefined, refl, act)
copy_worded x names width width' (p ∷ q ∷ ps) worded olds news args outside answer' act = (an_answer.Undefined, refl, act)
copy_worded x names width width' (p ∷ []) worded [] [] args outside answer' act = (an_answer.Undefined, refl, act)
copy_worded x names width width' (p ∷ []) worded [] (b ∷ news) args outside answer' act = absurd args
copy_worded x names width width' (p ∷ []) worded (a ∷ olds) [] args outside answer' act = absurd args
copy_worded x names width width' (p ∷ []) worded (Value m v ∷ []) (b ∷ []) args outside answer' act =
    one_copied x names width width' p worded m v args.0.0 args.0.1 args.0.2 outside answer'
    (subst (λ k. Answers (copy (width_of_place (setting x names width') p ∷ []) (k ∷ [])) outside answer') args.0.3 act)
copy_worded x names width width' (p ∷ []) worded (Value m v ∷ a ∷ olds) (b ∷ c ∷ news) args outside answer' act =
    (an_answer.Undefined, refl, subst (λ k. Answers (copy (width_of_place (setting x names width') p ∷ []) (k ∷ c ∷ news)) outside answer') args.0.3 act)
copy_worded x names width width' (p ∷ []) worded (Value m v ∷ a ∷ olds) (b ∷ []) args outside answer' act = absurd args.1
copy_worded x names width width' (p ∷ []) worded (Value m v ∷ []) (b ∷ c ∷ news) args outside answer' act = absurd args.1
copy_worded x names width width' (p ∷ []) worded (Number z ∷ olds) (b ∷ news) args outside answer' act =
    (an_answer.Undefined, refl, subst (λ k. Answers (copy (width_of_place (setting x names width') p ∷ []) (k ∷ news)) outside answer') args.0 act)
copy_worded x names width width' (p ∷ []) worded (a ∷ olds) (b ∷ news) args outside answer' act =
    (an_answer.Undefined, refl, subst (λ k. Answers (copy (width_of_place (setting x names width') p ∷ []) (k ∷ news)) outside answer') args.0 act)

pub free_worded : (x : ℕ) (names : List (List ℕ)) (width width' : ℕ → ℕ) (ps : List Place) → PlacesWorded (setting x names width) (setting x names width') ps → (olds news : List Argument) → AllArgumentsWorded x olds news
    → (outside : Outside) (answer' : Answer) → Answers (nullary free (map (width_of_place (setting x names width')) ps) news) outside answer'
    → (answer : Answer) × Answers (nullary free (map (width_of_place (setting x names width)) ps) olds) outside answer × AnswerStands (setting x names width) (setting x names width') ps answer answer'
free_worded x names width width' [] worded olds news args outside answer' act = (an_answer.Undefined, refl, act)
free_worded x names width width' (p ∷ q ∷ ps) worded olds news args outside answer' act = (an_answer.Undefined, refl, act)
free_worded x names width width' (p ∷ []) worded [] (b ∷ news) args outside answer' act = absurd args
free_worded x names width width' (p ∷ []) worded (a ∷ olds) [] args outside answer' act = absurd args
free_worded x names width width' (p ∷ []) worded (a ∷ olds) (b ∷ news) args outside answer' act = (an_answer.Undefined, refl, act)
free_worded x names width width' (p ∷ []) worded [] [] args outside answer' act =
    let n : ℕ = width_of_place (setting x names width) p in
    let within : n ≤ x = place_within x names width width' p worded in
    let given : (u : ℕ) × (u < 2 ^ width_of_place (setting x names width') p) × (u % 2 ^ 0 ≡ 0 % 2 ^ 0) × (act.0 ≡ u ∷ []) = act.1 in
    let small : given.0 < 2 ^ x = subst (λ k. given.0 < 2 ^ k) (place_whole x names width width' p worded) given.1 in
    one_answered x names width width' p worded (free n) outside answer' given.0 (act.2 ∙ ap (λ us. Results us outside) given.3) (fitted x n given.0)
    (fitted x n given.0, fitted_below x n given.0 within small, no_remainder (fitted x n given.0) ∙ sym (no_remainder 0), refl)
    (subst (λ k. StandsFor x n x (fitted x n given.0) k) (whole_fitted x given.0) (fitted_stands x n given.0 within small))
