-- A plan for one argument more.
use Rattle.std.proofs.Common.{◌≡◌, ℕ, suc, ◌+◌, ◌-◌, ◌<◌, ◌≤◌, Bool, true, false, ◌||◌, nat_le, if◌then◌else◌, List, [], ◌∷◌, ◌++◌, length, map, replicate, take, set, sum_by, refl, sym, ap, ◌∙◌, arith, append_assoc, length-append, slice_index_or}
use Rattle.std.proofs.lemmas.List.{set_at, take_more, map_more, length-take-le}
use Rattle.std.proofs.lemmas.List.Sums.{sum_by-cons}
use Rattle.gi_llt.specs.declared.Arg.{Arg}
use Rattle.gi_cc.specs.Assigned.{words_of, registers_from, in_eight_places}

-- a number more goes to the place behind the others
put_at : (numbers : List ℕ) (left number : ℕ) → set (numbers ++ replicate (suc left) 0) (length numbers) number ≡ (numbers ++ number ∷ []) ++ replicate left 0
put_at numbers left number = set_at numbers 0 (replicate left 0) number (length numbers) refl ∙ sym (append_assoc numbers (number ∷ []) (replicate left 0))

pub number_more : (numbers : List ℕ) (place number : ℕ) → length numbers ≡ place → place < 8 → set (in_eight_places numbers) place number ≡ in_eight_places (numbers ++ number ∷ [])
number_more numbers place number at few =
    let some : 8 - length numbers ≡ suc (7 - length numbers) = omega arith in
    let left : 8 - length (numbers ++ number ∷ []) ≡ 7 - length numbers = omega (arith, length-append numbers (number ∷ [])) in
    rw (← at, some, left) (put_at numbers (7 - length numbers) number)

pub registers_more : (xlen next : ℕ) (args : List Arg) (arg : Arg) → registers_from xlen next (args ++ arg ∷ []) ≡ registers_from xlen next args ++ (next + sum_by (words_of xlen) args) ∷ []
registers_more xlen next [] arg = let same : next ≡ next + 0 = omega arith in ap (λ n. n ∷ []) same
registers_more xlen next (first ∷ args) arg =
    let same : next + words_of xlen first + sum_by (words_of xlen) args ≡ next + sum_by (words_of xlen) (first ∷ args) = omega (arith, sum_by-cons (words_of xlen) first args) in
    ap (λ rest. next ∷ rest) (registers_more xlen (next + words_of xlen first) args arg ∙ ap (λ n. registers_from xlen (next + words_of xlen first) args ++ n ∷ []) same)

length-registers : (xlen next : ℕ) (args : List Arg) → length (registers_from xlen next args) ≡ length args
length-registers xlen next [] = refl
length-registers xlen next (arg ∷ args) = ap suc (length-registers xlen (next + words_of xlen arg) args)

length-words : (xlen : ℕ) (args : List Arg) → length (map (words_of xlen) args) ≡ length args
length-words xlen [] = refl
length-words xlen (arg ∷ args) = ap suc (length-words xlen args)

-- each argument has a word
some_word : (test : Bool) → 1 ≤ (if test then 1 else 2)
some_word true = omega arith
some_word false = omega arith

pub a_word_each : (xlen : ℕ) (args : List Arg) → length args ≤ sum_by (words_of xlen) args
a_word_each xlen [] = omega arith
a_word_each xlen (arg ∷ args) =
    let some : 1 ≤ words_of xlen arg = some_word (arg.pointer || nat_le arg.bits xlen) in
    omega (arith, sum_by-cons (words_of xlen) arg args, a_word_each xlen args, some)

-- the registers and the words of one argument more
pub first_more : (xlen place next : ℕ) (args : List Arg) (arg : Arg) → place < length args → place < 8 → next ≡ 10 + sum_by (words_of xlen) (take place args)
    → set (in_eight_places (registers_from xlen 10 (take place args))) place next ≡ in_eight_places (registers_from xlen 10 (take (place + 1) args))
first_more xlen place next args arg within few at =
    let count : length (registers_from xlen 10 (take place args)) ≡ place = length-registers xlen 10 (take place args) ∙ length-take-le place args (omega arith) in
    let more : registers_from xlen 10 (take (place + 1) args) ≡ registers_from xlen 10 (take place args) ++ next ∷ [] =
    ap (registers_from xlen 10) (take_more args place arg within) ∙ registers_more xlen 10 (take place args) _ ∙ ap (λ n. registers_from xlen 10 (take place args) ++ n ∷ []) (sym at) in
    number_more _ place next count few ∙ ap in_eight_places (sym more)

pub words_more : (xlen place words : ℕ) (args : List Arg) (arg : Arg) → place < length args → place < 8 → words ≡ words_of xlen (slice_index_or args place arg)
    → set (in_eight_places (map (words_of xlen) (take place args))) place words ≡ in_eight_places (map (words_of xlen) (take (place + 1) args))
words_more xlen place words args arg within few at =
    let count : length (map (words_of xlen) (take place args)) ≡ place = length-words xlen (take place args) ∙ length-take-le place args (omega arith) in
    let more : map (words_of xlen) (take (place + 1) args) ≡ map (words_of xlen) (take place args) ++ words ∷ [] =
    map_more (words_of xlen) args place arg within ∙ ap (λ n. map (words_of xlen) (take place args) ++ n ∷ []) (sym at) in
    number_more _ place words count few ∙ ap in_eight_places (sym more)
