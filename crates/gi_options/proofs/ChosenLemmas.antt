-- What the first of several words sets.
use Rattle.std.proofs.Common.{◌≡◌, ℕ, ◌-◌, ◌≤◌, Bool, true, false, List, [], ◌∷◌, Some, length, take, drop, get_or, map, refl, ap, ap₂, sym, ◌∙◌, arith, if◌then◌else◌}
use Rattle.std.proofs.lemmas.List.{take_all}
use Rattle.gi_options.specs.Options.{Choice, takes_next, with_setting, setting_at, first_setting, chosen}
use Rattle.gi_options.specs.declared.options.Setting.{Setting}

-- all but the first
abbrev rest_of : {X : Type 0} → List X → List X
rest_of xs = take (length xs - 1) (drop 1 xs)

rest_is : {X : Type 0} → (x : X) (xs : List X) → rest_of (x ∷ xs) ≡ xs
rest_is x xs = take_all (length (x ∷ xs) - 1) xs (omega arith)

as_first : {X : Type 0} → (xs : List X) (x : X) → 1 ≤ length xs → x ≡ get_or xs 0 x → xs ≡ x ∷ rest_of xs
as_first [] x some is = absurd (omega (arith, some))
as_first (first ∷ xs) x some is = ap₂ (λ a b. a ∷ b) (sym is) (sym (rest_is first xs))

as_two : {X : Type 0} → (xs : List X) (x y : X) → 1 ≤ length xs → x ≡ get_or xs 0 x → 1 ≤ length (rest_of xs) → y ≡ get_or (rest_of xs) 0 y → xs ≡ x ∷ y ∷ rest_of (rest_of xs)
as_two xs x y some is more next = as_first xs x some is ∙ ap (λ rest. x ∷ rest) (as_first (rest_of xs) y more next)

-- the words, where the first sets this thing
set_by : (choice : Choice) (s : Setting) (word next : List ℕ) (words : List (List ℕ)) (t : Bool) → setting_at choice word ≡ Some s → takes_next s ≡ t
    → chosen choice (word ∷ next ∷ words) ≡ chosen (with_setting choice s word next) (if t then words else next ∷ words)
set_by choice s word next words true given takes = rw (given, takes) refl
set_by choice s word next words false given takes = rw (given, takes) refl

pub set_two : {X : Type 0} → (f : X → List ℕ) (choice : Choice) (s : Setting) (xs : List X) (x y : X) → first_setting choice (map f xs) ≡ Some s → takes_next s ≡ true
    → 1 ≤ length xs → x ≡ get_or xs 0 x → 1 ≤ length (rest_of xs) → y ≡ get_or (rest_of xs) 0 y
    → chosen choice (map f xs) ≡ chosen (with_setting choice s (f x) (f y)) (map f (rest_of (rest_of xs)))
set_two f choice s xs x y given takes some is more next =
    let split = as_two xs x y some is more next in
    ap (λ words. chosen choice (map f words)) split
    ∙ set_by choice s (f x) (f y) (map f (rest_of (rest_of xs))) true (sym (ap (λ words. first_setting choice (map f words)) split) ∙ given) takes

pub set_one : {X : Type 0} → (f : X → List ℕ) (choice : Choice) (s : Setting) (xs : List X) (x y : X) → first_setting choice (map f xs) ≡ Some s → takes_next s ≡ false
    → 1 ≤ length xs → x ≡ get_or xs 0 x → 1 ≤ length (rest_of xs) → y ≡ get_or (rest_of xs) 0 y
    → chosen choice (map f xs) ≡ chosen (with_setting choice s (f x) (f y)) (map f (rest_of xs))
set_one f choice s xs x y given takes some is more next =
    let split = as_two xs x y some is more next in
    ap (λ words. chosen choice (map f words)) split
    ∙ set_by choice s (f x) (f y) (map f (rest_of (rest_of xs))) false (sym (ap (λ words. first_setting choice (map f words)) split) ∙ given) takes
    ∙ ap (λ words. chosen (with_setting choice s (f x) (f y)) (map f words)) (sym (as_first (rest_of xs) y more next))
