-- Numbers written down by place: pages of 256 places each, of which those that hold a number are there.
use Rattle.std.specs.Prelude.{◌≡◌, ◌≢◌, ℕ, suc, ◌/◌, ◌%◌, List, [], Option, Some, None, nat_eq, false, get_or, unwrap_or, position}
use Rattle.std.specs.BTreeMap.{BTreeMap, get}
use Rattle.std.specs.Ordering.{nat_cmp}

-- the number at a place, and 0 where no page is
abbrev pub number_at : BTreeMap ℕ (List ℕ) → ℕ → ℕ
number_at pages n = get_or (unwrap_or (get nat_cmp pages (n / 256)) []) (n % 256) 0

-- one more than a place, and 0 where there is none
abbrev pub one_above : Option ℕ → ℕ
one_above None = 0
one_above (Some place) = suc place

-- the pages hold the place of each number of a list, and of no other
pub record IsPaged (keys : List ℕ) (pages : BTreeMap ℕ (List ℕ)) : Type 0 where
  pub number_at : (n : ℕ) → number_at pages n ≡ one_above (position (nat_eq n) keys)

-- a page that holds no number
pub record IsBlank (page : List ℕ) : Type 0 where
  pub nowhere : (k : ℕ) → get_or page k 0 ≡ 0

-- a page that holds the same numbers but for one place
pub record IsPageWritten (old new : List ℕ) (at place : ℕ) : Type 0 where
  pub here : get_or new at 0 ≡ place
  pub elsewhere : (k : ℕ) → at ≢ k → get_or new k 0 ≡ get_or old k 0

-- pages that hold the same numbers
pub record AreAlike (old new : BTreeMap ℕ (List ℕ)) : Type 0 where
  pub alike : (k : ℕ) → number_at new k ≡ number_at old k

-- pages that hold the same numbers but for one place
pub record IsWritten (old new : BTreeMap ℕ (List ℕ)) (n place : ℕ) : Type 0 where
  pub here : number_at new n ≡ place
  pub elsewhere : (k : ℕ) → nat_eq n k ≡ false → number_at new k ≡ number_at old k
