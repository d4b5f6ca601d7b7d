-- Prefixes that grow.
use Rattle.std.proofs.Common.{◌≡◌, ◌≤◌, ℕ, ◌+◌, ◌-◌, List, ◌++◌, length, take, drop, append_assoc, arith}
use Rattle.std.proofs.Math.Seq.{take-add}
use Rattle.std.proofs.lemmas.List.{take_rest, take_at, take-append-drop, drop-drop, length-take-le, length-drop}

-- after the first n, the first m of the rest are appended
pub take_more_appended : (old held new xs : List ℕ) (n m : ℕ) → held ≡ old ++ take n xs → new ≡ held ++ take m (take (length xs - n) (drop n xs)) → new ≡ old ++ take (n + m) xs
take_more_appended old held new xs n m so_far step = cc (take_rest xs n, take-add n m xs, append_assoc old (take n xs) (take m (drop n xs)))

-- the first n after those taken, at the front of a buffer, and what then is left
pub front_copied : (bytes copied rest : List ℕ) (taken n : ℕ) → n ≤ length bytes - taken → copied ≡ take n (take (length bytes - taken) (drop taken bytes)) → drop taken bytes ≡ take n (copied ++ rest) ++ drop (taken + n) bytes
front_copied bytes copied rest taken n within is_copied =
    let is_front : copied ≡ take n (drop taken bytes) = cc (take_rest bytes taken) in
    let fills : length (take n (drop taken bytes)) ≡ n = length-take-le n (drop taken bytes) (omega (arith, length-drop taken bytes)) in
    let is_long : length copied ≡ n = cc in
    cc (take_at copied rest n is_long, take-append-drop n (drop taken bytes), drop-drop n taken bytes)
