-- A table written at the first place that is not used, where the first n are.
use Rattle.std.proofs.Common.{◌≡◌, ℕ, ◌+◌, ◌<◌, List, [], ◌∷◌, ◌++◌, length, take, set, sym, ap, arith}
use Rattle.std.proofs.lemmas.List.{take_more_set, length-take-le}

pub one_written : {X : Type 0} (xs : List X) (n : ℕ) (x : X) → n < length xs
    → (length (take n xs) < length xs) × (take (n + 1) (set xs n x) ≡ take n xs ++ (x ∷ [])) × (set xs n x ≡ set xs (length (take n xs)) x)
one_written xs n x l =
    let k = length-take-le n xs (omega arith) in
    (omega (arith, k), take_more_set xs n x l, ap (λ i. set xs i x) (sym k))
