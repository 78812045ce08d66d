-- From one clause in the cells to the next.
use Rattle.std.proofs.Common.{◌≡◌, ℕ, ◌+◌, ◌-◌, ◌<◌, ◌≤◌, List, [], ◌∷◌, ◌++◌, length, get_or, take, drop, sym, refl, ap, ◌∙◌, arith}
use Rattle.std.proofs.lemmas.List.{drop_more, take_at, drop_at, drop-drop, length-drop, length-append, length-take}
use Rattle.cells.specs.Cells.{flat, clauses, Starts, Reads}
use Rattle.cells.proofs.Codes.{length_flat}

pub record Stepped (cs : List (List ℕ)) (cells : List ℕ) (p j : ℕ) : Type 0 where
  pub more : j < length cs
  pub clause : take (get_or cells p 0) (drop (p + 1) cells) ≡ get_or cs j []
  pub fits : p + 1 + get_or cells p 0 ≤ length cells
  pub next : drop (p + 1 + get_or cells p 0) cells ≡ flat (drop (j + 1) cs)

stepped : (cs : List (List ℕ)) (cells : List ℕ) (p j : ℕ) (ds : List (List ℕ)) → drop j cs ≡ ds
    → drop p cells ≡ flat ds → p < length cells → Stepped cs cells p j
stepped cs cells p j [] e s h = absurd (omega (arith, length-drop p cells, ap length s))
stepped cs cells p j (c ∷ ds) e s h =
    let lt : j < length cs = omega (arith, length-drop j cs, ap length e) in
    let d : get_or cs j [] ∷ drop (j + 1) cs ≡ c ∷ ds = sym (drop_more cs j [] lt) ∙ e in
    let c-is : get_or cs j [] ≡ c = cc in
    let ds-is : drop (j + 1) cs ≡ ds = cc in
    let q : get_or cells p 0 ∷ drop (p + 1) cells ≡ length c ∷ (c ++ flat ds) = sym (drop_more cells p 0 h) ∙ s in
    let n-is : get_or cells p 0 ≡ length c = cc in
    let rest : drop (p + 1) cells ≡ c ++ flat ds = cc in
    let t : take (length c) (c ++ flat ds) ≡ c = take_at c (flat ds) (length c) refl in
    let u : drop (length c) (c ++ flat ds) ≡ flat ds = drop_at c (flat ds) (length c) refl in
    let v : drop (length c) (drop (p + 1) cells) ≡ drop (p + 1 + length c) cells = drop-drop (length c) (p + 1) cells in
    record {
      more = lt;
      clause = cc;
      fits = omega (arith, length-drop (p + 1) cells, ap length rest, length-append c (flat ds));
      next = cc;
    }

pub step : (cells : List ℕ) (p j : ℕ) → Starts cells p j → p < length cells → Stepped (clauses cells) cells p j
step cells p j s h = stepped (clauses cells) cells p j (drop j (clauses cells)) refl s h

pub part_length : (cells : List ℕ) (p : ℕ) → p + 1 + get_or cells p 0 ≤ length cells
    → length (take (p + 1 + get_or cells p 0 - (p + 1)) (drop (p + 1) cells)) ≡ get_or cells p 0
part_length cells p h = simp (length-take, length-drop) (omega arith)

cut : (p n : ℕ) → p + 1 + n - (p + 1) ≡ n
cut p n = omega arith

pub part_reads : (cells : List ℕ) (p j : ℕ) → Starts cells p j → p < length cells
    → Reads cells p j (take (p + 1 + get_or cells p 0 - (p + 1)) (drop (p + 1) cells))
part_reads cells p j s h =
    let w = step cells p j s h in
    let n = part_length cells p w.fits in
    record {
      clause = ap (λ x. take x (drop (p + 1) cells)) (cut p (get_or cells p 0)) ∙ w.clause;
      below = w.more;
      next = rw n w.next;
    }

pub ended : (cells : List ℕ) (p j : ℕ) → Starts cells p j → length cells ≤ p → length (clauses cells) ≤ j
ended cells p j s h =
    omega (arith, length-drop j (clauses cells), length-drop p cells, ap length s, length_flat (drop j (clauses cells)))
