-- The columns of a search, which lie by themselves until a trail is made of them.
use Rattle.std.specs.Prelude.{◌≡◌, ◌≤◌, ℕ, zero, suc, List, [], ◌∷◌, length, replicate, slice_index, Some, None, Option}
use Rattle.std.proofs.Common.{sym, ◌∙◌, arith}
use Rattle.std.proofs.lemmas.List.{length-replicate}
use Rattle.std.proofs.lemmas.Grind.{common_steps}
use Rattle.splitting.specs.Trails.{Kept, zeros}
use Rattle.splitting.specs.declared.trail.Columns.{Columns}
use Rattle.splitting.specs.declared.trail.Trail.{Trail}

-- how many places each has
abbrev pub width : Option Columns → Trail → ℕ
width None t = length t.value.now
width (Some c) t = length c.value.now

zeros_le : (xs : List ℕ) → zeros xs ≤ length xs
zeros_le [] = omega arith
zeros_le (zero ∷ xs) = omega (arith, zeros_le xs)
zeros_le (suc x ∷ xs) = omega (arith, zeros_le xs)

-- an empty trail says what a table says in which no variable has a value
pub kept_none : (value trail : List ℕ) → ((v : ℕ) → slice_index value v ≡ 0) → length value ≤ length trail → Kept value trail 0
kept_none value trail z w = record {
  sound = λ i h. absurd (omega arith);
  listed = λ v h. absurd (omega (arith, z v));
  apart = λ i j a b e. absurd (omega arith);
  inside = λ i h. absurd (omega arith);
  room = omega (arith, zeros_le value);
}

pub cleared_at : (n v : ℕ) → slice_index (replicate n 0) v ≡ 0
cleared_at n v = grind (arith, common_steps)

-- the trail that is made of columns
abbrev pub cleared : Columns → Trail
cleared c =
    let size = length c.value.now in
    record {
      value = record c.value { now = replicate size 0 };
      literals = c.literals;
      reasons = c.reasons;
      count = 0;
      base = 0;
      kept = kept_none (replicate size 0) c.literals.now (cleared_at size) (omega (arith, length-replicate {A = ℕ} size 0, c.literal_room));
      literal_room = c.literal_room ∙ sym (length-replicate size 0);
      reason_room = c.reason_room ∙ sym (length-replicate size 0);
      based = omega arith;
    }

-- the trail that is made, or that the columns will make
abbrev pub shown : Option Columns → Trail → Trail
shown None t = t
shown (Some c) t = cleared c

-- two trails that say the same
pub record Alike (t t' : Trail) : Type 0 where
  pub value : t.value ≡ t'.value
  pub literals : t.literals ≡ t'.literals
  pub reasons : t.reasons ≡ t'.reasons
  pub count : t.count ≡ t'.count
  pub base : t.base ≡ t'.base
