-- What a search keeps of a trail, and what one propagation does to it.
use Rattle.std.specs.Prelude.{◌≡◌, ℕ, ◌+◌, ◌<◌, ◌≤◌, List, length, slice_index, slice_set}
use Rattle.splitting.specs.Trails.{Good, left}
use Rattle.splitting.specs.declared.trail.Trail.{Trail}

abbrev pub GoodTrail : List ℕ → Trail → Type 0
GoodTrail cells t = Good cells t.literals.now t.reasons.now t.base t.count

-- place n of the trail is written, and is its last then
pub record Writes (t t' : Trail) (n l why : ℕ) : Type 0 where
  pub size : length t'.value.now ≡ length t.value.now
  pub literals : t'.literals.now ≡ slice_set t.literals.now n l
  pub reasons : t'.reasons.now ≡ slice_set t.reasons.now n why
  pub count : t'.count ≡ n + 1
  pub base : t'.base ≡ t.base

-- forced literals alone are new
pub record Spreads (t t' : Trail) : Type 0 where
  pub size : length t'.value.now ≡ length t.value.now
  pub base : t'.base ≡ t.base
  pub longer : t.count ≤ t'.count
  pub same_literals : (j : ℕ) → j < t.count → slice_index t'.literals.now j ≡ slice_index t.literals.now j
  pub same_reasons : (j : ℕ) → j < t.count → slice_index t'.reasons.now j ≡ slice_index t.reasons.now j
  pub forced : (j : ℕ) → t.count ≤ j → j < t'.count → 1 ≤ slice_index t'.reasons.now j
  pub bound : left t'.reasons.now t'.count ≤ left t.reasons.now t.count
