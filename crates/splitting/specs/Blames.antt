-- What a conflict comes from, place by place of the trail from its end down.
use Rattle.std.specs.Prelude.{◌≡◌, ℕ, ◌+◌, ◌%◌, ◌<◌, ◌≤◌, Bool, true, false, List, slice_index}
use Rattle.splitting.specs.Trails.{Models, SeenTrue, OpenTrue}
use Rattle.splitting.specs.declared.blame.Blame.{Blame}
use Rattle.splitting.specs.declared.blame.Blame.TheVariants.{Marked, Every, Place}

-- what counts besides the literals that are seen: nothing, every open decision below place i, or those up to a place
abbrev pub Counts : Blame → (ℕ → ℕ) → List ℕ → List ℕ → ℕ → ℕ → Type 0
Counts Marked m trail reason base i = Unit {0}
Counts Every m trail reason base i = OpenTrue m trail reason base i
Counts (Place t) m trail reason base i = OpenTrue m trail reason base (t + 1)

-- no model of the clauses makes true what is seen below place i and what counts besides
abbrev pub Blamed : Blame → List ℕ → List ℕ → List ℕ → List ℕ → ℕ → ℕ → Type 0
Blamed b cells trail reason seen base i =
    (m : ℕ → ℕ) → Models cells m → SeenTrue m trail seen i → Counts b m trail reason base i → ⊥

-- an open decision that counts is one, at place i or above it
abbrev pub Placed : Blame → List ℕ → ℕ → ℕ → ℕ → Type 0
Placed Marked reason base n i = Unit {0}
Placed Every reason base n i = Unit {0}
Placed (Place t) reason base n i = (base ≤ t) × (t < n) × (slice_index reason t % 2 ≡ 1) × (i ≤ t)

-- an open decision at a place, which is seen or not
abbrev pub at_open : Blame → ℕ → Bool → Blame
at_open Marked place true = Place place
at_open Marked place false = Marked
at_open Every place is_seen = Place place
at_open (Place t) place is_seen = Place t

-- a literal that was turned round, and is seen or not
abbrev pub at_turned : Blame → Bool → Blame
at_turned Marked true = Every
at_turned Marked false = Marked
at_turned Every is_seen = Every
at_turned (Place t) is_seen = Place t
