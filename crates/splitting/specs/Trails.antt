-- The state of a search: a trail of literals, each with the number of a reason, and a table of the values that they give.
-- The places below `base` hold the assumptions.
use Rattle.std.specs.Prelude.{◌≡◌, ℕ, zero, suc, ◌+◌, ◌-◌, ◌*◌, ◌/◌, ◌%◌, ◌^◌, ◌<◌, ◌≤◌, Bool, true, ◌==◌, List, [], ◌∷◌, length, get_or, take, ◌≢◌, slice_index, slice_index_or}
use Rattle.std.specs.List.{list_any}
use Rattle.splitting.specs.Cells.{Holds, Met}
use Rattle.cells.specs.Cells.{clauses, Starts}

-- how many variables have no value
abbrev pub zeros : List ℕ → ℕ
zeros [] = 0
zeros (zero ∷ xs) = zeros xs + 1
zeros (suc x ∷ xs) = zeros xs

-- whether one of the first n literals of the trail is of variable v
abbrev pub on_trail : List ℕ → ℕ → ℕ → Bool
on_trail trail n v = list_any (λ l. l / 2 == v) (take n trail)

-- the table says just what the first n literals of the trail say
pub record Kept (value trail : List ℕ) (n : ℕ) : Type 0 where
  pub sound : (i : ℕ) → i < n → Holds value (slice_index trail i)
  pub listed : (v : ℕ) → 1 ≤ slice_index value v → on_trail trail n v ≡ true
  pub apart : (i j : ℕ) → i < j → j < n → slice_index trail i / 2 ≢ slice_index trail j / 2
  pub inside : (i : ℕ) → i < n → slice_index trail i / 2 < length value
  pub room : n + zeros value ≤ length trail

-- the literal of the same variable and the other sign
abbrev pub negation : ℕ → ℕ
negation l = l + 1 - 2 * (l % 2)

-- what is left of the search, in base 3: the digit of a place is 2 past the trail, 1 at an open decision and 0 elsewhere
abbrev pub weight : ℕ → List ℕ → ℕ
weight r [] = 3 ^ r
weight r (k ∷ ks) = (k % 2) * 3 ^ (r - 1) + weight (r - 1) ks

abbrev pub left : List ℕ → ℕ → ℕ
left reason n = weight (length reason) (take n reason)

-- a model gives each variable 1 or 2, and makes a literal of each clause true
abbrev pub True : (ℕ → ℕ) → ℕ → Type 0
True m l = m (l / 2) ≡ 1 + l % 2

abbrev pub Meets : (ℕ → ℕ) → List ℕ → Type 0
Meets m c = (k : ℕ) × ((k < length c) × True m (slice_index c k))

pub record Models (cells : List ℕ) (m : ℕ → ℕ) : Type 0 where
  pub total : (v : ℕ) → (1 ≤ m v) × (m v ≤ 2)
  pub meets : (j : ℕ) → j < length (clauses cells) → Meets m (slice_index_or (clauses cells) j [])

-- a variable is seen: an assumption on it counts
abbrev pub Seen : List ℕ → ℕ → Type 0
Seen seen l = 1 ≤ slice_index seen (l / 2)

-- a model makes the literals below place i true that are seen
abbrev pub SeenTrue : (ℕ → ℕ) → List ℕ → List ℕ → ℕ → Type 0
SeenTrue m trail seen i = (j : ℕ) → j < i → Seen seen (slice_index trail j) → True m (slice_index trail j)

-- a model makes the open decisions below place i true
abbrev pub OpenTrue : (ℕ → ℕ) → List ℕ → List ℕ → ℕ → ℕ → Type 0
OpenTrue m trail reason base i = (j : ℕ) → base ≤ j → j < i → slice_index reason j % 2 ≡ 1 → True m (slice_index trail j)

-- a place without a reason follows from the clauses, the assumptions that are seen and the open decisions below it
abbrev pub Follows : List ℕ → List ℕ → List ℕ → List ℕ → ℕ → ℕ → Type 0
Follows cells trail reason seen base n =
    (i : ℕ) → base ≤ i → i < n → slice_index reason i ≡ 0
    → (m : ℕ → ℕ) → Models cells m → SeenTrue m trail seen base → OpenTrue m trail reason base i → True m (slice_index trail i)

-- the literal's negation stands on the trail below place i
pub record Denied (trail : List ℕ) (i l : ℕ) : Type 0 where
  pub place : ℕ
  pub below : place < i
  pub variable : get_or trail place 0 / 2 ≡ l / 2
  pub sign : get_or trail place 0 % 2 ≡ l % 2 → ⊥

-- of clause number j every literal but l is denied below place i
pub record Forces (cells trail : List ℕ) (i j l : ℕ) : Type 0 where
  pub below : j < length (clauses cells)
  pub others : (k : ℕ) → k < length (slice_index_or (clauses cells) j []) → (slice_index (slice_index_or (clauses cells) j []) k ≢ l) → Denied trail i (slice_index (slice_index_or (clauses cells) j []) k)

-- a forced place's reason is the place of a clause, doubled, past 0: its other literals are denied below
pub record Clausal (cells trail : List ℕ) (i l r : ℕ) : Type 0 where
  pub number : ℕ
  pub starts : Starts cells (r / 2 - 1) number
  pub inside : r / 2 - 1 < length cells
  pub forces : Forces cells trail i number l

abbrev pub Reasons : List ℕ → List ℕ → List ℕ → ℕ → ℕ → Type 0
Reasons cells trail reason base n =
    (i : ℕ) → base ≤ i → i < n → slice_index reason i % 2 ≡ 0 → 1 ≤ slice_index reason i → Clausal cells trail i (slice_index trail i) (slice_index reason i)

-- every literal of the clause at place p is denied by the trail
pub record Clash (cells trail : List ℕ) (n p : ℕ) : Type 0 where
  pub number : ℕ
  pub starts : Starts cells p number
  pub below : number < length (clauses cells)
  pub denied : (k : ℕ) → k < length (slice_index_or (clauses cells) number []) → Denied trail n (slice_index (slice_index_or (clauses cells) number []) k)

-- the clauses before place p of the cells are met
pub record Front (cells value : List ℕ) (p : ℕ) : Type 0 where
  pub number : ℕ
  pub starts : Starts cells p number
  pub met : (i : ℕ) → i < number → Met value (slice_index_or (clauses cells) i [])

-- a literal of c stands on the trail below place n
abbrev pub MetBy : List ℕ → ℕ → List ℕ → Type 0
MetBy trail n c = (k : ℕ) × (t : ℕ) × (k < length c) × (t < n) × (slice_index c k ≡ slice_index trail t)

-- the clauses before place p of the cells are met by the trail below place n
pub record FrontBy (cells trail : List ℕ) (n p : ℕ) : Type 0 where
  pub number : ℕ
  pub starts : Starts cells p number
  pub met : (i : ℕ) → i < number → MetBy trail n (slice_index_or (clauses cells) i [])

-- half an open decision's reason is a place before which the trail up to it meets every clause
abbrev pub Fronts : List ℕ → List ℕ → List ℕ → ℕ → ℕ → Type 0
Fronts cells trail reason base n =
    (i : ℕ) → base ≤ i → i < n → slice_index reason i % 2 ≡ 1 → FrontBy cells trail i (slice_index reason i / 2)

-- the reasons of a search with n literals on the trail
pub record Good (cells trail reason : List ℕ) (base n : ℕ) : Type 0 where
  pub reasons : Reasons cells trail reason base n
  pub fronts : Fronts cells trail reason base n

-- the table meets every clause
abbrev pub AllMet : List ℕ → List ℕ → Type 0
AllMet cells value = (j : ℕ) → j < length (clauses cells) → Met value (slice_index_or (clauses cells) j [])

-- the first n places of the trail hold just the first `count` assumptions
pub record Assumed (assumed trail : List ℕ) (n count : ℕ) : Type 0 where
  pub each : (k : ℕ) → k < count → (t : ℕ) × ((t < n) × (slice_index trail t ≡ slice_index assumed k))
  pub only : (t : ℕ) → t < n → (k : ℕ) × ((k < count) × (slice_index trail t ≡ slice_index assumed k))

-- two of the assumptions contradict each other, and their variable is seen
pub record Contrary (assumed seen : List ℕ) : Type 0 where
  pub one : ℕ
  pub other : ℕ
  pub one_below : one < length assumed
  pub other_below : other < length assumed
  pub variable : get_or assumed one 0 / 2 ≡ slice_index assumed other / 2
  pub differ : get_or assumed one 0 ≡ slice_index assumed other → ⊥
  pub seen_one : Seen seen (slice_index assumed one)

-- no model of the clauses makes every assumption true whose variable is seen
abbrev pub Refutes : List ℕ → List ℕ → List ℕ → Type 0
Refutes cells seen assumed =
    (m : ℕ → ℕ) → Models cells m → ((k : ℕ) → k < length assumed → Seen seen (slice_index assumed k) → True m (slice_index assumed k)) → ⊥

-- what is seen of some literals stays seen
abbrev pub Grows : List ℕ → List ℕ → List ℕ → ℕ → Type 0
Grows trail seen seen' base = (j : ℕ) → j < base → Seen seen (slice_index trail j) → Seen seen' (slice_index trail j)
