-- Rows and exceptions: what they cover, and when one is justified and tight.
use Rattle.std.specs.Prelude.{◌≡◌, ℕ, ◌-◌, ◌*◌, ◌/◌, ◌%◌, ◌^◌, ◌<◌, Bool, true, false, not, ◌&&◌, List, length, get_or, take, ◌==◌, bit_and, slice_index_or}
use Rattle.circuit.specs.Step.{bit}
use Rattle.roll.specs.First.{any_passes}
use Rattle.game.specs.Game.{Arena}
use Rattle.game.specs.declared.row.Row.{Row}
use Rattle.game.specs.declared.exception.Exception.{Exception}

-- the blank ones
abbrev pub blank_row : Row
blank_row = record { care = 0; value = 0; event = 0 }

abbrev pub blank_exception : Exception
blank_exception = record { state_care = 0; state_value = 0; event_care = 0; event_value = 0 }

-- whether a number agrees with a value on the bits of a mask
abbrev pub agrees : ℕ → ℕ → ℕ → Bool
agrees care value n = bit_and n care == value

abbrev pub row_covers : Row → ℕ → Bool
row_covers r s = agrees r.care r.value s

-- some row covers the state
abbrev pub covered : List Row → ℕ → Bool
covered rs s = any_passes (λ r. row_covers r s) rs

-- the step is not bad and ends where no row covers
abbrev pub good : Arena → List Row → ℕ → ℕ → ℕ → Bool
good g rs s e a = not (g.bad s e a) && not (covered rs (g.next s e a))

-- at every state that the row covers, its event leaves the host no answer that is good by the earlier rows
abbrev pub Justified : Arena → List Row → Row → Type 0
Justified g earlier r =
    (s a : ℕ) → s < g.states → a < g.answers → row_covers r s ≡ true → good g earlier s r.event a ≡ false

-- each row's event is one, and the row is justified by the rows before it
abbrev pub JustifiedRows : Arena → List Row → Type 0
JustifiedRows g rs =
    (i : ℕ) (d : Row) → i < length rs → ((get_or rs i d).event < g.events) × Justified g (take i rs) (slice_index_or rs i d)

-- every uncovered state has, for each event, an answer that is not bad and ends uncovered
abbrev pub Answered : Arena → List Row → Type 0
Answered g rs =
    (s e : ℕ) → s < g.states → e < g.events → covered rs s ≡ false → (a : ℕ) × (a < g.answers) × (good g rs s e a ≡ true)

-- a number without one of its bits
abbrev pub less_bit : ℕ → ℕ → ℕ
less_bit n j = n - (n / 2 ^ j % 2) * 2 ^ j

-- a row without one bit of its care, and without that bit of its value
abbrev pub wider : Row → ℕ → Row
wider r j = record { care = less_bit r.care j; value = less_bit r.value j; event = r.event }

-- no bit of the care can be left out
abbrev pub Tight : Arena → List Row → Row → Type 0
Tight g earlier r = (j : ℕ) → bit r.care j ≡ true → Justified g earlier (wider r j) → ⊥

-- the row covers a state that no earlier row covers
abbrev pub New : Arena → List Row → Row → Type 0
New g earlier r = (s : ℕ) × (s < g.states) × (row_covers r s ≡ true) × (covered earlier s ≡ false)

-- a row that a run may add to the earlier ones
pub record GoodRow (g : Arena) (earlier : List Row) (r : Row) : Type 0 where
  pub care_in_range : r.care < g.states
  pub value_in_care : bit_and r.value r.care ≡ r.value
  pub event_in_range : r.event < g.events
  pub justified : Justified g earlier r
  pub tight : Tight g earlier r
  pub new : New g earlier r

-- each row is good by the rows before it
abbrev pub GoodRows : Arena → List Row → Type 0
GoodRows g rs = (i : ℕ) (d : Row) → i < length rs → GoodRow g (take i rs) (slice_index_or rs i d)

abbrev pub exception_covers : Exception → ℕ → ℕ → Bool
exception_covers x s e = agrees x.state_care x.state_value s && agrees x.event_care x.event_value e

-- some exception covers the pair
abbrev pub excepted : List Exception → ℕ → ℕ → Bool
excepted xs s e = any_passes (λ x. exception_covers x s e) xs

-- one answer is good at all the exception's pairs that have an uncovered state and lie in no earlier exception
abbrev pub Serves : Arena → List Row → List Exception → Exception → ℕ → Type 0
Serves g rs earlier x a =
    (s e : ℕ) → s < g.states → e < g.events → exception_covers x s e ≡ true → covered rs s ≡ false
    → excepted earlier s e ≡ false → good g rs s e a ≡ true

-- an exception without one bit of its state care, or of its event care, and without that bit of the value
abbrev pub wider_state : Exception → ℕ → Exception
wider_state x j = record {
  state_care = less_bit x.state_care j;
  state_value = less_bit x.state_value j;
  event_care = x.event_care;
  event_value = x.event_value;
}

abbrev pub wider_event : Exception → ℕ → Exception
wider_event x j = record {
  state_care = x.state_care;
  state_value = x.state_value;
  event_care = less_bit x.event_care j;
  event_value = less_bit x.event_value j;
}

-- an exception that a run may add to the earlier ones
pub record GoodException (g : Arena) (rs : List Row) (earlier : List Exception) (x : Exception) : Type 0 where
  pub state_care_in_range : x.state_care < g.states
  pub state_value_in_care : bit_and x.state_value x.state_care ≡ x.state_value
  pub event_care_in_range : x.event_care < g.events
  pub event_value_in_care : bit_and x.event_value x.event_care ≡ x.event_value
  -- each pair that it covers has a covered state, or some good answer
  pub harmless : (s e : ℕ) → s < g.states → e < g.events → exception_covers x s e ≡ true → covered rs s ≡ false
      → (a : ℕ) × (a < g.answers) × (good g rs s e a ≡ true)
  -- one answer serves, no bit of the cares can be left out for that answer, and some pair is new
  pub answer : ℕ
  pub answer_in_range : answer < g.answers
  pub serves : Serves g rs earlier x answer
  pub tight_state : (j : ℕ) → bit x.state_care j ≡ true → Serves g rs earlier (wider_state x j) answer → ⊥
  pub tight_event : (j : ℕ) → bit x.event_care j ≡ true → Serves g rs earlier (wider_event x j) answer → ⊥
  pub new : (s : ℕ) × (e : ℕ) × (s < g.states) × (e < g.events) × (exception_covers x s e ≡ true) × (covered rs s ≡ false) × (excepted earlier s e ≡ false)

-- each exception is good by the exceptions before it
abbrev pub GoodExceptions : Arena → List Row → List Exception → Type 0
GoodExceptions g rs xs = (i : ℕ) (d : Exception) → i < length xs → GoodException g rs (take i xs) (slice_index_or xs i d)

-- an uncovered state has an event at which no answer is good
abbrev pub RowDue : Arena → List Row → Type 0
RowDue g rs =
    (s : ℕ) × (e : ℕ) × (s < g.states) × (e < g.events) × (covered rs s ≡ false) × ((a : ℕ) → a < g.answers → good g rs s e a ≡ false)

-- a pair of an uncovered state, in no exception, has an answer that is not good and one that is
abbrev pub ExceptionDue : Arena → List Row → List Exception → Type 0
ExceptionDue g rs xs =
    (s : ℕ) × (e : ℕ) × (a : ℕ) × (b : ℕ) × (s < g.states) × (e < g.events) × (a < g.answers) × (b < g.answers)
    × (covered rs s ≡ false) × (excepted xs s e ≡ false) × (good g rs s e a ≡ false) × (good g rs s e b ≡ true)

-- at an uncovered state, outside every exception, every answer is good
abbrev pub AllGood : Arena → List Row → List Exception → Type 0
AllGood g rs xs =
    (s e a : ℕ) → s < g.states → e < g.events → a < g.answers → covered rs s ≡ false → excepted xs s e ≡ false
    → good g rs s e a ≡ true
