-- One call on a session: what it returns, and where it leaves the session, refusals too.
use Rattle.std.specs.Prelude.{◌≡◌, ℕ, ◌<◌, ◌≤◌, Bool, true, false, ◌&&◌, ◌⊎◌, List, nat_lt}
use Rattle.region.specs.Exact.{outside}
use Rattle.region.specs.Subject.{Arena, Row, covered, good}
use Rattle.session.specs.Faults.{session_number}
use Rattle.session.specs.declared.fault.SessionFault.TheVariants.{Foreign, OutOfRange}

-- a session is waiting at a state, or has an event raised there
pub data Stage : Type 0 where
  waiting : ℕ → Stage
  pending : ℕ → ℕ → Stage

abbrev pub state_of : Stage → ℕ
state_of (waiting s) = s
state_of (pending s e) = s

pub data Call : Type 0 where
  raising : ℕ → Call
  settling : ℕ → Call
  resetting : Call

-- what a call returns beside the session: a settle its answer and whether it replaced the wish, a refusal its number
pub data Reply : Type 0 where
  done : Reply
  settled : ℕ → Bool → Reply
  refused : ℕ → Reply

-- a waiting session allows raise and reset, and one with an event raised settle alone
abbrev pub Allows : Stage → Call → Type 0
Allows (waiting s) (raising e) = Unit {0}
Allows (waiting s) (settling w) = ⊥
Allows (waiting s) resetting = Unit {0}
Allows (pending s e) (raising f) = ⊥
Allows (pending s e) (settling w) = Unit {0}
Allows (pending s e) resetting = ⊥

-- a session that this region never gave: its state is out of range or covered, or the event raised is out of range
abbrev pub ForeignTo : Arena → List Row → Stage → Type 0
ForeignTo g rs (waiting s) = (g.states ≤ s) ⊎ (covered rs s ≡ true)
ForeignTo g rs (pending s e) = (g.states ≤ s) ⊎ ((covered rs s ≡ true) ⊎ (g.events ≤ e))

-- the same as a test: whether the session is at home
abbrev pub at_home : Arena → List Row → Stage → Bool
at_home g rs (waiting s) = outside g rs s
at_home g rs (pending s e) = outside g rs s && nat_lt e g.events

-- one call: what the contracts of raise, settle and reset promise
pub data Gives (g : Arena) (rs : List Row) : Stage → Call → Reply → Stage → Type 0 where
  foreign : (t : Stage) (c : Call) → Allows t c → ForeignTo g rs t → Gives g rs t c (refused (session_number Foreign)) t
  raised : (s e : ℕ) → (ForeignTo g rs (waiting s) → ⊥) → e < g.events → Gives g rs (waiting s) (raising e) done (pending s e)
  far_event : (s e : ℕ) → (ForeignTo g rs (waiting s) → ⊥) → g.events ≤ e
      → Gives g rs (waiting s) (raising e) (refused (session_number OutOfRange)) (waiting s)
  back : (s : ℕ) → (ForeignTo g rs (waiting s) → ⊥) → Gives g rs (waiting s) resetting done (waiting 0)
  -- the wish is used where its step is not bad and ends uncovered
  used : (s e w : ℕ) → (ForeignTo g rs (pending s e) → ⊥) → w < g.answers → good g rs s e w ≡ true
      → Gives g rs (pending s e) (settling w) (settled w false) (waiting (g.next s e w))
  -- otherwise the lowest such answer replaces it
  replaced : (s e w a : ℕ) → (ForeignTo g rs (pending s e) → ⊥) → w < g.answers → good g rs s e w ≡ false
      → a < g.answers → good g rs s e a ≡ true → ((b : ℕ) → b < a → good g rs s e b ≡ false)
      → Gives g rs (pending s e) (settling w) (settled a true) (waiting (g.next s e a))
  far_wish : (s e w : ℕ) → (ForeignTo g rs (pending s e) → ⊥) → g.answers ≤ w
      → Gives g rs (pending s e) (settling w) (refused (session_number OutOfRange)) (pending s e)
