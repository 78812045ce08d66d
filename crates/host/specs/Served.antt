-- A list of calls on a session, with one reply for each, in the words of the game: which steps are bad, and from which states
-- bad steps can be avoided for ever. Neither rows nor solvers are spoken of.
use Rattle.std.specs.Prelude.{◌≡◌, ℕ, ◌<◌, ◌≤◌, List, [], ◌∷◌, map, IsSomeAnd}
use Rattle.region.specs.Subject.{Arena}
use Rattle.session.specs.Laws.{Keeps, Breaks}
use Rattle.session.specs.Sessions as sessions
use Rattle.session.specs.Sessions.{Stage, waiting, pending, raising, settling, resetting, Allows}
use Rattle.session.specs.declared.fault.SessionFault.TheVariants.{OutOfRange}
use Rattle.host.specs.declared.exchange.Call.{Call}
use Rattle.host.specs.declared.exchange.Call.TheVariants.{Raise, Settle, Reset}
use Rattle.host.specs.declared.exchange.Exchange.{Exchange}
use Rattle.host.specs.declared.exchange.Reply.{Reply}
use Rattle.host.specs.declared.exchange.Reply.TheVariants.{Raised, Used, Replaced, Restarted, Refused, NotAllowed}

-- a call in the words of sessions
abbrev pub call_of : Call → sessions.Call
call_of (Raise e) = raising e
call_of (Settle w) = settling w
call_of Reset = resetting

-- some answer keeps bad steps avoidable for ever
abbrev pub CanSettle : Arena → ℕ → ℕ → Type 0
CanSettle g s e = (a : ℕ) × (a < g.answers) × Keeps g s e a

-- what a call is told on a session that waits at a state, or has an event raised there, and where that leaves the session
pub data Told (g : Arena) : Stage → Call → Reply → Stage → Type 0 where
  -- an event is raised, and can be settled
  raised : (s e : ℕ) → e < g.events → CanSettle g s e → Told g (waiting s) (Raise e) (Raised s) (pending s e)
  far_event : (s e : ℕ) → g.events ≤ e → Told g (waiting s) (Raise e) (Refused OutOfRange) (waiting s)
  restarted : (s : ℕ) → Told g (waiting s) Reset Restarted (waiting 0)
  -- a wish is used where its step is not bad and bad steps can be avoided for ever after it
  used : (s e w : ℕ) → w < g.answers → Keeps g s e w
      → Told g (pending s e) (Settle w) (Used (g.next s e w)) (waiting (g.next s e w))
  -- and is otherwise replaced by the lowest answer of which that is true
  replaced : (s e w a : ℕ) → w < g.answers → Breaks g s e w → a < g.answers → Keeps g s e a
      → ((b : ℕ) → b < a → Breaks g s e b)
      → Told g (pending s e) (Settle w) (Replaced a (g.next s e a)) (waiting (g.next s e a))
  far_wish : (s e w : ℕ) → g.answers ≤ w → Told g (pending s e) (Settle w) (Refused OutOfRange) (pending s e)
  -- a call that the session does not allow leaves it as it is
  not_allowed : (t : Stage) (c : Call) → (Allows t (call_of c) → ⊥) → Told g t c NotAllowed t

-- one call after another, each with its reply
abbrev pub Served : Arena → Stage → List Exchange → Stage → Type 0
Served g t [] u = u ≡ t
Served g t (x ∷ xs) u = (v : Stage) × IsSomeAnd x.reply (λ r. Told g t x.call r v) × Served g v xs u

abbrev pub calls_of : List Exchange → List Call
calls_of xs = map (λ x. x.call) xs

-- whoever is served with the same calls is told the same, by whatever rows and solvers
abbrev pub ServedAlike : Arena → Type 0
ServedAlike g =
    (xs ys : List Exchange) (t u v : Stage) → calls_of xs ≡ calls_of ys → Served g t xs u → Served g t ys v → (xs ≡ ys) × (u ≡ v)
