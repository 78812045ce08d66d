-- What holds of a session after every list of calls that it allows, refused calls too.
use Rattle.std.specs.Prelude.{◌≡◌, ℕ, ◌<◌, Bool, true, false, ◌⊎◌, List, [], ◌∷◌, Decides, ◌≢◌}
use Rattle.std.specs.List.{AllByRecursion}
use Rattle.region.specs.Subject.{Arena, Row, Safe, Lost, Exact}
use Rattle.session.specs.Faults.{session_number}
use Rattle.session.specs.Sessions.{Stage, waiting, pending, Call, settling, Reply, settled, refused, Allows, ForeignTo, Gives}
use Rattle.session.specs.declared.fault.SessionFault.TheVariants.{Foreign}

-- the calls on a session that was opened, newest first, with their replies
pub data History (g : Arena) (rs : List Row) : List Call → List Reply → Stage → Type 0 where
  opened : History g rs [] [] (waiting 0)
  more : {cs : List Call} {os : List Reply} {before after : Stage} {c : Call} {o : Reply}
      → History g rs cs os before → Gives g rs before c o after → History g rs (c ∷ cs) (o ∷ os) after

-- a wish is worth replacing where its step would be bad, or bad steps could not be avoided for ever after it
abbrev pub Breaks : Arena → ℕ → ℕ → ℕ → Type 0
Breaks g s e a = (g.bad s e a ≡ true) ⊎ Lost g (g.next s e a)

abbrev pub Keeps : Arena → ℕ → ℕ → ℕ → Type 0
Keeps g s e a = (g.bad s e a ≡ false) × Safe g (g.next s e a)

pub record Promise (g : Arena) (rs : List Row) : Type 0 where
  -- on its own region a session is never foreign, so no call answers 42
  pub at_home : (cs : List Call) (os : List Reply) (t : Stage) → History g rs cs os t → ForeignTo g rs t → ⊥
  pub never_foreign : (cs : List Call) (os : List Reply) (t : Stage) → History g rs cs os t
      → AllByRecursion (λ o. o ≢ refused (session_number Foreign)) os
  -- no step was bad, and none ended in a state from which bad steps cannot be avoided for ever
  pub never_bad : (cs : List Call) (os : List Reply) (s e w a : ℕ) (b : Bool) (after : Stage)
      → History g rs cs os (pending s e) → Gives g rs (pending s e) (settling w) (settled a b) after
      → Keeps g s e a × (after ≡ waiting (g.next s e a))
  -- every raised event can be settled
  pub settleable : (cs : List Call) (os : List Reply) (s e : ℕ) → History g rs cs os (pending s e)
      → (a : ℕ) × (a < g.answers) × Keeps g s e a
  -- a wish was replaced exactly when it would make a bad step, or bad steps could not be avoided for ever after it
  pub replaced_when : (cs : List Call) (os : List Reply) (s e w a : ℕ) (b : Bool) (after : Stage)
      → History g rs cs os (pending s e) → Gives g rs (pending s e) (settling w) (settled a b) after
      → Decides b (Breaks g s e w) × ((b ≡ false → a ≡ w) × (b ≡ false → Keeps g s e w))
  -- by the lowest answer that breaks nothing
  pub replaced_by : (cs : List Call) (os : List Reply) (s e w a : ℕ) (after : Stage)
      → History g rs cs os (pending s e) → Gives g rs (pending s e) (settling w) (settled a true) after
      → (n : ℕ) → n < a → Breaks g s e n
  -- a call that the session allows is answered, in one way
  pub answered : (cs : List Call) (os : List Reply) (t : Stage) → History g rs cs os t → (c : Call) → Allows t c
      → (o : Reply) × (after : Stage) × Gives g rs t c o after
  pub one_way : (t : Stage) (c : Call) (o p : Reply) (after after' : Stage)
      → Gives g rs t c o after → Gives g rs t c p after' → (o ≡ p) × (after ≡ after')
  -- and no other call is
  pub allowed : (t : Stage) (c : Call) (o : Reply) (after : Stage) → Gives g rs t c o after → Allows t c

-- two regions of one model answer the same calls alike
abbrev pub Alike : Arena → List Row → List Row → Type 0
Alike g rs rs' =
    (cs : List Call) (os os' : List Reply) (t t' : Stage)
    → History g rs cs os t → History g rs' cs os' t' → (os ≡ os') × (t ≡ t')

pub record Law (g : Arena) (rs : List Row) : Type 0 where
  pub promise : Promise g rs
  pub alike : (rs' : List Row) → Exact g rs' → Alike g rs rs'
