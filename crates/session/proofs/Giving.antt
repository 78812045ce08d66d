-- What the calls work out is what the relation of calls says.
use Rattle.std.proofs.Common.{◌≡◌, ℕ, ◌<◌, ◌≤◌, Bool, true, false, cond, ltb, List, Some, None, Ok, Err, MatchBool, Result, sym, refl, arith}
use Rattle.std.proofs.lemmas.Bool.{ltb-true, ltb-false}
use Rattle.region.specs.Subject.{Arena, Row}
use Rattle.region.specs.Judged.{passing, Lowest}
use Rattle.region.proofs.Passing.{some_parts, none_parts, within_parts}
use Rattle.session.specs.Faults.{session_number}
use Rattle.session.specs.Outcomes.{raise_of, reset_of, reset_session, SettledAs}
use Rattle.session.specs.Sessions.{waiting, pending, raising, settling, resetting, settled, refused, Gives, at_home, foreign, raised, far_event, back, used, replaced, far_wish}
use Rattle.session.specs.Views.{waiting_stage, raised_stage, raise_reply, raise_stage, reset_reply, reset_stage, settle_reply, settle_stage}
use Rattle.session.specs.declared.fault.SessionFault.TheVariants.{Foreign, OutOfRange}
use Rattle.session.specs.declared.stage.Raised.{Raised}
use Rattle.session.specs.declared.stage.Refusal.{Refusal}
use Rattle.session.specs.declared.stage.Settled.{Settled}
use Rattle.session.specs.declared.stage.Waiting.{Waiting}
use Rattle.session.proofs.Home.{home_parts, own, not_home}

module _ (g : Arena) (rs : List Row) (w : Waiting) where
  abbrev outcome : Bool → Bool → ℕ → Result Raised (Refusal Waiting)
  outcome b d e =
      cond b (cond d (Ok record { state = w.state; event = e }) (Err record { session = w; fault = OutOfRange })) (Err record { session = w; fault = Foreign })

  raise_at : (b d : Bool) (e : ℕ) → at_home g rs (waiting_stage w) ≡ b → ltb e g.events ≡ d
      → Gives g rs (waiting_stage w) (raising e) (raise_reply (outcome b d e)) (raise_stage (outcome b d e))
  raise_at true true e h l = raised w.state e (own g rs (waiting_stage w) h) (ltb-true e g.events l)
  raise_at true false e h l = far_event w.state e (own g rs (waiting_stage w) h) (ltb-false e g.events l)
  raise_at false d e h l = foreign (waiting_stage w) (raising e) tt (not_home g rs (waiting_stage w) h)

  pub raise_gives : (e : ℕ) (r : Result Raised (Refusal Waiting)) → r ≡ raise_of g rs w e
      → Gives g rs (waiting_stage w) (raising e) (raise_reply r) (raise_stage r)
  raise_gives e r h = rw h (raise_at (at_home g rs (waiting_stage w)) (ltb e g.events) e refl refl)

  abbrev restart : Bool → Result Waiting (Refusal Waiting)
  restart b = cond b (Ok reset_session) (Err record { session = w; fault = Foreign })

  reset_at : (b : Bool) → at_home g rs (waiting_stage w) ≡ b
      → Gives g rs (waiting_stage w) resetting (reset_reply (restart b)) (reset_stage (restart b))
  reset_at true h = back w.state (own g rs (waiting_stage w) h)
  reset_at false h = foreign (waiting_stage w) resetting tt (not_home g rs (waiting_stage w) h)

  pub reset_gives : (r : Result Waiting (Refusal Waiting)) → r ≡ reset_of g rs w
      → Gives g rs (waiting_stage w) resetting (reset_reply r) (reset_stage r)
  reset_gives r h = rw h (reset_at (at_home g rs (waiting_stage w)) refl)

module _ (g : Arena) (rs : List Row) (s e w : ℕ) (home : at_home g rs (pending s e) ≡ true) (lw : w < g.answers) where
  used_by : (n : ℕ) → Some n ≡ passing g rs s e w → Gives g rs (pending s e) (settling w) (settled w false) (waiting n)
  used_by n h =
      let p = some_parts g rs s e w n h in
      rw p.2 (used s e w (own g rs (pending s e) home) lw p.1)

  replaced_by_lem : None ≡ passing g rs s e w → (a n : ℕ) → passing g rs s e a ≡ Some n → ((b : ℕ) → b < a → passing g rs s e b ≡ None)
      → Gives g rs (pending s e) (settling w) (settled a true) (waiting n)
  replaced_by_lem miss a n found below =
      let p = some_parts g rs s e a n (sym found) in
      let r = within_parts g s e a p.0 in
      let h = home_parts g rs (pending s e) home in
      rw p.2
      (replaced s e w a (own g rs (pending s e) home) lw (none_parts g rs s e w miss h.0 h.2 lw) r.2 p.1
      (λ b l. none_parts g rs s e b (sym (below b l)) h.0 h.2 (omega (arith, r.2))))

  judged_at : (b : Bool) (a n : ℕ)
      → MatchBool b ((passing g rs s e w ≡ None) × Lowest g rs s e (Some record { answer = a; next = n })) ((passing g rs s e w ≡ Some n) × (a ≡ w))
      → Gives g rs (pending s e) (settling w) (settled a b) (waiting n)
  judged_at true a n h = replaced_by_lem (sym h.0) a n h.1.0 h.1.1
  judged_at false a n h = rw h.1 (used_by n (sym h.0))

module _ (g : Arena) (rs : List Row) (t : Raised) (w : ℕ) where
  -- the ways in which a settle is refused
  refusal_at : (b : Bool) → at_home g rs (raised_stage t) ≡ b → (b ≡ true → g.answers ≤ w)
      → Gives g rs (raised_stage t) (settling w) (refused (session_number (cond b OutOfRange Foreign))) (raised_stage t)
  refusal_at true h l = far_wish t.state t.event w (own g rs (raised_stage t) h) (l refl)
  refusal_at false h l = foreign (raised_stage t) (settling w) tt (not_home g rs (raised_stage t) h)

  pub settle_gives : (r : Result Settled (Refusal Raised)) → SettledAs g rs t w r
      → Gives g rs (raised_stage t) (settling w) (settle_reply r) (settle_stage r)
  settle_gives (Ok r) h = judged_at g rs t.state t.event w h.0 h.1 r.replaced r.answer r.session.state h.2
  settle_gives (Err f) h = rw (h.0, h.1) (refusal_at (at_home g rs (raised_stage t)) refl h.2)
