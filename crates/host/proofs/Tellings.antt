-- From what a session returns to what a call is told.
use Rattle.std.proofs.Common.{◌≡◌, ℕ, ◌+◌, ◌<◌, true, false, cond, eqb, List, [], ◌∷◌, ◌++◌, length, get_or, IsSomeAnd, Some, take, set, sym, refl, ap, ◌∙◌, subst, inl, inr}
use Rattle.std.proofs.lemmas.List.{take_more_set, map-set, set-get_or, get_or-map}
use Rattle.region.specs.Subject.{Arena, Row}
use Rattle.session.specs.Faults.{session_number}
use Rattle.session.specs.Laws.{History, more, Promise, Law}
use Rattle.session.specs.Sessions as sessions
use Rattle.session.specs.Sessions.{Stage, waiting, pending, raising, settling, resetting, done, settled, refused, Allows, ForeignTo, Gives}
use Rattle.session.specs.declared.fault.SessionFault.{SessionFault}
use Rattle.session.specs.declared.fault.SessionFault.TheVariants.{Foreign, OutOfRange}
use Rattle.host.specs.Answers.{Says, Answers}
use Rattle.host.specs.Served.{call_of, Told, raised, far_event, restarted, used, replaced, far_wish, not_allowed, Served, calls_of}
use Rattle.host.specs.declared.exchange.Call.{Call}
use Rattle.host.specs.declared.exchange.Call.TheVariants.{Raise, Settle, Reset}
use Rattle.host.specs.declared.exchange.Exchange.{Exchange}
use Rattle.host.specs.declared.exchange.Reply.{Reply}
use Rattle.host.specs.declared.exchange.Reply.TheVariants.{Raised, Used, Replaced, Restarted, Refused, NotAllowed}

module _ (g : Arena) (rs : List Row) where
  -- a reset leads to state 0
  pub reset_back : {s : ℕ} {u : Stage} → Gives g rs (waiting s) resetting done u → u ≡ waiting 0
  reset_back (sessions.back s n) = refl

-- the refusal of a number
abbrev fault_of : ℕ → SessionFault
fault_of n = cond (eqb n (session_number Foreign)) Foreign OutOfRange

-- what is told of what a session returned, and of where it then is
abbrev reply_from : sessions.Reply → Stage → Reply
reply_from done (waiting s) = Restarted
reply_from done (pending s e) = Raised s
reply_from (settled a true) (waiting n) = Replaced a n
reply_from (settled a false) (waiting n) = Used n
reply_from (settled a b) (pending s e) = NotAllowed
reply_from (refused n) t = Refused (fault_of n)

says_is : (r : Reply) (o : sessions.Reply) (t : Stage) → Says r o t → r ≡ reply_from o t
says_is (Raised x) o t s = rw (s.0, s.1.1) refl
says_is (Used n) o t s = rw (s.0.1, s.1) refl
says_is (Replaced a n) o t s = rw (s.0, s.1) refl
says_is Restarted o t s = rw (s.0, s.1) refl
says_is (Refused Foreign) o t s = rw s refl
says_is (Refused OutOfRange) o t s = rw s refl
says_is NotAllowed o t s = absurd s

module _ (g : Arena) (rs : List Row) (p : Promise g rs) where
  -- a session that calls have led to a stage
  abbrev pub Reached : Stage → Type 0
  Reached t = (cs : List sessions.Call) × (os : List sessions.Reply) × History g rs cs os t

  told_raise : {e : ℕ} {t : Stage} {o : sessions.Reply} {u : Stage} → Reached t → Gives g rs t (raising e) o u → (r : Reply) → r ≡ reply_from o u
      → Told g t (Raise e) r u
  told_raise h (sessions.foreign t c a f) r q = absurd (p.at_home h.0 h.1 t h.2 f)
  told_raise h (sessions.raised s e n l) r q =
      rw q (raised s e l (p.settleable (raising e ∷ h.0) (done ∷ h.1) s e (more h.2 (sessions.raised s e n l))))
  told_raise h (sessions.far_event s e n l) r q = rw q (far_event s e l)

  told_reset : {t : Stage} {o : sessions.Reply} {u : Stage} → Reached t → Gives g rs t resetting o u → (r : Reply) → r ≡ reply_from o u
      → Told g t Reset r u
  told_reset h (sessions.foreign t c a f) r q = absurd (p.at_home h.0 h.1 t h.2 f)
  told_reset h (sessions.back s n) r q = rw q (restarted s)

  told_settle : {w : ℕ} {t : Stage} {o : sessions.Reply} {u : Stage} → Reached t → Gives g rs t (settling w) o u → (r : Reply) → r ≡ reply_from o u
      → Told g t (Settle w) r u
  told_settle h (sessions.foreign t c a f) r q = absurd (p.at_home h.0 h.1 t h.2 f)
  told_settle h (sessions.used s e w n l k) r q =
      rw q (used s e w l (p.never_bad h.0 h.1 s e w w false (waiting (g.next s e w)) h.2 (sessions.used s e w n l k)).0)
  told_settle h (sessions.replaced s e w a n l k m z below) r q =
      let gives : Gives g rs (pending s e) (settling w) (settled a true) (waiting (g.next s e a)) = sessions.replaced s e w a n l k m z below in
      rw q
      (replaced s e w a l ((p.replaced_when h.0 h.1 s e w a true (waiting (g.next s e a)) h.2 gives).0.0 refl) m
      (p.never_bad h.0 h.1 s e w a true (waiting (g.next s e a)) h.2 gives).0
      (p.replaced_by h.0 h.1 s e w a (waiting (g.next s e a)) h.2 gives))
  told_settle h (sessions.far_wish s e w n l) r q = rw q (far_wish s e w l)

  -- what the code's reply tells
  pub tell : (t : Stage) (c : Call) (r : Reply) (u : Stage) → Reached t → Answers g rs t c r u → Told g t c r u
  tell t (Raise e) r u h (inl w) = told_raise h w.1 r (says_is r w.0 u w.2)
  tell t (Settle e) r u h (inl w) = told_settle h w.1 r (says_is r w.0 u w.2)
  tell t Reset r u h (inl w) = told_reset h w.1 r (says_is r w.0 u w.2)
  tell t c r u h (inr w) = rw (w.1, w.2) (not_allowed t c w.0)

  pub reach : (t : Stage) (c : Call) (r : Reply) (u : Stage) → Reached t → Answers g rs t c r u → Reached u
  reach t c r u h (inl w) = (call_of c ∷ h.0, w.0 ∷ h.1, more h.2 w.1)
  reach t c r u h (inr w) = rw w.2 h

module _ (g : Arena) where
  -- one exchange more
  pub served_more : (xs : List Exchange) (x : Exchange) (t u v : Stage) → Served g t xs u → IsSomeAnd x.reply (λ r. Told g u x.call r v)
      → Served g t (xs ++ (x ∷ [])) v
  served_more [] x t u v s q = (v, rw s at q, refl)
  served_more (y ∷ ys) x t u v s q = (s.0, s.1, served_more ys x s.0 u v s.2 q)

module _ (g : Arena) (rs : List Row) (law : Law g rs) (xs before : List Exchange) (i : ℕ) (d : Exchange) (s t : Stage) (r : Reply) where
  -- the exchange at a place, with its reply
  abbrev replied : Exchange
  replied = record { call = (get_or xs i d).call; reply = Some r }

  -- the loop goes on with one exchange more
  pub follow_more : i < length xs → Reached g rs law.promise s → Served g (waiting 0) (take i xs) s → calls_of xs ≡ calls_of before
      → Answers g rs s (get_or xs i d).call r t
      → Reached g rs law.promise t × Served g (waiting 0) (take (i + 1) (set xs i replied)) t × (calls_of (set xs i replied) ≡ calls_of before)
  follow_more l h v e a =
      let P : List Exchange → Type 0 = λ ys. Served g (waiting 0) ys t in (
        reach g rs law.promise s (get_or xs i d).call r t h a,
        subst P (sym (take_more_set xs i replied l)) (served_more g (take i xs) replied (waiting 0) s t v (tell g rs law.promise s (get_or xs i d).call r t h a)),
        map-set (λ x. x.call) xs i replied ∙ ap (set (calls_of xs) i) (sym (get_or-map (λ x. x.call) xs i d d.call l)) ∙ set-get_or (calls_of xs) i d.call ∙ e,
      )
