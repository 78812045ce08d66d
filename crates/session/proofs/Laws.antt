-- The law of sessions: what holds after every list of calls.
use Rattle.std.proofs.Common.{◌≡◌, ℕ, zero, suc, ◌<◌, Bool, true, false, ◌⊎◌, List, Decides, sym, refl, ◌∙◌, inl, inr, arith}
use Rattle.std.specs.List.{AllByRecursion}
use Rattle.std.proofs.lemmas.Bool.{both_ways, cases_Bool, cases_eq, cases_lt}
use Rattle.region.specs.Subject.{Arena, Row, Exact, Playable, good}
use Rattle.region.specs.Parts.{arena_in, rows_in}
use Rattle.region.specs.declared.region.Region.{Region}
use Rattle.region.proofs.Exactness.{region_exact, region_playable}
use Rattle.region.proofs.Subject.{exact_answered, good_parts, not_good, same_good}
use Rattle.session.specs.Faults.{session_number}
use Rattle.session.specs.Laws.{History, opened, more, Breaks, Keeps, Promise, Law}
use Rattle.session.specs.Sessions.{Stage, waiting, pending, Call, raising, settling, resetting, Reply, done, settled, refused, Allows, Gives, foreign, raised, far_event, back, used, replaced, far_wish}
use Rattle.session.specs.declared.fault.SessionFault.TheVariants.{Foreign}
use Rattle.session.proofs.Home.{Home, home_not_foreign}
use Rattle.session.proofs.OneWay.{allowed, one_way_lem}

-- the first number below a limit that passes a test
abbrev First : (ℕ → Bool) → ℕ → Type 0
First p n = (a : ℕ) × (a < n) × (p a ≡ true) × ((b : ℕ) → b < a → p b ≡ false)

first : (p : ℕ → Bool) (n : ℕ) → ((b : ℕ) → b < n → p b ≡ false) ⊎ First p n
first p zero = inl (λ b l. absurd (omega arith))
first p (suc n) = elim (first p n) [ inl none ↦ here none (cases_Bool (p n)) | inr w ↦ inr (w.0, omega (arith, w.1), w.2, w.3) ]
  where
    here : ((b : ℕ) → b < n → p b ≡ false) → (p n ≡ true) ⊎ (p n ≡ false) → ((b : ℕ) → b < suc n → p b ≡ false) ⊎ First p (suc n)
    here none (inl t) = inr (n, omega arith, t, none)
    here none (inr f) =
        inl (λ b l. elim (cases_eq b n) [ inl q ↦ rw q f | inr d ↦ none b (omega (arith, d)) ])

pub keeps_or_breaks : (g : Arena) (s e a : ℕ) → Keeps g s e a → Breaks g s e a → ⊥
keeps_or_breaks g s e a k (inl b) = both_ways (g.bad s e a) k.0 b
keeps_or_breaks g s e a k (inr l) = l k.1

module _ (g : Arena) (playable : Playable g) (rs : List Row) (ex : Exact g rs) where
  -- a call leaves a session at home where it found it so
  home_after : {t : Stage} {c : Call} {o : Reply} {after : Stage} → Home g rs t → Gives g rs t c o after → Home g rs after
  home_after h (foreign t c a f) = h
  home_after h (raised s e n l) = (h.0, h.1, l)
  home_after h (far_event s e n l) = h
  home_after h (back s n) = (playable.some_state, ex.reset)
  home_after h (used s e w n l k) = (playable.in_range s e w h.0 h.2 l, (good_parts g rs s e w k).1)
  home_after h (replaced s e w a n l k m q below) = (playable.in_range s e a h.0 h.2 m, (good_parts g rs s e a q).1)
  home_after h (far_wish s e w n l) = h

  pub home : {cs : List Call} {os : List Reply} {t : Stage} → History g rs cs os t → Home g rs t
  home opened = (playable.some_state, ex.reset)
  home (more p q) = home_after (home p) q

  not_foreign : {t : Stage} {c : Call} {o : Reply} {after : Stage} → Home g rs t → Gives g rs t c o after
      → o ≡ refused (session_number Foreign) → ⊥
  not_foreign h (foreign t c a f) = λ i. home_not_foreign g rs t h f
  not_foreign h (raised s e n l) = λ i. cc
  not_foreign h (far_event s e n l) = λ i. grind arith
  not_foreign h (back s n) = λ i. cc
  not_foreign h (used s e w n l k) = λ i. cc
  not_foreign h (replaced s e w a n l k m q below) = λ i. cc
  not_foreign h (far_wish s e w n l) = λ i. grind arith

  never_foreign_lem : {cs : List Call} {os : List Reply} {t : Stage} → History g rs cs os t
      → AllByRecursion (λ o. o ≡ refused (session_number Foreign) → ⊥) os
  never_foreign_lem opened = tt
  never_foreign_lem (more p q) = (not_foreign (home p) q, never_foreign_lem p)

  -- good answers keep the host safe, and the others break it
  keeps : (s e a : ℕ) → Home g rs (pending s e) → a < g.answers → good g rs s e a ≡ true → Keeps g s e a
  keeps s e a h la k =
      let p = good_parts g rs s e a k in (p.0, ex.safe (g.next s e a) (playable.in_range s e a h.0 h.2 la) p.1)

  breaks : (s e a : ℕ) → Home g rs (pending s e) → a < g.answers → good g rs s e a ≡ false → Breaks g s e a
  breaks s e a h la k =
      elim (not_good g rs s e a k) [ inl b ↦ inl b | inr c ↦ inr (ex.lost (g.next s e a) (playable.in_range s e a h.0 h.2 la) c) ]

  settles_safely : {s e w a : ℕ} {b : Bool} {after : Stage} → Home g rs (pending s e)
      → Gives g rs (pending s e) (settling w) (settled a b) after → Keeps g s e a × (after ≡ waiting (g.next s e a))
  settles_safely h (used s e w n l k) = (keeps s e w h l k, refl)
  settles_safely h (replaced s e w a n l k m q below) = (keeps s e a h m q, refl)

  settleable : (s e : ℕ) → Home g rs (pending s e) → (a : ℕ) × (a < g.answers) × Keeps g s e a
  settleable s e h =
      let w = exact_answered g playable.in_range rs ex s e h.0 h.2 h.1 in (w.0, w.1, keeps s e w.0 h w.1 w.2)

  replaced_when_lem : {s e w a : ℕ} {b : Bool} {after : Stage} → Home g rs (pending s e)
      → Gives g rs (pending s e) (settling w) (settled a b) after
      → Decides b (Breaks g s e w) × ((b ≡ false → a ≡ w) × (b ≡ false → Keeps g s e w))
  replaced_when_lem h (used s e w n l k) =
      let kept = keeps s e w h l k in
      ((λ i. absurd (both_ways false refl i), λ i. absurd (keeps_or_breaks g s e w kept i)), (λ _. refl, λ _. kept))
  replaced_when_lem h (replaced s e w a n l k m q below) =
      ((λ _. breaks s e w h l k, λ _. refl), (λ i. absurd (both_ways true i refl), λ i. absurd (both_ways true i refl)))

  replaced_by_lem : {s e w a : ℕ} {after : Stage} → Home g rs (pending s e)
      → Gives g rs (pending s e) (settling w) (settled a true) after → (n : ℕ) → n < a → Breaks g s e n
  replaced_by_lem h (replaced s e w a n l k m q below) i li = breaks s e i h (omega arith) (below i li)

  -- every call that the session allows is answered
  abbrev Answer : Stage → Call → Type 0
  Answer t c = (o : Reply) × (after : Stage) × Gives g rs t c o after

  settle_answered : (s e w : ℕ) → Home g rs (pending s e) → w < g.answers → Answer (pending s e) (settling w)
  settle_answered s e w h l =
      elim (cases_Bool (good g rs s e w)) [
        | inl k ↦ (settled w false, waiting (g.next s e w), used s e w (home_not_foreign g rs (pending s e) h) l k)
        | inr k ↦ lowest k (first (λ a. good g rs s e a) g.answers)
      ]
    where
      lowest : good g rs s e w ≡ false
          → ((b : ℕ) → b < g.answers → good g rs s e b ≡ false) ⊎ First (λ a. good g rs s e a) g.answers
          → Answer (pending s e) (settling w)
      lowest k (inl none) =
          let v = exact_answered g playable.in_range rs ex s e h.0 h.2 h.1 in
          absurd (both_ways (good g rs s e v.0) (none v.0 v.1) v.2)
      lowest k (inr v) = (
        settled v.0 true,
        waiting (g.next s e v.0),
        replaced s e w v.0 (home_not_foreign g rs (pending s e) h) l k v.1 v.2 v.3,
      )

  answered : (t : Stage) (c : Call) → Home g rs t → Allows t c → Answer t c
  answered (waiting s) (raising e) h a =
      elim (cases_lt e g.events) [
        | inl l ↦ (done, pending s e, raised s e (home_not_foreign g rs (waiting s) h) l)
        | inr l ↦ (refused 43, waiting s, far_event s e (home_not_foreign g rs (waiting s) h) l)
      ]
  answered (waiting s) (settling w) h a = absurd a
  answered (waiting s) resetting h a = (done, waiting 0, back s (home_not_foreign g rs (waiting s) h))
  answered (pending s e) (raising f) h a = absurd a
  answered (pending s e) (settling w) h a =
      elim (cases_lt w g.answers) [
        | inl l ↦ settle_answered s e w h l
        | inr l ↦ (refused 43, pending s e, far_wish s e w (home_not_foreign g rs (pending s e) h) l)
      ]
  answered (pending s e) resetting h a = absurd a

  pub promise : Promise g rs
  promise =
      record {
        at_home = λ cs os t p. home_not_foreign g rs t (home p);
        never_foreign = λ cs os t p. never_foreign_lem p;
        never_bad = λ cs os s e w a b after p q. settles_safely (home p) q;
        settleable = λ cs os s e p. settleable s e (home p);
        replaced_when = λ cs os s e w a b after p q. replaced_when_lem (home p) q;
        replaced_by = λ cs os s e w a after p q. replaced_by_lem (home p) q;
        answered = λ cs os t p c. answered t c (home p);
        one_way = λ t c o p after after' q q'. one_way_lem g rs q q';
        allowed = λ t c o after q. allowed g rs q;
      }

module _ (g : Arena) (playable : Playable g) (rs : List Row) (ex : Exact g rs) (rs' : List Row) (ex' : Exact g rs') where
  -- at home on both regions, a call is answered alike
  carry : {t : Stage} {c : Call} {o : Reply} {after : Stage} → Home g rs t → Home g rs' t → Gives g rs t c o after → Gives g rs' t c o after
  carry h h' (foreign t c a f) = absurd (home_not_foreign g rs t h f)
  carry h h' (raised s e n l) = raised s e (home_not_foreign g rs' (waiting s) h') l
  carry h h' (far_event s e n l) = far_event s e (home_not_foreign g rs' (waiting s) h') l
  carry h h' (back s n) = back s (home_not_foreign g rs' (waiting s) h')
  carry h h' (used s e w n l k) =
      used s e w (home_not_foreign g rs' (pending s e) h') l
      (sym (same_good g playable.in_range rs rs' ex ex' s e w h.0 h.2 l) ∙ k)
  carry h h' (replaced s e w a n l k m q below) =
      replaced s e w a (home_not_foreign g rs' (pending s e) h') l (same w l ∙ k) m (same a m ∙ q) (λ b lb. same b (omega arith) ∙ below b lb)
    where
      same : (b : ℕ) → b < g.answers → good g rs' s e b ≡ good g rs s e b
      same b lb = sym (same_good g playable.in_range rs rs' ex ex' s e b h.0 h.2 lb)
  carry h h' (far_wish s e w n l) = far_wish s e w (home_not_foreign g rs' (pending s e) h') l

  one_answer : {t t' : Stage} {c : Call} {o o' : Reply} {after after' : Stage} → t ≡ t' → Home g rs t → Home g rs' t'
      → Gives g rs t c o after → Gives g rs' t' c o' after' → (o ≡ o') × (after ≡ after')
  one_answer i h h' q q' = let h₂ = rw i at h in let q₂ = rw i at q in one_way_lem g rs' (carry h₂ h' q₂) q'

  pub alike : {cs : List Call} {os os' : List Reply} {t t' : Stage} → History g rs cs os t → History g rs' cs os' t' → (os ≡ os') × (t ≡ t')
  alike opened opened = (refl, refl)
  alike (more p q) (more p' q') =
      let w = alike p p' in
      let v = one_answer w.1 (home g playable rs ex p) (home g playable rs' ex' p') q q' in
      (cc (v.0, w.0), v.1)

pub law : (g : Arena) → Playable g → (rs : List Row) → Exact g rs → Law g rs
law g playable rs ex =
    record {
      promise = promise g playable rs ex;
      alike = λ rs' ex' cs os os' t t' p p'. alike g playable rs ex rs' ex' p p';
    }

-- on a region's own arena and rows
pub region_law : (r : Region) → Law (arena_in r) (rows_in r)
region_law r = law (arena_in r) (region_playable r) (rows_in r) (region_exact r)
