-- A call is told one thing, so whoever makes the same calls is told the same.
use Rattle.std.proofs.Common.{◌≡◌, [], ◌∷◌, Option, Some, None, IsSomeAnd, sym, refl, ap, ◌∙◌, subst, arith}
use Rattle.region.specs.Subject.{Arena}
use Rattle.session.specs.Laws.{Keeps, Breaks}
use Rattle.session.specs.Sessions.{Stage, waiting}
use Rattle.session.proofs.Laws.{keeps_or_breaks}
use Rattle.session.proofs.OneWay.{one_lowest}
use Rattle.host.specs.Served.{Told, raised, far_event, restarted, used, replaced, far_wish, not_allowed, Served, ServedAlike, calls_of}
use Rattle.host.specs.declared.exchange.Call.{Call}
use Rattle.host.specs.declared.exchange.Exchange.{Exchange}
use Rattle.host.specs.declared.exchange.Reply.{Reply}
use Rattle.host.specs.declared.exchange.Reply.TheVariants.{Replaced}

module _ (g : Arena) where
  one_told : {t : Stage} {c : Call} {r r' : Reply} {u u' : Stage} → Told g t c r u → Told g t c r' u' → (r ≡ r') × (u ≡ u')
  one_told (raised s e l k) (raised s₂ e₂ l' k') = (refl, refl)
  one_told (raised s e l k) (far_event s₂ e₂ l') = absurd (omega arith)
  one_told (raised s e l k) (not_allowed t c n) = absurd (n tt)
  one_told (far_event s e l) (raised s₂ e₂ l' k') = absurd (omega arith)
  one_told (far_event s e l) (far_event s₂ e₂ l') = (refl, refl)
  one_told (far_event s e l) (not_allowed t c n) = absurd (n tt)
  one_told (restarted s) (restarted s₂) = (refl, refl)
  one_told (restarted s) (not_allowed t c n) = absurd (n tt)
  one_told (used s e w l k) (used s₂ e₂ w₂ l' k') = (refl, refl)
  one_told (used s e w l k) (replaced s₂ e₂ w₂ a l' b la ka below) = absurd (keeps_or_breaks g s e w k b)
  one_told (used s e w l k) (far_wish s₂ e₂ w₂ l') = absurd (omega arith)
  one_told (used s e w l k) (not_allowed t c n) = absurd (n tt)
  one_told (replaced s e w a l b la ka below) (used s₂ e₂ w₂ l' k') = absurd (keeps_or_breaks g s e w k' b)
  one_told (replaced s e w a l b la ka below) (replaced s₂ e₂ w₂ a' l' b' la' ka' below') =
      let i = one_lowest (Keeps g s e) (Breaks g s e) (keeps_or_breaks g s e) a a' ka ka' below below' in (ap (λ x. Replaced x (g.next s e x)) i, ap (λ x. waiting (g.next s e x)) i)
  one_told (replaced s e w a l b la ka below) (far_wish s₂ e₂ w₂ l') = absurd (omega arith)
  one_told (replaced s e w a l b la ka below) (not_allowed t c n) = absurd (n tt)
  one_told (far_wish s e w l) (used s₂ e₂ w₂ l' k') = absurd (omega arith)
  one_told (far_wish s e w l) (replaced s₂ e₂ w₂ a l' b la ka below) = absurd (omega arith)
  one_told (far_wish s e w l) (far_wish s₂ e₂ w₂ l') = (refl, refl)
  one_told (far_wish s e w l) (not_allowed t c n) = absurd (n tt)
  one_told (not_allowed t c n) (raised s e l k) = absurd (n tt)
  one_told (not_allowed t c n) (far_event s e l) = absurd (n tt)
  one_told (not_allowed t c n) (restarted s) = absurd (n tt)
  one_told (not_allowed t c n) (used s e w l k) = absurd (n tt)
  one_told (not_allowed t c n) (replaced s e w a l b la ka below) = absurd (n tt)
  one_told (not_allowed t c n) (far_wish s e w l) = absurd (n tt)
  one_told (not_allowed t c n) (not_allowed t₂ c₂ n') = (refl, refl)

  one_reply : (t : Stage) (c : Call) (u u' : Stage) (o o' : Option Reply) → IsSomeAnd o (λ r. Told g t c r u) → IsSomeAnd o' (λ r. Told g t c r u')
      → (o ≡ o') × (u ≡ u')
  one_reply t c u u' (Some r) (Some r') k k' = let w = one_told k k' in (ap Some w.0, w.1)
  one_reply t c u u' (Some r) None k k' = absurd k'
  one_reply t c u u' None o' k k' = absurd k

  same_exchange : (x y : Exchange) → x.call ≡ y.call → x.reply ≡ y.reply → x ≡ y
  same_exchange x y p q =
      ap (λ (c : Call). record { call = c; reply = x.reply }) p ∙ ap (λ (r : Option Reply). record { call = y.call; reply = r }) q

  pub served_alike : ServedAlike g
  served_alike [] [] t u v e s s' = (refl, s ∙ sym s')
  served_alike [] (y ∷ ys) t u v e s s' = cc
  served_alike (x ∷ xs) [] t u v e s s' = cc
  served_alike (x ∷ xs) (y ∷ ys) t u v e s s' =
      let p : x.call ≡ y.call = cc in
      let q : calls_of xs ≡ calls_of ys = cc in
      let T : Call → Type 0 = λ c. IsSomeAnd y.reply (λ r. Told g t c r s'.0) in
      let w = one_reply t x.call s.0 s'.0 x.reply y.reply s.1 (subst T (sym p) s'.1) in
      let S : Stage → Type 0 = λ k. Served g k ys v in
      let z = served_alike xs ys s.0 u v q s.2 (subst S (sym w.1) s'.2) in
      let h = same_exchange x y p w.0 in
      (cc (h, z.0), z.1)
