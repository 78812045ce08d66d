-- The table of values and the trail: what one write to both keeps.
use Rattle.std.proofs.lemmas.Grind.{common_steps}
use Rattle.std.proofs.Common.{◌≡◌, ℕ, zero, suc, ◌+◌, ◌-◌, ◌/◌, ◌%◌, ◌<◌, ◌≤◌, ◌≢◌, true, eqb, ◌⊎◌, List, [], ◌∷◌, length, get_or, take, set, sym, refl, ap, ◌∙◌, subst, inl, inr, arith}
use Rattle.std.proofs.lemmas.List.{get_or-set_same, get_or-set_other, get_or-take, get_or_default, length-set, length-take}
use Rattle.std.proofs.lemmas.List.Folds.{Any-from_list_any}
use Rattle.std.proofs.lemmas.Bool.{eqb-true}
use Rattle.splitting.specs.Cells.{Holds, Unset}
use Rattle.splitting.specs.Trails.{zeros, on_trail, Kept}
pub use Rattle.splitting.specs.Columns.{kept_none}

-- the place of a variable's literal
pub on_trail_at : (trail : List ℕ) (n v : ℕ) → on_trail trail n v ≡ true → (i : ℕ) × ((i < n) × (get_or trail i 0 / 2 ≡ v))
on_trail_at trail n v e =
    let w = Any-from_list_any (λ l. eqb (l / 2) v) (take n trail) e in
    let h : w.0 < n = omega (arith, w.2, length-take n trail) in
    let q : get_or trail w.0 0 ≡ w.1 = sym (get_or-take n trail w.0 0 h) ∙ get_or_default (take n trail) w.0 0 w.1 w.2 ∙ w.3 in
    (w.0, (h, ap (λ l. l / 2) q ∙ eqb-true (w.1 / 2) v w.4))

pub on_trail_of : (trail : List ℕ) (n v i : ℕ) → n ≤ length trail → i < n → get_or trail i 0 / 2 ≡ v → on_trail trail n v ≡ true
on_trail_of trail n v i b h e = grind (arith, common_steps)

pub listed_at : (value trail : List ℕ) (n v : ℕ) → Kept value trail n → 1 ≤ get_or value v 0 → (i : ℕ) × ((i < n) × (get_or trail i 0 / 2 ≡ v))
listed_at value trail n v k h = on_trail_at trail n v (k.listed v h)

-- a place past the last is written
pub kept_past : (value trail : List ℕ) (n l : ℕ) → Kept value trail n → Kept value (set trail n l) n
kept_past value trail n l k = grind (arith, common_steps)

pub zeros_set : (xs : List ℕ) (i x : ℕ) → i < length xs → get_or xs i 0 ≡ 0 → 1 ≤ x → zeros (set xs i x) + 1 ≡ zeros xs
zeros_set [] i x h e p = absurd (omega arith)
zeros_set (zero ∷ xs) zero zero h e p = absurd (omega arith)
zeros_set (zero ∷ xs) zero (suc x) h e p = refl
zeros_set (suc y ∷ xs) zero x h e p = absurd (omega arith)
zeros_set (zero ∷ xs) (suc i) x h e p = let hh : i < length xs = omega arith in ap (λ n. n + 1) (zeros_set xs i x hh e p)
zeros_set (suc y ∷ xs) (suc i) x h e p = let hh : i < length xs = omega arith in zeros_set xs i x hh e p

pub zeros_unset : (xs : List ℕ) (i : ℕ) → i < length xs → 1 ≤ get_or xs i 0 → zeros (set xs i 0) ≡ zeros xs + 1
zeros_unset [] i h e = absurd (omega arith)
zeros_unset (zero ∷ xs) zero h e = absurd (omega arith)
zeros_unset (suc y ∷ xs) zero h e = refl
zeros_unset (zero ∷ xs) (suc i) h e = let hh : i < length xs = omega arith in ap (λ n. n + 1) (zeros_unset xs i hh e)
zeros_unset (suc y ∷ xs) (suc i) h e = let hh : i < length xs = omega arith in zeros_unset xs i hh e

-- what a write leaves, by cases
pub at_set : (xs : List ℕ) (i x j : ℕ) → i < length xs → ((j ≡ i) × (get_or (set xs i x) j 0 ≡ x)) ⊎ ((j ≢ i) × (get_or (set xs i x) j 0 ≡ get_or xs j 0))
at_set xs i x j h = grind (arith, common_steps)

-- a literal in hand whose variable has a value is not one without
other_var : (value : List ℕ) (a l : ℕ) → Holds value a → Unset value l → a / 2 ≢ l / 2
other_var value a l h u e = omega (arith, h, u, ap (λ v. get_or value v 0) e)

module _ (value trail : List ℕ) (n l : ℕ) (k : Kept value trail n) (u : Unset value l) (t : l / 2 < length value) where
  pub push_room : n < length trail
  push_room = omega (arith, k.room, zeros_set value (l / 2) 1 t u (omega arith))

  sound_push : (i : ℕ) → i < n + 1 → Holds (set value (l / 2) (1 + l % 2)) (get_or (set trail n l) i 0)
  sound_push i h = elim (at_set trail n l i push_room) [
    | inl e ↦ rw e.1 (get_or-set_same value (l / 2) (1 + l % 2) 0 t)
    | inr e ↦
        let below : i < n = omega (arith, e.0, h) in
        let old = k.sound i below in
        rw e.1 (get_or-set_other value (l / 2) (get_or trail i 0 / 2) (1 + l % 2) 0 (other_var value (get_or trail i 0) l old u) ∙ old)
  ]

  listed_push : (v : ℕ) → 1 ≤ get_or (set value (l / 2) (1 + l % 2)) v 0 → on_trail (set trail n l) (n + 1) v ≡ true
  listed_push v h = elim (at_set value (l / 2) (1 + l % 2) v t) [
    | inl e ↦ on_trail_of (set trail n l) (n + 1) v n (omega (arith, push_room, length-set trail n l)) (omega arith) (ap (λ x. x / 2) (get_or-set_same trail n l 0 push_room) ∙ sym e.0)
    | inr e ↦
        let i = listed_at value trail n v k (omega (arith, e.1, h)) in
        let ne : i.0 ≢ n = omega (arith, i.1.0) in
        on_trail_of (set trail n l) (n + 1) v i.0 (omega (arith, push_room, length-set trail n l)) (omega (arith, i.1.0)) (ap (λ x. x / 2) (get_or-set_other trail n i.0 l 0 ne) ∙ i.1.1)
  ]

  apart_push : (i j : ℕ) → i < j → j < n + 1 → get_or (set trail n l) i 0 / 2 ≡ get_or (set trail n l) j 0 / 2 → ⊥
  apart_push i j a b e =
      let nei : i ≢ n = omega arith in
      let ei = get_or-set_other trail n i l 0 nei in
      elim (at_set trail n l j push_room) [
        | inl f ↦ other_var value (get_or trail i 0) l (k.sound i (omega arith)) u (ap (λ x. x / 2) (sym ei) ∙ e ∙ ap (λ x. x / 2) f.1)
        | inr f ↦ k.apart i j a (omega (arith, f.0, b)) (ap (λ x. x / 2) (sym ei) ∙ e ∙ ap (λ x. x / 2) f.1)
      ]

  inside_push : (i : ℕ) → i < n + 1 → get_or (set trail n l) i 0 / 2 < length (set value (l / 2) (1 + l % 2))
  inside_push i h = grind (arith, common_steps)

  pub kept_push : Kept (set value (l / 2) (1 + l % 2)) (set trail n l) (n + 1)
  kept_push = record {
    sound = sound_push;
    listed = listed_push;
    apart = apart_push;
    inside = inside_push;
    room = omega (arith, k.room, zeros_set value (l / 2) (1 + l % 2) t u (omega arith), length-set trail n l);
  }

-- the last place is given up
module _ (value trail : List ℕ) (n : ℕ) (k : Kept value trail (n + 1)) where
  pub kept_pop : Kept (set value (get_or trail n 0 / 2) 0) trail n
  kept_pop =
      let ins = k.inside n (omega arith) in
      let held = k.sound n (omega arith) in
      record {
        sound = λ i h. let ne : get_or trail i 0 / 2 ≢ get_or trail n 0 / 2 = λ e. k.apart i n h (omega arith) e in
            get_or-set_other value (get_or trail n 0 / 2) (get_or trail i 0 / 2) 0 0 ne ∙ k.sound i (omega arith);
        listed = λ v h. elim (at_set value (get_or trail n 0 / 2) 0 v ins) [
          | inl e ↦ absurd (omega (arith, e.1, h))
          | inr e ↦
              let i = listed_at value trail (n + 1) v k (omega (arith, e.1, h)) in
              let ne : i.0 ≢ n = λ q. e.0 (sym i.1.1 ∙ ap (λ x. get_or trail x 0 / 2) q) in
              on_trail_of trail n v i.0 (omega (arith, k.room)) (omega (arith, i.1.0, ne)) i.1.1
        ];
        apart = λ i j a b e. k.apart i j a (omega arith) e;
        inside = λ i h. omega (arith, k.inside i (omega arith), length-set value (get_or trail n 0 / 2) 0);
        room = omega (arith, k.room, zeros_unset value (get_or trail n 0 / 2) ins (omega (arith, held)));
      }

pub kept_down : (value trail : List ℕ) (n : ℕ) → Kept value trail n → 0 < n → Kept (set value (get_or trail (n - 1) 0 / 2) 0) trail (n - 1)
kept_down value trail n k h =
    let e : n ≡ n - 1 + 1 = omega arith in
    let P : ℕ → Type 0 = λ x. Kept value trail x in
    kept_pop value trail (n - 1) (subst P e k)

-- what held before a literal was made true holds after it
pub holds_push : (value value' : List ℕ) (l a : ℕ) → Unset value l → value' ≡ set value (l / 2) (1 + l % 2) → Holds value a → Holds value' a
holds_push value value' l a u e h = grind (arith, common_steps)

pub holds_here : (value value' : List ℕ) (l : ℕ) → l / 2 < length value → value' ≡ set value (l / 2) (1 + l % 2) → Holds value' l
holds_here value value' l t e = grind (arith, common_steps)
