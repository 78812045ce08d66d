-- The measure of a search: what is left falls where a place is written at the trail's end, and where an open decision's
-- place is written again as none.
use Rattle.std.proofs.lemmas.Grind.{common_steps}
use Rattle.std.proofs.Common.{◌≡◌, ℕ, zero, suc, ◌+◌, ◌-◌, ◌*◌, ◌%◌, ◌^◌, ◌<◌, ◌≤◌, List, [], ◌∷◌, ◌++◌, length, get_or, take, drop, set, sym, ap, ◌∙◌, subst, suc-mul, arith}
use native.Mathlib.Nat.{pow-succ'}
use Rattle.std.proofs.lemmas.List.{length-set, take_more_set, length-take-le, append-nil}
use Rattle.splitting.specs.Trails.{weight, left}
use Rattle.splitting.specs.Searches.{Writes}
use Rattle.splitting.specs.declared.trail.Trail.{Trail}
use Rattle.splitting.proofs.Entails.{room_of}

pow3 : (r : ℕ) → 1 ≤ 3 ^ r
pow3 zero = omega arith
pow3 (suc r) = omega (arith, pow3 r, pow-succ' 3 r)

pow3_down : (q : ℕ) → 1 ≤ q → 3 ^ q ≡ 3 * 3 ^ (q - 1)
pow3_down zero h = absurd (omega arith)
pow3_down (suc q) h = let e : suc q - 1 ≡ q = omega arith in pow-succ' 3 q ∙ ap (λ x. 3 * 3 ^ x) (sym e)

weight_pos : (r : ℕ) (ks : List ℕ) → 1 ≤ weight r ks
weight_pos r [] = pow3 r
weight_pos r (k ∷ ks) = omega (arith, weight_pos (r - 1) ks)

weight_front : (ks a b : List ℕ) (r q : ℕ) → r ≡ length ks + q → weight q a < weight q b → weight r (ks ++ a) < weight r (ks ++ b)
weight_front [] a b r q e h = let f : q ≡ r = omega arith in let P : ℕ → Type 0 = λ x. weight x a < weight x b in subst P f h
weight_front (k ∷ ks) a b r q e h =
    let f : r - 1 ≡ length ks + q = omega arith in
    omega (arith, weight_front ks a b (r - 1) q f h)

-- a digit times a number
digit : (d w : ℕ) → d ≤ 1 → d * w ≤ w
digit zero w h = omega arith
digit (suc zero) w h = omega (arith, suc-mul 0 w)
digit (suc (suc d)) w h = absurd (omega arith)

digit_one : (d w : ℕ) → d ≡ 1 → d * w ≡ w
digit_one zero w h = absurd (omega arith)
digit_one (suc zero) w h = omega (arith, suc-mul 0 w)
digit_one (suc (suc d)) w h = absurd (omega arith)

digit_none : (d w : ℕ) → d ≡ 0 → d * w ≡ 0
digit_none zero w h = omega arith
digit_none (suc d) w h = absurd (omega arith)

add_place : (q x : ℕ) → 1 ≤ q → weight q (x ∷ []) < weight q []
add_place q x h = omega (arith, pow3_down q h, pow3 (q - 1), digit (x % 2) (3 ^ (q - 1)) (omega arith))

close_place : (q k x : ℕ) (ds : List ℕ) → k % 2 ≡ 1 → x % 2 ≡ 0 → weight q (x ∷ []) < weight q (k ∷ ds)
close_place q k x ds o z =
    omega (arith, weight_pos (q - 1) ds, digit_one (k % 2) (3 ^ (q - 1)) o, digit_none (x % 2) (3 ^ (q - 1)) z)

pub less_more : (reason reason' : List ℕ) (n x : ℕ) → n < length reason → reason' ≡ set reason n x → left reason' (n + 1) < left reason n
less_more reason reason' n x h e =
    let q : length reason ≡ length (take n reason) + (length reason - n) = omega (arith, length-take-le n reason (omega arith)) in
    let w : weight (length reason) (take n reason ++ x ∷ []) < weight (length reason) (take n reason ++ [])
    = weight_front (take n reason) (x ∷ []) [] (length reason) (length reason - n) q (add_place (length reason - n) x (omega arith)) in
    let z : left (set reason n x) (n + 1) < left reason n = simp (length-set, take_more_set reason n x h) (simp append-nil at w) in
    let P : List ℕ → Type 0 = λ y. left y (n + 1) < left reason n in
    subst P (sym e) z

split_at : (reason : List ℕ) (i n : ℕ) → i < n → n ≤ length reason → take n reason ≡ take i reason ++ get_or reason i 0 ∷ drop (i + 1) (take n reason)
split_at reason i n a b = grind (arith, common_steps)

pub less_closed : (reason reason' : List ℕ) (i n x : ℕ) → i < n → n ≤ length reason → get_or reason i 0 % 2 ≡ 1 → x % 2 ≡ 0
    → reason' ≡ set reason i x → left reason' (i + 1) < left reason n
less_closed reason reason' i n x a b o s e =
    let h : i < length reason = omega arith in
    let q : length reason ≡ length (take i reason) + (length reason - i) = omega (arith, length-take-le i reason (omega arith)) in
    let rest = drop (i + 1) (take n reason) in
    let w : weight (length reason) (take i reason ++ x ∷ []) < weight (length reason) (take i reason ++ get_or reason i 0 ∷ rest)
    = weight_front (take i reason) (x ∷ []) (get_or reason i 0 ∷ rest) (length reason) (length reason - i) q
    (close_place (length reason - i) (get_or reason i 0) x rest o s) in
    let P : List ℕ → Type 0 = λ y. weight (length reason) (take i reason ++ x ∷ []) < weight (length reason) y in
    let z : weight (length reason) (take i reason ++ x ∷ []) < weight (length reason) (take n reason) = subst P (sym (split_at reason i n a b)) w in
    let y : left (set reason i x) (i + 1) < left reason n = simp (length-set, take_more_set reason i x h) z in
    let Q : List ℕ → Type 0 = λ y. left y (i + 1) < left reason n in
    subst Q (sym e) y

-- a literal more, and an open decision turned round
pub less_pushed : (t t' : Trail) (l why : ℕ) → Writes t t' t.count l why → left t'.reasons.now t'.count < left t.reasons.now t.count
less_pushed t t' l why w = rw w.count (less_more t.reasons.now t'.reasons.now t.count why (omega (arith, t.literal_room, t.reason_room, room_of t t' t.count l why w)) w.reasons)

pub less_turned : (t t' : Trail) (i l : ℕ) → Writes t t' i l 0 → i < t.count → get_or t.reasons.now i 0 % 2 ≡ 1 → left t'.reasons.now t'.count < left t.reasons.now t.count
less_turned t t' i l w h odd = rw w.count (less_closed t.reasons.now t'.reasons.now i t.count 0 h (omega (arith, t.kept.room, t.literal_room, t.reason_room)) odd (omega arith) w.reasons)
