-- Facts on a number by its bits.
use Rattle.std.proofs.Common.{◌≡◌, ℕ, ◌+◌, ◌*◌, ◌^◌, ◌%◌, ◌<◌, Bool, true, false, cond, List, [], ◌∷◌, ◌++◌, map, length, length-take, take, slice_index_or, sym, ap, ◌∙◌, subst, arith}
use Rattle.std.proofs.lemmas.List.{take_more}
use Rattle.std.proofs.lemmas.Nat.{one_shl}
use Rattle.std.proofs.lemmas.Slice.Zip.{all_zipped_more, AllZip-long, AllZip-map}
use Rattle.std.specs.List.{AllZip}
use Rattle.std.specs.Fn.{Shared, FnReturnsAt}
use denote.Ref.{Bor}
use Rattle.bits.specs.Bits.{from_bits, IsNumberOf}

pub from_bits_push : (bs : List Bool) (b : Bool) → from_bits (bs ++ b ∷ []) ≡ from_bits bs + 2 ^ length bs * cond b 1 0
from_bits_push [] b = grind arith
from_bits_push (c ∷ bs) b = grind (arith, from_bits_push bs b)

pub from_bits_below : (bs : List Bool) → from_bits bs < 2 ^ length bs
from_bits_below [] = omega arith
from_bits_below (true ∷ bs) = grind (arith, from_bits_below bs)
from_bits_below (false ∷ bs) = grind (arith, from_bits_below bs)

zip_weaker : {A B : Type 0} (Q R : A → B → Type 0) → ((x : A) (y : B) → Q x y → R x y) → (xs : List A) (ys : List B) → AllZip Q xs ys → AllZip R xs ys
zip_weaker Q R f [] [] h = tt
zip_weaker Q R f [] (y ∷ ys) h = h
zip_weaker Q R f (x ∷ xs) [] h = h
zip_weaker Q R f (x ∷ xs) (y ∷ ys) h = (f x y h.0, zip_weaker Q R f xs ys h.1)

module _ {F T : Type 0} (g : Shared F (Bor T × Unit {0}) Bool) (f : F) where
  -- a closure that acts as a function
  pub acts_as : (p : T → Bool) → ((x : T) (b : Bool) → FnReturnsAt g f x b → b ≡ p x) → (xs : List T) (n : ℕ) → IsNumberOf g f xs n → n ≡ from_bits (map p xs)
  acts_as p h xs n k = k.value ∙ ap from_bits (AllZip-map p xs k.answers (zip_weaker (FnReturnsAt g f) (λ x b. b ≡ p x) h xs k.answers k.given))

  -- as many bits as items
  pub number_below : (xs : List T) (n : ℕ) → IsNumberOf g f xs n → n < 2 ^ length xs
  number_below xs n k =
      subst (λ (t : ℕ). n < 2 ^ t) (AllZip-long (FnReturnsAt g f) xs k.answers k.given) (subst (λ (t : ℕ). t < 2 ^ length k.answers) (sym k.value) (from_bits_below k.answers))

  -- one item more
  pub one_more : (xs : List T) (i : ℕ) (x : T) (b : Bool) (n : ℕ) → i < length xs → x ≡ slice_index_or xs i x → FnReturnsAt g f x b → IsNumberOf g f (take i xs) n
      → IsNumberOf g f (take (i + 1) xs) (n + 2 ^ i * cond b 1 0)
  one_more xs i x b n h e r k =
      let long : length k.answers ≡ i = omega (arith, AllZip-long (FnReturnsAt g f) (take i xs) k.answers k.given, length-take i xs) in
      record {
        answers = k.answers ++ b ∷ [];
        given =
            subst (λ (l : List T). AllZip (FnReturnsAt g f) l (k.answers ++ b ∷ [])) (ap (λ t. take i xs ++ t ∷ []) e ∙ sym (take_more xs i x h))
            (all_zipped_more (FnReturnsAt g f) (take i xs) k.answers x b k.given r);
        value = sym (from_bits_push k.answers b ∙ ap (λ t. from_bits k.answers + 2 ^ t * cond b 1 0) long ∙ ap (λ t. t + 2 ^ i * cond b 1 0) (sym k.value));
      }

pub shifted : (b : Bool) (i m : ℕ) → i < 32 → m ≡ cond b 1 0 → m * 2 ^ i % 4294967296 ≡ 2 ^ i * cond b 1 0
shifted true i m h e = grind (arith, one_shl i 32 h)
shifted false i m h e = grind arith
