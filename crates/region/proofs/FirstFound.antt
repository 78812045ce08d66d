-- What `find_map` over the numbers below a limit returns: what the closure answers at the first of them where that is no `None`.
use Rattle.std.proofs.Common.{◌≡◌, ℕ, ◌+◌, ◌<◌, IsTrue, Option, Some, None, MatchOption, arith}
use Rattle.std.proofs.lemmas.Grind.{common_steps}
use Rattle.std.proofs.iter.Yields.{nat_range_steps}
use Rattle.std.proofs.iter.runs.Sources.{range_runs}
use Rattle.std.specs.Fn.{Called}
use Rattle.std.specs.Iterator.Runs.{SomeRun, AllItemsGive, IsFirstToGive}
use Rattle.std.specs.declared.ops.Range.{Range}
use denote.Param.Members.{Mut}

abbrev pub FirstFound : {B : Type 0} → (ℕ → Option B) → ℕ → Option B → Type 0
FirstFound h n None = (a : ℕ) → a < n → h a ≡ None
FirstFound h n (Some y) = (i : ℕ) × ((h i ≡ Some y) × ((a : ℕ) → a < i → h a ≡ None))

module _ {F B : Type 0} (g : Mut F (ℕ × Unit {0}) (Option B)) (f : F) (h : ℕ → Option B) (calls : (a : ℕ) (o : Option B) (f' : F) → Called g f (a, tt) o f' → (f' ≡ f) × (o ≡ h a)) (s : Range ℕ) (n : ℕ) (zero : s.start ≡ 0) (end : s.end ≡ n) where
  keeps : (x : ℕ × Unit {0}) (o : Option B) (f' : F) → Called g f x o f' → f' ≡ f
  keeps x o f' k = (calls x.0 o f' k).0

  pub first_found : (r : Option B) → SomeRun nat_range_steps s (λ p. MatchOption r (IsTrue p.whole × AllItemsGive p g f None) (λ y. (i : ℕ) × (i < p.len) × (p.len ≡ i + 1) × IsFirstToGive p g f (Some y) None i))
      → FirstFound h n r
  first_found None run = λ a l. grind (arith, common_steps, range_runs run.0 run.0.seen, (range_runs run.0 run.0.seen).3 a, run.2.1 keeps a, calls a None f)
  first_found (Some y) run =
      let up = range_runs run.0 run.0.seen in
      let first = run.2.3 keeps in
      (run.2.0, (grind (arith, common_steps, up, first.0, calls run.2.0 (Some y) f), λ a l. grind (arith, common_steps, up.3 a, first.1 a l, calls a None f)))
