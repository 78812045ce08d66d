-- One turn of a pass over the clauses.
use Rattle.std.proofs.lemmas.Grind.{common_steps}
use Rattle.std.proofs.Common.{◌≡◌, ℕ, ◌+◌, ◌-◌, ◌*◌, ◌/◌, ◌%◌, ◌<◌, ◌≤◌, Bool, true, false, cond, eqb, ◌⊎◌, List, [], length, get_or, set, Some, sym, refl, ap, ◌∙◌, subst, inl, inr, arith, below_more}
use Rattle.std.proofs.lemmas.Bool.{cases_eq, eq-eqb, ne_eqb, cond-true, cond-false}
use Rattle.splitting.specs.Cells.{Unset, Fails, Met, Whole}
use Rattle.cells.specs.Cells.{clauses, Starts, Reads, flat}
use Rattle.splitting.specs.States.{Forced}
use Rattle.splitting.specs.Trails.{Kept, Front, FrontBy, AllMet, Clash}
use Rattle.splitting.specs.Passes.{Passing, opened, due, pass_end, Ended}
use Rattle.splitting.specs.declared.propagate.End.{End}
use Rattle.splitting.specs.declared.propagate.End.TheVariants.{Done, Choose}
use Rattle.splitting.specs.declared.propagate.Pass.{Pass}
use Rattle.splitting.specs.declared.propagate.Pass.TheVariants as pass
use Rattle.cells.proofs.Steps.{ended}
use Rattle.splitting.proofs.Tables.{holds_push}
use Rattle.splitting.specs.Searches.{GoodTrail, Writes, Spreads}
use Rattle.splitting.specs.declared.trail.Trail.{Trail}
use Rattle.splitting.proofs.Entails.{good_write, denied_of, room_of}
use Rattle.splitting.proofs.Weights.{less_pushed}

-- a clause at the front that is met
pub front_past : (cells value : List ℕ) (front p next front' : ℕ) (c : List ℕ)
    → ((j : ℕ) → Starts cells p j → Reads cells p j c) → next ≡ p + 1 + length c → Met value c
    → front' ≡ cond (eqb front p) next front → Front cells value front → Front cells value front'
front_past cells value front p next front' c reads n-is met e f =
    elim (cases_eq front p) [
      | inl q ↦
          (let S : ℕ → Type 0 = λ x. Starts cells x f.number in
          let r = reads f.number (subst S q f.starts) in
          let is : front' ≡ p + 1 + length c = e ∙ cond-true _ _ _ (eq-eqb front p q) ∙ n-is in
          let P : List ℕ → Type 0 = λ x. Met value x in
          let T : ℕ → Type 0 = λ x. Starts cells x (f.number + 1) in
          record {
            number = f.number + 1;
            starts = subst T (sym is) r.next;
            met = below_more (λ (i : ℕ). Met value (get_or (clauses cells) i [])) f.number f.met (subst P r.clause met);
          })
      | inr q ↦
          (let is : front' ≡ front = e ∙ cond-false _ _ _ (ne_eqb front p q) in
          let P : ℕ → Type 0 = λ x. Front cells value x in
          subst P (sym is) f)
    ]

pub passing_past : (s : Pass) (value : List ℕ) (front p next front' : ℕ) → front' ≡ cond (eqb front p) next front
    → Passing s value front p → Passing s value front' next
passing_past pass.Clean value front p next front' e w = e ∙ cond-true _ _ _ (eq-eqb front p w)
passing_past (pass.Open l) value front p next front' e w = w
passing_past pass.Changed value front p next front' e w = tt

pub due_open : (s : Pass) (l : ℕ) → due (opened s l) ≡ due s
due_open pass.Clean l = refl
due_open (pass.Open f) l = refl
due_open pass.Changed l = refl

pub met_end : (cells value : List ℕ) (front : ℕ) → length cells ≤ front → Front cells value front → AllMet cells value
met_end cells value front h f j b = f.met j (omega (arith, ended cells front f.number f.starts h))

-- a literal more is true
pub front_push : (cells value value' : List ℕ) (l p : ℕ) → Unset value l → value' ≡ set value (l / 2) (1 + l % 2) → Front cells value p → Front cells value' p
front_push cells value value' l p u e f =
    record {
      number = f.number;
      starts = f.starts;
      met = λ i h. let w = f.met i h in (w.0, (w.1.0, holds_push value value' l (get_or (get_or (clauses cells) i []) w.0 0) u e w.1.1));
    }

pub forced_met : (value value' c : List ℕ) (l : ℕ) → Forced c value (length c) l → l / 2 < length value → value' ≡ set value (l / 2) (1 + l % 2) → Met value' c
forced_met value value' c l f t e = grind (arith, common_steps)

-- a literal of a clause is in the table
pub in_table : (cells : List ℕ) (n j k l : ℕ) (c : List ℕ) → Whole cells n → c ≡ get_or (clauses cells) j [] → j < length (clauses cells)
    → k < length c → get_or c k 0 ≡ l → l / 2 < n
in_table cells n j k l c w e h b s = grind (arith, common_steps)

-- a new place with a reason
pub new_more : (reason reason' : List ℕ) (n₀ n x : ℕ) → n < length reason → reason' ≡ set reason n x → 1 ≤ x
    → ((j : ℕ) → n₀ ≤ j → j < n → 1 ≤ get_or reason j 0) → (j : ℕ) → n₀ ≤ j → j < n + 1 → 1 ≤ get_or reason' j 0
new_more reason reason' n₀ n x h e o old j lo hi = grind (arith, common_steps)

pub same_more : (trail trail' : List ℕ) (first : List ℕ) (n₀ n l : ℕ) → n₀ ≤ n → trail' ≡ set trail n l
    → ((j : ℕ) → j < n₀ → get_or trail j 0 ≡ get_or first j 0) → (j : ℕ) → j < n₀ → get_or trail' j 0 ≡ get_or first j 0
same_more trail trail' first n₀ n l h e s j b = grind (arith, common_steps)

-- a forced literal goes onto the trail
pub good_forced : (cells : List ℕ) (t t' : Trail) (l j p : ℕ) (c : List ℕ) → Writes t t' t.count l (2 * (p + 1)) → GoodTrail cells t
    → p < length cells → Starts cells p j → c ≡ get_or (clauses cells) j [] → j < length (clauses cells) → Forced c t.value.now (length c) l
    → GoodTrail cells t'
good_forced cells t t' l j p c w g inside starts e below f =
    let q : 2 * (p + 1) / 2 - 1 ≡ p = omega arith in
    let S : ℕ → Type 0 = λ y. Starts cells y j in
    let O : List ℕ → Type 0 = λ y. (i : ℕ) → i < length y → (get_or y i 0 ≡ l → ⊥) → Fails t.value.now (get_or y i 0) in
    good_write cells t t' t.count l (2 * (p + 1)) w g t.based (omega arith)
    (λ z o. record {
      number = j;
      starts = subst S (sym q) starts;
      inside = omega arith;
      forces = record { below = below; others = λ i y ne. denied_of t.value.now t.literals.now t.count _ t.kept (subst O e f.others i y ne) };
    })
    (λ z. absurd (omega arith))

pub spreads_on : (t₀ t t' : Trail) (l why : ℕ) → Writes t t' t.count l why → 1 ≤ why → Spreads t₀ t → Spreads t₀ t'
spreads_on t₀ t t' l why w some s = record {
  size = w.size ∙ s.size;
  base = w.base ∙ s.base;
  longer = omega (arith, w.count, s.longer);
  same_literals = same_more t.literals.now t'.literals.now t₀.literals.now t₀.count t.count l s.longer w.literals s.same_literals;
  same_reasons = same_more t.reasons.now t'.reasons.now t₀.reasons.now t₀.count t.count why s.longer w.reasons s.same_reasons;
  forced = λ j lo hi. new_more t.reasons.now t'.reasons.now t₀.count t.count why (omega (arith, t.literal_room, t.reason_room, room_of t t' t.count l why w)) w.reasons some s.forced j lo (omega (arith, w.count));
  bound = omega (arith, s.bound, less_pushed t t' l why w);
}

-- a clause with no literal left
pub clash_by : (cells value trail : List ℕ) (n p j : ℕ) (c : List ℕ) → Kept value trail n → Starts cells p j → c ≡ get_or (clauses cells) j [] → j < length (clauses cells)
    → ((k : ℕ) → k < length c → Fails value (get_or c k 0)) → Clash cells trail n p
clash_by cells value trail n p j c k s e h f =
    let P : List ℕ → Type 0 = λ x. (i : ℕ) → i < length x → Fails value (get_or x i 0) in
    record { number = j; starts = s; below = h; denied = λ i b. denied_of value trail n _ k (subst P e f i b) }

-- the measure of a sweep: what is left of the search, then whether a pass is due, then what is left of this one
times_less : (a b k : ℕ) → a < b → a * k + k ≤ b * k
times_less a b k h = grind (arith, common_steps)

pub sweep_pushed : (a b size p next d : ℕ) → a < b → p < next → next ≤ size
    → a * (2 * (size + 1)) + (1 * (size + 1) + (size - next)) < b * (2 * (size + 1)) + (d * (size + 1) + (size - p))
sweep_pushed a b size p next d h q r = omega (arith, times_less a b (2 * (size + 1)) h)

pub sweep_on : (a size p next d d' : ℕ) → d' ≡ d → p < next → next ≤ size
    → a * (2 * (size + 1)) + (d' * (size + 1) + (size - next)) < a * (2 * (size + 1)) + (d * (size + 1) + (size - p))
sweep_on a size p next d d' e h r = omega (arith, ap (λ x. x * (size + 1)) e)

-- the place that a decision's reason holds
pub front_first : (cells trail : List ℕ) (n p why : ℕ) → flat (clauses cells) ≡ cells → (why / 2 ≡ p) ⊎ (why / 2 ≡ 0) → FrontBy cells trail n p → FrontBy cells trail n (why / 2)
front_first cells trail n p why coded e f = grind (arith, common_steps)

-- the end of a pass
pub pass_ended : (cells value trail : List ℕ) (n front p : ℕ) (s : Pass) (whole : Bool) (e : End) → Some e ≡ pass_end s whole → length cells ≤ p
    → (whole ≡ true → length cells ≤ front) → Front cells value front → Passing s value front p → Ended e cells value trail n
pass_ended cells value trail n front p pass.Clean whole e q h w f x =
    let P : End → Type 0 = λ y. Ended y cells value trail n in
    let r : e ≡ Done = cc in
    subst P (sym r) (met_end cells value front (omega arith) f)
pass_ended cells value trail n front p (pass.Open l) whole e q h w f x =
    let P : End → Type 0 = λ y. Ended y cells value trail n in
    let r : e ≡ Choose l = cc in
    subst P (sym r) x
pass_ended cells value trail n front p pass.Changed true e q h w f x =
    let P : End → Type 0 = λ y. Ended y cells value trail n in
    let r : e ≡ Done = cc in
    subst P (sym r) (met_end cells value front (w refl) f)
pass_ended cells value trail n front p pass.Changed false e q h w f x = let z : ◌≡◌ {A = ℕ} 0 1 = cc in absurd (omega arith)
