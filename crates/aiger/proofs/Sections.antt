-- A section of the file with a fixed number of lines, from its things to its lines and back.
use Rattle.std.proofs.Common.{◌≡◌, ℕ, zero, suc, ◌+◌, ◌<◌, Bool, true, ◌&&◌, List, [], ◌∷◌, ◌++◌, map, length, Ok, Err, Result, sym, refl, ap, ◌∙◌, subst, add-zero, arith}
use Rattle.std.proofs.lemmas.Bool.{and_parts, and_from}
use Rattle.aiger.specs.declared.fault.ReadFault.{ReadFault}
use Rattle.aiger.specs.Line.{Content}
use Rattle.aiger.specs.Advance.{State, and_then, advance}
use Rattle.aiger.specs.Read.{folded, ended}

pub then_took : {A B : Type 0} (x : Result A ReadFault) (f : A → Result B ReadFault) (t : B) → and_then x f ≡ Ok t → (a : A) × (x ≡ Ok a) × (f a ≡ Ok t)
then_took (Ok a) f t e = (a, refl, e)
then_took (Err d) f t e = absurd (let z : ◌≡◌ {A = ℕ} 0 1 = cc in omega arith)

-- the state after some things, and whether each of them may come where it does
abbrev pub puts : {X : Type 0} → (X → State → State) → List X → State → State
puts put [] st = st
puts put (x ∷ xs) st = puts put xs (put x st)

abbrev pub all_ok : {X : Type 0} → (X → State → State) → (X → State → Bool) → List X → State → Bool
all_ok put ok [] st = true
all_ok put ok (x ∷ xs) st = ok x st && all_ok put ok xs (put x st)

-- what a line does in a section, where one thing makes one line
pub record Section {X : Type 0} (content : X → Content) (put : X → State → State) (ok : X → State → Bool) : Type 1 where
  pub leave : State → Result State ReadFault
  pub left : State → ℕ
  pub In : State → Type 0
  pub stays : (st : State) → In st → 0 < left st → leave st ≡ Ok st
  pub forward : (at : ℕ) (x : X) (st : State) → In st → 0 < left st → ok x st ≡ true → advance at (content x) st ≡ leave (put x st)
  pub backward : (at : ℕ) (c : Content) (st u : State) → In st → 0 < left st → advance at c st ≡ Ok u
      → (x : X) × (c ≡ content x) × (ok x st ≡ true) × (leave (put x st) ≡ Ok u)
  pub open_ended : (at : ℕ) (st t : State) → In st → 0 < left st → ended at st ≡ Ok t → ⊥
  pub keeps : (x : X) (st : State) → In st → 0 < left st → In (put x st)
  pub counts : (x : X) (st : State) → In st → 0 < left st → left st ≡ suc (left (put x st))

pub record Lines {X : Type 0} {content : X → Content} {put : X → State → State} {ok : X → State → Bool} (s : Section content put ok) (n at : ℕ) (st : State) (cs : List Content) (t : State) : Type 0 where
  pub things : List X
  pub rest : List Content
  pub is : cs ≡ map content things ++ rest
  pub many : length things ≡ n
  pub fine : all_ok put ok things st ≡ true
  pub others : and_then (s.leave (puts put things st)) (λ u. folded (at + n) rest u) ≡ Ok t

module _ {X : Type 0} {content : X → Content} {put : X → State → State} {ok : X → State → Bool} (s : Section content put ok) where
  pub section_forward : (xs : List X) (at : ℕ) (st : State) (ds : List Content) → s.In st → s.left st ≡ length xs → all_ok put ok xs st ≡ true
      → and_then (s.leave st) (λ u. folded at (map content xs ++ ds) u) ≡ and_then (s.leave (puts put xs st)) (λ u. folded (at + length xs) ds u)
  section_forward [] at st ds i n f = ap (λ k. and_then (s.leave st) (λ u. folded k ds u)) (sym (add-zero at))
  section_forward (x ∷ xs) at st ds i n f =
      let some : 0 < s.left st = omega arith in
      let p = and_parts (ok x st) (all_ok put ok xs (put x st)) f in
      let c = s.counts x st i some in
      let len : s.left (put x st) ≡ length xs = omega arith in
      ap (λ r. and_then r (λ u. folded at (content x ∷ (map content xs ++ ds)) u)) (s.stays st i some)
      ∙ ap (λ r. and_then r (λ u. folded (at + 1) (map content xs ++ ds) u)) (s.forward at x st i some p.0)
      ∙ section_forward xs (at + 1) (put x st) ds (s.keeps x st i some) len p.1
      ∙ ap (λ k. and_then (s.leave (puts put xs (put x st))) (λ u. folded k ds u)) (let e : at + 1 + length xs ≡ at + suc (length xs) = omega arith in e)

  section_line : (n at : ℕ) (st : State) (cs : List Content) (t : State) → s.In st → s.left st ≡ suc n
      → ((at : ℕ) (st : State) (cs : List Content) → s.In st → s.left st ≡ n → and_then (s.leave st) (λ u. folded at cs u) ≡ Ok t → Lines s n at st cs t)
      → folded at cs st ≡ Ok t → Lines s (suc n) at st cs t
  section_line n at st [] t i m more e = absurd (s.open_ended at st t i (omega arith) e)
  section_line n at st (c ∷ cs) t i m more e =
      let some : 0 < s.left st = omega arith in
      let a = then_took (advance at c st) (λ u. folded (at + 1) cs u) t e in
      let b = s.backward at c st a.0 i some a.1 in
      let x = b.0 in
      let k = s.counts x st i some in
      let on : and_then (s.leave (put x st)) (λ u. folded (at + 1) cs u) ≡ Ok t = ap (λ r. and_then r (λ u. folded (at + 1) cs u)) b.3 ∙ a.2 in
      let l = more (at + 1) (put x st) cs (s.keeps x st i some) (omega arith) on in
      record {
        things = x ∷ l.things;
        rest = l.rest;
        is = ap (λ d. d ∷ cs) b.1 ∙ ap (λ r. content x ∷ r) l.is;
        many = ap suc l.many;
        fine = and_from (ok x st) (all_ok put ok l.things (put x st)) b.2 l.fine;
        others = subst (λ j. and_then (s.leave (puts put l.things (put x st))) (λ u. folded j l.rest u) ≡ Ok t) (let e : at + 1 + n ≡ at + suc n = omega arith in e) l.others;
      }

  pub section_backward : (n at : ℕ) (st : State) (cs : List Content) (t : State) → s.In st → s.left st ≡ n
      → and_then (s.leave st) (λ u. folded at cs u) ≡ Ok t → Lines s n at st cs t
  section_backward zero at st cs t i m e =
      record {
        things = [];
        rest = cs;
        is = refl;
        many = refl;
        fine = refl;
        others = subst (λ j. and_then (s.leave st) (λ u. folded j cs u) ≡ Ok t) (sym (add-zero at)) e;
      }
  section_backward (suc n) at st cs t i m e =
      section_line n at st cs t i m (λ at st cs i m e. section_backward n at st cs t i m e)
      (sym (ap (λ r. and_then r (λ u. folded at cs u)) (s.stays st i (omega arith))) ∙ e)
