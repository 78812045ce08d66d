-- What the refusals' definitions say of one another.
use Rattle.std.proofs.Common.{◌≡◌, ℕ, ◌<◌, ◌≤◌, Bool, true, false, cond, ltb, leb, List, length, Some, None, Option, sym, refl, ◌∙◌, arith}
use Rattle.std.proofs.lemmas.Bool.{leb-true, le-leb, ltb-true, lt-ltb, cond-true, and_parts, and_from}
use Rattle.literal.specs.declared.Literal.{Literal}
use Rattle.sat.specs.declared.fault.SolverFault.{SolverFault}
use Rattle.sat.specs.declared.fault.SolverFault.TheVariants.{VariableOutOfRange, TooManyLiterals, CellsFull, CountExceeded, BufferShort, FirstExceeded}
use Rattle.sat.specs.Faults.{in_range, most_literals, literals_fault, hold_fault, keep_fault, buffers_fit, decide_fault, narrow_fault}

some_none : {X : Type 0} {Y : Type 0} (x : X) → Some x ≡ None → Y
some_none x e = let z : ◌≡◌ {A = ℕ} 0 1 = cc in absurd (omega arith)

stopped : (a b : Bool) (x y z : SolverFault) (o : Option SolverFault) → cond a (cond b None (Some y)) (Some x) ≡ Some z → cond a (cond b o (Some y)) (Some x) ≡ Some z
stopped true true x y z o e = some_none z (sym e)
stopped true false x y z o e = e
stopped false b x y z o e = e

joined_passed : (a b d : Bool) (o : Option SolverFault)
    → cond a (cond b (cond d None (Some BufferShort)) (Some TooManyLiterals)) (Some VariableOutOfRange) ≡ None
    → cond a (cond b (cond d o (Some BufferShort)) (Some TooManyLiterals)) (Some VariableOutOfRange) ≡ o
joined_passed true true true o e = refl
joined_passed true true false o e = some_none BufferShort e
joined_passed true false d o e = some_none TooManyLiterals e
joined_passed false b d o e = some_none VariableOutOfRange e

joined_stopped : (a b d : Bool) (o : Option SolverFault) (z : SolverFault)
    → cond a (cond b (cond d None (Some BufferShort)) (Some TooManyLiterals)) (Some VariableOutOfRange) ≡ Some z
    → cond a (cond b (cond d o (Some BufferShort)) (Some TooManyLiterals)) (Some VariableOutOfRange) ≡ Some z
joined_stopped true true true o z e = some_none z (sym e)
joined_stopped true true false o z e = e
joined_stopped true false d o z e = e
joined_stopped false b d o z e = e

-- literals out of order: whatever else is wrong
pub literals_stopped : (V : ℕ) (ls : List Literal) (o : Option SolverFault) (e : SolverFault) → literals_fault V ls None ≡ Some e → literals_fault V ls o ≡ Some e
unfolding literals_fault
literals_stopped V ls o z e = stopped (in_range V ls) (leb (length ls) most_literals) VariableOutOfRange TooManyLiterals z o e

pub decide_narrow_passed : (V : ℕ) (ls : List Literal) (first values marks : ℕ) → decide_fault V ls values marks ≡ None
    → narrow_fault V ls first values marks ≡ cond (leb first (length ls)) None (Some FirstExceeded)
unfolding decide_fault narrow_fault literals_fault
decide_narrow_passed V ls first values marks e =
    joined_passed (in_range V ls) (leb (length ls) most_literals) (buffers_fit V ls values marks) (cond (leb first (length ls)) None (Some FirstExceeded)) e

pub decide_narrow_stopped : (V : ℕ) (ls : List Literal) (first values marks : ℕ) (z : SolverFault) → decide_fault V ls values marks ≡ Some z
    → narrow_fault V ls first values marks ≡ Some z
unfolding decide_fault narrow_fault literals_fault
decide_narrow_stopped V ls first values marks z e =
    joined_stopped (in_range V ls) (leb (length ls) most_literals) (buffers_fit V ls values marks) (cond (leb first (length ls)) None (Some FirstExceeded)) z e

-- what a passed check says, and that nothing else stops it

cond_none : (a : Bool) (o : Option SolverFault) (x : SolverFault) → cond a o (Some x) ≡ None → (a ≡ true) × (o ≡ None)
cond_none true o x e = (refl, e)
cond_none false o x e = some_none x e

pub literals_none : (V : ℕ) (ls : List Literal) (o : Option SolverFault) → literals_fault V ls o ≡ None
    → (in_range V ls ≡ true) × (length ls ≤ 64) × (o ≡ None)
unfolding literals_fault
literals_none V ls o e =
    let p = cond_none (in_range V ls) (cond (leb (length ls) most_literals) o (Some TooManyLiterals)) VariableOutOfRange e in
    let q = cond_none (leb (length ls) most_literals) o TooManyLiterals p.1 in
    (p.0, leb-true (length ls) 64 q.0, q.1)

pub literals_pass : (V : ℕ) (ls : List Literal) (o : Option SolverFault) → in_range V ls ≡ true → length ls ≤ 64 → literals_fault V ls o ≡ o
unfolding literals_fault
literals_pass V ls o r h =
    cond-true (in_range V ls) _ _ r ∙ cond-true (leb (length ls) most_literals) o (Some TooManyLiterals) (le-leb (length ls) 64 h)

pub record HoldPasses (V free : ℕ) (c : List Literal) : Type 0 where
  pub ranged : in_range V c ≡ true
  pub short : length c ≤ 64
  pub fits : length c < free

pub hold_none : (V free : ℕ) (c : List Literal) → hold_fault V free c ≡ None → HoldPasses V free c
unfolding hold_fault
hold_none V free c e =
    let p = literals_none V c (cond (ltb (length c) free) None (Some CellsFull)) e in
    record {
      ranged = p.0;
      short = p.1;
      fits = ltb-true (length c) free (cond_none (ltb (length c) free) None CellsFull p.2).0;
    }

pub hold_passes : (V free : ℕ) (c : List Literal) → HoldPasses V free c → hold_fault V free c ≡ None
unfolding hold_fault
hold_passes V free c h =
    literals_pass V c _ h.ranged h.short ∙ cond-true (ltb (length c) free) None (Some CellsFull) (lt-ltb (length c) free h.fits)

pub keep_none : (count p : ℕ) → keep_fault count p ≡ None → p ≤ count
unfolding keep_fault
keep_none count p e = leb-true p count (cond_none (leb p count) None CountExceeded e).0

pub keep_passes : (count p : ℕ) → p ≤ count → keep_fault count p ≡ None
unfolding keep_fault
keep_passes count p h = cond-true (leb p count) None (Some CountExceeded) (le-leb p count h)

pub record DecidePasses (V : ℕ) (assumed : List Literal) (values marks : ℕ) : Type 0 where
  pub ranged : in_range V assumed ≡ true
  pub short : length assumed ≤ 64
  pub values_fit : V < values
  pub marks_fit : length assumed ≤ marks

pub decide_none : (V : ℕ) (assumed : List Literal) (values marks : ℕ) → decide_fault V assumed values marks ≡ None → DecidePasses V assumed values marks
unfolding decide_fault
decide_none V assumed values marks e =
    let p = literals_none V assumed (cond (buffers_fit V assumed values marks) None (Some BufferShort)) e in
    let q = and_parts (ltb V values) (leb (length assumed) marks) (cond_none (buffers_fit V assumed values marks) None BufferShort p.2).0 in
    record {
      ranged = p.0;
      short = p.1;
      values_fit = ltb-true V values q.0;
      marks_fit = leb-true (length assumed) marks q.1;
    }

pub decide_passes : (V : ℕ) (assumed : List Literal) (values marks : ℕ) → DecidePasses V assumed values marks → decide_fault V assumed values marks ≡ None
unfolding decide_fault
decide_passes V assumed values marks h =
    literals_pass V assumed _ h.ranged h.short
    ∙ cond-true (buffers_fit V assumed values marks) None (Some BufferShort)
    (and_from (ltb V values) (leb (length assumed) marks) (lt-ltb V values h.values_fit) (le-leb (length assumed) marks h.marks_fit))

pub narrow_none : (V : ℕ) (assumed : List Literal) (first values marks : ℕ) → narrow_fault V assumed first values marks ≡ None
    → DecidePasses V assumed values marks × (first ≤ length assumed)
unfolding narrow_fault
narrow_none V assumed first values marks e =
    let o = cond (leb first (length assumed)) None (Some FirstExceeded) in
    let p = literals_none V assumed (cond (buffers_fit V assumed values marks) o (Some BufferShort)) e in
    let q = cond_none (buffers_fit V assumed values marks) o BufferShort p.2 in
    let b = and_parts (ltb V values) (leb (length assumed) marks) q.0 in (
      record {
        ranged = p.0;
        short = p.1;
        values_fit = ltb-true V values b.0;
        marks_fit = leb-true (length assumed) marks b.1;
      },
      leb-true first (length assumed) (cond_none (leb first (length assumed)) None FirstExceeded q.1).0,
    )

pub narrow_passes : (V : ℕ) (assumed : List Literal) (first values marks : ℕ) → DecidePasses V assumed values marks → first ≤ length assumed
    → narrow_fault V assumed first values marks ≡ None
narrow_passes V assumed first values marks h f =
    decide_narrow_passed V assumed first values marks (decide_passes V assumed values marks h)
    ∙ cond-true (leb first (length assumed)) None (Some FirstExceeded) (le-leb first (length assumed) f)
