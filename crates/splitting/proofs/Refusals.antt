-- What the absence of a refusal says.
use Rattle.std.proofs.Common.{◌≡◌, ℕ, ◌<◌, ◌≤◌, Bool, true, false, cond, List, length, Some, None, Option, refl, arith}
use Rattle.std.proofs.lemmas.Bool.{and_parts, leb-true, ltb-true}
use Rattle.literal.specs.declared.Literal.{Literal}
use Rattle.sat.specs.declared.fault.SolverFault.{SolverFault}
use Rattle.sat.specs.Faults.{in_range, literals_fault, hold_fault, keep_fault, decide_fault}

some_none : {X : Type 0} {Y : Type 0} (x : X) → Some x ≡ None → Y
some_none x e = let z : ◌≡◌ {A = ℕ} 0 1 = cc in absurd (omega arith)

passes : (b : Bool) (x : SolverFault) (o : Option SolverFault) → cond b o (Some x) ≡ None → (b ≡ true) × (o ≡ None)
passes true x o e = (refl, e)
passes false x o e = some_none x e

-- literals that are not refused, and then what else
pub record Accepted (V : ℕ) (ls : List Literal) : Type 0 where
  pub ranges : in_range V ls ≡ true
  pub short : length ls ≤ 64

pub hold_accepts : (V free : ℕ) (c : List Literal) → hold_fault V free c ≡ None → Accepted V c × (length c < free)
unfolding hold_fault literals_fault
hold_accepts V free c e =
    let a = passes _ _ _ e in
    let b = passes _ _ _ a.1 in
    let d = passes _ _ _ b.1 in
    (record { ranges = a.0; short = leb-true (length c) 64 b.0 }, ltb-true (length c) free d.0)

pub keep_accepts : (count kept : ℕ) → keep_fault count kept ≡ None → kept ≤ count
unfolding keep_fault
keep_accepts count kept e = leb-true kept count (passes _ _ _ e).0

pub decide_accepts : (V : ℕ) (ls : List Literal) (values marks : ℕ) → decide_fault V ls values marks ≡ None
    → Accepted V ls × (V < values) × (length ls ≤ marks)
unfolding decide_fault literals_fault
decide_accepts V ls values marks e =
    let a = passes _ _ _ e in
    let b = passes _ _ _ a.1 in
    let d = and_parts _ _ (passes _ _ _ b.1).0 in
    (record { ranges = a.0; short = leb-true (length ls) 64 b.0 }, ltb-true V values d.0, leb-true (length ls) marks d.1)
