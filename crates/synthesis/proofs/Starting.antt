-- What a run starts from, and that sizes which are enough leave no solver short.
use Rattle.std.proofs.Common.{◌≡◌, ℕ, Bool, true, false, cond, Some, None, Option, refl, arith}
use Rattle.std.proofs.lemmas.Bool.{leb-true, ltb-true, and_parts}
use Rattle.circuit.specs.declared.record.Record.{Record}
use Rattle.synthesis.specs.declared.sizes.Room.{Room}
use Rattle.synthesis.specs.Runs.{Lent, record_of, sizes_of, sizes_in, Roomy}
use Rattle.synthesis.specs.Sizes.{places_fit, candidate_fits, answer_fits, work_fits, size_fault}
use Rattle.synthesis.proofs.Ends.{some_none}

cond_none : {X : Type 0} (b : Bool) (o : Option X) (x : X) → cond b o (Some x) ≡ None → (b ≡ true) × (o ≡ None)
cond_none true o x e = (refl, e)
cond_none false o x e = some_none x e

-- what sizes that are not refused give
pub sizes_ample : (l : Lent) → size_fault (record_of l) (sizes_in l) ≡ None → Roomy l
unfolding size_fault
sizes_ample l e =
    let r = record_of l in
    let s = sizes_in l in
    let a = cond_none (places_fit s) _ _ e in
    let b = cond_none (candidate_fits r s) _ _ a.1 in
    let c = cond_none (answer_fits r s) _ _ b.1 in
    let d = cond_none (work_fits s) _ _ c.1 in
    let w = ltb-true _ _ d.0 in
    record {
      few_rows = leb-true _ _ (and_parts _ _ a.0).0;
      candidate_variables = leb-true _ _ (and_parts _ _ b.0).0;
      candidate_cells = leb-true _ _ (and_parts _ _ b.0).1;
      answer_variables = leb-true _ _ (and_parts _ _ c.0).0;
      answer_cells = leb-true _ _ (and_parts _ _ c.0).1;
      candidate_work = omega arith;
      answer_work = omega arith;
    }

-- sizes that were asked for, in place of the sizes themselves
pub fault_at : (r : Record) (a b w a' b' : ℕ) (c d c' d' : Room) → a ≡ a' → b ≡ b' → c ≡ c' → d ≡ d'
    → size_fault r (sizes_of a b c d w) ≡ size_fault r (sizes_of a' b' c' d' w)
fault_at r a b w a' b' c d c' d' p q s t = cc
