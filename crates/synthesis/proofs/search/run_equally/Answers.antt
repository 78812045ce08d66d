use Rattle.std.proofs.Common.{sym, ◌∙◌}
use Rattle.synthesis.proofs.Starting.{sizes_ample, fault_at}
use Rattle.synthesis.proofs.search.run_equally.Goals as goal

pub invariant_of-search : goal.invariant_of-search
invariant_of-search g c = record {
  room = sizes_ample _ (sym (fault_at _ _ _ _ _ _ _ _ _ _ c.places.ensures c.places-2.ensures c.of.ensures c.of-2.ensures) ∙ sym c.in_ok-check.ensures);
}
