-- What values say of a model: its state, its event and its answer.
use Rattle.std.proofs.Common.{◌≡◌, ℕ, ◌^◌, ◌<◌, List, map, length, sym, ◌∙◌, subst, arith}
use Rattle.std.proofs.lemmas.List.{length-map}
use Rattle.literal.specs.declared.Literal.{Literal}
use Rattle.literal.specs.Truth.{Values, truth}
use Rattle.circuit.specs.declared.record.Side.TheVariants.{Event, Answer}
use Rattle.encoding.specs.Literals.{latch_literals, side_literals, number_in}
use Rattle.encoding.specs.Laws.{SaidInRange, SaidByLiterals, MarkedRow}
use Rattle.bits.proofs.Numbers.{from_bits_below}
use Rattle.encoding.proofs.Meaning.{signs_decide, marks_say}
use Rattle.encoding.proofs.Parts.{latches_length, events_length, answers_length}

number_below : (v : Values) (ls : List Literal) (k : ℕ) → length ls ≡ k → number_in v ls < 2 ^ k
number_below v ls k e = subst (λ n. number_in v ls < 2 ^ n) (length-map ls (truth v) ∙ e) (from_bits_below (map (truth v) ls))

pub said_in_range : SaidInRange
said_in_range r gs h v = record {
  state = number_below v (latch_literals r) _ (latches_length r gs h);
  event = number_below v (side_literals Event r) _ (events_length r gs h);
  answer = number_below v (side_literals Answer r) _ (answers_length r gs h);
}

pub said_by_literals : SaidByLiterals
said_by_literals r gs h v = record {
  state = λ s l. signs_decide v (latch_literals r) s (subst (λ n. s < 2 ^ n) (sym (latches_length r gs h)) l);
  event = λ e l. signs_decide v (side_literals Event r) e (subst (λ n. e < 2 ^ n) (sym (events_length r gs h)) l);
  answer = λ a l. signs_decide v (side_literals Answer r) a (subst (λ n. a < 2 ^ n) (sym (answers_length r gs h)) l);
}

pub marked_row : MarkedRow
marked_row r gs h v s event ms few =
    marks_say.agree v (latch_literals r) s ms (omega (arith, latches_length r gs h))
