-- What the clauses mean, all together.
use Rattle.encoding.proofs.Answering.{answer_sound, answer_complete}
use Rattle.encoding.proofs.Candidates.{candidate_sound, candidate_complete}
use Rattle.encoding.proofs.Meaning.{marks_say}
use Rattle.encoding.proofs.Said.{said_in_range, said_by_literals}
use Rattle.synthesis.proofs.Good.{Meaning}

pub meaning : Meaning
meaning = record {
  in_range = said_in_range;
  literals = said_by_literals;
  marks = marks_say;
  answer_sound = answer_sound;
  answer_complete = answer_complete;
  candidate_sound = candidate_sound;
  candidate_complete = candidate_complete;
}
