-- The laws of reading, as the contracts cite them.
use Rattle.std.proofs.Common.{◌≡◌, ℕ, true, List, length, IfOk, Ok, Err, Result, sym, refl, ap, ◌∙◌, subst}
use Rattle.circuit.specs.declared.record.Gate.{Gate}
use Rattle.circuit.specs.declared.record.Record.{Record}
use Rattle.circuit.specs.Sound.{sound}
use Rattle.aiger.specs.declared.fault.ReadFault.{ReadFault}
use Rattle.aiger.specs.Read.{Filled, Answered, answered, cleared, fill_of, read_of}
use Rattle.aiger.specs.Format.{Accepts, ReadLaw}
use Rattle.aiger.proofs.Counted.{no_err}
use Rattle.aiger.proofs.Acceptance.{accept_forward, accept_backward}

cleared_accepts : (bs : List ℕ) (n : ℕ) (x : Result Filled ReadFault) → fill_of bs n ≡ x → (cleared n x).result ≡ Ok tt → Accepts bs (cleared n x).model (cleared n x).gates
cleared_accepts bs n (Ok d) f e = (accept_backward bs n d f).0
cleared_accepts bs n (Err g) f e = absurd (no_err g tt e)

read_accepted : (bs : List ℕ) (n : ℕ) → (read_of bs n).result ≡ Ok tt → Accepts bs (read_of bs n).model (read_of bs n).gates
unfolding read_of
read_accepted bs n e = cleared_accepts bs n (fill_of bs n) refl e

pub read_only : (bs : List ℕ) (n : ℕ) (r : Record) (gs : List Gate) → Accepts bs r gs → length gs ≡ n → read_of bs n ≡ answered (Ok tt) r gs
unfolding read_of
read_only bs n r gs a e = ap (cleared n) (ap (fill_of bs) (sym e) ∙ accept_forward bs r gs a)

pub read_law : (bs : List ℕ) (n : ℕ) (a : Answered) → a ≡ read_of bs n → ReadLaw bs n a
read_law bs n a e =
    subst (ReadLaw bs n) (sym e) (record { accepted = read_accepted bs n; only = read_only bs n })

pub read_sound : (bs : List ℕ) (n : ℕ) (x : Result (Unit {0}) ReadFault) (r : Record) (gs : List Gate) → answered x r gs ≡ read_of bs n → IfOk x (λ _. sound r gs ≡ true)
read_sound bs n (Ok tt) r gs e = ((read_law bs n (answered (Ok tt) r gs) e).accepted refl).model
read_sound bs n (Err f) r gs e = tt
