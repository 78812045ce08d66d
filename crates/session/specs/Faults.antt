-- The number of each refusal of a session, and its reason in words.
use Rattle.std.specs.Prelude.{ℕ, List, codes}
use Rattle.session.specs.declared.fault.SessionFault.{SessionFault}
use Rattle.session.specs.declared.fault.SessionFault.TheVariants.{Foreign, OutOfRange}

abbrev pub session_number : SessionFault → ℕ
session_number Foreign = 42
session_number OutOfRange = 43

abbrev pub session_reason : SessionFault → List ℕ
session_reason Foreign = codes "the session is another region's"
session_reason OutOfRange = codes "the event or the wish is out of range"
