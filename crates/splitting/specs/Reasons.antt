-- Why a literal stands on the trail, and the number that says so: an odd one says that the place is an open decision, 0 that
-- it was one and is turned round or is an assumption, and any other that a clause forces its literal.
use Rattle.std.specs.Prelude.{◌≡◌, ℕ, ◌+◌, ◌-◌, ◌*◌, ◌/◌, ◌%◌, ◌≤◌}
use Rattle.splitting.specs.declared.reason.TheConstants.{LAST_PLACE}
use Rattle.splitting.specs.declared.reason.Reason.{Reason}
use Rattle.splitting.specs.declared.reason.Reason.TheVariants.{Open, Turned, Forced}

-- a number's reason
abbrev pub Explains : Reason → ℕ → Type 0
Explains (Open front) why = (why % 2 ≡ 1) × (front ≡ why / 2)
Explains Turned why = why ≡ 0
Explains (Forced p) why = (why % 2 ≡ 0) × (1 ≤ why) × (p ≡ why / 2 - 1)

-- a reason's number
abbrev pub number_of : Reason → ℕ
number_of (Open front) = 2 * front + 1
number_of Turned = 0
number_of (Forced p) = 2 * (p + 1)

-- its place is one that a number can hold
abbrev pub Small : Reason → Type 0
Small (Open front) = front ≤ LAST_PLACE
Small Turned = Unit {0}
Small (Forced p) = p ≤ LAST_PLACE
