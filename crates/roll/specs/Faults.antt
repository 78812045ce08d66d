-- The number of each refusal of a roll, and its reason in words.
use Rattle.std.specs.Prelude.{ℕ, List, codes}
use Rattle.roll.specs.declared.fault.RollFault.{RollFault}
use Rattle.roll.specs.declared.fault.RollFault.TheVariants.{Full, NotUsed}

abbrev pub roll_number : RollFault → ℕ
roll_number Full = 27
roll_number NotUsed = 28

abbrev pub roll_reason : RollFault → List ℕ
roll_reason Full = codes "every place of the roll is used"
roll_reason NotUsed = codes "the place of the roll is not used"
