-- What a roll holds, and what its calls leave.
use Rattle.std.specs.Prelude.{◌≡◌, ℕ, ◌<◌, ◌≤◌, List, [], ◌∷◌, ◌++◌, length, take, Ok, Err, Result, slice_index_or, slice_set}
use Rattle.std.specs.Borrow.{GName}
use Rattle.roll.specs.declared.roll.Roll.{Roll}
use Rattle.roll.specs.declared.fault.RollFault.{RollFault}
use Rattle.roll.specs.declared.fault.RollFault.TheVariants.{Full, NotUsed}

-- all its places
abbrev pub table_of : {T : Type 0} → Roll T → List T
table_of r = r.places.now

-- the used ones
abbrev pub items_of : {T : Type 0} → Roll T → List T
items_of r = take r.used (table_of r)

-- who lent the places
abbrev pub lender_of : {T : Type 0} → Roll T → GName
lender_of r = r.places.ghost_name

-- one element more: at the end of the used ones, and at that place of the table alone
pub record Grown {T : Type 0} (before : Roll T) (x : T) (after : Roll T) : Type 0 where
  pub free : length (items_of before) < length (table_of before)
  pub used : items_of after ≡ items_of before ++ (x ∷ [])
  pub places : table_of after ≡ slice_set (table_of before) (length (items_of before)) x

-- a roll that has no place left stays as it is
pub record NoPlace {T : Type 0} (before after : Roll T) (f : RollFault) : Type 0 where
  pub fault : f ≡ Full
  pub full : length (table_of before) ≤ length (items_of before)
  pub used : items_of after ≡ items_of before
  pub places : table_of after ≡ table_of before

abbrev pub Appended : {T : Type 0} → Roll T → T → Result (Unit {0}) RollFault → Roll T → Type 0
Appended before x (Ok _) after = Grown before x after
Appended before x (Err f) after = NoPlace before after f

-- the element at a used place; another place is refused
abbrev pub Given : {T : Type 0} → List T → ℕ → Result T RollFault → Type 0
Given xs place (Ok x) = (place < length xs) × ((d : _) → x ≡ slice_index_or xs place d)
Given xs place (Err f) = (length xs ≤ place) × (f ≡ NotUsed)
