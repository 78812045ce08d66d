-- A trail that is not made yet has as many places as its columns.
use Rattle.std.proofs.Common.{◌≡◌, length, Some, None, Option, refl}
use Rattle.std.proofs.lemmas.List.{length-replicate}
use Rattle.splitting.specs.Columns.{width, shown}
use Rattle.splitting.specs.declared.trail.Columns.{Columns}
use Rattle.splitting.specs.declared.trail.Trail.{Trail}

pub shown_width : (o : Option Columns) (t : Trail) → length (shown o t).value.now ≡ width o t
shown_width None t = refl
shown_width (Some c) t = length-replicate (length c.value.now) 0
