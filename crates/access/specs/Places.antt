-- The entity that an object belongs to.
use Rattle.std.specs.Prelude.{ℕ}
use Rattle.access.specs.declared.code.Object.{Object}
use Rattle.access.specs.declared.code.Object.TheVariants as object

abbrev pub place_of : Object → ℕ
place_of (object.Procedure e) = e
place_of (object.Triggers e event) = e
place_of (object.Created e) = e
