-- The record that bytes are, and the record at a number.
use Rattle.std.specs.Prelude.{ℕ, List}
use Rattle.std.specs.Option.{unwrap_or}
use Rattle.access.specs.declared.entities.Kind.TheVariants.{Container}
use Rattle.access.specs.declared.entities.Entity.{Entity}
use Rattle.access.specs.declared.rights.RightRecord.{RightRecord}
use Rattle.access.specs.declared.roles.Link.{Link}
use Rattle.access.specs.declared.roles.Member.{Member}
use Rattle.access.specs.declared.code.Object.{Object}
use Rattle.access.specs.declared.code.Object.TheVariants as object
use Rattle.access.specs.declared.numbers.ObjectNumbers.{ObjectNumbers}
use Rattle.access.specs.declared.code.Line.{Line}
use Rattle.access.specs.Numbers.{kind_at, mode_at, object_at, runner_at}
use Rattle.catalogue.specs.Judgements.{entity_named, link_named, right_named, member_named, line_named}
use Rattle.image.specs.Reading.{byte, numbers_at}

abbrev pub entity_of : List ℕ → Entity
entity_of b = entity_named (byte b 1) (byte b 2) (mode_at (byte b 3)) (unwrap_or (kind_at (byte b 0)) Container)

abbrev pub link_of : List ℕ → Link
link_of b = link_named (byte b 0) (byte b 1)

abbrev pub right_of : List ℕ → RightRecord
right_of b = right_named (byte b 0) (byte b 1) (byte b 2) (byte b 3)

abbrev pub member_of : List ℕ → Member
member_of b = member_named (byte b 0) (byte b 1)

abbrev pub object_of : ObjectNumbers → Object
object_of n = unwrap_or (object_at n) (object.Procedure 0)

abbrev pub line_of : List ℕ → Line
line_of b = line_named (object_of (numbers_at b 0)) (runner_at (byte b 3)) (object_of (numbers_at b 4))
