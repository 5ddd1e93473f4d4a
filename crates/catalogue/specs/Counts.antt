-- How many records each list has.
use Rattle.std.specs.Prelude.{ℕ, length}
use Rattle.access.specs.Lists.{Lists}
use Rattle.catalogue.specs.declared.names.ListName.{ListName}
use Rattle.catalogue.specs.declared.names.ListName.TheVariants.{Entities, Links, Rights, Members, Lines}

abbrev pub count_of : Lists → ListName → ℕ
count_of l Entities = length l.entities
count_of l Links = length l.links
count_of l Rights = length l.rights
count_of l Members = length l.members
count_of l Lines = length l.lines
