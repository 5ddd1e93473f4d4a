-- Each list of a catalogue by its name.
use Rattle.std.specs.Prelude.{List}
use Rattle.access.specs.declared.entities.Entity.{Entity}
use Rattle.access.specs.declared.roles.Link.{Link}
use Rattle.access.specs.declared.roles.Member.{Member}
use Rattle.access.specs.declared.rights.RightRecord.{RightRecord}
use Rattle.access.specs.declared.code.Line.{Line}
use Rattle.access.specs.Lists.{Lists}

abbrev pub entities_of : Lists → List Entity
entities_of l = l.entities

abbrev pub links_of : Lists → List Link
links_of l = l.links

abbrev pub rights_of : Lists → List RightRecord
rights_of l = l.rights

abbrev pub members_of : Lists → List Member
members_of l = l.members

abbrev pub lines_of : Lists → List Line
lines_of l = l.lines
