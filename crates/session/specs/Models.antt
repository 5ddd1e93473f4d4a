-- What a model means, and what holds of every model.
use Rattle.std.specs.Prelude.{vec_items}
use Rattle.access.specs.Lists.{Lists}
use Rattle.session.specs.declared.models.Model.{Model}
use Rattle.session.specs.Tabled.{Tabled}

abbrev pub lists_of : Model → Lists
lists_of m = record {
  entities = vec_items m.entities;
  links = vec_items m.links;
  rights = vec_items m.rights;
  members = vec_items m.members;
  lines = vec_items m.lines;
}

-- what its invariant says of a model
abbrev pub Ready : Model → Type 0
Ready m = Tabled (lists_of m) m.places.relation.rows m.roles.relation.rows
