-- What a book means.
use Rattle.std.specs.Prelude.{vec_items}
use Rattle.access.specs.Lists.{Lists}
use Rattle.book.specs.declared.books.Book.{Book}

abbrev pub lists_of : Book → Lists
lists_of b = record {
  entities = vec_items b.entities;
  links = vec_items b.links;
  rights = vec_items b.rights;
  members = vec_items b.members;
  lines = vec_items b.lines;
}
