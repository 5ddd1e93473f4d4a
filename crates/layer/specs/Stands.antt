-- What a layer over a book holds, and what it means.
use Rattle.std.specs.Prelude.{◌≡◌, List, [], vec_items}
use Rattle.access.specs.Lists.{Lists, new_lists}
use Rattle.catalogue.specs.Sound.{Sound}
use Rattle.book.specs.declared.books.Book.{Book}
use Rattle.book.specs.contracts.books.reading.BookCatalogue.TheImpl as book_catalogue
use Rattle.book.specs.Meaning.{lists_of}
use Rattle.layer.specs.declared.layers.Layer.{Layer}
use Rattle.layer.specs.declared.proposals.Proposal.{Proposal}
use Rattle.layer.specs.Proposals.{over}

pub record Stand : Type 0 where
  pub lists : Lists
  pub proposals : List Proposal

abbrev pub stand_of : Layer Book book_catalogue.ghosts → Stand
stand_of y = record { lists = lists_of y.below; proposals = vec_items y.proposals }

abbrev pub meant : Stand → Lists
meant s = over s.lists s.proposals

-- a new layer over a new book
abbrev pub new_stand : Stand
new_stand = record { lists = new_lists; proposals = [] }

-- what a building call that is passed down leaves of a layer: its proposals, and a sound meaning where it was sound
pub record PassedDown (old new : Layer Book book_catalogue.ghosts) : Type 0 where
  pub proposals : new.proposals ≡ old.proposals
  pub sound : Sound (meant (stand_of old)) → Sound (meant (stand_of new))
