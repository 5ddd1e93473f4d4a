-- What changes leave of a layer over a book, and what is found there of two accounts.
use Rattle.std.specs.Prelude.{◌≡◌, ℕ, List}
use Rattle.catalogue.specs.Sound.{Sound}
use Rattle.book.specs.declared.books.Book.{Book}
use Rattle.book.specs.contracts.books.reading.BookCatalogue.TheImpl as book_catalogue
use Rattle.book.specs.Turns.{EachTurn}
use Rattle.layer.specs.declared.layers.Layer.{Layer}
use Rattle.layer.specs.declared.changes.Change.{Change}
use Rattle.layer.specs.declared.changes.Response.{Response}
use Rattle.layer.specs.Stands.{Stand, stand_of, meant}
use Rattle.layer.specs.Changes.{changed, stand_after, said}
use Rattle.survey.specs.Pairs.{Paired}
use Rattle.assess.specs.declared.assessing.Assessment.{Assessment}

-- a response says what the change returns after the changes before it
abbrev pub Returns : List Change → Change → Response → Type 0
Returns before change response = said response ≡ (changed (stand_after before) change).response

-- the layer and its book hold what the changes put together, which is sound, and each change has its response
pub record Made (changes : List Change) (layer : Layer Book book_catalogue.ghosts) (responses : List Response) : Type 0 where
  pub gathered : stand_of layer ≡ stand_after changes
  pub sound : Sound (meant (stand_after changes))
  pub turns : EachTurn Returns changes responses

-- the rows of accounts a and b, and what these tell, by the lists with the proposals and by those of the book alone
pub record Assessed (s : Stand) (a b : ℕ) (found : Assessment) : Type 0 where
  pub through_layer : Paired (meant s) a b found.through_layer
  pub through_book : Paired s.lists a b found.through_book
