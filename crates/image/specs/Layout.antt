-- The table of an image's bodies: their order, how many bytes a record has, and how many records a book may hold.
use Rattle.std.specs.Prelude.{ℕ, ◌+◌, List, [], ◌∷◌}
use Rattle.catalogue.specs.declared.names.ListName.{ListName}
use Rattle.catalogue.specs.declared.names.ListName.TheVariants.{Entities, Links, Rights, Members, Lines}

abbrev pub in_order : List ListName
in_order = Entities ∷ Links ∷ Rights ∷ Members ∷ Lines ∷ []

-- the place of a list in that order
abbrev pub index_of : ListName → ℕ
index_of Entities = 0
index_of Links = 1
index_of Rights = 2
index_of Members = 3
index_of Lines = 4

-- the number of a body in a fault; part 0 is the contents
abbrev pub part_of : ListName → ℕ
part_of p = index_of p + 1

-- how many bytes a record has, one for each field
abbrev pub width_of : ListName → ℕ
width_of Entities = 4
width_of Links = 2
width_of Rights = 4
width_of Members = 2
width_of Lines = 7

-- the fewest and the most records of a book
abbrev pub least_of : ListName → ℕ
least_of Entities = 3
least_of Links = 0
least_of Rights = 0
least_of Members = 0
least_of Lines = 0

abbrev pub most_of : ListName → ℕ
most_of Entities = 96
most_of Links = 64
most_of Rights = 256
most_of Members = 128
most_of Lines = 256
