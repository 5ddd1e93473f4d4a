-- The image of five lists, and what writing it answers and leaves.
use Rattle.std.specs.Prelude.{ℕ, ◌+◌, ◌*◌, ◌/◌, ◌%◌, cond, List, [], ◌∷◌, ◌++◌, length, drop, Ok, Err, Result, nat_lt}
use Rattle.std.specs.List.{flat_map}
use Rattle.access.specs.declared.refusals.Refusal.TheVariants.{NoRoom}
use Rattle.access.specs.Codes.{Code, code}
use Rattle.access.specs.Lists.{Lists}
use Rattle.catalogue.specs.declared.names.ListName.{ListName}
use Rattle.catalogue.specs.Counts.{count_of}
use Rattle.image.specs.Layout.{in_order, width_of}
use Rattle.image.specs.Bytes.{records_of, strung}

-- an entry of the contents: a start and a count, two bytes each, high byte first
abbrev pub entry_bytes : ℕ → ℕ → List ℕ
entry_bytes start count = start / 256 ∷ start % 256 ∷ count / 256 ∷ count % 256 ∷ []

-- the entries of bodies that stand without gaps from a place on
abbrev pub entries_from : Lists → ℕ → List ListName → List ℕ
entries_from l at [] = []
entries_from l at (p ∷ ps) = entry_bytes at (count_of l p) ++ entries_from l (at + count_of l p * width_of p) ps

-- where the last of these bodies ends
abbrev pub end_from : Lists → ℕ → List ListName → ℕ
end_from l at [] = at
end_from l at (p ∷ ps) = end_from l (at + count_of l p * width_of p) ps

unfoldable pub body_of : Lists → ListName → List ℕ
body_of l p = strung (records_of l p)

-- the contents take 20 bytes
unfoldable pub contents : Lists → List ℕ
contents l = entries_from l 20 in_order

unfoldable pub bodies : Lists → List ℕ
bodies l = flat_map (body_of l) in_order

unfoldable pub encode : Lists → List ℕ
encode l = contents l ++ bodies l

-- bytes written to the front of a room: their number, or 6 where the room is too small and every byte stays
abbrev pub write_answer : List ℕ → List ℕ → Result ℕ Code
write_answer bytes room = cond (nat_lt (length room) (length bytes)) (Err (code NoRoom)) (Ok (length bytes))

abbrev pub write_room : List ℕ → List ℕ → List ℕ
write_room bytes room = cond (nat_lt (length room) (length bytes)) room (bytes ++ drop (length bytes) room)
