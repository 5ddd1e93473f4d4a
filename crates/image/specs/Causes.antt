-- What a fault means, in plain words: all that comes before it is right, and it is not.
use Rattle.std.specs.Prelude.{◌≡◌, ℕ, zero, suc, ◌+◌, ◌*◌, ◌<◌, ◌≤◌, false, List, ◌∷◌, ◌++◌, length, drop, Ok, Result, ◌≢◌}
use Rattle.access.specs.declared.entities.Entity.{Entity}
use Rattle.access.specs.Codes.{Code}
use Rattle.access.specs.Lists.{Lists, new_entities, new_lists}
use Rattle.catalogue.specs.declared.names.ListName.{ListName}
use Rattle.image.specs.Layout.{in_order, index_of, part_of, width_of, least_of, most_of}
use Rattle.image.specs.Bytes.{entity_bytes}
use Rattle.image.specs.Reading.{fault, start_at, count_at, end_after, contents_end, same_at, firsts_from, firsts, first_call, body_in, built_parts}

-- an entry is right: its body starts where the one before it ends, and its count is within the limits of a book
pub record EntryRight (bytes : List ℕ) (p : ListName) (at : ℕ) : Type 0 where
  pub start : start_at bytes p ≡ at
  pub least : least_of p ≤ count_at bytes p
  pub most : count_at bytes p ≤ most_of p

-- what the call of the n-th of some records returns, on the lists that those before it leave
abbrev pub answer_at : ListName → List ℕ → Lists → ℕ → Result ℕ Code
answer_at p rest l zero = (first_call p rest l).answer
answer_at p rest l (suc n) = answer_at p (drop (width_of p) rest) (first_call p rest l).lists n

-- of records numbered from k on, each before the n-th is new when it comes, and the n-th is not: it is refused or stands already
pub record FirstNot (p : ListName) (rest : List ℕ) (l : Lists) (k n : ℕ) : Type 0 where
  pub before : (i : ℕ) → i < n → answer_at p rest l i ≡ Ok (k + i)
  pub here : answer_at p rest l n ≡ Ok (k + n) → ⊥

pub data Cause (bytes : List ℕ) (c : Code) : Type 0 where
  -- there are fewer bytes than the contents take
  short : length bytes < 20 → c ≡ fault 0 5 → Cause bytes c
  -- the entries before that of a list are right, and its own is not
  entry : (before after : List ListName) (p : ListName) (at : ℕ) → in_order ≡ before ++ p ∷ after → end_after bytes before 20 ≡ Ok at
      → (EntryRight bytes p at → ⊥) → c ≡ fault 0 (index_of p) → Cause bytes c
  -- the entries are right, and the bytes do not end with the last body
  total : (end : ℕ) → end_after bytes in_order 20 ≡ Ok end → (length bytes ≢ end) → c ≡ fault 0 5 → Cause bytes c
  -- the contents are right, the first entities before one are those of a new book, and that one is not
  other : (end : ℕ) (before after : List Entity) (x : Entity) → contents_end bytes ≡ Ok end → new_entities ≡ before ++ x ∷ after → firsts_from bytes 0 before ≡ Ok tt
      → same_at bytes (20 + length before * 4) (entity_bytes x) ≡ false → c ≡ fault 1 (length before) → Cause bytes c
  -- the contents and the first entities are right, the bodies before that of a list read, and a record of its own is the first that is not new
  later : (end : ℕ) (before after : List ListName) (p : ListName) (l : Lists) (n : ℕ) → contents_end bytes ≡ Ok end → firsts bytes ≡ Ok tt
      → in_order ≡ before ++ p ∷ after → built_parts bytes before new_lists ≡ Ok l
      → FirstNot p (drop (least_of p * width_of p) (body_in p bytes)) l (least_of p) n → c ≡ fault (part_of p) (least_of p + n) → Cause bytes c
