-- How bytes read as five lists, and which fault they have first.
use Rattle.std.specs.Prelude.{ℕ, zero, suc, ◌+◌, ◌-◌, ◌*◌, ◌≤◌, Bool, true, false, cond, ◌&&◌, List, [], ◌∷◌, length, take, drop, Ok, Err, Result, ◌==◌, nat_le, nat_lt, slice_index}
use Rattle.std.specs.List.{between}
use Rattle.std.specs.Option.{unwrap_or}
use Rattle.std.specs.Result.{result_ok}
use Rattle.access.specs.declared.refusals.Refusal.TheVariants.{Unreadable}
use Rattle.access.specs.declared.entities.Entity.{Entity}
use Rattle.access.specs.declared.numbers.ObjectNumbers.{ObjectNumbers}
use Rattle.access.specs.Codes.{Code, code}
use Rattle.access.specs.Lists.{Lists, new_entities, new_lists}
use Rattle.catalogue.specs.declared.names.ListName.{ListName}
use Rattle.catalogue.specs.declared.names.ListName.TheVariants.{Entities, Links, Rights, Members, Lines}
use Rattle.catalogue.specs.Calls.{Outcome}
use Rattle.book.specs.declared.calls.Call.{Call}
use Rattle.book.specs.declared.calls.Call.TheVariants as call
use Rattle.book.specs.Gathered.{called}
use Rattle.image.specs.Layout.{in_order, index_of, part_of, width_of, least_of, most_of}
use Rattle.image.specs.Bytes.{entity_bytes}

abbrev pub fault : ℕ → ℕ → Code
fault part place = code (Unreadable part place)

-- what a first result gives to the next step
abbrev pub and_then : {X Y : Type 0} → Result X Code → (X → Result Y Code) → Result Y Code
and_then (Err e) f = Err e
and_then (Ok x) f = f x

-- a step for each of some lists, up to the first that fails
abbrev pub steps : {X : Type 0} → (ListName → X → Result X Code) → List ListName → X → Result X Code
steps f [] x = Ok x
steps f (p ∷ ps) x = and_then (f p x) (steps f ps)

abbrev pub byte : List ℕ → ℕ → ℕ
byte bytes i = slice_index bytes i

-- The contents

-- two bytes as a number, high byte first
abbrev pub pair : List ℕ → ℕ → ℕ
pair bytes i = byte bytes i * 256 + byte bytes (i + 1)

abbrev pub start_at : List ℕ → ListName → ℕ
start_at bytes p = pair bytes (index_of p * 4)

abbrev pub count_at : List ℕ → ListName → ℕ
count_at bytes p = pair bytes (index_of p * 4 + 2)

-- a list's entry, where the bodies before it end at a place
abbrev pub entry_fits : List ℕ → ListName → ℕ → Bool
entry_fits bytes p at = start_at bytes p == at && (nat_le (least_of p) (count_at bytes p) && nat_le (count_at bytes p) (most_of p))

-- where the body of a list ends, unless its entry is wrong
abbrev pub entry_end : List ℕ → ListName → ℕ → Result ℕ Code
entry_end bytes p at = cond (entry_fits bytes p at) (Ok (at + count_at bytes p * width_of p)) (Err (fault 0 (index_of p)))

abbrev pub end_after : List ℕ → List ListName → ℕ → Result ℕ Code
end_after bytes = steps (entry_end bytes)

-- fewer bytes than the contents take, else the first wrong entry, else a length that is not the end of the last body
abbrev pub contents_end : List ℕ → Result ℕ Code
contents_end bytes =
    cond (nat_lt (length bytes) 20) (Err (fault 0 5))
    (and_then (end_after bytes in_order 20) (λ end. cond (length bytes == end) (Ok end) (Err (fault 0 5))))

-- The bodies

-- the bytes of a list's records
abbrev pub body_in : ListName → List ℕ → List ℕ
body_in p bytes = between (start_at bytes p) (start_at bytes p + count_at bytes p * width_of p) bytes

abbrev pub numbers_at : List ℕ → ℕ → ObjectNumbers
numbers_at b i = record { kind = byte b i; entity = byte b (i + 1); right = byte b (i + 2) }

-- the building call that the bytes of a record are
abbrev pub call_of : ListName → List ℕ → Call
call_of Entities b = call.Declare (record { kind = byte b 0; parent = byte b 1; owner = byte b 2; mode = byte b 3 })
call_of Links b = call.Link (record { lower = byte b 0; upper = byte b 1 })
call_of Rights b = call.Grant (record { principal = byte b 0; entity = byte b 1; right = byte b 2; option = byte b 3 })
call_of Members b = call.Join (record { account = byte b 0; role = byte b 1 })
call_of Lines b = call.Line (record { object = numbers_at b 0; runner = byte b 3; called = numbers_at b 4 })

-- the first record of a part of a body, as its building call on the lists that stand
abbrev pub first_call : ListName → List ℕ → Lists → Outcome
first_call p rest l = called l (call_of p (take (width_of p) rest))

-- a record is new where its call returns the next number
abbrev pub is_new : Result ℕ Code → ℕ → Bool
is_new (Ok n) k = n == k
is_new (Err c) k = false

abbrev pub new_or : Result ℕ Code → ListName → ℕ → Result (Unit {0}) Code
new_or answer p k = cond (is_new answer k) (Ok tt) (Err (fault (part_of p) k))

-- n records from record k on, each as its call; the first that is refused or stands already is the fault (Causes has the law)
abbrev pub built_from : ListName → List ℕ → Lists → ℕ → ℕ → Result Lists Code
built_from p rest l k zero = Ok l
built_from p rest l k (suc n) =
    cond (is_new (first_call p rest l).answer k)
    (built_from p (drop (width_of p) rest) (first_call p rest l).lists (k + 1) n)
    (Err (fault (part_of p) k))

-- the body of a list, after the records that a new book has
abbrev pub built_part : List ℕ → ListName → Lists → Result Lists Code
built_part bytes p l = built_from p (drop (least_of p * width_of p) (body_in p bytes)) l (least_of p) (count_at bytes p - least_of p)

abbrev pub built_parts : List ℕ → List ListName → Lists → Result Lists Code
built_parts bytes = steps (built_part bytes)

-- The first entities

-- some bytes stand at a place
abbrev pub same_at : List ℕ → ℕ → List ℕ → Bool
same_at bytes at [] = true
same_at bytes at (b ∷ bs) = byte bytes at == b && same_at bytes (at + 1) bs

abbrev pub first_at : List ℕ → ℕ → Entity → Result (Unit {0}) Code
first_at bytes k e = cond (same_at bytes (20 + k * 4) (entity_bytes e)) (Ok tt) (Err (fault 1 k))

-- the first entities are those of a new book, else the first that differs is the fault
abbrev pub firsts_from : List ℕ → ℕ → List Entity → Result (Unit {0}) Code
firsts_from bytes k [] = Ok tt
firsts_from bytes k (e ∷ es) = and_then (first_at bytes k e) (λ _. firsts_from bytes (k + 1) es)

abbrev pub firsts : List ℕ → Result (Unit {0}) Code
firsts bytes = firsts_from bytes 0 new_entities

-- the lists that bytes read as, or the first fault
unfoldable pub read_lists : List ℕ → Result Lists Code
read_lists bytes = and_then (contents_end bytes) (λ _. and_then (firsts bytes) (λ _. built_parts bytes in_order new_lists))

-- what bytes that do not read mean: less than any catalogue has
abbrev pub no_lists : Lists
no_lists = record { entities = []; links = []; rights = []; members = []; lines = [] }

-- the lists that bytes read as
abbrev pub lists_in : List ℕ → Lists
lists_in bytes = unwrap_or (result_ok (read_lists bytes)) no_lists

-- what a function that builds in place returned, with the lists that it left
abbrev pub leaves : Result (Unit {0}) Code → Lists → Result Lists Code
leaves r l = and_then r (λ _. Ok l)

-- what right contents say of a body
pub record Laid (bytes : List ℕ) (p : ListName) : Type 0 where
  pub head : 20 ≤ length bytes
  pub least : least_of p ≤ count_at bytes p
  pub most : count_at bytes p ≤ most_of p
  pub inside : start_at bytes p + count_at bytes p * width_of p ≤ length bytes

abbrev pub AllLaid : List ℕ → Type 0
AllLaid bytes = (p : ListName) → Laid bytes p
