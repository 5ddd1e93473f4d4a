-- What each building call returns, and the lists after it.
use Rattle.std.specs.Prelude.{ℕ, Bool, true, false, List, [], ◌∷◌, ◌++◌, length, Some, None, Ok, Err, Option, Result, slice_set}
use Rattle.std.specs.List.{slice_get}
use Rattle.access.specs.declared.entities.Entity.{Entity}
use Rattle.access.specs.declared.rights.RightRecord.{RightRecord}
use Rattle.access.specs.declared.roles.Link.{Link}
use Rattle.access.specs.declared.roles.Member.{Member}
use Rattle.access.specs.declared.numbers.ObjectNumbers.{ObjectNumbers}
use Rattle.access.specs.declared.code.Line.{Line}
use Rattle.access.specs.Codes.{Code}
use Rattle.access.specs.Lists.{Lists}
use Rattle.catalogue.specs.Tables.{placed}
use Rattle.catalogue.specs.Alike.{same_link, same_right, same_member, same_line}
use Rattle.catalogue.specs.Judgements.{judged_entity, judged_link, judged_right, judged_member, judged_line}

-- what a call returned, and the lists after it
pub record Outcome : Type 0 where
  pub answer : Result ℕ Code
  pub lists : Lists

-- a call that is refused changes nothing
abbrev pub unless : {X : Type 0} → Lists → (X → Outcome) → Result X Code → Outcome
unless l put (Err c) = record { answer = Err c; lists = l }
unless l put (Ok x) = put x

abbrev pub with_entities : Lists → List Entity → Lists
with_entities l es = record { entities = es; links = l.links; rights = l.rights; members = l.members; lines = l.lines }

abbrev pub with_links : Lists → List Link → Lists
with_links l ks = record { entities = l.entities; links = ks; rights = l.rights; members = l.members; lines = l.lines }

abbrev pub with_rights : Lists → List RightRecord → Lists
with_rights l rs = record { entities = l.entities; links = l.links; rights = rs; members = l.members; lines = l.lines }

abbrev pub with_members : Lists → List Member → Lists
with_members l ms = record { entities = l.entities; links = l.links; rights = l.rights; members = ms; lines = l.lines }

abbrev pub with_lines : Lists → List Line → Lists
with_lines l cs = record { entities = l.entities; links = l.links; rights = l.rights; members = l.members; lines = cs }

-- each table with a record placed in it, within the limit of a book
abbrev pub placed_link : Lists → Link → Result ℕ Code × List Link
placed_link l x = placed same_link 64 l.links x

abbrev pub placed_right : Lists → RightRecord → Result ℕ Code × List RightRecord
placed_right l x = placed same_right 256 l.rights x

abbrev pub placed_member : Lists → Member → Result ℕ Code × List Member
placed_member l x = placed same_member 128 l.members x

abbrev pub placed_line : Lists → Line → Result ℕ Code × List Line
placed_line l x = placed same_line 256 l.lines x

-- the record at a number with its option raised
abbrev pub raised_at : List RightRecord → Option RightRecord → ℕ → List RightRecord
raised_at rs None n = rs
raised_at rs (Some x) n = slice_set rs n (record { principal = x.principal; entity = x.entity; right = x.right; option = true })

-- where the option is granted, the record that stands at the number returned has it from then on
abbrev pub raised : Bool → Result ℕ Code → List RightRecord → List RightRecord
raised false answer rs = rs
raised true (Err c) rs = rs
raised true (Ok n) rs = raised_at rs (slice_get rs n) n

abbrev pub declared : Lists → ℕ → ℕ → ℕ → ℕ → Outcome
declared l k p o m =
    unless l (λ x. record { answer = Ok (length l.entities); lists = with_entities l (l.entities ++ x ∷ []) })
    (judged_entity l.entities k p o m)

abbrev pub linked : Lists → ℕ → ℕ → Outcome
linked l lower upper =
    unless l (λ x. record { answer = (placed_link l x).0; lists = with_links l (placed_link l x).1 })
    (judged_link l.entities l.links lower upper)

abbrev pub granted : Lists → ℕ → ℕ → ℕ → ℕ → Outcome
granted l p e a o =
    unless l (λ x. record { answer = (placed_right l x).0; lists = with_rights l (raised x.option (placed_right l x).0 (placed_right l x).1) })
    (judged_right l.entities p e a o)

abbrev pub joined : Lists → ℕ → ℕ → Outcome
joined l a r =
    unless l (λ x. record { answer = (placed_member l x).0; lists = with_members l (placed_member l x).1 })
    (judged_member l.entities a r)

abbrev pub lined : Lists → ObjectNumbers → ℕ → ObjectNumbers → Outcome
lined l x r y =
    unless l (λ c. record { answer = (placed_line l c).0; lists = with_lines l (placed_line l c).1 })
    (judged_line l.entities x r y)
