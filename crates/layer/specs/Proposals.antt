-- What proposals add to the lists below them, and what comes of proposing and withdrawing.
use Rattle.std.specs.Prelude.{ℕ, ◌-◌, cond, ◌&&◌, List, [], ◌∷◌, ◌++◌, length, take, Some, None, Ok, Err, Option, Result, nat_lt}
use Rattle.std.specs.List.{filter_map}
use Rattle.access.specs.declared.refusals.Refusal.TheVariants.{Full}
use Rattle.access.specs.declared.rights.RightRecord.{RightRecord}
use Rattle.access.specs.declared.roles.Member.{Member}
use Rattle.access.specs.Codes.{Code, code}
use Rattle.access.specs.Lists.{Lists}
use Rattle.catalogue.specs.Judgements.{judged_right, judged_member}
use Rattle.layer.specs.declared.proposals.Proposal.{Proposal}
use Rattle.layer.specs.declared.proposals.Proposal.TheVariants as proposal

abbrev pub right_in : Proposal → Option RightRecord
right_in (proposal.Right x) = Some x
right_in (proposal.Member x) = None

abbrev pub member_in : Proposal → Option Member
member_in (proposal.Right x) = None
member_in (proposal.Member x) = Some x

-- the records of one kind, in their order
abbrev pub rights_of : List Proposal → List RightRecord
rights_of ps = filter_map right_in ps

abbrev pub members_of : List Proposal → List Member
members_of ps = filter_map member_in ps

-- a layer's own records, by list
abbrev pub own : List Proposal → Lists
own ps = record { entities = []; links = []; rights = rights_of ps; members = members_of ps; lines = [] }

-- the lists below, each with the proposals of that kind after it
abbrev pub over : Lists → List Proposal → Lists
over l ps = record {
  entities = l.entities;
  links = l.links;
  rights = l.rights ++ rights_of ps;
  members = l.members ++ members_of ps;
  lines = l.lines;
}

-- what a proposal returned, and the proposals after it
pub record Reply : Type 0 where
  pub answer : Result ℕ Code
  pub proposals : List Proposal

-- a proposal comes into a place of its own, where there is room among the proposals and in its list, which has `count` records
abbrev pub added : ℕ → List Proposal → Proposal → Reply
added count ps p =
    cond (nat_lt (length ps) 16 && nat_lt count 4096) (record { answer = Ok (length ps); proposals = ps ++ p ∷ [] })
    (record { answer = Err (code Full); proposals = ps })

-- a record that is not taken changes nothing
abbrev pub taken : {X : Type 0} → ℕ → List Proposal → (X → Proposal) → Result X Code → Reply
taken count ps kind (Err c) = record { answer = Err c; proposals = ps }
taken count ps kind (Ok x) = added count ps (kind x)

abbrev pub proposed_right : Lists → List Proposal → ℕ → ℕ → ℕ → ℕ → Reply
proposed_right l ps p e a o =
    taken (length (over l ps).rights) ps proposal.Right (judged_right (over l ps).entities p e a o)

abbrev pub proposed_member : Lists → List Proposal → ℕ → ℕ → Reply
proposed_member l ps a r =
    taken (length (over l ps).members) ps proposal.Member (judged_member (over l ps).entities a r)

-- all proposals but the latest
abbrev pub withdrawn : List Proposal → List Proposal
withdrawn ps = take (length ps - 1) ps
