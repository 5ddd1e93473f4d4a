-- What any list of changes to a layer over a book comes to, from their arguments alone.
use Rattle.std.specs.Prelude.{◌≡◌, ℕ, Bool, ◌⊎◌, List, length, fold, Result, nat_lt}
use Rattle.std.proofs.Common.{inl, inr}
use Rattle.access.specs.Codes.{Code, coded}
use Rattle.access.specs.Lists.{Lists}
use Rattle.catalogue.specs.Calls.{Outcome}
use Rattle.catalogue.specs.Sound.{Sound}
use Rattle.book.specs.Gathered.{called}
use Rattle.layer.specs.declared.proposals.Proposal.{Proposal}
use Rattle.layer.specs.declared.changes.Change.{Change}
use Rattle.layer.specs.declared.changes.Change.TheVariants as change
use Rattle.layer.specs.declared.changes.Response.{Response}
use Rattle.layer.specs.declared.changes.Response.TheVariants as response
use Rattle.layer.specs.Proposals.{Reply, proposed_right, proposed_member, withdrawn}
use Rattle.layer.specs.Stands.{Stand, meant, new_stand}

-- what a response says: a number or a refusal, or whether there was a proposal to take back
abbrev pub said : Response → Result ℕ Code ⊎ Bool
said (response.Answered answer) = inl (coded answer)
said (response.Withdrawn had) = inr had

-- what a change returned, and what the layer and the book hold after it
pub record Effect : Type 0 where
  pub response : Result ℕ Code ⊎ Bool
  pub stand : Stand

abbrev built : List Proposal → Outcome → Effect
built ps o = record { response = inl o.answer; stand = record { lists = o.lists; proposals = ps } }

abbrev proposed : Lists → Reply → Effect
proposed l r = record { response = inl r.answer; stand = record { lists = l; proposals = r.proposals } }

-- one change to what stands
abbrev pub changed : Stand → Change → Effect
changed s (change.Build call) = built s.proposals (called s.lists call)
changed s (change.ProposeRight x) = proposed s.lists (proposed_right s.lists s.proposals x.principal x.entity x.right x.option)
changed s (change.ProposeMember x) = proposed s.lists (proposed_member s.lists s.proposals x.account x.role)
changed s change.Withdraw = record {
  response = inr (nat_lt 0 (length s.proposals));
  stand = record { lists = s.lists; proposals = withdrawn s.proposals };
}

-- a new layer over a new book after all the changes, each to what those before it left
abbrev pub stand_after : List Change → Stand
stand_after changes = fold (λ s c. (changed s c).stand) new_stand changes

-- what stands is what the changes put together, and its meaning is sound
pub record Gathered (stand : Stand) (changes : List Change) : Type 0 where
  pub gathered : stand ≡ stand_after changes
  pub sound : Sound (meant stand)
