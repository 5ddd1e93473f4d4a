-- Lists with proposals after them: what stands where, and what the lists below keep.
use Rattle.std.proofs.Common.{◌≡◌, ℕ, zero, suc, ◌+◌, ◌-◌, ◌<◌, ◌≤◌, List, [], ◌∷◌, ◌++◌, length, refl, ap, ◌∙◌, arith, length-append}
use Rattle.std.specs.List.{slice_get, AllByRecursion}
use Rattle.access.specs.Lists.{Lists}
use Rattle.catalogue.specs.Counts.{count_of}
use Rattle.catalogue.specs.declared.names.ListName.{ListName}
use Rattle.catalogue.specs.declared.names.ListName.TheVariants.{Entities, Links, Rights, Members, Lines}
use Rattle.catalogue.specs.Sound.{TakesRight, TakesMember, Listed, Sound}
use Rattle.catalogue.proofs.Declaring.{entities_few}
use Rattle.layer.specs.declared.proposals.Proposal.{Proposal}
use Rattle.layer.specs.Proposals.{over, own, rights_of, members_of}

module _ {X : Type 0} where
  pub all_front : (P : X → Type 0) (xs ys : List X) → AllByRecursion P (xs ++ ys) → AllByRecursion P xs
  all_front P [] ys h = tt
  all_front P (x ∷ xs) ys h = (h.0, all_front P xs ys h.1)

  pub all_back : (P : X → Type 0) (xs ys : List X) → AllByRecursion P (xs ++ ys) → AllByRecursion P ys
  all_back P [] ys h = h
  all_back P (x ∷ xs) ys h = all_back P xs ys h.1

  pub nth_front : (xs ys : List X) (n : ℕ) → n < length xs → slice_get (xs ++ ys) n ≡ slice_get xs n
  nth_front [] ys n h = let no : ⊥ = omega arith in absurd no
  nth_front (x ∷ xs) ys zero h = refl
  nth_front (x ∷ xs) ys (suc n) h = nth_front xs ys n (omega arith)

  pub nth_back : (xs ys : List X) (n : ℕ) → length xs ≤ n → slice_get (xs ++ ys) n ≡ slice_get ys (n - length xs)
  nth_back [] ys n h = ap (slice_get ys) (omega arith)
  nth_back (x ∷ xs) ys zero h = let no : ⊥ = omega arith in absurd no
  nth_back (x ∷ xs) ys (suc n) h = nth_back xs ys n (omega arith) ∙ ap (slice_get ys) (omega arith)

  pub listed_front : (takes : X → Type 0) (xs ys : List X) → Listed takes (xs ++ ys) → Listed takes xs
  listed_front takes xs ys h = record {
    fit = all_front takes xs ys h.fit;
    few = let few = h.few in omega (arith, length-append xs ys);
  }

-- where the lists with proposals are sound, those below are
pub sound_below : (l : Lists) (ps : List Proposal) → Sound (over l ps) → Sound l
sound_below l ps s = record {
  entities = s.entities;
  links = s.links;
  rights = listed_front (TakesRight l.entities) l.rights (rights_of ps) s.rights;
  members = listed_front (TakesMember l.entities) l.members (members_of ps) s.members;
  lines = s.lines;
}

-- each list has the records below and the layer's own
pub count_over : (l : Lists) (ps : List Proposal) (list : ListName) → count_of (over l ps) list ≡ count_of l list + count_of (own ps) list
count_over l ps Entities = omega arith
count_over l ps Links = omega arith
count_over l ps Rights = length-append l.rights (rights_of ps)
count_over l ps Members = length-append l.members (members_of ps)
count_over l ps Lines = omega arith

pub count_few : (l : Lists) (list : ListName) → Sound l → count_of l list ≤ 4096
count_few l Entities s = omega (arith, entities_few l.entities s.entities)
count_few l Links s = omega (arith, s.links.few)
count_few l Rights s = s.rights.few
count_few l Members s = s.members.few
count_few l Lines s = s.lines.few
