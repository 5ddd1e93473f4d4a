-- What lists keep, those of any catalogue and those of a book, can hold in one way only, so it comes out of a ghost field.
use Rattle.std.proofs.Common.{◌≡◌, ℕ, Bool, false, List, [], ◌∷◌, take, drop, refl}
use mathlib.Core.Logic.{∥∥₁_elim}
use native.Mathlib.Bridge.{le_prop}
use denote.Struct.Props.{props}
use base.Stored.{Coded-set, coded_list}
use Rattle.std.specs.List.{AllByRecursion-prop}
use Rattle.access.specs.declared.entities.Entity.{Entity}
use Rattle.access.specs.declared.roles.Link.{Link}
use Rattle.access.specs.contracts.entities.Entity.{the_row}
use Rattle.access.specs.Lists.{Lists, new_entities}
use Rattle.access.specs.Orders.{LinkFits}
use Rattle.catalogue.specs.Tables.{Once}
use Rattle.catalogue.specs.Alike.{same_link, same_right, same_member, same_line}
use Rattle.catalogue.specs.Sound.{TakesEntity, TakesRight, TakesMember, TakesLine, Declared, LinksStand, Listed, Filed, Sound, Kept}
use Rattle.access.proofs.Turns.{turn_prop}

once_prop : {X : Type 0} (alike : X → X → Bool) (xs : List X) → IsProp (Once alike xs)
once_prop alike [] p q = refl
once_prop alike (x ∷ xs) p q =
    λ i. (AllByRecursion-prop (λ y. alike x y ≡ false) (λ y. hlevel props) xs p.0 q.0 i, once_prop alike xs p.1 q.1 i)

first_prop : (es : List Entity) → IsProp (take 3 es ≡ new_entities)
first_prop es = Coded-set (coded_list the_row.coded) (take 3 es) new_entities

declared_prop : (es : List Entity) → IsProp (Declared es)
declared_prop es p q = λ i. record {
  first = first_prop es p.first q.first i;
  turns = turn_prop TakesEntity (λ b x. hlevel props) new_entities (drop 3 es) p.turns q.turns i;
}

links_prop : (es : List Entity) (links : List Link) → IsProp (LinksStand es links)
links_prop es links p q = λ i. record {
  linked = turn_prop (LinkFits es) (λ b k. hlevel props) [] links p.linked q.linked i;
  once = once_prop same_link links p.once q.once i;
  few = le_prop p.few q.few i;
}

filed_prop : {X : Type 0} (takes : X → Type 0) → ((x : X) → IsProp (takes x)) → (alike : X → X → Bool) (limit : ℕ) (xs : List X)
    → IsProp (Filed takes alike limit xs)
filed_prop takes h alike limit xs p q = λ i. record {
  fit = AllByRecursion-prop takes h xs p.fit q.fit i;
  once = once_prop alike xs p.once q.once i;
  few = le_prop p.few q.few i;
}

listed_prop : {X : Type 0} (takes : X → Type 0) → ((x : X) → IsProp (takes x)) → (xs : List X) → IsProp (Listed takes xs)
listed_prop takes h xs p q = λ i. record { fit = AllByRecursion-prop takes h xs p.fit q.fit i; few = le_prop p.few q.few i }

sound_prop : (l : Lists) → IsProp (Sound l)
sound_prop l p q = λ i. record {
  entities = declared_prop l.entities p.entities q.entities i;
  links = links_prop l.entities l.links p.links q.links i;
  rights = listed_prop (TakesRight l.entities) (λ x. hlevel props) l.rights p.rights q.rights i;
  members = listed_prop (TakesMember l.entities) (λ x. hlevel props) l.members p.members q.members i;
  lines = listed_prop (TakesLine l.entities) (λ x. hlevel props) l.lines p.lines q.lines i;
}

pub sound_out : (l : Lists) → ∥ Sound l ∥₁ → Sound l
sound_out l t = ∥∥₁_elim t (sound_prop l) (λ s. s)

kept_prop : (l : Lists) → IsProp (Kept l)
kept_prop l p q = λ i. record {
  entities = declared_prop l.entities p.entities q.entities i;
  links = links_prop l.entities l.links p.links q.links i;
  rights = filed_prop (TakesRight l.entities) (λ x. hlevel props) same_right 256 l.rights p.rights q.rights i;
  members = filed_prop (TakesMember l.entities) (λ x. hlevel props) same_member 128 l.members p.members q.members i;
  lines = filed_prop (TakesLine l.entities) (λ x. hlevel props) same_line 256 l.lines p.lines q.lines i;
}

pub kept_out : (l : Lists) → ∥ Kept l ∥₁ → Kept l
kept_out l t = ∥∥₁_elim t (kept_prop l) (λ k. k)
