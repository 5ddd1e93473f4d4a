-- Laws of who holds and may grant what: they grow with the state, and records for public with the option stand for any others.
use Rattle.std.proofs.Common.{ℕ, true, ◌⊎◌, inl, inr}
use Rattle.access.specs.declared.entities.Kind.TheVariants.{Account}
use Rattle.access.specs.declared.rights.Right.{Right}
use Rattle.access.specs.declared.rights.Right.TheVariants.{Impersonate}
use Rattle.access.specs.declared.rights.RightRecord.{RightRecord}
use Rattle.access.specs.Lists.{◌∈◌, Lists, public}
use Rattle.access.specs.Orders.{RoleBelow, Within}
use Rattle.order.proofs.TreeLaws.{within_stands}
use Rattle.catalogue.specs.Sound.{Sound}
use Rattle.runs.specs.Standing.{Is, Stands}
use Rattle.runs.specs.States.{State, Sub, Part}
use Rattle.runs.specs.Rights.{right_record, Has, by_record, CanGrant, by_option, InRole, as_anyone, as_member, Holds, MayGrant}
use Rattle.runs.proofs.Grounds.{is_stands, public_role, self_owned}

-- T has the records that S has
pub record Knows (S T : State) : Type 0 where
  pub rights : Sub S.rights T.rights
  pub members : Sub S.members T.members

module _ {L : Lists} {S T : State} (p : Knows S T) where
  has_more : {q e : ℕ} {r : Right} → Has L S q e r → Has L T q e r
  has_more (by_record w m) = by_record w (p.rights _ m)
  has_more (Has.by_owning w o) = Has.by_owning w o

  can_more : {q e : ℕ} {r : Right} → CanGrant L S q e r → CanGrant L T q e r
  can_more (by_option m) = by_option (p.rights _ m)
  can_more (CanGrant.by_owning w o) = CanGrant.by_owning w o

  in_more : {a q : ℕ} → InRole L S a q → InRole L T a q
  in_more (as_anyone b) = as_anyone b
  in_more (as_member m b) = as_member (p.members _ m) b

  pub holds_known : {a e : ℕ} {r : Right} → Holds L S a e r → Holds L T a e r
  holds_known (Holds.itself h) = Holds.itself (has_more h)
  holds_known (Holds.in_role i h) = Holds.in_role (in_more i) (has_more h)

  pub may_known : {a e : ℕ} {r : Right} → MayGrant L S a e r → MayGrant L T a e r
  may_known (MayGrant.itself h) = MayGrant.itself (can_more h)
  may_known (MayGrant.in_role i h) = MayGrant.in_role (in_more i) (can_more h)

part_knows : {S T : State} → Part S T → Knows S T
part_knows p = record { rights = p.rights; members = p.members }

pub holds_more : {L : Lists} {S T : State} → Part S T → {a e : ℕ} {r : Right} → Holds L S a e r → Holds L T a e r
holds_more p h = holds_known (part_knows p) h

pub may_more : {L : Lists} {S T : State} → Part S T → {a e : ℕ} {r : Right} → MayGrant L S a e r → MayGrant L T a e r
may_more p h = may_known (part_knows p) h

-- a right record is there, or everybody has its right with the option
pub data Granted (F : State) (g : RightRecord) : Type 0 where
  as_it_is : g ∈ F.rights → Granted F g
  to_all : right_record public g.entity g.right true ∈ F.rights → Granted F g

-- all that the records of S give, those of F give
pub record Gives (F S : State) : Type 0 where
  pub rights : (g : RightRecord) → g ∈ S.rights → Granted F g
  pub members : Sub S.members F.members

module _ (L : Lists) (s : Sound L) where
  pub public_in : (S : State) (a : ℕ) → InRole L S a public
  public_in S a = as_anyone (RoleBelow.itself (public_role L s))

  -- a right on v is open to all
  pub opened : (S : State) (a v : ℕ) (r : Right) → Stands L v → right_record public v r true ∈ S.rights → Holds L S a v r
  opened S a v r t m = Holds.in_role (public_in S a) (by_record (Within.itself t) m)

  -- every account holds and may grant impersonate on itself
  pub holds_self : (S : State) (v : ℕ) → Is L Account v → Holds L S v v Impersonate
  holds_self S v i = Holds.itself (Has.by_owning (Within.itself (is_stands L i)) (self_owned L s i))

  pub may_self : (S : State) (v : ℕ) → Is L Account v → MayGrant L S v v Impersonate
  may_self S v i = MayGrant.itself (CanGrant.by_owning (Within.itself (is_stands L i)) (self_owned L s i))

  module _ (F S : State) (i : Gives F S) where
    in_inside : {a q : ℕ} → InRole L S a q → InRole L F a q
    in_inside (as_anyone b) = as_anyone b
    in_inside (as_member m b) = as_member (i.members _ m) b

    -- a principal that has a right in S has it in F, or public has it there
    has_inside : {q e : ℕ} {r : Right} → Has L S q e r → Has L F q e r ⊎ Has L F public e r
    has_inside (by_record w m) = elim (i.rights _ m) [ as_it_is n ↦ inl (by_record w n) | to_all n ↦ inr (by_record w n) ]
    has_inside (Has.by_owning w o) = inl (Has.by_owning w o)

    can_inside : {q e : ℕ} {r : Right} → CanGrant L S q e r → CanGrant L F q e r ⊎ CanGrant L F public e r
    can_inside (by_option m) = elim (i.rights _ m) [ as_it_is n ↦ inl (by_option n) | to_all n ↦ inr (by_option n) ]
    can_inside (CanGrant.by_owning w o) = inl (CanGrant.by_owning w o)

    pub holds_inside : {a e : ℕ} {r : Right} → Holds L S a e r → Holds L F a e r
    holds_inside {a} (Holds.itself h) = elim (has_inside h) [ inl n ↦ Holds.itself n | inr n ↦ Holds.in_role (public_in F a) n ]
    holds_inside {a} (Holds.in_role b h) =
        elim (has_inside h) [ inl n ↦ Holds.in_role (in_inside b) n | inr n ↦ Holds.in_role (public_in F a) n ]

    pub may_inside : {a e : ℕ} {r : Right} → MayGrant L S a e r → MayGrant L F a e r
    may_inside {a} (MayGrant.itself h) = elim (can_inside h) [ inl n ↦ MayGrant.itself n | inr n ↦ MayGrant.in_role (public_in F a) n ]
    may_inside {a} (MayGrant.in_role b h) =
        elim (can_inside h) [ inl n ↦ MayGrant.in_role (in_inside b) n | inr n ↦ MayGrant.in_role (public_in F a) n ]

-- only on what stands is there a right
module _ {L : Lists} {S : State} where
  has_stands : {q e : ℕ} {r : Right} → Has L S q e r → Stands L e
  has_stands (by_record w m) = within_stands L.entities w
  has_stands (Has.by_owning w o) = within_stands L.entities w

  pub holds_stands : {a e : ℕ} {r : Right} → Holds L S a e r → Stands L e
  holds_stands (Holds.itself h) = has_stands h
  holds_stands (Holds.in_role i h) = has_stands h
