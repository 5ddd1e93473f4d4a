-- What accounts hold and may grant where one right or the members of one role are new.
use Rattle.std.proofs.Common.{◌≡◌, ℕ, true, ◌⊎◌, List, [], ◌∷◌, sym, ap, refl, subst, inl, inr, ⊎_elim}
use mathlib.Core.List.Memᴰ
use Rattle.access.specs.declared.rights.Right.{Right}
use Rattle.access.specs.declared.rights.RightRecord.{RightRecord}
use Rattle.access.specs.declared.roles.Member.{Member}
use Rattle.access.specs.declared.code.Action.TheVariants.{Grant}
use Rattle.access.specs.Lists.{◌∈◌, Lists, public}
use Rattle.access.specs.Orders.{RoleBelow, Within}
use Rattle.catalogue.specs.Sound.{Sound}
use Rattle.runs.specs.States.{State, Sub, done}
use Rattle.runs.specs.Rights.{right_record, member_record, Has, by_record, CanGrant, by_option, InRole, as_anyone, as_member, Holds, MayGrant}
use Rattle.runs.proofs.RightLaws.{public_in}
use Rattle.holdings.specs.Told.{at_rest, HasBelow, CanBelow}

module _ {L : Lists} (s : Sound L) where
  -- one right more for everyone
  module _ (F : State) (d : ℕ) (new : Right) where
    abbrev Given : State
    Given = done F 0 (Grant (right_record public d new true))

    -- it is on the entity and on what is in it
    has_given : {q e : ℕ} {r : Right} → Has L Given q e r → Has L F q e r ⊎ ((r ≡ new) × Within L.entities e d)
    has_given {e = e} (by_record w (Memᴰ.head k)) =
        inr (ap (λ (g : RightRecord). g.right) k, subst (Within L.entities e) (ap (λ (g : RightRecord). g.entity) k) w)
    has_given (by_record w (Memᴰ.tail m)) = inl (by_record w m)
    has_given (Has.by_owning w o) = inl (Has.by_owning w o)

    can_given : {q e : ℕ} {r : Right} → CanGrant L Given q e r → CanGrant L F q e r ⊎ ((r ≡ new) × (e ≡ d))
    can_given (by_option (Memᴰ.head k)) = inr (ap (λ (g : RightRecord). g.right) k, ap (λ (g : RightRecord). g.entity) k)
    can_given (by_option (Memᴰ.tail m)) = inl (by_option m)
    can_given (CanGrant.by_owning w o) = inl (CanGrant.by_owning w o)

    in_given : {a q : ℕ} → InRole L Given a q → InRole L F a q
    in_given (as_anyone b) = as_anyone b
    in_given (as_member m b) = as_member m b

    pub holds_given : {a e : ℕ} {r : Right} → Holds L Given a e r → Holds L F a e r ⊎ ((r ≡ new) × Within L.entities e d)
    holds_given (Holds.itself k) = ⊎_elim (λ h. inl (Holds.itself h)) (λ w. inr w) (has_given k)
    holds_given (Holds.in_role i k) = ⊎_elim (λ h. inl (Holds.in_role (in_given i) h)) (λ w. inr w) (has_given k)

    pub may_given : {a e : ℕ} {r : Right} → MayGrant L Given a e r → MayGrant L F a e r ⊎ ((r ≡ new) × (e ≡ d))
    may_given (MayGrant.itself k) = ⊎_elim (λ h. inl (MayGrant.itself h)) (λ w. inr w) (can_given k)
    may_given (MayGrant.in_role i k) = ⊎_elim (λ h. inl (MayGrant.in_role (in_given i) h)) (λ w. inr w) (can_given k)

    pub given_holds : {a e : ℕ} {r : Right} → r ≡ new → Within L.entities e d → Holds L Given a e r
    given_holds {a} {e} k w = subst (Holds L Given a e) (sym k) (Holds.in_role (public_in L s Given a) (by_record w (Memᴰ.head refl)))

    pub given_may : {a e : ℕ} {r : Right} → r ≡ new → e ≡ d → MayGrant L Given a e r
    given_may {a} {e} {r} k w =
        subst (λ n. MayGrant L Given a n r) (sym w) (subst (MayGrant L Given a d) (sym k) (MayGrant.in_role (public_in L s Given a) (by_option (Memᴰ.head refl))))

-- these accounts put into role q
abbrev pub put : List ℕ → ℕ → List Member → List Member
put [] q ms = ms
put (v ∷ vs) q ms = member_record v q ∷ put vs q ms

abbrev pub putting : List ℕ → ℕ → State → State
putting vs q F = record { acted = F.acted; rights = F.rights; members = put vs q F.members; planted = F.planted; entered = F.entered }

pub put_old : (vs : List ℕ) (q : ℕ) {ms : List Member} → Sub ms (put vs q ms)
put_old [] q m h = h
put_old (v ∷ vs) q m h = Memᴰ.tail (put_old vs q m h)

pub put_new : (vs : List ℕ) (q : ℕ) (ms : List Member) {v : ℕ} → v ∈ vs → member_record v q ∈ put vs q ms
put_new [] q ms h = elim h [ ]
put_new (v ∷ vs) q ms (Memᴰ.head k) = Memᴰ.head (ap (λ w. member_record w q) k)
put_new (v ∷ vs) q ms (Memᴰ.tail h) = Memᴰ.tail (put_new vs q ms h)

pub put_from : (vs : List ℕ) (q : ℕ) {ms : List Member} {m : Member} → m ∈ put vs q ms → (m ∈ ms) ⊎ (m.role ≡ q)
put_from [] q h = inl h
put_from (v ∷ vs) q (Memᴰ.head k) = inr (ap (λ (m : Member). m.role) k)
put_from (v ∷ vs) q (Memᴰ.tail h) = put_from vs q h

-- the rights of the state are the catalogue's, and rights for everyone with the option
abbrev pub Public : Lists → State → Type 0
Public L F = (g : RightRecord) → g ∈ F.rights → (g ∈ L.rights) ⊎ (g ≡ right_record public g.entity g.right true)

module _ {L : Lists} (s : Sound L) (F : State) (p : Public L F) (below : Sub L.rights F.rights) (vs : List ℕ) (q : ℕ) where
  abbrev Joined : State
  Joined = putting vs q F

  -- what a principal has in the state it has at rest, or everyone has it
  has_rest : {n e : ℕ} {r : Right} → Has L F n e r → Has L (at_rest L) n e r ⊎ Has L F public e r
  has_rest {e = e} {r = r} (by_record {d = d} {o = o} w m) =
      ⊎_elim (λ k. inl (by_record w k)) (λ k. inr (by_record w (subst (λ g. g ∈ F.rights) k m))) (p _ m)
  has_rest (Has.by_owning w o) = inl (Has.by_owning w o)

  can_rest : {n e : ℕ} {r : Right} → CanGrant L F n e r → CanGrant L (at_rest L) n e r ⊎ CanGrant L F public e r
  can_rest (by_option m) = ⊎_elim (λ k. inl (by_option k)) (λ k. inr (by_option (subst (λ g. g ∈ F.rights) k m))) (p _ m)
  can_rest (CanGrant.by_owning w o) = inl (CanGrant.by_owning w o)

  has_before : {n e : ℕ} {r : Right} → Has L Joined n e r → Has L F n e r
  has_before (by_record w m) = by_record w m
  has_before (Has.by_owning w o) = Has.by_owning w o

  can_before : {n e : ℕ} {r : Right} → CanGrant L Joined n e r → CanGrant L F n e r
  can_before (by_option m) = by_option m
  can_before (CanGrant.by_owning w o) = CanGrant.by_owning w o

  -- the account was in the role before, or it is at or below the new one
  in_before : {a n : ℕ} → InRole L Joined a n → InRole L F a n ⊎ RoleBelow L.entities L.links n q
  in_before (as_anyone b) = inl (as_anyone b)
  in_before {n = n} (as_member m b) =
      ⊎_elim (λ h. inl (as_member h b)) (λ h. inr (subst (RoleBelow L.entities L.links n) h b)) (put_from vs q m)

  pub holds_joined : {a e : ℕ} {r : Right} → Holds L Joined a e r → Holds L F a e r ⊎ HasBelow L q e r
  holds_joined (Holds.itself k) = inl (Holds.itself (has_before k))
  holds_joined {a} (Holds.in_role {q = n} i k) =
      ⊎_elim
      (λ j. inl (Holds.in_role j (has_before k)))
      (λ b. ⊎_elim (λ h. inr (record { role = n; below = b; has = h })) (λ h. inl (Holds.in_role (public_in L s F a) h)) (has_rest (has_before k)))
      (in_before i)

  pub may_joined : {a e : ℕ} {r : Right} → MayGrant L Joined a e r → MayGrant L F a e r ⊎ CanBelow L q e r
  may_joined (MayGrant.itself k) = inl (MayGrant.itself (can_before k))
  may_joined {a} (MayGrant.in_role {q = n} i k) =
      ⊎_elim
      (λ j. inl (MayGrant.in_role j (can_before k)))
      (λ b. ⊎_elim (λ h. inr (record { role = n; below = b; can = h })) (λ h. inl (MayGrant.in_role (public_in L s F a) h)) (can_rest (can_before k)))
      (in_before i)

  has_later : {n e : ℕ} {r : Right} → Has L (at_rest L) n e r → Has L Joined n e r
  has_later (by_record w m) = by_record w (below _ m)
  has_later (Has.by_owning w o) = Has.by_owning w o

  can_later : {n e : ℕ} {r : Right} → CanGrant L (at_rest L) n e r → CanGrant L Joined n e r
  can_later (by_option m) = by_option (below _ m)
  can_later (CanGrant.by_owning w o) = CanGrant.by_owning w o

  pub joined_holds : {a e : ℕ} {r : Right} → a ∈ vs → HasBelow L q e r → Holds L Joined a e r
  joined_holds m h = Holds.in_role (as_member (put_new vs q F.members m) h.below) (has_later h.has)

  pub joined_may : {a e : ℕ} {r : Right} → a ∈ vs → CanBelow L q e r → MayGrant L Joined a e r
  joined_may m h = MayGrant.in_role (as_member (put_new vs q F.members m) h.below) (can_later h.can)
