-- A step adds nothing where what it would add stands already.
use Rattle.std.proofs.Common.{ℕ, Bool, Decides, refl}
use mathlib.Core.List.Memᴰ
use Rattle.std.proofs.lemmas.Bool.Decides.{Decides-like}
use Rattle.access.specs.declared.rights.RightRecord.{RightRecord}
use Rattle.access.specs.declared.roles.Member.{Member}
use Rattle.access.specs.declared.code.Object.{Object}
use Rattle.access.specs.declared.code.Action.TheVariants.{Call, Grant, Join}
use Rattle.access.specs.Lists.{◌∈◌}
use Rattle.runs.specs.States.{State, Part, pair, acting, done}
use Rattle.lookup.proofs.Telling.{in_sub}

module _ (S : State) (r : Bool) where
  pub switch_told : (v : ℕ) → Decides r (v ∈ S.acted) → Decides r (Part (acting S v) S)
  switch_told v =
      Decides-like r
      (λ m. record { acted = in_sub m; rights = λ x i. i; members = λ x i. i; planted = λ x i. i; entered = λ x i. i })
      (λ p. p.acted v (Memᴰ.head refl))

  pub call_told : (y : Object) (w : ℕ) → Decides r (pair y w ∈ S.entered) → Decides r (Part (done S w (Call y)) S)
  call_told y w =
      Decides-like r
      (λ m. record { acted = λ x i. i; rights = λ x i. i; members = λ x i. i; planted = λ x i. i; entered = in_sub m })
      (λ p. p.entered (pair y w) (Memᴰ.head refl))

  pub grant_told : (g : RightRecord) (w : ℕ) → Decides r (g ∈ S.rights) → Decides r (Part (done S w (Grant g)) S)
  grant_told g w =
      Decides-like r
      (λ m. record { acted = λ x i. i; rights = in_sub m; members = λ x i. i; planted = λ x i. i; entered = λ x i. i })
      (λ p. p.rights g (Memᴰ.head refl))

  pub join_told : (j : Member) (w : ℕ) → Decides r (j ∈ S.members) → Decides r (Part (done S w (Join j)) S)
  join_told j w =
      Decides-like r
      (λ m. record { acted = λ x i. i; rights = λ x i. i; members = in_sub m; planted = λ x i. i; entered = λ x i. i })
      (λ p. p.members j (Memᴰ.head refl))
