-- Who counts as an account, from a row of marks.
use Rattle.std.proofs.Common.{◌≡◌, ℕ, ◌<◌, ◌≤◌, Bool, true, false, ◌&&◌, ◌||◌, eqb, ltb, List, Decides, sym, refl, ap, ◌∙◌, subst, ⊎_elim, arith}
use mathlib.Core.List.Memᴰ
use Rattle.std.specs.List.{list_any}
use Rattle.std.proofs.lemmas.Bool.{both_ways, or_cases, or_left, or_right, and_parts, and_from, eqb-true, eq-eqb, cases_lt}
use Rattle.access.specs.declared.roles.Member.{Member}
use Rattle.access.specs.Lists.{◌∈◌, Lists, public}
use Rattle.access.specs.Orders.{RoleBelow}
use Rattle.order.specs.Spreads.{Carried}
use Rattle.order.proofs.TreeLaws.{below_stands}
use Rattle.catalogue.specs.Sound.{Sound}
use Rattle.runs.specs.Rights.{member_record}
use Rattle.runs.proofs.Grounds.{is_stands, few}
use Rattle.runs.proofs.Ordering.{two_orders}
use Rattle.session.specs.Marks.{marks_role}
use Rattle.session.specs.Rowed.{AsOne}
use Rattle.lookup.proofs.Telling.{any_gives, any_from}

-- roles have numbers below 96
pub roles_small : (L : Lists) → Sound L → {q r : ℕ} → RoleBelow L.entities L.links q r → (q < 96) × (r < 96)
roles_small L s {q} {r} b =
    let two = (two_orders L s).0.between q r b in
    let most = few L s in
    let low = below_stands L.entities q (is_stands L two.0) in
    let high = below_stands L.entities r (is_stands L two.1) in
    (omega arith, omega arith)

module _ (a x : ℕ) where
  role_gives : (ms : List Member) → list_any (marks_role a x 0) ms ≡ true → member_record a x ∈ ms
  role_gives ms e =
      let (m, i, t) = any_gives (marks_role a x 0) ms e in
      let p = and_parts (eqb m.account a) (eqb x m.role) (and_parts (eqb m.account a && eqb x m.role) _ t).0 in
      let q : m.account ≡ a = eqb-true _ _ p.0 in
      let r : x ≡ m.role = eqb-true _ _ p.1 in
      Memᴰ.cast (ap (λ (v : ℕ). member_record v x) (sym q) ∙ ap (member_record m.account) r) i

  role_from : (ms : List Member) → member_record a x ∈ ms → list_any (marks_role a x 0) ms ≡ true
  role_from ms i = any_from (marks_role a x 0) i (and_from _ _ (and_from _ _ (eq-eqb a a refl) (eq-eqb x x refl)) refl)

module _ (L : Lists) (s : Sound L) (a : ℕ) (ms : List Member) (base row who : ℕ → ℕ → Bool)
    (marks : (x : ℕ) → x < 96 → base x 0 ≡ ((eqb x public && ltb 0 7) || list_any (marks_role a x 0) ms))
    (spreads : (x : ℕ) → x < 96 → Decides (row x 0) (Carried (RoleBelow L.entities L.links) base 96 x 0))
    (here : (q : ℕ) → who q 0 ≡ (row q 0 || eqb q a))
    (past : (q : ℕ) → 96 ≤ q → who q 0 ≡ false) where
  from_row : (q : ℕ) → Carried (RoleBelow L.entities L.links) base 96 q 0 → AsOne L ms a q
  from_row q c =
      ⊎_elim
      (λ e. AsOne.as_anyone (subst (RoleBelow L.entities L.links q) (eqb-true c.from public (and_parts (eqb c.from public) _ e).0) c.over))
      (λ m. AsOne.as_member (role_gives a c.from ms m) c.over)
      (or_cases (eqb c.from public && ltb 0 7) _ (sym (marks c.from c.small) ∙ c.has))

  who_gives : (q : ℕ) → q < 96 → who q 0 ≡ true → AsOne L ms a q
  who_gives q h t =
      ⊎_elim
      (λ r. from_row q ((spreads q h).0 r))
      (λ e. subst (AsOne L ms a) (sym (eqb-true q a e)) AsOne.itself)
      (or_cases (row q 0) _ (sym (here q) ∙ t))

  -- a mark at a role is seen below it
  below_mark : {q r : ℕ} → RoleBelow L.entities L.links q r → ((eqb r public && ltb 0 7) || list_any (marks_role a r 0) ms) ≡ true → who q 0 ≡ true
  below_mark {q} {r} b m =
      let two = roles_small L s b in
      here q ∙ or_left _ _ ((spreads q two.0).1 (record { from = r; small = two.1; over = b; has = marks r two.1 ∙ m }))

  who_from : (q : ℕ) → AsOne L ms a q → who q 0 ≡ true
  who_from q AsOne.itself = here q ∙ or_right (row q 0) _ (eq-eqb q q refl)
  who_from q (AsOne.as_anyone b) = below_mark b refl
  who_from q (AsOne.as_member {s = r} m b) = below_mark b (or_right (eqb r public && ltb 0 7) _ (role_from a r ms m))

  -- the row marks exactly the account and the roles that it is in
  pub who_told : (q : ℕ) → Decides (who q 0) (AsOne L ms a q)
  who_told q =
      (λ t. ⊎_elim (λ (h : q < 96). who_gives q h t) (λ (h : 96 ≤ q). absurd (both_ways _ (past q h) t)) (cases_lt q 96), who_from q)
