-- What the tables and an extent say of rights is what a state that the extent shows has.
use Rattle.std.proofs.Common.{◌≡◌, ℕ, true, inl, inr, ⊎_elim}
use Rattle.std.proofs.lemmas.Bool.{or_cases, or_left, or_right}
use Rattle.access.specs.declared.entities.Kind.TheVariants.{Account}
use Rattle.access.specs.declared.rights.Right.{Right}
use Rattle.access.specs.Lists.{Lists}
use Rattle.access.specs.Numbers.{right_number}
use Rattle.grid.specs.Grids.{noted}
use Rattle.runs.specs.Standing.{Is}
use Rattle.runs.specs.States.{State}
use Rattle.runs.specs.Rights.{Holds, MayGrant}
use Rattle.holdings.specs.declared.tables.Holdings.{Holdings}
use Rattle.holdings.specs.Rows.{has, can}
use Rattle.holdings.specs.Told.{Told}
use Rattle.extent.specs.declared.extents.Extent.{Extent}
use Rattle.extent.specs.Tests.{held, may}
use Rattle.extent.specs.Shows.{Shows}
use Rattle.extent.specs.Growth.{Larger}

module _ {L : Lists} {h : Holdings} {s : Extent} {F : State} (told : Told L h) (shows : Shows L s F) {a : ℕ} (i : Is L Account a) (e : ℕ) (r : Right) where
  pub held_holds : held h s a (right_number r) e ≡ true → Holds L F a e r
  held_holds t =
      ⊎_elim (λ x. (shows.holds a e r i).1 (inl ((told.holds a e r i).0 x))) (λ x. (shows.holds a e r i).1 (inr x))
      (or_cases (has h.of_accounts a (right_number r) e) (noted s.holds.rows (right_number r) e) t)

  pub holds_held : Holds L F a e r → held h s a (right_number r) e ≡ true
  holds_held t =
      ⊎_elim
      (λ x. or_left (has h.of_accounts a (right_number r) e) (noted s.holds.rows (right_number r) e) ((told.holds a e r i).1 x))
      (λ x. or_right (has h.of_accounts a (right_number r) e) (noted s.holds.rows (right_number r) e) x)
      ((shows.holds a e r i).0 t)

  pub may_grants : may h s a (right_number r) e ≡ true → MayGrant L F a e r
  may_grants t =
      ⊎_elim (λ x. (shows.grants a e r i).1 (inl ((told.grants a e r i).0 x))) (λ x. (shows.grants a e r i).1 (inr x))
      (or_cases (can h.of_accounts a (right_number r) e) (noted s.grants.rows (right_number r) e) t)

  pub grants_may : MayGrant L F a e r → may h s a (right_number r) e ≡ true
  grants_may t =
      ⊎_elim
      (λ x. or_left (can h.of_accounts a (right_number r) e) (noted s.grants.rows (right_number r) e) ((told.grants a e r i).1 x))
      (λ x. or_right (can h.of_accounts a (right_number r) e) (noted s.grants.rows (right_number r) e) x)
      ((shows.grants a e r i).0 t)

-- what is held stays so while the extent grows
module _ {s t : Extent} (l : Larger s t) (h : Holdings) (a k e : ℕ) where
  pub held_larger : held h s a k e ≡ true → held h t a k e ≡ true
  held_larger x =
      ⊎_elim
      (λ y. or_left (has h.of_accounts a k e) (noted t.holds.rows k e) y)
      (λ y. or_right (has h.of_accounts a k e) (noted t.holds.rows k e) (l.holds k e y))
      (or_cases (has h.of_accounts a k e) (noted s.holds.rows k e) x)

  pub may_larger : may h s a k e ≡ true → may h t a k e ≡ true
  may_larger x =
      ⊎_elim
      (λ y. or_left (can h.of_accounts a k e) (noted t.grants.rows k e) y)
      (λ y. or_right (can h.of_accounts a k e) (noted t.grants.rows k e) (l.grants k e y))
      (or_cases (can h.of_accounts a k e) (noted s.grants.rows k e) x)

-- what was held before the extent grew is held in a state that it shows
module _ {L : Lists} {h : Holdings} {s t : Extent} {F : State} (told : Told L h) (l : Larger s t) (shows : Shows L t F) {a : ℕ} (i : Is L Account a) (e : ℕ) (r : Right) where
  pub held_later : held h s a (right_number r) e ≡ true → Holds L F a e r
  held_later x = held_holds told shows i e r (held_larger l h a (right_number r) e x)

  pub may_later : may h s a (right_number r) e ≡ true → MayGrant L F a e r
  may_later x = may_grants told shows i e r (may_larger l h a (right_number r) e x)
