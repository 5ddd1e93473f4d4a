-- What two sets have in common, what has an owner in common with a set, and what is left of a set.
use Rattle.std.proofs.Common.{◌≡◌, ℕ, ◌+◌, ◌*◌, ◌^◌, ◌<◌, Bool, true, false, not, ◌&&◌, ◌||◌, eqb, Some, Decides, ◌⊎◌, inl, inr, sym, ap, ◌∙◌, ⊎_elim, arith}
use mir.Syntax.{w128}
use Rattle.std.specs.Int.{trailing_zeros}
use Rattle.std.proofs.lemmas.Bool.{both_ways, and_from, and_parts, or_cases, or_left, or_right, or_from, not-true, eq-eqb, ne_eqb, cases_eq, cases_Bool}
use Rattle.access.specs.declared.code.Object.{Object}
use Rattle.access.specs.Bits.{bit}
use Rattle.access.specs.Lists.{Lists}
use Rattle.access.specs.Places.{place_of}
use Rattle.access.proofs.SetLaws.{bit_zero}
use Rattle.grid.specs.Grids.{noted}
use Rattle.lookup.specs.Tables.{sort_number}
use Rattle.order.specs.Taken.{TakesBit}
use Rattle.order.proofs.TakenLaws.{takes}
use Rattle.runs.specs.Standing.{Owns}
use Rattle.holdings.specs.declared.tables.Holdings.{Holdings}
use Rattle.holdings.specs.Told.{Told}
use Rattle.extent.specs.declared.extents.Extent.{Extent}
use Rattle.extent.specs.Tests.{entry}
use Rattle.extent.specs.Turns.{Peers}
use Rattle.extent.proofs.Filling.{left_still}
use Rattle.holdings.proofs.Entering.{object_of}

-- a set that is not empty has a number
pub some_bit : (n : ℕ) → n < 2 ^ 128 → (n ≡ 0 → ⊥) → (v : ℕ) × (bit n v ≡ true)
some_bit n h some = ⊎_elim (λ e. absurd (some e)) (λ ne. (trailing_zeros w128 n, (takes n (omega arith) h).0)) (cases_eq n 0)

pub no_bit : (n v : ℕ) → n ≡ 0 → bit n v ≡ false
no_bit n v e = ap (λ (m : ℕ). bit m v) e ∙ bit_zero v

-- what is in both of two sets, if there is anything
pub meets : (n a b : ℕ) → n < 2 ^ 128 → ((v : ℕ) → bit n v ≡ (bit a v && bit b v)) → Decides (not (eqb n 0)) ((v : ℕ) × (bit a v ≡ true) × (bit b v ≡ true))
meets n a b h e = ⊎_elim
    (λ z. (λ t. absurd (both_ways _ (ap not (eq-eqb n 0 z)) t), λ (v, p, q). absurd (both_ways _ (no_bit n v z) (e v ∙ and_from _ _ p q))))
    (λ ne. (λ _. let (v, t) = some_bit n h ne in let (p, q) = and_parts _ _ (sym (e v) ∙ t) in (v, p, q), λ _. ap not (ne_eqb n 0 ne)))
    (cases_eq n 0)

-- what has an owner in common with one of a set
module _ (L : Lists) (set : ℕ) where
  abbrev pub PeerOf : ℕ → Type 0
  PeerOf d = (e : ℕ) × (bit set e ≡ true) × Peers L e d

  -- all that an owner owns is there, if it owns one of the set
  abbrev pub Shared : ℕ → ℕ → Type 0
  Shared all o = (d e : ℕ) → Owns L o d → Owns L o e → bit set e ≡ true → bit all d ≡ true

  module _ {h : Holdings} (told : Told L h) (owner owned : ℕ) (row : (d : ℕ) → bit owned d ≡ noted h.owned.rows owner d) where
    pub owned_told : (d : ℕ) → Decides (bit owned d) (Owns L owner d)
    owned_told d = (λ t. (told.owned owner d).0 (sym (row d) ∙ t), λ o. row d ∙ (told.owned owner d).1 o)

    module _ (all next : ℕ) (more : (d : ℕ) → bit next d ≡ (bit all d || bit owned d)) where
      pub peers_more : (v : ℕ) × (bit owned v ≡ true) × (bit set v ≡ true) → ((d : ℕ) → bit all d ≡ true → PeerOf d) → (d : ℕ) → bit next d ≡ true → PeerOf d
      peers_more (v, p, q) before d t = ⊎_elim (before d)
          (λ o. (v, q, record { owner = owner; first = (owned_told v).0 p; second = (owned_told d).0 o }))
          (or_cases _ _ (sym (more d) ∙ t))

      pub shared_more : Shared next owner
      shared_more d e o p q = more d ∙ or_right (bit all d) _ ((owned_told d).1 o)

      pub shared_later : (o : ℕ) → Shared all o → Shared next o
      shared_later o s d e p q t = more d ∙ or_left _ _ (s d e p q t)

    pub shared_none : (all : ℕ) → ((v : ℕ) × (bit owned v ≡ true) × (bit set v ≡ true) → ⊥) → Shared all owner
    shared_none all none d e o p q = absurd (none (e, (owned_told e).1 p, q))

-- what the row of an account and a sort tells of an object
pub entry_row : (s : Extent) (x : Object) (a sort e row : ℕ) → sort_number x ≡ sort → place_of x ≡ e → ((y : ℕ) → bit row y ≡ noted s.entered.rows (a + 96 * sort) y)
    → entry s x a ≡ bit row e
entry_row s x a sort e row n p r = ap (λ (k : ℕ). noted s.entered.rows (a + 96 * k) (place_of x)) n ∙ ap (λ (d : ℕ). noted s.entered.rows (a + 96 * sort) d) p ∙ sym (r e)

-- an account entered an object in a place of a set, by the row of the account and the object's sort
pub entered_there : (s : Extent) (a sort set row : ℕ) → sort < 5 → ((y : ℕ) → bit row y ≡ noted s.entered.rows (a + 96 * sort) y)
    → (v : ℕ) × (bit row v ≡ true) × (bit set v ≡ true) → (x : Object) × (entry s x a ≡ true) × (bit set (place_of x) ≡ true)
entered_there s a sort set row h r (v, p, q) =
    let (x, n, e) = object_of sort v h in
    (x, entry_row s x a sort v row n e r ∙ p, ap (bit set) e ∙ q)

-- once a number is taken from a set, what is left
module _ (rest y next : ℕ) (taken : TakesBit rest (Some y) next) where
  -- no number that is left is in a set that got only the one that was taken
  pub left_fresh : (old new : ℕ → Bool) → ((v : ℕ) → new v ≡ (old v || eqb v y)) → ((v : ℕ) → bit rest v ≡ true → old v ≡ false) → (v : ℕ) → bit next v ≡ true → new v ≡ false
  left_fresh old new more fresh v t =
      more v ∙ or_from _ _ (fresh v (left_still rest y next taken v t)) (not-true _ (and_parts (bit rest v) (not (eqb v y)) (sym (taken.1 v) ∙ t)).1)

-- what is in a set is in what is left of it without another, or in the other
pub left_or_other : (set other left : ℕ) → ((v : ℕ) → bit left v ≡ (bit set v && not (bit other v))) → (v : ℕ) → bit set v ≡ true
    → (bit left v ≡ true) ⊎ (bit other v ≡ true)
left_or_other set other left e v t = ⊎_elim (λ o. inr o) (λ f. inl (e v ∙ and_from _ _ t (ap not f))) (cases_Bool (bit other v))
