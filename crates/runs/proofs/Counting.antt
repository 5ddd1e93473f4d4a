-- How many things can be of a sort, and so how much there is to add to a sound catalogue.
use Rattle.std.proofs.Common.{rules, ◌≡◌, ℕ, zero, suc, ◌+◌, ◌*◌, ◌≤◌, ◌==◌, Bool, true, false, cond, ◌⊎◌, List, [], ◌∷◌, ◌++◌, map, length, is_some, count_by, Some, None, Option, sym, refl, ap, ap₂, ◌∙◌, inl, inr, ⊎_elim, eq-eqb, le_trans, mul-le-mul, suc-mul, length-append, arith}
use Rattle.std.specs.Prelude.{⊤}
use Rattle.std.proofs.lemmas.Bool.{false≢true}
use Rattle.std.proofs.lemmas.List.{length-map}
use Rattle.std.proofs.lemmas.List.Sums.{sum_by-cons, count_by-le-length}
use Rattle.std.specs.List.{flat_map, slice_get}
use mathlib.Core.List.Memᴰ
use Rattle.access.specs.declared.entities.Kind.{Kind}
use Rattle.access.specs.declared.entities.Kind.TheVariants.{Container, Table, Procedure, Account, Role}
use Rattle.access.specs.declared.entities.Entity.{Entity}
use Rattle.access.specs.declared.rights.Right.{Right}
use Rattle.access.specs.declared.rights.Right.TheVariants as right
use Rattle.access.specs.declared.rights.RightRecord.{RightRecord}
use Rattle.access.specs.declared.code.Event.{Event}
use Rattle.access.specs.declared.code.Event.TheVariants as event
use Rattle.access.specs.declared.code.Object.{Object}
use Rattle.access.specs.declared.code.Object.TheVariants as object
use Rattle.access.specs.Numbers.{kind_number}
use Rattle.access.specs.Lists.{◌∈◌, Lists, public, passes, fits}
use Rattle.catalogue.specs.Judgements.{limit_of}
use Rattle.catalogue.specs.Sound.{Sound}
use Rattle.runs.specs.Standing.{Is, IsObject, a_procedure, a_trigger, created, Stands}
use Rattle.runs.specs.States.{pair}
use Rattle.runs.specs.Rights.{right_record, member_record}
use Rattle.runs.specs.Limits.{Distinct, none, one_more, Each, Opened, Limits}
use Rattle.runs.specs.Laws.{CountsAreLimits}
use Rattle.runs.proofs.Grounds.{is_fits, few, few_of}

-- A list without repetition is no longer than one that has its elements

module _ {A : Type 0} where
  -- a list without one of its elements, and with all others
  rest : {x : A} (ys : List A) → x ∈ ys → (zs : List A) × (length ys ≡ suc (length zs)) × ((y : A) → y ∈ ys → (y ≡ x → ⊥) → y ∈ zs)
  rest [] m = elim m [ ]
  rest (z ∷ zs) (Memᴰ.head e) = (zs, refl, λ y m ne. ⊎_elim (λ f. absurd (ne (f ∙ sym e))) (λ n. n) (Memᴰ.cases_cons m))
  rest (z ∷ zs) (Memᴰ.tail n) =
      let (us, l, k) = rest zs n in (z ∷ us, ap suc l, λ y m ne. ⊎_elim (λ f. Memᴰ.head f) (λ o. Memᴰ.tail (k y o ne)) (Memᴰ.cases_cons m))

  distinct_length : {xs : List A} (ys : List A) → Distinct xs → ((x : A) → x ∈ xs → x ∈ ys) → length xs ≤ length ys
  distinct_length ys none h = omega arith
  distinct_length ys (one_more {xs = xs} {x = x} d new) h =
      let (zs, l, k) = rest ys (h x (Memᴰ.head refl)) in
      omega (arith, l, distinct_length zs d (λ y m. k y (h y (Memᴰ.tail m)) (λ e. new (Memᴰ.cast (sym e) m))))

-- at most n are P: a list no longer than n has them all
record AtMost {A : Type 0} (n : ℕ) (P : A → Type 0) : Type 0 where
  pub items : List A
  pub long : length items ≤ n
  pub all : (x : A) → P x → x ∈ items

short : {A : Type 0} {n : ℕ} {P : A → Type 0} → AtMost n P → (xs : List A) → Distinct xs → Each P xs → length xs ≤ n
short c xs d h = le_trans (distinct_length c.items d (λ x m. c.all x (h x m))) c.long

-- Pairs, images and unions

module _ {A B C : Type 0} (f : A → B → C) where
  products : List A → List B → List C
  products xs ys = flat_map (λ x. map (f x) ys) xs

  length-products : (xs : List A) (ys : List B) → length (products xs ys) ≡ length xs * length ys
  unfolding products
  length-products [] ys = omega arith
  length-products (x ∷ xs) ys =
      omega (arith, length-append (map (f x) ys) (products xs ys), length-map ys (f x), length-products xs ys, suc-mul (length xs) (length ys))

  in_products : {x : A} {y : B} {xs : List A} {ys : List B} → x ∈ xs → y ∈ ys → f x y ∈ products xs ys
  unfolding products
  in_products {y = y} {ys = ys} (Memᴰ.head {x = z} {xs = zs} e) n = Memᴰ.append_left (products zs ys) (Memᴰ.cast (ap (λ a. f a y) e) (Memᴰ.map (f z) n))
  in_products {ys = ys} (Memᴰ.tail {x = z} m) n = Memᴰ.append_right (map (f z) ys) (in_products m n)

  pairs_few : {m n : ℕ} {P : A → Type 0} {Q : B → Type 0} {R : C → Type 0} → AtMost m P → AtMost n Q
      → ((z : C) → R z → (x : A) × (y : B) × P x × Q y × (z ≡ f x y)) → AtMost (m * n) R
  pairs_few p q split = record {
    items = products p.items q.items;
    long = omega (arith, length-products p.items q.items, mul-le-mul p.long q.long);
    all = λ z r. let (x, y, a, b, e) = split z r in Memᴰ.cast e (in_products (p.all x a) (q.all y b));
  }

image_few : {A B : Type 0} {n : ℕ} {P : A → Type 0} {R : B → Type 0} (f : A → B) → AtMost n P
    → ((z : B) → R z → (x : A) × P x × (z ≡ f x)) → AtMost n R
image_few f p split = record {
  items = map f p.items;
  long = omega (arith, length-map p.items f, p.long);
  all = λ z r. let (x, a, e) = split z r in Memᴰ.cast e (Memᴰ.map f (p.all x a));
}

either_few : {A : Type 0} {m n : ℕ} {P Q R : A → Type 0} → AtMost m P → AtMost n Q → ((z : A) → R z → P z ⊎ Q z) → AtMost (m + n) R
either_few p q split = record {
  items = p.items ++ q.items;
  long = omega (arith, length-append p.items q.items, p.long, q.long);
  all = λ z r. ⊎_elim (λ a. Memᴰ.append_left q.items (p.all z a)) (λ b. Memᴰ.append_right p.items (q.all z b)) (split z r);
}

fewer : {A : Type 0} {m n : ℕ} {P Q : A → Type 0} → AtMost m P → m ≤ n → ((x : A) → Q x → P x) → AtMost n Q
fewer p h within = record { items = p.items; long = le_trans p.long h; all = λ x q. p.all x (within x q) }

-- How many there are in a sound catalogue

first_few : (b : Bool) → AtMost (cond b 1 0) (λ (e : ℕ). (e ≡ 0) × (b ≡ true))
first_few true = record { items = 0 ∷ []; long = omega arith; all = λ x h. Memᴰ.head h.0 }
first_few false = record { items = []; long = omega arith; all = λ x h. absurd (false≢true h.1) }

fits_split : (test : Kind → Bool) (x : Entity) (xs : List Entity) (e : ℕ) → fits test (x ∷ xs) e ≡ true
    → ((e ≡ 0) × (test x.kind ≡ true)) ⊎ ((n : ℕ) × (fits test xs n ≡ true) × (e ≡ suc n))
fits_split test x xs zero h = inl (refl, h)
fits_split test x xs (suc n) h = inr (n, h, refl)

fits_few : (test : Kind → Bool) (es : List Entity) → AtMost (count_by (λ x. test x.kind) es) (λ e. fits test es e ≡ true)
fits_few test [] = record { items = []; long = omega arith; all = λ e h. absurd (false≢true h) }
fits_few test (x ∷ xs) =
    let counted = sum_by-cons (λ y. cond (test y.kind) 1 0) x xs in
    let later = image_few suc (fits_few test xs) (λ e h. h) in
    fewer (either_few (first_few (test x.kind)) later (fits_split test x xs)) (omega (arith, counted)) (λ e h. h)

right_few : AtMost 7 (λ (r : Right). ⊤)
right_few = record {
  items = right.Select ∷ right.Insert ∷ right.Update ∷ right.Delete ∷ right.Alter ∷ right.Execute ∷ right.Impersonate ∷ [];
  long = omega arith;
  all = λ r h. search (rules, Memᴰ.head, Memᴰ.tail);
}

event_few : AtMost 3 (λ (e : Event). ⊤)
event_few = record {
  items = event.Inserted ∷ event.Updated ∷ event.Deleted ∷ [];
  long = omega arith;
  all = λ e h. search (rules, Memᴰ.head, Memᴰ.tail);
}

module _ (L : Lists) (s : Sound L) where
  kind_few : (k : Kind) → AtMost (limit_of k) (Is L k)
  kind_few k =
      let test : Kind → Bool = λ j. kind_number j == kind_number k in
      fewer (fits_few test L.entities) (few_of L s k) (λ e i. is_fits L test (eq-eqb _ _ refl) i)

  any_kind : (o : Option Entity) → is_some o ≡ true → passes (λ k. true) o ≡ true
  any_kind None h = h
  any_kind (Some x) h = refl

  stands_few : AtMost 96 (Stands L)
  stands_few =
      let all : count_by (λ (x : Entity). true) L.entities ≤ 96 = le_trans (count_by-le-length (λ x. true) L.entities) (few L s) in
      fewer (fits_few (λ k. true) L.entities) all (λ e h. any_kind (slice_get L.entities e) h)

  abbrev OfProcedure : Object → Type 0
  OfProcedure x = (e : ℕ) × Is L Procedure e × (x ≡ object.Procedure e)

  abbrev OfTable : Object → Type 0
  OfTable x = (e : ℕ) × (a : Event) × Is L Table e × ⊤ × (x ≡ object.Triggers e a)

  abbrev OfContainer : Object → Type 0
  OfContainer x = (e : ℕ) × Is L Container e × (x ≡ object.Created e)

  object_split : (x : Object) → IsObject L x → (OfProcedure x ⊎ OfTable x) ⊎ OfContainer x
  object_split x (a_procedure {e = e} i) = inl (inl (e, i, refl))
  object_split x (a_trigger {e = e} {event = a} i) = inl (inr (e, a, i, tt, refl))
  object_split x (created {e = e} i h) = inr (e, i, refl)

  -- 32 procedures, three events of each of 16 tables, and 16 containers
  object_few : AtMost 96 (IsObject L)
  object_few =
      let procedures : AtMost 32 OfProcedure = image_few object.Procedure (kind_few Procedure) (λ x h. h) in
      let triggers : AtMost 48 OfTable = pairs_few object.Triggers (kind_few Table) event_few (λ x h. h) in
      let containers : AtMost 16 OfContainer = image_few object.Created (kind_few Container) (λ x h. h) in
      either_few (either_few procedures triggers (λ x h. h)) containers object_split

  opened_one : (g : RightRecord) → Opened L g → g ≡ right_record public g.entity g.right true
  opened_one g o = ap₂ (λ p b. right_record p g.entity g.right b) o.principal o.option

  limits : Limits L
  limits =
      let accounts = kind_few Account in record {
        acted = short accounts;
        grants = short (pairs_few (λ e r. right_record public e r true) stands_few right_few (λ g o. (g.entity, g.right, o.stands, tt, opened_one g o)));
        joins = short (pairs_few member_record accounts (kind_few Role) (λ m j. (m.account, m.role, j.account, j.role, refl)));
        entered = short (pairs_few pair object_few accounts (λ n j. (n.object, n.account, j.object, j.account, refl)));
      }

pub counts_are_limits : CountsAreLimits
counts_are_limits = limits
