-- An object has a slot of its own, and a record says what it notes.
use Rattle.std.proofs.Common.{◌≡◌, ℕ, zero, suc, ◌+◌, ◌*◌, ◌<◌, true, ◌&&◌, eqb, Decides, sym, refl, ap, ◌∙◌, arith}
use Rattle.std.proofs.lemmas.Bool.{and_parts, and_from, eqb-true, eq-eqb}
use Rattle.access.specs.declared.rights.Right.{Right}
use Rattle.access.specs.declared.rights.RightRecord.{RightRecord}
use Rattle.access.specs.declared.roles.Member.{Member}
use Rattle.access.specs.declared.code.Event.TheVariants.{Inserted, Updated, Deleted}
use Rattle.access.specs.declared.code.Object.{Object}
use Rattle.access.specs.declared.code.Object.TheVariants as object
use Rattle.access.specs.Lists.{public}
use Rattle.access.specs.Numbers.{right_number}
use Rattle.access.specs.Places.{place_of}
use Rattle.access.proofs.NumberLaws.{same_right}
use Rattle.runs.specs.declared.steps.Entry.{Entry}
use Rattle.runs.specs.States.{pair}
use Rattle.runs.specs.Rights.{right_record, member_record}
use Rattle.lookup.specs.Records.{opens, joins}
use Rattle.lookup.specs.Tables.{sort_number, slot_of}

pub sort_small : (x : Object) → sort_number x < 5
sort_small (object.Procedure e) = omega arith
sort_small (object.Triggers e Inserted) = omega arith
sort_small (object.Triggers e Updated) = omega arith
sort_small (object.Triggers e Deleted) = omega arith
sort_small (object.Created e) = omega arith

-- the object of a sort in a place
object_in : ℕ → ℕ → Object
object_in zero p = object.Procedure p
object_in (suc zero) p = object.Triggers p Inserted
object_in (suc (suc zero)) p = object.Triggers p Updated
object_in (suc (suc (suc zero))) p = object.Triggers p Deleted
object_in (suc (suc (suc (suc n)))) p = object.Created p

object_back : (x : Object) → object_in (sort_number x) (place_of x) ≡ x
unfolding object_in
object_back (object.Procedure e) = refl
object_back (object.Triggers e Inserted) = refl
object_back (object.Triggers e Updated) = refl
object_back (object.Triggers e Deleted) = refl
object_back (object.Created e) = refl

pub slot_sort : (p q s t : ℕ) → p < 96 → q < 96 → p + 96 * s ≡ q + 96 * t → s ≡ t
slot_sort p q s t h l e = omega arith

pub slot_small : (x : Object) → place_of x < 96 → slot_of x < 480
slot_small x h = omega (arith, sort_small x)

-- an object is known by its sort and its place
pub same_object : (x y : Object) → sort_number x ≡ sort_number y → place_of x ≡ place_of y → x ≡ y
same_object x y s p = sym (object_back x) ∙ ap (λ n. object_in n (place_of x)) s ∙ ap (object_in (sort_number y)) p ∙ object_back y

pub slot_same : (x y : Object) → place_of x < 96 → place_of y < 96 → slot_of x ≡ slot_of y → x ≡ y
slot_same x y h l e =
    let s : sort_number x ≡ sort_number y = slot_sort (place_of x) (place_of y) (sort_number x) (sort_number y) h l e in
    same_object x y s (omega arith)

pub entry_told : (n : Entry) (y : Object) (w : ℕ) → place_of n.object < 96 → place_of y < 96
    → Decides (eqb (slot_of n.object) (slot_of y) && eqb n.account w) (n ≡ pair y w)
entry_told n y w h l = (
  λ t. let (s, a) = and_parts _ _ t in
      ap (λ x. pair x n.account) (slot_same n.object y h l (eqb-true _ _ s)) ∙ ap (pair y) (eqb-true _ _ a),
  λ e. and_from _ _ (eq-eqb _ _ (ap (λ (m : Entry). slot_of m.object) e)) (eq-eqb _ _ (ap (λ (m : Entry). m.account) e)),
)

pub member_told : (j m : Member) → Decides (joins j.role j.account m) (j ≡ m)
member_told j m = (
  λ t. let (q, a) = and_parts _ _ t in
      ap (member_record j.account) (eqb-true _ _ q) ∙ ap (λ b. member_record b m.role) (eqb-true _ _ a),
  λ e. and_from _ _ (eq-eqb _ _ (ap (λ (k : Member). k.role) e)) (eq-eqb _ _ (ap (λ (k : Member). k.account) e)),
)

-- a record that gives everyone a right with the option
pub opened : (g : RightRecord) → g.principal ≡ public → g.option ≡ true → right_record public g.entity g.right true ≡ g
opened g p o = ap (λ q. right_record q g.entity g.right true) (sym p) ∙ ap (right_record g.principal g.entity g.right) (sym o)

pub right_told : (e : ℕ) (r : Right) (g : RightRecord) → Decides (opens e (right_number r) g) (right_record public e r true ≡ g)
right_told e r g = (
  λ t. let (a, b) = and_parts _ _ t in
      let (p, o) = and_parts _ _ a in
      let (n, k) = and_parts _ _ b in
      ap (λ d. right_record public d r true) (eqb-true _ _ n) ∙ ap (λ s. right_record public g.entity s true) (same_right r g.right (eqb-true _ _ k))
      ∙ opened g (eqb-true _ _ p) o,
  λ h. and_from _ _
      (and_from _ _ (eq-eqb _ _ (ap (λ (k : RightRecord). k.principal) (sym h))) (ap (λ (k : RightRecord). k.option) (sym h)))
      (and_from _ _ (eq-eqb _ _ (ap (λ (k : RightRecord). k.entity) h)) (eq-eqb _ _ (ap (λ (k : RightRecord). right_number k.right) h))),
)
