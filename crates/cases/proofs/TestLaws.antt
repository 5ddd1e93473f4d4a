-- What the tests say: of the combinators, and of equality.
use Rattle.std.proofs.Common.{◌≡◌, ℕ, zero, suc, ◌<◌, Bool, true, false, not, T, eqb, ◌⊎◌, List, [], ◌∷◌, map, refl, sym, ap, ◌∙◌, subst, inl, inr, arith, eqb→eq, not-suc-le-zero}
use mathlib.Core.List.Memᴰ
use Rattle.std.proofs.Math.Dec.{eqb_refl}
use Rattle.access.specs.declared.entities.Kind.{Kind}
use Rattle.access.specs.declared.entities.Kind.TheVariants as kind
use Rattle.access.specs.declared.entities.Mode.{Mode}
use Rattle.access.specs.declared.entities.Mode.TheVariants.{Creator, Parent}
use Rattle.access.specs.declared.rights.Right.{Right}
use Rattle.access.specs.declared.rights.RightRecord.{RightRecord}
use Rattle.access.specs.declared.roles.Member.{Member}
use Rattle.access.specs.declared.code.Event.TheVariants.{Inserted, Updated, Deleted}
use Rattle.access.specs.declared.code.Object.{Object}
use Rattle.access.specs.declared.code.Object.TheVariants as object
use Rattle.access.specs.declared.code.Runner.{Runner}
use Rattle.access.specs.declared.code.Runner.TheVariants as runner
use Rattle.access.specs.declared.code.Action.{Action}
use Rattle.access.specs.declared.code.Action.TheVariants as action
use Rattle.access.specs.declared.code.Line.{Line}
use Rattle.access.specs.Lists.{◌∈◌}
use Rattle.access.specs.Numbers.{kind_number, right_number}
use Rattle.access.specs.Places.{place_of}
use Rattle.access.proofs.NumberLaws.{same_right}
use Rattle.catalogue.specs.Judgements.{in_parent}
use Rattle.runs.specs.declared.steps.Entry.{Entry}
use Rattle.runs.specs.States.{pair}
use Rattle.runs.specs.Rights.{right_record, member_record}
use Rattle.cases.proofs.Deciding.{and_then, or_else, any, every, each, keep, only, upto, same_bool, alike_right, alike_object, alike_record, alike_member, alike_entry, alike_action, alike_line, shape, runner_code}

pub and_left : (b : Bool) (f : Unit {0} → Bool) → T (and_then b f) → T b
unfolding and_then
and_left true f h = tt
and_left false f h = h

pub and_right : (b : Bool) (f : Unit {0} → Bool) → T (and_then b f) → T (f tt)
unfolding and_then
and_right true f h = h
and_right false f h = absurd h

pub and_both : (b : Bool) (f : Unit {0} → Bool) → T b → T (f tt) → T (and_then b f)
unfolding and_then
and_both true f h k = k
and_both false f h k = h

pub or_cases : (b : Bool) (f : Unit {0} → Bool) → T (or_else b f) → T b ⊎ T (f tt)
unfolding or_else
or_cases true f h = inl h
or_cases false f h = inr h

pub or_left : (b : Bool) (f : Unit {0} → Bool) → T b → T (or_else b f)
unfolding or_else
or_left true f h = tt
or_left false f h = absurd h

pub or_right : (b : Bool) (f : Unit {0} → Bool) → T (f tt) → T (or_else b f)
unfolding or_else
or_right true f h = tt
or_right false f h = h

pub passes : {b : Bool} → b ≡ true → T b
passes e = subst T (sym e) tt

pub passed : (b : Bool) → T b → b ≡ true
passed true h = refl
passed false h = absurd h

-- some element passes
pub record Passing {A : Type 0} (f : A → Bool) (xs : List A) : Type 0 where
  pub it : A
  pub in_list : it ∈ xs
  pub passes : T (f it)

module _ {A : Type 0} where
  later : (f : A → Bool) (y : A) {xs : List A} → Passing f xs → Passing f (y ∷ xs)
  later f y s = record { it = s.it; in_list = Memᴰ.tail (s.in_list); passes = s.passes }

  pub any_some : (f : A → Bool) (xs : List A) → T (any f xs) → Passing f xs
  unfolding any
  any_some f [] h = absurd h
  any_some f (x ∷ xs) h =
      elim (or_cases _ _ h) [ inl p ↦ record { it = x; in_list = Memᴰ.head refl; passes = p } | inr p ↦ later f x (any_some f xs p) ]

  pub some_any : (f : A → Bool) (x : A) {xs : List A} → x ∈ xs → T (f x) → T (any f xs)
  unfolding any
  some_any f x (Memᴰ.head e) h = or_left _ _ (subst (λ y. T (f y)) e h)
  some_any f x (Memᴰ.tail m) h = or_right _ _ (some_any f x m h)

  pub every_at : (f : A → Bool) (xs : List A) → T (every f xs) → (x : A) → x ∈ xs → T (f x)
  unfolding every
  every_at f [] h x m = absurd (Memᴰ.not-nil m)
  every_at f (y ∷ ys) h x (Memᴰ.head e) = subst (λ z. T (f z)) (sym e) (and_left _ _ h)
  every_at f (y ∷ ys) h x (Memᴰ.tail m) = every_at f ys (and_right _ _ h) x m

  pub keep_cases : (b : Bool) (y : A) (ys : List A) (x : A) → x ∈ keep b y ys → (T b × (x ≡ y)) ⊎ (x ∈ ys)
  unfolding keep
  keep_cases true y ys x (Memᴰ.head e) = inl (tt, e)
  keep_cases true y ys x (Memᴰ.tail m) = inr m
  keep_cases false y ys x m = inr m

  pub keep_old : (b : Bool) (y : A) (ys : List A) (x : A) → x ∈ ys → x ∈ keep b y ys
  unfolding keep
  keep_old true y ys x m = Memᴰ.tail m
  keep_old false y ys x m = m

  pub keep_new : (b : Bool) (y : A) (ys : List A) → T b → y ∈ keep b y ys
  unfolding keep
  keep_new true y ys t = Memᴰ.head refl
  keep_new false y ys t = absurd t

  pub in_only : (f : A → Bool) (x : A) {xs : List A} → x ∈ xs → T (f x) → x ∈ only f xs
  unfolding only
  in_only f x (Memᴰ.head {x = y} {xs = ys} e) h = Memᴰ.cast e (keep_new (f y) y (only f ys) (subst (λ z. T (f z)) e h))
  in_only f x (Memᴰ.tail {x = y} {xs = ys} m) h = keep_old (f y) y (only f ys) x (in_only f x m h)

  pub only_in : (f : A → Bool) (xs : List A) (x : A) → x ∈ only f xs → (x ∈ xs) × T (f x)
  unfolding only
  only_in f [] x m = absurd (Memᴰ.not-nil m)
  only_in f (y ∷ ys) x m = elim (keep_cases (f y) y (only f ys) x m) [
    | inl p ↦ (Memᴰ.head (p.1), subst (λ z. T (f z)) (sym (p.1)) (p.0))
    | inr n ↦ (Memᴰ.tail (only_in f ys x n).0, (only_in f ys x n).1)
  ]

-- an element of what one element gives
pub record From {A B : Type 0} (f : A → List B) (xs : List A) (y : B) : Type 0 where
  pub it : A
  pub in_list : it ∈ xs
  pub gives : y ∈ f it

module _ {A B : Type 0} where
  pub in_each : (f : A → List B) (x : A) {xs : List A} (y : B) → x ∈ xs → y ∈ f x → y ∈ each f xs
  unfolding each
  in_each f x y (Memᴰ.head {x = z} {xs = zs} e) n = Memᴰ.append_left _ (subst (λ w. y ∈ f w) e n)
  in_each f x y (Memᴰ.tail {x = z} {xs = zs} m) n = Memᴰ.append_right (f z) (in_each f x y m n)

  pub each_in : (f : A → List B) (xs : List A) (y : B) → y ∈ each f xs → From f xs y
  unfolding each
  each_in f [] y m = absurd (Memᴰ.not-nil m)
  each_in f (x ∷ xs) y m = elim (Memᴰ.append_cases (f x) m) [
    | inl n ↦ record { it = x; in_list = Memᴰ.head refl; gives = n }
    | inr n ↦ let s : From f xs y = each_in f xs y n in record { it = s.it; in_list = Memᴰ.tail (s.in_list); gives = s.gives }
  ]

  pub in_map : (f : A → B) (x : A) {xs : List A} → x ∈ xs → f x ∈ map f xs
  in_map f x (Memᴰ.head e) = Memᴰ.head (ap f e)
  in_map f x (Memᴰ.tail m) = Memᴰ.tail (in_map f x m)

  pub map_in : (f : A → B) (xs : List A) (y : B) → y ∈ map f xs → (x : A) × (x ∈ xs) × (y ≡ f x)
  map_in f [] y m = absurd (Memᴰ.not-nil m)
  map_in f (x ∷ xs) y (Memᴰ.head e) = (x, Memᴰ.head refl, e)
  map_in f (x ∷ xs) y (Memᴰ.tail m) = let s = map_in f xs y m in (s.0, Memᴰ.tail (s.1), s.2)

pub equal_or_not : (m n : ℕ) → (T (eqb m n) × (m ≡ n)) ⊎ (T (not (eqb m n)) × ¬ (m ≡ n))
equal_or_not m n = go (eqb m n) refl
  where
    go : (b : Bool) → eqb m n ≡ b → (T (eqb m n) × (m ≡ n)) ⊎ (T (not (eqb m n)) × ¬ (m ≡ n))
    go true q = inl (passes q, eqb→eq m n (passes q))
    go false q = inr (subst (λ b. T (not b)) (sym q) tt, λ d. subst T (sym (passed (eqb n n) (eqb_refl n)) ∙ sym (ap (λ x. eqb x n) d) ∙ q) tt)

pub in_upto : (n e : ℕ) → e < n → e ∈ upto n
in_upto zero e h = absurd (not-suc-le-zero h)
in_upto (suc n) e h = elim (equal_or_not e n) [
  | inl p ↦ Memᴰ.head (p.1)
  | inr p ↦ let d : ¬ (e ≡ n) = p.1 in Memᴰ.tail (in_upto n e (omega arith))
]

-- equality
pub right_eq : (r s : Right) → T (alike_right r s) → r ≡ s
right_eq r s h = same_right r s (eqb→eq _ _ h)

code_kind : ℕ → Kind
code_kind zero = kind.Container
code_kind (suc zero) = kind.Table
code_kind (suc (suc zero)) = kind.Procedure
code_kind (suc (suc (suc zero))) = kind.Account
code_kind (suc (suc (suc (suc n)))) = kind.Role

kind_back : (k : Kind) → code_kind (kind_number k) ≡ k
unfolding code_kind
kind_back kind.Container = refl
kind_back kind.Table = refl
kind_back kind.Procedure = refl
kind_back kind.Account = refl
kind_back kind.Role = refl

pub kind_eq : (k j : Kind) → T (eqb (kind_number k) (kind_number j)) → k ≡ j
kind_eq k j h = sym (kind_back k) ∙ ap code_kind (eqb→eq _ _ h) ∙ kind_back j

pub mode_eq : (m : Mode) → T (in_parent m) → m ≡ Parent
mode_eq Creator h = absurd h
mode_eq Parent h = refl

rebuild : ℕ → ℕ → Object
rebuild zero o = object.Procedure o
rebuild (suc zero) o = object.Triggers o Inserted
rebuild (suc (suc zero)) o = object.Triggers o Updated
rebuild (suc (suc (suc zero))) o = object.Triggers o Deleted
rebuild (suc (suc (suc (suc n)))) o = object.Created o

rebuilt : (x : Object) → rebuild (shape x) (place_of x) ≡ x
unfolding rebuild
rebuilt (object.Procedure o) = refl
rebuilt (object.Triggers t Inserted) = refl
rebuilt (object.Triggers t Updated) = refl
rebuilt (object.Triggers t Deleted) = refl
rebuilt (object.Created c) = refl

pub object_eq : (x y : Object) → T (alike_object x y) → x ≡ y
object_eq x y h = sym (rebuilt x) ∙ ap (rebuild (shape x)) (eqb→eq (place_of x) (place_of y) (and_left _ _ h))
    ∙ ap (λ s. rebuild s (place_of y)) (eqb→eq (shape x) (shape y) (and_right _ _ h)) ∙ rebuilt y

pub object_same : (x : Object) → T (alike_object x x)
object_same x = and_both _ _ (eqb_refl (place_of x)) (eqb_refl (shape x))

bool_eq : (b c : Bool) → T (same_bool b c) → b ≡ c
bool_eq true true h = refl
bool_eq true false h = absurd h
bool_eq false true h = absurd h
bool_eq false false h = refl

pub record_eq : (g h : RightRecord) → T (alike_record g h) → g ≡ h
record_eq g h t =
    ap (λ x. right_record g.principal x g.right g.option) (eqb→eq g.entity h.entity (and_left _ _ t))
    ∙ ap (λ x. right_record g.principal h.entity x g.option) (right_eq g.right h.right (and_left _ _ (and_right _ _ t)))
    ∙ ap (λ x. right_record x h.entity h.right g.option) (eqb→eq g.principal h.principal (and_left _ _ (and_right _ _ (and_right _ _ t))))
    ∙ ap (right_record h.principal h.entity h.right) (bool_eq g.option h.option (and_right _ _ (and_right _ _ (and_right _ _ t))))

pub member_eq : (m n : Member) → T (alike_member m n) → m ≡ n
member_eq m n h = ap (λ x. member_record x m.role) (eqb→eq _ _ (and_left _ _ h)) ∙ ap (member_record n.account) (eqb→eq _ _ (and_right _ _ h))

pub entry_eq : (m n : Entry) → T (alike_entry m n) → m ≡ n
entry_eq m n h = ap (pair m.object) (eqb→eq _ _ (and_left _ _ h)) ∙ ap (λ x. pair x n.account) (object_eq _ _ (and_right _ _ h))

pub entry_same : (m : Entry) → T (alike_entry m m)
entry_same m = and_both _ _ (eqb_refl m.account) (object_same m.object)

code_runner : ℕ → Runner
code_runner zero = runner.Caller
code_runner (suc w) = runner.Account w

runner_back : (r : Runner) → code_runner (runner_code r) ≡ r
unfolding code_runner
runner_back runner.Caller = refl
runner_back (runner.Account w) = refl

action_eq : (a b : Action) → T (alike_action a b) → a ≡ b
action_eq (action.Call x) (action.Call y) h = ap action.Call (object_eq x y h)
action_eq (action.Call x) (action.Grant g) h = absurd h
action_eq (action.Call x) (action.Join m) h = absurd h
action_eq (action.Grant g) (action.Call y) h = absurd h
action_eq (action.Grant g) (action.Grant k) h = ap action.Grant (record_eq g k h)
action_eq (action.Grant g) (action.Join m) h = absurd h
action_eq (action.Join m) (action.Call y) h = absurd h
action_eq (action.Join m) (action.Grant g) h = absurd h
action_eq (action.Join m) (action.Join n) h = ap action.Join (member_eq m n h)

abbrev a_line : Object → Runner → Action → Line
a_line x r a = record { object = x; runner = r; action = a }

pub line_eq : (l k : Line) → T (alike_line l k) → l ≡ k
line_eq l k h =
    ap (λ x. a_line x l.runner l.action) (object_eq _ _ (and_left _ _ h))
    ∙ ap (λ x. a_line k.object x l.action)
    (sym (runner_back l.runner) ∙ ap code_runner (eqb→eq _ _ (and_left _ _ (and_right _ _ h))) ∙ runner_back k.runner)
    ∙ ap (a_line k.object k.runner) (action_eq _ _ (and_right _ _ (and_right _ _ h)))

bool_same : (b : Bool) → T (same_bool b b)
bool_same true = tt
bool_same false = tt

action_same : (a : Action) → T (alike_action a a)
action_same (action.Call x) = object_same x
action_same (action.Grant g) =
    and_both _ _ (eqb_refl g.entity) (and_both _ _ (eqb_refl (right_number g.right)) (and_both _ _ (eqb_refl g.principal) (bool_same g.option)))
action_same (action.Join m) = and_both _ _ (eqb_refl m.account) (eqb_refl m.role)

pub line_same : (l : Line) → T (alike_line l l)
line_same l = and_both _ _ (object_same l.object) (and_both _ _ (eqb_refl (runner_code l.runner)) (action_same l.action))

-- membership by a test of equality
pub found : {A : Type 0} (same : A → A → Bool) → ((x y : A) → T (same x y) → x ≡ y) → (x : A) (xs : List A) → T (any (same x) xs) → x ∈ xs
unfolding any
found same eq x [] h = absurd h
found same eq x (y ∷ ys) h = elim (or_cases (same x y) (λ _. any (same x) ys) h)
    [ inl t ↦ Memᴰ.head (eq x y t) | inr t ↦ Memᴰ.tail (found same eq x ys t) ]

pub found_number : (x : ℕ) (xs : List ℕ) → T (any (eqb x) xs) → x ∈ xs
found_number x xs h = found eqb eqb→eq x xs h

pub number_found : (x : ℕ) {xs : List ℕ} → x ∈ xs → T (any (eqb x) xs)
number_found x m = some_any (eqb x) x m (eqb_refl x)
