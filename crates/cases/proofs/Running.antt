-- A list of steps that passes its tests is a run.
use Rattle.std.proofs.Common.{ℕ, Bool, true, T, eqb, List, [], ◌∷◌, inl, inr}
use Rattle.access.specs.declared.entities.Kind.TheVariants as kind
use Rattle.access.specs.declared.rights.Right.{Right}
use Rattle.access.specs.declared.rights.Right.TheVariants.{Alter, Impersonate}
use Rattle.access.specs.declared.code.Runner.{Runner}
use Rattle.access.specs.declared.code.Runner.TheVariants as runner
use Rattle.access.specs.declared.code.Action.{Action}
use Rattle.access.specs.declared.code.Action.TheVariants as action
use Rattle.access.specs.declared.code.Line.{Line}
use Rattle.access.specs.Lists.{Lists, stands}
use Rattle.access.specs.Places.{place_of}
use Rattle.catalogue.specs.Sound.{Sound}
use Rattle.runs.specs.declared.steps.Step.{Step}
use Rattle.runs.specs.declared.steps.Step.TheVariants.{Switch, Grant, Join, Plant, Call, Follow}
use Rattle.runs.specs.Standing.{Principal, an_account, a_role, Proper, a_call, a_grant, a_join, entry_right}
use Rattle.runs.specs.States.{State, start, pair}
use Rattle.runs.specs.Runs.{worker, Lends, LineStands, in_catalogue, planted, Allowed, after, Run, ends, goes, UseBy, HoldBy}
use Rattle.cases.proofs.Deciding.{and_then, or_else, any, alike_entry, alike_line, isᵇ, objectᵇ, holdsᵇ, mayᵇ, doesᵇ, enteredᵇ}
use Rattle.cases.proofs.TestLaws.{passed, and_left, and_right, or_cases, Passing, any_some, found, found_number, entry_eq, line_eq}
use Rattle.cases.proofs.Decided.{is_true, object_true, holds_true, may_true, does_true}

module _ (L : Lists) where
  abbrev pub properᵇ : Action → Bool
  properᵇ (action.Call y) = objectᵇ L y
  properᵇ (action.Grant g) =
      and_then (or_else (isᵇ L kind.Account g.principal) (λ _. isᵇ L kind.Role g.principal)) (λ _. stands L.entities g.entity)
  properᵇ (action.Join m) = and_then (isᵇ L kind.Account m.account) (λ _. isᵇ L kind.Role m.role)

  module _ (S : State) where
    abbrev pub lendsᵇ : ℕ → Runner → Bool
    lendsᵇ a runner.Caller = true
    lendsᵇ a (runner.Account w) = and_then (isᵇ L kind.Account w) (λ _. holdsᵇ L S a w Impersonate)

    abbrev pub line_standsᵇ : Line → Bool
    line_standsᵇ l = or_else (any (alike_line l) L.lines) (λ _. any (alike_line l) S.planted)

    abbrev pub allowedᵇ : Step → Bool
    allowedᵇ (Switch a v) = and_then (any (eqb a) S.acted) (λ _. and_then (isᵇ L kind.Account v) (λ _. holdsᵇ L S a v Impersonate))
    allowedᵇ (Grant a g) = and_then (any (eqb a) S.acted) (λ _. and_then (properᵇ (action.Grant g)) (λ _. mayᵇ L S a g.entity g.right))
    allowedᵇ (Join a m) = and_then (any (eqb a) S.acted) (λ _. and_then (properᵇ (action.Join m)) (λ _. holdsᵇ L S a m.role Alter))
    allowedᵇ (Plant a l) = and_then (any (eqb a) S.acted) (λ _. and_then (objectᵇ L l.object) (λ _. and_then (holdsᵇ L S a (place_of l.object) Alter)
        (λ _. and_then (lendsᵇ a l.runner) (λ _. properᵇ l.action))))
    allowedᵇ (Call a x) = and_then (any (eqb a) S.acted) (λ _. and_then (objectᵇ L x) (λ _. holdsᵇ L S a (place_of x) (entry_right x)))
    allowedᵇ (Follow v l) = and_then (enteredᵇ L S l.object v) (λ _. and_then (line_standsᵇ l) (λ _. doesᵇ L S l.object (worker l.runner v) l.action))

  -- each step is allowed in turn, and the state that the last leads to passes a test
  abbrev pub runᵇ : (State → Bool) → List Step → State → Bool
  runᵇ test [] S = test S
  runᵇ test (t ∷ ts) S = and_then (allowedᵇ S t) (λ _. runᵇ test ts (after S t))

  abbrev pub someone : ℕ → Right → State → Bool
  someone e r S = any (λ v. holdsᵇ L S v e r) S.acted

module _ (L : Lists) (s : Sound L) where
  principal_true : (p : ℕ) → T (or_else (isᵇ L kind.Account p) (λ _. isᵇ L kind.Role p)) → Principal L p
  principal_true p h = elim (or_cases _ _ h) [ inl k ↦ an_account (is_true L kind.Account p k) | inr k ↦ a_role (is_true L kind.Role p k) ]

  proper_true : (a : Action) → T (properᵇ L a) → Proper L a
  proper_true (action.Call y) h = a_call (object_true L y h)
  proper_true (action.Grant g) h = a_grant (principal_true g.principal (and_left _ _ h)) (passed _ (and_right _ _ h))
  proper_true (action.Join m) h = a_join (is_true L kind.Account m.account (and_left _ _ h)) (is_true L kind.Role m.role (and_right _ _ h))

  module _ (S : State) where
    lends_true : (a : ℕ) (n : Runner) → T (lendsᵇ L S a n) → Lends L S a n
    lends_true a runner.Caller h = Lends.the_caller
    lends_true a (runner.Account w) h =
        Lends.an_account (is_true L kind.Account w (and_left _ _ h)) (holds_true L s S w Impersonate a (and_right _ _ h))

    line_true : (l : Line) → T (line_standsᵇ L S l) → LineStands L S l
    line_true l h =
        elim (or_cases _ _ h)
        [ inl k ↦ in_catalogue (found alike_line line_eq l L.lines k) | inr k ↦ planted (found alike_line line_eq l S.planted k) ]

    allowed_true : (t : Step) → T (allowedᵇ L S t) → Allowed L S t
    allowed_true (Switch a v) h =
        let k = and_right _ _ h in
        Allowed.switch (found_number a S.acted (and_left _ _ h)) (is_true L kind.Account v (and_left _ _ k))
        (holds_true L s S v Impersonate a (and_right _ _ k))
    allowed_true (Grant a g) h =
        let k = and_right _ _ h in
        Allowed.grant (found_number a S.acted (and_left _ _ h)) (proper_true (action.Grant g) (and_left _ _ k))
        (may_true L s S g.entity g.right a (and_right _ _ k))
    allowed_true (Join a m) h =
        let k = and_right _ _ h in
        Allowed.join (found_number a S.acted (and_left _ _ h)) (proper_true (action.Join m) (and_left _ _ k))
        (holds_true L s S m.role Alter a (and_right _ _ k))
    allowed_true (Plant a l) h =
        let k = and_right _ _ h in
        let j = and_right _ _ k in
        let i = and_right _ _ j in
        Allowed.plant (found_number a S.acted (and_left _ _ h)) (object_true L l.object (and_left _ _ k))
        (holds_true L s S (place_of l.object) Alter a (and_left _ _ j))
        (lends_true a l.runner (and_left _ _ i)) (proper_true l.action (and_right _ _ i))
    allowed_true (Call a x) h =
        let k = and_right _ _ h in
        Allowed.call (found_number a S.acted (and_left _ _ h)) (object_true L x (and_left _ _ k))
        (holds_true L s S (place_of x) (entry_right x) a (and_right _ _ k))
    allowed_true (Follow v l) h =
        let k = and_right _ _ h in
        Allowed.follow (found alike_entry entry_eq (pair l.object v) S.entered (and_left _ _ h)) (line_true l (and_left _ _ k))
        (does_true L s S l.object (worker l.runner v) l.action (and_right _ _ k))

  -- where a run ends, with what was tested there
  pub record Ends (test : State → Bool) (ts : List Step) (S : State) : Type 0 where
    pub final : State
    pub run : Run L S ts final
    pub passes : T (test final)

  run_true : (test : State → Bool) (ts : List Step) (S : State) → T (runᵇ L test ts S) → Ends test ts S
  run_true test [] S h = record { final = S; run = ends; passes = h }
  run_true test (t ∷ ts) S h =
      let r = run_true test ts (after S t) (and_right _ _ h) in
      record { final = r.final; run = goes (allowed_true S t (and_left _ _ h)) r.run; passes = r.passes }

  pub use_by_true : (a : ℕ) (ts : List Step) (e : ℕ) (r : Right) → T (runᵇ L (someone L e r) ts (start L a)) → UseBy L a ts e r
  use_by_true a ts e r h = go (run_true (someone L e r) ts (start L a) h)
    where
      at_end : (q : Ends (someone L e r) ts (start L a)) → Passing (λ v. holdsᵇ L q.final v e r) q.final.acted → UseBy L a ts e r
      at_end q p =
          record { final = q.final; run = q.run; actor = p.it; acted = p.in_list; holds = holds_true L s q.final e r p.it p.passes }

      go : Ends (someone L e r) ts (start L a) → UseBy L a ts e r
      go q = at_end q (any_some _ _ q.passes)

  pub hold_by_true : (a : ℕ) (ts : List Step) (e : ℕ) (r : Right) → T (runᵇ L (λ S. holdsᵇ L S a e r) ts (start L a)) → HoldBy L a ts e r
  hold_by_true a ts e r h =
      let q = run_true (λ S. holdsᵇ L S a e r) ts (start L a) h in
      record { final = q.final; run = q.run; holds = holds_true L s q.final e r a q.passes }
