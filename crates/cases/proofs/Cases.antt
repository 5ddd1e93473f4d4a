-- Every claim of the table passes a test that computes, and a claim that passes is true.
use Rattle.std.proofs.Common.{◌≡◌, ℕ, ◌^◌, ◌<◌, ◌≤◌, Bool, true, false, not, T, eqb, ltb, ◌↔◌, List, length, slice_index, sym, subst, ◌∙◌, ⊎_elim, eqb→eq, ltb→lt}
use Rattle.std.proofs.Math.Dec.{eqb_refl, T_not}
use Rattle.std.proofs.lemmas.Bool.{cases_lt, false≢true}
use Rattle.access.specs.declared.rights.Right.{Right}
use Rattle.access.specs.Bits.{bit}
use Rattle.access.specs.Lists.{Lists}
use Rattle.access.specs.Numbers.{right_number, rights}
use Rattle.access.proofs.SetLaws.{bit_past}
use Rattle.access.proofs.NumberLaws.{right_numbered, right_listed}
use Rattle.catalogue.specs.Sound.{Sound}
use Rattle.book.specs.Gathered.{lists_after}
use Rattle.runs.specs.States.{State, start}
use Rattle.survey.specs.Used.{UsedAt, IsRow}
use Rattle.cases.specs.Cases.{Sense, to_use, to_hold, Can, Claim, by, never, shows, exceeds, Meaning, Case, cases, EachCase}
use Rattle.cases.proofs.Gathering.{calls_sound}
use Rattle.cases.proofs.Deciding.{and_then, or_else, any, every, each, keep, only, more_of, upto, same_bool, holdsᵇ, usesᵇ, solves, reached}
use Rattle.cases.proofs.TestLaws.{passes, passed, and_left, and_right, or_cases, Passing, any_some, every_at, in_upto}
use Rattle.cases.proofs.Saturating.{use_decided, hold_decided}
use Rattle.cases.proofs.Running.{runᵇ, someone, use_by_true, hold_by_true}

-- sweeps enough for the books here
abbrev enough : ℕ
enough = 5

-- the row has a one for the right on e
abbrev oneᵇ : List ℕ → ℕ → Right → Bool
oneᵇ row e r = bit (slice_index row e) (right_number r)

abbrev rowᵇ : Lists → State → List ℕ → Bool
rowᵇ L F row =
    and_then (eqb (length row) 96)
    (λ _. every (λ e. and_then (ltb (slice_index row e) (2 ^ 7)) (λ _. every (λ r. same_bool (oneᵇ row e r) (usesᵇ L F e r)) rights)) (upto 96))

-- the state tells what k can come to, and passes a test
abbrev judged : Lists → ℕ → (State → Bool) → State → Bool
judged L k test F = and_then (solves L k F) (λ _. test F)

abbrev judge : Lists → ℕ → (State → Bool) → Bool
judge L k test = judged L k test (reached L enough k)

abbrev is_row : Lists → ℕ → List ℕ → Bool
is_row L a row = judge L a (λ F. rowᵇ L F row)

abbrev canᵇ : Lists → ℕ → Sense → ℕ → Right → State → Bool
canᵇ L a to_use e r F = usesᵇ L F e r
canᵇ L a to_hold e r F = holdsᵇ L F a e r

abbrev containsᵇ : List ℕ → List ℕ → Bool
containsᵇ more less = every (λ e. every (λ k. or_else (bit (slice_index more e) k) (λ _. not (bit (slice_index less e) k))) (upto 7)) (upto 96)

abbrev differᵇ : List ℕ → List ℕ → Bool
differᵇ more less = any (λ e. not (eqb (slice_index more e) (slice_index less e))) (upto 96)

abbrev verdict : Lists → Claim → Bool
verdict L (by a steps to_use e r) = runᵇ L (someone L e r) steps (start L a)
verdict L (by a steps to_hold e r) = runᵇ L (λ S. holdsᵇ L S a e r) steps (start L a)
verdict L (never a s e r) = judge L a (λ F. not (canᵇ L a s e r F))
verdict L (shows a row) = is_row L a row
verdict L (exceeds a b more less) =
    and_then (is_row L a more) (λ _. and_then (is_row L b less) (λ _. and_then (containsᵇ more less) (λ _. differᵇ more less)))

same_forth : (b c : Bool) → T (same_bool b c) → T b → T c
same_forth true c h t = h
same_forth false c h t = absurd t

same_back : (b c : Bool) → T (same_bool b c) → T c → T b
same_back true c h t = tt
same_back false true h t = h
same_back false false h t = t

differ_true : (more less : List ℕ) → T (differᵇ more less) → more ≡ less → ⊥
differ_true more less h q = go (any_some _ _ h)
  where
    go : Passing (λ e. not (eqb (slice_index more e) (slice_index less e))) (upto 96) → ⊥
    go s = T_not (eqb (slice_index more s.it) (slice_index less s.it)) s.passes
        (subst (λ x. T (eqb (slice_index more s.it) (slice_index x s.it))) q (eqb_refl (slice_index more s.it)))

module _ (L : Lists) (s : Sound L) where
  can_decided : (a : ℕ) (q : Sense) (e : ℕ) (r : Right) → T (solves L a (reached L enough a))
      → Can L a q e r ↔ T (canᵇ L a q e r (reached L enough a))
  can_decided a to_use e r h = use_decided L s enough a h e r
  can_decided a to_hold e r h = hold_decided L s enough a h e r

  module _ (a : ℕ) (row : List ℕ) (h : T (is_row L a row)) where
    at_byte : (e : ℕ) → e < 96
        → T (and_then (ltb (slice_index row e) (2 ^ 7)) (λ _. every (λ r. same_bool (oneᵇ row e r) (usesᵇ L (reached L enough a) e r)) rights))
    at_byte e l = every_at _ _ (and_right _ _ (and_right _ _ h)) e (in_upto 96 e l)

    at_right : (e : ℕ) (r : Right) → e < 96 → T (same_bool (oneᵇ row e r) (usesᵇ L (reached L enough a) e r))
    at_right e r l = every_at _ _ (and_right _ _ (at_byte e l)) r (right_listed r)

    small : (e : ℕ) → e < 96 → slice_index row e < 2 ^ 7
    small e l = ltb→lt _ _ (and_left _ _ (at_byte e l))

    one_used : (e k : ℕ) → e < 96 → k < 7 → bit (slice_index row e) k ≡ true → UsedAt L a e k
    one_used e k l j o =
        let (r, n) = right_numbered k j in (
          r,
          n,
          (use_decided L s enough a (and_left _ _ h) e r).1
              (same_forth (oneᵇ row e r) _ (at_right e r l) (passes (subst (λ i. bit (slice_index row e) i ≡ true) (sym n) o))),
        )

    used_one : (e k : ℕ) → e < 96 → UsedAt L a e k → bit (slice_index row e) k ≡ true
    used_one e k l (r, n, u) =
        subst (λ i. bit (slice_index row e) i ≡ true) n
        (passed _ (same_back (oneᵇ row e r) _ (at_right e r l) ((use_decided L s enough a (and_left _ _ h) e r).0 u)))

    row_true : IsRow L a row
    row_true = record {
      long = eqb→eq _ _ (and_left _ _ (and_right _ _ h));
      bits = λ e k l. (
        λ o. ⊎_elim (λ j. one_used e k l j o)
            (λ (past : 7 ≤ k). absurd (false≢true (sym (bit_past (slice_index row e) 7 k (small e l) past) ∙ o))) (cases_lt k 7),
        used_one e k l,
      );
    }

  contains_true : (a b : ℕ) (more less : List ℕ) → T (is_row L b less) → T (containsᵇ more less) → (e k : ℕ) → e < 96
      → bit (slice_index less e) k ≡ true → bit (slice_index more e) k ≡ true
  contains_true a b more less h c e k l o =
      ⊎_elim
      (λ (j : k < 7). passed _ (⊎_elim (λ t. t) (λ n. absurd (T_not (bit (slice_index less e) k) n (passes o)))
      (or_cases _ _ (every_at _ _ (every_at _ _ c e (in_upto 96 e l)) k (in_upto 7 k j)))))
      (λ (past : 7 ≤ k). absurd (false≢true (sym (bit_past (slice_index less e) 7 k (small b less h e l) past) ∙ o)))
      (cases_lt k 7)

  -- a claim that passes is true
  verdict_true : (c : Claim) → T (verdict L c) → Meaning L c
  verdict_true (by a steps to_use e r) h = use_by_true L s a steps e r h
  verdict_true (by a steps to_hold e r) h = hold_by_true L s a steps e r h
  verdict_true (never a q e r) h =
      λ u. T_not (canᵇ L a q e r (reached L enough a)) (and_right _ _ h) ((can_decided a q e r (and_left _ _ h)).0 u)
  verdict_true (shows a row) h = row_true a row h
  verdict_true (exceeds a b more less) h =
      let k = and_right _ _ h in
      let j = and_right _ _ k in
      record {
        first = row_true a more (and_left _ _ h);
        second = row_true b less (and_left _ _ k);
        contains = contains_true a b more less (and_left _ _ k) (and_left _ _ j);
        differ = differ_true more less (and_right _ _ j);
      }

abbrev stands_by : Case → Bool
stands_by c = verdict (lists_after c.calls) c.claim

all_stand : T (every stands_by cases)
unfolding and_then or_else any every each keep only more_of bit
all_stand = tt

pub each_case : EachCase
each_case c m = verdict_true (lists_after c.calls) (calls_sound c.calls) c.claim (every_at stands_by cases all_stand c m)
