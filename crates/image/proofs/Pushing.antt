-- A record that is placed as new stands at the end of its table, and in a book's table each record was placed so.
use Rattle.std.proofs.Common.{◌≡◌, ℕ, suc, ◌<◌, ◌≤◌, Bool, true, false, cond, ltb, List, [], ◌∷◌, ◌++◌, length, set, Some, None, Ok, Err, Option, Result, sym, refl, ap, ◌∙◌, subst, arith}
use Rattle.std.specs.List.{AllByRecursion}
use Rattle.std.specs.Option.{option_map}
use Rattle.std.proofs.lemmas.List.{set_at, append_assoc, length-append}
use Rattle.std.proofs.lemmas.Bool.{eqb-true, lt-ltb}
use Rattle.access.specs.declared.refusals.Refusal.TheVariants.{Full}
use Rattle.access.specs.declared.rights.RightRecord.{RightRecord}
use Rattle.access.specs.Codes.{Code, code}
use Rattle.access.specs.Orders.{InTurn}
use Rattle.catalogue.specs.Tables.{position, placed_at, placed, Once}
use Rattle.catalogue.specs.Calls.{raised, raised_at}
use Rattle.catalogue.proofs.Standing.{nth_last}
use Rattle.image.specs.Reading.{is_new}

mapped_suc : (o : Option ℕ) (n : ℕ) → option_map suc o ≡ Some n → (m : ℕ) × ((o ≡ Some m) × (suc m ≡ n))
mapped_suc None n e = absurd cc
mapped_suc (Some m) n e = (m, (refl, cc))

module _ {X : Type 0} where
  position_within : (test : X → Bool) (xs : List X) (n : ℕ) → position test xs ≡ Some n → n < length xs
  position_within test [] n e = absurd cc
  position_within test (x ∷ xs) n e =
      let P : Bool → Type 0 = λ b. cond b (Some 0) (option_map suc (position test xs)) ≡ Some n → n < suc (length xs) in
      (elim (test x) as P [
        | true ↦ λ h. let z : 0 ≡ n = cc in omega arith
        | false ↦ λ h. let m = mapped_suc (position test xs) n h in omega (arith, position_within test xs m.0 m.1.0, m.1.1)
      ]) e

  -- a table with the record at its end
  abbrev pub pushed : List X → X → Result ℕ Code × List X
  pushed xs x = (Ok (length xs), xs ++ x ∷ [])

  cond_pushed : (b : Bool) (xs : List X) (x : X) (k : ℕ) → is_new (cond {A = Result ℕ Code × List X} b (pushed xs x) (Err (code Full), xs)).0 k ≡ true
      → cond b (pushed xs x) (Err (code Full), xs) ≡ pushed xs x
  cond_pushed true xs x k new = refl
  cond_pushed false xs x k new = absurd cc

  -- a record whose number is the next was not there
  pub placed_new : (alike : X → X → Bool) (limit : ℕ) (xs : List X) (x : X) → is_new (placed alike limit xs x).0 (length xs) ≡ true → placed alike limit xs x ≡ pushed xs x
  placed_new alike limit xs x new = go (position (λ y. alike y x) xs) refl new
    where
      go : (o : Option ℕ) → position (λ y. alike y x) xs ≡ o → is_new (placed_at limit o xs x).0 (length xs) ≡ true → placed_at limit o xs x ≡ pushed xs x
      go (Some n) e h = let no : ⊥ = omega (arith, position_within (λ y. alike y x) xs n e, eqb-true n (length xs) h) in absurd no
      go None e h = cond_pushed (ltb (length xs) limit) xs x (length xs) h

  -- a record that is not there goes to the end where there is room
  pub placed_last : (alike : X → X → Bool) (limit : ℕ) (xs : List X) (x : X) → position (λ y. alike y x) xs ≡ None → length xs < limit → placed alike limit xs x ≡ pushed xs x
  placed_last alike limit xs x e h =
      ap (λ o. placed_at limit o xs x) e
      ∙ ap (λ b. cond {A = Result ℕ Code × List X} b (pushed xs x) (Err (code Full), xs)) (lt-ltb (length xs) limit h)

  -- each record of a table came as new

  all_mid : (P : X → Type 0) (bs : List X) (x : X) (xs : List X) → AllByRecursion P (bs ++ x ∷ xs) → P x
  all_mid P [] x xs h = h.0
  all_mid P (b ∷ bs) x xs h = all_mid P bs x xs h.1

  once_none : (alike : X → X → Bool) (bs : List X) (x : X) (xs : List X) → Once alike (bs ++ x ∷ xs) → position (λ y. alike y x) bs ≡ None
  once_none alike [] x xs h = refl
  once_none alike (b ∷ bs) x xs h =
      ap (λ t. cond t (Some 0) (option_map suc (position (λ y. alike y x) bs))) (all_mid (λ y. alike b y ≡ false) bs x xs h.0)
      ∙ ap (option_map suc) (once_none alike bs x xs h.1)

  pub came_new : (alike : X → X → Bool) (limit : ℕ) (P Q : List X → X → Type 0)
      → ((b : List X) (x : X) → P b x → position (λ y. alike y x) b ≡ None → length b < limit → Q b x)
      → (before xs : List X) → InTurn P before xs → Once alike (before ++ xs) → length (before ++ xs) ≤ limit → InTurn Q before xs
  came_new alike limit P Q f before [] h once few = tt
  came_new alike limit P Q f before (x ∷ xs) h once few =
      let whole = sym (append_assoc before (x ∷ []) xs) in (
        f before x h.0 (once_none alike before x xs once) (omega (arith, length-append before (x ∷ xs))),
        came_new alike limit P Q f (before ++ x ∷ []) xs h.1 (subst (Once alike) whole once) (subst (λ ys. length ys ≤ limit) whole few),
      )

  pub all_turns : (P : X → Type 0) (before xs : List X) → AllByRecursion P xs → InTurn (λ _ x. P x) before xs
  all_turns P before [] h = tt
  all_turns P before (x ∷ xs) h = (h.0, all_turns P (before ++ x ∷ []) xs h.1)

-- raising the option of the record that was just placed changes nothing
pub raised_last : (b : Bool) (rs : List RightRecord) (x : RightRecord) → x.option ≡ b → raised b (Ok (length rs)) (rs ++ x ∷ []) ≡ rs ++ x ∷ []
raised_last false rs x e = refl
raised_last true rs x e =
    ap (λ o. raised_at (rs ++ x ∷ []) o (length rs)) (nth_last rs x)
    ∙ ap (λ b. set (rs ++ x ∷ []) (length rs) (record { principal = x.principal; entity = x.entity; right = x.right; option = b })) (sym e)
    ∙ set_at rs x [] x (length rs) refl
