-- A table of records in the order in which they came, each standing once.
use Rattle.std.specs.Prelude.{◌≡◌, ℕ, suc, Bool, false, cond, List, [], ◌∷◌, ◌++◌, length, Some, None, Ok, Err, Option, Result, nat_lt}
use Rattle.std.specs.List.{AllByRecursion}
use Rattle.std.specs.Option.{option_map}
use Rattle.access.specs.declared.refusals.Refusal.TheVariants.{Full}
use Rattle.access.specs.Codes.{Code, code}

module _ {X : Type 0} where
  -- the number of the first record that passes
  abbrev pub position : (X → Bool) → List X → Option ℕ
  position test [] = None
  position test (x ∷ xs) = cond (test x) (Some 0) (option_map suc (position test xs))

  -- a table after a record came: where one like it stands, that one's number; else the record at the end, if there is room
  abbrev pub placed_at : ℕ → Option ℕ → List X → X → Result ℕ Code × List X
  placed_at limit (Some n) xs x = (Ok n, xs)
  placed_at limit None xs x = cond (nat_lt (length xs) limit) (Ok (length xs), xs ++ x ∷ []) (Err (code Full), xs)

  abbrev pub placed : (X → X → Bool) → ℕ → List X → X → Result ℕ Code × List X
  placed alike limit xs x = placed_at limit (position (λ y. alike y x) xs) xs x

  -- no record is like one that stands before it
  abbrev pub Once : (X → X → Bool) → List X → Type 0
  Once alike [] = Unit {0}
  Once alike (x ∷ xs) = AllByRecursion (λ y. alike x y ≡ false) xs × Once alike xs
