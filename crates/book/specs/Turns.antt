-- What calls return when they are made one after another.
use Rattle.std.specs.Prelude.{◌≡◌, ℕ, List, take, Some}
use Rattle.std.specs.List.{slice_get}

-- the answer at each number is what the call of that number returns after the calls before it
abbrev pub EachTurn : {C A : Type 0} → (List C → C → A → Type 0) → List C → List A → Type 0
EachTurn {C} {A} returns calls answers =
    (i : ℕ) (c : C) (a : A) → slice_get calls i ≡ Some c → slice_get answers i ≡ Some a → returns (take i calls) c a
