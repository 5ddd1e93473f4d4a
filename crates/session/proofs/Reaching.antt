-- A list with one more at its end, put the latest first before another.
use Rattle.std.proofs.Common.{◌≡◌, List, [], ◌∷◌, ◌++◌}
use mathlib.Core.List.{reverse_aux-append}
use Rattle.session.specs.Reached.{before}

pub before_push : {A : Type 0} (xs ys : List A) (x : A) → before (xs ++ x ∷ []) ys ≡ x ∷ before xs ys
before_push xs ys x = reverse_aux-append xs (x ∷ []) ys
