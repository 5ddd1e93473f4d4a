-- A list that is copied one record at a time, and what copies of a sound catalogue's lists keep.
use Rattle.std.proofs.Common.{◌≡◌, ℕ, ◌+◌, List, [], ◌∷◌, ◌++◌, ◌≤◌, length, take, Some, sym, ap, ◌∙◌}
use Rattle.std.specs.List.{slice_get}
use Rattle.std.proofs.lemmas.List.{take_more}
use Rattle.std.proofs.lemmas.Option.{slice_get_within, get_or_from_slice_get}
use Rattle.access.specs.Lists.{Lists}
use Rattle.access.specs.Orders.{Rooted}
use Rattle.catalogue.specs.Sound.{Sound}
use Rattle.runs.proofs.Grounds.{few, rooted}

-- one record more
pub take_found : {X : Type 0} (xs : List X) (n : ℕ) (x : X) → Some x ≡ slice_get xs n → take (n + 1) xs ≡ take n xs ++ x ∷ []
take_found xs n x e =
    take_more xs n x (slice_get_within xs n x (sym e)) ∙ ap (λ y. take n xs ++ y ∷ []) (get_or_from_slice_get xs n x x (sym e))

-- there are at most 96 entities, and the parent of each has a lower number
pub sound_few : (L : Lists) → Sound L → length L.entities ≤ 96
sound_few = few

pub sound_rooted : (L : Lists) → Sound L → Rooted L.entities
sound_rooted = rooted
