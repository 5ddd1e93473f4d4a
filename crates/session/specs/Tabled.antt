-- Lists with their two orders as tables.
use Rattle.std.specs.Prelude.{ℕ, List, Decides}
use Rattle.access.specs.Lists.{Lists}
use Rattle.access.specs.Orders.{RoleBelow, Within}
use Rattle.order.specs.Rows.{leq}
use Rattle.catalogue.specs.Sound.{Sound}

-- the lists are sound, and the tables tell both orders
pub record Tabled (L : Lists) (place_rows role_rows : List ℕ) : Type 0 where
  pub sound : Sound L
  pub places : (x y : ℕ) → Decides (leq place_rows x y) (Within L.entities x y)
  pub roles : (x y : ℕ) → Decides (leq role_rows x y) (RoleBelow L.entities L.links x y)
