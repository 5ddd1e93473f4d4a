-- Both orders of a sound catalogue are orders.
use Rattle.std.proofs.Common.{◌≡◌, ℕ, true, List, refl}
use Rattle.access.specs.declared.entities.Entity.{Entity}
use Rattle.access.specs.declared.roles.Link.{Link}
use Rattle.access.specs.Lists.{fits, is_role, stands}
use Rattle.access.specs.Orders.{RoleBelow, linked, to_sysadmin, through, Within, up}
use Rattle.order.proofs.RoleLaws.{RoleEnds, linked_roles_lem, role_antisymmetric}
use Rattle.order.proofs.TreeLaws.{within_stands, within_through, within_antisymmetric}
use Rattle.catalogue.proofs.Declaring.{sysadmin_role}
use Rattle.catalogue.proofs.Linking.{upper_role}
use Rattle.runs.specs.Laws.{TwoOrders}
use Rattle.runs.proofs.Grounds.{is_fits, role_is, rooted}

-- what is below a role is a role
pub lower_role : (es : List Entity) (links : List Link) → RoleEnds es links → {p q : ℕ} → RoleBelow es links p q → fits is_role es p ≡ true
lower_role es links roles (RoleBelow.itself h) = h
lower_role es links roles (linked {k} m) = (roles k m).0
lower_role es links roles (to_sysadmin h) = h
lower_role es links roles (through a b) = lower_role es links roles a

-- what something is in stands
pub place_stands : (es : List Entity) {x y : ℕ} → Within es x y → stands es y ≡ true
place_stands es (Within.itself h) = h
place_stands es (up e w) = place_stands es w

pub two_orders : TwoOrders
two_orders L s =
    let es = L.entities in
    let links = L.links in
    let ends : RoleEnds es links = linked_roles_lem es links s.links.linked in (
      record {
        between = λ x y b. (role_is L x (lower_role es links ends b), role_is L y (upper_role es links ends (sysadmin_role es s.entities) b));
        reflexive = λ x i. RoleBelow.itself (is_fits L is_role refl i);
        transitive = λ x y z a b. through a b;
        antisymmetric = role_antisymmetric es links s.links.linked;
      },
      record {
        between = λ x y w. (within_stands es w, place_stands es w);
        reflexive = λ x h. Within.itself h;
        transitive = λ x y z a b. within_through es a b;
        antisymmetric = within_antisymmetric es (rooted L s);
      },
    )
