-- Links stay sound when an entity or a link comes after the others.
use Rattle.std.proofs.Common.{◌≡◌, ℕ, true, List, [], ◌∷◌, ◌++◌}
use Rattle.access.specs.declared.entities.Entity.{Entity}
use Rattle.access.specs.declared.roles.Link.{Link}
use Rattle.access.specs.Lists.{fits, is_role, sysadmin}
use Rattle.access.specs.Orders.{RoleBelow, itself, linked, to_sysadmin, through, role_below, LinkFits, Linked}
use Rattle.access.proofs.Turns.{turn_push, turn_map}
use Rattle.catalogue.proofs.Standing.{fits_stays}
use Rattle.catalogue.proofs.Judging.{TakenLink}
use Rattle.order.proofs.RoleLaws.{RoleEnds, role_below_lem, linked_roles_lem, ends_none, ends_push}
use Rattle.std.proofs.lemmas.Bool.Decides.{not_from_Decides}

module _ (es : List Entity) (links : List Link) (roles : RoleEnds es links) (top : fits is_role es sysadmin ≡ true) where
  -- what a role is below is a role
  pub upper_role : {p q : ℕ} → RoleBelow es links p q → fits is_role es q ≡ true
  upper_role (itself h) = h
  upper_role (linked {k} m) = (roles k m).1
  upper_role (to_sysadmin h) = top
  upper_role (through a b) = upper_role b

  -- a new entity puts no role that stood below another
  pub below_before : (x : Entity) {p q : ℕ} → fits is_role es p ≡ true → RoleBelow (es ++ x ∷ []) links p q → RoleBelow es links p q
  below_before x h (itself r) = itself h
  below_before x h (linked m) = linked m
  below_before x h (to_sysadmin r) = to_sysadmin h
  below_before x h (through a b) = let first = below_before x h a in through first (below_before x (upper_role first) b)

-- links stay sound when an entity comes
pub linked_stays : (es : List Entity) (x : Entity) (links : List Link) → fits is_role es sysadmin ≡ true → Linked es links → Linked (es ++ x ∷ []) links
linked_stays es x links top h =
    turn_map (LinkFits es) (LinkFits (es ++ x ∷ [])) (RoleEnds es)
    (λ b k roles f. (
      fits_stays es x is_role k.lower f.0,
      fits_stays es x is_role k.upper f.1,
      λ c. f.2 (below_before es b roles top x f.1 c),
    ))
    (ends_push es)
    [] links (ends_none es) h

-- links stay sound when a link comes that closes no circle
pub linked_push : (es : List Entity) (links : List Link) (k : Link) → Linked es links → LinkFits es links k → Linked es (links ++ k ∷ [])
linked_push es links k h f = turn_push (LinkFits es) [] links k h f

-- a link that a judgement takes closes no circle
pub link_fits : (es : List Entity) (links : List Link) (k : Link) → Linked es links → TakenLink es links k → LinkFits es links k
link_fits es links k h t =
    (t.lower, t.upper, not_from_Decides (role_below es links k.upper k.lower) (role_below_lem es links (linked_roles_lem es links h) k.upper k.lower) t.free)
