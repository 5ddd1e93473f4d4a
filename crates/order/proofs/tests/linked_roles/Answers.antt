use Rattle.std.proofs.Common.{List, [], ◌∷◌, refl, arith}
use Rattle.std.proofs.lemmas.Bool.Decides.{not_from_Decides}
use Rattle.access.specs.Orders.{Linked, RoleBelow}
use Rattle.access.specs.declared.entities.Entity.{Entity}
use Rattle.access.specs.declared.entities.Kind.{Kind}
use Rattle.access.specs.declared.entities.Kind.TheVariants.{Container, Role}
use Rattle.access.specs.declared.entities.Mode.TheVariants.{Creator}
use Rattle.access.specs.declared.roles.Link.{Link}
use Rattle.order.proofs.RoleLaws.{role_below_lem, linked_roles_lem}
use Rattle.order.proofs.tests.linked_roles.Goals as goal

abbrev entity : Kind → Entity
entity k = record { kind = k; parent = 0; owner = 2; mode = Creator }

abbrev es : List Entity
es = entity Container ∷ entity Role ∷ entity Role ∷ entity Role ∷ entity Role ∷ entity Role ∷ []

abbrev link : Link
link = record { lower = 3; upper = 4 }

free : RoleBelow es [] 4 3 → ⊥
free = not_from_Decides _ (role_below_lem es [] (linked_roles_lem es [] tt) 4 3) refl

one : Linked es (link ∷ [])
one = ((refl, refl, free), tt)

free_more : RoleBelow es (link ∷ []) 5 4 → ⊥
free_more = not_from_Decides _ (role_below_lem es (link ∷ []) (linked_roles_lem es (link ∷ []) one) 5 4) refl

pub build-requires : goal.build-requires
build-requires c = record { few = omega arith; linked = ((refl, refl, free), ((refl, refl, free_more), tt)) }
