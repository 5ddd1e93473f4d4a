-- The two orders, each as a relation: x is at or below y.
use Rattle.std.specs.Prelude.{◌≡◌, ℕ, ◌-◌, ◌≤◌, Bool, true, ◌&&◌, ◌||◌, List, [], ◌∷◌, ◌++◌, Some, ◌==◌}
use Rattle.std.specs.List.{slice_get}
use Rattle.access.specs.declared.entities.Entity.{Entity}
use Rattle.access.specs.declared.roles.Link.{Link}
use Rattle.access.specs.Lists.{◌∈◌, fits, is_role, stands, sysadmin}

-- the least order of the roles that has each link's lower role below its upper one, and every role below sysadmin
pub data RoleBelow (es : List Entity) (links : List Link) : ℕ → ℕ → Type 0 where
  itself : {q : ℕ} → fits is_role es q ≡ true → RoleBelow es links q q
  linked : {k : Link} → k ∈ links → RoleBelow es links k.lower k.upper
  to_sysadmin : {q : ℕ} → fits is_role es q ≡ true → RoleBelow es links q sysadmin
  through : {p q r : ℕ} → RoleBelow es links p q → RoleBelow es links q r → RoleBelow es links p r

-- d is met by going from e to parents
pub data Within (es : List Entity) : ℕ → ℕ → Type 0 where
  itself : {e : ℕ} → stands es e ≡ true → Within es e e
  up : {e d : ℕ} {x : Entity} → slice_get es e ≡ Some x → Within es x.parent d → Within es e d

-- the role order as a test: an order to start from, with one link after another put in
abbrev pub joined_by : (ℕ → ℕ → Bool) → List Link → ℕ → ℕ → Bool
joined_by below [] = below
joined_by below (k ∷ ks) = joined_by (λ x y. below x y || (below x k.lower && below k.upper y)) ks

abbrev pub unlinked : List Entity → ℕ → ℕ → Bool
unlinked es x y = fits is_role es x && (x == y || y == sysadmin)

abbrev pub role_below : List Entity → List Link → ℕ → ℕ → Bool
role_below es links = joined_by (unlinked es) links

-- each element of a list could come after those before it
abbrev pub InTurn : {X : Type 0} → (List X → X → Type 0) → List X → List X → Type 0
InTurn P before [] = Unit {0}
InTurn P before (x ∷ xs) = P before x × InTurn P (before ++ x ∷ []) xs

-- a link of two roles that closes no circle with the links before it
abbrev pub LinkFits : List Entity → List Link → Link → Type 0
LinkFits es before k =
    (fits is_role es k.lower ≡ true) × (fits is_role es k.upper ≡ true) × (RoleBelow es before k.upper k.lower → ⊥)

abbrev pub Linked : List Entity → List Link → Type 0
Linked es links = InTurn (LinkFits es) [] links

-- the parent of each entity has a lower number; that of the root, entity 0, is the root
abbrev pub Rooted : List Entity → Type 0
Rooted es = (e : ℕ) (x : Entity) → slice_get es e ≡ Some x → x.parent ≤ e - 1
