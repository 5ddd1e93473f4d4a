-- Each building call keeps a book's lists.
use Rattle.std.proofs.Common.{◌≡◌, ℕ, ◌≤◌, Bool, ltb, List, [], ◌∷◌, ◌++◌, length, set, Some, None, Decides, Option, Result, sym, refl, subst, arith, lit≤}
use Rattle.std.specs.List.{slice_get}
use Rattle.std.proofs.ByRecursion.{All-set, All-weaker}
use Rattle.std.proofs.lemmas.List.{length-set}
use Rattle.std.proofs.lemmas.Bool.{cond_both}
use Rattle.access.specs.Codes.{Code}
use Rattle.access.specs.declared.entities.Entity.{Entity}
use Rattle.access.specs.declared.rights.RightRecord.{RightRecord}
use Rattle.access.specs.declared.roles.Link.{Link}
use Rattle.access.specs.declared.roles.Member.{Member}
use Rattle.access.specs.declared.code.Line.{Line}
use Rattle.access.specs.Lists.{Lists, new_lists}
use Rattle.access.specs.Orders.{RoleBelow, role_below, LinkFits, Linked}
use Rattle.order.proofs.RoleLaws.{role_below_lem, linked_roles_lem}
use Rattle.catalogue.specs.Tables.{placed, placed_at, position}
use Rattle.catalogue.specs.Alike.{same_link, same_right, same_member, same_line}
use Rattle.catalogue.specs.Sound.{TakesEntity, TakesRight, TakesMember, TakesLine, Listed, Filed, Sound, Kept}
use Rattle.catalogue.specs.Calls.{with_entities, with_links, with_rights, with_members, with_lines, placed_link, placed_right, placed_member, placed_line, raised_at}
use Rattle.catalogue.proofs.Placing.{nth_all, placed_once, placed_all, placed_few, once_set}
use Rattle.catalogue.proofs.Standing.{right_stays, member_stays, line_stays}
use Rattle.catalogue.proofs.Declaring.{declared_push, sysadmin_role}
use Rattle.catalogue.proofs.Linking.{linked_stays, linked_push}

module _ {X : Type 0} (takes : X → Type 0) (alike : X → X → Bool) (limit : ℕ) (xs : List X) where
  -- a record that a book takes is placed
  filed_placed : (x : X) → Filed takes alike limit xs → takes x → Filed takes alike limit (placed alike limit xs x).1
  filed_placed x f t = record {
    fit = placed_all takes alike limit xs x f.fit t;
    once = placed_once alike limit xs x f.once;
    few = placed_few alike limit xs x f.few;
  }

  -- a record is changed in place to one that a book takes and that is like the same records
  filed_set : (n : ℕ) (old new : X) → slice_get xs n ≡ Some old → (takes old → takes new) → ((y : X) → alike y new ≡ alike y old)
      → ((y : X) → alike new y ≡ alike old y) → Filed takes alike limit xs → Filed takes alike limit (set xs n new)
  filed_set n old new e t l r f = record {
    fit = All-set takes xs n new (t (nth_all takes xs n old e f.fit)) f.fit;
    once = once_set alike xs n old new e l r f.once;
    few = subst (λ m. m ≤ limit) (sym (length-set xs n new)) f.few;
  }

  -- the entities are others that take the same records
  filed_under : (also : X → Type 0) → ((x : X) → takes x → also x) → Filed takes alike limit xs → Filed also alike limit xs
  filed_under also weaker f = record { fit = All-weaker takes also weaker xs f.fit; once = f.once; few = f.few }

  filed_listed : limit ≤ 4096 → Filed takes alike limit xs → Listed takes xs
  filed_listed h f = record { fit = f.fit; few = let few = f.few in omega arith }

pub kept_sound : (l : Lists) → Kept l → Sound l
kept_sound l k = record {
  entities = k.entities;
  links = k.links;
  rights = filed_listed (TakesRight l.entities) same_right 256 l.rights (lit≤ tt) k.rights;
  members = filed_listed (TakesMember l.entities) same_member 128 l.members (lit≤ tt) k.members;
  lines = filed_listed (TakesLine l.entities) same_line 256 l.lines (lit≤ tt) k.lines;
}

-- in a book the test of the role order is the order
pub kept_order : (l : Lists) → Kept l → (x y : ℕ) → Decides (role_below l.entities l.links x y) (RoleBelow l.entities l.links x y)
kept_order l k = role_below_lem l.entities l.links (linked_roles_lem l.entities l.links k.links.linked)

pub new_kept : Kept new_lists
new_kept = record {
  entities = record { first = refl; turns = tt };
  links = record { linked = tt; once = tt; few = lit≤ tt };
  rights = record { fit = tt; once = tt; few = lit≤ tt };
  members = record { fit = tt; once = tt; few = lit≤ tt };
  lines = record { fit = tt; once = tt; few = lit≤ tt };
}

pub entity_kept : (l : Lists) (x : Entity) → Kept l → TakesEntity l.entities x → Kept (with_entities l (l.entities ++ x ∷ []))
entity_kept l x k t =
    let es = l.entities in
    record {
      entities = declared_push es x k.entities t;
      links = record { linked = linked_stays es x l.links (sysadmin_role es k.entities) k.links.linked; once = k.links.once; few = k.links.few };
      rights = filed_under (TakesRight es) same_right 256 l.rights (TakesRight (es ++ x ∷ [])) (right_stays es x) k.rights;
      members = filed_under (TakesMember es) same_member 128 l.members (TakesMember (es ++ x ∷ [])) (member_stays es x) k.members;
      lines = filed_under (TakesLine es) same_line 256 l.lines (TakesLine (es ++ x ∷ [])) (line_stays es x) k.lines;
    }

-- links placed in a table stay sound
links_placed : (l : Lists) (x : Link) → Linked l.entities l.links → LinkFits l.entities l.links x → Linked l.entities (placed_link l x).1
links_placed l x h f = go (position (λ y. same_link y x) l.links)
  where
    go : (o : Option ℕ) → Linked l.entities (placed_at 64 o l.links x).1
    go (Some n) = h
    go None =
        cond_both (ltb (length l.links) 64) _ _ (λ (t : Result ℕ Code × List Link). Linked l.entities t.1)
        (λ _. linked_push l.entities l.links x h f) (λ _. h)

pub link_kept : (l : Lists) (x : Link) → Kept l → LinkFits l.entities l.links x → Kept (with_links l (placed_link l x).1)
link_kept l x k f = record {
  entities = k.entities;
  links = record {
    linked = links_placed l x k.links.linked f;
    once = placed_once same_link 64 l.links x k.links.once;
    few = placed_few same_link 64 l.links x k.links.few;
  };
  rights = k.rights;
  members = k.members;
  lines = k.lines;
}

rights_kept : (l : Lists) (rs : List RightRecord) → Kept l → Filed (TakesRight l.entities) same_right 256 rs → Kept (with_rights l rs)
rights_kept l rs k f = record { entities = k.entities; links = k.links; rights = f; members = k.members; lines = k.lines }

pub right_kept : (l : Lists) (x : RightRecord) → Kept l → TakesRight l.entities x → Kept (with_rights l (placed_right l x).1)
right_kept l x k t = rights_kept l (placed_right l x).1 k (filed_placed (TakesRight l.entities) same_right 256 l.rights x k.rights t)

pub raised_kept : (l : Lists) (n : ℕ) → Kept l → Kept (with_rights l (raised_at l.rights (slice_get l.rights n) n))
raised_kept l n k = go (slice_get l.rights n) refl
  where
    go : (o : Option RightRecord) → slice_get l.rights n ≡ o → Kept (with_rights l (raised_at l.rights o n))
    go None e = k
    go (Some x) e =
        rights_kept l (raised_at l.rights (Some x) n) k
        (filed_set (TakesRight l.entities) same_right 256 l.rights n x _ e (λ t. t) (λ y. refl) (λ y. refl) k.rights)

pub member_kept : (l : Lists) (x : Member) → Kept l → TakesMember l.entities x → Kept (with_members l (placed_member l x).1)
member_kept l x k t = record {
  entities = k.entities;
  links = k.links;
  rights = k.rights;
  members = filed_placed (TakesMember l.entities) same_member 128 l.members x k.members t;
  lines = k.lines;
}

pub line_kept : (l : Lists) (x : Line) → Kept l → TakesLine l.entities x → Kept (with_lines l (placed_line l x).1)
line_kept l x k t = record {
  entities = k.entities;
  links = k.links;
  rights = k.rights;
  members = k.members;
  lines = filed_placed (TakesLine l.entities) same_line 256 l.lines x k.lines t;
}
