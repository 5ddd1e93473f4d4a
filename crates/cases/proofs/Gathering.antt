-- Whatever building calls put together is sound.
use Rattle.std.proofs.Common.{◌≡◌, ℕ, Bool, true, false, List, [], ◌∷◌, Ok, Err, Result, fold, refl}
use Rattle.access.specs.declared.rights.RightRecord.{RightRecord}
use Rattle.access.specs.Codes.{Code}
use Rattle.access.specs.Lists.{Lists, new_lists}
use Rattle.catalogue.specs.Calls.{Outcome, unless, with_rights, placed_right, raised}
use Rattle.catalogue.specs.Judgements.{judged_entity, judged_link, judged_right, judged_member, judged_line}
use Rattle.catalogue.specs.Sound.{Sound, Kept}
use Rattle.catalogue.proofs.Judging.{judged_entity_lem, judged_link_lem, judged_right_lem, judged_member_lem, judged_line_lem}
use Rattle.catalogue.proofs.Linking.{link_fits}
use Rattle.catalogue.proofs.Keeping.{kept_sound, new_kept, entity_kept, link_kept, right_kept, raised_kept, member_kept, line_kept}
use Rattle.book.specs.declared.calls.Call.{Call}
use Rattle.book.specs.declared.calls.Call.TheVariants as call
use Rattle.book.specs.Gathered.{called, lists_after}

module _ {X : Type 0} (l : Lists) (put : X → Outcome) (k : Kept l) where
  unless_kept : (r : Result X Code) → ((x : X) → r ≡ Ok x → Kept (put x).lists) → Kept (unless l put r).lists
  unless_kept (Err c) h = k
  unless_kept (Ok x) h = h x refl

option_kept : (l : Lists) (o : Bool) (answer : Result ℕ Code) (rs : List RightRecord) → Kept (with_rights l rs)
    → Kept (with_rights l (raised o answer rs))
option_kept l false answer rs k = k
option_kept l true (Err c) rs k = k
option_kept l true (Ok n) rs k = raised_kept (with_rights l rs) n k

called_kept : (l : Lists) (c : Call) → Kept l → Kept (called l c).lists
called_kept l (call.Declare x) k =
    unless_kept l _ k (judged_entity l.entities x.kind x.parent x.owner x.mode)
    (λ e j. entity_kept l e k (judged_entity_lem l.entities x.kind x.parent x.owner x.mode e j))
called_kept l (call.Link x) k =
    unless_kept l _ k (judged_link l.entities l.links x.lower x.upper)
    (λ e j. link_kept l e k (link_fits l.entities l.links e k.links.linked (judged_link_lem l.entities l.links x.lower x.upper e j)))
called_kept l (call.Grant x) k =
    unless_kept l _ k (judged_right l.entities x.principal x.entity x.right x.option)
    (λ g j.
    option_kept l g.option (placed_right l g).0 (placed_right l g).1
    (right_kept l g k (judged_right_lem l.entities x.principal x.entity x.right x.option g j)))
called_kept l (call.Join x) k =
    unless_kept l _ k (judged_member l.entities x.account x.role)
    (λ m j. member_kept l m k (judged_member_lem l.entities x.account x.role m j))
called_kept l (call.Line x) k =
    unless_kept l _ k (judged_line l.entities x.object x.runner x.called)
    (λ n j. line_kept l n k (judged_line_lem l.entities x.object x.runner x.called n j))

all_kept : (calls : List Call) (l : Lists) → Kept l → Kept (fold (λ l c. (called l c).lists) l calls)
all_kept [] l k = k
all_kept (c ∷ cs) l k = all_kept cs (called l c).lists (called_kept l c k)

pub calls_sound : (calls : List Call) → Sound (lists_after calls)
calls_sound calls = kept_sound (lists_after calls) (all_kept calls new_lists new_kept)
