-- A new layer means what the one below means, and every proposal and withdrawal keeps a layer's meaning sound.
use Rattle.std.proofs.Common.{◌≡◌, ℕ, ◌-◌, ◌<◌, ◌&&◌, ltb, List, [], ◌∷◌, ◌++◌, length, drop, Ok, Err, Option, Result, sym, refl, ap, ◌∙◌, subst, arith}
use Rattle.std.proofs.ByRecursion.{All-push}
use Rattle.std.proofs.lemmas.List.{length_push, append_assoc, append-nil, take-append-drop}
use Rattle.std.specs.List.{filter_map}
use Rattle.std.proofs.lemmas.List.Elements.{filter_map-append}
use Rattle.std.proofs.lemmas.Bool.{cond_both, and_parts, ltb-true}
use Rattle.access.specs.declared.rights.RightRecord.{RightRecord}
use Rattle.access.specs.declared.roles.Member.{Member}
use Rattle.access.specs.Codes.{Code}
use Rattle.access.specs.Lists.{Lists}
use Rattle.catalogue.specs.Judgements.{judged_right, judged_member}
use Rattle.catalogue.specs.Sound.{TakesRight, TakesMember, Listed, Sound}
use Rattle.catalogue.proofs.Judging.{judged_right_lem, judged_member_lem}
use Rattle.layer.specs.declared.proposals.Proposal.{Proposal}
use Rattle.layer.specs.declared.proposals.Proposal.TheVariants as proposal
use Rattle.layer.specs.Proposals.{right_in, member_in, rights_of, members_of, over, Reply, taken, proposed_right, proposed_member, withdrawn}
use Rattle.layer.proofs.Over.{listed_front, sound_below}

-- the records of one kind below and proposed, where more are proposed
picked_over : {A X : Type 0} (f : A → Option X) (xs : List X) (ps qs : List A) → xs ++ filter_map f (ps ++ qs) ≡ (xs ++ filter_map f ps) ++ filter_map f qs
picked_over f xs ps qs = ap (λ ys. xs ++ ys) (filter_map-append f ps qs) ∙ sym (append_assoc xs (filter_map f ps) (filter_map f qs))

listed_push : {X : Type 0} (takes : X → Type 0) (xs : List X) (x : X) → Listed takes xs → takes x → length xs < 4096 → Listed takes (xs ++ x ∷ [])
listed_push takes xs x h t room = record { fit = All-push takes xs x h.fit t; few = omega (arith, length_push xs x) }

pub over_none : (l : Lists) → over l [] ≡ l
over_none l =
    ap (λ rs. record { entities = l.entities; links = l.links; rights = rs; members = l.members ++ []; lines = l.lines }) (append-nil l.rights)
    ∙ ap (λ ms. record { entities = l.entities; links = l.links; rights = l.rights; members = ms; lines = l.lines }) (append-nil l.members)

-- a layer without proposals is sound where the one below is
pub sound_none : (l : Lists) (ps : List Proposal) → ps ≡ [] → Sound l → Sound (over l ps)
sound_none l ps e s = subst Sound (sym (ap (over l) e ∙ over_none l)) s

-- the same entities and links with other rights and members
pub sound_with : (l : Lists) (ps : List Proposal) → Sound l → Listed (TakesRight l.entities) (l.rights ++ rights_of ps)
    → Listed (TakesMember l.entities) (l.members ++ members_of ps) → Sound (over l ps)
sound_with l ps s r m = record { entities = s.entities; links = s.links; rights = r; members = m; lines = s.lines }

-- One proposal more

right_push : (l : Lists) (ps : List Proposal) (x : RightRecord) → Sound (over l ps) → TakesRight l.entities x → length (over l ps).rights < 4096
    → Sound (over l (ps ++ proposal.Right x ∷ []))
right_push l ps x s t room =
    sound_with l (ps ++ proposal.Right x ∷ []) (sound_below l ps s)
    (subst (Listed (TakesRight l.entities)) (sym (picked_over right_in l.rights ps (proposal.Right x ∷ []))) (listed_push (TakesRight l.entities) (l.rights ++ rights_of ps) x s.rights t room))
    (subst (Listed (TakesMember l.entities)) (sym (picked_over member_in l.members ps (proposal.Right x ∷ []) ∙ append-nil (l.members ++ members_of ps))) s.members)

member_push : (l : Lists) (ps : List Proposal) (x : Member) → Sound (over l ps) → TakesMember l.entities x → length (over l ps).members < 4096
    → Sound (over l (ps ++ proposal.Member x ∷ []))
member_push l ps x s t room =
    sound_with l (ps ++ proposal.Member x ∷ []) (sound_below l ps s)
    (subst (Listed (TakesRight l.entities)) (sym (picked_over right_in l.rights ps (proposal.Member x ∷ []) ∙ append-nil (l.rights ++ rights_of ps))) s.rights)
    (subst (Listed (TakesMember l.entities)) (sym (picked_over member_in l.members ps (proposal.Member x ∷ []))) (listed_push (TakesMember l.entities) (l.members ++ members_of ps) x s.members t room))

taken_sound : {X : Type 0} (l : Lists) (ps : List Proposal) (count : ℕ) (kind : X → Proposal) (j : Result X Code) → Sound (over l ps)
    → ((x : X) → j ≡ Ok x → count < 4096 → Sound (over l (ps ++ kind x ∷ []))) → Sound (over l (taken count ps kind j).proposals)
taken_sound l ps count kind (Err c) s more = s
taken_sound l ps count kind (Ok x) s more =
    cond_both (ltb (length ps) 16 && ltb count 4096) _ _ (λ (t : Reply). Sound (over l t.proposals))
    (λ e. more x refl (ltb-true _ _ (and_parts _ _ e).1)) (λ _. s)

pub right_sound : (l : Lists) (ps : List Proposal) (p e a o : ℕ) → Sound (over l ps) → Sound (over l (proposed_right l ps p e a o).proposals)
right_sound l ps p e a o s =
    taken_sound l ps (length (over l ps).rights) proposal.Right (judged_right l.entities p e a o) s
    (λ x j room. right_push l ps x s (judged_right_lem l.entities p e a o x j) room)

pub member_sound : (l : Lists) (ps : List Proposal) (a r : ℕ) → Sound (over l ps) → Sound (over l (proposed_member l ps a r).proposals)
member_sound l ps a r s =
    taken_sound l ps (length (over l ps).members) proposal.Member (judged_member l.entities a r) s
    (λ x j room. member_push l ps x s (judged_member_lem l.entities a r x j) room)

-- Fewer proposals

fewer : (l : Lists) (ps qs : List Proposal) → Sound (over l (ps ++ qs)) → Sound (over l ps)
fewer l ps qs s =
    sound_with l ps (sound_below l (ps ++ qs) s)
    (listed_front (TakesRight l.entities) (l.rights ++ rights_of ps) (rights_of qs) (subst (Listed (TakesRight l.entities)) (picked_over right_in l.rights ps qs) s.rights))
    (listed_front (TakesMember l.entities) (l.members ++ members_of ps) (members_of qs) (subst (Listed (TakesMember l.entities)) (picked_over member_in l.members ps qs) s.members))

pub withdrawn_sound : (l : Lists) (ps : List Proposal) → Sound (over l ps) → Sound (over l (withdrawn ps))
withdrawn_sound l ps s =
    fewer l (withdrawn ps) (drop (length ps - 1) ps) (subst (λ qs. Sound (over l qs)) (sym (take-append-drop (length ps - 1) ps)) s)

-- the same layer, its parts equal to those of a sound one
pub sound_same : {C : Type 0} (meaning : C → Lists) (b c : C) (ps qs : List Proposal) → c ≡ b → qs ≡ ps → Sound (over (meaning b) ps) → Sound (over (meaning c) qs)
sound_same meaning b c ps qs e f s = subst (λ d. Sound (over (meaning d) qs)) (sym e) (subst (λ rs. Sound (over (meaning b) rs)) (sym f) s)
