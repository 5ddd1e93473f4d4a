use Rattle.std.proofs.Common.{◌≡◌, vec_items, rules}
use Rattle.layer.specs.Proposals.{proposed_member}
use Rattle.layer.proofs.Stays.{member_sound, sound_same}
use Rattle.layer.proofs.layers.Layer.propose_member.Goals as goal

pub returns-clause-sound : goal.returns-clause-sound
returns-clause-sound g c =
    let m = g.C.Catalogue.meaning in
    let a = c.args in
    let old = a.self.now in
    let new = c.put.new.self in
    let ps = vec_items old.proposals in
    let reply = proposed_member (m old.below) ps a.member.account a.member.role in
    let proposals : vec_items new.proposals ≡ reply.proposals = search rules in
    sound_same m old.below new.below reply.proposals (vec_items new.proposals) c.put.ensures.below proposals (member_sound (m old.below) ps a.member.account a.member.role c.requires)
