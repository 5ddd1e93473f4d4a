use Rattle.std.proofs.Common.{rules}
use Rattle.std.proofs.lemmas.Bool.{both_ways}
use Rattle.std.proofs.lemmas.Bool.Decides.{not_from_Decides}
use Rattle.access.proofs.SetLaws.{bit_zero}
use Rattle.grid.proofs.Bitwise.{left_first, left_more, left_none}
use Rattle.session.specs.Models.{lists_of}
use Rattle.extent.proofs.Planted.{peers_more, shared_more, shared_later, shared_none}
use Rattle.extent.proofs.planting.peers.Goals as goal

pub loop-owner-init : goal.loop-owner-init
loop-owner-init c =
    rw c.into_iter-owner-iterator.ensures.into_iter_gives
    (record {
      peers = λ d t. absurd (both_ways _ (bit_zero d) t);
      shared = left_first _ _ _ (search rules) (λ o own f. absurd (both_ways _ f own));
    })

pub loop-owner-preserved-then-meet : goal.loop-owner-preserved-then-meet
loop-owner-preserved-then-meet c =
    let L = lists_of c.args.model.now in
    let h = c.loop-owner.invariant in
    let more = c.either-all.ensures in
    record {
      peers = peers_more L c.args.entities c.requires _ _ c.row-owned.ensures _ _ more (c.meet.ensures.0 c.if-meet.true) h.peers;
      shared = left_more _ _ _ _ _ _ c.in-Some.ensures.steps (shared_later L c.args.entities c.requires _ _ c.row-owned.ensures _ _ more)
          (λ _. shared_more L c.args.entities c.requires _ _ c.row-owned.ensures _ _ more) h.shared;
    }

pub loop-owner-preserved : goal.loop-owner-preserved
loop-owner-preserved c =
    let L = lists_of c.args.model.now in
    let h = c.loop-owner.invariant in
    record {
      peers = h.peers;
      shared = left_more _ _ _ _ _ _ c.in-Some.ensures.steps (λ o s. s)
          (λ _. shared_none L c.args.entities c.requires _ _ c.row-owned.ensures _ (not_from_Decides _ c.meet.ensures c.if-meet.false)) h.shared;
    }

pub returns : goal.returns
returns c d = (
  c.loop-owner.invariant.peers d,
  λ (e, t, p). left_none _ _ _ c.in-None.ensures.steps.0 c.loop-owner.invariant.shared p.owner (c.requires.owners p.owner d p.second) d e p.second p.first t,
)
