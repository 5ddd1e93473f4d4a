use Rattle.std.proofs.Common.{refl, ◌∙◌}
use Rattle.access.specs.Places.{place_of}
use Rattle.lookup.specs.Tables.{sort_number}
use Rattle.holdings.proofs.Entering.{slot_added, still_below}
use Rattle.holdings.proofs.Taking.{bit_taken, none_left}
use Rattle.holdings.proofs.enterers.note_places.Goals as goal

pub loop-place-init : goal.loop-place-init
loop-place-init c =
    rw c.into_iter-place-iterator.ensures.into_iter_gives (record { small = c.requires.places; all = λ x v h. refl })

pub loop-place-preserved : goal.loop-place-preserved
loop-place-preserved c =
    let d = c.in-Some.place in
    let s = c.in-Some.ensures.steps in
    let i = c.loop-place.invariant in
    record {
      small = still_below d _ _ s i.small;
      all = λ x v h.
          bit_taken (place_of x) d _ _ _ _ _ s
          (slot_added (place_of x) (sort_number x) d c.args.sort v c.args.account _ _ _ h (i.small d s.0) c.requires.sort (c.add.ensures _ v) (c.bit_of-own.ensures v))
          ∙ i.all x v h;
    }

pub returns : goal.returns
returns c x v h = none_left (place_of x) _ _ _ _ c.in-None.ensures.steps.0 (c.loop-place.invariant.all x v h)
