use Rattle.std.proofs.Common.{refl, ◌∙◌, sym, ⊎_elim, arith}
use Rattle.std.proofs.lemmas.Bool.{both_ways, cases_eq}
use Rattle.std.proofs.lemmas.Bool.Decides.{not_from_Decides}
use Rattle.access.specs.Places.{place_of}
use Rattle.lookup.specs.Tables.{sort_number}
use Rattle.lookup.proofs.Slots.{sort_small}
use Rattle.extent.proofs.Planted.{entered_there, entry_row}
use Rattle.extent.proofs.extents.Extent.entered_in.Goals as goal

pub returns-then-meet : goal.returns-then-meet
returns-then-meet c = (
  λ _. entered_there c.args.self.now c.args.account c.loop-sort.sort c.args.places _ c.loop-sort-test.true c.row.ensures (c.meet.ensures.0 c.if-meet.true),
  λ _. refl,
)

pub loop-sort-init : goal.loop-sort-init
loop-sort-init c x h = absurd (omega arith)

pub loop-sort-preserved : goal.loop-sort-preserved
loop-sort-preserved c x h t p = ⊎_elim
    (λ e. not_from_Decides _ c.meet.ensures c.if-meet.false
    (place_of x, sym (entry_row c.args.self.now x c.args.account c.loop-sort.sort (place_of x) c.row.result e refl c.row.ensures) ∙ t, p))
    (λ ne. c.loop-sort.invariant x (omega arith) t p)
    (cases_eq (sort_number x) c.loop-sort.sort)

pub returns : goal.returns
returns c = (
  λ t. absurd (both_ways _ refl t),
  λ (x, t, p). absurd (c.loop-sort.invariant x (omega (arith, sort_small x, c.loop-sort-test.false)) t p),
)
