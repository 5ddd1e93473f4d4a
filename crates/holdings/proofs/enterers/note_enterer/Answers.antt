use Rattle.std.proofs.Common.{◌≡◌, ℕ, ◌<◌, true, sym, ◌∙◌, subst, arith}
use Rattle.std.proofs.lemmas.Bool.{and_parts}
use Rattle.access.specs.Places.{place_of}
use Rattle.grid.specs.Grids.{noted}
use Rattle.lookup.specs.Tables.{sort_number}
use Rattle.lookup.proofs.Slots.{sort_small}
use Rattle.holdings.proofs.Entering.{object_of, none_added, sort_added, all_added, entered_by}
use Rattle.holdings.proofs.enterers.note_enterer.Goals as goal

pub loop-sort-init : goal.loop-sort-init
loop-sort-init c x v h = none_added (sort_number x) _ _

pub note_places-requires-clause-places : goal.note_places-requires-clause-places
note_places-requires-clause-places c e t =
    let (x, sort, place) = object_of c.loop-sort.sort e c.loop-sort-test.true in
    let there : noted c.args.objects.now.rows c.loop-sort.sort e ≡ true = sym (c.row.ensures e) ∙ (and_parts _ _ (sym (c.both-places.ensures e) ∙ t)).1 in
    subst (λ (d : ℕ). d < 96) place
    (c.requires.places x (subst (λ (k : ℕ). noted c.args.objects.now.rows k (place_of x) ≡ true) (sym sort) (subst (λ (d : ℕ). noted c.args.objects.now.rows c.loop-sort.sort d ≡ true) (sym place) there)))

pub loop-sort-preserved : goal.loop-sort-preserved
loop-sort-preserved c x v h =
    sort_added (sort_number x) c.loop-sort.sort v c.args.account _ _ _ _ _ (c.loop-sort.invariant x v h) (c.note_places.ensures x v h)
    (entered_by c.args.holds.now c.args.objects.now.rows x v c.args.account c.loop-sort.sort _ _ _ _ c.held-open.ensures c.row.ensures c.both-places.ensures c.right_of.ensures.right)

pub returns : goal.returns
returns c x v h = c.loop-sort.invariant x v h ∙ all_added (sort_number x) _ _ _ (omega (arith, sort_small x))
