use Rattle.std.proofs.Common.{arith}
use Rattle.std.proofs.lemmas.Bool.{both_ways}
use Rattle.fitting.proofs.Allowing.{fits_to}
use Rattle.saturation.proofs.Standing.{room, filled_more, peopled, step_small, step_known}
use Rattle.saturation.proofs.Going.{grown_on}
use Rattle.saturation.proofs.trying.attempt.Goals as goal
use Rattle.saturation.proofs.trying.attempt.Goals.{else-not-has-via-then-not-has+then-opens+else-fits, else-not-has-via-then-not-has+else-opens, else-not-has-via-else-not-has}

pub commit-requires : goal.commit-requires
commit-requires c = filled_more _ _ (omega (arith, room c.requires.serves.goes)) c.requires.serves.goes.ran.filled

pub returns-then-fits-clause-grown : goal.returns-then-fits-clause-grown
returns-then-fits-clause-grown c =
    let g = c.requires.serves.goes in
    let b = c.requires.serves.backed in
    let h = fits_to c.args.step b ((c.opens.ensures _ g c.requires.tried).0 c.if-opens.true) (c.fits.ensures.0 c.if-fits.true) in
    let s = g.ran.sound in
    let has = c.has.ensures _ (step_small s (peopled g.ran) c.requires.tried h) (step_known s c.requires.tried) g.ran.marked in
    let e = c.commit.ensures in
    grown_on g c.requires.tried h (λ q. both_ways _ c.if-not-has.true (has.1 q))
    (record { opener = e.opener; state = e.state; steps = e.steps; few = e.few; marked = e.marked })

pub returns-else-not-has-clause-added : goal.returns-else-not-has-clause-added
returns-else-not-has-clause-added c =
    let g = c.requires.serves.goes in
    let b = c.requires.serves.backed in
    let s = g.ran.sound in
    let small = step_small s (peopled g.ran) c.requires.tried in
    record {
      part = λ o f. elim c.else-not-has.branch [
        | else-not-has-via-else-not-has w ↦
            (c.has.ensures _ (small (fits_to c.args.step b o f)) (step_known s c.requires.tried) g.ran.marked).0 w.if-not-has.false
        | else-not-has-via-then-not-has+then-opens+else-fits w ↦ absurd (both_ways _ w.if-fits.false (w.fits.ensures.1 f))
        | else-not-has-via-then-not-has+else-opens w ↦ absurd (both_ways _ w.if-opens.false ((w.opens.ensures _ g c.requires.tried).1 o))
      ];
    }
