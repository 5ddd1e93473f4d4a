use Rattle.fitting.proofs.Finding.{at_in}
use Rattle.saturation.proofs.Going.{grown_same, grown_trans}
use Rattle.saturation.proofs.Staying.{done_later, done_before}
use Rattle.fitting.proofs.Taking.{taken_more}
use Rattle.saturation.proofs.following.follow_each.Goals as goal

pub loop-line-init : goal.loop-line-init
loop-line-init c = record { grown = grown_same c.requires.goes; keeps = c.requires.keeps; done = λ k m. elim m [ ] }

pub follow_line-requires : goal.follow_line-requires
follow_line-requires c = record {
  goes = c.loop-line.invariant.grown.goes;
  keeps = c.loop-line.invariant.keeps;
  listed = rw (← c.lines-line-items.ensures) (at_in _ _ _ c.loop-line-test.true);
}

pub loop-line-preserved : goal.loop-line-preserved
loop-line-preserved c =
    let h = c.loop-line.invariant in
    let e = c.follow_line.ensures in
    record {
      grown = grown_trans h.grown e.grown;
      keeps = e.keeps;
      done = taken_more _ _ _ _ c.loop-line-test.true (λ k m v. done_later _ e.grown.part (h.done k m v))
          (λ v. done_before _ h.grown.part (e.done v));
    }
