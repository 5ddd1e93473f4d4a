use Rattle.std.proofs.Common.{◌+◌, vec_len, ap, ◌∙◌, arith}
use Rattle.session.proofs.states.RunState.commit.Goals as goal

pub returns-clause-few : goal.returns-clause-few
returns-clause-few c n f =
    let k = c.add.ensures.few n f.kept in
    let e = c.push_reserved.ensures.len ∙ ap (λ s. vec_len s + 1) c.add.ensures.steps in
    record {
      kept = record { acted = k.acted; grants = k.grants; joins = k.joins; planted = k.planted; entered = k.entered };
      steps = omega (arith, e, f.steps);
    }
