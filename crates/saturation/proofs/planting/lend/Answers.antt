use Rattle.std.proofs.Common.{arith}
use Rattle.std.proofs.lemmas.Bool.{both_ways}
use Rattle.runs.specs.Standing.{a_call}
use Rattle.saturation.proofs.Standing.{room, filled_more, peopled}
use Rattle.runs.specs.declared.steps.Step.TheVariants.{Plant, Follow}
use Rattle.fitting.proofs.Deciding.{call_from}
use Rattle.saturation.proofs.Planted.{calling, lent_on, lent_entered}
use Rattle.saturation.proofs.Going.{Committed}
use Rattle.saturation.proofs.planting.lend.Goals as goal
use Rattle.saturation.proofs.planting.lend.Goals.{then-is_entered-via-then-is_entered, then-is_entered-via-else-is_entered+then-not-plants}

pub returns-then-is_entered-clause-lent : goal.returns-then-is_entered-clause-lent
returns-then-is_entered-clause-lent c =
    let g = c.requires.serves.goes in
    let p = peopled g.ran in
    record {
      is = λ t o. elim c.then-is_entered.branch [
        | then-is_entered-via-then-is_entered w ↦ (c.is_entered.ensures _ g).0 w.if-is_entered.true
        | then-is_entered-via-else-is_entered+then-not-plants w ↦
            absurd (both_ways _ w.if-not-plants.true (w.plants.ensures.1 ((p.entered _ c.requires.foothold.entered).0, c.requires.foothold.alters, (p.acted _ c.requires.lent, t), a_call o)))
      ];
    }

pub commit-requires : goal.commit-requires
commit-requires c = filled_more _ _ (omega (arith, room c.requires.serves.goes)) c.requires.serves.goes.ran.filled

pub commit-requires-2 : goal.commit-requires-2
commit-requires-2 c = filled_more _ _ (omega (arith, room c.requires.serves.goes)) (c.commit.ensures.few _ c.requires.serves.goes.ran.filled)

planted : (c : goal.After-commit-2) → Committed c.args.state.now c.commit.new.self (Plant c.args.account (calling c.args.entry.object c.args.lent.object c.args.lent.account))
planted c = let e = c.commit.ensures in record { opener = e.opener; state = e.state; steps = e.steps; few = e.few; marked = e.marked }

followed : (c : goal.After-commit-2) → Committed c.commit.new.self c.commit-2.new.self (Follow c.args.entry.account (calling c.args.entry.object c.args.lent.object c.args.lent.account))
followed c = let e = c.commit-2.ensures in record { opener = e.opener; state = e.state; steps = e.steps; few = e.few; marked = e.marked }

pub returns-clause-grown : goal.returns-clause-grown
returns-clause-grown c =
    let g = c.requires.serves.goes in
    let b = c.requires.serves.backed in
    let f = c.plants.ensures.0 c.if-not-plants.false in
    lent_on g c.requires.acted c.requires.foothold.entered (b.holds _ _ f.1) f.2.0 (b.holds _ _ f.2.1) (call_from f.3) c.requires.foothold.owner
    (λ m. both_ways _ c.if-is_entered.false ((c.is_entered.ensures _ g).1 m)) (planted c) (followed c)

pub returns-clause-lent : goal.returns-clause-lent
returns-clause-lent c =
    let g = c.requires.serves.goes in
    let b = c.requires.serves.backed in
    let f = c.plants.ensures.0 c.if-not-plants.false in
    record {
      is = λ t o. lent_entered g c.requires.acted c.requires.foothold.entered (b.holds _ _ f.1) f.2.0 (b.holds _ _ f.2.1) (call_from f.3) c.requires.foothold.owner
          (λ m. both_ways _ c.if-is_entered.false ((c.is_entered.ensures _ g).1 m)) (planted c) (followed c);
    }
