use Rattle.std.proofs.Common.{inl, inr, arith}
use Rattle.std.proofs.lemmas.Bool.{both_ways}
use Rattle.access.specs.declared.rights.Right.TheVariants.{Impersonate}
use Rattle.runs.proofs.Grounds.{is_stands}
use Rattle.runs.proofs.Realizing.{public_proper}
use Rattle.fitting.proofs.Smalls.{is_small}
use Rattle.saturation.proofs.Standing.{room, filled_more, peopled}
use Rattle.access.specs.Lists.{◌∈◌}
use Rattle.runs.specs.declared.steps.Step.TheVariants.{Switch, Plant, Follow}
use Rattle.runs.specs.Turns.{to_public}
use Rattle.session.specs.Reached.{state_of}
use Rattle.saturation.proofs.Going.{Committed}
use Rattle.saturation.proofs.Planted.{granting, taken_on, taken_acted}
use Rattle.saturation.proofs.planting.take.Goals as goal
use Rattle.saturation.proofs.planting.take.Goals.{then-acts-via-then-acts, then-acts-via-else-acts+then-has_right, then-acts-via-else-acts+else-has_right+then-not-plants}

pub returns-then-acts-clause-taken : goal.returns-then-acts-clause-taken
returns-then-acts-clause-taken c =
    let g = c.requires.serves.goes in
    let e = (peopled g.ran).entered _ c.requires.entered in
    let s = g.ran.sound in
    record {
      is = λ t. elim c.then-acts.branch [
        | then-acts-via-then-acts w ↦ inl ((c.acts.ensures _ g).0 w.if-acts.true)
        | then-acts-via-else-acts+then-has_right w ↦ inr ((w.has_right.ensures _ (is_small s e.1) g.ran.marked).0 w.if-has_right.true)
        | then-acts-via-else-acts+else-has_right+then-not-plants w ↦
            absurd (both_ways _ w.if-not-plants.true (w.plants.ensures.1 (e.0, t, tt, public_proper _ s _ Impersonate (is_stands _ e.1))))
      ];
    }

pub commit-requires : goal.commit-requires
commit-requires c = filled_more _ _ (omega (arith, room c.requires.serves.goes)) c.requires.serves.goes.ran.filled

pub commit-requires-2 : goal.commit-requires-2
commit-requires-2 c = filled_more _ _ (omega (arith, room c.requires.serves.goes)) (c.commit.ensures.few _ c.requires.serves.goes.ran.filled)

pub commit-requires-3 : goal.commit-requires-3
commit-requires-3 c = filled_more _ _ (omega (arith, room c.requires.serves.goes)) (c.commit-2.ensures.few _ (c.commit.ensures.few _ c.requires.serves.goes.ran.filled))

planted : (c : goal.After-commit-3) → Committed c.args.state.now c.commit.new.self (Plant c.args.account (granting c.args.entry.object c.args.entry.account))
planted c = let e = c.commit.ensures in record { opener = e.opener; state = e.state; steps = e.steps; few = e.few; marked = e.marked }

followed : (c : goal.After-commit-3) → Committed c.commit.new.self c.commit-2.new.self (Follow c.args.entry.account (granting c.args.entry.object c.args.entry.account))
followed c = let e = c.commit-2.ensures in record { opener = e.opener; state = e.state; steps = e.steps; few = e.few; marked = e.marked }

switched : (c : goal.After-commit-3) → Committed c.commit-2.new.self c.commit-3.new.self (Switch c.args.account c.args.entry.account)
switched c = let e = c.commit-3.ensures in record { opener = e.opener; state = e.state; steps = e.steps; few = e.few; marked = e.marked }

-- it is not acted as, and not everyone may impersonate it
new : (c : goal.After-commit-3) → c.args.entry.account ∈ (state_of c.args.actor.now.lists c.args.state.now).acted → ⊥
new c m = both_ways _ c.if-acts.false ((c.acts.ensures _ c.requires.serves.goes).1 m)

fresh : (c : goal.After-commit-3) → to_public c.args.entry.account ∈ (state_of c.args.actor.now.lists c.args.state.now).rights → ⊥
fresh c m =
    let g = c.requires.serves.goes in
    both_ways _ c.if-has_right.false ((c.has_right.ensures _ (is_small g.ran.sound ((peopled g.ran).entered _ c.requires.entered).1) g.ran.marked).1 m)

pub returns-clause-grown : goal.returns-clause-grown
returns-clause-grown c =
    let g = c.requires.serves.goes in
    let b = c.requires.serves.backed in
    let f = c.plants.ensures.0 c.if-not-plants.false in
    taken_on g c.requires.acted c.requires.entered (b.holds _ _ f.1) (new c) (fresh c) (planted c) (followed c) (switched c)

pub returns-clause-taken : goal.returns-clause-taken
returns-clause-taken c =
    let g = c.requires.serves.goes in
    let b = c.requires.serves.backed in
    record { is = λ t. inl (taken_acted g c.requires.acted c.requires.entered (b.holds _ _ t) (new c) (fresh c) (planted c) (followed c) (switched c)) }
