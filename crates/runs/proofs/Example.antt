-- In the laboratory, 4 comes to use impersonate on 3: call, follow, plant, follow.
use Rattle.std.proofs.Common.{refl, lit≤}
use mathlib.Core.List.Memᴰ
use Rattle.access.specs.declared.rights.Right.TheVariants.{Impersonate}
use Rattle.access.specs.Orders.{RoleBelow, Within}
use Rattle.catalogue.specs.Sound.{Sound}
use Rattle.runs.specs.Standing.{a_procedure, a_trigger, a_role, a_grant}
use Rattle.runs.specs.Rights.{by_record, CanGrant, as_anyone, Holds, MayGrant}
use Rattle.runs.specs.Runs.{ActsAs, Lends, by_owner, by_grant, in_catalogue, LineStands, plant, call, follow, ends, goes, UseBy}
use Rattle.runs.specs.Laboratory.{lab, lab_steps}
use Rattle.runs.proofs.Acting.{use_then_act}

pub lab_use : UseBy lab 4 lab_steps 3 Impersonate
lab_use = record {
  final = _;
  run =
      goes (call (Memᴰ.head refl) (a_procedure (record { entity = _; there = refl; kind = refl }))
      (Holds.itself (by_record (Within.itself refl) (Memᴰ.head refl))))
      (goes (follow (Memᴰ.head refl) (in_catalogue (Memᴰ.head refl))
      (by_owner (record { owner = 3; first = record { entity = _; there = refl; owner = refl }; second = record { entity = _; there = refl; owner = refl } })))
      (goes (plant (Memᴰ.head refl) (a_trigger (record { entity = _; there = refl; kind = refl }))
      (Holds.itself (by_record (Within.itself refl) (Memᴰ.tail (Memᴰ.head refl)))) Lends.the_caller
      (a_grant (a_role (record { entity = _; there = refl; kind = refl })) refl))
      (goes (follow (Memᴰ.head refl) (LineStands.planted (Memᴰ.head refl))
      (by_grant (MayGrant.itself (CanGrant.by_owning (Within.itself refl) (record { entity = _; there = refl; owner = refl })))))
      ends)));
  actor = 4;
  acted = Memᴰ.head refl;
  holds = Holds.in_role (as_anyone (RoleBelow.itself refl)) (by_record (Within.itself refl) (Memᴰ.head refl));
}

pub lab_acts : ActsAs lab 4 3
lab_acts = use_then_act lab 4 3 (record { entity = _; there = refl; kind = refl }) (lab_steps, lab_use)

pub lab_sound : Sound lab
lab_sound = record {
  entities = record { first = refl; turns = (refl, (refl, (refl, (refl, (refl, (refl, tt)))))) };
  links = record { linked = tt; once = tt; few = lit≤ tt };
  rights = record { fit = ((refl, refl), ((refl, refl), ((refl, refl), tt))); few = lit≤ tt };
  members = record { fit = tt; few = lit≤ tt };
  lines = record { fit = ((refl, refl, refl), tt); few = lit≤ tt };
}
