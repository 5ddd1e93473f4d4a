-- A record of a catalogue is the one that its bytes are: lemmas with their proofs, here since laws in src/ cite them.
use Rattle.std.proofs.Common.{◌≡◌, ℕ, ◌≤◌, true, false, List, length, Some, refl, ap, arith, Bool, ◌<◌, cond, eqb, is_some, None, Option, rules}
use Rattle.std.specs.List.{slice_get}
use Rattle.std.proofs.lemmas.Bool.{ne_eqb}
use Rattle.access.specs.declared.entities.Kind.{Kind}
use Rattle.access.specs.declared.entities.Mode.{Mode}
use Rattle.access.specs.declared.entities.Entity.{Entity}
use Rattle.access.specs.declared.rights.Right.{Right}
use Rattle.access.specs.declared.rights.RightRecord.{RightRecord}
use Rattle.access.specs.declared.roles.Link.{Link}
use Rattle.access.specs.declared.roles.Member.{Member}
use Rattle.access.specs.declared.code.Object.{Object}
use Rattle.access.specs.declared.code.Object.TheVariants as object
use Rattle.access.specs.declared.code.Action.{Action}
use Rattle.access.specs.declared.code.Action.TheVariants as action
use Rattle.access.specs.declared.code.Line.{Line}
use Rattle.access.specs.declared.code.Runner.{Runner}
use Rattle.access.specs.declared.code.Runner.TheVariants as runner
use Rattle.access.specs.declared.code.Event.TheVariants.{Inserted, Updated, Deleted}
use Rattle.access.specs.Lists.{Lists, fits, passes, stands}
use Rattle.access.specs.Numbers.{mode_at, mode_number, option_at, runner_at, runner_number, kind_at, kind_number, right_at, right_number, object_at}
use Rattle.catalogue.specs.Judgements.{object_fits, runner_fits}
use Rattle.catalogue.specs.Sound.{TakesLine, call_fits, Sound}
use Rattle.catalogue.proofs.Declaring.{entities_few}
use Rattle.catalogue.proofs.Placing.{nth_all}
use Rattle.catalogue.proofs.Standing.{nth_below}
use Rattle.image.specs.Bytes.{option_number, entity_bytes, link_bytes, right_bytes, member_bytes, line_bytes, numbers_of}
use Rattle.image.specs.Decoding.{entity_of, link_of, right_of, member_of, line_of}

-- the case of a case's number

pub kind_there : (k : Kind) → kind_at (kind_number k) ≡ Some k
kind_there = search rules

pub mode_there : (m : Mode) → mode_at (mode_number m) ≡ Some m
mode_there = search rules

pub right_there : (a : Right) → right_at (right_number a) ≡ Some a
right_there = search rules

pub option_there : (b : Bool) → option_at (option_number b) ≡ Some b
option_there = search rules

-- a number at which an entity stands that passes a test
pub fits_stands : (test : Kind → Bool) (es : List Entity) (n : ℕ) → fits test es n ≡ true → stands es n ≡ true
fits_stands test es n h = go (slice_get es n) h
  where
    go : (o : Option Entity) → passes test o ≡ true → is_some o ≡ true
    go None e = absurd cc
    go (Some x) e = refl

pub runner_there : (es : List Entity) (r : Runner) → length es ≤ 96 → runner_fits es r ≡ true → runner_at (runner_number r) ≡ r
runner_there es runner.Caller few h = refl
runner_there es (runner.Account n) few h =
    let below : n < length es = nth_below es n (fits_stands _ es n h) in
    let other : eqb n 255 ≡ false = ne_eqb n 255 (λ e. omega arith) in
    ap (λ b. cond b runner.Caller (runner.Account n)) other

pub object_there : (es : List Entity) (x : Object) → object_fits es x ≡ true → object_at (numbers_of x) ≡ Some x
object_there es (object.Procedure e) h = refl
object_there es (object.Triggers e Inserted) h = refl
object_there es (object.Triggers e Updated) h = refl
object_there es (object.Triggers e Deleted) h = refl
object_there es (object.Created e) h = absurd cc

-- the record of a record's bytes

pub entity_back : (x : Entity) → entity_of (entity_bytes x) ≡ x
entity_back x = rw (kind_there x.kind, mode_there x.mode)

pub entity_decoded : (l : Lists) (n : ℕ) (x : Entity) → Sound l → slice_get l.entities n ≡ Some x → entity_of (entity_bytes x) ≡ x
entity_decoded l n x s e = entity_back x

pub link_decoded : (l : Lists) (n : ℕ) (x : Link) → Sound l → slice_get l.links n ≡ Some x → link_of (link_bytes x) ≡ x
link_decoded l n x s e = refl

pub right_is : (x : RightRecord) → right_of (right_bytes x) ≡ x
right_is x = rw (right_there x.right, option_there x.option)

pub right_decoded : (l : Lists) (n : ℕ) (x : RightRecord) → Sound l → slice_get l.rights n ≡ Some x → right_of (right_bytes x) ≡ x
right_decoded l n x s e = right_is x

pub member_decoded : (l : Lists) (n : ℕ) (x : Member) → Sound l → slice_get l.members n ≡ Some x → member_of (member_bytes x) ≡ x
member_decoded l n x s e = refl

pub line_is : (es : List Entity) (x : Line) → length es ≤ 96 → TakesLine es x → line_of (line_bytes x) ≡ x
line_is es x few t = go x.action t.2
  where
    go : (a : Action) → call_fits es a ≡ true → line_of (line_bytes (record { object = x.object; runner = x.runner; action = a })) ≡ record { object = x.object; runner = x.runner; action = a }
    go (action.Call y) h = rw (object_there es x.object t.0, runner_there es x.runner few t.1, object_there es y h)
    go (action.Grant g) h = absurd cc
    go (action.Join m) h = absurd cc

pub line_decoded : (l : Lists) (n : ℕ) (x : Line) → Sound l → slice_get l.lines n ≡ Some x → line_of (line_bytes x) ≡ x
line_decoded l n x s e = line_is l.entities x (entities_few l.entities s.entities) (nth_all (TakesLine l.entities) l.lines n x e s.lines.fit)
