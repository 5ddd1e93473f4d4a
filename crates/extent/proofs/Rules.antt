-- Which rules allow what plants and lines add.
use Rattle.std.proofs.Common.{◌≡◌, ℕ, ◌<◌, Bool, true, false, ◌&&◌, ◌∙◌, ◌⊎◌, inl, inr, sym, refl, subst, ⊎_elim}
use Rattle.std.proofs.lemmas.Bool.{and_from, both_ways, or_cases, or_left}
use Rattle.access.specs.declared.entities.Kind.TheVariants.{Account}
use Rattle.access.specs.declared.rights.Right.TheVariants.{Alter}
use Rattle.access.specs.declared.code.Object.{Object}
use Rattle.access.specs.declared.code.Action.{Action}
use Rattle.access.specs.declared.code.Action.TheVariants.{Call}
use Rattle.access.specs.declared.code.Line.{Line}
use Rattle.access.specs.Bits.{bit}
use Rattle.access.specs.Lists.{◌∈◌, Lists}
use Rattle.access.specs.Numbers.{right_number}
use Rattle.access.specs.Places.{place_of}
use Rattle.grid.specs.Grids.{noted}
use Rattle.catalogue.specs.Sound.{Sound}
use Rattle.lookup.specs.Tables.{slot_of}
use Rattle.runs.specs.Standing.{Is, IsObject, OneOwner, Owns, entry_right}
use Rattle.runs.specs.States.{State, pair, acting, done}
use Rattle.runs.specs.Runs.{worker, MayDo, by_right, by_owner}
use Rattle.runs.specs.Saturated.{Plantable, Rule, taken, lent, follow}
use Rattle.runs.proofs.Grounds.{line_objects, runners}
use Rattle.runs.proofs.Realizing.{worker_account}
use Rattle.holdings.specs.declared.tables.Holdings.{Holdings}
use Rattle.holdings.specs.Rows.{has}
use Rattle.holdings.specs.Told.{Told}
use Rattle.holdings.proofs.Calling.{called_object}
use Rattle.extent.specs.declared.extents.Extent.{Extent}
use Rattle.extent.specs.Tests.{held, entrant, entry}
use Rattle.extent.specs.Shows.{Shows, Came}
use Rattle.extent.specs.Growth.{Larger}
use Rattle.extent.specs.Turns.{Enters, Peers}
use Rattle.extent.proofs.Growing.{larger_trans}
use Rattle.extent.proofs.Holding.{held_holds, held_larger}
use Rattle.fitting.proofs.Smalls.{is_small, object_small}
use Rattle.extent.proofs.Counting.{came_peopled}

-- an extent's accounts are accounts of the catalogue
module _ {L : Lists} {s : Extent} (sound : Sound L) (c : Came L s) where
  pub acted_account : (v : ℕ) → bit s.acted v ≡ true → Is L Account v
  acted_account v t = (came_peopled sound c).acted v (c.realized.part.acted v ((c.shows.acted v).0 t))

  pub entrant_account : (x : Object) (v : ℕ) → place_of x < 96 → entrant s x v ≡ true → Is L Account v
  entrant_account x v h t = ((came_peopled sound c).entered _ (c.realized.part.entered _ ((c.shows.entrants x v h).0 t))).1

  -- so is who a line runs under
  pub line_account : (l : Line) → l ∈ L.lines → (v : ℕ) → entrant s l.object v ≡ true → Is L Account (worker l.runner v)
  line_account l m v t =
      worker_account L sound (entrant_account l.object v (object_small sound (line_objects L sound l m)) t) (runners L sound l m)

  pub worker_is : (l : Line) → l ∈ L.lines → (w : ℕ) → (v : ℕ) × (entrant s l.object v ≡ true) × (worker l.runner v ≡ w) → Is L Account w
  worker_is l m w (v, e, same) = subst (Is L Account) same (line_account l m v e)

-- both tables tell the same of who entered what
module _ {L : Lists} {s : Extent} {F : State} (shows : Shows L s F) (x : Object) (v : ℕ) (h : place_of x < 96) (k : v < 96) where
  pub entry_entrant : entry s x v ≡ true → entrant s x v ≡ true
  entry_entrant t = (shows.entrants x v h).1 ((shows.entered x v k).0 t)

  pub entrant_entry : entrant s x v ≡ true → entry s x v ≡ true
  entrant_entry t = (shows.entered x v k).1 ((shows.entrants x v h).0 t)

-- an entered object is in one of the places
pub entry_place : {L : Lists} {s : Extent} {F : State} → Shows L s F → (x : Object) (v : ℕ) → v < 96 → entry s x v ≡ true → bit s.places (place_of x) ≡ true
entry_place shows x v k t = (shows.places (place_of x)).1 (pair x v, (shows.entered x v k).0 t, refl)

-- where it is entered an account that may alter the place has a foothold
pub foothold : {L : Lists} {s : Extent} → Sound L → Came L s → (x : Object) (v : ℕ) → Is L Account v → entry s x v ≡ true → {alters : Bool} (places : ℕ)
    → bit places (place_of x) ≡ (alters && bit s.places (place_of x)) → alters ≡ true → bit places (place_of x) ≡ true
foothold sound c x v i m places told p = told ∙ and_from _ _ p (entry_place c.shows x v (is_small sound i) m)

-- who a line is followed for, and what it enters, are the same by both tables
module _ {L : Lists} {s : Extent} (sound : Sound L) (c : Came L s) (l : Line) (listed : l ∈ L.lines) (v : ℕ) where
  pub line_entrant : Is L Account v → entry s l.object v ≡ true → entrant s l.object v ≡ true
  line_entrant i = entry_entrant c.shows l.object v (object_small sound (line_objects L sound l listed)) (is_small sound i)

  pub enters_again : entrant s l.object v ≡ true → (y : Object) → l.action ≡ Call y → entrant s y (worker l.runner v) ≡ true → entry s y (worker l.runner v) ≡ true
  enters_again t y e =
      entrant_entry c.shows y (worker l.runner v) (object_small sound (called_object sound l listed y e))
      (is_small sound (line_account sound c l listed v t))

pub same_call : {x y : Object} → Call x ≡ Call y → x ≡ y
same_call e = cc

-- what a rule lets an account enter, it lets it enter in what the extent grows to
pub enters_later : {L : Lists} {s t : Extent} (x : Object) (v : ℕ) → Larger s t → Enters L s x v → Enters L t x v
enters_later x v l e u F k shows = e u F (larger_trans l k) shows

-- what account a can do by planting
module _ {L : Lists} {h : Holdings} {s : Extent} (told : Told L h) (a : ℕ) (i : Is L Account a) (acted : bit s.acted a ≡ true) where
  plantable : (t : Extent) (F : State) → Larger s t → Shows L t F → (x : Object) → held h s a 4 (place_of x) ≡ true → Plantable L F x
  plantable t F l shows x p = record {
    planter = a;
    acted = (shows.acted a).0 (l.acted a acted);
    holds = held_holds told shows i (place_of x) Alter (held_larger l h a 4 (place_of x) p);
  }

  -- it takes over who entered an object where it can plant
  pub takes_over : (t : Extent) (F : State) → Larger s t → Shows L t F → (v : ℕ) → v < 96
      → (x : Object) × (entry t x v ≡ true) × (held h s a 4 (place_of x) ≡ true) → Rule L F (acting F v)
  takes_over t F l shows v k (x, e, p) = taken ((shows.entered x v k).0 e) (plantable t F l shows x p)

  -- it lends an account to the objects of an owner of such a place
  pub lends : (u : ℕ) (y : Object) → bit s.acted u ≡ true → IsObject L y → (e : ℕ) → bit s.places e ≡ true → held h s a 4 e ≡ true → Peers L e (place_of y)
      → Enters L s y u
  lends u y acts object e there p peers t F l shows =
      let (n, m, at) = (shows.places e).0 (l.places e there) in
      lent m (plantable t F l shows n.object (subst (λ (d : ℕ). held h s a 4 d ≡ true) (sym at) p)) ((shows.acted u).0 (l.acted u acts)) object
      (record { owner = peers.owner; first = subst (Owns L peers.owner) (sym at) peers.first; second = peers.second })

-- a line lets whom it runs under enter the object that it calls
module _ {L : Lists} {h : Holdings} (sound : Sound L) (told : Told L h) (l : Line) (listed : l ∈ L.lines) (y : Object) (called : l.action ≡ Call y) where
  may_do : (t : Extent) (F : State) → Shows L t F → (w : ℕ) → Is L Account w
      → (held h t w (right_number (entry_right y)) (place_of y) ≡ true) ⊎ OneOwner L l.object y → MayDo L F l.object w (Call y)
  may_do t F shows w i m = ⊎_elim (λ p. by_right (held_holds told shows i (place_of y) (entry_right y) p)) (λ o. by_owner o) m

  pub follows : (s : Extent) (v w : ℕ) → entrant s l.object v ≡ true → worker l.runner v ≡ w → Is L Account w
      → (held h s w (right_number (entry_right y)) (place_of y) ≡ true) ⊎ OneOwner L l.object y → Enters L s y w
  follows s v w e same i m t F k shows =
      let entered = (shows.entrants l.object v (object_small sound (line_objects L sound l listed))).0 (k.entrants _ _ e) in
      let may = may_do t F shows w i (⊎_elim (λ p. inl (held_larger k h w _ _ p)) (λ o. inr o) m) in
      let does : MayDo L F l.object (worker l.runner v) l.action =
      subst (MayDo L F l.object (worker l.runner v)) (sym called) (subst (λ (u : ℕ). MayDo L F l.object u (Call y)) (sym same) may) in
      subst (λ (a : Action). Rule L F (done F w a)) called (subst (λ (u : ℕ). Rule L F (done F u l.action)) same (follow entered listed does))

-- who may enter an object by the catalogue holds its right, and who holds it may enter so, unless everyone holds it by the session
pub enterer_held : {L : Lists} {h : Holdings} → Told L h → (y : Object) (w : ℕ) → IsObject L y → Is L Account w → (s : Extent)
    → (noted h.enterers.rows (slot_of y) w ≡ true → held h s w (right_number (entry_right y)) (place_of y) ≡ true)
    × (noted s.holds.rows (right_number (entry_right y)) (place_of y) ≡ false → held h s w (right_number (entry_right y)) (place_of y) ≡ true
    → noted h.enterers.rows (slot_of y) w ≡ true)
enterer_held {L} {h} told y w o is s =
    let k = right_number (entry_right y) in
    let e = place_of y in
    let rests = told.holds w e (entry_right y) is in
    let enters = told.enterers y w o is in (
      λ t. or_left (has h.of_accounts w k e) (noted s.holds.rows k e) (rests.1 (enters.0 t)),
      λ f t. ⊎_elim (λ p. enters.1 (rests.0 p)) (λ p. absurd (both_ways _ f p)) (or_cases (has h.of_accounts w k e) (noted s.holds.rows k e) t),
    )
