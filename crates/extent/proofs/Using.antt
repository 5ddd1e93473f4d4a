-- What the sessions of an account can come to use, by the sets.
use Rattle.std.proofs.Common.{◌≡◌, ℕ, ◌<◌, true, Decides, sym, subst}
use Rattle.access.specs.declared.rights.Right.{Right}
use Rattle.access.specs.Bits.{bit}
use Rattle.access.specs.Lists.{Lists}
use Rattle.access.specs.Numbers.{right_number}
use Rattle.catalogue.specs.Sound.{Sound}
use Rattle.runs.specs.Runs.{Use}
use Rattle.holdings.specs.declared.tables.Holdings.{Holdings}
use Rattle.holdings.specs.Told.{Told}
use Rattle.extent.specs.declared.extents.Extent.{Extent}
use Rattle.extent.specs.Tests.{held}
use Rattle.extent.specs.Turns.{Somebody}
use Rattle.extent.specs.Reached.{Reached}
use Rattle.runs.proofs.RightLaws.{holds_stands}
use Rattle.access.proofs.NumberLaws.{right_numbered}
use Rattle.fitting.proofs.Smalls.{stands_small}
use Rattle.extent.proofs.Holding.{held_holds, holds_held}

pub used : {L : Lists} {h : Holdings} {s : Extent} {a : ℕ} → Told L h → Reached L a s → (e k b : ℕ) (r : Right) → right_number r ≡ k
    → Decides (bit b e) (Somebody h s k e) → Decides (bit b e) (Use L a e r)
used {L} {h} {s} t z e k b r n d = (
  λ m. let w = d.0 m in
      let i = (z.shows.acted w.account).0 w.acted in
      (z.tells.uses e r).1 (w.account, i, held_holds t z.shows (z.accounts w.account i) e r (subst (λ j. held h s w.account j e ≡ true) (sym n) w.holds)),
  λ u. let (v, m, k) = (z.tells.uses e r).0 u in
      d.1 (record { account = v; acted = (z.shows.acted v).1 m; holds = subst (λ j. held h s v j e ≡ true) n (holds_held t z.shows (z.accounts v m) e r k) }),
)

pub used_small : {L : Lists} {h : Holdings} {s : Extent} {a : ℕ} → Sound L → Told L h → Reached L a s → (e k : ℕ) → k < 7 → Somebody h s k e → e < 96
used_small {L} {h} {s} sound t z e k l w =
    let i = (z.shows.acted w.account).0 w.acted in
    let (r, n) = right_numbered k l in
    stands_small sound e (holds_stands (held_holds t z.shows (z.accounts w.account i) e r (subst (λ j. held h s w.account j e ≡ true) (sym n) w.holds)))
