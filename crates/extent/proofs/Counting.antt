-- Who is in an extent, and how little it counts.
use Rattle.std.proofs.Common.{ℕ, ◌≤◌, arith}
use Rattle.access.specs.declared.entities.Kind.TheVariants.{Account}
use Rattle.access.specs.Lists.{◌∈◌, Lists}
use Rattle.catalogue.specs.Sound.{Sound}
use Rattle.runs.specs.declared.steps.Entry.{Entry}
use Rattle.runs.specs.Standing.{Is, IsObject}
use Rattle.runs.proofs.Counting.{counts_are_limits}
use Rattle.runs.proofs.Realizing.{Peopled, run_peopled, start_peopled}
use Rattle.extent.specs.declared.extents.Extent.{Extent}
use Rattle.extent.specs.Shows.{Came}

module _ {L : Lists} {e : Extent} (s : Sound L) (c : Came L e) where
  pub came_peopled : Peopled L c.realized.final
  came_peopled = run_peopled L s (start_peopled L s e.opener c.opener) c.realized.run

  pub acted_account : (v : ℕ) → v ∈ c.state.acted → Is L Account v
  acted_account v m = came_peopled.acted v (c.realized.part.acted v m)

  pub entered_is : (n : Entry) → n ∈ c.state.entered → IsObject L n.object × Is L Account n.account
  entered_is n m = came_peopled.entered n (c.realized.part.entered n m)

  pub room : e.count ≤ 4096
  room =
      let l = counts_are_limits L s in
      let k = c.counted in
      omega (
        arith,
        k.few,
        l.acted c.state.acted k.acted acted_account,
        l.grants k.rights k.distinct_rights k.opened,
        l.joins k.members k.distinct_members k.joins,
        l.entered c.state.entered k.entered (λ n m. let o = entered_is n m in record { object = o.0; account = o.1 }),
      )
