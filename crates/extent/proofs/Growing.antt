-- What an extent has it keeps while it grows.
use Rattle.std.proofs.Common.{◌≤◌, refl, ◌∙◌, arith}
use Rattle.extent.specs.declared.extents.Extent.{Extent}
use Rattle.extent.specs.Growth.{Larger, Grown}

pub larger_same : (s : Extent) → Larger s s
larger_same s = record {
  opener = refl;
  acted = λ v x. x;
  joined = λ q x. x;
  places = λ e x. x;
  given = λ k e x. x;
  holds = λ k e x. x;
  grants = λ k e x. x;
  entrants = λ z v x. x;
  entered = λ z e x. x;
}

pub larger_trans : {s t u : Extent} → Larger s t → Larger t u → Larger s u
larger_trans a b = record {
  opener = b.opener ∙ a.opener;
  acted = λ v x. b.acted v (a.acted v x);
  joined = λ q x. b.joined q (a.joined q x);
  places = λ e x. b.places e (a.places e x);
  given = λ k e x. b.given k e (a.given k e x);
  holds = λ k e x. b.holds k e (a.holds k e x);
  grants = λ k e x. b.grants k e (a.grants k e x);
  entrants = λ z v x. b.entrants z v (a.entrants z v x);
  entered = λ z e x. b.entered z e (a.entered z e x);
}

pub grown_same : (s : Extent) → Grown s s
grown_same s = record { larger = larger_same s; counts = omega arith; quiet = λ _. refl }

pub grown_trans : {s t u : Extent} → Grown s t → Grown t u → Grown s u
grown_trans {s} {t} {u} a b =
    let m : s.count ≤ t.count = a.counts in
    let n : t.count ≤ u.count = b.counts in
    record { larger = larger_trans a.larger b.larger; counts = omega arith; quiet = λ e. b.quiet (omega arith) ∙ a.quiet (omega arith) }
