-- What was begun or followed stays so in a larger extent.
use Rattle.std.proofs.Common.{ℕ, inl, inr, ⊎_elim}
use Rattle.access.specs.declared.code.Line.{Line}
use Rattle.access.specs.Lists.{Lists}
use Rattle.holdings.specs.declared.tables.Holdings.{Holdings}
use Rattle.extent.specs.declared.extents.Extent.{Extent}
use Rattle.extent.specs.Growth.{Larger}
use Rattle.extent.specs.Turns.{Begun, Followed}
use Rattle.extent.proofs.Holding.{held_larger, may_larger}

module _ (L : Lists) (h : Holdings) {s t u v : Extent} (p : Larger s t) (q : Larger u v) where
  pub begun_wider : (a : ℕ) → Begun L h a t u → Begun L h a s v
  begun_wider a b = record {
    switch = λ w i k. q.acted w (b.switch w i (held_larger p h a _ _ k));
    grant = λ k e l m. q.given k e (b.grant k e l (may_larger p h a _ _ m));
    join = λ r i k. q.joined r (b.join r i (held_larger p h a _ _ k));
    call = λ x o k. q.entered _ _ (b.call x o (held_larger p h a _ _ k));
    taken = λ x w i m k. q.acted w (b.taken x w i (p.entered _ _ m) (held_larger p h a _ _ k));
  }

  pub followed_wider : (l : Line) → Followed L h l t u → Followed L h l s v
  followed_wider l f = record { entered = λ w y i m k d. q.entered _ _ (f.entered w y i (p.entered _ _ m) k (⊎_elim (λ n. inl (held_larger p h _ _ _ n)) (λ n. inr n) d)) }
