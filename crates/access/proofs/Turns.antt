-- Lists of which each element could come after those before it.
use Rattle.std.proofs.Common.{List, [], ◌∷◌, ◌++◌, sym, refl, subst}
use Rattle.std.proofs.lemmas.List.{append-nil, append_assoc}
use Rattle.access.specs.Orders.{InTurn}

module _ {X : Type 0} (P : List X → X → Type 0) where
  -- one element more
  pub turn_push : (before xs : List X) (x : X) → InTurn P before xs → P (before ++ xs) x → InTurn P before (xs ++ x ∷ [])
  turn_push before [] x h p = (subst (λ b. P b x) (append-nil before) p, tt)
  turn_push before (y ∷ ys) x h p =
      (h.0, turn_push (before ++ y ∷ []) ys x h.1 (subst (λ b. P b x) (sym (append_assoc before (y ∷ []) ys)) p))

  -- what holds at the start and is kept by each element holds at the end
  pub turn_ind : (Q : List X → Type 0) → ((b : List X) (x : X) → Q b → P b x → Q (b ++ x ∷ []))
      → (before xs : List X) → Q before → InTurn P before xs → Q (before ++ xs)
  turn_ind Q step before [] q h = subst Q (sym (append-nil before)) q
  turn_ind Q step before (y ∷ ys) q h =
      subst Q (append_assoc before (y ∷ []) ys) (turn_ind Q step (before ++ y ∷ []) ys (step before y q h.0) h.1)

  pub turn_prop : ((b : List X) (x : X) → IsProp (P b x)) → (before xs : List X) → IsProp (InTurn P before xs)
  turn_prop h before [] p q = refl
  turn_prop h before (y ∷ ys) p q = λ i. (h before y p.0 q.0 i, turn_prop h (before ++ y ∷ []) ys p.1 q.1 i)

-- the same list under another condition, by what holds of the elements before
pub turn_map : {X : Type 0} (P Q : List X → X → Type 0) (I : List X → Type 0)
    → ((b : List X) (x : X) → I b → P b x → Q b x) → ((b : List X) (x : X) → I b → P b x → I (b ++ x ∷ []))
    → (before xs : List X) → I before → InTurn P before xs → InTurn Q before xs
turn_map P Q I f g before [] i h = tt
turn_map P Q I f g before (y ∷ ys) i h =
    (f before y i h.0, turn_map P Q I f g (before ++ y ∷ []) ys (g before y i h.0) h.1)
