-- Steps that are played, and runs.
use Rattle.std.proofs.Common.{◌≡◌, ℕ, ◌+◌, ◌<◌, ◌≤◌, List, [], ◌∷◌, ◌++◌, length, get_or, take, refl, ap, subst, sym, append_assoc, append-nil, vec_items, ◌∙◌, arith}
use Rattle.std.proofs.lemmas.List.{take_more}
use Rattle.access.specs.Lists.{Lists}
use Rattle.runs.specs.declared.steps.Step.{Step}
use Rattle.runs.specs.States.{State}
use Rattle.runs.specs.Runs.{Allowed, after, Run, ends, goes}
use Rattle.replay.specs.Situations.{Situation, state_in}
use Rattle.witness.specs.Plays.{Plays, Played}

module _ {L : Lists} where
  -- what is done is a run
  pub plays_run : {S T : State} {ss ts : List Step} → Plays L S ss ts T → Run L S ts T
  plays_run Plays.ends = ends
  plays_run (Plays.does h p) = goes h (plays_run p)
  plays_run (Plays.skips n p) = plays_run p

  -- no more is done than is played
  pub plays_length : {S T : State} {ss ts : List Step} → Plays L S ss ts T → length ts ≤ length ss
  plays_length Plays.ends = omega arith
  plays_length (Plays.does h p) = let l = plays_length p in omega arith
  plays_length (Plays.skips n p) = let l = plays_length p in omega arith

  -- a run that is played ends where it ends
  pub plays_same : {S T U : State} {ss ts : List Step} → Run L S ss U → Plays L S ss ts T → T ≡ U
  plays_same ends Plays.ends = refl
  plays_same (goes h r) (Plays.does k p) = plays_same r p
  plays_same (goes h r) (Plays.skips n p) = absurd (n h)

  -- how a run begins is done
  pub plays_first : {S T U : State} (xs ys rs : List Step) {ts : List Step} → Run L S (xs ++ ys) U → Plays L S (xs ++ rs) ts T → length xs ≤ length ts
  plays_first [] ys rs r p = omega arith
  plays_first (x ∷ xs) ys rs (goes h r) (Plays.does k p) = let l = plays_first xs ys rs r p in omega arith
  plays_first (x ∷ xs) ys rs (goes h r) (Plays.skips n p) = absurd (n h)

  pub plays_then : {S T U : State} {ss rs ts us : List Step} → Plays L S ss ts T → Plays L T rs us U → Plays L S (ss ++ rs) (ts ++ us) U
  plays_then Plays.ends q = q
  plays_then (Plays.does h p) q = Plays.does h (plays_then p q)
  plays_then (Plays.skips n p) q = Plays.skips n (plays_then p q)

pub played_none : (a : Situation) → Played a [] a
played_none a = record { lists = refl; taken = []; plays = Plays.ends; kept = sym (append-nil _) }

-- one step, which is done or skipped
pub played_done : {a b : Situation} {s : Step} → Allowed a.lists (state_in a) s → b.lists ≡ a.lists → state_in b ≡ after (state_in a) s
    → vec_items b.came.steps ≡ vec_items a.came.steps ++ s ∷ [] → Played a (s ∷ []) b
played_done {a} {s = s} h l t k = record {
  lists = l;
  taken = s ∷ [];
  plays = rw t (Plays.does h Plays.ends);
  kept = k;
}

pub played_skipped : {a : Situation} {s : Step} → (Allowed a.lists (state_in a) s → ⊥) → Played a (s ∷ []) a
played_skipped n = record { lists = refl; taken = []; plays = Plays.skips n Plays.ends; kept = sym (append-nil _) }

pub played_then : {a b c : Situation} {ss rs : List Step} → Played a ss b → Played b rs c → Played a (ss ++ rs) c
played_then {a} {b} {c} {rs = rs} p q = record {
  lists = q.lists ∙ p.lists;
  taken = p.taken ++ q.taken;
  plays = plays_then p.plays (subst (λ (M : Lists). Plays M (state_in b) rs q.taken (state_in c)) p.lists q.plays);
  kept = q.kept ∙ ap (λ xs. xs ++ q.taken) p.kept ∙ append_assoc (vec_items a.came.steps) p.taken q.taken;
}

-- one step more
pub played_more : {a b c : Situation} (steps : List Step) (i : ℕ) (d : Step) → i < length steps → Played a (take i steps) b
    → Played b (get_or steps i d ∷ []) c → Played a (take (i + 1) steps) c
played_more steps i d h p q = rw (take_more steps i d h) (played_then p q)
