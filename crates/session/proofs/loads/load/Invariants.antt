use Rattle.std.proofs.Common.{◌≡◌, take, vec_items, vec_len, vec_capacity}
use Rattle.session.proofs.loads.load.Given as goal

-- the records before n are copied
abbrev pub invariant-loop-n : goal.invariant-loop-n
invariant-loop-n g l =
    (vec_items l.table ≡ take l.n (g.T.Listed.listed (g.C.Catalogue.meaning l.catalogue)))
    × (vec_len l.table ≡ l.n)
    × (vec_capacity l.table ≡ vec_capacity l.initial.table)
