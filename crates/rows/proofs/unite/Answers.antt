use Rattle.std.proofs.Common.{◌≡◌, List, ℕ, ◌++◌, length, take, arith, rules}
use Rattle.std.proofs.lemmas.List.{get_or-take, get_or_append_left}
use Rattle.std.proofs.lemmas.Slice.{drop-append-drop}
use Rattle.rows.specs.Rows.{IsUnion}
use Rattle.rows.proofs.unite.Goals as goal

-- a union of the rows at the front of two lists is one of the lists, whatever follows it
union_front : (a b f s u rest : List ℕ) → f ≡ take 96 a → s ≡ take 96 b → length u ≡ 96 → IsUnion f s u → IsUnion a b (u ++ rest)
union_front a b f s u rest p q n h e k l = grind (arith, h e k l, get_or-take 96 a e 0 l, get_or-take 96 b e 0 l, get_or_append_left u rest 0 e)

pub returns-clause-union : goal.returns-clause-union
returns-clause-union c = union_front _ _ _ _ _ _ c.in_ok-first.ensures.row.1 c.in_ok-second.ensures.row.1 c.put_union.ensures.len c.put_union.ensures.union

pub returns-clause-rest : goal.returns-clause-rest
returns-clause-rest c = search (rules, drop-append-drop)
