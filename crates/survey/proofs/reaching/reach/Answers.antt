use Rattle.std.proofs.Common.{rules, ◌≡◌, ◌++◌, List, ℕ, length, take, drop, sym, ap, ◌∙◌, subst}
use Rattle.std.proofs.lemmas.Slice.{drop-append-drop}
use Rattle.survey.specs.Used.{IsRow}
use Rattle.survey.proofs.Bytes.{front}
use Rattle.survey.proofs.reaching.reach.Goals as goal

pub copy_from_slice-requires : goal.copy_from_slice-requires
copy_from_slice-requires g c =
    let room : length (take 96 c.args.room.now) ≡ 96 = search rules in
    room ∙ sym c.row_of-row.ensures.long

pub returns-clause-row : goal.returns-clause-row
returns-clause-row g c =
    let row = c.row_of-row.result in
    let rest = drop 96 c.args.room.now in
    let same : take 96 (c.copy_from_slice.new.self ++ rest) ≡ row = ap (λ (r : List ℕ). take 96 (r ++ rest)) c.copy_from_slice.ensures.after ∙ front row rest c.row_of-row.ensures.long in
    subst (λ (r : List ℕ). IsRow (g.C.Catalogue.meaning c.args.catalogue.now) c.args.account r) (sym same)
    (subst (λ L. IsRow L c.args.account row) c.load.ensures c.row_of-row.ensures)

pub returns-clause-rest : goal.returns-clause-rest
returns-clause-rest g c =
    let long : length c.copy_from_slice.new.self ≡ 96 = c.copy_from_slice.ensures.len ∙ (search rules) in
    search (rules, drop-append-drop)
