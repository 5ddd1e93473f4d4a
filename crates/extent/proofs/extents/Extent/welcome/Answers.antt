use Rattle.std.proofs.Common.{◌≡◌, ℕ, ◌+◌, ◌*◌, arith, inl, ap, ◌∙◌, sym, ⊎_elim}
use Rattle.std.proofs.lemmas.Bool.Decides.{not_from_Decides}
use Rattle.access.specs.Bits.{bit}
use Rattle.grid.specs.Grids.{noted}
use Rattle.lookup.specs.Tables.{slot_of}
use Rattle.extent.proofs.Rules.{enterer_held}
use Rattle.extent.proofs.extents.Extent.welcome.Goals as goal

pub returns : goal.returns
returns c w is =
    let y = c.args.called in
    let rows = c.args.tables.now.enterers.rows in
    let slot : c.place-place.result + 96 * c.sort.result ≡ slot_of y = omega (arith, c.place-place.ensures, c.sort.ensures) in
    let same : bit c.row.result w ≡ noted rows (slot_of y) w = c.row.ensures w ∙ ap (λ (n : ℕ). noted rows n w) slot in
    let (to, from) = enterer_held c.requires.told y w c.requires.object is c.args.self.now in (
      λ t. inl (to (sym same ∙ t)),
      λ m. ⊎_elim (λ h. same ∙ from (sym c.opens.ensures ∙ c.if-opens.false) h) (λ o. absurd (not_from_Decides _ c.one_owner.ensures c.if-one_owner.false o)) m,
    )
