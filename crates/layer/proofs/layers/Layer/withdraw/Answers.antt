use Rattle.std.proofs.Common.{◌≡◌, vec_items, sym, subst, rules}
use Rattle.catalogue.specs.Sound.{Sound}
use Rattle.layer.specs.Proposals.{over, withdrawn}
use Rattle.layer.proofs.Stays.{withdrawn_sound}
use Rattle.layer.proofs.layers.Layer.withdraw.Goals as goal

pub returns-clause-sound : goal.returns-clause-sound
returns-clause-sound g c s =
    let l = g.C.Catalogue.meaning c.args.self.now.below in
    let ps = vec_items c.args.self.now.proposals in
    let left : vec_items c.pop.new.self ≡ withdrawn ps = search rules in
    subst (λ qs. Sound (over l qs)) (sym left) (withdrawn_sound l ps s)
