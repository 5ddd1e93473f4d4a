use Rattle.std.proofs.Common.{◌≡◌, vec_items, ap, ◌∙◌, arith}
use Rattle.catalogue.specs.Counts.{count_of}
use Rattle.layer.specs.Proposals.{own, over}
use Rattle.layer.proofs.Over.{sound_below, count_over, count_few}
use Rattle.layer.proofs.layers.reading.LayerCatalogue.count.Goals as goal

pub count-requires : goal.count-requires
count-requires g c = sound_below (g.C.Catalogue.meaning c.args.self.now.below) (vec_items c.args.self.now.proposals) c.requires

pub overflow_add-result : goal.overflow_add-result
overflow_add-result g c =
    let l = g.C.Catalogue.meaning c.args.self.now.below in
    let ps = vec_items c.args.self.now.proposals in
    let n : c.count_own.result ≡ count_of (own ps) c.args.list = c.count_own.ensures ∙ ap (λ qs. count_of (own qs) c.args.list) c.deref.ensures.value in
    omega (arith, n, c.count.ensures, count_over l ps c.args.list, count_few (over l ps) c.args.list c.requires)

pub returns : goal.returns
returns g c =
    let l = g.C.Catalogue.meaning c.args.self.now.below in
    let ps = vec_items c.args.self.now.proposals in
    let n : c.count_own.result ≡ count_of (own ps) c.args.list = c.count_own.ensures ∙ ap (λ qs. count_of (own qs) c.args.list) c.deref.ensures.value in
    omega (arith, n, c.count.ensures, count_over l ps c.args.list)
