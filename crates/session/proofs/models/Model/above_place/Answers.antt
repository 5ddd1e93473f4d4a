use Rattle.std.proofs.lemmas.Bool.Decides.{Decides-like}
use Rattle.session.proofs.Readiness.{ready}
use Rattle.session.proofs.models.Model.above_place.Goals as goal

pub returns : goal.returns
returns c y = let same = (ready c.args.self.now).places c.args.x y in Decides-like _ same.0 same.1 (c.above.ensures y)
