use Rattle.std.proofs.Common.{refl}
use Rattle.layer.proofs.Passing.{built_sound}
use Rattle.layer.proofs.layers.building.Layer+Book.build.Goals as goal

pub returns : goal.returns
returns c =
    let e = c.apply.ensures in
    record {
      answer = e.answer;
      lists = e.lists;
      passed = record { proposals = refl; sound = built_sound c.args.self.now c.apply.new.book c.args.call e.lists };
    }
