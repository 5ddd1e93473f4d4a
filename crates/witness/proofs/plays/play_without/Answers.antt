use Rattle.std.proofs.lemmas.List.{take_rest}
use Rattle.witness.proofs.Playing.{played_then}
use Rattle.witness.proofs.plays.play_without.Goals as goal

pub returns : goal.returns
returns c = simp take_rest at (played_then c.play.ensures.played c.play-2.ensures.played)
