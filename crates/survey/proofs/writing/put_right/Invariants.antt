use Rattle.std.proofs.Common.{◌≡◌, ℕ, true, not, ◌&&◌, ◌||◌, eqb, slice_index}
use Rattle.access.specs.Bits.{bit}
use Rattle.survey.proofs.writing.put_right.Given as goal

-- the entities that were taken have the right
abbrev pub invariant-loop-e : goal.invariant-loop-e
invariant-loop-e l = record {
  among : (e : ℕ) → bit l.e-iterator.0 e ≡ true → bit l.entities e ≡ true;
  told : (e j : ℕ) → bit (slice_index l.row e) j ≡ (bit (slice_index l.initial.row e) j || (eqb j l.k && (bit l.entities e && not (bit l.e-iterator.0 e))));
}
