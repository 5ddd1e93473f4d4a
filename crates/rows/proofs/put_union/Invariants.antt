use Rattle.std.proofs.Common.{◌≡◌, ℕ, ◌<◌, ◌||◌, slice_index}
use Rattle.access.specs.Bits.{bit}
use Rattle.rows.proofs.put_union.Given as goal

-- the bytes before this one are done
abbrev pub invariant-loop-e : goal.invariant-loop-e
invariant-loop-e l = (x k : ℕ) → x < l.e → bit (slice_index l.room x) k ≡ (bit (slice_index l.first x) k || bit (slice_index l.second x) k)
