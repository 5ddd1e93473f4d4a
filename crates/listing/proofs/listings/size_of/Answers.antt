use Rattle.std.proofs.Common.{◌*◌, ◌+◌, ◌≤◌, arith, mul-le-mul}
use Rattle.listing.proofs.listings.size_of.Goals as goal

pub overflow_mul-result : goal.overflow_mul-result
overflow_mul-result c =
    let n = c.count_accounts-count.result in
    let h : n ≤ 96 = c.count_accounts-count.ensures.bound in
    let w : n + 9 ≤ 105 = omega (arith, h) in
    let most : n * (n + 9) ≤ 96 * 105 = mul-le-mul h w in
    omega (arith, most)
