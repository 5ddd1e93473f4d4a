-- Laws of the numbers of rights.
use Rattle.std.proofs.Common.{rules, ◌≡◌, ℕ, zero, suc, ◌<◌, refl, arith}
use mathlib.Core.List.Memᴰ
use Rattle.access.specs.Lists.{◌∈◌}
use Rattle.access.specs.Numbers.{right_number, rights}
use Rattle.access.specs.declared.rights.Right.{Right}
use Rattle.access.specs.declared.rights.Right.TheVariants.{Select, Insert, Update, Delete, Alter, Execute, Impersonate}

pub right_small : (r : Right) → right_number r < 7
right_small Select = omega arith
right_small Insert = omega arith
right_small Update = omega arith
right_small Delete = omega arith
right_small Alter = omega arith
right_small Execute = omega arith
right_small Impersonate = omega arith

-- rights of one number are one right
pub same_right : (r s : Right) → right_number r ≡ right_number s → r ≡ s
same_right = search rules

-- each number below 7 is one of a right
pub right_numbered : (k : ℕ) → k < 7 → (r : Right) × (right_number r ≡ k)
right_numbered zero h = (Select, refl)
right_numbered (suc zero) h = (Insert, refl)
right_numbered (suc (suc zero)) h = (Update, refl)
right_numbered (suc (suc (suc zero))) h = (Delete, refl)
right_numbered (suc (suc (suc (suc zero)))) h = (Alter, refl)
right_numbered (suc (suc (suc (suc (suc zero))))) h = (Execute, refl)
right_numbered (suc (suc (suc (suc (suc (suc zero)))))) h = (Impersonate, refl)
right_numbered (suc (suc (suc (suc (suc (suc (suc k))))))) h = absurd (omega arith)

-- the list of rights has every right
pub right_listed : (r : Right) → r ∈ rights
right_listed Select = Memᴰ.head refl
right_listed Insert = Memᴰ.tail (Memᴰ.head refl)
right_listed Update = Memᴰ.tail (Memᴰ.tail (Memᴰ.head refl))
right_listed Delete = Memᴰ.tail (Memᴰ.tail (Memᴰ.tail (Memᴰ.head refl)))
right_listed Alter = Memᴰ.tail (Memᴰ.tail (Memᴰ.tail (Memᴰ.tail (Memᴰ.head refl))))
right_listed Execute = Memᴰ.tail (Memᴰ.tail (Memᴰ.tail (Memᴰ.tail (Memᴰ.tail (Memᴰ.head refl)))))
right_listed Impersonate = Memᴰ.tail (Memᴰ.tail (Memᴰ.tail (Memᴰ.tail (Memᴰ.tail (Memᴰ.tail (Memᴰ.head refl))))))
