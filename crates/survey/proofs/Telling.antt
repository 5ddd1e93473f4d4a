-- What rows tell of who can come to act as whom.
use Rattle.std.proofs.Common.{ℕ, List, refl, sym, subst}
use Rattle.std.proofs.lemmas.Bool.Decides.{same_from_decides}
use Rattle.access.specs.declared.entities.Kind.TheVariants.{Account}
use Rattle.access.specs.declared.rights.Right.{Right}
use Rattle.access.specs.Lists.{Lists}
use Rattle.access.specs.Numbers.{right_number}
use Rattle.access.proofs.NumberLaws.{same_right}
use Rattle.catalogue.specs.Sound.{Sound}
use Rattle.runs.specs.Standing.{Is}
use Rattle.runs.specs.Runs.{ActsAs, Use}
use Rattle.runs.proofs.Acting.{act_then_use, acting_is_using}
use Rattle.fitting.proofs.Smalls.{stands_small}
use Rattle.survey.specs.Used.{UsedAt, IsRow}
use Rattle.survey.specs.Laws.{OneRow, RowsTellActing}
use Rattle.survey.proofs.Bytes.{Contains, same_contains, contained_same, contains_union, union_contains, rows_same}

used_right : (L : Lists) (a e : ℕ) (r : Right) → UsedAt L a e (right_number r) → Use L a e r
used_right L a e r (s, n, u) = subst (Use L a e) (same_right s r n) u

module _ {L : Lists} {a b : ℕ} {xs ys : List ℕ} (p : IsRow L a xs) (q : IsRow L b ys) where
  -- the row of an account contains that of one that it can come to act as
  pub acts_contains : ActsAs L a b → Contains xs ys
  acts_contains h e k l t = let (r, n, u) = (q.bits e k l).0 t in (p.bits e k l).1 (r, n, act_then_use L a b h e r u)

  -- and of no other
  pub contains_acts : Sound L → Is L Account b → Contains xs ys → ActsAs L a b
  contains_acts s i c =
      (acting_is_using L s a b i).1
      (λ e r t u.
      let l = stands_small s e t in
      let k = right_number r in
      used_right L a e r ((p.bits e k l).0 (c e k l ((q.bits e k l).1 (r, refl, u)))))

pub one_row : OneRow
one_row L a xs ys p q = rows_same xs ys p.long q.long (λ e k l. same_from_decides _ _ (p.bits e k l) (q.bits e k l))

pub rows_tell_acting : RowsTellActing
rows_tell_acting L a b xs ys zs s i j p q n u = record {
  equal = (
    λ e. (contains_acts p q s j (same_contains e), contains_acts q p s i (same_contains (sym e))),
    λ h. contained_same xs ys p.long q.long (acts_contains p q h.0) (acts_contains q p h.1),
  );
  united = (λ e. contains_acts p q s j (union_contains xs ys zs u e), λ h. contains_union xs ys zs p.long n u (acts_contains p q h));
}
