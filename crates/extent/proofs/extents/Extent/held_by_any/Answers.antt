use Rattle.std.proofs.Common.{rules, sym, ◌∙◌, ⊎_elim}
use Rattle.std.proofs.lemmas.Bool.{both_ways, and_parts, or_cases, or_left, or_right}
use Rattle.access.proofs.SetLaws.{bit_zero}
use Rattle.grid.proofs.Bitwise.{left_first, left_more, left_none}
use Rattle.extent.proofs.extents.Extent.held_by_any.Goals as goal

pub loop-account-init : goal.loop-account-init
loop-account-init c =
    rw c.into_iter-account-iterator.ensures.into_iter_gives
    (record {
      only = λ e b. absurd (both_ways _ (bit_zero e) b);
      among = λ v b. b;
      done = left_first _ _ _ (search rules) (λ v b f. absurd (both_ways _ f b));
    })

pub loop-account-preserved : goal.loop-account-preserved
loop-account-preserved c =
    let h = c.loop-account.invariant in
    let takes = c.in-Some.ensures.steps in
    let v = c.in-Some.account in
    record {
      only = λ e b. ⊎_elim (h.only e) (λ k. record { account = v; acted = h.among v takes.0; holds = sym (c.held.ensures e) ∙ k })
          (or_cases _ _ (sym (c.either-all.ensures e) ∙ b));
      among = λ w b. h.among w (and_parts _ _ (sym (takes.1 w) ∙ b)).0;
      done = left_more _ _ _ _ _ _ takes (λ w f e k. c.either-all.ensures e ∙ or_left _ _ (f e k))
          (λ _ e k. c.either-all.ensures e ∙ or_right _ _ (c.held.ensures e ∙ k)) h.done;
    }

pub returns : goal.returns
returns c e = (
  λ b. c.loop-account.invariant.only e b,
  λ w. left_none _ _ _ c.in-None.ensures.steps.0 c.loop-account.invariant.done w.account w.acted e w.holds,
)
