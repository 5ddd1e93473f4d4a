use Rattle.std.proofs.Common.{◌≡◌, ◌+◌, ◌<◌, [], ◌∷◌, ◌++◌, length, take, sym, refl, ap, ◌∙◌, subst, arith}
use Rattle.std.proofs.lemmas.List.{take_more, take_all, drop-set-lt}
use Rattle.std.proofs.lemmas.Option.{slice_get_read}
use Rattle.std.proofs.lemmas.Bool.{cond_above}
use Rattle.book.proofs.Turning.{turned_more, turned_all}
use Rattle.book.proofs.fills.fill.Goals as goal

pub perform-requires : goal.perform-requires
perform-requires g c = (take c.loop-i.i c.args.calls.now, c.loop-i.invariant.0)

pub loop-i-preserved : goal.loop-i-preserved
loop-i-preserved g c =
    let calls = c.args.calls.now in
    let i = c.loop-i.i in
    let x = c.index-calls-i.result in
    let r = c.perform.result in
    let h = c.loop-i-test.true in
    let room : i < length c.loop-i.answers = omega arith in
    let more : take (i + 1) calls ≡ take i calls ++ x ∷ [] = take_more calls i x h ∙ ap (λ y. take i calls ++ y ∷ []) (sym c.index-calls-i.is) in
    let answer = c.perform.ensures.answer (take i calls) c.loop-i.invariant.0 in
    let set = drop-set-lt (length calls) c.loop-i.answers i r h in
    let rest = c.loop-i.invariant.2 in (
      subst (g.T.Gathers.holds c.perform.new.self) (sym more) (c.perform.ensures.holds (take i calls) c.loop-i.invariant.0),
      turned_more g.T.Gathers.returns calls c.loop-i.answers i x r room (slice_get_read calls (length calls) i x refl h c.index-calls-i.is) answer c.loop-i.invariant.1,
      cc,
    )

pub returns : goal.returns
returns g c =
    let calls = c.args.calls.now in
    let i = c.loop-i.i in
    let past = c.loop-i-test.false in
    record {
      count = cond_above (length c.args.answers.now) (length calls) _ _ _ c.if-answers-calls.false refl;
      refused = λ h. absurd (omega (arith, c.if-answers-calls.false));
      holds = λ _. subst (g.T.Gathers.holds c.loop-i.on) (take_all i calls past) c.loop-i.invariant.0;
      answers = λ _. turned_all g.T.Gathers.returns calls c.loop-i.answers i past c.loop-i.invariant.1;
      rest = c.loop-i.invariant.2;
    }
