use Rattle.std.proofs.Common.{inr, arith, drop, length-drop, refl}
use Rattle.rr_lexer.specs.Contexts.{state_of}
use Rattle.rr_lexer.specs.Tokens.{Begins, NoneBegins}
use Rattle.rr_lexer.proofs.Tiling.{reached_skip, reached_token, reached_lost, reached_end, reached_all, reached_stuck, rest_is}
use Rattle.rr_lexer.proofs.lexing.all_tokens.Goals as goal
use Rattle.rr_lexer.proofs.lexing.all_tokens.Goals.{then-fits+then-not-is_skipped+in_ok-push, else-fits, else-fits-via-then-fits+else-not-is_skipped, else-fits-via-else-fits}

pub returns-in_default-clause-fault : goal.returns-in_default-clause-fault
returns-in_default-clause-fault c =
    let s = c.args.source.now in
    let e = c.syntax.ensures in
    let free : NoneBegins (state_of c.loop-place.context) (drop c.loop-place.place s) = rw (← rest_is s c.loop-place.place) c.in_default.ensures in
    rw e.2 (inr (
      c.refusal_at.ensures.tokens,
      record {
        allowed = c.requires;
        place = c.loop-place.place;
        stuck = reached_stuck s c.loop-place.tokens.items (state_of c.loop-place.context) c.loop-place.place c.loop-place-test.true free c.loop-place.invariant.reached;
        at = e.3;
        reason = rw (← rest_is s c.loop-place.place) c.refusal_at.ensures.is;
      },
    ))

pub loop-place-preserved : goal.loop-place-preserved
loop-place-preserved c =
    let s = c.args.source.now in
    let i = c.loop-place.place in
    let st = state_of c.loop-place.context in
    let b : Begins st (drop i s) c.in-Some.kind c.in-Some.n = rw (← rest_is s i) c.in-Some.ensures in
    let r = c.loop-place.invariant.reached in
    record {
      within = omega (arith, b.within, length-drop i s);
      reached = elim c.if-fits.branch [
        | then-fits+then-not-is_skipped+in_ok-push w ↦ rw (c.in_ok-follow.ensures, w.tokens-is, w.in_ok-push.ensures.items)
            (reached_token s c.loop-place.tokens.items st i c.in-Some.n c.in-Some.kind b (cc) r)
        | else-fits w ↦ rw (c.in_ok-follow.ensures, w.tokens-is) (elim w.else-fits.branch [
          | else-fits-via-then-fits+else-not-is_skipped v ↦ reached_skip s c.loop-place.tokens.items st i c.in-Some.n c.in-Some.kind b (cc) r
          | else-fits-via-else-fits v ↦ reached_lost s c.loop-place.tokens.items st i c.in-Some.n c.in-Some.kind v.if-fits.false b r
        ])
      ];
    }

pub returns-then-fits-2-clause-tokens : goal.returns-then-fits-2-clause-tokens
returns-then-fits-2-clause-tokens c =
    let s = c.args.source.now in
    let h = c.if-fits-2.true in
    (h, reached_end s c.loop-place.tokens.items (state_of c.loop-place.context) c.loop-place.place (omega (arith, c.loop-place.invariant.within, c.loop-place-test.false)) h c.loop-place.invariant.reached)

pub returns-else-fits-2-clause-fault : goal.returns-else-fits-2-clause-fault
returns-else-fits-2-clause-fault c =
    let s = c.args.source.now in
    let h = c.if-fits-2.false in
    (refl, h, c.requires, reached_all s c.loop-place.tokens.items (state_of c.loop-place.context) c.loop-place.place (omega (arith, c.loop-place.invariant.within, c.loop-place-test.false)) c.loop-place.invariant.reached)
