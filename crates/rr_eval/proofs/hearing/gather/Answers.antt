-- One value more is seen.
use Rattle.std.proofs.Common.{◌≡◌, ◌∙◌, ◌+◌, ◌++◌, ap, sym, subst, arith, suc, drop, length, length-append, slice_index_or}
use Rattle.std.specs.List.{All}
use Rattle.rr_space.specs.declared.refer.Ref.TheVariants.{Nil}
use Rattle.rr_eval.specs.declared.hearing.Heard.TheVariants.{Said, Runs, Fails}
use Rattle.rr_eval.specs.declared.hearing.Gathered.TheVariants.{Runs as RunsThen}
use Rattle.rr_eval.specs.Heard.{SameThere, IsHeardBy, still_asked, script_of}
use Rattle.rr_eval.specs.Speaking.{sayer, printed_for}
use Rattle.rr_eval.specs.Turns.{context_of}
use Rattle.rr_eval.specs.Within.{reach, IsReached}
use Rattle.rr_eval.proofs.Answered.{at_seen, gathers, gathers_body, gathers_problem, gathers_all, kept_more, printed_reached}
use Rattle.rr_eval.proofs.Holding.{all_append}
use Rattle.rr_eval.proofs.hearing.gather.Goals as goal

pub loop-seen-preserved : goal.loop-seen-preserved
loop-seen-preserved c =
    let p = c.args.prepared.now.program in
    let t = c.args.space.now in
    let a = c.args.asking in
    let first = c.args.held.now.items in
    let held = c.loop-seen.held.items in
    let more = c.hold_printed.new.held.items in
    let seen = c.loop-seen.seen in
    let v = slice_index_or (drop a.base held) seen Nil in
    let value : c.value_at-value.result ≡ v = c.value_at-value.ensures.is ∙ ap (λ l. slice_index_or l seen Nil) c.standing-stand.ensures.is in
    let is = subst (λ w. IsHeardBy p t (sayer (context_of p) t a.name w) a.name w (Said c.in-Said.said)) value c.in-Said.ensures.is in
    let push : more ≡ held ++ printed_for a.saying v c.in-Said.said = c.in_ok-hold_printed-in-Said.ensures.held ∙ ap (λ w. held ++ printed_for a.saying w c.in-Said.said) value in
    let next : suc seen ≡ seen + 1 = omega arith in
    record {
      kept = kept_more first held more _ c.loop-seen.invariant.kept push;
      inside = omega (arith, c.loop-seen.invariant.inside, ap (λ l. length l) push, length-append held (printed_for a.saying v c.in-Said.said));
      goes = subst (λ n. SameThere t (still_asked p a first) (still_asked p (at_seen a n) more)) next (gathers p t a first held more seen c.in-Said.said c.loop-seen-test.true c.loop-seen.invariant.inside c.loop-seen.invariant.goes is push);
      reached = λ clusters h.
          let k = reach (length t.slots) clusters in
          let old = c.loop-seen.invariant.reached clusters h in
          let own = subst (IsReached k) value (c.value_at-value.ensures.within k (c.standing-stand.ensures.within k old)) in
          subst (All (IsReached k)) (sym push) (all_append (IsReached k) held _ old (printed_reached k a.saying v c.in-Said.said own (c.in-Said.ensures.within clusters)));
    }

pub returns-in_err-hold_printed-in-Said-clause-within : goal.returns-in_err-hold_printed-in-Said-clause-within
returns-in_err-hold_printed-in-Said-clause-within c clusters h =
    subst (All (IsReached (reach (length c.args.space.now.slots) clusters))) (sym c.in_err-hold_printed-in-Said.ensures.kept) (c.loop-seen.invariant.reached clusters h)

pub returns-in-Runs-clause-goes : goal.returns-in-Runs-clause-goes
returns-in-Runs-clause-goes c =
    let p = c.args.prepared.now.program in
    let t = c.args.space.now in
    let a = c.args.asking in
    let first = c.args.held.now.items in
    let held = c.loop-seen.held.items in
    let seen = c.loop-seen.seen in
    let v = slice_index_or (drop a.base held) seen Nil in
    let value : c.value_at-value.result ≡ v = c.value_at-value.ensures.is ∙ ap (λ l. slice_index_or l seen Nil) c.standing-stand.ensures.is in
    let is = subst (λ w. IsHeardBy p t (sayer (context_of p) t a.name w) a.name w (Runs c.in-Runs.class c.in-Runs.body)) value c.in-Runs.ensures.is in
    let next : suc seen ≡ seen + 1 = omega arith in
    subst (λ n. SameThere t (still_asked p a first) (script_of p a held (RunsThen (at_seen a n) c.in-Runs.class c.in-Runs.body))) next
    (gathers_body p t a first held seen c.in-Runs.class c.in-Runs.body c.loop-seen-test.true c.loop-seen.invariant.inside c.loop-seen.invariant.goes is)

pub returns-in-Fails-clause-goes : goal.returns-in-Fails-clause-goes
returns-in-Fails-clause-goes c =
    let p = c.args.prepared.now.program in
    let t = c.args.space.now in
    let a = c.args.asking in
    let first = c.args.held.now.items in
    let held = c.loop-seen.held.items in
    let seen = c.loop-seen.seen in
    let v = slice_index_or (drop a.base held) seen Nil in
    let value : c.value_at-value.result ≡ v = c.value_at-value.ensures.is ∙ ap (λ l. slice_index_or l seen Nil) c.standing-stand.ensures.is in
    let is = subst (λ w. IsHeardBy p t (sayer (context_of p) t a.name w) a.name w (Fails c.in-Fails.problem)) value c.in-Fails.ensures.is in
    gathers_problem p t a first held seen c.in-Fails.problem c.loop-seen-test.true c.loop-seen.invariant.inside c.loop-seen.invariant.goes is

pub returns-clause-goes : goal.returns-clause-goes
returns-clause-goes c =
    let p = c.args.prepared.now.program in
    let a = c.args.asking in
    gathers_all p c.args.space.now a c.args.held.now.items c.loop-seen.held.items c.loop-seen.seen (omega (arith, c.loop-seen-test.false)) c.loop-seen.invariant.goes
