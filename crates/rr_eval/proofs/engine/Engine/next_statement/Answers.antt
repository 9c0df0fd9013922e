-- The frame on top has one statement less to wait for.
use Rattle.std.proofs.Common.{◌≡◌, ◌+◌, ◌-◌, ◌*◌, ◌∙◌, arith, refl, subst, sym, ap, length, slice_get, take}
use Rattle.std.proofs.lemmas.List.{length-set}
use Rattle.rr_eval.specs.declared.frame.Frame.TheVariants.{Rest}
use Rattle.rr_eval.specs.Turns.{remaining_with, waits}
use Rattle.rr_eval.specs.Views.{view_of}
use Rattle.rr_eval.specs.Within.{IsControlReached, AreReached}
use Rattle.rr_eval.proofs.Topmost.{counted_frames, counted_goes, counted_nested, below_top}
use Rattle.rr_eval.proofs.Holding.{with_frame}
use Rattle.rr_eval.proofs.engine.Engine.next_statement.Goals as goal

pub returns-then-count-gt1-clause-goes : goal.returns-then-count-gt1-clause-goes
returns-then-count-gt1-clause-goes c p t h n =
    let m = view_of c.args.self.now in
    let k = c.saturating_sub-top.result in
    let last : c.saturating_sub-top.result ≡ length m.frames - 1 = omega arith in
    let there = ap (slice_get m.frames) last ∙ c.requires.top in
    let new = c.count_statements.new.frames.items in
    let counted = c.count_statements.ensures c.args.end c.args.count there in
    let place = c.saturating_sub.result in
    counted_goes p m t new c.args.end c.args.count place k c.args.value h n (omega arith) c.saturating_sub.ensures last c.requires.top counted
    ∙ ap (λ x. remaining_with p (record m { control = x; frames = new }) t h n) (sym c.enter.ensures)

pub returns-then-count-gt1-clause-nested : goal.returns-then-count-gt1-clause-nested
returns-then-count-gt1-clause-nested c =
    let m = view_of c.args.self.now in
    let last : c.saturating_sub-top.result ≡ length m.frames - 1 = omega arith in
    let there = ap (slice_get m.frames) last ∙ c.requires.top in
    counted_nested m c.count_statements.new.frames.items c.args.end c.args.count c.saturating_sub-top.result last c.requires.top (c.count_statements.ensures c.args.end c.args.count there) c.requires.nested

pub returns-then-count-gt1-clause-within : goal.returns-then-count-gt1-clause-within
returns-then-count-gt1-clause-within c k h =
    let m = view_of c.args.self.now in
    let top = c.saturating_sub-top.result in
    let last : c.saturating_sub-top.result ≡ length m.frames - 1 = omega arith in
    let there = ap (slice_get m.frames) last ∙ c.requires.top in
    let new = c.count_statements.new.frames.items in
    let below = take top m.frames in
    let f = Rest c.args.end (c.args.count - 1) in
    let is = counted_frames m.frames new c.args.end c.args.count top last c.requires.top (c.count_statements.ensures c.args.end c.args.count there) in
    let all = with_frame k (record m { frames = below }) f c.enter.new.self (below_top k m below top refl h) tt (subst (IsControlReached k) (sym c.enter.ensures) tt) in
    subst (λ fs. AreReached k (record m { control = c.enter.new.self; frames = fs })) (sym is) all

pub returns-then-count-gt1-clause-size : goal.returns-then-count-gt1-clause-size
returns-then-count-gt1-clause-size c =
    let m = view_of c.args.self.now in
    let last : c.saturating_sub-top.result ≡ length m.frames - 1 = omega arith in
    let there = ap (slice_get m.frames) last ∙ c.requires.top in
    let new = c.count_statements.new.frames.items in
    let long = ap length (c.count_statements.ensures c.args.end c.args.count there) ∙ length-set m.frames c.saturating_sub-top.result (Rest c.args.end (c.args.count - 1)) in
    let all = ap (λ k. 3 * length new + waits k) c.enter.ensures in
    omega (arith, long, all)
