-- The block gets an array, or the values themselves.
use Rattle.std.proofs.Common.{◌∙◌, Bool, ap, drop, length, sym}
use Rattle.rr_space.specs.declared.refer.Ref.{Ref}
use Rattle.rr_eval.specs.declared.frame.Frame.TheVariants.{Round}
use Rattle.rr_eval.specs.Frames.{iterated}
use Rattle.rr_eval.specs.Iterating.{array_turn, or_nil, turn_over}
use Rattle.rr_eval.specs.Pairs.{paired}
use Rattle.rr_eval.specs.Turns.{context_of, code_of, state_of, after_values}
use Rattle.rr_eval.specs.Views.{view_of}
use Rattle.rr_eval.specs.Within.{reach}
use Rattle.rr_eval.proofs.Invoking.{on_ok}
use Rattle.rr_eval.proofs.PairArrays.{first_given, last_given}
use Rattle.rr_eval.proofs.engine.Engine.take_turn.Goals as goal

pub returns-then-takes_array-clause-goes : goal.returns-then-takes_array-clause-goes
returns-then-takes_array-clause-goes c = λ h n.
    let p = c.args.program.now in
    let m = view_of c.args.self.now in
    let t = c.args.space.now in
    let i = c.args.iteration in
    let over = iterated (code_of p h.world) i (drop i.base m.held) in
    let makes = λ (v w : Ref). after_values p m t (Round i) (paired v w (array_turn (context_of p) over)) h n in
    ap (λ (b : Bool). after_values p m t (Round i) (turn_over (context_of p) over b c.args.first c.args.last (state_of p m t h).memory) h n) (sym c.takes_array.ensures ∙ c.if-takes_array.true)
    ∙ ap (λ v. makes v (or_nil c.args.last)) (sym c.or_nil-key.ensures.is)
    ∙ ap (makes c.or_nil-key.result) (sym c.or_nil-value.ensures.is)
    ∙ c.begin_pair.ensures.goes p t h n

pub returns-then-takes_array-clause-within : goal.returns-then-takes_array-clause-within
returns-then-takes_array-clause-within c clusters h given =
    let k = reach (length c.args.space.now.slots) clusters in
    c.begin_pair.ensures.within k h (c.or_nil-key.ensures.within k (first_given k c.args.first c.args.last given)) (c.or_nil-value.ensures.within k (last_given k c.args.first c.args.last given))

pub returns-else-takes_array-clause-goes : goal.returns-else-takes_array-clause-goes
returns-else-takes_array-clause-goes c =
    let p = c.args.program.now in
    let m = view_of c.args.self.now in
    let t = c.args.space.now in
    let i = c.args.iteration in
    on_ok c.call_turn.result _ _
    (λ goes h n. ap (λ (b : Bool). after_values p m t (Round i) (turn_over (context_of p) (iterated (code_of p h.world) i (drop i.base m.held)) b c.args.first c.args.last (state_of p m t h).memory) h n) (sym c.takes_array.ensures ∙ c.if-takes_array.false) ∙ goes h n)
    c.call_turn.ensures.goes
