-- The first of the values has a method of the program.
use Rattle.std.proofs.Common.{◌∙◌, ◌++◌, ◌∷◌, [], ap, sym, slice_index_or, drop, length, None}
use Rattle.rr_space.specs.declared.refer.Ref.{Ref}
use Rattle.rr_space.specs.declared.refer.Ref.TheVariants.{Nil}
use Rattle.rr_eval.specs.declared.call.Callee.TheVariants.{Name}
use Rattle.rr_eval.specs.Dispatch.{method_for, run_method, way_of}
use Rattle.rr_eval.specs.Frames.{stand_of}
use Rattle.rr_eval.specs.Joins.{joined_by}
use Rattle.rr_eval.specs.Prepared.{callable_of}
use Rattle.rr_eval.specs.Turns.{context_of, after_values}
use Rattle.rr_eval.specs.Views.{view_of}
use Rattle.rr_eval.specs.Within.{reach, IsReached}
use Rattle.rr_eval.proofs.Finishing.{run_first}
use Rattle.rr_eval.proofs.Holding.{all_cons, all_nil, held_reached}
use Rattle.rr_eval.proofs.Instead.{as_sent}
use Rattle.rr_eval.proofs.engine.Engine.finish_sent.Goals as goal

pub returns-clause-goes : goal.returns-clause-goes
returns-clause-goes c = λ done h n.
    let p = c.args.prepared.now.program in
    let own = context_of p in
    let m = view_of c.args.self.now in
    let t = c.args.space.now in
    let f = c.args.frame in
    let x = c.args.name in
    let stand = stand_of f m.held in
    let vs = stand ++ c.args.last ∷ [] in
    let method = callable_of p.nodes.items c.in-Some.definition in
    let first = c.first_value-receiver.ensures.is ∙ ap (λ l. slice_index_or (l ++ c.args.last ∷ []) 0 Nil) c.standing.ensures.is in
    as_sent p m t f (Name x) stand c.args.last h n (ap (joined_by own t (Name x)) (sym first) ∙ sym c.joined_by.ensures ∙ c.in-None.is)
    ∙ run_first p m t f x method stand c.args.last h n (c.in-Some.ensures ∙ ap (λ (v : Ref). method_for own t v (Name x)) first)
    ∙ ap (λ (v : Ref). after_values p m t f (run_method own method (way_of (Name x) None v (drop 1 vs)) (drop 1 vs)) h n) (sym first)
    ∙ c.begin_sent.ensures.goes done p x h n

pub returns-clause-within : goal.returns-clause-within
returns-clause-within c clusters h value =
    let k = reach (length c.args.space.now.slots) clusters in
    let one = all_cons (IsReached k) c.args.last [] value (all_nil (IsReached k)) in
    c.begin_sent.ensures.within clusters h (c.first_value-receiver.ensures.within k (c.standing.ensures.within k (held_reached k (view_of c.args.self.now) h)) one) one
