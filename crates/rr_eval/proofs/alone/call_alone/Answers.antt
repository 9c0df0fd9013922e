-- A call of what no method of Ractor has asks nothing of the store.
use Rattle.std.proofs.Common.{sym, subst, refl}
use Rattle.rr_eval.specs.Alone.{AloneBy, SpecialExceeds, special_called}
use Rattle.rr_eval.specs.Published.{published}
use Rattle.rr_eval.specs.Requests.{arguments_of}
use Rattle.rr_eval.specs.Script.{Calls}
use Rattle.rr_eval.specs.Serves.{IsRefused, IsRefusedBy, IsReplied}
use Rattle.rr_eval.specs.Sharing.{called_reply}
use Rattle.rr_eval.specs.Turns.{context_of}
use Rattle.rr_eval.proofs.Invoking.{if_ok}
use Rattle.rr_eval.proofs.Splatted.{if_err}
use Rattle.rr_eval.proofs.alone.call_alone.Goals as goal

pub returns-clause-replied : goal.returns-clause-replied
returns-clause-replied c =
    let own = context_of c.args.program.now in
    let call = c.args.call.now in
    let vs = arguments_of call.arguments in
    let t = c.args.space.now in
    let s = c.args.store.now in
    let none = sym (c.requires.own own call.callee) in
    if_ok c.serve_call.result _ _
    (λ r is.
    let called = subst (λ m. IsReplied (published s) (called_reply own m call.receiver call.callee vs t) t r c.serve_call.new.space) none is in
    subst (λ m. AloneBy (special_called own m vs t) own s (Calls call.receiver call.callee vs) t r c.serve_call.new.space s) none (refl, called))
    c.serve_call.ensures.replied

pub returns-clause-refused : goal.returns-clause-refused
returns-clause-refused c =
    let own = context_of c.args.program.now in
    let call = c.args.call.now in
    let vs = arguments_of call.arguments in
    let t = c.args.space.now in
    let s = c.args.store.now in
    let none = sym (c.requires.own own call.callee) in
    if_err c.serve_call.result _ _
    (λ f is.
    let called = subst (λ m. IsRefused (called_reply own m call.receiver call.callee vs t) t f) none is in
    subst (λ m. IsRefusedBy (SpecialExceeds (special_called own m vs t) own s t.limit (Calls call.receiver call.callee vs) t) f) none called)
    c.serve_call.ensures.refused
