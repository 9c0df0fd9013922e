-- What makes no texts, and what makes them where the program has no such method.
use Rattle.std.proofs.Common.{◌∙◌, sym}
use Rattle.rr_eval.specs.Turns.{context_of}
use Rattle.rr_eval.proofs.Answered.{as_request, as_unnamed}
use Rattle.rr_eval.proofs.prepared.Prepared.asks_nobody.Goals as goal

pub returns-in-None : goal.returns-in-None
returns-in-None c = λ _ vs. as_request (context_of c.args.self.now.program) c.args.task vs (sym c.saying_of.ensures ∙ c.in-None.is)

pub returns-in-None-symbol_asked : goal.returns-in-None-symbol_asked
returns-in-None-symbol_asked c = λ _ vs. as_unnamed (context_of c.args.self.now.program) c.args.task c.in-Some.saying vs (sym c.saying_of.ensures ∙ c.in-Some.is) (sym c.symbol_asked.ensures ∙ c.in-None-symbol_asked.is)
