-- A value of another kind is raised as a class is.
use Rattle.std.proofs.Common.{◌≡◌, subst, sym, MatchResult}
use Rattle.rr_eval.specs.declared.frame.Control.TheVariants.{Throw}
use Rattle.rr_eval.specs.Frames.{runs_in, start}
use Rattle.rr_eval.specs.Turns.{context_of, code_of}
use Rattle.rr_eval.specs.Within.{IsReached}
use Rattle.rr_eval.proofs.Holding.{all_nil}
use Rattle.rr_eval.proofs.Raises.{alone_other}
use Rattle.rr_eval.proofs.raising.raise_alone.Goals as goal

pub returns-in_default : goal.returns-in_default
returns-in_default c =
    let p = c.args.program.now in
    record {
      goes = λ w s n. subst (λ x. MatchResult c.raise_new.result (λ k. runs_in (code_of p w) x s n ≡ start (code_of p w) k s n) (λ e. runs_in (code_of p w) x s n ≡ start (code_of p w) (Throw e) s n))
          (sym (alone_other (context_of p) c.args.value c.args.kind c.in_default.not-Shell c.in_default.not-Text c.in_default.not-Exception)) (c.raise_new.ensures.goes w s n);
      within = λ k h. c.raise_new.ensures.within k (all_nil (IsReached k));
      waits = c.raise_new.ensures.waits;
    }
