-- A run with one more step.
use Rattle.std.proofs.Common.{List, [], ◌∷◌, ◌++◌, sym, subst, refl}
use Rattle.rr_world.specs.Views.{Assembly}
use Rattle.rr_world.specs.Runs.{Reading, IsStepTo, Chain, IsStep, IsRun}
use Rattle.rr_world.specs.declared.step.Step.{Step}
use Rattle.rr_world.specs.declared.step.Reply.{Reply}
use Rattle.rr_world.proofs.Holders.{holders_apart}

chain_on : (ss : List Step) (rs : List Reply) (x : Step) (r : Reply) (a b c : Reading) → Chain ss rs a b → IsStepTo x r b c → Chain (ss ++ x ∷ []) (rs ++ r ∷ []) a c
chain_on [] [] x r a b c e step = (c, subst (λ (z : Reading). IsStepTo x r z c) (sym e) step, refl)
chain_on [] (q ∷ rs) x r a b c e step = absurd e
chain_on (p ∷ ss) [] x r a b c e step = absurd e
chain_on (p ∷ ss) (q ∷ rs) x r a b c e step = (e.0, e.1, chain_on ss rs x r e.0 b c e.2 step)

pub run_none : (w : Assembly) → IsRun [] [] w w
run_none w names bound g R = (names, bound, g, R, refl)

pub run_on : (w u v : Assembly) (ss : List Step) (rs : List Reply) (x : Step) (r : Reply) → IsRun ss rs w u → IsStep x r u v → IsRun (ss ++ x ∷ []) (rs ++ r ∷ []) w v
run_on w u v ss rs x r run step names bound g R =
    let a = run names bound g R in
    let b = step a.0 a.1 a.2 a.3 in (
      b.0,
      b.1,
      b.2,
      b.3,
      chain_on ss rs x r (record { world = w; names = names; bound = bound; objects = g }) (record { world = u; names = a.0; bound = a.1; objects = a.2 }) (record { world = v; names = b.0; bound = b.1; objects = b.2 }) a.4
          (record { read = b.3; case = b.4; apart = holders_apart v b.0 b.1 b.2 b.3; kept = b.5 }),
    )
