-- `raise` of a class whose exceptions get the program's `initialize`.
use Rattle.std.proofs.Common.{◌≡◌, ◌∙◌, ℕ, List, Option, Some, None, true, ap, sym}
use Rattle.rr_base.specs.declared.name.ClassId.{ClassId}
use Rattle.rr_space.specs.Tables.{Table}
use Rattle.rr_space.specs.declared.refer.Ref.{Ref}
use Rattle.rr_tree.specs.declared.program.Program.{Program}
use Rattle.rr_eval.specs.declared.call.Passing.TheVariants.{BehindReceiver}
use Rattle.rr_eval.specs.declared.frame.Frame.{Frame}
use Rattle.rr_eval.specs.Context.{Context}
use Rattle.rr_eval.specs.Dispatch.{made_rule, passed_on}
use Rattle.rr_eval.specs.Raising.{raise_rule}
use Rattle.rr_eval.specs.RaisingNew.{class_raised, raise_made, raised_with}
use Rattle.rr_eval.specs.Requests.{Course}
use Rattle.rr_eval.specs.Turns.{context_of, after_values}
use Rattle.rr_eval.specs.View.{View}
use Rattle.rr_eval.proofs.Keeping.{Keeps, raise_rule_keeps}
use Rattle.rr_eval.proofs.Dispatching.{made_keeps}

-- it takes no object away
raise_made_keeps : (c : Context) (class : Option ClassId) (vs : List Ref) → Keeps (raise_made c class vs)
raise_made_keeps c None vs = raise_rule_keeps c vs
raise_made_keeps c (Some class) vs = λ m. made_keeps c class m.rescuing true None (passed_on BehindReceiver vs)

pub raised_keeps : (c : Context) (vs : List Ref) → Keeps (raised_with c vs)
raised_keeps c vs = raise_made_keeps c (class_raised c vs) vs

-- the exception gets the program's `initialize`, or not
pub raises_made : (p : Program) (m : View) (t : Table) (f : Frame) (found : Option ClassId) (class : ClassId) (vs : List Ref) (h : Course) (n : ℕ) → found ≡ class_raised (context_of p) vs → found ≡ Some class
    → after_values p m t f (raised_with (context_of p) vs) h n ≡ after_values p m t f (made_rule (context_of p) class m.rescuing true None (passed_on BehindReceiver vs)) h n
raises_made p m t f found class vs h n finds is = ap (λ x. after_values p m t f (raise_made (context_of p) x vs) h n) (sym finds ∙ is)

pub raises_other : (p : Program) (m : View) (t : Table) (f : Frame) (found : Option ClassId) (vs : List Ref) (h : Course) (n : ℕ) → found ≡ class_raised (context_of p) vs → found ≡ None
    → after_values p m t f (raised_with (context_of p) vs) h n ≡ after_values p m t f (raise_rule (context_of p) vs) h n
raises_other p m t f found vs h n finds is = ap (λ x. after_values p m t f (raise_made (context_of p) x vs) h n) (sym finds ∙ is)
