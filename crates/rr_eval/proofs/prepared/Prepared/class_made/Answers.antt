-- A class finds no method of the program by the name of its maker, which makes its objects.
use Rattle.std.proofs.Common.{◌≡◌, None, Some, ap, sym, subst}
use Rattle.rr_base.specs.declared.name.Sym.{Sym}
use Rattle.rr_space.specs.declared.refer.Ref.{Ref}
use Rattle.rr_eval.specs.declared.call.Callee.TheVariants.{Name}
use Rattle.rr_eval.specs.Callees.{method_of}
use Rattle.rr_eval.specs.Dispatch.{made_by, method_for}
use Rattle.std.specs.Prelude.{IfSome}
use Rattle.rr_eval.specs.Prepared.{AreInstances, IsMaker, IsMakerOf}
use Rattle.rr_eval.specs.Turns.{context_of}
use Rattle.rr_eval.proofs.Plain.{class_finds}
use Rattle.rr_eval.proofs.prepared.Prepared.class_made.Goals as goal

same_symbol : (x y : Sym) → x.0 ≡ y.0 → x ≡ y
same_symbol x y e = ap (λ n. record { 0 = n }) e

is_maker : (c : goal.Then-maker-name) → IsMaker (context_of c.args.self.now.program) c.in-Class.class c.args.name
is_maker c =
    let own = context_of c.args.self.now.program in
    let known = subst (λ o. IfSome o (λ i. AreInstances own c.in-Class.class i.now)) c.in_ok-maker.was c.known.ensures in
    let maker : IsMaker own c.in-Class.class c.in-Some.maker = subst (IsMakerOf own c.in-Class.class) c.in-Some.is known.2 in
    subst (λ (x : Sym). IsMaker own c.in-Class.class x) (same_symbol c.in-Some.maker c.args.name c.if-maker-name.true) maker

pub returns-in-Some-clause-method : goal.returns-in-Some-clause-method
returns-in-Some-clause-method c =
    let own = context_of c.args.self.now.program in
    let t = c.args.space.now in
    subst (λ (r : Ref). method_for own t r (Name c.args.name) ≡ None) (sym c.in-Class.is) (class_finds own t c.in-Class.class c.args.name (is_maker c).0)

pub returns-in-Some-clause-made : goal.returns-in-Some-clause-made
returns-in-Some-clause-made c =
    let own = context_of c.args.self.now.program in
    subst (λ (r : Ref). made_by own (method_of own (Name c.args.name)) r ≡ Some c.in-Class.class) (sym c.in-Class.is) (is_maker c).1
