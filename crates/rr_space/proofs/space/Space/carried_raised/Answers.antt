use Rattle.std.proofs.Common.{suc, List, slice_get, subst, sym, ap, ◌∙◌, refl}
use Rattle.std.specs.List.{AllZip}
use Rattle.rr_base.specs.declared.name.Sym.{Sym}
use Rattle.rr_space.specs.Graph.{Message, Cause, Ractor}
use Rattle.rr_space.specs.Parts.{raised_parts}
use Rattle.rr_space.specs.Views.{IsCarriedPart, IsCarriedField}
use Rattle.rr_space.specs.declared.refer.Ref.{Ref}
use Rattle.rr_space.specs.declared.refer.Raised.{Raised}
use Rattle.rr_space.proofs.Carrying.{known_field, zip_raised}
use Rattle.rr_space.proofs.space.Space.carried_raised.Goals as goal

pub carried_fields-requires-clause-known : goal.carried_fields-requires-clause-known
carried_fields-requires-clause-known c = λ k f at.
    known_field c.args.self.now c.args.names.now c.args.raised.now.fields.items (λ i p here. c.requires.known (suc (suc (suc i))) p here) k f
    (ap (λ (fs : List (Sym × Ref)). slice_get fs k) (sym c.deref.ensures.value) ∙ at)

pub carried-requires-clause-known : goal.carried-requires-clause-known
carried-requires-clause-known c = c.requires.known 0 (Message, c.args.raised.now.message) refl

pub carried-requires-2-clause-known : goal.carried-requires-2-clause-known
carried-requires-2-clause-known c = c.requires.known 1 (Cause, c.args.raised.now.cause) refl

pub carried-requires-3-clause-known : goal.carried-requires-3-clause-known
carried-requires-3-clause-known c = c.requires.known 2 (Ractor, c.args.raised.now.ractor) refl

pub returns-clause-parts : goal.returns-clause-parts
returns-clause-parts c =
    let m = c.carried.ensures in
    let a = c.carried-2.ensures in
    let r = c.carried-3.ensures in
    subst (λ (s : Raised). AllZip (IsCarriedPart c.args.self.now c.args.names.now) (raised_parts c.args.raised.now) (raised_parts s)) (sym c.in_ok-new.ensures.ok)
    (zip_raised c.args.self.now c.args.names.now c.args.raised.now
    (record { message = c.carried.result; cause = c.carried-2.result; ractor = c.carried-3.result; fields = c.in_ok-fields.fields })
    (record { same = m.same; within = m.within; below = m.below }) (record { same = a.same; within = a.within; below = a.below }) (record { same = r.same; within = r.within; below = r.below })
    (subst (λ (fs : List (Sym × Ref)). AllZip (IsCarriedField c.args.self.now c.args.names.now) fs c.in_ok-fields.fields.items) c.deref.ensures.value c.in_ok-fields.ensures.fields))
