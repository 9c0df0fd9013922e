use Rattle.std.proofs.Common.{rules, ◌<◌, ◌≤◌, length, List, sym, subst}
use Rattle.rr_base.specs.declared.name.Sym.{Sym}
use Rattle.rr_space.specs.Labels.{triples_at}
use Rattle.rr_space.specs.declared.refer.Ref.{Ref}
use Rattle.rr_builtin.proofs.Copying.{AreCopied, copied_none, copied_next, copied_all}
use Rattle.rr_builtin.proofs.copies.fields.Goals as goal

pub loop-place-init : goal.loop-place-init
loop-place-init c = subst (λ (fs : List (Sym × Ref)). AreCopied c.args.space.now c.args.object fs 0) (sym c.in_ok-fields.ensures.items) (copied_none c.args.space.now c.args.object)

pub loop-place-preserved : goal.loop-place-preserved
loop-place-preserved c =
    let t = c.args.space.now in
    let v = c.args.object in
    let k = c.loop-place.place in
    let lt : k < length (triples_at t v) = search rules in
    copied_next t v c.loop-place.fields.items c.add_part.new.fields.items k c.loop-place.invariant c.part.result c.part.ensures.part lt c.part.ensures.within c.part.ensures.known c.in_ok-add_part.ensures.some

pub returns-clause-are : goal.returns-clause-are
returns-clause-are c =
    let t = c.args.space.now in
    let v = c.args.object in
    let le : length (triples_at t v) ≤ c.loop-place.place = search rules in
    copied_all t v c.loop-place.fields.items c.loop-place.place c.loop-place.invariant le
