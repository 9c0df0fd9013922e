use Rattle.std.proofs.Common.{◌≡◌, ◌≤◌, ◌-◌, [], ◌∷◌, length, length-append, refl, ap, ◌∙◌, sym, subst, arith, append_assoc, append-nil}
use Rattle.std.specs.Vec.Iter.{into_iter_items}
use Rattle.rr_space.specs.Views.{IsAppended}
use Rattle.rr_space.proofs.Appending.{next_within, none_left, appended_none, appended_more}
use Rattle.rr_space.proofs.append.push_behind.Goals as goal

pub loop-object-init : goal.loop-object-init
loop-object-init c =
    let gives = c.into_iter-object-iterator.ensures.into_iter_gives in
    (gives.0, omega (arith, gives.1, ap length gives.0, c.args.objects.ok), appended_none (length c.args.slots.now.items) c.args.slots.now.items, refl)

pub behind-requires : goal.behind-requires
behind-requires c =
    let all = c.args.objects.items in
    let x = c.in-Some.object in
    let rest = into_iter_items c.next.new.self in
    let steps : into_iter_items c.loop-object.object-iterator ≡ x ∷ rest = c.in-Some.ensures.steps.0 in
    let le : length all ≤ 4294967296 - c.len-count.result = omega (arith, c.requires.fits, c.len-count.ensures, c.args.slots.now.ok) in
    next_within (length all) (4294967296 - c.len-count.result) all c.loop-object.yielded rest x (rw steps at c.loop-object.invariant.0) c.requires.within le

pub push_reserved-requires : goal.push_reserved-requires
push_reserved-requires c =
    let done = c.loop-object.yielded in
    let x = c.in-Some.object in
    let rest = into_iter_items c.next.new.self in
    let steps : into_iter_items c.loop-object.object-iterator ≡ x ∷ rest = c.in-Some.ensures.steps.0 in
    let total = ap length (rw steps at c.loop-object.invariant.0) in
    omega (arith, total, length-append done (x ∷ rest), c.loop-object.invariant.2.count, c.loop-object.invariant.3, c.loop-object.slots.ok, c.args.slots.now.ok, c.requires.reserved)

pub loop-object-preserved : goal.loop-object-preserved
loop-object-preserved c =
    let old = c.args.slots.now.items in
    let done = c.loop-object.yielded in
    let x = c.in-Some.object in
    let rest = into_iter_items c.next.new.self in
    let steps : into_iter_items c.loop-object.object-iterator ≡ x ∷ rest = c.in-Some.ensures.steps.0 in
    let count : c.len-count.result ≡ length old = omega (arith, c.len-count.ensures, c.args.slots.now.ok) in (
      append_assoc done (x ∷ []) rest ∙ rw steps at c.loop-object.invariant.0,
      omega (arith, c.loop-object.invariant.1, c.in-Some.ensures.steps.1, ap length steps),
      rw c.push_reserved.ensures.items (appended_more (length old) old c.loop-object.slots.items done x c.behind.result c.loop-object.invariant.2 (rw count at c.behind.ensures.parts) c.behind.ensures.head),
      c.push_reserved.ensures.capacity ∙ c.loop-object.invariant.3,
    )

pub returns : goal.returns
returns c =
    let old = c.args.slots.now.items in
    let left = into_iter_items c.loop-object.object-iterator in
    let empty : left ≡ [] = none_left left (omega (arith, c.loop-object.invariant.1, c.in-None.ensures.steps.0)) in
    let all = sym (append-nil c.loop-object.yielded) ∙ rw empty at c.loop-object.invariant.0 in
    subst (λ xs. IsAppended (length old) old xs c.loop-object.slots.items) all c.loop-object.invariant.2
