use Rattle.std.proofs.Common.{Contains, ◌≡◌, ◌<◌, ◌≤◌, length, sym, ap, ◌∙◌, subst, refl, arith}
use Rattle.std.proofs.lemmas.List.{length-map}
use Rattle.std.proofs.lemmas.Option.{slice_get_read}
use Rattle.rr_space.specs.Tables.{Whole}
use Rattle.rr_space.specs.Parts.{sealed_object, sealed_parts}
use Rattle.rr_space.specs.Parts.{AllWithin}
use Rattle.rr_space.proofs.Listing.{cluster_part, cluster_none}
use Rattle.rr_space.proofs.Within.{part_within, sealed_within}
use Rattle.rr_space.proofs.Knowing.{if_some, part_below}
use Rattle.rr_space.proofs.Wells.{sealed_in}
use Rattle.rr_space.proofs.refer.Cluster.part.Goals as goal

pub returns-then-place-len-clause-part : goal.returns-then-place-len-clause-part
returns-then-place-len-clause-part c =
    let items = c.self.inside.nodes.items in
    let lt : c.args.place < length items = omega (arith, c.self.inside.nodes.ok) in
    cluster_part items c.args.self.now.own c.args.place c.args.k c.index.result.now c.part.result (ap (λ (w : Whole). w.own) c.self.view_is) lt c.index.ensures c.part.ensures

pub returns-then-place-len-clause-within : goal.returns-then-place-len-clause-within
returns-then-place-len-clause-within c =
    let items = c.self.inside.nodes.items in
    let lt : c.args.place < length items = omega (arith, c.self.inside.nodes.ok) in
    let at = slice_get_read items (length items) c.args.place c.index.result.now refl lt c.index.ensures in
    let size : length items ≡ length c.args.self.now.own = sym (length-map items sealed_object) ∙ ap (λ (w : Whole). length w.own) c.self.view_is in
    part_within (length c.args.self.now.own) (sealed_parts c.index.result.now) c.args.k c.part.result
    (subst (λ n. AllWithin n (sealed_parts c.index.result.now)) size (sealed_within (length items) items c.args.place c.index.result.now c.self.invariant.0 at)) c.part.ensures

pub returns-else-place-len-clause-part : goal.returns-else-place-len-clause-part
returns-else-place-len-clause-part c =
    let items = c.self.inside.nodes.items in
    let le : length items ≤ c.args.place = omega (arith, c.self.inside.nodes.ok) in
    sym (cluster_none items c.args.self.now.own c.args.place c.args.k (ap (λ (w : Whole). w.own) c.self.view_is) le)

pub returns-then-place-len-clause-below : goal.returns-then-place-len-clause-below
returns-then-place-len-clause-below c =
    let items = c.self.inside.nodes.items in
    let lt : c.args.place < length items = omega (arith, c.self.inside.nodes.ok) in
    let at = slice_get_read items (length items) c.args.place c.index.result.now refl lt c.index.ensures in
    if_some c.part.result _ _ (λ p inside e has. subst (λ (w : Whole). Contains w.below e) c.self.view_is (sealed_in items c.args.place c.index.result.now e at (inside e has)))
    (part_below (sealed_parts c.index.result.now) c.args.k c.part.result c.part.ensures)
