use Rattle.std.proofs.Common.{◌<◌, ◌≤◌, length, map, slice_get, sym, ap, ◌∙◌, subst, refl, arith}
use Rattle.std.specs.Option.{option_map}
use Rattle.std.proofs.lemmas.List.{length-map}
use Rattle.std.proofs.lemmas.Option.{slice_get-map, slice_get_read, slice_get_past}
use Rattle.rr_space.specs.Tables.{Whole}
use Rattle.rr_space.specs.Parts.{sealed_object, sealed_parts, value_triple}
use Rattle.rr_space.specs.Labels.{AreLabelsPlaced, triples_of}
use Rattle.rr_space.proofs.Labelling.{cluster_placed}
use Rattle.rr_space.proofs.refer.Cluster.arity.Goals as goal

pub returns-then-place-len-clause-count : goal.returns-then-place-len-clause-count
returns-then-place-len-clause-count c =
    let items = c.self.inside.nodes.items in
    let s = c.index.result.now in
    let lt : c.args.place < length items = omega (arith, c.self.inside.nodes.ok) in
    let at = slice_get_read items (length items) c.args.place s refl lt c.index.ensures in
    let own = ap (λ (w : Whole). slice_get w.own c.args.place) (sym c.self.view_is) ∙ slice_get-map sealed_object items c.args.place ∙ ap (option_map sealed_object) at in
    c.arity.ensures ∙ sym (length-map (sealed_parts s) value_triple) ∙ ap (λ o. length (triples_of o)) (sym own)

pub returns-else-place-len-clause-count : goal.returns-else-place-len-clause-count
returns-else-place-len-clause-count c =
    let items = c.self.inside.nodes.items in
    let le : length (map sealed_object items) ≤ c.args.place = omega (arith, length-map items sealed_object, c.self.inside.nodes.ok) in
    ap (λ o. length (triples_of o)) (sym (ap (λ (w : Whole). slice_get w.own c.args.place) (sym c.self.view_is) ∙ slice_get_past (map sealed_object items) c.args.place le))

pub returns-then-place-len-clause-placed : goal.returns-then-place-len-clause-placed
returns-then-place-len-clause-placed c =
    subst (λ (w : Whole). AreLabelsPlaced (triples_of (slice_get w.own c.args.place))) c.self.view_is (cluster_placed c.self.inside.nodes.items c.args.place)

pub returns-else-place-len-clause-placed : goal.returns-else-place-len-clause-placed
returns-else-place-len-clause-placed c =
    subst (λ (w : Whole). AreLabelsPlaced (triples_of (slice_get w.own c.args.place))) c.self.view_is (cluster_placed c.self.inside.nodes.items c.args.place)
