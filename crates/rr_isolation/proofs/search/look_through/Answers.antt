-- Each turn of the search is a step, and with nothing left the block is described.
use Rattle.std.proofs.Common.{◌≡◌, ◌∙◌, sym, ap, subst, arith, ℕ, ◌+◌, ◌<◌, ◌≤◌, List, [], ◌∷◌, ◌++◌, Contains, ⊎_elim, inl, inr}
use Rattle.std.proofs.lemmas.List.Elements.{Contains-push}
use Rattle.rr_tree.specs.declared.node.Node.{Node}
use Rattle.rr_isolation.specs.declared.found.Found.{Found}
use Rattle.rr_isolation.specs.Numbers.{numbers, spots}
use Rattle.rr_isolation.specs.declared.search.Spot.{Spot}
use Rattle.rr_isolation.proofs.Spots.{spot, few}
use Rattle.rr_isolation.proofs.Weights.{weights, weights_fall}
use Rattle.rr_isolation.proofs.Searching.{IsSearch, IsStep, begun, searched}
use Rattle.rr_isolation.proofs.search.look_through.Goals as goal

spot_fits : (ns : List Node) (block : ℕ) (f : Found) (pending rest : List Spot) (s : Spot) → pending ≡ rest ++ s ∷ [] → IsSearch ns block f pending → s.node + s.blocks ≤ block
spot_fits ns block f pending rest s is search = search.fits s (subst (λ (l : List Spot). Contains l s) (sym is) (Contains-push rest s))

pub loop-spot-init : goal.loop-spot-init
loop-spot-init c =
    begun c.args.program.now.nodes.items c.args.block c.new-found.result c.push.new.self.items c.new-found.ensures.names c.new-found.ensures.yields
    (c.in_ok-push.ensures.items ∙ ap (λ (l : List Spot). l ++ spot 0 c.args.block ∷ []) c.new-pending.ensures.items)

pub blocks_inside-inside-requires-clause-fits : goal.blocks_inside-inside-requires-clause-fits
blocks_inside-inside-requires-clause-fits c =
    let s = c.in-Some.spot in
    let fits = spot_fits c.args.program.now.nodes.items c.args.block c.loop-spot.found c.loop-spot.pending.items c.pop.new.self.items s c.in-Some.ensures.items c.loop-spot.invariant in
    let most = c.ranges.block.fits in
    omega arith

pub push_parts-requires : goal.push_parts-requires
push_parts-requires c =
    let s = c.in-Some.spot in
    let before = c.of.ensures.list_before s.node c.node-node.ensures.parts in
    let fits = spot_fits c.args.program.now.nodes.items c.args.block c.loop-spot.found c.loop-spot.pending.items c.pop.new.self.items s c.in-Some.ensures.items c.loop-spot.invariant in
    let most = c.ranges.block.fits in
    omega arith

pub loop-spot-smaller : goal.loop-spot-smaller
loop-spot-smaller c =
    let s = c.in-Some.spot in
    let rest = c.pop.new.self.items in
    let p = c.of.result in
    let before = c.of.ensures.list_before s.node c.node-node.ensures.parts in
    let short = few p in
    let falls : weights (rest ++ spots c.blocks_inside-inside.result (numbers p)) < weights (rest ++ s ∷ []) = weights_fall rest s c.blocks_inside-inside.result (numbers p) (c.of.ensures.before s.node c.node-node.ensures.parts) (omega arith) in
    let new = ap weights c.in_ok-push_parts.ensures.items in
    let old = ap weights c.in-Some.ensures.items in
    omega arith

pub loop-spot-preserved : goal.loop-spot-preserved
loop-spot-preserved c =
    let ns = c.args.program.now.nodes.items in
    let s = c.in-Some.spot in
    let n = c.node-node.result in
    let p = c.of.result in
    let inside = c.blocks_inside-inside.result in
    let rest = c.pop.new.self.items in
    let step : IsStep ns s n p inside c.loop-spot.found c.note.new.self = record {
      there = c.node-node.ensures.node;
      tree = c.node-node.ensures.tree;
      before = c.node-node.ensures.parts;
      numbers_before = c.of.ensures.before s.node c.node-node.ensures.parts;
      trees = c.of.ensures.trees ns;
      item = λ a e. (c.of.ensures.item a e, c.blocks_inside-inside.ensures.item a e);
      opens = c.blocks_inside-inside.ensures.opened ns;
      most = c.blocks_inside-inside.ensures.most;
      knows = c.in_ok-note.ensures.knows ns;
      keeps = c.in_ok-note.ensures.keeps;
      names = λ x b e. ⊎_elim inl (λ out. inr (out ns)) (c.note.ensures.names x b e);
      yields = λ yes. ⊎_elim inl (λ out. inr (out ns)) (c.note.ensures.yields yes);
    } in
    subst (λ (l : List Spot). IsSearch ns c.args.block c.note.new.self l) (sym c.in_ok-push_parts.ensures.items)
    (searched ns c.args.block s n p inside c.loop-spot.found c.note.new.self rest step (subst (λ (l : List Spot). IsSearch ns c.args.block c.loop-spot.found l) c.in-Some.ensures.items c.loop-spot.invariant))
