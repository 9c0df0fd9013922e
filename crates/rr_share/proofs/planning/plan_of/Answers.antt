use Rattle.std.proofs.Common.{◌≡◌, ◌∙◌, length, map, ap, arith}
use Rattle.std.proofs.lemmas.Option.{slice_get_within}
use Rattle.rr_space.specs.Parts.{sealed_object, below_all}
use Rattle.rr_space.specs.Tables.{Here, Whole}
use Rattle.rr_share.proofs.Searching.{few_below}
use Rattle.rr_share.proofs.Copies.{copies_within, copies_below, copies_planned}
use Rattle.rr_share.proofs.planning.plan_of.Goals as goal

pub sealed_copies-requires-clause-few : goal.sealed_copies-requires-clause-few
sealed_copies-requires-clause-few c =
    let t = c.args.space.now in
    let few = few_below c.args.places (length t.slots) c.len-places.ensures.distinct (λ n has. let o = c.requires.whole n has in slice_get_within t.slots n (Here o.0) o.1) in
    omega (arith, few, c.len-slots.ensures.count, c.len-slots.ensures.room, c.len-slots.ensures.few)

pub new-requires : goal.new-requires
new-requires c = copies_within c.args.space.now c.args.places c.in_ok-nodes.nodes.items c.in_ok-nodes.ensures.copies

pub returns-clause-planned : goal.returns-clause-planned
returns-clause-planned c =
    let t = c.args.space.now in
    let w = c.new-2.result.cluster in
    let ss = c.in_ok-nodes.nodes.items in
    let own : w.own ≡ map sealed_object ss = ap (λ (x : Whole). x.own) c.new-2.ensures.cluster ∙ c.in_ok-new.ensures.own in
    let below : w.below ≡ below_all ss = ap (λ (x : Whole). x.below) c.new-2.ensures.cluster ∙ c.in_ok-new.ensures.below in
    copies_planned t c.args.places ss w own below c.in_ok-nodes.ensures.copies c.len-places.ensures.distinct (λ n has. let o = c.requires.whole n has in (o.0, o.1, o.3))

pub returns-clause-below : goal.returns-clause-below
returns-clause-below c =
    let w = c.new-2.result.cluster in
    let ss = c.in_ok-nodes.nodes.items in
    let own : w.own ≡ map sealed_object ss = ap (λ (x : Whole). x.own) c.new-2.ensures.cluster ∙ c.in_ok-new.ensures.own in
    let below : w.below ≡ below_all ss = ap (λ (x : Whole). x.below) c.new-2.ensures.cluster ∙ c.in_ok-new.ensures.below in
    copies_below c.args.space.now c.args.places ss w own below c.in_ok-nodes.ensures.copies
