use Rattle.std.proofs.Common.{◌≡◌, Some, length, slice_get, refl, arith}
use Rattle.std.proofs.lemmas.Option.{slice_get_read}
use Rattle.rr_share.specs.Chains.{chain}
use Rattle.rr_share.specs.declared.sources.Source.{Source}
use Rattle.rr_share.proofs.Chains.{kept_as, added_as, inside}
use Rattle.rr_share.proofs.sources.Sources.add.Goals as goal

pub invariant_of-self-2 : goal.invariant_of-self-2
invariant_of-self-2 c =
    let last = c.self.inside.last.items in
    let all = c.self.inside.all.items in
    let s : Source = record { slot = c.args.slot; before = c.index-before.result.now } in
    let at : slice_get last c.args.place ≡ Some s.before = slice_get_read last (length last) c.args.place s.before refl (inside (chain all (length all)) last c.args.self.now c.args.place c.self.view_is c.requires) c.index-before.ensures in
    kept_as last all c.self.invariant c.args.place s at c.len-index.result c.push.new.self.items (omega (arith, c.len-index.ensures, c.self.inside.all.ok)) c.in_ok-push.ensures.items

pub returns-clause-added : goal.returns-clause-added
returns-clause-added c =
    let last = c.self.inside.last.items in
    let all = c.self.inside.all.items in
    let s : Source = record { slot = c.args.slot; before = c.index-before.result.now } in
    let at : slice_get last c.args.place ≡ Some s.before = slice_get_read last (length last) c.args.place s.before refl (inside (chain all (length all)) last c.args.self.now c.args.place c.self.view_is c.requires) c.index-before.ensures in
    added_as last all c.self.invariant c.args.place s at c.len-index.result c.push.new.self.items (omega (arith, c.len-index.ensures, c.self.inside.all.ok)) c.in_ok-push.ensures.items c.args.self.now c.self.view_is
