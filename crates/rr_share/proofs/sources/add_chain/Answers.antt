use Rattle.std.proofs.Common.{◌≡◌, ◌<◌, ◌∙◌, ap, length, get_or, Some, None, slice_get, subst, arith}
use Rattle.std.proofs.lemmas.Option.{slice_get-get_or}
use Rattle.rr_share.specs.Chains.{Falls, chain}
use Rattle.rr_share.specs.declared.sources.Source.{Source}
use Rattle.rr_share.proofs.Chains.{falls_more, chain_next, walked_more}
use Rattle.rr_share.proofs.sources.add_chain.Goals as goal

pub loop-at-preserved : goal.loop-at-preserved
loop-at-preserved c =
    let all = c.args.all.now in
    let n = length all in
    let i = c.in-Some.index in
    let s : Source = get_or all i (record { slot = 0; before = None }) in
    let lt : i < n = subst (Falls n) c.in-Some.is c.loop-at.invariant.falls in
    let at : slice_get all i ≡ Some s = slice_get-get_or all i (record { slot = 0; before = None }) lt in
    record {
      falls = falls_more i n s.before (omega (arith, lt)) (c.requires.linked i s at);
      walked = walked_more c.args.set.now c.loop-at.set c.add.new.self (chain all n c.args.last) (chain all n c.loop-at.at) (chain all n s.before) s.slot c.loop-at.invariant.walked
          (ap (chain all n) c.in-Some.is ∙ chain_next all c.requires.linked n i s lt at) c.in_ok-add.ensures.added;
    }
