use Rattle.std.proofs.Common.{◌∙◌, refl, arith}
use Rattle.rr_tree.proofs.Growth.{Extends-refl, Extends-trans}
use Rattle.rr_parser.proofs.Lists.{front_within, choices_on, choices_end, choices_put}
use Rattle.rr_parser.proofs.parser.Parser.put_choices.Goals as goal

pub put-requires : goal.put-requires
put-requires c = choices_put c.args.self.now c.loop-condition.self c.loop-condition.self _ _ _ _ _ c.in-Some.ensures.items c.loop-condition.invariant.branches c.loop-condition.invariant.kept c.loop-condition.invariant.there

pub loop-condition-preserved : goal.loop-condition-preserved
loop-condition-preserved c = record {
  branches = front_within _ _ _ _ _ c.in-Some.ensures.items c.loop-condition.invariant.branches;
  there = c.in_ok-chosen.ensures.puts.there;
  tree = choices_on c.args.self.now c.loop-condition.self c.put.new.self _ _ _ _ _ _ _ c.in-Some.ensures.items c.loop-condition.invariant.branches c.loop-condition.invariant.kept c.in_ok-chosen.ensures.puts c.loop-condition.invariant.tree;
  kept = Extends-trans _ _ _ c.loop-condition.invariant.kept c.in_ok-chosen.ensures.puts.kept;
  known = c.in_ok-chosen.ensures.puts.known ∙ c.loop-condition.invariant.known;
}

pub loop-condition-init : goal.loop-condition-init
loop-condition-init c = record { branches = c.requires.branches; there = c.requires.otherwise; tree = refl; kept = Extends-refl _; known = refl }

pub returns : goal.returns
returns c = record {
  there = c.loop-condition.invariant.there;
  tree = choices_end _ _ _ _ _ (omega (arith, c.in_default.ensures.cases, c.loop-condition.branches.ok.0)) c.loop-condition.invariant.tree;
  kept = c.loop-condition.invariant.kept;
  known = c.loop-condition.invariant.known;
}
