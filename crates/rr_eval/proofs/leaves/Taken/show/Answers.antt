-- A value is found, or an array is begun.
use Rattle.std.proofs.Common.{◌∙◌, ap, sym, subst}
use Rattle.rr_eval.specs.Leaves.{Item, showing_of, IsItemReached}
use Rattle.rr_eval.proofs.Inside.{found_none, found_value, item_reached, more_reached, grown_same}
use Rattle.rr_eval.proofs.leaves.Taken.show.Goals as goal

pub returns-in_ok-push-in-None-clause-showed : goal.returns-in_ok-push-in-None-clause-showed
returns-in_ok-push-in-None-clause-showed c =
    let fs = c.args.self.now.arrays.items in
    let out = c.args.self.now.found.items in
    ap (λ (i : Item). showing_of c.args.how c.args.space.now c.args.levels fs out i) c.in-None.is
    ∙ found_none c.args.how c.args.space.now c.args.levels fs out c.push.new.self.items c.in_ok-push-in-None.ensures.items

pub returns-in_ok-push-in-None-clause-grown : goal.returns-in_ok-push-in-None-clause-grown
returns-in_ok-push-in-None-clause-grown c = grown_same c.args.space.now c.args.levels c.args.self.now.arrays.items c.requires.fit

pub returns-in_ok-going-in-Array-clause-opened : goal.returns-in_ok-going-in-Array-clause-opened
returns-in_ok-going-in-Array-clause-opened c = λ k all one. c.in_ok-going-in-Array.ensures.opened k all (item_reached k c.args.item c.in-Some.value c.in-Some.is one)

pub returns-in_ok-going-in-Array-clause-found : goal.returns-in_ok-going-in-Array-clause-found
returns-in_ok-going-in-Array-clause-found c = λ k all one. c.in_ok-going-in-Array.ensures.found k all (item_reached k c.args.item c.in-Some.value c.in-Some.is one)

pub returns-in_ok-push-in_default : goal.returns-in_ok-push-in_default
returns-in_ok-push-in_default c =
    let t = c.args.space.now in
    let fs = c.args.self.now.arrays.items in
    let out = c.args.self.now.found.items in
    let push = c.in_ok-push-in_default.ensures.items in
    record {
      showed =
          ap (λ (i : Item). showing_of c.args.how t c.args.levels fs out i) c.in-Some.is
          ∙ found_value c.args.how t c.args.levels fs out c.push-in_default.new.self.items c.in-Some.value c.kind_of.result (sym c.kind_of.ensures) c.in_default.not-Array push;
      grown = grown_same t c.args.levels fs c.requires.fit;
      opened = λ k all one. all;
      found = λ k all one. more_reached k out c.push-in_default.new.self.items _ push all (subst (IsItemReached k) c.in-Some.is one);
    }
