use Rattle.std.proofs.Common.{◌∙◌, sym, ap}
use Rattle.rr_space.specs.Labels.{triples_at}
use Rattle.rr_space.specs.Views.{key_of}
use Rattle.rr_text.specs.Keys.{place_among, pair_with}
use Rattle.rr_text.proofs.Finding.{listed_keys, keys_of_own, keys_of_published, place_of_keys, pair_inside}
use Rattle.rr_text.proofs.pairs.pair_with.Goals as goal

pub returns-then-can_freeze : goal.returns-then-can_freeze
unfolding pair_with
returns-then-can_freeze c =
    let t = c.args.space.now in
    let key = key_of c.args.key.now in
    let o = listed_keys t c.args.hash c.len-count.ensures.well (sym c.can_freeze.ensures ∙ c.if-can_freeze.true) in
    record {
      is = λ below read among. place_of_keys key o.0 c.find.result (c.find.ensures.own o.0 o.1) ∙ ap (place_among key) (keys_of_own below t c.args.hash o.0 o.1);
      there = pair_inside (triples_at t c.args.hash) c.find.result c.find.ensures.there;
    }

pub returns-else-can_freeze : goal.returns-else-can_freeze
unfolding pair_with
returns-else-can_freeze c =
    let t = c.args.space.now in
    record {
      is = λ below read among.
          c.pair_by_names.ensures.is below read among
          ∙ ap (place_among (key_of c.args.key.now)) (keys_of_published below t c.args.hash c.requires.kind (sym c.can_freeze.ensures ∙ c.if-can_freeze.false));
      there = c.pair_by_names.ensures.there;
    }
