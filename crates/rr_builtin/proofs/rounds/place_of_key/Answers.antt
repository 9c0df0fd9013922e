use Rattle.std.proofs.Common.{◌∙◌, ap}
use Rattle.std.proofs.lemmas.Bool.{and_parts}
use Rattle.rr_space.specs.Kinds.{kind_at}
use Rattle.rr_space.specs.Views.{key_of, can_freeze_at}
use Rattle.rr_text.specs.Keys.{place_among, pair_with}
use Rattle.rr_text.proofs.Finding.{listed_keys, keys_of_own, place_of_keys}
use Rattle.rr_builtin.specs.Kinds.{is_hash}
use Rattle.rr_builtin.proofs.rounds.place_of_key.Goals as goal

pub returns : goal.returns
unfolding pair_with
returns c = λ below.
    let t = c.args.space.now in
    let key = key_of c.args.key.now in
    let o = listed_keys t c.args.hash c.len-count.ensures.well (and_parts (can_freeze_at t c.args.hash) (is_hash (kind_at t c.args.hash)) c.requires).0 in
    place_of_keys key o.0 c.find.result (c.find.ensures.own o.0 o.1) ∙ ap (place_among key) (keys_of_own below t c.args.hash o.0 o.1)
