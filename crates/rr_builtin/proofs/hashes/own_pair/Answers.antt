use Rattle.std.proofs.Common.{◌≡◌, ◌∙◌, ap, Some, Contains}
use Rattle.rr_space.specs.Views.{key_of, keys_at, IsFirstAt}
use Rattle.rr_text.specs.Keys.{place_among, pair_with}
use Rattle.rr_text.proofs.Finding.{place_of_keys, keys_of_own}
use Rattle.rr_builtin.proofs.Performing.{writable}
use Rattle.rr_builtin.proofs.Storing.{written_keys, match_some, match_none}
use Rattle.rr_builtin.proofs.hashes.own_pair.Goals as goal

pub returns-clause-is : goal.returns-clause-is
unfolding pair_with
returns-clause-is c = λ below.
    let t = c.args.space.now in
    let key = key_of c.args.key.now in
    let o = written_keys t c.args.hash (writable t c.args.hash c.requires.hash.0) c.len-count.ensures.well in
    place_of_keys key o.0 c.find.result (c.find.ensures.own o.0 o.2)
    ∙ ap (place_among key) (keys_of_own below t c.args.hash o.0 o.2)

pub returns-clause-first : goal.returns-clause-first
returns-clause-first c =
    match_some c.find.result (λ ks. keys_at c.args.space.now c.args.hash ≡ Some ks) (λ ks. Contains ks (key_of c.args.key.now) → ⊥) (λ ks. IsFirstAt ks (key_of c.args.key.now)) c.find.ensures.own

pub returns-clause-lacks : goal.returns-clause-lacks
returns-clause-lacks c =
    match_none c.find.result (λ ks. keys_at c.args.space.now c.args.hash ≡ Some ks) (λ ks. Contains ks (key_of c.args.key.now) → ⊥) (λ ks. IsFirstAt ks (key_of c.args.key.now)) c.find.ensures.own
