use Rattle.std.proofs.Common.{◌≡◌, ◌∙◌, ap, map, List}
use Rattle.rr_space.specs.Graph.{Label, Value}
use Rattle.rr_space.specs.Tables.{Below, Table}
use Rattle.rr_space.specs.Parts.{value_triple, pairs_from}
use Rattle.rr_space.specs.Labels.{triples_at}
use Rattle.rr_space.specs.Views.{entry_key, entry_pair}
use Rattle.rr_space.specs.declared.node.Key.{Key}
use Rattle.rr_space.specs.declared.refer.Ref.{Ref}
use Rattle.rr_builtin.specs.News.{empty_hash}
use Rattle.rr_builtin.specs.Copies.{AreOwnPairs, pairs_of, hash_copy, hash_copy_keys, entry_values}
use Rattle.rr_builtin.proofs.HashCopying.{copied_triples, copied_keys, whole_copy}
use Rattle.rr_builtin.proofs.hash_copies.hash_copy.Goals as goal

module _ (below : Below) (t : Table) (v : Ref) (es : List (Key × (Ref × Ref))) (are : map entry_values es ≡ pairs_of below t v) where
  copied : map value_triple (pairs_from 0 (map entry_pair es)) ≡ (hash_copy below t v).triples
  copied = copied_triples es (pairs_of below t v) are

  object : record empty_hash { triples = map value_triple (pairs_from 0 (map entry_pair es)) } ≡ hash_copy below t v
  object = ap (λ (ts : List (Label × Value)). record empty_hash { triples = ts }) copied

  named : map entry_key es ≡ hash_copy_keys below t v
  named = copied_keys es (pairs_of below t v) are

  whole : (own : AreOwnPairs below t v) → (map value_triple (pairs_from 0 (map entry_pair es)) ≡ triples_at t v) × (map entry_key es ≡ own.keys)
  whole own = (copied ∙ (whole_copy below t v own).0, named ∙ (whole_copy below t v own).1)

pub returns-clause-is : goal.returns-clause-is
returns-clause-is c = λ below read among.
    object below c.args.space.now c.args.hash c.in_ok-new.field-0.value.entries (ap (λ m. map entry_values m.entries) c.in_ok-new.ensures.ok ∙ c.in_ok-pairs.ensures.are below read among)

pub returns-clause-keys : goal.returns-clause-keys
returns-clause-keys c = λ below read among.
    named below c.args.space.now c.args.hash c.in_ok-new.field-0.value.entries (ap (λ m. map entry_values m.entries) c.in_ok-new.ensures.ok ∙ c.in_ok-pairs.ensures.are below read among)

pub returns-clause-whole : goal.returns-clause-whole
returns-clause-whole c = λ below read among own.
    whole below c.args.space.now c.args.hash c.in_ok-new.field-0.value.entries (ap (λ m. map entry_values m.entries) c.in_ok-new.ensures.ok ∙ c.in_ok-pairs.ensures.are below read among) own
