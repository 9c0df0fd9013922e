use Rattle.std.proofs.Common.{◌≡◌, ◌∙◌, ◌++◌, ◌∷◌, [], true, false, if◌then◌else◌, sym, ap}
use Rattle.rr_space.specs.Views.{kept_name}
use Rattle.rr_space.proofs.Keys.{key_eq}
use Rattle.rr_space.proofs.Pairing.{put_is}
use Rattle.rr_space.specs.declared.refer.Ref.{Ref}
use Rattle.rr_builtin.specs.Copies.{with_entry}
use Rattle.rr_builtin.proofs.HashCopying.{has_key, found_key, lacks_key, put_absent}
use Rattle.rr_builtin.proofs.hash_copies.add_pair.Goals as goal

pub returns-then-contains_key-clause-pairs : goal.returns-then-contains_key-clause-pairs
returns-then-contains_key-clause-pairs c =
    let es = c.args.pairs.now.entries in
    let key = c.in-Some.key in
    let p : Ref × Ref = (c.args.name, c.args.value) in
    let there : has_key key es ≡ true = sym (found_key key es) ∙ sym c.contains_key.ensures ∙ c.if-contains_key.true in
    sym (ap (λ o. with_entry es o p) c.in-Some.is ∙ ap (λ b. if b then es else es ++ (key, p) ∷ []) there)

pub returns-in_ok-insert-in-Some-clause-pairs : goal.returns-in_ok-insert-in-Some-clause-pairs
returns-in_ok-insert-in-Some-clause-pairs c =
    let es = c.args.pairs.now.entries in
    let key = c.in-Some.key in
    let p : Ref × Ref = (c.args.name, c.args.value) in
    let none = sym c.contains_key.ensures ∙ c.if-contains_key.false in
    let absent : has_key key es ≡ false = sym (found_key key es) ∙ none in
    let lacks = lacks_key key es none in
    c.in_ok-insert-in-Some.ensures.entries ∙ put_is key_eq es key c.args.name c.args.name c.args.value (sym (ap (λ o. kept_name o c.args.name) lacks)) ∙ put_absent key es c.args.name c.args.value lacks
    ∙ sym (ap (λ o. with_entry es o p) c.in-Some.is ∙ ap (λ b. if b then es else es ++ (key, p) ∷ []) absent)
