use Rattle.std.proofs.Common.{◌≡◌, ◌↔◌, ◌∙◌, ap, sym, subst, refl, Some, IsTrue, arith}
use Rattle.rr_space.specs.Tables.{below_hold, outer_objects, numbered}
use Rattle.rr_space.specs.Parts.{value_of}
use Rattle.rr_space.specs.Views.{key_of}
use Rattle.rr_space.specs.Lookups.{key_of_value}
use Rattle.rr_space.specs.declared.refer.Ref.{Ref}
use Rattle.rr_space.proofs.PublishedKeys.{own_key, other_key}
use Rattle.rr_space.proofs.refer.Cluster.is_key.Goals as goal

pub returns-in-Local : goal.returns-in-Local
returns-in-Local c = λ one more.
    let w = c.args.self.now in
    let e = ap (λ (r : Ref). key_of_value (below_hold w) (numbered w.number (value_of r))) c.in-Local.is ∙ own_key w c.in-Local.place in
    subst (λ o. IsTrue c.is_text.result ↔ (o ≡ Some (key_of c.args.key.now))) (sym e) c.is_text.ensures

pub returns-in-Shared : goal.returns-in-Shared
returns-in-Shared c = λ one more.
    let w = c.args.self.now in
    let d = c.in-Shared.cluster.now in
    let entry = more (d.number, outer_objects d) (rw c.in-Shared.is (0, omega arith, refl)) in
    let e = ap (λ (r : Ref). key_of_value (below_hold w) (numbered w.number (value_of r))) c.in-Shared.is ∙ other_key (below_hold w) d c.in-Shared.place one entry in
    subst (λ o. IsTrue c.is_text-in-Shared.result ↔ (o ≡ Some (key_of c.args.key.now))) (sym e) c.is_text-in-Shared.ensures
