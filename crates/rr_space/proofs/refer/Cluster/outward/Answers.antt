use Rattle.std.proofs.Common.{◌<◌, ◌∷◌, [], length, subst}
use Rattle.std.proofs.lemmas.List.Elements.{Contains-append_right}
use Rattle.rr_space.specs.Tables.{outer_objects}
use Rattle.rr_space.specs.Parts.{IsWithin}
use Rattle.rr_space.proofs.Parting.{outward_same, outward_within}
use Rattle.rr_space.proofs.Wells.{is_sound}
use Rattle.rr_space.proofs.refer.Cluster.outward.Goals as goal

pub returns-in-Local-clause-within : goal.returns-in-Local-clause-within
returns-in-Local-clause-within c = λ w n.
    let lt : c.in-Local.inner < length c.args.self.now.own = subst (IsWithin (length c.args.self.now.own)) c.in-Local.is w in
    record { within = lt; sound = is_sound c.self.inside.number c.self.inside.nodes.items c.args.self.now c.self.view_is c.self.invariant.0 }

pub returns-in_default-clause-is : goal.returns-in_default-clause-is
returns-in_default-clause-is c = outward_same c.args.self.now.number c.args.value c.in_default.not-Local

pub returns-in_default-clause-within : goal.returns-in_default-clause-within
returns-in_default-clause-within c = λ w n. outward_within (length c.args.self.now.own) n c.args.value c.in_default.not-Local w

pub returns-in_default-clause-below : goal.returns-in_default-clause-below
returns-in_default-clause-below c = λ inside e has.
    let w = c.args.self.now in
    Contains-append_right ((w.number, outer_objects w) ∷ []) w.below e (inside e has)
