use Rattle.std.proofs.Common.{◌<◌, inl, length, ap, ◌∙◌, sym, refl, arith, Some}
use Rattle.std.proofs.lemmas.Option.{slice_get_read}
use Rattle.rr_space.specs.Tables.{below_hold}
use Rattle.rr_space.specs.declared.node.Held.TheVariants.{Forward}
use Rattle.rr_space.proofs.Parting.{held_within}
use Rattle.rr_space.proofs.Placing.{stands}
use Rattle.rr_space.proofs.Resolving.{resolved_here}
use Rattle.rr_space.proofs.Sounds.{joined_in}
use Rattle.rr_space.proofs.space.Space.resolve.Goals as goal

pub returns-in-Forward : goal.returns-in-Forward
returns-in-Forward c =
    let hs = c.self.inside.slots.items in
    let t = c.args.self.now in
    let n = c.in-Local.slot in
    let h = Forward c.in-Forward.place c.in-Forward.cluster in
    let lt : n < length hs = omega (arith, c.if-slot-len.false, c.len.ensures, c.self.inside.slots.ok) in
    let at = slice_get_read hs (length hs) n c.index.result.now refl lt c.index.ensures ∙ ap Some c.in-Forward.is in
    let s = stands hs c.self.inside.limit c.self.inside.owner.0 c.self.inside.next_message t n h c.self.view_is at in
    record {
      value = sym (resolved_here t n c.args.value h c.in-Local.is s);
      within = λ _. held_within hs c.self.inside.limit c.self.inside.owner.0 c.self.inside.next_message t n h c.self.view_is c.self.invariant.1 at;
      below = λ e has. inl (joined_in t.below n (below_hold c.in-Forward.cluster.now) e s.below has);
    }
