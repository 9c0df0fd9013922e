use Rattle.std.proofs.Common.{subst}
use Rattle.rr_space.specs.Tables.{Packed, message_graph, IsClosed, IsSealed}
use Rattle.rr_copy.specs.Messages.{IsEachPart, IsMessageSound}
use Rattle.rr_copy.proofs.Contained.{message_closed, message_sealed, message_sound}
use Rattle.rr_copy.proofs.message.Message.size.Goals as goal

pub returns-clause-closed : goal.returns-clause-closed
returns-clause-closed c =
    let m = c.self.inside in
    subst IsClosed c.self.view_is (message_closed m.objects.items m.root m.sender.0 m.sequence c.self.invariant.objects_within c.self.invariant.root_within)

pub returns-clause-sealed : goal.returns-clause-sealed
returns-clause-sealed c =
    let m = c.self.inside in
    subst (λ (x : Packed). IsSealed (message_graph x)) c.self.view_is (message_sealed m.objects.items m.root m.sender.0 m.sequence c.self.invariant.objects_within c.self.invariant.root_within)

pub returns-clause-sound : goal.returns-clause-sound
returns-clause-sound c =
    let m = c.self.inside in
    subst IsMessageSound c.self.view_is (message_sound m.objects.items m.root m.sender.0 m.sequence c.self.invariant.objects_within c.self.invariant.root_within)

pub returns-clause-parts : goal.returns-clause-parts
returns-clause-parts c = subst IsEachPart c.self.view_is c.self.invariant.parts
