-- The clusters that a sound message knows, and that of its root.
use Rattle.std.proofs.Common.{length, subst}
use Rattle.std.proofs.lemmas.List.Elements.{Contains-append_left}
use Rattle.rr_space.specs.Tables.{Packed, joined}
use Rattle.rr_space.specs.Sound.{IsStanding}
use Rattle.rr_space.specs.Readings.{Layout, Knows}
use Rattle.rr_copy.specs.Messages.{IsMessageSound}
use Rattle.rr_world.specs.Layouts.{AreKeysKnown, IsMessageKnown, message_below, message_slots}
use Rattle.rr_world.proofs.Published.{place_known}

pub known_message : (tables : Layout) (m : Packed) → IsMessageSound m → Knows (message_below m) tables → AreKeysKnown tables (message_slots m) m.keys → IsMessageKnown tables m
known_message tables m S K keyed = record {
  below = K;
  own = λ i is. subst (IsStanding (length m.objects) m.root_below) is S.root;
  root = λ c p is.
      let s = subst (IsStanding (length m.objects) m.root_below) is S.root in
      place_known tables (message_below m) c p K (s.0, Contains-append_left m.root_below (joined m.below) (c, s.0) s.1, s.2);
  keyed = keyed;
}
