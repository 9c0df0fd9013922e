use Rattle.std.proofs.Common.{◌≡◌, ◌+◌, ◌∙◌, List, length, map, sym, ap, subst, arith, length-append}
use Rattle.std.proofs.lemmas.List.{length-map}
use Rattle.rr_space.specs.Graph.{Alike}
use Rattle.rr_space.specs.Tables.{behind, renamed, here_behind}
use Rattle.rr_space.specs.Graph.{Value}
use Rattle.rr_space.specs.Parts.{value_of}
use Rattle.rr_space.specs.Tables.{Slot, Packed, message_graph, space_graph, resolve}
use Rattle.rr_space.specs.Parts.{IsWithin}
use Rattle.rr_space.specs.Views.{carried_object}
use Rattle.rr_space.proofs.Sounds.{sound_is_sealed}
use Rattle.rr_copy.specs.Messages.{Behind}
use Rattle.rr_copy.specs.Contents.{packed_of}
use Rattle.rr_copy.proofs.Contained.{message_closed, message_sealed}
use Rattle.rr_copy.proofs.Standing.{stands_alike}
use Rattle.rr_copy.proofs.opening.open.Goals as goal

pub returns-in-Ok-clause-alike : goal.returns-in-Ok-clause-alike
returns-in-Ok-clause-alike c =
    let i = c.message.inside in
    let k = length c.args.space.now.slots in
    let new = c.append.new.self in
    let m = packed_of i.objects.items i.root i.sender.0 i.sequence in
    let made = stands_alike m c.args.space.now.slots new c.in-Ok.ensures.slots
    (message_closed i.objects.items i.root i.sender.0 i.sequence c.message.invariant.objects_within c.message.invariant.root_within)
    (message_sealed i.objects.items i.root i.sender.0 i.sequence c.message.invariant.objects_within c.message.invariant.root_within)
    (sound_is_sealed new.slots new.below c.len-slots.ensures.well.sound) c.message.invariant.parts in
    let root : renamed (behind k) (value_of i.root) ≡ value_of c.stood_behind.result = ap (λ n. renamed (behind n) (value_of i.root)) (sym c.len-first.ensures.count) ∙ sym c.stood_behind.ensures.value in
    let T : Packed → Type 0 = λ x. Alike (message_graph x) x.root (space_graph new) (resolve new.slots (value_of c.stood_behind.result)) (Behind x k) in
    subst T c.message.view_is (subst (λ (v : Value). Alike (message_graph m) m.root (space_graph new) (resolve new.slots v) (Behind m k)) root made)

pub returns-in-Ok-clause-within : goal.returns-in-Ok-clause-within
returns-in-Ok-clause-within c =
    let items = c.message.inside.objects.items in
    let k = length c.args.space.now.slots in
    let os = map carried_object items in
    let size : c.len-first.result + length items ≡ length c.append.new.self.slots =
    let e = ap (λ (ss : List Slot). length ss) c.in-Ok.ensures.slots in
    omega (arith, e, length-append c.args.space.now.slots (map (here_behind k) os), length-map os (here_behind k), length-map items carried_object, c.len-first.ensures.count) in
    subst (λ n. IsWithin n c.stood_behind.result) size (c.stood_behind.ensures.within (length items) c.message.invariant.root_within)

pub returns-in-Err-clause-grows : goal.returns-in-Err-clause-grows
returns-in-Err-clause-grows c =
    let items = c.message.inside.objects.items in
    let e = ap (λ (m : Packed). length m.objects) c.message.view_is in
    omega (arith, e, length-map items carried_object, c.in-Err.ensures.grows)
