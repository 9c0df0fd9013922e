use Rattle.std.proofs.Common.{ℕ, ◌≡◌, ◌∙◌, ap, sym, subst, length, slice_get, slice_set, Some, Contains, List, arith, ◌∷◌, [], ◌++◌}
use Rattle.std.proofs.lemmas.Option.{slice_get_within}
use Rattle.rr_space.specs.Graph.{KeyAt, ValueAt, At, Own}
use Rattle.rr_space.specs.Tables.{Here, TextKey, Table, IsBelow}
use Rattle.rr_space.specs.Parts.{value_of}
use Rattle.rr_space.specs.Views.{keys_at, keys_here}
use Rattle.rr_space.proofs.Extending.{count_later, can_later, kind_later, within_later, name_within, name_key, apart_later, at_later, written_later, taken_back, keys_later, keys_written}
use Rattle.rr_space.proofs.space.Space.write_text_pair.Goals as goal

pub write_pair-requires-clause-can : goal.write_pair-requires-clause-can
write_pair-requires-clause-can c = can_later c.args.self.now c.alloc_frozen.new.self c.args.bytes.items c.in_ok-name.ensures.slots c.args.hash c.requires.can

pub write_pair-requires-clause-kind : goal.write_pair-requires-clause-kind
write_pair-requires-clause-kind c = kind_later c.args.self.now c.alloc_frozen.new.self c.args.bytes.items c.in_ok-name.ensures.slots c.args.hash c.requires.can ∙ c.requires.kind

pub write_pair-requires-clause-name : goal.write_pair-requires-clause-name
write_pair-requires-clause-name c = name_within c.args.self.now c.alloc_frozen.new.self c.args.bytes.items c.in_ok-name.ensures.slots c.in_ok-name.name c.in_ok-name.ensures.name

pub write_pair-requires-clause-named : goal.write_pair-requires-clause-named
write_pair-requires-clause-named c = λ ks at out.
    name_key c.args.self.now c.alloc_frozen.new.self c.args.bytes.items c.in_ok-name.ensures.slots c.in_ok-name.name c.in_ok-name.ensures.name
    ∙ ap (λ (bs : List ℕ). Some (TextKey bs)) (sym (c.in_ok-from_slice.ensures.items ∙ c.deref.ensures.value))

pub write_pair-requires-clause-value : goal.write_pair-requires-clause-value
write_pair-requires-clause-value c = within_later c.args.self.now c.alloc_frozen.new.self c.args.bytes.items c.in_ok-name.ensures.slots c.args.value c.requires.value

pub forget_behind-requires-clause-count : goal.forget_behind-requires-clause-count
forget_behind-requires-clause-count c =
    let u = c.alloc_frozen.new.self in
    let same : length c.write_pair.new.self.slots ≡ length u.slots = ap (λ (z : Table). length z.slots) c.in-Err.ensures.refused in
    omega (arith, same, count_later c.args.self.now u c.args.bytes.items c.in_ok-name.ensures.slots, c.len-count.ensures.count)

pub forget_behind-requires-clause-apart : goal.forget_behind-requires-clause-apart
forget_behind-requires-clause-apart c = λ n o l x lt at has.
    let t = c.args.self.now in
    let count : c.len-count.result ≡ length t.slots = c.len-count.ensures.count in
    subst (λ k. IsBelow k x) (sym count)
    (apart_later t c.alloc_frozen.new.self c.args.bytes.items c.in_ok-name.ensures.slots c.len-count.ensures.well n o l x (omega (arith, lt, count)) (sym (ap (λ (z : Table). slice_get z.slots n) c.in-Err.ensures.refused) ∙ at) has)

pub returns-in-Ok-clause-slots : goal.returns-in-Ok-clause-slots
returns-in-Ok-clause-slots c = λ n o ks is at kat.
    let t = c.args.self.now in
    let u = c.alloc_frozen.new.self in
    let e = c.in_ok-name.ensures in
    let bytes = c.args.bytes.items in
    let value = value_of c.args.value in
    let same : c.in_ok-from_slice.field-0.items ≡ bytes = c.in_ok-from_slice.ensures.items ∙ c.deref.ensures.value in
    let found : keys_at t c.args.hash ≡ Some ks = ap (keys_at t) is ∙ ap (λ s. keys_here s (slice_get t.keys n)) at ∙ kat in
    let w = c.in-Ok.ensures.absent n o ks is (at_later t u bytes e.slots n (Here o) at) (keys_later t u n ks e.keys kat) (λ has. c.requires.absent ks found (subst (λ bs. Contains ks (TextKey bs)) same has)) in
    let k = length t.slots in (
      w.0 ∙ ap (λ v. slice_set u.slots n (Here (record o { triples = o.triples ++ (KeyAt (length ks), v) ∷ (ValueAt (length ks), value) ∷ [] }))) (ap value_of e.name)
          ∙ written_later t u bytes e.slots n (Here (record o { triples = o.triples ++ (KeyAt (length ks), At (Own k)) ∷ (ValueAt (length ks), value) ∷ [] })) (slice_get_within t.slots n (Here o) at),
      w.1 ∙ ap (λ bs. slice_set u.keys n (ks ++ TextKey bs ∷ [])) same ∙ keys_written t u n ks (ks ++ TextKey bytes ∷ []) e.keys kat,
    )

pub returns-in-Err-clause-refused : goal.returns-in-Err-clause-refused
returns-in-Err-clause-refused c =
    let e = c.in_ok-name.ensures in
    taken_back c.args.self.now c.alloc_frozen.new.self c.args.bytes.items e.slots e.below e.keys e.rest c.len-count.ensures.well c.len-count.result c.len-count.ensures.count
    c.write_pair.new.self c.forget_behind.new.self c.in-Err.ensures.refused c.forget_behind.ensures
