use Rattle.std.proofs.Common.{◌≡◌, Contains, length, map, slice_set, ap, sym, ◌∙◌, subst}
use Rattle.rr_space.specs.Graph.{exception}
use Rattle.rr_space.specs.Tables.{Here}
use Rattle.rr_space.specs.Parts.{Parts, value_of, value_triple, below_ref, below_parts}
use Rattle.rr_space.specs.Labels.{label_of, raised_place}
use Rattle.rr_space.specs.Views.{IsNodeWithin, AllWithin, IsLedBy, node_kind, node_parts}
use Rattle.rr_space.proofs.Placing.{map_set}
use Rattle.rr_space.proofs.Writing.{parts_set, below_set}
use Rattle.rr_space.proofs.Standing.{bare, mid_size, kind_of_node, of_object, of_place, slots_are, keys_same, led_also}
use Rattle.rr_space.proofs.space.Space.write_raised.Goals as goal

pub put-requires-clause-within : goal.put-requires-clause-within
put-requires-clause-within c =
    let t = c.args.self.now in
    let a = c.in-Whole.node in
    let b = c.with_raised-changed.result in
    let l = label_of c.args.label in
    let kind : node_kind a ≡ exception = kind_of_node t c.in-Local.slot c.args.exception a c.in-Whole.frozen exception c.in-Local.is c.in-Whole.ensures.stood c.requires.kind in
    subst (λ k. IsNodeWithin k b) (sym (mid_size t c.take.new.self c.in-Local.slot c.in-Whole.ensures.rest))
    (subst (AllWithin (length t.slots)) (sym (c.with_raised-changed.ensures.parts kind c.requires.label))
    (parts_set (length t.slots) (node_parts a) (raised_place l) (l, c.args.value) c.in-Whole.ensures.within c.requires.within))

pub returns-in-Whole-clause-slots : goal.returns-in-Whole-clause-slots
returns-in-Whole-clause-slots c =
    let t = c.args.self.now in
    let a = c.in-Whole.node in
    let b = c.with_raised-changed.result in
    let f = c.in-Whole.frozen in
    let slot = c.in-Local.slot in
    let s = c.in-Whole.ensures.stood in
    let l = label_of c.args.label in
    let k = raised_place l in
    let kind : node_kind a ≡ exception = kind_of_node t slot c.args.exception a f exception c.in-Local.is s c.requires.kind in
    of_object t c.take.new.self c.put.new.self slot c.args.exception a b f c.in-Local.is s c.in-Whole.ensures.rest c.put.ensures
    (λ n o. c.put.new.self.slots ≡ slice_set t.slots n (Here (record o { triples = slice_set o.triples k (l, value_of c.args.value) })))
    (slots_are t c.take.new.self c.put.new.self slot c.args.exception a b f c.in-Local.is s c.in-Whole.ensures.rest c.put.ensures
    (slice_set (map value_triple (node_parts a)) k (l, value_of c.args.value)) (bare c.with_raised-changed.ensures.head)
    (ap (map value_triple) (c.with_raised-changed.ensures.parts kind c.requires.label) ∙ map_set value_triple (node_parts a) k (l, c.args.value)))

pub returns-in-Whole-clause-below : goal.returns-in-Whole-clause-below
returns-in-Whole-clause-below c =
    let t = c.args.self.now in
    let a = c.in-Whole.node in
    let b = c.with_raised-changed.result in
    let f = c.in-Whole.frozen in
    let slot = c.in-Local.slot in
    let s = c.in-Whole.ensures.stood in
    let l = label_of c.args.label in
    let kind : node_kind a ≡ exception = kind_of_node t slot c.args.exception a f exception c.in-Local.is s c.requires.kind in
    of_place t c.take.new.self c.put.new.self slot c.args.exception a b f c.in-Local.is s c.in-Whole.ensures.rest c.put.ensures
    (λ n. IsLedBy c.args.value n t.below c.put.new.self.below)
    (led_also t c.take.new.self c.put.new.self slot c.args.exception a b f c.in-Local.is s c.in-Whole.ensures.rest c.put.ensures (below_ref c.args.value)
    (λ e has. below_set (node_parts a) (raised_place l) (l, c.args.value) e (subst (λ (ts : Parts). Contains (below_parts ts) e) (c.with_raised-changed.ensures.parts kind c.requires.label) has)))

pub returns-in-Whole-clause-keys : goal.returns-in-Whole-clause-keys
returns-in-Whole-clause-keys c =
    keys_same c.args.self.now c.take.new.self c.put.new.self c.in-Local.slot c.args.exception c.in-Whole.node c.with_raised-changed.result c.in-Whole.frozen c.in-Local.is c.in-Whole.ensures.stood
    c.in-Whole.ensures.rest c.put.ensures c.with_raised-changed.ensures.head.keys
