use Rattle.std.proofs.Common.{◌≡◌, ◌<◌, ◌≤◌, List, [], length, Some, IfSome, Contains, MatchOption, ap, ◌∙◌, sym, subst, refl, arith}
use Rattle.std.proofs.lemmas.Option.{slice_get_read, slice_get_past, same_Some, none-some}
use Rattle.rr_space.specs.Tables.{Below, HashKey}
use Rattle.rr_space.specs.Views.{key_of, node_keys}
use Rattle.rr_space.specs.Views.{IsFirstAt}
use Rattle.rr_space.specs.Lookups.{IsOneEach, IsPairOf}
use Rattle.rr_space.specs.declared.node.Held.TheVariants.{Whole, Shell, Forward}
use Rattle.rr_space.proofs.Parting.{hold_first}
use Rattle.rr_space.proofs.Placing.{stands, count_is}
use Rattle.rr_space.proofs.PublishedKeys.{keys_here_are, led_here_is, below_here_is, keys_past, led_past}
use Rattle.rr_space.specs.Labels.{IsPairThere}
use Rattle.rr_space.specs.Kinds.{kind_at, kind_named}
use Rattle.rr_space.specs.Lookups.{AreDistinct}
use Rattle.rr_space.proofs.Finding.{none_distinct, forward_kind, forward_triples}
use Rattle.rr_space.proofs.Writing.{kind_is, triples_is}
use Rattle.rr_space.proofs.space.Space.find.Goals as goal

pub returns-in-Whole-clause-own : goal.returns-in-Whole-clause-own
returns-in-Whole-clause-own c = λ ks e.
    let hs = c.self.inside.slots.items in
    let t = c.args.self.now in
    let n = c.in-Local.slot in
    let h = Whole c.in-Whole.field-0 c.in-Whole.node in
    let lt : n < length hs = omega (arith, c.if-slot-len.false, c.len.ensures, c.self.inside.slots.ok) in
    let at = slice_get_read hs (length hs) n c.index.result.now refl lt c.index.ensures ∙ ap Some c.in-Whole.is in
    let s = stands hs c.self.inside.limit c.self.inside.owner.0 c.self.inside.next_message t n h c.self.view_is at in
    let same : node_keys c.in-Whole.node ≡ ks = same_Some (node_keys c.in-Whole.node) ks (sym (keys_here_are t n c.args.hash h c.in-Local.is s) ∙ e) in
    subst (λ (x : List HashKey). MatchOption c.place_of.result (Contains x (key_of c.args.key.now) → ⊥) (IsFirstAt x (key_of c.args.key.now))) same c.place_of.ensures.first

pub returns-in-Whole-clause-published : goal.returns-in-Whole-clause-published
returns-in-Whole-clause-published c = λ o e.
    let hs = c.self.inside.slots.items in
    let t = c.args.self.now in
    let n = c.in-Local.slot in
    let h = Whole c.in-Whole.field-0 c.in-Whole.node in
    let lt : n < length hs = omega (arith, c.if-slot-len.false, c.len.ensures, c.self.inside.slots.ok) in
    let at = slice_get_read hs (length hs) n c.index.result.now refl lt c.index.ensures ∙ ap Some c.in-Whole.is in
    let s = stands hs c.self.inside.limit c.self.inside.owner.0 c.self.inside.next_message t n h c.self.view_is at in
    absurd (none-some o (sym (led_here_is t n c.args.hash h c.in-Local.is s) ∙ e))

pub returns-in-Shell-clause-own : goal.returns-in-Shell-clause-own
returns-in-Shell-clause-own c = λ ks e has.
    let hs = c.self.inside.slots.items in
    let t = c.args.self.now in
    let n = c.in-Local.slot in
    let h = Shell in
    let lt : n < length hs = omega (arith, c.if-slot-len.false, c.len.ensures, c.self.inside.slots.ok) in
    let at = slice_get_read hs (length hs) n c.index.result.now refl lt c.index.ensures ∙ ap Some c.in-Shell.is in
    let s = stands hs c.self.inside.limit c.self.inside.owner.0 c.self.inside.next_message t n h c.self.view_is at in
    let same = same_Some _ ks (sym (keys_here_are t n c.args.hash h c.in-Local.is s) ∙ e) in
    let none : Contains {X = HashKey} [] (key_of c.args.key.now) = subst (λ (x : List HashKey). Contains x (key_of c.args.key.now)) (sym same) has in
    omega (arith, none.1)

pub returns-in-Shell-clause-published : goal.returns-in-Shell-clause-published
returns-in-Shell-clause-published c = λ o e.
    let hs = c.self.inside.slots.items in
    let t = c.args.self.now in
    let n = c.in-Local.slot in
    let h = Shell in
    let lt : n < length hs = omega (arith, c.if-slot-len.false, c.len.ensures, c.self.inside.slots.ok) in
    let at = slice_get_read hs (length hs) n c.index.result.now refl lt c.index.ensures ∙ ap Some c.in-Shell.is in
    let s = stands hs c.self.inside.limit c.self.inside.owner.0 c.self.inside.next_message t n h c.self.view_is at in
    absurd (none-some o (sym (led_here_is t n c.args.hash h c.in-Local.is s) ∙ e))

pub returns-in-Forward-clause-own : goal.returns-in-Forward-clause-own
returns-in-Forward-clause-own c = λ ks e.
    let hs = c.self.inside.slots.items in
    let t = c.args.self.now in
    let n = c.in-Local.slot in
    let h = Forward c.in-Forward.place c.in-Forward.cluster in
    let lt : n < length hs = omega (arith, c.if-slot-len.false, c.len.ensures, c.self.inside.slots.ok) in
    let at = slice_get_read hs (length hs) n c.index.result.now refl lt c.index.ensures ∙ ap Some c.in-Forward.is in
    let s = stands hs c.self.inside.limit c.self.inside.owner.0 c.self.inside.next_message t n h c.self.view_is at in
    absurd (none-some ks (sym (keys_here_are t n c.args.hash h c.in-Local.is s) ∙ e))

pub returns-in-Forward-clause-published : goal.returns-in-Forward-clause-published
returns-in-Forward-clause-published c = λ o e kind one.
    let hs = c.self.inside.slots.items in
    let t = c.args.self.now in
    let n = c.in-Local.slot in
    let h = Forward c.in-Forward.place c.in-Forward.cluster in
    let lt : n < length hs = omega (arith, c.if-slot-len.false, c.len.ensures, c.self.inside.slots.ok) in
    let at = slice_get_read hs (length hs) n c.index.result.now refl lt c.index.ensures ∙ ap Some c.in-Forward.is in
    let s = stands hs c.self.inside.limit c.self.inside.owner.0 c.self.inside.next_message t n h c.self.view_is at in
    let below = below_here_is t n c.args.hash h c.in-Local.is s in
    let found = sym (hold_first c.in-Forward.cluster.now c.in-Forward.place) ∙ sym (led_here_is t n c.args.hash h c.in-Local.is s) ∙ e in
    subst (λ (b : Below). IsPairOf b o.triples (key_of c.args.key.now) c.find.result) (sym below) (c.find.ensures.found o found kind (subst IsOneEach below one))

pub returns-then-slot-len-clause-own : goal.returns-then-slot-len-clause-own
returns-then-slot-len-clause-own c = λ ks e.
    let hs = c.self.inside.slots.items in
    let t = c.args.self.now in
    let count = count_is hs c.self.inside.limit c.self.inside.owner.0 c.self.inside.next_message t c.self.view_is in
    let le : length t.slots ≤ c.in-Local.slot = omega (arith, count, c.if-slot-len.true, c.len.ensures, c.self.inside.slots.ok) in
    absurd (none-some ks (sym (keys_past t c.in-Local.slot c.args.hash c.in-Local.is (slice_get_past t.slots c.in-Local.slot le)) ∙ e))

pub returns-then-slot-len-clause-published : goal.returns-then-slot-len-clause-published
returns-then-slot-len-clause-published c = λ o e.
    let hs = c.self.inside.slots.items in
    let t = c.args.self.now in
    let count = count_is hs c.self.inside.limit c.self.inside.owner.0 c.self.inside.next_message t c.self.view_is in
    let le : length t.slots ≤ c.in-Local.slot = omega (arith, count, c.if-slot-len.true, c.len.ensures, c.self.inside.slots.ok) in
    absurd (none-some o (sym (led_past t c.in-Local.slot c.args.hash c.in-Local.is (slice_get_past t.slots c.in-Local.slot le)) ∙ e))

pub returns-in-Shared-clause-published : goal.returns-in-Shared-clause-published
returns-in-Shared-clause-published c = λ o e kind one.
    let t = c.args.self.now in
    rw c.in-Shared.is (c.find-in-Shared.ensures.found o (rw c.in-Shared.is at e) kind (rw c.in-Shared.is at one))

pub returns-in-Whole-clause-none : goal.returns-in-Whole-clause-none
returns-in-Whole-clause-none c = λ no.
    let hs = c.self.inside.slots.items in
    let t = c.args.self.now in
    let n = c.in-Local.slot in
    let h = Whole c.in-Whole.field-0 c.in-Whole.node in
    let lt : n < length hs = omega (arith, c.if-slot-len.false, c.len.ensures, c.self.inside.slots.ok) in
    let at = slice_get_read hs (length hs) n c.index.result.now refl lt c.index.ensures ∙ ap Some c.in-Whole.is in
    let s = stands hs c.self.inside.limit c.self.inside.owner.0 c.self.inside.next_message t n h c.self.view_is at in
    c.place_of.ensures.none (λ kind. no (ap (kind_at t) c.in-Local.is ∙ kind_is t n c.in-Whole.node c.in-Whole.field-0 s ∙ ap kind_named kind))

pub returns-in-Whole-clause-there : goal.returns-in-Whole-clause-there
returns-in-Whole-clause-there c =
    let hs = c.self.inside.slots.items in
    let t = c.args.self.now in
    let n = c.in-Local.slot in
    let h = Whole c.in-Whole.field-0 c.in-Whole.node in
    let lt : n < length hs = omega (arith, c.if-slot-len.false, c.len.ensures, c.self.inside.slots.ok) in
    let at = slice_get_read hs (length hs) n c.index.result.now refl lt c.index.ensures ∙ ap Some c.in-Whole.is in
    let s = stands hs c.self.inside.limit c.self.inside.owner.0 c.self.inside.next_message t n h c.self.view_is at in
    subst (λ ts. IfSome c.place_of.result (λ i. IsPairThere ts i)) (sym (triples_is t n c.args.hash c.in-Whole.node c.in-Whole.field-0 c.in-Local.is s)) c.place_of.ensures.there

pub returns-in-Whole-clause-distinct : goal.returns-in-Whole-clause-distinct
returns-in-Whole-clause-distinct c = λ ks e.
    let hs = c.self.inside.slots.items in
    let t = c.args.self.now in
    let n = c.in-Local.slot in
    let h = Whole c.in-Whole.field-0 c.in-Whole.node in
    let lt : n < length hs = omega (arith, c.if-slot-len.false, c.len.ensures, c.self.inside.slots.ok) in
    let at = slice_get_read hs (length hs) n c.index.result.now refl lt c.index.ensures ∙ ap Some c.in-Whole.is in
    let s = stands hs c.self.inside.limit c.self.inside.owner.0 c.self.inside.next_message t n h c.self.view_is at in
    let same : node_keys c.in-Whole.node ≡ ks = same_Some (node_keys c.in-Whole.node) ks (sym (keys_here_are t n c.args.hash h c.in-Local.is s) ∙ e) in
    subst (λ (x : List HashKey). AreDistinct x) same c.place_of.ensures.distinct

pub returns-in-Shell-clause-distinct : goal.returns-in-Shell-clause-distinct
returns-in-Shell-clause-distinct c = λ ks e.
    let hs = c.self.inside.slots.items in
    let t = c.args.self.now in
    let n = c.in-Local.slot in
    let h = Shell in
    let lt : n < length hs = omega (arith, c.if-slot-len.false, c.len.ensures, c.self.inside.slots.ok) in
    let at = slice_get_read hs (length hs) n c.index.result.now refl lt c.index.ensures ∙ ap Some c.in-Shell.is in
    let s = stands hs c.self.inside.limit c.self.inside.owner.0 c.self.inside.next_message t n h c.self.view_is at in
    subst (λ (x : List HashKey). AreDistinct x) (same_Some [] ks (sym (keys_here_are t n c.args.hash h c.in-Local.is s) ∙ e)) none_distinct

pub returns-in-Forward-clause-none : goal.returns-in-Forward-clause-none
returns-in-Forward-clause-none c = λ no.
    let hs = c.self.inside.slots.items in
    let t = c.args.self.now in
    let n = c.in-Local.slot in
    let h = Forward c.in-Forward.place c.in-Forward.cluster in
    let lt : n < length hs = omega (arith, c.if-slot-len.false, c.len.ensures, c.self.inside.slots.ok) in
    let at = slice_get_read hs (length hs) n c.index.result.now refl lt c.index.ensures ∙ ap Some c.in-Forward.is in
    let s = stands hs c.self.inside.limit c.self.inside.owner.0 c.self.inside.next_message t n h c.self.view_is at in
    c.find.ensures.none (λ kind. no (forward_kind t n c.in-Forward.place c.args.hash c.in-Forward.cluster c.in-Local.is s ∙ kind))

pub returns-in-Forward-clause-there : goal.returns-in-Forward-clause-there
returns-in-Forward-clause-there c =
    let hs = c.self.inside.slots.items in
    let t = c.args.self.now in
    let n = c.in-Local.slot in
    let h = Forward c.in-Forward.place c.in-Forward.cluster in
    let lt : n < length hs = omega (arith, c.if-slot-len.false, c.len.ensures, c.self.inside.slots.ok) in
    let at = slice_get_read hs (length hs) n c.index.result.now refl lt c.index.ensures ∙ ap Some c.in-Forward.is in
    let s = stands hs c.self.inside.limit c.self.inside.owner.0 c.self.inside.next_message t n h c.self.view_is at in
    subst (λ ts. IfSome c.find.result (λ i. IsPairThere ts i)) (sym (forward_triples t n c.in-Forward.place c.args.hash c.in-Forward.cluster c.in-Local.is s)) c.find.ensures.there

pub returns-in-Forward-clause-distinct : goal.returns-in-Forward-clause-distinct
returns-in-Forward-clause-distinct c = λ ks e.
    let hs = c.self.inside.slots.items in
    let t = c.args.self.now in
    let n = c.in-Local.slot in
    let h = Forward c.in-Forward.place c.in-Forward.cluster in
    let lt : n < length hs = omega (arith, c.if-slot-len.false, c.len.ensures, c.self.inside.slots.ok) in
    let at = slice_get_read hs (length hs) n c.index.result.now refl lt c.index.ensures ∙ ap Some c.in-Forward.is in
    let s = stands hs c.self.inside.limit c.self.inside.owner.0 c.self.inside.next_message t n h c.self.view_is at in
    absurd (none-some ks (sym (keys_here_are t n c.args.hash h c.in-Local.is s) ∙ e))

pub returns-then-slot-len-clause-distinct : goal.returns-then-slot-len-clause-distinct
returns-then-slot-len-clause-distinct c = λ ks e.
    let hs = c.self.inside.slots.items in
    let t = c.args.self.now in
    let count = count_is hs c.self.inside.limit c.self.inside.owner.0 c.self.inside.next_message t c.self.view_is in
    let le : length t.slots ≤ c.in-Local.slot = omega (arith, count, c.if-slot-len.true, c.len.ensures, c.self.inside.slots.ok) in
    absurd (none-some ks (sym (keys_past t c.in-Local.slot c.args.hash c.in-Local.is (slice_get_past t.slots c.in-Local.slot le)) ∙ e))

pub returns-in-Shared-clause-none : goal.returns-in-Shared-clause-none
returns-in-Shared-clause-none c = λ no. c.find-in-Shared.ensures.none (λ kind. no (ap (kind_at c.args.self.now) c.in-Shared.is ∙ kind))

pub returns-in-Shared-clause-there : goal.returns-in-Shared-clause-there
returns-in-Shared-clause-there c = rw c.in-Shared.is c.find-in-Shared.ensures.there
