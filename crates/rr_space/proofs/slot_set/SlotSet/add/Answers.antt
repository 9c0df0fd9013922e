use Rattle.std.proofs.Common.{◌∙◌, ℕ, List, [], ◌∷◌, ◌++◌, IsTrue, Contains, nat_eq, sym, ap, subst}
use Rattle.std.specs.List.{IsDistinct}
use Rattle.indexmap.specs.IndexSet.{insert_key}
use Rattle.rr_space.specs.Places.{ArePlaced}
use Rattle.rr_space.proofs.Paging.{distinct_push, push_inserts}
use Rattle.rr_space.proofs.slot_set.SlotSet.add.Goals as goal

pub keep_place-requires-clause-absent : goal.keep_place-requires-clause-absent
keep_place-requires-clause-absent c = λ has.
    let yes : IsTrue c.contains.result = c.contains.ensures.1 (subst (λ (xs : List ℕ). Contains xs c.args.slot) (c.deref.ensures.value ∙ c.self.view_is) has) in absurd (cc)

pub invariant_of-self-in_err-push : goal.invariant_of-self-in_err-push
invariant_of-self-in_err-push c =
    subst (λ (xs : List ℕ). IsDistinct nat_eq xs × ArePlaced xs c.keep_place.new.places) (sym c.in_err-push.ensures.items) (c.self.invariant.0, subst (λ (xs : List ℕ). ArePlaced xs c.keep_place.new.places) c.deref.ensures.value c.keep_place.ensures.still)

pub invariant_of-self-2 : goal.invariant_of-self-2
invariant_of-self-2 c =
    let slots = c.self.inside.slots.items in
    let absent : (Contains slots c.args.slot → ⊥) = λ has. let yes : IsTrue c.contains.result = c.contains.ensures.1 (subst (λ (xs : List ℕ). Contains xs c.args.slot) c.self.view_is has) in absurd (cc) in
    subst (λ (xs : List ℕ). IsDistinct nat_eq xs × ArePlaced xs c.keep_place.new.places) (sym c.in_ok-push.ensures.items)
    (distinct_push slots c.args.slot c.self.invariant.0 absent, subst (λ (xs : List ℕ). ArePlaced (xs ++ c.args.slot ∷ []) c.keep_place.new.places) c.deref.ensures.value c.in_ok-keep_place.ensures.placed)

pub returns-clause-added : goal.returns-clause-added
returns-clause-added c =
    let slots = c.self.inside.slots.items in
    let absent : (Contains slots c.args.slot → ⊥) = λ has. let yes : IsTrue c.contains.result = c.contains.ensures.1 (subst (λ (xs : List ℕ). Contains xs c.args.slot) c.self.view_is has) in absurd (cc) in
    c.in_ok-push.ensures.items ∙ push_inserts slots c.args.slot absent ∙ ap (λ (xs : List ℕ). insert_key nat_eq xs c.args.slot) c.self.view_is
