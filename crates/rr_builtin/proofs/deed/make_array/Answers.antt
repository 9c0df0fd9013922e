use Rattle.std.proofs.Common.{◌∙◌, ◌++◌, [], ◌∷◌, List, length, sym, ap, subst}
use Rattle.rr_space.specs.Tables.{Here}
use Rattle.rr_space.specs.Parts.{places_from, below_parts}
use Rattle.rr_space.specs.Views.{AllWithin, object_of}
use Rattle.rr_space.specs.declared.refer.Ref.{Ref}
use Rattle.rr_space.specs.declared.node.Node.TheVariants.{Array}
use Rattle.rr_builtin.proofs.Arraying.{all_places, array_done}
use Rattle.rr_builtin.proofs.Serving.{served_new, served_refused}
use Rattle.std.proofs.Common.{inl, inr, ⊎_elim}
use Rattle.rr_builtin.proofs.deed.make_array.Goals as goal

pub alloc-requires-clause-within : goal.alloc-requires-clause-within
alloc-requires-clause-within c =
    let k = length c.args.space.now.slots in
    subst (λ (rs : List Ref). AllWithin k (places_from 0 rs)) (sym c.from_vec.ensures) (all_places k 0 c.args.items.items c.requires)

pub returns-in-Ok-clause-act : goal.returns-in-Ok-clause-act
returns-in-Ok-clause-act c = λ below v read among.
    let old = c.args.space.now in
    let new = c.alloc.new.self in
    let its = c.args.items.items in
    array_done below old new its c.in-Ok.array read c.in-Ok.ensures.name
    (c.in-Ok.ensures.slots ∙ ap (λ (rs : List Ref). old.slots ++ Here (object_of (Array rs)) ∷ []) c.from_vec.ensures)
    (c.in-Ok.ensures.below ∙ ap (λ (rs : List Ref). old.below ++ below_parts (places_from 0 rs) ∷ []) c.from_vec.ensures)
    c.in-Ok.ensures.keys c.alloc.ensures.rest among

pub returns-in-Ok-clause-served : goal.returns-in-Ok-clause-served
returns-in-Ok-clause-served c = served_new c.args.space.now c.alloc.new.self _ c.in-Ok.array c.in-Ok.ensures.name c.in-Ok.ensures.slots c.alloc.ensures.rest

pub returns-in-Err-clause-served : goal.returns-in-Err-clause-served
returns-in-Err-clause-served c = served_refused c.args.space.now c.alloc.new.self c.in-Err.fault c.in-Err.ensures.refused (⊎_elim (λ q. inr q) (λ m. inl m) c.in-Err.ensures.fault)
