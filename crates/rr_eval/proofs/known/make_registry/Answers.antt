-- An array without elements.
use Rattle.std.proofs.Common.{length, ap, sym, subst, List}
use Rattle.rr_builtin.proofs.Performing.{read_grown}
use Rattle.rr_space.specs.Parts.{places_from, AllWithin}
use Rattle.rr_space.specs.declared.refer.Ref.{Ref}
use Rattle.rr_eval.proofs.Registering.{one_array}
use Rattle.rr_eval.proofs.known.make_registry.Goals as goal

pub alloc-requires-clause-within : goal.alloc-requires-clause-within
alloc-requires-clause-within c = subst (λ (l : List Ref). AllWithin (length c.args.space.now.slots) (places_from 0 l)) (sym c.new.ensures) tt

pub returns-in-Ok-clause-made : goal.returns-in-Ok-clause-made
returns-in-Ok-clause-made c = one_array c.args.space.now c.alloc.new.self c.new.result c.new.ensures c.in-Ok.ensures.slots c.in-Ok.ensures.below c.in-Ok.ensures.keys c.in-Ok.ensures.rest

pub returns-in-Ok-clause-read : goal.returns-in-Ok-clause-read
returns-in-Ok-clause-read c below read = read_grown below c.args.space.now c.alloc.new.self read (ap (λ x. x.below) (returns-in-Ok-clause-made c))
