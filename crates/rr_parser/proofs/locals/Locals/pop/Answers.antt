use Rattle.std.proofs.Common.{ℕ, ◌++◌, ◌∷◌, [], List, Option, subst, arith}
use Rattle.rr_parser.specs.declared.locals.Local.{Local}
use Rattle.rr_parser.specs.Locals.{IsIndexed}
use Rattle.rr_parser.proofs.Indexing.{popped, last_has_entry}
use Rattle.rr_parser.proofs.locals.Locals.pop.Goals as goal

pub invariant_of-self-then-index-len : goal.invariant_of-self-then-index-len
invariant_of-self-then-index-len c =
    let ls = c.pop.new.self.items in
    let newest = c.self.inside.newest.items in
    let was = subst (λ (xs : List Local). IsIndexed xs c.self.inside.hidden.items newest) c.in-Some.ensures.items c.self.invariant in
    popped ls c.in-Some.local c.pop-2.new.self.items newest c.in-Some-pop.hidden
    (subst (λ (xs : List (Option ℕ)). IsIndexed (ls ++ c.in-Some.local ∷ []) xs newest) c.in-Some-pop.ensures.items was) (omega arith)

pub invariant_of-self-else-index-len : goal.invariant_of-self-else-index-len
invariant_of-self-else-index-len c =
    let ls = c.pop.new.self.items in
    let newest = c.self.inside.newest.items in
    let was = subst (λ (xs : List Local). IsIndexed xs c.self.inside.hidden.items newest) c.in-Some.ensures.items c.self.invariant in
    absurd (last_has_entry ls c.in-Some.local c.self.inside.hidden.items newest was (omega arith))
