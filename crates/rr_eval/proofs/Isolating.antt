-- Starts of ractors in a script on its own.
use Rattle.std.proofs.Common.{◌≡◌, ◌∙◌, ap, refl, sym, ℕ, Bool, true, false, List, [], ◌∷◌, length, Option, Some, None}
use Rattle.rr_base.specs.Classes.{class_id}
use Rattle.rr_base.specs.declared.class.BuiltInClass.TheVariants as built_in
use Rattle.rr_base.specs.declared.fault.Fault.{Fault}
use Rattle.rr_base.specs.declared.fault.Fault.TheVariants as fault
use Rattle.rr_base.specs.declared.name.ClassId.{ClassId}
use Rattle.rr_space.specs.declared.refer.Ref.{Ref}
use Rattle.rr_space.specs.declared.refer.Ref.TheVariants.{Local}
use Rattle.rr_tree.specs.Tree.{Tree}
use Rattle.rr_isolation.specs.Names.{outer_names, uses_yield}
use Rattle.rr_isolation.specs.Outer.{IsRefused}
use Rattle.rr_eval.specs.declared.call.Callee.{Callee}
use Rattle.rr_eval.specs.declared.problem.Problem.{Problem}
use Rattle.rr_eval.specs.declared.problem.Problem.TheVariants.{UsesYield}
use Rattle.rr_eval.specs.declared.ractor_method.RactorMethod.{RactorMethod}
use Rattle.rr_eval.specs.Basics.{throw}
use Rattle.rr_eval.specs.Context.{Context}
use Rattle.rr_eval.specs.Starting.{raise_text, outer_text, isolated_rule, start_rule, start_problem, refused_block, refused_call, started, with_block_rule}
use Rattle.rr_eval.proofs.Keeping.{Keeps, make_keeps, raise_keeps, throw_keeps}

-- they take no object away
text_keeps : (class : ClassId) (bytes : List ℕ) → Keeps (raise_text class bytes)
text_keeps class bytes = λ m. (λ k. make_keeps false bytes k.table, raise_keeps class (Local (length m.table.slots)))

isolated_keeps : (c : Context) (names : List ℕ) (yields : Bool) (problem : Problem) → Keeps (isolated_rule c names yields problem)
isolated_keeps c (x ∷ xs) yields problem = text_keeps _ _
isolated_keeps c [] true problem = throw_keeps c UsesYield
isolated_keeps c [] false problem = throw_keeps c problem

pub start_keeps : (c : Context) (b : Tree) (problem : Problem) → Keeps (start_rule c b problem)
unfolding start_rule
start_keeps c b problem = isolated_keeps c (outer_names (length c.program.nodes.items) b) (uses_yield (length c.program.nodes.items) b) problem

started_keeps : (c : Context) (refused : Option Problem) (b : Tree) (v : Ref) → Keeps (started c refused b v)
started_keeps c (Some e) b v = throw_keeps c e
started_keeps c None b v = λ m. start_keeps c b (start_problem c m.table v)

pub with_block_keeps : (c : Context) (m : Option RactorMethod) (callee : Callee) (b : Tree) (v last : Ref) → Keeps (with_block_rule c m callee b v last)
unfolding with_block_rule
with_block_keeps c m callee b v last = λ k. started_keeps c (refused_block (refused_call c k.table v callee) m) b last

-- what comes of a start, by what was told of the block
pub start_free : (c : Context) (b : Tree) (problem : Problem) → outer_names (length c.program.nodes.items) b ≡ [] → uses_yield (length c.program.nodes.items) b ≡ false → start_rule c b problem ≡ throw c problem
unfolding start_rule
start_free c b problem none free = ap (λ names. isolated_rule c names (uses_yield (length c.program.nodes.items) b) problem) none ∙ ap (λ y. isolated_rule c [] y problem) free

pub start_yields : (c : Context) (b : Tree) (problem : Problem) → outer_names (length c.program.nodes.items) b ≡ [] → uses_yield (length c.program.nodes.items) b ≡ true → start_rule c b problem ≡ throw c UsesYield
unfolding start_rule
start_yields c b problem none yields = ap (λ names. isolated_rule c names (uses_yield (length c.program.nodes.items) b) problem) none ∙ ap (λ y. isolated_rule c [] y problem) yields

pub start_outer : (c : Context) (b : Tree) (problem : Problem) (names : List ℕ) → names ≡ outer_names (length c.program.nodes.items) b → (outer_names (length c.program.nodes.items) b ≡ [] → ⊥) → start_rule c b problem ≡ raise_text (class_id built_in.ArgumentError) (outer_text c names)
unfolding start_rule
start_outer c b problem [] is some = absurd (some (sym is))
start_outer c b problem (x ∷ xs) is some = ap (λ names. isolated_rule c names (uses_yield (length c.program.nodes.items) b) problem) (sym is)

-- a fault that tells nothing of the block is want of memory
pub only_memory : (t : Tree) (f : Fault) → ((names : _) → f ≡ fault.UsesOuter names → ⊥) → (f ≡ fault.UsesYield → ⊥) → IsRefused t f → f ≡ fault.Memory
only_memory t fault.Memory outer yields is = refl
only_memory t (fault.UsesOuter names) outer yields is = absurd (outer names refl)
only_memory t fault.UsesYield outer yields is = absurd (yields refl)
only_memory t _ outer yields is = absurd is
