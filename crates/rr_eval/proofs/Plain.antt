-- The methods that plain objects find, one after the other.
use Rattle.std.proofs.Common.{◌≡◌, ℕ, ◌∙◌, Bool, true, false, ◌||◌, refl, List, [], ◌∷◌, ◌++◌, length, Option, Some, None, ◌&&◌, if◌then◌else◌, slice_get, sym, ap, subst, inl, inr, arith}
use Rattle.std.specs.Option.{option_map}
use Rattle.std.proofs.lemmas.Option.{slice_get_within}
use Rattle.rr_eval.specs.declared.asking.Saying.TheVariants.{Text}
use Rattle.rr_eval.specs.declared.call.Callee.{Callee}
use Rattle.rr_eval.specs.declared.instances.Instances.{Instances}
use Rattle.rr_eval.specs.declared.plain_methods.PlainMethod.{PlainMethod}
use Rattle.rr_space.proofs.Hands.{append_cases}
use Rattle.rr_eval.specs.Context.{Context}
use Rattle.rr_base.specs.declared.name.Sym.{Sym}
use Rattle.rr_base.specs.declared.name.ClassId.{ClassId}
use Rattle.rr_base.specs.declared.name.TheConstants.ClassId.{CLASS}
use Rattle.rr_builtin.specs.Kinds.{is_array_kind}
use Rattle.rr_space.specs.Kinds.{class_at, kind_at}
use Rattle.rr_space.specs.Tables.{Table}
use Rattle.rr_space.specs.declared.kind.Kind.TheVariants.{Object}
use Rattle.rr_space.specs.declared.refer.Ref.{Ref}
use Rattle.rr_space.specs.declared.refer.Ref.TheVariants.{Class, Local}
use Rattle.rr_tree.specs.declared.method_table.MethodName.TheVariants.{Plain}
use Rattle.rr_eval.specs.declared.call.Callee.TheVariants.{Name}
use Rattle.rr_eval.specs.Callees.{method_of}
use Rattle.rr_eval.specs.Dispatch.{comes_first, is_below, iteration_of, method_for, unless_below}
use Rattle.rr_eval.specs.Methods.{Callable, method_in}
use Rattle.rr_eval.specs.RactorMethods.{ractor_method}
use Rattle.rr_eval.specs.Joins.{joined_by, joins}
use Rattle.rr_eval.specs.Prepared.{AreInstances, AreKnown, ArePlain, IsLocal, callable_of, plain_method}
use Rattle.rr_eval.specs.Speaking.{symbol_asked}

-- one entry more
pub entry_more : {A : Type 0} (P : ℕ → A → Type 0) (found : List A) (d : A) (n : ℕ) → length found ≡ n → ((x : ℕ) (f : A) → slice_get found x ≡ Some f → P x f) → P n d → (x : ℕ) (f : A) → slice_get (found ++ d ∷ []) x ≡ Some f → P x f
entry_more P found d n at are is x f e =
    elim (append_cases found (d ∷ []) x f e) [
      | inl l ↦ are x f l
      | inr r ↦
          let within = slice_get_within (d ∷ []) r.0 f r.2 in
          let none : r.0 ≡ 0 = omega (arith, within) in
          let first = subst (λ j. slice_get (d ∷ []) j ≡ Some f) none r.2 in
          let same : d ≡ f = cc first in
          let there : n ≡ x = omega (arith, at, r.1, none) in
          subst (λ j. P j f) there (subst (P n) same is)
    ]

-- one method more
pub plain_more : (c : Context) (found : List PlainMethod) (d : PlainMethod) (n : ℕ) → length found ≡ n → ArePlain c found → option_map (callable_of c.program.nodes.items) d.definition ≡ plain_method c d.class (record { 0 = n }) → ArePlain c (found ++ d ∷ [])
plain_more c found d n at are is = entry_more (λ x f. option_map (callable_of c.program.nodes.items) f.definition ≡ plain_method c f.class (record { 0 = x })) found d n at are is

-- one class more
pub instances_more : (c : Context) (known : List Instances) (i : Instances) (n : ℕ) → length known ≡ n → AreKnown c known → AreInstances c (record { 0 = n }) i → AreKnown c (known ++ i ∷ [])
instances_more c known i n at are is = entry_more (λ k j. AreInstances c (record { 0 = k }) j) known i n at are is

-- nothing more
or_none : (b : Bool) → b || false ≡ b
or_none true = refl
or_none false = refl

-- no method of Ractor, or of a ractor, comes first for an object of the space itself
comes_plain : (c : Context) (t : Table) (n : ℕ) (x : Sym) → kind_at t (Local n) ≡ Object → comes_first c t (Local n) (Name x) ≡ is_below Object (method_of c (Name x)) (iteration_of c (Name x))
unfolding comes_first ractor_method
comes_plain c t n x kind =
    ap (λ k. is_below k (method_of c (Name x)) (iteration_of c (Name x)) || false) kind ∙ or_none (is_below Object (method_of c (Name x)) (iteration_of c (Name x)))

-- what a plain object finds is what a call finds
pub plain_found : (c : Context) (t : Table) (v : Ref) (k : ClassId) (x : Sym) (f : Option Callable) → IsLocal v → kind_at t v ≡ Object → class_at t v ≡ k → f ≡ plain_method c k x → f ≡ method_for c t v (Name x)
plain_found c t (Local n) k x f own kind class is =
    let below = is_below Object (method_of c (Name x)) (iteration_of c (Name x)) in
    is
    ∙ ap (λ j. unless_below below (method_in c.program j (Plain x))) (sym class)
    ∙ ap (λ b. unless_below b (method_in c.program (class_at t (Local n)) (Plain x))) (sym (comes_plain c t n x kind))
plain_found c t _ k x f own kind class is = absurd own

-- a plain object is no array that is joined
pub plain_joins : (c : Context) (t : Table) (v : Ref) (callee : Callee) → kind_at t v ≡ Object → joined_by c t callee v ≡ None
plain_joins c t v callee kind = ap (λ k. if is_array_kind k && joins (method_of c callee) then symbol_asked c Text else None) kind

-- a class finds no method of the program where none of Class has the name
pub class_finds : (c : Context) (t : Table) (k : ClassId) (x : Sym) → method_in c.program CLASS (Plain x) ≡ None → method_for c t (Class k) (Name x) ≡ None
class_finds c t k x none = ap (unless_below (comes_first c t (Class k) (Name x))) none
