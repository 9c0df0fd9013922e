-- Calls that are frequent, and the acts that they are.
use Rattle.std.proofs.Common.{◌≡◌, ◌∙◌, ◌⊎◌, ◌<◌, ◌≤◌, ℕ, ℤ, Bool, true, false, if◌then◌else◌, List, [], ◌∷◌, length, Option, Some, Result, Ok, Err, IfOk, IfErr, IsTrue, inl, inr, refl, sym, ap, subst, slice_index_or, get_or, arith}
use Rattle.std.specs.List.{All}
use Rattle.rr_base.specs.declared.fault.Fault.{Fault}
use Rattle.rr_base.specs.declared.fault.Fault.TheVariants.{Memory}
use Rattle.rr_space.specs.Tables.{Table, Below, HashKey}
use Rattle.rr_space.specs.Parts.{value_of}
use Rattle.rr_space.specs.Kinds.{kind_at, class_at}
use Rattle.rr_space.specs.Views.{can_write_at}
use Rattle.rr_space.specs.declared.kind.Kind.{Kind}
use Rattle.rr_space.specs.declared.kind.Kind.TheVariants as kind
use Rattle.rr_space.specs.declared.refer.Ref.{Ref}
use Rattle.rr_space.specs.declared.refer.Ref.TheVariants.{Nil, Int}
use Rattle.rr_text.specs.Keys.{pair_with}
use Rattle.rr_text.specs.Names.{names_of}
use Rattle.rr_text.specs.Reads.{IsReadWith}
use Rattle.rr_tree.specs.declared.program.Program.{Program}
use Rattle.rr_builtin.specs.declared.built.Built.{Built}
use Rattle.rr_builtin.specs.declared.problem.Problem.TheVariants.{Moved, Count, Frozen}
use Rattle.rr_builtin.specs.declared.method.ContentMethod.{ContentMethod}
use Rattle.rr_builtin.specs.declared.method.ContentMethod.TheVariants.{At, Append, Push, SetAt}
use Rattle.rr_builtin.specs.declared.method.BuiltInMethod.TheVariants.{Content}
use Rattle.rr_builtin.specs.Acts.{Act, Answers, Pushes, Puts, Raises, Lacks, outcome_of, performed, Acts, IsRefAmong, IsBuiltWithin, IsBuiltAmong}
use Rattle.rr_builtin.specs.Arrays.{placed, array_put}
use Rattle.rr_builtin.specs.Calls.{responds, most_of, is_between, call_act}
use Rattle.rr_builtin.specs.Containers.{content_act}
use Rattle.rr_builtin.specs.Contents.{place_of, indexed, unless_frozen}
use Rattle.rr_builtin.specs.Elements.{count_at}
use Rattle.rr_builtin.specs.Hashes.{key_given, keyed, stored, hash_read}
use Rattle.rr_builtin.specs.Kinds.{is_shell_kind, count_of}
use Rattle.rr_builtin.proofs.Serving.{rest_same}

-- what a call of a method of containers does, by the kind of the receiver
abbrev act_by : Program → Below → Ref → ContentMethod → List Ref → Table → Kind → Act
act_by p below v m args t k =
    if is_shell_kind k then Answers (Raises Moved) else
    if responds p t k v (Content m) then
    (if is_between (count_of (Content m)) (most_of p v (Content m)) (length args) then content_act (names_of p) below k m v (slice_index_or args 0 Nil) (slice_index_or args 1 Nil) t else Answers (Raises (Count (length args) (count_of (Content m)) (most_of p v (Content m)))))
    else Answers Lacks

by_kind : (p : Program) (below : Below) (v : Ref) (m : ContentMethod) (args : List Ref) (t : Table) (k : Kind) → kind_at t v ≡ k → call_act p below v (Content m) args t ≡ act_by p below v m args t k
by_kind p below v m args t k is = ap (act_by p below v m args t) is

pub array_at : (p : Program) (below : Below) (v a : Ref) (t : Table) → kind_at t v ≡ kind.Array → call_act p below v (Content At) (a ∷ []) t ≡ Answers (indexed v a t)
array_at p below v a t is = by_kind p below v At (a ∷ []) t kind.Array is

pub hash_at : (p : Program) (below : Below) (v a : Ref) (t : Table) → kind_at t v ≡ kind.Hash → call_act p below v (Content At) (a ∷ []) t ≡ hash_read below v a t
hash_at p below v a t is = by_kind p below v At (a ∷ []) t kind.Hash is

unfrozen : (v : Ref) (t : Table) (act : Act) → IsTrue (can_write_at t v) → unless_frozen v t act ≡ act
unfrozen v t act = by (can_write_at t v)
  where
    by : (b : Bool) → IsTrue b → (if b then act else Answers (Raises (Frozen (class_at t v)))) ≡ act
    by true h = refl
    by false h = absurd (let no : ⊥ = cc in no)

pub array_push : (p : Program) (below : Below) (v a : Ref) (m : ContentMethod) (t : Table) → (m ≡ Append) ⊎ (m ≡ Push) → kind_at t v ≡ kind.Array → IsTrue (can_write_at t v)
    → call_act p below v (Content m) (a ∷ []) t ≡ Pushes (value_of a)
array_push p below v a m t (inl e) is can = ap (λ m. call_act p below v (Content m) (a ∷ []) t) e ∙ by_kind p below v Append (a ∷ []) t kind.Array is ∙ unfrozen v t (Pushes (value_of a)) can
array_push p below v a m t (inr e) is can = ap (λ m. call_act p below v (Content m) (a ∷ []) t) e ∙ by_kind p below v Push (a ∷ []) t kind.Array is ∙ unfrozen v t (Pushes (value_of a)) can

pub array_set : (p : Program) (below : Below) (v : Ref) (z : ℤ) (x : Ref) (k : ℕ) (t : Table) → kind_at t v ≡ kind.Array → IsTrue (can_write_at t v) → place_of z (count_at t v) ≡ Some k
    → call_act p below v (Content SetAt) (Int z ∷ x ∷ []) t ≡ Puts k (value_of x)
array_set p below v z x k t is can at = by_kind p below v SetAt (Int z ∷ x ∷ []) t kind.Array is ∙ unfrozen v t (array_put v (Int z) x t) can ∙ ap (λ o. placed o x) at

pub hash_set : (p : Program) (below : Below) (v a x : Ref) (key : HashKey) (t : Table) → kind_at t v ≡ kind.Hash → IsTrue (can_write_at t v) → key_given t a ≡ Some key
    → call_act p below v (Content SetAt) (a ∷ x ∷ []) t ≡ stored key (pair_with below t v key) a x t
hash_set p below v a x key t is can given =
    let act = λ (o : Option HashKey). keyed o (class_at t a) (λ key. stored key (pair_with below t v key) a x t) in
    by_kind p below v SetAt (a ∷ x ∷ []) t kind.Hash is ∙ unfrozen v t (act (key_given t a)) can ∙ ap act given

-- ---- An answer that is given at once.

pub answer_acts : (below : Below) (act : Act) (v : Ref) (t : Table) (r : Result Built Fault) → IsReadWith t below → IfOk r (λ b. act ≡ Answers (outcome_of b)) → IfOk r (IsBuiltWithin (length t.slots)) → IfOk r (IsBuiltAmong below)
    → IfErr r (λ f. f ≡ Memory) → Acts below (performed act v) t t r
answer_acts below act v t (Ok b) read is within among fault = record {
  outcome = sym (ap (λ a. (performed a v t).0) is);
  slots = sym (ap (λ a. (performed a v t).1.slots) is);
  keys = sym (ap (λ a. (performed a v t).1.keys) is);
  rest = rest_same t;
  read = read;
  within = within;
  among = among;
}
answer_acts below act v t (Err f) read is within among fault = (refl, inl fault)

-- ---- The arguments of a call.

pub one_of : (args : List Ref) (a : Ref) → 1 ≤ length args → length args < 2 → a ≡ get_or args 0 a → args ≡ a ∷ []
one_of [] a least most is = absurd (let no : ⊥ = omega arith in no)
one_of (x ∷ []) a least most is = ap (λ (r : Ref). r ∷ []) (sym is)
one_of (x ∷ y ∷ ys) a least most is = absurd (let no : ⊥ = omega arith in no)

pub two_of : (args : List Ref) (a b : Ref) → 2 ≤ length args → length args < 3 → a ≡ get_or args 0 a → b ≡ get_or args 1 b → args ≡ a ∷ b ∷ []
two_of [] a b least most first second = absurd (let no : ⊥ = omega arith in no)
two_of (x ∷ []) a b least most first second = absurd (let no : ⊥ = omega arith in no)
two_of (x ∷ y ∷ []) a b least most first second = ap (λ (r : Ref). r ∷ y ∷ []) (sym first) ∙ ap (λ (r : Ref). a ∷ r ∷ []) (sym second)
two_of (x ∷ y ∷ z ∷ zs) a b least most first second = absurd (let no : ⊥ = omega arith in no)

pub first_among : (below : Below) (args : List Ref) (a : Ref) → args ≡ a ∷ [] → All (IsRefAmong below) args → IsRefAmong below a
first_among below args a is all = (subst (λ (rs : List Ref). All (IsRefAmong below) rs) is all) 0 a (omega arith)

pub front_among : (below : Below) (args : List Ref) (a b : Ref) → args ≡ a ∷ b ∷ [] → All (IsRefAmong below) args → IsRefAmong below a
front_among below args a b is all = (subst (λ (rs : List Ref). All (IsRefAmong below) rs) is all) 0 a (omega arith)

pub second_among : (below : Below) (args : List Ref) (a b : Ref) → args ≡ a ∷ b ∷ [] → All (IsRefAmong below) args → IsRefAmong below b
second_among below args a b is all = (subst (λ (rs : List Ref). All (IsRefAmong below) rs) is all) 1 b (omega arith)
