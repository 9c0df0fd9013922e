-- The keys that arguments are.
use Rattle.std.proofs.Common.{◌≡◌, ◌∙◌, true, false, if◌then◌else◌, ◌&&◌, Option, Some, None, refl, sym, ap}
use Rattle.std.proofs.lemmas.Bool.{false≢true}
use Rattle.rr_space.specs.Graph.{Object, Kind, text, array, hash, plain, exception, shell}
use Rattle.rr_space.specs.Tables.{Table, TextKey}
use Rattle.rr_space.specs.Parts.{bytes_of}
use Rattle.rr_space.specs.Views.{object_at, text_at}
use Rattle.rr_space.specs.Lookups.{is_text, key_at, key_of_object, key_of_frozen}
use Rattle.rr_space.specs.Kinds.{kind_at, kind_named, object_kind}
use Rattle.rr_space.specs.declared.refer.Ref.{Ref}
use Rattle.rr_space.specs.declared.refer.Ref.TheVariants.{Nil, False, True, Int, Symbol, Class, Ractor, Local, Shared}
use Rattle.rr_builtin.specs.Hashes.{key_given}
use Rattle.rr_builtin.specs.Objects.{is_text_kind}

text_named : (k : Kind) → is_text_kind (kind_named k) ≡ true → k ≡ text
text_named text e = refl
text_named array e = absurd (false≢true e)
text_named hash e = absurd (false≢true e)
text_named plain e = absurd (false≢true e)
text_named exception e = absurd (false≢true e)
text_named shell e = absurd (false≢true e)

text_tells : (k : Kind) → is_text_kind (kind_named k) ≡ is_text k
text_tells text = refl
text_tells array = refl
text_tells hash = refl
text_tells plain = refl
text_tells exception = refl
text_tells shell = refl

object_text : (o : Option Object) → is_text_kind (object_kind o) ≡ true → key_of_object o ≡ Some (TextKey (bytes_of o))
object_text None e = absurd (false≢true e)
object_text (Some o) e = ap (λ k. if is_text k then Some (TextKey o.bytes) else None) (text_named o.kind e)

object_other : (o : Option Object) → is_text_kind (object_kind o) ≡ false → key_of_frozen o ≡ key_of_object o
object_other None e = refl
object_other (Some o) e =
    let n : is_text o.kind ≡ false = sym (text_tells o.kind) ∙ e in
    ap (λ b. if b && o.frozen then Some (TextKey o.bytes) else None) n ∙ sym (ap (λ b. if b then Some (TextKey o.bytes) else None) n)

-- the key that a text is, and that any other value is
pub given_text : (t : Table) (r : Ref) → is_text_kind (kind_at t r) ≡ true → key_given t r ≡ Some (TextKey (text_at t r))
given_text t Nil e = absurd (false≢true e)
given_text t False e = absurd (false≢true e)
given_text t True e = absurd (false≢true e)
given_text t (Int z) e = absurd (false≢true e)
given_text t (Symbol s) e = absurd (false≢true e)
given_text t (Class c) e = absurd (false≢true e)
given_text t (Ractor c) e = absurd (false≢true e)
given_text t (Local n) e = object_text (object_at t (Local n)) e
given_text t (Shared p c) e = object_text (object_at t (Shared p c)) e

pub given_other : (t : Table) (r : Ref) → is_text_kind (kind_at t r) ≡ false → key_at t r ≡ key_given t r
given_other t Nil e = refl
given_other t False e = refl
given_other t True e = refl
given_other t (Int z) e = refl
given_other t (Symbol s) e = refl
given_other t (Class c) e = refl
given_other t (Ractor c) e = refl
given_other t (Local n) e = object_other (object_at t (Local n)) e
given_other t (Shared p c) e = object_other (object_at t (Shared p c)) e
