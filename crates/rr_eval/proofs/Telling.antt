-- What is told of an exception that was thrown.
use Rattle.std.proofs.Common.{◌≡◌, ℕ, zero, suc, ◌∙◌, sym, ap, subst, refl, arith, inl, inr, List, [], ◌∷◌, ◌++◌, length, codes, Some, slice_get, Contains, Option, None}
use Rattle.rr_base.specs.Classes.{class_id}
use Rattle.rr_space.specs.Graph.{Value, Nil, Plain, At, Own, Label, Message, Cause, Ractor}
use Rattle.rr_space.specs.Tables.{Table, Here}
use Rattle.rr_space.specs.Labels.{triples_at, triples_of, IsFirstUnder}
use Rattle.rr_space.specs.Kinds.{object_class, object_kind, kind_at}
use Rattle.rr_space.specs.declared.kind.Kind.TheVariants as kinds
use Rattle.rr_space.specs.Lookups.{text_object}
use Rattle.rr_space.specs.Parts.{value_of, bytes_of}
use Rattle.rr_space.specs.Views.{object_at, slot_object, text_at}
use Rattle.rr_space.specs.declared.refer.Ref.{Ref}
use Rattle.rr_space.specs.declared.refer.Ref.TheVariants as refs
use Rattle.rr_eval.specs.Context.{Context}
use Rattle.rr_eval.specs.Messages.{message, exception_class}
use Rattle.rr_eval.specs.Exceptions.{exception_object, told_message, HasMessage, IsTold}
use Rattle.rr_eval.specs.Thrown.{thrown, report}
use Rattle.rr_eval.specs.declared.problem.Problem.{Problem}

-- the element behind others, and those before it
get_last : {A : Type 0} (xs : List A) (y : A) → slice_get (xs ++ y ∷ []) (length xs) ≡ Some y
get_last [] y = refl
get_last (x ∷ xs) y = get_last xs y

get_before : {A : Type 0} (xs : List A) (y z : A) → slice_get ((xs ++ y ∷ []) ++ z ∷ []) (length xs) ≡ Some y
get_before [] y z = refl
get_before (x ∷ xs) y z = get_before xs y z

-- a value that is an own object is its slot
own_ref : (r : Ref) (n : ℕ) → value_of r ≡ At (Own n) → r ≡ refs.Local n
own_ref (refs.Local m) n e = cc e
own_ref (refs.Shared p c) n e = absurd (cc e)
own_ref refs.Nil n e = absurd (cc e)
own_ref refs.False n e = absurd (cc e)
own_ref refs.True n e = absurd (cc e)
own_ref (refs.Int z) n e = absurd (cc e)
own_ref (refs.Symbol s) n e = absurd (cc e)
own_ref (refs.Class c) n e = absurd (cc e)
own_ref (refs.Ractor r) n e = absurd (cc e)

abbrev value_in : Option (Label × Value) → Value
value_in (Some p) = p.1
value_in None = Plain Nil

-- what stands under the message of a new exception is its message
first_message : (n : ℕ) (rest : List (Label × Value)) (x : Value) → IsFirstUnder ((Message, At (Own n)) ∷ rest) Message x → x ≡ At (Own n)
first_message n rest x (zero, is, before) = sym (ap value_in is)
first_message n rest x (suc k, is, before) = absurd (before 0 (At (Own n)) (omega arith) refl)

module _ (c : Context) (e : Problem) (cause : Ref) (t : Table) where
  abbrev u : Table
  u = thrown c e cause t

  abbrev made : ℕ
  made = length (t.slots ++ Here (text_object (message c e)) ∷ [])

  new : object_at u (refs.Local made) ≡ Some (exception_object (class_id (exception_class e)) (refs.Local (length t.slots)) cause)
  new = ap (λ s. slot_object s (slice_get u.below made)) (get_last (t.slots ++ Here (text_object (message c e)) ∷ []) (Here (exception_object (class_id (exception_class e)) (refs.Local (length t.slots)) cause)))

  kind : kind_at u (refs.Local (length t.slots)) ≡ kinds.Text
  kind = ap (λ s. object_kind (slot_object s (slice_get u.below (length t.slots)))) (get_before t.slots (Here (text_object (message c e))) (Here (exception_object (class_id (exception_class e)) (refs.Local (length t.slots)) cause)))

  text : text_at u (refs.Local (length t.slots)) ≡ message c e
  text = ap (λ s. bytes_of (slot_object s (slice_get u.below (length t.slots)))) (get_before t.slots (Here (text_object (message c e))) (Here (exception_object (class_id (exception_class e)) (refs.Local (length t.slots)) cause)))

  parts : triples_at u (refs.Local made) ≡ (Message, At (Own (length t.slots))) ∷ (Cause, value_of cause) ∷ (Ractor, Plain Nil) ∷ []
  parts = ap triples_of new

  read : (class bytes : List ℕ) → HasMessage u (refs.Local made) class bytes → bytes ≡ message c e
  read class bytes (inl (r, first, is)) =
      let own = own_ref r (length t.slots) (first_message (length t.slots) ((Cause, value_of cause) ∷ (Ractor, Plain Nil) ∷ []) (value_of r) (subst (λ ts. IsFirstUnder ts Message (value_of r)) parts first)) in
      is ∙ ap (λ v. told_message class (kind_at u v) (text_at u v)) own ∙ ap (λ k. told_message class k (text_at u (refs.Local (length t.slots)))) kind ∙ text
  read class bytes (inr (none, is)) = absurd (none (At (Own (length t.slots))) (subst (λ ts. Contains ts (Message, At (Own (length t.slots)))) (sym parts) (0, omega arith, refl)))

  pub told_of : (told : List ℕ) → IsTold u (refs.Local made) told → told ≡ report c e
  told_of told is =
      let class = is.named (exception_class e) (sym (ap object_class new)) in
      is.spells
      ∙ ap (λ m. m ++ codes " (" ++ is.class ++ codes ")") (read is.class is.message is.read)
      ∙ ap (λ k. message c e ++ codes " (" ++ k ++ codes ")") class
