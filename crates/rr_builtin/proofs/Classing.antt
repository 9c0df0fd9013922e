-- What a value is, is what its reference leads to.
use Rattle.std.proofs.Common.{◌≡◌, ◌∙◌, Option, Some, None, List, slice_get, refl, sym, ap}
use Rattle.std.specs.Option.{option_map}
use Rattle.rr_space.specs.Graph.{Object, Published}
use Rattle.rr_space.specs.Tables.{Table, Slot, Below, resolve_object, resolve_slot}
use Rattle.rr_space.specs.Sound.{IsTableSound}
use Rattle.rr_space.specs.Parts.{value_of, bytes_of}
use Rattle.rr_space.specs.Views.{object_at, text_at}
use Rattle.rr_space.specs.Kinds.{object_class, object_kind, class_at, kind_at}
use Rattle.rr_space.specs.declared.refer.Ref.{Ref}
use Rattle.rr_space.specs.declared.refer.Ref.TheVariants.{Nil, False, True, Int, Symbol, Class, Ractor, Local, Shared}
use Rattle.rr_text.specs.Reads.{IsReadWith, IsAmong}
use Rattle.rr_text.proofs.Seeing.{seen}
use Rattle.rr_builtin.specs.ValueClasses.{class_of_value, kind_of_value, bytes_of_value}

class_resolved : (slots : List Slot) (o : Option Object) → object_class (option_map (resolve_object slots) o) ≡ object_class o
class_resolved slots None = refl
class_resolved slots (Some o) = refl

pub class_is : (t : Table) (below : Below) (r : Ref) → IsTableSound t.slots t.below → IsReadWith t below → IsAmong below r → class_at t r ≡ class_of_value below t (value_of r)
unfolding class_of_value
class_is t below Nil sound read among = refl
class_is t below False sound read among = refl
class_is t below True sound read among = refl
class_is t below (Int z) sound read among = refl
class_is t below (Symbol s) sound read among = refl
class_is t below (Class c) sound read among = refl
class_is t below (Ractor c) sound read among = refl
class_is t below (Local m) sound read among =
    sym (ap object_class (seen t below (Local m) (resolve_slot (slice_get t.slots m) m) sound read among refl) ∙ class_resolved t.slots (object_at t (Local m)))
class_is t below (Shared p c) sound read among =
    sym (ap object_class (seen t below (Shared p c) (Published c.now.number p) sound read among refl) ∙ class_resolved t.slots (object_at t (Shared p c)))

kind_resolved : (slots : List Slot) (o : Option Object) → object_kind (option_map (resolve_object slots) o) ≡ object_kind o
kind_resolved slots None = refl
kind_resolved slots (Some o) = refl

pub kind_is : (t : Table) (below : Below) (r : Ref) → IsTableSound t.slots t.below → IsReadWith t below → IsAmong below r → kind_at t r ≡ kind_of_value below t (value_of r)
unfolding kind_of_value
kind_is t below Nil sound read among = refl
kind_is t below False sound read among = refl
kind_is t below True sound read among = refl
kind_is t below (Int z) sound read among = refl
kind_is t below (Symbol s) sound read among = refl
kind_is t below (Class c) sound read among = refl
kind_is t below (Ractor c) sound read among = refl
kind_is t below (Local m) sound read among =
    sym (ap object_kind (seen t below (Local m) (resolve_slot (slice_get t.slots m) m) sound read among refl) ∙ kind_resolved t.slots (object_at t (Local m)))
kind_is t below (Shared p c) sound read among =
    sym (ap object_kind (seen t below (Shared p c) (Published c.now.number p) sound read among refl) ∙ kind_resolved t.slots (object_at t (Shared p c)))

bytes_resolved : (slots : List Slot) (o : Option Object) → bytes_of (option_map (resolve_object slots) o) ≡ bytes_of o
bytes_resolved slots None = refl
bytes_resolved slots (Some o) = refl

pub bytes_are : (t : Table) (below : Below) (r : Ref) → IsTableSound t.slots t.below → IsReadWith t below → IsAmong below r → text_at t r ≡ bytes_of_value below t (value_of r)
unfolding bytes_of_value
bytes_are t below Nil sound read among = refl
bytes_are t below False sound read among = refl
bytes_are t below True sound read among = refl
bytes_are t below (Int z) sound read among = refl
bytes_are t below (Symbol s) sound read among = refl
bytes_are t below (Class c) sound read among = refl
bytes_are t below (Ractor c) sound read among = refl
bytes_are t below (Local m) sound read among =
    sym (ap bytes_of (seen t below (Local m) (resolve_slot (slice_get t.slots m) m) sound read among refl) ∙ bytes_resolved t.slots (object_at t (Local m)))
bytes_are t below (Shared p c) sound read among =
    sym (ap bytes_of (seen t below (Shared p c) (Published c.now.number p) sound read among refl) ∙ bytes_resolved t.slots (object_at t (Shared p c)))
