-- Pairs that are put into hashes.
use Rattle.std.proofs.Common.{◌≡◌, ◌∙◌, ◌+◌, ◌*◌, ◌&&◌, ◌⊎◌, ⊎_elim, inl, inr, ℕ, Bool, true, false, if◌then◌else◌, List, [], ◌∷◌, ◌++◌, length, length-append, length-set, remove, get_or, Contains, Option, Some, None, MatchOption, IfSome, IfNone, slice_get, slice_set, refl, sym, ap, subst, arith}
use Rattle.std.proofs.Math.Bool.{and-true}
use Rattle.std.proofs.lemmas.Bool.{false≢true}
use Rattle.std.proofs.lemmas.Option.{none-some, same_Some, slice_get-get_or, slice_get_within}
use Rattle.rr_base.specs.declared.fault.Fault.{Fault}
use Rattle.rr_base.specs.declared.fault.Fault.TheVariants.{Memory, Limit}
use Rattle.rr_base.specs.declared.limits.LimitKind.TheVariants.{Slots}
use Rattle.rr_space.specs.Graph.{Value, At, Own, Object}
use Rattle.rr_space.specs.Tables.{Table, Here, Below, HashKey, TextKey, IsRestKept}
use Rattle.rr_space.specs.Sound.{IsWell}
use Rattle.rr_space.specs.Parts.{value_of, below_ref, bytes_of, is_frozen_object, IsWithin}
use Rattle.rr_space.specs.Views.{paired_from, keys_at, keys_here, frozen_at, object_at, text_at, IsLedAlso}
use Rattle.rr_space.specs.Lookups.{is_text, key_at, key_of_frozen, key_of_object, frozen_text}
use Rattle.rr_space.specs.declared.refer.Ref.{Ref}
use Rattle.rr_space.specs.declared.refer.Ref.TheVariants.{Nil, False, True, Int, Symbol, Class, Ractor, Local, Shared}
use Rattle.rr_space.proofs.Within.{ref_later}
use Rattle.rr_text.specs.Reads.{IsReadWith}
use Rattle.rr_text.specs.Keys.{pairs_in}
use Rattle.rr_text.specs.Comparing.{value_or_none}
use Rattle.rr_builtin.specs.declared.built.Built.TheVariants as built
use Rattle.rr_builtin.specs.Acts.{Gives, with_pair, changed, without_pair, without_key, keys_without, element_at, added, with_frozen, changed_slot, keys_with, count_keys, key_count, IsRefAmong, IsDone, IsRefusal}
use Rattle.rr_builtin.specs.Hashes.{key_given}
use Rattle.rr_builtin.proofs.Among.{among_of}
use Rattle.rr_builtin.proofs.Performing.{IsWritable, read_led, read_grown, triples_here, paired_pairs, paired_value}

-- the keys of what may be written
pub written_keys : (t : Table) (v : Ref) (w : IsWritable t v) → IsWell t → (ks : List HashKey) × (slice_get t.keys w.slot ≡ Some ks) × (keys_at t v ≡ Some ks)
written_keys t v w well =
    let lt = slice_get_within t.slots w.slot (Here w.object) w.here in
    let at : slice_get t.keys w.slot ≡ Some (get_or t.keys w.slot []) = slice_get-get_or t.keys w.slot [] (omega (arith, lt, well.keyed.count)) in
    (get_or t.keys w.slot [], at, ap (keys_at t) w.named ∙ ap (λ s. keys_here s (slice_get t.keys w.slot)) w.here ∙ at)

pub match_some : (r : Option ℕ) (E P : List HashKey → Type 0) (Q : List HashKey → ℕ → Type 0) → ((ks : List HashKey) → E ks → MatchOption r (P ks) (Q ks)) → IfSome r (λ i. (ks : List HashKey) → E ks → Q ks i)
match_some None E P Q h = tt
match_some (Some i) E P Q h = h

pub match_none : (r : Option ℕ) (E P : List HashKey → Type 0) (Q : List HashKey → ℕ → Type 0) → ((ks : List HashKey) → E ks → MatchOption r (P ks) (Q ks)) → IfNone r ((ks : List HashKey) → E ks → P ks)
match_none None E P Q h = h
match_none (Some i) E P Q h = tt

added_slots : (name : Value) (key : HashKey) (x : Value) (t : Table) (v : Ref) (w : IsWritable t v) (ks : List HashKey) → keys_at t v ≡ Some ks → (added name key x v t).slots ≡ slice_set t.slots w.slot (Here (with_pair (length ks) name x w.object))
added_slots name key x t v w ks kat =
    ap (λ (r : Ref). (added name key x r t).slots) w.named
    ∙ ap (changed_slot (with_pair (key_count t (Local w.slot)) name x) t.slots w.slot) w.here
    ∙ ap (λ k. slice_set t.slots w.slot (Here (with_pair k name x w.object))) (ap count_keys (ap (keys_at t) (sym w.named) ∙ kat))

added_keys : (name : Value) (key : HashKey) (x : Value) (t : Table) (v : Ref) (w : IsWritable t v) (ks : List HashKey) → slice_get t.keys w.slot ≡ Some ks → (added name key x v t).keys ≡ slice_set t.keys w.slot (ks ++ key ∷ [])
added_keys name key x t v w ks at = ap (λ (r : Ref). (added name key x r t).keys) w.named ∙ ap (keys_with key t.keys w.slot) at

pub pair_done : (below : Below) (old new : Table) (name : Value) (key : HashKey) (x : Value) (v r : Ref) (w : IsWritable old v) (ks : List HashKey) → slice_get old.keys w.slot ≡ Some ks → keys_at old v ≡ Some ks
    → new.slots ≡ slice_set old.slots w.slot (Here (with_pair (length ks) name x w.object)) → new.keys ≡ slice_set old.keys w.slot (ks ++ key ∷ []) → IsRestKept old new → IsReadWith new below
    → value_of r ≡ x → IsWithin (length old.slots) r → IsRefAmong below r → IsDone below (Gives x, added name key x v old) old new (built.Value r)
pair_done below old new name key x v r w ks at kat slots keys rest read is within among = record {
  outcome = ap Gives is;
  slots = slots ∙ sym (added_slots name key x old v w ks kat);
  keys = keys ∙ sym (added_keys name key x old v w ks at);
  rest = rest;
  read = read;
  within = subst (λ (k : ℕ). IsWithin k r) (sym (ap length slots ∙ length-set old.slots w.slot (Here (with_pair (length ks) name x w.object)))) within;
  among = among;
}

later_size : (name : Value) (key : HashKey) (x : Value) (bytes : List ℕ) (t : Table) (v : Ref) (w : IsWritable t v) (ks : List HashKey) → keys_at t v ≡ Some ks → length (with_frozen bytes (added name key x v t)).slots ≡ length t.slots + 1
later_size name key x bytes t v w ks kat =
    length-append (added name key x v t).slots (Here (frozen_text bytes) ∷ [])
    ∙ ap (λ n. n + 1) (ap length (added_slots name key x t v w ks kat) ∙ length-set t.slots w.slot (Here (with_pair (length ks) name x w.object)))

pub text_done : (below : Below) (old new : Table) (bytes : List ℕ) (x : Value) (v r : Ref) (w : IsWritable old v) (ks : List HashKey) → slice_get old.keys w.slot ≡ Some ks → keys_at old v ≡ Some ks
    → new.slots ≡ slice_set old.slots w.slot (Here (with_pair (length ks) (At (Own (length old.slots))) x w.object)) ++ Here (frozen_text bytes) ∷ []
    → new.keys ≡ slice_set old.keys w.slot (ks ++ TextKey bytes ∷ []) ++ [] ∷ [] → IsRestKept old new → IsReadWith old below → IsLedAlso (below_ref r) w.slot (old.below ++ [] ∷ []) new.below
    → value_of r ≡ x → IsWithin (length old.slots) r → IsRefAmong below r → IsDone below (Gives x, with_frozen bytes (added (At (Own (length old.slots))) (TextKey bytes) x v old)) old new (built.Value r)
text_done below old new bytes x v r w ks at kat slots keys rest read led is within among =
    let name = At (Own (length old.slots)) in
    let all = slots ∙ ap (λ ss. ss ++ Here (frozen_text bytes) ∷ []) (sym (added_slots name (TextKey bytes) x old v w ks kat)) in
    let size : length new.slots ≡ length old.slots + 1 = ap length all ∙ later_size name (TextKey bytes) x bytes old v w ks kat in
    let grown : Table = record old { below = old.below ++ [] ∷ [] } in
    record {
      outcome = ap Gives is;
      slots = all;
      keys = keys ∙ ap (λ kss. kss ++ [] ∷ []) (sym (added_keys name (TextKey bytes) x old v w ks at));
      rest = rest;
      read = read_led below (below_ref r) grown new w.slot (read_grown below old grown read refl) led (among_of below r among);
      within = ref_later (length old.slots) (length new.slots) (omega (arith, size)) r within;
      among = among;
    }

pub text_refused : (name : Value) (key : HashKey) (x : Value) (bytes : List ℕ) (t : Table) (v : Ref) (w : IsWritable t v) (ks : List HashKey) (f : Fault) → keys_at t v ≡ Some ks
    → ((f ≡ Limit Slots) × (length t.slots ≡ t.limit)) ⊎ (f ≡ Memory) → IsRefusal f t.limit (length (with_frozen bytes (added name key x v t)).slots)
text_refused name key x bytes t v w ks f kat why =
    let size = later_size name key x bytes t v w ks kat in
    ⊎_elim (λ q. let full : length t.slots ≡ t.limit = q.1 in inr (q.0, omega (arith, size, full))) (λ m. inl m) why

-- a pair that is taken out
pub pair_taken : (below : Below) (old new : Table) (i : ℕ) (v r : Ref) (w : IsWritable old v) (ks : List HashKey) (ps : List (Value × Value)) (p : Value × Value) → slice_get old.keys w.slot ≡ Some ks
    → w.object.triples ≡ paired_from 0 ps → slice_get ps i ≡ Some p → p.1 ≡ value_of r
    → new.slots ≡ slice_set old.slots w.slot (Here (record w.object { triples = paired_from 0 (remove ps i) })) → new.keys ≡ slice_set old.keys w.slot (remove ks i) → IsRestKept old new → IsReadWith new below
    → IsWithin (length old.slots) r → IsRefAmong below r → IsDone below (Gives (element_at old v (2 * i + 1)), without_key i v (changed (without_pair i) v old)) old new (built.Value r)
pair_taken below old new i v r w ks ps p at paired here is slots keys rest read within among =
    let left : record w.object { triples = paired_from 0 (remove ps i) } ≡ without_pair i w.object = ap (λ qs. record w.object { triples = paired_from 0 (remove qs i) }) (sym (ap pairs_in paired ∙ paired_pairs 0 ps)) in
    let value : element_at old v (2 * i + 1) ≡ p.1 = ap (λ ts. value_or_none (slice_get ts (2 * i + 1))) (triples_here old v w ∙ paired) ∙ paired_value 0 ps i p here in
    record {
      outcome = ap Gives (sym (value ∙ is));
      slots = slots ∙ ap (λ o. slice_set old.slots w.slot (Here o)) left
          ∙ sym (ap (λ (x : Ref). (without_key i x (changed (without_pair i) x old)).slots) w.named ∙ ap (changed_slot (without_pair i) old.slots w.slot) w.here);
      keys = keys ∙ sym (ap (λ (x : Ref). (without_key i x (changed (without_pair i) x old)).keys) w.named ∙ ap (keys_without i old.keys w.slot) at);
      rest = rest;
      read = read;
      within = subst (λ (k : ℕ). IsWithin k r) (sym (ap length slots ∙ length-set old.slots w.slot (Here (record w.object { triples = paired_from 0 (remove ps i) })))) within;
      among = among;
    }

-- ---- Key objects.

object_frozen : (o : Option Object) → is_frozen_object o ≡ true → key_of_frozen o ≡ key_of_object o
object_frozen None e = refl
object_frozen (Some o) e = ap (λ b. if is_text o.kind && b then Some (TextKey o.bytes) else None) e ∙ ap (λ b. if b then Some (TextKey o.bytes) else None) (and-true (is_text o.kind))

-- what is frozen is the key that it gives
pub given_frozen : (t : Table) (r : Ref) → frozen_at t r ≡ true → key_at t r ≡ key_given t r
given_frozen t Nil e = refl
given_frozen t False e = refl
given_frozen t True e = refl
given_frozen t (Int z) e = refl
given_frozen t (Symbol s) e = refl
given_frozen t (Class c) e = refl
given_frozen t (Ractor c) e = refl
given_frozen t (Local n) e = object_frozen (object_at t (Local n)) e
given_frozen t (Shared p c) e = object_frozen (object_at t (Shared p c)) e

text_key : (o : Option Object) (k : HashKey) → key_of_object o ≡ Some k → TextKey (bytes_of o) ≡ k
text_key None k e = absurd (none-some k e)
text_key (Some o) k e = by (is_text o.kind) e
  where
    by : (b : Bool) → (if b then Some (TextKey o.bytes) else None) ≡ Some k → TextKey o.bytes ≡ k
    by true e = same_Some (TextKey o.bytes) k e
    by false e = absurd (none-some k e)

-- what is not frozen is a key by its bytes
pub given_open : (t : Table) (r : Ref) (k : HashKey) → frozen_at t r ≡ false → key_given t r ≡ Some k → TextKey (text_at t r) ≡ k
given_open t Nil k f e = absurd (false≢true (sym f))
given_open t False k f e = absurd (false≢true (sym f))
given_open t True k f e = absurd (false≢true (sym f))
given_open t (Int z) k f e = absurd (false≢true (sym f))
given_open t (Symbol s) k f e = absurd (false≢true (sym f))
given_open t (Class c) k f e = absurd (false≢true (sym f))
given_open t (Ractor c) k f e = absurd (false≢true (sym f))
given_open t (Local n) k f e = text_key (object_at t (Local n)) k e
given_open t (Shared p c) k f e = text_key (object_at t (Shared p c)) k e

pub has_first : (ks : List HashKey) (key : HashKey) (i : ℕ) → slice_get ks i ≡ Some key → Contains ks key
has_first ks key i e = let lt = slice_get_within ks i key e in (i, lt, same_Some _ _ (sym (slice_get-get_or ks i key lt) ∙ e))
