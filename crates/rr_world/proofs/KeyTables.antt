-- Each key of a hash is the key that its key object is, after each change of a table.
use Rattle.std.proofs.Common.{◌≡◌, ℕ, zero, suc, ◌*◌, ⊎_elim, inl, inr, false, List, [], ◌∷◌, ◌++◌, length, length-set, length-append, map, Some, slice_get, slice_set, remove, Contains, sym, ap, ◌∙◌, subst, refl, arith}
use Rattle.std.proofs.lemmas.List.{length-map}
use Rattle.std.proofs.lemmas.Option.{none-some, same_Some}
use Rattle.rr_space.specs.Graph.{Kind, Object, Value, text, array, hash, plain, exception}
use Rattle.rr_space.specs.KeyObjects.{AreKeysNamed}
use Rattle.rr_space.specs.Moves.{IsOpened}
use Rattle.rr_space.specs.Parts.{value_of, below_ref}
use Rattle.rr_space.specs.Lookups.{key_at}
use Rattle.rr_space.specs.Readings.{Shared, Layout, Knows}
use Rattle.rr_space.specs.Tables.{Table, Packed, Slot, Here, Below, HashKey, joined, behind, here_behind, renamed_triple}
use Rattle.rr_space.specs.Views.{paired_from}
use Rattle.rr_space.specs.declared.refer.Ref.{Ref}
use Rattle.rr_space.proofs.Hands.{append_cases}
use Rattle.rr_space.proofs.KeyCopies.{key_is_named, objects_arrive}
use Rattle.rr_space.proofs.KeyObjects.{other_is_written, value_is_written, pair_is_added, pair_is_taken, object_is_frozen, object_is_made}
use Rattle.rr_space.proofs.Renaming.{contains_at, map_at, mapped_at}
use Rattle.rr_world.specs.Changing.{DoKeysStay}
use Rattle.rr_world.specs.Enabling.{IsOpen, HasFields}
use Rattle.rr_world.specs.Layouts.{HasAllClusters, AreKeysKnown}
use Rattle.rr_world.specs.ObjectCases.{frozen, with_value, with_pair, new_object}
use Rattle.rr_world.specs.declared.step.NewObject.{NewObject}
use Rattle.rr_world.specs.declared.step.NewObject.TheVariants as new
use Rattle.rr_world.proofs.Lists.{set_cases}

-- ---- More clusters are published, or none.

all_on : (tables tables2 : Layout) → ((c : ℕ) (u : List Slot) → tables (Shared c) ≡ Some u → tables2 (Shared c) ≡ Some u) → (below : Below) → HasAllClusters tables2 below → HasAllClusters tables below
all_on tables tables2 grown below H = record { one = H.one; all = λ c raws is. H.all c raws (grown c (map Here raws) is) }

pub keys_on : (tables tables2 : Layout) (slots : List Slot) (keys : List (List HashKey)) → ((c : ℕ) (u : List Slot) → tables (Shared c) ≡ Some u → tables2 (Shared c) ≡ Some u)
    → AreKeysKnown tables slots keys → AreKeysKnown tables2 slots keys
keys_on tables tables2 slots keys grown K = record { count = K.count; texts = K.texts; named = λ below H. K.named below (all_on tables tables2 grown below H) }

-- what a table knows of clusters is in the list
pub listed : (tables : Layout) (below b : Below) → HasAllClusters tables below → Knows b tables → (e : ℕ × List Object) → Contains b e → Contains below e
listed tables below b H K (c, os) has = let q = K.known c os has in subst (λ (x : List Object). Contains below (c, x)) q.2 (H.all c q.0 q.1)

pub same_here : (o p : Object) → Here o ≡ Here p → o ≡ p
same_here o p e = cc

-- no slots have no keys
pub no_keys : (tables : Layout) (slots : List Slot) (keys : List (List HashKey)) → slots ≡ [] → AreKeysKnown tables slots keys
no_keys tables slots keys none = record {
  count = let z : length slots ≡ 0 = ap length none in omega (arith, z);
  texts = λ n o at is. absurd (none-some (Here o) (ap (λ ss. slice_get ss n) (sym none) ∙ at));
  named = λ below H n i k x h. absurd (none-some (Here h.0) (ap (λ ss. slice_get ss n) (sym none) ∙ h.3));
}

-- ---- One object is another.

set_keys : (tables : Layout) (slots slots2 : List Slot) (keys keys2 : List (List HashKey)) (n : ℕ) (o p : Object) → slice_get slots n ≡ Some (Here o) → slots2 ≡ slice_set slots n (Here p) → length keys2 ≡ length keys
    → (p.kind ≡ text → (o.kind ≡ text → o.triples ≡ []) → p.triples ≡ [])
    → ((below : Below) → HasAllClusters tables below → AreKeysNamed below slots keys → AreKeysNamed below (slice_set slots n (Here p)) keys2)
    → AreKeysKnown tables slots keys → AreKeysKnown tables slots2 keys2
set_keys tables slots slots2 keys keys2 n o p here is size texts named K = record {
  count = let a = ap length is ∙ length-set slots n (Here p) in let b = K.count in omega (arith, a, b, size);
  texts = λ j x at kind. ⊎_elim
      (λ fresh.
      let same = same_here p x fresh in
      subst (λ (y : Object). y.triples ≡ []) same (texts (ap (λ (y : Object). y.kind) same ∙ kind) (K.texts n o here)))
      (λ old. K.texts j x old kind)
      (set_cases slots n j (Here p) (Here x) (ap (λ ss. slice_get ss j) (sym is) ∙ at));
  named = λ below H. subst (λ ss. AreKeysNamed below ss keys2) (sym is) (named below H (K.named below H));
}

-- an object that is no hash then
pub other_stays : (vs : List Ref) (a b : Table) (n : ℕ) (o p : Object) → slice_get a.slots n ≡ Some (Here o) → b.slots ≡ slice_set a.slots n (Here p) → b.keys ≡ a.keys → o.frozen ≡ false → (p.kind ≡ hash → ⊥)
    → (p.kind ≡ text → (o.kind ≡ text → o.triples ≡ []) → p.triples ≡ []) → DoKeysStay vs a b
other_stays vs a b n o p here slots keys thawed no_hash texts tables K L N =
    set_keys tables a.slots b.slots a.keys b.keys n o p here slots (ap length keys) texts
    (λ below H was. subst (AreKeysNamed below (slice_set a.slots n (Here p))) (sym keys) (other_is_written below a.slots a.keys n o p was here thawed no_hash)) N

-- one of a kind that has no keys and may lead on
kind_stays : (kind : Kind) → (kind ≡ hash → ⊥) → (kind ≡ text → ⊥) → (vs : List Ref) (a b : Table) (n : ℕ) (o p : Object) → slice_get a.slots n ≡ Some (Here o) → b.slots ≡ slice_set a.slots n (Here p) → b.keys ≡ a.keys → IsOpen kind o
    → p.kind ≡ o.kind → DoKeysStay vs a b
kind_stays kind no_hash no_text vs a b n o p here slots keys opened same =
    other_stays vs a b n o p here slots keys opened.1 (λ is. no_hash (sym opened.0 ∙ sym same ∙ is)) (λ is old. absurd (no_text (sym opened.0 ∙ sym same ∙ is)))

pub array_stays : (vs : List Ref) (a b : Table) (n : ℕ) (o p : Object) → slice_get a.slots n ≡ Some (Here o) → b.slots ≡ slice_set a.slots n (Here p) → b.keys ≡ a.keys → IsOpen array o → p.kind ≡ o.kind → DoKeysStay vs a b
array_stays = kind_stays array (λ e. cc) (λ e. cc)

plain_stays : (vs : List Ref) (a b : Table) (n : ℕ) (o p : Object) → slice_get a.slots n ≡ Some (Here o) → b.slots ≡ slice_set a.slots n (Here p) → b.keys ≡ a.keys → IsOpen plain o → p.kind ≡ o.kind → DoKeysStay vs a b
plain_stays = kind_stays plain (λ e. cc) (λ e. cc)

pub exception_stays : (vs : List Ref) (a b : Table) (n : ℕ) (o p : Object) → slice_get a.slots n ≡ Some (Here o) → b.slots ≡ slice_set a.slots n (Here p) → b.keys ≡ a.keys → IsOpen exception o → p.kind ≡ o.kind → DoKeysStay vs a b
exception_stays = kind_stays exception (λ e. cc) (λ e. cc)

pub fields_stay : (vs : List Ref) (a b : Table) (n : ℕ) (o p : Object) → slice_get a.slots n ≡ Some (Here o) → b.slots ≡ slice_set a.slots n (Here p) → b.keys ≡ a.keys → HasFields o → p.kind ≡ o.kind → DoKeysStay vs a b
fields_stay vs a b n o p here slots keys (inl opened) same = plain_stays vs a b n o p here slots keys opened same
fields_stay vs a b n o p here slots keys (inr opened) same = exception_stays vs a b n o p here slots keys opened same

pub text_stays : (vs : List Ref) (a b : Table) (n : ℕ) (o p : Object) → slice_get a.slots n ≡ Some (Here o) → b.slots ≡ slice_set a.slots n (Here p) → b.keys ≡ a.keys → IsOpen text o
    → p.kind ≡ o.kind → p.triples ≡ o.triples → DoKeysStay vs a b
text_stays vs a b n o p here slots keys opened same triples =
    other_stays vs a b n o p here slots keys opened.1 (λ is. let z : text ≡ hash = sym opened.0 ∙ sym same ∙ is in cc) (λ is old. triples ∙ old opened.0)

pub frozen_stays : (vs : List Ref) (a b : Table) (n : ℕ) (o : Object) → slice_get a.slots n ≡ Some (Here o) → b.slots ≡ slice_set a.slots n (Here (frozen o)) → b.keys ≡ a.keys → DoKeysStay vs a b
frozen_stays vs a b n o here slots keys tables K L N =
    set_keys tables a.slots b.slots a.keys b.keys n o (frozen o) here slots (ap length keys) (λ is old. old is)
    (λ below H was. subst (AreKeysNamed below (slice_set a.slots n (Here (frozen o)))) (sym keys) (object_is_frozen below a.slots a.keys n o was here)) N

no_text : (o : Object) → o.kind ≡ hash → o.kind ≡ text → ⊥
no_text o is other = let z : hash ≡ text = sym is ∙ other in cc

-- a pair of a hash gets a value
pub value_stays : (vs : List Ref) (a b : Table) (n i : ℕ) (o : Object) (v : Ref) → slice_get a.slots n ≡ Some (Here o) → b.slots ≡ slice_set a.slots n (Here (with_value i (value_of v) o)) → b.keys ≡ a.keys → IsOpen hash o
    → DoKeysStay vs a b
value_stays vs a b n i o v here slots keys opened tables K L N =
    set_keys tables a.slots b.slots a.keys b.keys n o (with_value i (value_of v) o) here slots (ap length keys) (λ is old. absurd (no_text o opened.0 is))
    (λ below H was. subst (AreKeysNamed below (slice_set a.slots n (Here (with_value i (value_of v) o)))) (sym keys) (value_is_written below a.slots a.keys n i o (value_of v) was here opened.1)) N

-- a pair comes behind those of a hash
pub pair_stays : (a b : Table) (n : ℕ) (o : Object) (ks : List HashKey) (key : HashKey) (r v : Ref) → slice_get a.slots n ≡ Some (Here o) → b.slots ≡ slice_set a.slots n (Here (with_pair (length ks) (value_of r) (value_of v) o))
    → b.keys ≡ slice_set a.keys n (ks ++ key ∷ []) → IsOpen hash o → slice_get a.keys n ≡ Some ks → length o.triples ≡ 2 * length ks → key_at a r ≡ Some key → DoKeysStay (r ∷ v ∷ []) a b
pair_stays a b n o ks key r v here slots keys opened there many is tables K L N =
    set_keys tables a.slots b.slots a.keys b.keys n o (with_pair (length ks) (value_of r) (value_of v) o) here slots (ap length keys ∙ length-set a.keys n (ks ++ key ∷ [])) (λ kind old. absurd (no_text o opened.0 kind))
    (λ below H was. subst (AreKeysNamed below (slice_set a.slots n (Here (with_pair (length ks) (value_of r) (value_of v) o)))) (sym keys)
    (pair_is_added below a.slots a.keys n o ks key (value_of r) (value_of v) was here opened.1 opened.0 there many
    (key_is_named a below r key H.one (listed tables below (joined a.below) H K) (listed tables below (below_ref r) H (L r (contains_at (r ∷ v ∷ []) 0 r refl))) is))) N

-- a pair goes from a hash
pub taken_stays : (vs : List Ref) (a b : Table) (n place : ℕ) (o p : Object) (ps : List (Value × Value)) (ks : List HashKey) → slice_get a.slots n ≡ Some (Here o) → b.slots ≡ slice_set a.slots n (Here p) → p ≡ record o { triples = paired_from 0 (remove ps place) }
    → o.triples ≡ paired_from 0 ps → b.keys ≡ slice_set a.keys n (remove ks place) → IsOpen hash o → slice_get a.keys n ≡ Some ks → DoKeysStay vs a b
taken_stays vs a b n place o p ps ks here slots p_is were keys opened there tables K L N =
    set_keys tables a.slots b.slots a.keys b.keys n o p here slots (ap length keys ∙ length-set a.keys n (remove ks place)) (λ kind old. absurd (no_text o opened.0 (sym (ap (λ (y : Object). y.kind) p_is) ∙ kind)))
    (λ below H was. subst (AreKeysNamed below (slice_set a.slots n (Here p))) (sym keys)
    (subst (λ (y : Object). AreKeysNamed below (slice_set a.slots n (Here y)) (slice_set a.keys n (remove ks place))) (sym p_is)
    (pair_is_taken below a.slots a.keys n place o ps ks was here opened.1 opened.0 there were))) N

-- ---- Objects come.

-- a new text leads to nothing
new_text : (kind : NewObject) → (new_object kind).kind ≡ text → (new_object kind).triples ≡ []
new_text new.Text is = refl
new_text new.Array is = refl
new_text new.Hash is = refl
new_text (new.Object c) is = refl
new_text (new.Exception c) is = cc

pub new_keys : (tables : Layout) (kind : NewObject) (slots slots2 : List Slot) (keys keys2 : List (List HashKey)) → slots2 ≡ slots ++ Here (new_object kind) ∷ [] → keys2 ≡ keys ++ [] ∷ [] → length keys ≡ length slots
    → AreKeysKnown tables slots keys → AreKeysKnown tables slots2 keys2
new_keys tables kind slots slots2 keys keys2 is keys_are even K = record {
  count =
      let a = ap length is ∙ length-append slots (Here (new_object kind) ∷ []) in
      let b = ap length keys_are ∙ length-append keys ([] ∷ []) in
      omega (arith, a, b, even);
  texts = λ j x at text_is. ⊎_elim
      (λ old. K.texts j x old text_is)
      (λ fresh. let same = same_here (new_object kind) x (last fresh.0 (Here x) fresh.2) in subst (λ (y : Object). y.triples ≡ []) same (new_text kind (ap (λ (y : Object). y.kind) same ∙ text_is)))
      (append_cases slots (Here (new_object kind) ∷ []) j (Here x) (ap (λ ss. slice_get ss j) (sym is) ∙ at));
  named = λ below H. subst (λ ss. AreKeysNamed below ss keys2) (sym is) (subst (AreKeysNamed below (slots ++ Here (new_object kind) ∷ [])) (sym keys_are)
      (object_is_made below slots keys (new_object kind) [] (K.named below H) even (λ i k l x hash_is none. absurd (none-some k none))));
}
  where
    last : (i : ℕ) (x : Slot) → slice_get (Here (new_object kind) ∷ []) i ≡ Some x → Here (new_object kind) ≡ x
    last zero x e = same_Some (Here (new_object kind)) x e
    last (suc i) x e = absurd (none-some x e)

-- the objects of a message come behind
pub opened_keys : (tables : Layout) (m : Packed) (old now : Table) (v : Value) → IsOpened m old now v → length old.keys ≡ length old.slots → AreKeysKnown tables old.slots old.keys → AreKeysKnown tables (map Here m.objects) m.keys
    → AreKeysKnown tables now.slots now.keys
opened_keys tables m old now v O even K M = record {
  count =
      let a = ap length O.slots ∙ length-append old.slots (map (here_behind (length old.slots)) m.objects) in
      let b = length-map m.objects (here_behind (length old.slots)) in
      let c = length-map m.objects Here in
      let d = ap length O.keys ∙ length-append old.keys m.keys in
      let e = M.count in
      omega (arith, a, b, c, d, e, even);
  texts = λ j x at text_is. ⊎_elim
      (λ was. K.texts j x was text_is)
      (λ came.
      let q = mapped_at (here_behind (length old.slots)) m.objects came.0 (Here x) came.2 in
      let same : renamed q.0 ≡ x = same_here (renamed q.0) x q.2 in
      subst (λ (y : Object). y.triples ≡ []) same
      (ap (map (renamed_triple (behind (length old.slots)))) (M.texts came.0 q.0 (map_at Here m.objects came.0 q.0 q.1) (ap (λ (y : Object). y.kind) same ∙ text_is))))
      (append_cases old.slots (map (here_behind (length old.slots)) m.objects) j (Here x) (ap (λ ss. slice_get ss j) (sym O.slots) ∙ at));
  named = λ below H. subst (λ ss. AreKeysNamed below ss now.keys) (sym O.slots) (subst (AreKeysNamed below (old.slots ++ map (here_behind (length old.slots)) m.objects)) (sym O.keys)
      (objects_arrive below old.slots old.keys m.objects m.keys (K.named below H) even (M.named below H)));
}
  where
    renamed : Object → Object
    renamed o = record o { triples = map (renamed_triple (behind (length old.slots))) o.triples }
