-- What writes leave is what the acts say.
use Rattle.std.proofs.Common.{◌≡◌, ◌∙◌, ℕ, zero, suc, ◌+◌, ◌*◌, ◌<◌, IsTrue, List, [], ◌∷◌, ◌++◌, length, length-append, map, remove, Contains, Option, Some, None, slice_get, slice_set, Result, Ok, Err, refl, sym, ap, subst, arith}
use Rattle.std.proofs.Math.Logic.{⊎_elim}
use Rattle.std.proofs.lemmas.Bool.Decides.{eqb_tells}
use Rattle.std.proofs.lemmas.Option.{none-some, same_Some, slice_get_within}
use Rattle.std.proofs.lemmas.List.Elements.{Contains-append_left, Contains-append_right}
use Rattle.std.proofs.lemmas.List.{length-set}
use Rattle.rr_base.specs.declared.fault.Fault.{Fault}
use Rattle.rr_space.specs.Graph.{Value, At, Own, Object}
use Rattle.rr_space.specs.Tables.{Table, Slot, Here, Led, Below, joined, IsRestKept}
use Rattle.rr_space.specs.Lookups.{text_object}
use Rattle.rr_space.specs.Parts.{value_of, IsWithin}
use Rattle.rr_space.specs.Views.{is_open, can_write_at, placed_from, paired_from, slot_object, IsLedAlso}
use Rattle.rr_space.specs.Labels.{triples_at, triples_of}
use Rattle.rr_space.specs.declared.refer.Ref.{Ref}
use Rattle.rr_space.specs.declared.refer.Ref.TheVariants.{Nil, False, True, Int, Symbol, Class, Ractor, Local, Shared}
use Rattle.rr_space.proofs.Sounds.{joined_in, joined_back}
use Rattle.rr_text.specs.Reads.{IsReadWith}
use Rattle.rr_text.specs.Keys.{pairs_in}
use Rattle.rr_text.specs.Comparing.{value_or_none, part_value}
use Rattle.rr_builtin.specs.declared.built.Built.{Built}
use Rattle.rr_builtin.specs.declared.built.Built.TheVariants as built
use Rattle.rr_builtin.proofs.Among.{none_in}
use Rattle.rr_builtin.specs.Acts.{Outcome, Gives, with_text, changed, changed_slot, without_element, element_at, IsRefAmong, IsDone, IsRefusal, Acts}

-- ---- The table is read with the same clusters.

grown_in : (bs : List Below) (n : ℕ) (b : Below) (e : ℕ × List Object) → slice_get (bs ++ [] ∷ []) n ≡ Some b → Contains b e → Contains (joined bs) e
grown_in [] zero b e at has = none_in e (subst (λ (y : Below). Contains y e) (sym (same_Some [] b at)) has)
grown_in [] (suc n) b e at has = absurd (none-some b at)
grown_in (x ∷ bs) zero b e at has = Contains-append_left x (joined bs) e (subst (λ (y : Below). Contains y e) (sym (same_Some x b at)) has)
grown_in (x ∷ bs) (suc n) b e at has = Contains-append_right x (joined bs) e (grown_in bs n b e at has)

pub read_grown : (below : Below) (old new : Table) → IsReadWith old below → new.below ≡ old.below ++ [] ∷ [] → IsReadWith new below
read_grown below old new read same = record {
  one = read.one;
  all = λ e has.
      let back = joined_back new.below e has in
      let at : slice_get (old.below ++ [] ∷ []) back.0 ≡ Some back.1 = ap (λ (bs : List Below). slice_get bs back.0) (sym same) ∙ back.2 in
      read.all e (grown_in old.below back.0 back.1 e at back.3);
}

here_at : {A : Type 0} (xs : List A) (k : ℕ) → k < length xs → (x : A) × (slice_get xs k ≡ Some x)
here_at [] k h = absurd (let no : ⊥ = omega arith in no)
here_at (x ∷ xs) zero h = (x, refl)
here_at (x ∷ xs) (suc k) h = here_at xs k (omega arith)

pub read_led : (below more : Below) (old new : Table) (n : ℕ) → IsReadWith old below → IsLedAlso more n old.below new.below → ((e : ℕ × List Object) → Contains more e → Contains below e) → IsReadWith new below
read_led below more old new n read led among = record {
  one = read.one;
  all = λ e has.
      let back = joined_back new.below e has in
      ⊎_elim
      (λ same. let is : back.0 ≡ n = same.1 in
      let at : slice_get new.below n ≡ Some back.1 = ap (λ (k : ℕ). slice_get new.below k) (sym is) ∙ back.2 in
      let inside : n < length new.below = slice_get_within new.below n back.1 at in
      let size = led.size in
      let a = here_at old.below n (omega arith) in
      ⊎_elim (λ h. read.all e (joined_in old.below n a.0 e a.1 h)) (among e) (led.same a.0 back.1 e a.1 at back.3))
      (λ other. read.all e (joined_in old.below back.0 back.1 e (sym (led.others back.0 other.1) ∙ back.2) back.3))
      (eqb_tells back.0 n);
}

pub read_same : (below : Below) (old new : Table) → IsReadWith old below → new.below ≡ old.below → IsReadWith new below
read_same below old new read same = record {
  one = read.one;
  all = λ e has. read.all e (subst (λ (bs : List Below). Contains (joined bs) e) same has);
}

-- ---- A new text.

pub made_done : (below : Below) (old new : Table) (bytes : List ℕ) (r : Ref) → IsReadWith old below → r ≡ Local (length old.slots)
    → new.slots ≡ old.slots ++ Here (text_object bytes) ∷ [] → new.below ≡ old.below ++ [] ∷ [] → new.keys ≡ old.keys ++ [] ∷ [] → IsRestKept old new
    → IsDone below (Gives (At (Own (length old.slots))), with_text bytes old) old new (built.Value r)
made_done below old new bytes r read name slots led keys rest =
    let size : length new.slots ≡ length old.slots + 1 = ap length slots ∙ length-append old.slots (Here (text_object bytes) ∷ []) in
    let inside : length old.slots < length new.slots = omega arith in
    record {
      outcome = ap (λ (x : Ref). Gives (value_of x)) name;
      slots = slots;
      keys = keys;
      rest = rest;
      read = read_grown below old new read led;
      within = subst (λ (x : Ref). IsWithin (length new.slots) x) (sym name) inside;
      among = subst (λ (x : Ref). IsRefAmong below x) (sym name) tt;
    }

-- ---- An object that is written.

open_slot : (s : Option Slot) → IsTrue (is_open s) → (o : Object) × (s ≡ Some (Here o))
open_slot (Some (Here o)) h = (o, refl)
open_slot (Some (Led c p)) h = absurd (let no : ⊥ = cc in no)
open_slot None h = absurd (let no : ⊥ = cc in no)

-- what may be written is the object of a slot
pub record IsWritable (t : Table) (v : Ref) : Type 0 where
  pub slot : ℕ
  pub object : Object
  pub named : v ≡ Local slot
  pub here : slice_get t.slots slot ≡ Some (Here object)

pub writable : (t : Table) (v : Ref) → IsTrue (can_write_at t v) → IsWritable t v
writable t Nil h = absurd (let no : ⊥ = cc in no)
writable t False h = absurd (let no : ⊥ = cc in no)
writable t True h = absurd (let no : ⊥ = cc in no)
writable t (Int z) h = absurd (let no : ⊥ = cc in no)
writable t (Symbol s) h = absurd (let no : ⊥ = cc in no)
writable t (Class k) h = absurd (let no : ⊥ = cc in no)
writable t (Ractor k) h = absurd (let no : ⊥ = cc in no)
writable t (Local n) h = let o = open_slot (slice_get t.slots n) h in record { slot = n; object = o.0; named = refl; here = o.1 }
writable t (Shared p k) h = absurd (let no : ⊥ = cc in no)

changed_is : (f : Object → Object) (v : Ref) (t : Table) (w : IsWritable t v) → (changed f v t).slots ≡ slice_set t.slots w.slot (Here (f w.object))
changed_is f v t w = ap (λ (r : Ref). (changed f r t).slots) w.named ∙ ap (changed_slot f t.slots w.slot) w.here

changed_keys : (f : Object → Object) (v : Ref) (t : Table) (w : IsWritable t v) → (changed f v t).keys ≡ t.keys
changed_keys f v t w = ap (λ (r : Ref). (changed f r t).keys) w.named

pub writable_among : (below : Below) (t : Table) (v : Ref) → IsWritable t v → IsRefAmong below v
writable_among below t v w = subst (λ (r : Ref). IsRefAmong below r) (sym w.named) tt

pub written_done : (below : Below) (old new : Table) (f : Object → Object) (v r : Ref) (x : Value) (w : IsWritable old v)
    → new.slots ≡ slice_set old.slots w.slot (Here (f w.object)) → new.keys ≡ old.keys → IsRestKept old new → IsReadWith new below
    → value_of r ≡ x → IsWithin (length old.slots) r → IsRefAmong below r
    → IsDone below (Gives x, changed f v old) old new (built.Value r)
written_done below old new f v r x w slots keys rest read is within among = record {
  outcome = ap Gives is;
  slots = slots ∙ sym (changed_is f v old w);
  keys = keys ∙ sym (changed_keys f v old w);
  rest = rest;
  read = read;
  within = subst (λ (k : ℕ). IsWithin k r) (sym (ap length slots ∙ length-set old.slots w.slot (Here (f w.object)))) within;
  among = among;
}

-- ---- An element that is taken out.

pub placed_value : (j : ℕ) (vs : List Value) (k : ℕ) (x : Value) → slice_get vs k ≡ Some x → value_or_none (slice_get (placed_from j vs) k) ≡ x
placed_value j [] k x e = absurd (none-some x e)
placed_value j (v ∷ vs) zero x e = same_Some v x e
placed_value j (v ∷ vs) (suc k) x e = placed_value (j + 1) vs k x e

pub placed_values : (j : ℕ) (vs : List Value) → map part_value (placed_from j vs) ≡ vs
placed_values j [] = refl
placed_values j (v ∷ vs) = ap (λ (ws : List Value). v ∷ ws) (placed_values (j + 1) vs)

-- the triples of the object of a slot
pub triples_here : (t : Table) (v : Ref) (w : IsWritable t v) → triples_at t v ≡ w.object.triples
triples_here t v w = ap (λ (r : Ref). triples_at t r) w.named ∙ ap (λ (s : Option Slot). triples_of (slot_object s (slice_get t.below w.slot))) w.here

pub element_is : (t : Table) (v : Ref) (w : IsWritable t v) (vs : List Value) (k : ℕ) (x : Value) → w.object.triples ≡ placed_from 0 vs → slice_get vs k ≡ Some x → x ≡ element_at t v k
element_is t v w vs k x e at = sym (ap (λ ts. value_or_none (slice_get ts k)) (triples_here t v w ∙ e) ∙ placed_value 0 vs k x at)

pub taken_is : (o : Object) (vs : List Value) (k : ℕ) → o.triples ≡ placed_from 0 vs → record o { triples = placed_from 0 (remove vs k) } ≡ without_element k o
taken_is o vs k e = ap (λ (ws : List Value). record o { triples = placed_from 0 (remove ws k) }) (sym (ap (map part_value) e ∙ placed_values 0 vs))

-- ---- One act is another.

pub acts_same : (below : Below) (a b : Table → Outcome × Table) (old new : Table) (r : Result Built Fault) → a old ≡ b old → Acts below a old new r → Acts below b old new r
acts_same below a b old new (Ok x) e h = subst (λ (done : Outcome × Table). IsDone below done old new x) e h
acts_same below a b old new (Err f) e h = (h.0, subst (λ (done : Outcome × Table). IsRefusal f old.limit (length done.1.slots)) e h.1)

-- ---- A pair that is taken out.

pub paired_pairs : (j : ℕ) (ps : List (Value × Value)) → pairs_in (paired_from j ps) ≡ ps
paired_pairs j [] = refl
paired_pairs j (p ∷ ps) = ap (λ qs. p ∷ qs) (paired_pairs (j + 1) ps)

pub paired_value : (j : ℕ) (ps : List (Value × Value)) (i : ℕ) (p : Value × Value) → slice_get ps i ≡ Some p → value_or_none (slice_get (paired_from j ps) (2 * i + 1)) ≡ p.1
paired_value j [] i p e = absurd (none-some p e)
paired_value j (q ∷ ps) zero p e = ap (λ r. r.1) (same_Some q p e)
paired_value j (q ∷ ps) (suc i) p e = ap (λ k. value_or_none (slice_get (paired_from j (q ∷ ps)) k)) (let z : 2 * suc i + 1 ≡ suc (suc (2 * i + 1)) = omega arith in z) ∙ paired_value (j + 1) ps i p e
