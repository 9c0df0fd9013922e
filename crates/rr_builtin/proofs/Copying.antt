-- Fields that are copied one by one.
use Rattle.std.proofs.Common.{◌≡◌, ◌∙◌, ◌+◌, ◌<◌, ◌≤◌, ℕ, zero, suc, nat_eq, Bool, true, false, ◌||◌, List, [], ◌∷◌, ◌++◌, drop, length, map, Option, Some, None, slice_get, get_or, IfSome, Contains, ⊎_elim, if◌then◌else◌, refl, sym, ap, subst, arith}
use Rattle.std.specs.List.{list_any, AllByRecursion, IsDistinct}
use Rattle.std.specs.Option.{option_map}
use Rattle.std.proofs.lemmas.Cmp.{nat_eq_equiv}
use Rattle.std.proofs.lemmas.List.Elements.{Contains-append_left, Contains-append_right, Contains-append_cases}
use Rattle.std.proofs.lemmas.List.Folds.{list_any-append}
use Rattle.std.proofs.lemmas.Map.Keys.{IsDistinct-head, IsDistinct-tail, IsDistinct-push}
use Rattle.std.proofs.lemmas.Option.{none-some, same_Some, slice_get-get_or}
use Rattle.rr_base.specs.declared.name.Sym.{Sym}
use Rattle.rr_space.specs.Graph.{Value, Object, Label, Field, Place, KeyAt, ValueAt, Message, Cause, Ractor}
use Rattle.rr_space.specs.Tables.{Table, Below}
use Rattle.rr_space.specs.Parts.{value_of, value_triple, field_part, raised_parts, below_parts, below_ref, IsWithin, AllWithin, Parts}
use Rattle.rr_space.specs.Labels.{triples_at, label_of, labelled_value}
use Rattle.rr_space.specs.Views.{field_number, label_part, IsKnownFrom}
use Rattle.rr_space.specs.declared.label.Label.{Label as CodeLabel}
use Rattle.rr_space.specs.declared.label.Label.TheVariants as code
use Rattle.rr_space.specs.declared.refer.Raised.{Raised}
use Rattle.rr_space.specs.declared.refer.Ref.{Ref}
use Rattle.rr_space.specs.declared.refer.Ref.TheVariants as ref
use Rattle.rr_space.proofs.Writing.{map_push}
use Rattle.rr_text.specs.Reads.{IsReadWith}
use Rattle.rr_text.specs.Comparing.{value_in}
use Rattle.rr_builtin.specs.Acts.{IsRefAmong}
use Rattle.rr_builtin.specs.Copies.{AreOwnFields, IsRaisedWhole, exception_copy, fields_but, with_field}
use Rattle.rr_builtin.proofs.Among.{none_in, among_of, read_among}
use Rattle.rr_builtin.proofs.Gathering.{append_nil, append_three}
use Rattle.rr_builtin.proofs.NoFields.{none_twice}

-- the fields among the first k values of an object, those that come after, and what is known of them
pub record AreCopied (t : Table) (v : Ref) (fields : List (Sym × Ref)) (k : ℕ) : Type 0 where
  pub names : List ℕ
  pub same : (n : ℕ) → list_any (nat_eq n) names ≡ list_any (nat_eq n) (map field_number fields)
  pub are : map value_triple (map field_part fields) ++ fields_but names (drop k (triples_at t v)) ≡ fields_but [] (triples_at t v)
  pub within : AllWithin (length t.slots) (map field_part fields)
  pub among : (below : Below) → IsReadWith t below → IsRefAmong below v → (e : ℕ × List Object) → Contains (below_parts (map field_part fields)) e → Contains below e
  pub distinct : IsDistinct nat_eq (map field_number fields)

none_distinct : IsDistinct nat_eq []
none_distinct = none_twice (λ (n : ℕ). n) [] refl

pub copied_none : (t : Table) (v : Ref) → AreCopied t v [] 0
copied_none t v = record { names = []; same = λ n. refl; are = refl; within = tt; among = λ below read led e has. none_in e has; distinct = none_distinct }

drop_next : {A : Type 0} (xs : List A) (k : ℕ) (x : A) → slice_get xs k ≡ Some x → drop k xs ≡ x ∷ drop (suc k) xs
drop_next [] k x at = absurd (none-some x at)
drop_next (y ∷ ys) zero x at = ap (λ z. z ∷ ys) (same_Some y x at)
drop_next (y ∷ ys) (suc k) x at = drop_next ys k x at

pub drop_none : {A : Type 0} (xs : List A) (k : ℕ) → length xs ≤ k → drop k xs ≡ []
drop_none [] zero le = refl
drop_none [] (suc k) le = refl
drop_none (x ∷ xs) zero le = absurd (let no : ⊥ = omega (arith, le) in no)
drop_none (x ∷ xs) (suc k) le = drop_none xs k (omega (arith, le))

pub within_push : (k : ℕ) (ps : Parts) (p : Label × Ref) → AllWithin k ps → IsWithin k p.1 → AllWithin k (ps ++ p ∷ [])
within_push k [] p all one = (one, tt)
within_push k (q ∷ ps) p all one = (all.0, within_push k ps p all.1 one)

pub among_push : (ps : Parts) (p : Label × Ref) (below : Below) → ((e : ℕ × List Object) → Contains (below_parts ps) e → Contains below e) → ((e : ℕ × List Object) → Contains (below_ref p.1) e → Contains below e)
    → (e : ℕ × List Object) → Contains (below_parts (ps ++ p ∷ [])) e → Contains below e
among_push [] p below all one e has = ⊎_elim (one e) (none_in e) (Contains-append_cases (below_ref p.1) [] e has)
among_push (q ∷ ps) p below all one e has =
    ⊎_elim (λ h. all e (Contains-append_left (below_ref q.1) (below_parts ps) e h)) (λ h. among_push ps p below (λ d i. all d (Contains-append_right (below_ref q.1) (below_parts ps) d i)) one e h) (Contains-append_cases (below_ref q.1) (below_parts (ps ++ p ∷ [])) e has)

-- the same of a field by its number
any_number : (n : ℕ) (fs : List (Sym × Ref)) → list_any (λ f. nat_eq n (field_number f)) fs ≡ list_any (nat_eq n) (map field_number fs)
any_number n [] = refl
any_number n (f ∷ fs) = ap (λ b. nat_eq n (field_number f) || b) (any_number n fs)

or_nothing : (b : Bool) → (b || false) ≡ b
or_nothing true = refl
or_nothing false = refl

or_turned : (a b : Bool) → (a || b) ≡ (b || a)
or_turned true true = refl
or_turned true false = refl
or_turned false true = refl
or_turned false false = refl

module _ (t : Table) (v : Ref) (fields new : List (Sym × Ref)) (k : ℕ) (g : AreCopied t v fields k) where
  -- what is no field, or one that is there already
  passed : (p : Label × Value) → slice_get (triples_at t v) k ≡ Some p → fields_but g.names (p ∷ drop (suc k) (triples_at t v)) ≡ fields_but g.names (drop (suc k) (triples_at t v)) → new ≡ fields → AreCopied t v new (suc k)
  passed p at out is = subst (λ (fs : List (Sym × Ref)). AreCopied t v fs (suc k)) (sym is) (record {
    names = g.names;
    same = g.same;
    are = ap (λ ts. map value_triple (map field_part fields) ++ ts) (sym out ∙ ap (fields_but g.names) (sym (drop_next (triples_at t v) k p at))) ∙ g.are;
    within = g.within;
    among = g.among;
    distinct = g.distinct;
  })

  -- a field of another name than the others
  added : (name : Sym) (r : Ref) → slice_get (triples_at t v) k ≡ Some (Field name.0, value_of r) → list_any (nat_eq name.0) (map field_number fields) ≡ false → new ≡ fields ++ (name, r) ∷ [] → IsWithin (length t.slots) r
      → ((below : Below) → IsReadWith t below → IsRefAmong below v → IsRefAmong below r) → AreCopied t v new (suc k)
  added name r at absent is within among =
      let rest = drop (suc k) (triples_at t v) in
      let x : Label × Value = (Field name.0, value_of r) in
      let taken : x ∷ fields_but (name.0 ∷ g.names) rest ≡ fields_but g.names (drop k (triples_at t v)) =
      ap (λ b. if b then fields_but g.names rest else x ∷ fields_but (name.0 ∷ g.names) rest) (sym (g.same name.0 ∙ absent)) ∙ ap (fields_but g.names) (sym (drop_next (triples_at t v) k x at))
      in
      let parts : map field_part (fields ++ (name, r) ∷ []) ≡ map field_part fields ++ (Field name.0, r) ∷ [] = map_push field_part fields (name, r) in
      let numbers : map field_number (fields ++ (name, r) ∷ []) ≡ map field_number fields ++ name.0 ∷ [] = map_push field_number fields (name, r) in
      let triples : map value_triple (map field_part (fields ++ (name, r) ∷ [])) ≡ map value_triple (map field_part fields) ++ x ∷ [] = ap (map value_triple) parts ∙ map_push value_triple (map field_part fields) (Field name.0, r) in
      subst (λ (fs : List (Sym × Ref)). AreCopied t v fs (suc k)) (sym is) (record {
        names = name.0 ∷ g.names;
        same = λ n.
            or_turned (nat_eq n name.0) (list_any (nat_eq n) g.names)
            ∙ ap (λ b. b || nat_eq n name.0) (g.same n)
            ∙ ap (λ b. list_any (nat_eq n) (map field_number fields) || b) (sym (or_nothing (nat_eq n name.0)))
            ∙ sym (list_any-append (nat_eq n) (map field_number fields) (name.0 ∷ []))
            ∙ ap (list_any (nat_eq n)) (sym numbers);
        are =
            ap (λ ts. ts ++ fields_but (name.0 ∷ g.names) rest) triples
            ∙ append_three (map value_triple (map field_part fields)) (x ∷ []) (fields_but (name.0 ∷ g.names) rest)
            ∙ ap (λ ts. map value_triple (map field_part fields) ++ ts) taken
            ∙ g.are;
        within = subst (λ (ps : Parts). AllWithin (length t.slots) ps) (sym parts) (within_push (length t.slots) (map field_part fields) (Field name.0, r) g.within within);
        among = λ below read led.
            subst (λ (ps : Parts). (e : ℕ × List Object) → Contains (below_parts ps) e → Contains below e) (sym parts)
            (among_push (map field_part fields) (Field name.0, r) below (g.among below read led) (among_of below r (among below read led)));
        distinct = subst (IsDistinct nat_eq) (sym numbers) (IsDistinct-push nat_eq_equiv (map field_number fields) name.0 g.distinct absent);
      })

  next : (label : CodeLabel) (r : Ref) → slice_get (triples_at t v) k ≡ Some (label_of label, value_of r) → new ≡ with_field fields label r → IsWithin (length t.slots) r
      → ((below : Below) → IsReadWith t below → IsRefAmong below v → IsRefAmong below r) → AreCopied t v new (suc k)
  next (code.Place j) r at is within among = passed (Place j, value_of r) at refl is
  next (code.Key j) r at is within among = passed (KeyAt j, value_of r) at refl is
  next (code.Value j) r at is within among = passed (ValueAt j, value_of r) at refl is
  next code.Message r at is within among = passed (Message, value_of r) at refl is
  next code.Cause r at is within among = passed (Cause, value_of r) at refl is
  next code.Ractor r at is within among = passed (Ractor, value_of r) at refl is
  next (code.Field name) r at is within among = by (list_any (λ f. nat_eq name.0 (field_number f)) fields) refl
    where
      by : (b : Bool) → list_any (λ f. nat_eq name.0 (field_number f)) fields ≡ b → AreCopied t v new (suc k)
      by true e =
          passed (Field name.0, value_of r) at
          (ap (λ b. if b then fields_but g.names (drop (suc k) (triples_at t v)) else (Field name.0, value_of r) ∷ fields_but (name.0 ∷ g.names) (drop (suc k) (triples_at t v))) (g.same name.0 ∙ sym (any_number name.0 fields) ∙ e))
          (is ∙ ap (λ b. if b then fields else fields ++ (name, r) ∷ []) e)
      by false e = added name r at (sym (any_number name.0 fields) ∙ e) (is ∙ ap (λ b. if b then fields else fields ++ (name, r) ∷ []) e) within among

  copied_field : (label : CodeLabel) (r : Ref) → slice_get (triples_at t v) k ≡ Some (label_of label, value_of r) → new ≡ with_field fields label r → IsWithin (length t.slots) r
      → ((below : Below) → IsReadWith t below → IsRefAmong below v → IsRefAmong below r) → AreCopied t v new (k + 1)
  copied_field label r at is within among = subst (λ j. AreCopied t v new j) (let z : suc k ≡ k + 1 = omega arith in z) (next label r at is within among)

  -- what stands in the next place is there
  pub copied_next : (part : Option (CodeLabel × Ref)) → option_map labelled_value part ≡ slice_get (triples_at t v) k → k < length (triples_at t v) → IfSome part (λ p. IsWithin (length t.slots) p.1)
      → IfSome part (λ p. IsKnownFrom t v p.1) → IfSome part (λ p. new ≡ with_field fields p.0 p.1) → AreCopied t v new (k + 1)
  copied_next (Some (label, r)) at lt within known is = copied_field label r (sym at) is within (λ below read led. read_among t below v r read led known)
  copied_next None at lt within known is =
      let d : Label × Value = (Message, value_of (ref.Nil)) in
      absurd (none-some (get_or (triples_at t v) k d) (at ∙ slice_get-get_or (triples_at t v) k d lt))

-- behind the last value all fields are there
pub copied_all : (t : Table) (v : Ref) (fields : List (Sym × Ref)) (k : ℕ) → AreCopied t v fields k → length (triples_at t v) ≤ k → map value_triple (map field_part fields) ≡ fields_but [] (triples_at t v)
copied_all t v fields k g le =
    append_nil (map value_triple (map field_part fields)) ∙ ap (λ ts. map value_triple (map field_part fields) ++ fields_but g.names ts) (sym (drop_none (triples_at t v) k le)) ∙ g.are

-- what an exception leads to, from its parts
pub raised_among : (below : Below) (x : Raised) → IsRefAmong below x.message → IsRefAmong below x.cause → IsRefAmong below x.ractor
    → ((e : ℕ × List Object) → Contains (below_parts (map field_part x.fields.items)) e → Contains below e) → (e : ℕ × List Object) → Contains (below_parts (raised_parts x)) e → Contains below e
raised_among below x message cause ractor fields e has =
    let all = below_parts (map field_part x.fields.items) in
    ⊎_elim (among_of below x.message message e)
    (λ h. ⊎_elim (among_of below x.cause cause e)
    (λ i. ⊎_elim (among_of below x.ractor ractor e) (fields e) (Contains-append_cases (below_ref x.ractor) all e i))
    (Contains-append_cases (below_ref x.cause) (below_ref x.ractor ++ all) e h))
    (Contains-append_cases (below_ref x.message) (below_ref x.cause ++ (below_ref x.ractor ++ all)) e has)

-- ---- Fields of which no two have one name are all copied.

abbrev Unseen : List ℕ → List ℕ → Type 0
Unseen seen [] = Unit {0}
Unseen seen (n ∷ ns) = (list_any (nat_eq n) seen ≡ false) × Unseen seen ns

none_seen : (names : List ℕ) → Unseen [] names
none_seen [] = tt
none_seen (n ∷ ns) = (refl, none_seen ns)

one_seen : (n : ℕ) (seen names : List ℕ) → AllByRecursion (λ m. nat_eq n m ≡ false) names → Unseen seen names → Unseen (n ∷ seen) names
one_seen n seen [] apart unseen = tt
one_seen n seen (m ∷ ms) apart unseen = (ap (λ b. b || list_any (nat_eq m) seen) (nat_eq_equiv.symm m n ∙ apart.0) ∙ unseen.0, one_seen n seen ms apart.1 unseen.1)

own_from : (seen names : List ℕ) (ts : List (Label × Value)) → map label_part ts ≡ map (λ n. Field n) names → IsDistinct nat_eq names → Unseen seen names → fields_but seen ts ≡ ts
own_from seen names [] labels distinct unseen = refl
own_from seen [] (t ∷ ts) labels distinct unseen = let no : ⊥ = cc in absurd no
own_from seen (n ∷ ns) ((l, x) ∷ ts) labels distinct unseen =
    let here : l ≡ Field n = cc in
    let others : map label_part ts ≡ map (λ m. Field m) ns = cc in
    ap (λ k. fields_but seen ((k, x) ∷ ts)) here
    ∙ ap (λ b. if b then fields_but seen ts else (Field n, x) ∷ fields_but (n ∷ seen) ts) unseen.0
    ∙ ap (λ us. (Field n, x) ∷ us) (own_from (n ∷ seen) ns ts others (IsDistinct-tail nat_eq n ns distinct) (one_seen n seen ns (IsDistinct-head nat_eq n ns distinct) unseen.1))
    ∙ ap (λ k. (k, x) ∷ ts) (sym here)

pub own_fields : (ts : List (Label × Value)) → AreOwnFields ts → fields_but [] ts ≡ ts
own_fields ts own = own_from [] own.names ts own.labels own.distinct (none_seen own.names)

pub raised_whole : (t : Table) (v : Ref) → IsRaisedWhole (triples_at t v) → (exception_copy t v).triples ≡ triples_at t v
raised_whole t v w =
    ap (λ ts. (Message, value_in ts 0) ∷ (Cause, value_in ts 1) ∷ (Ractor, value_in ts 2) ∷ fields_but [] ts) w.all
    ∙ ap (λ fs. (Message, w.message) ∷ (Cause, w.cause) ∷ (Ractor, w.ractor) ∷ fs) (own_fields w.fields w.own)
    ∙ sym w.all
