-- Objects that are taken out of a slot and put back: what their references become.
use Rattle.std.proofs.Common.{◌≡◌, ℕ, zero, suc, ◌<◌, ⊎_elim, inl, inr, Bool, List, [], ◌∷◌, ◌++◌, length, map, slice_get, slice_set, Some, Contains, sym, ap, ◌∙◌, subst, refl, length-set}
use Rattle.std.specs.Prelude.{slice_index}
use Rattle.std.specs.List.{AllZip}
use Rattle.std.proofs.lemmas.List.Elements.{Contains-append_left, Contains-append_right, Contains-append_cases}
use Rattle.std.proofs.lemmas.Option.{same_Some, none-some, slice_get_within, slice_get-get_or}
use Rattle.rr_space.specs.Graph.{Own, Published, Value, Plain, At, Label, Object}
use Rattle.rr_space.specs.Graph.{SameValue, IsAt}
use Rattle.rr_space.specs.Tables.{Slot, Here, Below, Table, joined, resolve, resolve_slot}
use Rattle.rr_space.specs.Tables.{renamed, renamed_triple}
use Rattle.rr_space.specs.Moves.{home_name, here_home}
use Rattle.rr_space.specs.Parts.{Parts, value_of, value_triple, below_ref, below_parts}
use Rattle.rr_space.specs.Parts.{IsWithin, AllWithin}
use Rattle.rr_space.specs.Views.{emptied, node_kind, node_class, node_object, node_parts, IsHeadKept}
use Rattle.rr_space.specs.Views.{IsKnown, IsCarried, IsCarriedPart}
use Rattle.rr_space.specs.Views.{IsRenumberedPart, ref_home}
use Rattle.rr_space.specs.declared.refer.Ref.{Ref}
use Rattle.rr_space.specs.declared.refer.Ref.TheVariants.{Nil, False, True, Int, Symbol, Class, Ractor, Local, Shared}
use Rattle.rr_space.specs.declared.node.Node.{Node}
use Rattle.rr_space.proofs.Keeping.{set_same, set_other, nat_cases}
use Rattle.rr_space.proofs.Renaming.{contains_at}

joined_less : (bs : List Below) (n : ℕ) (e : ℕ × List Object) → Contains (joined (slice_set bs n [])) e → Contains (joined bs) e
joined_less [] n e has = has
joined_less (b ∷ bs) zero e has = Contains-append_right b (joined bs) e has
joined_less (b ∷ bs) (suc n) e has =
    ⊎_elim (λ w. Contains-append_left b (joined bs) e w) (λ w. Contains-append_right b (joined bs) e (joined_less bs n e w)) (Contains-append_cases b (joined (slice_set bs n [])) e has)

-- the table without the object of the slot n
module _ (t mid : Table) (n : ℕ) (o : Object) (here : slice_get t.slots n ≡ Some (Here o)) (slots : mid.slots ≡ slice_set t.slots n (Here emptied)) (below : mid.below ≡ slice_set t.below n []) (names : List ℕ) where
  resolve_mid : (x : Value) → resolve mid.slots x ≡ resolve t.slots x
  resolve_mid (Plain i) = refl
  resolve_mid (At (Published c p)) = refl
  resolve_mid (At (Own m)) = ap (λ (ss : List Slot). At (resolve_slot (slice_get ss m) m)) slots ∙ ⊎_elim by out (nat_cases n m)
    where
      by : n ≡ m → At (resolve_slot (slice_get (slice_set t.slots n (Here emptied)) m) m) ≡ At (resolve_slot (slice_get t.slots m) m)
      by e =
          ap (λ k. At (resolve_slot (slice_get (slice_set t.slots n (Here emptied)) k) m)) (sym e)
          ∙ ap (λ s. At (resolve_slot s m)) (set_same t.slots n (Here emptied) (slice_get_within t.slots n (Here o) here))
          ∙ sym (ap (λ s. At (resolve_slot s m)) (ap (slice_get t.slots) (sym e) ∙ here))

      out : (n ≡ m → ⊥) → At (resolve_slot (slice_get (slice_set t.slots n (Here emptied)) m) m) ≡ At (resolve_slot (slice_get t.slots m) m)
      out e = ap (λ s. At (resolve_slot s m)) (set_other t.slots n m (Here emptied) e)

  pub known_mid : (r : Ref) → IsKnown t names r → IsKnown mid names r
  known_mid r known m is = known m (sym (resolve_mid (value_of r)) ∙ is)

  size_mid : length mid.slots ≡ length t.slots
  size_mid = ap length slots ∙ length-set t.slots n (Here emptied)

  carried_mid : (r q : Ref) → IsCarried mid names r q → IsCarried t names r q
  carried_mid r q c = record {
    same = subst (λ v. SameValue (IsAt names) v (value_of q)) (resolve_mid (value_of r)) c.same;
    within = λ w. c.within (subst (λ k. IsWithin k r) (sym size_mid) w);
    below = λ e has. ⊎_elim (λ w. inl (joined_less t.below n e (subst (λ (bs : List Below). Contains (joined bs) e) below w))) (λ w. inr w) (c.below e has);
  }

  pub parts_mid : (ps qs : Parts) → AllZip (IsRenumberedPart (IsCarried mid names)) ps qs → AllZip (IsCarriedPart t names) ps qs
  parts_mid [] [] h = tt
  parts_mid [] (q ∷ qs) h = absurd h
  parts_mid (p ∷ ps) [] h = absurd h
  parts_mid (p ∷ ps) (q ∷ qs) h = (record { label = h.0.label; value = carried_mid p.1 q.1 h.0.value }, parts_mid ps qs h.1)

-- ---- back home

module _ (names : List ℕ) where
  abbrev pub IsHome : Ref → Ref → Type 0
  IsHome r q = q ≡ ref_home names r

  home_value : (r : Ref) → value_of (ref_home names r) ≡ renamed (home_name names) (value_of r)
  home_value Nil = refl
  home_value False = refl
  home_value True = refl
  home_value (Int z) = refl
  home_value (Symbol s) = refl
  home_value (Class c) = refl
  home_value (Ractor r) = refl
  home_value (Local i) = refl
  home_value (Shared p c) = refl

  home_clusters : (r : Ref) → below_ref (ref_home names r) ≡ below_ref r
  home_clusters Nil = refl
  home_clusters False = refl
  home_clusters True = refl
  home_clusters (Int z) = refl
  home_clusters (Symbol s) = refl
  home_clusters (Class c) = refl
  home_clusters (Ractor r) = refl
  home_clusters (Local i) = refl
  home_clusters (Shared p c) = refl

  home_ref_within : (k : ℕ) → ((m : ℕ) → Contains names m → m < k) → (r : Ref) → IsWithin (length names) r → IsWithin k (ref_home names r)
  home_ref_within k all Nil w = tt
  home_ref_within k all False w = tt
  home_ref_within k all True w = tt
  home_ref_within k all (Int z) w = tt
  home_ref_within k all (Symbol s) w = tt
  home_ref_within k all (Class c) w = tt
  home_ref_within k all (Ractor r) w = tt
  home_ref_within k all (Local i) w = all (slice_index names i) (contains_at names i (slice_index names i) (slice_get-get_or names i 0 w))
  home_ref_within k all (Shared p c) w = w

  pub home_values : (ps qs : Parts) → AllZip (IsRenumberedPart IsHome) ps qs → map value_triple qs ≡ map (renamed_triple (home_name names)) (map value_triple ps)
  home_values [] [] h = refl
  home_values [] (q ∷ qs) h = absurd h
  home_values (p ∷ ps) [] h = absurd h
  home_values (p ∷ ps) (q ∷ qs) h =
      ap (λ l. (l, value_of q.1) ∷ map value_triple qs) (sym h.0.label)
      ∙ ap (λ v. (p.0, v) ∷ map value_triple qs) (ap value_of h.0.value ∙ home_value p.1)
      ∙ ap (λ ts. (p.0, renamed (home_name names) (value_of p.1)) ∷ ts) (home_values ps qs h.1)

  pub home_below : (ps qs : Parts) → AllZip (IsRenumberedPart IsHome) ps qs → below_parts qs ≡ below_parts ps
  home_below [] [] h = refl
  home_below [] (q ∷ qs) h = absurd h
  home_below (p ∷ ps) [] h = absurd h
  home_below (p ∷ ps) (q ∷ qs) h = ap (λ b. b ++ below_parts qs) (ap below_ref h.0.value ∙ home_clusters p.1) ∙ ap (λ b. below_ref p.1 ++ b) (home_below ps qs h.1)

  pub home_within : (k : ℕ) → ((m : ℕ) → Contains names m → m < k) → (ps qs : Parts) → AllZip (IsRenumberedPart IsHome) ps qs → AllWithin (length names) ps → AllWithin k qs
  home_within k all [] [] h w = tt
  home_within k all [] (q ∷ qs) h w = absurd h
  home_within k all (p ∷ ps) [] h w = absurd h
  home_within k all (p ∷ ps) (q ∷ qs) h w = (subst (IsWithin k) (sym h.0.value) (home_ref_within k all p.1 w.0), home_within k all ps qs h.1 w.1)

  pub home_slot : (a b : Node) (f : Bool) → IsHeadKept a b → AllZip (IsRenumberedPart IsHome) (node_parts a) (node_parts b) → Here (node_object b f) ≡ here_home names (node_object a f)
  home_slot a b f h parts =
      ap (λ k. Here (record (node_object b f) { kind = k })) h.kind
      ∙ ap (λ k. Here (record (node_object b f) { kind = node_kind a; class = k })) h.class
      ∙ ap (λ k. Here (record (node_object b f) { kind = node_kind a; class = node_class a; bytes = k })) h.bytes
      ∙ ap (λ k. Here (record (node_object a f) { triples = k })) (home_values (node_parts a) (node_parts b) parts)

pub within_one : (m : ℕ) (ts : Parts) (k : ℕ) (p : Label × Ref) → AllWithin m ts → slice_get ts k ≡ Some p → IsWithin m p.1
within_one m [] k p all at = absurd (none-some p at)
within_one m (x ∷ ts) zero p all at = subst (λ (y : Label × Ref). IsWithin m y.1) (same_Some x p at) all.0
within_one m (x ∷ ts) (suc k) p all at = within_one m ts k p all.1 at
