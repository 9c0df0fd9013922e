-- What promoting, opening and putting back leave of the objects that were there.
use Rattle.std.proofs.Common.{◌≡◌, ℕ, ◌<◌, ◌⊎◌, ⊎_elim, true, zero, suc, List, [], ◌∷◌, ◌++◌, length, map, slice_get, Option, Some, None, Contains, sym, ap, ◌∙◌, subst, refl, arith}
use Rattle.std.specs.List.{AllZip}
use Rattle.std.specs.Option.{option_and_then}
use Rattle.std.proofs.lemmas.Bool.{false≢true}
use Rattle.std.proofs.lemmas.Option.{same_Some, none-some, slice_get_within, get_or_from_slice_get}
use Rattle.rr_space.specs.Graph.{Graph, Name, Own, Published, Value, Plain, At, Label, Object, Leads, IsPart, IsSolid, IsShareable}
use Rattle.rr_space.specs.Graph.{SameValue, SameTriple, Matches, IsAt}
use Rattle.rr_space.specs.Tables.{Slot, Here, Led, Below, Whole, Table, Packed, HashKey, resolve, resolve_slot, resolve_triple, resolve_object, numbered, numbered_triple, numbered_object, object_in, space_graph, joined, IsPublished}
use Rattle.rr_space.specs.Tables.{renamed, renamed_triple, renamed_object, here_behind}
use Rattle.rr_space.specs.Moves.{IsCopy, IsEmptied, IsPutBack, home_name, here_home, IsPlanned, IsPromotedTo, resolved_in, IsObjectKept, IsKept, KeepingAddsUp, PromotingKeeps, OpeningKeeps, PuttingBackKeeps}
use Rattle.rr_space.proofs.Frames.{map_same}
use Rattle.rr_space.proofs.Hands.{append_left}
use Rattle.rr_space.proofs.Keeping.{list_has}
use Rattle.rr_space.proofs.Parting.{hold_first}
use Rattle.rr_space.proofs.Renaming.{mapped_at, map_at, at_contains, contains_at, contains_map, contains_map_back}
use Rattle.rr_space.proofs.Shares.{same_object}
use Rattle.rr_space.proofs.Sounds.{gets, raw_in}

here_same : (o p : Object) → Here o ≡ Here p → o ≡ p
here_same o p e = cc

here_led : (o : Object) (c p : ℕ) (s : Option Slot) → s ≡ Some (Here o) → s ≡ Some (Led c p) → ⊥
here_led o c p s a b = let e : Some (Here o) ≡ Some (Led c p) = sym a ∙ b in let w : Here o ≡ Led c p = same_Some (Here o) (Led c p) e in cc

-- a published value is its own end
fixed : (slots : List Slot) (y : Value) → IsPublished y → resolve slots y ≡ y
fixed slots (Plain i) h = refl
fixed slots (At (Own n)) h = absurd h
fixed slots (At (Published c p)) h = refl

published_value : (c : ℕ) (y : Value) → IsPublished (numbered c y)
published_value c (Plain i) = tt
published_value c (At (Own n)) = tt
published_value c (At (Published d p)) = tt

-- where a forward leads does not depend on other slots
led_same : (a b : List Slot) (c p : ℕ) (below : Option Below) → resolved_in a (Some (Led c p)) below ≡ resolved_in b (Some (Led c p)) below
led_same a b c p None = refl
led_same a b c p (Some x) = refl

twice : (f g h : Label × Value → Label × Value) (ts : List (Label × Value)) → ((t : Label × Value) → f (g t) ≡ h t) → map f (map g ts) ≡ map h ts
twice f g h [] same = refl
twice f g h (t ∷ ts) same = ap (λ x. x ∷ map f (map g ts)) (same t) ∙ ap (λ xs. h t ∷ xs) (twice f g h ts same)

-- forwards that stay: what was resolved by earlier ones is resolved as before
module _ (mid new : List Slot) (stay : (n c p : ℕ) → slice_get mid n ≡ Some (Led c p) → slice_get new n ≡ Some (Led c p)) where
  resolve_later : (x : Value) → resolve new (resolve mid x) ≡ resolve new x
  resolve_later (Plain i) = refl
  resolve_later (At (Published c p)) = refl
  resolve_later (At (Own n)) = by (slice_get mid n) refl
    where
      by : (s : Option Slot) → slice_get mid n ≡ s → resolve new (At (resolve_slot (slice_get mid n) n)) ≡ At (resolve_slot (slice_get new n) n)
      by None e = ap (λ s. resolve new (At (resolve_slot s n))) e
      by (Some (Here o)) e = ap (λ s. resolve new (At (resolve_slot s n))) e
      by (Some (Led c p)) e = ap (λ s. resolve new (At (resolve_slot s n))) e ∙ sym (ap (λ s. At (resolve_slot s n)) (stay n c p e))

  object_later : (o : Object) → resolve_object new (resolve_object mid o) ≡ resolve_object new o
  object_later o = ap (λ ts. record o { triples = ts }) (twice (resolve_triple new) (resolve_triple mid) (resolve_triple new) o.triples (λ t. ap (λ v. (t.0, v)) (resolve_later t.1)))

  value_fixed : (x : Value) → IsPublished (resolve mid x) → resolve new x ≡ resolve mid x
  value_fixed x h = sym (resolve_later x) ∙ fixed new (resolve mid x) h

  object_fixed : (o : Object) → ((l : Label) (x : Value) → Contains o.triples (l, x) → IsPublished (resolve mid x)) → resolve_object mid o ≡ resolve_object new o
  object_fixed o all = ap (λ ts. record o { triples = ts }) (map_same (resolve_triple mid) (resolve_triple new) o.triples (λ t has. ap (λ v. (t.0, v)) (sym (value_fixed t.1 (all t.0 t.1 has)))))

-- where the raw object stayed, it is kept
raw_kept : (new : Table) (n : ℕ) (o : Object) → slice_get new.slots n ≡ Some (Here o) → IsObjectKept new n o
raw_kept new n o at = record {
  same = ap (λ s. resolved_in new.slots s (slice_get new.below n)) at;
  open_stays = λ f. (o, at);
  led = λ c p l x led has. absurd (here_led o c p (slice_get new.slots n) at led);
}

module _ (old mid new : Table) (a : IsKept old mid) (b : IsKept mid new) where
  stay : (n c p : ℕ) → slice_get mid.slots n ≡ Some (Led c p) → slice_get new.slots n ≡ Some (Led c p)
  stay n c p e = (b.forwards n c p e).0

  kept_here : (n : ℕ) (o p : Object) → IsObjectKept mid n o → slice_get mid.slots n ≡ Some (Here p) → IsObjectKept new n o
  kept_here n o p k is =
      let now = b.objects n p is in
      let same : resolve_object mid.slots p ≡ resolve_object mid.slots o = same_Some _ _ (sym (ap (λ s. resolved_in mid.slots s (slice_get mid.below n)) is) ∙ k.same) in
      let later : resolve_object new.slots p ≡ resolve_object new.slots o =
      sym (object_later mid.slots new.slots stay p) ∙ ap (resolve_object new.slots) same ∙ object_later mid.slots new.slots stay o in
      record {
        same = now.same ∙ ap Some later;
        open_stays = λ f. now.open_stays (ap (λ (x : Object). x.frozen) same ∙ f);
        led = λ c q l x led has.
            let z = contains_map_back (resolve_triple mid.slots) p.triples (l, resolve mid.slots x)
            (subst (λ (y : Object). Contains y.triples (l, resolve mid.slots x)) (sym same) (contains_map (resolve_triple mid.slots) o.triples (l, x) has)) in
            let value : resolve mid.slots z.0.1 ≡ resolve mid.slots x = ap (λ (t : Label × Value). t.1) z.2 in
            subst IsPublished (sym (resolve_later mid.slots new.slots stay z.0.1) ∙ ap (resolve new.slots) value ∙ resolve_later mid.slots new.slots stay x)
            (now.led c q z.0.0 z.0.1 led z.1);
      }

  kept_led : (n c p : ℕ) (o : Object) → IsObjectKept mid n o → slice_get mid.slots n ≡ Some (Led c p) → IsObjectKept new n o
  kept_led n c p o k is =
      let f = b.forwards n c p is in
      let all = λ (l : Label) (x : Value) (has : Contains o.triples (l, x)). k.led c p l x is has in
      record {
        same = ap (λ s. resolved_in new.slots s (slice_get new.below n)) f.0 ∙ ap (resolved_in new.slots (Some (Led c p))) f.1
            ∙ led_same new.slots mid.slots c p (slice_get mid.below n) ∙ sym (ap (λ s. resolved_in mid.slots s (slice_get mid.below n)) is) ∙ k.same
            ∙ ap Some (object_fixed mid.slots new.slots stay o all);
        open_stays = λ f2. absurd (let q = k.open_stays f2 in here_led q.0 c p (slice_get mid.slots n) q.1 is);
        led = λ d q l x led has. subst IsPublished (sym (value_fixed mid.slots new.slots stay x (all l x has))) (all l x has);
      }

  kept_on : (n : ℕ) (o : Object) → IsObjectKept mid n o → IsObjectKept new n o
  kept_on n o k = by (slice_get mid.slots n) refl
    where
      by : (s : Option Slot) → slice_get mid.slots n ≡ s → IsObjectKept new n o
      by None is = absurd (none-some (resolve_object mid.slots o) (sym (ap (λ s. resolved_in mid.slots s (slice_get mid.below n)) is) ∙ k.same))
      by (Some (Here p)) is = kept_here n o p k is
      by (Some (Led c p)) is = kept_led n c p o k is

  keys_on : (n : ℕ) (o q : Object) → slice_get old.slots n ≡ Some (Here o) → slice_get new.slots n ≡ Some (Here q) → slice_get new.keys n ≡ slice_get old.keys n
  keys_on n o q at now = by (slice_get mid.slots n) refl
    where
      by : (s : Option Slot) → slice_get mid.slots n ≡ s → slice_get new.keys n ≡ slice_get old.keys n
      by None is = absurd (none-some (resolve_object mid.slots o) (sym (ap (λ s. resolved_in mid.slots s (slice_get mid.below n)) is) ∙ (a.objects n o at).same))
      by (Some (Here p)) is = b.keys n p q is now ∙ a.keys n o p at is
      by (Some (Led c p)) is = absurd (here_led q c p (slice_get new.slots n) now (stay n c p is))

pub keeping_adds_up : KeepingAddsUp
keeping_adds_up old mid new a b = record {
  objects = λ n o at. kept_on old mid new a b n o (a.objects n o at);
  forwards = λ n c p at. let f = a.forwards n c p at in let g = b.forwards n c p f.0 in (g.0, g.1 ∙ f.1);
  keys = λ n o q at now. keys_on old mid new a b n o q at now;
}

-- ---- promoting

module _ (w : Whole) (places : List ℕ) (old new : Table) (plan : IsPlanned old w places) (e : IsPromotedTo w places old new) where
  promoted_out : (n : ℕ) (s : Slot) → slice_get old.slots n ≡ Some s → ((o : Object) → s ≡ Here o → ⊥) → Contains places n → ⊥
  promoted_out n s at out has =
      let i = at_contains places n has in
      let q = plan.same n i.0 i.1 in
      out q.0 (same_Some s (Here q.0) (sym at ∙ q.2))

  promoted_stay : (n c p : ℕ) → slice_get old.slots n ≡ Some (Led c p) → slice_get new.slots n ≡ Some (Led c p)
  promoted_stay n c p at = e.slots.others n (promoted_out n (Led c p) at (λ o q. let z : Led c p ≡ Here o = q in cc)) ∙ at

  promoted_value : (z y : Value) → SameValue (IsAt places) z y → numbered w.number y ≡ resolve new.slots z
  promoted_value (Plain a) (Plain b) h = ap Plain (sym h)
  promoted_value (Plain a) (At m) h = absurd h
  promoted_value (At n) (Plain b) h = absurd h
  promoted_value (At (Own n)) (At (Own j)) h = sym (ap (λ s. At (resolve_slot s n)) (e.slots.named n j h))
  promoted_value (At (Own n)) (At (Published d q)) h = absurd h
  promoted_value (At (Published c p)) (At (Own j)) h = absurd h
  promoted_value (At (Published c p)) (At (Published d q)) h = ap (λ k. At (Published k q)) (sym h.0) ∙ ap (λ k. At (Published c k)) (sym h.1)

  promoted_triples : (ts us : List (Label × Value)) → AllZip (SameTriple (IsAt places)) (map (resolve_triple old.slots) ts) us → map (numbered_triple w.number) us ≡ map (resolve_triple new.slots) ts
  promoted_triples [] [] h = refl
  promoted_triples [] (u ∷ us) h = absurd h
  promoted_triples (t ∷ ts) [] h = absurd h
  promoted_triples (t ∷ ts) (u ∷ us) h =
      let value : numbered w.number u.1 ≡ resolve new.slots t.1 = promoted_value (resolve old.slots t.1) u.1 h.0.1 ∙ resolve_later old.slots new.slots promoted_stay t.1 in
      ap (λ l. (l, numbered w.number u.1) ∷ map (numbered_triple w.number) us) (sym h.0.0)
      ∙ ap (λ v. (t.0, v) ∷ map (numbered_triple w.number) us) value ∙ ap (λ vs. resolve_triple new.slots t ∷ vs) (promoted_triples ts us h.1)

  promoted_object : (o p : Object) → Matches (IsAt places) (resolve_object old.slots o) p → numbered_object w.number p ≡ resolve_object new.slots o
  promoted_object o p m = same_object (numbered_object w.number p) (resolve_object new.slots o) (sym m.kind) (sym m.class) (sym m.bytes) (sym m.frozen) (promoted_triples o.triples p.triples m.triples)

  promoted_in : (n i : ℕ) (o p : Object) → IsAt places n i → slice_get w.own i ≡ Some p → o.frozen ≡ true → Matches (IsAt places) (resolve_object old.slots o) p → IsObjectKept new n o
  promoted_in n i o p at own frozen m =
      let led = e.slots.named n i at in
      let below = e.below.named n (contains_at places i n at) in
      record {
        same = ap (λ s. resolved_in new.slots s (slice_get new.below n)) led ∙ ap (resolved_in new.slots (Some (Led w.number i))) below
            ∙ hold_first w i ∙ map_at (numbered_object w.number) w.own i p own ∙ ap Some (promoted_object o p m);
        open_stays = λ f. absurd (false≢true (sym f ∙ frozen));
        led = λ c q l x is has.
            let z = contains_map_back (numbered_triple w.number) p.triples (l, resolve new.slots x)
            (subst (λ (ts : List (Label × Value)). Contains ts (l, resolve new.slots x)) (sym (promoted_triples o.triples p.triples m.triples)) (contains_map (resolve_triple new.slots) o.triples (l, x) has)) in
            subst IsPublished (ap (λ (t : Label × Value). t.1) z.2) (published_value w.number z.0.1);
      }

  promoted_by : (n : ℕ) (o : Object) → slice_get old.slots n ≡ Some (Here o) → Contains places n ⊎ (Contains places n → ⊥) → IsObjectKept new n o
  promoted_by n o at c = ⊎_elim
      (λ has.
      let i = at_contains places n has in
      let q = plan.same n i.0 i.1 in
      subst (IsObjectKept new n) (here_same q.0 o (same_Some (Here q.0) (Here o) (sym q.2 ∙ at))) (promoted_in n i.0 q.0 q.1 i.1 q.3 q.4 q.5))
      (λ out. raw_kept new n o (e.slots.others n out ∙ at)) c

  promoted_keys : (n : ℕ) (o p : Object) → slice_get old.slots n ≡ Some (Here o) → slice_get new.slots n ≡ Some (Here p) → Contains places n ⊎ (Contains places n → ⊥)
      → slice_get new.keys n ≡ slice_get old.keys n
  promoted_keys n o p at now c = ⊎_elim
      (λ has. let i = at_contains places n has in absurd (here_led p w.number i.0 (slice_get new.slots n) now (e.slots.named n i.0 i.1)))
      (λ out. e.keys.others n out) c

pub promoting_keeps : PromotingKeeps
promoting_keeps w places old new plan e = record {
  objects = λ n o at. promoted_by w places old new plan e n o at (list_has places n);
  forwards = λ n c p at.
      let out = promoted_out w places old new plan e n (Led c p) at (λ o q. let z : Led c p ≡ Here o = q in cc) in
      (e.slots.others n out ∙ at, e.below.others n out);
  keys = λ n o p at now. promoted_keys w places old new plan e n o p at now (list_has places n);
}

-- ---- opening

left_at : {A : Type 0} (xs ys : List A) (n : ℕ) → n < length xs → slice_get (xs ++ ys) n ≡ slice_get xs n
left_at [] ys n lt = absurd (let w : ⊥ = omega (arith, lt) in w)
left_at (x ∷ xs) ys zero lt = refl
left_at (x ∷ xs) ys (suc n) lt = left_at xs ys n (omega (arith, lt))

pub opening_keeps : OpeningKeeps
opening_keeps m old new v below keys e =
    let slots = λ (n : ℕ) (s : Slot) (at : slice_get old.slots n ≡ Some s).
    ap (λ (ss : List Slot). slice_get ss n) e.slots ∙ append_left old.slots (map (here_behind (length old.slots)) m.objects) n s at in
    record {
      objects = λ n o at. raw_kept new n o (slots n (Here o) at);
      forwards = λ n c p at. (
        slots n (Led c p) at,
        ap (λ (bs : List Below). slice_get bs n) e.below ∙ left_at old.below m.below n (let lt = slice_get_within old.slots n (Led c p) at in omega (arith, lt, below)),
      );
      keys = λ n o p at now. ap (λ (ks : List (List HashKey)). slice_get ks n) e.keys ∙ left_at old.keys m.keys n (let lt = slice_get_within old.slots n (Here o) at in omega (arith, lt, keys));
    }

-- ---- putting back

here_resolve : (os : List Object) (y : Value) → resolve (map Here os) y ≡ y
here_resolve os (Plain i) = refl
here_resolve os (At (Published c p)) = refl
here_resolve os (At (Own n)) = by (slice_get (map Here os) n) refl
  where
    by : (s : Option Slot) → slice_get (map Here os) n ≡ s → At (resolve_slot (slice_get (map Here os) n) n) ≡ At (Own n)
    by None e = ap (λ s. At (resolve_slot s n)) e
    by (Some (Here o)) e = ap (λ s. At (resolve_slot s n)) e
    by (Some (Led c p)) e = let q = mapped_at Here os n (Led c p) e in let w : Here q.0 ≡ Led c p = q.2 in absurd (let z : ⊥ = cc in z)

-- a name without an object leads to nothing that could be open
alone : (g : Graph) (n : Name) → g n ≡ None → IsShareable g (At n)
alone g n none m o (path, leads) at = by path leads
  where
    same_name : (a b : Name) → At a ≡ At b → a ≡ b
    same_name a b e = cc

    by : (path : List Label) → Leads g (At n) path (At m) → IsSolid o
    by [] e = absurd (none-some o (sym none ∙ ap g (same_name n m e) ∙ at))
    by (l ∷ path) (x, (k, p, is, here, has), rest) = absurd (none-some p (sym none ∙ ap g (same_name n k is) ∙ here))

module _ (names : List ℕ) (v : Value) (m : Packed) (was now new : Table) (copy : IsCopy was v names m) (emptied : IsEmptied names was now) (back : IsPutBack names m now new) where
  -- what was moved out of a named slot, and its pair in the message
  record Moved (n i : ℕ) : Type 0 where
    raw : Object
    pair : Object
    was_here : slice_get was.slots n ≡ Some (Here raw)
    there : slice_get m.objects i ≡ Some pair
    match : Matches (IsAt names) (resolve_object was.slots raw) (resolve_object (map Here m.objects) pair)

  there_was : (n : ℕ) → IsPart (space_graph was) (resolve was.slots v) (Own n) → (raw : Object) × (slice_get was.slots n ≡ Some (Here raw))
  there_was n part = by (space_graph was (Own n)) refl
    where
      by : (o : Option Object) → space_graph was (Own n) ≡ o → (raw : Object) × (slice_get was.slots n ≡ Some (Here raw))
      by None e = absurd (part.1 (alone (space_graph was) (Own n) e))
      by (Some o) e = let r = raw_in was.slots (joined was.below) n o e in (r.0, r.1)

  moved : (n i : ℕ) → IsAt names n i → Moved n i
  moved n i at =
      let r = there_was n (copy.alike.left n i at) in
      let p = gets m.objects i (let lt = slice_get_within names i n at in let e = copy.size in omega (arith, lt, e)) in
      record {
        raw = r.0;
        pair = p.0;
        was_here = r.1;
        there = p.1;
        match = copy.alike.same n i (resolve_object was.slots r.0) (resolve_object (map Here m.objects) p.0) at (ap (option_and_then (object_in was.slots)) r.1)
            (ap (option_and_then (object_in (map Here m.objects))) (map_at Here m.objects i p.0 p.1));
      }

  home_value : (z y : Value) → SameValue (IsAt names) z y → renamed (home_name names) y ≡ z
  home_value (Plain a) (Plain b) h = ap Plain (sym h)
  home_value (Plain a) (At k) h = absurd h
  home_value (At k) (Plain b) h = absurd h
  home_value (At (Own n)) (At (Own j)) h = ap (λ k. At (Own k)) (get_or_from_slice_get names j n 0 h)
  home_value (At (Own n)) (At (Published d q)) h = absurd h
  home_value (At (Published c p)) (At (Own j)) h = absurd h
  home_value (At (Published c p)) (At (Published d q)) h = ap (λ k. At (Published k q)) (sym h.0) ∙ ap (λ k. At (Published c k)) (sym h.1)

  home_triples : (ts us : List (Label × Value)) → AllZip (SameTriple (IsAt names)) (map (resolve_triple was.slots) ts) (map (resolve_triple (map Here m.objects)) us)
      → map (renamed_triple (home_name names)) us ≡ map (resolve_triple was.slots) ts
  home_triples [] [] h = refl
  home_triples [] (u ∷ us) h = absurd h
  home_triples (t ∷ ts) [] h = absurd h
  home_triples (t ∷ ts) (u ∷ us) h =
      let value : renamed (home_name names) u.1 ≡ resolve was.slots t.1 =
      ap (renamed (home_name names)) (sym (here_resolve m.objects u.1)) ∙ home_value (resolve was.slots t.1) (resolve (map Here m.objects) u.1) h.0.1 in
      ap (λ l. (l, renamed (home_name names) u.1) ∷ map (renamed_triple (home_name names)) us) (sym h.0.0)
      ∙ ap (λ x. (t.0, x) ∷ map (renamed_triple (home_name names)) us) value ∙ ap (λ xs. resolve_triple was.slots t ∷ xs) (home_triples ts us h.1)

  home_object : (o p : Object) → Matches (IsAt names) (resolve_object was.slots o) (resolve_object (map Here m.objects) p) → renamed_object (home_name names) p ≡ resolve_object was.slots o
  home_object o p h = same_object (renamed_object (home_name names) p) (resolve_object was.slots o) (sym h.kind) (sym h.class) (sym h.bytes) (sym h.frozen) (home_triples o.triples p.triples h.triples)

  back_at : (n i : ℕ) (at : IsAt names n i) → slice_get new.slots n ≡ Some (here_home names (moved n i at).pair)
  back_at n i at = back.slots.named n i (here_home names (moved n i at).pair) at (map_at (here_home names) m.objects i (moved n i at).pair (moved n i at).there)

  led_out : (n c p : ℕ) → slice_get was.slots n ≡ Some (Led c p) → Contains names n → ⊥
  led_out n c p at has = let i = at_contains names n has in here_led (moved n i.0 i.1).raw c p (slice_get was.slots n) (moved n i.0 i.1).was_here at

  out_same : (n : ℕ) → (Contains names n → ⊥) → slice_get new.slots n ≡ slice_get was.slots n
  out_same n out = back.slots.others n out ∙ emptied.slots.others n out

  stays : (n c p : ℕ) → slice_get was.slots n ≡ Some (Led c p) → slice_get new.slots n ≡ Some (Led c p)
  stays n c p at = out_same n (led_out n c p at) ∙ at

  back_kept : (n i : ℕ) (at : IsAt names n i) → IsObjectKept new n (moved n i at).raw
  back_kept n i at =
      let d = moved n i at in
      record {
        same = ap (λ s. resolved_in new.slots s (slice_get new.below n)) (back_at n i at)
            ∙ ap (λ x. Some (resolve_object new.slots x)) (home_object d.raw d.pair d.match) ∙ ap Some (object_later was.slots new.slots stays d.raw);
        open_stays = λ f. (renamed_object (home_name names) d.pair, back_at n i at);
        led = λ c p l x led has. absurd (here_led (renamed_object (home_name names) d.pair) c p (slice_get new.slots n) (back_at n i at) led);
      }

  kept_by : (n : ℕ) (o : Object) → slice_get was.slots n ≡ Some (Here o) → Contains names n ⊎ (Contains names n → ⊥) → IsObjectKept new n o
  kept_by n o at c = ⊎_elim
      (λ has.
      let i = at_contains names n has in
      subst (IsObjectKept new n) (here_same (moved n i.0 i.1).raw o (same_Some _ _ (sym (moved n i.0 i.1).was_here ∙ at))) (back_kept n i.0 i.1))
      (λ out. raw_kept new n o (out_same n out ∙ at)) c

  keys_by : (n : ℕ) → n < length was.keys → Contains names n ⊎ (Contains names n → ⊥) → slice_get new.keys n ≡ slice_get was.keys n
  keys_by n lt c = ⊎_elim
      (λ has.
      let i = at_contains names n has in
      let k = gets was.keys n lt in
      back.keys.named n i.0 k.0 i.1 (copy.keys n i.0 i.1 ∙ k.1) ∙ sym k.1)
      (λ out. back.keys.others n out ∙ emptied.keys.others n out) c

pub putting_back_keeps : PuttingBackKeeps
putting_back_keeps names v m was now new count copy emptied back = record {
  objects = λ n o at. kept_by names v m was now new copy emptied back n o at (list_has names n);
  forwards = λ n c p at.
      let out = led_out names v m was now new copy emptied back n c p at in
      (stays names v m was now new copy emptied back n c p at, back.below.others n out ∙ emptied.below.others n out);
  keys = λ n o p at now_at. keys_by names v m was now new copy emptied back n (let lt = slice_get_within was.slots n (Here o) at in omega (arith, lt, count)) (list_has names n);
}
