-- A table that goes to another owner takes its names with it.
use Rattle.std.proofs.Common.{◌≡◌, ℕ, zero, suc, ◌+◌, ◌<◌, ◌⊎◌, ⊎_elim, inl, inr, Bool, true, false, List, [], ◌∷◌, ◌++◌, length, map, slice_get, get_or, Option, Some, None, Contains, sym, ap, ◌∙◌, subst, refl, arith, length-append, if◌then◌else◌}
use Rattle.std.specs.Prelude.{slice_index}
use Rattle.std.specs.Option.{option_map}
use Rattle.std.proofs.lemmas.List.{length-map, get_or_append_left, get_or-append-add}
use Rattle.std.proofs.lemmas.Option.{slice_get-get_or, slice_get_within, same_Some, none-some}
use Rattle.rr_space.specs.Graph.{Name, Own, Published, Value, Plain, At, Label, Object}
use Rattle.rr_space.specs.Tables.{Slot, Here, Led}
use Rattle.rr_space.specs.Tables.{renamed, renamed_triple, renamed_object, behind, here_behind}
use Rattle.rr_space.specs.Readings.{Owner, Shared, owner_eq, Owned, Objects, Naming, Layout, name_in, named, HasPlace, IsInLayout, IsSound, Reads, Stands, IsReading}
use Rattle.rr_space.specs.Steps.{IsHandedOn, Goes, IsNamed, IsJoined, HandsOn}
use Rattle.rr_space.proofs.Renaming.{mapped_at, map_at, contains_map_back}
use Rattle.rr_space.proofs.Frames.{owner_same, owner_refl, owner_cases, within_same, object_same, reads_kept, sound_kept}

pub append_cases : {A : Type 0} (xs ys : List A) (i : ℕ) (y : A) → slice_get (xs ++ ys) i ≡ Some y → (slice_get xs i ≡ Some y) ⊎ ((j : ℕ) × (i ≡ length xs + j) × (slice_get ys j ≡ Some y))
append_cases [] ys i y e = inr (i, omega arith, e)
append_cases (x ∷ xs) ys zero y e = inl e
append_cases (x ∷ xs) ys (suc i) y e = ⊎_elim (λ q. inl q) (λ q. inr (q.0, let w = q.1 in omega arith, q.2)) (append_cases xs ys i y e)

pub append_left : {A : Type 0} (xs ys : List A) (i : ℕ) (y : A) → slice_get xs i ≡ Some y → slice_get (xs ++ ys) i ≡ Some y
append_left [] ys i y e = absurd (none-some y e)
append_left (x ∷ xs) ys zero y e = e
append_left (x ∷ xs) ys (suc i) y e = append_left xs ys i y e

pub append_right : {A : Type 0} (xs ys : List A) (j k : ℕ) (y : A) → k ≡ length xs + j → slice_get ys j ≡ Some y → slice_get (xs ++ ys) k ≡ Some y
append_right [] ys j k y w e = ap (slice_get ys) (let v : k ≡ j = omega arith in v) ∙ e
append_right (x ∷ xs) ys j zero y w e = absurd (omega arith)
append_right (x ∷ xs) ys j (suc k) y w e = append_right xs ys j k y (omega arith) e

-- two renamings in turn
pub composed : (f g h : Name → Name) (ts : List (Label × Value)) → ((l : Label) (x : Value) → Contains ts (l, x) → renamed f (renamed g x) ≡ renamed h x)
    → map (renamed_triple f) (map (renamed_triple g) ts) ≡ map (renamed_triple h) ts
composed f g h [] same = refl
composed f g h (t ∷ ts) same =
    ap (λ v. (t.0, v) ∷ map (renamed_triple f) (map (renamed_triple g) ts)) (same t.0 t.1 (0, omega arith, refl))
    ∙ ap (λ us. renamed_triple h t ∷ us) (composed f g h ts (λ l x has. same l x (suc has.0, let lt = has.1 in omega arith, has.2)))

abbrev pub set_names : Naming → Owner → List ℕ → Naming
set_names names b ns h = if owner_eq h b then ns else names h

pub names_of_set : (names : Naming) (b : Owner) (ns : List ℕ) → set_names names b ns b ≡ ns
names_of_set names b ns = ap (λ v. if v then ns else names b) (owner_refl b)

pub names_of_others : (names : Naming) (b : Owner) (ns : List ℕ) (h : Owner) → (h ≡ b → ⊥) → set_names names b ns h ≡ names h
names_of_others names b ns h differ = by (owner_eq h b) refl
  where
    by : (v : Bool) → owner_eq h b ≡ v → set_names names b ns h ≡ names h
    by true p = absurd (differ (owner_same h b p))
    by false p = ap (λ v. if v then ns else names h) p

abbrev pub turned : Owner → Owner → Owned → Owned
turned a b x = if owner_eq x.owner a then record { owner = b; object = x.object } else x

pub turned_same : (a b : Owner) (x : Owned) → x.owner ≡ a → turned a b x ≡ record { owner = b; object = x.object }
turned_same a b x e = ap (λ v. if v then record { owner = b; object = x.object } else x) (ap (λ o. owner_eq o a) e ∙ owner_refl a)

pub turned_other : (a b : Owner) (x : Owned) → (x.owner ≡ a → ⊥) → turned a b x ≡ x
turned_other a b x differ = by (owner_eq x.owner a) refl
  where
    by : (v : Bool) → owner_eq x.owner a ≡ v → turned a b x ≡ x
    by true p = absurd (differ (owner_same x.owner a p))
    by false p = ap (λ v. if v then record { owner = b; object = x.object } else x) p

-- what an option has under a map
pub some_back : {A B : Type 0} (f : A → B) (o : Option A) (y : B) → option_map f o ≡ Some y → (x : A) × (o ≡ Some x) × (f x ≡ y)
some_back f None y e = absurd (none-some y e)
some_back f (Some x) y e = (x, refl, same_Some (f x) y e)

module _ (a b : Owner) (os : List Object) (s : List Slot) (old new : Layout) (names : Naming) (bound : ℕ) (g : Objects)
    (G : Goes a b os s old new) (R : IsReading old names bound g)
    (ns : List ℕ) (ns_size : length ns ≡ length s) (ns_is : (i : ℕ) (x : Slot) → slice_get s i ≡ Some x → (old b ≡ Some s) × (ns ≡ names b)) where
  ra : Reads old names g a (map Here os)
  ra = R.reads a (map Here os) G.from

  m2 : set_names names b (ns ++ names a) b ≡ ns ++ names a
  m2 = names_of_set names b (ns ++ names a)

  shared : (c : ℕ) → set_names names b (ns ++ names a) (Shared c) ≡ names (Shared c)
  shared c = names_of_others names b (ns ++ names a) (Shared c) (λ e. G.unshared_b c (sym e))

  left_name : (i : ℕ) → i < length s → slice_index (set_names names b (ns ++ names a) b) i ≡ slice_index ns i
  left_name i lt = ap (λ l. slice_index l i) m2 ∙ get_or_append_left ns (names a) 0 i (let w = ns_size in omega arith)

  right_name : (i j : ℕ) → i ≡ length s + j → slice_index (set_names names b (ns ++ names a) b) i ≡ slice_index (names a) j
  right_name i j e = ap (λ l. slice_index l i) m2 ∙ ap (slice_index (ns ++ names a)) (let w = ns_size in let v : i ≡ length ns + j = omega arith in v) ∙ get_or-append-add ns (names a) j 0

  places : (c p : ℕ) → HasPlace old c p → HasPlace new c p
  places c p (u, o, e, at) = (u, o, G.rest (Shared c) (λ q. G.unshared_a c (sym q)) (λ q. G.unshared_b c (sym q)) ∙ e, at)

  -- a value of a's table has behind b's old slots the name that it had
  gone_same : (x : Value) → IsInLayout old (map Here os) x → renamed (name_in (set_names names b (ns ++ names a)) b) (renamed (behind (length s)) x) ≡ renamed (name_in names a) x
  gone_same (Plain n) w = refl
  gone_same (At (Own i)) w = ap (λ n. At (Own n)) (right_name (length s + i) i refl)
  gone_same (At (Published c p)) w = ap (λ l. At (Own (slice_index l p))) (shared c)

  gone_object : (j : ℕ) (o p : Object) → slice_get os j ≡ Some p → here_behind (length s) p ≡ Here o → named (set_names names b (ns ++ names a)) b o ≡ named names a p
  gone_object j o p at is =
      let same : renamed_object (behind (length s)) p ≡ o = cc in
      ap (named (set_names names b (ns ++ names a)) b) (sym same)
      ∙ ap (λ ts. record p { triples = ts }) (composed (name_in (set_names names b (ns ++ names a)) b) (behind (length s)) (name_in names a) p.triples
      (λ l x has. gone_same x ((R.sound a (map Here os) G.from).within j p l x (map_at Here os j p at) has)))

  -- where b's new table has an object
  pub data Found (i : ℕ) (o : Object) : Type 0 where
    was : (at : slice_get s i ≡ Some (Here o)) → Found i o
    came : (j : ℕ) (p : Object) (e : i ≡ length s + j) (at : slice_get os j ≡ Some p) (is : here_behind (length s) p ≡ Here o) → Found i o

  found : (i : ℕ) (o : Object) → slice_get (s ++ map (here_behind (length s)) os) i ≡ Some (Here o) → Found i o
  found i o at = ⊎_elim (λ q. was q) (λ q. let m = mapped_at (here_behind (length s)) os q.0 (Here o) q.2 in came q.0 m.0 q.1 m.1 m.2)
      (append_cases s (map (here_behind (length s)) os) i (Here o) at)

  name_was : (i : ℕ) (o : Object) → slice_get s i ≡ Some (Here o) → slice_index (set_names names b (ns ++ names a) b) i ≡ slice_index (names b) i
  name_was i o at = left_name i (slice_get_within s i (Here o) at) ∙ ap (λ l. slice_index l i) (ns_is i (Here o) at).1

  here_was : (i : ℕ) (o : Object) → slice_get s i ≡ Some (Here o) → g (slice_index (names b) i) ≡ Some (record { owner = b; object = named names b o })
  here_was i o at = (R.reads b s (ns_is i (Here o) at).0).here i o at

  g2_turned : (n : ℕ) (x : Owned) → g n ≡ Some x → x.owner ≡ a → option_map (turned a b) (g n) ≡ Some (record { owner = b; object = x.object })
  g2_turned n x e w = ap (option_map (turned a b)) e ∙ ap (λ y. Some y) (turned_same a b x w)

  g2_kept : (n : ℕ) (x : Owned) → g n ≡ Some x → (x.owner ≡ a → ⊥) → option_map (turned a b) (g n) ≡ Some x
  g2_kept n x e w = ap (option_map (turned a b)) e ∙ ap (λ y. Some y) (turned_other a b x w)

  same_owner : (x y : Owned) → Some x ≡ Some y → x.owner ≡ y.owner
  same_owner x y e = ap (λ (z : Owned). z.owner) (same_Some x y e)

  name_came : (i j : ℕ) (o p : Object) → i ≡ length s + j → slice_get os j ≡ Some p → here_behind (length s) p ≡ Here o
      → (slice_index (set_names names b (ns ++ names a) b) i ≡ slice_index (names a) j) × (g (slice_index (names a) j) ≡ Some (record { owner = a; object = named names a p }))
  name_came i j o p e at is = (right_name i j e, ra.here j p (map_at Here os j p at))

  here_by : (i : ℕ) (o : Object) → Found i o → option_map (turned a b) (g (slice_index (set_names names b (ns ++ names a) b) i)) ≡ Some (record { owner = b; object = named (set_names names b (ns ++ names a)) b o })
  here_by i o (was at) =
      let same : named (set_names names b (ns ++ names a)) b o ≡ named names b o =
      object_same old s b b names (set_names names b (ns ++ names a)) i o
      (λ j lt. left_name j lt ∙ ap (λ l. slice_index l j) (ns_is i (Here o) at).1) (λ c u e. shared c) (R.sound b s (ns_is i (Here o) at).0) at in
      ap (λ n. option_map (turned a b) (g n)) (name_was i o at)
      ∙ g2_kept (slice_index (names b) i) (record { owner = b; object = named names b o }) (here_was i o at) (λ e. G.apart (sym e))
      ∙ ap (λ p. Some (record { owner = b; object = p })) (sym same)
  here_by i o (came j p e at is) =
      let q = name_came i j o p e at is in
      ap (λ n. option_map (turned a b) (g n)) q.0
      ∙ g2_turned (slice_index (names a) j) (record { owner = a; object = named names a p }) q.1 refl
      ∙ ap (λ p. Some (record { owner = b; object = p })) (sym (gone_object j o p at is))

  one_by : (i j : ℕ) (o p : Object) → Found i o → Found j p → slice_index (set_names names b (ns ++ names a) b) i ≡ slice_index (set_names names b (ns ++ names a) b) j → i ≡ j
  one_by i j o p (was at) (was bt) e = (R.reads b s (ns_is i (Here o) at).0).one i j o p at bt (sym (name_was i o at) ∙ e ∙ name_was j p bt)
  one_by i j o p (was at) (came k q w bt is) e =
      let c = name_came j k p q w bt is in
      absurd (G.apart (same_owner _ _ (sym c.1 ∙ ap g (sym c.0 ∙ sym e ∙ name_was i o at) ∙ here_was i o at)))
  one_by i j o p (came k q w at is) (was bt) e =
      let c = name_came i k o q w at is in
      absurd (G.apart (same_owner _ _ (sym c.1 ∙ ap g (sym c.0 ∙ e ∙ name_was j p bt) ∙ here_was j p bt)))
  one_by i j o p (came k q w at is) (came m r v bt iz) e =
      let c = name_came i k o q w at is in
      let d = name_came j m p r v bt iz in
      let same : k ≡ m = ra.one k m q r (map_at Here os k q at) (map_at Here os m r bt) (sym c.0 ∙ e ∙ d.0) in omega arith

  led_by : (i c p : ℕ) → slice_get (s ++ map (here_behind (length s)) os) i ≡ Some (Led c p)
      → (slice_get s i ≡ Some (Led c p))
  led_by i c p at = ⊎_elim (λ q. q) (λ q. let m = mapped_at (here_behind (length s)) os q.0 (Led c p) q.2 in absurd (differ m.0 m.2))
      (append_cases s (map (here_behind (length s)) os) i (Led c p) at)
    where
      differ : (o : Object) → here_behind (length s) o ≡ Led c p → ⊥
      differ o e = cc

  reads_b : Reads new (set_names names b (ns ++ names a)) (λ n. option_map (turned a b) (g n)) b (s ++ map (here_behind (length s)) os)
  reads_b = record {
    size = ap length m2 ∙ (let l1 = length-append ns (names a) in let l2 = length-append s (map (here_behind (length s)) os) in let l3 = length-map os (here_behind (length s)) in let l4 = ra.size in let l5 = length-map os Here in let l6 = ns_size in omega (arith, l1, l2, l3, l4, l5));
    here = λ i o at. here_by i o (found i o at);
    led = λ i c p at. let w = led_by i c p at in let old_led = (R.reads b s (ns_is i (Led c p) w).0).led i c p w in
        left_name i (slice_get_within s i (Led c p) w) ∙ ap (λ l. slice_index l i) (ns_is i (Led c p) w).1 ∙ old_led ∙ ap (λ l. slice_index l p) (sym (shared c));
    one = λ i j o p at bt e. one_by i j o p (found i o at) (found j p bt) e;
  }

  within_left : (x : Value) → IsInLayout old s x → IsInLayout new (s ++ map (here_behind (length s)) os) x
  within_left (Plain n) w = w
  within_left (At (Own i)) w = omega (arith, length-append s (map (here_behind (length s)) os))
  within_left (At (Published c p)) w = places c p w

  within_right : (x : Value) → IsInLayout old (map Here os) x → IsInLayout new (s ++ map (here_behind (length s)) os) (renamed (behind (length s)) x)
  within_right (Plain n) w = w
  within_right (At (Own i)) w = let l3 = length-map os (here_behind (length s)) in let l5 = length-map os Here in omega (arith, length-append s (map (here_behind (length s)) os), l3, l5)
  within_right (At (Published c p)) w = places c p w

  within_by : (i : ℕ) (o : Object) (l : Label) (x : Value) → Found i o → Contains o.triples (l, x) → IsInLayout new (s ++ map (here_behind (length s)) os) x
  within_by i o l x (was at) has = within_left x ((R.sound b s (ns_is i (Here o) at).0).within i o l x at has)
  within_by i o l x (came j p e at is) has =
      let same : o ≡ renamed_object (behind (length s)) p = cc in
      let r = contains_map_back (renamed_triple (behind (length s))) p.triples (l, x) (subst (λ (q : Object). Contains q.triples (l, x)) same has) in
      let w = within_right r.0.1 ((R.sound a (map Here os) G.from).within j p r.0.0 r.0.1 (map_at Here os j p at) r.1) in
      subst (λ v. IsInLayout new (s ++ map (here_behind (length s)) os) v) (ap (λ (t : Label × Value). t.1) r.2) w

  sound_b : IsSound new (s ++ map (here_behind (length s)) os)
  sound_b = record {
    within = λ i o l x at has. within_by i o l x (found i o at) has;
    led = λ i c p at. let w = led_by i c p at in places c p ((R.sound b s (ns_is i (Led c p) w).0).led i c p w);
  }

  -- which table of the new ones
  pub data Which (h : Owner) (t : List Slot) : Type 0 where
    the_new : (e : h ≡ b) (is : t ≡ s ++ map (here_behind (length s)) os) → Which h t
    an_old : (not_a : h ≡ a → ⊥) (not_b : h ≡ b → ⊥) (is : old h ≡ Some t) → Which h t

  which : (h : Owner) (t : List Slot) → new h ≡ Some t → Which h t
  which h t e = ⊎_elim
      (λ p. absurd (none-some t (sym G.gone ∙ ap new (sym p) ∙ e)))
      (λ p. ⊎_elim (λ q. the_new q (same_Some _ _ (sym e ∙ ap new q ∙ G.come))) (λ q. an_old p q (sym (G.rest h p q) ∙ e)) (owner_cases h b))
      (owner_cases h a)

  reads_by : (h : Owner) (t : List Slot) → Which h t → Reads new (set_names names b (ns ++ names a)) (λ n. option_map (turned a b) (g n)) h t
  reads_by h t (the_new e is) = subst (λ k. Reads new (set_names names b (ns ++ names a)) (λ n. option_map (turned a b) (g n)) k t) (sym e)
      (subst (λ u. Reads new (set_names names b (ns ++ names a)) (λ n. option_map (turned a b) (g n)) b u) (sym is) reads_b)
  reads_by h t (an_old not_a not_b is) = reads_kept old new names (set_names names b (ns ++ names a)) g (λ n. option_map (turned a b) (g n)) h t (R.sound h t is)
      (names_of_others names b (ns ++ names a) h not_b) (λ c u e. shared c) (λ n o e. g2_kept n (record { owner = h; object = o }) e not_a) (R.reads h t is)

  sound_by : (h : Owner) (t : List Slot) → Which h t → IsSound new t
  sound_by h t (the_new e is) = subst (IsSound new) (sym is) sound_b
  sound_by h t (an_old not_a not_b is) = sound_kept old new t places (R.sound h t is)

  only_by : (n : ℕ) (x y : Owned) → g n ≡ Some x → turned a b x ≡ y → Stands new (set_names names b (ns ++ names a)) n y.owner
  only_by n x y e is = ⊎_elim from_a (λ p. ⊎_elim (from_b p) (from_rest p) (owner_cases x.owner b)) (owner_cases x.owner a)
    where
      st : Stands old names n x.owner
      st = R.only n x e

      kept_owner : (x.owner ≡ a → ⊥) → x.owner ≡ y.owner
      kept_owner p = ap (λ (z : Owned). z.owner) (sym (turned_other a b x p) ∙ is)

      from_a : x.owner ≡ a → Stands new (set_names names b (ns ++ names a)) n y.owner
      from_a p =
          let t_is : st.table ≡ map Here os = same_Some _ _ (sym st.is_table ∙ ap old p ∙ G.from) in
          let m = mapped_at Here os st.place (Here st.raw) (ap (λ t. slice_get t st.place) (sym t_is) ∙ st.is_raw) in
          subst (λ k. Stands new (set_names names b (ns ++ names a)) n k) (ap (λ (z : Owned). z.owner) (sym (turned_same a b x p) ∙ is))
          (record {
            table = s ++ map (here_behind (length s)) os;
            place = length s + st.place;
            raw = renamed_object (behind (length s)) m.0;
            is_table = G.come;
            is_raw = append_right s (map (here_behind (length s)) os) st.place (length s + st.place) _ refl (map_at (here_behind (length s)) os st.place m.0 m.1);
            is_name = right_name (length s + st.place) st.place refl ∙ ap (λ h. slice_index (names h) st.place) (sym p) ∙ st.is_name;
          })

      from_b : (x.owner ≡ a → ⊥) → x.owner ≡ b → Stands new (set_names names b (ns ++ names a)) n y.owner
      from_b p q = ⊎_elim
          (λ there.
          let t_is : st.table ≡ s = same_Some _ _ (sym st.is_table ∙ ap old q ∙ there) in
          let at = ap (λ t. slice_get t st.place) (sym t_is) ∙ st.is_raw in
          subst (λ k. Stands new (set_names names b (ns ++ names a)) n k) (sym q ∙ kept_owner p)
          (record {
            table = s ++ map (here_behind (length s)) os;
            place = st.place;
            raw = st.raw;
            is_table = G.come;
            is_raw = append_left s (map (here_behind (length s)) os) st.place (Here st.raw) at;
            is_name = name_was st.place st.raw at ∙ ap (λ h. slice_index (names h) st.place) (sym q) ∙ st.is_name;
          }))
          (λ none. absurd (none-some st.table (sym none.0 ∙ ap old (sym q) ∙ st.is_table)))
          G.to

      from_rest : (x.owner ≡ a → ⊥) → (x.owner ≡ b → ⊥) → Stands new (set_names names b (ns ++ names a)) n y.owner
      from_rest p q = subst (λ k. Stands new (set_names names b (ns ++ names a)) n k) (kept_owner p)
          (record {
            table = st.table;
            place = st.place;
            raw = st.raw;
            is_table = G.rest x.owner p q ∙ st.is_table;
            is_raw = st.is_raw;
            is_name = ap (λ l. slice_index l st.place) (names_of_others names b (ns ++ names a) x.owner q) ∙ st.is_name;
          })

  reading : IsReading new (set_names names b (ns ++ names a)) bound (λ n. option_map (turned a b) (g n))
  reading = record {
    sound = λ h t e. sound_by h t (which h t e);
    reads = λ h t e. reads_by h t (which h t e);
    only = λ n y e. let q = some_back (turned a b) (g n) y e in only_by n q.0 y q.1 q.2;
    bounded = λ n y e. let q = some_back (turned a b) (g n) y e in R.bounded n q.0 q.1;
  }

  joined : IsJoined old a b os s names (set_names names b (ns ++ names a))
  joined = record {
    stand = stand;
    come = λ i. right_name (length s + i) i refl;
    roots = λ v w. within_same old s b b names (set_names names b (ns ++ names a)) v stand (λ c u e. shared c) w;
    root = gone_same;
  }
    where
      stand : (i : ℕ) → i < length s → slice_index (set_names names b (ns ++ names a) b) i ≡ slice_index (names b) i
      stand i lt = left_name i lt ∙ ap (λ l. slice_index l i) (ns_is i (get_or s i (Led 0 0)) (slice_get-get_or s i (Led 0 0) lt)).1

  pub handed_on : (names2 : Naming) × (g2 : Objects) × IsReading new names2 bound g2 × IsNamed b names names2 × IsHandedOn a b g g2 × IsJoined old a b os s names names2
  handed_on = (
    set_names names b (ns ++ names a),
    (λ n. option_map (turned a b) (g n)),
    reading,
    record { rest = λ h differ. names_of_others names b (ns ++ names a) h differ },
    record { turned = g2_turned; kept = g2_kept; none = λ n e. ap (option_map (turned a b)) e },
    joined,
  )

pub hands_on : HandsOn
hands_on a b os s old new names bound g G R = ⊎_elim
    (λ e. handed_on a b os s old new names bound g G R (names b) (R.reads b s e).size (λ i x at. (e, refl)))
    (λ p. handed_on a b os s old new names bound g G R [] (ap length (sym p.1)) (λ i x at. absurd (none-some x (ap (λ t. slice_get t i) (sym p.1) ∙ at))))
    G.to
