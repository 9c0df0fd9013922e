-- What a step does to the whole graph and to the tables.
use Rattle.std.specs.Prelude.{◌≡◌, ℕ, ◌+◌, ◌<◌, ◌≤◌, ◌⊎◌, true, nat_eq, cond, List, [], ◌∷◌, ◌++◌, map, length, None, Some, slice_get, slice_index, Contains}
use Rattle.rr_space.specs.Graph.{Name, Own, Published, Value, Plain, At, Label, Object, Reaches, IsSolid, IsPart, shell}
use Rattle.rr_space.specs.Tables.{Slot, Here, Led, resolve_object}
use Rattle.rr_space.specs.Graph.{Matches, IsAt}
use Rattle.rr_space.specs.Tables.{renamed, renamed_object, behind, here_behind}
use Rattle.rr_space.specs.Readings.{Owner, Space, Hand, Shared, Owned, Objects, Naming, Layout, HasPlace, IsInLayout, IsSound, IsReading, IsShared, named, name_in, whole}
use Rattle.rr_space.specs.Graph.{IsAlike, Paired}
use Rattle.rr_space.specs.Views.{emptied}

-- the owner of what a has turns to b, and nothing else changes
pub record IsHandedOn (a b : Owner) (old new : Objects) : Type 0 where
  pub turned : (n : ℕ) (x : Owned) → old n ≡ Some x → x.owner ≡ a → new n ≡ Some (record { owner = b; object = x.object })
  pub kept : (n : ℕ) (x : Owned) → old n ≡ Some x → (x.owner ≡ a → ⊥) → new n ≡ Some x
  pub none : (n : ℕ) → old n ≡ None → new n ≡ None

-- what a had vanishes, and nothing else changes
pub record IsDropped (a : Owner) (old new : Objects) : Type 0 where
  pub gone : (n : ℕ) (x : Owned) → old n ≡ Some x → x.owner ≡ a → new n ≡ None
  pub kept : (n : ℕ) (x : Owned) → old n ≡ Some x → (x.owner ≡ a → ⊥) → new n ≡ Some x
  pub none : (n : ℕ) → old n ≡ None → new n ≡ None

-- the table of a, which has no forwards, goes behind the table s of b
pub record Goes (a b : Owner) (os : List Object) (s : List Slot) (old new : Layout) : Type 0 where
  pub from : old a ≡ Some (map Here os)
  pub to : (old b ≡ Some s) ⊎ ((old b ≡ None) × (s ≡ []))
  pub gone : new a ≡ None
  pub come : new b ≡ Some (s ++ map (here_behind (length s)) os)
  pub rest : (h : Owner) → (h ≡ a → ⊥) → (h ≡ b → ⊥) → new h ≡ old h
  pub apart : a ≡ b → ⊥
  pub unshared_a : (c : ℕ) → a ≡ Shared c → ⊥
  pub unshared_b : (c : ℕ) → b ≡ Shared c → ⊥

-- one list of names is another, and all others stay
pub record IsNamed (b : Owner) (old new : Naming) : Type 0 where
  pub rest : (h : Owner) → (h ≡ b → ⊥) → new h ≡ old h

-- the old names of b's table stand, and behind them what came from a has the names that it had; so b's old roots stay, and
-- a value of a's table joins them
pub record IsJoined (tables : Layout) (a b : Owner) (os : List Object) (s : List Slot) (old new : Naming) : Type 0 where
  pub stand : (i : ℕ) → i < length s → slice_index (new b) i ≡ slice_index (old b) i
  pub come : (i : ℕ) → slice_index (new b) (length s + i) ≡ slice_index (old a) i
  pub roots : (v : Value) → IsInLayout tables s v → renamed (name_in new b) v ≡ renamed (name_in old b) v
  pub root : (v : Value) → IsInLayout tables (map Here os) v → renamed (name_in new b) (renamed (behind (length s)) v) ≡ renamed (name_in old a) v

abbrev pub HandsOn : Type 0
HandsOn = (a b : Owner) (os : List Object) (s : List Slot) (old new : Layout) (names : Naming) (bound : ℕ) (g : Objects)
    → Goes a b os s old new → IsReading old names bound g
    → (names2 : Naming) × (g2 : Objects) × IsReading new names2 bound g2 × IsNamed b names names2 × IsHandedOn a b g g2 × IsJoined old a b os s names names2

-- the named objects get the owner Shared, in the cluster c, and nothing else changes
pub record IsPublished (c : ℕ) (ns : List ℕ) (old new : Objects) : Type 0 where
  pub turned : (n : ℕ) (x : Owned) → Contains ns n → old n ≡ Some x → new n ≡ Some (record { owner = Shared c; object = x.object })
  pub kept : (n : ℕ) → (Contains ns n → ⊥) → new n ≡ old n

-- the named slots of r become forwards to the places of a cluster whose objects match theirs
pub record Publishes (r c : ℕ) (places : List ℕ) (s s2 : List Slot) (os : List Object) (old new : Layout) : Type 0 where
  pub space : old (Space r) ≡ Some s
  pub vacant : old (Shared c) ≡ None
  pub space2 : new (Space r) ≡ Some s2
  pub cluster : new (Shared c) ≡ Some (map Here os)
  pub rest : (h : Owner) → (h ≡ Space r → ⊥) → (h ≡ Shared c → ⊥) → new h ≡ old h
  pub size : length s2 ≡ length s
  pub led : (n i : ℕ) → IsAt places n i → slice_get s2 n ≡ Some (Led c i)
  pub others : (n : ℕ) → (Contains places n → ⊥) → slice_get s2 n ≡ slice_get s n
  pub distinct : (n i j : ℕ) → IsAt places n i → IsAt places n j → i ≡ j
  pub count : length places ≡ length os
  pub same : (n i : ℕ) (p : Object) → IsAt places n i → slice_get os i ≡ Some p → (o : Object) × (slice_get s n ≡ Some (Here o)) × Matches (IsAt places) (resolve_object s o) p
  pub shut : (i : ℕ) (p : Object) (l : Label) (m : ℕ) → slice_get os i ≡ Some p → Contains p.triples (l, At (Own m)) → m < length os
  pub outward : (i : ℕ) (p : Object) (l : Label) (d q : ℕ) → slice_get os i ≡ Some p → Contains p.triples (l, At (Published d q)) → HasPlace new d q

abbrev pub PublishingIsTurning : Type 0
PublishingIsTurning = (r c : ℕ) (places : List ℕ) (s s2 : List Slot) (os : List Object) (old new : Layout) (names : Naming) (bound : ℕ) (g : Objects)
    → Publishes r c places s s2 os old new → IsReading old names bound g
    → (names2 : Naming) × (g2 : Objects) × IsReading new names2 bound g2 × IsNamed (Shared c) names names2
    × IsPublished c (map (slice_index (names (Space r))) places) g g2

-- the table s of h becomes s2: objects stay objects, forwards stay forwards, and k objects come behind
pub record Remakes (h : Owner) (k : ℕ) (s s2 : List Slot) (old new : Layout) : Type 0 where
  pub was : (old h ≡ Some s) ⊎ ((old h ≡ None) × (s ≡ []))
  pub now : new h ≡ Some s2
  pub rest : (j : Owner) → (j ≡ h → ⊥) → new j ≡ old j
  pub unshared : (c : ℕ) → h ≡ Shared c → ⊥
  pub size : length s2 ≡ length s + k
  pub kept_here : (i : ℕ) (o : Object) → slice_get s i ≡ Some (Here o) → (p : Object) × (slice_get s2 i ≡ Some (Here p))
  pub kept_led : (i c p : ℕ) → slice_get s i ≡ Some (Led c p) → slice_get s2 i ≡ Some (Led c p)
  pub fresh_here : (i c p : ℕ) → slice_get s2 i ≡ Some (Led c p) → i < length s
  pub sound : IsSound old s2

-- what h has is its new table under old and new names, and nothing else changes
pub record IsRemade (h : Owner) (s s2 : List Slot) (names names2 : Naming) (old new : Objects) : Type 0 where
  pub others : (n : ℕ) (x : Owned) → old n ≡ Some x → (x.owner ≡ h → ⊥) → new n ≡ Some x
  pub own : (i : ℕ) (o : Object) → slice_get s2 i ≡ Some (Here o) → new (slice_index (names2 h) i) ≡ Some (record { owner = h; object = named names2 h o })
  pub kept : (i : ℕ) (x : Slot) → slice_get s i ≡ Some x → slice_index (names2 h) i ≡ slice_index (names h) i
  pub fresh : (i : ℕ) (x : Slot) → slice_get s2 i ≡ Some x → length s ≤ i → old (slice_index (names2 h) i) ≡ None

abbrev pub RemakingIsAStep : Type 0
RemakingIsAStep = (h : Owner) (k : ℕ) (s s2 : List Slot) (old new : Layout) (names : Naming) (bound : ℕ) (g : Objects)
    → Remakes h k s s2 old new → IsReading old names bound g
    → (names2 : Naming) × (g2 : Objects) × IsReading new names2 (bound + k) g2 × IsNamed h names names2 × IsRemade h s s2 names names2 g g2

-- the table of a is gone, and nothing else changes
pub record Goneby (a : Owner) (old new : Layout) : Type 0 where
  pub gone : new a ≡ None
  pub rest : (h : Owner) → (h ≡ a → ⊥) → new h ≡ old h
  pub unshared : (c : ℕ) → a ≡ Shared c → ⊥

abbrev pub DroppingIsAStep : Type 0
DroppingIsAStep = (a : Owner) (old new : Layout) (names : Naming) (bound : ℕ) (g : Objects) → Goneby a old new → IsReading old names bound g
    → (g2 : Objects) × IsReading new names bound g2 × IsDropped a g g2

-- some of the roots leads to the object
abbrev pub IsReachedFrom : Objects → List Value → ℕ → Type 0
IsReachedFrom g roots n = (v : Value) × Contains roots v × Reaches (whole g) v (Own n)

-- the value is an immediate, an object that the roots led to, or a new one
abbrev pub IsNewValue : Objects → List Value → Value → Type 0
IsNewValue old roots (Plain i) = Unit {0}
IsNewValue old roots (At (Own n)) = IsReachedFrom old roots n ⊎ (old n ≡ None)
IsNewValue old roots (At (Published c p)) = ⊥

-- a change by the ractor r, which had these roots: its objects that are neither frozen nor shells may be others, new ones
-- of it may come, and each value that was not there is an immediate, one that r reached, or new
pub record IsChange (r : ℕ) (roots : List Value) (old new : Objects) : Type 0 where
  pub others : (n : ℕ) (x : Owned) → old n ≡ Some x → (x.owner ≡ Space r → ⊥) → new n ≡ Some x
  pub closed : (n : ℕ) (x : Owned) → old n ≡ Some x → (x.object.frozen ≡ true) ⊎ (x.object.kind ≡ shell) → new n ≡ Some x
  pub stays : (n : ℕ) (x : Owned) → old n ≡ Some x → x.owner ≡ Space r → (o : Object) × (new n ≡ Some (record { owner = Space r; object = o }))
  pub fresh : (n : ℕ) (y : Owned) → old n ≡ None → new n ≡ Some y → y.owner ≡ Space r
  pub values : (n : ℕ) (y : Owned) (l : Label) (v : Value) → new n ≡ Some y → y.owner ≡ Space r → Contains y.object.triples (l, v)
      → IsNewValue old roots v ⊎ ((x : Owned) × (k : Label) × (old n ≡ Some x) × Contains x.object.triples (k, v))

-- a copy of v: w is alike to it, the part of w are new objects of the hand of r, and nothing else changes
pub record IsCopied (r : ℕ) (v w : Value) (left right : List Name) (old new : Objects) : Type 0 where
  pub alike : IsAlike (whole old) v (whole new) w (Paired left right)
  pub part : (n : ℕ) → IsPart (whole new) w (Own n) → old n ≡ None
  pub fresh : (n : ℕ) (y : Owned) → old n ≡ None → new n ≡ Some y → (y.owner ≡ Hand r) × IsPart (whole new) w (Own n)
  pub kept : (n : ℕ) (x : Owned) → old n ≡ Some x → new n ≡ Some x

-- a move of v: the same, and each object of the part of v is a shell under its old name and owner
pub record IsMoved (r : ℕ) (v w : Value) (left right : List Name) (old new : Objects) : Type 0 where
  pub alike : IsAlike (whole old) v (whole new) w (Paired left right)
  pub part : (n : ℕ) → IsPart (whole new) w (Own n) → old n ≡ None
  pub fresh : (n : ℕ) (y : Owned) → old n ≡ None → new n ≡ Some y → (y.owner ≡ Hand r) × IsPart (whole new) w (Own n)
  pub shells : (n : ℕ) (x : Owned) → IsPart (whole old) v (Own n) → old n ≡ Some x → new n ≡ Some (record { owner = x.owner; object = emptied })
  pub kept : (n : ℕ) (x : Owned) → (IsPart (whole old) v (Own n) → ⊥) → old n ≡ Some x → new n ≡ Some x

-- the name beside the first m of the second list; m itself where it is not there
abbrev pub name_beside : List ℕ → List ℕ → ℕ → ℕ
name_beside [] right m = m
name_beside (n ∷ left) [] m = m
name_beside (n ∷ left) (k ∷ right) m = cond (nat_eq m k) n (name_beside left right m)

abbrev pub old_name : List ℕ → List ℕ → Name → Name
old_name left right (Own m) = Own (name_beside left right m)
old_name left right (Published c p) = Published c p

-- the end of a move: each shell is again what its pair is, under the old names, and the hand's objects vanish
pub record IsUndone (r : ℕ) (left right : List ℕ) (old new : Objects) : Type 0 where
  pub back : (n m i : ℕ) (x y : Owned) → IsAt left n i → IsAt right m i → old n ≡ Some x → old m ≡ Some y
      → new n ≡ Some (record { owner = x.owner; object = renamed_object (old_name left right) y.object })
  pub gone : (m : ℕ) (y : Owned) → old m ≡ Some y → y.owner ≡ Hand r → new m ≡ None
  pub kept : (n : ℕ) (x : Owned) → old n ≡ Some x → (Contains left n → ⊥) → (x.owner ≡ Hand r → ⊥) → new n ≡ Some x
  pub none : (n : ℕ) → old n ≡ None → new n ≡ None

-- the named objects may be published: they are r's, frozen and no shells, and lead to one another, to shared objects and to
-- immediates
pub record MayBePublished (r : ℕ) (ns : List ℕ) (g : Objects) : Type 0 where
  pub own : (n : ℕ) → Contains ns n → (x : Owned) × (g n ≡ Some x) × (x.owner ≡ Space r) × IsSolid x.object
  pub shut : (n : ℕ) (x : Owned) (l : Label) (m : ℕ) → Contains ns n → g n ≡ Some x → Contains x.object.triples (l, At (Own m))
      → Contains ns m ⊎ ((y : Owned) × (g m ≡ Some y) × IsShared y.owner)
