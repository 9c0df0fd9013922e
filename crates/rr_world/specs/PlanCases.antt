-- The cases of the graph machine that plan what is to be published, publish it, and promote it.
use Rattle.std.specs.Prelude.{◌≡◌, ◌↔◌, ℕ, ◌+◌, List, [], ◌∷◌, ◌++◌, length, Option, Some, None, Contains, slice_set}
use Rattle.rr_base.specs.declared.name.RactorNo.{RactorNo as Number}
use Rattle.rr_base.specs.declared.event.StoreEvent.TheVariants as store
use Rattle.rr_space.specs.Graph.{Own, Value, At, IsAt, Reaches, IsShareable, IsFreeOfShells}
use Rattle.rr_space.specs.Readings.{Space, Owned, whole}
use Rattle.rr_space.specs.Steps.{MayBePublished, IsPublished}
use Rattle.rr_world.specs.States.{Actor, State, with_archive}
use Rattle.rr_world.specs.ConstantCases.{HasStoreRoom}

-- what is kept in the hand of a plan of these: nothing where there are none
abbrev pub kept_names : List ℕ → Option (List ℕ)
kept_names [] = None
kept_names (n ∷ ns) = Some (n ∷ ns)

-- the object is the ractor's own, shareable, and the value leads to it
pub record IsToPublish (k : ℕ) (x : Value) (s : State) (n : ℕ) : Type 0 where
  pub owned : Owned
  pub here : s.objects n ≡ Some owned
  pub own : owned.owner ≡ Space k
  pub reached : Reaches (whole s.objects) x (Own n)
  pub shareable : IsShareable (whole s.objects) (At (Own n))

-- plan: the value leads to no shell; the plan comes into the hand with exactly the ractor's own shareable objects that the value
-- leads to, each once, and where there are none the hand stays empty. The graph stays
pub record IsPlannedAs (k : ℕ) (a : Actor) (x : Value) (ns : List ℕ) (s t : State) : Type 0 where
  pub free : IsFreeOfShells (whole s.objects) x
  pub exact : (n : ℕ) → Contains ns n ↔ IsToPublish k x s n
  pub distinct : (n i j : ℕ) → IsAt ns n i → IsAt ns n j → i ≡ j
  pub objects : (n : ℕ) → t.objects n ≡ s.objects n
  pub ractors : t.ractors ≡ slice_set s.ractors k (record a { plan = kept_names ns })
  pub post : t.post ≡ s.post

-- publish: the objects of the plan, which may be published, get the owner Shared, in the cluster of the next number, and the
-- history tells of it. The plan stays in the hand as a published one
pub record IsPublishedAs (who : Number) (k : ℕ) (a : Actor) (ns : List ℕ) (c : ℕ) (s t : State) : Type 0 where
  pub number : c ≡ s.post.archive.clusters
  pub room : HasStoreRoom s.post.archive
  pub may : MayBePublished k ns s.objects
  pub objects : IsPublished c ns s.objects t.objects
  pub ractors : t.ractors ≡ slice_set s.ractors k (record a { plan = None; published = Some ns })
  pub post : t.post ≡ with_archive s.post (record s.post.archive { clusters = c + 1; history = s.post.archive.history ++ store.Published c (length ns) who ∷ [] })

-- promote: the published plan goes, and the graph stays
pub record IsPromotedBy (k : ℕ) (a : Actor) (s t : State) : Type 0 where
  pub objects : (n : ℕ) → t.objects n ≡ s.objects n
  pub ractors : t.ractors ≡ slice_set s.ractors k (record a { published = None })
  pub post : t.post ≡ s.post
