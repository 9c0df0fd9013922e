-- The cases of the graph machine that set and get constants.
use Rattle.std.specs.Prelude.{◌≡◌, ℕ, ◌+◌, ◌≤◌, [], ◌∷◌, ◌++◌, length, Some, None, slice_set}
use Rattle.rr_base.specs.declared.name.RactorNo.{RactorNo as Number}
use Rattle.rr_base.specs.declared.fault.Fault.{Fault}
use Rattle.rr_base.specs.declared.fault.Fault.TheVariants as fault
use Rattle.rr_space.specs.Graph.{Value}
use Rattle.rr_world.specs.States.{Actor, Archive, Constant, Held, State, IsSame, constant_at}
use Rattle.rr_world.specs.States as constant
use Rattle.rr_base.specs.declared.event.StoreEvent.{StoreEvent}
use Rattle.rr_base.specs.declared.name.Sym.{Sym}

-- the history of the store has room for another event
abbrev pub HasStoreRoom : Archive → Type 0
HasStoreRoom a = length a.history + 1 ≤ a.limit

-- the main ractor is number 1
abbrev pub IsMain : Number → Type 0
IsMain who = who.0 ≡ 1

-- set: the constant has this, all others stay, and the history tells of it
pub record IsConstantSet (n : ℕ) (c : Constant) (e : StoreEvent Sym) (s t : State) : Type 0 where
  pub room : HasStoreRoom s.post.archive
  pub here : constant_at t.post.archive n ≡ Some c
  pub others : (m : ℕ) → (m ≡ n → ⊥) → constant_at t.post.archive m ≡ constant_at s.post.archive m
  pub clusters : t.post.archive.clusters ≡ s.post.archive.clusters
  pub history : t.post.archive.history ≡ s.post.archive.history ++ e ∷ []
  pub limit : t.post.archive.limit ≡ s.post.archive.limit
  pub inboxes : t.post.inboxes ≡ s.post.inboxes
  pub ports : t.post.ports ≡ s.post.ports
  pub objects : (m : ℕ) → t.objects m ≡ s.objects m
  pub ractors : t.ractors ≡ s.ractors

-- a refused set or publish: the history had no room, or a growth was refused; or, of a value of its own, another than the main ractor
-- set it; all is as it was
abbrev pub IsSetRefused : Fault → State → State → Type 0
IsSetRefused fault.HistoryFull s t = (HasStoreRoom s.post.archive → ⊥) × IsSame s t
IsSetRefused fault.Memory s t = HasStoreRoom s.post.archive × IsSame s t
IsSetRefused _ s t = ⊥

abbrev pub IsSetOwnRefused : Number → Fault → State → State → Type 0
IsSetOwnRefused who fault.HistoryFull s t = (HasStoreRoom s.post.archive → ⊥) × IsSame s t
IsSetOwnRefused who fault.Memory s t = HasStoreRoom s.post.archive × IsSame s t
IsSetOwnRefused who fault.NotShareable s t = HasStoreRoom s.post.archive × (IsMain who → ⊥) × IsSame s t
IsSetOwnRefused who _ s t = ⊥

-- get: the value of the constant joins the roots
pub record IsGot (k : ℕ) (a : Actor) (n : ℕ) (x : Value) (s t : State) : Type 0 where
  pub here : constant_at s.post.archive n ≡ Some (Held x)
  pub objects : (m : ℕ) → t.objects m ≡ s.objects m
  pub ractors : t.ractors ≡ slice_set s.ractors k (record a { roots = a.roots ++ x ∷ [] })
  pub post : t.post ≡ s.post

-- a refused get: the constant is the main ractor's own, or has nothing, or a growth was refused; all is as it was
abbrev pub IsGetRefused : Number → Sym → Fault → State → State → Type 0
IsGetRefused who name fault.NotMain s t = (constant_at s.post.archive name.0 ≡ Some constant.Own) × (IsMain who → ⊥) × IsSame s t
IsGetRefused who name (fault.Unknown n) s t = (n ≡ name) × (constant_at s.post.archive name.0 ≡ None) × IsSame s t
IsGetRefused who name fault.Memory s t = ((x : Value) × (constant_at s.post.archive name.0 ≡ Some (Held x))) × IsSame s t
IsGetRefused who name _ s t = ⊥
