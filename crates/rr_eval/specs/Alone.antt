-- What a script does with its store, and the environment of one that runs alone.
use Rattle.std.specs.Prelude.{◌≡◌, ◌≤◌, ◌⊎◌, ℕ, Bool, true, false, ◌&&◌, if◌then◌else◌, List, [], ◌∷◌, ◌++◌, length, slice_get, Option, Some, None}
use Rattle.rr_base.specs.declared.name.RactorNo.{RactorNo}
use Rattle.rr_base.specs.declared.name.Sym.{Sym}
use Rattle.rr_space.specs.Graph.{Value, Plain, Nil, Truth, Label, IsShareable}
use Rattle.rr_space.specs.Kinds.{kind_at}
use Rattle.rr_space.specs.Labels.{triples_at}
use Rattle.rr_space.specs.Parts.{value_of}
use Rattle.rr_space.specs.Tables.{Table, resolve, space_graph}
use Rattle.rr_space.specs.declared.refer.Ref.{Ref}
use Rattle.rr_share.specs.Search.{LeadsToShell}
use Rattle.rr_store.specs.Answers.{IsSet, told_of_value}
use Rattle.rr_store.specs.Stores.{Store, HasEvent}
use Rattle.rr_store.specs.declared.constant.ConstValue.{ConstValue}
use Rattle.rr_store.specs.declared.constant.ConstValue.TheVariants.{Shareable, Own as OwnMark}
use Rattle.rr_builtin.specs.Fields.{field_at}
use Rattle.rr_builtin.specs.Kinds.{is_hash}
use Rattle.rr_builtin.specs.declared.problem.Problem.TheVariants.{Moved}
use Rattle.rr_eval.specs.declared.call.Task.TheVariants.{SetConstant}
use Rattle.rr_eval.specs.declared.problem.Problem.TheVariants.{BuiltIn, HistoryFull, IsolatedConstant}
use Rattle.rr_eval.specs.declared.problem.Response.{Response}
use Rattle.rr_eval.specs.declared.problem.Response.TheVariants.{Gives, Fails}
use Rattle.rr_eval.specs.declared.ractor_method.RactorMethod.{RactorMethod}
use Rattle.rr_eval.specs.declared.ractor_method.RactorMethod.TheVariants.{MakeShareable}
use Rattle.rr_eval.specs.declared.special.Special.{Special}
use Rattle.rr_eval.specs.declared.special.Special.TheVariants as specials
use Rattle.rr_eval.specs.Constants.{set_response}
use Rattle.rr_eval.specs.Context.{Context}
use Rattle.rr_eval.specs.Effects.{Effect}
use Rattle.rr_eval.specs.Globals.{globals}
use Rattle.rr_eval.specs.Owners.{owner_of, is_main}
use Rattle.rr_eval.specs.Published.{published}
use Rattle.rr_eval.specs.Publishing.{IsPublishing, IsUnpublished, IsFrozenCopy, IsTooMany}
use Rattle.rr_eval.specs.Script.{Asked, Does, Calls, Reply}
use Rattle.rr_eval.specs.Serves.{IsReplied, IsRequestReplied, RequestExceeds}
use Rattle.rr_eval.specs.Sharing.{asks_copy, ractor_method}
use Rattle.rr_eval.specs.Tasks.{global_reply, value_reply}

-- ---- Which requests ask something of the store.

abbrev pub one_in : List Ref → Option Ref
one_in (v ∷ []) = Some v
one_in vs = None

abbrev pub two_in : List Ref → Option (Ref × Ref)
two_in (v ∷ w ∷ []) = Some (v, w)
two_in vs = None

abbrev pub is_true : Value → Bool
is_true (Plain Nil) = false
is_true (Plain (Truth b)) = b
is_true x = true

abbrev pub holds : Option (Label × Value) → Bool
holds None = false
holds (Some x) = is_true x.1

-- whether keywords ask for a copy: `copy:` alone, with a true value
abbrev pub wants_copy : Context → Table → Ref → Bool
wants_copy c t w = is_hash (kind_at t w) && (asks_copy c t w && holds (slice_get (triples_at t w) 1))

abbrev pub special_set : Sym → Option Ref → Special
special_set x None = specials.Usual
special_set x (Some v) = specials.Constant x v

abbrev pub special_pair : Context → Option (Ref × Ref) → Table → Special
special_pair c None t = specials.Usual
special_pair c (Some p) t = if wants_copy c t p.1 then specials.Copy p.0 else specials.Usual

abbrev pub special_called : Context → Option RactorMethod → List Ref → Table → Special
special_called c (Some MakeShareable) vs t = special_pair c (two_in vs) t
special_called c m vs t = specials.Usual

-- a constant is set, or a shareable copy is asked for
abbrev pub special_of : Context → Asked → Table → Special
special_of c (Does (SetConstant x) vs u) t = special_set x (one_in vs)
special_of c (Does task vs u) t = specials.Usual
special_of c (Calls receiver callee vs) t = special_called c (ractor_method c receiver callee) vs t

-- ---- What setting a constant leaves.

-- what the store says of the constant, and its event
pub record IsMarked (s : Store) (who : RactorNo) (x : Sym) (mark : ConstValue) (u : Store) : Type 0 where
  pub set : IsSet s x mark u
  pub room : HasEvent s
  pub clusters : u.clusters ≡ s.clusters
  pub limit : u.limit ≡ s.limit
  pub history : u.history ≡ s.history ++ told_of_value mark x who ∷ []

-- the main ractor keeps the value itself too
abbrev pub set_reply : Sym → Ref → Table → Effect
set_reply x v t = if is_main t then global_reply x (v ∷ []) t else value_reply v t

-- the constant gets its mark and its value
pub record HasBoth (s : Store) (x : Sym) (mark : ConstValue) (v : Ref) (t : Table) (r : Response) (u : Table) (after : Store) : Type 0 where
  pub marked : IsMarked s (owner_of t) x mark after
  pub set : IsReplied (published after) (set_reply x v t) t r u

-- the history has no room for the event
pub record HasNoRoom (s : Store) (t : Table) (r : Response) (u : Table) (after : Store) : Type 0 where
  pub says : r ≡ Fails HistoryFull
  pub full : HasEvent s → ⊥
  pub store : after ≡ s
  pub table : u ≡ t

abbrev pub IsFinished : Store → Sym → ConstValue → Ref → Table → Response → Table → Store → Type 0
IsFinished s x mark v t r u after = HasBoth s x mark v t r u after ⊎ HasNoRoom s t r u after

-- a value that is not shareable is the main ractor's own
pub record IsOwnSet (s : Store) (x : Sym) (v : Ref) (t : Table) (r : Response) (u : Table) (after : Store) : Type 0 where
  pub unshareable : IsShareable (space_graph t) (resolve t.slots (value_of v)) → ⊥
  pub main : is_main t ≡ true
  pub both : HasBoth s x OwnMark v t r u after

-- no other ractor sets a constant to such a value
pub record IsOwnRefused (s : Store) (x : Sym) (v : Ref) (t : Table) (r : Response) (u : Table) (after : Store) : Type 0 where
  pub unshareable : IsShareable (space_graph t) (resolve t.slots (value_of v)) → ⊥
  pub other : is_main t ≡ false
  pub room : HasEvent s
  pub says : r ≡ Fails (IsolatedConstant x)
  pub store : after ≡ s
  pub table : u ≡ t

-- of a shareable value all that is the ractor's own is published first
pub record IsSharedSet (s : Store) (x : Sym) (v : Ref) (t : Table) (r : Response) (u : Table) (after : Store) : Type 0 where
  pub shareable : IsShareable (space_graph t) (resolve t.slots (value_of v))
  pub store : Store
  pub table : Table
  pub publishing : IsPublishing s t (value_of v) store table
  pub public : Ref
  pub named : value_of public ≡ resolve table.slots (value_of v)
  pub both : HasBoth store x (Shareable public) v table r u after

-- The history has no room for the event: nothing is published, or the constant is not set.
pub record IsSetRefused (s : Store) (v : Ref) (t : Table) (r : Response) (u : Table) (after : Store) : Type 0 where
  pub says : r ≡ Fails HistoryFull
  pub full : HasEvent after → ⊥
  pub left : ((after ≡ s) × IsUnpublished t u) ⊎ IsPublishing s t (value_of v) after u

abbrev pub IsConstantSet : Store → Sym → Ref → Table → Response → Table → Store → Type 0
IsConstantSet s x v t r u after = IsOwnSet s x v t r u after ⊎ (IsOwnRefused s x v t r u after ⊎ (IsSharedSet s x v t r u after ⊎ IsSetRefused s v t r u after))

-- ---- What a constant is for a ractor that asks.

abbrev pub or_unset : Option Response → Response → Response
or_unset None unset = unset
or_unset (Some r) unset = r

-- only the main ractor has a value that is its own
abbrev pub own_constant : Sym → Table → Response → Response
own_constant x t unset = if is_main t then or_unset (set_response t (field_at t globals x.0)) unset else Fails (IsolatedConstant x)

abbrev pub constant_response : Option ConstValue → Sym → Table → Response → Response
constant_response None x t unset = unset
constant_response (Some (Shareable v)) x t unset = Gives v
constant_response (Some OwnMark) x t unset = own_constant x t unset

-- ---- What a shareable copy is.

-- a frozen copy is given, or a moved object was found
abbrev pub IsCopied : Value → Table → Response → Table → Type 0
IsCopied v t r u = ((copy : Ref) × (r ≡ Gives copy) × IsFrozenCopy v t (value_of copy) u) ⊎ ((r ≡ Fails (BuiltIn Moved)) × (u ≡ t) × LeadsToShell (space_graph t) (resolve t.slots v))

-- a shareable value is given itself
pub record IsGivenItself (s : Store) (v : Ref) (t : Table) (r : Response) (u : Table) (after : Store) : Type 0 where
  pub shareable : IsShareable (space_graph t) (resolve t.slots (value_of v))
  pub says : r ≡ Gives v
  pub table : u ≡ t
  pub store : after ≡ s

-- of any other value all that is shareable and the script's own is published, and then the value is copied, and the copy frozen
pub record IsGivenCopy (s : Store) (v : Ref) (t : Table) (r : Response) (u : Table) (after : Store) : Type 0 where
  pub unshareable : IsShareable (space_graph t) (resolve t.slots (value_of v)) → ⊥
  pub table : Table
  pub publishing : IsPublishing s t (value_of v) after table
  pub copy : Ref
  pub says : r ≡ Gives copy
  pub copied : IsFrozenCopy (value_of v) table (value_of copy) u

-- what leads to a moved object is not copied, be it found before or behind the publishing
pub record IsMovedAway (s : Store) (v : Ref) (t : Table) (r : Response) (u : Table) (after : Store) : Type 0 where
  pub says : r ≡ Fails (BuiltIn Moved)
  pub found : ((after ≡ s) × (u ≡ t)) ⊎ IsPublishing s t (value_of v) after u
  pub shell : LeadsToShell (space_graph u) (resolve u.slots (value_of v))

abbrev pub IsCopyGiven : Store → Ref → Table → Response → Table → Store → Type 0
IsCopyGiven s v t r u after = IsGivenItself s v t r u after ⊎ (IsGivenCopy s v t r u after ⊎ (IsMovedAway s v t r u after ⊎ IsSetRefused s v t r u after))

abbrev pub CopyExceeds : Store → ℕ → Ref → Table → Type 0
CopyExceeds s slots v t = (slots ≤ length t.slots) ⊎ ((store : Store) × (table : Table) × IsPublishing s t (value_of v) store table × IsTooMany (value_of v) table)

-- ---- The environment.

abbrev pub AloneBy : Special → Context → Store → Asked → Table → Response → Table → Store → Type 0
AloneBy specials.Usual c s q t r u after = (after ≡ s) × IsRequestReplied c (published s) q t r u
AloneBy (specials.Constant x v) c s q t r u after = IsConstantSet s x v t r u after
AloneBy (specials.Copy v) c s q t r u after = IsCopyGiven s v t r u after

-- What is to be printed is printed, and a method that is called does what it does, among the clusters of the store; constants are set
-- in the store, and what is published comes there.
abbrev pub Alone : Context → Store → Asked → Table → Reply → Store → Type 0
Alone c s q t reply after = AloneBy (special_of c q t) c s q t reply.response reply.table after

-- Where more objects are wanted than there may be: one more in a full space; or a copy of all; or what an assignment makes.
abbrev pub SpecialExceeds : Special → Context → Store → ℕ → Asked → Table → Type 0
SpecialExceeds specials.Usual c s slots q t = RequestExceeds c (published s) slots q t
SpecialExceeds (specials.Constant x v) c s slots q t = slots ≤ length t.slots
SpecialExceeds (specials.Copy v) c s slots q t = CopyExceeds s slots v t

abbrev pub AloneExceeds : Context → Store → ℕ → Asked → Table → Type 0
AloneExceeds c s slots q t = SpecialExceeds (special_of c q t) c s slots q t
