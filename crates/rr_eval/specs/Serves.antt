-- What serving a request leaves.
use Rattle.std.specs.Prelude.{◌≡◌, ◌<◌, ◌≤◌, ◌⊎◌, ℕ, List, [], ◌∷◌, length, Option, Some, None}
use Rattle.rr_base.specs.declared.fault.Fault.{Fault}
use Rattle.rr_base.specs.declared.fault.Fault.TheVariants.{Limit}
use Rattle.rr_base.specs.declared.limits.LimitKind.TheVariants.{Slots}
use Rattle.rr_space.specs.Tables.{Table, Below, IsRestKept}
use Rattle.rr_space.specs.declared.refer.Ref.{Ref}
use Rattle.rr_text.specs.Names.{names_of}
use Rattle.rr_text.specs.Reads.{IsReadWith}
use Rattle.rr_text.specs.Walk.{Walked}
use Rattle.rr_builtin.specs.declared.problem.Problem.{Problem as BuiltInProblem}
use Rattle.rr_eval.specs.declared.call.Callee.TheVariants.{SetIndex}
use Rattle.rr_eval.specs.declared.call.Task.{Task}
use Rattle.rr_eval.specs.declared.call.Task.TheVariants.{MakeHash}
use Rattle.rr_eval.specs.declared.problem.Response.{Response}
use Rattle.rr_eval.specs.declared.problem.Response.TheVariants.{Gives}
use Rattle.rr_eval.specs.Acts.{IsRefusal}
use Rattle.rr_eval.specs.Calls.{call_reply}
use Rattle.rr_eval.specs.Context.{Context}
use Rattle.rr_eval.specs.Effects.{Effect, said}
use Rattle.rr_eval.specs.Script.{Asked, Does, Calls}
use Rattle.rr_eval.specs.Sharing.{called_reply, ractor_method}
use Rattle.rr_eval.specs.Tasks.{empty_reply, given_by, lacking_reply, joined_texts, lack_of, texts_of}
use Rattle.rr_eval.specs.Within.{reach, IsResponseReached}

-- What each reply leaves: the objects and what is given lead to these clusters alone, of which a number names one, and no object was
-- taken away.
pub record IsLeft (below : Below) (old : Table) (response : Response) (new : Table) : Type 0 where
  pub read : IsReadWith new below
  pub reached : IsResponseReached (reach (length new.slots) (Some below)) response
  pub grows : length old.slots ≤ length new.slots
  pub rest : IsRestKept old new

-- the reply is what the request comes to
pub record IsReplied (below : Below) (effect : Effect) (old : Table) (response : Response) (new : Table) : Type 0 where
  pub said : said response ≡ effect.said
  pub slots : new.slots ≡ effect.table.slots
  pub keys : new.keys ≡ effect.table.keys
  pub left : IsLeft below old response new

-- A growth was refused: at the limit of slots only where so many are needed.
pub record IsRefusedBy (needs : Type 0) (fault : Fault) : Type 0 where
  pub refused : IsRefusal fault
  pub full : fault ≡ Limit Slots → needs

-- it comes to more objects than there may be
abbrev pub Exceeds : ℕ → Effect → Type 0
Exceeds slots effect = slots < length effect.table.slots

abbrev pub IsRefused : Effect → Table → Fault → Type 0
IsRefused effect old fault = IsRefusedBy (Exceeds old.limit effect) fault

-- ---- New hashes.

-- what goes on where a value was given, and what is so where it ends with something else
abbrev pub GoesOn : Response → (Ref → Type 0) → Type 0 → Type 0
GoesOn (Gives v) on ended = on v
GoesOn _ on ended = ended

-- keys and values, which stand by turns, were put into a hash as the call `h[k] = v` puts them, up to a pair that raises
abbrev pub IsFilled : Context → Below → Ref → List Ref → Table → Response → Table → Type 0
IsFilled c below h [] t r u = (r ≡ Gives h) × (u ≡ t)
IsFilled c below h (k ∷ []) t r u = (r ≡ Gives h) × (u ≡ t)
IsFilled c below h (k ∷ v ∷ vs) t r u =
    (put : Response) × (m : Table) × IsReplied below (call_reply c h SetIndex (k ∷ v ∷ []) t) t put m
    × GoesOn put (λ x. IsFilled c below h vs m r u) ((r ≡ put) × (u ≡ m))

-- one of the pairs comes to more objects than there may be
abbrev pub FillingExceeds : Context → Below → ℕ → Ref → List Ref → Table → Type 0
FillingExceeds c below slots h [] t = ⊥
FillingExceeds c below slots h (k ∷ []) t = ⊥
FillingExceeds c below slots h (k ∷ v ∷ vs) t =
    Exceeds slots (call_reply c h SetIndex (k ∷ v ∷ []) t)
    ⊎ ((x : Ref) × (m : Table) × IsReplied below (call_reply c h SetIndex (k ∷ v ∷ []) t) t (Gives x) m × FillingExceeds c below slots h vs m)

abbrev pub IsFillingRefused : Context → Below → Ref → List Ref → Table → Fault → Type 0
IsFillingRefused c below h vs t fault = IsRefusedBy (FillingExceeds c below t.limit h vs t) fault

-- a new hash of keys and values, which stand by turns
abbrev pub IsHashMade : Context → Below → List Ref → Table → Response → Table → Type 0
IsHashMade c below vs t r u = (made : Response) × (m : Table) × IsReplied below (empty_reply t) t made m × GoesOn made (λ h. IsFilled c below h vs m r u) ((r ≡ made) × (u ≡ m))

abbrev pub HashExceeds : Context → Below → ℕ → List Ref → Table → Type 0
HashExceeds c below slots vs t = Exceeds slots (empty_reply t) ⊎ ((h : Ref) × (m : Table) × IsReplied below (empty_reply t) t (Gives h) m × FillingExceeds c below slots h vs m)

abbrev pub IsHashRefused : Context → Below → List Ref → Table → Fault → Type 0
IsHashRefused c below vs t fault = IsRefusedBy (HashExceeds c below t.limit vs t) fault

-- ---- Tasks, where these are the texts of the values, one after the other.

abbrev pub IsGiven : Context → Below → Task → List ℕ → List Ref → Table → Response → Table → Type 0
IsGiven c below MakeHash s vs t r u = IsHashMade c below vs t r u
IsGiven c below task s vs t r u = IsReplied below (given_by task s vs t) t r u

abbrev pub GivenExceeds : Context → Below → ℕ → Task → List ℕ → List Ref → Table → Type 0
GivenExceeds c below slots MakeHash s vs t = HashExceeds c below slots vs t
GivenExceeds c below slots task s vs t = Exceeds slots (given_by task s vs t)

abbrev pub IsGivenRefused : Context → Below → Task → List ℕ → List Ref → Table → Fault → Type 0
IsGivenRefused c below task s vs t fault = IsRefusedBy (GivenExceeds c below t.limit task s vs t) fault

-- a value may have no text
abbrev pub IsGivenUnless : Option BuiltInProblem → Context → Below → Task → List ℕ → List Ref → Table → Response → Table → Type 0
IsGivenUnless None c below task s vs t r u = IsGiven c below task s vs t r u
IsGivenUnless (Some problem) c below task s vs t r u = IsReplied below (lacking_reply problem t) t r u

abbrev pub ExceedsUnless : Option BuiltInProblem → Context → Below → ℕ → Task → List ℕ → List Ref → Table → Type 0
ExceedsUnless None c below slots task s vs t = GivenExceeds c below slots task s vs t
ExceedsUnless (Some problem) c below slots task s vs t = ⊥

abbrev pub texts_in : Context → Task → List Ref → Table → List Walked
texts_in c task vs t = texts_of task (names_of c.program) t vs

abbrev pub IsTaskReplied : Context → Below → Task → List Ref → Table → Response → Table → Type 0
IsTaskReplied c below task vs t r u = IsGivenUnless (lack_of (texts_in c task vs t)) c below task (joined_texts (texts_in c task vs t)) vs t r u

abbrev pub TaskExceeds : Context → Below → ℕ → Task → List Ref → Table → Type 0
TaskExceeds c below slots task vs t = ExceedsUnless (lack_of (texts_in c task vs t)) c below slots task (joined_texts (texts_in c task vs t)) vs t

abbrev pub IsTaskRefused : Context → Below → Task → List Ref → Table → Fault → Type 0
IsTaskRefused c below task vs t fault = IsRefusedBy (TaskExceeds c below t.limit task vs t) fault

-- ---- Requests.

abbrev pub IsRequestReplied : Context → Below → Asked → Table → Response → Table → Type 0
IsRequestReplied c below (Does task vs u) t r v = IsTaskReplied c below task vs t r v
IsRequestReplied c below (Calls receiver callee arguments) t r v = IsReplied below (called_reply c (ractor_method c receiver callee) receiver callee arguments t) t r v

-- what is asked comes to more objects than there may be
abbrev pub RequestExceeds : Context → Below → ℕ → Asked → Table → Type 0
RequestExceeds c below slots (Does task vs u) t = TaskExceeds c below slots task vs t
RequestExceeds c below slots (Calls receiver callee arguments) t = Exceeds slots (called_reply c (ractor_method c receiver callee) receiver callee arguments t)

abbrev pub IsRequestRefused : Context → Below → Asked → Table → Fault → Type 0
IsRequestRefused c below q t fault = IsRefusedBy (RequestExceeds c below t.limit q t) fault
