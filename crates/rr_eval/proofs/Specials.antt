-- What a request asks of the store is reached where the request is.
use Rattle.std.proofs.Common.{◌≡◌, Bool, true, false, if◌then◌else◌, zero, arith, subst, List, [], ◌∷◌, Option, Some, None}
use Rattle.std.specs.List.{All}
use Rattle.rr_base.specs.declared.name.Sym.{Sym}
use Rattle.rr_space.specs.Tables.{Table}
use Rattle.rr_space.specs.declared.refer.Ref.{Ref}
use Rattle.rr_eval.specs.declared.call.Task.{Task}
use Rattle.rr_eval.specs.declared.call.Task.TheVariants.{Puts, Inspect, Print, MakeArray, MakeText, MakeHash, SetField, SetMessage, SetCause, SetGlobal, SetConstant, GetConstant, FindConstant, Show, Lines}
use Rattle.rr_eval.specs.declared.ractor_method.RactorMethod.{RactorMethod}
use Rattle.rr_eval.specs.declared.ractor_method.RactorMethod.TheVariants.{IsShareable, MakeShareable, Start, Current, Main, IsMain, WithOthers, Name, Later}
use Rattle.rr_eval.specs.declared.request.Request.{Request}
use Rattle.rr_eval.specs.declared.request.Request.TheVariants as requests
use Rattle.rr_eval.specs.declared.special.Special.TheVariants as specials
use Rattle.rr_eval.specs.Alone.{one_in, two_in, wants_copy, special_set, special_pair, special_called, special_of}
use Rattle.rr_eval.specs.Context.{Context}
use Rattle.rr_eval.specs.Requests.{arguments_of, asked_of}
use Rattle.rr_eval.specs.Script.{Does}
use Rattle.rr_eval.specs.Sharing.{ractor_method}
use Rattle.rr_eval.specs.Within.{Reach, IsReached, IsRequestReached}

module _ (k : Reach) (c : Context) (t : Table) (v : Ref) where
  set_value : (y x : Sym) (vs : List Ref) → special_set y (one_in vs) ≡ specials.Constant x v → All (IsReached k) vs → IsReached k v
  set_value y x [] e all = absurd (let no : ⊥ = cc in no)
  set_value y x (w ∷ []) e all = let same : w ≡ v = cc in subst (IsReached k) same (all zero w (omega arith))
  set_value y x (w ∷ z ∷ zs) e all = absurd (let no : ⊥ = cc in no)

  done_value : (task : Task) (x : Sym) (vs : List Ref) (u : Table) → special_of c (Does task vs u) t ≡ specials.Constant x v → All (IsReached k) vs → IsReached k v
  done_value (SetConstant y) x vs u e all = set_value y x vs e all
  done_value (SetGlobal y) x vs u e all = absurd (let no : ⊥ = cc in no)
  done_value (GetConstant y) x vs u e all = absurd (let no : ⊥ = cc in no)
  done_value (FindConstant y) x vs u e all = absurd (let no : ⊥ = cc in no)
  done_value Puts x vs u e all = absurd (let no : ⊥ = cc in no)
  done_value Inspect x vs u e all = absurd (let no : ⊥ = cc in no)
  done_value Print x vs u e all = absurd (let no : ⊥ = cc in no)
  done_value Show x vs u e all = absurd (let no : ⊥ = cc in no)
  done_value Lines x vs u e all = absurd (let no : ⊥ = cc in no)
  done_value MakeArray x vs u e all = absurd (let no : ⊥ = cc in no)
  done_value MakeText x vs u e all = absurd (let no : ⊥ = cc in no)
  done_value MakeHash x vs u e all = absurd (let no : ⊥ = cc in no)
  done_value (SetField y) x vs u e all = absurd (let no : ⊥ = cc in no)
  done_value SetMessage x vs u e all = absurd (let no : ⊥ = cc in no)
  done_value SetCause x vs u e all = absurd (let no : ⊥ = cc in no)

  copy_is : (b : Bool) (w : Ref) → (if b then specials.Copy w else specials.Usual) ≡ specials.Copy v → w ≡ v
  copy_is true w e = cc
  copy_is false w e = absurd (let no : ⊥ = cc in no)

  pair_value : (vs : List Ref) → special_pair c (two_in vs) t ≡ specials.Copy v → All (IsReached k) vs → IsReached k v
  pair_value [] e all = absurd (let no : ⊥ = cc in no)
  pair_value (w ∷ []) e all = absurd (let no : ⊥ = cc in no)
  pair_value (w ∷ z ∷ []) e all = subst (IsReached k) (copy_is (wants_copy c t z) w e) (all zero w (omega arith))
  pair_value (w ∷ z ∷ y ∷ ys) e all = absurd (let no : ⊥ = cc in no)

  called_value : (m : Option RactorMethod) (vs : List Ref) → special_called c m vs t ≡ specials.Copy v → All (IsReached k) vs → IsReached k v
  called_value None vs e all = absurd (let no : ⊥ = cc in no)
  called_value (Some MakeShareable) vs e all = pair_value vs e all
  called_value (Some IsShareable) vs e all = absurd (let no : ⊥ = cc in no)
  called_value (Some Start) vs e all = absurd (let no : ⊥ = cc in no)
  called_value (Some Current) vs e all = absurd (let no : ⊥ = cc in no)
  called_value (Some Main) vs e all = absurd (let no : ⊥ = cc in no)
  called_value (Some IsMain) vs e all = absurd (let no : ⊥ = cc in no)
  called_value (Some WithOthers) vs e all = absurd (let no : ⊥ = cc in no)
  called_value (Some Name) vs e all = absurd (let no : ⊥ = cc in no)
  called_value (Some Later) vs e all = absurd (let no : ⊥ = cc in no)

  done_not : (task : Task) (vs : List Ref) (u : Table) → special_of c (Does task vs u) t ≡ specials.Copy v → ⊥
  done_not (SetConstant y) [] u e = let no : ⊥ = cc in no
  done_not (SetConstant y) (w ∷ []) u e = let no : ⊥ = cc in no
  done_not (SetConstant y) (w ∷ z ∷ zs) u e = let no : ⊥ = cc in no
  done_not (SetGlobal y) vs u e = let no : ⊥ = cc in no
  done_not (GetConstant y) vs u e = let no : ⊥ = cc in no
  done_not (FindConstant y) vs u e = let no : ⊥ = cc in no
  done_not Puts vs u e = let no : ⊥ = cc in no
  done_not Inspect vs u e = let no : ⊥ = cc in no
  done_not Print vs u e = let no : ⊥ = cc in no
  done_not Show vs u e = let no : ⊥ = cc in no
  done_not Lines vs u e = let no : ⊥ = cc in no
  done_not MakeArray vs u e = let no : ⊥ = cc in no
  done_not MakeText vs u e = let no : ⊥ = cc in no
  done_not MakeHash vs u e = let no : ⊥ = cc in no
  done_not (SetField y) vs u e = let no : ⊥ = cc in no
  done_not SetMessage vs u e = let no : ⊥ = cc in no
  done_not SetCause vs u e = let no : ⊥ = cc in no

  pair_not : (x : Sym) (p : Option (Ref × Ref)) → special_pair c p t ≡ specials.Constant x v → ⊥
  pair_not x None e = let no : ⊥ = cc in no
  pair_not x (Some p) e = by (wants_copy c t p.1) e
    where
      by : (b : Bool) → (if b then specials.Copy p.0 else specials.Usual) ≡ specials.Constant x v → ⊥
      by true e = let no : ⊥ = cc in no
      by false e = let no : ⊥ = cc in no

  called_not : (m : Option RactorMethod) (vs : List Ref) (x : Sym) → special_called c m vs t ≡ specials.Constant x v → ⊥
  called_not None vs x e = let no : ⊥ = cc in no
  called_not (Some MakeShareable) vs x e = pair_not x (two_in vs) e
  called_not (Some IsShareable) vs x e = let no : ⊥ = cc in no
  called_not (Some Start) vs x e = let no : ⊥ = cc in no
  called_not (Some Current) vs x e = let no : ⊥ = cc in no
  called_not (Some Main) vs x e = let no : ⊥ = cc in no
  called_not (Some IsMain) vs x e = let no : ⊥ = cc in no
  called_not (Some WithOthers) vs x e = let no : ⊥ = cc in no
  called_not (Some Name) vs x e = let no : ⊥ = cc in no
  called_not (Some Later) vs x e = let no : ⊥ = cc in no

  -- the value that a constant is set to
  pub constant_reached : (q : Request) (x : Sym) → special_of c (asked_of t q) t ≡ specials.Constant x v → IsRequestReached k q → IsReached k v
  constant_reached (requests.Do task values) x e all = done_value task x (arguments_of values) t e all
  constant_reached (requests.Call call) x e all = absurd (called_not (ractor_method c call.receiver call.callee) (arguments_of call.arguments) x e)

  -- the value of which a copy is made
  pub copy_reached : (q : Request) → special_of c (asked_of t q) t ≡ specials.Copy v → IsRequestReached k q → IsReached k v
  copy_reached (requests.Do task values) e all = absurd (done_not task (arguments_of values) t e)
  copy_reached (requests.Call call) e all = called_value (ractor_method c call.receiver call.callee) (arguments_of call.arguments) e all.arguments
