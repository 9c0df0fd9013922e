-- What a new hash leaves, and each pair that is put into it.
use Rattle.std.proofs.Common.{◌≡◌, ◌∙◌, ap, sym, subst, arith, inl, inr, refl, ◌-◌, ◌<◌, ◌≤◌, ℕ, List, [], ◌∷◌, length, get_or, take, drop, Some, Result, Ok, Err, IfOk, IfErr}
use Rattle.std.proofs.lemmas.List.{take_all}
use Rattle.std.proofs.lemmas.List.Elements.{All-weaker}
use Rattle.std.specs.List.{All}
use Rattle.rr_base.specs.declared.fault.Fault.{Fault}
use Rattle.rr_space.specs.Tables.{Table, Below, IsRestKept}
use Rattle.rr_space.specs.declared.refer.Ref.{Ref}
use Rattle.rr_space.specs.declared.refer.Ref.TheVariants as refs
use Rattle.rr_builtin.specs.Acts.{MakesObject, performed, Acts}
use Rattle.rr_builtin.specs.News.{empty_hash}
use Rattle.rr_builtin.specs.declared.built.Built.{Built}
use Rattle.rr_eval.specs.declared.problem.Problem.{Problem}
use Rattle.rr_eval.specs.declared.problem.Problem.TheVariants.{NotHere}
use Rattle.rr_eval.specs.declared.problem.Response.{Response}
use Rattle.rr_eval.specs.declared.problem.Response.TheVariants as response
use Rattle.rr_eval.specs.declared.call.Callee.TheVariants.{SetIndex}
use Rattle.rr_eval.specs.Calls.{call_reply}
use Rattle.rr_eval.specs.Context.{Context}
use Rattle.rr_eval.specs.Responses.{response_from}
use Rattle.rr_eval.specs.Serves.{IsLeft, IsReplied, IsRefused, IsFilled, FillingExceeds, IsFillingRefused, IsHashMade, IsHashRefused}
use Rattle.rr_text.specs.Reads.{IsReadWith}
use Rattle.rr_eval.specs.Tasks.{empty_reply}
use Rattle.rr_eval.specs.Within.{reach, IsReached}
use Rattle.rr_eval.proofs.Calling.{done_replied, act_refused, empty_adds}
use Rattle.rr_eval.proofs.Holding.{ref_more, all_rest}

pub empty_replied : (below : Below) (t u : Table) (b : Built) (r : Response) → Acts below (performed (MakesObject empty_hash []) refs.Nil) t u (Ok b) → r ≡ response_from NotHere b → IsReplied below (empty_reply t) t r u
empty_replied below t u b r is e =
    let done = performed (MakesObject empty_hash []) refs.Nil t in
    subst (λ x. IsReplied below (empty_reply t) t x u) (sym e) (done_replied NotHere below below t u done done b is is (empty_adds t))

pub empty_refused : (below : Below) (t u : Table) (f : Fault) → Acts below (performed (MakesObject empty_hash []) refs.Nil) t u (Err f) → IsRefused (empty_reply t) t f
empty_refused below t u f is = act_refused t.limit _ f is.1

-- what is left after another thing was left
pub left_after : (below : Below) (t m u : Table) (a r : Response) → IsLeft below t a m → IsLeft below m r u → IsLeft below t r u
left_after below t m u a r first second = record {
  read = second.read;
  reached = second.reached;
  grows = omega (arith, first.grows, second.grows);
  rest = record { limit = second.rest.limit ∙ first.rest.limit; owner = second.rest.owner ∙ first.rest.owner; next_message = second.rest.next_message ∙ first.rest.next_message };
}

-- What was put so far: the rest of the keys and values is still to be put into the hash.
pub record IsFilling (c : Context) (below : Below) (h : Ref) (values rest : List Ref) (old now : Table) : Type 0 where
  pub on : (r : Response) (u : Table) → IsFilled c below h rest now r u → IsFilled c below h values old r u
  pub more : (slots : ℕ) → FillingExceeds c below slots h rest now → FillingExceeds c below slots h values old
  pub read : IsReadWith now below
  pub hash : IsReached (reach (length now.slots) (Some below)) h
  pub reached : All (IsReached (reach (length now.slots) (Some below))) rest
  pub grows : length old.slots ≤ length now.slots
  pub kept : IsRestKept old now

pub filling_first : (c : Context) (below : Below) (h : Ref) (values : List Ref) (t : Table) → IsReadWith t below → IsReached (reach (length t.slots) (Some below)) h → All (IsReached (reach (length t.slots) (Some below))) values → IsFilling c below h values values t t
filling_first c below h values t read hash reached = record { on = λ r u is. is; more = λ slots is. is; read = read; hash = hash; reached = reached; grows = omega arith; kept = record { limit = refl; owner = refl; next_message = refl } }

module _ (c : Context) (below : Below) (h k v : Ref) (values rest more : List Ref) (old t : Table) (so : IsFilling c below h values rest old t) (is : rest ≡ k ∷ v ∷ more) where
  left_so : (r : Response) (u : Table) → IsLeft below t r u → IsLeft below old r u
  left_so r u left = record {
    read = left.read;
    reached = left.reached;
    grows = omega (arith, so.grows, left.grows);
    rest = record { limit = left.rest.limit ∙ so.kept.limit; owner = left.rest.owner ∙ so.kept.owner; next_message = left.rest.next_message ∙ so.kept.next_message };
  }

  pub filling_more : (x : Ref) (u : Table) → IsReplied below (call_reply c h SetIndex (k ∷ v ∷ []) t) t (response.Gives x) u → IsFilling c below h values more old u
  filling_more x u put =
      let m = length t.slots in
      let n = length u.slots in
      let grows = put.left.grows in
      let all = subst (All (IsReached (reach m (Some below)))) is so.reached in
      let after = left_so (response.Gives x) u put.left in
      record {
        on = λ r w filled. so.on r w (subst (λ l. IsFilled c below h l t r w) (sym is) (response.Gives x, u, put, filled));
        more = λ slots exceeds. so.more slots (subst (λ l. FillingExceeds c below slots h l t) (sym is) (inr (x, u, put, exceeds)));
        read = put.left.read;
        hash = ref_more m n (Some below) grows h so.hash;
        reached = All-weaker (IsReached (reach m (Some below))) (IsReached (reach n (Some below))) (ref_more m n (Some below) grows) more (all_rest (IsReached (reach m (Some below))) v more (all_rest (IsReached (reach m (Some below))) k (v ∷ more) all));
        grows = after.grows;
        kept = after.rest;
      }

  -- a pair raises
  pub filling_throws : (e : Ref) (u : Table) → IsReplied below (call_reply c h SetIndex (k ∷ v ∷ []) t) t (response.Throws e) u → IsFilled c below h values old (response.Throws e) u × IsLeft below old (response.Throws e) u
  filling_throws e u put = (so.on (response.Throws e) u (subst (λ l. IsFilled c below h l t (response.Throws e) u) (sym is) (response.Throws e, u, put, (refl, refl))), left_so (response.Throws e) u put.left)

  pub filling_fails : (e : Problem) (u : Table) → IsReplied below (call_reply c h SetIndex (k ∷ v ∷ []) t) t (response.Fails e) u → IsFilled c below h values old (response.Fails e) u × IsLeft below old (response.Fails e) u
  filling_fails e u put = (so.on (response.Fails e) u (subst (λ l. IsFilled c below h l t (response.Fails e) u) (sym is) (response.Fails e, u, put, (refl, refl))), left_so (response.Fails e) u put.left)

  -- a growth was refused
  pub filling_refused : (f : Fault) → IsRefused (call_reply c h SetIndex (k ∷ v ∷ []) t) t f → IsFillingRefused c below h values old f
  filling_refused f put = record {
    refused = put.refused;
    full = λ e. so.more old.limit (subst (λ l. FillingExceeds c below old.limit h l t) (sym is) (inl (let exceeds = put.full e in omega (arith, exceeds, so.kept.limit))));
  }

none_left : (c : Context) (below : Below) (h : Ref) (rest : List Ref) (t : Table) → length rest < 2 → IsFilled c below h rest t (response.Gives h) t
none_left c below h [] t less = (refl, refl)
none_left c below h (k ∷ []) t less = (refl, refl)
none_left c below h (k ∷ v ∷ more) t less = absurd (omega (arith, less))

pub filling_done : (c : Context) (below : Below) (h : Ref) (values rest : List Ref) (old t : Table) → IsFilling c below h values rest old t → length rest < 2 → IsFilled c below h values old (response.Gives h) t
filling_done c below h values rest old t so less = so.on (response.Gives h) t (none_left c below h rest t less)

pub filling_left : (c : Context) (below : Below) (h : Ref) (values rest : List Ref) (old t : Table) → IsFilling c below h values rest old t → IsLeft below old (response.Gives h) t
filling_left c below h values rest old t so = record { read = so.read; reached = so.hash; grows = so.grows; rest = so.kept }

-- the first two of several values, and the others
pub two_first : (xs : List Ref) (k v : Ref) → 2 ≤ length xs → k ≡ get_or xs 0 k → v ≡ get_or xs 1 v → xs ≡ k ∷ v ∷ take (length xs - 2) (drop 2 xs)
two_first [] k v some first second = absurd (omega (arith, some))
two_first (x ∷ []) k v some first second = absurd (omega (arith, some))
two_first (x ∷ y ∷ more) k v some first second =
    let others = take (length (x ∷ y ∷ more) - 2) more in
    let all : others ≡ more = take_all (length (x ∷ y ∷ more) - 2) more (omega arith) in
    ap (λ l. x ∷ y ∷ l) (sym all) ∙ ap (λ z. z ∷ y ∷ others) (sym first) ∙ ap (λ z. k ∷ z ∷ others) (sym second)

-- a hash was made, and what was put into it is the reply
pub made_replied : (c : Context) (below : Below) (h : Ref) (values : List Ref) (t m u : Table) (r : Result Response Fault) → IsReplied below (empty_reply t) t (response.Gives h) m → IfOk r (λ x. IsFilled c below h values m x u) → IfOk r (λ x. IsHashMade c below values t x u)
made_replied c below h values t m u (Ok x) first second = (response.Gives h, m, first, second)
made_replied c below h values t m u (Err f) first second = tt

pub made_left : (below : Below) (h : Ref) (t m u : Table) (r : Result Response Fault) → IsReplied below (empty_reply t) t (response.Gives h) m → IfOk r (λ x. IsLeft below m x u) → IfOk r (λ x. IsLeft below t x u)
made_left below h t m u (Ok x) first second = left_after below t m u (response.Gives h) x first.left second
made_left below h t m u (Err f) first second = tt

pub filled_refused : (c : Context) (below : Below) (h : Ref) (values : List Ref) (t m : Table) (r : Result Response Fault) → IsReplied below (empty_reply t) t (response.Gives h) m → IfErr r (IsFillingRefused c below h values m) → IfErr r (IsHashRefused c below values t)
filled_refused c below h values t m (Ok x) first second = tt
filled_refused c below h values t m (Err f) first second = record {
  refused = second.refused;
  full = λ e. inr (h, m, first, subst (λ slots. FillingExceeds c below slots h values m) first.left.rest.limit (second.full e));
}

-- no hash was made: what the empty one came to ends all
pub made_throws : (c : Context) (below : Below) (values : List Ref) (t u : Table) (e : Ref) → IsReplied below (empty_reply t) t (response.Throws e) u → IsHashMade c below values t (response.Throws e) u
made_throws c below values t u e first = (response.Throws e, u, first, (refl, refl))

pub made_fails : (c : Context) (below : Below) (values : List Ref) (t u : Table) (e : Problem) → IsReplied below (empty_reply t) t (response.Fails e) u → IsHashMade c below values t (response.Fails e) u
made_fails c below values t u e first = (response.Fails e, u, first, (refl, refl))

-- no hash could be made
pub made_refused : (c : Context) (below : Below) (values : List Ref) (t : Table) (f : Fault) → IsRefused (empty_reply t) t f → IsHashRefused c below values t f
made_refused c below values t f first = record { refused = first.refused; full = λ e. inl (first.full e) }
