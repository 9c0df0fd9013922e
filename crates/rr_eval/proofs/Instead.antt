-- Other values are held in the place of those that stand for a frame, and asked.
use Rattle.std.proofs.Common.{◌≡◌, ◌∙◌, ◌≤◌, ℕ, sym, ap, arith, List, [], ◌∷◌, ◌++◌, length, take, drop, slice_index_or, Some, None}
use Rattle.std.proofs.lemmas.List.{take_all, drop_all, take-append-le, drop-append-le, length-take-le}
use Rattle.rr_base.specs.declared.name.Sym.{Sym}
use Rattle.rr_space.specs.Tables.{Table}
use Rattle.rr_space.specs.declared.refer.Ref.{Ref}
use Rattle.rr_space.specs.declared.refer.Ref.TheVariants.{Nil}
use Rattle.rr_tree.specs.declared.program.Program.{Program}
use Rattle.rr_eval.specs.declared.asking.Asking.{Asking}
use Rattle.rr_eval.specs.declared.asking.Saying.TheVariants.{Text}
use Rattle.rr_eval.specs.declared.call.Callee.{Callee}
use Rattle.rr_eval.specs.declared.call.Target.TheVariants.{Call}
use Rattle.rr_eval.specs.declared.frame.Frame.{Frame}
use Rattle.rr_eval.specs.declared.leaves.Taking.TheVariants.{Joint}
use Rattle.rr_eval.specs.Heard.{still_asked}
use Rattle.rr_eval.specs.Joins.{separator, joined_by, joined, joined_or_sent, joined_first}
use Rattle.rr_eval.specs.Leaves.{leaves_of, between}
use Rattle.rr_eval.specs.Requests.{Course}
use Rattle.rr_eval.specs.Rules.{finish}
use Rattle.rr_eval.specs.Speaking.{asked_all}
use Rattle.rr_eval.specs.Splats.{on_items}
use Rattle.rr_eval.specs.Turns.{context_of, after_values}
use Rattle.rr_eval.specs.Updating.{sent_first}
use Rattle.rr_eval.specs.View.{View}

pub instead_stand : (base : ℕ) (held new values : List Ref) → base ≤ length held → new ≡ take base held ++ values → drop base new ≡ values
instead_stand base held new values le is =
    let long : length (take base held) ≡ base = length-take-le base held le in
    ap (drop base) is ∙ drop-append-le base (take base held) values (omega (arith, long)) ∙ ap (λ l. l ++ values) (drop_all base (take base held) (omega (arith, long)))

pub instead_below : (base : ℕ) (held new values : List Ref) → base ≤ length held → new ≡ take base held ++ values → take base new ≡ take base held
instead_below base held new values le is =
    let long : length (take base held) ≡ base = length-take-le base held le in
    ap (take base) is ∙ take-append-le base (take base held) values (omega (arith, long)) ∙ take_all base (take base held) (omega (arith, long))

-- none of them was seen
pub instead_asked : (p : Program) (a : Asking) (held new values : List Ref) → a.base ≤ length held → new ≡ take a.base held ++ values → a.count ≡ length values → a.seen ≡ 0
    → asked_all (context_of p) a.saying a.name values [] ≡ still_asked p a new
instead_asked p a held new values le is count seen =
    let c = context_of p in
    let stands : drop a.base new ≡ values = instead_stand a.base held new values le is in
    let size : length values ≤ a.count = omega (arith, count) in
    let those : take a.count (drop a.base new) ≡ values = ap (take a.count) stands ∙ take_all a.count values size in
    let done : drop a.count (drop a.base new) ≡ [] = ap (drop a.count) stands ∙ drop_all a.count values size in
    ap (λ l. asked_all c a.saying a.name l []) (sym those)
    ∙ ap (λ l. asked_all c a.saying a.name (take a.count (drop a.base new)) l) (sym done)
    ∙ ap (λ n. asked_all c a.saying a.name (drop n (take a.count (drop a.base new))) (drop a.count (drop a.base new))) (sym seen)

-- ---- Calls that may join.

module _ (p : Program) (m : View) (t : Table) (f : Frame) (callee : Callee) where
  -- a call that joins no array
  pub as_sent : (vs : List Ref) (v : Ref) (h : Course) (n : ℕ) → joined_by (context_of p) t callee (slice_index_or (vs ++ v ∷ []) 0 Nil) ≡ None
      → after_values p m t f (finish (context_of p) (Call callee) (vs ++ v ∷ [])) h n ≡ after_values p m t f (sent_first (context_of p) callee (vs ++ v ∷ [])) h n
  as_sent [] v h n is = ap (λ o. after_values p m t f (joined_or_sent (context_of p) o callee v []) h n) is
  as_sent (u ∷ us) v h n is = ap (λ o. after_values p m t f (joined_or_sent (context_of p) o callee u (us ++ v ∷ [])) h n) is

  -- a call that joins one
  pub as_joined : (x : Sym) (vs : List Ref) (v : Ref) (h : Course) (n : ℕ) → joined_by (context_of p) t callee (slice_index_or (vs ++ v ∷ []) 0 Nil) ≡ Some x
      → after_values p m t f (finish (context_of p) (Call callee) (vs ++ v ∷ [])) h n ≡ after_values p m t f (joined_first (context_of p) t x callee (vs ++ v ∷ [])) h n
  as_joined x [] v h n is = ap (λ o. after_values p m t f (joined_or_sent (context_of p) o callee v []) h n) is
  as_joined x (u ∷ us) v h n is = ap (λ o. after_values p m t f (joined_or_sent (context_of p) o callee u (us ++ v ∷ [])) h n) is

  -- its arguments are not taken
  pub joins_none : (x : Sym) (vs : List Ref) (v : Ref) (h : Course) (n : ℕ) → separator t (drop 1 (vs ++ v ∷ [])) ≡ None
      → after_values p m t f (joined_first (context_of p) t x callee (vs ++ v ∷ [])) h n ≡ after_values p m t f (sent_first (context_of p) callee (vs ++ v ∷ [])) h n
  joins_none x [] v h n is = ap (λ o. after_values p m t f (joined (context_of p) x o callee v []) h n) is
  joins_none x (u ∷ us) v h n is = ap (λ o. after_values p m t f (joined (context_of p) x o callee u (us ++ v ∷ [])) h n) is

  -- they are taken
  pub joins_some : (x : Sym) (vs : List Ref) (v s : Ref) (h : Course) (n : ℕ) → separator t (drop 1 (vs ++ v ∷ [])) ≡ Some s
      → after_values p m t f (joined_first (context_of p) t x callee (vs ++ v ∷ [])) h n
      ≡ after_values p m t f (on_items (context_of p) (leaves_of Joint t (slice_index_or (vs ++ v ∷ []) 0 Nil ∷ [])) (λ ws. asked_all (context_of p) Text x (between s ws) [])) h n
  joins_some x [] v s h n is = ap (λ o. after_values p m t f (joined (context_of p) x o callee v []) h n) is
  joins_some x (u ∷ us) v s h n is = ap (λ o. after_values p m t f (joined (context_of p) x o callee u (us ++ v ∷ [])) h n) is
