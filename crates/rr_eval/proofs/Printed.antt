-- An evaluation prints behind what was printed before.
use Rattle.std.proofs.Common.{◌≡◌, ℕ, zero, suc, ◌∙◌, sym, ap, List, [], ◌∷◌, ◌++◌, append_assoc, reverse, Option, Some, None}
use Rattle.std.proofs.lemmas.List.{append-nil}
use Rattle.rr_space.specs.Tables.{Table}
use Rattle.rr_frames.specs.Frames.{list_of}
use Rattle.rr_space.specs.declared.refer.Ref.{Ref}
use Rattle.rr_tree.specs.Tree.{binary, tree_at}
use Rattle.rr_tree.specs.declared.program.Program.{Program}
use Rattle.rr_eval.specs.declared.problem.Answer.{Answer}
use Rattle.rr_eval.specs.declared.problem.Answer.TheVariants.{Gave}
use Rattle.rr_eval.specs.declared.problem.Response.{Response}
use Rattle.rr_eval.specs.declared.frame.Frame.{Frame}
use Rattle.rr_eval.specs.declared.frame.Control.{Control}
use Rattle.rr_eval.specs.declared.frame.Control.TheVariants.{Enter, Operate, Give, Throw, Raise, RaiseValue, Start, New, Pair, Send, Assign}
use Rattle.rr_eval.specs.Script.{State, Script, Ret, Part, TreePart, CallPart, AssignPart, Evaluate, See, Do, Ask, Asked, Reply, World, Outcome, Ended, Spent, Waits, Evaluation, run, after, taken}
use Rattle.rr_eval.specs.Rules.{Context, throw, raise, settled, part_rule, eval}
use Rattle.rr_eval.specs.Starting.{start_rule}
use Rattle.rr_eval.specs.Raising.{raise_value}
use Rattle.rr_eval.specs.Dispatch.{making}
use Rattle.rr_eval.specs.Pairs.{paired}
use Rattle.rr_eval.specs.Requests.{Course}
use Rattle.rr_eval.specs.Frames.{Code, evaluates, runs_in, resumed, stand_of, below_of, unwind, start}
use Rattle.rr_eval.specs.View.{View}
use Rattle.rr_eval.specs.Turns.{context_of, code_of, remaining, asking_then, state_of}
use Rattle.rr_eval.specs.Written.{IsBeginning}
use Rattle.rr_eval.specs.Runs.{piece_asked, text_asked, text_of}
use Rattle.rr_eval.proofs.Bytes.{beginning-trans}

pub beginning-refl : (a : List ℕ) → IsBeginning a a
beginning-refl a = ([], sym (append-nil a))

-- where scripts run that refer to this
module _ (own : Context) where
  -- one request more
  pub text-push : (qs : List Asked) (q : Asked) → text_asked own (qs ++ q ∷ []) ≡ text_asked own qs ++ piece_asked own q
  text-push [] q = append-nil (piece_asked own q)
  text-push (r ∷ qs) q = ap (λ l. piece_asked own r ++ l) (text-push qs q) ∙ sym (append_assoc (piece_asked own r) (text_asked own qs) (piece_asked own q))

  -- the evaluation prints behind what was printed
  abbrev Grows : Evaluation → Type 0
  Grows go = (t : Part) (s : State) (n : ℕ) → IsBeginning (text_asked own s.asked) (text_of own (go t s n))

  after_grows : (x : List ℕ) (o : Outcome) (next : Answer → State → ℕ → Outcome) → IsBeginning x (text_of own o) → ((a : Answer) (s : State) (n : ℕ) → IsBeginning (text_asked own s.asked) (text_of own (next a s n))) → IsBeginning x (text_of own (after o next))
  after_grows x (Ended a s n) next b h = beginning-trans x (text_asked own s.asked) (text_of own (next a s n)) b (h a s n)
  after_grows x (Spent s) next b h = b
  after_grows x (Waits s) next b h = b

  taken_grows : (x : List ℕ) (r : Option Reply) (s : State) (next : Response → State → Outcome) → IsBeginning x (text_asked own s.asked)
      → ((a : Response) (u : State) → IsBeginning (text_asked own u.asked) (text_of own (next a u))) → IsBeginning x (text_of own (taken r s next))
  taken_grows x None s next b h = b
  taken_grows x (Some r) s next b h =
      let u = record s { memory = record s.memory { table = r.table } } in
      beginning-trans x (text_asked own s.asked) (text_of own (next r.response u)) b (h r.response u)

  more_grows : (qs : List Asked) (q : Asked) → IsBeginning (text_asked own qs) (text_asked own (qs ++ q ∷ []))
  more_grows qs q = (piece_asked own q, text-push qs q)

  run_grows : (w : World) (go : Evaluation) → Grows go → (p : Script) (s : State) (n : ℕ) → IsBeginning (text_asked own s.asked) (text_of own (run w go p s n))
  run_grows w go h (Ret a) s n = beginning-refl (text_asked own s.asked)
  run_grows w go h (Evaluate t next) s n = after_grows (text_asked own s.asked) (go t s n) (λ a. run w go (next a)) (h t s n) (λ a s' m. run_grows w go h (next a) s' m)
  run_grows w go h (See look) s n = run_grows w go h (look s.memory) s n
  run_grows w go h (Do act next) s n = run_grows w go h next (record s { memory = act s.memory }) n
  run_grows w go h (Ask q next) s n =
      taken_grows (text_asked own s.asked) (w s.asked q s.memory.table) (record s { asked = s.asked ++ q ∷ [] }) (λ r u. run w go (next r) u n) (more_grows s.asked q) (λ r u. run_grows w go h (next r) u n)

  eval_grows : (c : Context) (w : World) (depth : ℕ) → Grows (eval c w depth)
  eval_grows c w zero t s n = beginning-refl (text_asked own s.asked)
  eval_grows c w (suc depth) t s zero = beginning-refl (text_asked own s.asked)
  eval_grows c w (suc depth) t s (suc n) = run_grows w (eval c w depth) (eval_grows c w depth) (part_rule c t) s n

  meaning_grows : (c : Code) → Grows (evaluates c)
  meaning_grows c t s n = eval_grows c.context c.world n t s n

  unwind_grows : (x : List ℕ) (c : Code) (fs : List Frame) (held : List Ref) (o : Outcome) → IsBeginning x (text_of own o) → IsBeginning x (text_of own (unwind c fs held o))
  unwind_grows x c [] held (Ended a s n) b = b
  unwind_grows x c [] held (Spent s) b = b
  unwind_grows x c [] held (Waits s) b = b
  unwind_grows x c (f ∷ fs) held o b =
      let next = λ (a : Answer). runs_in c (resumed c f (stand_of f held) a) in
      unwind_grows x c fs (below_of f held) (after o next) (after_grows x o next b (λ a s n. run_grows c.world (evaluates c) (meaning_grows c) (resumed c f (stand_of f held) a) s n))

  start_grows : (c : Code) (k : Control) (s : State) (n : ℕ) → IsBeginning (text_asked own s.asked) (text_of own (start c k s n))
  start_grows c (Enter part) s n = meaning_grows c (TreePart (tree_at c.nodes part)) s n
  start_grows c (Operate op a b) s n = meaning_grows c (TreePart (binary op (tree_at c.nodes a) (tree_at c.nodes b))) s n
  start_grows c (Give a) s n = beginning-refl (text_asked own s.asked)
  start_grows c (Throw e) s n = run_grows c.world (evaluates c) (meaning_grows c) (throw c.context e) s n
  start_grows c (Raise class message) s n = run_grows c.world (evaluates c) (meaning_grows c) (raise class message) s n
  start_grows c (RaiseValue v message) s n = run_grows c.world (evaluates c) (meaning_grows c) (raise_value c.context v message) s n
  start_grows c (Start block problem) s n = run_grows c.world (evaluates c) (meaning_grows c) (start_rule c.context (tree_at c.nodes block) problem) s n
  start_grows c (Pair v w) s n = run_grows c.world (evaluates c) (meaning_grows c) (paired v w (λ a. Ret (Gave a))) s n
  start_grows c (New class cause) s n = run_grows c.world (evaluates c) (meaning_grows c) (making c.context class cause (λ v. Ret (Gave v))) s n
  start_grows c (Send callee v w) s n = meaning_grows c (CallPart callee v (list_of w)) s n
  start_grows c (Assign spot v) s n = meaning_grows c (AssignPart spot v) s n

  -- what is still to be done prints behind what was printed
  pub remaining_grows : (p : Program) (m : View) (t : Table) (h : Course) → IsBeginning (text_asked own h.asked) (text_of own (remaining p m t h))
  remaining_grows p m t h = unwind_grows (text_asked own h.asked) (code_of p h.world) (reverse m.frames) m.held (start (code_of p h.world) m.control (state_of p m t h) m.left) (start_grows (code_of p h.world) m.control (state_of p m t h) m.left)

  -- a request is printed first
  pub asking_grows : (p : Program) (m : View) (t : Table) (q : Asked) (h : Course) → IsBeginning (text_asked own (h.asked ++ q ∷ [])) (text_of own (asking_then p m t q h))
  asking_grows p m t q h =
      let c = code_of p h.world in
      let more = record (state_of p m t h) { asked = h.asked ++ q ∷ [] } in
      let next = λ (r : Response) (u : State). runs_in c (settled (context_of p) r) u m.left in
      unwind_grows (text_asked own more.asked) c (reverse m.frames) m.held (taken (h.world h.asked q t) more next)
      (taken_grows (text_asked own more.asked) (h.world h.asked q t) more next (beginning-refl (text_asked own more.asked)) (λ r u. run_grows h.world (evaluates c) (meaning_grows c) (settled (context_of p) r) u m.left))
