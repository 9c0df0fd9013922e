-- An evaluation does not depend on its depth, as long as that is at least the number of steps.
use Rattle.std.proofs.Common.{◌≡◌, ℕ, zero, suc, ◌≤◌, ap, ◌∙◌, arith, refl, [], ◌∷◌, ◌++◌, Option, Some, None}
use Rattle.rr_tree.specs.Tree.{Tree}
use Rattle.rr_eval.specs.declared.problem.Answer.{Answer}
use Rattle.rr_eval.specs.declared.problem.Response.{Response}
use Rattle.rr_eval.specs.Script.{State, Script, Ret, Part, TreePart, Evaluate, See, Do, Ask, Reply, World, Outcome, Ended, Spent, Waits, Evaluation, run, after, taken}
use Rattle.rr_eval.specs.Rules.{Context, rule, part_rule, eval, meaning_of, meaning}

-- no more than n steps are left
abbrev pub Within : ℕ → Outcome → Type 0
Within n (Ended a s m) = m ≤ n
Within n (Spent s) = Unit {0}
Within n (Waits s) = Unit {0}

-- the evaluation never gains steps
abbrev pub Falls : Evaluation → Type 0
Falls go = (part : Part) (s : State) (n : ℕ) → Within n (go part s n)

within_more : (m n : ℕ) → m ≤ n → (o : Outcome) → Within m o → Within n o
within_more m n le (Ended a s k) w = omega arith
within_more m n le (Spent s) w = tt
within_more m n le (Waits s) w = tt

within_after : (n : ℕ) (o : Outcome) (next : Answer → State → ℕ → Outcome) → Within n o → ((a : Answer) (s : State) (m : ℕ) → m ≤ n → Within m (next a s m)) → Within n (after o next)
within_after n (Ended a s m) next w h = within_more m n w (next a s m) (h a s m w)
within_after n (Spent s) next w h = tt
within_after n (Waits s) next w h = tt

taken_falls : (n : ℕ) (r : Option Reply) (s : State) (next : Response → State → Outcome) → ((a : Response) (u : State) → Within n (next a u)) → Within n (taken r s next)
taken_falls n None s next h = tt
taken_falls n (Some r) s next h = h r.response (record s { memory = record s.memory { table = r.table } })

taken_agrees : (r : Option Reply) (s : State) (f g : Response → State → Outcome) → ((a : Response) (u : State) → f a u ≡ g a u) → taken r s f ≡ taken r s g
taken_agrees None s f g h = refl
taken_agrees (Some r) s f g h = h r.response (record s { memory = record s.memory { table = r.table } })

run_falls : (w : World) (go : Evaluation) → Falls go → (p : Script) (s : State) (n : ℕ) → Within n (run w go p s n)
run_falls w go h (Ret a) s n = omega arith
run_falls w go h (Evaluate part next) s n = within_after n (go part s n) (λ a. run w go (next a)) (h part s n) (λ a s' m le. run_falls w go h (next a) s' m)
run_falls w go h (See look) s n = run_falls w go h (look s.memory) s n
run_falls w go h (Do act next) s n = run_falls w go h next (record s { memory = act s.memory }) n
run_falls w go h (Ask q next) s n = taken_falls n (w s.asked q s.memory.table) (record s { asked = s.asked ++ q ∷ [] }) (λ r u. run w go (next r) u n) (λ r u. run_falls w go h (next r) u n)

eval_falls : (c : Context) (w : World) (depth : ℕ) → Falls (eval c w depth)
eval_falls c w zero part s n = tt
eval_falls c w (suc depth) part s zero = tt
eval_falls c w (suc depth) part s (suc n) =
    let o = run w (eval c w depth) (part_rule c part) s n in
    within_more n (suc n) (omega arith) o (run_falls w (eval c w depth) (eval_falls c w depth) (part_rule c part) s n)

-- two evaluations agree up to n steps
abbrev pub Agree : ℕ → Evaluation → Evaluation → Type 0
Agree n f g = (part : Part) (s : State) (m : ℕ) → m ≤ n → f part s m ≡ g part s m

after_agrees : (n : ℕ) (o : Outcome) (f g : Answer → State → ℕ → Outcome) → Within n o → ((a : Answer) (s : State) (m : ℕ) → m ≤ n → f a s m ≡ g a s m) → after o f ≡ after o g
after_agrees n (Ended a s m) f g w h = h a s m w
after_agrees n (Spent s) f g w h = refl
after_agrees n (Waits s) f g w h = refl

run_agrees : (w : World) (n : ℕ) (f g : Evaluation) → Falls f → Agree n f g → (p : Script) (s : State) (m : ℕ) → m ≤ n → run w f p s m ≡ run w g p s m
run_agrees w n f g fall h (Ret a) s m le = refl
run_agrees w n f g fall h (Evaluate part next) s m le =
    after_agrees n (f part s m) (λ a. run w f (next a)) (λ a. run w g (next a)) (within_more m n le (f part s m) (fall part s m)) (λ a s' k le'. run_agrees w n f g fall h (next a) s' k le')
    ∙ ap (λ o. after o (λ a. run w g (next a))) (h part s m le)
run_agrees w n f g fall h (See look) s m le = run_agrees w n f g fall h (look s.memory) s m le
run_agrees w n f g fall h (Do act next) s m le = run_agrees w n f g fall h next (record s { memory = act s.memory }) m le
run_agrees w n f g fall h (Ask q next) s m le =
    taken_agrees (w s.asked q s.memory.table) (record s { asked = s.asked ++ q ∷ [] }) (λ r u. run w f (next r) u m) (λ r u. run w g (next r) u m) (λ r u. run_agrees w n f g fall h (next r) u m le)

-- two depths that suffice agree
depths_agree : (c : Context) (w : World) (d e n : ℕ) → n ≤ d → n ≤ e → Agree n (eval c w d) (eval c w e)
depths_agree c w zero zero n le le' part s m h = refl
depths_agree c w zero (suc e) n le le' part s zero h = refl
depths_agree c w zero (suc e) n le le' part s (suc m) h = absurd (omega arith)
depths_agree c w (suc d) zero n le le' part s zero h = refl
depths_agree c w (suc d) zero n le le' part s (suc m) h = absurd (omega arith)
depths_agree c w (suc d) (suc e) n le le' part s zero h = refl
depths_agree c w (suc d) (suc e) n le le' part s (suc m) h =
    run_agrees w m (eval c w d) (eval c w e) (eval_falls c w d) (depths_agree c w d e m (omega arith) (omega arith)) (part_rule c part) s m (omega arith)

-- a part's meaning by its rule, over the meanings of its parts
pub meaning_part : (c : Context) (w : World) (part : Part) (s : State) (n : ℕ) → meaning_of c w part s (suc n) ≡ run w (meaning_of c w) (part_rule c part) s n
meaning_part c w part s n =
    run_agrees w n (eval c w n) (meaning_of c w) (eval_falls c w n) (λ p s' m le. depths_agree c w n m m le (omega arith) p s' m (omega arith)) (part_rule c part) s n (omega arith)

-- the same of a tree
pub meaning_rule : (c : Context) (w : World) (tree : Tree) (s : State) (n : ℕ) → meaning c w tree s (suc n) ≡ run w (meaning_of c w) (rule c tree) s n
meaning_rule c w tree s n = meaning_part c w (TreePart tree) s n

pub meaning_zero : (c : Context) (w : World) (part : Part) (s : State) → meaning_of c w part s zero ≡ Spent s
meaning_zero c w part s = refl
