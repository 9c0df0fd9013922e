-- Arguments are evaluated, and what splats stand for is put among them.
use Rattle.std.proofs.Common.{length-append, subst, ◌≡◌, ℕ, zero, suc, ◌+◌, ◌-◌, ◌<◌, ◌≤◌, ◌∙◌, sym, ap, refl, arith, Bool, true, false, List, [], ◌∷◌, ◌++◌, length, take, drop, reverse, Result, Ok, Err, IfErr}
use Rattle.std.proofs.lemmas.List.{take_all, drop_all, take-append-le, drop-append-le}
use Rattle.std.proofs.Math.Seq.{get_or-append_seam}
use Rattle.std.proofs.lemmas.List.Elements.{All-push}
use Rattle.std.specs.List.{All}
use Rattle.rr_base.specs.declared.fault.Fault.{Fault}
use Rattle.rr_parser.specs.Grammar.Names.{is_splat}
use Rattle.rr_space.specs.Kinds.{kind_at}
use Rattle.rr_space.specs.Tables.{Table}
use Rattle.rr_space.specs.declared.refer.Ref.{Ref}
use Rattle.rr_space.specs.declared.refer.Ref.TheVariants.{Nil}
use Rattle.rr_tree.specs.Nodes.{trees_before}
use Rattle.rr_tree.specs.Tree.{Tree, tree_at}
use Rattle.rr_tree.specs.declared.node.Node.{Node}
use Rattle.rr_tree.specs.declared.node.Node.TheVariants as node
use Rattle.rr_tree.specs.declared.program.Program.{Program}
use Rattle.rr_eval.specs.declared.call.Target.{Target}
use Rattle.rr_eval.specs.declared.frame.Control.TheVariants.{Enter, Give}
use Rattle.rr_eval.specs.declared.frame.Frame.{Frame}
use Rattle.rr_eval.specs.declared.frame.Frame.TheVariants.{Receiver, Item}
use Rattle.rr_eval.specs.declared.problem.Answer.TheVariants.{Gave}
use Rattle.rr_eval.specs.declared.problem.Problem.{Problem}
use Rattle.rr_eval.specs.Context.{Context}
use Rattle.rr_eval.specs.Frames.{Code, means, runs_in, resumed, unwind, outcome_of, base_of, below_of, Nested}
use Rattle.rr_eval.specs.Nodes.{evaluated_tree, IsEvaluated}
use Rattle.rr_eval.specs.Requests.{Course}
use Rattle.rr_eval.specs.Rules.{throw, arguments, finish}
use Rattle.rr_eval.specs.Script.{State, Script, Go}
use Rattle.rr_eval.specs.Splats.{splat_items, on_items, spread}
use Rattle.rr_eval.specs.Turns.{context_of, code_of, state_of, remaining, after_script, after_answer, after_values, IsNested}
use Rattle.rr_eval.specs.View.{View}
use Rattle.rr_eval.specs.Within.{Reach, IsReached, IsFrameReached, AreReached}
use Rattle.rr_eval.proofs.Keeping.{Keeps, on_value_keeps, throw_keeps}
use Rattle.rr_eval.proofs.Holding.{all_append, all_take}
use Rattle.rr_eval.proofs.Unwind.{rest_push, given, nested_push}

-- a node that is no splat has no splat as its tree
pub other_part : (ns : List Node) (n : Node) → IsEvaluated n → ((a : ℕ) → n ≡ node.Splat a → ⊥) → is_splat (evaluated_tree ns n) ≡ false
other_part ns (node.Splat a) is other = absurd (other a refl)
other_part ns (node.Item a) is other = absurd is
other_part ns _ is other = refl

-- the first part of a list is evaluated, and then the others
pub items_from : (c : Code) (target : Target) (first count held : ℕ) → 1 ≤ count → Go (tree_at c.nodes first) (resumed c (Item target (first + count) (count - 1) held) []) ≡ arguments c.context (trees_before c.nodes (first + count) count) [] (finish c.context target)
items_from c target first zero held h = absurd (omega arith)
items_from c target first (suc more) held h =
    let k : suc more - 1 ≡ more = omega arith in
    let e : first ≡ first + suc more - suc more = omega arith in
    ap (λ m. Go (tree_at c.nodes first) (resumed c (Item target (first + suc more) m held) [])) k ∙ ap (λ p. Go (tree_at c.nodes p) (resumed c (Item target (first + suc more) more held) [])) e

-- the next part of a list is evaluated, where the values before it stand
pub item_next : (c : Code) (fs : List Frame) (target : Target) (end count place base : ℕ) (held : List Ref) (s : State) (n : ℕ) → 0 < count → place ≡ end - count
    → unwind c (reverse fs) (take base held) (runs_in c (arguments c.context (trees_before c.nodes end count) (drop base held) (finish c.context target)) s n) ≡ outcome_of c (fs ++ Item target end (count - 1) base ∷ []) held (Enter place) s n
item_next c fs target end zero place base held s n h at = absurd (omega arith)
item_next c fs target end (suc more) place base held s n h at =
    let f = Item target end more base in
    let k : suc more - 1 ≡ more = omega arith in
    let o = means c (tree_at c.nodes place) s n in
    ap (λ p. unwind c (reverse fs) (take base held) (runs_in c (Go (tree_at c.nodes p) (resumed c f (drop base held))) s n)) (sym at)
    ∙ sym (rest_push c fs f held o)
    ∙ ap (λ m. unwind c (reverse (fs ++ Item target end m base ∷ [])) held o) (sym k)

-- a value is kept, and the next part is evaluated
pub item_kept : (c : Code) (fs : List Frame) (target : Target) (end count place base : ℕ) (held : List Ref) (v : Ref) (s : State) (n : ℕ) → 0 < count → place ≡ end - count → base ≤ length held
    → unwind c (reverse fs) (take base held) (runs_in c (arguments c.context (trees_before c.nodes end count) (drop base held ++ v ∷ []) (finish c.context target)) s n) ≡ outcome_of c (fs ++ Item target end (count - 1) base ∷ []) (held ++ v ∷ []) (Enter place) s n
item_kept c fs target end count place base held v s n h at le =
    let next = λ (vs : List Ref). runs_in c (arguments c.context (trees_before c.nodes end count) vs (finish c.context target)) s n in
    ap (λ l. unwind c (reverse fs) l (next (drop base held ++ v ∷ []))) (sym (take-append-le base held (v ∷ []) le))
    ∙ ap (λ l. unwind c (reverse fs) (take base (held ++ v ∷ [])) (next l)) (sym (drop-append-le base held (v ∷ []) le))
    ∙ item_next c fs target end count place base (held ++ v ∷ []) s n h at

-- a part that is no splat stands for its value
pub item_plain : (p : Program) (m : View) (t : Table) (target : Target) (end count base : ℕ) (v : Ref) (h : Course) (n : ℕ) → is_splat (tree_at p.nodes.items (end - suc count)) ≡ false
    → after_answer p m t (Item target end count base) (Gave v) h n ≡ after_answer p m t (Receiver target end count base) (Gave v) h n
item_plain p m t target end count base v h n e =
    let code = code_of p h.world in
    ap (λ b. unwind code (reverse m.frames) (take base m.held) (runs_in code (spread (context_of p) b v (λ ws. arguments (context_of p) (trees_before p.nodes.items end count) (drop base m.held ++ ws) (finish (context_of p) target))) (state_of p m t h) n)) e

-- a splat stands for its items
pub item_spread : (p : Program) (m : View) (t : Table) (target : Target) (end count base : ℕ) (v : Ref) (vs : List Ref) (h : Course) (n : ℕ) → is_splat (tree_at p.nodes.items (end - suc count)) ≡ true → splat_items (kind_at t v) t v ≡ Ok vs
    → after_answer p m t (Item target end count base) (Gave v) h n ≡ after_values p m t (Receiver target end count base) (arguments (context_of p) (trees_before p.nodes.items end count) (drop base m.held ++ vs) (finish (context_of p) target)) h n
item_spread p m t target end count base v vs h n e are =
    let code = code_of p h.world in
    let next = λ (ws : List Ref). arguments (context_of p) (trees_before p.nodes.items end count) (drop base m.held ++ ws) (finish (context_of p) target) in
    ap (λ b. unwind code (reverse m.frames) (take base m.held) (runs_in code (spread (context_of p) b v next) (state_of p m t h) n)) e
    ∙ ap (λ r. unwind code (reverse m.frames) (take base m.held) (runs_in code (on_items (context_of p) r next) (state_of p m t h) n)) are

-- a value that is not spread raises
pub item_refused : (p : Program) (m : View) (t : Table) (target : Target) (end count base : ℕ) (v : Ref) (problem : Problem) (h : Course) (n : ℕ) → is_splat (tree_at p.nodes.items (end - suc count)) ≡ true → splat_items (kind_at t v) t v ≡ Err problem
    → after_answer p m t (Item target end count base) (Gave v) h n ≡ after_values p m t (Item target end count base) (throw (context_of p) problem) h n
item_refused p m t target end count base v problem h n e are =
    let code = code_of p h.world in
    let next = λ (ws : List Ref). arguments (context_of p) (trees_before p.nodes.items end count) (drop base m.held ++ ws) (finish (context_of p) target) in
    ap (λ b. unwind code (reverse m.frames) (take base m.held) (runs_in code (spread (context_of p) b v next) (state_of p m t h) n)) e
    ∙ ap (λ r. unwind code (reverse m.frames) (take base m.held) (runs_in code (on_items (context_of p) r next) (state_of p m t h) n)) are

-- no object goes
pub items_keep : (c : Context) (r : Result (List Ref) Problem) (next : List Ref → Script) → ((ws : List Ref) → Keeps (next ws)) → Keeps (on_items c r next)
items_keep c (Ok vs) next kept = kept vs
items_keep c (Err e) next kept = throw_keeps c e

pub spread_keeps : (c : Context) (b : Bool) (v : Ref) (next : List Ref → Script) → ((ws : List Ref) → Keeps (next ws)) → Keeps (spread c b v next)
spread_keeps c false v next kept = kept (v ∷ [])
spread_keeps c true v next kept = λ m. items_keep c (splat_items (kind_at m.table v) m.table v) next kept

pub arguments_keep : (c : Context) (go_on : List Ref → Script) → ((vs : List Ref) → Keeps (go_on vs)) → (ts : List Tree) (stand : List Ref) → Keeps (arguments c ts stand go_on)
arguments_keep c go_on kept [] stand = kept stand
arguments_keep c go_on kept (t ∷ ts) stand = on_value_keeps _ (λ v. spread_keeps c (is_splat t) v (λ ws. arguments c ts (stand ++ ws) go_on) (λ ws. arguments_keep c go_on kept ts (stand ++ ws)))

-- a splat that stands for nothing, where no other values stand
pub item_nothing : (p : Program) (m : View) (t : Table) (target : Target) (end base : ℕ) (v : Ref) (h : Course) (n : ℕ) → is_splat (tree_at p.nodes.items (end - 1)) ≡ true → splat_items (kind_at t v) t v ≡ Ok [] → length m.held ≡ base
    → after_answer p m t (Item target end 0 base) (Gave v) h n ≡ after_script p m t (finish (context_of p) target []) h n
item_nothing p m t target end base v h n e are all =
    let code = code_of p h.world in
    let next = λ (vs : List Ref). runs_in code (finish (context_of p) target vs) (state_of p m t h) n in
    item_spread p m t target end 0 base v [] h n e are
    ∙ ap (λ l. unwind code (reverse m.frames) (take base m.held) (next (l ++ []))) (drop_all base m.held (omega (arith, all)))
    ∙ ap (λ l. unwind code (reverse m.frames) l (next [])) (take_all base m.held (omega (arith, all)))

-- items that are held behind the values before them
pub items_held : (p : Program) (m : View) (t : Table) (target : Target) (end count base : ℕ) (vs held : List Ref) (h : Course) (n : ℕ) → held ≡ m.held ++ vs → base ≤ length m.held
    → after_values p m t (Receiver target end count base) (arguments (context_of p) (trees_before p.nodes.items end count) (drop base m.held ++ vs) (finish (context_of p) target)) h n
    ≡ after_values p (record m { held = held }) t (Receiver target end count base) (arguments (context_of p) (trees_before p.nodes.items end count) (drop base held) (finish (context_of p) target)) h n
items_held p m t target end count base vs held h n e le =
    let code = code_of p h.world in
    let next = λ (ws : List Ref). runs_in code (arguments (context_of p) (trees_before p.nodes.items end count) ws (finish (context_of p) target)) (state_of p m t h) n in
    ap (λ l. unwind code (reverse m.frames) l (next (drop base m.held ++ vs))) (sym (take-append-le base m.held vs le) ∙ ap (take base) (sym e))
    ∙ ap (λ l. unwind code (reverse m.frames) (take base held) (next l)) (sym (drop-append-le base m.held vs le) ∙ ap (drop base) (sym e))

-- the last one of all values
pub last_held : (p : Program) (m : View) (t : Table) (target : Target) (end count base : ℕ) (held : List Ref) (v : Ref) (h : Course) (n : ℕ) → count ≡ 0 → m.held ≡ held ++ v ∷ [] → base ≤ length held
    → after_values p m t (Receiver target end count base) (arguments (context_of p) (trees_before p.nodes.items end count) (drop base m.held) (finish (context_of p) target)) h n
    ≡ after_answer p (record m { control = Give (Gave v); held = held }) t (Receiver target end 0 base) (Gave v) h n
last_held p m t target end count base held v h n none e le =
    let code = code_of p h.world in
    let next = λ (k : ℕ) (ws : List Ref). runs_in code (arguments (context_of p) (trees_before p.nodes.items end k) ws (finish (context_of p) target)) (state_of p m t h) n in
    ap (λ k. unwind code (reverse m.frames) (take base m.held) (next k (drop base m.held))) none
    ∙ ap (λ l. unwind code (reverse m.frames) l (next 0 (drop base m.held))) (ap (take base) e ∙ take-append-le base held (v ∷ []) le)
    ∙ ap (λ l. unwind code (reverse m.frames) (take base held) (next 0 l)) (ap (drop base) e ∙ drop-append-le base held (v ∷ []) le)

-- a frame that is put back waits for its value
pub put_back : (p : Program) (m : View) (t : Table) (f : Frame) (v : Ref) (fs : List Frame) (h : Course) → m.control ≡ Give (Gave v) → fs ≡ m.frames ++ f ∷ []
    → after_answer p m t f (Gave v) h m.left ≡ remaining p (record m { frames = fs }) t h
put_back p m t f v fs h is e =
    let code = code_of p h.world in
    let s = state_of p m t h in
    sym (given code m.frames f m.held (Gave v) s m.left)
    ∙ ap (λ k. outcome_of code (m.frames ++ f ∷ []) m.held k s m.left) (sym is)
    ∙ ap (λ l. outcome_of code l m.held m.control s m.left) (sym e)

-- it is nested, and holds no reference
pub back_nested : (m : View) (f : Frame) (fs : List Frame) → fs ≡ m.frames ++ f ∷ [] → base_of f ≤ length m.held → Nested (reverse m.frames) (below_of f m.held) → IsNested (record m { frames = fs })
back_nested m f fs e le nested = subst (λ l. Nested (reverse l) m.held) (sym e) (nested_push m.frames f m.held le nested)

pub back_reached : (k : Reach) (m : View) (f : Frame) (fs : List Frame) → fs ≡ m.frames ++ f ∷ [] → AreReached k m → IsFrameReached k f → AreReached k (record m { frames = fs })
unfolding AreReached
back_reached k m f fs e h frame = record { control = h.control; frames = subst (All (IsFrameReached k)) (sym e) (All-push (IsFrameReached k) m.frames f h.frames frame); held = h.held; calls = h.calls; rescuing = h.rescuing }

-- the last value is taken off
pub last_reached : (k : Reach) (m : View) (held : List Ref) (v : Ref) → m.held ≡ held ++ v ∷ [] → AreReached k m → AreReached k (record m { control = Give (Gave v); held = held }) × IsReached k v
unfolding AreReached
last_reached k m held v e h =
    let all : All (IsReached k) (held ++ v ∷ []) = subst (All (IsReached k)) e h.held in
    let last : IsReached k v = subst (IsReached k) (get_or-append_seam held v [] Nil) (all (length held) Nil (omega (arith, length-append held (v ∷ [])))) in
    (record { control = last; frames = h.frames; held = subst (All (IsReached k)) (take-append-le (length held) held (v ∷ []) (omega arith) ∙ take_all (length held) held (omega arith)) (all_take (IsReached k) (length held) (held ++ v ∷ []) all); calls = h.calls; rescuing = h.rescuing }, last)

-- items behind what is held
pub items_reached : (k : Reach) (m : View) (held vs : List Ref) → held ≡ m.held ++ vs → AreReached k m → All (IsReached k) vs → AreReached k (record m { held = held })
unfolding AreReached
items_reached k m held vs e h items = record { control = h.control; frames = h.frames; held = subst (All (IsReached k)) (sym e) (all_append (IsReached k) m.held vs h.held items); calls = h.calls; rescuing = h.rescuing }

-- what an error leaves
pub if_err : {A : Type 0} (r : Result A Fault) (P Q : Fault → Type 0) → ((f : Fault) → P f → Q f) → IfErr r P → IfErr r Q
if_err (Ok a) P Q f h = tt
if_err (Err e) P Q f h = f e h
