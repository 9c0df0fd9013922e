-- Calls of a receiver and with arguments that need no frame.
use Rattle.std.proofs.Common.{◌≡◌, ℕ, suc, ◌+◌, ◌-◌, ◌<◌, ◌≤◌, sym, ap, subst, refl, ◌∙◌, arith, List, [], ◌∷◌, ◌++◌, length, length-append, take, drop, reverse, Some, None, Bool, true, false, ◌*◌, IsTrue, IsFalse}
use Rattle.std.proofs.lemmas.List.{append_assoc, take_all, take-append-drop, take-append-le, drop-append-le}
use Rattle.std.proofs.Math.Seq.{take-append_seam, drop-append_seam, get_or-append_seam}
use Rattle.std.specs.List.{All}
use Rattle.rr_base.specs.declared.fault.Fault.{Fault}
use Rattle.rr_base.specs.declared.name.ClassId.{ClassId}
use Rattle.rr_space.specs.Tables.{Table}
use Rattle.rr_space.specs.declared.refer.Ref.{Ref}
use Rattle.rr_space.specs.declared.refer.Ref.TheVariants.{Nil}
use Rattle.rr_tree.specs.Nodes.{trees_before}
use Rattle.rr_tree.specs.Tree.{Tree, tree_at}
use Rattle.rr_tree.specs.declared.node.Node.{Node}
use Rattle.rr_tree.specs.declared.node.Node.TheVariants as node
use Rattle.rr_base.specs.declared.name.Sym.{Sym}
use Rattle.rr_tree.specs.declared.program.Program.{Program}
use Rattle.rr_eval.specs.declared.call.Callee.{Callee}
use Rattle.rr_eval.specs.declared.call.Callee.TheVariants.{Name, SetIndex}
use Rattle.rr_eval.specs.declared.call.Target.{Target}
use Rattle.rr_eval.specs.declared.call.Target.TheVariants.{Call}
use Rattle.rr_eval.specs.declared.frame.Control.TheVariants.{Enter}
use Rattle.rr_eval.specs.declared.frame.Frame.TheVariants.{Argument}
use Rattle.rr_parser.specs.Grammar.Names.{is_splat}
use Rattle.rr_builtin.proofs.Gathering.{append_nil}
use Rattle.rr_eval.specs.Dispatch.{built_in, dispatched, made_by, method_for, new_rule, run_method, way_of}
use Rattle.rr_eval.specs.Callees.{method_of}
use Rattle.rr_eval.specs.Joins.{joined_by, joined_or_sent}
use Rattle.rr_eval.specs.Methods.{Callable}
use Rattle.rr_eval.specs.Nodes.{IsSendNode}
use Rattle.rr_eval.specs.Frames.{first_tree, runs_in, unwind}
use Rattle.rr_eval.specs.Requests.{Course}
use Rattle.rr_eval.specs.Rules.{rule, on_value, with_value, values, arguments, finish}
use Rattle.rr_eval.specs.Script.{Script, Go}
use Rattle.rr_eval.specs.Turns.{context_of, code_of, state_of, remaining, after_script, after_values, Stands, size, power, waits}
use Rattle.rr_eval.specs.Usual.{TakesNow, ComesTo, HoldsMore}
use Rattle.rr_eval.specs.View.{View}
use Rattle.rr_eval.specs.Within.{Reach, IsReached, AreReached}
use Rattle.rr_eval.proofs.Entered.{stepped}
use Rattle.rr_eval.proofs.Holding.{all_take}
use Rattle.rr_eval.proofs.QuickParts.{argument_comes, part_comes, comes_then, held_comes}

-- one value more is held
pub holds_push : (m : View) (held : List Ref) (v : Ref) → held ≡ m.held ++ v ∷ [] → HoldsMore m (record m { held = held })
holds_push m held v pushed = record { control = refl; frames = refl; held = ap (take (length m.held)) pushed ∙ take-append_seam m.held (v ∷ []); calls = refl; blocks = refl; rescuing = refl; left = refl }

-- values behind one more
pub behind_one : (held ones all : List Ref) (v : Ref) → ones ≡ held ++ v ∷ [] → take (length ones) all ≡ ones → all ≡ held ++ v ∷ drop (length ones) all
behind_one held ones all v pushed kept =
    let others = drop (length ones) all in
    sym (take-append-drop (length ones) all) ∙ ap (λ l. l ++ others) (kept ∙ pushed) ∙ append_assoc held (v ∷ []) others

pub dropped_behind : (held ones all : List Ref) (v : Ref) → ones ≡ held ++ v ∷ [] → take (length ones) all ≡ ones → v ∷ drop (length ones) all ≡ drop (length held) all
dropped_behind held ones all v pushed kept = sym (ap (drop (length held)) (behind_one held ones all v pushed kept) ∙ drop-append_seam held (v ∷ drop (length ones) all))

pub holds_behind : (m n : View) (ones : List Ref) (v : Ref) → ones ≡ m.held ++ v ∷ [] → HoldsMore (record m { held = ones }) n → HoldsMore m n
holds_behind m n ones v pushed is = record {
  control = is.control;
  frames = is.frames;
  held = ap (take (length m.held)) (behind_one m.held ones n.held v pushed is.held) ∙ take-append_seam m.held (v ∷ drop (length ones) n.held);
  calls = is.calls;
  blocks = is.blocks;
  rescuing = is.rescuing;
  left = is.left;
}

-- A receiver is evaluated before the one argument.
pub pair_first : (p : Program) (m : View) (t : Table) (here base receiver argument i : ℕ) (v : Ref) (held : List Ref) (target : Target) (h : Course) → m.control ≡ Enter here
    → rule (context_of p) (tree_at p.nodes.items here) ≡ values (tree_at p.nodes.items receiver ∷ tree_at p.nodes.items argument ∷ []) [] (finish (context_of p) target) → TakesNow p m t (tree_at p.nodes.items receiver) i v → base ≡ length m.held → held ≡ m.held ++ v ∷ [] → i < m.left
    → remaining p m t h ≡ after_values p (record m { held = held }) t (Argument target 0 0 base) (values (tree_at p.nodes.items argument ∷ []) (drop base held) (finish (context_of p) target)) h (m.left - (i + 1))
pair_first p m t here base receiver argument i v held target h at script takes all pushed less =
    let own = context_of p in
    let ns = p.nodes.items in
    let n = record m { held = held } in
    let next = λ (l : List Ref). values (tree_at ns argument ∷ []) l (finish own target) in
    let comes : ComesTo p m t (rule own (tree_at ns here)) i (next (v ∷ [])) = λ g k.
    ap (λ r. runs_in (code_of p g.world) r (state_of p m t g) (i + k)) script ∙ part_comes p m t (tree_at ns receiver) i v (on_value (λ u. next (u ∷ []))) takes g k in
    let one : v ∷ [] ≡ drop base held = sym (ap (drop base) pushed ∙ ap (λ b. drop b (m.held ++ v ∷ [])) all ∙ drop-append_seam m.held (v ∷ [])) in
    held_comes p m n t here base i 0 target (next (v ∷ [])) h at all (holds_push m held v pushed) comes less
    ∙ ap (λ l. after_values p n t (Argument target 0 0 base) (next l) h (m.left - (i + 1))) one

-- the last part of a call is evaluated, over those that are held
pub last_comes : (p : Program) (n : View) (t : Table) (base part steps j : ℕ) (w : Ref) (target : Target) (h : Course) → TakesNow p n t (tree_at p.nodes.items part) j w → steps + j < n.left
    → after_values p n t (Argument target 0 0 base) (values (tree_at p.nodes.items part ∷ []) (drop base n.held) (finish (context_of p) target)) h (n.left - (steps + 1))
    ≡ after_values p n t (Argument target 0 0 base) (finish (context_of p) target (drop base n.held ++ w ∷ [])) h (n.left - (steps + j + 1))
last_comes p n t base part steps j w target h takes less =
    let k = n.left - (steps + j + 1) in
    let sum : n.left - (steps + 1) ≡ j + k = omega (arith, less) in
    let next = λ (u : Ref). finish (context_of p) target (drop base n.held ++ u ∷ []) in
    ap (λ i. after_values p n t (Argument target 0 0 base) (Go (tree_at p.nodes.items part) (on_value next)) h i) sum
    ∙ ap (unwind (code_of p h.world) (reverse n.frames) (take base n.held)) (part_comes p n t (tree_at p.nodes.items part) j w (on_value next) takes h k)

-- A receiver is evaluated before the arguments.
pub sent_comes : (p : Program) (m : View) (t : Table) (here receiver i : ℕ) (v : Ref) (trees : List Tree) (next : List Ref → Script) → rule (context_of p) (tree_at p.nodes.items here) ≡ with_value (tree_at p.nodes.items receiver) (λ u. arguments (context_of p) trees (u ∷ []) next)
    → TakesNow p m t (tree_at p.nodes.items receiver) i v → ComesTo p m t (rule (context_of p) (tree_at p.nodes.items here)) i (arguments (context_of p) trees (v ∷ []) next)
sent_comes p m t here receiver i v trees next script takes = λ h n.
    ap (λ r. runs_in (code_of p h.world) r (state_of p m t h) (i + n)) script
    ∙ part_comes p m t (tree_at p.nodes.items receiver) i v (on_value (λ u. arguments (context_of p) trees (u ∷ []) next)) takes h n

-- the next argument is evaluated
pub sent_waits : (p : Program) (m n : View) (t : Table) (here base i j end rest : ℕ) (v : Ref) (trees : List Tree) (callee : Callee) (h : Course) → m.control ≡ Enter here
    → ComesTo p m t (rule (context_of p) (tree_at p.nodes.items here)) i (arguments (context_of p) trees (v ∷ []) (finish (context_of p) (Call callee)))
    → ((next : List Ref → Script) → ComesTo p m t (arguments (context_of p) trees (v ∷ []) next) j (arguments (context_of p) (trees_before p.nodes.items end rest) (drop (length m.held) n.held) next)) → base ≡ length m.held → HoldsMore m n → i + j < m.left
    → remaining p m t h ≡ after_values p n t (Argument (Call callee) end 0 base) (arguments (context_of p) (trees_before p.nodes.items end rest) (drop base n.held) (finish (context_of p) (Call callee))) h (n.left - (i + j + 1))
sent_waits p m n t here base i j end rest v trees callee h at first others all is less =
    let own = context_of p in
    let last = λ (l : List Ref). arguments own (trees_before p.nodes.items end rest) l (finish own (Call callee)) in
    let start = arguments own trees (v ∷ []) (finish own (Call callee)) in
    held_comes p m n t here base (i + j) end (Call callee) (last (drop (length m.held) n.held)) h at all is (comes_then p m t (rule own (tree_at p.nodes.items here)) start (last (drop (length m.held) n.held)) i j first (others (finish own (Call callee)))) less
    ∙ ap (λ b. after_values p n t (Argument (Call callee) end 0 base) (last (drop b n.held)) h (n.left - (i + j + 1))) (sym all)

-- the call is done with all of them, of which the last is apart
pub last_apart : (p : Program) (n : View) (t : Table) (base end rest k : ℕ) (held : List Ref) (last : Ref) (callee : Callee) (h : Course) → rest ≡ 0 → n.held ≡ held ++ last ∷ [] → base ≤ length held
    → after_values p n t (Argument (Call callee) end 0 base) (arguments (context_of p) (trees_before p.nodes.items end rest) (drop base n.held) (finish (context_of p) (Call callee))) h k
    ≡ after_values p (record n { held = held }) t (Argument (Call callee) end 0 base) (finish (context_of p) (Call callee) (drop base held ++ last ∷ [])) h k
last_apart p n t base end rest k held last callee h none is le =
    let c = code_of p h.world in
    let next = λ (r : ℕ) (l : List Ref). runs_in c (arguments (context_of p) (trees_before p.nodes.items end r) l (finish (context_of p) (Call callee))) (state_of p n t h) k in
    ap (λ r. unwind c (reverse n.frames) (take base n.held) (next r (drop base n.held))) none
    ∙ ap (λ l. unwind c (reverse n.frames) (take base l) (next 0 (drop base l))) is
    ∙ ap (λ l. unwind c (reverse n.frames) l (next 0 (drop base (held ++ last ∷ [])))) (take-append-le base held (last ∷ []) le)
    ∙ ap (λ l. unwind c (reverse n.frames) (take base held) (next 0 l)) (drop-append-le base held (last ∷ []) le)

-- a growth was refused behind values that are held, and they went
pub stands_without : (m n k : View) (t : Table) (f : Fault) (base : ℕ) (held : List Ref) → base ≡ length m.held → HoldsMore m n → take base held ≡ take base n.held → Stands (record n { held = take base held }) k t t f → Stands m k t t f
stands_without m n k t f base held all is same stands = record {
  control = stands.control ∙ is.control;
  frames = stands.frames ∙ is.frames;
  held = stands.held ∙ same ∙ ap (λ b. take b n.held) all ∙ is.held;
  calls = stands.calls ∙ is.calls;
  blocks = stands.blocks ∙ is.blocks;
  rescuing = stands.rescuing ∙ is.rescuing;
  left = stands.left ∙ is.left;
  objects = stands.objects;
  refusal = stands.refusal;
}

-- what is held below is reached, and so is the last value
pub below_reached : (k : Reach) (m : View) (base : ℕ) → AreReached k m → AreReached k (record m { held = take base m.held })
unfolding AreReached
below_reached k m base h = record { control = h.control; frames = h.frames; held = all_take (IsReached k) base m.held h.held; calls = h.calls; rescuing = h.rescuing }

pub apart_reached : (k : Reach) (m : View) (held : List Ref) (v : Ref) → m.held ≡ held ++ v ∷ [] → AreReached k m → AreReached k (record m { held = held }) × IsReached k v
unfolding AreReached
apart_reached k m held v e h =
    let all : All (IsReached k) (held ++ v ∷ []) = subst (All (IsReached k)) e h.held in
    let last : IsReached k v = subst (IsReached k) (get_or-append_seam held v [] Nil) (all (length held) Nil (omega (arith, length-append held (v ∷ [])))) in
    (record { control = h.control; frames = h.frames; held = subst (All (IsReached k)) (take-append-le (length held) held (v ∷ []) (omega arith) ∙ take_all (length held) held (omega arith)) (all_take (IsReached k) (length held) (held ++ v ∷ []) all); calls = h.calls; rescuing = h.rescuing }, last)

-- An assignment to an element: its receiver and its index are evaluated before the value.
pub comes_first : (p : Program) (m : View) (t : Table) (here steps : ℕ) (next : Script) (h : Course) → m.control ≡ Enter here → ComesTo p m t (rule (context_of p) (tree_at p.nodes.items here)) steps next → steps < m.left → remaining p m t h ≡ after_script p m t next h (m.left - (steps + 1))
comes_first p m t here steps next h at comes less =
    let k = m.left - (steps + 1) in
    let tree = tree_at p.nodes.items here in
    let one : m.left ≡ suc (m.left - 1) = omega (arith, less) in
    let others : m.left - 1 ≡ steps + k = omega (arith, less) in
    stepped p m t (m.left - 1) tree (ap (first_tree p.nodes.items) at) one h
    ∙ ap (after_script p m t (rule (context_of p) tree) h) others
    ∙ ap (unwind (code_of p h.world) (reverse m.frames) m.held) (comes h k)

-- values more are held
pub holds_values : (m : View) (held vs : List Ref) → held ≡ m.held ++ vs → HoldsMore m (record m { held = held })
holds_values m held vs pushed = record { control = refl; frames = refl; held = ap (take (length m.held)) pushed ∙ take-append_seam m.held vs; calls = refl; blocks = refl; rescuing = refl; left = refl }

pub element_comes : (p : Program) (m : View) (t : Table) (here base index value i j : ℕ) (v w : Ref) (held : List Ref) (h : Course) → m.control ≡ Enter here
    → ComesTo p m t (rule (context_of p) (tree_at p.nodes.items here)) i (values (tree_at p.nodes.items index ∷ tree_at p.nodes.items value ∷ []) (v ∷ []) (finish (context_of p) (Call SetIndex))) → TakesNow p m t (tree_at p.nodes.items index) j w → base ≡ length m.held → held ≡ m.held ++ v ∷ w ∷ [] → i + j < m.left
    → remaining p m t h ≡ after_values p (record m { held = held }) t (Argument (Call SetIndex) 0 0 base) (values (tree_at p.nodes.items value ∷ []) (drop base held) (finish (context_of p) (Call SetIndex))) h (m.left - (i + j + 1))
element_comes p m t here base index value i j v w held h at first takes all pushed less =
    let own = context_of p in
    let ns = p.nodes.items in
    let vs = v ∷ w ∷ [] in
    let n = record m { held = held } in
    let next = λ (l : List Ref). values (tree_at ns value ∷ []) l (finish own (Call SetIndex)) in
    let start = values (tree_at ns index ∷ tree_at ns value ∷ []) (v ∷ []) (finish own (Call SetIndex)) in
    let comes = comes_then p m t (rule own (tree_at ns here)) start (next vs) i j first (part_comes p m t (tree_at ns index) j w (on_value (λ u. next (v ∷ u ∷ []))) takes) in
    let two : vs ≡ drop base held = sym (ap (drop base) pushed ∙ ap (λ b. drop b (m.held ++ vs)) all ∙ drop-append_seam m.held vs) in
    held_comes p m n t here base (i + j) 0 (Call SetIndex) (next vs) h at all (holds_values m held vs pushed) comes less
    ∙ ap (λ l. after_values p n t (Argument (Call SetIndex) 0 0 base) (next l) h (m.left - (i + j + 1))) two

-- a node of none of these kinds calls no receiver
pub no_send : (n : Node) → ((a : ℕ) (x : Sym) (first count site : ℕ) → n ≡ node.Send a x first count site → ⊥) → ((a b : ℕ) → n ≡ node.Index a b → ⊥) → ((a b : ℕ) → n ≡ node.Append a b → ⊥)
    → ((a : ℕ) (x : Sym) (b site : ℕ) → n ≡ node.SetAttribute a x b site → ⊥) → ((a b d : ℕ) → n ≡ node.SetIndex a b d → ⊥) → IsSendNode n → ⊥
no_send (node.Send a x first count site) send index append attribute element is = send a x first count site refl
no_send (node.Index a b) send index append attribute element is = index a b refl
no_send (node.Append a b) send index append attribute element is = append a b refl
no_send (node.SetAttribute a x b site) send index append attribute element is = attribute a x b site refl
no_send (node.SetIndex a b d) send index append attribute element is = element a b d refl
no_send _ send index append attribute element is = is

-- A method of the program is called on a receiver, where the call joins no array: without arguments,
pub sent_bare : (p : Program) (m : View) (t : Table) (here steps : ℕ) (v : Ref) (x : Sym) (f : Callable) (h : Course) → m.control ≡ Enter here
    → ComesTo p m t (rule (context_of p) (tree_at p.nodes.items here)) steps (arguments (context_of p) [] (v ∷ []) (finish (context_of p) (Call (Name x)))) → joined_by (context_of p) t (Name x) v ≡ None → Some f ≡ method_for (context_of p) t v (Name x) → steps < m.left
    → remaining p m t h ≡ after_script p m t (run_method (context_of p) f (way_of (Name x) None v []) []) h (m.left - (steps + 1))
sent_bare p m t here steps v x f h at comes joins method less =
    let own = context_of p in
    comes_first p m t here steps (arguments own [] (v ∷ []) (finish own (Call (Name x)))) h at comes less
    ∙ ap (λ o. after_script p m t (joined_or_sent own o (Name x) v []) h (m.left - (steps + 1))) joins
    ∙ ap (λ g. after_script p m t (dispatched own g (Name x) None v []) h (m.left - (steps + 1))) (sym method)

-- with one,
pub sent_one : (p : Program) (m : View) (t : Table) (here first i j : ℕ) (v w : Ref) (x : Sym) (f : Callable) (h : Course) → m.control ≡ Enter here
    → ComesTo p m t (rule (context_of p) (tree_at p.nodes.items here)) i (arguments (context_of p) (trees_before p.nodes.items (first + 1) 1) (v ∷ []) (finish (context_of p) (Call (Name x)))) → joined_by (context_of p) t (Name x) v ≡ None → Some f ≡ method_for (context_of p) t v (Name x)
    → TakesNow p m t (tree_at p.nodes.items first) j w → is_splat (tree_at p.nodes.items first) ≡ false → i + j < m.left
    → remaining p m t h ≡ after_script p m t (run_method (context_of p) f (way_of (Name x) None v (w ∷ [])) (w ∷ [])) h (m.left - (i + j + 1))
sent_one p m t here first i j v w x f h at comes joins method takes plain less =
    let own = context_of p in
    let ns = p.nodes.items in
    let next = finish own (Call (Name x)) in
    let k = m.left - (i + j + 1) in
    let place : first ≡ first + 1 - 1 = omega arith in
    let last = argument_comes p m t (first + 1) 0 j w (v ∷ []) next (subst (λ k. is_splat (tree_at ns k) ≡ false) place plain) (subst (λ k. TakesNow p m t (tree_at ns k) j w) place takes) in
    comes_first p m t here (i + j) (next (v ∷ w ∷ [])) h at (comes_then p m t (rule own (tree_at ns here)) (arguments own (trees_before ns (first + 1) 1) (v ∷ []) next) (next (v ∷ w ∷ [])) i j comes last) less
    ∙ ap (λ o. after_script p m t (joined_or_sent own o (Name x) v (w ∷ [])) h k) joins
    ∙ ap (λ g. after_script p m t (dispatched own g (Name x) None v (w ∷ [])) h k) (sym method)

-- the receiver is the first of the values that are held more
pub first_held : (held ones all : List Ref) (v : Ref) → ones ≡ held ++ v ∷ [] → take (length ones) all ≡ ones → v ∷ drop (length held + 1) all ≡ drop (length held) all
first_held held ones all v pushed kept =
    let one : length held + 1 ≡ length ones = sym (ap length pushed ∙ length-append held (v ∷ [])) in
    ap (λ n. v ∷ drop n all) one ∙ dropped_behind held ones all v pushed kept

-- and with values that are held
pub sent_held : (p : Program) (m n : View) (t : Table) (here base i j end rest : ℕ) (v : Ref) (x : Sym) (f : Callable) (trees : List Tree) (h : Course) → m.control ≡ Enter here
    → ComesTo p m t (rule (context_of p) (tree_at p.nodes.items here)) i (arguments (context_of p) trees (v ∷ []) (finish (context_of p) (Call (Name x))))
    → ((next : List Ref → Script) → ComesTo p m t (arguments (context_of p) trees (v ∷ []) next) j (arguments (context_of p) (trees_before p.nodes.items end rest) (drop (length m.held) n.held) next)) → base ≡ length m.held → HoldsMore m n
    → v ∷ drop (length m.held + 1) n.held ≡ drop (length m.held) n.held → joined_by (context_of p) t (Name x) v ≡ None → Some f ≡ method_for (context_of p) t v (Name x) → rest ≡ 0 → i + j < m.left
    → remaining p m t h ≡ after_values p n t (Argument (Call (Name x)) end 0 base) (run_method (context_of p) f (way_of (Name x) None v (drop 1 (drop base n.held ++ []))) (drop 1 (drop base n.held ++ []))) h (n.left - (i + j + 1))
sent_held p m n t here base i j end rest v x f trees h at first others all is heads joins method none less =
    let own = context_of p in
    let frame = Argument (Call (Name x)) end 0 base in
    let k = n.left - (i + j + 1) in
    let args = drop (length m.held + 1) n.held in
    let vs = drop base n.held in
    let values : vs ≡ v ∷ args = ap (λ b. drop b n.held) all ∙ sym heads in
    let passed : args ≡ drop 1 (vs ++ []) = append_nil args ∙ ap (λ (l : List Ref). drop 1 (l ++ [])) (sym values) in
    sent_waits p m n t here base i j end rest v trees (Name x) h at first others all is less
    ∙ ap (λ r. after_values p n t frame (arguments own (trees_before p.nodes.items end r) vs (finish own (Call (Name x)))) h k) none
    ∙ ap (λ (l : List Ref). after_values p n t frame (finish own (Call (Name x)) l) h k) values
    ∙ ap (λ o. after_values p n t frame (joined_or_sent own o (Name x) v args) h k) joins
    ∙ ap (λ g. after_values p n t frame (dispatched own g (Name x) None v args) h k) (sym method)
    ∙ ap (λ (l : List Ref). after_values p n t frame (run_method own f (way_of (Name x) None v l) l) h k) passed

-- a new object is made for values that are held
pub sent_new : (p : Program) (m n : View) (t : Table) (here base i j end rest : ℕ) (v : Ref) (x : Sym) (class : ClassId) (trees : List Tree) (h : Course) → m.control ≡ Enter here
    → ComesTo p m t (rule (context_of p) (tree_at p.nodes.items here)) i (arguments (context_of p) trees (v ∷ []) (finish (context_of p) (Call (Name x))))
    → ((next : List Ref → Script) → ComesTo p m t (arguments (context_of p) trees (v ∷ []) next) j (arguments (context_of p) (trees_before p.nodes.items end rest) (drop (length m.held) n.held) next)) → base ≡ length m.held → HoldsMore m n
    → v ∷ drop (length m.held + 1) n.held ≡ drop (length m.held) n.held → joined_by (context_of p) t (Name x) v ≡ None → method_for (context_of p) t v (Name x) ≡ None → made_by (context_of p) (method_of (context_of p) (Name x)) v ≡ Some class → rest ≡ 0 → i + j < m.left
    → remaining p m t h ≡ after_values p n t (Argument (Call (Name x)) end 0 base) (new_rule (context_of p) class None (drop 1 (drop base n.held))) h (n.left - (i + j + 1))
sent_new p m n t here base i j end rest v x class trees h at first others all is heads joins method made none less =
    let own = context_of p in
    let frame = Argument (Call (Name x)) end 0 base in
    let k = n.left - (i + j + 1) in
    let args = drop (length m.held + 1) n.held in
    let vs = drop base n.held in
    let values : vs ≡ v ∷ args = ap (λ b. drop b n.held) all ∙ sym heads in
    sent_waits p m n t here base i j end rest v trees (Name x) h at first others all is less
    ∙ ap (λ r. after_values p n t frame (arguments own (trees_before p.nodes.items end r) vs (finish own (Call (Name x)))) h k) none
    ∙ ap (λ (l : List Ref). after_values p n t frame (finish own (Call (Name x)) l) h k) values
    ∙ ap (λ o. after_values p n t frame (joined_or_sent own o (Name x) v args) h k) joins
    ∙ ap (λ g. after_values p n t frame (dispatched own g (Name x) None v args) h k) method
    ∙ ap (λ g. after_values p n t frame (built_in own g (Name x) None v args) h k) made
    ∙ ap (λ (l : List Ref). after_values p n t frame (new_rule own class None (drop 1 l)) h k) (sym values)

-- what was done goes on as before, and where nothing was done all is as before
pub usual_goes : (p : Program) (m n : View) (t : Table) (done : Bool) → (IsTrue done → (h : Course) → remaining p m t h ≡ remaining p n t h) → (IsFalse done → n ≡ m) → (h : Course) → remaining p m t h ≡ remaining p n t h
usual_goes p m n t true goes same = goes refl
usual_goes p m n t false goes same = λ h. ap (λ v. remaining p v t h) (sym (same refl))

pub usual_falls : (m n : View) (here : ℕ) (done : Bool) → m.control ≡ Enter here → (IsTrue done → n.left < m.left) → (IsTrue done → size n ≤ 3 * length m.frames + 4) → (IsFalse done → n ≡ m) → power n + m.left ≤ power m + n.left
usual_falls m n here true at spends fits same =
    let first = spends refl in
    let second = fits refl in
    let all = ap (λ k. 3 * length m.frames + waits k) at in
    omega (arith, first, second, all)
usual_falls m n here false at spends fits same = subst (λ v. power v + m.left ≤ power m + v.left) (sym (same refl)) (omega arith)
