-- Text literals are made one after the other.
use Rattle.std.proofs.Common.{◌≡◌, IfSome, Option, None, Some, ℕ, zero, suc, ◌+◌, ◌-◌, ◌<◌, ◌≤◌, sym, ap, subst, ◌∙◌, arith, false, List, [], ◌∷◌, ◌++◌, length, take, drop, reverse, slice_index_or}
use Rattle.std.proofs.lemmas.List.{append_assoc, take-append-le, drop-append-le}
use Rattle.rr_parser.specs.Grammar.Names.{is_splat}
use Rattle.rr_space.specs.Tables.{Table}
use Rattle.rr_space.specs.declared.refer.Ref.{Ref}
use Rattle.rr_space.specs.declared.refer.Ref.TheVariants.{Local}
use Rattle.rr_tree.specs.Nodes.{trees_before}
use Rattle.rr_tree.specs.Tree.{Tree, text, sequence, listed, tree_at}
use Rattle.rr_tree.specs.declared.program.Program.{Program}
use Rattle.rr_eval.specs.declared.call.Target.{Target}
use Rattle.rr_eval.specs.declared.frame.Control.TheVariants.{Enter, Give}
use Rattle.rr_eval.specs.declared.frame.Frame.{Frame}
use Rattle.rr_eval.specs.declared.frame.Frame.TheVariants.{Argument}
use Rattle.rr_eval.specs.declared.problem.Answer.{Answer}
use Rattle.rr_eval.specs.declared.problem.Answer.TheVariants.{Gave}
use Rattle.rr_eval.specs.Frames.{means, runs_in, first_tree, unwind, outcome_of}
use Rattle.rr_eval.specs.Operators.{with_literal}
use Rattle.rr_eval.specs.Requests.{Course}
use Rattle.rr_eval.specs.Rules.{rule, on_value, arguments, finish}
use Rattle.rr_eval.specs.Script.{Script, Ret, Ended, after}
use Rattle.rr_eval.specs.Splats.{spread}
use Rattle.rr_eval.specs.Turns.{context_of, code_of, state_of, remaining, after_values}
use Rattle.rr_eval.specs.Usual.{TakesNow, MakesNow, MakesThen, MakeFirst, HoldsMore}
use Rattle.rr_eval.specs.View.{View}
use Rattle.rr_eval.proofs.Depth.{meaning_rule}
use Rattle.rr_eval.proofs.Entered.{stepped}
use Rattle.rr_eval.proofs.QuickParts.{same_state}
use Rattle.rr_eval.proofs.Unwind.{rest_push}

-- the text of a literal is made
pub literal_made : (p : Program) (m : View) (t u : Table) (tree : Tree) (i : ℕ) (v : Ref) → tree ≡ text i → v ≡ Local (length t.slots) → u ≡ with_literal p.freezes (slice_index_or (context_of p).texts i []) t → MakesNow p m t tree 1 v u
literal_made p m t u tree i v at name made = λ h n.
    let c = code_of p h.world in
    let s = state_of p m t h in
    let one : 1 + n ≡ suc n = omega arith in
    ap (λ x. means c x s (1 + n)) at
    ∙ ap (means c (text i) s) one
    ∙ meaning_rule (context_of p) h.world (text i) s n
    ∙ ap (λ x. Ended (Gave x) (state_of p m (with_literal p.freezes (slice_index_or (context_of p).texts i []) t) h) n) (sym name)
    ∙ ap (λ k. Ended (Gave v) (state_of p m k h) n) (sym made)

-- what is evaluated next is made
pub made_here : (p : Program) (m : View) (t u : Table) (here k : ℕ) (v : Ref) (h : Course) → m.control ≡ Enter here → MakesNow p m t (tree_at p.nodes.items here) 1 v u → 0 < m.left → k ≡ m.left - 1
    → remaining p m t h ≡ remaining p (record m { control = Give (Gave v); left = k }) u h
made_here p m t u here k v h at makes some less =
    let c = code_of p h.world in
    let spent : m.left ≡ 1 + k = omega (arith, less, some) in
    ap (λ x. outcome_of c m.frames m.held x (state_of p m t h) m.left) at
    ∙ ap (λ i. unwind c (reverse m.frames) m.held (means c (tree_at p.nodes.items here) (state_of p m t h) i)) spent
    ∙ ap (unwind c (reverse m.frames) m.held) (makes h k)

-- the state is the same where more values are held
pub makes_before : (p : Program) (m n : View) (t u : Table) (tree : Tree) (steps : ℕ) (v : Ref) → HoldsMore m n → MakesNow p n t tree steps v u → MakesNow p m t tree steps v u
makes_before p m n t u tree steps v is makes = λ h i.
    ap (λ s. means (code_of p h.world) tree s (steps + i)) (sym (same_state p m n t h is))
    ∙ makes h i
    ∙ ap (λ s. Ended (Gave v) s i) (same_state p m n u h is)

-- the next part of a list, which is no splat
argument_makes : (p : Program) (m : View) (t u : Table) (end rest steps : ℕ) (v : Ref) (stand : List Ref) (next : List Ref → Script) → is_splat (tree_at p.nodes.items (end - suc rest)) ≡ false → MakesNow p m t (tree_at p.nodes.items (end - suc rest)) steps v u
    → MakesThen p m t (arguments (context_of p) (trees_before p.nodes.items end (suc rest)) stand next) steps u (arguments (context_of p) (trees_before p.nodes.items end rest) (stand ++ v ∷ []) next)
argument_makes p m t u end rest steps v stand next plain makes = λ h n.
    let own = context_of p in
    let ns = p.nodes.items in
    let tree = tree_at ns (end - suc rest) in
    let go_on = λ (ws : List Ref). arguments own (trees_before ns end rest) (stand ++ ws) next in
    ap (λ o. after o (λ (a : Answer). runs_in (code_of p h.world) (on_value (λ w. spread own (is_splat tree) w go_on) a))) (makes h n)
    ∙ ap (λ b. runs_in (code_of p h.world) (spread own b v go_on) (state_of p m u h) n) plain

-- one more part of a list is evaluated
pub made_more : (p : Program) (m : View) (t u w : Table) (trees : List Tree) (end spent rest steps place more : ℕ) (vs ws : List Ref) (v : Ref) → MakeFirst p m t trees spent vs u (trees_before p.nodes.items end rest) → 0 < rest → place ≡ end - rest → more ≡ rest - 1 → ws ≡ vs ++ v ∷ []
    → is_splat (tree_at p.nodes.items place) ≡ false → MakesNow p m u (tree_at p.nodes.items place) steps v w → MakeFirst p m t trees (spent + steps) ws w (trees_before p.nodes.items end more)
made_more p m t u w trees end spent zero steps place more vs ws v first some at less is plain makes = absurd (omega (arith, some))
made_more p m t u w trees end spent (suc rest) steps place more vs ws v first some at less is plain makes = λ stand next h n.
    let c = code_of p h.world in
    let own = context_of p in
    let ns = p.nodes.items in
    let script = λ (k : ℕ) (l : List Ref). arguments own (trees_before ns end k) l next in
    let no_splat = subst (λ i. is_splat (tree_at ns i) ≡ false) at plain in
    let its = subst (λ i. MakesNow p m u (tree_at ns i) steps v w) at makes in
    let fewer : rest ≡ more = omega (arith, less) in
    let sum : spent + steps + n ≡ spent + (steps + n) = omega arith in
    let values : (stand ++ vs) ++ v ∷ [] ≡ stand ++ ws = append_assoc stand vs (v ∷ []) ∙ ap (λ l. stand ++ l) (sym is) in
    ap (λ k. runs_in c (arguments own trees stand next) (state_of p m t h) k) sum
    ∙ first stand next h (steps + n)
    ∙ argument_makes p m u w end rest steps v (stand ++ vs) next no_splat its h n
    ∙ ap (λ l. runs_in c (script rest l) (state_of p m w h) n) values
    ∙ ap (λ k. runs_in c (script k (stand ++ ws)) (state_of p m w h) n) fewer

-- A node comes to what is done with the values that are held.
pub held_makes : (p : Program) (m n : View) (t u : Table) (here base steps end : ℕ) (target : Target) (next : Script) (h : Course) → m.control ≡ Enter here → base ≡ length m.held → HoldsMore m n → MakesThen p m t (rule (context_of p) (tree_at p.nodes.items here)) steps u next → steps < m.left
    → remaining p m t h ≡ after_values p n u (Argument target end 0 base) next h (n.left - (steps + 1))
held_makes p m n t u here base steps end target next h at all is makes less =
    let c = code_of p h.world in
    let s = state_of p m t h in
    let left = is.left in
    let k = n.left - (steps + 1) in
    let tree = tree_at p.nodes.items here in
    let one : m.left ≡ suc (m.left - 1) = omega (arith, less) in
    let others : m.left - 1 ≡ steps + k = omega (arith, less, left) in
    stepped p m t (m.left - 1) tree (ap (first_tree p.nodes.items) at) one h
    ∙ ap (λ i. unwind c (reverse m.frames) m.held (runs_in c (rule (context_of p) tree) s i)) others
    ∙ ap (unwind c (reverse m.frames) m.held) (makes h k)
    ∙ ap (λ fs. unwind c (reverse fs) m.held (runs_in c next (state_of p m u h) k)) (sym is.frames)
    ∙ ap (λ l. unwind c (reverse n.frames) l (runs_in c next (state_of p m u h) k)) (sym is.held)
    ∙ ap (λ b. unwind c (reverse n.frames) (take b n.held) (runs_in c next (state_of p m u h) k)) (sym all)
    ∙ ap (λ x. unwind c (reverse n.frames) (take base n.held) (runs_in c next x k)) (sym (same_state p m n u h is))

-- a single statement takes one step more
pub single_takes : (p : Program) (m : View) (t : Table) (tree inner : Tree) (steps : ℕ) (v : Ref) → tree ≡ sequence (listed (inner ∷ [])) → TakesNow p m t inner steps v → TakesNow p m t tree (steps + 1) v
single_takes p m t tree inner steps v at takes = λ h n.
    let c = code_of p h.world in
    let s = state_of p m t h in
    let sum : steps + 1 + n ≡ suc (steps + n) = omega arith in
    ap (λ x. means c x s (steps + 1 + n)) at
    ∙ ap (means c (sequence (listed (inner ∷ []))) s) sum
    ∙ meaning_rule (context_of p) h.world (sequence (listed (inner ∷ []))) s (steps + n)
    ∙ ap (λ o. after o (λ (a : Answer). runs_in c (Ret a))) (takes h n)

-- the parts of a list are evaluated, all but these, and their values are held
pub list_makes : (p : Program) (m n : View) (t u : Table) (here base steps end rest : ℕ) (target : Target) (trees : List Tree) (h : Course) → m.control ≡ Enter here → rule (context_of p) (tree_at p.nodes.items here) ≡ arguments (context_of p) trees [] (finish (context_of p) target)
    → base ≡ length m.held → HoldsMore m n → MakeFirst p m t trees steps (drop (length m.held) n.held) u (trees_before p.nodes.items end rest) → steps < m.left
    → remaining p m t h ≡ after_values p n u (Argument target end 0 base) (arguments (context_of p) (trees_before p.nodes.items end rest) (drop base n.held) (finish (context_of p) target)) h (n.left - (steps + 1))
list_makes p m n t u here base steps end rest target trees h at script all is makes less =
    let own = context_of p in
    let others = trees_before p.nodes.items end rest in
    let its = subst (λ b. MakeFirst p m t trees steps (drop b n.held) u others) (sym all) makes in
    held_makes p m n t u here base steps end target (arguments own others (drop base n.held) (finish own target)) h at all is
    (λ g k. ap (λ r. runs_in (code_of p g.world) r (state_of p m t g) (steps + k)) script ∙ its [] (finish own target) g k) less

-- the last of them is given to a frame that waits for it
pub last_given : (p : Program) (n : View) (u : Table) (base end rest k : ℕ) (held : List Ref) (last : Ref) (fs : List Frame) (target : Target) (h : Course) → rest ≡ 0 → n.held ≡ held ++ last ∷ [] → base ≤ length held → fs ≡ n.frames ++ Argument target end 0 base ∷ []
    → after_values p n u (Argument target end 0 base) (arguments (context_of p) (trees_before p.nodes.items end rest) (drop base n.held) (finish (context_of p) target)) h k
    ≡ remaining p (record n { control = Give (Gave last); frames = fs; held = held; left = k }) u h
last_given p n u base end rest k held last fs target h none is le pushed =
    let c = code_of p h.world in
    let s = state_of p n u h in
    let f = Argument target end 0 base in
    let next = λ (r : ℕ) (l : List Ref). runs_in c (arguments (context_of p) (trees_before p.nodes.items end r) l (finish (context_of p) target)) s k in
    ap (λ r. unwind c (reverse n.frames) (take base n.held) (next r (drop base n.held))) none
    ∙ ap (λ l. unwind c (reverse n.frames) (take base l) (next 0 (drop base l))) is
    ∙ ap (λ l. unwind c (reverse n.frames) l (next 0 (drop base (held ++ last ∷ [])))) (take-append-le base held (last ∷ []) le)
    ∙ ap (λ l. unwind c (reverse n.frames) (take base held) (next 0 l)) (drop-append-le base held (last ∷ []) le)
    ∙ sym (rest_push c n.frames f held (Ended (Gave last) s k))
    ∙ ap (λ l. unwind c (reverse l) held (Ended (Gave last) s k)) (sym pushed)

-- the text of a literal, where there is memory for it
pub literal_makes : (r : Option Ref) (p : Program) (m : View) (t u : Table) (tree : Tree) (i : ℕ) → tree ≡ text i → IfSome r (λ v. v ≡ Local (length t.slots)) → IfSome r (λ _. u ≡ with_literal p.freezes (slice_index_or (context_of p).texts i []) t) → IfSome r (λ v. MakesNow p m t tree 1 v u)
literal_makes None p m t u tree i at name made = tt
literal_makes (Some v) p m t u tree i at name made = literal_made p m t u tree i v at name made

-- it is no splat
pub literal_plain : (r : Option Ref) (tree : Tree) (i : ℕ) → tree ≡ text i → IfSome r (λ _. is_splat tree ≡ false)
literal_plain None tree i at = tt
literal_plain (Some v) tree i at = ap is_splat at
