-- A method whose first statement ends it.
use Rattle.std.proofs.Common.{◌≡◌, ◌∙◌, ℕ, zero, suc, ◌+◌, ◌-◌, ◌<◌, ◌≤◌, ap, sym, subst, refl, arith, nat_lt, Bool, true, false, if◌then◌else◌, ℤ, List, [], ◌∷◌, ◌++◌, length, reverse, None, Some, ◌⊎◌, inl, inr, nat_eq}
use Rattle.std.proofs.lemmas.Bool.Decides.{nat_tests}
use Rattle.rr_frames.specs.Frames.{Frame as Activated, frame_at}
use Rattle.rr_space.specs.Tables.{Table}
use Rattle.rr_space.specs.declared.refer.Ref.{Ref}
use Rattle.rr_space.specs.declared.refer.Ref.TheVariants.{Int as IntRef, Nil}
use Rattle.rr_tree.specs.Nodes.{trees_before}
use Rattle.rr_tree.specs.Tree.{Tree, nil, choose, return, sequence, empty, then_one, listed, tree_at}
use Rattle.rr_tree.specs.declared.node.BinaryOperator.{BinaryOperator}
use Rattle.rr_tree.specs.declared.node.Node.TheVariants.{Sequence}
use Rattle.rr_tree.specs.declared.program.Program.{Program}
use Rattle.rr_builtin.specs.Objects.{is_truthy}
use Rattle.rr_builtin.specs.declared.problem.Problem.TheVariants.{TooDeep}
use Rattle.rr_eval.specs.declared.call_stack.CallValue.TheVariants.{Method}
use Rattle.rr_eval.specs.declared.call_stack.Entry.TheVariants.{OfMethod}
use Rattle.rr_eval.specs.declared.call_stack.Invocation.{Invocation}
use Rattle.rr_eval.specs.declared.call_stack.Variable.{Variable as Local}
use Rattle.rr_eval.specs.declared.frame.Control.TheVariants.{Enter}
use Rattle.rr_eval.specs.declared.problem.Answer.{Answer}
use Rattle.rr_eval.specs.declared.problem.Answer.TheVariants.{Gave, Returned}
use Rattle.rr_eval.specs.declared.problem.Problem.TheVariants.{BuiltIn, Jump}
use Rattle.rr_eval.specs.declared.simple_parts.SimplePart.{SimplePart}
use Rattle.rr_eval.specs.declared.simple_parts.SimplePart.TheVariants.{WithInt}
use Rattle.rr_eval.specs.BaseCases.{base_of, ending_of, listed_ending_of}
use Rattle.rr_eval.specs.Basics.{throw}
use Rattle.rr_eval.specs.Blocks.{back, framed, is_outside, left_by, with_frame, return_rule}
use Rattle.rr_eval.specs.Context.{Context}
use Rattle.rr_eval.specs.Endings.{EndsInside, EndsNow, ended_with}
use Rattle.rr_eval.specs.Frames.{means, runs_in, unwind}
use Rattle.rr_eval.specs.Nodes.{evaluated_tree}
use Rattle.rr_eval.specs.Requests.{Course}
use Rattle.rr_eval.specs.Rules.{on_value, operation, statements}
use Rattle.rr_eval.specs.Script.{Ret, Do, Go, Ended, after}
use Rattle.rr_eval.specs.SimpleParts.{simple_of}
use Rattle.rr_eval.specs.StraightRounds.{SetsNow}
use Rattle.rr_eval.specs.Turns.{context_of, code_of, state_of, remaining, after_script}
use Rattle.rr_eval.specs.Unframed.{LiesIn, framed_with}
use Rattle.rr_eval.specs.Usual.{ComesTo, TakesNow}
use Rattle.rr_eval.specs.Variables.{read_variable}
use Rattle.rr_eval.specs.View.{View}
use Rattle.rr_eval.proofs.Depth.{meaning_rule}
use Rattle.rr_eval.proofs.Frameless.{frame_above, frame_of, put_up, runs_above, taken_down}
use Rattle.rr_eval.proofs.Simply.{with_int_takes}
use Rattle.rr_eval.proofs.Entered.{entered}
use Rattle.rr_eval.proofs.Lists.{sequence_rule}
use Rattle.rr_eval.proofs.StraightRounds.{choice_sets, next_set, nil_sets}
use Rattle.rr_eval.proofs.Trees.{items_listed}
use Rattle.rr_eval.proofs.Unwind.{after_ended}

-- a part is returned, or is the value itself
ending_is : (tree : Tree) → (ending_of tree ≡ (false, (tree, 1))) ⊎ ((a : Tree) × (tree ≡ return a))
ending_is (return a) = inr (a, refl)
ending_is _ = inl refl

listed_is : (tree : Tree) → (listed_ending_of tree ≡ ending_of tree) ⊎ ((a : Tree) × (tree ≡ sequence (then_one empty a)))
listed_is (sequence (then_one empty a)) = inr (a, refl)
listed_is _ = inl refl

abbrev Known : Type 0
Known = SimplePart × ((Bool × (Tree × ℕ)) × Tree)

choice_is : (tree : Tree) (q : Known) → base_of tree ≡ Some q → (a : Tree) × (b : Tree) × (d : Tree) × (tree ≡ choose a b d)
choice_is (choose a b d) q e = (a, b, d, refl)
choice_is _ q e = absurd (cc e)

-- the choice is a step at least
pub steps_of : (tree : Tree) → 1 ≤ (ending_of tree).1.1
steps_of (return a) = omega arith
steps_of _ = omega arith

listed_steps_of : (tree : Tree) → 1 ≤ (listed_ending_of tree).1.1
listed_steps_of (sequence (then_one empty a)) = omega arith
listed_steps_of (return a) = omega arith
listed_steps_of _ = omega arith

-- a `return` of what has a value
return_ends : (p : Program) (m : View) (t : Table) (a : Tree) (k : ℕ) (v : Ref) → is_outside m.calls.frames ≡ false → TakesNow p m t a k v → EndsNow p m t (return a) (k + 1) (Returned v)
return_ends p m t a k v inside takes = λ h n.
    let c = code_of p h.world in
    let s = state_of p m t h in
    let own = return a in
    let sum : k + 1 + n ≡ suc (k + n) = omega arith in
    ap (means c own s) sum
    ∙ meaning_rule (context_of p) h.world own s (k + n)
    ∙ ap (λ o. after o (λ (r : Answer). runs_in c (on_value (return_rule (context_of p)) r))) (takes h n)
    ∙ ap (λ b. runs_in c (if b then throw (context_of p) Jump else Ret (Returned v)) s n) inside

-- a part that is returned, or is the value itself
ending_ends : (p : Program) (m : View) (t : Table) (tree value : Tree) (returns : Bool) (around k all : ℕ) (v : Ref) → is_outside m.calls.frames ≡ false → ending_of tree ≡ (returns, (value, around)) → all + 1 ≡ k + around → TakesNow p m t value k v → EndsNow p m t tree all (ended_with returns v)
ending_ends p m t tree value returns around k all v inside e sum takes =
    elim (ending_is tree) [
      | inl plain ↦
          let both : (false, (tree, 1)) ≡ (returns, (value, around)) = sym plain ∙ e in
          let at : value ≡ tree = sym (ap (λ q. q.1.0) both) in
          let one : 1 ≡ around = ap (λ q. q.1.1) both in
          let steps : k ≡ all = omega (arith, sum, one) in
          subst (λ b. EndsNow p m t tree all (ended_with b v)) (ap (λ q. q.0) both)
          (subst (λ j. EndsNow p m t tree j (Gave v)) steps (subst (λ z. EndsNow p m t z k (Gave v)) at takes))
      | inr back ↦
          let both : (true, (back.0, 2)) ≡ (returns, (value, around)) = sym (ap ending_of back.1) ∙ e in
          let at : value ≡ back.0 = sym (ap (λ q. q.1.0) both) in
          let two : 2 ≡ around = ap (λ q. q.1.1) both in
          let steps : k + 1 ≡ all = omega (arith, sum, two) in
          subst (λ b. EndsNow p m t tree all (ended_with b v)) (ap (λ q. q.0) both)
          (subst (λ j. EndsNow p m t tree j (Returned v)) steps
          (subst (λ z. EndsNow p m t z (k + 1) (Returned v)) (sym back.1) (return_ends p m t back.0 k v inside (subst (λ z. TakesNow p m t z k v) at takes))))
    ]

-- the same, or a list of it
listed_ends : (p : Program) (m : View) (t : Table) (tree value : Tree) (returns : Bool) (around k all : ℕ) (v : Ref) → is_outside m.calls.frames ≡ false → listed_ending_of tree ≡ (returns, (value, around)) → all + 1 ≡ k + around → TakesNow p m t value k v → EndsNow p m t tree all (ended_with returns v)
listed_ends p m t tree value returns around k all v inside e sum takes =
    elim (listed_is tree) [
      | inl plain ↦ ending_ends p m t tree value returns around k all v inside (sym plain ∙ e) sum takes
      | inr list ↦
          let a = list.0 in
          let own = sequence (then_one empty a) in
          let both : ((ending_of a).0, ((ending_of a).1.0, suc (ending_of a).1.1)) ≡ (returns, (value, around)) = sym (ap listed_ending_of list.1) ∙ e in
          let less : suc (ending_of a).1.1 ≡ around = ap (λ q. q.1.1) both in
          let fewer = all - 1 in
          let inner : ending_of a ≡ (returns, (value, (ending_of a).1.1)) = ap (λ q. (q.0, (q.1.0, (ending_of a).1.1))) both in
          let some : 1 ≤ (ending_of a).1.1 = steps_of a in
          let ends = ending_ends p m t a value returns (ending_of a).1.1 k fewer v inside inner (omega (arith, sum, less, some)) takes in
          subst (λ z. EndsNow p m t z all (ended_with returns v)) (sym list.1) (λ h n.
          let c = code_of p h.world in
          let s = state_of p m t h in
          let one : all + n ≡ suc (fewer + n) = omega (arith, sum, less, some) in
          ap (means c own s) one
          ∙ meaning_rule (context_of p) h.world own s (fewer + n)
          ∙ ap (λ o. after o (λ (r : Answer). runs_in c (Ret r))) (ends h n))
    ]

-- the choice ends, whose condition holds
pub base_ends : (p : Program) (m : View) (t : Table) (tree value other : Tree) (op : BinaryOperator) (x : Local) (z : ℤ) (returns : Bool) (around k all : ℕ) (v r : Ref) → is_outside m.calls.frames ≡ false
    → base_of tree ≡ Some (WithInt op x z, ((returns, (value, around)), other)) → ((c : Context) → operation c op (read_variable x m.calls.frames) (IntRef z) ≡ Ret (Gave r)) → is_truthy r ≡ true → TakesNow p m t value k v → all ≡ k + around + 3
    → EndsNow p m t tree all (ended_with returns v)
base_ends p m t tree value other op x z returns around k all v r inside e is holds takes sum =
    let choice = choice_is tree (WithInt op x z, ((returns, (value, around)), other)) e in
    let a = choice.0 in
    let b = choice.1 in
    let d = choice.2 in
    let made : Known = (simple_of a, (listed_ending_of b, d)) in
    let known : Known = (WithInt op x z, ((returns, (value, around)), other)) in
    let same : Some made ≡ Some known = sym (ap base_of choice.3) ∙ e in
    let both : made ≡ known = cc same in
    let condition = with_int_takes p m t a op x z r (sym (ap (λ q. q.0) both)) is in
    let ending : listed_ending_of b ≡ (returns, (value, around)) = ap (λ q. q.1.0) both in
    let some : 1 ≤ around = subst (λ q. 1 ≤ q.1.1) ending (listed_steps_of b) in
    let less = k + around - 1 in
    let ends = listed_ends p m t b value returns around k less v inside ending (omega (arith, some)) takes in
    subst (λ y. EndsNow p m t y all (ended_with returns v)) (sym choice.3) (λ h n.
    let c = code_of p h.world in
    let s = state_of p m t h in
    let own = choose a b d in
    let parts : all + n ≡ suc (3 + (less + n)) = omega (arith, sum, some) in
    ap (means c own s) parts
    ∙ meaning_rule (context_of p) h.world own s (3 + (less + n))
    ∙ ap (λ o. after o (λ (q : Answer). runs_in c (on_value (λ y. Go (if is_truthy y then b else d) Ret) q))) (condition h (less + n))
    ∙ ap (λ y. runs_in c (Go (if y then b else d) Ret) s (less + n)) holds
    ∙ ap (λ o. after o (λ (q : Answer). runs_in c (Ret q))) (ends h n))

-- statements end with the first one
list_ends : (p : Program) (m : View) (t : Table) (end count place steps : ℕ) (returns : Bool) (v : Ref) → 0 < count → (returns ≡ false → count ≡ 1) → place ≡ end - count → EndsNow p m t (tree_at p.nodes.items place) steps (ended_with returns v)
    → (h : Course) (n : ℕ) → runs_in (code_of p h.world) (statements (trees_before p.nodes.items end count)) (state_of p m t h) (steps + n) ≡ Ended (ended_with returns v) (state_of p m t h) n
list_ends p m t end zero place steps returns v some single at ends = absurd (omega (arith, some))
list_ends p m t end (suc zero) place steps returns v some single at ends = λ h n.
    let its = subst (λ x. EndsNow p m t (tree_at p.nodes.items x) steps (ended_with returns v)) at ends in
    ap (λ o. after o (λ (r : Answer). runs_in (code_of p h.world) (Ret r))) (its h n)
list_ends p m t end (suc (suc more)) place steps true v some single at ends = λ h n.
    let its = subst (λ x. EndsNow p m t (tree_at p.nodes.items x) steps (Returned v)) at ends in
    ap (λ o. after o (λ (r : Answer). runs_in (code_of p h.world) (on_value (λ w. statements (trees_before p.nodes.items end (suc more))) r))) (its h n)
list_ends p m t end (suc (suc more)) place steps false v some single at ends = let one : suc (suc more) ≡ 1 = single refl in absurd (omega (arith, one))

pub sequence_ends : (p : Program) (m : View) (t : Table) (tree : Tree) (end count place steps all : ℕ) (returns : Bool) (v : Ref) → tree ≡ sequence (listed (trees_before p.nodes.items end count)) → 0 < count → (returns ≡ false → count ≡ 1) → place ≡ end - count
    → EndsNow p m t (tree_at p.nodes.items place) steps (ended_with returns v) → all ≡ steps + 1 → EndsNow p m t tree all (ended_with returns v)
sequence_ends p m t tree end count place steps all returns v is some single at ends one = λ h i.
    let c = code_of p h.world in
    let s = state_of p m t h in
    let trees = trees_before p.nodes.items end count in
    let sum : all + i ≡ suc (steps + i) = omega (arith, one) in
    ap (λ z. means c z s (all + i)) is
    ∙ ap (means c (sequence (listed trees)) s) sum
    ∙ meaning_rule (context_of p) h.world (sequence (listed trees)) s (steps + i)
    ∙ ap (λ ts. runs_in c (statements ts) s (steps + i)) (items_listed trees)
    ∙ list_ends p m t end count place steps returns v some single at ends h i

-- a method's frame is not that of a block outside of all methods
first_or_not : (n : ℕ) → (if nat_eq n 0 then nat_lt 0 n else false) ≡ false
first_or_not zero = refl
first_or_not (suc n) = let more : nat_eq (suc n) 0 ≡ false = grind (arith, nat_tests) in ap (λ b. if b then nat_lt 0 (suc n) else false) more

method_inside : (call : Invocation) (parameters size : ℕ) (vs : List Ref) (fs : List Activated) → is_outside (fs ++ frame_of (OfMethod call) parameters size vs fs ∷ []) ≡ false
method_inside call parameters size vs fs =
    let f = frame_of (OfMethod call) parameters size vs fs in
    let last = runs_above fs f in
    ap (λ k. if nat_eq (frame_at k (fs ++ f ∷ [])).activation.root 0 then nat_lt 0 k else false) last
    ∙ ap (λ g. if nat_eq g.activation.root 0 then nat_lt 0 (length fs) else false) (frame_above fs f)
    ∙ first_or_not (length fs)

-- what it returns is the value of the call
back_gives : (p : Program) (m : View) (t : Table) (h : Course) (f : Activated) (returns : Bool) (v : Ref) (n : ℕ) → runs_in (code_of p h.world) (back Method (ended_with returns v)) (state_of p (framed_with f m) t h) n ≡ Ended (Gave v) (state_of p m t h) n
back_gives p m t h f true v n = ap (λ x. Ended (Gave v) x n) (taken_down p m t h f)
back_gives p m t h f false v n = ap (λ x. Ended (Gave v) x n) (taken_down p m t h f)

-- a method that ends so is done without its frame
pub method_ends : (p : Program) (m : View) (t : Table) (call : Invocation) (parameters size home steps : ℕ) (vs : List Ref) (tree : Tree) (returns : Bool) (v : Ref) → call.value ≡ Method
    → nat_lt (length m.calls.frames) m.calls.limit ≡ true → LiesIn vs home (frame_of (OfMethod call) parameters size vs m.calls.frames) → EndsInside p m vs home tree steps (ended_with returns v)
    → ComesTo p m t (framed (context_of p) (OfMethod call) parameters size vs None tree m.calls) steps (Ret (Gave v))
method_ends p m t call parameters size home steps vs tree returns v by room lies ends = λ h i.
    let own = context_of p in
    let c = code_of p h.world in
    let s = state_of p m t h in
    let f = frame_of (OfMethod call) parameters size vs m.calls.frames in
    let next = λ (a : Answer). runs_in c (left_by own (OfMethod call) a) in
    let inside = method_inside call parameters size vs m.calls.frames in
    ap (λ x. runs_in c (if x then Do (with_frame f None) (Go tree (left_by own (OfMethod call))) else throw own (BuiltIn TooDeep)) s (steps + i)) room
    ∙ ap (λ x. after (means c tree x (steps + i)) next) (put_up p m t h f)
    ∙ ap (λ o. after o next) (ends f t lies inside h i)
    ∙ ap (λ b. runs_in c (back b (ended_with returns v)) (state_of p (framed_with f m) t h) i) by
    ∙ back_gives p m t h f returns v i

-- the choice chooses nothing, whose condition does not hold
pub base_passes : (p : Program) (m : View) (t : Table) (tree other : Tree) (op : BinaryOperator) (x : Local) (z : ℤ) (e : Bool × (Tree × ℕ)) (r : Ref) → base_of tree ≡ Some (WithInt op x z, (e, other))
    → ((c : Context) → operation c op (read_variable x m.calls.frames) (IntRef z) ≡ Ret (Gave r)) → is_truthy r ≡ false → other ≡ nil → SetsNow p m t tree 5 Nil m
base_passes p m t tree other op x z e r known is fails none =
    let choice = choice_is tree (WithInt op x z, (e, other)) known in
    let a = choice.0 in
    let b = choice.1 in
    let d = choice.2 in
    let made : Known = (simple_of a, (listed_ending_of b, d)) in
    let taken : Known = (WithInt op x z, (e, other)) in
    let same : Some made ≡ Some taken = sym (ap base_of choice.3) ∙ known in
    let both : made ≡ taken = cc same in
    let condition = with_int_takes p m t a op x z r (sym (ap (λ q. q.0) both)) is in
    let nothing : d ≡ nil = ap (λ q. q.1.1) both ∙ none in
    let chosen : d ≡ (if is_truthy r then b else d) = ap (λ y. if y then b else d) (sym fails) in
    choice_sets p m m t 3 1 5 tree a b d r Nil choice.3 condition (subst (λ y. SetsNow p m t y 1 Nil m) chosen (nil_sets p m t d nothing)) refl

-- its other part comes next
pub base_chooses : (p : Program) (m : View) (t : Table) (tree other : Tree) (op : BinaryOperator) (x : Local) (z : ℤ) (e : Bool × (Tree × ℕ)) (r : Ref) → base_of tree ≡ Some (WithInt op x z, (e, other))
    → ((c : Context) → operation c op (read_variable x m.calls.frames) (IntRef z) ≡ Ret (Gave r)) → is_truthy r ≡ false → (h : Course) (n : ℕ) → means (code_of p h.world) tree (state_of p m t h) (4 + n) ≡ means (code_of p h.world) other (state_of p m t h) n
base_chooses p m t tree other op x z e r known is fails = λ h n.
    let choice = choice_is tree (WithInt op x z, (e, other)) known in
    let a = choice.0 in
    let b = choice.1 in
    let d = choice.2 in
    let made : Known = (simple_of a, (listed_ending_of b, d)) in
    let taken : Known = (WithInt op x z, (e, other)) in
    let same : Some made ≡ Some taken = sym (ap base_of choice.3) ∙ known in
    let both : made ≡ taken = cc same in
    let condition = with_int_takes p m t a op x z r (sym (ap (λ q. q.0) both)) is in
    let c = code_of p h.world in
    let s = state_of p m t h in
    let parts : 4 + n ≡ suc (3 + n) = omega arith in
    ap (λ y. means c y s (4 + n)) choice.3
    ∙ ap (means c (choose a b d) s) parts
    ∙ meaning_rule (context_of p) h.world (choose a b d) s (3 + n)
    ∙ ap (λ o. after o (λ (q : Answer). runs_in c (on_value (λ y. Go (if is_truthy y then b else d) Ret) q))) (condition h n)
    ∙ ap (λ y. runs_in c (Go (if y then b else d) Ret) s n) fails
    ∙ after_ended (means c d s n)
    ∙ ap (λ y. means c y s n) (ap (λ q. q.1.1) both)

-- some statements go on behind the first one
pub passed_on : (p : Program) (m : View) (t : Table) (here first count rest k : ℕ) (h : Course) → m.control ≡ Enter here → tree_at p.nodes.items here ≡ evaluated_tree p.nodes.items (Sequence first count) → SetsNow p m t (tree_at p.nodes.items first) 5 Nil m → count ≡ suc (suc rest) → m.left ≡ k + 6
    → remaining p m t h ≡ after_script p m t (statements (trees_before p.nodes.items (first + count) (suc rest))) h k
passed_on p m t here first count rest k h at is sets many less =
    let ns = p.nodes.items in
    let c = code_of p h.world in
    let s = state_of p m t h in
    let some : m.left ≡ suc (5 + k) = omega (arith, less) in
    let place : first ≡ first + count - suc (suc rest) = omega (arith, many) in
    let its = subst (λ x. SetsNow p m t (tree_at ns x) 5 Nil m) place sets in
    entered p m t here (5 + k) (Sequence first count) _ at some is (sequence_rule ns (context_of p) first count) h
    ∙ ap (λ n. after_script p m t (statements (trees_before ns (first + count) n)) h (5 + k)) many
    ∙ ap (unwind c (reverse m.frames) m.held) (next_set p m m t (first + count) (suc rest) 5 Nil its h k)

-- a single one goes on with the other part
pub other_comes : (p : Program) (m : View) (t : Table) (here first other k : ℕ) (h : Course) → m.control ≡ Enter here → tree_at p.nodes.items here ≡ evaluated_tree p.nodes.items (Sequence first 1)
    → means (code_of p h.world) (tree_at p.nodes.items first) (state_of p m t h) (4 + k) ≡ means (code_of p h.world) (tree_at p.nodes.items other) (state_of p m t h) k → m.left ≡ k + 5 → remaining p m t h ≡ remaining p (record m { control = Enter other; left = k }) t h
other_comes p m t here first other k h at is goes less =
    let ns = p.nodes.items in
    let c = code_of p h.world in
    let s = state_of p m t h in
    let some : m.left ≡ suc (4 + k) = omega (arith, less) in
    let place : first + 1 - 1 ≡ first = omega arith in
    entered p m t here (4 + k) (Sequence first 1) _ at some is (sequence_rule ns (context_of p) first 1) h
    ∙ ap (unwind c (reverse m.frames) m.held) (after_ended (means c (tree_at ns (first + 1 - 1)) s (4 + k)) ∙ ap (λ x. means c (tree_at ns x) s (4 + k)) place ∙ goes)
