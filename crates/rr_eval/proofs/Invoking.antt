-- A method is called, and it ends.
use Rattle.std.proofs.Common.{◌≡◌, ◌<◌, ℕ, zero, suc, arith, slice_get, ◌-◌, ◌∙◌, take, slice_index_or, Option, None, sym, ap, refl, nat_lt, nat_eq, Bool, true, false, if◌then◌else◌, List, [], ◌∷◌, ◌++◌, length, reverse, Some, Result, Ok, Err, OnOk, IfOk, IfErr, subst}
use Rattle.rr_base.specs.declared.fault.Fault.{Fault}
use Rattle.rr_space.specs.Tables.{Table}
use Rattle.rr_frames.specs.Frames.{Stack, Frame as Activated, frame_at, no_frame, laid, left}
use Rattle.std.proofs.lemmas.Bool.Decides.{nat_tests}
use Rattle.std.specs.Option.{option_map}
use Rattle.std.proofs.lemmas.List.{map_push, take-map, length-map}
use Rattle.std.proofs.Math.ListN.{get_or-map}
use Rattle.rr_tree.specs.Tree.{Tree, tree_at}
use Rattle.rr_tree.specs.declared.node.Node.{Node}
use Rattle.rr_eval.specs.declared.call_stack.CallValue.{CallValue}
use Rattle.rr_eval.specs.declared.call_stack.CallValue.TheVariants.{Method}
use Rattle.rr_eval.specs.declared.call_stack.Entry.{Entry}
use Rattle.rr_eval.specs.declared.call_stack.Entry.TheVariants.{OfMethod, OfBlock}
use Rattle.rr_space.specs.declared.refer.Ref.{Ref}
use Rattle.rr_builtin.specs.declared.problem.Problem.TheVariants.{Count, TooDeep}
use Rattle.rr_eval.specs.declared.problem.Problem.TheVariants.{BuiltIn}
use Rattle.rr_eval.specs.declared.problem.Answer.{Answer}
use Rattle.rr_eval.specs.declared.problem.Response.{Response}
use Rattle.rr_eval.specs.declared.problem.Response.TheVariants.{Gives, Throws, Fails}
use Rattle.rr_eval.specs.declared.problem.Answer.TheVariants.{Gave, Raised, Broke, Done, Returned, Ends}
use Rattle.rr_eval.specs.declared.frame.Frame.{Frame}
use Rattle.rr_eval.specs.declared.asking.Asking.{Asking}
use Rattle.rr_eval.specs.declared.iterating.Iterating.{Iterating}
use Rattle.rr_eval.specs.declared.frame.Frame.TheVariants as frames
use Rattle.rr_eval.specs.Script.{State, Script, Ret, Go, Do, Outcome, after}
use Rattle.rr_eval.specs.Rules.{Context, throw, on_value, framed, with_frame, left_by, activation_in}
use Rattle.rr_eval.specs.Dispatch.{counted, valued_response}
use Rattle.rr_eval.specs.Frames.{Code, means, runs_in, resumed, unwind, waits_for, Nested}
use Rattle.rr_eval.specs.Turns.{IsNested, Stands, blocks_of, state_of}
use Rattle.rr_eval.specs.Blocks.{without_frame}
use Rattle.rr_eval.specs.Requests.{Course}
use Rattle.rr_tree.specs.declared.program.Program.{Program}
use Rattle.rr_eval.specs.View.{View}
use Rattle.rr_eval.proofs.Unwind.{rest_push}

-- the frames by what they are
pub stack_is : (s : Stack) (fs : List Activated) (limit : ℕ) → s.frames ≡ fs → s.limit ≡ limit → s ≡ record { frames = fs; limit = limit }
stack_is s fs limit e f = ap (λ x. record { frames = x; limit = s.limit }) e ∙ ap (λ x. record { frames = fs; limit = x }) f

-- the value of a call is the method's
pub of_method : (r : Response) → valued_response Method r ≡ r
of_method (Gives v) = refl
of_method (Throws e) = refl
of_method (Fails e) = refl

-- what passes
pub value_passes : (next : Ref → Script) (a : Answer) → ((v : Ref) → a ≡ Gave v → ⊥) → on_value next a ≡ Ret a
value_passes next (Gave v) other = absurd (other v refl)
value_passes next (Raised e) other = refl
value_passes next (Broke v) other = refl
value_passes next (Done v) other = refl
value_passes next (Returned v) other = refl
value_passes next (Ends number v) other = refl

-- a frame that lets pass what is no value
pub record IsUsual (f : Frame) : Type 0 where
  pub no_back : (by : CallValue) → f ≡ frames.Back by → ⊥
  pub no_past : f ≡ frames.Past → ⊥
  pub no_condition : (until : Bool) (body loop : ℕ) → f ≡ frames.Condition until body loop → ⊥
  pub no_body : (loop : ℕ) → f ≡ frames.Body loop → ⊥
  pub no_rescue : (end count otherwise : ℕ) → f ≡ frames.Rescue end count otherwise → ⊥
  pub no_handling : (old : Ref) → f ≡ frames.Handling old → ⊥
  pub no_ensure : (part : ℕ) → f ≡ frames.Ensure part → ⊥
  pub no_asking : (a : Asking) → f ≡ frames.Asking a → ⊥
  pub no_round : (i : Iterating) → f ≡ frames.Round i → ⊥

pub answer_passes : (c : Code) (f : Frame) (stand : List Ref) (a : Answer) → IsUsual f → ((v : Ref) → a ≡ Gave v → ⊥) → resumed c f stand a ≡ Ret a
answer_passes c (frames.Back by) stand a usual other = absurd (usual.no_back by refl)
answer_passes c frames.Past stand a usual other = absurd (usual.no_past refl)
answer_passes c (frames.Condition until body loop) stand a usual other = absurd (usual.no_condition until body loop refl)
answer_passes c (frames.Body loop) stand a usual other = absurd (usual.no_body loop refl)
answer_passes c (frames.Rescue end count otherwise) stand a usual other = absurd (usual.no_rescue end count otherwise refl)
answer_passes c (frames.Handling old) stand a usual other = absurd (usual.no_handling old refl)
answer_passes c (frames.Ensure part) stand a usual other = absurd (usual.no_ensure part refl)
answer_passes c (frames.Asking i) stand a usual other = absurd (usual.no_asking i refl)
answer_passes c (frames.Round i) stand a usual other = absurd (usual.no_round i refl)
answer_passes c f stand (Gave v) usual other = absurd (other v refl)
answer_passes c _ stand (Raised e) usual other = refl
answer_passes c _ stand (Broke v) usual other = refl
answer_passes c _ stand (Done v) usual other = refl
answer_passes c _ stand (Returned v) usual other = refl
answer_passes c _ stand (Ends number v) usual other = refl

-- a body in a frame of its own begins, where there may be one more
waiting_push : (c : Code) (fs : List Frame) (entry : Entry) (held : List Ref) (o : Outcome) → unwind c (reverse fs) held (after o (λ a. runs_in c (left_by c.context entry a))) ≡ unwind c (reverse (fs ++ waits_for entry ∷ [])) held o
waiting_push c fs (OfMethod call) held o = sym (rest_push c fs (frames.Back call.value) held o)
waiting_push c fs (OfBlock home) held o = sym (rest_push c fs frames.Past held o)

pub enters : (c : Code) (fs : List Frame) (held : List Ref) (entry : Entry) (parameters size : ℕ) (vs : List Ref) (block : Option ℕ) (body : ℕ) (new : Stack) (blocks more : List (Option ℕ)) (s : State) (n : ℕ)
    → nat_lt (length s.memory.calls.frames) s.memory.calls.limit ≡ true → s.memory.blocks ≡ blocks_of c.nodes blocks → more ≡ blocks ++ block ∷ []
    → new.frames ≡ s.memory.calls.frames ++ record { variables = laid parameters size vs; activation = activation_in entry s.memory.calls.frames } ∷ [] → new.limit ≡ s.memory.calls.limit
    → unwind c (reverse fs) held (runs_in c (framed c.context entry parameters size vs (option_map (tree_at c.nodes) block) (tree_at c.nodes body) s.memory.calls) s n)
    ≡ unwind c (reverse (fs ++ waits_for entry ∷ [])) held (means c (tree_at c.nodes body) (record s { memory = record s.memory { calls = new; blocks = blocks_of c.nodes more } }) n)
unfolding blocks_of
enters c fs held entry parameters size vs block body new blocks more s n room are push frames limit =
    let f : Activated = record { variables = laid parameters size vs; activation = activation_in entry s.memory.calls.frames } in
    let tree = tree_at c.nodes body in
    let b = option_map (tree_at c.nodes) block in
    let calls = stack_is new (s.memory.calls.frames ++ f ∷ []) s.memory.calls.limit frames limit in
    let all : blocks_of c.nodes more ≡ s.memory.blocks ++ b ∷ [] = ap (blocks_of c.nodes) push ∙ map_push (option_map (tree_at c.nodes)) blocks block ∙ ap (λ l. l ++ b ∷ []) (sym are) in
    ap (λ x. unwind c (reverse fs) held (runs_in c (if x then Do (with_frame f b) (Go tree (left_by c.context entry)) else throw c.context (BuiltIn TooDeep)) s n)) room
    ∙ waiting_push c fs entry held (means c tree (record s { memory = with_frame f b s.memory }) n)
    ∙ ap (λ k. unwind c (reverse (fs ++ waits_for entry ∷ [])) held (means c tree (record s { memory = record s.memory { calls = k; blocks = s.memory.blocks ++ b ∷ [] } }) n)) (sym calls)
    ∙ ap (λ l. unwind c (reverse (fs ++ waits_for entry ∷ [])) held (means c tree (record s { memory = record s.memory { calls = new; blocks = l } }) n)) (sym all)

-- there may be no more
pub too_deep : (c : Context) (entry : Entry) (parameters size : ℕ) (vs : List Ref) (b : Option Tree) (body : Tree) (s : Stack) → nat_lt (length s.frames) s.limit ≡ false → throw c (BuiltIn TooDeep) ≡ framed c entry parameters size vs b body s
too_deep c entry parameters size vs b body s full =
    ap (λ x. if x then Do (with_frame (record { variables = laid parameters size vs; activation = activation_in entry s.frames }) b) (Go body (left_by c entry)) else throw c (BuiltIn TooDeep)) (sym full)

-- as many values as are wanted, or not
pub as_many : (c : Context) (wanted : ℕ) (vs : List Ref) (next : Script) → length vs ≡ wanted → next ≡ counted c wanted vs next
as_many c wanted vs next same =
    let e : nat_eq (length vs) wanted ≡ true = grind (arith, nat_tests) in
    ap (λ t. if t then next else throw c (BuiltIn (Count (length vs) wanted wanted))) (sym e)

pub others : (c : Context) (wanted : ℕ) (vs : List Ref) (next : Script) → (length vs ≡ wanted → ⊥) → throw c (BuiltIn (Count (length vs) wanted wanted)) ≡ counted c wanted vs next
others c wanted vs next not =
    let e : nat_eq (length vs) wanted ≡ false = grind (arith, nat_tests) in
    ap (λ t. if t then next else throw c (BuiltIn (Count (length vs) wanted wanted))) (sym e)

-- an element of a list, whatever stands past its end
pub same_there : {A : Type 0} (xs : List A) (i : ℕ) (d e : A) → i < length xs → slice_index_or xs i d ≡ slice_index_or xs i e
same_there [] i d e lt = absurd (omega (arith, lt))
same_there (x ∷ xs) zero d e lt = refl
same_there (x ∷ xs) (suc i) d e lt = same_there xs i d e (omega (arith, lt))

-- what stands past the end of a list
past_or : {A : Type 0} (xs : List A) (i : ℕ) (d : A) → slice_get xs i ≡ None → slice_index_or xs i d ≡ d
past_or [] i d is = refl
past_or (y ∷ ys) zero d is = absurd (cc is)
past_or (y ∷ ys) (suc i) d is = past_or ys i d is

unmapped : {A B : Type 0} (f : A → B) (o : Option A) → option_map f o ≡ None → o ≡ None
unmapped f None is = refl
unmapped f (Some x) is = absurd (cc is)

-- without the last one of blocks
pub blocks_left : (ns : List Node) (blocks : List (Option ℕ)) → take (length (blocks_of ns blocks) - 1) (blocks_of ns blocks) ≡ blocks_of ns (take (length blocks - 1) blocks)
unfolding blocks_of
blocks_left ns blocks =
    ap (λ n. take (n - 1) (blocks_of ns blocks)) (length-map blocks (option_map (tree_at ns)))
    ∙ take-map (option_map (tree_at ns)) (length blocks - 1) blocks

-- the block of a frame
pub block_there : (ns : List Node) (blocks : List (Option ℕ)) (number : ℕ) → slice_index_or (blocks_of ns blocks) number None ≡ option_map (tree_at ns) (slice_index_or blocks number None)
unfolding blocks_of
block_there ns blocks number = get_or-map (option_map (tree_at ns)) blocks number None

-- what a frame has beside its variables, past the frames
pub no_frame_there : (fs : List Activated) (number : ℕ) → option_map (λ f. f.activation) (slice_get fs number) ≡ None → (frame_at number fs).activation ≡ no_frame.activation
no_frame_there fs number is = ap (λ f. f.activation) (past_or fs number no_frame (unmapped (λ f. f.activation) (slice_get fs number) is))

-- there may be one more frame
pub has_room : (s : Stack) → length s.frames < s.limit → nat_lt (length s.frames) s.limit ≡ true
has_room s lt = grind (arith, nat_tests)

-- the program was given none
pub no_blocks : (ns : List Node) → blocks_of ns (None ∷ []) ≡ None ∷ []
unfolding blocks_of
no_blocks ns = refl

-- the last frame goes
pub leaves : (p : Program) (m n : View) (t : Table) (h : Course) → n.calls.frames ≡ left m.calls.frames → n.calls.limit ≡ m.calls.limit → n.blocks ≡ take (length m.blocks - 1) m.blocks → n.rescuing ≡ m.rescuing
    → record (state_of p m t h) { memory = without_frame (state_of p m t h).memory } ≡ state_of p n t h
leaves p m n t h frames limit blocks rescuing =
    let ns = p.nodes.items in
    let calls = stack_is n.calls (left m.calls.frames) m.calls.limit frames limit in
    ap (λ b. record { memory = record { calls = record { frames = left m.calls.frames; limit = m.calls.limit }; blocks = b; table = t; rescuing = m.rescuing }; asked = h.asked }) (blocks_left ns m.blocks ∙ ap (blocks_of ns) (sym blocks))
    ∙ ap (λ k. record { memory = record { calls = k; blocks = blocks_of ns n.blocks; table = t; rescuing = m.rescuing }; asked = h.asked }) (sym calls)
    ∙ ap (λ r. record { memory = record { calls = n.calls; blocks = blocks_of ns n.blocks; table = t; rescuing = r }; asked = h.asked }) (sym rescuing)

-- what holds where something was done
pub on_ok : {A : Type 0} (r : Result A Fault) (P Q : Type 0) → (P → Q) → OnOk r P → OnOk r Q
on_ok (Ok a) P Q f h = f h
on_ok (Err e) P Q f h = tt

pub if_ok : {A : Type 0} (r : Result A Fault) (P Q : A → Type 0) → ((a : A) → P a → Q a) → IfOk r P → IfOk r Q
if_ok (Ok a) P Q f h = f a h
if_ok (Err e) P Q f h = tt

-- what stands is nested
pub nested_still : {A : Type 0} (r : Result A Fault) (m n : View) (t : Table) → IsNested m → OnOk r (IsNested n) → ((t : Table) → IfErr r (λ f. Stands m n t t f)) → IsNested n
nested_still (Ok a) m n t nested done stands = done
nested_still (Err f) m n t nested done stands =
    let is = stands t in
    subst (λ fs. Nested (reverse fs) n.held) (sym is.frames) (subst (λ h. Nested (reverse m.frames) h) (sym is.held) nested)
