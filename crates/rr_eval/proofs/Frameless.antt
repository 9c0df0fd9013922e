-- A frame that is not there: what it sees of the frames below it, and how a method or block ends that is done without it.
use Rattle.std.proofs.Common.{◌≡◌, ◌∙◌, ℕ, suc, ◌+◌, ◌-◌, ◌<◌, ◌≤◌, ap, sym, subst, refl, arith, nat_lt, true, if◌then◌else◌, take, replicate, List, [], ◌∷◌, ◌++◌, length, get_or, set, slice_get, Option, None, Some, Ok, false}
use Rattle.std.specs.List.{All}
use Rattle.std.specs.Option.{option_map}
use Rattle.std.proofs.lemmas.List.{get_or_append_left, get_or-append_right, set-append_left, length-append, take_all}
use Rattle.std.proofs.lemmas.List.Elements.{All-set}
use Rattle.std.proofs.lemmas.Option.{slice_get_within, get_or_from_slice_get}
use Rattle.rr_frames.specs.Frames.{Frame as Activated, frame_at, no_frame, read_at, write_at, laid}
use Rattle.rr_frames.specs.declared.activation.Activation.{Activation}
use Rattle.rr_space.specs.declared.refer.Ref.{Ref}
use Rattle.rr_space.specs.declared.refer.Ref.TheVariants.{Nil}
use Rattle.rr_space.specs.Tables.{Table}
use Rattle.rr_tree.specs.Nodes.{trees_before}
use Rattle.rr_tree.specs.Tree.{Tree, block, sequence, listed, tree_at}
use Rattle.rr_tree.specs.declared.node.Node.{Node}
use Rattle.rr_tree.specs.declared.program.Program.{Program}
use Rattle.rr_eval.specs.declared.call_stack.Variable.{Variable}
use Rattle.rr_eval.specs.declared.call_stack.CallValue.TheVariants.{Method}
use Rattle.rr_eval.specs.declared.call_stack.Entry.{Entry}
use Rattle.rr_eval.specs.declared.call_stack.Entry.TheVariants.{OfMethod, OfBlock}
use Rattle.rr_eval.specs.declared.call_stack.Invocation.{Invocation}
use Rattle.rr_eval.specs.declared.iterating.Ahead.TheVariants.{Another}
use Rattle.rr_eval.specs.declared.iterating.Iterating.{Iterating}
use Rattle.rr_eval.specs.declared.iterating.Visits.{Visits}
use Rattle.rr_eval.specs.declared.problem.Answer.{Answer}
use Rattle.rr_eval.specs.declared.problem.Answer.TheVariants.{Gave}
use Rattle.rr_eval.specs.declared.problem.Problem.TheVariants.{BuiltIn}
use Rattle.rr_builtin.proofs.Gathering.{append_nil}
use Rattle.rr_builtin.specs.declared.problem.Problem.TheVariants.{TooDeep}
use Rattle.rr_frames.specs.declared.activation.Shape.{Shape}
use Rattle.rr_space.proofs.Hands.{append_left}
use Rattle.std.proofs.Math.Seq.{take-append_seam}
use Rattle.std.proofs.lemmas.List.{map_push}
use Rattle.rr_eval.specs.Basics.{throw}
use Rattle.rr_eval.specs.Blocks.{activation_in, back, called, called_as, framed, left_by, shape_in, with_frame, without_frame}
use Rattle.rr_eval.specs.Frames.{evaluates, iterated, means, runs_in}
use Rattle.rr_eval.specs.Iterating.{ahead, continued, continued_by, continued_with, kept, taken_up, takes_array, turn_of, turn_over, turned}
use Rattle.rr_eval.specs.Requests.{Course}
use Rattle.rr_eval.specs.Rules.{statements}
use Rattle.rr_eval.specs.Script.{Ret, Do, Go, Evaluate, TurnPart, Iterated, Ended, after}
use Rattle.rr_eval.specs.StraightRounds.{SetsNow, SetFirst}
use Rattle.rr_eval.specs.Turns.{context_of, code_of, state_of, blocks_of}
use Rattle.rr_eval.specs.Usual.{ComesTo}
use Rattle.rr_eval.specs.Unframed.{LiesIn, SetsInside, framed_with}
use Rattle.rr_eval.specs.Variables.{top, outer, read_variable, write_variable}
use Rattle.rr_eval.specs.Within.{Reach, IsReached, AreVariablesReached}
use Rattle.rr_eval.specs.View.{View}
use Rattle.rr_eval.proofs.Depth.{meaning_rule}
use Rattle.rr_eval.proofs.Holding.{all_cons, itself_within, frame_within}
use Rattle.rr_eval.proofs.Invoking.{leaves}
use Rattle.rr_eval.proofs.Rounds.{turn_means}
use Rattle.rr_eval.proofs.Trees.{items_listed}
use Rattle.rr_eval.proofs.Unwind.{after_ended}

-- a frame below
frame_below : (fs : List Activated) (f : Activated) (number : ℕ) → number < length fs → frame_at number (fs ++ f ∷ []) ≡ frame_at number fs
frame_below fs f number lt = get_or_append_left fs (f ∷ []) no_frame number lt

-- the frame itself
pub frame_above : (fs : List Activated) (f : Activated) → frame_at (length fs) (fs ++ f ∷ []) ≡ f
frame_above fs f =
    let none : length fs - length fs ≡ 0 = omega arith in
    get_or-append_right fs (f ∷ []) (length fs) (length fs) no_frame refl (omega arith) ∙ ap (λ i. get_or (f ∷ []) i no_frame) none

-- it runs
pub runs_above : (fs : List Activated) (f : Activated) → top (fs ++ f ∷ []) ≡ length fs
runs_above fs f = let count = length-append fs (f ∷ []) in omega (arith, count)

-- a frame that is there lies in the same one
mapped : {A B : Type 0} (g : A → B) (o : Option A) (b : B) → option_map g o ≡ Some b → (a : A) × (o ≡ Some a) × (g a ≡ b)
mapped g None b e = absurd (cc e)
mapped g (Some a) b e = (a, refl, cc e)

pub scope_more : (fs : List Activated) (f : Activated) (rest fewer number : ℕ) (a : Activation) → rest ≡ suc fewer → option_map (λ g. g.activation) (slice_get fs number) ≡ Some a → outer rest number (fs ++ f ∷ []) ≡ outer fewer a.home (fs ++ f ∷ [])
scope_more fs f rest fewer number a more e =
    let found = mapped (λ g. g.activation) (slice_get fs number) a e in
    let lt = slice_get_within fs number found.0 found.1 in
    let same : frame_at number (fs ++ f ∷ []) ≡ found.0 = frame_below fs f number lt ∙ get_or_from_slice_get fs number found.0 no_frame found.1 in
    ap (λ k. outer k number (fs ++ f ∷ [])) more
    ∙ ap (λ g. outer fewer g.activation.home (fs ++ f ∷ [])) same
    ∙ ap (λ b. outer fewer b.home (fs ++ f ∷ [])) found.2

-- its own variables
pub reads_own : (fs : List Activated) (f : Activated) (values : List Ref) (home slot : ℕ) (v : Ref) → LiesIn values home f → slice_get values slot ≡ Some v → read_variable (record { depth = 0; slot = slot }) (fs ++ f ∷ []) ≡ v
reads_own fs f values home slot v lies e =
    ap (λ n. read_at n slot (fs ++ f ∷ [])) (runs_above fs f)
    ∙ ap (λ g. get_or g.variables slot Nil) (frame_above fs f)
    ∙ get_or_from_slice_get f.variables slot v Nil (lies.variables slot v e)

-- the frame that has a variable outside of it
outside : (fs : List Activated) (f : Activated) (home depth fewer n : ℕ) → f.activation.home ≡ home → depth ≡ suc fewer → outer fewer home (fs ++ f ∷ []) ≡ n → outer depth (top (fs ++ f ∷ [])) (fs ++ f ∷ []) ≡ n
outside fs f home depth fewer n lies more is =
    ap (λ k. outer k (top (fs ++ f ∷ [])) (fs ++ f ∷ [])) more
    ∙ ap (λ k. outer (suc fewer) k (fs ++ f ∷ [])) (runs_above fs f)
    ∙ ap (λ g. outer fewer g.activation.home (fs ++ f ∷ [])) (frame_above fs f)
    ∙ ap (λ k. outer fewer k (fs ++ f ∷ [])) lies
    ∙ is

pub reads_outside : (fs : List Activated) (f : Activated) (home fewer n : ℕ) (x : Variable) → f.activation.home ≡ home → x.depth ≡ suc fewer → outer fewer home (fs ++ f ∷ []) ≡ n → n < length fs → read_variable x (fs ++ f ∷ []) ≡ read_at n x.slot fs
reads_outside fs f home fewer n x lies more is lt =
    ap (λ k. read_at k x.slot (fs ++ f ∷ [])) (outside fs f home x.depth fewer n lies more is) ∙ ap (λ g. get_or g.variables x.slot Nil) (frame_below fs f n lt)

pub writes_outside : (fs : List Activated) (f : Activated) (home fewer n : ℕ) (x : Variable) (v : Ref) → f.activation.home ≡ home → x.depth ≡ suc fewer → outer fewer home (fs ++ f ∷ []) ≡ n → n < length fs → write_variable x v (fs ++ f ∷ []) ≡ write_at n x.slot v fs ++ f ∷ []
writes_outside fs f home fewer n x v lies more is lt =
    let all = fs ++ f ∷ [] in
    ap (λ k. write_at k x.slot v all) (outside fs f home x.depth fewer n lies more is)
    ∙ ap (λ g. set all n (record g { variables = set g.variables x.slot v })) (frame_below fs f n lt)
    ∙ set-append_left fs (f ∷ []) n (record (frame_at n fs) { variables = set (frame_at n fs).variables x.slot v }) lt

-- what is written is reached
pub set_within : (k : Reach) (fs : List Activated) (number slot : ℕ) (v : Ref) → All (AreVariablesReached k) fs → IsReached k v → All (AreVariablesReached k) (write_at number slot v fs)
set_within k fs number slot v h value =
    let old = frame_at number fs in
    All-set (AreVariablesReached k) fs number (record old { variables = set old.variables slot v })
    (all_cons (IsReached k) old.activation.itself (set old.variables slot v) (itself_within k fs number h) (All-set (IsReached k) old.variables slot v value (frame_within k fs number h))) h

-- a list whose statements are done
pub sequence_sets : (p : Program) (m n : View) (t : Table) (steps end count : ℕ) (tree : Tree) (v : Ref) → tree ≡ sequence (listed (trees_before p.nodes.items end count)) → SetFirst p m t end count 0 steps v n → SetsNow p m t tree (steps + 1) v n
sequence_sets p m n t steps end count tree v is sets = λ h i.
    let c = code_of p h.world in
    let s = state_of p m t h in
    let trees = trees_before p.nodes.items end count in
    let sum : steps + 1 + i ≡ suc (steps + i) = omega arith in
    ap (λ z. means c z s (steps + 1 + i)) is
    ∙ ap (means c (sequence (listed trees)) s) sum
    ∙ meaning_rule (context_of p) h.world (sequence (listed trees)) s (steps + i)
    ∙ ap (λ ts. runs_in c (statements ts) s (steps + i)) (items_listed trees)
    ∙ sets h i

-- a block whose statements are done
pub block_sets : (p : Program) (m n : View) (t : Table) (x parameters size steps end count : ℕ) (tree list : Tree) (v : Ref) → tree ≡ block x parameters size list → list ≡ sequence (listed (trees_before p.nodes.items end count)) → SetFirst p m t end count 0 steps v n → SetsNow p m t tree (steps + 2) v n
block_sets p m n t x parameters size steps end count tree list v is at sets = λ h i.
    let c = code_of p h.world in
    let s = state_of p m t h in
    let own = block x parameters size list in
    let sum : steps + 2 + i ≡ suc (steps + 1 + i) = omega arith in
    ap (λ z. means c z s (steps + 2 + i)) is
    ∙ ap (means c own s) sum
    ∙ meaning_rule (context_of p) h.world own s (steps + 1 + i)
    ∙ ap (λ o. after o (λ (r : Answer). runs_in c (Ret r))) (sequence_sets p m n t steps end count list v at sets h i)

-- the parameters have the values
laid_values : (vs : List Ref) (parameters size slot : ℕ) (v : Ref) → length vs ≡ parameters → parameters ≤ size → slice_get vs slot ≡ Some v → slice_get (laid parameters size vs) slot ≡ Some v
laid_values vs parameters size slot v count fit e =
    let own : take parameters vs ≡ vs = take_all parameters vs (omega (arith, count)) in
    let all : take size vs ≡ vs = take_all size vs (omega (arith, count, fit)) in
    let rest = replicate (size - length (take parameters vs)) Nil in
    subst (λ (xs : List Ref). slice_get (xs ++ rest) slot ≡ Some v) (sym (ap (take size) own ∙ all)) (append_left vs rest slot v e)

-- the frame of a method or block that is called with as many values
abbrev pub frame_of : Entry → ℕ → ℕ → List Ref → List Activated → Activated
frame_of entry parameters size vs frames = record { variables = laid parameters size vs; activation = activation_in entry frames }

pub lies_called : (entry : Entry) (parameters size home : ℕ) (vs : List Ref) (frames : List Activated) → length vs ≡ parameters → parameters ≤ size → (activation_in entry frames).home ≡ home → LiesIn vs home (frame_of entry parameters size vs frames)
lies_called entry parameters size home vs frames count fit lies = record { variables = λ slot v e. laid_values vs parameters size slot v count fit e; lies = lies }

-- it is put up
with_none : (ns : List Node) (blocks : List (Option ℕ)) → blocks_of ns (blocks ++ None ∷ []) ≡ blocks_of ns blocks ++ None ∷ []
unfolding blocks_of
with_none ns blocks = map_push (option_map (tree_at ns)) blocks None

pub put_up : (p : Program) (m : View) (t : Table) (h : Course) (f : Activated) → record (state_of p m t h) { memory = with_frame f None (state_of p m t h).memory } ≡ state_of p (framed_with f m) t h
put_up p m t h f = ap (λ b. record { memory = record { calls = record m.calls { frames = m.calls.frames ++ f ∷ [] }; blocks = b; table = t; rescuing = m.rescuing }; asked = h.asked }) (sym (with_none p.nodes.items m.blocks))

-- it goes
left_push : {A : Type 0} (xs : List A) (x : A) → xs ≡ take (length (xs ++ x ∷ []) - 1) (xs ++ x ∷ [])
left_push xs x =
    let size = length-append xs (x ∷ []) in
    let count : length (xs ++ x ∷ []) - 1 ≡ length xs = omega (arith, size) in
    sym (ap (λ k. take k (xs ++ x ∷ [])) count ∙ take-append_seam xs (x ∷ []))

pub taken_down : (p : Program) (n : View) (t : Table) (h : Course) (f : Activated) → record (state_of p (framed_with f n) t h) { memory = without_frame (state_of p (framed_with f n) t h).memory } ≡ state_of p n t h
taken_down p n t h f = leaves p (framed_with f n) n t h (left_push n.calls.frames f) refl (left_push n.blocks None) refl

-- a body in a frame of its own, which is done without it
framed_sets : (p : Program) (m n : View) (t : Table) (h : Course) (entry : Entry) (parameters size home steps i : ℕ) (vs : List Ref) (tree : Tree) (v : Ref)
    → nat_lt (length m.calls.frames) m.calls.limit ≡ true → LiesIn vs home (frame_of entry parameters size vs m.calls.frames) → SetsInside p m vs home tree steps v n
    → runs_in (code_of p h.world) (framed (context_of p) entry parameters size vs None tree m.calls) (state_of p m t h) (steps + i)
    ≡ runs_in (code_of p h.world) (left_by (context_of p) entry (Gave v)) (state_of p (framed_with (frame_of entry parameters size vs m.calls.frames) n) t h) i
framed_sets p m n t h entry parameters size home steps i vs tree v room lies sets =
    let own = context_of p in
    let c = code_of p h.world in
    let s = state_of p m t h in
    let f = frame_of entry parameters size vs m.calls.frames in
    let next = λ (a : Answer). runs_in c (left_by own entry a) in
    ap (λ x. runs_in c (if x then Do (with_frame f None) (Go tree (left_by own entry)) else throw own (BuiltIn TooDeep)) s (steps + i)) room
    ∙ ap (λ x. after (means c tree x (steps + i)) next) (put_up p m t h f)
    ∙ ap (λ o. after o next) (sets f t lies h i)

-- a method is
pub method_gives : (p : Program) (m : View) (t : Table) (call : Invocation) (parameters size home steps : ℕ) (vs : List Ref) (tree : Tree) (v : Ref) → call.value ≡ Method
    → nat_lt (length m.calls.frames) m.calls.limit ≡ true → LiesIn vs home (frame_of (OfMethod call) parameters size vs m.calls.frames) → SetsInside p m vs home tree steps v m
    → ComesTo p m t (framed (context_of p) (OfMethod call) parameters size vs None tree m.calls) steps (Ret (Gave v))
method_gives p m t call parameters size home steps vs tree v by room lies sets = λ h i.
    let c = code_of p h.world in
    let f = frame_of (OfMethod call) parameters size vs m.calls.frames in
    framed_sets p m m t h (OfMethod call) parameters size home steps i vs tree v room lies sets
    ∙ ap (λ b. runs_in c (back b (Gave v)) (state_of p (framed_with f m) t h) i) by
    ∙ ap (λ x. Ended (Gave v) x i) (taken_down p m t h f)

-- a block is
pub block_gives : (p : Program) (m n : View) (t : Table) (home size steps : ℕ) (value : Ref) (tree : Tree) (b : Option Tree) (v : Ref) → b ≡ Some tree → shape_in (Some tree) ≡ Some (record { parameters = 1; size = size }) → 0 < size
    → nat_lt (length m.calls.frames) m.calls.limit ≡ true → SetsInside p m (value ∷ []) home tree steps v n
    → (h : Course) (i : ℕ) → runs_in (code_of p h.world) (called (context_of p) b home (value ∷ []) (state_of p m t h).memory) (state_of p m t h) (steps + i) ≡ Ended (Gave v) (state_of p n t h) i
block_gives p m n t home size steps value tree b v is shape some room sets = λ h i.
    let own = context_of p in
    let c = code_of p h.world in
    let s = state_of p m t h in
    let f = frame_of (OfBlock home) 1 size (value ∷ []) m.calls.frames in
    let lies = lies_called (OfBlock home) 1 size home (value ∷ []) m.calls.frames refl (omega (arith, some)) refl in
    ap (λ x. runs_in c (called own x home (value ∷ []) s.memory) s (steps + i)) is
    ∙ ap (λ x. runs_in c (called_as own x tree home (value ∷ []) s.memory) s (steps + i)) shape
    ∙ framed_sets p m n t h (OfBlock home) 1 size home steps i (value ∷ []) tree v room lies sets
    ∙ ap (λ x. Ended (Gave v) x i) (taken_down p n t h f)

-- a turn of an iteration is, and what is ahead comes next
pub turn_goes : (p : Program) (m n : View) (t : Table) (h : Course) (i : Iterating) (stand : List Ref) (visits : Visits) (given v w : Ref) (size steps k : ℕ)
    → kept i.visits v stand t ≡ Ok None → ahead i.visits stand t ≡ Another (Some given) None visits → ((shape : Option Shape) → takes_array visits shape ≡ false)
    → shape_in (Some (tree_at p.nodes.items i.block)) ≡ Some (record { parameters = 1; size = size }) → 0 < size → nat_lt (length m.calls.frames) m.calls.limit ≡ true
    → SetsInside p m (given ∷ []) (top m.calls.frames) (tree_at p.nodes.items i.block) steps w n
    → runs_in (code_of p h.world) (continued_with (context_of p) (iterated (code_of p h.world) i stand) v) (state_of p m t h) (steps + k)
    ≡ runs_in (code_of p h.world) (continued_with (context_of p) (iterated (code_of p h.world) (record i { visits = visits }) stand) w) (state_of p n t h) k
turn_goes p m n t h i stand visits given v w size steps k keeps next apart shape some room sets =
    let own = context_of p in
    let c = code_of p h.world in
    let s = state_of p m t h in
    let tree = tree_at p.nodes.items i.block in
    let its : Iterated = record { visits = i.visits; stand = stand; block = tree } in
    let more : Iterated = record { visits = visits; stand = stand; block = tree } in
    let entry = OfBlock (top m.calls.frames) in
    let f = frame_of entry 1 size (given ∷ []) m.calls.frames in
    let lies = lies_called entry 1 size (top m.calls.frames) (given ∷ []) m.calls.frames refl (omega (arith, some)) refl in
    let turn = Evaluate (TurnPart more) Ret in
    let after_turn = λ (a : Answer). runs_in c (turned own more a) in
    let above = state_of p (framed_with f m) t h in
    ap (λ x. runs_in c (continued_by own its x) s (steps + k)) keeps
    ∙ ap (λ (vs : List Ref). runs_in c (continued own (record its { stand = vs })) s (steps + k)) (sym (append_nil stand))
    ∙ ap (λ a. runs_in c (taken_up own its a s.memory) s (steps + k)) next
    ∙ ap (λ x. runs_in c (turn_over own more x (Some given) None s.memory) s (steps + k)) (apart (shape_in (Some tree)))
    ∙ ap (λ x. runs_in c (turn_of own more x (given ∷ []) s.memory) s (steps + k)) shape
    ∙ ap (λ x. runs_in c (if x then Do (with_frame f None) turn else throw own (BuiltIn TooDeep)) s (steps + k)) room
    ∙ ap (λ x. runs_in c turn x (steps + k)) (put_up p m t h f)
    ∙ after_ended (evaluates c (TurnPart more) above (steps + k))
    ∙ turn_means c visits stand tree (record { parameters = 1; size = size }) shape above (steps + k)
    ∙ ap (λ o. after o after_turn) (sets f t lies h k)
    ∙ ap (λ x. runs_in c (continued_with own more w) x k) (taken_down p n t h f)
