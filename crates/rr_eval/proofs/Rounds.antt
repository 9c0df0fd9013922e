-- Turns of iterations begin, and they end.
use Rattle.std.proofs.Common.{◌≡◌, ◌∙◌, ℕ, zero, suc, sym, ap, refl, nat_lt, if◌then◌else◌, true, List, [], ◌∷◌, ◌++◌, length, take, drop, reverse, Option, None, Some}
use Rattle.rr_frames.specs.Frames.{Stack, Frame as Activated, laid}
use Rattle.rr_frames.specs.declared.activation.Shape.{Shape}
use Rattle.rr_space.specs.declared.refer.Ref.{Ref}
use Rattle.rr_tree.specs.Tree.{Tree, tree_at, block}
use Rattle.rr_builtin.specs.declared.problem.Problem.TheVariants.{TooDeep}
use Rattle.rr_eval.specs.declared.call_stack.Entry.{Entry}
use Rattle.rr_eval.specs.declared.frame.Frame.{Frame}
use Rattle.rr_eval.specs.declared.frame.Frame.TheVariants.{Round}
use Rattle.rr_eval.specs.declared.iterating.Iterating.{Iterating}
use Rattle.rr_eval.specs.declared.iterating.Visits.{Visits}
use Rattle.rr_eval.specs.declared.problem.Answer.{Answer}
use Rattle.rr_eval.specs.declared.problem.Answer.TheVariants.{Gave, Raised, Broke, Done, Returned, Ends}
use Rattle.rr_eval.specs.declared.problem.Problem.TheVariants.{BuiltIn}
use Rattle.rr_eval.specs.Script.{State, Ret, See, Do, Evaluate, TurnPart, Iterated, after}
use Rattle.rr_eval.specs.Blocks.{shape_in, with_frame, activation_in, opened}
use Rattle.rr_eval.specs.Iterating.{turned, turn_ended, left_turn}
use Rattle.rr_eval.specs.Rules.{Context, throw}
use Rattle.rr_eval.specs.Frames.{Code, evaluates, means, runs_in, iterated, unwind}
use Rattle.rr_eval.specs.Turns.{blocks_of}
use Rattle.std.specs.Option.{option_map}
use Rattle.std.proofs.lemmas.List.{map_push}
use Rattle.rr_eval.proofs.Depth.{meaning_part, meaning_rule}
use Rattle.rr_eval.proofs.Invoking.{stack_is}
use Rattle.rr_eval.proofs.Unwind.{after_ended, rest_push}

-- a turn does what its block does, and then what is ahead
pub turn_means : (c : Code) (visits : Visits) (stand : List Ref) (t : Tree) (shape : Shape) → shape_in (Some t) ≡ Some shape → (s : State) (n : ℕ)
    → let i : Iterated = record { visits = visits; stand = stand; block = t } in evaluates c (TurnPart i) s n ≡ after (means c t s n) (λ a. runs_in c (turned c.context i a))
turn_means c visits stand (block x parameters size body) shape is s zero = refl
turn_means c visits stand (block x parameters size body) shape is s (suc n) =
    let i : Iterated = record { visits = visits; stand = stand; block = block x parameters size body } in
    let next = λ (a : Answer). runs_in c (turned c.context i a) in
    meaning_part c.context c.world (TurnPart i) s n
    ∙ ap (λ o. after o next) (sym (meaning_rule c.context c.world (block x parameters size body) s n ∙ after_ended (means c body s n)))
turn_means c visits stand _ shape is s n = absurd (cc is)

-- a block is called for a turn, where there may be one frame more
pub turn_enters : (c : Code) (fs : List Frame) (held : List Ref) (i : Iterating) (entry : Entry) (shape : Shape) (vs : List Ref) (new : Stack) (blocks more : List (Option ℕ)) (s : State) (n : ℕ)
    → shape_in (Some (tree_at c.nodes i.block)) ≡ Some shape → nat_lt (length s.memory.calls.frames) s.memory.calls.limit ≡ true → s.memory.blocks ≡ blocks_of c.nodes blocks → more ≡ blocks ++ None ∷ []
    → new.frames ≡ s.memory.calls.frames ++ record { variables = laid shape.parameters shape.size vs; activation = activation_in entry s.memory.calls.frames } ∷ [] → new.limit ≡ s.memory.calls.limit
    → unwind c (reverse fs) (take i.base held) (runs_in c (opened c.context entry shape.parameters shape.size vs None s.memory.calls (Evaluate (TurnPart (iterated c i (drop i.base held))) Ret)) s n)
    ≡ unwind c (reverse (fs ++ Round i ∷ [])) held (means c (tree_at c.nodes i.block) (record s { memory = record s.memory { calls = new; blocks = blocks_of c.nodes more } }) n)
unfolding blocks_of
turn_enters c fs held i entry shape vs new blocks more s n is room are push frames limit =
    let f : Activated = record { variables = laid shape.parameters shape.size vs; activation = activation_in entry s.memory.calls.frames } in
    let tree = tree_at c.nodes i.block in
    let next = Evaluate (TurnPart (iterated c i (drop i.base held))) Ret in
    let calls = stack_is new (s.memory.calls.frames ++ f ∷ []) s.memory.calls.limit frames limit in
    let all : blocks_of c.nodes more ≡ s.memory.blocks ++ None ∷ [] = ap (blocks_of c.nodes) push ∙ map_push (option_map (tree_at c.nodes)) blocks None ∙ ap (λ l. l ++ None ∷ []) (sym are) in
    let entered = record s { memory = with_frame f None s.memory } in
    ap (λ x. unwind c (reverse fs) (take i.base held) (runs_in c (if x then Do (with_frame f None) next else throw c.context (BuiltIn TooDeep)) s n)) room
    ∙ ap (unwind c (reverse fs) (take i.base held)) (after_ended (evaluates c (TurnPart (iterated c i (drop i.base held))) entered n) ∙ turn_means c i.visits (drop i.base held) tree shape is entered n)
    ∙ sym (rest_push c fs (Round i) held (means c tree entered n))
    ∙ ap (λ k. unwind c (reverse (fs ++ Round i ∷ [])) held (means c tree (record s { memory = record s.memory { calls = k; blocks = s.memory.blocks ++ None ∷ [] } }) n)) (sym calls)
    ∙ ap (λ l. unwind c (reverse (fs ++ Round i ∷ [])) held (means c tree (record s { memory = record s.memory { calls = new; blocks = l } }) n)) (sym all)

-- what ends an iteration with the turn
pub leaves_turn : (c : Context) (i : Iterated) (root : ℕ) (a : Answer) → ((v : Ref) → a ≡ Gave v → ⊥) → ((v : Ref) → a ≡ Done v → ⊥) → turn_ended c i root a ≡ See (λ m. Ret (left_turn c i.visits root m.table a))
leaves_turn c i root (Gave v) gave done = absurd (gave v refl)
leaves_turn c i root (Done v) gave done = absurd (done v refl)
leaves_turn c i root (Raised e) gave done = refl
leaves_turn c i root (Broke v) gave done = refl
leaves_turn c i root (Returned v) gave done = refl
leaves_turn c i root (Ends number v) gave done = refl
