-- Values are asked, one after the other, before they are printed.
use Rattle.std.proofs.Common.{◌≡◌, ◌∙◌, ◌+◌, ◌-◌, ◌<◌, ◌≤◌, ℕ, zero, suc, sym, ap, subst, refl, arith, nat_eq, nat_lt, Bool, true, false, if◌then◌else◌, List, [], ◌∷◌, ◌++◌, length, length-append, length-drop, take, drop, reverse, slice_index_or, Option, None, Some, Result, Ok, Err, IfErr}
use Rattle.std.proofs.lemmas.Bool.Decides.{nat_tests}
use Rattle.std.proofs.lemmas.List.{map_push, take-take, take_all, drop_all, take-append-le, drop-append-le}
use Rattle.std.specs.List.{All}
use Rattle.std.specs.Option.{option_map}
use Rattle.rr_base.specs.declared.name.ClassId.{ClassId}
use Rattle.rr_base.specs.declared.name.Sym.{Sym}
use Rattle.rr_frames.specs.Frames.{Stack, Frame as Activated, laid, list_of}
use Rattle.rr_space.specs.Tables.{Table}
use Rattle.rr_space.specs.declared.refer.Ref.{Ref}
use Rattle.rr_space.specs.declared.refer.Ref.TheVariants.{Nil}
use Rattle.rr_tree.specs.Tree.{tree_at}
use Rattle.rr_tree.specs.declared.program.Program.{Program}
use Rattle.rr_space.specs.Kinds.{kind_at}
use Rattle.rr_builtin.specs.Kinds.{is_text_kind}
use Rattle.rr_builtin.specs.Fields.{field_at}
use Rattle.rr_builtin.specs.Rounds.{Read, Reads as ReadsValue, ReadsNone, IsMoved}
use Rattle.rr_builtin.specs.declared.problem.Problem.TheVariants.{Count, TooDeep}
use Rattle.rr_eval.specs.declared.asking.Asking.{Asking}
use Rattle.rr_eval.specs.declared.asking.Saying.{Saying}
use Rattle.rr_eval.specs.declared.asking.Saying.TheVariants as sayings
use Rattle.rr_eval.specs.declared.call.Callee.TheVariants as callees
use Rattle.rr_eval.specs.declared.call.Task.{Task}
use Rattle.rr_eval.specs.declared.call_stack.CallValue.TheVariants.{Method as ByMethod}
use Rattle.rr_base.specs.declared.fault.Fault.TheVariants.{Limit, Memory as MemoryFault}
use Rattle.rr_base.specs.declared.limits.LimitKind.{LimitKind}
use Rattle.rr_base.specs.declared.limits.LimitKind.TheVariants.{Frames as FramesLimit}
use Rattle.rr_frames.specs.declared.activation.Activation.{Activation}
use Rattle.std.proofs.lemmas.List.Elements.{All-push}
use Rattle.rr_eval.specs.declared.call_stack.Invocation.{Invocation}
use Rattle.rr_eval.specs.declared.frame.Control.TheVariants.{Enter}
use Rattle.rr_eval.specs.View.{View}
use Rattle.rr_eval.specs.declared.call_stack.Entry.{Entry}
use Rattle.rr_eval.specs.declared.call_stack.Entry.TheVariants.{OfMethod}
use Rattle.rr_eval.specs.declared.frame.Frame.{Frame}
use Rattle.rr_eval.specs.declared.frame.Frame.TheVariants.{Asking as AskingFrame}
use Rattle.rr_eval.specs.declared.hearing.Heard.TheVariants.{Said, Runs as RunsBody, Fails as FailsBy}
use Rattle.rr_eval.specs.declared.hearing.Gathered.TheVariants as gathered
use Rattle.rr_eval.specs.declared.prepared.Body.{Body}
use Rattle.rr_eval.specs.declared.problem.Problem.{Problem}
use Rattle.rr_eval.specs.declared.problem.Problem.TheVariants.{BuiltIn, NotHere}
use Rattle.rr_eval.specs.declared.problem.Response.TheVariants.{Gives, Throws, Fails}
use Rattle.rr_eval.specs.Basics.{throw, settled}
use Rattle.rr_eval.specs.Blocks.{invocation, activation_in, entered, with_frame, back}
use Rattle.rr_eval.specs.Bound.{bind}
use Rattle.rr_eval.specs.Context.{Context}
use Rattle.rr_eval.specs.Dispatch.{way_of, valued_response}
use Rattle.rr_eval.specs.Fields.{own_response, field_response}
use Rattle.rr_eval.specs.Frames.{means, runs_in, unwind}
use Rattle.rr_base.specs.declared.fault.Fault.{Fault}
use Rattle.rr_eval.specs.Heard.{StandsBelow, SameThere, IsHeardBy, runs_asked, still_asked, script_of}
use Rattle.rr_eval.specs.Methods.{Runs, Reads, Writes, NoWork}
use Rattle.rr_eval.specs.Prepared.{method_of}
use Rattle.rr_eval.specs.Responses.{own_of}
use Rattle.rr_eval.specs.Script.{State, Script, Go, See, Do, World, Evaluation, run}
use Rattle.rr_eval.specs.Speaking.{saying_of, symbol_asked, sayer, text_in, heard, asked_by, printed_for, request, asked_all, named_rule, said_rule, saying_rule, task_rule, asked_on}
use Rattle.rr_eval.specs.Turns.{Stands, context_of, code_of, blocks_of}
use Rattle.rr_eval.specs.Within.{Reach, IsReached, IsFrameReached, AreVariablesReached, AreReached}
use Rattle.rr_eval.proofs.Holding.{all_nil, all_cons, all_append, entered_within, laid_within}
use Rattle.rr_eval.proofs.Invoking.{stack_is}
use Rattle.rr_eval.proofs.Unwind.{rest_push}

-- ---- what is asked

-- what makes no texts of its values
pub as_request : (c : Context) (task : Task) (vs : List Ref) → saying_of task ≡ None → task_rule c task vs ≡ request c task vs
as_request c task [] is = refl
as_request c task (v ∷ vs) is = ap (λ s. saying_rule c task s (v ∷ vs)) is

-- a program that defines no such method
pub as_unnamed : (c : Context) (task : Task) (s : Saying) (vs : List Ref) → saying_of task ≡ Some s → symbol_asked c s ≡ None → task_rule c task vs ≡ request c task vs
as_unnamed c task s [] is none = refl
as_unnamed c task s (v ∷ vs) is none = ap (λ o. saying_rule c task o (v ∷ vs)) is ∙ ap (λ x. said_rule c task s x (v ∷ vs)) none

pub as_asked : (c : Context) (task : Task) (s : Saying) (x : Sym) (vs : List Ref) (v : Ref) → saying_of task ≡ Some s → symbol_asked c s ≡ Some x → task_rule c task (vs ++ v ∷ []) ≡ named_rule c s x (vs ++ v ∷ [])
as_asked c task s x [] v is named = ap (λ o. saying_rule c task o (v ∷ [])) is ∙ ap (λ y. said_rule c task s y (v ∷ [])) named
as_asked c task s x (u ∷ us) v is named = ap (λ o. saying_rule c task o (u ∷ us ++ v ∷ [])) is ∙ ap (λ y. said_rule c task s y (u ∷ us ++ v ∷ [])) named

-- ---- what a value says

-- an exception passes
thrown_passes : (c : Context) (e : Problem) (next : Option Ref → Script) (w : World) (go : Evaluation) (s : State) (n : ℕ) → run w go (bind (throw c e) (heard next)) s n ≡ run w go (throw c e) s n
thrown_passes c e next w go s n = refl

pub none_heard : (p : Program) (t : Table) (x : Sym) (v : Ref) → IsHeardBy p t None x v (Said None)
none_heard p t x v = λ next w go s n e. refl

pub runs_heard : (p : Program) (t : Table) (x : Sym) (v : Ref) (class : ClassId) (body : Body) → body.shape.parameters ≡ 0 → IsHeardBy p t (Some (record { class = class; work = Runs (method_of p.nodes.items body) })) x v (RunsBody class body)
runs_heard p t x v class body none = λ next w go s n e.
    let c = context_of p in
    let m = method_of p.nodes.items body in
    let same : nat_eq 0 body.shape.parameters ≡ true = ap (nat_eq 0) none in
    ap (λ b. run w go (bind (if b then See (λ k. entered c (way_of (callees.Name x) None v []) class m [] k.calls) else throw c (BuiltIn (Count 0 body.shape.parameters body.shape.parameters))) (heard next)) s n) same

pub count_heard : (p : Program) (t : Table) (x : Sym) (v : Ref) (class : ClassId) (body : Body) → (body.shape.parameters ≡ 0 → ⊥) → IsHeardBy p t (Some (record { class = class; work = Runs (method_of p.nodes.items body) })) x v (FailsBy (BuiltIn (Count 0 body.shape.parameters body.shape.parameters)))
count_heard p t x v class body some = λ next w go s n e.
    let c = context_of p in
    let m = method_of p.nodes.items body in
    let other : nat_eq 0 body.shape.parameters ≡ false = grind (arith, nat_tests) in
    ap (λ b. run w go (bind (if b then See (λ k. entered c (way_of (callees.Name x) None v []) class m [] k.calls) else throw c (BuiltIn (Count 0 body.shape.parameters body.shape.parameters))) (heard next)) s n) other
    ∙ thrown_passes c (BuiltIn (Count 0 body.shape.parameters body.shape.parameters)) next w go s n

own_gives : (o : Option Ref) (e : Ref) → own_response o ≡ Throws e → ⊥
own_gives None e is = cc is
own_gives (Some v) e is = cc is

-- a variable that is read makes no exception
pub no_throw : (t : Table) (r : Read) (e : Ref) → field_response t r ≡ Throws e → ⊥
no_throw t (ReadsValue x) e is = own_gives (own_of t x) e is
no_throw t ReadsNone e is = cc is
no_throw t IsMoved e is = cc is

pub reads_heard : (p : Program) (t : Table) (x : Sym) (v : Ref) (class : ClassId) (field : Sym) (w : Ref) → field_response t (field_at t v field.0) ≡ Gives w → IsHeardBy p t (Some (record { class = class; work = Reads field })) x v (Said (text_in t w))
reads_heard p t x v class field r is = λ next w go s n e.
    let c = context_of p in
    ap (λ u. run w go (bind (settled c (valued_response ByMethod (field_response u (field_at u v field.0)))) (heard next)) s n) e
    ∙ ap (λ o. run w go (bind (settled c (valued_response ByMethod o)) (heard next)) s n) is
    ∙ ap (λ u. run w go (next (text_in u r)) s n) e

pub moved_heard : (p : Program) (t : Table) (x : Sym) (v : Ref) (class : ClassId) (field : Sym) (problem : Problem) → field_response t (field_at t v field.0) ≡ Fails problem → IsHeardBy p t (Some (record { class = class; work = Reads field })) x v (FailsBy problem)
moved_heard p t x v class field problem is = λ next w go s n e.
    let c = context_of p in
    ap (λ u. run w go (bind (settled c (valued_response ByMethod (field_response u (field_at u v field.0)))) (heard next)) s n) e
    ∙ ap (λ o. run w go (bind (settled c (valued_response ByMethod o)) (heard next)) s n) is
    ∙ thrown_passes c problem next w go s n

pub writes_heard : (p : Program) (t : Table) (x : Sym) (v : Ref) (class : ClassId) (field : Sym) → IsHeardBy p t (Some (record { class = class; work = Writes field })) x v (FailsBy (BuiltIn (Count 0 1 1)))
writes_heard p t x v class field = λ next w go s n e. thrown_passes (context_of p) (BuiltIn (Count 0 1 1)) next w go s n

pub nothing_heard : (p : Program) (t : Table) (x : Sym) (v : Ref) (class : ClassId) → IsHeardBy p t (Some (record { class = class; work = NoWork })) x v (FailsBy NotHere)
nothing_heard p t x v class = λ next w go s n e. thrown_passes (context_of p) NotHere next w go s n

-- ---- the next value

-- there is one more among the first values
pub next_there : (stand : List Ref) (count seen : ℕ) → seen < count → count ≤ length stand → drop seen (take count stand) ≡ slice_index_or stand seen Nil ∷ drop (suc seen) (take count stand)
next_there [] count seen lt le = absurd (omega (arith, lt, le))
next_there (v ∷ vs) zero seen lt le = absurd (omega (arith, lt))
next_there (v ∷ vs) (suc count) zero lt le = refl
next_there (v ∷ vs) (suc count) (suc seen) lt le = next_there vs count seen (omega (arith, lt)) (omega (arith, le))

-- it says at once what is printed for it
said_next : (p : Program) (t : Table) (s : Saying) (x : Sym) (v : Ref) (vs done : List Ref) (said : Option Ref) → IsHeardBy p t (sayer (context_of p) t x v) x v (Said said)
    → SameThere t (asked_all (context_of p) s x (v ∷ vs) done) (asked_all (context_of p) s x vs (done ++ printed_for s v said))
said_next p t s x v vs done said is = λ w go u n e.
    let c = context_of p in
    let next = λ (o : Option Ref). asked_all c s x vs (done ++ printed_for s v o) in
    ap (λ k. run w go (asked_by c (sayer c k x v) x v next) u n) e ∙ is next w go u n e

-- its method has statements
runs_next : (p : Program) (t : Table) (s : Saying) (x : Sym) (v : Ref) (vs done : List Ref) (class : ClassId) (body : Body) → IsHeardBy p t (sayer (context_of p) t x v) x v (RunsBody class body)
    → SameThere t (asked_all (context_of p) s x (v ∷ vs) done) (runs_asked p x v class body (λ said. asked_all (context_of p) s x vs (done ++ printed_for s v said)))
runs_next p t s x v vs done class body is = λ w go u n e.
    let c = context_of p in
    let next = λ (o : Option Ref). asked_all c s x vs (done ++ printed_for s v o) in
    ap (λ k. run w go (asked_by c (sayer c k x v) x v next) u n) e ∙ is next w go u n e

fails_next : (p : Program) (t : Table) (s : Saying) (x : Sym) (v : Ref) (vs done : List Ref) (problem : Problem) → IsHeardBy p t (sayer (context_of p) t x v) x v (FailsBy problem)
    → SameThere t (asked_all (context_of p) s x (v ∷ vs) done) (throw (context_of p) problem)
fails_next p t s x v vs done problem is = λ w go u n e.
    let c = context_of p in
    let next = λ (o : Option Ref). asked_all c s x vs (done ++ printed_for s v o) in
    ap (λ k. run w go (asked_by c (sayer c k x v) x v next) u n) e ∙ is next w go u n e

same_then : (t : Table) (a b c : Script) → SameThere t a b → SameThere t b c → SameThere t a c
same_then t a b c first second = λ w go s n e. first w go s n e ∙ second w go s n e

-- the same values, of which so many were seen
abbrev pub at_seen : Asking → ℕ → Asking
at_seen a seen = record a { seen = seen }

pub held_room : (a : Asking) (held : List Ref) → a.base + a.count ≤ length held → a.count ≤ length (drop a.base held)
held_room a held le = omega (arith, le, length-drop a.base held)

-- more is held behind the values
pub still_behind : (p : Program) (a : Asking) (held more shown : List Ref) → a.base + a.count ≤ length held → more ≡ held ++ shown
    → asked_all (context_of p) a.saying a.name (drop a.seen (take a.count (drop a.base held))) (drop a.count (drop a.base held) ++ shown) ≡ still_asked p a more
still_behind p a held more shown le push =
    let c = context_of p in
    let stand = drop a.base held in
    let room : a.count ≤ length stand = held_room a held le in
    let stands : drop a.base more ≡ stand ++ shown = ap (drop a.base) push ∙ drop-append-le a.base held shown (omega (arith, le)) in
    let values : take a.count (drop a.base more) ≡ take a.count stand = ap (take a.count) stands ∙ take-append-le a.count stand shown room in
    let done : drop a.count (drop a.base more) ≡ drop a.count stand ++ shown = ap (drop a.count) stands ∙ drop-append-le a.count stand shown room in
    ap (λ vs. asked_all c a.saying a.name (drop a.seen vs) (drop a.count stand ++ shown)) (sym values)
    ∙ ap (λ ws. asked_all c a.saying a.name (drop a.seen (take a.count (drop a.base more))) ws) (sym done)

-- one value more says at once what is printed for it, which is held behind the others
pub gathers : (p : Program) (t : Table) (a : Asking) (first held more : List Ref) (seen : ℕ) (said : Option Ref) → seen < a.count → a.base + a.count ≤ length held
    → SameThere t (still_asked p a first) (still_asked p (at_seen a seen) held)
    → IsHeardBy p t (sayer (context_of p) t a.name (slice_index_or (drop a.base held) seen Nil)) a.name (slice_index_or (drop a.base held) seen Nil) (Said said)
    → more ≡ held ++ printed_for a.saying (slice_index_or (drop a.base held) seen Nil) said
    → SameThere t (still_asked p a first) (still_asked p (at_seen a (suc seen)) more)
gathers p t a first held more seen said lt le was is push =
    let c = context_of p in
    let stand = drop a.base held in
    let v = slice_index_or stand seen Nil in
    let shown = printed_for a.saying v said in
    let rest = drop (suc seen) (take a.count stand) in
    λ w go s n e.
    was w go s n e
    ∙ ap (λ vs. run w go (asked_all c a.saying a.name vs (drop a.count stand)) s n) (next_there stand a.count seen lt (held_room a held le))
    ∙ said_next p t a.saying a.name v rest (drop a.count stand) said is w go s n e
    ∙ ap (λ script. run w go script s n) (still_behind p (at_seen a (suc seen)) held more shown le push)

-- the method of one value more has statements
pub gathers_body : (p : Program) (t : Table) (a : Asking) (first held : List Ref) (seen : ℕ) (class : ClassId) (body : Body) → seen < a.count → a.base + a.count ≤ length held
    → SameThere t (still_asked p a first) (still_asked p (at_seen a seen) held)
    → IsHeardBy p t (sayer (context_of p) t a.name (slice_index_or (drop a.base held) seen Nil)) a.name (slice_index_or (drop a.base held) seen Nil) (RunsBody class body)
    → SameThere t (still_asked p a first) (script_of p a held (gathered.Runs (at_seen a (suc seen)) class body))
gathers_body p t a first held seen class body lt le was is =
    let c = context_of p in
    let stand = drop a.base held in
    let v = slice_index_or stand seen Nil in
    let rest = drop (suc seen) (take a.count stand) in
    let done = drop a.count stand in
    let before : suc seen - 1 ≡ seen = omega arith in
    λ w go s n e.
    was w go s n e
    ∙ ap (λ vs. run w go (asked_all c a.saying a.name vs done) s n) (next_there stand a.count seen lt (held_room a held le))
    ∙ runs_next p t a.saying a.name v rest done class body is w go s n e
    ∙ ap (λ i. run w go (runs_asked p a.name (slice_index_or stand i Nil) class body (λ said. asked_all c a.saying a.name rest (done ++ printed_for a.saying (slice_index_or stand i Nil) said))) s n) (sym before)

-- one value more raises an exception
pub gathers_problem : (p : Program) (t : Table) (a : Asking) (first held : List Ref) (seen : ℕ) (problem : Problem) → seen < a.count → a.base + a.count ≤ length held
    → SameThere t (still_asked p a first) (still_asked p (at_seen a seen) held)
    → IsHeardBy p t (sayer (context_of p) t a.name (slice_index_or (drop a.base held) seen Nil)) a.name (slice_index_or (drop a.base held) seen Nil) (FailsBy problem)
    → SameThere t (still_asked p a first) (throw (context_of p) problem)
gathers_problem p t a first held seen problem lt le was is =
    let c = context_of p in
    let stand = drop a.base held in
    let v = slice_index_or stand seen Nil in
    let rest = drop (suc seen) (take a.count stand) in
    λ w go s n e.
    was w go s n e
    ∙ ap (λ vs. run w go (asked_all c a.saying a.name vs (drop a.count stand)) s n) (next_there stand a.count seen lt (held_room a held le))
    ∙ fails_next p t a.saying a.name v rest (drop a.count stand) problem is w go s n e

-- there is no value more
none_left : (seen : ℕ) → drop {A = Ref} seen [] ≡ []
none_left zero = refl
none_left (suc seen) = refl

all_seen : (stand : List Ref) (count seen : ℕ) → count ≤ seen → drop seen (take count stand) ≡ []
all_seen stand zero seen le = none_left seen
all_seen [] (suc count) seen le = none_left seen
all_seen (v ∷ vs) (suc count) zero le = absurd (omega (arith, le))
all_seen (v ∷ vs) (suc count) (suc seen) le = all_seen vs count seen (omega (arith, le))

pub gathers_all : (p : Program) (t : Table) (a : Asking) (first held : List Ref) (seen : ℕ) → a.count ≤ seen
    → SameThere t (still_asked p a first) (still_asked p (at_seen a seen) held)
    → SameThere t (still_asked p a first) (script_of p a held gathered.Whole)
gathers_all p t a first held seen le was = λ w go s n e.
    was w go s n e
    ∙ ap (λ vs. run w go (asked_all (context_of p) a.saying a.name vs (drop a.count (drop a.base held))) s n) (all_seen (drop a.base held) a.count seen le)

-- what is printed for a value is reached
pub printed_reached : (k : Reach) (s : Saying) (v : Ref) (said : Option Ref) → IsReached k v → All (IsReached k) (list_of said) → All (IsReached k) (printed_for s v said)
printed_reached k sayings.Inspect v None value h = all_cons (IsReached k) v (Nil ∷ []) value (all_cons (IsReached k) Nil [] tt (all_nil (IsReached k)))
printed_reached k sayings.Inspect v (Some text) value h = all_cons (IsReached k) v (text ∷ []) value h
printed_reached k sayings.Puts v None value h = all_cons (IsReached k) v [] value (all_nil (IsReached k))
printed_reached k sayings.Puts v (Some text) value h = h
printed_reached k sayings.Print v None value h = all_cons (IsReached k) v [] value (all_nil (IsReached k))
printed_reached k sayings.Print v (Some text) value h = h
printed_reached k sayings.Text v None value h = all_cons (IsReached k) v [] value (all_nil (IsReached k))
printed_reached k sayings.Text v (Some text) value h = h

-- ---- the machine

-- the statements of the method by which a value is asked begin, where there may be one frame more
pub asked_enters : (p : Program) (w : World) (fs : List Frame) (held : List Ref) (a : Asking) (v : Ref) (class : ClassId) (body : Body) (call : Invocation) (new : Stack) (blocks more : List (Option ℕ)) (s : State) (n : ℕ)
    → call ≡ invocation (way_of (callees.Name a.name) None v []) class (method_of p.nodes.items body)
    → nat_lt (length s.memory.calls.frames) s.memory.calls.limit ≡ true → s.memory.blocks ≡ blocks_of p.nodes.items blocks → more ≡ blocks ++ None ∷ []
    → new.frames ≡ s.memory.calls.frames ++ record { variables = laid body.shape.parameters body.shape.size []; activation = activation_in (OfMethod call) s.memory.calls.frames } ∷ [] → new.limit ≡ s.memory.calls.limit
    → unwind (code_of p w) (reverse fs) (take a.base held) (runs_in (code_of p w) (runs_asked p a.name v class body (asked_on (context_of p) a (drop a.base held))) s n)
    ≡ unwind (code_of p w) (reverse (fs ++ AskingFrame a ∷ [])) held (means (code_of p w) (tree_at p.nodes.items body.node) (record s { memory = record s.memory { calls = new; blocks = blocks_of p.nodes.items more } }) n)
unfolding blocks_of
asked_enters p w fs held a v class body call new blocks more s n is room are push frames limit =
    let c = context_of p in
    let ns = p.nodes.items in
    let code = code_of p w in
    let with = λ (i : Invocation). s.memory.calls.frames ++ record { variables = laid body.shape.parameters body.shape.size []; activation = activation_in (OfMethod i) s.memory.calls.frames } ∷ [] in
    let entry : Entry = OfMethod (invocation (way_of (callees.Name a.name) None v []) class (method_of ns body)) in
    let f : Activated = record { variables = laid body.shape.parameters body.shape.size []; activation = activation_in entry s.memory.calls.frames } in
    let tree = tree_at ns body.node in
    let next = heard (asked_on c a (drop a.base held)) in
    let calls = stack_is new (s.memory.calls.frames ++ f ∷ []) s.memory.calls.limit (frames ∙ ap with is) limit in
    let all : blocks_of ns more ≡ s.memory.blocks ++ None ∷ [] = ap (blocks_of ns) push ∙ map_push (option_map (tree_at ns)) blocks None ∙ ap (λ l. l ++ None ∷ []) (sym are) in
    ap (λ x. unwind code (reverse fs) (take a.base held) (runs_in code (bind (if x then Do (with_frame f None) (Go tree (back ByMethod)) else throw c (BuiltIn TooDeep)) next) s n)) room
    ∙ sym (rest_push code fs (AskingFrame a) held (means code tree (record s { memory = with_frame f None s.memory }) n))
    ∙ ap (λ k. unwind code (reverse (fs ++ AskingFrame a ∷ [])) held (means code tree (record s { memory = record s.memory { calls = k; blocks = s.memory.blocks ++ None ∷ [] } }) n)) (sym calls)
    ∙ ap (λ l. unwind code (reverse (fs ++ AskingFrame a ∷ [])) held (means code tree (record s { memory = record s.memory { calls = new; blocks = l } }) n)) (sym all)

-- its frame, and the variables of the method
pub asking_reached : (k : Reach) (m : View) (a : Asking) (fs : List Frame) (calls : Stack) (blocks : List (Option ℕ)) (parameters size body : ℕ) (own : Activation) → fs ≡ m.frames ++ AskingFrame a ∷ []
    → calls.frames ≡ m.calls.frames ++ record { variables = laid parameters size []; activation = own } ∷ [] → AreReached k m → IsReached k own.itself
    → AreReached k (record { control = Enter body; frames = fs; held = m.held; calls = calls; blocks = blocks; rescuing = m.rescuing; left = m.left })
unfolding AreReached
asking_reached k m a fs calls blocks parameters size body own pushed entered h itself = record {
  control = tt;
  frames = subst (All (IsFrameReached k)) (sym pushed) (All-push (IsFrameReached k) m.frames (AskingFrame a) h.frames tt);
  held = h.held;
  calls = subst (All (AreVariablesReached k)) (sym entered) (entered_within k m.calls.frames (record { variables = laid parameters size []; activation = own }) h.calls itself (laid_within k parameters size [] (all_nil (IsReached k))));
  rescuing = h.rescuing;
}

-- the limit of frames was reached
pub is_full : (b : Bool) (f : Fault) (k : LimitKind) → f ≡ Limit k → f ≡ (if b then MemoryFault else Limit FramesLimit) → b ≡ false
is_full true f k is e = absurd (cc (sym is ∙ e))
is_full false f k is e = refl

-- there may be none more
pub asked_too_deep : (p : Program) (w : World) (go : Evaluation) (x : Sym) (v : Ref) (class : ClassId) (body : Body) (next : Option Ref → Script) (s : State) (n : ℕ) → nat_lt (length s.memory.calls.frames) s.memory.calls.limit ≡ false
    → run w go (runs_asked p x v class body next) s n ≡ run w go (throw (context_of p) (BuiltIn TooDeep)) s n
asked_too_deep p w go x v class body next s n full =
    let c = context_of p in
    let entry : Entry = OfMethod (invocation (way_of (callees.Name x) None v []) class (method_of p.nodes.items body)) in
    let f : Activated = record { variables = laid body.shape.parameters body.shape.size []; activation = activation_in entry s.memory.calls.frames } in
    ap (λ b. run w go (bind (if b then Do (with_frame f None) (Go (tree_at p.nodes.items body.node) (back ByMethod)) else throw c (BuiltIn TooDeep)) (heard next)) s n) full
    ∙ thrown_passes c (BuiltIn TooDeep) next w go s n

-- values that are held behind others
pub kept_length : {A : Type 0} (xs ys : List A) → take (length xs) ys ≡ xs → length xs ≤ length ys
kept_length [] ys is = omega arith
kept_length (x ∷ xs) [] is = absurd (cc is)
kept_length (x ∷ xs) (y ∷ ys) is = omega (arith, kept_length xs ys (ap (drop 1) is))

-- those below a base
pub kept_below : (base : ℕ) (old new : List Ref) → base ≤ length old → take (length old) new ≡ old → take base new ≡ take base old
kept_below base old new le kept = sym (take-take base (length old) new le) ∙ ap (take base) kept

-- what was held behind others goes
pub held_again : (count : ℕ) (first held new more : List Ref) → count ≡ length first → held ≡ first ++ more → take (length held) new ≡ held → take count new ≡ first
held_again count first held new more is push kept =
    let le : count ≤ length held = omega (arith, is, ap (λ l. length l) push, length-append first more) in
    sym (take-take count (length held) new le)
    ∙ ap (take count) (kept ∙ push)
    ∙ take-append-le count first more (omega (arith, is))
    ∙ take_all count first (omega (arith, is))

-- more is held
pub with_held : (k : Reach) (m : View) (held more : List Ref) → held ≡ m.held ++ more → AreReached k m → All (IsReached k) more → AreReached k (record m { held = held })
unfolding AreReached
with_held k m held more e h reached = record { control = h.control; frames = h.frames; held = subst (All (IsReached k)) (sym e) (all_append (IsReached k) m.held more h.held reached); calls = h.calls; rescuing = h.rescuing }

-- the text that a value is
text_is_reached : (k : Reach) (b : Bool) (v : Ref) → IsReached k v → All (IsReached k) (list_of (if b then Some v else None))
text_is_reached k true v h = all_cons (IsReached k) v [] h (all_nil (IsReached k))
text_is_reached k false v h = all_nil (IsReached k)

pub text_reached : (k : Reach) (t : Table) (v : Ref) (o : Option Ref) → o ≡ text_in t v → IsReached k v → All (IsReached k) (list_of o)
text_reached k t v o is h = subst (λ x. All (IsReached k) (list_of x)) (sym is) (text_is_reached k (is_text_kind (kind_at t v)) v h)

-- the values of which none was seen, the last one of them held behind the others
pub first_asked : (p : Program) (a : Asking) (held all vs : List Ref) (v : Ref) → a.base ≤ length held → all ≡ held ++ v ∷ [] → drop a.base held ≡ vs → a.count ≡ length all - a.base → a.seen ≡ 0
    → asked_all (context_of p) a.saying a.name (vs ++ v ∷ []) [] ≡ still_asked p a all
first_asked p a held all vs v le push stand count seen =
    let c = context_of p in
    let stands : drop a.base all ≡ vs ++ v ∷ [] = ap (drop a.base) push ∙ drop-append-le a.base held (v ∷ []) le ∙ ap (λ l. l ++ v ∷ []) stand in
    let size : length (vs ++ v ∷ []) ≤ a.count = omega (arith, count, length-drop a.base all, ap (λ l. length l) stands) in
    let values : take a.count (drop a.base all) ≡ vs ++ v ∷ [] = ap (take a.count) stands ∙ take_all a.count (vs ++ v ∷ []) size in
    let done : drop a.count (drop a.base all) ≡ [] = ap (drop a.count) stands ∙ drop_all a.count (vs ++ v ∷ []) size in
    ap (λ l. asked_all c a.saying a.name l []) (sym values)
    ∙ ap (λ l. asked_all c a.saying a.name (take a.count (drop a.base all)) l) (sym done)
    ∙ ap (λ n. asked_all c a.saying a.name (drop n (take a.count (drop a.base all))) (drop a.count (drop a.base all))) (sym seen)

-- more is held behind what was held before
pub kept_more : {A : Type 0} (first held more shown : List A) → take (length first) held ≡ first → more ≡ held ++ shown → take (length first) more ≡ first
kept_more first held more shown kept push = ap (take (length first)) push ∙ take-append-le (length first) held shown (kept_length first held kept) ∙ kept

-- other values are held
pub with_all : (k : Reach) (m : View) (held : List Ref) → AreReached k m → All (IsReached k) held → AreReached k (record m { held = held })
unfolding AreReached
with_all k m held h reached = record { control = h.control; frames = h.frames; held = reached; calls = h.calls; rescuing = h.rescuing }

-- a growth was refused behind values that are held
stands_below : (m n : View) (held : List Ref) (t : Table) (f : Fault) → take (length m.held) held ≡ m.held → Stands (record m { held = held }) n t t f → StandsBelow m n f
stands_below m n held t f kept is = record {
  control = is.control;
  frames = is.frames;
  held = ap (take (length m.held)) is.held ∙ kept;
  calls = is.calls;
  blocks = is.blocks;
  rescuing = is.rescuing;
  left = is.left;
  refusal = is.refusal;
}

pub all_below : {A : Type 0} (r : Result A Fault) (m n : View) (held : List Ref) (t : Table) → take (length m.held) held ≡ m.held → IfErr r (λ f. Stands (record m { held = held }) n t t f) → IfErr r (λ f. StandsBelow m n f)
all_below (Ok a) m n held t kept is = tt
all_below (Err f) m n held t kept is = stands_below m n held t f kept is
