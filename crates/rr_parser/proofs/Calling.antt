-- What the code made of assignments, of calls and of their blocks.
use Rattle.std.proofs.Common.{◌≡◌, ℕ, zero, suc, ◌<◌, Bool, List, ◌∷◌, length, take, map, Option, Some, None, Result, Ok, Err, refl, sym, ap, ◌∙◌, subst, arith, []}
use Rattle.std.specs.Prelude.{All, IfOk}
use Rattle.rr_base.specs.declared.name.Sym.{Sym}
use Rattle.rr_tree.specs.declared.node.Node.{Node}
use Rattle.rr_tree.specs.Tree.{Tree, listed, call, with_block, block, tree_at}
use Rattle.rr_tree.specs.Nodes.{Extends}
use Rattle.rr_tree.proofs.Growth.{tree_at-kept, Extends-refl, Extends-trans}
use Rattle.std.specs.Borrow.{Bor}
use Rattle.rr_parser.specs.declared.refusal.Storage.{Storage}
use Rattle.rr_parser.specs.declared.word.Tail.{Tail}
use Rattle.rr_parser.specs.declared.word.Behind.{Behind}
use Rattle.rr_parser.specs.declared.word.Behind.TheVariants as behinds
use Rattle.rr_parser.specs.declared.word.Fence.{Fence}
use Rattle.rr_parser.specs.declared.word.Head.{Head}
use Rattle.rr_parser.specs.declared.word.Target.{Target}
use Rattle.rr_parser.specs.declared.word.Target.TheVariants as targets
use Rattle.rr_parser.specs.declared.word.Listed.{Listed}
use Rattle.rr_parser.specs.declared.word.Part.TheVariants as parts
use Rattle.rr_parser.specs.declared.word.Word.{Word}
use Rattle.rr_parser.specs.declared.refusal.Refusal.{Refusal}
use Rattle.rr_parser.specs.declared.refusal.Refusal.TheVariants as refusal
use Rattle.rr_parser.specs.declared.parser.Parser.{Parser}
use Rattle.rr_parser.specs.Places.{Known, Place, placed, word, at}
use Rattle.rr_parser.specs.Grammar.Chains.{same, one_of}
use Rattle.rr_parser.specs.Grammar.Names.{with_local, headed, bracket, command}
use Rattle.rr_parser.specs.Grammar.Calls.{target, closing, last}
use Rattle.rr_parser.specs.Reading.Answers.{◌>>=◌, wrong, Answer, Parse, built, ended_by, closed, taking_of, trail_on}
use Rattle.rr_parser.specs.Reading.Nesting.{Readers}
use Rattle.rr_parser.specs.Reading.Calls.{assigned_or, assigned_of, bracketed_or, bracketed_of, commanded_or, commanded_of, arguments_of, headed_of, operand_of, value_of, listed_of, receiver_or, commanded_on}
use Rattle.rr_parser.specs.Reading.Bodies.{held_of}
use Rattle.rr_parser.specs.Meets.{View, nodes, lists, reaches, Made, Fails, Gives, Puts, Marks, Aims, Enters, Leaves, SetsDo, ReadsNames, known_of, place}
use Rattle.rr_parser.specs.declared.variables.Variable.{Variable}
use Rattle.rr_parser.specs.declared.variables.Scope.{Scope}
use Rattle.rr_parser.specs.Grammar.Blocks.{parameters, entered, leaving, left_to, block_tree}
use Rattle.rr_parser.specs.Reading.Blocks.{left_block, block_or, block_of}
use Rattle.rr_parser.specs.Grammar.Operands.{tail}
use Rattle.rr_parser.specs.Grammar.Fences.{with_do, taking_as, opening, opened, fence_end}
use Rattle.rr_parser.specs.Reading.Operands.{call_of, block_behind, blocked_or, blocked_of, then_blocked, unbracketed_or, variable_or_call, name_or, name_of, primary_of, tailed_of, postfix_of}
use Rattle.rr_parser.specs.Grammar.Operands.{Reached, plain, order}
use Rattle.rr_parser.specs.declared.word.Reached.{Reached as CodeReached}
use Rattle.rr_parser.proofs.Shrinking.{ReadersShrink}
use Rattle.rr_parser.proofs.Trails.{trail_on-ends, trail_on-turn}
use Rattle.rr_parser.proofs.Looks.{Steps-tail}
use Rattle.rr_parser.proofs.Making.{fails_bind, fails_eq, made_over, seen_at, unseen_at, Goes, gives_from, made_put, closed_tree, closed_wrong}

-- ---- assignments

-- the place where a name has become a local variable
marked_place : (old mid : Parser) (x : Sym) (i : Variable) (ws : List Word) → Marks old mid x i → place mid ws ≡ with_local x (place old ws)
marked_place old mid x i ws m = ap (λ (k : Known). record { known = k; rest = ws }) m.known

aims_variable : (old mid : Parser) (x : Sym) (i : Variable) → Marks old mid x i → Aims old mid (targets.Variable x) i
aims_variable old mid x i m = record { nodes = m.nodes; known = λ ws. marked_place old mid x i ws m; seen = λ ws. sym m.seen }

pub aims_marked : (old mid : Parser) (x : Sym) (t : Target) (r : Result Variable Storage) → t ≡ targets.Variable x → IfOk r (Marks old mid x) → IfOk r (Aims old mid t)
aims_marked old mid x t (Ok i) is m = subst (λ (q : Target). Aims old mid q i) (sym is) (aims_variable old mid x i m)
aims_marked old mid x t (Err d) is m = tt

pub aims_field : (p : Parser) (x : Sym) → Aims p p (targets.Field x) (record { depth = 0; slot = 0 })
aims_field p x = record { nodes = refl; known = λ ws. refl; seen = λ ws. refl }

pub aims_global : (p : Parser) (x : Sym) → Aims p p (targets.Global x) (record { depth = 0; slot = 0 })
aims_global p x = record { nodes = refl; known = λ ws. refl; seen = λ ws. refl }

pub reads_operand : (N : Readers) (b : Bool) (p : Parser) (ws : List Word) → target ws ≡ None → value_of N b (place p ws) ≡ operand_of N b (place p ws)
unfolding assigned_of
reads_operand N b p ws e = ap (assigned_or N b (operand_of N b) (place p ws)) (unseen_at p target ws e)

-- ---- what follows an operand

module _ (N : Readers) (shrinks : ReadersShrink N) where
  abbrev goes_on : Reached → Parse Reached
  goes_on = trail_on tail (tailed_of N)

  pub trail_begins : (old new : Parser) (i : ℕ) (words rest : List Word) → Made nodes old new i rest (primary_of N (place old words))
      → Goes reaches old new (record { node = i; spot = None }) (postfix_of N (place old words)) (trail_on tail (tailed_of N) (plain (tree_at new.nodes.items i)) (place new rest))
  unfolding postfix_of
  trail_begins old new i words rest m = record { there = (m.there, tt); kept = m.kept; same = ap (λ (q : Answer Tree). built plain q >>= λ r. goes_on r.0 r.1) m.tree }

  turns : (new : Parser) (l : CodeReached) (rest after : List Word) (x : Tail) → tail rest ≡ Some (x, after)
      → goes_on (reaches.tree new.nodes.items l) (place new rest) ≡ (tailed_of N x (reaches.tree new.nodes.items l) (place new after) >>= λ r. goes_on r.0 r.1)
  turns new l rest after x e = trail_on-turn tail (tailed_of N) Steps-tail (λ x l n z t e. shrinks.tailed x l n z t e) (reaches.tree new.nodes.items l) (place new rest) (place new after) x (seen_at new tail rest after x e)

  pub trail_ends : (old new : Parser) (l : CodeReached) (rest : List Word) (read : Answer Reached) → Goes reaches old new l read (trail_on tail (tailed_of N) (reaches.tree new.nodes.items l) (place new rest)) → tail rest ≡ None → Made reaches old new l rest read
  trail_ends old new l rest read g e = record {
    there = g.there;
    tree = g.same ∙ trail_on-ends tail (tailed_of N) Steps-tail (λ x l n z t e. shrinks.tailed x l n z t e) (reaches.tree new.nodes.items l) (place new rest) (unseen_at new tail rest e);
    kept = g.kept;
  }

  pub trail_fails : (old s0 : Parser) (l : CodeReached) (rest after : List Word) (x : Tail) (read : Answer Reached) (d : Refusal) → Goes reaches old s0 l read (trail_on tail (tailed_of N) (reaches.tree s0.nodes.items l) (place s0 rest)) → tail rest ≡ Some (x, after)
      → Fails d (tailed_of N x (reaches.tree s0.nodes.items l) (place s0 after)) → Fails d read
  trail_fails old s0 l rest after x read d g e h =
      fails_eq d read (tailed_of N x (reaches.tree s0.nodes.items l) (place s0 after) >>= λ r. goes_on r.0 r.1) (g.same ∙ turns s0 l rest after x e)
      (fails_bind d (tailed_of N x (reaches.tree s0.nodes.items l) (place s0 after)) (λ r. goes_on r.0 r.1) h)

  pub trail_smaller : (s0 s1 : Parser) (l b : CodeReached) (rest after left : List Word) (x : Tail) → tail rest ≡ Some (x, after) → Made reaches s0 s1 b left (tailed_of N x (reaches.tree s0.nodes.items l) (place s0 after)) → length left < length rest
  trail_smaller s0 s1 l b rest after left x e m =
      omega (arith, Steps-tail (place s0 rest) (place s0 after) x (seen_at s0 tail rest after x e), shrinks.tailed x (reaches.tree s0.nodes.items l) (place s0 after) (place s1 left) (reaches.tree s1.nodes.items b) m.tree)

  pub trail_goes : (old s0 s1 : Parser) (l b : CodeReached) (rest after left : List Word) (x : Tail) (read : Answer Reached) → Goes reaches old s0 l read (trail_on tail (tailed_of N) (reaches.tree s0.nodes.items l) (place s0 rest)) → tail rest ≡ Some (x, after)
      → Made reaches s0 s1 b left (tailed_of N x (reaches.tree s0.nodes.items l) (place s0 after)) → Goes reaches old s1 b read (trail_on tail (tailed_of N) (reaches.tree s1.nodes.items b) (place s1 left))
  trail_goes old s0 s1 l b rest after left x read g e m = record {
    there = m.there;
    kept = Extends-trans old.nodes.items s0.nodes.items s1.nodes.items g.kept m.kept;
    same = g.same ∙ turns s0 l rest after x e ∙ ap (λ (q : Answer Reached). q >>= λ r. goes_on r.0 r.1) m.tree;
  }

-- a call by a name, and what stands behind its arguments
pub gives_called : (N : Readers) (old m1 m2 new : Parser) (id : ℕ) (x : Sym) (es fs : List ℕ) (words after rest : List Word) (r : Result (ℕ × Bor (List Word)) Refusal) → fs ≡ es → bracket words ≡ Some (tt, after)
    → Made (lists nodes) old m1 es rest (N.bracketed (place old after)) → Puts m1 m2 (call x.0 (listed (map (tree_at m1.nodes.items) fs))) id
    → Gives m2 new r (blocked_of N behinds.Call (tree_at m2.nodes.items id) (place m2 rest)) → Gives old new r (name_of N x (place old words))
unfolding name_of
gives_called N old m1 m2 new id x es fs words after rest r same e m p g =
    let made : Made nodes old m2 id rest (call_of x (N.bracketed (place old after))) = made_over (λ q. call x.0 (listed q)) m p (ap (λ (q : List ℕ). call x.0 (listed (map (tree_at m1.nodes.items) q))) same) in
    subst (λ (o : Option (Unit {0} × Place)). Gives old new r (name_or N x (place old words) o)) (sym (seen_at old bracket words after tt e))
    (gives_from old m2 new id rest (call_of x (N.bracketed (place old after))) (λ c s. blocked_of N behinds.Call c s) r made g)

pub fails_called : (N : Readers) (old : Parser) (x : Sym) (words after : List Word) (d : Refusal) → bracket words ≡ Some (tt, after) → Fails d (N.bracketed (place old after)) → Fails d (name_of N x (place old words))
unfolding name_of
fails_called N old x words after d e h =
    fails_eq d (name_of N x (place old words)) (then_blocked N behinds.Call (call_of x (N.bracketed (place old after)))) (ap (name_or N x (place old words)) (seen_at old bracket words after tt e))
    (fails_bind d (call_of x (N.bracketed (place old after))) (λ c. blocked_of N behinds.Call c.0 c.1) (fails_bind d (N.bracketed (place old after)) (λ l. Ok (call x.0 (listed l.0), l.1)) h))

-- a name without a bracket
reads_unbracketed : (N : Readers) (old : Parser) (x : Sym) (words : List Word) → bracket words ≡ None → name_of N x (place old words) ≡ unbracketed_or N x (place old words) (opened behinds.Call (place old words))
unfolding name_of
reads_unbracketed N old x words e = ap (name_or N x (place old words)) (unseen_at old bracket words e)

-- a name and a block
pub gives_alone : (N : Readers) (old m1 new : Parser) (id : ℕ) (x : Sym) (words after : List Word) (k : Fence) (r : Result (ℕ × Bor (List Word)) Refusal) → bracket words ≡ None → opening behinds.Call old.known.takes_do words ≡ Some (k, after)
    → Puts old m1 (call x.0 (listed [])) id → Gives m1 new r (block_behind N k (tree_at m1.nodes.items id) (place m1 after)) → Gives old new r (name_of N x (place old words))
gives_alone N old m1 new id x words after k r e f p g =
    let t = call x.0 (listed []) in
    subst (λ (q : Answer Tree). Gives old new r q) (sym (reads_unbracketed N old x words e ∙ ap (unbracketed_or N x (place old words)) (seen_at old (opening behinds.Call old.known.takes_do) words after k f)))
    (gives_from old m1 new id after (Ok (t, place old after)) (λ c s. block_behind N k c s) r (made_put old old m1 id after t (Ok (t, place old after)) refl (Extends-refl old.nodes.items) p) g)

-- a name alone
pub gives_plain : (N : Readers) (old new : Parser) (x : Sym) (words : List Word) (r : Result (ℕ × Bor (List Word)) Refusal) → bracket words ≡ None → opening behinds.Call old.known.takes_do words ≡ None → Gives old new r (variable_or_call x (place old words)) → Gives old new r (name_of N x (place old words))
gives_plain N old new x words r e f g =
    subst (λ (q : Answer Tree). Gives old new r q) (sym (reads_unbracketed N old x words e ∙ ap (unbracketed_or N x (place old words)) (unseen_at old (opening behinds.Call old.known.takes_do) words f))) g

-- ---- blocks

pub gives_blocked : (N : Readers) (old new : Parser) (q : Behind) (c : Tree) (words rest : List Word) (k : Fence) (r : Result (ℕ × Bor (List Word)) Refusal) → opening q old.known.takes_do words ≡ Some (k, rest)
    → Gives old new r (block_behind N k c (place old rest)) → Gives old new r (blocked_of N q c (place old words))
unfolding blocked_of
gives_blocked N old new q c words rest k r e g = subst (λ (o : Option (Fence × Place)). Gives old new r (blocked_or N c (place old words) o)) (sym (seen_at old (opening q old.known.takes_do) words rest k e)) g

pub made_unblocked : (N : Readers) (old : Parser) (q : Behind) (c : ℕ) (words : List Word) → c < length old.nodes.items → opening q old.known.takes_do words ≡ None → Made nodes old old c words (blocked_of N q (tree_at old.nodes.items c) (place old words))
unfolding blocked_of
made_unblocked N old q c words lt e = record { there = lt; tree = ap (blocked_or N (tree_at old.nodes.items c) (place old words)) (unseen_at old (opening q old.known.takes_do) words e); kept = Extends-refl old.nodes.items }

pub made_behind : (N : Readers) (old m1 new : Parser) (k : Fence) (c b id : ℕ) (words rest : List Word) → c < length old.nodes.items → Made nodes old m1 b rest (N.part (parts.Block k) (place old words))
    → Puts m1 new (with_block (tree_at m1.nodes.items c) (tree_at m1.nodes.items b)) id → Made nodes old new id rest (block_behind N k (tree_at old.nodes.items c) (place old words))
made_behind N old m1 new k c b id words rest lt m p = made_over (with_block (tree_at old.nodes.items c)) m p (ap (λ (u : Tree). with_block u (tree_at m1.nodes.items b)) (tree_at-kept old.nodes.items m1.nodes.items c m.kept lt))

-- a command: its arguments, and what stands behind them
pub gives_headed : (N : Readers) (old m1 m2 new : Parser) (id : ℕ) (x : Head) (es fs : List ℕ) (words rest : List Word) (r : Result (ℕ × Bor (List Word)) Refusal) → fs ≡ es
    → Made (lists nodes) old m1 es rest (arguments_of N x (place old words)) → Puts m1 m2 (headed x (map (tree_at m1.nodes.items) fs)) id
    → Gives m2 new r (blocked_of N (behinds.Command x) (tree_at m2.nodes.items id) (place m2 rest)) → Gives old new r (headed_of N x (place old words))
unfolding headed_of
gives_headed N old m1 m2 new id x es fs words rest r same m p g =
    let made : Made nodes old m2 id rest (built (headed x) (arguments_of N x (place old words))) = made_over (headed x) m p (ap (λ (q : List ℕ). headed x (map (tree_at m1.nodes.items) q)) same) in
    gives_from old m2 new id rest (built (headed x) (arguments_of N x (place old words))) (λ c s. blocked_of N (behinds.Command x) c s) r made g

pub fails_headed : (N : Readers) (old : Parser) (x : Head) (words : List Word) (d : Refusal) → Fails d (arguments_of N x (place old words)) → Fails d (headed_of N x (place old words))
unfolding headed_of
fails_headed N old x words d h =
    fails_bind d (built (headed x) (arguments_of N x (place old words))) (λ c. blocked_of N (behinds.Command x) c.0 c.1)
    (fails_bind d (arguments_of N x (place old words)) (λ l. Ok (headed x l.0, l.1)) h)

-- ---- where calls take the word `do`, or not

module _ {A : Type 0} (p : Parse A) (b : Bool) (old s0 : Parser) (words : List Word) (set : SetsDo old s0 b) where
  reads_taking : taking_of b p (place old words) ≡ (p (place s0 words) >>= λ x. Ok (x.0, taking_as (place old words) x.1))
  reads_taking = ap (λ (k : Known). p (record { known = k; rest = words }) >>= λ x. Ok (x.0, taking_as (place old words) x.1)) (sym set.known)

  pub fails_taking : (d : Refusal) → Fails d (p (place s0 words)) → Fails d (taking_of b p (place old words))
  fails_taking d h =
      fails_eq d (taking_of b p (place old words)) (p (place s0 words) >>= λ x. Ok (x.0, taking_as (place old words) x.1)) reads_taking
      (fails_bind d (p (place s0 words)) (λ x. Ok (x.0, taking_as (place old words) x.1)) h)

  pub made_taking : {E : Type 0} (v : View E A) (m1 new : Parser) (e : E) (rest : List Word) (was : Bool) → was ≡ (known_of old).takes_do → Made v s0 m1 e rest (p (place s0 words)) → SetsDo m1 new was
      → Made v old new e rest (taking_of b p (place old words))
  made_taking v m1 new e rest was is m back = record {
    there = subst (λ (ns : List Node). v.within (length ns) e) (sym back.nodes) m.there;
    tree =
        reads_taking
        ∙ ap (λ (q : Answer A). q >>= λ x. Ok (x.0, taking_as (place old words) x.1)) m.tree
        ∙ ap (λ (q : Bool). Ok (v.tree m1.nodes.items e, record { known = with_do q (known_of m1); rest = rest })) (sym is)
        ∙ ap (λ (k : Known). Ok (v.tree m1.nodes.items e, record { known = k; rest = rest })) (sym back.known)
        ∙ ap (λ (ns : List Node). Ok (v.tree ns e, place new rest)) (sym back.nodes);
    kept = subst (λ (ns : List Node). Extends ns new.nodes.items) set.nodes (subst (λ (ns : List Node). Extends s0.nodes.items ns) (sym back.nodes) m.kept);
  }

module _ (N : Readers) (fence : Fence) (old s1 : Parser) (xs : List Sym) (k : Scope) (words rest : List Word) (e : parameters words ≡ Some (xs, rest)) (n : Enters old s1 xs k) where
  entered_place : place s1 rest ≡ entered xs (place old rest)
  entered_place = ap (λ (q : Known). record { known = q; rest = rest }) n.begins.known

  reads_block : block_of N fence (place old words) ≡ left_block (place old words) xs (place old rest) (closed (fence_end fence) (held_of N fence (place s1 rest)))
  unfolding block_of
  reads_block =
      ap (block_or N fence (place old words)) (seen_at old parameters words rest xs e)
      ∙ ap (λ (q : Place). left_block (place old words) xs (place old rest) (closed (fence_end fence) (held_of N fence q))) (sym entered_place)

  pub fails_block : (d : Refusal) → Fails d (held_of N fence (place s1 rest)) → Fails d (block_of N fence (place old words))
  fails_block d h =
      let body = closed (fence_end fence) (held_of N fence (place s1 rest)) in
      fails_eq d (block_of N fence (place old words)) (left_block (place old words) xs (place old rest) body) reads_block
      (fails_bind d body (λ q. Ok (block_tree xs (place old rest) q.1 q.0, leaving (place old words) q.1)) (fails_bind d (held_of N fence (place s1 rest)) (λ x. ended_by x.0 (at (word (fence_end fence)) x.1)) h))

  module _ (s2 : Parser) (t : ℕ) (left : List Word) (m : Made nodes s1 s2 t left (held_of N fence (place s1 rest))) where
    pub wrong_block : word (fence_end fence) left ≡ None → block_of N fence (place old words) ≡ Err wrong
    wrong_block c =
        reads_block
        ∙ ap (left_block (place old words) xs (place old rest)) (closed_wrong s2 (fence_end fence) left (tree_at s2.nodes.items t) (held_of N fence (place s1 rest)) m.tree c)

    left_known : (s3 : Parser) → Leaves s2 s3 k → known_of s3 ≡ left_to (known_of old) (known_of s2)
    left_known s3 l =
        l.known
        ∙ ap (λ (q : ℕ). record { locals = take q (known_of s2).locals; level = k.level; count = k.count; begun = (known_of s2).begun; in_loop = k.in_loop; in_method = (known_of s2).in_method; takes_do = (known_of s2).takes_do }) n.begins.locals
        ∙ ap (λ (q : ℕ). record { locals = take (length (known_of old).locals) (known_of s2).locals; level = q; count = k.count; begun = (known_of s2).begun; in_loop = k.in_loop; in_method = (known_of s2).in_method; takes_do = (known_of s2).takes_do }) n.begins.level
        ∙ ap (λ (q : ℕ). record { locals = take (length (known_of old).locals) (known_of s2).locals; level = (known_of old).level; count = q; begun = (known_of s2).begun; in_loop = k.in_loop; in_method = (known_of s2).in_method; takes_do = (known_of s2).takes_do }) n.begins.count
        ∙ ap (λ (q : Bool). record { locals = take (length (known_of old).locals) (known_of s2).locals; level = (known_of old).level; count = (known_of old).count; begun = (known_of s2).begun; in_loop = q; in_method = (known_of s2).in_method; takes_do = (known_of s2).takes_do }) n.begins.in_loop

    left_tree : (s3 : Parser) (size : ℕ) → Leaves s2 s3 k → size ≡ (known_of s2).count → (after : List Word)
        → block_tree xs (place old rest) (place s2 after) (tree_at s2.nodes.items t) ≡ block k.number k.parameters size (tree_at s3.nodes.items t)
    left_tree s3 size l is after =
        ap (λ (q : Known). block q.begun (length xs) (known_of s2).count (tree_at s2.nodes.items t)) (sym n.begins.known)
        ∙ ap (λ (q : ℕ). block q (length xs) (known_of s2).count (tree_at s2.nodes.items t)) (sym n.begins.number)
        ∙ ap (λ (q : ℕ). block k.number q (known_of s2).count (tree_at s2.nodes.items t)) (sym n.begins.parameters)
        ∙ ap (λ (q : ℕ). block k.number k.parameters q (tree_at s2.nodes.items t)) (sym is)
        ∙ ap (λ (ns : List Node). block k.number k.parameters size (tree_at ns t)) (sym l.nodes)

    pub made_block : (s3 new : Parser) (size id : ℕ) (after : List Word) → word (fence_end fence) left ≡ Some (tt, after) → size ≡ (known_of s2).count → Leaves s2 s3 k
        → Puts s3 new (block k.number k.parameters size (tree_at s3.nodes.items t)) id → Made nodes old new id after (block_of N fence (place old words))
    made_block s3 new size id after c is l p =
        made_put old s3 new id after (block k.number k.parameters size (tree_at s3.nodes.items t)) (block_of N fence (place old words))
        (reads_block
        ∙ ap (left_block (place old words) xs (place old rest)) (closed_tree s2 (fence_end fence) left after (tree_at s2.nodes.items t) (held_of N fence (place s1 rest)) m.tree c)
        ∙ ap (λ (u : Tree). Ok (u, leaving (place old words) (place s2 after))) (left_tree s3 size l is after)
        ∙ ap (λ (q : Known). Ok (block k.number k.parameters size (tree_at s3.nodes.items t), record { known = q; rest = after })) (sym (left_known s3 l)))
        (subst (λ (ns : List Node). Extends old.nodes.items ns) (sym l.nodes) (subst (λ (ns : List Node). Extends ns s2.nodes.items) n.nodes m.kept)) p

pub fails_parameters : (N : Readers) (fence : Fence) (old : Parser) (words : List Word) (d : Refusal) → ReadsNames (Err d) (parameters words) → Fails d (block_of N fence (place old words))
unfolding block_of
fails_parameters N fence old words (refusal.Storage s) h = tt
fails_parameters N fence old words refusal.Nesting h = absurd h
fails_parameters N fence old words (refusal.Unexpected n) h = ap (block_or N fence (place old words)) (unseen_at old parameters words h)
fails_parameters N fence old words (refusal.Number n) h = absurd h
fails_parameters N fence old words (refusal.LeftOut n) h = absurd h
fails_parameters N fence old words (refusal.Constant n) h = absurd h

single : (n i : ℕ) → i < n → All (λ j. j < n) (i ∷ [])
single n i h zero d lt = h
single n i h (suc k) d lt = let never : ⊥ = omega arith in absurd never

-- members of a list, with what ends it
pub made_bracketed : (N : Readers) (k : Listed) (old mid : Parser) (es : List ℕ) (words rest after : List Word) → closing k words ≡ None → Made (lists nodes) old mid es rest (listed_of N k (place old words)) → last k rest ≡ Some (tt, after)
    → Made (lists nodes) old mid es after (bracketed_of N k (place old words))
unfolding bracketed_of
made_bracketed N k old mid es words rest after none m e = record {
  there = m.there;
  tree =
      ap (bracketed_or N k (place old words)) (unseen_at old (closing k) words none)
      ∙ ap (λ (q : Answer (List Tree)). q >>= λ l. ended_by l.0 (at (last k) l.1)) m.tree
      ∙ ap (ended_by (map (tree_at mid.nodes.items) es)) (seen_at mid (last k) rest after tt e);
  kept = m.kept;
}

pub wrong_bracketed : (N : Readers) (k : Listed) (old mid : Parser) (es : List ℕ) (words rest : List Word) → closing k words ≡ None → Made (lists nodes) old mid es rest (listed_of N k (place old words)) → last k rest ≡ None
    → bracketed_of N k (place old words) ≡ Err wrong
unfolding bracketed_of
wrong_bracketed N k old mid es words rest none m e =
    ap (bracketed_or N k (place old words)) (unseen_at old (closing k) words none)
    ∙ ap (λ (q : Answer (List Tree)). q >>= λ l. ended_by l.0 (at (last k) l.1)) m.tree
    ∙ ap (ended_by (map (tree_at mid.nodes.items) es)) (unseen_at mid (last k) rest e)

pub fails_bracketed : (N : Readers) (k : Listed) (old : Parser) (words : List Word) (d : Refusal) → closing k words ≡ None → Fails d (listed_of N k (place old words)) → Fails d (bracketed_of N k (place old words))
unfolding bracketed_of
fails_bracketed N k old words d none h =
    fails_eq d (bracketed_of N k (place old words)) (listed_of N k (place old words) >>= λ l. ended_by l.0 (at (last k) l.1)) (ap (bracketed_or N k (place old words)) (unseen_at old (closing k) words none))
    (fails_bind d (listed_of N k (place old words)) (λ l. ended_by l.0 (at (last k) l.1)) h)

pub empty_bracketed : (N : Readers) (k : Listed) (old : Parser) (es : List ℕ) (words after : List Word) → closing k words ≡ Some (tt, after) → es ≡ [] → Made (lists nodes) old old es after (bracketed_of N k (place old words))
unfolding bracketed_of
empty_bracketed N k old es words after e is = record {
  there = subst (λ (l : List ℕ). All (λ i. i < length old.nodes.items) l) (sym is) (λ k d lt. let never : ⊥ = omega arith in absurd never);
  tree = ap (bracketed_or N k (place old words)) (seen_at old (closing k) words after tt e) ∙ ap (λ (l : List ℕ). Ok (map (tree_at old.nodes.items) l, place old after)) (sym is);
  kept = Extends-refl old.nodes.items;
}

-- a command with a receiver that is the only argument of another one
pub made_argument_order : (N : Readers) (old new : Parser) (id : ℕ) (o : Reached) (es : List ℕ) (x : Sym) (words after rest : List Word) → order words ≡ Some (x, after) → Made nodes old new id rest (N.ordered o.tree x (place old after)) → es ≡ id ∷ []
    → Made (lists nodes) old new es rest (commanded_on N o (place old words))
unfolding commanded_on
made_argument_order N old new id o es x words after rest e m is = record {
  there = subst (λ (l : List ℕ). All (λ i. i < length new.nodes.items) l) (sym is) (single (length new.nodes.items) id m.there);
  tree =
      ap (receiver_or N o (place old words)) (seen_at old order words after x e)
      ∙ ap (built one_of) m.tree
      ∙ ap (λ (l : List ℕ). Ok (map (tree_at new.nodes.items) l, place new rest)) (sym is);
  kept = m.kept;
}

pub fails_argument_order : (N : Readers) (old : Parser) (o : Reached) (x : Sym) (words after : List Word) (d : Refusal) → order words ≡ Some (x, after) → Fails d (N.ordered o.tree x (place old after)) → Fails d (commanded_on N o (place old words))
unfolding commanded_on
fails_argument_order N old o x words after d e h =
    fails_eq d (commanded_on N o (place old words)) (built one_of (N.ordered o.tree x (place old after))) (ap (receiver_or N o (place old words)) (seen_at old order words after x e))
    (fails_bind d (N.ordered o.tree x (place old after)) (λ q. Ok (one_of q.0, q.1)) h)

-- a command that is the only argument of another one
pub made_argument_command : (N : Readers) (old new : Parser) (id : ℕ) (es : List ℕ) (x : Head) (words after rest : List Word) → command (known_of old) words ≡ Some (x, after) → Made nodes old new id rest (N.part parts.Command (place old words)) → es ≡ id ∷ []
    → Made (lists nodes) old new es rest (commanded_of N (place old words))
unfolding commanded_of
made_argument_command N old new id es x words after rest e m is = record {
  there = subst (λ (l : List ℕ). All (λ i. i < length new.nodes.items) l) (sym is) (single (length new.nodes.items) id m.there);
  tree =
      ap (commanded_or N (place old words)) (ap (placed (known_of old)) e)
      ∙ ap (built one_of) m.tree
      ∙ ap (λ (l : List ℕ). Ok (map (tree_at new.nodes.items) l, place new rest)) (sym is);
  kept = m.kept;
}
