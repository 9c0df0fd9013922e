-- What the code made of definitions, and of what passes arguments on.
use Rattle.std.proofs.Common.{◌≡◌, ℕ, ◌+◌, Bool, true, false, cond, List, [], length, map, Some, None, Ok, Err, sym, ap, ◌∙◌, subst}
use Rattle.rr_base.specs.declared.name.Sym.{Sym}
use Rattle.rr_tree.specs.declared.node.Node.{Node}
use Rattle.rr_tree.specs.Tree.{Tree, method, listed, tree_at}
use Rattle.rr_tree.specs.Nodes.{Extends}
use Rattle.rr_tree.proofs.Growth.{Extends-refl}
use Rattle.rr_parser.specs.declared.locals.Local.{Local}
use Rattle.rr_parser.specs.declared.definitions.Outside.{Outside}
use Rattle.rr_parser.specs.declared.refusal.Refusal.{Refusal}
use Rattle.rr_parser.specs.declared.refusal.Refusal.TheVariants as refusal
use Rattle.rr_parser.specs.declared.parser.Parser.{Parser}
use Rattle.rr_parser.specs.declared.variables.Variables.{Variables}
use Rattle.rr_parser.specs.declared.word.Passing.{Passing}
use Rattle.rr_parser.specs.declared.word.Word.{Word}
use Rattle.rr_parser.specs.declared.word.WordKind.TheVariants as kind
use Rattle.rr_parser.specs.Places.{Known, Place, word, at}
use Rattle.rr_parser.specs.Variables.{known_in}
use Rattle.rr_parser.specs.Grammar.Names.{bracket, passed, passed_bare, begins_operands}
use Rattle.rr_parser.specs.Grammar.Blocks.{with_parameters}
use Rattle.rr_parser.specs.Grammar.Definitions.{method_name, formals, apart, defined, rejoined, rejoining, method_tree}
use Rattle.rr_parser.specs.Reading.Answers.{wrong, built, ended_by, closed}
use Rattle.rr_parser.specs.Reading.Nesting.{Readers}
use Rattle.rr_parser.specs.Reading.Operands.{passing_or, passing_of}
use Rattle.rr_parser.specs.Reading.Bodies.{body_of}
use Rattle.rr_parser.specs.Reading.Definitions.{left_method, method_or, definition_or, definition_of}
use Rattle.rr_parser.specs.Meets.{nodes, lists, Made, Fails, Puts, Defines, Rejoins, ReadsNames, known_of, place}
use Rattle.rr_parser.proofs.Making.{made_over, made_eq, made_put, fails_eq, fails_bind, seen_at, unseen_at, closed_tree, closed_wrong}

-- ---- scopes of methods

-- what a method knows first
pub entered_apart : (old : Known) (set grown : Variables) (xs : List Sym) (locals : List Local) (begun : ℕ) → known_in grown ≡ with_parameters xs (known_in set)
    → set ≡ record { locals = locals; level = 0; count = 0; begun = begun; in_loop = false; in_method = true; takes_do = true } → locals ≡ [] → begun ≡ old.begun + 1 → known_in grown ≡ with_parameters xs (apart old)
entered_apart old set grown xs locals begun e f g h =
    e
    ∙ ap (λ (v : Variables). with_parameters xs (known_in v)) f
    ∙ ap (λ (ls : List Local). with_parameters xs (record { locals = ls; level = 0; count = 0; begun = begun; in_loop = false; in_method = true; takes_do = true })) g
    ∙ ap (λ (n : ℕ). with_parameters xs (record { locals = []; level = 0; count = 0; begun = n; in_loop = false; in_method = true; takes_do = true })) h

module _ (N : Readers) (old s1 : Parser) (x : Sym) (xs : List Sym) (k : Outside) (words after rest : List Word) (e : method_name words ≡ Some (x, after)) (f : formals after ≡ Some (xs, rest)) (n : Defines old s1 xs k) where
  defined_place : place s1 rest ≡ defined xs (place old rest)
  defined_place = ap (λ (q : Known). record { known = q; rest = rest }) n.known

  reads_method : definition_of N (place old words) ≡ left_method (place old words) x xs (place old rest) (closed kind.End (body_of N (place s1 rest)))
  unfolding definition_of
  reads_method =
      ap (definition_or N (place old words)) (seen_at old method_name words after x e)
      ∙ ap (method_or N (place old words) x) (seen_at old formals after rest xs f)
      ∙ ap (λ (q : Place). left_method (place old words) x xs (place old rest) (closed kind.End (body_of N q))) (sym defined_place)

  pub fails_method : (d : Refusal) → Fails d (body_of N (place s1 rest)) → Fails d (definition_of N (place old words))
  fails_method d h =
      let body = closed kind.End (body_of N (place s1 rest)) in
      fails_eq d (definition_of N (place old words)) (left_method (place old words) x xs (place old rest) body) reads_method
      (fails_bind d body (λ q. Ok (method_tree x xs (place old rest) q.1 q.0, rejoining (place old words) q.1)) (fails_bind d (body_of N (place s1 rest)) (λ x. ended_by x.0 (at (word kind.End) x.1)) h))

  module _ (s2 : Parser) (t : ℕ) (left : List Word) (m : Made nodes s1 s2 t left (body_of N (place s1 rest))) where
    pub wrong_method : word kind.End left ≡ None → definition_of N (place old words) ≡ Err wrong
    wrong_method c =
        reads_method
        ∙ ap (left_method (place old words) x xs (place old rest)) (closed_wrong s2 kind.End left (tree_at s2.nodes.items t) (body_of N (place s1 rest)) m.tree c)

    rejoined_known : (s3 : Parser) → Rejoins s2 s3 k.variables → known_of s3 ≡ rejoined (known_of old) (known_of s2)
    rejoined_known s3 l = l.known ∙ ap (λ (q : Known). rejoined q (known_of s2)) n.outer

    rejoined_tree : (s3 : Parser) (size : ℕ) → Rejoins s2 s3 k.variables → size ≡ (known_of s2).count → (behind : List Word)
        → method_tree x xs (place old rest) (place s2 behind) (tree_at s2.nodes.items t) ≡ method x.0 k.number k.parameters size (tree_at s3.nodes.items t)
    rejoined_tree s3 size l is behind =
        ap (λ (q : Known). method x.0 q.begun (length xs) (known_of s2).count (tree_at s2.nodes.items t)) (sym n.known)
        ∙ ap (λ (q : ℕ). method x.0 q (length xs) (known_of s2).count (tree_at s2.nodes.items t)) (sym n.number)
        ∙ ap (λ (q : ℕ). method x.0 k.number q (known_of s2).count (tree_at s2.nodes.items t)) (sym n.parameters)
        ∙ ap (λ (q : ℕ). method x.0 k.number k.parameters q (tree_at s2.nodes.items t)) (sym is)
        ∙ ap (λ (ns : List Node). method x.0 k.number k.parameters size (tree_at ns t)) (sym l.nodes)

    pub made_method : (s3 new : Parser) (size id : ℕ) (behind : List Word) → word kind.End left ≡ Some (tt, behind) → size ≡ (known_of s2).count → Rejoins s2 s3 k.variables
        → Puts s3 new (method x.0 k.number k.parameters size (tree_at s3.nodes.items t)) id → Made nodes old new id behind (definition_of N (place old words))
    made_method s3 new size id behind c is l p =
        made_put old s3 new id behind (method x.0 k.number k.parameters size (tree_at s3.nodes.items t)) (definition_of N (place old words))
        (reads_method
        ∙ ap (left_method (place old words) x xs (place old rest)) (closed_tree s2 kind.End left behind (tree_at s2.nodes.items t) (body_of N (place s1 rest)) m.tree c)
        ∙ ap (λ (u : Tree). Ok (u, rejoining (place old words) (place s2 behind))) (rejoined_tree s3 size l is behind)
        ∙ ap (λ (q : Known). Ok (method x.0 k.number k.parameters size (tree_at s3.nodes.items t), record { known = q; rest = behind })) (sym (rejoined_known s3 l)))
        (subst (λ (ns : List Node). Extends old.nodes.items ns) (sym l.nodes) (subst (λ (ns : List Node). Extends ns s2.nodes.items) n.nodes m.kept)) p

pub fails_formals : (N : Readers) (old : Parser) (x : Sym) (words after : List Word) (d : Refusal) → method_name words ≡ Some (x, after) → ReadsNames (Err d) (formals after) → Fails d (definition_of N (place old words))
unfolding definition_of
fails_formals N old x words after (refusal.Storage s) e h = tt
fails_formals N old x words after refusal.Nesting e h = absurd h
fails_formals N old x words after (refusal.Unexpected n) e h = ap (definition_or N (place old words)) (seen_at old method_name words after x e) ∙ ap (method_or N (place old words) x) (unseen_at old formals after h)
fails_formals N old x words after (refusal.Number n) e h = absurd h
fails_formals N old x words after (refusal.LeftOut n) e h = absurd h
fails_formals N old x words after (refusal.Constant n) e h = absurd h

-- ---- what passes arguments on

pub wrong_passing : (N : Readers) (old : Parser) (p : Passing) (words : List Word) → old.known.in_method ≡ false → passing_of N p (place old words) ≡ Err wrong
unfolding passing_of
wrong_passing N old p words e = ap (λ (b : Bool). cond b (passing_or N p (place old words) (at bracket (place old words))) (Err wrong)) e

module _ (N : Readers) (old : Parser) (p : Passing) (words : List Word) (inside : old.known.in_method ≡ true) where
  reads_passing : passing_of N p (place old words) ≡ passing_or N p (place old words) (at bracket (place old words))
  unfolding passing_of
  reads_passing = ap (λ (b : Bool). cond b (passing_or N p (place old words) (at bracket (place old words))) (Err wrong)) inside

  reads_passed : (after : List Word) → bracket words ≡ Some (tt, after) → passing_of N p (place old words) ≡ built (λ l. passed p (listed l)) (N.bracketed (place old after))
  reads_passed after e = reads_passing ∙ ap (passing_or N p (place old words)) (seen_at old bracket words after tt e)

  pub fails_passed : (after : List Word) (d : Refusal) → bracket words ≡ Some (tt, after) → Fails d (N.bracketed (place old after)) → Fails d (passing_of N p (place old words))
  fails_passed after d e h =
      fails_eq d (passing_of N p (place old words)) (built (λ l. passed p (listed l)) (N.bracketed (place old after))) (reads_passed after e)
      (fails_bind d (N.bracketed (place old after)) (λ l. Ok (passed p (listed l.0), l.1)) h)

  pub made_passed : (m1 new : Parser) (es fs : List ℕ) (id : ℕ) (after rest : List Word) → fs ≡ es → bracket words ≡ Some (tt, after) → Made (lists nodes) old m1 es rest (N.bracketed (place old after))
      → Puts m1 new (passed p (listed (map (tree_at m1.nodes.items) fs))) id → Made nodes old new id rest (passing_of N p (place old words))
  made_passed m1 new es fs id after rest same e m q =
      made_eq (passing_of N p (place old words)) (built (λ l. passed p (listed l)) (N.bracketed (place old after))) (reads_passed after e)
      (made_over (λ l. passed p (listed l)) m q (ap (λ (l : List ℕ). passed p (listed (map (tree_at m1.nodes.items) l))) same))

  reads_bare : bracket words ≡ None → passing_of N p (place old words) ≡ cond (begins_operands words) (Err wrong) (Ok (passed_bare p, place old words))
  reads_bare e = reads_passing ∙ ap (passing_or N p (place old words)) (unseen_at old bracket words e)

  pub wrong_bare : bracket words ≡ None → begins_operands words ≡ true → passing_of N p (place old words) ≡ Err wrong
  wrong_bare e f = reads_bare e ∙ ap (λ (b : Bool). cond b (Err wrong) (Ok (passed_bare p, place old words))) f

  pub made_bare_passed : (new : Parser) (id : ℕ) → bracket words ≡ None → begins_operands words ≡ false → Puts old new (passed_bare p) id → Made nodes old new id words (passing_of N p (place old words))
  made_bare_passed new id e f q =
      made_put old old new id words (passed_bare p) (passing_of N p (place old words)) (reads_bare e ∙ ap (λ (b : Bool). cond b (Err wrong) (Ok (passed_bare p, place old words))) f) (Extends-refl old.nodes.items) q
