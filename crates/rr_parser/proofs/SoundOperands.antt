-- What is read of operands and operators is spelled.
use Rattle.std.proofs.Common.{◌≡◌, zero, suc, pos, Bool, true, false, cond, List, Option, Some, None, Ok, Err, refl, sym, subst, ap, ◌∙◌, ℕ, []}
use Rattle.rr_base.specs.declared.name.Sym.{Sym}
use Rattle.rr_parser.specs.declared.word.Naming.{Naming}
use Rattle.rr_parser.specs.declared.word.Infix.{Infix}
use Rattle.rr_tree.specs.Tree.{Tree, nil, int, bare, call, with_block, negate, sequence, choose, send, constant, logical_not, listed}
use Rattle.rr_tree.specs.declared.node.Path.TheVariants as paths
use Rattle.rr_parser.specs.declared.word.Tail.{Tail}
use Rattle.rr_parser.specs.declared.word.Tail.TheVariants as tails
use Rattle.rr_parser.specs.declared.word.Behind.{Behind}
use Rattle.rr_parser.specs.declared.word.Behind.TheVariants as behinds
use Rattle.rr_parser.specs.declared.word.Fence.{Fence}
use Rattle.rr_parser.specs.declared.word.Jump.{Jump}
use Rattle.rr_parser.specs.declared.word.Passing.{Passing}
use Rattle.rr_parser.specs.declared.word.Part.{Part}
use Rattle.rr_parser.specs.declared.word.Part.TheVariants as parts
use Rattle.rr_parser.specs.declared.word.WordKind.{WordKind}
use Rattle.rr_parser.specs.declared.word.WordKind.TheVariants as kind
use Rattle.rr_parser.specs.Places.{Place, word, at, next, skip}
use Rattle.rr_parser.specs.Grammar.Chains.{one, same}
use Rattle.rr_parser.specs.Grammar.Nesting.{Nested}
use Rattle.rr_parser.specs.Grammar.Names.{is_local, variable_of, told_behind, local_tree, is_allowed, jump_tree, begins_arguments, passed, passed_bare, name, bracket, begins_operands}
use Rattle.rr_parser.specs.Grammar.Operands.{fits, fits_below, negated, joined, literal_of, inner_constant, construct_of, Blocked, no_block, a_block, Primary, a_literal, a_constant, a_path, a_negative, a_local, a_bare_call, a_call, a_block_call, a_jump, a_passing, a_passing_call, a_construct, tail, Tailed, Reached, plain, at_element, at_attribute, Plain, as_it_is, an_attribute, a_block_send, a_sent_call, an_index, Postfix, Bang, a_bang, no_bang, Minus, a_minus, no_minus}
use Rattle.rr_parser.specs.Grammar.Operators.{operator, infixed, Binary, Equality, a_comparison, a_pair, connective, joined_by, Logical, Ternary, no_question, a_question}
use Rattle.rr_parser.specs.Grammar.Fences.{Taking, taken, taking, taking_as, opened}
use Rattle.rr_parser.specs.Grammar.{Enclosed}
use Rattle.rr_parser.specs.Reading.Answers.{wrong, Answer, Parse, built, taking_of, enclosed_of, chain_on, trail_on}
use Rattle.rr_parser.specs.Reading.Nesting.{Readers}
use Rattle.rr_parser.specs.Reading.Operands.{call_of, bare_call, blocked_or, blocked_of, then_blocked, unbracketed_or, name_or, name_of, passing_or, passing_of, constant_or, constant_at, int_at, negative_in, negative_of, begun, primary_at, primary_in, primary_of, block_behind, sent_or, sent_of, sent_call_of, element_of, plainly, tailed_of, tree_reached, postfix_of, bang_or, bang_of, prefix_minus, minus_or, minus_of}
use Rattle.rr_parser.specs.Reading.Operators.{binary_on, binary_of, pair_or, equality_on, logical_on, logical_of, question_or, ternary_on, ternary_of}
use Rattle.rr_parser.specs.Reading.Sequences.{sequence_of}
use Rattle.rr_parser.proofs.Told.{told_bang, told_question, told_colon}
use Rattle.rr_parser.proofs.Looks.{word-next, next-name, prefix-next}
use Rattle.rr_parser.proofs.Trails.{trail_sound}
use Rattle.rr_parser.proofs.Chains.{bind_ok, built_ok, done, ok_place, ok_what, at_answer, across_ok, IsSound, IsSoundOn, from_sound, chain_on-sound}

-- readers of what nests read only what is spelled there
pub record NestedSound (N : Readers) (R : Nested) : Type 0 where
  pub part : (p : Part) → IsSound (N.part p) (R.part p)
  pub bracketed : IsSound N.bracketed R.bracketed
  pub ordered : (r : Tree) (x : Sym) → IsSound (N.ordered r x) (R.ordered r x)
  pub value : (b : Bool) → IsSound (N.value b) (R.value b)
  pub values : IsSound N.values R.values

pub sequence_ok : (r : Answer (List Tree)) (z : Place) (t : Tree) → sequence_of r ≡ Ok (t, z) → (l : List Tree) × (m : Place) × (r ≡ Ok (l, m)) × (sequence (listed l) ≡ t) × (skip m ≡ z)
sequence_ok (Ok x) z t e = (x.0, x.1, refl, ok_what (sequence (listed x.0)) t (skip x.1) z e, ok_place (sequence (listed x.0)) t (skip x.1) z e)
sequence_ok (Err d) z t e = absurd cc

-- the same, where calls take the word `do`, or not
pub taking_sound : {A : Type 0} (b : Bool) (p : Parse A) (P : Place → A → Place → Type 0) → IsSound p P → IsSound (taking_of b p) (Taking b P)
taking_sound b p P sound s z t e =
    let c = bind_ok (p (taking b s)) (λ x. Ok (x.0, taking_as s x.1)) (t, z) e in
    at_answer (Taking b P s) c.0.0 t (taking_as s c.0.1) z c.2 (taken (sound (taking b s) c.0.1 c.0.0 c.1))

pub enclosed_sound : {A : Type 0} (b : Bool) (p : Parse A) (P : Place → A → Place → Type 0) → IsSound p P → IsSound (enclosed_of b p) (Enclosed b P)
enclosed_sound true p P sound = taking_sound true p P sound
enclosed_sound false p P sound = sound

module _ (N : Readers) (R : Nested) (nests : NestedSound N R) where
  fits_sound : (s m : Place) (n : ℕ) (b : Bool) (z : Place) (t : Tree) → next s ≡ Some (kind.Int n, m) → fits n ≡ b → cond b (done (int (pos n)) m) (Err wrong) ≡ done t z → Primary R s t z
  fits_sound s m n true z t f g e = at_answer (Primary R s) (int (pos n)) t m z e (a_literal f (ap (λ b. cond b (Some (int (pos n))) None) g))
  fits_sound s m n false z t f g e = absurd cc

  int_sound : (s m : Place) (n : ℕ) (z : Place) (t : Tree) → next s ≡ Some (kind.Int n, m) → int_at n m ≡ Ok (t, z) → Primary R s t z
  unfolding int_at
  int_sound s m n z t f e = fits_sound s m n (fits n) z t f refl e

  below_sound : (s m o : Place) (n : ℕ) (b : Bool) (z : Place) (t : Tree) → next s ≡ Some (kind.Minus, m) → at joined m ≡ Some (n, o) → fits_below n ≡ b → cond b (done (int (negated n)) o) (Err wrong) ≡ done t z → Primary R s t z
  below_sound s m o n true z t f h g e = at_answer (Primary R s) (int (negated n)) t o z e (a_negative f h g)
  below_sound s m o n false z t f h g e = absurd cc

  negative_in-sound : (s m : Place) (r : Option (ℕ × Place)) (z : Place) (t : Tree) → next s ≡ Some (kind.Minus, m) → at joined m ≡ r → negative_in r ≡ Ok (t, z) → Primary R s t z
  negative_in-sound s m None z t f h e = absurd cc
  negative_in-sound s m (Some n) z t f h e = below_sound s m n.1 n.0 (fits_below n.0) z t f h refl e

  negative_sound : (s m z : Place) (t : Tree) → next s ≡ Some (kind.Minus, m) → negative_of m ≡ Ok (t, z) → Primary R s t z
  unfolding negative_of
  negative_sound s m z t f e = negative_in-sound s m (at joined m) z t f refl e

  constant_or-sound : (s m : Place) (x : Sym) (outer : Naming) (o : Option (Sym × Place)) (z : Place) (t : Tree) → next s ≡ Some (kind.Constant x outer, m) → at (inner_constant outer) m ≡ o → constant_or x m o ≡ Ok (t, z) → Primary R s t z
  constant_or-sound s m x outer None z t f g e = at_answer (Primary R s) (constant (paths.Plain x)) t m z e (a_constant f g)
  constant_or-sound s m x outer (Some y) z t f g e = at_answer (Primary R s) (constant (paths.Ractor y.0)) t y.1 z e (a_path f g)

  constant_sound : (s m : Place) (x : Sym) (outer : Naming) (z : Place) (t : Tree) → next s ≡ Some (kind.Constant x outer, m) → constant_at x outer m ≡ Ok (t, z) → Primary R s t z
  unfolding constant_at
  constant_sound s m x outer z t f e = constant_or-sound s m x outer (at (inner_constant outer) m) z t f refl e

  bare_sound : (s m : Place) (x : Sym) (d : Bool) (z : Place) (t : Tree) → at name s ≡ Some (x, m) → at bracket m ≡ None → opened behinds.Call m ≡ None → is_local x m ≡ false → begins_operands m.rest ≡ d
      → cond d (Err wrong) (done (bare x.0) m) ≡ done t z → Primary R s t z
  bare_sound s m x true z t f o b l g e = absurd cc
  bare_sound s m x false z t f o b l g e = at_answer (Primary R s) (bare x.0) t m z e (a_bare_call f o b l g)

  plain_sound : (s m : Place) (x : Sym) (b : Bool) (z : Place) (t : Tree) → at name s ≡ Some (x, m) → at bracket m ≡ None → opened behinds.Call m ≡ None → is_local x m ≡ b
      → cond b (done (local_tree x (variable_of x m) (told_behind m.rest)) m) (bare_call x m) ≡ done t z → Primary R s t z
  plain_sound s m x true z t f o b l e = at_answer (Primary R s) (local_tree x (variable_of x m) (told_behind m.rest)) t m z e (a_local f o b l)
  plain_sound s m x false z t f o b l e = bare_sound s m x (begins_operands m.rest) z t f o b l refl e

  blocked_or-sound : (q : Behind) (c : Tree) (s : Place) (o : Option (Fence × Place)) (z : Place) (t : Tree) → opened q s ≡ o → blocked_or N c s o ≡ Ok (t, z) → Blocked R q c s t z
  blocked_or-sound q c s None z t f e = at_answer (Blocked R q c s) c t s z e (no_block f)
  blocked_or-sound q c s (Some m) z t f e =
      let b = built_ok (with_block c) (N.part (parts.Block m.0) m.1) t z e in
      subst (λ (v : Tree). Blocked R q c s v z) (sym b.2) (a_block f (nests.part (parts.Block m.0) m.1 z b.0 b.1))

  pub blocked_sound : (q : Behind) (c : Tree) → IsSound (blocked_of N q c) (Blocked R q c)
  unfolding blocked_of
  blocked_sound q c s z t e = blocked_or-sound q c s (opened q s) z t refl e

  -- arguments of a call, and its block
  pub arguments_sound : (f : List Tree → Tree) (n z : Place) (t : Tree) → then_blocked N behinds.Call (built f (N.bracketed n)) ≡ Ok (t, z) → (l : List Tree) × (o : Place) × R.bracketed n l o × Blocked R behinds.Call (f l) o t z
  arguments_sound f n z t e =
      let c = bind_ok (built f (N.bracketed n)) (λ c. blocked_of N behinds.Call c.0 c.1) (t, z) e in
      let b = built_ok f (N.bracketed n) c.0.0 c.0.1 c.1 in
      (b.0, c.0.1, nests.bracketed n c.0.1 b.0 b.1, subst (λ (q : Tree). Blocked R behinds.Call q c.0.1 t z) b.2 (blocked_sound behinds.Call c.0.0 c.0.1 z t c.2))

  call_sound : (s m n : Place) (x : Sym) (u : Unit {0}) (z : Place) (t : Tree) → at name s ≡ Some (x, m) → at bracket m ≡ Some (u, n) → then_blocked N behinds.Call (call_of x (N.bracketed n)) ≡ Ok (t, z) → Primary R s t z
  call_sound s m n x u z t f o e =
      let a = arguments_sound (λ l. call x.0 (listed l)) n z t e in
      a_call {u = u} f o a.2 a.3

  unbracketed_or-sound : (s m : Place) (x : Sym) (o : Option (Fence × Place)) (z : Place) (t : Tree) → at name s ≡ Some (x, m) → at bracket m ≡ None → opened behinds.Call m ≡ o → unbracketed_or N x m o ≡ Ok (t, z) → Primary R s t z
  unbracketed_or-sound s m x None z t f g h e = plain_sound s m x (is_local x m) z t f g h refl e
  unbracketed_or-sound s m x (Some n) z t f g h e =
      let b = built_ok (with_block (call x.0 (listed []))) (N.part (parts.Block n.0) n.1) t z e in
      subst (λ (q : Tree). Primary R s q z) (sym b.2) (a_block_call f g h (nests.part (parts.Block n.0) n.1 z b.0 b.1))

  name_or-sound : (s m : Place) (x : Sym) (o : Option (Unit {0} × Place)) (z : Place) (t : Tree) → at name s ≡ Some (x, m) → at bracket m ≡ o → name_or N x m o ≡ Ok (t, z) → Primary R s t z
  name_or-sound s m x None z t f g e = unbracketed_or-sound s m x (opened behinds.Call m) z t f g refl e
  name_or-sound s m x (Some b) z t f g e = call_sound s m b.1 x b.0 z t f g e

  name_sound : (s m : Place) (x : Sym) (z : Place) (t : Tree) → at name s ≡ Some (x, m) → name_of N x m ≡ Ok (t, z) → Primary R s t z
  unfolding name_of
  name_sound s m x z t f e = name_or-sound s m x (at bracket m) z t f refl e

  jump_test : (s m : Place) (j : Jump) (a b : Bool) (z : Place) (t : Tree) → next s ≡ Some (kind.Jump j, m) → is_allowed j m.known ≡ a → begins_arguments m.rest ≡ b
      → cond a (cond b (Err wrong) (done (jump_tree j nil) m)) (Err wrong) ≡ done t z → Primary R s t z
  jump_test s m j true true z t h f g e = absurd cc
  jump_test s m j true false z t h f g e = at_answer (Primary R s) (jump_tree j nil) t m z e (a_jump h f g)
  jump_test s m j false b z t h f g e = absurd cc

  passing_bare-sound : (s m : Place) (p : Passing) (b : Bool) (z : Place) (t : Tree) → next s ≡ Some (kind.Passing p, m) → m.known.in_method ≡ true → at bracket m ≡ None → begins_operands m.rest ≡ b
      → cond b (Err wrong) (done (passed_bare p) m) ≡ done t z → Primary R s t z
  passing_bare-sound s m p true z t f g h i e = absurd cc
  passing_bare-sound s m p false z t f g h i e = at_answer (Primary R s) (passed_bare p) t m z e (a_passing f g h i)

  passing_or-sound : (s m : Place) (p : Passing) (o : Option (Unit {0} × Place)) (z : Place) (t : Tree) → next s ≡ Some (kind.Passing p, m) → m.known.in_method ≡ true → at bracket m ≡ o → passing_or N p m o ≡ Ok (t, z) → Primary R s t z
  passing_or-sound s m p None z t f g h e = passing_bare-sound s m p (begins_operands m.rest) z t f g h refl e
  passing_or-sound s m p (Some n) z t f g h e =
      let b = built_ok (λ l. passed p (listed l)) (N.bracketed n.1) t z e in
      subst (λ (q : Tree). Primary R s q z) (sym b.2) (a_passing_call {u = n.0} f g h (nests.bracketed n.1 z b.0 b.1))

  passing_test : (s m : Place) (p : Passing) (b : Bool) (z : Place) (t : Tree) → next s ≡ Some (kind.Passing p, m) → m.known.in_method ≡ b → cond b (passing_or N p m (at bracket m)) (Err wrong) ≡ done t z → Primary R s t z
  passing_test s m p true z t f g e = passing_or-sound s m p (at bracket m) z t f g refl e
  passing_test s m p false z t f g e = absurd cc

  passing_sound : (s m : Place) (p : Passing) (z : Place) (t : Tree) → next s ≡ Some (kind.Passing p, m) → passing_of N p m ≡ Ok (t, z) → Primary R s t z
  unfolding passing_of
  passing_sound s m p z t f e = passing_test s m p m.known.in_method z t f refl e

  begun_sound : (s : Place) (k : WordKind) (m : Place) (l : Option Tree) (c : Option Part) (z : Place) (t : Tree) → next s ≡ Some (k, m) → literal_of k ≡ l → construct_of k ≡ c → begun N l c m ≡ Ok (t, z) → Primary R s t z
  begun_sound s k m (Some u) c z t f g h e = at_answer (Primary R s) u t m z e (a_literal f g)
  begun_sound s k m None (Some p) z t f g h e = a_construct f h (nests.part p m z t e)
  begun_sound s k m None None z t f g h e = absurd cc

  primary_at-sound : (s : Place) (k : WordKind) (m z : Place) (t : Tree) → next s ≡ Some (k, m) → primary_at N k m ≡ Ok (t, z) → Primary R s t z
  primary_at-sound s (kind.Int n) m z t f e = int_sound s m n z t f e
  primary_at-sound s (kind.Name x b) m z t f e = name_sound s m x z t (next-name s m x b f) e
  primary_at-sound s (kind.Constant x outer) m z t f e = constant_sound s m x outer z t f e
  primary_at-sound s kind.Minus m z t f e = negative_sound s m z t f e
  primary_at-sound s (kind.Jump j) m z t f e = jump_test s m j (is_allowed j m.known) (begins_arguments m.rest) z t f refl refl e
  primary_at-sound s (kind.Passing p) m z t f e = passing_sound s m p z t f e
  primary_at-sound s k m z t f e = begun_sound s k m (literal_of k) (construct_of k) z t f refl refl e

  primary_in-sound : (s : Place) (r : Option (WordKind × Place)) (z : Place) (t : Tree) → next s ≡ r → primary_in N r ≡ Ok (t, z) → Primary R s t z
  primary_in-sound s None z t f e = absurd cc
  primary_in-sound s (Some k) z t f e = primary_at-sound s k.0 k.1 z t f e

  pub primary_sound : IsSound (primary_of N) (Primary R)
  unfolding primary_of
  primary_sound s z t e = primary_in-sound s (next s) z t refl e

  sent_sound : (x : Sym) (l : Reached) (n : Place) (o : Option (Fence × Place)) (z : Place) (t : Reached) → opened behinds.Call n ≡ o → sent_or N l.tree x n o ≡ Ok (t, z) → Tailed R (tails.Send x) l n t z
  sent_sound x l n None z t f e = at_answer (Tailed R (tails.Send x) l n) (at_attribute l.tree x) t n z e (an_attribute f)
  sent_sound x l n (Some b) z t f e =
      let c = built_ok plain (block_behind N b.0 (send l.tree x.0 (listed [])) b.1) t z e in
      let d = built_ok (with_block (send l.tree x.0 (listed []))) (N.part (parts.Block b.0) b.1) c.0 z c.1 in
      subst (λ (q : Reached). Tailed R (tails.Send x) l n q z) (sym (c.2 ∙ ap plain d.2)) (a_block_send f (nests.part (parts.Block b.0) b.1 z d.0 d.1))

  pub tailed_sound : (x : Tail) (l : Reached) (n z : Place) (t : Reached) → tailed_of N x l n ≡ Ok (t, z) → Tailed R x l n t z
  unfolding sent_of sent_call_of element_of
  tailed_sound (tails.Send x) l n z t e = sent_sound x l n (opened behinds.Call n) z t refl e
  tailed_sound (tails.Call x) l n z t e =
      let b = built_ok plain (sent_call_of N l.tree x n) t z e in
      let a = arguments_sound (λ q. send l.tree x.0 (listed q)) n z b.0 b.1 in
      subst (λ (q : Reached). Tailed R (tails.Call x) l n q z) (sym b.2) (a_sent_call a.2 a.3)
  tailed_sound tails.Index l n z t e =
      let b = built_ok (at_element l.tree) (N.part parts.Index n) t z e in
      subst (λ (q : Reached). Tailed R tails.Index l n q z) (sym b.2) (an_index (nests.part parts.Index n z b.0 b.1))

  pub plain_primary_sound : IsSound (plainly (primary_of N)) (Plain (Primary R))
  plain_primary_sound s z t e = let b = built_ok plain (primary_of N s) t z e in subst (λ (q : Reached). Plain (Primary R) s q z) (sym b.2) (as_it_is (primary_sound s z b.0 b.1))

  pub postfix_sound : IsSound (postfix_of N) (Postfix R)
  unfolding postfix_of
  postfix_sound = from_sound (plainly (primary_of N)) (trail_on tail (tailed_of N)) (Plain (Primary R)) (Postfix R) plain_primary_sound (trail_sound tail tail (λ m n x e. e) (tailed_of N) (Plain (Primary R)) (Tailed R) tailed_sound)

  bang_or-sound : (s : Place) (o : Option (Unit {0} × Place)) (z : Place) (t : Tree) → at (word kind.Bang) s ≡ o → bang_or N s o ≡ Ok (t, z) → Bang R s t z
  bang_or-sound s None z t f e = let b = built_ok tree_reached (postfix_of N s) t z e in subst (λ (q : Tree). Bang R s q z) (sym b.2) (no_bang (postfix_sound s z b.0 b.1))
  bang_or-sound s (Some m) z t f e =
      let b = built_ok logical_not (N.part parts.Bang m.1) t z e in
      subst (λ (q : Tree). Bang R s q z) (sym b.2) (a_bang (word-next kind.Bang told_bang s m.1 m.0 f) (nests.part parts.Bang m.1 z b.0 b.1))

  pub bang_sound : IsSound (bang_of N) (Bang R)
  unfolding bang_of
  bang_sound s z t e = bang_or-sound s (at (word kind.Bang) s) z t refl e

  minus_or-sound : (s : Place) (o : Option (Unit {0} × Place)) (z : Place) (t : Tree) → at prefix_minus s ≡ o → minus_or N s o ≡ Ok (t, z) → Minus R s t z
  minus_or-sound s None z t f e = no_minus (bang_sound s z t e)
  minus_or-sound s (Some m) z t f e =
      let b = built_ok negate (N.part parts.Minus m.1) t z e in
      let k = prefix-next s m.1 m.0 f in
      subst (λ (q : Tree). Minus R s q z) (sym b.2) (a_minus k.0 k.1 (nests.part parts.Minus m.1 z b.0 b.1))

  pub minus_sound : IsSound (minus_of N) (Minus R)
  unfolding minus_of
  minus_sound s z t e = minus_or-sound s (at prefix_minus s) z t refl e

  -- ---- operators

  pub binary_sound_on : (level : ℕ) → IsSoundOn (binary_on N level) (Minus R) (Binary R level)
  unfolding binary_on
  binary_sound_on zero s m z l t h e = at_answer (Minus R s) l t m z e h
  binary_sound_on (suc level) s m z l t h e =
      let p = binary_of N level in
      let sound = from_sound (minus_of N) (binary_on N level) (Minus R) (Binary R level) minus_sound (binary_sound_on level) in
      let b = bind_ok (binary_on N level l m) (λ x. chain_on (operator (suc level)) infixed p x.0 x.1) (t, z) e in
      chain_on-sound (operator (suc level)) (operator (suc level)) same infixed p (Binary R level) (λ m n x e. e) sound s b.0.0 b.0.1 z t (one (binary_sound_on level s m b.0.1 l b.0.0 h b.1)) b.2

  pub binary_sound : (level : ℕ) → IsSound (binary_of N level) (Binary R level)
  binary_sound level = from_sound (minus_of N) (binary_on N level) (Minus R) (Binary R level) minus_sound (binary_sound_on level)

  pair_or-sound : (s m : Place) (l : Tree) (o : Option (Infix × Place)) (z : Place) (t : Tree) → Binary R 4 s l m → at (operator 5) m ≡ o → pair_or N l m o ≡ Ok (t, z) → Equality R s t z
  pair_or-sound s m l None z t h f e = at_answer (Equality R s) l t m z e (a_comparison h)
  pair_or-sound s m l (Some o) z t h f e =
      let b = built_ok (infixed o.0 l) (binary_of N 4 o.1) t z e in
      subst (λ (q : Tree). Equality R s q z) (sym b.2) (a_pair h f (binary_sound 4 o.1 z b.0 b.1))

  pub equality_sound_on : IsSoundOn (equality_on N) (Minus R) (Equality R)
  unfolding equality_on
  equality_sound_on s m z l t h e =
      let b = bind_ok (binary_on N 4 l m) (λ x. pair_or N x.0 x.1 (at (operator 5) x.1)) (t, z) e in
      pair_or-sound s b.0.1 b.0.0 (at (operator 5) b.0.1) z t (binary_sound_on 4 s m b.0.1 l b.0.0 h b.1) refl b.2

  pub logical_sound_on : (level : ℕ) → IsSoundOn (logical_on N level) (Minus R) (Logical R level)
  unfolding logical_on
  logical_sound_on zero = equality_sound_on
  logical_sound_on (suc level) = λ s m z l t h e.
      let p = logical_of N level in
      let sound = from_sound (minus_of N) (logical_on N level) (Minus R) (Logical R level) minus_sound (logical_sound_on level) in
      let b = bind_ok (logical_on N level l m) (λ x. chain_on (connective (suc level)) joined_by p x.0 x.1) (t, z) e in
      chain_on-sound (connective (suc level)) (connective (suc level)) same joined_by p (Logical R level) (λ m n x e. e) sound s b.0.0 b.0.1 z t (one (logical_sound_on level s m b.0.1 l b.0.0 h b.1)) b.2

  pub logical_sound : (level : ℕ) → IsSound (logical_of N level) (Logical R level)
  logical_sound level = from_sound (minus_of N) (logical_on N level) (Minus R) (Logical R level) minus_sound (logical_sound_on level)

  question_or-sound : (s m : Place) (c : Tree) (o : Option (Unit {0} × Place)) (z : Place) (t : Tree) → Logical R 2 s c m → at (word kind.Question) m ≡ o → question_or N c m o ≡ Ok (t, z) → Ternary R s t z
  question_or-sound s m c None z t h f e = at_answer (Ternary R s) c t m z e (no_question h)
  question_or-sound s m c (Some q) z t h f e =
      let a = across_ok (choose c) (word kind.Colon) (N.part parts.Branch) (N.part parts.Branch q.1) z t e in
      subst (λ (q : Tree). Ternary R s q z) (sym a.tree)
      (a_question h (word-next kind.Question told_question m q.1 q.0 f) (nests.part parts.Branch q.1 a.m a.a a.former) (word-next kind.Colon told_colon a.m a.n a.u a.seen) (nests.part parts.Branch a.n z a.b a.latter))

  pub ternary_sound_on : IsSoundOn (ternary_on N) (Minus R) (Ternary R)
  unfolding ternary_on
  ternary_sound_on s m z l t h e =
      let b = bind_ok (logical_on N 2 l m) (λ x. question_or N x.0 x.1 (at (word kind.Question) x.1)) (t, z) e in
      question_or-sound s b.0.1 b.0.0 (at (word kind.Question) b.0.1) z t (logical_sound_on 2 s m b.0.1 l b.0.0 h b.1) refl b.2

  pub ternary_sound : IsSound (ternary_of N) (Ternary R)
  ternary_sound = from_sound (minus_of N) (ternary_on N) (Minus R) (Ternary R) minus_sound ternary_sound_on
