-- What is spelled of operands and operators is read, unless it nests too deep.
use Rattle.rr_parser.specs.declared.word.Naming.{Naming}
use Rattle.rr_parser.specs.declared.word.Sign.{Sign}
use Rattle.rr_parser.specs.Grammar.Calls.{Settled, a_setting, no_setting, settled, sign}
use Rattle.std.proofs.Common.{◌≡◌, zero, suc, ◌+◌, ◌*◌, inl, inr, pos, Bool, true, false, cond, List, Option, Some, None, Ok, Err, refl, sym, ap, ◌∙◌, subst, arith, ℕ, []}
use Rattle.std.proofs.lemmas.Option.{none-some}
use Rattle.rr_base.specs.declared.name.Sym.{Sym}
use Rattle.rr_tree.specs.Tree.{Tree, nil, truth, int, text, bare, call, with_block, negate, choose, send, symbol, constant, field, global, itself, logical_not, listed}
use Rattle.rr_parser.specs.declared.word.Tail.{Tail}
use Rattle.rr_parser.specs.declared.word.Jump.{Jump}
use Rattle.rr_parser.specs.declared.word.Passing.{Passing}
use Rattle.rr_parser.specs.declared.word.Part.{Part}
use Rattle.rr_parser.specs.declared.word.Part.TheVariants as parts
use Rattle.rr_parser.specs.declared.word.WordKind.{WordKind}
use Rattle.rr_parser.specs.declared.word.WordKind.TheVariants as kind
use Rattle.rr_parser.specs.declared.word.Behind.{Behind}
use Rattle.rr_parser.specs.declared.word.Behind.TheVariants as behinds
use Rattle.rr_parser.specs.declared.word.Fence.{Fence}
use Rattle.rr_parser.specs.declared.word.Fence.TheVariants as fences
use Rattle.rr_parser.specs.Grammar.Fences.{Taking, taken, taking, taking_as, fence_end, opened}
use Rattle.rr_parser.specs.Places.{is_kind, where_true, seen_before, placed, Place, word, at, next}
use Rattle.rr_parser.specs.Grammar.Nesting.{Nested}
use Rattle.rr_parser.specs.Grammar.Names.{is_local, variable_of, told_behind, local_tree, is_allowed, jump_tree, begins_arguments, passed, passed_bare, name, bracket, begins_operands}
use Rattle.rr_parser.specs.Grammar.Operands.{fits, fits_below, negated, joined, literal_of, inner_constant, construct_of, Blocked, no_block, a_block, Primary, a_literal, a_constant, a_path, a_negative, a_local, a_bare_call, a_call, a_block_call, a_jump, a_passing, a_passing_call, a_construct, tail, Tailed, a_sent_call, an_index, Postfix, Bang, a_bang, no_bang, Minus, a_minus, no_minus, Spot, Reached, plain, at_element, Plain, as_it_is, an_attribute, a_block_send}
use Rattle.rr_parser.specs.Grammar.Operators.{operator, infixed, connective, joined_by, Logical, Binary, Equality, a_comparison, a_pair, Ternary, no_question, a_question}
use Rattle.rr_parser.specs.Reading.Answers.{wrong, deep, Answer, Parse, built, ended_by, closed, across, taking_of, ◌>>=◌, chain_on, from}
use Rattle.rr_parser.specs.Reading.Nesting.{Readers}
use Rattle.rr_parser.specs.Reading.Operands.{call_of, bare_call, variable_or_call, block_behind, blocked_or, blocked_of, then_blocked, unbracketed_or, name_or, name_of, jump_at, passing_or, passing_of, constant_or, constant_at, int_at, negative_in, negative_of, primary_at, primary_in, primary_of, tailed_of, postfix_of, bang_or, bang_of, prefix_minus, minus_or, minus_of, plainly, sent_of, tree_reached, sent_or, sent_call_of, element_of}
use Rattle.rr_parser.specs.Reading.Operators.{binary_on, binary_of, pair_or, equality_on, logical_on, logical_of, question_or, ternary_on, ternary_of}
use Rattle.rr_parser.specs.Reading.Sequences.{ends_at, ends}
use Rattle.rr_parser.proofs.Told.{told_question}
use Rattle.rr_parser.proofs.Looks.{Steps-tail, by_next, name-next, next-prefix, none_unless}
use Rattle.rr_parser.proofs.Steps.{Steps-operator, Steps-connective}
use Rattle.rr_parser.proofs.Shrinking.{ReadersShrink}
use Rattle.rr_tree.specs.declared.node.Path.TheVariants as paths
use Rattle.rr_parser.proofs.Trails.{trail_full}
use Rattle.rr_parser.proofs.Chains.{done, chain_on-ends, ok_place}
use Rattle.rr_parser.proofs.Leading.{Leads, leads_bind, leads_trans, leads_eq, IsFull, Onward, IsFullOn, from_full, onward_bind, onward_full, across_full}
use Rattle.rr_parser.proofs.Strengths.{Stops, stops_by, word_unseen, operator_strength, no_operator_at, connective_strength, no_connective_at, no_tail_at, sign_strength, strength_in}
use Rattle.rr_parser.specs.Reading.Calls.{setting_of, setting_or, spot_or, reached_on, behind_bang, behind_minus, settled_by}
use Rattle.rr_parser.proofs.Firsts.{postfix_no_bang, bang_no_prefix}

abbrev pub Anywhere : Place → Type 0
Anywhere z = Unit {0}

abbrev pub Ends : Place → Type 0
Ends z = ends z.rest ≡ true

-- what stops each part
abbrev pub PartStops : Part → Place → Type 0
PartStops parts.Minus = Stops 0
PartStops parts.Bang = Stops 0
PartStops parts.Not = Stops 29
PartStops parts.Command = Stops 29
PartStops parts.Branch = Stops 27
PartStops _ = Anywhere

-- what stops a value
abbrev pub value_stop : Bool → ℕ
value_stop false = 27
value_stop true = 29

pub record NestedFull (N : Readers) (R : Nested) (D : Type 0) : Type 0 where
  pub part : (p : Part) → IsFull (N.part p) (R.part p) (PartStops p) D
  pub bracketed : IsFull N.bracketed R.bracketed Anywhere D
  pub ordered : (r : Tree) (x : Sym) → IsFull (N.ordered r x) (R.ordered r x) (Stops 29) D
  pub value : (b : Bool) → IsFull (N.value b) (R.value b) (Stops (value_stop b)) D
  pub values : IsFull N.values R.values (Stops 29) D

-- a word of this kind is seen
pub word_here : (k : WordKind) (s z : Place) → next s ≡ Some (k, z) → is_kind k k ≡ true → at (word k) s ≡ Some (tt, z)
word_here k s z e f = by_next (λ q. at (word k) q ≡ Some (tt, z)) s z k e (λ b. ap (λ t. placed z.known (seen_before (where_true t) z.rest)) f)

pub closed_full : {A : Type 0} {D : Type 0} (k : WordKind) (r : Answer A) (t : A) (n z : Place) → is_kind k k ≡ true → Leads r (Ok (t, n)) D → next n ≡ Some (k, z) → Leads (closed k r) (Ok (t, z)) D
closed_full k r t n z same_kind h e =
    leads_trans (closed k r) (ended_by t (at (word k) n)) (Ok (t, z)) (leads_bind r (t, n) (λ x. ended_by x.0 (at (word k) x.1)) h) (inl (ap (ended_by t) (word_here k n z e same_kind)))

-- what is read where calls take the word `do`, or not
pub taking_full : {A : Type 0} {D : Type 0} (b : Bool) (p : Parse A) (P : Place → A → Place → Type 0) (S : Place → Type 0) → ((a : Bool) (z : Place) → S (taking a z) → S z) → IsFull p P S D → IsFull (taking_of b p) (Taking b P) S D
taking_full b p P S stays full s z t (taken {z = y} h) stops = leads_bind (p (taking b s)) (t, y) (λ x. Ok (x.0, taking_as s x.1)) (full (taking b s) y t h (stays s.known.takes_do y stops))

pub enclosed_full : {A : Type 0} {D : Type 0} (p : Parse A) (P : Place → A → Place → Type 0) → IsFull p P Anywhere D → IsFull (taking_of true p) (Taking true P) Anywhere D
enclosed_full p P full = taking_full true p P Anywhere (λ a z u. u) full

pub same_fence : (k : Fence) → is_kind (fence_end k) (fence_end k) ≡ true
same_fence fences.Brace = refl
same_fence fences.Do = refl

pub fence_ends : (k : Fence) → ends_at (fence_end k) ≡ true
fence_ends fences.Brace = refl
fence_ends fences.Do = refl

module _ (N : Readers) (R : Nested) (D : Type 0) (shrinks : ReadersShrink N) (nests : NestedFull N R D) where
  same_tree : (t u : Tree) → ◌≡◌ {A = Option Tree} (Some t) (Some u) → t ≡ u
  same_tree t u f = cc

  same_part : (p q : Part) → ◌≡◌ {A = Option Part} (Some p) (Some q) → p ≡ q
  same_part p q f = cc

  reads : (t u : Tree) (z : Place) → ◌≡◌ {A = Option Tree} (Some t) (Some u) → done t z ≡ done u z
  reads t u z f = ap (λ v. done v z) (same_tree t u f)

  int_full : (b : Bool) (n : ℕ) (z : Place) (t : Tree) → ◌≡◌ {A = Option Tree} (cond b (Some (int (pos n))) None) (Some t) → cond b (done (int (pos n)) z) (Err wrong) ≡ done t z
  int_full true n z t f = reads (int (pos n)) t z f
  int_full false n z t f = absurd cc

  literal_full : (k : WordKind) (z : Place) (t : Tree) → literal_of k ≡ Some t → primary_at N k z ≡ done t z
  unfolding int_at
  literal_full (kind.Int n) z t f = int_full (fits n) n z t f
  literal_full (kind.Text i) z t f = reads (text i) t z f
  literal_full kind.Nil z t f = reads nil t z f
  literal_full (kind.Truth b) z t f = reads (truth b) t z f
  literal_full (kind.Symbol x) z t f = reads (symbol x.0) t z f
  literal_full (kind.Field x) z t f = reads (field x.0) t z f
  literal_full (kind.Global x) z t f = reads (global x.0) t z f
  literal_full kind.Itself z t f = reads itself t z f
  literal_full _ z t f = absurd (none-some t f)

  construct_full : (k : WordKind) (m : Place) (p : Part) → construct_of k ≡ Some p → primary_at N k m ≡ N.part p m
  construct_full kind.Open m p f = ap (λ q. N.part q m) (same_part parts.Group p f)
  construct_full kind.OpenSquare m p f = ap (λ q. N.part q m) (same_part parts.Array p f)
  construct_full kind.OpenBrace m p f = ap (λ q. N.part q m) (same_part parts.Hash p f)
  construct_full kind.If m p f = ap (λ q. N.part q m) (same_part parts.Choice p f)
  construct_full kind.Unless m p f = ap (λ q. N.part q m) (same_part parts.Unless p f)
  construct_full (kind.Loop until) m p f = ap (λ q. N.part q m) (same_part (parts.Loop until) p f)
  construct_full kind.Begin m p f = ap (λ q. N.part q m) (same_part parts.Begin p f)
  construct_full (kind.TextHead i) m p f = ap (λ q. N.part q m) (same_part (parts.Interpolation i) p f)
  construct_full _ m p f = absurd (none-some p f)

  -- a construct ends by itself
  construct_anywhere : (k : WordKind) (p : Part) (z : Place) → construct_of k ≡ Some p → PartStops p z
  construct_anywhere kind.Open p z f = subst (λ q. PartStops q z) (same_part parts.Group p f) tt
  construct_anywhere kind.OpenSquare p z f = subst (λ q. PartStops q z) (same_part parts.Array p f) tt
  construct_anywhere kind.OpenBrace p z f = subst (λ q. PartStops q z) (same_part parts.Hash p f) tt
  construct_anywhere kind.If p z f = subst (λ q. PartStops q z) (same_part parts.Choice p f) tt
  construct_anywhere kind.Unless p z f = subst (λ q. PartStops q z) (same_part parts.Unless p f) tt
  construct_anywhere (kind.Loop until) p z f = subst (λ q. PartStops q z) (same_part (parts.Loop until) p f) tt
  construct_anywhere kind.Begin p z f = subst (λ q. PartStops q z) (same_part parts.Begin p f) tt
  construct_anywhere (kind.TextHead i) p z f = subst (λ q. PartStops q z) (same_part (parts.Interpolation i) p f) tt
  construct_anywhere _ p z f = absurd (none-some p f)

  plain_constant_full : (x : Sym) (outer : Naming) (z : Place) → at (inner_constant outer) z ≡ None → constant_at x outer z ≡ done (constant (paths.Plain x)) z
  unfolding constant_at
  plain_constant_full x outer z f = ap (constant_or x z) f

  path_full : (x y : Sym) (outer : Naming) (m z : Place) → at (inner_constant outer) m ≡ Some (y, z) → constant_at x outer m ≡ done (constant (paths.Ractor y)) z
  unfolding constant_at
  path_full x y outer m z f = ap (constant_or x m) f

  negative_full : (m z : Place) (n : ℕ) → at joined m ≡ Some (n, z) → fits_below n ≡ true → negative_of m ≡ Ok (int (negated n), z)
  unfolding negative_of
  negative_full m z n e f = ap negative_in e ∙ ap (λ b. cond b (Ok (int (negated n), z)) (Err wrong)) f

  plain_full : (x : Sym) (m : Place) → at bracket m ≡ None → opened behinds.Call m ≡ None → name_of N x m ≡ variable_or_call x m
  unfolding name_of
  plain_full x m e f = ap (name_or N x m) e ∙ ap (unbracketed_or N x m) f

  behind_full : (f : Fence) (c : Tree) (m z : Place) (b : Tree) → R.part (parts.Block f) m b z → Leads (block_behind N f c m) (Ok (with_block c b, z)) D
  behind_full f c m z b h = leads_bind (N.part (parts.Block f) m) (b, z) (λ q. Ok (with_block c q.0, q.1)) (nests.part (parts.Block f) m z b h tt)

  blocked_full : (q : Behind) (c : Tree) (s z : Place) (t : Tree) → Blocked R q c s t z → Leads (blocked_of N q c s) (Ok (t, z)) D
  unfolding blocked_of
  blocked_full q c s z t (no_block e) = inl (ap (blocked_or N c s) e)
  blocked_full q c s z t (a_block {m = m} {f = f} {b = b} e h) = leads_eq (blocked_or N c s (opened q s)) (block_behind N f c m) (Ok (t, z)) (ap (blocked_or N c s) e) (behind_full f c m z b h)

  -- arguments, and the block behind them
  pub passed_full : (q : Behind) (f : List Tree → Tree) (r : Answer (List Tree)) (o z : Place) (l : List Tree) (t : Tree) → Leads r (Ok (l, o)) D → Blocked R q (f l) o t z → Leads (then_blocked N q (built f r)) (Ok (t, z)) D
  passed_full q f r o z l t h b =
      leads_trans (then_blocked N q (built f r)) (blocked_of N q (f l) o) (Ok (t, z))
      (leads_bind (built f r) (f l, o) (λ c. blocked_of N q c.0 c.1) (leads_bind r (l, o) (λ v. Ok (f v.0, v.1)) h))
      (blocked_full q (f l) o z t b)

  arguments_full : (f : List Tree → Tree) (n o z : Place) (l : List Tree) (t : Tree) → R.bracketed n l o → Blocked R behinds.Call (f l) o t z → Leads (then_blocked N behinds.Call (built f (N.bracketed n))) (Ok (t, z)) D
  arguments_full f n o z l t h b = passed_full behinds.Call f (N.bracketed n) o z l t (nests.bracketed n o l h tt) b

  alone_full : (x : Sym) (m n z : Place) (k : Fence) (b : Tree) → at bracket m ≡ None → opened behinds.Call m ≡ Some (k, n) → R.part (parts.Block k) n b z → Leads (name_of N x m) (Ok (with_block (call x.0 (listed [])) b, z)) D
  unfolding name_of
  alone_full x m n z k b e f h =
      leads_eq (name_or N x m (at bracket m)) (block_behind N k (call x.0 (listed [])) n) (Ok (with_block (call x.0 (listed [])) b, z)) (ap (name_or N x m) e ∙ ap (unbracketed_or N x m) f)
      (behind_full k (call x.0 (listed [])) n z b h)

  local_full : (x : Sym) (m : Place) → is_local x m ≡ true → variable_or_call x m ≡ Ok (local_tree x (variable_of x m) (told_behind m.rest), m)
  local_full x m e = ap (λ b. cond b (Ok (local_tree x (variable_of x m) (told_behind m.rest), m)) (bare_call x m)) e

  other_full : (x : Sym) (m : Place) → is_local x m ≡ false → variable_or_call x m ≡ bare_call x m
  other_full x m e = ap (λ b. cond b (Ok (local_tree x (variable_of x m) (told_behind m.rest), m)) (bare_call x m)) e

  bare_full : (x : Sym) (m : Place) → begins_operands m.rest ≡ false → bare_call x m ≡ Ok (bare x.0, m)
  bare_full x m e = ap (λ b. cond b (Err wrong) (Ok (bare x.0, m))) e

  call_full : (x : Sym) (m n o z : Place) (u : Unit {0}) (l : List Tree) (t : Tree) → at bracket m ≡ Some (u, n) → R.bracketed n l o → Blocked R behinds.Call (call x.0 (listed l)) o t z → Leads (name_of N x m) (Ok (t, z)) D
  unfolding name_of
  call_full x m n o z u l t e h b =
      leads_eq (name_or N x m (at bracket m)) (then_blocked N behinds.Call (call_of x (N.bracketed n))) (Ok (t, z)) (ap (name_or N x m) e) (arguments_full (λ q. call x.0 (listed q)) n o z l t h b)

  -- what a name is read as
  by_name_full : (s m : Place) (x : Sym) → at name s ≡ Some (x, m) → primary_of N s ≡ name_of N x m
  unfolding primary_of
  by_name_full s m x e = let h = name-next s m x e in ap (primary_in N) h.1

  by_kind_full : (s m : Place) (k : WordKind) → next s ≡ Some (k, m) → primary_of N s ≡ primary_at N k m
  unfolding primary_of
  by_kind_full s m k e = ap (primary_in N) e

  jump_full : (j : Jump) (z : Place) → is_allowed j z.known ≡ true → begins_arguments z.rest ≡ false → jump_at j z ≡ done (jump_tree j nil) z
  jump_full j z f g =
      ap (λ b. cond b (cond (begins_arguments z.rest) (Err wrong) (done (jump_tree j nil) z)) (Err wrong)) f
      ∙ ap (λ b. cond b (Err wrong) (done (jump_tree j nil) z)) g

  passing_full : (p : Passing) (z : Place) → z.known.in_method ≡ true → at bracket z ≡ None → begins_operands z.rest ≡ false → passing_of N p z ≡ done (passed_bare p) z
  unfolding passing_of
  passing_full p z f g h =
      ap (λ b. cond b (passing_or N p z (at bracket z)) (Err wrong)) f
      ∙ ap (passing_or N p z) g
      ∙ ap (λ b. cond b (Err wrong) (done (passed_bare p) z)) h

  passing_call-full : (p : Passing) (m n z : Place) (u : Unit {0}) (l : List Tree) → m.known.in_method ≡ true → at bracket m ≡ Some (u, n) → R.bracketed n l z → Leads (passing_of N p m) (Ok (passed p (listed l), z)) D
  unfolding passing_of
  passing_call-full p m n z u l f g h =
      leads_eq (passing_of N p m) (built (λ l. passed p (listed l)) (N.bracketed n)) (Ok (passed p (listed l), z))
      (ap (λ b. cond b (passing_or N p m (at bracket m)) (Err wrong)) f ∙ ap (passing_or N p m) g)
      (leads_bind (N.bracketed n) (l, z) (λ q. Ok (passed p (listed q.0), q.1)) (nests.bracketed n z l h tt))

  primary_full : IsFull (primary_of N) (Primary R) Anywhere D
  primary_full s z t (a_literal {k = k} e f) u = inl (by_kind_full s z k e ∙ literal_full k z t f)
  primary_full s z t (a_constant {x = x} {outer = outer} e f) u = inl (by_kind_full s z (kind.Constant x outer) e ∙ plain_constant_full x outer z f)
  primary_full s z t (a_path {m = m} {x = x} {y = y} {outer = outer} e f) u = inl (by_kind_full s m (kind.Constant x outer) e ∙ path_full x y outer m z f)
  primary_full s z t (a_negative {m = m} {n = n} e f g) u = inl (by_kind_full s m kind.Minus e ∙ negative_full m z n f g)
  primary_full s z t (a_local {x = x} e o b f) u = inl (by_name_full s z x e ∙ plain_full x z o b ∙ local_full x z f)
  primary_full s z t (a_bare_call {x = x} e o b f g) u = inl (by_name_full s z x e ∙ plain_full x z o b ∙ other_full x z f ∙ bare_full x z g)
  primary_full s z t (a_call {m = m} {n = n} {o = o} {x = x} {u = v} {l = l} e f h b) u =
      leads_eq (primary_of N s) (name_of N x m) (Ok (t, z)) (by_name_full s m x e) (call_full x m n o z v l t f h b)
  primary_full s z t (a_block_call {m = m} {n = n} {x = x} {f = v} {b = b} e f g h) u =
      leads_eq (primary_of N s) (name_of N x m) (Ok (t, z)) (by_name_full s m x e) (alone_full x m n z v b f g h)
  primary_full s z t (a_jump {j = j} e f g) u = inl (by_kind_full s z (kind.Jump j) e ∙ jump_full j z f g)
  primary_full s z t (a_passing {p = p} e f g h) u = inl (by_kind_full s z (kind.Passing p) e ∙ passing_full p z f g h)
  primary_full s z t (a_passing_call {m = m} {n = n} {p = p} {u = v} {l = l} e f g h) u =
      leads_eq (primary_of N s) (passing_of N p m) (Ok (t, z)) (by_kind_full s m (kind.Passing p) e) (passing_call-full p m n z v l f g h)
  primary_full s z t (a_construct {m = m} {k = k} {p = p} e f h) u =
      leads_eq (primary_of N s) (N.part p m) (Ok (t, z)) (by_kind_full s m k e ∙ construct_full k m p f) (nests.part p m z t h (construct_anywhere k p z f))

  tailed_full : (x : Tail) (l : Reached) (n z : Place) (t : Reached) → Tailed R x l n t z → Leads (tailed_of N x l n) (Ok (t, z)) D
  unfolding sent_of sent_call_of element_of
  tailed_full x l n z t (an_attribute {x = y} e) = inl (ap (sent_or N l.tree y n) e)
  tailed_full x l n z t (a_block_send {m = m} {x = y} {f = f} {b = b} e h) =
      let c = send l.tree y.0 (listed []) in
      leads_eq (sent_or N l.tree y n (opened behinds.Call n)) (built plain (block_behind N f c m)) (Ok (plain (with_block c b), z)) (ap (sent_or N l.tree y n) e)
      (leads_bind (block_behind N f c m) (with_block c b, z) (λ q. Ok (plain q.0, q.1)) (behind_full f c m z b h))
  tailed_full x l n z t (a_sent_call {m = m} {x = y} {t = v} {l = a} h b) = leads_bind (sent_call_of N l.tree y n) (v, z) (λ q. Ok (plain q.0, q.1)) (arguments_full (λ q. send l.tree y.0 (listed q)) n m z a v h b)
  tailed_full x l n z t (an_index {i = i} h) = leads_bind (N.part parts.Index n) (i, z) (λ q. Ok (at_element l.tree q.0, q.1)) (nests.part parts.Index n z i h tt)

  as_it_is_full : (s z : Place) (t : Reached) → Plain (Primary R) s t z → Leads (plainly (primary_of N) s) (Ok (t, z)) D
  as_it_is_full s z t (as_it_is {t = u} h) = leads_bind (primary_of N s) (u, z) (λ q. Ok (plain q.0, q.1)) (primary_full s z u h tt)

  -- where no operand goes on
  abbrev Tailless : Place → Type 0
  Tailless z = at tail z ≡ None

  pub tailless_full : IsFull (postfix_of N) (Postfix R) Tailless D
  unfolding postfix_of
  tailless_full s z r h none =
      trail_full tail tail (tailed_of N) Steps-tail (λ x l n z t e. shrinks.tailed x l n z t e) (plainly (primary_of N)) (Plain (Primary R)) (Tailed R) D Anywhere (λ m n x e. tt) (λ m n z x l t e g. e)
      (λ s z t g u. as_it_is_full s z t g) (λ x l n z t g u. tailed_full x l n z t g) s z r h tt none

  pub postfix_full : IsFull (postfix_of N) (Postfix R) (Stops 0) D
  postfix_full s z r h stops = tailless_full s z r h (no_tail_at z stops)

  pub bang_full : IsFull (bang_of N) (Bang R) (Stops 0) D
  unfolding bang_of
  bang_full s z t (a_bang {m = m} {t = v} e h) stops =
      leads_eq (bang_or N s (at (word kind.Bang) s)) (built logical_not (N.part parts.Bang m)) (Ok (t, z)) (ap (bang_or N s) (word_here kind.Bang s m e refl))
      (leads_bind (N.part parts.Bang m) (v, z) (λ x. Ok (logical_not x.0, x.1)) (nests.part parts.Bang m z v h stops))
  bang_full s z t (no_bang {r = r} h) stops =
      leads_eq (bang_or N s (at (word kind.Bang) s)) (built tree_reached (postfix_of N s)) (Ok (r.tree, z)) (ap (bang_or N s) (postfix_no_bang R s z r h))
      (leads_bind (postfix_of N s) (r, z) (λ q. Ok (tree_reached q.0, q.1)) (postfix_full s z r h stops))

  pub minus_full : IsFull (minus_of N) (Minus R) (Stops 0) D
  unfolding minus_of
  minus_full s z t (a_minus {m = m} {t = v} e f h) stops =
      leads_eq (minus_or N s (at prefix_minus s)) (built negate (N.part parts.Minus m)) (Ok (t, z)) (ap (minus_or N s) (next-prefix s m e f))
      (leads_bind (N.part parts.Minus m) (v, z) (λ x. Ok (negate x.0, x.1)) (nests.part parts.Minus m z v h stops))
  minus_full s z t (no_minus h) stops =
      leads_eq (minus_or N s (at prefix_minus s)) (bang_of N s) (Ok (t, z)) (ap (minus_or N s) (bang_no_prefix R s z t h)) (bang_full s z t h stops)

  -- ---- operators

  binary_full_on : (level : ℕ) → IsFullOn (Minus R) (Stops 0) (binary_on N level) (Binary R level) (Stops (3 * level)) D
  unfolding binary_on
  binary_full_on zero s z t h stops = record { first = t; behind = z; spelled = h; stops = stops; leads = inl refl }
  binary_full_on (suc level) s z t c stops =
      onward_full (operator (suc level)) infixed (binary_of N level) (Binary R level) (Stops (3 * level)) D (Steps-operator (suc level)) (shrinks.binary level)
      (λ m n x e. omega (arith, operator_strength (suc level) m n x e))
      (from_full (minus_of N) (binary_on N level) (Minus R) (Stops 0) (Binary R level) (Stops (3 * level)) minus_full (binary_full_on level))
      (Minus R) (Stops 0) (binary_on N level) (binary_full_on level) s z t c (omega (arith, stops)) (no_operator_at (suc level) z stops)

  pub binary_full : (level : ℕ) → IsFull (binary_of N level) (Binary R level) (Stops (3 * level)) D
  binary_full level = from_full (minus_of N) (binary_on N level) (Minus R) (Stops 0) (Binary R level) (Stops (3 * level)) minus_full (binary_full_on level)

  equality_full_on : IsFullOn (Minus R) (Stops 0) (equality_on N) (Equality R) (Stops 15) D
  unfolding equality_on
  equality_full_on s z t (a_comparison h) stops =
      onward_bind (binary_on N 4) (λ l. pair_or N l.0 l.1 (at (operator 5) l.1)) s t z (Ok (t, z)) (binary_full_on 4 s z t h (omega (arith, stops))) (inl (ap (pair_or N t z) (no_operator_at 5 z stops)))
  equality_full_on s z t (a_pair {m = m} {n = n} {l = l} {r = r} {o = o} h e g) stops =
      onward_bind (binary_on N 4) (λ l. pair_or N l.0 l.1 (at (operator 5) l.1)) s l m (Ok (t, z)) (binary_full_on 4 s m l h (omega (arith, operator_strength 5 m n o e)))
      (leads_eq (pair_or N l m (at (operator 5) m)) (built (infixed o l) (binary_of N 4 n)) (Ok (t, z)) (ap (pair_or N l m) e)
      (leads_bind (binary_of N 4 n) (r, z) (λ x. Ok (infixed o l x.0, x.1)) (binary_full 4 n z r g (omega (arith, stops)))))

  logical_full_on : (level : ℕ) → IsFullOn (Minus R) (Stops 0) (logical_on N level) (Logical R level) (Stops (15 + 5 * level)) D
  unfolding logical_on
  logical_full_on zero s z t h stops = equality_full_on s z t h (omega (arith, stops))
  logical_full_on (suc level) s z t c stops =
      onward_full (connective (suc level)) joined_by (logical_of N level) (Logical R level) (Stops (15 + 5 * level)) D (Steps-connective (suc level)) (shrinks.logical level)
      (λ m n x e. omega (arith, connective_strength (suc level) m n x e))
      (from_full (minus_of N) (logical_on N level) (Minus R) (Stops 0) (Logical R level) (Stops (15 + 5 * level)) minus_full (logical_full_on level))
      (Minus R) (Stops 0) (logical_on N level) (logical_full_on level) s z t c (omega (arith, stops)) (no_connective_at (suc level) z stops)

  ternary_full_on : IsFullOn (Minus R) (Stops 0) (ternary_on N) (Ternary R) (Stops 27) D
  unfolding ternary_on
  ternary_full_on s z t (no_question h) stops =
      onward_bind (logical_on N 2) (λ c. question_or N c.0 c.1 (at (word kind.Question) c.1)) s t z (Ok (t, z)) (logical_full_on 2 s z t h (omega (arith, stops)))
      (inl (ap (question_or N t z) (word_unseen kind.Question told_question z (omega (arith, stops)))))
  ternary_full_on s z t (a_question {m = m} {n = n} {o = o} {y = y} {c = c} {t = a} {e = b} h e f g i) stops =
      onward_bind (logical_on N 2) (λ c. question_or N c.0 c.1 (at (word kind.Question) c.1)) s c m (Ok (t, z)) (logical_full_on 2 s m c h (stops_by kind.Question 25 m n e (omega arith)))
      (leads_eq (question_or N c m (at (word kind.Question) m)) (across (choose c) (word kind.Colon) (N.part parts.Branch) (N.part parts.Branch n)) (Ok (t, z)) (ap (question_or N c m) (word_here kind.Question m n e refl))
      (across_full (choose c) (word kind.Colon) (N.part parts.Branch) (N.part parts.Branch n) a o y z tt b
      (nests.part parts.Branch n o a f (stops_by kind.Colon 27 o y g (omega arith))) (word_here kind.Colon o y g refl) (nests.part parts.Branch y z b i stops)))

  pub ternary_full : IsFull (ternary_of N) (Ternary R) (Stops 27) D
  ternary_full = from_full (minus_of N) (ternary_on N) (Minus R) (Stops 0) (Ternary R) (Stops 27) minus_full ternary_full_on

  -- ---- assignments to an element or an attribute

  -- where nothing goes on with an operand it stands alone
  binary_still : (level : ℕ) (l : Tree) (m : Place) → Stops (3 * level) m → binary_on N level l m ≡ Ok (l, m)
  unfolding binary_on
  binary_still zero l m stops = refl
  binary_still (suc level) l m stops =
      ap (λ (q : Answer Tree). q >>= λ x. chain_on (operator (suc level)) infixed (binary_of N level) x.0 x.1) (binary_still level l m (omega (arith, stops)))
      ∙ chain_on-ends (operator (suc level)) infixed (binary_of N level) (Steps-operator (suc level)) (shrinks.binary level) l m (no_operator_at (suc level) m stops)

  equality_still : (l : Tree) (m : Place) → Stops 15 m → equality_on N l m ≡ Ok (l, m)
  unfolding equality_on
  equality_still l m stops = ap (λ (q : Answer Tree). q >>= λ x. pair_or N x.0 x.1 (at (operator 5) x.1)) (binary_still 4 l m (omega (arith, stops))) ∙ ap (pair_or N l m) (no_operator_at 5 m stops)

  logical_still : (level : ℕ) (l : Tree) (m : Place) → Stops (15 + 5 * level) m → logical_on N level l m ≡ Ok (l, m)
  unfolding logical_on
  logical_still zero l m stops = equality_still l m (omega (arith, stops))
  logical_still (suc level) l m stops =
      ap (λ (q : Answer Tree). q >>= λ x. chain_on (connective (suc level)) joined_by (logical_of N level) x.0 x.1) (logical_still level l m (omega (arith, stops)))
      ∙ chain_on-ends (connective (suc level)) joined_by (logical_of N level) (Steps-connective (suc level)) (shrinks.logical level) l m (no_connective_at (suc level) m stops)

  ternary_still : (l : Tree) (m : Place) → Stops 26 m → ternary_on N l m ≡ Ok (l, m)
  unfolding ternary_on
  ternary_still l m stops = ap (λ (q : Answer Tree). q >>= λ c. question_or N c.0 c.1 (at (word kind.Question) c.1)) (logical_still 2 l m (omega (arith, stops))) ∙ ap (question_or N l m) (word_unseen kind.Question told_question m stops)

  -- before the sign of an assignment an operand stands alone, and what stands alone has no such sign behind it
  sign_full : (b : Bool) (u : Tree) (p : Spot) (y z : Place) (t : Tree) (o : Option (Sign × Place)) → at sign y ≡ o → Leads (ternary_on N u y) (Ok (t, z)) D → Stops 27 z → Leads (setting_or N b u p y o) (Ok (t, z)) D
  sign_full b u p y z t None f l stops = l
  sign_full b u p y z t (Some q) f l stops =
      let still = ternary_still u y (omega (arith, sign_strength y q.1 q.0 f)) in
      elim l [
        | inl e ↦ (let never : ⊥ = omega (arith, stops, sign_strength y q.1 q.0 f, ap (λ (x : Place). strength_in (next x)) (ok_place u t y z (sym still ∙ e))) in absurd never)
        | inr d ↦ (let g : done u y ≡ Err deep = sym still ∙ d.0 in absurd cc)
      ]

  spot_full : (b : Bool) (r : Reached) (y z : Place) (t : Tree) (o : Option Spot) → Leads (ternary_on N r.tree y) (Ok (t, z)) D → Stops 27 z → Leads (spot_or N b r.tree o y) (Ok (t, z)) D
  unfolding setting_of
  spot_full b r y z t None l stops = l
  spot_full b r y z t (Some p) l stops = sign_full b r.tree p y z t (at sign y) refl l stops

  -- what is read where no word stands before an operand
  pub unprefixed_full : (on : Reached → Parse Tree) (s m z : Place) (r : Reached) (t : Tree) → Postfix R s r m → Tailless m → Leads (on r m) (Ok (t, z)) D → Leads (settled_by N on s) (Ok (t, z)) D
  unfolding settled_by
  unprefixed_full on s m z r t h none l =
      leads_eq (behind_minus N on s (at prefix_minus s)) (from (postfix_of N) on s) (Ok (t, z)) (ap (behind_minus N on s) (bang_no_prefix R s m r.tree (no_bang h)) ∙ ap (behind_bang N on s) (postfix_no_bang R s m r h))
      (leads_trans (from (postfix_of N) on s) (on r m) (Ok (t, z)) (leads_bind (postfix_of N s) (r, m) (λ x. on x.0 x.1) (tailless_full s m r h none)) l)

  first_full : (on : Reached → Parse Tree) (s y z : Place) (u t : Tree) → ((r : Reached) → Leads (ternary_on N r.tree y) (Ok (t, z)) D → Leads (on r y) (Ok (t, z)) D)
      → Minus R s u y → Stops 0 y → Leads (ternary_on N u y) (Ok (t, z)) D → Ternary R s t z → Stops 27 z → Leads (settled_by N on s) (Ok (t, z)) D
  unfolding settled_by
  first_full on s y z u t goes_on (a_minus {m = m} e f h) alone l w stops =
      leads_eq (behind_minus N on s (at prefix_minus s)) (ternary_of N s) (Ok (t, z)) (ap (behind_minus N on s) (next-prefix s m e f)) (ternary_full s z t w stops)
  first_full on s y z u t goes_on (no_minus (a_bang {m = m} e h)) alone l w stops =
      leads_eq (behind_minus N on s (at prefix_minus s)) (ternary_of N s) (Ok (t, z)) (ap (behind_minus N on s) (bang_no_prefix R s y _ (a_bang e h)) ∙ ap (behind_bang N on s) (word_here kind.Bang s m e refl)) (ternary_full s z t w stops)
  first_full on s y z u t goes_on (no_minus (no_bang {r = r} h)) alone l w stops = unprefixed_full on s y z r t h (no_tail_at y alone) (goes_on r l)

  least_stop : (b : Bool) (z : Place) → Stops (value_stop b) z → Stops 27 z
  least_stop true z stops = omega (arith, stops)
  least_stop false z stops = stops

  pub settled_full : (b : Bool) (on : Reached → Parse Tree) → ((r : Reached) (m : Place) → Stops 0 m → on r m ≡ reached_on N b r m) → IsFull (settled_by N on) (Settled R b) (Stops (value_stop b)) D
  unfolding setting_of
  settled_full b on same_on s z t (a_setting {m = m} {n = n} {r = r} {p = p} {q = q} {t = v} h f g i) stops =
      let alone : Stops 0 m = omega (arith, sign_strength m n q g) in
      unprefixed_full on s m z r (settled q p r.tree v) h (no_tail_at m alone)
      (leads_eq (on r m) (built (settled q p r.tree) (N.value b n)) (Ok (settled q p r.tree v, z)) (same_on r m alone ∙ ap (λ (o : Option Spot). spot_or N b r.tree o m) f ∙ ap (setting_or N b r.tree p m) g)
      (leads_bind (N.value b n) (v, z) (λ x. Ok (settled q p r.tree x.0, x.1)) (nests.value b n z v i stops)))
  settled_full b on same_on s z t (no_setting h) stops =
      let last = least_stop b z stops in
      let o = ternary_full_on s z t h last in
      first_full on s o.behind z o.first t (λ r l. leads_eq (on r o.behind) (reached_on N b r o.behind) (Ok (t, z)) (same_on r o.behind o.stops) (spot_full b r o.behind z t r.spot l last)) o.spelled o.stops o.leads h last

  pub reached_alone : (b : Bool) (r : Reached) (m : Place) → Stops 27 m → reached_on N b r m ≡ Ok (r.tree, m)
  unfolding setting_of
  reached_alone b r m stops = by_spot r.spot
    where
      by_spot : (o : Option Spot) → spot_or N b r.tree o m ≡ Ok (r.tree, m)
      by_spot None = ternary_still r.tree m (omega (arith, stops))
      by_spot (Some p) =
          ap (setting_or N b r.tree p m) (none_unless (at sign m) (λ q n e. let never : ⊥ = omega (arith, sign_strength m n q e, stops) in never))
          ∙ ternary_still r.tree m (omega (arith, stops))

  -- where no word stands before an operand, reading leads on from it
  setting_onward : (s m n z : Place) (r : Reached) (p : Spot) (q : Sign) (v : Tree) → Postfix R s r m → r.spot ≡ Some p → at sign m ≡ Some (q, n) → R.value false n v z → Stops 27 z
      → Onward (Postfix R) (Stops 0) (reached_on N false) D s (Ok (settled q p r.tree v, z))
  unfolding setting_of
  setting_onward s m n z r p q v h f g i stops = record {
    first = r;
    behind = m;
    spelled = h;
    stops = omega (arith, sign_strength m n q g);
    leads =
        leads_eq (reached_on N false r m) (built (settled q p r.tree) (N.value false n)) (Ok (settled q p r.tree v, z)) (ap (λ (o : Option Spot). spot_or N false r.tree o m) f ∙ ap (setting_or N false r.tree p m) g)
        (leads_bind (N.value false n) (v, z) (λ x. Ok (settled q p r.tree x.0, x.1)) (nests.value false n z v i stops));
  }

  operand_onward : (s y z : Place) (u t : Tree) → at prefix_minus s ≡ None → at (word kind.Bang) s ≡ None → Minus R s u y → Stops 0 y → Leads (ternary_on N u y) (Ok (t, z)) D → Stops 27 z → Onward (Postfix R) (Stops 0) (reached_on N false) D s (Ok (t, z))
  operand_onward s y z u t none bangless (a_minus {m = m} e f h) alone l stops = let never : ◌≡◌ {A = Option (Unit {0} × Place)} (Some (tt, m)) None = sym (next-prefix s m e f) ∙ none in absurd cc
  operand_onward s y z u t none bangless (no_minus (a_bang {m = m} e h)) alone l stops = let never : ◌≡◌ {A = Option (Unit {0} × Place)} (Some (tt, m)) None = sym (word_here kind.Bang s m e refl) ∙ bangless in absurd cc
  operand_onward s y z u t none bangless (no_minus (no_bang {r = r} h)) alone l stops = record { first = r; behind = y; spelled = h; stops = alone; leads = spot_full false r y z t r.spot l stops }

  pub unprefixed_onward : (s z : Place) (t : Tree) → at prefix_minus s ≡ None → at (word kind.Bang) s ≡ None → Settled R false s t z → Stops 27 z → Onward (Postfix R) (Stops 0) (reached_on N false) D s (Ok (t, z))
  unprefixed_onward s z t minus bang (a_setting {m = m} {n = n} {r = r} {p = p} {q = q} {t = v} h f g i) stops = setting_onward s m n z r p q v h f g i stops
  unprefixed_onward s z t minus bang (no_setting h) stops = let o = ternary_full_on s z t h stops in operand_onward s o.behind z o.first t minus bang o.spelled o.stops o.leads stops
