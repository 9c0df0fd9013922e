-- What stops which reader, and which words begin what.
use Rattle.std.proofs.Common.{◌≡◌, ℕ, zero, suc, ◌+◌, ◌*◌, ◌<◌, ◌≤◌, Bool, true, false, ◌&&◌, List, Option, Some, None, refl, sym, ap, ◌∙◌, subst, arith, ◌||◌, is_some}
use Rattle.std.proofs.lemmas.Bool.{false≢true}
use Rattle.std.proofs.lemmas.Option.{none-some}
use Rattle.rr_tree.specs.Tree.{Tree}
use Rattle.rr_base.specs.declared.name.Sym.{Sym}
use Rattle.rr_parser.specs.declared.word.Caught.{Caught}
use Rattle.rr_parser.specs.declared.word.Head.{Head}
use Rattle.rr_parser.specs.declared.word.Head.TheVariants as heads
use Rattle.rr_parser.specs.declared.word.Sign.{Sign}
use Rattle.rr_parser.specs.declared.word.Aim.{Aim}
use Rattle.rr_parser.specs.declared.word.Target.{Target}
use Rattle.rr_parser.specs.declared.word.Part.{Part}
use Rattle.rr_parser.specs.declared.word.WordKind.{WordKind}
use Rattle.rr_parser.specs.declared.word.WordKind.TheVariants as kind
use Rattle.rr_parser.specs.declared.word.Word.{Word}
use Rattle.rr_parser.specs.Places.{Place, Look, is_kind, word, placed, at, next}
use Rattle.rr_parser.specs.Grammar.Chains.{Chain, one, more, at_first, and_then, same}
use Rattle.rr_parser.specs.Grammar.Nesting.{Nested}
use Rattle.rr_parser.specs.Grammar.Names.{is_tight, begins_operand, begins_operands, head, begins_head, command}
use Rattle.rr_parser.specs.Grammar.Operands.{order, construct_of, Primary, a_literal, a_constant, a_path, a_negative, a_local, a_bare_call, a_call, a_block_call, a_jump, a_passing, a_passing_call, a_construct, Postfix, a_bang, no_bang, Minus, a_minus, no_minus, Reached, Spot, as_it_is}
use Rattle.rr_parser.specs.Grammar.Operators.{operator, infixed, connective, joined_by, Binary, a_comparison, a_pair, Logical, Ternary, no_question, a_question}
use Rattle.rr_parser.specs.Grammar.Calls.{target, an_assignment, no_assignment, Value, a_command, Phrase, by_name, an_operand, target_of_kind, Settled, a_setting, no_setting, sign, by_receiver, comma}
use Rattle.rr_parser.specs.Grammar.Several.{plain_sign, several}
use Rattle.rr_parser.specs.Reading.Several.{ends_target, lone_target}
use Rattle.rr_parser.specs.declared.word.Sign.TheVariants as signs
use Rattle.rr_parser.specs.Grammar.Sequences.{Negation, a_negation, no_negation, Expression}
use Rattle.rr_parser.specs.Grammar.Interpolations.{middle_of_kind, text_middle, tail_of_kind, text_tail}
use Rattle.rr_parser.specs.Grammar.Control.{thens, elsif}
use Rattle.rr_parser.specs.Grammar.Bodies.{rescues, before_thens, behind_arrow, caught}
use Rattle.rr_parser.specs.Reading.Sequences.{ends_at, ends}
use Rattle.rr_parser.proofs.Told.{told_rescue, told_arrow, told_elsif, told_comma, told_plain_sign}
use Rattle.rr_parser.proofs.Looks.{path-next, seen, seen_as, some_what, some_place, none_unless, by_next, one_kind, one_place, word-next, name-next, next-name, target-next, SeveralAt, several-next, command-next, lone-target, placed_some}
use Rattle.rr_parser.proofs.Strengths.{strength, strength_in, Stops, stops_by, thens_stop, operator_strength, connective_strength, tail_strength}
use Rattle.rr_parser.proofs.Firsts.{next_ends, opens, First, and_false, bare_no_command, opens_block, bracket_not_other, fence_not_other, by_word, by_integer, by_no_command, by_jump, by_passing, by_bang, by_prefix}
use Rattle.rr_parser.proofs.Orders.{order_strength}

-- ---- a name that begins no command

open_no_name : (s m : Place) (k : WordKind) → next s ≡ Some (k, m) → opens k ≡ true → at (command s.known) s ≡ None
open_no_name s m (kind.Name x b) e f = absurd cc
open_no_name s m (kind.Jump j) e f = absurd cc
open_no_name s m (kind.Passing p) e f = absurd cc
open_no_name s m k e f = by_next (λ q. at (command q.known) q ≡ None) s m k e (λ b. refl)

-- what begins no command
no_head : (s m : Place) (x : Head) → at head s ≡ Some (x, m) → begins_head x m ≡ false → at (command s.known) s ≡ None
no_head s m x e f = none_unless (at (command s.known) s) (λ y n g.
    let c = command-next s n y g in
    let p : seen x m ≡ seen y n = sym e ∙ c.0 in
    let h : false ≡ true = sym f ∙ ap (λ q. begins_head q m) (some_what x y m n p) ∙ ap (λ q. begins_head y q) (some_place x y m n p) ∙ c.1 in
    let never : ⊥ = cc in never)

pub first_no_command : (s : Place) → First s → at (command s.known) s ≡ None
first_no_command s (by_word {k = k} {m = m} e f) = open_no_name s m k e f
first_no_command s (by_integer {m = m} e f) = by_next (λ q. at (command q.known) q ≡ None) s m kind.Minus e (λ b. refl)
first_no_command s (by_bang {m = m} e) = by_next (λ q. at (command q.known) q ≡ None) s m kind.Bang e (λ b. refl)
first_no_command s (by_prefix {m = m} e) = by_next (λ q. at (command q.known) q ≡ None) s m kind.Minus e (λ b. refl)
first_no_command s (by_jump {m = m} {j = j} e f) = no_head s m (heads.Jump j) (by_next (λ q. at head q ≡ Some (heads.Jump j, m)) s m (kind.Jump j) e (λ b. refl)) f
first_no_command s (by_passing {m = m} {p = p} e f) = no_head s m (heads.Passing p) (by_next (λ q. at head q ≡ Some (heads.Passing p, m)) s m (kind.Passing p) e (λ b. refl)) f
first_no_command s (by_no_command {m = m} {x = x} e f) =
    let h = name-next s m x e in
    no_head s m (heads.Call x) (by_next (λ q. at head q ≡ Some (heads.Call x, m)) s m (kind.Name x h.0) h.1 (λ b. refl)) f

-- ---- a target before a word that goes on with no operand: the sign of an assignment, or a comma

-- a word that goes on with no operand, and begins none
pub record GoesOnLoosely (w : WordKind) : Type 0 where
  pub loose : 26 < strength w
  pub no_fence : opens_block w ≡ false
  pub no_bracket : is_kind w kind.Open ≡ false
  pub no_path : is_kind w kind.Path ≡ false
  pub no_operand : (tight : Bool) → begins_operand w tight ≡ false

pub sign_loose : (sign : Sign) → GoesOnLoosely (kind.Assign sign)
sign_loose sign = record { loose = omega arith; no_fence = refl; no_bracket = refl; no_path = refl; no_operand = λ tight. refl }

pub comma_loose : GoesOnLoosely kind.Comma
comma_loose = record { loose = omega arith; no_fence = refl; no_bracket = refl; no_path = refl; no_operand = λ tight. refl }

no_operands : (z n : Place) (w : WordKind) → GoesOnLoosely w → next z ≡ Some (w, n) → begins_operands z.rest ≡ false
no_operands z n w l e = by_next (λ q. begins_operands q.rest ≡ false) z n w e (λ b. ap (λ c. b && c) (l.no_operand (is_tight n.rest)) ∙ and_false b)

module _ (s m n : Place) (k : WordKind) (x : Target) (w : WordKind) (here : next s ≡ Some (k, m)) (is_target : target_of_kind k ≡ Some x) (loosely : GoesOnLoosely w) (behind : next m ≡ Some (w, n)) where
  pub target_no_command : at (command s.known) s ≡ None
  target_no_command = by_kind k here is_target
    where
      by_kind : (k : WordKind) → next s ≡ Some (k, m) → target_of_kind k ≡ Some x → at (command s.known) s ≡ None
      by_kind (kind.Name y b) f g = first_no_command s (by_no_command (next-name s m y b f) (bare_no_command y m (no_operands m n w loosely behind)))
      by_kind (kind.Field y) f g = open_no_name s m (kind.Field y) f refl
      by_kind (kind.Global y) f g = open_no_name s m (kind.Global y) f refl
      by_kind (kind.Constant y c) f g = open_no_name s m (kind.Constant y c) f refl
      by_kind _ f g = absurd (none-some x g)

-- a target and the sign of an assignment begin no command
pub aim_no_command : (s n : Place) (x : Aim) → at target s ≡ Some (x, n) → at (command s.known) s ≡ None
aim_no_command s n x e = let h = target-next s n x e in target_no_command s h.m n h.first x.target (kind.Assign x.sign) h.here h.told (sign_loose x.sign) h.sign

-- that word comes
abbrev Comes : WordKind → Place → Type 0
Comes w z = strength_in (next z) ≡ strength w

module _ (R : Nested) (s m n : Place) (k : WordKind) (x : Target) (w : WordKind) (here : next s ≡ Some (k, m)) (is_target : target_of_kind k ≡ Some x) (loosely : GoesOnLoosely w) (behind : next m ≡ Some (w, n)) where
  by_place : (z : Place) → m ≡ z → Comes w z
  by_place z e = subst (Comes w) e (ap strength_in behind)

  same_word : (q : WordKind) (z : Place) → next s ≡ Some (q, z) → Comes w z
  same_word q z e = by_place z (one_place s m z k q here e)

  -- a target begins no construct
  no_construct : (q : WordKind) (p : Part) → target_of_kind q ≡ Some x → construct_of q ≡ Some p → ⊥
  no_construct (kind.Name y b) p e f = let never : ⊥ = cc in never
  no_construct (kind.Field y) p e f = let never : ⊥ = cc in never
  no_construct (kind.Global y) p e f = let never : ⊥ = cc in never
  no_construct (kind.Constant y c) p e f = let never : ⊥ = cc in never
  no_construct _ p e f = none-some x e

  no_word : (q o : WordKind) → target_of_kind q ≡ Some x → q ≡ o → target_of_kind o ≡ None → ⊥
  no_word q o e f g = let h : ◌≡◌ {A = Option Target} (Some x) None = sym e ∙ ap target_of_kind f ∙ g in let never : ⊥ = cc in never

  primary_stuck : (z : Place) (t : Tree) → Primary R s t z → Comes w z
  primary_stuck z t (a_literal {k = q} e f) = same_word q z e
  primary_stuck z t (a_constant {x = y} {outer = outer} e f) = same_word (kind.Constant y outer) z e
  primary_stuck z t (a_path {m = o} {x = y} {outer = outer} e f) =
      let p = path-next outer o _ _ f in
      let g : w ≡ kind.Path = one_kind m n p.0 w kind.Path behind (subst (λ v. next v ≡ Some (kind.Path, p.0)) (sym (one_place s m o k (kind.Constant y outer) here e)) p.1) in
      let h : false ≡ true = sym loosely.no_path ∙ ap (λ q. is_kind q kind.Path) g in
      let never : ⊥ = cc in absurd never
  primary_stuck z t (a_negative {m = o} e f g) = absurd (no_word k kind.Minus is_target (one_kind s m o k kind.Minus here e) refl)
  primary_stuck z t (a_local {x = y} e o b f) = let h = name-next s z y e in same_word (kind.Name y h.0) z h.1
  primary_stuck z t (a_bare_call {x = y} e o b f g) = let h = name-next s z y e in same_word (kind.Name y h.0) z h.1
  primary_stuck z t (a_block_call {m = o} {n = q} {x = y} {f = u} e f b h) =
      let g = name-next s o y e in
      absurd (fence_not_other o q n u w loosely.no_fence b (subst (λ v. next v ≡ Some (w, n)) (one_place s m o k (kind.Name y g.0) here g.1) behind))
  primary_stuck z t (a_call {m = o} {n = q} {x = y} {u = u} e f h b) =
      let g = name-next s o y e in
      absurd (bracket_not_other o q n u w loosely.no_bracket f (subst (λ v. next v ≡ Some (w, n)) (one_place s m o k (kind.Name y g.0) here g.1) behind))
  primary_stuck z t (a_jump {j = j} e f g) = absurd (no_word k (kind.Jump j) is_target (one_kind s m z k (kind.Jump j) here e) refl)
  primary_stuck z t (a_passing {p = p} e f g h) = absurd (no_word k (kind.Passing p) is_target (one_kind s m z k (kind.Passing p) here e) refl)
  primary_stuck z t (a_passing_call {m = o} {p = p} e f g h) = absurd (no_word k (kind.Passing p) is_target (one_kind s m o k (kind.Passing p) here e) refl)
  primary_stuck z t (a_construct {m = o} {k = q} {p = p} e f h) = absurd (no_construct k p is_target (ap construct_of (one_kind s m o k q here e) ∙ f))

  postfix_stuck : (z : Place) (t : Reached) → Postfix R s t z → Comes w z
  postfix_stuck z t (at_first (as_it_is {t = u} h)) = primary_stuck z u h
  postfix_stuck z t (and_then {m = o} {n = q} {l = l} {x = y} c e h) =
      let a = postfix_stuck o l c in
      let never : ⊥ = omega (arith, tail_strength o q y e, a, loosely.loose) in absurd never

  minus_stuck : (z : Place) (t : Tree) → Minus R s t z → Comes w z
  minus_stuck z t (a_minus {m = o} e f h) = absurd (no_word k kind.Minus is_target (one_kind s m o k kind.Minus here e) refl)
  minus_stuck z t (no_minus (a_bang {m = o} e h)) = absurd (no_word k kind.Bang is_target (one_kind s m o k kind.Bang here e) refl)
  minus_stuck z t (no_minus (no_bang {r = r} h)) = postfix_stuck z r h

  -- nothing follows it, so that it is no element and no attribute
  postfix_no_spot : (z : Place) (r : Reached) (p : Spot) → Postfix R s r z → r.spot ≡ Some p → ⊥
  postfix_no_spot z r p (at_first (as_it_is h)) f = let never : ⊥ = cc in never
  postfix_no_spot z r p (and_then {m = o} {n = q} {l = l} {x = y} c e h) f =
      let a = postfix_stuck o l c in
      let never : ⊥ = omega (arith, tail_strength o q y e, a, loosely.loose) in never

  -- what is seen at another strength does not come
  chain_stuck : {X : Type 0} (between : Look X) (v : ℕ) (join : X → Tree → Tree → Tree) (P : Place → Tree → Place → Type 0) → (v ≡ strength w → ⊥) → ((o q : Place) (y : X) → at between o ≡ Some (y, q) → strength_in (next o) ≡ v)
      → ((z : Place) (t : Tree) → P s t z → Comes w z) → (z : Place) (t : Tree) → Chain between same join P s t z → Comes w z
  chain_stuck between v join P other tells stuck z t (one {t = u} h) = stuck z u h
  chain_stuck between v join P other tells stuck z t (more {m = o} {n = q} {l = l} {x = y} c e h) =
      let a = chain_stuck between v join P other tells stuck o l c in
      absurd (other (sym (tells o q y e) ∙ a))

  binary_stuck : (level : ℕ) → level ≤ 4 → (z : Place) (t : Tree) → Binary R level s t z → Comes w z
  binary_stuck zero le z t h = minus_stuck z t h
  binary_stuck (suc level) le z t c = chain_stuck (operator (suc level)) (3 * suc level) infixed (Binary R level) (λ e. let never : ⊥ = omega (arith, le, e, loosely.loose) in never) (operator_strength (suc level)) (binary_stuck level (omega (arith, le))) z t c

  logical_stuck : (level : ℕ) → level ≤ 2 → (z : Place) (t : Tree) → Logical R level s t z → Comes w z
  logical_stuck zero le z t (a_comparison h) = binary_stuck 4 (omega arith) z t h
  logical_stuck zero le z t (a_pair {m = o} {n = q} {l = l} {o = b} h e g) =
      let a = binary_stuck 4 (omega arith) o l h in
      let never : ⊥ = omega (arith, operator_strength 5 o q b e, a, loosely.loose) in absurd never
  logical_stuck (suc level) le z t c =
      chain_stuck (connective (suc level)) (15 + 5 * suc level) joined_by (Logical R level) (λ e. let never : ⊥ = omega (arith, le, e, loosely.loose) in never) (connective_strength (suc level)) (logical_stuck level (omega (arith, le))) z t c

  ternary_stuck : (z : Place) (t : Tree) → Ternary R s t z → Comes w z
  ternary_stuck z t (no_question h) = logical_stuck 2 (omega arith) z t h
  ternary_stuck z t (a_question {m = o} {n = q} {c = c} h e f g i) =
      let a = logical_stuck 2 (omega arith) o c h in
      let never : ⊥ = omega (arith, ap strength_in e, a, loosely.loose) in absurd never

  -- nor does anything go past it where commands may stand
  phrase_stuck : (z : Place) (t : Tree) → Phrase R s t z → Comes w z
  phrase_stuck z t (by_name (a_command {m = o} {x = y} e h b)) =
      let g : seen y o ≡ None = sym e ∙ target_no_command s m n k x w here is_target loosely behind in
      let never : ⊥ = cc in absurd never
  phrase_stuck z t (by_receiver {m = o} {n = q} {r = r} {x = y} h e g) =
      let c = postfix_stuck o r h in
      let never : ⊥ = omega (arith, order_strength o q y e, c, loosely.loose) in absurd never
  phrase_stuck z t (an_operand (a_setting {m = o} {r = r} {p = p} h f g i)) = absurd (postfix_no_spot o r p h f)
  phrase_stuck z t (an_operand (no_setting h)) = ternary_stuck z t h

ternary_no_target : (R : Nested) (s z : Place) (t : Tree) → Ternary R s t z → Stops 27 z → at target s ≡ None
ternary_no_target R s z t h stops = none_unless (at target s) (λ x n e.
    let k = target-next s n x e in
    let never : ⊥ = omega (arith, ternary_stuck R s k.m n k.first x.target (kind.Assign x.sign) k.here k.told (sign_loose x.sign) k.sign z t h, stops) in never)

pub settled_no_target : (R : Nested) (b : Bool) (s z : Place) (t : Tree) → Settled R b s t z → Stops 27 z → at target s ≡ None
settled_no_target R b s z t (a_setting {m = m} {r = r} {p = p} h f g i) stops = none_unless (at target s) (λ x n e. let k = target-next s n x e in postfix_no_spot R s k.m n k.first x.target (kind.Assign x.sign) k.here k.told (sign_loose x.sign) k.sign m r p h f)
settled_no_target R b s z t (no_setting h) stops = ternary_no_target R s z t h stops

-- nor does the receiver of a command begin so
pub receiver_no_target : (R : Nested) (s m n : Place) (r : Reached) (x : Sym) → Postfix R s r m → at order m ≡ Some (x, n) → at target s ≡ None
receiver_no_target R s m n r x h e = none_unless (at target s) (λ y q f.
    let k = target-next s q y f in
    let never : ⊥ = omega (arith, postfix_stuck R s k.m q k.first y.target (kind.Assign y.sign) k.here k.told (sign_loose y.sign) k.sign m r h, order_strength m n x e) in never)

pub phrase_no_target : (R : Nested) (s z : Place) (t : Tree) → Phrase R s t z → Stops 29 z → at target s ≡ None
phrase_no_target R s z t (by_receiver {m = m} {n = n} {r = r} {x = x} h e g) stops = receiver_no_target R s m n r x h e
phrase_no_target R s z t (an_operand h) stops = settled_no_target R true s z t h (omega (arith, stops))
phrase_no_target R s z t (by_name (a_command {m = m} {x = x} e h b)) stops = none_unless (at target s) (λ y n f.
    let g : seen x m ≡ None = sym e ∙ aim_no_command s n y f in
    let never : ⊥ = cc in never)

-- ---- several targets

-- an expression goes past no comma
module _ (R : Nested) (s y : Place) (u : Unit {0}) (e : at several s ≡ Some (u, y)) where
  abbrev comes : SeveralAt s
  comes = several-next s y u e

  value_stuck : (z : Place) (t : Tree) → Value R true s t z → Comes kind.Comma z
  value_stuck z t (an_assignment {n = n} {x = x} f g h) =
      let k = target-next s n x f in
      let m = one_place s comes.m k.m comes.first k.first comes.here k.here in
      let never : ⊥ = omega (arith, ap strength_in (subst (λ q. next q ≡ Some (kind.Comma, comes.n)) m comes.comma), ap strength_in k.sign) in absurd never
  value_stuck z t (no_assignment h) = phrase_stuck R s comes.m comes.n comes.first comes.target kind.Comma comes.here comes.told comma_loose comes.comma z t h

  negation_stuck : (z : Place) (t : Tree) → Negation R s t z → Comes kind.Comma z
  negation_stuck z t (a_negation {m = m} f h) = absurd (no_target comes.first comes.target comes.told (one_kind s comes.m m comes.first kind.NotWord comes.here f))
    where
      no_target : (k : WordKind) (x : Target) → target_of_kind k ≡ Some x → k ≡ kind.NotWord → ⊥
      no_target k x f g = let h : ◌≡◌ {A = Option Target} (Some x) None = sym f ∙ ap target_of_kind g in let never : ⊥ = cc in never
  negation_stuck z t (no_negation h) = value_stuck z t h

  expression_stuck : (z : Place) (t : Tree) → Expression R s t z → Comes kind.Comma z
  expression_stuck =
      chain_stuck R s comes.m comes.n comes.first comes.target kind.Comma comes.here comes.told comma_loose comes.comma (connective 3) 30 joined_by (Negation R) (λ e. let never : ⊥ = omega (arith, e) in never)
      (connective_strength 3) negation_stuck

pub expression_no_several : (R : Nested) (s z : Place) (t : Tree) → Expression R s t z → Stops 30 z → at several s ≡ None
expression_no_several R s z t h stops = none_unless (at several s) (λ u y e. let never : ⊥ = omega (arith, expression_stuck R s y u e z t h, stops) in never)

-- what ends a target goes on with no operand
pub record EndedTarget (z : Place) : Type 0 where
  pub kind : WordKind
  pub n : Place
  pub here : next z ≡ Some (kind, n)
  pub loosely : GoesOnLoosely kind

ends-next : (z : Place) → ends_target z.rest ≡ true → EndedTarget z
ends-next z e = by_looks (comma z.rest) (word plain_sign z.rest) refl refl e
  where
    by_looks : (o p : Option (Unit {0} × List Word)) → comma z.rest ≡ o → word plain_sign z.rest ≡ p → (is_some o || is_some p) ≡ true → EndedTarget z
    by_looks (Some x) p f g h =
        let n : Place = record { known = z.known; rest = x.1 } in
        record { kind = kind.Comma; n = n; here = word-next kind.Comma told_comma z n x.0 (ap (placed z.known) f); loosely = comma_loose }
    by_looks None (Some x) f g h =
        let n : Place = record { known = z.known; rest = x.1 } in
        record { kind = plain_sign; n = n; here = word-next plain_sign told_plain_sign z n x.0 (ap (placed z.known) g); loosely = sign_loose signs.Plain }
    by_looks None None f g h = absurd cc

pub ends_stop : (z : Place) → ends_target z.rest ≡ true → Stops 0 z
ends_stop z e = let w = ends-next z e in stops_by w.kind 0 z w.n w.here (omega (arith, w.loosely.loose))

pub comma_ends : (m n : Place) (u : Unit {0}) → at comma m ≡ Some (u, n) → ends_target m.rest ≡ true
comma_ends m n u e = ap (λ o. is_some o || is_some (word plain_sign m.rest)) (placed_some m.known (comma m.rest) u n e).0

pub sign_ends : (z n : Place) → next z ≡ Some (plain_sign, n) → ends_target z.rest ≡ true
sign_ends z n e = by_next (λ q. ends_target q.rest ≡ true) z n plain_sign e (λ b. refl)

-- an element or an attribute begins with no target that is a word
module _ (R : Nested) (s m : Place) (r : Reached) (p : Spot) (h : Postfix R s r m) (f : r.spot ≡ Some p) where
  pub spot_no_several : at several s ≡ None
  spot_no_several = none_unless (at several s) (λ u y e. let c = several-next s y u e in postfix_no_spot R s c.m c.n c.first c.target kind.Comma c.here c.told comma_loose c.comma m r p h f)

  pub spot_no_lone : at lone_target s ≡ None
  spot_no_lone = none_unless (at lone_target s) (λ x z e.
      let l = lone-target s z x e in
      let w = seen_as (λ w. target_of_kind w.kind) s z x l.0 in
      let k = ends-next z l.1 in
      postfix_no_spot R s z k.n w.kind x k.kind w.here w.told k.loosely k.here m r p h f)

  pub spot_no_aim : at target s ≡ None
  spot_no_aim = none_unless (at target s) (λ x n e. let k = target-next s n x e in postfix_no_spot R s k.m n k.first x.target (kind.Assign x.sign) k.here k.told (sign_loose x.sign) k.sign m r p h f)

-- ---- what ends branches

-- the words that end what is done otherwise
abbrev pub finishes : WordKind → Bool
finishes kind.End = true
finishes kind.Ensure = true
finishes _ = false

-- such a word comes
abbrev pub AtEnd : Place → Type 0
AtEnd z = (k : WordKind) × (y : Place) × (next z ≡ Some (k, y)) × (finishes k ≡ true)

-- it begins nothing else, and ends statements
pub finished : (k : WordKind) → finishes k ≡ true → (is_kind k kind.Else ≡ false) × (is_kind k kind.Elsif ≡ false) × (is_kind k kind.Rescue ≡ false) × (ends_at k ≡ true)
finished kind.End e = (refl, refl, refl, refl)
finished kind.Ensure e = (refl, refl, refl, refl)
finished _ e = absurd (false≢true e)

pub end_ends : (z : Place) → AtEnd z → ends z.rest ≡ true
end_ends z a = next_ends z a.1 a.0 true a.2 (finished a.0 a.3).3

pub rescue_ends : (z n : Place) (u : Unit {0}) → at rescues z ≡ Some (u, n) → ends z.rest ≡ true
rescue_ends z n u e = next_ends z n kind.Rescue true (word-next kind.Rescue told_rescue z n u e) refl

-- an arrow, or what stands before statements
pub caught_stop : (z n : Place) (x : Option Caught) → at caught z ≡ Some (x, n) → Stops 28 z
caught_stop z n x e = by_arrow (word kind.Arrow z.rest) refl e
  where
    by_thens : (o : Option (Unit {0} × List Word)) → thens z.rest ≡ o → placed z.known (before_thens None o) ≡ Some (x, n) → Stops 28 z
    by_thens None g h = absurd cc
    by_thens (Some r) g h = omega (arith, thens_stop z (record { known = z.known; rest = r.1 }) r.0 (ap (placed z.known) g))

    by_arrow : (o : Option (Unit {0} × List Word)) → word kind.Arrow z.rest ≡ o → placed z.known (behind_arrow z.rest o) ≡ Some (x, n) → Stops 28 z
    by_arrow None g h = by_thens (thens z.rest) refl h
    by_arrow (Some r) g h =
        let m : Place = record { known = z.known; rest = r.1 } in
        stops_by kind.Arrow 28 z m (word-next kind.Arrow told_arrow z m r.0 (ap (placed z.known) g)) (omega arith)

middle_told : (k : WordKind) (i : ℕ) → middle_of_kind k ≡ Some i → ends_at k ≡ true
middle_told (kind.TextMiddle j) i e = refl
middle_told _ i e = absurd (none-some i e)

pub middle_ends : (z n : Place) (i : ℕ) → at text_middle z ≡ Some (i, n) → ends z.rest ≡ true
middle_ends z n i e = let w = seen_as (λ w. middle_of_kind w.kind) z n i e in next_ends z n w.kind true w.here (middle_told w.kind i w.told)

-- the piece that ends a literal ends statements, and is no piece between two parts
pub tail_ends : (z n : Place) (i : ℕ) → at text_tail z ≡ Some (i, n) → (ends z.rest ≡ true) × (at text_middle z ≡ None)
tail_ends z n i e = let w = seen_as (λ w. tail_of_kind w.kind) z n i e in by_kind w.kind w.here w.told
  where
    by_kind : (k : WordKind) → next z ≡ Some (k, n) → tail_of_kind k ≡ Some i → (ends z.rest ≡ true) × (at text_middle z ≡ None)
    by_kind (kind.TextTail j) f g = (next_ends z n (kind.TextTail j) true f refl, by_next (λ q. at text_middle q ≡ None) z n (kind.TextTail j) f (λ b. refl))
    by_kind _ f g = absurd (none-some i g)

pub elsif_ends : (z n : Place) (u : Unit {0}) → at elsif z ≡ Some (u, n) → ends z.rest ≡ true
elsif_ends z n u e = next_ends z n kind.Elsif true (word-next kind.Elsif told_elsif z n u e) refl
