-- Which words begin what.
use Rattle.std.proofs.Common.{◌≡◌, zero, suc, ◌<◌, Bool, true, false, not, ◌&&◌, List, ◌∷◌, Option, Some, None, refl, sym, ap, ◌∙◌, subst, arith, ℕ, []}
use Rattle.std.proofs.lemmas.Bool.{false≢true}
use Rattle.std.proofs.lemmas.Option.{none-some}
use Rattle.rr_base.specs.declared.name.Sym.{Sym}
use Rattle.rr_tree.specs.Tree.{Tree}
use Rattle.rr_parser.specs.declared.word.Head.{Head}
use Rattle.rr_parser.specs.declared.word.Head.TheVariants as heads
use Rattle.rr_parser.specs.declared.word.Jump.{Jump}
use Rattle.rr_parser.specs.declared.word.Passing.{Passing}
use Rattle.rr_parser.specs.declared.word.Aim.{Aim}
use Rattle.rr_parser.specs.declared.word.Target.{Target}
use Rattle.rr_parser.specs.declared.word.Listed.{Listed}
use Rattle.rr_parser.specs.declared.word.Listed.TheVariants as listings
use Rattle.rr_parser.specs.declared.word.Part.{Part}
use Rattle.rr_parser.specs.declared.word.WordKind.{WordKind}
use Rattle.rr_parser.specs.declared.word.WordKind.TheVariants as kind
use Rattle.rr_parser.specs.declared.word.Word.{Word}
use Rattle.rr_parser.specs.declared.word.Behind.{Behind}
use Rattle.rr_parser.specs.declared.word.Behind.TheVariants as behinds
use Rattle.rr_parser.specs.declared.word.Fence.{Fence}
use Rattle.rr_parser.specs.Grammar.Fences.{with_do, taking, fence_of, opened}
use Rattle.rr_parser.specs.Places.{Known, Place, Look, seen_before, unless, where_true, is_kind, placed, word, at, next, first_as}
use Rattle.rr_parser.specs.Grammar.Chains.{Chain, one, more, at_first, and_then, same}
use Rattle.rr_parser.specs.Grammar.Nesting.{Nested}
use Rattle.rr_parser.specs.Grammar.Names.{is_local, name, bracket, is_tight, begins_operand, begins_operands, begins_command, is_allowed, head_of_kind, head, begins_head}
use Rattle.rr_parser.specs.Grammar.Operands.{joined, literal_of, construct_of, Primary, a_literal, a_constant, a_path, a_negative, a_local, a_bare_call, a_call, a_block_call, a_jump, a_passing, a_passing_call, a_construct, Postfix, Bang, a_bang, no_bang, Minus, a_minus, no_minus, Reached, as_it_is}
use Rattle.rr_parser.specs.Grammar.Operators.{operator, infixed, connective, joined_by, Binary, a_comparison, a_pair, Logical, Ternary, no_question, a_question}
use Rattle.rr_parser.specs.Grammar.Calls.{target, Assigned, an_assignment, no_assignment, Argument, a_command, Phrase, by_name, an_operand, Value, closing, target_of_kind, label, star, label_of_kind, Settled, a_setting, no_setting, by_receiver}
use Rattle.rr_parser.specs.Grammar.Several.{Targeted, a_target, a_spot}
use Rattle.rr_parser.specs.Grammar.Sequences.{Negation, a_negation, no_negation, Simple, to_several, no_several, modifier, Modifying, Statement}
use Rattle.rr_parser.specs.Reading.Operands.{no_integer, prefix_minus}
use Rattle.rr_parser.specs.Reading.Sequences.{ends_at, ends}
use Rattle.rr_parser.proofs.Looks.{seen_as, none_unless, by_next, one_kind, other-word, name-next, no_prefix, target-next, head-next, command-next, unseen_kind}
use Rattle.rr_parser.proofs.Listing.{closes, closing-next}
use Rattle.rr_parser.proofs.Trails.{trail_head}
use Rattle.rr_parser.proofs.Strengths.{strength, strength_in, Stops, stops_by}
use Rattle.rr_parser.specs.Reading.Calls.{star_unless}
use Rattle.rr_parser.specs.Grammar.Classes.{class_word, opening_of_kind}

-- ---- the first word

pub next_ends : (s m : Place) (k : WordKind) (b : Bool) → next s ≡ Some (k, m) → ends_at k ≡ b → ends s.rest ≡ b
next_ends s m k b e f = by_next (λ q. ends q.rest ≡ b) s m k e (λ c. f)

pub chain_first : {X R S : Type 0} (between : Look X) (first : R → S) (join : X → S → R → S) (P : Place → R → Place → Type 0) (s z : Place) (t : S) → Chain between first join P s t z → (u : R) × (y : Place) × P s u y
chain_first between first join P s z t (one {z = y} {t = u} h) = (u, y, h)
chain_first between first join P s z t (more {m = m} {l = l} c e h) = chain_first between first join P s m l c

-- a word, other than a name, that an operand begins with; but for the minus and the `!`
abbrev pub opens : WordKind → Bool
opens (kind.Int n) = true
opens (kind.Text i) = true
opens kind.Nil = true
opens (kind.Truth b) = true
opens (kind.Symbol x) = true
opens (kind.Constant x outer) = true
opens (kind.Field x) = true
opens (kind.Global x) = true
opens kind.Itself = true
opens kind.Open = true
opens kind.OpenSquare = true
opens kind.OpenBrace = true
opens kind.If = true
opens kind.Unless = true
opens (kind.Loop until) = true
opens kind.Begin = true
opens (kind.TextHead i) = true
opens _ = false

literal_opens : (k : WordKind) (t : Tree) → literal_of k ≡ Some t → opens k ≡ true
literal_opens (kind.Int n) t e = refl
literal_opens (kind.Text i) t e = refl
literal_opens kind.Nil t e = refl
literal_opens (kind.Truth b) t e = refl
literal_opens (kind.Symbol x) t e = refl
literal_opens (kind.Field x) t e = refl
literal_opens (kind.Global x) t e = refl
literal_opens kind.Itself t e = refl
literal_opens _ t e = absurd (none-some t e)

construct_opens : (k : WordKind) (p : Part) → construct_of k ≡ Some p → opens k ≡ true
construct_opens kind.Open p e = refl
construct_opens kind.OpenSquare p e = refl
construct_opens kind.OpenBrace p e = refl
construct_opens kind.If p e = refl
construct_opens kind.Unless p e = refl
construct_opens (kind.Loop until) p e = refl
construct_opens kind.Begin p e = refl
construct_opens (kind.TextHead i) p e = refl
construct_opens _ p e = absurd (none-some p e)

-- What an operand begins with.
pub data First (s : Place) : Type 0 where
  by_word : {k : WordKind} {m : Place} → next s ≡ Some (k, m) → opens k ≡ true → First s
  by_integer : {m z : Place} {n : ℕ} → next s ≡ Some (kind.Minus, m) → at joined m ≡ Some (n, z) → First s
  by_no_command : {m : Place} {x : Sym} → at name s ≡ Some (x, m) → begins_command x m ≡ false → First s
  by_jump : {m : Place} {j : Jump} → next s ≡ Some (kind.Jump j, m) → begins_head (heads.Jump j) m ≡ false → First s
  by_passing : {m : Place} {p : Passing} → next s ≡ Some (kind.Passing p, m) → begins_head (heads.Passing p) m ≡ false → First s
  by_bang : {m : Place} → next s ≡ Some (kind.Bang, m) → First s
  by_prefix : {m : Place} → next s ≡ Some (kind.Minus, m) → First s

pub and_false : (b : Bool) → (b && false) ≡ false
and_false true = refl
and_false false = refl

local_no_command : (x : Sym) (m : Place) → is_local x m ≡ true → begins_command x m ≡ false
local_no_command x m e = ap (λ b. not b && begins_operands m.rest) e

pub bare_no_command : (x : Sym) (m : Place) → begins_operands m.rest ≡ false → begins_command x m ≡ false
bare_no_command x m e = ap (λ b. not (is_local x m) && b) e ∙ and_false (not (is_local x m))

bracket_told : (b : Bool) (k : WordKind) (u : Unit {0}) → unless b (where_true (is_kind k kind.Open)) ≡ Some u → is_kind k kind.Open ≡ true
bracket_told true k u e = absurd (none-some u e)
bracket_told false k u e = by_test (is_kind k kind.Open) refl e
  where
    by_test : (o : Bool) → is_kind k kind.Open ≡ o → where_true o ≡ Some u → is_kind k kind.Open ≡ true
    by_test true f h = f
    by_test false f h = absurd (none-some u h)

-- the bracket that opens arguments has no blank before it
bracket_no_operands : (z n : Place) (u : Unit {0}) → at bracket z ≡ Some (u, n) → begins_operands z.rest ≡ false
bracket_no_operands z n u e = by_words z.known z.rest e
  where
    by_blank : (b : Bool) (known : Known) (w : Word) (ws : List Word) → w.blank ≡ b → placed known (seen_before (unless b (where_true (is_kind w.kind kind.Open))) ws) ≡ Some (u, n)
        → (b && begins_operand w.kind (is_tight ws)) ≡ false
    by_blank true known w ws f h = absurd (none-some (u, n) h)
    by_blank false known w ws f h = refl

    by_words : (known : Known) (ws : List Word) → placed known (bracket ws) ≡ Some (u, n) → begins_operands ws ≡ false
    by_words known [] f = absurd (none-some (u, n) f)
    by_words known (w ∷ ws) f = by_blank w.blank known w ws refl f

pub bracket_not_other : (z n o : Place) (u : Unit {0}) (q : WordKind) → is_kind q kind.Open ≡ false → at bracket z ≡ Some (u, n) → next z ≡ Some (q, o) → ⊥
bracket_not_other z n o u q other e f =
    let w = seen_as (λ w. unless w.blank (where_true (is_kind w.kind kind.Open))) z n u e in
    let t = bracket_told w.blank w.kind u w.told in
    let k = one_kind z n o w.kind q w.here f in
    let g : false ≡ true = sym other ∙ ap (λ q. is_kind q kind.Open) (sym k) ∙ t in
    let never : ⊥ = cc in never

-- a word that begins a block
abbrev pub opens_block : WordKind → Bool
opens_block kind.OpenBrace = true
opens_block kind.Do = true
opens_block _ = false

fence_opens : (q : Behind) (b : Bool) (k : WordKind) (f : Fence) → fence_of q b k ≡ Some f → opens_block k ≡ true
fence_opens q b kind.OpenBrace f e = refl
fence_opens q b kind.Do f e = refl
fence_opens q b _ f e = absurd (none-some f e)

pub record OpensBlock (s n : Place) : Type 0 where
  pub kind : WordKind
  pub here : next s ≡ Some (kind, n)
  pub told : opens_block kind ≡ true

opened_next : (q : Behind) (s n : Place) (f : Fence) → opened q s ≡ Some (f, n) → OpensBlock s n
opened_next q s n f e =
    let w = seen_as (λ w. fence_of q s.known.takes_do w.kind) s n f e in
    record { kind = w.kind; here = w.here; told = fence_opens q s.known.takes_do w.kind f w.told }

-- a block begins behind what nothing goes on with
pub opened_stops : (q : Behind) (s n : Place) (f : Fence) → opened q s ≡ Some (f, n) → Stops 31 s
opened_stops q s n f e = let o = opened_next q s n f e in stops_by o.kind 31 s n o.here (loose o.kind o.told)
  where
    loose : (k : WordKind) → opens_block k ≡ true → 31 < strength k
    loose kind.OpenBrace g = omega arith
    loose kind.Do g = omega arith
    loose _ g = absurd (false≢true g)

brace_no_operands : (z n : Place) (f : Fence) → opened behinds.Call z ≡ Some (f, n) → begins_operands z.rest ≡ false
brace_no_operands z n f e = let o = opened_next behinds.Call z n f e in by_next (λ q. begins_operands q.rest ≡ false) z n o.kind o.here (λ b. by_kind o.kind o.told b n.rest)
  where
    by_kind : (k : WordKind) → opens_block k ≡ true → (b : Bool) (ws : List Word) → (b && begins_operand k (is_tight ws)) ≡ false
    by_kind kind.OpenBrace g b ws = and_false b
    by_kind kind.Do g b ws = and_false b
    by_kind _ g b ws = absurd (false≢true g)

pub fence_not_other : (z n o : Place) (f : Fence) (q : WordKind) → opens_block q ≡ false → opened behinds.Call z ≡ Some (f, n) → next z ≡ Some (q, o) → ⊥
fence_not_other z n o f q other e g =
    let b = opened_next behinds.Call z n f e in
    let k = one_kind z n o b.kind q b.here g in
    let h : true ≡ false = sym b.told ∙ ap opens_block k ∙ other in
    let never : ⊥ = cc in never

-- what is known of `do` stops nothing
same_strength : (k j : Known) (ws : List Word) → strength_in (next (record { known = k; rest = ws })) ≡ strength_in (next (record { known = j; rest = ws }))
same_strength k j [] = refl
same_strength k j (w ∷ ws) = refl

pub taking_stops : (n : ℕ) (b : Bool) (z : Place) → Stops n (taking b z) → Stops n z
taking_stops n b z stops = subst (λ (q : ℕ). n < q) (same_strength (with_do b z.known) z.known z.rest) stops

pub primary_first : (R : Nested) (s z : Place) (t : Tree) → Primary R s t z → First s
primary_first R s z t (a_literal {k = k} e f) = by_word e (literal_opens k t f)
primary_first R s z t (a_constant e f) = by_word e refl
primary_first R s z t (a_path e f) = by_word e refl
primary_first R s z t (a_negative e f g) = by_integer e f
primary_first R s z t (a_local {x = x} e o b f) = by_no_command e (local_no_command x z f)
primary_first R s z t (a_bare_call {x = x} e o b f g) = by_no_command e (bare_no_command x z g)
primary_first R s z t (a_call {m = m} {n = n} {x = x} {u = u} e f h b) = by_no_command e (bare_no_command x m (bracket_no_operands m n u f))
primary_first R s z t (a_block_call {m = m} {n = n} {x = x} {f = k} e f g h) = by_no_command e (bare_no_command x m (brace_no_operands m n k g))
primary_first R s z t (a_jump {j = j} e f g) = by_jump e (ap (λ b. is_allowed j z.known && b) g ∙ and_false (is_allowed j z.known))
primary_first R s z t (a_passing {p = p} e f g h) = by_passing e (ap (λ b. z.known.in_method && b) h ∙ and_false z.known.in_method)
primary_first R s z t (a_passing_call {m = m} {n = n} {p = p} {u = u} e f g h) = by_passing e (ap (λ b. m.known.in_method && b) (bracket_no_operands m n u g) ∙ and_false m.known.in_method)
primary_first R s z t (a_construct {k = k} {p = p} e f h) = by_word e (construct_opens k p f)

open_no_bang : (k : WordKind) → opens k ≡ true → is_kind k kind.Bang ≡ false
open_no_bang kind.Bang e = absurd (false≢true e)
open_no_bang _ e = refl

primary_no_bang : (R : Nested) (s z : Place) (t : Tree) → Primary R s t z → at (word kind.Bang) s ≡ None
primary_no_bang R s z t (a_literal {k = k} e f) = other-word kind.Bang k s z e (open_no_bang k (literal_opens k t f))
primary_no_bang R s z t (a_constant {x = x} {outer = outer} e f) = other-word kind.Bang (kind.Constant x outer) s z e refl
primary_no_bang R s z t (a_path {m = m} {x = x} {outer = outer} e f) = other-word kind.Bang (kind.Constant x outer) s m e refl
primary_no_bang R s z t (a_negative {m = m} e f g) = other-word kind.Bang kind.Minus s m e refl
primary_no_bang R s z t (a_local {x = x} e o b f) = let h = name-next s z x e in other-word kind.Bang (kind.Name x h.0) s z h.1 refl
primary_no_bang R s z t (a_bare_call {x = x} e o b f g) = let h = name-next s z x e in other-word kind.Bang (kind.Name x h.0) s z h.1 refl
primary_no_bang R s z t (a_call {m = m} {x = x} e f g b) = let h = name-next s m x e in other-word kind.Bang (kind.Name x h.0) s m h.1 refl
primary_no_bang R s z t (a_block_call {m = m} {x = x} e f g b) = let h = name-next s m x e in other-word kind.Bang (kind.Name x h.0) s m h.1 refl
primary_no_bang R s z t (a_jump {j = j} e f g) = other-word kind.Bang (kind.Jump j) s z e refl
primary_no_bang R s z t (a_passing {p = p} e f g h) = other-word kind.Bang (kind.Passing p) s z e refl
primary_no_bang R s z t (a_passing_call {m = m} {p = p} e f g h) = other-word kind.Bang (kind.Passing p) s m e refl
primary_no_bang R s z t (a_construct {m = m} {k = k} {p = p} e f h) = other-word kind.Bang k s m e (open_no_bang k (construct_opens k p f))

open_no_minus : (k : WordKind) → opens k ≡ true → is_kind k kind.Minus ≡ false
open_no_minus kind.Minus e = absurd (false≢true e)
open_no_minus _ e = refl

open_no_prefix : (s m : Place) (k : WordKind) → next s ≡ Some (k, m) → opens k ≡ true → at prefix_minus s ≡ None
open_no_prefix s m k e f = by_next (λ q. at prefix_minus q ≡ None) s m k e (λ b. ap (λ t. placed m.known (no_integer (seen_before (where_true t) m.rest))) (open_no_minus k f))

primary_no_prefix : (R : Nested) (s z : Place) (t : Tree) → Primary R s t z → at prefix_minus s ≡ None
primary_no_prefix R s z t (a_literal {k = k} e f) = open_no_prefix s z k e (literal_opens k t f)
primary_no_prefix R s z t (a_constant {x = x} {outer = outer} e f) = open_no_prefix s z (kind.Constant x outer) e refl
primary_no_prefix R s z t (a_path {m = m} {x = x} {outer = outer} e f) = open_no_prefix s m (kind.Constant x outer) e refl
primary_no_prefix R s z t (a_negative {m = m} {n = n} e f g) = no_prefix s m e n z f
primary_no_prefix R s z t (a_local {x = x} e o b f) = let h = name-next s z x e in by_next (λ q. at prefix_minus q ≡ None) s z (kind.Name x h.0) h.1 (λ b. refl)
primary_no_prefix R s z t (a_bare_call {x = x} e o b f g) = let h = name-next s z x e in by_next (λ q. at prefix_minus q ≡ None) s z (kind.Name x h.0) h.1 (λ b. refl)
primary_no_prefix R s z t (a_call {m = m} {x = x} e f g b) = let h = name-next s m x e in by_next (λ q. at prefix_minus q ≡ None) s m (kind.Name x h.0) h.1 (λ b. refl)
primary_no_prefix R s z t (a_block_call {m = m} {x = x} e f g b) = let h = name-next s m x e in by_next (λ q. at prefix_minus q ≡ None) s m (kind.Name x h.0) h.1 (λ b. refl)
primary_no_prefix R s z t (a_jump {j = j} e f g) = by_next (λ q. at prefix_minus q ≡ None) s z (kind.Jump j) e (λ b. refl)
primary_no_prefix R s z t (a_passing {p = p} e f g h) = by_next (λ q. at prefix_minus q ≡ None) s z (kind.Passing p) e (λ b. refl)
primary_no_prefix R s z t (a_passing_call {m = m} {p = p} e f g h) = by_next (λ q. at prefix_minus q ≡ None) s m (kind.Passing p) e (λ b. refl)
primary_no_prefix R s z t (a_construct {m = m} {k = k} {p = p} e f h) = open_no_prefix s m k e (construct_opens k p f)

-- the first operand of a trail
postfix_head : (R : Nested) (s z : Place) (t : Reached) → Postfix R s t z → (u : Tree) × (y : Place) × Primary R s u y
postfix_head R s z t (at_first (as_it_is {t = u} h)) = (u, z, h)
postfix_head R s z t (and_then {m = m} {l = l} c e h) = postfix_head R s m l c

pub postfix_no_bang : (R : Nested) (s z : Place) (t : Reached) → Postfix R s t z → at (word kind.Bang) s ≡ None
postfix_no_bang R s z t h = let p = postfix_head R s z t h in primary_no_bang R s p.1 p.0 p.2

pub bang_no_prefix : (R : Nested) (s z : Place) (t : Tree) → Bang R s t z → at prefix_minus s ≡ None
bang_no_prefix R s z t (a_bang {m = m} e h) = by_next (λ q. at prefix_minus q ≡ None) s m kind.Bang e (λ b. refl)
bang_no_prefix R s z t (no_bang {r = r} h) = let p = postfix_head R s z r h in primary_no_prefix R s p.1 p.0 p.2

minus_first : (R : Nested) (s z : Place) (t : Tree) → Minus R s t z → First s
minus_first R s z t (a_minus e f h) = by_prefix e
minus_first R s z t (no_minus (a_bang e h)) = by_bang e
minus_first R s z t (no_minus (no_bang {r = r} h)) = let p = postfix_head R s z r h in primary_first R s p.1 p.0 p.2

binary_first : (R : Nested) (level : ℕ) (s z : Place) (t : Tree) → Binary R level s t z → First s
binary_first R zero s z t h = minus_first R s z t h
binary_first R (suc level) s z t c =
    let f = chain_first (operator (suc level)) same infixed (Binary R level) s z t c in
    binary_first R level s f.1 f.0 f.2

logical_first : (R : Nested) (level : ℕ) (s z : Place) (t : Tree) → Logical R level s t z → First s
logical_first R zero s z t (a_comparison h) = binary_first R 4 s z t h
logical_first R zero s z t (a_pair {m = m} {l = l} h e g) = binary_first R 4 s m l h
logical_first R (suc level) s z t c =
    let f = chain_first (connective (suc level)) same joined_by (Logical R level) s z t c in
    logical_first R level s f.1 f.0 f.2

ternary_first : (R : Nested) (s z : Place) (t : Tree) → Ternary R s t z → First s
ternary_first R s z t (no_question h) = logical_first R 2 s z t h
ternary_first R s z t (a_question {m = m} {c = c} h e f g i) = logical_first R 2 s m c h

pub postfix_first : (R : Nested) (s z : Place) (r : Reached) → Postfix R s r z → First s
postfix_first R s z r h = let p = postfix_head R s z r h in primary_first R s p.1 p.0 p.2

pub settled_first : (R : Nested) (b : Bool) (s z : Place) (t : Tree) → Settled R b s t z → First s
settled_first R b s z t (a_setting {m = m} {r = r} h f g i) = postfix_first R s m r h
settled_first R b s z t (no_setting h) = ternary_first R s z t h

-- ---- what the first word tells

-- a word that begins a value
abbrev starts : WordKind → Bool
starts (kind.Name x b) = true
starts (kind.Jump j) = true
starts (kind.Passing p) = true
starts kind.Minus = true
starts kind.Bang = true
starts k = opens k

pub record Starts (s : Place) : Type 0 where
  pub kind : WordKind
  pub behind : Place
  pub here : next s ≡ Some (kind, behind)
  pub told : starts kind ≡ true

open_starts : (k : WordKind) → opens k ≡ true → starts k ≡ true
open_starts (kind.Name x b) e = refl
open_starts (kind.Jump j) e = refl
open_starts (kind.Passing p) e = refl
open_starts kind.Minus e = refl
open_starts kind.Bang e = refl
open_starts k e = e

name_starts : (s m : Place) (x : Sym) → at name s ≡ Some (x, m) → Starts s
name_starts s m x e = let h = name-next s m x e in record { kind = kind.Name x h.0; behind = m; here = h.1; told = refl }

pub first_starts : (s : Place) → First s → Starts s
first_starts s (by_word {k = k} {m = m} e f) = record { kind = k; behind = m; here = e; told = open_starts k f }
first_starts s (by_integer {m = m} e f) = record { kind = kind.Minus; behind = m; here = e; told = refl }
first_starts s (by_no_command {m = m} {x = x} e f) = name_starts s m x e
first_starts s (by_jump {m = m} {j = j} e f) = record { kind = kind.Jump j; behind = m; here = e; told = refl }
first_starts s (by_passing {m = m} {p = p} e f) = record { kind = kind.Passing p; behind = m; here = e; told = refl }
first_starts s (by_bang {m = m} e) = record { kind = kind.Bang; behind = m; here = e; told = refl }
first_starts s (by_prefix {m = m} e) = record { kind = kind.Minus; behind = m; here = e; told = refl }

start_no_end : (k : WordKind) → starts k ≡ true → ends_at k ≡ false
start_no_end kind.Close e = absurd (false≢true e)
start_no_end kind.CloseBrace e = absurd (false≢true e)
start_no_end (kind.TextMiddle i) e = absurd (false≢true e)
start_no_end (kind.TextTail i) e = absurd (false≢true e)
start_no_end kind.Elsif e = absurd (false≢true e)
start_no_end kind.Else e = absurd (false≢true e)
start_no_end kind.Rescue e = absurd (false≢true e)
start_no_end kind.Ensure e = absurd (false≢true e)
start_no_end kind.End e = absurd (false≢true e)
start_no_end _ e = refl

pub starts_no_end : (s : Place) → Starts s → ends s.rest ≡ false
starts_no_end s f = next_ends s f.behind f.kind false f.here (start_no_end f.kind f.told)

start_no_not : (k : WordKind) → starts k ≡ true → is_kind k kind.NotWord ≡ false
start_no_not kind.NotWord e = absurd (false≢true e)
start_no_not _ e = refl

pub starts_no_not : (s : Place) → Starts s → at (word kind.NotWord) s ≡ None
starts_no_not s f = other-word kind.NotWord f.kind s f.behind f.here (start_no_not f.kind f.told)

start_no_closing : (k : Listed) (q : WordKind) → starts q ≡ true → closes k q ≡ false
start_no_closing listings.Command q e = refl
start_no_closing listings.Call kind.Close e = absurd (false≢true e)
start_no_closing listings.Call _ e = refl
start_no_closing listings.Array kind.CloseSquare e = absurd (false≢true e)
start_no_closing listings.Array _ e = refl
start_no_closing listings.Hash kind.CloseBrace e = absurd (false≢true e)
start_no_closing listings.Hash _ e = refl

-- where a value begins, no list ends
pub starts_no_closing : (k : Listed) (s : Place) → Starts s → at (closing k) s ≡ None
starts_no_closing k s f = none_unless (at (closing k) s) (λ u z e.
    let c = closing-next k s z u e in
    let q = one_kind s f.behind z f.kind c.0 f.here c.1 in
    let g : false ≡ true = sym (start_no_closing k f.kind f.told) ∙ ap (closes k) q ∙ c.2 in
    let never : ⊥ = cc in never)

target_start : (k : WordKind) (x : Target) → target_of_kind k ≡ Some x → starts k ≡ true
target_start (kind.Name y b) x f = refl
target_start (kind.Field y) x f = refl
target_start (kind.Global y) x f = refl
target_start (kind.Constant y n) x f = refl
target_start _ x f = absurd (none-some x f)

pub target_starts : (s z : Place) (x : Aim) → at target s ≡ Some (x, z) → Starts s
target_starts s z x e = let h = target-next s z x e in record { kind = h.first; behind = h.m; here = h.here; told = target_start h.first x.target h.told }

targeted_starts : (R : Nested) (s z : Place) (t : Tree) → Targeted R s t z → Starts s
targeted_starts R s z t (a_target {m = m} {x = x} e f) = let w = seen_as (λ w. target_of_kind w.kind) s m x e in record { kind = w.kind; behind = m; here = w.here; told = target_start w.kind x w.told }
targeted_starts R s z t (a_spot {r = r} h f) = first_starts s (postfix_first R s z r h)

head_starts : (s m : Place) (x : Head) → at head s ≡ Some (x, m) → Starts s
head_starts s m x e = let h = head-next s m x e in record { kind = h.0; behind = m; here = h.1; told = head_start h.0 x h.2 }
  where
    head_start : (k : WordKind) (x : Head) → head_of_kind k ≡ Some x → starts k ≡ true
    head_start (kind.Name y b) x f = refl
    head_start (kind.Jump j) x f = refl
    head_start (kind.Passing p) x f = refl
    head_start _ x f = absurd (none-some x f)

pub phrase_starts : (R : Nested) (s z : Place) (t : Tree) → Phrase R s t z → Starts s
phrase_starts R s z t (by_name (a_command {m = m} {x = x} e h b)) = head_starts s m x (command-next s m x e).0
phrase_starts R s z t (by_receiver {m = m} {r = r} h e g) = first_starts s (postfix_first R s m r h)
phrase_starts R s z t (an_operand h) = first_starts s (settled_first R true s z t h)

pub assigned_starts : (R : Nested) (commands : Bool) (Q : Place → Tree → Place → Type 0) → ((s z : Place) (t : Tree) → Q s t z → Starts s) → (s z : Place) (t : Tree) → Assigned R commands Q s t z → Starts s
assigned_starts R commands Q begins s z t (an_assignment {n = n} {x = x} e f h) = target_starts s n x e
assigned_starts R commands Q begins s z t (no_assignment h) = begins s z t h

pub argument_starts : (R : Nested) (s z : Place) (t : Tree) → Argument R s t z → Starts s
argument_starts R = assigned_starts R false (Settled R false) (λ s z t h. first_starts s (settled_first R false s z t h))

start_no_star : (k : WordKind) → starts k ≡ true → is_kind k star ≡ false
start_no_star (kind.Operator o) e = absurd (false≢true e)
start_no_star _ e = refl

-- where a value begins, no `*` stands
pub starts_no_star : (s : Place) → Starts s → at (word star) s ≡ None
starts_no_star s f = other-word star f.kind s f.behind f.here (start_no_star f.kind f.told)

start_no_label : (k : WordKind) → starts k ≡ true → label_of_kind k ≡ None
start_no_label (kind.Label y) e = absurd (false≢true e)
start_no_label _ e = refl

-- nor does one stand where a `*` does
pub star_no_label : (s m : Place) → next s ≡ Some (star, m) → at label s ≡ None
star_no_label s m e = by_next (λ q. at label q ≡ None) s m star e (λ b. refl)

pub no_star_unless : (only : Bool) (s : Place) → at (word star) s ≡ None → at (star_unless only) s ≡ None
no_star_unless true s e = refl
no_star_unless false s e = e

-- where a value begins, no label stands
pub starts_no_label : (s : Place) → Starts s → at label s ≡ None
starts_no_label s f = none_unless (at label s) (λ x z e.
    let w = seen_as (λ w. label_of_kind w.kind) s z x e in
    let g : ◌≡◌ {A = Option Sym} None (Some x) = sym (start_no_label f.kind f.told) ∙ ap label_of_kind (one_kind s f.behind z f.kind w.kind f.here w.here) ∙ w.told in
    let never : ⊥ = cc in never)

pub value_starts : (R : Nested) (s z : Place) (t : Tree) → Value R true s t z → Starts s
value_starts R = assigned_starts R true (Phrase R) (phrase_starts R)

pub negation_starts : (R : Nested) (s z : Place) (t : Tree) → Negation R s t z → ends s.rest ≡ false
negation_starts R s z t (a_negation {m = m} e h) = next_ends s m kind.NotWord false e refl
negation_starts R s z t (no_negation h) = starts_no_end s (value_starts R s z t h)

simple_starts : (R : Nested) (s z : Place) (t : Tree) → Simple R s t z → ends s.rest ≡ false
simple_starts R s z t (to_several {m = m} {t = v} a c b f h) = starts_no_end s (targeted_starts R s m v a)
simple_starts R s z t (no_several c) = let g = chain_first (connective 3) same joined_by (Negation R) s z t c in negation_starts R s g.1 g.0 g.2

pub statement_starts : (R : Nested) (s z : Place) (t : Tree) → Statement R s t z → ends s.rest ≡ false
statement_starts R s z t c = let f = trail_head modifier (Simple R) (Modifying R) s z t c in simple_starts R s f.1 f.0 f.2

-- a statement begins with no word that begins no operand, as `def` and `class`
module _ {X : Type 0} (f : WordKind → Option X) (no_not : f kind.NotWord ≡ None) (no_start : (k : WordKind) → starts k ≡ true → f k ≡ None) (R : Nested) where
  negation_unseen : (s z : Place) (t : Tree) → Negation R s t z → at (first_as (λ w. f w.kind)) s ≡ None
  negation_unseen s z t (a_negation {m = m} e h) = unseen_kind f kind.NotWord s m e no_not
  negation_unseen s z t (no_negation h) = let g = value_starts R s z t h in unseen_kind f g.kind s g.behind g.here (no_start g.kind g.told)

  simple_unseen : (s z : Place) (t : Tree) → Simple R s t z → at (first_as (λ w. f w.kind)) s ≡ None
  simple_unseen s z t (to_several {m = m} {t = v} a c b h i) = let g = targeted_starts R s m v a in unseen_kind f g.kind s g.behind g.here (no_start g.kind g.told)
  simple_unseen s z t (no_several c) = let g = chain_first (connective 3) same joined_by (Negation R) s z t c in negation_unseen s g.1 g.0 g.2

  statement_unseen : (s z : Place) (t : Tree) → Statement R s t z → at (first_as (λ w. f w.kind)) s ≡ None
  statement_unseen s z t c = let g = trail_head modifier (Simple R) (Modifying R) s z t c in simple_unseen s g.1 g.0 g.2

start_no_def : (k : WordKind) → starts k ≡ true → where_true (is_kind k kind.Def) ≡ None
start_no_def kind.Def e = absurd (false≢true e)
start_no_def _ e = refl

start_no_class : (k : WordKind) → starts k ≡ true → opening_of_kind k ≡ None
start_no_class (kind.Class o) e = absurd (false≢true e)
start_no_class _ e = refl

pub statement_no_def : (R : Nested) (s z : Place) (t : Tree) → Statement R s t z → at (word kind.Def) s ≡ None
statement_no_def R = statement_unseen (λ k. where_true (is_kind k kind.Def)) refl start_no_def R

pub statement_no_class : (R : Nested) (s z : Place) (t : Tree) → Statement R s t z → at class_word s ≡ None
statement_no_class R = statement_unseen opening_of_kind refl start_no_class R
