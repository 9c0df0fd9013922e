-- Reading operands and operators is too deep only where the constructs that are begun pass the limit.
use Rattle.rr_parser.specs.declared.word.Naming.{Naming}
use Rattle.rr_parser.specs.declared.word.Sign.{Sign}
use Rattle.rr_parser.specs.Grammar.Calls.{settled, sign}
use Rattle.std.proofs.Common.{◌≡◌, zero, suc, pos, ◌⊎◌, inl, inr, Bool, true, false, cond, List, length, Option, Some, None, Result, Ok, Err, refl, ℕ, []}
use Rattle.rr_base.specs.declared.name.Sym.{Sym}
use Rattle.rr_parser.specs.declared.word.Infix.{Infix}
use Rattle.rr_tree.specs.Tree.{Tree, nil, int, bare, call, with_block, negate, choose, send, logical_not, listed}
use Rattle.rr_parser.specs.declared.word.Tail.{Tail}
use Rattle.rr_parser.specs.declared.word.Tail.TheVariants as tails
use Rattle.rr_parser.specs.declared.word.Jump.{Jump}
use Rattle.rr_parser.specs.declared.word.Passing.{Passing}
use Rattle.rr_parser.specs.declared.word.Part.{Part}
use Rattle.rr_parser.specs.declared.word.Part.TheVariants as parts
use Rattle.rr_parser.specs.declared.word.WordKind.{WordKind}
use Rattle.rr_parser.specs.declared.word.WordKind.TheVariants as kind
use Rattle.rr_parser.specs.declared.word.Behind.{Behind}
use Rattle.rr_parser.specs.declared.word.Behind.TheVariants as behinds
use Rattle.rr_parser.specs.declared.word.Fence.{Fence}
use Rattle.rr_parser.specs.Grammar.Fences.{taking, taking_as, opened}
use Rattle.rr_parser.specs.Places.{Place, Look, word, at, next}
use Rattle.rr_parser.specs.Grammar.Chains.{Chain, one, more, same}
use Rattle.rr_parser.specs.Grammar.Nesting.{Nested}
use Rattle.rr_parser.specs.Grammar.Names.{is_local, variable_of, told_behind, local_tree, is_allowed, jump_tree, begins_arguments, passed, passed_bare, name, bracket, begins_operands}
use Rattle.rr_parser.specs.Grammar.Operands.{fits, fits_below, negated, joined, literal_of, inner_constant, construct_of, tail, Primary, Tailed, Minus, Reached, Spot, plain, at_element, Plain, Postfix, no_minus, no_bang}
use Rattle.rr_parser.specs.Grammar.Operators.{operator, infixed, connective, joined_by, Binary, Logical}
use Rattle.rr_parser.specs.Grammar.Control.{outside_loop}
use Rattle.rr_parser.specs.Reading.Answers.{◌>>=◌, Refused, wrong, deep, Answer, Parse, built, ended_by, closed, from, on_seen, across, taking_of, enclosed_of, trail_on, turn, chain_from, chain_on, chain}
use Rattle.rr_parser.specs.Reading.Nesting.{Readers}
use Rattle.rr_parser.specs.Reading.Operands.{bare_call, block_behind, blocked_or, blocked_of, then_blocked, unbracketed_or, name_or, name_of, passing_or, passing_of, constant_or, constant_at, int_at, negative_in, negative_of, begun, primary_at, primary_in, primary_of, tailed_of, postfix_of, bang_or, bang_of, prefix_minus, minus_or, minus_of, plainly, sent_of, tree_reached, sent_or, sent_call_of, element_of}
use Rattle.rr_parser.specs.Reading.Operators.{binary_on, binary_of, pair_or, equality_on, logical_on, logical_of, question_or, ternary_on, ternary_of}
use Rattle.rr_parser.specs.Fronts.{Fronts, ChainFront, in_one, in_more, in_head, TailedFront, PostfixFront, AcrossFront, in_former, in_latter, TakingFront, EnclosedFront, CallFront, BlockedFront, in_block, PassedFront, in_passed, in_its_block, PrimaryFront, in_construct, in_call, in_passing, in_block_call, BangFront, in_bang, behind_no_bang, MinusFront, in_minus, behind_no_minus, BinaryFront, EqualityFront, LogicalFront, TernaryFront, SettledFront, in_setting, in_no_setting}
use Rattle.rr_parser.proofs.Told.{told_bang}
use Rattle.rr_parser.proofs.Looks.{word-next, next-name, prefix-next}
use Rattle.rr_parser.proofs.Trails.{trail_deep}
use Rattle.rr_parser.proofs.Chains.{done, built_ok, IsSound}
use Rattle.rr_parser.specs.Reading.Calls.{behind_bang, behind_minus, setting_of, settled_of, setting_or, spot_or, reached_on, settled_by}
use Rattle.rr_parser.proofs.SoundOperands.{NestedSound, tailed_sound, minus_sound, binary_sound_on, binary_sound, logical_sound_on, logical_sound, postfix_sound, plain_primary_sound}

abbrev pub IsDeep : {A : Type 0} → Parse A → (Place → Place → Type 0) → Type 0
IsDeep {A} p F = (s : Place) → p s ≡ Err deep → (z : Place) × F s z

pub bind_deep : {A B : Type 0} (r : Result A Refused) (f : A → Result B Refused) → (r >>= f) ≡ Err deep → (r ≡ Err deep) ⊎ ((x : A) × (r ≡ Ok x) × (f x ≡ Err deep))
bind_deep (Ok x) f e = inr (x, refl, e)
bind_deep (Err wrong) f e = absurd cc
bind_deep (Err deep) f e = inl refl

pub built_deep : {A B : Type 0} (f : A → B) (r : Answer A) → built f r ≡ Err deep → r ≡ Err deep
built_deep f (Ok x) e = absurd cc
built_deep f (Err wrong) e = absurd cc
built_deep f (Err deep) e = refl

pub ended_not_deep : {A : Type 0} (t : A) (o : Option (Unit {0} × Place)) → ended_by t o ≡ Err deep → ⊥
ended_not_deep t None e = let never : ⊥ = cc in never
ended_not_deep t (Some x) e = let never : ⊥ = cc in never

pub closed_deep : {A : Type 0} (k : WordKind) (r : Answer A) → closed k r ≡ Err deep → r ≡ Err deep
closed_deep k (Ok x) e = absurd (ended_not_deep x.0 (at (word k) x.1) e)
closed_deep k (Err wrong) e = absurd cc
closed_deep k (Err deep) e = refl

-- what goes on from what U spells is too deep only where F tells so
abbrev pub IsDeepOn : {A B : Type 0} → (A → Parse B) → (Place → A → Place → Type 0) → (Place → Place → Type 0) → Type 0
IsDeepOn {A} {B} on U F = (s m : Place) (l : A) → U s l m → on l m ≡ Err deep → (z : Place) × F s z

pub from_deep : {A B : Type 0} (p : Parse A) (on : A → Parse B) (U : Place → A → Place → Type 0) (F : Place → Place → Type 0) → IsSound p U → IsDeepOn on U F → IsDeep p F → IsDeep (from p on) F
from_deep p on U F sound deep_on first s e =
    elim (bind_deep (p s) (λ x. on x.0 x.1) e) [
      | inl g ↦ first s g
      | inr b ↦ deep_on s b.0.1 b.0.0 (sound s b.0.1 b.0.0 b.1) b.2
    ]

-- two parts with something between them
pub across_deep : {A B C : Type 0} (f : A → B → C) (look : Look (Unit {0})) (p : Parse B) (r : Answer A) (s : Place) (P : Place → A → Place → Type 0) (F G : Place → Place → Type 0)
    → ((a : A) (m : Place) → r ≡ Ok (a, m) → P s a m) → (r ≡ Err deep → (z : Place) × F s z) → IsDeep p G → across f look p r ≡ Err deep → (z : Place) × AcrossFront look P F G s z
across_deep {A} {B} {C} f look p r s P F G sound first second e =
    elim (bind_deep r (λ a. on_seen (f a.0) p (at look a.1)) e) [
      | inl g ↦ (let d = first g in (d.0, in_former d.1))
      | inr b ↦ by_look b.0.0 b.0.1 (sound b.0.0 b.0.1 b.1) (at look b.0.1) refl b.2
    ]
  where
    by_look : (a : A) (m : Place) → P s a m → (o : Option (Unit {0} × Place)) → at look m ≡ o → on_seen (f a) p o ≡ Err deep → (z : Place) × AcrossFront look P F G s z
    by_look a m h None g i = absurd cc
    by_look a m h (Some x) g i = let d = second x.1 (built_deep (f a) (p x.1) i) in (d.0, in_latter {x = x.0} h g d.1)

-- ---- chains

module _ {X R S : Type 0} (between step : Look X) (first : R → S) (join : X → S → R → S) (p : Parse R) (P : Place → R → Place → Type 0) (F : Place → Place → Type 0)
    (steps : (m n : Place) (x : X) → at step m ≡ Some (x, n) → at between m ≡ Some (x, n)) (sound : IsSound p P) (is_deep : IsDeep p F) where
  turn_deep : (go : S → Parse S) (s : Place) (l : S) (m : Place) (o : Option (X × Place)) → at step m ≡ o → Chain between first join P s l m
      → ((u : S) (n : Place) → Chain between first join P s u n → go u n ≡ Err deep → (z : Place) × ChainFront between (Chain between first join P) F s z)
      → turn join p go l m o ≡ Err deep → (z : Place) × ChainFront between (Chain between first join P) F s z
  turn_deep go s l m None f c i e = absurd cc
  turn_deep go s l m (Some x) f c i e =
      elim (bind_deep (p x.1) (λ r. go (join x.0 l r.0) r.1) e) [
        | inl g ↦ (let d = is_deep x.1 g in (d.0, in_more c (steps m x.1 x.0 f) d.1))
        | inr b ↦ i (join x.0 l b.0.0) b.0.1 (more c (steps m x.1 x.0 f) (sound x.1 b.0.1 b.0.0 b.1)) b.2
      ]

  turns_deep : (n : ℕ) (s : Place) (l : S) (m : Place) → Chain between first join P s l m → chain_from step join p n l m ≡ Err deep → (z : Place) × ChainFront between (Chain between first join P) F s z
  unfolding chain_from
  turns_deep zero s l m c e = absurd cc
  turns_deep (suc n) s l m c e = turn_deep (chain_from step join p n) s l m (at step m) refl c (λ u o d f. turns_deep n s u o d f) e

  -- the same from what has come of it
  pub on_deep : (s : Place) (l : S) (m : Place) → Chain between first join P s l m → chain_on step join p l m ≡ Err deep → (z : Place) × ChainFront between (Chain between first join P) F s z
  unfolding chain_on
  on_deep s l m c e = turns_deep (length m.rest) s l m c e

  pub chain_deep : IsDeep (chain step first join p) (ChainFront between (Chain between first join P) F)
  unfolding chain chain_on
  chain_deep s e =
      elim (bind_deep (p s) (λ r. chain_from step join p (length r.1.rest) (first r.0) r.1) e) [
        | inl g ↦ (let d = is_deep s g in (d.0, in_one d.1))
        | inr b ↦ turns_deep (length b.0.1.rest) s (first b.0.0) b.0.1 (one (sound s b.0.1 b.0.0 b.1)) b.2
      ]

-- ---- each reader

int_not_deep : (b : Bool) (n : ℕ) (m : Place) → cond b (done (int (pos n)) m) (Err wrong) ≡ Err deep → ⊥
int_not_deep true n m e = let never : ⊥ = cc in never
int_not_deep false n m e = let never : ⊥ = cc in never

below_not_deep : (b : Bool) (n : ℕ) (m : Place) → cond b (done (int (negated n)) m) (Err wrong) ≡ Err deep → ⊥
below_not_deep true n m e = let never : ⊥ = cc in never
below_not_deep false n m e = let never : ⊥ = cc in never

negative_not_deep : (o : Option (ℕ × Place)) → negative_in o ≡ Err deep → ⊥
negative_not_deep None e = let never : ⊥ = cc in never
negative_not_deep (Some n) e = below_not_deep (fits_below n.0) n.0 n.1 e

constant_not_deep : (x : Sym) (m : Place) (o : Option (Sym × Place)) → constant_or x m o ≡ Err deep → ⊥
constant_not_deep x m None e = let never : ⊥ = cc in never
constant_not_deep x m (Some y) e = let never : ⊥ = cc in never

bare_not_deep : (b : Bool) (x : Sym) (m : Place) → cond b (Err wrong) (done (bare x.0) m) ≡ Err deep → ⊥
bare_not_deep true x m e = let never : ⊥ = cc in never
bare_not_deep false x m e = let never : ⊥ = cc in never

plain_not_deep : (b : Bool) (x : Sym) (m : Place) → cond b (done (local_tree x (variable_of x m) (told_behind m.rest)) m) (bare_call x m) ≡ Err deep → ⊥
plain_not_deep true x m e = let never : ⊥ = cc in never
plain_not_deep false x m e = bare_not_deep (begins_operands m.rest) x m e

-- what was read in a loop, at the place behind it
abbrev pub past_loop : Place → Answer Tree → Answer Tree
past_loop s r = r >>= λ x. Ok (x.0, outside_loop s x.1)

jump_not_deep : (a b : Bool) (j : Jump) (m : Place) → cond a (cond b (Err wrong) (done (jump_tree j nil) m)) (Err wrong) ≡ Err deep → ⊥
jump_not_deep true true j m e = let never : ⊥ = cc in never
jump_not_deep true false j m e = let never : ⊥ = cc in never
jump_not_deep false b j m e = let never : ⊥ = cc in never

passing_not_deep : (b : Bool) (p : Passing) (m : Place) → cond b (Err wrong) (done (passed_bare p) m) ≡ Err deep → ⊥
passing_not_deep true p m e = let never : ⊥ = cc in never
passing_not_deep false p m e = let never : ⊥ = cc in never

pub record NestedDeep (N : Readers) (F : Fronts) : Type 0 where
  pub part : (p : Part) → IsDeep (N.part p) (F.part p)
  pub bracketed : IsDeep N.bracketed F.bracketed
  pub ordered : (r : Tree) (x : Sym) → IsDeep (N.ordered r x) (F.ordered x)
  pub value : (b : Bool) → IsDeep (N.value b) (F.value b)
  pub values : IsDeep N.values F.values

abbrev taken_back : {A : Type 0} → Place → Answer A → Answer A
taken_back s r = r >>= λ x. Ok (x.0, taking_as s x.1)

taken_deep : {A : Type 0} (s : Place) (r : Answer A) → taken_back s r ≡ Err deep → r ≡ Err deep
taken_deep s (Ok x) e = absurd cc
taken_deep s (Err wrong) e = absurd cc
taken_deep s (Err deep) e = refl

pub taking_deep : {A : Type 0} (b : Bool) (p : Parse A) (F : Place → Place → Type 0) → IsDeep p F → IsDeep (taking_of b p) (TakingFront b F)
taking_deep b p F first s e = first (taking b s) (taken_deep s (p (taking b s)) e)

pub enclosed_deep : {A : Type 0} (b : Bool) (p : Parse A) (F : Place → Place → Type 0) → IsDeep p F → IsDeep (enclosed_of b p) (EnclosedFront b F)
enclosed_deep true p F first = taking_deep true p F first
enclosed_deep false p F first = first

module _ (N : Readers) (R : Nested) (F : Fronts) (sounds : NestedSound N R) (nests : NestedDeep N F) where
  behind_deep : (k : Fence) (c : Tree) (s : Place) → block_behind N k c s ≡ Err deep → (z : Place) × F.part (parts.Block k) s z
  behind_deep k c s e = nests.part (parts.Block k) s (built_deep (with_block c) (N.part (parts.Block k) s) e)

  blocked_or-deep : (q : Behind) (c : Tree) (s : Place) (o : Option (Fence × Place)) → opened q s ≡ o → blocked_or N c s o ≡ Err deep → (z : Place) × BlockedFront F q s z
  blocked_or-deep q c s None f e = absurd cc
  blocked_or-deep q c s (Some m) f e = let d = behind_deep m.0 c m.1 e in (d.0, in_block f d.1)

  blocked_deep : (q : Behind) (c : Tree) (s : Place) → blocked_of N q c s ≡ Err deep → (z : Place) × BlockedFront F q s z
  unfolding blocked_of
  blocked_deep q c s e = blocked_or-deep q c s (opened q s) refl e

  -- arguments, and the block behind them
  pub passed_deep : (q : Behind) (f : List Tree → Tree) (p : Parse (List Tree)) (P : Place → List Tree → Place → Type 0) (G : Place → Place → Type 0) → IsSound p P → IsDeep p G
      → (n : Place) → then_blocked N q (built f (p n)) ≡ Err deep → (z : Place) × PassedFront F q P G n z
  passed_deep q f p P G sound first n e =
      elim (bind_deep (built f (p n)) (λ c. blocked_of N q c.0 c.1) e) [
        | inl g ↦ (let d = first n (built_deep f (p n) g) in (d.0, in_passed d.1))
        | inr b ↦ (
            let k = built_ok f (p n) b.0.0 b.0.1 b.1 in
            let d = blocked_deep q b.0.0 b.0.1 b.2 in
            (d.0, in_its_block (sound n b.0.1 k.0 k.1) d.1)
            )
      ]

  call_deep : (f : List Tree → Tree) (n : Place) → then_blocked N behinds.Call (built f (N.bracketed n)) ≡ Err deep → (z : Place) × CallFront R F n z
  call_deep f n e = passed_deep behinds.Call f N.bracketed R.bracketed F.bracketed sounds.bracketed nests.bracketed n e

  unbracketed_or-deep : (s m : Place) (x : Sym) (o : Option (Fence × Place)) → at name s ≡ Some (x, m) → at bracket m ≡ None → opened behinds.Call m ≡ o → unbracketed_or N x m o ≡ Err deep → (z : Place) × PrimaryFront R F s z
  unbracketed_or-deep s m x None f g h e = absurd (plain_not_deep (is_local x m) x m e)
  unbracketed_or-deep s m x (Some b) f g h e = let d = behind_deep b.0 (call x.0 (listed [])) b.1 e in (d.0, in_block_call f g (in_block h d.1))

  name_or-deep : (s m : Place) (x : Sym) (o : Option (Unit {0} × Place)) → at name s ≡ Some (x, m) → at bracket m ≡ o → name_or N x m o ≡ Err deep → (z : Place) × PrimaryFront R F s z
  name_or-deep s m x None f g e = unbracketed_or-deep s m x (opened behinds.Call m) f g refl e
  name_or-deep s m x (Some b) f g e =
      let d = call_deep (λ l. call x.0 (listed l)) b.1 e in
      (d.0, in_call {u = b.0} f g d.1)

  name_deep : (s m : Place) (x : Sym) → at name s ≡ Some (x, m) → name_of N x m ≡ Err deep → (z : Place) × PrimaryFront R F s z
  unfolding name_of
  name_deep s m x f e = name_or-deep s m x (at bracket m) f refl e

  int_deep : (s m : Place) (n : ℕ) → int_at n m ≡ Err deep → (z : Place) × PrimaryFront R F s z
  unfolding int_at
  int_deep s m n e = absurd (int_not_deep (fits n) n m e)

  constant_deep : (s m : Place) (x : Sym) (outer : Naming) → constant_at x outer m ≡ Err deep → (z : Place) × PrimaryFront R F s z
  unfolding constant_at
  constant_deep s m x outer e = absurd (constant_not_deep x m (at (inner_constant outer) m) e)

  negative_deep : (s m : Place) → negative_of m ≡ Err deep → (z : Place) × PrimaryFront R F s z
  unfolding negative_of
  negative_deep s m e = absurd (negative_not_deep (at joined m) e)

  passing_or-deep : (s m : Place) (p : Passing) (o : Option (Unit {0} × Place)) → next s ≡ Some (kind.Passing p, m) → at bracket m ≡ o → passing_or N p m o ≡ Err deep → (z : Place) × PrimaryFront R F s z
  passing_or-deep s m p None f g e = absurd (passing_not_deep (begins_operands m.rest) p m e)
  passing_or-deep s m p (Some n) f g e = let d = nests.bracketed n.1 (built_deep (λ l. passed p (listed l)) (N.bracketed n.1) e) in (d.0, in_passing {u = n.0} f g d.1)

  passing_test : (s m : Place) (p : Passing) (b : Bool) → next s ≡ Some (kind.Passing p, m) → cond b (passing_or N p m (at bracket m)) (Err wrong) ≡ Err deep → (z : Place) × PrimaryFront R F s z
  passing_test s m p true f e = passing_or-deep s m p (at bracket m) f refl e
  passing_test s m p false f e = absurd cc

  passing_deep : (s m : Place) (p : Passing) → next s ≡ Some (kind.Passing p, m) → passing_of N p m ≡ Err deep → (z : Place) × PrimaryFront R F s z
  unfolding passing_of
  passing_deep s m p f e = passing_test s m p m.known.in_method f e

  begun_deep : (s : Place) (k : WordKind) (m : Place) (l : Option Tree) (c : Option Part) → next s ≡ Some (k, m) → construct_of k ≡ c → begun N l c m ≡ Err deep → (z : Place) × PrimaryFront R F s z
  begun_deep s k m (Some u) c f h e = absurd cc
  begun_deep s k m None (Some p) f h e = let d = nests.part p m e in (d.0, in_construct f h d.1)
  begun_deep s k m None None f h e = absurd cc

  primary_at-deep : (s : Place) (k : WordKind) (m : Place) → next s ≡ Some (k, m) → primary_at N k m ≡ Err deep → (z : Place) × PrimaryFront R F s z
  primary_at-deep s (kind.Int n) m f e = int_deep s m n e
  primary_at-deep s (kind.Name x b) m f e = name_deep s m x (next-name s m x b f) e
  primary_at-deep s (kind.Constant x outer) m f e = constant_deep s m x outer e
  primary_at-deep s kind.Minus m f e = negative_deep s m e
  primary_at-deep s (kind.Jump j) m f e = absurd (jump_not_deep (is_allowed j m.known) (begins_arguments m.rest) j m e)
  primary_at-deep s (kind.Passing p) m f e = passing_deep s m p f e
  primary_at-deep s k m f e = begun_deep s k m (literal_of k) (construct_of k) f refl e

  primary_in-deep : (s : Place) (r : Option (WordKind × Place)) → next s ≡ r → primary_in N r ≡ Err deep → (z : Place) × PrimaryFront R F s z
  primary_in-deep s None f e = absurd cc
  primary_in-deep s (Some k) f e = primary_at-deep s k.0 k.1 f e

  primary_deep : IsDeep (primary_of N) (PrimaryFront R F)
  unfolding primary_of
  primary_deep s e = primary_in-deep s (next s) refl e

  sent_deep : (x : Sym) (l : Reached) (n : Place) (o : Option (Fence × Place)) → opened behinds.Call n ≡ o → sent_or N l.tree x n o ≡ Err deep → (z : Place) × BlockedFront F behinds.Call n z
  sent_deep x l n None f e = absurd cc
  sent_deep x l n (Some m) f e =
      let c = send l.tree x.0 (listed []) in
      let d = behind_deep m.0 c m.1 (built_deep plain (block_behind N m.0 c m.1) e) in
      (d.0, in_block f d.1)

  tailed_deep : (x : Tail) (l : Reached) (n : Place) → tailed_of N x l n ≡ Err deep → (z : Place) × TailedFront R F x l n z
  unfolding sent_of sent_call_of element_of
  tailed_deep (tails.Send x) l n e = sent_deep x l n (opened behinds.Call n) refl e
  tailed_deep (tails.Call x) l n e = call_deep (λ q. send l.tree x.0 (listed q)) n (built_deep plain (sent_call_of N l.tree x n) e)
  tailed_deep tails.Index l n e = nests.part parts.Index n (built_deep (at_element l.tree) (N.part parts.Index n) e)

  pub postfix_deep : IsDeep (postfix_of N) (PostfixFront R F)
  unfolding postfix_of
  postfix_deep =
      from_deep (plainly (primary_of N)) (trail_on tail (tailed_of N)) (Plain (Primary R)) (PostfixFront R F) (plain_primary_sound N R sounds)
      (trail_deep tail tail (λ m n x e. e) (tailed_of N) (Plain (Primary R)) (Tailed R) (tailed_sound N R sounds) (PrimaryFront R F) (TailedFront R F) tailed_deep (λ r f e. bind_deep r f e))
      (λ s e. let d = primary_deep s (built_deep plain (primary_of N s) e) in (d.0, in_head d.1))

  bang_or-deep : (s : Place) (o : Option (Unit {0} × Place)) → at (word kind.Bang) s ≡ o → bang_or N s o ≡ Err deep → (z : Place) × BangFront R F s z
  bang_or-deep s None f e = let d = postfix_deep s (built_deep tree_reached (postfix_of N s) e) in (d.0, behind_no_bang d.1)
  bang_or-deep s (Some m) f e =
      let d = nests.part parts.Bang m.1 (built_deep logical_not (N.part parts.Bang m.1) e) in
      (d.0, in_bang (word-next kind.Bang told_bang s m.1 m.0 f) d.1)

  pub bang_deep : IsDeep (bang_of N) (BangFront R F)
  unfolding bang_of
  bang_deep s e = bang_or-deep s (at (word kind.Bang) s) refl e

  minus_or-deep : (s : Place) (o : Option (Unit {0} × Place)) → at prefix_minus s ≡ o → minus_or N s o ≡ Err deep → (z : Place) × MinusFront R F s z
  minus_or-deep s None f e = let d = bang_deep s e in (d.0, behind_no_minus d.1)
  minus_or-deep s (Some m) f e =
      let d = nests.part parts.Minus m.1 (built_deep negate (N.part parts.Minus m.1) e) in
      let k = prefix-next s m.1 m.0 f in
      (d.0, in_minus k.0 k.1 d.1)

  pub minus_deep : IsDeep (minus_of N) (MinusFront R F)
  unfolding minus_of
  minus_deep s e = minus_or-deep s (at prefix_minus s) refl e

  -- ---- operators

  -- where the first operand is too deep, so is what it is the first of
  binary_front : (level : ℕ) (s z : Place) → MinusFront R F s z → BinaryFront R F level s z
  binary_front zero s z f = f
  binary_front (suc level) s z f = in_one (binary_front level s z f)

  pub logical_front : (level : ℕ) (s z : Place) → MinusFront R F s z → LogicalFront R F level s z
  logical_front zero s z f = in_former (binary_front 4 s z f)
  logical_front (suc level) s z f = in_one (logical_front level s z f)

  front_first : (G : Place → Place → Type 0) → ((s z : Place) → MinusFront R F s z → G s z) → IsDeep (minus_of N) G
  front_first G front s e = let d = minus_deep s e in (d.0, front s d.0 d.1)

  binary_deep_on : (level : ℕ) → IsDeepOn (binary_on N level) (Minus R) (BinaryFront R F level)
  unfolding binary_on
  binary_deep_on zero s m l h e = absurd cc
  binary_deep_on (suc level) s m l h e =
      let p = binary_of N level in
      let is_deep = from_deep (minus_of N) (binary_on N level) (Minus R) (BinaryFront R F level) (minus_sound N R sounds) (binary_deep_on level) (front_first (BinaryFront R F level) (binary_front level)) in
      elim (bind_deep (binary_on N level l m) (λ x. chain_on (operator (suc level)) infixed p x.0 x.1) e) [
        | inl g ↦ (let d = binary_deep_on level s m l h g in (d.0, in_one d.1))
        | inr b ↦ on_deep (operator (suc level)) (operator (suc level)) same infixed p (Binary R level) (BinaryFront R F level) (λ m n x e. e) (binary_sound N R sounds level) is_deep
            s b.0.0 b.0.1 (one (binary_sound_on N R sounds level s m b.0.1 l b.0.0 h b.1)) b.2
      ]

  binary_deep : (level : ℕ) → IsDeep (binary_of N level) (BinaryFront R F level)
  binary_deep level = from_deep (minus_of N) (binary_on N level) (Minus R) (BinaryFront R F level) (minus_sound N R sounds) (binary_deep_on level) (front_first (BinaryFront R F level) (binary_front level))

  pair_or-deep : (s m : Place) (l : Tree) (o : Option (Infix × Place)) → Binary R 4 s l m → at (operator 5) m ≡ o → pair_or N l m o ≡ Err deep → (z : Place) × EqualityFront R F s z
  pair_or-deep s m l None h f e = absurd cc
  pair_or-deep s m l (Some o) h f e = let d = binary_deep 4 o.1 (built_deep (infixed o.0 l) (binary_of N 4 o.1) e) in (d.0, in_latter h f d.1)

  equality_deep_on : IsDeepOn (equality_on N) (Minus R) (EqualityFront R F)
  unfolding equality_on
  equality_deep_on s m l h e =
      elim (bind_deep (binary_on N 4 l m) (λ x. pair_or N x.0 x.1 (at (operator 5) x.1)) e) [
        | inl g ↦ (let d = binary_deep_on 4 s m l h g in (d.0, in_former d.1))
        | inr b ↦ pair_or-deep s b.0.1 b.0.0 (at (operator 5) b.0.1) (binary_sound_on N R sounds 4 s m b.0.1 l b.0.0 h b.1) refl b.2
      ]

  logical_deep_on : (level : ℕ) → IsDeepOn (logical_on N level) (Minus R) (LogicalFront R F level)
  unfolding logical_on
  logical_deep_on zero = equality_deep_on
  logical_deep_on (suc level) = λ s m l h e.
      let p = logical_of N level in
      let is_deep = from_deep (minus_of N) (logical_on N level) (Minus R) (LogicalFront R F level) (minus_sound N R sounds) (logical_deep_on level) (front_first (LogicalFront R F level) (logical_front level)) in
      elim (bind_deep (logical_on N level l m) (λ x. chain_on (connective (suc level)) joined_by p x.0 x.1) e) [
        | inl g ↦ (let d = logical_deep_on level s m l h g in (d.0, in_one d.1))
        | inr b ↦ on_deep (connective (suc level)) (connective (suc level)) same joined_by p (Logical R level) (LogicalFront R F level) (λ m n x e. e) (logical_sound N R sounds level) is_deep
            s b.0.0 b.0.1 (one (logical_sound_on N R sounds level s m b.0.1 l b.0.0 h b.1)) b.2
      ]

  question_or-deep : (s m : Place) (c : Tree) (o : Option (Unit {0} × Place)) → Logical R 2 s c m → at (word kind.Question) m ≡ o → question_or N c m o ≡ Err deep → (z : Place) × TernaryFront R F s z
  question_or-deep s m c None h f e = absurd cc
  question_or-deep s m c (Some q) h f e =
      let d = across_deep (choose c) (word kind.Colon) (N.part parts.Branch) (N.part parts.Branch q.1) q.1 (R.part parts.Branch) (F.part parts.Branch) (F.part parts.Branch)
      (λ a n g. sounds.part parts.Branch q.1 n a g) (λ g. nests.part parts.Branch q.1 g) (nests.part parts.Branch) e in
      (d.0, in_latter {x = q.0} h f d.1)

  ternary_deep_on : IsDeepOn (ternary_on N) (Minus R) (TernaryFront R F)
  unfolding ternary_on
  ternary_deep_on s m l h e =
      elim (bind_deep (logical_on N 2 l m) (λ x. question_or N x.0 x.1 (at (word kind.Question) x.1)) e) [
        | inl g ↦ (let d = logical_deep_on 2 s m l h g in (d.0, in_former d.1))
        | inr b ↦ question_or-deep s b.0.1 b.0.0 (at (word kind.Question) b.0.1) (logical_sound_on N R sounds 2 s m b.0.1 l b.0.0 h b.1) refl b.2
      ]

  pub ternary_deep : IsDeep (ternary_of N) (TernaryFront R F)
  ternary_deep = from_deep (minus_of N) (ternary_on N) (Minus R) (TernaryFront R F) (minus_sound N R sounds) ternary_deep_on (front_first (TernaryFront R F) (λ s z f. in_former (logical_front 2 s z f)))

  -- ---- assignments to an element or an attribute

  setting_or-deep : (b : Bool) (s m : Place) (r : Reached) (p : Spot) (o : Option (Sign × Place)) → Postfix R s r m → r.spot ≡ Some p → at sign m ≡ o → setting_or N b r.tree p m o ≡ Err deep → (z : Place) × SettledFront R F b s z
  setting_or-deep b s m r p None h f g e = let d = ternary_deep_on s m r.tree (no_minus (no_bang h)) e in (d.0, in_no_setting d.1)
  setting_or-deep b s m r p (Some q) h f g e = let d = nests.value b q.1 (built_deep (settled q.0 p r.tree) (N.value b q.1) e) in (d.0, in_setting h f g d.1)

  spot_or-deep : (b : Bool) (s m : Place) (r : Reached) (o : Option Spot) → Postfix R s r m → r.spot ≡ o → spot_or N b r.tree o m ≡ Err deep → (z : Place) × SettledFront R F b s z
  unfolding setting_of
  spot_or-deep b s m r None h f e = let d = ternary_deep_on s m r.tree (no_minus (no_bang h)) e in (d.0, in_no_setting d.1)
  spot_or-deep b s m r (Some p) h f e = setting_or-deep b s m r p (at sign m) h f refl e

  pub reached_deep : (b : Bool) → IsDeepOn (reached_on N b) (Postfix R) (SettledFront R F b)
  reached_deep b s m r h e = spot_or-deep b s m r r.spot h refl e

  -- what goes on from an operand, or an operand with a word before it
  module _ (on : Reached → Parse Tree) (G : Place → Place → Type 0) (deep_on : IsDeepOn on (Postfix R) G) (in_operand : (s z : Place) → TernaryFront R F s z → G s z) where
    in_first : IsDeep (postfix_of N) G
    in_first s e = let d = postfix_deep s e in (d.0, in_operand s d.0 (in_former (logical_front 2 s d.0 (behind_no_minus (behind_no_bang d.1)))))

    behind_bang-deep : (s : Place) (o : Option (Unit {0} × Place)) → behind_bang N on s o ≡ Err deep → (z : Place) × G s z
    behind_bang-deep s None e = from_deep (postfix_of N) on (Postfix R) G (postfix_sound N R sounds) deep_on in_first s e
    behind_bang-deep s (Some m) e = let d = ternary_deep s e in (d.0, in_operand s d.0 d.1)

    behind_minus-deep : (s : Place) (o : Option (Unit {0} × Place)) → behind_minus N on s o ≡ Err deep → (z : Place) × G s z
    behind_minus-deep s None e = behind_bang-deep s (at (word kind.Bang) s) e
    behind_minus-deep s (Some m) e = let d = ternary_deep s e in (d.0, in_operand s d.0 d.1)

    pub settled_by-deep : IsDeep (settled_by N on) G
    unfolding settled_by
    settled_by-deep s e = behind_minus-deep s (at prefix_minus s) e

  pub settled_deep : IsDeep (settled_of N) (SettledFront R F false)
  settled_deep = settled_by-deep (reached_on N false) (SettledFront R F false) (reached_deep false) (λ s z f. in_no_setting f)
