-- What is read of assignments, arguments and commands is spelled.
use Rattle.rr_parser.specs.declared.word.Sign.{Sign}
use Rattle.std.proofs.Common.{◌≡◌, Bool, true, false, List, Option, Some, None, Ok, refl, sym, ap, ◌∙◌, subst, [], cond, Err}
use Rattle.rr_base.specs.declared.name.Sym.{Sym}
use Rattle.rr_tree.specs.Tree.{Tree, array, hash, splat, pair, symbol, listed, send}
use Rattle.rr_parser.specs.declared.word.Aim.{Aim}
use Rattle.rr_parser.specs.declared.word.Behind.TheVariants as behinds
use Rattle.rr_parser.specs.declared.word.Head.{Head}
use Rattle.rr_parser.specs.declared.word.Listed.{Listed}
use Rattle.rr_parser.specs.declared.word.Listed.TheVariants as listings
use Rattle.rr_parser.specs.declared.word.Part.TheVariants as parts
use Rattle.rr_parser.specs.declared.word.WordKind.TheVariants as kind
use Rattle.rr_parser.specs.Places.{Place, word, at}
use Rattle.rr_parser.specs.Grammar.Chains.{Chain, one, one_of, and_one}
use Rattle.rr_parser.specs.Grammar.Nesting.{Nested}
use Rattle.rr_parser.specs.Grammar.Names.{told_behind, one_value, headed, command}
use Rattle.rr_parser.specs.Grammar.Operands.{Blocked, Reached, Spot, Postfix, no_minus, no_bang, order}
use Rattle.rr_parser.specs.Grammar.Operators.{Ternary}
use Rattle.rr_parser.specs.Grammar.Calls.{is_settable, target, with_target, target_tree, target_variable, assigned_to, label, comma, closing, last, Assigned, an_assignment, no_assignment, Argument, by_label, by_arrow, star, a_splat, a_plain_item, Member, Members, Bracketed, no_members, some_members, Array, an_array, Hash, a_hash, Index, of_element, Commanded, by_arguments, by_command, by_order, Command, a_command, Phrase, by_name, an_operand, Operand, Value, Settled, a_setting, no_setting, settled, sign, Ordered, an_order, by_receiver, Arguments, Adding, adding, AddingTo, Given, Listing, a_pair_member, an_item, entry, contents, item, nothing, only_pairs, with_member}
use Rattle.rr_parser.specs.declared.word.Target.{Target}
use Rattle.rr_parser.specs.Grammar.Several.{Targeted, a_target, Targets, Rights, by_values, by_named, by_sent, a_spot}
use Rattle.rr_parser.specs.Grammar.Fences.{within_head}
use Rattle.rr_parser.specs.Reading.Answers.{◌>>=◌, wrong, Answer, Parse, built, ended_by, trail_on}
use Rattle.rr_parser.specs.Reading.Nesting.{Readers}
use Rattle.rr_parser.specs.Reading.Operands.{blocked_of, prefix_minus, postfix_of, then_blocked}
use Rattle.rr_parser.specs.Reading.Calls.{assigned_or, assigned_of, argument_of, member_of, another, members_of, bracketed_or, bracketed_of, array_of, hash_of, index_of, commanded_or, commanded_of, arguments_of, headed_of, command_or, command_of, phrase_or, phrase_of, operand_of, value_of, behind_bang, behind_minus, setting_of, settled_of, setting_or, spot_or, reached_on, settled_by, ordered_of, order_or, order_on, adding_of, adding_to, arrow_or, key_on, label_or, listed_of, lone, star_or, star_unless, unlabeled_of, is_prefixed, is_introduced, listed_on, receiver_or, commanded_on, commanded_at}
use Rattle.rr_parser.specs.Reading.Several.{targeted_or, targeted_of, targets_of, values_on, right_on, sent_or_right, receiver_on, rights_at, rights_or, rights_of, spot_target, reached_target, lone_target, word_target}
use Rattle.rr_parser.proofs.Told.{told_arrow, told_star, told_close_square}
use Rattle.rr_parser.proofs.Looks.{word-next, lone-target}
use Rattle.rr_parser.proofs.Listing.{another-comma}
use Rattle.rr_parser.proofs.Introduced.{listed_from}
use Rattle.rr_parser.proofs.Chains.{done, chain_on-sound, bind_ok, built_ok, closed_ok, at_answer, IsSound, chain_sound, from_sound, IsSoundOn}
use Rattle.rr_parser.proofs.SoundOperands.{NestedSound, taking_sound, blocked_sound, ternary_sound, ternary_sound_on, postfix_sound}
use Rattle.rr_parser.specs.declared.word.Head.TheVariants as heads
use Rattle.rr_parser.proofs.Trails.{trail_sound}

module _ (N : Readers) (R : Nested) (nests : NestedSound N R) where
  -- ---- assignments and calls

  assigned_or-sound : (commands : Bool) (q : Parse Tree) (Q : Place → Tree → Place → Type 0) → IsSound q Q
      → (s : Place) (o : Option (Aim × Place)) (z : Place) (t : Tree) → at target s ≡ o → assigned_or N commands q s o ≡ Ok (t, z) → Assigned R commands Q s t z
  assigned_or-sound commands q Q sound s None z t f e = no_assignment (sound s z t e)
  assigned_or-sound commands q Q sound s (Some x) z t f e = by_test (is_settable x.0.target x.1.known) refl e
    where
      by_test : (b : Bool) → is_settable x.0.target x.1.known ≡ b → cond b (built (assigned_to x.0 (with_target x.0.target x.1)) (N.value commands (with_target x.0.target x.1))) (Err wrong) ≡ Ok (t, z) → Assigned R commands Q s t z
      by_test true g h =
          let b = built_ok (assigned_to x.0 (with_target x.0.target x.1)) (N.value commands (with_target x.0.target x.1)) t z h in
          subst (λ (q : Tree). Assigned R commands Q s q z) (sym b.2) (an_assignment f g (nests.value commands (with_target x.0.target x.1) z b.0 b.1))
      by_test false g h = absurd cc

  assigned_sound : (commands : Bool) (q : Parse Tree) (Q : Place → Tree → Place → Type 0) → IsSound q Q → IsSound (assigned_of N commands q) (Assigned R commands Q)
  unfolding assigned_of
  assigned_sound commands q Q sound s z t e = assigned_or-sound commands q Q sound s (at target s) z t refl e

  setting_or-sound : (b : Bool) (s m : Place) (r : Reached) (p : Spot) (o : Option (Sign × Place)) (z : Place) (t : Tree) → Postfix R s r m → r.spot ≡ Some p → at sign m ≡ o → setting_or N b r.tree p m o ≡ Ok (t, z) → Settled R b s t z
  setting_or-sound b s m r p None z t h f g e = no_setting ((ternary_sound_on N R nests) s m z r.tree t (no_minus (no_bang h)) e)
  setting_or-sound b s m r p (Some q) z t h f g e =
      let v = built_ok (settled q.0 p r.tree) (N.value b q.1) t z e in
      subst (λ (x : Tree). Settled R b s x z) (sym v.2) (a_setting h f g (nests.value b q.1 z v.0 v.1))

  spot_or-sound : (b : Bool) (s m : Place) (r : Reached) (o : Option Spot) (z : Place) (t : Tree) → Postfix R s r m → r.spot ≡ o → spot_or N b r.tree o m ≡ Ok (t, z) → Settled R b s t z
  unfolding setting_of
  spot_or-sound b s m r None z t h f e = no_setting ((ternary_sound_on N R nests) s m z r.tree t (no_minus (no_bang h)) e)
  spot_or-sound b s m r (Some p) z t h f e = setting_or-sound b s m r p (at sign m) z t h f refl e

  pub reached_sound : (b : Bool) → IsSoundOn (reached_on N b) (Postfix R) (Settled R b)
  reached_sound b s m z r t h e = spot_or-sound b s m r r.spot z t h refl e

  -- what goes on from an operand, or an operand with a word before it
  module _ (on : Reached → Parse Tree) (Q : Place → Tree → Place → Type 0) (sound_on : IsSoundOn on (Postfix R) Q) (as_operand : (s z : Place) (t : Tree) → Ternary R s t z → Q s t z) where
    behind_bang-sound : (s : Place) (o : Option (Unit {0} × Place)) (z : Place) (t : Tree) → behind_bang N on s o ≡ Ok (t, z) → Q s t z
    behind_bang-sound s None z t e = from_sound (postfix_of N) on (Postfix R) Q (postfix_sound N R nests) sound_on s z t e
    behind_bang-sound s (Some m) z t e = as_operand s z t ((ternary_sound N R nests) s z t e)

    behind_minus-sound : (s : Place) (o : Option (Unit {0} × Place)) (z : Place) (t : Tree) → behind_minus N on s o ≡ Ok (t, z) → Q s t z
    behind_minus-sound s None z t e = behind_bang-sound s (at (word kind.Bang) s) z t e
    behind_minus-sound s (Some m) z t e = as_operand s z t ((ternary_sound N R nests) s z t e)

    settled_by-sound : IsSound (settled_by N on) Q
    unfolding settled_by
    settled_by-sound s z t e = behind_minus-sound s (at prefix_minus s) z t e

  settled_sound : IsSound (settled_of N) (Settled R false)
  settled_sound = settled_by-sound (reached_on N false) (Settled R false) (reached_sound false) (λ s z t h. no_setting h)

  pub argument_sound : IsSound (argument_of N) (Argument R)
  argument_sound = assigned_sound false (settled_of N) (Settled R false) settled_sound

  lone-sound : (only : Bool) (s m z : Place) (t : Tree) (r : Member) → Argument R s t m → lone only t m ≡ Ok (r, z) → Listing R only s r z
  lone-sound true s m z t r h e = absurd cc
  lone-sound false s m z t r h e = at_answer (Listing R false s) (item t) r m z e (an_item refl (a_plain_item h))

  arrow_or-sound : (only : Bool) (s m : Place) (t : Tree) (o : Option (Unit {0} × Place)) (z : Place) (r : Member) → Argument R s t m → at (word kind.Arrow) m ≡ o → arrow_or N only t m o ≡ Ok (r, z) → Listing R only s r z
  arrow_or-sound only s m t None z r h f e = lone-sound only s m z t r h e
  arrow_or-sound only s m t (Some n) z r h f e =
      let b = built_ok (λ v. entry (pair t v)) (argument_of N n.1) r z e in
      subst (λ (q : Member). Listing R only s q z) (sym b.2) (a_pair_member (by_arrow h (word-next kind.Arrow told_arrow m n.1 n.0 f) (argument_sound n.1 z b.0 b.1)))

  key_sound : (only : Bool) → IsSoundOn (key_on N only) (Argument R) (Listing R only)
  unfolding key_on
  key_sound only s m z t r h e = arrow_or-sound only s m t (at (word kind.Arrow) m) z r h refl e

  star_or-sound : (only : Bool) (s : Place) (o : Option (Unit {0} × Place)) (z : Place) (r : Member) → at (star_unless only) s ≡ o → star_or N only s o ≡ Ok (r, z) → Listing R only s r z
  star_or-sound only s None z r f e = from_sound (argument_of N) (key_on N only) (Argument R) (Listing R only) argument_sound (key_sound only) s z r e
  star_or-sound true s (Some m) z r f e = absurd cc
  star_or-sound false s (Some m) z r f e =
      let b = built_ok (λ t. item (splat t)) (argument_of N m.1) r z e in
      subst (λ (q : Member). Listing R false s q z) (sym b.2) (an_item refl (a_splat (word-next star told_star s m.1 m.0 f) (argument_sound m.1 z b.0 b.1)))

  unlabeled_sound : (only : Bool) → IsSound (unlabeled_of N only) (Listing R only)
  unfolding unlabeled_of
  unlabeled_sound only s z r e = star_or-sound only s (at (star_unless only) s) z r refl e

  label_or-sound : (only : Bool) (s : Place) (o : Option (Sym × Place)) (z : Place) (r : Member) → at label s ≡ o → label_or N only s o ≡ Ok (r, z) → Listing R only s r z
  label_or-sound only s None z r f e = unlabeled_sound only s z r e
  label_or-sound only s (Some x) z r f e =
      let b = built_ok (λ t. entry (pair (symbol x.0.0) t)) (argument_of N x.1) r z e in
      subst (λ (q : Member). Listing R only s q z) (sym b.2) (a_pair_member (by_label f (argument_sound x.1 z b.0 b.1)))

  member_sound : (only : Bool) → IsSound (member_of N only) (Listing R only)
  unfolding member_of
  member_sound only s z r e = label_or-sound only s (at label s) z r refl e

  pub adding_sound : (k : Listed) (g : Given) → IsSound (adding_of N k g) (Adding R k g)
  unfolding adding_of
  adding_sound k g s z t e =
      let b = built_ok (with_member g) (member_of N (only_pairs k g) s) t z e in
      subst (λ (q : Given). Adding R k g s q z) (sym b.2) (adding (member_sound (only_pairs k g) s z b.0 b.1))

  pub members_sound : (k : Listed) → IsSound (members_of N k) (Members R k)
  unfolding members_of
  members_sound k =
      from_sound (adding_of N k nothing) (trail_on (another k) (adding_to N k)) (Adding R k nothing) (Members R k) (adding_sound k nothing)
      (trail_sound comma (another k) (λ m n x e. another-comma k m n x e) (adding_to N k) (Adding R k nothing) (AddingTo R k) (λ x g n z t e. adding_sound k g n z t e))

  pub listed_sound : (k : Listed) (s z : Place) (l : List Tree) → listed_of N k s ≡ Ok (l, z) → (g : Given) × Members R k s g z × (l ≡ contents k g)
  unfolding listed_of
  listed_sound k s z l e = let b = built_ok (contents k) (members_of N k s) l z e in (b.0, members_sound k s z b.0 b.1, b.2)

  ended_sound : (k : Listed) (s m : Place) (g : Given) (o : Option (Unit {0} × Place)) (z : Place) (t : List Tree) → Members R k s g m → at (last k) m ≡ o → ended_by (contents k g) o ≡ Ok (t, z) → Bracketed R k s t z
  ended_sound k s m g None z t h f e = absurd cc
  ended_sound k s m g (Some x) z t h f e = at_answer (Bracketed R k s) (contents k g) t x.1 z e (some_members {u = x.0} h f)

  bracketed_or-sound : (k : Listed) (s z : Place) (l : List Tree) (o : Option (Unit {0} × Place)) → at (closing k) s ≡ o → bracketed_or N k s o ≡ Ok (l, z) → Bracketed R k s l z
  bracketed_or-sound k s z l None f e =
      let b = bind_ok (listed_of N k s) (λ q. ended_by q.0 (at (last k) q.1)) (l, z) e in
      let c = listed_sound k s b.0.1 b.0.0 b.1 in
      ended_sound k s b.0.1 c.0 (at (last k) b.0.1) z l c.1 refl (subst (λ (q : List Tree). ended_by q (at (last k) b.0.1) ≡ Ok (l, z)) c.2 b.2)
  bracketed_or-sound k s z l (Some x) f e = at_answer (Bracketed R k s) [] l x.1 z e (no_members {u = x.0} f)

  pub bracketed_sound : (k : Listed) → IsSound (bracketed_of N k) (Bracketed R k)
  unfolding bracketed_of
  bracketed_sound k s z l e = bracketed_or-sound k s z l (at (closing k) s) refl e

  pub array_sound : IsSound (array_of N) (Array R)
  unfolding array_of
  array_sound s z t e = let b = built_ok (λ l. array (listed l)) (bracketed_of N listings.Array s) t z e in subst (λ (q : Tree). Array R s q z) (sym b.2) (an_array (bracketed_sound listings.Array s z b.0 b.1))

  pub hash_sound : IsSound (hash_of N) (Hash R)
  unfolding hash_of
  hash_sound s z t e = let b = built_ok (λ l. hash (listed l)) (bracketed_of N listings.Hash s) t z e in subst (λ (q : Tree). Hash R s q z) (sym b.2) (a_hash (bracketed_sound listings.Hash s z b.0 b.1))

  pub index_sound : IsSound (index_of N) (Index R)
  unfolding index_of
  index_sound s z t e = let c = closed_ok kind.CloseSquare told_close_square (argument_of N s) z t e in of_element (argument_sound s c.0 t c.1) c.2

  arguments_sound : (s z : Place) (l : List Tree) → listed_of N listings.Command s ≡ Ok (l, z) → Commanded R s l z
  arguments_sound s z l e = let c = listed_sound listings.Command s z l e in subst (λ (q : List Tree). Commanded R s q z) (sym c.2) (by_arguments c.1)

  receiver_or-sound : (s m z : Place) (r : Reached) (l : List Tree) (o : Option (Sym × Place)) → is_introduced s.rest ≡ false → postfix_of N s ≡ Ok (r, m) → at order m ≡ o → receiver_or N r m o ≡ Ok (l, z) → Commanded R s l z
  receiver_or-sound s m z r l None plain p f e = arguments_sound s z l (listed_from N s plain ∙ ap (λ (q : Answer Reached). q >>= λ x. listed_on N x.0 x.1) p ∙ e)
  receiver_or-sound s m z r l (Some x) plain p f e =
      let b = built_ok one_of (N.ordered r.tree x.0 x.1) l z e in
      subst (λ (q : List Tree). Commanded R s q z) (sym b.2) (by_order ((postfix_sound N R nests) s m r p) f (nests.ordered r.tree x.0 x.1 z b.0 b.1))

  commanded_at-sound : (b : Bool) (s z : Place) (l : List Tree) → is_introduced s.rest ≡ b → commanded_at N b s ≡ Ok (l, z) → Commanded R s l z
  unfolding commanded_on
  commanded_at-sound true s z l f e = arguments_sound s z l e
  commanded_at-sound false s z l f e =
      let b = bind_ok (postfix_of N s) (λ x. commanded_on N x.0 x.1) (l, z) e in
      receiver_or-sound s b.0.1 z b.0.0 l (at order b.0.1) f b.1 refl b.2

  commanded_or-sound : (s z : Place) (l : List Tree) (o : Option (Head × Place)) → at (command s.known) s ≡ o → commanded_or N s o ≡ Ok (l, z) → Commanded R s l z
  commanded_or-sound s z l None f e = commanded_at-sound (is_introduced s.rest) s z l refl e
  commanded_or-sound s z l (Some x) f e =
      let b = built_ok one_of (N.part parts.Command s) l z e in
      subst (λ (q : List Tree). Commanded R s q z) (sym b.2) (by_command f (nests.part parts.Command s z b.0 b.1))

  pub commanded_sound : IsSound (commanded_of N) (Commanded R)
  unfolding commanded_of
  commanded_sound s z l e = commanded_or-sound s z l (at (command s.known) s) refl e

  -- the arguments of a command, and what stands behind them
  given_sound : (x : Head) (f : List Tree → Tree) (m z : Place) (t : Tree) → then_blocked N (behinds.Command x) (built f (arguments_of N x m)) ≡ Ok (t, z) → (l : List Tree) × (o : Place) × Arguments R x m l o × Blocked R (behinds.Command x) (f l) o t z
  given_sound x f m z t e =
      let c = bind_ok (built f (arguments_of N x m)) (λ c. blocked_of N (behinds.Command x) c.0 c.1) (t, z) e in
      let b = built_ok f (arguments_of N x m) c.0.0 c.0.1 c.1 in (
        b.0,
        c.0.1,
        taking_sound (within_head x m.known.takes_do) (commanded_of N) (Commanded R) commanded_sound m c.0.1 b.0 b.1,
        subst (λ (q : Tree). Blocked R (behinds.Command x) q c.0.1 t z) b.2 ((blocked_sound N R nests) (behinds.Command x) c.0.0 c.0.1 z t c.2),
      )

  called_sound : (s : Place) (x : Head × Place) (z : Place) (t : Tree) → at (command s.known) s ≡ Some (x.0, x.1) → headed_of N x.0 x.1 ≡ Ok (t, z) → Command R s t z
  unfolding headed_of
  called_sound s x z t f e = let p = given_sound x.0 (headed x.0) x.1 z t e in a_command f p.2 p.3

  command_or-sound : (s : Place) (o : Option (Head × Place)) (z : Place) (t : Tree) → at (command s.known) s ≡ o → command_or N o ≡ Ok (t, z) → Command R s t z
  command_or-sound s None z t f e = absurd cc
  command_or-sound s (Some x) z t f e = called_sound s x z t f e

  pub command_sound : IsSound (command_of N) (Command R)
  unfolding command_of
  command_sound s z t e = command_or-sound s (at (command s.known) s) z t refl e

  pub ordered_sound : (r : Tree) (x : Sym) → IsSound (ordered_of N r x) (Ordered R r x)
  unfolding ordered_of
  ordered_sound r x m z t e = let p = given_sound (heads.Call x) (λ l. send r x.0 (listed l)) m z t e in an_order p.2 p.3

  order_or-sound : (s m : Place) (r : Reached) (o : Option (Sym × Place)) (z : Place) (t : Tree) → Postfix R s r m → at order m ≡ o → order_or N r m o ≡ Ok (t, z) → Phrase R s t z
  order_or-sound s m r None z t h f e = an_operand (reached_sound true s m z r t h e)
  order_or-sound s m r (Some x) z t h f e = by_receiver h f (ordered_sound r.tree x.0 x.1 z t e)

  order_sound : IsSoundOn (order_on N) (Postfix R) (Phrase R)
  unfolding order_on
  order_sound s m z r t h e = order_or-sound s m r (at order m) z t h refl e

  phrase_or-sound : (s : Place) (o : Option (Head × Place)) (z : Place) (t : Tree) → at (command s.known) s ≡ o → phrase_or N s o ≡ Ok (t, z) → Phrase R s t z
  phrase_or-sound s None z t f e = settled_by-sound (order_on N) (Phrase R) order_sound (λ s z t h. an_operand (no_setting h)) s z t e
  phrase_or-sound s (Some x) z t f e = by_name (called_sound s x z t f e)

  phrase_sound : IsSound (phrase_of N) (Phrase R)
  unfolding phrase_of
  phrase_sound s z t e = phrase_or-sound s (at (command s.known) s) z t refl e

  operand_sound : (b : Bool) → IsSound (operand_of N b) (Operand R b)
  operand_sound false = settled_sound
  operand_sound true = phrase_sound

  pub value_sound : (b : Bool) → IsSound (value_of N b) (Value R b)
  value_sound b = assigned_sound b (operand_of N b) (Operand R b) (operand_sound b)

  -- ---- several targets

  spot_target-sound : (s m : Place) (t : Reached) (o : Option Spot) (z : Place) (u : Tree) → Postfix R s t m → t.spot ≡ o → spot_target t.tree o m ≡ Ok (u, z) → Targeted R s u z
  spot_target-sound s m t None z u h f e = absurd cc
  spot_target-sound s m t (Some p) z u h f e = at_answer (Targeted R s) t.tree u m z e (a_spot h f)

  targeted_or-sound : (s : Place) (o : Option (Target × Place)) (z : Place) (t : Tree) → at lone_target s ≡ o → targeted_or N s o ≡ Ok (t, z) → Targeted R s t z
  unfolding word_target
  targeted_or-sound s None z t f e =
      from_sound (postfix_of N) reached_target (Postfix R) (Targeted R) (postfix_sound N R nests) (λ s m z r t h e. spot_target-sound s m r r.spot z t h refl e) s z t e
  targeted_or-sound s (Some x) z t f e = by_test (is_settable x.0 x.1.known) refl e
    where
      by_test : (b : Bool) → is_settable x.0 x.1.known ≡ b → cond b (done (target_tree x.0 (target_variable x.0 (with_target x.0 x.1)) (told_behind x.1.rest)) (with_target x.0 x.1)) (Err wrong) ≡ Ok (t, z) → Targeted R s t z
      by_test true g h = at_answer (Targeted R s) (target_tree x.0 (target_variable x.0 (with_target x.0 x.1)) (told_behind x.1.rest)) t (with_target x.0 x.1) z h (a_target (lone-target s x.1 x.0 f).0 g)
      by_test false g h = absurd cc

  pub targeted_sound : IsSound (targeted_of N) (Targeted R)
  unfolding targeted_of
  targeted_sound s z t e = targeted_or-sound s (at lone_target s) z t refl e

  pub targets_sound : IsSound (targets_of N) (Targets R)
  unfolding targets_of
  targets_sound = chain_sound comma comma one_of and_one (targeted_of N) (Targeted R) (λ m n x e. e) targeted_sound

  -- ---- the right side of several targets

  values_sound : (s : Place) (l : List Tree) (m z : Place) (t : List Tree) → Chain comma one_of and_one (Argument R) s l m → values_on N l m ≡ Ok (t, z) → Chain comma one_of and_one (Argument R) s t z
  unfolding values_on
  values_sound = chain_on-sound comma comma one_of and_one (argument_of N) (Argument R) (λ m n x e. e) argument_sound

  right_sound : IsSoundOn (right_on N) (Argument R) (Rights R)
  unfolding right_on
  right_sound s m z t u h e =
      let b = built_ok one_value (values_on N (one_of t) m) u z e in
      subst (λ (q : Tree). Rights R s q z) (sym b.2) (by_values (values_sound s (one_of t) m z b.0 (one h) b.1))

  sent_or_right-sound : (s m : Place) (r : Reached) (o : Option (Sym × Place)) (z : Place) (t : Tree) → Postfix R s r m → at order m ≡ o → sent_or_right N r m o ≡ Ok (t, z) → Rights R s t z
  sent_or_right-sound s m r None z t h f e =
      let b = bind_ok (reached_on N false r m) (λ x. right_on N x.0 x.1) (t, z) e in
      right_sound s b.0.1 z b.0.0 t (no_assignment (reached_sound false s m b.0.1 r b.0.0 h b.1)) b.2
  sent_or_right-sound s m r (Some x) z t h f e = by_sent h f (ordered_sound r.tree x.0 x.1 z t e)

  receiver_sound : IsSoundOn (receiver_on N) (Postfix R) (Rights R)
  unfolding receiver_on
  receiver_sound s m z r t h e = sent_or_right-sound s m r (at order m) z t h refl e

  rights_at-sound : (b : Bool) → IsSound (rights_at N b) (Rights R)
  rights_at-sound true = from_sound (argument_of N) (right_on N) (Argument R) (Rights R) argument_sound right_sound
  rights_at-sound false = from_sound (postfix_of N) (receiver_on N) (Postfix R) (Rights R) (postfix_sound N R nests) receiver_sound

  rights_or-sound : (s : Place) (o : Option (Head × Place)) (z : Place) (t : Tree) → at (command s.known) s ≡ o → rights_or N s o ≡ Ok (t, z) → Rights R s t z
  rights_or-sound s None z t f e = rights_at-sound (is_prefixed s.rest) s z t e
  rights_or-sound s (Some x) z t f e = by_named (called_sound s x z t f e)

  pub rights_sound : IsSound (rights_of N) (Rights R)
  unfolding rights_of
  rights_sound s z t e = rights_or-sound s (at (command s.known) s) z t refl e
