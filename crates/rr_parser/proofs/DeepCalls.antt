-- Reading assignments, arguments and commands is too deep only where the constructs that are begun pass the limit.
use Rattle.std.proofs.Common.{◌≡◌, inl, inr, Bool, true, false, List, Option, Some, None, Ok, Err, refl, ap, ◌∙◌, cond}
use Rattle.rr_parser.specs.declared.word.Target.{Target}
use Rattle.rr_parser.proofs.Chains.{done}
use Rattle.rr_parser.specs.Grammar.Several.{Targeted}
use Rattle.rr_base.specs.declared.name.Sym.{Sym}
use Rattle.rr_tree.specs.Tree.{Tree, array, hash, splat, pair, symbol, listed, send}
use Rattle.rr_parser.specs.declared.word.Aim.{Aim}
use Rattle.rr_parser.specs.declared.word.Head.{Head}
use Rattle.rr_parser.specs.declared.word.Listed.{Listed}
use Rattle.rr_parser.specs.declared.word.Listed.TheVariants as listings
use Rattle.rr_parser.specs.declared.word.Part.TheVariants as parts
use Rattle.rr_parser.specs.declared.word.WordKind.TheVariants as kind
use Rattle.rr_parser.specs.declared.word.Behind.TheVariants as behinds
use Rattle.rr_parser.specs.Grammar.Fences.{Taking, within_head}
use Rattle.rr_parser.specs.Places.{Place, word, at}
use Rattle.rr_parser.specs.Grammar.Chains.{Chain, one, one_of, and_one}
use Rattle.rr_parser.specs.Grammar.Nesting.{Nested}
use Rattle.rr_parser.specs.Grammar.Names.{one_value, headed, command, told_behind}
use Rattle.rr_parser.specs.Grammar.Calls.{no_assignment, target, with_target, assigned_to, label, comma, star, closing, last, Argument, Commanded, Adding, AddingTo, Given, entry, contents, item, nothing, only_pairs, with_member, is_settable, target_tree, target_variable}
use Rattle.rr_parser.specs.Reading.Answers.{◌>>=◌, deep, Answer, Parse, built, ended_by, taking_of, trail_on, wrong}
use Rattle.rr_parser.specs.Reading.Nesting.{Readers}
use Rattle.rr_parser.specs.Reading.Calls.{reached_on, assigned_or, assigned_of, argument_of, member_of, another, members_of, bracketed_or, bracketed_of, array_of, hash_of, index_of, commanded_or, commanded_of, headed_of, command_or, command_of, phrase_or, phrase_of, operand_of, value_of, settled_of, ordered_of, order_or, order_on, adding_of, adding_to, arguments_of, arrow_or, key_on, label_or, listed_of, lone, star_or, star_unless, unlabeled_of, is_prefixed, is_introduced, listed_on, receiver_or, commanded_on, commanded_at}
use Rattle.rr_parser.specs.Reading.Several.{values_on, right_on, sent_or_right, receiver_on, rights_at, rights_or, rights_of, spot_target, reached_target, lone_target, targeted_or, targeted_of, targets_of, word_target}
use Rattle.rr_parser.specs.Fronts.{RightsFront, in_values, in_named, in_sent, PostfixFront, behind_no_minus, behind_no_bang, Fronts, in_one, behind_label, in_entry, in_splat, MemberFront, MembersFront, in_former, in_latter, TakingFront, AssignedFront, in_value, in_operand, ArgumentFront, CommandedFront, in_arguments, in_argument_command, in_argument_order, CommandFront, behind_name, PhraseFront, in_command, in_plain, OperandFront, ValueFront, SettledFront, behind_receiver, HeadedFront, in_no_setting, AddingFront, in_head, in_item, in_pair, TargetsFront}
use Rattle.rr_parser.proofs.Told.{told_star}
use Rattle.rr_parser.proofs.Looks.{word-next}
use Rattle.rr_parser.proofs.Listing.{another-comma}
use Rattle.rr_parser.proofs.Introduced.{listed_from}
use Rattle.rr_parser.proofs.SoundOperands.{NestedSound, taking_sound, postfix_sound}
use Rattle.rr_parser.proofs.SoundCalls.{argument_sound, commanded_sound, adding_sound, reached_sound, targeted_sound}
use Rattle.rr_parser.proofs.DeepOperands.{on_deep, logical_front, postfix_deep, IsDeep, bind_deep, built_deep, ended_not_deep, closed_deep, NestedDeep, from_deep, taking_deep, passed_deep, settled_deep, settled_by-deep, reached_deep, IsDeepOn, chain_deep}
use Rattle.rr_parser.specs.declared.word.Head.TheVariants as heads
use Rattle.rr_parser.specs.Grammar.Operands.{order, Reached, Postfix, Spot}
use Rattle.rr_parser.specs.Reading.Operands.{postfix_of, then_blocked}
use Rattle.rr_parser.proofs.Trails.{trail_deep}

module _ (N : Readers) (R : Nested) (F : Fronts) (sounds : NestedSound N R) (nests : NestedDeep N F) where
  -- ---- assignments and calls

  assigned_or-deep : (b : Bool) (q : Parse Tree) (G : Place → Place → Type 0) → IsDeep q G → (s : Place) (o : Option (Aim × Place)) → at target s ≡ o → assigned_or N b q s o ≡ Err deep → (z : Place) × AssignedFront F b G s z
  assigned_or-deep b q G first s None f e = let d = first s e in (d.0, in_operand d.1)
  assigned_or-deep b q G first s (Some x) f e = by_test (is_settable x.0.target x.1.known) e
    where
      by_test : (c : Bool) → cond c (built (assigned_to x.0 (with_target x.0.target x.1)) (N.value b (with_target x.0.target x.1))) (Err wrong) ≡ Err deep → (z : Place) × AssignedFront F b G s z
      by_test true h =
          let d = nests.value b (with_target x.0.target x.1) (built_deep (assigned_to x.0 (with_target x.0.target x.1)) (N.value b (with_target x.0.target x.1)) h) in
          (d.0, in_value f d.1)
      by_test false h = absurd cc

  assigned_deep : (b : Bool) (q : Parse Tree) (G : Place → Place → Type 0) → IsDeep q G → IsDeep (assigned_of N b q) (AssignedFront F b G)
  unfolding assigned_of
  assigned_deep b q G first s e = assigned_or-deep b q G first s (at target s) refl e

  pub argument_deep : IsDeep (argument_of N) (ArgumentFront R F)
  argument_deep = assigned_deep false (settled_of N) (SettledFront R F false) (settled_deep N R F sounds nests)

  lone-deep : (only : Bool) (t : Tree) (m : Place) → lone only t m ≡ Err deep → ⊥
  lone-deep true t m e = let never : ⊥ = cc in never
  lone-deep false t m e = let never : ⊥ = cc in never

  arrow_or-deep : (only : Bool) (s m : Place) (t : Tree) (o : Option (Unit {0} × Place)) → Argument R s t m → at (word kind.Arrow) m ≡ o → arrow_or N only t m o ≡ Err deep → (z : Place) × MemberFront R F only s z
  arrow_or-deep only s m t None h f e = absurd (lone-deep only t m e)
  arrow_or-deep only s m t (Some n) h f e = let d = argument_deep n.1 (built_deep (λ v. entry (pair t v)) (argument_of N n.1) e) in (d.0, in_pair (in_entry (in_latter {x = n.0} h f d.1)))

  key_deep : (only : Bool) → IsDeepOn (key_on N only) (Argument R) (MemberFront R F only)
  unfolding key_on
  key_deep only s m t h e = arrow_or-deep only s m t (at (word kind.Arrow) m) h refl e

  star_or-deep : (only : Bool) (s : Place) (o : Option (Unit {0} × Place)) → at (star_unless only) s ≡ o → star_or N only s o ≡ Err deep → (z : Place) × MemberFront R F only s z
  star_or-deep only s None f e =
      from_deep (argument_of N) (key_on N only) (Argument R) (MemberFront R F only) (argument_sound N R sounds) (key_deep only) (λ s e. let d = argument_deep s e in (d.0, in_pair (in_entry (in_former d.1)))) s e
  star_or-deep true s (Some m) f e = absurd cc
  star_or-deep false s (Some m) f e =
      let d = argument_deep m.1 (built_deep (λ t. item (splat t)) (argument_of N m.1) e) in
      (d.0, in_item refl (in_splat (word-next star told_star s m.1 m.0 f) d.1))

  unlabeled_deep : (only : Bool) → IsDeep (unlabeled_of N only) (MemberFront R F only)
  unfolding unlabeled_of
  unlabeled_deep only s e = star_or-deep only s (at (star_unless only) s) refl e

  label_or-deep : (only : Bool) (s : Place) (o : Option (Sym × Place)) → at label s ≡ o → label_or N only s o ≡ Err deep → (z : Place) × MemberFront R F only s z
  label_or-deep only s None f e = unlabeled_deep only s e
  label_or-deep only s (Some x) f e = let d = argument_deep x.1 (built_deep (λ t. entry (pair (symbol x.0.0) t)) (argument_of N x.1) e) in (d.0, in_pair (behind_label f d.1))

  member_deep : (only : Bool) → IsDeep (member_of N only) (MemberFront R F only)
  unfolding member_of
  member_deep only s e = label_or-deep only s (at label s) refl e

  adding_deep : (k : Listed) (u : Unit {0}) (g : Given) → IsDeep (adding_of N k g) (AddingFront R F k u g)
  unfolding adding_of
  adding_deep k u g s e = member_deep (only_pairs k g) s (built_deep (with_member g) (member_of N (only_pairs k g) s) e)

  members_deep : (k : Listed) → IsDeep (members_of N k) (MembersFront R F k)
  unfolding members_of
  members_deep k =
      from_deep (adding_of N k nothing) (trail_on (another k) (adding_to N k)) (Adding R k nothing) (MembersFront R F k) (adding_sound N R sounds k nothing)
      (trail_deep comma (another k) (λ m n x e. another-comma k m n x e) (adding_to N k) (Adding R k nothing) (AddingTo R k) (λ x g n z t e. adding_sound N R sounds k g n z t e)
      (AddingFront R F k tt nothing) (AddingFront R F k) (λ x g n e. adding_deep k x g n e) (λ r f e. bind_deep r f e))
      (λ s e. let d = adding_deep k tt nothing s e in (d.0, in_head d.1))

  listed_deep : (k : Listed) → IsDeep (listed_of N k) (MembersFront R F k)
  unfolding listed_of
  listed_deep k s e = members_deep k s (built_deep (contents k) (members_of N k s) e)

  bracketed_or-deep : (k : Listed) (s : Place) (o : Option (Unit {0} × Place)) → bracketed_or N k s o ≡ Err deep → (z : Place) × MembersFront R F k s z
  bracketed_or-deep k s None e =
      elim (bind_deep (listed_of N k s) (λ l. ended_by l.0 (at (last k) l.1)) e) [
        | inl g ↦ listed_deep k s g
        | inr b ↦ absurd (ended_not_deep b.0.0 (at (last k) b.0.1) b.2)
      ]
  bracketed_or-deep k s (Some x) e = absurd cc

  pub bracketed_deep : (k : Listed) → IsDeep (bracketed_of N k) (MembersFront R F k)
  unfolding bracketed_of
  bracketed_deep k s e = bracketed_or-deep k s (at (closing k) s) e

  pub array_deep : IsDeep (array_of N) (MembersFront R F listings.Array)
  unfolding array_of
  array_deep s e = bracketed_deep listings.Array s (built_deep (λ l. array (listed l)) (bracketed_of N listings.Array s) e)

  pub hash_deep : IsDeep (hash_of N) (MembersFront R F listings.Hash)
  unfolding hash_of
  hash_deep s e = bracketed_deep listings.Hash s (built_deep (λ l. hash (listed l)) (bracketed_of N listings.Hash s) e)

  pub index_deep : IsDeep (index_of N) (ArgumentFront R F)
  unfolding index_of
  index_deep s e = argument_deep s (closed_deep kind.CloseSquare (argument_of N s) e)

  arguments_deep : (s : Place) → listed_of N listings.Command s ≡ Err deep → (z : Place) × CommandedFront R F s z
  arguments_deep s e = let d = listed_deep listings.Command s e in (d.0, in_arguments d.1)

  receiver_or-deep : (s m : Place) (r : Reached) (o : Option (Sym × Place)) → is_introduced s.rest ≡ false → postfix_of N s ≡ Ok (r, m) → at order m ≡ o → receiver_or N r m o ≡ Err deep → (z : Place) × CommandedFront R F s z
  receiver_or-deep s m r None plain p f e = arguments_deep s (listed_from N s plain ∙ ap (λ (q : Answer Reached). q >>= λ x. listed_on N x.0 x.1) p ∙ e)
  receiver_or-deep s m r (Some x) plain p f e =
      let d = nests.ordered r.tree x.0 x.1 (built_deep one_of (N.ordered r.tree x.0 x.1) e) in
      (d.0, in_argument_order ((postfix_sound N R sounds) s m r p) f d.1)

  commanded_at-deep : (b : Bool) (s : Place) → is_introduced s.rest ≡ b → commanded_at N b s ≡ Err deep → (z : Place) × CommandedFront R F s z
  unfolding commanded_on
  commanded_at-deep true s f e = arguments_deep s e
  commanded_at-deep false s f e =
      elim (bind_deep (postfix_of N s) (λ x. commanded_on N x.0 x.1) e) [
        | inl g ↦ arguments_deep s (listed_from N s f ∙ ap (λ (q : Answer Reached). q >>= λ x. listed_on N x.0 x.1) g)
        | inr b ↦ receiver_or-deep s b.0.1 b.0.0 (at order b.0.1) f b.1 refl b.2
      ]

  commanded_or-deep : (s : Place) (o : Option (Head × Place)) → at (command s.known) s ≡ o → commanded_or N s o ≡ Err deep → (z : Place) × CommandedFront R F s z
  commanded_or-deep s None f e = commanded_at-deep (is_introduced s.rest) s refl e
  commanded_or-deep s (Some x) f e = let d = nests.part parts.Command s (built_deep one_of (N.part parts.Command s) e) in (d.0, in_argument_command f d.1)

  commanded_deep : IsDeep (commanded_of N) (CommandedFront R F)
  unfolding commanded_of
  commanded_deep s e = commanded_or-deep s (at (command s.known) s) refl e

  -- the arguments of a command, and what stands behind them
  given_deep : (x : Head) (f : List Tree → Tree) (m : Place) → then_blocked N (behinds.Command x) (built f (arguments_of N x m)) ≡ Err deep → (z : Place) × HeadedFront R F x m z
  given_deep x f m e =
      let b = within_head x m.known.takes_do in
      (passed_deep N R F sounds nests) (behinds.Command x) f (taking_of b (commanded_of N)) (Taking b (Commanded R)) (TakingFront b (CommandedFront R F))
      (taking_sound b (commanded_of N) (Commanded R) (commanded_sound N R sounds)) (taking_deep b (commanded_of N) (CommandedFront R F) commanded_deep) m e

  called_deep : (s m : Place) (x : Head) → at (command s.known) s ≡ Some (x, m) → headed_of N x m ≡ Err deep → (z : Place) × CommandFront R F s z
  unfolding headed_of
  called_deep s m x f e = let d = given_deep x (headed x) m e in (d.0, behind_name f d.1)

  command_or-deep : (s : Place) (o : Option (Head × Place)) → at (command s.known) s ≡ o → command_or N o ≡ Err deep → (z : Place) × CommandFront R F s z
  command_or-deep s None f e = absurd cc
  command_or-deep s (Some x) f e = called_deep s x.1 x.0 f e

  pub command_deep : IsDeep (command_of N) (CommandFront R F)
  unfolding command_of
  command_deep s e = command_or-deep s (at (command s.known) s) refl e

  pub ordered_deep : (r : Tree) (x : Sym) → IsDeep (ordered_of N r x) (HeadedFront R F (heads.Call x))
  unfolding ordered_of
  ordered_deep r x m e = given_deep (heads.Call x) (λ l. send r x.0 (listed l)) m e

  order_or-deep : (s m : Place) (r : Reached) (o : Option (Sym × Place)) → Postfix R s r m → at order m ≡ o → order_or N r m o ≡ Err deep → (z : Place) × PhraseFront R F s z
  order_or-deep s m r None h f e = let d = (reached_deep N R F sounds nests) true s m r h e in (d.0, in_plain d.1)
  order_or-deep s m r (Some x) h f e = let d = ordered_deep r.tree x.0 x.1 e in (d.0, behind_receiver h f d.1)

  order_deep : IsDeepOn (order_on N) (Postfix R) (PhraseFront R F)
  unfolding order_on
  order_deep s m r h e = order_or-deep s m r (at order m) h refl e

  phrase_or-deep : (s : Place) (o : Option (Head × Place)) → at (command s.known) s ≡ o → phrase_or N s o ≡ Err deep → (z : Place) × PhraseFront R F s z
  phrase_or-deep s None f e = (settled_by-deep N R F sounds nests) (order_on N) (PhraseFront R F) order_deep (λ s z f. in_plain (in_no_setting f)) s e
  phrase_or-deep s (Some x) f e = let d = called_deep s x.1 x.0 f e in (d.0, in_command d.1)

  phrase_deep : IsDeep (phrase_of N) (PhraseFront R F)
  unfolding phrase_of
  phrase_deep s e = phrase_or-deep s (at (command s.known) s) refl e

  operand_deep : (b : Bool) → IsDeep (operand_of N b) (OperandFront R F b)
  operand_deep false = settled_deep N R F sounds nests
  operand_deep true = phrase_deep

  pub value_deep : (b : Bool) → IsDeep (value_of N b) (ValueFront R F b)
  value_deep b = assigned_deep b (operand_of N b) (OperandFront R F b) (operand_deep b)

  -- ---- several targets

  -- an operand alone is the first argument
  operand_front : (s z : Place) → PostfixFront R F s z → ArgumentFront R F s z
  operand_front s z f = in_operand (in_no_setting (in_former ((logical_front N R F sounds nests) 2 s z (behind_no_minus (behind_no_bang f)))))

  spot_not_deep : (t : Tree) (o : Option Spot) (m : Place) → spot_target t o m ≡ Err deep → ⊥
  spot_not_deep t None m e = let never : ⊥ = cc in never
  spot_not_deep t (Some p) m e = let never : ⊥ = cc in never

  targeted_or-deep : (s : Place) (o : Option (Target × Place)) → targeted_or N s o ≡ Err deep → (z : Place) × PostfixFront R F s z
  unfolding word_target
  targeted_or-deep s None e =
      from_deep (postfix_of N) reached_target (Postfix R) (PostfixFront R F) (postfix_sound N R sounds) (λ s m r h e. absurd (spot_not_deep r.tree r.spot m e)) (postfix_deep N R F sounds nests) s e
  targeted_or-deep s (Some x) e = by_test (is_settable x.0 x.1.known) e
    where
      by_test : (b : Bool) → cond b (done (target_tree x.0 (target_variable x.0 (with_target x.0 x.1)) (told_behind x.1.rest)) (with_target x.0 x.1)) (Err wrong) ≡ Err deep → (z : Place) × PostfixFront R F s z
      by_test true h = absurd cc
      by_test false h = absurd cc

  pub targeted_deep : IsDeep (targeted_of N) (PostfixFront R F)
  unfolding targeted_of
  targeted_deep s e = targeted_or-deep s (at lone_target s) e

  pub targets_deep : IsDeep (targets_of N) (TargetsFront R F)
  unfolding targets_of
  targets_deep = chain_deep comma comma one_of and_one (targeted_of N) (Targeted R) (PostfixFront R F) (λ m n x e. e) (targeted_sound N R sounds) targeted_deep

  -- and what is done may be that operand
  pub operand_within : (s z : Place) → PostfixFront R F s z → ValueFront R F true s z
  operand_within s z f = in_operand (in_plain (in_no_setting (in_former ((logical_front N R F sounds nests) 2 s z (behind_no_minus (behind_no_bang f))))))

  values_deep : (s : Place) (l : List Tree) (m : Place) → Chain comma one_of and_one (Argument R) s l m → values_on N l m ≡ Err deep → (z : Place) × RightsFront R F s z
  unfolding values_on
  values_deep s l m c e =
      let d = on_deep comma comma one_of and_one (argument_of N) (Argument R) (ArgumentFront R F) (λ m n x e. e) (argument_sound N R sounds) argument_deep s l m c e in
      (d.0, in_values d.1)

  right_deep : IsDeepOn (right_on N) (Argument R) (RightsFront R F)
  unfolding right_on
  right_deep s m t h e = values_deep s (one_of t) m (one h) (built_deep one_value (values_on N (one_of t) m) e)

  sent_or_right-deep : (s m : Place) (r : Reached) (o : Option (Sym × Place)) → Postfix R s r m → at order m ≡ o → sent_or_right N r m o ≡ Err deep → (z : Place) × RightsFront R F s z
  sent_or_right-deep s m r None h f e =
      elim (bind_deep (reached_on N false r m) (λ x. right_on N x.0 x.1) e) [
        | inl g ↦ (let d = (reached_deep N R F sounds nests) false s m r h g in (d.0, in_values (in_one (in_operand d.1))))
        | inr b ↦ right_deep s b.0.1 b.0.0 (no_assignment ((reached_sound N R sounds) false s m b.0.1 r b.0.0 h b.1)) b.2
      ]
  sent_or_right-deep s m r (Some x) h f e = let d = ordered_deep r.tree x.0 x.1 e in (d.0, in_sent h f d.1)

  receiver_deep : IsDeepOn (receiver_on N) (Postfix R) (RightsFront R F)
  unfolding receiver_on
  receiver_deep s m r h e = sent_or_right-deep s m r (at order m) h refl e

  first_deep : (s : Place) → (z : Place) × ArgumentFront R F s z → (z : Place) × RightsFront R F s z
  first_deep s d = (d.0, in_values (in_one d.1))

  rights_at-deep : (b : Bool) → IsDeep (rights_at N b) (RightsFront R F)
  rights_at-deep true = from_deep (argument_of N) (right_on N) (Argument R) (RightsFront R F) (argument_sound N R sounds) right_deep (λ s e. first_deep s (argument_deep s e))
  rights_at-deep false =
      from_deep (postfix_of N) (receiver_on N) (Postfix R) (RightsFront R F) (postfix_sound N R sounds) receiver_deep (λ s e. let d = (postfix_deep N R F sounds nests) s e in (d.0, in_values (in_one (operand_front s d.0 d.1))))

  rights_or-deep : (s : Place) (o : Option (Head × Place)) → at (command s.known) s ≡ o → rights_or N s o ≡ Err deep → (z : Place) × RightsFront R F s z
  rights_or-deep s None f e = rights_at-deep (is_prefixed s.rest) s e
  rights_or-deep s (Some x) f e = let d = called_deep s x.1 x.0 f e in (d.0, in_named d.1)

  pub rights_deep : IsDeep (rights_of N) (RightsFront R F)
  unfolding rights_of
  rights_deep s e = rights_or-deep s (at (command s.known) s) refl e
