-- What is spelled of assignments, arguments and commands is read, unless it nests too deep.
use Rattle.std.proofs.Common.{◌≡◌, inl, inr, Bool, true, false, List, Option, Some, None, Ok, refl, sym, ap, ◌∙◌, arith, cond, Err}
use Rattle.std.proofs.lemmas.Option.{none-some}
use Rattle.rr_parser.proofs.Prefixes.{unprefixed, not_prefixed}
use Rattle.rr_parser.proofs.Introduced.{not_introduced, unintroduced, listed_from}
use Rattle.rr_tree.specs.Tree.{Tree, array, hash, splat, pair, symbol, listed, send}
use Rattle.rr_parser.specs.declared.word.Head.{Head}
use Rattle.rr_parser.specs.declared.word.Listed.{Listed}
use Rattle.rr_parser.specs.declared.word.Listed.TheVariants as listings
use Rattle.rr_parser.specs.declared.word.Part.TheVariants as parts
use Rattle.rr_parser.specs.declared.word.WordKind.{WordKind}
use Rattle.rr_parser.specs.declared.word.WordKind.TheVariants as kind
use Rattle.rr_parser.specs.declared.word.Behind.{Behind}
use Rattle.rr_parser.specs.declared.word.Behind.TheVariants as behinds
use Rattle.rr_parser.specs.Grammar.Fences.{within_head}
use Rattle.rr_parser.specs.Places.{Place, word, at, next}
use Rattle.rr_parser.specs.Grammar.Chains.{Chain, one, more, one_of, and_one}
use Rattle.rr_parser.specs.Grammar.Nesting.{Nested}
use Rattle.rr_parser.specs.Grammar.Names.{one_value, headed, command, told_behind}
use Rattle.rr_parser.specs.Grammar.Operands.{Blocked, no_block, a_block, order, Reached, Postfix, no_bang}
use Rattle.rr_parser.specs.Grammar.Calls.{target, with_target, assigned_to, label, comma, closing, last, Assigned, an_assignment, no_assignment, Argument, Pair, by_label, by_arrow, star, Item, a_splat, a_plain_item, Member, Members, Bracketed, no_members, some_members, Array, an_array, Hash, a_hash, Index, of_element, Commanded, Arguments, by_arguments, by_command, by_order, Ordered, an_order, Command, a_command, Phrase, by_name, an_operand, Value, Settled, by_receiver, Adding, adding, AddingTo, Given, Listing, a_pair_member, an_item, entry, contents, item, label_of_kind, nothing, only_pairs, with_member, target_tree, target_variable}
use Rattle.rr_parser.specs.declared.word.Aim.{Aim}
use Rattle.rr_parser.specs.Grammar.Several.{Targeted, a_target, Targets, Rights, by_values, by_named, by_sent, plain_sign, a_spot}
use Rattle.rr_parser.specs.Reading.Answers.{◌>>=◌, Answer, Parse, built, ended_by, from, wrong}
use Rattle.rr_parser.specs.Reading.Nesting.{Readers}
use Rattle.rr_parser.specs.Reading.Calls.{assigned_or, assigned_of, argument_of, member_of, another, members_of, bracketed_or, bracketed_of, array_of, hash_of, index_of, commanded_or, commanded_of, arguments_of, headed_of, command_or, command_of, phrase_or, phrase_of, value_of, settled_of, settled_by, ordered_of, order_or, order_on, reached_on, adding_of, adding_to, arrow_or, key_on, label_or, listed_of, lone, star_or, star_unless, unlabeled_of, is_prefixed, is_introduced, listed_on, receiver_or, commanded_on, commanded_at}
use Rattle.rr_parser.specs.Reading.Several.{targeted_or, targeted_of, targets_of, values_on, right_on, sent_or_right, receiver_on, rights_at, rights_or, rights_of, ends_target, lone_target, spot_target, reached_target, word_target}
use Rattle.rr_parser.proofs.Told.{told_comma, told_arrow}
use Rattle.rr_parser.proofs.Looks.{seen, by_next, none_unless, other-word, seen_as, word-next, target-lone, rest_target}
use Rattle.rr_parser.proofs.Listing.{another-comma, comma-another, last-another, Steps-another}
use Rattle.rr_parser.proofs.Steps.{Steps-comma}
use Rattle.rr_parser.proofs.Shrinking.{ReadersShrink}
use Rattle.rr_parser.proofs.Leading.{Leads, leads_built, leads_bind, leads_trans, leads_eq, IsFull, chain_full}
use Rattle.rr_parser.proofs.Strengths.{Stops, stops_by, word_unseen, comma_strength}
use Rattle.rr_parser.proofs.Firsts.{bang_no_prefix, postfix_no_bang, chain_first, starts_no_star, starts_no_label, settled_first, argument_starts, opened_stops, taking_stops, first_starts, postfix_first, no_star_unless, star_no_label}
use Rattle.rr_parser.proofs.Closings.{last_stops, MemberStops, adding_no_closing}
use Rattle.rr_parser.proofs.Stopping.{receiver_no_target, first_no_command, aim_no_command, settled_no_target, phrase_no_target, spot_no_lone, ends_stop, comma_ends, sign_ends}
use Rattle.rr_parser.proofs.FullOperands.{Anywhere, value_stop, NestedFull, word_here, closed_full, taking_full, passed_full, settled_full, unprefixed_full, unprefixed_onward, postfix_full, tailless_full}
use Rattle.rr_parser.specs.declared.word.Head.TheVariants as heads
use Rattle.rr_base.specs.declared.name.Sym.{Sym}
use Rattle.rr_parser.proofs.Orders.{order-next, no_order_at}
use Rattle.rr_parser.specs.Reading.Operands.{postfix_of, then_blocked}
use Rattle.rr_parser.proofs.Trails.{trail_full, trail_head, StoppedHead, trail_first}
use Rattle.rr_parser.proofs.Chains.{chain_on-ends, chain_on-turn}

module _ (N : Readers) (R : Nested) (D : Type 0) (shrinks : ReadersShrink N) (nests : NestedFull N R D) where
  -- ---- assignments and calls

  assigned_full : (b : Bool) (q : Parse Tree) (Q : Place → Tree → Place → Type 0) → IsFull q Q (Stops (value_stop b)) D → ((s z : Place) (t : Tree) → Q s t z → Stops (value_stop b) z → at target s ≡ None)
      → IsFull (assigned_of N b q) (Assigned R b Q) (Stops (value_stop b)) D
  unfolding assigned_of
  assigned_full b q Q full none s z t (an_assignment {n = n} {x = x} {t = v} e f h) stops =
      leads_eq (assigned_or N b q s (at target s)) (built (assigned_to x (with_target x.target n)) (N.value b (with_target x.target n))) (Ok (t, z))
      (ap (assigned_or N b q s) e ∙ ap (λ c. cond c (built (assigned_to x (with_target x.target n)) (N.value b (with_target x.target n))) (Err wrong)) f)
      (leads_bind (N.value b (with_target x.target n)) (v, z) (λ y. Ok (assigned_to x (with_target x.target n) y.0, y.1)) (nests.value b (with_target x.target n) z v h stops))
  assigned_full b q Q full none s z t (no_assignment h) stops =
      leads_eq (assigned_or N b q s (at target s)) (q s) (Ok (t, z)) (ap (assigned_or N b q s) (none s z t h stops)) (full s z t h stops)

  plain_full : IsFull (settled_of N) (Settled R false) (Stops 27) D
  plain_full = (settled_full N R D shrinks nests) false (reached_on N false) (λ r m stops. refl)

  pub argument_full : IsFull (argument_of N) (Argument R) (Stops 27) D
  argument_full = assigned_full false (settled_of N) (Settled R false) plain_full (settled_no_target R false)

  -- an item, where only pairs may not stand
  lone_full : (only : Bool) (t : Tree) (m : Place) → only ≡ false → lone only t m ≡ Ok (item t, m)
  lone_full true t m e = absurd cc
  lone_full false t m e = refl

  star_seen : (only : Bool) (s m : Place) → only ≡ false → next s ≡ Some (star, m) → at (star_unless only) s ≡ Some (tt, m)
  star_seen true s m e f = absurd cc
  star_seen false s m e f = word_here star s m f refl

  labelless : (only : Bool) (s : Place) → at label s ≡ None → member_of N only s ≡ star_or N only s (at (star_unless only) s)
  unfolding member_of unlabeled_of
  labelless only s e = ap (label_or N only s) e

  -- an argument, and what stands behind it
  keyed_full : (only : Bool) (s m z : Place) (t : Tree) (r : Member) → Argument R s t m → Stops 27 m → Leads (key_on N only t m) (Ok (r, z)) D → Leads (member_of N only s) (Ok (r, z)) D
  keyed_full only s m z t r h stops l =
      let begins = argument_starts R s m t h in
      leads_eq (member_of N only s) (from (argument_of N) (key_on N only) s) (Ok (r, z)) (labelless only s (starts_no_label s begins) ∙ ap (star_or N only s) (no_star_unless only s (starts_no_star s begins)))
      (leads_trans (from (argument_of N) (key_on N only) s) (key_on N only t m) (Ok (r, z)) (leads_bind (argument_of N s) (t, m) (λ q. key_on N only q.0 q.1) (argument_full s m t h stops)) l)

  item_full : (only : Bool) (s z : Place) (t : Tree) → only ≡ false → Item R s t z → MemberStops z → Leads (member_of N only s) (Ok (item t, z)) D
  unfolding key_on
  item_full only s z t o (a_splat {m = m} {t = v} e h) stops =
      leads_eq (member_of N only s) (built (λ q. item (splat q)) (argument_of N m)) (Ok (item t, z)) (labelless only s (star_no_label s m e) ∙ ap (star_or N only s) (star_seen only s m o e))
      (leads_bind (argument_of N m) (v, z) (λ q. Ok (item (splat q.0), q.1)) (argument_full m z v h stops.0))
  item_full only s z t o (a_plain_item h) stops = keyed_full only s z z t (item t) h stops.0 (inl (ap (arrow_or N only t z) stops.1 ∙ lone_full only t z o))

  pair_full : (only : Bool) (s z : Place) (t : Tree) → Pair R s t z → MemberStops z → Leads (member_of N only s) (Ok (entry t, z)) D
  unfolding member_of key_on
  pair_full only s z t (by_label {m = m} {x = x} {t = v} e h) stops =
      leads_eq (label_or N only s (at label s)) (built (λ q. entry (pair (symbol x.0) q)) (argument_of N m)) (Ok (entry t, z)) (ap (label_or N only s) e)
      (leads_bind (argument_of N m) (v, z) (λ q. Ok (entry (pair (symbol x.0) q.0), q.1)) (argument_full m z v h stops.0))
  pair_full only s z t (by_arrow {m = m} {n = n} {k = k} {t = v} h e i) stops =
      keyed_full only s m z k (entry t) h (stops_by kind.Arrow 27 m n e (omega arith))
      (leads_eq (arrow_or N only k m (at (word kind.Arrow) m)) (built (λ q. entry (pair k q)) (argument_of N n)) (Ok (entry t, z)) (ap (arrow_or N only k m) (word_here kind.Arrow m n e refl))
      (leads_bind (argument_of N n) (v, z) (λ q. Ok (entry (pair k q.0), q.1)) (argument_full n z v i stops.0)))

  member_full : (only : Bool) → IsFull (member_of N only) (Listing R only) MemberStops D
  member_full only s z r (an_item {t = t} o h) stops = item_full only s z t o h stops
  member_full only s z r (a_pair_member {t = t} h) stops = pair_full only s z t h stops

  adding_full : (k : Listed) (g : Given) → IsFull (adding_of N k g) (Adding R k g) MemberStops D
  unfolding adding_of
  adding_full k g s z t (adding {m = m} h) stops = leads_bind (member_of N (only_pairs k g) s) (m, z) (λ q. Ok (with_member g q.0, q.1)) (member_full (only_pairs k g) s z m h stops)

  comma_stops : (m n : Place) (u : Unit {0}) → at comma m ≡ Some (u, n) → MemberStops m
  comma_stops m n u e = (omega (arith, comma_strength m n u e), other-word kind.Arrow kind.Comma m n (word-next kind.Comma told_comma m n u e) refl)

  members_full : (k : Listed) (s z : Place) (g : Given) → Members R k s g z → MemberStops z → at (another k) z ≡ None → Leads (members_of N k s) (Ok (g, z)) D
  unfolding members_of
  members_full k s z g c stops none =
      trail_full comma (another k) (adding_to N k) (Steps-another k) (λ x l n y t e. shrinks.added k l n y t e) (adding_of N k nothing) (Adding R k nothing) (AddingTo R k) D MemberStops comma_stops
      (λ m n y x l t e h. comma-another k m n x e (adding_no_closing R k l n y t h)) (adding_full k nothing) (λ x l. adding_full k l) s z g c stops none

  listed_full : (k : Listed) (s z : Place) (g : Given) → Members R k s g z → MemberStops z → at (another k) z ≡ None → Leads (listed_of N k s) (Ok (contents k g, z)) D
  unfolding listed_of
  listed_full k s z g c stops none = leads_bind (members_of N k s) (g, z) (λ q. Ok (contents k q.0, q.1)) (members_full k s z g c stops none)

  -- no comma, no further member
  no_another : (k : Listed) (z : Place) → at comma z ≡ None → at (another k) z ≡ None
  no_another k z e = none_unless (at (another k) z) (λ u n f.
      let g : seen u n ≡ None = sym (another-comma k z n u f) ∙ e in
      let never : ⊥ = cc in never)

  commands_full : (s z : Place) (g : Given) → Members R listings.Command s g z → Stops 29 z → Leads (listed_of N listings.Command s) (Ok (contents listings.Command g, z)) D
  commands_full s z g c stops =
      listed_full listings.Command s z g c (omega (arith, stops), word_unseen kind.Arrow told_arrow z stops) (no_another listings.Command z (word_unseen kind.Comma told_comma z (omega (arith, stops))))

  pub bracketed_full : (k : Listed) → IsFull (bracketed_of N k) (Bracketed R k) Anywhere D
  unfolding bracketed_of
  bracketed_full k s z l (no_members e) u = inl (ap (bracketed_or N k s) e)
  bracketed_full k s z l (some_members {m = m} {u = v} {g = g} c e) u =
      let f = trail_head comma (Adding R k nothing) (AddingTo R k) s m g c in
      leads_eq (bracketed_or N k s (at (closing k) s)) (listed_of N k s >>= λ q. ended_by q.0 (at (last k) q.1)) (Ok (l, z)) (ap (bracketed_or N k s) (adding_no_closing R k nothing s f.1 f.0 f.2))
      (leads_trans (listed_of N k s >>= λ q. ended_by q.0 (at (last k) q.1)) (ended_by l (at (last k) m)) (Ok (l, z))
      (leads_bind (listed_of N k s) (l, m) (λ q. ended_by q.0 (at (last k) q.1)) (listed_full k s m g c (last_stops k m z v e) (last-another k m z v e)))
      (inl (ap (ended_by l) e)))

  pub array_full : IsFull (array_of N) (Array R) Anywhere D
  unfolding array_of
  array_full s z t (an_array {l = l} h) u = leads_bind (bracketed_of N listings.Array s) (l, z) (λ q. Ok (array (listed q.0), q.1)) (bracketed_full listings.Array s z l h tt)

  pub hash_full : IsFull (hash_of N) (Hash R) Anywhere D
  unfolding hash_of
  hash_full s z t (a_hash {l = l} h) u = leads_bind (bracketed_of N listings.Hash s) (l, z) (λ q. Ok (hash (listed q.0), q.1)) (bracketed_full listings.Hash s z l h tt)

  pub index_full : IsFull (index_of N) (Index R) Anywhere D
  unfolding index_of
  index_full s z t (of_element {m = m} h e) u = closed_full kind.CloseSquare (argument_of N s) t m z refl (argument_full s m t h (stops_by kind.CloseSquare 27 m z e (omega arith))) e

  argument_no_command : (s z : Place) (t : Tree) → Argument R s t z → at (command s.known) s ≡ None
  argument_no_command s z t (an_assignment {n = n} {x = x} e f h) = aim_no_command s n x e
  argument_no_command s z t (no_assignment h) = first_no_command s (settled_first R false s z t h)

  item_no_command : (s z : Place) (t : Tree) → Item R s t z → at (command s.known) s ≡ None
  item_no_command s z t (a_splat {m = m} e h) = by_next (λ q. at (command q.known) q ≡ None) s m star e (λ b. refl)
  item_no_command s z t (a_plain_item h) = argument_no_command s z t h

  label_no_command : (s m : Place) (x : Sym) → at label s ≡ Some (x, m) → at (command s.known) s ≡ None
  label_no_command s m x e = let w = seen_as (λ w. label_of_kind w.kind) s m x e in by_kind w.kind w.here w.told
    where
      by_kind : (k : WordKind) → next s ≡ Some (k, m) → label_of_kind k ≡ Some x → at (command s.known) s ≡ None
      by_kind (kind.Label y) f g = by_next (λ q. at (command q.known) q ≡ None) s m (kind.Label y) f (λ b. refl)
      by_kind _ f g = absurd (none-some x g)

  listing_no_command : (only : Bool) (s z : Place) (r : Member) → Listing R only s r z → at (command s.known) s ≡ None
  listing_no_command only s z r (an_item {t = t} e h) = item_no_command s z t h
  listing_no_command only s z r (a_pair_member (by_label {m = m} {x = x} e h)) = label_no_command s m x e
  listing_no_command only s z r (a_pair_member (by_arrow {m = m} {k = q} h e i)) = argument_no_command s m q h

  adding_no_command : (k : Listed) (g : Given) (s z : Place) (t : Given) → Adding R k g s t z → at (command s.known) s ≡ None
  adding_no_command k g s z t (adding {m = m} h) = listing_no_command (only_pairs k g) s z m h

  -- ---- the operand that arguments begin with, where no word stands before it

  argument_operand : (s z : Place) (t : Tree) → is_prefixed s.rest ≡ false → Argument R s t z → Stops 27 z → StoppedHead (Postfix R) (Stops 0) s
  argument_operand s z t f (an_assignment {n = n} {x = x} e g h) stops = let never : ◌≡◌ {A = Option (Aim × Place)} (Some (x, n)) None = sym e ∙ (unprefixed s f).0 in absurd cc
  argument_operand s z t f (no_assignment h) stops =
      let u = unprefixed s f in
      let o = (unprefixed_onward N R D shrinks nests) s z t u.1 u.2 h stops in
      record { first = o.first; behind = o.behind; spelled = o.spelled; stops = o.stops }

  listing_operand : (s y : Place) (m : Member) → is_introduced s.rest ≡ false → Listing R false s m y → MemberStops y → StoppedHead (Postfix R) (Stops 0) s
  listing_operand s y m f (an_item o (a_splat {m = n} g h)) stops = let never : ◌≡◌ {A = Option (Unit {0} × Place)} (Some (tt, n)) None = sym (word_here star s n g refl) ∙ (unintroduced s f).1 in absurd cc
  listing_operand s y m f (an_item {t = t} o (a_plain_item h)) stops = argument_operand s y t (unintroduced s f).2 h stops.0
  listing_operand s y m f (a_pair_member (by_label {m = n} {x = x} e h)) stops = let never : ◌≡◌ {A = Option (Sym × Place)} (Some (x, n)) None = sym e ∙ (unintroduced s f).0 in absurd cc
  listing_operand s y m f (a_pair_member (by_arrow {m = n} {n = o} {k = k} h e i)) stops = argument_operand s n k (unintroduced s f).2 h (stops_by kind.Arrow 27 n o e (omega arith))

  adding_operand : (s y : Place) (u : Given) → is_introduced s.rest ≡ false → Adding R listings.Command nothing s u y → MemberStops y → StoppedHead (Postfix R) (Stops 0) s
  adding_operand s y u f (adding {m = m} h) stops = listing_operand s y m f h stops

  commanded_still : (r : Reached) (m : Place) → Stops 0 m → commanded_on N r m ≡ listed_on N r m
  unfolding commanded_on
  commanded_still r m stops = ap (receiver_or N r m) (no_order_at m stops)

  commanded_order : (r : Reached) (m n : Place) (x : Sym) → at order m ≡ Some (x, n) → commanded_on N r m ≡ built one_of (N.ordered r.tree x n)
  unfolding commanded_on
  commanded_order r m n x e = ap (receiver_or N r m) e

  -- no command with a receiver begins there
  operand_lead : (s m z : Place) (r : Reached) (l : List Tree) → is_introduced s.rest ≡ false → Stops 0 m → Leads (postfix_of N s) (Ok (r, m)) D → Leads (listed_of N listings.Command s) (Ok (l, z)) D → Leads (from (postfix_of N) (commanded_on N) s) (Ok (l, z)) D
  operand_lead s m z r l f stops (inl e) h =
      leads_eq (from (postfix_of N) (commanded_on N) s) (listed_of N listings.Command s) (Ok (l, z))
      (ap (λ (q : Answer Reached). q >>= λ x. commanded_on N x.0 x.1) e
      ∙ commanded_still r m stops
      ∙ sym (listed_from N s f ∙ ap (λ (q : Answer Reached). q >>= λ x. listed_on N x.0 x.1) e)) h
  operand_lead s m z r l f stops (inr e) h = inr (ap (λ (q : Answer Reached). q >>= λ x. commanded_on N x.0 x.1) e.0, e.1)

  arguments_lead : (b : Bool) (s z : Place) (g : Given) → is_introduced s.rest ≡ b → Members R listings.Command s g z → Stops 29 z → Leads (commanded_at N b s) (Ok (contents listings.Command g, z)) D
  arguments_lead true s z g f c stops = commands_full s z g c stops
  arguments_lead false s z g f c stops =
      let w = trail_first comma (Adding R listings.Command nothing) (AddingTo R listings.Command) MemberStops comma_stops s z g c (omega (arith, stops), word_unseen kind.Arrow told_arrow z stops) in
      let o = adding_operand s w.behind w.first f w.spelled w.stops in
      operand_lead s o.behind z o.first (contents listings.Command g) f o.stops ((postfix_full N R D shrinks nests) s o.behind o.first o.spelled o.stops) (commands_full s z g c stops)

  -- the receiver of a command
  receiver_unprefixed : (s m n : Place) (r : Reached) (x : Sym) → Postfix R s r m → at order m ≡ Some (x, n) → is_prefixed s.rest ≡ false
  receiver_unprefixed s m n r x h e = not_prefixed s (receiver_no_target R s m n r x h e) (bang_no_prefix R s m r.tree (no_bang h)) (postfix_no_bang R s m r h)

  receiver_unintroduced : (s m n : Place) (r : Reached) (x : Sym) → Postfix R s r m → at order m ≡ Some (x, n) → is_introduced s.rest ≡ false
  receiver_unintroduced s m n r x h e = let begins = first_starts s (postfix_first R s m r h) in not_introduced s (starts_no_label s begins) (starts_no_star s begins) (receiver_unprefixed s m n r x h e)

  pub commanded_full : IsFull (commanded_of N) (Commanded R) (Stops 29) D
  unfolding commanded_of
  commanded_full s z l (by_arguments {g = g} c) stops =
      let f = trail_head comma (Adding R listings.Command nothing) (AddingTo R listings.Command) s z g c in
      leads_eq (commanded_or N s (at (command s.known) s)) (commanded_at N (is_introduced s.rest) s) (Ok (l, z)) (ap (commanded_or N s) (adding_no_command listings.Command nothing s f.1 f.0 f.2)) (arguments_lead (is_introduced s.rest) s z g refl c stops)
  commanded_full s z l (by_command {t = t} e h) stops =
      leads_eq (commanded_or N s (at (command s.known) s)) (built one_of (N.part parts.Command s)) (Ok (l, z)) (ap (commanded_or N s) e)
      (leads_bind (N.part parts.Command s) (t, z) (λ y. Ok (one_of y.0, y.1)) (nests.part parts.Command s z t h stops))
  commanded_full s z l (by_order {m = m} {n = n} {r = r} {x = x} {t = t} h e g) stops =
      leads_eq (commanded_or N s (at (command s.known) s)) (from (postfix_of N) (commanded_on N) s) (Ok (one_of t, z))
      (ap (commanded_or N s) (first_no_command s (postfix_first R s m r h)) ∙ ap (λ b. commanded_at N b s) (receiver_unintroduced s m n r x h e))
      (leads_trans (from (postfix_of N) (commanded_on N) s) (commanded_on N r m) (Ok (one_of t, z)) (leads_bind (postfix_of N s) (r, m) (λ q. commanded_on N q.0 q.1) ((tailless_full N R D shrinks nests) s m r h (order-next m n x e).no_tail))
      (leads_eq (commanded_on N r m) (built one_of (N.ordered r.tree x n)) (Ok (one_of t, z)) (commanded_order r m n x e) (leads_built one_of (N.ordered r.tree x n) (Ok (t, z)) (nests.ordered r.tree x n z t g stops))))

  -- what stands behind the arguments stops them
  blocked_stops : (q : Behind) (c : Tree) (n z : Place) (t : Tree) → Blocked R q c n t z → Stops 29 z → Stops 29 n
  blocked_stops q c n z t (no_block e) stops = stops
  blocked_stops q c n z t (a_block {m = m} {f = f} e h) stops = omega (arith, opened_stops q n m f e)

  given_full : (f : List Tree → Tree) (m n z : Place) (x : Head) (l : List Tree) (t : Tree) → Arguments R x m l n → Blocked R (behinds.Command x) (f l) n t z → Stops 29 z → Leads (then_blocked N (behinds.Command x) (built f (arguments_of N x m))) (Ok (t, z)) D
  given_full f m n z x l t h b stops =
      (passed_full N R D shrinks nests) (behinds.Command x) f (arguments_of N x m) n z l t
      (taking_full (within_head x m.known.takes_do) (commanded_of N) (Commanded R) (Stops 29) (λ a y. taking_stops 29 a y) commanded_full m n l h (blocked_stops (behinds.Command x) (f l) n z t b stops)) b

  called_full : (m n z : Place) (x : Head) (l : List Tree) (t : Tree) → Arguments R x m l n → Blocked R (behinds.Command x) (headed x l) n t z → Stops 29 z → Leads (headed_of N x m) (Ok (t, z)) D
  unfolding headed_of
  called_full m n z x l t h b stops = given_full (headed x) m n z x l t h b stops

  pub command_full : IsFull (command_of N) (Command R) (Stops 29) D
  unfolding command_of
  command_full s z t (a_command {m = m} {n = n} {x = x} {l = l} e h b) stops =
      leads_eq (command_or N (at (command s.known) s)) (headed_of N x m) (Ok (t, z)) (ap (command_or N) e) (called_full m n z x l t h b stops)

  -- a command with a receiver, and where there is none
  pub ordered_full : (r : Tree) (x : Sym) → IsFull (ordered_of N r x) (Ordered R r x) (Stops 29) D
  unfolding ordered_of
  ordered_full r x n z t (an_order {m = o} {l = l} a b) stops = given_full (λ q. send r x.0 (listed q)) n o z (heads.Call x) l t a b stops

  order_full : (m n z : Place) (r : Reached) (x : Sym) (t : Tree) → at order m ≡ Some (x, n) → Ordered R r.tree x n t z → Stops 29 z → Leads (order_on N r m) (Ok (t, z)) D
  unfolding order_on
  order_full m n z r x t e g stops = leads_eq (order_or N r m (at order m)) (ordered_of N r.tree x n) (Ok (t, z)) (ap (order_or N r m) e) (ordered_full r.tree x n z t g stops)

  order_still : (r : Reached) (m : Place) → Stops 0 m → order_on N r m ≡ reached_on N true r m
  unfolding order_on
  order_still r m stops = ap (order_or N r m) (no_order_at m stops)

  phrase_full : IsFull (phrase_of N) (Phrase R) (Stops 29) D
  unfolding phrase_of
  phrase_full s z t (by_name (a_command {m = m} {n = n} {x = x} {l = l} e h b)) stops =
      leads_eq (phrase_or N s (at (command s.known) s)) (headed_of N x m) (Ok (t, z)) (ap (phrase_or N s) e) (called_full m n z x l t h b stops)
  phrase_full s z t (by_receiver {m = m} {n = n} {r = r} {x = x} h e g) stops =
      leads_eq (phrase_or N s (at (command s.known) s)) (settled_by N (order_on N) s) (Ok (t, z)) (ap (phrase_or N s) (first_no_command s (postfix_first R s m r h)))
      ((unprefixed_full N R D shrinks nests) (order_on N) s m z r t h (order-next m n x e).no_tail (order_full m n z r x t e g stops))
  phrase_full s z t (an_operand h) stops =
      leads_eq (phrase_or N s (at (command s.known) s)) (settled_by N (order_on N) s) (Ok (t, z)) (ap (phrase_or N s) (first_no_command s (settled_first R true s z t h)))
      ((settled_full N R D shrinks nests) true (order_on N) order_still s z t h stops)

  pub value_full : (b : Bool) → IsFull (value_of N b) (Value R b) (Stops (value_stop b)) D
  value_full false = assigned_full false (settled_of N) (Settled R false) plain_full (settled_no_target R false)
  value_full true = assigned_full true (phrase_of N) (Phrase R) phrase_full (phrase_no_target R)

  -- ---- several targets

  -- a comma comes, or the sign
  abbrev pub EndsTarget : Place → Type 0
  EndsTarget z = ends_target z.rest ≡ true

  targeted_full : IsFull (targeted_of N) (Targeted R) EndsTarget D
  unfolding targeted_of word_target
  targeted_full s z t (a_target {m = m} {x = x} e f) stops =
      inl
      (ap (targeted_or N s) (target-lone s m x e (ap ends_target (sym (rest_target x m)) ∙ stops))
      ∙ ap (λ b. cond b (Ok (target_tree x (target_variable x (with_target x m)) (told_behind m.rest), with_target x m)) (Err wrong)) f)
  targeted_full s z t (a_spot {r = r} {p = p} h f) stops =
      leads_eq (targeted_or N s (at lone_target s)) (from (postfix_of N) reached_target s) (Ok (r.tree, z)) (ap (targeted_or N s) (spot_no_lone R s z r p h f))
      (leads_trans (from (postfix_of N) reached_target s) (reached_target r z) (Ok (r.tree, z)) (leads_bind (postfix_of N s) (r, z) (λ x. reached_target x.0 x.1) ((postfix_full N R D shrinks nests) s z r h (ends_stop z stops)))
      (inl (ap (λ o. spot_target r.tree o z) f)))

  pub targeted_before : (s m n : Place) (t : Tree) → Targeted R s t m → next m ≡ Some (kind.Comma, n) → Leads (targeted_of N s) (Ok (t, m)) D
  targeted_before s m n t h e = targeted_full s m t h (comma_ends m n tt (word_here kind.Comma m n e refl))

  pub targets_full : (s z n : Place) (l : List Tree) → Targets R s l z → next z ≡ Some (plain_sign, n) → Leads (targets_of N s) (Ok (l, z)) D
  unfolding targets_of
  targets_full s z n l c e =
      chain_full comma comma one_of and_one (targeted_of N) (Targeted R) EndsTarget D Steps-comma shrinks.targeted (λ m n x e. comma_ends m n x e) (λ m n z x r e h. e) targeted_full s z l c (sign_ends z n e)
      (other-word kind.Comma plain_sign z n e refl)

  -- ---- the right side of several targets

  -- what is read behind the first argument
  values_turn : (l : List Tree) (m n z : Place) (u : Unit {0}) (t : Tree) → at comma m ≡ Some (u, n) → Argument R n t z → Stops 27 z → Leads (values_on N l m) (values_on N (and_one u l t) z) D
  unfolding values_on
  values_turn l m n z u t e h stops =
      leads_eq (values_on N l m) (argument_of N n >>= λ q. values_on N (and_one u l q.0) q.1) (values_on N (and_one u l t) z) (chain_on-turn comma and_one (argument_of N) Steps-comma shrinks.argument l m n u e)
      (leads_bind (argument_of N n) (t, z) (λ q. values_on N (and_one u l q.0) q.1) (argument_full n z t h stops))

  values_end : (l : List Tree) (z : Place) → at comma z ≡ None → values_on N l z ≡ Ok (l, z)
  unfolding values_on
  values_end l z e = chain_on-ends comma and_one (argument_of N) Steps-comma shrinks.argument l z e

  receiver_still : (r : Reached) (m : Place) → Stops 0 m → receiver_on N r m ≡ from (reached_on N false r) (right_on N) m
  unfolding receiver_on
  receiver_still r m stops = ap (sent_or_right N r m) (no_order_at m stops)

  -- the first argument
  unprefixed_argument : (s z : Place) (t : Tree) → is_prefixed s.rest ≡ false → Argument R s t z → Stops 27 z → Leads (from (postfix_of N) (receiver_on N) s) (right_on N t z) D
  unprefixed_argument s z t f (an_assignment {n = n} {x = x} e g h) stops = let never : ◌≡◌ {A = Option (Aim × Place)} (Some (x, n)) None = sym e ∙ (unprefixed s f).0 in absurd cc
  unprefixed_argument s z t f (no_assignment h) stops =
      let u = unprefixed s f in
      let o = (unprefixed_onward N R D shrinks nests) s z t u.1 u.2 h stops in
      leads_trans (from (postfix_of N) (receiver_on N) s) (receiver_on N o.first o.behind) (right_on N t z)
      (leads_bind (postfix_of N s) (o.first, o.behind) (λ x. receiver_on N x.0 x.1) ((postfix_full N R D shrinks nests) s o.behind o.first o.spelled o.stops))
      (leads_eq (receiver_on N o.first o.behind) (from (reached_on N false o.first) (right_on N) o.behind) (right_on N t z) (receiver_still o.first o.behind o.stops)
      (leads_bind (reached_on N false o.first o.behind) (t, z) (λ x. right_on N x.0 x.1) o.leads))

  first_argument : (b : Bool) (s z : Place) (t : Tree) → is_prefixed s.rest ≡ b → Argument R s t z → Stops 27 z → Leads (rights_at N b s) (right_on N t z) D
  first_argument true s z t f h stops = leads_bind (argument_of N s) (t, z) (λ x. right_on N x.0 x.1) (argument_full s z t h stops)
  first_argument false s z t f h stops = unprefixed_argument s z t f h stops

  values_lead : (s z : Place) (l : List Tree) → Chain comma one_of and_one (Argument R) s l z → Stops 27 z → Leads (rights_at N (is_prefixed s.rest) s) (built one_value (values_on N l z)) D
  unfolding right_on
  values_lead s z l (one {t = u} h) stops = first_argument (is_prefixed s.rest) s z u refl h stops
  values_lead s z l (more {m = m} {n = n} {l = k} {r = r} {x = x} c e h) stops =
      leads_trans (rights_at N (is_prefixed s.rest) s) (built one_value (values_on N k m)) (built one_value (values_on N (and_one x k r) z)) (values_lead s m k c (omega (arith, comma_strength m n x e)))
      (leads_built one_value (values_on N k m) (values_on N (and_one x k r) z) (values_turn k m n z x r e h stops))

  -- a command with a receiver
  sent_full : (m n z : Place) (r : Reached) (x : Sym) (t : Tree) → at order m ≡ Some (x, n) → Ordered R r.tree x n t z → Stops 29 z → Leads (receiver_on N r m) (Ok (t, z)) D
  unfolding receiver_on
  sent_full m n z r x t e g stops = leads_eq (sent_or_right N r m (at order m)) (ordered_of N r.tree x n) (Ok (t, z)) (ap (sent_or_right N r m) e) (ordered_full r.tree x n z t g stops)

  rights_unnamed : (s : Place) → at (command s.known) s ≡ None → rights_of N s ≡ rights_at N (is_prefixed s.rest) s
  unfolding rights_of
  rights_unnamed s e = ap (rights_or N s) e

  rights_named : (s m : Place) (x : Head) → at (command s.known) s ≡ Some (x, m) → rights_of N s ≡ headed_of N x m
  unfolding rights_of
  rights_named s m x e = ap (rights_or N s) e

  pub rights_full : IsFull (rights_of N) (Rights R) (Stops 29) D
  rights_full s z t (by_values {l = l} c) stops =
      let f = chain_first comma one_of and_one (Argument R) s z l c in
      leads_eq (rights_of N s) (rights_at N (is_prefixed s.rest) s) (Ok (one_value l, z)) (rights_unnamed s (argument_no_command s f.1 f.0 f.2))
      (leads_trans (rights_at N (is_prefixed s.rest) s) (built one_value (values_on N l z)) (Ok (one_value l, z)) (values_lead s z l c (omega (arith, stops)))
      (inl (ap (built one_value) (values_end l z (word_unseen kind.Comma told_comma z (omega (arith, stops)))))))
  rights_full s z t (by_named (a_command {m = m} {n = n} {x = x} {l = l} e h b)) stops = leads_eq (rights_of N s) (headed_of N x m) (Ok (t, z)) (rights_named s m x e) (called_full m n z x l t h b stops)
  rights_full s z t (by_sent {m = m} {n = n} {r = r} {x = x} h e g) stops =
      leads_eq (rights_of N s) (from (postfix_of N) (receiver_on N) s) (Ok (t, z))
      (rights_unnamed s (first_no_command s (postfix_first R s m r h)) ∙ ap (λ q. rights_at N q s) (receiver_unprefixed s m n r x h e))
      (leads_trans (from (postfix_of N) (receiver_on N) s) (receiver_on N r m) (Ok (t, z)) (leads_bind (postfix_of N s) (r, m) (λ q. receiver_on N q.0 q.1) ((tailless_full N R D shrinks nests) s m r h (order-next m n x e).no_tail))
      (sent_full m n z r x t e g stops))
