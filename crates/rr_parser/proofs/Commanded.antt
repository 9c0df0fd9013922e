-- Statements that begin with a command.
use Rattle.std.proofs.Common.{◌≡◌, ℕ, Bool, true, false, ◌||◌, List, Option, Some, None, is_some, Result, refl, sym, ap, ◌∙◌, subst}
use Rattle.std.specs.Borrow.{Bor}
use Rattle.std.proofs.lemmas.Option.{none-some}
use Rattle.rr_tree.specs.Tree.{Tree, tree_at}
use Rattle.rr_parser.specs.declared.parser.Parser.{Parser}
use Rattle.rr_parser.specs.declared.refusal.Refusal.{Refusal}
use Rattle.rr_parser.specs.declared.word.Head.{Head}
use Rattle.rr_parser.specs.declared.word.Word.{Word}
use Rattle.rr_parser.specs.declared.word.WordKind.{WordKind}
use Rattle.rr_parser.specs.declared.word.WordKind.TheVariants as kind
use Rattle.rr_parser.specs.Places.{Place, is_kind, word, at}
use Rattle.rr_parser.specs.Grammar.Names.{head_of_kind, command}
use Rattle.rr_parser.specs.Grammar.Calls.{target}
use Rattle.rr_parser.specs.Grammar.Several.{several}
use Rattle.rr_parser.specs.Reading.Answers.{◌>>=◌, Answer}
use Rattle.rr_parser.specs.Reading.Nesting.{Readers}
use Rattle.rr_parser.specs.Reading.Calls.{is_prefixed, assigned_or, assigned_of, headed_of, phrase_or, phrase_of}
use Rattle.rr_parser.specs.Reading.Sequences.{negation_or, negation_of, connected_on, expression_of, is_led, simple_at, simple_or, simple_of}
use Rattle.rr_parser.specs.Meets.{nodes, Made, Fails, Gives, known_of, place}
use Rattle.rr_parser.proofs.Looks.{none_unless, placed_some, head-next, command-next, other-word}
use Rattle.rr_parser.proofs.Stopping.{aim_no_command}
use Rattle.rr_parser.proofs.Making.{fails_bind, fails_eq, seen_at, unseen_at, gives_from}

head_no_not : (k : WordKind) (x : Head) → head_of_kind k ≡ Some x → is_kind k kind.NotWord ≡ false
head_no_not (kind.Name y n) x e = refl
head_no_not (kind.Jump j) x e = refl
head_no_not (kind.Passing p) x e = refl
head_no_not _ x e = absurd (none-some x e)

any_of : (a b c : Bool) → b ≡ true → (a || b || c) ≡ true
any_of true b c e = refl
any_of false true c e = refl
any_of false false c e = absurd cc

module _ (N : Readers) (s m : Place) (x : Head) (alone : at several s ≡ None) (e : at (command s.known) s ≡ Some (x, m)) where
  no_not : at (word kind.NotWord) s ≡ None
  no_not = let h = head-next s m x (command-next s m x e).0 in other-word kind.NotWord h.0 s m h.1 (head_no_not h.0 x h.2)

  no_aim : at target s ≡ None
  no_aim = none_unless (at target s) (λ y n f.
      let g : ◌≡◌ {A = Option (Head × Place)} (Some (x, m)) None = sym e ∙ aim_no_command s n y f in
      let never : ⊥ = cc in never)

  led : is_led s.known s.rest ≡ true
  led = any_of (is_some (word kind.NotWord s.rest)) (is_some (command s.known s.rest)) (is_prefixed s.rest) (ap (λ o. is_some o) (placed_some s.known (command s.known s.rest) x m e).0)

  -- the command is read, and what is connected with it
  simple_commanded : simple_of N s ≡ (headed_of N x m >>= λ q. connected_on N q.0 q.1)
  unfolding simple_of expression_of negation_of assigned_of phrase_of
  simple_commanded =
      ap (simple_or N s) alone
      ∙ ap (λ (b : Bool). simple_at N b s) led
      ∙ ap (λ (q : Answer Tree). q >>= λ r. connected_on N r.0 r.1) (ap (negation_or N s) no_not ∙ ap (assigned_or N true (phrase_of N) s) no_aim ∙ ap (phrase_or N s) e)

module _ (N : Readers) (old : Parser) (x : Head) (words after : List Word) (alone : several words ≡ None) (e : command (known_of old) words ≡ Some (x, after)) where
  reads_commanded : simple_of N (place old words) ≡ (headed_of N x (place old after) >>= λ q. connected_on N q.0 q.1)
  reads_commanded = simple_commanded N (place old words) (place old after) x (unseen_at old several words alone) (seen_at old (command (known_of old)) words after x e)

  pub gives_commanded : (mid new : Parser) (id : ℕ) (rest : List Word) (r : Result (ℕ × Bor (List Word)) Refusal) → Made nodes old mid id rest (headed_of N x (place old after))
      → Gives mid new r (connected_on N (tree_at mid.nodes.items id) (place mid rest)) → Gives old new r (simple_of N (place old words))
  gives_commanded mid new id rest r m g =
      subst (λ (q : Answer Tree). Gives old new r q) (sym reads_commanded) (gives_from old mid new id rest (headed_of N x (place old after)) (λ c s. connected_on N c s) r m g)

  pub fails_commanded : (d : Refusal) → Fails d (headed_of N x (place old after)) → Fails d (simple_of N (place old words))
  fails_commanded d h =
      fails_eq d (simple_of N (place old words)) (headed_of N x (place old after) >>= λ q. connected_on N q.0 q.1) reads_commanded (fails_bind d (headed_of N x (place old after)) (λ q. connected_on N q.0 q.1) h)
