-- What the code made of elements and attributes, and of assignments to them.
use Rattle.std.proofs.Common.{◌≡◌, ℕ, ◌<◌, Bool, List, length, map, Option, Some, None, Result, Ok, Err, sym, ap, ◌∙◌, subst, arith, []}
use Rattle.std.specs.Borrow.{Bor}
use Rattle.rr_base.specs.declared.name.Sym.{Sym}
use Rattle.rr_tree.specs.declared.node.Node.{Node}
use Rattle.rr_tree.specs.Tree.{Tree, listed, send, index, tree_at}
use Rattle.rr_tree.specs.Nodes.{Extends}
use Rattle.rr_tree.proofs.Growth.{tree_at-kept, Extends-trans, length-kept}
use Rattle.rr_parser.specs.declared.word.Behind.TheVariants as behinds
use Rattle.rr_parser.specs.declared.word.Fence.{Fence}
use Rattle.rr_parser.specs.declared.word.Part.TheVariants as parts
use Rattle.rr_parser.specs.declared.word.Sign.{Sign}
use Rattle.rr_parser.specs.declared.word.Spot.{Spot as CodeSpot}
use Rattle.rr_parser.specs.declared.word.Spot.TheVariants as code_spot
use Rattle.rr_parser.specs.declared.word.Reached.{Reached as CodeReached}
use Rattle.rr_parser.specs.declared.word.Word.{Word}
use Rattle.rr_parser.specs.declared.word.WordKind.TheVariants as kind
use Rattle.rr_parser.specs.declared.refusal.Refusal.{Refusal}
use Rattle.rr_parser.specs.declared.parser.Parser.{Parser}
use Rattle.rr_parser.specs.Places.{Place, word, at}
use Rattle.rr_parser.specs.Grammar.Operands.{Spot, element, attribute, Reached, plain, at_element}
use Rattle.rr_parser.specs.Grammar.Fences.{opening}
use Rattle.rr_parser.specs.Grammar.Calls.{sign, settled}
use Rattle.rr_parser.specs.Reading.Answers.{◌>>=◌, Answer, Parse, built, from}
use Rattle.rr_parser.specs.Reading.Nesting.{Readers}
use Rattle.rr_parser.specs.Reading.Operands.{block_behind, blocked_of, sent_or, sent_of, sent_call_of, element_of, tree_reached, postfix_of, prefix_minus}
use Rattle.rr_parser.specs.Reading.Operators.{ternary_on, ternary_of}
use Rattle.rr_parser.specs.Reading.Calls.{setting_or, setting_of, behind_bang, behind_minus, settled_by, arguments_of, ordered_of}
use Rattle.rr_parser.specs.Meets.{nodes, lists, reaches, spot_tree, spot_within, Made, Fails, Gives, Puts, place}
use Rattle.rr_parser.proofs.Making.{made_eq, fails_bind, fails_eq, made_over, seen_at, unseen_at, same_place, gives_from}
use Rattle.rr_parser.specs.declared.word.Head.TheVariants as heads

-- ---- what an element or an attribute stands for stays

pub spot_kept : (a b : List Node) (p : CodeSpot) → Extends a b → spot_within (length a) p → spot_tree b p ≡ spot_tree a p
spot_kept a b (code_spot.Element r i) x w = ap (λ t. element t (tree_at b i)) (tree_at-kept a b r x w.0) ∙ ap (element (tree_at a r)) (tree_at-kept a b i x w.1)
spot_kept a b (code_spot.Attribute r y) x w = ap (λ t. attribute t y) (tree_at-kept a b r x w)

pub spot_grows : (a b : List Node) (p : CodeSpot) → Extends a b → spot_within (length a) p → spot_within (length b) p
spot_grows a b (code_spot.Element r i) x w = (omega (arith, w.0, length-kept a b x), omega (arith, w.1, length-kept a b x))
spot_grows a b (code_spot.Attribute r y) x w = omega (arith, w, length-kept a b x)

-- ---- operands

-- the tree of an operand
pub made_reached : (old new : Parser) (e : CodeReached) (rest : List Word) (read : Answer Reached) → Made reaches old new e rest read → Made nodes old new e.node rest (built tree_reached read)
made_reached old new e rest read m = record { there = m.there.0; tree = ap (built tree_reached) m.tree; kept = m.kept }

pub made_plain : (old new : Parser) (id : ℕ) (rest : List Word) (read : Answer Tree) → Made nodes old new id rest read → Made reaches old new (record { node = id; spot = None }) rest (built plain read)
made_plain old new id rest read m = record { there = (m.there, tt); tree = ap (built plain) m.tree; kept = m.kept }

abbrev so : Tree → Option Spot → Reached
so t p = record { tree = t; spot = p }

abbrev answered : Reached → Place → Answer Reached
answered r s = Ok (r, s)

-- where calls take the word `do` is as it was
same_opening : (old mid : Parser) (words : List Word) → mid.known ≡ old.known → opening behinds.Call mid.known.takes_do words ≡ opening behinds.Call old.known.takes_do words
same_opening old mid words e = ap (λ v. opening behinds.Call v.takes_do words) e

pub made_attribute : (N : Readers) (old new : Parser) (l id : ℕ) (x : Sym) (words : List Word) → l < length old.nodes.items → Puts old new (send (tree_at old.nodes.items l) x.0 (listed [])) id → opening behinds.Call new.known.takes_do words ≡ None
    → Made reaches old new (record { node = id; spot = Some (code_spot.Attribute l x) }) words (sent_of N (tree_at old.nodes.items l) x (place old words))
unfolding sent_of
made_attribute N old new l id x words lt p e =
    let t = tree_at old.nodes.items l in
    let a : ℕ → Tree = tree_at new.nodes.items in
    record {
      there = (p.there, omega (arith, lt, length-kept old.nodes.items new.nodes.items p.kept));
      tree =
          ap (sent_or N t x (place old words)) (unseen_at old (opening behinds.Call old.known.takes_do) words (sym (same_opening old new words p.known) ∙ e))
          ∙ ap (λ (u : Tree). answered (so u (Some (attribute t x))) (place old words)) (sym p.tree)
          ∙ ap (λ (u : Tree). answered (so (a id) (Some (attribute u x))) (place old words)) (sym (tree_at-kept old.nodes.items new.nodes.items l p.kept lt))
          ∙ ap (λ (s : Place). answered (so (a id) (Some (attribute (a l) x))) s) (sym (same_place old new words p.known));
      kept = p.kept;
    }

reads_block : (N : Readers) (old m1 : Parser) (l id : ℕ) (x : Sym) (words after : List Word) (k : Fence) → Puts old m1 (send (tree_at old.nodes.items l) x.0 (listed [])) id → opening behinds.Call m1.known.takes_do words ≡ Some (k, after)
    → sent_of N (tree_at old.nodes.items l) x (place old words) ≡ built plain (block_behind N k (tree_at m1.nodes.items id) (place m1 after))
unfolding sent_of
reads_block N old m1 l id x words after k p e =
    let t = tree_at old.nodes.items l in
    ap (sent_or N t x (place old words)) (seen_at old (opening behinds.Call old.known.takes_do) words after k (sym (same_opening old m1 words p.known) ∙ e))
    ∙ ap (λ (u : Tree). built plain (block_behind N k u (place old after))) (sym p.tree)
    ∙ ap (λ (s : Place). built plain (block_behind N k (tree_at m1.nodes.items id) s)) (sym (same_place old m1 after p.known))

pub made_block_send : (N : Readers) (old m1 new : Parser) (l id b : ℕ) (x : Sym) (words after rest : List Word) (k : Fence) → Puts old m1 (send (tree_at old.nodes.items l) x.0 (listed [])) id
    → opening behinds.Call m1.known.takes_do words ≡ Some (k, after) → Made nodes m1 new b rest (block_behind N k (tree_at m1.nodes.items id) (place m1 after))
    → Made reaches old new (record { node = b; spot = None }) rest (sent_of N (tree_at old.nodes.items l) x (place old words))
made_block_send N old m1 new l id b x words after rest k p e m = record {
  there = (m.there, tt);
  tree = reads_block N old m1 l id x words after k p e ∙ ap (built plain) m.tree;
  kept = Extends-trans old.nodes.items m1.nodes.items new.nodes.items p.kept m.kept;
}

pub fails_block_send : (N : Readers) (old m1 : Parser) (l id : ℕ) (x : Sym) (words after : List Word) (k : Fence) (d : Refusal) → Puts old m1 (send (tree_at old.nodes.items l) x.0 (listed [])) id
    → opening behinds.Call m1.known.takes_do words ≡ Some (k, after) → Fails d (block_behind N k (tree_at m1.nodes.items id) (place m1 after)) → Fails d (sent_of N (tree_at old.nodes.items l) x (place old words))
fails_block_send N old m1 l id x words after k d p e h =
    fails_eq d (sent_of N (tree_at old.nodes.items l) x (place old words)) (built plain (block_behind N k (tree_at m1.nodes.items id) (place m1 after))) (reads_block N old m1 l id x words after k p e)
    (fails_bind d (block_behind N k (tree_at m1.nodes.items id) (place m1 after)) (λ q. Ok (plain q.0, q.1)) h)

-- a call and its arguments, and what stands behind them
pub gives_sent : (N : Readers) (old m1 m2 new : Parser) (l id : ℕ) (x : Sym) (es fs : List ℕ) (words rest : List Word) (r : Result (ℕ × Bor (List Word)) Refusal) → fs ≡ es → l < length old.nodes.items
    → Made (lists nodes) old m1 es rest (N.bracketed (place old words)) → Puts m1 m2 (send (tree_at m1.nodes.items l) x.0 (listed (map (tree_at m1.nodes.items) fs))) id
    → Gives m2 new r (blocked_of N behinds.Call (tree_at m2.nodes.items id) (place m2 rest)) → Gives old new r (sent_call_of N (tree_at old.nodes.items l) x (place old words))
unfolding sent_call_of
gives_sent N old m1 m2 new l id x es fs words rest r same lt m p g =
    let reads : List Tree → Tree = λ q. send (tree_at old.nodes.items l) x.0 (listed q) in
    let made : Made nodes old m2 id rest (built reads (N.bracketed (place old words))) =
    made_over reads m p (ap (λ (u : Tree). send u x.0 (listed (map (tree_at m1.nodes.items) fs))) (tree_at-kept old.nodes.items m1.nodes.items l m.kept lt) ∙ ap (λ (q : List ℕ). reads (map (tree_at m1.nodes.items) q)) same) in
    gives_from old m2 new id rest (built reads (N.bracketed (place old words))) (λ c s. blocked_of N behinds.Call c s) r made g

-- the same of a command
pub gives_ordered : (N : Readers) (old m1 m2 new : Parser) (l id : ℕ) (x : Sym) (es fs : List ℕ) (words rest : List Word) (r : Result (ℕ × Bor (List Word)) Refusal) → fs ≡ es → l < length old.nodes.items
    → Made (lists nodes) old m1 es rest (arguments_of N (heads.Call x) (place old words)) → Puts m1 m2 (send (tree_at m1.nodes.items l) x.0 (listed (map (tree_at m1.nodes.items) fs))) id
    → Gives m2 new r (blocked_of N (behinds.Command (heads.Call x)) (tree_at m2.nodes.items id) (place m2 rest)) → Gives old new r (ordered_of N (tree_at old.nodes.items l) x (place old words))
unfolding ordered_of
gives_ordered N old m1 m2 new l id x es fs words rest r same lt m p g =
    let given = arguments_of N (heads.Call x) (place old words) in
    let reads : List Tree → Tree = λ q. send (tree_at old.nodes.items l) x.0 (listed q) in
    let made : Made nodes old m2 id rest (built reads given) =
    made_over reads m p (ap (λ (u : Tree). send u x.0 (listed (map (tree_at m1.nodes.items) fs))) (tree_at-kept old.nodes.items m1.nodes.items l m.kept lt) ∙ ap (λ (q : List ℕ). reads (map (tree_at m1.nodes.items) q)) same) in
    gives_from old m2 new id rest (built reads given) (λ c s. blocked_of N (behinds.Command (heads.Call x)) c s) r made g

-- an operand and its index
pub made_element : (N : Readers) (old m1 new : Parser) (l a id : ℕ) (words rest : List Word) → l < length old.nodes.items → Made nodes old m1 a rest (N.part parts.Index (place old words)) → Puts m1 new (index (tree_at m1.nodes.items l) (tree_at m1.nodes.items a)) id
    → Made reaches old new (record { node = id; spot = Some (code_spot.Element l a) }) rest (element_of N (tree_at old.nodes.items l) (place old words))
unfolding element_of
made_element N old m1 new l a id words rest lt m p =
    let t = tree_at old.nodes.items l in
    let i = tree_at m1.nodes.items a in
    let n : ℕ → Tree = tree_at new.nodes.items in
    let below = length-kept m1.nodes.items new.nodes.items p.kept in
    let first = tree_at-kept old.nodes.items m1.nodes.items l m.kept lt in
    let lt1 : l < length m1.nodes.items = omega (arith, lt, length-kept old.nodes.items m1.nodes.items m.kept) in
    record {
      there = (p.there, (omega (arith, lt1, below), omega (arith, m.there, below)));
      tree =
          ap (built (at_element t)) m.tree
          ∙ ap (λ (u : Tree). answered (so u (Some (element t i))) (place m1 rest)) (sym (p.tree ∙ ap (λ (u : Tree). index u i) first))
          ∙ ap (λ (u : Tree). answered (so (n id) (Some (element u i))) (place m1 rest)) (sym (tree_at-kept m1.nodes.items new.nodes.items l p.kept lt1 ∙ first))
          ∙ ap (λ (u : Tree). answered (so (n id) (Some (element (n l) u))) (place m1 rest)) (sym (tree_at-kept m1.nodes.items new.nodes.items a p.kept m.there))
          ∙ ap (λ (s : Place). answered (so (n id) (Some (element (n l) (n a)))) s) (sym (same_place m1 new rest p.known));
      kept = Extends-trans old.nodes.items m1.nodes.items new.nodes.items m.kept p.kept;
    }

-- ---- assignments

reads_setting : (N : Readers) (b : Bool) (old : Parser) (l : ℕ) (p : CodeSpot) (q : Sign) (words after : List Word) → sign words ≡ Some (q, after)
    → setting_of N b (tree_at old.nodes.items l) (spot_tree old.nodes.items p) (place old words) ≡ built (settled q (spot_tree old.nodes.items p) (tree_at old.nodes.items l)) (N.value b (place old after))
unfolding setting_of
reads_setting N b old l p q words after e = ap (setting_or N b (tree_at old.nodes.items l) (spot_tree old.nodes.items p) (place old words)) (seen_at old sign words after q e)

pub made_setting : (N : Readers) (b : Bool) (old m1 new : Parser) (l v id : ℕ) (p : CodeSpot) (q : Sign) (words after rest : List Word) → l < length old.nodes.items → spot_within (length old.nodes.items) p → sign words ≡ Some (q, after)
    → Made nodes old m1 v rest (N.value b (place old after)) → Puts m1 new (settled q (spot_tree m1.nodes.items p) (tree_at m1.nodes.items l) (tree_at m1.nodes.items v)) id
    → Made nodes old new id rest (setting_of N b (tree_at old.nodes.items l) (spot_tree old.nodes.items p) (place old words))
made_setting N b old m1 new l v id p q words after rest lt w e m u =
    let does = settled q (spot_tree old.nodes.items p) (tree_at old.nodes.items l) in
    made_eq (setting_of N b (tree_at old.nodes.items l) (spot_tree old.nodes.items p) (place old words)) (built does (N.value b (place old after))) (reads_setting N b old l p q words after e)
    (made_over does m u
    (ap (λ (s : Spot). settled q s (tree_at m1.nodes.items l) (tree_at m1.nodes.items v)) (spot_kept old.nodes.items m1.nodes.items p m.kept w)
    ∙ ap (λ (t : Tree). settled q (spot_tree old.nodes.items p) t (tree_at m1.nodes.items v)) (tree_at-kept old.nodes.items m1.nodes.items l m.kept lt)))

pub fails_setting : (N : Readers) (b : Bool) (old : Parser) (l : ℕ) (p : CodeSpot) (q : Sign) (words after : List Word) (d : Refusal) → sign words ≡ Some (q, after) → Fails d (N.value b (place old after))
    → Fails d (setting_of N b (tree_at old.nodes.items l) (spot_tree old.nodes.items p) (place old words))
fails_setting N b old l p q words after d e h =
    let does = settled q (spot_tree old.nodes.items p) (tree_at old.nodes.items l) in
    fails_eq d (setting_of N b (tree_at old.nodes.items l) (spot_tree old.nodes.items p) (place old words)) (built does (N.value b (place old after))) (reads_setting N b old l p q words after e)
    (fails_bind d (N.value b (place old after)) (λ x. Ok (does x.0, x.1)) h)

pub gives_unsigned : (N : Readers) (b : Bool) (old new : Parser) (l : ℕ) (p : CodeSpot) (words : List Word) (r : Result (ℕ × Bor (List Word)) Refusal) → sign words ≡ None → Gives old new r (ternary_on N (tree_at old.nodes.items l) (place old words))
    → Gives old new r (setting_of N b (tree_at old.nodes.items l) (spot_tree old.nodes.items p) (place old words))
unfolding setting_of
gives_unsigned N b old new l p words r e g = subst (λ o. Gives old new r (setting_or N b (tree_at old.nodes.items l) (spot_tree old.nodes.items p) (place old words) o)) (sym (unseen_at old sign words e)) g

-- ---- what stands before an operand

pub gives_minus : (N : Readers) (on : Reached → Parse Tree) (old new : Parser) (words after : List Word) (r : Result (ℕ × Bor (List Word)) Refusal) → prefix_minus words ≡ Some (tt, after) → Gives old new r (ternary_of N (place old words)) → Gives old new r (settled_by N on (place old words))
unfolding settled_by
gives_minus N on old new words after r e g = subst (λ o. Gives old new r (behind_minus N on (place old words) o)) (sym (seen_at old prefix_minus words after tt e)) g

reads_behind : (N : Readers) (on : Reached → Parse Tree) (old : Parser) (words : List Word) → prefix_minus words ≡ None → settled_by N on (place old words) ≡ behind_bang N on (place old words) (at (word kind.Bang) (place old words))
unfolding settled_by
reads_behind N on old words e = ap (behind_minus N on (place old words)) (unseen_at old prefix_minus words e)

pub gives_bang : (N : Readers) (on : Reached → Parse Tree) (old new : Parser) (words after : List Word) (r : Result (ℕ × Bor (List Word)) Refusal) → prefix_minus words ≡ None → word kind.Bang words ≡ Some (tt, after) → Gives old new r (ternary_of N (place old words))
    → Gives old new r (settled_by N on (place old words))
gives_bang N on old new words after r e f g =
    subst (λ (q : Answer Tree). Gives old new r q) (sym (reads_behind N on old words e ∙ ap (behind_bang N on (place old words)) (seen_at old (word kind.Bang) words after tt f))) g

reads_unprefixed : (N : Readers) (on : Reached → Parse Tree) (old : Parser) (words : List Word) → prefix_minus words ≡ None → word kind.Bang words ≡ None → settled_by N on (place old words) ≡ from (postfix_of N) on (place old words)
reads_unprefixed N on old words e f = reads_behind N on old words e ∙ ap (behind_bang N on (place old words)) (unseen_at old (word kind.Bang) words f)

pub fails_unprefixed : (N : Readers) (on : Reached → Parse Tree) (old : Parser) (words : List Word) (d : Refusal) → prefix_minus words ≡ None → word kind.Bang words ≡ None → Fails d (postfix_of N (place old words)) → Fails d (settled_by N on (place old words))
fails_unprefixed N on old words d e f h =
    fails_eq d (settled_by N on (place old words)) (from (postfix_of N) on (place old words)) (reads_unprefixed N on old words e f)
    (fails_bind d (postfix_of N (place old words)) (λ x. on x.0 x.1) h)

pub gives_unprefixed : (N : Readers) (on : Reached → Parse Tree) (old m1 new : Parser) (e : CodeReached) (words rest : List Word) (r : Result (ℕ × Bor (List Word)) Refusal) → prefix_minus words ≡ None → word kind.Bang words ≡ None
    → Made reaches old m1 e rest (postfix_of N (place old words)) → Gives m1 new r (on (reaches.tree m1.nodes.items e) (place m1 rest)) → Gives old new r (settled_by N on (place old words))
gives_unprefixed N on old m1 new e words rest r f g m h =
    subst (λ (q : Answer Tree). Gives old new r q) (sym (reads_unprefixed N on old words f g ∙ ap (λ (q : Answer Reached). q >>= λ x. on x.0 x.1) m.tree)) (grown r h)
  where
    behind : Answer Tree
    behind = on (reaches.tree m1.nodes.items e) (place m1 rest)

    grown : (r : Result (ℕ × Bor (List Word)) Refusal) → Gives m1 new r behind → Gives old new r behind
    grown (Ok x) i = record { there = i.there; tree = i.tree; kept = Extends-trans old.nodes.items m1.nodes.items new.nodes.items m.kept i.kept }
    grown (Err d) i = i
