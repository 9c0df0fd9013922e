-- What was put before stays in reach as nodes are put.
use Rattle.std.proofs.Common.{◌≡◌, ℕ, ◌<◌, ◌≤◌, List, length, sym, subst, arith}
use Rattle.std.specs.Prelude.{All}
use Rattle.rr_tree.specs.Nodes.{Extends}
use Rattle.rr_tree.proofs.Growth.{Extends-trans, length-kept}
use Rattle.rr_parser.specs.declared.parser.Parser.{Parser}
use Rattle.rr_parser.specs.Meets.{nodes, pairs}
use Rattle.rr_parser.proofs.Making.{grown_list, stable_nodes, stable_pairs}

less_through : (i m n : ℕ) → i < m → m ≤ n → i < n
less_through i m n lt le = omega arith

pub kept_within : (a b : Parser) (i : ℕ) → i < length a.nodes.items → Extends a.nodes.items b.nodes.items → i < length b.nodes.items
kept_within a b i lt e = less_through i (length a.nodes.items) (length b.nodes.items) lt (length-kept a.nodes.items b.nodes.items e)

pub kept_twice : (a b c : Parser) → Extends a.nodes.items b.nodes.items → Extends b.nodes.items c.nodes.items → Extends a.nodes.items c.nodes.items
kept_twice a b c e f = Extends-trans a.nodes.items b.nodes.items c.nodes.items e f

pub kept_all : (a b : Parser) (is js : List ℕ) → js ≡ is → All (λ i. i < length a.nodes.items) is → Extends a.nodes.items b.nodes.items → All (λ i. i < length b.nodes.items) js
kept_all a b is js same all e =
    subst (λ (l : List ℕ). All (λ i. i < length b.nodes.items) l) (sym same) (grown_list nodes stable_nodes (length a.nodes.items) (length b.nodes.items) is (length-kept a.nodes.items b.nodes.items e) all)

pub kept_pairs : (a b : Parser) (ps : List (ℕ × ℕ)) → All (pairs.within (length a.nodes.items)) ps → Extends a.nodes.items b.nodes.items → All (pairs.within (length b.nodes.items)) ps
kept_pairs a b ps all e = grown_list pairs stable_pairs (length a.nodes.items) (length b.nodes.items) ps (length-kept a.nodes.items b.nodes.items e) all
