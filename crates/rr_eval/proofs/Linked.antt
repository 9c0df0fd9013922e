-- Operators one after the other, and where their links lie.
use Rattle.std.proofs.Common.{◌≡◌, ℕ, ◌+◌, ◌-◌, ◌<◌, ◌≤◌, ◌∙◌, ap, refl, sym, arith, List, [], ◌∷◌, ◌++◌, length, take, drop, get_or, false, Some}
use Rattle.std.proofs.lemmas.List.{drop-append-le, take-append-le, take_all, length-drop, length-append}
use Rattle.rr_parser.specs.Grammar.Names.{is_splat}
use Rattle.rr_tree.specs.Tree.{Tree, call, binary, tree_at}
use Rattle.rr_tree.specs.declared.program.Program.{Program}
use Rattle.rr_eval.specs.declared.chains.Chain.{Chain}
use Rattle.rr_eval.specs.declared.chains.Link.{Link}
use Rattle.rr_eval.specs.declared.simple_parts.ApartPart.{ApartPart}
use Rattle.rr_eval.specs.declared.simple_parts.ApartPart.TheVariants as apart
use Rattle.rr_eval.specs.declared.simple_parts.SimplePart.{SimplePart}
use Rattle.rr_eval.specs.declared.simple_parts.SimplePart.TheVariants.{Variable, Int, WithInt, WithVariable, Value, Itself, Apart, Other}
use Rattle.rr_eval.specs.SimpleParts.{AreSimple, IsApart, IsSimple, IsChain, IsFilled, IsLinked, linked, links_of, longest}

-- the first of some links, and the others
pub front : (links : List Link) (none : Link) → 1 ≤ length links → links ≡ get_or links 0 none ∷ take (length links - 1) (drop 1 links)
front [] none some = absurd (let no : ⊥ = omega (arith, some) in no)
front (l ∷ ls) none some = ap (λ ks. l ∷ ks) (sym (take_all (length (l ∷ ls) - 1) ls (omega arith)))

pub no_links : (links : List Link) → length links < 1 → links ≡ []
no_links [] none = refl
no_links (l ∷ more) none = absurd (let no : ⊥ = omega (arith, none) in no)

-- one more link behind the others
pub linked_more : (p : Program) (tree : Tree) (ls : List Link) (l : Link) → linked p tree (ls ++ l ∷ []) ≡ binary l.op (linked p tree ls) (tree_at p.nodes.items l.right)
linked_more p tree [] l = refl
linked_more p tree (k ∷ ks) l = linked_more p (binary k.op tree (tree_at p.nodes.items k.right)) ks l

-- what begins with a tree that is no splat is none
pub linked_plain : (p : Program) (tree : Tree) (ls : List Link) → is_splat tree ≡ false → is_splat (linked p tree ls) ≡ false
linked_plain p tree [] e = e
linked_plain p tree (k ∷ ks) e = linked_plain p (binary k.op tree (tree_at p.nodes.items k.right)) ks refl

-- what lies among the links lies there still where more stand behind them
links_wider : (links : List Link) (l : Link) (chain : Chain) → chain.from + chain.count ≤ length links → links_of (links ++ l ∷ []) chain ≡ links_of links chain
links_wider links l chain there =
    let from : chain.from ≤ length links = omega (arith, there) in
    let long : length (drop chain.from links) ≡ length links - chain.from = length-drop chain.from links in
    let count : chain.count ≤ length (drop chain.from links) = omega (arith, there, long) in
    ap (take chain.count) (drop-append-le chain.from links (l ∷ []) from) ∙ take-append-le chain.count (drop chain.from links) (l ∷ []) count

chain_wider : (p : Program) (links : List Link) (l : Link) (chain : Chain) (tree : Tree) → IsChain p links chain tree → IsChain p (links ++ l ∷ []) chain tree
chain_wider p links l chain tree is =
    let there = is.1.0 in
    let longer : length (links ++ l ∷ []) ≡ length links + 1 = length-append links (l ∷ []) in
    (is.0, (omega (arith, there, longer), ap (linked p (tree_at p.nodes.items chain.first)) (links_wider links l chain there) ∙ is.1.1), is.2)

filled_wider : (p : Program) (links : List Link) (l : Link) (chain : Chain) (body tree : Tree) → IsFilled p links chain body tree → IsFilled p (links ++ l ∷ []) chain body tree
filled_wider p links l chain body (call x list) is =
    let there = is.0 in
    let longer : length (links ++ l ∷ []) ≡ length links + 1 = length-append links (l ∷ []) in
    (omega (arith, there, longer), is.1, is.2, is.3, is.4 ∙ ap (λ ls. Some (linked p (tree_at p.nodes.items chain.first) ls)) (sym (links_wider links l chain there)))
filled_wider p links l chain body _ is = is

apart_wider : (p : Program) (links : List Link) (l : Link) (tree : Tree) (a : ApartPart) → IsApart p links tree a → IsApart p (links ++ l ∷ []) tree a
apart_wider p links l tree (apart.Chain chain) is = chain_wider p links l chain tree is
apart_wider p links l tree (apart.Field x) is = is
apart_wider p links l tree (apart.Attribute v x) is = is
apart_wider p links l tree (apart.Call chain body) is = filled_wider p links l chain (tree_at p.nodes.items body) tree is
apart_wider p links l tree (apart.Global x) is = is
apart_wider p links l tree (apart.Constant x class) is = is

simple_wider : (p : Program) (links : List Link) (l : Link) (tree : Tree) (s : SimplePart) → IsSimple p links tree s → IsSimple p (links ++ l ∷ []) tree s
simple_wider p links l tree (Apart a) is = apart_wider p links l tree a is
simple_wider p links l tree (Value v) is = is
simple_wider p links l tree Itself is = is
simple_wider p links l tree (Variable v) is = is
simple_wider p links l tree (Int z) is = is
simple_wider p links l tree (WithInt op v z) is = is
simple_wider p links l tree (WithVariable op v w) is = is
simple_wider p links l tree Other is = is

-- parts are what they were where one more link stands behind the others
pub parts_wider : (p : Program) (links : List Link) (l : Link) (parts : List SimplePart) → AreSimple p links parts → AreSimple p (links ++ l ∷ []) parts
parts_wider p links l parts are = λ x s e. simple_wider p links l (tree_at p.nodes.items x) s (are x s e)

-- the links of a chain that ends with the last of all, and one more
links_longer : (links : List Link) (l : Link) (from count : ℕ) → from + count ≡ length links → take (count + 1) (drop from (links ++ l ∷ [])) ≡ take count (drop from links) ++ l ∷ []
links_longer links l from count ends =
    let start : from ≤ length links = omega (arith, ends) in
    let long : length (drop from links) ≡ length links - from = length-drop from links in
    let count_is : count ≡ length (drop from links) = omega (arith, ends, long) in
    let all : take count (drop from links) ≡ drop from links = ap (λ n. take n (drop from links)) count_is ∙ take_all (length (drop from links)) (drop from links) (omega arith) in
    let longer : count + 1 ≡ length (drop from links ++ l ∷ []) = omega (arith, count_is, length-append (drop from links) (l ∷ [])) in
    ap (take (count + 1)) (drop-append-le from links (l ∷ []) start) ∙ ap (λ n. take n (drop from links ++ l ∷ [])) longer ∙ take_all (length (drop from links ++ l ∷ [])) (drop from links ++ l ∷ []) (omega arith) ∙ ap (λ xs. xs ++ l ∷ []) (sym all)

-- a chain and an operator behind it
pub chain_longer : (p : Program) (links : List Link) (chain : Chain) (l : Link) (tree : Tree) → IsLinked p links chain tree → chain.count < longest → chain.from + chain.count ≡ length links → IsChain p (links ++ l ∷ []) (record chain { count = chain.count + 1 }) (binary l.op tree (tree_at p.nodes.items l.right))
chain_longer p links chain l tree is short ends =
    let longer : length (links ++ l ∷ []) ≡ length links + 1 = length-append links (l ∷ []) in
    let first = tree_at p.nodes.items chain.first in
    (omega arith, (omega (arith, ends, longer), ap (linked p first) (links_longer links l chain.from chain.count ends) ∙ linked_more p first (links_of links chain) l ∙ ap (λ t. binary l.op t (tree_at p.nodes.items l.right)) is.1), omega (arith, short))
