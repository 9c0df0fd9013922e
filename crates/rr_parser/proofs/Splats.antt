-- Which node a chain of list entries ends at.
use Rattle.std.proofs.Common.{◌≡◌, ℕ, ◌<◌, Bool, List, length, get_or, refl, sym, ap, ◌∙◌, subst}
use Rattle.std.proofs.lemmas.List.{get_or_read_under}
use Rattle.rr_tree.specs.declared.node.Node.{Node}
use Rattle.rr_tree.specs.declared.node.Node.TheVariants as node
use Rattle.rr_tree.specs.Tree.{tree_at, HasPartsBefore, IsOrdered}
use Rattle.rr_tree.specs.Nodes.{IsNoItem, node_tree}
use Rattle.rr_tree.proofs.Trees.{tree_there}
use Rattle.rr_parser.specs.Grammar.Names.{is_splat}

-- the node that was read at a place has the tree there
there : (ns : List Node) → IsOrdered ns → (i : ℕ) (n : Node) → i < length ns → n ≡ get_or ns i n → tree_at ns i ≡ node_tree ns n
there ns ordered i n lt e = tree_there ns ordered i lt ∙ ap (node_tree ns) (sym (get_or_read_under ns i (length ns) n node.Nil e lt refl))

-- an entry stands behind what it names, and has its tree
pub entry_before : (ns : List Node) → IsOrdered ns → (i a : ℕ) (n : Node) → i < length ns → n ≡ get_or ns i n → n ≡ node.Item a → a < i
entry_before ns ordered i a n lt e f = subst (HasPartsBefore i) (sym (get_or_read_under ns i (length ns) n node.Nil e lt refl) ∙ f) (ordered i lt)

pub entry_tree : (ns : List Node) → IsOrdered ns → (i a : ℕ) (n : Node) → i < length ns → n ≡ get_or ns i n → n ≡ node.Item a → tree_at ns a ≡ tree_at ns i
entry_tree ns ordered i a n lt e f = sym (there ns ordered i n lt e ∙ ap (node_tree ns) f)

no_entry : (n : Node) → ((a : ℕ) → n ≡ node.Item a → ⊥) → IsNoItem n
no_entry (node.Item a) h = h a refl
no_entry _ h = tt

-- two reads of one place
pub same_read : (ns : List Node) (i : ℕ) (m n : Node) → i < length ns → m ≡ get_or ns i m → n ≡ get_or ns i n → m ≡ n
same_read ns i m n lt e f = get_or_read_under ns i (length ns) m node.Nil e lt refl ∙ sym (get_or_read_under ns i (length ns) n node.Nil f lt refl)

-- where no entry stands, the node tells
pub splat_there : (ns : List Node) → IsOrdered ns → (i : ℕ) (n : Node) (b : Bool) → i < length ns → n ≡ get_or ns i n → ((a : ℕ) → n ≡ node.Item a → ⊥) → (IsNoItem n → b ≡ is_splat (node_tree ns n)) → b ≡ is_splat (tree_at ns i)
splat_there ns ordered i n b lt e none f = f (no_entry n none) ∙ ap is_splat (sym (there ns ordered i n lt e))

pub splat_same : (ns : List Node) (i j : ℕ) (b : Bool) → b ≡ is_splat (tree_at ns i) → tree_at ns i ≡ tree_at ns j → b ≡ is_splat (tree_at ns j)
splat_same ns i j b e f = e ∙ ap is_splat f
