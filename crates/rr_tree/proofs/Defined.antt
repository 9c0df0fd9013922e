-- The last definitions of what is called so.
use Rattle.std.proofs.Common.{◌≡◌, ℕ, zero, suc, ◌+◌, ◌-◌, ◌<◌, ◌≤◌, ◌∙◌, Bool, true, false, nat_eq, List, [], ◌∷◌, ◌++◌, length, get_or, map, take, drop, slice_set, if◌then◌else◌, Option, Some, None, refl, ap, sym, arith, length-take, length-drop, append_assoc}
use Rattle.std.specs.Prelude.{flat_map}
use Rattle.std.specs.Option.{option_or}
use Rattle.std.proofs.lemmas.Grind.{flat_map-append}
use Rattle.std.proofs.lemmas.List.{append-nil, map-append, take_more, get_or-take, get_or-drop}
use Rattle.std.proofs.lemmas.List.Elements.{filter-append}
use Rattle.std.proofs.Math.Dec.{eqb-suc-zero, eqb-zero-suc, eqb-suc-suc}
use Rattle.rr_base.specs.declared.name.ClassId.{ClassId}
use Rattle.rr_base.specs.declared.name.Sym.{Sym}
use Rattle.rr_tree.specs.Ancestors.{superclass_of}
use Rattle.rr_tree.specs.declared.method_table.Entry.{Entry}
use Rattle.rr_tree.specs.declared.method_table.MethodName.{MethodName}
use Rattle.rr_tree.specs.declared.method_table.MethodName.TheVariants as name
use Rattle.rr_tree.specs.declared.method_table.MethodTable.{MethodTable}
use Rattle.rr_tree.specs.declared.node.Node.{Node}
use Rattle.rr_tree.specs.declared.node.Node.TheVariants as node
use Rattle.rr_tree.specs.declared.program.Program.{Program}
use Rattle.rr_tree.specs.Nodes.{IsNoItem, node_tree, trees_in}
use Rattle.rr_tree.specs.Tree.{Tree, Trees, empty, then_one, listed, listed_after, nil, trees_after, tree_at}
use Rattle.rr_tree.specs.Methods.{Definition, Held, members, standing_in, definitions_in, definitions_of, is_number, is_called_by, calls, called, belongs, last_in, own_method, held, held_above, nearest_among, nearest_method, number_in, definition_at, entries_under, kept_under, Adds}
use Rattle.rr_tree.proofs.Trees.{length-trees}

-- a node that is no item
pub no_item : (n : Node) → ((a : ℕ) → n ≡ node.Item a → ⊥) → IsNoItem n
no_item (node.Item a) other = absurd (other a refl)
no_item _ other = tt

or_if : {A : Type 0} (b : Bool) (t : A) (o y : Option A) → option_or (if b then Some t else o) y ≡ (if b then Some t else option_or o y)
or_if true t o y = refl
or_if false t o y = refl

-- one more definition
pub last_more : (p : Program) (c : ℕ) (ds : List Definition) (d : Definition) → last_in p c (ds ++ d ∷ []) ≡ (if belongs p c d.class then Some d.tree else last_in p c ds)
last_more p c [] d = refl
last_more p c (e ∷ ds) d =
    ap (λ o. option_or o (if belongs p c e.class then Some e.tree else None)) (last_more p c ds d)
    ∙ or_if (belongs p c d.class) d.tree (last_in p c ds) (if belongs p c e.class then Some e.tree else None)

-- a list that was made of trees has these trees
members_after : (l : Trees) (ts : List Tree) → members (listed_after l ts) ≡ members l ++ ts
members_after l [] = sym (append-nil (members l))
members_after l (t ∷ ts) = members_after (then_one l t) ts ∙ append_assoc (members l) (t ∷ []) ts

pub members_listed : (ts : List Tree) → members (listed ts) ≡ ts
members_listed ts = members_after empty ts

-- ---- lists of entries

abbrev chosen : {A : Type 0} → List A → A → Bool → List A
chosen l e b = if b then l ++ e ∷ [] else l

-- one list of several gets one more entry
pub put_at : {V A : Type 0} (f : V → List A) (ls : List V) (n x : ℕ) (v d : V) (e : A) → n < length ls → f v ≡ f (get_or ls n d) ++ e ∷ []
    → get_or (map f (slice_set ls n v)) x [] ≡ (if nat_eq n x then get_or (map f ls) x [] ++ e ∷ [] else get_or (map f ls) x [])
put_at f [] n x v d e lt h = absurd (omega arith)
put_at f (l ∷ ls) zero zero v d e lt h = h
put_at f (l ∷ ls) zero (suc x) v d e lt h = ap (chosen (get_or (map f ls) x []) e) (sym (eqb-zero-suc x))
put_at f (l ∷ ls) (suc n) zero v d e lt h = ap (chosen (f l) e) (sym (eqb-suc-zero n))
put_at f (l ∷ ls) (suc n) (suc x) v d e lt h = put_at f ls n x v d e (omega arith) h ∙ ap (chosen (get_or (map f ls) x []) e) (sym (eqb-suc-suc n x))

-- one more entry
pub last_step : (p : Program) (c : ℕ) (es : List Entry) (i : ℕ) (d : Entry) → i < length es
    → last_in p c (map (definition_at p.nodes.items) (take (i + 1) es)) ≡ (if belongs p c (number_in (get_or es i d).class) then Some (tree_at p.nodes.items (get_or es i d).node) else last_in p c (map (definition_at p.nodes.items) (take i es)))
last_step p c es i d lt =
    let f : Entry → Definition = definition_at p.nodes.items in
    ap (λ (l : List Entry). last_in p c (map f l)) (take_more es i d lt)
    ∙ ap (last_in p c) (map-append f (take i es) (get_or es i d ∷ []))
    ∙ last_more p c (map f (take i es)) (f (get_or es i d))

-- ---- what a table has more

-- a definition that is called otherwise adds nothing
pub other_adds : (p : Program) (t : MethodTable) (x : MethodName) (d : Definition) → calls p x d.tree ≡ false → kept_under p.nodes.items t x ≡ kept_under p.nodes.items t x ++ called p x (d ∷ [])
other_adds p t x d e =
    let ns = p.nodes.items in
    sym (append-nil (kept_under ns t x))
    ∙ ap (λ (b : Bool). kept_under ns t x ++ (if b then d ∷ [] else [])) (sym e)

-- the entry of what is called so is its definition
entry_adds : (p : Program) (old new : MethodTable) (x : MethodName) (e : Entry) (b : Bool)
    → entries_under new x ≡ (if b then entries_under old x ++ e ∷ [] else entries_under old x) → calls p x (tree_at p.nodes.items e.node) ≡ b
    → kept_under p.nodes.items new x ≡ kept_under p.nodes.items old x ++ called p x (definition_at p.nodes.items e ∷ [])
entry_adds p old new x e true h is =
    let ns = p.nodes.items in
    ap (map (definition_at ns)) h
    ∙ map-append (definition_at ns) (entries_under old x) (e ∷ [])
    ∙ ap (λ (b : Bool). kept_under ns old x ++ (if b then definition_at ns e ∷ [] else [])) (sym is)
entry_adds p old new x e false h is = ap (map (definition_at p.nodes.items)) h ∙ other_adds p old x (definition_at p.nodes.items e) is

-- so is it under each of what calls it
pub both_add : (p : Program) (old new : MethodTable) (e : Entry) (plain attribute : Option ℕ)
    → ((x : ℕ) → get_or (map (λ l. l.items) new.plain.items) x [] ≡ (if is_number x plain then get_or (map (λ l. l.items) old.plain.items) x [] ++ e ∷ [] else get_or (map (λ l. l.items) old.plain.items) x []))
    → ((x : ℕ) → get_or (map (λ l. l.items) new.setters.items) x [] ≡ (if is_number x attribute then get_or (map (λ l. l.items) old.setters.items) x [] ++ e ∷ [] else get_or (map (λ l. l.items) old.setters.items) x []))
    → ((x : MethodName) → calls p x (tree_at p.nodes.items e.node) ≡ is_called_by plain attribute x)
    → Adds p old new (definition_at p.nodes.items e ∷ [])
both_add p old new e plain attribute h k is (name.Plain x) = entry_adds p old new (name.Plain x) e (is_number x.0 plain) (h x.0) (is (name.Plain x))
both_add p old new e plain attribute h k is (name.Setter x) = entry_adds p old new (name.Setter x) e (is_number x.0 attribute) (k x.0) (is (name.Setter x))

pub adds_more : (p : Program) (a b c : MethodTable) (ds es : List Definition) → Adds p a b ds → Adds p b c es → Adds p a c (ds ++ es)
adds_more p a b c ds es h k x =
    k x
    ∙ ap (λ (l : List Definition). l ++ called p x es) (h x)
    ∙ append_assoc (kept_under p.nodes.items a x) (called p x ds) (called p x es)
    ∙ ap (λ (l : List Definition). kept_under p.nodes.items a x ++ l) (sym (filter-append (λ (d : Definition). calls p x d.tree) ds es))

-- ---- trees

-- the trees of a list within the table
pub length-trees_in : (ns : List Node) (first count : ℕ) → first + count ≤ length ns → length (trees_in ns first count) ≡ count
unfolding trees_in
length-trees_in ns first count within = grind (arith, length-take, length-drop, length-trees)

pub tree_in : (ns : List Node) (first count i : ℕ) → i < count → get_or (trees_in ns first count) i nil ≡ tree_at ns (first + i)
unfolding trees_in tree_at
tree_in ns first count i lt = get_or-take count (drop first (trees_after [] ns)) i nil lt ∙ get_or-drop first (trees_after [] ns) i nil

-- one more member of a class
pub member_more : (ns : List Node) (class : Option ℕ) (first count i : ℕ) → first + count ≤ length ns → i < count
    → standing_in class (take i (trees_in ns first count)) ++ standing_in class (tree_at ns (first + i) ∷ []) ≡ standing_in class (take (i + 1) (trees_in ns first count))
member_more ns class first count i within lt =
    let ts : List Tree = trees_in ns first count in
    let size : length ts ≡ count = length-trees_in ns first count within in
    let below : i < length ts = omega arith in
    let f : Tree → Definition = λ (t : Tree). record { class = class; tree = t } in
    sym (
    ap (standing_in class) (take_more ts i nil below)
    ∙ map-append f (take i ts) (get_or ts i nil ∷ [])
    ∙ ap (λ (t : Tree). standing_in class (take i ts) ++ standing_in class (t ∷ [])) (tree_in ns first count i lt)
    )

-- what is no class's body stands at top level
pub other_definitions : (ns : List Node) (n : Node) → IsNoItem n → ((x : Sym) (s : ClassId) (first count : ℕ) → n ≡ node.ClassBody x s first count → ⊥) → definitions_in (node_tree ns n) ≡ standing_in None (node_tree ns n ∷ [])
other_definitions ns (node.ClassBody x s first count) is other = absurd (other x s first count refl)
other_definitions ns (node.Item a) is other = absurd is
other_definitions ns _ is other = refl

-- nothing calls what is no definition
none_calls : (x : MethodName) → is_called_by None None x ≡ false
none_calls (name.Plain x) = refl
none_calls (name.Setter x) = refl

pub other_calls : (p : Program) (n : Node) → ((x : Sym) (scope parameters size body : ℕ) → n ≡ node.Method x scope parameters size body → ⊥) → ((x : Sym) → n ≡ node.Reader x → ⊥) → ((x : Sym) → n ≡ node.Writer x → ⊥)
    → IsNoItem n → (ns : List Node) (x : MethodName) → calls p x (node_tree ns n) ≡ is_called_by None None x
other_calls p (node.Method y scope parameters size body) m r w part ns x = absurd (m y scope parameters size body refl)
other_calls p (node.Reader y) m r w part ns x = absurd (r y refl)
other_calls p (node.Writer y) m r w part ns x = absurd (w y refl)
other_calls p (node.Item a) m r w part ns x = absurd part
other_calls p _ m r w part ns x = sym (none_calls x)

-- one more tree at top level
pub top_more : (ts : List Tree) (i : ℕ) → i < length ts → flat_map definitions_in (take i ts) ++ definitions_in (get_or ts i nil) ≡ flat_map definitions_in (take (i + 1) ts)
top_more ts i lt =
    sym (
    ap (flat_map definitions_in) (take_more ts i nil lt)
    ∙ flat_map-append definitions_in (take i ts) (get_or ts i nil ∷ [])
    ∙ ap (λ (l : List Definition). flat_map definitions_in (take i ts) ++ l) (append-nil (definitions_in (get_or ts i nil)))
    )

-- ---- upwards

-- with k steps of which some are left
pub one_up : (p : Program) (x : MethodName) (n k c : ℕ) → k < n
    → nearest_among p x (n - k) c ≡ option_or (held c (own_method p c x)) (held_above (nearest_among p x (n - (k + 1))) (superclass_of p c))
one_up p x n k c h = let e : n - k ≡ suc (n - (k + 1)) = omega arith in ap (λ (m : ℕ). nearest_among p x m c) e

pub no_more : {A : Type 0} (l : List A) → length l ≡ 0 → l ≡ []
no_more [] h = refl
no_more (x ∷ l) h = absurd (omega arith)

none_above : (f : ℕ → Option Held) (above : Option ℕ) → ((s : ℕ) → f s ≡ None) → held_above f above ≡ None
none_above f (Some s) h = h s
none_above f None h = refl

-- where nothing is called so, no class has a method
pub none_up : (p : Program) (x : MethodName) (n c : ℕ) → called p x (definitions_of p) ≡ [] → nearest_among p x n c ≡ None
unfolding own_method
none_up p x zero c e = refl
none_up p x (suc n) c e =
    ap (λ (ds : List Definition). option_or (held c (last_in p c ds)) (held_above (nearest_among p x n) (superclass_of p c))) e
    ∙ none_above (nearest_among p x n) (superclass_of p c) (λ (s : ℕ). none_up p x n s e)

-- ---- what was found is called so

calls_last : (p : Program) (c : ℕ) (x : MethodName) (d : Definition) (o : Option Tree) (t : Tree) → calls p x d.tree ≡ true → ((s : Tree) → o ≡ Some s → calls p x s ≡ true)
    → (b : Bool) → option_or o (if b then Some d.tree else None) ≡ Some t → calls p x t ≡ true
calls_last p c x d (Some s) t here rest b e = rest t e
calls_last p c x d None t here rest true e = let same : d.tree ≡ t = cc in ap (calls p x) (sym same) ∙ here
calls_last p c x d None t here rest false e = absurd (cc)

last_called : (p : Program) (c : ℕ) (x : MethodName) (ds : List Definition) (t : Tree) → last_in p c (called p x ds) ≡ Some t → calls p x t ≡ true
last_called p c x [] t e = absurd (cc)
last_called p c x (d ∷ ds) t e = elim (calls p x d.tree) as (λ b. calls p x d.tree ≡ b → last_in p c (if b then d ∷ called p x ds else called p x ds) ≡ Some t → calls p x t ≡ true) [
  | true ↦ λ h k. calls_last p c x d (last_in p c (called p x ds)) t h (λ s j. last_called p c x ds s j) (belongs p c d.class) k
  | false ↦ λ h k. last_called p c x ds t k
] refl e

-- a class's own method is called so
pub own_is_called : (p : Program) (c : ℕ) (x : MethodName) (t : Tree) → own_method p c x ≡ Some t → calls p x t ≡ true
unfolding own_method
own_is_called p c x t e = last_called p c x (definitions_of p) t e

own_or_above : (p : Program) (c : ℕ) (x : MethodName) (o : Option Tree) (above : Option Held) (h : Held) → ((t : Tree) → o ≡ Some t → calls p x t ≡ true) → ((k : Held) → above ≡ Some k → calls p x k.tree ≡ true)
    → option_or (held c o) above ≡ Some h → calls p x h.tree ≡ true
own_or_above p c x (Some t) above h own rest e = let same : ◌≡◌ {A = Held} (record { class = c; tree = t }) h = cc in ap (λ (k : Held). calls p x k.tree) (sym same) ∙ own t refl
own_or_above p c x None above h own rest e = rest h e

called_above : (f : ℕ → Option Held) (above : Option ℕ) (k : Held) (P : Held → Type 0) → ((s : ℕ) (h : Held) → f s ≡ Some h → P h) → held_above f above ≡ Some k → P k
called_above f (Some s) k P each e = each s k e
called_above f None k P each e = absurd (cc)

among_is_called : (p : Program) (x : MethodName) (n c : ℕ) (h : Held) → nearest_among p x n c ≡ Some h → calls p x h.tree ≡ true
among_is_called p x zero c h e = absurd (cc)
among_is_called p x (suc n) c h e =
    own_or_above p c x (own_method p c x) (held_above (nearest_among p x n) (superclass_of p c)) h (own_is_called p c x)
    (λ k j. called_above (nearest_among p x n) (superclass_of p c) k (λ i. calls p x i.tree ≡ true) (λ s i l. among_is_called p x n s i l) j) e

-- so is the method that a call finds
pub nearest_is_called : (p : Program) (c : ℕ) (x : MethodName) (h : Held) → nearest_method p c x ≡ Some h → calls p x h.tree ≡ true
unfolding nearest_method
nearest_is_called p c x h e = among_is_called p x (length p.classes.items + 32) c h e
