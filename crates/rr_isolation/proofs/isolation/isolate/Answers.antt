use Rattle.std.proofs.Common.{◌≡◌, ◌∙◌, ap, sym, refl, arith, true, nat_eq, ℕ, List, [], ◌∷◌, length, map, Contains, vec_len}
use Rattle.std.proofs.lemmas.Bool.{eqb-true}
use Rattle.rr_base.specs.declared.name.Sym.{Sym}
use Rattle.rr_tree.specs.Tree.{Tree, tree_at}
use Rattle.rr_isolation.specs.Outer.{AreOuterNames, IsOuterName}
use Rattle.rr_isolation.proofs.Told.{names_told, yields_told}
use Rattle.rr_isolation.proofs.isolation.isolate.Goals as goal

no_items : (names : List Sym) → length names ≡ 0 → map (λ (s : Sym). s.0) names ≡ []
no_items [] none = refl
no_items (s ∷ names) some = absurd (omega arith)

no_names : (t : Tree) (names : List Sym) → length names ≡ 0 → AreOuterNames t (map (λ s. s.0) names) → (x : ℕ) → IsOuterName t x → ⊥
no_names t [] none are x name = let has : Contains {X = ℕ} [] x = (are.exact x).1 name in omega (arith, has.1)
no_names t (s ∷ names) some are x name = omega arith

pub returns-then-yields-clause-refused : goal.returns-then-yields-clause-refused
returns-then-yields-clause-refused c =
    let t = tree_at c.args.program.now.nodes.items c.args.block in
    let all = c.in_ok-found.ensures.all in
    let names = c.in_ok-names.names in
    let none : length names.items ≡ 0 = omega (arith, names.ok.0, eqb-true (vec_len names) 0 (sym c.if-not-is_empty.ensures)) in
    (all.yields.0 c.if-yields.true, no_names t names.items none (c.in_ok-names.ensures.names t all))

pub returns-clause-isolated : goal.returns-clause-isolated
returns-clause-isolated c =
    let t = tree_at c.args.program.now.nodes.items c.args.block in
    let all = c.in_ok-found.ensures.all in
    let names = c.in_ok-names.names in
    let none : length names.items ≡ 0 = omega (arith, names.ok.0, eqb-true (vec_len names) 0 (sym c.if-not-is_empty.ensures)) in (
      refl,
      record {
        no_names = no_names t names.items none (c.in_ok-names.ensures.names t all);
        no_yield = λ yields. let yes = all.yields.1 yields in let no = c.if-yields.false in absurd (cc);
      },
    )

-- the names and the answer are those that are counted
pub returns-then-yields-clause-told : goal.returns-then-yields-clause-told
returns-then-yields-clause-told c =
    let ns = c.args.program.now.nodes.items in
    let i = c.args.block in
    let names = c.in_ok-names.names in
    let none : length names.items ≡ 0 = omega (arith, names.ok.0, eqb-true (vec_len names) 0 (sym c.if-not-is_empty.ensures)) in
    let told = names_told ns c.args.program.now.ordered i (map (λ s. s.0) names.items) (λ us uses. c.in_ok-names.ensures.told (tree_at ns i) us c.in_ok-found.ensures.all uses) in
    let yields = yields_told ns c.args.program.now.ordered i c.in_ok-found.found.yields c.in_ok-found.ensures.all.yields.0 c.in_ok-found.ensures.all.yields.1 in
    (sym told ∙ no_items names.items none, sym yields ∙ c.if-yields.true)

pub returns-clause-free : goal.returns-clause-free
returns-clause-free c =
    let ns = c.args.program.now.nodes.items in
    let i = c.args.block in
    let names = c.in_ok-names.names in
    let none : length names.items ≡ 0 = omega (arith, names.ok.0, eqb-true (vec_len names) 0 (sym c.if-not-is_empty.ensures)) in
    let told = names_told ns c.args.program.now.ordered i (map (λ s. s.0) names.items) (λ us uses. c.in_ok-names.ensures.told (tree_at ns i) us c.in_ok-found.ensures.all uses) in
    let yields = yields_told ns c.args.program.now.ordered i c.in_ok-found.found.yields c.in_ok-found.ensures.all.yields.0 c.in_ok-found.ensures.all.yields.1 in
    (sym told ∙ no_items names.items none, sym yields ∙ c.if-yields.false)

no_names_mapped : (names : List Sym) → map (λ (s : Sym). s.0) names ≡ [] → length names ≡ 0
no_names_mapped [] e = refl
no_names_mapped (s ∷ names) e = absurd (cc e)

pub returns-then-not-is_empty-clause-told : goal.returns-then-not-is_empty-clause-told
returns-then-not-is_empty-clause-told c =
    let ns = c.args.program.now.nodes.items in
    let i = c.args.block in
    let names = c.in_ok-names.names in
    let told = names_told ns c.args.program.now.ordered i (map (λ s. s.0) names.items) (λ us uses. c.in_ok-names.ensures.told (tree_at ns i) us c.in_ok-found.ensures.all uses) in (
      told,
      λ none. let count : length names.items ≡ 0 = no_names_mapped names.items (told ∙ none) in
          let zero : vec_len names ≡ 0 = omega (arith, names.ok.0, count) in
          let empty : nat_eq (vec_len names) 0 ≡ true = ap (λ (n : ℕ). nat_eq n 0) zero in
          let tested = c.if-not-is_empty.ensures in
          absurd (cc (empty, tested)),
    )
