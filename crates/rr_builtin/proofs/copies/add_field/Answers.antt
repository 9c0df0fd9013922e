use Rattle.std.proofs.Common.{rules, ◌≡◌, ◌∙◌, ◌++◌, ◌∷◌, [], nat_eq, true, if◌then◌else◌, sym, ap}
use Rattle.std.specs.List.{list_any}
use Rattle.rr_space.specs.Views.{field_number}
use Rattle.rr_builtin.specs.Copies.{with_field}
use Rattle.rr_builtin.proofs.copies.add_field.Goals as goal

pub returns-else-not-has_field : goal.returns-else-not-has_field
returns-else-not-has_field c =
    let fields = c.args.fields.now.items in
    let name = c.in-Field.name in
    let there : list_any (λ f. nat_eq name.0 (field_number f)) fields ≡ true = search rules in
    sym (ap (λ l. with_field fields l c.args.value) c.in-Field.is ∙ ap (λ b. if b then fields else fields ++ (name, c.args.value) ∷ []) there)
