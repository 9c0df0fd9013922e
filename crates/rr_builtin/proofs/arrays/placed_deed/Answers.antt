use Rattle.std.proofs.Common.{◌∙◌, ◌++◌, ◌-◌, [], ◌∷◌, List, length, map, sym, ap, subst, arith}
use Rattle.std.specs.List.{All}
use Rattle.std.proofs.lemmas.List.Elements.{All-push}
use Rattle.rr_space.specs.Graph.{Value}
use Rattle.rr_space.specs.Parts.{value_of, IsWithin}
use Rattle.rr_space.specs.declared.refer.Ref.{Ref}
use Rattle.rr_space.proofs.Writing.{map_push}
use Rattle.rr_builtin.specs.Acts.{IsRefAmong, nils}
use Rattle.rr_builtin.specs.Elements.{elements_of}
use Rattle.rr_builtin.proofs.Gathering.{append_three}
use Rattle.rr_builtin.proofs.arrays.placed_deed.Goals as goal

pub returns-clause-fit : goal.returns-clause-fit
returns-clause-fit c =
    let t = c.args.space.now in
    let v = c.args.array in
    let r = c.args.value in
    let k = length t.slots in
    let padded = c.push_nils.new.items.items in
    let between = c.args.place - c.arity-count.result in
    let count = c.arity-count.ensures.count in (
      c.requires.can,
      c.requires.kind,
      c.requires.value,
      record {
        within = subst (λ (rs : List Ref). All (IsWithin k) rs) (sym c.in_ok-push.ensures.items) (All-push (IsWithin k) padded r (c.in_ok-push_nils.ensures.within k c.in_ok-items.ensures.within) c.requires.value);
        behind = omega (arith, count, c.if-place-count.false);
        values =
            ap (map value_of) c.in_ok-push.ensures.items ∙ map_push value_of padded r
            ∙ ap (λ (vs : List Value). vs ++ value_of r ∷ []) (c.in_ok-push_nils.ensures.values ∙ ap (λ (vs : List Value). vs ++ nils between) c.in_ok-items.ensures.items)
            ∙ append_three (elements_of t v) (nils between) (value_of r ∷ [])
            ∙ ap (λ n. elements_of t v ++ (nils (c.args.place - n) ++ value_of r ∷ [])) count;
      },
    )

pub returns-clause-among : goal.returns-clause-among
returns-clause-among c = λ below read v_among among. (
  subst (λ (rs : List Ref). All (IsRefAmong below) rs) (sym c.in_ok-push.ensures.items)
      (All-push (IsRefAmong below) c.push_nils.new.items.items c.args.value (c.in_ok-push_nils.ensures.among below (c.in_ok-items.ensures.among below read v_among)) among),
  among,
)
