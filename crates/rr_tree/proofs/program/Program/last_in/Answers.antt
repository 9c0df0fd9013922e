-- One entry more.
use Rattle.std.proofs.Common.{◌∙◌, ◌<◌, Bool, Some, None, length, ap, sym, arith, if◌then◌else◌, map, take, get_or}
use Rattle.std.specs.Option.{option_map}
use Rattle.rr_tree.specs.Tree.{tree_at}
use Rattle.rr_tree.specs.Methods.{definition_at, last_in}
use Rattle.rr_tree.proofs.Defined.{last_step}
use Rattle.rr_tree.proofs.program.Program.last_in.Goals as goal
use Rattle.rr_tree.proofs.program.Program.last_in.Goals.{then-belongs, else-belongs}

pub loop-entry-preserved : goal.loop-entry-preserved
loop-entry-preserved c =
    let p = c.args.self.now in
    let ns = p.nodes.items in
    let es = c.args.entries.now in
    let i = c.loop-entry.entry-index in
    let e = get_or es i (record { class = None; node = 0 }) in
    let lt : i < length es = omega arith in
    let so_far = last_in p c.args.class.0 (map (definition_at ns) (take i es)) in
    let step = last_step p c.args.class.0 es i (record { class = None; node = 0 }) lt in
    let tests = ap (λ (b : Bool). if b then Some (tree_at ns e.node) else so_far) (sym c.belongs.ensures) in
    elim c.if-belongs.branch [
      | then-belongs w ↦ ap (option_map (tree_at ns)) w.found-is ∙ sym (step ∙ tests ∙ ap (λ (b : Bool). if b then Some (tree_at ns e.node) else so_far) w.if-belongs.true)
      | else-belongs w ↦ ap (option_map (tree_at ns)) w.found-is ∙ c.loop-entry.invariant ∙ sym (step ∙ tests ∙ ap (λ (b : Bool). if b then Some (tree_at ns e.node) else so_far) w.if-belongs.false)
    ]
