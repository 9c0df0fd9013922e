use Rattle.std.proofs.Common.{◌≡◌, ◌∙◌, ℕ, Bool, true, false, List, length, slice_index_or, if◌then◌else◌, ap, sym}
use Rattle.rr_space.specs.Tables.{Table, Below}
use Rattle.rr_space.specs.Kinds.{kind_at}
use Rattle.rr_space.specs.declared.refer.Ref.{Ref}
use Rattle.rr_space.specs.declared.refer.Ref.TheVariants.{Nil}
use Rattle.rr_tree.specs.declared.program.Program.{Program}
use Rattle.rr_builtin.specs.declared.method.BuiltInMethod.{BuiltInMethod}
use Rattle.rr_builtin.specs.declared.problem.Problem.TheVariants.{Moved, Count}
use Rattle.rr_builtin.specs.Acts.{Act, Answers, Raises, Lacks}
use Rattle.rr_builtin.specs.Kinds.{is_shell_kind, count_of}
use Rattle.rr_builtin.specs.Calls.{method_act, responds, most_of, is_between, call_act}
use Rattle.rr_builtin.proofs.Among.{on_if_ok, among_of}
use Rattle.rr_builtin.proofs.calls.call_deed.Goals as goal

-- what is called where nothing stands against it
call_is : (p : Program) (below : Below) (v : Ref) (m : BuiltInMethod) (args : List Ref) (t : Table) → is_shell_kind (kind_at t v) ≡ false → responds p t (kind_at t v) v m ≡ true
    → is_between (count_of m) (most_of p v m) (length args) ≡ true → method_act p below m v (slice_index_or args 0 Nil) (slice_index_or args 1 Nil) t ≡ call_act p below v m args t
call_is p below v m args t whole there fits =
    let act : Act = method_act p below m v (slice_index_or args 0 Nil) (slice_index_or args 1 Nil) t in
    let counted : Bool → Act = λ b. if b then act else Answers (Raises (Count (length args) (count_of m) (most_of p v m))) in
    sym (ap (λ b. if b then Answers (Raises Moved) else (if responds p t (kind_at t v) v m then counted (is_between (count_of m) (most_of p v m) (length args)) else Answers Lacks)) whole
    ∙ ap (λ b. if b then counted (is_between (count_of m) (most_of p v m) (length args)) else Answers Lacks) there
    ∙ ap counted fits)

pub returns-clause-act : goal.returns-clause-act
returns-clause-act c =
    let p = c.args.program.now in
    let v = c.args.receiver in
    let m = c.args.method in
    let args = c.args.arguments.now in
    let t = c.args.space.now in
    let whole : is_shell_kind (kind_at t v) ≡ false = ap is_shell_kind (sym c.kind_of-kind.ensures) ∙ sym c.is_shell_kind.ensures ∙ c.if-is_shell_kind.false in
    let there : responds p t (kind_at t v) v m ≡ true = ap (λ k. responds p t k v m) (sym c.kind_of-kind.ensures) ∙ sym c.responds.ensures ∙ c.if-not-responds.false in
    let fits : is_between (count_of m) (most_of p v m) (length args) ≡ true =
    ap (λ (n : ℕ). is_between n (most_of p v m) (length args)) (sym c.count_of-least.ensures) ∙ ap (λ (n : ℕ). is_between c.count_of-least.result n (length args)) (sym c.most_of-most.ensures)
    ∙ sym c.is_between.ensures ∙ c.if-not-is_between.false in
    on_if_ok _ _ c.method_deed.result c.method_deed.ensures.act (λ d h below read receiver arguments.
    h below read receiver (among_of below c.argument_at-argument.result (c.argument_at-argument.ensures.among below arguments))
    ∙ ap (λ (a : Ref). method_act p below m v a c.argument_at-second.result t) c.argument_at-argument.ensures.is
    ∙ ap (λ (b : Ref). method_act p below m v (slice_index_or args 0 Nil) b t) c.argument_at-second.ensures.is
    ∙ call_is p below v m args t whole there fits)

pub returns-clause-among : goal.returns-clause-among
returns-clause-among c =
    on_if_ok _ _ c.method_deed.result c.method_deed.ensures.among (λ d h below read receiver arguments. h below read receiver (c.argument_at-argument.ensures.among below arguments) (c.argument_at-second.ensures.among below arguments))
