-- What is raised, and why it is not.
use Rattle.std.proofs.Common.{◌≡◌, ◌∙◌, ap, sym, refl, None, Result, Ok, Err, OnOk, IfErr}
use Rattle.rr_base.specs.declared.fault.Fault.{Fault}
use Rattle.rr_space.specs.Tables.{Table}
use Rattle.rr_space.specs.declared.kind.Kind.{Kind}
use Rattle.rr_space.specs.declared.kind.Kind.TheVariants as kinds
use Rattle.rr_space.specs.declared.refer.Ref.{Ref}
use Rattle.rr_tree.specs.declared.program.Program.{Program}
use Rattle.rr_eval.specs.Context.{Context}
use Rattle.rr_eval.specs.Raising.{raise_new, raise_kind}
use Rattle.rr_eval.specs.Requests.{Course}
use Rattle.rr_eval.specs.Turns.{Stands, remaining}
use Rattle.rr_eval.specs.View.{View}

-- a value of another kind
pub alone_other : (c : Context) (v : Ref) (k : Kind) → (k ≡ kinds.Shell → ⊥) → (k ≡ kinds.Text → ⊥) → (k ≡ kinds.Exception → ⊥) → raise_kind c v None k ≡ raise_new c v None
alone_other c v kinds.Shell no_shell no_text no_exception = absurd (no_shell refl)
alone_other c v kinds.Text no_shell no_text no_exception = absurd (no_text refl)
alone_other c v kinds.Exception no_shell no_text no_exception = absurd (no_exception refl)
alone_other c v _ no_shell no_text no_exception = refl

-- all stands as before
view_same : (m n : View) (t u : Table) (f : Fault) → Stands m n t u f → m ≡ n
view_same m n t u f is =
    ap (λ x. record { control = x; frames = m.frames; held = m.held; calls = m.calls; blocks = m.blocks; rescuing = m.rescuing; left = m.left }) (sym is.control)
    ∙ ap (λ x. record { control = n.control; frames = x; held = m.held; calls = m.calls; blocks = m.blocks; rescuing = m.rescuing; left = m.left }) (sym is.frames)
    ∙ ap (λ x. record { control = n.control; frames = n.frames; held = x; calls = m.calls; blocks = m.blocks; rescuing = m.rescuing; left = m.left }) (sym is.held)
    ∙ ap (λ x. record { control = n.control; frames = n.frames; held = n.held; calls = x; blocks = m.blocks; rescuing = m.rescuing; left = m.left }) (sym is.calls)
    ∙ ap (λ x. record { control = n.control; frames = n.frames; held = n.held; calls = n.calls; blocks = x; rescuing = m.rescuing; left = m.left }) (sym is.blocks)
    ∙ ap (λ x. record { control = n.control; frames = n.frames; held = n.held; calls = n.calls; blocks = n.blocks; rescuing = x; left = m.left }) (sym is.rescuing)
    ∙ ap (λ x. record { control = n.control; frames = n.frames; held = n.held; calls = n.calls; blocks = n.blocks; rescuing = n.rescuing; left = x }) (sym is.left)

-- what is still to be done is the same, whether or not a growth was refused
pub same_either : {A : Type 0} (r : Result A Fault) (p : Program) (m n : View) (t u : Table) → OnOk r ((h : Course) → remaining p m t h ≡ remaining p n u h) → IfErr r (λ f. Stands m n t u f) → (h : Course) → remaining p m t h ≡ remaining p n u h
same_either (Ok a) p m n t u goes stands h = goes h
same_either (Err f) p m n t u goes stands h = ap (λ x. remaining p x t h) (view_same m n t u f stands) ∙ ap (λ x. remaining p n x h) (sym stands.objects)

pub on_err : {A : Type 0} (r : Result A Fault) (P Q : Fault → Type 0) → ((f : Fault) → P f → Q f) → IfErr r P → IfErr r Q
on_err (Ok a) P Q h is = tt
on_err (Err f) P Q h is = h f is
