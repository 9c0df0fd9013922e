-- A value is given alone.
use Rattle.std.proofs.Common.{◌∙◌, ap, refl, sym, subst, length, Some}
use Rattle.rr_space.specs.Parts.{truth_ref}
use Rattle.rr_space.specs.declared.refer.Ref.TheVariants as refs
use Rattle.rr_eval.specs.Published.{published}
use Rattle.rr_eval.specs.Serves.{IsReplied}
use Rattle.rr_eval.specs.Sharing.{given_alone, main_ractor, ractor_reply}
use Rattle.rr_eval.specs.Turns.{context_of}
use Rattle.rr_eval.specs.Within.{reach, IsReached}
use Rattle.rr_eval.proofs.Shares.{same_replied}
use Rattle.rr_eval.proofs.Truths.{truth_reached}
use Rattle.rr_eval.proofs.sharing.serve_values.Goals as goal

pub returns-in-Current-clause-replied : goal.returns-in-Current-clause-replied
returns-in-Current-clause-replied c =
    let vs = c.args.values.now in
    let t = c.args.space.now in
    let r = c.give_alone.result in
    let given = c.give_alone.ensures in
    subst (λ m. IsReplied (published c.args.store.now) (ractor_reply (context_of c.args.program.now) m vs t) t r t) (sym c.in-Current.is)
    (same_replied (published c.args.store.now) _ t t r (ap (λ n. given_alone (refs.Ractor (record { 0 = n })) vs t) (sym c.owner.ensures) ∙ given.is t) refl c.requires.read (given.within (reach (length t.slots) (Some (published c.args.store.now))) tt))

pub returns-in-Main-clause-replied : goal.returns-in-Main-clause-replied
returns-in-Main-clause-replied c =
    let vs = c.args.values.now in
    let t = c.args.space.now in
    let r = c.give_alone-in-Main.result in
    let given = c.give_alone-in-Main.ensures in
    subst (λ m. IsReplied (published c.args.store.now) (ractor_reply (context_of c.args.program.now) m vs t) t r t) (sym c.in-Main.is)
    (same_replied (published c.args.store.now) (given_alone (refs.Ractor main_ractor) vs t) t t r (given.is t) refl c.requires.read (given.within (reach (length t.slots) (Some (published c.args.store.now))) tt))

pub returns-in-IsMain-clause-replied : goal.returns-in-IsMain-clause-replied
returns-in-IsMain-clause-replied c =
    let vs = c.args.values.now in
    let t = c.args.space.now in
    let r = c.give_alone-in-IsMain.result in
    let k = reach (length t.slots) (Some (published c.args.store.now)) in
    let given = c.give_alone-in-IsMain.ensures in
    subst (λ m. IsReplied (published c.args.store.now) (ractor_reply (context_of c.args.program.now) m vs t) t r t) (sym c.in-IsMain.is)
    (same_replied (published c.args.store.now) _ t t r (ap (λ b. given_alone (truth_ref b) vs t) (sym c.is_main.ensures) ∙ ap (λ v. given_alone v vs t) (sym c.truth.ensures) ∙ given.is t) refl c.requires.read (given.within k (subst (IsReached k) (sym c.truth.ensures) (truth_reached k _))))

pub returns-in-Name-clause-replied : goal.returns-in-Name-clause-replied
returns-in-Name-clause-replied c =
    let vs = c.args.values.now in
    let t = c.args.space.now in
    let r = c.give_name.result in
    let given = c.give_name.ensures in
    subst (λ m. IsReplied (published c.args.store.now) (ractor_reply (context_of c.args.program.now) m vs t) t r t) (sym c.in-Name.is)
    (same_replied (published c.args.store.now) _ t t r given.is refl c.requires.read (given.within (reach (length t.slots) (Some (published c.args.store.now)))))
