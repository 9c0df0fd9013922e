use Rattle.std.proofs.Common.{List, Option, Some, IfSome, refl, sym, subst, false}
use Rattle.rr_space.specs.Tables.{graph_of}
use Rattle.rr_space.specs.declared.refer.Ref.{Ref}
use Rattle.rr_text.specs.Forms.{spelled}
use Rattle.rr_text.specs.Names.{names_of}
use Rattle.rr_text.specs.Reads.{IsAmong}
use Rattle.rr_text.specs.Frames.{IsTurned, IsPartOf, IsGrown, AreAmong}
use Rattle.rr_text.specs.declared.walk.Frame.{Frame}
use Rattle.rr_text.specs.declared.walk.Part.{Part}
use Rattle.rr_text.proofs.Spelling.{spelled_more}
use Rattle.rr_text.proofs.Loads.{among_push, lighter_next, lighter_closed}
use Rattle.rr_text.proofs.Looking.{among_child}
use Rattle.rr_text.proofs.Turning.{turned_steps, closed_steps}
use Rattle.rr_text.proofs.walk.Walk.step.Goals as goal

pub returns-in_ok-going-in-Some-clause-stepped : goal.returns-in_ok-going-in-Some-clause-stepped
returns-in_ok-going-in-Some-clause-stepped c = λ below read among.
    let names = names_of c.args.program.now in
    let g = graph_of c.args.space.now.slots below in
    let bytes = c.args.self.now.out.items in
    let part : IsPartOf c.args.space.now c.args.top c.in-Some.part = subst (λ (o : Option Part). IfSome o (λ (p : Part). IsPartOf c.args.space.now c.args.top p)) c.in-Some.is c.in_ok-part.ensures.part in
    let turned : IsTurned names g c.args.space.now.slots c.args.top bytes (Some c.in-Some.part) c.next_part.new.out.items =
    subst (λ (o : Option Part). IsTurned names g c.args.space.now.slots c.args.top bytes o c.next_part.new.out.items) c.in-Some.is (c.in_ok-part.ensures.turned below read among) in
    turned_steps names g (λ _. false) c.args.space.now.slots c.args.levels c.args.self.now.frames.items c.args.top (spelled bytes) bytes
    c.push.new.self.items c.show.new.self.frames.items (spelled c.next_part.new.out.items) (spelled c.show.new.self.out.items) c.next_part.new.out.items c.in-Some.part
    c.in_ok-going-in-Some.going turned (λ s more. spelled_more bytes c.next_part.new.out.items s more) part.shape part.object c.in_ok-push-in-Some.ensures.items
    (c.in_ok-going-in-Some.ensures.showed below read (among_child c.args.space.now below c.args.top.object c.in-Some.part.value read among part.known))

pub returns-in_ok-going-in-Some-clause-among : goal.returns-in_ok-going-in-Some-clause-among
returns-in_ok-going-in-Some-clause-among c = λ below read all one.
    let part : IsPartOf c.args.space.now c.args.top c.in-Some.part = subst (λ (o : Option Part). IfSome o (λ (p : Part). IsPartOf c.args.space.now c.args.top p)) c.in-Some.is c.in_ok-part.ensures.part in
    let top : IsAmong below c.in-Some.part.frame.object = subst (λ (r : Ref). IsAmong below r) (sym part.object) one in
    let pushed : AreAmong below c.push.new.self.items =
    subst (λ (xs : List Frame). AreAmong below xs) (sym c.in_ok-push-in-Some.ensures.items) (among_push below c.args.self.now.frames.items c.in-Some.part.frame all top) in
    c.in_ok-going-in-Some.ensures.among below read pushed (among_child c.args.space.now below c.args.top.object c.in-Some.part.value read one part.known)

pub returns-in_ok-going-in-Some-clause-lighter : goal.returns-in_ok-going-in-Some-clause-lighter
returns-in_ok-going-in-Some-clause-lighter c =
    let part : IsPartOf c.args.space.now c.args.top c.in-Some.part = subst (λ (o : Option Part). IfSome o (λ (p : Part). IsPartOf c.args.space.now c.args.top p)) c.in-Some.is c.in_ok-part.ensures.part in
    lighter_next c.args.space.now c.args.levels c.args.self.now.frames.items c.show.new.self.frames.items c.args.top c.in-Some.part.frame c.requires.depth part.less
    (subst (λ (xs : List Frame). IsGrown c.args.space.now c.args.levels xs c.show.new.self.frames.items) c.in_ok-push-in-Some.ensures.items c.in_ok-going-in-Some.ensures.grown)

pub returns-in-None-clause-stepped : goal.returns-in-None-clause-stepped
returns-in-None-clause-stepped c = λ below read among.
    let names = names_of c.args.program.now in
    let g = graph_of c.args.space.now.slots below in
    let bytes = c.args.self.now.out.items in
    closed_steps names g (λ _. false) c.args.space.now.slots c.args.levels c.args.self.now.frames.items c.args.top (spelled bytes) bytes
    c.args.self.now.frames.items (spelled c.next_part.new.out.items) c.next_part.new.out.items c.requires.depth
    (subst (λ (o : Option Part). IsTurned names g c.args.space.now.slots c.args.top bytes o c.next_part.new.out.items) c.in-None.is (c.in_ok-part.ensures.turned below read among))
    (λ s more. spelled_more bytes c.next_part.new.out.items s more) refl

pub returns-in-None-clause-lighter : goal.returns-in-None-clause-lighter
returns-in-None-clause-lighter c = lighter_closed c.args.space.now c.args.levels c.args.self.now.frames.items c.args.top
