use Rattle.std.proofs.Common.{List, sym, subst, false}
use Rattle.rr_space.specs.Parts.{value_of}
use Rattle.rr_space.specs.Tables.{graph_of}
use Rattle.rr_text.specs.Names.{names_of}
use Rattle.rr_text.specs.Ways.{way_of}
use Rattle.rr_text.specs.Frames.{IsGrown, AreAmong}
use Rattle.rr_text.specs.declared.walk.Frame.{Frame}
use Rattle.rr_text.proofs.Loads.{grown_same}
use Rattle.rr_text.proofs.Looking.{hash_found}
use Rattle.rr_text.proofs.walk.Walk.show_object.Goals as goal

pub returns-in_ok-going-in-Array-clause-showed : goal.returns-in_ok-going-in-Array-clause-showed
returns-in_ok-going-in-Array-clause-showed c = λ below read among. c.in_ok-going-in-Array.ensures.showed (names_of c.args.program.now) (λ _. false) below read among

pub returns-in_ok-going-in-Hash-clause-showed : goal.returns-in_ok-going-in-Hash-clause-showed
returns-in_ok-going-in-Hash-clause-showed c = λ below read among.
    let names = names_of c.args.program.now in
    c.in_ok-going-in-Hash.ensures.showed names (graph_of c.args.space.now.slots below) (λ _. false) (way_of c.args.form, value_of c.args.object)
    (hash_found names (λ _. false) c.args.space.now below c.args.object c.requires.object.0 (way_of c.args.form) c.requires.well.sound read among c.requires.end c.requires.object.1 (sym c.in-Hash.ensures))

pub returns-in_ok-going-in_default : goal.returns-in_ok-going-in_default
returns-in_ok-going-in_default c = record {
  showed = λ below read among. c.in_ok-going-in_default.ensures.showed below read among;
  grown = subst (λ (xs : List Frame). IsGrown c.args.space.now c.args.levels c.args.self.now.frames.items xs) (sym c.in_ok-going-in_default.ensures.same)
      (grown_same c.args.space.now c.args.levels c.args.self.now.frames.items c.requires.fit);
  among = λ below all one. subst (λ (xs : List Frame). AreAmong below xs) (sym c.in_ok-going-in_default.ensures.same) all;
}
