use Rattle.std.proofs.Common.{ℕ, List, ◌++◌, codes, subst}
use Rattle.rr_text.specs.Forms.{spelled, line_end}
use Rattle.rr_text.specs.Ways.{way_of}
use Rattle.rr_text.specs.Frames.{IsEntered}
use Rattle.rr_text.specs.declared.walk.Frame.{Frame}
use Rattle.rr_text.specs.declared.walk.Shape.TheVariants.{Pairs}
use Rattle.rr_text.proofs.Looking.{entered_shows}
use Rattle.rr_text.proofs.walk.Walk.enter_pairs.Goals as goal

pub returns-clause-showed : goal.returns-clause-showed
returns-clause-showed c = λ names g asks i e.
    let f : Frame = record { shape = Pairs c.args.form; object = c.args.hash; next = 0 } in
    entered_shows names g asks c.args.levels c.args.self.now.frames.items c.enter.new.self.frames.items f (spelled c.args.self.now.out.items) (spelled c.enter.new.self.out.items)
    (codes "{...}" ++ line_end (way_of c.args.form)) (codes "{") i e c.in_ok-going.going
    (subst (λ (s : List ℕ). IsEntered c.args.levels s (codes "{") f c.args.self.now.frames.items (spelled c.args.self.now.out.items) c.in_ok-going.going c.enter.new.self.frames.items (spelled c.enter.new.self.out.items))
    c.hash_again.ensures c.in_ok-going.ensures.entered)
