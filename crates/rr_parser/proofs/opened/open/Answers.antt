use Rattle.std.proofs.Common.{◌+◌, refl, ap, ◌∙◌, map, arith}
use Rattle.std.proofs.lemmas.List.{length-set, take_rest}
use Rattle.rr_parser.specs.Opened.{class_of_entry}
use Rattle.rr_parser.proofs.Openings.{opening_begin, opening_on, opened_whole, classes_whole_in}
use Rattle.rr_parser.proofs.opened.open.Goals as goal

pub loop-place-init : goal.loop-place-init
loop-place-init c = record { symbols = refl; long = refl; opening = opening_begin (map (λ s. s.items) c.args.symbols.now) _ c.args.words.now c.new.ensures.empty }

pub loop-place-preserved : goal.loop-place-preserved
loop-place-preserved c = record {
  symbols = ap (λ s. s.now) c.in_ok-kind.ensures.symbols ∙ c.loop-place.invariant.symbols;
  long = length-set _ _ _ ∙ c.loop-place.invariant.long;
  opening = opening_on _ _ c.loop-place.invariant.symbols _ _ c.loop-place.place c.loop-place.words c.args.words.now _ _ _ (omega (arith, c.loop-place-test.true)) (take_rest c.loop-place.words (c.loop-place.place + 1)) c.in_ok-kind.ensures.classes c.in_ok-kind.ensures.kind c.loop-place.invariant.opening;
}

pub returns-clause-words : goal.returns-clause-words
returns-clause-words c = opened_whole _ _ c.loop-place.place _ _ (omega (arith, c.loop-place-test.false)) c.loop-place.invariant.opening

pub returns-clause-classes : goal.returns-clause-classes
returns-clause-classes c = c.in_ok-classes.ensures ∙ ap (map class_of_entry) (classes_whole_in _ _ c.loop-place.place _ _ (omega (arith, c.loop-place-test.false)) c.loop-place.invariant.opening)
