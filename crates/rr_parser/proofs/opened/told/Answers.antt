use Rattle.std.proofs.Common.{sym, ◌∙◌}
use Rattle.rr_parser.proofs.Classless.{words_as_they_are, classes_are_none}
use Rattle.rr_parser.proofs.opened.told.Goals as goal

pub returns-then-not-with_class-clause-words : goal.returns-then-not-with_class-clause-words
returns-then-not-with_class-clause-words c = words_as_they_are _ _ (sym c.requires ∙ c.if-not-with_class.true)

pub returns-then-not-with_class-clause-classes : goal.returns-then-not-with_class-clause-classes
returns-then-not-with_class-clause-classes c = classes_are_none _ c.args.words.items _ (sym c.requires ∙ c.if-not-with_class.true) c.new.ensures.items
