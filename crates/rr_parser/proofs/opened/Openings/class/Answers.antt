use Rattle.std.proofs.Common.{ap, sym, ◌∙◌, map, ◌++◌}
use Rattle.rr_parser.specs.declared.word.WordKind.TheVariants as kind
use Rattle.rr_parser.specs.Opened.{opening_of, head_of, classes_by}
use Rattle.rr_parser.proofs.Openings.{opening_is, class_is_added}
use Rattle.rr_parser.proofs.opened.Openings.class.Goals as goal

pub returns-clause-kind : goal.returns-clause-kind
returns-clause-kind c = λ hs is.
    ap kind.Class (opening_is _ hs _ is c.in-Some.name c.in-Some.path _ c.in_ok-opening.ensures ∙ sym (ap (opening_of _ hs) c.in-Some.ensures))

pub returns-clause-classes : goal.returns-clause-classes
returns-clause-classes c = λ hs is.
    class_is_added _ hs _ is c.in-Some.name c.in-Some.path _ _ c.in_ok-opening.ensures c.in_ok-add.ensures.classes ∙ sym (ap (λ h. classes_by (map (λ s. s.items) c.args.self.now.symbols.now) (hs ++ head_of h)) c.in-Some.ensures)
