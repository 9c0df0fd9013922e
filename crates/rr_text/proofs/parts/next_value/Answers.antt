use Rattle.std.proofs.Common.{◌∙◌, ℕ, List, ◌∷◌, [], ◌++◌, codes, ap, sym}
use Rattle.std.proofs.lemmas.List.{append_assoc}
use Rattle.rr_space.specs.Parts.{value_of}
use Rattle.rr_space.specs.Tables.{graph_of, resolve}
use Rattle.rr_text.specs.Forms.{key_text, line_end}
use Rattle.rr_text.specs.Names.{names_of}
use Rattle.rr_text.specs.Ways.{way_of}
use Rattle.rr_text.specs.Frames.{lead_at}
use Rattle.rr_text.specs.declared.walk.Shape.TheVariants.{Pairs}
use Rattle.rr_text.proofs.Looking.{among_child}
use Rattle.rr_text.proofs.Turning.{pair_turned, pairs_closed, closing_is}
use Rattle.rr_text.proofs.parts.next_value.Goals as goal

pub returns-in_ok-push_key-in-Some-clause-turned : goal.returns-in_ok-push_key-in-Some-clause-turned
returns-in_ok-push_key-in-Some-clause-turned c = λ below read among.
    let names = names_of c.args.program.now in
    let lead : List ℕ = lead_at c.args.top.next (codes ", ") in
    let key : List ℕ = key_text names (graph_of c.args.space.now.slots below) (resolve c.args.space.now.slots (value_of c.in-Some.key)) in
    let among_key = among_child c.args.space.now below c.args.top.object c.in-Some.key read among c.in-Some.ensures.0.known in (
      lead ++ key,
      pair_turned names c.args.space.now below c.requires.well.sound read c.args.top among c.requires.end c.args.form c.in-Some.ensures.0.label c.in-Some.ensures.1.label c.in-Some.key c.in-Some.value c.requires.shape
          c.in-Some.ensures.0.here c.in-Some.ensures.1.here,
      c.in_ok-push_key-in-Some.ensures.written below read among_key ∙ ap (λ (s : List ℕ). s ++ key) c.in_ok-push_lead-in-Some.ensures ∙ append_assoc c.args.out.now.items lead key,
    )

pub returns-in_ok-push_line_end-in-None-clause-turned : goal.returns-in_ok-push_line_end-in-None-clause-turned
returns-in_ok-push_line_end-in-None-clause-turned c = λ below read among.
    let names = names_of c.args.program.now in
    let last : List ℕ = line_end (way_of c.args.form) in (
      pairs_closed names c.args.space.now below c.requires.well.sound read c.args.top among c.requires.end c.args.form c.requires.shape c.in-None.ensures,
      c.in_ok-push_line_end-in-None.ensures ∙ ap (λ (s : List ℕ). s ++ last) c.in_ok-push-in-None.ensures.items ∙ append_assoc c.args.out.now.items (125 ∷ []) last
          ∙ ap (λ (s : List ℕ). c.args.out.now.items ++ s) (sym (closing_is names c.args.space.now below c.requires.well.sound read c.args.top among c.requires.end (Pairs c.args.form) c.requires.shape)),
    )
