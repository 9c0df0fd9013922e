-- One value more is written.
use Rattle.rr_eval.specs.Published.{published}
use Rattle.std.proofs.Common.{◌≡◌, ◌∙◌, ◌++◌, ◌-◌, ap, sym, subst, arith, length, take, drop}
use Rattle.rr_text.specs.Names.{names_of}
use Rattle.rr_text.specs.Reads.{IsAmong}
use Rattle.rr_text.specs.Walk.{Wrote}
use Rattle.rr_text.specs.Ways.{text_of}
use Rattle.rr_eval.specs.Tasks.{shown_by, texts_shown, lack_of}
use Rattle.rr_eval.proofs.Filling.{two_first}
use Rattle.rr_eval.proofs.Holding.{all_take, all_drop}
use Rattle.rr_eval.proofs.Showing.{texts_next, joined_next}
use Rattle.rr_eval.proofs.show.write_shown.Goals as goal

pub shown_text-requires-clause-value : goal.shown_text-requires-clause-value
shown_text-requires-clause-value c = subst (IsAmong (published c.args.store.now)) (sym c.value-item.is) (c.loop-rest.invariant.among 0 c.value-item.result (omega (arith, c.in-len2-up.len_at_least)))

pub shown_text-requires-clause-said : goal.shown_text-requires-clause-said
shown_text-requires-clause-said c = subst (IsAmong (published c.args.store.now)) (sym c.said-item.is) (c.loop-rest.invariant.among 1 c.said-item.result (omega (arith, c.in-len2-up.len_at_least)))

pub loop-rest-preserved : goal.loop-rest-preserved
loop-rest-preserved c =
    let names = names_of c.args.program.now in
    let t = c.args.space.now in
    let rest = c.loop-rest.rest.now in
    let more = take (length rest - 2) (drop 2 rest) in
    let v = c.value-item.result in
    let said = c.said-item.result in
    let bytes = c.in-Bytes.bytes.items in
    let is = two_first rest v said c.in-len2-up.len_at_least c.value-item.is c.said-item.is in
    let text : Wrote bytes ≡ shown_by names t v said = ap text_of (sym c.in-Bytes.is) ∙ c.in_ok-bytes.ensures.text in
    let texts = texts_next names t rest more v said (Wrote bytes) is text in
    let push : c.extend_from_slice.new.self.items ≡ c.loop-rest.piece.items ++ bytes = c.in_ok-extend_from_slice-in-Bytes.ensures.items ∙ ap (λ l. c.loop-rest.piece.items ++ l) c.as_slice.ensures.value in
    record {
      piece = c.loop-rest.invariant.piece ∙ joined_next c.loop-rest.piece.items bytes c.extend_from_slice.new.self.items (texts_shown names t rest) (texts_shown names t more) texts push;
      lack = c.loop-rest.invariant.lack ∙ ap lack_of texts;
      among = all_take (IsAmong (published c.args.store.now)) (length rest - 2) (drop 2 rest) (all_drop (IsAmong (published c.args.store.now)) 2 rest c.loop-rest.invariant.among);
    }
