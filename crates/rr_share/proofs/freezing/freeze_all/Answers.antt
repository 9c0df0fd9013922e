use Rattle.std.proofs.Common.{IsTrue, subst, sym, ◌∙◌, refl}
use Rattle.rr_space.specs.Views.{is_whole}
use Rattle.rr_share.proofs.Searching.{contains_at}
use Rattle.rr_share.proofs.Froze.{froze_more, untouched, here_whole}
use Rattle.rr_share.proofs.freezing.freeze_all.Goals as goal

pub freeze-requires : goal.freeze-requires
freeze-requires c =
    let same = untouched c.loop-place.place c.at.result c.args.found.now c.len-place-end.ensures.distinct c.args.space.now.slots c.loop-place.space.slots c.loop-place.invariant.slots c.at.ensures in
    subst (λ s. IsTrue (is_whole s)) (sym same) (c.requires c.at.result (contains_at c.args.found.now c.loop-place.place c.at.result c.at.ensures))

pub loop-place-preserved : goal.loop-place-preserved
loop-place-preserved c =
    let h = c.loop-place.invariant in
    let i = c.loop-place.place in
    let n = c.at.result in
    let found = c.args.found.now in
    let old = c.args.space.now.slots in
    let mid = c.loop-place.space.slots in
    let o = here_whole old n (c.requires n (contains_at found i n c.at.ensures)) in
    record {
      slots = froze_more i n found c.len-place-end.ensures.distinct old mid h.slots c.at.ensures c.freeze.new.self.slots o.0 o.1
          (c.freeze.ensures.slots n o.0 refl (untouched i n found c.len-place-end.ensures.distinct old mid h.slots c.at.ensures ∙ o.1));
      below = c.freeze.ensures.below ∙ h.below;
      keys = c.freeze.ensures.keys ∙ h.keys;
      rest = let r = c.freeze.ensures.rest in let s = h.rest in record { limit = r.limit ∙ s.limit; owner = r.owner ∙ s.owner; next_message = r.next_message ∙ s.next_message };
    }
