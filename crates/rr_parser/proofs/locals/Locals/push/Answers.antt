use Rattle.std.proofs.Common.{◌≡◌, ◌∙◌, ℕ, ◌++◌, ◌∷◌, [], List, Option, Some, None, sym, ap, subst, arith, length, slice_index_or, slice_set}
use Rattle.rr_parser.specs.declared.locals.Local.{Local}
use Rattle.rr_parser.specs.Locals.{IsIndexed}
use Rattle.rr_parser.proofs.Indexing.{pushed}
use Rattle.rr_parser.proofs.locals.Locals.push.Goals as goal

pub invariant_of-self-2 : goal.invariant_of-self-2
invariant_of-self-2 c =
    let ls = c.self.inside.locals.items in
    let hidden = c.self.inside.hidden.items in
    let newest = c.self.inside.newest.items in
    let l = c.args.local in
    let room = c.make_room.new.newest.items in
    let hid : c.place_of-hidden.result ≡ slice_index_or newest l.name.0 None = c.place_of-hidden.ensures ∙ ap (λ (xs : List (Option ℕ)). slice_index_or xs l.name.0 None) c.as_slice.ensures.value in
    let all : c.push_reserved.new.self.items ≡ ls ++ l ∷ [] = c.push_reserved.ensures.items ∙ ap (λ (xs : List Local). xs ++ l ∷ []) c.reserve.ensures.items in
    let kept : c.push_reserved-2.new.self.items ≡ hidden ++ slice_index_or newest l.name.0 None ∷ [] =
    c.push_reserved-2.ensures.items ∙ ap (λ (xs : List (Option ℕ)). xs ++ c.place_of-hidden.result ∷ []) c.reserve-2.ensures.items ∙ ap (λ (e : Option ℕ). hidden ++ e ∷ []) hid in
    let place : c.len-place.result ≡ length ls = omega arith in
    let done = pushed ls l hidden newest room c.self.invariant c.in_ok-make_room.ensures.same c.in_ok-make_room.ensures.long in
    subst (λ (xs : List Local). IsIndexed xs c.push_reserved-2.new.self.items (slice_set room l.name.0 (Some c.len-place.result))) (sym all)
    (subst (λ (xs : List (Option ℕ)). IsIndexed (ls ++ l ∷ []) xs (slice_set room l.name.0 (Some c.len-place.result))) (sym kept)
    (subst (λ (n : ℕ). IsIndexed (ls ++ l ∷ []) (hidden ++ slice_index_or newest l.name.0 None ∷ []) (slice_set room l.name.0 (Some n))) (sym place) done))
