use Rattle.std.proofs.Common.{◌≡◌, length, Some, refl, ap, ◌∙◌, arith}
use Rattle.std.proofs.lemmas.Option.{slice_get_read}
use Rattle.rr_space.proofs.Keeping.{set_same}
use Rattle.rr_space.proofs.Paging.{paged_behind, kept_behind, paged_new, kept_new, same_extends}
use Rattle.rr_space.proofs.place_table.part_of.Goals as goal

pub returns-in_err-add_pages-clause-paged : goal.returns-in_err-add_pages-clause-paged
returns-in_err-add_pages-clause-paged c =
    let places = c.args.places.now.items in
    paged_behind c.args.pages.now.items c.add_pages.new.pages.items places places c.requires.paged c.add_pages.ensures.none (same_extends places)

pub returns-then-number-ne0-clause-part : goal.returns-then-number-ne0-clause-part
returns-then-number-ne0-clause-part c =
    let pages = c.add_pages.new.pages.items in
    slice_get_read pages (length pages) c.args.page c.index-number.result.now refl c.in_ok-add_pages.ensures.there c.index-number.ensures

pub returns-then-number-ne0-clause-paged : goal.returns-then-number-ne0-clause-paged
returns-then-number-ne0-clause-paged c =
    let places = c.args.places.now.items in
    paged_behind c.args.pages.now.items c.add_pages.new.pages.items places places c.requires.paged c.add_pages.ensures.none (same_extends places)

pub returns-in_err-number-clause-paged : goal.returns-in_err-number-clause-paged
returns-in_err-number-clause-paged c =
    paged_behind c.args.pages.now.items c.add_pages.new.pages.items c.args.places.now.items c.add_part.new.places.items c.requires.paged c.add_pages.ensures.none c.add_part.ensures.kept

pub returns-clause-part : goal.returns-clause-part
returns-clause-part c = set_same c.add_pages.new.pages.items c.args.page c.in_ok-number.number c.in_ok-add_pages.ensures.there

pub returns-clause-paged : goal.returns-clause-paged
returns-clause-paged c =
    let pages = c.add_pages.new.pages.items in
    let places = c.args.places.now.items in
    let paged = paged_behind c.args.pages.now.items pages places places c.requires.paged c.add_pages.ensures.none (same_extends places) in
    let zero : c.index-number.result.now ≡ 0 = omega (arith, c.if-number-ne0.false) in
    let none = slice_get_read pages (length pages) c.args.page c.index-number.result.now refl c.in_ok-add_pages.ensures.there c.index-number.ensures ∙ ap Some zero in
    paged_new pages places c.add_part.new.places.items paged c.add_part.ensures.kept c.args.page c.in_ok-number.number none c.in_ok-number.ensures.fresh c.in_ok-number.ensures.room

pub returns-clause-kept : goal.returns-clause-kept
returns-clause-kept c = λ n k e.
    let pages = c.add_pages.new.pages.items in
    let places = c.args.places.now.items in
    let paged = paged_behind c.args.pages.now.items pages places places c.requires.paged c.add_pages.ensures.none (same_extends places) in
    let zero : c.index-number.result.now ≡ 0 = omega (arith, c.if-number-ne0.false) in
    let none = slice_get_read pages (length pages) c.args.page c.index-number.result.now refl c.in_ok-add_pages.ensures.there c.index-number.ensures ∙ ap Some zero in
    kept_new pages places c.add_part.new.places.items paged c.add_part.ensures.kept c.args.page c.in_ok-number.number none c.in_ok-number.ensures.fresh c.in_ok-number.ensures.room n k
    (kept_behind c.args.pages.now.items pages places places c.add_pages.ensures.kept (same_extends places) n k e)
