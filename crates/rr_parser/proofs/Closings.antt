-- Where members of lists begin and end.
use Rattle.std.proofs.Common.{◌≡◌, ◌<◌, Bool, true, false, Option, Some, None, refl, sym, ap, ◌∙◌, arith}
use Rattle.std.proofs.lemmas.Bool.{false≢true}
use Rattle.rr_base.specs.declared.name.Sym.{Sym}
use Rattle.rr_tree.specs.Tree.{Tree}
use Rattle.rr_parser.specs.declared.word.Listed.{Listed}
use Rattle.rr_parser.specs.declared.word.Listed.TheVariants as listings
use Rattle.rr_parser.specs.declared.word.WordKind.{WordKind}
use Rattle.rr_parser.specs.declared.word.WordKind.TheVariants as kind
use Rattle.rr_parser.specs.Places.{Place, is_kind, word, at}
use Rattle.rr_parser.specs.Grammar.Nesting.{Nested}
use Rattle.rr_parser.specs.Grammar.Calls.{closing, label, star, Item, a_splat, a_plain_item, Member, label_of_kind, last, by_label, by_arrow, Adding, adding, Given, Listing, a_pair_member, an_item, only_pairs}
use Rattle.rr_parser.proofs.Looks.{seen_as, none_unless, one_kind, other-word}
use Rattle.rr_parser.proofs.Listing.{closes, ends_member, closing-next, last-next}
use Rattle.rr_parser.proofs.Strengths.{strength, Stops, stops_by}
use Rattle.rr_parser.proofs.Firsts.{starts_no_closing, argument_starts}

-- a label begins a pair, and else a value does
label_no_closing : (k : Listed) (s m : Place) (x : Sym) → at label s ≡ Some (x, m) → at (closing k) s ≡ None
label_no_closing k s m x e = none_unless (at (closing k) s) (λ u z f.
    let c = closing-next k s z u f in
    let w = seen_as (λ w. label_of_kind w.kind) s m x e in
    let g : ◌≡◌ {A = Option Sym} None (Some x) = sym (closing_no_label k c.0 c.2) ∙ ap label_of_kind (one_kind s z m c.0 w.kind c.1 w.here) ∙ w.told in
    let never : ⊥ = cc in never)
  where
    closing_no_label : (k : Listed) (q : WordKind) → closes k q ≡ true → label_of_kind q ≡ None
    closing_no_label k (kind.Label y) f = not_closing k f
      where
        not_closing : (k : Listed) → closes k (kind.Label y) ≡ true → ◌≡◌ {A = Option Sym} (Some y) None
        not_closing listings.Command f = absurd cc
        not_closing listings.Call f = absurd cc
        not_closing listings.Array f = absurd cc
        not_closing listings.Hash f = absurd cc
    closing_no_label k _ f = refl

star_closes : (k : Listed) → closes k star ≡ false
star_closes listings.Command = refl
star_closes listings.Call = refl
star_closes listings.Array = refl
star_closes listings.Hash = refl

-- where an item begins, no list ends
item_no_closing : (R : Nested) (k : Listed) (s z : Place) (t : Tree) → Item R s t z → at (closing k) s ≡ None
item_no_closing R k s z t (a_splat {m = m} e h) = none_unless (at (closing k) s) (λ u y f.
    let c = closing-next k s y u f in
    let g : false ≡ true = sym (star_closes k) ∙ ap (closes k) (one_kind s m y star c.0 e c.1) ∙ c.2 in
    let never : ⊥ = cc in never)
item_no_closing R k s z t (a_plain_item h) = starts_no_closing k s (argument_starts R s z t h)

listing_no_closing : (R : Nested) (only : Bool) (k : Listed) (s z : Place) (r : Member) → Listing R only s r z → at (closing k) s ≡ None
listing_no_closing R only k s z r (an_item {t = t} e h) = item_no_closing R k s z t h
listing_no_closing R only k s z r (a_pair_member (by_label {m = m} {x = x} e h)) = label_no_closing k s m x e
listing_no_closing R only k s z r (a_pair_member (by_arrow {m = m} {k = q} h e i)) = starts_no_closing k s (argument_starts R s m q h)

pub adding_no_closing : (R : Nested) (k : Listed) (g : Given) (s z : Place) (t : Given) → Adding R k g s t z → at (closing k) s ≡ None
adding_no_closing R k g s z t (adding {m = m} h) = listing_no_closing R (only_pairs k g) k s z m h

-- what stops a member of a list: nothing goes on with it, and it is no key
abbrev pub MemberStops : Place → Type 0
MemberStops z = Stops 27 z × (at (word kind.Arrow) z ≡ None)

-- what ends a list stops its members
pub last_stops : (k : Listed) (m z : Place) (u : Unit {0}) → at (last k) m ≡ Some (u, z) → MemberStops m
last_stops k m z u e = let h = last-next k m z u e in (stops_by h.0 27 m h.1 h.2 (member_stop k h.0 h.3), other-word kind.Arrow h.0 m h.1 h.2 (no_arrow k h.0 h.3))
  where
    no_arrow : (k : Listed) (q : WordKind) → ends_member k q ≡ true → is_kind q kind.Arrow ≡ false
    no_arrow k kind.Arrow f = not_ended k f
      where
        not_ended : (k : Listed) → ends_member k kind.Arrow ≡ true → true ≡ false
        not_ended listings.Command f = absurd cc
        not_ended listings.Call f = absurd cc
        not_ended listings.Array f = absurd cc
        not_ended listings.Hash f = absurd cc
    no_arrow k _ f = refl

    member_stop : (k : Listed) (q : WordKind) → ends_member k q ≡ true → 27 < strength q
    member_stop k kind.Comma f = omega arith
    member_stop listings.Call kind.Close f = omega arith
    member_stop listings.Array kind.CloseSquare f = omega arith
    member_stop listings.Hash kind.CloseBrace f = omega arith
    member_stop listings.Command _ f = absurd (false≢true f)
    member_stop listings.Call _ f = absurd (false≢true f)
    member_stop listings.Array _ f = absurd (false≢true f)
    member_stop listings.Hash _ f = absurd (false≢true f)
