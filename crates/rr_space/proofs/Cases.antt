-- What a pack gives is alike in the whole graph, and a world without objects has a reading.
use Rattle.std.proofs.Common.{[], length, map, slice_get, None, sym, ap, ◌∙◌, refl, arith}
use Rattle.std.specs.Prelude.{slice_index}
use Rattle.std.proofs.lemmas.Option.{slice_get_within, slice_get-get_or, none-some}
use Rattle.rr_space.specs.Graph.{Own}
use Rattle.rr_space.specs.Tables.{Here, space_graph}
use Rattle.rr_space.specs.Readings.{name_in, whole}
use Rattle.rr_space.specs.Laws.{CopiesAreAlikeInTheWhole, EmptyIsRead}
use Rattle.rr_space.proofs.Renaming.{map_at}
use Rattle.rr_space.proofs.Inside.{alike_inside}
use Rattle.rr_space.proofs.Spaces.{spaces_are_inside, raw_of}

pub copies_in_the_whole : CopiesAreAlikeInTheWhole
copies_in_the_whole tables names bound g h k t u v w places R A B tv tw a =
    alike_inside (space_graph t) (name_in names h) (whole g) (space_graph u) (name_in names k) (whole g) v w places (map Own (names k))
    (record {
      left = spaces_are_inside tables names bound g h t R A.is A.unshared A.knows A.shut;
      right = spaces_are_inside tables names bound g k u R B.is B.unshared B.knows B.shut;
      left_sealed = A.sealed;
      right_sealed = B.sealed;
      published = λ c p. refl;
    })
    tv tw a
    (λ i o e. let r = raw_of tables names bound g k u R B.is i o e in
    let lt = slice_get_within u.slots i (Here r.0) r.1 in
    let size = (R.reads k u.slots B.is).size in
    map_at Own (names k) i (slice_index (names k) i) (slice_get-get_or (names k) i 0 (omega arith)))

pub empty_is_read : EmptyIsRead
empty_is_read tables all = (
  (λ h. []),
  (λ n. None),
  record {
    sound = λ h t e. record {
      within = λ i o l x at has. absurd (none-some _ (ap (λ u. slice_get u i) (sym (all h t e)) ∙ at));
      led = λ i c p at. absurd (none-some _ (ap (λ u. slice_get u i) (sym (all h t e)) ∙ at));
    };
    reads = λ h t e. record {
      size = ap length (sym (all h t e));
      here = λ i o at. absurd (none-some _ (ap (λ u. slice_get u i) (sym (all h t e)) ∙ at));
      led = λ i c p at. absurd (none-some _ (ap (λ u. slice_get u i) (sym (all h t e)) ∙ at));
      one = λ i j o p at bt e2. absurd (none-some _ (ap (λ u. slice_get u i) (sym (all h t e)) ∙ at));
    };
    only = λ n x e. absurd (none-some x e);
    bounded = λ n x e. absurd (none-some x e);
  },
)
