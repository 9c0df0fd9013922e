-- The clusters that a table and values lead to.
use Rattle.std.proofs.Common.{ℕ, ◌<◌, zero, suc, arith, List, [], ◌∷◌, length, get_or, Contains, Some}
use Rattle.std.proofs.Math.Logic.{⊎_elim}
use Rattle.std.proofs.lemmas.List.Elements.{Contains-append_left, Contains-append_right, Contains-append_cases, All-weaker}
use Rattle.std.specs.List.{All}
use Rattle.rr_space.specs.Graph.{Object}
use Rattle.rr_space.specs.Parts.{below_ref}
use Rattle.rr_space.specs.Tables.{Table, Below, joined}
use Rattle.rr_space.specs.declared.refer.Ref.{Ref}
use Rattle.rr_text.specs.Reads.{IsReadWith, IsAmong}
use Rattle.rr_builtin.specs.Acts.{IsRefAmong}
use Rattle.rr_builtin.proofs.Among.{none_in, among_of, of_among}
use Rattle.rr_eval.specs.Effects.{below_values, led}
use Rattle.rr_eval.specs.Within.{reach, IsReached}
use Rattle.rr_eval.proofs.Holding.{all_rest, ref_among}

values_have : (vs : List Ref) (i : ℕ) (d : Ref) (e : ℕ × List Object) → i < length vs → Contains (below_ref (get_or vs i d)) e → Contains (below_values vs) e
values_have [] i d e lt h = absurd (omega (arith, lt))
values_have (v ∷ vs) zero d e lt h = Contains-append_left (below_ref v) (below_values vs) e h
values_have (v ∷ vs) (suc i) d e lt h = Contains-append_right (below_ref v) (below_values vs) e (values_have vs i d e (omega (arith, lt)) h)

values_in : (below : Below) (vs : List Ref) → All (IsAmong below) vs → (e : ℕ × List Object) → Contains (below_values vs) e → Contains below e
values_in below [] all e h = none_in e h
values_in below (v ∷ vs) all e h = ⊎_elim
    (λ here. all zero v (omega arith) e here)
    (λ there. values_in below vs (all_rest (IsAmong below) v vs all) e there)
    (Contains-append_cases (below_ref v) (below_values vs) e h)

module _ (t : Table) (vs : List Ref) where
  -- what the values lead to is among them
  pub led_has : All (IsRefAmong (led t vs)) vs
  led_has i d lt = of_among (led t vs) (get_or vs i d) (λ e h. Contains-append_right (joined t.below) (below_values vs) e (values_have vs i d e lt h))

  -- they are among all that both lead to
  led_in : (below : Below) → IsReadWith t below → All (IsAmong below) vs → (e : ℕ × List Object) → Contains (led t vs) e → Contains below e
  led_in below read all e h = ⊎_elim (read.all e) (values_in below vs all e) (Contains-append_cases (joined t.below) (below_values vs) e h)

  -- so that a number names one of them
  pub led_read : (below : Below) → IsReadWith t below → All (IsAmong below) vs → IsReadWith t (led t vs)
  led_read below read all = record {
    one = λ c os ps first second. read.one c os ps (led_in below read all (c, os) first) (led_in below read all (c, ps) second);
    all = λ e h. Contains-append_left (joined t.below) (below_values vs) e h;
  }

-- what is reached leads to these clusters
pub reached_among : (k : ℕ) (below : Below) (vs : List Ref) → All (IsReached (reach k (Some below))) vs → All (IsAmong below) vs
reached_among k below vs all = All-weaker (IsReached (reach k (Some below))) (IsAmong below) (λ r h. among_of below r (ref_among k below r h)) vs all

pub reached_refs : (k : ℕ) (below : Below) (vs : List Ref) → All (IsReached (reach k (Some below))) vs → All (IsRefAmong below) vs
reached_refs k below vs all = All-weaker (IsReached (reach k (Some below))) (IsRefAmong below) (ref_among k below) vs all
