-- The list of the clusters that the store has, and what its entries are.
use Rattle.std.proofs.Common.{◌≡◌, ℕ, zero, suc, ◌+◌, ⊎_elim, List, [], ◌∷◌, map, Option, Some, None, slice_get, Contains, sym, ap, ◌∙◌, subst, refl, arith}
use Rattle.std.specs.Option.{option_map}
use Rattle.std.proofs.lemmas.Option.{none-some, same_Some}
use Rattle.rr_space.specs.Graph.{Object}
use Rattle.rr_space.specs.Readings.{Shared, Knows}
use Rattle.rr_space.specs.Tables.{Slot, Here, Below, Whole, numbered_object}
use Rattle.rr_space.proofs.Renaming.{contains_at}
use Rattle.rr_space.proofs.Sounds.{none_in, in_first, in_later}
use Rattle.rr_world.specs.Views.{Assembly}
use Rattle.rr_world.specs.Layouts.{cluster_slots, layout, HasAllClusters}

-- each cluster under its number, the first of them under j
abbrev listed_from : ℕ → List Whole → Below
listed_from j [] = []
listed_from j (w ∷ ws) = (j, map (numbered_object j) w.own) ∷ listed_from (j + 1) ws

abbrev pub clusters_of : Assembly → Below
clusters_of w = listed_from 0 w.channels.store.clusters

listed_in : (j n : ℕ) (ws : List Whole) (i : ℕ) (w : Whole) → n ≡ j + i → slice_get ws i ≡ Some w → Contains (listed_from j ws) (n, map (numbered_object n) w.own)
listed_in j n [] i w e at = absurd (none-some w at)
listed_in j n (v ∷ ws) zero w e at =
    let same : (j, map (numbered_object j) v.own) ≡ (n, map (numbered_object n) w.own) = ap (λ (u : Whole). (j, map (numbered_object j) u.own)) (same_Some v w at) ∙ ap (λ k. (k, map (numbered_object k) w.own)) (let q : j ≡ n = omega (arith, e) in q) in
    contains_at (listed_from j (v ∷ ws)) 0 (n, map (numbered_object n) w.own) (ap (λ x. Some x) same)
listed_in j n (v ∷ ws) (suc i) w e at = in_later (j, map (numbered_object j) v.own) (listed_from (j + 1) ws) (n, map (numbered_object n) w.own) (listed_in (j + 1) n ws i w (omega (arith, e)) at)

listed_back : (j : ℕ) (ws : List Whole) (e : ℕ × List Object) → Contains (listed_from j ws) e → (i : ℕ) × (w : Whole) × (e.0 ≡ j + i) × (slice_get ws i ≡ Some w) × (map (numbered_object e.0) w.own ≡ e.1)
listed_back j [] e has = absurd (none_in e has)
listed_back j (w ∷ ws) e has = ⊎_elim
    (λ first. (
      0,
      w,
      let q : j ≡ e.0 = ap (λ (x : ℕ × List Object). x.0) first in omega (arith, q),
      refl,
      ap (λ n. map (numbered_object n) w.own) (sym (ap (λ (x : ℕ × List Object). x.0) first)) ∙ ap (λ (x : ℕ × List Object). x.1) first,
    ))
    (λ later. let q = listed_back (j + 1) ws e later in (suc q.0, q.1, (let is = q.2 in omega (arith, is)), q.3, q.4))
    (in_first (j, map (numbered_object j) w.own) (listed_from (j + 1) ws) e has)

-- an entry is the store's cluster of that number
cluster_back : (w : Assembly) (e : ℕ × List Object) → Contains (clusters_of w) e → (x : Whole) × (slice_get w.channels.store.clusters e.0 ≡ Some x) × (map (numbered_object e.0) x.own ≡ e.1)
cluster_back w e has =
    let q = listed_back 0 w.channels.store.clusters e has in
    (q.1, ap (slice_get w.channels.store.clusters) (let is = q.2 in let n : e.0 ≡ q.0 = omega (arith, is) in n) ∙ q.3, q.4)

shared_slots : (w : Assembly) (c : ℕ) (x : Whole) → slice_get w.channels.store.clusters c ≡ Some x → layout w (Shared c) ≡ Some (cluster_slots x)
unfolding layout
shared_slots w c x at = ap (option_map cluster_slots) at

shared_cluster : (w : Assembly) (c : ℕ) (u : List Slot) → layout w (Shared c) ≡ Some u → (x : Whole) × (slice_get w.channels.store.clusters c ≡ Some x) × (map Here x.own ≡ u)
unfolding layout
shared_cluster w c u is = by (slice_get w.channels.store.clusters c) refl is
  where
    by : (y : Option Whole) → slice_get w.channels.store.clusters c ≡ y → option_map cluster_slots y ≡ Some u → (x : Whole) × (slice_get w.channels.store.clusters c ≡ Some x) × (map Here x.own ≡ u)
    by None e none = absurd (none-some u none)
    by (Some x) e some = (x, e, same_Some (map Here x.own) u some)

here_same : (o p : Object) → Here o ≡ Here p → o ≡ p
here_same o p e = cc

pub heres_same : (os ps : List Object) → map Here os ≡ map Here ps → os ≡ ps
heres_same [] [] e = refl
heres_same [] (p ∷ ps) e = absurd (none-some (Here p) (ap (λ xs. slice_get xs 0) e))
heres_same (o ∷ os) [] e = absurd (none-some (Here o) (ap (λ xs. slice_get xs 0) (sym e)))
heres_same (o ∷ os) (p ∷ ps) e =
    ap (λ x. x ∷ os) (here_same o p (same_Some (Here o) (Here p) (ap (λ xs. slice_get xs 0) e)))
    ∙ ap (λ xs. p ∷ xs) (heres_same os ps (ap rest_of e))
  where
    rest_of : List Slot → List Slot
    rest_of [] = []
    rest_of (x ∷ xs) = xs

pub clusters_known : (w : Assembly) → Knows (clusters_of w) (layout w)
clusters_known w = record { known = λ c os has. let q = cluster_back w (c, os) has in (q.0.own, shared_slots w c q.0 q.1, q.2) }

pub clusters_listed : (w : Assembly) → HasAllClusters (layout w) (clusters_of w)
clusters_listed w = record {
  one = λ c os ps a b.
      let p = cluster_back w (c, os) a in
      let q = cluster_back w (c, ps) b in
      sym p.2 ∙ ap (λ (x : Whole). map (numbered_object c) x.own) (same_Some p.0 q.0 (sym p.1 ∙ q.1)) ∙ q.2;
  all = λ c raws is.
      let q = shared_cluster w c (map Here raws) is in
      subst (λ os. Contains (clusters_of w) (c, map (numbered_object c) os)) (heres_same q.0.own raws q.2) (listed_in 0 c w.channels.store.clusters c q.0 (omega arith) q.1);
}
