-- Elements that are compared with a value.
use Rattle.std.proofs.Common.{◌≡◌, ◌∙◌, ℕ, ◌+◌, ◌<◌, ◌≤◌, drop, length, refl, ap, sym, arith}
use Rattle.rr_base.specs.declared.limits.TheConstants.Limits.{DEFAULT}
use Rattle.rr_space.specs.Tables.{Table, Below, graph_of, resolve}
use Rattle.rr_space.specs.Sound.{IsTableSound}
use Rattle.rr_space.specs.Parts.{value_of}
use Rattle.rr_space.specs.Kinds.{kind_at}
use Rattle.rr_space.specs.Labels.{triples_at}
use Rattle.rr_space.specs.declared.refer.Ref.{Ref}
use Rattle.rr_text.specs.Reads.{IsAmong, IsReadWith}
use Rattle.rr_text.specs.Walk.{Walked, Differs}
use Rattle.rr_text.specs.Same.{kind_in, triples_in}
use Rattle.rr_text.specs.Keys.{reading}
use Rattle.rr_text.specs.Comparing.{value_in, values_in, item_compared, unless_differs, searched}
use Rattle.rr_text.specs.Beside.{outcome_of}
use Rattle.rr_text.specs.declared.sight.Compared.{Compared}
use Rattle.rr_text.specs.declared.sight.Compared.TheVariants as compared
use Rattle.rr_text.proofs.Fronts.{values_next, values_end}
use Rattle.rr_text.proofs.Sided.{count_told, kind_told, value_told}

module _ (t : Table) (below : Below) (sound : IsTableSound t.slots t.below) (read : IsReadWith t below) (array value : Ref) (among_array : IsAmong below array) where
  -- what the search comes to from the n-th element on
  abbrev pub searched_from : ℕ → Walked
  searched_from n = searched (reading t below) DEFAULT.levels (resolve t.slots (value_of value)) (drop n (values_in (triples_in (graph_of t.slots below) (resolve t.slots (value_of array)))))

  pub searched_end : (n : ℕ) → length (triples_at t array) ≤ n → searched_from n ≡ Differs
  searched_end n le =
      ap (searched (reading t below) DEFAULT.levels (resolve t.slots (value_of value)))
      (values_end (triples_in (graph_of t.slots below) (resolve t.slots (value_of array))) n (omega (arith, le, count_told t below sound read array among_array)))

  module _ (item : Ref) (n : ℕ) (now : Compared) (lt : n < length (triples_at t array)) (among_item : IsAmong below item) (is_item : value_of item ≡ value_in (triples_at t array) n)
      (is : outcome_of now ≡ item_compared (reading t below) DEFAULT.levels (kind_at t item) (resolve t.slots (value_of item)) (resolve t.slots (value_of value))) where
    tried : searched_from n ≡ unless_differs (outcome_of now) (searched_from (n + 1))
    tried =
        let r = reading t below in
        let v = resolve t.slots (value_of value) in
        let ts = triples_in (graph_of t.slots below) (resolve t.slots (value_of array)) in
        ap (searched r DEFAULT.levels v) (values_next ts n (omega (arith, lt, count_told t below sound read array among_array)))
        ∙ ap (λ x. unless_differs (item_compared r DEFAULT.levels (kind_in r.graph x) x v) (searched_from (n + 1))) (value_told t below sound read array item n among_array is_item)
        ∙ ap (λ k. unless_differs (item_compared r DEFAULT.levels k (resolve t.slots (value_of item)) v) (searched_from (n + 1))) (kind_told t below sound read item among_item)
        ∙ ap (λ w. unless_differs w (searched_from (n + 1))) (sym is)

    pub tried_next : now ≡ compared.Differs → searched_from n ≡ searched_from (n + 1)
    tried_next e = tried ∙ ap (λ c. unless_differs (outcome_of c) (searched_from (n + 1))) e

    kept : (c : Compared) (w : Walked) → (c ≡ compared.Differs → ⊥) → unless_differs (outcome_of c) w ≡ outcome_of c
    kept compared.Same w out = refl
    kept compared.Differs w out = absurd (out refl)
    kept compared.Deep w out = refl
    kept compared.Shell w out = refl

    pub tried_last : (now ≡ compared.Differs → ⊥) → outcome_of now ≡ searched_from n
    tried_last out = sym (tried ∙ kept now (searched_from (n + 1)) out)
