use Rattle.std.proofs.Common.{◌≡◌, suc, ◌+◌, Bool, true, false, not, cond, List, [], ◌∷◌, Some, sym, ap, ◌∙◌, refl, arith, if◌then◌else◌}
use Rattle.std.specs.List.{position_or_len}
use Rattle.std.specs.Map.{lookup, keys_of}
use Rattle.std.proofs.lemmas.Option.{none-some}
use Rattle.indexmap.specs.IndexMap.{insert_entry, set_value_at}
use Rattle.rr_space.specs.Views.{kept_name}
use Rattle.rr_space.proofs.entries.put_pair.Goals as goal
use Rattle.rr_space.proofs.entries.put_pair.Goals.{in-Some, in-None}

-- an entry that was there gets its old name back
old_name : {K R : Type 0} (eq : K → K → Bool) (es : List (K × (R × R))) (k : K) (name v kept w : R) → lookup (eq k) es ≡ Some (kept, w)
    → set_value_at (insert_entry eq es k (name, v)) (position_or_len (eq k) (keys_of es)) (kept, v) ≡ insert_entry eq es k (kept, v)
old_name eq [] k name v kept w e = absurd (none-some (kept, w) e)
old_name {K} {R} eq (x ∷ es) k name v kept w e = by (eq k x.0) e (old_name eq es k name v kept w)
  where
    by : (b : Bool) → (if b then Some x.1 else lookup (eq k) es) ≡ Some (kept, w)
        → (lookup (eq k) es ≡ Some (kept, w) → set_value_at (insert_entry eq es k (name, v)) (position_or_len (eq k) (keys_of es)) (kept, v) ≡ insert_entry eq es k (kept, v))
        → set_value_at (if b then (x.0, (name, v)) ∷ es else x ∷ insert_entry eq es k (name, v)) (cond (not b) (1 + position_or_len (eq k) (keys_of es)) 0) (kept, v)
        ≡ (if b then (x.0, (kept, v)) ∷ es else x ∷ insert_entry eq es k (kept, v))
    by true e rest = refl
    by false e rest =
        let p = position_or_len (eq k) (keys_of es) in
        ap (λ i. set_value_at (x ∷ insert_entry eq es k (name, v)) i (kept, v)) (let z : 1 + p ≡ suc p = omega arith in z) ∙ ap (λ ys. x ∷ ys) (rest e)

pub returns-clause-entries : goal.returns-clause-entries
returns-clause-entries g c =
    let eq = g.K.PartialEq.eq in
    let es = c.args.entries.now.entries in
    let k = c.args.key in
    let name = c.args.name in
    let v = c.args.value in
    let h = c.in_ok-index.ensures in
    elim c.match-before.branch [
      | in-Some w ↦
          let found : lookup (eq k) es ≡ Some w.in-Some.pair = sym h.old ∙ w.in-Some.is in
          ap (λ m. m.entries) w.entries-is ∙ w.replace_value.ensures
          ∙ ap (λ i. set_value_at c.insert_full.new.self.entries i (w.in-Some.pair.0, v)) h.index
          ∙ ap (λ ys. set_value_at ys (position_or_len (eq k) (keys_of es)) (w.in-Some.pair.0, v)) h.entries
          ∙ old_name eq es k name v w.in-Some.pair.0 w.in-Some.pair.1 found
          ∙ ap (λ o. insert_entry eq es k (kept_name o name, v)) (sym found)
      | in-None w ↦
          ap (λ m. m.entries) w.entries-is ∙ h.entries ∙ ap (λ o. insert_entry eq es k (kept_name o name, v)) (sym (sym h.old ∙ w.in-None.is))
    ]
