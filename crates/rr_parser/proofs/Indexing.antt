-- What is known of each name stays right when a variable comes or goes.
use Rattle.std.proofs.Common.{◌≡◌, ◌≢◌, ℕ, suc, ◌+◌, ◌<◌, ◌≤◌, ◌∙◌, ◌⊎◌, ⊎_elim, sym, ap, subst, arith, refl, List, [], ◌∷◌, ◌++◌, length, take, get_or, Bool, cond, Option, Some, None, slice_get, slice_set}
use Rattle.std.proofs.lemmas.List.{length-append, get_or_past, get_or-set_same, get_or-set_other, take-append-le}
use Rattle.std.proofs.lemmas.Option.{slice_get-get_or, slice_get_within}
use Rattle.std.proofs.Math.ListN.{get_or-append}
use Rattle.std.proofs.Math.Nat.{eq-or-lt_of_le}
use Rattle.std.proofs.Math.Seq.{get_or-append_seam, take-append_seam}
use Rattle.std.proofs.lemmas.Bool.{ne_eqb, eq-eqb}
use Rattle.std.proofs.lemmas.Bool.Decides.{eqb_tells}
use Rattle.rr_parser.specs.declared.locals.Local.{Local}
use Rattle.rr_parser.specs.Grammar.Names.{find, local_if, later_or}
use Rattle.rr_parser.specs.Locals.{Points, IsIndexed}
use Rattle.rr_parser.proofs.Scopes.{find-last}

-- what is found has the name
named_or : (x : ℕ) (l m : Local) (o : Option Local) → ((k : Local) → o ≡ Some k → k.name.0 ≡ x) → later_or o (local_if x l) ≡ Some m → m.name.0 ≡ x
named_or x l m (Some k) found h = found m h
named_or x l m None found h =
    ⊎_elim (λ y. let e : ◌≡◌ {A = Option Local} (Some l) (Some m) = sym (ap (λ (b : Bool). cond b (Some l) None) y.0) ∙ h in let same : l ≡ m = cc in ap (λ (k : Local). k.name.0) (sym same) ∙ y.1)
    (λ y. let e : ◌≡◌ {A = Option Local} None (Some m) = sym (ap (λ (b : Bool). cond b (Some l) None) y.0) ∙ h in absurd cc)
    (eqb_tells l.name.0 x)

find_named : (x : ℕ) (ls : List Local) (m : Local) → find x ls ≡ Some m → m.name.0 ≡ x
find_named x [] m h = absurd cc
find_named x (l ∷ ls) m h = named_or x l m (find x ls) (find_named x ls) h

module _ (ls : List Local) (l : Local) where
  abbrev all : List Local
  all = ls ++ l ∷ []

  count : length all ≡ length ls + 1
  count = let e = length-append ls (l ∷ []) in omega arith

  get_before : (p : ℕ) → p < length ls → slice_get all p ≡ slice_get ls p
  get_before p lt =
      let e = count in
      slice_get-get_or all p l (omega arith) ∙ ap Some (get_or-append ls (l ∷ []) l p lt) ∙ sym (slice_get-get_or ls p l lt)

  get_last : slice_get all (length ls) ≡ Some l
  get_last = let e = count in slice_get-get_or all (length ls) l (omega arith) ∙ ap Some (get_or-append_seam ls l [] l)

  find_other : (x : ℕ) → l.name.0 ≢ x → find x all ≡ find x ls
  find_other x ne = find-last x ls l ∙ ap (λ (b : Bool). later_or (cond b (Some l) None) (find x ls)) (ne_eqb l.name.0 x ne)

  find_same : (x : ℕ) → l.name.0 ≡ x → find x all ≡ Some l
  find_same x e = find-last x ls l ∙ ap (λ (b : Bool). later_or (cond b (Some l) None) (find x ls)) (eq-eqb l.name.0 x e)

  -- a variable of another name comes
  with_other : (e : Option ℕ) (x : ℕ) → l.name.0 ≢ x → Points e x ls → Points e x all
  with_other None x ne h = find_other x ne ∙ h
  with_other (Some p) x ne h = (let e = count in let lt = h.0 in omega arith, find_other x ne ∙ h.1 ∙ sym (get_before p h.0))

  -- a variable of another name goes
  place_left : (x p : ℕ) → l.name.0 ≢ x → find x all ≡ slice_get all p → (suc p ≡ length all) ⊎ (suc p < length all) → (p < length ls) × (find x ls ≡ slice_get ls p)
  place_left x p ne h cases =
      let e = count in
      ⊎_elim (λ is. let at : p ≡ length ls = omega arith in
      absurd (ne (find_named x all l (h ∙ ap (slice_get all) at ∙ get_last))))
      (λ lt. let less : p < length ls = omega arith in (less, sym (find_other x ne) ∙ h ∙ get_before p less))
      cases

  without_other : (e : Option ℕ) (x : ℕ) → l.name.0 ≢ x → Points e x all → Points e x ls
  without_other None x ne h = sym (find_other x ne) ∙ h
  without_other (Some p) x ne h = place_left x p ne h.1 (eq-or-lt_of_le (let lt = h.0 in omega arith))

  points_last : (x : ℕ) → l.name.0 ≡ x → Points (Some (length ls)) x all
  points_last x e = (let k = count in omega arith, find_same x e ∙ sym get_last)

  -- the table has an entry for the name of the last variable
  pub last_has_entry : (hidden newest : List (Option ℕ)) → IsIndexed all hidden newest → (length newest ≤ l.name.0) → ⊥
  last_has_entry hidden newest ix le =
      let none : get_or newest l.name.0 None ≡ None = get_or_past newest l.name.0 None le in
      let h = subst (λ (e : Option ℕ). Points e l.name.0 all) none (ix.last l.name.0) in
      let e : ◌≡◌ {A = Option Local} None (Some l) = sym h ∙ find_same l.name.0 refl in absurd cc

  module _ (hidden newest : List (Option ℕ)) where
    -- one variable more
    pub pushed : (room : List (Option ℕ)) → IsIndexed ls hidden newest → ((x : ℕ) → get_or room x None ≡ get_or newest x None) → l.name.0 < length room
        → IsIndexed all (hidden ++ get_or newest l.name.0 None ∷ []) (slice_set room l.name.0 (Some (length ls)))
    pushed room ix same long = record {
      count = let a = length-append hidden (get_or newest l.name.0 None ∷ []) in let b = count in let d = ix.count in omega arith;
      before = λ i m h.
          let b = count in
          ⊎_elim (λ is.
          let at : i ≡ length ls = omega arith in
          let mine : l ≡ m = let e : ◌≡◌ {A = Option Local} (Some l) (Some m) = sym get_last ∙ ap (slice_get all) (sym at) ∙ h in cc in
          let entry : get_or (hidden ++ get_or newest l.name.0 None ∷ []) i None ≡ get_or newest l.name.0 None
          = ap (λ k. get_or (hidden ++ get_or newest l.name.0 None ∷ []) k None) (at ∙ sym ix.count) ∙ get_or-append_seam hidden (get_or newest l.name.0 None) [] None in
          let front : take i all ≡ ls = ap (λ k. take k all) at ∙ take-append_seam ls (l ∷ []) in
          subst (λ (k : Local). Points (get_or (hidden ++ get_or newest l.name.0 None ∷ []) i None) k.name.0 (take i all)) mine
          (subst (λ (e : Option ℕ). Points e l.name.0 (take i all)) (sym entry) (subst (λ (k : List Local). Points (get_or newest l.name.0 None) l.name.0 k) (sym front) (ix.last l.name.0))))
          (λ lt.
          let less : i < length ls = omega arith in
          let d = ix.count in
          let entry : get_or (hidden ++ get_or newest l.name.0 None ∷ []) i None ≡ get_or hidden i None = get_or-append hidden (get_or newest l.name.0 None ∷ []) None i (omega arith) in
          let front : take i all ≡ take i ls = take-append-le i ls (l ∷ []) (omega arith) in
          subst (λ (e : Option ℕ). Points e m.name.0 (take i all)) (sym entry) (subst (λ (k : List Local). Points (get_or hidden i None) m.name.0 k) (sym front) (ix.before i m (sym (get_before i less) ∙ h))))
          (eq-or-lt_of_le (slice_get_within all i m h));
      last = λ x.
          ⊎_elim (λ y. subst (λ (e : Option ℕ). Points e x all) (sym (ap (λ k. get_or (slice_set room l.name.0 (Some (length ls))) k None) (sym y.1) ∙ get_or-set_same room l.name.0 (Some (length ls)) None long)) (points_last x y.1))
          (λ y. subst (λ (e : Option ℕ). Points e x all) (sym (get_or-set_other room l.name.0 x (Some (length ls)) None (λ e. y.1 (sym e)) ∙ same x)) (with_other (get_or newest x None) x y.1 (ix.last x)))
          (eqb_tells l.name.0 x);
    }

    -- the last variable goes, and what it hid is found again
    pub popped : (h : Option ℕ) → IsIndexed all (hidden ++ h ∷ []) newest → l.name.0 < length newest → IsIndexed ls hidden (slice_set newest l.name.0 h)
    popped h ix long =
        let c0 = ix.count in
        let c1 = count in
        let c2 = length-append hidden (h ∷ []) in
        let same : length hidden ≡ length ls = omega arith in
        record {
          count = same;
          before = λ i m e.
              let less = slice_get_within ls i m e in
              let entry : get_or (hidden ++ h ∷ []) i None ≡ get_or hidden i None = get_or-append hidden (h ∷ []) None i (omega arith) in
              let front : take i all ≡ take i ls = take-append-le i ls (l ∷ []) (omega arith) in
              subst (λ (o : Option ℕ). Points o m.name.0 (take i ls)) entry (subst (λ (k : List Local). Points (get_or (hidden ++ h ∷ []) i None) m.name.0 k) front (ix.before i m (get_before i less ∙ e)));
          last = λ x.
              ⊎_elim (λ y.
              let entry : get_or (hidden ++ h ∷ []) (length ls) None ≡ h = ap (λ k. get_or (hidden ++ h ∷ []) k None) (sym same) ∙ get_or-append_seam hidden h [] None in
              let was = subst (λ (o : Option ℕ). Points o l.name.0 ls) entry (subst (λ (k : List Local). Points (get_or (hidden ++ h ∷ []) (length ls) None) l.name.0 k) (take-append_seam ls (l ∷ [])) (ix.before (length ls) l get_last)) in
              subst (λ (o : Option ℕ). Points o x ls) (sym (ap (λ k. get_or (slice_set newest l.name.0 h) k None) (sym y.1) ∙ get_or-set_same newest l.name.0 h None long)) (subst (λ (k : ℕ). Points h k ls) y.1 was))
              (λ y. subst (λ (o : Option ℕ). Points o x ls) (sym (get_or-set_other newest l.name.0 x h None (λ e. y.1 (sym e)))) (without_other (get_or newest x None) x y.1 (ix.last x)))
              (eqb_tells l.name.0 x);
        }

-- what the table says is found
pub found_at : (ls : List Local) (hidden newest : List (Option ℕ)) (x p : ℕ) (d : Local) → IsIndexed ls hidden newest → get_or newest x None ≡ Some p → (p < length ls) × (find x ls ≡ slice_get ls p)
found_at ls hidden newest x p d ix e = subst (λ (o : Option ℕ). Points o x ls) e (ix.last x)

pub none_there : (ls : List Local) (hidden newest : List (Option ℕ)) (x : ℕ) → IsIndexed ls hidden newest → get_or newest x None ≡ None → find x ls ≡ None
none_there ls hidden newest x ix e = subst (λ (o : Option ℕ). Points o x ls) e (ix.last x)
