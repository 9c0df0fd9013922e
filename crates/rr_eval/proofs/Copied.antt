-- What is left once a shareable copy is given, or is not.
use Rattle.std.proofs.Common.{◌≡◌, ◌∙◌, ◌≤◌, ℕ, List, length, Contains, inl, inr, Some, sym, subst, refl, arith}
use Rattle.rr_base.specs.declared.fault.Fault.{Fault}
use Rattle.rr_base.specs.declared.fault.Fault.TheVariants.{HoldsShell}
use Rattle.rr_space.specs.Graph.{Object, IsShareable}
use Rattle.rr_space.specs.Parts.{value_of, IsWithin}
use Rattle.rr_space.specs.Tables.{Below, Table, IsRestKept, resolve, space_graph}
use Rattle.rr_space.specs.declared.refer.Ref.{Ref}
use Rattle.rr_share.specs.Search.{LeadsToShell}
use Rattle.rr_store.specs.Stores.{Store}
use Rattle.rr_text.specs.Reads.{IsAmong, IsReadWith}
use Rattle.rr_builtin.specs.declared.problem.Problem.TheVariants.{Moved}
use Rattle.rr_builtin.proofs.Among.{of_among}
use Rattle.rr_eval.specs.declared.problem.Problem.TheVariants.{BuiltIn}
use Rattle.rr_eval.specs.declared.problem.Response.{Response}
use Rattle.rr_eval.specs.declared.problem.Response.TheVariants.{Gives, Fails}
use Rattle.rr_eval.specs.Alone.{IsCopied, IsCopyGiven, CopyExceeds}
use Rattle.rr_eval.specs.Publishing.{IsPublishing, IsPublishRefusal, IsTooMany}
use Rattle.rr_eval.specs.Serves.{IsLeft, IsRefusedBy}
use Rattle.rr_eval.specs.Within.{reach, IsReached}
use Rattle.rr_eval.proofs.Holding.{ref_more, ref_reached, ref_wider}
use Rattle.rr_eval.proofs.Noted.{noted_unpublished, same_unpublished}

rest_after : (t mid u : Table) → IsRestKept t mid → IsRestKept mid u → IsRestKept t u
rest_after t mid u first then = record { limit = then.limit ∙ first.limit; owner = then.owner ∙ first.owner; next_message = then.next_message ∙ first.next_message }

-- publishing changes nothing beside slots, clusters and keys
pub publishing_rest : (s : Store) (t : Table) (v : Ref) (after : Store) (new : Table) → IsPublishing s t (value_of v) after new → IsRestKept t new
publishing_rest s t v after new (inl none) = let same = same_unpublished t new none.table in same.rest
publishing_rest s t v after new (inr some) =
    let done = some.done in
    let noted = noted_unpublished (length s.clusters) some.places t done.noted done.notes in
    rest_after t done.noted new noted.rest done.promoted.rest

-- a reference leads to no more than there is later
pub reached_on : (k l : ℕ) (a b : Below) → k ≤ l → ((e : ℕ × List Object) → Contains a e → Contains b e) → (v : Ref) → IsReached (reach k (Some a)) v → IsReached (reach l (Some b)) v
reached_on k l a b le wide v is = ref_wider l a b wide v (ref_more k l (Some a) le v is)

module _ (s : Store) (v : Ref) (t mid : Table) (after : Store) (publishing : IsPublishing s t (value_of v) after mid) where
  -- what is left of what was published
  pub left_on : (below : Below) (r : Response) (u : Table) → length t.slots ≤ length mid.slots → IsLeft below mid r u → IsLeft below t r u
  left_on below r u more is = record {
    read = is.read;
    reached = is.reached;
    grows = let later = is.grows in omega (arith, more, later);
    rest = rest_after t mid u (publishing_rest s t v after mid publishing) is.rest;
  }

  -- the copy, or the shell
  pub given_on : (r : Response) (u : Table) → (IsShareable (space_graph t) (resolve t.slots (value_of v)) → ⊥) → IsCopied (value_of v) mid r u → IsCopyGiven s v t r u after
  given_on r u unshareable (inl copied) = inr (inl (record { unshareable = unshareable; table = mid; publishing = publishing; copy = copied.0; says = copied.1; copied = copied.2 }))
  given_on r u unshareable (inr moved) = inr (inr (inl (record {
    says = moved.0;
    found = inr (subst (IsPublishing s t (value_of v) after) (sym moved.1) publishing);
    shell = subst (λ (x : Table). LeadsToShell (space_graph x) (resolve x.slots (value_of v))) (sym moved.1) moved.2;
  })))

  -- the copy has too many objects
  pub refused_on : (slots : ℕ) (f : Fault) → IsRefusedBy (IsTooMany (value_of v) mid) f → IsRefusedBy (CopyExceeds s slots v t) f
  refused_on slots f is = record { refused = is.refused; full = λ e. inr (after, mid, publishing, is.full e) }

-- a shell was found before anything was published
pub moved_before : (s : Store) (v : Ref) (t : Table) (f : Fault) (u : Table) (after : Store) → f ≡ HoldsShell → IsPublishRefusal f s t (value_of v) → after ≡ s → u ≡ t → IsCopyGiven s v t (Fails (BuiltIn Moved)) u after
moved_before s v t f u after is refused kept same =
    let shell : LeadsToShell (space_graph t) (resolve t.slots (value_of v)) = subst (λ x. IsPublishRefusal x s t (value_of v)) is refused in
    inr (inr (inl (record {
      says = refl;
      found = inl (kept, same);
      shell = subst (λ (x : Table). LeadsToShell (space_graph x) (resolve x.slots (value_of v))) (sym same) shell;
    })))

-- a copy that is given leads to what is there
pub copy_left : (below : Below) (t u : Table) (copy : Ref) → IsReadWith u below → IsWithin (length u.slots) copy → IsAmong below copy → length t.slots ≤ length u.slots → IsRestKept t u → IsLeft below t (Gives copy) u
copy_left below t u copy read within among grows rest = record {
  read = read;
  reached = ref_reached (length u.slots) below copy within (of_among below copy among);
  grows = grows;
  rest = rest;
}
