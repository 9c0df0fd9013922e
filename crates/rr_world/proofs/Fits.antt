-- A plan in a hand is one of the space still, while other objects change and new ones come.
use Rattle.std.specs.Prelude.{◌&&◌, not}
use Rattle.std.proofs.Common.{◌≡◌, ℕ, zero, suc, ◌⊎◌, ⊎_elim, inl, inr, List, [], ◌∷◌, ◌++◌, Option, Some, None, Bool, IsTrue, true, false, slice_get, slice_set, Contains, sym, ap, ◌∙◌, subst, refl}
use Rattle.std.proofs.lemmas.Option.{none-some, same_Some, slice_get_within}
use Rattle.rr_space.specs.Graph.{Own, Published, Value, Plain, At, Label, Kind, text, array, hash, plain, exception, shell, Object, Matches, IsAt}
use Rattle.rr_space.specs.Kinds.{kind_at, kind_named, object_kind}
use Rattle.rr_space.specs.declared.kind.Kind.TheVariants as kinds
use Rattle.rr_space.specs.Views.{can_freeze_at, can_write_at, is_open, is_shell, is_whole, slot_object}
use Rattle.rr_space.specs.declared.refer.Ref.{Ref}
use Rattle.rr_space.specs.declared.refer.Ref.TheVariants.{Local}
use Rattle.rr_space.specs.Tables.{Table, Whole, Slot, Here, resolve, resolve_slot, resolve_triple, resolve_object}
use Rattle.rr_space.specs.Moves.{IsPlanned}
use Rattle.rr_space.proofs.Frames.{map_same}
use Rattle.rr_space.proofs.Hands.{append_left, append_cases}
use Rattle.rr_share.specs.declared.planned.Plan.{Plan}
use Rattle.rr_move.specs.declared.hand.Hand.{Hand}
use Rattle.rr_world.specs.Enabling.{IsNoShell, IsOpen, HasFields}
use Rattle.rr_world.specs.ObjectCases.{frozen}
use Rattle.rr_world.specs.Changing.{MayChangeSlot}
use Rattle.rr_world.specs.Packing.{named_ref}
use Rattle.rr_world.specs.Planning.{IsInPublished}
use Rattle.rr_world.specs.declared.step.Operand.{Operand}
use Rattle.rr_world.specs.Views.{PublishedPlan, Member, IsHandFit, IsPlanFit, IsPublishedFit, plan_in, published_in}
use Rattle.rr_world.proofs.Forwarding.{IsOut, seen_here, seen_out, thawed_out}
use Rattle.rr_world.proofs.Lists.{eq_cases, set_at, set_off}

-- frozen objects stay, and so do forwards and what is none
pub record IsFrozenKept (a b : List Slot) : Type 0 where
  pub frozen : (n : ℕ) (o : Object) → slice_get a n ≡ Some (Here o) → o.frozen ≡ true → slice_get b n ≡ Some (Here o)
  pub ends : (v : Value) → resolve b v ≡ resolve a v

resolved_same : (a b : List Slot) → ((v : Value) → resolve b v ≡ resolve a v) → (o : Object) → resolve_object b o ≡ resolve_object a o
resolved_same a b same o = ap (λ ts. record o { triples = ts }) (map_same (resolve_triple b) (resolve_triple a) o.triples (λ (t : Label × Value) has. ap (λ v. (t.0, v)) (same t.1)))

pub planned_on : (a b : Table) (w : Whole) (places : List ℕ) → IsFrozenKept a.slots b.slots → IsPlanned a w places → IsPlanned b w places
planned_on a b w places K P = record {
  distinct = P.distinct;
  count = P.count;
  same = λ n i at.
      let s = P.same n i at in
      (s.0, s.1, K.frozen n s.0 s.2 s.4, s.3, s.4, subst (λ (o : Object). Matches (IsAt places) o s.1) (sym (resolved_same a.slots b.slots K.ends s.0)) s.5);
}

plan_on : (a b : Table) (x : Option Plan) → IsFrozenKept a.slots b.slots → IsPlanFit a x → IsPlanFit b x
plan_on a b None K fit = tt
plan_on a b (Some p) K fit = planned_on a b p.cluster p.places K fit

pub published_on : (a b : Table) (x : Option PublishedPlan) → IsFrozenKept a.slots b.slots → IsPublishedFit a x → IsPublishedFit b x
published_on a b None K fit = tt
published_on a b (Some p) K fit = planned_on a b p.cluster p.places K fit

pub hand_on : (a b : Table) (h : Hand) → IsFrozenKept a.slots b.slots → IsHandFit a h → IsHandFit b h
hand_on a b h K fit = (plan_on a b (plan_in h) K fit.0, published_on a b (published_in h) K fit.1)

-- an object is another, which is the same where it is frozen
kept_set : (a : List Slot) (n : ℕ) (o p : Object) → slice_get a n ≡ Some (Here o) → (o.frozen ≡ true → p ≡ o) → IsFrozenKept a (slice_set a n (Here p))
kept_set a n o p here same = record {
  frozen = λ j x at frozen. ⊎_elim
      (λ one.
      let y : o ≡ x = let z : Here o ≡ Here x = same_Some _ _ (sym here ∙ ap (slice_get a) (sym one) ∙ at) in cc in
      ap (slice_get (slice_set a n (Here p))) one ∙ set_at a n (Here p) (slice_get_within a n (Here o) here) ∙ ap (λ (z : Object). Some (Here z)) (same (subst (λ (z : Object). z.frozen ≡ true) (sym y) frozen) ∙ y))
      (λ other. set_off a n j (Here p) other ∙ at)
      (eq_cases j n);
  ends = λ v. ends v;
}
  where
    ends : (v : Value) → resolve (slice_set a n (Here p)) v ≡ resolve a v
    ends (Plain i) = refl
    ends (At (Published c q)) = refl
    ends (At (Own j)) = ⊎_elim
        (λ one. ap (λ (x : Option Slot). At (resolve_slot x j)) (ap (slice_get (slice_set a n (Here p))) one ∙ set_at a n (Here p) (slice_get_within a n (Here o) here))
        ∙ sym (ap (λ (x : Option Slot). At (resolve_slot x j)) (ap (slice_get a) one ∙ here)))
        (λ other. ap (λ (x : Option Slot). At (resolve_slot x j)) (set_off a n j (Here p) other))
        (eq_cases j n)

pub set_hand : (a b : Table) (n : ℕ) (o p : Object) (h : Hand) → b.slots ≡ slice_set a.slots n (Here p) → slice_get a.slots n ≡ Some (Here o) → (o.frozen ≡ true → p ≡ o) → IsHandFit a h → IsHandFit b h
set_hand a b n o p h is here same fit = hand_on a b h (subst (IsFrozenKept a.slots) (sym is) (kept_set a.slots n o p here same)) fit

-- an object comes behind
kept_more : (a : List Slot) (o : Object) → IsFrozenKept a (a ++ Here o ∷ [])
kept_more a o = record {
  frozen = λ n x at frozen. append_left a (Here o ∷ []) n (Here x) at;
  ends = λ v. ends v;
}
  where
    last : (i : ℕ) (x : Slot) → slice_get (Here o ∷ []) i ≡ Some x → Here o ≡ x
    last zero x e = same_Some _ x e
    last (suc i) x e = absurd (none-some x e)

    new : (n : ℕ) (x : Option Slot) → slice_get (a ++ Here o ∷ []) n ≡ x → slice_get a n ≡ None → resolve_slot x n ≡ Own n
    new n None e none = refl
    new n (Some x) e none = ⊎_elim
        (λ old. absurd (none-some x (sym none ∙ old)))
        (λ it. ap (λ (y : Slot). resolve_slot (Some y) n) (sym (last it.0 x it.2)))
        (append_cases a (Here o ∷ []) n x e)

    ends : (v : Value) → resolve (a ++ Here o ∷ []) v ≡ resolve a v
    ends (Plain i) = refl
    ends (At (Published c q)) = refl
    ends (At (Own j)) = by (slice_get a j) refl
      where
        by : (x : Option Slot) → slice_get a j ≡ x → At (resolve_slot (slice_get (a ++ Here o ∷ []) j) j) ≡ At (resolve_slot (slice_get a j) j)
        by (Some x) e = ap (λ (y : Option Slot). At (resolve_slot y j)) (append_left a (Here o ∷ []) j x e ∙ sym e)
        by None e = ap At (new j (slice_get (a ++ Here o ∷ []) j) refl e) ∙ sym (ap (λ (y : Option Slot). At (resolve_slot y j)) e)

pub hand_more : (a b : Table) (o : Object) (h : Hand) → b.slots ≡ a.slots ++ Here o ∷ [] → IsHandFit a h → IsHandFit b h
hand_more a b o h is fit = hand_on a b h (subst (IsFrozenKept a.slots) (sym is) (kept_more a.slots o)) fit

-- what is open is not frozen, so it is in no plan
pub never_frozen : {kind : Kind} (o p : Object) → IsOpen kind o → o.frozen ≡ true → p ≡ o
never_frozen o p opened frozen = absurd (let z : true ≡ false = sym frozen ∙ opened.1 in let y : ⊥ = cc in y)

-- what has fields and is not frozen is open
pub fields_open : (o : Object) → HasFields o → IsOpen o.kind o
fields_open o (inl opened) = (refl, opened.1)
fields_open o (inr opened) = (refl, opened.1)

pub fields_whole : (o : Object) → HasFields o → IsNoShell o
fields_whole o (inl opened) is = let z : plain ≡ shell = sym opened.0 ∙ is in cc
fields_whole o (inr opened) is = let z : exception ≡ shell = sym opened.0 ∙ is in cc

pub open_out : {kind : Kind} (t : Table) (x : Option PublishedPlan) (n : ℕ) (o : Object) → IsPublishedFit t x → slice_get t.slots n ≡ Some (Here o) → IsOpen kind o → IsOut x n
open_out t x n o fit at opened = thawed_out t x n o fit at (λ frozen. let z : true ≡ false = sym frozen ∙ opened.1 in let y : ⊥ = cc in y)

pub still_frozen : (o : Object) → o.frozen ≡ true → frozen o ≡ o
still_frozen o e = ap (λ f. let p : Object = record o { frozen = f } in p) (sym e)

-- a slot that is not one of the published plan in the hand is none of its places
pub not_in : (m : Member) (x : Option PublishedPlan) (r : Ref) (n : ℕ) → x ≡ m.published → r ≡ Local n → (IsInPublished m r → ⊥) → IsOut x n
not_in m None r n is slot never = tt
not_in m (Some p) r n is slot never = λ has. never (p, n, sym is, slot, has)

-- an object that may be changed, as it is seen, is one that the space has
pub own_slot : (op : Operand) (may : Object → Type 0) (m : Member) → IsPublishedFit m.space m.published → MayChangeSlot op may m
    → (n : ℕ) × (o : Object) × (named_ref m.roots op ≡ Some (Local n)) × (slice_get m.space.slots n ≡ Some (Here o)) × may o × IsOut m.published n
own_slot op may m fit (n, o, s, holds) =
    let out = seen_here m.space m.published n o fit s.here in
    (n, o, s.named, sym (seen_out m.space m.published n fit out) ∙ s.here, holds, out)

-- it may be written, and is of its kind
pub own_open : (kind : Kind) (op : Operand) (m : Member) (r : Ref) → (kind ≡ shell → ⊥) → IsPublishedFit m.space m.published → Some r ≡ named_ref m.roots op → MayChangeSlot op (IsOpen kind) m
    → IsTrue (can_write_at m.space r) × (kind_at m.space r ≡ kind_named kind)
own_open kind op m r differ fit is may =
    let s = own_slot op (IsOpen kind) m fit may in
    let one : Local s.0 ≡ r = same_Some _ _ (sym s.2 ∙ sym is) in (
      subst (λ (v : Ref). IsTrue (can_write_at m.space v)) one (ap is_open s.3 ∙ whole s.1 s.4),
      subst (λ (v : Ref). kind_at m.space v ≡ kind_named kind) one (ap (λ x. object_kind (slot_object x (slice_get m.space.below s.0))) s.3 ∙ ap kind_named s.4.0),
    )
  where
    no_shell : (k : Kind) → (k ≡ shell → ⊥) → not (is_shell k) ≡ true
    no_shell text d = refl
    no_shell array d = refl
    no_shell hash d = refl
    no_shell plain d = refl
    no_shell exception d = refl
    no_shell shell d = absurd (d refl)

    whole : (o : Object) → IsOpen kind o → not (is_shell o.kind) && not o.frozen ≡ true
    whole o opened = ap (λ (b : Bool). not (is_shell o.kind) && not b) opened.1 ∙ ap (λ (b : Bool). b && true) (no_shell o.kind (λ e. differ (sym opened.0 ∙ e)))

-- one with fields may be written too, and is of one of the two kinds
pub own_fields : (op : Operand) (m : Member) (r : Ref) → IsPublishedFit m.space m.published → Some r ≡ named_ref m.roots op → MayChangeSlot op HasFields m
    → IsTrue (can_write_at m.space r) × ((kind_at m.space r ≡ kinds.Object) ⊎ (kind_at m.space r ≡ kinds.Exception))
own_fields op m r fit is (n, o, s, inl opened) = let both = own_open plain op m r (λ e. cc) fit is (n, o, s, opened) in (both.0, inl both.1)
own_fields op m r fit is (n, o, s, inr opened) = let both = own_open exception op m r (λ e. cc) fit is (n, o, s, opened) in (both.0, inr both.1)

-- an object that may be frozen
pub own_whole : (op : Operand) (m : Member) (r : Ref) → IsPublishedFit m.space m.published → Some r ≡ named_ref m.roots op → MayChangeSlot op IsNoShell m → IsTrue (can_freeze_at m.space r) × (IsInPublished m r → ⊥)
own_whole op m r fit is may =
    let s = own_slot op IsNoShell m fit may in
    let one : Local s.0 ≡ r = same_Some _ _ (sym s.2 ∙ sym is) in (
      subst (λ (v : Ref). IsTrue (can_freeze_at m.space v)) one (ap is_whole s.3 ∙ whole s.1.kind s.4),
      λ i. inside m.published s.0 i.0 s.5 i.2 (subst (Contains i.0.places) (let z : Local i.1 ≡ Local s.0 = sym i.3 ∙ sym one in cc) i.4),
    )
  where
    whole : (k : Kind) → (k ≡ shell → ⊥) → not (is_shell k) ≡ true
    whole text d = refl
    whole array d = refl
    whole hash d = refl
    whole plain d = refl
    whole exception d = refl
    whole shell d = absurd (d refl)

    inside : (x : Option PublishedPlan) (n : ℕ) (p : PublishedPlan) → IsOut x n → x ≡ Some p → Contains p.places n → ⊥
    inside None n p out e has = none-some p e
    inside (Some q) n p out e has = out (subst (λ (y : PublishedPlan). Contains y.places n) (sym (same_Some q p e)) has)

-- an object of the space that is open may be changed
pub seen_slot : {kind : Kind} (op : Operand) (m : Member) (v : Ref) (n : ℕ) (o : Object) → IsPublishedFit m.space m.published → named_ref m.roots op ≡ Some v → v ≡ Local n → slice_get m.space.slots n ≡ Some (Here o)
    → IsOpen kind o → MayChangeSlot op (IsOpen kind) m
seen_slot op m v n o fit named slot here opened =
    (n, o, record { named = named ∙ ap (λ r. Some r) slot; here = seen_out m.space m.published n fit (open_out m.space m.published n o fit here opened) ∙ here }, opened)

pub seen_fields : (op : Operand) (m : Member) (v : Ref) (n : ℕ) (o : Object) → IsPublishedFit m.space m.published → named_ref m.roots op ≡ Some v → v ≡ Local n → slice_get m.space.slots n ≡ Some (Here o)
    → HasFields o → MayChangeSlot op HasFields m
seen_fields op m v n o fit named slot here opened =
    (n, o, record { named = named ∙ ap (λ r. Some r) slot; here = seen_out m.space m.published n fit (open_out m.space m.published n o fit here (fields_open o opened)) ∙ here }, opened)
