-- Homes fit what is shown, step by step.
use Rattle.std.proofs.Common.{◌≡◌, ℕ, ⊎_elim, List, Some, None, slice_get, sym, ap, ◌∙◌, subst}
use Rattle.std.specs.Prelude.{slice_set}
use Rattle.std.proofs.lemmas.Option.{none-some, same_Some, slice_get_within}
use Rattle.rr_move.specs.declared.home.Home.{Home}
use Rattle.rr_port.specs.Ports.{Port}
use Rattle.rr_port.specs.declared.last.Shown.{Shown as ShownMessage}
use Rattle.rr_world.specs.Views.{Member, Assembly}
use Rattle.rr_world.specs.Layouts.{DoHomesFit}
use Rattle.rr_world.proofs.Lists.{eq_cases, set_at, set_off}

-- a ractor waits with a home under a ticket as it did, or no more
abbrev pub WaitsAsBefore : Member → Member → Type 0
WaitsAsBefore m m2 = (h : Home) (t : ℕ) → m2.home ≡ Some h → m2.ticket ≡ Some t → (m.home ≡ Some h) × (m.ticket ≡ Some t)

-- and a port shows what it did, or nothing
abbrev pub ShowsAsBefore : Port → Port → Type 0
ShowsAsBefore p p2 = (e : ShownMessage) → p2.shown ≡ Some e → p.shown ≡ Some e

pub waits_same : (m m2 : Member) → m2.home ≡ m.home → m2.ticket ≡ m.ticket → WaitsAsBefore m m2
waits_same m m2 home ticket h t has under = (sym home ∙ has, sym ticket ∙ under)

pub waits_homeless : (m m2 : Member) → m2.home ≡ None → WaitsAsBefore m m2
waits_homeless m m2 none h t has under = absurd (none-some h (sym none ∙ has))

pub waits_no_more : (m m2 : Member) → m2.ticket ≡ None → WaitsAsBefore m m2
waits_no_more m m2 none h t has under = absurd (none-some t (sym none ∙ under))

pub shows_same : (p p2 : Port) → p2.shown ≡ p.shown → ShowsAsBefore p p2
shows_same p p2 same e is = sym same ∙ is

pub shows_nothing : (p p2 : Port) → p2.shown ≡ None → ShowsAsBefore p p2
shows_nothing p p2 none e is = absurd (none-some e (sym none ∙ is))

abbrev pub AllAsBefore : {A : Type 0} → (A → A → Type 0) → List A → List A → Type 0
AllAsBefore {A} R xs ys = (j : ℕ) (y : A) → slice_get ys j ≡ Some y → (x : A) × (slice_get xs j ≡ Some x) × R x y

pub set_as_before : {A : Type 0} (R : A → A → Type 0) (xs ys : List A) (k : ℕ) (x y : A) → slice_get xs k ≡ Some x → ys ≡ slice_set xs k y → R x y → ((z : A) → R z z) → AllAsBefore R xs ys
set_as_before R xs ys k x y at is here same j z there =
    let now = ap (λ zs. slice_get zs j) (sym is) ∙ there in
    ⊎_elim
    (λ one. (x, ap (slice_get xs) one ∙ at, subst (λ v. R x v) (same_Some y z (sym (set_at xs k y (slice_get_within xs k x at)) ∙ ap (slice_get (slice_set xs k y)) (sym one) ∙ now)) here))
    (λ other. (z, sym (set_off xs k j y other) ∙ now, same z))
    (eq_cases j k)

pub same_as_before : {A : Type 0} (R : A → A → Type 0) (xs ys : List A) → ys ≡ xs → ((z : A) → R z z) → AllAsBefore R xs ys
same_as_before R xs ys is same j z there = (z, ap (λ zs. slice_get zs j) (sym is) ∙ there, same z)

pub waits_still : (m : Member) → WaitsAsBefore m m
waits_still m h t has under = (has, under)

pub shows_still : (p : Port) → ShowsAsBefore p p
shows_still p e is = is

pub fits_on : (w w2 : Assembly) → AllAsBefore WaitsAsBefore w.ractors w2.ractors → AllAsBefore ShowsAsBefore w.channels.ports w2.channels.ports → DoHomesFit w → DoHomesFit w2
fits_on w w2 rs ps fits k m p h e at port home ticket shown =
    let a = rs k m at in
    let b = ps k p port in
    let was = a.2 h e.ticket home ticket in
    fits k a.0 b.0 h e a.1 b.1 was.0 was.1 (b.2 e shown)

-- one ractor is another, and the ports are as they were
pub fits_set : (w w2 : Assembly) (k : ℕ) (m m2 : Member) → slice_get w.ractors k ≡ Some m → w2.ractors ≡ slice_set w.ractors k m2 → w2.channels.ports ≡ w.channels.ports → WaitsAsBefore m m2
    → DoHomesFit w → DoHomesFit w2
fits_set w w2 k m m2 at rs ps waits =
    fits_on w w2 (set_as_before WaitsAsBefore w.ractors w2.ractors k m m2 at rs waits waits_still) (same_as_before ShowsAsBefore w.channels.ports w2.channels.ports ps shows_still)

-- all are as they were
pub fits_same : (w w2 : Assembly) → w2.ractors ≡ w.ractors → w2.channels.ports ≡ w.channels.ports → DoHomesFit w → DoHomesFit w2
fits_same w w2 rs ps = fits_on w w2 (same_as_before WaitsAsBefore w.ractors w2.ractors rs waits_still) (same_as_before ShowsAsBefore w.channels.ports w2.channels.ports ps shows_still)

-- one ractor and one port are others
pub fits_ported : (w w2 : Assembly) (k c : ℕ) (m m2 : Member) (p p2 : Port) → slice_get w.ractors k ≡ Some m → slice_get w.channels.ports c ≡ Some p → w2.ractors ≡ slice_set w.ractors k m2
    → w2.channels.ports ≡ slice_set w.channels.ports c p2 → WaitsAsBefore m m2 → ShowsAsBefore p p2 → DoHomesFit w → DoHomesFit w2
fits_ported w w2 k c m m2 p p2 at port rs ps waits shows =
    fits_on w w2 (set_as_before WaitsAsBefore w.ractors w2.ractors k m m2 at rs waits waits_still) (set_as_before ShowsAsBefore w.channels.ports w2.channels.ports c p p2 port ps shows shows_still)
