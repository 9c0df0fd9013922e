-- What the lists of a World have where the code reads and writes them.
use Rattle.std.proofs.Common.{◌≡◌, ℕ, zero, suc, ◌<◌, List, [], ◌∷◌, length, get_or, refl, sym, ap, ◌∙◌, arith, slice_get, Some}
use Rattle.std.proofs.lemmas.Option.{slice_get_read, slice_get_within, same_Some}
use Rattle.std.specs.Prelude.{slice_set}
use Rattle.rr_inbox.specs.Inboxes.{Inbox}
use Rattle.rr_port.specs.Ports.{Port}
use Rattle.rr_store.specs.Stores.{Store}
use Rattle.rr_world.specs.Views.{Member, Channels, Assembly}
use Rattle.rr_world.proofs.Lists.{set_at, set_back, set_twice}

-- what was read at k stands there, under both names of the list
pub read_at : {A : Type 0} (xs ys : List A) (k : ℕ) (x : A) → xs ≡ ys → k < length ys → x ≡ get_or xs k x → slice_get ys k ≡ Some x
read_at xs ys k x same lt is =
    let less : k < length xs = omega (arith, ap length same) in
    ap (λ (zs : List _). slice_get zs k) (sym same) ∙ slice_get_read xs (length xs) k x refl less is

pub set_in : {A : Type 0} (xs ys : List A) (k : ℕ) (x y : A) → xs ≡ ys → x ≡ y → slice_set xs k x ≡ slice_set ys k y
set_in xs ys k x y same is = ap (slice_set xs k) is ∙ ap (λ zs. slice_set zs k y) same

-- an element is put back where it was
pub set_again : {A : Type 0} (xs ys : List A) (k : ℕ) (x y : A) → xs ≡ ys → slice_get ys k ≡ Some y → x ≡ y → slice_set xs k x ≡ ys
set_again xs ys k x y same at is = set_in xs ys k x y same is ∙ set_back ys k y at

-- an element is taken out and put back
pub set_twice_again : {A : Type 0} (xs ys : List A) (k : ℕ) (z x y : A) → xs ≡ ys → slice_get ys k ≡ Some y → x ≡ y → slice_set (slice_set xs k z) k x ≡ ys
set_twice_again xs ys k z x y same at is = set_twice xs k z x ∙ set_again xs ys k x y same at is

abbrev pub channels : Store × List Port → List Inbox → Channels
channels sides is = record { inboxes = is; ports = sides.1; store = sides.0 }

-- what lies between ractors beside their inboxes
abbrev pub aside : Assembly → Store × List Port
aside w = (w.channels.store, w.channels.ports)

pub sides_same : {s t : Store} {ps qs : List Port} → s ≡ t → ps ≡ qs → (let x : Store × List Port = (s, ps) in x) ≡ (t, qs)
sides_same {s} {t} {ps} {qs} e f = ap (λ x. let y : Store × List Port = (x, ps) in y) e ∙ ap (λ x. let y : Store × List Port = (t, x) in y) f

pub channels_same : {s t : Store × List Port} {xs ys : List Inbox} → s ≡ t → xs ≡ ys → channels s xs ≡ channels t ys
channels_same {s} {t} {xs} {ys} e f = ap (λ x. channels x xs) e ∙ ap (channels t) f

pub ports_put : {s t : Store} {xs ys : List Inbox} {ps qs : List Port} → s ≡ t → xs ≡ ys → ps ≡ qs → channels (s, ps) xs ≡ channels (t, qs) ys
ports_put e f g = channels_same (sides_same e g) f

abbrev pub assembly : List Member → Channels → Assembly
assembly rs is = record { ractors = rs; channels = is }

pub same_assembly : (rs rs2 : List Member) (is is2 : Channels) → rs ≡ rs2 → is ≡ is2 → assembly rs is ≡ assembly rs2 is2
same_assembly rs rs2 is is2 e f = ap (λ x. assembly x is) e ∙ ap (assembly rs2) f

pub some_at : {A : Type 0} (xs : List A) (k : ℕ) → k < length xs → (x : A) × (slice_get xs k ≡ Some x)
some_at [] k lt = absurd (omega arith)
some_at (x ∷ xs) zero lt = (x, refl)
some_at (x ∷ xs) (suc k) lt = some_at xs k (omega arith)

-- what is read twice is one
pub read_twice : {A : Type 0} (xs : List A) (k : ℕ) (x y : A) → k < length xs → x ≡ get_or xs k x → y ≡ get_or xs k y → x ≡ y
read_twice xs k x y lt is too = same_Some x y (sym (slice_get_read xs (length xs) k x refl lt is) ∙ slice_get_read xs (length xs) k y refl lt too)

-- what was put there is read there
pub read_set : {A : Type 0} (xs : List A) (k : ℕ) (y z : A) → k < length xs → z ≡ get_or (slice_set xs k y) k z → z ≡ y
read_set xs k y z lt is =
    let there = set_at xs k y lt in
    let less : k < length (slice_set xs k y) = slice_get_within (slice_set xs k y) k y there in
    same_Some z y (sym (slice_get_read (slice_set xs k y) (length (slice_set xs k y)) k z refl less is) ∙ there)
