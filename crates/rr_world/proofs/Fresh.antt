-- The new World has a reading.
use Rattle.std.proofs.Common.{◌≡◌, ◌+◌, ℕ, Contains, subst, zero, suc, List, [], ◌∷◌, length, Some, None, slice_get, sym, ap, ◌∙◌}
use Rattle.std.specs.Option.{option_map, option_and_then}
use Rattle.std.proofs.lemmas.Option.{none-some, same_Some}
use Rattle.rr_base.specs.declared.limits.Limits.{Limits}
use Rattle.rr_space.specs.Tables.{Slot, Here, Below, joined}
use Rattle.rr_space.specs.Readings.{Knows, Layout, Owner, Space, Hand, Mail, Shown, Shared}
use Rattle.rr_space.proofs.Cases.{empty_is_read}
use Rattle.rr_inbox.specs.Inboxes.{Inbox, new_inbox}
use Rattle.rr_port.specs.Ports.{Port, new_port}
use Rattle.rr_store.specs.Stores.{Store, constant_of}
use Rattle.rr_inbox.specs.declared.entry.Entry.{Entry}
use Rattle.rr_space.proofs.Sounds.{none_in}
use Rattle.rr_move.specs.declared.home.Home.{Home}
use Rattle.rr_world.specs.Views.{Member, Assembly, seen_slots, AreRootsWithin}
use Rattle.rr_world.specs.Layouts.{MemberKnows, layout, space_slots, hand_slots, cluster_slots, message_slots, inbox_slots, port_inside, port_slots}
use Rattle.rr_world.specs.Runs.{IsNew, HasReading}
use Rattle.rr_world.proofs.Forwarding.{seen_plain}
use Rattle.rr_world.proofs.KeyTables.{no_keys}
use Rattle.rr_space.specs.declared.refer.Ref.{Ref}

space_empty : (m : Member) (k : ℕ) (t : List Slot) → seen_slots m ≡ [] → option_map space_slots (slice_get (m ∷ []) k) ≡ Some t → t ≡ []
space_empty m zero t none is = sym (same_Some (seen_slots m) t is) ∙ none
space_empty m (suc k) t none is = absurd (none-some t is)

hand_empty : (m : Member) (k : ℕ) (t : List Slot) → m.hand ≡ None → option_and_then hand_slots (slice_get (m ∷ []) k) ≡ Some t → t ≡ []
hand_empty m zero t none is = absurd (none-some t (sym (ap (option_map message_slots) none) ∙ is))
hand_empty m (suc k) t none is = absurd (none-some t is)

mail_empty : (limit c u : ℕ) (t : List Slot) → option_and_then (inbox_slots u) (slice_get (new_inbox limit ∷ []) c) ≡ Some t → t ≡ []
mail_empty limit zero u t is = absurd (none-some t is)
mail_empty limit (suc c) u t is = absurd (none-some t is)

show_empty : (limit c u : ℕ) (t : List Slot) → option_and_then (port_slots u) (slice_get (new_port limit ∷ []) c) ≡ Some t → t ≡ []
show_empty limit zero u t is = absurd (none-some t is)
show_empty limit (suc c) u t is = absurd (none-some t is)

all_empty : (limits : Limits) (w : Assembly) → IsNew limits w → (h : Owner) (t : List Slot) → layout w h ≡ Some t → t ≡ []
unfolding layout
all_empty limits w N (Space k) t is = space_empty N.main k t (seen_plain N.main N.published ∙ N.slots) (ap (λ xs. option_map space_slots (slice_get xs k)) (sym N.ractors) ∙ is)
all_empty limits w N (Hand k) t is = hand_empty N.main k t N.hand (ap (λ xs. option_and_then hand_slots (slice_get xs k)) (sym N.ractors) ∙ is)
all_empty limits w N (Mail c u) t is = mail_empty limits.events c u t (ap (λ xs. option_and_then (inbox_slots u) (slice_get xs c)) (sym N.inboxes) ∙ is)
all_empty limits w N (Shown c u) t is = show_empty limits.events c u t (ap (λ xs. option_and_then (port_slots u) (slice_get xs c)) (sym N.ports) ∙ is)
all_empty limits w N (Shared c) t is = absurd (none-some t (ap (λ (s : Store). option_map cluster_slots (slice_get s.clusters c)) (sym N.store) ∙ is))

nothing_known : (tables : Layout) (b : Below) → b ≡ [] → Knows b tables
nothing_known tables b none = record { known = λ c os has. absurd (none_in (c, os) (subst (λ x. Contains x (c, os)) none has)) }

main_knows : (limits : Limits) (w : Assembly) (N : IsNew limits w) → MemberKnows (layout w) N.main
main_knows limits w N = record {
  space = nothing_known (layout w) (joined N.main.space.below) (ap joined N.below);
  roots = λ r has. absurd (none_in r (subst (λ rs. Contains rs r) N.roots has));
  hand = λ p is. absurd (none-some p (sym N.hand ∙ is));
  plan = λ p is. absurd (none-some p (sym N.plan ∙ is));
  published = λ p is. absurd (none-some p (sym N.published ∙ is));
  keyed = no_keys (layout w) N.main.space.slots N.main.space.keys N.slots;
}

only_main : (limits : Limits) (w : Assembly) (N : IsNew limits w) (k : ℕ) (m : Member) → slice_get (N.main ∷ []) k ≡ Some m → MemberKnows (layout w) m
only_main limits w N zero m is = subst (MemberKnows (layout w)) (same_Some N.main m is) (main_knows limits w N)
only_main limits w N (suc k) m is = absurd (none-some m is)

main_owned : (limits : Limits) (w : Assembly) (N : IsNew limits w) (k : ℕ) (m : Member) → slice_get (N.main ∷ []) k ≡ Some m → m.space.owner ≡ k + 1
main_owned limits w N zero m is = ap (λ (x : Member). x.space.owner) (sym (same_Some N.main m is)) ∙ N.owner
main_owned limits w N (suc k) m is = absurd (none-some m is)

main_rooted : (limits : Limits) (w : Assembly) (N : IsNew limits w) (k : ℕ) (m : Member) → slice_get (N.main ∷ []) k ≡ Some m → AreRootsWithin (length m.space.slots) m.roots
main_rooted limits w N zero m is = subst (λ (xs : List Ref). AreRootsWithin (length m.space.slots) xs) (sym N.roots ∙ ap (λ (x : Member). x.roots) (same_Some N.main m is)) tt
main_rooted limits w N (suc k) m is = absurd (none-some m is)

no_mail : (limit c : ℕ) (i : Inbox) (e : Entry) → slice_get (new_inbox limit ∷ []) c ≡ Some i → Contains i.inside e → ⊥
no_mail limit zero i e is has = none_in e (subst (λ (x : Inbox). Contains x.inside e) (sym (same_Some (new_inbox limit) i is)) has)
no_mail limit (suc c) i e is has = none-some i is

no_show : (limit c : ℕ) (p : Port) (e : Entry) → slice_get (new_port limit ∷ []) c ≡ Some p → Contains (port_inside p) e → ⊥
no_show limit zero p e is has = none_in e (subst (λ (x : Port). Contains (port_inside x) e) (sym (same_Some (new_port limit) p is)) has)
no_show limit (suc c) p e is has = none-some p is

only_homeless : (limits : Limits) (w : Assembly) (N : IsNew limits w) (k : ℕ) (m : Member) (h : Home) → slice_get (N.main ∷ []) k ≡ Some m → m.home ≡ Some h → ⊥
only_homeless limits w N zero m h at home = none-some h (sym N.home ∙ ap (λ (x : Member). x.home) (same_Some N.main m at) ∙ home)
only_homeless limits w N (suc k) m h at home = none-some m at

pub new_is_read : (limits : Limits) (w : Assembly) → IsNew limits w → HasReading w
new_is_read limits w N =
    let e = empty_is_read (layout w) (all_empty limits w N) in (
      e.0,
      0,
      e.1,
      record {
        tables = e.2;
        knows = record {
          ractors = λ k m at. only_main limits w N k m (ap (λ xs. slice_get xs k) (sym N.ractors) ∙ at);
          store = λ n v here. absurd (none-some _ (sym (ap (λ (t : Store). constant_of t n) N.store) ∙ here));
          inboxes = λ c i x at has. absurd (no_mail limits.events c i x (ap (λ xs. slice_get xs c) (sym N.inboxes) ∙ at) has);
          ports = λ c p x at has. absurd (no_show limits.events c p x (ap (λ xs. slice_get xs c) (sym N.ports) ∙ at) has);
        };
        owned = λ k m at. main_owned limits w N k m (ap (λ xs. slice_get xs k) (sym N.ractors) ∙ at);
        held = record {
          roots = λ k m at. main_rooted limits w N k m (ap (λ xs. slice_get xs k) (sym N.ractors) ∙ at);
          inboxes = λ c i at x has. absurd (no_mail limits.events c i x (ap (λ xs. slice_get xs c) (sym N.inboxes) ∙ at) has);
          ports = λ c p at x has. absurd (no_show limits.events c p x (ap (λ xs. slice_get xs c) (sym N.ports) ∙ at) has);
        };
        inboxes = ap length N.inboxes ∙ sym (ap length N.ractors);
        ports = ap length N.ports ∙ sym (ap length N.ractors);
        fits = λ k m p h e at port home ticket shown. absurd (only_homeless limits w N k m h (ap (λ xs. slice_get xs k) (sym N.ractors) ∙ at) home);
        clusters = record {
          solid = λ c p u o is at. absurd (none-some (Here o) (ap (λ xs. slice_get xs p) (sym (all_empty limits w N (Shared c) u is)) ∙ at));
          earlier = λ c p d q u o l is at has. absurd (none-some (Here o) (ap (λ xs. slice_get xs p) (sym (all_empty limits w N (Shared c) u is)) ∙ at));
        };
      },
    )
