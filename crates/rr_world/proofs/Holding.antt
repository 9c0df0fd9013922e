-- What is held stays within the tables, step by step.
use Rattle.std.proofs.Common.{◌≡◌, ℕ, ⊎_elim, List, [], ◌∷◌, ◌++◌, length, Bool, true, false, nat_eq, cond, Some, None, slice_get, Contains, sym, ap, ◌∙◌, subst, refl}
use Rattle.std.specs.Prelude.{slice_set}
use Rattle.std.proofs.lemmas.List.Elements.{Contains-append_cases}
use Rattle.std.proofs.lemmas.Option.{none-some}
use Rattle.rr_space.specs.declared.refer.Ref.{Ref}
use Rattle.rr_space.proofs.Sounds.{none_in, in_first}
use Rattle.rr_inbox.specs.Inboxes.{Inbox}
use Rattle.rr_inbox.specs.declared.entry.Entry.{Entry}
use Rattle.rr_port.specs.Ports.{Port}
use Rattle.rr_world.specs.Views.{Member, Channels, AreRootsWithin}
use Rattle.rr_world.specs.Layouts.{message_slots, mail_slots, port_inside, port_slots, AreRooted, AreFound, AreInboxesFound, ArePortsFound}
use Rattle.rr_world.proofs.Lists.{set_cases}
use Rattle.rr_world.proofs.PortInsides.{IsComing, IsLeaving}
use Rattle.rr_world.proofs.Tickets.{mail_here, mail_past, mail_last, mail_others}

-- the roots and the number of slots are the same
pub same_rooted : (m m2 : Member) → length m2.space.slots ≡ length m.space.slots → m2.roots ≡ m.roots → AreRootsWithin (length m.space.slots) m.roots → AreRootsWithin (length m2.space.slots) m2.roots
same_rooted m m2 size roots within = subst (λ (rs : List Ref). AreRootsWithin (length m2.space.slots) rs) (sym roots) (subst (λ n. AreRootsWithin n m.roots) (sym size) within)

pub rooted_set : (ms ms2 : List Member) (k : ℕ) (m2 : Member) → ms2 ≡ slice_set ms k m2 → AreRootsWithin (length m2.space.slots) m2.roots → AreRooted ms → AreRooted ms2
rooted_set ms ms2 k m2 rs within all j m at = ⊎_elim
    (λ same. subst (λ (y : Member). AreRootsWithin (length y.space.slots) y.roots) same within)
    (λ there. all j m there)
    (set_cases ms k j m2 m (ap (λ xs. slice_get xs j) (sym rs) ∙ at))

pub rooted_same : (ms ms2 : List Member) → ms2 ≡ ms → AreRooted ms → AreRooted ms2
rooted_same ms ms2 rs all j m at = all j m (ap (λ xs. slice_get xs j) (sym rs) ∙ at)

pub inboxes_same : (x y : Channels) → y.inboxes ≡ x.inboxes → AreInboxesFound x → AreInboxesFound y
inboxes_same x y same all c i at = all c i (ap (λ is. slice_get is c) (sym same) ∙ at)

pub inboxes_set : (x y : Channels) (c : ℕ) (i2 : Inbox) → y.inboxes ≡ slice_set x.inboxes c i2 → AreFound i2.inside → AreInboxesFound x → AreInboxesFound y
inboxes_set x y c i2 is found all d i at = ⊎_elim
    (λ same. subst (λ (z : Inbox). AreFound z.inside) same found)
    (λ there. all d i there)
    (set_cases x.inboxes c d i2 i (ap (λ xs. slice_get xs d) (sym is) ∙ at))

pub ports_same : (x y : Channels) → y.ports ≡ x.ports → ArePortsFound x → ArePortsFound y
ports_same x y same all c p at = all c p (ap (λ ps. slice_get ps c) (sym same) ∙ at)

pub ports_set : (x y : Channels) (c : ℕ) (p2 : Port) → y.ports ≡ slice_set x.ports c p2 → AreFound (port_inside p2) → ArePortsFound x → ArePortsFound y
ports_set x y c p2 is found all d p at = ⊎_elim
    (λ same. subst (λ (z : Port). AreFound (port_inside z)) same found)
    (λ there. all d p there)
    (set_cases x.ports c d p2 p (ap (λ xs. slice_get xs d) (sym is) ∙ at))

-- ---- What is found as messages come and go.

-- a message comes last, under a ticket that none had
pub found_more : (es : List Entry) (e : Entry) → mail_slots e.ticket es ≡ None → AreFound es → AreFound (es ++ e ∷ [])
found_more es e fresh found x has = ⊎_elim
    (λ old. mail_others es e x.ticket (λ same. none-some (message_slots x.message) (sym fresh ∙ ap (λ t. mail_slots t es) (sym same) ∙ found x old)) ∙ found x old)
    (λ new. ⊎_elim
    (λ (one : e ≡ x). subst (λ (y : Entry). mail_slots y.ticket (es ++ e ∷ []) ≡ Some (message_slots y.message)) one (mail_last es e fresh))
    (λ none. absurd (none_in x none))
    (in_first e [] x new))
    (Contains-append_cases es (e ∷ []) x has)

-- the first message goes, whose ticket no other has
pub found_fewer : (e : Entry) (es : List Entry) → ((x : Entry) → Contains es x → x.ticket ≡ e.ticket → ⊥) → ((x : Entry) → Contains es x → Contains (e ∷ es) x) → AreFound (e ∷ es) → AreFound es
found_fewer e es differ later found x has = sym (mail_past e es x.ticket (differ x has)) ∙ found x (later x has)

-- a ticket finds something where a message has it
ticket_finds : (es : List Entry) (x : Entry) → Contains es x → mail_slots x.ticket es ≡ None → ⊥
ticket_finds [] x has none = none_in x has
ticket_finds (e ∷ es) x has none = ⊎_elim
    (λ one. none-some (message_slots x.message) (sym none ∙ ap (λ y. mail_slots x.ticket (y ∷ es)) one ∙ mail_here x es))
    (λ old. by (nat_eq x.ticket e.ticket) refl (ticket_finds es x old))
    (in_first e es x has)
  where
    by : (b : Bool) → nat_eq x.ticket e.ticket ≡ b → (mail_slots x.ticket es ≡ None → ⊥) → ⊥
    by true q more = none-some (message_slots e.message) (sym none ∙ ap (λ z. cond z (Some (message_slots e.message)) (mail_slots x.ticket es)) q)
    by false q more = more (sym (ap (λ z. cond z (Some (message_slots e.message)) (mail_slots x.ticket es)) q) ∙ none)

pub coming_found : (p p2 : Port) (e : Entry) → IsComing p p2 e → AreFound (port_inside p) → AreFound (port_inside p2)
coming_found p p2 e C found x has = ⊎_elim
    (λ old. C.others x.ticket (λ same. none-some (message_slots x.message) (sym C.fresh ∙ ap (λ t. port_slots t p) (sym same) ∙ found x old)) ∙ found x old)
    (λ (one : e ≡ x). subst (λ (y : Entry). port_slots y.ticket p2 ≡ Some (message_slots y.message)) one C.come)
    (C.inside x has)

pub leaving_found : (p p2 : Port) (e : Entry) → IsLeaving p p2 e → AreFound (port_inside p) → AreFound (port_inside p2)
leaving_found p p2 e L found x has =
    L.others x.ticket (λ same. ticket_finds (port_inside p2) x has (ap (λ t. port_slots t p2) same ∙ L.gone)) ∙ found x (L.inside x has)
