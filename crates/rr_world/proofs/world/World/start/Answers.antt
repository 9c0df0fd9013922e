use Rattle.std.proofs.Common.{◌≡◌, ◌++◌, ◌∷◌, [], List, length, inl, inr, sym, ap, ◌∙◌, refl, arith}
use Rattle.rr_inbox.specs.Inboxes.{Inbox}
use Rattle.rr_port.specs.Ports.{Port}
use Rattle.rr_world.specs.Views.{Assembly, Member}
use Rattle.rr_world.proofs.Insides.{ports_put, aside, channels, channels_same, read_at, same_assembly}
use Rattle.rr_world.proofs.Starting.{begun, start_refused}
use Rattle.rr_world.proofs.world.World.start.Goals as goal

pub returns-then-count-limits : goal.returns-then-count-limits
returns-then-count-limits c =
    let w = c.args.self.now in
    let vs : c.self.inside.ractors.items ≡ w.ractors = ap (λ (v : Assembly). v.ractors) c.self.view_is in
    let many = ap length vs in
    start_refused w w c.args.who c.args.place c.index.result.now _
    (read_at c.self.inside.ractors.items w.ractors c.args.place c.index.result.now vs c.requires.within c.index.ensures)
    refl c.requires.stands (inr (refl, let l = ap (λ l. l.ractors) c.limits-limits.ensures.is in let t = c.if-count-limits.true in omega (arith, many, l, t, c.len-count.ensures)))

pub returns-in_default : goal.returns-in_default
returns-in_default c =
    let w = c.args.self.now in
    let vs : c.self.inside.ractors.items ≡ w.ractors = ap (λ (v : Assembly). v.ractors) c.self.view_is in
    start_refused w _ c.args.who c.args.place c.index.result.now _
    (read_at c.self.inside.ractors.items w.ractors c.args.place c.index.result.now vs c.requires.within c.index.ensures)
    refl c.requires.stands (inl (refl, let l = ap (λ l. l.ractors) c.limits-limits.ensures.is in let t = c.if-count-limits.false in omega (arith, ap length vs, l, t, c.len-count.ensures)))

pub returns-then-is_err : goal.returns-then-is_err
returns-then-is_err c =
    let w = c.args.self.now in
    let vs : c.self.inside.ractors.items ≡ w.ractors = ap (λ (v : Assembly). v.ractors) c.self.view_is in
    let is : c.self.inside.inboxes.items ≡ w.channels.inboxes = ap (λ (v : Assembly). v.channels.inboxes) c.self.view_is in
    start_refused w _ c.args.who c.args.place c.index.result.now _
    (read_at c.self.inside.ractors.items w.ractors c.args.place c.index.result.now vs c.requires.within c.index.ensures)
    (same_assembly c.reserve.new.self.items w.ractors (channels (c.self.inside.store, c.self.inside.ports.items) c.self.inside.inboxes.items) w.channels (c.reserve.ensures.items ∙ vs) (channels_same (ap aside c.self.view_is) is)) c.requires.stands (inl (refl, let l = ap (λ l. l.ractors) c.limits-limits.ensures.is in let t = c.if-count-limits.false in omega (arith, ap length vs, l, t, c.len-count.ensures)))

pub returns-then-is_err-2 : goal.returns-then-is_err-2
returns-then-is_err-2 c =
    let w = c.args.self.now in
    let vs : c.self.inside.ractors.items ≡ w.ractors = ap (λ (v : Assembly). v.ractors) c.self.view_is in
    let is : c.self.inside.inboxes.items ≡ w.channels.inboxes = ap (λ (v : Assembly). v.channels.inboxes) c.self.view_is in
    start_refused w _ c.args.who c.args.place c.index.result.now _
    (read_at c.self.inside.ractors.items w.ractors c.args.place c.index.result.now vs c.requires.within c.index.ensures)
    (same_assembly c.reserve.new.self.items w.ractors (channels (c.self.inside.store, c.self.inside.ports.items) c.reserve-2.new.self.items) w.channels (c.reserve.ensures.items ∙ vs) (channels_same (ap aside c.self.view_is) (c.reserve-2.ensures.items ∙ is))) c.requires.stands (inl (refl, let l = ap (λ l. l.ractors) c.limits-limits.ensures.is in let t = c.if-count-limits.false in omega (arith, ap length vs, l, t, c.len-count.ensures)))

pub returns-then-is_err-3 : goal.returns-then-is_err-3
returns-then-is_err-3 c =
    let w = c.args.self.now in
    let vs : c.self.inside.ractors.items ≡ w.ractors = ap (λ (v : Assembly). v.ractors) c.self.view_is in
    let is : c.self.inside.inboxes.items ≡ w.channels.inboxes = ap (λ (v : Assembly). v.channels.inboxes) c.self.view_is in
    let ps : c.self.inside.ports.items ≡ w.channels.ports = ap (λ (v : Assembly). v.channels.ports) c.self.view_is in
    start_refused w _ c.args.who c.args.place c.index.result.now _
    (read_at c.self.inside.ractors.items w.ractors c.args.place c.index.result.now vs c.requires.within c.index.ensures)
    (same_assembly c.reserve.new.self.items w.ractors (channels (c.self.inside.store, c.reserve-3.new.self.items) c.reserve-2.new.self.items) w.channels (c.reserve.ensures.items ∙ vs) (ports_put (ap (λ (v : Assembly). v.channels.store) c.self.view_is) (c.reserve-2.ensures.items ∙ is) (c.reserve-3.ensures.items ∙ ps))) c.requires.stands (inl (refl, let l = ap (λ l. l.ractors) c.limits-limits.ensures.is in let t = c.if-count-limits.false in omega (arith, ap length vs, l, t, c.len-count.ensures)))

pub returns-in_default-new : goal.returns-in_default-new
returns-in_default-new c =
    let w = c.args.self.now in
    let vs : c.self.inside.ractors.items ≡ w.ractors = ap (λ (v : Assembly). v.ractors) c.self.view_is in
    start_refused w _ c.args.who c.args.place c.index.result.now _
    (read_at c.self.inside.ractors.items w.ractors c.args.place c.index.result.now vs c.requires.within c.index.ensures)
    refl c.requires.stands (inl (refl, let l = ap (λ l. l.ractors) c.limits-limits.ensures.is in let t = c.if-count-limits.false in omega (arith, ap length vs, l, t, c.len-count.ensures)))

pub returns : goal.returns
returns c =
    let w = c.args.self.now in
    let vs : c.self.inside.ractors.items ≡ w.ractors = ap (λ (v : Assembly). v.ractors) c.self.view_is in
    let is : c.self.inside.inboxes.items ≡ w.channels.inboxes = ap (λ (v : Assembly). v.channels.inboxes) c.self.view_is in
    let ps : c.self.inside.ports.items ≡ w.channels.ports = ap (λ (v : Assembly). v.channels.ports) c.self.view_is in
    let many = ap length vs in
    let l = c.limits-limits.result in
    begun w _ l c.new-3.result
    (record { owner = c.new-3.ensures.owner ∙ omega (arith, many, c.len-count.ensures); slots = c.new-3.ensures.slots; below = c.new-3.ensures.below; limit = c.new-3.ensures.limit; roots = c.new-3.ensures.roots; hand = c.new-3.ensures.hand; home = c.new-3.ensures.home; ticket = c.new-3.ensures.ticket; plan = c.new-3.ensures.plan; published = c.new-3.ensures.published; next = c.new-3.ensures.next; run = c.new-3.ensures.limits; runs = c.new-3.ensures.runs })
    (c.push_reserved.ensures.items ∙ ap (λ (rs : List Member). rs ++ c.new-3.result ∷ []) (c.reserve.ensures.items ∙ vs))
    (ports_put (ap (λ (v : Assembly). v.channels.store) c.self.view_is)
    (c.push_reserved-2.ensures.items ∙ ap (λ (bs : List Inbox). bs ++ c.in-Ok.inbox ∷ []) (c.reserve-2.ensures.items ∙ is) ∙ ap (λ (b : Inbox). w.channels.inboxes ++ b ∷ []) c.in-Ok.ensures.made)
    (c.push_reserved-3.ensures.items ∙ ap (λ (ps : List Port). ps ++ c.in-Ok-new.port ∷ []) (c.reserve-3.ensures.items ∙ ps) ∙ ap (λ (p : Port). w.channels.ports ++ p ∷ []) c.in-Ok-new.ensures.made))
    c.args.who _ c.args.place c.index.result.now
    (read_at c.self.inside.ractors.items w.ractors c.args.place c.index.result.now vs c.requires.within c.index.ensures)
    (sym c.limits-limits.ensures.is)
    (let n = ap (λ l. l.ractors) c.limits-limits.ensures.is in let t = c.if-count-limits.false in omega (arith, many, n, t, c.len-count.ensures))
    c.requires.stands (omega (arith, many, c.len-count.ensures))
