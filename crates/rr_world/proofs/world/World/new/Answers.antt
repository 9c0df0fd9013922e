use Rattle.std.proofs.Common.{◌++◌, ◌∷◌, [], List, ap, ◌∙◌}
use Rattle.rr_inbox.specs.Inboxes.{Inbox}
use Rattle.rr_port.specs.Ports.{Port}
use Rattle.rr_world.specs.Views.{Member}
use Rattle.rr_world.proofs.Fresh.{new_is_read}
use Rattle.rr_world.proofs.world.World.new.Goals as goal

pub returns-clause-made : goal.returns-clause-made
returns-clause-made c = record {
  main = c.new.result;
  ractors = c.in_ok-push.ensures.items ∙ ap (λ (xs : List Member). xs ++ c.new.result ∷ []) c.new-ractors.ensures.items;
  slots = c.new.ensures.slots;
  below = c.new.ensures.below;
  limit = c.new.ensures.limit;
  owner = c.new.ensures.owner;
  roots = c.new.ensures.roots;
  hand = c.new.ensures.hand;
  home = c.new.ensures.home;
  ticket = c.new.ensures.ticket;
  plan = c.new.ensures.plan;
  published = c.new.ensures.published;
  next = c.new.ensures.next;
  store = c.new-store.ensures;
  run = c.new.ensures.limits;
  runs = c.new.ensures.runs;
  ports = c.in_ok-push-3.ensures.items ∙ ap (λ (xs : List Port). xs ++ c.in_ok-new-2.field-0 ∷ []) c.new-ports.ensures.items ∙ ap (λ (x : Port). x ∷ []) c.in_ok-new-2.ensures.made;
  inboxes = c.in_ok-push-2.ensures.items ∙ ap (λ (xs : List Inbox). xs ++ c.in_ok-new.field-0 ∷ []) c.new-inboxes.ensures.items ∙ ap (λ (x : Inbox). x ∷ []) c.in_ok-new.ensures.made;
}

pub returns-clause-reading : goal.returns-clause-reading
returns-clause-reading c = new_is_read c.args.limits _ (returns-clause-made c)
