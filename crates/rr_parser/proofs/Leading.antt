-- Reading that leads to what is spelled, unless it is too deep.
use Rattle.std.proofs.Common.{◌≡◌, ◌⊎◌, inl, inr, Some, None, Result, Ok, Err, refl, ap, ◌∙◌}
use Rattle.rr_tree.specs.Tree.{Tree}
use Rattle.rr_parser.specs.Places.{Place, Look, at}
use Rattle.rr_parser.specs.Grammar.Chains.{Chain, one, more, same}
use Rattle.rr_parser.specs.Reading.Answers.{◌>>=◌, Refused, deep, Answer, Parse, built, on_seen, from, across, chain_on, chain}
use Rattle.rr_parser.proofs.Looks.{Steps}
use Rattle.rr_parser.proofs.Chains.{Shrinks, chain_on-ends, chain_on-turn}

-- the first answers what the second does, or it is too deep
abbrev pub Leads : {A : Type 0} → Result A Refused → Result A Refused → Type 0 → Type 0
Leads r q TooDeep = (r ≡ q) ⊎ ((r ≡ Err deep) × TooDeep)

pub leads_bind : {A B : Type 0} {D : Type 0} (r : Result A Refused) (x : A) (f : A → Result B Refused) → Leads r (Ok x) D → Leads (r >>= f) (f x) D
leads_bind r x f (inl e) = inl (ap (λ q. q >>= f) e)
leads_bind r x f (inr e) = inr (ap (λ q. q >>= f) e.0, e.1)

pub leads_trans : {A : Type 0} {D : Type 0} (r q o : Result A Refused) → Leads r q D → Leads q o D → Leads r o D
leads_trans r q o (inl e) (inl f) = inl (e ∙ f)
leads_trans r q o (inl e) (inr f) = inr (e ∙ f.0, f.1)
leads_trans r q o (inr e) f = inr e

pub leads_eq : {A : Type 0} {D : Type 0} (r q o : Result A Refused) → r ≡ q → Leads q o D → Leads r o D
leads_eq r q o e h = leads_trans r q o (inl e) h

pub leads_map : {A : Type 0} {C D : Type 0} (r q : Result A Refused) → (C → D) → Leads r q C → Leads r q D
leads_map r q f (inl e) = inl e
leads_map r q f (inr e) = inr (e.0, f e.1)

pub leads_built : {A B : Type 0} {D : Type 0} (f : A → B) (r q : Answer A) → Leads r q D → Leads (built f r) (built f q) D
leads_built f r q (inl e) = inl (ap (built f) e)
leads_built f r q (inr e) = inr (ap (built f) e.0, e.1)

-- all that P spells is read, where what follows stops it
abbrev pub IsFull : {A : Type 0} → Parse A → (Place → A → Place → Type 0) → (Place → Type 0) → Type 0 → Type 0
IsFull {A} p P Stops D = (s z : Place) (t : A) → P s t z → Stops z → Leads (p s) (Ok (t, z)) D

module _ {X R S : Type 0} (between step : Look X) (first : R → S) (join : X → S → R → S) (p : Parse R) (P : Place → R → Place → Type 0)
    (Stops : Place → Type 0) (D : Type 0) (steps : Steps step) (shrinks : Shrinks p)
    (stops_at : (m n : Place) (x : X) → at between m ≡ Some (x, n) → Stops m)
    (step_on : (m n z : Place) (x : X) (r : R) → at between m ≡ Some (x, n) → P n r z → at step m ≡ Some (x, n))
    (full : IsFull p P Stops D) where
  chain_leads : (s z : Place) (t : S) → Chain between first join P s t z → Stops z → Leads (chain step first join p s) (chain_on step join p t z) D
  unfolding chain
  chain_leads s z t (one {t = u} h) stops = leads_bind (p s) (u, z) (λ r. chain_on step join p (first r.0) r.1) (full s z u h stops)
  chain_leads s z t (more {m = m} {n = n} {l = l} {r = r} {x = x} c e h) stops =
      leads_trans (chain step first join p s) (chain_on step join p l m) (chain_on step join p (join x l r) z)
      (chain_leads s m l c (stops_at m n x e))
      (leads_eq (chain_on step join p l m) (p n >>= λ q. chain_on step join p (join x l q.0) q.1) (chain_on step join p (join x l r) z)
      (chain_on-turn step join p steps shrinks l m n x (step_on m n z x r e h))
      (leads_bind (p n) (r, z) (λ q. chain_on step join p (join x l q.0) q.1) (full n z r h stops)))

  pub chain_full : (s z : Place) (t : S) → Chain between first join P s t z → Stops z → at step z ≡ None → Leads (chain step first join p s) (Ok (t, z)) D
  chain_full s z t c stops e =
      leads_trans (chain step first join p s) (chain_on step join p t z) (Ok (t, z)) (chain_leads s z t c stops) (inl (chain_on-ends step join p steps shrinks t z e))

-- ---- from a first part on

-- U spells the first part, from which on reading leads to the answer
pub record Onward {A B : Type 0} (U : Place → A → Place → Type 0) (Stops : Place → Type 0) (on : A → Parse B) (D : Type 0) (s : Place) (read : Result (B × Place) Refused) : Type 0 where
  pub first : A
  pub behind : Place
  pub spelled : U s first behind
  pub stops : Stops behind
  pub leads : Leads (on first behind) read D

abbrev pub IsFullOn : {A B : Type 0} → (Place → A → Place → Type 0) → (Place → Type 0) → (A → Parse B) → (Place → B → Place → Type 0) → (Place → Type 0) → Type 0 → Type 0
IsFullOn {A} {B} U Begins on P Stops D = (s z : Place) (t : B) → P s t z → Stops z → Onward U Begins on D s (Ok (t, z))

pub from_full : {A B : Type 0} {D : Type 0} (p : Parse A) (on : A → Parse B) (U : Place → A → Place → Type 0) (Begins : Place → Type 0) (P : Place → B → Place → Type 0) (Stops : Place → Type 0)
    → IsFull p U Begins D → IsFullOn U Begins on P Stops D → IsFull (from p on) P Stops D
from_full p on U Begins P Stops full full_on s z t h stops =
    let o = full_on s z t h stops in
    leads_trans (from p on s) (on o.first o.behind) (Ok (t, z)) (leads_bind (p s) (o.first, o.behind) (λ x. on x.0 x.1) (full s o.behind o.first o.spelled o.stops)) o.leads

-- goes on from what came first
pub onward_bind : {A B C : Type 0} {U : Place → A → Place → Type 0} {Stops : Place → Type 0} {D : Type 0} (on : A → Parse B) (f : B × Place → Answer C) (s : Place) (t : B) (z : Place) (read : Answer C)
    → Onward U Stops on D s (Ok (t, z)) → Leads (f (t, z)) read D → Onward U Stops (λ l m. on l m >>= f) D s read
onward_bind on f s t z read o h = record {
  first = o.first;
  behind = o.behind;
  spelled = o.spelled;
  stops = o.stops;
  leads = leads_trans (on o.first o.behind >>= f) (f (t, z)) read (leads_bind (on o.first o.behind) (t, z) f o.leads) h;
}

module _ {A X : Type 0} (between : Look X) (join : X → Tree → Tree → Tree) (p : Parse Tree) (P : Place → Tree → Place → Type 0)
    (Stops : Place → Type 0) (D : Type 0) (steps : Steps between) (shrinks : Shrinks p)
    (stops_at : (m n : Place) (x : X) → at between m ≡ Some (x, n) → Stops m) (full : IsFull p P Stops D)
    (U : Place → A → Place → Type 0) (Begins : Place → Type 0) (on : A → Parse Tree) (full_on : IsFullOn U Begins on P Stops D) where
  abbrev goes_on : A → Parse Tree
  goes_on l m = on l m >>= λ x. chain_on between join p x.0 x.1

  onward_leads : (s z : Place) (t : Tree) → Chain between same join P s t z → Stops z → Onward U Begins goes_on D s (chain_on between join p t z)
  onward_leads s z t (one {t = u} h) stops = onward_bind on (λ x. chain_on between join p x.0 x.1) s u z (chain_on between join p u z) (full_on s z u h stops) (inl refl)
  onward_leads s z t (more {m = m} {n = n} {l = l} {r = r} {x = x} c e h) stops =
      let o = onward_leads s m l c (stops_at m n x e) in
      record {
        first = o.first;
        behind = o.behind;
        spelled = o.spelled;
        stops = o.stops;
        leads =
            leads_trans (goes_on o.first o.behind) (chain_on between join p l m) (chain_on between join p (join x l r) z) o.leads
            (leads_eq (chain_on between join p l m) (p n >>= λ q. chain_on between join p (join x l q.0) q.1) (chain_on between join p (join x l r) z)
            (chain_on-turn between join p steps shrinks l m n x e)
            (leads_bind (p n) (r, z) (λ q. chain_on between join p (join x l q.0) q.1) (full n z r h stops)));
      }

  pub onward_full : (s z : Place) (t : Tree) → Chain between same join P s t z → Stops z → at between z ≡ None → Onward U Begins goes_on D s (Ok (t, z))
  onward_full s z t c stops e =
      let o = onward_leads s z t c stops in
      record {
        first = o.first;
        behind = o.behind;
        spelled = o.spelled;
        stops = o.stops;
        leads = leads_trans (goes_on o.first o.behind) (chain_on between join p t z) (Ok (t, z)) o.leads (inl (chain_on-ends between join p steps shrinks t z e));
      }

-- ---- two parts with something between them

pub across_full : {A B C : Type 0} {D : Type 0} (f : A → B → C) (look : Look (Unit {0})) (p : Parse B) (r : Answer A) (a : A) (m n z : Place) (u : Unit {0}) (b : B)
    → Leads r (Ok (a, m)) D → at look m ≡ Some (u, n) → Leads (p n) (Ok (b, z)) D → Leads (across f look p r) (Ok (f a b, z)) D
across_full f look p r a m n z u b h e i =
    leads_trans (across f look p r) (on_seen (f a) p (at look m)) (Ok (f a b, z)) (leads_bind r (a, m) (λ x. on_seen (f x.0) p (at look x.1)) h)
    (leads_eq (on_seen (f a) p (at look m)) (built (f a) (p n)) (Ok (f a b, z)) (ap (on_seen (f a) p) e) (leads_bind (p n) (b, z) (λ x. Ok (f a x.0, x.1)) i))
