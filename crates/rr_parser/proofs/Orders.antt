-- What begins a command behind its receiver.
use Rattle.std.proofs.Common.{◌≡◌, Bool, true, false, cond, ◌&&◌, List, [], ◌∷◌, Option, Some, None, refl, ap, ◌∙◌, arith}
use Rattle.rr_base.specs.declared.name.Sym.{Sym}
use Rattle.rr_parser.specs.declared.word.Tail.TheVariants as tails
use Rattle.rr_parser.specs.declared.word.WordKind.TheVariants as kind
use Rattle.rr_parser.specs.declared.word.Word.{Word}
use Rattle.rr_parser.specs.Places.{Place, seen_before, unless, placed, word, at, next}
use Rattle.rr_parser.specs.Grammar.Names.{name_of_kind, name, bracket, begins_operands}
use Rattle.rr_parser.specs.Grammar.Operands.{called, sent, behind_dot, tail, before_operands, order_behind, order}
use Rattle.rr_parser.proofs.Told.{told_dot}
use Rattle.rr_parser.proofs.Looks.{Steps, Steps-first_as, some_place, some_what, none_unless, next-left, word-next}
use Rattle.rr_parser.proofs.Strengths.{Stops, strength_in}

-- a dot comes, and a name behind it that operands follow
pub record OrderAt (s : Place) (x : Sym) (z : Place) : Type 0 where
  pub dot : Place
  pub here : next s ≡ Some (kind.Dot, dot)
  pub named : at name dot ≡ Some (x, z)
  pub no_tail : at tail s ≡ None

-- no bracket opens where operands follow a blank
no_bracket : (ws : List Word) → begins_operands ws ≡ true → bracket ws ≡ None
no_bracket [] e = refl
no_bracket (w ∷ ws) e = by_blank w.blank _ _ e
  where
    by_blank : (b c : Bool) (o : Option (Unit {0})) → (b && c) ≡ true → seen_before (unless b o) ws ≡ None
    by_blank true c o f = refl
    by_blank false c o f = absurd cc

pub order-next : (s z : Place) (x : Sym) → at order s ≡ Some (x, z) → OrderAt s x z
order-next s z x e = by_dot (word kind.Dot s.rest) refl e
  where
    by_test : (r : Unit {0} × List Word) (y : Sym × List Word) (b : Bool) → word kind.Dot s.rest ≡ Some r → name r.1 ≡ Some y → begins_operands y.1 ≡ b → placed s.known (cond b (Some (y.0, y.1)) None) ≡ Some (x, z) → OrderAt s x z
    by_test r y true d f b g =
        let m : Place = record { known = s.known; rest = r.1 } in
        let n : Place = record { known = s.known; rest = y.1 } in
        record {
          dot = m;
          here = word-next kind.Dot told_dot s m r.0 (ap (placed s.known) d);
          named = ap (placed s.known) f ∙ ap (λ (q : Sym). Some (q, n)) (some_what y.0 x n z g) ∙ ap (λ (q : Place). Some (x, q)) (some_place y.0 x n z g);
          no_tail =
              ap (λ o. placed s.known (behind_dot s.rest o)) d
              ∙ ap (λ o. placed s.known (sent o)) f
              ∙ ap (λ o. placed s.known (called y.0 y.1 o)) (no_bracket y.1 b)
              ∙ ap (λ c. placed s.known (cond c None (Some (tails.Send y.0, y.1)))) b;
        }
    by_test r y false d f b g = absurd cc

    by_name : (r : Unit {0} × List Word) (o : Option (Sym × List Word)) → word kind.Dot s.rest ≡ Some r → name r.1 ≡ o → placed s.known (before_operands o) ≡ Some (x, z) → OrderAt s x z
    by_name r None d f g = absurd cc
    by_name r (Some y) d f g = by_test r y (begins_operands y.1) d f refl g

    by_dot : (o : Option (Unit {0} × List Word)) → word kind.Dot s.rest ≡ o → placed s.known (order_behind o) ≡ Some (x, z) → OrderAt s x z
    by_dot None d g = absurd cc
    by_dot (Some r) d g = by_name r (name r.1) d refl g

pub Steps-order : Steps order
Steps-order s z x e = let h = order-next s z x e in omega (arith, next-left s h.dot kind.Dot h.here, (Steps-first_as (λ w. name_of_kind w.kind)) h.dot z x h.named)

pub order_strength : (s z : Place) (x : Sym) → at order s ≡ Some (x, z) → strength_in (next s) ≡ 0
order_strength s z x e = ap strength_in (order-next s z x e).here

pub no_order_at : (s : Place) → Stops 0 s → at order s ≡ None
no_order_at s stops = none_unless (at order s) (λ x z e. let never : ⊥ = omega (arith, order_strength s z x e, stops) in never)
