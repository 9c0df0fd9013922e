-- Which clusters references lead to.
use Rattle.std.proofs.Common.{ℕ, List, [], Contains, Result, Ok, Err, IfOk, arith}
use Rattle.std.proofs.Math.Logic.{⊎_elim}
use Rattle.rr_space.specs.Graph.{Object}
use Rattle.rr_space.specs.Tables.{Table, Below}
use Rattle.rr_space.specs.Views.{IsKnownFrom}
use Rattle.rr_space.specs.declared.refer.Ref.{Ref}
use Rattle.rr_space.specs.declared.refer.Ref.TheVariants.{Nil, False, True, Int, Symbol, Class, Ractor, Local, Shared}
use Rattle.rr_text.specs.Reads.{IsReadWith, IsAmong}
use Rattle.rr_builtin.specs.Acts.{IsRefAmong}

pub none_in : {P : Type 0} (e : ℕ × List Object) → Contains {X = ℕ × List Object} [] e → P
none_in e (k, lt, q) = absurd (let no : ⊥ = omega (arith, lt) in no)

pub among_of : (below : Below) (r : Ref) → IsRefAmong below r → IsAmong below r
among_of below Nil h = λ e. none_in e
among_of below False h = λ e. none_in e
among_of below True h = λ e. none_in e
among_of below (Int z) h = λ e. none_in e
among_of below (Symbol s) h = λ e. none_in e
among_of below (Class k) h = λ e. none_in e
among_of below (Ractor k) h = λ e. none_in e
among_of below (Local n) h = λ e. none_in e
among_of below (Shared p k) h = h

pub of_among : (below : Below) (r : Ref) → IsAmong below r → IsRefAmong below r
of_among below Nil h = tt
of_among below False h = tt
of_among below True h = tt
of_among below (Int z) h = tt
of_among below (Symbol s) h = tt
of_among below (Class k) h = tt
of_among below (Ractor k) h = tt
of_among below (Local n) h = tt
of_among below (Shared p k) h = h

-- what is read from a value of these clusters
pub read_among : (t : Table) (below : Below) (from r : Ref) → IsReadWith t below → IsRefAmong below from → IsKnownFrom t from r → IsRefAmong below r
read_among t below from r read among known =
    of_among below r (λ e has. ⊎_elim (read.all e) (among_of below from among e) (known e has))

pub on_if_ok : {A E : Type 0} (P Q : A → Type 0) (r : Result A E) → IfOk r P → ((x : A) → P x → Q x) → IfOk r Q
on_if_ok P Q (Ok x) p h = h x p
on_if_ok P Q (Err e) p h = tt
