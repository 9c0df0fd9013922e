-- What a hand that has a message and a home is.
use Rattle.std.proofs.Common.{◌≡◌, Some, sym, ap, subst}
use Rattle.std.proofs.lemmas.Option.{same_Some}
use native.Mathlib.Nat.{ℕ_set}
use Rattle.rr_space.specs.Tables.{Packed}
use Rattle.rr_move.specs.Hands.{message_in, home_in}
use Rattle.rr_move.specs.Homes.{IsHomeOf}
use Rattle.rr_move.specs.declared.home.Home.{Home}
use Rattle.rr_move.specs.declared.home.Detached.{Detached}
use Rattle.rr_move.specs.declared.hand.Hand.{Hand}
use Rattle.rr_move.specs.declared.hand.Hand.TheVariants.{Empty, Planned, Published, Message, Moved, Shown}

one_fit : (h : Home) (m : Packed) (f k : IsHomeOf h m) → f ≡ k
one_fit h m f k = let p : IsProp (IsHomeOf h m) = hlevel ℕ_set in p f k

abbrev pub moved : (h : Home) (m : Packed) → IsHomeOf h m → Detached
moved h m f = record { home = h; message = m; fits = f }

-- a moved message is its home and what came along
same_moved : (h k : Home) (m n : Packed) (f : IsHomeOf h m) (e : IsHomeOf k n) → h ≡ k → m ≡ n → moved h m f ≡ moved k n e
same_moved h k m n f e p q =
    let base = λ (x : IsHomeOf h m). ap (λ (y : IsHomeOf h m). moved h m y) (one_fit h m f x) in
    let first = subst (λ (b : Packed). (x : IsHomeOf h b) → moved h m f ≡ moved h b x) q base in
    subst (λ (a : Home). (x : IsHomeOf a n) → moved h m f ≡ moved a n x) p first e

-- the hand that has this message and this home
pub moved_again : (h : Home) (m : Packed) (f : IsHomeOf h m) (before : Hand) → message_in before ≡ Some m → home_in before ≡ Some h → Moved (moved h m f) ≡ before
moved_again h m f Empty p q = absurd cc
moved_again h m f (Planned plan) p q = absurd cc
moved_again h m f (Published places published) p q = absurd cc
moved_again h m f (Message n) p q = absurd cc
moved_again h m f (Moved d) p q = ap Moved (same_moved h d.home m d.message f d.fits (sym (same_Some d.home h q)) (sym (same_Some d.message m p)))
moved_again h m f (Shown home ticket) p q = absurd cc
