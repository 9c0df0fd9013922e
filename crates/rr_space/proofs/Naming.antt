-- Names are equal exactly where the values are that they stand for.
use Rattle.std.proofs.Common.{◌≡◌, ap, sym, ◌∙◌, refl}
use Rattle.rr_space.specs.Graph.{Nil, Truth, Integer, SymbolNo, ClassNo, RactorNo, Value, Plain, At, Own, Published}
use Rattle.rr_space.specs.Names.{value_named}
use Rattle.rr_space.specs.declared.refer.Name.{Name}
use Rattle.rr_space.specs.declared.refer.Name.TheVariants.{Nil as NilName, Truth as TruthName, Int, Symbol, Class, Ractor, Own as OwnName, Published as PublishedName}

abbrev back : Value → Name
back (Plain Nil) = NilName
back (Plain (Truth b)) = TruthName b
back (Plain (Integer z)) = Int z
back (Plain (SymbolNo n)) = Symbol (record { 0 = n })
back (Plain (ClassNo n)) = Class (record { 0 = n })
back (Plain (RactorNo n)) = Ractor (record { 0 = n })
back (At (Own n)) = OwnName n
back (At (Published c p)) = PublishedName c p

comes_back : (n : Name) → back (value_named n) ≡ n
comes_back NilName = refl
comes_back (TruthName b) = refl
comes_back (Int z) = refl
comes_back (Symbol s) = refl
comes_back (Class c) = refl
comes_back (Ractor r) = refl
comes_back (OwnName n) = refl
comes_back (PublishedName c p) = refl

pub named_same : (n m : Name) → value_named n ≡ value_named m → n ≡ m
named_same n m e = sym (comes_back n) ∙ ap back e ∙ comes_back m
