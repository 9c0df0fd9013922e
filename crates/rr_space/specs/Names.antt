-- The value that a comparable name stands for.
use Rattle.rr_space.specs.Graph.{Nil, Truth, Integer, SymbolNo, ClassNo, RactorNo, Value, Plain, At, Own, Published}
use Rattle.rr_space.specs.declared.refer.Name.{Name}
use Rattle.rr_space.specs.declared.refer.Name.TheVariants.{Nil as NilName, Truth as TruthName, Int, Symbol, Class, Ractor, Own as OwnName, Published as PublishedName}

abbrev pub value_named : Name → Value
value_named NilName = Plain Nil
value_named (TruthName b) = Plain (Truth b)
value_named (Int z) = Plain (Integer z)
value_named (Symbol s) = Plain (SymbolNo s.0)
value_named (Class c) = Plain (ClassNo c.0)
value_named (Ractor r) = Plain (RactorNo r.0)
value_named (OwnName n) = At (Own n)
value_named (PublishedName c p) = At (Published c p)
