-- Whose objects these are.
use Rattle.std.specs.Prelude.{Bool, nat_eq}
use Rattle.rr_base.specs.declared.name.RactorNo.{RactorNo}
use Rattle.rr_space.specs.Tables.{Table}

abbrev pub owner_of : Table → RactorNo
owner_of t = record { 0 = t.owner }

-- the main ractor is the first one
abbrev pub is_main : Table → Bool
is_main t = nat_eq t.owner 1
