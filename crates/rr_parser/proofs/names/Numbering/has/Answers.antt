use Rattle.std.proofs.Common.{Bool, if◌then◌else◌, [], ◌∷◌, ◌++◌, ℕ, sym, ap}
use Rattle.rr_base.specs.declared.name.Sym.{Sym}
use Rattle.rr_parser.specs.Numbering.{names_of}
use Rattle.rr_parser.proofs.Lately.{any_known, place_known}
use Rattle.rr_parser.proofs.names.Numbering.has.Goals as goal

abbrev sym_of : ℕ → Sym
sym_of n = record { 0 = n }

pub returns-then-index-len-clause-known : goal.returns-then-index-len-clause-known
returns-then-index-len-clause-known c h =
    ap (λ (b : Bool). if b then names_of c.args.self.now else names_of c.args.self.now ++ c.args.name.now ∷ [])
    (any_known c.args.name.now c.args.self.now.names.keys c.args.number _ c.index.ensures (sym (c.are_same.ensures h)))

pub returns-then-index-len-clause-number : goal.returns-then-index-len-clause-number
returns-then-index-len-clause-number c h =
    ap sym_of (place_known c.args.name.now c.args.self.now.names.keys c.args.number _ c.len.ensures.unique c.index.ensures (sym (c.are_same.ensures h)))
