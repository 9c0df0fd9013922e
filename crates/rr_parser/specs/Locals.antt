-- Local variables that are found by their names at once.
use Rattle.std.specs.Prelude.{◌≡◌, ℕ, ◌<◌, List, length, take, slice_get, slice_index_or, Option, Some, None}
use Rattle.rr_parser.specs.declared.locals.Local.{Local}
use Rattle.rr_parser.specs.Grammar.Names.{find}

-- it is the place of the last variable with this name; there is none
abbrev pub Points : Option ℕ → ℕ → List Local → Type 0
Points None x ls = find x ls ≡ None
Points (Some p) x ls = (p < length ls) × (find x ls ≡ slice_get ls p)

-- for each variable it is known which one it hides, and for each name which one is the last
pub record IsIndexed (ls : List Local) (hidden newest : List (Option ℕ)) : Type 0 where
  pub count : length hidden ≡ length ls
  pub before : (i : ℕ) (l : Local) → slice_get ls i ≡ Some l → Points (slice_index_or hidden i None) l.name.0 (take i ls)
  pub last : (x : ℕ) → Points (slice_index_or newest x None) x ls
