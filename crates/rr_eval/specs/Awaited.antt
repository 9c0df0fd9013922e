-- Names that only `self` has methods of.
use Rattle.std.specs.Prelude.{ℕ, Bool, ◌||◌, List, codes}
use Rattle.std.specs.Str.{bytes_eq}

-- `raise`
abbrev pub is_raise : List ℕ → Bool
is_raise name = bytes_eq name (codes "raise")

-- `block_given?`
abbrev pub is_block_given : List ℕ → Bool
is_block_given name = bytes_eq name (codes "block_given?")

-- a method of `self` that is not evaluated yet
abbrev pub is_awaited : List ℕ → Bool
is_awaited name = bytes_eq name (codes "loop") || bytes_eq name (codes "block_given?")
