-- The texts of names and of classes, by their numbers.
use Rattle.std.specs.Prelude.{ℕ, ◌-◌, nat_lt, List, [], map, slice_index_or, if◌then◌else◌}
use Rattle.rr_base.specs.Classes.{class_name}
use Rattle.rr_base.specs.ClassNames.{built_in_classes}
use Rattle.rr_tree.specs.declared.program.Program.{Program}

-- the bytes of each name, by its number
abbrev pub symbols_of : Program → List (List ℕ)
symbols_of p = map (λ s. s.items) p.symbols.items

-- the bytes of a name; none past the table
abbrev pub symbol_text : Program → ℕ → List ℕ
symbol_text p n = slice_index_or (symbols_of p) n []

-- the name of a class of the program, counted from 0; none past the table
abbrev pub program_class_text : Program → ℕ → List ℕ
program_class_text p n = slice_index_or (map (λ c. symbol_text p c.name.0) p.classes.items) n []

-- the name of a class: the built-in classes come first, then those of the program; none past them
abbrev pub class_text : Program → ℕ → List ℕ
class_text p n = if nat_lt n 32 then slice_index_or (map class_name built_in_classes) n [] else program_class_text p (n - 32)
