-- How a program spells its symbols and classes.
use Rattle.rr_tree.specs.Names.{symbol_text, class_text}
use Rattle.rr_tree.specs.declared.program.Program.{Program}
use Rattle.rr_text.specs.Forms.{Names}

unfoldable pub names_of : Program → Names
names_of p = record { symbol = symbol_text p; class = class_text p }
