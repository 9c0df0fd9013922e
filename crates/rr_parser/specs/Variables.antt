-- What a table of variables knows.
use Rattle.rr_parser.specs.declared.variables.Variables.{Variables}
use Rattle.rr_parser.specs.Places.{Known}

abbrev pub known_in : Variables → Known
known_in v = record { locals = v.locals; level = v.level; count = v.count; begun = v.begun; in_loop = v.in_loop; in_method = v.in_method; takes_do = v.takes_do }
