use Rattle.rr_parser.proofs.Programs.{program_sound}
use Rattle.rr_parser.proofs.Exact.{refused_spells, deep_spells, deep_nests, same_fault}
use Rattle.rr_parser.proofs.program.parse.Goals as goal

pub returns-in-Ok-clause-found : goal.returns-in-Ok-clause-found
returns-in-Ok-clause-found c = (_, program_sound 200 _ _ c.in-Ok.ensures.tree)

pub returns-in-Ok-clause-program : goal.returns-in-Ok-clause-program
returns-in-Ok-clause-program c = program_sound 200 _ _ c.in-Ok.ensures.tree

pub returns-in-Err-clause-refused : goal.returns-in-Err-clause-refused
returns-in-Err-clause-refused c = λ line column kind is t s.
    refused_spells 200 _ c.args.tokens.now c.in-Err.refusal c.fault_of.result line column kind c.in-Err.ensures.tree c.fault_of.ensures (same_fault _ _ is) s.0 (s.1.0, t) s.1.1

pub returns-in-Err-clause-deep : goal.returns-in-Err-clause-deep
returns-in-Err-clause-deep c = λ is t s. deep_spells 200 _ c.args.tokens.now c.in-Err.refusal c.fault_of.result c.in-Err.ensures.tree c.fault_of.ensures (same_fault _ _ is) (s.0, t) s.1

pub returns-in-Err-clause-beyond : goal.returns-in-Err-clause-beyond
returns-in-Err-clause-beyond c = λ is. deep_nests 200 _ c.args.tokens.now c.in-Err.refusal c.fault_of.result c.in-Err.ensures.tree c.fault_of.ensures (same_fault _ _ is)
