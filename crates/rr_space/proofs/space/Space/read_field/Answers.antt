use Rattle.std.proofs.Common.{length}
use Rattle.rr_space.specs.Labels.{triples_at}
use Rattle.rr_space.proofs.Reading.{read_some, read_first, read_within, read_known, read_none}
use Rattle.rr_space.proofs.space.Space.read_field.Goals as goal

pub returns-in-Some-clause-some : goal.returns-in-Some-clause-some
returns-in-Some-clause-some c = read_some c.in-Some.fields.now c.args.name c.field_named.result (triples_at c.args.self.now c.args.value) c.in-Some.ensures.triples c.field_named.ensures.some

pub returns-in-Some-clause-first : goal.returns-in-Some-clause-first
returns-in-Some-clause-first c = read_first c.in-Some.fields.now c.args.name c.field_named.result (triples_at c.args.self.now c.args.value) c.in-Some.ensures.triples c.field_named.ensures.some

pub returns-in-Some-clause-within : goal.returns-in-Some-clause-within
returns-in-Some-clause-within c = read_within c.in-Some.fields.now c.args.name (length c.args.self.now.slots) c.field_named.result c.in-Some.ensures.within c.field_named.ensures.some

pub returns-in-Some-clause-known : goal.returns-in-Some-clause-known
returns-in-Some-clause-known c = read_known c.in-Some.fields.now c.args.name c.args.self.now c.args.value c.field_named.result c.in-Some.ensures.known c.field_named.ensures.some

pub returns-in-Some-clause-none : goal.returns-in-Some-clause-none
returns-in-Some-clause-none c = read_none c.in-Some.fields.now c.args.name c.field_named.result (triples_at c.args.self.now c.args.value) c.in-Some.ensures.triples c.field_named.ensures.none
