-- From what is read to what is spelled.
use Rattle.std.proofs.Common.{◌≡◌, ℕ, List, [], true, false, Result, Err, sym, subst, ◌∙◌, arith}
use Rattle.rr_base.specs.declared.fault.Fault.{Fault}
use Rattle.rr_base.specs.declared.fault.Fault.TheVariants as fault
use Rattle.rr_base.specs.declared.fault.SyntaxKind.{SyntaxKind}
use Rattle.rr_base.specs.declared.fault.SyntaxKind.TheVariants as syntax
use Rattle.rr_base.specs.declared.limits.LimitKind.TheVariants as limit
use Rattle.rr_lexer.specs.declared.kind.Token.{Token}
use Rattle.rr_parser.specs.Grammar.Programs.{Main}
use Rattle.rr_parser.specs.declared.word.Word.{Word}
use Rattle.rr_parser.specs.declared.refusal.Refusal.{Refusal}
use Rattle.rr_parser.specs.declared.refusal.Refusal.TheVariants as refusal
use Rattle.rr_parser.specs.declared.refusal.Storage.TheVariants as storage
use Rattle.rr_parser.specs.Places.{Place, start}
use Rattle.rr_parser.specs.Grammar.{WordsSpell, outside}
use Rattle.rr_parser.specs.Fronts.{ProgramFront, fronts_outside}
use Rattle.rr_parser.specs.Reading.Programs.{outline_of}
use Rattle.rr_parser.specs.Reading.{program_of, readers, whole_of}
use Rattle.rr_parser.specs.Meets.{Fails}
use Rattle.rr_parser.specs.declared.locals.Local.{Local}
use Rattle.rr_parser.specs.Faults.{last_tokens, unexpected_kind, IsParseFault, IsFaultOf}
use Rattle.rr_parser.proofs.Programs.{program_nests, program_wrong, program_deep}
use Rattle.rr_parser.proofs.Making.{fails_bind}

-- what refuses by a place spells nothing
pub refused_spells : (d : ℕ) (ws : List Word) (tokens : List Token) (e : Refusal) (f : Fault) (line column : ℕ) (kind : SyntaxKind) → Fails e (program_of d ws) → IsFaultOf tokens e f → f ≡ fault.Syntax line column kind → (k : ℕ) (t : Main) → WordsSpell k ws t → ⊥
refused_spells d ws tokens (refusal.Storage storage.Memory) f line column kind h g is = let e = sym g ∙ is in absurd cc
refused_spells d ws tokens (refusal.Storage storage.Slots) f line column kind h g is = let e = sym g ∙ is in absurd cc
refused_spells d ws tokens refusal.Nesting f line column kind h g is = let e = sym g ∙ is in absurd cc
refused_spells d ws tokens (refusal.Unexpected n) f line column kind h g is = program_wrong d ws h
refused_spells d ws tokens (refusal.Number n) f line column kind h g is = program_wrong d ws h
refused_spells d ws tokens (refusal.LeftOut n) f line column kind h g is = program_wrong d ws h
refused_spells d ws tokens (refusal.Constant n) f line column kind h g is = program_wrong d ws h

-- what refuses by its nesting spells nothing within the limit
pub deep_spells : (d : ℕ) (ws : List Word) (tokens : List Token) (e : Refusal) (f : Fault) → Fails e (program_of d ws) → IsFaultOf tokens e f → f ≡ fault.Limit limit.Nesting → (t : Main) → WordsSpell d ws t → ⊥
deep_spells d ws tokens (refusal.Storage storage.Memory) f h g is = let e = sym g ∙ is in absurd cc
deep_spells d ws tokens (refusal.Storage storage.Slots) f h g is = let e = sym g ∙ is in absurd cc
deep_spells d ws tokens refusal.Nesting f h g is = λ t s. let lt = program_deep d d ws h t s in let never : ⊥ = omega arith in never
deep_spells d ws tokens (refusal.Unexpected n) f h g is = let e = sym g.2 ∙ is in absurd cc
deep_spells d ws tokens (refusal.Number n) f h g is = let e = sym g.2 ∙ is in absurd cc
deep_spells d ws tokens (refusal.LeftOut n) f h g is = let e = sym g.2 ∙ is in absurd cc
deep_spells d ws tokens (refusal.Constant n) f h g is = let e = sym g.2 ∙ is in absurd cc

-- and more constructs than the limit are begun at some place
pub deep_nests : (d : ℕ) (ws : List Word) (tokens : List Token) (e : Refusal) (f : Fault) → Fails e (program_of d ws) → IsFaultOf tokens e f → f ≡ fault.Limit limit.Nesting → (z : Place) × ProgramFront (outside d) (fronts_outside d) (start ws) z
deep_nests d ws tokens (refusal.Storage storage.Memory) f h g is = let e = sym g ∙ is in absurd cc
deep_nests d ws tokens (refusal.Storage storage.Slots) f h g is = let e = sym g ∙ is in absurd cc
deep_nests d ws tokens refusal.Nesting f h g is = program_nests d ws h
deep_nests d ws tokens (refusal.Unexpected n) f h g is = let e = sym g.2 ∙ is in absurd cc
deep_nests d ws tokens (refusal.Number n) f h g is = let e = sym g.2 ∙ is in absurd cc
deep_nests d ws tokens (refusal.LeftOut n) f h g is = let e = sym g.2 ∙ is in absurd cc
deep_nests d ws tokens (refusal.Constant n) f h g is = let e = sym g.2 ∙ is in absurd cc

no_fault : (f : Fault) (g : Fault) → f ≡ g → IsParseFault g → IsParseFault f
no_fault f g e h = subst (λ (x : Fault). IsParseFault x) (sym e) h

pub parse_fault : (tokens : List Token) (e : Refusal) (f : Fault) → IsFaultOf tokens e f → IsParseFault f
parse_fault tokens (refusal.Storage storage.Memory) f g = no_fault f fault.Memory g tt
parse_fault tokens (refusal.Storage storage.Slots) f g = no_fault f (fault.Limit limit.Slots) g tt
parse_fault tokens refusal.Nesting f g = no_fault f (fault.Limit limit.Nesting) g tt
parse_fault tokens (refusal.Unexpected n) f g = no_fault f (fault.Syntax g.0 g.1 (unexpected_kind (last_tokens n tokens))) g.2 tt
parse_fault tokens (refusal.Number n) f g = no_fault f (fault.Syntax g.0 g.1 syntax.Number) g.2 tt
parse_fault tokens (refusal.LeftOut n) f g = no_fault f (fault.Syntax g.0 g.1 syntax.LeftOut) g.2 tt
parse_fault tokens (refusal.Constant n) f g = no_fault f (fault.Syntax g.0 g.1 syntax.Constant) g.2 tt

-- what the statements of a program fail by
pub fails_program : (d : ℕ) (ws : List Word) (locals : List Local) (e : Refusal) → locals ≡ [] → Fails e (outline_of (readers false d) (record { known = record { locals = locals; level = 0; count = 0; begun = 0; in_loop = false; in_method = false; takes_do = true }; rest = ws })) → Fails e (program_of d ws)
unfolding program_of
fails_program d ws locals e is h =
    fails_bind e (outline_of (readers false d) (start ws)) (λ r. whole_of r.0 r.1.rest)
    (subst (λ (k : List Local). Fails e (outline_of (readers false d) (record { known = record { locals = k; level = 0; count = 0; begun = 0; in_loop = false; in_method = false; takes_do = true }; rest = ws }))) is h)

pub same_fault : {A : Type 0} (f g : Fault) → ◌≡◌ {A = Result A Fault} (Err f) (Err g) → f ≡ g
same_fault f g e = cc
