-- What a space tells of a reference.
use Rattle.std.specs.Prelude.{◌≡◌, ℕ, Bool, true, false, List, ◌++◌, map}
use Rattle.rr_space.specs.Graph.{Kind, text, array, hash, plain, exception, shell, Object, Value, Plain, At}
use Rattle.rr_space.specs.Tables.{Table, resolve_triple}
use Rattle.rr_space.specs.Views.{text_at}
use Rattle.rr_space.specs.Kinds.{kind_at, class_at}
use Rattle.rr_space.specs.Labels.{triples_at}
use Rattle.rr_space.specs.declared.refer.Ref.{Ref}
use Rattle.rr_space.specs.declared.kind.Kind.{Kind as ValueKind}
use Rattle.rr_space.specs.declared.kind.Kind.TheVariants.{Nil as NilKind, Truth as TruthKind, Integer as IntegerKind, Symbol as SymbolKind, Class as ClassKind, Ractor as RactorKind, Text as TextKind, Array as ArrayKind, Hash as HashKind, Object as ObjectKind, Exception as ExceptionKind, Shell as ShellKind}
use Rattle.rr_text.specs.Walk.{Walked, Wrote, Differs, Deep, Circular, Shell}
use Rattle.rr_text.specs.Forms.{Names, told_by}
use Rattle.rr_text.specs.declared.raised.Told.{Told}
use Rattle.rr_text.specs.declared.raised.Told.TheVariants.{Text, Name as NameTold, Shell as ShellTold}

-- the kind of an object, by what is told of it
abbrev pub told_kind : ValueKind → Kind
told_kind NilKind = shell
told_kind TruthKind = shell
told_kind IntegerKind = shell
told_kind SymbolKind = shell
told_kind ClassKind = shell
told_kind RactorKind = shell
told_kind TextKind = text
told_kind ArrayKind = array
told_kind HashKind = hash
told_kind ObjectKind = plain
told_kind ExceptionKind = exception
told_kind ShellKind = shell

-- the object that is told, its values resolved
abbrev pub told_object : Table → Ref → Object
told_object t r = record { kind = told_kind (kind_at t r); class = (class_at t r).0; bytes = text_at t r; frozen = false; triples = map (resolve_triple t.slots) (triples_at t r) }

-- what is told of the message of an exception of the class c
abbrev pub told_text : Names → ℕ → Told → Walked
told_text names c (Text bytes) = Wrote bytes.now
told_text names c NameTold = Wrote (names.class c)
told_text names c ShellTold = Shell

abbrev pub told_value : Names → ℕ → Table → Ref → Value → Walked
told_value names c t r (Plain i) = Wrote (names.class c)
told_value names c t r (At n) = told_by names c (told_kind (kind_at t r)) (text_at t r)

-- what stands alone is written, or it is a shell
abbrev pub IsLeafWritten : Walked → Bool → List ℕ → List ℕ → Type 0
IsLeafWritten (Wrote s) now out out' = (now ≡ true) × (out' ≡ out ++ s)
IsLeafWritten Shell now out out' = now ≡ false
IsLeafWritten Differs now out out' = ⊥
IsLeafWritten Deep now out out' = ⊥
IsLeafWritten Circular now out out' = ⊥
