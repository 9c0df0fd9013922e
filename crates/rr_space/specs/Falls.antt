-- A hold inside a cluster reaches fewer clusters than the cluster itself.
use Rattle.std.specs.Prelude.{ℕ, ◌+◌, ◌*◌, ◌≤◌, List, [], ◌∷◌, ◌++◌, length, map}
use Rattle.std.proofs.Common.{arith, length-append}
use denote.Param.Weighed.{most}
use Rattle.rr_base.specs.declared.name.Sym.{Sym}
use Rattle.rr_space.specs.Parts.{below_ref, below_parts, below_all, places_from, pairs_from, field_part, raised_parts, sealed_parts}
use Rattle.rr_space.specs.declared.refer.Raised.{Raised}
use Rattle.rr_space.specs.declared.refer.Ref.{Ref}
use Rattle.rr_space.specs.declared.refer.Ref.TheVariants.{Nil, False, True, Int, Symbol, Class, Ractor, Local, Shared}
use Rattle.rr_space.specs.declared.refer.Sealed.{Sealed}
use Rattle.rr_space.specs.declared.refer.Sealed.TheVariants.{Text, Array, Hash, Object, Exception}
use Rattle.rr_space.specs.declared.refer.Cluster.TheDeep.{deep-Sealed, deep-Ref, deep-Raised}
use Rattle.rr_space.specs.declared.refer.Cluster.TheShapes.{weighed-Sealed-Hash-0-at-2, weighed-Sealed-Object-1-at-2}

pub ref_falls : (r : Ref) → deep-Ref r ≤ 2 * length (below_ref r)
ref_falls Nil = omega arith
ref_falls False = omega arith
ref_falls True = omega arith
ref_falls (Int n) = omega arith
ref_falls (Symbol n) = omega arith
ref_falls (Class n) = omega arith
ref_falls (Ractor n) = omega arith
ref_falls (Local n) = omega arith
ref_falls (Shared p c) = omega arith

pub places_fall : (k : ℕ) (rs : List Ref) → most deep-Ref rs ≤ 2 * length (below_parts (places_from k rs))
places_fall k [] = omega arith
places_fall k (r ∷ rs) = omega (arith, places_fall (k + 1) rs, ref_falls r, length-append (below_ref r) (below_parts (places_from (k + 1) rs)))

pub pairs_fall : (k : ℕ) (ps : List (Ref × Ref)) → most (weighed-Sealed-Hash-0-at-2.weight Ref deep-Ref) ps ≤ 2 * length (below_parts (pairs_from k ps))
pairs_fall k [] = omega arith
pairs_fall k (p ∷ ps) =
    omega (
      arith,
      pairs_fall (k + 1) ps,
      ref_falls p.0,
      ref_falls p.1,
      length-append (below_ref p.0) (below_ref p.1 ++ below_parts (pairs_from (k + 1) ps)),
      length-append (below_ref p.1) (below_parts (pairs_from (k + 1) ps)),
    )

pub fields_fall : (fs : List (Sym × Ref)) → most (weighed-Sealed-Object-1-at-2.weight Ref deep-Ref) fs ≤ 2 * length (below_parts (map field_part fs))
fields_fall [] = omega arith
fields_fall (f ∷ fs) = omega (arith, fields_fall fs, ref_falls f.1, length-append (below_ref f.1) (below_parts (map field_part fs)))

pub raised_falls : (e : Raised) → deep-Raised e ≤ 2 * length (below_parts (raised_parts e))
raised_falls e =
    let rest = below_parts (map field_part e.fields.items) in
    omega (
      arith,
      fields_fall e.fields.items,
      ref_falls e.message,
      ref_falls e.cause,
      ref_falls e.ractor,
      length-append (below_ref e.message) (below_ref e.cause ++ (below_ref e.ractor ++ rest)),
      length-append (below_ref e.cause) (below_ref e.ractor ++ rest),
      length-append (below_ref e.ractor) rest,
    )

pub sealed_falls : (n : Sealed) → deep-Sealed n ≤ 2 * length (below_parts (sealed_parts n))
sealed_falls (Text b) = omega arith
sealed_falls (Array rs) = omega (arith, places_fall 0 rs.items)
sealed_falls (Hash ps) = omega (arith, pairs_fall 0 ps.items)
sealed_falls (Object c fs) = omega (arith, fields_fall fs.items)
sealed_falls (Exception c e) = omega (arith, raised_falls e.value)

pub all_fall : (ns : List Sealed) → most deep-Sealed ns ≤ 2 * length (below_all ns)
all_fall [] = omega arith
all_fall (n ∷ ns) = omega (arith, all_fall ns, sealed_falls n, length-append (below_parts (sealed_parts n)) (below_all ns))
