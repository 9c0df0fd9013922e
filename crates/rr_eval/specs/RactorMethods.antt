-- The methods of Ractor, and those of a ractor.
use Rattle.std.specs.Prelude.{ℕ, nat_eq, Bool, ◌||◌, if◌then◌else◌, List, [], slice_index_or, codes, Option, Some, None}
use Rattle.std.specs.Str.{bytes_eq}
use Rattle.rr_base.specs.declared.name.TheConstants.ClassId.{RACTOR}
use Rattle.rr_space.specs.declared.refer.Ref.{Ref}
use Rattle.rr_space.specs.declared.refer.Ref.TheVariants as refs
use Rattle.rr_eval.specs.declared.call.Callee.{Callee}
use Rattle.rr_eval.specs.declared.call.Callee.TheVariants as callees
use Rattle.rr_eval.specs.declared.ractor_method.RactorMethod.{RactorMethod}
use Rattle.rr_eval.specs.declared.ractor_method.RactorMethod.TheVariants.{IsShareable, MakeShareable, Start, Current, Main, IsMain, WithOthers, Name, Later}
use Rattle.rr_eval.specs.Context.{Context}

-- whether a method of Ractor passes values from ractor to ractor
abbrev pub passes_values : List ℕ → Bool
passes_values name = bytes_eq name (codes "select") || bytes_eq name (codes "receive") || bytes_eq name (codes "recv") || bytes_eq name (codes "receive_if") || bytes_eq name (codes "yield")

abbrev pub other_named : List ℕ → Option RactorMethod
other_named name =
    if bytes_eq name (codes "current") then Some Current else
    if bytes_eq name (codes "main") then Some Main else
    if passes_values name then Some WithOthers else
    if bytes_eq name (codes "main?") then Some IsMain else
    if bytes_eq name (codes "store_if_absent") then Some Later else None

-- the method of Ractor of a name
abbrev pub ractor_named : List ℕ → Option RactorMethod
ractor_named name =
    if bytes_eq name (codes "shareable?") then Some IsShareable else
    if bytes_eq name (codes "make_shareable") then Some MakeShareable else
    if bytes_eq name (codes "new") then Some Start else other_named name

-- the method of Ractor that is called by a name, or by brackets
abbrev pub ractor_called : Context → Callee → Option RactorMethod
ractor_called c (callees.Name x) = ractor_named (slice_index_or c.symbols x.0 [])
ractor_called c callees.Index = Some Later
ractor_called c callees.SetIndex = Some Later
ractor_called c callee = None

-- whether a method of a ractor needs its inbox or its port
abbrev pub needs_channel : List ℕ → Bool
needs_channel name = bytes_eq name (codes "send") || bytes_eq name (codes "take") || bytes_eq name (codes "close_incoming") || bytes_eq name (codes "close_outgoing")

-- the method of a ractor of a name
abbrev pub own_named : List ℕ → Option RactorMethod
own_named name = if needs_channel name then Some WithOthers else if bytes_eq name (codes "name") then Some Name else None

abbrev pub own_called : Context → Callee → Option RactorMethod
own_called c (callees.Name x) = own_named (slice_index_or c.symbols x.0 [])
own_called c callees.Append = Some WithOthers
own_called c callees.Index = Some Later
own_called c callees.SetIndex = Some Later
own_called c callee = None

unfoldable pub ractor_method : Context → Ref → Callee → Option RactorMethod
ractor_method c (refs.Class k) callee = if nat_eq k.0 RACTOR.0 then ractor_called c callee else None
ractor_method c (refs.Ractor r) callee = own_called c callee
ractor_method c v callee = None
