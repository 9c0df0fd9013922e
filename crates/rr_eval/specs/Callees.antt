-- What a script calls: its name, and the built-in method of that name.
use Rattle.std.specs.Prelude.{ℕ, Bool, false, List, [], ◌++◌, codes, Option, Some, None, slice_index_or}
use Rattle.rr_builtin.specs.Kinds.{has}
use Rattle.rr_builtin.specs.Methods.{operator_name, method_named}
use Rattle.rr_builtin.specs.declared.method.BuiltInMethod.{BuiltInMethod}
use Rattle.rr_builtin.specs.declared.method.BuiltInMethod.TheVariants as methods
use Rattle.rr_builtin.specs.declared.method.NumberMethod.TheVariants as number
use Rattle.rr_builtin.specs.declared.method.ContentMethod.TheVariants as content
use Rattle.rr_space.specs.declared.kind.Kind.{Kind}
use Rattle.rr_eval.specs.declared.call.Callee.{Callee}
use Rattle.rr_eval.specs.declared.call.Callee.TheVariants as callees
use Rattle.rr_eval.specs.Context.{Context}

abbrev pub callee_name : Context → Callee → List ℕ
callee_name c (callees.Operator op) = operator_name op
callee_name c callees.Opposite = codes "-@"
callee_name c callees.Index = codes "[]"
callee_name c callees.Append = codes "<<"
callee_name c callees.SetIndex = codes "[]="
callee_name c callees.Initialize = codes "initialize"
callee_name c (callees.Setter x) = slice_index_or c.symbols x.0 [] ++ codes "="
callee_name c (callees.Name x) = slice_index_or c.symbols x.0 []

-- the built-in method, where there is one
abbrev pub method_of : Context → Callee → Option BuiltInMethod
method_of c (callees.Operator op) = Some (methods.Operator op)
method_of c callees.Opposite = Some (methods.Number number.Opposite)
method_of c callees.Index = Some (methods.Content content.At)
method_of c callees.Append = Some (methods.Content content.Append)
method_of c callees.SetIndex = Some (methods.Content content.SetAt)
method_of c callees.Initialize = None
method_of c (callees.Setter x) = None
method_of c (callees.Name x) = method_named (slice_index_or c.symbols x.0 [])

-- whether values of a kind have a built-in method
abbrev pub has_built_in : Kind → Option BuiltInMethod → Bool
has_built_in k None = false
has_built_in k (Some m) = has k m
