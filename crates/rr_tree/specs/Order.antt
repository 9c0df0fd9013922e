-- That a table is in order has one proof at most.
use Rattle.std.specs.Prelude.{ℕ, List}
use Rattle.std.proofs.Props.{props}
use Rattle.rr_tree.specs.Tree.{HasPartsBefore, IsOrdered}
use Rattle.rr_tree.specs.declared.node.Node.{Node}
use Rattle.rr_tree.specs.declared.node.Node.TheVariants as node

HasPartsBefore-prop : (i : ℕ) (n : Node) → IsProp (HasPartsBefore i n)
HasPartsBefore-prop i (node.SetConstant x a) = Prim.hlevel props
HasPartsBefore-prop i (node.Assign depth slot x behind a) = Prim.hlevel props
HasPartsBefore-prop i (node.SetField x a) = Prim.hlevel props
HasPartsBefore-prop i (node.SetGlobal x a) = Prim.hlevel props
HasPartsBefore-prop i (node.Array first count) = Prim.hlevel props
HasPartsBefore-prop i (node.Hash first count) = Prim.hlevel props
HasPartsBefore-prop i (node.Pairs first count) = Prim.hlevel props
HasPartsBefore-prop i (node.Interpolation first count) = Prim.hlevel props
HasPartsBefore-prop i (node.And a b) = Prim.hlevel props
HasPartsBefore-prop i (node.Or a b) = Prim.hlevel props
HasPartsBefore-prop i (node.Not a) = Prim.hlevel props
HasPartsBefore-prop i (node.Negate a) = Prim.hlevel props
HasPartsBefore-prop i (node.Binary o a b) = Prim.hlevel props
HasPartsBefore-prop i (node.Append a b) = Prim.hlevel props
HasPartsBefore-prop i (node.Choose a b d) = Prim.hlevel props
HasPartsBefore-prop i (node.Loop until a b) = Prim.hlevel props
HasPartsBefore-prop i (node.Sequence first count) = Prim.hlevel props
HasPartsBefore-prop i (node.Call x first count site) = Prim.hlevel props
HasPartsBefore-prop i (node.Send a x first count site) = Prim.hlevel props
HasPartsBefore-prop i (node.WithBlock a b) = Prim.hlevel props
HasPartsBefore-prop i (node.Block scope parameters size a) = Prim.hlevel props
HasPartsBefore-prop i (node.Super first count) = Prim.hlevel props
HasPartsBefore-prop i (node.Yield first count) = Prim.hlevel props
HasPartsBefore-prop i (node.Break a) = Prim.hlevel props
HasPartsBefore-prop i (node.Next a) = Prim.hlevel props
HasPartsBefore-prop i (node.Return a) = Prim.hlevel props
HasPartsBefore-prop i (node.Rescue a first count b) = Prim.hlevel props
HasPartsBefore-prop i (node.Clause first count a b) = Prim.hlevel props
HasPartsBefore-prop i (node.Ensure a b) = Prim.hlevel props
HasPartsBefore-prop i (node.OperatorAssign o a b) = Prim.hlevel props
HasPartsBefore-prop i (node.AppendAssign a b) = Prim.hlevel props
HasPartsBefore-prop i (node.OrAssign a b) = Prim.hlevel props
HasPartsBefore-prop i (node.AndAssign a b) = Prim.hlevel props
HasPartsBefore-prop i (node.Index a b) = Prim.hlevel props
HasPartsBefore-prop i (node.SetIndex a b d) = Prim.hlevel props
HasPartsBefore-prop i (node.SetAttribute a x b site) = Prim.hlevel props
HasPartsBefore-prop i (node.MultipleAssign first count a) = Prim.hlevel props
HasPartsBefore-prop i (node.Splat a) = Prim.hlevel props
HasPartsBefore-prop i (node.Pair a b) = Prim.hlevel props
HasPartsBefore-prop i (node.Method x scope parameters size a) = Prim.hlevel props
HasPartsBefore-prop i (node.ClassBody x superclass first count) = Prim.hlevel props
HasPartsBefore-prop i (node.Item a) = Prim.hlevel props
HasPartsBefore-prop i _ = Prim.hlevel props

pub IsOrdered-prop : (ns : List Node) → IsProp (IsOrdered ns)
IsOrdered-prop ns = Prim.hlevel (props, HasPartsBefore-prop)
