-- What is none of those matched before has several parts, or a list.
use Rattle.std.proofs.Common.{◌≡◌, refl}
use Rattle.rr_tree.specs.declared.node.Node.{Node}
use Rattle.rr_tree.specs.declared.node.Node.TheVariants as node
use Rattle.rr_isolation.specs.Numbers.{HasSeveral}
use Rattle.rr_isolation.proofs.parts.PartNumbers.of.Goals as goal

pub returns-in_default : goal.returns-in_default
returns-in_default c =
    let found = c.several.ensures (left c.args.node refl) in
    record {
      trees = λ ns i _. found.trees ns i;
      item = λ a e. absurd (c.in_default.not-Item a e);
      before = found.before;
      list_before = found.list_before;
    }
  where
    left : (n : Node) → c.args.node ≡ n → HasSeveral n
    left (node.SetConstant x a) e = absurd (c.in_default.not-SetConstant x a e)
    left (node.Assign depth slot x behind a) e = absurd (c.in_default.not-Assign depth slot x behind a e)
    left (node.SetField x a) e = absurd (c.in_default.not-SetField x a e)
    left (node.SetGlobal x a) e = absurd (c.in_default.not-SetGlobal x a e)
    left (node.Not a) e = absurd (c.in_default.not-Not a e)
    left (node.Negate a) e = absurd (c.in_default.not-Negate a e)
    left (node.Block scope parameters size a) e = absurd (c.in_default.not-Block scope parameters size a e)
    left (node.Break a) e = absurd (c.in_default.not-Break a e)
    left (node.Next a) e = absurd (c.in_default.not-Next a e)
    left (node.Return a) e = absurd (c.in_default.not-Return a e)
    left (node.Splat a) e = absurd (c.in_default.not-Splat a e)
    left (node.Item a) e = absurd (c.in_default.not-Item a e)
    left node.Nil e = absurd (c.in_default.not-Nil e)
    left (node.Truth b) e = absurd (c.in_default.not-Truth b e)
    left (node.Int z) e = absurd (c.in_default.not-Int z e)
    left (node.Text t) e = absurd (c.in_default.not-Text t e)
    left (node.Symbol s) e = absurd (c.in_default.not-Symbol s e)
    left node.Itself e = absurd (c.in_default.not-Itself e)
    left (node.Class k) e = absurd (c.in_default.not-Class k e)
    left (node.Constant p) e = absurd (c.in_default.not-Constant p e)
    left (node.Local depth slot x behind) e = absurd (c.in_default.not-Local depth slot x behind e)
    left (node.Field x) e = absurd (c.in_default.not-Field x e)
    left (node.Global x) e = absurd (c.in_default.not-Global x e)
    left (node.Bare x site) e = absurd (c.in_default.not-Bare x site e)
    left node.ForwardingSuper e = absurd (c.in_default.not-ForwardingSuper e)
    left (node.Method x scope parameters size a) e = absurd (c.in_default.not-Method x scope parameters size a e)
    left (node.Reader x) e = absurd (c.in_default.not-Reader x e)
    left (node.Writer x) e = absurd (c.in_default.not-Writer x e)
    left (node.ClassBody x k first count) e = absurd (c.in_default.not-ClassBody x k first count e)
    left _ e = tt
