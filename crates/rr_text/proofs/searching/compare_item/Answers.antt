use Rattle.std.proofs.Common.{◌≡◌, ◌∙◌, ℕ, refl, ap, sym}
use Rattle.rr_base.specs.declared.limits.TheConstants.Limits.{DEFAULT}
use Rattle.rr_space.specs.Graph.{Value}
use Rattle.rr_space.specs.Tables.{resolve}
use Rattle.rr_space.specs.Parts.{value_of}
use Rattle.rr_space.specs.declared.kind.Kind.{Kind}
use Rattle.rr_space.specs.declared.kind.Kind.TheVariants as kind
use Rattle.rr_text.specs.Keys.{Reading, reading}
use Rattle.rr_text.specs.Comparing.{decided, equal_in, item_compared}
use Rattle.rr_text.proofs.Sided.{equal_told}
use Rattle.rr_text.proofs.searching.compare_item.Goals as goal

plain_item : (r : Reading) (levels : ℕ) (k : Kind) (x v : Value) → (k ≡ kind.Array → ⊥) → (k ≡ kind.Hash → ⊥) → (k ≡ kind.Shell → ⊥) → decided (equal_in r.graph x v) ≡ item_compared r levels k x v
plain_item r levels kind.Nil x v array hash shell = refl
plain_item r levels kind.Truth x v array hash shell = refl
plain_item r levels kind.Integer x v array hash shell = refl
plain_item r levels kind.Symbol x v array hash shell = refl
plain_item r levels kind.Class x v array hash shell = refl
plain_item r levels kind.Ractor x v array hash shell = refl
plain_item r levels kind.Text x v array hash shell = refl
plain_item r levels kind.Array x v array hash shell = absurd (array refl)
plain_item r levels kind.Hash x v array hash shell = absurd (hash refl)
plain_item r levels kind.Object x v array hash shell = refl
plain_item r levels kind.Exception x v array hash shell = refl
plain_item r levels kind.Shell x v array hash shell = absurd (shell refl)

pub returns-in_default : goal.returns-in_default
returns-in_default c = record {
  is = λ below read item value.
      let t = c.args.space.now in
      let r = reading t below in
      let x = resolve t.slots (value_of c.args.item) in
      let v = resolve t.slots (value_of c.args.value) in
      c.decided.ensures ∙ ap decided (c.is_equal.ensures ∙ sym (equal_told t below c.len-count.ensures.well.sound read c.args.item c.args.value item value))
      ∙ plain_item r DEFAULT.levels c.kind_of.result x v c.in_default.not-Array c.in_default.not-Hash c.in_default.not-Shell
      ∙ ap (λ k. item_compared r DEFAULT.levels k x v) c.kind_of.ensures;
  fault = tt;
}
