use Rattle.std.proofs.Common.{◌∙◌, sym, ap}
use Rattle.rr_builtin.specs.Objects.{is_text_kind}
use Rattle.rr_builtin.proofs.Among.{on_if_ok}
use Rattle.rr_builtin.proofs.Keyed.{given_other}
use Rattle.rr_builtin.proofs.hashes.key_given.Goals as goal

pub returns-clause-key : goal.returns-clause-key
returns-clause-key c =
    on_if_ok _ _ c.key.result c.key.ensures.key
    (λ k e. e ∙ given_other c.args.space.now c.args.argument (sym (c.is_text_kind.ensures ∙ ap is_text_kind c.kind_of.ensures) ∙ c.if-is_text_kind.false))
